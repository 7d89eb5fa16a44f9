-- To be believed by reading: the texts of plans, of their variables as a header, of cycles, start-ups and input variables, and
-- of refusals.
pub mod PlanText
pub mod HeaderText
pub mod ReportText
pub mod InputText
pub mod RefusalText
