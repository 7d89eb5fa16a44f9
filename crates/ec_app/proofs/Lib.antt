-- a text that spells no frame is refused by the fault of the payload
mod PassLemmas
-- what is shown of a plan
mod PlanLemmas
-- the exit statuses that there are, and how a run ends to which arguments were given
mod RunLemmas
-- arguments that can't be right, and the work of a segment
mod WrongLemmas
-- a scan that is compared with the table in a file
mod ScanLemmas
