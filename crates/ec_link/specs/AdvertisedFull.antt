-- A table advertised in full changes nothing in its plan except that each slave's kind has the face that the table gives it.
use Rattle.std.specs.Prelude.{◌≡◌, ℕ, option_and_then}
use Rattle.ec_table.specs.Contents.{Contents, advertised_full}
use Rattle.ec_table.specs.Objects.{type_of, face_shown}
use Rattle.ec_link.specs.declared.settings.SlavePlan.{SlavePlan}
use Rattle.ec_link.specs.Sizes.{each_from}
use Rattle.ec_link.specs.Faults.{compile_fault}
use Rattle.ec_link.specs.Plan.{PlanState, plan_of}

-- the settings of slave s, whose kind has the face that the table gives it
abbrev pub with_face : Contents → ℕ → SlavePlan → SlavePlan
with_face t s x = record x { kind = record x.kind { face = option_and_then (face_shown t s) (type_of t s) } }

-- a plan whose slaves have the faces that the table gives them
abbrev pub with_faces : Contents → PlanState → PlanState
with_faces t p = record p { slaves = each_from (with_face t) 0 p.slaves }

-- A table advertised in full has the table's fault, if any, and the table's plan with faces.
pub record AdvertisedFullGivesFaces : Type 0 where
  pub fault : (t : Contents) → compile_fault (advertised_full t) ≡ compile_fault t
  pub plan : (t : Contents) → plan_of (advertised_full t) ≡ with_faces t (plan_of t)
