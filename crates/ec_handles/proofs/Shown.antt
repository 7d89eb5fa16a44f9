-- The slaves of a table advertised in full, or as it states them: it is refused as the table is.
use Rattle.std.proofs.Common.{◌≡◌, ◌∙◌, ap, sym, subst, refl, Bool, true, false, ℕ, List, Ok, None}
use Rattle.ec_slave.specs.State.{SlaveState}
use Rattle.ec_table.specs.Contents.{Contents, advertised_as}
use Rattle.ec_table.specs.Reading.{table_of}
use Rattle.ec_link.specs.Faults.{Fails, compile_fault}
use Rattle.ec_link.specs.Machine.{Refuses}
use Rattle.ec_link.specs.Errors.{LinkError}
use Rattle.ec_link.specs.declared.machine.MachineError.TheVariants.{Link}
use Rattle.ec_link.proofs.AdvertisedFull.{faces}
use Rattle.ec_bringup.specs.SwitchedOn.{AreSlavesOf}
use Rattle.ec_handles.specs.Opening.{AreOpened}

shown_fault : (full : Bool) (t : Contents) → compile_fault (advertised_as full t) ≡ compile_fault t
shown_fault true t = faces.fault t
shown_fault false t = refl

pub are_refused : (full : Bool) (text : List ℕ) (t u : Contents) (x : LinkError) → table_of text ≡ Ok t → u ≡ advertised_as full t → Fails x (compile_fault u) → Refuses text (Link x)
are_refused full text t u x stated shown fails = (t, stated, subst (Fails x) (ap compile_fault shown ∙ shown_fault full t) fails)

pub are_opened : (full : Bool) (text : List ℕ) (t u : Contents) (slaves : List SlaveState) → table_of text ≡ Ok t → u ≡ advertised_as full t → compile_fault u ≡ None → AreSlavesOf u slaves → AreOpened full text slaves
are_opened full text t u slaves stated shown accepted are =
    (t, (stated, sym (ap compile_fault shown ∙ shown_fault full t) ∙ accepted), subst (λ (x : Contents). AreSlavesOf x slaves) shown are)
