-- What the headline leans on: a run has one outcome, a cycle is begun once, a frame passes a slave once, frames keep their order, and
-- a slave's flag means trouble.
use Rattle.std.specs.Prelude.{ℕ, ◌<◌, ◌≡◌, List, length, true}
use Rattle.ec_device.specs.declared.slave_type.Identity.{Identity}
use Rattle.ec_table.specs.Contents.{Contents}
use Rattle.ec_bringup.specs.Starting.{trouble_at}
use Rattle.ec_world.specs.declared.event.Event.{Event}
use Rattle.ec_world.specs.Plain.{is_older}
use Rattle.ec_world.specs.World.{WorldState, is_up}
use Rattle.ec_world.specs.Laws.{IsRun}
use Rattle.ec_world.specs.Whole.{IsNew, no_trouble, flags_of}
use Rattle.ec_world.specs.Headline.{IsBegun, HasPassed, HadTrouble}

-- The same events lead a new world to the same world, and as many of them are made.
abbrev pub OneOutcomeLaw : Type 0
OneOutcomeLaw =
    (t : Contents) (identities : List Identity) (old : WorldState) → IsNew t identities old → (events : List Event)
    → (w v : WorldState) (made count : ℕ) → IsRun old events w made → IsRun old events v count → (w ≡ v) × (made ≡ count)

-- A cycle is begun once: two events that began the cycle with this number are one event of the list.
abbrev pub BegunOnceLaw : Type 0
BegunOnceLaw =
    (t : Contents) (identities : List Identity) (old : WorldState) → IsNew t identities old → (events : List Event) (w : WorldState) (number : ℕ)
    → (x y : IsBegun old events w number) → x.event.before ≡ y.event.before

-- A frame passes a slave once: two events by which the frame of this cycle and part passed the slave are one event of the list.
abbrev pub PassedOnceLaw : Type 0
PassedOnceLaw =
    (t : Contents) (identities : List Identity) (old : WorldState) (events : List Event) (w : WorldState) (made : ℕ) → IsNew t identities old → IsRun old events w made → is_up w.start ≡ true
    → (more : List Event) (v : WorldState) (number part s : ℕ) (x y : HasPassed w more v number part s) → x.event.before ≡ y.event.before

-- If two frames passed one slave, the older one passed it in the earlier event.
abbrev pub OrderLaw : Type 0
OrderLaw =
    (t : Contents) (identities : List Identity) (old : WorldState) (events : List Event) (w : WorldState) (made : ℕ) → IsNew t identities old → IsRun old events w made → is_up w.start ≡ true
    → (more : List Event) (v : WorldState) (count : ℕ) → IsRun w more v count
    → (number part other k s : ℕ) (x : HasPassed w more v number part s) (y : HasPassed w more v other k s)
    → is_older (record { number = number; part = part; passed = 0 }) (record { number = other; part = k; passed = 0 }) ≡ true
    → length x.event.before < length y.event.before

-- A slave whose flag is set at the end of a run of a new world had a fault or was reset since the last start-up began.
abbrev pub TroubleLaw : Type 0
TroubleLaw =
    (t : Contents) (identities : List Identity) (old : WorldState) (events : List Event) (w : WorldState) (made : ℕ) → IsNew t identities old → (run : IsRun old events w made)
    → (s : ℕ) → trouble_at (flags_of old events w made run (no_trouble old)) s ≡ true → HadTrouble old events w s
