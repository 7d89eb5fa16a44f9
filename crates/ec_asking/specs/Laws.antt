-- What a question does to slaves, and what its answer says of them.
use Rattle.std.specs.Prelude.{ℕ, ◌+◌, ◌*◌, ◌<◌, ◌≡◌, ◌≢◌, List, Some, None, slice_get}
use Rattle.ec_slave.specs.State.{SlaveState, station_of}
use Rattle.ec_slave.specs.Physical.{byte_at}
use Rattle.ec_start.specs.Actions.{station}
use Rattle.ec_ring.specs.Rings.{passes_ring}
use Rattle.ec_asking.specs.declared.question.Question.TheVariants.{Status}
use Rattle.ec_asking.specs.Questions.{question_frame, told_in}

-- The frame that reads an AL status leaves all slaves as they are.
abbrev pub StatusIsOnlyRead : Type 0
StatusIsOnlyRead = (ss : List SlaveState) (slave count : ℕ) → slave < 64 → (passes_ring ss (question_frame (Status slave) count)).slaves ≡ ss

-- the word of two registers of a slave
abbrev pub register_word : SlaveState → ℕ → ℕ
register_word s a = byte_at s a + 256 * byte_at s (a + 1)

-- Past all slaves it answers the question. It says the AL status and the code of slave k, if k alone has the station address.
abbrev pub StatusIsTheSlaves : Type 0
StatusIsTheSlaves =
    (ss : List SlaveState) (slave count k : ℕ) (s : SlaveState) → slave < 64 → slice_get ss k ≡ Some s → station_of s ≡ station slave
    → ((j : ℕ) (t : SlaveState) → slice_get ss j ≡ Some t → j ≢ k → station slave ≢ station_of t)
    → told_in (passes_ring ss (question_frame (Status slave) count)).datagrams ≡ Some (record { word = register_word s 0x0130; code = register_word s 0x0134 })

-- It says nothing if no slave has the station address.
abbrev pub NobodyIsNothing : Type 0
NobodyIsNothing =
    (ss : List SlaveState) (slave count : ℕ) → slave < 64 → ((j : ℕ) (t : SlaveState) → slice_get ss j ≡ Some t → station slave ≢ station_of t)
    → told_in (passes_ring ss (question_frame (Status slave) count)).datagrams ≡ None
