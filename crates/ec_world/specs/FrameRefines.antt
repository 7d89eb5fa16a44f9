-- When a cyclic frame refines a plain frame: it has the outputs of its snapshot for every slave to come, the noted inputs of every
-- slave that it passed, and the working counters that those gave.
use Rattle.std.specs.Prelude.{ℕ, ◌+◌, ◌-◌, ◌*◌, ◌^◌, ◌<◌, ◌≤◌, ◌≡◌, ◌≢◌, List, length, get_or, Bool, false, unwrap_or, option_map}
use Rattle.std.specs.Int.{from_bool}
use Rattle.ec_bits.specs.Bits.{bit}
use Rattle.ec_frame.specs.Datagram.{Datagram}
use Rattle.ec_frame.specs.Frame.{Payload, IsFrame}
use Rattle.ec_fmmu.specs.Applied.{LogicalSpan}
use Rattle.ec_fmmu.specs.Areas.{Area}
use Rattle.ec_link.specs.declared.settings.Share.{Share}
use Rattle.ec_link.specs.Shares.{Gave, has_outs, has_ins, nothing_given, whole_share, lrw_count, counters_of}
use Rattle.ec_link.specs.Meaning.{Meaning, share_of, span_of_part, area_at, meaning}
use Rattle.ec_link.specs.Plan.{PlanState, part_at}
use Rattle.ec_cycle.specs.Frames.{cyclic_datagrams}
use Rattle.ec_cycle.specs.Closing.{ReturnedPart}
use Rattle.ec_world.specs.Plain.{PlainFrame, Note, Other, Short, Full}

-- a part of a share, and not the whole
pub record IsShort (h : Share) (g : Gave) : Type 0 where
  pub wrote : from_bool g.wrote ≤ from_bool (has_outs h)
  pub read : from_bool g.read ≤ from_bool (has_ins h)
  pub less : lrw_count g < lrw_count (whole_share h)

-- No slave gives more than its share: all of it if the note is full, less if it is short.
abbrev pub GaveAs : Share → Note → Gave → Type 0
GaveAs h Other g = g ≡ nothing_given
GaveAs h Short g = IsShort h g
GaveAs h (Full v) g = g ≡ whole_share h

-- the linked image bit, false for an output bit without a link
abbrev pub out_bit : Meaning → ℕ → List ℕ → ℕ → Bool
out_bit m s image k = unwrap_or (option_map (bit image) (m.out_source s k)) false

abbrev pub note_at : List Note → ℕ → Note
note_at notes t = get_or notes t Other

-- `sent` holds the outputs of the slaves to come, and `returned` the inputs of those that are passed
pub record DataRefines (m : Meaning) (area : ℕ → Area) (p : LogicalSpan) (f : PlainFrame) (sent returned : List ℕ) (gave : List Gave) : Type 0 where
  pub sent_room : p.bits ≡ 8 * length sent
  pub returned_room : p.bits ≡ 8 * length returned
  pub to_come : (t o : ℕ) → length f.notes ≤ t → t < length m.slaves → (share_of m t).part ≡ f.part → o < (area t).outs → bit sent ((area t).out_at + o - p.from) ≡ out_bit m t f.snapshot o
  pub noted : (t o : ℕ) (v : List ℕ) → t < length f.notes → note_at f.notes t ≡ Full v → o < (area t).ins → bit returned ((area t).in_at + o - p.from) ≡ bit v o
  pub in_part : (t : ℕ) → t < length f.notes → (share_of m t).part ≡ f.part → note_at f.notes t ≢ Other
  pub elsewhere : (t : ℕ) → t < length f.notes → (share_of m t).part ≢ f.part → note_at f.notes t ≡ Other
  pub as_many : length gave ≡ length f.notes
  pub each : (t : ℕ) → t < length f.notes → GaveAs (share_of m t) (note_at f.notes t) (get_or gave t nothing_given)

-- the datagrams are those of a plain frame on its way
pub record DatagramsRefine (plan : PlanState) (f : PlainFrame) (ds : List Datagram) : Type 0 where
  pub al : List ℕ
  pub al_word : length al ≡ 2
  pub sent : List ℕ
  pub returned : List ℕ
  pub gave : List Gave
  pub is : ds ≡ cyclic_datagrams (part_at plan.parts f.part) f.number f.part (length f.notes) al sent returned gave
  -- an LRW sends and returns the same bytes
  pub one_datagram : (part_at plan.parts f.part).split ≡ false → sent ≡ returned
  pub process : DataRefines (meaning plan) (area_at plan) (span_of_part plan f.part) f sent returned gave
  -- it is of a part of the plan, and has a number of 64 bits
  pub part_there : f.part < length plan.parts
  pub number_fits : f.number < 2 ^ 64
  pub not_more : length f.notes ≤ length plan.slaves

-- and so are the bytes
pub record FrameRefines (plan : PlanState) (f : PlainFrame) (bytes : List ℕ) : Type 0 where
  pub payload : Payload
  pub spelled : IsFrame bytes payload
  pub shows : DatagramsRefine plan f payload.datagrams

-- ---- what came back

-- what is kept of a part agrees with its notes
pub record KeptRefines (plan : PlanState) (k : ℕ) (notes : List Note) (q : ReturnedPart) : Type 0 where
  pub all : length notes ≡ length plan.slaves
  pub broadcast : q.broadcast ≡ length plan.slaves
  pub gave : List Gave
  pub counters : q.counters ≡ counters_of (part_at plan.parts k).split gave
  pub as_many : length gave ≡ length notes
  pub each : (t : ℕ) → t < length notes → GaveAs (share_of (meaning plan) t) (note_at notes t) (get_or gave t nothing_given)
  pub in_part : (t : ℕ) → t < length notes → (share_of (meaning plan) t).part ≡ k → note_at notes t ≢ Other
  pub elsewhere : (t : ℕ) → t < length notes → (share_of (meaning plan) t).part ≢ k → note_at notes t ≡ Other
  pub noted : (t o : ℕ) (v : List ℕ) → t < length notes → note_at notes t ≡ Full v → o < (area_at plan t).ins → bit q.bytes ((area_at plan t).in_at + o - 8 * (part_at plan.parts k).address) ≡ bit v o
