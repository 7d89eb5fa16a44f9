-- What a buffered sync manager holds (ETG.1000.4, "Sync manager", buffered mode). The standard's three buffers are seen
-- as what they are for: the last value that was published whole, a writer's draft, and a reader's view. That the
-- application goes byte by byte, from byte 0 to the last, is the profile of the simulated slaves.
use Rattle.std.specs.Prelude.{ℕ, ◌+◌, ◌==◌, List, length, if◌then◌else◌, nat_lt, slice_index, slice_set, Option, Some, None}
use Rattle.ec_bits.specs.Bits.{zeros}

pub record Buffer : Type 0 where
  pub published : List ℕ
  pub draft : Option (List ℕ)
  pub view : Option (List ℕ)

-- all zeros, no draft, no view
abbrev pub emptied_buffer : ℕ → Buffer
emptied_buffer n = record { published = zeros n; draft = None; view = None }

-- a whole value is published; an open draft and an open view stay
abbrev pub publishing : Buffer → List ℕ → Buffer
publishing b value = record b { published = value }

-- the draft d, of which byte i was written: the last byte closes it and publishes it
abbrev pub drafted : Buffer → ℕ → List ℕ → Buffer
drafted b i d =
    if i + 1 == length b.published
    then record b { published = d; draft = None }
    else record b { draft = Some d }

-- byte i of an open draft gets x; without one there is nothing
abbrev pub draft_next : Buffer → ℕ → ℕ → Option (List ℕ) → Option Buffer
draft_next b i x None = None
draft_next b i x (Some d) = Some (drafted b i (slice_set d i x))

-- The application writes byte i: byte 0 opens a draft of zeros, and drops an older one. None if it is denied.
unfoldable pub app_written : Buffer → ℕ → ℕ → Option Buffer
app_written b i x =
    if nat_lt i (length b.published)
    then draft_next b i x (if i == 0 then Some (zeros (length b.published)) else b.draft)
    else None

-- a byte that the application reads, and the buffer after it
pub record Got : Type 0 where
  pub byte : ℕ
  pub buffer : Buffer

-- byte i of an open view, which its last byte closes; without one there is nothing
abbrev pub view_next : Buffer → ℕ → Option (List ℕ) → Option Got
view_next b i None = None
view_next b i (Some v) = Some (record {
  byte = slice_index v i;
  buffer = record b { view = if i + 1 == length b.published then None else Some v };
})

-- The application reads byte i: byte 0 opens a view of the published value. None if it is denied.
unfoldable pub app_read : Buffer → ℕ → Option Got
app_read b i =
    if nat_lt i (length b.published)
    then view_next b i (if i == 0 then Some b.published else b.view)
    else None

-- the buffer after it
abbrev pub after_read : Buffer → Option Got → Buffer
after_read b None = b
after_read b (Some got) = got.buffer
