-- What a pointer owns that was a box.
use base.Fml.{Fml}
use denote.RattleType.{RattleType}
use denote.RawPtr.{Ptr}
use Rattle.libc.specs.Heap.{chunk}
use Rattle.std_alloc.specs.Box.Ownership.{box_owns}

-- the value behind a pointer, and the right to free its block, which came from the C library
abbrev pub keeps : (R : RattleType) → Ptr → R.Denot → Fml
keeps R p x = box_owns chunk R p x
