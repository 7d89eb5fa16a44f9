-- Where no FMMU that writes meets one that reads, what is read is not written.
use Rattle.std.proofs.Common.{ℕ, ◌<◌, ◌≡◌, List, length, [], get_or, true, inl, inr}
use Rattle.ec_regs.specs.declared.fmmu.FmmuSettings.{FmmuSettings}
use Rattle.ec_regs.specs.Fmmus.{no_fmmu}
use Rattle.ec_fmmu.specs.Alone.{IsUnwritten}
use Rattle.ec_fmmu.specs.Apart.{AreApart}
use Rattle.ec_fmmu.specs.Sets.{source, writers}
use Rattle.ec_fmmu.proofs.PairLaws.{none_or_some, pair_reaches_physical}
use Rattle.ec_fmmu.proofs.RangeLaws.{reading_pair}
use Rattle.ec_fmmu.proofs.AloneWriting.{writing_pair}

pub unwritten_apart : (fs : List FmmuSettings) → ((j : ℕ) → j < length fs → (get_or fs j no_fmmu).reads ≡ true → IsUnwritten fs (get_or fs j no_fmmu)) → AreApart fs
unwritten_apart fs h l q t = elim (none_or_some (source (writers fs) q)) [
  | inl z ↦ z
  | inr s ↦
      let r = reading_pair fs l q t in
      let w = writing_pair [] fs s.0 q s.1 in
      absurd (h r.0 r.1 r.2 w.0 w.1 w.2 q (pair_reaches_physical (get_or fs w.0 no_fmmu) s.0 q w.3) (pair_reaches_physical (get_or fs r.0 no_fmmu) l q r.3))
]
