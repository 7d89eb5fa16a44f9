-- Link runs as spans of one line of numbers: 2^17 for the output bits of each slave, and as many for each variable. A map leads
-- from the beginning of each span to its end. These are helpers of private code.
use Rattle.std.specs.Prelude.{ℕ, ◌+◌, ◌*◌, ◌^◌, ◌<◌, ◌≤◌, ◌≡◌, if◌then◌else◌, List, get_or, Some}
use Rattle.std.specs.BTreeMap.{BTreeMap, get}
use Rattle.std.specs.Ordering.{nat_cmp}
use Rattle.ec_link.specs.declared.link_runs.LinkRun.{LinkRun}
use Rattle.ec_link.specs.LinkRuns.{is_out}

abbrev pub span_from : LinkRun → ℕ
span_from w = if is_out w.direction then 2 ^ 18 * w.slave + w.object_bit else 2 ^ 18 * w.variable + (2 ^ 17 + w.variable_bit)

-- none is empty, and no two share a number
pub record AreApart (ends : BTreeMap ℕ ℕ) : Type 0 where
  pub some : (a b : ℕ) → get nat_cmp ends a ≡ Some b → a < b
  pub apart : (a b c d : ℕ) → get nat_cmp ends a ≡ Some b → get nat_cmp ends c ≡ Some d → a < c → b ≤ c

-- one of them shares a number with those from `from` to before `end`
pub record IsMet (ends : BTreeMap ℕ ℕ) (from end : ℕ) : Type 0 where
  pub a : ℕ
  pub b : ℕ
  pub there : get nat_cmp ends a ≡ Some b
  pub before : a < end
  pub past : from < b

-- the span from a to before b is one of the first n link runs'
pub record IsSpanOf (ws : List LinkRun) (n a b : ℕ) : Type 0 where
  pub k : ℕ
  pub below : k < n
  pub from : (d : LinkRun) → a ≡ span_from (get_or ws k d)
  pub end : (d : LinkRun) → b ≡ a + (get_or ws k d).count
