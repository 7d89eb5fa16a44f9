-- A table and its script in one text, with a line `%%` between them (this project's profile).
use Rattle.std.specs.Prelude.{◌≡◌, ◌⊎◌, ℕ, ◌+◌, ◌-◌, ◌<◌, ◌≤◌, ◌==◌, ◌||◌, [], ◌∷◌, length, take, drop, slice_index, nat_eq, if◌then◌else◌, Option, Some, None}
use Rattle.std.specs.List.{starts_with}
use Rattle.std.specs.Str.{bytes_eq}
use Rattle.ec_script.specs.Words.{Text}

-- how many bytes the line has with its end, `\n`, `\r\n` or that of the text, if a text begins with it
unfoldable pub divider_in : Text → Option ℕ
divider_in text =
    if bytes_eq text (37 ∷ 37 ∷ []) then Some 2 else
    (if starts_with nat_eq text (37 ∷ 37 ∷ 10 ∷ []) then Some 3 else
    (if starts_with nat_eq text (37 ∷ 37 ∷ 13 ∷ 10 ∷ []) then Some 4 else None))

-- as `divider_in`, at a place of a text at which a line begins
unfoldable pub divider_at : Text → ℕ → Option ℕ
divider_at text place = if place == 0 || slice_index text (place - 1) == 10 then divider_in (drop place text) else None

-- the first line `%%` stands at a place, before it the table and behind it the script
pub record AreApart (text table script : Text) : Type 0 where
  pub place : ℕ
  pub count : ℕ
  pub here : divider_at text place ≡ Some count
  pub first : (k : ℕ) → k < place → divider_at text k ≡ None
  pub before : table ≡ take place text
  pub behind : script ≡ drop (place + count) text

-- there is none, and no script
pub record IsAlone (text table script : Text) : Type 0 where
  pub nowhere : (k : ℕ) → k < length text → divider_at text k ≡ None
  pub whole : table ≡ text
  pub empty : script ≡ []

abbrev pub Splits : Text → Text → Text → Type 0
Splits text table script = AreApart text table script ⊎ IsAlone text table script

-- for private code alone: such a line has bytes, and begins and ends with ASCII
pub record Begins (text : Text) (n : ℕ) : Type 0 where
  pub within : n ≤ length text
  pub some : 0 < n
  pub first : slice_index text 0 ≡ 37
  pub last : slice_index text (n - 1) < 128
