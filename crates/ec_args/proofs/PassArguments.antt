-- What `clap` makes of the arguments of `ecat pass`, spelled out.
use Rattle.std.proofs.Common.{◌≡◌, ◌≢◌, ℕ, ◌<◌, ◌≤◌, ◌==◌, ◌&&◌, zero, suc, Bool, not, is_some, [], ◌∷◌, Option, Some, None, true, false, codes, pos, refl, ap, inl, inr, arith, slice_index, eqb-true, ne_eqb}
use Rattle.std.proofs.lemmas.Bool.{cases_lt, not-true}
use Rattle.std.specs.Fmt.{decimal}
use Rattle.std.specs.Str.Parse.{digits_value, without_leading_plus}
use Rattle.clap.specs.Matches.{count_text}
use Rattle.clap.proofs.CountText.{decimal-count_text}
use Rattle.clap.proofs.ValueTestLemmas.{accepts-Accepts}
use Rattle.clap.specs.Values.{IsUnsignedIn}
use Rattle.std.specs.Char.{encode_utf8}
use Rattle.std.specs.Str.{chars, bytes_eq}
use Rattle.clap.specs.Lexer.{strip_byte, without_minus}
use Rattle.clap.specs.Faults.{defaults_fault, fault_of, flags_fault, is_simple_and_free, level_fault, turn_fault, walk_fault}
use Rattle.clap.proofs.OnLiterals.{clap_on_literals}
use Rattle.clap.specs.Walk.{Text, Row, Walk, idle, option, bundle_met, walked, walk, walk_from, nothing_held, rows_after}
use Rattle.clap.specs.Simple.{Shape, built_leaf, is_simple, subcommand_of}
use Rattle.clap.specs.ValueTests.{accepts}
use Rattle.clap.specs.declared.builder.value_parser.ValueParser.TheVariants.{Signed, Unsigned}
use Rattle.clap.specs.declared.builder.value_parser.Reading.TheVariants.{AsWritten, WithoutMinus}
use Rattle.clap.specs.declared.parser.matches.ValueSource.TheVariants.{CommandLine}
use Rattle.ec_args.specs.CommandLine.{ecat, pass_shape}

-- `pass` as clap builds it
abbrev pub pass_built : Shape
pass_built = built_leaf pass_shape

-- an argument that is no flag
pub record IsValue (word : Text) : Type 0 where
  pub plain : strip_byte 45 word ≡ None
  pub other : bytes_eq word (45 ∷ 45 ∷ []) ≡ false

abbrev pub slaves_row : Text → Row
slaves_row d = record { id = codes "slaves"; values = d ∷ []; count = None; source = Some CommandLine; reading = WithoutMinus }

abbrev pub frame_row : Text → Row
frame_row f = record { id = codes "frame"; values = f ∷ []; count = None; source = Some CommandLine; reading = AsWritten }

-- the walk after each argument of `pass`
abbrev pub after_flag : Walk
after_flag = record { held = record { rows = []; pending = Some (codes "slaves", []); skip = 0 }; waiting = option (codes "slaves"); position = 1; is_trailing = false; stopped = None }

abbrev pub after_number : Text → Walk
after_number d = record { held = record { rows = []; pending = Some (codes "slaves", d ∷ []); skip = 0 }; waiting = idle; position = 1; is_trailing = false; stopped = None }

abbrev pub after_frame : Text → Text → Walk
after_frame d f = record { held = record { rows = slaves_row d ∷ []; pending = Some (codes "frame", f ∷ []); skip = 0 }; waiting = idle; position = 2; is_trailing = false; stopped = None }

pub flag-argument : walked pass_built.rules [] (walk_from nothing_held) (codes "--slaves") ≡ after_flag
unfolding walked bundle_met chars encode_utf8
flag-argument = refl

pub number-step : (d : Text) → IsValue d → walked pass_built.rules [] after_flag d ≡ after_number d
unfolding walked bundle_met chars encode_utf8
number-step d is = rw (is.other, is.plain, is.plain) refl

pub frame-step : (d f : Text) → IsValue f → walked pass_built.rules [] (after_number d) f ≡ after_frame d f
unfolding walked bundle_met chars encode_utf8
frame-step d f is = rw (is.other, is.plain, is.plain) refl

pub walk-pass : (d f : Text) → IsValue d → IsValue f → walk pass_built.rules [] nothing_held (codes "--slaves" ∷ d ∷ f ∷ []) ≡ after_frame d f
walk-pass d f is_d is_f = rw (flag-argument, number-step d is_d, frame-step d f is_f) refl

pub rows-pass : (d f : Text) → IsValue d → IsValue f → rows_after pass_built.rules [] (codes "--slaves" ∷ d ∷ f ∷ []) ≡ slaves_row d ∷ frame_row f ∷ []
rows-pass d f is_d is_f = rw (walk-pass d f is_d is_f) refl

pub subcommand-pass : (name d f : Text) → IsValue d → IsValue f
    → subcommand_of ecat (name ∷ codes "pass" ∷ codes "--slaves" ∷ d ∷ f ∷ []) ≡ Some (codes "pass", slaves_row d ∷ frame_row f ∷ [])
unfolding walked bundle_met chars encode_utf8
subcommand-pass name d f is_d is_f = ap (λ rows. Some (codes "pass", rows)) (rows-pass d f is_d is_f)

-- `clap` finds no fault in them
pub flag-turn : turn_fault pass_built [] (walk_from nothing_held) (codes "--slaves") ≡ []
unfolding walked bundle_met chars encode_utf8 flags_fault
flag-turn = refl

pub number-turn : (d : Text) → IsValue d → turn_fault pass_built [] after_flag d ≡ []
unfolding walked bundle_met chars encode_utf8 flags_fault
number-turn d is = rw (is.other, is.plain, is.plain) refl

pub frame-turn : (d f : Text) → accepts false (Signed (pos 0) (pos 64)) d ≡ true → IsValue f → turn_fault pass_built [] (after_number d) f ≡ []
unfolding walked bundle_met chars encode_utf8 flags_fault
frame-turn d f few is = rw (is.other, is.plain, is.plain, few) refl

pub walk-fault : (d f : Text) → IsValue d → accepts false (Signed (pos 0) (pos 64)) d ≡ true → IsValue f
    → walk_fault pass_built [] (walk_from nothing_held) (codes "--slaves" ∷ d ∷ f ∷ []) ≡ []
unfolding walk_fault
walk-fault d f is_d few is_f = rw (flag-turn, flag-argument, number-turn d is_d, number-step d is_d, frame-turn d f few is_f) refl

pub level-fault : (d f : Text) → IsValue d → accepts false (Signed (pos 0) (pos 64)) d ≡ true → IsValue f
    → level_fault pass_built [] nothing_held (codes "--slaves" ∷ d ∷ f ∷ []) false [] ≡ []
unfolding defaults_fault
level-fault d f is_d few is_f = rw (walk-fault d f is_d few is_f, walk-pass d f is_d is_f) refl

pub no-fault : (name d f : Text) → IsValue d → accepts false (Signed (pos 0) (pos 64)) d ≡ true → IsValue f
    → fault_of ecat (name ∷ codes "pass" ∷ codes "--slaves" ∷ d ∷ f ∷ []) ≡ []
unfolding walked bundle_met chars encode_utf8 flags_fault walk_fault defaults_fault
no-fault name d f is_d few is_f = rw (level-fault d f is_d few is_f) refl

-- what `clap` says of errors, it says of this command line
pub ecat-simple : is_simple_and_free ecat ≡ true
unfolding clap_on_literals
ecat-simple = refl

pub ecat-is_simple : is_simple ecat ≡ true
unfolding clap_on_literals
ecat-is_simple = refl

-- a number from 0 to 64 in decimal, as the command line has it
pub record IsNumberArgument (n : ℕ) (word : Text) : Type 0 where
  pub value : IsValue word
  pub few : accepts false (Signed (pos 0) (pos 64)) word ≡ true
  pub numeral : IsUnsignedIn 0 64 (without_minus word)
  pub reads : digits_value 10 (without_leading_plus (without_minus word)) ≡ n

abbrev pub is_number_argument : ℕ → Text → Bool
is_number_argument n word = not (is_some (strip_byte 45 word)) && (not (bytes_eq word (45 ∷ 45 ∷ [])) && (accepts false (Signed (pos 0) (pos 64)) word
    && (accepts false (Unsigned 0 64) (without_minus word) && digits_value 10 (without_leading_plus (without_minus word)) == n)))

abbrev pub all_below : (ℕ → Bool) → ℕ → Bool
all_below p zero = true
all_below p (suc k) = p k && all_below p k

both : (a b : Bool) → (a && b) ≡ true → (a ≡ true) × (b ≡ true)
both true b h = (refl, h)
both false b h = cc

none_found : {X : Type 0} (o : Option X) → not (is_some o) ≡ true → o ≡ None
none_found None h = refl
none_found (Some x) h = cc

below_passes : (p : ℕ → Bool) (k n : ℕ) → all_below p k ≡ true → n < k → p n ≡ true
below_passes p zero n h lt = absurd (omega arith)
below_passes p (suc k) n h lt = elim (cases_lt n k) [
  | inl under ↦ below_passes p k n (both _ _ h).1 under
  | inr over ↦ let same : n ≡ k = omega arith in rw same (both _ _ h).0
]

numbers_pass : all_below (λ n. is_number_argument n (count_text n)) 65 ≡ true
unfolding chars
numbers_pass = refl

number_argument_facts : (n : ℕ) (word : Text) → is_number_argument n word ≡ true → IsNumberArgument n word
number_argument_facts n word h =
    let one = both _ _ h in
    let two = both _ _ one.1 in
    let three = both _ _ two.1 in
    let four = both _ _ three.1 in
    record {
      value = record { plain = none_found _ one.0; other = not-true _ two.0 };
      few = three.0;
      numeral = accepts-Accepts false (Unsigned 0 64) (without_minus word) four.0;
      reads = eqb-true _ _ four.1;
    }

pub number_argument : (n : ℕ) → n ≤ 64 → IsNumberArgument n (decimal n)
number_argument n few =
    let lt : n < 65 = omega arith in
    let small : n < 1000 = omega arith in
    rw (decimal-count_text n small) (number_argument_facts n (count_text n) (below_passes (λ n. is_number_argument n (count_text n)) 65 n numbers_pass lt))

-- an argument that begins with no hyphen
pub value_argument : (word : Text) → slice_index word 0 ≢ 45 → IsValue word
value_argument [] h = record { plain = refl; other = refl }
value_argument (x ∷ xs) h =
    let no : (x == 45) ≡ false = ne_eqb x 45 h in
    record { plain = rw no refl; other = rw no refl }
