-- What the first bytes of an input say of all of it.
use Rattle.std.proofs.Common.{◌≡◌, ◌≢◌, ◌∙◌, ◌||◌, Bool, true, false, inl, inr, ℕ, zero, suc, ◌<◌, ◌≤◌, ◌^◌, List, [], ◌∷◌, length, take, Option, None, Some, refl, sym, ap, subst, arith, Result, Ok, Err, IfOk, IfErr, IfSome, String, Global, string_bytes}
use Rattle.std.proofs.lemmas.Bool.{cases_lt}
use Rattle.std.proofs.lemmas.List.{take_all}
use Rattle.std.specs.Str.{IsUtf8}
use denote.Enum.Bare.{sameb}
use Rattle.std.specs.contracts.io.ErrorKind.{the_type}
use Rattle.std.specs.declared.io.ErrorKind.{ErrorKind}
use Rattle.std.specs.declared.io.ErrorKind.TheVariants.{Interrupted, OutOfMemory}
use Rattle.ec_lines.specs.Inputs.{is_refusal}
use Rattle.ec_console.specs.declared.refusal.Refusal.{Refusal}
use Rattle.ec_console.specs.declared.refusal.Refusal.TheVariants as refusal
use Rattle.ec_console.specs.declared.refusal.Refusal.TheVariants.{Memory, Input}
use Rattle.ec_console.specs.Given.{Given, GivesText, IsInputRefusal, IsNoInput, IsReadRefusal, IsUnread}

take_short : (n : ℕ) (xs : List ℕ) → length (take n xs) < n → take n xs ≡ xs
take_short zero xs lt = absurd (omega (arith, lt))
take_short (suc n) [] lt = refl
take_short (suc n) (x ∷ xs) lt = ap (λ rest. x ∷ rest) (take_short n xs (omega (arith, lt)))

take_within : (n : ℕ) (xs : List ℕ) → length (take n xs) ≤ length xs
take_within zero xs = omega arith
take_within (suc n) [] = omega arith
take_within (suc n) (x ∷ xs) = let rest = take_within n xs in omega (arith, rest)

-- fewer than were asked for are all
all_given : (known : Option (List ℕ)) (n : ℕ) (bytes text : List ℕ) → IfSome known (λ all. bytes ≡ take n all) → text ≡ bytes → length text < n
    → IfSome known (λ all. text ≡ all)
all_given None n bytes text h same short = tt
all_given (Some all) n bytes text h same short =
    let whole : text ≡ take n all = same ∙ h in
    whole ∙ take_short n all (subst (λ t. length t < n) whole short)

-- and where they are no input, neither are all
no_input : (all bytes : List ℕ) → bytes ≡ take 1048577 all → IsNoInput bytes → IsNoInput all
no_input all bytes is (inl long) =
    let cut : 2 ^ 20 < length (take 1048577 all) = subst (λ b. 2 ^ 20 < length b) is long in
    inl (omega (arith, cut, take_within 1048577 all))
no_input all bytes is (inr no_text) = elim (cases_lt (length all) 1048577) [
  | inl few ↦ let all_of : bytes ≡ all = is ∙ take_all 1048577 all (omega (arith, few)) in inr (subst (λ b. IsUtf8 b → ⊥) all_of no_text)
  | inr many ↦ inl (omega (arith, many))
]

none_given : (known : Option (List ℕ)) (bytes : List ℕ) → IfSome known (λ all. bytes ≡ take 1048577 all) → IsNoInput bytes → IfSome known IsNoInput
none_given None bytes h none = tt
none_given (Some all) bytes h none = no_input all bytes h none

input_refused : (given : Given) (bytes : List ℕ) (refusal : Refusal) → IfSome given.bytes (λ all. bytes ≡ take 1048577 all) → refusal ≡ Input → IsNoInput bytes
    → IsInputRefusal given refusal
input_refused given bytes refusal h is none = subst (IsInputRefusal given) (sym is) (inr (none_given given.bytes bytes h none))

-- what is made of the first bytes of an input is made of all of it
pub text_given : (r : Result (String Global) Refusal) (given : Given) (bytes : List ℕ) → IfSome given.bytes (λ all. bytes ≡ take 1048577 all)
    → IfOk r (λ t. string_bytes t ≡ bytes) → IfOk r (λ t. length (string_bytes t) ≤ 2 ^ 20) → IfOk r (λ t. GivesText given (string_bytes t))
text_given (Ok t) given bytes h same short = all_given given.bytes 1048577 bytes (string_bytes t) h same (omega (arith, short))
text_given (Err e) given bytes h same short = tt

pub text_refused : (r : Result (String Global) Refusal) (given : Given) (bytes : List ℕ) → IfSome given.bytes (λ all. bytes ≡ take 1048577 all)
    → IfErr r (λ e. (e ≡ Input) × IsNoInput bytes) → IfErr r (IsInputRefusal given)
text_refused (Ok t) given bytes h none = tt
text_refused (Err e) given bytes h none = input_refused given bytes e h none.0 none.1

-- a refusal of an input, whatever is known of that
pub refused_unread : (given : Given) (refusal : Refusal) → IsInputRefusal given refusal → IsUnread refusal
refused_unread given Memory fault = inr refl
refused_unread given Input fault = inl refl
refused_unread given (refusal.Frame e) fault = absurd fault
refused_unread given (refusal.Table e) fault = absurd fault
refused_unread given (refusal.Link e) fault = absurd fault
refused_unread given (refusal.Start e) fault = absurd fault
refused_unread given (refusal.Run e) fault = absurd fault
refused_unread given (refusal.Socket trouble) fault = absurd fault
refused_unread given (refusal.Script e) fault = absurd fault
refused_unread given refusal.BadHex fault = absurd fault
refused_unread given refusal.Output fault = absurd fault
refused_unread given (refusal.Unmet n) fault = absurd fault
refused_unread given (refusal.Unsaid n) fault = absurd fault

-- a read that is refused refuses the input
pub read_refused : (given : Given) (refusal : Refusal) → IsReadRefusal given.is_refused refusal → IsInputRefusal given refusal
read_refused given Memory fault = tt
read_refused given Input fault = inl fault
read_refused given (refusal.Frame e) fault = absurd fault
read_refused given (refusal.Table e) fault = absurd fault
read_refused given (refusal.Link e) fault = absurd fault
read_refused given (refusal.Start e) fault = absurd fault
read_refused given (refusal.Run e) fault = absurd fault
read_refused given (refusal.Socket trouble) fault = absurd fault
read_refused given (refusal.Script e) fault = absurd fault
read_refused given refusal.BadHex fault = absurd fault
read_refused given refusal.Output fault = absurd fault
read_refused given (refusal.Unmet n) fault = absurd fault
read_refused given (refusal.Unsaid n) fault = absurd fault

-- and it is one where it gave an error that is neither an interruption nor a want of memory
pub refused_read : (before now : Bool) (kind : ErrorKind) → now ≡ before || is_refusal kind → kind ≢ Interrupted → false ≡ sameb the_type kind OutOfMemory → now ≡ true
refused_read before now Interrupted is other none = absurd (other refl)
refused_read before now OutOfMemory is other none = let bad : false ≡ true = none in cc
refused_read true now _ is other none = is
refused_read false now _ is other none = is
