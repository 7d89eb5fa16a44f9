-- How single actions of lines are written (this project's profile). A word of a form in capitals stands for what it names, and any
-- other for itself.
use Rattle.std.specs.Prelude.{◌==◌, ◌&&◌, ◌||◌, List, [], ◌∷◌, length, Bool, true, false, if◌then◌else◌, Option, option_map, codes}
use Rattle.std.specs.Char.{is_ascii_uppercase}
use Rattle.std.specs.List.{find, list_all, zip}
use Rattle.std.specs.Str.{bytes_eq}
use Rattle.ec_script.specs.declared.forms.ExpectForm.TheVariants as expects
use Rattle.ec_script.specs.declared.forms.Form.{Form}
use Rattle.ec_script.specs.declared.forms.Form.TheVariants.{Start, Set, Begin, Pass, LosePart, Lose, Return, Close, Serve, Put, Get, Fail, Reset, Input, Output, Ready, Cycle, ShowVariable, Show, Report, States, Stop, Served, Expect}
use Rattle.ec_script.specs.declared.value_test.Comparison.TheVariants.{Equal, Unequal, Less, LessEqual, Greater, GreaterEqual}
use Rattle.ec_script.specs.Words.{Text, is_range, words_of}

abbrev pub forms : List (Form × Text)
forms =
    (Start, codes "start")
    ∷ (Set, codes "set NAME VALUE")
    ∷ (Begin, codes "begin")
    ∷ (Pass, codes "pass K")
    ∷ (LosePart, codes "lose NUMBER part P")
    ∷ (Lose, codes "lose K")
    ∷ (Return, codes "return K")
    ∷ (Close, codes "close")
    ∷ (Serve, codes "serve S")
    ∷ (Put, codes "put S I BYTE")
    ∷ (Get, codes "get S I")
    ∷ (Fail, codes "fault S")
    ∷ (Reset, codes "reset S")
    ∷ (Input, codes "in NAME VALUE")
    ∷ (Output, codes "out NAME")
    ∷ (Ready, codes "ready")
    ∷ (Cycle, codes "cycle")
    ∷ (ShowVariable, codes "show NAME")
    ∷ (Show, codes "show")
    ∷ (Report, codes "report")
    ∷ (States, codes "states")
    ∷ (Stop, codes "stop")
    ∷ (Served, codes "served")
    ∷ (Expect (expects.Compared Equal), codes "expect NAME == VALUE")
    ∷ (Expect (expects.Compared Unequal), codes "expect NAME != VALUE")
    ∷ (Expect (expects.Compared Less), codes "expect NAME < VALUE")
    ∷ (Expect (expects.Compared LessEqual), codes "expect NAME <= VALUE")
    ∷ (Expect (expects.Compared Greater), codes "expect NAME > VALUE")
    ∷ (Expect (expects.Compared GreaterEqual), codes "expect NAME >= VALUE")
    ∷ (Expect (expects.Masked true), codes "expect NAME & MASK == VALUE")
    ∷ (Expect (expects.Masked false), codes "expect NAME & MASK != VALUE")
    ∷ (Expect (expects.Unit true), codes "expect taken UNIT")
    ∷ (Expect (expects.Units true), codes "expect taken")
    ∷ (Expect (expects.Unit false), codes "expect untaken UNIT")
    ∷ (Expect (expects.Units false), codes "expect untaken")
    ∷ (Expect expects.Ready, codes "expect ready")
    ∷ (Expect expects.Refusal, codes "expect failed NUMBER")
    ∷ (Expect expects.Failed, codes "expect failed")
    ∷ (Expect expects.Code, codes "expect state S STATE CODE")
    ∷ (Expect expects.State, codes "expect state S STATE")
    ∷ (Expect expects.Range, codes "expect NAME LOW..HIGH")
    ∷ (Expect expects.Value, codes "expect NAME VALUE")
    ∷ []

-- a word of a form stands for a word of a line; one with `..` in it stands for those with `..` in them
abbrev pub stands_for : Text → Text → Bool
stands_for part word = if is_range part then is_range word else (list_all is_ascii_uppercase part || bytes_eq word part)

-- as far as both have words
abbrev pub agree : List Text → List Text → Bool
agree words parts = list_all (λ p. stands_for p.0 p.1) (zip parts words)

-- they are as many, and each fits
abbrev pub fits : List Text → Text → Bool
fits words form = (length (words_of form) == length words) && agree words (words_of form)

-- the first form that words fit
unfoldable pub form_of : List Text → Option Form
form_of words = option_map (λ f. f.0) (find (λ f. fits words f.1) forms)
