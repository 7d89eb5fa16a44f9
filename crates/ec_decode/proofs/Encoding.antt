-- One line of a text of frames, and its end.
use Rattle.std.proofs.Common.{◌≡◌, ◌∙◌, ℕ, ◌+◌, ◌<◌, ◌≤◌, List, [], ◌∷◌, ◌++◌, length, get_or, drop, map, Option, Some, None, Result, Ok, Err, Bor, is_none, IsErrAnd, true, false, refl, sym, ap, subst, append_assoc, append-nil, arith}
use Rattle.std.specs.declared.vec.Vec.{Vec}
use Rattle.std.specs.declared.alloc.Global.{Global}
use Rattle.std.specs.declared.string.String.{String}
use Rattle.std.specs.Str.Lines.{lines}
use Rattle.std.proofs.lemmas.List.{at_drop_more, drop_all}
use Rattle.hex.specs.Hex.{encode_lower}
use Rattle.ec_frame.specs.Frame.{IsFrame, Payload}
use Rattle.ec_decode.specs.declared.error.DecodeError.{DecodeError}
use Rattle.ec_decode.specs.declared.error.DecodeError.TheVariants.{Memory, BadScript}
use Rattle.ec_decode.specs.Answers.{AreSpelled, EncodesText}
use Rattle.ec_decode.specs.FrameText.{Text, newline}
use Rattle.ec_decode.specs.Reading.{Begun, ReadsLine, Step, before, ended, frames_from, frames_of, step_of}

-- frames before what others are
abbrev pub after : List Payload → Result (List Payload) ℕ → Result (List Payload) ℕ
after ps (Ok more) = Ok (ps ++ more)
after ps (Err n) = Err n

abbrev pub texts_of : List (Bor Text) → List Text
texts_of xs = map (λ x. x.now) xs

-- what comes of the lines from place i on
abbrev pub rest_of : List (Bor Text) → ℕ → Option Begun → Result (List Payload) ℕ
rest_of xs i begun = frames_from (i + 1) begun (texts_of (drop i xs))

-- the frames so far are spelled, and those of the lines that follow are the others
pub record Encoded (text : Text) (xs : List (Bor Text)) (i : ℕ) (begun : Option Begun) (answer : Text) : Type 0 where
  pub frames : List Payload
  pub spelled : AreSpelled frames answer
  pub whole : after frames (rest_of xs i begun) ≡ frames_of text

pub encoded_none : (text : Text) (xs : List (Bor Text)) → texts_of xs ≡ lines text → Encoded text xs 0 None []
encoded_none text xs e = record { frames = []; spelled = refl; whole = nothing (rest_of xs 0 None) ∙ ap (λ (ts : List Text). frames_from 1 None ts) e }
  where
    nothing : (r : Result (List Payload) ℕ) → after [] r ≡ r
    nothing (Ok ps) = refl
    nothing (Err n) = refl

at : (xs : List (Bor Text)) (i : ℕ) (begun : Option Begun) (d : Bor Text) → i < length xs → rest_of xs i begun ≡ frames_from (i + 1) begun ((get_or xs i d).now ∷ texts_of (drop (i + 1) xs))
at xs i begun d h = at_drop_more (λ (ys : List (Bor Text)). frames_from (i + 1) begun (texts_of ys)) xs i d h

stepped : (n : ℕ) (begun : Option Begun) (line : Text) (ls : List Text) (s : Step) → step_of begun line ≡ Some s → frames_from n begun (line ∷ ls) ≡ before s.frame (frames_from (n + 1) s.left ls)
unfolding frames_from
stepped n begun line ls s is = rw is refl

refused : (n : ℕ) (begun : Option Begun) (line : Text) (ls : List Text) → step_of begun line ≡ None → frames_from n begun (line ∷ ls) ≡ Err n
unfolding frames_from
refused n begun line ls is = rw is refl

after_one : (ps : List Payload) (p : Payload) (r : Result (List Payload) ℕ) → after ps (before (Some p) r) ≡ after (ps ++ p ∷ []) r
after_one ps p (Ok more) = ap Ok (sym (append_assoc ps (p ∷ []) more))
after_one ps p (Err n) = refl

spelled_more : (ps : List Payload) (p : Payload) (answer payload more : Text) → AreSpelled ps answer → IsFrame payload p → more ≡ answer ++ (encode_lower payload ++ newline) → AreSpelled (ps ++ p ∷ []) more
spelled_more [] p answer payload more h f e =
    (payload, [], f, e ∙ ap (λ (t : Text). t ++ (encode_lower payload ++ newline)) h, refl)
spelled_more (q ∷ ps) p answer payload more h f e =
    let rest : Text = h.1 ++ (encode_lower payload ++ newline) in (
      h.0,
      rest,
      h.2,
      e ∙ (ap (λ (t : Text). t ++ (encode_lower payload ++ newline)) h.3 ∙ append_assoc (encode_lower h.0) (newline ++ h.1) (encode_lower payload ++ newline)),
      spelled_more ps p h.1 payload rest h.4 f refl,
    )

pub encoded_line : (text : Text) (xs : List (Bor Text)) (i : ℕ) (d : Bor Text) (old new : Option Begun) (answer : Text) → Encoded text xs i old answer → i < length xs → step_of old (get_or xs i d).now ≡ Some (record { left = new; frame = None }) → Encoded text xs (i + 1) new answer
encoded_line text xs i d old new answer e h is =
    record { frames = e.frames; spelled = e.spelled; whole = ap (after e.frames) (sym (at xs i old d h ∙ stepped (i + 1) old (get_or xs i d).now (texts_of (drop (i + 1) xs)) _ is)) ∙ e.whole }

pub encoded_frame : (text : Text) (xs : List (Bor Text)) (i : ℕ) (d : Bor Text) (old new : Option Begun) (answer payload more : Text) (p : Payload) → Encoded text xs i old answer → i < length xs → IsFrame payload p
    → step_of old (get_or xs i d).now ≡ Some (record { left = new; frame = Some p }) → more ≡ answer ++ (encode_lower payload ++ newline) → Encoded text xs (i + 1) new more
encoded_frame text xs i d old new answer payload more p e h f is written = record {
  frames = e.frames ++ p ∷ [];
  spelled = spelled_more e.frames p answer payload more e.spelled f written;
  whole = sym (after_one e.frames p (rest_of xs (i + 1) new)) ∙ ap (after e.frames) (sym (at xs i old d h ∙ stepped (i + 1) old (get_or xs i d).now (texts_of (drop (i + 1) xs)) _ is)) ∙ e.whole;
}

pub encoded_bad : (text : Text) (xs : List (Bor Text)) (i : ℕ) (d : Bor Text) (old : Option Begun) (answer : Text) → Encoded text xs i old answer → i < length xs → step_of old (get_or xs i d).now ≡ None → frames_of text ≡ Err (i + 1)
encoded_bad text xs i d old answer e h is = sym e.whole ∙ ap (after e.frames) (at xs i old d h ∙ refused (i + 1) old (get_or xs i d).now (texts_of (drop (i + 1) xs)) is)

at_end : (xs : List (Bor Text)) (i : ℕ) (begun : Option Begun) → length xs ≤ i → rest_of xs i begun ≡ ended (i + 1) begun
unfolding frames_from
at_end xs i begun h = ap (λ (ys : List (Bor Text)). frames_from (i + 1) begun (texts_of ys)) (drop_all i xs h)

pub encoded_all : (text : Text) (xs : List (Bor Text)) (i : ℕ) (begun : Option Begun) (answer : Text) → Encoded text xs i begun answer → length xs ≤ i → is_none begun ≡ true → (ps : List Payload) × (frames_of text ≡ Ok ps) × AreSpelled ps answer
encoded_all text xs i None answer e h none = (e.frames, sym e.whole ∙ (ap (after e.frames) (at_end xs i None h) ∙ ap Ok (append-nil e.frames)), e.spelled)
encoded_all text xs i (Some b) answer e h none = cc

pub encoded_cut : (text : Text) (xs : List (Bor Text)) (i : ℕ) (begun : Option Begun) (answer : Text) → Encoded text xs i begun answer → i ≡ length xs → is_none begun ≡ false → frames_of text ≡ Err (length xs + 1)
encoded_cut text xs i None answer e h none = cc
encoded_cut text xs i (Some b) answer e h none = sym e.whole ∙ (ap (after e.frames) (at_end xs i (Some b) (omega arith)) ∙ ap (λ (n : ℕ). Err (n + 1)) h)

pub same_items : (o : Option (Vec ℕ Global)) (v w : Vec ℕ Global) → o ≡ Some v → o ≡ Some w → v.items ≡ w.items
same_items o v w e f = let same : v ≡ w = cc in ap (λ (x : Vec ℕ Global). x.items) same

-- ---- what the reader returns

pub encoded_ok : (text : Text) (xs : List (Bor Text)) (i : ℕ) (d : Bor Text) (old new : Option Begun) (answer more : Text) (o : Option (Vec ℕ Global)) → Encoded text xs i old answer → i < length xs → ReadsLine old (i + 1) (get_or xs i d).now new (Ok o)
    → (o ≡ None → more ≡ answer) → ((v : Vec ℕ Global) → o ≡ Some v → more ≡ answer ++ (encode_lower v.items ++ newline)) → Encoded text xs (i + 1) new more
encoded_ok text xs i d old new answer more None e h r none some = rw (none refl) (encoded_line text xs i d old new answer e h r)
encoded_ok text xs i d old new answer more (Some v) e h r none some = encoded_frame text xs i d old new answer v.items more r.0 e h r.1 r.2 (some v refl)

pub encoded_err : (text : Text) (xs : List (Bor Text)) (i : ℕ) (d : Bor Text) (old new : Option Begun) (answer : Text) (e : DecodeError) → Encoded text xs i old answer → i < length xs → ReadsLine old (i + 1) (get_or xs i d).now new (Err e) → EncodesText text (Err e)
encoded_err text xs i d old new answer Memory e h r = tt
encoded_err text xs i d old new answer (BadScript k) e h r = encoded_bad text xs i d old answer e h r.1 ∙ ap Err (sym r.0)

-- `?` passes an error up as it is
pub told_by : (text : Text) (r : Result (String Global) DecodeError) (e : DecodeError) → IsErrAnd r (λ y. y ≡ e) → EncodesText text (Err e) → EncodesText text r
told_by text (Ok answer) e is p = absurd is
told_by text (Err y) e is p = subst (λ (d : DecodeError). EncodesText text (Err d)) (sym is) p
