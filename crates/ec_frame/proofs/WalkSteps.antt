-- One step of the walk over an area, and what a frame's header says.
use Rattle.std.proofs.Common.{◌≡◌, ℕ, ◌+◌, ◌<◌, ◌≤◌, true, false, List, [], ◌∷◌, ◌++◌, length, drop, Ok, refl, sym, ap, ◌∙◌, append_assoc, arith}
use Rattle.std.specs.List.{AllByRecursion}
use Rattle.std.proofs.lemmas.List.{append-nil, drop_at, length_push}
use Rattle.std.proofs.lemmas.Grind.{flat_map-append}
use Rattle.std.proofs.Math.Bool.{not}
use Rattle.ec_frame.specs.declared.checking.Shape.{Shape}
use Rattle.ec_frame.specs.Datagram.{Datagram, spelling, IsDatagram, opened}
use Rattle.ec_frame.specs.Reading.{HasShape, GivesCount}
use Rattle.ec_frame.proofs.Readings.{joined_last, spelling_length}

pub All-push : (ds : List Datagram) (d : Datagram) → AllByRecursion IsDatagram ds → IsDatagram d → AllByRecursion IsDatagram (ds ++ d ∷ [])
All-push [] d h g = (g, tt)
All-push (e ∷ ds) d h g = (h.0, All-push ds d h.1 g)

pub opened_push : (ds : List Datagram) (d : Datagram) → opened (ds ++ d ∷ []) ≡ opened ds ++ spelling true d
opened_push ds d = flat_map-append (spelling true) ds (d ∷ []) ∙ ap (λ (xs : List ℕ). opened ds ++ xs) (append-nil (spelling true d))

-- the good datagrams so far, and what is left
pub record Walked (bytes rest : List ℕ) (count : ℕ) : Type 0 where
  pub before : List Datagram
  pub each : AllByRecursion IsDatagram before
  pub parts : bytes ≡ opened before ++ rest
  pub counted : count ≡ length before

pub walk_ends : (bytes rest : List ℕ) (count : ℕ) (s : Shape) → Walked bytes rest count → HasShape rest s → s.is_last ≡ true → GivesCount bytes (Ok (count + 1))
walk_ends bytes rest count s w h last =
    let d = h.datagram in
    let spelled : rest ≡ spelling false d = h.parts ∙ rw (last, h.ends last) (append-nil (spelling false d)) in
    (w.before ++ d ∷ [], All-push w.before d w.each h.good, w.parts ∙ ap (λ (xs : List ℕ). opened w.before ++ xs) spelled ∙ sym (joined_last w.before d), ap (λ (n : ℕ). n + 1) w.counted ∙ sym (length_push w.before d))

pub walk_more : (bytes rest after : List ℕ) (count : ℕ) (s : Shape) → Walked bytes rest count → HasShape rest s → s.is_last ≡ false → after ≡ drop s.len rest → (0 < length after) × Walked bytes after (count + 1)
walk_more bytes rest after count s w h last is =
    let d = h.datagram in
    let spelled : rest ≡ spelling true d ++ h.after = h.parts ∙ rw last refl in
    let long : length (spelling true d) ≡ s.len = omega (arith, spelling_length true d [], ap length (append-nil (spelling true d)), h.len) in
    let left : after ≡ h.after = is ∙ ap (λ (xs : List ℕ). drop s.len xs) spelled ∙ drop_at (spelling true d) h.after s.len long in (
      rw left (h.goes_on last),
      record {
        before = w.before ++ d ∷ [];
        each = All-push w.before d w.each h.good;
        parts = w.parts ∙ ap (λ (xs : List ℕ). opened w.before ++ xs) (spelled ∙ ap (λ (xs : List ℕ). spelling true d ++ xs) (sym left)) ∙ sym (append_assoc (opened w.before) (spelling true d) after) ∙ ap (λ (xs : List ℕ). xs ++ after) (sym (opened_push w.before d));
        counted = ap (λ (n : ℕ). n + 1) w.counted ∙ sym (length_push w.before d);
      },
    )

pub shape_len : (rest : List ℕ) (s : Shape) → HasShape rest s → (12 ≤ s.len) × (s.len ≤ length rest)
shape_len rest s h = let e = h.len in (omega arith, omega (arith, ap length h.parts, spelling_length (not s.is_last) h.datagram h.after))
