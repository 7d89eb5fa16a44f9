-- What the fields of a reader hold, after a datagram more.
use Rattle.std.proofs.Common.{◌≡◌, ℕ, ◌+◌, ◌<◌, ◌≤◌, Bool, true, false, List, [], ◌∷◌, ◌++◌, length, if◌then◌else◌, Result, Ok, Err, IfOk, refl, sym, ap, subst, ◌∙◌, append_assoc, append-nil, arith}
use Rattle.std.specs.List.{AllByRecursion}
use Rattle.std.specs.declared.vec.Vec.{Vec}
use Rattle.std.specs.declared.alloc.Global.{Global}
use Rattle.std.proofs.lemmas.List.{length-append, length_push}
use Rattle.byteorder.specs.Endian.{little_bytes}
use Rattle.ec_frame.specs.Datagram.{Datagram, IsDatagram, joined, opened, spelling}
use Rattle.ec_frame.specs.Frame.{IsByte, IsFrame}
use Rattle.ec_frame.proofs.BuilderCalls.{read_again}
use Rattle.ec_frame.proofs.Readings.{joined_last, spelling_length}
use Rattle.ec_frame.proofs.WalkSteps.{All-push, opened_push}
use Rattle.ec_decode.specs.declared.begun.Begun.{Begun as BegunHeld}
use Rattle.ec_decode.specs.Holding.{Holds, IsHeld, begun_of, datagrams_held}
use Rattle.ec_decode.specs.declared.line.Heading.{Heading as HeadingHeld}
use Rattle.ec_decode.specs.Reading.{Begun, whole_of}

pub opened_long : (ds : List Datagram) → length ds ≤ length (opened ds)
opened_long [] = omega arith
opened_long (d ∷ ds) = let more = opened_long ds in omega (arith, spelling_length true d (opened ds))

pub held_again : (ds : List Datagram) → AllByRecursion IsDatagram ds → datagrams_held (opened ds) ≡ ds
held_again ds each = read_again (length (opened ds)) ds each (opened_long ds)

bare : (m : Bool) (d : Datagram) → length (spelling m d) ≡ 12 + length d.data_bytes
bare m d = omega (arith, spelling_length m d [], ap length (append-nil (spelling m d)))

-- one that fits has short data
pub short_data : (ds : List Datagram) (d : Datagram) → length (opened (ds ++ d ∷ [])) ≤ 1470 → length d.data_bytes < 2048
short_data ds d most = omega (arith, ap length (opened_push ds d), length-append (opened ds) (spelling true d), bare true d)

-- a datagram more is held
pub held_push : (b c : BegunHeld) (d : Datagram) → IsHeld b → IsDatagram d → c.area.items ≡ b.area.items ++ spelling true d → c.read ≡ b.read + 1 → c.heading ≡ b.heading
    → length (opened (datagrams_held b.area.items ++ d ∷ [])) ≤ 1470 → length (datagrams_held b.area.items) + 1 < b.heading.count → IsHeld c × (datagrams_held c.area.items ≡ datagrams_held b.area.items ++ d ∷ [])
held_push b c d h good area read heading most fewer =
    let ds : List Datagram = datagrams_held b.area.items in
    let all : List Datagram = ds ++ d ∷ [] in
    let each : AllByRecursion IsDatagram all = All-push ds d h.each good in
    let spelled : c.area.items ≡ opened all = area ∙ ap (λ (xs : List ℕ). xs ++ spelling true d) h.area ∙ sym (opened_push ds d) in
    let held : datagrams_held c.area.items ≡ all = ap datagrams_held spelled ∙ held_again all each in
    let holds : Holds c all = record {
      each = each;
      area = spelled;
      read = read ∙ (ap (λ (n : ℕ). n + 1) h.read ∙ sym (length_push ds d));
      fewer = let was = h.read in let count = ap (λ (x : HeadingHeld). x.count) heading in omega arith;
      most = rw spelled most;
    } in
    (subst (λ (es : List Datagram). Holds c es) (sym held) holds, held)

-- the last datagram makes a frame
pub finished : (b : BegunHeld) (begun : Begun) (d : Datagram) (payload rest : List ℕ) (r : Bool) → IsHeld b → begun.datagrams ≡ datagrams_held b.area.items → begun.heading.reserved ≡ r → begun.heading.rest ≡ rest → IsDatagram d
    → length (opened (datagrams_held b.area.items ++ d ∷ [])) ≤ 1470 → AllByRecursion IsByte payload
    → payload ≡ little_bytes 2 (length (b.area.items) + length (spelling false d) + (if r then 2048 else 0) + 4096) ++ (b.area.items ++ (spelling false d ++ rest)) → IsFrame payload (whole_of begun d)
finished b begun d payload rest r h same reserved behind good most bytes is =
    let ds : List Datagram = datagrams_held b.area.items in
    let all : List Datagram = ds ++ d ∷ [] in
    let spelled : joined all ≡ b.area.items ++ spelling false d = joined_last ds d ∙ ap (λ (xs : List ℕ). xs ++ spelling false d) (sym h.area) in
    let size : length (joined all) ≡ length b.area.items + length (spelling false d) = ap length spelled ∙ length-append b.area.items (spelling false d) in
    let short : length (opened all) ≡ length (joined all) = omega (arith, ap length (opened_push ds d), length-append (opened ds) (spelling true d), ap length (joined_last ds d), length-append (opened ds) (spelling false d), bare true d, bare false d) in
    let whole : IsFrame payload (record { reserved = r; datagrams = all; rest = rest }) = record {
      bytes = bytes;
      some = omega (arith, length_push ds d);
      each = All-push ds d h.each good;
      most = omega arith;
      parts = is ∙ ap (λ (n : ℕ). little_bytes 2 (n + (if r then 2048 else 0) + 4096) ++ (b.area.items ++ (spelling false d ++ rest))) (sym size) ∙ ap (λ (xs : List ℕ). little_bytes 2 (length (joined all) + (if r then 2048 else 0) + 4096) ++ xs) (sym (append_assoc b.area.items (spelling false d) rest) ∙ ap (λ (xs : List ℕ). xs ++ rest) (sym spelled));
    } in
    rw (reserved, behind, same) whole

pub four_parts : (none one two three four a b c d : List ℕ) → none ≡ [] → one ≡ none ++ a → two ≡ one ++ b → three ≡ two ++ c → four ≡ three ++ d → four ≡ a ++ (b ++ (c ++ d))
four_parts none one two three four a b c d e0 e1 e2 e3 e4 = rw (e4, e3, e2, e1, e0) (simp append_assoc)

pub finish_all : {E : Type 0} (result : Result (Vec ℕ Global) E) (b : BegunHeld) (d : Datagram) (n m bit : ℕ) (area last rest : List ℕ) → IsHeld b → IsDatagram d
    → length (opened (datagrams_held b.area.items ++ d ∷ [])) ≤ 1470 → area ≡ b.area.items → last ≡ spelling false d → rest ≡ b.heading.rest.items → n ≡ length area → m ≡ length last → bit ≡ (if b.heading.reserved then 2048 else 0)
    → IfOk result (λ payload. payload.items ≡ little_bytes 2 (n + m + bit + 4096) ++ (area ++ (last ++ rest))) → IfOk result (λ payload. AllByRecursion IsByte payload.items) → IfOk result (λ payload. IsFrame payload.items (whole_of (begun_of b) d))
finish_all (Ok payload) b d n m bit area last rest held good most e1 e2 e3 l1 l2 l3 parts bytes =
    let size : n + m + bit + 4096 ≡ length b.area.items + length (spelling false d) + (if b.heading.reserved then 2048 else 0) + 4096 = rw (l1, l2, l3, e1, e2) refl in
    let is : payload.items ≡ little_bytes 2 (length b.area.items + length (spelling false d) + (if b.heading.reserved then 2048 else 0) + 4096) ++ (b.area.items ++ (spelling false d ++ b.heading.rest.items)) =
    parts ∙ ap (λ (k : ℕ). little_bytes 2 k ++ (area ++ (last ++ rest))) size ∙ ap (λ (xs : List ℕ). little_bytes 2 (length b.area.items + length (spelling false d) + (if b.heading.reserved then 2048 else 0) + 4096) ++ xs) (rw (e1, e2, e3) refl) in
    finished b (begun_of b) d payload.items b.heading.rest.items b.heading.reserved held refl refl refl good most bytes is
finish_all (Err e) b d n m bit area last rest held good most e1 e2 e3 l1 l2 l3 parts bytes = tt
