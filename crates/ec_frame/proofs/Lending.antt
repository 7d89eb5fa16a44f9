-- The datagrams of a frame as they are lent, one after another.
use Rattle.std.proofs.Common.{◌≡◌, ℕ, ◌+◌, ◌-◌, ◌<◌, ◌≤◌, Bool, true, not, cond, nat_eq, List, [], ◌∷◌, ◌++◌, length, take, drop, Option, Some, eq-eqb, ne_eqb, true≢false, refl, sym, ap, subst, ◌∙◌, append_assoc, arith}
use Rattle.std.specs.List.{AllByRecursion}
use Rattle.std.proofs.lemmas.List.{length-append, append-nil, drop_at, take-append-drop}
use Rattle.byteorder.specs.Endian.{little_bytes}
use Rattle.ec_frame.specs.declared.cursor.DatagramSpan.{DatagramSpan}
use Rattle.ec_frame.specs.declared.cursor.Datagrams.{Datagrams}
use Rattle.ec_frame.specs.Datagram.{Datagram, heading, spelling, IsDatagram, is_followed, joined, opened}
use Rattle.ec_frame.specs.Fields.{with_counter, with_data}
use Rattle.ec_frame.specs.Frame.{IsByte, IsFrame, Payload, with_datagrams, length_field}
use Rattle.ec_frame.specs.Cursor.{IsAhead, StepsTo}
use Rattle.ec_frame.specs.Lending.{Among, HasNext, IsAt, IsLending, overwritten, written_as}
use Rattle.ec_frame.proofs.Numbers.{all_append, all_drop, all_left}
use Rattle.ec_frame.proofs.Writes.{bare_length, heading-with_data, part_length, tail_at}
use Rattle.ec_frame.proofs.WalkSteps.{opened_push}
use Rattle.ec_frame.proofs.Steps.{joined_length, joined_split, part_is, written}
use Rattle.ec_frame.proofs.FrameOrFault.{area_is}

-- what stands before and behind a datagram of a frame
abbrev pub head : Payload → ℕ → List ℕ
head p n = little_bytes 2 (n + cond p.reserved 2048 0 + 4096)

pub record Here (bytes : List ℕ) (s : Among) : Type 0 where
  pub front : List ℕ
  pub back : List ℕ
  pub front_is : front ≡ head s.payload (length (joined (s.past ++ s.datagram ∷ s.ahead))) ++ opened s.past
  pub back_is : back ≡ joined s.ahead ++ s.payload.rest
  pub parts : bytes ≡ front ++ (spelling (is_followed s.ahead) s.datagram ++ back)
  pub at : length front ≡ 2 + length (opened s.past)

pub here : (bytes : List ℕ) (s : Among) → IsFrame bytes (with_datagrams s.payload (s.past ++ s.datagram ∷ s.ahead)) → Here bytes s
here bytes s h =
    let m : Bool = is_followed s.ahead in
    let top : List ℕ = head s.payload (length (joined (s.past ++ s.datagram ∷ s.ahead))) in
    record {
      front = top ++ opened s.past;
      back = joined s.ahead ++ s.payload.rest;
      front_is = refl;
      back_is = refl;
      parts = h.parts ∙ ap (λ (xs : List ℕ). top ++ (xs ++ s.payload.rest)) (joined_split s.past s.datagram s.ahead)
          ∙ ap (λ (xs : List ℕ). top ++ xs) (append_assoc (opened s.past) (spelling m s.datagram ++ joined s.ahead) s.payload.rest ∙ ap (λ (xs : List ℕ). opened s.past ++ xs) (append_assoc (spelling m s.datagram) (joined s.ahead) s.payload.rest))
          ∙ sym (append_assoc top (opened s.past) (spelling m s.datagram ++ (joined s.ahead ++ s.payload.rest)));
      at = omega (arith, length-append top (opened s.past));
    }

each_behind : (xs ys : List Datagram) → AllByRecursion IsDatagram (xs ++ ys) → AllByRecursion IsDatagram ys
each_behind [] ys h = h
each_behind (x ∷ xs) ys h = each_behind xs ys h.1

each_written : (xs ys : List Datagram) (d e : Datagram) → AllByRecursion IsDatagram (xs ++ d ∷ ys) → IsDatagram e → AllByRecursion IsDatagram (xs ++ e ∷ ys)
each_written [] ys d e h good = (good, h.1)
each_written (x ∷ xs) ys d e h good = (h.0, each_written xs ys d e h.1 good)

-- a datagram of another's length leaves the length of all
same_length : (past ahead : List Datagram) (d e : Datagram) → length e.data_bytes ≡ length d.data_bytes → length (joined (past ++ e ∷ ahead)) ≡ length (joined (past ++ d ∷ ahead))
same_length past ahead d e same =
    let m : Bool = is_followed ahead in
    omega (arith, ap length (joined_split past d ahead), ap length (joined_split past e ahead), length-append (opened past) (joined (d ∷ ahead)), length-append (opened past) (joined (e ∷ ahead)), length-append (spelling m d) (joined ahead), length-append (spelling m e) (joined ahead), bare_length m d, bare_length m e)

-- ---- a step

pub starts : (bytes : List ℕ) (l : Datagrams) (p : Payload) → IsFrame bytes p → l.at ≡ 2 → l.end ≡ 2 + length_field bytes → IsLending bytes l p [] p.datagrams
starts bytes l p h at end = record { frame = h; at = at; end = end ∙ ap (λ (n : ℕ). 2 + n) (area_is bytes p h).said }

pub first : (bytes : List ℕ) (l : Datagrams) (p : Payload) → IsFrame bytes p → l.at ≡ 2 → l.end ≡ 2 + length_field bytes → HasNext bytes l
first bytes l p h at end = of_list p.datagrams h.some (starts bytes l p h at end)
  where
    of_list : (ds : List Datagram) → 0 < length ds → IsLending bytes l p [] ds → HasNext bytes l
    of_list [] some x = absurd (omega (arith, some))
    of_list (d ∷ others) some x = (record { payload = p; past = []; datagram = d; ahead = others }, x)

pub ahead : (bytes : List ℕ) (l : Datagrams) (p : Payload) (past rest : List Datagram) → IsLending bytes l p past rest → IsAhead bytes l rest
ahead bytes l p past [] h =
    let all : List Datagram = past ++ [] in
    let at = h.at in let end = h.end in
    let size : length (joined all) ≡ length (opened past) = ap (λ (b : List Datagram). length (joined b)) (append-nil past) ∙ joined_length past in
    record {
      front = head p (length (joined all)) ++ joined all;
      back = p.rest;
      each = tt;
      parts = h.frame.parts ∙ sym (append_assoc (head p (length (joined all))) (joined all) p.rest);
      at = omega arith;
      end = omega arith;
    }
ahead bytes l p past (d ∷ others) h =
    let s : Among = record { payload = p; past = past; datagram = d; ahead = others } in
    let e = here bytes s h.frame in
    let at = h.at in let end = h.end in
    record {
      front = e.front;
      back = p.rest;
      each = each_behind past (d ∷ others) h.frame.each;
      parts = e.parts ∙ ap (λ (xs : List ℕ). e.front ++ (spelling (is_followed others) d ++ xs)) e.back_is ∙ ap (λ (xs : List ℕ). e.front ++ xs) (sym (append_assoc (spelling (is_followed others) d) (joined others) p.rest));
      at = omega (arith, e.at);
      end = omega (arith, ap length (joined_split past d others), length-append (opened past) (joined (d ∷ others)));
    }

pub ends : (bytes : List ℕ) (l : Datagrams) (p : Payload) (past rest : List Datagram) → IsLending bytes l p past rest → not (nat_eq l.at l.end) ≡ is_followed rest
ends bytes l p past rest h = at_end rest (ahead bytes l p past rest h)
  where
    at_end : (ds : List Datagram) → IsAhead bytes l ds → not (nat_eq l.at l.end) ≡ is_followed ds
    at_end [] a = let end = a.end in let same : l.at ≡ l.end = omega arith in ap not (eq-eqb l.at l.end same)
    at_end (d ∷ ds) a = let end = a.end in ap not (ne_eqb l.at l.end (omega (arith, length-append (spelling (is_followed ds) d) (joined ds), bare_length (is_followed ds) d)))

pub more : (bytes : List ℕ) (l : Datagrams) (p : Payload) (past rest : List Datagram) → IsLending bytes l p past rest → not (nat_eq l.at l.end) ≡ true → HasNext bytes l
more bytes l p past [] h on = absurd (true≢false (sym on ∙ ends bytes l p past [] h))
more bytes l p past (d ∷ others) h on = (record { payload = p; past = past; datagram = d; ahead = others }, h)

one_span : (a b : DatagramSpan) → ◌≡◌ {A = Option DatagramSpan} (Some a) (Some b) → a ≡ b
one_span a b e = cc

pub stepped : (bytes : List ℕ) (l places : Datagrams) (o : Option DatagramSpan) (span : DatagramSpan) (s : Among) → IsLending bytes l s.payload s.past (s.datagram ∷ s.ahead)
    → StepsTo l places o (s.datagram ∷ s.ahead) → o ≡ Some span → IsAt bytes span s
stepped bytes l places o span s h step some =
    let is : span ≡ record { from = l.at; to = l.at + (12 + length s.datagram.data_bytes) } = one_span span _ (sym some ∙ step.0) in
    let from = ap (λ (x : DatagramSpan). x.from) is in
    let to = ap (λ (x : DatagramSpan). x.to) is in
    record { frame = h.frame; from = from ∙ h.at; to = omega (arith, from, to) }

-- whatever is written there
pub passed : (bytes now : List ℕ) (l new : Datagrams) (o : Option DatagramSpan) (span : DatagramSpan) (s : Among) (e : Datagram) → IsLending bytes l s.payload s.past (s.datagram ∷ s.ahead)
    → StepsTo l new o (s.datagram ∷ s.ahead) → o ≡ Some span → IsAt now span (written_as s e) → IsLending now new s.payload (s.past ++ e ∷ []) s.ahead
passed bytes now l new o span s e h step some there =
    let first = stepped bytes l new o span s h step some in
    let same : length e.data_bytes ≡ length s.datagram.data_bytes = omega (arith, there.to, first.to) in
    let at = ap (λ (x : Datagrams). x.at) step.1 in
    let end = ap (λ (x : Datagrams). x.end) step.1 in
    let join : (s.past ++ e ∷ []) ++ s.ahead ≡ s.past ++ e ∷ s.ahead = append_assoc s.past (e ∷ []) s.ahead in
    record {
      frame = subst (λ (ds : List Datagram). IsFrame now (with_datagrams s.payload ds)) (sym join) there.frame;
      at = omega (arith, at, h.at, same, ap length (opened_push s.past e), length-append (opened s.past) (spelling true e), bare_length true e);
      end = omega (arith, end, h.end, same_length s.past s.ahead s.datagram e same, ap (λ (ds : List Datagram). length (joined ds)) join);
    }

-- the cursor stays within the end, and moves on
pub smaller : (bytes : List ℕ) (l places : Datagrams) (o : Option DatagramSpan) (s : Among) → IsLending bytes l s.payload s.past (s.datagram ∷ s.ahead) → StepsTo l places o (s.datagram ∷ s.ahead) → places.end - places.at < l.end - l.at
smaller bytes l places o s h step =
    let a = ahead bytes l s.payload s.past (s.datagram ∷ s.ahead) h in
    let end = a.end in
    let at_next = ap (λ (x : Datagrams). x.at) step.1 in
    let end_next = ap (λ (x : Datagrams). x.end) step.1 in
    omega (arith, length-append (spelling (is_followed s.ahead) s.datagram) (joined s.ahead), bare_length (is_followed s.ahead) s.datagram)

-- ---- bytes

all_take : (n : ℕ) (xs : List ℕ) → AllByRecursion IsByte xs → AllByRecursion IsByte (take n xs)
all_take n xs h = all_left (take n xs) (drop n xs) (subst (λ (ys : List ℕ). AllByRecursion IsByte ys) (sym (take-append-drop n xs)) h)

all_over : (xs ys : List ℕ) (a k : ℕ) → AllByRecursion IsByte xs → AllByRecursion IsByte ys → AllByRecursion IsByte (take a xs ++ (ys ++ drop k (drop a xs)))
all_over xs ys a k h g = all_append (take a xs) (ys ++ drop k (drop a xs)) (all_take a xs h) (all_append ys (drop k (drop a xs)) g (all_drop k (drop a xs) (all_drop a xs h)))

-- ---- the datagram that is lent

pub good : (bytes : List ℕ) (span : DatagramSpan) (s : Among) → IsAt bytes span s → IsDatagram s.datagram
good bytes span s h = (each_behind s.past (s.datagram ∷ s.ahead) h.frame.each).0

pub room : (bytes : List ℕ) (span : DatagramSpan) (s : Among) → IsAt bytes span s → span.to ≤ length bytes
room bytes span s h =
    let e = here bytes s h.frame in
    let from = h.from in let to = h.to in
    omega (arith, ap length e.parts, length-append e.front (spelling (is_followed s.ahead) s.datagram ++ e.back), length-append (spelling (is_followed s.ahead) s.datagram) e.back, bare_length (is_followed s.ahead) s.datagram, e.at)

pub spelled : (bytes : List ℕ) (span : DatagramSpan) (s : Among) → IsAt bytes span s → take (span.to - span.from) (drop span.from bytes) ≡ spelling (is_followed s.ahead) s.datagram
spelled bytes span s h =
    let e = here bytes s h.frame in
    let m : Bool = is_followed s.ahead in
    let from = h.from in let to = h.to in
    part_is bytes e.front (spelling m s.datagram) e.back span.from (span.to - span.from) e.parts (omega (arith, e.at)) (omega (arith, bare_length m s.datagram))

-- a spelling of the same length in its place
pub rewritten : (bytes : List ℕ) (span : DatagramSpan) (s : Among) (e : Datagram) (part : List ℕ) → IsAt bytes span s → IsDatagram e → length e.data_bytes ≡ length s.datagram.data_bytes
    → part ≡ spelling (is_followed s.ahead) e → AllByRecursion IsByte part
    → IsAt (take span.from bytes ++ (part ++ drop (span.to - span.from) (drop span.from bytes))) span (written_as s e)
rewritten bytes span s e part h fine same is are =
    let m : Bool = is_followed s.ahead in
    let x = here bytes s h.frame in
    let n : ℕ = length (joined (s.past ++ s.datagram ∷ s.ahead)) in
    let all : List Datagram = s.past ++ e ∷ s.ahead in
    let size : length (joined all) ≡ n = same_length s.past s.ahead s.datagram e same in
    let top : List ℕ = head s.payload n in
    let from = h.from in let to = h.to in
    let new : List ℕ = take span.from bytes ++ (part ++ drop (span.to - span.from) (drop span.from bytes)) in
    let now : new ≡ x.front ++ (spelling m e ++ x.back) =
    written bytes x.front (spelling m s.datagram) x.back part span.from (span.to - span.from) x.parts (omega (arith, x.at)) (omega (arith, bare_length m s.datagram))
    ∙ ap (λ (xs : List ℕ). x.front ++ (xs ++ x.back)) is in
    let parts : new ≡ top ++ (joined all ++ s.payload.rest) =
    now ∙ ap (λ (xs : List ℕ). xs ++ (spelling m e ++ x.back)) x.front_is ∙ ap (λ (xs : List ℕ). (top ++ opened s.past) ++ (spelling m e ++ xs)) x.back_is
    ∙ append_assoc top (opened s.past) (spelling m e ++ (joined s.ahead ++ s.payload.rest))
    ∙ ap (λ (xs : List ℕ). top ++ (opened s.past ++ xs)) (sym (append_assoc (spelling m e) (joined s.ahead) s.payload.rest))
    ∙ ap (λ (xs : List ℕ). top ++ xs) (sym (append_assoc (opened s.past) (spelling m e ++ joined s.ahead) s.payload.rest))
    ∙ ap (λ (xs : List ℕ). top ++ (xs ++ s.payload.rest)) (sym (joined_split s.past e s.ahead)) in
    record {
      frame = record {
        bytes = all_over bytes part span.from (span.to - span.from) h.frame.bytes are;
        some = omega (arith, length-append s.past (e ∷ s.ahead));
        each = each_written s.past s.ahead s.datagram e h.frame.each fine;
        most = omega (arith, size, h.frame.most);
        parts = parts ∙ ap (λ (k : ℕ). head s.payload k ++ (joined all ++ s.payload.rest)) (sym size);
      };
      from = from;
      to = omega (arith, to, same);
    }

-- bytes over those of a spelling
pub put : (part new bytes was is : List ℕ) (a : ℕ) → part ≡ was → new ≡ bytes → overwritten was a bytes ≡ is → take a part ++ (new ++ drop ((a + length bytes) - a) (drop a part)) ≡ is
put part new bytes was is a same to e =
    let n : (a + length bytes) - a ≡ length bytes = omega arith in
    rw (n, to, same) e

pub put_bytes : (frame new bytes : List ℕ) (from size a k : ℕ) → AllByRecursion IsByte frame → new ≡ bytes → AllByRecursion IsByte bytes
    → AllByRecursion IsByte (take a (take size (drop from frame)) ++ (new ++ drop k (drop a (take size (drop from frame)))))
put_bytes frame new bytes from size a k all to fine = all_over (take size (drop from frame)) new a k (all_take size (drop from frame) (all_drop from frame all)) (subst (λ (xs : List ℕ). AllByRecursion IsByte xs) (sym to) fine)

pub data_over : (m : Bool) (d : Datagram) (bytes : List ℕ) → length bytes ≡ length d.data_bytes → overwritten (spelling m d) 10 bytes ≡ spelling m (with_data d bytes)
data_over m d bytes same =
    let behind : drop (length bytes) (drop 10 (spelling m d)) ≡ little_bytes 2 d.counter = drop_at d.data_bytes (little_bytes 2 d.counter) (length bytes) (sym same) in
    ap (λ (xs : List ℕ). heading m d ++ (bytes ++ xs)) behind ∙ ap (λ (xs : List ℕ). xs ++ (bytes ++ little_bytes 2 d.counter)) (sym (heading-with_data m d bytes same))

pub counter_over : (m : Bool) (d : Datagram) (part bytes : List ℕ) (n : ℕ) → part ≡ spelling m d → bytes ≡ little_bytes 2 n → overwritten (spelling m d) (length part - 2) bytes ≡ spelling m (with_counter d n)
counter_over m d part bytes n is to =
    let long = part_length part m d is in
    let t = tail_at (spelling m d) m d (length part - 2) refl (ap (λ (k : ℕ). k - 2) (ap length is)) in
    rw (to, t.0, t.1) (append_assoc (heading m d) d.data_bytes (little_bytes 2 n))
