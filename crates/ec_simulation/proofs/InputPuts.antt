-- What the applications of slaves write where a variable of the inputs becomes a value.
use Rattle.std.proofs.Common.{◌≡◌, ◌≢◌, ◌∙◌, ℕ, zero, suc, ◌+◌, ◌-◌, ◌*◌, ◌<◌, ◌≤◌, List, [], ◌∷◌, ◌++◌, length, take, drop, get_or, Bool, ◌&&◌, true, false, is_some, is_none, Option, Some, None, if◌then◌else◌, refl, sym, ap, subst, append_assoc, append-nil, length-take, length-set, get_or-set_other, arith}
use Rattle.std.specs.List.{AllByRecursion, list_any}
use Rattle.std.proofs.lemmas.List.{at_drop_more, drop_all, take-append-drop, take_more}
use Rattle.ec_bits.specs.Bits.{bytes_of_bits, copied}
use Rattle.ec_link.specs.declared.image.Variable.{Variable}
use Rattle.ec_link.specs.declared.plan.Link.{Link}
use Rattle.ec_link.specs.Meaning.{slave_at}
use Rattle.ec_link.specs.Plan.{PlanState}
use Rattle.ec_link.specs.Usable.{IsInLink, IsUsable}
use Rattle.ec_link.proofs.SettingsAreListed.{listed}
use Rattle.ec_start.specs.Running.{outcome_of}
use Rattle.ec_world.specs.declared.event.Event.{Event}
use Rattle.ec_world.specs.declared.event.Event.TheVariants.{AppPut}
use Rattle.ec_world.specs.World.{WorldState, IsStep, Puts, slave_of}
use Rattle.ec_script.specs.declared.output.LineOutput.{LineOutput}
use Rattle.ec_script.specs.declared.output.LineOutput.TheVariants as output
use Rattle.ec_simulation.specs.Inputs.{bytes_from, inputs_read, is_to, puts, puts_from, slave_byte, slave_puts, value_bytes, with_link, with_links}
use Rattle.ec_script.specs.Outputs.{is_done}
use Rattle.ec_simulation.specs.Work.{Makes, MakesAll, Onward, ends, said_of}
use Rattle.ec_simulation.proofs.Making.{stopped, then_on}

-- ---- bytes that are read

pub read_all : (w : WorldState) (s a n : ℕ) (bs : List ℕ) → length bs ≡ n → ((k : ℕ) → k < n → get_or bs k 0 ≡ slave_byte w s (a + k)) → bs ≡ bytes_from w s a n
unfolding bytes_from
read_all w s a zero [] long each = refl
read_all w s a zero (b ∷ bs) long each = absurd (omega arith)
read_all w s a (suc n) [] long each = absurd (omega arith)
read_all w s a (suc n) (b ∷ bs) long each =
    let zeroth : a + 0 ≡ a = omega arith in
    let here : b ≡ slave_byte w s a = each 0 (omega arith) ∙ ap (slave_byte w s) zeroth in
    let rest : bs ≡ bytes_from w s (a + 1) n =
    read_all w s (a + 1) n bs (omega arith) (λ k lt. each (suc k) (omega arith) ∙ ap (slave_byte w s) (let next : a + suc k ≡ a + 1 + k = omega arith in next)) in
    ap (λ (x : ℕ). x ∷ bs) here ∙ ap (λ (xs : List ℕ). slave_byte w s a ∷ xs) rest

-- ---- bits that are changed

pub links_at : (v : Variable) (x s : ℕ) (links : List Link) (i : ℕ) (d : Link) (bytes whole : List ℕ) → i < length links
    → with_links v x s (drop i links) bytes ≡ whole → with_links v x s (drop (i + 1) links) (with_link v x s (get_or links i d) bytes) ≡ whole
unfolding with_links
links_at v x s links i d bytes whole lt h = sym (at_drop_more (λ ls. with_links v x s ls bytes) links i d lt) ∙ h

pub links_end : (v : Variable) (x s : ℕ) (links : List Link) (i : ℕ) (bytes whole : List ℕ) → length links ≤ i → with_links v x s (drop i links) bytes ≡ whole → bytes ≡ whole
unfolding with_links
links_end v x s links i bytes whole le h = sym (ap (λ ls. with_links v x s ls bytes) (drop_all i links le)) ∙ h

pub each_at : {X : Type 0} (P : X → Type 0) (xs : List X) (i : ℕ) (d : X) → AllByRecursion P xs → i < length xs → P (get_or xs i d)
each_at P [] i d h lt = absurd (omega arith)
each_at P (x ∷ xs) zero d h lt = h.0
each_at P (x ∷ xs) (suc i) d h lt = each_at P xs i d h.1 (omega arith)

fits_from : (p : PlanState) (s n : ℕ) → (slave_at p s).share.ins ≤ n → (links : List Link) → AllByRecursion (IsInLink p) links
    → AllByRecursion (λ (l : Link). l.slave ≡ s → l.object_bit + l.count ≤ n) links
fits_from p s n few [] h = tt
fits_from p s n few (l ∷ ls) h = (
  λ same. let bits : l.object_bit + l.count ≤ (slave_at p s).share.ins = subst (λ k. l.object_bit + l.count ≤ (slave_at p k).share.ins) same h.0.bits in omega arith,
  fits_from p s n few ls h.1,
)

pub links_fit : (p : PlanState) (s : ℕ) (n : ℕ) → IsUsable p → n ≡ bytes_of_bits (slave_at p s).share.ins
    → AllByRecursion (λ (l : Link). l.slave ≡ s → l.object_bit + l.count ≤ 8 * n) p.in_links
links_fit p s n usable is = fits_from p s (8 * n) (omega arith) p.in_links usable.in_links

-- a slave has room for its inputs in its memory
pub few_inputs : (p : PlanState) (s : ℕ) → IsUsable p → s < length p.slaves → (slave_at p s).share.ins ≤ 32768
few_inputs p s usable lt = few (slave_at p s).share.ins (slave_at p s).kind.in_start (listed p usable s lt).in_fits
  where
    few : (ins start : ℕ) → (0 < ins → (0x1000 ≤ start) × (start + 3 * bytes_of_bits ins ≤ 0x3000)) → ins ≤ 32768
    few zero start h = omega arith
    few (suc n) start h = let r = h (omega arith) in let m : start + 3 * bytes_of_bits (suc n) ≤ 0x3000 = r.1 in omega arith

-- ---- one slave's bytes

pub puts-append : (s i : ℕ) (xs ys : List ℕ) → puts s i (xs ++ ys) ≡ puts s i xs ++ puts s (i + length xs) ys
unfolding puts
puts-append s i [] ys = let e : i + 0 ≡ i = omega arith in ap (λ k. puts s k ys) (sym e)
puts-append s i (x ∷ xs) ys =
    let e : i + length (x ∷ xs) ≡ i + 1 + length xs = omega arith in
    ap (λ es. AppPut s i x ∷ es) (puts-append s (i + 1) xs ys ∙ ap (λ k. puts s (i + 1) xs ++ puts s k ys) (sym e))

one_put : (s i x : ℕ) → puts s i (x ∷ []) ≡ AppPut s i x ∷ []
unfolding puts
one_put s i x = refl

none_put : (s i : ℕ) → puts s i [] ≡ []
unfolding puts
none_put s i = refl

puts_split : (s : ℕ) (bs : List ℕ) (i : ℕ) → i < length bs → puts s 0 (take (i + 1) bs) ≡ puts s 0 (take i bs) ++ (AppPut s i (get_or bs i 0) ∷ [])
puts_split s bs i lt =
    let long : 0 + length (take i bs) ≡ i = let n = length-take i bs in omega arith in
    ap (puts s 0) (take_more bs i 0 lt)
    ∙ (puts-append s 0 (take i bs) (get_or bs i 0 ∷ []) ∙ ap (λ es. puts s 0 (take i bs) ++ es) (ap (λ k. puts s k (get_or bs i 0 ∷ [])) long ∙ one_put s i (get_or bs i 0)))

pub none_yet : (s : ℕ) (bs : List ℕ) (w : WorldState) → MakesAll (puts s 0 (take 0 bs)) w w output.Nothing
none_yet s bs w = subst (λ es. MakesAll es w w output.Nothing) (sym (none_put s 0)) (refl, refl)

pub put_more : (s : ℕ) (bs : List ℕ) (i : ℕ) (old mid new : WorldState) (told word : LineOutput) → i < length bs → MakesAll (puts s 0 (take i bs)) old mid told → is_done told ≡ true
    → Makes (AppPut s i (get_or bs i 0)) mid new word → MakesAll (puts s 0 (take (i + 1) bs)) old new word
put_more s bs i old mid new told word lt h done one =
    let some : 0 < length (AppPut s i (get_or bs i 0) ∷ []) = omega arith in
    subst (λ es. MakesAll es old new word) (sym (puts_split s bs i lt)) (then_on (puts s 0 (take i bs)) (AppPut s i (get_or bs i 0) ∷ []) old mid new told word some h done one)

pub put_stopped : (s : ℕ) (bs : List ℕ) (i : ℕ) (old mid new : WorldState) (told word : LineOutput) → i < length bs → MakesAll (puts s 0 (take i bs)) old mid told → is_done told ≡ true
    → Makes (AppPut s i (get_or bs i 0)) mid new word → is_done word ≡ false → MakesAll (puts s 0 bs) old new word
put_stopped s bs i old mid new told word lt h done one stop =
    let here = put_more s bs i old mid new told word lt h done one in
    let whole : puts s 0 (take (i + 1) bs) ++ puts s (0 + length (take (i + 1) bs)) (drop (i + 1) bs) ≡ puts s 0 bs =
    sym (puts-append s 0 (take (i + 1) bs) (drop (i + 1) bs)) ∙ ap (puts s 0) (take-append-drop (i + 1) bs) in
    subst (λ es. MakesAll es old new word) whole (stopped (puts s 0 (take (i + 1) bs)) (puts s (0 + length (take (i + 1) bs)) (drop (i + 1) bs)) old new word here stop)

pub put_all : (s : ℕ) (bs : List ℕ) (i : ℕ) (old new : WorldState) (word : LineOutput) → length bs ≤ i → MakesAll (puts s 0 (take i bs)) old new word → MakesAll (puts s 0 bs) old new word
put_all s bs i old new word le h =
    let whole : take i bs ≡ bs = sym (append-nil (take i bs)) ∙ (ap (λ xs. take i bs ++ xs) (sym (drop_all i bs le)) ∙ take-append-drop i bs) in
    subst (λ xs. MakesAll (puts s 0 xs) old new word) whole h

-- ---- what it leaves alone, and says

pub record Leaves (s : ℕ) (old new : WorldState) (word : LineOutput) : Type 0 where
  pub plan : new.plan ≡ old.plan
  pub count : length new.slaves ≡ length old.slaves
  pub others : (k : ℕ) → k ≢ s → slave_of new k ≡ slave_of old k
  pub says : is_done word ≡ true → word ≡ output.Nothing

-- no start-up ends where none of it changes
none_ends : {X : Type 0} (o : Option X) → (is_none o && is_some o) ≡ false
none_ends None = refl
none_ends (Some x) = refl

leaves_made : (s i x : ℕ) (old new : WorldState) (word : LineOutput) (b : Bool) → IsStep old (AppPut s i x) new b → word ≡ said_of old (AppPut s i x) new b → Leaves s old new word
leaves_made s i x old new word false step says = record {
  plan = ap (λ (w : WorldState). w.plan) (step.refused refl);
  count = ap (λ (w : WorldState). length w.slaves) (step.refused refl);
  others = λ k other. ap (λ (w : WorldState). slave_of w k) (step.refused refl);
  says = λ done. absurd (let bad : true ≡ false = sym done ∙ ap is_done says in cc);
}
leaves_made s i x old new word true step says =
    let p : Puts old s i x new = step.happens refl in
    let starts : ends old new ≡ false = ap (λ (w : WorldState). ends old w) p.is ∙ none_ends (outcome_of old.start.phase) in
    record {
      plan = ap (λ (w : WorldState). w.plan) p.is;
      count = ap (λ (w : WorldState). length w.slaves) p.is ∙ length-set old.slaves s p.slave;
      others = λ k other. ap (λ (w : WorldState). slave_of w k) p.is ∙ rw get_or-set_other refl;
      says = λ done. says ∙ ap (λ (b : Bool). if b then output.Ended else output.Nothing) starts;
    }

leaves_one : (s i x : ℕ) (old new : WorldState) (word : LineOutput) → Makes (AppPut s i x) old new word → Leaves s old new word
leaves_one s i x old new word h = leaves_made s i x old new word h.made h.step h.says

leaves_then : {X : Type 0} (s : ℕ) (b : Bool) (old mid new : WorldState) (told word : LineOutput) → is_done told ≡ b → Leaves s old mid told → Onward b X ((new ≡ mid) × (word ≡ told)) → (X → Leaves s mid new word)
    → Leaves s old new word
leaves_then s true old mid new told word is first h rest =
    let r = rest h in
    record { plan = r.plan ∙ first.plan; count = r.count ∙ first.count; others = λ k other. r.others k other ∙ first.others k other; says = r.says }
leaves_then s false old mid new told word is first h rest = record {
  plan = ap (λ (w : WorldState). w.plan) h.0 ∙ first.plan;
  count = ap (λ (w : WorldState). length w.slaves) h.0 ∙ first.count;
  others = λ k other. ap (λ (w : WorldState). slave_of w k) h.0 ∙ first.others k other;
  says = λ done. absurd (let bad : true ≡ false = sym done ∙ (ap is_done h.1 ∙ is) in cc);
}

leaves_none : (s : ℕ) (old new : WorldState) (word : LineOutput) → (new ≡ old) × (word ≡ output.Nothing) → Leaves s old new word
leaves_none s old new word h = record {
  plan = ap (λ (w : WorldState). w.plan) h.0;
  count = ap (λ (w : WorldState). length w.slaves) h.0;
  others = λ k other. ap (λ (w : WorldState). slave_of w k) h.0;
  says = λ done. h.1;
}

leaves_all : (s i : ℕ) (bs : List ℕ) (old new : WorldState) (word : LineOutput) → MakesAll (puts s i bs) old new word → Leaves s old new word
unfolding puts
leaves_all s i [] old new word h = leaves_none s old new word h
leaves_all s i (b ∷ []) old new word h = leaves_one s i b old new word h
leaves_all s i (b ∷ c ∷ bs) old new word h =
    leaves_then s (is_done h.told) old h.mid new h.told word refl (leaves_one s i b old h.mid h.told h.begins) h.goes_on (λ rest. leaves_all s (i + 1) (c ∷ bs) h.mid new word rest)

leaves_if : (b : Bool) (s : ℕ) (bs : List ℕ) (old new : WorldState) (word : LineOutput) → MakesAll (if b then puts s 0 bs else []) old new word → Leaves s old new word
leaves_if true s bs old new word h = leaves_all s 0 bs old new word h
leaves_if false s bs old new word h = leaves_none s old new word h

leaves_slave : (v : Variable) (x s : ℕ) (old new : WorldState) (word : LineOutput) → MakesAll (slave_puts old v x s) old new word → Leaves s old new word
leaves_slave v x s old new word h = leaves_if (list_any (is_to v s) old.plan.in_links) s _ old new word h

-- ---- one slave after another

same_bytes : (old now : WorldState) (s : ℕ) → length now.slaves ≡ length old.slaves → slave_of now s ≡ slave_of old s → (a n : ℕ) → bytes_from now s a n ≡ bytes_from old s a n
unfolding bytes_from
same_bytes old now s count same a zero = refl
same_bytes old now s count same a (suc n) = rw (count, same) (ap (λ (xs : List ℕ). slave_byte old s a ∷ xs) (same_bytes old now s count same (a + 1) n))

same_puts : (v : Variable) (x s : ℕ) (old now : WorldState) → now.plan ≡ old.plan → length now.slaves ≡ length old.slaves → slave_of now s ≡ slave_of old s
    → slave_puts now v x s ≡ slave_puts old v x s
same_puts v x s old now plan count same =
    ap (λ (p : PlanState). puts_by p now) plan ∙ ap (λ (bs : List ℕ). if list_any (is_to v s) old.plan.in_links then puts s 0 (with_links v x s old.plan.in_links bs) else [])
    (same_bytes old now s count same (slave_at old.plan s).kind.in_start (bytes_of_bits (slave_at old.plan s).share.ins))
  where
    puts_by : PlanState → WorldState → List Event
    puts_by p w =
        if list_any (is_to v s) p.in_links
        then puts s 0 (with_links v x s p.in_links (bytes_from w s (slave_at p s).kind.in_start (bytes_of_bits (slave_at p s).share.ins)))
        else []

puts_from-append : (w : WorldState) (v : Variable) (x s i n : ℕ) → puts_from w v x s (i + n) ≡ puts_from w v x s i ++ puts_from w v x (s + i) n
unfolding puts_from
puts_from-append w v x s zero n = let e : s + 0 ≡ s = omega arith in let f : 0 + n ≡ n = omega arith in rw (e, f) refl
puts_from-append w v x s (suc i) n =
    let e : s + suc i ≡ s + 1 + i = omega arith in
    let f : suc i + n ≡ suc (i + n) = omega arith in
    rw (e, f) (ap (λ es. slave_puts w v x s ++ es) (puts_from-append w v x (s + 1) i n) ∙ sym (append_assoc (slave_puts w v x s) (puts_from w v x (s + 1) i) (puts_from w v x (s + 1 + i) n)))

one_from : (w : WorldState) (v : Variable) (x s : ℕ) → puts_from w v x s 1 ≡ slave_puts w v x s
unfolding puts_from
one_from w v x s = append-nil (slave_puts w v x s)

next_from : (w : WorldState) (v : Variable) (x s : ℕ) → puts_from w v x 0 (s + 1) ≡ puts_from w v x 0 s ++ slave_puts w v x s
next_from w v x s =
    let e : 0 + s ≡ s = omega arith in
    puts_from-append w v x 0 s 1 ∙ ap (λ es. puts_from w v x 0 s ++ es) (ap (λ k. puts_from w v x k 1) e ∙ one_from w v x s)

-- the slaves before s have written
pub record AreWritten (v : Variable) (x : ℕ) (old : WorldState) (s : ℕ) (now : WorldState) : Type 0 where
  pub made : MakesAll (puts_from old v x 0 s) old now output.Nothing
  pub plan : now.plan ≡ old.plan
  pub count : length now.slaves ≡ length old.slaves
  pub ahead : (k : ℕ) → s ≤ k → slave_of now k ≡ slave_of old k

pub none_written : (v : Variable) (x : ℕ) (w : WorldState) → AreWritten v x w 0 w
unfolding puts_from
none_written v x w = record { made = (refl, refl); plan = refl; count = refl; ahead = λ k le. refl }

and_then : (xs ys : List Event) (old mid new : WorldState) (word : LineOutput) → MakesAll xs old mid output.Nothing → MakesAll ys mid new word → MakesAll (xs ++ ys) old new word
and_then xs [] old mid new word h rest =
    subst (λ es. MakesAll es old new word) (sym (append-nil xs)) (subst (λ (w : WorldState). MakesAll xs old w word) (sym rest.0) (subst (λ (t : LineOutput). MakesAll xs old mid t) (sym rest.1) h))
and_then xs (y ∷ ys) old mid new word h rest = let some : 0 < length (y ∷ ys) = omega arith in then_on xs (y ∷ ys) old mid new output.Nothing word some h refl rest

here_made : (v : Variable) (x : ℕ) (old : WorldState) (s : ℕ) (now new : WorldState) (word : LineOutput) → AreWritten v x old s now → MakesAll (slave_puts now v x s) now new word
    → MakesAll (puts_from old v x 0 (s + 1)) old new word
here_made v x old s now new word h step =
    let same = same_puts v x s old now h.plan h.count (h.ahead s (omega arith)) in
    subst (λ es. MakesAll es old new word) (sym (next_from old v x s))
    (and_then (puts_from old v x 0 s) (slave_puts old v x s) old now new word h.made (subst (λ es. MakesAll es now new word) same step))

pub next_written : (v : Variable) (x : ℕ) (old : WorldState) (s : ℕ) (now new : WorldState) (word : LineOutput) → AreWritten v x old s now → MakesAll (slave_puts now v x s) now new word
    → is_done word ≡ true → AreWritten v x old (s + 1) new
next_written v x old s now new word h step done =
    let leaves = leaves_slave v x s now new word step in
    record {
      made = subst (λ (t : LineOutput). MakesAll (puts_from old v x 0 (s + 1)) old new t) (leaves.says done) (here_made v x old s now new word h step);
      plan = leaves.plan ∙ h.plan;
      count = leaves.count ∙ h.count;
      ahead = λ k le. leaves.others k (let other : k ≢ s = omega arith in other) ∙ h.ahead k (omega arith);
    }

pub written_stopped : (v : Variable) (x : ℕ) (old : WorldState) (n s : ℕ) (now new : WorldState) (word : LineOutput) → AreWritten v x old s now → s < n → MakesAll (slave_puts now v x s) now new word
    → is_done word ≡ false → MakesAll (puts_from old v x 0 n) old new word
written_stopped v x old n s now new word h lt step stop =
    let all : s + 1 + (n - (s + 1)) ≡ n = omega arith in
    subst (λ k. MakesAll (puts_from old v x 0 k) old new word) all
    (subst (λ es. MakesAll es old new word) (sym (puts_from-append old v x 0 (s + 1) (n - (s + 1))))
    (stopped (puts_from old v x 0 (s + 1)) (puts_from old v x (0 + (s + 1)) (n - (s + 1))) old new word (here_made v x old s now new word h step) stop))

pub all_written : (v : Variable) (x : ℕ) (old : WorldState) (n s : ℕ) (now : WorldState) → AreWritten v x old s now → s ≡ n → MakesAll (puts_from old v x 0 n) old now output.Nothing
all_written v x old n s now h is = subst (λ k. MakesAll (puts_from old v x 0 k) old now output.Nothing) is h.made

-- ---- one link

pub link_done : (v : Variable) (x s : ℕ) (l : Link) (bytes new : List ℕ) → is_to v s l ≡ true → new ≡ copied bytes l.object_bit (value_bytes x) (l.image - v.from) l.count → new ≡ with_link v x s l bytes
link_done v x s l bytes new is e = rw is e

pub link_passed : (v : Variable) (x s : ℕ) (l : Link) (bytes new : List ℕ) → is_to v s l ≡ false → new ≡ bytes → new ≡ with_link v x s l bytes
link_passed v x s l bytes new is e = rw is e

pub links_more : (v : Variable) (x s : ℕ) (links : List Link) (i : ℕ) (d : Link) (bytes new whole : List ℕ) → i < length links → with_links v x s (drop i links) bytes ≡ whole
    → new ≡ with_link v x s (get_or links i d) bytes → with_links v x s (drop (i + 1) links) new ≡ whole
links_more v x s links i d bytes new whole lt h is = ap (with_links v x s (drop (i + 1) links)) is ∙ links_at v x s links i d bytes whole lt h

-- ---- one slave

pub slave_none : (w : WorldState) (v : Variable) (x s : ℕ) → list_any (is_to v s) w.plan.in_links ≡ false → MakesAll (slave_puts w v x s) w w output.Nothing
slave_none w v x s none = rw none (refl, refl)

pub slave_made : (w new : WorldState) (v : Variable) (x s : ℕ) (word : LineOutput) (base bytes : List ℕ) → list_any (is_to v s) w.plan.in_links ≡ true → base ≡ inputs_read w s
    → bytes ≡ with_links v x s w.plan.in_links base → MakesAll (puts s 0 bytes) w new word → MakesAll (slave_puts w v x s) w new word
slave_made w new v x s word base bytes some read changed h =
    let e : bytes ≡ with_links v x s w.plan.in_links (inputs_read w s) = changed ∙ ap (with_links v x s w.plan.in_links) read in
    rw some (subst (λ (bs : List ℕ). MakesAll (puts s 0 bs) w new word) e h)
