-- The downloads to a slave of a sound table: those of its type, then its own.
use Rattle.std.proofs.Common.{◌≡◌, ℕ, List, [], ◌++◌, Option, Some, None, Result, Ok, Err, IfOk, All, slice_get, false, refl, arith, length-append, option_map, option_and_then, ap, sym, ◌∙◌, subst}
use Rattle.std.proofs.lemmas.List.Elements.{All-append, All-get_or}
use Rattle.std.proofs.lemmas.Option.{slice_get_within, get_or_from_slice_get}
use Rattle.ec_device.specs.declared.slave_type.Mailbox.{Mailbox}
use Rattle.ec_device.specs.declared.parameter.Parameter.{Parameter}
use Rattle.ec_device.specs.Types.{SlaveKind}
use Rattle.ec_device.specs.Parameters.{IsParameter, AreParameters}
use Rattle.std.specs.Option.{option_map_or}
use Rattle.ec_table.specs.declared.rows.SlaveRow.{SlaveRow}
use Rattle.ec_table.specs.declared.rows.TypeRow.{TypeRow}
use Rattle.ec_table.specs.Contents.{Contents}
use Rattle.ec_table.specs.Laws.{DownloadsFitTheType}
use Rattle.ec_table.specs.Objects.{type_of, own_init, kind_at, kind_of}
use Rattle.ec_table.specs.Sound.{IsSound, IsType, IsSlave, AreSlaves, IsDownload, AreDownloads}
use Rattle.ec_table.proofs.SoundRows.{type_at_place}

each_fits : (qs : List Parameter) → All IsDownload qs → All IsParameter qs
each_fits qs h k d lt = let one = h k d lt in record { index = omega (arith, one.index); subindex = omega (arith, one.subindex); value = one.value }

nothing : (m : Option Mailbox) (xs ys : List Parameter) → (m ≡ None → xs ≡ []) → (m ≡ None → ys ≡ []) → m ≡ None → xs ++ ys ≡ []
nothing m xs ys h k e = rw (h e, k e) refl

pub joined : (m : Option Mailbox) (xs ys : List Parameter) → AreDownloads m xs → AreDownloads m ys → AreParameters m (xs ++ ys)
joined m xs ys h k = record {
  few = omega (arith, h.few, k.few, length-append xs ys);
  each = All-append IsParameter xs ys (each_fits xs h.each) (each_fits ys k.each);
  mailbox = nothing m xs ys h.mailbox k.mailbox;
}

-- the type at a slave's place is its type
type_there : (c : Contents) (s : ℕ) (r : SlaveRow) (t : TypeRow) → slice_get c.slaves s ≡ Some r → type_of c s ≡ Some t → slice_get c.types r.type_index ≡ Some t
type_there c s r t is type = ap (λ (o : Option SlaveRow). option_and_then (λ (q : SlaveRow). slice_get c.types q.type_index) o) (sym is) ∙ type

pub joined_limits : (c : Contents) (s : ℕ) (r : SlaveRow) (t : TypeRow) → AreSlaves c.version c.types c.slaves → slice_get c.slaves s ≡ Some r → type_of c s ≡ Some t → IsType t → AreParameters t.mailbox (t.init ++ r.init)
joined_limits c s r t slaves is type sound =
    let row : IsSlave c.version c.types r = subst (IsSlave c.version c.types) (get_or_from_slice_get c.slaves s r r is) (All-get_or (IsSlave c.version c.types) c.slaves s r (slice_get_within c.slaves s r is) slaves.each) in
    joined t.mailbox t.init r.init sound.init (row.init t (type_there c s r t is type))

-- what was joined, by what its parts are
pub joined_as : {E : Type 0} (made : Result (List Parameter) E) (a b x y : List Parameter) → IfOk made (λ qs. qs ≡ a ++ b) → a ≡ x → b ≡ y → IfOk made (λ qs. qs ≡ x ++ y)
joined_as made a b x y h p q = subst (λ (xs : List Parameter). IfOk made (λ qs. qs ≡ xs ++ y)) p (subst (λ (ys : List Parameter). IfOk made (λ qs. qs ≡ a ++ ys)) q h)

-- what is known of a value is known of what was made as it
pub kept : {E : Type 0} (m : Option Mailbox) (made : Result (List Parameter) E) (qs : List Parameter) → IfOk made (λ xs. xs ≡ qs) → AreParameters m qs → IfOk made (AreParameters m)
kept m (Ok xs) qs is fits = subst (AreParameters m) (sym is) fits
kept m (Err e) qs is fits = tt

-- ---- of a kind

pub record Made (c : Contents) (s : ℕ) (k : SlaveKind) : Type 0 where
  pub slave : SlaveRow
  pub type : TypeRow
  pub here : slice_get c.slaves s ≡ Some slave
  pub there : type_of c s ≡ Some type
  pub is : kind_at c s type ≡ k

from_type : (c : Contents) (s : ℕ) (k : SlaveKind) (o : Option SlaveRow) (t : Option TypeRow) → slice_get c.slaves s ≡ o → type_of c s ≡ t → option_map (kind_at c s) t ≡ Some k → Made c s k
from_type c s k o None a b e = absurd (let z : None ≡ Some k = e in cc)
from_type c s k (Some r) (Some t) a b e = record { slave = r; type = t; here = a; there = b; is = let z : kind_at c s t ≡ k = cc in z }
from_type c s k None (Some t) a b e =
    let none : type_of c s ≡ None = ap (λ (o : Option SlaveRow). option_and_then (λ (q : SlaveRow). slice_get c.types q.type_index) o) a in
    absurd (let z : None ≡ Some t = sym none ∙ b in cc)

made : (c : Contents) (s : ℕ) (k : SlaveKind) → kind_of c s ≡ Some k → Made c s k
made c s k e = from_type c s k (slice_get c.slaves s) (type_of c s) refl refl e

pub own_is : (c : Contents) (s : ℕ) (r : SlaveRow) → slice_get c.slaves s ≡ Some r → own_init c s ≡ r.init
own_is c s r is = ap (λ (o : Option SlaveRow). option_map_or (λ (q : SlaveRow). q.init) o []) is

limits : (c : Contents) (s : ℕ) (k : SlaveKind) → IsSound c → kind_of c s ≡ Some k → AreParameters k.mailbox k.init
limits c s k sound e =
    let m : Made c s k = made c s k e in
    let type : IsType m.type = type_at_place c.types m.slave.type_index m.type sound.types (type_there c s m.slave m.type m.here m.there) in
    let fits : AreParameters m.type.mailbox (m.type.init ++ own_init c s)
    = subst (λ (qs : List Parameter). AreParameters m.type.mailbox (m.type.init ++ qs)) (sym (own_is c s m.slave m.here)) (joined_limits c s m.slave m.type sound.slaves m.here m.there type) in
    subst (λ (y : SlaveKind). AreParameters y.mailbox y.init) m.is fits

none : (c : Contents) (s : ℕ) (k : SlaveKind) → IsSound c → kind_of c s ≡ Some k → c.hardware ≡ false → k.init ≡ []
none c s k sound e plain =
    let m : Made c s k = made c s k e in
    let at : slice_get c.types m.slave.type_index ≡ Some m.type = type_there c s m.slave m.type m.here m.there in
    let first : m.type.init ≡ []
    = subst (λ (t : TypeRow). t.init ≡ []) (get_or_from_slice_get c.types m.slave.type_index m.type m.type at) (sound.format.type_init plain m.slave.type_index m.type (slice_get_within c.types m.slave.type_index m.type at)) in
    let second : m.slave.init ≡ []
    = subst (λ (r : SlaveRow). r.init ≡ []) (get_or_from_slice_get c.slaves s m.slave m.slave m.here) (sound.format.slave_init plain s m.slave (slice_get_within c.slaves s m.slave m.here)) in
    let both : m.type.init ++ own_init c s ≡ [] = rw (first, own_is c s m.slave m.here) second in
    ap (λ (y : SlaveKind). y.init) (sym m.is) ∙ both

pub downloads_fit : DownloadsFitTheType
downloads_fit = record { limits = limits; none = none }
