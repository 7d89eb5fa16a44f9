-- The slaves of a table, as they are switched on, are devices of their types.
use Rattle.ec_bringup.proofs.Words.{ℕ, zero, suc, ◌<◌, ◌≡◌, Option, Some, None, refl, sym, ◌∙◌, ap, subst, arith, List, [], ◌∷◌, length, get_or, slice_get, option_map, option_and_then, is_some, unwrap_or, false≢true, SlaveKind, plain_kind, device_identity, Identity, SlaveRow, TypeRow, Contents, plan_of, plan_sound, SlavePlan, plan_at, slave_of, IsOfType, IsGenuine, AreGenuine, no_identity, bringup_switched_on, IdentitiesLaw, TypedSlavesLaw, SlavesOfLaw}
use Rattle.ec_table.specs.Objects as objects
use Rattle.ec_bringup.proofs.OneSlave.DevicesLaw.{switched_on}

-- ---- what a table says of a slave

-- with that of its type, the identity is that of a device of the type
typed : (t : Contents) (k serial : ℕ) (o : Option TypeRow) (x : Identity) → option_map (λ (y : TypeRow). device_identity y.device serial) o ≡ Some x
    → IsOfType (unwrap_or (option_map (objects.kind_at t k) o) plain_kind) x
typed t k serial None x e = absurd (false≢true (ap (λ (o : Option Identity). is_some o) e))
typed t k serial (Some y) x e =
    let is : x ≡ device_identity y.device serial = ap (λ (o : Option Identity). unwrap_or o x) (sym e) in
    record {
      vendor = ap (λ (i : Identity). i.vendor) is;
      product = ap (λ (i : Identity). i.product) is;
      revision = λ named. ap (λ (i : Identity). i.revision) is;
    }

abbrev type_in : Contents → Option SlaveRow → Option TypeRow
type_in t o = option_and_then (λ (r : SlaveRow). slice_get t.types r.type_index) o

abbrev identity_in : Contents → Option SlaveRow → Option Identity
identity_in t o = option_and_then (λ (r : SlaveRow). option_map (λ (y : TypeRow). device_identity y.device r.serial) (slice_get t.types r.type_index)) o

-- where it shows an identity there is a row of it
told : (t : Contents) (k : ℕ) (o : Option SlaveRow) (x : Identity) → identity_in t o ≡ Some x
    → (r : SlaveRow) × (o ≡ Some r) × IsOfType (unwrap_or (option_map (objects.kind_at t k) (type_in t o)) plain_kind) x
told t k None x e = absurd (false≢true (ap (λ (o : Option Identity). is_some o) e))
told t k (Some r) x e = (r, refl, typed t k r.serial (slice_get t.types r.type_index) x e)

-- each identity of a table is that of a device of its slave's type
pub of-types : IdentitiesLaw
of-types t sound free is h k l =
    let of = told t k (slice_get t.slaves k) (get_or is k no_identity) (h.each k l) in
    subst (λ (y : SlaveKind). IsOfType y (get_or is k no_identity)) (sym ((plan_sound t sound free).each k of.0 of.1).kind) of.2

-- ---- slave after slave

count-on : (ps : List SlavePlan) (is : List Identity) → length is ≡ length ps → length (bringup_switched_on ps is) ≡ length ps
count-on [] is e = refl
count-on (p ∷ ps) [] e = absurd (omega (arith, e))
count-on (p ∷ ps) (i ∷ is) e = ap (λ (n : ℕ). suc n) (count-on ps is (omega (arith, e)))

each-on : (ps : List SlavePlan) (is : List Identity) → length is ≡ length ps → ((k : ℕ) → k < length ps → IsOfType (plan_at ps k).kind (get_or is k no_identity))
    → (k : ℕ) → k < length ps → IsGenuine (plan_at ps k).kind (slave_of (bringup_switched_on ps is) k)
each-on [] is e h k l = absurd (omega (arith, l))
each-on (p ∷ ps) [] e h k l = absurd (omega (arith, e))
each-on (p ∷ ps) (i ∷ is) e h zero l = switched_on p.kind i (h 0 (omega arith))
each-on (p ∷ ps) (i ∷ is) e h (suc k) l = each-on ps is (omega (arith, e)) (λ n m. h (suc n) (omega (arith, m))) k (omega (arith, l))

pub with-types : TypedSlavesLaw
with-types t sound free is e h =
    let plan = plan_sound t sound free in
    let many = plan.as_many in
    let few = plan.few in
    let same : length is ≡ length (plan_of t).slaves = e ∙ sym many in
    record {
      count = count-on (plan_of t).slaves is same;
      few = omega (arith, few, many);
      each = each-on (plan_of t).slaves is same (λ k l. h k (omega (arith, l, many)));
    }

pub slaves_of : SlavesOfLaw
slaves_of t sound free ss h =
    let is = h.identities in
    subst (AreGenuine (plan_of t).slaves) (sym h.are) (with-types t sound free is h.shown.one_each (of-types t sound free is h.shown))
