-- A segment that is served.
use Rattle.std.proofs.Common.{◌≡◌, ◌∙◌, ap, inl, inr, ℕ, List, refl, sym, subst, Option, Some, None, Result, Ok, Err}
use Rattle.std.specs.Result.{IsErrAnd}
use Rattle.ec_slave.specs.State.{SlaveState}
use Rattle.ec_wire.specs.Wires.{IsOpened, SocketState, WireState, silent}
use Rattle.ec_wire.specs.Segments.{HasServed, WasCutOff}
use Rattle.ec_wire.specs.declared.trouble.Trouble.{Trouble}
use Rattle.ec_wire.proofs.ServedSlaves.{all_treated_by}
use Rattle.ec_console.specs.declared.refusal.Refusal.{Refusal}
use Rattle.ec_console.specs.declared.refusal.Refusal.TheVariants as refusal
use Rattle.ec_console.specs.Printing.{IsPrinted, IsEprinted, OutputState, PrintsText}
use Rattle.ec_console.specs.Refusals.{IsSocket}
use Rattle.ec_live.specs.Doing.{served_line}
use Rattle.cmd_segment.specs.Opening.{TellsOpened, TellsPort, listening_line}
use Rattle.cmd_segment.specs.Serving.{IsUnmade, IsUnopened, ServedAll, ServedSome, ServesOpened, ServesSegment, any_inputs}

-- ---- what is printed

-- all payloads came
pub all_served : (r : Result Unit Refusal) (frames : Option ℕ) (answered refused : ℕ) (may_produce : List ℕ → List ℕ → Type 0) (first last : List SlaveState) (before after : WireState) (old new : OutputState)
    → ServedAll frames may_produce first last before after answered refused → PrintsText (served_line answered refused) old new r
    → ServesSegment frames may_produce first last before after old new r
all_served (Ok done) frames answered refused may_produce first last before after old new h printed = (answered, refused, h, printed)
all_served (Err e) frames answered refused may_produce first last before after old new h printed =
    subst (λ (x : Refusal). ServesSegment frames may_produce first last before after old new (Err x)) (sym printed.0) (answered, refused, inl h, printed.1)

-- a fault of the wire, and the counts are printed
pub some_served : (r : Result Unit Refusal) (trouble : Trouble) (frames : Option ℕ) (answered refused : ℕ) (may_produce : List ℕ → List ℕ → Type 0) (first last : List SlaveState) (before after : WireState)
    (old new : OutputState) → ServedSome frames may_produce first last before after answered refused → IsPrinted old new (served_line answered refused) → r ≡ Err (refusal.Socket trouble)
    → ServesSegment frames may_produce first last before after old new r
some_served r trouble frames answered refused may_produce first last before after old new h printed is =
    subst (ServesSegment frames may_produce first last before after old new) (sym is) (answered, refused, h, printed)

-- or they can't be
pub served_unprinted : (r s : Result Unit Refusal) (x : Refusal) (frames : Option ℕ) (answered refused : ℕ) (may_produce : List ℕ → List ℕ → Type 0) (first last : List SlaveState) (before after : WireState)
    (old new : OutputState) → ServedSome frames may_produce first last before after answered refused → IsErrAnd r (λ e. e ≡ x) → s ≡ Err x → PrintsText (served_line answered refused) old new s
    → ServesSegment frames may_produce first last before after old new r
served_unprinted (Ok done) s x frames answered refused may_produce first last before after old new h is err printed = absurd is
served_unprinted (Err e) s x frames answered refused may_produce first last before after old new h is err printed =
    let told = subst (PrintsText (served_line answered refused) old new) err printed in
    subst (λ (y : Refusal). ServesSegment frames may_produce first last before after old new (Err y)) (sym (is ∙ told.0)) (answered, refused, inr h, told.1)

-- ---- whatever the application makes

served-any : (may_produce : List ℕ → List ℕ → Type 0) (first last : List SlaveState) (before after : WireState) (frames answered refused : ℕ) → HasServed may_produce first last before after frames answered refused
    → HasServed any_inputs first last before after frames answered refused
served-any may_produce first last before after frames answered refused h = record {
  got = h.got;
  sent = h.sent;
  carried = h.carried;
  treated = all_treated_by may_produce any_inputs first last h.got h.sent (λ o i made. tt) h.treated;
  all = h.all;
  answers = h.answers;
  others = h.others;
}

cut-any : (may_produce : List ℕ → List ℕ → Type 0) (first last : List SlaveState) (before after : WireState) (frames answered refused : ℕ) → WasCutOff may_produce first last before after frames answered refused
    → WasCutOff any_inputs first last before after frames answered refused
cut-any may_produce first last before after frames answered refused h = record {
  got = h.got;
  sent = h.sent;
  lost = h.lost;
  carried = h.carried;
  treated = all_treated_by may_produce any_inputs first last h.got _ (λ o i made. tt) h.treated;
  one_lost = h.one_lost;
  few = h.few;
  answers = h.answers;
  others = h.others;
  fault = h.fault;
}

all-any : (frames : Option ℕ) (may_produce : List ℕ → List ℕ → Type 0) (first last : List SlaveState) (before after : WireState) (answered refused : ℕ)
    → ServedAll frames may_produce first last before after answered refused → ServedAll frames any_inputs first last before after answered refused
all-any frames may_produce first last before after answered refused h = (h.0, h.1, served-any may_produce first last before after h.0 answered refused h.2)

some-any : (frames : Option ℕ) (may_produce : List ℕ → List ℕ → Type 0) (first last : List SlaveState) (before after : WireState) (answered refused : ℕ)
    → ServedSome frames may_produce first last before after answered refused → ServedSome frames any_inputs first last before after answered refused
some-any frames may_produce first last before after answered refused h = (h.0, h.1, cut-any may_produce first last before after h.0 answered refused h.2)

serves-any : (r : Result Unit Refusal) (frames : Option ℕ) (may_produce : List ℕ → List ℕ → Type 0) (first last : List SlaveState) (before after : WireState) (old new : OutputState)
    → ServesSegment frames may_produce first last before after old new r → ServesSegment frames any_inputs first last before after old new r
serves-any (Ok done) frames may_produce first last before after old new h = (h.0, h.1, all-any frames may_produce first last before after h.0 h.1 h.2, h.3)
serves-any (Err (refusal.Socket trouble)) frames may_produce first last before after old new h = (h.0, h.1, some-any frames may_produce first last before after h.0 h.1 h.2, h.3)
serves-any (Err refusal.Output) frames may_produce first last before after old new (a, b, inl h, part) = (a, b, inl (all-any frames may_produce first last before after a b h), part)
serves-any (Err refusal.Output) frames may_produce first last before after old new (a, b, inr h, part) = (a, b, inr (some-any frames may_produce first last before after a b h), part)
serves-any (Err refusal.Memory) frames may_produce first last before after old new h = absurd h
serves-any (Err (refusal.Frame e)) frames may_produce first last before after old new h = absurd h
serves-any (Err (refusal.Table e)) frames may_produce first last before after old new h = absurd h
serves-any (Err (refusal.Link e)) frames may_produce first last before after old new h = absurd h
serves-any (Err (refusal.Start e)) frames may_produce first last before after old new h = absurd h
serves-any (Err (refusal.Run e)) frames may_produce first last before after old new h = absurd h
serves-any (Err (refusal.Script e)) frames may_produce first last before after old new h = absurd h
serves-any (Err refusal.BadHex) frames may_produce first last before after old new h = absurd h
serves-any (Err refusal.Input) frames may_produce first last before after old new h = absurd h
serves-any (Err (refusal.Unmet n)) frames may_produce first last before after old new h = absurd h
serves-any (Err (refusal.Unsaid n)) frames may_produce first last before after old new h = absurd h

-- ---- a wire that is opened

-- a port that is listened on
pub tells_port : (octets : List ℕ) (asked : ℕ) (socket : SocketState) (port : ℕ) (quiet told : OutputState) → IsOpened asked socket → port ≡ socket.port
    → IsEprinted (listening_line octets port) quiet told → TellsPort octets asked quiet told
tells_port octets asked socket port quiet told opened is line = (port, (λ some. is ∙ opened.port some), line)

pub tells_card : (given : Option ℕ) (n : ℕ) (octets : List ℕ) (asked : ℕ) (quiet : OutputState) → given ≡ Some n → TellsOpened given octets asked quiet quiet
tells_card given n octets asked quiet is = subst (λ (o : Option ℕ). TellsOpened o octets asked quiet quiet) (sym is) refl

pub tells_opened : (given : Option ℕ) (octets : List ℕ) (asked : ℕ) (quiet told : OutputState) → given ≡ None → TellsPort octets asked quiet told → TellsOpened given octets asked quiet told
tells_opened given octets asked quiet told is h = subst (λ (o : Option ℕ). TellsOpened o octets asked quiet told) (sym is) h

-- ---- the whole

pub no_slaves : (r : Result Unit Refusal) (old quiet : OutputState) → IsErrAnd r (λ e. e ≡ refusal.Memory) → IsUnmade old old quiet quiet r
no_slaves (Ok done) old quiet is = absurd is
no_slaves (Err e) old quiet is = (ap (λ (x : Refusal). Err x) is, refl, refl)

-- there is no such socket, and nothing was printed
pub unopened : (r : Result Unit Refusal) (trouble : Trouble) (old quiet told : OutputState) → IsErrAnd r (λ e. e ≡ refusal.Socket trouble) → told ≡ quiet → IsUnopened old old quiet told r
unopened (Ok done) trouble old quiet told is same = absurd is
unopened (Err e) trouble old quiet told is same = record {
  refused = subst IsSocket (sym is) tt;
  printed = refl;
  stderr = same;
}

pub opened_serves : (r : Result Unit Refusal) (frames : Option ℕ) (opened closed : WireState) (old new : OutputState) (may_produce : List ℕ → List ℕ → Type 0) (first last : List SlaveState)
    → opened ≡ silent 0 → ServesSegment frames may_produce first last opened closed old new r → ServesOpened frames first old new r
opened_serves r frames opened closed old new may_produce first last fresh serves = record {
  closed = closed;
  last = last;
  serves = subst (λ (w : WireState). ServesSegment frames any_inputs first last w closed old new r) fresh (serves-any r frames may_produce first last opened closed old new serves);
}

-- payloads answered on a wire where they are noted are answered on the wire
pub tapped_serves : {W : Type 0} (state : W → WireState) (frames : Option ℕ) (may_produce : List ℕ → List ℕ → Type 0) (slaves served : List SlaveState) (first began after : WireState) (last : W)
    (old new : OutputState) (r : Result Unit Refusal) → began ≡ first → state last ≡ after → ServesSegment frames may_produce slaves served began after old new r
    → (x : W) × ServesSegment frames may_produce slaves served first (state x) old new r
tapped_serves state frames may_produce slaves served first began after last old new r same is serves = (
  last,
  subst (λ (w : WireState). ServesSegment frames may_produce slaves served first w old new r) (sym is)
      (subst (λ (w : WireState). ServesSegment frames may_produce slaves served w after old new r) same serves),
)
