-- What a payload and a line do to a live segment.
use Rattle.std.proofs.Common.{◌≡◌, ◌∙◌, inl, inr, ℕ, ◌≢◌, ◌==◌, ◌&&◌, List, [], ◌∷◌, ◌++◌, length, not, nat_lt, Bool, true, false, Option, Result, Ok, Err, IfOk, OnErr, refl, sym, ap, subst, arith}
use Rattle.std.specs.Prelude.{codes}
use Rattle.std.specs.List.{list_all}
use Rattle.std.proofs.lemmas.List.Elements.{All-cons, All-nil}
use Rattle.ec_ring.specs.Rings.{IsNoFrame}
use Rattle.ec_table.specs.Contents.{Contents}
use Rattle.ec_world.specs.World.{WorldState}
use Rattle.ec_world.specs.Outside.{IsCarried}
use Rattle.ec_world.specs.declared.event.Event.{Event}
use Rattle.ec_script.specs.declared.line.Step.{Step}
use Rattle.ec_script.specs.declared.line.LineAction.{LineAction}
use Rattle.ec_script.specs.declared.line.LineAction.TheVariants as act
use Rattle.ec_script.specs.declared.output.LineOutput.{LineOutput}
use Rattle.ec_script.specs.declared.output.LineOutput.TheVariants.{No, Nothing}
use Rattle.ec_script.specs.Outputs.{answer_of, is_counted}
use Rattle.ec_start.specs.Running.{outcome_of}
use Rattle.ec_console.specs.declared.wanted.Manner.{Manner}
use Rattle.ec_console.specs.Reasons.{ReasonIf}
use Rattle.ec_console.specs.Unmet.{unmet_of}
use Rattle.cmd_sim.specs.Simulating.{IsLineText, Simulated, Simulates, is_reasoned}
use Rattle.ec_live.specs.Cyclic.{cyclic_part}
use Rattle.ec_live.specs.Doing.{SaysAction, SaysInWorld, Tells, TellsServed}
use Rattle.ec_live.specs.Drops.{DropState, dropping, dropping_part, is_dropped}
use Rattle.ec_live.specs.Meeting.{Meets}
use Rattle.ec_live.specs.Stages.{IsReturned}
use Rattle.ec_live.specs.State.{LiveState, one_more}
use Rattle.ec_live.proofs.Dropping.{nothing_dropped}

-- ---- a payload

-- a payload that isn't dropped is answered, if it is a frame
pub meets_answered : (s t : LiveState) (payload answer : List ℕ) (world : WorldState) → IsReturned s payload → IsCarried s.world payload world answer → t ≡ record s { world = world; answered = one_more s.answered }
    → Meets s payload t (answer ∷ [])
meets_answered s t payload answer world kept carried is = inr (inr (record { kept = kept; world = world; answer = answer; carried = carried; is = is; answered = refl }))

pub meets_refused : (s t : LiveState) (payload : List ℕ) → IsNoFrame payload → t ≡ record s { refused = one_more s.refused } → Meets s payload t []
meets_refused s t payload none is = inl (record { none = none; is = is; silent = refl })

-- no frame is to be dropped
pub kept_none : (s : LiveState) (payload : List ℕ) → ((part : Option ℕ) → is_dropped s.drops part ≡ false) → IsReturned s payload
kept_none s payload none frame spelled = none (cyclic_part s.world.plan.parts frame.datagrams)

-- nothing is pending, so it is no frame that is dropped
pub kept_idle : (s v : LiveState) (payload : List ℕ) (pending : Bool) → v ≡ s → pending ≡ not ((v.drops.any == 0) && list_all (λ n. n == 0) v.drops.parts) → pending ≡ false → IsReturned s payload
kept_idle s v payload pending is idle none =
    subst (λ (x : LiveState). IsReturned x payload) is (kept_none v payload (λ part. nothing_dropped v.drops part (sym idle ∙ none)))

-- ---- a segment, by its parts

abbrev pub live_of : {S : Type 0} → Simulated S → DropState → ℕ → ℕ → LiveState
live_of {S} m drops answered refused = record { world = m.world; table = m.table; manner = m.manner; drops = drops; answered = answered; refused = refused }

-- a payload that its simulation carries
pub meets_carried : {S : Type 0} (s : LiveState) (a b : Simulated S) (drops : DropState) (answered refused more : ℕ) (payload answer : List ℕ) → live_of a drops answered refused ≡ s → IsReturned s payload
    → IsCarried a.world payload b.world answer → b ≡ record a { world = b.world } → more ≡ one_more answered → Meets s payload (live_of b drops more refused) (answer ∷ [])
meets_carried {S} s a b drops answered refused more payload answer is kept carried others counts =
    subst (λ (x : LiveState). Meets x payload (live_of b drops more refused) (answer ∷ [])) is
    (meets_answered (live_of a drops answered refused) (live_of b drops more refused) payload answer b.world (subst (λ (x : LiveState). IsReturned x payload) (sym is) kept) carried
    (ap (λ (m : Simulated S). live_of m drops more refused) others ∙ ap (λ (n : ℕ). live_of (record a { world = b.world }) drops n refused) counts))

-- ---- a line

-- a line that its simulation obeys
pub world_obeys : {S : Type 0} (observed : S → WorldState → Event → WorldState → S → Type 0) (a b : Simulated S) (drops : DropState) (answered refused : ℕ) (s : LiveState) (line : Step) (text : List ℕ) (unmet : ℕ)
    → live_of a drops answered refused ≡ s → Simulates observed a line b text unmet → SaysInWorld s line (live_of b drops answered refused) text unmet
world_obeys {S} observed a b drops answered refused s line text unmet is h =
    subst (λ (x : LiveState). SaysInWorld x line (live_of b drops answered refused) text unmet) is (record {
      says = h.says;
      plan = h.plan;
      is = ap (λ (t : Contents). record { world = b.world; table = t; manner = b.manner; drops = drops; answered = answered; refused = refused }) h.table
          ∙ ap (λ (r : Manner). record { world = b.world; table = a.table; manner = r; drops = drops; answered = answered; refused = refused }) h.manner;
    })

-- what an action says is what a line with it says
pub says_as : (action other : LineAction) (s t : LiveState) (line : Step) (text : List ℕ) (unmet : ℕ) → action ≡ other → SaysAction other s line t text unmet → SaysAction action s line t text unmet
says_as action other s t line text unmet is h = subst (λ (a : LineAction). SaysAction a s line t text unmet) (sym is) h

-- frames of a part are dropped
pub part_dropped : (n k : ℕ) (s t : LiveState) (line : Step) (text : List ℕ) (unmet : ℕ) → nat_lt k (length s.drops.parts) ≡ true → Tells Nothing (record s { drops = dropping_part n k s.drops }) line t text unmet
    → SaysAction (act.LosePart n k) s line t text unmet
part_dropped n k s t line text unmet there h = rw there h

-- or there is no such part
pub part_missing : (n k : ℕ) (s t : LiveState) (line : Step) (text : List ℕ) (unmet : ℕ) → nat_lt k (length s.drops.parts) ≡ false → Tells No s line t text unmet → SaysAction (act.LosePart n k) s line t text unmet
part_missing n k s t line text unmet none h = rw none h

-- an action that isn't the segment's own
pub says_else : (action : LineAction) (s t : LiveState) (line : Step) (text : List ℕ) (unmet : ℕ) → ((n : ℕ) → action ≢ act.Lose n) → ((n k : ℕ) → action ≢ act.LosePart n k) → action ≢ act.Served
    → SaysInWorld s line t text unmet → SaysAction action s line t text unmet
says_else (act.Lose n) s t line text unmet no_lose no_part no_served h = absurd (no_lose n refl)
says_else (act.LosePart n k) s t line text unmet no_lose no_part no_served h = absurd (no_part n k refl)
says_else act.Served s t line text unmet no_lose no_part no_served h = absurd (no_served refl)
says_else _ s t line text unmet no_lose no_part no_served h = h

-- what its simulation says
pub said_else : {S V E : Type 0} (observed : S → WorldState → Event → WorldState → S → Type 0) (r : Result V E) (text : V → List ℕ) (unmet : V → ℕ) (a b : Simulated S) (drops : DropState) (answered refused : ℕ)
    (s : LiveState) (line : Step) → live_of a drops answered refused ≡ s → ((n : ℕ) → line.action ≢ act.Lose n) → ((n k : ℕ) → line.action ≢ act.LosePart n k) → line.action ≢ act.Served
    → IfOk r (λ v. Simulates observed a line b (text v) (unmet v)) → IfOk r (λ v. SaysAction line.action s line (live_of b drops answered refused) (text v) (unmet v))
said_else {S} {V} {E} observed (Ok v) text unmet a b drops answered refused s line is no_lose no_part no_served h =
    says_else line.action s (live_of b drops answered refused) line (text v) (unmet v) no_lose no_part no_served (world_obeys observed a b drops answered refused s line (text v) (unmet v) is h)
said_else {S} {V} {E} observed (Err e) text unmet a b drops answered refused s line is no_lose no_part no_served h = tt

pub unsaid_else : {S V E : Type 0} (observed : S → WorldState → Event → WorldState → S → Type 0) (r : Result V E) (a b : Simulated S) (drops : DropState) (answered refused : ℕ)
    (s : LiveState) (line : Step) → live_of a drops answered refused ≡ s → ((n : ℕ) → line.action ≢ act.Lose n) → ((n k : ℕ) → line.action ≢ act.LosePart n k) → line.action ≢ act.Served
    → OnErr r ((text : List ℕ) × (unmet : ℕ) × Simulates observed a line b text unmet)
    → OnErr r ((text : List ℕ) × (unmet : ℕ) × SaysAction line.action s line (live_of b drops answered refused) text unmet)
unsaid_else {S} {V} {E} observed (Ok v) a b drops answered refused s line is no_lose no_part no_served h = tt
unsaid_else {S} {V} {E} observed (Err e) a b drops answered refused s line is no_lose no_part no_served (text, unmet, h) =
    (text, unmet, says_else line.action s (live_of b drops answered refused) line text unmet no_lose no_part no_served (world_obeys observed a b drops answered refused s line text unmet is h))

-- a text that may stand behind it
some_words : ◌≢◌ {A = List ℕ} (63 ∷ []) []
some_words is = let e : ◌≡◌ {A = List ℕ} (63 ∷ []) [] = is in cc

no_end : (b : ℕ) → b ≡ 63 → b ≢ 10
no_end b is end = absurd (omega arith)

some_why : (b : Bool) → (why : List ℕ) × ReasonIf b why
some_why false = ([], refl)
some_why true = (
  codes "  " ++ (63 ∷ [] ++ (10 ∷ [])),
  record { words = 63 ∷ []; some = some_words; on_one_line = All-cons (λ b. b ≢ 10) 63 [] (no_end 63 refl) (All-nil (λ b. b ≢ 10)); is = refl },
)

-- what a step tells, by its text
pub told_by : (u t : LiveState) (line : Step) (said answer : LineOutput) (text : List ℕ) (unmet : ℕ) → t ≡ u → answer ≡ answer_of line.expects_no said → IsLineText u.manner u.table line.number u.world answer text
    → unmet ≡ unmet_of (is_counted u.manner.strict (outcome_of u.world.start.phase) answer) → Tells said u line t text unmet
told_by u t line said answer text unmet same is prints counts =
    by (subst (λ (o : LineOutput). IsLineText u.manner u.table line.number u.world o text) is prints) (counts ∙ ap (λ (o : LineOutput). unmet_of (is_counted u.manner.strict (outcome_of u.world.start.phase) o)) is)
  where
    by : IsLineText u.manner u.table line.number u.world (answer_of line.expects_no said) text → unmet ≡ unmet_of (is_counted u.manner.strict (outcome_of u.world.start.phase) (answer_of line.expects_no said))
        → Tells said u line t text unmet
    by (why, reason, is_text) count = record { is = same; why = why; reason = reason; text = is_text; count = count }

-- by what its simulation returns
pub told_in : {S : Type 0} (a : Simulated S) (drops : DropState) (answered refused : ℕ) (u : LiveState) (line : Step) (said answer : LineOutput) (text : List ℕ) (is_one : Bool)
    → live_of a drops answered refused ≡ u → answer ≡ answer_of line.expects_no said → IsLineText a.manner a.table line.number a.world answer text
    → is_one ≡ is_counted a.manner.strict (outcome_of a.world.start.phase) answer → Tells said u line u text (unmet_of is_one)
told_in {S} a drops answered refused u line said answer text is_one is is_answer prints counts =
    let v = live_of a drops answered refused in
    subst (λ (x : LiveState). Tells said x line x text (unmet_of is_one)) is (told_by v v line said answer text (unmet_of is_one) refl is_answer prints (ap unmet_of counts))

-- a text that it may have, if there is no memory for it
pub some_tells : (said : LineOutput) (u t : LiveState) (line : Step) → t ≡ u → (text : List ℕ) × (unmet : ℕ) × Tells said u line t text unmet
some_tells said u t line same =
    let why = some_why (is_reasoned u.manner (answer_of line.expects_no said)) in
    (_, _, record { is = same; why = why.0; reason = why.1; text = refl; count = refl })

pub some_served : (s : LiveState) (line : Step) (expects_no : Bool) → (text : List ℕ) × (unmet : ℕ) × TellsServed expects_no s line s text unmet
some_served s line false = (_, 0, (refl, refl, refl))
some_served s line true = some_tells Nothing s s line refl

-- frames of a part are dropped or not, if there is no memory for the text
pub some_part : (n k : ℕ) (s t : LiveState) (line : Step) (there : Bool) → there ≡ nat_lt k (length s.drops.parts) → (there ≡ true → t ≡ record s { drops = dropping_part n k s.drops }) → (there ≡ false → t ≡ s)
    → (text : List ℕ) × (unmet : ℕ) × SaysAction (act.LosePart n k) s line t text unmet
some_part n k s t line true there dropped none =
    let told = some_tells Nothing (record s { drops = dropping_part n k s.drops }) t line (dropped refl) in
    (told.0, told.1, part_dropped n k s t line told.0 told.1 (sym there) told.2)
some_part n k s t line false there dropped none =
    let told = some_tells No s t line (none refl) in
    (told.0, told.1, part_missing n k s t line told.0 told.1 (sym there) told.2)

-- a segment that is to drop other frames
pub drops_next : {S : Type 0} (a : Simulated S) (old new : DropState) (answered refused n : ℕ) (s : LiveState) → live_of a old answered refused ≡ s → new ≡ dropping n old
    → live_of a new answered refused ≡ record s { drops = dropping n s.drops }
drops_next {S} a old new answered refused n s is drops =
    subst (λ (x : LiveState). live_of a new answered refused ≡ record x { drops = dropping n x.drops }) is (ap (λ (d : DropState). live_of a d answered refused) drops)

pub drops_of_part : {S : Type 0} (a : Simulated S) (old new : DropState) (answered refused n k : ℕ) (s : LiveState) → live_of a old answered refused ≡ s → new ≡ dropping_part n k old
    → live_of a new answered refused ≡ record s { drops = dropping_part n k s.drops }
drops_of_part {S} a old new answered refused n k s is drops =
    subst (λ (x : LiveState). live_of a new answered refused ≡ record x { drops = dropping_part n k x.drops }) is (ap (λ (d : DropState). live_of a d answered refused) drops)

pub drops_same : {S : Type 0} (a : Simulated S) (old new : DropState) (answered refused : ℕ) (s : LiveState) → live_of a old answered refused ≡ s → new ≡ old → live_of a new answered refused ≡ s
drops_same {S} a old new answered refused s is same = ap (λ (d : DropState). live_of a d answered refused) same ∙ is

pub has_part : {S : Type 0} (a : Simulated S) (old : DropState) (answered refused k : ℕ) (s : LiveState) (there : Bool) → live_of a old answered refused ≡ s → there ≡ nat_lt k (length old.parts)
    → there ≡ nat_lt k (length s.drops.parts)
has_part {S} a old answered refused k s there is h = h ∙ ap (λ (x : LiveState). nat_lt k (length x.drops.parts)) is

-- what is told of the segment as it is now
pub tells_as : {V E : Type 0} (r : Result V E) (text : V → List ℕ) (unmet : V → ℕ) (said : LineOutput) (u v : LiveState) (line : Step) → v ≡ u → IfOk r (λ x. Tells said v line v (text x) (unmet x))
    → IfOk r (λ x. Tells said u line v (text x) (unmet x))
tells_as {V} {E} (Ok x) text unmet said u v line is h = subst (λ (w : LiveState). Tells said w line v (text x) (unmet x)) is h
tells_as {V} {E} (Err e) text unmet said u v line is h = tt

pub part_told : {V E : Type 0} (r : Result V E) (text : V → List ℕ) (unmet : V → ℕ) (n k : ℕ) (s v : LiveState) (line : Step) → nat_lt k (length s.drops.parts) ≡ true → v ≡ record s { drops = dropping_part n k s.drops }
    → IfOk r (λ x. Tells Nothing v line v (text x) (unmet x)) → IfOk r (λ x. SaysAction (act.LosePart n k) s line v (text x) (unmet x))
part_told {V} {E} (Ok x) text unmet n k s v line there is h = part_dropped n k s v line (text x) (unmet x) there (subst (λ (w : LiveState). Tells Nothing w line v (text x) (unmet x)) is h)
part_told {V} {E} (Err e) text unmet n k s v line there is h = tt

pub part_untold : {V E : Type 0} (r : Result V E) (text : V → List ℕ) (unmet : V → ℕ) (n k : ℕ) (s v : LiveState) (line : Step) → nat_lt k (length s.drops.parts) ≡ false → v ≡ s
    → IfOk r (λ x. Tells No v line v (text x) (unmet x)) → IfOk r (λ x. SaysAction (act.LosePart n k) s line v (text x) (unmet x))
part_untold {V} {E} (Ok x) text unmet n k s v line none is h = part_missing n k s v line (text x) (unmet x) none (subst (λ (w : LiveState). Tells No w line v (text x) (unmet x)) is h)
part_untold {V} {E} (Err e) text unmet n k s v line none is h = tt

-- what is said of an error
pub on_err : {A E : Type 0} (P Q : Type 0) (r : Result A E) → (P → Q) → OnErr r P → OnErr r Q
on_err {A} {E} P Q (Ok x) f h = h
on_err {A} {E} P Q (Err e) f h = f h

pub on_any : {A E : Type 0} (P : Type 0) (r : Result A E) → P → OnErr r P
on_any {A} {E} P (Ok x) h = tt
on_any {A} {E} P (Err e) h = h
