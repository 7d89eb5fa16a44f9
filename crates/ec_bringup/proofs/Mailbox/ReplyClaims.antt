-- A reply that fits says that its request was done.
use Rattle.ec_coe.specs.declared.message.SdoCommand.TheVariants.{Other as OtherCommand}
use Rattle.ec_bringup.proofs.Words.{ℕ, ◌+◌, ◌-◌, ◌*◌, ◌%◌, ◌^◌, ◌<◌, ◌≤◌, ◌≡◌, ◌≢◌, ◌==◌, ◌&&◌, Bool, true, false, Option, Some, None, Result, Ok, Err, refl, sym, ◌∙◌, ap, subst, inl, inr, arith, if◌then◌else◌, List, [], ◌∷◌, ◌++◌, length, take, set, cases_Bool, cases_eq, eq-eqb, ne_eqb, mod-eq_of_lt, if_true, if_false, Pdo, ValueSize, SdoValue, AbortCode, Message, Service, RequestService, Response, OtherService, Sdo, DownloadRequest, DownloadResponse, UploadRequest, AbortCommand, Reply, Downloaded as HasDownloaded, Unexpected, message_bytes, message_read, message_in, command_of, command_number, size_number, reply_in, reply_by, response_in, abort_in, Assignment, Dictionary, output_assignment, input_assignment, downloaded, Answer, answer_of, answer_by, download_answer, value_of, reads-as-message, command-read, Assigned, Counted, Slotted, EffectsDownloaded as Downloaded, Outputs, Inputs, Effect, Assigns, Puts, download-effect, good, outs-own, ins-own, value_at, own_values, parameter_of, written_by, object_written, UploadResponse, SlaveKind, done_by, is_aside, is_unsized, sized_command, sized_message, raw_verdict, free_verdict, free_message_verdict, free_reply_verdict, size_asked, heard_in, Aside, SdoRequest, Transfer, Download, Upload, Next, request_command, request_value, message_verdict, reply_verdict, Claim, Config, claimed, slot_claimed, answered_by, IsRequest, IsTransfer, Claims}

-- ---- claims

take-set : (S xs : List ℕ) (v : ℕ) → take (length S) xs ≡ S → length S < length xs → take (length (S ++ v ∷ [])) (set xs (length S) v) ≡ S ++ v ∷ []
take-set [] (x ∷ xs) v e l = refl
take-set (y ∷ S) (x ∷ xs) v e l =
    let more : take (length (S ++ v ∷ [])) (set xs (length S) v) ≡ S ++ v ∷ [] = take-set S xs v (cc e) (omega arith) in
    cc (e, more)
take-set _ [] v e l = absurd (omega arith)

claim-moves : (c d : Claim) (a : Assignment) → d ≡ c → Claims c a → Claims d a
claim-moves c d a e h = subst (λ (x : Claim). Claims x a) (sym e) h

counted-claim : (c : Claim) (a : Assignment) (value : ℕ) → Claims c a → Claims (record { count = Some value; slots = if value == 0 then [] else c.slots }) (record { slots = a.slots; count = value })
counted-claim c a value h = by (value == 0)
  where
    by : (b : Bool) → Claims (record { count = Some value; slots = if b then [] else c.slots }) (record { slots = a.slots; count = value })
    by true = record { count_is = λ x e. cc; slots_are = refl }
    by false = record { count_is = λ x e. cc; slots_are = h.slots_are }

slotted-claim : (c : Claim) (a : Assignment) (subindex value : ℕ) → subindex ≢ 0 → subindex ≤ length a.slots → Claims c a → Claims (slot_claimed c subindex value) (record { slots = set a.slots (subindex - 1) value; count = a.count })
slotted-claim c a subindex value ne l h = elim (cases_eq subindex (length c.slots + 1)) [
  | inl e ↦
      let p : subindex - 1 ≡ length c.slots = omega (arith, e) in
      claim-moves (record { count = c.count; slots = c.slots ++ value ∷ [] }) (slot_claimed c subindex value) _
      (ap (λ (x : List ℕ). record { count = c.count; slots = x }) (if_true _ _ _ (eq-eqb _ _ e)))
      (record {
        count_is = h.count_is;
        slots_are = ap (λ (k : ℕ). take (length (c.slots ++ value ∷ [])) (set a.slots k value)) p ∙ take-set c.slots a.slots value h.slots_are (omega (arith, e, l));
      })
  | inr n ↦
      claim-moves (record { count = c.count; slots = [] }) (slot_claimed c subindex value) _
      (ap (λ (x : List ℕ). record { count = c.count; slots = x }) (if_false _ _ _ (ne_eqb _ _ n)))
      (record { count_is = h.count_is; slots_are = refl })
]

claim-effect : (ps : List Pdo) (c : Claim) (a b : Assignment) (subindex value : ℕ) → Assigned ps a subindex value b → subindex ≤ length a.slots → Claims c a → Claims (claimed c subindex value) b
claim-effect ps c a b subindex value (Counted z t e) l h =
    claim-moves _ (claimed c subindex value) b (if_true _ _ _ (eq-eqb subindex 0 z)) (subst (Claims _) (sym e) (counted-claim c a value h))
claim-effect ps c a b subindex value (Slotted z o t e) l h =
    claim-moves _ (claimed c subindex value) b (if_false _ _ _ (ne_eqb subindex 0 z)) (subst (Claims _) (sym e) (slotted-claim c a subindex value z l h))

-- ---- what a verdict says of the reply

reply-done : (i : ℕ) (r : SdoRequest) (w : SdoValue) (x : Reply) → reply_verdict i r (Download w) x ≡ Next → x ≡ HasDownloaded
reply-done i r w HasDownloaded e = refl
reply-done i r w _ e = absurd (cc e)

response-done : (m : Message) (c : Sdo) → response_in m c ≡ HasDownloaded → c ≡ DownloadResponse
response-done m DownloadResponse e = refl
response-done m _ e = absurd (cc e)

abort-done : (m : Message) (c : Sdo) → abort_in m c ≡ HasDownloaded → ⊥
abort-done m AbortCommand e = cc e
abort-done m _ e = cc e

service-done : (m : Message) (s : Service) → reply_by m s ≡ HasDownloaded → m.command ≡ DownloadResponse
service-done m Response e = response-done m m.command e
service-done m RequestService e = absurd (abort-done m m.command e)
service-done m (OtherService n) e = absurd (cc e)

done-command : (index subindex : ℕ) (m : Message) → reply_in index subindex m ≡ HasDownloaded → m.command ≡ DownloadResponse
unfolding reply_in
done-command index subindex m e = elim (cases_Bool ((m.index == index) && (m.subindex == subindex))) [
  | inl y ↦ service-done m m.service (sym (if_true _ _ _ y) ∙ e)
  | inr y ↦ absurd (let f : Unexpected ≡ HasDownloaded = sym (if_false _ _ _ y) ∙ e in cc)
]

-- ---- a request, and the dictionary after it

-- an answer that says done comes of a download that was done
by-done : (d : Dictionary) (m : Message) (counter : ℕ) (r : Result Dictionary AbortCode) → command_of (command_number (download_answer d m counter r).reply.command) ≡ DownloadResponse → r ≡ good (download_answer d m counter r).dictionary
by-done d m counter (Ok new) e = refl
by-done d m counter (Err code) e = absurd (let f : AbortCommand ≡ DownloadResponse = e in cc)

abbrev pub Claimed : Config → Dictionary → Type 0
Claimed c e = Claims c.outs e.outs × Claims c.ins e.ins

by-effect : (c : Config) (r : SdoRequest) (w : SdoValue) (d e : Dictionary) → (r.index ≡ output_assignment → r.subindex ≤ length d.outs.slots) → (r.index ≡ input_assignment → r.subindex ≤ length d.ins.slots)
    → Claims c.outs d.outs → Claims c.ins d.ins → Downloaded d r.index r.subindex w.number e
    → Claimed (answered_by c r (Download w)) e
by-effect c r w d e lo li ho hi (Outputs i b q a) =
    let z : answered_by c r (Download w) ≡ record c { talk = None; outs = claimed c.outs r.subindex w.number } = if_true _ _ _ (eq-eqb _ _ i) in
    subst (λ (x : Config). Claimed x e) (sym z) (
      subst (λ (x : Dictionary). Claims (claimed c.outs r.subindex w.number) x.outs) (sym q) (claim-effect d.kind.outputs c.outs d.outs b r.subindex w.number a (lo i) ho),
      subst (λ (x : Dictionary). Claims c.ins x.ins) (sym q) hi,
    )
by-effect c r w d e lo li ho hi (Inputs o i b q a) =
    let z : answered_by c r (Download w) ≡ record c { talk = None; ins = claimed c.ins r.subindex w.number } = if_false _ _ _ (ne_eqb _ _ o) ∙ if_true _ _ _ (eq-eqb _ _ i) in
    subst (λ (x : Config). Claimed x e) (sym z) (
      subst (λ (x : Dictionary). Claims c.outs x.outs) (sym q) ho,
      subst (λ (x : Dictionary). Claims (claimed c.ins r.subindex w.number) x.ins) (sym q) (claim-effect d.kind.inputs c.ins d.ins b r.subindex w.number a (li i) hi),
    )

-- a parameter is no assignment
put-claims : (c : Config) (r : SdoRequest) (w : SdoValue) (d e : Dictionary) (values : List SdoValue) → r.index ≢ output_assignment → r.index ≢ input_assignment → e ≡ record d { values = values }
    → Claims c.outs d.outs → Claims c.ins d.ins → Claimed (answered_by c r (Download w)) e
put-claims c r w d e values other ni q ho hi =
    let z : answered_by c r (Download w) ≡ record c { talk = None } = if_false _ _ _ (ne_eqb _ _ other) ∙ if_false _ _ _ (ne_eqb _ _ ni) in
    subst (λ (x : Config). Claimed x e) (sym z)
    (subst (λ (x : Dictionary). Claims c.outs x.outs) (sym q) ho, subst (λ (x : Dictionary). Claims c.ins x.ins) (sym q) hi)

-- a parameter has another index
other-index : (kind : SlaveKind) (object index subindex place : ℕ) → parameter_of kind object subindex ≡ None → parameter_of kind index subindex ≡ Some place → index ≢ object
other-index kind object index subindex place none there e = absurd (let f : None ≡ Some place = sym (ap (λ (x : ℕ). parameter_of kind x subindex) e ∙ none) ∙ there in cc)

-- a download that assigns has written over a value of the assignment
found-old : (in_preop : Bool) (d : Dictionary) (index subindex : ℕ) (v : SdoValue) (e : Dictionary) (old : Result SdoValue AbortCode) → object_written in_preop d index subindex v old ≡ good e → (o : SdoValue) × (old ≡ good o)
found-old in_preop d index subindex v e (Ok o) q = (o, refl)
found-old in_preop d index subindex v e (Err code) q = absurd (let bad : Result Dictionary AbortCode = Err code in let f : bad ≡ good e = q in cc)

old-there : (in_preop : Bool) (d : Dictionary) (index subindex : ℕ) (v : SdoValue) (e : Dictionary) → parameter_of d.kind index subindex ≡ None → downloaded in_preop d index subindex v ≡ good e
    → (o : SdoValue) × (value_at (own_values d index) subindex ≡ good o)
unfolding downloaded
old-there in_preop d index subindex v e none q =
    found-old in_preop d index subindex v e (value_at (own_values d index) subindex) (sym (ap (written_by in_preop d index subindex v) none) ∙ q)

-- what is done in another state is done in PREOP
in-preop : (in_preop : Bool) (d : Dictionary) (index subindex place : ℕ) (v : SdoValue) → parameter_of d.kind index subindex ≡ Some place → downloaded true d index subindex v ≡ downloaded in_preop d index subindex v
unfolding downloaded
in-preop in_preop d index subindex place v e = ap (written_by true d index subindex v) e ∙ sym (ap (written_by in_preop d index subindex v) e)

-- what is known after a request that was done, and that it was
abbrev pub Follows : Config → SdoRequest → Transfer → Dictionary → Dictionary → Type 0
Follows c r x d e = Claimed (answered_by c r x) e × (done_by d r x ≡ good e)

by-downloaded : (c : Config) (r : SdoRequest) (w : SdoValue) (in_preop : Bool) (d e : Dictionary) → Claims c.outs d.outs → Claims c.ins d.ins → downloaded in_preop d r.index r.subindex w ≡ good e
    → Effect in_preop d r.index r.subindex w e → Follows c r (Download w) d e
by-downloaded c r w in_preop d e ho hi same (Assigns none free preop h) =
    let there = old-there in_preop d r.index r.subindex w e none same in (
      by-effect c r w d e
          (λ i. (outs-own d r.index r.subindex there.0 i there.1).there)
          (λ i. (ins-own d r.index r.subindex there.0 i there.1).there)
          ho hi h,
      subst (λ (b : Bool). downloaded b d r.index r.subindex w ≡ good e) preop same,
    )
by-downloaded c r w in_preop d e ho hi same (Puts h) = (
  put-claims c r w d e (set d.values h.place w) (other-index d.kind output_assignment r.index r.subindex h.place refl h.there) (other-index d.kind input_assignment r.index r.subindex h.place refl h.there) h.is ho hi,
  in-preop in_preop d r.index r.subindex h.place w h.there ∙ same,
)

-- a download, of as many bytes as its command says
by-download : (c : Config) (r : SdoRequest) (w : SdoValue) (in_preop : Bool) (d : Dictionary) (m : Message) (counter : ℕ) (v : SdoValue) → m.index ≡ r.index → m.subindex ≡ r.subindex → v ≡ w
    → Claims c.outs d.outs → Claims c.ins d.ins
    → command_of (command_number (download_answer d m counter (downloaded in_preop d m.index m.subindex v)).reply.command) ≡ DownloadResponse
    → Follows c r (Download w) d (download_answer d m counter (downloaded in_preop d m.index m.subindex v)).dictionary
by-download c r w in_preop d m counter v a b n ho hi q =
    let old : Result Dictionary AbortCode = downloaded in_preop d m.index m.subindex v in
    let e : Dictionary = (download_answer d m counter old).dictionary in
    let same : downloaded in_preop d r.index r.subindex w ≡ good e
    = sym (ap (λ (x : ℕ). downloaded in_preop d x m.subindex v) a ∙ (ap (λ (x : ℕ). downloaded in_preop d r.index x v) b ∙ ap (λ (x : SdoValue). downloaded in_preop d r.index r.subindex x) n)) ∙ by-done d m counter old q in
    by-downloaded c r w in_preop d e ho hi same (download-effect in_preop d r.index r.subindex w e same)

-- ---- a reply that fits

answer-upload : (in_preop : Bool) (d : Dictionary) (m : Message) (counter : ℕ) → m.command ≡ UploadRequest → (answer_of in_preop d m counter).dictionary ≡ d
unfolding answer_of
answer-upload in_preop d m counter e = ap (λ (k : Sdo). (answer_by in_preop d m counter k).dictionary) e

answer-download : (in_preop : Bool) (d : Dictionary) (m : Message) (counter : ℕ) (size : ValueSize) → m.command ≡ DownloadRequest size
    → answer_of in_preop d m counter ≡ download_answer d m counter (downloaded in_preop d m.index m.subindex (value_of size m.value))
unfolding answer_of
answer-download in_preop d m counter size e = ap (λ (k : Sdo). answer_by in_preop d m counter k) e

by-transfer : (c : Config) (r : SdoRequest) (in_preop : Bool) (d : Dictionary) (m : Message) (counter : ℕ) (x : Transfer) → IsTransfer x → m.command ≡ request_command x → m.index ≡ r.index → m.subindex ≡ r.subindex → m.value ≡ request_value x
    → Claims c.outs d.outs → Claims c.ins d.ins
    → ((w : SdoValue) → x ≡ Download w → command_of (command_number (answer_of in_preop d m counter).reply.command) ≡ DownloadResponse)
    → Follows c r x d (answer_of in_preop d m counter).dictionary
by-transfer c r in_preop d m counter (Upload v) k cm ix sb vl ho hi told =
    let same = answer-upload in_preop d m counter cm in
    (subst (λ (x : Dictionary). Claimed (record c { talk = None }) x) (sym same) (ho, hi), ap (λ (x : Dictionary). good x) (sym same))
by-transfer c r in_preop d m counter (Download w) k cm ix sb vl ho hi told =
    let q = answer-download in_preop d m counter w.size cm in
    let number : m.value % 2 ^ (8 * size_number w.size) ≡ w.number = ap (λ (n : ℕ). n % 2 ^ (8 * size_number w.size)) vl ∙ mod-eq_of_lt k in
    let v : value_of w.size m.value ≡ w = ap (λ (n : ℕ). record w { number = n }) number in
    subst (λ (x : Answer). Follows c r (Download w) d x.dictionary) (sym q)
    (by-download c r w in_preop d m counter (value_of w.size m.value) ix sb v ho hi (ap (λ (x : Answer). command_of (command_number x.reply.command)) (sym q) ∙ told w refl))

-- ---- what a verdict says of a reply to a download

-- a message that is set aside ends nothing
pub free-of : (i : ℕ) (r : SdoRequest) (raw : List ℕ) → free_verdict i r raw ≡ Next → free_message_verdict i r (message_read raw) ≡ Next
free-of i r raw e = elim (cases_Bool (is_aside raw)) [
  | inl y ↦ absurd (let f : Aside (heard_in i raw) ≡ Next = sym (if_true _ _ _ y) ∙ e in cc)
  | inr n ↦ sym (if_false _ _ _ n) ∙ e
]

-- nor a message that can't be read
pub none-stops : (hardware : Bool) (i : ℕ) (r : SdoRequest) (raw : List ℕ) → message_read raw ≡ None → raw_verdict hardware i r raw ≡ Next → ⊥
none-stops false i r raw none e = (elim r.transfer as (λ x. reply_verdict i r x Unexpected ≡ Next → ⊥) [ Download v ↦ λ h. cc | Upload v ↦ λ h. cc ]) (sym (ap (message_verdict i r) none) ∙ e)
none-stops true i r raw none e =
    (elim r.transfer as (λ x. free_reply_verdict i r x Unexpected ≡ Next → ⊥) [ Download v ↦ λ h. cc | Upload v ↦ λ h. cc ]) (sym (ap (free_message_verdict i r) none) ∙ free-of i r raw e)

unsized-done : (wanted : ValueSize) (c : Sdo) → sized_command wanted c ≡ DownloadResponse → c ≡ DownloadResponse
unsized-done wanted DownloadResponse e = refl
unsized-done wanted (OtherCommand number) e = absurd (by (is_unsized number) e)
  where
    by : (b : Bool) → (if b then UploadResponse wanted else OtherCommand number) ≡ DownloadResponse → ⊥
    by true q = cc
    by false q = cc
unsized-done wanted (DownloadRequest size) e = absurd (cc e)
unsized-done wanted UploadRequest e = absurd (cc e)
unsized-done wanted (UploadResponse size) e = absurd (cc e)
unsized-done wanted AbortCommand e = absurd (cc e)

read-command : (hardware : Bool) (i : ℕ) (r : SdoRequest) (m : Message) (rest : List ℕ) → raw_verdict hardware i r (message_bytes m ++ rest) ≡ Next → (w : SdoValue) → r.transfer ≡ Download w
    → command_of (command_number m.command) ≡ DownloadResponse
read-command false i r m rest e w t =
    let f : reply_verdict i r (Download w) (reply_in r.index r.subindex (message_in (message_bytes m ++ rest))) ≡ Next
    = ap (λ (x : Transfer). reply_verdict i r x (reply_in r.index r.subindex (message_in (message_bytes m ++ rest)))) (sym t)
    ∙ (sym (ap (λ (o : Option Message). message_verdict i r o) (reads-as-message m rest)) ∙ e) in
    sym (command-read m rest) ∙ done-command r.index r.subindex _ (reply-done i r w _ f)
read-command true i r m rest e w t =
    let raw : List ℕ = message_bytes m ++ rest in
    let f : reply_verdict i r (Download w) (reply_in r.index r.subindex (sized_message (size_asked r.transfer) (message_in raw))) ≡ Next
    = ap (λ (x : Transfer). free_reply_verdict i r x (reply_in r.index r.subindex (sized_message (size_asked r.transfer) (message_in raw)))) (sym t)
    ∙ (sym (ap (λ (o : Option Message). free_message_verdict i r o) (reads-as-message m rest)) ∙ free-of i r raw e) in
    sym (command-read m rest) ∙ unsized-done (size_asked r.transfer) (message_in raw).command (done-command r.index r.subindex _ (reply-done i r w _ f))

-- A reply that the start-up takes says that the request was done, and what the assignment then is.
pub reply-claims : (hardware : Bool) (c : Config) (r : SdoRequest) (i : ℕ) (in_preop : Bool) (d : Dictionary) (m : Message) (counter : ℕ) (rest : List ℕ) → IsRequest r → m.command ≡ request_command r.transfer
    → m.index ≡ r.index → m.subindex ≡ r.subindex → m.value ≡ request_value r.transfer → Claims c.outs d.outs → Claims c.ins d.ins
    → raw_verdict hardware i r (message_bytes (answer_of in_preop d m counter).reply ++ rest) ≡ Next
    → Follows c r r.transfer d (answer_of in_preop d m counter).dictionary
reply-claims hardware c r i in_preop d m counter rest q cm ix sb vl ho hi e =
    by-transfer c r in_preop d m counter r.transfer q.transfer cm ix sb vl ho hi (read-command hardware i r (answer_of in_preop d m counter).reply rest e)
