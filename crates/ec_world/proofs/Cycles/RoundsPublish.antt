-- Frames that go round: as the frame of its part passes a slave in OP, the slave publishes the linked outputs of the image that
-- the frame was made of, and no other frame changes that.
use Rattle.ec_world.proofs.Words.{ℕ, ◌<◌, ◌≤◌, ◌≡◌, ◌≢◌, ◌⊎◌, ◌==◌, true, Some, None, sym, ◌∙◌, ap, subst, inl, inr, arith, List, length, get_or, set, option_map, get_or-set_same, get_or-set_other, cases_Bool, cases_eq, eqb-true, eq-eqb, true≢false, length_push, if_true, if_false, Meaning, share_of, has_outs, Event, Pass, Return, Fault, ResetSlave as Reset, Plain, PlainSlave, PlainFrame, Health, Working, step, frame_at, plain_slave, no_plain_slave, met_slave, met_note, taking, with_note, linked_outputs, moved, keeping, may_pass, all_progress, progress_of, none_some, some_same, within_of}
use Rattle.ec_world.proofs.Runs.Leaves.{guarded_map, all_passed_by}
use Rattle.ec_world.proofs.Runs.SnapshotsLaw.{set_has, health_kept, count_kept}
use Rattle.ec_world.proofs.Cycles.RoundsGo.{is_round}

-- ---- a slave that a frame meets

outputs_met : (m : Meaning) (s : ℕ) (f : PlainFrame) (q : PlainSlave) → has_outs (share_of m s) ≡ true → q.health ≡ Working → (share_of m s).part ≡ f.part → (met_slave m s f q).outputs.published ≡ linked_outputs m s f.snapshot
outputs_met m s f q outs works own =
    ap (λ (y : PlainSlave). y.outputs.published) (if_true _ _ _ (eq-eqb _ _ own))
    ∙ (ap (λ (h : Health). (taking m s f q h).outputs.published) works
    ∙ ap (λ (y : PlainSlave). y.outputs.published) (if_true _ _ _ outs))

outputs_left : (m : Meaning) (s : ℕ) (f : PlainFrame) (q : PlainSlave) → (share_of m s).part ≢ f.part → (met_slave m s f q).outputs.published ≡ q.outputs.published
outputs_left m s f q other = elim (cases_Bool ((share_of m s).part == f.part)) [
  | inl on ↦ absurd (other (eqb-true _ _ on))
  | inr off ↦ ap (λ (y : PlainSlave). y.outputs.published) (if_false _ _ _ off)
]

-- ---- the frame is still to come, or the slave has published

-- the frame of its part comes to the slave
pub record Comes (m : Meaning) (s : ℕ) (q : Plain) : Type 0 where
  pub slot : ℕ
  pub frame : PlainFrame
  pub there : frame_at q slot ≡ Some frame
  pub own : (share_of m s).part ≡ frame.part
  pub before : length frame.notes ≤ s

pub record Publishes (m : Meaning) (s : ℕ) (image : List ℕ) (q : Plain) : Type 0 where
  pub here : s < length q.slaves
  pub works : (plain_slave q s).health ≡ Working
  pub carry : (k : ℕ) (f : PlainFrame) → frame_at q k ≡ Some f → f.snapshot ≡ image
  pub state : Comes m s q ⊎ ((plain_slave q s).outputs.published ≡ linked_outputs m s image)

pub publishes_from : (m : Meaning) (s : ℕ) (image : List ℕ) (q : Plain) (slot : ℕ) (f : PlainFrame) → s < length q.slaves → (plain_slave q s).health ≡ Working
    → ((k : ℕ) (g : PlainFrame) → frame_at q k ≡ Some g → g.snapshot ≡ image) → frame_at q slot ≡ Some f → (share_of m s).part ≡ f.part → length f.notes ≤ s → Publishes m s image q
publishes_from m s image q slot f here works carry there own before = record { here = here; works = works; carry = carry; state = inl (record { slot = slot; frame = f; there = there; own = own; before = before }) }

pub published_at : (m : Meaning) (s : ℕ) (image : List ℕ) (q : Plain) → Publishes m s image q → ((k : ℕ) → frame_at q k ≡ None) → (plain_slave q s).outputs.published ≡ linked_outputs m s image
published_at m s image q p free = elim p.state [
  | inl c ↦ absurd (none_some c.frame (sym (free c.slot) ∙ c.there))
  | inr done ↦ done
]

module _ (m : Meaning) (s : ℕ) (image : List ℕ) (outs : has_outs (share_of m s) ≡ true) where
  pass_state : (p : Plain) (k : ℕ) (f : PlainFrame) → frame_at p k ≡ Some f → Publishes m s image p → (Comes m s (moved m p k f) ⊎ ((plain_slave (moved m p k f) s).outputs.published ≡ linked_outputs m s image))
  pass_state p k f at h = by h.state
    where
      t : ℕ
      t = length f.notes

      g : PlainFrame
      g = with_note f (met_note m t f (plain_slave p t))

      -- the slave, where the frame meets it and where not
      met : t ≡ s → (plain_slave (moved m p k f) s).outputs.published ≡ (met_slave m s f (plain_slave p s)).outputs.published
      met same =
          ap (λ (n : ℕ). (get_or (set p.slaves n (met_slave m n f (plain_slave p n))) s no_plain_slave).outputs.published) same
          ∙ ap (λ (y : PlainSlave). y.outputs.published) (get_or-set_same p.slaves s (met_slave m s f (plain_slave p s)) no_plain_slave h.here)

      apart : t ≢ s → (plain_slave (moved m p k f) s).outputs.published ≡ (plain_slave p s).outputs.published
      apart ne = ap (λ (y : PlainSlave). y.outputs.published) (get_or-set_other p.slaves t s (met_slave m t f (plain_slave p t)) no_plain_slave (λ e. ne (sym e)))

      published : t ≡ s → (share_of m s).part ≡ f.part → (plain_slave (moved m p k f) s).outputs.published ≡ linked_outputs m s image
      published same own = met same ∙ (outputs_met m s f (plain_slave p s) outs h.works own ∙ ap (linked_outputs m s) (h.carry k f at))

      by : Comes m s p ⊎ ((plain_slave p s).outputs.published ≡ linked_outputs m s image) → Comes m s (moved m p k f) ⊎ ((plain_slave (moved m p k f) s).outputs.published ≡ linked_outputs m s image)
      by (inr done) = elim (cases_eq t s) [
        | inr ne ↦ inr (apart ne ∙ done)
        | inl same ↦ elim (cases_eq (share_of m s).part f.part) [
          | inl own ↦ inr (published same own)
          | inr other ↦ inr (met same ∙ (outputs_left m s f (plain_slave p s) other ∙ done))
        ]
      ]
      by (inl c) = elim (cases_eq c.slot k) [
        | inr ne ↦ inl (record { slot = c.slot; frame = c.frame; there = get_or-set_other p.slots k c.slot (Some g) None ne ∙ c.there; own = c.own; before = c.before })
        | inl same ↦ (
            let one : c.frame ≡ f = some_same c.frame f (sym c.there ∙ (ap (λ (n : ℕ). frame_at p n) same ∙ at)) in
            let own : (share_of m s).part ≡ f.part = c.own ∙ ap (λ (x : PlainFrame). x.part) one in
            let few : t ≤ s = subst (λ (x : PlainFrame). length x.notes ≤ s) one c.before in
            elim (cases_eq t s) as (λ _. Comes m s (moved m p k f) ⊎ ((plain_slave (moved m p k f) s).outputs.published ≡ linked_outputs m s image)) [
              | inl here ↦ inr (published here own)
              | inr ne ↦ inl (record {
                slot = k;
                frame = g;
                there = get_or-set_same p.slots k (Some g) None (within_of p.slots k f at);
                own = own;
                before = let l = length_push f.notes (met_note m t f (plain_slave p t)) in omega (arith, few, ne, l);
              })
            ])
      ]

  pub publishes_step : (p : Plain) (e : Event) (q : Plain) → is_round e ≡ true → step m p e ≡ Some q → Publishes m s image p → Publishes m s image q
  publishes_step p (Pass k) q r does h =
      let x = guarded_map (may_pass (length p.slaves) (all_progress p.slots) (option_map progress_of (frame_at p k))) (moved m p k) (frame_at p k) q does in
      let f = x.value in
      record {
        here = let n = count_kept m p (Pass k) q does in let l = h.here in omega (arith, n, l);
        works = health_kept m p (Pass k) q s does (λ e. let z : Pass k ≡ Fault s = e in cc) (λ e. let z : Pass k ≡ Reset s = e in cc) ∙ h.works;
        carry = λ j g at. set_has (λ (y : PlainFrame). y.snapshot ≡ image) p.slots k (Some (with_note f (met_note m (length f.notes) f (plain_slave p (length f.notes)))))
            (λ y own. sym (ap (λ (z : PlainFrame). z.snapshot) (some_same _ y own)) ∙ h.carry k f x.there) h.carry j g (ap (λ (z : Plain). frame_at z j) x.is ∙ at);
        state = subst (λ (z : Plain). Comes m s z ⊎ ((plain_slave z s).outputs.published ≡ linked_outputs m s image)) x.is (pass_state p k f x.there h);
      }
  publishes_step p (Return k) q r does h =
      let x = guarded_map _ (λ f. record p { cycle = option_map (keeping f) p.cycle; slots = set p.slots k None }) (frame_at p k) q does in
      record {
        here = let l = h.here in let n = ap (λ (z : Plain). length z.slaves) x.is in omega (arith, l, n);
        works = sym (ap (λ (z : Plain). (plain_slave z s).health) x.is) ∙ h.works;
        carry = λ j g there. set_has (λ (y : PlainFrame). y.snapshot ≡ image) p.slots k None (λ y no. absurd (none_some y no)) h.carry j g (ap (λ (z : Plain). frame_at z j) x.is ∙ there);
        state = elim h.state [
          | inr done ↦ inr (sym (ap (λ (z : Plain). (plain_slave z s).outputs.published) x.is) ∙ done)
          | inl c ↦ elim (cases_eq c.slot k) [
            | inr ne ↦ inl (record { slot = c.slot; frame = c.frame; there = sym (ap (λ (z : Plain). frame_at z c.slot) x.is) ∙ (get_or-set_other p.slots k c.slot None None ne ∙ c.there); own = c.own; before = c.before })
            | inl same ↦ absurd (
                let one : c.frame ≡ x.value = some_same c.frame x.value (sym c.there ∙ (ap (λ (n : ℕ). frame_at p n) same ∙ x.there)) in
                let size = ap (λ (y : PlainFrame). length y.notes) one in
                omega (arith, c.before, h.here, size, all_passed_by p k q _ does x.value x.there))
          ]
        ];
      }
  publishes_step p _ q r does h = absurd (true≢false (sym r))
