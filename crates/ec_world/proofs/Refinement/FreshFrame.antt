-- A cyclic frame as it is sent.
use Rattle.ec_world.proofs.Words.{ℕ, ◌+◌, ◌-◌, ◌*◌, ◌^◌, ◌<◌, ◌≡◌, refl, sym, ◌∙◌, ap, subst, arith, List, [], length, Option, Some, None, false, option_map, unwrap_or, option_map_or, length-map, bit, zeros, if_false, IsFrame, bare_payload, share_of, slave_at, area_at, span_of_part, meaning, out_source, Share, PlanState, part_at, IsUsable, process_bytes, returned_first, sent_datagrams, data_fill_their_part, outputs_by_source, PlainFrame, out_bit, DatagramsRefine, FrameRefines}
use Rattle.ec_world.proofs.Refinement.ProcessData.{same_place}
use Rattle.ec_world.proofs.Refinement.CyclicFrame.{share_is}

abbrev pub fresh : ℕ → ℕ → List ℕ → PlainFrame
fresh number k image = record { number = number; part = k; snapshot = image; notes = [] }

-- output bit o of slave t stands in its place
fresh_bit : (plan : PlanState) (k : ℕ) (image : List ℕ) (t o : ℕ) → IsUsable plan → t < length plan.slaves → (share_of (meaning plan) t).part ≡ k → o < (area_at plan t).outs
    → bit (process_bytes plan k image) ((area_at plan t).out_at + o - 8 * (part_at plan.parts k).address) ≡ out_bit (meaning plan) t image o
fresh_bit plan k image t o sound b part e =
    let m = meaning plan in
    let c = same_place m (area_at plan) (span_of_part plan) k t sound.laid (subst (λ (n : ℕ). t < n) (sym (length-map plan.slaves (λ s. s.share))) b) part in
    let i = (area_at plan t).out_at + o - (8 * (part_at plan.parts k).address) in
    let own : (slave_at plan t).share.part ≡ k = ap (λ (x : Share). x.part) (sym (share_is plan t)) ∙ part in
    outputs_by_source plan k t o i image sound b own e (omega (arith, c.out_to, c.out_from)) (omega (arith, c.out_from)) ∙ or_false (out_source plan.out_links t o)
  where
    or_false : (s : Option ℕ) → option_map_or (bit image) s false ≡ unwrap_or (option_map (bit image) s) false
    or_false None = refl
    or_false (Some j) = refl

pub fresh_datagrams : (plan : PlanState) (number k : ℕ) (image : List ℕ) → IsUsable plan → number < 2 ^ 64 → k < length plan.parts
    → DatagramsRefine plan (fresh number k image) (sent_datagrams plan number k image)
fresh_datagrams plan number k image sound fits there = record {
  al = zeros 2;
  al_word = refl;
  sent = process_bytes plan k image;
  returned = returned_first (part_at plan.parts k) (process_bytes plan k image);
  gave = [];
  is = refl;
  one_datagram = λ e. sym (if_false _ _ _ e);
  process = record {
    sent_room = ap (λ n. 8 * n) (sym (data_fill_their_part plan k image).sent);
    returned_room = ap (λ n. 8 * n) (sym (data_fill_their_part plan k image).returned);
    to_come = λ t o a b e l. fresh_bit plan k image t o sound (let x = length-map plan.slaves (λ s. s.share) in omega arith) e l;
    noted = λ t o v a. absurd (omega arith);
    in_part = λ t a. absurd (omega arith);
    elsewhere = λ t a. absurd (omega arith);
    as_many = refl;
    each = λ t a. absurd (omega arith);
  };
  part_there = there;
  number_fits = fits;
  not_more = omega arith;
}

pub fresh_shows : (plan : PlanState) (number k : ℕ) (image bytes : List ℕ) → IsUsable plan → number < 2 ^ 64 → k < length plan.parts
    → IsFrame bytes (bare_payload (sent_datagrams plan number k image)) → FrameRefines plan (fresh number k image) bytes
fresh_shows plan number k image bytes sound fits there spelled = record {
  payload = bare_payload (sent_datagrams plan number k image);
  spelled = spelled;
  shows = fresh_datagrams plan number k image sound fits there;
}
