use Rattle.std.proofs.Common.{◌≡◌, ◌∙◌, ◌++◌, ◌+◌, ◌≤◌, ◌||◌, not, eqb, ℕ, Bool, false, Some, List, [], ◌∷◌, sym, ap, subst, take, get_or, arith}
use Rattle.std.specs.Prelude.{is_some, sum_by}
use Rattle.std.specs.BTreeMap.{BTreeMap, get, Updates}
use Rattle.std.specs.Ordering.{nat_cmp}
use Rattle.std.proofs.lemmas.List.{take_more}
use Rattle.std.proofs.lemmas.List.Sums.{sum_by_more}
use Rattle.ec_device.specs.declared.slave_type.Entry.{Entry}
use Rattle.ec_device.specs.Objects.{bits_of}
use Rattle.ec_link.specs.declared.objects.EntryRun.{EntryRun}
use Rattle.ec_link.specs.Entries.{names_twice}
use Rattle.ec_link.specs.Objects.{HasRuns, entry_key}
use Rattle.ec_link.proofs.EntryLists.{runs_kept, runs_grow, twice_known, twice_new}
use Rattle.ec_link.proofs.objects.runs_of.Goals as goal
use Rattle.ec_link.proofs.objects.runs_of.Goals.{in-Some+in_ok-insert+then-is_twice, in-Some+in_ok-insert+else-is_twice, in_default}

pub loop-entry-preserved : goal.loop-entry-preserved
loop-entry-preserved c =
    let e : Entry = get_or c.args.entries.now c.loop-entry.entry-index (record { index = 0; subindex = 0; bits = 0 }) in
    let seen : List Entry = take c.loop-entry.entry-index c.args.entries.now in
    let more : take (c.loop-entry.entry-index + 1) c.args.entries.now ≡ seen ++ e ∷ [] = take_more c.args.entries.now c.loop-entry.entry-index _ c.loop-entry-test.true in
    let small : e.subindex ≤ 255 = omega arith in
    let name : ℕ = entry_key e.index e.subindex in
    let run : EntryRun = record { from = c.loop-entry.bits; bits = c.from-count.result } in
    let had : c.in_ok-first.field-0 ≡ get nat_cmp c.loop-entry.runs name = c.in_ok-first.ensures.old ∙ ap (get nat_cmp c.loop-entry.runs) c.entry_key-key.ensures in
    let put : Updates nat_cmp c.loop-entry.runs c.insert.new.self name (Some run) = subst (λ (k : ℕ). Updates nat_cmp c.loop-entry.runs c.insert.new.self k (Some run)) c.entry_key-key.ensures c.in_ok-first.ensures.updates in
    let stays : (m : BTreeMap ℕ EntryRun) (first : EntryRun) → c.in_ok-first.field-0 ≡ Some first → Updates nat_cmp c.insert.new.self m c.entry_key-key.result (Some first) → HasRuns m (seen ++ e ∷ [])
    = λ m first is u. runs_kept c.loop-entry.runs c.insert.new.self m seen e run first c.loop-entry.invariant.runs small (sym had ∙ is) put (subst (λ (k : ℕ). Updates nat_cmp c.insert.new.self m k (Some first)) c.entry_key-key.ensures u) in
    let two : (first : EntryRun) → c.in_ok-first.field-0 ≡ Some first → (c.loop-entry.is_twice || not (eqb e.index 0)) ≡ names_twice (seen ++ e ∷ [])
    = λ first is. twice_known c.loop-entry.runs seen e c.loop-entry.is_twice c.loop-entry.invariant.runs small (ap is_some (sym had ∙ is)) c.loop-entry.invariant.twice in
    let both : HasRuns c.match-branch-2.runs (seen ++ e ∷ []) × (c.match-branch-2.is_twice ≡ names_twice (seen ++ e ∷ [])) = elim c.match-branch-2.branch [
      | in-Some+in_ok-insert+then-is_twice w ↦ (
        subst (λ (n : BTreeMap ℕ EntryRun). HasRuns n (seen ++ e ∷ [])) (sym w.runs-is) (stays w.insert-in-Some.new.self w.in-Some.first w.in-Some.is w.in_ok-insert.ensures.updates),
        w.is_twice-is ∙ w.if-is_twice.true ∙ sym (ap (λ (b : Bool). b || not (eqb e.index 0)) w.if-is_twice.true) ∙ two w.in-Some.first w.in-Some.is,
      )
      | in-Some+in_ok-insert+else-is_twice w ↦ (
        subst (λ (n : BTreeMap ℕ EntryRun). HasRuns n (seen ++ e ∷ [])) (sym w.runs-is) (stays w.insert-in-Some.new.self w.in-Some.first w.in-Some.is w.in_ok-insert.ensures.updates),
        w.is_twice-is ∙ sym (ap (λ (b : Bool). b || not (eqb e.index 0)) w.if-is_twice.false) ∙ two w.in-Some.first w.in-Some.is,
      )
      | in_default w ↦
          let fresh : is_some (get nat_cmp c.loop-entry.runs name) ≡ false = ap is_some (sym had ∙ w.in_default.is) in (
            subst (λ (n : BTreeMap ℕ EntryRun). HasRuns n (seen ++ e ∷ [])) (sym w.runs-is)
                (runs_grow c.loop-entry.runs c.insert.new.self seen e run c.loop-entry.invariant.runs small fresh
                (ap (λ (n : ℕ). record { from = n; bits = c.from-count.result }) c.loop-entry.invariant.bits ∙ ap (λ (n : ℕ). record { from = bits_of seen; bits = n }) c.from-count.ensures)
                put),
            w.is_twice-is ∙ twice_new c.loop-entry.runs seen e c.loop-entry.is_twice c.loop-entry.invariant.runs small fresh c.loop-entry.invariant.twice,
          )
    ] in
    record {
      runs = subst (HasRuns c.match-branch-2.runs) (sym more) both.0;
      bits = ap (λ (n : ℕ). n + c.from-count.result) c.loop-entry.invariant.bits ∙ ap (λ (n : ℕ). sum_by (λ (x : Entry). x.bits) seen + n) c.from-count.ensures ∙ sym (sum_by_more (λ (x : Entry). x.bits) c.args.entries.now c.loop-entry.entry-index _ c.loop-entry-test.true);
      few = omega arith;
      twice = both.1 ∙ sym (ap names_twice more);
    }
