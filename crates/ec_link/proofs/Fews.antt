-- The loops that go through a few entries.
use Rattle.std.proofs.Common.{◌≡◌, ℕ, ◌+◌, ◌*◌, ◌<◌, ◌≤◌, true, false, List, [], ◌∷◌, length, get_or, drop, Some, None, Option, option_map, refl, sym, ap, ◌∙◌, arith}
use Rattle.std.proofs.lemmas.List.{drop_more, drop_all}
use Rattle.ec_device.specs.declared.slave_type.Entry.{Entry}
use Rattle.ec_link.specs.declared.objects.EntryRun.{EntryRun}
use Rattle.ec_link.specs.Entries.{is_named, behind, entry_run}

-- what is left to look through, behind the bits that were passed
pub record LooksOn (es : List Entry) (index subindex from i : ℕ) : Type 0 where
  pub rest : option_map (behind from) (entry_run (drop i es) index subindex) ≡ entry_run es index subindex
  pub few : from ≤ 255 * i

behind_nothing : (o : Option EntryRun) → option_map (behind 0) o ≡ o
behind_nothing None = refl
behind_nothing (Some r) = let z : 0 + r.from ≡ r.from = omega arith in ap (λ (n : ℕ). Some (record { from = n; bits = r.bits })) z

behind_both : (a b : ℕ) (o : Option EntryRun) → option_map (behind (a + b)) o ≡ option_map (behind a) (option_map (behind b) o)
behind_both a b None = refl
behind_both a b (Some r) = let e : a + b + r.from ≡ a + (b + r.from) = omega arith in ap (λ (n : ℕ). Some (record { from = n; bits = r.bits })) e

pub looks_none : (es : List Entry) (index subindex : ℕ) → LooksOn es index subindex 0 0
looks_none es index subindex = record { rest = behind_nothing (entry_run es index subindex); few = omega arith }

pub looks_more : (es : List Entry) (index subindex from i bits : ℕ) (e d : Entry) → i < length es → e ≡ get_or es i d → is_named index subindex e ≡ false → bits ≡ e.bits → bits ≤ 255 → LooksOn es index subindex from i → LooksOn es index subindex (from + bits) (i + 1)
looks_more es index subindex from i bits e d lt is other count low h =
    let at : drop i es ≡ e ∷ drop (i + 1) es = drop_more es i d lt ∙ ap (λ x. x ∷ drop (i + 1) es) (sym is) in
    let passed : entry_run (drop i es) index subindex ≡ option_map (behind e.bits) (entry_run (drop (i + 1) es) index subindex) = rw (at, other) refl in
    record {
      rest = ap (λ (n : ℕ). option_map (behind (from + n)) (entry_run (drop (i + 1) es) index subindex)) count ∙ behind_both from e.bits (entry_run (drop (i + 1) es) index subindex) ∙ ap (option_map (behind from)) (sym passed) ∙ h.rest;
      few = omega (arith, h.few);
    }

pub looks_found : (es : List Entry) (index subindex from i bits : ℕ) (e d : Entry) → i < length es → e ≡ get_or es i d → is_named index subindex e ≡ true → bits ≡ e.bits → LooksOn es index subindex from i → Some (record { from = from; bits = bits }) ≡ entry_run es index subindex
looks_found es index subindex from i bits e d lt is named count h =
    let at : drop i es ≡ e ∷ drop (i + 1) es = drop_more es i d lt ∙ ap (λ x. x ∷ drop (i + 1) es) (sym is) in
    let found : entry_run (drop i es) index subindex ≡ Some (record { from = 0; bits = e.bits }) = rw (at, named) refl in
    let z : from ≡ from + 0 = omega arith in
    ap (λ (n : ℕ). Some (record { from = from; bits = n })) count ∙ ap (λ (n : ℕ). Some (record { from = n; bits = e.bits })) z ∙ sym (ap (option_map (behind from)) found) ∙ h.rest

pub looks_all : (es : List Entry) (index subindex from i : ℕ) → length es ≤ i → LooksOn es index subindex from i → None ≡ entry_run es index subindex
looks_all es index subindex from i h l = let at : drop i es ≡ [] = drop_all i es h in sym (ap (λ (xs : List Entry). option_map (behind from) (entry_run xs index subindex)) at) ∙ l.rest

pub ruleset run_steps = (looks_none, looks_more, looks_found, looks_all)
