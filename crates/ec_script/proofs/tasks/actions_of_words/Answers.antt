use Rattle.std.proofs.Common.{◌≡◌, ◌∙◌, ◌<◌, List, [], ◌∷◌, length, Bor, false, Option, Result, Ok, Err, IfOk, codes, refl, sym, ap, subst, rules, arith}
use Rattle.std.specs.Str.{bytes_eq}
use Rattle.std.proofs.lemmas.Bool.Decides.{nat_tests}
use Rattle.ec_table.specs.Contents.{Contents}
use Rattle.ec_script.specs.declared.line.LineAction.{LineAction}
use Rattle.ec_script.specs.Tasks.{actions_of, alone, single_of}
use Rattle.ec_script.specs.Words.{Text}
use Rattle.ec_script.proofs.TaskSteps.{texts}
use Rattle.ec_script.proofs.Verbs.{differ}
use Rattle.ec_script.proofs.tasks.actions_of_words.Goals as goal

-- a verb that has no several names
other_verb : (t : Contents) (verb : Text) (rest : List (Bor Text)) → 0 < length rest → bytes_eq verb (codes "set") ≡ false → bytes_eq verb (codes "show") ≡ false → bytes_eq verb (codes "out") ≡ false
    → alone (single_of t (verb ∷ texts rest)) ≡ actions_of t (verb ∷ texts rest)
other_verb t verb [] some a b c = absurd (omega (arith, some))
other_verb t verb (word ∷ words) some a b c = rw (a, b, c) refl

single_acts : {E : Type 0} (r : Result (Option (List LineAction)) E) (t : Contents) (ws : List (Bor Text)) (verb : Bor Text) (rest : List (Bor Text)) (action : Option LineAction) → ws ≡ verb ∷ rest → 0 < length rest
    → bytes_eq verb.now (codes "set") ≡ false → bytes_eq verb.now (codes "show") ≡ false → bytes_eq verb.now (codes "out") ≡ false → action ≡ single_of t (texts ws) → IfOk r (λ actions. actions ≡ alone action)
    → IfOk r (λ actions. actions ≡ actions_of t (texts ws))
single_acts {E} (Ok actions) t ws verb rest action is some a b c single h =
    h ∙ (ap alone single ∙ subst (λ (xs : List (Bor Text)). alone (single_of t (texts xs)) ≡ actions_of t (texts xs)) (sym is) (other_verb t verb.now rest some a b c))
single_acts {E} (Err e) t ws verb rest action is some a b c single h = tt

pub returns-in_default-verb : goal.returns-in_default-verb
returns-in_default-verb c =
    single_acts c.one_action-in_default-verb.result c.args.table.now c.args.words.now c.in-Some.verb.now c.in-Some.rest.now c.single_of_words-in_default-verb.result
    (first_of (search rules, search (rules, c.in-Some.ensures.cases), grind (arith, c.in-Some.ensures.cases), cc))
    (first_of (grind (arith, nat_tests), grind (arith, nat_tests, c.is_empty.ensures, c.if-is_empty.false), omega arith))
    (search (rules, differ, c.in_default-verb.not-set))
    (search (rules, differ, c.in_default-verb.not-show))
    (search (rules, differ, c.in_default-verb.not-out))
    c.single_of_words-in_default-verb.ensures c.one_action-in_default-verb.ensures
