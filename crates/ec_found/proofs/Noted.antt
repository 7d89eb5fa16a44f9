-- What is noted of a slave, one thing behind another.
use Rattle.std.proofs.Common.{◌≡◌, List, [], Bool, not, ap, ◌∙◌}
use Rattle.ec_scan.specs.declared.shown.Shown.{Shown}
use Rattle.ec_scan.specs.Showing.{usable}
use Rattle.ec_table.specs.declared.rows.Direction.TheVariants.{In, Out}
use Rattle.ec_found.specs.declared.found.Gaps.{Gaps}
use Rattle.ec_found.specs.declared.found.Unsaid.{Unsaid}
use Rattle.ec_found.specs.declared.found.Unsaid.TheVariants as unsaid
use Rattle.ec_found.specs.Founds.{areas_shown, gaps_noted, gaps_of, has_other_size, has_unusable, is_hardware, noted, unsaid_of}

alike : (s : Shown) (m a x y : Bool) (g h : Gaps) → m ≡ has_unusable s → a ≡ is_hardware (usable s.mailbox) (areas_shown s).hardware → g ≡ gaps_of Out s → h ≡ gaps_of In s
    → x ≡ has_other_size Out s → y ≡ has_other_size In s
    → gaps_noted (gaps_noted (noted (noted [] m unsaid.Mailbox) (not a) unsaid.Managers) Out g x) In h y ≡ unsaid_of s
alike s m a x y g h p q r t u v =
    ap (λ (b : Bool). gaps_noted (gaps_noted (noted (noted [] b unsaid.Mailbox) (not a) unsaid.Managers) Out g x) In h y) p
    ∙ ap (λ (b : Bool). gaps_noted (gaps_noted (noted (noted [] (has_unusable s) unsaid.Mailbox) (not b) unsaid.Managers) Out g x) In h y) q
    ∙ ap (λ (f : Gaps). gaps_noted (gaps_noted (noted (noted [] (has_unusable s) unsaid.Mailbox) (not (is_hardware (usable s.mailbox) (areas_shown s).hardware)) unsaid.Managers) Out f x) In h y) r
    ∙ ap (λ (b : Bool). gaps_noted (gaps_noted (noted (noted [] (has_unusable s) unsaid.Mailbox) (not (is_hardware (usable s.mailbox) (areas_shown s).hardware)) unsaid.Managers) Out (gaps_of Out s) b) In h y) u
    ∙ ap (λ (f : Gaps). gaps_noted (gaps_noted (noted (noted [] (has_unusable s) unsaid.Mailbox) (not (is_hardware (usable s.mailbox) (areas_shown s).hardware)) unsaid.Managers) Out (gaps_of Out s) (has_other_size Out s)) In f y) t
    ∙ ap (λ (b : Bool). gaps_noted (gaps_noted (noted (noted [] (has_unusable s) unsaid.Mailbox) (not (is_hardware (usable s.mailbox) (areas_shown s).hardware)) unsaid.Managers) Out (gaps_of Out s) (has_other_size Out s)) In (gaps_of In s) b) v

pub all_noted : (s : Shown) (none mailbox managers outs ins : List Unsaid) (m a x y : Bool) (g h : Gaps) → none ≡ [] → mailbox ≡ noted none m unsaid.Mailbox
    → managers ≡ noted mailbox (not a) unsaid.Managers → outs ≡ gaps_noted managers Out g x → ins ≡ gaps_noted outs In h y
    → m ≡ has_unusable s → a ≡ is_hardware (usable s.mailbox) (areas_shown s).hardware → g ≡ gaps_of Out s → h ≡ gaps_of In s → x ≡ has_other_size Out s → y ≡ has_other_size In s
    → ins ≡ unsaid_of s
all_noted s none mailbox managers outs ins m a x y g h i j k l n p q r t u v =
    n
    ∙ ap (λ (us : List Unsaid). gaps_noted us In h y)
    (l ∙ ap (λ (us : List Unsaid). gaps_noted us Out g x)
    (k ∙ ap (λ (us : List Unsaid). noted us (not a) unsaid.Managers) (j ∙ ap (λ (us : List Unsaid). noted us m unsaid.Mailbox) i)))
    ∙ alike s m a x y g h p q r t u v
