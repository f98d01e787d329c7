-- The faults of nodes, where some stand behind others.
use Rattle.std.proofs.Common.{◌≡◌, ◌≢◌, ℕ, ◌+◌, Bool, true, false, min, List, [], ◌∷◌, ◌++◌, map, Option, refl, sym, ◌∙◌, ap, arith, append_assoc}
use Rattle.std.specs.Prelude.{◌==◌, is_some}
use Rattle.std.proofs.lemmas.Bool.{eq-eqb, ne_eqb}
use Rattle.std.proofs.lemmas.Bool.Decides.{Decides-eqb}
use Rattle.std.proofs.lemmas.List.{map-append}
use Rattle.circus_fault.specs.declared.fault.Fault.{Fault}
use Rattle.circus_fault.specs.Least.{least_from}
use Rattle.circus_fault.proofs.LeastMore.{least_more}
use Rattle.circus_collate.specs.declared.deployment.Host.{Host}
use Rattle.circus_deployment.specs.declared.cause.Cause.{Cause}
use Rattle.circus_deployment.specs.Rank.{rank_of}
use Rattle.circus_deployment.specs.Meaning.{host_meant}
use Rattle.circus_troupe.specs.declared.deployment_text.HostText.{HostText}
use Rattle.circus_syntax.specs.declared.named.Named.{Named}
use Rattle.circus_syntax.specs.declared.named.Numeral.{Numeral}
use Rattle.circus_limits.specs.Limits.{most_nodes, greatest_port}
use Rattle.circus_fault.specs.Least.{faults_if, out_of}
use Rattle.circus_deployment.specs.declared.cause.Cause.TheVariants.{Repeated, OutOfRange, TooMany}
use Rattle.circus_deployment.specs.Faults.{Before, node_faults, behind_node, nodes_faults, behind_nodes}
use Rattle.circus_deployment.specs.Seen.{as_counted}

-- ---- a count that stops one above the limit is as good

same_test : (n : ℕ) (b : Bool) → (n == most_nodes) ≡ b → (min n (most_nodes + 1) == most_nodes) ≡ b
same_test n true is = let same : n ≡ most_nodes = (Decides-eqb n most_nodes).0 is in eq-eqb (min n (most_nodes + 1)) most_nodes (omega (arith, same))
same_test n false is =
    let other : n ≢ most_nodes = λ same. let yes = eq-eqb n most_nodes same in absurd (cc) in
    ne_eqb (min n (most_nodes + 1)) most_nodes (λ same. other (omega (arith, same)))

counted_node : (before : Before) (name : Named) (port : Numeral) → node_faults (as_counted before) name port ≡ node_faults before name port
counted_node before name port =
    ap (λ b. faults_if (is_some (before.names name.name)) name.at Repeated ++ faults_if b name.at TooMany ++ faults_if (before.ports port.value) port.at Repeated ++ out_of OutOfRange greatest_port port)
    (same_test before.count (before.count == most_nodes) refl)

counted_behind : (before : Before) (name : Named) (port : Numeral) → as_counted (behind_node (as_counted before) name port) ≡ as_counted (behind_node before name port)
counted_behind before name port =
    let same : min (min before.count (most_nodes + 1) + 1) (most_nodes + 1) ≡ min (before.count + 1) (most_nodes + 1) = omega arith in
    let behind = behind_node before name port in
    let with_count : ℕ → Before = λ n. record { names = behind.names; ports = behind.ports; count = n } in
    ap with_count same

pub counted_faults : (before : Before) (hs : List HostText) → nodes_faults (as_counted before) hs ≡ nodes_faults before hs
counted_faults before [] = refl
counted_faults before (h ∷ hs) =
    let rest =
    sym (counted_faults (behind_node (as_counted before) h.name h.port) hs) ∙ ap (λ b. nodes_faults b hs) (counted_behind before h.name h.port) ∙ counted_faults (behind_node before h.name h.port) hs in
    λ i. counted_node before h.name h.port i ++ rest i

-- nodes that are counted alike have the same faults behind them
pub same_faults : (one two : Before) (hs : List HostText) → as_counted one ≡ as_counted two → nodes_faults one hs ≡ nodes_faults two hs
same_faults one two hs same = sym (counted_faults one hs) ∙ ap (λ b. nodes_faults b hs) same ∙ counted_faults two hs

counted_once : (before : Before) → as_counted (as_counted before) ≡ as_counted before
counted_once before =
    let same : min (min before.count (most_nodes + 1)) (most_nodes + 1) ≡ min before.count (most_nodes + 1) = omega arith in
    let with_count : ℕ → Before = λ n. record { names = before.names; ports = before.ports; count = n } in
    ap with_count same

pub counted_nodes : (before : Before) (hs : List HostText) → as_counted (behind_nodes (as_counted before) hs) ≡ as_counted (behind_nodes before hs)
counted_nodes before [] = counted_once before
counted_nodes before (h ∷ hs) =
    sym (counted_nodes (behind_node (as_counted before) h.name h.port) hs) ∙ ap (λ b. as_counted (behind_nodes b hs)) (counted_behind before h.name h.port) ∙ counted_nodes (behind_node before h.name h.port) hs

pub same_behind : (one two : Before) (hs : List HostText) → as_counted one ≡ as_counted two → as_counted (behind_nodes one hs) ≡ as_counted (behind_nodes two hs)
same_behind one two hs same = sym (counted_nodes one hs) ∙ ap (λ b. as_counted (behind_nodes b hs)) same ∙ counted_nodes two hs

-- ---- one behind the other

pub nodes_more : (before : Before) (xs ys : List HostText) → nodes_faults before (xs ++ ys) ≡ nodes_faults before xs ++ nodes_faults (behind_nodes before xs) ys
nodes_more before [] ys = refl
nodes_more before (x ∷ xs) ys =
    ap (λ l. node_faults before x.name x.port ++ l) (nodes_more (behind_node before x.name x.port) xs ys)
    ∙ sym (append_assoc (node_faults before x.name x.port) (nodes_faults (behind_node before x.name x.port) xs) (nodes_faults (behind_nodes (behind_node before x.name x.port) xs) ys))

pub behind_more : (before : Before) (xs ys : List HostText) → behind_nodes before (xs ++ ys) ≡ behind_nodes (behind_nodes before xs) ys
behind_more before [] ys = refl
behind_more before (x ∷ xs) ys = behind_more (behind_node before x.name x.port) xs ys

-- the faults of nodes, and then of those behind them
pub then_nodes : (before mid : Before) (best one two : Option (Fault Cause)) (xs ys : List HostText) → one ≡ least_from rank_of best (nodes_faults before xs) → as_counted mid ≡ as_counted (behind_nodes before xs)
    → two ≡ least_from rank_of one (nodes_faults mid ys) → two ≡ least_from rank_of best (nodes_faults before (xs ++ ys))
then_nodes before mid best one two xs ys first mid_is second =
    second ∙ ap (least_from rank_of one) (same_faults mid (behind_nodes before xs) ys mid_is) ∙ ap (λ o. least_from rank_of o (nodes_faults (behind_nodes before xs) ys)) first
    ∙ sym (least_more rank_of best (nodes_faults before xs) (nodes_faults (behind_nodes before xs) ys)) ∙ ap (least_from rank_of best) (sym (nodes_more before xs ys))

pub then_behind : (before mid last : Before) (xs ys : List HostText) → as_counted mid ≡ as_counted (behind_nodes before xs) → as_counted last ≡ as_counted (behind_nodes mid ys) → as_counted last ≡ as_counted (behind_nodes before (xs ++ ys))
then_behind before mid last xs ys mid_is last_is = last_is ∙ same_behind mid (behind_nodes before xs) ys mid_is ∙ ap as_counted (sym (behind_more before xs ys))

-- hosts behind hosts
pub then_hosts : (o : Option ℕ) (old mid new : List Host) (xs ys : List HostText) → mid ≡ old ++ map (host_meant o) xs → new ≡ mid ++ map (host_meant o) ys → new ≡ old ++ map (host_meant o) (xs ++ ys)
then_hosts o old mid new xs ys first second =
    second ∙ ap (λ l. l ++ map (host_meant o) ys) first ∙ append_assoc old (map (host_meant o) xs) (map (host_meant o) ys) ∙ ap (λ l. old ++ l) (sym (map-append (host_meant o) xs ys))
