-- Handing over bit by bit, and what a node is once it has.
use Rattle.std.proofs.Common.{◌≡◌, ℕ, List, [], ◌∷◌, ◌++◌, fold, Result, Ok, Err, refl, sym, ap, subst, ◌∙◌}
use Rattle.std.specs.Iterator.{Yields}
use Rattle.std.specs.Vec.Iter.{into_iter_items, into_iter_steps}
use Rattle.std.specs.declared.vec.IntoIter.{IntoIter}
use Rattle.std.proofs.lemmas.List.Sums.{fold-append}
use Rattle.circus_collate.specs.declared.deployment.Deployment.{Deployment}
use Rattle.circus_wire.specs.Wire.{WireState}
use Rattle.circus_member_rules.specs.declared.occurrence.Purpose.{Purpose}
use Rattle.circus_member_rules.specs.declared.occurrence.Effect.{Effect}
use Rattle.circus_member_rules.specs.declared.occurrence.Difference.{Difference}
use Rattle.circus_node.specs.declared.event.Give.{Give}
use Rattle.circus_node.specs.declared.event.Outputs.{Outputs}
use Rattle.circus_node.specs.declared.event.StepFault.{StepFault}
use Rattle.circus_node.specs.declared.event.StepFault.TheVariants as fault
use Rattle.circus_node.specs.declared.acting.Consequences.{Consequences}
use Rattle.circus_node.specs.declared.station.Station.{Station}
use Rattle.circus_node.specs.NodeState.{Acting, NodeState}
use Rattle.circus_node.specs.Sending.{Sending, sent, spent, hand_over, next_handed, all_handed}
use Rattle.circus_node.specs.Step.{Ended, IsEnded, end_step, conclude_step, tick_node}
use Rattle.circus_node.specs.Seen.StationOf.{node_of, HasSent, IsConcluded, HasTicked, IsTicked}
use Rattle.circus_node.specs.Seen.Sent.{IsHanded}

-- ---- handing over

spent_stays : (node : ℕ) (es : List Effect) → all_handed (spent node) es ≡ spent node
spent_stays node [] = refl
spent_stays node (e ∷ es) = spent_stays node es

pub none_left : (s : Sending) (done rest : List Effect) (e : Effect) (node : ℕ) (w : WireState Purpose) (gives : List Give)
    → all_handed s done ≡ sent w gives → hand_over w gives e ≡ spent node → all_handed s (done ++ e ∷ rest) ≡ spent node
none_left s done rest e node w gives so_far is =
    fold-append next_handed s done (e ∷ rest) ∙ ap (λ x. fold next_handed (next_handed x e) rest) so_far
    ∙ ap (λ x. fold next_handed x rest) is ∙ spent_stays node rest

fault_at : (A : Type 0) (s : Sending) (done rest : List Effect) (e : Effect) (f : StepFault) (w after : WireState Purpose) (gives given : List Give)
    → all_handed s done ≡ sent w gives → IsHanded {A = A} (Err f) after given (hand_over w gives e) → IsHanded {A = A} (Err f) after given (all_handed s (done ++ e ∷ rest))
fault_at A s done rest e (fault.Spent node) w after gives given so_far is = none_left s done rest e node w gives so_far is
fault_at A s done rest e fault.NoMemory w after gives given so_far is = tt

-- a fault at one of them is that of all
pub fault_of_all : (A : Type 0) (s : Sending) (done rest es : List Effect) (e : Effect) (f g : StepFault) (r : Result A StepFault) (w after : WireState Purpose) (gives given : List Give)
    → all_handed s done ≡ sent w gives → IsHanded {A = A} (Err f) after given (hand_over w gives e) → es ≡ done ++ e ∷ rest → r ≡ Err g → g ≡ f
    → IsHanded r after given (all_handed s es)
fault_of_all A s done rest es e f g r w after gives given so_far is all failed same =
    let failure : StepFault → Result A StepFault = λ x. Err x in
    subst (λ (x : Result A StepFault). IsHanded x after given (all_handed s es)) (sym (failed ∙ ap failure same))
    (subst (λ l. IsHanded {A = A} (Err f) after given (all_handed s l)) (sym all) (fault_at A s done rest e f w after gives given so_far is))

-- what an iterator had is what it gave and what it has
pub left_over : {X Z : Type 0} (given : List X) (s t : IntoIter X Z) → Yields into_iter_steps s given t → into_iter_items s ≡ given ++ into_iter_items t
left_over [] s t y = ap into_iter_items y
left_over (x ∷ given) s t y = y.1.0 ∙ ap (λ l. x ∷ l) (left_over given y.0 t y.2)

-- ---- nodes

-- a node and outputs of these parts
abbrev node_with : {M : Type 0} → WireState Purpose → Acting M → List Give → Deployment → ℕ → List ℕ → List Difference → Ended M
node_with w acting gives d dropped suspects differences =
    Ok (record { deployment = d; wire = w; acting = acting; dropped = dropped }, record { gives = gives; suspects = suspects; differences = differences })

same_parts : {M : Type 0} (w : WireState Purpose) (acting : Acting M) (gives : List Give) (d e : Deployment) (n m : ℕ) (ss ts : List ℕ) (ds es : List Difference)
    → d ≡ e → n ≡ m → ss ≡ ts → ds ≡ es → node_with w acting gives d n ss ds ≡ node_with w acting gives e m ts es
same_parts w acting gives d e n m ss ts ds es deployment dropped suspects differences =
    ap (λ x. node_with w acting gives x n ss ds) deployment
    ∙ ap (λ x. node_with w acting gives e x ss ds) dropped
    ∙ ap (λ x. node_with w acting gives e m x ds) suspects
    ∙ ap (λ x. node_with w acting gives e m ts x) differences

pub concluded_is : {M : Type 0} (s : Station) (acting : Acting M) (gives : List Give) (came : Consequences) (r : Station × Outputs)
    → HasSent s gives came r → conclude_step (node_of s acting) gives came ≡ Ok (node_of r.0 acting, r.1)
concluded_is s acting gives came r h =
    ap (end_step (node_of s acting) came) h.handed
    ∙ same_parts r.0.wire acting r.1.gives _ _ _ _ _ _ _ _ (sym h.deployment) (sym h.dropped) (sym h.suspects) (sym h.differences)

-- a fault of what was concluded is one of the node's
pub concluded_fault : {M : Type 0} (s t : Station) (acting : Acting M) (gives : List Give) (came : Consequences) (f : StepFault)
    → IsConcluded (Err f) s t gives came → IsEnded (Err f) (conclude_step (node_of s acting) gives came)
concluded_fault s t acting gives came (fault.Spent node) is = ap (end_step (node_of s acting) came) is
concluded_fault s t acting gives came fault.NoMemory is = tt

ticked_with : {M : Type 0} (acting : Acting M) (gives hs : List Give) (d e : Deployment) (w v : WireState Purpose) (n m : ℕ) (ss ts : List ℕ) (ds es : List Difference)
    → gives ≡ hs → d ≡ e → w ≡ v → n ≡ m → ss ≡ ts → ds ≡ es → node_with w acting gives d n ss ds ≡ node_with v acting hs e m ts es
ticked_with acting gives hs d e w v n m ss ts ds es given deployment wire dropped suspects differences =
    ap (λ x. node_with w acting x d n ss ds) given
    ∙ ap (λ x. node_with x acting hs d n ss ds) wire
    ∙ same_parts v acting hs d e n m ss ts ds es deployment dropped suspects differences

pub ticked_is : {M : Type 0} (s : Station) (acting : Acting M) (r : Station × Outputs) → HasTicked s r → tick_node (node_of s acting) ≡ Ok (node_of r.0 acting, r.1)
ticked_is s acting r h =
    ticked_with acting _ _ _ _ _ _ _ _ _ _ _ _ (sym h.gives) (sym h.deployment) (sym h.wire) (sym h.dropped) (sym h.suspects) (sym h.differences)

pub ticked_fault : {M : Type 0} (s t : Station) (acting : Acting M) (f : StepFault) → IsTicked (Err f) s t → IsEnded (Err f) (tick_node (node_of s acting))
ticked_fault s t acting (fault.Spent node) is = absurd is
ticked_fault s t acting fault.NoMemory is = tt

-- memory ran out
pub lost_memory : {M : Type 0} (r : Result (NodeState M × Outputs) StepFault) (end : Ended M) (f : StepFault) → r ≡ Err f → f ≡ fault.NoMemory → IsEnded r end
lost_memory r end f is no_memory = subst (λ x. IsEnded x end) (sym is) (subst (λ x. IsEnded (Err x) end) (sym no_memory) tt)

-- what a step comes to, by its parts
pub concluded_as : {M : Type 0} (r : Result (NodeState M × Outputs) StepFault) (n : NodeState M) (t : Station) (acting : Acting M) (gives given : List Give) (came made : Consequences)
    → node_of t acting ≡ n → gives ≡ given → came ≡ made → IsEnded r (conclude_step (node_of t acting) gives came) → IsEnded r (conclude_step n given made)
concluded_as r n t acting gives given came made is given_is made_is ended_so =
    subst (λ x. IsEnded r (conclude_step x given made)) is
    (subst (λ x. IsEnded r (conclude_step (node_of t acting) x made)) given_is
    (subst (λ x. IsEnded r (conclude_step (node_of t acting) gives x)) made_is ended_so))

abbrev node_parts : {M : Type 0} → Deployment → WireState Purpose → Acting M → ℕ → NodeState M
node_parts d w a n = record { deployment = d; wire = w; acting = a; dropped = n }

-- a node of a station
pub node_is : {M : Type 0} (t : Station) (a b : Acting M) (d : Deployment) (w : WireState Purpose) (dropped : ℕ)
    → t.deployment ≡ d → t.wire ≡ w → a ≡ b → t.dropped ≡ dropped → ◌≡◌ {A = NodeState M} (node_of t a) (record { deployment = d; wire = w; acting = b; dropped = dropped })
node_is t a b d w dropped deployment wire acting count =
    ap (λ x. node_parts x t.wire a t.dropped) deployment ∙ ap (λ x. node_parts d x a t.dropped) wire ∙ ap (λ x. node_parts d w x t.dropped) acting ∙ ap (λ x. node_parts d w b x) count
