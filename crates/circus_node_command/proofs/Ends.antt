-- Serving a node of a plan ends as it does with the behaviours of its modules.
use Rattle.std.proofs.Common.{◌≡◌, ℕ, inl, inr, List, [], Result, Ok, Err, IfOk, refl, sym, ap, subst, ◌∙◌}
use Rattle.std.specs.Prelude.{IsTrue}
use Rattle.circus_value.specs.ValueTree.{ValueTree}
use Rattle.circus_value.specs.declared.outcome.Outcome.{Outcome}
use Rattle.circus_collate.specs.declared.deployment.Deployment.{Deployment}
use Rattle.circus_model.specs.NextTurn.{NextTurn}
use Rattle.circus_model.specs.Behaviour.{behaviours}
use Rattle.circus_model.specs.declared.signature.Signature.{Signature}
use Rattle.circus_record.specs.Naming.{Names, names_of}
use Rattle.circus_node.specs.declared.event.Give.{Give}
use Rattle.circus_node.specs.declared.event.Outputs.{Outputs}
use Rattle.circus_node.specs.declared.event.StepFault.TheVariants as fault
use Rattle.circus_node.specs.NodeState.{NodeState}
use Rattle.circus_node.specs.Booting.{IsBooted}
use Rattle.circus_node.specs.Alike.{declared_of, turn_of, node_as}
use Rattle.circus_serve.specs.declared.fault.ServeFault.{ServeFault}
use Rattle.circus_serve.specs.declared.fault.ServeFault.TheVariants as serve_fault
use Rattle.circus_serve.specs.Outside.{Tells}
use Rattle.circus_serve.specs.Recorded.{Recorded}
use Rattle.circus_serve.specs.Answers.{IsAnswer}
use Rattle.circus_config.specs.declared.plan.Plan.{Plan}
use Rattle.circus_plan_modules.specs.Loaded.{behaviours_in}
use Rattle.circus_commands.specs.declared.status.Status.TheVariants.{Done, LinkFault, Spent}
use Rattle.circus_commands.specs.Status.{is_end}
use Rattle.circus_commands.specs.Ending.{Ending}
use Rattle.circus_commands.specs.declared.ending.Ending as coded
use Rattle.circus_commands.specs.Seen.Ending.{ending_of}
use Rattle.circus_commands.specs.Spent.{end_of_spent}
use Rattle.circus_node_command.specs.Alike.{recorded_as}
use Rattle.circus_node_command.specs.NodeEnds.{IsEndOfBooted, IsEndOfServing}
use Rattle.circus_node_command.specs.Seen.Ended.{EndsSo}
use Rattle.circus_node_command.proofs.AnswersAlike.{is_served_as, is_spent_as, link_failed_as}
use Rattle.circus_node_command.proofs.TextAlike.{text_as}
use Rattle.circus_node_command.proofs.Booted.{node_booted, none_booted}

module _ {M : Type 0} (declared : M → Signature) (turn : M → List ValueTree → ℕ → List ValueTree → List Outcome → NextTurn) (first : M → List ValueTree) where
  end_as : (names : Names) (d : Deployment) (node turns : ℕ) (old new : Tells) (booted : NodeState M) (gives : List Give) (ending : Ending)
      → IsEndOfBooted declared turn names d node turns old new booted gives ending
      → IsEndOfBooted declared_of turn_of names d node turns old new (node_as declared turn first booted) gives ending
  end_as names d node turns old new booted gives ending (inl (recorded, served, is)) =
      let done : List ℕ → Ending = λ text. record { status = Done; text = text } in
      inl (
        recorded_as declared turn first recorded,
        is_served_as declared turn first d node booted gives turns old new recorded served,
        is ∙ ap done (sym (text_as declared turn first names d node recorded)),
      )
  end_as names d node turns old new booted gives ending (inr (inl (peer, none, is))) =
      inr (inl (peer, is_spent_as declared turn first d node booted gives turns old new peer none, is))
  end_as names d node turns old new booted gives ending (inr (inr (failed, is))) =
      inr (inr (link_failed_as declared turn first d node booted gives turns old new failed, is))

  module _ (plan : Plan) (d : Deployment) (modules : List M) (node turns : ℕ) (old new : Tells) (ending : Ending) (same : d ≡ plan.deployment) (behave : behaviours declared turn first modules ≡ behaviours_in plan) where
    pub booted_ends : (names : List (List ℕ)) (boot : NodeState M × Outputs) → names ≡ plan.names → IsBooted declared turn first d modules node (Ok boot)
        → IsEndOfBooted declared turn (names_of d.nodes names) d node turns old new boot.0 boot.1.gives ending → IsEndOfServing plan node turns old new ending
    booted_ends names boot called is end =
        let by : Deployment → List (List ℕ) → Type 0 = λ x l.
        IsEndOfBooted declared_of turn_of (names_of x.nodes l) x node turns old new (node_as declared turn first boot.0) boot.1.gives ending in
        inl (
          (node_as declared turn first boot.0, boot.1),
          node_booted declared turn first plan d modules node same behave boot is,
          subst (λ x. by x plan.names) same (subst (by d) called (end_as (names_of d.nodes names) d node turns old new boot.0 boot.1.gives ending end)),
        )

    pub spent_ends : (peer : ℕ) → IsBooted declared turn first d modules node (Err (fault.Spent peer)) → new ≡ old → ending ≡ end_of_spent (names_of d.nodes []) (node, peer)
        → IsEndOfServing plan node turns old new ending
    spent_ends peer booted untouched is =
        inr (peer, none_booted declared turn first plan d modules node same behave peer booted, untouched, is ∙ ap (λ (x : Deployment). end_of_spent (names_of x.nodes []) (node, peer)) same)

module _ {M : Type 0} (declared : M → Signature) (turn : M → List ValueTree → ℕ → List ValueTree → List Outcome → NextTurn) (first : M → List ValueTree) where
  module _ (plan : Plan) (d : Deployment) (modules : List M) (node turns : ℕ) (same : d ≡ plan.deployment) (behave : behaviours declared turn first modules ≡ behaviours_in plan) where
    pub served_ends : {E : Type 0} (old new : Tells) (names : List (List ℕ)) (boot : NodeState M × Outputs) → names ≡ plan.names → IsBooted declared turn first d modules node (Ok boot)
        → (r : Result coded.Ending E) → IfOk r (λ ending. IsEndOfBooted declared turn (names_of d.nodes names) d node turns old new boot.0 boot.1.gives (ending_of ending))
        → IfOk r (λ ending. IsEndOfServing plan node turns old new (ending_of ending))
    served_ends old new names boot called is (Ok ending) end = booted_ends declared turn first plan d modules node turns old new (ending_of ending) same behave names boot called is end
    served_ends old new names boot called is (Err fault) end = tt

    pub none_ends : {E : Type 0} (old : Tells) (peer : ℕ) → IsBooted declared turn first d modules node (Err (fault.Spent peer))
        → (r : Result coded.Ending E) → IfOk r (λ ending. ending_of ending ≡ end_of_spent (names_of d.nodes []) (node, peer))
        → IfOk r (λ ending. IsEndOfServing plan node turns old old (ending_of ending))
    none_ends old peer booted (Ok ending) is = spent_ends declared turn first plan d modules node turns old old (ending_of ending) same behave peer booted refl is
    none_ends old peer booted (Err fault) is = tt

-- a node that has no number left has the status of an end, and no link fault
pub spent_is_end : {E : Type 0} (r : Result coded.Ending E) → IfOk r (λ ending. ending.status ≡ Spent) → IfOk r (λ ending. IsTrue (is_end ending.status))
spent_is_end (Ok ending) is = ap is_end is
spent_is_end (Err fault) is = tt

pub spent_no_fault : {E : Type 0} (r : Result coded.Ending E) (Risen : Type 0) → IfOk r (λ ending. ending.status ≡ Spent)
    → IfOk r (λ ending. ending.status ≡ LinkFault → Risen)
spent_no_fault (Ok ending) Risen is = λ also. absurd (let clash : Spent ≡ LinkFault = sym is ∙ also in cc)
spent_no_fault (Err fault) Risen is = tt

-- what found no memory has no end
pub no_end : {A E : Type 0} (r : Result A E) (P : A → Type 0) (f : E) → r ≡ Err f → IfOk r P
no_end r P f is = subst (λ s. IfOk s P) (sym is) tt

module _ {M : Type 0} (declared : M → Signature) (turn : M → List ValueTree → ℕ → List ValueTree → List Outcome → NextTurn) where
  -- the end is that of the answer, which is one of the node
  pub answer_ends : (names : Names) (d : Deployment) (node turns : ℕ) (old new : Tells) (booted : NodeState M) (gives : List Give)
      (served : Result (Recorded M) ServeFault) (ending : Ending)
      → IsAnswer declared turn d node booted gives turns old new served → EndsSo names d node served ending
      → IsEndOfBooted declared turn names d node turns old new booted gives ending
  answer_ends names d node turns old new booted gives (Ok recorded) ending is end = inl (recorded, is, end)
  answer_ends names d node turns old new booted gives (Err serve_fault.LinkFailed) ending is end = inr (inr (is, end))
  answer_ends names d node turns old new booted gives (Err (serve_fault.Spent peer)) ending is end = inr (inl (peer, is, end))
  answer_ends names d node turns old new booted gives (Err serve_fault.NoMemory) ending is end = absurd end

  -- likewise where it may have found no memory
  pub ends_answered : {E : Type 0} (names : Names) (d : Deployment) (node turns : ℕ) (old new : Tells) (booted : NodeState M) (gives : List Give)
      (served : Result (Recorded M) ServeFault) (r : Result coded.Ending E) → IsAnswer declared turn d node booted gives turns old new served
      → IfOk r (λ ending. EndsSo names d node served (ending_of ending))
      → IfOk r (λ ending. IsEndOfBooted declared turn names d node turns old new booted gives (ending_of ending))
  ends_answered names d node turns old new booted gives served (Ok ending) is end =
      answer_ends names d node turns old new booted gives served (ending_of ending) is end
  ends_answered names d node turns old new booted gives served (Err fault) is end = tt

-- a link fault comes only where serving failed so, and the count of faults rose then
pub rose_if_failed : {E : Type 0} (r : Result coded.Ending E) (Failed Risen : Type 0) → IfOk r (λ ending. ending.status ≡ LinkFault → Failed)
    → (Failed → Risen) → IfOk r (λ ending. ending.status ≡ LinkFault → Risen)
rose_if_failed (Ok ending) Failed Risen failed rose = λ is. rose (failed is)
rose_if_failed (Err fault) Failed Risen failed rose = tt
