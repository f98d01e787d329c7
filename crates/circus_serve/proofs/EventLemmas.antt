-- What comes to a node that is served, by the parts of the code that follow it.
use Rattle.std.proofs.Common.{◌≡◌, ℕ, ◌+◌, ◌<◌, Bool, true, false, ◌==◌, if◌then◌else◌, List, [], ◌∷◌, ◌++◌, length, Option, None, Some, option_and_then, Result, Ok, Err, IfOk, refl, sym, ap, subst, ◌∙◌, append_assoc, append-nil, arith}
use Rattle.std.specs.List.{position}
use Rattle.std.proofs.lemmas.Bool.{eqb-false}
use Rattle.std.proofs.lemmas.List.Quantifiers.{position-Some}
use Rattle.circus_value.specs.ValueTree.{ValueTree}
use Rattle.circus_value.specs.declared.outcome.Outcome.{Outcome}
use Rattle.circus_collate.specs.declared.deployment.Host.{Host}
use Rattle.circus_collate.specs.declared.deployment.Deployment.{Deployment}
use Rattle.circus_model.specs.NextTurn.{NextTurn}
use Rattle.circus_model.specs.declared.signature.Signature.{Signature}
use Rattle.circus_wire.specs.Wire.{IsOther}
use Rattle.circus_outside.specs.Link.{LinkCounts}
use Rattle.circus_outside.specs.declared.link.LinkFault.{LinkFault}
use Rattle.circus_outside.specs.declared.link.LinkFault.TheVariants as link
use Rattle.circus_node.specs.declared.event.Event.{Event}
use Rattle.circus_node.specs.declared.event.Event.TheVariants.{Join}
use Rattle.circus_node.specs.declared.event.Give.{Give}
use Rattle.circus_node.specs.declared.event.Outputs.{Outputs}
use Rattle.circus_node.specs.declared.event.StepFault.{StepFault}
use Rattle.circus_node.specs.declared.event.StepFault.TheVariants as refused
use Rattle.circus_node.specs.Node.{IsNodeOf}
use Rattle.circus_node.specs.NodeState.{NodeState}
use Rattle.circus_node.specs.Step as step
use Rattle.circus_serve.specs.declared.happening.Happening.{Happening}
use Rattle.circus_serve.specs.declared.happening.Happening.TheVariants.{Booted, Stepped, Foreign}
use Rattle.circus_serve.specs.declared.fault.ServeFault.{ServeFault}
use Rattle.circus_serve.specs.declared.fault.ServeFault.TheVariants as fault
use Rattle.circus_serve.specs.Happened.{peer_at, gives_in, all_given, given_in}
use Rattle.circus_serve.specs.Serving.{Served, Progress, on, spent, happened_by, conclude_event, with_foreign, is_spare, at_boot, event_comes, suspects_by, suspects_in, comes, begin_serving}
use Rattle.circus_serve.specs.Outside.{Tells, IsAsked}
use Rattle.circus_serve.specs.Giving.{gives_alone, AreGiven}
use Rattle.circus_serve.specs.Seen.Asking.{HasGiven}
use Rattle.circus_serve.specs.Seen.Counting.{ServeCounts}
use Rattle.circus_serve.specs.Seen.Faults.{of_link, of_step}
use Rattle.circus_serve.specs.Seen.Going.{GoesTo, HasGone}
use Rattle.circus_serve.proofs.GivenLemmas.{none_given, part_of_more, failed_with_more, asked_none}
use Rattle.circus_serve.proofs.HappenedLemmas.{given_in-append, Extends, event_extends, comes_extends}

-- what is given in one happening
given_in_one : (d : Deployment) (x : Happening) → given_in d (x ∷ []) ≡ all_given d (gives_in x)
given_in_one d x = ap (all_given d) (append-nil (gives_in x))

given_in_first : (d : Deployment) (x : Happening) (later : List Happening) → given_in d ((x ∷ []) ++ later) ≡ all_given d (gives_in x) ++ given_in d later
given_in_first d x later = given_in-append d (x ∷ []) later ∙ ap (λ z. z ++ given_in d later) (given_in_one d x)

-- what failed in a row of calls, as a fault where more was to be given
fault_given_more : (A : Type 0) (old new : Tells) (whole more : List (ℕ × List ℕ)) (f : LinkFault) → AreGiven {A = Unit {0}} old new whole (Err f)
    → HasGiven {A = A} old new (whole ++ more) (Err (of_link f))
fault_given_more A old new whole more link.Failed given = failed_with_more A A old new whole more given
fault_given_more A old new whole more link.NoMemory given = part_of_more old new whole more given

-- nothing is said of where it goes behind a link's fault
unsaid : {A M : Type 0} (state : A → Served M) (progress : Progress M) (f : LinkFault) → GoesTo state progress (Err (of_link f))
unsaid state progress link.Failed = tt
unsaid state progress link.NoMemory = tt

-- nothing is said of an answer at a fault
pub if_fault : {A E : Type 0} (r : Result A E) (f : E) (P : A → Type 0) → r ≡ Err f → IfOk r P
if_fault r f P is = subst (λ x. IfOk x P) (sym is) tt

-- a fault counts the same in another answer
pub fault_counts : (A B : Type 0) (f : ServeFault) (old new : ℕ) → ServeCounts {A = A} (Err f) old new → ServeCounts {A = B} (Err f) old new
fault_counts A B (fault.Spent node) old new counts = counts
fault_counts A B fault.LinkFailed old new counts = counts
fault_counts A B fault.NoMemory old new counts = counts

-- nothing failed before
pub then_counts : {A : Type 0} (r : Result A ServeFault) (old mid new : ℕ) → mid ≡ old → ServeCounts r mid new → ServeCounts r old new
then_counts r old mid new same counts = subst (λ count. ServeCounts r count new) same counts

-- what the count of a link says of a fault of serving
pub count_at_fault : (A : Type 0) (f : LinkFault) (old new : ℕ) → LinkCounts {A = Unit {0}} (Err f) old new → ServeCounts {A = A} (Err (of_link f)) old new
count_at_fault A link.Failed old new counts = counts
count_at_fault A link.NoMemory old new counts = counts

-- a step that is refused counts nothing
pub count_at_refusal : (A : Type 0) (f : StepFault) (count : ℕ) → ServeCounts {A = A} (Err (of_step f)) count count
count_at_refusal A (refused.Spent node) count = refl
count_at_refusal A refused.NoMemory count = refl

module _ {A M : Type 0} (state : A → Served M) (d : Deployment) where
  -- memory ran out before anything was given
  pub gone_stopped : (old new : Tells) (before : List Happening) (progress : Progress M) → Extends before progress → new.bound ≡ old.bound → new.taken ≡ old.taken → new.given ≡ old.given
      → HasGone state d old new before progress (Err fault.NoMemory)
  gone_stopped old new before progress extends bound taken given =
      record { later = extends.later; happened = extends.is; goes = tt; given = none_given old new (given_in d extends.later) (asked_none old new bound taken given) }

  -- a fault while this was given
  gone_lacking : (old new : Tells) (before : List Happening) (first : Happening) (progress : Progress M) (f : LinkFault) → Extends (before ++ first ∷ []) progress
      → AreGiven {A = Unit {0}} old new (all_given d (gives_in first)) (Err f) → HasGone state d old new before progress (Err (of_link f))
  gone_lacking old new before first progress f extends given =
      record {
        later = (first ∷ []) ++ extends.later;
        happened = extends.is ∙ append_assoc before (first ∷ []) extends.later;
        goes = unsaid state progress f;
        given = subst (λ whole. HasGiven {A = A} old new whole (Err (of_link f))) (sym (given_in_first d first extends.later))
            (fault_given_more A old new (all_given d (gives_in first)) (given_in d extends.later) f given);
      }

  -- it goes on with this noted
  gone_noted : (old new : Tells) (before : List Happening) (first : Happening) (progress : Progress M) (a : A) → progress ≡ on (state a) → (state a).happened ≡ before ++ first ∷ []
      → IsAsked old new (gives_alone (all_given d (gives_in first))) → HasGone state d old new before progress (Ok a)
  gone_noted old new before first progress a is happened link =
      record {
        later = first ∷ [];
        happened = ap happened_by is ∙ happened;
        goes = is;
        given = subst (λ whole. IsAsked old new (gives_alone whole)) (sym (given_in_one d first)) link;
      }

  -- ---- an event

  module _ (declared : M → Signature) (turn : M → List ValueTree → ℕ → List ValueTree → List Outcome → NextTurn) (event : Event) (s : Served M) where
    -- the node has no step, or memory ran out in it
    pub event_refused : (old new : Tells) (f : StepFault) → step.IsEnded (Err f) (step.step_node declared turn s.next event s.node) → new.bound ≡ old.bound → new.taken ≡ old.taken → new.given ≡ old.given
        → HasGone state d old new s.happened (event_comes declared turn event s) (Err (of_step f))
    unfolding event_comes
    event_refused old new (refused.Spent node) ended bound taken given =
        let is : event_comes declared turn event s ≡ spent node s.happened = ap (conclude_event event s) ended in
        record {
          later = [];
          happened = ap happened_by is ∙ sym (append-nil s.happened);
          goes = is ∙ ap (λ p. spent node (happened_by p)) (sym is);
          given = asked_none old new bound taken given;
        }
    event_refused old new refused.NoMemory ended bound taken given =
        gone_stopped old new s.happened (event_comes declared turn event s) (event_extends declared turn event s) bound taken given

    module _ (node : NodeState M) (outputs : Outputs) (ended : step.step_node declared turn s.next event s.node ≡ Ok (node, outputs)) where
      abbrev noted : Happening
      noted = Stepped event outputs.gives outputs.differences

      abbrev afterwards : Served M
      afterwards = record { node = node; next = s.next + 1; happened = s.happened ++ noted ∷ [] }

      event_is : event_comes declared turn event s ≡ on afterwards
      unfolding event_comes
      event_is = ap (conclude_event event s) ended

      extends_so : Extends (s.happened ++ noted ∷ []) (event_comes declared turn event s)
      extends_so = record { later = []; is = ap happened_by event_is ∙ sym (append-nil (s.happened ++ noted ∷ [])) }

      pub event_lacking : (old new : Tells) (f : LinkFault) → AreGiven {A = Unit {0}} old new (all_given d outputs.gives) (Err f)
          → HasGone state d old new s.happened (event_comes declared turn event s) (Err (of_link f))
      event_lacking old new f given = gone_lacking old new s.happened noted (event_comes declared turn event s) f extends_so given

      -- the node afterwards, by its log
      pub noted_so : (next : ℕ) (happened : List Happening) (copy : Event) → copy ≡ event → next ≡ s.next + 1
          → happened ≡ s.happened ++ Stepped copy outputs.gives outputs.differences ∷ [] → record { node = node; next = next; happened = happened } ≡ afterwards
      noted_so next happened copy same next_is happened_is = λ i.
          record {
            node = node;
            next = next_is i;
            happened = (happened_is ∙ ap (λ e. s.happened ++ Stepped e outputs.gives outputs.differences ∷ []) same) i;
          }

      -- its suspects
      pub suspects_so : outputs.suspects ≡ suspects_by declared turn event s
      unfolding suspects_by
      suspects_so = sym (ap suspects_in ended)

      pub event_noted : (old new : Tells) (a : A) → state a ≡ afterwards → IsAsked old new (gives_alone (all_given d outputs.gives))
          → HasGone state d old new s.happened (event_comes declared turn event s) (Ok a)
      event_noted old new a is link =
          gone_noted old new s.happened noted (event_comes declared turn event s) a (event_is ∙ ap on (sym is)) (ap (λ (t : Served M). t.happened) is) link

  -- ---- boot

  module _ (declared : M → Signature) (turn : M → List ValueTree → ℕ → List ValueTree → List Outcome → NextTurn) (node : NodeState M) (gives : List Give) where
    begun_extends : Extends ([] ++ Booted gives ∷ []) (begin_serving declared turn node gives)
    begun_extends = by_spare (is_spare node)
      where
        by_spare : (b : Bool) → Extends (Booted gives ∷ []) (if b then comes declared turn Join (at_boot node gives) else on (at_boot node gives))
        by_spare true = comes_extends declared turn Join (at_boot node gives)
        by_spare false = record { later = []; is = refl }

    pub boot_lacking : (old new : Tells) (f : LinkFault) → AreGiven {A = Unit {0}} old new (all_given d gives) (Err f) → HasGone state d old new [] (begin_serving declared turn node gives) (Err (of_link f))
    boot_lacking old new f given = gone_lacking old new [] (Booted gives) (begin_serving declared turn node gives) f begun_extends given

    -- the node at boot, by its log
    pub boot_so : (next : ℕ) (happened : List Happening) → next ≡ 1 → happened ≡ Booted gives ∷ [] → record { node = node; next = next; happened = happened } ≡ at_boot node gives
    boot_so next happened next_is happened_is = λ i. record { node = node; next = next_is i; happened = happened_is i }

    pub boot_noted : (old new : Tells) (a : A) → state a ≡ at_boot node gives → IsAsked old new (gives_alone (all_given d gives)) → HasGone state d old new [] (on (at_boot node gives)) (Ok a)
    boot_noted old new a is link = gone_noted old new [] (Booted gives) (on (at_boot node gives)) a (ap on (sym is)) (ap (λ (t : Served M). t.happened) is) link

  -- ---- a foreign datagram

  -- the node afterwards, by its log
  pub foreign_so : (s : Served M) (port : ℕ) (bytes : List ℕ) (next : ℕ) (happened : List Happening) → next ≡ s.next → happened ≡ s.happened ++ Foreign port bytes ∷ []
      → record { node = s.node; next = next; happened = happened } ≡ with_foreign port bytes s
  foreign_so s port bytes next happened next_is happened_is = λ i. record { node = s.node; next = next_is i; happened = happened_is i }

  pub foreign_noted : (old new : Tells) (s : Served M) (port : ℕ) (bytes : List ℕ) (a : A) → state a ≡ with_foreign port bytes s → new.bound ≡ old.bound → new.taken ≡ old.taken → new.given ≡ old.given
      → HasGone state d old new s.happened (on (with_foreign port bytes s)) (Ok a)
  foreign_noted old new s port bytes a is bound taken given =
      gone_noted old new s.happened (Foreign port bytes) (on (with_foreign port bytes s)) a (ap on (sym is)) (ap (λ (t : Served M). t.happened) is) (asked_none old new bound taken given)

-- ---- a peer

pub peer_is_other : {M : Type 0} (d : Deployment) (own port from : ℕ) (n : NodeState M) → IsNodeOf d own n → peer_at d own port ≡ Some from → IsOther n.wire from
peer_is_other d own port from n node is = by_place (position (λ (h : Host). h.port == port) d.nodes) refl is
  where
    by_place : (p : Option ℕ) → position (λ (h : Host). h.port == port) d.nodes ≡ p → option_and_then (λ number. if number == own then None else Some number) p ≡ Some from → IsOther n.wire from
    by_place None place peer = absurd cc
    by_place (Some number) place peer = by_own (number == own) refl peer
      where
        by_own : (b : Bool) → (number == own) ≡ b → (if b then None else Some number) ≡ Some from → IsOther n.wire from
        by_own true same peer = absurd cc
        by_own false same peer =
            let is : number ≡ from = cc in
            let differs = eqb-false number own same in
            let within = below d.nodes number place in
            (λ same. differs (is ∙ same ∙ node.own), omega (arith, within, is, node.pairs))
          where
            below : (xs : List Host) (k : ℕ) → position (λ (h : Host). h.port == port) xs ≡ Some k → k < length xs
            below [] k at = absurd cc
            below (x ∷ xs) k at = (position-Some (λ (h : Host). h.port == port) (x ∷ xs) k x at).0
