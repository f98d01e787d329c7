-- What a step that is put leaves, and where it is cut short.
use Rattle.std.proofs.Common.{◌≡◌, ℕ, ◌≤◌, Option, None, List, [], ◌∷◌, length, Result, Ok, Err, inr, refl, ap, subst, arith, length-append}
use Rattle.std.specs.Result.{IsErrAnd}
use Rattle.circus_value.specs.ValueTree.{ValueTree}
use Rattle.circus_value.specs.declared.outcome.Outcome.{Outcome}
use Rattle.circus_model.specs.NextTurn.{NextTurn}
use Rattle.circus_model.specs.declared.signature.Signature.{Signature}
use Rattle.circus_schedule.specs.declared.line.Line.{Line}
use Rattle.circus_schedule.specs.Meaning.{NamesBelow}
use Rattle.circus_world.specs.WorldState.{WorldState}
use Rattle.circus_world.specs.Legal.{refusal}
use Rattle.circus_world.specs.Course.{step_line}
use Rattle.circus_world.specs.Lines.{Lead}
use Rattle.circus_world.proofs.LineLemmas.{sent_stays}
use Rattle.circus_report.specs.declared.running.RunFault.{RunFault}
use Rattle.circus_report.specs.declared.running.RunFault.TheVariants as fault
use Rattle.circus_report.specs.Run.{IsPut, IsRun, sent_from}
use Rattle.circus_report.proofs.PutLemmas.{at_fault}

module _ {M : Type 0} (declared : M → Signature) (turn : M → List ValueTree → ℕ → List ValueTree → List Outcome → NextTurn) (line : Line) (w next : WorldState M)
    (legal : refusal w line ≡ None) (is : step_line declared turn line w ≡ Ok next) where
  lead : NamesBelow (length w.nodes) line → Lead declared turn (line ∷ []) w next
  lead named = (next, record { named = named; legal = legal; stepped_is = is }, refl)

  pub sent_before : NamesBelow (length w.nodes) line → length w.sent ≤ length next.sent
  sent_before named =
      let more = sent_stays declared turn (line ∷ []) w next (lead named) in
      omega (arith, ap length more.1, length-append w.sent more.0)

  -- not all of what was sent in it was put
  pub IsRun-cut : {A : Type 0} (r : Result (WorldState M) RunFault) (s : Result A RunFault) (f : RunFault) (old new : Option (List ℕ))
      → IsErrAnd r (λ y. y ≡ f) → s ≡ Err f → IsPut (sent_from (length w.sent) next) old new s → IsRun declared turn line w old new r
  IsRun-cut {A} r s f old new at was put = at_fault (IsRun declared turn line w old new) r f at (by_fault f (subst (IsPut (sent_from (length w.sent) next) old new) was put))
    where
      by_fault : (y : RunFault) → IsPut {A = A} (sent_from (length w.sent) next) old new (Err y) → IsRun declared turn line w old new (Err y)
      by_fault fault.SinkFailed part = (legal, (next, is, part))
      by_fault fault.NoMemory part = inr (legal, (next, is, part))
      by_fault (fault.Illegal cause) part = absurd part
      by_fault (fault.Spent node peer) part = absurd part
