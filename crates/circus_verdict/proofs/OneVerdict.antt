-- Of a record one thing is said.
use Rattle.std.proofs.Common.{◌≡◌, ℕ, ◌+◌, ◌<◌, ◌≤◌, ◌⊎◌, inl, inr, List, map, refl, sym, ap, subst, ◌∙◌, arith}
use Rattle.std.specs.Prelude.{slice_get}
use Rattle.std.proofs.lemmas.Option.{same_Some}
use Rattle.std.proofs.lemmas.Bool.{cases_lt}
use Rattle.circus_value.specs.ValueTree.{ValueTree}
use Rattle.circus_collate.specs.declared.deployment.Deployment.{Deployment}
use Rattle.circus_model.specs.Behaviour.{Behaviour}
use Rattle.circus_model.specs.declared.history.Run.{Run as Performed}
use Rattle.circus_model.specs.Execution.{history_of}
use Rattle.circus_model.specs.History.{runs_of}
use Rattle.circus_record.specs.declared.record.MemberRecord.{MemberRecord}
use Rattle.circus_headline_theory.specs.NodeRun.{state_at_activation}
use Rattle.circus_audit.specs.declared.given.Given.{Given}
use Rattle.circus_audit.specs.declared.given.GivenEvent.{GivenEvent}
use Rattle.circus_verdict.specs.declared.verdict.Verdict.{Verdict}
use Rattle.circus_verdict.specs.declared.verdict.Verdict.TheVariants.{Yes, NotARun, Run}
use Rattle.circus_verdict.specs.Beside.{IsFirstWrongRun, IsFirstWrong}
use Rattle.circus_verdict.specs.Audited.{IsAudited}
use Rattle.circus_verdict.specs.Verdict.{DoesNotStand, IsVerdict}
use Rattle.circus_verdict.specs.Seen.Living.{came_in}
use Rattle.circus_verdict.proofs.Auditing.{came_events, audited_is}

-- ---- the first wrong run is one

wrong_run_one : (runs : List Performed) (kept : MemberRecord) (one other : ℕ) → IsFirstWrongRun runs kept one → IsFirstWrongRun runs kept other → one ≡ other
wrong_run_one runs kept one other first second = by_order (cases_lt one other) (cases_lt other one)
  where
    by_order : (one < other) ⊎ (other ≤ one) → (other < one) ⊎ (one ≤ other) → one ≡ other
    by_order (inl below) also = absurd (first.wrong (second.right_before one below))
    by_order (inr within) (inl below) = absurd (second.wrong (first.right_before other below))
    by_order (inr within) (inr also) = omega (arith, within, also)

wrong_one : (history : List (List Performed)) (place : ℕ) (first state : List ValueTree) (kept : MemberRecord) (one other : ℕ) → IsFirstWrong history place first state kept one
    → IsFirstWrong history place first state kept other → one ≡ other
wrong_one history place first state kept one other (inl (wrong, is)) (inl (also, so)) = is ∙ sym so
wrong_one history place first state kept one other (inl (wrong, is)) (inr (right, rest)) = absurd (right wrong)
wrong_one history place first state kept one other (inr (right, rest)) (inl (wrong, is)) = absurd (right wrong)
wrong_one history place first state kept one other (inr (right, run)) (inr (also, again)) =
    run.is ∙ ap (λ n. kept.from + n) (wrong_run_one (runs_of history place) kept run.number again.number run.first_wrong again.first_wrong) ∙ sym again.is

-- ---- and so is the verdict

module _ (d : Deployment) (program : List Behaviour) (given : Given) where
  -- the state with which its member became active
  abbrev state_of : (wrong : ℕ) → DoesNotStand d program given wrong → List ValueTree
  state_of wrong a = state_at_activation d a.run.hosted given.node a.number a.run.troupe a.kept a.lived

  number_one : (one other : ℕ) → DoesNotStand d program given one → DoesNotStand d program given other → one ≡ other
  number_one one other a b = wrong_one (history_of program) b.number b.run.hosted.first (state_of other b) b.kept one other moved b.first_wrong
    where
      numbers : a.number ≡ b.number
      numbers = same_Some a.number b.number (sym a.is_number ∙ b.is_number)

      records : a.kept ≡ b.kept
      records = same_Some a.kept b.kept (sym a.is_kept ∙ b.is_kept)

      troupes : a.run.troupe ≡ b.run.troupe
      troupes = same_Some a.run.troupe b.run.troupe (sym a.run.is_troupe ∙ ap (slice_get d.troupes) numbers ∙ b.run.is_troupe)

      hosts : a.run.hosted ≡ b.run.hosted
      hosts = same_Some a.run.hosted b.run.hosted (sym a.run.is_hosted ∙ ap (slice_get program) numbers ∙ b.run.is_hosted)

      traces : a.lived ≡ b.lived
      traces = (audited_is d program given b.number b.lived b.kept b.is_number b.run b.audited.numbered came a.lived a.audited).lived_is
        where
          came : came_in b.lived ≡ map (λ (e : GivenEvent). e.event) given.events
          came = sym (came_events b.lived) ∙ ap (map (λ (e : GivenEvent). e.event)) (sym b.audited.events)

      states : state_of one a ≡ state_of other b
      states i = state_at_activation d (hosts i) given.node (numbers i) (troupes i) (records i) (traces i)

      moved : IsFirstWrong (history_of program) b.number b.run.hosted.first (state_of other b) b.kept one
      moved =
          subst (λ (s : List ValueTree). IsFirstWrong (history_of program) b.number b.run.hosted.first s b.kept one) states
          (subst (λ (k : MemberRecord). IsFirstWrong (history_of program) b.number b.run.hosted.first (state_of one a) k one) records
          (subst (λ (h : Behaviour). IsFirstWrong (history_of program) b.number h.first (state_of one a) a.kept one) hosts
          (subst (λ (n : ℕ). IsFirstWrong (history_of program) n a.run.hosted.first (state_of one a) a.kept one) numbers a.first_wrong)))

  -- what doesn't stand is audited, and not said to stand
  audited : (wrong : ℕ) → DoesNotStand d program given wrong → IsAudited d program given
  audited wrong a = record { lived = a.lived; is = a.audited }

  stands_not : (wrong : ℕ) → DoesNotStand d program given wrong → IsVerdict d program given Yes → ⊥
  stands_not wrong a stands = a.falls (stands.1 a.number a.run.hosted a.kept a.is_number a.run.is_hosted a.is_kept a.active)

  pub verdict_one : (one other : Verdict) → IsVerdict d program given one → IsVerdict d program given other → one ≡ other
  verdict_one Yes Yes is also = refl
  verdict_one Yes NotARun is also = absurd (also is.0)
  verdict_one Yes (Run wrong) is also = absurd (stands_not wrong also is)
  verdict_one NotARun Yes is also = absurd (is also.0)
  verdict_one NotARun NotARun is also = refl
  verdict_one NotARun (Run wrong) is also = absurd (is (audited wrong also))
  verdict_one (Run wrong) Yes is also = absurd (stands_not wrong is also)
  verdict_one (Run wrong) NotARun is also = absurd (also (audited wrong is))
  verdict_one (Run wrong) (Run other) is also = ap (λ n. Run n) (number_one wrong other is also)
