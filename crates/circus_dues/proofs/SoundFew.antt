-- No run of a record of a module made more asks than one may.
use Rattle.std.specs.Prelude.{slice_get, unwrap_or}
use Rattle.std.proofs.Common.{◌≡◌, ℕ, zero, suc, ◌≤◌, true, false, List, [], ◌∷◌, take, length, All, Some, inl, inr, refl, sym, ap, subst}
use Rattle.std.proofs.lemmas.List.Elements.{All-nil, All-cons, All-push}
use Rattle.circus_limits.specs.Limits.{most_asks}
use Rattle.circus_value.specs.ValueTree.{ValueTree}
use Rattle.circus_model.specs.Lawful.{IsState, IsLawful}
use Rattle.circus_model.specs.NextTurn.{ends}
use Rattle.circus_model.specs.Behaviour.{Behaviour, IsModule}
use Rattle.circus_transfer.specs.declared.joiner.Joiner.TheVariants.{Active}
use Rattle.circus_record.specs.declared.record.RunRecord.{RunRecord}
use Rattle.circus_record.specs.declared.record.MemberRecord.{MemberRecord}
use Rattle.circus_performing.specs.Performing.{replies_of, state_after}
use Rattle.circus_performing.specs.Record.{start_of, HasEnded, IsOpen, HaveEnded, IsRecord}
use Rattle.circus_member_rules.proofs.Runs.{few_asks}

abbrev pub HasFew : RunRecord → Type 0
HasFew run = length run.asks ≤ most_asks

all_by_place : {X : Type 0} (P : X → Type 0) (xs : List X) → ((place : ℕ) (x : X) → slice_get xs place ≡ Some x → P x) → All P xs
all_by_place P [] each = All-nil P
all_by_place P (x ∷ xs) each = All-cons P x xs (each 0 x refl) (all_by_place P xs (λ place y at. each (suc place) y at))

module _ (b : Behaviour) (lawful : IsModule b) where
  -- a run left a state of its module
  left_state : (state : List ValueTree) (run : RunRecord) (e : HasEnded b state run) → IsState b.declared (unwrap_or run.state state)
  left_state state run e =
      let start = start_of run in
      let law = lawful.turns_are_lawful state start.procedure start.arguments (replies_of run.asks) e.made.may_start e.made.replies_fit in
      let ending : IsLawful b.declared start.procedure (length (replies_of run.asks)) (ends e.outcome e.after) =
      subst (IsLawful b.declared start.procedure (length (replies_of run.asks))) e.turn law in
      subst (IsState b.declared) (sym (ap (λ o. unwrap_or o state) e.state_is)) ending.1

  -- one that ended, and one that waits

  ended_few : (state : List ValueTree) (run : RunRecord) → HasEnded b state run → HasFew run
  ended_few state run e =
      let kept : MemberRecord = record { phase = Active 0; from = 0; active_at = 0; count = 1; runs = run ∷ []; state = unwrap_or run.state state } in
      few_asks b lawful state kept (record {
        now = inl (record { runs = each; count = refl; state = refl; is_state = left_state state run e });
        inactive = λ is. absurd (let clash : true ≡ false = is in cc);
      })
    where
      each : HaveEnded b state (run ∷ [])
      each zero other at = subst (HasEnded b state) (let is : Some run ≡ Some other = at in cc) e
      each (suc number) other at = cc

  open_few : (state : List ValueTree) (run : RunRecord) → IsOpen b state run → HasFew run
  open_few state run o =
      let kept : MemberRecord = record { phase = Active 0; from = 0; active_at = 0; count = 0; runs = run ∷ []; state = o.ask.state } in
      few_asks b lawful state kept (record {
        now = inr (record { before = []; run = run; runs_are = refl; runs = λ number other at. cc; waiting = o; count = refl; state = refl });
        inactive = λ is. absurd (let clash : true ≡ false = is in cc);
      })

  -- ---- a record

  ended_all : (began : List ValueTree) (runs : List RunRecord) → HaveEnded b began runs → All HasFew runs
  ended_all began runs ended = all_by_place HasFew runs (λ number run at. ended_few (state_after began (take number runs)) run (ended number run at))

  pub all_few : (began : List ValueTree) (kept : MemberRecord) → IsRecord b began kept → All HasFew kept.runs
  all_few began kept r =
      elim r.now [
        | inl idle ↦ ended_all began kept.runs idle.runs
        | inr p ↦ subst (All HasFew) (sym p.runs_are)
            (All-push HasFew p.before p.run (ended_all began p.before p.runs) (open_few (state_after began p.before) p.run p.waiting))
      ]
