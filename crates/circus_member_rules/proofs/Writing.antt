-- What the laws of a module say of what its runs ask and end with: all of it can be written.
use Rattle.std.proofs.Common.{◌≡◌, ℕ, ◌+◌, ◌-◌, ◌<◌, ◌≤◌, Bool, true, false, List, [], ◌∷◌, ◌++◌, length, take, Some, None, inl, inr, refl, sym, subst, ap, ◌∙◌, arith, length-append}
use Rattle.std.specs.Prelude.{◌||◌, unwrap_or}
use Rattle.std.proofs.lemmas.List.Elements.{All-push}
use Rattle.circus_value.specs.ValueTree.{ValueTree}
use Rattle.circus_value.specs.ShapeTree.{FieldTrees, no_fields}
use Rattle.circus_value.specs.Fits.{all_fit}
use Rattle.circus_value.specs.declared.outcome.Outcome.{Outcome}
use Rattle.circus_value.specs.declared.outcome.Outcome.TheVariants.{Returned, Raised}
use Rattle.circus_external.specs.Spelling.{fields_admit}
use Rattle.circus_limits.specs.Limits.{most_asks}
use Rattle.circus_collate.specs.declared.view.View.{View}
use Rattle.circus_transfer.specs.Snapshot.{fields_of}
use Rattle.circus_transfer.proofs.Fields.{admits}
use Rattle.circus_model.specs.declared.signature.Signature.{Signature}
use Rattle.circus_model.specs.declared.signature.Import.{Import}
use Rattle.circus_model.specs.declared.signature.ProcedureShape.{ProcedureShape}
use Rattle.circus_model.specs.declared.signature.ErrorShape.{ErrorShape}
use Rattle.circus_model.specs.NextTurn.{ends}
use Rattle.circus_model.specs.Lawful.{procedure_numbered, import_of, arguments_fit, import_takes, is_reported, is_raised_by_language, outcome_fits, IsLawfulAsk, IsLawfulEnd}
use Rattle.circus_model.specs.Behaviour.{Behaviour, IsModule}
use Rattle.circus_model.proofs.Turning.{some_true}
use Rattle.circus_record.specs.declared.record.AskRecord.{AskRecord}
use Rattle.circus_record.specs.declared.record.RunRecord.{RunRecord}
use Rattle.circus_record.specs.declared.record.MemberRecord.{MemberRecord}
use Rattle.circus_performing.specs.Performing.{state_after, replies_of, clock_after, open_ask, last_of, refusal}
use Rattle.circus_performing.specs.Record.{start_of, HasEnded, IsIdle, IsPerforming, IsRecord}
use Rattle.circus_performing.proofs.Ends.{last_more}
use Rattle.circus_performing.proofs.Turns.{turn_is_lawful}
use Rattle.circus_performing.proofs.Records.{none_is_some, idle_has_none, performing_has_one}
use Rattle.circus_member_rules.specs.declared.place.Place.{Place}
use Rattle.circus_member_rules.specs.Step.{header_of_ask, reply_of_run}
use Rattle.circus_member_rules.specs.Callable.{IsWritable, IsAsked, IsReply}
use Rattle.circus_member_rules.specs.Happening.{IsHome}
use Rattle.circus_member_rules.specs.Seen.Sound.{IsRunOf}

-- values for which there are fields
abbrev pub CanWrite : List ValueTree → Type 0
CanWrite values = (fields : FieldTrees) × (fields_admit fields values ≡ true)

-- ---- an outcome

reported_or_raised : (errors : List ErrorShape) (number : ℕ) (values : List ValueTree) → (is_reported errors number values || is_raised_by_language number values) ≡ true → CanWrite values
reported_or_raised errors number values fits = by_test (is_reported errors number values) refl
  where
    by_language : (vs : List ValueTree) → is_raised_by_language number vs ≡ true → CanWrite vs
    by_language [] raised = (no_fields, refl)
    by_language (v ∷ vs) raised = cc

    by_test : (reported : Bool) → is_reported errors number values ≡ reported → CanWrite values
    by_test true is =
        let e = some_true (λ (e : ErrorShape). all_fit e.arguments values) _ is in
        (fields_of e.value.arguments, admits e.value.arguments values ∙ e.passes)
    by_test false is = by_language values (rw is at fits)

fitting_outcome : (p : ProcedureShape) (outcome : Outcome) → outcome_fits p outcome ≡ true → IsWritable outcome
fitting_outcome p (Returned results) fits = (fields_of p.results, admits p.results results ∙ fits)
fitting_outcome p (Raised number values) fits = reported_or_raised p.errors number values fits

pub writable_end : (declared : Signature) (procedure : ℕ) (outcome : Outcome) → IsLawfulEnd declared procedure outcome → IsWritable outcome
writable_end declared procedure outcome law =
    let p = some_true (λ (p : ProcedureShape). outcome_fits p outcome) (procedure_numbered procedure declared.procedures) law.fits in
    fitting_outcome p.value outcome p.passes

-- ---- an ask

pub writable_ask : (imports : List Import) (callee procedure : ℕ) (arguments : List ValueTree) → import_takes imports callee procedure arguments ≡ true → CanWrite arguments
writable_ask imports callee procedure arguments takes =
    let i = some_true (λ (i : Import). arguments_fit i.procedures procedure arguments) (import_of callee imports) takes in
    let p = some_true (λ (p : ProcedureShape). all_fit p.arguments arguments) (procedure_numbered procedure i.value.procedures) i.passes in
    (fields_of p.value.arguments, admits p.value.arguments arguments ∙ p.passes)

pub callee_below : (declared : Signature) (place : Place) (views : List View) (callee procedure : ℕ) (arguments : List ValueTree) → IsHome declared place views → import_takes declared.imports callee procedure arguments ≡ true → callee < place.troupe
callee_below declared place views callee procedure arguments home takes =
    let i = some_true (λ (i : Import). arguments_fit i.procedures procedure arguments) (import_of callee declared.imports) takes in
    home.imports callee i.value i.there

-- the header of an ask of a run
pub asked_is : (declared : Signature) (place : Place) (views : List View) (kept : MemberRecord) (run : RunRecord) (ask : AskRecord) → IsHome declared place views → IsRunOf place.troupe (length views) run → length run.asks ≤ most_asks → ask.callee < place.troupe → IsAsked (header_of_ask place.troupe kept run ask)
asked_is declared place views kept run ask home of few below =
    let long : length (run.path ++ (length run.asks - 1) ∷ []) ≡ length run.path + 1 = length-append run.path ((length run.asks - 1) ∷ []) in
    let begins = of.thread.begins in
    let short = of.thread.short in
    let now = of.now in
    let most = home.few in
    let own = home.own in
    record {
      asks = record {
        root = omega (arith, begins, most);
        path_some = omega (arith, long);
        path_most = omega (arith, long, short, most, below);
        path = All-push (λ n. n < most_asks) run.path (length run.asks - 1) of.thread.numbers (omega (arith, few));
        client = omega (arith, own, most);
        client_incarnation = omega arith;
        server = omega (arith, own, most, below);
        server_incarnation = omega arith;
        clock_most = omega (arith, now, most);
        has_server = omega (arith, now, own, below);
        has_client = omega (arith, now, own);
      };
    }

-- ---- runs of a record

module _ (b : Behaviour) (began : List ValueTree) (kept : MemberRecord) where
  -- the last run of a member that waits for nothing has ended
  pub last_has_ended : IsRecord b began kept → open_ask kept ≡ None → (run : RunRecord) → last_of kept.runs ≡ Some run → HasEnded b (state_after began (take (length kept.runs - 1) kept.runs)) run
  last_has_ended r none run at =
      elim r.now [
        | inl idle ↦ idle.runs (length kept.runs - 1) run at
        | inr p ↦ absurd (none_is_some (sym none ∙ performing_has_one b began kept p))
      ]

  -- one that waits for an ask performs a run
  pub one_is_performing : IsRecord b began kept → (ask : AskRecord) → open_ask kept ≡ Some ask → IsPerforming b began kept
  one_is_performing r ask is =
      elim r.now [
        | inl idle ↦ absurd (none_is_some (sym (idle_has_none b began kept idle) ∙ is))
        | inr p ↦ p
      ]

  -- one that waits for none performs no run
  pub none_is_idle : IsRecord b began kept → open_ask kept ≡ None → IsIdle b began kept
  none_is_idle r none =
      elim r.now [
        | inl idle ↦ idle
        | inr p ↦ absurd (none_is_some (sym none ∙ performing_has_one b began kept p))
      ]

  pub last_is_performed : (p : IsPerforming b began kept) → last_of kept.runs ≡ Some p.run
  last_is_performed p = ap last_of p.runs_are ∙ last_more p.before p.run

  module _ (lawful : IsModule b) where
    -- the ask for which a member waits is one that its module may make
    pub ask_is_lawful : (p : IsPerforming b began kept) → IsLawfulAsk b.declared (length (replies_of p.waiting.before)) p.waiting.ask.callee p.waiting.ask.procedure p.waiting.ask.arguments
    ask_is_lawful p =
        let law = turn_is_lawful b (state_after began p.before) lawful (start_of p.run) p.run.started p.waiting.before _ p.waiting.made p.waiting.asking.turn in
        law.0

    -- a run that has ended has an outcome that may be written
    pub end_is_lawful : (state : List ValueTree) (run : RunRecord) (e : HasEnded b state run) → IsLawfulEnd b.declared run.procedure e.outcome
    end_is_lawful state run e =
        let law = turn_is_lawful b state lawful (start_of run) run.started run.asks (ends e.outcome e.after) e.made e.turn in
        law.0

    pub reply_is : (troupe modules : ℕ) (state : List ValueTree) (run : RunRecord) → IsRunOf troupe modules run → 1 ≤ modules → modules ≤ 32 → HasEnded b state run → IsReply (reply_of_run run)
    reply_is troupe modules state run of some few e =
        let clock : unwrap_or run.end [] ≡ clock_after run.entry run.asks = ap (λ o. unwrap_or o []) e.end_is in
        let outcome : unwrap_or run.outcome refusal ≡ e.outcome = ap (λ o. unwrap_or o refusal) e.outcome_is in
        let now = of.now in
        let long : length (unwrap_or run.end []) ≡ modules = ap length clock ∙ now in
        record {
          clock = (omega (arith, long, some), omega (arith, long, few));
          outcome = subst IsWritable (sym outcome) (writable_end b.declared run.procedure e.outcome (end_is_lawful state run e));
        }
