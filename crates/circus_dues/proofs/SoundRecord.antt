-- What a record says that goes into messages can be written.
use Rattle.std.specs.Prelude.{unwrap_or, slice_get, IfSome}
use Rattle.std.specs.Option.{option_map_or}
use Rattle.std.proofs.Common.{◌≡◌, ℕ, ◌≤◌, true, false, List, [], ◌∷◌, take, length, All, Option, None, Some, sym, ap, subst, ◌∙◌, arith}
use Rattle.std.proofs.lemmas.List.Elements.{All-get_or, All-head, All-tail, All-take, All-weaker}
use Rattle.std.proofs.lemmas.Option.{slice_get_within, get_or_from_slice_get}
use Rattle.circus_limits.specs.Limits.{most_modules}
use Rattle.circus_value.specs.ValueTree.{ValueTree}
use Rattle.circus_value.specs.ExternalSize.{size_of_values}
use Rattle.circus_value.specs.Fits.{all_fit}
use Rattle.circus_value.specs.declared.outcome.Outcome.{Outcome}
use Rattle.circus_model.specs.declared.signature.Signature.{Signature}
use Rattle.circus_model.specs.Lawful.{procedure_numbered, outcome_fits, values_of}
use Rattle.circus_collate.specs.declared.view.View.{View}
use Rattle.circus_record.specs.declared.record.AskRecord.{AskRecord}
use Rattle.circus_record.specs.declared.record.RunRecord.{RunRecord}
use Rattle.circus_record.specs.declared.record.MemberRecord.{MemberRecord}
use Rattle.circus_performing.specs.Performing.{latest_shown, clock_after, state_after, refusal}
use Rattle.circus_member_rules.specs.declared.place.Place.{Place}
use Rattle.circus_member_rules.specs.Step.{reply_of_run}
use Rattle.circus_member_rules.specs.Callable.{IsWritable, IsAsked, IsReply}
use Rattle.circus_member_rules.specs.Happening.{IsHome, IsThread}
use Rattle.circus_member_rules.proofs.Writing.{CanWrite, writable_ask, writable_end, callee_below}
use Rattle.circus_dues.specs.Seen.Sound.{IsClockOf, IsSayableAsk, HasSayableEnd, IsSayableRun, IsSayable}
use Rattle.circus_dues.proofs.SoundHeaders.{header_at, asked_by_thread}

-- ---- lists

-- what holds of all holds of the one at a place
pub holds_at : {X : Type 0} (P : X → Type 0) (xs : List X) (place : ℕ) (x : X) → All P xs → slice_get xs place ≡ Some x → P x
holds_at P xs place x all at =
    subst P (get_or_from_slice_get xs place x x at) (All-get_or P xs place x (slice_get_within xs place x at) all)

-- what holds of the first and of all that is shown holds of what is shown last
latest_holds : {A B : Type 0} (P : B → Type 0) (shown : A → Option B) (first : B) (xs : List A) → P first → All (λ x. IfSome (shown x) P) xs → P (latest_shown shown first xs)
latest_holds P shown first [] here all = here
latest_holds P shown first (x ∷ xs) here all =
    latest_holds P shown (unwrap_or (shown x) first) xs (by_shown (shown x) (All-head (λ x. IfSome (shown x) P) x xs all))
    (All-tail (λ x. IfSome (shown x) P) x xs all)
  where
    by_shown : (o : Option _) → IfSome o P → P (unwrap_or o first)
    by_shown None is = here
    by_shown (Some y) is = is

module _ (declared : Signature) (modules : ℕ) where
  -- ---- an outcome that fits its procedure, whatever its size

  writable_outcome : (procedure : ℕ) (outcome : Outcome) → option_map_or (λ p. outcome_fits p outcome) (procedure_numbered procedure declared.procedures) false ≡ true → IsWritable outcome
  writable_outcome procedure outcome fits =
      let wide : Signature = record declared { limit = size_of_values (values_of outcome) } in
      writable_end wide procedure outcome (record { fits = fits; within = omega arith })

  -- ---- a run

  -- one that has ended has a reply that can be sent
  pub end_is_reply : (run : RunRecord) (step : ℕ) → 1 ≤ modules → modules ≤ most_modules → IsSayableRun declared modules run → run.ended ≡ Some step → IsReply (reply_of_run run)
  end_is_reply run step some few is ended =
      let e : HasSayableEnd declared modules run = subst (λ o. IfSome o (λ step. HasSayableEnd declared modules run)) ended is.end in
      let clock : unwrap_or run.end [] ≡ e.clock = ap (λ o. unwrap_or o []) e.is_end in
      let outcome : unwrap_or run.outcome refusal ≡ e.outcome = ap (λ o. unwrap_or o refusal) e.is_outcome in
      let long : length (unwrap_or run.end []) ≡ modules = ap length clock ∙ e.counts.0 in
      record {
        clock = (omega (arith, long, some), omega (arith, long, few));
        outcome = subst IsWritable (sym outcome) (writable_outcome run.procedure e.outcome e.fits);
      }

  -- the clock behind so many of its asks has a count for each module
  pub clock_behind : (run : RunRecord) (number : ℕ) → length run.entry ≡ modules → IsSayableRun declared modules run → length (clock_after run.entry (take number run.asks)) ≡ modules
  clock_behind run number entry is =
      latest_holds (λ clock. length clock ≡ modules) (λ (a : AskRecord). a.after) run.entry (take number run.asks) entry
      (All-take (λ (a : AskRecord). IfSome a.after (λ clock. length clock ≡ modules)) number run.asks
      (All-weaker (IsSayableAsk declared modules) (λ (a : AskRecord). IfSome a.after (λ clock. length clock ≡ modules)) counts run.asks is.asks))
    where
      counts : (ask : AskRecord) → IsSayableAsk declared modules ask → IfSome ask.after (λ clock. length clock ≡ modules)
      counts ask h = by_after ask.after h.after
        where
          by_after : (o : Option (List ℕ)) → IfSome o (IsClockOf modules) → IfSome o (λ clock. length clock ≡ modules)
          by_after None is = tt
          by_after (Some clock) is = is.0

  -- ---- an ask of a run

  -- its calls may be sent, by a member of this troupe
  pub record CanAsk (troupe : ℕ) (run : RunRecord) (number : ℕ) (ask : AskRecord) : Type 0 where
    pub asked : (index : ℕ) → IsAsked (header_at troupe index run number (clock_after run.entry (take number run.asks)) ask)
    pub arguments : CanWrite ask.arguments

  pub can_ask : (place : Place) (views : List View) → length views ≡ modules → IsHome declared place views
      → (run : RunRecord) → IsThread modules run.root run.path run.entry place.troupe → IsSayableRun declared modules run
      → (number : ℕ) (ask : AskRecord) → slice_get run.asks number ≡ Some ask → CanAsk place.troupe run number ask
  can_ask place views many home run thread is number ask at =
      let said = holds_at (IsSayableAsk declared modules) run.asks number ask is.asks at in
      let low = slice_get_within run.asks number ask at in
      let most = is.few in
      let few = home.few in
      let own = home.own in
      let below = callee_below declared place views ask.callee ask.procedure ask.arguments home said.takes in
      record {
        asked =
            λ index. asked_by_thread place.troupe modules index run number (clock_after run.entry (take number run.asks)) ask (omega (arith, few, many))
            (omega (arith, own, many)) thread (clock_behind run number thread.counts is) (omega (arith, low, most)) below;
        arguments = writable_ask declared.imports ask.callee ask.procedure ask.arguments said.takes;
      }

  -- ---- a record

  module _ (kept : MemberRecord) (sayable : IsSayable declared modules kept) where
    pub run_is_sayable : (number : ℕ) (run : RunRecord) → slice_get kept.runs number ≡ Some run → IsSayableRun declared modules run
    run_is_sayable number run at = holds_at (IsSayableRun declared modules) kept.runs number run sayable at

    -- the state behind so many runs is one of the module
    pub state_behind : (began : List ValueTree) (ended : ℕ) → all_fit declared.variables began ≡ true → all_fit declared.variables (state_after began (take ended kept.runs)) ≡ true
    state_behind began ended first =
        latest_holds (λ state. all_fit declared.variables state ≡ true) (λ (r : RunRecord). r.state) began (take ended kept.runs) first
        (All-take (λ (r : RunRecord). IfSome r.state (λ state. all_fit declared.variables state ≡ true)) ended kept.runs
        (All-weaker (IsSayableRun declared modules) (λ (r : RunRecord). IfSome r.state (λ state. all_fit declared.variables state ≡ true)) (λ r h. h.state) kept.runs sayable))
