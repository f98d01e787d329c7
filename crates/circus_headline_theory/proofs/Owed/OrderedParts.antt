-- What of a step that is made in its order are calls of asks, and what other calls.
use Rattle.std.proofs.Common.{◌≡◌, ℕ, suc, ◌+◌, ◌≤◌, Bool, true, false, ◌&&◌, not, if◌then◌else◌, List, [], ◌∷◌, ◌++◌, filter, All, Option, Some, None, refl, sym, ap, ◌∙◌, arith, append_assoc, append-nil}
use Rattle.std.specs.Prelude.{slice_get, nat_eq, nat_lt}
use Rattle.std.specs.List.{flat_map}
use Rattle.std.specs.Option.{option_map_or}
use Rattle.std.proofs.lemmas.Bool.{le-ltb, ltb-false}
use Rattle.std.proofs.lemmas.List.Concat.{flat_map-append}
use Rattle.std.proofs.lemmas.List.Elements.{All-nil, All-cons, All-append, filter-append}
use Rattle.circus_value.specs.ValueTree.{ValueTree}
use Rattle.circus_value.specs.declared.caller.Caller.{Caller}
use Rattle.circus_header.specs.declared.call.Request.TheVariants.{Join, Active}
use Rattle.circus_collate.specs.declared.view.View.{View}
use Rattle.circus_transfer.specs.declared.joiner.Joiner.{Joiner}
use Rattle.circus_record.specs.declared.record.MemberRecord.{MemberRecord}
use Rattle.circus_record.specs.declared.record.RunRecord.{RunRecord}
use Rattle.circus_fanout.specs.Knowing.{Knowing}
use Rattle.circus_fanout.specs.Asking.{Asking, calls_for_a_view}
use Rattle.circus_gather.specs.Gathering.{is_of_index}
use Rattle.circus_gather.specs.declared.held.HeldCall.{HeldCall}
use Rattle.circus_performing.specs.Performing.{is_fetching}
use Rattle.circus_member_rules.specs.declared.place.Place.{Place}
use Rattle.circus_member_rules.specs.declared.occurrence.AskName.{AskName}
use Rattle.circus_member_rules.specs.declared.occurrence.Effect.{Effect}
use Rattle.circus_member_rules.specs.declared.occurrence.Occurrence.TheVariants as comes
use Rattle.circus_member_rules.specs.OpenAsks.{asking_of}
use Rattle.circus_member_rules.specs.Rules.{answer, is_to, givers, state_request, state_requests, lookup_call, call_of_ask, calls_of_ask, calls_for_a_new_view}
use Rattle.circus_member_theory.specs.Past.{Past, booted, followed, now, is_newer, views_known, nodes_declared_down, phase}
use Rattle.circus_member_theory.specs.Made.{asks, requests}
use Rattle.circus_member_theory.specs.Asks.{is_of_ask, is_new, asks_from, asks_of, knows, first_calls, calls_behind, new_asks, open_asks}
use Rattle.circus_member_theory.specs.Order.{if_now, is_answered_by_end, returns_now, returns_at_once, made_by_run, made_by_runs, snapshots_now, made_in_step}
use Rattle.circus_member_theory.specs.Requests.{is_request, to_ring, answers_lookup, for_what_came, is_unanswered, due, lookups}
use Rattle.circus_member_theory.specs.Returns.{return_owed}
use Rattle.circus_member_theory.specs.Snapshots.{snapshot_owed}
use Rattle.circus_headline_theory.specs.Owed.OrderedMakes.{StartInOrder}
use Rattle.circus_headline_theory.proofs.Owed.Arriving.{nothing}
use Rattle.circus_headline_theory.proofs.Owed.Ordering.{is_return, all_calls, all_requests, passing, failing, ask_is_no_request, request_is_no_ask, return_is_no_ask, return_is_no_request, ring_requests, gone_requests, again_calls, calls_new}

-- ---- effects of one kind

abbrev pub AreAll : (Effect → Bool) → List Effect → Type 0
AreAll test effects = All (λ (e : Effect). test e ≡ true) effects

none_are : (test : Effect → Bool) → AreAll test []
none_are test = All-nil (λ (e : Effect). test e ≡ true)

if_are : (test : Effect → Bool) (b : Bool) (effects : List Effect) → AreAll test effects → AreAll test (if b then effects else [])
if_are test true effects all = all
if_are test false effects all = none_are test

flat_are : {X : Type 0} (test : Effect → Bool) (f : X → List Effect) → ((x : X) → AreAll test (f x)) → (xs : List X) → AreAll test (flat_map f xs)
flat_are test f each [] = none_are test
flat_are test f each (x ∷ xs) = All-append (λ (e : Effect). test e ≡ true) (f x) (flat_map f xs) (each x) (flat_are test f each xs)

-- a return is made now, or none
now_returned : (q : Past) (caller : Caller) (owed : Option (ℕ × List ℕ)) → AreAll is_return (if_now q caller owed)
now_returned q caller None = none_are is_return
now_returned q caller (Some given) =
    if_are is_return (nat_eq given.0 (now q)) (answer given.1 caller ∷ [])
    (All-cons (λ (e : Effect). is_return e ≡ true) (answer given.1 caller) [] refl (none_are is_return))

module _ (place : Place) (boot : List View) where
  first_asked : (k : Knowing) (e : AskName × Asking) → AreAll is_of_ask (first_calls place boot k e)
  first_asked k e = by_view (slice_get k.views e.1.header.server)
    where
      by_view : (o : Option View) → AreAll is_of_ask (option_map_or (λ (view : View). calls_of_ask k e.0 e.1 (calls_for_a_view view k.down [])) o [])
      by_view None = none_are is_of_ask
      by_view (Some view) = all_calls (call_of_ask k e.0 e.1) (λ s. refl) (calls_for_a_view view k.down [])

  pub all_first : (k : Knowing) (es : List (AskName × Asking)) → AreAll is_of_ask (flat_map (first_calls place boot k) es)
  all_first k es = flat_are is_of_ask (first_calls place boot k) (first_asked k) es

  pub all_behind : (q : Past) (asked : List (AskName × Asking)) → AreAll is_of_ask (calls_behind place boot q asked)
  all_behind booted asked = none_are is_of_ask
  all_behind (followed p step (comes.Asked header body sender)) asked = none_are is_of_ask
  all_behind (followed p step (comes.Fetched incarnation sender)) asked = none_are is_of_ask
  all_behind (followed p step (comes.Replied name from reply)) asked = none_are is_of_ask
  all_behind (followed p step (comes.IsStale name server from incarnation)) asked =
      again_calls (knows place boot (followed p step (comes.IsStale name server from incarnation))) name from incarnation (asking_of asked name)
  all_behind (followed p step (comes.IsBefore name from)) asked = none_are is_of_ask
  all_behind (followed p step (comes.Told request table)) asked =
      let k = knows place boot (followed p step (comes.Told request table)) in
      if_are is_of_ask (is_newer (views_known boot p) table.view) (calls_for_a_new_view k table.view asked) (calls_new k table.view (filter (is_to table.view.troupe) asked))
  all_behind (followed p step (comes.Restored state count)) asked = none_are is_of_ask
  all_behind (followed p step (comes.Declared node)) asked = none_are is_of_ask
  all_behind (followed p step comes.Joins) asked = none_are is_of_ask

  module _ (begins : Joiner) where
    pub all_came : (q : Past) → AreAll is_request (for_what_came place boot begins q)
    all_came booted = none_are is_request
    all_came (followed p step (comes.Asked header body sender)) = none_are is_request
    all_came (followed p step (comes.Fetched incarnation sender)) = none_are is_request
    all_came (followed p step (comes.Replied name from reply)) = none_are is_request
    all_came (followed p step (comes.IsStale name server from incarnation)) = none_are is_request
    all_came (followed p step (comes.IsBefore name from)) = none_are is_request
    all_came (followed p step (comes.Told request table)) =
        if_are is_request (not (is_fetching (phase begins p)) && is_fetching (phase begins (followed p step (comes.Told request table)))) (state_requests place (nodes_declared_down p) table.view)
        (all_requests (state_request place.troupe table.view.incarnation) (λ n. refl) (givers place.node (nodes_declared_down p) table.view))
    all_came (followed p step (comes.Restored state count)) =
        if_are is_request (is_fetching (phase begins p)) (to_ring (nodes_declared_down p) (Active place.troupe place.node count)) (ring_requests (knows place boot p) (Active place.troupe place.node count))
    all_came (followed p step (comes.Declared node)) = gone_requests place (knows place boot (followed p step (comes.Declared node))) node
    all_came (followed p step comes.Joins) = ring_requests (knows place boot p) (Join place.troupe place.node)

    module _ (kept : MemberRecord) where
      pub all_looked_up : (q : Past) → AreAll is_request (lookups place boot begins kept q)
      all_looked_up booted = none_are is_request
      all_looked_up (followed p step o) =
          all_requests lookup_call (λ troupe. refl) (due place boot begins kept (λ t. is_unanswered place boot begins kept p t && not (answers_lookup o t)) (followed p step o))

      module _ (first : List ValueTree) (q : Past) where
        all_returned : (test : ℕ × HeldCall → Bool) → AreAll is_return (returns_now place boot begins first kept q test)
        all_returned test =
            flat_are is_return (λ (e : ℕ × HeldCall). if_now q e.1.sender (return_owed place.troupe begins kept e.0 e.1 q)) (λ e. now_returned q e.1.sender (return_owed place.troupe begins kept e.0 e.1 q)) (filter test (asks q))

        all_given : AreAll is_return (snapshots_now place boot begins first kept q)
        all_given =
            flat_are is_return (λ (e : ℕ × Caller). if_now q e.1 (snapshot_owed begins first kept e.0 q)) (λ e. now_returned q e.1 (snapshot_owed begins first kept e.0 q)) (requests q)

-- ---- what is made of the runs that pass, from the first index on

module _ {X : Type 0} where
  abbrev pub of_runs : (RunRecord → Bool) → (ℕ → RunRecord → List X) → ℕ → List RunRecord → List X
  of_runs pass f index [] = []
  of_runs pass f index (run ∷ runs) = (if pass run then f index run else []) ++ of_runs pass f (index + 1) runs

  pub none_of_runs : (pass : RunRecord → Bool) (f : ℕ → RunRecord → List X) → ((index : ℕ) (run : RunRecord) → f index run ≡ []) → (index : ℕ) (runs : List RunRecord) → of_runs pass f index runs ≡ []
  none_of_runs pass f none index [] = refl
  none_of_runs pass f none index (run ∷ runs) =
      (λ j. (if pass run then none index run j else []) ++ none_of_runs pass f none (index + 1) runs j) ∙ ap (λ l. l ++ []) (nothing (pass run))

-- ---- what is taken of effects, part by part

module _ {X : Type 0} (taken : List Effect → List X) (of_none : taken [] ≡ []) (apart : (xs ys : List Effect) → taken (xs ++ ys) ≡ taken xs ++ taken ys) where
  pub parted : (behind came at_once went_on states started looked_up : List Effect) → taken ((((behind ++ came) ++ at_once) ++ ((went_on ++ states) ++ started)) ++ looked_up)
      ≡ (((taken behind ++ taken came) ++ taken at_once) ++ ((taken went_on ++ taken states) ++ taken started)) ++ taken looked_up
  parted behind came at_once went_on states started looked_up =
      let handled : taken ((behind ++ came) ++ at_once) ≡ (taken behind ++ taken came) ++ taken at_once = apart (behind ++ came) at_once ∙ ap (λ l. l ++ taken at_once) (apart behind came) in
      let executed : taken ((went_on ++ states) ++ started) ≡ (taken went_on ++ taken states) ++ taken started = apart (went_on ++ states) started ∙ ap (λ l. l ++ taken started) (apart went_on states) in
      apart (((behind ++ came) ++ at_once) ++ ((went_on ++ states) ++ started)) looked_up
      ∙ ap (λ l. l ++ taken looked_up) (apart ((behind ++ came) ++ at_once) ((went_on ++ states) ++ started) ∙ (λ j. handled j ++ executed j))

  module _ (place : Place) (boot : List View) (begins : Joiner) (first : List ValueTree) (kept : MemberRecord) (q : Past) (pass : RunRecord → Bool) (f : ℕ → RunRecord → List X)
      (each : (index : ℕ) (run : RunRecord) → taken (made_by_run place boot begins first kept q index run) ≡ f index run) where
    pub runs_parted : (index : ℕ) (runs : List RunRecord) → taken (made_by_runs place boot begins first kept pass q index runs) ≡ of_runs pass f index runs
    runs_parted index [] = of_none
    runs_parted index (run ∷ runs) =
        let rest = runs_parted (index + 1) runs in
        apart (if pass run then made_by_run place boot begins first kept q index run else []) (made_by_runs place boot begins first kept pass q (index + 1) runs)
        ∙ (λ j. by_test (pass run) j ++ rest j)
      where
        by_test : (t : Bool) → taken (if t then made_by_run place boot begins first kept q index run else []) ≡ (if t then f index run else [])
        by_test true = each index run
        by_test false = of_none

-- ---- a step

module _ (place : Place) (boot : List View) (begins : Joiner) (first : List ValueTree) (kept : MemberRecord) (p q : Past) where
  -- the run was started before the step, or in it
  abbrev pub is_early : RunRecord → Bool
  is_early run = nat_lt run.started (now q)

  abbrev pub is_late : RunRecord → Bool
  is_late run = not (nat_lt run.started (now q))

  -- its parts
  abbrev pub behind : List Effect
  behind = calls_behind place boot q (open_asks place boot kept p)

  abbrev pub came : List Effect
  came = for_what_came place boot begins q

  abbrev pub at_once : List Effect
  at_once = returns_at_once place boot begins first kept q

  abbrev pub went_on : List Effect
  went_on = made_by_runs place boot begins first kept is_early q kept.from kept.runs

  abbrev pub states : List Effect
  states = snapshots_now place boot begins first kept q

  abbrev pub started : List Effect
  started = made_by_runs place boot begins first kept is_late q kept.from kept.runs

  abbrev pub looked_up : List Effect
  looked_up = lookups place boot begins kept q

  -- what a run makes
  abbrev pub asked_by : ℕ → RunRecord → List Effect
  asked_by index run = flat_map (first_calls place boot (knows place boot q)) (asks_from place (is_new q) index run.root run.path 0 run.entry run.asks)

  abbrev pub ended_by : ℕ → RunRecord → List Effect
  ended_by index run = returns_now place boot begins first kept q (λ e. is_answered_by_end place boot begins first kept q e && is_of_index place.troupe index e.1)

  pub all_asked : (index : ℕ) (run : RunRecord) → AreAll is_of_ask (asked_by index run)
  all_asked index run = all_first place boot (knows place boot q) (asks_from place (is_new q) index run.root run.path 0 run.entry run.asks)

  all_ended : (index : ℕ) (run : RunRecord) → AreAll is_return (ended_by index run)
  all_ended index run = all_returned place boot begins kept first q (λ e. is_answered_by_end place boot begins first kept q e && is_of_index place.troupe index e.1)

  -- ---- its calls that are no asks

  abbrev requested : List Effect → List Effect
  requested effects = filter is_request effects

  none_requested : (index : ℕ) (run : RunRecord) → requested (made_by_run place boot begins first kept q index run) ≡ []
  none_requested index run =
      filter-append is_request (asked_by index run) (ended_by index run)
      ∙ (λ j. failing is_request is_of_ask ask_is_no_request (asked_by index run) (all_asked index run) j ++ failing is_request is_return return_is_no_request (ended_by index run) (all_ended index run) j)

  no_run_requests : (pass : RunRecord → Bool) → requested (made_by_runs place boot begins first kept pass q kept.from kept.runs) ≡ []
  no_run_requests pass =
      runs_parted (filter is_request) refl (filter-append is_request) place boot begins first kept q pass (λ index run. []) none_requested kept.from kept.runs
      ∙ none_of_runs pass (λ index run. []) (λ index run. refl) kept.from kept.runs

  pub requests_in_step : filter is_request (made_in_step place boot begins first kept p q) ≡ came ++ looked_up
  requests_in_step =
      let no_ask = failing is_request is_of_ask ask_is_no_request behind (all_behind place boot q (open_asks place boot kept p)) in
      let no_return = failing is_request is_return return_is_no_request at_once (all_returned place boot begins kept first q (λ e. not (is_answered_by_end place boot begins first kept q e))) in
      let no_state = failing is_request is_return return_is_no_request states (all_given place boot begins kept first q) in
      let of_what_came = passing is_request came (all_came place boot begins q) in
      let of_lookups = passing is_request looked_up (all_looked_up place boot begins kept q) in
      parted (filter is_request) refl (filter-append is_request) behind came at_once went_on states started looked_up
      ∙ (λ j. (((no_ask j ++ of_what_came j) ++ no_return j) ++ ((no_run_requests is_early j ++ no_state j) ++ no_run_requests is_late j)) ++ of_lookups j)
      ∙ ap (λ l. l ++ looked_up) (append-nil (came ++ []) ∙ append-nil came)

  -- ---- its calls of asks

  abbrev asked : List Effect → List Effect
  asked effects = filter is_of_ask effects

  asked_so : (index : ℕ) (run : RunRecord) → asked (made_by_run place boot begins first kept q index run) ≡ asked_by index run
  asked_so index run =
      filter-append is_of_ask (asked_by index run) (ended_by index run)
      ∙ (λ j. passing is_of_ask (asked_by index run) (all_asked index run) j ++ failing is_of_ask is_return return_is_no_ask (ended_by index run) (all_ended index run) j)
      ∙ append-nil (asked_by index run)

  runs_ask : (pass : RunRecord → Bool) → asked (made_by_runs place boot begins first kept pass q kept.from kept.runs) ≡ of_runs pass asked_by kept.from kept.runs
  runs_ask pass = runs_parted (filter is_of_ask) refl (filter-append is_of_ask) place boot begins first kept q pass asked_by asked_so kept.from kept.runs

  -- no run that stands behind one that was started in the step was started before
  none_early : (index : ℕ) (runs : List RunRecord) → ((n : ℕ) (run : RunRecord) → slice_get runs n ≡ Some run → now q ≤ run.started) → of_runs is_early asked_by index runs ≡ []
  none_early index [] late = refl
  none_early index (run ∷ runs) late =
      let rest = none_early (index + 1) runs (λ n x there. late (suc n) x there) in
      let not_early : nat_lt run.started (now q) ≡ false = le-ltb run.started (now q) (late 0 run refl) in
      (λ j. (if not_early j then asked_by index run else []) ++ rest j)

  -- so the asks of those that were started before and of the others are the asks of all, in their order
  all_of_runs : (index : ℕ) (runs : List RunRecord) → StartInOrder runs
      → of_runs is_early asked_by index runs ++ of_runs is_late asked_by index runs ≡ flat_map (first_calls place boot (knows place boot q)) (asks_of place (is_new q) index runs)
  all_of_runs index [] order = refl
  all_of_runs index (run ∷ runs) order =
      by_test (all_of_runs (index + 1) runs (λ m n one other less here there. order (suc m) (suc n) one other (omega (arith, less)) here there)) (nat_lt run.started (now q)) refl
      ∙ sym (flat_map-append (first_calls place boot (knows place boot q)) (asks_from place (is_new q) index run.root run.path 0 run.entry run.asks) (asks_of place (is_new q) (index + 1) runs))
    where
      early : List Effect
      early = of_runs is_early asked_by (index + 1) runs

      late : List Effect
      late = of_runs is_late asked_by (index + 1) runs

      all : List Effect
      all = flat_map (first_calls place boot (knows place boot q)) (asks_of place (is_new q) (index + 1) runs)

      behind_late : nat_lt run.started (now q) ≡ false → early ≡ []
      behind_late is =
          let low = ltb-false run.started (now q) is in
          none_early (index + 1) runs (λ n other there. (let up = order 0 (suc n) run other (omega arith) refl there in omega (arith, low, up)))

      by_test : early ++ late ≡ all → (t : Bool) → nat_lt run.started (now q) ≡ t
          → ((if t then asked_by index run else []) ++ early) ++ ((if not t then asked_by index run else []) ++ late) ≡ asked_by index run ++ all
      by_test rest true is = append_assoc (asked_by index run) early late ∙ ap (λ l. asked_by index run ++ l) rest
      by_test rest false is =
          let none = behind_late is in
          ap (λ l. l ++ (asked_by index run ++ late)) none ∙ ap (λ l. asked_by index run ++ l) (sym (ap (λ l. l ++ late) none) ∙ rest)

  pub calls_in_step : StartInOrder kept.runs
      → filter is_of_ask (made_in_step place boot begins first kept p q) ≡ behind ++ flat_map (first_calls place boot (knows place boot q)) (new_asks place boot kept q)
  calls_in_step order =
      let of_asks = passing is_of_ask behind (all_behind place boot q (open_asks place boot kept p)) in
      let no_request = failing is_of_ask is_request request_is_no_ask came (all_came place boot begins q) in
      let no_return = failing is_of_ask is_return return_is_no_ask at_once (all_returned place boot begins kept first q (λ e. not (is_answered_by_end place boot begins first kept q e))) in
      let no_state = failing is_of_ask is_return return_is_no_ask states (all_given place boot begins kept first q) in
      let no_lookup = failing is_of_ask is_request request_is_no_ask looked_up (all_looked_up place boot begins kept q) in
      let early = of_runs is_early asked_by kept.from kept.runs in
      let late = of_runs is_late asked_by kept.from kept.runs in
      parted (filter is_of_ask) refl (filter-append is_of_ask) behind came at_once went_on states started looked_up
      ∙ (λ j. (((of_asks j ++ no_request j) ++ no_return j) ++ ((runs_ask is_early j ++ no_state j) ++ runs_ask is_late j)) ++ no_lookup j)
      ∙ append-nil (((behind ++ []) ++ []) ++ ((early ++ []) ++ late))
      ∙ (λ j. (append-nil (behind ++ []) ∙ append-nil behind) j ++ (append-nil early j ++ late))
      ∙ ap (λ l. behind ++ l) (all_of_runs kept.from kept.runs order)
