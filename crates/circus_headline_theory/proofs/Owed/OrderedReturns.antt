-- What a step that is made in its order returns to one caller is what that is owed in it.
use Rattle.std.proofs.Common.{◌≡◌, ℕ, zero, suc, ◌+◌, ◌-◌, ◌<◌, Bool, true, false, ◌&&◌, not, cond, if◌then◌else◌, List, [], ◌∷◌, ◌++◌, filter, All, Option, Some, None, refl, sym, ap, ◌∙◌, arith, append-nil}
use Rattle.std.specs.Prelude.{slice_get, nat_eq, nat_lt}
use Rattle.std.specs.List.{flat_map}
use Rattle.std.specs.Option.{option_map_or}
use Rattle.std.proofs.lemmas.Bool.{true≢false, false≢true, ltb-false, eq-eqb, ne_eqb, and_parts}
use Rattle.std.proofs.lemmas.List.Elements.{All-head, All-tail, All-weaker}
use Rattle.std.proofs.lemmas.Option.{same_Some}
use Rattle.circus_value.specs.ValueTree.{ValueTree}
use Rattle.circus_value.specs.declared.caller.Caller.{Caller}
use Rattle.circus_collate.specs.declared.view.View.{View}
use Rattle.circus_transfer.specs.declared.joiner.Joiner.{Joiner}
use Rattle.circus_record.specs.declared.record.MemberRecord.{MemberRecord}
use Rattle.circus_record.specs.declared.record.RunRecord.{RunRecord}
use Rattle.circus_gather.specs.Gathering.{index_of, is_of_index}
use Rattle.circus_gather.specs.declared.held.HeldCall.{HeldCall}
use Rattle.circus_member_rules.specs.declared.place.Place.{Place}
use Rattle.circus_member_rules.specs.declared.occurrence.Effect.{Effect}
use Rattle.circus_member_rules.specs.declared.occurrence.Effect.TheVariants as made
use Rattle.circus_member_rules.specs.Rules.{answer}
use Rattle.circus_member_rules.proofs.Concerned.{all_of}
use Rattle.circus_member_theory.specs.Past.{Past, now}
use Rattle.circus_member_theory.specs.Asks.{is_of_ask, open_asks}
use Rattle.circus_member_theory.specs.Made.{is_caller, asks, requests}
use Rattle.circus_member_theory.specs.Order.{if_now, ends_now, is_answered_by_end, returns_now, made_by_runs, made_in_step}
use Rattle.circus_member_theory.specs.Requests.{is_request}
use Rattle.circus_member_theory.specs.Returns.{is_stale, is_before, return_owed}
use Rattle.circus_member_theory.specs.Snapshots.{snapshot_owed}
use Rattle.circus_headline_theory.proofs.Owed.Arriving.{nothing}
use Rattle.circus_headline_theory.proofs.Owed.AtOnce.{all_stay}
use Rattle.circus_headline_theory.proofs.Owed.Callers.{returned, returned-append, filter_twice}
use Rattle.circus_headline_theory.proofs.Owed.Ordering.{is_return}
use Rattle.circus_headline_theory.proofs.Owed.OrderedParts.{AreAll, all_behind, all_came, all_looked_up, of_runs, none_of_runs, parted, runs_parted, is_early, is_late, behind, came, at_once, went_on, states, started, looked_up, asked_by, ended_by, all_asked}
use Rattle.circus_headline_theory.proofs.Owed.Passing.{same_flat, flat_passing}

-- ---- calls return nothing

ask_is_no_return : (e : Effect) → is_of_ask e ≡ true → is_return e ≡ false
ask_is_no_return (made.Call to message purpose) is = refl
ask_is_no_return (made.Answer caller message) is = cc

request_is_no_return : (e : Effect) → is_request e ≡ true → is_return e ≡ false
request_is_no_return (made.Call to message purpose) is = refl
request_is_no_return (made.Answer caller message) is = cc

-- what is owed, where it is owed in the last step of a past
abbrev pub given_now : Past → Option (ℕ × List ℕ) → List (List ℕ)
given_now q owed = option_map_or (λ (given : ℕ × List ℕ). if nat_eq given.0 (now q) then given.1 ∷ [] else []) owed []

module _ (c : Caller) where
  none_returned : (effects : List Effect) → All (λ (e : Effect). is_return e ≡ false) effects → returned c effects ≡ []
  none_returned [] all = refl
  none_returned (made.Call to message purpose ∷ effects) all = none_returned effects (All-tail (λ (e : Effect). is_return e ≡ false) (made.Call to message purpose) effects all)
  none_returned (made.Answer caller message ∷ effects) all = absurd (true≢false (All-head (λ (e : Effect). is_return e ≡ false) (made.Answer caller message) effects all))

  pub no_ask_returns : (effects : List Effect) → AreAll is_of_ask effects → returned c effects ≡ []
  no_ask_returns effects all = none_returned effects (All-weaker (λ (e : Effect). is_of_ask e ≡ true) (λ (e : Effect). is_return e ≡ false) ask_is_no_return effects all)

  no_request_returns : (effects : List Effect) → AreAll is_request effects → returned c effects ≡ []
  no_request_returns effects all = none_returned effects (All-weaker (λ (e : Effect). is_request e ≡ true) (λ (e : Effect). is_return e ≡ false) request_is_no_return effects all)

  returned_flat : {X : Type 0} (f : X → List Effect) (xs : List X) → returned c (flat_map f xs) ≡ flat_map (λ x. returned c (f x)) xs
  returned_flat f [] = refl
  returned_flat f (x ∷ xs) = returned-append c (f x) (flat_map f xs) ∙ ap (λ l. returned c (f x) ++ l) (returned_flat f xs)

  -- ---- the returns that are owed now to those who made some calls

  module _ {X : Type 0} (q : Past) (sender : X → Caller) (owed : X → Option (ℕ × List ℕ)) where
    abbrev mine : X → Bool
    mine x = is_caller c (sender x)

    abbrev to_sender : X → List Effect
    to_sender x = if_now q (sender x) (owed x)

    abbrev owed_now : X → List (List ℕ)
    owed_now x = given_now q (owed x)

    to_one : (x : X) → returned c (to_sender x) ≡ (if mine x then owed_now x else [])
    to_one x = by_owed (owed x)
      where
        by_step : (message : List ℕ) (t : Bool) → returned c (if t then answer message (sender x) ∷ [] else []) ≡ (if mine x then (if t then message ∷ [] else []) else [])
        by_step message true = refl
        by_step message false = sym (nothing (mine x))

        by_owed : (o : Option (ℕ × List ℕ)) → returned c (if_now q (sender x) o) ≡ (if mine x then given_now q o else [])
        by_owed None = sym (nothing (mine x))
        by_owed (Some given) = by_step given.1 (nat_eq given.0 (now q))

    to_mine : (test : X → Bool) (xs : List X) → returned c (flat_map to_sender (filter test xs)) ≡ flat_map owed_now (filter test (filter mine xs))
    to_mine test xs =
        let chosen = filter test xs in
        returned_flat to_sender chosen
        ∙ same_flat (λ x. returned c (to_sender x)) (λ x. if mine x then owed_now x else []) chosen (all_of (λ x. returned c (to_sender x) ≡ (if mine x then owed_now x else [])) chosen to_one)
        ∙ sym (flat_passing mine owed_now chosen)
        ∙ ap (flat_map owed_now) (filter_twice mine test xs)

    -- one of which is by this caller
    one_given : (x : X) (xs : List X) → filter mine xs ≡ x ∷ [] → (test : X → Bool) → returned c (flat_map to_sender (filter test xs)) ≡ (if test x then owed_now x else [])
    one_given x xs alone test = to_mine test xs ∙ ap (λ l. flat_map owed_now (filter test l)) alone ∙ by_test (test x)
      where
        by_test : (t : Bool) → flat_map owed_now (cond t (x ∷ []) []) ≡ (if t then owed_now x else [])
        by_test true = append-nil (owed_now x)
        by_test false = refl

    -- or none
    none_given : (xs : List X) → filter mine xs ≡ [] → (test : X → Bool) → returned c (flat_map to_sender (filter test xs)) ≡ []
    none_given xs none test = to_mine test xs ∙ ap (λ l. flat_map owed_now (filter test l)) none

-- ---- the run of an index is among those that were started before or among the others

module _ {X : Type 0} (given : List X) where
  -- what only the run of an index gives
  abbrev by_index : ℕ → ℕ → RunRecord → List X
  by_index own index run = if nat_eq own index then given else []

  past_it : (pass : RunRecord → Bool) (own index : ℕ) (runs : List RunRecord) → own < index → of_runs pass (by_index own) index runs ≡ []
  past_it pass own index [] below = refl
  past_it pass own index (run ∷ runs) below =
      let other : nat_eq own index ≡ false = ne_eqb own index (λ eq. absurd (omega (arith, below, eq))) in
      let rest = past_it pass own (index + 1) runs (omega (arith, below)) in
      (λ j. (if pass run then (if other j then given else []) else []) ++ rest j) ∙ ap (λ l. l ++ []) (nothing (pass run))

  at_it : (pass : RunRecord → Bool) (own index n : ℕ) (runs : List RunRecord) (run : RunRecord) → own ≡ index + n → slice_get runs n ≡ Some run → of_runs pass (by_index own) index runs ≡ (if pass run then given else [])
  at_it pass own index n [] run at there = absurd (let clash : ◌≡◌ {A = Option RunRecord} None (Some run) = there in cc)
  at_it pass own index zero (x ∷ runs) run at there =
      let same : nat_eq own index ≡ true = eq-eqb own index (omega (arith, at)) in
      let rest = past_it pass own (index + 1) runs (omega (arith, at)) in
      let it : x ≡ run = same_Some x run there in
      (λ j. (if pass (it j) then (if same j then given else []) else []) ++ rest j) ∙ append-nil (if pass run then given else [])
  at_it pass own index (suc n) (x ∷ runs) run at there =
      let other : nat_eq own index ≡ false = ne_eqb own index (λ eq. absurd (omega (arith, at, eq))) in
      let rest = at_it pass own (index + 1) n runs run (omega (arith, at)) there in
      (λ j. (if pass x then (if other j then given else []) else []) ++ rest j) ∙ ap (λ l. l ++ (if pass run then given else [])) (nothing (pass x))

  -- so it gives it once
  given_once : (pass : RunRecord → Bool) (own index n : ℕ) (runs : List RunRecord) (run : RunRecord) → own ≡ index + n → slice_get runs n ≡ Some run
      → of_runs pass (by_index own) index runs ++ of_runs (λ x. not (pass x)) (by_index own) index runs ≡ given
  given_once pass own index n runs run at there =
      (λ j. at_it pass own index n runs run at there j ++ at_it (λ x. not (pass x)) own index n runs run at there j) ∙ by_test (pass run)
    where
      by_test : (t : Bool) → (if t then given else []) ++ (if not t then given else []) ≡ given
      by_test true = append-nil given
      by_test false = refl

-- ---- a step

module _ (c : Caller) (place : Place) (boot : List View) (begins : Joiner) (first : List ValueTree) (kept : MemberRecord) (p q : Past) where
  -- the calls of this caller, and its state requests
  abbrev pub asks_of_it : List (ℕ × HeldCall)
  asks_of_it = filter (λ (e : ℕ × HeldCall). is_caller c e.1.sender) (asks q)

  abbrev pub requests_of_it : List (ℕ × Caller)
  requests_of_it = filter (λ (e : ℕ × Caller). is_caller c e.1) (requests q)

  abbrev return_to : ℕ × HeldCall → Option (ℕ × List ℕ)
  return_to e = return_owed place.troupe begins kept e.0 e.1 q

  abbrev snapshot_to : ℕ × Caller → Option (ℕ × List ℕ)
  snapshot_to e = snapshot_owed begins first kept e.0 q

  abbrev by_end : ℕ × HeldCall → Bool
  by_end e = is_answered_by_end place boot begins first kept q e

  abbrev runs_return : (RunRecord → Bool) → List Effect
  runs_return pass = made_by_runs place boot begins first kept pass q kept.from kept.runs

  -- all that it returns to this caller
  returned_in_parts : (now_it then_it state_it later_it : List (List ℕ)) → returned c (at_once place boot begins first kept p q) ≡ now_it → returned c (went_on place boot begins first kept p q) ≡ then_it
      → returned c (states place boot begins first kept p q) ≡ state_it → returned c (started place boot begins first kept p q) ≡ later_it
      → returned c (made_in_step place boot begins first kept p q) ≡ now_it ++ ((then_it ++ state_it) ++ later_it)
  returned_in_parts now_it then_it state_it later_it at_once_is went_on_is states_are started_is =
      let no_ask = no_ask_returns c (behind place boot begins first kept p q) (all_behind place boot q (open_asks place boot kept p)) in
      let no_request = no_request_returns c (came place boot begins first kept p q) (all_came place boot begins q) in
      let no_lookup = no_request_returns c (looked_up place boot begins first kept p q) (all_looked_up place boot begins kept q) in
      parted (returned c) refl (returned-append c) (behind place boot begins first kept p q) (came place boot begins first kept p q) (at_once place boot begins first kept p q) (went_on place boot begins first kept p q)
      (states place boot begins first kept p q) (started place boot begins first kept p q) (looked_up place boot begins first kept p q)
      ∙ (λ j. (((no_ask j ++ no_request j) ++ at_once_is j) ++ ((went_on_is j ++ states_are j) ++ started_is j)) ++ no_lookup j)
      ∙ append-nil (now_it ++ ((then_it ++ state_it) ++ later_it))

  -- what a run returns to it
  run_returns : (returns : ℕ → List (List ℕ)) → ((index : ℕ) → returned c (returns_now place boot begins first kept q (λ e. by_end e && is_of_index place.troupe index e.1)) ≡ returns index)
      → (pass : RunRecord → Bool) → returned c (runs_return pass) ≡ of_runs pass (λ index run. returns index) kept.from kept.runs
  run_returns returns each pass =
      runs_parted (returned c) refl (returned-append c) place boot begins first kept q pass (λ index run. returns index)
      (λ index run. returned-append c (asked_by place boot begins first kept p q index run) (ended_by place boot begins first kept p q index run)
      ∙ (λ j. no_ask_returns c (asked_by place boot begins first kept p q index run) (all_asked place boot begins first kept p q index run) j ++ each index j))
      kept.from kept.runs

  -- ---- to one that made no call

  no_return : asks_of_it ≡ [] → (test : ℕ × HeldCall → Bool) → returned c (returns_now place boot begins first kept q test) ≡ []
  no_return none test = none_given c q (λ (e : ℕ × HeldCall). e.1.sender) return_to (asks q) none test

  no_run_returns : asks_of_it ≡ [] → (pass : RunRecord → Bool) → returned c (runs_return pass) ≡ []
  no_run_returns none pass =
      run_returns (λ index. []) (λ index. no_return none (λ e. by_end e && is_of_index place.troupe index e.1)) pass
      ∙ none_of_runs pass (λ index run. []) (λ index run. refl) kept.from kept.runs

  states_as_chosen : states place boot begins first kept p q ≡ flat_map (λ (e : ℕ × Caller). if_now q e.1 (snapshot_to e)) (filter (λ e. true) (requests q))
  states_as_chosen = ap (flat_map (λ (e : ℕ × Caller). if_now q e.1 (snapshot_to e))) (sym (all_stay (requests q)))

  no_state : requests_of_it ≡ [] → returned c (states place boot begins first kept p q) ≡ []
  no_state none = ap (returned c) states_as_chosen ∙ none_given c q (λ (e : ℕ × Caller). e.1) snapshot_to (requests q) none (λ e. true)

  pub none_in_step : asks_of_it ≡ [] → requests_of_it ≡ [] → returned c (made_in_step place boot begins first kept p q) ≡ []
  none_in_step no_asks no_requests =
      returned_in_parts [] [] [] [] (no_return no_asks (λ e. not (by_end e))) (no_run_returns no_asks (is_early place boot begins first kept p q)) (no_state no_requests)
      (no_run_returns no_asks (is_late place boot begins first kept p q))

  -- ---- to one that made a state request

  pub snapshot_in_step : (e : ℕ × Caller) → asks_of_it ≡ [] → requests_of_it ≡ e ∷ [] → returned c (made_in_step place boot begins first kept p q) ≡ given_now q (snapshot_to e)
  snapshot_in_step e no_asks alone =
      let given = ap (returned c) states_as_chosen ∙ one_given c q (λ (x : ℕ × Caller). x.1) snapshot_to e (requests q) alone (λ x. true) in
      returned_in_parts [] [] (given_now q (snapshot_to e)) [] (no_return no_asks (λ x. not (by_end x))) (no_run_returns no_asks (is_early place boot begins first kept p q)) given
      (no_run_returns no_asks (is_late place boot begins first kept p q))
      ∙ append-nil (given_now q (snapshot_to e))

  -- ---- to one that made a call

  module _ (e : ℕ × HeldCall) (alone : asks_of_it ≡ e ∷ []) where
    abbrev own : ℕ
    own = index_of place.troupe e.1.header

    abbrev owed : List (List ℕ)
    owed = given_now q (return_to e)

    one_return : (test : ℕ × HeldCall → Bool) → returned c (returns_now place boot begins first kept q test) ≡ (if test e then owed else [])
    one_return test = one_given c q (λ (x : ℕ × HeldCall). x.1.sender) return_to e (asks q) alone test

    runs_give : (pass : RunRecord → Bool) → returned c (runs_return pass) ≡ of_runs pass (λ index run. if by_end e && nat_eq own index then owed else []) kept.from kept.runs
    runs_give pass = run_returns (λ index. if by_end e && nat_eq own index then owed else []) (λ index. one_return (λ x. by_end x && is_of_index place.troupe index x.1)) pass

    abbrev of_all : Bool → (RunRecord → Bool) → List (List ℕ)
    of_all t pass = of_runs pass (λ index run. if t && nat_eq own index then owed else []) kept.from kept.runs

    -- the run of its index is there, where that ends
    record Ends : Type 0 where
      n : ℕ
      run : RunRecord
      at : own ≡ kept.from + n
      there : slice_get kept.runs n ≡ Some run

    ends : by_end e ≡ true → Ends
    ends is = by_run (nat_lt own kept.from) refl (slice_get kept.runs (own - kept.from)) refl now_ends
      where
        now_ends : ends_now place boot begins first kept q own ≡ true
        now_ends = (and_parts (not (is_stale place.troupe begins kept e.0 e.1 q) && not (is_before place.troupe begins kept e.1 q)) (ends_now place boot begins first kept q own) is).1

        by_run : (t : Bool) → nat_lt own kept.from ≡ t → (o : Option RunRecord) → slice_get kept.runs (own - kept.from) ≡ o
            → option_map_or (λ (run : RunRecord). option_map_or (nat_eq (now q)) run.ended false) (if t then None else o) false ≡ true → Ends
        by_run true below o there some = absurd (false≢true some)
        by_run false above None there some = absurd (false≢true some)
        by_run false above (Some run) there some =
            let low = ltb-false own kept.from above in
            record { n = own - kept.from; run = run; at = omega (arith, low); there = there }

    pub return_in_step : requests_of_it ≡ [] → returned c (made_in_step place boot begins first kept p q) ≡ owed
    return_in_step no_requests =
        let early = is_early place boot begins first kept p q in
        let late = is_late place boot begins first kept p q in
        returned_in_parts (if not (by_end e) then owed else []) (of_all (by_end e) early) [] (of_all (by_end e) late) (one_return (λ x. not (by_end x))) (runs_give early) (no_state no_requests) (runs_give late)
        ∙ by_test (by_end e) refl
      where
        by_test : (t : Bool) → by_end e ≡ t
            → (if not t then owed else []) ++ ((of_all t (is_early place boot begins first kept p q) ++ []) ++ of_all t (is_late place boot begins first kept p q)) ≡ owed
        by_test true is =
            let early = is_early place boot begins first kept p q in
            let late = is_late place boot begins first kept p q in
            let r = ends is in
            ap (λ l. l ++ of_all true late) (append-nil (of_all true early)) ∙ given_once owed early own kept.from r.n kept.runs r.run r.at r.there
        by_test false is =
            let early = is_early place boot begins first kept p q in
            let late = is_late place boot begins first kept p q in
            let none : (pass : RunRecord → Bool) → of_all false pass ≡ [] = λ pass. none_of_runs pass (λ index run. []) (λ index run. refl) kept.from kept.runs in
            (λ j. owed ++ ((none early j ++ []) ++ none late j)) ∙ append-nil owed
