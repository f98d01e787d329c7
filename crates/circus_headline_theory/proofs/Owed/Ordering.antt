-- What is made in a step stands in its order.
use Rattle.std.proofs.Common.{◌≡◌, ℕ, suc, ◌+◌, ◌-◌, ◌≤◌, Bool, true, false, ◌&&◌, not, cond, ◌⊎◌, inl, inr, if◌then◌else◌, List, [], ◌∷◌, ◌++◌, map, filter, All, Option, Some, None, refl, sym, ap, subst, ◌∙◌, arith, append-nil}
use Rattle.std.specs.Prelude.{slice_get, nat_eq, IfSome, is_some, is_none, option_and_then}
use Rattle.std.specs.List.{flat_map}
use Rattle.std.specs.Option.{option_map_or}
use Rattle.std.proofs.lemmas.Bool.{le-ltb, eq-eqb, ne_eqb}
use Rattle.std.proofs.lemmas.Bool.Decides.{eqb_tells}
use Rattle.std.proofs.lemmas.List.Elements.{All-nil, All-cons, All-head, All-tail, All-append, All-weaker, filter-append}
use Rattle.circus_value.specs.Among.{is_among}
use Rattle.circus_value.specs.ValueTree.{ValueTree}
use Rattle.circus_value.specs.declared.caller.Caller.{Caller}
use Rattle.circus_value.specs.declared.outcome.Outcome.{Outcome}
use Rattle.circus_header.specs.declared.call.Request.{Request}
use Rattle.circus_header.specs.declared.call.Request.TheVariants.{Join, Active, Gone}
use Rattle.circus_collate.specs.Expecting.{has_node}
use Rattle.circus_collate.specs.declared.view.View.{View}
use Rattle.circus_model.specs.Behaviour.{IsModule}
use Rattle.circus_model.specs.NextTurn.{NextTurn}
use Rattle.circus_model.specs.declared.signature.Signature.{Signature}
use Rattle.circus_fanout.specs.Knowing as knowing
use Rattle.circus_fanout.specs.Knowing.{Knowing}
use Rattle.circus_gather.specs.Gathering as gathering
use Rattle.circus_gather.specs.declared.held.HeldCall.{HeldCall}
use Rattle.circus_fanout.specs.Asking.{Asking, calls_for_a_view, next}
use Rattle.circus_fanout.specs.declared.send.Next.{Next}
use Rattle.circus_fanout.specs.declared.send.Next.TheVariants as N
use Rattle.circus_performing.specs.Performing.{is_fetching, made_active}
use Rattle.circus_performing.specs.Record.{behaviour}
use Rattle.circus_member_rules.specs.declared.place.Place.{Place}
use Rattle.circus_member_rules.specs.declared.place.Beginning.{Beginning}
use Rattle.circus_member_rules.specs.declared.occurrence.AskName.{AskName}
use Rattle.circus_member_rules.specs.declared.occurrence.Effect.{Effect}
use Rattle.circus_member_rules.specs.declared.occurrence.Occurrence.{Occurrence}
use Rattle.circus_member_rules.specs.declared.occurrence.Occurrence.TheVariants as comes
use Rattle.circus_member_rules.specs.declared.occurrence.Effect.TheVariants as made
use Rattle.circus_member_rules.specs.OpenAsks.{asking_of}
use Rattle.circus_member_rules.specs.Happening.{IsHome}
use Rattle.circus_member_rules.specs.MemberState.{MemberState, Doing}
use Rattle.circus_record.specs.declared.record.AskRecord.{AskRecord}
use Rattle.circus_record.specs.declared.record.MemberRecord.{MemberRecord}
use Rattle.circus_record.specs.declared.record.RunRecord.{RunRecord}
use Rattle.circus_transfer.specs.declared.joiner.Joiner.{Joiner}
use Rattle.circus_gather.specs.Gathering.{index_of, is_of_index, reply_of, answer_to, answered_by_end}
use Rattle.circus_performing.specs.Performing.{made_ask, answered_ask}
use Rattle.circus_member_rules.specs.Messages.{reply_message, stale_message, before_message}
use Rattle.circus_member_rules.specs.Rules.{ringmaster, answer, answers, request_call, request_to_ring, message_at_once, call_of_ask, call_for, call_again, calls_for_view, calls_for_a_new_view, is_to, givers, state_request, state_requests, gone_from, gone_call, lookup_call, active_call, before_answers, answers_of_run}
use Rattle.circus_member_rules.specs.Step.{reply_of_run, known_by_table, is_taken_in, kept_by_table, handle}
use Rattle.circus_member_rules.proofs.Concerned.{all_of}
use Rattle.circus_member_theory.specs.Past.{Past, booted, followed, now, views_known, nodes_declared_down}
use Rattle.circus_member_theory.specs.Living.{phase_at_boot, after, kept_after, MayLive}
use Rattle.circus_member_theory.specs.Asks.{is_of_ask, is_new, knows, first_calls}
use Rattle.circus_member_theory.specs.Order.{calls_of_what_came, is_answered_by_end, returns_now, returns_at_once, made_by_run, made_by_runs, executed_then, IsInOrder}
use Rattle.circus_member_theory.specs.Requests.{is_no_ask, is_request}
use Rattle.circus_member_theory.specs.Returns.{run_of, has_ended}
use Rattle.circus_headline_theory.specs.Owed.Living.{makes_in}
use Rattle.circus_headline_theory.proofs.Owed.Arriving.{back_to, nothing, AreHeld, are_held, IsNew, is_new as is_new_at, own as own_module, reply_then, ends_as, at_once_are, by_end_are}
use Rattle.circus_headline_theory.proofs.Owed.Askers.{AreAsking, IsDivided, sorted_then, asking_then, snapshots_are}
use Rattle.circus_headline_theory.proofs.Owed.AtOnce.{at_once}
use Rattle.circus_headline_theory.proofs.Owed.Calling.{AreCalled, called_all, calls_of_what_came as calls_came}
use Rattle.circus_headline_theory.proofs.Owed.Distinct.{All-zip}
use Rattle.circus_headline_theory.proofs.Owed.Entries.{asks_by}
use Rattle.circus_headline_theory.proofs.Owed.Going.{executed_keeps}
use Rattle.circus_headline_theory.proofs.Owed.Lives.{IsKnown, handles, executes, IsStepped, step_is, known as known_after, none_at_boot}
use Rattle.circus_headline_theory.proofs.Owed.Moments.{is_early, within_all, all_pass}
use Rattle.circus_headline_theory.proofs.Owed.Opening.{IsBy}
use Rattle.circus_headline_theory.proofs.Owed.Passing.{same_flat, none_flat, answers_to}
use Rattle.circus_headline_theory.proofs.Owed.Performed.{has_none, part, parts, quiet_parts, Goes, Turns, goes_keep}
use Rattle.circus_headline_theory.proofs.Owed.Requesting.{Requests, asked_all, handled_so, lookups_are}
use Rattle.circus_headline_theory.proofs.Owed.States.{early_now}
use Rattle.circus_headline_theory.proofs.Owed.Status.{IsWithin, reply_in}
use Rattle.circus_headline_theory.proofs.Owed.Stays.{is_same}
use Rattle.circus_member_rules.specs.declared.place.Beginning.{Beginning}

-- ---- kinds of effects

-- it is a return
abbrev pub is_return : Effect → Bool
is_return (made.Call to message purpose) = false
is_return (made.Answer caller message) = true

all_returns : (message : List ℕ) (xs : List Caller) → All (λ e. is_return e ≡ true) (answers message xs)
all_returns message [] = All-nil (λ e. is_return e ≡ true)
all_returns message (x ∷ xs) = All-cons (λ e. is_return e ≡ true) (answer message x) (answers message xs) refl (all_returns message xs)

pub all_calls : {X : Type 0} (f : X → Effect) → ((x : X) → is_of_ask (f x) ≡ true) → (xs : List X) → All (λ e. is_of_ask e ≡ true) (map f xs)
all_calls f is [] = All-nil (λ e. is_of_ask e ≡ true)
all_calls f is (x ∷ xs) = All-cons (λ e. is_of_ask e ≡ true) (f x) (map f xs) (is x) (all_calls f is xs)

pub all_requests : {X : Type 0} (f : X → Effect) → ((x : X) → is_request (f x) ≡ true) → (xs : List X) → All (λ e. is_request e ≡ true) (map f xs)
all_requests f is [] = All-nil (λ e. is_request e ≡ true)
all_requests f is (x ∷ xs) = All-cons (λ e. is_request e ≡ true) (f x) (map f xs) (is x) (all_requests f is xs)

-- what of a list passes where all passes, and where none does
pub passing : (test : Effect → Bool) (xs : List Effect) → All (λ e. test e ≡ true) xs → filter test xs ≡ xs
passing test [] all = refl
passing test (x ∷ xs) all = ap (λ b. cond b (x ∷ filter test xs) (filter test xs)) (All-head (λ e. test e ≡ true) x xs all) ∙ ap (λ l. x ∷ l) (passing test xs (All-tail (λ e. test e ≡ true) x xs all))

pub failing : (test other : Effect → Bool) → ((e : Effect) → other e ≡ true → test e ≡ false) → (xs : List Effect) → All (λ e. other e ≡ true) xs → filter test xs ≡ []
failing test other apart [] all = refl
failing test other apart (x ∷ xs) all =
    ap (λ b. cond b (x ∷ filter test xs) (filter test xs)) (apart x (All-head (λ e. other e ≡ true) x xs all)) ∙ failing test other apart xs (All-tail (λ e. other e ≡ true) x xs all)

pub ask_is_no_request : (e : Effect) → is_of_ask e ≡ true → is_request e ≡ false
ask_is_no_request e is = by_effect e is
  where
    by_effect : (x : Effect) → is_of_ask x ≡ true → is_request x ≡ false
    by_effect (made.Call to message purpose) h = from_not (is_no_ask purpose) h
      where
        from_not : (b : Bool) → not b ≡ true → b ≡ false
        from_not true h = cc
        from_not false h = refl
    by_effect (made.Answer caller message) h = cc

pub request_is_no_ask : (e : Effect) → is_request e ≡ true → is_of_ask e ≡ false
request_is_no_ask e is = by_effect e is
  where
    by_effect : (x : Effect) → is_request x ≡ true → is_of_ask x ≡ false
    by_effect (made.Call to message purpose) h = ap not h
    by_effect (made.Answer caller message) h = refl

pub return_is_no_ask : (e : Effect) → is_return e ≡ true → is_of_ask e ≡ false
return_is_no_ask (made.Call to message purpose) is = cc
return_is_no_ask (made.Answer caller message) is = refl

pub return_is_no_request : (e : Effect) → is_return e ≡ true → is_request e ≡ false
return_is_no_request (made.Call to message purpose) is = cc
return_is_no_request (made.Answer caller message) is = refl

-- ---- what is made of what comes

-- calls of asks, then other calls, then these returns
abbrev IsSorted : List Effect → List Effect → Type 0
IsSorted returns effects = effects ≡ (filter is_of_ask effects ++ filter is_request effects) ++ returns

sorted : (calls requests returns effects : List Effect) → All (λ e. is_of_ask e ≡ true) calls → All (λ e. is_request e ≡ true) requests → All (λ e. is_return e ≡ true) returns
    → effects ≡ (calls ++ requests) ++ returns → IsSorted returns effects
sorted calls requests returns effects asks rest answers are =
    let asks_so : filter is_of_ask effects ≡ calls =
    ap (filter is_of_ask) are ∙ filter-append is_of_ask (calls ++ requests) returns
    ∙ (λ j. (filter-append is_of_ask calls requests ∙ (λ i. passing is_of_ask calls asks i ++ failing is_of_ask is_request request_is_no_ask requests rest i) ∙ append-nil calls) j
    ++ failing is_of_ask is_return return_is_no_ask returns answers j)
    ∙ append-nil calls in
    let requests_so : filter is_request effects ≡ requests =
    ap (filter is_request) are ∙ filter-append is_request (calls ++ requests) returns
    ∙ (λ j. (filter-append is_request calls requests ∙ (λ i. failing is_request is_of_ask ask_is_no_request calls asks i ++ passing is_request requests rest i)) j
    ++ failing is_request is_return return_is_no_request returns answers j)
    ∙ append-nil requests in
    are ∙ (λ j. (sym asks_so j ++ sym requests_so j) ++ returns)

no_calls : All (λ e. is_of_ask e ≡ true) []
no_calls = All-nil (λ e. is_of_ask e ≡ true)

no_requests : All (λ e. is_request e ≡ true) []
no_requests = All-nil (λ e. is_request e ≡ true)

no_returns : All (λ e. is_return e ≡ true) []
no_returns = All-nil (λ e. is_return e ≡ true)

sorted_calls : (calls : List Effect) → All (λ e. is_of_ask e ≡ true) calls → IsSorted [] calls
sorted_calls calls asks = sorted calls [] [] calls asks no_requests no_returns (sym (append-nil calls) ∙ sym (append-nil (calls ++ [])))

sorted_requests : (requests : List Effect) → All (λ e. is_request e ≡ true) requests → IsSorted [] requests
sorted_requests requests rest = sorted [] requests [] requests no_calls rest no_returns (sym (append-nil requests))

sorted_returns : (returns : List Effect) → All (λ e. is_return e ≡ true) returns → IsSorted returns returns
sorted_returns returns answers = sorted [] [] returns returns no_calls no_requests answers refl

pub ring_requests : (k : Knowing) (request : Request) → All (λ e. is_request e ≡ true) (request_to_ring k request)
ring_requests k request = by_test (is_among k.down ringmaster)
  where
    by_test : (b : Bool) → All (λ e. is_request e ≡ true) (if b then [] else request_call request ∷ [])
    by_test true = All-nil (λ e. is_request e ≡ true)
    by_test false = All-cons (λ e. is_request e ≡ true) (request_call request) [] refl (All-nil (λ e. is_request e ≡ true))

pub gone_requests : (place : Place) (k : Knowing) (node : ℕ) → All (λ e. is_request e ≡ true) (gone_call place k node)
gone_requests place k node = by_host (slice_get place.troupes node)
  where
    R : List Effect → Type 0
    R l = All (λ e. is_request e ≡ true) l

    by_view : (troupe : ℕ) (o : Option View) → R (option_map_or (λ (v : View). if has_node v node then request_to_ring k (Gone troupe node) else []) o [])
    by_view troupe None = All-nil (λ e. is_request e ≡ true)
    by_view troupe (Some v) = by_test (has_node v node)
      where
        by_test : (b : Bool) → R (if b then request_to_ring k (Gone troupe node) else [])
        by_test true = ring_requests k (Gone troupe node)
        by_test false = All-nil (λ e. is_request e ≡ true)

    by_hosted : (o : Option ℕ) → R (option_map_or (gone_from k node) o [])
    by_hosted None = All-nil (λ e. is_request e ≡ true)
    by_hosted (Some troupe) = by_view troupe (slice_get k.views troupe)

    by_host : (o : Option (Option ℕ)) → R (option_map_or (λ hosted. option_map_or (gone_from k node) hosted []) o [])
    by_host None = All-nil (λ e. is_request e ≡ true)
    by_host (Some hosted) = by_hosted hosted

pub again_calls : (k : Knowing) (name : AskName) (from incarnation : ℕ) (o : Option Asking) → All (λ e. is_of_ask e ≡ true) (option_map_or (call_again k name from incarnation) o [])
again_calls k name from incarnation None = All-nil (λ e. is_of_ask e ≡ true)
again_calls k name from incarnation (Some a) = by_view (slice_get k.views a.header.server)
  where
    by_next : (n : Next) → All (λ e. is_of_ask e ≡ true) (call_for k name a n)
    by_next (N.Send send) = All-cons (λ e. is_of_ask e ≡ true) (call_of_ask k name a send) [] refl (All-nil (λ e. is_of_ask e ≡ true))
    by_next (N.Lookup wanted) = All-nil (λ e. is_of_ask e ≡ true)
    by_next N.Leave = All-nil (λ e. is_of_ask e ≡ true)

    by_view : (o : Option View) → All (λ e. is_of_ask e ≡ true) (option_map_or (λ view. call_for k name a (next view k.down from incarnation)) o [])
    by_view None = All-nil (λ e. is_of_ask e ≡ true)
    by_view (Some view) = by_next (next view k.down from incarnation)

pub calls_new : (k : Knowing) (view : View) (asks : List (AskName × Asking)) → All (λ e. is_of_ask e ≡ true) (flat_map (calls_for_view k view) asks)
calls_new k view [] = All-nil (λ e. is_of_ask e ≡ true)
calls_new k view (x ∷ asks) =
    All-append (λ e. is_of_ask e ≡ true) (calls_for_view k view x) (flat_map (calls_for_view k view) asks)
    (all_calls (call_of_ask k x.0 x.1) (λ s. refl) (calls_for_a_view view k.down x.1.asked)) (calls_new k view asks)

module _ {M : Type 0} (step : ℕ) (m : MemberState M) where
  handled_sorted : (o : Occurrence) → IsSorted (at_once m o) (handle step o m).effects
  handled_sorted (comes.Asked header body sender) = by_message (message_at_once (answer_to m.gathered header))
    where
      by_message : (x : Option (List ℕ)) → let returns = option_map_or (λ message. answer message sender ∷ []) x [] in IsSorted returns returns
      by_message None = sorted_returns [] no_returns
      by_message (Some message) = sorted_returns (answers message (sender ∷ [])) (all_returns message (sender ∷ []))
  handled_sorted (comes.Fetched incarnation sender) =
      let g = m.gathered in
      let message = stale_message (gathering.with_required g incarnation).required in
      sorted_returns (answers message (gathering.stale_answers g incarnation)) (all_returns message (gathering.stale_answers g incarnation))
  handled_sorted (comes.Replied name from reply) = sorted_returns [] no_returns
  handled_sorted (comes.IsStale name server from incarnation) =
      sorted_calls (option_map_or (call_again m.known name from incarnation) (asking_of m.asks name) []) (again_calls m.known name from incarnation (asking_of m.asks name))
  handled_sorted (comes.IsBefore name from) = sorted_returns [] no_returns
  handled_sorted (comes.Told request table) =
      let k = known_by_table m.known request table.view in
      by_tests (knowing.is_newer m.known table.view) (is_taken_in m.performing.kept.phase (kept_by_table m.performing.kept request table).phase)
      (calls_for_a_new_view k table.view m.asks) (state_requests m.place k.down table.view) (calls_new k table.view (filter (is_to table.view.troupe) m.asks))
      (all_requests (state_request m.place.troupe table.view.incarnation) (λ n. refl) (givers m.place.node k.down table.view))
    where
      by_tests : (a b : Bool) (xs ys : List Effect) → All (λ e. is_of_ask e ≡ true) xs → All (λ e. is_request e ≡ true) ys → IsSorted [] ((if a then xs else []) ++ (if b then ys else []))
      by_tests true true xs ys asks rest = sorted xs ys [] (xs ++ ys) asks rest no_returns (sym (append-nil (xs ++ ys)))
      by_tests true false xs ys asks rest = sorted xs [] [] (xs ++ []) asks no_requests no_returns (sym (append-nil (xs ++ [])))
      by_tests false true xs ys asks rest = sorted_requests ys rest
      by_tests false false xs ys asks rest = sorted_returns [] no_returns
  handled_sorted (comes.Restored state count) = by_test (is_fetching m.performing.kept.phase)
    where
      by_test : (b : Bool) → let d : Doing M = if b then record {
        member = record m { performing = made_active step state count m.performing; gathered = gathering.with_first m.gathered count };
        effects = active_call m.place m.known count ++ before_answers m.gathered count;
      } else record { member = m; effects = [] } in IsSorted (if b then before_answers m.gathered count else []) d.effects
      by_test true =
          let back = before_answers m.gathered count in
          sorted [] (active_call m.place m.known count) back (active_call m.place m.known count ++ back) no_calls
          (ring_requests m.known (Active m.place.troupe m.place.node count))
          (all_returns (before_message count) (gathering.before_answers m.gathered count)) refl
      by_test false = sorted_returns [] no_returns
  handled_sorted (comes.Declared node) =
      sorted_requests (gone_call m.place (knowing.note_down m.known node) node) (gone_requests m.place (knowing.note_down m.known node) node)
  handled_sorted comes.Joins = sorted_requests (request_to_ring m.known (Join m.place.troupe m.place.node)) (ring_requests m.known (Join m.place.troupe m.place.node))

-- ---- a step

module _ {M : Type 0} (declared : M → Signature) (turn : M → List ValueTree → ℕ → List ValueTree → List Outcome → NextTurn) (first : M → List ValueTree)
    (lawful : (hosted : M) → IsModule (behaviour declared turn first hosted)) (place : Place) (views : List View) (beginning : Beginning) (hosted : M)
    (home : IsHome (declared hosted) place views) where
  abbrev life : Past → MemberState M
  life p = after declared turn first place views beginning hosted p

  abbrev start : Joiner
  start = phase_at_boot beginning

  module _ (p : Past) (at : ℕ) (o : Occurrence) (may : MayLive declared turn first place views beginning hosted (followed p at o)) where
    abbrev m : MemberState M
    m = life p

    abbrev q : Past
    q = followed p at o

    abbrev d : Doing M
    d = handles declared turn first lawful place views beginning hosted p at o

    abbrev e : Doing M
    e = executes declared turn first lawful place views beginning hosted p at o

    abbrev kept : MemberRecord
    kept = e.member.performing.kept

    h : IsKnown declared turn first lawful place views beginning hosted p m
    h = known_after declared turn first lawful place views beginning hosted home p may.0

    s : IsStepped declared turn first lawful place views beginning hosted p at o
    s = step_is declared turn first lawful place views beginning hosted home p at o may h

    c : AreCalled declared turn first lawful place views beginning hosted p
    c = called_all declared turn first lawful place views beginning hosted home p may.0

    r : Requests declared turn first lawful place views beginning hosted p
    r = asked_all declared turn first lawful place views beginning hosted home p may.0

    -- ---- the execution

    abbrev test : AskRecord → Bool
    test = is_new q

    fresh : (clock : List ℕ) (callee procedure : ℕ) (arguments state : List ValueTree) → test (made_ask at clock callee procedure arguments state) ≡ true
    fresh clock callee procedure arguments state = eq-eqb at at refl

    still : (ask : AskRecord) (reply : Outcome) (clock : List ℕ) → ask.answered ≡ None → test (answered_ask at reply clock ask) ≡ test ask
    still ask reply clock none = refl

    abbrev old : List Effect
    old = d.effects

    abbrev GoesOn : Doing M → Type 0
    GoesOn x = Goes declared turn first lawful at d.member views test fresh still old x

    -- what the runs that pass make, from the first index on
    abbrev made_by : (RunRecord → Bool) → ℕ → List RunRecord → List Effect
    made_by pass index runs = parts declared turn first lawful at d.member views test fresh still old pass index runs

    -- no run has made anything yet
    quiet_before : (pass : RunRecord → Bool) → made_by pass d.member.performing.kept.from d.member.performing.kept.runs ≡ []
    quiet_before pass =
        let before = may.1 in
        let Q : RunRecord → Type 0 = λ x. (All (λ (a : AskRecord). test a ≡ false) x.asks) × (option_map_or (nat_eq at) x.ended false ≡ false) in
        quiet_parts declared turn first lawful at d.member views test fresh still old pass d.member.performing.kept.from d.member.performing.kept.runs
        (subst (All Q) (sym s.carried.runs)
        (All-zip (λ (x : RunRecord). All (IsBy (now p)) x.asks) (IsWithin (now p)) Q
        (λ x by within. (
          All-weaker (IsBy (now p)) (λ (a : AskRecord). test a ≡ false) (λ a low. let made = low.0 in ne_eqb a.asked at (λ eq. absurd (omega (arith, made, before, eq)))) x.asks by,
          ends_later x.ended within.1,
        ))
        m.performing.kept.runs c.by (within_all (now p) m.performing.kept.runs h.within)))
      where
        ends_later : (x : Option ℕ) → IfSome x (λ n. n ≤ now p) → option_map_or (nat_eq at) x false ≡ false
        ends_later None low = refl
        ends_later (Some n) low = let before = may.1 in ne_eqb at n (λ eq. absurd (omega (arith, low, before, eq)))

    goes : GoesOn e
    goes =
        let before = may.1 in
        executed_keeps declared turn first lawful at GoesOn (Turns declared turn first lawful at d.member views test fresh still old) (goes_keep declared turn first lawful at d.member views test fresh still old) d s.sound (
          s.carried.linked,
          is_same d.member,
          sym (all_pass (has_none d.member.gathered) d.member.gathered.held (λ i x below. ap is_none (s.sound.held i x below).fresh)),
          inl (record {
            requests = refl;
            all_early = early_now declared turn first lawful place views beginning hosted home p at o may;
            effects = sym (append-nil old) ∙ ap (λ l. old ++ l) (sym (quiet_before (λ run. is_early at run)));
          }),
        )

    -- ---- over a past

    held : AreHeld declared turn first lawful place views beginning hosted p
    held = are_held declared turn first lawful place views beginning hosted home p may.0

    new : IsNew declared turn first lawful place views beginning hosted home p at o may
    new = is_new_at declared turn first lawful place views beginning hosted home p at o may

    sorted_so : IsDivided declared turn first lawful place views beginning hosted home p at o may test fresh still old
    sorted_so = sorted_then declared turn first lawful place views beginning hosted home p at o may test fresh still old goes.3

    pub asking_on : AreAsking declared turn first lawful place views beginning hosted p → AreAsking declared turn first lawful place views beginning hosted q
    asking_on a = asking_then declared turn first lawful place views beginning hosted home p at o may a sorted_so.left

    -- ---- what a run makes is what the definition says

    own_place : d.member.place ≡ place
    own_place = s.carried.place ∙ h.stands

    knows_now : (x : AskName × Asking) → first_calls d.member.place views d.member.known x ≡ first_calls place views (knows place views q) x
    knows_now x =
        let last = asked_all declared turn first lawful place views beginning hosted home q may in
        let wants = d.member.known.wants in
        let seen : d.member.known.views ≡ views_known views q = sym (ap (λ (k : Knowing). k.views) s.same.known) ∙ last.views_are in
        let gone : d.member.known.down ≡ nodes_declared_down q = sym (ap (λ (k : Knowing). k.down) s.same.known) ∙ last.downs in
        (λ j. first_calls (own_place j) views (let k : Knowing = record { views = seen j; down = gone j; wants = wants } in k) x)

    abbrev reply_now : HeldCall → Option (List ℕ)
    reply_now call = reply_then declared turn first lawful place views beginning hosted home p at o may call

    -- the returns as a run ends
    ended_so : (k : ℕ) (run : RunRecord) → slice_get kept.runs k ≡ Some run
        → (if option_map_or (nat_eq at) run.ended false then answers_of_run (answered_by_end d.member.gathered (kept.from + k)) (reply_of_run run) else [])
        ≡ returns_now place views start (first hosted) kept q (λ x. is_answered_by_end place views start (first hosted) kept q x && is_of_index place.troupe (kept.from + k) x.1)
    ended_so k run there =
        let i = kept.from + k in
        let message = reply_message (reply_of_run run) in
        let ends = option_map_or (nat_eq at) run.ended false in
        let of : HeldCall → Bool = is_of_index d.member.gathered.module i in
        let P : HeldCall → Type 0 = λ x. reply_of d.member.gathered (index_of d.member.gathered.module x.header) ≡ None in
        let f : HeldCall → List Effect = λ x. if of x then (if ends then answer message x.sender ∷ [] else []) else [] in
        let g : HeldCall → List Effect = λ x. if is_of_index place.troupe i x then back_to x (reply_now x) else [] in
        by_test ends message of d.member.gathered.held
        ∙ same_flat f g d.member.gathered.held
        (All-weaker P (λ x. f x ≡ g x) one d.member.gathered.held (λ n x below. (s.sound.held n x below).fresh))
        ∙ sym (by_end_are declared turn first lawful place views beginning hosted home p at o may held new (is_of_index place.troupe i))
      where
        by_test : (b : Bool) (message : List ℕ) (of : HeldCall → Bool) (xs : List HeldCall) → (if b then answers message (gathering.callers (filter of xs)) else []) ≡ flat_map (λ x. if of x then (if b then answer message x.sender ∷ [] else []) else []) xs
        by_test true message of xs = answers_to message of xs
        by_test false message of xs = sym (none_flat (λ x. let l : List Effect = if of x then [] else [] in l) xs (all_of (λ x. (let l : List Effect = if of x then [] else [] in l) ≡ []) xs (λ x. nothing (of x))))

        run_is : run_of kept (kept.from + k) ≡ Some run
        run_is =
            let less : (kept.from + k) - kept.from ≡ k = omega arith in
            ap (λ b. if b then None else slice_get kept.runs ((kept.from + k) - kept.from)) (le-ltb (kept.from + k) kept.from (omega arith)) ∙ ap (slice_get kept.runs) less ∙ there

        -- a reply is there exactly where it ends
        same_reply : (call : HeldCall) (ended ends : Bool) (message : List ℕ) → let x : Option (List ℕ) = if ended then Some message else None in ends ≡ is_some x
            → (if ends then answer message call.sender ∷ [] else []) ≡ back_to call x
        same_reply call true ends message is = ap (λ b. if b then answer message call.sender ∷ [] else []) is
        same_reply call false ends message is = ap (λ b. if b then answer message call.sender ∷ [] else []) is

        one : (x : HeldCall) → reply_of d.member.gathered (index_of d.member.gathered.module x.header) ≡ None
            → (if is_of_index d.member.gathered.module (kept.from + k) x then (if option_map_or (nat_eq at) run.ended false then answer (reply_message (reply_of_run run)) x.sender ∷ [] else []) else [])
            ≡ (if is_of_index place.troupe (kept.from + k) x then back_to x (reply_now x) else [])
        one x none =
            ap (λ n. if nat_eq (index_of n x.header) (kept.from + k) then (if option_map_or (nat_eq at) run.ended false then answer (reply_message (reply_of_run run)) x.sender ∷ [] else []) else []) own
            ∙ by_index (eqb_tells (index_of place.troupe x.header) (kept.from + k))
          where
            own : d.member.gathered.module ≡ place.troupe
            own = own_module declared turn first lawful place views beginning hosted home p at o may

            R : List Effect
            R = if option_map_or (nat_eq at) run.ended false then answer (reply_message (reply_of_run run)) x.sender ∷ [] else []

            by_index : ((nat_eq (index_of place.troupe x.header) (kept.from + k) ≡ true) × (index_of place.troupe x.header ≡ kept.from + k)) ⊎ ((nat_eq (index_of place.troupe x.header) (kept.from + k) ≡ false) × ((index_of place.troupe x.header ≡ kept.from + k) → ⊥))
                → (if nat_eq (index_of place.troupe x.header) (kept.from + k) then R else []) ≡ (if nat_eq (index_of place.troupe x.header) (kept.from + k) then back_to x (reply_now x) else [])
            by_index (inr other) = ap (λ b. if b then R else []) other.0 ∙ sym (ap (λ b. if b then back_to x (reply_now x) else []) other.0)
            by_index (inl same) =
                let here : run_of kept (index_of place.troupe x.header) ≡ Some run = ap (run_of kept) same.1 ∙ run_is in
                let reply : reply_now x ≡ reply_in q run = ap (option_and_then (reply_in q)) here in
                let ends : option_map_or (nat_eq at) run.ended false ≡ is_some (reply_in q run) =
                sym (ap (λ y. option_map_or (λ (z : RunRecord). option_map_or (nat_eq at) z.ended false) y false) here)
                ∙ ends_as declared turn first lawful place views beginning hosted home p at o may x none ∙ ap is_some reply in
                ap (λ b. if b then R else []) same.0 ∙ same_reply x (has_ended run q) (option_map_or (nat_eq at) run.ended false) (reply_message (reply_of_run run)) ends
                ∙ ap (back_to x) (sym reply) ∙ sym (ap (λ b. if b then back_to x (reply_now x) else []) same.0)

    part_so : (k : ℕ) (run : RunRecord) → slice_get kept.runs k ≡ Some run
        → part declared turn first lawful at d.member views test fresh still old (kept.from + k) run ≡ made_by_run place views start (first hosted) kept q (kept.from + k) run
    part_so k run there =
        let i = kept.from + k in
        (λ j. flat_map (λ x. knows_now x j) (asks_by (own_place j) test i run) ++ ended_so k run there j)

    parts_so : (pass : RunRecord → Bool) (n : ℕ) (runs : List RunRecord) → ((k : ℕ) → slice_get runs k ≡ slice_get kept.runs (n + k))
        → made_by pass (kept.from + n) runs ≡ made_by_runs place views start (first hosted) kept pass q (kept.from + n) runs
    parts_so pass n [] there = refl
    parts_so pass n (run ∷ runs) there =
        let more : kept.from + n + 1 ≡ kept.from + (n + 1) = omega arith in
        let first_one : n + 0 ≡ n = omega arith in
        let here : slice_get kept.runs n ≡ Some run = ap (slice_get kept.runs) (sym first_one) ∙ sym (there 0) in
        (λ j. (if pass run then part_so n run here j else [])
        ++ (ap (λ i. made_by pass i runs) more ∙ parts_so pass (n + 1) runs (λ k. there (suc k) ∙ ap (slice_get kept.runs) (next k))
        ∙ ap (λ i. made_by_runs place views start (first hosted) kept pass q i runs) (sym more)) j)
      where
        next : (k : ℕ) → n + suc k ≡ (n + 1) + k
        next k = omega arith

    made_so : (pass : RunRecord → Bool) → made_by pass d.member.performing.kept.from kept.runs ≡ made_by_runs place views start (first hosted) kept pass q kept.from kept.runs
    made_so pass =
        let none : kept.from + 0 ≡ kept.from = omega arith in
        ap (λ i. made_by pass i kept.runs) (sym s.same.start ∙ sym none)
        ∙ parts_so pass 0 kept.runs (λ k. ap (slice_get kept.runs) (zero_more k))
        ∙ ap (λ i. made_by_runs place views start (first hosted) kept pass q i kept.runs) none
      where
        zero_more : (k : ℕ) → k ≡ 0 + k
        zero_more k = omega arith

    -- ---- all of it

    in_order_by : AreAsking declared turn first lawful place views beginning hosted p
        → IsInOrder place views start (first hosted) kept p at o (makes_in declared turn first place views beginning hosted p at o)
    in_order_by a =
        let calls = calls_came declared turn first lawful place views beginning hosted home p at o may c in
        let requests = (handled_so declared turn first lawful place views beginning hosted home p at o may r).made in
        let last = ap (map lookup_call) (lookups_are declared turn first lawful place views beginning hosted home p at o may r) in
        let returns = at_once_are declared turn first lawful place views beginning hosted home p at o may held new in
        let handled_part : d.effects ≡ calls_of_what_came place views start (first hosted) kept p q ++ returns_at_once place views start (first hosted) kept q =
        handled_sorted at m o ∙ (λ j. (calls j ++ requests j) ++ sym returns j) in
        let snapshots = snapshots_are declared turn first lawful place views beginning hosted home p at o may a in
        let all : e.effects ≡ (calls_of_what_came place views start (first hosted) kept p q ++ returns_at_once place views start (first hosted) kept q) ++ executed_then place views start (first hosted) kept q =
        sorted_so.effects
        ∙ (λ j. handled_part j ++ ((made_so (λ run. is_early at run) j ++ sym snapshots j) ++ made_so (λ run. not (is_early at run)) j)) in
        (λ j. all j ++ last j)

  are_asking : (p : Past) → MayLive declared turn first place views beginning hosted p → AreAsking declared turn first lawful place views beginning hosted p
  are_asking booted may = record { asking = none_at_boot declared turn first lawful place views beginning hosted home; came = All-nil (λ (x : ℕ × Caller). x.0 ≤ 0) }
  are_asking (followed p at o) may = asking_on p at o may (are_asking p may.0)

  pub in_order : (p : Past) (at : ℕ) (o : Occurrence) → MayLive declared turn first place views beginning hosted (followed p at o)
      → IsInOrder place views (phase_at_boot beginning) (first hosted) (kept_after declared turn first place views beginning hosted (followed p at o)) p at o
      (makes_in declared turn first place views beginning hosted p at o)
  in_order p at o may = in_order_by p at o may (are_asking p may.0)
