-- What happens to a true member leaves it true, and what it makes of it is true.
use Rattle.std.proofs.Common.{◌≡◌, ℕ, Bool, true, false, not, if◌then◌else◌, List, [], ◌∷◌, ◌++◌, length, All, Option, Some, None, inl, inr, refl, sym, ap, subst, ◌∙◌}
use Rattle.std.specs.Prelude.{IfSome, IsSomeAnd, max, slice_get, slice_index, slice_set}
use Rattle.std.specs.Option.{option_map_or}
use Rattle.std.proofs.lemmas.List.Elements.{All-nil, All-cons, All-append, All-map, All-weaker, All-push, All-filter, All-set}
use Rattle.circus_value.specs.ValueTree.{ValueTree}
use Rattle.circus_value.specs.Among.{is_among}
use Rattle.circus_value.specs.declared.caller.Caller.{Caller}
use Rattle.circus_header.specs.ReturnFields.{IsReturn}
use Rattle.circus_header.specs.CallFields.{IsIncarnation}
use Rattle.circus_header.specs.declared.call.CallHeader.{CallHeader}
use Rattle.circus_header.specs.declared.call.Request.{Request}
use Rattle.circus_header.specs.declared.call.Request.TheVariants as asks
use Rattle.circus_header.specs.declared.answer.Reply.{Reply}
use Rattle.circus_header.specs.declared.answer.ReturnHeader.TheVariants as says
use Rattle.circus_collate.specs.declared.view.View.{View}
use Rattle.circus_collate.specs.declared.table.Table.{Table}
use Rattle.circus_collate.specs.Expecting.{has_node}
use Rattle.circus_collate.specs.declared.giving.Said.{Said}
use Rattle.circus_transfer.specs.declared.joiner.Joiner.{Joiner}
use Rattle.circus_transfer.specs.declared.joiner.Joiner.TheVariants.{Outside, Asking as AsksToJoin, Fetching, Active}
use Rattle.circus_transfer.specs.Joining.{after_join, after_table, taken_in}
use Rattle.circus_collate.specs.declared.table.RingResult.{RingResult}
use Rattle.circus_collate.specs.declared.table.RingResult.TheVariants.{Done, RootTroupe, NotSpare, Full}
use Rattle.circus_model.specs.declared.history.Run.{Run}
use Rattle.circus_model.specs.Behaviour.{Behaviour}
use Rattle.circus_model.specs.Agree.{IsAt, AreModules, Agree}
use Rattle.circus_model.specs.Execution.{history_of}
use Rattle.circus_model.specs.History.{run_at, state_after}
use Rattle.circus_model.proofs.Logging.{some_and}
use Rattle.circus_record.specs.declared.record.MemberRecord.{MemberRecord}
use Rattle.circus_fanout.specs.Knowing.{Knowing, is_newer, note_view, note_down}
use Rattle.circus_gather.specs.declared.added.Added.{Added}
use Rattle.circus_gather.specs.declared.added.Added.TheVariants as added
use Rattle.circus_gather.specs.declared.held.HeldCall.{HeldCall}
use Rattle.circus_gather.specs.Gathering.{Gathered, index_of, reply_of, answer_to, is_held, with_call, is_stale, with_required, is_before, with_first}
use Rattle.circus_gather.specs.Gathering as gathering
use Rattle.circus_fanout.specs.Asking.{Asking, with_reply, with_before, with_stale, with_view, next}
use Rattle.circus_performing.specs.Performing.{is_active, is_fetching, made_active}
use Rattle.circus_performing.proofs.Records.{fetching_is_inactive}
use Rattle.circus_member_rules.specs.declared.occurrence.AskName.{AskName}
use Rattle.circus_member_rules.specs.declared.occurrence.Effect.{Effect}
use Rattle.circus_member_rules.specs.declared.occurrence.Occurrence.{Occurrence}
use Rattle.circus_member_rules.specs.declared.occurrence.Occurrence.TheVariants as comes
use Rattle.circus_member_rules.specs.OpenAsks.{asking_of, with_asking}
use Rattle.circus_member_rules.specs.Messages.{reply_message, stale_message, before_message, fetch_message}
use Rattle.circus_member_rules.specs.Rules.{answer, answers, answer_at_once, call_for, call_again, after_stale, is_to, calls_for_a_new_view, seen_by_ask, with_new_view, request_call, request_to_ring, ringmaster, givers, state_request, state_requests, active_call, before_answers, gone_from}
use Rattle.circus_member_rules.specs.Callable.{MayAnswer}
use Rattle.circus_member_rules.proofs.Returns.{may_answer}
use Rattle.circus_member_rules.specs.MemberState.{MemberState, Doing}
use Rattle.circus_member_rules.specs.Step as step
use Rattle.circus_member_rules.specs.Step.{is_join, is_taken_in, answered_by_ring, known_by_table, kept_by_table, handle}
use Rattle.circus_member_rules.specs.Happening.{CanHappen}
use Rattle.circus_member_rules.specs.Seen.Sound.{IsOpenAsk, IsSound}
use Rattle.circus_member_rules.proofs.Named.{names_decide, All-changed_at}
use Rattle.circus_member_rules.proofs.Homes.{told_as_many, told_incarnations, ring_views, called_views, declared_views, home_with, are_views, may_call}
use Rattle.circus_member_rules.proofs.Held.{called_same}
use Rattle.circus_member_rules.proofs.Sound.{sound_known}
use Rattle.circus_member_theory.specs.Stands.{Stands}
use Rattle.circus_member_theory.specs.Messages.{IsReplyOf, IsTrueReply, IsTrueState}
use Rattle.circus_member_rules.specs.Proper.{AreProper}
use Rattle.circus_member_theory.specs.Truth.{IsLong, Answers, IsTrueAsking, IsCalled, IsTrueKept, IsFetch, IsTrueMember, IsTrueOccurrence, IsOtherReturn, IsTrueEffect}
use Rattle.circus_member_theory.proofs.Standing.{active_stands}
use Rattle.circus_member_theory.proofs.Accepting.Entries.{ask_found, kept_found}
use Rattle.circus_member_theory.proofs.Headers.{is_one_reply}
use Rattle.circus_member_theory.proofs.Ranges.{reply_is_long}
use Rattle.circus_member_theory.proofs.Kept.{KeepsTrue}
use Rattle.circus_member_theory.proofs.Calling.{next_by_view, AreViewsLong, known_is_long, incarnation_is_long, IsReady, call_for_is_true, new_view_calls_are_true}

-- ---- phases

-- one that isn't active doesn't become so by being told to join, or by a table
pub joining_was_active : (phase : Joiner) → is_active (after_join phase) ≡ true → is_active phase ≡ true
joining_was_active Outside is = is
joining_was_active AsksToJoin is = is
joining_was_active (Fetching incarnation) is = is
joining_was_active (Active count) is = is

taken_is_inactive : (result : RingResult) (incarnation : ℕ) → is_active (taken_in result incarnation) ≡ true → is_active AsksToJoin ≡ true
taken_is_inactive Done incarnation is = is
taken_is_inactive RootTroupe incarnation is = is
taken_is_inactive NotSpare incarnation is = is
taken_is_inactive Full incarnation is = is

pub tabled_was_active : (table : Table) (phase : Joiner) → is_active (after_table table phase) ≡ true → is_active phase ≡ true
tabled_was_active table Outside is = is
tabled_was_active table AsksToJoin is = taken_is_inactive table.result table.view.incarnation is
tabled_was_active table (Fetching incarnation) is = is
tabled_was_active table (Active count) is = is

-- what was performed is so in any phase
pub stands_in : (history : List (List Run)) (place : ℕ) (first : List ValueTree) (phase : Joiner) (kept : MemberRecord) → Stands history place first kept
    → Stands history place first (record kept { phase = phase })
stands_in history place first phase kept h =
    record {
      within = h.within;
      now = elim h.now [
        | inl i ↦ inl (record { runs = i.runs; count = i.count; state = i.state })
        | inr b ↦ inr (record {
          before = b.before;
          last = b.last;
          waiting = b.waiting;
          runs_are = b.runs_are;
          runs = b.runs;
          count = b.count;
          under_way = b.under_way;
          state = b.state;
        })
      ];
    }

-- ---- a reply that is kept

replied_by_tests : (stale before : Bool) (o : Option Reply) (required first : ℕ) (reply : Reply)
    → (if stale then added.Stale required else if before then added.Before first else option_map_or added.Reply o added.Held) ≡ added.Reply reply → o ≡ Some reply
replied_by_tests true before o required first reply is = cc
replied_by_tests false true o required first reply is = cc
replied_by_tests false false None required first reply is = cc
replied_by_tests false false (Some r) required first reply is = cc

kept_reply : (g : Gathered) (header : CallHeader) (reply : Reply) → answer_to g header ≡ added.Reply reply → reply_of g (index_of g.module header) ≡ Some reply
kept_reply g header reply is = replied_by_tests _ _ (reply_of g (index_of g.module header)) g.required g.from reply is

-- ---- views

told_long : (k : Knowing) (view : View) → IsLong view.incarnation → AreViewsLong k.views → AreViewsLong (note_view k view).views
told_long k view is are =
    elim (is_newer k view) as (λ b. let t : Knowing = if b then record k { views = slice_set k.views view.troupe view } else k in AreViewsLong t.views) [
      | true ↦ All-set (λ (v : View). IsLong v.incarnation) k.views view.troupe view is are
      | false ↦ are
    ]

module _ (program : List Behaviour) (agree : Agree program) (are : AreModules program) (proper : AreProper program) (troupe : ℕ) (b : Behaviour)
    (at : IsAt program troupe b) (Called : Caller → List ℕ → Type 0) where
  abbrev pub IsNow : {M : Type 0} → MemberState M → Type 0
  IsNow m = IsTrueMember (history_of program) troupe b.first Called m

  abbrev pub IsMade : Effect → Type 0
  IsMade e = IsTrueEffect (history_of program) troupe b.first Called e

  abbrev pub Keeps : {M : Type 0} → Doing M → Type 0
  Keeps d = KeepsTrue (history_of program) troupe b.first Called d

  abbrev pub IsAsking : AskName × Asking → Type 0
  IsAsking e = IsTrueAsking (history_of program) troupe b.first Called e.0 e.1

  -- ---- effects

  -- a call gets the reply of its run
  pub reply_is_made : (sender : Caller) (header : CallHeader) (body : List ℕ) (index : ℕ) (reply : Reply)
      → IsCalled (history_of program) troupe b.first Called sender header body → slice_index header.clock troupe ≡ index
      → IsTrueKept (history_of program) troupe b.first Called (index, reply) → IsReturn (says.Reply reply.clock) → IsMade (answer (reply_message reply) sender)
  reply_is_made sender header body index reply called is kept returns =
      let history = history_of program in
      let run = some_and (run_at history troupe index) (λ r. IsReplyOf r reply) kept in
      let here : IsSomeAnd (run_at history troupe (slice_index header.clock troupe)) (λ r. IsReplyOf r reply) =
      subst (λ i. IsSomeAnd (run_at history troupe i) (λ r. IsReplyOf r reply)) (sym is) kept in
      let true_reply : IsTrueReply history header reply =
      subst (λ s. IsSomeAnd (run_at history s (slice_index header.clock s)) (λ r. IsReplyOf r reply)) (sym called.server) here in
      inl (record {
        header = header;
        body = body;
        called = called;
        reply = reply;
        true_reply = true_reply;
        header_is = is_one_reply reply.clock returns (reply_is_long program agree are troupe index run.0 reply run.1.0 run.1.1);
        message_is = refl;
      })

  -- returns that cite nothing
  pub others_are_made : (message : List ℕ) (callers : List Caller) → IsOtherReturn (history_of program) troupe b.first Called message → All IsMade (answers message callers)
  others_are_made message callers other = All-map IsMade (answer message) callers (λ _ _ _. inr (inr other))

  pub requests_are_made : (k : Knowing) (request : Request) → All IsMade (request_to_ring k request)
  requests_are_made k request = by_test (is_among k.down ringmaster)
    where
      by_test : (down : Bool) → All IsMade (if down then [] else request_call request ∷ [])
      by_test true = All-nil IsMade
      by_test false = All-cons IsMade (request_call request) [] refl (All-nil IsMade)

  module _ {M : Type 0} (m : MemberState M) (sound : IsSound b m) (h : IsNow m) where
    -- ---- calls that come in

    pub true_asked : (header : CallHeader) (body : List ℕ) (sender : Caller) → IsCalled (history_of program) troupe b.first Called sender header body
        → Keeps (step.handle_call m header body sender)
    true_asked header body sender called =
        record {
          member = record {
            own = h.own;
            stands = h.stands;
            began = h.began;
            asks = h.asks;
            held = held_now (is_held (answer_to m.gathered header));
            replies = subst (All Kept) (sym (called_same m.gathered call).1) h.replies;
            requests = h.requests;
            views = subst AreViewsLong (sym (called_views (answer_to m.gathered header) header m.known)) h.views;
          };
          effects = at_once (answer_to m.gathered header) refl;
        }
      where
        Kept : ℕ × Reply → Type 0
        Kept kept = IsTrueKept (history_of program) troupe b.first Called kept

        Held : HeldCall → Type 0
        Held c = IsCalled (history_of program) troupe b.first Called c.sender c.header c.body

        call : HeldCall
        call = record { header = header; body = body; sender = sender }

        held_now : (t : Bool) → let g : Gathered = if t then record m.gathered { held = m.gathered.held ++ call ∷ [] } else m.gathered in All Held g.held
        held_now true = All-push Held m.gathered.held call h.held called
        held_now false = h.held

        at_once : (a : Added) → answer_to m.gathered header ≡ a → All IsMade (answer_at_once a sender)
        at_once (added.Reply reply) is =
            let own : m.gathered.module ≡ troupe = sound.own ∙ h.own in
            let kept = kept_found Kept m.gathered.replies (index_of m.gathered.module header) reply h.replies (kept_reply m.gathered header reply is) in
            let may : IsReturn (says.Reply reply.clock) = (subst MayAnswer is (may_answer m.gathered header sound.replies)).clock in
            All-cons IsMade (answer (reply_message reply) sender) []
            (reply_is_made sender header body (index_of m.gathered.module header) reply called (ap (slice_index header.clock) (sym own)) kept may) (All-nil IsMade)
        at_once (added.Stale required) is = others_are_made (stale_message required) (sender ∷ []) (inl (required, refl))
        at_once (added.Before count) is = others_are_made (before_message count) (sender ∷ []) (inr (inl (count, refl)))
        at_once added.Held is = All-nil IsMade

    pub true_fetched : (incarnation : ℕ) (sender : Caller) → IsFetch (history_of program) troupe b.first Called sender → Keeps (step.handle_fetch m incarnation sender)
    true_fetched incarnation sender fetch =
        let required = (with_required m.gathered incarnation).required in
        record {
          member = record {
            own = h.own;
            stands = h.stands;
            began = h.began;
            asks = h.asks;
            held = All-filter (λ c. not (is_stale m.gathered (max m.gathered.required incarnation) c))
                (λ (c : HeldCall). IsCalled (history_of program) troupe b.first Called c.sender c.header c.body) m.gathered.held h.held;
            replies = h.replies;
            requests = All-push (IsFetch (history_of program) troupe b.first Called) m.requests sender h.requests fetch;
            views = h.views;
          };
          effects = others_are_made (stale_message required) (gathering.stale_answers m.gathered incarnation) (inl (required, refl));
        }

    -- ---- answers to asks

    -- an ask is changed
    changed : (name : AskName) (change : Asking → Asking) → ((a : Asking) → asking_of m.asks name ≡ Some a → IsAsking (name, a) → IsAsking (name, change a))
        → All IsAsking (with_asking name change m.asks)
    changed name change keeps =
        All-changed_at IsAsking name change m.asks
        (λ a there n here. subst (λ (x : AskName). IsAsking (x, change a)) ((names_decide name n).0 here)
        (keeps a there (ask_found IsAsking m.asks name a h.asks there))) h.asks

    -- so is the member with other asks
    with_asks : (asks : List (AskName × Asking)) → All IsAsking asks → IsNow (record m { asks = asks })
    with_asks asks all = record { own = h.own; stands = h.stands; began = h.began; asks = all; held = h.held; replies = h.replies; requests = h.requests; views = h.views }

    pub true_replied : (name : AskName) (from : ℕ) (reply : Reply) → IfSome (asking_of m.asks name) (λ a. Answers (history_of program) troupe b.first Called name reply)
        → Keeps (step.handle_reply m name from reply)
    true_replied name from reply is =
        record { member = with_asks (with_asking name (with_reply from reply) m.asks) (changed name (with_reply from reply) once_said); effects = All-nil IsMade }
      where
        once_said : (a : Asking) → asking_of m.asks name ≡ Some a → IsAsking (name, a) → IsAsking (name, with_reply from reply a)
        once_said a there t =
            let answers : Answers (history_of program) troupe b.first Called name reply =
            subst (λ o. IfSome o (λ x. Answers (history_of program) troupe b.first Called name reply)) there is in
            record {
              named = t.named;
              said = All-push (λ (s : Said Reply). Answers (history_of program) troupe b.first Called name s.value) a.said
                  (record { node = from; value = reply }) t.said answers;
            }

    pub true_before : (name : AskName) (from : ℕ) → Keeps (step.before m name from)
    true_before name from =
        record {
          member = with_asks (with_asking name (with_before from) m.asks)
              (changed name (with_before from) (λ a there t. record { named = t.named; said = t.said }));
          effects = All-nil IsMade;
        }

    -- an open ask may be made again
    ready : (k : Knowing) → IsSound b (record m { known = k }) → AreViewsLong k.views → (name : AskName) (a : Asking) → IsOpenAsk b.declared m.place.troupe (length k.views) a
        → IsAsking (name, a) → IsReady program agree are proper troupe b at b.first Called k name a
    ready k is long name a asked t =
        record { may = may_call b.declared m.place k a is.home asked; client = incarnation_is_long k a.header.client long; named = t.named }

    pub true_stale : (name : AskName) (server from incarnation : ℕ) → Keeps (step.handle_stale m name server from incarnation)
    true_stale name server from incarnation =
        let t = with_asks (with_asking name (after_stale m.known from incarnation) m.asks)
        (changed name (after_stale m.known from incarnation) (λ a there. still a (slice_get m.known.views a.header.server))) in
        record {
          member = record { own = t.own; stands = t.stands; began = t.began; asks = t.asks; held = t.held; replies = t.replies; requests = t.requests; views = t.views };
          effects = again (asking_of m.asks name) refl;
        }
      where
        still : (a : Asking) (o : Option View) → IsAsking (name, a) → IsAsking (name, option_map_or (λ (view : View). with_stale view m.known.down from incarnation a) o a)
        still a None t = t
        still a (Some view) t = record { named = t.named; said = t.said }

        by_view : (a : Asking) → IsReady program agree are proper troupe b at b.first Called m.known name a → (o : Option View) → slice_get m.known.views a.header.server ≡ o
            → All IsMade (option_map_or (λ (view : View). call_for m.known name a (next view m.known.down from incarnation)) o [])
        by_view a may None there = All-nil IsMade
        by_view a may (Some view) there =
            call_for_is_true program agree are proper troupe b at b.first Called m.known name a (next view m.known.down from incarnation) may
            (next_by_view view m.known.down from incarnation (record {
              some = are_views m.known sound.home.incarnations a.header.server view there;
              long = known_is_long m.known.views a.header.server view there h.views;
            }))

        again : (o : Option Asking) → asking_of m.asks name ≡ o → All IsMade (option_map_or (call_again m.known name from incarnation) o [])
        again None there = All-nil IsMade
        again (Some a) there =
            let asked = ask_found (λ (e : AskName × Asking). IsOpenAsk b.declared m.place.troupe (length m.known.views) e.1) m.asks name a sound.asks there in
            by_view a (ready m.known sound h.views name a asked (ask_found IsAsking m.asks name a h.asks there)) (slice_get m.known.views a.header.server) refl

    -- ---- the Ringmaster answers

    -- all asks see a view
    seen : (k : Knowing) (view : View) → All IsAsking (with_new_view k view m.asks)
    seen k view = All-map IsAsking (seen_by_ask k view) m.asks
        (All-weaker IsAsking (λ (e : AskName × Asking). IsAsking (seen_by_ask k view e)) (λ e. by_test e (is_to view.troupe e)) m.asks h.asks)
      where
        by_test : (e : AskName × Asking) (t : Bool) → IsAsking e → IsAsking (if t then (e.0, with_view view k.down e.1) else e)
        by_test e true t = record { named = t.named; said = t.said }
        by_test e false t = t

    -- the record is in another phase
    by_join : (request : Request) (table : Table) → let kept = kept_by_table m.performing.kept request table in
        (is_active kept.phase ≡ true → Stands (history_of program) troupe b.first kept) ×
        (is_active kept.phase ≡ true → m.performing.began ≡ state_after (history_of program) troupe b.first kept.from)
    by_join request table = by_test (is_join request)
      where
        by_test : (t : Bool) → let kept = if t then record m.performing.kept { phase = after_table table m.performing.kept.phase } else m.performing.kept in
            (is_active kept.phase ≡ true → Stands (history_of program) troupe b.first kept) ×
            (is_active kept.phase ≡ true → m.performing.began ≡ state_after (history_of program) troupe b.first kept.from)
        by_test true = (
          λ active. stands_in (history_of program) troupe b.first (after_table table m.performing.kept.phase) m.performing.kept
              (h.stands (tabled_was_active table m.performing.kept.phase active)),
          λ active. h.began (tabled_was_active table m.performing.kept.phase active),
        )
        by_test false = (h.stands, h.began)

    pub true_told : (request : Request) (table : Table) → IsIncarnation table.view.incarnation → IsLong table.view.incarnation → Keeps (step.handle_table m request table)
    true_told request table some long =
        let view = table.view in
        let kept = kept_by_table m.performing.kept request table in
        let phases = by_join request table in
        record {
          member = record {
            own = h.own;
            stands = phases.0;
            began = phases.1;
            asks = asks_now (is_newer m.known view);
            held = h.held;
            replies = h.replies;
            requests = h.requests;
            views = long_now;
          };
          effects = All-append IsMade _ _ (calls_now (is_newer m.known view)) (requests_now (is_taken_in m.performing.kept.phase kept.phase));
        }
      where
        k : Knowing
        k = known_by_table m.known request table.view

        long_now : AreViewsLong k.views
        long_now = told_long (answered_by_ring m.known request table.view.troupe) table.view long
            (subst AreViewsLong (sym (ring_views m.known request table.view.troupe)) h.views)

        asks_now : (t : Bool) → All IsAsking (if t then with_new_view k table.view m.asks else m.asks)
        asks_now true = seen k table.view
        asks_now false = h.asks

        -- it is at home in the views that it knows now
        at_home : IsSound b (record m { known = k })
        at_home =
            let before = answered_by_ring m.known request table.view.troupe in
            let same = ring_views m.known request table.view.troupe in
            let many : length k.views ≡ length m.known.views = told_as_many before table.view ∙ ap length same in
            let ones = told_incarnations before table.view some (subst (λ vs. All (λ (v : View). IsIncarnation v.incarnation) vs) (sym same) sound.home.incarnations) in
            sound_known b m k many (home_with b.declared m.place m.known.views k.views many ones sound.home) sound

        calls_now : (t : Bool) → All IsMade (if t then calls_for_a_new_view k table.view m.asks else [])
        calls_now true =
            let asked = at_home.asks in
            new_view_calls_are_true program agree are proper troupe b at b.first Called k table.view m.asks (record { some = some; long = long })
            (λ i d below. ready k at_home long_now _ _ (asked i d below) (h.asks i d below))
        calls_now false = All-nil IsMade

        requests_now : (t : Bool) → All IsMade (if t then state_requests m.place k.down table.view else [])
        requests_now true =
            All-map IsMade (state_request m.place.troupe table.view.incarnation) (givers m.place.node k.down table.view)
            (λ _ _ _. (table.view.incarnation, ap (λ t. fetch_message t table.view.incarnation) h.own))
        requests_now false = All-nil IsMade

    -- ---- other things that happen

    pub true_declared : (node : ℕ) → Keeps (step.declared_down m node)
    true_declared node =
        record {
          member = record {
            own = h.own;
            stands = h.stands;
            began = h.began;
            asks = h.asks;
            held = h.held;
            replies = h.replies;
            requests = h.requests;
            views = subst AreViewsLong (sym (declared_views m.known node)) h.views;
          };
          effects = by_host (slice_get m.place.troupes node);
        }
      where
        k : Knowing
        k = note_down m.known node

        by_has : (hosted : ℕ) (has : Bool) → All IsMade (if has then request_to_ring k (asks.Gone hosted node) else [])
        by_has hosted true = requests_are_made k (asks.Gone hosted node)
        by_has hosted false = All-nil IsMade

        by_view : (hosted : ℕ) (o : Option View) → All IsMade (option_map_or (λ (v : View). if has_node v node then request_to_ring k (asks.Gone hosted node) else []) o [])
        by_view hosted None = All-nil IsMade
        by_view hosted (Some view) = by_has hosted (has_node view node)

        by_hosted : (o : Option ℕ) → All IsMade (option_map_or (gone_from k node) o [])
        by_hosted None = All-nil IsMade
        by_hosted (Some hosted) = by_view hosted (slice_get k.views hosted)

        by_host : (o : Option (Option ℕ)) → All IsMade (option_map_or (λ hosted. option_map_or (gone_from k node) hosted []) o [])
        by_host None = All-nil IsMade
        by_host (Some hosted) = by_hosted hosted

    pub true_joins : Keeps (step.joins m)
    true_joins =
        record {
          member = record {
            own = h.own;
            stands = λ active. stands_in (history_of program) troupe b.first (after_join m.performing.kept.phase) m.performing.kept
                (h.stands (joining_was_active m.performing.kept.phase active));
            began = λ active. h.began (joining_was_active m.performing.kept.phase active);
            asks = h.asks;
            held = h.held;
            replies = h.replies;
            requests = h.requests;
            views = h.views;
          };
          effects = requests_are_made m.known (asks.Join m.place.troupe m.place.node);
        }

    -- a state comes, which the member has after so many runs
    pub true_restored : (now : ℕ) (state : List ValueTree) (count : ℕ) → IsTrueState (history_of program) troupe b.first count state → Keeps (step.handle_state now m state count)
    true_restored now state count is = by_test (is_fetching m.performing.kept.phase) refl
      where
        by_test : (t : Bool) → is_fetching m.performing.kept.phase ≡ t → let d : Doing M =
            if t then record {
              member = record m { performing = made_active now state count m.performing; gathered = with_first m.gathered count };
              effects = active_call m.place m.known count ++ before_answers m.gathered count;
            } else record { member = m; effects = [] } in Keeps d
        by_test false outside = record { member = h; effects = All-nil IsMade }
        by_test true fetching =
            record {
              member = record {
                own = h.own;
                stands = λ active. active_stands program agree are troupe b at m.performing.kept now state count
                    (sound.kept.inactive (fetching_is_inactive m.performing.kept.phase fetching)) is;
                began = λ active. is.state_is;
                asks = h.asks;
                held = All-filter (λ c. not (is_before m.gathered count c))
                    (λ (c : HeldCall). IsCalled (history_of program) troupe b.first Called c.sender c.header c.body) m.gathered.held h.held;
                replies = h.replies;
                requests = h.requests;
                views = h.views;
              };
              effects = All-append IsMade (active_call m.place m.known count) (before_answers m.gathered count)
                  (requests_are_made m.known (asks.Active m.place.troupe m.place.node count))
                  (others_are_made (before_message count) (gathering.before_answers m.gathered count) (inr (inl (count, refl))));
            }

    -- ---- whatever happens

    pub true_handled : (now : ℕ) (o : Occurrence) → CanHappen b.declared m o → IsTrueOccurrence (history_of program) troupe b.first Called m o → Keeps (handle now o m)
    true_handled now (comes.Asked header body sender) can is = true_asked header body sender is
    true_handled now (comes.Fetched incarnation sender) can is = true_fetched incarnation sender is
    true_handled now (comes.Replied name from reply) can is = true_replied name from reply is
    true_handled now (comes.IsStale name server from incarnation) can is = true_stale name server from incarnation
    true_handled now (comes.IsBefore name from) can is = true_before name from
    true_handled now (comes.Told request table) can is = true_told request table can is
    true_handled now (comes.Restored state count) can is = true_restored now state count is
    true_handled now (comes.Declared node) can is = true_declared node
    true_handled now comes.Joins can is = true_joins
