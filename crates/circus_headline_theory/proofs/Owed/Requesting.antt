-- The calls of a member to the Ringmaster, and for a state, are those that it owes, in their order.
use Rattle.std.proofs.Common.{◌≡◌, ℕ, ◌+◌, ◌<◌, Bool, true, false, ◌&&◌, not, cond, inl, inr, if◌then◌else◌, List, [], ◌∷◌, ◌++◌, map, filter, length, Option, Some, None, refl, sym, ap, ◌∙◌, arith, append-nil}
use Rattle.std.specs.Prelude.{slice_get, slice_set, nat_eq, nat_lt, max, is_none, option_map}
use Rattle.std.specs.List.{flat_map}
use Rattle.std.specs.Option.{option_map_or}
use Rattle.std.proofs.lemmas.List.Elements.{filter-append}
use Rattle.circus_value.specs.Among.{is_among}
use Rattle.circus_value.specs.ValueTree.{ValueTree}
use Rattle.circus_value.specs.declared.caller.Caller.{Caller}
use Rattle.circus_value.specs.declared.outcome.Outcome.{Outcome}
use Rattle.circus_header.specs.declared.call.CallHeader.{CallHeader}
use Rattle.circus_header.specs.declared.call.Request.{Request}
use Rattle.circus_header.specs.declared.call.Request.TheVariants.{Join, Active, Gone}
use Rattle.circus_header.specs.declared.answer.Reply.{Reply}
use Rattle.circus_collate.specs.Expecting.{has_node}
use Rattle.circus_collate.specs.declared.table.Table.{Table}
use Rattle.circus_collate.specs.declared.view.View.{View}
use Rattle.circus_transfer.specs.declared.joiner.Joiner.{Joiner}
use Rattle.circus_model.specs.declared.signature.Signature.{Signature}
use Rattle.circus_model.specs.NextTurn.{NextTurn}
use Rattle.circus_model.specs.Behaviour.{IsModule}
use Rattle.circus_fanout.specs.Knowing as knowing
use Rattle.circus_fanout.specs.Knowing.{Knowing, with_want}
use Rattle.circus_fanout.specs.declared.known.Want.{Want}
use Rattle.circus_gather.specs.Gathering.{index_of, reply_of, answer_to, with_first, stale_answers as stale_callers, before_answers as callers_before}
use Rattle.circus_gather.specs.declared.added.Added.TheVariants as added
use Rattle.circus_gather.specs.declared.held.HeldCall.{HeldCall}
use Rattle.circus_fanout.specs.Asking.{Asking, calls_for_a_view, next}
use Rattle.circus_fanout.specs.declared.send.Next.{Next}
use Rattle.circus_fanout.specs.declared.send.Next.TheVariants as N
use Rattle.circus_performing.specs.Performing.{is_fetching, made_active, taken_in}
use Rattle.circus_performing.specs.Record.{behaviour}
use Rattle.circus_record.specs.declared.record.MemberRecord.{MemberRecord}
use Rattle.circus_member_rules.specs.declared.place.Place.{Place}
use Rattle.circus_member_rules.specs.declared.place.Beginning.{Beginning}
use Rattle.circus_member_rules.specs.declared.place.Beginning.TheVariants.{Founder, Spare}
use Rattle.circus_member_rules.specs.declared.occurrence.AskName.{AskName}
use Rattle.circus_member_rules.specs.declared.occurrence.Effect.{Effect}
use Rattle.circus_member_rules.specs.declared.occurrence.Occurrence.{Occurrence}
use Rattle.circus_member_rules.specs.declared.occurrence.Occurrence.TheVariants as comes
use Rattle.circus_member_rules.specs.Messages.{reply_message, stale_message, before_message}
use Rattle.circus_member_rules.specs.OpenAsks.{asking_of}
use Rattle.circus_member_rules.specs.Rules.{ringmaster, answer, answers, request_call, request_to_ring, message_at_once, answer_at_once, wanted_by_call, call_of_ask, calls_of_ask, call_for, call_again, is_to, calls_for_view, calls_for_a_new_view, givers, state_request, state_requests, gone_from as gone_by, gone_call, lookup_call, active_call, before_answers, snapshots_owed, answers_of_run, index_of_last}
use Rattle.circus_member_rules.specs.Rules as rules
use Rattle.circus_member_rules.specs.Happening.{IsHome}
use Rattle.circus_member_rules.specs.MemberState.{MemberState, Doing}
use Rattle.circus_member_rules.specs.Step as step
use Rattle.circus_member_rules.specs.Step.{is_lookup, is_join, known_by_table, answered_by_ring, is_taken_in, kept_by_table, handle, reply_of_run, name_of_last, asking_begun, opened_by_view, ended_run, is_idle}
use Rattle.circus_member_rules.proofs.Homes.{told_down, ring_down, ring_views, called_views, declared_views}
use Rattle.circus_member_theory.proofs.Resting.{at_boot}
use Rattle.circus_world_theory.proofs.Border.Going.{begun}
use Rattle.circus_member_theory.specs.Past as past
use Rattle.circus_member_theory.specs.Past.{Past, booted, followed, now, views_known, nodes_declared_down, required_incarnation, phase}
use Rattle.circus_member_theory.specs.Requests.{is_request, to_ring, answers_lookup, for_what_came, is_held, wanted_incarnation, is_due, due_from, due, is_unanswered, lookups, requests_owed}
use Rattle.circus_member_theory.specs.Returns.{first_of, reply_by}
use Rattle.circus_headline_theory.specs.Owed.Living.{boots, made_in, made_by}
use Rattle.circus_member_theory.specs.Living.{phase_at_boot, after, MayLive}
use Rattle.circus_member_theory.proofs.Timely.Known.{told_views, called_down, declared_down, known_long}
use Rattle.circus_member_theory.proofs.Timely.Phases.{once_tabled}
use Rattle.circus_headline_theory.proofs.Owed.Booting.{booted_keeps}
use Rattle.circus_headline_theory.proofs.Owed.Going.{Keeps, executed_keeps}
use Rattle.circus_headline_theory.proofs.Owed.Lives.{rises, IsKnown, handles, executes, IsStepped, step_is, known as known_after}
use Rattle.circus_headline_theory.proofs.Owed.Owing.{wanted_same, unanswered_same, requests_same}
use Rattle.circus_headline_theory.proofs.Owed.Status.{reply_is, replies_same}
use Rattle.circus_headline_theory.proofs.Owed.Stays.{is_same, stays_keeps, Stays}
use Rattle.circus_headline_theory.proofs.Owed.Wants.{wants_of, wants_same, changed, with_want_of, asked_all_of}

-- ---- the requests among effects

abbrev asked : List Effect → List Effect
asked effects = filter is_request effects

none_mapped : {X : Type 0} (f : X → Effect) → ((x : X) → is_request (f x) ≡ false) → (xs : List X) → asked (map f xs) ≡ []
none_mapped f no_request [] = refl
none_mapped f no_request (x ∷ xs) = ap (λ b. cond b (f x ∷ asked (map f xs)) (asked (map f xs))) (no_request x) ∙ none_mapped f no_request xs

all_mapped : {X : Type 0} (f : X → Effect) → ((x : X) → is_request (f x) ≡ true) → (xs : List X) → asked (map f xs) ≡ map f xs
all_mapped f requests [] = refl
all_mapped f requests (x ∷ xs) = ap (λ b. cond b (f x ∷ asked (map f xs)) (asked (map f xs))) (requests x) ∙ ap (λ l. f x ∷ l) (all_mapped f requests xs)

none_flat_mapped : {X : Type 0} (f : X → List Effect) → ((x : X) → asked (f x) ≡ []) → (xs : List X) → asked (flat_map f xs) ≡ []
none_flat_mapped f none [] = refl
none_flat_mapped f none (x ∷ xs) = filter-append is_request (f x) (flat_map f xs) ∙ ap (λ l. l ++ asked (flat_map f xs)) (none x) ∙ none_flat_mapped f none xs

-- those among all that was made
abbrev pub asked_by : List (ℕ × Effect) → List (ℕ × Effect)
asked_by made = filter (λ (e : ℕ × Effect). is_request e.1) made

asked_in : (at : ℕ) (effects : List Effect) → asked_by (made_in at effects) ≡ made_in at (asked effects)
asked_in at [] = refl
asked_in at (x ∷ xs) = by_test (asked_in at xs) (is_request x)
  where
    by_test : asked_by (made_in at xs) ≡ made_in at (asked xs) → (b : Bool) → cond b ((at, x) ∷ asked_by (made_in at xs)) (asked_by (made_in at xs)) ≡ made_in at (cond b (x ∷ asked xs) (asked xs))
    by_test rest true = ap (λ l. (at, x) ∷ l) rest
    by_test rest false = rest

-- requests to the Ringmaster are all requests
ring_asked : (gone_nodes : List ℕ) (request : Request) → asked (to_ring gone_nodes request) ≡ to_ring gone_nodes request
ring_asked gone_nodes request = by_test (is_among gone_nodes ringmaster)
  where
    by_test : (b : Bool) → asked (if b then [] else request_call request ∷ []) ≡ (if b then [] else request_call request ∷ [])
    by_test true = refl
    by_test false = refl

-- ---- the execution makes none

module _ {M : Type 0} (declared : M → Signature) (turn : M → List ValueTree → ℕ → List ValueTree → List Outcome → NextTurn) (first : M → List ValueTree) (lawful : (hosted : M) → IsModule (behaviour declared turn first hosted)) (at : ℕ) (old : List Effect) where
  abbrev pub AreAsked : Doing M → Type 0
  AreAsked d = asked d.effects ≡ old

  more_answers : (effects : List Effect) (message : List ℕ) (xs : List Caller) → asked (effects ++ answers message xs) ≡ asked effects
  more_answers effects message xs =
      filter-append is_request effects (answers message xs) ∙ ap (λ l. asked effects ++ l) (none_mapped (answer message) (λ x. refl) xs) ∙ append-nil (asked effects)

  pub asked_keeps : Keeps declared turn first lawful at AreAsked AreAsked
  asked_keeps =
      record {
        gives = λ d sound idle h. more_answers d.effects _ d.member.requests ∙ h;
        enters = λ d start sound may none h. h;
        answers = λ d reply sound value h. h;
        opens = λ d run ask view turned at is there h. opens d (name_of_last d.member.performing.kept) (asking_begun d.member.place d.member.performing.kept run ask) view ∙ h;
        ends = λ d run turned at none h. more_answers d.effects _ _ ∙ h;
      }
    where
      opens : (d : Doing M) (name : AskName) (a : Asking) (view : View) → asked (opened_by_view d name a view).effects ≡ asked d.effects
      opens d name a view =
          let sends = calls_for_a_view view d.member.known.down [] in
          filter-append is_request d.effects (calls_of_ask d.member.known name a sends)
          ∙ ap (λ l. asked d.effects ++ l) (none_mapped (call_of_ask d.member.known name a) (λ s. refl) sends)
          ∙ append-nil (asked d.effects)

-- ---- what comes makes these

module _ {M : Type 0} (m : MemberState M) where
  no_answer : (o : Option (List ℕ)) (sender : Caller) → asked (option_map_or (λ message. answer message sender ∷ []) o []) ≡ []
  no_answer None sender = refl
  no_answer (Some message) sender = refl

  no_call_again : (k : Knowing) (name : AskName) (from incarnation : ℕ) (o : Option Asking) → asked (option_map_or (call_again k name from incarnation) o []) ≡ []
  no_call_again k name from incarnation None = refl
  no_call_again k name from incarnation (Some a) = by_view (slice_get k.views a.header.server)
    where
      by_next : (n : Next) → asked (call_for k name a n) ≡ []
      by_next (N.Send send) = refl
      by_next (N.Lookup incarnation_wanted) = refl
      by_next N.Leave = refl

      by_view : (o : Option View) → asked (option_map_or (λ view. call_for k name a (next view k.down from incarnation)) o []) ≡ []
      by_view None = refl
      by_view (Some view) = by_next (next view k.down from incarnation)

  no_new_call : (k : Knowing) (view : View) (asks : List (AskName × Asking)) → asked (calls_for_a_new_view k view asks) ≡ []
  no_new_call k view asks =
      none_flat_mapped (calls_for_view k view) (λ x. none_mapped (call_of_ask k x.0 x.1) (λ s. refl) (calls_for_a_view view k.down x.1.asked)) (filter (is_to view.troupe) asks)

  told_asked : (request : Request) (table : Table) → let k = known_by_table m.known request table.view in
      asked (step.handle_table m request table).effects
      ≡ (if is_taken_in m.performing.kept.phase (kept_by_table m.performing.kept request table).phase then state_requests m.place k.down table.view else [])
  told_asked request table =
      let k = known_by_table m.known request table.view in
      let newer = calls_for_a_new_view k table.view m.asks in
      let states = state_requests m.place k.down table.view in
      by_tests (knowing.is_newer m.known table.view) (is_taken_in m.performing.kept.phase (kept_by_table m.performing.kept request table).phase) newer states
      (no_new_call k table.view m.asks) (all_mapped (state_request m.place.troupe table.view.incarnation) (λ n. refl) (givers m.place.node k.down table.view))
    where
      by_tests : (a b : Bool) (xs ys : List Effect) → asked xs ≡ [] → asked ys ≡ ys → asked ((if a then xs else []) ++ (if b then ys else [])) ≡ (if b then ys else [])
      by_tests true true xs ys none all = filter-append is_request xs ys ∙ ap (λ l. l ++ asked ys) none ∙ all
      by_tests true false xs ys none all = filter-append is_request xs [] ∙ ap (λ l. l ++ []) none
      by_tests false true xs ys none all = all
      by_tests false false xs ys none all = refl

-- Gone, by views and those that are down
abbrev gone_of : List View → List ℕ → Place → ℕ → List Effect
gone_of views gone_nodes place node =
    option_map_or
    (λ hosted. option_map_or (λ troupe. option_map_or (λ (v : View). if has_node v node then to_ring gone_nodes (Gone troupe node) else []) (slice_get views troupe) []) hosted [])
    (slice_get place.troupes node)
    []

gone_asked : (views : List View) (gone_nodes : List ℕ) (place : Place) (node : ℕ) → asked (gone_of views gone_nodes place node) ≡ gone_of views gone_nodes place node
gone_asked views gone_nodes place node = by_host (slice_get place.troupes node)
  where
    by_view : (troupe : ℕ) (o : Option View) → let xs = option_map_or (λ (v : View). if has_node v node then to_ring gone_nodes (Gone troupe node) else []) o [] in asked xs ≡ xs
    by_view troupe None = refl
    by_view troupe (Some v) = by_test (has_node v node)
      where
        by_test : (b : Bool) → let xs = if b then to_ring gone_nodes (Gone troupe node) else [] in asked xs ≡ xs
        by_test true = ring_asked gone_nodes (Gone troupe node)
        by_test false = refl

    by_hosted : (o : Option ℕ) → let xs = option_map_or (λ troupe. option_map_or (λ (v : View). if has_node v node then to_ring gone_nodes (Gone troupe node) else []) (slice_get views troupe) []) o [] in asked xs ≡ xs
    by_hosted None = refl
    by_hosted (Some troupe) = by_view troupe (slice_get views troupe)

    by_host : (o : Option (Option ℕ)) → let xs = option_map_or (λ hosted. option_map_or (λ troupe. option_map_or (λ (v : View). if has_node v node then to_ring gone_nodes (Gone troupe node) else []) (slice_get views troupe) []) hosted []) o [] in asked xs ≡ xs
    by_host None = refl
    by_host (Some hosted) = by_hosted hosted

-- ---- what is known

told_wants : (k : Knowing) (view : View) → (knowing.note_view k view).wants ≡ k.wants
told_wants k view = by_test (knowing.is_newer k view)
  where
    by_test : (b : Bool) → let x : Knowing = if b then record k { views = slice_set k.views view.troupe view } else k in x.wants ≡ k.wants
    by_test true = refl
    by_test false = refl

declared_wants : (k : Knowing) (node : ℕ) → (knowing.note_down k node).wants ≡ k.wants
declared_wants k node = by_test (is_among k.down node)
  where
    by_test : (b : Bool) → let x : Knowing = if b then k else record k { down = k.down ++ node ∷ [] } in x.wants ≡ k.wants
    by_test true = refl
    by_test false = refl

-- ---- tests

and_true : (b : Bool) → (b && true) ≡ b
and_true true = refl
and_true false = refl

and_false : (b : Bool) → (b && false) ≡ false
and_false true = refl
and_false false = refl

-- what is wanted of a troupe
abbrev want : ℕ → Bool → Want
want incarnation is_asked = record { incarnation = incarnation; asked = is_asked }

none_either : {A B : Type 0} (f : A → B) (o : Option A) → is_none (option_map f o) ≡ is_none o
none_either f None = refl
none_either f (Some a) = refl

-- a call that is held makes its client's view wanted
held_wants : (stale before : Bool) (reply : Option Reply) (needed from : ℕ) (header : CallHeader) (k : Knowing)
    → (wanted_by_call (if stale then added.Stale needed else if before then added.Before from else option_map_or added.Reply reply added.Held) header k).wants
    ≡ (if not stale && not before && is_none reply then (knowing.want_view k header.client header.client_incarnation).wants else k.wants)
held_wants true before reply needed from header k = refl
held_wants false true reply needed from header k = refl
held_wants false false None needed from header k = refl
held_wants false false (Some reply) needed from header k = refl

module _ {M : Type 0} (declared : M → Signature) (turn : M → List ValueTree → ℕ → List ValueTree → List Outcome → NextTurn) (first : M → List ValueTree) (lawful : (hosted : M) → IsModule (behaviour declared turn first hosted)) (place : Place) (views : List View) (beginning : Beginning) (hosted : M) where
  abbrev makes : Past → List (ℕ × Effect)
  makes p = made_by declared turn first place views beginning hosted p

  abbrev start : Joiner
  start = phase_at_boot beginning

  abbrev life : Past → MemberState M
  life p = after declared turn first place views beginning hosted p

  abbrev kept_after : Past → MemberRecord
  kept_after p = (life p).performing.kept

  -- what is wanted of a troupe behind a past, by a record
  abbrev want_at : MemberRecord → Past → ℕ → Want
  want_at kept p t = want (wanted_incarnation place views start kept t p) (is_unanswered place views start kept p t)

  -- what a member knows, and what it has asked for
  pub record Requests (p : Past) : Type 0 where
    pub views_are : (life p).known.views ≡ views_known views p
    pub downs : (life p).known.down ≡ nodes_declared_down p
    pub wants : (life p).known.wants ≡ wants_of (want_at (kept_after p) p) 0 views
    pub made : asked_by (makes p) ≡ requests_owed place views start (kept_after p) p

  module _ (home : IsHome (declared hosted) place views) where
    module _ (p : Past) (at : ℕ) (may_p : MayLive declared turn first place views beginning hosted p) (r : Requests p) (new : MemberRecord) where
      abbrev m : MemberState M
      m = life p

      h : IsKnown declared turn first lawful place views beginning hosted p m
      h = known_after declared turn first lawful place views beginning hosted home p may_p

      -- a Lookup for a troupe that waits for its answer behind what comes
      abbrev left : Occurrence → ℕ → Bool
      left o t = is_unanswered place views start new p t && not (answers_lookup o t)

      abbrev left_at : Occurrence → ℕ → Want
      left_at o t = want (wanted_incarnation place views start new t (followed p at o)) (left o t)

      -- as it is handled
      pub record Handles (o : Occurrence) : Type 0 where
        pub views_are : (handle at o m).member.known.views ≡ views_known views (followed p at o)
        pub downs : (handle at o m).member.known.down ≡ nodes_declared_down (followed p at o)
        pub wants : (handle at o m).member.known.wants ≡ wants_of (left_at o) 0 views
        pub made : asked (handle at o m).effects ≡ for_what_came place views start (followed p at o)

      module _ (was : m.known.wants ≡ wants_of (want_at new p) 0 views) (replies : (call : HeldCall) → reply_by place.troupe start new call p ≡ option_map reply_message (reply_of m.gathered (index_of place.troupe call.header))) where
        wants_stay : wants_of (want_at new p) 0 views ≡ wants_of (λ t. want (wanted_incarnation place views start new t p) (is_unanswered place views start new p t && true)) 0 views
        wants_stay =
            wants_same (want_at new p) (λ t. want (wanted_incarnation place views start new t p) (is_unanswered place views start new p t && true))
            (λ t. ap (want (wanted_incarnation place views start new t p)) (sym (and_true (is_unanswered place views start new p t)))) 0 views

        -- calls that count for nothing here
        handles_asked : (header : CallHeader) (body : List ℕ) (sender : Caller) → Handles (comes.Asked header body sender)
        handles_asked header body sender =
            record {
              views_are = called_views (answer_to m.gathered header) header m.known ∙ r.views_are;
              downs = called_down (answer_to m.gathered header) header m.known ∙ r.downs;
              wants = held_wants (nat_lt header.server_incarnation m.gathered.required) (nat_lt (index_of m.gathered.module header) m.gathered.from) (reply_of m.gathered (index_of m.gathered.module header)) m.gathered.required m.gathered.from header m.known
                  ∙ ap (λ b. if b then (knowing.want_view m.known header.client header.client_incarnation).wants else m.known.wants) held
                  ∙ by_test (is_held place views start new p call);
              made = no_answer m (message_at_once (answer_to m.gathered header)) sender;
            }
          where
            call : HeldCall
            call = record { header = header; body = body; sender = sender }

            held : (not (nat_lt header.server_incarnation m.gathered.required) && not (nat_lt (index_of m.gathered.module header) m.gathered.from) && is_none (reply_of m.gathered (index_of m.gathered.module header))) ≡ is_held place views start new p (record { header = header; body = body; sender = sender })
            held =
                let own : m.gathered.module ≡ place.troupe = h.sound.own ∙ ap (λ (x : Place). x.troupe) h.stands in
                (λ j. not (nat_lt header.server_incarnation (h.knows.requires j)) && not (nat_lt (index_of (own j) header) ((h.knows.from ∙ ap first_of h.knows.phase_is) j)) && is_none (reply_of m.gathered (index_of (own j) header)))
                ∙ ap (λ b. not (nat_lt header.server_incarnation (required_incarnation p)) && not (nat_lt (index_of place.troupe header) (first_of (phase start p))) && b)
                (sym (none_either reply_message (reply_of m.gathered (index_of place.troupe header))) ∙ sym (ap is_none (replies (record { header = header; body = body; sender = sender }))))

            by_test : (b : Bool) → (if b then (knowing.want_view m.known header.client header.client_incarnation).wants else m.known.wants)
                ≡ wants_of (λ t. want (if b && nat_eq t header.client then max (wanted_incarnation place views start new t p) header.client_incarnation else wanted_incarnation place views start new t p) (is_unanswered place views start new p t && true)) 0 views
            by_test false = was ∙ wants_stay
            by_test true =
                let change : Want → Want = λ w. want (max w.incarnation header.client_incarnation) w.asked in
                ap (λ ws. with_want change ws header.client) was
                ∙ with_want_of change (want_at new p) 0 header.client header.client views (omega arith)
                ∙ wants_same (changed change header.client (want_at new p)) _ (λ t. each t (nat_eq t header.client)) 0 views
              where
                each : (t : ℕ) (b : Bool) → (if b then want (max (wanted_incarnation place views start new t p) header.client_incarnation) (is_unanswered place views start new p t) else want_at new p t)
                    ≡ want (if b then max (wanted_incarnation place views start new t p) header.client_incarnation else wanted_incarnation place views start new t p) (is_unanswered place views start new p t && true)
                each t true = ap (want (max (wanted_incarnation place views start new t p) header.client_incarnation)) (sym (and_true (is_unanswered place views start new p t)))
                each t false = ap (want (wanted_incarnation place views start new t p)) (sym (and_true (is_unanswered place views start new p t)))

        handles_stale : (name : AskName) (server from incarnation : ℕ) → Handles (comes.IsStale name server from incarnation)
        handles_stale name server from incarnation =
            let change : Want → Want = λ w. want (max w.incarnation incarnation) w.asked in
            record {
              views_are = r.views_are;
              downs = r.downs;
              wants = ap (λ ws. with_want change ws server) was
                  ∙ with_want_of change (want_at new p) 0 server server views (omega arith)
                  ∙ wants_same (changed change server (want_at new p)) (left_at (comes.IsStale name server from incarnation)) (λ t. each t (nat_eq t server)) 0 views;
              made = no_call_again m m.known name from incarnation (asking_of m.asks name);
            }
          where
            each : (t : ℕ) (b : Bool) → (if b then want (max (wanted_incarnation place views start new t p) incarnation) (is_unanswered place views start new p t) else want_at new p t)
                ≡ want (if b then max (wanted_incarnation place views start new t p) incarnation else wanted_incarnation place views start new t p) (is_unanswered place views start new p t && true)
            each t true = ap (want (max (wanted_incarnation place views start new t p) incarnation)) (sym (and_true (is_unanswered place views start new p t)))
            each t false = ap (want (wanted_incarnation place views start new t p)) (sym (and_true (is_unanswered place views start new p t)))

        handles_told : (request : Request) (table : Table) → Handles (comes.Told request table)
        handles_told request table =
            let k = answered_by_ring m.known request table.view.troupe in
            let down_same : (knowing.note_view k table.view).down ≡ nodes_declared_down p = told_down k table.view ∙ ring_down m.known request table.view.troupe ∙ r.downs in
            record {
              views_are = told_views k table.view ∙ ap (λ vs. past.with_view vs table.view) (ring_views m.known request table.view.troupe ∙ r.views_are);
              downs = down_same;
              wants = told_wants k table.view ∙ by_lookup (is_lookup request);
              made = told_asked m request table ∙ (λ j. if taken j then state_requests (h.stands j) (down_same j) table.view else []);
            }
          where
            by_lookup : (b : Bool) → let k : Knowing = if b then knowing.note_answer m.known table.view.troupe else m.known in
                k.wants ≡ wants_of (λ t. want (wanted_incarnation place views start new t p) (is_unanswered place views start new p t && not (b && nat_eq t table.view.troupe))) 0 views
            by_lookup false = was ∙ wants_stay
            by_lookup true =
                let change : Want → Want = λ w. want w.incarnation false in
                ap (λ ws. with_want change ws table.view.troupe) was
                ∙ with_want_of change (want_at new p) 0 table.view.troupe table.view.troupe views (omega arith)
                ∙ wants_same (changed change table.view.troupe (want_at new p)) _ (λ t. each t (nat_eq t table.view.troupe)) 0 views
              where
                each : (t : ℕ) (b : Bool) → (if b then want (wanted_incarnation place views start new t p) false else want_at new p t) ≡ want (wanted_incarnation place views start new t p) (is_unanswered place views start new p t && not b)
                each t true = ap (want (wanted_incarnation place views start new t p)) (sym (and_false (is_unanswered place views start new p t)))
                each t false = ap (want (wanted_incarnation place views start new t p)) (sym (and_true (is_unanswered place views start new p t)))

            by_join : (b : Bool) (j : Joiner) → let kept : MemberRecord = if b then taken_in table (record m.performing.kept { phase = j }) else record m.performing.kept { phase = j } in
                kept.phase ≡ (if b && past.is_asking j then past.taken_in table else j)
            by_join true j = once_tabled table j
            by_join false j = refl

            phase_then : (kept_by_table m.performing.kept request table).phase ≡ phase start (followed p at (comes.Told request table))
            phase_then = by_join (is_join request) m.performing.kept.phase ∙ ap (λ j. if is_join request && past.is_asking j then past.taken_in table else j) h.knows.phase_is

            taken : is_taken_in m.performing.kept.phase (kept_by_table m.performing.kept request table).phase
                ≡ (not (is_fetching (phase start p)) && is_fetching (phase start (followed p at (comes.Told request table))))
            taken = λ j. not (is_fetching (h.knows.phase_is j)) && is_fetching (phase_then j)

        handles_restored : (state : List ValueTree) (count : ℕ) → Handles (comes.Restored state count)
        handles_restored state count =
            let both = by_test (is_fetching m.performing.kept.phase) refl in
            record {
              views_are = ap (λ (k : Knowing). k.views) both.0 ∙ r.views_are;
              downs = ap (λ (k : Knowing). k.down) both.0 ∙ r.downs;
              wants = ap (λ (k : Knowing). k.wants) both.0 ∙ was ∙ wants_stay;
              made = both.1;
            }
          where
            by_test : (b : Bool) → is_fetching m.performing.kept.phase ≡ b
                → let d : Doing M = if b then record { member = record m { performing = made_active at state count m.performing; gathered = with_first m.gathered count }; effects = active_call m.place m.known count ++ before_answers m.gathered count } else record { member = m; effects = [] }
                in (d.member.known ≡ m.known) × (asked d.effects ≡ (if is_fetching (phase start p) then to_ring (nodes_declared_down p) (Active place.troupe place.node count) else []))
            by_test true is = (
              refl,
              filter-append is_request (active_call m.place m.known count) (before_answers m.gathered count)
                  ∙ ap (λ l. asked (active_call m.place m.known count) ++ l) (none_mapped (answer (before_message count)) (λ x. refl) (callers_before m.gathered count))
                  ∙ append-nil (asked (active_call m.place m.known count))
                  ∙ ring_asked m.known.down (Active m.place.troupe m.place.node count)
                  ∙ (λ j. to_ring (r.downs j) (Active (h.stands j).troupe (h.stands j).node count))
                  ∙ sym (ap (λ b. if b then to_ring (nodes_declared_down p) (Active place.troupe place.node count) else []) (ap is_fetching (sym h.knows.phase_is) ∙ is)),
            )
            by_test false is = (refl, sym (ap (λ b. if b then to_ring (nodes_declared_down p) (Active place.troupe place.node count) else []) (ap is_fetching (sym h.knows.phase_is) ∙ is)))

        handles_declared : (node : ℕ) → Handles (comes.Declared node)
        handles_declared node =
            let k = knowing.note_down m.known node in
            let views_same : k.views ≡ views_known views p = declared_views m.known node ∙ r.views_are in
            let downs_same : k.down ≡ nodes_declared_down (followed p at (comes.Declared node)) = declared_down m.known node ∙ (λ j. if is_among (r.downs j) node then r.downs j else r.downs j ++ node ∷ []) in
            record {
              views_are = views_same;
              downs = downs_same;
              wants = declared_wants m.known node ∙ was ∙ wants_stay;
              made = gone_asked k.views k.down m.place node ∙ (λ j. gone_of (views_same j) (downs_same j) (h.stands j) node);
            }

        pub handles_all : (o : Occurrence) → Handles o
        handles_all (comes.Asked header body sender) = handles_asked header body sender
        handles_all (comes.Fetched incarnation sender) =
            record {
              views_are = r.views_are;
              downs = r.downs;
              wants = was ∙ wants_stay;
              made = none_mapped (answer (stale_message (max m.gathered.required incarnation))) (λ x. refl) (stale_callers m.gathered incarnation);
            }
        handles_all (comes.Replied name from reply) = record { views_are = r.views_are; downs = r.downs; wants = was ∙ wants_stay; made = refl }
        handles_all (comes.IsStale name server from incarnation) = handles_stale name server from incarnation
        handles_all (comes.IsBefore name from) = record { views_are = r.views_are; downs = r.downs; wants = was ∙ wants_stay; made = refl }
        handles_all (comes.Told request table) = handles_told request table
        handles_all (comes.Restored state count) = handles_restored state count
        handles_all (comes.Declared node) = handles_declared node
        handles_all comes.Joins =
            record {
              views_are = r.views_are;
              downs = r.downs;
              wants = was ∙ wants_stay;
              made = ring_asked m.known.down (Join m.place.troupe m.place.node) ∙ (λ j. to_ring (r.downs j) (Join (h.stands j).troupe (h.stands j).node));
            }

    -- ---- a step

    module _ (p : Past) (at : ℕ) (o : Occurrence) (may : MayLive declared turn first place views beginning hosted (followed p at o)) (r : Requests p) where
      abbrev q : Past
      q = followed p at o

      abbrev now_kept : MemberRecord
      now_kept = kept_after q

      abbrev d : Doing M
      d = handles declared turn first lawful place views beginning hosted p at o

      abbrev e : Doing M
      e = executes declared turn first lawful place views beginning hosted p at o

      known_p : IsKnown declared turn first lawful place views beginning hosted p (life p)
      known_p = known_after declared turn first lawful place views beginning hosted home p may.0

      s : IsStepped declared turn first lawful place views beginning hosted p at o
      s = step_is declared turn first lawful place views beginning hosted home p at o may known_p

      -- before the step the record that has grown says the same
      replies_then : (call : HeldCall) (x : Past) → now x < at → reply_by place.troupe start (kept_after p) call x ≡ reply_by place.troupe start now_kept call x
      replies_then call x below =
          replies_same at (kept_after p) now_kept s.grown (elim s.carried.start [ inl same ↦ inl (s.same.start ∙ same) | inr none ↦ inr none ]) (index_of place.troupe call.header) x below

      wants_then : (life p).known.wants ≡ wants_of (want_at now_kept p) 0 views
      wants_then =
          let rise = rises declared turn first lawful place views beginning hosted p may.0 in
          r.wants ∙ wants_same (want_at (kept_after p) p) (want_at now_kept p)
          (λ t j. want (wanted_same place views start (kept_after p) now_kept at replies_then t p rise may.1 j) (unanswered_same place views start (kept_after p) now_kept at replies_then t p rise may.1 j)) 0 views

      reply_then : (call : HeldCall) → reply_by place.troupe start now_kept call p ≡ option_map reply_message (reply_of (life p).gathered (index_of place.troupe call.header))
      reply_then call =
          let m = life p in
          sym (replies_then call p may.1)
          ∙ reply_is (behaviour declared turn first m.performing.hosted) m.performing.began m.gathered m.performing.kept known_p.sound.kept known_p.linked p known_p.within place.troupe start call

      pub handled_so : Handles p at may.0 r now_kept o
      handled_so = handles_all p at may.0 r now_kept wants_then reply_then o

      -- the Lookups
      due_is : (n : ℕ) (vs bs : List View) → length vs ≡ length bs → knowing.due_from n vs (wants_of (left_at p at may.0 r now_kept o) n bs) ≡ due_from place views start now_kept (left p at may.0 r now_kept o) q n vs
      due_is n [] bs long = refl
      due_is n (v ∷ vs) [] long = absurd (omega (arith, long))
      due_is n (v ∷ vs) (b ∷ bs) long =
          ap (λ l. (if is_due place views start now_kept (left p at may.0 r now_kept o) q n v then n ∷ [] else []) ++ l) (due_is (n + 1) vs bs (omega (arith, long)))

      pub lookups_are : knowing.lookups e.member.known ringmaster ≡ due place views start now_kept (left p at may.0 r now_kept o) q
      lookups_are =
          (λ j. knowing.lookups (s.same.known j) ringmaster)
          ∙ (λ j. if is_among (handled_so.downs j) ringmaster then [] else knowing.due_from 0 (handled_so.views_are j) (handled_so.wants j))
          ∙ ap (λ l. if is_among (nodes_declared_down q) ringmaster then [] else l) (due_is 0 (views_known views q) views (known_long views q))

      requests_then : Requests q
      requests_then =
          let troupes = due place views start now_kept (left p at may.0 r now_kept o) q in
          let made = executed_keeps declared turn first lawful at (AreAsked declared turn first lawful at (asked d.effects)) (AreAsked declared turn first lawful at (asked d.effects)) (asked_keeps declared turn first lawful at (asked d.effects)) d s.sound refl in
          let effects : asked (step.step_member declared turn at o (life p)).effects ≡ for_what_came place views start q ++ lookups place views start now_kept q =
          filter-append is_request e.effects (rules.lookups e.member.known)
          ∙ (λ j. (made ∙ handled_so.made) j ++ asked (map lookup_call (lookups_are j)))
          ∙ ap (λ l. for_what_came place views start q ++ l) (all_mapped lookup_call (λ t. refl) troupes) in
          record {
            views_are = ap (λ (k : Knowing). k.views) s.same.known ∙ handled_so.views_are;
            downs = ap (λ (k : Knowing). k.down) s.same.known ∙ handled_so.downs;
            wants = (λ j. knowing.asked_all ((ap (λ (k : Knowing). k.wants) s.same.known ∙ handled_so.wants) j) (lookups_are j))
                ∙ asked_all_of (left_at p at may.0 r now_kept o) troupes views;
            made = filter-append (λ (x : ℕ × Effect). is_request x.1) (makes p) (made_in at (step.step_member declared turn at o (life p)).effects)
                ∙ (λ j. (r.made ∙ requests_same place views start (kept_after p) now_kept at replies_then p (rises declared turn first lawful place views beginning hosted p may.0) may.1) j
                ++ (asked_in at (step.step_member declared turn at o (life p)).effects ∙ ap (made_in at) effects) j);
          }

    -- ---- over a past

    asked_before : (b : Beginning) → AreAsked declared turn first lawful 0 [] (begun (at_boot declared turn first lawful place views hosted home b))
    asked_before Founder = refl
    asked_before Spare = refl

    wants_before : (vs : List View) (n : ℕ) → map knowing.no_want vs ≡ wants_of (λ t. want 0 false) n vs
    wants_before [] n = refl
    wants_before (v ∷ vs) n = ap (λ ws. want 0 false ∷ ws) (wants_before vs (n + 1))

    known_before : (b : Beginning) → (at_boot declared turn first lawful place views hosted home b).known ≡ knowing.at_boot views
    known_before Founder = refl
    known_before Spare = refl

    pub asked_all : (p : Past) → MayLive declared turn first place views beginning hosted p → Requests p
    asked_all booted may =
        let m = at_boot declared turn first lawful place views hosted home beginning in
        let none = booted_keeps declared turn first lawful place views hosted home (AreAsked declared turn first lawful 0 []) (AreAsked declared turn first lawful 0 []) (asked_keeps declared turn first lawful 0 []) beginning (asked_before beginning) in
        let same = booted_keeps declared turn first lawful place views hosted home (Stays declared turn first lawful 0 m) (Stays declared turn first lawful 0 m) (stays_keeps declared turn first lawful 0 m) beginning (is_same m) in
        let is = same.known ∙ known_before beginning in
        record {
          views_are = ap (λ (k : Knowing). k.views) is;
          downs = ap (λ (k : Knowing). k.down) is;
          wants = ap (λ (k : Knowing). k.wants) is ∙ wants_before views 0;
          made = asked_in 0 (boots declared turn first place views beginning hosted).effects ∙ ap (made_in 0) none;
        }
    asked_all (followed p at o) may = requests_then p at o may (asked_all p may.0)
