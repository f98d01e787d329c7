-- The calls of a member's asks are those that it owes, in their order.
use Rattle.std.proofs.Common.{◌≡◌, ℕ, ◌+◌, ◌-◌, ◌<◌, ◌≤◌, Bool, true, false, ◌&&◌, ◌||◌, not, ◌⊎◌, inl, inr, cond, if◌then◌else◌, List, [], ◌∷◌, ◌++◌, filter, length, All, Option, Some, None, refl, sym, ap, subst, ◌∙◌, arith, append-nil, length-append}
use Rattle.std.specs.Prelude.{slice_get, slice_index_or, fold, nat_le, IfSome, is_some, max}
use Rattle.std.specs.List.{flat_map, list_any}
use Rattle.std.specs.Option.{option_map_or}
use Rattle.std.proofs.lemmas.Bool.{le-leb, lt-leb, eq-eqb, ne_eqb}
use Rattle.std.proofs.lemmas.List.Elements.{All-nil, All-weaker, filter-append}
use Rattle.std.proofs.lemmas.Option.{slice_get-get_or}
use Rattle.circus_value.specs.Among.{is_among}
use Rattle.circus_value.specs.ValueTree.{ValueTree}
use Rattle.circus_value.specs.declared.caller.Caller.{Caller}
use Rattle.circus_value.specs.declared.outcome.Outcome.{Outcome}
use Rattle.circus_header.specs.declared.call.Request.{Request}
use Rattle.circus_header.specs.declared.call.Request.TheVariants.{Join, Active, Gone}
use Rattle.circus_collate.specs.Expecting.{has_node}
use Rattle.circus_collate.specs.declared.table.Table.{Table}
use Rattle.circus_collate.specs.declared.view.View.{View}
use Rattle.circus_model.specs.Execution.{is_spent}
use Rattle.circus_model.specs.declared.signature.Signature.{Signature}
use Rattle.circus_model.specs.NextTurn.{NextTurn}
use Rattle.circus_model.specs.Behaviour.{Behaviour, IsModule}
use Rattle.circus_record.specs.declared.record.AskRecord.{AskRecord}
use Rattle.circus_record.specs.declared.record.MemberRecord.{MemberRecord}
use Rattle.circus_record.specs.declared.record.RunRecord.{RunRecord}
use Rattle.circus_fanout.specs.Knowing as knowing
use Rattle.circus_fanout.specs.Knowing.{Knowing}
use Rattle.circus_gather.specs.Gathering.{Gathered, answer_to, with_first, stale_answers as stale_callers, before_answers as callers_before}
use Rattle.circus_fanout.specs.Asking.{Asking, calls_for_a_view, next}
use Rattle.circus_fanout.specs.declared.send.Next.{Next}
use Rattle.circus_fanout.specs.declared.send.Next.TheVariants as N
use Rattle.circus_performing.specs.Performing.{last_of, made_ask, answered_ask, is_fetching, made_active, clock_after}
use Rattle.circus_performing.specs.Record.{behaviour, HaveEnded, IsRecord}
use Rattle.circus_performing.proofs.Ends.{last_more}
use Rattle.circus_member_rules.specs.declared.place.Place.{Place}
use Rattle.circus_member_rules.specs.declared.place.Beginning.{Beginning}
use Rattle.circus_member_rules.specs.declared.place.Beginning.TheVariants.{Founder, Spare}
use Rattle.circus_member_rules.specs.declared.occurrence.AskName.{AskName}
use Rattle.circus_member_rules.specs.declared.occurrence.Effect.{Effect}
use Rattle.circus_member_rules.specs.declared.occurrence.Occurrence.{Occurrence}
use Rattle.circus_member_rules.specs.declared.occurrence.Occurrence.TheVariants as comes
use Rattle.circus_member_rules.specs.Messages.{stale_message, before_message}
use Rattle.circus_member_rules.specs.OpenAsks.{is_name, asking_of, with_asking}
use Rattle.circus_member_rules.specs.Rules as rules
use Rattle.circus_member_rules.specs.Rules.{ringmaster, answer, request_call, request_to_ring, message_at_once, call_of_ask, call_for, call_again, after_stale, is_to, calls_for_view, calls_for_a_new_view, with_new_view, givers, state_request, state_requests, gone_from, gone_call, lookup_call, active_call, before_answers, stays_open, index_of_last}
use Rattle.circus_member_rules.specs.Happening.{IsHome}
use Rattle.circus_member_rules.specs.MemberState.{MemberState, Doing}
use Rattle.circus_member_rules.specs.Step as step
use Rattle.circus_member_rules.specs.Step.{name_of_last, known_by_table, is_taken_in, kept_by_table, handle, waits}
use Rattle.circus_member_rules.proofs.Writing.{one_is_performing, none_is_idle}
use Rattle.circus_member_theory.proofs.Resting.{at_boot}
use Rattle.circus_world_theory.proofs.Border.Going.{begun}
use Rattle.circus_member_theory.specs.Past as past
use Rattle.circus_member_theory.specs.Past.{Past, booted, followed, now, views_known, nodes_declared_down}
use Rattle.circus_member_theory.specs.Asks.{is_of_ask, is_new, is_waiting, as_made, asks_of, knows, opened_one, first_calls, asks_behind, calls_behind, new_asks, waits_then, open_asks, calls_owed}
use Rattle.circus_headline_theory.specs.Owed.Living.{boots, made_in, made_by}
use Rattle.circus_member_theory.specs.Living.{after, MayLive}
use Rattle.circus_headline_theory.proofs.Owed.Booting.{booted_keeps}
use Rattle.circus_headline_theory.proofs.Owed.CallsOwing.{open_same, calls_same}
use Rattle.circus_headline_theory.proofs.Owed.Distinct.{All-without_last, All-last}
use Rattle.circus_headline_theory.proofs.Owed.Entries.{none_of, of-append, last_by}
use Rattle.circus_headline_theory.proofs.Owed.Going.{executed_keeps}
use Rattle.circus_headline_theory.proofs.Owed.Links.{IsLinked, last_index}
use Rattle.circus_headline_theory.proofs.Owed.Lives.{rises, IsKnown, handles, executes, IsStepped, step_is, known as known_after}
use Rattle.circus_headline_theory.proofs.Owed.Opening.{IsBy, AreBy, by_later, AreByIn, by_keeps, AreOld, old_keeps, of_asks, none_of_asks, all_of_asks, HasOpened, IsOpened, Turns, opened_keeps}
use Rattle.circus_headline_theory.proofs.Owed.Requesting.{Requests, asked_all}
use Rattle.circus_headline_theory.proofs.Owed.Stays.{is_same}

-- ---- what comes makes these

none_of_map : {X : Type 0} (f : X → List Effect) → ((x : X) → of_asks (f x) ≡ f x) → (xs : List X) → of_asks (flat_map f xs) ≡ flat_map f xs
none_of_map f all [] = refl
none_of_map f all (x ∷ xs) = filter-append is_of_ask (f x) (flat_map f xs) ∙ (λ j. all x j ++ none_of_map f all xs j)

no_ring : (k : Knowing) (request : Request) → of_asks (request_to_ring k request) ≡ []
no_ring k request = by_test (is_among k.down ringmaster)
  where
    by_test : (b : Bool) → of_asks (if b then [] else request_call request ∷ []) ≡ []
    by_test true = refl
    by_test false = refl

no_gone : (place : Place) (k : Knowing) (node : ℕ) → of_asks (gone_call place k node) ≡ []
no_gone place k node = by_host (slice_get place.troupes node)
  where
    by_view : (troupe : ℕ) (o : Option View) → of_asks (option_map_or (λ (v : View). if has_node v node then request_to_ring k (Gone troupe node) else []) o []) ≡ []
    by_view troupe None = refl
    by_view troupe (Some v) = by_test (has_node v node)
      where
        by_test : (b : Bool) → of_asks (if b then request_to_ring k (Gone troupe node) else []) ≡ []
        by_test true = no_ring k (Gone troupe node)
        by_test false = refl

    by_hosted : (o : Option ℕ) → of_asks (option_map_or (gone_from k node) o []) ≡ []
    by_hosted None = refl
    by_hosted (Some troupe) = by_view troupe (slice_get k.views troupe)

    by_host : (o : Option (Option ℕ)) → of_asks (option_map_or (λ hosted. option_map_or (gone_from k node) hosted []) o []) ≡ []
    by_host None = refl
    by_host (Some hosted) = by_hosted hosted

no_answer : (o : Option (List ℕ)) (sender : Caller) → of_asks (option_map_or (λ message. answer message sender ∷ []) o []) ≡ []
no_answer None sender = refl
no_answer (Some message) sender = refl

all_again : (k : Knowing) (name : AskName) (from incarnation : ℕ) (o : Option Asking) → of_asks (option_map_or (call_again k name from incarnation) o []) ≡ option_map_or (call_again k name from incarnation) o []
all_again k name from incarnation None = refl
all_again k name from incarnation (Some a) = by_view (slice_get k.views a.header.server)
  where
    by_next : (n : Next) → of_asks (call_for k name a n) ≡ call_for k name a n
    by_next (N.Send send) = refl
    by_next (N.Lookup wanted) = refl
    by_next N.Leave = refl

    by_view : (o : Option View) → of_asks (option_map_or (λ view. call_for k name a (next view k.down from incarnation)) o []) ≡ option_map_or (λ view. call_for k name a (next view k.down from incarnation)) o []
    by_view None = refl
    by_view (Some view) = by_next (next view k.down from incarnation)

all_new : (k : Knowing) (view : View) (asks : List (AskName × Asking)) → of_asks (calls_for_a_new_view k view asks) ≡ calls_for_a_new_view k view asks
all_new k view asks =
    none_of_map (calls_for_view k view) (λ x. all_of_asks (call_of_ask k x.0 x.1) (λ s. refl) (calls_for_a_view view k.down x.1.asked)) (filter (is_to view.troupe) asks)

told_calls : {M : Type 0} (m : MemberState M) (request : Request) (table : Table) → of_asks (step.handle_table m request table).effects
    ≡ (if knowing.is_newer m.known table.view then calls_for_a_new_view (known_by_table m.known request table.view) table.view m.asks else [])
told_calls m request table =
    let k = known_by_table m.known request table.view in
    by_tests (knowing.is_newer m.known table.view) (is_taken_in m.performing.kept.phase (kept_by_table m.performing.kept request table).phase)
    (calls_for_a_new_view k table.view m.asks) (state_requests m.place k.down table.view) (all_new k table.view m.asks)
    (none_of_asks (state_request m.place.troupe table.view.incarnation) (λ n. refl) (givers m.place.node k.down table.view))
  where
    by_tests : (a b : Bool) (xs ys : List Effect) → of_asks xs ≡ xs → of_asks ys ≡ [] → of_asks ((if a then xs else []) ++ (if b then ys else [])) ≡ (if a then xs else [])
    by_tests true true xs ys all none = filter-append is_of_ask xs ys ∙ (λ j. all j ++ none j) ∙ append-nil xs
    by_tests true false xs ys all none = ap of_asks (append-nil xs) ∙ all
    by_tests false true xs ys all none = none
    by_tests false false xs ys all none = refl

-- those among all that was made
abbrev pub calls_by : List (ℕ × Effect) → List (ℕ × Effect)
calls_by made = filter (λ (e : ℕ × Effect). is_of_ask e.1) made

calls_in : (at : ℕ) (effects : List Effect) → calls_by (made_in at effects) ≡ made_in at (of_asks effects)
calls_in at [] = refl
calls_in at (x ∷ xs) = by_test (calls_in at xs) (is_of_ask x)
  where
    by_test : calls_by (made_in at xs) ≡ made_in at (of_asks xs) → (b : Bool) → cond b ((at, x) ∷ calls_by (made_in at xs)) (calls_by (made_in at xs)) ≡ made_in at (cond b (x ∷ of_asks xs) (of_asks xs))
    by_test rest true = ap (λ l. (at, x) ∷ l) rest
    by_test rest false = rest

-- ---- the ask that waits

and_false : (b : Bool) → (b && false) ≡ false
and_false true = refl
and_false false = refl

or_false : (b : Bool) → (b || false) ≡ b
or_false true = refl
or_false false = refl

-- an ask with an answer doesn't wait
answered_then : (q : Past) (ask : AskRecord) (s : ℕ) → ask.answered ≡ Some s → IsBy (now q) ask → is_waiting q ask ≡ false
answered_then q ask s is by =
    let low : s ≤ now q = subst (λ o. IfSome o (λ x. x ≤ now q)) is by.1 in
    (λ j. nat_le ask.asked (now q) && not (option_map_or (λ x. nat_le x (now q)) (is j) false))
    ∙ ap (λ b. nat_le ask.asked (now q) && not b) (le-leb s (now q) low)
    ∙ and_false (nat_le ask.asked (now q))

answered_all : (q : Past) (made : List AskRecord) → ((number : ℕ) (ask : AskRecord) → slice_get made number ≡ Some ask → (s : ℕ) × (ask.answered ≡ Some s)) → All (IsBy (now q)) made → All (λ (a : AskRecord). is_waiting q a ≡ false) made
answered_all q made ended by =
    λ i a low. let x = slice_index_or made i a in let end = ended i x (slice_get-get_or made i a low) in answered_then q x end.0 end.1 (by i a low)

module _ (b : Behaviour) (state : List ValueTree) (g : Gathered) (kept : MemberRecord) (is_record : IsRecord b state kept) (h : IsLinked g kept) (q : Past) (by : AreBy (now q) kept.runs) (place : Place) (boot : List View) where
  ended_all : (runs : List RunRecord) → HaveEnded b state runs → AreBy (now q) runs → All (λ (r : RunRecord). All (λ (a : AskRecord). is_waiting q a ≡ false) r.asks) runs
  ended_all runs ended all =
      λ n x below. let run = slice_index_or runs n x in
      answered_all q run.asks (λ number ask at. let so = ((ended n run (slice_get-get_or runs n x below)).made.asks_so number ask at).1 in (so.answered, so.answered_is)) (all n x below)

  -- the only one that waits
  one_waits : (before : List RunRecord) (run : RunRecord) (made : List AskRecord) (ask : AskRecord) → kept.runs ≡ before ++ run ∷ [] → HaveEnded b state before → run.asks ≡ made ++ ask ∷ []
      → ((number : ℕ) (a : AskRecord) → slice_get made number ≡ Some a → (s : ℕ) × (a.answered ≡ Some s)) → ask.answered ≡ None → is_spent (clock_after run.entry made) ≡ false
      → asks_of place (is_waiting q) kept.from kept.runs ≡ as_made place (kept.from + length before) run.root run.path (length made) (clock_after run.entry made) ask ∷ []
  one_waits before run made ask runs_are ended asks_are answered none left =
      let all : AreBy (now q) (before ++ run ∷ []) = subst (AreBy (now q)) runs_are by in
      let P : RunRecord → Type 0 = λ r. All (IsBy (now q)) r.asks in
      let asks_by : All (IsBy (now q)) (made ++ ask ∷ []) = subst (All (IsBy (now q))) asks_are (All-last P before run all) in
      let last : IsBy (now q) ask = All-last (IsBy (now q)) made ask asks_by in
      let passes : is_waiting q ask ≡ true =
      (λ j. le-leb ask.asked (now q) last.0 j && not (option_map_or (λ x. nat_le x (now q)) (none j) false)) in
      ap (asks_of place (is_waiting q) kept.from) runs_are
      ∙ of-append place (is_waiting q) kept.from before run
      ∙ (λ j. none_of place (is_waiting q) kept.from before (ended_all before ended (All-without_last P before run all)) j
      ++ last_by place (is_waiting q) (kept.from + length before) run made ask asks_are (answered_all q made answered (All-without_last (IsBy (now q)) made ask asks_by)) passes left j)

  waits_is : (name : AskName) → waits kept name ≡ waits_then place boot kept q name
  waits_is name = by_link h
    where
      by_link : IsLinked g kept → waits kept name ≡ waits_then place boot kept q name
      by_link (inl r) =
          let idle = none_is_idle b state kept is_record r.no_ask in
          let none = none_of place (is_waiting q) kept.from kept.runs (ended_all kept.runs idle.runs by) in
          ap (λ o. is_some o && is_name (name_of_last kept) name) r.no_ask ∙ sym (ap (list_any (λ (e : AskName × Asking). is_name e.0 name)) none)
      by_link (inr w) =
          let p = one_is_performing b state kept is_record w.ask w.asks in
          let o = p.waiting in
          let one = one_waits p.before p.run o.before o.ask p.runs_are p.runs o.asks_are (λ number a at. let so = (o.made.asks_so number a at).1 in (so.answered, so.answered_is)) o.waits.not_answered o.waits.calls_left in
          let first_long = ap length p.runs_are ∙ length-append p.before (p.run ∷ []) in
          let other_long = ap length w.runs.runs_are ∙ length-append w.runs.before (w.runs.run ∷ []) in
          let long : length w.runs.before ≡ length p.before = omega (arith, first_long, other_long) in
          let index : index_of_last kept ≡ kept.from + length p.before = last_index g kept w.runs ∙ ap (λ n. kept.from + n) long in
          let asks_long = ap length o.asks_are ∙ length-append o.before (o.ask ∷ []) in
          let less : length p.run.asks - 1 ≡ length o.before = omega (arith, asks_long) in
          let number : (name_of_last kept).ask ≡ length o.before = ap (λ x. option_map_or (λ (r : RunRecord). length r.asks - 1) x 0) (ap last_of p.runs_are ∙ last_more p.before p.run) ∙ less in
          ap (λ x. is_some x && is_name (name_of_last kept) name) w.asks
          ∙ (λ j. is_name (record { run = index j; ask = number j }) name)
          ∙ sym (or_false (is_name (record { run = kept.from + length p.before; ask = length o.before }) name))
          ∙ sym (ap (list_any (λ (e : AskName × Asking). is_name e.0 name)) one)

-- ---- what comes is handled

module _ {M : Type 0} (place : Place) (views : List View) (p : Past) (at : ℕ) (m : MemberState M) (views_are : m.known.views ≡ views_known views p) (downs : m.known.down ≡ nodes_declared_down p) where
  pub record IsBehind (o : Occurrence) : Type 0 where
    pub asks_are : (handle at o m).member.asks ≡ asks_behind place views (followed p at o) m.asks
    pub calls : of_asks (handle at o m).effects ≡ calls_behind place views (followed p at o) m.asks

  behind_restored : (state : List ValueTree) (count : ℕ) → IsBehind (comes.Restored state count)
  behind_restored state count = let t = by_test (is_fetching m.performing.kept.phase) in record { asks_are = t.0; calls = t.1 }
    where
      by_test : (b : Bool) → let d : Doing M = if b then record { member = record m { performing = made_active at state count m.performing; gathered = with_first m.gathered count }; effects = active_call m.place m.known count ++ before_answers m.gathered count } else record { member = m; effects = [] }
          in (d.member.asks ≡ m.asks) × (of_asks d.effects ≡ [])
      by_test true = (
        refl,
        filter-append is_of_ask (active_call m.place m.known count) (before_answers m.gathered count)
            ∙ (λ j. no_ring m.known (Active m.place.troupe m.place.node count) j ++ none_of_asks (answer (before_message count)) (λ x. refl) (callers_before m.gathered count) j),
      )
      by_test false = (refl, refl)

  pub behind : (o : Occurrence) → (handle at o m).member.known.views ≡ views_known views (followed p at o) → (handle at o m).member.known.down ≡ nodes_declared_down (followed p at o) → IsBehind o
  behind (comes.Asked header body sender) seen gone = record { asks_are = refl; calls = no_answer (message_at_once (answer_to m.gathered header)) sender }
  behind (comes.Fetched incarnation sender) seen gone = record { asks_are = refl; calls = none_of_asks (answer (stale_message (max m.gathered.required incarnation))) (λ x. refl) (stale_callers m.gathered incarnation) }
  behind (comes.Replied name from reply) seen gone = record { asks_are = refl; calls = refl }
  behind (comes.IsStale name server from incarnation) seen gone =
      record {
        asks_are = λ j. with_asking name (after_stale (let k : Knowing = record { views = views_are j; down = downs j; wants = m.known.wants } in k) from incarnation) m.asks;
        calls = all_again m.known name from incarnation (asking_of m.asks name)
            ∙ (λ j. option_map_or (call_again (let k : Knowing = record { views = views_are j; down = downs j; wants = m.known.wants } in k) name from incarnation) (asking_of m.asks name) []);
      }
  behind (comes.IsBefore name from) seen gone = record { asks_are = refl; calls = refl }
  behind (comes.Told request table) seen gone =
      let wants = (known_by_table m.known request table.view).wants in
      record {
        asks_are = λ j. if past.is_newer (views_are j) table.view then with_new_view (let k : Knowing = record { views = seen j; down = gone j; wants = wants } in k) table.view m.asks else m.asks;
        calls = told_calls m request table
            ∙ (λ j. if past.is_newer (views_are j) table.view then calls_for_a_new_view (let k : Knowing = record { views = seen j; down = gone j; wants = wants } in k) table.view m.asks else []);
      }
  behind (comes.Restored state count) seen gone = behind_restored state count
  behind (comes.Declared node) seen gone = record { asks_are = refl; calls = no_gone m.place (knowing.note_down m.known node) node }
  behind comes.Joins seen gone = record { asks_are = refl; calls = no_ring m.known (Join m.place.troupe m.place.node) }

-- ---- a step

module _ {M : Type 0} (declared : M → Signature) (turn : M → List ValueTree → ℕ → List ValueTree → List Outcome → NextTurn) (first : M → List ValueTree) (lawful : (hosted : M) → IsModule (behaviour declared turn first hosted)) (place : Place) (views : List View) (beginning : Beginning) (hosted : M) where
  abbrev makes : Past → List (ℕ × Effect)
  makes p = made_by declared turn first place views beginning hosted p

  abbrev life : Past → MemberState M
  life p = after declared turn first place views beginning hosted p

  abbrev kept_after : Past → MemberRecord
  kept_after p = (life p).performing.kept

  pub record AreCalled (p : Past) : Type 0 where
    pub asks_are : (life p).asks ≡ open_asks place views (kept_after p) p
    pub calls : calls_by (makes p) ≡ calls_owed place views (kept_after p) p
    pub by : AreBy (now p) (kept_after p).runs

  module _ (home : IsHome (declared hosted) place views) where
    module _ (p : Past) (at : ℕ) (o : Occurrence) (may : MayLive declared turn first place views beginning hosted (followed p at o)) (c : AreCalled p) where
      abbrev m : MemberState M
      m = life p

      abbrev q : Past
      q = followed p at o

      abbrev new_kept : MemberRecord
      new_kept = kept_after q

      abbrev d : Doing M
      d = handles declared turn first lawful place views beginning hosted p at o

      abbrev e : Doing M
      e = executes declared turn first lawful place views beginning hosted p at o

      h : IsKnown declared turn first lawful place views beginning hosted p m
      h = known_after declared turn first lawful place views beginning hosted home p may.0

      s : IsStepped declared turn first lawful place views beginning hosted p at o
      s = step_is declared turn first lawful place views beginning hosted home p at o may h

      k : IsKnown declared turn first lawful place views beginning hosted q (life q)
      k = known_after declared turn first lawful place views beginning hosted home q may

      r : Requests declared turn first lawful place views beginning hosted p
      r = asked_all declared turn first lawful place views beginning hosted home p may.0

      last : Requests declared turn first lawful place views beginning hosted q
      last = asked_all declared turn first lawful place views beginning hosted home q may

      d_views : d.member.known.views ≡ views_known views q
      d_views = sym (ap (λ (x : Knowing). x.views) s.same.known) ∙ last.views_are

      d_down : d.member.known.down ≡ nodes_declared_down q
      d_down = sym (ap (λ (x : Knowing). x.down) s.same.known) ∙ last.downs

      same_place : d.member.place ≡ place
      same_place = s.carried.place ∙ h.stands

      handled_so : IsBehind place views p at m r.views_are r.downs o
      handled_so = behind place views p at m r.views_are r.downs o d_views d_down

      -- ---- the record before the step

      new_by : AreBy at new_kept.runs
      new_by =
          let before = may.1 in
          executed_keeps declared turn first lawful at (AreByIn declared turn first lawful at) (AreByIn declared turn first lawful at) (by_keeps declared turn first lawful at) d s.sound
          (subst (AreBy at) (sym s.carried.runs) (by_later (now p) at (omega (arith, before)) m.performing.kept.runs c.by))

      -- where the runs are the same, those of their asks that pass are
      same_passing : (test : AskRecord → Bool) → asks_of place test d.member.performing.kept.from d.member.performing.kept.runs ≡ asks_of place test m.performing.kept.from m.performing.kept.runs
      same_passing test = by_start s.carried.start
        where
          by_start : (d.member.performing.kept.from ≡ m.performing.kept.from) ⊎ (m.performing.kept.runs ≡ []) → asks_of place test d.member.performing.kept.from d.member.performing.kept.runs ≡ asks_of place test m.performing.kept.from m.performing.kept.runs
          by_start (inl same) = λ j. asks_of place test (same j) (s.carried.runs j)
          by_start (inr none) = ap (asks_of place test d.member.performing.kept.from) (s.carried.runs ∙ none) ∙ sym (ap (asks_of place test m.performing.kept.from) none)

      old_passing : (test : AskRecord → Bool) → ((clock : List ℕ) (callee procedure : ℕ) (arguments state : List ValueTree) → test (made_ask at clock callee procedure arguments state) ≡ false)
          → ((ask : AskRecord) (reply : Outcome) (clock : List ℕ) → ask.answered ≡ None → test (answered_ask at reply clock ask) ≡ test ask)
          → asks_of place test m.performing.kept.from m.performing.kept.runs ≡ asks_of place test new_kept.from new_kept.runs
      old_passing test fresh still =
          let old = asks_of place test m.performing.kept.from m.performing.kept.runs in
          sym (executed_keeps declared turn first lawful at (AreOld declared turn first lawful at place test fresh still old) (AreOld declared turn first lawful at place test fresh still old) (old_keeps declared turn first lawful at place test fresh still old) d s.sound (same_passing test))

      pub made_same : (x : Past) → now x < at → new_asks place views m.performing.kept x ≡ new_asks place views new_kept x
      made_same x below = old_passing (is_new x) (λ clock callee procedure arguments state. ne_eqb at (now x) (λ eq. absurd (omega (arith, below, eq)))) (λ ask reply clock none. refl)

      pub waiting_same : (x : Past) → now x < at → asks_of place (is_waiting x) m.performing.kept.from m.performing.kept.runs ≡ asks_of place (is_waiting x) new_kept.from new_kept.runs
      waiting_same x below =
          old_passing (is_waiting x) (λ clock callee procedure arguments state. ap (λ b. b && true) (lt-leb at (now x) below))
          (λ ask reply clock none. (λ j. nat_le ask.asked (now x) && not (lt-leb at (now x) below j)) ∙ sym (ap (λ o. nat_le ask.asked (now x) && not (option_map_or (λ y. nat_le y (now x)) o false)) none))

      -- none was made in the step before it
      none_new : asks_of d.member.place (is_new q) d.member.performing.kept.from d.member.performing.kept.runs ≡ []
      none_new =
          let before = may.1 in
          none_of d.member.place (is_new q) d.member.performing.kept.from d.member.performing.kept.runs
          (subst (λ runs. All (λ (x : RunRecord). All (λ (a : AskRecord). is_new q a ≡ false) x.asks) runs) (sym s.carried.runs)
          (All-weaker (λ (x : RunRecord). All (IsBy (now p)) x.asks) (λ (x : RunRecord). All (λ (a : AskRecord). is_new q a ≡ false) x.asks)
          (λ x. All-weaker (IsBy (now p)) (λ (a : AskRecord). is_new q a ≡ false) (λ a low. let made = low.0 in ne_eqb a.asked at (λ eq. absurd (omega (arith, made, before, eq)))) x.asks) m.performing.kept.runs c.by))

      -- ---- behind the execution

      opened : HasOpened declared turn first lawful at d.member views (is_new q) (λ clock callee procedure arguments state. eq-eqb at at refl) (λ ask reply clock none. refl) (of_asks d.effects) (asks_of d.member.place (is_new q) new_kept.from new_kept.runs) e
      opened =
          let old = of_asks d.effects in
          let fresh : (clock : List ℕ) (callee procedure : ℕ) (arguments state : List ValueTree) → is_new q (made_ask at clock callee procedure arguments state) ≡ true = λ clock callee procedure arguments state. eq-eqb at at refl in
          let still : (ask : AskRecord) (reply : Outcome) (clock : List ℕ) → ask.answered ≡ None → is_new q (answered_ask at reply clock ask) ≡ is_new q ask = λ ask reply clock none. refl in
          (executed_keeps declared turn first lawful at (IsOpened declared turn first lawful at d.member views (is_new q) fresh still old) (Turns declared turn first lawful at d.member views (is_new q) fresh still old) (opened_keeps declared turn first lawful at d.member views (is_new q) fresh still old) d s.sound
          (s.carried.linked, is_same d.member, subst (λ new. HasOpened declared turn first lawful at d.member views (is_new q) fresh still old new d) (sym none_new) (record { asks_are = refl; calls = sym (append-nil old) }))).2

      pub asks_then : m.asks ≡ open_asks place views new_kept p
      asks_then = c.asks_are ∙ open_same place views m.performing.kept new_kept at made_same waiting_same p (rises declared turn first lawful place views beginning hosted p may.0) may.1

      e_views : e.member.known.views ≡ views_known views q
      e_views = last.views_are

      e_down : e.member.known.down ≡ nodes_declared_down q
      e_down = last.downs

      waits_now : (name : AskName) → waits new_kept name ≡ waits_then place views new_kept q name
      waits_now name = waits_is (behaviour declared turn first e.member.performing.hosted) e.member.performing.began e.member.gathered new_kept k.sound.kept k.linked q new_by place views name

      -- the calls of asks that were made by then: for what came, and of the new asks
      pub calls_then : of_asks e.effects
          ≡ calls_behind place views q (open_asks place views new_kept p) ++ flat_map (first_calls place views (knows place views q)) (asks_of place (is_new q) new_kept.from new_kept.runs)
      calls_then =
          let wants = d.member.known.wants in
          opened.calls
          ∙ (λ j. (handled_so.calls ∙ ap (calls_behind place views q) asks_then) j ++ flat_map (first_calls place views (let x : Knowing = record { views = d_views j; down = d_down j; wants = wants } in x)) (asks_of (same_place j) (is_new q) new_kept.from new_kept.runs))

      pub calls_of_what_came : of_asks d.effects ≡ calls_behind place views q (open_asks place views new_kept p)
      calls_of_what_came = handled_so.calls ∙ ap (calls_behind place views q) asks_then

      called_then : AreCalled q
      called_then =
          let wants = d.member.known.wants in
          let behind_asks = asks_behind place views q (open_asks place views new_kept p) in
          let new = asks_of place (is_new q) new_kept.from new_kept.runs in
          let e_asks : e.member.asks ≡ fold (opened_one place views (knows place views q)) behind_asks new =
          opened.asks_are
          ∙ (λ j. fold (opened_one place views (let x : Knowing = record { views = d_views j; down = d_down j; wants = wants } in x)) ((handled_so.asks_are ∙ ap (asks_behind place views q) asks_then) j) (asks_of (same_place j) (is_new q) new_kept.from new_kept.runs)) in
          let effects = (step.step_member declared turn at o m).effects in
          let made : of_asks effects ≡ of_asks e.effects =
          filter-append is_of_ask e.effects (rules.lookups e.member.known)
          ∙ ap (λ l. of_asks e.effects ++ l) (none_of_asks lookup_call (λ t. refl) (knowing.lookups e.member.known ringmaster))
          ∙ append-nil (of_asks e.effects) in
          record {
            asks_are = λ j. filter (stays_open (let x : Knowing = record { views = e_views j; down = e_down j; wants = e.member.known.wants } in x) (λ name. waits_now name j)) (e_asks j);
            calls = filter-append (λ (x : ℕ × Effect). is_of_ask x.1) (makes p) (made_in at effects)
                ∙ (λ j. (c.calls ∙ calls_same place views m.performing.kept new_kept at made_same waiting_same p (rises declared turn first lawful place views beginning hosted p may.0) may.1) j
                ++ (calls_in at effects ∙ ap (made_in at) (made ∙ calls_then)) j);
            by = new_by;
          }

    -- ---- over a past

    before_any : (b : Beginning) → let x = at_boot declared turn first lawful place views hosted home b in (x.place ≡ place) × (x.known ≡ knowing.at_boot views) × (x.asks ≡ []) × (x.performing.kept.runs ≡ []) × IsLinked x.gathered x.performing.kept
    before_any Founder = (refl, refl, refl, refl, inl (record { no_ask = refl; rests = record { start = omega arith; few = omega arith; none_open = refl; replies = refl } }))
    before_any Spare = (refl, refl, refl, refl, inl (record { no_ask = refl; rests = record { start = omega arith; few = omega arith; none_open = refl; replies = refl } }))

    pub called_all : (p : Past) → MayLive declared turn first place views beginning hosted p → AreCalled p
    called_all booted may =
        let x = at_boot declared turn first lawful place views hosted home beginning in
        let is = before_any beginning in
        let fresh : (clock : List ℕ) (callee procedure : ℕ) (arguments state : List ValueTree) → is_new booted (made_ask 0 clock callee procedure arguments state) ≡ true = λ clock callee procedure arguments state. eq-eqb 0 0 refl in
        let still : (ask : AskRecord) (reply : Outcome) (clock : List ℕ) → ask.answered ≡ None → is_new booted (answered_ask 0 reply clock ask) ≡ is_new booted ask = λ ask reply clock none. refl in
        let none : asks_of x.place (is_new booted) x.performing.kept.from x.performing.kept.runs ≡ [] = ap (asks_of x.place (is_new booted) x.performing.kept.from) is.3 in
        let opens = (booted_keeps declared turn first lawful place views hosted home (IsOpened declared turn first lawful 0 x views (is_new booted) fresh still []) (Turns declared turn first lawful 0 x views (is_new booted) fresh still []) (opened_keeps declared turn first lawful 0 x views (is_new booted) fresh still []) beginning
        (is.4, is_same x, subst (λ new. HasOpened declared turn first lawful 0 x views (is_new booted) fresh still [] new (begun x)) (sym none) (record { asks_are = refl; calls = refl }))).2 in
        let by = booted_keeps declared turn first lawful place views hosted home (AreByIn declared turn first lawful 0) (AreByIn declared turn first lawful 0) (by_keeps declared turn first lawful 0) beginning (subst (AreBy 0) (sym is.3) (All-nil (λ (run : RunRecord). All (IsBy 0) run.asks))) in
        record {
          asks_are = opens.asks_are
              ∙ (λ j. fold (opened_one place views (let k : Knowing = record { views = (is.1 j).views; down = (is.1 j).down; wants = x.known.wants } in k)) (is.2 j) (asks_of (is.0 j) (is_new booted) (kept_after booted).from (kept_after booted).runs));
          calls = calls_in 0 (boots declared turn first place views beginning hosted).effects
              ∙ ap (made_in 0) (opens.calls ∙ (λ j. flat_map (first_calls place views (let k : Knowing = record { views = (is.1 j).views; down = (is.1 j).down; wants = x.known.wants } in k)) (asks_of (is.0 j) (is_new booted) (kept_after booted).from (kept_after booted).runs)));
          by = by;
        }
    called_all (followed p at o) may = called_then p at o may (called_all p may.0)
