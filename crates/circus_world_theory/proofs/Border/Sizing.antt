-- What a member says in a step can be sent: its module keeps to the limit of the format, and so does all that it keeps.
use Rattle.std.proofs.Common.{◌≡◌, ℕ, ◌≤◌, Bool, true, false, if◌then◌else◌, List, [], ◌∷◌, ◌++◌, filter, length, All, Option, Some, None, refl, sym, ap, subst, ◌∙◌, arith}
use Rattle.std.specs.Prelude.{IfSome, slice_get, nat_lt, unwrap_or}
use Rattle.std.specs.Option.{option_map_or}
use Rattle.std.proofs.lemmas.List.Elements.{All-nil, All-cons, All-append, All-map, All-filter, All-push, All-weaker}
use Rattle.std.proofs.lemmas.Map.Entries.{All-lookup}
use Rattle.std.proofs.lemmas.Option.{same_Some}
use Rattle.circus_value.specs.Among.{is_among}
use Rattle.circus_value.specs.ExternalSize.{size_of_values}
use Rattle.circus_value.specs.ValueTree.{ValueTree}
use Rattle.circus_value.specs.declared.caller.Caller.{Caller}
use Rattle.circus_value.specs.declared.outcome.Outcome.{Outcome}
use Rattle.circus_header.specs.declared.call.CallHeader.{CallHeader}
use Rattle.circus_header.specs.declared.call.Request.{Request}
use Rattle.circus_header.specs.declared.call.Request.TheVariants.{Lookup, Join, Active, Gone}
use Rattle.circus_header.specs.declared.answer.Reply.{Reply}
use Rattle.circus_collate.specs.Expecting.{has_node}
use Rattle.circus_collate.specs.declared.table.Table.{Table}
use Rattle.circus_collate.specs.declared.view.View.{View}
use Rattle.circus_model.specs.Lawful.{values_of}
use Rattle.circus_model.specs.declared.signature.Signature.{Signature}
use Rattle.circus_model.specs.NextTurn.{NextTurn}
use Rattle.circus_model.specs.Behaviour.{IsModule}
use Rattle.circus_record.specs.declared.record.AskRecord.{AskRecord}
use Rattle.circus_record.specs.declared.record.RunRecord.{RunRecord}
use Rattle.circus_fanout.specs.Knowing as knowing
use Rattle.circus_fanout.specs.Knowing.{Knowing, is_newer, note_down as declared_of}
use Rattle.circus_gather.specs.Gathering.{index_of, reply_of, with_first}
use Rattle.circus_gather.specs.Gathering as gathering
use Rattle.circus_gather.specs.declared.added.Added.TheVariants as added
use Rattle.circus_fanout.specs.Asking.{Asking, calls_for_a_view, with_view, with_reply, with_before, with_stale, next}
use Rattle.circus_fanout.specs.declared.send.Send.{Send}
use Rattle.circus_fanout.specs.declared.send.Next.{Next}
use Rattle.circus_fanout.specs.declared.send.Next.TheVariants as N
use Rattle.circus_performing.specs.Performing.{refusal, open_ask, last_of, is_active, is_fetching, made_active}
use Rattle.circus_performing.specs.Record.{behaviour}
use Rattle.circus_performing.proofs.Records.{performing_has_one}
use Rattle.circus_member_rules.specs.declared.place.Place.{Place}
use Rattle.circus_member_rules.specs.declared.place.Beginning.{Beginning}
use Rattle.circus_member_rules.specs.declared.place.Beginning.TheVariants.{Founder, Spare}
use Rattle.circus_member_rules.specs.declared.occurrence.AskName.{AskName}
use Rattle.circus_member_rules.specs.declared.occurrence.Effect.{Effect}
use Rattle.circus_member_rules.specs.declared.occurrence.Effect.TheVariants as made
use Rattle.circus_member_rules.specs.declared.occurrence.Occurrence.{Occurrence}
use Rattle.circus_member_rules.specs.declared.occurrence.Occurrence.TheVariants as comes
use Rattle.circus_member_rules.specs.Messages.{reply_message, stale_message, before_message}
use Rattle.circus_member_rules.specs.OpenAsks.{asking_of, with_asking}
use Rattle.circus_member_rules.specs.Rules as rules
use Rattle.circus_member_rules.specs.Rules.{ringmaster, answer, answers, request_call, request_to_ring, answer_at_once, call_of_ask, calls_of_ask, call_for, call_again, after_stale, is_to, calls_for_view, calls_for_a_new_view, seen_by_ask, with_new_view, givers, state_request, state_requests, gone_from, gone_call, lookup_call, lookups, active_call, before_answers, snapshots_owed, index_of_last}
use Rattle.circus_member_rules.specs.Happening.{IsHome, CanHappen}
use Rattle.circus_member_rules.specs.MemberState.{MemberState, Doing}
use Rattle.circus_member_rules.specs.Seen.Sound.{IsRunOf}
use Rattle.circus_member_rules.specs.Step as step
use Rattle.circus_member_rules.specs.Step.{name_of_last, asking_begun, known_by_table, is_taken_in, is_idle, reply_of_run, keep_ask_open, look_up, execute, handle, step_member, opened_by_view, ended_run, boot_member}
use Rattle.circus_member_rules.proofs.Concerned.{all_of}
use Rattle.circus_member_rules.proofs.Named.{All-changed, All-opened, found_holds}
use Rattle.circus_member_rules.proofs.Held.{called_same}
use Rattle.circus_member_rules.proofs.Starting.{IsSoundNow, and_right, none_from_test}
use Rattle.circus_member_rules.proofs.Turned.{IsTurned, asking_now}
use Rattle.circus_member_rules.proofs.Writing.{last_has_ended, one_is_performing, none_is_idle, ask_is_lawful, end_is_lawful}
use Rattle.circus_member_theory.specs.Ranges.{InRange}
use Rattle.circus_member_theory.proofs.Resting.{sound_once_handled}
use Rattle.circus_world_theory.proofs.Border.Brief.{IsBrief, IsSmallCall, IsSmallReply, size_is, ask_brief, request_brief, fetch_brief, reply_brief, stale_brief, before_brief, snapshot_brief}
use Rattle.circus_world_theory.proofs.Border.Booting.{before_all, booted_keeps}
use Rattle.circus_world_theory.proofs.Border.Going.{begun, behaves, with_given, Keeps, executed_keeps}
use Rattle.circus_world_theory.proofs.Border.Reaching.{All-flat_map, All-if}

-- a call or a return of few bytes
abbrev pub SaysBriefly : ℕ → Effect → Type 0
SaysBriefly most (made.Call to message purpose) = IsBrief most message
SaysBriefly most (made.Answer caller message) = IsBrief most message

abbrev pub AllBrief : ℕ → List Effect → Type 0
AllBrief most effects = All (SaysBriefly most) effects

abbrev pub IsSmallAsk : ℕ → Asking → Type 0
IsSmallAsk most a = IsSmallCall most a.header a.body

module _ (most : ℕ) where
  -- ---- the rules

  answers_brief : (message : List ℕ) (callers : List Caller) → IsBrief most message → AllBrief most (answers message callers)
  answers_brief message callers brief = All-map (SaysBriefly most) (answer message) callers (λ i d within. brief)

  one_brief : (e : Effect) → SaysBriefly most e → AllBrief most (e ∷ [])
  one_brief e brief = All-cons (SaysBriefly most) e [] brief (All-nil (SaysBriefly most))

  call_brief : (k : Knowing) (name : AskName) (a : Asking) (send : Send) → IsSmallAsk most a → SaysBriefly most (call_of_ask k name a send)
  call_brief k name a send small = ask_brief most (rules.header_now k a send) a.body (record { path = small.path; clock = small.clock; arguments = small.arguments })

  calls_brief : (k : Knowing) (name : AskName) (a : Asking) (sends : List Send) → IsSmallAsk most a → AllBrief most (calls_of_ask k name a sends)
  calls_brief k name a sends small = All-map (SaysBriefly most) (call_of_ask k name a) sends (all_of (λ (s : Send). SaysBriefly most (call_of_ask k name a s)) sends (λ s. call_brief k name a s small))

  again_brief : (k : Knowing) (name : AskName) (from incarnation : ℕ) (a : Asking) → IsSmallAsk most a → AllBrief most (call_again k name from incarnation a)
  again_brief k name from incarnation a small = by_view (slice_get k.views a.header.server)
    where
      by_next : (n : Next) → AllBrief most (call_for k name a n)
      by_next (N.Send send) = one_brief (call_of_ask k name a send) (call_brief k name a send small)
      by_next (N.Lookup wanted) = All-nil (SaysBriefly most)
      by_next N.Leave = All-nil (SaysBriefly most)

      by_view : (o : Option View) → AllBrief most (option_map_or (λ view. call_for k name a (next view k.down from incarnation)) o [])
      by_view None = All-nil (SaysBriefly most)
      by_view (Some view) = by_next (next view k.down from incarnation)

  ring_brief : (k : Knowing) (request : Request) → AllBrief most (request_to_ring k request)
  ring_brief k request =
      All-if (SaysBriefly most) (is_among k.down ringmaster) [] (request_call request ∷ []) (All-nil (SaysBriefly most)) (one_brief (request_call request) (request_brief most request))

  lookups_brief : (k : Knowing) → AllBrief most (lookups k)
  lookups_brief k = All-map (SaysBriefly most) lookup_call (knowing.lookups k ringmaster)
      (all_of (λ (troupe : ℕ). SaysBriefly most (lookup_call troupe)) (knowing.lookups k ringmaster) (λ troupe. request_brief most (Lookup troupe)))

  new_brief : (k : Knowing) (view : View) (asks : List (AskName × Asking)) → All (λ (e : AskName × Asking). IsSmallAsk most e.1) asks
      → AllBrief most (calls_for_a_new_view k view asks)
  new_brief k view asks small =
      All-flat_map (SaysBriefly most) (calls_for_view k view) (filter (is_to view.troupe) asks)
      (All-filter (is_to view.troupe) (λ (e : AskName × Asking). AllBrief most (calls_for_view k view e)) asks
      (All-weaker (λ (e : AskName × Asking). IsSmallAsk most e.1) (λ (e : AskName × Asking). AllBrief most (calls_for_view k view e))
      (λ e is. calls_brief k e.0 e.1 (calls_for_a_view view k.down e.1.asked) is) asks small))

  states_brief : (place : Place) (down : List ℕ) (view : View) → AllBrief most (state_requests place down view)
  states_brief place down view = All-map (SaysBriefly most) (state_request place.troupe view.incarnation) (givers place.node down view) (λ i d within. fetch_brief most place.troupe view.incarnation)

  gone_brief : (place : Place) (k : Knowing) (node : ℕ) → AllBrief most (gone_call place k node)
  gone_brief place k node = by_host (slice_get place.troupes node)
    where
      by_view : (troupe : ℕ) (o : Option View) → AllBrief most (option_map_or (λ (v : View). if has_node v node then request_to_ring k (Gone troupe node) else []) o [])
      by_view troupe None = All-nil (SaysBriefly most)
      by_view troupe (Some v) = All-if (SaysBriefly most) (has_node v node) (request_to_ring k (Gone troupe node)) [] (ring_brief k (Gone troupe node)) (All-nil (SaysBriefly most))

      by_hosted : (o : Option ℕ) → AllBrief most (option_map_or (gone_from k node) o [])
      by_hosted None = All-nil (SaysBriefly most)
      by_hosted (Some troupe) = by_view troupe (slice_get k.views troupe)

      by_host : (o : Option (Option ℕ)) → AllBrief most (option_map_or (λ hosted. option_map_or (gone_from k node) hosted []) o [])
      by_host None = All-nil (SaysBriefly most)
      by_host (Some hosted) = by_hosted hosted

  module _ {M : Type 0} (declared : M → Signature) (turn : M → List ValueTree → ℕ → List ValueTree → List Outcome → NextTurn) (first : M → List ValueTree)
      (lawful : (hosted : M) → IsModule (behaviour declared turn first hosted)) where
    -- what holds of a step so far
    pub record IsSized (d : Doing M) : Type 0 where
      pub limit : (declared d.member.performing.hosted).limit ≤ most
      pub asks : All (λ (e : AskName × Asking). IsSmallAsk most e.1) d.member.asks
      pub replies : All (λ (kept : ℕ × Reply). IsSmallReply most kept.1) d.member.gathered.replies
      pub effects : AllBrief most d.effects

    -- ---- what an execution does

    given_sized : (d : Doing M) → IsSoundNow declared turn first lawful d.member → is_idle d.member.performing.kept ≡ true → IsSized d → IsSized (with_given d)
    given_sized d sound idle h =
        let m = d.member in
        let kept = m.performing.kept in
        let b = behaves declared turn first lawful d in
        let rests = none_is_idle b m.performing.began kept sound.kept (none_from_test (open_ask kept) (and_right (is_active kept.phase) _ idle)) in
        let within = rests.is_state.within in
        let limit = h.limit in
        record {
          limit = h.limit;
          asks = h.asks;
          replies = h.replies;
          effects = All-append (SaysBriefly most) d.effects (snapshots_owed kept m.requests) h.effects
              (answers_brief _ m.requests (snapshot_brief most kept.count kept.state (omega (arith, within, limit))));
        }

    opened_sized : (d : Doing M) (run : RunRecord) (ask : AskRecord) (view : View) → IsTurned (behaves declared turn first lawful d) d.member
        → last_of d.member.performing.kept.runs ≡ Some run → open_ask d.member.performing.kept ≡ Some ask
        → slice_get d.member.known.views ask.callee ≡ Some view → IsSized d
        → IsSized (opened_by_view d (name_of_last d.member.performing.kept) (asking_begun d.member.place d.member.performing.kept run ask) view)
    opened_sized d run ask view turned at is there h =
        let m = d.member in
        let kept = m.performing.kept in
        let began = m.performing.began in
        let b = behaves declared turn first lawful d in
        let law = lawful m.performing.hosted in
        let of : IsRunOf m.place.troupe (length m.known.views) run = subst (λ o. IfSome o (IsRunOf m.place.troupe (length m.known.views))) at turned.run in
        let asking = asking_now b law m run ask at is turned.home of turned.kept in
        let asked = asking.ready.asked.asks in
        let p = one_is_performing b began kept turned.kept ask is in
        let same : p.waiting.ask ≡ ask = same_Some _ _ (sym (performing_has_one b began kept p) ∙ is) in
        let within : size_of_values ask.arguments ≤ (declared m.performing.hosted).limit =
        subst (λ (x : AskRecord). size_of_values x.arguments ≤ (declared m.performing.hosted).limit) same (ask_is_lawful b began kept law p).within in
        let limit = h.limit in
        let size = size_is ask.arguments in
        let a = asking_begun m.place kept run ask in
        let small : IsSmallAsk most a = record { path = asked.path_most; clock = asked.clock_most; arguments = omega (arith, within, limit, size) } in
        record {
          limit = h.limit;
          asks = All-opened (IsSmallAsk most) m.asks (name_of_last kept) (with_view view m.known.down a) (record { path = small.path; clock = small.clock; arguments = small.arguments }) h.asks;
          replies = h.replies;
          effects = All-append (SaysBriefly most) d.effects _ h.effects (calls_brief m.known (name_of_last kept) a (calls_for_a_view view m.known.down []) small);
        }

    ended_sized : (d : Doing M) (run : RunRecord) → IsTurned (behaves declared turn first lawful d) d.member → last_of d.member.performing.kept.runs ≡ Some run
        → open_ask d.member.performing.kept ≡ None → IsSized d → IsSized (ended_run d run)
    ended_sized d run turned at none h =
        let m = d.member in
        let kept = m.performing.kept in
        let b = behaves declared turn first lawful d in
        let of : IsRunOf m.place.troupe (length m.known.views) run = subst (λ o. IfSome o (IsRunOf m.place.troupe (length m.known.views))) at turned.run in
        let ended = last_has_ended b m.performing.began kept turned.kept none run at in
        let law = end_is_lawful b m.performing.began kept (lawful m.performing.hosted) _ run ended in
        let clock : unwrap_or run.end [] ≡ _ = ap (λ o. unwrap_or o []) ended.end_is in
        let outcome : unwrap_or run.outcome refusal ≡ ended.outcome = ap (λ o. unwrap_or o refusal) ended.outcome_is in
        let now = of.now in
        let long = ap length clock in
        let few = turned.home.few in
        let limit = h.limit in
        let within : size_of_values (values_of (unwrap_or run.outcome refusal)) ≤ (declared m.performing.hosted).limit =
        subst (λ o. size_of_values (values_of o) ≤ (declared m.performing.hosted).limit) (sym outcome) law.within in
        let small : IsSmallReply most (reply_of_run run) = record { clock = omega (arith, long, now, few); outcome = omega (arith, within, limit) } in
        record {
          limit = h.limit;
          asks = h.asks;
          replies = All-push (λ (x : ℕ × Reply). IsSmallReply most x.1) m.gathered.replies (index_of_last kept, reply_of_run run) h.replies small;
          effects = All-append (SaysBriefly most) d.effects _ h.effects (answers_brief (reply_message (reply_of_run run)) _ (reply_brief most (reply_of_run run) small));
        }

    sized_keeps : (step : ℕ) → Keeps declared turn first lawful step IsSized
    sized_keeps step =
        record {
          gives = given_sized;
          enters = λ d start sound may h. record { limit = h.limit; asks = h.asks; replies = h.replies; effects = h.effects };
          answers = λ d reply sound value h. record { limit = h.limit; asks = h.asks; replies = h.replies; effects = h.effects };
          opens = opened_sized;
          ends = ended_sized;
        }

    -- ---- what happens is handled

    changed_small : (name : AskName) (change : Asking → Asking) (asks : List (AskName × Asking)) → ((a : Asking) → IsSmallAsk most a → IsSmallAsk most (change a))
        → All (λ (e : AskName × Asking). IsSmallAsk most e.1) asks → All (λ (e : AskName × Asking). IsSmallAsk most e.1) (with_asking name change asks)
    changed_small name change asks keeps all = All-changed (IsSmallAsk most) name change asks (λ a is small. keeps a small) all

    asked_sized : (m : MemberState M) (header : CallHeader) (body : List ℕ) (sender : Caller) → IsSized (begun m) → IsSized (step.handle_call m header body sender)
    asked_sized m header body sender h =
        record {
          limit = h.limit;
          asks = h.asks;
          replies = subst (All (λ (x : ℕ × Reply). IsSmallReply most x.1)) (sym (called_same m.gathered (record { header = header; body = body; sender = sender })).1) h.replies;
          effects = by_tests (nat_lt header.server_incarnation m.gathered.required) (nat_lt (index_of m.gathered.module header) m.gathered.from)
              (reply_of m.gathered (index_of m.gathered.module header))
              (All-lookup (IsSmallReply most) _ m.gathered.replies h.replies);
        }
      where
        by_tests : (late early : Bool) (o : Option Reply) → IfSome o (IsSmallReply most)
            → AllBrief most (answer_at_once (if late then added.Stale m.gathered.required else if early then added.Before m.gathered.from else option_map_or added.Reply o added.Held) sender)
        by_tests true early o small = one_brief (answer (stale_message m.gathered.required) sender) (stale_brief most m.gathered.required)
        by_tests false true o small = one_brief (answer (before_message m.gathered.from) sender) (before_brief most m.gathered.from)
        by_tests false false None small = All-nil (SaysBriefly most)
        by_tests false false (Some reply) small = one_brief (answer (reply_message reply) sender) (reply_brief most reply small)

    stale_sized : (m : MemberState M) (name : AskName) (server from incarnation : ℕ) → IsSized (begun m) → IsSized (step.handle_stale m name server from incarnation)
    stale_sized m name server from incarnation h =
        record {
          limit = h.limit;
          asks = changed_small name (after_stale m.known from incarnation) m.asks still h.asks;
          replies = h.replies;
          effects = by_ask (asking_of m.asks name) refl;
        }
      where
        still : (a : Asking) → IsSmallAsk most a → IsSmallAsk most (after_stale m.known from incarnation a)
        still a small = by_view (slice_get m.known.views a.header.server)
          where
            by_view : (o : Option View) → IsSmallAsk most (option_map_or (λ (view : View). with_stale view m.known.down from incarnation a) o a)
            by_view None = small
            by_view (Some view) = small

        by_ask : (o : Option Asking) → asking_of m.asks name ≡ o → AllBrief most (option_map_or (call_again m.known name from incarnation) o [])
        by_ask None none = All-nil (SaysBriefly most)
        by_ask (Some a) some = again_brief m.known name from incarnation a (found_holds (IsSmallAsk most) m.asks name a h.asks some)

    told_sized : (m : MemberState M) (request : Request) (table : Table) → IsSized (begun m) → IsSized (step.handle_table m request table)
    told_sized m request table h =
        let view = table.view in
        let k = known_by_table m.known request view in
        record {
          limit = h.limit;
          asks = All-if (λ (e : AskName × Asking). IsSmallAsk most e.1) (is_newer m.known view) (with_new_view k view m.asks) m.asks (seen_small k view m.asks h.asks) h.asks;
          replies = h.replies;
          effects = All-append (SaysBriefly most) _ _
              (All-if (SaysBriefly most) (is_newer m.known view) (calls_for_a_new_view k view m.asks) [] (new_brief k view m.asks h.asks) (All-nil (SaysBriefly most)))
              (All-if (SaysBriefly most) (is_taken_in m.performing.kept.phase _) (state_requests m.place k.down view) [] (states_brief m.place k.down view) (All-nil (SaysBriefly most)));
        }
      where
        seen_small : (k : Knowing) (view : View) (asks : List (AskName × Asking)) → All (λ (e : AskName × Asking). IsSmallAsk most e.1) asks
            → All (λ (e : AskName × Asking). IsSmallAsk most e.1) (with_new_view k view asks)
        seen_small k view asks all =
            All-map (λ (e : AskName × Asking). IsSmallAsk most e.1) (seen_by_ask k view) asks
            (All-weaker (λ (e : AskName × Asking). IsSmallAsk most e.1) (λ (e : AskName × Asking). let x = seen_by_ask k view e in IsSmallAsk most x.1)
            (λ e small. by_to e small (is_to view.troupe e)) asks all)
          where
            by_to : (e : AskName × Asking) → IsSmallAsk most e.1 → (b : Bool) → let x : AskName × Asking = if b then (e.0, with_view view k.down e.1) else e in IsSmallAsk most x.1
            by_to e small true = small
            by_to e small false = small

    restored_sized : (at : ℕ) (m : MemberState M) (state : List ValueTree) (count : ℕ) → IsSized (begun m) → IsSized (step.handle_state at m state count)
    restored_sized at m state count h = by_test (is_fetching m.performing.kept.phase)
      where
        by_test : (t : Bool) → let d : Doing M =
            if t then record { member = record m { performing = made_active at state count m.performing; gathered = with_first m.gathered count }; effects = active_call m.place m.known count ++ before_answers m.gathered count } else record { member = m; effects = [] } in IsSized d
        by_test true =
            record {
              limit = h.limit;
              asks = h.asks;
              replies = h.replies;
              effects =
                  All-append (SaysBriefly most) (active_call m.place m.known count) (before_answers m.gathered count)
                  (ring_brief m.known (Active m.place.troupe m.place.node count)) (answers_brief (before_message count) (gathering.before_answers m.gathered count) (before_brief most count));
            }
        by_test false = h

    handled_sized : (at : ℕ) (o : Occurrence) (m : MemberState M) → IsSized (begun m) → IsSized (handle at o m)
    handled_sized at (comes.Asked header body sender) m h = asked_sized m header body sender h
    handled_sized at (comes.Fetched incarnation sender) m h =
        record {
          limit = h.limit;
          asks = h.asks;
          replies = h.replies;
          effects = answers_brief _ (gathering.stale_answers m.gathered incarnation)
              (stale_brief most (gathering.with_required m.gathered incarnation).required);
        }
    handled_sized at (comes.Replied name from reply) m h =
        record { limit = h.limit; asks = changed_small name (with_reply from reply) m.asks (λ a small. small) h.asks; replies = h.replies; effects = All-nil (SaysBriefly most) }
    handled_sized at (comes.IsStale name server from incarnation) m h = stale_sized m name server from incarnation h
    handled_sized at (comes.IsBefore name from) m h =
        record { limit = h.limit; asks = changed_small name (with_before from) m.asks (λ a small. small) h.asks; replies = h.replies; effects = All-nil (SaysBriefly most) }
    handled_sized at (comes.Told request table) m h = told_sized m request table h
    handled_sized at (comes.Restored state count) m h = restored_sized at m state count h
    handled_sized at (comes.Declared node) m h = record { limit = h.limit; asks = h.asks; replies = h.replies; effects = gone_brief m.place (declared_of m.known node) node }
    handled_sized at comes.Joins m h = record { limit = h.limit; asks = h.asks; replies = h.replies; effects = ring_brief m.known (Join m.place.troupe m.place.node) }

    -- ---- a step

    rested_sized : (d : Doing M) → IsSized d → IsSized (look_up (keep_ask_open d))
    rested_sized d h =
        record {
          limit = h.limit;
          asks = All-filter _ (λ (e : AskName × Asking). IsSmallAsk most e.1) d.member.asks h.asks;
          replies = h.replies;
          effects = All-append (SaysBriefly most) d.effects _ h.effects (lookups_brief d.member.known);
        }

    -- what a member says in a step has few bytes
    pub step_is_sized : (at : ℕ) (o : Occurrence) (m : MemberState M) → CanHappen (declared m.performing.hosted) m o → InRange o → IsSoundNow declared turn first lawful m
        → IsSized (begun m) → IsSized (step_member declared turn at o m)
    step_is_sized at o m can ranges sound h =
        rested_sized (execute declared turn at (handle at o m))
        (executed_keeps declared turn first lawful at IsSized (sized_keeps at) (handle at o m) (sound_once_handled declared turn first lawful at o m sound can ranges) (handled_sized at o m h))

    -- and so at boot
    pub boot_is_sized : (place : Place) (views : List View) (beginning : Beginning) (hosted : M) → IsHome (declared hosted) place views → (declared hosted).limit ≤ most
        → IsSized (boot_member declared turn first place views beginning hosted)
    boot_is_sized place views beginning hosted home limit =
        booted_keeps declared turn first lawful place views hosted home IsSized (sized_keeps 0) beginning (before beginning)
      where
        before : (b : Beginning) → IsSized (begun (before_all declared turn first lawful place views hosted home b))
        before Founder =
            record { limit = limit; asks = All-nil (λ (e : AskName × Asking). IsSmallAsk most e.1); replies = All-nil (λ (x : ℕ × Reply). IsSmallReply most x.1); effects = All-nil (SaysBriefly most) }
        before Spare = record {
          limit = limit;
          asks = All-nil (λ (e : AskName × Asking). IsSmallAsk most e.1);
          replies = All-nil
              (λ (x : ℕ × Reply). IsSmallReply most x.1);
          effects = All-nil (SaysBriefly most);
        }
