-- What a caller's call gets as something happens: a return at once, or nothing yet.
use Rattle.std.proofs.Common.{◌≡◌, ℕ, Bool, true, false, ◌⊎◌, inl, inr, not, cond, if◌then◌else◌, List, [], ◌∷◌, ◌++◌, map, filter, Option, Some, None, refl, sym, ap, ◌∙◌, append-nil}
use Rattle.std.specs.Prelude.{slice_get, nat_eq, nat_lt, max}
use Rattle.std.specs.Option.{option_map_or}
use Rattle.std.specs.Map.{lookup}
use Rattle.std.proofs.lemmas.List.Elements.{filter-append}
use Rattle.circus_value.specs.Among.{is_among}
use Rattle.circus_value.specs.ValueTree.{ValueTree}
use Rattle.circus_value.specs.declared.caller.Caller.{Caller}
use Rattle.circus_header.specs.declared.call.CallHeader.{CallHeader}
use Rattle.circus_header.specs.declared.call.Request.{Request}
use Rattle.circus_header.specs.declared.call.Request.TheVariants.{Join, Active, Gone}
use Rattle.circus_header.specs.declared.answer.Reply.{Reply}
use Rattle.circus_collate.specs.Expecting.{has_node}
use Rattle.circus_collate.specs.declared.table.Table.{Table}
use Rattle.circus_collate.specs.declared.view.View.{View}
use Rattle.circus_fanout.specs.Knowing as knowing
use Rattle.circus_fanout.specs.Knowing.{Knowing, is_newer, note_down as declared_of}
use Rattle.circus_gather.specs.Gathering.{Gathered, index_of, reply_of, answer_to, is_held, is_stale, is_before, with_first}
use Rattle.circus_gather.specs.declared.added.Added.{Added}
use Rattle.circus_gather.specs.declared.added.Added.TheVariants as added
use Rattle.circus_gather.specs.declared.held.HeldCall.{HeldCall}
use Rattle.circus_fanout.specs.Asking.{Asking, calls_for_a_view, next}
use Rattle.circus_fanout.specs.declared.send.Next.{Next}
use Rattle.circus_fanout.specs.declared.send.Next.TheVariants as N
use Rattle.circus_performing.specs.Performing.{is_fetching, made_active}
use Rattle.circus_member_rules.specs.declared.place.Place.{Place}
use Rattle.circus_member_rules.specs.declared.occurrence.AskName.{AskName}
use Rattle.circus_member_rules.specs.declared.occurrence.Effect.{Effect}
use Rattle.circus_member_rules.specs.declared.occurrence.Occurrence.{Occurrence}
use Rattle.circus_member_rules.specs.declared.occurrence.Occurrence.TheVariants as comes
use Rattle.circus_member_rules.specs.Messages.{reply_message, stale_message, before_message}
use Rattle.circus_member_rules.specs.OpenAsks.{asking_of}
use Rattle.circus_member_rules.specs.Rules.{ringmaster, answer, request_call, request_to_ring, message_at_once, answer_at_once, wanted_by_call, call_of_ask, call_for, call_again, is_to, calls_for_view, calls_for_a_new_view, givers, state_request, state_requests, gone_from, gone_call, lookup_call, lookups, active_call, before_answers}
use Rattle.circus_member_rules.specs.MemberState.{MemberState, Doing}
use Rattle.circus_member_rules.specs.Step as step
use Rattle.circus_member_rules.specs.Step.{known_by_table, is_taken_in, handle}
use Rattle.circus_member_theory.specs.Made.{is_caller}
use Rattle.circus_headline_theory.proofs.Owed.Callers.{returned, is_from, filter_no, filter_twice, returned-append, none_mapped, none_flat_mapped, returned_passed}
use Rattle.circus_headline_theory.proofs.Owed.Waiting.{IsQuiet, Waits, HasReply}

-- ---- the rules that make calls alone

module _ (c : Caller) where
  no_request : (k : Knowing) (request : Request) → returned c (request_to_ring k request) ≡ []
  no_request k request = by_test (is_among k.down ringmaster)
    where
      by_test : (b : Bool) → returned c (if b then [] else request_call request ∷ []) ≡ []
      by_test true = refl
      by_test false = refl

  pub no_lookup : (k : Knowing) → returned c (lookups k) ≡ []
  no_lookup k = none_mapped c lookup_call (λ troupe rest. refl) (knowing.lookups k ringmaster)

  no_call_again : (k : Knowing) (name : AskName) (from incarnation : ℕ) (o : Option Asking) → returned c (option_map_or (call_again k name from incarnation) o []) ≡ []
  no_call_again k name from incarnation None = refl
  no_call_again k name from incarnation (Some a) = by_view (slice_get k.views a.header.server)
    where
      by_next : (n : Next) → returned c (call_for k name a n) ≡ []
      by_next (N.Send send) = refl
      by_next (N.Lookup wanted) = refl
      by_next N.Leave = refl

      by_view : (o : Option View) → returned c (option_map_or (λ view. call_for k name a (next view k.down from incarnation)) o []) ≡ []
      by_view None = refl
      by_view (Some view) = by_next (next view k.down from incarnation)

  no_new_call : (k : Knowing) (view : View) (asks : List (AskName × Asking)) → returned c (calls_for_a_new_view k view asks) ≡ []
  no_new_call k view asks =
      none_flat_mapped c (calls_for_view k view) (λ e. none_mapped c (call_of_ask k e.0 e.1) (λ s rest. refl) (calls_for_a_view view k.down e.1.asked)) (filter (is_to view.troupe) asks)

  no_state_request : (place : Place) (down : List ℕ) (view : View) → returned c (state_requests place down view) ≡ []
  no_state_request place down view = none_mapped c (state_request place.troupe view.incarnation) (λ n rest. refl) (givers place.node down view)

  no_gone : (place : Place) (k : Knowing) (node : ℕ) → returned c (gone_call place k node) ≡ []
  no_gone place k node = by_host (slice_get place.troupes node)
    where
      by_view : (troupe : ℕ) (o : Option View) → returned c (option_map_or (λ (v : View). if has_node v node then request_to_ring k (Gone troupe node) else []) o []) ≡ []
      by_view troupe None = refl
      by_view troupe (Some v) = by_test (has_node v node)
        where
          by_test : (b : Bool) → returned c (if b then request_to_ring k (Gone troupe node) else []) ≡ []
          by_test true = no_request k (Gone troupe node)
          by_test false = refl

      by_hosted : (o : Option ℕ) → returned c (option_map_or (gone_from k node) o []) ≡ []
      by_hosted None = refl
      by_hosted (Some troupe) = by_view troupe (slice_get k.views troupe)

      by_host : (o : Option (Option ℕ)) → returned c (option_map_or (λ hosted. option_map_or (gone_from k node) hosted []) o []) ≡ []
      by_host None = refl
      by_host (Some hosted) = by_hosted hosted

  no_told : {M : Type 0} (m : MemberState M) (request : Request) (table : Table) → returned c (step.handle_table m request table).effects ≡ []
  no_told m request table =
      let view = table.view in
      let k = known_by_table m.known request view in
      let kept = m.performing.kept in
      both (is_newer m.known view) (is_taken_in kept.phase (step.kept_by_table kept request table).phase) (calls_for_a_new_view k view m.asks) (state_requests m.place k.down view) (no_new_call k view m.asks) (no_state_request m.place k.down view)
    where
      both : (a b : Bool) (xs ys : List Effect) → returned c xs ≡ [] → returned c ys ≡ [] → returned c ((if a then xs else []) ++ (if b then ys else [])) ≡ []
      both true true xs ys here there = returned-append c xs ys ∙ ap (λ l. l ++ returned c ys) here ∙ there
      both true false xs ys here there = returned-append c xs [] ∙ ap (λ l. l ++ []) here
      both false true xs ys here there = there
      both false false xs ys here there = refl

-- ---- what a held call is owed at once

abbrev pub due : Gathered → HeldCall → Option (List ℕ)
due g call = if is_stale g g.required call then Some (stale_message g.required) else if is_before g g.from call then Some (before_message g.from) else None

-- where it is owed nothing, neither applies
pub neither : (stale before : Bool) (one other : List ℕ) → (if stale then Some one else if before then Some other else None) ≡ None → (stale ≡ false) × (before ≡ false)
neither true before one other is = cc
neither false true one other is = cc
neither false false one other is = (refl, refl)

-- what something that isn't a call of this caller makes of its calls that are held
pub record Tells {M : Type 0} (c : Caller) (m : MemberState M) (d : Doing M) : Type 0 where
  -- which of them get a return, and which return
  pub passes : HeldCall → Bool
  pub message : List ℕ
  pub requests : filter (is_caller c) d.member.requests ≡ filter (is_caller c) m.requests
  pub held : filter (is_from c) d.member.gathered.held ≡ filter (λ x. not (passes x)) (filter (is_from c) m.gathered.held)
  pub returns : returned c d.effects ≡ map (λ (x : HeldCall). message) (filter passes (filter (is_from c) m.gathered.held))
  pub owed : (call : HeldCall) → due m.gathered call ≡ None → due d.member.gathered call ≡ (if passes call then Some message else None)
  pub own : d.member.gathered.module ≡ m.gathered.module
  pub replies : d.member.gathered.replies ≡ m.gathered.replies

-- it is a call of this caller
abbrev pub is_by : Caller → Occurrence → Bool
is_by c (comes.Asked header body sender) = is_caller c sender
is_by c (comes.Fetched incarnation sender) = is_caller c sender
is_by c (comes.Replied name from reply) = false
is_by c (comes.IsStale name server from incarnation) = false
is_by c (comes.IsBefore name from) = false
is_by c (comes.Told request table) = false
is_by c (comes.Restored state count) = false
is_by c (comes.Declared node) = false
is_by c comes.Joins = false

all_stay : {X : Type 0} (xs : List X) → filter (λ x. true) xs ≡ xs
all_stay [] = refl
all_stay (x ∷ xs) = ap (λ l. x ∷ l) (all_stay xs)

none_pass : {X : Type 0} (message : List ℕ) (xs : List X) → map (λ (x : X). message) (filter (λ x. false) xs) ≡ []
none_pass message [] = refl
none_pass message (x ∷ xs) = none_pass message xs

module _ {M : Type 0} (c : Caller) (m : MemberState M) where
  -- where calls are made alone
  tells_none : (d : Doing M) → d.member.gathered ≡ m.gathered → d.member.requests ≡ m.requests → returned c d.effects ≡ [] → Tells c m d
  tells_none d same requests none =
      let held = filter (is_from c) m.gathered.held in
      record {
        passes = λ x. false;
        message = [];
        requests = ap (filter (is_caller c)) requests;
        held = ap (λ (g : Gathered). filter (is_from c) g.held) same ∙ sym (all_stay held);
        returns = none ∙ sym (none_pass [] held);
        owed = λ call is. ap (λ g. due g call) same ∙ is;
        own = ap (λ (g : Gathered). g.module) same;
        replies = ap (λ (g : Gathered). g.replies) same;
      }

  -- a call of another comes
  tells_asked : (header : CallHeader) (body : List ℕ) (sender : Caller) → is_caller c sender ≡ false → Tells c m (step.handle_call m header body sender)
  tells_asked header body sender other = by_test (is_held added)
    where
      call : HeldCall
      call = record { header = header; body = body; sender = sender }

      added : Added
      added = answer_to m.gathered header

      by_message : (o : Option (List ℕ)) → returned c (option_map_or (λ message. answer message sender ∷ []) o []) ≡ []
      by_message None = refl
      by_message (Some message) = ap (λ b. if b then message ∷ [] else []) other

      none : returned c (answer_at_once added sender) ≡ []
      none = by_message (message_at_once added)

      by_test : (b : Bool) → let d : Doing M = record { member = record m { gathered = if b then record m.gathered { held = m.gathered.held ++ call ∷ [] } else m.gathered; known = wanted_by_call added header m.known }; effects = answer_at_once added sender } in Tells c m d
      by_test false = tells_none (record { member = record m { known = wanted_by_call added header m.known }; effects = answer_at_once added sender }) refl refl none
      by_test true =
          let held = filter (is_from c) m.gathered.held in
          record {
            passes = λ x. false;
            message = [];
            requests = refl;
            held = filter-append (is_from c) m.gathered.held (call ∷ []) ∙ ap (λ l. held ++ l) (filter_no (is_from c) call [] other) ∙ append-nil held ∙ sym (all_stay held);
            returns = none ∙ sym (none_pass [] held);
            owed = λ x is. is;
            own = refl;
            replies = refl;
          }

  tells_fetched : (incarnation : ℕ) (sender : Caller) → is_caller c sender ≡ false → Tells c m (step.handle_fetch m incarnation sender)
  tells_fetched incarnation sender other =
      let g = m.gathered in
      let required = max g.required incarnation in
      record {
        passes = is_stale g required;
        message = stale_message required;
        requests = filter-append (is_caller c) m.requests (sender ∷ []) ∙ ap (λ l. filter (is_caller c) m.requests ++ l) (filter_no (is_caller c) sender [] other) ∙ append-nil (filter (is_caller c) m.requests);
        held = filter_twice (is_from c) (λ x. not (is_stale g required x)) g.held;
        returns = returned_passed c (stale_message required) (is_stale g required) g.held;
        owed = λ call is. ap (λ b. if is_stale g required call then Some (stale_message required) else if b then Some (before_message g.from) else None) ((neither (is_stale g g.required call) (is_before g g.from call) _ _ is).1);
        own = refl;
        replies = refl;
      }

  tells_restored : (at : ℕ) (state : List ValueTree) (count : ℕ) → Tells c m (step.handle_state at m state count)
  tells_restored at state count = by_test (is_fetching m.performing.kept.phase)
    where
      by_test : (b : Bool) → let d : Doing M = if b then record { member = record m { performing = made_active at state count m.performing; gathered = with_first m.gathered count }; effects = active_call m.place m.known count ++ before_answers m.gathered count } else record { member = m; effects = [] } in Tells c m d
      by_test false = tells_none (record { member = m; effects = [] }) refl refl refl
      by_test true =
          let g = m.gathered in
          record {
            passes = is_before g count;
            message = before_message count;
            requests = refl;
            held = filter_twice (is_from c) (λ x. not (is_before g count x)) g.held;
            returns = returned-append c (active_call m.place m.known count) (before_answers g count)
                ∙ ap (λ l. l ++ returned c (before_answers g count)) (no_request c m.known (Active m.place.troupe m.place.node count))
                ∙ returned_passed c (before_message count) (is_before g count) g.held;
            owed = λ call is. ap (λ b. if b then Some (stale_message g.required) else if is_before g count call then Some (before_message count) else None) ((neither (is_stale g g.required call) (is_before g g.from call) _ _ is).0);
            own = refl;
            replies = refl;
          }

  pub tells : (at : ℕ) (o : Occurrence) → is_by c o ≡ false → Tells c m (handle at o m)
  tells at (comes.Asked header body sender) other = tells_asked header body sender other
  tells at (comes.Fetched incarnation sender) other = tells_fetched incarnation sender other
  tells at (comes.Replied name from reply) other = tells_none (step.handle_reply m name from reply) refl refl refl
  tells at (comes.IsStale name server from incarnation) other = tells_none (step.handle_stale m name server from incarnation) refl refl (no_call_again c m.known name from incarnation (asking_of m.asks name))
  tells at (comes.IsBefore name from) other = tells_none (step.before m name from) refl refl refl
  tells at (comes.Told request table) other = tells_none (step.handle_table m request table) refl refl (no_told c m request table)
  tells at (comes.Restored state count) other = tells_restored at state count
  tells at (comes.Declared node) other = tells_none (step.declared_down m node) refl refl (no_gone c m.place (declared_of m.known node) node)
  tells at comes.Joins other = tells_none (step.joins m) refl refl (no_request c m.known (Join m.place.troupe m.place.node))

  -- a call that has no reply has none then
  pub told_fresh : (at : ℕ) (o : Occurrence) (call : HeldCall) → is_by c o ≡ false → reply_of m.gathered (index_of m.gathered.module call.header) ≡ None → reply_of (handle at o m).member.gathered (index_of (handle at o m).member.gathered.module call.header) ≡ None
  told_fresh at o call other fresh =
      let t = tells at o other in
      ap (λ rs. lookup (nat_eq (index_of (handle at o m).member.gathered.module call.header)) rs) t.replies ∙ ap (λ n. lookup (nat_eq (index_of n call.header)) m.gathered.replies) t.own ∙ fresh

  -- ---- a caller with no calls, and one whose call waits

  pub quiet_handled : (at : ℕ) (o : Occurrence) → is_by c o ≡ false → filter (is_from c) m.gathered.held ≡ [] → filter (is_caller c) m.requests ≡ [] → IsQuiet c [] (handle at o m)
  quiet_handled at o other held requests =
      let t = tells at o other in
      record {
        returns = t.returns ∙ ap (λ l. map (λ (x : HeldCall). t.message) (filter t.passes l)) held;
        held = t.held ∙ ap (filter (λ x. not (t.passes x))) held;
        requests = t.requests ∙ requests;
      }

  -- it has its return, or waits on
  pub record IsTold (call : HeldCall) (d : Doing M) : Type 0 where
    pub message : List ℕ
    pub quiet : IsQuiet c (message ∷ []) d
    pub is_due : due d.member.gathered call ≡ Some message

  pub record WaitsOn (call : HeldCall) (d : Doing M) : Type 0 where
    pub waits : Waits c call d
    pub not_due : due d.member.gathered call ≡ None

  pub waits_handled : (at : ℕ) (o : Occurrence) (call : HeldCall) → is_by c o ≡ false → filter (is_from c) m.gathered.held ≡ call ∷ [] → filter (is_caller c) m.requests ≡ []
      → reply_of m.gathered (index_of m.gathered.module call.header) ≡ None → due m.gathered call ≡ None → IsTold call (handle at o m) ⊎ WaitsOn call (handle at o m)
  waits_handled at o call other held requests fresh none = by_test (t.passes call) refl
    where
      t : Tells c m (handle at o m)
      t = tells at o other

      by_test : (b : Bool) → t.passes call ≡ b → IsTold call (handle at o m) ⊎ WaitsOn call (handle at o m)
      by_test true is =
          inl (record {
            message = t.message;
            quiet = record {
              returns = t.returns ∙ ap (λ l. map (λ (x : HeldCall). t.message) (filter t.passes l)) held ∙ ap (λ b. map (λ (x : HeldCall). t.message) (cond b (call ∷ []) [])) is;
              held = t.held ∙ ap (filter (λ x. not (t.passes x))) held ∙ ap (λ b. cond (not b) (call ∷ []) []) is;
              requests = t.requests ∙ requests;
            };
            is_due = t.owed call none ∙ ap (λ b. if b then Some t.message else None) is;
          })
      by_test false is =
          inr (record {
            waits = record {
              returns = t.returns ∙ ap (λ l. map (λ (x : HeldCall). t.message) (filter t.passes l)) held ∙ ap (λ b. map (λ (x : HeldCall). t.message) (cond b (call ∷ []) [])) is;
              held = t.held ∙ ap (filter (λ x. not (t.passes x))) held ∙ ap (λ b. cond (not b) (call ∷ []) []) is;
              requests = t.requests ∙ requests;
              fresh = told_fresh at o call other fresh;
            };
            not_due = t.owed call none ∙ ap (λ b. if b then Some t.message else None) is;
          })

-- ---- the call comes

-- what a call is owed as it comes, but for a reply
abbrev pub due_now : Gathered → HeldCall → Option (List ℕ)
due_now g call =
    if nat_lt call.header.server_incarnation g.required then Some (stale_message g.required)
    else if is_before g g.from call then Some (before_message g.from)
    else None

module _ {M : Type 0} (m : MemberState M) (call : HeldCall) where
  -- what stands behind its answer
  abbrev after : Added → Doing M
  after added = record {
    member = record m { gathered = if is_held added then record m.gathered { held = m.gathered.held ++ call ∷ [] } else m.gathered; known = wanted_by_call added call.header m.known };
    effects = answer_at_once added call.sender;
  }

  -- it has a return at once that isn't a reply
  pub record IsRefused (d : Doing M) : Type 0 where
    pub message : List ℕ
    pub quiet : IsQuiet call.sender (message ∷ []) d
    pub is_due : due_now m.gathered call ≡ Some message

  -- or it waits, or has the reply of its run
  pub record IsTaken (d : Doing M) : Type 0 where
    pub fares : Waits call.sender call d ⊎ HasReply call.sender call d
    pub not_due : due_now m.gathered call ≡ None

  pub asked_handled : is_caller call.sender call.sender ≡ true → filter (is_from call.sender) m.gathered.held ≡ [] → filter (is_caller call.sender) m.requests ≡ []
      → IsRefused (step.handle_call m call.header call.body call.sender) ⊎ IsTaken (step.handle_call m call.header call.body call.sender)
  asked_handled own held requests = by_stale (nat_lt call.header.server_incarnation m.gathered.required) refl
    where
      at_once : (message : List ℕ) → returned call.sender (answer message call.sender ∷ []) ≡ message ∷ []
      at_once message = ap (λ b. if b then message ∷ [] else []) own

      by_reply : (o : Option Reply) → reply_of m.gathered (index_of m.gathered.module call.header) ≡ o → let d = after (option_map_or added.Reply o added.Held) in Waits call.sender call d ⊎ HasReply call.sender call d
      by_reply (Some reply) is = inr (record { reply = reply; returns = at_once (reply_message reply); held = held; requests = requests; kept = is })
      by_reply None is =
          inl (record {
            returns = refl;
            held = filter-append (is_from call.sender) m.gathered.held (call ∷ []) ∙ ap (λ l. l ++ filter (is_from call.sender) (call ∷ [])) held ∙ ap (λ b. cond b (call ∷ []) []) own;
            requests = requests;
            fresh = is;
          })

      by_before : (b : Bool) → is_before m.gathered m.gathered.from call ≡ b → due_now m.gathered call ≡ (if b then Some (before_message m.gathered.from) else None)
          → let d = after (if b then added.Before m.gathered.from else option_map_or added.Reply (reply_of m.gathered (index_of m.gathered.module call.header)) added.Held) in IsRefused d ⊎ IsTaken d
      by_before true is none = inl (record { message = before_message m.gathered.from; quiet = record { returns = at_once (before_message m.gathered.from); held = held; requests = requests }; is_due = none })
      by_before false is none = inr (record { fares = by_reply (reply_of m.gathered (index_of m.gathered.module call.header)) refl; not_due = none })

      by_stale : (b : Bool) → nat_lt call.header.server_incarnation m.gathered.required ≡ b
          → let d = after (if b then added.Stale m.gathered.required else if is_before m.gathered m.gathered.from call then added.Before m.gathered.from else option_map_or added.Reply (reply_of m.gathered (index_of m.gathered.module call.header)) added.Held) in IsRefused d ⊎ IsTaken d
      by_stale true is =
          inl (record {
            message = stale_message m.gathered.required;
            quiet = record { returns = at_once (stale_message m.gathered.required); held = held; requests = requests };
            is_due = ap (λ b. if b then Some (stale_message m.gathered.required) else if is_before m.gathered m.gathered.from call then Some (before_message m.gathered.from) else None) is;
          })
      by_stale false is =
          let due : due_now m.gathered call ≡ (if is_before m.gathered m.gathered.from call then Some (before_message m.gathered.from) else None) =
          ap (λ b. if b then Some (stale_message m.gathered.required) else if is_before m.gathered m.gathered.from call then Some (before_message m.gathered.from) else None) is in
          by_before (is_before m.gathered m.gathered.from call) refl due
