-- The nodes that a member calls are not declared down, and other ones of the program.
use Rattle.std.proofs.Common.{◌≡◌, ◌≢◌, ℕ, ◌<◌, Bool, true, false, not, ◌&&◌, if◌then◌else◌, nat_eq, List, [], ◌∷◌, ◌++◌, map, filter, length, set, All, inl, inr, Option, Some, None, refl, sym, ap, subst, ◌∙◌}
use Rattle.std.specs.Prelude.{IfSome, slice_get, ◌==◌, ◌||◌, nat_lt}
use Rattle.std.specs.List.{flat_map, list_any}
use Rattle.std.specs.Option.{option_map_or}
use Rattle.std.proofs.lemmas.Bool.Decides.{eqb_tells}
use Rattle.std.proofs.lemmas.List.Elements.{All-nil, All-cons, All-head, All-tail, All-append, All-map, All-filter, All-weaker}
use Rattle.circus_value.specs.Among.{is_among}
use Rattle.circus_value.specs.ValueTree.{ValueTree}
use Rattle.circus_value.specs.declared.caller.Caller.{Caller}
use Rattle.circus_value.specs.declared.outcome.Outcome.{Outcome}
use Rattle.circus_header.specs.declared.call.CallHeader.{CallHeader}
use Rattle.circus_header.specs.declared.call.Request.{Request}
use Rattle.circus_header.specs.declared.call.Request.TheVariants.{Join, Active, Gone}
use Rattle.circus_collate.specs.Expecting.{has_node}
use Rattle.circus_collate.specs.declared.table.Table.{Table}
use Rattle.circus_collate.specs.declared.view.View.{View}
use Rattle.circus_collate.specs.declared.view.Entry.{Entry}
use Rattle.circus_model.specs.declared.signature.Signature.{Signature}
use Rattle.circus_model.specs.NextTurn.{NextTurn}
use Rattle.circus_model.specs.Behaviour.{IsModule}
use Rattle.circus_record.specs.declared.record.AskRecord.{AskRecord}
use Rattle.circus_record.specs.declared.record.RunRecord.{RunRecord}
use Rattle.circus_fanout.specs.Knowing.{Knowing, is_newer, note_view, note_down as declared_of}
use Rattle.circus_gather.specs.Gathering.{answer_to, with_call, with_first}
use Rattle.circus_gather.specs.Gathering as gathering
use Rattle.circus_gather.specs.declared.added.Added.{Added}
use Rattle.circus_gather.specs.declared.added.Added.TheVariants as added
use Rattle.circus_fanout.specs.Asking.{Asking, send_to, is_due, calls_for_a_view, with_view, with_reply, with_before, with_stale, next}
use Rattle.circus_fanout.specs.declared.asked.Asked.{Asked}
use Rattle.circus_fanout.specs.declared.send.Send.{Send}
use Rattle.circus_fanout.specs.declared.send.Next.TheVariants as N
use Rattle.circus_performing.specs.Performing.{open_ask, last_of, is_fetching, made_active}
use Rattle.circus_performing.specs.Record.{behaviour}
use Rattle.circus_member_rules.specs.declared.place.Place.{Place}
use Rattle.circus_member_rules.specs.declared.place.Beginning.{Beginning}
use Rattle.circus_member_rules.specs.declared.occurrence.AskName.{AskName}
use Rattle.circus_member_rules.specs.declared.occurrence.Effect.{Effect}
use Rattle.circus_member_rules.specs.declared.occurrence.Effect.TheVariants as made
use Rattle.circus_member_rules.specs.declared.occurrence.Occurrence.{Occurrence}
use Rattle.circus_member_rules.specs.declared.occurrence.Occurrence.TheVariants as comes
use Rattle.circus_member_rules.specs.Messages.{reply_message, stale_message, before_message}
use Rattle.circus_member_rules.specs.OpenAsks.{asking_of, with_asking}
use Rattle.circus_member_rules.specs.Rules as rules
use Rattle.circus_member_rules.specs.Rules.{ringmaster, answer, answers, request_to_ring, answer_at_once, wanted_by_call, call_of_ask, calls_of_ask, call_for, call_again, after_stale, is_to, calls_for_view, calls_for_a_new_view, seen_by_ask, with_new_view, may_give, givers, performs_any, state_request, state_requests, gone_from, gone_call, lookup_call, lookups, active_call, before_answers}
use Rattle.circus_member_rules.specs.Happening.{IsHome, CanHappen}
use Rattle.circus_member_rules.specs.Seen.Sound.{IsRunOf}
use Rattle.circus_member_rules.specs.MemberState.{MemberState, Doing}
use Rattle.circus_member_rules.specs.Step as step
use Rattle.circus_member_rules.specs.Step.{name_of_last, asking_begun, known_by_table, boot_member, answered_by_ring, is_taken_in, keep_ask_open, look_up, execute, handle, step_member, opened_by_view}
use Rattle.circus_member_rules.proofs.Named.{All-changed, All-opened, found_holds}
use Rattle.circus_member_rules.proofs.Held.{All-passed}
use Rattle.circus_member_rules.proofs.Homes.{ring_views, declared_views}
use Rattle.circus_member_rules.proofs.Starting.{IsSoundNow}
use Rattle.circus_member_rules.proofs.Turned.{IsTurned, asking_now}
use Rattle.circus_member_theory.specs.Ranges.{InRange}
use Rattle.circus_member_theory.proofs.Resting.{sound_once_handled}
use Rattle.circus_world.proofs.SlotLemmas.{get_set}
use Rattle.circus_world_theory.proofs.Border.Booting.{booted_keeps}
use Rattle.circus_world_theory.proofs.Border.Going.{begun, behaves, Keeps, executed_keeps}

-- ---- what is called

-- a call goes to a node that isn't down, of which this holds
abbrev pub Reaches : List ℕ → (ℕ → Type 0) → Effect → Type 0
Reaches down Q (made.Call to message purpose) = (is_among down to ≡ false) × Q to
Reaches down Q (made.Answer caller message) = Unit {0}

abbrev pub AllReach : List ℕ → (ℕ → Type 0) → List Effect → Type 0
AllReach down Q effects = All (Reaches down Q) effects

-- the nodes of the view of each troupe are of it
abbrev pub AreOf : (ℕ → ℕ → Type 0) → List View → Type 0
AreOf P views = (troupe : ℕ) (view : View) → slice_get views troupe ≡ Some view → All (λ (e : Entry). P troupe e.node) view.entries

-- a node of an earlier troupe may be called, and so may the Ringmaster's, and another one of any troupe
pub record MayBeCalled (P : ℕ → ℕ → Type 0) (Q : ℕ → Type 0) (place : Place) : Type 0 where
  pub earlier : (troupe node : ℕ) → troupe < place.troupe → P troupe node → Q node
  pub ring : Q ringmaster
  pub others : (troupe node : ℕ) → node ≢ place.node → P troupe node → Q node

-- a table tells of nodes of its troupe
abbrev pub TellsOf : (ℕ → ℕ → Type 0) → Occurrence → Type 0
TellsOf P (comes.Asked header body sender) = Unit {0}
TellsOf P (comes.Fetched incarnation sender) = Unit {0}
TellsOf P (comes.Replied name from reply) = Unit {0}
TellsOf P (comes.IsStale name server from incarnation) = Unit {0}
TellsOf P (comes.IsBefore name from) = Unit {0}
TellsOf P (comes.Told request table) = All (λ (e : Entry). P table.view.troupe e.node) table.view.entries
TellsOf P (comes.Restored state count) = Unit {0}
TellsOf P (comes.Declared node) = Unit {0}
TellsOf P comes.Joins = Unit {0}

-- ---- lists

not_first : (b c : Bool) → (not b && c) ≡ true → b ≡ false
not_first true c is = cc
not_first false c is = refl

three : (a b c : Bool) → (a && not b && not c) ≡ true → (b ≡ false) × (c ≡ false)
three true true true is = cc
three true true false is = cc
three true false true is = cc
three true false false is = (refl, refl)
three false true true is = cc
three false true false is = cc
three false false true is = cc
three false false false is = cc

has_one : (Q : ℕ → Type 0) (node : ℕ) (es : List Entry) → All (λ (e : Entry). Q e.node) es → list_any (λ (e : Entry). e.node == node) es ≡ true → Q node
has_one Q node [] all has = cc
has_one Q node (e ∷ es) all has = elim (eqb_tells e.node node) [
  | inl same ↦ subst Q same.1 (All-head (λ (e : Entry). Q e.node) e es all)
  | inr differ ↦ has_one Q node es (All-tail (λ (e : Entry). Q e.node) e es all) (sym (ap (λ b. b || list_any (λ (e : Entry). e.node == node) es) differ.0) ∙ has)
]

pub All-flat_map : {X Y : Type 0} (P : Y → Type 0) (f : X → List Y) (xs : List X) → All (λ x. All P (f x)) xs → All P (flat_map f xs)
All-flat_map P f [] all = All-nil P
All-flat_map P f (x ∷ xs) all = All-append P (f x) (flat_map f xs) (All-head (λ x. All P (f x)) x xs all) (All-flat_map P f xs (All-tail (λ x. All P (f x)) x xs all))

pub All-if : {X : Type 0} (P : X → Type 0) (b : Bool) (xs ys : List X) → All P xs → All P ys → All P (if b then xs else ys)
All-if P true xs ys one other = one
All-if P false xs ys one other = other

-- ---- what is known

pub told_of : (P : ℕ → ℕ → Type 0) (k : Knowing) (view : View) → All (λ (e : Entry). P view.troupe e.node) view.entries → AreOf P k.views → AreOf P (note_view k view).views
told_of P k view new old = by_test (is_newer k view)
  where
    by_test : (b : Bool) → let t : Knowing = if b then record k { views = set k.views view.troupe view } else k in AreOf P t.views
    by_test true = λ troupe v at.
        elim (get_set k.views view.troupe troupe view v at) [
          | inl same ↦ subst (λ (x : View). All (λ (e : Entry). P troupe e.node) x.entries) (sym same.1) (subst (λ t. All (λ (e : Entry). P t e.node) view.entries) (sym same.0) new)
          | inr there ↦ old troupe v there
        ]
    by_test false = old

module _ (P : ℕ → ℕ → Type 0) (Q : ℕ → Type 0) (place : Place) (may : MayBeCalled P Q place) where
  -- what holds of a step so far
  pub record IsReaching {M : Type 0} (d : Doing M) : Type 0 where
    pub at : d.member.place ≡ place
    pub views : AreOf P d.member.known.views
    -- an ask goes to an earlier troupe
    pub asks : All (λ (e : AskName × Asking). e.1.header.server < place.troupe) d.member.asks
    pub effects : AllReach d.member.known.down Q d.effects

  -- ---- the rules

  pub answers_reach : (down message : List ℕ) (callers : List Caller) → AllReach down Q (answers message callers)
  answers_reach down message callers = All-map (Reaches down Q) (answer message) callers (λ i d within. tt)

  pub due_reach : (k : Knowing) (name : AskName) (a : Asking) (view : View) (asked : List Asked) → All (λ (e : Entry). Q e.node) view.entries
      → AllReach k.down Q (calls_of_ask k name a (calls_for_a_view view k.down asked))
  unfolding calls_for_a_view
  due_reach k name a view asked all =
      All-map (Reaches k.down Q) (call_of_ask k name a) (map (λ (e : Entry). send_to view e.node) (filter (is_due view k.down asked) view.entries))
      (All-map (λ (s : Send). Reaches k.down Q (call_of_ask k name a s)) (λ (e : Entry). send_to view e.node) (filter (is_due view k.down asked) view.entries)
      (All-passed (λ (e : Entry). Q e.node) (λ (e : Entry). Reaches k.down Q (call_of_ask k name a (send_to view e.node))) (is_due view k.down asked) view.entries
      (λ e due here. (not_first (is_among k.down e.node) _ due, here)) all))

  -- nodes of an earlier troupe
  pub earlier_all : (troupe : ℕ) (es : List Entry) → troupe < place.troupe → All (λ (e : Entry). P troupe e.node) es → All (λ (e : Entry). Q e.node) es
  earlier_all troupe es below all = λ i d within. may.earlier troupe _ below (all i d within)

  pub again_reach : (k : Knowing) (name : AskName) (from incarnation : ℕ) (a : Asking) → AreOf P k.views → a.header.server < place.troupe
      → AllReach k.down Q (call_again k name from incarnation a)
  unfolding next
  again_reach k name from incarnation a views below = by_known (slice_get k.views a.header.server) refl
    where
      by_test : (view : View) → All (λ (e : Entry). Q e.node) view.entries → (late : Bool) (has : Bool) → has_node view from ≡ has → (gone : Bool) → is_among k.down from ≡ gone
          → AllReach k.down Q (call_for k name a (if late then N.Lookup incarnation else if has && not gone then N.Send (send_to view from) else N.Leave))
      by_test view all true has is gone down = All-nil (Reaches k.down Q)
      by_test view all false true is true down = All-nil (Reaches k.down Q)
      by_test view all false true is false down = All-cons (Reaches k.down Q) (call_of_ask k name a (send_to view from)) [] (down, has_one Q from view.entries all is) (All-nil (Reaches k.down Q))
      by_test view all false false is gone down = All-nil (Reaches k.down Q)

      by_known : (o : Option View) → slice_get k.views a.header.server ≡ o
          → AllReach k.down Q (option_map_or (λ view. call_for k name a (next view k.down from incarnation)) o [])
      by_known None none = All-nil (Reaches k.down Q)
      by_known (Some view) some =
          by_test view (earlier_all a.header.server view.entries below (views a.header.server view some)) (nat_lt view.incarnation incarnation) (has_node view from) refl (is_among k.down from) refl

  pub ring_reaches : (k : Knowing) (request : Request) → AllReach k.down Q (request_to_ring k request)
  ring_reaches k request = by_test (is_among k.down ringmaster) refl
    where
      by_test : (b : Bool) → is_among k.down ringmaster ≡ b → AllReach k.down Q (if b then [] else rules.request_call request ∷ [])
      by_test true is = All-nil (Reaches k.down Q)
      by_test false is = All-cons (Reaches k.down Q) (rules.request_call request) [] (is, may.ring) (All-nil (Reaches k.down Q))

  pub lookups_reach : (k : Knowing) → AllReach k.down Q (lookups k)
  lookups_reach k = by_test (is_among k.down ringmaster) refl _
    where
      by_test : (b : Bool) → is_among k.down ringmaster ≡ b → (troupes : List ℕ) → AllReach k.down Q (map lookup_call (if b then [] else troupes))
      by_test true is troupes = All-nil (Reaches k.down Q)
      by_test false is troupes = All-map (Reaches k.down Q) lookup_call troupes (λ i d within. (is, may.ring))

  pub new_reach : (k : Knowing) (view : View) (asks : List (AskName × Asking)) → All (λ (e : Entry). P view.troupe e.node) view.entries
      → All (λ (e : AskName × Asking). e.1.header.server < place.troupe) asks → AllReach k.down Q (calls_for_a_new_view k view asks)
  new_reach k view asks are below =
      All-flat_map (Reaches k.down Q) (calls_for_view k view) (filter (is_to view.troupe) asks)
      (All-passed (λ (e : AskName × Asking). e.1.header.server < place.troupe) (λ (e : AskName × Asking). AllReach k.down Q (calls_for_view k view e)) (is_to view.troupe) asks
      (λ e to low. due_reach k e.0 e.1 view e.1.asked (earlier_all view.troupe view.entries (subst (λ t. t < place.troupe) (same_troupe e.1.header.server view.troupe to) low) are)) below)
    where
      same_troupe : (a b : ℕ) → nat_eq a b ≡ true → a ≡ b
      same_troupe a b is = elim (eqb_tells a b) [ inl same ↦ same.1 | inr differ ↦ cc (is, differ.0) ]

  pub states_reach : (down : List ℕ) (view : View) → All (λ (e : Entry). P view.troupe e.node) view.entries → AllReach down Q (state_requests place down view)
  states_reach down view are =
      All-map (Reaches down Q) (state_request place.troupe view.incarnation) (givers place.node down view)
      (All-map (λ (n : ℕ). Reaches down Q (state_request place.troupe view.incarnation n)) (λ (e : Entry). e.node) (filter (may_give place.node down) view.entries)
      (All-passed (λ (e : Entry). P view.troupe e.node) (λ (e : Entry). Reaches down Q (state_request place.troupe view.incarnation e.node)) (may_give place.node down) view.entries
      (λ e gives of. one e (performs_any e.since) gives of) are))
    where
      one : (e : Entry) (performs : Bool) → (performs && not (nat_eq e.node place.node) && not (is_among down e.node)) ≡ true → P view.troupe e.node
          → Reaches down Q (state_request place.troupe view.incarnation e.node)
      one e performs gives of =
          let tests = three performs (nat_eq e.node place.node) (is_among down e.node) gives in
          (tests.1, may.others view.troupe e.node (elim (eqb_tells e.node place.node) [ inl same ↦ cc (tests.0, same.0) | inr differ ↦ differ.1 ]) of)

  pub gone_reaches : (k : Knowing) (node : ℕ) → AllReach k.down Q (gone_call place k node)
  gone_reaches k node = by_host (slice_get place.troupes node)
    where
      by_has : (troupe : ℕ) (b : Bool) → AllReach k.down Q (if b then request_to_ring k (Gone troupe node) else [])
      by_has troupe true = ring_reaches k (Gone troupe node)
      by_has troupe false = All-nil (Reaches k.down Q)

      by_view : (troupe : ℕ) (o : Option View) → AllReach k.down Q (option_map_or (λ (v : View). if has_node v node then request_to_ring k (Gone troupe node) else []) o [])
      by_view troupe None = All-nil (Reaches k.down Q)
      by_view troupe (Some v) = by_has troupe (has_node v node)

      by_hosted : (o : Option ℕ) → AllReach k.down Q (option_map_or (gone_from k node) o [])
      by_hosted None = All-nil (Reaches k.down Q)
      by_hosted (Some troupe) = by_view troupe (slice_get k.views troupe)

      by_host : (o : Option (Option ℕ)) → AllReach k.down Q (option_map_or (λ hosted. option_map_or (gone_from k node) hosted []) o [])
      by_host None = All-nil (Reaches k.down Q)
      by_host (Some hosted) = by_hosted hosted

  -- ---- what an execution does

  module _ {M : Type 0} (declared : M → Signature) (turn : M → List ValueTree → ℕ → List ValueTree → List Outcome → NextTurn) (first : M → List ValueTree)
      (lawful : (hosted : M) → IsModule (behaviour declared turn first hosted)) where
    reaching_keeps : (step : ℕ) → Keeps declared turn first lawful step IsReaching
    reaching_keeps step =
        record {
          gives = λ d sound idle h. record {
            at = h.at;
            views = h.views;
            asks = h.asks;
            effects = All-append (Reaches d.member.known.down Q) d.effects _ h.effects (answers_reach d.member.known.down _ d.member.requests);
          };
          enters = λ d start sound may h. record { at = h.at; views = h.views; asks = h.asks; effects = h.effects };
          answers = λ d reply sound value h. record { at = h.at; views = h.views; asks = h.asks; effects = h.effects };
          opens = opens;
          ends = λ d run turned at none h. record {
            at = h.at;
            views = h.views;
            asks = h.asks;
            effects = All-append (Reaches d.member.known.down Q) d.effects _ h.effects (answers_reach d.member.known.down _ _);
          };
        }
      where
        opens : (d : Doing M) (run : RunRecord) (ask : AskRecord) (view : View) → IsTurned (behaves declared turn first lawful d) d.member
            → last_of d.member.performing.kept.runs ≡ Some run → open_ask d.member.performing.kept ≡ Some ask
            → slice_get d.member.known.views ask.callee ≡ Some view → IsReaching d
            → IsReaching (opened_by_view d (name_of_last d.member.performing.kept) (asking_begun d.member.place d.member.performing.kept run ask) view)
        opens d run ask view turned at is there h =
            let m = d.member in
            let b = behaves declared turn first lawful d in
            let of : IsRunOf m.place.troupe (length m.known.views) run = subst (λ o. IfSome o (IsRunOf m.place.troupe (length m.known.views))) at turned.run in
            let asking = asking_now b (lawful m.performing.hosted) m run ask at is turned.home of turned.kept in
            let below : ask.callee < place.troupe = subst (λ (p : Place). ask.callee < p.troupe) h.at asking.below in
            let a = asking_begun m.place m.performing.kept run ask in
            record {
              at = h.at;
              views = h.views;
              asks = All-opened (λ (x : Asking). x.header.server < place.troupe) m.asks (name_of_last m.performing.kept) (with_view view m.known.down a) below h.asks;
              effects = All-append (Reaches m.known.down Q) d.effects _ h.effects
                  (due_reach m.known (name_of_last m.performing.kept) a view [] (earlier_all ask.callee view.entries below (h.views ask.callee view there)));
            }

    -- ---- what happens is handled

    -- an ask changed so goes to the same troupe
    changed_below : (name : AskName) (change : Asking → Asking) (asks : List (AskName × Asking)) → ((a : Asking) → (change a).header ≡ a.header)
        → All (λ (e : AskName × Asking). e.1.header.server < place.troupe) asks → All (λ (e : AskName × Asking). e.1.header.server < place.troupe) (with_asking name change asks)
    changed_below name change asks same all =
        All-changed (λ (a : Asking). a.header.server < place.troupe) name change asks (λ a is low. subst (λ (x : CallHeader). x.server < place.troupe) (sym (same a)) low) all

    asked_reaching : (m : MemberState M) (header : CallHeader) (body : List ℕ) (sender : Caller) → IsReaching (begun m) → IsReaching (step.handle_call m header body sender)
    asked_reaching m header body sender h = by_added (answer_to m.gathered header)
      where
        by_added : (a : Added) → let d : Doing M =
            record {
              member = record m {
                gathered = with_call m.gathered
                    (record { header = header; body = body; sender = sender });
                known = wanted_by_call a header m.known;
              };
              effects = answer_at_once a sender;
            } in IsReaching d
        by_added (added.Reply reply) =
            record { at = h.at; views = h.views; asks = h.asks; effects = All-cons (Reaches m.known.down Q) (answer (reply_message reply) sender) [] tt (All-nil (Reaches m.known.down Q)) }
        by_added (added.Stale required) =
            record { at = h.at; views = h.views; asks = h.asks; effects = All-cons (Reaches m.known.down Q) (answer (stale_message required) sender) [] tt (All-nil (Reaches m.known.down Q)) }
        by_added (added.Before start) =
            record { at = h.at; views = h.views; asks = h.asks; effects = All-cons (Reaches m.known.down Q) (answer (before_message start) sender) [] tt (All-nil (Reaches m.known.down Q)) }
        by_added added.Held = record { at = h.at; views = h.views; asks = h.asks; effects = All-nil (Reaches m.known.down Q) }

    stale_reaching : (m : MemberState M) (name : AskName) (server from incarnation : ℕ) → IsReaching (begun m) → IsReaching (step.handle_stale m name server from incarnation)
    stale_reaching m name server from incarnation h =
        record {
          at = h.at;
          views = h.views;
          asks = changed_below name (after_stale m.known from incarnation) m.asks header h.asks;
          effects = by_ask (asking_of m.asks name) refl;
        }
      where
        header : (a : Asking) → (after_stale m.known from incarnation a).header ≡ a.header
        header a = by_view (slice_get m.known.views a.header.server)
          where
            by_view : (o : Option View) → let x = option_map_or (λ (view : View). with_stale view m.known.down from incarnation a) o a in x.header ≡ a.header
            by_view None = refl
            by_view (Some view) = refl

        by_ask : (o : Option Asking) → asking_of m.asks name ≡ o → AllReach m.known.down Q (option_map_or (call_again m.known name from incarnation) o [])
        by_ask None none = All-nil (Reaches m.known.down Q)
        by_ask (Some a) some = again_reach m.known name from incarnation a h.views (found_holds (λ (x : Asking). x.header.server < place.troupe) m.asks name a h.asks some)

    told_reaching : (m : MemberState M) (request : Request) (table : Table) → All (λ (e : Entry). P table.view.troupe e.node) table.view.entries → IsReaching (begun m)
        → IsReaching (step.handle_table m request table)
    told_reaching m request table are h =
        let view = table.view in
        let k = known_by_table m.known request view in
        record {
          at = h.at;
          views = told_of P (answered_by_ring m.known request view.troupe) view are (subst (AreOf P) (sym (ring_views m.known request view.troupe)) h.views);
          asks = by_newer (is_newer m.known view);
          effects = All-append (Reaches k.down Q) _ _
              (All-if (Reaches k.down Q) (is_newer m.known view) (calls_for_a_new_view k view m.asks) [] (new_reach k view m.asks are h.asks) (All-nil (Reaches k.down Q)))
              (All-if (Reaches k.down Q) (is_taken_in m.performing.kept.phase _) (state_requests m.place k.down view) []
              (subst (λ p. AllReach k.down Q (state_requests p k.down view)) (sym h.at) (states_reach k.down view are)) (All-nil (Reaches k.down Q)));
        }
      where
        seen_below : (asks : List (AskName × Asking)) → All (λ (e : AskName × Asking). e.1.header.server < place.troupe) asks
            → All (λ (e : AskName × Asking). e.1.header.server < place.troupe) (with_new_view (known_by_table m.known request table.view) table.view asks)
        seen_below asks all =
            All-map (λ (e : AskName × Asking). e.1.header.server < place.troupe) (seen_by_ask (known_by_table m.known request table.view) table.view) asks
            (All-weaker (λ (e : AskName × Asking). e.1.header.server < place.troupe)
            (λ (e : AskName × Asking). let x = seen_by_ask (known_by_table m.known request table.view) table.view e in x.1.header.server < place.troupe)
            (λ e low. by_to e low (is_to table.view.troupe e)) asks all)
          where
            by_to : (e : AskName × Asking) → e.1.header.server < place.troupe → (b : Bool) → let x : AskName × Asking =
                if b then (e.0, with_view table.view (known_by_table m.known request table.view).down e.1) else e in x.1.header.server < place.troupe
            by_to e low true = low
            by_to e low false = low

        by_newer : (b : Bool)
            → All (λ (e : AskName × Asking). e.1.header.server < place.troupe) (if b then with_new_view (known_by_table m.known request table.view) table.view m.asks else m.asks)
        by_newer true = seen_below m.asks h.asks
        by_newer false = h.asks

    restored_reaching : (at : ℕ) (m : MemberState M) (state : List ValueTree) (count : ℕ) → IsReaching (begun m) → IsReaching (step.handle_state at m state count)
    restored_reaching at m state count h = by_test (is_fetching m.performing.kept.phase)
      where
        by_test : (t : Bool) → let d : Doing M =
            if t then record { member = record m { performing = made_active at state count m.performing; gathered = with_first m.gathered count }; effects = active_call m.place m.known count ++ before_answers m.gathered count } else record { member = m; effects = [] } in IsReaching d
        by_test true = record {
          at = h.at;
          views = h.views;
          asks = h.asks;
          effects = All-append (Reaches m.known.down Q) (active_call m.place m.known count)
              (before_answers m.gathered count) (ring_reaches m.known (Active m.place.troupe m.place.node count))
              (answers_reach m.known.down (before_message count) (gathering.before_answers m.gathered count));
        }
        by_test false = h

    declared_reaching : (m : MemberState M) (node : ℕ) → IsReaching (begun m) → IsReaching (step.declared_down m node)
    declared_reaching m node h =
        record {
          at = h.at;
          views = subst (AreOf P) (sym (declared_views m.known node)) h.views;
          asks = h.asks;
          effects = subst (λ p. AllReach (declared_of m.known node).down Q (gone_call p (declared_of m.known node) node)) (sym h.at) (gone_reaches (declared_of m.known node) node);
        }

    handled_reaching : (at : ℕ) (o : Occurrence) (m : MemberState M) → TellsOf P o → IsReaching (begun m) → IsReaching (handle at o m)
    handled_reaching at (comes.Asked header body sender) m tells h = asked_reaching m header body sender h
    handled_reaching at (comes.Fetched incarnation sender) m tells h = record { at = h.at; views = h.views; asks = h.asks; effects = answers_reach m.known.down _ _ }
    handled_reaching at (comes.Replied name from reply) m tells h =
        record { at = h.at; views = h.views; asks = changed_below name (with_reply from reply) m.asks (λ a. refl) h.asks; effects = All-nil (Reaches m.known.down Q) }
    handled_reaching at (comes.IsStale name server from incarnation) m tells h = stale_reaching m name server from incarnation h
    handled_reaching at (comes.IsBefore name from) m tells h =
        record { at = h.at; views = h.views; asks = changed_below name (with_before from) m.asks (λ a. refl) h.asks; effects = All-nil (Reaches m.known.down Q) }
    handled_reaching at (comes.Told request table) m tells h = told_reaching m request table tells h
    handled_reaching at (comes.Restored state count) m tells h = restored_reaching at m state count h
    handled_reaching at (comes.Declared node) m tells h = declared_reaching m node h
    handled_reaching at comes.Joins m tells h = record { at = h.at; views = h.views; asks = h.asks; effects = ring_reaches m.known (Join m.place.troupe m.place.node) }

    -- ---- a step

    ended_reaching : (d : Doing M) → IsReaching d → IsReaching (look_up (keep_ask_open d))
    ended_reaching d h =
        record {
          at = h.at;
          views = h.views;
          asks = All-filter _ (λ (e : AskName × Asking). e.1.header.server < place.troupe) d.member.asks h.asks;
          effects = All-append (Reaches d.member.known.down Q) d.effects _ h.effects (lookups_reach d.member.known);
        }

    -- what a member calls in a step isn't down behind it, and may be called
    pub step_reaches : (at : ℕ) (o : Occurrence) (m : MemberState M) → CanHappen (declared m.performing.hosted) m o → InRange o → TellsOf P o
        → IsSoundNow declared turn first lawful m
        → IsReaching (begun m) → IsReaching (step_member declared turn at o m)
    step_reaches at o m can ranges tells sound h =
        ended_reaching (execute declared turn at (handle at o m))
        (executed_keeps declared turn first lawful at IsReaching (reaching_keeps at) (handle at o m) (sound_once_handled declared turn first lawful at o m sound can ranges)
        (handled_reaching at o m tells h))

    -- and so at boot
    pub boot_reaches : (views : List View) (beginning : Beginning) (hosted : M) → IsHome (declared hosted) place views → AreOf P views
        → IsReaching (boot_member declared turn first place views beginning hosted)
    boot_reaches views beginning hosted home are =
        booted_keeps declared turn first lawful place views hosted home IsReaching (reaching_keeps 0) beginning
        (record { at = refl; views = are; asks = All-nil (λ (e : AskName × Asking). e.1.header.server < place.troupe); effects = All-nil (Reaches [] Q) })
