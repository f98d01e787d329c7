-- A node at its border: what it makes in a step is handed to its pairs, none of it left out, each return as one, and the same holds behind that.
use Rattle.std.proofs.Common.{◌≡◌, ℕ, ◌+◌, ◌*◌, ◌≤◌, Bool, true, false, not, ◌&&◌, eqb, List, [], ◌∷◌, ◌++◌, length, map, ◌⊎◌, inl, inr, Option, Some, None, refl, sym, ap, subst, ◌∙◌, arith, length-append}
use Rattle.std.specs.Prelude.{◌||◌}
use Rattle.std.specs.List.{flat_map}
use Rattle.std.specs.Option.{option_map_or}
use Rattle.std.proofs.lemmas.List.Elements.{All-nil, All-cons}
use Rattle.std.proofs.lemmas.List.Sums.{fold-append}
use Rattle.circus_value.specs.Among.{is_among}
use Rattle.circus_value.specs.ValueTree.{ValueTree}
use Rattle.circus_value.specs.declared.caller.Caller.{Caller}
use Rattle.circus_value.specs.declared.outcome.Outcome.{Outcome}
use Rattle.circus_limits.specs.Limits.{limit_of}
use Rattle.circus_header.specs.Field.{bytes_of}
use Rattle.circus_header.specs.ReturnFields.{return_fields}
use Rattle.circus_header.specs.declared.call.Request.{Request}
use Rattle.circus_header.specs.declared.answer.ReturnHeader.TheVariants as says
use Rattle.circus_collate.specs.Deployment.{IsDeployment}
use Rattle.circus_collate.specs.declared.deployment.Deployment.{Deployment}
use Rattle.circus_collate.specs.declared.table.Table.{Table}
use Rattle.circus_collate.specs.declared.view.Since.{Since}
use Rattle.circus_collate.specs.declared.view.Since.TheVariants.{Joining, From}
use Rattle.circus_collate.specs.declared.view.Entry.{Entry}
use Rattle.circus_ring.specs.RingTable.{Kept, boot_views, table_by, kept_by}
use Rattle.circus_ring.specs.TableFields.{entry_fields, table_fields, IsTable}
use Rattle.circus_model.specs.declared.signature.Signature.{Signature}
use Rattle.circus_model.specs.NextTurn.{NextTurn}
use Rattle.circus_model.specs.Behaviour.{IsModule}
use Rattle.circus_performing.specs.Record.{behaviour}
use Rattle.circus_wire.specs.declared.delivery.Heard.{Heard}
use Rattle.circus_wire.specs.declared.delivery.Heard.TheVariants.{Dropped, Taken, Called, Returned}
use Rattle.circus_wire.specs.Wire.{WireState, Beginning, is_up}
use Rattle.circus_wire.specs.WireActs.{WireActs}
use Rattle.circus_member_rules.specs.declared.occurrence.Purpose.{Purpose}
use Rattle.circus_member_rules.specs.declared.occurrence.Occurrence.{Occurrence}
use Rattle.circus_member_rules.specs.declared.occurrence.Occurrence.TheVariants as comes
use Rattle.circus_member_rules.specs.Rules.{answer}
use Rattle.circus_member_rules.specs.Happening.{CanHappen}
use Rattle.circus_member_rules.specs.MemberState.{MemberState}
use Rattle.circus_node.specs.Accepting.{occurrence_of_heard, accepted_request}
use Rattle.circus_node.specs.NodeState.{Acting, member, ringmaster}
use Rattle.circus_node.specs.Making.{Made, hears, arrives_at_member, called_at_ring, performs, table_message, learns_down, is_told_to_join, happens, keep_acting, refuse, by_ring, consequences, a_drop}
use Rattle.circus_node.specs.Seen.Kept.{IsRingOf}
use Rattle.circus_node.proofs.RingLemmas.{is_table, still_ring}
use Rattle.circus_world_theory.specs.NodeActs.{with_all}
use Rattle.circus_world_theory.specs.Histories.{beginning_of}
use Rattle.circus_member_theory.specs.Ranges.{InRange}
use Rattle.circus_world_theory.proofs.Border.Brief.{IsBrief, fields_few}
use Rattle.circus_world_theory.proofs.Border.Sizing.{SaysBriefly, AllBrief}
use Rattle.circus_world_theory.proofs.Border.Waiting.{is_caller, one_if, waiting_at}
use Rattle.circus_world_theory.proofs.Border.Telling.{calls_heard, accepted_is}
use Rattle.circus_world_theory.proofs.Border.Pairs.{awaits_in}
use Rattle.circus_world_theory.proofs.Border.Hosting.{IsOtherOf}
use Rattle.circus_world_theory.proofs.Border.Handing.{GoesUp, AllGoUp, AreReturns, all_returned, one_if_on, is_same}
use Rattle.circus_world_theory.proofs.Border.Members.{declared_among, WaitAs, IsMemberAt, MayStep, happens_sent}
use Rattle.circus_world_theory.specs.Made.{act_of}

-- ---- a table is short

entries_few : (es : List Entry) → length (flat_map entry_fields es) ≡ 3 * length es
entries_few [] = refl
entries_few (e ∷ es) = by_since (entries_few es) e.since
  where
    by_since : length (flat_map entry_fields es) ≡ 3 * length es → (s : Since) → length (entry_fields (record { node = e.node; since = s }) ++ flat_map entry_fields es) ≡ 3 * length (e ∷ es)
    by_since rest Joining = omega arith
    by_since rest (From start) = omega arith

table_brief : (most : ℕ) (table : Table) → 200 ≤ most → IsTable table → IsBrief most (table_message table)
table_brief most table some is =
    let entries = entries_few table.view.entries in
    let few = is.few in
    let front = fields_few (return_fields says.Table) in
    let behind = fields_few (table_fields table) in
    let front_low = front.0 in
    let front_high = front.1 in
    let behind_high = behind.1 in
    let both = length-append (bytes_of (return_fields says.Table)) (bytes_of (table_fields table)) in
    (omega arith, omega arith)

some_limit : (format : ℕ) → (format ≡ 1) ⊎ (format ≡ 2) → 200 ≤ limit_of format
some_limit format (inl one) = subst (λ f. 200 ≤ limit_of f) (sym one) (omega arith)
some_limit format (inr two) = subst (λ f. 200 ≤ limit_of f) (sym two) (omega arith)

module _ {M : Type 0} (declared : M → Signature) (turn : M → List ValueTree → ℕ → List ValueTree → List Outcome → NextTurn) (first : M → List ValueTree)
    (lawful : (hosted : M) → IsModule (behaviour declared turn first hosted)) (d : Deployment) (is : IsDeployment d) (own : ℕ) where
  abbrev begins : Beginning
  begins = beginning_of d own

  -- what a node does, whose pairs are these, at which these acts have happened
  abbrev pub AtBorder : WireState Purpose → WireActs Purpose → Acting M → Type 0
  AtBorder w acts (member m) = IsMemberAt declared turn first lawful d is own w acts m
  AtBorder w acts (ringmaster kept) = IsRingOf d kept

  -- what is made is sent
  pub record IsMadeAt (w : WireState Purpose) (acts : WireActs Purpose) (made : Made M) : Type 0 where
    pub up : AllGoUp w made.came.effects
    pub brief : AllBrief (limit_of d.format) made.came.effects
    pub returns : AreReturns begins acts made.came.effects
    pub acting : AtBorder w (with_all acts (map act_of made.came.effects)) made.acting

  -- what a member accepts can happen to it
  abbrev pub TakesRightly : ℕ → Heard Purpose → Acting M → Type 0
  TakesRightly from heard (member m) = (o : Occurrence) → occurrence_of_heard d (declared m.performing.hosted) m from heard ≡ Some o → CanHappen (declared m.performing.hosted) m o × InRange o
  TakesRightly from heard (ringmaster kept) = Unit {0}

  nothing_made : (w : WireState Purpose) (acts : WireActs Purpose) (a : Acting M) → AtBorder w acts a → IsMadeAt w acts (refuse a)
  nothing_made w acts a at = record { up = All-nil (GoesUp w); brief = All-nil (SaysBriefly (limit_of d.format)); returns = tt; acting = at }

  nothing_new : (w : WireState Purpose) (acts : WireActs Purpose) (a : Acting M) → AtBorder w acts a → IsMadeAt w acts (keep_acting a)
  nothing_new w acts a at = record { up = All-nil (GoesUp w); brief = All-nil (SaysBriefly (limit_of d.format)); returns = tt; acting = at }

  -- ---- the wire and the acts go on, and the node stays as it is

  pub still_at : (v w : WireState Purpose) (before acts : WireActs Purpose) (a : Acting M) → ((node : ℕ) → IsOtherOf d own node → is_up w node ≡ is_up v node)
      → ((c : Caller) → awaits_in begins before c ≡ true → awaits_in begins acts c ≡ true)
      → AtBorder v before a → AtBorder w acts a
  still_at v w before acts (member m) up still h =
      record {
        place = h.place;
        at_own = h.at_own;
        own_hosts = h.own_hosts;
        sound = h.sound;
        reaching = h.reaching;
        sized = h.sized;
        up = λ node other. up node other ∙ h.up node other;
        waits = λ c. (let most = h.waits c in let on_ = one_if_on (awaits_in begins before c) (awaits_in begins acts c) (still c) in omega (arith, most, on_));
      }
  still_at v w before acts (ringmaster kept) up still h = h

  -- something happens to a member
  happened : (w v : WireState Purpose) (before acts : WireActs Purpose) (at : ℕ) (o : Occurrence) (m : MemberState M) → IsMemberAt declared turn first lawful d is own v before m
      → MayStep declared turn first lawful d is own w acts o m
      → IsMadeAt w acts (happens declared turn at m o)
  happened w v before acts at o m h may =
      let s = happens_sent declared turn first lawful d is own w v before acts at o m h may in
      record { up = s.up; brief = s.brief; returns = s.returns; acting = s.member }

  ring_on : (kept : Kept) (request : Request) → IsRingOf d kept → IsRingOf d (kept_by kept request)
  ring_on kept request r =
      still_ring d kept (kept_by kept request) r request
      (ap (λ k. kept_by k request) r.kept_is ∙ sym (fold-append kept_by (record { troupes = d.troupes; views = boot_views d.troupes }) r.requests (request ∷ [])))

  -- ---- a message comes

  module _ (before acts : WireActs Purpose) (still : (c : Caller) → awaits_in begins before c ≡ true → awaits_in begins acts c ≡ true) where
    -- a call that comes awaits its return, and did not before
    abbrev pub Comes : Heard Purpose → Type 0
    Comes Dropped = Unit {0}
    Comes Taken = Unit {0}
    Comes (Called sender message) = (awaits_in begins before sender ≡ false) × (awaits_in begins acts sender ≡ true)
    Comes (Returned number purpose message) = Unit {0}

    still_room : (m : MemberState M) → WaitAs declared turn first lawful d is own before m → (c : Caller) → waiting_at c m + 0 ≤ one_if (awaits_in begins acts c)
    still_room m waits c = let most = waits c in let on_ = one_if_on (awaits_in begins before c) (awaits_in begins acts c) (still c) in omega (arith, most, on_)

    -- so there is room for its return
    room_for : (m : MemberState M) (heard : Heard Purpose) → WaitAs declared turn first lawful d is own before m → Comes heard → (c : Caller)
        → waiting_at c m + calls_heard c heard ≤ one_if (awaits_in begins acts c)
    room_for m Dropped waits came c = still_room m waits c
    room_for m Taken waits came c = still_room m waits c
    room_for m (Called sender message) waits came c = by_caller (is_caller c sender) refl
      where
        by_caller : (same : Bool) → is_caller c sender ≡ same → waiting_at c m + one_if same ≤ one_if (awaits_in begins acts c)
        by_caller true same =
            let one : c ≡ sender = is_same c sender same in
            let most = waits c in
            let none : one_if (awaits_in begins before c) ≡ 0 = ap (λ x. one_if (awaits_in begins before x)) one ∙ ap one_if came.0 in
            let now : one_if (awaits_in begins acts c) ≡ 1 = ap (λ x. one_if (awaits_in begins acts x)) one ∙ ap one_if came.1 in
            omega (arith, most, none, now)
        by_caller false differs = still_room m waits c
    room_for m (Returned number purpose message) waits came c = still_room m waits c

    -- ---- a node is declared to be down

    pub lost_made : (v w : WireState Purpose) (at node : ℕ) (a : Acting M) → AtBorder v before a → ((x : ℕ) → IsOtherOf d own x → is_up w x ≡ (not (eqb node x) && is_up v x))
        → IsMadeAt w acts (learns_down declared turn at node a)
    lost_made v w at node (member m) h stops =
        happened w v before acts at (comes.Declared node) m h
        (record {
          can = tt;
          ranges = tt;
          tells = tt;
          up = λ x other. stops x other ∙ ap (λ b. not (eqb node x) && b) (h.up x other) ∙ neither (eqb node x) (is_among m.known.down x) ∙ ap not (sym (declared_among m.known node x));
          waits = still_room m h.waits;
        })
      where
        neither : (a b : Bool) → (not a && not b) ≡ not (a || b)
        neither true b = refl
        neither false b = refl
    lost_made v w at node (ringmaster kept) h stops = record { up = All-nil (GoesUp w); brief = All-nil (SaysBriefly (limit_of d.format)); returns = tt; acting = h }

  module _ (v w : WireState Purpose) (before acts : WireActs Purpose) (up : (node : ℕ) → IsOtherOf d own node → is_up w node ≡ is_up v node)
      (still : (c : Caller) → awaits_in begins before c ≡ true → awaits_in begins acts c ≡ true) where
    accepted_made : (at from : ℕ) (heard : Heard Purpose) (m : MemberState M) → IsMemberAt declared turn first lawful d is own v before m → TakesRightly from heard (member m)
        → Comes before acts still heard
        → IsMadeAt w acts (arrives_at_member declared turn d at from heard m)
    accepted_made at from heard m h takes came = by_taken (occurrence_of_heard d (declared m.performing.hosted) m from heard) refl
      where
        by_taken : (o : Option Occurrence) → occurrence_of_heard d (declared m.performing.hosted) m from heard ≡ o
            → IsMadeAt w acts (option_map_or (happens declared turn at m) o (refuse (member m)))
        by_taken None none = nothing_made w acts (member m) (still_at v w before acts (member m) up still h)
        by_taken (Some o) some =
            let taken = accepted_is d is (declared m.performing.hosted) m from heard o some in
            let can = takes o some in
            let may : MayStep declared turn first lawful d is own w acts o m = record {
              can = can.0;
              ranges = can.1;
              tells = taken.tells;
              up = λ node other. up node other ∙ h.up node other ∙ ap (λ down. not (is_among down node)) (sym (taken.knows m.known));
              waits = λ c. (let room = room_for before acts still m heard h.waits came c in let same = taken.calls c in omega (arith, room, same));
            } in
            happened w v before acts at o m h may

    -- a call to the Ringmaster
    request_made : (sender : Caller) (message : List ℕ) (kept : Kept) → IsRingOf d kept → awaits_in begins acts sender ≡ true
        → IsMadeAt w acts (by_ring (called_at_ring sender message kept))
    request_made sender message kept r now = by_request (accepted_request kept message)
      where
        by_table : (request : Request) (o : Option Table) → table_by kept request ≡ o
            → IsMadeAt w acts (by_ring (kept_by kept request, consequences (option_map_or (λ table. answer (table_message table) sender ∷ []) o []) []))
        by_table request None none = record { up = All-nil (GoesUp w); brief = All-nil (SaysBriefly (limit_of d.format)); returns = tt; acting = ring_on kept request r }
        by_table request (Some table) some =
            let message_ = table_message table in
            record {
              up = All-cons (GoesUp w) (answer message_ sender) [] tt (All-nil (GoesUp w));
              brief = All-cons (SaysBriefly (limit_of d.format)) (answer message_ sender) []
                  (table_brief (limit_of d.format) table (some_limit d.format is.format) (is_table d kept r request table (ap (λ k. table_by k request) (sym r.kept_is) ∙ some)))
                  (All-nil (SaysBriefly (limit_of d.format)));
              returns = all_returned begins (λ c. 0) acts (answer message_ sender ∷ []) (λ c. one_answer c (is_caller c sender) refl);
              acting = ring_on kept request r;
            }
          where
            one_answer : (c : Caller) (same : Bool) → is_caller c sender ≡ same → one_if same + 0 + 0 ≤ one_if (awaits_in begins acts c)
            one_answer c true same =
                let one : one_if (awaits_in begins acts c) ≡ 1 = ap (λ x. one_if (awaits_in begins acts x)) (is_same c sender same) ∙ ap one_if now in
                omega (arith, one)
            one_answer c false differs = omega arith

        by_request : (o : Option Request) → IsMadeAt w acts (by_ring (option_map_or (performs kept sender) o (kept, a_drop)))
        by_request None = record { up = All-nil (GoesUp w); brief = All-nil (SaysBriefly (limit_of d.format)); returns = tt; acting = r }
        by_request (Some request) = by_table request (table_by kept request) refl

    pub hears_made : (at from : ℕ) (heard : Heard Purpose) (a : Acting M) → AtBorder v before a → TakesRightly from heard a → Comes before acts still heard
        → IsMadeAt w acts (hears declared turn d at from heard a)
    hears_made at from Dropped a h takes came = nothing_made w acts a (still_at v w before acts a up still h)
    hears_made at from Taken a h takes came = nothing_new w acts a (still_at v w before acts a up still h)
    hears_made at from (Called sender message) (member m) h takes came = accepted_made at from (Called sender message) m h takes came
    hears_made at from (Called sender message) (ringmaster kept) h takes came = request_made sender message kept h came.1
    hears_made at from (Returned number purpose message) (member m) h takes came = accepted_made at from (Returned number purpose message) m h takes came
    hears_made at from (Returned number purpose message) (ringmaster kept) h takes came =
        record { up = All-nil (GoesUp w); brief = All-nil (SaysBriefly (limit_of d.format)); returns = tt; acting = h }

    -- ---- it is told to join

    pub joining_made : (at : ℕ) (a : Acting M) → AtBorder v before a → IsMadeAt w acts (is_told_to_join declared turn at a)
    joining_made at (member m) h =
        happened w v before acts at comes.Joins m h
        (record { can = tt; ranges = tt; tells = tt; up = λ x other. up x other ∙ h.up x other; waits = still_room before acts still m h.waits })
    joining_made at (ringmaster kept) h = record { up = All-nil (GoesUp w); brief = All-nil (SaysBriefly (limit_of d.format)); returns = tt; acting = h }
