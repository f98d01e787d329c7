-- Each call of a member that is no ask has its cause.
use Rattle.std.proofs.Common.{◌≡◌, ℕ, suc, ◌+◌, ◌<◌, inl, inr, Bool, true, false, not, if◌then◌else◌, ◌&&◌, List, [], ◌∷◌, ◌++◌, map, filter, Option, None, Some, refl, sym, ap, subst, ◌∙◌, arith}
use Rattle.std.specs.Prelude.{IsSomeAnd, nat_eq, nat_lt, slice_get}
use Rattle.std.specs.Option.{option_map_or}
use Rattle.std.proofs.lemmas.Bool.{and_parts, ltb-true, eqb-false, not-true, false≢true}
use Rattle.circus_value.specs.Among.{is_among}
use Rattle.circus_value.specs.ValueTree.{ValueTree}
use Rattle.circus_header.specs.declared.call.Request.{Request}
use Rattle.circus_header.specs.declared.call.Request.TheVariants as asks_for
use Rattle.circus_collate.specs.Expecting.{has_node}
use Rattle.circus_collate.specs.declared.table.RingResult.{RingResult}
use Rattle.circus_collate.specs.declared.table.RingResult.TheVariants.{Done, RootTroupe, NotSpare, Full}
use Rattle.circus_collate.specs.declared.table.Table.{Table}
use Rattle.circus_collate.specs.declared.view.Entry.{Entry}
use Rattle.circus_collate.specs.declared.view.Since.{Since}
use Rattle.circus_collate.specs.declared.view.Since.TheVariants as since
use Rattle.circus_collate.specs.declared.view.View.{View}
use Rattle.circus_transfer.specs.declared.joiner.Joiner.{Joiner}
use Rattle.circus_transfer.specs.declared.joiner.Joiner.TheVariants as phases
use Rattle.circus_record.specs.declared.record.MemberRecord.{MemberRecord}
use Rattle.circus_performing.specs.Performing.{is_active, is_fetching}
use Rattle.circus_member_rules.specs.declared.place.Place.{Place}
use Rattle.circus_member_rules.specs.declared.occurrence.Effect.{Effect}
use Rattle.circus_member_rules.specs.declared.occurrence.Effect.TheVariants as made
use Rattle.circus_member_rules.specs.declared.occurrence.Occurrence.{Occurrence}
use Rattle.circus_member_rules.specs.declared.occurrence.Occurrence.TheVariants as comes
use Rattle.circus_member_rules.specs.Rules.{ringmaster, request_call, performs_any, may_give, givers, state_request, state_requests, lookup_call}
use Rattle.circus_member_rules.specs.Step.{is_join}
use Rattle.circus_member_theory.specs.Past.{Past, booted, followed, now, views_known, nodes_declared_down, is_asking, is_done, taken_in, phase}
use Rattle.circus_member_theory.specs.Requests.{to_ring, answers_lookup, gone_from, gone_requests, for_what_came, wanted_incarnation, is_due, due_from, due, is_unanswered, lookups, requests_owed}
use Rattle.circus_world_theory.proofs.Border.Makers.{IsIn, in_both}
use Rattle.circus_headline_theory.specs.Datagrams.Due.{WasSo, Causes, CallIsDue}
use Rattle.circus_headline_theory.proofs.Datagrams.Membership.{in_filter, in_map}

module _ (place : Place) (boot : List View) (begins : Joiner) (first : List ValueTree) (kept : MemberRecord) where
  -- an effect that is a call has its cause
  abbrev pub EffectIsDue : Past → Effect → Type 0
  EffectIsDue q (made.Call to message purpose) = CallIsDue place boot begins first kept q to message purpose
  EffectIsDue q (made.Answer caller message) = Unit {0}

  -- what was made in a step was due at its end
  pub record WasDue (p : Past) (step : ℕ) (e : Effect) : Type 0 where
    pub q : Past
    pub was : WasSo p q
    pub now_is : now q ≡ step
    pub due_then : EffectIsDue q e

  -- ---- Lookups

  in_due_from : (unanswered : ℕ → Bool) (q : Past) (from : ℕ) (views : List View) (troupe : ℕ) → IsIn (due_from place boot begins kept unanswered q from views) troupe
      → (number : ℕ) × (view : View) × (troupe ≡ from + number) × (slice_get views number ≡ Some view) × (view.incarnation < wanted_incarnation place boot begins kept troupe q)
  in_due_from unanswered q from [] troupe at = absurd at
  in_due_from unanswered q from (view ∷ views) troupe at =
      by_test (in_due_from unanswered q (from + 1) views troupe) (is_due place boot begins kept unanswered q from view) refl at
    where
      Found : Type 0
      Found = (number : ℕ) × (v : View) × (troupe ≡ from + number) × (slice_get (view ∷ views) number ≡ Some v) × (v.incarnation < wanted_incarnation place boot begins kept troupe q)

      later_one : ((number : ℕ) × (v : View) × (troupe ≡ (from + 1) + number) × (slice_get views number ≡ Some v) × (v.incarnation < wanted_incarnation place boot begins kept troupe q)) → Found
      later_one f = (let is = f.2 in (suc f.0, f.1, omega (arith, is), f.3, f.4))

      here : is_due place boot begins kept unanswered q from view ≡ true → from ≡ troupe → Found
      here is same =
          let at : from ≡ troupe = same in
          let less = ltb-true view.incarnation (wanted_incarnation place boot begins kept from q) (and_parts (nat_lt view.incarnation (wanted_incarnation place boot begins kept from q)) (not (unanswered from)) is).0 in
          (0, view, omega (arith, at), refl, subst (λ t. view.incarnation < wanted_incarnation place boot begins kept t q) same less)

      by_test : (IsIn (due_from place boot begins kept unanswered q (from + 1) views) troupe → (number : ℕ) × (v : View) × (troupe ≡ (from + 1) + number) × (slice_get views number ≡ Some v) × (v.incarnation < wanted_incarnation place boot begins kept troupe q))
          → (b : Bool) → is_due place boot begins kept unanswered q from view ≡ b → IsIn ((if b then from ∷ [] else []) ++ due_from place boot begins kept unanswered q (from + 1) views) troupe → Found
      by_test later true is (inl same) = here is same
      by_test later true is (inr rest) = later_one (later rest)
      by_test later false is rest = later_one (later rest)

  lookups_due : (p : Past) (step : ℕ) (o : Occurrence) (e : Effect) → IsIn (lookups place boot begins kept (followed p step o)) e → EffectIsDue (followed p step o) e
  lookups_due p step o e at =
      let q = followed p step o in
      let unanswered : ℕ → Bool = λ t. is_unanswered place boot begins kept p t && not (answers_lookup o t) in
      let found = in_map lookup_call (due place boot begins kept unanswered q) e at in
      by_ring q unanswered found.0 (is_among (nodes_declared_down q) ringmaster) refl found.1 found.2
    where
      by_ring : (q : Past) (unanswered : ℕ → Bool) (troupe : ℕ) (b : Bool) → is_among (nodes_declared_down q) ringmaster ≡ b
          → IsIn (if b then [] else due_from place boot begins kept unanswered q 0 (views_known boot q)) troupe → lookup_call troupe ≡ e → EffectIsDue q e
      by_ring q unanswered troupe true gone_ at same = absurd at
      by_ring q unanswered troupe false up at same =
          let f = in_due_from unanswered q 0 (views_known boot q) troupe at in
          let troupe_is : f.0 ≡ troupe = (let is = f.2 in omega (arith, is)) in
          let there : slice_get (views_known boot q) troupe ≡ Some f.1 = ap (slice_get (views_known boot q)) (sym troupe_is) ∙ f.3 in
          subst (EffectIsDue q) same
          (refl, refl, up, subst (λ (v : Option View). IsSomeAnd v (λ view. view.incarnation < wanted_incarnation place boot begins kept troupe q)) (sym there) f.4)

  -- ---- what comes

  ring_due : (q : Past) (nodes : List ℕ) (request : Request) (e : Effect) → (is_among nodes ringmaster ≡ false → is_among (nodes_declared_down q) ringmaster ≡ false) → Causes place boot begins first kept request q
      → IsIn (to_ring nodes request) e → EffectIsDue q e
  ring_due q nodes request e same_down cause at = by_test (is_among nodes ringmaster) refl at
    where
      by_test : (b : Bool) → is_among nodes ringmaster ≡ b → IsIn (if b then [] else request_call request ∷ []) e → EffectIsDue q e
      by_test true is at = absurd at
      by_test false is (inl same) = subst (EffectIsDue q) same (refl, refl, same_down is, cause)
      by_test false is (inr none) = absurd none

  active_behind : (count : ℕ) (j : Joiner) → is_fetching j ≡ true → (is_active j ≡ false) × ((if is_fetching j then phases.Active count else j) ≡ phases.Active count)
  active_behind count phases.Outside is = absurd cc
  active_behind count phases.Asking is = absurd cc
  active_behind count (phases.Fetching incarnation) is = (refl, refl)
  active_behind count (phases.Active index) is = absurd cc

  taken : (table : Table) (joins : Bool) (j : Joiner) → is_fetching j ≡ false → is_fetching (if joins && is_asking j then taken_in table else j) ≡ true
      → (joins ≡ true) × (j ≡ phases.Asking) × (table.result ≡ Done)
  taken table false j before behind = absurd (false≢true (sym before ∙ behind))
  taken table true phases.Outside before behind = absurd cc
  taken table true phases.Asking before behind = (refl, refl, by_result table.result behind)
    where
      by_result : (r : RingResult) → is_fetching (if is_done r then phases.Fetching table.view.incarnation else phases.Outside) ≡ true → r ≡ Done
      by_result Done is = refl
      by_result RootTroupe is = absurd cc
      by_result NotSpare is = absurd cc
      by_result Full is = absurd cc
  taken table true (phases.Fetching incarnation) before behind = absurd cc
  taken table true (phases.Active index) before behind = absurd cc

  since_from : (s : Since) → performs_any s ≡ true → (index : ℕ) × (s ≡ since.From index)
  since_from since.Joining is = absurd cc
  since_from (since.From index) is = (index, refl)

  in_entries : (es : List Entry) (e : Entry) → IsIn es e → (number : ℕ) × (slice_get es number ≡ Some e)
  in_entries [] e at = absurd at
  in_entries (x ∷ es) e (inl same) = (0, ap Some same)
  in_entries (x ∷ es) e (inr at) = (let rest = in_entries es e at in (suc rest.0, rest.1))

  states_due : (p : Past) (step : ℕ) (request : Request) (table : Table) (e : Effect) → is_fetching (phase begins p) ≡ false
      → is_fetching (phase begins (followed p step (comes.Told request table))) ≡ true
      → IsIn (state_requests place (nodes_declared_down p) table.view) e → EffectIsDue (followed p step (comes.Told request table)) e
  states_due p step request table e before behind at =
      let q = followed p step (comes.Told request table) in
      let t = taken table (is_join request) (phase begins p) before behind in
      let found = in_map (state_request place.troupe table.view.incarnation) (givers place.node (nodes_declared_down p) table.view) e at in
      let entry = in_map (λ (x : Entry). x.node) (filter (may_give place.node (nodes_declared_down p)) table.view.entries) found.0 found.1 in
      let passed = in_filter (may_give place.node (nodes_declared_down p)) table.view.entries entry.0 entry.1 in
      let x = entry.0 in
      let outer = and_parts (performs_any x.since && not (nat_eq x.node place.node)) (not (is_among (nodes_declared_down p) x.node)) passed.1 in
      let inner = and_parts (performs_any x.since) (not (nat_eq x.node place.node)) outer.0 in
      let there = in_entries table.view.entries x passed.0 in
      let from = since_from x.since inner.0 in
      subst (EffectIsDue q) found.2 (
        refl,
        t.0,
        t.1,
        t.2,
        (there.0, x, from.0, there.1, entry.2, from.1),
        subst (λ n. n ≡ place.node → ⊥) entry.2 (eqb-false x.node place.node (not-true (nat_eq x.node place.node) inner.1)),
        subst (λ n. is_among (nodes_declared_down p) n ≡ false) entry.2 (not-true (is_among (nodes_declared_down p) x.node) outer.1),
      )

  gone_due : (p : Past) (step node : ℕ) (e : Effect) → IsIn (gone_requests place boot begins (followed p step (comes.Declared node)) node) e → EffectIsDue (followed p step (comes.Declared node)) e
  gone_due p step node e at = by_host (slice_get place.troupes node) refl at
    where
      q : Past
      q = followed p step (comes.Declared node)

      by_view : (troupe : ℕ) → slice_get place.troupes node ≡ Some (Some troupe) → (o : Option View) → slice_get (views_known boot q) troupe ≡ o
          → IsIn (option_map_or (λ (v : View). if has_node v node then to_ring (nodes_declared_down q) (asks_for.Gone troupe node) else []) o []) e → EffectIsDue q e
      by_view troupe hosts None there at = absurd at
      by_view troupe hosts (Some v) there at = by_entry (has_node v node) refl at
        where
          by_entry : (b : Bool) → has_node v node ≡ b → IsIn (if b then to_ring (nodes_declared_down q) (asks_for.Gone troupe node) else []) e → EffectIsDue q e
          by_entry true has at =
              ring_due q (nodes_declared_down q) (asks_for.Gone troupe node) e (λ up. up)
              (refl, hosts, subst (λ (o : Option View). IsSomeAnd o (λ view. has_node view node ≡ true)) (sym there) has) at
          by_entry false has at = absurd at

      by_hosted : (o : Option ℕ) → slice_get place.troupes node ≡ Some o → IsIn (option_map_or (gone_from place boot begins q node) o []) e → EffectIsDue q e
      by_hosted None hosts at = absurd at
      by_hosted (Some troupe) hosts at = by_view troupe hosts (slice_get (views_known boot q) troupe) refl at

      by_host : (o : Option (Option ℕ)) → slice_get place.troupes node ≡ o → IsIn (option_map_or (λ hosted. option_map_or (gone_from place boot begins q node) hosted []) o []) e → EffectIsDue q e
      by_host None hosts at = absurd at
      by_host (Some hosted) hosts at = by_hosted hosted hosts at

  came_due : (p : Past) (step : ℕ) (o : Occurrence) (e : Effect) → IsIn (for_what_came place boot begins (followed p step o)) e → EffectIsDue (followed p step o) e
  came_due p step comes.Joins e at = ring_due (followed p step comes.Joins) (nodes_declared_down p) (asks_for.Join place.troupe place.node) e (λ up. up) (refl, refl) at
  came_due p step (comes.Told request table) e at =
      by_test (is_fetching (phase begins p)) (is_fetching (phase begins (followed p step (comes.Told request table)))) refl refl at
    where
      by_test : (b c : Bool) → is_fetching (phase begins p) ≡ b → is_fetching (phase begins (followed p step (comes.Told request table))) ≡ c
          → IsIn (if not b && c then state_requests place (nodes_declared_down p) table.view else []) e → EffectIsDue (followed p step (comes.Told request table)) e
      by_test false true before behind at = states_due p step request table e before behind at
      by_test false false before behind at = absurd at
      by_test true c before behind at = absurd at
  came_due p step (comes.Restored state count) e at = by_test (is_fetching (phase begins p)) refl at
    where
      by_test : (b : Bool) → is_fetching (phase begins p) ≡ b → IsIn (if b then to_ring (nodes_declared_down p) (asks_for.Active place.troupe place.node count) else []) e
          → EffectIsDue (followed p step (comes.Restored state count)) e
      by_test true fetching at =
          let a = active_behind count (phase begins p) fetching in
          ring_due (followed p step (comes.Restored state count)) (nodes_declared_down p) (asks_for.Active place.troupe place.node count) e (λ up. up) (refl, refl, a.0, a.1) at
      by_test false fetching at = absurd at
  came_due p step (comes.Declared node) e at = gone_due p step node e at
  came_due p step (comes.Asked header body sender) e at = absurd at
  came_due p step (comes.Fetched incarnation sender) e at = absurd at
  came_due p step (comes.Replied name from reply) e at = absurd at
  came_due p step (comes.IsStale name server from incarnation) e at = absurd at
  came_due p step (comes.IsBefore name from) e at = absurd at

  -- ---- all of them

  pub request_was_due : (p : Past) (step : ℕ) (e : Effect) → IsIn (requests_owed place boot begins kept p) (step, e) → WasDue p step e
  request_was_due booted step e at = absurd at
  request_was_due (followed p s o) step e at = elim (in_both (requests_owed place boot begins kept p) _ (step, e) at) [
    | inl before ↦ (let w = request_was_due p step e before in record { q = w.q; was = inr w.was; now_is = w.now_is; due_then = w.due_then })
    | inr here ↦ now_due here
  ]
    where
      q : Past
      q = followed p s o

      now_due : IsIn {X = ℕ × Effect} (map (λ (x : Effect). (s, x)) (for_what_came place boot begins q ++ lookups place boot begins kept q)) (step, e) → WasDue q step e
      now_due at =
          let found = in_map (λ (x : Effect). (s, x)) (for_what_came place boot begins q ++ lookups place boot begins kept q) (step, e) at in
          let due_now : EffectIsDue q found.0 = elim (in_both (for_what_came place boot begins q) (lookups place boot begins kept q) found.0 found.1) [
            | inl came ↦ came_due p s o found.0 came
            | inr looks ↦ lookups_due p s o found.0 looks
          ] in
          record {
            q = q;
            was = inl refl;
            now_is = ap (λ (x : ℕ × Effect). x.0) found.2;
            due_then = subst (EffectIsDue q) (ap (λ (x : ℕ × Effect). x.1) found.2) due_now;
          }
