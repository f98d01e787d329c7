-- The views that the Ringmaster keeps may stand in a record of its node.
use Rattle.std.specs.List.{AllByRecursion, list_any}
use Rattle.std.specs.Option.{option_map_or}
use Rattle.std.specs.Prelude.{◌==◌, nat_lt, not, slice_get, slice_set, filter, fold, if◌then◌else◌}
use Rattle.std.proofs.Common.{◌≡◌, ℕ, zero, suc, ◌+◌, ◌<◌, ◌^◌, Bool, true, false, ◌||◌, List, [], ◌∷◌, ◌++◌, map, length, All, Option, None, Some, refl, sym, ap, subst, ◌∙◌, arith, length-set}
use Rattle.std.proofs.lemmas.Bool.{eqb-true}
use Rattle.std.proofs.lemmas.List.Elements.{recursion_from_All}
use Rattle.std.proofs.lemmas.Option.{slice_get_within}
use Rattle.circus_value.specs.Among.{is_among}
use Rattle.circus_value.specs.declared.caller.Caller.{Caller}
use Rattle.circus_segment.specs.Segment.{reading}
use Rattle.circus_header.specs.CallFields.{call_fields}
use Rattle.circus_header.specs.Field.{HasRoom}
use Rattle.circus_header.specs.Reading.{IsOne, calls}
use Rattle.circus_header.specs.declared.call.Call.{Call}
use Rattle.circus_header.specs.declared.call.Call.TheVariants as call
use Rattle.circus_header.specs.declared.call.Request.{Request}
use Rattle.circus_header.specs.declared.call.Request.TheVariants.{Lookup, Join, Active, Gone}
use Rattle.circus_collate.specs.Deployment.{IsDeployment, hosts, hosting_from}
use Rattle.circus_collate.specs.Expecting.{has_node}
use Rattle.circus_collate.specs.declared.deployment.Deployment.{Deployment}
use Rattle.circus_collate.specs.declared.deployment.Troupe.{Troupe}
use Rattle.circus_collate.specs.declared.deployment.Host.{Host}
use Rattle.circus_collate.specs.declared.table.Table.{Table}
use Rattle.circus_collate.specs.declared.view.Entry.{Entry}
use Rattle.circus_collate.specs.declared.view.Since.TheVariants.{Joining, From}
use Rattle.circus_collate.specs.declared.view.View.{View}
use Rattle.circus_model.proofs.Lookups.{within}
use Rattle.circus_config.specs.declared.plan.Plan.{Plan}
use Rattle.circus_performing.proofs.Records.{none_is_some}
use Rattle.circus_ring.specs.RingTable.{change_entries, waits, activate_entry, result_of, is_done, view_by, table_for, troupe_of, boot_entry, boot_views, boot_views_from, Kept, table_by, kept_by, kept_after}
use Rattle.circus_ring.proofs.Booting.{length_boot}
use Rattle.circus_ring.proofs.Deploying.{deployed_are}
use Rattle.circus_ring.proofs.Staying.{views_are}
use Rattle.circus_wire.specs.declared.delivery.Heard.{Heard}
use Rattle.circus_wire.specs.declared.delivery.Heard.TheVariants.{Dropped, Taken, Called, Returned}
use Rattle.circus_member_rules.specs.declared.occurrence.Difference.{Difference}
use Rattle.circus_member_rules.specs.declared.occurrence.Purpose.{Purpose}
use Rattle.circus_node.specs.Accepting.{troupe_at, taken_request, accepted_request}
use Rattle.circus_node.specs.Headers.{call_in}
use Rattle.circus_node.specs.Trace as trace
use Rattle.circus_node.specs.Trace.{Trace}
use Rattle.circus_node.specs.declared.event.Event.{Event}
use Rattle.circus_node.specs.declared.event.Event.TheVariants as comes
use Rattle.circus_member_theory.proofs.Accepting.Calls.{call_is_one}
use Rattle.circus_member_theory.proofs.Accepting.Options.{before_some}
use Rattle.circus_world_theory.specs.Histories.{beginning_of}
use Rattle.circus_headline_theory.specs.RingRun.{request_heard, kept_behind, request_in, requests_of, IsRingRun}
use Rattle.circus_headline_theory.specs.Trace.{acts_of, heard_in, ComesFromOthers, told_of}
use Rattle.circus_audit.specs.Possible.{IsSince, IsEntry, AreViews, IsKept, CanDiffer, IsPossible}
use Rattle.circus_audit.specs.declared.given.Given.{Given}
use Rattle.circus_verdict.specs.Audited.{events_in}
use Rattle.circus_verdict.proofs.Possible.Differing.{all_both, all_mapped}
use Rattle.circus_verdict.proofs.Possible.Saying.{filtered_all}
use Rattle.circus_verdict.proofs.Possible.Whole.{GivesWell, happens_so, events_well}

-- ---- counts of requests

abbrev pub IsLow : Request → Type 0
IsLow (Lookup troupe) = Unit {0}
IsLow (Join troupe node) = Unit {0}
IsLow (Active troupe node count) = count < 2 ^ 32
IsLow (Gone troupe node) = Unit {0}

request_low : (request : Request) → All HasRoom (call_fields (call.Ring request)) → IsLow request
request_low (Lookup troupe) room = tt
request_low (Join troupe node) room = tt
request_low (Active troupe node count) room = (let all = recursion_from_All HasRoom (call_fields (call.Ring (Active troupe node count))) room in all.1.1.1.1.0)
request_low (Gone troupe node) room = tt

accepted_low : (kept : Kept) (message : List ℕ) (request : Request) → accepted_request kept message ≡ Some request → IsLow request
accepted_low kept message request is =
    let b = before_some (λ (r : Call × ℕ). taken_request kept r.0) (call_in message) request is in
    by_call b.value.0 (call_is_one message b.value b.is) b.then
  where
    by_test : (r : Request) (t : Bool) → IsLow r → (if t then Some r else None) ≡ Some request → IsLow request
    by_test r true low e = (let same : r ≡ request = cc in subst IsLow same low)
    by_test r false low e = absurd (none_is_some e)

    by_call : (c : Call) → IsOne calls c → taken_request kept c ≡ Some request → IsLow request
    by_call (call.Ask h) one e = absurd (none_is_some e)
    by_call (call.Ring r) one e = by_test r (nat_lt (troupe_of r) (length kept.troupes)) (request_low r one.1) e
    by_call (call.Fetch troupe incarnation) one e = absurd (none_is_some e)

module _ (d : Deployment) (node : ℕ) where
  one_low : (sender : Caller) (o : Option Request) → ((r : Request) → o ≡ Some r → IsLow r) → AllByRecursion (λ (r : Caller × Request). IsLow r.1) (option_map_or (λ request. (sender, request) ∷ []) o [])
  one_low sender None low = tt
  one_low sender (Some request) low = (low request refl, tt)

  heard_low : (kept : Kept) (heard : Heard Purpose) → AllByRecursion (λ (r : Caller × Request). IsLow r.1) (request_heard kept heard)
  heard_low kept Dropped = tt
  heard_low kept Taken = tt
  heard_low kept (Called sender message) = one_low sender (accepted_request kept message) (λ r is. accepted_low kept message r is)
  heard_low kept (Returned number purpose message) = tt

  requests_low : (t : Trace) → AllByRecursion (λ (r : Caller × Request). IsLow r.1) (requests_of d node t)
  requests_low (trace.booted made outputs) = tt
  requests_low (trace.stepped t at event made outputs) =
      all_both (λ (r : Caller × Request). IsLow r.1) (requests_of d node t) (request_in d node (requests_of d node t) (acts_of (beginning_of d node) t) event) (requests_low t) (by_event event)
    where
      by_event : (e : Event) → AllByRecursion (λ (r : Caller × Request). IsLow r.1) (request_in d node (requests_of d node t) (acts_of (beginning_of d node) t) e)
      by_event (comes.Datagram from bytes) = heard_low (kept_behind d node (requests_of d node t)) (heard_in (beginning_of d node) (acts_of (beginning_of d node) t) from (reading bytes))
      by_event comes.Tick = tt
      by_event (comes.Down other) = tt
      by_event comes.Join = tt

-- ---- counts of entries

module _ (plan : Plan) where
  abbrev Low : Entry → Type 0
  Low entry = IsSince plan entry.since

  abbrev LowView : View → Type 0
  LowView view = AllByRecursion Low view.entries

  activated : (count node : ℕ) (entries : List Entry) → count < 2 ^ 32 → AllByRecursion Low entries → AllByRecursion Low (map (activate_entry node count) entries)
  activated count node [] low all = tt
  activated count node (e ∷ entries) low all = (by_test (waits node e), activated count node entries low all.1)
    where
      by_test : (b : Bool) → Low (if b then record { node = node; since = From count } else e)
      by_test true = low
      by_test false = all.0

  by_request : (view : View) (request : Request) → IsLow request → LowView view → LowView (view_by view request)
  by_request view (Lookup troupe) low all = all
  by_request view (Join troupe node) low all = by_test (has_node view node)
    where
      by_test : (b : Bool) → LowView (if b then view else change_entries view (view.entries ++ record { node = node; since = Joining } ∷ []))
      by_test true = all
      by_test false = all_both Low view.entries (record { node = node; since = Joining } ∷ []) all (tt, tt)
  by_request view (Active troupe node count) low all = by_test (list_any (waits node) view.entries)
    where
      by_test : (b : Bool) → LowView (if b then change_entries view (map (activate_entry node count) view.entries) else view)
      by_test true = activated count node view.entries low all
      by_test false = all
  by_request view (Gone troupe node) low all = by_test (has_node view node)
    where
      by_test : (b : Bool) → LowView (if b then change_entries view (filter (λ (e : Entry). not (e.node == node)) view.entries) else view)
      by_test true = filtered_all Low (λ (e : Entry). not (e.node == node)) view.entries all
      by_test false = all

  table_low : (root : Bool) (spares : List ℕ) (view : View) (request : Request) → IsLow request → LowView view → LowView (table_for root spares view request).view
  table_low root spares view request low all = by_test (is_done (result_of root spares view request))
    where
      by_test : (b : Bool) → LowView (if b then view_by view request else view)
      by_test true = by_request view request low all
      by_test false = all

  view_at : (views : List View) (k : ℕ) (view : View) → AllByRecursion LowView views → slice_get views k ≡ Some view → LowView view
  view_at [] k view all at = absurd (none_is_some at)
  view_at (v ∷ views) zero view all at = (let same : v ≡ view = cc in subst LowView same all.0)
  view_at (v ∷ views) (suc k) view all at = view_at views k view all.1 at

  views_set : (views : List View) (k : ℕ) (view : View) → AllByRecursion LowView views → LowView view → AllByRecursion LowView (slice_set views k view)
  views_set [] k view all low = tt
  views_set (v ∷ views) zero view all low = (low, all.1)
  views_set (v ∷ views) (suc k) view all low = (all.0, views_set views k view all.1 low)

  -- the views that are kept, so many
  record KeptSo (many : ℕ) (kept : Kept) : Type 0 where
    low : AllByRecursion LowView kept.views
    long : length kept.views ≡ many

  kept_on : (many : ℕ) (kept : Kept) (request : Request) → IsLow request → KeptSo many kept → KeptSo many (kept_by kept request)
  unfolding kept_by table_by
  kept_on many kept request low k = by_troupe (slice_get kept.troupes (troupe_of request))
    where
      by_view : (troupe : Troupe) (o : Option View) → slice_get kept.views (troupe_of request) ≡ o
          → KeptSo many (record { troupes = kept.troupes; views = option_map_or (λ (table : Table). slice_set kept.views (troupe_of request) table.view) (option_map_or (λ view. Some (table_for troupe.root troupe.spares view request)) o None) kept.views })
      by_view troupe None at = k
      by_view troupe (Some view) at =
          record {
            low =
                views_set kept.views (troupe_of request) (table_for troupe.root troupe.spares view request).view k.low
                (table_low troupe.root troupe.spares view request low (view_at kept.views (troupe_of request) view k.low at));
            long = length-set kept.views (troupe_of request) (table_for troupe.root troupe.spares view request).view ∙ k.long;
          }

      by_troupe : (o : Option Troupe)
          → KeptSo many (record { troupes = kept.troupes; views = option_map_or (λ (table : Table). slice_set kept.views (troupe_of request) table.view) (option_map_or (λ (troupe : Troupe). option_map_or (λ view. Some (table_for troupe.root troupe.spares view request)) (slice_get kept.views (troupe_of request)) None) o None) kept.views })
      by_troupe None = k
      by_troupe (Some troupe) = by_view troupe (slice_get kept.views (troupe_of request)) refl

  kept_along : (many : ℕ) (kept : Kept) (requests : List Request) → AllByRecursion IsLow requests → KeptSo many kept → KeptSo many (fold kept_by kept requests)
  kept_along many kept [] low k = k
  kept_along many kept (request ∷ requests) low k = kept_along many (kept_by kept request) requests low.1 (kept_on many kept request low.0 k)

  boot_low : (from : ℕ) (troupes : List Troupe) → AllByRecursion LowView (boot_views_from from troupes)
  boot_low from [] = tt
  boot_low from (troupe ∷ troupes) = (entries_low troupe.founders, boot_low (from + 1) troupes)
    where
      entries_low : (nodes : List ℕ) → AllByRecursion Low (map boot_entry nodes)
      entries_low [] = tt
      entries_low (n ∷ nodes) = (omega arith, entries_low nodes)

  kept_so : (troupes : List Troupe) (requests : List Request) → AllByRecursion IsLow requests → KeptSo (length troupes) (kept_after troupes requests)
  kept_so troupes requests low = kept_along (length troupes) (record { troupes = troupes; views = boot_views troupes }) requests low (record { low = boot_low 0 troupes; long = length_boot troupes })

  -- ---- nodes of entries

  -- a node that hosts a member is one of the nodes
  among_within : (from number n : ℕ) (nodes : List Host) → is_among (hosting_from from number nodes) n ≡ true → n < from + length nodes
  among_within from number n [] is = cc
  among_within from number n (h ∷ hs) is = by_host (hosts number h) is (among_within (suc from) number n hs)
    where
      by_node : (b : Bool) → (from == n) ≡ b → (b || is_among (hosting_from (suc from) number hs) n) ≡ true
          → (is_among (hosting_from (suc from) number hs) n ≡ true → n < suc from + length hs) → n < from + suc (length hs)
      by_node true same e later = (let here : from ≡ n = eqb-true from n same in omega (arith, here))
      by_node false same e later = (let low = later e in omega (arith, low))

      by_host : (b : Bool) → is_among (if b then from ∷ hosting_from (suc from) number hs else hosting_from (suc from) number hs) n ≡ true
          → (is_among (hosting_from (suc from) number hs) n ≡ true → n < suc from + length hs) → n < from + suc (length hs)
      by_host true e later = by_node (from == n) refl e later
      by_host false e later = (let low = later e in omega (arith, low))

  entries_so : (members : List ℕ) (number : ℕ) (entries : List Entry) → members ≡ hosting_from 0 number plan.deployment.nodes
      → AllByRecursion (λ (e : Entry). is_among members e.node ≡ true) entries → AllByRecursion Low entries → AllByRecursion (IsEntry plan) entries
  entries_so members number [] same there low = tt
  entries_so members number (e ∷ entries) same there low =
      let few = among_within 0 number e.node plan.deployment.nodes (ap (λ l. is_among l e.node) (sym same) ∙ there.0) in
      ((omega (arith, few), low.0), entries_so members number entries same there.1 low.1)

  pub views_well : (named : length plan.names ≡ length plan.deployment.troupes) (good : IsDeployment plan.deployment) (requests : List Request) → AllByRecursion IsLow requests
      → AreViews plan (kept_after plan.deployment.troupes requests).views
  views_well named good requests low =
      record {
        all = k.long ∙ sym named;
        each = λ m view at.
            let few = slice_get_within (kept_after plan.deployment.troupes requests).views m view at in
            let long = k.long in
            let troupe = within plan.deployment.troupes m (omega (arith, few, long)) in
            let of = views_are plan.deployment.troupes requests m troupe.0 view troupe.1 (deployed_are plan.deployment m troupe.0 good troupe.1) at in
            let last = of.last in (
              of.number,
              omega (arith, last),
              entries_so (troupe.0.founders ++ troupe.0.spares) m view.entries (good.troupes m troupe.0 troupe.1).members
                  (recursion_from_All (λ (e : Entry). is_among (troupe.0.founders ++ troupe.0.spares) e.node ≡ true) view.entries of.members)
                  (view_at (kept_after plan.deployment.troupes requests).views m view k.low at),
            );
      }
    where
      k : KeptSo (length plan.deployment.troupes) (kept_after plan.deployment.troupes requests)
      k = kept_so plan.deployment.troupes requests low

  -- ---- the whole

  pub ring_possible : (named : length plan.names ≡ length plan.deployment.troupes) (good : IsDeployment plan.deployment) (node : ℕ) (t : Trace) (views : List View)
      → node < length plan.deployment.nodes → troupe_at plan.deployment node ≡ None → IsRingRun plan.deployment node t views → told_of t ≡ [] → ComesFromOthers plan.deployment node t
      → GivesWell plan node t → IsPossible plan (record { node = node; events = events_in t; member = None; views = Some views })
  ring_possible named good node t views less none run quiet others gives =
      let given : Given = record { node = node; events = events_in t; member = None; views = Some views } in
      let low = all_mapped IsLow (λ (r : Caller × Request). r.1) (requests_of plan.deployment node t) (requests_low plan.deployment node t) in
      let are : AreViews plan views =
      subst (AreViews plan) (sym run.views_are) (views_well named good (map (λ (r : Caller × Request). r.1) (requests_of plan.deployment node t)) low) in
      record {
        node = less;
        events =
            happens_so plan given (events_in t)
            (events_well plan node (troupe_at plan.deployment node) None t others gives
            (subst (AllByRecursion (λ (e : ℕ × Difference). CanDiffer plan node (troupe_at plan.deployment node) None e.1)) (sym quiet) tt));
        kept = subst (λ (o : Option ℕ). IsKept plan (length (events_in t)) o None (Some views)) (sym none) are;
      }
