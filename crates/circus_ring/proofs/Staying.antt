-- What is true of a troupe's view stays true.
use Rattle.std.proofs.Common.{◌≡◌, ◌≢◌, ℕ, ◌+◌, ◌<◌, ◌≤◌, Bool, true, false, not, ◌&&◌, ◌||◌, ◌==◌, nat_le, min, List, [], ◌∷◌, ◌++◌, length, map, filter, All, AllPairs, refl, sym, ap, ◌∙◌, subst, arith, eq-eqb, get_or, zero, suc, Option, Some, None, slice_get, slice_set, fold, inl, inr, if◌then◌else◌}
use Rattle.std.specs.List.{list_any}
use Rattle.std.specs.Option.{option_map_or}
use Rattle.std.proofs.lemmas.Bool.{eqb-false, leb-false, cases_eq}
use Rattle.circus_header.specs.declared.call.Request.{Request}
use Rattle.circus_header.specs.declared.call.Request.TheVariants.{Lookup, Join, Active, Gone}
use Rattle.circus_collate.specs.declared.table.Table.{Table}
use Rattle.circus_collate.specs.declared.table.RingResult.TheVariants.{Done, RootTroupe, NotSpare, Full}
use Rattle.std.proofs.lemmas.List.{length-map, length-append, get_or-map}
use Rattle.std.proofs.lemmas.List.Quantifiers.{all_pairs_push}
use Rattle.std.proofs.lemmas.Option.{slice_get_within}
use Rattle.std.proofs.lemmas.List.Sums.{length-filter, count_by-le-length}
use Rattle.std.proofs.lemmas.List.Elements.{All-append, All-filter, All-map}
use Rattle.std.proofs.lemmas.List.Folds.{list_any-append}
use Rattle.std.proofs.lemmas.List.Kept.{AllPairs-filter}
use Rattle.circus_value.specs.Among.{is_among}
use Rattle.circus_collate.specs.declared.view.Since.TheVariants.{Joining}
use Rattle.circus_collate.specs.declared.view.Entry.{Entry}
use Rattle.circus_collate.specs.declared.view.View.{View}
use Rattle.circus_collate.specs.declared.deployment.Troupe.{Troupe}
use Rattle.circus_collate.specs.Expecting.{has_node}
use Rattle.circus_ring.specs.RingTable.{most_entries, last_incarnation, change_entries, waits, activate_entry, boot_entry, boot_view, boot_views, boot_views_from, is_done, table_for, table_by, troupe_of, Kept, kept_by, kept_after}
use Rattle.circus_ring.specs.ViewOf.{IsBootable, IsViewOf}
use Rattle.circus_ring.proofs.Performing.{get_set_same, get_set_other, has_both}

-- ---- tests

or_left : (a b : Bool) → a ≡ true → (a || b) ≡ true
or_left true b is = refl
or_left false b is = cc

or_right : (a b : Bool) → b ≡ true → (a || b) ≡ true
or_right true b is = refl
or_right false b is = is

or_none : (a b : Bool) → (a || b) ≡ false → (a ≡ false) × (b ≡ false)
or_none true b is = cc
or_none false b is = (refl, is)

-- ---- entries

abbrev Differ : Entry → Entry → Type 0
Differ a b = a.node ≢ b.node

not_any : (p : Entry → Bool) (xs : List Entry) (k : ℕ) (d : Entry) → list_any p xs ≡ false → k < length xs → p (get_or xs k d) ≡ false
not_any p [] k d none few = absurd (omega arith)
not_any p (x ∷ xs) zero d none few = (or_none (p x) (list_any p xs) none).0
not_any p (x ∷ xs) (suc k) d none few = not_any p xs k d (or_none (p x) (list_any p xs) none).1 (omega arith)

differ_more : (xs : List Entry) (y : Entry) → list_any (λ (e : Entry). e.node == y.node) xs ≡ false → AllPairs Differ xs → AllPairs Differ (xs ++ y ∷ [])
differ_more xs y none differ =
    all_pairs_push Differ xs y differ (λ k d few. eqb-false (get_or xs k d).node y.node (not_any (λ (e : Entry). e.node == y.node) xs k d none few))

differ_map : (f : Entry → Entry) → ((e : Entry) → (f e).node ≡ e.node) → (xs : List Entry) → AllPairs Differ xs → AllPairs Differ (map f xs)
differ_map f same xs differ i j d before few =
    let few_too : j < length xs = subst (λ n. j < n) (length-map xs f) few in
    let first : i < length xs = omega arith in
    λ e. differ i j d before few_too
    (sym (same (get_or xs i d)) ∙ ap (λ (x : Entry). x.node) (sym (get_or-map f xs i d d first)) ∙ e ∙ ap (λ (x : Entry). x.node) (get_or-map f xs j d d few_too) ∙ same (get_or xs j d))

active_there : (b : Bool) (node count : ℕ) (e : Entry) → waits node e ≡ b → (activate_entry node count e).node ≡ e.node
active_there true node count e is = grind arith
active_there false node count e is = grind arith

active_same : (node count : ℕ) (e : Entry) → (activate_entry node count e).node ≡ e.node
active_same node count e = active_there (waits node e) node count e refl

-- ---- one view

grown : (i : ℕ) → 1 ≤ min (i + 1) last_incarnation
grown i = grind arith

below : (i : ℕ) → min (i + 1) last_incarnation ≤ last_incarnation
below i = grind arith

-- the view with other entries
with_entries : (place : ℕ) (troupe : Troupe) (view : View) (entries : List Entry) → IsViewOf place troupe view → length entries ≤ most_entries
    → All (λ (e : Entry). is_among (troupe.founders ++ troupe.spares) e.node ≡ true) entries → AllPairs Differ entries → IsViewOf place troupe (change_entries view entries)
with_entries place troupe view entries is few members differ = record {
  number = is.number;
  first = grown view.incarnation;
  last = below view.incarnation;
  few = few;
  members = members;
  differ = differ;
}

spare_among : (troupe : Troupe) (node : ℕ) → is_among troupe.spares node ≡ true → is_among (troupe.founders ++ troupe.spares) node ≡ true
spare_among troupe node is =
    list_any-append (λ n. n == node) troupe.founders troupe.spares ∙ or_right (is_among troupe.founders node) (is_among troupe.spares node) is

joined_is : (place : ℕ) (troupe : Troupe) (view : View) (node : ℕ) → IsViewOf place troupe view → is_among troupe.spares node ≡ true → has_node view node ≡ false → length view.entries < most_entries
    → IsViewOf place troupe (change_entries view (view.entries ++ record { node = node; since = Joining } ∷ []))
joined_is place troupe view node is spare none few =
    let entry : Entry = record { node = node; since = Joining } in
    let more : length (view.entries ++ entry ∷ []) ≤ most_entries = omega (arith, length-append view.entries (entry ∷ [])) in
    with_entries place troupe view (view.entries ++ entry ∷ []) is more
    (All-append (λ (e : Entry). is_among (troupe.founders ++ troupe.spares) e.node ≡ true) view.entries (entry ∷ []) is.members (all_one (λ (e : Entry). is_among (troupe.founders ++ troupe.spares) e.node ≡ true) entry (spare_among troupe node spare)))
    (differ_more view.entries entry none is.differ)
  where
    all_one : (P : Entry → Type 0) (e : Entry) → P e → All P (e ∷ [])
    all_one P e here zero d few = here
    all_one P e here (suc k) d few = absurd (omega arith)

activated_is : (place : ℕ) (troupe : Troupe) (view : View) (node count : ℕ) → IsViewOf place troupe view → IsViewOf place troupe (change_entries view (map (activate_entry node count) view.entries))
activated_is place troupe view node count is =
    let P : Entry → Type 0 = λ e. is_among (troupe.founders ++ troupe.spares) e.node ≡ true in
    let as_many : length (map (activate_entry node count) view.entries) ≤ most_entries = subst (λ n. n ≤ most_entries) (sym (length-map view.entries (activate_entry node count))) is.few in
    with_entries place troupe view (map (activate_entry node count) view.entries) is as_many
    (All-map P (activate_entry node count) view.entries (λ k d few. ap (is_among (troupe.founders ++ troupe.spares)) (active_same node count (get_or view.entries k d)) ∙ is.members k d few))
    (differ_map (activate_entry node count) (active_same node count) view.entries is.differ)

without_is : (place : ℕ) (troupe : Troupe) (view : View) (p : Entry → Bool) → IsViewOf place troupe view → IsViewOf place troupe (change_entries view (filter p view.entries))
without_is place troupe view p is =
    let P : Entry → Type 0 = λ e. is_among (troupe.founders ++ troupe.spares) e.node ≡ true in
    let fewer : length (filter p view.entries) ≤ most_entries = omega (arith, length-filter p view.entries, count_by-le-length p view.entries, is.few) in
    with_entries place troupe view (filter p view.entries) is fewer (All-filter p P view.entries is.members) (AllPairs-filter Differ p view.entries is.differ)

join_by : (place : ℕ) (troupe : Troupe) (view : View) (node : ℕ) → IsViewOf place troupe view → (r s h f : Bool)
    → is_among troupe.spares node ≡ s → has_node view node ≡ h → nat_le most_entries (length view.entries) ≡ f
    → IsViewOf place troupe (if is_done (if r then RootTroupe else if not s then NotSpare else if not h && f then Full else Done)
    then (if h then view else change_entries view (view.entries ++ record { node = node; since = Joining } ∷ [])) else view)
join_by place troupe view node is true s h f spare has full = is
join_by place troupe view node is false false h f spare has full = is
join_by place troupe view node is false true true f spare has full = is
join_by place troupe view node is false true false true spare has full = is
join_by place troupe view node is false true false false spare has full = joined_is place troupe view node is spare has (leb-false most_entries (length view.entries) full)

either : (place : ℕ) (troupe : Troupe) (b : Bool) (one other : View) → IsViewOf place troupe one → IsViewOf place troupe other → IsViewOf place troupe (if b then one else other)
either place troupe true one other is is_too = is
either place troupe false one other is is_too = is_too

table_is : (place : ℕ) (troupe : Troupe) (view : View) (request : Request) → IsViewOf place troupe view → IsViewOf place troupe (table_for troupe.root troupe.spares view request).view
table_is place troupe view (Lookup t) is = is
table_is place troupe view (Join t node) is =
    join_by place troupe view node is troupe.root (is_among troupe.spares node) (has_node view node) (nat_le most_entries (length view.entries)) refl refl refl
table_is place troupe view (Active t node count) is =
    either place troupe (list_any (waits node) view.entries) (change_entries view (map (activate_entry node count) view.entries)) view (activated_is place troupe view node count is) is
table_is place troupe view (Gone t node) is =
    either place troupe (has_node view node) (change_entries view (filter (λ (e : Entry). not (e.node == node)) view.entries)) view (without_is place troupe view (λ (e : Entry). not (e.node == node)) is) is

-- ---- the views at boot

among_at : (xs : List ℕ) (k d : ℕ) → k < length xs → is_among xs (get_or xs k d) ≡ true
among_at [] k d few = absurd (omega arith)
among_at (x ∷ xs) zero d few = or_left (x == x) (is_among xs x) (eq-eqb x x refl)
among_at (x ∷ xs) (suc k) d few = or_right (x == get_or xs k d) (is_among xs (get_or xs k d)) (among_at xs k d (omega arith))

differ_boot : (xs : List ℕ) → AllPairs (λ (a b : ℕ). a ≢ b) xs → AllPairs Differ (map boot_entry xs)
differ_boot xs differ i j d before few =
    let few_too : j < length xs = subst (λ n. j < n) (length-map xs boot_entry) few in
    let first : i < length xs = omega arith in
    λ e. differ i j 0 before few_too
    (ap (λ (x : Entry). x.node) (sym (get_or-map boot_entry xs i 0 d first)) ∙ e ∙ ap (λ (x : Entry). x.node) (get_or-map boot_entry xs j 0 d few_too))

boot_is : (place : ℕ) (troupe : Troupe) → IsBootable troupe → IsViewOf place troupe (boot_view place troupe)
boot_is place troupe is = record {
  number = refl;
  first = omega arith;
  last = omega arith;
  few = subst (λ n. n ≤ most_entries) (sym (length-map troupe.founders boot_entry)) is.few;
  members = All-map (λ (e : Entry). is_among (troupe.founders ++ troupe.spares) e.node ≡ true) boot_entry troupe.founders
      (λ k d few. list_any-append (λ n. n == get_or troupe.founders k d) troupe.founders troupe.spares ∙ or_left (is_among troupe.founders (get_or troupe.founders k d)) (is_among troupe.spares (get_or troupe.founders k d)) (among_at troupe.founders k d few));
  differ = differ_boot troupe.founders is.differ;
}

boot_there : (t : ℕ) (troupes : List Troupe) (k n : ℕ) (troupe : Troupe) (view : View) → n ≡ t + k → slice_get troupes k ≡ Some troupe → slice_get (boot_views_from t troupes) k ≡ Some view → view ≡ boot_view n troupe
boot_there t [] k n troupe view is has there = cc
boot_there t (x ∷ xs) zero n troupe view is has there = let same : n ≡ t = omega arith in cc
boot_there t (x ∷ xs) (suc k) n troupe view is has there = boot_there (t + 1) xs k n troupe view (omega arith) has there

-- ---- all views

record AreViews (troupes : List Troupe) (kept : Kept) : Type 0 where
  same : kept.troupes ≡ troupes
  each : (place : ℕ) (troupe : Troupe) (view : View) → slice_get troupes place ≡ Some troupe → IsBootable troupe → slice_get kept.views place ≡ Some view → IsViewOf place troupe view

boot_each : (troupes : List Troupe) → AreViews troupes (record { troupes = troupes; views = boot_views troupes })
boot_each troupes = record {
  same = refl;
  each = λ place troupe view has boot there. subst (IsViewOf place troupe) (sym (boot_there 0 troupes place place troupe view (omega arith) has there)) (boot_is place troupe boot);
}

some_same : {X : Type 0} (a b : X) → Some a ≡ Some b → a ≡ b
some_same a b is = cc

step_by : (troupes : List Troupe) (kept : Kept) (request : Request) (o : Option Table) → AreViews troupes kept → table_by kept request ≡ o
    → AreViews troupes (record kept { views = option_map_or (λ (table : Table). slice_set kept.views (troupe_of request) table.view) o kept.views })
step_by troupes kept request None are is = record { same = are.same; each = are.each }
step_by troupes kept request (Some table) are is =
    let b = has_both kept request table is in
    let at : ℕ = troupe_of request in
    let few : at < length kept.views = slice_get_within kept.views at b.1 b.3 in
    record {
      same = are.same;
      each = λ place troupe view has boot there. elim (cases_eq place at) [
        | inl here ↦
            let troupe_same : b.0 ≡ troupe = some_same b.0 troupe (sym b.2 ∙ ap (λ ts. slice_get ts at) are.same ∙ ap (slice_get troupes) (sym here) ∙ has) in
            let view_same : table.view ≡ view = some_same table.view view (sym (get_set_same kept.views at table.view few) ∙ ap (slice_get (slice_set kept.views at table.view)) (sym here) ∙ there) in
            let before : IsViewOf place troupe b.1 = are.each place troupe b.1 has boot (ap (slice_get kept.views) here ∙ b.3) in
            let made : (table_for troupe.root troupe.spares b.1 request).view ≡ view = ap (λ (x : Troupe). (table_for x.root x.spares b.1 request).view) (sym troupe_same) ∙ ap (λ (x : Table). x.view) (sym b.4) ∙ view_same in
            subst (IsViewOf place troupe) made (table_is place troupe b.1 request before)
        | inr other ↦ are.each place troupe view has boot (sym (get_set_other kept.views at place table.view other) ∙ there)
      ];
    }

step : (troupes : List Troupe) (kept : Kept) (request : Request) → AreViews troupes kept → AreViews troupes (kept_by kept request)
unfolding kept_by
step troupes kept request are = step_by troupes kept request (table_by kept request) are refl

steps : (troupes : List Troupe) (kept : Kept) (requests : List Request) → AreViews troupes kept → AreViews troupes (fold kept_by kept requests)
steps troupes kept [] are = are
steps troupes kept (request ∷ requests) are = steps troupes (kept_by kept request) requests (step troupes kept request are)

pub views_are : (troupes : List Troupe) (requests : List Request) (place : ℕ) (troupe : Troupe) (view : View)
    → slice_get troupes place ≡ Some troupe → IsBootable troupe → slice_get (kept_after troupes requests).views place ≡ Some view → IsViewOf place troupe view
views_are troupes requests = (steps troupes (record { troupes = troupes; views = boot_views troupes }) requests (boot_each troupes)).each
