-- The views that the Ringmaster keeps, and what it answers, by the troupes of the deployment and the requests so far.
use Rattle.std.specs.Prelude.{ℕ, ◌+◌, Bool, true, false, not, ◌&&◌, ◌==◌, nat_le, if◌then◌else◌, List, [], ◌∷◌, ◌++◌, length, map, filter, fold, Option, Some, None, slice_get, slice_set, min}
use Rattle.std.specs.List.{list_any}
use Rattle.std.specs.Option.{option_map_or}
use Rattle.circus_value.specs.Among.{is_among}
use Rattle.circus_header.specs.declared.call.Request.{Request}
use Rattle.circus_header.specs.declared.call.Request.TheVariants.{Lookup, Join, Active, Gone}
use Rattle.circus_collate.specs.declared.view.Since.{Since}
use Rattle.circus_collate.specs.declared.view.Since.TheVariants.{Joining, From}
use Rattle.circus_collate.specs.declared.view.Entry.{Entry}
use Rattle.circus_collate.specs.declared.view.View.{View}
use Rattle.circus_collate.specs.declared.table.Table.{Table}
use Rattle.circus_collate.specs.declared.table.RingResult.{RingResult}
use Rattle.circus_collate.specs.declared.table.RingResult.TheVariants.{Done, RootTroupe, NotSpare, Full}
use Rattle.circus_collate.specs.declared.deployment.Troupe.{Troupe}
use Rattle.circus_collate.specs.Expecting.{has_node}

-- the most entries of a view
abbrev pub most_entries : ℕ
most_entries = 16

-- the incarnation after which none comes
abbrev pub last_incarnation : ℕ
last_incarnation = 4294967295

-- ---- one view

-- the view with other entries: the incarnation grows, and stays once it is the last
abbrev pub change_entries : View → List Entry → View
change_entries view entries = record view { incarnation = min (view.incarnation + 1) last_incarnation; entries = entries }

-- a node comes in, behind the others
abbrev pub add_joiner : View → ℕ → View
add_joiner view node = if has_node view node then view else change_entries view (view.entries ++ record { node = node; since = Joining } ∷ [])

abbrev pub is_joining : Since → Bool
is_joining Joining = true
is_joining (From first) = false

-- the entry of a node that is joining
abbrev pub waits : ℕ → Entry → Bool
waits node e = (e.node == node) && is_joining e.since

-- an entry once a node performs calls itself from a count on
abbrev pub activate_entry : ℕ → ℕ → Entry → Entry
activate_entry node count e = if waits node e then record { node = node; since = From count } else e

-- a node that is joining performs calls itself from a count on
abbrev pub activate : View → ℕ → ℕ → View
activate view node count =
    if list_any (waits node) view.entries
    then change_entries view (map (activate_entry node count) view.entries)
    else view

-- a node is gone
abbrev pub remove_node : View → ℕ → View
remove_node view node = if has_node view node then change_entries view (filter (λ (e : Entry). not (e.node == node)) view.entries) else view

-- ---- a request

-- whose view is asked for or changed
abbrev pub troupe_of : Request → ℕ
troupe_of (Lookup t) = t
troupe_of (Join t node) = t
troupe_of (Active t node count) = t
troupe_of (Gone t node) = t

-- why a node is not taken in, the first reason counting
abbrev pub join_result : Bool → List ℕ → View → ℕ → RingResult
join_result root spares view node =
    if root then RootTroupe
    else if not (is_among spares node) then NotSpare
    else if not (has_node view node) && nat_le most_entries (length view.entries) then Full
    else Done

-- what a request comes to for a troupe with this view: a root's or not, with these spares
abbrev pub result_of : Bool → List ℕ → View → Request → RingResult
result_of root spares view (Lookup t) = Done
result_of root spares view (Join t node) = join_result root spares view node
result_of root spares view (Active t node count) = Done
result_of root spares view (Gone t node) = Done

abbrev pub is_done : RingResult → Bool
is_done Done = true
is_done RootTroupe = false
is_done NotSpare = false
is_done Full = false

-- the view once a request is done
abbrev pub view_by : View → Request → View
view_by view (Lookup t) = view
view_by view (Join t node) = add_joiner view node
view_by view (Active t node count) = activate view node count
view_by view (Gone t node) = remove_node view node

-- the view after a request, and what is answered
abbrev pub table_for : Bool → List ℕ → View → Request → Table
table_for root spares view request =
    let result = result_of root spares view request in
    record { result = result; view = if is_done result then view_by view request else view }

-- ---- all views, over a list of requests, the first one first

abbrev pub boot_entry : ℕ → Entry
boot_entry node = record { node = node; since = From 0 }

-- the founders perform calls from the first one on
abbrev pub boot_view : ℕ → Troupe → View
boot_view t troupe = record { troupe = t; incarnation = 1; entries = map boot_entry troupe.founders }

abbrev pub boot_views_from : ℕ → List Troupe → List View
boot_views_from t [] = []
boot_views_from t (troupe ∷ troupes) = boot_view t troupe ∷ boot_views_from (t + 1) troupes

-- the views that every node boots with
abbrev pub boot_views : List Troupe → List View
boot_views troupes = boot_views_from 0 troupes

-- the troupes of a deployment, and a view of each
pub record Kept : Type 0 where
  pub troupes : List Troupe
  pub views : List View

-- the answer to a request about one of the troupes
unfoldable pub table_by : Kept → Request → Option Table
table_by kept request =
    option_map_or (λ (troupe : Troupe). option_map_or (λ view. Some (table_for troupe.root troupe.spares view request)) (slice_get kept.views (troupe_of request)) None)
    (slice_get kept.troupes (troupe_of request)) None

-- once a request was answered
unfoldable pub kept_by : Kept → Request → Kept
kept_by kept request = record kept { views = option_map_or (λ (table : Table). slice_set kept.views (troupe_of request) table.view) (table_by kept request) kept.views }

-- after requests, the first one first
abbrev pub kept_after : List Troupe → List Request → Kept
kept_after troupes requests = fold kept_by (record { troupes = troupes; views = boot_views troupes }) requests

-- the answer to a request behind others
abbrev pub answer_after : List Troupe → List Request → Request → Option Table
answer_after troupes requests request = table_by (kept_after troupes requests) request
