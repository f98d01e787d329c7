-- What comes to a member's notice, and what it knows by that.
use Rattle.std.specs.Prelude.{◌≡◌, ℕ, ◌≤◌, ◌<◌, Bool, false, ◌||◌, ◌==◌, max, if◌then◌else◌, List, [], ◌∷◌, ◌++◌, slice_get}
use Rattle.std.specs.List.{AllByRecursion}
use Rattle.std.specs.Option.{option_map_or}
use Rattle.circus_collate.specs.declared.view.View.{View}

-- a table with a troupe's view; that a node is down; that a view of a troupe is wanted in this incarnation; that the
-- Ringmaster was asked for the views that are wanted, and is at this node; that it answered for a troupe
pub data Notice : Type 0 where
  Told : (view : View) → Notice
  Declared : (node : ℕ) → Notice
  Wanted : (troupe : ℕ) → (incarnation : ℕ) → Notice
  LookedUp : (ringmaster : ℕ) → Notice
  Answered : (troupe : ℕ) → Notice

-- oldest first
pub data Notices : Type 0 where
  none_yet : Notices
  more : Notices → Notice → Notices

-- the boot view of a troupe, and behind it those of its tables, as they came
abbrev pub views_of : List View → ℕ → Notices → List View
views_of boot troupe none_yet = option_map_or (λ view. view ∷ []) (slice_get boot troupe) []
views_of boot troupe (more notices (Told view)) = if view.troupe == troupe then views_of boot troupe notices ++ view ∷ [] else views_of boot troupe notices
views_of boot troupe (more notices _) = views_of boot troupe notices

-- the first of the greatest incarnation
pub record IsHighest (views : List View) (view : View) : Type 0 where
  pub earlier : List View
  pub later : List View
  pub stands : views ≡ earlier ++ view ∷ later
  pub above : AllByRecursion (λ (other : View). other.incarnation < view.incarnation) earlier
  pub not_below : AllByRecursion (λ (other : View). other.incarnation ≤ view.incarnation) later

-- a node was declared to be down
abbrev pub was_declared : ℕ → Notices → Bool
was_declared node none_yet = false
was_declared node (more notices (Declared other)) = (other == node) || was_declared node notices
was_declared node (more notices _) = was_declared node notices

-- the greatest incarnation in which a troupe's view was wanted, or 0
abbrev pub greatest_wanted : ℕ → Notices → ℕ
greatest_wanted troupe none_yet = 0
greatest_wanted troupe (more notices (Wanted other incarnation)) =
    if other == troupe then max (greatest_wanted troupe notices) incarnation else greatest_wanted troupe notices
greatest_wanted troupe (more notices _) = greatest_wanted troupe notices
