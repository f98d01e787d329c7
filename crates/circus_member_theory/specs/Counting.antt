-- What counts for a collator: who is expected to say a value, which calls are those of an index,
-- and a value that all have said.
use Rattle.std.specs.Prelude.{◌≡◌, ℕ, ◌≤◌, Bool, true, false, List, IsSomeAnd, Some, slice_get, slice_index}
use Rattle.circus_value.specs.Among.{is_among}
use Rattle.circus_collate.specs.declared.giving.Said.{Said}
use Rattle.circus_collate.specs.declared.view.Entry.{Entry}
use Rattle.circus_collate.specs.declared.view.Since.TheVariants as since
use Rattle.circus_collate.specs.declared.view.View.{View}
use Rattle.circus_gather.specs.declared.held.HeldCall.{HeldCall}

-- ---- who performs

-- an entry performs the calls from this index on, or from an earlier one
pub record PerformsItself (e : Entry) (index : ℕ) : Type 0 where
  pub first : ℕ
  pub since_it : e.since ≡ since.From first
  pub by_then : first ≤ index

-- a node has such an entry in a view
pub record HasOneThatPerforms (view : View) (index node : ℕ) : Type 0 where
  pub place : ℕ
  pub entry : Entry
  pub there : slice_get view.entries place ≡ Some entry
  pub of_node : entry.node ≡ node
  pub performs : PerformsItself entry index

-- ---- which calls count

-- a call names a view of its client that is known, or an earlier one
abbrev pub IsOfKnownView : List View → HeldCall → Type 0
IsOfKnownView views call =
    IsSomeAnd (slice_get views call.header.client)
    (λ (view : View). call.header.client_incarnation ≤ view.incarnation)

-- it is the call of this index to a troupe, of no older view of that than is required
pub record IsCallOf (troupe required : ℕ) (views : List View) (index : ℕ) (call : HeldCall)
    : Type 0 where
  pub index_is : slice_index call.header.clock troupe ≡ index
  pub recent : required ≤ call.header.server_incarnation
  pub known : IsOfKnownView views call

-- ---- what all have said

module _ {V : Type 0} where
  -- a node has said something
  pub record HasSaid (said : List (Said V)) (node : ℕ) : Type 0 where
    pub place : ℕ
    pub one : Said V
    pub there : slice_get said place ≡ Some one
    pub of_node : one.node ≡ node

  -- the value at a place was said first, each node that is expected to say it and isn't down has
  -- said something, and all that was said is equal to it
  pub record IsUnanimous (same : V → V → Bool) (expected : V → List ℕ) (down : List ℕ)
      (said : List (Said V)) (place : ℕ) : Type 0 where
    pub first : place ≡ 0
    pub heard : (s : Said V) (node : ℕ) → slice_get said place ≡ Some s
        → is_among (expected s.value) node ≡ true → is_among down node ≡ false → HasSaid said node
    pub equal : (at : ℕ) (s t : Said V) → slice_get said place ≡ Some s → slice_get said at ≡ Some t
        → same s.value t.value ≡ true
