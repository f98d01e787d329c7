-- One call to many, over all that happens to it: what became of the last call to each node, whom a call is owed, and when it
-- is closed.
use Rattle.std.specs.Prelude.{◌≡◌, ℕ, ◌==◌, ◌<◌, ◌≤◌, Bool, true, false, ◌||◌, if◌then◌else◌, List, [], ◌∷◌, ◌++◌, map, slice_get, Some}
use Rattle.std.specs.List.{list_all}
use Rattle.circus_value.specs.Among.{is_among}
use Rattle.circus_header.specs.declared.call.CallHeader.{CallHeader}
use Rattle.circus_header.specs.declared.answer.Reply.{Reply}
use Rattle.circus_collate.specs.declared.giving.Said.{Said}
use Rattle.circus_collate.specs.declared.kind.Kind.{Kind}
use Rattle.circus_collate.specs.declared.view.Entry.{Entry}
use Rattle.circus_collate.specs.declared.view.View.{View}
use Rattle.circus_collate.specs.Expecting.{has_node}
use Rattle.circus_fanout.specs.Asking.{Asking, begin_asking, calls_for_a_view, with_view, with_reply, with_before, with_stale, next, all_settled}
use Rattle.circus_fanout.specs.declared.send.Send.{Send}
use Rattle.circus_fanout.specs.declared.send.Next.{Next}
use Rattle.circus_fanout.specs.declared.send.Next.TheVariants as N

-- what happens to a call that was made
pub data Act : Type 0 where
  -- a newer view is known
  tells : View → Act
  -- a node is declared to be down
  falls : ℕ → Act
  -- a node answers with a reply, that the call is before its first one, or that it is of an older view than this incarnation
  replies : ℕ → Reply → Act
  is_before : ℕ → Act
  is_stale : ℕ → ℕ → Act

-- what became of the last call to a node
pub data Fate : Type 0 where
  uncalled : Fate
  -- it has no answer
  waits : Fate
  -- it is answered by a reply, or is before the node's first one
  done : Fate
  -- it is of an older view than this incarnation
  stale : ℕ → Fate

-- a node was called
abbrev pub IsCalled : Fate → Type 0
IsCalled uncalled = ⊥
IsCalled waits = Unit {0}
IsCalled done = Unit {0}
IsCalled (stale incarnation) = Unit {0}

abbrev pub is_done : Fate → Bool
is_done uncalled = false
is_done waits = false
is_done done = true
is_done (stale incarnation) = false

-- what an act makes of it
abbrev pub fate_after : ℕ → Act → Fate → Fate
fate_after node (tells view) fate = fate
fate_after node (falls other) fate = fate
fate_after node (replies other reply) fate = if other == node then done else fate
fate_after node (is_before other) fate = if other == node then done else fate
fate_after node (is_stale other incarnation) fate = if other == node then stale incarnation else fate

-- to whom calls go
abbrev pub receivers : List Send → List ℕ
receivers sends = map (λ (send : Send). send.node) sends

abbrev pub receivers_next : Next → List ℕ
receivers_next (N.Send send) = send.node ∷ []
receivers_next (N.Lookup wanted) = []
receivers_next N.Leave = []

-- ---- whom a call is owed

-- an entry of a view waits for no call: the last one is done or has no answer, or is of an older view than one that is still to come
abbrev pub IsServed : View → Fate → Type 0
IsServed view uncalled = ⊥
IsServed view waits = Unit {0}
IsServed view done = Unit {0}
IsServed view (stale incarnation) = view.incarnation < incarnation

-- a node is called that was not called before, or whose last call this view satisfies
abbrev pub MayBeCalled : View → Fate → Type 0
MayBeCalled view uncalled = Unit {0}
MayBeCalled view waits = ⊥
MayBeCalled view done = ⊥
MayBeCalled view (stale incarnation) = incarnation ≤ view.incarnation

-- to a node that isn't down, an entry of the view that is known: by a newer view, or again as it says that the last one was of an older one
abbrev pub IsOwedBy : Act → View → ℕ → Fate → Type 0
IsOwedBy (tells newer) view node fate = MayBeCalled view fate
IsOwedBy (falls other) view node fate = ⊥
IsOwedBy (replies other reply) view node fate = ⊥
IsOwedBy (is_before other) view node fate = ⊥
IsOwedBy (is_stale other incarnation) view node fate = (other ≡ node) × (incarnation ≤ view.incarnation)

-- a call that is made while this view is known and these nodes are down; what happened to it, the last first
module _ (header : CallHeader) (body : List ℕ) (kind : Kind) (first : View) (gone : List ℕ) where
  abbrev pub known_view : List Act → View
  known_view [] = first
  known_view (tells view ∷ before) = view
  known_view (falls node ∷ before) = known_view before
  known_view (replies node reply ∷ before) = known_view before
  known_view (is_before node ∷ before) = known_view before
  known_view (is_stale node incarnation ∷ before) = known_view before

  abbrev pub down_nodes : List Act → List ℕ
  down_nodes [] = gone
  down_nodes (falls node ∷ before) = node ∷ down_nodes before
  down_nodes (tells view ∷ before) = down_nodes before
  down_nodes (replies node reply ∷ before) = down_nodes before
  down_nodes (is_before node ∷ before) = down_nodes before
  down_nodes (is_stale node incarnation ∷ before) = down_nodes before

  -- the replies, in order of arrival
  abbrev pub replies_by : List Act → List (Said Reply)
  replies_by [] = []
  replies_by (replies node reply ∷ before) = replies_by before ++ record { node = node; value = reply } ∷ []
  replies_by (tells view ∷ before) = replies_by before
  replies_by (falls node ∷ before) = replies_by before
  replies_by (is_before node ∷ before) = replies_by before
  replies_by (is_stale node incarnation ∷ before) = replies_by before

  -- what is kept of it
  abbrev pub after : List Act → Asking
  after [] = with_view first gone (begin_asking header body kind)
  after (tells view ∷ before) = with_view view (down_nodes before) (after before)
  after (falls node ∷ before) = after before
  after (replies node reply ∷ before) = with_reply node reply (after before)
  after (is_before node ∷ before) = with_before node (after before)
  after (is_stale node incarnation ∷ before) = with_stale (known_view before) (down_nodes before) node incarnation (after before)

  -- whom the last of this makes it call
  abbrev pub nodes_called : List Act → List ℕ
  nodes_called [] = receivers (calls_for_a_view first gone [])
  nodes_called (tells view ∷ before) = receivers (calls_for_a_view view (down_nodes before) (after before).asked)
  nodes_called (falls node ∷ before) = []
  nodes_called (replies node reply ∷ before) = []
  nodes_called (is_before node ∷ before) = []
  nodes_called (is_stale node incarnation ∷ before) = receivers_next (next (known_view before) (down_nodes before) node incarnation)

  abbrev pub fate : List Act → ℕ → Fate
  fate [] node = if is_among (nodes_called []) node then waits else uncalled
  fate (act ∷ before) node = if is_among (nodes_called (act ∷ before)) node then waits else fate_after node act (fate before node)

  -- only who was called answers
  abbrev pub AreAnswers : List Act → Type 0
  AreAnswers [] = Unit {0}
  AreAnswers (tells view ∷ before) = AreAnswers before
  AreAnswers (falls node ∷ before) = AreAnswers before
  AreAnswers (replies node reply ∷ before) = AreAnswers before × IsCalled (fate before node)
  AreAnswers (is_before node ∷ before) = AreAnswers before × IsCalled (fate before node)
  AreAnswers (is_stale node incarnation ∷ before) = AreAnswers before × IsCalled (fate before node)

  -- ---- the law

  pub record CallsWhoIsOwed (acts : List Act) : Type 0 where
    -- nobody waits for a call: of each entry of the view that is known, and isn't down
    pub served : (place : ℕ) (entry : Entry) → slice_get (known_view acts).entries place ≡ Some entry → is_among (down_nodes acts) entry.node ≡ false
        → IsServed (known_view acts) (fate acts entry.node)
    -- and nobody else is called: only an entry that isn't down, and is owed a call
    pub only : (act : Act) (before : List Act) (node : ℕ) → acts ≡ act ∷ before → is_among (nodes_called acts) node ≡ true
        → (has_node (known_view acts) node ≡ true) × (is_among (down_nodes before) node ≡ false) × IsOwedBy act (known_view acts) node (fate before node)
    -- it is closed as each entry is down, or has answered with a reply or that the call is before its first one
    pub closes : all_settled (known_view acts) (down_nodes acts) (after acts)
        ≡ list_all (λ (entry : Entry). is_among (down_nodes acts) entry.node || is_done (fate acts entry.node)) (known_view acts).entries
    -- and what was said to it are the replies, in order
    pub said : (after acts).said ≡ replies_by acts
