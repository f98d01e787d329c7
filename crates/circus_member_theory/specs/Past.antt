-- What happened to a member, and what it knew then.
use Rattle.std.specs.Prelude.{ℕ, ◌<◌, ◌&&◌, nat_lt, max, Bool, true, false, if◌then◌else◌, List, [], ◌∷◌, ◌++◌, Option, None, Some, slice_get, slice_set}
use Rattle.std.specs.Option.{option_map_or}
use Rattle.circus_value.specs.Among.{is_among}
use Rattle.circus_value.specs.ValueTree.{ValueTree}
use Rattle.circus_header.specs.declared.answer.Reply.{Reply}
use Rattle.circus_collate.specs.declared.view.View.{View}
use Rattle.circus_collate.specs.declared.giving.Said.{Said}
use Rattle.circus_collate.specs.declared.table.Table.{Table}
use Rattle.circus_collate.specs.declared.table.RingResult.{RingResult}
use Rattle.circus_collate.specs.declared.table.RingResult.TheVariants.{Done, RootTroupe, NotSpare, Full}
use Rattle.circus_transfer.specs.declared.joiner.Joiner.{Joiner}
use Rattle.circus_transfer.specs.declared.joiner.Joiner.TheVariants.{Outside, Asking, Fetching, Active}
use Rattle.circus_gather.specs.declared.held.HeldCall.{HeldCall}
use Rattle.circus_performing.specs.Performing.{is_fetching}
use Rattle.circus_member_rules.specs.declared.occurrence.AskName.{AskName}
use Rattle.circus_member_rules.specs.declared.occurrence.Occurrence.{Occurrence}
use Rattle.circus_member_rules.specs.declared.occurrence.Occurrence.TheVariants as comes
use Rattle.circus_member_rules.specs.OpenAsks.{is_name}
use Rattle.circus_member_rules.specs.Step.{is_join}

-- oldest first, each with its step; boot is step 0
pub data Past : Type 0 where
  booted : Past
  followed : Past → (step : ℕ) → Occurrence → Past

-- its last step
abbrev pub now : Past → ℕ
now booted = 0
now (followed p step o) = step

-- steps rise
abbrev pub Rises : Past → Type 0
Rises booted = Unit {0}
Rises (followed p step o) = Rises p × (now p < step)

-- ---- views

abbrev pub is_newer : List View → View → Bool
is_newer views view =
    option_map_or (λ (other : View). nat_lt other.incarnation view.incarnation)
    (slice_get views view.troupe) false

abbrev pub with_view : List View → View → List View
with_view views view =
    if is_newer views view then slice_set views view.troupe view else views

-- of each troupe the first of the greatest incarnation among its boot view and its tables
abbrev pub views_known : List View → Past → List View
views_known boot booted = boot
views_known boot (followed p step (comes.Told request table)) = with_view (views_known boot p) table.view
views_known boot (followed p step _) = views_known boot p

-- the nodes that were declared to be down, in order
abbrev pub nodes_declared_down : Past → List ℕ
nodes_declared_down booted = []
nodes_declared_down (followed p step (comes.Declared node)) =
    if is_among (nodes_declared_down p) node then nodes_declared_down p else nodes_declared_down p ++ node ∷ []
nodes_declared_down (followed p step _) = nodes_declared_down p

-- the greatest incarnation of the state requests, or 0
abbrev pub required_incarnation : Past → ℕ
required_incarnation booted = 0
required_incarnation (followed p step (comes.Fetched incarnation sender)) =
    max (required_incarnation p) incarnation
required_incarnation (followed p step _) = required_incarnation p

-- ---- calls and replies

-- the asks of other members, in order of arrival
abbrev pub calls_arrived : Past → List HeldCall
calls_arrived booted = []
calls_arrived (followed p step (comes.Asked header body sender)) =
    calls_arrived p ++ record { header = header; body = body; sender = sender } ∷ []
calls_arrived (followed p step _) = calls_arrived p

-- a reply to the ask of a name that was made in a step, if it came later
abbrev pub reply_said : ℕ → AskName → ℕ → AskName → ℕ → Reply → List (Said Reply)
reply_said asked name step other from reply =
    if nat_lt asked step && is_name name other
    then record { node = from; value = reply } ∷ []
    else []

-- the replies to an ask, in order of arrival
abbrev pub replies_to : ℕ → AskName → Past → List (Said Reply)
replies_to asked name booted = []
replies_to asked name (followed p step (comes.Replied other from reply)) =
    replies_to asked name p ++ reply_said asked name step other from reply
replies_to asked name (followed p step _) = replies_to asked name p

-- ---- the way into the troupe, from this phase at boot on

abbrev pub is_outside : Joiner → Bool
is_outside Outside = true
is_outside Asking = false
is_outside (Fetching incarnation) = false
is_outside (Active first) = false

abbrev pub is_asking : Joiner → Bool
is_asking Outside = false
is_asking Asking = true
is_asking (Fetching incarnation) = false
is_asking (Active first) = false

abbrev pub is_done : RingResult → Bool
is_done Done = true
is_done RootTroupe = false
is_done NotSpare = false
is_done Full = false

-- by the table that answers its Join a spare fetches a state, in the view's incarnation, where the
-- result is Done, and is outside again where it is another one
abbrev pub taken_in : Table → Joiner
taken_in table =
    if is_done table.result then Fetching table.view.incarnation else Outside

-- a spare that is outside asks from its being told to join on, and one that fetches a state is
-- active from the first one that comes, with its count
abbrev pub phase : Joiner → Past → Joiner
phase begins booted = begins
phase begins (followed p step comes.Joins) =
    if is_outside (phase begins p) then Asking else phase begins p
phase begins (followed p step (comes.Told request table)) =
    if is_join request && is_asking (phase begins p) then taken_in table else phase begins p
phase begins (followed p step (comes.Restored state count)) =
    if is_fetching (phase begins p) then Active count else phase begins p
phase begins (followed p step _) = phase begins p

-- the first snapshot that came while the member fetched one: a state with a count
abbrev pub snapshot_fetched : Joiner → Past → Option (List ValueTree × ℕ)
snapshot_fetched begins booted = None
snapshot_fetched begins (followed p step (comes.Restored state count)) =
    if is_fetching (phase begins p) then Some (state, count) else snapshot_fetched begins p
snapshot_fetched begins (followed p step _) = snapshot_fetched begins p
