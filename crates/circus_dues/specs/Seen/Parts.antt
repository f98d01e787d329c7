-- What is kept of a past, in parts.
use Rattle.std.specs.Prelude.{◌≡◌, ℕ, ◌<◌, ◌≤◌, Bool, if◌then◌else◌, List, [], length, All}
use Rattle.circus_limits.specs.Limits.{most_modules}
use Rattle.circus_value.specs.declared.caller.Caller.{Caller}
use Rattle.circus_header.specs.CallFields.{IsNode, IsIncarnation}
use Rattle.circus_header.specs.declared.call.Request.{Request}
use Rattle.circus_collate.specs.declared.view.View.{View}
use Rattle.circus_gather.specs.Gathering.{Gathered}
use Rattle.circus_fanout.specs.Knowing.{Knowing}
use Rattle.circus_fanout.specs.Knowing as knowing
use Rattle.circus_fanout.specs.Asking.{Asking}
use Rattle.circus_fanout.specs.Asking as asking
use Rattle.circus_member_rules.specs.declared.occurrence.AskName.{AskName}
use Rattle.circus_member_rules.specs.declared.occurrence.Effect.{Effect}
use Rattle.circus_member_rules.specs.declared.place.Place.{Place}
use Rattle.circus_member_rules.specs.Callable.{AreHosts, IsAsked}
use Rattle.circus_member_rules.specs.OpenAsks.{with_ask}
use Rattle.circus_member_rules.specs.Rules as rules
use Rattle.circus_member_rules.specs.Step.{known_by_table}

-- the asks that wait for their return, with what is known of the calls in, and the state requests that wait for a snapshot
pub record CallsIn : Type 0 where
  pub gathered : Gathered
  pub requests : List Caller

-- what is known of the troupes, and the asks that aren't closed
pub record CallsOut : Type 0 where
  pub known : Knowing
  pub asks : List (AskName × Asking)

-- ---- which calls may be made

-- an ask of a troupe, whose calls may be sent
pub record IsAskOf (troupe : ℕ) (a : Asking) : Type 0 where
  pub asked : IsAsked a.header
  pub client : a.header.client ≡ troupe

abbrev pub AreAsksOf : ℕ → List (AskName × Asking) → Type 0
AreAsksOf troupe asks = All (λ (e : AskName × Asking). IsAskOf troupe e.1) asks

-- a member at this place, of a troupe whose view is known, may send the calls of its open asks and its requests
pub record MayCallFor (place : Place) (o : CallsOut) : Type 0 where
  pub few : length o.known.views ≤ most_modules
  pub own : place.troupe < length o.known.views
  pub node : IsNode place.node
  pub hosts : AreHosts place
  pub incarnations : All (λ (v : View). IsIncarnation v.incarnation) o.known.views
  pub asks : AreAsksOf place.troupe o.asks

-- one that might before may still
abbrev pub StillMayCall : CallsOut → CallsOut → Type 0
StillMayCall before after = (place : Place) → MayCallFor place before → MayCallFor place after

-- ---- the Ringmaster answers a request with a view

abbrev pub with_table : CallsOut → Request → View → CallsOut
with_table o request view =
    let known = known_by_table o.known request view in
    record { known = known; asks = if knowing.is_newer o.known view then rules.with_new_view known view o.asks else o.asks }

-- the calls of open asks that it makes due
abbrev pub calls_by_table : CallsOut → Request → View → List Effect
calls_by_table o request view =
    if knowing.is_newer o.known view then rules.calls_for_a_new_view (known_by_table o.known request view) view o.asks else []

-- the state requests of a member that it takes in
abbrev pub states_by_table : Place → Bool → List ℕ → View → List Effect
states_by_table place taken_in down view = if taken_in then rules.state_requests place down view else []

-- ---- an ask is made

-- it is open, where the view of its server is known
abbrev pub with_opened : CallsOut → AskName → Asking → CallsOut
with_opened o name a =
    rules.by_view o.known a (λ view. record o { asks = with_ask o.asks name (asking.with_view view o.known.down a) }) o

-- its calls go to the entries of that view that aren't down
abbrev pub calls_by_opening : Knowing → AskName → Asking → List Effect
calls_by_opening k name a = rules.by_view k a (λ view. rules.calls_of_ask k name a (asking.calls_for_a_view view k.down [])) []
