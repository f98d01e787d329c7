-- The Ringmaster's node that lives through the events of a record, and what is found on the way.
use Rattle.std.specs.Prelude.{ℕ, ◌≡◌, List, [], ◌++◌, map, fold, Option, None, Some}
use Rattle.circus_value.specs.declared.caller.Caller.{Caller}
use Rattle.circus_header.specs.declared.call.Request.{Request}
use Rattle.circus_collate.specs.declared.deployment.Deployment.{Deployment}
use Rattle.circus_ring.specs.RingTable.{Kept, kept_by}
use Rattle.circus_node.specs.Seen.Kept.{IsRingOf}
use Rattle.circus_node.specs.Trace.{Trace}
use Rattle.circus_world_theory.specs.Histories.{beginning_of}
use Rattle.circus_headline_theory.specs.Datagrams.Ring.{Requests}
use Rattle.circus_headline_theory.specs.Numbers.{HasNumbers}
use Rattle.circus_headline_theory.specs.RingRun.{AnswersRequests, kept_behind, requests_of}
use Rattle.circus_headline_theory.specs.ServedRun.{IsNumbered}
use Rattle.circus_headline_theory.specs.Trace.{SendsWhatIsOwed, acts_of, told_of}
use Rattle.circus_audit.specs.declared.given.GivenEvent.{GivenEvent}
use Rattle.circus_verdict.specs.Audited.{events_in, Awaits}
use Rattle.circus_verdict.specs.Seen.Living.{awaited_in}
use Rattle.circus_verdict.specs.Seen.Station.{IsFormatted, AreOf, StandFor}
use Rattle.circus_verdict.specs.declared.ring.Rung.{Rung}
use Rattle.circus_verdict.specs.declared.station.Pairs.{Pairs}

-- what is kept behind more requests
abbrev pub kept_then : Kept → Requests → Kept
kept_then kept requests = fold kept_by kept (map (λ (r : Caller × Request). r.1) requests)

-- ---- of the Ringmaster at a node of a program

module _ (d : Deployment) (node : ℕ) where
  -- what is kept of it can be gone on with
  pub record IsReady (r : Rung) : Type 0 where
    pub format : IsFormatted r.pairs
    pub pairs : AreOf d node r.pairs
    pub ring : IsRingOf d r.ring

  -- a trace goes as it owes: events are numbered, each call has a number, it answers what it accepts, and nothing differs
  pub record GoesSo (t : Trace) : Type 0 where
    pub numbered : IsNumbered t
    pub numbers : HasNumbers d node t
    pub answers : AnswersRequests d node t
    pub quiet : told_of t ≡ []
    pub sends : SendsWhatIsOwed (beginning_of d node) t

  -- and declarations come where they are to
  pub record IsRunSo (t : Trace) : Type 0 where
    pub goes : GoesSo t
    pub declares : Awaits t []

  -- no such trace begins with these events
  abbrev pub AreRefused : List GivenEvent → Type 0
  AreRefused events = (t : Trace) (rest : List GivenEvent) → IsRunSo t → events_in t ≡ events ++ rest → ⊥

  -- a trace has these events: the pairs and the views are those behind it, and these declarations are to come
  pub record HasLived (events : List GivenEvent) (pairs : Pairs) (kept : Kept) (awaited : List ℕ) : Type 0 where
    pub lived : Trace
    pub events_are : events_in lived ≡ events
    pub goes : GoesSo lived
    pub awaited_is : awaited_in lived ≡ Some awaited
    pub stand : StandFor d node (acts_of (beginning_of d node) lived) pairs
    pub kept_is : kept ≡ kept_behind d node (requests_of d node lived)

  abbrev pub LivesThrough : List GivenEvent → Option Rung → Type 0
  LivesThrough events None = AreRefused events
  LivesThrough events (Some r) = HasLived events r.pairs r.ring r.awaited
