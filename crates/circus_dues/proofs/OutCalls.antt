-- What becomes of open asks along a trace, and the calls that are made of them, read of what is
-- known the views and the nodes that are down alone.
use Rattle.std.proofs.Common.{◌≡◌, ℕ, Bool, if◌then◌else◌, List, [], filter, refl, sym}
use Rattle.std.specs.Prelude.{fold}
use Rattle.std.specs.Option.{option_map_or}
use Rattle.circus_header.specs.declared.call.CallHeader.{CallHeader}
use Rattle.circus_collate.specs.declared.view.View.{View}
use Rattle.circus_collate.specs.declared.kind.Kind.{Kind}
use Rattle.circus_fanout.specs.Knowing.{Knowing}
use Rattle.circus_fanout.specs.Asking.{Asking, begin_asking}
use Rattle.circus_member_rules.specs.declared.place.Place.{Place}
use Rattle.circus_member_rules.specs.declared.occurrence.AskName.{AskName}
use Rattle.circus_member_rules.specs.declared.occurrence.Occurrence.{Occurrence}
use Rattle.circus_member_rules.specs.declared.occurrence.Occurrence.TheVariants as comes
use Rattle.circus_member_rules.specs.OpenAsks.{asking_of, with_asking}
use Rattle.circus_member_rules.specs.Rules.{after_stale, call_again, calls_for_a_new_view, with_new_view, stays_open, close_asks}
use Rattle.circus_member_theory.specs.Past as past
use Rattle.circus_member_theory.specs.Past.{Past, followed}
use Rattle.circus_member_theory.specs.Asks.{knows, opened_one, first_calls, asks_behind, calls_behind}
use Rattle.circus_dues.specs.Out.{open_behind, calls_of_open, KnowsViews}

-- views and nodes, and this wanted
abbrev known : List View → List ℕ → Knowing → Knowing
known views down k = record { views = views; down = down; wants = k.wants }

module _ (place : Place) (boot : List View) where
  -- ---- what comes

  module _ (p : Past) (step : ℕ) (before k : Knowing) (known_before : KnowsViews boot p before) where
    pub asks_behind_are : (o : Occurrence) → KnowsViews boot (followed p step o) k → (asks : List (AskName × Asking)) → asks_behind place boot (followed p step o) asks ≡ open_behind o before k asks
    asks_behind_are (comes.Asked header body sender) h asks = refl
    asks_behind_are (comes.Fetched incarnation sender) h asks = refl
    asks_behind_are (comes.Replied name from reply) h asks = refl
    asks_behind_are (comes.IsStale name server from incarnation) h asks = λ j. with_asking name (after_stale (known (sym h.views j) (sym h.down j) k) from incarnation) asks
    asks_behind_are (comes.IsBefore name from) h asks = refl
    asks_behind_are (comes.Told request table) h asks =
        λ j. if past.is_newer (sym known_before.views j) table.view then with_new_view (known (sym h.views j) (sym h.down j) k) table.view asks else asks
    asks_behind_are (comes.Restored state count) h asks = refl
    asks_behind_are (comes.Declared node) h asks = refl
    asks_behind_are comes.Joins h asks = refl

    pub calls_behind_are : (o : Occurrence) → KnowsViews boot (followed p step o) k → (asks : List (AskName × Asking)) → calls_behind place boot (followed p step o) asks ≡ calls_of_open o before k asks
    calls_behind_are (comes.Asked header body sender) h asks = refl
    calls_behind_are (comes.Fetched incarnation sender) h asks = refl
    calls_behind_are (comes.Replied name from reply) h asks = refl
    calls_behind_are (comes.IsStale name server from incarnation) h asks =
        λ j. option_map_or (call_again (known (sym h.views j) (sym h.down j) k) name from incarnation) (asking_of asks name) []
    calls_behind_are (comes.IsBefore name from) h asks = refl
    calls_behind_are (comes.Told request table) h asks =
        λ j. if past.is_newer (sym known_before.views j) table.view then calls_for_a_new_view (known (sym h.views j) (sym h.down j) k) table.view asks else []
    calls_behind_are (comes.Restored state count) h asks = refl
    calls_behind_are (comes.Declared node) h asks = refl
    calls_behind_are comes.Joins h asks = refl

  -- ---- asks are opened

  module _ (p : Past) (k : Knowing) (h : KnowsViews boot p k) where
    pub opened_is : (asks : List (AskName × Asking)) (e : AskName × Asking) → opened_one place boot (knows place boot p) asks e ≡ opened_one place boot k asks e
    opened_is asks e = λ j. opened_one place boot (known (sym h.views j) (sym h.down j) k) asks e

    pub all_opened : (asks new : List (AskName × Asking)) → fold (opened_one place boot (knows place boot p)) asks new ≡ fold (opened_one place boot k) asks new
    all_opened asks new = λ j. fold (opened_one place boot (known (sym h.views j) (sym h.down j) k)) asks new

    pub first_calls_are : (e : AskName × Asking) → first_calls place boot (knows place boot p) e ≡ first_calls place boot k e
    first_calls_are e = λ j. first_calls place boot (known (sym h.views j) (sym h.down j) k) e

    -- ---- asks are closed

    pub closed_are : (waits : AskName → Bool) (asks : List (AskName × Asking)) → filter (stays_open (knows place boot p) waits) asks ≡ close_asks k waits asks
    closed_are waits asks = λ j. filter (stays_open (known (sym h.views j) (sym h.down j) k) waits) asks

  -- ---- by the view of its server

  module _ (k : Knowing) (name : AskName) (header : CallHeader) (body : List ℕ) (kind : Kind) where
    abbrev made : Asking
    made = begin_asking header body kind
