-- The value of the ask that waits, by the asks that are open behind what comes.
use Rattle.std.proofs.Common.{◌≡◌, ℕ, ◌<◌, true, false, true≢false, List, [], ◌∷◌, ◌++◌, Option, None, Some, refl, sym, ap, ◌∙◌}
use Rattle.std.specs.Prelude.{fold, is_some, slice_get, option_and_then}
use Rattle.circus_value.specs.ValueTree.{ValueTree}
use Rattle.circus_collate.specs.declared.view.View.{View}
use Rattle.circus_transfer.specs.declared.joiner.Joiner.{Joiner}
use Rattle.circus_record.specs.declared.record.AskRecord.{AskRecord}
use Rattle.circus_record.specs.declared.record.MemberRecord.{MemberRecord}
use Rattle.circus_fanout.specs.Knowing.{Knowing}
use Rattle.circus_fanout.specs.Asking.{Asking}
use Rattle.circus_member_rules.specs.declared.place.Place.{Place}
use Rattle.circus_member_rules.specs.declared.occurrence.AskName.{AskName}
use Rattle.circus_member_rules.specs.declared.occurrence.Occurrence.{Occurrence}
use Rattle.circus_member_rules.specs.OpenAsks.{asking_of}
use Rattle.circus_member_rules.specs.Rules.{value_of_ask}
use Rattle.circus_member_theory.specs.Past.{Past, booted, followed, now, Rises, views_known}
use Rattle.circus_member_theory.specs.Asks.{knows, opened_one, asks_behind, new_asks, waits_then, open_asks}
use Rattle.circus_member_theory.specs.Differences.{ask_named}
use Rattle.circus_member_theory.specs.Timely.{collated_reply}
use Rattle.circus_dues.specs.Out.{AsksCount, KnowsViews}
use Rattle.circus_dues.proofs.OutOpen.{is_open, open_amid, open_new, still_open, newly_open, none_unknown, known_from_boot}
use Rattle.circus_dues.proofs.OutSaid.{amid_is, value_so}

module _ (place : Place) (boot : List View) (kept : MemberRecord) where
  -- the ask of a name is open, where a view of its server was known at boot
  abbrev pub IsKeptOpen : Past → AskName → AskRecord → Type 0
  IsKeptOpen p name ask = is_some (slice_get boot ask.callee) ≡ true → is_open (open_asks place boot kept p) name ≡ true

  -- it stays so while it waits
  pub still_kept : (p : Past) (step : ℕ) (o : Occurrence) (name : AskName) (ask : AskRecord) → waits_then place boot kept (followed p step o) name ≡ true → IsKeptOpen p name ask → IsKeptOpen (followed p step o) name ask
  still_kept p step o name ask waits h known = still_open place boot kept p step o name waits (h known)

  -- the view of its server
  view_of : (q : Past) (e : AskName × Asking) (ask : AskRecord) → e.1.header.server ≡ ask.callee → is_some (slice_get boot ask.callee) ≡ true → (view : View) × (slice_get (views_known boot q) e.1.header.server ≡ Some view)
  view_of q e ask server known = by_view (slice_get (views_known boot q) e.1.header.server) refl
    where
      there : is_some (slice_get (views_known boot q) e.1.header.server) ≡ true
      there = ap (λ t. is_some (slice_get (views_known boot q) t)) server ∙ known_from_boot boot q ask.callee ∙ known

      by_view : (found : Option View) → slice_get (views_known boot q) e.1.header.server ≡ found → (view : View) × (slice_get (views_known boot q) e.1.header.server ≡ Some view)
      by_view None is = absurd (true≢false (sym there ∙ ap is_some is))
      by_view (Some view) is = (view, is)

  -- and it is as it begins to wait
  module _ (before : List (AskName × Asking)) (e : AskName × Asking) (later : List (AskName × Asking)) (ask : AskRecord) (server : e.1.header.server ≡ ask.callee) where
    pub newly_kept : (p : Past) (step : ℕ) (o : Occurrence) → new_asks place boot kept (followed p step o) ≡ before ++ e ∷ later → waits_then place boot kept (followed p step o) e.0 ≡ true → IsKeptOpen (followed p step o) e.0 ask
    newly_kept p step o are waits known =
        let v = view_of (followed p step o) e ask server known in
        newly_open place boot kept p step o before e later v.0 are v.1 waits

    pub kept_at_boot : new_asks place boot kept booted ≡ before ++ e ∷ later → IsKeptOpen booted e.0 ask
    kept_at_boot are known =
        let v = view_of booted e ask server known in
        ap (λ new. is_open (fold (opened_one place boot (knows place boot booted)) [] new) e.0) are
        ∙ open_new place boot (knows place boot booted) [] before e later v.0 v.1

  -- so its value is that of all replies
  pub value_then : (begins : Joiner) (first : List ValueTree) → AsksCount kept → (p : Past) → Rises p → (step : ℕ) → now p < step → (o : Occurrence) (k : Knowing) → KnowsViews boot (followed p step o) k
      → (name : AskName) (ask : AskRecord) → ask_named kept name ≡ Some ask → IsKeptOpen p name ask
      → option_and_then (value_of_ask k) (asking_of (asks_behind place boot (followed p step o) (open_asks place boot kept p)) name) ≡ collated_reply place boot begins name ask (followed p step o)
  value_then begins first counts p rises step later o k h name ask named is_kept = by_found (asking_of amid name) refl
    where
      amid : List (AskName × Asking)
      amid = asks_behind place boot (followed p step o) (open_asks place boot kept p)

      by_view : (found : Option View) → slice_get k.views ask.callee ≡ found → is_open amid name ≡ false → None ≡ collated_reply place boot begins name ask (followed p step o)
      by_view None is not_open = sym (none_unknown place boot begins (followed p step o) name ask k h is)
      by_view (Some view) is not_open =
          let known : is_some (slice_get boot ask.callee) ≡ true = sym (known_from_boot boot (followed p step o) ask.callee) ∙ ap (λ views. is_some (slice_get views ask.callee)) (sym h.views) ∙ ap is_some is in
          absurd (true≢false (sym (is_kept known) ∙ sym (open_amid place boot p step o (open_asks place boot kept p) name) ∙ not_open))

      by_found : (found : Option Asking) → asking_of amid name ≡ found → option_and_then (value_of_ask k) found ≡ collated_reply place boot begins name ask (followed p step o)
      by_found None is = by_view (slice_get k.views ask.callee) refl (ap is_some is)
      by_found (Some a) is = value_so place boot begins first kept counts (followed p step o) k h name ask a (amid_is place boot begins first kept counts p rises step later o name a ask is named)
