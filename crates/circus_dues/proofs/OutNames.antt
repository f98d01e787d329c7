-- Open asks have different names.
use Rattle.std.proofs.Common.{◌≡◌, ℕ, Bool, true, false, if◌then◌else◌, List, [], ◌∷◌, Option, None, Some, refl, sym, subst}
use Rattle.std.specs.Prelude.{fold, slice_get}
use Rattle.std.specs.List.{IsDistinct}
use Rattle.std.specs.Option.{option_map_or}
use Rattle.std.specs.Map.{set_value, keys_of}
use Rattle.std.proofs.lemmas.Map.{keys-set_value}
use Rattle.circus_collate.specs.declared.view.View.{View}
use Rattle.circus_record.specs.declared.record.MemberRecord.{MemberRecord}
use Rattle.circus_fanout.specs.Knowing.{Knowing}
use Rattle.circus_fanout.specs.Asking.{Asking, with_view, with_reply, with_before}
use Rattle.circus_member_rules.specs.declared.place.Place.{Place}
use Rattle.circus_member_rules.specs.declared.occurrence.AskName.{AskName}
use Rattle.circus_member_rules.specs.declared.occurrence.Occurrence.{Occurrence}
use Rattle.circus_member_rules.specs.declared.occurrence.Occurrence.TheVariants as comes
use Rattle.circus_member_rules.specs.OpenAsks.{is_name, asking_of, with_ask, with_asking}
use Rattle.circus_member_rules.specs.Rules.{after_stale, is_to, with_new_view, stays_open}
use Rattle.circus_member_rules.specs.Seen.Sound.{AreNamed}
use Rattle.circus_member_rules.proofs.Named.{named-opened, named-filtered}
use Rattle.circus_member_theory.specs.Past.{Past, booted, followed, is_newer, views_known}
use Rattle.circus_member_theory.specs.Asks.{knows, opened_one, asks_behind, new_asks, waits_then, open_asks}

-- ---- what comes leaves them

keys_changed : (name : AskName) (change : Asking → Asking) (asks : List (AskName × Asking)) → keys_of (with_asking name change asks) ≡ keys_of asks
keys_changed name change asks = by_found (asking_of asks name)
  where
    by_found : (o : Option Asking) → keys_of (option_map_or (λ (a : Asking). set_value (is_name name) asks (change a)) o asks) ≡ keys_of asks
    by_found None = refl
    by_found (Some a) = keys-set_value (is_name name) asks (change a)

keys_seen : (k : Knowing) (view : View) (asks : List (AskName × Asking)) → keys_of (with_new_view k view asks) ≡ keys_of asks
keys_seen k view [] = refl
keys_seen k view (e ∷ es) = λ j. one (is_to view.troupe e) j ∷ keys_seen k view es j
  where
    one : (b : Bool) → (if b then (e.0, with_view view k.down e.1) else e).0 ≡ e.0
    one true = refl
    one false = refl

module _ (place : Place) (boot : List View) where
  pub keys_behind : (p : Past) (step : ℕ) (o : Occurrence) (asks : List (AskName × Asking)) → keys_of (asks_behind place boot (followed p step o) asks) ≡ keys_of asks
  keys_behind p step (comes.Asked header body sender) asks = refl
  keys_behind p step (comes.Fetched incarnation sender) asks = refl
  keys_behind p step (comes.Replied name from reply) asks = keys_changed name (with_reply from reply) asks
  keys_behind p step (comes.IsStale name server from incarnation) asks = keys_changed name (after_stale (knows place boot (followed p step (comes.IsStale name server from incarnation))) from incarnation) asks
  keys_behind p step (comes.IsBefore name from) asks = keys_changed name (with_before from) asks
  keys_behind p step (comes.Told request table) asks = by_test (is_newer (views_known boot p) table.view)
    where
      by_test : (b : Bool) → keys_of (if b then with_new_view (knows place boot (followed p step (comes.Told request table))) table.view asks else asks) ≡ keys_of asks
      by_test true = keys_seen (knows place boot (followed p step (comes.Told request table))) table.view asks
      by_test false = refl
  keys_behind p step (comes.Restored state count) asks = refl
  keys_behind p step (comes.Declared node) asks = refl
  keys_behind p step comes.Joins asks = refl

  -- ---- so they stay different

  pub named_behind : (p : Past) (step : ℕ) (o : Occurrence) (asks : List (AskName × Asking)) → AreNamed asks → AreNamed (asks_behind place boot (followed p step o) asks)
  named_behind p step o asks named = subst (IsDistinct is_name) (sym (keys_behind p step o asks)) named

  pub named_opened : (k : Knowing) (asks new : List (AskName × Asking)) → AreNamed asks → AreNamed (fold (opened_one place boot k) asks new)
  named_opened k asks [] named = named
  named_opened k asks (e ∷ new) named = named_opened k (opened_one place boot k asks e) new (by_server (slice_get k.views e.1.header.server))
    where
      by_server : (o : Option View) → AreNamed (option_map_or (λ view. with_ask asks e.0 (with_view view k.down e.1)) o asks)
      by_server None = named
      by_server (Some view) = named-opened asks e.0 (with_view view k.down e.1) named

  module _ (kept : MemberRecord) where
    none_named : AreNamed []
    unfolding IsDistinct
    none_named = tt

    pub open_named : (p : Past) → AreNamed (open_asks place boot kept p)
    open_named booted = named_opened (knows place boot booted) [] (new_asks place boot kept booted) none_named
    open_named (followed p step o) =
        let q = followed p step o in
        let amid = asks_behind place boot q (open_asks place boot kept p) in
        named-filtered (stays_open (knows place boot q) (waits_then place boot kept q)) (fold (opened_one place boot (knows place boot q)) amid (new_asks place boot kept q))
        (named_opened (knows place boot q) amid (new_asks place boot kept q) (named_behind p step o (open_asks place boot kept p) (open_named p)))
