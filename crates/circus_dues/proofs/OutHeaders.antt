-- Open asks keep their headers, so a call may be made of each that began with a proper one.
use Rattle.std.proofs.Common.{◌≡◌, ℕ, Bool, true, false, if◌then◌else◌, List, [], ◌∷◌, All, Option, None, Some, refl, sym, subst}
use Rattle.std.specs.Prelude.{fold, slice_get}
use Rattle.std.specs.Option.{option_map_or}
use Rattle.std.proofs.lemmas.List.Elements.{All-nil, All-head, All-tail, All-filter, All-map, All-weaker}
use Rattle.circus_header.specs.declared.call.CallHeader.{CallHeader}
use Rattle.circus_collate.specs.declared.view.View.{View}
use Rattle.circus_record.specs.declared.record.MemberRecord.{MemberRecord}
use Rattle.circus_fanout.specs.Knowing.{Knowing}
use Rattle.circus_fanout.specs.Asking.{Asking, with_view, with_reply, with_before, with_stale}
use Rattle.circus_member_rules.specs.declared.place.Place.{Place}
use Rattle.circus_member_rules.specs.declared.occurrence.AskName.{AskName}
use Rattle.circus_member_rules.specs.declared.occurrence.Occurrence.{Occurrence}
use Rattle.circus_member_rules.specs.declared.occurrence.Occurrence.TheVariants as comes
use Rattle.circus_member_rules.specs.Callable.{IsAsked}
use Rattle.circus_member_rules.specs.OpenAsks.{with_ask, with_asking}
use Rattle.circus_member_rules.specs.Rules.{after_stale, is_to, seen_by_ask, with_new_view, stays_open}
use Rattle.circus_member_rules.proofs.Named.{All-changed, All-opened}
use Rattle.circus_member_theory.specs.Past.{Past, booted, followed, is_newer, views_known}
use Rattle.circus_member_theory.specs.Asks.{knows, opened_one, asks_behind, new_asks, waits_then, open_asks}

stale_header : (k : Knowing) (from incarnation : ℕ) (a : Asking) → (after_stale k from incarnation a).header ≡ a.header
stale_header k from incarnation a = by_server (slice_get k.views a.header.server)
  where
    by_server : (o : Option View) → let x = option_map_or (λ (view : View). with_stale view k.down from incarnation a) o a in x.header ≡ a.header
    by_server None = refl
    by_server (Some view) = refl

module _ (P : CallHeader → Type 0) where
  -- what is asked by one is proper
  abbrev pub Has : AskName × Asking → Type 0
  Has e = P e.1.header

  changed : (name : AskName) (change : Asking → Asking) → ((a : Asking) → (change a).header ≡ a.header) → (asks : List (AskName × Asking)) → All Has asks → All Has (with_asking name change asks)
  changed name change same asks all = All-changed (λ (a : Asking). P a.header) name change asks (λ a is h. subst P (sym (same a)) h) all

  seen : (k : Knowing) (view : View) (asks : List (AskName × Asking)) → All Has asks → All Has (with_new_view k view asks)
  seen k view asks all = All-map Has (seen_by_ask k view) asks (All-weaker Has (λ e. Has (seen_by_ask k view e)) (λ e h. by_test (is_to view.troupe e) e h) asks all)
    where
      by_test : (b : Bool) (e : AskName × Asking) → Has e → Has (if b then (e.0, with_view view k.down e.1) else e)
      by_test true e h = h
      by_test false e h = h

  module _ (place : Place) (boot : List View) where
    pub headers_behind : (p : Past) (step : ℕ) (o : Occurrence) (asks : List (AskName × Asking)) → All Has asks → All Has (asks_behind place boot (followed p step o) asks)
    headers_behind p step (comes.Asked header body sender) asks all = all
    headers_behind p step (comes.Fetched incarnation sender) asks all = all
    headers_behind p step (comes.Replied name from reply) asks all = changed name (with_reply from reply) (λ a. refl) asks all
    headers_behind p step (comes.IsStale name server from incarnation) asks all =
        let k = knows place boot (followed p step (comes.IsStale name server from incarnation)) in
        changed name (after_stale k from incarnation) (stale_header k from incarnation) asks all
    headers_behind p step (comes.IsBefore name from) asks all = changed name (with_before from) (λ a. refl) asks all
    headers_behind p step (comes.Told request table) asks all = by_test (is_newer (views_known boot p) table.view)
      where
        by_test : (b : Bool) → All Has (if b then with_new_view (knows place boot (followed p step (comes.Told request table))) table.view asks else asks)
        by_test true = seen (knows place boot (followed p step (comes.Told request table))) table.view asks all
        by_test false = all
    headers_behind p step (comes.Restored state count) asks all = all
    headers_behind p step (comes.Declared node) asks all = all
    headers_behind p step comes.Joins asks all = all

    pub headers_opened : (k : Knowing) (asks new : List (AskName × Asking)) → All Has asks → All Has new → All Has (fold (opened_one place boot k) asks new)
    headers_opened k asks [] all fresh = all
    headers_opened k asks (e ∷ new) all fresh = headers_opened k (opened_one place boot k asks e) new (by_server (slice_get k.views e.1.header.server)) (All-tail Has e new fresh)
      where
        by_server : (o : Option View) → All Has (option_map_or (λ view. with_ask asks e.0 (with_view view k.down e.1)) o asks)
        by_server None = all
        by_server (Some view) = All-opened (λ (a : Asking). P a.header) asks e.0 (with_view view k.down e.1) (All-head Has e new fresh) all

    -- so it is at the end of a past, where all that were asked by then were
    pub headers_then : (kept : MemberRecord) → ((q : Past) → All Has (new_asks place boot kept q)) → (p : Past) → All Has (open_asks place boot kept p)
    headers_then kept fresh booted = headers_opened (knows place boot booted) [] (new_asks place boot kept booted) (All-nil Has) (fresh booted)
    headers_then kept fresh (followed p step o) =
        let q = followed p step o in
        let amid = asks_behind place boot q (open_asks place boot kept p) in
        All-filter (stays_open (knows place boot q) (waits_then place boot kept q)) Has (fold (opened_one place boot (knows place boot q)) amid (new_asks place boot kept q))
        (headers_opened (knows place boot q) amid (new_asks place boot kept q) (headers_behind p step o (open_asks place boot kept p) (headers_then kept fresh p)) (fresh q))

-- ---- calls

-- a call may be made by this header, of a member of this troupe
pub record IsSendable (troupe : ℕ) (h : CallHeader) : Type 0 where
  pub asked : IsAsked h
  pub client : h.client ≡ troupe
