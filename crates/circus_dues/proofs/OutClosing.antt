-- Which asks stay open: to close those that a step concerns is to close them all.
use Rattle.std.proofs.Common.{◌≡◌, ℕ, Bool, true, false, ◌||◌, not, true≢false, List, [], ◌∷◌, All, Option, None, Some, refl, sym, ap, subst, ◌∙◌}
use Rattle.std.specs.Prelude.{fold, slice_get}
use Rattle.std.specs.Option.{option_map_or}
use Rattle.std.proofs.lemmas.List.Elements.{All-head, All-tail, All-weaker, filter_agree}
use Rattle.circus_collate.specs.declared.view.View.{View}
use Rattle.circus_record.specs.declared.record.MemberRecord.{MemberRecord}
use Rattle.circus_fanout.specs.Knowing.{Knowing}
use Rattle.circus_fanout.specs.Asking.{Asking, with_view, with_reply, with_before}
use Rattle.circus_member_rules.specs.declared.place.Place.{Place}
use Rattle.circus_member_rules.specs.declared.occurrence.AskName.{AskName}
use Rattle.circus_member_rules.specs.declared.occurrence.Occurrence.{Occurrence}
use Rattle.circus_member_rules.specs.declared.occurrence.Occurrence.TheVariants as comes
use Rattle.circus_member_rules.specs.OpenAsks.{is_name, is_waiting, with_ask, with_asking}
use Rattle.circus_member_rules.specs.Rules.{after_stale, is_settled, stays_open, close_asks}
use Rattle.circus_member_rules.specs.Seen.Closing.{concern_of, close_by}
use Rattle.circus_member_rules.proofs.Named.{names_decide, All-opened_at, All-changed_at}
use Rattle.circus_member_rules.proofs.Concerned.{all_of, is_concerned, close_by_same}
use Rattle.circus_member_theory.specs.Past.{Past, followed}
use Rattle.circus_member_theory.specs.Asks.{knows, opened_one, asks_behind, new_asks, waits_then, open_asks}
use Rattle.circus_dues.specs.Out.{KnowsViews}
use Rattle.circus_dues.proofs.OutCalls.{closed_are, all_opened}
use Rattle.circus_dues.proofs.OutNames.{named_behind, named_opened, open_named}

-- ---- tests

second_of : (a b : Bool) → (a || b) ≡ false → b ≡ false
second_of true b is = absurd (true≢false is)
second_of false b is = is

-- what waits, or isn't settled, stays
stays : (w s : Bool) → s ≡ false → (w || not s) ≡ true
stays true s is = refl
stays false s is = ap not is

-- ---- asks that waited aside, each was unsettled

-- an ask that doesn't wait isn't settled
abbrev pub IsUnsettled : Knowing → Option AskName → AskName × Asking → Type 0
IsUnsettled k waited e = is_waiting waited e.0 ≡ false → is_settled k e.1 ≡ false

module _ (place : Place) (boot : List View) (kept : MemberRecord) where
  module _ (p : Past) (step : ℕ) (o : Occurrence) (k : Knowing) (h : KnowsViews boot (followed p step o) k) (waiting : Option AskName)
      (waits : (name : AskName) → is_waiting waiting name ≡ waits_then place boot kept (followed p step o) name) where
    abbrev q : Past
    q = followed p step o

    abbrev all_asks : List (AskName × Asking)
    all_asks = fold (opened_one place boot k) (asks_behind place boot q (open_asks place boot kept p)) (new_asks place boot kept q)

    -- to close each but the one that waits
    pub all_closed : open_asks place boot kept q ≡ close_asks k (is_waiting waiting) all_asks
    all_closed =
        closed_are place boot q k h (waits_then place boot kept q) (fold (opened_one place boot (knows place boot q)) (asks_behind place boot q (open_asks place boot kept p)) (new_asks place boot kept q))
        ∙ ap (close_asks k (waits_then place boot kept q)) (all_opened place boot q k h (asks_behind place boot q (open_asks place boot kept p)) (new_asks place boot kept q))
        ∙ filter_agree (stays_open k (waits_then place boot kept q)) (stays_open k (is_waiting waiting)) (λ e. ap (λ b. b || not (is_settled k e.1)) (sym (waits e.0))) all_asks

    -- what is settled is so by the views and the nodes that are down alone
    settled_same : (a : Asking) → is_settled k a ≡ is_settled (knows place boot q) a
    settled_same a = λ j. let now : Knowing = record { views = h.views j; down = h.down j; wants = k.wants } in is_settled now a

    module _ (waited : Option AskName) (fresh : All (λ (e : AskName × Asking). is_waiting waiting e.0 ≡ true) (new_asks place boot kept q)) where
      -- it stays open, unless the step concerns it
      abbrev Stays : AskName × Asking → Type 0
      Stays e = is_concerned (concern_of o) waited e.0 ≡ false → stays_open k (is_waiting waiting) e ≡ true

      waits_still : (name : AskName) (a : Asking) → is_waiting waiting name ≡ true → Stays (name, a)
      waits_still name a is not_concerned = ap (λ b. b || not (is_settled k a)) is

      opened_stay : (asks new : List (AskName × Asking)) → All Stays asks → All (λ (e : AskName × Asking). is_waiting waiting e.0 ≡ true) new → All Stays (fold (opened_one place boot k) asks new)
      opened_stay asks [] all waiting_all = all
      opened_stay asks (e ∷ new) all waiting_all =
          opened_stay (opened_one place boot k asks e) new (by_server (slice_get k.views e.1.header.server)) (All-tail (λ (x : AskName × Asking). is_waiting waiting x.0 ≡ true) e new waiting_all)
        where
          by_server : (found : Option View) → All Stays (option_map_or (λ view. with_ask asks e.0 (with_view view k.down e.1)) found asks)
          by_server None = all
          by_server (Some view) =
              let a = with_view view k.down e.1 in
              All-opened_at Stays asks e.0 a
              (λ n same. waits_still n a (subst (λ m. is_waiting waiting m ≡ true) ((names_decide e.0 n).0 same) (All-head (λ (x : AskName × Asking). is_waiting waiting x.0 ≡ true) e new waiting_all)))
              all

      -- with the asks that were unsettled, where what is known is the same but for what is wanted
      module _ (same : (a : Asking) → is_settled k a ≡ is_settled (knows place boot p) a) (asks : List (AskName × Asking)) (before : All (IsUnsettled (knows place boot p) waited) asks) where
        stays_so : (e : AskName × Asking) → IsUnsettled (knows place boot p) waited e → is_waiting waited e.0 ≡ false → stays_open k (is_waiting waiting) e ≡ true
        stays_so e unsettled not_waiting = stays (is_waiting waiting e.0) (is_settled k e.1) (same e.1 ∙ unsettled not_waiting)

        -- nothing comes to any
        none_changed : ((name : AskName) → is_concerned (concern_of o) waited name ≡ is_waiting waited name) → All Stays asks
        none_changed only_waited = All-weaker (IsUnsettled (knows place boot p) waited) Stays (λ e unsettled not_concerned. stays_so e unsettled (sym (only_waited e.0) ∙ not_concerned)) asks before

        -- one is changed
        one_changed : (name : AskName) (change : Asking → Asking) → ((n : AskName) → is_concerned (concern_of o) waited n ≡ (is_name name n || is_waiting waited n)) → All Stays (with_asking name change asks)
        one_changed name change only_this =
            All-changed_at Stays name change asks
            (λ a is n here not_concerned. absurd (true≢false (sym (ap (λ b. b || is_waiting waited n) here) ∙ sym (only_this n) ∙ not_concerned)))
            (All-weaker (IsUnsettled (knows place boot p) waited) Stays (λ e unsettled not_concerned. stays_so e unsettled (second_of (is_name name e.0) (is_waiting waited e.0) (sym (only_this e.0) ∙ not_concerned))) asks before)

  -- what a step concerns is all that it closes, where new asks wait for their answers
  module _ (p : Past) (step : ℕ) (k : Knowing) (waited waiting : Option AskName) (before : All (IsUnsettled (knows place boot p) waited) (open_asks place boot kept p)) where
    abbrev Fresh : Occurrence → Type 0
    Fresh o = All (λ (e : AskName × Asking). is_waiting waiting e.0 ≡ true) (new_asks place boot kept (followed p step o))

    abbrev WaitsThen : Occurrence → Type 0
    WaitsThen o = (name : AskName) → is_waiting waiting name ≡ waits_then place boot kept (followed p step o) name

    amid_stay : (o : Occurrence) (h : KnowsViews boot (followed p step o) k) (waits : WaitsThen o) (fresh : Fresh o) → All (Stays p step o k h waiting waits waited fresh) (asks_behind place boot (followed p step o) (open_asks place boot kept p))
    amid_stay (comes.Asked header body sender) h waits fresh =
        let o = comes.Asked header body sender in
        none_changed p step o k h waiting waits waited fresh (settled_same p step o k h waiting waits) (open_asks place boot kept p) before (λ name. refl)
    amid_stay (comes.Fetched incarnation sender) h waits fresh =
        let o = comes.Fetched incarnation sender in
        none_changed p step o k h waiting waits waited fresh (settled_same p step o k h waiting waits) (open_asks place boot kept p) before (λ name. refl)
    amid_stay (comes.Replied name from reply) h waits fresh =
        let o = comes.Replied name from reply in
        one_changed p step o k h waiting waits waited fresh (settled_same p step o k h waiting waits) (open_asks place boot kept p) before name (with_reply from reply) (λ n. refl)
    amid_stay (comes.IsStale name server from incarnation) h waits fresh =
        let o = comes.IsStale name server from incarnation in
        one_changed p step o k h waiting waits waited fresh (settled_same p step o k h waiting waits) (open_asks place boot kept p) before name (after_stale (knows place boot (followed p step o)) from incarnation) (λ n. refl)
    amid_stay (comes.IsBefore name from) h waits fresh =
        let o = comes.IsBefore name from in
        one_changed p step o k h waiting waits waited fresh (settled_same p step o k h waiting waits) (open_asks place boot kept p) before name (with_before from) (λ n. refl)
    amid_stay (comes.Told request table) h waits fresh =
        let o = comes.Told request table in
        all_of (Stays p step o k h waiting waits waited fresh) (asks_behind place boot (followed p step o) (open_asks place boot kept p)) (λ e not_concerned. absurd (true≢false not_concerned))
    amid_stay (comes.Restored state count) h waits fresh =
        let o = comes.Restored state count in
        none_changed p step o k h waiting waits waited fresh (settled_same p step o k h waiting waits) (open_asks place boot kept p) before (λ name. refl)
    amid_stay (comes.Declared node) h waits fresh =
        let o = comes.Declared node in
        all_of (Stays p step o k h waiting waits waited fresh) (asks_behind place boot (followed p step o) (open_asks place boot kept p)) (λ e not_concerned. absurd (true≢false not_concerned))
    amid_stay comes.Joins h waits fresh =
        none_changed p step comes.Joins k h waiting waits waited fresh (settled_same p step comes.Joins k h waiting waits) (open_asks place boot kept p) before (λ name. refl)

    pub concerned_closed : (o : Occurrence) → KnowsViews boot (followed p step o) k → WaitsThen o → Fresh o
        → open_asks place boot kept (followed p step o)
        ≡ close_by k (is_waiting waiting) (concern_of o) waited (fold (opened_one place boot k) (asks_behind place boot (followed p step o) (open_asks place boot kept p)) (new_asks place boot kept (followed p step o)))
    concerned_closed o h waits fresh =
        let amid = asks_behind place boot (followed p step o) (open_asks place boot kept p) in
        all_closed p step o k h waiting waits
        ∙ sym (close_by_same k (is_waiting waiting) (concern_of o) waited (all_asks p step o k h waiting waits)
        (named_opened place boot k amid (new_asks place boot kept (followed p step o)) (named_behind place boot p step o (open_asks place boot kept p) (open_named place boot kept p)))
        (opened_stay p step o k h waiting waits waited fresh amid (new_asks place boot kept (followed p step o)) (amid_stay o h waits fresh) fresh))
