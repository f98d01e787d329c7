-- What is told of a reply by the open asks of a record is what a watchdog tells of it.
use Rattle.std.proofs.Common.{◌≡◌, ℕ, ◌+◌, ◌-◌, ◌<◌, ◌≤◌, Bool, true, false, ◌&&◌, not, cond, if◌then◌else◌, List, [], ◌∷◌, ◌++◌, length, All, Option, Some, None, refl, sym, ap, subst, ◌∙◌, arith, append-nil, append_assoc, length-append}
use Rattle.std.specs.Prelude.{nat_lt, slice_get, fold, is_some, unwrap_or, option_map, option_and_then}
use Rattle.std.specs.List.{AllByRecursion, IsDistinct}
use Rattle.std.specs.Option.{option_map_or, option_to_list}
use Rattle.std.specs.Map.{lookup, set_value, keys_of}
use Rattle.std.proofs.lemmas.Bool.{eqb-true, lt-ltb, le-ltb}
use Rattle.std.proofs.lemmas.List.Elements.{All-nil, All-cons, All-head, All-tail, All-append, All-filter, All-map, All-weaker}
use Rattle.std.proofs.lemmas.Map.Keys.{IsDistinct-head, IsDistinct-tail}
use Rattle.circus_header.specs.declared.answer.Reply.{Reply}
use Rattle.circus_header.specs.ReplyEquality.{reply_eq}
use Rattle.circus_collate.specs.declared.giving.Said.{Said}
use Rattle.circus_collate.specs.declared.kind.Kind.{Kind}
use Rattle.circus_collate.specs.declared.kind.Kind.TheVariants.{First, Majority, Unanimous, AtLeast, Watchdog}
use Rattle.circus_collate.specs.declared.view.View.{View}
use Rattle.circus_model.specs.Execution.{is_spent}
use Rattle.circus_model.proofs.Lookups.{at_end}
use Rattle.circus_record.specs.declared.record.AskRecord.{AskRecord}
use Rattle.circus_record.specs.declared.record.MemberRecord.{MemberRecord}
use Rattle.circus_record.specs.declared.record.RunRecord.{RunRecord}
use Rattle.circus_fanout.specs.Knowing.{Knowing}
use Rattle.circus_fanout.specs.Asking.{Asking, is_watchdog, differs, with_reply, with_before, with_stale, with_view}
use Rattle.circus_fanout.specs.declared.send.Watched.TheVariants.{Quiet, Differs}
use Rattle.circus_member_rules.specs.declared.place.Place.{Place}
use Rattle.circus_member_rules.specs.declared.occurrence.AskName.{AskName}
use Rattle.circus_member_rules.specs.declared.occurrence.Difference.{Difference}
use Rattle.circus_member_rules.specs.declared.occurrence.Occurrence.{Occurrence}
use Rattle.circus_member_rules.specs.declared.occurrence.Occurrence.TheVariants as comes
use Rattle.circus_member_rules.specs.OpenAsks.{is_name, asking_of, with_ask, with_asking}
use Rattle.circus_member_rules.specs.Rules.{difference_of, difference_told, difference_by, after_stale, is_to, seen_by_ask, with_new_view, stays_open}
use Rattle.circus_member_rules.specs.Seen.Sound.{AreNamed}
use Rattle.circus_member_rules.proofs.Named.{names_decide, All-opened_at, named-opened, named-changed, named-filtered}
use Rattle.circus_member_theory.specs.Past.{Past, booted, followed, now, Rises, is_newer, views_known, replies_to}
use Rattle.circus_member_theory.proofs.Timely.Replies.{said_none, names_turned}
use Rattle.circus_member_theory.specs.Returns.{run_of}
use Rattle.circus_member_theory.specs.Asks.{is_new, as_made, asks_from, asks_of, knows, opened_one, asks_behind, new_asks, waits_then, open_asks}
use Rattle.circus_member_theory.specs.Differences.{watches, ask_named, difference_from, first_reply, differences_now}

-- ---- the only entry of a name is changed

module _ (P Q : AskName × Asking → Type 0) (name : AskName) (change : Asking → Asking)
    (here : (n : AskName) (a : Asking) → name ≡ n → P (n, a) → Q (n, change a)) (there : (n : AskName) (a : Asking) → is_name name n ≡ false → P (n, a) → Q (n, a)) where
  none_changed : (es : List (AskName × Asking)) → AllByRecursion (λ n. is_name name n ≡ false) (keys_of es) → All P es → All Q es
  none_changed [] other all = All-nil Q
  none_changed (e ∷ es) other all = All-cons Q e es (there e.0 e.1 other.0 (All-head P e es all)) (none_changed es other.1 (All-tail P e es all))

  one_changed : (es : List (AskName × Asking)) → AreNamed es → All P es → All Q (with_asking name change es)
  one_changed [] named all = All-nil Q
  one_changed (e ∷ es) named all = by_test (one_changed es (IsDistinct-tail is_name e.0 (keys_of es) named) (All-tail P e es all)) (is_name name e.0) refl
    where
      first : P e
      first = All-head P e es all

      others : All P es
      others = All-tail P e es all

      by_found : (o : Option Asking) → is_name name e.0 ≡ false → All Q (option_map_or (λ a. set_value (is_name name) es (change a)) o es)
          → All Q (option_map_or (λ a. e ∷ set_value (is_name name) es (change a)) o (e ∷ es))
      by_found None other rest = All-cons Q e es (there e.0 e.1 other first) rest
      by_found (Some a) other rest = All-cons Q e (set_value (is_name name) es (change a)) (there e.0 e.1 other first) rest

      by_test : All Q (with_asking name change es) → (b : Bool) → is_name name e.0 ≡ b
          → All Q (option_map_or (λ a. cond b ((e.0, change a) ∷ es) (e ∷ set_value (is_name name) es (change a))) (cond b (Some e.1) (lookup (is_name name) es)) (e ∷ es))
      by_test rest true is =
          let same : name ≡ e.0 = (names_decide name e.0).0 is in
          All-cons Q (e.0, change e.1) es (here e.0 e.1 same first)
          (none_changed es (subst (λ n. AllByRecursion (λ y. is_name n y ≡ false) (keys_of es)) (sym same) (IsDistinct-head is_name e.0 (keys_of es) named)) others)
      by_test rest false is = by_found (lookup (is_name name) es) is rest

-- what holds of each entry holds of one that is found
pub found_at : (P : AskName × Asking → Type 0) (name : AskName) (es : List (AskName × Asking)) (a : Asking) → asking_of es name ≡ Some a → All P es → P (name, a)
found_at P name [] a is all = absurd (let clash : ◌≡◌ {A = Option Asking} None (Some a) = is in cc)
found_at P name (e ∷ es) a is all = by_test (λ found. found_at P name es a found (All-tail P e es all)) (is_name name e.0) refl is
  where
    by_test : (asking_of es name ≡ Some a → P (name, a)) → (b : Bool) → is_name name e.0 ≡ b → cond b (Some e.1) (lookup (is_name name) es) ≡ Some a → P (name, a)
    by_test rest true here found =
        let same : name ≡ e.0 = (names_decide name e.0).0 here in
        let value : e.1 ≡ a = cc in
        subst (λ n. P (n, a)) (sym same) (subst (λ x. P (e.0, x)) value (All-head P e es all))
    by_test rest false here found = rest found

there_at : {X : Type 0} (xs : List X) (x : X) (ys : List X) → slice_get (xs ++ x ∷ ys) (length xs) ≡ Some x
there_at [] x ys = refl
there_at (y ∷ xs) x ys = there_at xs x ys

-- ---- what is told

-- of a reply by the asks that are open
abbrev pub told_of : List (AskName × Asking) → Occurrence → Option Difference
told_of asks (comes.Replied name from reply) = option_and_then (difference_by name from reply) (asking_of asks name)
told_of asks _ = None

same_watch : (kind : Kind) → watches kind ≡ is_watchdog kind
same_watch First = refl
same_watch Majority = refl
same_watch Unanimous = refl
same_watch (AtLeast number) = refl
same_watch Watchdog = refl

-- of one of these, to which this was said
told_by_said : (name : AskName) (from : ℕ) (reply : Reply) (watch : Bool) (xs : List (Said Reply))
    → (if watch && true then option_map_or (difference_from name from reply) (slice_get xs 0) [] else [])
    ≡ option_to_list (difference_told name (xs ++ record { node = from; value = reply } ∷ []) (if watch && differs xs reply then Differs 0 (length xs) else Quiet))
told_by_said name from reply true [] = refl
told_by_said name from reply false [] = refl
told_by_said name from reply false (x ∷ xs) = refl
told_by_said name from reply true (x ∷ xs) = by_test (reply_eq x.value reply)
  where
    second : Said Reply
    second = record { node = from; value = reply }

    by_test : (same : Bool) → (if same then [] else record { run = name.run; ask = name.ask; first = x.node; first_reply = x.value; second = from; second_reply = reply } ∷ [])
        ≡ option_to_list (difference_told name (x ∷ (xs ++ second ∷ [])) (if not same then Differs 0 (length (x ∷ xs)) else Quiet))
    by_test true = refl
    by_test false = ap (λ (o : Option (Said Reply)). option_to_list (option_map (difference_of name x) o)) (sym (at_end (x ∷ xs) second))

-- ---- the asks of a record, as they are made

module _ (place : Place) (kept : MemberRecord) (test : AskRecord → Bool) where
  -- an ask of the record that passes, and to which nothing was said
  record IsMade (e : AskName × Asking) : Type 0 where
    pub ask : AskRecord
    pub named : ask_named kept e.0 ≡ Some ask
    pub passes : test ask ≡ true
    pub kind : e.1.kind ≡ place.replies
    pub said_none : e.1.said ≡ []

  made_from : (index : ℕ) (run : RunRecord) → run_of kept index ≡ Some run → (root : ℕ) (path : List ℕ) (n : ℕ) (clock : List ℕ) (before asks : List AskRecord) → run.asks ≡ before ++ asks → n ≡ length before
      → All IsMade (asks_from place test index root path n clock asks)
  made_from index run at root path n clock before [] are long = All-nil IsMade
  made_from index run at root path n clock before (ask ∷ asks) are long =
      All-append IsMade (if test ask && not (is_spent clock) then as_made place index root path n clock ask ∷ [] else []) (asks_from place test index root path (n + 1) (unwrap_or ask.after clock) asks)
      (by_tests (test ask) (is_spent clock) refl)
      (made_from index run at root path (n + 1) (unwrap_or ask.after clock) (before ++ ask ∷ []) asks (are ∙ sym (append_assoc before (ask ∷ []) asks)) (omega (arith, long, length-append before (ask ∷ []))))
    where
      one : test ask ≡ true → IsMade (as_made place index root path n clock ask)
      one passes =
          record {
            ask = ask;
            named = ap (option_and_then (λ (r : RunRecord). slice_get r.asks n)) at ∙ ap (λ l. slice_get l n) are ∙ ap (slice_get (before ++ ask ∷ asks)) long ∙ there_at before ask asks;
            passes = passes;
            kind = refl;
            said_none = refl;
          }

      by_tests : (passes spent : Bool) → test ask ≡ passes → All IsMade (if passes && not spent then as_made place index root path n clock ask ∷ [] else [])
      by_tests true false is = All-cons IsMade (as_made place index root path n clock ask) [] (one is) (All-nil IsMade)
      by_tests true true is = All-nil IsMade
      by_tests false spent is = All-nil IsMade

  made_of : (index : ℕ) (before runs : List RunRecord) → kept.runs ≡ before ++ runs → index ≡ kept.from + length before → All IsMade (asks_of place test index runs)
  made_of index before [] are long = All-nil IsMade
  made_of index before (run ∷ runs) are long =
      All-append IsMade (asks_from place test index run.root run.path 0 run.entry run.asks) (asks_of place test (index + 1) runs)
      (made_from index run at run.root run.path 0 run.entry [] run.asks refl refl)
      (made_of (index + 1) (before ++ run ∷ []) runs (are ∙ sym (append_assoc before (run ∷ []) runs)) (omega (arith, long, length-append before (run ∷ []))))
    where
      at : run_of kept index ≡ Some run
      at =
          let number : index - kept.from ≡ length before = omega (arith, long) in
          ap (λ b. if b then None else slice_get kept.runs (index - kept.from)) (le-ltb index kept.from (omega (arith, long)))
          ∙ (λ j. slice_get (are j) (number j)) ∙ there_at before run runs

  made_all : All IsMade (asks_of place test kept.from kept.runs)
  made_all = made_of kept.from [] kept.runs refl (omega arith)

-- ---- open asks

module _ (place : Place) (boot : List View) (kept : MemberRecord) where
  -- an open ask is one of the record, made by a step, and this was said to it
  pub record IsSo (last : ℕ) (p : Past) (e : AskName × Asking) : Type 0 where
    pub ask : AskRecord
    pub named : ask_named kept e.0 ≡ Some ask
    pub by_then : ask.asked ≤ last
    pub kind : e.1.kind ≡ place.replies
    pub said_so : e.1.said ≡ replies_to ask.asked e.0 p

  pub record AreSo (p : Past) : Type 0 where
    pub names : AreNamed (open_asks place boot kept p)
    pub each : All (IsSo (now p) p) (open_asks place boot kept p)

  -- ---- asks are opened

  module _ (P : AskName × Asking → Type 0) (k : Knowing) where
    pub opened_all : (asks new : List (AskName × Asking)) → ((e : AskName × Asking) (view : View) → P e → P (e.0, with_view view k.down e.1)) → All P asks → All P new → AreNamed asks
        → All P (fold (opened_one place boot k) asks new) × AreNamed (fold (opened_one place boot k) asks new)
    opened_all asks [] keeps all fresh named = (all, named)
    opened_all asks (e ∷ new) keeps all fresh named =
        let one = by_server (slice_get k.views e.1.header.server) in
        opened_all (opened_one place boot k asks e) new keeps one.0 (All-tail P e new fresh) one.1
      where
        by_server : (o : Option View) → let l = option_map_or (λ view. with_ask asks e.0 (with_view view k.down e.1)) o asks in All P l × AreNamed l
        by_server None = (all, named)
        by_server (Some view) =
            let a = with_view view k.down e.1 in (
              All-opened_at P asks e.0 a (λ n same. subst (λ m. P (m, a)) ((names_decide e.0 n).0 same) (keeps e view (All-head P e new fresh))) all,
              named-opened asks e.0 a named,
            )

  pub new_so : (q : Past) → Rises q → All (IsSo (now q) q) (new_asks place boot kept q)
  new_so q rises =
      All-weaker (IsMade place kept (is_new q)) (IsSo (now q) q)
      (λ e m.
      let asked : m.ask.asked ≡ now q = eqb-true m.ask.asked (now q) m.passes in
      record {
        ask = m.ask;
        named = m.named;
        by_then = omega (arith, asked);
        kind = m.kind;
        said_so = m.said_none ∙ sym (said_none m.ask.asked e.0 q rises (omega (arith, asked)));
      })
      (asks_of place (is_new q) kept.from kept.runs) (made_all place kept (is_new q))

  -- ---- what comes

  -- an ask to which nothing is said now
  unsaid : (p q : Past) (last : ℕ) (e : AskName × Asking) (a : Asking) → a.kind ≡ e.1.kind → a.said ≡ e.1.said → ((asked : ℕ) → replies_to asked e.0 q ≡ replies_to asked e.0 p) → IsSo last p e → IsSo last q (e.0, a)
  unsaid p q last e a kind same none h =
      record {
        ask = h.ask;
        named = h.named;
        by_then = h.by_then;
        kind = kind ∙ h.kind;
        said_so = same ∙ h.said_so ∙ sym (none h.ask.asked);
      }

  module _ (p : Past) (step : ℕ) (later : now p < step) where
    -- in a step behind that of the past
    abbrev pub After : Occurrence → AskName × Asking → Type 0
    After o e = IsSo step (followed p step o) e

    is_later : (q : Past) → ((asked : ℕ) (name : AskName) → replies_to asked name q ≡ replies_to asked name p) → (e : AskName × Asking) → IsSo (now p) p e → IsSo step q e
    is_later q none e h =
        let by = h.by_then in
        record { ask = h.ask; named = h.named; by_then = omega (arith, by, later); kind = h.kind; said_so = h.said_so ∙ sym (none h.ask.asked e.0) }

    all_later : (q : Past) → ((asked : ℕ) (name : AskName) → replies_to asked name q ≡ replies_to asked name p) → (asks : List (AskName × Asking)) → All (IsSo (now p) p) asks → All (IsSo step q) asks
    all_later q none asks all = All-weaker (IsSo (now p) p) (IsSo step q) (is_later q none) asks all

    -- a reply comes
    replied : (name : AskName) (from : ℕ) (reply : Reply) (asks : List (AskName × Asking)) → AreNamed asks → All (IsSo (now p) p) asks
        → All (After (comes.Replied name from reply)) (with_asking name (with_reply from reply) asks)
    replied name from reply asks named all = one_changed (IsSo (now p) p) (After (comes.Replied name from reply)) name (with_reply from reply) here there asks named all
      where
        here : (n : AskName) (a : Asking) → name ≡ n → IsSo (now p) p (n, a) → After (comes.Replied name from reply) (n, with_reply from reply a)
        here n a same h =
            let by = h.by_then in
            let late : nat_lt h.ask.asked step ≡ true = lt-ltb h.ask.asked step (omega (arith, by, later)) in
            let named_so : is_name n name ≡ true = (names_decide n name).1 (sym same) in
            record {
              ask = h.ask;
              named = h.named;
              by_then = omega (arith, by, later);
              kind = h.kind;
              said_so = λ j. h.said_so j ++ (if sym late j && sym named_so j then record { node = from; value = reply } ∷ [] else []);
            }

        there : (n : AskName) (a : Asking) → is_name name n ≡ false → IsSo (now p) p (n, a) → After (comes.Replied name from reply) (n, a)
        there n a other h =
            let by = h.by_then in
            let not_named : is_name n name ≡ false = names_turned n name ∙ other in
            record {
              ask = h.ask;
              named = h.named;
              by_then = omega (arith, by, later);
              kind = h.kind;
              said_so = h.said_so ∙ sym (append-nil (replies_to h.ask.asked n p)) ∙ (λ j. replies_to h.ask.asked n p ++ (if none_then (nat_lt h.ask.asked step) (is_name n name) not_named j then record { node = from; value = reply } ∷ [] else []));
            }
          where
            none_then : (a b : Bool) → b ≡ false → false ≡ (a && b)
            none_then true b is = sym is
            none_then false b is = refl

    -- an ask is changed to which nothing is said
    changed : (q : Past) → ((asked : ℕ) (name : AskName) → replies_to asked name q ≡ replies_to asked name p) → (name : AskName) (change : Asking → Asking)
        → ((a : Asking) → ((change a).kind ≡ a.kind) × ((change a).said ≡ a.said)) → (asks : List (AskName × Asking)) → AreNamed asks → All (IsSo (now p) p) asks
        → All (IsSo step q) (with_asking name change asks)
    changed q none name change keeps asks named all =
        one_changed (IsSo (now p) p) (IsSo step q) name change
        (λ n a same h. unsaid q q step (n, a) (change a) (keeps a).0 (keeps a).1 (λ asked. refl) (is_later q none (n, a) h))
        (λ n a other h. is_later q none (n, a) h) asks named all

    keeps_stale : (k : Knowing) (from incarnation : ℕ) (a : Asking) → ((after_stale k from incarnation a).kind ≡ a.kind) × ((after_stale k from incarnation a).said ≡ a.said)
    keeps_stale k from incarnation a = by_server (slice_get k.views a.header.server)
      where
        by_server : (o : Option View) → let x = option_map_or (λ view. with_stale view k.down from incarnation a) o a in (x.kind ≡ a.kind) × (x.said ≡ a.said)
        by_server None = (refl, refl)
        by_server (Some view) = (refl, refl)

    seen : (k : Knowing) (view : View) (q : Past) (asks : List (AskName × Asking)) → All (IsSo step q) asks → All (IsSo step q) (with_new_view k view asks)
    seen k view q asks all = All-map (IsSo step q) (seen_by_ask k view) asks (All-weaker (IsSo step q) (λ e. IsSo step q (seen_by_ask k view e)) (λ e h. by_test (is_to view.troupe e) e h) asks all)
      where
        by_test : (b : Bool) (e : AskName × Asking) → IsSo step q e → IsSo step q (if b then (e.0, with_view view k.down e.1) else e)
        by_test true e h = unsaid q q step e (with_view view k.down e.1) refl refl (λ asked. refl) h
        by_test false e h = h

    named_seen : (k : Knowing) (view : View) (asks : List (AskName × Asking)) → AreNamed asks → AreNamed (with_new_view k view asks)
    named_seen k view asks named = subst (IsDistinct is_name) (sym (keys_seen asks)) named
      where
        key : (b : Bool) (e : AskName × Asking) → (if b then (e.0, with_view view k.down e.1) else e).0 ≡ e.0
        key true e = refl
        key false e = refl

        keys_seen : (es : List (AskName × Asking)) → keys_of (with_new_view k view es) ≡ keys_of es
        keys_seen [] = refl
        keys_seen (e ∷ es) = λ j. key (is_to view.troupe e) e j ∷ keys_seen es j

    pub behind : (o : Occurrence) (asks : List (AskName × Asking)) → AreNamed asks → All (IsSo (now p) p) asks
        → All (After o) (asks_behind place boot (followed p step o) asks) × AreNamed (asks_behind place boot (followed p step o) asks)
    behind (comes.Asked header body sender) asks named all = (all_later (followed p step (comes.Asked header body sender)) (λ asked name. refl) asks all, named)
    behind (comes.Fetched incarnation sender) asks named all = (all_later (followed p step (comes.Fetched incarnation sender)) (λ asked name. refl) asks all, named)
    behind (comes.Replied name from reply) asks named all = (replied name from reply asks named all, named-changed name (with_reply from reply) asks named)
    behind (comes.IsStale name server from incarnation) asks named all =
        let q = followed p step (comes.IsStale name server from incarnation) in
        let change = after_stale (knows place boot q) from incarnation in
        (changed q (λ asked other. refl) name change (keeps_stale (knows place boot q) from incarnation) asks named all, named-changed name change asks named)
    behind (comes.IsBefore name from) asks named all =
        (changed (followed p step (comes.IsBefore name from)) (λ asked other. refl) name (with_before from) (λ a. (refl, refl)) asks named all, named-changed name (with_before from) asks named)
    behind (comes.Told request table) asks named all = by_test (is_newer (views_known boot p) table.view)
      where
        q : Past
        q = followed p step (comes.Told request table)

        later_all : All (IsSo step q) asks
        later_all = all_later q (λ asked name. refl) asks all

        by_test : (b : Bool) → let l = if b then with_new_view (knows place boot q) table.view asks else asks in All (IsSo step q) l × AreNamed l
        by_test true = (seen (knows place boot q) table.view q asks later_all, named_seen (knows place boot q) table.view asks named)
        by_test false = (later_all, named)
    behind (comes.Restored state count) asks named all = (all_later (followed p step (comes.Restored state count)) (λ asked name. refl) asks all, named)
    behind (comes.Declared node) asks named all = (all_later (followed p step (comes.Declared node)) (λ asked name. refl) asks all, named)
    behind comes.Joins asks named all = (all_later (followed p step comes.Joins) (λ asked name. refl) asks all, named)

  -- ---- over a past

  pub keeps_opened : (q : Past) (e : AskName × Asking) (view : View) (nodes : List ℕ) → IsSo (now q) q e → IsSo (now q) q (e.0, with_view view nodes e.1)
  keeps_opened q e view nodes h = unsaid q q (now q) e (with_view view nodes e.1) refl refl (λ asked. refl) h

  none_named : AreNamed []
  unfolding IsDistinct
  none_named = tt

  pub are_so : (p : Past) → Rises p → AreSo p
  are_so booted rises =
      let o = opened_all (IsSo 0 booted) (knows place boot booted) [] (new_asks place boot kept booted) (λ e view h. keeps_opened booted e view (knows place boot booted).down h) (All-nil (IsSo 0 booted)) (new_so booted rises) none_named in
      record { names = o.1; each = o.0 }
  are_so (followed p step o) rises =
      let q = followed p step o in
      let h = are_so p rises.0 in
      let b = behind p step rises.1 o (open_asks place boot kept p) h.names h.each in
      let k = knows place boot q in
      let opened = opened_all (IsSo step q) k (asks_behind place boot q (open_asks place boot kept p)) (new_asks place boot kept q) (λ e view so. keeps_opened q e view k.down so) b.0 (new_so q rises) b.1 in
      let asks = fold (opened_one place boot k) (asks_behind place boot q (open_asks place boot kept p)) (new_asks place boot kept q) in
      let stays = stays_open k (waits_then place boot kept q) in
      record { names = named-filtered stays asks opened.1; each = All-filter stays (IsSo step q) asks opened.0 }

  -- ---- what is told behind a past

  pub told_now : (p : Past) → Rises p → (step : ℕ) (o : Occurrence) → differences_now place boot kept (followed p step o) ≡ option_to_list (told_of (open_asks place boot kept p) o)
  told_now p rises step (comes.Replied name from reply) = by_found (asking_of (open_asks place boot kept p) name) refl
    where
      by_found : (found : Option Asking) → asking_of (open_asks place boot kept p) name ≡ found
          → (if watches place.replies && is_some found then option_map_or (difference_from name from reply) (first_reply place boot kept p name) [] else [])
          ≡ option_to_list (option_and_then (difference_by name from reply) found)
      by_found None is = none_told (watches place.replies)
        where
          none_told : (b : Bool) → (if b && false then option_map_or (difference_from name from reply) (first_reply place boot kept p name) [] else []) ≡ []
          none_told true = refl
          none_told false = refl
      by_found (Some a) is =
          let h = are_so p rises in
          let so = found_at (IsSo (now p) p) name (open_asks place boot kept p) a is h.each in
          let first_is : first_reply place boot kept p name ≡ slice_get a.said 0 =
          ap (option_and_then (λ (ask : AskRecord). slice_get (replies_to ask.asked name p) 0)) so.named ∙ ap (λ l. slice_get l 0) (sym so.said_so) in
          let watch : watches place.replies ≡ is_watchdog a.kind = same_watch place.replies ∙ ap is_watchdog (sym so.kind) in
          (λ j. if watch j && true then option_map_or (difference_from name from reply) (first_is j) [] else [])
          ∙ told_by_said name from reply (is_watchdog a.kind) a.said
  told_now p rises step (comes.Asked header body sender) = refl
  told_now p rises step (comes.Fetched incarnation sender) = refl
  told_now p rises step (comes.IsStale name server from incarnation) = refl
  told_now p rises step (comes.IsBefore name from) = refl
  told_now p rises step (comes.Told request table) = refl
  told_now p rises step (comes.Restored state count) = refl
  told_now p rises step (comes.Declared node) = refl
  told_now p rises step comes.Joins = refl
