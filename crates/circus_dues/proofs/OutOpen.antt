-- An ask that waits is open, where a view of its server is known, and has no value where none is.
use Rattle.std.proofs.Common.{◌≡◌, ℕ, zero, suc, arith, length, ◌≤◌, Bool, true, false, ◌||◌, cond, if◌then◌else◌, List, [], ◌∷◌, ◌++◌, filter, Option, None, Some, refl, sym, ap, subst, ◌∙◌}
use Rattle.std.specs.Prelude.{fold, is_some, slice_get, option_and_then, not}
use Rattle.std.specs.List.{list_any}
use Rattle.std.specs.Option.{option_map_or}
use Rattle.std.specs.Map.{lookup, keys_of}
use Rattle.circus_header.specs.declared.answer.Reply.{Reply}
use Rattle.circus_header.specs.ReplyEquality.{reply_eq}
use Rattle.circus_collate.specs.declared.giving.Said.{Said}
use Rattle.circus_collate.specs.declared.view.View.{View}
use Rattle.circus_collate.specs.declared.collating.Collated.{Collated}
use Rattle.circus_collate.specs.declared.collating.Collated.TheVariants.{Waiting, Answer, Differ}
use Rattle.circus_collate.specs.Expecting.{expected_nodes}
use Rattle.circus_collate.specs.Collating.{collate}
use Rattle.circus_transfer.specs.declared.joiner.Joiner.{Joiner}
use Rattle.circus_record.specs.declared.record.AskRecord.{AskRecord}
use Rattle.circus_record.specs.declared.record.MemberRecord.{MemberRecord}
use Rattle.circus_fanout.specs.Knowing.{Knowing}
use Rattle.circus_fanout.specs.Asking.{Asking, with_view}
use Rattle.circus_member_rules.specs.declared.place.Place.{Place}
use Rattle.circus_member_rules.specs.declared.occurrence.AskName.{AskName}
use Rattle.circus_member_rules.specs.declared.occurrence.Occurrence.{Occurrence}
use Rattle.circus_member_rules.specs.OpenAsks.{is_name, asking_of, with_ask}
use Rattle.circus_member_rules.specs.Rules.{is_settled, stays_open}
use Rattle.circus_member_rules.proofs.Named.{names_decide, lookup-kept, opened_there}
use Rattle.circus_member_theory.specs.Past.{Past, followed, now, Rises, views_known, nodes_declared_down}
use Rattle.circus_member_theory.specs.Asks.{knows, opened_one, asks_behind, new_asks, waits_then, open_asks}
use Rattle.circus_member_theory.specs.Timely.{given_value, reply_by_view, collated_reply}
use Rattle.circus_member_theory.proofs.Timely.Known.{known_long}
use Rattle.circus_member_theory.proofs.Timely.Replies.{said_none}
use Rattle.circus_dues.specs.Out.{KnowsViews}
use Rattle.circus_dues.proofs.OutNames.{keys_behind}

-- the ask of a name is open
abbrev pub is_open : List (AskName × Asking) → AskName → Bool
is_open asks name = is_some (asking_of asks name)

open_by_keys : (name : AskName) (asks : List (AskName × Asking)) → is_open asks name ≡ list_any (is_name name) (keys_of asks)
open_by_keys name [] = refl
open_by_keys name (e ∷ es) = by_test (is_name name e.0) (open_by_keys name es)
  where
    by_test : (b : Bool) → is_open es name ≡ list_any (is_name name) (keys_of es) → is_some (cond b (Some e.1) (lookup (is_name name) es)) ≡ (b || list_any (is_name name) (keys_of es))
    by_test true rest = refl
    by_test false rest = rest

-- ---- asks are opened

open_with_ask : (name other : AskName) (a : Asking) (asks : List (AskName × Asking)) → is_open asks name ≡ true → is_open (with_ask asks other a) name ≡ true
open_with_ask name other a [] is = cc
open_with_ask name other a (e ∷ es) is = by_this (open_with_ask name other a es) (is_name other e.0)
  where
    by_here : (b : Bool) → is_some (cond b (Some e.1) (lookup (is_name name) es)) ≡ true → is_some (cond b (Some a) (lookup (is_name name) es)) ≡ true
    by_here true found = refl
    by_here false found = found

    by_rest : (is_open es name ≡ true → is_open (with_ask es other a) name ≡ true) → (b : Bool) → is_some (cond b (Some e.1) (lookup (is_name name) es)) ≡ true
        → is_some (cond b (Some e.1) (lookup (is_name name) (with_ask es other a))) ≡ true
    by_rest rest true found = refl
    by_rest rest false found = rest found

    by_this : (is_open es name ≡ true → is_open (with_ask es other a) name ≡ true) → (this : Bool) → is_open (if this then (e.0, a) ∷ es else e ∷ with_ask es other a) name ≡ true
    by_this rest true = by_here (is_name name e.0) is
    by_this rest false = by_rest rest (is_name name e.0) is

module _ (place : Place) (boot : List View) where
  module _ (k : Knowing) where
    open_with_one : (asks : List (AskName × Asking)) (e : AskName × Asking) (name : AskName) → is_open asks name ≡ true → is_open (opened_one place boot k asks e) name ≡ true
    open_with_one asks e name is = by_server (slice_get k.views e.1.header.server)
      where
        by_server : (o : Option View) → is_open (option_map_or (λ view. with_ask asks e.0 (with_view view k.down e.1)) o asks) name ≡ true
        by_server None = is
        by_server (Some view) = open_with_ask name e.0 (with_view view k.down e.1) asks is

    -- one that is open is so behind others
    pub open_with : (asks new : List (AskName × Asking)) (name : AskName) → is_open asks name ≡ true → is_open (fold (opened_one place boot k) asks new) name ≡ true
    open_with asks [] name is = is
    open_with asks (e ∷ new) name is = open_with (opened_one place boot k asks e) new name (open_with_one asks e name is)

    -- and one that is opened, where a view of its server is known
    pub open_new : (asks before : List (AskName × Asking)) (e : AskName × Asking) (later : List (AskName × Asking)) (view : View) → slice_get k.views e.1.header.server ≡ Some view
        → is_open (fold (opened_one place boot k) asks (before ++ e ∷ later)) e.0 ≡ true
    open_new asks [] e later view is =
        let a = with_view view k.down e.1 in
        open_with (opened_one place boot k asks e) later e.0
        (ap (λ o. is_open (option_map_or (λ v. with_ask asks e.0 (with_view v k.down e.1)) o asks) e.0) is ∙ ap is_some (opened_there asks e.0 a))
    open_new asks (x ∷ before) e later view is = open_new (opened_one place boot k asks x) before e later view is

  -- ---- what comes

  pub open_amid : (p : Past) (step : ℕ) (o : Occurrence) (asks : List (AskName × Asking)) (name : AskName) → is_open (asks_behind place boot (followed p step o) asks) name ≡ is_open asks name
  open_amid p step o asks name =
      open_by_keys name (asks_behind place boot (followed p step o) asks) ∙ ap (list_any (is_name name)) (keys_behind place boot p step o asks) ∙ sym (open_by_keys name asks)

  -- ---- asks are closed

  -- one that waits stays
  pub open_left : (k : Knowing) (waits : AskName → Bool) (asks : List (AskName × Asking)) (name : AskName) → waits name ≡ true → is_open (filter (stays_open k waits) asks) name ≡ is_open asks name
  open_left k waits asks name is =
      ap is_some (lookup-kept (is_name name) (stays_open k waits) asks (λ e here. ap (λ b. b || not (is_settled k e.1)) (subst (λ n. waits n ≡ true) ((names_decide name e.0).0 here) is)))

  -- ---- a step

  module _ (kept : MemberRecord) (p : Past) (step : ℕ) (o : Occurrence) where
    abbrev q : Past
    q = followed p step o

    abbrev amid : List (AskName × Asking)
    amid = asks_behind place boot q (open_asks place boot kept p)

    -- one that was open and still waits
    pub still_open : (name : AskName) → waits_then place boot kept q name ≡ true → is_open (open_asks place boot kept p) name ≡ true → is_open (open_asks place boot kept q) name ≡ true
    still_open name waits is =
        open_left (knows place boot q) (waits_then place boot kept q) (fold (opened_one place boot (knows place boot q)) amid (new_asks place boot kept q)) name waits
        ∙ open_with (knows place boot q) amid (new_asks place boot kept q) name (open_amid p step o (open_asks place boot kept p) name ∙ is)

    -- one that is new and waits
    pub newly_open : (before : List (AskName × Asking)) (e : AskName × Asking) (later : List (AskName × Asking)) (view : View) → new_asks place boot kept q ≡ before ++ e ∷ later
        → slice_get (views_known boot q) e.1.header.server ≡ Some view → waits_then place boot kept q e.0 ≡ true → is_open (open_asks place boot kept q) e.0 ≡ true
    newly_open before e later view are is waits =
        open_left (knows place boot q) (waits_then place boot kept q) (fold (opened_one place boot (knows place boot q)) amid (new_asks place boot kept q)) e.0 waits
        ∙ ap (λ new. is_open (fold (opened_one place boot (knows place boot q)) amid new) e.0) are
        ∙ open_new (knows place boot q) amid before e later view is

-- ---- asks without a value

none_said : (c : Collated) → given_value [] c ≡ None
none_said Waiting = refl
none_said (Answer place) = refl
none_said (Differ one other) = refl

module _ (place : Place) (boot : List View) (begins : Joiner) (q : Past) (name : AskName) (ask : AskRecord) where
  -- in the step in which it is made
  pub none_at_once : Rises q → now q ≤ ask.asked → collated_reply place boot begins name ask q ≡ None
  none_at_once rises late = by_view (slice_get (views_known boot q) ask.callee)
    where
      none : (view : View) → reply_by_view place boot begins name ask q view ≡ None
      none view =
          ap (λ (replies : List (Said Reply)). given_value replies (collate reply_eq (expected_nodes view ask.index) (nodes_declared_down q) replies place.replies)) (said_none ask.asked name q rises late)
          ∙ none_said (collate reply_eq (expected_nodes view ask.index) (nodes_declared_down q) [] place.replies)

      by_view : (o : Option View) → option_and_then (reply_by_view place boot begins name ask q) o ≡ None
      by_view None = refl
      by_view (Some view) = none view

  -- where no view of its server is known
  pub none_unknown : (k : Knowing) → KnowsViews boot q k → slice_get k.views ask.callee ≡ None → collated_reply place boot begins name ask q ≡ None
  none_unknown k h is = ap (λ views. option_and_then (reply_by_view place boot begins name ask q) (slice_get views ask.callee)) (sym h.views) ∙ ap (option_and_then (reply_by_view place boot begins name ask q)) is

-- ---- the views of as many troupes are known

known_by_length : (xs ys : List View) (i : ℕ) → length xs ≡ length ys → is_some (slice_get xs i) ≡ is_some (slice_get ys i)
known_by_length [] [] i long = refl
known_by_length [] (y ∷ ys) i long = absurd (omega (arith, long))
known_by_length (x ∷ xs) [] i long = absurd (omega (arith, long))
known_by_length (x ∷ xs) (y ∷ ys) zero long = refl
known_by_length (x ∷ xs) (y ∷ ys) (suc i) long = known_by_length xs ys i (omega (arith, long))

-- whether one of a troupe is known was so at boot
pub known_from_boot : (boot : List View) (p : Past) (troupe : ℕ) → is_some (slice_get (views_known boot p) troupe) ≡ is_some (slice_get boot troupe)
known_from_boot boot p troupe = known_by_length (views_known boot p) boot troupe (known_long boot p)
