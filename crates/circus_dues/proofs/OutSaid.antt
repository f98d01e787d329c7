-- What was said to an open ask is what came to it, so its value is that of all replies.
use Rattle.std.proofs.Common.{◌≡◌, ℕ, ◌-◌, ◌<◌, ◌≤◌, if◌then◌else◌, List, [], ◌∷◌, ◌++◌, All, None, Some, sym, ap, subst, ◌∙◌, arith}
use Rattle.std.specs.Prelude.{fold, slice_get, option_and_then}
use Rattle.std.proofs.lemmas.Bool.{le-leb, le-ltb}
use Rattle.std.proofs.lemmas.List.Elements.{All-nil, All-cons, All-head, All-tail, All-weaker}
use Rattle.std.proofs.lemmas.Option.{same_Some}
use Rattle.circus_value.specs.ValueTree.{ValueTree}
use Rattle.circus_header.specs.declared.call.CallHeader.{CallHeader}
use Rattle.circus_collate.specs.declared.view.View.{View}
use Rattle.circus_transfer.specs.declared.joiner.Joiner.{Joiner}
use Rattle.circus_record.specs.declared.record.AskRecord.{AskRecord}
use Rattle.circus_record.specs.declared.record.MemberRecord.{MemberRecord}
use Rattle.circus_record.specs.declared.record.RunRecord.{RunRecord}
use Rattle.circus_fanout.specs.Knowing.{Knowing}
use Rattle.circus_fanout.specs.Asking.{Asking, index_of}
use Rattle.circus_member_rules.specs.declared.place.Place.{Place}
use Rattle.circus_member_rules.specs.declared.occurrence.AskName.{AskName}
use Rattle.circus_member_rules.specs.declared.occurrence.Occurrence.{Occurrence}
use Rattle.circus_member_rules.specs.OpenAsks.{asking_of}
use Rattle.circus_member_rules.specs.Rules.{value_of_ask}
use Rattle.circus_member_theory.specs.Past.{Past, followed, now, Rises, replies_to}
use Rattle.circus_member_theory.specs.Asks.{knows, opened_one, asks_behind, new_asks, open_asks}
use Rattle.circus_member_theory.specs.Differences.{ask_named, first_reply}
use Rattle.circus_member_theory.specs.Returns.{run_of}
use Rattle.circus_member_theory.specs.Timely.{collated_reply}
use Rattle.circus_member_theory.proofs.Timely.Replies.{IsAskingOf, value_is}
use Rattle.circus_dues.specs.Out.{AsksCount, KnowsViews}
use Rattle.circus_headline_theory.proofs.Datagrams.Asked.{IsOf, IsEntry, later_entry, opened_all as entries_opened, behind_all, new_all, open_all}
use Rattle.circus_headline_theory.proofs.Owed.Differing.{found_at, IsSo, opened_all, new_so, behind, keeps_opened, are_so}

-- the first of some of which this holds
first_ones : {X : Type 0} (P : X → Type 0) (xs ys : List X) → All P (xs ++ ys) → All P xs
first_ones P [] ys all = All-nil P
first_ones P (x ∷ xs) ys all = All-cons P x xs (All-head P x (xs ++ ys) all) (first_ones P xs ys (All-tail P x (xs ++ ys) all))

module _ (place : Place) (boot : List View) (begins : Joiner) (first : List ValueTree) (kept : MemberRecord) where
  -- one of the record is found there by its name
  named_of : (last : ℕ) (name : AskName) (header : CallHeader) (body : List ℕ) (o : IsOf place boot begins first kept last name header body) → ask_named kept name ≡ Some o.ask
  named_of last name header body o =
      let index = o.index in
      let number : name.run - kept.from ≡ o.number = omega (arith, index) in
      let run_is : run_of kept name.run ≡ Some o.run =
      ap (λ b. if b then None else slice_get kept.runs (name.run - kept.from)) (le-ltb name.run kept.from (omega (arith, index)))
      ∙ ap (slice_get kept.runs) number ∙ o.run_is in
      ap (option_and_then (λ (run : RunRecord). slice_get run.asks name.ask)) run_is ∙ o.ask_is

  -- the first reply to an open ask
  pub first_is : (p : Past) → Rises p → (name : AskName) (a : Asking) → asking_of (open_asks place boot kept p) name ≡ Some a → first_reply place boot kept p name ≡ slice_get a.said 0
  first_is p rises name a is =
      let so = found_at (IsSo place boot kept (now p) p) name (open_asks place boot kept p) a is (are_so place boot kept p rises).each in
      ap (option_and_then (λ (ask : AskRecord). slice_get (replies_to ask.asked name p) 0)) so.named ∙ ap (λ l. slice_get l 0) (sym so.said_so)

  module _ (counts : AsksCount kept) where
    -- ---- any of these that is of the record, and to which this was said

    pub record IsIts (q : Past) (name : AskName) (ask : AskRecord) (a : Asking) : Type 0 where
      pub so : IsAskingOf place boot begins q name ask a
      pub by_then : ask.asked ≤ now q

    its : (q : Past) (last : ℕ) (asks : List (AskName × Asking)) → All (IsSo place boot kept (now q) q) asks → All (IsEntry place boot begins first kept last) asks
        → (name : AskName) (a : Asking) (ask : AskRecord) → asking_of asks name ≡ Some a → ask_named kept name ≡ Some ask → IsIts q name ask a
    its q last asks all entries name a ask is named =
        let so = found_at (IsSo place boot kept (now q) q) name asks a is all in
        let of = found_at (IsEntry place boot begins first kept last) name asks a is entries in
        let same : so.ask ≡ ask = same_Some so.ask ask (sym so.named ∙ named) in
        let one : of.ask ≡ ask = same_Some of.ask ask (sym (named_of last name a.header a.body of) ∙ named) in
        record {
          so = record {
            said_so = so.said_so ∙ ap (λ (x : AskRecord). replies_to x.asked name q) same;
            kind = so.kind;
            server = ap (λ (h : CallHeader). h.server) of.header_is ∙ ap (λ (x : AskRecord). x.callee) one;
            index = ap (λ (h : CallHeader). index_of h) of.header_is ∙ sym (counts of.number name.ask of.run of.ask of.run_is of.ask_is) ∙ ap (λ (x : AskRecord). x.index) one;
          };
          by_then = subst (λ (x : AskRecord). x.asked ≤ now q) same so.by_then;
        }

    -- its value is that of all replies that came
    pub value_so : (q : Past) (k : Knowing) → KnowsViews boot q k → (name : AskName) (ask : AskRecord) (a : Asking) → IsIts q name ask a → value_of_ask k a ≡ collated_reply place boot begins name ask q
    value_so q k h name ask a i =
        value_is place boot begins k q name ask a h.views h.down i.so i.by_then
        ∙ ap (λ b. if b then collated_reply place boot begins name ask q else None) (le-leb ask.asked (now q) i.by_then)

    -- ---- at the end of a past

    pub open_is : (p : Past) → Rises p → (name : AskName) (a : Asking) (ask : AskRecord) → asking_of (open_asks place boot kept p) name ≡ Some a → ask_named kept name ≡ Some ask → IsIts p name ask a
    open_is p rises = its p (now p) (open_asks place boot kept p) (are_so place boot kept p rises).each (open_all place boot begins first kept p rises)

    -- ---- in a step

    module _ (p : Past) (rises : Rises p) (step : ℕ) (later : now p < step) (o : Occurrence) where
      abbrev q : Past
      q = followed p step o

      abbrev amid : List (AskName × Asking)
      amid = asks_behind place boot q (open_asks place boot kept p)

      so_amid : All (IsSo place boot kept step q) amid
      so_amid = let s = are_so place boot kept p rises in (behind place boot kept p step later o (open_asks place boot kept p) s.names s.each).0

      entries_amid : All (IsEntry place boot begins first kept (now p)) amid
      entries_amid = behind_all place boot begins first kept (now p) p step o (open_asks place boot kept p) (open_all place boot begins first kept p rises)

      -- behind what comes
      pub amid_is : (name : AskName) (a : Asking) (ask : AskRecord) → asking_of amid name ≡ Some a → ask_named kept name ≡ Some ask → IsIts q name ask a
      amid_is = its q (now p) amid so_amid entries_amid

      -- once some of the new asks are opened
      pub opened_is : (xs ys : List (AskName × Asking)) → new_asks place boot kept q ≡ xs ++ ys → (name : AskName) (a : Asking) (ask : AskRecord)
          → asking_of (fold (opened_one place boot (knows place boot q)) amid xs) name ≡ Some a → ask_named kept name ≡ Some ask → IsIts q name ask a
      opened_is xs ys are =
          let k = knows place boot q in
          let S = IsSo place boot kept step q in
          let E = IsEntry place boot begins first kept step in
          let s = are_so place boot kept p rises in
          let names = (behind place boot kept p step later o (open_asks place boot kept p) s.names s.each).1 in
          let fresh = first_ones S xs ys (subst (All S) are (new_so place boot kept q (rises, later))) in
          let fresh_entries = first_ones E xs ys (subst (All E) are (new_all place boot begins first kept q)) in
          its q step (fold (opened_one place boot k) amid xs)
          (opened_all place boot kept S k amid xs (λ e view h. keeps_opened place boot kept q e view k.down h) so_amid fresh names).0
          (entries_opened place boot begins first kept k step xs amid fresh_entries
          (All-weaker (IsEntry place boot begins first kept (now p)) E (later_entry place boot begins first kept (now p) step (omega (arith, later))) amid entries_amid))
