-- All that is said to one ask of the history is equal: no collator of replies differs, and no difference is told.
use Rattle.std.proofs.Common.{◌≡◌, ℕ, ◌&&◌, Bool, true, false, not, if◌then◌else◌, List, [], ◌∷◌, length, All, Option, Some, None, refl, sym, ap, ◌∙◌}
use Rattle.std.specs.Prelude.{IfSome, slice_get, option_and_then}
use Rattle.std.proofs.lemmas.List.Elements.{All-head}
use Rattle.std.proofs.lemmas.Option.{same_Some}
use Rattle.circus_value.specs.ValueTree.{ValueTree}
use Rattle.circus_value.specs.declared.caller.Caller.{Caller}
use Rattle.circus_header.specs.ReplyEquality.{reply_eq, reply_eq_decides}
use Rattle.circus_header.specs.declared.answer.Reply.{Reply}
use Rattle.circus_collate.specs.declared.giving.Said.{Said}
use Rattle.circus_model.specs.declared.history.Ask.{Ask}
use Rattle.circus_model.specs.declared.history.Run.{Run}
use Rattle.circus_fanout.specs.Asking.{Asking, differs, is_watchdog}
use Rattle.circus_fanout.specs.declared.send.Watched.TheVariants.{Quiet, Differs}
use Rattle.circus_member_rules.specs.declared.occurrence.AskName.{AskName}
use Rattle.circus_member_rules.specs.declared.occurrence.Occurrence.{Occurrence}
use Rattle.circus_member_rules.specs.declared.occurrence.Occurrence.TheVariants as comes
use Rattle.circus_member_rules.specs.OpenAsks.{asking_of}
use Rattle.circus_member_rules.specs.Rules.{difference_by, difference_told}
use Rattle.circus_member_rules.specs.MemberState.{MemberState}
use Rattle.circus_member_rules.specs.Step.{difference}
use Rattle.circus_member_theory.specs.Truth.{reply_to, Answers, IsTrueAsking, IsTrueMember, IsTrueOccurrence}
use Rattle.circus_member_theory.proofs.Accepting.Entries.{ask_found}

module _ (history : List (List Run)) (troupe : ℕ) (first : List ValueTree) (Called : Caller → List ℕ → Type 0) where
  -- an ask has one reply
  pub same_answer : (name : AskName) (one other : Reply) → Answers history troupe first Called name one → Answers history troupe first Called name other → one ≡ other
  same_answer name one other h g =
      let run : h.run ≡ g.run = same_Some h.run g.run (sym h.there.run_is ∙ g.there.run_is) in
      let ask : h.ask ≡ g.ask = same_Some h.ask g.ask (sym h.there.ask_is ∙ ap (λ (r : Run). slice_get r.asks name.ask) run ∙ g.there.ask_is) in
      h.is ∙ ap (λ (a : Ask). reply_to a) ask ∙ sym g.is

  equal_answers : (name : AskName) (one other : Reply) → Answers history troupe first Called name one → Answers history troupe first Called name other
      → reply_eq one other ≡ true
  equal_answers name one other h g = (reply_eq_decides one other).1 (same_answer name one other h g)

  -- ---- collators

  abbrev Answer : AskName → Said Reply → Type 0
  Answer name s = Answers history troupe first Called name s.value

  -- ---- watchdogs

  never_differs : (name : AskName) (said : List (Said Reply)) (reply : Reply) → All (Answer name) said → Answers history troupe first Called name reply
      → differs said reply ≡ false
  never_differs name [] reply all is = refl
  never_differs name (s ∷ said) reply all is = ap not (equal_answers name s.value reply (All-head (Answer name) s said all) is)

  quiet : (a : Asking) (reply : Reply) (watches : Bool) → differs a.said reply ≡ false → (if watches && differs a.said reply then Differs 0 (length a.said) else Quiet) ≡ Quiet
  quiet a reply false is = refl
  quiet a reply true is = ap (λ t. if t then Differs 0 (length a.said) else Quiet) is

  pub no_difference : {M : Type 0} (o : Occurrence) (m : MemberState M) → IsTrueMember history troupe first Called m → IsTrueOccurrence history troupe first Called m o
      → difference o m ≡ None
  no_difference (comes.Replied name from reply) m h is = by_asking (asking_of m.asks name) refl is
    where
      by_asking : (o : Option Asking) → asking_of m.asks name ≡ o → IfSome o (λ a. Answers history troupe first Called name reply)
          → option_and_then (difference_by name from reply) o ≡ None
      by_asking None there answers = refl
      by_asking (Some a) there answers =
          let t = ask_found (λ (e : AskName × Asking). IsTrueAsking history troupe first Called e.0 e.1) m.asks name a h.asks there in
          ap (difference_told name _) (quiet a reply (is_watchdog a.kind) (never_differs name a.said reply t.said answers))
  no_difference (comes.Asked header body sender) m h is = refl
  no_difference (comes.Fetched incarnation sender) m h is = refl
  no_difference (comes.IsStale name server from incarnation) m h is = refl
  no_difference (comes.IsBefore name from) m h is = refl
  no_difference (comes.Told request table) m h is = refl
  no_difference (comes.Restored state count) m h is = refl
  no_difference (comes.Declared node) m h is = refl
  no_difference comes.Joins m h is = refl
