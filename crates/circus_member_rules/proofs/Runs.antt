-- How many asks a run makes.
use Rattle.std.proofs.Common.{◌≡◌, ℕ, suc, ◌-◌, ◌<◌, ◌≤◌, List, [], ◌∷◌, ◌++◌, length, take, drop, Option, Some, None, inl, inr, refl, sym, ap, subst, ◌∙◌, arith, length-append}
use Rattle.std.specs.Prelude.{slice_get, IfSome}
use Rattle.std.proofs.lemmas.List.{take-append-drop, length-take-le}
use Rattle.std.proofs.lemmas.List.Elements.{filter_map-append}
use Rattle.circus_value.specs.ValueTree.{ValueTree}
use Rattle.circus_value.specs.declared.outcome.Outcome.{Outcome}
use Rattle.circus_model.specs.declared.signature.Import.{Import}
use Rattle.circus_limits.specs.Limits.{most_asks}
use Rattle.circus_model.specs.NextTurn.{NextTurn, asks as asks_for}
use Rattle.circus_model.specs.Lawful.{CanStart, RepliesFit, IsLawful}
use Rattle.circus_model.specs.Behaviour.{Behaviour, IsModule}
use Rattle.circus_model.proofs.Lookups.{grown, within}
use Rattle.circus_record.specs.declared.record.AskRecord.{AskRecord}
use Rattle.circus_record.specs.declared.record.RunRecord.{RunRecord}
use Rattle.circus_record.specs.declared.record.MemberRecord.{MemberRecord}
use Rattle.circus_performing.specs.declared.start.RunStart.{RunStart}
use Rattle.circus_performing.specs.Performing.{state_after, replies_of, last_of}
use Rattle.circus_performing.specs.Record.{turns, start_of, IsMade, HasMade, IsIdle, IsPerforming, IsRecord}
use Rattle.circus_performing.proofs.Ends.{last_more}
use Rattle.circus_member_rules.specs.Callable.{HasFewAsks}

-- replies fit, without the last of them too
fits_before : (imports : List Import) (turn : List Outcome → NextTurn) (before replies more : List Outcome) → RepliesFit imports turn before (replies ++ more) → RepliesFit imports turn before replies
fits_before imports turn before [] more h = tt
fits_before imports turn before (reply ∷ replies) more h = (h.0, fits_before imports turn (before ++ reply ∷ []) replies more h.1)

-- each of the asks has a reply
abbrev HaveReplies : List AskRecord → Type 0
HaveReplies made = (number : ℕ) (ask : AskRecord) → slice_get made number ≡ Some ask → (reply : Outcome) × (ask.reply ≡ Some reply)

as_many : (made : List AskRecord) → HaveReplies made → length (replies_of made) ≡ length made
as_many [] h = refl
as_many (ask ∷ made) h =
    let first = h 0 ask refl in
    rw first.1 (ap suc (as_many made (λ number later at. h (suc number) later at)))

module _ (b : Behaviour) (lawful : IsModule b) (state : List ValueTree) (start : RunStart) (started : ℕ) where
  replied : (made : List AskRecord) → HasMade b state start started made → HaveReplies made
  replied made h number ask at = let answered = (h.asks_so number ask at).1 in (answered.reply, answered.reply_is)

  -- an ask is made behind few others
  behind_few : (before : List AskRecord) (ask : AskRecord) → CanStart b.declared state start.procedure start.arguments → RepliesFit b.declared.imports (turns b state start) [] (replies_of before) → HaveReplies before → turns b state start (replies_of before) ≡ asks_for ask.callee ask.procedure ask.arguments ask.state → length before < most_asks
  behind_few before ask may_start fit have is =
      let law = lawful.turns_are_lawful state start.procedure start.arguments (replies_of before) may_start fit in
      let asks_so : IsLawful b.declared start.procedure (length (replies_of before)) (asks_for ask.callee ask.procedure ask.arguments ask.state) =
      subst (IsLawful b.declared start.procedure (length (replies_of before))) is law in
      subst (λ n. n < most_asks) (as_many before have) asks_so.0.few

  few_made : (made : List AskRecord) → HasMade b state start started made → length made ≤ most_asks
  few_made [] h = omega arith
  few_made (first ∷ rest) h =
      let made : List AskRecord = first ∷ rest in
      let number : ℕ = length rest in
      let last = within made number (omega arith) in
      let before : List AskRecord = take number made in
      let whole : before ++ drop number made ≡ made = take-append-drop number made in
      let split : replies_of made ≡ replies_of before ++ replies_of (drop number made) =
      ap (λ xs. replies_of xs) (sym whole) ∙ filter_map-append (λ (a : AskRecord). a.reply) before (drop number made) in
      let fit = fits_before b.declared.imports (turns b state start) [] (replies_of before) (replies_of (drop number made)) (subst (RepliesFit b.declared.imports (turns b state start) []) split h.replies_fit) in
      let have : HaveReplies before = λ k ask at. replied made h k ask (subst (λ (xs : List AskRecord). slice_get xs k ≡ Some ask) whole (grown before (drop number made) k ask at)) in
      let few : length before < most_asks = behind_few before last.0 h.may_start fit have (h.asks_so number last.0 last.1).0.turn in
      omega (arith, few, length-take-le number made (omega arith))

  few_open : (before : List AskRecord) (ask : AskRecord) → HasMade b state start started before → IsMade b state start started before ask → length (before ++ ask ∷ []) ≤ most_asks
  few_open before ask h is =
      let few : length before < most_asks = behind_few before ask h.may_start h.replies_fit (replied before h) is.turn in
      omega (arith, few, length-append before (ask ∷ []))

abbrev HasFew : RunRecord → Type 0
HasFew run = length run.asks ≤ most_asks

-- each run of a record, the last too, has few asks
pub few_asks : (b : Behaviour) → IsModule b → (began : List ValueTree) (kept : MemberRecord) → IsRecord b began kept → HasFewAsks kept
few_asks b lawful began kept r = elim r.now [ inl idle ↦ by_last (last_of kept.runs) (ended idle) | inr performing ↦ subst (λ o. IfSome o HasFew) (sym (is_last performing)) (waits performing) ]
  where
    by_last : (last : Option RunRecord) → ((run : RunRecord) → last ≡ Some run → HasFew run) → IfSome last HasFew
    by_last None each = tt
    by_last (Some run) each = each run refl

    ended : IsIdle b began kept → (run : RunRecord) → last_of kept.runs ≡ Some run → HasFew run
    ended idle run at =
        let end = idle.runs (length kept.runs - 1) run at in
        few_made b lawful (state_after began (take (length kept.runs - 1) kept.runs)) (start_of run) run.started run.asks end.made

    is_last : (p : IsPerforming b began kept) → last_of kept.runs ≡ Some p.run
    is_last p = ap last_of p.runs_are ∙ last_more p.before p.run

    waits : (p : IsPerforming b began kept) → HasFew p.run
    waits p =
        let o = p.waiting in
        subst (λ (xs : List AskRecord). length xs ≤ most_asks) (sym o.asks_are)
        (few_open b lawful (state_after began p.before) (start_of p.run) p.run.started o.before o.ask o.made o.asking)
