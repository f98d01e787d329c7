-- A lawful record says of each ask how many calls to its callee its thread had made.
use Rattle.std.proofs.Common.{◌≡◌, ℕ, inl, inr, List, take, Some, sym, ap, ◌∙◌}
use Rattle.std.specs.Prelude.{slice_get, slice_index}
use Rattle.circus_value.specs.ValueTree.{ValueTree}
use Rattle.circus_model.specs.Behaviour.{Behaviour}
use Rattle.circus_record.specs.declared.record.AskRecord.{AskRecord}
use Rattle.circus_record.specs.declared.record.MemberRecord.{MemberRecord}
use Rattle.circus_record.specs.declared.record.RunRecord.{RunRecord}
use Rattle.circus_performing.specs.Performing.{clock_after, state_after}
use Rattle.circus_performing.specs.Record.{start_of, HasMade, IsOpen, IsIdle, IsPerforming, IsRecord}
use Rattle.circus_performing.proofs.Ends.{earlier_or_added}
use Rattle.circus_dues.specs.Out.{AsksCount}

-- the number of calls to the callee of an ask behind these
abbrev count_behind : RunRecord → List AskRecord → AskRecord → ℕ
count_behind run before ask = slice_index (clock_after run.entry before) ask.callee

module _ (b : Behaviour) where
  made_counts : (state : List ValueTree) (run : RunRecord) (made : List AskRecord) → HasMade b state (start_of run) run.started made
      → (n : ℕ) (ask : AskRecord) → slice_get made n ≡ Some ask → ask.index ≡ count_behind run (take n made) ask
  made_counts state run made h n ask is = (h.asks_so n ask is).0.index

  open_counts : (state : List ValueTree) (run : RunRecord) → IsOpen b state run → (n : ℕ) (ask : AskRecord) → slice_get run.asks n ≡ Some ask → ask.index ≡ count_behind run (take n run.asks) ask
  open_counts state run o n ask is = elim (earlier_or_added o.before o.ask n ask (sym (ap (λ l. slice_get l n) o.asks_are) ∙ is)) [
    | inl earlier ↦
        made_counts state run o.before o.made n ask earlier.there
        ∙ ap (λ l. count_behind run l ask) (sym earlier.before ∙ sym (ap (take n) o.asks_are))
    | inr added ↦
        sym (ap (λ (x : AskRecord). x.index) added.same) ∙ o.asking.index
        ∙ (λ j. count_behind run ((sym added.before ∙ sym (ap (take n) o.asks_are)) j) (added.same j))
  ]

  module _ (began : List ValueTree) (kept : MemberRecord) where
    idle_counts : IsIdle b began kept → AsksCount kept
    idle_counts i number n run ask run_is ask_is = made_counts (state_after began (take number kept.runs)) run run.asks (i.runs number run run_is).made n ask ask_is

    performing_counts : IsPerforming b began kept → AsksCount kept
    performing_counts p number n run ask run_is ask_is = elim (earlier_or_added p.before p.run number run (sym (ap (λ l. slice_get l number) p.runs_are) ∙ run_is)) [
      | inl earlier ↦ made_counts (state_after began (take number p.before)) run run.asks (p.runs number run earlier.there).made n ask ask_is
      | inr added ↦
          (let last = open_counts (state_after began p.before) p.run p.waiting n ask (ap (λ (r : RunRecord). slice_get r.asks n) added.same ∙ ask_is) in
          last ∙ ap (λ (r : RunRecord). count_behind r (take n r.asks) ask) added.same)
    ]

    pub counts_of : IsRecord b began kept → AsksCount kept
    counts_of r = elim r.now [ inl idle ↦ idle_counts idle | inr performing ↦ performing_counts performing ]
