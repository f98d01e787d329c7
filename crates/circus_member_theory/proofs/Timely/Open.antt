-- The one ask of a record that waits, and its name.
use Rattle.std.proofs.Common.{◌≡◌, ℕ, ◌+◌, ◌-◌, ◌≤◌, List, [], ◌∷◌, length, take, Some, None, ◌⊎◌, inl, inr, ap, sym, subst, ◌∙◌, arith, length-append}
use Rattle.std.specs.Prelude.{min, slice_get}
use Rattle.std.specs.Option.{option_map_or}
use Rattle.circus_value.specs.ValueTree.{ValueTree}
use Rattle.circus_model.specs.Behaviour.{Behaviour}
use Rattle.circus_model.proofs.Lookups.{old_or_added}
use Rattle.circus_record.specs.declared.record.AskRecord.{AskRecord}
use Rattle.circus_record.specs.declared.record.RunRecord.{RunRecord}
use Rattle.circus_record.specs.declared.record.MemberRecord.{MemberRecord}
use Rattle.circus_performing.specs.Performing.{last_of, open_ask, last_count, state_after}
use Rattle.circus_performing.specs.Record.{HasEnded, IsPerforming, IsRecord}
use Rattle.circus_performing.proofs.Ends.{last_more}
use Rattle.circus_performing.proofs.Records.{none_is_some, performing_has_one}
use Rattle.circus_member_rules.specs.Step.{name_of_last}
use Rattle.circus_member_theory.proofs.Timely.Runs.{named}

-- an ask without a reply is the last one of the last run
pub record IsTheOpen (kept : MemberRecord) (number n : ℕ) (run : RunRecord) (ask : AskRecord) : Type 0 where
  pub is_open : open_ask kept ≡ Some ask
  pub last : last_of kept.runs ≡ Some run
  pub number_is : number ≡ length kept.runs - 1
  pub place_is : n ≡ length run.asks - 1

module _ (b : Behaviour) where
  ended_has_replies : (state : List ValueTree) (run : RunRecord) (n : ℕ) (ask : AskRecord) → HasEnded b state run → slice_get run.asks n ≡ Some ask → ask.reply ≡ None → ⊥
  ended_has_replies state run n ask ended there none = let so = (ended.made.asks_so n ask there).1 in none_is_some (sym none ∙ so.reply_is)

  pub open_only : (began : List ValueTree) (kept : MemberRecord) (number n : ℕ) (run : RunRecord) (ask : AskRecord) → IsRecord b began kept → slice_get kept.runs number ≡ Some run
      → slice_get run.asks n ≡ Some ask → ask.reply ≡ None → IsTheOpen kept number n run ask
  open_only began kept number n run ask r there at none = elim r.now [
    | inl idle ↦ absurd (ended_has_replies (state_after began (take number kept.runs)) run n ask (idle.runs number run there) at none)
    | inr p ↦ by_run p (old_or_added p.before p.run number run (subst (λ (xs : List RunRecord). slice_get xs number ≡ Some run) p.runs_are there))
  ]
    where
      by_ask : (p : IsPerforming b began kept) → number ≡ length p.before → p.run ≡ run
          → (slice_get p.waiting.before n ≡ Some ask) ⊎ ((n ≡ length p.waiting.before) × (p.waiting.ask ≡ ask))
          → IsTheOpen kept number n run ask
      by_ask p number_is same (inl old) = let so = (p.waiting.made.asks_so n ask old).1 in absurd (none_is_some (sym none ∙ so.reply_is))
      by_ask p number_is same (inr last) =
          let long : length kept.runs ≡ length p.before + 1 = ap length p.runs_are ∙ length-append p.before (p.run ∷ []) in
          let asks : length run.asks ≡ length p.waiting.before + 1 =
          ap (λ (x : RunRecord). length x.asks) (sym same) ∙ ap length p.waiting.asks_are ∙ length-append p.waiting.before (p.waiting.ask ∷ []) in
          record {
            is_open = performing_has_one b began kept p ∙ ap (λ (a : AskRecord). Some a) last.1;
            last = ap last_of p.runs_are ∙ last_more p.before p.run ∙ ap (λ (x : RunRecord). Some x) same;
            number_is = omega (arith, number_is, long);
            place_is = omega (arith, last.0, asks);
          }

      by_run : (p : IsPerforming b began kept) → (slice_get p.before number ≡ Some run) ⊎ ((number ≡ length p.before) × (p.run ≡ run)) → IsTheOpen kept number n run ask
      by_run p (inl old) = absurd (ended_has_replies (state_after began (take number p.before)) run n ask (p.runs number run old) at none)
      by_run p (inr last) =
          by_ask p last.0 last.1 (old_or_added p.waiting.before p.waiting.ask n ask
          (subst (λ (xs : List AskRecord). slice_get xs n ≡ Some ask) p.waiting.asks_are (subst (λ (x : RunRecord). slice_get x.asks n ≡ Some ask) (sym last.1) at)))

-- its name
pub name_is : (kept : MemberRecord) (number n : ℕ) (run : RunRecord) → last_of kept.runs ≡ Some run → number ≡ length kept.runs - 1 → n ≡ length run.asks - 1
    → kept.from + (length kept.runs - 1) ≤ last_count
    → name_of_last kept ≡ named kept.from number n
name_is kept number n run last number_is n_is few =
    let one : min (kept.from + (length kept.runs - 1)) last_count ≡ kept.from + number = omega (arith, few, number_is) in
    let other : option_map_or (λ (r : RunRecord). length r.asks - 1) (last_of kept.runs) 0 ≡ n = ap (λ o. option_map_or (λ (r : RunRecord). length r.asks - 1) o 0) last ∙ sym n_is in
    λ j. record { run = one j; ask = other j }
