-- Asks beside those of the history, one by one.
use Rattle.std.proofs.Common.{ℕ, suc, ◌≡◌, ◌∙◌, ◌<◌, ◌≤◌, ◌+◌, arith, List, [], ◌∷◌, length, get_or, refl, sym, ap, subst}
use Rattle.std.specs.Prelude.{IsSomeAnd, slice_get}
use Rattle.std.proofs.lemmas.Option.{same_Some, slice_get_read, slice_get_within}
use Rattle.circus_model.specs.declared.history.Run.{Run}
use Rattle.circus_record.specs.declared.record.MemberRecord.{MemberRecord}
use Rattle.circus_record.specs.declared.record.RunRecord.{RunRecord}
use Rattle.circus_verdict.specs.Beside.{IsSoFar, IsRight, IsFirstWrongRun}
use Rattle.circus_model.specs.declared.history.Ask.{Ask}
use Rattle.circus_record.specs.declared.record.AskRecord.{AskRecord}
use Rattle.circus_member_theory.specs.Stands.{AreAnsweredSo}

pub as_many : (asks : List Ask) (made : List AskRecord) → AreAnsweredSo asks made → length asks ≡ length made
as_many [] [] are = refl
as_many [] (kept ∷ made) are = absurd are
as_many (ask ∷ asks) [] are = absurd are
as_many (ask ∷ asks) (kept ∷ made) are = ap suc (as_many asks made are.1)

-- the run of a record in a place, among those of the history
pub right_here : (runs : List Run) (kept : MemberRecord) (items : List RunRecord) (number : ℕ) (run : RunRecord) → items ≡ kept.runs → number < length items → run ≡ get_or items number run
    → IsSomeAnd (slice_get runs (kept.from + number)) (λ (there : Run). IsSoFar there run) → IsRight runs kept number
right_here runs kept items number run same less is so other there =
    subst (λ (r : RunRecord). IsSomeAnd (slice_get runs (kept.from + number)) (λ (x : Run). IsSoFar x r))
    (same_Some run other (sym (slice_get_read items (length items) number run refl less is) ∙ ap (λ l. slice_get l number) same ∙ there)) so

pub wrong_here : (runs : List Run) (kept : MemberRecord) (items : List RunRecord) (number : ℕ) (run : RunRecord) → items ≡ kept.runs → number < length items → run ≡ get_or items number run
    → (IsSomeAnd (slice_get runs (kept.from + number)) (λ (there : Run). IsSoFar there run) → ⊥) → ((n : ℕ) → n < number → IsRight runs kept n) → IsFirstWrongRun runs kept number
wrong_here runs kept items number run same less is not before = record {
  within = subst (λ l. number < length l) same less;
  wrong = λ right. not (right run (ap (λ l. slice_get l number) (sym same) ∙ slice_get_read items (length items) number run refl less is));
  right_before = before;
}

-- there are no others
pub right_past : (runs : List Run) (kept : MemberRecord) (items : List RunRecord) (number : ℕ) → items ≡ kept.runs → length items ≤ number → ((n : ℕ) → n < number → IsRight runs kept n)
    → (n : ℕ) → IsRight runs kept n
right_past runs kept items number same past before n run there =
    let within : n < length kept.runs = slice_get_within kept.runs n run there in
    before n (let l = ap length same in omega arith) run there
