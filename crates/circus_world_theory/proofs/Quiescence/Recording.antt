-- An ask of the history that a member has come to is in its record.
use Rattle.std.proofs.Common.{◌≡◌, inl, inr, ℕ, zero, suc, ◌+◌, ◌<◌, ◌≤◌, false, List, [], ◌∷◌, ◌++◌, length, take, Some, refl, sym, ap, subst, ◌∙◌, arith, length-append}
use Rattle.std.specs.Prelude.{slice_get}
use Rattle.std.proofs.lemmas.Bool.{cases_lt}
use Rattle.std.proofs.lemmas.Option.{none-some, same_Some, slice_get_within}
use Rattle.circus_value.specs.ValueTree.{ValueTree}
use Rattle.circus_model.proofs.Lookups as lookups
use Rattle.circus_model.proofs.Logging.{some_and}
use Rattle.circus_model.specs.Execution.{is_spent}
use Rattle.circus_model.specs.History.{run_at, clock_before}
use Rattle.circus_model.specs.declared.history.Ask.{Ask}
use Rattle.circus_model.specs.declared.history.Run.{Run}
use Rattle.circus_record.specs.declared.record.AskRecord.{AskRecord}
use Rattle.circus_record.specs.declared.record.MemberRecord.{MemberRecord}
use Rattle.circus_record.specs.declared.record.RunRecord.{RunRecord}
use Rattle.circus_performing.specs.Performing.{clock_after}
use Rattle.circus_member_theory.proofs.OneRun.{clock_is}
use Rattle.circus_member_theory.specs.Stands.{IsAnsweredSo, AreAnsweredSo, IsEnteredSo, IsPerformed, IsUnderWay, ArePerformed, IsBusy, Stands}
use Rattle.circus_world_theory.specs.Told.{Recorded}

-- ---- lists

get_before : {X : Type 0} (xs ys : List X) (k : ℕ) (x : X) → slice_get xs k ≡ Some x → slice_get (xs ++ ys) k ≡ Some x
get_before [] ys k x is = absurd (none-some x is)
get_before (y ∷ xs) ys zero x is = is
get_before (y ∷ xs) ys (suc k) x is = get_before xs ys k x is

get_last : {X : Type 0} (xs : List X) (x : X) → slice_get (xs ++ x ∷ []) (length xs) ≡ Some x
get_last [] x = refl
get_last (y ∷ xs) x = get_last xs x

get_taken : {X : Type 0} (n : ℕ) (xs : List X) (k : ℕ) (x : X) → k < n → slice_get xs k ≡ Some x → slice_get (take n xs) k ≡ Some x
get_taken zero xs k x less is = absurd (omega (arith, less))
get_taken (suc n) [] k x less is = absurd (none-some x is)
get_taken (suc n) (y ∷ xs) zero x less is = is
get_taken (suc n) (y ∷ xs) (suc k) x less is = get_taken n xs k x (omega (arith, less)) is

take_taken : {X : Type 0} (k n : ℕ) (xs : List X) → k ≤ n → take k (take n xs) ≡ take k xs
take_taken zero n xs le = refl
take_taken (suc k) zero xs le = absurd (omega (arith, le))
take_taken (suc k) (suc n) [] le = refl
take_taken (suc k) (suc n) (x ∷ xs) le = ap (λ l. x ∷ l) (take_taken k n xs (omega (arith, le)))

take_front : {X : Type 0} (k : ℕ) (xs ys : List X) → k ≤ length xs → take k (xs ++ ys) ≡ take k xs
take_front zero xs ys le = refl
take_front (suc k) [] ys le = absurd (omega (arith, le))
take_front (suc k) (x ∷ xs) ys le = ap (λ l. x ∷ l) (take_front k xs ys (omega (arith, le)))

take_length : {X : Type 0} (k : ℕ) (xs : List X) → k ≤ length xs → length (take k xs) ≡ k
take_length zero xs le = refl
take_length (suc k) [] le = absurd (omega (arith, le))
take_length (suc k) (x ∷ xs) le = ap suc (take_length k xs (omega (arith, le)))

-- ---- asks

answered_at : (asks : List Ask) (made : List AskRecord) (k : ℕ) (ask : Ask) → AreAnsweredSo asks made → slice_get asks k ≡ Some ask → (a : AskRecord) × (slice_get made k ≡ Some a) × IsAnsweredSo ask a
answered_at [] made k ask are is = absurd (none-some ask is)
answered_at (x ∷ asks) [] k ask are is = absurd are
answered_at (x ∷ asks) (a ∷ made) zero ask are is = (a, refl, subst (λ y. IsAnsweredSo y a) (same_Some x ask is) are.0)
answered_at (x ∷ asks) (a ∷ made) (suc k) ask are is = answered_at asks made k ask are.1 is

answered_take : (k : ℕ) (asks : List Ask) (made : List AskRecord) → AreAnsweredSo asks made → AreAnsweredSo (take k asks) (take k made)
answered_take zero asks made are = tt
answered_take (suc k) [] [] are = tt
answered_take (suc k) [] (a ∷ made) are = absurd are
answered_take (suc k) (x ∷ asks) [] are = absurd are
answered_take (suc k) (x ∷ asks) (a ∷ made) are = (are.0, answered_take k asks made are.1)

-- the clock behind those before an ask
clock_so : (run : Run) (kept : RunRecord) (k : ℕ) (made : List AskRecord) → IsEnteredSo run kept → k ≤ length made → AreAnsweredSo (take k run.asks) (take k made) → clock_after kept.entry (take k made) ≡ clock_before run k
clock_so run kept k made entered le are =
    let long = take_length k made le in
    clock_is run kept (take k made) entered (subst (λ n. AreAnsweredSo (take n run.asks) (take k made)) (sym long) are) ∙ ap (clock_before run) long

module _ (history : List (List Run)) (place : ℕ) (first : List ValueTree) (kept : MemberRecord) (from : kept.from ≡ 0) (index number : ℕ) (run : Run) (ask : Ask)
    (run_is : run_at history place index ≡ Some run) (ask_is : slice_get run.asks number ≡ Some ask) (left : is_spent (clock_before run number) ≡ false) where
  in_performed : (r : RunRecord) → slice_get kept.runs index ≡ Some r → IsPerformed run r → Recorded kept index number ask.callee
  in_performed r there p =
      let a = answered_at run.asks r.asks number ask p.asks ask_is in
      let within = slice_get_within r.asks number a.0 a.1 in
      record {
        run = r;
        ask = a.0;
        run_is = there;
        ask_is = a.1;
        callee_is = a.2.asks.callee;
        calls_left = ap is_spent (clock_so run r number r.asks p.entered (omega (arith, within)) (answered_take number run.asks r.asks p.asks)) ∙ left;
      }

  among_runs : (runs : List RunRecord) → ArePerformed history place kept.from runs → index < length runs → ((r : RunRecord) → slice_get runs index ≡ Some r → slice_get kept.runs index ≡ Some r) → Recorded kept index number ask.callee
  among_runs runs are less there =
      let r = lookups.within runs index less in
      let p = some_and (run_at history place (kept.from + index)) (λ x. IsPerformed x r.0) (are index r.0 r.1) in
      let at : kept.from + index ≡ index = omega (arith, from) in
      let same : p.0 ≡ run = same_Some p.0 run (sym p.1.0 ∙ ap (run_at history place) at ∙ run_is) in
      in_performed r.0 (there r.0 r.1) (subst (λ x. IsPerformed x r.0) same p.1.1)

  -- a run that has ended
  pub ended_recorded : Stands history place first kept → index < kept.count → Recorded kept index number ask.callee
  ended_recorded stands less = elim stands.now [
    | inl idle ↦ (let count = idle.count in among_runs kept.runs idle.runs (omega (arith, less, count, from)) (λ r is. is))
    | inr busy ↦ (let count = busy.count in among_runs busy.before busy.runs (omega (arith, less, count, from)) (λ r is. ap (λ l. slice_get l index) busy.runs_are ∙ get_before busy.before (busy.last ∷ []) index r is))
  ]

  -- and one that is under way
  pub going_recorded : (busy : IsBusy history place kept) → kept.count ≡ index → number < length busy.last.asks → Recorded kept index number ask.callee
  going_recorded busy at less =
      let u_ = some_and (run_at history place kept.count) (λ x. IsUnderWay x busy.last busy.waiting) busy.under_way in
      let same : u_.0 ≡ run = same_Some u_.0 run (sym u_.1.0 ∙ ap (run_at history place) at ∙ run_is) in
      by_way (subst (λ x. IsUnderWay x busy.last busy.waiting) same u_.1.1)
    where
      there : slice_get kept.runs index ≡ Some busy.last
      there = (let count = busy.count in let place_ : index ≡ length busy.before = omega (arith, count, at, from) in ap (λ l. slice_get l index) busy.runs_are ∙ ap (slice_get (busy.before ++ busy.last ∷ [])) place_ ∙ get_last busy.before busy.last)

      by_way : IsUnderWay run busy.last busy.waiting → Recorded kept index number ask.callee
      by_way u = elim (cases_lt number (length u.made)) [
        | inl made ↦
            let a = answered_at (take (length u.made) run.asks) u.made number ask u.answered (get_taken (length u.made) run.asks number ask made ask_is) in
            record {
              run = busy.last;
              ask = a.0;
              run_is = there;
              ask_is = ap (λ l. slice_get l number) u.asks ∙ get_before u.made (busy.waiting ∷ []) number a.0 a.1;
              callee_is = a.2.asks.callee;
              calls_left = clock u (omega (arith, made));
            }
        | inr last ↦
            let long : length busy.last.asks ≡ length u.made + 1 = ap length u.asks ∙ length-append u.made (busy.waiting ∷ []) in
            let number_is : number ≡ length u.made = omega (arith, last, long, less) in
            let next = some_and (slice_get run.asks (length u.made)) _ u.next in
            let same : next.0 ≡ ask = same_Some next.0 ask (sym next.1.0 ∙ ap (slice_get run.asks) (sym number_is) ∙ ask_is) in
            record {
              run = busy.last;
              ask = busy.waiting;
              run_is = there;
              ask_is = ap (λ l. slice_get l number) u.asks ∙ ap (slice_get (u.made ++ busy.waiting ∷ [])) number_is ∙ get_last u.made busy.waiting;
              callee_is = next.1.1.asks.callee ∙ ap (λ (x : Ask). x.callee) same;
              calls_left = clock u (omega (arith, number_is));
            }
      ]
        where
          clock : (u : IsUnderWay run busy.last busy.waiting) → number ≤ length u.made → is_spent (clock_after busy.last.entry (take number busy.last.asks)) ≡ false
          clock u le =
              let taken : take number busy.last.asks ≡ take number u.made = ap (take number) u.asks ∙ take_front number u.made (busy.waiting ∷ []) le in
              let are : AreAnsweredSo (take number run.asks) (take number u.made) =
              subst (λ l. AreAnsweredSo l (take number u.made)) (take_taken number (length u.made) run.asks le) (answered_take number (take (length u.made) run.asks) u.made u.answered) in
              ap is_spent (ap (clock_after busy.last.entry) taken ∙ clock_so run busy.last number u.made u.entered le are) ∙ left
