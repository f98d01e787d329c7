-- The asks of a run around one that was made before a step, and what an ask shows of its answer.
use Rattle.std.proofs.Common.{◌≡◌, ℕ, zero, suc, ◌<◌, ◌≤◌, Bool, true, false, true≢false, List, [], ◌∷◌, ◌++◌, length, All, Option, None, Some, refl, sym, ap, ◌∙◌, arith, eqb-true}
use Rattle.std.specs.Prelude.{slice_get, nat_eq, unwrap_or}
use Rattle.std.specs.Option.{option_map_or}
use Rattle.std.specs.Cmp.Lexicographic.{pointwise, bytes_decides}
use Rattle.std.proofs.lemmas.Bool.{and_parts, and_from, eq-eqb}
use Rattle.std.proofs.lemmas.List.Elements.{All-nil, All-cons}
use Rattle.std.proofs.lemmas.Option.{same_Some}
use Rattle.circus_value.specs.OutcomeEquality.{outcome_eq, outcome_eq_decides}
use Rattle.circus_header.specs.declared.answer.Reply.{Reply}
use Rattle.circus_record.specs.declared.record.AskRecord.{AskRecord}
use Rattle.circus_performing.specs.Performing.{step_after}
use Rattle.circus_member_theory.specs.Timely.{ShowsAnswer}
use Rattle.circus_dues.specs.Walk.{IsBefore, AskOneByOne}
use Rattle.circus_dues.specs.Seen.Steps.{shows_answer}
use Rattle.circus_headline_theory.proofs.One.{no_more}

-- ---- places

module _ {X : Type 0} where
  -- what is at a place stands behind as many
  pub record IsPlaced (xs : List X) (n : ℕ) (x : X) : Type 0 where
    pub front : List X
    pub rest : List X
    pub are : xs ≡ front ++ x ∷ rest
    pub long : length front ≡ n

  pub placed : (xs : List X) (n : ℕ) (x : X) → slice_get xs n ≡ Some x → IsPlaced xs n x
  placed [] n x is = absurd (let clash : ◌≡◌ {A = Option X} None (Some x) = is in cc)
  placed (y ∷ xs) zero x is = record { front = []; rest = xs; are = ap (λ z. z ∷ xs) (same_Some y x is); long = omega arith }
  placed (y ∷ xs) (suc n) x is =
      let s = placed xs n x is in
      let long = s.long in
      record { front = y ∷ s.front; rest = s.rest; are = ap (λ l. y ∷ l) s.are; long = omega (arith, long) }

-- ---- asks one by one

pub order_behind : (from : ℕ) (front rest : List AskRecord) → AskOneByOne from (front ++ rest) → AskOneByOne (step_after from front) rest
order_behind from [] rest so = so
order_behind from (x ∷ front) rest so = order_behind (unwrap_or x.answered from) front rest so.3

asked_from : (from : ℕ) (front : List AskRecord) (ask : AskRecord) (rest : List AskRecord) → AskOneByOne from (front ++ ask ∷ rest) → from ≤ ask.asked
asked_from from [] ask rest so = (let asked = so.0 in omega (arith, asked))
asked_from from (x ∷ front) ask rest so = (let on = so.1 in let later = asked_from (unwrap_or x.answered from) front ask rest so.3 in omega (arith, on, later))

-- it was made before a step, and answered before it
pub record IsOldAsk (step : ℕ) (ask : AskRecord) : Type 0 where
  pub asked_before : ask.asked < step
  pub answered_before : IsBefore step ask.answered

-- so it is of those before one that was made before the step
pub old_asks : (step from : ℕ) (front : List AskRecord) (ask : AskRecord) (rest : List AskRecord) → AskOneByOne from (front ++ ask ∷ rest) → ask.asked < step → All (IsOldAsk step) front
old_asks step from [] ask rest so low = All-nil (IsOldAsk step)
old_asks step from (x ∷ front) ask rest so low =
    let asked = so.0 in
    let on = so.1 in
    let later = asked_from (unwrap_or x.answered from) front ask rest so.3 in
    All-cons (IsOldAsk step) x front (record { asked_before = omega (arith, asked, on, later, low); answered_before = by_answer x.answered refl later })
    (old_asks step (unwrap_or x.answered from) front ask rest so.3 low)
  where
    some_behind : (xs : List AskRecord) → xs ++ ask ∷ rest ≡ [] → ⊥
    some_behind [] is = no_more ask rest is
    some_behind (y ∷ ys) is = no_more y (ys ++ ask ∷ rest) is

    by_answer : (o : Option ℕ) → x.answered ≡ o → unwrap_or x.answered from ≤ ask.asked → IsBefore step o
    by_answer None is later = absurd (some_behind front (so.2 is))
    by_answer (Some n) is later = (let at : unwrap_or x.answered from ≡ n = ap (λ o. unwrap_or o from) is in omega (arith, at, later, low))

-- ---- what an ask shows

some_that : {X : Type 0} (test : X → Bool) (x : X) → ((y : X) → test y ≡ true → y ≡ x) → (o : Option X) → option_map_or test o false ≡ true → o ≡ Some x
some_that test x same None is = absurd (true≢false (sym is))
some_that test x same (Some y) is = ap (λ z. Some z) (same y is)

module _ (ask : AskRecord) (at : ℕ) (reply : Reply) where
  pub shown_so : shows_answer ask at reply ≡ true → ShowsAnswer ask (Some (at, reply))
  shown_so is =
      let outer = and_parts _ _ is in
      let inner = and_parts _ _ outer.1 in (
        some_that (λ n. nat_eq n at) at (λ n. eqb-true n at) ask.answered outer.0,
        some_that (λ o. outcome_eq o reply.outcome) reply.outcome (λ o. (outcome_eq_decides o reply.outcome).0) ask.reply inner.0,
        some_that (λ c. pointwise nat_eq c reply.clock) reply.clock (λ c. (bytes_decides c reply.clock).0) ask.after inner.1,
      )

  pub so_shown : ShowsAnswer ask (Some (at, reply)) → shows_answer ask at reply ≡ true
  so_shown is =
      and_from _ _ (ap (λ o. option_map_or (λ n. nat_eq n at) o false) is.0 ∙ eq-eqb at at refl)
      (and_from _ _ (ap (λ o. option_map_or (λ r. outcome_eq r reply.outcome) o false) is.1 ∙ (outcome_eq_decides reply.outcome reply.outcome).1 refl)
      (ap (λ o. option_map_or (λ c. pointwise nat_eq c reply.clock) o false) is.2 ∙ (bytes_decides reply.clock reply.clock).1 refl))
