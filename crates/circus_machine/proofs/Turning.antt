-- What the machine comes to is the turn of an execution.
use Rattle.std.proofs.Common.{Result, Ok, Err, IfOk, ◌≡◌, ℕ, suc, ◌+◌, ◌-◌, ◌*◌, ◌<◌, ◌⊎◌, inl, inr, List, [], ◌∷◌, take, sym, ap, subst, ◌∙◌, arith}
use Rattle.std.proofs.Math.Nat.{mul-le-mul_right, suc-mul}
use Rattle.circus_value.specs.declared.outcome.Outcome.{Outcome}
use Rattle.circus_value.specs.declared.outcome.Outcome.TheVariants.{Raised}
use Rattle.circus_model.specs.declared.language_error.LanguageError.TheVariants.{Unhandled}
use Rattle.circus_model.specs.LanguageError.{number_of}
use Rattle.circus_model.specs.Gives.{Gives}
use Rattle.circus_model.specs.NextTurn as next_turn
use Rattle.circus_model.specs.declared.turn.Turn.{Turn}
use Rattle.circus_model.specs.declared.turn.Turn.TheVariants as T
use Rattle.circus_machine.specs.Meaning.{Going, Flow, goes_on, ends, turn_by}
use Rattle.circus_machine.specs.Seen.Code.{Act, ask, reply_place, Follows}
use Rattle.circus_machine.specs.declared.execution.Execution.{Execution}
use Rattle.circus_machine.specs.declared.run.Paused.{Paused}
use Rattle.circus_machine.specs.Seen.Running.{going_of, Awaits}
use Rattle.circus_machine.specs.Bodies.{Stands, Pauses}
use Rattle.circus_value.specs.ValueTree.{ValueTree}
use Rattle.circus_checked.specs.StatementTree.{StatementTree}

module _ {P : Type 0} (S : P → Type 0) (limit states : ℕ) (flow : Flow Going) (turn : Turn P) (e : Execution) (same : e.variables.states ≡ states) where
  -- the execution ends
  pub gives_end : (outcome : Outcome) → flow ≡ ends outcome e.variables.values → turn ≡ T.Ends outcome (take e.variables.states e.variables.values) → Gives S (turn_by limit states flow) turn
  gives_end outcome is turns =
      subst (Gives S (turn_by limit states flow)) (sym turns) (ap (turn_by limit states) is ∙ ap (λ n. next_turn.ends outcome (take n e.variables.values)) (sym same))

  -- the body ends
  pub gives_behind : (c : Going) → flow ≡ goes_on c → c.variables ≡ e.variables.values → turn ≡ T.Ends (Raised (number_of Unhandled) []) (take e.variables.states e.variables.values) → Gives S (turn_by limit states flow) turn
  gives_behind c is shows turns =
      subst (Gives S (turn_by limit states flow)) (sym turns)
      (ap (turn_by limit states) is ∙ ap (λ vs. next_turn.ends (Raised (number_of Unhandled) []) (take states vs)) shows ∙ ap (λ n. next_turn.ends (Raised (number_of Unhandled) []) (take n e.variables.values)) (sym same))

-- where the machine goes, where it asked with this instruction
abbrev pub after_reply : ℕ → ℕ → ℕ → Outcome → Going → Act → Flow (ℕ × Going)
after_reply limit states at reply c (ask callee procedure es into table skip) = reply_place limit states at into table skip reply c
after_reply limit states at reply c a = goes_on (at, c)

-- a step, or a way ahead
pub falls : (a b l p q : ℕ) → ((a < b) ⊎ ((a ≡ b) × (p < q))) → p < l → a * (l + 1) + (l - q) < b * (l + 1) + (l - p)
falls a b l p q (inl fewer) within = omega (arith, mul-le-mul_right {m = suc a} {n = b} (l + 1) (omega (arith, fewer)), suc-mul a (l + 1))
falls a b l p q (inr (same, ahead)) within = omega (arith, ap (λ n. n * (l + 1)) same, ahead, within)

-- ---- what is paused, by another flow that is the same

pub if_ok_more : {A E : Type 0} (r : Result A E) (P Q : A → Type 0) → ((a : A) → P a → Q a) → IfOk r P → IfOk r Q
if_ok_more (Ok a) P Q more holds = more a holds
if_ok_more (Err e) P Q more holds = holds

pub gives_more : {P : Type 0} (S R : P → Type 0) (next : next_turn.NextTurn) → ((p : P) → S p → R p) → (turn : Turn P) → Gives S next turn → Gives R next turn
gives_more S R next more (T.Asks callee procedure arguments state paused) gives = (gives.0, more paused gives.1)
gives_more S R next more (T.Ends outcome state) gives = gives

pub awaits_same : (limit states : ℕ) (code : List Act) (one other : List Outcome → Flow Going) → ((reply : Outcome) (replies : List Outcome) → one (reply ∷ replies) ≡ other (reply ∷ replies)) → (paused : Paused) → Awaits limit states code one paused → Awaits limit states code other paused
awaits_same limit states code one other same paused a = record {
  callee = a.callee;
  procedure = a.procedure;
  expressions = a.expressions;
  into = a.into;
  table = a.table;
  skip = a.skip;
  stands = a.stands;
  kept = a.kept;
  sized = a.sized;
  goes = λ reply replies. subst (λ f. Follows limit states code f (reply_place limit states paused.place a.into a.table a.skip reply (going_of paused.execution replies))) (same reply replies) (a.goes reply replies);
}

-- what is paused goes on with the body
module _ (limit : ℕ) (statements : List StatementTree) (locals state arguments : List ValueTree) (replies : List Outcome) (next : next_turn.NextTurn) where
  pauses : (turn : Turn Paused) → Gives (λ paused. Stands limit statements locals paused state arguments replies) next turn → Pauses limit statements locals turn
  pauses (T.Asks callee procedure asked shown paused) gives = record { state = state; arguments = arguments; replies = replies; stands = gives.1 }
  pauses (T.Ends outcome shown) gives = tt

  pub result_pauses : {E : Type 0} (r : Result (Turn Paused) E) → IfOk r (Gives (λ paused. Stands limit statements locals paused state arguments replies) next) → IfOk r (Pauses limit statements locals)
  result_pauses r gives = if_ok_more r (Gives (λ paused. Stands limit statements locals paused state arguments replies) next) (Pauses limit statements locals) pauses gives
