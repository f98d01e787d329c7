-- What the machine comes to is what an instruction's move comes to.
use Rattle.std.proofs.Common.{◌≡◌, ℕ, List, Option, Some, None, slice_get, sym, subst, ◌∙◌}
use Rattle.circus_machine.specs.Meaning.{Going, Flow, goes_on}
use Rattle.circus_machine.specs.Seen.Code.{Act, act, Comes, Follows, behind_all, further, ended, asked}
use Rattle.circus_evaluate.proofs.Alike.{some_same}

none_some : {X : Type 0} (a : Act) (o : Option Act) → o ≡ None → o ≡ Some a → X
none_some a o none some = cc

module _ (limit states : ℕ) (code : List Act) (flow : Flow Going) where
  pub follows : (a : Act) (at : ℕ) (c : Going) → slice_get code at ≡ Some a → Comes limit states code flow at c → Follows limit states code flow (act limit states a at c)
  follows a _ _ is (behind_all at c none same) = none_some a (slice_get code at) none is
  follows a _ _ is (further at c b next d there on rest) =
      subst (λ x. Follows limit states code flow (act limit states x at c)) (some_same b a (sym there ∙ is)) (subst (Follows limit states code flow) (sym on) rest)
  follows a _ _ is (ended at c b outcome variables there on same) =
      subst (λ x. Follows limit states code flow (act limit states x at c)) (some_same b a (sym there ∙ is)) (subst (Follows limit states code flow) (sym on) same)
  follows a _ _ is (asked at c b callee procedure arguments d there on same) =
      subst (λ x. Follows limit states code flow (act limit states x at c)) (some_same b a (sym there ∙ is)) (subst (Follows limit states code flow) (sym on) same)

  -- where no instruction stands
  pub past : (at : ℕ) (c : Going) → slice_get code at ≡ None → Comes limit states code flow at c → flow ≡ goes_on c
  past _ _ none (behind_all at c there same) = same
  past _ _ none (further at c b next d there on rest) = none_some b (slice_get code at) none there
  past _ _ none (ended at c b outcome variables there on same) = none_some b (slice_get code at) none there
  past _ _ none (asked at c b callee procedure arguments d there on same) = none_some b (slice_get code at) none there

  -- by what the instruction does
  pub by_move : (a : Act) (at : ℕ) (c : Going) (move : Flow (ℕ × Going)) → slice_get code at ≡ Some a → act limit states a at c ≡ move → Comes limit states code flow at c → Follows limit states code flow move
  by_move a at c move is moves comes = subst (Follows limit states code flow) moves (follows a at c is comes)
