-- All that a node makes in a step is handed over, and each return is one at its pair.
use Rattle.std.proofs.Common.{◌≡◌, ℕ, ◌+◌, ◌*◌, ◌≤◌, Bool, true, false, cond, ◌&&◌, eqb, if◌then◌else◌, List, [], ◌∷◌, ◌++◌, length, map, All, ◌⊎◌, Some, None, refl, sym, ap, subst, ◌∙◌, arith}
use Rattle.std.specs.Prelude.{nat_le}
use Rattle.std.specs.List.{flat_map}
use Rattle.std.proofs.lemmas.Bool.{and_parts, eqb-true, lt-ltb, le-leb}
use Rattle.std.proofs.lemmas.List.Elements.{All-head, All-tail}
use Rattle.circus_value.specs.declared.caller.Caller.{Caller}
use Rattle.circus_segment.specs.Segment.{part_size, most_segments}
use Rattle.circus_exchange.proofs.Ties.{equal}
use Rattle.circus_limits.specs.Limits.{limit_of}
use Rattle.circus_pair.specs.Acts.{Return}
use Rattle.circus_wire.specs.Wire.{WireState, Beginning, is_up}
use Rattle.circus_wire.specs.WireActs.{WireActs, followed_by, CallTo, AnswerTo, act_at, acts_at}
use Rattle.circus_wire.specs.WireStanding.{pair_of}
use Rattle.circus_member_rules.specs.declared.occurrence.Purpose.{Purpose}
use Rattle.circus_member_rules.specs.declared.occurrence.Effect.{Effect}
use Rattle.circus_member_rules.specs.declared.occurrence.Effect.TheVariants as made
use Rattle.circus_node.specs.Sending.{is_sendable}
use Rattle.circus_world_theory.specs.NodeActs.{with_all, handed_by}
use Rattle.circus_world_theory.proofs.Border.Brief.{IsBrief, brief_is_sendable}
use Rattle.circus_world_theory.proofs.Border.Sizing.{SaysBriefly, AllBrief}
use Rattle.circus_world_theory.proofs.Border.Waiting.{is_caller, one_if, answered_in}
use Rattle.circus_world_theory.proofs.Border.Pairs.{IsOtherAct, awaits_in, awaits_on}
use Rattle.circus_world_theory.specs.Made.{act_of}

-- ---- none is left out

-- a call goes to a node that is up
abbrev pub GoesUp : WireState Purpose → Effect → Type 0
GoesUp w (made.Call to message purpose) = is_up w to ≡ true
GoesUp w (made.Answer caller message) = Unit {0}

abbrev pub AllGoUp : WireState Purpose → List Effect → Type 0
AllGoUp w effects = All (GoesUp w) effects

can_be_sent : (format : ℕ) (message : List ℕ) → (format ≡ 1) ⊎ (format ≡ 2) → IsBrief (limit_of format) message → is_sendable format message ≡ true
can_be_sent format message known brief =
    let may = brief_is_sendable format message known brief in
    ap (λ b. b && nat_le (length message) (part_size * most_segments format)) (lt-ltb 0 (length message) may.0) ∙ le-leb (length message) (part_size * most_segments format) may.1

module _ (w : WireState Purpose) (known : (w.format ≡ 1) ⊎ (w.format ≡ 2)) where
  one_handed : (e : Effect) → GoesUp w e → SaysBriefly (limit_of w.format) e → handed_by w e ≡ act_of e ∷ []
  one_handed (made.Call to message purpose) up brief =
      ap (λ b. if b && is_sendable w.format message then CallTo to message purpose ∷ [] else []) up
      ∙ ap (λ b. if b then CallTo to message purpose ∷ [] else []) (can_be_sent w.format message known brief)
  one_handed (made.Answer caller message) up brief =
      ap (λ b. if b then AnswerTo caller message ∷ [] else []) (can_be_sent w.format message known brief)

  -- each of them is handed over, in their order
  pub all_handed : (effects : List Effect) → AllGoUp w effects → AllBrief (limit_of w.format) effects → flat_map (handed_by w) effects ≡ map act_of effects
  all_handed [] up brief = refl
  all_handed (e ∷ es) up brief =
      ap (λ l. l ++ flat_map (handed_by w) es) (one_handed e (All-head (GoesUp w) e es up) (All-head (SaysBriefly (limit_of w.format)) e es brief))
      ∙ ap (λ l. act_of e ∷ l) (all_handed es (All-tail (GoesUp w) e es up) (All-tail (SaysBriefly (limit_of w.format)) e es brief))

-- ---- each return is one at its pair

abbrev pub AreReturns : Beginning → WireActs Purpose → List Effect → Type 0
AreReturns b acts [] = Unit {0}
AreReturns b acts (made.Call to message purpose ∷ effects) = AreReturns b (followed_by acts (CallTo to message purpose)) effects
AreReturns b acts (made.Answer caller message ∷ effects) =
    (act_at {P = Purpose} (pair_of b) caller.node (acts_at (pair_of b) caller.node acts) (AnswerTo caller message) ≡ Some (Return caller.number message))
    × AreReturns b (followed_by acts (AnswerTo caller message)) effects

pub one_if_on : (x y : Bool) → (x ≡ true → y ≡ true) → one_if x ≤ one_if y
one_if_on true y on_ = subst (λ z. 1 ≤ one_if z) (sym (on_ refl)) (omega arith)
one_if_on false y on_ = omega arith

one_at_most : (x : Bool) → one_if x ≤ 1
one_at_most true = omega arith
one_at_most false = omega arith

one_is_true : (x : Bool) → 1 ≤ one_if x → x ≡ true
one_is_true true less = refl
one_is_true false less = absurd (omega (arith, less))

pub itself : (c : Caller) → is_caller c c ≡ true
itself c = ap (λ b. b && eqb c.number c.number) (equal c.node) ∙ equal c.number

pub is_same : (c other : Caller) → is_caller c other ≡ true → c ≡ other
is_same c other is =
    let parts = and_parts (eqb other.node c.node) (eqb other.number c.number) is in
    let node = eqb-true other.node c.node parts.0 in
    let number = eqb-true other.number c.number parts.1 in
    λ i. record { node = sym node i; number = sym number i }

other_caller : (c caller : Caller) (message : List ℕ) → is_caller c caller ≡ false → IsOtherAct {P = Purpose} c (AnswerTo caller message)
other_caller c caller message is node number =
    let same : is_caller c caller ≡ true = ap (λ b. b && eqb caller.number c.number) (ap (λ n. eqb n c.node) node ∙ equal c.node) ∙ ap (λ n. eqb n c.number) number ∙ equal c.number in
    cc

module _ (b : Beginning) (left : Caller → ℕ) where
  -- so many returns may be made yet, and so many are left
  abbrev pub AreAwaited : WireActs Purpose → List Effect → Type 0
  AreAwaited acts effects = (c : Caller) → answered_in c effects + left c ≤ one_if (awaits_in b acts c)

  called_awaited : (acts : WireActs Purpose) (to : ℕ) (message : List ℕ) (purpose : Purpose) (effects : List Effect) → AreAwaited acts (made.Call to message purpose ∷ effects)
      → AreAwaited (followed_by acts (CallTo to message purpose)) effects
  called_awaited acts to message purpose effects all c =
      let most = all c in
      let still = one_if_on (awaits_in b acts c) (awaits_in b (followed_by acts (CallTo to message purpose)) c) (awaits_on b acts (CallTo to message purpose) c (λ from t is. cc) tt) in
      omega (arith, most, still)

  answered_awaits : (acts : WireActs Purpose) (caller : Caller) (message : List ℕ) (effects : List Effect) → AreAwaited acts (made.Answer caller message ∷ effects)
      → awaits_in b acts caller ≡ true
  answered_awaits acts caller message effects all =
      let most = all caller in
      let one : one_if (is_caller caller caller) ≡ 1 = ap one_if (itself caller) in
      one_is_true (awaits_in b acts caller) (omega (arith, most, one))

  answered_awaited : (acts : WireActs Purpose) (caller : Caller) (message : List ℕ) (effects : List Effect) → AreAwaited acts (made.Answer caller message ∷ effects)
      → AreAwaited (followed_by acts (AnswerTo caller message)) effects
  answered_awaited acts caller message effects all c = by_caller (is_caller c caller) refl (all c)
    where
      by_caller : (same : Bool) → is_caller c caller ≡ same → one_if same + answered_in c effects + left c ≤ one_if (awaits_in b acts c)
          → answered_in c effects + left c ≤ one_if (awaits_in b (followed_by acts (AnswerTo caller message)) c)
      by_caller true is most = let few = one_at_most (awaits_in b acts c) in omega (arith, most, few)
      by_caller false is most =
          let still = one_if_on (awaits_in b acts c) (awaits_in b (followed_by acts (AnswerTo caller message)) c)
          (awaits_on b acts (AnswerTo caller message) c (λ from t came. cc) (other_caller c caller message is)) in
          omega (arith, most, still)

  -- what is answered is awaited, each as its turn comes
  pub all_returned : (acts : WireActs Purpose) (effects : List Effect) → AreAwaited acts effects → AreReturns b acts effects
  all_returned acts [] all = tt
  all_returned acts (made.Call to message purpose ∷ effects) all = all_returned (followed_by acts (CallTo to message purpose)) effects (called_awaited acts to message purpose effects all)
  all_returned acts (made.Answer caller message ∷ effects) all = (
    ap (λ x. cond (x && awaits_in b acts caller) (Some (Return caller.number message)) None) (equal caller.node)
        ∙ ap (λ x. cond x (Some (Return caller.number message)) None) (answered_awaits acts caller message effects all),
    all_returned (followed_by acts (AnswerTo caller message)) effects (answered_awaited acts caller message effects all),
  )

  -- and what is left is awaited behind them
  pub left_awaited : (acts : WireActs Purpose) (effects : List Effect) → AreAwaited acts effects → AreAwaited (with_all acts (map act_of effects)) []
  left_awaited acts [] all = all
  left_awaited acts (made.Call to message purpose ∷ effects) all = left_awaited (followed_by acts (CallTo to message purpose)) effects (called_awaited acts to message purpose effects all)
  left_awaited acts (made.Answer caller message ∷ effects) all = left_awaited (followed_by acts (AnswerTo caller message)) effects (answered_awaited acts caller message effects all)
