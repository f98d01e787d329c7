-- Of what came, what is given in a step and what waits on.
use Rattle.std.proofs.Common.{◌≡◌, ℕ, ◌<◌, Bool, true, false, ◌&&◌, if◌then◌else◌, List, [], ◌∷◌, filter, Option, Some, None, refl, sym, ap, ◌∙◌, arith}
use Rattle.std.specs.Prelude.{is_none}
use Rattle.std.specs.List.{flat_map}
use Rattle.std.specs.Option.{option_map_or}
use Rattle.std.proofs.lemmas.List.Elements.{filter_agree}
use Rattle.circus_value.specs.declared.caller.Caller.{Caller}
use Rattle.circus_member_rules.specs.declared.occurrence.Effect.{Effect}
use Rattle.circus_member_rules.specs.declared.occurrence.Occurrence.{Occurrence}
use Rattle.circus_member_rules.specs.Rules.{answer}
use Rattle.circus_member_rules.proofs.Concerned.{all_of}
use Rattle.circus_member_theory.specs.Past.{Past, followed, now, Rises}
use Rattle.circus_member_theory.specs.First.{at_end, or_else, first_given}
use Rattle.circus_member_theory.specs.Order.{if_now}
use Rattle.circus_member_theory.proofs.Timely.Firsts.{first_is}
use Rattle.circus_headline_theory.proofs.Owed.Arriving.{first_low, now_is, not_now, nothing}
use Rattle.circus_headline_theory.proofs.Owed.Passing.{passing_both, same_flat, flat_passing}

-- the message to a caller, where there is one
abbrev pub message_to : Caller → Option (List ℕ) → List Effect
message_to c o = option_map_or (λ (message : List ℕ). answer message c ∷ []) o []

-- each of these was sent by one, and is given something by a past
module _ {X : Type 0} (sender : X → Caller) (gives : X → Past → Option (List ℕ)) where
  -- it was given nothing
  abbrev pub waits : Past → X → Bool
  waits p x = is_none (first_given (gives x) p)

  module _ (p : Past) (step : ℕ) (o : Occurrence) (rises : Rises p) (later : now p < step) where
    abbrev q : Past
    q = followed p step o

    -- it is given something in the step, where it was given nothing before
    one_now : (x : X) → if_now q (sender x) (first_given (gives x) q) ≡ (if waits p x then message_to (sender x) (gives x q) else [])
    one_now x = ap (if_now q (sender x)) (first_is (gives x) q) ∙ by_given (first_given (gives x) p) refl
      where
        by_given : (given : Option (ℕ × List ℕ)) → first_given (gives x) p ≡ given
            → if_now q (sender x) (or_else given (at_end q (gives x q))) ≡ (if is_none given then message_to (sender x) (gives x q) else [])
        by_given None is = now_is q (sender x) (gives x q)
        by_given (Some given) is =
            let low = first_low (gives x) p rises given is in
            not_now q (sender x) given (omega (arith, low, later))

    one_waits : (x : X) → waits q x ≡ (waits p x && is_none (gives x q))
    one_waits x = ap is_none (first_is (gives x) q) ∙ by_given (first_given (gives x) p) (gives x q)
      where
        by_given : (given : Option (ℕ × List ℕ)) (last : Option (List ℕ)) → is_none (or_else given (at_end q last)) ≡ (is_none given && is_none last)
        by_given None None = refl
        by_given None (Some message) = refl
        by_given (Some given) last = refl

    -- so is each of those that pass a test
    pub given_now : (test : X → Bool) (xs : List X)
        → flat_map (λ x. if_now q (sender x) (first_given (gives x) q)) (filter test xs) ≡ flat_map (λ x. message_to (sender x) (gives x q)) (filter test (filter (waits p) xs))
    given_now test xs =
        let gets : X → List Effect = λ x. if_now q (sender x) (first_given (gives x) q) in
        let next : X → List Effect = λ x. message_to (sender x) (gives x q) in
        let one : X → List Effect = λ x. if test x then gets x else [] in
        let other : X → List Effect = λ x. if waits p x && test x then next x else [] in
        flat_passing test gets xs
        ∙ same_flat one other xs (all_of (λ x. one x ≡ other x) xs (λ x. ap (λ l. if test x then l else []) (one_now x) ∙ by_tests (waits p x) (test x) (next x)))
        ∙ sym (flat_passing (λ x. waits p x && test x) next xs)
        ∙ ap (flat_map next) (sym (passing_both test (waits p) xs))
      where
        by_tests : (one other : Bool) (l : List Effect) → (if other then (if one then l else []) else []) ≡ (if one && other then l else [])
        by_tests true other l = refl
        by_tests false other l = nothing other

    pub wait_on : (xs : List X) → filter (waits q) xs ≡ filter (λ x. is_none (gives x q)) (filter (waits p) xs)
    wait_on xs = filter_agree (waits q) (λ x. waits p x && is_none (gives x q)) one_waits xs ∙ sym (passing_both (λ x. is_none (gives x q)) (waits p) xs)
