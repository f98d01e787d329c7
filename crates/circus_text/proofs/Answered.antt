-- What follows for a caller from having been given a text's answer, or none for want of memory.
use Rattle.std.proofs.Common.{◌⊎◌, ◌≡◌, ℕ, List, Result, Ok, Err, IfOk, sym, ◌∙◌, subst, inl, inr}
use Rattle.circus_text.specs.declared.token.Token.{Token}
use Rattle.circus_text.specs.declared.lex_fault.LexFault.{LexFault}
use Rattle.circus_text.specs.declared.lex_fault.LexFault.TheVariants as fault
use Rattle.circus_text.specs.Division.{AreTokensOf, IsAnswer}
use Rattle.circus_text.proofs.Divisions.{answer_one}

-- the text's answer, unless memory ran out
abbrev pub IsGiven : List ℕ → Result (List Token) LexFault → Type 0
IsGiven text r = (r ≡ Err fault.NoMemory) ⊎ IsAnswer text r

pub given_ok : (text : List ℕ) (r : Result (List Token) LexFault) → IsGiven text r → IfOk r (AreTokensOf text)
given_ok text (Ok ts) (inl none) = cc
given_ok text (Ok ts) (inr is) = is
given_ok text (Err f) given = tt

-- a fault that isn't want of memory is the text's
pub given_fault : (text : List ℕ) (r : Result (List Token) LexFault) (f : LexFault) → IsGiven text r → r ≡ Err f → (f ≡ fault.NoMemory → ⊥) → IsAnswer text (Err f)
given_fault text r f (inl none) e other = absurd (other (same (sym e ∙ none)))
  where
    same : ◌≡◌ {A = Result (List Token) LexFault} (Err f) (Err fault.NoMemory) → f ≡ fault.NoMemory
    same e = cc
given_fault text r f (inr is) e other = subst (IsAnswer text) e is

pub given_only : (text : List ℕ) (r answer : Result (List Token) LexFault) → IsGiven text r → IsAnswer text answer → (r ≡ answer) ⊎ (r ≡ Err fault.NoMemory)
given_only text r answer (inl none) is = inr none
given_only text r answer (inr given) is = inl (answer_one text r answer given is)
