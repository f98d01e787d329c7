-- What a link was asked for by two parts of the code, one behind the other.
use Rattle.std.proofs.Common.{◌≡◌, ℕ, ◌+◌, ◌<◌, drop, get_or, length, List, [], ◌∷◌, ◌++◌, Option, None, Some, Err, refl, sym, ap, ◌∙◌, append_assoc, append-nil}
use Rattle.circus_outside.specs.Told.{told_more}
use Rattle.circus_outside.specs.declared.link.LinkFault.{LinkFault}
use Rattle.circus_outside.specs.declared.link.LinkFault.TheVariants as link
use Rattle.circus_collate.specs.declared.deployment.Deployment.{Deployment}
use Rattle.circus_collate.proofs.Going.{front}
use Rattle.circus_node.specs.declared.event.Give.{Give}
use Rattle.circus_serve.specs.Happened.{port_of, all_given}
use Rattle.circus_serve.specs.Outside.{Tells, Asked, IsAsked}
use Rattle.circus_serve.specs.Giving.{gives_alone, IsPart, AreGiven}

pub told_none : {A : Type 0} (old : Option (List A)) → told_more old [] ≡ old
told_none None = refl
told_none (Some told) = ap Some (append-nil told)

pub told_then : {A : Type 0} (old : Option (List A)) (xs ys : List A) → told_more (told_more old xs) ys ≡ told_more old (xs ++ ys)
told_then None xs ys = refl
told_then (Some told) xs ys = ap Some (append_assoc told xs ys)

-- one, and then the other
abbrev pub both : Asked → Asked → Asked
both a b = record { bound = a.bound ++ b.bound; taken = a.taken ++ b.taken; given = a.given ++ b.given }

pub asked_then : (old mid new : Tells) (a b : Asked) → IsAsked old mid a → IsAsked mid new b → IsAsked old new (both a b)
asked_then old mid new a b first second = (
  second.0 ∙ ap (λ t. told_more t b.bound) first.0 ∙ told_then old.bound a.bound b.bound,
  second.1 ∙ ap (λ t. told_more t b.taken) first.1 ∙ told_then old.taken a.taken b.taken,
  second.2 ∙ ap (λ t. told_more t b.given) first.2 ∙ told_then old.given a.given b.given,
)

-- one datagram was given
pub asked_give : (old new : Tells) (port : ℕ) (bytes : List ℕ) → new.bound ≡ old.bound → new.taken ≡ old.taken → new.given ≡ told_more old.given ((port, bytes) ∷ [])
    → IsAsked old new (gives_alone ((port, bytes) ∷ []))
asked_give old new port bytes bound taken given = (bound ∙ sym (told_none old.bound), taken ∙ sym (told_none old.taken), given)

-- ---- what is given one by one

-- the first of these were given
pub record HasGivenFirst (d : Deployment) (old new : Tells) (gives : List Give) (count : ℕ) : Type 0 where
  pub given : List (ℕ × List ℕ)
  pub whole : all_given d gives ≡ given ++ all_given d (drop count gives)
  pub link : IsAsked old new (gives_alone given)

-- another one behind them
pub first_more : (d : Deployment) (old mid new : Tells) (gives : List Give) (count : ℕ) (give : Give) → count < length gives → give ≡ get_or gives count give
    → new.bound ≡ mid.bound → new.taken ≡ mid.taken → new.given ≡ told_more mid.given ((port_of d give.to, give.bytes) ∷ [])
    → HasGivenFirst d old mid gives count → HasGivenFirst d old new gives (count + 1)
first_more d old mid new gives count give few is bound taken given first =
    let one : ℕ × List ℕ = (port_of d give.to, give.bytes) in
    record {
      given = first.given ++ one ∷ [];
      whole = first.whole ∙ ap (λ xs. first.given ++ all_given d xs) (front gives count give few is) ∙ sym (append_assoc first.given (one ∷ []) (all_given d (drop (count + 1) gives)));
      link = asked_then old mid new (gives_alone first.given) (gives_alone (one ∷ [])) first.link (asked_give mid new (port_of d give.to) give.bytes bound taken given);
    }

-- the next one was not given
abbrev first_part : (d : Deployment) (old mid new : Tells) (gives : List Give) (count : ℕ) (give : Give) → count < length gives → give ≡ get_or gives count give
    → new.bound ≡ mid.bound → new.taken ≡ mid.taken → new.given ≡ mid.given → HasGivenFirst d old mid gives count → IsPart old new (all_given d gives)
first_part d old mid new gives count give few is bound taken given first =
    record {
      given = first.given;
      rest = (port_of d give.to, give.bytes) ∷ all_given d (drop (count + 1) gives);
      is = first.whole ∙ ap (λ xs. first.given ++ all_given d xs) (front gives count give few is);
      link = (bound ∙ first.link.0, taken ∙ first.link.1, given ∙ first.link.2);
    }

pub next_lacks : (d : Deployment) (old mid new : Tells) (gives : List Give) (count : ℕ) (give : Give) (f : LinkFault) → count < length gives → give ≡ get_or gives count give
    → new.bound ≡ mid.bound → new.taken ≡ mid.taken → new.given ≡ mid.given
    → HasGivenFirst d old mid gives count → AreGiven {A = Unit {0}} old new (all_given d gives) (Err f)
next_lacks d old mid new gives count give link.Failed few is bound taken given first = (first_part d old mid new gives count give few is bound taken given first, λ none. cc)
next_lacks d old mid new gives count give link.NoMemory few is bound taken given first = first_part d old mid new gives count give few is bound taken given first
