-- What was given by two parts of the code, one behind the other, and where something was left.
use Rattle.std.proofs.Common.{◌≡◌, ℕ, List, [], ◌∷◌, ◌++◌, Result, Ok, Err, refl, sym, ap, ◌∙◌, append_assoc}
use Rattle.circus_serve.specs.declared.fault.ServeFault.{ServeFault}
use Rattle.circus_serve.specs.declared.fault.ServeFault.TheVariants as fault
use Rattle.circus_serve.specs.Outside.{Tells, IsAsked}
use Rattle.circus_serve.specs.Giving.{gives_alone, IsPart}
use Rattle.circus_serve.specs.Seen.Asking.{HasGiven}
use Rattle.circus_serve.proofs.AskedLemmas.{told_none, asked_then}

-- nothing was asked for
pub asked_none : (old new : Tells) → new.bound ≡ old.bound → new.taken ≡ old.taken → new.given ≡ old.given → IsAsked old new (gives_alone [])
asked_none old new bound taken given = (bound ∙ sym (told_none old.bound), taken ∙ sym (told_none old.taken), given ∙ sym (told_none old.given))

-- nothing was asked for, and nothing of what was to be given
pub none_given : (old new : Tells) (whole : List (ℕ × List ℕ)) → IsAsked old new (gives_alone []) → IsPart old new whole
none_given old new whole link = record { given = []; rest = whole; is = refl; link = link }

-- a part behind what was given whole
abbrev part_then : (old mid new : Tells) (first whole : List (ℕ × List ℕ)) → IsAsked old mid (gives_alone first) → IsPart mid new whole → IsPart old new (first ++ whole)
part_then old mid new first whole link part =
    record {
      given = first ++ part.given;
      rest = part.rest;
      is = ap (λ z. first ++ z) part.is ∙ sym (append_assoc first part.given part.rest);
      link = asked_then old mid new (gives_alone first) (gives_alone part.given) link part.link;
    }

-- more is given behind what was given whole
pub given_then : {A : Type 0} (old mid new : Tells) (first whole : List (ℕ × List ℕ)) (r : Result A ServeFault) → IsAsked old mid (gives_alone first) → HasGiven mid new whole r
    → HasGiven old new (first ++ whole) r
given_then old mid new first whole (Ok answer) link given = asked_then old mid new (gives_alone first) (gives_alone whole) link given
given_then old mid new first whole (Err (fault.Spent node)) link given = asked_then old mid new (gives_alone first) (gives_alone whole) link given
given_then old mid new first whole (Err fault.LinkFailed) link given = (part_then old mid new first whole link given.0, given.1)
given_then old mid new first whole (Err fault.NoMemory) link given = part_then old mid new first whole link given

-- a part, of what is to be given and more
abbrev pub part_of_more : (old new : Tells) (whole more : List (ℕ × List ℕ)) → IsPart old new whole → IsPart old new (whole ++ more)
part_of_more old new whole more part =
    record {
      given = part.given;
      rest = part.rest ++ more;
      is = ap (λ z. z ++ more) part.is ∙ append_assoc part.given part.rest more;
      link = part.link;
    }

some_left : {A : Type 0} (xs ys : List A) → (xs ≡ [] → ⊥) → xs ++ ys ≡ [] → ⊥
some_left [] ys left none = left refl
some_left (x ∷ xs) ys left none = cc

-- where the link failed, more was to be given
pub failed_with_more : (A B : Type 0) (old new : Tells) (whole more : List (ℕ × List ℕ)) → HasGiven {A = A} old new whole (Err fault.LinkFailed)
    → HasGiven {A = B} old new (whole ++ more) (Err fault.LinkFailed)
failed_with_more A B old new whole more given = (part_of_more old new whole more given.0, some_left given.0.rest more given.1)
