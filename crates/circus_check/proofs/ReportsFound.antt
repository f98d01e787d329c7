-- The errors that a procedure reports, found one after the other by their numbers.
use Rattle.std.proofs.Common.{◌≡◌, ℕ, ◌==◌, Bool, true, false, cond, List, [], ◌∷◌, ◌++◌, refl, sym, ◌∙◌, ap, subst, Option, Some, ne_eqb, eq-eqb, eqb-true, false-eqb}
use Rattle.std.specs.Prelude.{◌≢◌, ◌||◌, bytes_eq}
use Rattle.std.specs.List.{AllByRecursion, find}
use Rattle.std.proofs.lemmas.List.Folds.{list_any-append}
use Rattle.std.proofs.lemmas.Slice.Eq.{bytes_eq-Decides}
use Rattle.circus_value.specs.Among.{is_among}
use Rattle.circus_type.specs.Distinct.{AreDistinct}
use Rattle.circus_idl.specs.Meaning.{standing_for}
use Rattle.circus_idl.specs.Shown.{has_number}
use Rattle.circus_idl.specs.Obeys.{Obeys}
use Rattle.circus_idl.specs.declared.interface.DeclaredError.{DeclaredError}
use Rattle.circus_idl.specs.declared.interface.Interface.{Interface}
use Rattle.circus_idl.proofs.ObeysParts.{error_names, error_numbers, errors_distinct}
use Rattle.circus_body.specs.Context.{Reported}
use Rattle.circus_check.specs.Scope.{error_of, errors_behind}
use Rattle.circus_check.specs.Seen.Known.{TellApart, also_error}

abbrev Reports : Type 0
Reports = List ℕ → Option Reported

-- ---- names that stand for errors

same_twice : (name : List ℕ) (r : Option Reported) (earlier : Reports) → standing_for name r (standing_for name r earlier) ≡ standing_for name r earlier
same_twice name r earlier = λ i other. by (bytes_eq name other) (earlier other) i
  where
    by : (b : Bool) (x : Option Reported) → cond b r (cond b r x) ≡ cond b r x
    by true x = refl
    by false x = refl

swapped : (one two : List ℕ) (r s : Option Reported) (earlier : Reports) → two ≢ one
    → standing_for one r (standing_for two s earlier) ≡ standing_for two s (standing_for one r earlier)
swapped one two r s earlier differ = λ i other. by other (bytes_eq one other) (bytes_eq two other) refl refl i
  where
    by : (other : List ℕ) (a b : Bool) → bytes_eq one other ≡ a → bytes_eq two other ≡ b → cond a r (cond b s (earlier other)) ≡ cond b s (cond a r (earlier other))
    by other true true first second = absurd (differ ((bytes_eq-Decides two other).0 second ∙ sym ((bytes_eq-Decides one other).0 first)))
    by other true false first second = refl
    by other false true first second = refl
    by other false false first second = refl

-- a name that no later error has goes on to stand for what it stood for
put_before : (ns : List ℕ) (es : List DeclaredError) (name : List ℕ) (r : Option Reported) (earlier : Reports) → AllByRecursion (λ other. name ≢ other) (error_names es)
    → errors_behind ns es (standing_for name r earlier) ≡ standing_for name r (errors_behind ns es earlier)
put_before ns [] name r earlier differ = refl
put_before ns (e ∷ es) name r earlier differ = by (λ before. put_before ns es name r before differ.1) (is_among ns e.number)
  where
    by : ((before : Reports) → errors_behind ns es (standing_for name r before) ≡ standing_for name r (errors_behind ns es before)) → (b : Bool)
        → errors_behind ns es (cond b (standing_for e.name (Some (error_of e)) (standing_for name r earlier)) (standing_for name r earlier))
        ≡ standing_for name r (errors_behind ns es (cond b (standing_for e.name (Some (error_of e)) earlier) earlier))
    by rest false = rest earlier
    by rest true = ap (errors_behind ns es) (swapped e.name name (Some (error_of e)) r earlier differ.0) ∙ rest (standing_for e.name (Some (error_of e)) earlier)

-- ---- one number more

among_more : (ns : List ℕ) (n m : ℕ) → is_among (ns ++ n ∷ []) m ≡ (is_among ns m || ((n == m) || false))
among_more ns n m = list_any-append (λ k. k == m) ns (n ∷ [])

or_none : (a : Bool) → (a || (false || false)) ≡ a
or_none true = refl
or_none false = refl

or_all : (a : Bool) → (a || (true || false)) ≡ true
or_all true = refl
or_all false = refl

among_other : (ns : List ℕ) (n m : ℕ) → (n == m) ≡ false → is_among (ns ++ n ∷ []) m ≡ is_among ns m
among_other ns n m other = among_more ns n m ∙ ap (λ b. is_among ns m || (b || false)) other ∙ or_none (is_among ns m)

among_last : (ns : List ℕ) (n m : ℕ) → (n == m) ≡ true → is_among (ns ++ n ∷ []) m ≡ true
among_last ns n m same = among_more ns n m ∙ ap (λ b. is_among ns m || (b || false)) same ∙ or_all (is_among ns m)

-- it changes nothing of errors that have other numbers
others_kept : (ns : List ℕ) (n : ℕ) (es : List DeclaredError) (earlier : Reports) → AllByRecursion (λ m. n ≢ m) (error_numbers es)
    → errors_behind (ns ++ n ∷ []) es earlier ≡ errors_behind ns es earlier
others_kept ns n [] earlier differ = refl
others_kept ns n (e ∷ es) earlier differ =
    others_kept ns n es (cond (is_among (ns ++ n ∷ []) e.number) (standing_for e.name (Some (error_of e)) earlier) earlier) differ.1
    ∙ ap (λ b. errors_behind ns es (cond b (standing_for e.name (Some (error_of e)) earlier) earlier)) (among_other ns n e.number (ne_eqb n e.number differ.0))

-- it adds the error that it is the number of
pub one_more : (ns : List ℕ) (n : ℕ) (es : List DeclaredError) (earlier : Reports) → AreDistinct (error_names es) → AreDistinct (error_numbers es)
    → errors_behind (ns ++ n ∷ []) es earlier ≡ also_error (find (has_number n) es) (errors_behind ns es earlier)
one_more ns n [] earlier names numbers = refl
one_more ns n (e ∷ es) earlier names numbers = by (λ before. one_more ns n es before names.1 numbers.1) (e.number == n) refl
  where
    -- the error stands once, whether or not it stood before
    once : (b : Bool) → standing_for e.name (Some (error_of e)) (errors_behind ns es earlier)
        ≡ standing_for e.name (Some (error_of e)) (errors_behind ns es (cond b (standing_for e.name (Some (error_of e)) earlier) earlier))
    once false = refl
    once true =
        sym (same_twice e.name (Some (error_of e)) (errors_behind ns es earlier))
        ∙ ap (standing_for e.name (Some (error_of e))) (sym (put_before ns es e.name (Some (error_of e)) earlier names.0))

    by : ((before : Reports) → errors_behind (ns ++ n ∷ []) es before ≡ also_error (find (has_number n) es) (errors_behind ns es before))
        → (b : Bool) → (e.number == n) ≡ b → errors_behind (ns ++ n ∷ []) (e ∷ es) earlier
        ≡ also_error (cond b (Some e) (find (has_number n) es)) (errors_behind ns (e ∷ es) earlier)
    by rest true same =
        let is : e.number ≡ n = eqb-true e.number n same in
        ap (λ b. errors_behind (ns ++ n ∷ []) es (cond b (standing_for e.name (Some (error_of e)) earlier) earlier))
        (among_last ns n e.number (eq-eqb n e.number (sym is)))
        ∙ others_kept ns n es (standing_for e.name (Some (error_of e)) earlier) (subst (λ k. AllByRecursion (λ m. k ≢ m) (error_numbers es)) is numbers.0)
        ∙ put_before ns es e.name (Some (error_of e)) earlier names.0
        ∙ once (is_among ns e.number)
    by rest false other =
        ap (λ b. errors_behind (ns ++ n ∷ []) es (cond b (standing_for e.name (Some (error_of e)) earlier) earlier))
        (among_other ns n e.number (ne_eqb n e.number (λ same. false-eqb e.number n (sym other) (sym same))))
        ∙ rest (cond (is_among ns e.number) (standing_for e.name (Some (error_of e)) earlier) earlier)

-- ---- none

-- where no number is among them no error is
pub none_found : (es : List DeclaredError) (earlier : Reports) → errors_behind [] es earlier ≡ earlier
none_found [] earlier = refl
none_found (e ∷ es) earlier = none_found es earlier

-- the errors of an interface that obeys the rules
pub tell_apart : (i : Interface) → Obeys i → TellApart i.errors
tell_apart i obeys = record { names = errors_distinct i obeys.names; numbers = obeys.error_numbers }
