-- Bodies at their places, one procedure after another.
use Rattle.std.proofs.Common.{◌≡◌, ℕ, zero, suc, ◌+◌, ◌≤◌, Bool, true, false, cond, List, [], ◌∷◌, ◌++◌, length, map, take, replicate, set, Option, Some, None, option_map, unwrap_or, refl, sym, ◌∙◌, ap, arith}
use Rattle.std.specs.Prelude.{bytes_eq, slice_get, option_to_list, ◌||◌}
use Rattle.std.specs.Option.{option_or}
use Rattle.std.specs.List.{AllByRecursion, position_from}
use Rattle.std.proofs.lemmas.List.{map-set, take_all}
use Rattle.std.proofs.lemmas.Slice.Eq.{bytes_eq-Decides}
use Rattle.circus_statement.specs.StatementTree.{StatementTree}
use Rattle.circus_type.specs.Distinct.{AreDistinct}
use Rattle.circus_idl.specs.declared.interface.Procedure.{Procedure}
use Rattle.circus_lang.specs.ModuleTree.{ProcedureOf}
use Rattle.circus_check.specs.Faults.{has_procedure}
use Rattle.circus_check.specs.Meaning.{body_named, in_order}
use Rattle.circus_check.specs.Seen.Programs.{place_named}
use Rattle.circus_check.specs.Seen.Surroundings.{place_for, count_for}
use Rattle.circus_check.specs.Seen.Tables.{those_there}

abbrev Text : Type 0
Text = ProcedureOf StatementTree

abbrev Texts : Type 0
Texts = List Text

-- the first of some procedures that has a name
abbrev named_in : Texts → List ℕ → Option Text
named_in [] name = None
named_in (p ∷ ps) name = cond (bytes_eq p.name.name name) (Some p) (named_in ps name)

-- the first so many of some procedures
abbrev first : ℕ → Texts → List (Option Text)
first n [] = []
first zero (p ∷ ps) = None ∷ first zero ps
first (suc n) (p ∷ ps) = Some p ∷ first n ps

-- what stands at the places of a module behind so many of its procedures
abbrev pub placed : Option (List Procedure) → ℕ → Texts → List (Option Text)
placed None n ps = first n ps
placed (Some qs) n ps = map (λ (q : Procedure). named_in (take n ps) q.name) qs

-- ---- at first

first_none : {A B : Type 0} (f : A → B) (g : Text → B) (ps : Texts) → map (option_map f) (replicate (length ps) None) ≡ map (option_map g) (first zero ps)
first_none f g [] = refl
first_none f g (p ∷ ps) = ap (λ xs. None ∷ xs) (first_none f g ps)

named_none : {A B : Type 0} (f : A → B) (g : Text → B) (qs : List Procedure) → map (option_map f) (replicate (length qs) None) ≡ map (option_map g) (map (λ (q : Procedure). None) qs)
named_none f g [] = refl
named_none f g (q ∷ qs) = ap (λ xs. None ∷ xs) (named_none f g qs)

pub none_placed : {A B : Type 0} (f : A → B) (g : Text → B) (order : Option (List Procedure)) (ps : Texts) → map (option_map f) (replicate (count_for order (length ps)) None) ≡ map (option_map g) (placed order zero ps)
none_placed f g None ps = first_none f g ps
none_placed f g (Some qs) ps = named_none f g qs

-- ---- one more

first_more : (n : ℕ) (ps : Texts) (p : Text) → slice_get ps n ≡ Some p → first (n + 1) ps ≡ set (first n ps) n (Some p)
first_more n [] p is = absurd (cc)
first_more zero (q ∷ ps) p is = ap (λ o. o ∷ first zero ps) is
first_more (suc n) (q ∷ ps) p is = ap (λ m. first m (q ∷ ps)) (let e : suc n + 1 ≡ suc (n + 1) = omega arith in e) ∙ ap (λ xs. Some q ∷ xs) (first_more n ps p is)

named_more : (done : Texts) (p : Text) (name : List ℕ) → named_in (done ++ p ∷ []) name ≡ option_or (named_in done name) (cond (bytes_eq p.name.name name) (Some p) None)
named_more [] p name = refl
named_more (q ∷ done) p name = by_test (named_more done p name) (bytes_eq q.name.name name)
  where
    by_test : named_in (done ++ p ∷ []) name ≡ option_or (named_in done name) (cond (bytes_eq p.name.name name) (Some p) None) → (b : Bool) → cond b (Some q) (named_in (done ++ p ∷ []) name) ≡ option_or (cond b (Some q) (named_in done name)) (cond (bytes_eq p.name.name name) (Some p) None)
    by_test rest true = refl
    by_test rest false = rest

fresh : (done : Texts) (name : List ℕ) → has_procedure done name ≡ false → named_in done name ≡ None
fresh [] name is = refl
fresh (q ∷ done) name is = by_test (fresh done name) (bytes_eq q.name.name name) is
  where
    by_test : (has_procedure done name ≡ false → named_in done name ≡ None) → (b : Bool) → (b || has_procedure done name) ≡ false → cond b (Some q) (named_in done name) ≡ None
    by_test rest true is = absurd (cc)
    by_test rest false is = rest is

other_way : (a b : List ℕ) → bytes_eq a b ≡ false → bytes_eq b a ≡ false
other_way a b is = by_test (bytes_eq b a) refl
  where
    by_test : (t : Bool) → bytes_eq b a ≡ t → t ≡ false
    by_test true same = absurd (let e : bytes_eq a b ≡ true = (bytes_eq-Decides a b).1 (sym ((bytes_eq-Decides b a).0 same)) in cc)
    by_test false same = refl

module _ (done : Texts) (p : Text) where
  -- the procedures of an interface that aren't of its name stay
  others : (q : Procedure) → bytes_eq p.name.name q.name ≡ false → named_in (done ++ p ∷ []) q.name ≡ named_in done q.name
  others q other = named_more done p q.name ∙ ap (λ b. option_or (named_in done q.name) (cond b (Some p) None)) other ∙ none_more (named_in done q.name)
    where
      none_more : (e : Option Text) → option_or e None ≡ e
      none_more None = refl
      none_more (Some x) = refl

  all_others : (name : List ℕ) → p.name.name ≡ name → (qs : List Procedure) → AllByRecursion (λ (y : List ℕ). name ≡ y → ⊥) (map (λ (q : Procedure). q.name) qs)
      → map (λ (q : Procedure). named_in (done ++ p ∷ []) q.name) qs ≡ map (λ (q : Procedure). named_in done q.name) qs
  all_others name same [] differ = refl
  all_others name same (q ∷ qs) differ =
      λ i. others q (by_test (bytes_eq p.name.name q.name) refl) i ∷ all_others name same qs differ.1 i
    where
      by_test : (b : Bool) → bytes_eq p.name.name q.name ≡ b → bytes_eq p.name.name q.name ≡ false
      by_test true is = absurd (differ.0 (sym same ∙ (bytes_eq-Decides p.name.name q.name).0 is))
      by_test false is = is

  -- the place of its name takes it
  named_set : has_procedure done p.name.name ≡ false → (qs : List Procedure) (i k : ℕ) → AreDistinct (map (λ (q : Procedure). q.name) qs) → position_from (λ (q : Procedure). bytes_eq q.name p.name.name) i qs ≡ Some k
      → (j : ℕ) × (k ≡ i + j) × (map (λ (q : Procedure). named_in (done ++ p ∷ []) q.name) qs ≡ set (map (λ (q : Procedure). named_in done q.name) qs) j (Some p))
  named_set new [] i k differ at = absurd (cc)
  named_set new (q ∷ qs) i k differ at = by_test (λ further. named_set new qs (i + 1) k differ.1 further) (bytes_eq q.name p.name.name) refl at
    where
      here : bytes_eq q.name p.name.name ≡ true → named_in (done ++ p ∷ []) q.name ≡ Some p
      here is =
          let same : q.name ≡ p.name.name = (bytes_eq-Decides q.name p.name.name).0 is in
          named_more done p q.name
          ∙ ap (λ n. option_or (named_in done n) (cond (bytes_eq p.name.name n) (Some p) None)) same
          ∙ ap (λ o. option_or o (cond (bytes_eq p.name.name p.name.name) (Some p) None)) (fresh done p.name.name new)
          ∙ ap (λ b. cond b (Some p) None) ((bytes_eq-Decides p.name.name p.name.name).1 refl)

      by_test : (position_from (λ (r : Procedure). bytes_eq r.name p.name.name) (i + 1) qs ≡ Some k
          → (j : ℕ) × (k ≡ i + 1 + j) × (map (λ (r : Procedure). named_in (done ++ p ∷ []) r.name) qs ≡ set (map (λ (r : Procedure). named_in done r.name) qs) j (Some p)))
          → (b : Bool) → bytes_eq q.name p.name.name ≡ b → cond b (Some i) (position_from (λ (r : Procedure). bytes_eq r.name p.name.name) (i + 1) qs) ≡ Some k
          → (j : ℕ) × (k ≡ i + j) × (map (λ (r : Procedure). named_in (done ++ p ∷ []) r.name) (q ∷ qs) ≡ set (map (λ (r : Procedure). named_in done r.name) (q ∷ qs)) j (Some p))
      by_test rest true is at =
          let e : i ≡ k = cc in
          (0, omega arith, λ l. here is l ∷ all_others q.name (sym ((bytes_eq-Decides q.name p.name.name).0 is)) qs differ.0 l)
      by_test rest false is at =
          let more = rest at in
          (suc more.0, omega (arith, more.1), λ l. others q (other_way q.name p.name.name is) l ∷ more.2 l)

abbrev pub AreApart : Option (List Procedure) → Type 0
AreApart None = Unit {0}
AreApart (Some qs) = AreDistinct (map (λ (q : Procedure). q.name) qs)

-- an interface has a procedure of the name
abbrev pub IsThere : Option (List Procedure) → List ℕ → Type 0
IsThere None name = Unit {0}
IsThere (Some qs) name = (k : ℕ) × (place_named (Some qs) name ≡ Some k)

pub placed_more : (order : Option (List Procedure)) (ps : Texts) (n : ℕ) (p : Text) → AreApart order → slice_get ps n ≡ Some p → take (n + 1) ps ≡ take n ps ++ p ∷ []
    → has_procedure (take n ps) p.name.name ≡ false → IsThere order p.name.name → placed order (n + 1) ps ≡ set (placed order n ps) (place_for order p.name.name n) (Some p)
placed_more None ps n p apart at more new there = first_more n ps p at
placed_more (Some qs) ps n p apart at more new there =
    let found = named_set (take n ps) p new qs 0 there.0 apart there.1 in
    let same : there.0 ≡ found.0 = omega (arith, found.1) in
    ap (λ done. map (λ (q : Procedure). named_in done q.name) qs) more
    ∙ found.2
    ∙ ap (λ k. set (map (λ (q : Procedure). named_in (take n ps) q.name) qs) k (Some p)) (sym same ∙ sym (ap (λ o. unwrap_or o 0) there.1))

-- ---- at the end

all_first : (n : ℕ) (ps : Texts) → length ps ≤ n → those_there (first n ps) ≡ ps
all_first n [] past = refl
all_first zero (p ∷ ps) past = absurd (omega arith)
all_first (suc n) (p ∷ ps) past = ap (λ xs. p ∷ xs) (all_first n ps (omega arith))

body_is : (ps : Texts) (name : List ℕ) → body_named ps name ≡ option_to_list (named_in ps name)
body_is [] name = refl
body_is (p ∷ ps) name = by_test (body_is ps name) (bytes_eq p.name.name name)
  where
    by_test : body_named ps name ≡ option_to_list (named_in ps name) → (b : Bool) → cond b (p ∷ []) (body_named ps name) ≡ option_to_list (cond b (Some p) (named_in ps name))
    by_test rest true = refl
    by_test rest false = rest

there_more : {X : Type 0} (o : Option X) (os : List (Option X)) → those_there (o ∷ os) ≡ option_to_list o ++ those_there os
there_more None os = refl
there_more (Some x) os = refl

pub there_append : {X : Type 0} (xs ys : List (Option X)) → those_there (xs ++ ys) ≡ those_there xs ++ those_there ys
there_append [] ys = refl
there_append (None ∷ xs) ys = there_append xs ys
there_append (Some x ∷ xs) ys = ap (λ zs. x ∷ zs) (there_append xs ys)

in_order_is : (qs : List Procedure) (ps : Texts) → those_there (map (λ (q : Procedure). named_in ps q.name) qs) ≡ in_order qs ps
in_order_is [] ps = refl
in_order_is (q ∷ qs) ps =
    there_more (named_in ps q.name) (map (λ (r : Procedure). named_in ps r.name) qs)
    ∙ (λ i. sym (body_is ps q.name) i ++ in_order_is qs ps i)

pub there_map : {X Y : Type 0} (f : X → Y) (os : List (Option X)) → those_there (map (option_map f) os) ≡ map f (those_there os)
there_map f [] = refl
there_map f (None ∷ os) = there_map f os
there_map f (Some x ∷ os) = ap (λ xs. f x ∷ xs) (there_map f os)

abbrev pub in_place : Option (List Procedure) → Texts → Texts
in_place None ps = ps
in_place (Some qs) ps = in_order qs ps

pub all_placed : (order : Option (List Procedure)) (ps : Texts) (n : ℕ) → length ps ≤ n → those_there (placed order n ps) ≡ in_place order ps
all_placed None ps n past = all_first n ps past
all_placed (Some qs) ps n past = ap (λ done. those_there (map (λ (q : Procedure). named_in done q.name) qs)) (take_all n ps past) ∙ in_order_is qs ps

-- ---- what bodies mean

-- one body more at its place
pub bodies_more : {B M : Type 0} (seen : B → M) (meant : Text → M) (order : Option (List Procedure)) (ps : Texts) (n : ℕ) (p : Text) (slots slots' : List (Option B)) (place : ℕ) (body : Option B)
    → AreApart order → slice_get ps n ≡ Some p → take (n + 1) ps ≡ take n ps ++ p ∷ [] → has_procedure (take n ps) p.name.name ≡ false → IsThere order p.name.name
    → slots' ≡ set slots place body → place ≡ place_for order p.name.name n → option_map seen body ≡ Some (meant p)
    → map (option_map seen) slots ≡ map (option_map meant) (placed order n ps) → map (option_map seen) slots' ≡ map (option_map meant) (placed order (n + 1) ps)
bodies_more seen meant order ps n p slots slots' place body apart at more new there put where_is means before =
    ap (map (option_map seen)) put ∙ map-set (option_map seen) slots place body
    ∙ (λ i. set (before i) (where_is i) (means i))
    ∙ sym (map-set (option_map meant) (placed order n ps) (place_for order p.name.name n) (Some p))
    ∙ ap (map (option_map meant)) (sym (placed_more order ps n p apart at more new there))

-- all bodies, in the order of the interface
pub bodies_all : {B M : Type 0} (seen : B → M) (meant : Text → M) (order : Option (List Procedure)) (ps : Texts) (n : ℕ) (slots : List (Option B)) (made : List B) → length ps ≤ n
    → made ≡ those_there slots → map (option_map seen) slots ≡ map (option_map meant) (placed order n ps) → map seen made ≡ map meant (in_place order ps)
bodies_all seen meant order ps n slots made past is told =
    ap (map seen) is ∙ sym (there_map seen slots) ∙ ap those_there told ∙ there_map meant (placed order n ps) ∙ ap (map meant) (all_placed order ps n past)
