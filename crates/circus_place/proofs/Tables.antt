-- What is looked up in tables.
use Rattle.std.proofs.Common.{◌≡◌, ◌≢◌, ℕ, ◌+◌, ◌<◌, zero, suc, Bool, true, false, cond, List, [], ◌∷◌, ◌++◌, length, get_or, take, map, refl, sym, ◌∙◌, ap, subst, arith}
use Rattle.std.specs.Prelude.{Option, Some, option_map, unwrap_or, slice_get, bytes_eq, AllPairs}
use Rattle.std.specs.List.{AllByRecursion}
use Rattle.std.proofs.lemmas.List.{take_more, map-append, get_or-take, get_or_default, length-take-le}
use Rattle.std.proofs.lemmas.List.Elements.{recursion_from_All}
use Rattle.std.proofs.lemmas.Option.{slice_get-map}
use Rattle.std.proofs.lemmas.Slice.Eq.{bytes_eq-Decides}
use Rattle.circus_place.specs.declared.placing.Attribute.{Attribute}
use Rattle.circus_place.specs.declared.placing.Constant.{Constant}
use Rattle.circus_place.specs.declared.placing.Machine.{Machine}
use Rattle.circus_place.specs.declared.condition.Comparison.{Comparison}
use Rattle.circus_place.specs.Value.{attribute_in, attribute_at, is_related}
use Rattle.circus_place.specs.Seen.Table.{constant_at, AreTablesOf, flag_at, relates}
use Rattle.circus_place.specs.declared.attributes.Attributes.{Attributes}
use Rattle.circus_place.specs.declared.relation.Relation.{Relation}

-- one more item of a list that is mapped twice
pub mapped_more : {A B C : Type 0} (f : B → C) (g : A → B) (xs : List A) (i : ℕ) (x : A) (done more : List C) (y : C) → i < length xs → x ≡ get_or xs i x
    → done ≡ map f (map g (take i xs)) → y ≡ f (g x) → more ≡ done ++ y ∷ [] → more ≡ map f (map g (take (i + 1) xs))
mapped_more f g xs i x done more y inside x_is done_is y_is more_is =
    more_is ∙ (λ j. done_is j ++ y_is j ∷ [])
    ∙ ap (λ z. map f (map g (take i xs)) ++ f (g z) ∷ []) x_is
    ∙ sym (map-append f (map g (take i xs)) (g (get_or xs i x) ∷ []))
    ∙ ap (map f) (sym (map-append g (take i xs) (get_or xs i x ∷ [])) ∙ ap (map g) (sym (take_more xs i x inside)))

-- Attributes.

-- the step of a loop that makes a table for each machine
pub tables_more : (machines : List Machine) (i : ℕ) (m : Machine) (done more : List Attributes) (t : Attributes) → i < length machines → m ≡ get_or machines i m → AreTablesOf (take i machines) done
    → ((name : List ℕ) → constant_at t name ≡ attribute_in m.attributes name) → more ≡ done ++ t ∷ [] → AreTablesOf (take (i + 1) machines) more
tables_more machines i m done more t inside m_is are made more_is = λ name.
    ap (map (λ x. constant_at x name)) more_is ∙ map-append (λ x. constant_at x name) done (t ∷ [])
    ∙ (λ j. are name j ++ made name j ∷ [])
    ∙ ap (λ x. map (λ y. attribute_in y.attributes name) (take i machines) ++ attribute_in x.attributes name ∷ []) m_is
    ∙ sym (map-append (λ y. attribute_in y.attributes name) (take i machines) (get_or machines i m ∷ []))
    ∙ ap (map (λ y. attribute_in y.attributes name)) (sym (take_more machines i m inside))

bytes_apart : (v w : List ℕ) → v ≢ w → bytes_eq v w ≡ false
bytes_apart v w apart = by_answer (bytes_eq v w) refl
  where
    by_answer : (b : Bool) → bytes_eq v w ≡ b → bytes_eq v w ≡ false
    by_answer true is = absurd (apart ((bytes_eq-Decides v w).0 is))
    by_answer false is = is

-- none of the attributes has the name
abbrev Lack : List ℕ → List Attribute → Type 0
Lack name others = AllByRecursion (λ a. a.name ≢ name) others

behind_first : (x a : Attribute) (name : List ℕ) (rest more : Option Constant) → x.name ≢ a.name → more ≡ cond (bytes_eq a.name name) (Some a.constant) rest → (b : Bool) → bytes_eq x.name name ≡ b
    → cond b (Some x.constant) more ≡ cond (bytes_eq a.name name) (Some a.constant) (cond b (Some x.constant) rest)
behind_first x a name rest more apart more_is true is =
    ap (λ b. cond b (Some a.constant) (Some x.constant)) (sym (bytes_apart a.name name (λ same. apart ((bytes_eq-Decides x.name name).0 is ∙ sym same))))
behind_first x a name rest more apart more_is false is = more_is

-- one more attribute, which has a name of its own, is found by its name alone
attribute_in-push : (others : List Attribute) (a : Attribute) (name : List ℕ) → Lack a.name others
    → attribute_in (others ++ a ∷ []) name ≡ cond (bytes_eq a.name name) (Some a.constant) (attribute_in others name)
attribute_in-push [] a name lacks = refl
attribute_in-push (x ∷ xs) a name lacks =
    behind_first x a name (attribute_in xs name) (attribute_in (xs ++ a ∷ []) name) lacks.0 (attribute_in-push xs a name lacks.1) (bytes_eq x.name name) refl

lack_earlier : (attributes : List Attribute) (i : ℕ) (d : Attribute) → i < length attributes → AllPairs (λ a b. a.name ≢ b.name) attributes → Lack (get_or attributes i d).name (take i attributes)
lack_earlier attributes i d inside apart =
    recursion_from_All (λ a. a.name ≢ (get_or attributes i d).name) (take i attributes)
    (λ k e below.
    let low : k < i = omega (arith, below, length-take-le i attributes (omega arith)) in
    subst (λ (a : Attribute). a.name ≢ (get_or attributes i d).name) (sym (get_or-take i attributes k e low ∙ get_or_default attributes k e d (omega arith)))
    (apart k i d low inside))

-- the step of a loop that puts attributes into a table
pub table_more : (attributes : List Attribute) (i : ℕ) (a : Attribute) (name : List ℕ) (old new : Option Constant) → i < length attributes → a ≡ get_or attributes i a → AllPairs (λ x y. x.name ≢ y.name) attributes
    → old ≡ attribute_in (take i attributes) name → new ≡ cond (bytes_eq a.name name) (Some a.constant) old → new ≡ attribute_in (take (i + 1) attributes) name
table_more attributes i a name old new inside a_is apart old_is new_is =
    new_is ∙ ap (cond (bytes_eq a.name name) (Some a.constant)) old_is
    ∙ sym (attribute_in-push (take i attributes) a name (subst (λ (x : Attribute). Lack x.name (take i attributes)) (sym a_is) (lack_earlier attributes i a inside apart)))
    ∙ ap (λ l. attribute_in l name) (ap (λ x. take i attributes ++ x ∷ []) a_is ∙ sym (take_more attributes i a inside))

pub option_map-cond : {A B : Type 0} (f : A → B) (b : Bool) (x : A) (o : Option A) → option_map f (cond b (Some x) o) ≡ cond b (Some (f x)) (option_map f o)
option_map-cond f true x o = refl
option_map-cond f false x o = refl

-- Relations.

pub slice_get_at : {A B : Type 0} (f : A → B) (xs : List A) (i : ℕ) (x : A) (d : B) → slice_get xs i ≡ Some x → unwrap_or (slice_get (map f xs) i) d ≡ f x
slice_get_at f xs i x d is = ap (λ o. unwrap_or o d) (slice_get-map f xs i ∙ ap (option_map f) is)

-- a relation that was made of values holds where they are related
pub relates_is : (c : Comparison) (r : Relation) (vs ws : List (Option Constant)) (i j : ℕ) (v w : Option Constant) → r.rows ≡ map (λ a. map (is_related c a) ws) vs → slice_get vs i ≡ Some v → slice_get ws j ≡ Some w
    → relates r i j ≡ is_related c v w
relates_is c r vs ws i j v w rows v_is w_is =
    ap (λ (rs : List (List Bool)). flag_at (unwrap_or (slice_get rs i) []) j) rows
    ∙ ap (λ row. flag_at row j) (slice_get_at (λ a. map (is_related c a) ws) vs i v [] v_is)
    ∙ slice_get_at (is_related c v) ws j w false w_is

-- what an attribute is at a machine
pub attribute_at_is : (machines : List Machine) (name : List ℕ) (m : ℕ) → m < length machines → slice_get (map (λ x. attribute_in x.attributes name) machines) m ≡ Some (attribute_at machines name m)
attribute_at_is [] name m below = absurd (omega arith)
attribute_at_is (x ∷ xs) name zero below = refl
attribute_at_is (x ∷ xs) name (suc m) below = attribute_at_is xs name m (omega arith)
