-- Tests that are made of conditions.
use Rattle.std.proofs.Common.{◌≡◌, ℕ, ◌-◌, ◌<◌, zero, suc, Bool, false, List, [], ◌∷◌, length, map, refl, sym, ◌∙◌, ap, arith}
use Rattle.std.specs.Prelude.{Option, Some, is_some, slice_get, slice_index, ◌&&◌, ◌||◌, not, All}
use Rattle.std.specs.List.{list_any}
use Rattle.std.specs.Option.{option_and_then}
use Rattle.std.proofs.lemmas.List.{length-map}
use Rattle.std.proofs.lemmas.List.Elements.{All-head, All-tail}
use Rattle.std.proofs.lemmas.Option.{slice_get-get_or}
use Rattle.circus_place.specs.declared.placing.Constant.{Constant}
use Rattle.circus_place.specs.declared.placing.Machine.{Machine}
use Rattle.circus_place.specs.declared.condition.Comparison.{Comparison}
use Rattle.circus_place.specs.declared.condition.Comparison.TheVariants.{Equal}
use Rattle.circus_place.specs.declared.condition.Operand.{Operand}
use Rattle.circus_place.specs.declared.condition.Operand.TheVariants.{Attribute, Fixed}
use Rattle.circus_place.specs.Obeys.{IsOfMember}
use Rattle.circus_place.specs.Value.{attribute_in, attribute_at, value_of, is_related, all_differ}
use Rattle.circus_place.specs.Seen.Table.{constant_at, AreTablesOf, values_at, flag_at, relates}
use Rattle.circus_place.specs.Seen.Test.{differs, member_of, ArePlaced}
use Rattle.circus_place.specs.declared.attributes.Attributes.{Attributes}
use Rattle.circus_place.specs.declared.relation.Relation.{Relation}
use Rattle.circus_place.proofs.Tables.{slice_get_at, relates_is, attribute_at_is}

same_length : (machines : List Machine) (tables : List Attributes) → AreTablesOf machines tables → length machines ≡ length tables
same_length machines tables are =
    sym (length-map machines (λ m. attribute_in m.attributes [])) ∙ sym (ap length (are [])) ∙ length-map tables (λ t. constant_at t [])

constant_there : (tables : List Attributes) (c : Constant) (i : ℕ) → i < length tables → slice_get (map (λ t. Some c) tables) i ≡ Some (Some c)
constant_there [] c i below = absurd (omega arith)
constant_there (t ∷ ts) c zero below = refl
constant_there (t ∷ ts) c (suc i) below = constant_there ts c i (omega arith)

-- the value of an operand stands at the machine of its member
pub value_there : (machines : List Machine) (tables : List Attributes) (members : ℕ) (choice : List ℕ) (a : Operand) → AreTablesOf machines tables → ArePlaced members (length machines) choice → 0 < members → IsOfMember members a
    → slice_get (values_at tables a) (slice_index choice (member_of a)) ≡ Some (value_of machines choice a)
value_there machines tables members choice (Attribute member name) are placed some of_member =
    ap (λ l. slice_get l (slice_index choice (member - 1))) (are name)
    ∙ attribute_at_is machines name (slice_index choice (member - 1)) (placed.1 (member - 1) 0 (omega arith))
    ∙ ap (λ (o : Option ℕ). Some (option_and_then (attribute_at machines name) o)) (sym (slice_get-get_or choice (member - 1) 0 (omega arith)))
value_there machines tables members choice (Fixed c) are placed some of_member =
    constant_there tables c (slice_index choice 0) (omega (arith, placed.1 0 0 (omega arith), same_length machines tables are))

pub related_is : (c : Comparison) (r : Relation) (machines : List Machine) (tables : List Attributes) (members : ℕ) (choice : List ℕ) (a b : Operand) (vs ws : List (Option Constant))
    → r.rows ≡ map (λ v. map (is_related c v) ws) vs → vs ≡ values_at tables a → ws ≡ values_at tables b
    → AreTablesOf machines tables → ArePlaced members (length machines) choice → 0 < members → IsOfMember members a → IsOfMember members b
    → relates r (slice_index choice (member_of a)) (slice_index choice (member_of b)) ≡ is_related c (value_of machines choice a) (value_of machines choice b)
related_is c r machines tables members choice a b vs ws rows vs_are ws_are are placed some left right =
    relates_is c r vs ws (slice_index choice (member_of a)) (slice_index choice (member_of b)) (value_of machines choice a) (value_of machines choice b) rows
    (ap (λ l. slice_get l (slice_index choice (member_of a))) vs_are ∙ value_there machines tables members choice a are placed some left)
    (ap (λ l. slice_get l (slice_index choice (member_of b))) ws_are ∙ value_there machines tables members choice b are placed some right)

-- Values that differ.

like_any : (same : Relation) (machines : List Machine) (name : List ℕ) (vs : List (Option Constant)) (m : ℕ) (ms : List ℕ) → same.rows ≡ map (λ v. map (is_related Equal v) vs) vs → vs ≡ map (λ x. attribute_in x.attributes name) machines
    → m < length machines → All (λ k. k < length machines) ms → list_any (relates same m) ms ≡ list_any (is_related Equal (attribute_at machines name m)) (map (attribute_at machines name) ms)
like_any same machines name vs m [] rows vs_are below all = refl
like_any same machines name vs m (k ∷ ks) rows vs_are below all =
    let at : (j : ℕ) → j < length machines → slice_get vs j ≡ Some (attribute_at machines name j) = λ j inside. ap (λ l. slice_get l j) vs_are ∙ attribute_at_is machines name j inside in
    let first = relates_is Equal same vs vs m k (attribute_at machines name m) (attribute_at machines name k) rows (at m below) (at k (All-head (λ j. j < length machines) k ks all)) in
    let others = like_any same machines name vs m ks rows vs_are below (All-tail (λ j. j < length machines) k ks all) in
    λ i. first i || others i

pub differs_is : (has : List Bool) (same : Relation) (machines : List Machine) (name : List ℕ) (vs : List (Option Constant)) (choice : List ℕ) → has ≡ map is_some vs → same.rows ≡ map (λ v. map (is_related Equal v) vs) vs
    → vs ≡ map (λ x. attribute_in x.attributes name) machines → All (λ k. k < length machines) choice → differs has same choice ≡ all_differ (map (attribute_at machines name) choice)
differs_is has same machines name vs [] has_is rows vs_are all = refl
differs_is has same machines name vs (m ∷ ms) has_is rows vs_are all =
    let below : m < length machines = All-head (λ j. j < length machines) m ms all in
    let later = All-tail (λ j. j < length machines) m ms all in
    let first : flag_at has m ≡ is_some (attribute_at machines name m) =
    ap (λ l. flag_at l m) has_is ∙ slice_get_at is_some vs m (attribute_at machines name m) false (ap (λ l. slice_get l m) vs_are ∙ attribute_at_is machines name m below) in
    let likes = like_any same machines name vs m ms rows vs_are below later in
    let others = differs_is has same machines name vs ms has_is rows vs_are later in
    λ i. first i && not (likes i) && others i
