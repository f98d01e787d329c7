-- What stands at the place of a name is the first of that name.
use Rattle.std.proofs.Common.{◌≡◌, ℕ, suc, ◌+◌, Bool, true, false, cond, List, [], ◌∷◌, Option, Some, None, option_map, slice_get, bytes_eq, refl, sym, ap, subst, ◌∙◌, arith, add-one}
use Rattle.std.specs.List.{position_from}
use Rattle.circus_value.specs.declared.shape.Label.{Label}
use Rattle.circus_value.specs.ShapeTree.{FieldTree, ArmTree, field_trees, arm_trees}
use Rattle.circus_resolve.specs.Named.{FieldFound, ArmFound, label_named, field_from, arm_named}

-- what a place leads to in a list whose first item has the place i: f of the place and of the item there
abbrev pub Leads : {X Y : Type 0} → (ℕ → X → Y) → ℕ → List X → Option ℕ → Option Y → Type 0
Leads f i xs None r = r ≡ None
Leads {X} f i xs (Some k) r = (j : ℕ) × (x : X) × (k ≡ i + j) × (slice_get xs j ≡ Some x) × (r ≡ Some (f k x))

leads_more : {X Y : Type 0} (f : ℕ → X → Y) (i : ℕ) (x : X) (xs : List X) (here : Bool) (place : Option ℕ) (r : Option Y) → Leads f (i + 1) xs place r → Leads f i (x ∷ xs) (cond here (Some i) place) (cond here (Some (f i x)) r)
leads_more f i x xs true place r later = (0, x, omega arith, refl, refl)
leads_more f i x xs false None r later = later
leads_more f i x xs false (Some k) r (j, y, is, at, found) = (suc j, y, omega (arith, is), at, found)

label_leads : (i : ℕ) (ls : List Label) (name : List ℕ) → Leads (λ _ l. l.number) i ls (position_from (λ l. bytes_eq l.name name) i ls) (label_named ls name)
label_leads i [] name = refl
label_leads i (l ∷ ls) name = leads_more (λ _ m. m.number) i l ls (bytes_eq l.name name) _ _ (label_leads (i + 1) ls name)

abbrev pub arm_at : ℕ → ArmTree → ArmFound
arm_at k a = record { number = a.number; shape = a.shape }

arm_leads : (i : ℕ) (rest : List ArmTree) (name : List ℕ) → Leads arm_at i rest (position_from (λ a. bytes_eq a.name name) i rest) (arm_named (arm_trees rest) name)
arm_leads i [] name = refl
arm_leads i (a ∷ rest) name = leads_more arm_at i a rest (bytes_eq a.name name) _ _ (arm_leads (i + 1) rest name)

abbrev pub field_at : ℕ → FieldTree → FieldFound
field_at k f = record { place = k; shape = f.shape }

field_leads : (i : ℕ) (fs : List FieldTree) (name : List ℕ) → Leads field_at i fs (position_from (λ f. bytes_eq f.name name) i fs) (field_from i (field_trees fs) name)
field_leads i [] name = refl
field_leads i (f ∷ fs) name =
    leads_more field_at i f fs (bytes_eq f.name name) _ _ (subst (λ k. Leads field_at (i + 1) fs (position_from (λ g. bytes_eq g.name name) (i + 1) fs) (field_from k (field_trees fs) name)) (add-one i) (field_leads (i + 1) fs name))

nowhere : {X Y : Type 0} (f : ℕ → X → Y) (xs : List X) (place : Option ℕ) (r : Option Y) → Leads f 0 xs place r → None ≡ place → None ≡ r
nowhere f xs place r leads is = sym (subst (λ p. Leads f 0 xs p r) (sym is) leads)

led : {X Y : Type 0} (f : ℕ → X → Y) (xs : List X) (place : Option ℕ) (r : Option Y) → Leads f 0 xs place r → (k : ℕ) → Some k ≡ place → (o : Option X) → o ≡ slice_get xs k → option_map (f k) o ≡ r
led f xs place r leads k is o at =
    let (j, x, same, found, result) = subst (λ p. Leads f 0 xs p r) (sym is) leads in
    let e : j ≡ k = omega (arith, same) in
    ap (option_map (f k)) (at ∙ ap (slice_get xs) (sym e) ∙ found) ∙ sym result

-- a label
pub no_label : (ls : List Label) (name : List ℕ) → None ≡ position_from (λ l. bytes_eq l.name name) 0 ls → None ≡ label_named ls name
no_label ls name = nowhere (λ _ l. l.number) ls _ _ (label_leads 0 ls name)

pub label_found : (ls : List Label) (name : List ℕ) (k : ℕ) → Some k ≡ position_from (λ l. bytes_eq l.name name) 0 ls → (o : Option Label) → o ≡ slice_get ls k → option_map (λ l. l.number) o ≡ label_named ls name
label_found ls name = led (λ _ l. l.number) ls _ _ (label_leads 0 ls name)

-- a field
pub no_field : (fs : List FieldTree) (name : List ℕ) → None ≡ position_from (λ f. bytes_eq f.name name) 0 fs → None ≡ field_from 0 (field_trees fs) name
no_field fs name = nowhere field_at fs _ _ (field_leads 0 fs name)

pub field_found : (fs : List FieldTree) (name : List ℕ) (k : ℕ) → Some k ≡ position_from (λ f. bytes_eq f.name name) 0 fs → (o : Option FieldTree) → o ≡ slice_get fs k → option_map (field_at k) o ≡ field_from 0 (field_trees fs) name
field_found fs name = led field_at fs _ _ (field_leads 0 fs name)

-- an arm
pub no_arm : (rest : List ArmTree) (name : List ℕ) → None ≡ position_from (λ a. bytes_eq a.name name) 0 rest → None ≡ arm_named (arm_trees rest) name
no_arm rest name = nowhere arm_at rest _ _ (arm_leads 0 rest name)

pub arm_found : (rest : List ArmTree) (name : List ℕ) (k : ℕ) → Some k ≡ position_from (λ a. bytes_eq a.name name) 0 rest → (o : Option ArmTree) → o ≡ slice_get rest k → option_map (arm_at k) o ≡ arm_named (arm_trees rest) name
arm_found rest name = led arm_at rest _ _ (arm_leads 0 rest name)
