-- The modules of a well formed program agree.
use Rattle.std.proofs.Common.{◌≡◌, ◌≤◌, ◌<◌, ℕ, zero, suc, Bool, true, false, List, [], ◌∷◌, Option, Some, None, map, refl, sym, ◌∙◌, ap, subst, inl, inr}
use Rattle.std.specs.Prelude.{Contains, slice_get, option_map}
use Rattle.std.proofs.lemmas.Option.{slice_get-map, same_Some}
use Rattle.circus_model.specs.declared.signature.Import.{Import}
use Rattle.circus_model.specs.Agree as agree
use Rattle.circus_model.specs.Agree.{Agree, IsOfEarlier, IsRoot, main_alone, itself, by_import}
use Rattle.circus_model.specs.Behaviour.{Behaviour}
use Rattle.circus_limits.specs.Limits.{most_bytes}
use Rattle.circus_fault.proofs.Items.{contains_first, contains_later, of_each}
use Rattle.circus_idl.specs.declared.interface.Interface.{Interface}
use Rattle.circus_check.specs.Meaning.{ModuleMeant}
use Rattle.circus_check.specs.WellFormed as checked
use Rattle.circus_check.specs.WellFormed.{IsAt, AreWellFormed, IsModule, HasBodies}
use Rattle.circus_check.proofs.Declared.{contains_cases}
use Rattle.circus_modules.specs.Signatures.{procedures_offered, interface_numbers, import_of}
use Rattle.circus_modules.specs.Behaviours.{behaviour_of, program_of}
use Rattle.circus_modules.proofs.Found.{contains_none}
use Rattle.circus_modules.proofs.Offered.{offered_at}

-- what stands at a place of images is the image of what stands there
record OfMap {X Y : Type 0} (f : X → Y) (xs : List X) (place : ℕ) (y : Y) : Type 0 where
  item : X
  there : slice_get xs place ≡ Some item
  is : y ≡ f item

of_map : {X Y : Type 0} (f : X → Y) (xs : List X) (place : ℕ) (y : Y) → slice_get (map f xs) place ≡ Some y → OfMap f xs place y
of_map f [] place y is = absurd (cc)
of_map f (x ∷ xs) zero y is = record { item = x; there = refl; is = sym (same_Some (f x) y is) }
of_map f (x ∷ xs) (suc n) y is = let o = of_map f xs n y is in record { item = o.item; there = o.there; is = o.is }

-- what is among images is the image of what is among the others
record Among {X Y : Type 0} (f : X → Y) (xs : List X) (y : Y) : Type 0 where
  item : X
  there : Contains xs item
  is : y ≡ f item

among_map : {X Y : Type 0} (f : X → Y) (xs : List X) (y : Y) → Contains (map f xs) y → Among f xs y
among_map f [] y there = absurd (contains_none y there)
among_map f (x ∷ xs) y there = elim (contains_cases (f x) (map f xs) y there) [
  | inl same ↦ record { item = x; there = contains_first x xs; is = sym same }
  | inr later ↦ let a = among_map f xs y later in record { item = a.item; there = contains_later x xs a.item a.there; is = a.is }
]

module _ (limit : ℕ) (interfaces : List Interface) (modules : List ModuleMeant) where
  -- a root has MAIN alone
  main_of : (m : ModuleMeant) (root : Bool) (number : Option ℕ) → root ≡ true → HasBodies interfaces modules m root number → procedures_offered interfaces number ≡ main_alone
  main_of m true None is has = refl
  main_of m true (Some n) is has = absurd has
  main_of m false number is has = absurd (cc)

  module _ (good : AreWellFormed interfaces modules) where
    program : List Behaviour
    program = program_of limit interfaces modules

    imports_agree : (place : ℕ) (b : Behaviour) (i : Import) → agree.IsAt program place b → Contains b.declared.imports i → IsOfEarlier program place i
    unfolding program
    imports_agree place b i at among =
        let o = of_map (behaviour_of limit interfaces (interface_numbers modules)) modules place b at in
        let a = among_map (import_of interfaces (interface_numbers modules)) o.item.imports i (subst (λ (x : Behaviour). Contains x.declared.imports i) o.is among) in
        let (earlier, other, there, no_root) = of_each (λ k. (k < place) × (other : ModuleMeant) × IsAt modules k other × (other.root ≡ false)) o.item.imports a.item (good.each place o.item o.there).imports a.there in
        let numbered : i.«module» ≡ a.item = ap (λ (x : Import). x.«module») a.is in
        record {
          imported = behaviour_of limit interfaces (interface_numbers modules) other;
          there =
              ap (slice_get (map (behaviour_of limit interfaces (interface_numbers modules)) modules)) numbered
              ∙ slice_get-map (behaviour_of limit interfaces (interface_numbers modules)) modules a.item
              ∙ ap (option_map (behaviour_of limit interfaces (interface_numbers modules))) there;
          earlier = subst (λ k. k < place) (sym numbered) earlier;
          no_root = no_root;
          procedures = ap (λ (x : Import). x.procedures) a.is ∙ offered_at interfaces modules a.item other there;
        }

    mains_agree : (place : ℕ) (b : Behaviour) → agree.IsAt program place b → b.declared.root ≡ true → b.declared.procedures ≡ main_alone
    unfolding program
    mains_agree place b at is =
        let o = of_map (behaviour_of limit interfaces (interface_numbers modules)) modules place b at in
        ap (λ (x : Behaviour). x.declared.procedures) o.is
        ∙ main_of o.item o.item.root o.item.interface (sym (ap (λ (x : Behaviour). x.declared.root) o.is) ∙ is) (good.each place o.item o.there).bodies

    -- what a module reaches by what modules declare it reaches by their imports
    reaches_by : (place end : ℕ) → agree.Reaches program place end → checked.Reaches interfaces modules place end
    unfolding program
    reaches_by _ _ (itself place) = checked.itself place
    reaches_by _ _ (by_import place end b i at among rest) =
        let o = of_map (behaviour_of limit interfaces (interface_numbers modules)) modules place b at in
        let a = among_map (import_of interfaces (interface_numbers modules)) o.item.imports i (subst (λ (x : Behaviour). Contains x.declared.imports i) o.is among) in
        let numbered : i.«module» ≡ a.item = ap (λ (x : Import). x.«module») a.is in
        checked.through place i.«module» end o.item o.there (subst (Contains o.item.imports) (sym numbered) a.there) (reaches_by i.«module» end rest)

    alone_agree : (one other place : ℕ) → IsRoot program one → IsRoot program other → agree.Reaches program one place → agree.Reaches program other place → one ≡ other
    unfolding program
    alone_agree one other place first second by_first by_second =
        let o = of_map (behaviour_of limit interfaces (interface_numbers modules)) modules one first.behaviour first.there in
        let p = of_map (behaviour_of limit interfaces (interface_numbers modules)) modules other second.behaviour second.there in
        good.alone place one other o.item p.item o.there p.there
        (sym (ap (λ (x : Behaviour). x.declared.root) o.is) ∙ first.root) (sym (ap (λ (x : Behaviour). x.declared.root) p.is) ∙ second.root)
        (reaches_by one place by_first) (reaches_by other place by_second)

    limits_agree : limit ≤ most_bytes → (place : ℕ) (b : Behaviour) → agree.IsAt program place b → b.declared.limit ≤ most_bytes
    unfolding program
    limits_agree within place b at =
        let o = of_map (behaviour_of limit interfaces (interface_numbers modules)) modules place b at in
        subst (λ (x : Behaviour). x.declared.limit ≤ most_bytes) (sym o.is) within

    pub modules_agree : limit ≤ most_bytes → Agree (program_of limit interfaces modules)
    unfolding program
    modules_agree within = record {
      imports = imports_agree;
      mains = mains_agree;
      limits = limits_agree within;
      one_root = alone_agree;
    }
