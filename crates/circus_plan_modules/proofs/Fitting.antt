-- Modules that agree and are proper, of which those are roots whose troupes are, are those of the troupes.
use Rattle.std.proofs.Common.{◌≡◌, ℕ, zero, suc, ◌<◌, ◌≤◌, Bool, true, false, List, [], ◌∷◌, length, map, Option, None, Some, refl, sym, ◌∙◌, ap, subst, arith}
use Rattle.std.specs.Prelude.{Contains, find, slice_get, option_map, ◌==◌, if◌then◌else◌}
use Rattle.std.specs.List.{AllByRecursion}
use Rattle.std.specs.Option.{option_map_or}
use Rattle.std.proofs.lemmas.Bool.Decides.{nat_tests}
use Rattle.std.proofs.lemmas.List.{length-map}
use Rattle.std.proofs.lemmas.Option.{slice_get-map, same_Some}
use Rattle.circus_fault.proofs.Items.{contains_first, contains_later}
use Rattle.circus_collate.specs.declared.deployment.Troupe.{Troupe}
use Rattle.circus_collate.specs.declared.deployment.Deployment.{Deployment}
use Rattle.circus_idl.specs.Obeys.{Obeys}
use Rattle.circus_idl.specs.declared.interface.Interface.{Interface}
use Rattle.circus_check.specs.Meaning.{ModuleMeant}
use Rattle.circus_check.specs.WellFormed.{AreWellFormed}
use Rattle.circus_limits.specs.Limits.{limit_of}
use Rattle.circus_model.specs.Agree.{Agree, IsAt}
use Rattle.circus_model.specs.Behaviour.{Behaviour}
use Rattle.circus_model.specs.Lawful.{import_of}
use Rattle.circus_model.specs.declared.signature.Import.{Import}
use Rattle.circus_modules.specs.Signatures.{interface_numbers}
use Rattle.circus_modules.specs.Behaviours.{behaviour_of, program_of}
use Rattle.circus_member_rules.specs.Proper.{AreProper}
use Rattle.circus_node.specs.Accepting.{is_root}
use Rattle.circus_node.specs.Booting.{IsOfTroupe, AreOfTroupes}
use Rattle.circus_plan_modules.proofs.Proper.{modules_proper}

-- what an image at a place is the image of
image_at : {X Y : Type 0} (f : X → Y) (xs : List X) (place : ℕ) (y : Y) → slice_get (map f xs) place ≡ Some y → (x : X) × (slice_get xs place ≡ Some x) × (f x ≡ y)
image_at f [] place y is = absurd (cc)
image_at f (x ∷ xs) zero y is = (x, refl, same_Some (f x) y is)
image_at f (x ∷ xs) (suc n) y is = image_at f xs n y is

-- the import of a module is among the imports
import_first : (b : Bool) (number : ℕ) (x : Import) (xs : List Import) (i : Import) → x.«module» == number ≡ b → (if b then Some x else find (λ (y : Import). y.«module» == number) xs) ≡ Some i
    → (find (λ (y : Import). y.«module» == number) xs ≡ Some i → Contains xs i × (i.«module» ≡ number)) → Contains (x ∷ xs) i × (i.«module» ≡ number)
import_first true number x xs i is found others =
    let same : x ≡ i = same_Some x i found in
    (subst (Contains (x ∷ xs)) same (contains_first x xs), ap (λ (y : Import). y.«module») (sym same) ∙ grind (arith, nat_tests))
import_first false number x xs i is found others = let (among, numbered) = others found in (contains_later x xs i among, numbered)

import_found : (number : ℕ) (is : List Import) (i : Import) → import_of number is ≡ Some i → Contains is i × (i.«module» ≡ number)
import_found number [] i found = absurd (cc)
import_found number (x ∷ xs) i found = import_first (x.«module» == number) number x xs i refl found (import_found number xs i)

module _ (d : Deployment) (program : List Behaviour) where
  -- a troupe is a root exactly where its module is one
  abbrev pub RootsAre : Type 0
  RootsAre = map (λ (t : Troupe). t.root) d.troupes ≡ map (λ (b : Behaviour). b.declared.root) program

  module _ (roots : RootsAre) (agree : Agree program) (within : (place : ℕ) (b : Behaviour) → IsAt program place b → b.declared.limit ≤ limit_of d.format)
      (are_proper : AreProper program) where
    root_kept : (place : ℕ) (b : Behaviour) → IsAt program place b → b.declared.root ≡ is_root d place
    root_kept place b at = by_troupe (slice_get d.troupes place) (
        sym (slice_get-map (λ (t : Troupe). t.root) d.troupes place)
        ∙ ap (λ l. slice_get l place) roots
        ∙ slice_get-map (λ (x : Behaviour). x.declared.root) program place
        ∙ ap (option_map (λ (x : Behaviour). x.declared.root)) at)
      where
        by_troupe : (o : Option Troupe) → option_map (λ (t : Troupe). t.root) o ≡ Some b.declared.root → b.declared.root ≡ option_map_or (λ (t : Troupe). t.root) o false
        by_troupe None is = absurd (cc)
        by_troupe (Some t) is = sym (same_Some t.root b.declared.root is)

    one_of : (place : ℕ) (b : Behaviour) → IsAt program place b → IsOfTroupe d place b.declared
    one_of place b at = record {
      root = root_kept place b at;
      main = agree.mains place b at;
      imports = λ callee i found.
          let (among, numbered) = import_found callee b.declared.imports i found in
          let of = agree.imports place b i at among in
          (subst (λ n. n < place) numbered of.earlier, subst (λ n. is_root d n ≡ false) numbered (sym (root_kept i.«module» of.imported of.there) ∙ of.no_root));
      limit = within place b at;
      proper = are_proper place b at;
    }

    pub of_troupes : AreOfTroupes d (map (λ (b : Behaviour). b.declared) program)
    of_troupes = record {
      one_each =
          length-map program (λ (b : Behaviour). b.declared)
          ∙ sym (length-map program (λ (b : Behaviour). b.declared.root))
          ∙ sym (ap length roots)
          ∙ length-map d.troupes (λ (t : Troupe). t.root);
      each = λ number signature at.
          let (b, there, is) = image_at (λ (b : Behaviour). b.declared) program number signature at in
          subst (IsOfTroupe d number) is (one_of number b there);
    }

-- ---- modules that are meant

roots_meant : (limit : ℕ) (interfaces : List Interface) (numbers : List (Option ℕ)) (ms : List ModuleMeant)
    → map (λ (b : Behaviour). b.declared.root) (map (behaviour_of limit interfaces numbers) ms) ≡ map (λ (m : ModuleMeant). m.root) ms
roots_meant limit interfaces numbers [] = refl
roots_meant limit interfaces numbers (m ∷ ms) = ap (λ roots. m.root ∷ roots) (roots_meant limit interfaces numbers ms)

limits_meant : (limit : ℕ) (interfaces : List Interface) (modules : List ModuleMeant) (place : ℕ) (b : Behaviour) → IsAt (program_of limit interfaces modules) place b → b.declared.limit ≤ limit
limits_meant limit interfaces modules place b at =
    let same : limit ≤ limit = omega (arith) in
    let (m, there, is) = image_at (behaviour_of limit interfaces (interface_numbers modules)) modules place b at in
    subst (λ (x : Behaviour). x.declared.limit ≤ limit) is same

declared_by : {M : Type 0} (behaviour : M → Behaviour) (modules : List M) → map (λ (b : Behaviour). b.declared) (map behaviour modules) ≡ map (λ m. (behaviour m).declared) modules
declared_by behaviour [] = refl
declared_by behaviour (m ∷ ms) = ap (λ l. (behaviour m).declared ∷ l) (declared_by behaviour ms)

-- modules that do what is meant, where the roots of a plan are those of its troupes
pub meant_of_troupes : {M : Type 0} (behaviour : M → Behaviour) (made : List M) (d : Deployment) (interfaces : List Interface) (modules : List ModuleMeant)
    → AllByRecursion Obeys interfaces → AreWellFormed interfaces modules
    → map (λ (t : Troupe). t.root) d.troupes ≡ map (λ (m : ModuleMeant). m.root) modules
    → map behaviour made ≡ program_of (limit_of d.format) interfaces modules → Agree (map behaviour made)
    → AreOfTroupes d (map (λ m. (behaviour m).declared) made)
meant_of_troupes behaviour made d interfaces modules obey good roots is agree =
    subst (AreOfTroupes d) (declared_by behaviour made)
    (of_troupes d (map behaviour made)
    (roots ∙ sym (roots_meant (limit_of d.format) interfaces (interface_numbers modules) modules) ∙ ap (map (λ (b : Behaviour). b.declared.root)) (sym is))
    agree
    (subst (λ p. (place : ℕ) (b : Behaviour) → IsAt p place b → b.declared.limit ≤ limit_of d.format) (sym is)
    (limits_meant (limit_of d.format) interfaces modules))
    (subst (λ (l : List Behaviour). AreProper l) (sym is) (modules_proper interfaces obey (limit_of d.format) modules good)))
