-- Modules by their names, and those that a module imports.
use Rattle.std.proofs.Common.{◌≡◌, ◌≢◌, ℕ, zero, suc, ◌+◌, ◌<◌, ◌≤◌, Bool, true, false, cond, List, [], ◌∷◌, ◌++◌, refl, sym, ◌∙◌, ap, subst, arith, Option, Some, None}
use Rattle.std.specs.Prelude.{bytes_eq, nat_lt, slice_get, Contains}
use Rattle.std.specs.List.{AllByRecursion, position_from}
use Rattle.std.proofs.lemmas.Bool.{ltb-true, lt-ltb}
use Rattle.std.proofs.lemmas.Option.{same_Some}
use Rattle.circus_syntax.specs.declared.named.Named.{Named}
use Rattle.circus_syntax.proofs.Tokens.{bytes_eq-refl}
use Rattle.circus_fault.proofs.Items.{none_in, contains_first, contains_later}
use Rattle.circus_type.specs.Distinct.{AreDistinct}
use Rattle.circus_lang.specs.ModuleTree.{ModuleTree}
use Rattle.circus_check.specs.Naming.{Import, good, forward, no_module, is_root, module_named, import_at, import_of}
use Rattle.circus_check.specs.Scope.{import_named}
use Rattle.circus_check.specs.Faults.{is_later, import_fault, imports_faults}
use Rattle.circus_check.specs.Meaning.{import_number, import_numbers}

-- ---- places

module _ {X : Type 0} where
  pub all_by_place : (P : X → Type 0) (xs : List X) → ((k : ℕ) (x : X) → slice_get xs k ≡ Some x → P x) → AllByRecursion P xs
  all_by_place P [] each = tt
  all_by_place P (x ∷ xs) each = (each 0 x refl, all_by_place P xs (λ k y is. each (suc k) y is))

  pub at_place : (P : X → Type 0) (xs : List X) (k : ℕ) (x : X) → AllByRecursion P xs → slice_get xs k ≡ Some x → P x
  at_place P [] k x all is = absurd (cc)
  at_place P (y ∷ ys) zero x all is = subst P (same_Some y x is) all.0
  at_place P (y ∷ ys) (suc k) x all is = at_place P ys k x all.1 is

  pub distinct_by_place : (xs : List X) → ((i j : ℕ) (x y : X) → i < j → slice_get xs i ≡ Some x → slice_get xs j ≡ Some y → x ≢ y) → AreDistinct xs
  distinct_by_place [] apart = tt
  distinct_by_place (x ∷ xs) apart =
      (all_by_place (λ y. x ≢ y) xs (λ k y is. apart 0 (suc k) x y (omega arith) refl is), distinct_by_place xs (λ i j y z less is js. apart (suc i) (suc j) y z (omega (arith, less)) is js))

  -- what is found first stands there
  pub record FoundAt (test : X → Bool) (from : ℕ) (xs : List X) (n : ℕ) : Type 0 where
    pub place : ℕ
    pub item : X
    pub is : n ≡ from + place
    pub there : slice_get xs place ≡ Some item
    pub passes : test item ≡ true

  pub found_there : (test : X → Bool) (from : ℕ) (xs : List X) (n : ℕ) → position_from test from xs ≡ Some n → FoundAt test from xs n
  found_there test from [] n is = absurd (cc)
  found_there test from (x ∷ xs) n is = by (test x) refl is (λ found. found_there test (from + 1) xs n found)
    where
      by : (b : Bool) → test x ≡ b → cond b (Some from) (position_from test (from + 1) xs) ≡ Some n → (position_from test (from + 1) xs ≡ Some n → FoundAt test (from + 1) xs n) → FoundAt test from (x ∷ xs) n
      by true passes found later = record { place = 0; item = x; is = (let same : from ≡ n = same_Some from n found in omega arith); there = refl; passes = passes }
      by false fails found later =
          let f = later found in
          record { place = suc f.place; item = f.item; is = (let at : n ≡ from + 1 + f.place = f.is in omega arith); there = f.there; passes = f.passes }

  -- what passes at a place is found there or before
  pub found_by : (test : X → Bool) (from : ℕ) (xs : List X) (k : ℕ) (x : X) → slice_get xs k ≡ Some x → test x ≡ true → (n : ℕ) × (position_from test from xs ≡ Some n) × (n ≤ from + k)
  found_by test from [] k x is passes = absurd (cc)
  found_by test from (y ∷ ys) k x is passes = by (test y) refl k is (λ j there. found_by test (from + 1) ys j x there passes)
    where
      by : (b : Bool) → test y ≡ b → (k : ℕ) → slice_get (y ∷ ys) k ≡ Some x → ((j : ℕ) → slice_get ys j ≡ Some x → (n : ℕ) × (position_from test (from + 1) ys ≡ Some n) × (n ≤ from + 1 + j)) → (n : ℕ) × (cond (test y) (Some from) (position_from test (from + 1) ys) ≡ Some n) × (n ≤ from + k)
      by true here k is later = (from, ap (λ b. cond b (Some from) (position_from test (from + 1) ys)) here, omega arith)
      by false fails zero is later = absurd (let same : test y ≡ test x = ap test (same_Some y x is) in cc)
      by false fails (suc k) is later =
          let (n, found, within) = later k is in
          (n, ap (λ b. cond b (Some from) (position_from test (from + 1) ys)) fails ∙ found, omega (arith, within))

-- ---- modules

-- no module has the name of an earlier one
pub names_differ : (ms : List ModuleTree) → ((n : ℕ) (m : ModuleTree) → slice_get ms n ≡ Some m → is_later (module_named ms m.name.name) n ≡ false)
    → (i j : ℕ) (x y : ModuleTree) → i < j → slice_get ms i ≡ Some x → slice_get ms j ≡ Some y → x.name.name ≢ y.name.name
names_differ ms first i j x y less is js same =
    let (n, found, within) = found_by (λ (m : ModuleTree). bytes_eq m.name.name y.name.name) 0 ms i x is (ap (λ b. bytes_eq b y.name.name) same ∙ bytes_eq-refl y.name.name) in
    let later : nat_lt n j ≡ false = ap (λ o. is_later o j) (sym found) ∙ first j y js in
    let below : nat_lt n j ≡ true = lt-ltb n j (omega (arith, within, less)) in
    cc

-- an earlier module that is no root
pub record IsEarlier (modules : List ModuleTree) (importing k : ℕ) : Type 0 where
  pub below : k < importing
  pub other : ModuleTree
  pub there : slice_get modules k ≡ Some other
  pub no_root : other.root ≡ false

pub good_is_earlier : (modules : List ModuleTree) (importing : ℕ) (name : Named) (k : ℕ) → import_of modules importing name ≡ good k → IsEarlier modules importing k
good_is_earlier modules importing name k is = by (module_named modules name.name) refl is
  where
    some_root : (o : Option ModuleTree) (m : ModuleTree) → o ≡ Some m → is_root o ≡ false → m.root ≡ false
    some_root None m is not_root = absurd (cc)
    some_root (Some x) m is not_root = ap (λ (y : ModuleTree). y.root) (sym (same_Some x m is)) ∙ not_root

    earlier : (j : ℕ) → module_named modules name.name ≡ Some j → (root less : Bool) → is_root (slice_get modules j) ≡ root → nat_lt j importing ≡ less → cond root no_module (cond less (good j) forward) ≡ good k → IsEarlier modules importing k
    earlier j found true less root_is less_is same = absurd (cc)
    earlier j found false false root_is less_is same = absurd (cc)
    earlier j found false true root_is less_is same =
        let e : j ≡ k = cc in
        let f = found_there (λ (m : ModuleTree). bytes_eq m.name.name name.name) 0 modules j found in
        let at : f.place ≡ k = (let place : j ≡ 0 + f.place = f.is in omega arith) in
        let there : slice_get modules k ≡ Some f.item = ap (slice_get modules) (sym at) ∙ f.there in
        record { below = (let less : j < importing = ltb-true j importing less_is in omega arith); other = f.item; there = there; no_root = some_root (slice_get modules k) f.item there (ap (λ n. is_root (slice_get modules n)) (sym e) ∙ root_is) }

    by : (o : Option ℕ) → module_named modules name.name ≡ o → import_at modules importing o ≡ good k → IsEarlier modules importing k
    by None found same = absurd (cc)
    by (Some j) found same = earlier j found (is_root (slice_get modules j)) (nat_lt j importing) refl refl same

good_if_clean : (x : Import) (name : Named) → import_fault x name ≡ [] → (k : ℕ) × (x ≡ good k)
good_if_clean (good k) name none = (k, refl)
good_if_clean forward name none = absurd (cc)
good_if_clean no_module name none = absurd (cc)

-- imports without a fault
pub imports_are_earlier : (modules : List ModuleTree) (importing : ℕ) (ns : List Named) → imports_faults modules importing ns ≡ [] → AllByRecursion (IsEarlier modules importing) (import_numbers modules importing ns)
imports_are_earlier modules importing [] none = tt
imports_are_earlier modules importing (n ∷ ns) none =
    let (own, rest) = none_in (import_fault (import_of modules importing n) n) (imports_faults modules importing ns) none in
    let (k, is) = good_if_clean (import_of modules importing n) n own in
    subst (λ x. AllByRecursion (IsEarlier modules importing) (import_number x ++ import_numbers modules importing ns)) (sym is) (good_is_earlier modules importing n k is, imports_are_earlier modules importing ns rest)

-- the module that a name of an import stands for
pub record Imported (modules : List ModuleTree) (importing : ℕ) (ns : List Named) (x : Import) : Type 0 where
  pub number : ℕ
  pub is : x ≡ good number
  pub among : Contains (import_numbers modules importing ns) number
  pub earlier : IsEarlier modules importing number

pub imported : (modules : List ModuleTree) (importing : ℕ) (ns : List Named) (name : List ℕ) (x : Import) → imports_faults modules importing ns ≡ [] → import_named modules importing ns name ≡ Some x → Imported modules importing ns x
imported modules importing [] name x none is = absurd (cc)
imported modules importing (n ∷ ns) name x none is =
    let (own, rest) = none_in (import_fault (import_of modules importing n) n) (imports_faults modules importing ns) none in
    let (k, good_is) = good_if_clean (import_of modules importing n) n own in
    by (bytes_eq n.name name) k good_is rest is (λ same. imported modules importing ns name x rest same)
  where
    by : (b : Bool) (k : ℕ) → import_of modules importing n ≡ good k → imports_faults modules importing ns ≡ [] → cond b (Some (import_of modules importing n)) (import_named modules importing ns name) ≡ Some x → (import_named modules importing ns name ≡ Some x → Imported modules importing ns x) → Imported modules importing (n ∷ ns) x
    by true k good_is rest same later = record {
      number = k;
      is = sym (same_Some (import_of modules importing n) x same) ∙ good_is;
      among = subst (λ y. Contains (import_number y ++ import_numbers modules importing ns) k) (sym good_is) (contains_first k (import_numbers modules importing ns));
      earlier = good_is_earlier modules importing n k good_is;
    }
    by false k good_is rest same later =
        let i = later same in
        record {
          number = i.number;
          is = i.is;
          among = subst (λ y. Contains (import_number y ++ import_numbers modules importing ns) i.number) (sym good_is) (contains_later k (import_numbers modules importing ns) i.number i.among);
          earlier = i.earlier;
        }
