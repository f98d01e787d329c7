-- A node that hosts a member is a spare of its troupe exactly where it is no founder.
use Rattle.std.specs.Prelude.{nat_eq, slice_get, option_and_then}
use Rattle.std.specs.Option.{option_map_or}
use Rattle.std.proofs.Common.{◌≡◌, ℕ, zero, suc, ◌+◌, ◌≤◌, Bool, true, false, ◌||◌, if◌then◌else◌, List, [], ◌∷◌, ◌++◌, Option, None, Some, refl, sym, ap, subst, ◌∙◌, arith, eq-eqb}
use Rattle.std.proofs.lemmas.Bool.{eqb-true}
use Rattle.circus_value.specs.Among.{is_among}
use Rattle.circus_collate.specs.Deployment.{IsDeployment, hosts, hosting_from}
use Rattle.circus_collate.specs.declared.deployment.Deployment.{Deployment}
use Rattle.circus_collate.specs.declared.deployment.Host.{Host}
use Rattle.circus_collate.specs.declared.deployment.Troupe.{Troupe}
use Rattle.circus_node.specs.Accepting.{troupe_at}
use Rattle.circus_performing.proofs.Records.{none_is_some}
use Rattle.circus_world.specs.Legal.{is_spare}

or_right : (a : Bool) → (a || true) ≡ true
or_right true = refl
or_right false = refl

among_behind : (xs ys : List ℕ) (n : ℕ) → is_among ys n ≡ true → is_among (xs ++ ys) n ≡ true
among_behind [] ys n is = is
among_behind (x ∷ xs) ys n is = ap (λ b. nat_eq x n || b) (among_behind xs ys n is) ∙ or_right (nat_eq x n)

-- the numbers begin at the first one
among_low : (from m : ℕ) (nodes : List Host) (n : ℕ) → is_among (hosting_from from m nodes) n ≡ true → from ≤ n
among_low from m [] n is = cc
among_low from m (h ∷ hs) n is = by_host (hosts m h) is (among_low (suc from) m hs n)
  where
    by_node : (b : Bool) → nat_eq from n ≡ b → (b || is_among (hosting_from (suc from) m hs) n) ≡ true → (is_among (hosting_from (suc from) m hs) n ≡ true → suc from ≤ n) → from ≤ n
    by_node true same e rest = (let here : from ≡ n = eqb-true from n same in omega (arith, here))
    by_node false same e rest = (let low = rest e in omega (arith, low))

    by_host : (b : Bool) → is_among (if b then from ∷ hosting_from (suc from) m hs else hosting_from (suc from) m hs) n ≡ true
        → (is_among (hosting_from (suc from) m hs) n ≡ true → suc from ≤ n) → from ≤ n
    by_host true e rest = by_node (nat_eq from n) refl e rest
    by_host false e rest = (let low = rest e in omega (arith, low))

-- who hosts is among them
among_there : (from m : ℕ) (nodes : List Host) (k : ℕ) (h : Host) → slice_get nodes k ≡ Some h → hosts m h ≡ true → is_among (hosting_from from m nodes) (from + k) ≡ true
among_there from m [] k h at is = absurd (none_is_some at)
among_there from m (x ∷ nodes) zero h at is =
    let same : x ≡ h = cc in
    ap (λ b. is_among (if b then from ∷ hosting_from (suc from) m nodes else hosting_from (suc from) m nodes) (from + 0)) (ap (hosts m) same ∙ is)
    ∙ ap (λ b. b || is_among (hosting_from (suc from) m nodes) (from + 0)) (eq-eqb from (from + 0) (omega arith))
among_there from m (x ∷ nodes) (suc k) h at is =
    by_host (hosts m x)
    (subst (λ n. is_among (hosting_from (suc from) m nodes) n ≡ true) (let e : suc from + k ≡ from + suc k = omega arith in e) (among_there (suc from) m nodes k h at is))
  where
    by_host : (b : Bool) → is_among (hosting_from (suc from) m nodes) (from + suc k) ≡ true
        → is_among (if b then from ∷ hosting_from (suc from) m nodes else hosting_from (suc from) m nodes) (from + suc k) ≡ true
    by_host true e = ap (λ b. nat_eq from (from + suc k) || b) e ∙ or_right (nat_eq from (from + suc k))
    by_host false e = e

-- nobody is among them twice
not_twice : (from m : ℕ) (nodes : List Host) (xs ys : List ℕ) (n : ℕ) → xs ++ ys ≡ hosting_from from m nodes → is_among xs n ≡ true → is_among ys n ≡ true → ⊥
not_twice from m nodes [] ys n are front back = absurd (let clash : false ≡ true = front in cc)
not_twice from m [] (x ∷ xs) ys n are front back = absurd (let clash : ◌≡◌ {A = List ℕ} (x ∷ xs ++ ys) [] = are in cc)
not_twice from m (h ∷ hs) (x ∷ xs) ys n are front back =
    by_host (λ rest among. not_twice (suc from) m hs xs ys n rest among back) (λ same. not_twice (suc from) m hs (x ∷ xs) ys n same front back) (hosts m h) are
  where
    by_node : (xs ++ ys ≡ hosting_from (suc from) m hs → is_among xs n ≡ true → ⊥) → (b : Bool) → nat_eq x n ≡ b → x ≡ from → xs ++ ys ≡ hosting_from (suc from) m hs → (b || is_among xs n) ≡ true → ⊥
    by_node later true same first rest e =
        let here : x ≡ n = eqb-true x n same in
        let low = among_low (suc from) m hs n (ap (λ l. is_among l n) (sym rest) ∙ among_behind xs ys n back) in
        omega (arith, here, first, low)
    by_node later false same first rest e = later rest e

    by_host : (xs ++ ys ≡ hosting_from (suc from) m hs → is_among xs n ≡ true → ⊥) → (x ∷ xs ++ ys ≡ hosting_from (suc from) m hs → ⊥) → (b : Bool) → x ∷ xs ++ ys ≡ (if b then from ∷ hosting_from (suc from) m hs else hosting_from (suc from) m hs) → ⊥
    by_host later other true e = (let first : x ≡ from = cc in let rest : xs ++ ys ≡ hosting_from (suc from) m hs = cc in by_node later (nat_eq x n) refl first rest front)
    by_host later other false e = other e

among_either : (xs ys : List ℕ) (n : ℕ) → is_among (xs ++ ys) n ≡ true → is_among xs n ≡ false → is_among ys n ≡ true
among_either [] ys n is none = is
among_either (x ∷ xs) ys n is none = by_node (among_either xs ys n) (nat_eq x n) is none
  where
    by_node : (is_among (xs ++ ys) n ≡ true → is_among xs n ≡ false → is_among ys n ≡ true) → (b : Bool) → (b || is_among (xs ++ ys) n) ≡ true → (b || is_among xs n) ≡ false → is_among ys n ≡ true
    by_node later true e apart = absurd (let clash : true ≡ false = apart in cc)
    by_node later false e apart = later e apart

module _ (d : Deployment) (good : IsDeployment d) (node number : ℕ) (troupe : Troupe) (hosted : troupe_at d node ≡ Some number) (there : slice_get d.troupes number ≡ Some troupe) where
  spare_is : is_spare d node ≡ is_among troupe.spares node
  spare_is =
      ap (λ o. option_map_or (λ (t : Troupe). is_among t.spares node) (option_and_then (slice_get d.troupes) o) false) hosted
      ∙ ap (λ o. option_map_or (λ (t : Troupe). is_among t.spares node) o false) there

  members : troupe.founders ++ troupe.spares ≡ hosting_from 0 number d.nodes
  members = (good.troupes number troupe there).members

  among : is_among (hosting_from 0 number d.nodes) node ≡ true
  among = by_host (slice_get d.nodes node) refl hosted
    where
      by_host : (o : Option Host) → slice_get d.nodes node ≡ o → option_and_then (λ (h : Host). h.module) o ≡ Some number → is_among (hosting_from 0 number d.nodes) node ≡ true
      by_host None at e = absurd (none_is_some e)
      by_host (Some h) at e =
          subst (λ n. is_among (hosting_from 0 number d.nodes) n ≡ true) (let same : 0 + node ≡ node = omega arith in same)
          (among_there 0 number d.nodes node h at (ap (λ (o : Option ℕ). option_map_or (λ n. nat_eq n number) o false) e ∙ eq-eqb number number refl))

  pub spare_no_founder : is_among troupe.founders node ≡ false → is_spare d node ≡ true
  spare_no_founder apart = spare_is ∙ among_either troupe.founders troupe.spares node (ap (λ l. is_among l node) members ∙ among) apart

  pub founder_no_spare : is_among troupe.founders node ≡ true → is_spare d node ≡ false
  founder_no_spare is = spare_is ∙ by_test (is_among troupe.spares node) refl
    where
      by_test : (b : Bool) → is_among troupe.spares node ≡ b → b ≡ false
      by_test true spare = absurd (not_twice 0 number d.nodes troupe.founders troupe.spares node members is spare)
      by_test false spare = refl
