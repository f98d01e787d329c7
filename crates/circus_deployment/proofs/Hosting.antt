-- Which nodes host the members of a module.
use Rattle.std.proofs.Common.{◌≡◌, ◌≢◌, ℕ, zero, suc, ◌+◌, Bool, true, false, List, [], ◌∷◌, ◌++◌, length, map, refl, sym, ◌∙◌, ap, subst, arith, append-nil, Option, Some, None}
use Rattle.std.specs.Prelude.{slice_get, if◌then◌else◌}
use Rattle.std.specs.List.{AllByRecursion, flat_map}
use Rattle.std.proofs.lemmas.Bool.{eq-eqb, ne_eqb}
use Rattle.std.proofs.lemmas.List.{length-map}
use Rattle.circus_fault.specs.Known.{Known}
use Rattle.circus_type.specs.Distinct.{AreDistinct}
use Rattle.circus_troupe.specs.declared.deployment_text.HostText.{HostText}
use Rattle.circus_troupe.specs.declared.deployment_text.TroupeText.{TroupeText}
use Rattle.circus_collate.specs.declared.deployment.Host.{Host}
use Rattle.circus_collate.specs.Deployment.{hosts, hosting_from}
use Rattle.circus_deployment.specs.Nodes.{Numbered, hosts_of, numbered_from}
use Rattle.circus_deployment.specs.Meaning.{host_meant, module_of_troupe, hosts_meant, numbers_from}
use Rattle.circus_deployment.proofs.Clean.{troupe_name}

one_more : (b : Bool) (n : ℕ) (xs ys zs : List ℕ) → xs ≡ ys ++ zs → (if b then n ∷ xs else xs) ≡ (if b then n ∷ ys else ys) ++ zs
one_more true n xs ys zs is = ap (λ l. n ∷ l) is
one_more false n xs ys zs is = is

pub hosting_more : (n m : ℕ) (xs ys : List Host) → hosting_from n m (xs ++ ys) ≡ hosting_from n m xs ++ hosting_from (n + length xs) m ys
hosting_more n m [] ys = let same : n ≡ n + 0 = omega arith in ap (λ k. hosting_from k m ys) same
hosting_more n m (x ∷ xs) ys =
    let same : suc n + length xs ≡ n + length (x ∷ xs) = omega arith in
    one_more (hosts m x) n (hosting_from (suc n) m (xs ++ ys)) (hosting_from (suc n) m xs) (hosting_from (n + length (x ∷ xs)) m ys)
    (hosting_more (suc n) m xs ys ∙ ap (λ k. hosting_from (suc n) m xs ++ hosting_from k m ys) same)

-- all of them host it
hosting_own : (n m : ℕ) (hs : List HostText) → hosting_from n m (map (host_meant (Some m)) hs) ≡ numbers_from n (length hs)
hosting_own n m [] = refl
hosting_own n m (h ∷ hs) =
    let own : List ℕ = hosting_from (suc n) m (map (host_meant (Some m)) hs) in
    let next : suc n ≡ n + 1 = omega arith in
    ap (λ b. if b then n ∷ own else own) (eq-eqb m m refl) ∙ ap (λ l. n ∷ l) (hosting_own (suc n) m hs ∙ ap (λ k. numbers_from k (length hs)) next)

-- none of them hosts it
hosting_none : (n m : ℕ) (o : Option ℕ) (hs : List HostText) → (o ≡ Some m → ⊥) → hosting_from n m (map (host_meant o) hs) ≡ []
hosting_none n m o [] other = refl
hosting_none n m None (h ∷ hs) other = hosting_none (suc n) m None hs other
hosting_none n m (Some k) (h ∷ hs) other =
    let rest : List ℕ = hosting_from (suc n) m (map (host_meant (Some k)) hs) in
    ap (λ b. if b then n ∷ rest else rest) (ne_eqb k m (λ same. other (ap (λ i. Some i) same))) ∙ hosting_none (suc n) m (Some k) hs other

pub numbers_more : (n a b : ℕ) → numbers_from n (a + b) ≡ numbers_from n a ++ numbers_from (n + a) b
numbers_more n zero b =
    let front : 0 + b ≡ b = omega arith in
    let back : n ≡ n + 0 = omega arith in
    ap (λ k. numbers_from n k) front ∙ ap (λ k. numbers_from k b) back
numbers_more n (suc a) b =
    let more : suc a + b ≡ suc (a + b) = omega arith in
    let next : (n + 1) + a ≡ n + suc a = omega arith in
    ap (λ k. numbers_from n k) more ∙ ap (λ l. n ∷ l) (numbers_more (n + 1) a b ∙ ap (λ k. numbers_from (n + 1) a ++ numbers_from k b) next)

abbrev pub numbered_at : TroupeText → ℕ → Numbered
numbered_at t n = record { troupe = t; first = n }

pub numbered_in : (n : ℕ) (ts : List TroupeText) (k : ℕ) (x : Numbered) → slice_get (numbered_from n ts) k ≡ Some x → slice_get ts k ≡ Some x.troupe
numbered_in n [] k x is = absurd (cc)
numbered_in n (t ∷ ts) zero x is = let same : numbered_at t n ≡ x = cc in ap (λ (y : Numbered). Some y.troupe) same
numbered_in n (t ∷ ts) (suc k) x is = numbered_in (n + length (hosts_of t)) ts k x is

-- what holds of each holds of the one at a place
pub in_place : {X : Type 0} (P : X → Type 0) (xs : List X) → AllByRecursion P xs → (k : ℕ) (x : X) → slice_get xs k ≡ Some x → P x
in_place P [] all k x is = absurd (cc)
in_place P (y ∷ ys) all zero x is = let same : y ≡ x = cc in subst P same all.0
in_place P (y ∷ ys) all (suc k) x is = in_place P ys all.1 k x is

pub mapped_at : {X B : Type 0} (f : X → B) (xs : List X) (k : ℕ) (x : X) → slice_get xs k ≡ Some x → slice_get (map f xs) k ≡ Some (f x)
mapped_at f [] k x is = absurd (cc)
mapped_at f (y ∷ ys) zero x is = let same : y ≡ x = cc in ap (λ z. Some (f z)) same
mapped_at f (y ∷ ys) (suc k) x is = mapped_at f ys k x is

module _ (modules : Known) (m : ℕ) where
  -- it hosts the module only under this name
  abbrev pub Single : List ℕ → TroupeText → Type 0
  Single name t = module_of_troupe modules t ≡ Some m → t.name.name ≡ name

  others_host_none : (name : List ℕ) (ts : List TroupeText) → AllByRecursion (Single name) ts → AllByRecursion (λ y. name ≢ y) (map troupe_name ts) → (n : ℕ) → hosting_from n m (flat_map (hosts_meant modules) ts) ≡ []
  others_host_none name [] single differ n = refl
  others_host_none name (t ∷ ts) single differ n =
      hosting_more n m (hosts_meant modules t) (flat_map (hosts_meant modules) ts)
      ∙ ap (λ l. l ++ hosting_from (n + length (hosts_meant modules t)) m (flat_map (hosts_meant modules) ts)) (hosting_none n m (module_of_troupe modules t) (hosts_of t) (λ is. differ.0 (sym (single.0 is))))
      ∙ others_host_none name ts single.1 differ.1 (n + length (hosts_meant modules t))

  first_hosts : (t : TroupeText) (ts : List TroupeText) (n : ℕ) → AreDistinct (map troupe_name (t ∷ ts)) → AllByRecursion (Single t.name.name) ts → module_of_troupe modules t ≡ Some m
      → hosting_from n m (flat_map (hosts_meant modules) (t ∷ ts)) ≡ numbers_from n (length (hosts_of t))
  first_hosts t ts n distinct single is =
      hosting_more n m (hosts_meant modules t) (flat_map (hosts_meant modules) ts)
      ∙ ap (λ l. hosting_from n m (hosts_meant modules t) ++ l) (others_host_none t.name.name ts single distinct.0 (n + length (hosts_meant modules t)))
      ∙ append-nil (hosting_from n m (hosts_meant modules t))
      ∙ ap (λ o. hosting_from n m (map (host_meant o) (hosts_of t))) is
      ∙ hosting_own n m (hosts_of t)

  pub members_are : (ts : List TroupeText) (n k : ℕ) (x : Numbered) → AreDistinct (map troupe_name ts) → AllByRecursion (Single x.troupe.name.name) ts → module_of_troupe modules x.troupe ≡ Some m
      → slice_get (numbered_from n ts) k ≡ Some x → hosting_from n m (flat_map (hosts_meant modules) ts) ≡ numbers_from x.first (length (hosts_of x.troupe))
  members_are [] n k x distinct single is there = absurd (cc)
  members_are (t ∷ ts) n zero x distinct single is there =
      let same : numbered_at t n ≡ x = cc in
      let own : t ≡ x.troupe = ap (λ (y : Numbered). y.troupe) same in
      first_hosts t ts n distinct (subst (λ (u : TroupeText). AllByRecursion (Single u.name.name) ts) (sym own) single.1) (ap (module_of_troupe modules) own ∙ is)
      ∙ ap (λ (y : Numbered). numbers_from y.first (length (hosts_of y.troupe))) same
  members_are (t ∷ ts) n (suc k) x distinct single is there =
      let here = numbered_in (n + length (hosts_of t)) ts k x there in
      let apart_one = in_place (λ y. t.name.name ≢ y) (map troupe_name ts) distinct.0 k x.troupe.name.name (mapped_at troupe_name ts k x.troupe here) in
      let many : length (hosts_meant modules t) ≡ length (hosts_of t) = length-map (hosts_of t) (host_meant (module_of_troupe modules t)) in
      hosting_more n m (hosts_meant modules t) (flat_map (hosts_meant modules) ts)
      ∙ ap (λ l. l ++ hosting_from (n + length (hosts_meant modules t)) m (flat_map (hosts_meant modules) ts)) (hosting_none n m (module_of_troupe modules t) (hosts_of t) (λ own. apart_one (single.0 own)))
      ∙ ap (λ j. hosting_from (n + j) m (flat_map (hosts_meant modules) ts)) many
      ∙ members_are ts (n + length (hosts_of t)) k x distinct.1 single.1 is there
