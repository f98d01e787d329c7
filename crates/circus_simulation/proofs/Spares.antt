-- The spares that are left, and how they become fewer.
use Rattle.std.proofs.Common.{◌≡◌, ℕ, zero, suc, ◌+◌, Bool, true, false, List, [], ◌∷◌, ◌++◌, set, drop, Some, refl, sym, ap, subst, ◌∙◌, arith, append_assoc, add-zero}
use Rattle.std.specs.Prelude.{not, ◌&&◌, if◌then◌else◌, slice_get}
use Rattle.circus_collate.specs.declared.deployment.Deployment.{Deployment}
use Rattle.circus_world.specs.WorldState.{Standing}
use Rattle.circus_world.specs.Legal.{is_spare}
use Rattle.circus_simulation.specs.Sampled.{spares_from}
use Rattle.circus_simulation.proofs.Places.{from_here}

no_and : (a : Bool) → (a && false) ≡ false
no_and true = refl
no_and false = refl

-- what a test of a node says
pub told_spare : (d seen : Deployment) (number : ℕ) (answer test : Bool) → seen ≡ d → answer ≡ is_spare seen number → answer ≡ test → is_spare d number ≡ test
told_spare d seen number answer test same is so = ap (λ e. is_spare e number) (sym same) ∙ sym is ∙ so

module _ {M : Type 0} where
  -- ---- a node that is told to join is left no longer

  abbrev told : Standing M → Standing M
  told s = record s { joins = true }

  -- the first of those that are left, from a number on
  pub record IsFirst (d : Deployment) (number : ℕ) (nodes : List (Standing M)) (spare : ℕ) (rest : List ℕ) : Type 0 where
    pub place : ℕ
    pub place_is : spare ≡ number + place
    pub s : Standing M
    pub there : slice_get nodes place ≡ Some s
    pub spare_is : is_spare d spare ≡ true
    pub joins : s.joins ≡ false
    pub left : spares_from d number (set nodes place (told s)) ≡ rest

  -- with a spare that is left, and without one, before those that are left
  here_or_on : (d : Deployment) (number : ℕ) (s : Standing M) (nodes : List (Standing M)) (spare : ℕ) (rest : List ℕ)
      → (spares_from d (number + 1) nodes ≡ spare ∷ rest → IsFirst d (number + 1) nodes spare rest)
      → (a b : Bool) → is_spare d number ≡ a → s.joins ≡ b
      → (if a && not b then number ∷ spares_from d (number + 1) nodes else spares_from d (number + 1) nodes) ≡ spare ∷ rest
      → IsFirst d number (s ∷ nodes) spare rest
  here_or_on d number s nodes spare rest on a b spare_is joins is = by_test a b spare_is joins is
    where
      later : (is_spare d number && not s.joins) ≡ false → spares_from d (number + 1) nodes ≡ spare ∷ rest → IsFirst d number (s ∷ nodes) spare rest
      later none is =
          let next = on is in
          let others = spares_from d (number + 1) (set nodes next.place (told next.s)) in
          record {
            place = suc next.place;
            place_is = omega (arith, next.place_is);
            s = next.s;
            there = next.there;
            spare_is = next.spare_is;
            joins = next.joins;
            left = ap (λ t. if t then number ∷ others else others) none ∙ next.left;
          }

      by_test : (a b : Bool) → is_spare d number ≡ a → s.joins ≡ b
          → (if a && not b then number ∷ spares_from d (number + 1) nodes else spares_from d (number + 1) nodes) ≡ spare ∷ rest
          → IsFirst d number (s ∷ nodes) spare rest
      by_test true false spare_is joins is =
          let same : number ≡ spare = cc in
          let others : spares_from d (number + 1) nodes ≡ rest = cc in
          record {
            place = 0;
            place_is = sym same ∙ sym (add-zero number);
            s = s;
            there = refl;
            spare_is = subst (λ n. is_spare d n ≡ true) same spare_is;
            joins = joins;
            left = ap (λ t. if t then number ∷ spares_from d (number + 1) nodes else spares_from d (number + 1) nodes) (no_and (is_spare d number)) ∙ others;
          }
      by_test true true spare_is joins is = later (ap (λ t. t && not s.joins) spare_is ∙ ap not joins) is
      by_test false b spare_is joins is = later (ap (λ t. t && not s.joins) spare_is) is

  pub first_left : (d : Deployment) (number : ℕ) (nodes : List (Standing M)) (spare : ℕ) (rest : List ℕ)
      → spares_from d number nodes ≡ spare ∷ rest → IsFirst d number nodes spare rest
  first_left d number [] spare rest is = absurd (let clash : ◌≡◌ {A = List ℕ} [] (spare ∷ rest) = is in cc)
  first_left d number (s ∷ nodes) spare rest is =
      here_or_on d number s nodes spare rest (first_left d (number + 1) nodes spare rest) (is_spare d number) s.joins refl refl is

  -- ---- other changes of nodes change nothing

  pub same_left : (d : Deployment) (number : ℕ) (nodes : List (Standing M)) (place : ℕ) (s t : Standing M) → slice_get nodes place ≡ Some s → t.joins ≡ s.joins
      → spares_from d number (set nodes place t) ≡ spares_from d number nodes
  same_left d number [] place s t there same = refl
  same_left d number (u ∷ nodes) zero s t there same =
      let is : u ≡ s = cc in
      let joins : t.joins ≡ u.joins = same ∙ ap (λ (x : Standing M). x.joins) (sym is) in
      ap (λ j. if is_spare d number && not j then number ∷ spares_from d (number + 1) nodes else spares_from d (number + 1) nodes) joins
  same_left d number (u ∷ nodes) (suc place) s t there same =
      ap (λ l. if is_spare d number && not u.joins then number ∷ l else l) (same_left d (number + 1) nodes place s t there same)

  -- ---- the spares node by node, where none was told to join

  abbrev those : Deployment → List (Standing M) → ℕ → List ℕ
  those d nodes number = spares_from d number (drop number nodes)

  here : (d : Deployment) (nodes : List (Standing M)) (number : ℕ) (s : Standing M) → slice_get nodes number ≡ Some s
      → those d nodes number ≡ (if is_spare d number && not s.joins then number ∷ those d nodes (number + 1) else those d nodes (number + 1))
  here d nodes number s there = ap (spares_from d number) (from_here nodes number s there)

  pub spare_found : (d : Deployment) (nodes : List (Standing M)) (number : ℕ) (s : Standing M) (found next whole : List ℕ) → slice_get nodes number ≡ Some s
      → s.joins ≡ false → is_spare d number ≡ true → next ≡ found ++ number ∷ []
      → found ++ those d nodes number ≡ whole → next ++ those d nodes (number + 1) ≡ whole
  spare_found d nodes number s found next whole there joins spare_is added so_far =
      let others = those d nodes (number + 1) in
      ap (λ l. l ++ others) added
      ∙ append_assoc found (number ∷ []) others
      ∙ sym (ap (λ t. found ++ (if t then number ∷ others else others)) (ap (λ t. t && not s.joins) spare_is ∙ ap not joins))
      ∙ ap (λ l. found ++ l) (sym (here d nodes number s there))
      ∙ so_far

  pub node_passed : (d : Deployment) (nodes : List (Standing M)) (number : ℕ) (s : Standing M) (found next whole : List ℕ) → slice_get nodes number ≡ Some s
      → is_spare d number ≡ false → next ≡ found → found ++ those d nodes number ≡ whole → next ++ those d nodes (number + 1) ≡ whole
  node_passed d nodes number s found next whole there spare_is same so_far =
      let others = those d nodes (number + 1) in
      ap (λ l. l ++ others) same
      ∙ sym (ap (λ t. found ++ (if t then number ∷ others else others)) (ap (λ t. t && not s.joins) spare_is))
      ∙ ap (λ l. found ++ l) (sym (here d nodes number s there))
      ∙ so_far
