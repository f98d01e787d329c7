-- The nodes of a world, one by one.
use Rattle.std.proofs.Common.{◌≡◌, ℕ, ◌+◌, List, [], ◌∷◌, ◌++◌, map, take, get_or, Option, Some, refl, sym, ap, ◌∙◌, arith}
use Rattle.std.specs.Prelude.{slice_get, option_and_then}
use Rattle.std.proofs.lemmas.List.{take_more, map-append}
use Rattle.std.proofs.lemmas.Option.{slice_get_within, get_or_from_slice_get}
use Rattle.circus_world.specs.WorldState.{Standing}
use Rattle.circus_picture.specs.Deeds.{deeds_of_node, deeds_of}
use Rattle.circus_picture.proofs.Fronts.{front_more}

module _ {M : Type 0} (nodes : List (Standing M)) (node : ℕ) (s : Standing M) (at : slice_get nodes node ≡ Some s) where
  -- one crash more
  pub crashes-more : map (λ (t : Standing M). t.crashed) (take (node + 1) nodes)
      ≡ map (λ (t : Standing M). t.crashed) (take node nodes) ++ option_and_then (λ (t : Standing M). t.crashed) (slice_get nodes node) ∷ []
  crashes-more =
      let f : Standing M → Option ℕ = λ t. t.crashed in
      ap (map f) (take_more nodes node s (slice_get_within nodes node s at))
      ∙ map-append f (take node nodes) (get_or nodes node s ∷ [])
      ∙ ap (λ t. map f (take node nodes) ++ f t ∷ []) (get_or_from_slice_get nodes node s s at)
      ∙ ap (λ o. map f (take node nodes) ++ option_and_then f o ∷ []) (sym at)

  -- the deeds of one member more
  pub deeds-more : deeds_of 0 (take (node + 1) nodes) ≡ deeds_of 0 (take node nodes) ++ deeds_of_node node s
  deeds-more =
      front_more deeds_of deeds_of_node (λ n. refl) (λ n x xs. refl) 0 nodes node s
      (slice_get_within nodes node s at) (sym (get_or_from_slice_get nodes node s s at))
      ∙ ap (λ n. deeds_of 0 (take node nodes) ++ deeds_of_node n s) (omega arith)
