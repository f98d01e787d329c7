use Rattle.std.proofs.Common.{◌≡◌, false, true, is_some, subst, sym, ◌∙◌, ap, ◌∷◌, ◌+◌, drop, Bool, bytes_eq}
use Rattle.std.specs.List.{position_from}
use Rattle.circus_value.specs.Seen.NamePlaces.{place_in}
use Rattle.std.proofs.lemmas.List.{drop_more}
use Rattle.circus_value.proofs.NameItems.{or_place, place_more, place_taken, place_kept}
use Rattle.circus_value.proofs.name_index.places_of.Goals as goal
use Rattle.circus_value.proofs.name_index.places_of.Goals.{then-not-contains_key+in_ok-from_slice+in_ok-insert, else-not-contains_key}

pub loop-place-preserved : goal.loop-place-preserved
loop-place-preserved g c = λ name.
    let x = c.index-items-place.result in
    let bs = g.T.HasName.name_of x in
    let i = c.loop-place.place in
    let m = c.loop-place.places in
    let test : g.row.T.Denot → Bool = λ y. bytes_eq (g.T.HasName.name_of y) name in
    let left = drop_more c.args.items.now i x c.loop-place-test.true ∙ ap (λ y. y ∷ drop (i + 1) c.args.items.now) (sym c.index-items-place.is) in
    let before = subst (λ rest. or_place (place_in m name) (position_from test i rest) ≡ position_from test 0 c.args.items.now) left (c.loop-place.invariant name) in
    let known = ap (λ cs. is_some (place_in m cs)) (sym c.name-name.ensures) ∙ sym c.contains_key.ensures in
    elim c.if-not-contains_key.branch [
      | then-not-contains_key+in_ok-from_slice+in_ok-insert w ↦
          let same : w.in_ok-from_slice.field-0.items ≡ bs = w.in_ok-from_slice.ensures.items ∙ c.name-name.ensures in
          let absent : is_some (place_in m bs) ≡ false = known ∙ w.if-not-contains_key.true in
          rw w.places-is (place_more test i x _ (place_in m name) _ _ (place_taken w.in_ok-from_slice.field-0 bs m w.insert.new.self i same w.in_ok-insert.ensures.updates absent name) before)
      | else-not-contains_key w ↦
          let there : is_some (place_in m bs) ≡ true = known ∙ w.if-not-contains_key.false in
          rw w.places-is (place_more test i x _ (place_in m name) _ _ (place_kept m bs i there name) before)
    ]
