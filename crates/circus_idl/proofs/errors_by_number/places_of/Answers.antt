use Rattle.std.proofs.Common.{◌≡◌, false, true, is_some, nat_cmp, subst}
use Rattle.std.specs.List.{position_from}
use Rattle.std.specs.BTreeMap.{get}
use Rattle.circus_idl.specs.Shown.{has_number}
use Rattle.circus_idl.proofs.FirstPlace.{or_place, place_more, place_taken, place_kept}
use Rattle.circus_type.proofs.Dropped.{drop_more}
use Rattle.circus_idl.proofs.errors_by_number.places_of.Goals as goal
use Rattle.circus_idl.proofs.errors_by_number.places_of.Goals.{then-not-contains_key+in_ok-insert, else-not-contains_key}

pub loop-place-preserved : goal.loop-place-preserved
loop-place-preserved c = λ n.
    let e = c.index-errors-place.result in
    let i = c.loop-place.place in
    let m = c.loop-place.places in
    let left = drop_more c.args.errors.now i e c.loop-place-test.true c.index-errors-place.is in
    let before = subst (λ rest. or_place (get nat_cmp m n) (position_from (has_number n) i rest) ≡ position_from (has_number n) 0 c.args.errors.now) left (c.loop-place.invariant n) in
    elim c.if-not-contains_key.branch [
      | then-not-contains_key+in_ok-insert w ↦
          let absent : is_some (get nat_cmp m e.number) ≡ false = cc in
          rw w.places-is (place_more n i e _ (get nat_cmp m n) _ _ (place_taken m w.insert.new.self e.number i n w.in_ok-insert.ensures.updates absent) before)
      | else-not-contains_key w ↦
          let there : is_some (get nat_cmp m e.number) ≡ true = cc in
          rw w.places-is (place_more n i e _ (get nat_cmp m n) _ _ (place_kept m e.number i n there) before)
    ]
