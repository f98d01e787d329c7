use Rattle.std.proofs.Common.{◌≡◌, ◌<◌, length, sym, ap, ◌∙◌, subst, slice_set}
use Rattle.circus_ring.specs.RingTable.{Kept, troupe_of}
use Rattle.circus_ring.proofs.Performing.{there, answered_behind, added_behind}
use Rattle.circus_ring.proofs.ring.Ring.perform.Goals as goal

pub returns-clause-answer : goal.returns-clause-answer
returns-clause-answer c troupes requests stands =
    let asked = troupe_of c.args.request.now in
    let place : c.from-place.result ≡ asked = cc in
    let bound : asked < length c.self.inside.troupes = subst (λ (k : Kept). asked < length k.troupes) (sym c.self.view_is) c.requires in
    let bound_view : asked < length c.self.inside.views = subst (λ n. asked < n) (sym c.self.invariant) bound in
    let has_troupe = there c.as_slice.result.now c.self.inside.troupes c.from-place.result asked c.index-as_slice-place.result c.as_slice.ensures place bound c.index-as_slice-place.is in
    let has_view = there c.as_slice-2.result.now c.self.inside.views c.from-place.result asked c.index-as_slice-place-2.result c.as_slice-2.ensures place bound_view c.index-as_slice-place-2.is in
    answered_behind (record { troupes = c.self.inside.troupes; views = c.self.inside.views }) troupes requests c.args.request.now c.index-as_slice-place.result c.index-as_slice-place-2.result c.in_ok-table.table has_troupe has_view c.in_ok-table.ensures (c.self.view_is ∙ stands)

pub returns-clause-added : goal.returns-clause-added
returns-clause-added c troupes requests stands =
    let asked = troupe_of c.args.request.now in
    let place : c.from-place.result ≡ asked = cc in
    let bound : asked < length c.self.inside.troupes = subst (λ (k : Kept). asked < length k.troupes) (sym c.self.view_is) c.requires in
    let bound_view : asked < length c.self.inside.views = subst (λ n. asked < n) (sym c.self.invariant) bound in
    let has_troupe = there c.as_slice.result.now c.self.inside.troupes c.from-place.result asked c.index-as_slice-place.result c.as_slice.ensures place bound c.index-as_slice-place.is in
    let has_view = there c.as_slice-2.result.now c.self.inside.views c.from-place.result asked c.index-as_slice-place-2.result c.as_slice-2.ensures place bound_view c.index-as_slice-place-2.is in
    let views : c.set.new.self ≡ slice_set c.self.inside.views asked c.in_ok-table.table.view =
    c.set.ensures ∙ ap (λ i. slice_set c.self.inside.views i c.in_ok-after.after) place ∙ ap (slice_set c.self.inside.views asked) c.in_ok-after.ensures in
    let set : record { troupes = c.self.inside.troupes; views = c.set.new.self } ≡ record { troupes = c.self.inside.troupes; views = slice_set c.self.inside.views asked c.in_ok-table.table.view } = ap (λ vs. record { troupes = c.self.inside.troupes; views = vs }) views in
    set ∙ added_behind (record { troupes = c.self.inside.troupes; views = c.self.inside.views }) troupes requests c.args.request.now c.index-as_slice-place.result c.index-as_slice-place-2.result c.in_ok-table.table has_troupe has_view c.in_ok-table.ensures (c.self.view_is ∙ stands)
