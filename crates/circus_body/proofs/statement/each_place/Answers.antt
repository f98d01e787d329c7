use Rattle.std.proofs.Common.{◌∙◌}
use Rattle.circus_resolve.specs.Seen.Scoped.{shape_as}
use Rattle.circus_resolve.specs.Seen.Wanted.{slots_as}
use Rattle.circus_body.specs.Seen.Named.{context_as}
use Rattle.circus_body.proofs.Listing.{place_step, place_meant_step}
use Rattle.circus_body.proofs.statement.each_place.Goals as goal

pub loop-number-preserved : goal.loop-number-preserved
loop-number-preserved c =
    let context = context_as c.args.context.now in
    let ps = c.as_slice-place-items.result.now in
    let i = c.loop-number.number in (
      place_step context (slots_as c.args.slots) i c.loop-number.found c.resolve_target.new.found ps i c.place-item.result (shape_as c.at.result) c.loop-number-test.true c.place-item.is c.at.ensures c.in_ok-resolve_target.ensures.found
          ∙ c.loop-number.invariant.0,
      place_meant_step context c.loop-number.made c.push.new.self ps i c.place-item.result c.in_ok-resolve_target.field-0 c.loop-number-test.true c.place-item.is c.in_ok-resolve_target.ensures.meant c.in_ok-push.ensures.ok
          ∙ c.loop-number.invariant.1,
    )
