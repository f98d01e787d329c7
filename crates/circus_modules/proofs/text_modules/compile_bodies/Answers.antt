use Rattle.std.proofs.Common.{sym, subst, ap, ◌∙◌, ◌<◌}
use Rattle.std.specs.Vec.Iter.{into_iter_items}
use Rattle.circus_value.specs.ExternalSize.{size_of_values}
use Rattle.circus_check.specs.Resolved.{body_as}
use Rattle.circus_modules.specs.Zeros.{zeros}
use Rattle.circus_modules.specs.Seen.Made.{IsSmall}
use Rattle.circus_modules.proofs.Making.{first_and_others, made_with}
use Rattle.circus_modules.proofs.text_modules.compile_bodies.Goals as goal

pub new-requires : goal.new-requires
new-requires c =
    let small = first_and_others IsSmall body_as (into_iter_items c.loop-body.body-iterator) (into_iter_items c.next.new.self) c.in-Some.body c.in-Some.ensures.steps.0 c.loop-body.invariant.left in
    subst (λ locals. size_of_values locals < 4294967296) (sym (c.in_ok-locals.ensures ∙ ap zeros c.as_slice.ensures)) small.0

pub loop-body-preserved : goal.loop-body-preserved
loop-body-preserved c =
    let small = first_and_others IsSmall body_as (into_iter_items c.loop-body.body-iterator) (into_iter_items c.next.new.self) c.in-Some.body c.in-Some.ensures.steps.0 c.loop-body.invariant.left in
    record {
      made =
          made_with c.loop-body.yielded c.in-Some.body c.loop-body.made c.push.new.self c.in_ok-new.field-0 c.in_ok-push.ensures.ok c.loop-body.invariant.made
          (record { statements = c.in_ok-new.ensures.statements; locals = c.in_ok-new.ensures.locals ∙ c.in_ok-locals.ensures ∙ ap zeros c.as_slice.ensures });
      left = small.1;
    }
