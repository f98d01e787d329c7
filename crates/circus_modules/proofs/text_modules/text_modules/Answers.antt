use Rattle.std.specs.Vec.Iter.{into_iter_items}
use Rattle.circus_check.specs.Resolved.{module_as}
use Rattle.circus_modules.specs.Behaviours.{behaviour_of}
use Rattle.circus_modules.specs.Seen.Made.{CanBeMade}
use Rattle.circus_modules.proofs.Making.{first_and_others, image_more}
use Rattle.circus_modules.proofs.Modules.{seen_as}
use Rattle.circus_modules.proofs.text_modules.text_modules.Goals as goal

pub text_module-requires : goal.text_module-requires
text_module-requires c =
    (first_and_others (CanBeMade c.args.limit c.args.interfaces.now c.args.implemented.now) module_as (into_iter_items c.loop-module.module-iterator) (into_iter_items c.next.new.self) c.in-Some.«module» c.in-Some.ensures.steps.0 c.loop-module.invariant.left).0

pub loop-module-preserved : goal.loop-module-preserved
loop-module-preserved c =
    let can = first_and_others (CanBeMade c.args.limit c.args.interfaces.now c.args.implemented.now) module_as (into_iter_items c.loop-module.module-iterator) (into_iter_items c.next.new.self) c.in-Some.«module» c.in-Some.ensures.steps.0 c.loop-module.invariant.left in
    record {
      made =
          image_more seen_as (behaviour_of c.args.limit c.args.interfaces.now c.args.implemented.now) module_as c.loop-module.made.items c.push.new.self.items c.loop-module.yielded c.in_ok-text_module.field-0 c.in-Some.«module» c.in_ok-push.ensures.items
          c.loop-module.invariant.made c.in_ok-text_module.ensures;
      left = can.1;
    }
