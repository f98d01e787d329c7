use Rattle.std.proofs.Common.{◌≡◌, map, false}
use Rattle.std.proofs.lemmas.Result.{on_ok_weaker}
use Rattle.circus_value.specs.ValueTree.{boolean}
use Rattle.circus_value.specs.ValueOf.{tree_of}
use Rattle.circus_evaluate.specs.Steps.{step_as}
use Rattle.circus_evaluate.specs.Putting.{with_put, with_put_item}
use Rattle.circus_evaluate.proofs.PutLemmas.{taken_out}
use Rattle.circus_evaluate.proofs.part.+putting.Goals as goal

pub put_within-returns : goal.put_within-returns
put_within-returns t c =
    let steps = map step_as c.args.steps.now in
    let old = tree_of c.in_ok-inner.inner in
    let new = tree_of c.put_in-done.new.value in
    let back : new ≡ with_put steps c.args.what old → c.replace-2.new.self ≡ with_put_item steps c.args.what c.args.place c.args.items.now =
    λ done. taken_out steps c.args.what c.args.place c.args.items.now c.replace.new.self c.replace-2.new.self (boolean false) old new c.in_ok-inner.ensures.old c.in_ok-inner.ensures.new done c.in_ok-replace.ensures.new in
    on_ok_weaker c.put_in-done.result back c.put_in-done.ensures
