use Rattle.std.proofs.Common.{ℕ, sym, ◌∙◌, subst, arith}
use Rattle.circus_place.specs.Seen.Test.{IsTestOf}
use Rattle.circus_place.proofs.Placed.{most_kept, are_for, found_is, found_best, found_kept, found_none}
use Rattle.circus_place.proofs.choice.place.Goals as goal

pub extend-requires-clause-ready : goal.extend-requires-clause-ready
extend-requires-clause-ready c = record {
  test = subst (λ (m : ℕ). IsTestOf m c.in_ok-test.test) (c.in_ok-new.ensures.members ∙ sym c.from.ensures) c.in_ok-test.ensures.of_members;
  few_members = omega (arith, c.from.ensures, c.requires.few_members);
  few_machines = omega (arith, c.in_ok-present.ensures.len, c.requires.few_machines);
  most = λ choice apart. omega (arith, most_kept c.args.placing.now c.in_ok-present.present c.in_ok-present.ensures.len c.in_ok-present.ensures.flags choice apart, c.len.ensures);
}

pub returns : goal.returns
returns c =
    let p = c.args.placing.now in
    let test = c.in_ok-test.test in
    let present = c.in_ok-present.present in
    let are = are_for p test present c.in_ok-new.field-0.machines.items c.in_ok-new.field-0.members c.in_ok-new.ensures.machines c.in_ok-new.ensures.members c.in_ok-test.ensures.same c.in_ok-present.ensures.flags in
    let champion =
    found_is p test present are c.extend.new.best _ _ _ c.in_ok-present.ensures.len (omega (arith, c.from.ensures, c.new-2.ensures.len)) c.new-2.ensures.items c.in_ok-extend.ensures.best in
    record {
      best = found_best p test present are c.extend.new.best champion;
      kept = found_kept p test present are c.extend.new.best champion;
      none = found_none p test present are c.extend.new.best champion;
    }
