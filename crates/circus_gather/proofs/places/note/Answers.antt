use Rattle.std.proofs.Common.{nat_eq, sym, ap, ◌∙◌}
use Rattle.std.proofs.lemmas.Result.{on_err_weaker}
use Rattle.std.specs.Map.{set_value}
use Rattle.std.proofs.lemmas.Map.Steps.{set_value_same}
use Rattle.circus_gather.proofs.places.note.Goals as goal

pub returns-in-Some-clause-err : goal.returns-in-Some-clause-err
returns-in-Some-clause-err c =
    on_err_weaker c.push.result (λ e.
    (c.get_mut.follows.holds c.push.new.self).0 ∙ ap (set_value (nat_eq c.args.index) c.args.places.now.entries) e
    ∙ set_value_same (nat_eq c.args.index) c.args.places.now.entries c.in-Some.of_index.now (sym c.in-Some.ensures.value)) c.push.ensures.err
