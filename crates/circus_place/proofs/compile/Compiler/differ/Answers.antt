use Rattle.std.proofs.Common.{Bool, List, ◌∙◌, ap, map}
use Rattle.std.specs.Prelude.{Option, is_some}
use Rattle.circus_place.specs.declared.placing.Constant.{Constant}
use Rattle.circus_place.specs.declared.condition.Comparison.TheVariants.{Equal}
use Rattle.circus_place.specs.Value.{is_related}
use Rattle.circus_place.specs.Seen.Table.{pointed_to}
use Rattle.circus_place.proofs.Compiled.{differs_is}
use Rattle.circus_place.proofs.compile.Compiler.differ.Goals as goal

-- each value beside each
abbrev compared : List (Option Constant) → List (Option Constant) → List (List Bool)
compared vs ws = map (λ v. map (is_related Equal v) ws) vs

pub returns-clause-same : goal.returns-clause-same
returns-clause-same c = λ machines choice are placed.
    differs_is c.in_ok-has.has c.in_ok-same.same machines c.args.name.now (pointed_to c.in_ok-values.values.items) choice
    (c.in_ok-has.ensures ∙ ap (λ vs. map is_some (pointed_to vs)) c.deref.ensures.value)
    (c.in_ok-same.ensures ∙ (λ i. compared (pointed_to (c.deref-2.ensures.value i)) (pointed_to (c.deref-3.ensures.value i))))
    (c.in_ok-values.ensures ∙ are c.args.name.now) placed.1
