use Rattle.std.proofs.Common.{◌≡◌, ◌+◌, ◌∙◌, ap, sym, map, drop, min, arith}
use Rattle.circus_value.specs.ShapeTree.{FieldTree}
use Rattle.circus_type.specs.declared.measuring.Measure.{Measure}
use Rattle.circus_type.specs.Meaning.{shape_of_type}
use Rattle.circus_type.specs.Seen.Measured.{measure_of_type}
use Rattle.circus_type.specs.Together.{zero_size_of}
use Rattle.circus_type.specs.Written.{zero_size}
use Rattle.circus_type.proofs.Dropped.{drop_more}
use Rattle.circus_type.proofs.Sizes.{measured_is}
use Rattle.circus_type.proofs.WholeTypes.{sizes_of}
use Rattle.circus_lang.specs.ModuleTree.{variable_of}
use Rattle.circus_check.specs.Faults.{fields_of}
use Rattle.circus_check.specs.Seen.Scoped.{size_in, form_in}
use Rattle.circus_check.proofs.VariablesFound.{zeros_step}
use Rattle.circus_check.proofs.variables.zero_bytes.Goals as goal

pub loop-variable-preserved : goal.loop-variable-preserved
loop-variable-preserved c =
    let old = c.loop-variable in
    let list = c.args.list.now in
    let forms = form_in c.args.scope.now in
    let v = variable_of c.variable-item.result in
    let field : FieldTree = record { name = v.name.name; shape = shape_of_type forms v.shape } in
    let rest = fields_of forms (map variable_of (drop (old.variable-index + 1) list)) in
    let left = drop_more list old.variable-index c.variable-item.result c.loop-variable-test.true c.variable-item.is in
    let sized : size_in c.args.scope.now ≡ sizes_of forms = λ j t. c.requires t j in
    let zeros : c.measure_of_type.result.zeros ≡ min (zero_size field.shape) 65537 =
    ap (λ (m : Measure). m.zeros) (c.measure_of_type.ensures ∙ ap (λ sizes. measure_of_type sizes v.shape) sized ∙ measured_is forms v.shape) in
    record {
      counted = zeros_step old.bytes c.measure_of_type.result.zeros c.min-bytes.result field rest _ zeros (omega (arith, c.min-bytes.ensures))
          (ap (λ vs. min (old.bytes + zero_size_of (fields_of forms (map variable_of vs))) 65537) (sym left) ∙ old.invariant.counted);
      small = omega (arith, c.min-bytes.ensures);
    }
