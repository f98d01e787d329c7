use Rattle.std.proofs.Common.{◌∙◌, sym}
use Rattle.circus_value.specs.ValueEquality.{values_eq_decides}
use Rattle.circus_dues.proofs.following.are_same.Goals as goal

pub returns : goal.returns
returns c =
    let d = values_eq_decides c.args.one.now c.args.other.now in
    (λ is. d.0 (sym c.eq.ensures ∙ is), λ same. c.eq.ensures ∙ d.1 same)
