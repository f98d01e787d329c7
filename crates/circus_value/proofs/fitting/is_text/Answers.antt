use Rattle.std.proofs.Common.{◌&&◌, ltb, length, sym, ap, ◌∙◌}
use Rattle.std.proofs.Math.Bool.{and-true}
use Rattle.circus_value.proofs.FitLemmas.{all_bytes, leb-ltb}
use Rattle.circus_value.proofs.fitting.is_text.Goals as goal

pub returns : goal.returns
returns c =
    let few = ltb (length c.args.bytes.now) 65536 in
    leb-ltb (length c.args.bytes.now) ∙ sym (and-true few) ∙ ap (λ b. few && b) (sym (all_bytes c.args.bytes.now c.type_inv.bytes))
