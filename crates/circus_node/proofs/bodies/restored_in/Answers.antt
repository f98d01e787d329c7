use Rattle.std.proofs.Common.{arith, subst, sym, ◌∙◌}
use Rattle.std.proofs.lemmas.Bool.{leb-true}
use Rattle.circus_value.specs.Parts.{AreOctets}
use Rattle.circus_model.specs.Lawful.{IsState}
use Rattle.circus_node.proofs.BodyLemmas.{state_given, if_then_some}
use Rattle.circus_node.proofs.bodies.restored_in.Goals as goal

pub returns-in-Ok-clause-state : goal.returns-in-Ok-clause-state
returns-in-Ok-clause-state c =
    if_then_some (λ r. IsState c.args.signature.now r.0) _ _ _ c.then_some.ensures
    (λ within. record {
      fits =
          state_given c.args.signature.now.variables c.as_slice.result.now c.in-Ok.state c.in-Ok.count _
          (subst AreOctets (sym (c.as_slice.ensures.value ∙ c.in_ok-bytes.ensures)) c.len.ensures.octets) c.in-Ok.ensures.exact;
      within = let less = leb-true _ _ within in omega (arith, less, c.values_size.ensures, c.from.ensures);
    })
