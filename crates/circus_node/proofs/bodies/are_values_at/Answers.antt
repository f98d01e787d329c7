use Rattle.std.proofs.Common.{◌≡◌, ◌≤◌, List, ℕ, length, drop, subst, arith, sym, ◌∙◌}
use Rattle.std.specs.Prelude.{Ok}
use Rattle.circus_external.specs.Reading.{fields_reading}
use Rattle.circus_transfer.specs.Snapshot.{fields_of}
use Rattle.circus_transfer.specs.Seen.Ending.{EndsAt}
use Rattle.circus_node.proofs.BodyLemmas.{stands_fit, end_given}
use Rattle.circus_node.proofs.bodies.are_values_at.Goals as goal

pub end_of_values-requires : goal.end_of_values-requires
end_of_values-requires c =
    let same : c.as_slice.result.now ≡ c.args.message.now = c.as_slice.ensures.value ∙ c.in_ok-bytes.ensures in
    subst (λ (l : List ℕ). c.args.at ≤ length l) (sym same) c.requires

pub returns-in-Ok-clause-found : goal.returns-in-Ok-clause-found
returns-in-Ok-clause-found c =
    let same : c.as_slice.result.now ≡ c.args.message.now = c.as_slice.ensures.value ∙ c.in_ok-bytes.ensures in
    let gives = subst (λ (l : List ℕ). EndsAt l (Ok c.in-Ok.end) (fields_reading (fields_of c.args.shapes.now) c.args.at (drop c.args.at l))) same c.in-Ok.ensures in
    rw c.len-len.ensures.value (end_given c.args.shapes.now c.args.most c.args.at c.in-Ok.end c.args.message.now (omega (arith, c.len-len.ensures.value, c.if-len-at.false)) gives)

pub returns-in-Ok-clause-fit : goal.returns-in-Ok-clause-fit
returns-in-Ok-clause-fit c = stands_fit c.args.shapes.now c.args.most c.args.at c.args.message.now c.len-len.ensures.octets
