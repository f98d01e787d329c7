use Rattle.std.proofs.Common.{refl, sym, rules}
use Rattle.std.proofs.Output.{has_written_append, has_written_of_eq}
use Rattle.std.specs.List.{flat_map}
use Rattle.circus_record.proofs.LinesMore.{more_from_none}
use Rattle.circus_serve.specs.NodeText.{differ_line}
use Rattle.circus_serve.proofs.differ.DifferLinesDisplay.fmt.Goals as goal

pub loop-difference-preserved : goal.loop-difference-preserved
loop-difference-preserved g c = λ plain.
    let line = differ_line (g.N.Naming.names c.args.self.now.names.now) in
    has_written_of_eq _ _ _ _ _ (sym (more_from_none (λ n. flat_map line) (λ n. line) (λ n. refl) (λ n x xs. refl) _ c.loop-difference.difference-index c.difference-item.result c.loop-difference-test.true c.difference-item.is))
    (has_written_append _ _ _ _ _ _ (c.loop-difference.invariant plain) (search rules))
