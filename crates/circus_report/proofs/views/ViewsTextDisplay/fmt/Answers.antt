use Rattle.std.proofs.Common.{refl, sym, rules}
use Rattle.std.proofs.Output.{has_written_append, has_written_of_eq}
use Rattle.circus_record.proofs.LinesMore.{more_from_none}
use Rattle.circus_report.specs.ViewLines.{views_lines, view_line}
use Rattle.circus_report.proofs.views.ViewsTextDisplay.fmt.Goals as goal

pub loop-view-preserved : goal.loop-view-preserved
loop-view-preserved g c = λ plain.
    let names = g.N.Naming.names c.args.self.now.names.now in
    has_written_of_eq _ _ _ _ _ (sym (more_from_none (λ n. views_lines names) (λ n. view_line names) (λ n. refl) (λ n x xs. refl) _ c.loop-view.view-index c.view-item.result c.loop-view-test.true c.view-item.is))
    (has_written_append _ _ _ _ _ _ (c.loop-view.invariant plain) (search rules))
