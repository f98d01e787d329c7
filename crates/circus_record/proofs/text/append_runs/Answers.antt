use Rattle.std.proofs.Common.{◌≡◌, ◌+◌, ◌++◌, refl, string_bytes, subst}
use Rattle.circus_record.specs.MemberText.{run_lines, runs_lines}
use Rattle.circus_record.proofs.LinesMore.{item_added}
use Rattle.circus_record.proofs.text.append_runs.Goals as goal

pub loop-later-preserved : goal.loop-later-preserved
loop-later-preserved g c =
    let names = g.N.Naming.names c.args.names.now in
    item_added (runs_lines names) (run_lines names) (λ n. refl) (λ n x xs. refl) (string_bytes c.args.text.now) (string_bytes c.loop-later.text) (string_bytes c.append_run.new.text)
    c.args.first c.args.runs.now c.loop-later.later c.index-runs-later.result c.loop-later-test.true c.index-runs-later.is c.loop-later.invariant
    (subst (λ n. string_bytes c.append_run.new.text ≡ string_bytes c.loop-later.text ++ run_lines names (n + c.loop-later.later) c.index-runs-later.result) c.from.ensures c.in_ok-append_run.ensures)
