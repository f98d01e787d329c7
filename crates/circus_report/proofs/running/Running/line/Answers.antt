use Rattle.std.proofs.Common.{◌≡◌, length, sym, ap, subst, ◌∙◌, arith}
use Rattle.circus_schedule.specs.Meaning.{NamesBelow}
use Rattle.circus_world.specs.WorldState.{WorldState}
use Rattle.circus_report.specs.Run.{IsPut, IsRun, sent_from}
use Rattle.circus_report.proofs.PutLemmas.{IsCounted-stopped}
use Rattle.circus_report.proofs.StepLemmas.{sent_before, IsRun-cut}
use Rattle.circus_report.proofs.running.Running.line.Goals as goal

pub put_sent-requires : goal.put_sent-requires
put_sent-requires g c =
    let w = c.self.inside.world in
    let line = c.args.line.now in
    let named : NamesBelow (length w.nodes) line = subst (λ (v : WorldState g.row.M.Denot). NamesBelow (length v.nodes) line) (sym c.self.view_is) c.requires.named in
    omega (arith, sent_before g.M.Module.declared g.M.Module.turn line w c.in-Ok.world c.in-Ok.ensures.0 c.in-Ok.ensures.1 named, c.len-before.ensures, ap length c.sent.ensures)

pub returns-in_err-put_sent-clause-run : goal.returns-in_err-put_sent-clause-run
returns-in_err-put_sent-clause-run g c =
    let w = c.self.inside.world in
    let line = c.args.line.now in
    let declared = g.M.Module.declared in
    let turn = g.M.Module.turn in
    let old = g.K.Sink.written c.args.sink.now in
    let new = g.K.Sink.written c.put_sent.new.sink in
    let before : c.len-before.result ≡ length w.sent = c.len-before.ensures ∙ ap length c.sent.ensures in
    subst (λ (v : WorldState g.row.M.Denot). IsRun declared turn line v old new c.from_residual.result) c.self.view_is
    (IsRun-cut declared turn line w c.in-Ok.world c.in-Ok.ensures.0 c.in-Ok.ensures.1 c.from_residual.result c.put_sent.result c.in_err-put_sent.field-0.0 old new
    c.from_residual.ensures.1 c.in_err-put_sent.was
    (subst (λ from. IsPut (sent_from from c.in-Ok.world) old new c.put_sent.result) before c.put_sent.ensures.put))

pub returns-in_err-put_sent-clause-count : goal.returns-in_err-put_sent-clause-count
returns-in_err-put_sent-clause-count g c =
    IsCounted-stopped c.from_residual.result c.put_sent.result c.in_err-put_sent.field-0.0 _ _ _ _ _ c.from_residual.ensures.1 c.in_err-put_sent.was c.put_sent.ensures.put
