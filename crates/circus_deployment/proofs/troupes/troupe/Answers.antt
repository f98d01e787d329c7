use Rattle.std.proofs.Common.{◌≡◌, ◌∙◌, ap}
use Rattle.std.specs.Prelude.{is_none, is_some, slice_get}
use Rattle.circus_fault.specs.Least.{least_from, faults_if}
use Rattle.circus_fault.specs.Seen.Tables.{known_of}
use Rattle.circus_deployment.specs.declared.cause.Cause.TheVariants.{Unknown, Repeated}
use Rattle.circus_limits.specs.Limits.{most_members}
use Rattle.circus_deployment.specs.Rank.{rank_of}
use Rattle.circus_deployment.specs.Faults.{needed_faults, crowd_faults}
use Rattle.circus_deployment.proofs.LeastOf.{least_five}
use Rattle.circus_deployment.proofs.Checked.{none_told}
use Rattle.circus_deployment.proofs.troupes.troupe.Goals as goal

pub returns-clause-found : goal.returns-clause-found
returns-clause-found c =
    let t = c.args.text.now in
    let unknown : c.is_none.result ≡ is_none (known_of c.args.modules.now t.name.name) =
    none_told c.get.result c.is_none.result c.is_none.ensures ∙ ap is_none (c.get.ensures ∙ ap (known_of c.args.modules.now) c.as_slice-name.ensures) in
    let again : c.is_some.result ≡ is_some (known_of c.args.troupes.now t.name.name) =
    c.is_some.ensures ∙ ap is_some (c.in_ok-earlier.ensures.earlier ∙ ap (known_of c.args.troupes.now) c.as_slice-name.ensures) in
    least_five c.args.best.now.fault c.note.new.self.fault c.note-2.new.self.fault c.check_least.new.best.fault c.check_least-2.new.best.fault c.crowd.new.best.fault
    (faults_if (is_none (known_of c.args.modules.now t.name.name)) t.name.at Unknown) (faults_if (is_some (known_of c.args.troupes.now t.name.name)) t.name.at Repeated)
    (needed_faults t.calls.kind) (needed_faults t.replies.kind) (crowd_faults (slice_get t.members most_members))
    (c.note.ensures ∙ ap (λ b. least_from rank_of c.args.best.now.fault (faults_if b t.name.at Unknown)) unknown)
    (c.note-2.ensures ∙ ap (λ b. least_from rank_of c.note.new.self.fault (faults_if b t.name.at Repeated)) again)
    c.check_least.ensures c.check_least-2.ensures (c.crowd.ensures ∙ ap (λ o. least_from rank_of c.check_least-2.new.best.fault (crowd_faults o)) c.get-2.ensures)
