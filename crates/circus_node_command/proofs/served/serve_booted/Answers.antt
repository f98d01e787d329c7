use Rattle.circus_record.specs.Naming.{names_of}
use Rattle.circus_outside.specs.Faults.{Rose}
use Rattle.std.specs.Prelude.{IsErrOf}
use Rattle.circus_serve.specs.Outside.{Tells, tells_of}
use Rattle.circus_serve.specs.declared.fault.ServeFault.TheVariants.{LinkFailed}
use Rattle.circus_node_command.proofs.Ends.{ends_answered, rose_if_failed}
use Rattle.circus_node_command.proofs.served.serve_booted.Goals as goal

pub serve-served-requires-clause-deployment : goal.serve-served-requires-clause-deployment
serve-served-requires-clause-deployment g c = c.requires.deployment

pub serve-served-requires-clause-node : goal.serve-served-requires-clause-node
serve-served-requires-clause-node g c = c.requires.node

pub end_of_result-requires-clause-deployment : goal.end_of_result-requires-clause-deployment
end_of_result-requires-clause-deployment g c = c.requires.deployment

pub end_of_result-requires-clause-names : goal.end_of_result-requires-clause-names
end_of_result-requires-clause-names g c = c.requires.names

pub returns-clause-ending : goal.returns-clause-ending
returns-clause-ending g c =
    let M = g.M.Module in
    let L = g.L.Link in
    let d = c.args.deployment.now in
    let old : Tells = tells_of (L.bound c.args.link.now) (L.taken c.args.link.now) (L.given c.args.link.now) in
    let new : Tells = tells_of (L.bound c.serve-served.new.link) (L.taken c.serve-served.new.link) (L.given c.serve-served.new.link) in
    ends_answered M.declared M.turn (names_of d.nodes c.args.names.now) d c.args.node c.args.turns old new c.args.core c.args.gives c.serve-served.result c.end_of_result.result
    c.serve-served.ensures.served c.end_of_result.ensures.ending

pub returns-clause-status : goal.returns-clause-status
returns-clause-status g c = c.end_of_result.ensures.status

pub returns-clause-rose : goal.returns-clause-rose
returns-clause-rose g c =
    let L = g.L.Link in
    rose_if_failed c.end_of_result.result (IsErrOf c.serve-served.result LinkFailed) (Rose (L.faults c.args.link.now) (L.faults c.serve-served.new.link))
    c.end_of_result.ensures.failed c.serve-served.ensures.rose
