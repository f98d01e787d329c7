use Rattle.std.proofs.Common.{◌≡◌, ◌∙◌, ◌<◌, length, Some, sym, ap, arith}
use Rattle.std.proofs.Math.ListN.{length-map}
use Rattle.std.proofs.lemmas.Option.{same_Some, slice_get_within}
use Rattle.std.specs.Prelude.{slice_get}
use Rattle.circus_model.specs.Behaviour.{behaviours}
use Rattle.circus_model.specs.History.{runs_of}
use Rattle.circus_model.proofs.Threads.{behaviour, are_modules}
use Rattle.circus_performing.proofs.Records.{none_is_some}
use Rattle.circus_verdict.proofs.Judging.{judged_here}
use Rattle.circus_verdict.proofs.member.judge_active.Goals as goal

pub unreachable-requires : goal.unreachable-requires
unreachable-requires g c = none_is_some (c.in_default.ensures ∙ c.requires.ran.hosts)

pub first_of-requires : goal.first_of-requires
first_of-requires g c =
    let M = g.M.Module in
    let program = behaviours M.declared M.turn M.first c.args.modules.now in
    let ran = c.requires.ran in
    let within : ran.number < length program = slice_get_within program ran.number ran.run.hosted ran.run.is_hosted in
    let number_is : c.in-Some.number ≡ ran.number = same_Some c.in-Some.number ran.number (c.in-Some.ensures ∙ ran.hosts) in
    let many = length-map c.args.modules.now (behaviour M.declared M.turn M.first) in omega (arith, within, number_is, many)

pub returns : goal.returns
returns g c =
    let M = g.M.Module in
    let program = behaviours M.declared M.turn M.first c.args.modules.now in
    let ran = c.requires.ran in
    let number = c.in-Some.number in
    let number_is : number ≡ ran.number = same_Some number ran.number (c.in-Some.ensures ∙ ran.hosts) in
    let there : slice_get program number ≡ Some ran.run.hosted = ap (slice_get program) number_is ∙ ran.run.is_hosted in
    judged_here c.args.deployment.now program c.args.given.now c.args.kept.now c.args.activation_state.now ran c.requires.agree
    (are_modules M.declared M.turn M.first c.args.modules.now (λ m. record { first_is_state = g.met.M.Module.first_is_state m; turns_are_lawful = g.met.M.Module.turns_are_lawful m }))
    c.requires.said c.requires.active number ran.run.hosted c.runs_of-runs.result.now c.in_ok-first.first (sym c.in-Some.ensures) there
    (c.runs_of-runs.ensures ∙ ap (λ history. runs_of history number) c.in_ok-history.ensures) (c.in_ok-first.ensures ran.run.hosted there) c.judge_runs.result c.judge_runs.ensures
