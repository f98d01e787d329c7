use Rattle.std.proofs.Common.{sym, subst}
use Rattle.std.proofs.lemmas.Option.{slice_get_within}
use Rattle.circus_model.specs.Behaviour.{behaviours}
use Rattle.circus_model.specs.Seen.Ready.{IsThread}
use Rattle.circus_model.proofs.Histories.{fresh_thread}
use Rattle.circus_model.proofs.Threads.{are_modules, root_runs}
use Rattle.circus_model.proofs.alone.runs_of_root.Goals as goal

pub perform-requires-clause-thread : goal.perform-requires-clause-thread
perform-requires-clause-thread g c =
    let program = behaviours g.M.Module.declared g.M.Module.turn g.M.Module.first c.args.modules.now in
    let lawful = are_modules g.M.Module.declared g.M.Module.turn g.M.Module.first c.args.modules.now (λ m. record { first_is_state = g.met.M.Module.first_is_state m; turns_are_lawful = g.met.M.Module.turns_are_lawful m }) in
    subst (IsThread program) (sym c.in_ok-thread.ensures) (fresh_thread program lawful)

pub returns : goal.returns
returns g c =
    let program = behaviours g.M.Module.declared g.M.Module.turn g.M.Module.first c.args.modules.now in
    root_runs program c.in_ok-thread.thread c.perform.new.thread _ c.args.root _ c.in_ok-perform.ensures c.in_ok-thread.ensures c.new.ensures c.new-2.ensures (slice_get_within program c.args.root c.requires.root.behaviour c.requires.root.there)
