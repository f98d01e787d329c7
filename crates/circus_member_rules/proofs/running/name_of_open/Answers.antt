use Rattle.std.proofs.Common.{sym, subst}
use Rattle.circus_model.specs.Behaviour.{IsModule}
use Rattle.circus_performing.specs.Record.{behaviour}
use Rattle.circus_member_rules.specs.Callable.{HasFewAsks}
use Rattle.circus_member_rules.proofs.Runs.{few_asks}
use Rattle.circus_member_rules.proofs.running.name_of_open.Goals as goal

pub name_of_last-requires : goal.name_of_last-requires
name_of_last-requires g c =
    let p = c.args.performer.now in
    let b = behaviour g.M.Module.declared g.M.Module.turn g.M.Module.first p.hosted in
    let lawful : IsModule b = record { first_is_state = g.met.M.Module.first_is_state p.hosted; turns_are_lawful = g.met.M.Module.turns_are_lawful p.hosted } in
    subst HasFewAsks (sym c.record.ensures.value) (few_asks b lawful p.began p.kept c.record.ensures.kept)
