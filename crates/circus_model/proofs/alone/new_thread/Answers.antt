use Rattle.std.proofs.Common.{◌≡◌, [], None, map, take, ap, ◌∙◌, arith}
use Rattle.std.proofs.lemmas.List.{take_all}
use Rattle.circus_model.proofs.Threads.{fresh_so}
use Rattle.circus_model.proofs.alone.new_thread.Goals as goal

pub returns : goal.returns
returns g c =
    let all : take c.loop-each._each-index c.args.modules.now ≡ c.args.modules.now = take_all c.loop-each._each-index c.args.modules.now (omega arith) in
    fresh_so g.M.Module.declared g.M.Module.turn g.M.Module.first c.args.modules.now (record { states = c.loop-each.states; clock = c.loop-each.clock; runs = c.loop-each.runs }) (c.loop-each.invariant.states ∙ ap (map (λ _. None)) all) (c.loop-each.invariant.clock ∙ ap (map (λ _. 0)) all) (c.loop-each.invariant.runs ∙ ap (map (λ _. [])) all)
