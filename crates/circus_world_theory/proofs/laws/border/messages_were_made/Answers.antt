use Rattle.circus_world_theory.proofs.Border.Makers.{call_was_made, return_was_made}
use Rattle.circus_world_theory.proofs.laws.border.messages_were_made.Goals as goal

pub returns-clause-calls : goal.returns-clause-calls
returns-clause-calls g c = λ d hosted node other number message lines booted last lead is.
    call_was_made g.M.Module.declared g.M.Module.turn g.M.Module.first d hosted node other number message lines booted last lead is

pub returns-clause-returns : goal.returns-clause-returns
returns-clause-returns g c = λ d hosted node other number message lines booted last lead is.
    return_was_made g.M.Module.declared g.M.Module.turn g.M.Module.first d hosted node other number message lines booted last lead is
