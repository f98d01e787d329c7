use Rattle.circus_serve.proofs.SpareLemmas.{begins_as_spare, begins_as_founder, begins_as_ringmaster}
use Rattle.circus_serve.proofs.laws.spares_are_told_to_join.Goals as goal

pub returns : goal.returns
returns g c =
    let M = g.M.Module in
    record {
      spares = λ d hosted node number troupe booted outputs is at there among. begins_as_spare M.declared M.turn M.first d node hosted number troupe booted outputs is at there among;
      founders = λ d hosted node number troupe booted outputs is at there among. begins_as_founder M.declared M.turn M.first d node hosted number troupe booted outputs is at there among;
      ringmaster = λ d hosted node booted outputs is at. begins_as_ringmaster M.declared M.turn M.first d node hosted booted outputs is at;
    }
