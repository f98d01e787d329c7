use Rattle.std.proofs.Common.{◌≡◌, ◌+◌, ◌∷◌, drop, sym, ◌∙◌, ap}
use Rattle.std.proofs.lemmas.List.{drop_more}
use Rattle.circus_fault.specs.Least.{least_from}
use Rattle.circus_fault.specs.Known.{add_name, numbers_behind}
use Rattle.circus_fault.specs.Seen.Tables.{known_of}
use Rattle.circus_fault.proofs.LeastMore.{least_step}
use Rattle.circus_place.specs.Rank.{rank_of}
use Rattle.circus_place.specs.declared.text.MachineText.{MachineText}
use Rattle.circus_place.specs.Faults.{machine_faults, machines_faults}
use Rattle.circus_place.proofs.check.machines.Goals as goal

pub loop-number-preserved : goal.loop-number-preserved
loop-number-preserved c =
    let n = c.loop-number.number in
    let m = c.index-machines-number.result in
    let known = known_of c.loop-number.names in
    let best = c.loop-number.best.fault in
    let new = c.machine.new.best.fault in
    let rest = drop (n + 1) c.args.machines.now in
    let left : drop n c.args.machines.now ≡ m ∷ rest =
    drop_more c.args.machines.now n m c.loop-number-test.true ∙ ap (λ x. x ∷ rest) (sym c.index-machines-number.is) in
    record {
      found =
          ap (λ k. least_from rank_of new (machines_faults k (n + 1) rest)) c.in_ok-machine.ensures.added
          ∙ least_step rank_of new best _ (machine_faults known n m) (machines_faults (add_name m.name.name n known) (n + 1) rest) c.in_ok-machine.ensures.found
          (ap (λ ms. least_from rank_of best (machines_faults known n ms)) (sym left) ∙ c.loop-number.invariant.found);
      numbered =
          ap (λ k. numbers_behind (λ (m : MachineText). m.name.name) k (n + 1) rest) c.in_ok-machine.ensures.added
          ∙ ap (λ ms. numbers_behind (λ (m : MachineText). m.name.name) known n ms) (sym left) ∙ c.loop-number.invariant.numbered;
    }
