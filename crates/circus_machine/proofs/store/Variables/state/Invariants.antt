use Rattle.std.proofs.Common.{◌≡◌, take}
use Rattle.circus_machine.proofs.store.Variables.state.Given as goal

-- what was copied so far
abbrev pub invariant-loop-place : goal.invariant-loop-place
invariant-loop-place l = l.state ≡ take l.place l.self.values
