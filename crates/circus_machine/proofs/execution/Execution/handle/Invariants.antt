use Rattle.std.proofs.Common.{◌≡◌, drop, map}
use Rattle.circus_machine.specs.Meaning.{Going}
use Rattle.circus_machine.specs.Seen.Code.{catch_place}
use Rattle.circus_machine.specs.Seen.Instructions.{catch_of}
use Rattle.circus_machine.proofs.execution.Execution.handle.Given as goal

-- the handlers that are left catch the error as all do
abbrev pub invariant-loop-catch : goal.invariant-loop-catch
invariant-loop-catch l = record {
  same : l.self ≡ l.fn.self;
  rest : (c : Going) → catch_place l.limit l.fn.self.variables.states l.at (map catch_of (drop l.catch-index l.catches)) l.error l.values c ≡ catch_place l.limit l.fn.self.variables.states l.at (map catch_of l.catches) l.error l.values c;
}
