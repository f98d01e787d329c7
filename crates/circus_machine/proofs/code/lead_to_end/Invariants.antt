use Rattle.std.proofs.Common.{◌≡◌, length, drop}
use Rattle.circus_machine.specs.Seen.Instructions.{acts_of, leading_to}
use Rattle.circus_machine.proofs.code.lead_to_end.Given as goal

-- the jumps that are left lead to the same end
abbrev pub invariant-loop-exit : goal.invariant-loop-exit
invariant-loop-exit l = record {
  code : leading_to (length l.fn.code) (drop l.exit-index l.exits) (acts_of l.code) ≡ leading_to (length l.fn.code) l.exits (acts_of l.fn.code);
  long : length l.code ≡ length l.fn.code;
}
