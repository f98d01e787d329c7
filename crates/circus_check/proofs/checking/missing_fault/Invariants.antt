use Rattle.std.proofs.Common.{◌≡◌, suc, drop, take}
use Rattle.circus_check.specs.Answer.{lacks}
use Rattle.circus_limits.specs.Limits.{most_modules}
use Rattle.circus_check.specs.Seen.Programs.{modules_in, interfaces_in}
use Rattle.circus_check.proofs.checking.missing_fault.Given as goal

-- no module before this one lacks anything at the place
abbrev pub invariant-loop-number : goal.invariant-loop-number
invariant-loop-number l =
    let modules = take (suc most_modules) (modules_in l.program) in
    lacks (interfaces_in l.program) l.place (drop l.number modules) ≡ lacks (interfaces_in l.program) l.place modules
