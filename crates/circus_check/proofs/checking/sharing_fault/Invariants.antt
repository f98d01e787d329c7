use Rattle.std.proofs.Common.{◌≡◌, suc, drop, take}
use Rattle.circus_check.specs.Answer.{shares}
use Rattle.circus_limits.specs.Limits.{most_modules}
use Rattle.circus_check.specs.Seen.Programs.{modules_in}
use Rattle.circus_check.proofs.checking.sharing_fault.Given as goal

-- no module before this one tells what is shared at the place
abbrev pub invariant-loop-number : goal.invariant-loop-number
invariant-loop-number l =
    let modules = modules_in l.program in
    shares modules l.place l.number (drop l.number (take (suc most_modules) modules)) ≡ shares modules l.place 0 (take (suc most_modules) modules)
