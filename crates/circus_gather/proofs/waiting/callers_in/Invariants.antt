use Rattle.std.proofs.Common.{◌≡◌, ◌++◌, filter, drop}
use Rattle.circus_gather.specs.Gathering.{callers}
use Rattle.circus_gather.specs.Seen.Groups.{is_in_group}
use Rattle.circus_gather.proofs.waiting.callers_in.Given as goal

-- the callers so far stand in front of those that are left
abbrev pub invariant-loop-call : goal.invariant-loop-call
invariant-loop-call l =
    callers (filter (is_in_group l.module l.group) l.calls)
    ≡ l.callers ++ callers (filter (is_in_group l.module l.group) (drop l.call-index l.calls))
