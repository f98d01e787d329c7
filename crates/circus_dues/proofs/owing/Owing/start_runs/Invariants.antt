use Rattle.std.proofs.Common.{◌≡◌, ◌++◌, if◌then◌else◌}
use Rattle.circus_dues.specs.Seen.Owing.{may_enter, left_of, entered_all, made_entering_all}
use Rattle.circus_dues.specs.Seen.Sound.{IsSoundOwing}
use Rattle.circus_dues.proofs.owing.Owing.start_runs.Given as goal

-- the runs that are left are entered still
abbrev pub invariant-loop-self : goal.invariant-loop-self
invariant-loop-self l =
    let place = l.of.place.now in
    let kept = l.of.kept.now in
    let procedures = l.of.signature.now.procedures in
    IsSoundOwing l.of.signature.now place kept l.self
    × (entered_all place kept l.at procedures (left_of kept l.self) l.self
    ≡ entered_all place kept l.at procedures (left_of kept l.fn.self) l.fn.self)
    × (l.effects ++ made_entering_all place kept l.at procedures (left_of kept l.self) l.self
    ≡ l.fn.effects ++ made_entering_all place kept l.at procedures (left_of kept l.fn.self) l.fn.self)

-- one for each run that is left, where one may be entered
abbrev pub decreases-loop-self : goal.decreases-loop-self
decreases-loop-self l = if may_enter l.self then left_of l.of.kept.now l.self else 0
