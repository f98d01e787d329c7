use Rattle.std.proofs.Common.{◌≡◌, ◌++◌, drop, map}
use Rattle.circus_place.specs.Means.{machine_meant}
use Rattle.circus_place.proofs.meaning.machines.Given as goal

-- what is made so far, and of what is left
abbrev pub invariant-loop-text : goal.invariant-loop-text
invariant-loop-text l = l.machines ++ map machine_meant (drop l.text-index l.texts) ≡ map machine_meant l.texts
