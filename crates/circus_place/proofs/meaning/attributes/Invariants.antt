use Rattle.std.proofs.Common.{◌≡◌, ◌++◌, drop, map}
use Rattle.circus_place.specs.Means.{attribute_meant}
use Rattle.circus_place.proofs.meaning.attributes.Given as goal

-- what is made so far, and of what is left
abbrev pub invariant-loop-text : goal.invariant-loop-text
invariant-loop-text l = l.attributes ++ map attribute_meant (drop l.text-index l.texts) ≡ map attribute_meant l.texts
