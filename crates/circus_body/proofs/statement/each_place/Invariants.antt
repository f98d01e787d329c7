use Rattle.std.proofs.Common.{◌≡◌, ◌++◌, drop, map}
use Rattle.circus_expression.specs.ExpressionOf.{place_of}
use Rattle.circus_resolve.specs.Meaning.{place_meant}
use Rattle.circus_resolve.specs.Seen.Found.{with_faults}
use Rattle.circus_resolve.specs.Seen.Wanted.{slots_as}
use Rattle.circus_body.specs.Faults.{places_faults}
use Rattle.circus_body.specs.Seen.Named.{context_as}
use Rattle.circus_body.proofs.statement.each_place.Given as goal

-- the places that are left have the other faults, and mean the rest
abbrev pub invariant-loop-number : goal.invariant-loop-number
invariant-loop-number l =
    (with_faults l.found (places_faults (context_as l.context) (slots_as l.slots) l.number (map place_of (drop l.number l.place-items)))
    ≡ with_faults l.fn.found (places_faults (context_as l.context) (slots_as l.slots) 0 (map place_of l.places)))
    × (l.made ++ map (place_meant (context_as l.context).scope) (map place_of (drop l.number l.place-items))
    ≡ map (place_meant (context_as l.context).scope) (map place_of l.places))
