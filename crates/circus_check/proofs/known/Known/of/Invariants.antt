use Rattle.std.proofs.Common.{◌≡◌, ℕ, List, None, drop}
use Rattle.circus_type.specs.Seen.Measured.{measure_of}
use Rattle.circus_resolve.specs.Seen.Scoped.{type_in}
use Rattle.circus_body.specs.Seen.Named.{offered_in}
use Rattle.circus_check.specs.Scope.{types_behind, types_among, shape_or, offered_behind}
use Rattle.circus_check.specs.Scope as scope
use Rattle.circus_check.specs.Seen.Known.{size_named}
use Rattle.circus_check.proofs.known.Known.of.Given as goal

-- the types that are left stand behind those in the table
abbrev pub invariant-loop-declared : goal.invariant-loop-declared
invariant-loop-declared l = record {
  types : types_behind (drop l.declared-index l.declared-items) (type_in l.known.types) ≡ types_among l.interface;
  sizes : size_named l.known ≡ (λ (name : List ℕ). measure_of (shape_or (type_in l.known.types name)));
  offers : offered_in l.known.procedures ≡ (λ _. None);
  order : l.known.order.now ≡ l.interface.procedures;
}

-- the procedures that are left stand behind those in the table
abbrev pub invariant-loop-procedure : goal.invariant-loop-procedure
invariant-loop-procedure l = record {
  types : type_in l.known.types ≡ types_among l.interface;
  sizes : size_named l.known ≡ (λ (name : List ℕ). measure_of (shape_or (types_among l.interface name)));
  offers : offered_behind l.interface (drop l.procedure-index l.procedure-items) (offered_in l.known.procedures) ≡ scope.offered_in l.interface;
  order : l.known.order.now ≡ l.interface.procedures;
}
