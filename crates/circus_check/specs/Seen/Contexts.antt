-- What tables say of what a body may name.
use Rattle.std.specs.Prelude.{ℕ, List}
use Rattle.std.specs.Ordering.{nat_cmp}
use Rattle.std.specs.Cmp.Lexicographic.{slice_cmp}
use Rattle.std.specs.BTreeMap.{BTreeMap, get_by}
use Rattle.std.specs.Borrow.{Bor}
use Rattle.circus_resolve.specs.declared.scope.Scope.{Scope}
use Rattle.circus_resolve.specs.Seen.Scoped.{scope_as}
use Rattle.circus_body.specs.declared.context.Callee.{Callee}
use Rattle.circus_body.specs.declared.context.Offered.{Offered}
use Rattle.circus_body.specs.Context.{Context}
use Rattle.circus_body.specs.Seen.Named.{called_or, offered_as}

abbrev pub context_with : Scope → BTreeMap (Bor (List ℕ)) Callee → Offered → Context
context_with scope imported own = record {
  scope = scope_as scope;
  called = λ name. called_or (get_by (λ k. slice_cmp nat_cmp name k.now) imported);
  own = offered_as own;
}
