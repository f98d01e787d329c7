-- What tables say of names.
use Rattle.std.specs.Prelude.{ℕ, List, Option, Some, None, option_map}
use Rattle.std.specs.Ordering.{nat_cmp}
use Rattle.std.specs.Cmp.Lexicographic.{slice_cmp}
use Rattle.std.specs.BTreeMap.{get_by}
use Rattle.std.specs.Borrow.{Bor}
use Rattle.circus_value.specs.ShapeTree.{field_trees}
use Rattle.circus_resolve.specs.Seen.Scoped.{scope_as}
use Rattle.circus_body.specs.declared.context.Reported.{Reported as Error}
use Rattle.circus_body.specs.declared.context.Offered.{Offered as Procedure}
use Rattle.circus_body.specs.declared.context.OfferedProcedures.{OfferedProcedures}
use Rattle.circus_body.specs.declared.context.Callee.{Callee}
use Rattle.circus_body.specs.declared.context.Context.{Context as Table}
use Rattle.circus_body.specs.Context.{Reported, Offered, Called, not_imported, unsaid, a_module, Context}

abbrev pub reported_as : Error → Reported
reported_as e = record { number = e.number; values = field_trees e.values.now }

abbrev pub offered_as : Procedure → Offered
offered_as p = record {
  number = p.number;
  arguments = field_trees p.arguments.now;
  results = field_trees p.results.now;
  reported = λ name. option_map reported_as (get_by (λ k. slice_cmp nat_cmp name k.now) p.reported);
}

abbrev pub offered_in : OfferedProcedures → List ℕ → Option Offered
offered_in procedures name = option_map offered_as (get_by (λ k. slice_cmp nat_cmp name k.now) procedures.table)

-- a module that is imported or not
abbrev pub called_or : Option Callee → Called
called_or None = not_imported
called_or (Some m) = known m.number (option_map (λ procedures. offered_in procedures.now) m.procedures)
  where
    known : ℕ → Option (List ℕ → Option Offered) → Called
    known number None = unsaid
    known number (Some procedures) = a_module number procedures

abbrev pub context_as : Table → Context
context_as c = record {
  scope = scope_as c.scope.now;
  called = λ name. called_or (get_by (λ k. slice_cmp nat_cmp name k.now) c.imported.now);
  own = offered_as c.own.now;
}

-- a procedure that may be unknown
abbrev pub known_offer : Option (Bor Procedure) → Option Offered
known_offer o = option_map (λ (p : Bor Procedure). offered_as p.now) o
