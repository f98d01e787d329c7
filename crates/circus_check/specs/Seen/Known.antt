-- What a table says of an interface, and of a module's names.
use Rattle.std.specs.Prelude.{◌≡◌, ℕ, List, [], find, map, Option, Some, None, option_map, unwrap_or}
use Rattle.std.specs.Ordering.{nat_cmp}
use Rattle.std.specs.Cmp.Lexicographic.{slice_cmp}
use Rattle.std.specs.BTreeMap.{BTreeMap, get_by}
use Rattle.std.specs.Borrow.{Bor}
use Rattle.circus_value.specs.ShapeTree.{boolean, field_trees}
use Rattle.circus_type.specs.Distinct.{AreDistinct}
use Rattle.circus_type.specs.declared.measuring.Measure.{Measure}
use Rattle.circus_type.specs.Seen.Measured.{measure_of}
use Rattle.circus_resolve.specs.Scope.{Standing, no_type}
use Rattle.circus_resolve.specs.Seen.Scoped.{type_in}
use Rattle.circus_body.specs.Context.{Reported, Offered}
use Rattle.circus_body.specs.declared.context.Reported.{Reported as Error}
use Rattle.circus_body.specs.declared.context.Offered.{Offered as OfferedTable}
use Rattle.circus_body.specs.Seen.Named.{reported_as, offered_as, offered_in as table_offers}
use Rattle.circus_idl.specs.Meaning.{standing_for}
use Rattle.circus_idl.specs.Shown.{has_number}
use Rattle.circus_idl.specs.declared.interface.DeclaredError.{DeclaredError}
use Rattle.circus_idl.specs.declared.interface.Procedure.{Procedure}
use Rattle.circus_idl.specs.declared.interface.Interface.{Interface}
use Rattle.circus_check.specs.declared.known.Known.{Known}
use Rattle.circus_check.specs.declared.naming.Import.{Import as Found}
use Rattle.circus_check.specs.declared.naming.Import.TheVariants as found
use Rattle.circus_check.specs.Naming.{Import, good, forward, no_module}
use Rattle.circus_check.specs.Scope.{types_among, shape_or, error_of, errors_behind, offered_in}

-- the size of a type of this name
abbrev pub size_named : Known → List ℕ → Measure
size_named k name = unwrap_or (get_by (λ key. slice_cmp nat_cmp name key.now) k.sizes) (measure_of boolean)

-- a table with these types, procedures and order
pub record Tells (k : Known) (types : List ℕ → Standing) (offers : List ℕ → Option Offered) (order : List Procedure) : Type 0 where
  pub types_are : type_in k.types ≡ types
  pub sizes_are : size_named k ≡ (λ name. measure_of (shape_or (types name)))
  pub offers_are : table_offers k.procedures ≡ offers
  pub order_is : k.order.now ≡ order

abbrev pub TellsInterface : Known → Interface → Type 0
TellsInterface k i = Tells k (types_among i) (offered_in i) i.procedures

-- a root has no types and no procedures
abbrev pub TellsNothing : Known → Type 0
TellsNothing k = Tells k (λ _. no_type) (λ _. None) []

abbrev pub import_as : Found → Import
import_as (found.Good k) = good k
import_as found.Forward = forward
import_as found.NoModule = no_module

-- ---- errors that procedures report

-- what a table of errors says of a name
abbrev pub reported_in : BTreeMap (Bor (List ℕ)) Error → List ℕ → Option Reported
reported_in table name = option_map reported_as (get_by (λ k. slice_cmp nat_cmp name k.now) table)

-- this error, where there is one, besides others
abbrev pub also_error : Option DeclaredError → (List ℕ → Option Reported) → List ℕ → Option Reported
also_error None earlier = earlier
also_error (Some e) earlier = standing_for e.name (Some (error_of e)) earlier

-- a table is an earlier one with the error of this number, where there is one
abbrev pub AddsError : List DeclaredError → ℕ → BTreeMap (Bor (List ℕ)) Error → BTreeMap (Bor (List ℕ)) Error → Type 0
AddsError errors n earlier table = reported_in table ≡ also_error (find (has_number n) errors) (reported_in earlier)

-- neither a name nor a number is that of two errors
pub record TellApart (errors : List DeclaredError) : Type 0 where
  pub names : AreDistinct (map (λ (e : DeclaredError). e.name) errors)
  pub numbers : AreDistinct (map (λ (e : DeclaredError). e.number) errors)

-- a procedure of an interface with these errors
abbrev pub offered_over : List DeclaredError → Procedure → Offered
offered_over errors p = record {
  number = p.number;
  arguments = field_trees p.arguments;
  results = field_trees p.results;
  reported = errors_behind p.reports errors (λ _. None);
}

abbrev pub OffersOver : List DeclaredError → Procedure → OfferedTable → Type 0
OffersOver errors p offered = offered_as offered ≡ offered_over errors p
