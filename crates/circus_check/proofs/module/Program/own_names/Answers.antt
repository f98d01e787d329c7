use Rattle.std.proofs.Common.{ℕ, List, subst, nat_cmp}
use Rattle.std.specs.Cmp.Lexicographic.{slice_cmp}
use Rattle.std.specs.BTreeMap.{get_by}
use Rattle.circus_syntax.specs.declared.named.Named.{Named}
use Rattle.circus_lang.specs.ModuleTree.{module_of}
use Rattle.circus_check.specs.declared.type_scope.TypeScope.{TypeScope}
use Rattle.circus_check.specs.Scope.{import_named}
use Rattle.circus_check.specs.Seen.Programs.{modules_in, interfaces_in, IsImported}
use Rattle.circus_check.proofs.OwnTables.{scope_types, scope_sized}
use Rattle.circus_check.proofs.module.Program.own_names.Goals as goal

pub returns-clause-own : goal.returns-clause-own
returns-clause-own c =
    let interfaces = interfaces_in c.args.self.now in
    let modules = modules_in c.args.self.now in
    let i = c.args.number in
    let m = module_of c.args.text.now in
    let table = c.in_ok-all_imported.field-0 in
    let scope : TypeScope = record { own = c.interface.result; imported = table } in
    let imported : (name : List ℕ) → IsImported interfaces modules (import_named modules i m.imports name) (get_by (λ k. slice_cmp nat_cmp name k.now) table) =
    λ name. subst (λ (ns : List Named). IsImported interfaces modules (import_named modules i ns name) (get_by (λ k. slice_cmp nat_cmp name k.now) table)) c.as_slice.ensures (c.in_ok-all_imported.ensures name) in
    record {
      few = c.requires.number;
      known = c.interface.ensures;
      imported = imported;
      types = scope_types interfaces modules i m scope c.interface.ensures imported;
      sized = scope_sized interfaces modules i m scope c.interface.ensures imported;
      order = c.order.ensures;
    }
