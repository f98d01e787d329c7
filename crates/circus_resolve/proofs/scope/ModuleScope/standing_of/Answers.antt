use Rattle.std.proofs.Common.{ap, ◌∙◌, sym}
use Rattle.std.specs.Prelude.{option_map}
use Rattle.std.specs.Ordering.{nat_cmp}
use Rattle.std.specs.Cmp.Lexicographic.{slice_cmp}
use Rattle.std.specs.BTreeMap.{get_by}
use Rattle.circus_syntax.specs.declared.named.Named.{Named}
use Rattle.circus_resolve.specs.Seen.Scoped.{type_in, known_types, module_or, type_named}
use Rattle.circus_resolve.proofs.scope.ModuleScope.standing_of.Goals as goal

pub returns-in-Some-get : goal.returns-in-Some-get
returns-in-Some-get c =
    c.standing_in-in-Some-get.ensures
    ∙ ap (λ found. module_or (option_map (λ types. known_types (option_map (λ known. type_in known.now) types)) found) c.as_slice-own.result.now) c.in-Some-get.ensures.value
    ∙ (λ i. module_or (option_map (λ types. known_types (option_map (λ known. type_in known.now) types)) (get_by (λ k. slice_cmp nat_cmp (c.as_slice.ensures i) k.now) c.args.self.now.imported)) (c.as_slice-own.ensures i))
    ∙ ap (λ m. type_named c.args.self.now (option_map (λ (n : Named). n.name) m) c.args.name.now.name.name) (sym c.in-Some.is)
