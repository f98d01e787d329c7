use Rattle.std.proofs.Common.{ℕ, List, Option, Some, ap, sym, ◌∙◌, option_map}
use denote.Ref.{Bor}
use Rattle.circus_syntax.specs.declared.named.Named.{Named}
use Rattle.circus_check.specs.declared.known.Known.{Known}
use Rattle.circus_check.specs.Seen.Scoped.{interface_in, known_in}
use Rattle.circus_check.proofs.type_scope.TypeScope.interface.Goals as goal

pub returns-in-None : goal.returns-in-None
returns-in-None c =
    let by : Option Named → Option (Bor Known) = λ m. known_in (interface_in c.args.self.now (option_map (λ (n : Named). n.name) m)) in
    ap by (sym c.in-None.is)

pub returns-in-Some : goal.returns-in-Some
returns-in-Some c =
    let by : Option Named → Option (Bor Known) = λ m. known_in (interface_in c.args.self.now (option_map (λ (n : Named). n.name) m)) in
    let named : List ℕ → Option (Bor Known) = λ bytes. known_in (interface_in c.args.self.now (Some bytes)) in
    c.of_module.ensures ∙ ap named c.as_slice.ensures ∙ ap by (sym c.in-Some.is)
