use Rattle.std.proofs.Common.{[], ◌∷◌, map, sym, ◌∙◌, ap}
use Rattle.std.proofs.lemmas.List.{map-append}
use Rattle.circus_syntax.specs.Spelling.{most_levels}
use Rattle.circus_syntax.specs.InterfaceTree.{declared_of}
use Rattle.circus_syntax.specs.Placed.{is_name}
use Rattle.circus_syntax.specs.Reading.{one_declaration}
use Rattle.circus_syntax.proofs.Interfaces.{shrinks_declared}
use Rattle.circus_syntax.proofs.Loops.{goes_on, goes_end, goes_step, shorter}
use Rattle.circus_syntax.proofs.ByLine.{declarations_are}
use Rattle.circus_syntax.proofs.token_reader.Reader.declarations.Goals as goal

pub loop-declared-init : goal.loop-declared-init
loop-declared-init c = declarations_are most_levels c.args.self.now ∙ ap (λ ds. goes_on is_name (one_declaration most_levels) (map declared_of ds) c.args.self.now) (sym c.new-declared.ensures)

pub loop-declared-smaller : goal.loop-declared-smaller
loop-declared-smaller c =
    shorter is_name (one_declaration most_levels) (shrinks_declared most_levels) c.loop-declared.self c.one_declaration.new.self (declared_of c.in_ok-one_declaration.field-0) (sym c.sees_name.ensures ∙ c.loop-declared-test.true) c.in_ok-one_declaration.ensures

pub loop-declared-preserved : goal.loop-declared-preserved
loop-declared-preserved c =
    c.loop-declared.invariant
    ∙ goes_step is_name (one_declaration most_levels) (shrinks_declared most_levels) (map declared_of c.loop-declared.declared) c.loop-declared.self c.one_declaration.new.self (declared_of c.in_ok-one_declaration.field-0) (sym c.sees_name.ensures ∙ c.loop-declared-test.true) c.in_ok-one_declaration.ensures
    ∙ ap (λ ds. goes_on is_name (one_declaration most_levels) ds c.one_declaration.new.self)
    (sym (ap (map declared_of) c.in_ok-push.ensures.ok ∙ map-append declared_of c.loop-declared.declared (c.in_ok-one_declaration.field-0 ∷ [])))

pub returns : goal.returns
returns c = c.loop-declared.invariant ∙ goes_end is_name (one_declaration most_levels) (map declared_of c.loop-declared.declared) c.loop-declared.self (sym c.sees_name.ensures ∙ c.loop-declared-test.false)
