use Rattle.std.proofs.Common.{[], ◌∷◌, map, sym, ◌∙◌, ap}
use Rattle.std.proofs.lemmas.List.{map-append}
use Rattle.circus_syntax.specs.InterfaceTree.{interface_of}
use Rattle.circus_syntax.specs.Placed.{is_name}
use Rattle.circus_syntax.specs.Reading.{interface}
use Rattle.circus_syntax.specs.Spelling.{most_levels}
use Rattle.circus_syntax.proofs.InterfaceLevels.{shrinks_interface}
use Rattle.circus_syntax.proofs.Loops.{goes_on, goes_step, goes_end, shorter}
use Rattle.circus_file.proofs.Steps.{interfaces_begin}
use Rattle.circus_file.proofs.reading.interfaces.Goals as goal

pub loop-interfaces-init : goal.loop-interfaces-init
loop-interfaces-init c = interfaces_begin most_levels c.args.reader.now (map interface_of c.new-interfaces.result) (ap (map interface_of) c.new-interfaces.ensures)

pub loop-interfaces-smaller : goal.loop-interfaces-smaller
loop-interfaces-smaller c =
    shorter is_name (interface most_levels) (shrinks_interface most_levels) c.loop-interfaces.reader c.interface.new.self (interface_of c.in_ok-interface.field-0) (sym c.sees_name.ensures ∙ c.loop-interfaces-test.true) c.in_ok-interface.ensures

pub loop-interfaces-preserved : goal.loop-interfaces-preserved
loop-interfaces-preserved c =
    c.loop-interfaces.invariant
    ∙ goes_step is_name (interface most_levels) (shrinks_interface most_levels) (map interface_of c.loop-interfaces.interfaces) c.loop-interfaces.reader c.interface.new.self (interface_of c.in_ok-interface.field-0)
    (sym c.sees_name.ensures ∙ c.loop-interfaces-test.true) c.in_ok-interface.ensures
    ∙ ap (λ l. goes_on is_name (interface most_levels) l c.interface.new.self) (sym (ap (map interface_of) c.in_ok-push.ensures.ok ∙ map-append interface_of c.loop-interfaces.interfaces (c.in_ok-interface.field-0 ∷ [])))

pub returns : goal.returns
returns c = c.loop-interfaces.invariant ∙ goes_end is_name (interface most_levels) (map interface_of c.loop-interfaces.interfaces) c.loop-interfaces.reader (sym c.sees_name.ensures ∙ c.loop-interfaces-test.false)
