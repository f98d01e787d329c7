use Rattle.std.proofs.Common.{[], ◌∷◌, map, sym, ◌∙◌, ap}
use Rattle.std.proofs.lemmas.List.{map-append}
use Rattle.circus_syntax.specs.Spelling.{most_levels}
use Rattle.circus_statement.proofs.Steps.{go_step, go_end, go_shorter}
use Rattle.circus_lang.specs.ModuleTree.{module_of}
use Rattle.circus_lang.specs.ModuleReading.{begins_module, module_text}
use Rattle.circus_lang.specs.ModuleStanding.{module_stands_for}
use Rattle.circus_lang.proofs.Modules.{shrinks_module}
use Rattle.circus_file.proofs.Steps.{modules_begin}
use Rattle.circus_file.proofs.reading.modules.Goals as goal

pub loop-modules-init : goal.loop-modules-init
loop-modules-init c = modules_begin most_levels c.args.reader.now (map module_of c.new-modules.result) (ap (map module_of) c.new-modules.ensures)

pub loop-modules-smaller : goal.loop-modules-smaller
loop-modules-smaller c =
    go_shorter module_stands_for begins_module (module_text most_levels) (shrinks_module most_levels) c.loop-modules.reader c.module_or_root.new.reader (module_of c.in_ok-module_or_root.field-0)
    (sym c.begins_module.ensures ∙ c.loop-modules-test.true) c.in_ok-module_or_root.ensures

pub loop-modules-preserved : goal.loop-modules-preserved
loop-modules-preserved c =
    go_step module_stands_for begins_module (module_text most_levels) (shrinks_module most_levels) _ (map module_of c.loop-modules.modules) (map module_of c.push.new.self) c.loop-modules.reader c.module_or_root.new.reader
    (module_of c.in_ok-module_or_root.field-0) c.loop-modules.invariant (sym c.begins_module.ensures ∙ c.loop-modules-test.true) c.in_ok-module_or_root.ensures
    (ap (map module_of) c.in_ok-push.ensures.ok ∙ map-append module_of c.loop-modules.modules (c.in_ok-module_or_root.field-0 ∷ []))

pub returns : goal.returns
returns c = go_end module_stands_for begins_module (module_text most_levels) _ (map module_of c.loop-modules.modules) c.loop-modules.reader c.loop-modules.invariant (sym c.begins_module.ensures ∙ c.loop-modules-test.false)
