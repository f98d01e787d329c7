use Rattle.std.proofs.Common.{◌∙◌, ap, Some}
use Rattle.circus_check.specs.Naming.{import_of}
use Rattle.circus_check.specs.Seen.Programs.{modules_in, interfaces_in}
use Rattle.circus_check.specs.Seen.Scoped.{interface_in}
use Rattle.circus_check.specs.Seen.Surroundings.{procedures_now}
use Rattle.circus_check.specs.Seen.Scoped.{known_in}
use Rattle.circus_check.proofs.Calling.{called_is}
use Rattle.circus_check.proofs.surroundings.callee.Goals as goal

pub returns : goal.returns
returns c =
    let modules = modules_in c.args.program.now in
    let name = c.args.name.now in
    called_is (interfaces_in c.args.program.now) modules (import_of modules c.args.own.now.number name) (interface_in c.args.own.now.types (Some name.name)) c.import_number.result c.procedures_of.result
    c.requires.imported c.import_number.ensures
    (c.procedures_of.ensures ∙ ap procedures_now c.of_module.ensures ∙ ap (λ bytes. procedures_now (known_in (interface_in c.args.own.now.types (Some bytes)))) c.as_slice.ensures)
