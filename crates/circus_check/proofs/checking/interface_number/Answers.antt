use Rattle.std.proofs.Common.{◌≡◌, ◌<◌, ◌∙◌, ap, sym, arith, length, Some}
use Rattle.std.specs.Prelude.{bytes_eq}
use Rattle.std.proofs.lemmas.Option.{slice_get_within}
use Rattle.circus_idl.specs.declared.interface.Interface.{Interface}
use Rattle.circus_check.specs.Meaning.{interface_number}
use Rattle.circus_check.proofs.Named.{found_there}
use Rattle.circus_check.proofs.checking.interface_number.Goals as goal

pub returns-in-Some-interface : goal.returns-in-Some-interface
returns-in-Some-interface c =
    let interfaces = c.args.naming.now.interfaces.now in
    let number = c.in-Some-interface.number in
    let found = found_there (λ (i : Interface). bytes_eq i.name c.in-Some.name.name) 0 interfaces number (sym c.in-Some-interface.ensures) in
    let within : found.place < length interfaces = slice_get_within interfaces found.place found.item found.there in
    let small : c.min.result ≡ number = omega (arith, c.min.ensures, found.is, within, c.requires) in
    (λ i. Some (small i)) ∙ c.in-Some-interface.ensures ∙ ap (interface_number interfaces) (sym c.in-Some.is)
