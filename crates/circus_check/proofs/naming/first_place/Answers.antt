use Rattle.std.proofs.Common.{sym, ap, ◌∙◌}
use Rattle.circus_fault.specs.Known.{add_name}
use Rattle.circus_fault.specs.Seen.Tables.{known_of}
use Rattle.circus_check.proofs.FirstOfName.{place_taken, place_kept}
use Rattle.circus_check.proofs.naming.first_place.Goals as goal

pub returns-in-Some : goal.returns-in-Some
returns-in-Some c =
    let known = known_of c.args.names.now in
    place_kept known c.args.name.now c.args.place _ (sym (c.in-Some.ensures ∙ ap known c.as_slice-bytes.ensures))

pub returns-in_ok-insert-in-None : goal.returns-in_ok-insert-in-None
returns-in_ok-insert-in-None c =
    let known = known_of c.args.names.now in
    c.in_ok-insert-in-None.ensures.added ∙ ap (λ bytes. add_name bytes c.args.place known) c.as_slice-bytes.ensures
    ∙ place_taken known c.args.name.now c.args.place (sym (c.in-None.ensures ∙ ap known c.as_slice-bytes.ensures))
