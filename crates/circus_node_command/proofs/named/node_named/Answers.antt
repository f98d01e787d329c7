use Rattle.std.proofs.Common.{◌≡◌, ◌∙◌, None, Some, sym, position}
use Rattle.circus_node_command.specs.Seen.Called.{is_host_named}
use Rattle.circus_node_command.proofs.Found.{found_is, none_is}
use Rattle.circus_node_command.proofs.named.node_named.Goals as goal

pub returns-in_err-place-clause-none : goal.returns-in_err-place-clause-none
returns-in_err-place-clause-none c =
    let none : position (is_host_named c.args.name.now) c.args.deployment.now.nodes ≡ None =
    rw (c.as_slice.ensures, c.as_bytes.ensures.value) at (sym c.place_of.ensures ∙ c.in_err-place.was) in
    rw c.from_residual.ensures (none_is c.args.deployment.now.nodes c.args.name.now none)

pub returns-clause-named : goal.returns-clause-named
returns-clause-named c =
    let found : position (is_host_named c.args.name.now) c.args.deployment.now.nodes ≡ Some c.in_ok-place.place =
    rw (c.as_slice.ensures, c.as_bytes.ensures.value) at (sym c.place_of.ensures ∙ c.in_ok-place.was) in
    (found_is c.args.deployment.now.nodes c.args.name.now c.in_ok-place.place found).1
