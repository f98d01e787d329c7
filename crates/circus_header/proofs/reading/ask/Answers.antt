use Rattle.std.proofs.Common.{◌+◌, max, arith}
use Rattle.circus_header.specs.Seen.Layout.{ended, end}
use Rattle.circus_header.specs.Seen.Layouts.{path_layout, clock_layout, client_layout, server_layout, ask_of, behind_server, behind_client, behind_path}
use Rattle.circus_header.proofs.Steps.{next_read, next_failed, then_read, then_failed, client_below, server_below}
use Rattle.circus_header.proofs.reading.ask.Goals as goal

pub returns-in_err-root : goal.returns-in_err-root
returns-in_err-root g c =
    next_failed c.in_err-root.ensures c.from_residual.ensures

pub returns-in_err-path : goal.returns-in_err-path
returns-in_err-path g c =
    next_read c.in_ok-root.ensures (
    then_failed path_layout (behind_path c.in_ok-root.root) c.in_err-path.ensures c.from_residual-in_err-path.ensures)

pub returns-in_err-client : goal.returns-in_err-client
returns-in_err-client g c =
    next_read c.in_ok-root.ensures (
    then_read path_layout (behind_path c.in_ok-root.root) c.in_ok-path.ensures (
    then_failed client_layout (behind_client c.in_ok-root.root c.in_ok-path.path) c.in_err-client.ensures c.from_residual-in_err-client.ensures))

pub returns-in_err-server : goal.returns-in_err-server
returns-in_err-server g c =
    next_read c.in_ok-root.ensures (
    then_read path_layout (behind_path c.in_ok-root.root) c.in_ok-path.ensures (
    then_read client_layout (behind_client c.in_ok-root.root c.in_ok-path.path) c.in_ok-client.ensures (
    then_failed server_layout (behind_server c.in_ok-root.root c.in_ok-path.path c.in_ok-client.client) c.in_err-server.ensures c.from_residual-in_err-server.ensures)))

pub returns-in_err-clock : goal.returns-in_err-clock
returns-in_err-clock g c =
    next_read c.in_ok-root.ensures (
    then_read path_layout (behind_path c.in_ok-root.root) c.in_ok-path.ensures (
    then_read client_layout (behind_client c.in_ok-root.root c.in_ok-path.path) c.in_ok-client.ensures (
    then_read server_layout (behind_server c.in_ok-root.root c.in_ok-path.path c.in_ok-client.client) c.in_ok-server.ensures (
    then_failed (clock_layout (max c.in_ok-client.client.number c.in_ok-server.server.number + 1)) (λ clock. end (ask_of c.in_ok-root.root c.in_ok-path.path c.in_ok-client.client c.in_ok-server.server clock)) (rw c.max.ensures at c.in_err-clock.ensures) c.from_residual-in_err-clock.ensures))))

pub overflow_add-max : goal.overflow_add-max
overflow_add-max g c = omega (arith, c.max.ensures, client_below c.in_ok-client.ensures, server_below c.in_ok-server.ensures)

pub returns : goal.returns
returns g c =
    next_read c.in_ok-root.ensures (
    then_read path_layout (behind_path c.in_ok-root.root) c.in_ok-path.ensures (
    then_read client_layout (behind_client c.in_ok-root.root c.in_ok-path.path) c.in_ok-client.ensures (
    then_read server_layout (behind_server c.in_ok-root.root c.in_ok-path.path c.in_ok-client.client) c.in_ok-server.ensures (
    then_read (clock_layout (max c.in_ok-client.client.number c.in_ok-server.server.number + 1)) (λ clock. end (ask_of c.in_ok-root.root c.in_ok-path.path c.in_ok-client.client c.in_ok-server.server clock)) (rw c.max.ensures at c.in_ok-clock.ensures) (
    ended)))))
