use Rattle.std.proofs.Common.{rules, ◌≡◌, [], length, drop, Ok, Err, sym, ap, ◌∙◌, subst, arith}
use Rattle.std.proofs.lemmas.List.{drop_all}
use Rattle.std.proofs.lemmas.Result.{err_from_is_err_and}
use Rattle.circus_value.specs.Parts.{AreOctets}
use Rattle.circus_external.specs.Answer.{found}
use Rattle.circus_external.specs.Octets.{first_word, first_long}
use Rattle.circus_transfer.specs.Snapshot.{snapshot_values}
use Rattle.circus_transfer.specs.Seen.Restored.{Restores}
use Rattle.circus_transfer.specs.declared.fault.TransferFault.TheVariants.{BadField, Excess}
use Rattle.circus_transfer.proofs.Answered.{IsLater, whole, number_end, number_later, state_fault_later, bytes_left, restored}
use Rattle.circus_transfer.proofs.restoring.restore.Goals as goal

pub returns-in_err-number-clause-restored : goal.returns-in_err-number-clause-restored
returns-in_err-number-clause-restored c proper =
    let bytes = c.args.bytes.now in
    let are : AreOctets c.args.bytes.now = search rules in
    let p = err_from_is_err_and c.from_residual.result c.from_residual.ensures.1 in
    let exact : Restores c.args.bytes.now c.from_residual.result (whole c.args.shapes.now c.args.bytes.now) = search rules in
    let later = number_later bytes bytes (first_word bytes) 2 0 c.in_err-number.field-0.0 c.in_err-number.ensures in
    restored c.args.shapes.now bytes c.from_residual.result are proper (subst IsLater (sym (p.1 ∙ ap Err p.2)) later) exact

pub returns-then-number-ne-SNAPSHOT-clause-restored : goal.returns-then-number-ne-SNAPSHOT-clause-restored
returns-then-number-ne-SNAPSHOT-clause-restored c proper =
    let are : AreOctets c.args.bytes.now = search rules in
    let exact : Restores c.args.bytes.now (Err (BadField 0)) (whole c.args.shapes.now c.args.bytes.now) = search rules in
    restored c.args.shapes.now c.args.bytes.now (Err (BadField 0)) are proper tt exact

pub returns-in_err-count-clause-restored : goal.returns-in_err-count-clause-restored
returns-in_err-count-clause-restored c proper =
    let bytes = c.args.bytes.now in
    let are : AreOctets c.args.bytes.now = search rules in
    let p = err_from_is_err_and c.from_residual-in_err-count.result c.from_residual-in_err-count.ensures.1 in
    let exact : Restores c.args.bytes.now c.from_residual-in_err-count.result (whole c.args.shapes.now c.args.bytes.now) = search rules in
    let later = number_later bytes (drop c.in_ok-number.at bytes) (first_long (drop c.in_ok-number.at bytes)) 4 c.in_ok-number.at c.in_err-count.field-0.0 c.in_err-count.ensures in
    restored c.args.shapes.now bytes c.from_residual-in_err-count.result are proper (subst IsLater (sym (p.1 ∙ ap Err p.2)) later) exact

pub returns-in_err-state-clause-restored : goal.returns-in_err-state-clause-restored
returns-in_err-state-clause-restored c proper =
    let bytes = c.args.bytes.now in
    let are : AreOctets c.args.bytes.now = search rules in
    let p = err_from_is_err_and c.from_residual-in_err-state.result c.from_residual-in_err-state.ensures.1 in
    let exact : Restores c.args.bytes.now c.from_residual-in_err-state.result (whole c.args.shapes.now c.args.bytes.now) = search rules in
    let end = number_end (first_long (drop c.in_ok-number.at bytes)) 4 c.in_ok-number.at (drop c.in_ok-number.at bytes) c.in_ok-count.count c.in_ok-count.at (drop c.in_ok-count.at bytes) (c.in_ok-count.ensures.1) in
    let later = state_fault_later c.args.shapes.now bytes c.in_ok-count.at c.in_err-state.field-0.0 (omega (arith, end)) are proper c.in_err-state.ensures in
    restored c.args.shapes.now bytes c.from_residual-in_err-state.result are proper (subst IsLater (sym (p.1 ∙ ap Err p.2)) later) exact

pub returns-then-end-bytes-clause-exact : goal.returns-then-end-bytes-clause-exact
returns-then-end-bytes-clause-exact c = record {
  values = snapshot_values c.in_ok-count.count c.in_ok-state.state;
  rest = drop c.in_ok-state.end c.args.bytes.now;
  answered = search rules;
  left = bytes_left c.args.bytes.now c.in_ok-state.end c.if-end-bytes.true;
}

pub returns-then-end-bytes-clause-restored : goal.returns-then-end-bytes-clause-restored
returns-then-end-bytes-clause-restored c proper =
    let are : AreOctets c.args.bytes.now = search rules in
    restored c.args.shapes.now c.args.bytes.now (Err (Excess c.in_ok-state.end)) are proper tt (returns-then-end-bytes-clause-exact c)

pub returns-clause-restored : goal.returns-clause-restored
returns-clause-restored c proper =
    let are : AreOctets c.args.bytes.now = search rules in
    let values = snapshot_values c.in_ok-count.count c.in_ok-state.state in
    let read : whole c.args.shapes.now c.args.bytes.now ≡ found (snapshot_values c.in_ok-count.count c.in_ok-state.state) c.in_ok-state.end (drop c.in_ok-state.end c.args.bytes.now) = search rules in
    let end : c.in_ok-state.end ≡ length c.args.bytes.now = omega (arith, c.if-end-bytes.false, c.in_ok-state.ensures.0) in
    let nothing : drop c.in_ok-state.end c.args.bytes.now ≡ [] = drop_all c.in_ok-state.end c.args.bytes.now (omega (arith, end)) in
    let exact = read ∙ ap (λ n. found values n (drop c.in_ok-state.end c.args.bytes.now)) end ∙ ap (λ r. found values (length c.args.bytes.now) r) nothing in
    restored c.args.shapes.now c.args.bytes.now (Ok (c.in_ok-state.state, c.in_ok-count.count)) are proper tt exact
