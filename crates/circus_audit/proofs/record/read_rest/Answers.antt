use Rattle.std.proofs.Common.{◌≡◌, ◌∙◌, ◌+◌, ◌-◌, length, map, drop, Err, sym, subst, ap, arith, length-drop}
use Rattle.circus_record.specs.Naming.{host_name}
use Rattle.circus_audit.specs.Seen.Outlook.{follow_line, bad_behind}
use Rattle.circus_audit.specs.Seen.Read.{IsLine}
use Rattle.circus_audit.specs.Seen.Reading.{rest_read, fault_at}
use Rattle.circus_audit.proofs.Looking.{bad_later, bad_end, lost_line}
use Rattle.circus_audit.proofs.Staged.{line_first, rest_more}
use Rattle.circus_audit.proofs.record.read_rest.Goals as goal

pub loop-end-preserved : goal.loop-end-preserved
loop-end-preserved c =
    let plan = c.args.reader.plan.now in
    let own = c.args.reader.own in
    let hosted = c.args.reader.hosted.now in
    let rest = c.loop-end.rest.now in
    let end = c.in-Some.end in
    let few = line_first rest end (sym c.in-Some.ensures) in
    let shorter : length (drop (end + 1) rest) ≡ length rest - (end + 1) = length-drop (end + 1) rest in
    let left = ap length c.rest_at-rest.ensures in
    let looked = c.in_ok-outlook.ensures ∙ (λ i. follow_line (map host_name (c.as_slice.ensures i)) (c.len.ensures i) own hosted c.in-Ok.next c.loop-end.line c.loop-end.outlook) in
    record {
      read = c.loop-end.invariant.read ∙ rest_more plan own hosted c.loop-end.stage c.in-Ok.next rest end (sym c.in-Some.ensures) c.in-Ok.ensures ∙ ap (rest_read plan own hosted c.in-Ok.next) (sym c.rest_at-rest.ensures);
      bad =
          c.loop-end.invariant.bad
          ∙ bad_later plan own hosted rest c.loop-end.line c.loop-end.outlook c.loop-end.stage c.in-Ok.next end (sym c.in-Some.ensures) c.in-Ok.ensures
          ∙ (λ i. bad_behind plan own hosted (sym c.rest_at-rest.ensures i) (c.loop-end.line + 1) (sym looked i) c.in-Ok.next);
      few = omega (arith, c.loop-end.invariant.few, left, shorter, few.0);
    }

pub returns-in-Err-clause-bad : goal.returns-in-Err-clause-bad
returns-in-Err-clause-bad c =
    let plan = c.args.reader.plan.now in
    let own = c.args.reader.own in
    let hosted = c.args.reader.hosted.now in
    let fault = c.fault_at.ensures ∙ ap (λ n. fault_at n c.in-Err.unread) c.bad_line.ensures in
    subst (IsLine (Err c.fault_at.result)) (sym c.loop-end.invariant.bad)
    (lost_line plan own hosted c.loop-end.rest.now c.loop-end.line c.loop-end.outlook c.loop-end.stage c.in-Some.end c.in-Err.unread c.fault_at.result (sym c.in-Some.ensures) c.in-Err.ensures fault)

pub returns-then-not-is_empty-clause-bad : goal.returns-then-not-is_empty-clause-bad
returns-then-not-is_empty-clause-bad c =
    let plan = c.args.reader.plan.now in
    let own = c.args.reader.own in
    let hosted = c.args.reader.hosted.now in
    let none = sym c.line_end.ensures ∙ c.in_default.is in
    c.bad_line-then-not-is_empty.ensures
    ∙ sym (c.loop-end.invariant.bad ∙ bad_end plan own hosted c.loop-end.rest.now c.loop-end.line c.loop-end.outlook c.loop-end.stage none)
