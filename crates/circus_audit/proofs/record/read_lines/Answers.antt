use Rattle.std.proofs.Common.{◌∙◌, sym, subst}
use Rattle.circus_audit.specs.Seen.Outlook.{bad_behind, nothing_expected}
use Rattle.circus_audit.specs.Seen.Read.{IsRead, IsLine}
use Rattle.circus_audit.specs.Seen.Reading.{beginning, rest_read}
use Rattle.circus_audit.proofs.Staged.{record_first, record_none}
use Rattle.circus_audit.proofs.Looking.{bad_record, bad_none, own_line}
use Rattle.circus_audit.proofs.record.read_lines.Goals as goal

pub returns-in_default-clause-read : goal.returns-in_default-clause-read
returns-in_default-clause-read c = record_none c.args.plan.now c.args.bytes.now (sym c.line_end.ensures ∙ c.in_default.is)

pub returns-clause-read : goal.returns-clause-read
returns-clause-read c =
    let plan = c.args.plan.now in
    let own = c.in-Ok.own in
    let first = record_first plan c.args.bytes.now c.in-Some.end own (sym c.in-Some.ensures) c.in-Ok.ensures in
    let same = first ∙ (λ i. rest_read plan own (sym c.in_ok-hosted.ensures i) beginning (sym c.rest_at.ensures i)) in
    subst (IsRead c.read_rest.result) (sym same) c.read_rest.ensures.read

pub returns-in_default-clause-bad : goal.returns-in_default-clause-bad
returns-in_default-clause-bad c = sym (bad_none c.args.plan.now c.args.bytes.now (sym c.line_end.ensures ∙ c.in_default.is))

pub returns-clause-bad : goal.returns-clause-bad
returns-clause-bad c =
    let plan = c.args.plan.now in
    let own = c.in-Ok.own in
    let first = bad_record plan c.args.bytes.now c.in-Some.end own (sym c.in-Some.ensures) c.in-Ok.ensures in
    let same = first ∙ (λ i. bad_behind plan own (sym c.in_ok-hosted.ensures i) (sym c.rest_at.ensures i) 2 nothing_expected beginning) in
    subst (IsLine c.read_rest.result) (sym same) c.read_rest.ensures.bad

pub returns-in-Err-clause-bad : goal.returns-in-Err-clause-bad
returns-in-Err-clause-bad c =
    own_line c.args.plan.now c.args.bytes.now c.in-Some.end c.in-Err.unread c.fault_at.result (sym c.in-Some.ensures) c.in-Err.ensures c.fault_at.ensures
