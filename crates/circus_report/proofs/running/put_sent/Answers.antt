use Rattle.std.proofs.Common.{◌≡◌, ◌<◌, ◌≤◌, ◌+◌, ◌-◌, List, [], ◌++◌, length, take, drop, sym, ap, subst, ◌∙◌, arith}
use Rattle.std.proofs.lemmas.Option.{get_or_from_slice_get}
use Rattle.circus_collate.specs.declared.deployment.Host.{Host}
use Rattle.circus_record.specs.Naming.{names_of}
use Rattle.circus_world.specs.Sent.{Sent}
use Rattle.circus_world.specs.Seen.Entries.{sent_as}
use Rattle.circus_report.specs.Report.{sent_line, sent_lines}
use Rattle.circus_report.specs.Writing.{Writes, WritesPart}
use Rattle.circus_report.specs.Run.{sent_from}
use Rattle.circus_report.proofs.ToldLemmas.{Writes-joined, WritesPart-all, WritesPart-joined, take-behind}
use Rattle.circus_report.proofs.SentLines.{lines_before, lines_before-more, lines_before-all, WritesPart-lines}
use Rattle.circus_report.proofs.PutLemmas.{IsPut-no_memory, IsPut-stopped}
use Rattle.circus_report.proofs.running.put_sent.Goals as goal

pub returns-in_err-start-clause-put : goal.returns-in_err-start-clause-put
returns-in_err-start-clause-put g c =
    let w = c.args.world.now in
    let names = names_of w.deployment.nodes [] in
    let from = c.args.from in
    let all = c.sent-sent.result.now in
    let all_is : all ≡ w.sent = c.sent-sent.ensures in
    let old = g.K.Sink.written c.args.sink.now in
    let new = g.K.Sink.written c.loop-number.sink in
    let number = c.loop-number.number in
    IsPut-no_memory c.from_residual.result (sent_from from w) old new c.from_residual.ensures.1
    (subst (λ (l : List Sent). WritesPart old new (sent_lines names from (drop from l))) all_is
    (WritesPart-lines names from all old new number (WritesPart-all old new (lines_before names from all number) c.loop-number.invariant.written)))

pub returns-in_err-put_line-clause-put : goal.returns-in_err-put_line-clause-put
returns-in_err-put_line-clause-put g c =
    let w = c.args.world.now in
    let names = names_of w.deployment.nodes [] in
    let from = c.args.from in
    let all = c.sent-sent.result.now in
    let all_is : all ≡ w.sent = c.sent-sent.ensures in
    let old = g.K.Sink.written c.args.sink.now in
    let middle = g.K.Sink.written c.loop-number.sink in
    let new = g.K.Sink.written c.put_line.new.sink in
    let number = c.loop-number.number in
    let sent : Sent = sent_as c.at.result in
    let below : number < length all = omega (arith, c.loop-number-test.true, c.len-number-end.ensures) in
    let hosts : List Host = c.as_slice-nodes.result.now in
    let hosts_are : hosts ≡ c.args.world.now.deployment.nodes = c.as_slice-nodes.ensures ∙ ap (λ d. d.nodes) c.deployment.ensures.value in
    let start = c.in_ok-start.start in
    let room = c.as_slice.result.now in
    let line = take (length room - start) (drop start room) in
    let line_is : line ≡ sent_line names number sent =
    take-behind room start ∙ ap (drop start) c.as_slice.ensures.value ∙ c.in_ok-start.ensures.line ∙ ap (λ (hs : List Host). sent_line (names_of hs []) number sent) hosts_are in
    let more = lines_before-more names from all number sent c.loop-number.auto.number below (sym (get_or_from_slice_get all number sent sent c.at.ensures)) in
    let part : WritesPart old new (lines_before names from all number ++ line) =
    WritesPart-joined old middle new (lines_before names from all number) line c.loop-number.invariant.written c.in_err-put_line.ensures.part in
    let next : WritesPart old new (lines_before names from all (number + 1)) =
    subst (WritesPart old new) (ap (λ l. lines_before names from all number ++ l) line_is ∙ sym more) part in
    IsPut-stopped c.from_residual-in_err-put_line.result (sent_from from w) old new c.in_err-put_line.field-0.0 c.from_residual-in_err-put_line.ensures.1
    (subst (λ (l : List Sent). WritesPart old new (sent_lines names from (drop from l))) all_is
    (WritesPart-lines names from all old new (number + 1) next))

pub loop-number-preserved : goal.loop-number-preserved
loop-number-preserved g c =
    let names = names_of c.args.world.now.deployment.nodes [] in
    let from = c.args.from in
    let all = c.sent-sent.result.now in
    let old = g.K.Sink.written c.args.sink.now in
    let middle = g.K.Sink.written c.loop-number.sink in
    let new = g.K.Sink.written c.put_line.new.sink in
    let number = c.loop-number.number in
    let sent : Sent = sent_as c.at.result in
    let below : number < length all = omega (arith, c.loop-number-test.true, c.len-number-end.ensures) in
    let hosts : List Host = c.as_slice-nodes.result.now in
    let hosts_are : hosts ≡ c.args.world.now.deployment.nodes = c.as_slice-nodes.ensures ∙ ap (λ d. d.nodes) c.deployment.ensures.value in
    let start = c.in_ok-start.start in
    let room = c.as_slice.result.now in
    let line = take (length room - start) (drop start room) in
    let line_is : line ≡ sent_line names number sent =
    take-behind room start ∙ ap (drop start) c.as_slice.ensures.value ∙ c.in_ok-start.ensures.line ∙ ap (λ (hs : List Host). sent_line (names_of hs []) number sent) hosts_are in
    let more = lines_before-more names from all number sent c.loop-number.auto.number below (sym (get_or_from_slice_get all number sent sent c.at.ensures)) in
    record {
      written =
          subst (Writes old new) (ap (λ l. lines_before names from all number ++ l) line_is ∙ sym more)
          (Writes-joined old middle new (lines_before names from all number) line c.loop-number.invariant.written c.in_ok-put_line.ensures.written);
      count = c.in_ok-put_line.ensures.count ∙ c.loop-number.invariant.count;
    }

pub returns-clause-put : goal.returns-clause-put
returns-clause-put g c =
    let w = c.args.world.now in
    let names = names_of w.deployment.nodes [] in
    let from = c.args.from in
    let all = c.sent-sent.result.now in
    let all_is : all ≡ w.sent = c.sent-sent.ensures in
    let old = g.K.Sink.written c.args.sink.now in
    let new = g.K.Sink.written c.loop-number.sink in
    let within : from ≤ c.len-number-end.result = omega (arith, c.requires, ap length all_is, c.len-number-end.ensures) in
    let end : c.loop-number.number ≡ length all = omega (arith, c.loop-number-test.false, c.loop-number.auto.number-end within, c.len-number-end.ensures) in
    subst (λ (l : List Sent). Writes old new (sent_lines names from (drop from l))) all_is
    (subst (Writes old new) (ap (lines_before names from all) end ∙ lines_before-all names from all) c.loop-number.invariant.written)
