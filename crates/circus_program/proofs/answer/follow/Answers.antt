use Rattle.std.proofs.Common.{map}
use Rattle.std.specs.String.{string_bytes}
use Rattle.circus_program.specs.Seen.Known.{AreKnownBy, OfContents, ShortLinesOf}
use Rattle.circus_program.proofs.AnswerLemmas.{result-of_command, result-of_two, asks-of_command}
use Rattle.circus_program.proofs.Known.{holds_ok, then_ok, command_known, of_two_known, no_form_known}
use Rattle.circus_program.proofs.answer.follow.Goals as goal

pub returns-in-OneFile-clause-due : goal.returns-in-OneFile-clause-due
returns-in-OneFile-clause-due g c =
    let asked = c.in-OneFile in
    result-of_command (g.S.Shelf.contents c.args.shelf.now) _ _ asked.command asked.file.now c.one_file.result c.in-Some.ensures.form asked.ensures c.one_file.ensures.due

pub returns-in-OneFile-clause-asked : goal.returns-in-OneFile-clause-asked
returns-in-OneFile-clause-asked g c =
    let asked = c.in-OneFile in
    asks-of_command _ _ _ _ asked.command asked.file.now c.in-Some.ensures.form asked.ensures c.one_file.ensures.asked

pub returns-in-OneFile-clause-known : goal.returns-in-OneFile-clause-known
returns-in-OneFile-clause-known g c =
    let shelf = g.S.Shelf.contents c.args.shelf.now in
    let asked = c.in-OneFile in
    then_ok (OfContents shelf (AreKnownBy asked.command) asked.file.now) (ShortLinesOf shelf (map string_bytes c.args.words.now)) c.one_file.result
    (command_known shelf _ _ asked.command asked.file.now c.in-Some.ensures.form asked.ensures) c.one_file.ensures.known

pub returns-in-TwoFiles-clause-due : goal.returns-in-TwoFiles-clause-due
returns-in-TwoFiles-clause-due g c =
    let asked = c.in-TwoFiles in
    result-of_two (g.S.Shelf.contents c.args.shelf.now) _ _ asked.second asked.program.now asked.file.now c.two_files.result c.in-Some.ensures.form asked.ensures
    c.two_files.ensures.due

pub returns-in-TwoFiles-clause-known : goal.returns-in-TwoFiles-clause-known
returns-in-TwoFiles-clause-known g c =
    let shelf = g.S.Shelf.contents c.args.shelf.now in
    let asked = c.in-TwoFiles in
    holds_ok (ShortLinesOf shelf (map string_bytes c.args.words.now)) c.two_files.result
    (of_two_known shelf _ _ asked.second asked.program.now asked.file.now c.in-Some.ensures.form asked.ensures)

pub returns-in_default-clause-known : goal.returns-in_default-clause-known
returns-in_default-clause-known g c = λ whole. no_form_known _ _ c.in_default.ensures.none
