use Rattle.std.proofs.Common.{◌≡◌, ◌+◌, ◌≤◌, length}
use Rattle.circus_audit.specs.Seen.Outlook.{nothing_expected, bad_behind}
use Rattle.circus_audit.specs.Seen.Reading.{beginning, rest_read}
use Rattle.circus_audit.proofs.record.read_rest.Given as goal

-- what is left says the same from the stage as the whole from the beginning
abbrev pub invariant-loop-end : goal.invariant-loop-end
invariant-loop-end l = record {
  read :
      rest_read l.fn.reader.plan.now l.fn.reader.own l.fn.reader.hosted.now beginning l.text
      ≡ rest_read l.fn.reader.plan.now l.fn.reader.own l.fn.reader.hosted.now l.stage l.rest;
  bad :
      bad_behind l.fn.reader.plan.now l.fn.reader.own l.fn.reader.hosted.now l.text 2 nothing_expected beginning
      ≡ bad_behind l.fn.reader.plan.now l.fn.reader.own l.fn.reader.hosted.now l.rest l.line l.outlook l.stage;
  few : l.line + length l.rest ≤ 4294967295;
}

abbrev pub decreases-loop-end : goal.decreases-loop-end
decreases-loop-end l = length l.rest
