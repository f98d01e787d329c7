use Rattle.std.proofs.Common.{◌≡◌, ◌-◌, ◌≤◌, [], length, drop}
use Rattle.circus_value_text.specs.WordReading.{counts_read}
use Rattle.circus_value_text.specs.Seen.Given.{count_mark}
use Rattle.circus_value_text.proofs.PieceLemmas.{octets_before}
use Rattle.circus_value_text.proofs.words.read_clock.Given as goal

-- the counts so far stand in front of those that are left
abbrev pub invariant-loop : goal.invariant-loop
invariant-loop l = record {
  within : l.place ≤ length l.text;
  read : counts_read l.count [] (drop l.at l.text) ≡ octets_before l.clock (counts_read (l.count - l.counter) (count_mark l.clock) (drop l.place l.text));
}
