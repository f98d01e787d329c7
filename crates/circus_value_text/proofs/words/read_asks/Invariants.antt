use Rattle.std.proofs.Common.{◌≡◌, ◌-◌, ◌≤◌, length, drop}
use Rattle.circus_value_text.specs.WordReading.{asks_read}
use Rattle.circus_value_text.proofs.PieceLemmas.{octets_before}
use Rattle.circus_value_text.proofs.words.read_asks.Given as goal

-- the asks so far stand in front of those that are left
abbrev pub invariant-loop : goal.invariant-loop
invariant-loop l = record {
  within : l.place ≤ length l.text;
  read : asks_read (length l.text) (drop l.at l.text) ≡ octets_before l.path (asks_read (length l.text - l.counter) (drop l.place l.text));
}
