use Rattle.std.proofs.Common.{◌≡◌, ◌≤◌, length, drop}
use Rattle.circus_value_text.specs.Reading.{octets_read}
use Rattle.circus_value_text.proofs.PieceLemmas.{octets_before, octets_left}
use Rattle.circus_value_text.proofs.piece.read_octets.Given as goal

-- the bytes so far stand in front of those that are left
abbrev pub invariant-loop : goal.invariant-loop
invariant-loop l = record {
  within : l.place ≤ length l.text;
  read : octets_read l.most (drop l.at l.text) ≡ octets_before l.octets (octets_left l.most l.counter (drop l.place l.text));
}
