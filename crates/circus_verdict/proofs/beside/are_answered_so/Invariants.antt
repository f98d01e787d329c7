use Rattle.std.proofs.Common.{drop, ◌↔◌}
use Rattle.circus_member_theory.specs.Stands.{AreAnsweredSo}
use Rattle.circus_verdict.proofs.beside.are_answered_so.Given as goal

-- those that are left decide
abbrev pub invariant-loop-place : goal.invariant-loop-place
invariant-loop-place l = AreAnsweredSo l.asks l.made ↔ AreAnsweredSo (drop l.place l.asks) (drop l.place l.made)
