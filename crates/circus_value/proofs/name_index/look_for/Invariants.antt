use Rattle.std.proofs.Common.{◌≡◌, drop, bytes_eq}
use Rattle.std.specs.List.{position_from}
use Rattle.circus_value.proofs.name_index.look_for.Given as goal

-- the items that are left decide
abbrev pub invariant-loop-place : goal.invariant-loop-place
invariant-loop-place g l =
    position_from (λ x. bytes_eq (g.T.HasName.name_of x) l.name) l.place (drop l.place l.items) ≡ position_from (λ x. bytes_eq (g.T.HasName.name_of x) l.name) 0 l.items
