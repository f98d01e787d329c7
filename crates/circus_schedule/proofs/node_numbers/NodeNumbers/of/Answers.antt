use Rattle.std.proofs.Common.{◌≡◌, ◌∙◌, ◌+◌, ◌-◌, ◌<◌, ℕ, cond, List, Option, Some, length, get_or, drop, ap, subst, sym, arith}
use Rattle.std.specs.Prelude.{bytes_eq}
use Rattle.std.specs.List.{position_from}
use Rattle.std.proofs.lemmas.List.{drop_more}
use Rattle.std.proofs.lemmas.Map.Text.{btree_map_updates_str}
use Rattle.circus_collate.specs.declared.deployment.Host.{Host}
use Rattle.circus_schedule.specs.Seen.Table.{number_in}
use Rattle.circus_schedule.proofs.node_numbers.NodeNumbers.of.Goals as goal

-- where the name stands among the nodes from this number on
abbrev from : List ℕ → ℕ → List Host → Option ℕ
from name number nodes = position_from (λ (node : Host). bytes_eq node.name name) number nodes

-- one node before those that are in the table
one_before : (nodes : List Host) (number : ℕ) (node : Host) (name : List ℕ) (found : Option ℕ) → number < length nodes → found ≡ from name (number + 1) (drop (number + 1) nodes)
    → cond (bytes_eq (get_or nodes number node).name name) (Some number) found ≡ from name number (drop number nodes)
one_before nodes number node name found inside behind =
    ap (cond (bytes_eq (get_or nodes number node).name name) (Some number)) behind ∙ ap (from name number) (sym (drop_more nodes number node inside))

pub loop-number-preserved : goal.loop-number-preserved
unfolding number_in
loop-number-preserved c = λ name.
    let nodes = c.args.nodes.now in
    let number = c.loop-number.number in
    let node = c.index-nodes-number.result in
    let found = number_in c.loop-number.numbers name in
    let one_more : number ≡ number - 1 + 1 = omega arith in
    let behind = subst (λ (n : ℕ). found ≡ from name n (drop n nodes)) one_more (c.loop-number.invariant name) in
    btree_map_updates_str c.as_slice.result.now c.loop-number.numbers.table c.insert.new.self _ c.in_ok-insert.ensures.updates name
    ∙ ap (λ bytes. cond (bytes_eq bytes name) (Some (number - 1)) found) c.as_slice.ensures
    ∙ one_before nodes (number - 1) node name found (omega arith) behind
