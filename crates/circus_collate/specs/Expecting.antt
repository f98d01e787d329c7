-- Who is in a view, and who is expected to say a value.
use Rattle.std.specs.Prelude.{ℕ, Bool, false, ◌==◌, nat_le, List, map, filter}
use Rattle.std.specs.List.{list_any}
use Rattle.circus_collate.specs.declared.view.Since.{Since}
use Rattle.circus_collate.specs.declared.view.Since.TheVariants.{Joining, From}
use Rattle.circus_collate.specs.declared.view.Entry.{Entry}
use Rattle.circus_collate.specs.declared.view.View.{View}
use Rattle.circus_collate.specs.declared.view.Expected.{Expected}

abbrev pub has_node : View → ℕ → Bool
has_node view node = list_any (λ (e : Entry). e.node == node) view.entries

-- a member performs an index itself
abbrev pub performs : Since → ℕ → Bool
performs Joining index = false
performs (From first) index = nat_le first index

-- the nodes of the entries that perform an index themselves, in view order
unfoldable pub expected_nodes : View → ℕ → List ℕ
expected_nodes view index = map (λ (e : Entry). e.node) (filter (λ (e : Entry). performs e.since index) view.entries)

abbrev pub nodes_of : Expected → List ℕ
nodes_of expected = expected_nodes expected.view.now expected.index
