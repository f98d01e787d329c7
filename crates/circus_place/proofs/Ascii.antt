-- The names of machines are of letters and digits.
use Rattle.std.proofs.Common.{ℕ, List, [], ◌∷◌, map, sym, subst, Result, Ok, Err, IfOk}
use Rattle.std.specs.Prelude.{All, IsAscii}
use Rattle.std.specs.List.{AllByRecursion}
use Rattle.std.proofs.lemmas.List.Elements.{All-from_recursion}
use Rattle.circus_text.proofs.Words.{word_ascii}
use Rattle.circus_syntax.specs.Spelling.{IsEach}
use Rattle.circus_place.specs.declared.placing.Machine.{Machine}
use Rattle.circus_place.specs.declared.placing.Placing.{Placing}
use Rattle.circus_place.specs.declared.place_fault.PlaceFault.{PlaceFault}
use Rattle.circus_place.specs.declared.text.MachineText.{MachineText}
use Rattle.circus_place.specs.Grammar.{IsMachine}
use Rattle.circus_place.specs.Means.{machine_meant}
use Rattle.circus_place.specs.ReadAs.{IsReadAs}

machines_ascii : (ms : List MachineText) → IsEach IsMachine ms → AllByRecursion (λ (m : Machine). IsAscii m.name) (map machine_meant ms)
machines_ascii [] each = tt
machines_ascii (m ∷ ms) each = (word_ascii m.name.name each.0.0.0.formed, machines_ascii ms each.1)

pub names_ascii : (text : List ℕ) (r : Result Placing PlaceFault) → IfOk r (λ p. IsReadAs text p) → IfOk r (λ p. All (λ (m : Machine). IsAscii m.name) p.machines)
names_ascii text (Ok p) is =
    subst (All (λ (m : Machine). IsAscii m.name)) (sym is.means.machines)
    (All-from_recursion (λ (m : Machine). IsAscii m.name) (map machine_meant is.tree.machines) (machines_ascii is.tree.machines is.spelled.grammatical.0))
names_ascii text (Err e) is = tt
