-- Nodes found by their names, and those that lines ask for.
use Rattle.std.proofs.Common.{◌≡◌, ◌≢◌, ◌∙◌, ◌+◌, ◌<◌, ◌⊎◌, ℕ, zero, suc, List, [], ◌∷◌, Option, Some, None, Result, Ok, Err, get_or, length, ap, refl, sym, subst, inl, inr, arith}
use Rattle.std.specs.Prelude.{slice_get, bytes_eq, option_map, option_and_then, IfOk}
use Rattle.std.specs.List.{position_from, All, AllZip}
use Rattle.std.proofs.lemmas.Bool.{cases_Bool, cond-true, cond-false, false_from_ne_true}
use Rattle.std.proofs.lemmas.List.Elements.{All-cons, All-nil}
use Rattle.std.proofs.lemmas.Option.{get_or_from_slice_get, slice_get_within}
use Rattle.std.proofs.lemmas.Slice.Eq.{bytes_eq-Decides}
use Rattle.circus_collate.specs.Deployment.{IsDeployment}
use Rattle.circus_collate.specs.declared.deployment.Deployment.{Deployment}
use Rattle.circus_collate.specs.declared.deployment.Host.{Host}
use Rattle.circus_schedule.specs.WrittenLine.{WrittenLine, deliver, tick, crash, down, join, IsName}
use Rattle.circus_schedule.specs.TextLines.{lines_of}
use Rattle.circus_schedule.specs.Meaning.{numbers_of, line_of, IsReadAs, NamesBelow}
use Rattle.circus_schedule.specs.Answer.{IsAnswer}
use Rattle.circus_schedule.specs.declared.line.Line.{Line}
use Rattle.circus_schedule.specs.declared.line.Line.TheVariants.{Deliver, Tick, Crash, Down, Join}
use Rattle.circus_schedule.specs.declared.schedule_fault.ScheduleFault.{ScheduleFault}
use Rattle.circus_schedule.specs.declared.schedule_fault.ScheduleFault.TheVariants.{NoMemory}

found_from : (nodes : List Host) (first place : ℕ) (node : Host) → ((i : ℕ) (d : Host) → i < place → (get_or nodes i d).name ≢ node.name) → slice_get nodes place ≡ Some node
    → position_from (λ (h : Host). bytes_eq h.name node.name) first nodes ≡ Some (first + place)
found_from [] first place node apart there = cc
found_from (h ∷ nodes) first zero node apart there =
    let same : h ≡ node = cc in
    let found = (bytes_eq-Decides h.name node.name).1 (ap (λ (x : Host). x.name) same) in
    cond-true _ (Some first) (position_from (λ (x : Host). bytes_eq x.name node.name) (first + 1) nodes) found ∙ ap Some (omega arith)
found_from (h ∷ nodes) first (suc place) node apart there =
    let passed = false_from_ne_true (bytes_eq h.name node.name) (λ found. apart 0 h (omega arith) ((bytes_eq-Decides h.name node.name).0 found)) in
    cond-false _ (Some first) (position_from (λ (x : Host). bytes_eq x.name node.name) (first + 1) nodes) passed
    ∙ found_from nodes (first + 1) place node (λ i d below. apart (suc i) d (omega arith)) there
    ∙ ap Some (omega arith)

-- a node of a deployment has a name, by which it is found
pub named_node : (d : Deployment) (number : ℕ) (node : Host) → IsDeployment d → slice_get d.nodes number ≡ Some node → IsName node.name × (numbers_of d.nodes node.name ≡ Some number)
named_node d number node is there =
    let host = is.nodes number node there in
    let apart : (i : ℕ) (e : Host) → i < number → (get_or d.nodes i e).name ≢ node.name = λ i e below same. is.names_differ i number e below (slice_get_within d.nodes number node there) (same ∙ ap (λ (x : Host). x.name) (sym (get_or_from_slice_get d.nodes number node e there))) in
    ((host.name, host.short_name), found_from d.nodes 0 number node apart there ∙ ap Some (omega arith))

-- a number that is found is that of a node
below_from : (nodes : List Host) (first : ℕ) (name : List ℕ) (number : ℕ) → position_from (λ (h : Host). bytes_eq h.name name) first nodes ≡ Some number → number < first + length nodes
below_from [] first name number found = cc
below_from (h ∷ nodes) first name number found = elim (cases_Bool (bytes_eq h.name name)) [
  | inl is ↦
      let here = cond-true _ (Some first) (position_from (λ (x : Host). bytes_eq x.name name) (first + 1) nodes) is in
      let same : first ≡ number = cc in
      omega arith
  | inr is ↦
      let behind = cond-false _ (Some first) (position_from (λ (x : Host). bytes_eq x.name name) (first + 1) nodes) is in
      omega (arith, below_from nodes (first + 1) name number (sym behind ∙ found))
]

number_below : (nodes : List Host) (name : List ℕ) (number : ℕ) → numbers_of nodes name ≡ Some number → number < length nodes
number_below nodes name number found = omega (arith, below_from nodes 0 name number found)

one_below : (count : ℕ) (found : Option ℕ) (f : ℕ → Line) (line : Line) → ((n : ℕ) → found ≡ Some n → n < count) → ((n : ℕ) → n < count → NamesBelow count (f n)) → option_map f found ≡ Some line → NamesBelow count line
one_below count None f line below names is = cc
one_below count (Some n) f line below names is =
    let same : f n ≡ line = cc in
    subst (NamesBelow count) same (names n (below n refl))

two_below : (count : ℕ) (first second : Option ℕ) (line : Line) → ((n : ℕ) → first ≡ Some n → n < count) → ((n : ℕ) → second ≡ Some n → n < count) → option_and_then (λ a. option_map (Down a) second) first ≡ Some line → NamesBelow count line
two_below count None second line below lower is = cc
two_below count (Some m) None line below lower is = cc
two_below count (Some m) (Some n) line below lower is =
    let same : Down m n ≡ line = cc in
    subst (NamesBelow count) same (below m refl, lower n refl)

line_below : (nodes : List Host) (written : WrittenLine) (line : Line) → line_of (numbers_of nodes) written ≡ Some line → NamesBelow (length nodes) line
line_below nodes (deliver number) line is =
    let same : Deliver number ≡ line = cc in
    subst (NamesBelow (length nodes)) same tt
line_below nodes (tick node) line is = one_below (length nodes) (numbers_of nodes node) Tick line (number_below nodes node) (λ n low. low) is
line_below nodes (crash node) line is = one_below (length nodes) (numbers_of nodes node) Crash line (number_below nodes node) (λ n low. low) is
line_below nodes (down node told) line is = two_below (length nodes) (numbers_of nodes node) (numbers_of nodes told) line (number_below nodes node) (number_below nodes told) is
line_below nodes (join node) line is = one_below (length nodes) (numbers_of nodes node) Join line (number_below nodes node) (λ n low. low) is

lines_below : (nodes : List Host) (texts : List (List ℕ)) (lines : List Line) → AllZip (IsReadAs (numbers_of nodes)) texts lines → All (NamesBelow (length nodes)) lines
lines_below nodes [] [] each = All-nil (NamesBelow (length nodes))
lines_below nodes [] (l ∷ lines) each = absurd each
lines_below nodes (t ∷ texts) [] each = absurd each
lines_below nodes (t ∷ texts) (l ∷ lines) each =
    All-cons (NamesBelow (length nodes)) l lines (line_below nodes each.0.0 l each.0.2) (lines_below nodes texts lines each.1)

-- lines that are read ask for nodes that there are
pub answer_below : (nodes : List Host) (text : List ℕ) (answer : Result (List Line) ScheduleFault) → (answer ≡ Err NoMemory) ⊎ IsAnswer (numbers_of nodes) text answer → IfOk answer (All (NamesBelow (length nodes)))
answer_below nodes text (Ok lines) (inl none) = cc
answer_below nodes text (Ok lines) (inr is) = lines_below nodes (lines_of text) lines is.each
answer_below nodes text (Err fault) is = tt
