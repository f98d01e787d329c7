-- Lines that are written are read as they were.
use Rattle.std.proofs.Common.{◌≡◌, ◌∙◌, ◌<◌, ◌≤◌, ℕ, List, [], ◌∷◌, Option, Some, All, length, map, ap, sym, subst, inl, inr, refl, arith}
use Rattle.std.specs.Prelude.{option_map, option_and_then}
use Rattle.std.specs.List.{AllByRecursion}
use Rattle.std.proofs.lemmas.List.{length-map}
use Rattle.std.proofs.lemmas.List.Elements.{All-head, All-tail}
use Rattle.std.proofs.lemmas.Option.{slice_get_cases}
use Rattle.circus_collate.specs.Deployment.{IsDeployment}
use Rattle.circus_collate.specs.declared.deployment.Deployment.{Deployment}
use Rattle.circus_schedule.specs.declared.line.Line.{Line}
use Rattle.circus_schedule.specs.declared.line.Line.TheVariants.{Deliver, Tick, Crash, Down, Join}
use Rattle.circus_schedule.specs.WrittenLine.{IsName, IsWritten}
use Rattle.circus_schedule.specs.TextLines.{lines_of}
use Rattle.circus_schedule.specs.Meaning.{numbers_of, line_of, NamesBelow}
use Rattle.circus_schedule.specs.Answer.{most_lines, AreReadAs}
use Rattle.circus_schedule.specs.ScheduleText.{line_written, lines_text, StandFor, AreCalled, IsShort}
use Rattle.circus_schedule.proofs.NamedNodes.{named_node}
use Rattle.circus_schedule.proofs.WrittenAsRead.{read_from_written}

module _ (d : Deployment) (called : ℕ → List ℕ) (is : IsDeployment d) (names : AreCalled d.nodes called) where
  -- a node is called by a name that a line may have, and is found by it
  pub record IsFound (node : ℕ) : Type 0 where
    pub name : IsName (called node)
    pub number : numbers_of d.nodes (called node) ≡ Some node

  found : (node : ℕ) → node < length d.nodes → IsFound node
  found node below = elim (slice_get_cases d.nodes node).1 [
    | inl (host, within, there, same) ↦
        let named = named_node d node host is there in
        let name = sym (names node host there) in
        record { name = subst IsName name named.0; number = subst (λ (n : List ℕ). numbers_of d.nodes n ≡ Some node) name named.1 }
    | inr (past, none) ↦ absurd (omega (arith, past, below))
  ]

  line_stands : (line : Line) → NamesBelow (length d.nodes) line → line_of (numbers_of d.nodes) (line_written called line) ≡ Some line
  line_stands (Deliver number) below = refl
  line_stands (Tick node) below = ap (option_map Tick) (found node below).number
  line_stands (Crash node) below = ap (option_map Crash) (found node below).number
  line_stands (Down node told) below =
      ap (λ (o : Option ℕ). option_and_then (λ a. option_map (Down a) (numbers_of d.nodes (called told))) o) (found node below.0).number
      ∙ ap (option_map (Down node)) (found told below.1).number
  line_stands (Join node) below = ap (option_map Join) (found node below).number

  line_spelled : (line : Line) → NamesBelow (length d.nodes) line → IsShort line → IsWritten (line_written called line)
  line_spelled (Deliver number) below short = short
  line_spelled (Tick node) below short = (found node below).name
  line_spelled (Crash node) below short = (found node below).name
  line_spelled (Down node told) below short = ((found node below.0).name, (found told below.1).name)
  line_spelled (Join node) below short = (found node below).name

  stand : (lines : List Line) → All (NamesBelow (length d.nodes)) lines → StandFor (numbers_of d.nodes) (map (line_written called) lines) lines
  stand [] below = tt
  stand (line ∷ lines) below =
      (line_stands line (All-head (NamesBelow (length d.nodes)) line lines below), stand lines (All-tail (NamesBelow (length d.nodes)) line lines below))

  spelled : (lines : List Line) → All (NamesBelow (length d.nodes)) lines → All IsShort lines → AllByRecursion IsWritten (map (line_written called) lines)
  spelled [] below short = tt
  spelled (line ∷ lines) below short = (
    line_spelled line (All-head (NamesBelow (length d.nodes)) line lines below) (All-head IsShort line lines short),
    spelled lines (All-tail (NamesBelow (length d.nodes)) line lines below) (All-tail IsShort line lines short),
  )

  pub read_back : (lines : List Line) → All (NamesBelow (length d.nodes)) lines → All IsShort lines → length lines ≤ most_lines
      → AreReadAs (numbers_of d.nodes) (lines_of (lines_text called lines)) lines
  read_back lines below short few =
      read_from_written (numbers_of d.nodes) (lines_text called lines) lines (map (line_written called) lines)
      (record { spelled = inl refl; each = spelled lines below short; few = omega (arith, few, length-map lines (line_written called)) })
      (stand lines below)
