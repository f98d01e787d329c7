-- A sample: lines that a word draws, each by what the world is then.
use Rattle.std.specs.Prelude.{ℕ, zero, suc, ◌+◌, ◌≡◌, false, not, ◌&&◌, if◌then◌else◌, List, [], ◌∷◌, length, slice_get, All, None, Ok, Err}
use Rattle.circus_value.specs.ValueTree.{ValueTree}
use Rattle.circus_value.specs.declared.outcome.Outcome.{Outcome}
use Rattle.circus_collate.specs.declared.deployment.Deployment.{Deployment}
use Rattle.circus_model.specs.NextTurn.{NextTurn}
use Rattle.circus_model.specs.declared.signature.Signature.{Signature}
use Rattle.circus_schedule.specs.declared.line.Line.{Line}
use Rattle.circus_schedule.specs.declared.sample.Facts.{Facts}
use Rattle.circus_schedule.specs.Sampling.{word_behind, line_drawn}
use Rattle.circus_world.specs.WorldState.{WorldState, Standing}
use Rattle.circus_world.specs.Legal.{is_spare}
use Rattle.circus_world.specs.Course.{Stepped, step_line}
use Rattle.circus_world.specs.Boot.{then_others}

module _ {M : Type 0} where
  -- the spares that weren't told to join, of nodes from this number on
  abbrev pub spares_from : Deployment → ℕ → List (Standing M) → List ℕ
  spares_from d number [] = []
  spares_from d number (s ∷ nodes) =
      if is_spare d number && not s.joins then number ∷ spares_from d (number + 1) nodes else spares_from d (number + 1) nodes

  -- what a line is drawn by
  abbrev pub facts_of : WorldState M → Facts
  facts_of w = record { sent = length w.sent; nodes = length w.nodes; spare = slice_get (spares_from w.deployment 0 w.nodes) 0 }

  -- no node has crashed or was told to join, as at boot
  abbrev pub IsUntouched : WorldState M → Type 0
  IsUntouched w = All (λ s. (s.crashed ≡ None) × (s.joins ≡ false)) w.nodes

  -- the lines that follow a step, if it was made
  abbrev pub lines_behind : (WorldState M → List Line) → Stepped M → List Line
  lines_behind others (Ok w) = others w
  lines_behind others (Err nodes) = []

module _ {M : Type 0} (declared : M → Signature) (turn : M → List ValueTree → ℕ → List ValueTree → List Outcome → NextTurn) where
  -- so many lines behind a word
  abbrev pub sample_lines : ℕ → ℕ → WorldState M → Stepped M
  sample_lines zero word w = Ok w
  sample_lines (suc left) word w =
      then_others (sample_lines left (word_behind word)) (step_line declared turn (line_drawn (word_behind word) (facts_of w)) w)

  -- the lines that are stepped so
  abbrev pub lines_drawn : ℕ → ℕ → WorldState M → List Line
  lines_drawn zero word w = []
  lines_drawn (suc left) word w =
      line_drawn (word_behind word) (facts_of w)
      ∷ lines_behind (lines_drawn left (word_behind word)) (step_line declared turn (line_drawn (word_behind word) (facts_of w)) w)
