-- The lines of a text.
use Rattle.std.specs.Prelude.{ℕ, ◌==◌, cond, List, [], ◌∷◌, option_map, Option, Some, None}
use Rattle.circus_audit.specs.Seen.Answers.{from_some}

-- a byte in front of the first line, if there is one
abbrev pub onto_line : ℕ → List (List ℕ) → Option (List (List ℕ))
onto_line byte [] = None
onto_line byte (line ∷ lines) = Some ((byte ∷ line) ∷ lines)

-- the lines of a text, each without its newline; nothing stands behind the last one
abbrev pub all_lines : List ℕ → Option (List (List ℕ))
all_lines [] = Some []
all_lines (byte ∷ text) = cond (byte == 10) (option_map (λ lines. [] ∷ lines) (all_lines text)) (from_some (all_lines text) (onto_line byte))
