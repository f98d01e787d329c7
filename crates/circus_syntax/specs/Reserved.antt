-- The words that are no names.
use Rattle.std.specs.Prelude.{ℕ, Bool, List, [], ◌∷◌, codes, bytes_eq}
use Rattle.std.specs.List.{list_any}

unfoldable pub reserved_words : List (List ℕ)
reserved_words =
    codes "CIRCUS" ∷ codes "PROGRAM" ∷ codes "VERSION" ∷ codes "BEGIN" ∷ codes "END" ∷ codes "TYPE" ∷ codes "ERROR" ∷ codes "PROCEDURE" ∷
    codes "RETURNS" ∷ codes "REPORTS" ∷ codes "BOOLEAN" ∷ codes "CARDINAL" ∷ codes "LONG" ∷ codes "INTEGER" ∷ codes "STRING" ∷ codes "ARRAY" ∷
    codes "OF" ∷ codes "SEQUENCE" ∷ codes "RECORD" ∷ codes "CHOICE" ∷ codes "MODULE" ∷ codes "IMPLEMENTS" ∷ codes "ROOT" ∷ codes "IMPORTS" ∷
    codes "VAR" ∷ codes "MAIN" ∷ codes "IF" ∷ codes "THEN" ∷ codes "ELSE" ∷ codes "WHILE" ∷ codes "DO" ∷ codes "APPEND" ∷
    codes "TO" ∷ codes "CALL" ∷ codes "INTO" ∷ codes "RETURN" ∷ codes "RAISE" ∷ codes "ON" ∷ codes "OTHER" ∷ codes "OR" ∷
    codes "AND" ∷ codes "NOT" ∷ codes "IS" ∷ codes "DIV" ∷ codes "MOD" ∷ codes "TRUE" ∷ codes "FALSE" ∷ codes "LENGTH" ∷
    codes "RINGMASTER" ∷ codes "PORT" ∷ codes "TROUPE" ∷ codes "CALLS" ∷ codes "REPLIES" ∷ codes "MEMBERS" ∷ codes "SPARES" ∷ codes "FIRST" ∷
    codes "MAJORITY" ∷ codes "UNANIMOUS" ∷ []

unfoldable pub is_reserved : List ℕ → Bool
is_reserved w = list_any (λ r. bytes_eq r w) reserved_words
