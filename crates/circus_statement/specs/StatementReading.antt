-- The productions of statements, as they read.
use Rattle.std.specs.Prelude.{ℕ, Bool, ◌||◌, List, [], Option, Some, None, codes, if◌then◌else◌}
use Rattle.std.proofs.Common.{zero, suc}
use Rattle.circus_syntax.specs.declared.named.Named.{Named}
use Rattle.circus_syntax.specs.declared.stopping.StopCause.TheVariants.{TooDeep}
use Rattle.circus_syntax.specs.Placed.{Placed, word, sign, is_lexeme, is_name}
use Rattle.circus_syntax.specs.Reader.{Reader, stop_reading, nothing, both, map_read, choose_by, either, optional, repeat_while}
use Rattle.circus_syntax.specs.Reading.{expect_token, fixed_at, name, behind, comma_list}
use Rattle.circus_expression.specs.declared.operator.Chain.TheVariants as of
use Rattle.circus_expression.specs.ExpressionReading.{expect_where, in_brackets, is_bracket, read_chain, read_place, list}
use Rattle.circus_expression.specs.Written.{Written, WrittenPlace}
use Rattle.circus_statement.specs.declared.starts.StatementStart.{StatementStart}
use Rattle.circus_statement.specs.declared.starts.StatementStart.TheVariants as begins
use Rattle.circus_statement.specs.StatementTree.{IntoOf, CallOf, HandledOf, assign, only_then, then_else, while, append, call, return, raise}
use Rattle.circus_statement.specs.WrittenStatement.{WrittenStatement, WrittenHandler, written_statements, written_handlers}

abbrev pub is_word : List ℕ → Placed → Bool
is_word w = is_lexeme (word w)

-- a token with which a statement begins
abbrev pub begins_statement : Placed → Bool
begins_statement t =
    is_name t || (is_word (codes "IF") t || (is_word (codes "WHILE") t || (is_word (codes "APPEND") t || (is_word (codes "CALL") t
    || (is_word (codes "RETURN") t || is_word (codes "RAISE") t)))))

-- which statement it begins
abbrev pub statement_start : Option Placed → StatementStart
statement_start None = begins.Assign
statement_start (Some t) =
    if is_word (codes "IF") t then begins.If
    else (if is_word (codes "WHILE") t then begins.While
    else (if is_word (codes "APPEND") t then begins.Append
    else (if is_word (codes "CALL") t then begins.Call
    else (if is_word (codes "RETURN") t then begins.Return
    else (if is_word (codes "RAISE") t then begins.Raise
    else begins.Assign)))))

unfoldable pub start_of_statement : Option Placed → StatementStart
start_of_statement = statement_start

abbrev pub semicolon : Reader → Unit {0} × Reader
semicolon = expect_token (sign (codes ";"))

unfoldable pub list_end : Reader → Unit {0} × Reader
list_end = map_read (λ x. tt) (both (expect_token (word (codes "END"))) semicolon)

-- a list, where its bracket stands
unfoldable pub required_list : ℕ → Reader → List Written × Reader
required_list levels = expect_where is_bracket (λ at. []) (list levels)

unfoldable pub places_within : ℕ → Reader → List WrittenPlace × Reader
places_within levels = either (is_lexeme (sign (codes "]"))) (nothing []) (comma_list (read_place levels))

unfoldable pub places : ℕ → Reader → List WrittenPlace × Reader
places levels = in_brackets (places_within levels)

unfoldable pub into : ℕ → Reader → IntoOf WrittenPlace × Reader
into levels = map_read (λ x. record { at = x.0; places = x.1 }) (both (fixed_at (word (codes "INTO"))) (places levels))

unfoldable pub into_if_any : ℕ → Reader → Option (IntoOf WrittenPlace) × Reader
into_if_any levels = optional (is_word (codes "INTO")) (into levels)

-- the places of an error's values
unfoldable pub handled_places : ℕ → Reader → Option (List WrittenPlace) × Reader
handled_places levels = optional is_bracket (places levels)

unfoldable pub call_head : ℕ → Reader → (ℕ × CallOf Written WrittenPlace) × Reader
call_head levels =
    map_read (λ x. (x.0, record { «module» = x.1.0; procedure = x.1.1.1.0; arguments = x.1.1.1.1.0; into = x.1.1.1.1.1 }))
    (both (fixed_at (word (codes "CALL"))) (both name (both (expect_token (sign (codes "."))) (both name (both (required_list levels) (optional (is_word (codes "INTO")) (into levels)))))))

abbrev pub of_error : Named → Option (List WrittenPlace) → HandledOf WrittenPlace
of_error n places = record { at = n.at; error = Some n; places = places }

abbrev pub of_others : ℕ → HandledOf WrittenPlace
of_others at = record { at = at; error = None; places = None }

unfoldable pub handler_head : ℕ → Reader → HandledOf WrittenPlace × Reader
handler_head levels =
    either (is_word (codes "OTHER")) (map_read of_others (fixed_at (word (codes "OTHER"))))
    (map_read (λ x. of_error x.0 x.1) (both name (optional is_bracket (places levels))))

-- a word and the statements that it opens a list of
abbrev pub Block : Type 0
Block = List ℕ → Reader → List WrittenStatement × Reader

abbrev pub handler_with : ℕ → Block → Reader → WrittenHandler × Reader
handler_with levels block =
    map_read (λ x. record { handled = x.1.0; statements = x.1.1.0 })
    (both (expect_token (word (codes "ON"))) (both (handler_head levels) (both (block (codes "BEGIN")) (expect_token (word (codes "END"))))))

abbrev pub if_statement : ℕ → Written → List WrittenStatement → Option (List WrittenStatement) → WrittenStatement
if_statement at e ss None = only_then at e (written_statements ss)
if_statement at e ss (Some os) = then_else at e (written_statements ss) (written_statements os)

-- a statement of so many levels, whose lists of statements are read so
abbrev pub statement_by : ℕ → Block → StatementStart → Reader → WrittenStatement × Reader
statement_by levels block begins.Assign =
    map_read (λ x. assign x.0.name.at x.0 x.1.1.0) (both (read_place levels) (both (expect_token (sign (codes ":="))) (both (read_chain levels of.Expression) semicolon)))
statement_by levels block begins.If =
    map_read (λ x. if_statement x.0 x.1.0 x.1.1.0 x.1.1.1.0)
    (both (fixed_at (word (codes "IF"))) (both (read_chain levels of.Expression) (both (block (codes "THEN")) (both (optional (is_word (codes "ELSE")) (block (codes "ELSE"))) list_end))))
statement_by levels block begins.While =
    map_read (λ x. while x.0 x.1.0 (written_statements x.1.1.0)) (both (fixed_at (word (codes "WHILE"))) (both (read_chain levels of.Expression) (both (block (codes "DO")) list_end)))
statement_by levels block begins.Append =
    map_read (λ x. append x.0 x.1.0 x.1.1.1.0)
    (both (fixed_at (word (codes "APPEND"))) (both (read_chain levels of.Expression) (both (expect_token (word (codes "TO"))) (both (read_place levels) semicolon))))
statement_by levels block begins.Call =
    map_read (λ x. call x.0.0 x.0.1 (written_handlers x.1.0)) (both (call_head levels) (both (repeat_while (is_word (codes "ON")) (handler_with levels block)) semicolon))
statement_by levels block begins.Return = map_read (λ x. return x.0 x.1.0) (both (fixed_at (word (codes "RETURN"))) (both (required_list levels) semicolon))
statement_by levels block begins.Raise = map_read (λ x. raise x.0 x.1.0 x.1.1.0) (both (fixed_at (word (codes "RAISE"))) (both name (both (required_list levels) semicolon)))

abbrev pub statement_with : ℕ → Block → Reader → WrittenStatement × Reader
statement_with levels block = choose_by start_of_statement (statement_by levels block)

-- the word, where it opens a list of statements: one level fewer is left in it
unfoldable pub opened_block : ℕ → Block
opened_block zero lead = stop_reading TooDeep (λ at. [])
opened_block (suc levels) lead =
    behind (word lead) (repeat_while begins_statement (statement_with levels (λ w. expect_where (is_word w) (λ at. []) (opened_block levels w))))

unfoldable pub block : ℕ → Block
block levels lead = expect_where (is_word lead) (λ at. []) (opened_block levels lead)

unfoldable pub statement : ℕ → Reader → WrittenStatement × Reader
statement levels = statement_with levels (block levels)

unfoldable pub statement_from : ℕ → StatementStart → Reader → WrittenStatement × Reader
statement_from levels = statement_by levels (block levels)

unfoldable pub handler : ℕ → Reader → WrittenHandler × Reader
handler levels = handler_with levels (block levels)

unfoldable pub handlers : ℕ → Reader → List WrittenHandler × Reader
handlers levels = repeat_while (is_word (codes "ON")) (handler levels)

unfoldable pub else_block : ℕ → Reader → Option (List WrittenStatement) × Reader
else_block levels = optional (is_word (codes "ELSE")) (block levels (codes "ELSE"))
