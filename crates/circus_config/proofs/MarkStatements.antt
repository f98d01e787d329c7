-- Statements keep the marks in their places.
use Rattle.std.proofs.Common.{ℕ, zero, suc, List, []}
use Rattle.std.specs.Prelude.{codes}
use Rattle.circus_syntax.specs.declared.stopping.StopCause.TheVariants.{TooDeep}
use Rattle.circus_syntax.specs.Placed.{word, sign, is_lexeme}
use Rattle.circus_expression.specs.declared.operator.Chain.TheVariants as of
use Rattle.circus_expression.specs.ExpressionReading.{expect_where, is_bracket}
use Rattle.circus_statement.specs.declared.starts.StatementStart.{StatementStart}
use Rattle.circus_statement.specs.declared.starts.StatementStart.TheVariants as begins
use Rattle.circus_statement.specs.StatementTree.{assign, while, append, call, return, raise}
use Rattle.circus_statement.specs.WrittenStatement.{written_statements, written_handlers}
use Rattle.circus_statement.specs.StatementReading.{is_word, begins_statement, start_of_statement, semicolon, list_end, required_list, places_within, places, into, call_head, of_error, of_others, handler_head, Block, handler_with, if_statement, statement_by, statement_with, opened_block, block}
use Rattle.circus_config.proofs.Marks.{Keeps, keeps_stopped, keeps_nothing, keeps_both, keeps_mapped, keeps_cased, keeps_either, keeps_optional, keeps_repeated, keeps_fixed, keeps_fixed_at, keeps_name, keeps_behind, keeps_list}
use Rattle.circus_config.proofs.MarkExpressions.{keeps_where, keeps_brackets, keeps_chained, keeps_place, keeps_written}

pub keeps_semicolon : Keeps semicolon
keeps_semicolon = keeps_fixed (sign (codes ";"))

pub keeps_list_end : Keeps list_end
unfolding list_end
keeps_list_end = keeps_mapped (λ x. tt) (keeps_both (keeps_fixed (word (codes "END"))) keeps_semicolon)

module _ (n : ℕ) where
  keeps_required : Keeps (required_list n)
  unfolding required_list
  keeps_required = keeps_where is_bracket (λ at. []) (keeps_written n)

  keeps_places : Keeps (places n)
  unfolding places places_within
  keeps_places = keeps_brackets (keeps_either (is_lexeme (sign (codes "]"))) (keeps_nothing []) (keeps_list (keeps_place n)))

  keeps_into : Keeps (into n)
  unfolding into
  keeps_into = keeps_mapped (λ x. record { at = x.0; places = x.1 }) (keeps_both (keeps_fixed_at (word (codes "INTO"))) keeps_places)

  keeps_call_head : Keeps (call_head n)
  unfolding call_head
  keeps_call_head =
      keeps_mapped (λ x. (x.0, record { «module» = x.1.0; procedure = x.1.1.1.0; arguments = x.1.1.1.1.0; into = x.1.1.1.1.1 }))
      (keeps_both (keeps_fixed_at (word (codes "CALL"))) (keeps_both keeps_name (keeps_both (keeps_fixed (sign (codes "."))) (keeps_both keeps_name (keeps_both keeps_required (keeps_optional (is_word (codes "INTO")) keeps_into))))))

  keeps_handler_head : Keeps (handler_head n)
  unfolding handler_head
  keeps_handler_head =
      keeps_either (is_word (codes "OTHER")) (keeps_mapped of_others (keeps_fixed_at (word (codes "OTHER"))))
      (keeps_mapped (λ x. of_error x.0 x.1) (keeps_both keeps_name (keeps_optional is_bracket keeps_places)))

  module _ (opened : Block) (B : (w : List ℕ) → Keeps (opened w)) where
    keeps_handler : Keeps (handler_with n opened)
    keeps_handler =
        keeps_mapped (λ x. record { handled = x.1.0; statements = x.1.1.0 })
        (keeps_both (keeps_fixed (word (codes "ON"))) (keeps_both keeps_handler_head (keeps_both (B (codes "BEGIN")) (keeps_fixed (word (codes "END"))))))

    keeps_by : (k : StatementStart) → Keeps (statement_by n opened k)
    keeps_by begins.Assign =
        keeps_mapped (λ x. assign x.0.name.at x.0 x.1.1.0) (keeps_both (keeps_place n) (keeps_both (keeps_fixed (sign (codes ":="))) (keeps_both (keeps_chained n of.Expression) keeps_semicolon)))
    keeps_by begins.If =
        keeps_mapped (λ x. if_statement x.0 x.1.0 x.1.1.0 x.1.1.1.0)
        (keeps_both (keeps_fixed_at (word (codes "IF"))) (keeps_both (keeps_chained n of.Expression) (keeps_both (B (codes "THEN")) (keeps_both (keeps_optional (is_word (codes "ELSE")) (B (codes "ELSE"))) keeps_list_end))))
    keeps_by begins.While =
        keeps_mapped (λ x. while x.0 x.1.0 (written_statements x.1.1.0)) (keeps_both (keeps_fixed_at (word (codes "WHILE"))) (keeps_both (keeps_chained n of.Expression) (keeps_both (B (codes "DO")) keeps_list_end)))
    keeps_by begins.Append =
        keeps_mapped (λ x. append x.0 x.1.0 x.1.1.1.0)
        (keeps_both (keeps_fixed_at (word (codes "APPEND"))) (keeps_both (keeps_chained n of.Expression) (keeps_both (keeps_fixed (word (codes "TO"))) (keeps_both (keeps_place n) keeps_semicolon))))
    keeps_by begins.Call =
        keeps_mapped (λ x. call x.0.0 x.0.1 (written_handlers x.1.0)) (keeps_both keeps_call_head (keeps_both (keeps_repeated (is_word (codes "ON")) keeps_handler) keeps_semicolon))
    keeps_by begins.Return = keeps_mapped (λ x. return x.0 x.1.0) (keeps_both (keeps_fixed_at (word (codes "RETURN"))) (keeps_both keeps_required keeps_semicolon))
    keeps_by begins.Raise = keeps_mapped (λ x. raise x.0 x.1.0 x.1.1.0) (keeps_both (keeps_fixed_at (word (codes "RAISE"))) (keeps_both keeps_name (keeps_both keeps_required keeps_semicolon)))

    keeps_statement : Keeps (statement_with n opened)
    keeps_statement = keeps_cased start_of_statement (statement_by n opened) keeps_by

keeps_opened : (n : ℕ) (w : List ℕ) → Keeps (opened_block n w)
unfolding opened_block
keeps_opened zero w = keeps_stopped TooDeep (λ at. [])
keeps_opened (suc n) w =
    keeps_behind (word w)
    (keeps_repeated begins_statement (keeps_statement n (λ v. expect_where (is_word v) (λ at. []) (opened_block n v)) (λ v. keeps_where (is_word v) (λ at. []) (keeps_opened n v))))

pub keeps_block : (n : ℕ) (w : List ℕ) → Keeps (block n w)
unfolding block
keeps_block n w = keeps_where (is_word w) (λ at. []) (keeps_opened n w)
