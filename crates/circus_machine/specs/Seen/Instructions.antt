-- The code's instructions as acts, and what the code of handlers is before its jumps are set.
use Rattle.std.specs.Prelude.{ℕ, ◌+◌, ◌-◌, List, [], ◌∷◌, ◌++◌, length, map, slice_set}
use Rattle.circus_checked.specs.ExpressionOf.{tree_of}
use Rattle.circus_checked.specs.StatementTree.{HandlerTree, statement_trees}
use Rattle.circus_machine.specs.Seen.Code as code
use Rattle.circus_machine.specs.Seen.Code.{Act, assign, append, unless, jump, again, ask, give, raise, codes_of}
use Rattle.circus_machine.specs.declared.code.Catch.{Catch}
use Rattle.circus_machine.specs.declared.code.Instruction.{Instruction}
use Rattle.circus_machine.specs.declared.code.Instruction.TheVariants as I

abbrev pub catch_of : Catch → code.Catch
catch_of c = record { error = c.error; places = c.places; offset = c.offset }

abbrev pub act_of : Instruction → Act
act_of (I.Assign place e) = assign place (tree_of e)
act_of (I.Append e place bound kind) = append (tree_of e) place bound kind
act_of (I.Unless e offset) = unless (tree_of e) offset
act_of (I.Jump offset) = jump offset
act_of (I.Again e offset) = again (tree_of e) offset
act_of (I.Ask a) = ask a.callee a.procedure a.arguments a.into (map catch_of a.catches) a.skip
act_of (I.Give es) = give es
act_of (I.Raise error es) = raise error es

abbrev pub acts_of : List Instruction → List Act
acts_of code = map act_of code

-- the code of handlers, each with a jump that isn't set
abbrev pub open_code : List HandlerTree → List Act
open_code [] = []
open_code (h ∷ hs) = codes_of (statement_trees h.statements) ++ jump 0 ∷ open_code hs

-- where these jumps are, the first handler's code being at a place
abbrev pub exits_from : ℕ → List HandlerTree → List ℕ
exits_from at [] = []
exits_from at (h ∷ hs) = (at + length (codes_of (statement_trees h.statements))) ∷ exits_from (at + length (codes_of (statement_trees h.statements)) + 1) hs

-- the jumps at these places lead to an end
abbrev pub leading_to : ℕ → List ℕ → List Act → List Act
leading_to end [] acts = acts
leading_to end (exit ∷ exits) acts = leading_to end exits (slice_set acts exit (jump (end - exit - 1)))
