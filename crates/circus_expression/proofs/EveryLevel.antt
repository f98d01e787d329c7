-- Expressions, places and lists are lawful with every number of levels.
use Rattle.std.proofs.Common.{◌≡◌, ℕ, ◌≤◌, suc, ◌<◌, Bool, true, false, refl, arith}
use Rattle.std.specs.Prelude.{Option, Some, None, codes, if◌then◌else◌, is_some}
use Rattle.circus_syntax.specs.Placed.{Placed, word, sign, is_lexeme, is_name}
use Rattle.circus_syntax.specs.Reading.{name}
use Rattle.circus_syntax.proofs.Repeats.{Shrinks}
use Rattle.circus_syntax.proofs.Tokens.{shrinks_both, shrinks_name}
use Rattle.circus_syntax.specs.Reader.{passes}
use Rattle.circus_syntax.proofs.Lawful.{Lawful, LawfulAt}
use Rattle.circus_syntax.proofs.Complete.{Any}
use Rattle.circus_expression.specs.declared.operator.Operator.{Operator}
use Rattle.circus_expression.specs.declared.operator.Operator.TheVariants as op
use Rattle.circus_expression.specs.declared.operator.Chain.TheVariants as of
use Rattle.circus_expression.specs.Operators.{operators, is_operator, comparisons}
use Rattle.circus_expression.specs.Written.{spelling, spelling_place, spelling_list, IsWritten, IsPlace}
use Rattle.circus_expression.specs.ExpressionReading.{read_chain, read_place, list, is_bracket, any_suffixes, openers}
use Rattle.circus_expression.specs.Ending.{Ends}
use Rattle.circus_expression.proofs.Follows.{Stays, grip_of}
use Rattle.circus_expression.proofs.Productions.{AreAll, lawful_expression, lawful_place}
use Rattle.circus_expression.proofs.Openers.{lawful_openers, sound_openers, sound_any_suffixes}
use Rattle.circus_expression.proofs.Ends.{AllLawful}

pub expressions_lawful : AllLawful (λ n. read_chain n of.Expression) spelling IsWritten (Stays 0)
unfolding read_chain
expressions_lawful n m above = lawful_expression n (lawful_openers n m above)

pub places_lawful : AllLawful read_place spelling_place IsPlace (Stays 7)
unfolding read_place
places_lawful n m above = lawful_place n (lawful_openers n m above)

pub lists_lawful : (n m : ℕ) → suc n < m → LawfulAt is_bracket n (list n) (list m) spelling_list AreAll Any
unfolding list
lists_lawful n m above = (lawful_openers n m above).list

-- a place takes the name with which it begins
pub shrinks_place : (n : ℕ) → Shrinks is_name (read_place n)
unfolding read_place
shrinks_place n r hit = shrinks_both is_name name (any_suffixes (openers n)) shrinks_name (sound_any_suffixes (sound_openers n)) r hit

one_missed : (b : Bool) (o : Operator) → is_some (if b then Some o else None) ≡ false → b ≡ false
one_missed true o h = cc
one_missed false o h = refl

-- what ends an expression binds to nothing
pub ends_stay : (o : Option Placed) → Ends o → Stays 0 o
ends_stay None ends = omega arith
ends_stay (Some t) (chains, compares, is, dot, bracket, parenthesis, hash) =
    let no_or = one_missed (is_lexeme (word (codes "OR")) t) op.Or (chains of.Expression) in
    let no_and = one_missed (is_lexeme (word (codes "AND")) t) op.And (chains of.Conjunct) in
    let none : grip_of t ≡ 0 = rw (no_or, no_and, compares, is, chains of.Sum, chains of.Term, dot, bracket, parenthesis, hash) refl in
    omega (arith, none)
