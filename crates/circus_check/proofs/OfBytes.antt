-- The texts in what was read are of bytes.
use Rattle.std.proofs.Common.{◌≡◌, ℕ, ◌+◌, ◌≤◌, Bool, true, false, cond, not, List, [], ◌∷◌, ◌++◌, length, map, refl, ap, arith, Option, Some, None}
use Rattle.std.specs.Prelude.{nat_lt, ◌&&◌, option_map}
use Rattle.std.specs.List.{AllByRecursion, list_all, prefix_len, position}
use Rattle.std.proofs.lemmas.Bool.{ltb-false}
use Rattle.std.proofs.lemmas.Bool.Decides.{nat_tests}
use Rattle.circus_text.specs.ByteClass.{quote, is_printable}
use Rattle.circus_syntax.specs.declared.named.Named.{Named}
use Rattle.circus_syntax.specs.Placed.{in_quotes}
use Rattle.circus_syntax.specs.Spelling.{IsText, IsEach, IfWritten}
use Rattle.circus_expression.specs.declared.operator.Chain.{Chain}
use Rattle.circus_expression.specs.ExpressionTree.{ExpressionTree, expression, expression_trees, suffix_trees}
use Rattle.circus_expression.specs.Standing.{join_with, beginning, stands_for, lean_left, stand_for, suffixes_stand_for, place_stands_for}
use Rattle.circus_expression.specs.Written as e
use Rattle.circus_expression.specs.Written.{Written, Links, WrittenList, WrittenSuffixes, WrittenPlace, IsWritten, AreLinks, AreWritten, AreSuffixes}
use Rattle.circus_statement.specs.StatementStanding as statement
use Rattle.circus_statement.specs.StatementTree as s
use Rattle.circus_statement.specs.StatementTree.{IntoOf}
use Rattle.circus_statement.specs.WrittenStatement.{WrittenStatement, WrittenStatements, WrittenHandlers, IsStatement, AreStatements, AreHandlers, AreListed, IsCaught, AreIn, ArePlaces}
use Rattle.circus_resolve.specs.Regular.{IsOfBytes, AreOfBytes, SuffixesAreOfBytes}
use Rattle.circus_body.specs.Regular.{PlaceIsOfBytes, HandledIsRead, IntoIsOfBytes, StatementIsOfBytes, StatementsAreOfBytes, HandlersAreOfBytes}

printable : (b : ℕ) → is_printable b ≡ true → nat_lt b 256 ≡ true
printable b is = grind (arith, nat_tests)

all_bytes : (content rest : List ℕ) → length (content ++ rest) ≤ prefix_len (λ c. not (not (is_printable c))) (content ++ rest) → list_all (λ b. nat_lt b 256) content ≡ true
all_bytes [] rest within = refl
all_bytes (b ∷ bs) rest within = by (is_printable b) refl within (λ passes. all_bytes bs rest passes)
  where
    by : (t : Bool) → is_printable b ≡ t → length (b ∷ (bs ++ rest)) ≤ cond (not (not t)) (1 + prefix_len (λ c. not (not (is_printable c))) (bs ++ rest)) 0 → (length (bs ++ rest) ≤ prefix_len (λ c. not (not (is_printable c))) (bs ++ rest) → list_all (λ c. nat_lt c 256) bs ≡ true) → (nat_lt b 256 && list_all (λ c. nat_lt c 256) bs) ≡ true
    by true is passes others = rw (printable b is) (others (omega (arith, passes)))
    by false is passes others = absurd (omega (arith, passes))

none_found : (w : List ℕ) → position (λ c. not (is_printable c)) w ≡ None → length w ≤ prefix_len (λ c. not (not (is_printable c))) w
none_found w none = by (nat_lt (prefix_len (λ c. not (not (is_printable c))) w) (length w)) refl none
  where
    by : (t : Bool) → nat_lt (prefix_len (λ c. not (not (is_printable c))) w) (length w) ≡ t → cond t (Some (prefix_len (λ c. not (not (is_printable c))) w)) None ≡ None → length w ≤ prefix_len (λ c. not (not (is_printable c))) w
    by true is found = absurd (cc)
    by false is found = ltb-false _ _ is

text_of_bytes : (content : List ℕ) → IsText content → list_all (λ b. nat_lt b 256) content ≡ true
text_of_bytes content good =
    let within = none_found (in_quotes content) good.no_bad_byte in
    all_bytes content (quote ∷ []) (behind within)
  where
    behind : length (in_quotes content) ≤ prefix_len (λ c. not (not (is_printable c))) (in_quotes content) → length (content ++ quote ∷ []) ≤ prefix_len (λ c. not (not (is_printable c))) (content ++ quote ∷ [])
    behind within = omega (arith, within)

begins : (at : ℕ) (t : ExpressionTree) → IsOfBytes t → IsOfBytes (beginning at t)
begins at (expression _ kind) own = own

mutual
  of_bytes : (w : Written) → IsWritten w → IsOfBytes (stands_for w)
  of_bytes (e.chain c w e.no_links) good = absurd good
  of_bytes (e.chain c w (e.link o v ls)) good = leans (stands_for w) c (e.link o v ls) (of_bytes w good.1) good.2
  of_bytes (e.negation at w) good = of_bytes w good.1
  of_bytes (e.comparison a o b) good = (of_bytes a good.1, of_bytes b good.4)
  of_bytes (e.is_arm a n) good = of_bytes a good.1
  of_bytes (e.minus at w) good = of_bytes w good.1
  of_bytes (e.number n) good = tt
  of_bytes (e.text content at) good = text_of_bytes content good
  of_bytes (e.truth b at) good = tt
  of_bytes (e.parentheses at w) good = begins at (stands_for w) (of_bytes w good)
  of_bytes (e.length_of at w) good = of_bytes w good
  of_bytes (e.label t n) good = tt
  of_bytes (e.arm t n w) good = of_bytes w good.2
  of_bytes (e.items t ws) good = list_of_bytes ws good.1
  of_bytes (e.place n ss) good = suffixes_of_bytes ss good.1

  leans : (t : ExpressionTree) (c : Chain) (ls : Links) → IsOfBytes t → AreLinks c ls → IsOfBytes (lean_left t ls)
  leans t c e.no_links own good = own
  leans t c (e.link o w ls) own good = leans (join_with o t (stands_for w)) c ls (own, of_bytes w good.2) good.3

  list_of_bytes : (ws : WrittenList) → AreWritten ws → AreOfBytes (expression_trees (stand_for ws))
  list_of_bytes e.no_items good = tt
  list_of_bytes (e.more_items w ws) good = (of_bytes w good.0, list_of_bytes ws good.1)

  suffixes_of_bytes : (ss : WrittenSuffixes) → AreSuffixes ss → SuffixesAreOfBytes (suffix_trees (suffixes_stand_for ss))
  suffixes_of_bytes e.no_suffixes good = tt
  suffixes_of_bytes (e.field n ss) good = suffixes_of_bytes ss good.1
  suffixes_of_bytes (e.subscript w ss) good = (of_bytes w good.0, suffixes_of_bytes ss good.1)

each_of_bytes : (ws : List Written) → IsEach IsWritten ws → AreOfBytes (expression_trees (map stands_for ws))
each_of_bytes [] good = tt
each_of_bytes (w ∷ ws) good = (of_bytes w good.0, each_of_bytes ws good.1)

places_of_bytes : (ps : List WrittenPlace) → ArePlaces ps → AllByRecursion PlaceIsOfBytes (map place_stands_for ps)
places_of_bytes [] good = tt
places_of_bytes (p ∷ ps) good = (suffixes_of_bytes p.suffixes good.0.1, places_of_bytes ps good.1)

into_of_bytes : (o : Option (IntoOf WrittenPlace)) → IfWritten AreIn o → IntoIsOfBytes (option_map statement.into_stands_for o)
into_of_bytes None good = tt
into_of_bytes (Some i) good = places_of_bytes i.places good

handled_is_read : (at : ℕ) (error : Option Named) (places : Option (List WrittenPlace)) → IsCaught at error places → HandledIsRead error (option_map statement.places_stand_for places)
handled_is_read at None places good = ap (option_map statement.places_stand_for) good
handled_is_read at (Some n) None good = tt
handled_is_read at (Some n) (Some ps) good = places_of_bytes ps good.2

mutual
  statement_of_bytes : (w : WrittenStatement) → IsStatement w → StatementIsOfBytes (statement.stands_for w)
  statement_of_bytes (s.assign at p v) good = (suffixes_of_bytes p.suffixes good.1.1, of_bytes v good.2)
  statement_of_bytes (s.only_then at v ss) good = (of_bytes v good.0, all_of_bytes ss good.1)
  statement_of_bytes (s.then_else at v ss os) good = (of_bytes v good.0, (all_of_bytes ss good.1, all_of_bytes os good.2))
  statement_of_bytes (s.while at v ss) good = (of_bytes v good.0, all_of_bytes ss good.1)
  statement_of_bytes (s.append at v p) good = (of_bytes v good.0, suffixes_of_bytes p.suffixes good.1.1)
  statement_of_bytes (s.call at c hs) good = (each_of_bytes c.arguments good.0.2, (into_of_bytes c.into good.0.3, handlers_of_bytes hs good.1))
  statement_of_bytes (s.return at vs) good = each_of_bytes vs good
  statement_of_bytes (s.raise at n vs) good = each_of_bytes vs good.1

  all_of_bytes : (ws : WrittenStatements) → AreStatements ws → StatementsAreOfBytes (statement.stand_for ws)
  all_of_bytes s.no_statements good = tt
  all_of_bytes (s.more_statements w ws) good = (statement_of_bytes w good.0, all_of_bytes ws good.1)

  handlers_of_bytes : (hs : WrittenHandlers) → AreHandlers hs → HandlersAreOfBytes (statement.handlers_stand_for hs)
  handlers_of_bytes s.no_handlers good = tt
  handlers_of_bytes (s.more_handlers h ss hs) good = (handled_is_read h.at h.error h.places good.0, (all_of_bytes ss good.1, handlers_of_bytes hs good.2))

pub listed_of_bytes : (ws : List WrittenStatement) → AreListed ws → StatementsAreOfBytes (s.statement_trees (map statement.stands_for ws))
listed_of_bytes [] good = tt
listed_of_bytes (w ∷ ws) good = (statement_of_bytes w good.0, listed_of_bytes ws good.1)
