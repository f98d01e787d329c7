-- A statement's tree as a tree of numbers, by which a proof tells two apart.
use Rattle.std.specs.Prelude.{ℕ, List, [], ◌∷◌, ◌≡◌, refl, Option, Some, None}
use Rattle.std.specs.Coded.{Coded, code_by}
use Rattle.std.proofs.Common.{ap, zero, suc}
use base.Stored.{Gv, gnil, gnum, gcons, num}
use denote.Struct.Codes.{itself}
use Rattle.circus_checked.specs.declared.kinds.NumberKind.{NumberKind}
use Rattle.circus_checked.specs.declared.expression.CheckedPlace.{CheckedPlace}
use Rattle.circus_checked.specs.ExpressionTree.{ExpressionTree, SuffixTree}
use Rattle.circus_checked.specs.StatementTree.{StatementTree, StatementTrees, HandlerTrees, HandlerTree, assign, branch, repeat, append, call, give, raise, no_statements, more_statements, no_handlers, more_handlers}
use Rattle.circus_checked.specs.Seen.ExpressionCode.{first_of, second_of, kind_to, kind_from, kind_back, expression_to, expression_from, expression_back, suffix_to, one_of_tag, suffix_back}

abbrev pub kind_or_none_to : Option NumberKind → ℕ
kind_or_none_to None = 0
kind_or_none_to (Some k) = suc (kind_to k)

abbrev pub kind_or_none_from : ℕ → Option NumberKind
kind_or_none_from zero = None
kind_or_none_from (suc n) = Some (kind_from n)

pub kind_or_none_back : (k : Option NumberKind) → kind_or_none_from (kind_or_none_to k) ≡ k
kind_or_none_back None = refl
kind_or_none_back (Some k) = ap Some (kind_back k)

abbrev pub error_to : Option ℕ → ℕ
error_to None = 0
error_to (Some n) = suc n

abbrev pub error_from : ℕ → Option ℕ
error_from zero = None
error_from (suc n) = Some n

pub error_back : (e : Option ℕ) → error_from (error_to e) ≡ e
error_back None = refl
error_back (Some n) = refl

abbrev pub expressions_to : List ExpressionTree → Gv
expressions_to [] = gnil
expressions_to (e ∷ es) = gcons (expression_to e) (expressions_to es)

abbrev pub expressions_from : Gv → List ExpressionTree
expressions_from gnil = []
expressions_from (gnum _) = []
expressions_from (gcons e es) = expression_from e ∷ expressions_from es

pub expressions_back : (es : List ExpressionTree) → expressions_from (expressions_to es) ≡ es
expressions_back [] = refl
expressions_back (e ∷ es) = λ i. expression_back e i ∷ expressions_back es i

abbrev pub suffixes_to : List SuffixTree → Gv
suffixes_to [] = gnil
suffixes_to (s ∷ ss) = gcons (suffix_to s) (suffixes_to ss)

abbrev pub suffixes_from : Gv → List SuffixTree
suffixes_from gnil = []
suffixes_from (gnum _) = []
suffixes_from (gcons s ss) = one_of_tag (num (first_of s)) (second_of s) ∷ suffixes_from ss

pub suffixes_back : (ss : List SuffixTree) → suffixes_from (suffixes_to ss) ≡ ss
suffixes_back [] = refl
suffixes_back (s ∷ ss) = λ i. suffix_back s i ∷ suffixes_back ss i

abbrev pub place_to : CheckedPlace → Gv
place_to p = gcons (gnum p.variable) (suffixes_to p.suffixes)

abbrev pub place_from : Gv → CheckedPlace
place_from g = record { variable = num (first_of g); suffixes = suffixes_from (second_of g) }

pub place_back : (p : CheckedPlace) → place_from (place_to p) ≡ p
place_back p = λ i. record { variable = p.variable; suffixes = suffixes_back p.suffixes i }

abbrev pub places_to : List CheckedPlace → Gv
places_to [] = gnil
places_to (p ∷ ps) = gcons (place_to p) (places_to ps)

abbrev pub places_from : Gv → List CheckedPlace
places_from gnil = []
places_from (gnum _) = []
places_from (gcons p ps) = place_from p ∷ places_from ps

pub places_back : (ps : List CheckedPlace) → places_from (places_to ps) ≡ ps
places_back [] = refl
places_back (p ∷ ps) = λ i. place_back p i ∷ places_back ps i

-- a tag, what isn't a statement, and what are statements
abbrev pub with_tag : ℕ → Gv → Gv → Gv
with_tag tag plain inner = gcons (gcons (gnum tag) plain) inner

abbrev mutual
  pub statement_to : StatementTree → Gv
  statement_to (assign p e) = with_tag 0 (gcons (place_to p) (expression_to e)) gnil
  statement_to (append e p bound kind) = with_tag 1 (gcons (gcons (place_to p) (expression_to e)) (gcons (gnum bound) (gnum (kind_or_none_to kind)))) gnil
  statement_to (give es) = with_tag 2 (expressions_to es) gnil
  statement_to (raise n es) = with_tag 3 (gcons (gnum n) (expressions_to es)) gnil
  statement_to (branch e a b) = with_tag 4 (expression_to e) (gcons (list_to a) (list_to b))
  statement_to (repeat e body) = with_tag 5 (expression_to e) (gcons (list_to body) gnil)
  statement_to (call m n es ps hs) =
      with_tag 6 (gcons (gcons (gnum m) (gnum n)) (gcons (expressions_to es) (places_to ps))) (gcons gnil (handlers_to hs))

  pub list_to : StatementTrees → Gv
  list_to no_statements = gnil
  list_to (more_statements s ss) = gcons (statement_to s) (list_to ss)

  pub handlers_to : HandlerTrees → Gv
  handlers_to no_handlers = gnil
  handlers_to (more_handlers error ps ss hs) = gcons (gcons (gcons (gnum (error_to error)) (places_to ps)) (list_to ss)) (handlers_to hs)

-- the statement with this tag, of what isn't a statement and of the lists of statements and handlers in it
abbrev pub of_tag : ℕ → Gv → StatementTrees → StatementTrees → HandlerTrees → StatementTree
of_tag zero g a b hs = assign (place_from (first_of g)) (expression_from (second_of g))
of_tag (suc zero) g a b hs =
    append (expression_from (second_of (first_of g))) (place_from (first_of (first_of g))) (num (first_of (second_of g))) (kind_or_none_from (num (second_of (second_of g))))
of_tag (suc (suc zero)) g a b hs = give (expressions_from g)
of_tag (suc (suc (suc zero))) g a b hs = raise (num (first_of g)) (expressions_from (second_of g))
of_tag (suc (suc (suc (suc zero)))) g a b hs = branch (expression_from g) a b
of_tag (suc (suc (suc (suc (suc zero))))) g a b hs = repeat (expression_from g) a
of_tag (suc (suc (suc (suc (suc (suc _)))))) g a b hs =
    call (num (first_of (first_of g))) (num (second_of (first_of g))) (expressions_from (first_of (second_of g))) (places_from (second_of (second_of g))) hs

abbrev mutual
  pub statement_from : Gv → StatementTree
  statement_from gnil = give []
  statement_from (gnum _) = give []
  statement_from (gcons tag gnil) = of_tag (num (first_of tag)) (second_of tag) no_statements no_statements no_handlers
  statement_from (gcons tag (gnum _)) = give []
  statement_from (gcons tag (gcons g h)) = of_tag (num (first_of tag)) (second_of tag) (list_from g) (list_from h) (handlers_from h)

  pub list_from : Gv → StatementTrees
  list_from gnil = no_statements
  list_from (gnum _) = no_statements
  list_from (gcons s ss) = more_statements (statement_from s) (list_from ss)

  pub handlers_from : Gv → HandlerTrees
  handlers_from gnil = no_handlers
  handlers_from (gnum _) = no_handlers
  handlers_from (gcons gnil hs) = no_handlers
  handlers_from (gcons (gnum _) hs) = no_handlers
  handlers_from (gcons (gcons plain ss) hs) =
      more_handlers (error_from (num (first_of plain))) (places_from (second_of plain)) (list_from ss) (handlers_from hs)

mutual
  pub statement_back : (s : StatementTree) → statement_from (statement_to s) ≡ s
  statement_back (assign p e) = λ i. assign (place_back p i) (expression_back e i)
  statement_back (append e p bound kind) = λ i. append (expression_back e i) (place_back p i) bound (kind_or_none_back kind i)
  statement_back (give es) = ap give (expressions_back es)
  statement_back (raise n es) = ap (raise n) (expressions_back es)
  statement_back (branch e a b) = λ i. branch (expression_back e i) (list_back a i) (list_back b i)
  statement_back (repeat e body) = λ i. repeat (expression_back e i) (list_back body i)
  statement_back (call m n es ps hs) = λ i. call m n (expressions_back es i) (places_back ps i) (handlers_back hs i)

  pub list_back : (ss : StatementTrees) → list_from (list_to ss) ≡ ss
  list_back no_statements = refl
  list_back (more_statements s ss) = λ i. more_statements (statement_back s i) (list_back ss i)

  pub handlers_back : (hs : HandlerTrees) → handlers_from (handlers_to hs) ≡ hs
  handlers_back no_handlers = refl
  handlers_back (more_handlers error ps ss hs) = λ i. more_handlers (error_back error i) (places_back ps i) (list_back ss i) (handlers_back hs i)

abbrev pub coded_statement : Coded StatementTree
coded_statement = code_by Gv itself statement_to statement_from statement_back

abbrev pub statements_to : List StatementTree → Gv
statements_to [] = gnil
statements_to (s ∷ ss) = gcons (statement_to s) (statements_to ss)

abbrev pub statements_from : Gv → List StatementTree
statements_from gnil = []
statements_from (gnum _) = []
statements_from (gcons s ss) = statement_from s ∷ statements_from ss

pub statements_back : (ss : List StatementTree) → statements_from (statements_to ss) ≡ ss
statements_back [] = refl
statements_back (s ∷ ss) = λ i. statement_back s i ∷ statements_back ss i

abbrev pub handler_to : HandlerTree → Gv
handler_to h = gcons (gcons (gnum (error_to h.error)) (places_to h.places)) (statements_to h.statements)

abbrev pub handler_from : Gv → HandlerTree
handler_from g = record {
  error = error_from (num (first_of (first_of g)));
  places = places_from (second_of (first_of g));
  statements = statements_from (second_of g);
}

pub handler_back : (h : HandlerTree) → handler_from (handler_to h) ≡ h
handler_back h = λ i. record { error = error_back h.error i; places = places_back h.places i; statements = statements_back h.statements i }

abbrev pub coded_handler : Coded HandlerTree
coded_handler = code_by Gv itself handler_to handler_from handler_back
