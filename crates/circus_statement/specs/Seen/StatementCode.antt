-- A statement's tree as a tree of numbers, by which a proof tells two apart.
use Rattle.std.specs.Prelude.{ℕ, List, [], ◌∷◌, ◌≡◌, refl, Option, Some, None}
use Rattle.std.specs.Coded.{Coded, code_by}
use Rattle.std.proofs.Common.{ap, zero, suc}
use base.Stored.{Gv, gnil, gnum, gcons, num}
use denote.Struct.Codes.{itself}
use Rattle.circus_syntax.specs.Seen.TypeCode.{first_of, second_of, named_to, named_from, named_back}
use Rattle.circus_expression.specs.ExpressionTree.{ExpressionTree, SuffixTree, PlaceTree, expression}
use Rattle.circus_expression.specs.Seen.ExpressionCode.{expression_to, expression_from, expression_back, suffix_to, one_of_tag, suffix_back}
use Rattle.circus_statement.specs.StatementTree.{StatementTree, StatementTrees, HandlerTrees, HandlerTree, IntoOf, CallOf, HandledOf, assign, only_then, then_else, while, append, call, return, raise, no_statements, more_statements, no_handlers, more_handlers}

abbrev pub list_to : {A : Type 0} → (A → Gv) → List A → Gv
list_to f [] = gnil
list_to f (x ∷ xs) = gcons (f x) (list_to f xs)

abbrev pub list_from : {A : Type 0} → (Gv → A) → Gv → List A
list_from g gnil = []
list_from g (gnum _) = []
list_from g (gcons x xs) = g x ∷ list_from g xs

pub list_back : {A : Type 0} (f : A → Gv) (g : Gv → A) → ((x : A) → g (f x) ≡ x) → (xs : List A) → list_from g (list_to f xs) ≡ xs
list_back f g back [] = refl
list_back f g back (x ∷ xs) = λ i. back x i ∷ list_back f g back xs i

-- what may be left out
abbrev pub option_to : {A : Type 0} → (A → Gv) → Option A → Gv
option_to f None = gnil
option_to f (Some x) = gcons (f x) gnil

abbrev pub option_from : {A : Type 0} → (Gv → A) → Gv → Option A
option_from g gnil = None
option_from g (gnum _) = None
option_from g (gcons x _) = Some (g x)

pub option_back : {A : Type 0} (f : A → Gv) (g : Gv → A) → ((x : A) → g (f x) ≡ x) → (o : Option A) → option_from g (option_to f o) ≡ o
option_back f g back None = refl
option_back f g back (Some x) = ap Some (back x)

abbrev pub suffix_from : Gv → SuffixTree
suffix_from g = one_of_tag (num (first_of g)) (second_of g)

abbrev pub place_to : PlaceTree → Gv
place_to p = gcons (named_to p.name) (list_to suffix_to p.suffixes)

abbrev pub place_from : Gv → PlaceTree
place_from g = record { name = named_from (first_of g); suffixes = list_from suffix_from (second_of g) }

pub place_back : (p : PlaceTree) → place_from (place_to p) ≡ p
place_back p = λ i. record { name = named_back p.name i; suffixes = list_back suffix_to suffix_from suffix_back p.suffixes i }

abbrev pub places_to : List PlaceTree → Gv
places_to = list_to place_to

abbrev pub places_from : Gv → List PlaceTree
places_from = list_from place_from

pub places_back : (ps : List PlaceTree) → places_from (places_to ps) ≡ ps
places_back = list_back place_to place_from place_back

abbrev pub expressions_to : List ExpressionTree → Gv
expressions_to = list_to expression_to

abbrev pub expressions_from : Gv → List ExpressionTree
expressions_from = list_from expression_from

pub expressions_back : (es : List ExpressionTree) → expressions_from (expressions_to es) ≡ es
expressions_back = list_back expression_to expression_from expression_back

abbrev pub into_to : IntoOf PlaceTree → Gv
into_to i = gcons (gnum i.at) (places_to i.places)

abbrev pub into_from : Gv → IntoOf PlaceTree
into_from g = record { at = num (first_of g); places = places_from (second_of g) }

pub into_back : (i : IntoOf PlaceTree) → into_from (into_to i) ≡ i
into_back i = λ j. record { at = i.at; places = places_back i.places j }

abbrev pub call_to : CallOf ExpressionTree PlaceTree → Gv
call_to c = gcons (gcons (named_to c.«module») (named_to c.procedure)) (gcons (expressions_to c.arguments) (option_to into_to c.into))

abbrev pub call_from : Gv → CallOf ExpressionTree PlaceTree
call_from g = record {
  «module» = named_from (first_of (first_of g));
  procedure = named_from (second_of (first_of g));
  arguments = expressions_from (first_of (second_of g));
  into = option_from into_from (second_of (second_of g));
}

pub call_back : (c : CallOf ExpressionTree PlaceTree) → call_from (call_to c) ≡ c
call_back c = λ i. record {
  «module» = named_back c.«module» i;
  procedure = named_back c.procedure i;
  arguments = expressions_back c.arguments i;
  into = option_back into_to into_from into_back c.into i;
}

abbrev pub handled_to : HandledOf PlaceTree → Gv
handled_to h = gcons (gnum h.at) (gcons (option_to named_to h.error) (option_to places_to h.places))

abbrev pub handled_from : Gv → HandledOf PlaceTree
handled_from g = record {
  at = num (first_of g);
  error = option_from named_from (first_of (second_of g));
  places = option_from places_from (second_of (second_of g));
}

pub handled_back : (h : HandledOf PlaceTree) → handled_from (handled_to h) ≡ h
handled_back h = λ i. record {
  at = h.at;
  error = option_back named_to named_from named_back h.error i;
  places = option_back places_to places_from places_back h.places i;
}

-- a tag and a place, then two parts
abbrev pub parts : ℕ → ℕ → Gv → Gv → Gv
parts tag at g h = gcons (gcons (gnum tag) (gnum at)) (gcons g h)

abbrev mutual
  pub statement_to : StatementTree → Gv
  statement_to (assign at p e) = parts 0 at (place_to p) (expression_to e)
  statement_to (only_then at e ss) = parts 1 at (expression_to e) (statements_to ss)
  statement_to (then_else at e ss os) = parts 2 at (gcons (expression_to e) (statements_to ss)) (statements_to os)
  statement_to (while at e ss) = parts 3 at (expression_to e) (statements_to ss)
  statement_to (append at e p) = parts 4 at (expression_to e) (place_to p)
  statement_to (call at c hs) = parts 5 at (call_to c) (handlers_to hs)
  statement_to (return at es) = parts 6 at gnil (expressions_to es)
  statement_to (raise at n es) = parts 7 at (named_to n) (expressions_to es)

  pub statements_to : StatementTrees → Gv
  statements_to no_statements = gnil
  statements_to (more_statements s ss) = gcons (statement_to s) (statements_to ss)

  pub handlers_to : HandlerTrees → Gv
  handlers_to no_handlers = gnil
  handlers_to (more_handlers h ss hs) = gcons (gcons (handled_to h) (statements_to ss)) (handlers_to hs)

-- the statement with this tag, at this place, of its two parts, each read as every kind of part
abbrev pub of_tag : ℕ → ℕ → Gv → Gv → StatementTrees → StatementTrees → HandlerTrees → StatementTree
of_tag zero at g h inner ss hs = assign at (place_from g) (expression_from h)
of_tag (suc zero) at g h inner ss hs = only_then at (expression_from g) ss
of_tag (suc (suc zero)) at g h inner ss hs = then_else at (expression_from (first_of g)) inner ss
of_tag (suc (suc (suc zero))) at g h inner ss hs = while at (expression_from g) ss
of_tag (suc (suc (suc (suc zero)))) at g h inner ss hs = append at (expression_from g) (place_from h)
of_tag (suc (suc (suc (suc (suc zero))))) at g h inner ss hs = call at (call_from g) hs
of_tag (suc (suc (suc (suc (suc (suc zero)))))) at g h inner ss hs = return at (expressions_from h)
of_tag (suc (suc (suc (suc (suc (suc (suc _))))))) at g h inner ss hs = raise at (named_from g) (expressions_from h)

abbrev pub some_statement : StatementTree
some_statement = return 0 []

abbrev mutual
  pub statement_from : Gv → StatementTree
  statement_from gnil = some_statement
  statement_from (gnum _) = some_statement
  statement_from (gcons head gnil) = some_statement
  statement_from (gcons head (gnum _)) = some_statement
  statement_from (gcons head (gcons gnil h)) =
      of_tag (num (first_of head)) (num (second_of head)) gnil h no_statements (statements_from h) (handlers_from h)
  statement_from (gcons head (gcons (gnum n) h)) =
      of_tag (num (first_of head)) (num (second_of head)) (gnum n) h no_statements (statements_from h) (handlers_from h)
  statement_from (gcons head (gcons (gcons g k) h)) =
      of_tag (num (first_of head)) (num (second_of head)) (gcons g k) h (statements_from k) (statements_from h) (handlers_from h)

  pub statements_from : Gv → StatementTrees
  statements_from gnil = no_statements
  statements_from (gnum _) = no_statements
  statements_from (gcons s ss) = more_statements (statement_from s) (statements_from ss)

  pub handlers_from : Gv → HandlerTrees
  handlers_from gnil = no_handlers
  handlers_from (gnum _) = no_handlers
  handlers_from (gcons gnil hs) = no_handlers
  handlers_from (gcons (gnum _) hs) = no_handlers
  handlers_from (gcons (gcons h ss) hs) = more_handlers (handled_from h) (statements_from ss) (handlers_from hs)

mutual
  pub statement_back : (s : StatementTree) → statement_from (statement_to s) ≡ s
  statement_back (assign at p e) = λ i. assign at (place_back p i) (expression_back e i)
  statement_back (only_then at (expression p k) ss) = λ i. only_then at (expression_back (expression p k) i) (statements_back ss i)
  statement_back (then_else at e ss os) = λ i. then_else at (expression_back e i) (statements_back ss i) (statements_back os i)
  statement_back (while at (expression p k) ss) = λ i. while at (expression_back (expression p k) i) (statements_back ss i)
  statement_back (append at (expression q k) p) = λ i. append at (expression_back (expression q k) i) (place_back p i)
  statement_back (call at c hs) = λ i. call at (call_back c i) (handlers_back hs i)
  statement_back (return at es) = ap (return at) (expressions_back es)
  statement_back (raise at n es) = λ i. raise at (named_back n i) (expressions_back es i)

  pub statements_back : (ss : StatementTrees) → statements_from (statements_to ss) ≡ ss
  statements_back no_statements = refl
  statements_back (more_statements s ss) = λ i. more_statements (statement_back s i) (statements_back ss i)

  pub handlers_back : (hs : HandlerTrees) → handlers_from (handlers_to hs) ≡ hs
  handlers_back no_handlers = refl
  handlers_back (more_handlers h ss hs) = λ i. more_handlers (handled_back h i) (statements_back ss i) (handlers_back hs i)

abbrev pub coded_statement : Coded StatementTree
coded_statement = code_by Gv itself statement_to statement_from statement_back

abbrev pub handler_to : HandlerTree → Gv
handler_to h = gcons (handled_to h.handled) (list_to statement_to h.statements)

abbrev pub handler_from : Gv → HandlerTree
handler_from g = record { handled = handled_from (first_of g); statements = list_from statement_from (second_of g) }

pub handler_back : (h : HandlerTree) → handler_from (handler_to h) ≡ h
handler_back h = λ i. record { handled = handled_back h.handled i; statements = list_back statement_to statement_from statement_back h.statements i }

abbrev pub coded_handler : Coded HandlerTree
coded_handler = code_by Gv itself handler_to handler_from handler_back
