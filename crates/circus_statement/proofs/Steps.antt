-- What is read of statements stands for its trees, step by step.
use Rattle.std.proofs.Common.{◌≡◌, ℕ, suc, ◌<◌, Bool, true, false, List, [], ◌∷◌, ◌++◌, length, map, refl, sym, ◌∙◌, ap, subst, append_assoc, append-nil}
use Rattle.std.specs.Prelude.{Option, Some, None, option_map, codes}
use Rattle.circus_syntax.specs.declared.named.Named.{Named}
use Rattle.circus_syntax.specs.declared.stopping.StopCause.TheVariants.{Unexpected, TooDeep}
use Rattle.circus_syntax.specs.Placed.{Placed, word, sign, is_lexeme}
use Rattle.circus_syntax.specs.Reader.{Reader, place, next, sees, stopped_by, stop_reading, nothing, both, map_read, optional, repeat_while}
use Rattle.circus_syntax.specs.Reading.{expect_token, fixed_at, name, behind, comma_list}
use Rattle.circus_syntax.proofs.ByWord.{fixed_at_is, name_place}
use Rattle.circus_syntax.proofs.Tokens.{comma_sign, is_comma, shrinks_behind}
use Rattle.circus_syntax.proofs.Repeats.{Shrinks, repeated_sees, repeated_none}
use Rattle.circus_expression.specs.declared.operator.Chain.TheVariants as of
use Rattle.circus_expression.specs.ExpressionTree.{ExpressionTree, PlaceTree}
use Rattle.circus_expression.specs.ExpressionReading.{is_bracket, read_chain, read_place, list}
use Rattle.circus_expression.specs.Written.{Written, WrittenPlace}
use Rattle.circus_expression.specs.Standing.{place_stands_for, show_as}
use Rattle.circus_expression.specs.Standing as expression
use Rattle.circus_expression.proofs.Stands.{either_hit, either_missed, behind_shown}
use Rattle.circus_statement.specs.declared.starts.StatementStart.{StatementStart}
use Rattle.circus_statement.specs.declared.starts.StatementStart.TheVariants as begins
use Rattle.circus_statement.specs.StatementTree.{StatementTree, HandlerTree, IntoOf, CallOf, HandledOf, assign, then_else, while, append, call, return, raise, statement_trees, handler_trees, more_statements, more_handlers}
use Rattle.circus_statement.specs.WrittenStatement.{WrittenStatement, WrittenHandler, written_statements, written_handlers}
use Rattle.circus_statement.specs.StatementOf.{choose}
use Rattle.circus_statement.specs.StatementReading.{is_word, begins_statement, start_of_statement, list_end, required_list, places_within, places, into, into_if_any, handled_places, call_head, of_error, of_others, handler_head, if_statement, statement_by, opened_block, block, statement, statement_from, handler, handlers, else_block}
use Rattle.circus_statement.specs.StatementStanding.{places_stand_for, into_stands_for, handled_stands_for, stands_for, stand_for, handlers_stand_for, handler_stands_for, head_stands_for}
use Rattle.circus_statement.proofs.Sounding.{sound_place_within, shrinks_handler, sound_block}

-- Items one behind the other.

-- the items so far and those that follow
abbrev pub go_on : {A X : Type 0} → (A → X) → (Placed → Bool) → (Reader → A × Reader) → List X → Reader → List X × Reader
go_on f test item done r = (done ++ map f (repeat_while test item r).0, (repeat_while test item r).1)

pub go_step : {A X : Type 0} (f : A → X) (test : Placed → Bool) (item : Reader → A × Reader) → Shrinks test item → (all : List X × Reader) (done more : List X) (r s : Reader) (x : X)
    → all ≡ go_on f test item done r → sees test r ≡ true → show_as f (item r) ≡ (x, s) → more ≡ done ++ x ∷ [] → all ≡ go_on f test item more s
go_step {A} {X} f test item shrinks all done more r s x so_far hit is more_is =
    so_far
    ∙ ap (λ (y : List A × Reader). (done ++ map f y.0, y.1)) (repeated_sees test item shrinks r hit)
    ∙ ap (λ (z : X × Reader). (done ++ z.0 ∷ map f (repeat_while test item z.1).0, (repeat_while test item z.1).1)) is
    ∙ ap (λ l. (l, (repeat_while test item s).1)) (sym (append_assoc done (x ∷ []) (map f (repeat_while test item s).0)))
    ∙ ap (λ l. go_on f test item l s) (sym more_is)

pub go_end : {A X : Type 0} (f : A → X) (test : Placed → Bool) (item : Reader → A × Reader) (all : List X × Reader) (done : List X) (r : Reader) → all ≡ go_on f test item done r → sees test r ≡ false → all ≡ (done, r)
go_end {A} f test item all done r so_far missed =
    so_far ∙ ap (λ (y : List A × Reader). (done ++ map f y.0, y.1)) (repeated_none test item r missed) ∙ ap (λ l. (l, r)) (append-nil done)

pub go_shorter : {A X : Type 0} (f : A → X) (test : Placed → Bool) (item : Reader → A × Reader) → Shrinks test item → (r s : Reader) (x : X) → sees test r ≡ true → show_as f (item r) ≡ (x, s) → length s.rest < length r.rest
go_shorter {X = X} f test item shrinks r s x hit is = subst (λ (u : Reader). length u.rest < length r.rest) (ap (λ (z : X × Reader). z.1) is) (shrinks r hit)

-- Lists of expressions and of places.

pub required_list_seen : (n : ℕ) (r : Reader) (b : Bool) → b ≡ sees is_bracket r → b ≡ true → required_list n r ≡ list n r
unfolding required_list
required_list_seen n r b seen hit = either_hit is_bracket (list n) (stop_reading Unexpected (λ p. [])) r b seen hit

pub required_list_missed : (n : ℕ) (r s : Reader) (es : List ExpressionTree) (b : Bool) → b ≡ sees is_bracket r → b ≡ false → s ≡ stopped_by Unexpected r.stop r.rest r.end → es ≡ []
    → show_as (map expression.stands_for) (required_list n r) ≡ (es, s)
unfolding required_list
required_list_missed n r s es b seen missed s_is none =
    ap (show_as (map expression.stands_for)) (either_missed is_bracket (list n) (stop_reading Unexpected (λ p. [])) r b seen missed) ∙ (λ i. (sym none i, sym s_is i))

abbrev pub place_item : ℕ → Reader → WrittenPlace × Reader
place_item n = behind comma_sign (read_place n)

pub shrinks_place_item : (n : ℕ) → Shrinks is_comma (place_item n)
shrinks_place_item n = shrinks_behind comma_sign (sound_place_within n)

pub place_item_is : (n : ℕ) (r s t : Reader) (p : PlaceTree) → expect_token comma_sign r ≡ (tt, s) → show_as place_stands_for (read_place n s) ≡ (p, t) → show_as place_stands_for (place_item n r) ≡ (p, t)
place_item_is n r s t p first second = behind_shown place_stands_for comma_sign (read_place n) r s t p first second

pub places_none : (n : ℕ) (r : Reader) (ps : List PlaceTree) (b : Bool) → b ≡ sees (is_lexeme (sign (codes "]"))) r → b ≡ true → ps ≡ [] → show_as places_stand_for (places_within n r) ≡ (ps, r)
unfolding places_within
places_none n r ps b seen hit none =
    ap (show_as places_stand_for) (either_hit (is_lexeme (sign (codes "]"))) (nothing []) (comma_list (read_place n)) r b seen hit) ∙ ap (λ l. (l, r)) (sym none)

pub places_some : (n : ℕ) (r s : Reader) (p : PlaceTree) (ps : List PlaceTree) (b : Bool) → b ≡ sees (is_lexeme (sign (codes "]"))) r → b ≡ false → show_as place_stands_for (read_place n r) ≡ (p, s) → ps ≡ p ∷ []
    → show_as places_stand_for (places_within n r) ≡ go_on place_stands_for is_comma (place_item n) ps s
unfolding places_within
places_some n r s p ps b seen missed is one =
    ap (show_as places_stand_for) (either_missed (is_lexeme (sign (codes "]"))) (nothing []) (comma_list (read_place n)) r b seen missed)
    ∙ ap (λ (z : PlaceTree × Reader). (z.0 ∷ map place_stands_for (repeat_while is_comma (place_item n) z.1).0, (repeat_while is_comma (place_item n) z.1).1)) is
    ∙ ap (λ l. go_on place_stands_for is_comma (place_item n) l s) (sym one)

pub places_is : (n : ℕ) (r s t u : Reader) (ps : List PlaceTree) → expect_token (sign (codes "[")) r ≡ (tt, s) → show_as places_stand_for (places_within n s) ≡ (ps, t) → expect_token (sign (codes "]")) t ≡ (tt, u)
    → show_as places_stand_for (places n r) ≡ (ps, u)
unfolding places
places_is n r s t u ps first second third =
    ap (λ (z : Unit {0} × Reader). (places_stand_for (places_within n z.1).0, (expect_token (sign (codes "]")) (places_within n z.1).1).1)) first
    ∙ ap (λ (z : List PlaceTree × Reader). (z.0, (expect_token (sign (codes "]")) z.1).1)) second
    ∙ ap (λ (z : Unit {0} × Reader). (ps, z.1)) third

into_tree : ℕ → List PlaceTree → IntoOf PlaceTree
into_tree p qs = record { at = p; places = qs }

pub into_is : (n : ℕ) (r s t : Reader) (ps : List PlaceTree) (p : ℕ) → p ≡ place r → expect_token (word (codes "INTO")) r ≡ (tt, s) → show_as places_stand_for (places n s) ≡ (ps, t)
    → show_as into_stands_for (into n r) ≡ (record { at = p; places = ps }, t)
unfolding into into_tree
into_is n r s t ps p there first second =
    ap (λ (z : ℕ × Reader). (into_stands_for (record { at = z.0; places = (places n z.1).0 }), (places n z.1).1)) (fixed_at_is (word (codes "INTO")) r s first)
    ∙ ap (λ (z : List PlaceTree × Reader). (into_tree (place r) z.0, z.1)) second
    ∙ ap (λ q. (into_tree q ps, t)) (sym there)

pub optional_shown : {A X : Type 0} (f : A → X) (test : Placed → Bool) (p : Reader → A × Reader) (r s : Reader) (x : X) (b : Bool) → b ≡ sees test r → b ≡ true → show_as f (p r) ≡ (x, s)
    → show_as (option_map f) (optional test p r) ≡ (Some x, s)
optional_shown {X = X} f test p r s x b seen hit is =
    ap (show_as (option_map f)) (either_hit test (map_read (λ y. Some y) p) (nothing None) r b seen hit) ∙ ap (λ (z : X × Reader). (Some z.0, z.1)) is

pub optional_none : {A X : Type 0} (f : A → X) (test : Placed → Bool) (p : Reader → A × Reader) (r : Reader) (b : Bool) → b ≡ sees test r → b ≡ false → show_as (option_map f) (optional test p r) ≡ (None, r)
optional_none f test p r b seen missed = ap (show_as (option_map f)) (either_missed test (map_read (λ y. Some y) p) (nothing None) r b seen missed)

pub into_some : (n : ℕ) (r s : Reader) (x : IntoOf PlaceTree) (b : Bool) → b ≡ sees (is_word (codes "INTO")) r → b ≡ true → show_as into_stands_for (into n r) ≡ (x, s) → show_as (option_map into_stands_for) (into_if_any n r) ≡ (Some x, s)
unfolding into_if_any
into_some n r s x b seen hit is = optional_shown into_stands_for (is_word (codes "INTO")) (into n) r s x b seen hit is

pub into_none : (n : ℕ) (r : Reader) (b : Bool) → b ≡ sees (is_word (codes "INTO")) r → b ≡ false → show_as (option_map into_stands_for) (into_if_any n r) ≡ (None, r)
unfolding into_if_any
into_none n r b seen missed = optional_none into_stands_for (is_word (codes "INTO")) (into n) r b seen missed

pub handled_places_some : (n : ℕ) (r s : Reader) (ps : List PlaceTree) (b : Bool) → b ≡ sees is_bracket r → b ≡ true → show_as places_stand_for (places n r) ≡ (ps, s)
    → show_as (option_map places_stand_for) (handled_places n r) ≡ (Some ps, s)
unfolding handled_places
handled_places_some n r s ps b seen hit is = optional_shown places_stand_for is_bracket (places n) r s ps b seen hit is

pub handled_places_none : (n : ℕ) (r : Reader) (b : Bool) → b ≡ sees is_bracket r → b ≡ false → show_as (option_map places_stand_for) (handled_places n r) ≡ (None, r)
unfolding handled_places
handled_places_none n r b seen missed = optional_none places_stand_for is_bracket (places n) r b seen missed

pub ended_is : (r s t : Reader) → expect_token (word (codes "END")) r ≡ (tt, s) → expect_token (sign (codes ";")) s ≡ (tt, t) → list_end r ≡ (tt, t)
unfolding list_end
ended_is r s t first second = ap (λ (z : Unit {0} × Reader). (tt, (expect_token (sign (codes ";")) z.1).1)) first ∙ ap (λ (z : Unit {0} × Reader). (tt, z.1)) second

-- Statements.

statements_stand : (ss : List WrittenStatement) → stand_for (written_statements ss) ≡ statement_trees (map stands_for ss)
statements_stand [] = refl
statements_stand (s ∷ ss) = ap (more_statements (stands_for s)) (statements_stand ss)

handlers_stand : (hs : List WrittenHandler) → handlers_stand_for (written_handlers hs) ≡ handler_trees (map handler_stands_for hs)
handlers_stand [] = refl
handlers_stand (h ∷ hs) = λ i. more_handlers (handled_stands_for h.handled) (statements_stand h.statements i) (handlers_stand hs i)

pub statement_case : (n : ℕ) (r : Reader) (k j : StatementStart) → k ≡ start_of_statement (next r) → k ≡ j → statement n r ≡ statement_from n j r
unfolding statement statement_from
statement_case n r k j seen is = ap (λ i. statement_by n (block n) i r) (sym seen ∙ is)

place_there : (n : ℕ) (r s : Reader) (p : PlaceTree) → show_as place_stands_for (read_place n r) ≡ (p, s) → p.name.at ≡ place r
unfolding read_place
place_there n r s p is = ap (λ (z : PlaceTree × Reader). z.0.name.at) (sym is) ∙ name_place r (name r).1 (name r).0 refl

abbrev written_at : ℕ → Reader → Written × Reader
written_at n = read_chain n of.Expression

abbrev end_of : Reader → Unit {0} × Reader
end_of = expect_token (sign (codes ";"))

pub assignment_is : (n : ℕ) (r s t u v : Reader) (p : PlaceTree) (e : ExpressionTree) → show_as place_stands_for (read_place n r) ≡ (p, s) → expect_token (sign (codes ":=")) s ≡ (tt, t)
    → show_as expression.stands_for (written_at n t) ≡ (e, u) → end_of u ≡ (tt, v) → show_as stands_for (statement_from n begins.Assign r) ≡ (assign (place r) p e, v)
unfolding statement_from
assignment_is n r s t u v p e first second third fourth =
    ap (λ (z : PlaceTree × Reader). (assign z.0.name.at z.0 (expression.stands_for (written_at n (expect_token (sign (codes ":=")) z.1).1).0), (end_of (written_at n (expect_token (sign (codes ":=")) z.1).1).1).1)) first
    ∙ ap (λ (z : Unit {0} × Reader). (assign p.name.at p (expression.stands_for (written_at n z.1).0), (end_of (written_at n z.1).1).1)) second
    ∙ ap (λ (z : ExpressionTree × Reader). (assign p.name.at p z.0, (end_of z.1).1)) third
    ∙ ap (λ (z : Unit {0} × Reader). (assign p.name.at p e, z.1)) fourth
    ∙ ap (λ i. (assign i p e, v)) (place_there n r s p first)

chosen_stands : (p : ℕ) (w : Written) (ss : List WrittenStatement) (o : Option (List WrittenStatement))
    → stands_for (if_statement p w ss o) ≡ choose p (expression.stands_for w) (statement_trees (map stands_for ss)) (option_map (map stands_for) o)
chosen_stands p w ss None = ap (λ l. choose p (expression.stands_for w) l None) (statements_stand ss)
chosen_stands p w ss (Some os) = λ i. then_else p (expression.stands_for w) (statements_stand ss i) (statements_stand os i)

pub choice_is : (n : ℕ) (r s t u v x : Reader) (e : ExpressionTree) (ss : List StatementTree) (os : Option (List StatementTree)) → expect_token (word (codes "IF")) r ≡ (tt, s) → show_as expression.stands_for (written_at n s) ≡ (e, t)
    → show_as (map stands_for) (block n (codes "THEN") t) ≡ (ss, u) → show_as (option_map (map stands_for)) (else_block n u) ≡ (os, v) → list_end v ≡ (tt, x)
    → show_as stands_for (statement_from n begins.If r) ≡ (choose (place r) e (statement_trees ss) os, x)
unfolding statement_from else_block
choice_is n r s t u v x e ss os first second third fourth fifth =
    ap (λ (z : ℕ × Reader). (stands_for (if_statement z.0 (written_at n z.1).0 (then_of (written_at n z.1).1).0 (else_of (then_of (written_at n z.1).1).1).0), (list_end (else_of (then_of (written_at n z.1).1).1).1).1))
    (fixed_at_is (word (codes "IF")) r s first)
    ∙ ap (λ y. (y, (list_end (else_of (then_of (written_at n s).1).1).1).1)) (chosen_stands (place r) (written_at n s).0 (then_of (written_at n s).1).0 (else_of (then_of (written_at n s).1).1).0)
    ∙ ap (λ (z : ExpressionTree × Reader). (choose (place r) z.0 (statement_trees (map stands_for (then_of z.1).0)) (option_map (map stands_for) (else_of (then_of z.1).1).0), (list_end (else_of (then_of z.1).1).1).1)) second
    ∙ ap (λ (z : List StatementTree × Reader). (choose (place r) e (statement_trees z.0) (option_map (map stands_for) (else_of z.1).0), (list_end (else_of z.1).1).1)) third
    ∙ ap (λ (z : Option (List StatementTree) × Reader). (choose (place r) e (statement_trees ss) z.0, (list_end z.1).1)) fourth
    ∙ ap (λ (z : Unit {0} × Reader). (choose (place r) e (statement_trees ss) os, z.1)) fifth
  where
    then_of : Reader → List WrittenStatement × Reader
    then_of = block n (codes "THEN")

    else_of : Reader → Option (List WrittenStatement) × Reader
    else_of = optional (is_word (codes "ELSE")) (block n (codes "ELSE"))

pub else_some : (n : ℕ) (r s : Reader) (ss : List StatementTree) (b : Bool) → b ≡ sees (is_word (codes "ELSE")) r → b ≡ true → show_as (map stands_for) (block n (codes "ELSE") r) ≡ (ss, s)
    → show_as (option_map (map stands_for)) (else_block n r) ≡ (Some ss, s)
unfolding else_block
else_some n r s ss b seen hit is = optional_shown (map stands_for) (is_word (codes "ELSE")) (block n (codes "ELSE")) r s ss b seen hit is

pub else_none : (n : ℕ) (r : Reader) (b : Bool) → b ≡ sees (is_word (codes "ELSE")) r → b ≡ false → show_as (option_map (map stands_for)) (else_block n r) ≡ (None, r)
unfolding else_block
else_none n r b seen missed = optional_none (map stands_for) (is_word (codes "ELSE")) (block n (codes "ELSE")) r b seen missed

pub repetition_is : (n : ℕ) (r s t u v : Reader) (e : ExpressionTree) (ss : List StatementTree) → expect_token (word (codes "WHILE")) r ≡ (tt, s) → show_as expression.stands_for (written_at n s) ≡ (e, t)
    → show_as (map stands_for) (block n (codes "DO") t) ≡ (ss, u) → list_end u ≡ (tt, v) → show_as stands_for (statement_from n begins.While r) ≡ (while (place r) e (statement_trees ss), v)
unfolding statement_from
repetition_is n r s t u v e ss first second third fourth =
    ap (λ (z : ℕ × Reader). (while z.0 (expression.stands_for (written_at n z.1).0) (stand_for (written_statements (block n (codes "DO") (written_at n z.1).1).0)), (list_end (block n (codes "DO") (written_at n z.1).1).1).1))
    (fixed_at_is (word (codes "WHILE")) r s first)
    ∙ ap (λ (z : ExpressionTree × Reader). (while (place r) z.0 (stand_for (written_statements (block n (codes "DO") z.1).0)), (list_end (block n (codes "DO") z.1).1).1)) second
    ∙ ap (λ y. (while (place r) e y, (list_end (block n (codes "DO") t).1).1)) (statements_stand (block n (codes "DO") t).0)
    ∙ ap (λ (z : List StatementTree × Reader). (while (place r) e (statement_trees z.0), (list_end z.1).1)) third
    ∙ ap (λ (z : Unit {0} × Reader). (while (place r) e (statement_trees ss), z.1)) fourth

pub addition_is : (n : ℕ) (r s t u v x : Reader) (e : ExpressionTree) (p : PlaceTree) → expect_token (word (codes "APPEND")) r ≡ (tt, s) → show_as expression.stands_for (written_at n s) ≡ (e, t) → expect_token (word (codes "TO")) t ≡ (tt, u)
    → show_as place_stands_for (read_place n u) ≡ (p, v) → end_of v ≡ (tt, x) → show_as stands_for (statement_from n begins.Append r) ≡ (append (place r) e p, x)
unfolding statement_from
addition_is n r s t u v x e p first second third fourth fifth =
    ap (λ (z : ℕ × Reader). (append z.0 (expression.stands_for (written_at n z.1).0) (place_stands_for (read_place n (expect_token (word (codes "TO")) (written_at n z.1).1).1).0), (end_of (read_place n (expect_token (word (codes "TO")) (written_at n z.1).1).1).1).1))
    (fixed_at_is (word (codes "APPEND")) r s first)
    ∙ ap (λ (z : ExpressionTree × Reader). (append (place r) z.0 (place_stands_for (read_place n (expect_token (word (codes "TO")) z.1).1).0), (end_of (read_place n (expect_token (word (codes "TO")) z.1).1).1).1)) second
    ∙ ap (λ (z : Unit {0} × Reader). (append (place r) e (place_stands_for (read_place n z.1).0), (end_of (read_place n z.1).1).1)) third
    ∙ ap (λ (z : PlaceTree × Reader). (append (place r) e z.0, (end_of z.1).1)) fourth
    ∙ ap (λ (z : Unit {0} × Reader). (append (place r) e p, z.1)) fifth

pub end_is : (n : ℕ) (r s t u : Reader) (es : List ExpressionTree) → expect_token (word (codes "RETURN")) r ≡ (tt, s) → show_as (map expression.stands_for) (required_list n s) ≡ (es, t) → end_of t ≡ (tt, u)
    → show_as stands_for (statement_from n begins.Return r) ≡ (return (place r) es, u)
unfolding statement_from
end_is n r s t u es first second third =
    ap (λ (z : ℕ × Reader). (return z.0 (map expression.stands_for (required_list n z.1).0), (end_of (required_list n z.1).1).1)) (fixed_at_is (word (codes "RETURN")) r s first)
    ∙ ap (λ (z : List ExpressionTree × Reader). (return (place r) z.0, (end_of z.1).1)) second
    ∙ ap (λ (z : Unit {0} × Reader). (return (place r) es, z.1)) third

pub failure_is : (n : ℕ) (r s t u v : Reader) (k : Named) (es : List ExpressionTree) → expect_token (word (codes "RAISE")) r ≡ (tt, s) → name s ≡ (k, t) → show_as (map expression.stands_for) (required_list n t) ≡ (es, u) → end_of u ≡ (tt, v)
    → show_as stands_for (statement_from n begins.Raise r) ≡ (raise (place r) k es, v)
unfolding statement_from
failure_is n r s t u v k es first second third fourth =
    ap (λ (z : ℕ × Reader). (raise z.0 (name z.1).0 (map expression.stands_for (required_list n (name z.1).1).0), (end_of (required_list n (name z.1).1).1).1)) (fixed_at_is (word (codes "RAISE")) r s first)
    ∙ ap (λ (z : Named × Reader). (raise (place r) z.0 (map expression.stands_for (required_list n z.1).0), (end_of (required_list n z.1).1).1)) second
    ∙ ap (λ (z : List ExpressionTree × Reader). (raise (place r) k z.0, (end_of z.1).1)) third
    ∙ ap (λ (z : Unit {0} × Reader). (raise (place r) k es, z.1)) fourth

pub call_is : (n : ℕ) (r s t u : Reader) (p : ℕ) (c : CallOf ExpressionTree PlaceTree) (hs : List HandlerTree) → show_as head_stands_for (call_head n r) ≡ ((p, c), s) → show_as (map handler_stands_for) (handlers n s) ≡ (hs, t) → end_of t ≡ (tt, u)
    → show_as stands_for (statement_from n begins.Call r) ≡ (call p c (handler_trees hs), u)
unfolding statement_from handlers handler
call_is n r s t u p c hs first second third =
    ap (λ (z : (ℕ × CallOf ExpressionTree PlaceTree) × Reader). (call z.0.0 z.0.1 (handlers_stand_for (written_handlers (handlers n z.1).0)), (end_of (handlers n z.1).1).1)) first
    ∙ ap (λ y. (call p c y, (end_of (handlers n s).1).1)) (handlers_stand (handlers n s).0)
    ∙ ap (λ (z : List HandlerTree × Reader). (call p c (handler_trees z.0), (end_of z.1).1)) second
    ∙ ap (λ (z : Unit {0} × Reader). (call p c (handler_trees hs), z.1)) third

call_tree : ℕ → Named → Named → List ExpressionTree → Option (IntoOf PlaceTree) → ℕ × CallOf ExpressionTree PlaceTree
call_tree p m k es i = (p, record { «module» = m; procedure = k; arguments = es; into = i })

pub call_head_is : (n : ℕ) (r s t u v x y : Reader) (m k : Named) (es : List ExpressionTree) (i : Option (IntoOf PlaceTree)) → expect_token (word (codes "CALL")) r ≡ (tt, s) → name s ≡ (m, t) → expect_token (sign (codes ".")) t ≡ (tt, u) → name u ≡ (k, v)
    → show_as (map expression.stands_for) (required_list n v) ≡ (es, x) → show_as (option_map into_stands_for) (into_if_any n x) ≡ (i, y)
    → show_as head_stands_for (call_head n r) ≡ ((place r, record { «module» = m; procedure = k; arguments = es; into = i }), y)
unfolding call_head into_if_any call_tree
call_head_is n r s t u v x y m k es i first second third fourth fifth sixth =
    ap (λ (z : ℕ × Reader). (
      call_tree z.0 (name z.1).0 (name (dot (name z.1).1).1).0 (map expression.stands_for (required_list n (name (dot (name z.1).1).1).1).0)
          (option_map into_stands_for (into_if_any n (required_list n (name (dot (name z.1).1).1).1).1).0),
      (into_if_any n (required_list n (name (dot (name z.1).1).1).1).1).1,
    )) (fixed_at_is (word (codes "CALL")) r s first)
    ∙ ap (λ (z : Named × Reader). (
      call_tree (place r) z.0 (name (dot z.1).1).0 (map expression.stands_for (required_list n (name (dot z.1).1).1).0)
          (option_map into_stands_for (into_if_any n (required_list n (name (dot z.1).1).1).1).0),
      (into_if_any n (required_list n (name (dot z.1).1).1).1).1,
    )) second
    ∙ ap (λ (z : Unit {0} × Reader). (
      call_tree (place r) m (name z.1).0 (map expression.stands_for (required_list n (name z.1).1).0)
          (option_map into_stands_for (into_if_any n (required_list n (name z.1).1).1).0),
      (into_if_any n (required_list n (name z.1).1).1).1,
    )) third
    ∙ ap (λ (z : Named × Reader). (
      call_tree (place r) m z.0 (map expression.stands_for (required_list n z.1).0)
          (option_map into_stands_for (into_if_any n (required_list n z.1).1).0),
      (into_if_any n (required_list n z.1).1).1,
    )) fourth
    ∙ ap (λ (z : List ExpressionTree × Reader). (call_tree (place r) m k z.0 (option_map into_stands_for (into_if_any n z.1).0), (into_if_any n z.1).1)) fifth
    ∙ ap (λ (z : Option (IntoOf PlaceTree) × Reader). (call_tree (place r) m k es z.0, z.1)) sixth
  where
    dot : Reader → Unit {0} × Reader
    dot = expect_token (sign (codes "."))

-- Handlers.

pub handled_other : (n : ℕ) (r s : Reader) (b : Bool) → b ≡ sees (is_word (codes "OTHER")) r → b ≡ true → expect_token (word (codes "OTHER")) r ≡ (tt, s)
    → show_as handled_stands_for (handler_head n r) ≡ (record { at = place r; error = None; places = None }, s)
unfolding handler_head
handled_other n r s b seen hit is =
    ap (show_as handled_stands_for) (either_hit (is_word (codes "OTHER")) (map_read of_others (fixed_at (word (codes "OTHER")))) _ r b seen hit)
    ∙ ap (λ (z : ℕ × Reader). (handled_stands_for (of_others z.0), z.1)) (fixed_at_is (word (codes "OTHER")) r s is)

handled_tree : ℕ → Named → Option (List PlaceTree) → HandledOf PlaceTree
handled_tree p k ps = record { at = p; error = Some k; places = ps }

pub handled_error : (n : ℕ) (r s t : Reader) (k : Named) (ps : Option (List PlaceTree)) (b : Bool) → b ≡ sees (is_word (codes "OTHER")) r → b ≡ false → name r ≡ (k, s) → show_as (option_map places_stand_for) (handled_places n s) ≡ (ps, t)
    → show_as handled_stands_for (handler_head n r) ≡ (record { at = place r; error = Some k; places = ps }, t)
unfolding handler_head handled_places handled_tree
handled_error n r s t k ps b seen missed first second =
    ap (show_as handled_stands_for) (either_missed (is_word (codes "OTHER")) (map_read of_others (fixed_at (word (codes "OTHER")))) (map_read (λ x. of_error x.0 x.1) (both name (optional is_bracket (places n)))) r b seen missed)
    ∙ ap (λ (z : Named × Reader). (handled_tree z.0.at z.0 (option_map places_stand_for (handled_places n z.1).0), (handled_places n z.1).1)) first
    ∙ ap (λ (z : Option (List PlaceTree) × Reader). (handled_tree k.at k z.0, z.1)) second
    ∙ ap (λ p. (handled_tree p k ps, t)) (name_place r s k first)

handler_tree : HandledOf PlaceTree → List StatementTree → HandlerTree
handler_tree h ss = record { handled = h; statements = ss }

any_handled : ℕ → Option Named → Option (List PlaceTree) → HandledOf PlaceTree
any_handled p k ps = record { at = p; error = k; places = ps }

pub handler_is : (n : ℕ) (r s t u v : Reader) (p : ℕ) (k : Option Named) (ps : Option (List PlaceTree)) (ss : List StatementTree) → expect_token (word (codes "ON")) r ≡ (tt, s) → p ≡ place s
    → show_as handled_stands_for (handler_head n s) ≡ (record { at = place s; error = k; places = ps }, t) → show_as (map stands_for) (block n (codes "BEGIN") t) ≡ (ss, u)
    → expect_token (word (codes "END")) u ≡ (tt, v) → show_as handler_stands_for (handler n r) ≡ (record { handled = record { at = p; error = k; places = ps }; statements = ss }, v)
unfolding handler handler_tree any_handled
handler_is n r s t u v p k ps ss first there second third fourth =
    ap (λ (z : Unit {0} × Reader). (handler_tree (handled_stands_for (handler_head n z.1).0) (map stands_for (inner (handler_head n z.1).1).0), (last (inner (handler_head n z.1).1).1).1)) first
    ∙ ap (λ (z : HandledOf PlaceTree × Reader). (handler_tree z.0 (map stands_for (inner z.1).0), (last (inner z.1).1).1)) second
    ∙ ap (λ (z : List StatementTree × Reader). (handler_tree (any_handled (place s) k ps) z.0, (last z.1).1)) third
    ∙ ap (λ (z : Unit {0} × Reader). (handler_tree (any_handled (place s) k ps) ss, z.1)) fourth
    ∙ ap (λ q. (handler_tree (any_handled q k ps) ss, v)) (sym there)
  where
    inner : Reader → List WrittenStatement × Reader
    inner = block n (codes "BEGIN")

    last : Reader → Unit {0} × Reader
    last = expect_token (word (codes "END"))

pub shrinks_handler_within : (n : ℕ) → Shrinks (is_word (codes "ON")) (handler n)
unfolding handler
shrinks_handler_within n = shrinks_handler n (sound_block n)

pub handlers_begin : (n : ℕ) (r : Reader) (none : List HandlerTree) → none ≡ [] → show_as (map handler_stands_for) (handlers n r) ≡ go_on handler_stands_for (is_word (codes "ON")) (handler n) none r
unfolding handlers
handlers_begin n r none empty = ap (λ l. go_on handler_stands_for (is_word (codes "ON")) (handler n) l r) (sym empty)

-- Lists of statements.

pub block_seen : (n : ℕ) (w : List ℕ) (r : Reader) (b : Bool) → b ≡ sees (is_word w) r → b ≡ true → block n w r ≡ opened_block n w r
unfolding block
block_seen n w r b seen hit = either_hit (is_word w) (opened_block n w) (stop_reading Unexpected (λ p. [])) r b seen hit

pub block_missed : (n : ℕ) (w : List ℕ) (r s : Reader) (ss : List StatementTree) (b : Bool) → b ≡ sees (is_word w) r → b ≡ false → s ≡ stopped_by Unexpected r.stop r.rest r.end → ss ≡ []
    → show_as (map stands_for) (block n w r) ≡ (ss, s)
unfolding block
block_missed n w r s ss b seen missed s_is none =
    ap (show_as (map stands_for)) (either_missed (is_word w) (opened_block n w) (stop_reading Unexpected (λ p. [])) r b seen missed) ∙ (λ i. (sym none i, sym s_is i))

pub opened_deep : (n : ℕ) (w : List ℕ) (r s : Reader) (ss : List StatementTree) → n ≡ 0 → s ≡ stopped_by TooDeep r.stop r.rest r.end → ss ≡ [] → show_as (map stands_for) (opened_block n w r) ≡ (ss, s)
unfolding opened_block
opened_deep n w r s ss none s_is empty = ap (λ k. show_as (map stands_for) (opened_block k w r)) none ∙ (λ i. (sym empty i, sym s_is i))

pub opened_begin : (n m : ℕ) (w : List ℕ) (r s : Reader) (ss : List StatementTree) → n ≡ suc m → expect_token (word w) r ≡ (tt, s) → ss ≡ []
    → show_as (map stands_for) (opened_block n w r) ≡ go_on stands_for begins_statement (statement m) ss s
unfolding opened_block statement block
opened_begin n m w r s ss more first empty =
    ap (λ k. show_as (map stands_for) (opened_block k w r)) more
    ∙ ap (λ (z : Unit {0} × Reader). (map stands_for (repeat_while begins_statement (statement m) z.1).0, (repeat_while begins_statement (statement m) z.1).1)) first
    ∙ ap (λ l. go_on stands_for begins_statement (statement m) l s) (sym empty)
