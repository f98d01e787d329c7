-- What is read of modules stands for its trees, step by step.
use Rattle.std.proofs.Common.{◌≡◌, ℕ, ◌<◌, Bool, true, false, List, [], ◌∷◌, ◌++◌, length, map, refl, sym, ◌∙◌, ap}
use Rattle.std.specs.Prelude.{Option, Some, None, codes}
use Rattle.circus_syntax.specs.declared.named.Named.{Named}
use Rattle.circus_syntax.specs.TypeTree.{TypeTree}
use Rattle.circus_syntax.specs.Placed.{word, sign}
use Rattle.circus_syntax.specs.Reader.{Reader, place, sees, nothing}
use Rattle.circus_syntax.specs.Reading.{expect_token, name, names, behind, type}
use Rattle.circus_syntax.proofs.ByWord.{fixed_at_is}
use Rattle.circus_syntax.proofs.Loops.{goes_on, goes_end, goes_step, shorter}
use Rattle.circus_expression.specs.Standing.{show_as}
use Rattle.circus_expression.proofs.Stands.{either_hit, either_missed}
use Rattle.circus_statement.specs.StatementTree.{StatementTree}
use Rattle.circus_statement.specs.StatementReading.{is_word, list_end, block}
use Rattle.circus_statement.specs.StatementStanding as statement
use Rattle.circus_statement.proofs.Steps.{go_on}
use Rattle.circus_lang.specs.ModuleTree.{VariableTree, BodyOf, ProcedureOf, ModuleTree}
use Rattle.circus_lang.specs.ModuleReading.{imports, heading, variable, variables, body, procedure, procedures, main_procedure, module_end, serving_module, root_module, module_text}
use Rattle.circus_lang.specs.ModuleStanding.{body_stands_for, procedure_stands_for, main_at, main_stands_for, module_stands_for}
use Rattle.circus_lang.proofs.Modules.{shrinks_variable}

pub imports_some : (r s t : Reader) (ns : List Named) (b : Bool) → b ≡ sees (is_word (codes "IMPORTS")) r → b ≡ true → expect_token (word (codes "IMPORTS")) r ≡ (tt, s) → names s ≡ (ns, t) → imports r ≡ (ns, t)
unfolding imports
imports_some r s t ns b seen hit first second =
    either_hit (is_word (codes "IMPORTS")) (behind (word (codes "IMPORTS")) names) (nothing []) r b seen hit ∙ ap (λ (z : Unit {0} × Reader). names z.1) first ∙ second

pub imports_none : (r : Reader) (ns : List Named) (b : Bool) → b ≡ sees (is_word (codes "IMPORTS")) r → b ≡ false → ns ≡ [] → imports r ≡ (ns, r)
unfolding imports
imports_none r ns b seen missed none = either_missed (is_word (codes "IMPORTS")) (behind (word (codes "IMPORTS")) names) (nothing []) r b seen missed ∙ ap (λ l. (l, r)) (sym none)

pub heading_is : (r s t u : Reader) (ns : List Named) → imports r ≡ (ns, s) → expect_token (sign (codes ";")) s ≡ (tt, t) → expect_token (word (codes "BEGIN")) t ≡ (tt, u) → heading r ≡ (ns, u)
unfolding heading
heading_is r s t u ns a b c = rw (a, b, c) refl

pub closing_is : (r s t : Reader) → expect_token (word (codes "END")) r ≡ (tt, s) → expect_token (sign (codes ".")) s ≡ (tt, t) → module_end r ≡ (tt, t)
unfolding module_end
closing_is r s t a b = rw (a, b) refl

pub variable_is : (n : ℕ) (r s t u v w : Reader) (k : Named) (e : TypeTree) → expect_token (word (codes "VAR")) r ≡ (tt, s) → name s ≡ (k, t) → expect_token (sign (codes ":")) t ≡ (tt, u) → type n u ≡ (e, v) → expect_token (sign (codes ";")) v ≡ (tt, w)
    → variable n r ≡ (record { name = k; shape = e }, w)
unfolding variable
variable_is n r s t u v w k e a b c d f = rw (a, b, c, d, f) refl

pub variables_begin : (n : ℕ) (r : Reader) (none : List VariableTree) → none ≡ [] → variables n r ≡ goes_on (is_word (codes "VAR")) (variable n) none r
unfolding variables
variables_begin n r none empty = ap (λ l. goes_on (is_word (codes "VAR")) (variable n) l r) (sym empty)

pub variables_step : (n : ℕ) (all : List VariableTree × Reader) (done more : List VariableTree) (r s : Reader) (x : VariableTree) (b : Bool) → all ≡ goes_on (is_word (codes "VAR")) (variable n) done r → b ≡ sees (is_word (codes "VAR")) r → b ≡ true
    → variable n r ≡ (x, s) → more ≡ done ++ x ∷ [] → all ≡ goes_on (is_word (codes "VAR")) (variable n) more s
variables_step n all done more r s x b so_far seen hit is more_is =
    so_far ∙ goes_step (is_word (codes "VAR")) (variable n) (shrinks_variable n) done r s x (sym seen ∙ hit) is ∙ ap (λ l. goes_on (is_word (codes "VAR")) (variable n) l s) (sym more_is)

pub variables_shorter : (n : ℕ) (r s : Reader) (x : VariableTree) (b : Bool) → b ≡ sees (is_word (codes "VAR")) r → b ≡ true → variable n r ≡ (x, s) → length s.rest < length r.rest
variables_shorter n r s x b seen hit is = shorter (is_word (codes "VAR")) (variable n) (shrinks_variable n) r s x (sym seen ∙ hit) is

pub variables_end : (n : ℕ) (all : List VariableTree × Reader) (done : List VariableTree) (r : Reader) (b : Bool) → all ≡ goes_on (is_word (codes "VAR")) (variable n) done r → b ≡ sees (is_word (codes "VAR")) r → b ≡ false → all ≡ (done, r)
variables_end n all done r b so_far seen missed = so_far ∙ goes_end (is_word (codes "VAR")) (variable n) done r (sym seen ∙ missed)

body_tree : List VariableTree → List StatementTree → BodyOf StatementTree
body_tree vs ss = record { variables = vs; statements = ss }

pub body_is : (n : ℕ) (r s t u v : Reader) (vs : List VariableTree) (ss : List StatementTree) → variables n r ≡ (vs, s) → show_as (map statement.stands_for) (block n (codes "BEGIN") s) ≡ (ss, t)
    → expect_token (word (codes "END")) t ≡ (tt, u) → expect_token (sign (codes ";")) u ≡ (tt, v) → show_as body_stands_for (body n r) ≡ (record { variables = vs; statements = ss }, v)
unfolding body list_end body_tree
body_is n r s t u v vs ss first second third fourth =
    ap (λ (z : List VariableTree × Reader). (body_tree z.0 (map statement.stands_for (block n (codes "BEGIN") z.1).0), (expect_token (sign (codes ";")) (expect_token (word (codes "END")) (block n (codes "BEGIN") z.1).1).1).1)) first
    ∙ ap (λ (z : List StatementTree × Reader). (body_tree vs z.0, (expect_token (sign (codes ";")) (expect_token (word (codes "END")) z.1).1).1)) second
    ∙ ap (λ (z : Unit {0} × Reader). (body_tree vs ss, (expect_token (sign (codes ";")) z.1).1)) third
    ∙ ap (λ (z : Unit {0} × Reader). (body_tree vs ss, z.1)) fourth

procedure_tree : Named → BodyOf StatementTree → ProcedureOf StatementTree
procedure_tree k b = record { name = k; body = b }

pub procedure_is : (n : ℕ) (r s t u : Reader) (k : Named) (b : BodyOf StatementTree) → expect_token (word (codes "PROCEDURE")) r ≡ (tt, s) → name s ≡ (k, t) → show_as body_stands_for (body n t) ≡ (b, u)
    → show_as procedure_stands_for (procedure n r) ≡ (record { name = k; body = b }, u)
unfolding procedure procedure_tree
procedure_is n r s t u k b first second third =
    ap (λ (z : Unit {0} × Reader). (procedure_tree (name z.1).0 (body_stands_for (body n (name z.1).1).0), (body n (name z.1).1).1)) first
    ∙ ap (λ (z : Named × Reader). (procedure_tree z.0 (body_stands_for (body n z.1).0), (body n z.1).1)) second
    ∙ ap (λ (z : BodyOf StatementTree × Reader). (procedure_tree k z.0, z.1)) third

named_at : List ℕ → ℕ → Named
named_at w p = record { name = w; at = p }

pub main_is : (n : ℕ) (r s t : Reader) (w : List ℕ) (p : ℕ) (b : BodyOf StatementTree) → w ≡ codes "MAIN" → p ≡ place r → expect_token (word (codes "MAIN")) r ≡ (tt, s) → show_as body_stands_for (body n s) ≡ (b, t)
    → show_as main_stands_for (main_procedure n r) ≡ (record { name = record { name = w; at = p }; body = b }, t)
unfolding main_procedure procedure_tree named_at
main_is n r s t w p b word_is there first second =
    ap (λ (z : ℕ × Reader). (procedure_tree (main_at z.0) (body_stands_for (body n z.1).0), (body n z.1).1)) (fixed_at_is (word (codes "MAIN")) r s first)
    ∙ ap (λ (z : BodyOf StatementTree × Reader). (procedure_tree (main_at (place r)) z.0, z.1)) second
    ∙ (λ i. (procedure_tree (named_at (sym word_is i) (sym there i)) b, t))

pub procedures_begin : (n : ℕ) (r : Reader) (none : List (ProcedureOf StatementTree)) → none ≡ [] → show_as (map procedure_stands_for) (procedures n r) ≡ go_on procedure_stands_for (is_word (codes "PROCEDURE")) (procedure n) none r
unfolding procedures
procedures_begin n r none empty = ap (λ l. go_on procedure_stands_for (is_word (codes "PROCEDURE")) (procedure n) l r) (sym empty)

-- Modules.

module_tree : Bool → Named → Option Named → List Named → List VariableTree → List (ProcedureOf StatementTree) → ModuleTree
module_tree b k i ns vs ps = record { root = b; name = k; interface = i; imports = ns; variables = vs; procedures = ps }

pub serving_is : (n : ℕ) (r s t u v w x y z : Reader) (k i : Named) (ns : List Named) (vs : List VariableTree) (ps : List (ProcedureOf StatementTree))
    → expect_token (word (codes "MODULE")) r ≡ (tt, s) → name s ≡ (k, t) → expect_token (word (codes "IMPLEMENTS")) t ≡ (tt, u) → name u ≡ (i, v) → heading v ≡ (ns, w) → variables n w ≡ (vs, x)
    → show_as (map procedure_stands_for) (procedures n x) ≡ (ps, y) → module_end y ≡ (tt, z)
    → show_as module_stands_for (serving_module n r) ≡ (record { root = false; name = k; interface = Some i; imports = ns; variables = vs; procedures = ps }, z)
unfolding serving_module module_tree
serving_is n r s t u v w x y z k i ns vs ps a b c d e f g h =
    front
    ∙ ap (λ (q : List (ProcedureOf StatementTree) × Reader). (module_tree false k (Some i) ns vs q.0, (module_end q.1).1)) g
    ∙ ap (λ (q : Unit {0} × Reader). (module_tree false k (Some i) ns vs ps, q.1)) h
  where
    front : show_as module_stands_for (serving_module n r) ≡ (module_tree false k (Some i) ns vs (map procedure_stands_for (procedures n x).0), (module_end (procedures n x).1).1)
    front = rw (a, b, c, d, e, f) refl

pub root_is : (n : ℕ) (r s t u v w x : Reader) (k : Named) (ns : List Named) (vs : List VariableTree) (p : ProcedureOf StatementTree) (ps : List (ProcedureOf StatementTree))
    → expect_token (word (codes "ROOT")) r ≡ (tt, s) → name s ≡ (k, t) → heading t ≡ (ns, u) → variables n u ≡ (vs, v) → show_as main_stands_for (main_procedure n v) ≡ (p, w) → ps ≡ p ∷ [] → module_end w ≡ (tt, x)
    → show_as module_stands_for (root_module n r) ≡ (record { root = true; name = k; interface = None; imports = ns; variables = vs; procedures = ps }, x)
unfolding root_module module_tree
root_is n r s t u v w x k ns vs p ps a b c d e one f =
    front
    ∙ ap (λ (q : ProcedureOf StatementTree × Reader). (module_tree true k None ns vs (q.0 ∷ []), (module_end q.1).1)) e
    ∙ ap (λ (q : Unit {0} × Reader). (module_tree true k None ns vs (p ∷ []), q.1)) f
    ∙ ap (λ l. (module_tree true k None ns vs l, x)) (sym one)
  where
    front : show_as module_stands_for (root_module n r) ≡ (module_tree true k None ns vs (main_stands_for (main_procedure n v).0 ∷ []), (module_end (main_procedure n v).1).1)
    front = rw (a, b, c, d) refl

pub module_is_root : (n : ℕ) (r : Reader) (b : Bool) → b ≡ sees (is_word (codes "ROOT")) r → b ≡ true → module_text n r ≡ root_module n r
unfolding module_text
module_is_root n r b seen hit = either_hit (is_word (codes "ROOT")) (root_module n) (serving_module n) r b seen hit

pub module_is_serving : (n : ℕ) (r : Reader) (b : Bool) → b ≡ sees (is_word (codes "ROOT")) r → b ≡ false → module_text n r ≡ serving_module n r
unfolding module_text
module_is_serving n r b seen missed = either_missed (is_word (codes "ROOT")) (root_module n) (serving_module n) r b seen missed
