-- The productions of modules are lawful with every number of levels.
use Rattle.std.proofs.Common.{◌≡◌, ℕ, ◌+◌, suc, ◌<◌, Bool, true, false, List, [], ◌∷◌, ◌++◌, length, refl, sym, ◌∙◌, ap, subst, arith, ◌⊎◌, inl, inr}
use Rattle.std.specs.Prelude.{◌||◌, Option, Some, None, codes}
use Rattle.circus_syntax.specs.declared.named.Named.{Named}
use Rattle.circus_syntax.specs.Placed.{Placed, first, word, sign, Due, due, due_at, due_name, IsDue, AreDue}
use Rattle.circus_syntax.specs.Reader.{Reader, next, passes, sees, both, either_case, repeat_while}
use Rattle.circus_syntax.specs.Reading.{expect_token, name, names, behind}
use Rattle.circus_syntax.specs.Spelling.{each, comma, spelling_name, spelling_type, IsName, IsEach, IsListed}
use Rattle.circus_syntax.proofs.Sound.{Sound, sound_both}
use Rattle.circus_syntax.proofs.Repeats.{Shrinks}
use Rattle.circus_syntax.proofs.Complete.{Any, Opens}
use Rattle.circus_syntax.proofs.Tokens.{Always, comma_sign, is_comma, opens_due, sound_fixed, sound_name, shrinks_both, shrinks_fixed, shrinks_behind}
use Rattle.circus_syntax.proofs.Types.{sound_type}
use Rattle.circus_syntax.proofs.TypesRead.{NotDot}
use Rattle.circus_syntax.proofs.TypeLevels.{lawful_type}
use Rattle.circus_syntax.proofs.Lawful.{Lawful, Branch, lawful_at, lawful_fixed, lawful_fixed_at, lawful_name, lawful_both, lawful_then, lawful_mapped, branch_of, lawful_cased, lawful_rest, lawful_repeated, lawful_behind}
use Rattle.circus_expression.proofs.Ends.{AllLawful}
use Rattle.circus_expression.proofs.Stands.{either_hit, either_missed}
use Rattle.circus_statement.specs.WrittenStatement.{WrittenStatement, ending}
use Rattle.circus_statement.specs.WrittenStatement as statement
use Rattle.circus_statement.specs.StatementReading.{is_word}
use Rattle.circus_statement.proofs.Lawfulness.{stays_lexeme, link_first, link_due, link_listed, link_any, NoStatement, no_end, lawful_ended, lawful_block, body_of}
use Rattle.circus_lang.specs.ModuleTree.{VariableTree}
use Rattle.circus_lang.specs.WrittenModule.{WrittenBody, WrittenProcedure, WrittenModule, serving, root, spelling_imports, spelling_heading, spelling_variable, spelling_body, spelling_procedure, spelling_main, spelling_module, IsVariable, IsBody, IsProcedure, IsModule}
use Rattle.circus_lang.specs.WrittenModule as written
use Rattle.circus_lang.specs.ModuleReading.{imports, heading, variable, variables, body, procedure, procedures, main_procedure, module_end, serving_module, root_module, module_text, begins_module}

-- What stands in front of the variables.

-- the first of some names, and the others
abbrev spelling_first : Named × List Named → List Due
spelling_first x = spelling_name x.0 ++ each (λ y. comma ∷ spelling_name y) x.1

abbrev AreFirst : Named × List Named → Type 0
AreFirst x = IsName x.0 × IsEach IsName x.1

abbrev NoComma : Option Placed → Type 0
NoComma o = Any o × (passes is_comma o ≡ false)

lawful_names : (n : ℕ) → Lawful n (both name (repeat_while is_comma (behind comma_sign name))) (both name (repeat_while is_comma (behind comma_sign name))) spelling_first AreFirst NoComma
lawful_names n =
    lawful_both n (lawful_name n)
    (lawful_repeated is_comma n (shrinks_behind comma_sign sound_name) (shrinks_behind comma_sign sound_name) (λ m ts rest g d. opens_due comma_sign (spelling_name m) ts rest d) (λ o hit. tt)
    (lawful_at is_comma n (lawful_behind n comma_sign (lawful_name n))))
    (link_any _ _ NoComma)

lawful_imported : (n : ℕ) → Lawful n (behind (word (codes "IMPORTS")) names) (behind (word (codes "IMPORTS")) names) spelling_imports (IsListed IsName) NoComma
unfolding names
lawful_imported n = lawful_mapped n (λ x. x.0 ∷ x.1) spelling_imports (IsListed IsName) (λ x. refl) (λ x g. g) back (lawful_behind n (word (codes "IMPORTS")) (lawful_names n))
  where
    back : (ns : List Named) → IsListed IsName ns → (x : Named × List Named) × (x.0 ∷ x.1 ≡ ns) × AreFirst x
    back [] g = absurd g
    back (m ∷ ns) g = ((m, ns), refl, g)

abbrev NoImports : Option Placed → Type 0
NoImports o = NoComma o × (passes (is_word (codes "IMPORTS")) o ≡ false)

lawful_imports : (n : ℕ) → Lawful n imports imports spelling_imports (IsEach IsName) NoImports
unfolding imports
lawful_imports n = lawful_rest (is_word (codes "IMPORTS")) n [] (IsEach IsName) refl tt weaker parts opens (lawful_at (is_word (codes "IMPORTS")) n (lawful_imported n))
  where
    weaker : (ns : List Named) → IsListed IsName ns → IsEach IsName ns
    weaker [] g = absurd g
    weaker (m ∷ ns) g = g

    parts : (ns : List Named) → IsEach IsName ns → (ns ≡ []) ⊎ IsListed IsName ns
    parts [] g = inl refl
    parts (m ∷ ns) g = inr g

    opens : Opens spelling_imports (IsListed IsName) (is_word (codes "IMPORTS"))
    opens [] ts rest g d = absurd g
    opens (m ∷ ns) ts rest g d = opens_due (word (codes "IMPORTS")) (spelling_first (m, ns)) ts rest d

lawful_heading : (n : ℕ) → Lawful n heading heading spelling_heading (IsEach IsName) Any
unfolding heading
lawful_heading n =
    lawful_mapped n (λ x. x.0) spelling_heading (IsEach IsName) (λ x. refl) (λ x g. g.0) (λ ns g. ((ns, (tt, tt)), refl, (g, (tt, tt))))
    (lawful_both n (lawful_imports n) (lawful_then n (lawful_fixed n (sign (codes ";"))) (lawful_fixed n (word (codes "BEGIN"))))
    (link_due _ Any NoImports (sign (codes ";")) (λ y. due (word (codes "BEGIN")) ∷ []) (λ y. refl) (λ s. ((tt, refl), refl))))

-- Variables.

lawful_variable : (n m : ℕ) → suc n < m → Lawful n (variable n) (variable m) spelling_variable IsVariable Any
unfolding variable
lawful_variable n m above =
    lawful_mapped n (λ x. record { name = x.1.0; shape = x.1.1.1.0 }) spelling_variable IsVariable (λ x. refl) (λ x g. (g.1.0, g.1.1.1.0))
    (λ v g. ((tt, (v.name, (tt, (v.shape, tt)))), refl, (tt, (g.0, (tt, (g.1, tt))))))
    (lawful_then n (lawful_fixed n (word (codes "VAR"))) (lawful_then n (lawful_name n) (lawful_then n (lawful_fixed n (sign (codes ":")))
    (lawful_both n (lawful_type n m (omega (arith, above))) (lawful_fixed n (sign (codes ";"))) (link_due _ Any NotDot (sign (codes ";")) (λ u. []) (λ u. refl) (λ s. refl))))))

pub shrinks_variable : (n : ℕ) → Shrinks (is_word (codes "VAR")) (variable n)
unfolding variable
shrinks_variable n r hit =
    shrinks_both (is_word (codes "VAR")) (expect_token (word (codes "VAR"))) _ (shrinks_fixed (word (codes "VAR")))
    (sound_both sound_name (sound_both (sound_fixed (sign (codes ":"))) (sound_both (sound_type n) (sound_fixed (sign (codes ";")))))) r hit

abbrev NoVariable : Option Placed → Type 0
NoVariable o = Any o × (passes (is_word (codes "VAR")) o ≡ false)

open_variable : Opens spelling_variable IsVariable (is_word (codes "VAR"))
open_variable v ts rest g d = opens_due (word (codes "VAR")) (due_name v.name ∷ due (sign (codes ":")) ∷ (spelling_type v.shape ++ statement.semicolon ∷ [])) ts rest d

lawful_variables : (n m : ℕ) → suc n < m → Lawful n (variables n) (variables m) (each spelling_variable) (IsEach IsVariable) NoVariable
unfolding variables
lawful_variables n m above =
    lawful_repeated (is_word (codes "VAR")) n (shrinks_variable n) (shrinks_variable m) open_variable (λ o hit. tt) (lawful_at (is_word (codes "VAR")) n (lawful_variable n m above))

-- Procedures.

lawful_body : (n m : ℕ) → suc n < m → Lawful n (body n) (body m) spelling_body IsBody Any
unfolding body
lawful_body n m above =
    lawful_mapped n (λ x. record { variables = x.0; statements = x.1.0 }) spelling_body IsBody (λ x. refl) (λ x g. (g.0, g.1.0)) (λ b g. ((b.variables, (b.statements, tt)), refl, (g.0, (g.1, tt))))
    (lawful_both n (lawful_variables n m above)
    (lawful_both n (lawful_block n m above (codes "BEGIN")) (lawful_ended n) (link_due _ Any NoStatement (word (codes "END")) (λ u. statement.semicolon ∷ []) (λ u. refl) no_end))
    (link_listed _ Any NoVariable (codes "BEGIN") (λ y. body_of y.0 ++ ending) (λ y. refl) (λ s. (tt, refl))))

lawful_procedure : (n m : ℕ) → suc n < m → Lawful n (procedure n) (procedure m) spelling_procedure IsProcedure Any
unfolding procedure
lawful_procedure n m above =
    lawful_mapped n (λ x. record { name = x.1.0; body = x.1.1 }) spelling_procedure IsProcedure (λ x. refl) (λ x g. (g.1.0, g.1.1)) (λ p g. ((tt, (p.name, p.body)), refl, (tt, (g.0, g.1))))
    (lawful_then n (lawful_fixed n (word (codes "PROCEDURE"))) (lawful_then n (lawful_name n) (lawful_body n m above)))

sound_body : (n : ℕ) → Sound (body n) spelling_body IsBody
sound_body n = (lawful_body n (n + 2) (omega arith)).narrow

pub shrinks_procedure : (n : ℕ) → Shrinks (is_word (codes "PROCEDURE")) (procedure n)
unfolding procedure
shrinks_procedure n r hit =
    shrinks_both (is_word (codes "PROCEDURE")) (expect_token (word (codes "PROCEDURE"))) (both name (body n)) (shrinks_fixed (word (codes "PROCEDURE"))) (sound_both sound_name (sound_body n)) r hit

abbrev NoProcedure : Option Placed → Type 0
NoProcedure o = Any o × (passes (is_word (codes "PROCEDURE")) o ≡ false)

open_procedure : Opens spelling_procedure IsProcedure (is_word (codes "PROCEDURE"))
open_procedure p ts rest g d = opens_due (word (codes "PROCEDURE")) (due_name p.name ∷ spelling_body p.body) ts rest d

lawful_procedures : (n m : ℕ) → suc n < m → Lawful n (procedures n) (procedures m) (each spelling_procedure) (IsEach IsProcedure) NoProcedure
unfolding procedures
lawful_procedures n m above =
    lawful_repeated (is_word (codes "PROCEDURE")) n (shrinks_procedure n) (shrinks_procedure m) open_procedure (λ o hit. tt) (lawful_at (is_word (codes "PROCEDURE")) n (lawful_procedure n m above))

lawful_main : (n m : ℕ) → suc n < m → Lawful n (main_procedure n) (main_procedure m) (λ x. spelling_main x.0 x.1) (λ x. Always x.0 × IsBody x.1) Any
unfolding main_procedure
lawful_main n m above = lawful_then n (lawful_fixed_at n (word (codes "MAIN"))) (lawful_body n m above)

lawful_closing : (n : ℕ) → Lawful n module_end module_end (λ u. written.module_closing) Always Any
unfolding module_end
lawful_closing n =
    lawful_mapped n (λ x. tt) (λ u. written.module_closing) Always (λ x. refl) (λ x g. tt) (λ u g. ((tt, tt), refl, (tt, tt)))
    (lawful_then n (lawful_fixed n (word (codes "END"))) (lawful_fixed n (sign (codes "."))))

-- Modules.

-- whether it is a root
abbrev ModuleIs : Bool → WrittenModule → Type 0
ModuleIs true (root k ns vs at b) = IsModule (root k ns vs at b)
ModuleIs false (serving k i ns vs ps) = IsModule (serving k i ns vs ps)
ModuleIs _ _ = ⊥

module_good : (b : Bool) (w : WrittenModule) → ModuleIs b w → IsModule w
module_good true (root k ns vs at b) g = g
module_good false (serving k i ns vs ps) g = g
module_good _ _ g = absurd g

-- what stands behind the variables of a module
procedures_first : List WrittenProcedure → Due
procedures_first [] = due (word (codes "END"))
procedures_first (p ∷ ps) = due (word (codes "PROCEDURE"))

procedures_rest : List WrittenProcedure → List Due
procedures_rest [] = due (sign (codes ".")) ∷ []
procedures_rest (p ∷ ps) = ((due_name p.name ∷ spelling_body p.body) ++ each spelling_procedure ps) ++ written.module_closing

procedures_parts : (ps : List WrittenProcedure) → each spelling_procedure ps ++ written.module_closing ≡ procedures_first ps ∷ procedures_rest ps
unfolding procedures_first procedures_rest
procedures_parts [] = refl
procedures_parts (p ∷ ps) = refl

procedures_stay : (ps : List WrittenProcedure) (t : Placed) → IsDue (procedures_first ps) t → NoVariable (Some t)
unfolding procedures_first
procedures_stay [] t d = stays_lexeme NoVariable (word (codes "END")) (λ s. (tt, refl)) t d.0 d.1
procedures_stay (p ∷ ps) t d = stays_lexeme NoVariable (word (codes "PROCEDURE")) (λ s. (tt, refl)) t d.0 d.1

abbrev ServingParts : Type 0
ServingParts = Unit {0} × (Named × (Unit {0} × (Named × (List Named × (List VariableTree × (List WrittenProcedure × Unit {0}))))))

abbrev RootParts : Type 0
RootParts = Unit {0} × (Named × (List Named × (List VariableTree × ((ℕ × WrittenBody) × Unit {0}))))

abbrev serving_of : ServingParts → WrittenModule
serving_of x = serving x.1.0 x.1.1.1.0 x.1.1.1.1.0 x.1.1.1.1.1.0 x.1.1.1.1.1.1.0

abbrev root_of : RootParts → WrittenModule
root_of x = root x.1.0 x.1.1.0 x.1.1.1.0 x.1.1.1.1.0.0 x.1.1.1.1.0.1

serving_back : (w : WrittenModule) → ModuleIs false w
    → (x : ServingParts) × (serving_of x ≡ w) × (Unit {0} × (IsName x.1.0 × (Unit {0} × (IsName x.1.1.1.0 × (IsEach IsName x.1.1.1.1.0 × (IsEach IsVariable x.1.1.1.1.1.0 × (IsEach IsProcedure x.1.1.1.1.1.1.0 × Unit {0})))))))
serving_back (serving k i ns vs ps) g = ((tt, (k, (tt, (i, (ns, (vs, (ps, tt))))))), refl, (tt, (g.0, (tt, (g.1, (g.2, (g.3, (g.4, tt))))))))
serving_back _ g = absurd g

root_back : (w : WrittenModule) → ModuleIs true w
    → (x : RootParts) × (root_of x ≡ w) × (Unit {0} × (IsName x.1.0 × (IsEach IsName x.1.1.0 × (IsEach IsVariable x.1.1.1.0 × ((Unit {0} × IsBody x.1.1.1.1.0.1) × Unit {0})))))
root_back (root k ns vs at b) g = ((tt, (k, (ns, (vs, ((at, b), tt))))), refl, (tt, (g.0, (g.1, (g.2, ((tt, g.3), tt))))))
root_back _ g = absurd g

lawful_serving : (n m : ℕ) → suc n < m → Lawful n (serving_module n) (serving_module m) spelling_module (ModuleIs false) Any
unfolding serving_module
lawful_serving n m above =
    lawful_mapped n serving_of spelling_module (ModuleIs false) (λ x. refl) (λ x g. (g.1.0, g.1.1.1.0, g.1.1.1.1.0, g.1.1.1.1.1.0, g.1.1.1.1.1.1.0)) serving_back
    (lawful_then n (lawful_fixed n (word (codes "MODULE"))) (lawful_then n (lawful_name n) (lawful_then n (lawful_fixed n (word (codes "IMPLEMENTS"))) (lawful_then n (lawful_name n)
    (lawful_then n (lawful_heading n)
    (lawful_both n (lawful_variables n m above)
    (lawful_both n (lawful_procedures n m above) (lawful_closing n) (link_due _ Any NoProcedure (word (codes "END")) (λ u. due (sign (codes ".")) ∷ []) (λ u. refl) (λ s. (tt, refl))))
    (link_first _ Any NoVariable (λ y. procedures_first y.0) (λ y. procedures_rest y.0) (λ y. procedures_parts y.0) (λ y t g d. procedures_stay y.0 t d))))))))

lawful_root : (n m : ℕ) → suc n < m → Lawful n (root_module n) (root_module m) spelling_module (ModuleIs true) Any
unfolding root_module
lawful_root n m above =
    lawful_mapped n root_of spelling_module (ModuleIs true) (λ x. refl) (λ x g. (g.1.0, g.1.1.0, g.1.1.1.0, g.1.1.1.1.0.1)) root_back
    (lawful_then n (lawful_fixed n (word (codes "ROOT"))) (lawful_then n (lawful_name n) (lawful_then n (lawful_heading n)
    (lawful_both n (lawful_variables n m above) (lawful_then n (lawful_main n m above) (lawful_closing n))
    (link_first _ Any NoVariable (λ y. due_at (word (codes "MAIN")) y.0.0) (λ y. spelling_body y.0.1 ++ written.module_closing) (λ y. refl)
    (λ y t g d. stays_lexeme NoVariable (word (codes "MAIN")) (λ s. (tt, refl)) t d.0 d.1))))))

abbrev module_by : ℕ → Bool → Reader → WrittenModule × Reader
module_by n = either_case (root_module n) (serving_module n)

no_root : (ds : List Due) (ts rest : List Placed) → AreDue (due (word (codes "MODULE")) ∷ ds) ts → passes (is_word (codes "ROOT")) (first (ts ++ rest)) ≡ false
no_root ds [] rest d = absurd d
no_root ds (t ∷ ts) rest d = stays_lexeme (λ o. passes (is_word (codes "ROOT")) o ≡ false) (word (codes "MODULE")) (λ s. refl) t d.0.0 d.0.1

module_begins : (w : WrittenModule) (ts rest : List Placed) → IsModule w → AreDue (spelling_module w) ts → Any (first rest) → (b : Bool) × (passes (is_word (codes "ROOT")) (first (ts ++ rest)) ≡ b) × ModuleIs b w
module_begins (serving k i ns vs ps) ts rest good d stays =
    let behind_it = due_name k ∷ due (word (codes "IMPLEMENTS")) ∷ due_name i ∷ (spelling_heading ns ++ (each spelling_variable vs ++ (each spelling_procedure ps ++ written.module_closing))) in
    (false, no_root behind_it ts rest d, good)
module_begins (root k ns vs at b) ts rest good d stays =
    let behind_it = due_name k ∷ (spelling_heading ns ++ (each spelling_variable vs ++ (spelling_main at b ++ written.module_closing))) in
    (true, opens_due (word (codes "ROOT")) behind_it ts rest d, good)

pub modules_lawful : AllLawful module_text spelling_module IsModule Any
unfolding module_text
modules_lawful n m above = lawful_cased (passes (is_word (codes "ROOT"))) n (module_by n) (module_by m) ModuleIs branches (lawful_serving n m above).levels.filled module_begins
  where
    branches : (b : Bool) → Branch (passes (is_word (codes "ROOT"))) b n (module_by n b) (module_by m b) spelling_module IsModule (ModuleIs b) Any
    branches true = branch_of (passes (is_word (codes "ROOT"))) true n IsModule (module_good true) (lawful_root n m above)
    branches false = branch_of (passes (is_word (codes "ROOT"))) false n IsModule (module_good false) (lawful_serving n m above)

-- A module begins with MODULE or ROOT, and takes it.

first_of_two : (a b : Bool) → (a || b) ≡ true → b ≡ false → a ≡ true
first_of_two true b either none = refl
first_of_two false b either none = sym none ∙ either

or_true : (b : Bool) → (b || true) ≡ true
or_true true = refl
or_true false = refl

shrinks_serving : (n : ℕ) → Shrinks (is_word (codes "MODULE")) (serving_module n)
unfolding serving_module
shrinks_serving n r hit =
    shrinks_both (is_word (codes "MODULE")) (expect_token (word (codes "MODULE"))) _ (shrinks_fixed (word (codes "MODULE")))
    (sound_both sound_name (sound_both (sound_fixed (word (codes "IMPLEMENTS"))) (sound_both sound_name (sound_both (lawful_heading n).narrow
    (sound_both (lawful_variables n (n + 2) (omega arith)).narrow (sound_both (lawful_procedures n (n + 2) (omega arith)).narrow (lawful_closing n).narrow)))))) r hit

shrinks_root : (n : ℕ) → Shrinks (is_word (codes "ROOT")) (root_module n)
unfolding root_module
shrinks_root n r hit =
    shrinks_both (is_word (codes "ROOT")) (expect_token (word (codes "ROOT"))) _ (shrinks_fixed (word (codes "ROOT")))
    (sound_both sound_name (sound_both (lawful_heading n).narrow (sound_both (lawful_variables n (n + 2) (omega arith)).narrow (sound_both (lawful_main n (n + 2) (omega arith)).narrow (lawful_closing n).narrow)))) r hit

pub shrinks_module : (n : ℕ) → Shrinks begins_module (module_text n)
unfolding module_text
shrinks_module n r hit = by_next (next r) refl hit
  where
    by_next : (o : Option Placed) → next r ≡ o → passes begins_module o ≡ true → length (module_text n r).1.rest < length r.rest
    by_next None is hit = absurd (cc)
    by_next (Some t) is hit = by_root (is_word (codes "ROOT") t) refl
      where
        by_root : (b : Bool) → is_word (codes "ROOT") t ≡ b → length (module_text n r).1.rest < length r.rest
        by_root true root_is =
            let seen : sees (is_word (codes "ROOT")) r ≡ true = ap (passes (is_word (codes "ROOT"))) is ∙ root_is in
            subst (λ (x : WrittenModule × Reader). length x.1.rest < length r.rest) (sym (either_hit (is_word (codes "ROOT")) (root_module n) (serving_module n) r true (sym seen) refl)) (shrinks_root n r seen)
        by_root false root_is =
            let missed : sees (is_word (codes "ROOT")) r ≡ false = ap (passes (is_word (codes "ROOT"))) is ∙ root_is in
            let seen : sees (is_word (codes "MODULE")) r ≡ true = ap (passes (is_word (codes "MODULE"))) is ∙ first_of_two (is_word (codes "MODULE") t) (is_word (codes "ROOT") t) hit root_is in
            subst (λ (x : WrittenModule × Reader). length x.1.rest < length r.rest) (sym (either_missed (is_word (codes "ROOT")) (root_module n) (serving_module n) r false (sym missed) refl)) (shrinks_serving n r seen)

pub module_opens : Opens spelling_module IsModule begins_module
module_opens w ts rest good d = by_first (first (ts ++ rest)) (begun w ts rest d)
  where
    Begun : Option Placed → Type 0
    Begun o = (passes (is_word (codes "MODULE")) o ≡ true) ⊎ (passes (is_word (codes "ROOT")) o ≡ true)

    begun : (v : WrittenModule) (us more : List Placed) → AreDue (spelling_module v) us → Begun (first (us ++ more))
    begun (serving k i ns vs ps) us more e =
        inl (opens_due (word (codes "MODULE")) (due_name k ∷ due (word (codes "IMPLEMENTS")) ∷ due_name i ∷ (spelling_heading ns ++ (each spelling_variable vs ++ (each spelling_procedure ps ++ written.module_closing)))) us more e)
    begun (root k ns vs at b) us more e = inr (opens_due (word (codes "ROOT")) (due_name k ∷ (spelling_heading ns ++ (each spelling_variable vs ++ (spelling_main at b ++ written.module_closing)))) us more e)

    by_first : (o : Option Placed) → Begun o → passes begins_module o ≡ true
    by_first None (inl is) = cc
    by_first None (inr is) = cc
    by_first (Some t) (inl is) = ap (λ b. b || is_word (codes "ROOT") t) is
    by_first (Some t) (inr is) = ap (λ b. is_word (codes "MODULE") t || b) is ∙ or_true (is_word (codes "MODULE") t)
