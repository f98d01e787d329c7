-- The faults of statements stand in their text.
use Rattle.std.proofs.Common.{◌≡◌, ℕ, ◌+◌, not, List, [], ◌∷◌, ◌++◌, length, map, Option, Some, None, refl, sym, ap, subst, codes}
use Rattle.std.specs.Prelude.{◌==◌, is_none, option_map}
use Rattle.circus_value.specs.ShapeTree.{ShapeTree, sequence}
use Rattle.circus_syntax.specs.declared.named.Named.{Named}
use Rattle.circus_syntax.specs.Placed.{Due, word, sign, due, due_at, due_name, open_level}
use Rattle.circus_syntax.specs.Spelling.{comma, each, with_commas, if_written}
use Rattle.circus_expression.specs.ExpressionTree.{PlaceTree, expression_trees}
use Rattle.circus_expression.specs.Written.{Written, WrittenPlace, spelling, spelling_place, spelling_list}
use Rattle.circus_expression.specs.Standing.{place_stands_for}
use Rattle.circus_expression.specs.Standing as expression
use Rattle.circus_statement.specs.StatementTree.{HandlerTrees, CallOf, IntoOf, HandledOf, assign, only_then, then_else, while, append, call, return, raise, no_statements, more_statements, no_handlers, more_handlers, statement_trees}
use Rattle.circus_statement.specs.WrittenStatement.{WrittenStatement, WrittenStatements, WrittenHandlers, written_statements, semicolon, ending, spelling_places, spelling_into, spelling_caught, spelling_handled, spelling_call, spelling_statement, spelling_statements, spelling_handlers, IsCaught, IsStatement, AreStatements, AreHandlers}
use Rattle.circus_statement.specs.StatementStanding.{places_stand_for, into_stands_for, call_stands_for, handled_stands_for, stands_for, stand_for, handlers_stand_for}
use Rattle.circus_checked.specs.Sorts.{sort_of}
use Rattle.circus_resolve.specs.declared.cause.CheckCause.TheVariants.{Unknown, Mistyped}
use Rattle.circus_resolve.specs.Passing.{is_truth}
use Rattle.circus_resolve.specs.Faults.{Slots, alike, for_fields, slot_at, field_count, each_faults, expression_faults, place_faults, place_shape, sort, place_of, wanted_faults, wanted_for, wanted_alike}
use Rattle.circus_body.specs.Context.{Offered, Called, not_imported, unsaid, a_module, Context}
use Rattle.circus_body.specs.Faults.{called_faults, arguments_of, results_of, reported_by, values_of, error_faults, number_faults, sequence_faults, item_shape, last_faults, list_faults, places_faults, into_faults, faults_of_condition, handled_faults, faults_of_call, results_faults, ask_faults, faults, all_faults, handlers_faults}
use Rattle.circus_body.proofs.Rising.{Rise, front, back, behind, unopened, Lies, first}
use Rattle.circus_body.proofs.InText.{AreIn, joined, one}
use Rattle.circus_body.proofs.TypesInText.{named}
use Rattle.circus_body.proofs.ExpressionsInText.{written_in, place_in, place_begins, list_in, wanted_in, wanted_for_in, alike_in}

module _ (low high : ℕ) where
  called_in : (c : Called) (m procedure : Named) → Lies low high m.at → Lies low high procedure.at → AreIn low high (called_faults c m procedure)
  called_in not_imported m procedure first second = (first, tt)
  called_in unsaid m procedure first second = tt
  called_in (a_module _ procedures) m procedure first second = one low high (is_none (procedures procedure.name)) procedure.at Unknown second

  error_in : (o : Option Offered) (n : Named) → Lies low high n.at → AreIn low high (error_faults o n)
  error_in None n lies = tt
  error_in (Some o) n lies = one low high (is_none (o.reported n.name)) n.at Unknown lies

  number_in : (slots : Slots) (n at : ℕ) → Lies low high at → AreIn low high (number_faults slots n at)
  number_in (alike _) n at lies = tt
  number_in (for_fields fs) n at lies = one low high (not (n == field_count fs)) at Mistyped lies

  sequence_in : (o : Option ShapeTree) (at : ℕ) → Lies low high at → AreIn low high (sequence_faults o at)
  sequence_in None at lies = tt
  sequence_in (Some (sequence _ _)) at lies = tt
  sequence_in (Some _) at lies = (lies, tt)

  last_in : (h : HandledOf PlaceTree) (hs : HandlerTrees) → Lies low high h.at → AreIn low high (last_faults h hs)
  last_in h no_handlers lies = tt
  last_in h (more_handlers _ _ _) lies = one low high (is_none h.error) h.at Mistyped lies

-- a handler stands where its name or OTHER does
caught_at : (low high at : ℕ) (n : Option Named) (ps : Option (List WrittenPlace)) (ds : List Due) → IsCaught at n ps → Rise low high (spelling_caught at n ps ++ ds) → Lies low high at
caught_at low high at None ps ds good rise = first low high (due_at (word (codes "OTHER")) at) ds at (λ p is. is) rise
caught_at low high at (Some n) ps ds (same, named_good, places_good) rise =
    subst (Lies low high) (sym same) (named low high n (if_written spelling_places ps ++ ds) rise)

module _ (context : Context) where
  tested_in : (low high : ℕ) (w : Written) → Rise low high (spelling w) → AreIn low high (faults_of_condition context (expression.stands_for w))
  tested_in low high w rise =
      let a = expression.stands_for w in
      let s = written_in context.scope low high w rise in
      joined low high (expression_faults context.scope a) (wanted_faults is_truth (sort context.scope a) (place_of a)) s.faults
      (wanted_in low high is_truth (sort context.scope a) (place_of a) s.begins)

  values_in : (low high : ℕ) (slots : Slots) (at : ℕ) (ws : List Written) → Lies low high at → Rise low high (spelling_list ws) → AreIn low high (list_faults context slots at (map expression.stands_for ws))
  values_in low high slots at ws lies rise =
      let es = map expression.stands_for ws in
      joined low high (number_faults slots (length es) at) (each_faults context.scope slots 0 (expression_trees es))
      (number_in low high slots (length es) at lies) (list_in context.scope low high slots ws rise)

  -- ---- places in a row

  one_place : (low high : ℕ) (slots : Slots) (k : ℕ) (p : WrittenPlace) (ps : List WrittenPlace) → Rise low high (spelling_place p) → AreIn low high (places_faults context slots (k + 1) (places_stand_for ps)) → AreIn low high (places_faults context slots k (places_stand_for (p ∷ ps)))
  one_place low high slots k p ps rise others =
      let tree = place_stands_for p in
      let own = place_faults context.scope tree in
      let fits = wanted_alike (option_map sort_of (slot_at slots k)) (option_map sort_of (place_shape context.scope tree)) p.name.at in
      joined low high (own ++ fits) (places_faults context slots (k + 1) (places_stand_for ps))
      (joined low high own fits (place_in context.scope low high p rise)
      (alike_in low high (option_map sort_of (slot_at slots k)) (option_map sort_of (place_shape context.scope tree)) p.name.at (place_begins context.scope low high p rise)))
      others

  more_places_in : (low high : ℕ) (slots : Slots) (k : ℕ) (ps : List WrittenPlace) → Rise low high (each (λ q. comma ∷ spelling_place q) ps) → AreIn low high (places_faults context slots k (places_stand_for ps))
  more_places_in low high slots k [] rise = tt
  more_places_in low high slots k (p ∷ ps) rise =
      let others = each (λ (q : WrittenPlace). comma ∷ spelling_place q) ps in
      one_place low high slots k p ps (behind low high comma (spelling_place p) (front low high (comma ∷ spelling_place p) others rise))
      (more_places_in low high slots (k + 1) ps (back low high (comma ∷ spelling_place p) others rise))

  all_places_in : (low high : ℕ) (slots : Slots) (k : ℕ) (ps : List WrittenPlace) → Rise low high (with_commas spelling_place ps) → AreIn low high (places_faults context slots k (places_stand_for ps))
  all_places_in low high slots k [] rise = tt
  all_places_in low high slots k (p ∷ ps) rise =
      let others = each (λ (q : WrittenPlace). comma ∷ spelling_place q) ps in
      one_place low high slots k p ps (front low high (spelling_place p) others rise) (more_places_in low high slots (k + 1) ps (back low high (spelling_place p) others rise))

  -- those between brackets, where their number is told at a place
  given_in : (low high : ℕ) (slots : Slots) (at : ℕ) (ps : List WrittenPlace) → Lies low high at → Rise low high (spelling_places ps) → AreIn low high (into_faults context slots at (Some (places_stand_for ps)))
  given_in low high slots at ps lies rise =
      let trees = places_stand_for ps in
      let inner = with_commas spelling_place ps ++ due (sign (codes "]")) ∷ [] in
      joined low high (number_faults slots (length trees) at) (places_faults context slots 0 trees) (number_in low high slots (length trees) at lies)
      (all_places_in low high slots 0 ps (front low high (with_commas spelling_place ps) (due (sign (codes "]")) ∷ []) (behind low high (due (sign (codes "["))) inner rise)))

  -- ---- calls

  results_in : (low high : ℕ) (slots : Slots) (i : Option (IntoOf WrittenPlace)) → Rise low high (if_written spelling_into i) → AreIn low high (results_faults context slots (option_map into_stands_for i))
  results_in low high slots None rise = tt
  results_in low high slots (Some i) rise =
      given_in low high slots i.at i.places (first low high (due_at (word (codes "INTO")) i.at) (spelling_places i.places) i.at (λ p is. is) rise)
      (behind low high (due_at (word (codes "INTO")) i.at) (spelling_places i.places) rise)

  ask_in : (low high at : ℕ) (c : CallOf Written WrittenPlace) → Rise low high (spelling_call at c) → AreIn low high (ask_faults context (call_stands_for c))
  ask_in low high at c rise =
      let tree = call_stands_for c in
      let given = spelling_list c.arguments ++ if_written spelling_into c.into in
      let procedure = due_name c.procedure ∷ given in
      let first_name = behind low high (due_at (word (codes "CALL")) at) (due_name c.«module» ∷ due (sign (codes ".")) ∷ procedure) rise in
      let second_name = behind low high (due (sign (codes "."))) procedure (behind low high (due_name c.«module») (due (sign (codes ".")) ∷ procedure) first_name) in
      let rest = behind low high (due_name c.procedure) given second_name in
      let own = called_faults (context.called c.«module».name) c.«module» c.procedure in
      let lies = named low high c.procedure given second_name in
      let arguments = list_faults context (arguments_of (faults_of_call context tree)) c.procedure.at tree.arguments in
      joined low high (own ++ arguments) (results_faults context (results_of (faults_of_call context tree)) tree.into)
      (joined low high own arguments
      (called_in low high (context.called c.«module».name) c.«module» c.procedure (named low high c.«module» (due (sign (codes ".")) ∷ procedure) first_name) lies)
      (values_in low high (arguments_of (faults_of_call context tree)) c.procedure.at c.arguments lies (front low high (spelling_list c.arguments) (if_written spelling_into c.into) rest)))
      (results_in low high (results_of (faults_of_call context tree)) c.into (back low high (spelling_list c.arguments) (if_written spelling_into c.into) rest))

  handled_in : (low high : ℕ) (o : Option Offered) (at : ℕ) (n : Option Named) (ps : Option (List WrittenPlace)) → IsCaught at n ps → Rise low high (spelling_caught at n ps) → AreIn low high (handled_faults context o at n (option_map places_stand_for ps))
  handled_in low high o at None ps good rise = subst (λ given. AreIn low high (handled_faults context o at None (option_map places_stand_for given))) (sym good) tt
  handled_in low high o at (Some n) None (same, name_good, places_good) rise =
      joined low high (error_faults o n) [] (error_in low high o n (named low high n [] rise)) tt
  handled_in low high o at (Some n) (Some ps) (same, name_good, places_good) rise =
      let lies = named low high n (spelling_places ps) rise in
      joined low high (error_faults o n) (into_faults context (values_of (reported_by o n)) at (Some (places_stand_for ps))) (error_in low high o n lies)
      (given_in low high (values_of (reported_by o n)) at ps (subst (Lies low high) (sym same) lies) (behind low high (due_name n) (spelling_places ps) rise))

  -- ---- statements

  -- a list of statements behind the word that opens it
  listed : (low high : ℕ) (lead : List ℕ) (ss : WrittenStatements) (ds : List Due) → Rise low high (open_level (due (word lead) ∷ spelling_statements ss) ++ ds) → Rise low high (spelling_statements ss)
  listed low high lead ss ds rise =
      behind low high (due (word lead)) (spelling_statements ss)
      (unopened low high (due (word lead) ∷ spelling_statements ss) (front low high (open_level (due (word lead) ∷ spelling_statements ss)) ds rise))

  mutual
    pub statement_in : (low high : ℕ) (s : WrittenStatement) → IsStatement s → Rise low high (spelling_statement s) → AreIn low high (faults context (stands_for s))
    statement_in low high (assign at p w) good rise =
        let ds = due (sign (codes ":=")) ∷ (spelling w ++ semicolon ∷ []) in
        let place = front low high (spelling_place p) ds rise in
        let s = written_in context.scope low high w
        (front low high (spelling w) (semicolon ∷ []) (behind low high (due (sign (codes ":="))) (spelling w ++ semicolon ∷ []) (back low high (spelling_place p) ds rise))) in
        let tree = place_stands_for p in
        let a = expression.stands_for w in
        let fits = wanted_for (place_shape context.scope tree) (sort context.scope a) (place_of a) in
        joined low high (place_faults context.scope tree ++ expression_faults context.scope a) fits
        (joined low high (place_faults context.scope tree) (expression_faults context.scope a) (place_in context.scope low high p place) s.faults)
        (wanted_for_in low high (place_shape context.scope tree) (sort context.scope a) (place_of a) s.begins)
    statement_in low high (only_then at w ss) good rise =
        let chosen = open_level (due (word (codes "THEN")) ∷ spelling_statements ss) ++ ending in
        let own = behind low high (due_at (word (codes "IF")) at) (spelling w ++ chosen) rise in
        joined low high (faults_of_condition context (expression.stands_for w)) (all_faults context (stand_for ss))
        (tested_in low high w (front low high (spelling w) chosen own))
        (statements_in low high ss good.1 (listed low high (codes "THEN") ss ending (back low high (spelling w) chosen own)))
    statement_in low high (then_else at w ss os) (written_good, chosen_good, other_good) rise =
        let other = open_level (due (word (codes "ELSE")) ∷ spelling_statements os) ++ ending in
        let chosen = open_level (due (word (codes "THEN")) ∷ spelling_statements ss) ++ other in
        let own = behind low high (due_at (word (codes "IF")) at) (spelling w ++ chosen) rise in
        let both = back low high (spelling w) chosen own in
        joined low high (faults_of_condition context (expression.stands_for w) ++ all_faults context (stand_for ss)) (all_faults context (stand_for os))
        (joined low high (faults_of_condition context (expression.stands_for w)) (all_faults context (stand_for ss))
        (tested_in low high w (front low high (spelling w) chosen own)) (statements_in low high ss chosen_good (listed low high (codes "THEN") ss other both)))
        (statements_in low high os other_good (listed low high (codes "ELSE") os ending (back low high (open_level (due (word (codes "THEN")) ∷ spelling_statements ss)) other both)))
    statement_in low high (while at w ss) good rise =
        let repeated = open_level (due (word (codes "DO")) ∷ spelling_statements ss) ++ ending in
        let own = behind low high (due_at (word (codes "WHILE")) at) (spelling w ++ repeated) rise in
        joined low high (faults_of_condition context (expression.stands_for w)) (all_faults context (stand_for ss))
        (tested_in low high w (front low high (spelling w) repeated own))
        (statements_in low high ss good.1 (listed low high (codes "DO") ss ending (back low high (spelling w) repeated own)))
    statement_in low high (append at w p) good rise =
        let target = due (word (codes "TO")) ∷ (spelling_place p ++ semicolon ∷ []) in
        let own = behind low high (due_at (word (codes "APPEND")) at) (spelling w ++ target) rise in
        let s = written_in context.scope low high w (front low high (spelling w) target own) in
        let place = front low high (spelling_place p) (semicolon ∷ []) (behind low high (due (word (codes "TO"))) (spelling_place p ++ semicolon ∷ []) (back low high (spelling w) target own)) in
        let tree = place_stands_for p in
        let a = expression.stands_for w in
        let shape = place_shape context.scope tree in
        let fits = wanted_for (item_shape shape) (sort context.scope a) (place_of a) in
        joined low high ((expression_faults context.scope a ++ place_faults context.scope tree) ++ sequence_faults shape p.name.at) fits
        (joined low high (expression_faults context.scope a ++ place_faults context.scope tree) (sequence_faults shape p.name.at)
        (joined low high (expression_faults context.scope a) (place_faults context.scope tree) s.faults (place_in context.scope low high p place))
        (sequence_in low high shape p.name.at (place_begins context.scope low high p place)))
        (wanted_for_in low high (item_shape shape) (sort context.scope a) (place_of a) s.begins)
    statement_in low high (call at c hs) good rise =
        let ds = spelling_handlers hs ++ semicolon ∷ [] in
        let o = faults_of_call context (call_stands_for c) in
        joined low high (ask_faults context (call_stands_for c)) (handlers_faults context o (handlers_stand_for hs))
        (ask_in low high at c (front low high (spelling_call at c) ds rise))
        (handlers_in low high o hs good.1 (front low high (spelling_handlers hs) (semicolon ∷ []) (back low high (spelling_call at c) ds rise)))
    statement_in low high (return at ws) good rise =
        values_in low high (results_of (Some context.own)) at ws (first low high (due_at (word (codes "RETURN")) at) (spelling_list ws ++ semicolon ∷ []) at (λ p is. is) rise)
        (front low high (spelling_list ws) (semicolon ∷ []) (behind low high (due_at (word (codes "RETURN")) at) (spelling_list ws ++ semicolon ∷ []) rise))
    statement_in low high (raise at n ws) good rise =
        let own = behind low high (due_at (word (codes "RAISE")) at) (due_name n ∷ (spelling_list ws ++ semicolon ∷ [])) rise in
        let lies = named low high n (spelling_list ws ++ semicolon ∷ []) own in
        let slots = values_of (reported_by (Some context.own) n) in
        joined low high (error_faults (Some context.own) n) (list_faults context slots n.at (map expression.stands_for ws)) (error_in low high (Some context.own) n lies)
        (values_in low high slots n.at ws lies (front low high (spelling_list ws) (semicolon ∷ []) (behind low high (due_name n) (spelling_list ws ++ semicolon ∷ []) own)))

    pub statements_in : (low high : ℕ) (ss : WrittenStatements) → AreStatements ss → Rise low high (spelling_statements ss) → AreIn low high (all_faults context (stand_for ss))
    statements_in low high no_statements good rise = tt
    statements_in low high (more_statements s ss) good rise =
        joined low high (faults context (stands_for s)) (all_faults context (stand_for ss))
        (statement_in low high s good.0 (front low high (spelling_statement s) (spelling_statements ss) rise))
        (statements_in low high ss good.1 (back low high (spelling_statement s) (spelling_statements ss) rise))

    handlers_in : (low high : ℕ) (o : Option Offered) (hs : WrittenHandlers) → AreHandlers hs → Rise low high (spelling_handlers hs) → AreIn low high (handlers_faults context o (handlers_stand_for hs))
    handlers_in low high o no_handlers good rise = tt
    handlers_in low high o (more_handlers h ss hs) (caught_good, statements_good, others_good) rise =
        let others = due (word (codes "END")) ∷ spelling_handlers hs in
        let block = open_level (due (word (codes "BEGIN")) ∷ spelling_statements ss) ++ others in
        let own = behind low high (due (word (codes "ON"))) (spelling_handled h ++ block) rise in
        let rest = back low high (spelling_handled h) block own in
        let later = back low high (open_level (due (word (codes "BEGIN")) ∷ spelling_statements ss)) others rest in
        let lies = caught_at low high h.at h.error h.places block caught_good own in
        let tree = handled_stands_for h in
        let trees = handlers_stand_for hs in
        let handled = handled_faults context o h.at h.error (option_map places_stand_for h.places) in
        joined low high ((last_faults tree trees ++ handled) ++ all_faults context (stand_for ss)) (handlers_faults context o trees)
        (joined low high (last_faults tree trees ++ handled) (all_faults context (stand_for ss))
        (joined low high (last_faults tree trees) handled (last_in low high tree trees lies)
        (handled_in low high o h.at h.error h.places caught_good (front low high (spelling_handled h) block own)))
        (statements_in low high ss statements_good (listed low high (codes "BEGIN") ss others rest)))
        (handlers_in low high o hs others_good (behind low high (due (word (codes "END"))) (spelling_handlers hs) later))

  -- the statements of a body
  pub statements_stand : (ss : List WrittenStatement) → stand_for (written_statements ss) ≡ statement_trees (map stands_for ss)
  statements_stand [] = refl
  statements_stand (s ∷ ss) = ap (λ ts. more_statements (stands_for s) ts) (statements_stand ss)

  pub listed_in : (low high : ℕ) (ss : List WrittenStatement) → AreStatements (written_statements ss) → Rise low high (spelling_statements (written_statements ss)) → AreIn low high (all_faults context (statement_trees (map stands_for ss)))
  listed_in low high ss good rise = subst (λ ts. AreIn low high (all_faults context ts)) (statements_stand ss) (statements_in low high (written_statements ss) good rise)
