-- What is read of statements is spelled by the tokens that were taken.
use Rattle.std.proofs.Common.{◌≡◌, ℕ, zero, suc, ◌+◌, Bool, true, false, ◌||◌, List, [], ◌∷◌, ◌++◌, refl, sym, ◌∙◌, ap, arith, append_assoc}
use Rattle.std.specs.Prelude.{Option, Some, None, codes, if◌then◌else◌}
use Rattle.circus_syntax.specs.declared.stopping.StopCause.{StopCause}
use Rattle.circus_syntax.specs.declared.stopping.StopCause.TheVariants.{Unexpected, TooDeep}
use Rattle.circus_syntax.specs.Placed.{Placed, word, sign, is_lexeme, is_name, Due, due, due_at, open_level}
use Rattle.circus_syntax.specs.Reader.{Reader, next, passes, stop_reading, both}
use Rattle.circus_syntax.specs.Reading.{expect_token, fixed_at}
use Rattle.circus_syntax.specs.Spelling.{each, with_commas, if_written, IsEach, IsListed, IfWritten}
use Rattle.circus_syntax.proofs.Sound.{Sound, sound_nothing, sound_both, sound_mapped, sound_opened, sound_cased}
use Rattle.circus_syntax.proofs.Repeats.{Shrinks, sound_either, sound_optional, sound_repeated}
use Rattle.circus_syntax.proofs.Tokens.{Always, sound_fixed, sound_fixed_at, sound_name, sound_behind, sound_listed, shrinks_at, shrinks_fixed, shrinks_both}
use Rattle.circus_syntax.proofs.Lawful.{sound_stopped, sound_good}
use Rattle.circus_expression.specs.declared.operator.Chain.TheVariants as of
use Rattle.circus_expression.specs.ExpressionReading.{expect_where, is_bracket, read_chain, read_place}
use Rattle.circus_expression.specs.Written.{Written, WrittenPlace, spelling, spelling_place, spelling_list, IsWritten, IsPlace}
use Rattle.circus_expression.proofs.Follows.{at}
use Rattle.circus_expression.proofs.Openers.{sound_filled_list, all_each}
use Rattle.circus_expression.proofs.EveryLevel.{expressions_lawful, places_lawful, lists_lawful, shrinks_place}
use Rattle.circus_statement.specs.declared.starts.StatementStart.{StatementStart}
use Rattle.circus_statement.specs.declared.starts.StatementStart.TheVariants as begins
use Rattle.circus_statement.specs.StatementTree.{CallOf, HandledOf, assign, while, append, call, return, raise}
use Rattle.circus_statement.specs.WrittenStatement.{WrittenStatement, WrittenHandler, written_statements, written_handlers, ending, spelling_places, spelling_into, spelling_handled, spelling_call, spelling_statement, spelling_statements, spelling_handlers, spelling_listed, AreListed, ArePlaces, AreIn, IsCaught, IsCall, IsStatement, AreStatements, AreHandlers}
use Rattle.circus_statement.specs.WrittenStatement as written
use Rattle.circus_statement.specs.StatementReading.{is_word, begins_statement, start_of_statement, list_end, required_list, places_within, places, into, call_head, of_error, of_others, handler_head, Block, handler_with, if_statement, statement_by, statement_with, opened_block, block, statement}

-- as it is spelled otherwise
pub sound_respelled : {A : Type 0} {p : Reader → A × Reader} {sa : A → List Due} {ga : A → Type 0} (sb : A → List Due) (gb : A → Type 0) → ((x : A) → sb x ≡ sa x) → ((x : A) → ga x → gb x) → Sound p sa ga → Sound p sb gb
sound_respelled sb gb spelled kept P = sound_mapped (λ x. x) sb gb spelled kept P

pub sound_expression_within : (n : ℕ) → Sound (read_chain n of.Expression) spelling IsWritten
sound_expression_within n = (expressions_lawful n (n + 2) (omega arith)).narrow

pub sound_place_within : (n : ℕ) → Sound (read_place n) spelling_place IsPlace
sound_place_within n = (places_lawful n (n + 2) (omega arith)).narrow

pub sound_required_list : (n : ℕ) → Sound (required_list n) spelling_list (IsEach IsWritten)
unfolding required_list
sound_required_list n =
    sound_either is_bracket (sound_good (IsEach IsWritten) all_each (lists_lawful n (n + 2) (omega arith)).narrow) (sound_good (IsEach IsWritten) all_each (sound_filled_list Unexpected))

pub sound_ended : Sound list_end (λ u. ending) Always
unfolding list_end
sound_ended = sound_mapped (λ x. tt) (λ u. ending) Always (λ x. refl) (λ x g. tt) (sound_both (sound_fixed (word (codes "END"))) (sound_fixed (sign (codes ";"))))

pub listed_each : (ps : List WrittenPlace) → IsListed IsPlace ps → ArePlaces ps
listed_each [] g = absurd g
listed_each (p ∷ ps) g = g

pub sound_places_within : (n : ℕ) → Sound (places_within n) (with_commas spelling_place) ArePlaces
unfolding places_within
sound_places_within n =
    sound_either (is_lexeme (sign (codes "]"))) (sound_nothing [] (with_commas spelling_place) ArePlaces tt refl) (sound_good ArePlaces listed_each (sound_listed (sound_place_within n)))

pub sound_places : (n : ℕ) → Sound (places n) spelling_places ArePlaces
unfolding places
sound_places n =
    sound_mapped (λ x. x.1.0) spelling_places ArePlaces (λ x. refl) (λ x g. g.1.0)
    (sound_both (sound_fixed (sign (codes "["))) (sound_both (sound_places_within n) (sound_fixed (sign (codes "]")))))

pub sound_into : (n : ℕ) → Sound (into n) spelling_into AreIn
unfolding into
sound_into n =
    sound_mapped (λ x. record { at = x.0; places = x.1 }) spelling_into AreIn (λ x. refl) (λ x g. g.1) (sound_both (sound_fixed_at (word (codes "INTO"))) (sound_places n))

abbrev pub spelling_head : ℕ × CallOf Written WrittenPlace → List Due
spelling_head x = spelling_call x.0 x.1

abbrev pub IsHead : ℕ × CallOf Written WrittenPlace → Type 0
IsHead x = IsCall x.1

pub sound_call_head : (n : ℕ) → Sound (call_head n) spelling_head IsHead
unfolding call_head
sound_call_head n =
    sound_mapped (λ x. (x.0, record { «module» = x.1.0; procedure = x.1.1.1.0; arguments = x.1.1.1.1.0; into = x.1.1.1.1.1 })) spelling_head IsHead
    (λ x. refl) (λ x g. (g.1.0, g.1.1.1.0, g.1.1.1.1.0, g.1.1.1.1.1))
    (sound_both (sound_fixed_at (word (codes "CALL"))) (sound_both sound_name (sound_both (sound_fixed (sign (codes "."))) (sound_both sound_name
    (sound_both (sound_required_list n) (sound_optional (is_word (codes "INTO")) (sound_into n)))))))

abbrev pub IsHandled : HandledOf WrittenPlace → Type 0
IsHandled h = IsCaught h.at h.error h.places

pub sound_handled : (n : ℕ) → Sound (handler_head n) spelling_handled IsHandled
unfolding handler_head
sound_handled n =
    sound_either (is_word (codes "OTHER"))
    (sound_mapped of_others spelling_handled IsHandled (λ x. refl) (λ x g. refl) (sound_fixed_at (word (codes "OTHER"))))
    (sound_mapped (λ x. of_error x.0 x.1) spelling_handled IsHandled (λ x. refl) (λ x g. (refl, g.0, g.1)) (sound_both sound_name (sound_optional is_bracket (sound_places n))))

-- A list of statements, and what it is spelled by.

pub statements_spelled : (ss : List WrittenStatement) → spelling_statements (written_statements ss) ≡ each spelling_statement ss
statements_spelled [] = refl
statements_spelled (s ∷ ss) = ap (λ l. spelling_statement s ++ l) (statements_spelled ss)

pub each_statement : (ss : List WrittenStatement) → IsEach IsStatement ss → AreListed ss
each_statement [] g = tt
each_statement (s ∷ ss) g = (g.0, each_statement ss g.1)

abbrev pub spelling_handler : WrittenHandler → List Due
spelling_handler h = due (word (codes "ON")) ∷ (spelling_handled h.handled ++ (spelling_listed (codes "BEGIN") h.statements ++ due (word (codes "END")) ∷ []))

abbrev pub IsHandler : WrittenHandler → Type 0
IsHandler h = IsHandled h.handled × AreListed h.statements

pub handlers_spelled : (hs : List WrittenHandler) → spelling_handlers (written_handlers hs) ≡ each spelling_handler hs
handlers_spelled [] = refl
handlers_spelled (h ∷ hs) =
    let front = spelling_handled h.handled in
    let inner = spelling_listed (codes "BEGIN") h.statements in
    let last = due (word (codes "END")) ∷ [] in
    ap (λ l. due (word (codes "ON")) ∷ (front ++ (inner ++ due (word (codes "END")) ∷ l))) (handlers_spelled hs)
    ∙ ap (λ l. due (word (codes "ON")) ∷ l)
    (ap (λ l. front ++ l) (sym (append_assoc inner last (each spelling_handler hs))) ∙ sym (append_assoc front (inner ++ last) (each spelling_handler hs)))

pub each_handler : (hs : List WrittenHandler) → IsEach IsHandler hs → AreHandlers (written_handlers hs)
each_handler [] g = tt
each_handler (h ∷ hs) g = (g.0.0, g.0.1, each_handler hs g.1)

-- the lists that words open are read soundly
abbrev pub SoundBlock : Block → Type 0
SoundBlock b = (w : List ℕ) → Sound (b w) (spelling_listed w) AreListed

pub sound_handler_with : (n : ℕ) {b : Block} → SoundBlock b → Sound (handler_with n b) spelling_handler IsHandler
sound_handler_with n B =
    sound_mapped (λ x. record { handled = x.1.0; statements = x.1.1.0 }) spelling_handler IsHandler (λ x. refl) (λ x g. (g.1.0, g.1.1.0))
    (sound_both (sound_fixed (word (codes "ON"))) (sound_both (sound_handled n) (sound_both (B (codes "BEGIN")) (sound_fixed (word (codes "END"))))))

pub shrinks_handler : (n : ℕ) {b : Block} → SoundBlock b → Shrinks (is_word (codes "ON")) (handler_with n b)
shrinks_handler n {b} B r hit =
    shrinks_both (is_word (codes "ON")) (expect_token (word (codes "ON"))) (both (handler_head n) (both (b (codes "BEGIN")) (expect_token (word (codes "END"))))) (shrinks_fixed (word (codes "ON")))
    (sound_both (sound_handled n) (sound_both (B (codes "BEGIN")) (sound_fixed (word (codes "END"))))) r hit

-- IF with or without ELSE, by its parts
abbrev pub spelling_else : Option (List WrittenStatement) → List Due
spelling_else o = if_written (spelling_listed (codes "ELSE")) o

pub chosen_spelled : (at : ℕ) (e : Written) (ss : List WrittenStatement) (o : Option (List WrittenStatement))
    → spelling_statement (if_statement at e ss o) ≡ due_at (word (codes "IF")) at ∷ (spelling e ++ (spelling_listed (codes "THEN") ss ++ (spelling_else o ++ ending)))
chosen_spelled at e ss None = refl
chosen_spelled at e ss (Some os) = refl

pub chosen_kept : (at : ℕ) (e : Written) (ss : List WrittenStatement) (o : Option (List WrittenStatement)) → IsWritten e → AreListed ss → IfWritten AreListed o → IsStatement (if_statement at e ss o)
chosen_kept at e ss None g h i = (g, h)
chosen_kept at e ss (Some os) g h i = (g, h, i)

pub sound_statement_by : (n : ℕ) {b : Block} → SoundBlock b → (k : StatementStart) → Sound (statement_by n b k) spelling_statement IsStatement
sound_statement_by n B begins.Assign =
    sound_mapped (λ x. assign x.0.name.at x.0 x.1.1.0) spelling_statement IsStatement (λ x. refl) (λ x g. (refl, g.0, g.1.1.0))
    (sound_both (sound_place_within n) (sound_both (sound_fixed (sign (codes ":="))) (sound_both (sound_expression_within n) (sound_fixed (sign (codes ";"))))))
sound_statement_by n B begins.If =
    sound_mapped (λ x. if_statement x.0 x.1.0 x.1.1.0 x.1.1.1.0) spelling_statement IsStatement (λ x. chosen_spelled x.0 x.1.0 x.1.1.0 x.1.1.1.0)
    (λ x g. chosen_kept x.0 x.1.0 x.1.1.0 x.1.1.1.0 g.1.0 g.1.1.0 g.1.1.1.0)
    (sound_both (sound_fixed_at (word (codes "IF"))) (sound_both (sound_expression_within n) (sound_both (B (codes "THEN")) (sound_both (sound_optional (is_word (codes "ELSE")) (B (codes "ELSE"))) sound_ended))))
sound_statement_by n B begins.While =
    sound_mapped (λ x. while x.0 x.1.0 (written_statements x.1.1.0)) spelling_statement IsStatement (λ x. refl) (λ x g. (g.1.0, g.1.1.0))
    (sound_both (sound_fixed_at (word (codes "WHILE"))) (sound_both (sound_expression_within n) (sound_both (B (codes "DO")) sound_ended)))
sound_statement_by n B begins.Append =
    sound_mapped (λ x. append x.0 x.1.0 x.1.1.1.0) spelling_statement IsStatement (λ x. refl) (λ x g. (g.1.0, g.1.1.1.0))
    (sound_both (sound_fixed_at (word (codes "APPEND"))) (sound_both (sound_expression_within n) (sound_both (sound_fixed (word (codes "TO"))) (sound_both (sound_place_within n) (sound_fixed (sign (codes ";")))))))
sound_statement_by n B begins.Call =
    sound_mapped (λ x. call x.0.0 x.0.1 (written_handlers x.1.0)) spelling_statement IsStatement
    (λ x. ap (λ l. spelling_head x.0 ++ (l ++ written.semicolon ∷ [])) (handlers_spelled x.1.0)) (λ x g. (g.0, each_handler x.1.0 g.1.0))
    (sound_both (sound_call_head n) (sound_both (sound_repeated (is_word (codes "ON")) (shrinks_handler n B) (sound_handler_with n B)) (sound_fixed (sign (codes ";")))))
sound_statement_by n B begins.Return =
    sound_mapped (λ x. return x.0 x.1.0) spelling_statement IsStatement (λ x. refl) (λ x g. g.1.0)
    (sound_both (sound_fixed_at (word (codes "RETURN"))) (sound_both (sound_required_list n) (sound_fixed (sign (codes ";")))))
sound_statement_by n B begins.Raise =
    sound_mapped (λ x. raise x.0 x.1.0 x.1.1.0) spelling_statement IsStatement (λ x. refl) (λ x g. (g.1.0, g.1.1.0))
    (sound_both (sound_fixed_at (word (codes "RAISE"))) (sound_both sound_name (sound_both (sound_required_list n) (sound_fixed (sign (codes ";"))))))

pub sound_statement_with : (n : ℕ) {b : Block} → SoundBlock b → Sound (statement_with n b) spelling_statement IsStatement
sound_statement_with n {b} B = sound_cased start_of_statement (statement_by n b) (sound_statement_by n B)

-- A statement takes the token with which it begins.

abbrev pub leads : StatementStart → Placed → Bool
leads begins.Assign = is_name
leads begins.If = is_word (codes "IF")
leads begins.While = is_word (codes "WHILE")
leads begins.Append = is_word (codes "APPEND")
leads begins.Call = is_word (codes "CALL")
leads begins.Return = is_word (codes "RETURN")
leads begins.Raise = is_word (codes "RAISE")

pub started : (o : Option Placed) → passes begins_statement o ≡ true → passes (leads (start_of_statement o)) o ≡ true
unfolding start_of_statement
started None hit = cc
started (Some t) hit =
    by_tests (is_name t) (is_word (codes "IF") t) (is_word (codes "WHILE") t) (is_word (codes "APPEND") t) (is_word (codes "CALL") t) (is_word (codes "RETURN") t) (is_word (codes "RAISE") t)
    refl refl refl refl refl refl refl hit
  where
    by_tests : (n i w a c u x : Bool) → is_name t ≡ n → is_word (codes "IF") t ≡ i → is_word (codes "WHILE") t ≡ w → is_word (codes "APPEND") t ≡ a → is_word (codes "CALL") t ≡ c
        → is_word (codes "RETURN") t ≡ u → is_word (codes "RAISE") t ≡ x → n || (i || (w || (a || (c || (u || x))))) ≡ true
        → leads (if i then begins.If else (if w then begins.While else (if a then begins.Append else (if c then begins.Call else (if u then begins.Return else (if x then begins.Raise else begins.Assign)))))) t ≡ true
    by_tests n true w a c u x ni ii wi ai ci ui xi h = ii
    by_tests n false true a c u x ni ii wi ai ci ui xi h = wi
    by_tests n false false true c u x ni ii wi ai ci ui xi h = ai
    by_tests n false false false true u x ni ii wi ai ci ui xi h = ci
    by_tests n false false false false true x ni ii wi ai ci ui xi h = ui
    by_tests n false false false false false true ni ii wi ai ci ui xi h = xi
    by_tests true false false false false false false ni ii wi ai ci ui xi h = ni
    by_tests false false false false false false false ni ii wi ai ci ui xi h = cc

shrinks_led : (n : ℕ) {b : Block} → SoundBlock b → (k : StatementStart) → Shrinks (leads k) (statement_by n b k)
unfolding call_head
shrinks_led n {b} B begins.Assign r hit =
    shrinks_both is_name (read_place n) _ (shrinks_place n) (sound_both (sound_fixed (sign (codes ":="))) (sound_both (sound_expression_within n) (sound_fixed (sign (codes ";"))))) r hit
shrinks_led n {b} B begins.If r hit =
    shrinks_both (is_word (codes "IF")) (fixed_at (word (codes "IF"))) _ (shrinks_at (word (codes "IF")))
    (sound_both (sound_expression_within n) (sound_both (B (codes "THEN")) (sound_both (sound_optional (is_word (codes "ELSE")) (B (codes "ELSE"))) sound_ended))) r hit
shrinks_led n {b} B begins.While r hit =
    shrinks_both (is_word (codes "WHILE")) (fixed_at (word (codes "WHILE"))) _ (shrinks_at (word (codes "WHILE"))) (sound_both (sound_expression_within n) (sound_both (B (codes "DO")) sound_ended)) r hit
shrinks_led n {b} B begins.Append r hit =
    shrinks_both (is_word (codes "APPEND")) (fixed_at (word (codes "APPEND"))) _ (shrinks_at (word (codes "APPEND")))
    (sound_both (sound_expression_within n) (sound_both (sound_fixed (word (codes "TO"))) (sound_both (sound_place_within n) (sound_fixed (sign (codes ";")))))) r hit
shrinks_led n {b} B begins.Call r hit =
    shrinks_both (is_word (codes "CALL")) (call_head n) _ (shrinks_head n) (sound_both (sound_repeated (is_word (codes "ON")) (shrinks_handler n B) (sound_handler_with n B)) (sound_fixed (sign (codes ";")))) r hit
  where
    shrinks_head : (m : ℕ) → Shrinks (is_word (codes "CALL")) (call_head m)
    shrinks_head m s seen =
        shrinks_both (is_word (codes "CALL")) (fixed_at (word (codes "CALL"))) _ (shrinks_at (word (codes "CALL")))
        (sound_both sound_name (sound_both (sound_fixed (sign (codes "."))) (sound_both sound_name (sound_both (sound_required_list m) (sound_optional (is_word (codes "INTO")) (sound_into m)))))) s seen
shrinks_led n {b} B begins.Return r hit =
    shrinks_both (is_word (codes "RETURN")) (fixed_at (word (codes "RETURN"))) _ (shrinks_at (word (codes "RETURN"))) (sound_both (sound_required_list n) (sound_fixed (sign (codes ";")))) r hit
shrinks_led n {b} B begins.Raise r hit =
    shrinks_both (is_word (codes "RAISE")) (fixed_at (word (codes "RAISE"))) _ (shrinks_at (word (codes "RAISE"))) (sound_both sound_name (sound_both (sound_required_list n) (sound_fixed (sign (codes ";"))))) r hit

pub shrinks_statement_with : (n : ℕ) {b : Block} → SoundBlock b → Shrinks begins_statement (statement_with n b)
shrinks_statement_with n B r hit = shrinks_led n B (start_of_statement (next r)) r (started (next r) hit)

-- The lists, level by level.

pub sound_filled_block : (cause : StopCause) (w : List ℕ) → Sound (stop_reading cause (λ p. [])) (spelling_listed w) AreListed
sound_filled_block cause w = sound_stopped cause (λ p. []) (spelling_listed w) AreListed (λ p. (tt, at (word w) p ∷ [], (refl, tt), ((refl, refl), tt)))

pub sound_opened_block : (n : ℕ) → SoundBlock (opened_block n)
unfolding opened_block
sound_opened_block zero w = sound_filled_block TooDeep w
sound_opened_block (suc n) w =
    let B : SoundBlock (λ v. expect_where (is_word v) (λ p. []) (opened_block n v)) = λ v. sound_either (is_word v) (sound_opened_block n v) (sound_filled_block Unexpected v) in
    sound_respelled (spelling_listed w) AreListed (λ ss. ap (λ l. open_level (due (word w) ∷ l)) (statements_spelled ss)) each_statement
    (sound_opened (sound_behind (word w) (sound_repeated begins_statement (shrinks_statement_with n B) (sound_statement_with n B))))

pub sound_block : (n : ℕ) → SoundBlock (block n)
unfolding block
sound_block n w = sound_either (is_word w) (sound_opened_block n w) (sound_filled_block Unexpected w)

pub shrinks_statement : (n : ℕ) → Shrinks begins_statement (statement n)
unfolding statement
shrinks_statement n = shrinks_statement_with n (sound_block n)
