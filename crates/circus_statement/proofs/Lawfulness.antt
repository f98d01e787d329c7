-- The productions of statements are lawful with every number of levels.
use Rattle.std.proofs.Common.{◌≡◌, ℕ, zero, suc, ◌<◌, Bool, true, false, List, [], ◌∷◌, ◌++◌, refl, sym, ◌∙◌, ap, subst, arith}
use Rattle.std.specs.Prelude.{Option, Some, None, codes}
use Rattle.circus_text.specs.Token.{Lexeme}
use Rattle.circus_syntax.specs.declared.stopping.StopCause.TheVariants.{Unexpected, TooDeep}
use Rattle.circus_syntax.specs.Reserved.{is_reserved, reserved_words}
use Rattle.circus_syntax.specs.declared.named.Named.{Named}
use Rattle.circus_syntax.specs.Placed.{Placed, first, word, sign, is_lexeme, is_name, Due, due, due_at, due_name, deeper, open_level, AreWithin, IsDue, AreDue}
use Rattle.circus_syntax.specs.Reader.{Reader, passes, nothing, both, map_read, either_case, optional}
use Rattle.circus_syntax.specs.Reading.{fixed_at, name, comma_list}
use Rattle.circus_syntax.specs.Spelling.{each, with_commas, if_written, comma, IsName, IsEach, IsListed, IfWritten}
use Rattle.circus_syntax.proofs.Sound.{Sound, reader, AreDue-none, sound_nothing}
use Rattle.circus_syntax.proofs.Repeats.{sound_repeated, sound_either}
use Rattle.circus_syntax.proofs.Complete.{Any, Opens, Links}
use Rattle.circus_syntax.proofs.Tokens.{Always, spelling_fixed, is_comma, lexeme_is, is_lexeme_of, is_name_of, opens_due, opens_due_at, opens_name, shrinks_behind}
use Rattle.circus_syntax.proofs.Levels.{levels_nothing}
use Rattle.circus_syntax.proofs.Lawful.{Lawful, LawfulAt, Branch, sound_good, lawful_at, lawful_weaker, lawful_fixed, lawful_fixed_at, lawful_name, lawful_both, lawful_then, lawful_mapped, lawful_opened, lawful_too_deep, branch_of, lawful_cased, lawful_required, lawful_optional, lawful_repeated, lawful_behind, lawful_listed}
use Rattle.circus_expression.specs.ExpressionReading.{expect_where, is_bracket, read_place, list}
use Rattle.circus_expression.specs.Written.{Written, WrittenPlace, spelling, spelling_place, spelling_suffixes, spelling_list, spelling_items, written_list, IsWritten, IsPlace}
use Rattle.circus_expression.proofs.Follows.{at, Stays, grip_of, comma_stays}
use Rattle.circus_expression.proofs.Productions.{AreAll, name_no_sign, name_no_word}
use Rattle.circus_expression.proofs.Openers.{sound_filled_list, all_each, each_all}
use Rattle.circus_expression.proofs.EveryLevel.{expressions_lawful, places_lawful, lists_lawful}
use Rattle.circus_statement.specs.declared.starts.StatementStart.{StatementStart}
use Rattle.circus_statement.specs.declared.starts.StatementStart.TheVariants as begins
use Rattle.circus_statement.specs.StatementTree.{CallOf, HandledOf, assign, only_then, then_else, while, append, call, return, raise, no_statements, more_statements, no_handlers, more_handlers}
use Rattle.circus_statement.specs.WrittenStatement.{WrittenStatement, WrittenStatements, WrittenHandler, WrittenHandlers, written_statements, written_handlers, ending, spelling_places, spelling_into, spelling_handled, spelling_caught, spelling_statement, spelling_statements, spelling_listed, AreListed, ArePlaces, AreIn, IsCaught, IsStatement, AreStatements, AreHandlers}
use Rattle.circus_statement.specs.WrittenStatement as written
use Rattle.circus_statement.specs.StatementReading.{is_word, begins_statement, start_of_statement, list_end, required_list, places_within, places, into, call_head, of_error, of_others, handler_head, Block, handler_with, if_statement, statement_by, statement_with, opened_block, block}
use Rattle.circus_statement.proofs.Sounding.{listed_each, spelling_head, IsHead, IsHandled, statements_spelled, each_statement, spelling_handler, IsHandler, handlers_spelled, each_handler, SoundBlock, shrinks_handler, spelling_else, chosen_spelled, chosen_kept, sound_statement_with, shrinks_statement_with, sound_filled_block, sound_opened_block}

-- What stands behind.

-- a token that is a lexeme
pub stays_lexeme : (P : Option Placed → Type 0) (l : Lexeme) → ((s : ℕ) → P (Some (at l s))) → (t : Placed) → t.kind ≡ l.kind → t.bytes ≡ l.bytes → P (Some t)
stays_lexeme P l holds t kind bytes = subst P (λ i. Some (record { kind = sym kind i; bytes = sym bytes i; start = t.start })) (holds t.start)

-- where the first token of what follows is due
pub link_first : {B : Type 0} {sb : B → List Due} (gb : B → Type 0) (kb Stay : Option Placed → Type 0) (d : B → Due) (tail : B → List Due) → ((b : B) → sb b ≡ d b ∷ tail b)
    → ((b : B) (t : Placed) → gb b → IsDue (d b) t → Stay (Some t)) → Links sb gb kb Stay
link_first {B} {sb} gb kb Stay d tail starts holds b ts rest good due_them behind = by_tokens ts (subst (λ ds. AreDue ds ts) (starts b) due_them)
  where
    by_tokens : (us : List Placed) → AreDue (d b ∷ tail b) us → Stay (first (us ++ rest))
    by_tokens [] g = absurd g
    by_tokens (t ∷ us) g = holds b t good g.0

pub link_due : {B : Type 0} {sb : B → List Due} (gb : B → Type 0) (kb Stay : Option Placed → Type 0) (l : Lexeme) (tail : B → List Due) → ((b : B) → sb b ≡ due l ∷ tail b)
    → ((s : ℕ) → Stay (Some (at l s))) → Links sb gb kb Stay
link_due gb kb Stay l tail starts holds = link_first gb kb Stay (λ b. due l) tail starts (λ b t g d. stays_lexeme Stay l holds t d.0 d.1)

-- no statement begins with this token
abbrev pub NoStatement : Option Placed → Type 0
NoStatement o = passes begins_statement o ≡ false

reserved_end : is_reserved (codes "END") ≡ true
unfolding is_reserved reserved_words
reserved_end = refl

reserved_else : is_reserved (codes "ELSE") ≡ true
unfolding is_reserved reserved_words
reserved_else = refl

pub no_end : (s : ℕ) → NoStatement (Some (at (word (codes "END")) s))
no_end s = rw reserved_end refl

no_else : (s : ℕ) → NoStatement (Some (at (word (codes "ELSE")) s))
no_else s = rw reserved_else refl

-- Lists of expressions and of places.

open_list : Opens spelling_list (IsEach IsWritten) is_bracket
open_list ws ts rest good d = opens_due (sign (codes "[")) (open_level (spelling_items (written_list ws) ++ due (sign (codes "]")) ∷ [])) ts rest d

lawful_list_at : (n m : ℕ) → suc n < m → LawfulAt is_bracket n (list n) (list m) spelling_list (IsEach IsWritten) Any
lawful_list_at n m above =
    let L = lists_lawful n m above in
    record {
      narrow = sound_good' L.narrow;
      wide = sound_good' L.wide;
      complete = record { reads = λ a ts rest e good d stays. L.complete.reads a ts rest e (each_all a good.0, good.1) d stays };
      levels = L.levels;
    }
  where
    sound_good' : {p : Reader → List Written × Reader} → Sound p spelling_list AreAll → Sound p spelling_list (IsEach IsWritten)
    sound_good' S = sound_good (IsEach IsWritten) all_each S

lawful_required_list : (n m : ℕ) → suc n < m → Lawful n (required_list n) (required_list m) spelling_list (IsEach IsWritten) Any
unfolding required_list
lawful_required_list n m above =
    lawful_required is_bracket n (λ p. []) open_list (sound_good (IsEach IsWritten) all_each (sound_filled_list Unexpected)) (lawful_list_at n m above)

abbrev is_closing : Placed → Bool
is_closing = is_lexeme (sign (codes "]"))

abbrev Closed : Option Placed → Type 0
Closed o = passes is_closing o ≡ true

closed_along : (P : Option Placed → Type 0) → ((s : ℕ) → P (Some (at (sign (codes "]")) s))) → (o : Option Placed) → Closed o → P o
closed_along P holds None hit = absurd cc
closed_along P holds (Some t) hit = let (kind, bytes) = lexeme_is (sign (codes "]")) t hit in stays_lexeme P (sign (codes "]")) holds t kind bytes

abbrev PlacesAre : Bool → List WrittenPlace → Type 0
PlacesAre true [] = Unit {0}
PlacesAre true (p ∷ ps) = ⊥
PlacesAre false ps = IsListed IsPlace ps

places_good : (b : Bool) (ps : List WrittenPlace) → PlacesAre b ps → ArePlaces ps
places_good true [] is = tt
places_good true (p ∷ ps) is = absurd is
places_good false ps is = listed_each ps is

abbrev places_by : ℕ → Bool → Reader → List WrittenPlace × Reader
places_by n = either_case (nothing []) (comma_list (read_place n))

name_no_closing : (t : Placed) → is_name t ≡ true → is_closing t ≡ false
name_no_closing t hit = name_no_sign (codes "]") (Some t) hit

lawful_places_within : (n m : ℕ) → suc n < m → Lawful n (places_within n) (places_within m) (with_commas spelling_place) ArePlaces Closed
unfolding places_within
lawful_places_within n m above = lawful_cased (passes is_closing) n (places_by n) (places_by m) PlacesAre branches lists.levels.filled places_begin
  where
    lists : Lawful n (comma_list (read_place n)) (comma_list (read_place m)) (with_commas spelling_place) (IsListed IsPlace) Closed
    lists =
        lawful_weaker n Closed (λ o closed. (closed_along (Stays 7) (λ s. let none : grip_of (at (sign (codes "]")) s) ≡ 0 = refl in omega (arith, none)) o closed, closed_along (λ q. passes is_comma q ≡ false) (λ s. refl) o closed))
        (lawful_listed n (comma_stays 7) (places_lawful n m above))

    none : Sound (nothing []) (with_commas spelling_place) ArePlaces
    none = sound_nothing [] (with_commas spelling_place) ArePlaces tt refl

    ends : (ps : List WrittenPlace) (ts rest : List Placed) (e : ℕ) → PlacesAre true ps × AreWithin n (with_commas spelling_place ps) → AreDue (with_commas spelling_place ps) ts → Closed (first rest)
        → nothing [] (reader None (ts ++ rest) e) ≡ (ps, reader None rest e)
    ends [] ts rest e good d closed = subst (λ (us : List Placed). nothing {A = List WrittenPlace} [] (reader None (us ++ rest) e) ≡ ([], reader None rest e)) (sym (AreDue-none ts d)) refl
    ends (p ∷ ps) ts rest e good d closed = absurd good.0

    branches : (b : Bool) → Branch (passes is_closing) b n (places_by n b) (places_by m b) (with_commas spelling_place) ArePlaces (PlacesAre b) Closed
    branches true = record { narrow = none; wide = none; complete = record { reads = ends }; reaches = λ ts e is. (levels_nothing n [] refl none).reaches ts e }
    branches false = branch_of (passes is_closing) false n ArePlaces (places_good false) lists

    named_first : (ps : List WrittenPlace) (p : WrittenPlace) (ts rest : List Placed) → IsPlace p → AreDue (due_name p.name ∷ (spelling_suffixes p.suffixes ++ each (λ y. comma ∷ spelling_place y) ps)) ts → passes is_closing (first (ts ++ rest)) ≡ false
    named_first ps p [] rest good d = absurd d
    named_first ps p (t ∷ ts) rest good d = name_no_closing t (is_name_of t d.0.0 (ap is_reserved d.0.1 ∙ good.0.1))

    places_begin : (ps : List WrittenPlace) (ts rest : List Placed) → ArePlaces ps → AreDue (with_commas spelling_place ps) ts → Closed (first rest) → (b : Bool) × (passes is_closing (first (ts ++ rest)) ≡ b) × PlacesAre b ps
    places_begin [] ts rest good d closed = (true, subst (λ (us : List Placed). passes is_closing (first (us ++ rest)) ≡ true) (sym (AreDue-none ts d)) closed, tt)
    places_begin (p ∷ ps) ts rest good d closed = (false, named_first ps p ts rest good.0 d, good)

lawful_places : (n m : ℕ) → suc n < m → Lawful n (places n) (places m) spelling_places ArePlaces Any
unfolding places
lawful_places n m above =
    lawful_mapped n (λ x. x.1.0) spelling_places ArePlaces (λ x. refl) (λ x g. g.1.0) (λ ps g. ((tt, (ps, tt)), refl, (tt, (g, tt))))
    (lawful_then n (lawful_fixed n (sign (codes "[")))
    (lawful_both n (lawful_places_within n m above) (lawful_fixed n (sign (codes "]"))) (link_due _ Any Closed (sign (codes "]")) (λ u. []) (λ u. refl) (λ s. refl))))

lawful_into : (n m : ℕ) → suc n < m → Lawful n (into n) (into m) spelling_into AreIn Any
unfolding into
lawful_into n m above =
    lawful_mapped n (λ x. record { at = x.0; places = x.1 }) spelling_into AreIn (λ x. refl) (λ x g. g.1) (λ i g. ((i.at, i.places), refl, (tt, g)))
    (lawful_then n (lawful_fixed_at n (word (codes "INTO"))) (lawful_places n m above))

-- Calls.

abbrev NoInto : Option Placed → Type 0
NoInto o = Any o × (passes (is_word (codes "INTO")) o ≡ false)

open_into : Opens spelling_into AreIn (is_word (codes "INTO"))
open_into i ts rest good d = opens_due_at (word (codes "INTO")) i.at (spelling_places i.places) ts rest d

-- any rest does behind what may have any rest
pub link_any : {B : Type 0} (sb : B → List Due) (gb : B → Type 0) (kb : Option Placed → Type 0) → Links sb gb kb Any
link_any sb gb kb b ts rest good d behind = tt

lawful_call_head : (n m : ℕ) → suc n < m → Lawful n (call_head n) (call_head m) spelling_head IsHead NoInto
unfolding call_head
lawful_call_head n m above =
    lawful_mapped n (λ x. (x.0, record { «module» = x.1.0; procedure = x.1.1.1.0; arguments = x.1.1.1.1.0; into = x.1.1.1.1.1 })) spelling_head IsHead
    (λ x. refl) (λ x g. (g.1.0, g.1.1.1.0, g.1.1.1.1.0, g.1.1.1.1.1))
    (λ x g. ((x.0, (x.1.«module», (tt, (x.1.procedure, (x.1.arguments, x.1.into))))), refl, (tt, (g.0, (tt, (g.1, (g.2, g.3)))))))
    (lawful_then n (lawful_fixed_at n (word (codes "CALL"))) (lawful_then n (lawful_name n) (lawful_then n (lawful_fixed n (sign (codes "."))) (lawful_then n (lawful_name n)
    (lawful_both n (lawful_required_list n m above) (lawful_optional (is_word (codes "INTO")) n open_into (lawful_at (is_word (codes "INTO")) n (lawful_into n m above))) (link_any _ _ NoInto))))))

-- Handlers.

abbrev NoBracket : Option Placed → Type 0
NoBracket o = Any o × (passes is_bracket o ≡ false)

open_places : Opens spelling_places ArePlaces is_bracket
open_places ps ts rest good d = opens_due (sign (codes "[")) (with_commas spelling_place ps ++ due (sign (codes "]")) ∷ []) ts rest d

abbrev HandledIs : Bool → HandledOf WrittenPlace → Type 0
HandledIs true h = (h.error ≡ None) × (h.places ≡ None)
HandledIs false h = (k : Named) × (h.error ≡ Some k) × (h.at ≡ k.at) × IsName k × IfWritten ArePlaces h.places

caught_other : (p : ℕ) (e : Option Named) (ps : Option (List WrittenPlace)) → e ≡ None → ps ≡ None → IsCaught p e ps
caught_other p None ps none without = without
caught_other p (Some k) ps none without = cc

caught_error : (p : ℕ) (e : Option Named) (ps : Option (List WrittenPlace)) (k : Named) → e ≡ Some k → p ≡ k.at → IsName k → IfWritten ArePlaces ps → IsCaught p e ps
caught_error p None ps k is there good written = cc
caught_error p (Some j) ps k is there good written = let same : j ≡ k = cc in (there ∙ ap (λ (x : Named). x.at) (sym same), subst IsName (sym same) good, written)

handled_good : (b : Bool) (h : HandledOf WrittenPlace) → HandledIs b h → IsHandled h
handled_good true h g = caught_other h.at h.error h.places g.0 g.1
handled_good false h (k, is, there, good, written) = caught_error h.at h.error h.places k is there good written

abbrev handled_by : ℕ → Bool → Reader → HandledOf WrittenPlace × Reader
handled_by n =
    either_case (map_read of_others (fixed_at (word (codes "OTHER"))))
    (map_read (λ x. of_error x.0 x.1) (both name (optional is_bracket (places n))))

reserved_other : is_reserved (codes "OTHER") ≡ true
unfolding is_reserved reserved_words
reserved_other = refl

lawful_handled : (n m : ℕ) → suc n < m → Lawful n (handler_head n) (handler_head m) spelling_handled IsHandled NoBracket
unfolding handler_head
lawful_handled n m above = lawful_cased (passes (is_word (codes "OTHER"))) n (handled_by n) (handled_by m) HandledIs branches errors.levels.filled handled_begins
  where
    others : Lawful n (map_read of_others (fixed_at (word (codes "OTHER")))) (map_read of_others (fixed_at (word (codes "OTHER")))) spelling_handled (HandledIs true) NoBracket
    others =
        lawful_weaker n NoBracket (λ o stays. tt)
        (lawful_mapped n of_others spelling_handled (HandledIs true) (λ x. refl) (λ x g. (refl, refl))
        (λ h g. (h.at, others_back h.at h.error h.places g.0 g.1, tt)) (lawful_fixed_at n (word (codes "OTHER"))))
      where
        others_back : (p : ℕ) (e : Option Named) (ps : Option (List WrittenPlace)) → e ≡ None → ps ≡ None → of_others p ≡ record { at = p; error = e; places = ps }
        others_back p e ps none without = λ i. record { at = p; error = sym none i; places = sym without i }

    errors : Lawful n (map_read (λ x. of_error x.0 x.1) (both name (optional is_bracket (places n)))) (map_read (λ x. of_error x.0 x.1) (both name (optional is_bracket (places m)))) spelling_handled (HandledIs false) NoBracket
    errors =
        lawful_mapped n (λ x. of_error x.0 x.1) spelling_handled (HandledIs false) (λ x. refl) (λ x g. (x.0, refl, refl, g.0, g.1))
        (λ h g. ((g.0, h.places), error_back h.at h.error h.places g.0 g.1 g.2, (g.3, g.4)))
        (lawful_then n (lawful_name n) (lawful_optional is_bracket n open_places (lawful_at is_bracket n (lawful_places n m above))))
      where
        error_back : (p : ℕ) (e : Option Named) (ps : Option (List WrittenPlace)) (k : Named) → e ≡ Some k → p ≡ k.at → of_error k ps ≡ record { at = p; error = e; places = ps }
        error_back p e ps k is there = λ i. record { at = sym there i; error = sym is i; places = ps }

    branches : (b : Bool) → Branch (passes (is_word (codes "OTHER"))) b n (handled_by n b) (handled_by m b) spelling_handled IsHandled (HandledIs b) NoBracket
    branches true = branch_of (passes (is_word (codes "OTHER"))) true n IsHandled (handled_good true) others
    branches false = branch_of (passes (is_word (codes "OTHER"))) false n IsHandled (handled_good false) errors

    by_error : (p : ℕ) (e : Option Named) (ps : Option (List WrittenPlace)) (ts rest : List Placed) → IsCaught p e ps → AreDue (spelling_caught p e ps) ts
        → (b : Bool) × (passes (is_word (codes "OTHER")) (first (ts ++ rest)) ≡ b) × HandledIs b (record { at = p; error = e; places = ps })
    by_error p None ps ts rest good d = (true, opens_due_at (word (codes "OTHER")) p [] ts rest d, (refl, good))
    by_error p (Some k) ps ts rest good d =
        (false, name_no_word (codes "OTHER") reserved_other (first (ts ++ rest)) (opens_name k (if_written spelling_places ps) ts rest good.1 d), (k, refl, good.0, good.1, good.2))

    handled_begins : (h : HandledOf WrittenPlace) (ts rest : List Placed) → IsHandled h → AreDue (spelling_handled h) ts → NoBracket (first rest)
        → (b : Bool) × (passes (is_word (codes "OTHER")) (first (ts ++ rest)) ≡ b) × HandledIs b h
    handled_begins h ts rest good d stays = by_error h.at h.error h.places ts rest good d

-- the lists that words open are lawful
abbrev pub LawfulBlock : ℕ → Block → Block → Type 0
LawfulBlock n b b' = (w : List ℕ) → Lawful n (b w) (b' w) (spelling_listed w) AreListed NoStatement

pub lawful_ended : (n : ℕ) → Lawful n list_end list_end (λ u. ending) Always Any
unfolding list_end
lawful_ended n =
    lawful_mapped n (λ x. tt) (λ u. ending) Always (λ x. refl) (λ x g. tt) (λ u g. ((tt, tt), refl, (tt, tt)))
    (lawful_then n (lawful_fixed n (word (codes "END"))) (lawful_fixed n (sign (codes ";"))))

-- an opened list follows
pub link_listed : {B : Type 0} {sb : B → List Due} (gb : B → Type 0) (kb Stay : Option Placed → Type 0) (w : List ℕ) (tail : B → List Due) → ((b : B) → sb b ≡ deeper (due (word w)) ∷ tail b)
    → ((s : ℕ) → Stay (Some (at (word w) s))) → Links sb gb kb Stay
link_listed gb kb Stay w tail starts holds = link_first gb kb Stay (λ b. deeper (due (word w))) tail starts (λ b t g d. stays_lexeme Stay (word w) holds t d.0 d.1)

abbrev pub body_of : List WrittenStatement → List Due
body_of ss = open_level (spelling_statements (written_statements ss))

lawful_handler_with : (n m : ℕ) → suc n < m → {b b' : Block} → LawfulBlock n b b' → Lawful n (handler_with n b) (handler_with m b') spelling_handler IsHandler Any
lawful_handler_with n m above B =
    lawful_mapped n (λ x. record { handled = x.1.0; statements = x.1.1.0 }) spelling_handler IsHandler (λ x. refl) (λ x g. (g.1.0, g.1.1.0))
    (λ h g. ((tt, (h.handled, (h.statements, tt))), refl, (tt, (g.0, (g.1, tt)))))
    (lawful_then n (lawful_fixed n (word (codes "ON")))
    (lawful_both n (lawful_handled n m above) (lawful_both n (B (codes "BEGIN")) (lawful_fixed n (word (codes "END"))) (link_due _ Any NoStatement (word (codes "END")) (λ u. []) (λ u. refl) no_end))
    (link_listed _ Any NoBracket (codes "BEGIN") (λ y. body_of y.0 ++ due (word (codes "END")) ∷ []) (λ y. refl) (λ s. (tt, refl)))))

open_handler : Opens spelling_handler IsHandler (is_word (codes "ON"))
open_handler h ts rest good d = opens_due (word (codes "ON")) (spelling_handled h.handled ++ (spelling_listed (codes "BEGIN") h.statements ++ due (word (codes "END")) ∷ [])) ts rest d

-- Statements.

statement_list : WrittenStatements → List WrittenStatement
statement_list no_statements = []
statement_list (more_statements s ss) = s ∷ statement_list ss

statement_list_is : (ss : WrittenStatements) → written_statements (statement_list ss) ≡ ss
unfolding statement_list
statement_list_is no_statements = refl
statement_list_is (more_statements s ss) = ap (more_statements s) (statement_list_is ss)

handler_list : WrittenHandlers → List WrittenHandler
handler_list no_handlers = []
handler_list (more_handlers h ss hs) = record { handled = h; statements = statement_list ss } ∷ handler_list hs

handler_list_is : (hs : WrittenHandlers) → written_handlers (handler_list hs) ≡ hs
unfolding handler_list
handler_list_is no_handlers = refl
handler_list_is (more_handlers h ss hs) = λ i. more_handlers h (statement_list_is ss i) (handler_list_is hs i)

handler_list_good : (hs : WrittenHandlers) → AreHandlers hs → IsEach IsHandler (handler_list hs)
unfolding handler_list
handler_list_good no_handlers g = tt
handler_list_good (more_handlers h ss hs) g = ((g.0, subst AreStatements (sym (statement_list_is ss)) g.1), handler_list_good hs g.2)

statement_list_good : (ss : WrittenStatements) → AreStatements ss → AreListed (statement_list ss)
statement_list_good ss g = subst AreStatements (sym (statement_list_is ss)) g

-- which kind of statement it is
abbrev StatementIs : StatementStart → WrittenStatement → Type 0
StatementIs begins.Assign (assign p q e) = IsStatement (assign p q e)
StatementIs begins.If (only_then p e ss) = IsStatement (only_then p e ss)
StatementIs begins.If (then_else p e ss os) = IsStatement (then_else p e ss os)
StatementIs begins.While (while p e ss) = IsStatement (while p e ss)
StatementIs begins.Append (append p e q) = IsStatement (append p e q)
StatementIs begins.Call (call p c hs) = IsStatement (call p c hs)
StatementIs begins.Return (return p es) = IsStatement (return p es)
StatementIs begins.Raise (raise p k es) = IsStatement (raise p k es)
StatementIs _ _ = ⊥

statement_good : (k : StatementStart) (s : WrittenStatement) → StatementIs k s → IsStatement s
statement_good begins.Assign (assign p q e) g = g
statement_good begins.If (only_then p e ss) g = g
statement_good begins.If (then_else p e ss os) g = g
statement_good begins.While (while p e ss) g = g
statement_good begins.Append (append p e q) g = g
statement_good begins.Call (call p c hs) g = g
statement_good begins.Return (return p es) g = g
statement_good begins.Raise (raise p k es) g = g
statement_good _ _ g = absurd g

chosen_is : (p : ℕ) (e : Written) (ss : List WrittenStatement) (o : Option (List WrittenStatement)) → IsStatement (if_statement p e ss o) → StatementIs begins.If (if_statement p e ss o)
chosen_is p e ss None g = g
chosen_is p e ss (Some os) g = g

-- no grip on an expression, and on a place
loose : (k : ℕ) (l : Lexeme) → ((s : ℕ) → grip_of (at l s) ≡ 0) → (s : ℕ) → Stays k (Some (at l s))
loose k l none s = let here = none s in omega (arith, here)

abbrev Parts : StatementStart → Type 0
Parts begins.Assign = WrittenPlace × (Unit {0} × (Written × Unit {0}))
Parts begins.If = ℕ × (Written × (List WrittenStatement × (Option (List WrittenStatement) × Unit {0})))
Parts begins.While = ℕ × (Written × (List WrittenStatement × Unit {0}))
Parts begins.Append = ℕ × (Written × (Unit {0} × (WrittenPlace × Unit {0})))
Parts begins.Call = (ℕ × CallOf Written WrittenPlace) × (List WrittenHandler × Unit {0})
Parts begins.Return = ℕ × (List Written × Unit {0})
Parts begins.Raise = ℕ × (Named × (List Written × Unit {0}))

assign_back : (s : WrittenStatement) → StatementIs begins.Assign s → (x : Parts begins.Assign) × (assign x.0.name.at x.0 x.1.1.0 ≡ s) × (IsPlace x.0 × (Unit {0} × (IsWritten x.1.1.0 × Unit {0})))
assign_back (assign p q e) g = ((q, (tt, (e, tt))), ap (λ i. assign i q e) (sym g.0), (g.1, (tt, (g.2, tt))))
assign_back _ g = absurd g

if_back : (s : WrittenStatement) → StatementIs begins.If s
    → (x : Parts begins.If) × (if_statement x.0 x.1.0 x.1.1.0 x.1.1.1.0 ≡ s) × (Unit {0} × (IsWritten x.1.0 × (AreListed x.1.1.0 × (IfWritten AreListed x.1.1.1.0 × Unit {0}))))
if_back (only_then p e ss) g =
    ((p, (e, (statement_list ss, (None, tt)))), ap (only_then p e) (statement_list_is ss), (tt, (g.0, (statement_list_good ss g.1, (tt, tt)))))
if_back (then_else p e ss os) g =
    ((p, (e, (statement_list ss, (Some (statement_list os), tt)))), (λ i. then_else p e (statement_list_is ss i) (statement_list_is os i)), (tt, (g.0, (statement_list_good ss g.1, (statement_list_good os g.2, tt)))))
if_back _ g = absurd g

while_back : (s : WrittenStatement) → StatementIs begins.While s
    → (x : Parts begins.While) × (while x.0 x.1.0 (written_statements x.1.1.0) ≡ s) × (Unit {0} × (IsWritten x.1.0 × (AreListed x.1.1.0 × Unit {0})))
while_back (while p e ss) g = ((p, (e, (statement_list ss, tt))), ap (while p e) (statement_list_is ss), (tt, (g.0, (statement_list_good ss g.1, tt))))
while_back _ g = absurd g

append_back : (s : WrittenStatement) → StatementIs begins.Append s
    → (x : Parts begins.Append) × (append x.0 x.1.0 x.1.1.1.0 ≡ s) × (Unit {0} × (IsWritten x.1.0 × (Unit {0} × (IsPlace x.1.1.1.0 × Unit {0}))))
append_back (append p e q) g = ((p, (e, (tt, (q, tt)))), refl, (tt, (g.0, (tt, (g.1, tt)))))
append_back _ g = absurd g

call_back : (s : WrittenStatement) → StatementIs begins.Call s
    → (x : Parts begins.Call) × (call x.0.0 x.0.1 (written_handlers x.1.0) ≡ s) × (IsHead x.0 × (IsEach IsHandler x.1.0 × Unit {0}))
call_back (call p c hs) g = (((p, c), (handler_list hs, tt)), ap (call p c) (handler_list_is hs), (g.0, (handler_list_good hs g.1, tt)))
call_back _ g = absurd g

return_back : (s : WrittenStatement) → StatementIs begins.Return s → (x : Parts begins.Return) × (return x.0 x.1.0 ≡ s) × (Unit {0} × (IsEach IsWritten x.1.0 × Unit {0}))
return_back (return p es) g = ((p, (es, tt)), refl, (tt, (g, tt)))
return_back _ g = absurd g

raise_back : (s : WrittenStatement) → StatementIs begins.Raise s
    → (x : Parts begins.Raise) × (raise x.0 x.1.0 x.1.1.0 ≡ s) × (Unit {0} × (IsName x.1.0 × (IsEach IsWritten x.1.1.0 × Unit {0})))
raise_back (raise p k es) g = ((p, (k, (es, tt))), refl, (tt, (g.0, (g.1, tt))))
raise_back _ g = absurd g

abbrev NoElse : Option Placed → Type 0
NoElse o = NoStatement o × (passes (is_word (codes "ELSE")) o ≡ false)

abbrev NoHandler : Option Placed → Type 0
NoHandler o = Any o × (passes (is_word (codes "ON")) o ≡ false)

open_else : Opens (spelling_listed (codes "ELSE")) AreListed (is_word (codes "ELSE"))
open_else ss [] rest good d = absurd d
open_else ss (t ∷ ts) rest good d = is_lexeme_of (word (codes "ELSE")) t d.0.0 d.0.1

-- what stands behind THEN and its statements
else_first : (o : Option (List WrittenStatement)) → Due
else_first None = due (word (codes "END"))
else_first (Some os) = deeper (due (word (codes "ELSE")))

lawful_statement_by : (n m : ℕ) → suc n < m → {b b' : Block} → LawfulBlock n b b' → (k : StatementStart) → Lawful n (statement_by n b k) (statement_by m b' k) spelling_statement (StatementIs k) Any
unfolding else_first
lawful_statement_by n m above B begins.Assign =
    lawful_mapped n (λ x. assign x.0.name.at x.0 x.1.1.0) spelling_statement (StatementIs begins.Assign) (λ x. refl) (λ x g. (refl, g.0, g.1.1.0)) assign_back
    (lawful_both n (places_lawful n m above)
    (lawful_then n (lawful_fixed n (sign (codes ":="))) (lawful_both n (expressions_lawful n m above) (lawful_fixed n (sign (codes ";"))) (link_due _ Any (Stays 0) (sign (codes ";")) (λ u. []) (λ u. refl) (loose 0 (sign (codes ";")) (λ s. refl)))))
    (link_due _ Any (Stays 7) (sign (codes ":=")) (λ y. spelling y.1.0 ++ due (sign (codes ";")) ∷ []) (λ y. refl) (loose 7 (sign (codes ":=")) (λ s. refl))))
lawful_statement_by n m above B begins.If =
    lawful_mapped n (λ x. if_statement x.0 x.1.0 x.1.1.0 x.1.1.1.0) spelling_statement (StatementIs begins.If) (λ x. chosen_spelled x.0 x.1.0 x.1.1.0 x.1.1.1.0)
    (λ x g. chosen_is x.0 x.1.0 x.1.1.0 x.1.1.1.0 (chosen_kept x.0 x.1.0 x.1.1.0 x.1.1.1.0 g.1.0 g.1.1.0 g.1.1.1.0)) if_back
    (lawful_then n (lawful_fixed_at n (word (codes "IF")))
    (lawful_both n (expressions_lawful n m above)
    (lawful_both n (B (codes "THEN"))
    (lawful_both n (lawful_optional (is_word (codes "ELSE")) n open_else (lawful_at (is_word (codes "ELSE")) n (B (codes "ELSE")))) (lawful_ended n)
    (link_due _ Any NoElse (word (codes "END")) (λ u. due (sign (codes ";")) ∷ []) (λ u. refl) (λ s. (no_end s, refl))))
    (link_first _ Any NoStatement (λ y. else_first y.0) (λ y. else_rest y.0) (λ y. else_parts y.0) (λ y t g d. else_stays y.0 t d)))
    (link_listed _ Any (Stays 0) (codes "THEN") (λ y. body_of y.0 ++ (spelling_else y.1.0 ++ ending)) (λ y. refl) (loose 0 (word (codes "THEN")) (λ s. refl)))))
  where
    else_rest : (o : Option (List WrittenStatement)) → List Due
    else_rest None = due (sign (codes ";")) ∷ []
    else_rest (Some os) = body_of os ++ ending

    else_parts : (o : Option (List WrittenStatement)) → spelling_else o ++ ending ≡ else_first o ∷ else_rest o
    else_parts None = refl
    else_parts (Some os) = refl

    else_stays : (o : Option (List WrittenStatement)) (t : Placed) → IsDue (else_first o) t → NoStatement (Some t)
    else_stays None t d = stays_lexeme NoStatement (word (codes "END")) no_end t d.0 d.1
    else_stays (Some os) t d = stays_lexeme NoStatement (word (codes "ELSE")) no_else t d.0 d.1
lawful_statement_by n m above B begins.While =
    lawful_mapped n (λ x. while x.0 x.1.0 (written_statements x.1.1.0)) spelling_statement (StatementIs begins.While) (λ x. refl) (λ x g. (g.1.0, g.1.1.0)) while_back
    (lawful_then n (lawful_fixed_at n (word (codes "WHILE")))
    (lawful_both n (expressions_lawful n m above) (lawful_both n (B (codes "DO")) (lawful_ended n) (link_due _ Any NoStatement (word (codes "END")) (λ u. due (sign (codes ";")) ∷ []) (λ u. refl) no_end))
    (link_listed _ Any (Stays 0) (codes "DO") (λ y. body_of y.0 ++ ending) (λ y. refl) (loose 0 (word (codes "DO")) (λ s. refl)))))
lawful_statement_by n m above B begins.Append =
    lawful_mapped n (λ x. append x.0 x.1.0 x.1.1.1.0) spelling_statement (StatementIs begins.Append) (λ x. refl) (λ x g. (g.1.0, g.1.1.1.0)) append_back
    (lawful_then n (lawful_fixed_at n (word (codes "APPEND")))
    (lawful_both n (expressions_lawful n m above)
    (lawful_then n (lawful_fixed n (word (codes "TO"))) (lawful_both n (places_lawful n m above) (lawful_fixed n (sign (codes ";"))) (link_due _ Any (Stays 7) (sign (codes ";")) (λ u. []) (λ u. refl) (loose 7 (sign (codes ";")) (λ s. refl)))))
    (link_due _ Any (Stays 0) (word (codes "TO")) (λ y. spelling_place y.1.0 ++ due (sign (codes ";")) ∷ []) (λ y. refl) (loose 0 (word (codes "TO")) (λ s. refl)))))
lawful_statement_by n m above {b} {b'} B begins.Call =
    lawful_mapped n (λ x. call x.0.0 x.0.1 (written_handlers x.1.0)) spelling_statement (StatementIs begins.Call)
    (λ x. ap (λ l. spelling_head x.0 ++ (l ++ written.semicolon ∷ [])) (handlers_spelled x.1.0)) (λ x g. (g.0, each_handler x.1.0 g.1.0)) call_back
    (lawful_both n (lawful_call_head n m above)
    (lawful_both n
    (lawful_repeated (is_word (codes "ON")) n (shrinks_handler n (λ w. (B w).narrow)) (shrinks_handler m (λ w. (B w).wide)) open_handler (λ o hit. tt) (lawful_at (is_word (codes "ON")) n (lawful_handler_with n m above B)))
    (lawful_fixed n (sign (codes ";"))) (link_due _ Any NoHandler (sign (codes ";")) (λ u. []) (λ u. refl) (λ s. (tt, refl))))
    (link_first _ Any NoInto (λ y. handlers_first y.0) (λ y. handlers_rest y.0) (λ y. handlers_parts y.0) (λ y t g d. handlers_stay y.0 t d)))
  where
    handlers_first : List WrittenHandler → Due
    handlers_first [] = due (sign (codes ";"))
    handlers_first (h ∷ hs) = due (word (codes "ON"))

    handlers_rest : List WrittenHandler → List Due
    handlers_rest [] = []
    handlers_rest (h ∷ hs) =
        ((spelling_handled h.handled ++ (spelling_listed (codes "BEGIN") h.statements ++ due (word (codes "END")) ∷ [])) ++ each spelling_handler hs) ++ due (sign (codes ";")) ∷ []

    handlers_parts : (hs : List WrittenHandler) → each spelling_handler hs ++ due (sign (codes ";")) ∷ [] ≡ handlers_first hs ∷ handlers_rest hs
    handlers_parts [] = refl
    handlers_parts (h ∷ hs) = refl

    handlers_stay : (hs : List WrittenHandler) (t : Placed) → IsDue (handlers_first hs) t → NoInto (Some t)
    handlers_stay [] t d = stays_lexeme NoInto (sign (codes ";")) (λ s. (tt, refl)) t d.0 d.1
    handlers_stay (h ∷ hs) t d = stays_lexeme NoInto (word (codes "ON")) (λ s. (tt, refl)) t d.0 d.1
lawful_statement_by n m above B begins.Return =
    lawful_mapped n (λ x. return x.0 x.1.0) spelling_statement (StatementIs begins.Return) (λ x. refl) (λ x g. g.1.0) return_back
    (lawful_then n (lawful_fixed_at n (word (codes "RETURN"))) (lawful_both n (lawful_required_list n m above) (lawful_fixed n (sign (codes ";"))) (link_any (spelling_fixed (sign (codes ";"))) _ Any)))
lawful_statement_by n m above B begins.Raise =
    lawful_mapped n (λ x. raise x.0 x.1.0 x.1.1.0) spelling_statement (StatementIs begins.Raise) (λ x. refl) (λ x g. (g.1.0, g.1.1.0)) raise_back
    (lawful_then n (lawful_fixed_at n (word (codes "RAISE"))) (lawful_then n (lawful_name n) (lawful_both n (lawful_required_list n m above) (lawful_fixed n (sign (codes ";"))) (link_any (spelling_fixed (sign (codes ";"))) _ Any))))

-- the token with which a statement begins decides
started_due : (k : StatementStart) (l : Lexeme) (d : Due) (ds : List Due) (ts rest : List Placed) → ((t : Placed) → IsDue d t → (t.kind ≡ l.kind) × (t.bytes ≡ l.bytes)) → ((s : ℕ) → start_of_statement (Some (at l s)) ≡ k)
    → AreDue (d ∷ ds) ts → start_of_statement (first (ts ++ rest)) ≡ k
started_due k l d ds [] rest lexeme is due_them = absurd due_them
started_due k l d ds (t ∷ ts) rest lexeme is due_them =
    let (kind, bytes) = lexeme t due_them.0 in
    stays_lexeme (λ o. start_of_statement o ≡ k) l is t kind bytes

started_at : (k : StatementStart) (w : List ℕ) (p : ℕ) (ds : List Due) (ts rest : List Placed) → ((s : ℕ) → start_of_statement (Some (at (word w) s)) ≡ k) → AreDue (due_at (word w) p ∷ ds) ts → start_of_statement (first (ts ++ rest)) ≡ k
started_at k w p ds ts rest is d = started_due k (word w) (due_at (word w) p) ds ts rest (λ t h. (h.0, h.1)) is d

if_starts : (s : ℕ) → start_of_statement (Some (at (word (codes "IF")) s)) ≡ begins.If
unfolding start_of_statement
if_starts s = refl

while_starts : (s : ℕ) → start_of_statement (Some (at (word (codes "WHILE")) s)) ≡ begins.While
unfolding start_of_statement
while_starts s = refl

append_starts : (s : ℕ) → start_of_statement (Some (at (word (codes "APPEND")) s)) ≡ begins.Append
unfolding start_of_statement
append_starts s = refl

call_starts : (s : ℕ) → start_of_statement (Some (at (word (codes "CALL")) s)) ≡ begins.Call
unfolding start_of_statement
call_starts s = refl

return_starts : (s : ℕ) → start_of_statement (Some (at (word (codes "RETURN")) s)) ≡ begins.Return
unfolding start_of_statement
return_starts s = refl

raise_starts : (s : ℕ) → start_of_statement (Some (at (word (codes "RAISE")) s)) ≡ begins.Raise
unfolding start_of_statement
raise_starts s = refl

reserved_if : is_reserved (codes "IF") ≡ true
unfolding is_reserved reserved_words
reserved_if = refl

reserved_while : is_reserved (codes "WHILE") ≡ true
unfolding is_reserved reserved_words
reserved_while = refl

reserved_append : is_reserved (codes "APPEND") ≡ true
unfolding is_reserved reserved_words
reserved_append = refl

reserved_call : is_reserved (codes "CALL") ≡ true
unfolding is_reserved reserved_words
reserved_call = refl

reserved_return : is_reserved (codes "RETURN") ≡ true
unfolding is_reserved reserved_words
reserved_return = refl

reserved_raise : is_reserved (codes "RAISE") ≡ true
unfolding is_reserved reserved_words
reserved_raise = refl

-- a name begins an assignment
name_starts : (o : Option Placed) → passes is_name o ≡ true → start_of_statement o ≡ begins.Assign
unfolding start_of_statement
name_starts None hit = absurd cc
name_starts (Some t) hit =
    rw (
      name_no_word (codes "IF") reserved_if (Some t) hit,
      name_no_word (codes "WHILE") reserved_while (Some t) hit,
      name_no_word (codes "APPEND") reserved_append (Some t) hit,
      name_no_word (codes "CALL") reserved_call (Some t) hit,
      name_no_word (codes "RETURN") reserved_return (Some t) hit,
      name_no_word (codes "RAISE") reserved_raise (Some t) hit,
    ) refl

statement_begins : (s : WrittenStatement) (ts rest : List Placed) → IsStatement s → AreDue (spelling_statement s) ts → (k : StatementStart) × (start_of_statement (first (ts ++ rest)) ≡ k) × StatementIs k s
statement_begins (assign p q e) ts rest good d =
    (begins.Assign, name_starts (first (ts ++ rest)) (opens_name q.name (spelling_suffixes q.suffixes ++ due (sign (codes ":=")) ∷ (spelling e ++ due (sign (codes ";")) ∷ [])) ts rest good.1.0 d), good)
statement_begins (only_then p e ss) ts rest good d = (begins.If, started_at begins.If (codes "IF") p _ ts rest if_starts d, good)
statement_begins (then_else p e ss os) ts rest good d = (begins.If, started_at begins.If (codes "IF") p _ ts rest if_starts d, good)
statement_begins (while p e ss) ts rest good d = (begins.While, started_at begins.While (codes "WHILE") p _ ts rest while_starts d, good)
statement_begins (append p e q) ts rest good d = (begins.Append, started_at begins.Append (codes "APPEND") p _ ts rest append_starts d, good)
statement_begins (call p c hs) ts rest good d = (begins.Call, started_at begins.Call (codes "CALL") p ((due_name c.«module» ∷ due (sign (codes ".")) ∷ due_name c.procedure ∷ (spelling_list c.arguments ++ if_written spelling_into c.into)) ++ (written.spelling_handlers hs ++ written.semicolon ∷ [])) ts rest call_starts d, good)
statement_begins (return p es) ts rest good d = (begins.Return, started_at begins.Return (codes "RETURN") p (spelling_list es ++ written.semicolon ∷ []) ts rest return_starts d, good)
statement_begins (raise p k es) ts rest good d = (begins.Raise, started_at begins.Raise (codes "RAISE") p (due_name k ∷ (spelling_list es ++ written.semicolon ∷ [])) ts rest raise_starts d, good)

pub lawful_statement_with : (n m : ℕ) → suc n < m → {b b' : Block} → LawfulBlock n b b' → Lawful n (statement_with n b) (statement_with m b') spelling_statement IsStatement Any
lawful_statement_with n m above {b} {b'} B =
    lawful_cased start_of_statement n (statement_by n b) (statement_by m b') StatementIs
    (λ k. branch_of start_of_statement k n IsStatement (statement_good k) (lawful_statement_by n m above B k))
    (λ s ts e. (lawful_statement_by n m above B (start_of_statement None)).levels.filled s ts e)
    (λ s ts rest good d stays. statement_begins s ts rest good d)

-- what begins a statement is seen by its first token
word_seen : (w : List ℕ) → ((s : ℕ) → passes begins_statement (Some (at (word w) s)) ≡ true) → (p : ℕ) (ds : List Due) (ts rest : List Placed) → AreDue (due_at (word w) p ∷ ds) ts → passes begins_statement (first (ts ++ rest)) ≡ true
word_seen w seen p ds [] rest d = absurd d
word_seen w seen p ds (t ∷ ts) rest d = stays_lexeme (λ o. passes begins_statement o ≡ true) (word w) seen t d.0.0 d.0.1

open_statement : Opens spelling_statement IsStatement begins_statement
open_statement (assign p q e) ts rest good d =
    named (first (ts ++ rest)) (opens_name q.name (spelling_suffixes q.suffixes ++ due (sign (codes ":=")) ∷ (spelling e ++ due (sign (codes ";")) ∷ [])) ts rest good.1.0 d)
  where
    named : (o : Option Placed) → passes is_name o ≡ true → passes begins_statement o ≡ true
    named None hit = absurd cc
    named (Some t) hit = rw hit refl
open_statement (only_then p e ss) ts rest good d = word_seen (codes "IF") (λ s. rw reserved_if refl) p _ ts rest d
open_statement (then_else p e ss os) ts rest good d = word_seen (codes "IF") (λ s. rw reserved_if refl) p _ ts rest d
open_statement (while p e ss) ts rest good d = word_seen (codes "WHILE") (λ s. rw reserved_while refl) p _ ts rest d
open_statement (append p e q) ts rest good d = word_seen (codes "APPEND") (λ s. rw reserved_append refl) p _ ts rest d
open_statement (call p c hs) ts rest good d = word_seen (codes "CALL") (λ s. rw reserved_call refl) p ((due_name c.«module» ∷ due (sign (codes ".")) ∷ due_name c.procedure ∷ (spelling_list c.arguments ++ if_written spelling_into c.into)) ++ (written.spelling_handlers hs ++ written.semicolon ∷ [])) ts rest d
open_statement (return p es) ts rest good d = word_seen (codes "RETURN") (λ s. rw reserved_return refl) p (spelling_list es ++ written.semicolon ∷ []) ts rest d
open_statement (raise p k es) ts rest good d = word_seen (codes "RAISE") (λ s. rw reserved_raise refl) p (due_name k ∷ (spelling_list es ++ written.semicolon ∷ [])) ts rest d

-- Lists of statements.

open_listed : (w : List ℕ) → Opens (spelling_listed w) AreListed (is_word w)
open_listed w ss [] rest good d = absurd d
open_listed w ss (t ∷ ts) rest good d = is_lexeme_of (word w) t d.0.0 d.0.1

listed_statements : (ss : List WrittenStatement) → AreListed ss → IsEach IsStatement ss
listed_statements [] g = tt
listed_statements (s ∷ ss) g = (g.0, listed_statements ss g.1)

required_blocks : (n m : ℕ) → ((v : List ℕ) → LawfulAt (is_word v) n (opened_block n v) (opened_block m v) (spelling_listed v) AreListed NoStatement)
    → LawfulBlock n (λ v. expect_where (is_word v) (λ p. []) (opened_block n v)) (λ v. expect_where (is_word v) (λ p. []) (opened_block m v))
required_blocks n m L v = lawful_required (is_word v) n (λ p. []) (open_listed v) (sound_filled_block Unexpected v) (L v)

lawful_opened_block : (n m : ℕ) → suc n < m → (w : List ℕ) → LawfulAt (is_word w) n (opened_block n w) (opened_block m w) (spelling_listed w) AreListed NoStatement
unfolding opened_block
lawful_opened_block n zero above w = absurd (omega (arith, above))
lawful_opened_block n (suc zero) above w = absurd (omega (arith, above))
lawful_opened_block zero (suc (suc m)) above w =
    lawful_too_deep (is_word w) (λ p. []) (sound_filled_block TooDeep w) (sound_opened_block (suc (suc m)) w)
    (λ r hit. shrinks_behind (word w) (sound_repeated begins_statement (shrinks_statement_with (suc m) B) (sound_statement_with (suc m) B)) r hit)
    (λ r. omega arith) (λ ss g. omega arith)
  where
    B : SoundBlock (λ v. expect_where (is_word v) (λ p. []) (opened_block (suc m) v))
    B v = sound_either (is_word v) (sound_opened_block (suc m) v) (sound_filled_block Unexpected v)
lawful_opened_block (suc n) (suc (suc m)) above w =
    let B = required_blocks n (suc m) (λ v. lawful_opened_block n (suc m) (omega (arith, above)) v) in
    lawful_at (is_word w) (suc n)
    (lawful_mapped (suc n) (λ ss. ss) (spelling_listed w) AreListed (λ ss. ap (λ l. open_level (due (word w) ∷ l)) (statements_spelled ss)) each_statement (λ ss g. (ss, refl, listed_statements ss g))
    (lawful_opened n
    (lawful_weaker n NoStatement (λ o stays. (tt, stays))
    (lawful_behind n (word w)
    (lawful_repeated begins_statement n (shrinks_statement_with n (λ v. (B v).narrow)) (shrinks_statement_with (suc m) (λ v. (B v).wide)) open_statement (λ o hit. tt)
    (lawful_at begins_statement n (lawful_statement_with n (suc m) (omega (arith, above)) B)))))))

pub lawful_block : (n m : ℕ) → suc n < m → LawfulBlock n (block n) (block m)
unfolding block
lawful_block n m above w = lawful_required (is_word w) n (λ p. []) (open_listed w) (sound_filled_block Unexpected w) (lawful_opened_block n m above w)
