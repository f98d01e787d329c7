-- Where a stop is marked: at a place of the tokens that were to be read, or of their end.
use Rattle.std.proofs.Common.{◌≡◌, ℕ, ◌≤◌, zero, suc, Bool, true, false, List, [], ◌∷◌, length, refl}
use Rattle.std.specs.Prelude.{Option, Some, None, option_map, codes}
use Rattle.circus_text.specs.Token.{Lexeme, content_of}
use Rattle.circus_syntax.specs.declared.stopping.Stop.{Stop}
use Rattle.circus_syntax.specs.declared.stopping.StopCause.{StopCause}
use Rattle.circus_syntax.specs.Placed.{Placed, is_lexeme, is_name, is_number, is_text, sign}
use Rattle.circus_syntax.specs.Reader.{Reader, place_in, next, passes, token, token_in, stop_reading, nothing, both, map_read, choose_by, either, either_case, optional, repeat, repeat_while, mark_stops}
use Rattle.circus_syntax.specs.Reading.{expect_token, fixed_at, name, number, quoted_text, named_of, numeral_of, filled_name, filled_numeral, behind, comma_list, stop_in_type}

-- the tokens, and their end, from a place on
abbrev pub From : ℕ → List Placed → ℕ → Type 0
From low [] e = low ≤ e
From low (t ∷ ts) e = (low ≤ t.start) × From low ts e

abbrev pub MarkFrom : ℕ → Option ℕ → Type 0
MarkFrom low None = Unit {0}
MarkFrom low (Some at) = low ≤ at

abbrev pub MarksFrom : ℕ → Option Stop → Type 0
MarksFrom low None = Unit {0}
MarksFrom low (Some s) = MarkFrom low s.within × MarkFrom low s.list

-- a reader that has tokens and marks from there on alone
pub record IsFrom (low : ℕ) (r : Reader) : Type 0 where
  pub tokens : From low r.rest r.end
  pub marks : MarksFrom low r.stop

-- a production that leaves such a reader so
pub record Keeps {A : Type 0} (p : Reader → A × Reader) : Type 0 where
  pub from : (low : ℕ) (r : Reader) → IsFrom low r → IsFrom low (p r).1

pub keeps_token : {A : Type 0} (test : Placed → Bool) (read : Placed → A) (fill : ℕ → A) → Keeps (token test read fill)
keeps_token {A} test read fill = record { from = λ low r is. by_parts low r.stop r.rest r.end is.tokens is.marks }
  where
    tested : (low : ℕ) (t : Placed) (ts : List Placed) (e : ℕ) (b : Bool) → low ≤ t.start → From low ts e → test t ≡ b → IsFrom low (token_in test read fill None (t ∷ ts) e).1
    tested low t ts e true here on is = rw is record { tokens = on; marks = tt }
    tested low t ts e false here on is = rw is record { tokens = (here, on); marks = (tt, tt) }

    by_parts : (low : ℕ) (stop : Option Stop) (ts : List Placed) (e : ℕ) → From low ts e → MarksFrom low stop → IsFrom low (token_in test read fill stop ts e).1
    by_parts low (Some s) ts e on marks = record { tokens = on; marks = marks }
    by_parts low None [] e on marks = record { tokens = on; marks = (tt, tt) }
    by_parts low None (t ∷ ts) e on marks = tested low t ts e (test t) on.0 on.1 refl

pub keeps_stopped : {A : Type 0} (cause : StopCause) (fill : ℕ → A) → Keeps (stop_reading cause fill)
keeps_stopped {A} cause fill = record { from = λ low r is. by_stop low r.stop r.rest r.end is.tokens is.marks }
  where
    by_stop : (low : ℕ) (stop : Option Stop) (ts : List Placed) (e : ℕ) → From low ts e → MarksFrom low stop → IsFrom low (stop_reading cause fill (record { rest = ts; end = e; stop = stop })).1
    by_stop low (Some s) ts e on marks = record { tokens = on; marks = marks }
    by_stop low None ts e on marks = record { tokens = on; marks = (tt, tt) }

pub keeps_nothing : {A : Type 0} (a : A) → Keeps (nothing a)
keeps_nothing a = record { from = λ low r is. is }

pub keeps_both : {A B : Type 0} {p : Reader → A × Reader} {q : Reader → B × Reader} → Keeps p → Keeps q → Keeps (both p q)
keeps_both {p = p} P Q = record { from = λ low r is. Q.from low (p r).1 (P.from low r is) }

pub keeps_mapped : {A B : Type 0} (f : A → B) {p : Reader → A × Reader} → Keeps p → Keeps (map_read f p)
keeps_mapped f P = record { from = P.from }

pub keeps_cased : {K A : Type 0} (class : Option Placed → K) (p : K → Reader → A × Reader) → ((k : K) → Keeps (p k)) → Keeps (choose_by class p)
keeps_cased class p each = record { from = λ low r is. (each (class (next r))).from low r is }

pub keeps_either : {A : Type 0} (test : Placed → Bool) {p q : Reader → A × Reader} → Keeps p → Keeps q → Keeps (either test p q)
keeps_either test {p} {q} P Q = keeps_cased (passes test) (either_case p q) each
  where
    each : (b : Bool) → Keeps (either_case p q b)
    each true = P
    each false = Q

pub keeps_optional : {A : Type 0} (test : Placed → Bool) {p : Reader → A × Reader} → Keeps p → Keeps (optional test p)
keeps_optional test P = keeps_either test (keeps_mapped (λ x. Some x) P) (keeps_nothing None)

pub keeps_repeated : {A : Type 0} (test : Placed → Bool) {item : Reader → A × Reader} → Keeps item → Keeps (repeat_while test item)
keeps_repeated test {item} P = record { from = λ low r is. (times (length r.rest)).from low r is }
  where
    times : (n : ℕ) → Keeps (repeat test item n)
    times zero = record { from = λ low r is. is }
    times (suc n) = record { from = (keeps_either test (keeps_mapped (λ x. x.0 ∷ x.1) (keeps_both P (times n))) (keeps_nothing [])).from }

-- a mark is the place at which a production began
pub keeps_marked : {A : Type 0} {p : Reader → A × Reader} → Keeps p → Keeps (mark_stops stop_in_type p)
keeps_marked {A} {p} P = record { from = λ low r is. by_stop low r.stop r.rest r.end is.tokens (P.from low r is) }
  where
    begun : (low : ℕ) (ts : List Placed) (e : ℕ) → From low ts e → low ≤ place_in ts e
    begun low [] e on = on
    begun low (t ∷ ts) e on = on.0

    marked : (low at : ℕ) (stop : Option Stop) → low ≤ at → MarksFrom low stop → MarksFrom low (option_map (stop_in_type at) stop)
    marked low at None from marks = tt
    marked low at (Some s) from marks = (from, marks.1)

    by_stop : (low : ℕ) (stop : Option Stop) (ts : List Placed) (e : ℕ) → From low ts e → IsFrom low (p (record { rest = ts; end = e; stop = stop })).1
        → IsFrom low (mark_stops stop_in_type p (record { rest = ts; end = e; stop = stop })).1
    by_stop low (Some s) ts e on is = is
    by_stop low None ts e on is = record { tokens = is.tokens; marks = marked low (place_in ts e) (p (record { rest = ts; end = e; stop = None })).1.stop (begun low ts e on) is.marks }

-- ---- words and signs, names and numbers, lists

pub keeps_fixed : (l : Lexeme) → Keeps (expect_token l)
unfolding expect_token
keeps_fixed l = keeps_token (is_lexeme l) (λ t. tt) (λ at. tt)

pub keeps_fixed_at : (l : Lexeme) → Keeps (fixed_at l)
unfolding fixed_at
keeps_fixed_at l = keeps_token (is_lexeme l) (λ t. t.start) (λ at. at)

pub keeps_name : Keeps name
unfolding name
keeps_name = keeps_token is_name named_of filled_name

pub keeps_number : Keeps number
unfolding number
keeps_number = keeps_token is_number numeral_of filled_numeral

pub keeps_quoted : Keeps quoted_text
unfolding quoted_text
keeps_quoted = keeps_token is_text (λ t. (content_of t.bytes, t.start)) (λ at. ([], at))

pub keeps_behind : (l : Lexeme) {A : Type 0} {p : Reader → A × Reader} → Keeps p → Keeps (behind l p)
keeps_behind l P = keeps_mapped (λ x. x.1) (keeps_both (keeps_fixed l) P)

pub keeps_list : {A : Type 0} {item : Reader → A × Reader} → Keeps item → Keeps (comma_list item)
keeps_list P = keeps_mapped (λ x. x.0 ∷ x.1) (keeps_both P (keeps_repeated (is_lexeme (sign (codes ","))) (keeps_behind (sign (codes ",")) P)))
