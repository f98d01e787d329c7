-- Reading tokens. A production takes a reader and answers what it read and the reader behind it. The first
-- token with which nothing goes on stops the reader: from then on it reads nothing, and what is left to
-- answer is filled in.
use Rattle.std.specs.Prelude.{ℕ, Bool, true, false, if◌then◌else◌, List, [], ◌∷◌, length, Option, Some, None, option_map}
use Rattle.std.proofs.Common.{zero, suc}
use Rattle.circus_syntax.specs.Placed.{Placed, first}
use Rattle.circus_syntax.specs.declared.stopping.Stop.{Stop}
use Rattle.circus_syntax.specs.declared.stopping.StopCause.{StopCause}
use Rattle.circus_syntax.specs.declared.stopping.StopCause.TheVariants.{Unexpected}

-- the tokens left, the length of their text, and where and why reading stopped
pub record Reader : Type 0 where
  pub rest : List Placed
  pub end : ℕ
  pub stop : Option Stop

-- a reader at the tokens of a text of this length
abbrev pub open_at : List Placed → ℕ → Reader
open_at ts end = record { rest = ts; end = end; stop = None }

-- the place of the first of the tokens, or the end
abbrev pub place_in : List Placed → ℕ → ℕ
place_in [] end = end
place_in (t ∷ ts) end = t.start

-- the place of the next token, or where reading stopped
abbrev pub place_of : Option Stop → List Placed → ℕ → ℕ
place_of (Some s) ts end = s.place
place_of None ts end = place_in ts end

abbrev pub place : Reader → ℕ
place r = place_of r.stop r.rest r.end

-- the next token, unless reading stopped
abbrev pub next_of : Option Stop → List Placed → Option Placed
next_of (Some s) ts = None
next_of None ts = first ts

abbrev pub next : Reader → Option Placed
next r = next_of r.stop r.rest

-- there is a token, and it passes
abbrev pub passes : (Placed → Bool) → Option Placed → Bool
passes test None = false
passes test (Some t) = test t

abbrev pub sees : (Placed → Bool) → Reader → Bool
sees test r = passes test (next r)

-- a stop at a place: too many levels, or a token with which nothing goes on
abbrev pub stop_at : StopCause → ℕ → Stop
stop_at cause at = record { place = at; cause = cause; within = None; list = None }

-- the next token is left behind, unless reading stopped
abbrev pub skipped_by : Option Stop → List Placed → ℕ → Reader
skipped_by (Some s) ts end = record { rest = ts; end = end; stop = Some s }
skipped_by None [] end = open_at [] end
skipped_by None (t ∷ ts) end = open_at ts end

-- reading stopped here, if it hasn't stopped before
abbrev pub stopped_by : StopCause → Option Stop → List Placed → ℕ → Reader
stopped_by cause (Some s) ts end = record { rest = ts; end = end; stop = Some s }
stopped_by cause None ts end = record { rest = ts; end = end; stop = Some (stop_at cause (place_in ts end)) }

-- a token that passes is read; else reading stops, and what its place gives is answered
abbrev pub token_in : {A : Type 0} → (Placed → Bool) → (Placed → A) → (ℕ → A) → Option Stop → List Placed → ℕ → A × Reader
token_in test read default (Some s) ts end = (default s.place, record { rest = ts; end = end; stop = Some s })
token_in test read default None [] end = (default end, stopped_by Unexpected None [] end)
token_in test read default None (t ∷ ts) end =
    if test t then (read t, open_at ts end) else (default t.start, stopped_by Unexpected None (t ∷ ts) end)

abbrev pub token : {A : Type 0} → (Placed → Bool) → (Placed → A) → (ℕ → A) → Reader → A × Reader
token test read default r = token_in test read default r.stop r.rest r.end

-- reading stops here, and what the place gives is answered
abbrev pub stop_reading : {A : Type 0} → StopCause → (ℕ → A) → Reader → A × Reader
stop_reading cause default r = (default (place r), stopped_by cause r.stop r.rest r.end)

-- nothing is read
abbrev pub nothing : {A : Type 0} → A → Reader → A × Reader
nothing a r = (a, r)

-- one behind the other
abbrev pub both : {A B : Type 0} → (Reader → A × Reader) → (Reader → B × Reader) → Reader → (A × B) × Reader
both p q r = (((p r).0, (q (p r).1).0), (q (p r).1).1)

-- what is read, made into something else
abbrev pub map_read : {A B : Type 0} → (A → B) → (Reader → A × Reader) → Reader → B × Reader
map_read f p r = (f (p r).0, (p r).1)

-- the next token decides
abbrev pub choose_by : {K A : Type 0} → (Option Placed → K) → (K → Reader → A × Reader) → Reader → A × Reader
choose_by class p r = p (class (next r)) r

-- p where the test is passed, else q
abbrev pub either_case : {A : Type 0} → (Reader → A × Reader) → (Reader → A × Reader) → Bool → Reader → A × Reader
either_case p q true = p
either_case p q false = q

abbrev pub either : {A : Type 0} → (Placed → Bool) → (Reader → A × Reader) → (Reader → A × Reader) → Reader → A × Reader
either test p q = choose_by (passes test) (either_case p q)

-- p or nothing
abbrev pub optional : {A : Type 0} → (Placed → Bool) → (Reader → A × Reader) → Reader → Option A × Reader
optional test p = either test (map_read (λ x. Some x) p) (nothing None)

-- an item for as long as the next token begins one, so many times at most
abbrev pub repeat : {A : Type 0} → (Placed → Bool) → (Reader → A × Reader) → ℕ → Reader → List A × Reader
repeat test item zero r = ([], r)
repeat test item (suc n) r =
    either test (map_read (λ x. x.0 ∷ x.1) (both item (repeat test item n))) (nothing []) r

-- an item for as long as the next token begins one; each takes a token
abbrev pub repeat_while : {A : Type 0} → (Placed → Bool) → (Reader → A × Reader) → Reader → List A × Reader
repeat_while test item r = repeat test item (length r.rest) r

-- what a stop is marked with where it came while p read: here with the place at which p began
abbrev pub marked_in : {A : Type 0} → (ℕ → Stop → Stop) → Option Stop → ℕ → A × Reader → A × Reader
marked_in mark (Some s) at x = x
marked_in mark None at x = (x.0, record { rest = x.1.rest; end = x.1.end; stop = option_map (mark at) x.1.stop })

abbrev pub mark_stops : {A : Type 0} → (ℕ → Stop → Stop) → (Reader → A × Reader) → Reader → A × Reader
mark_stops mark p r = marked_in mark r.stop (place r) (p r)
