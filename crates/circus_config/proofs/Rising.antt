-- The tokens of a text rise: each stands before the later ones.
use Rattle.std.proofs.Common.{◌≡◌, ℕ, suc, ◌<◌, ◌≤◌, List, [], ◌∷◌, ◌++◌, length, map, sym, subst, arith}
use Rattle.std.specs.Prelude.{All, AllPairs, slice_index_or}
use Rattle.circus_text.specs.declared.token.Token.{Token}
use Rattle.circus_text.specs.Token.{IsTokenIn, IsBefore}
use Rattle.circus_syntax.specs.Placed.{Placed, placed_of}
use Rattle.circus_syntax.specs.Reader.{place_in}
use Rattle.circus_config.proofs.Marks.{From}

-- each token stands before the later ones, and before the end
abbrev pub Rising : List Placed → ℕ → Type 0
Rising [] e = Unit {0}
Rising (t ∷ ts) e = From (suc t.start) ts e × Rising ts e

all_from : (text : List ℕ) (low : ℕ) (ts : List Token) → low ≤ length text → All (λ (t : Token). low ≤ t.start) ts → From low (map (placed_of text) ts) (length text)
all_from text low [] end from = end
all_from text low (t ∷ ts) end from = (from 0 t (omega arith), all_from text low ts end (λ k d within. from (suc k) d (omega (arith, within))))

pub tokens_rise : (text : List ℕ) (ts : List Token) → All (IsTokenIn text) ts → AllPairs IsBefore ts → Rising (map (placed_of text) ts) (length text)
tokens_rise text [] lie pairs = tt
tokens_rise text (t ∷ ts) lie pairs =
    let lies = (lie 0 t (omega arith)).lies in (
      all_from text (suc t.start) ts (omega (arith, lies.not_empty, lies.inside))
          (λ k d within. (let ends : t.end ≤ (slice_index_or ts k d).start = pairs 0 (suc k) d (omega arith) (omega (arith, within)) in omega (arith, lies.not_empty, ends))),
      tokens_rise text ts (λ k d within. lie (suc k) d (omega (arith, within))) (λ i j d behind within. pairs (suc i) (suc j) d (omega (arith, behind)) (omega (arith, within))),
    )

-- each of the tokens stands before a place
abbrev pub Below : ℕ → List Placed → Type 0
Below low [] = Unit {0}
Below low (t ∷ ts) = (t.start < low) × Below low ts

from_place : (low : ℕ) (ts : List Placed) (e : ℕ) → From low ts e → low ≤ place_in ts e
from_place low [] e from = from
from_place low (t ∷ ts) e from = from.0

from_back : (low : ℕ) (taken rest : List Placed) (e : ℕ) → From low (taken ++ rest) e → From low rest e
from_back low [] rest e from = from
from_back low (t ∷ taken) rest e from = from_back low taken rest e from.1

pub below_rest : (taken rest : List Placed) (e : ℕ) → Rising (taken ++ rest) e → Below (place_in rest e) taken
below_rest [] rest e rises = tt
below_rest (t ∷ taken) rest e rises = (from_place (suc t.start) rest e (from_back (suc t.start) taken rest e rises.0), below_rest taken rest e rises.1)

rising_back : (taken rest : List Placed) (e : ℕ) → Rising (taken ++ rest) e → Rising rest e
rising_back [] rest e rises = rises
rising_back (t ∷ taken) rest e rises = rising_back taken rest e rises.1

from_less : (low less : ℕ) (ts : List Placed) (e : ℕ) → less ≤ low → From low ts e → From less ts e
from_less low less [] e under from = omega (arith, under, from)
from_less low less (t ∷ ts) e under from = (omega (arith, under, from.0), from_less low less ts e under from.1)

from_own : (ts : List Placed) (e : ℕ) → Rising ts e → From (place_in ts e) ts e
from_own [] e rises = omega arith
from_own (t ∷ ts) e rises = (omega arith, from_less (suc t.start) t.start ts e (omega arith) rises.0)

pub from_rest : (taken rest : List Placed) (e : ℕ) → Rising (taken ++ rest) e → From (place_in rest e) rest e
from_rest taken rest e rises = from_own rest e (rising_back taken rest e rises)

-- what stands in front of tokens is no more than these
pub below_front : (low : ℕ) (fs bs ts us : List Placed) → fs ++ bs ≡ ts ++ us → length fs ≤ length ts → Below low ts → Below low fs
below_front low [] bs ts us is few below = tt
below_front low (f ∷ fs) bs [] us is few below = absurd (omega (arith, few))
below_front low (f ∷ fs) bs (t ∷ ts) us is few below =
    let same : f ≡ t = cc in
    let rest : fs ++ bs ≡ ts ++ us = cc in
    (subst (λ (u : Placed). u.start < low) (sym same) below.0, below_front low fs bs ts us rest (omega (arith, few)) below.1)
