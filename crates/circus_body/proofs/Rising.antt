-- What is due in a text stands at rising places.
use Rattle.std.specs.Prelude.{All, AllPairs, slice_index_or}
use Rattle.std.proofs.Common.{map, ◌≡◌, ℕ, suc, ◌≤◌, ◌<◌, List, [], ◌∷◌, ◌++◌, arith}
use Rattle.circus_text.specs.declared.token.Token.{Token}
use Rattle.circus_text.specs.Token.{IsTokenIn, IsBefore}
use Rattle.circus_syntax.specs.Placed.{placed_of, Placed, Due, due, due_at, due_name, due_number, due_text, deeper, open_level, IsDue, AreDue}

-- tokens stand one behind the other, the first of them at a place or behind it
abbrev AreRising : ℕ → List Placed → Type 0
AreRising low [] = Unit {0}
AreRising low (t ∷ ts) = (low ≤ t.start) × AreRising (suc t.start) ts

tokens_rise : (text : List ℕ) (low : ℕ) (ts : List Token) → All (λ (t : Token). low ≤ t.start) ts → All (IsTokenIn text) ts → AllPairs IsBefore ts → AreRising low (map (placed_of text) ts)
tokens_rise text low [] from lie pairs = tt
tokens_rise text low (t ∷ ts) from lie pairs =
    let long : t.start < t.end = (lie 0 t (omega arith)).lies.not_empty in (
      from 0 t (omega arith),
      tokens_rise text (suc t.start) ts
          (λ k d within. (let ends : t.end ≤ (slice_index_or ts k d).start = pairs 0 (suc k) d (omega arith) (omega (arith, within)) in omega (arith, long, ends)))
          (λ k d within. lie (suc k) d (omega (arith, within)))
          (λ i j d behind within. pairs (suc i) (suc j) d (omega (arith, behind)) (omega (arith, within))),
    )

-- it stands at this place, where it tells one
abbrev pub IsAt : Due → ℕ → Type 0
IsAt (due l) at = Unit {0}
IsAt (due_at l place) at = at ≡ place
IsAt (due_name n) at = at ≡ n.at
IsAt (due_number n) at = at ≡ n.at
IsAt (due_text content place) at = at ≡ place
IsAt (deeper d) at = IsAt d at

-- each stands behind the one before it, all of them from a place on and below another
abbrev pub Rise : ℕ → ℕ → List Due → Type 0
Rise low high [] = low ≤ high
Rise low high (d ∷ ds) = (at : ℕ) × (low ≤ at) × IsAt d at × Rise (suc at) high ds

at_start : (d : Due) (t : Placed) → IsDue d t → IsAt d t.start
at_start (due l) t is = tt
at_start (due_at l place) t (kind, bytes, start) = start
at_start (due_name n) t (kind, bytes, start) = start
at_start (due_number n) t (kind, formed, value, start) = start
at_start (due_text content place) t (kind, bytes, start) = start
at_start (deeper d) t is = at_start d t is

rising : (low : ℕ) (ds : List Due) (ts : List Placed) → AreRising low ts → AreDue ds ts → (high : ℕ) × Rise low high ds
rising low [] [] rises are = (low, omega arith)
rising low [] (t ∷ ts) rises are = absurd are
rising low (d ∷ ds) [] rises are = absurd are
rising low (d ∷ ds) (t ∷ ts) rises are =
    let (high, rest) = rising (suc t.start) ds ts rises.1 are.1 in
    (high, (t.start, rises.0, at_start d t are.0, rest))

-- what the tokens of a text are
pub rising_in : (text : List ℕ) (ds : List Due) (ts : List Token) → All (IsTokenIn text) ts → AllPairs IsBefore ts → AreDue ds (map (placed_of text) ts) → (high : ℕ) × Rise 0 high ds
rising_in text ds ts lie pairs are = rising 0 ds (map (placed_of text) ts) (tokens_rise text 0 ts (λ k d within. omega arith) lie pairs) are

pub below : (low high : ℕ) (ds : List Due) → Rise low high ds → low ≤ high
below low high [] rise = rise
below low high (d ∷ ds) (at, from, is, rest) = omega (arith, from, below (suc at) high ds rest)

pub lower : (low less high : ℕ) (ds : List Due) → less ≤ low → Rise low high ds → Rise less high ds
lower low less high [] under rise = omega (arith, under, rise)
lower low less high (d ∷ ds) under (at, from, is, rest) = (at, omega (arith, under, from), is, rest)

pub higher : (low high more : ℕ) (ds : List Due) → high ≤ more → Rise low high ds → Rise low more ds
higher low high more [] over rise = omega (arith, over, rise)
higher low high more (d ∷ ds) over (at, from, is, rest) = (at, from, is, higher (suc at) high more ds over rest)

-- where one part ends and another begins
pub record Split (low high : ℕ) (ds es : List Due) : Type 0 where
  pub mid : ℕ
  pub front : Rise low mid ds
  pub back : Rise mid high es

pub split : (low high : ℕ) (ds es : List Due) → Rise low high (ds ++ es) → Split low high ds es
split low high [] es rise = record { mid = low; front = omega arith; back = rise }
split low high (d ∷ ds) es (at, from, is, rest) =
    let s = split (suc at) high ds es rest in
    record { mid = s.mid; front = (at, from, is, s.front); back = s.back }

pub front : (low high : ℕ) (ds es : List Due) → Rise low high (ds ++ es) → Rise low high ds
front low high ds es rise = let s = split low high ds es rise in higher low s.mid high ds (below s.mid high es s.back) s.front

pub back : (low high : ℕ) (ds es : List Due) → Rise low high (ds ++ es) → Rise low high es
back low high ds es rise = let s = split low high ds es rise in lower s.mid low high es (below low s.mid ds s.front) s.back

pub behind : (low high : ℕ) (d : Due) (ds : List Due) → Rise low high (d ∷ ds) → Rise low high ds
behind low high d ds (at, from, is, rest) = lower (suc at) low high ds (omega (arith, from)) rest

pub unopened : (low high : ℕ) (ds : List Due) → Rise low high (open_level ds) → Rise low high ds
unopened low high [] rise = rise
unopened low high (d ∷ ds) (at, from, is, rest) = (at, from, is, unopened (suc at) high ds rest)

-- a place is from one on and below another
pub record Lies (low high place : ℕ) : Type 0 where
  pub from : low ≤ place
  pub below : place < high

-- the first that is due tells its place
pub first : (low high : ℕ) (d : Due) (ds : List Due) (place : ℕ) → ((at : ℕ) → IsAt d at → at ≡ place) → Rise low high (d ∷ ds) → Lies low high place
first low high d ds place tells (at, from, is, rest) =
    record { from = omega (arith, from, tells at is); below = omega (arith, tells at is, below (suc at) high ds rest) }

pub lies_wider : (low high less more place : ℕ) → less ≤ low → high ≤ more → Lies low high place → Lies less more place
lies_wider low high less more place under over lies = record { from = omega (arith, under, lies.from); below = omega (arith, over, lies.below) }
