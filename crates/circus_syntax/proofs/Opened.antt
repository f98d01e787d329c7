-- How deep what is due stands.
use Rattle.std.proofs.Common.{◌≡◌, ℕ, suc, ◌<◌, ◌≤◌, List, [], ◌∷◌, ◌++◌, length, refl, arith}
use Rattle.circus_syntax.specs.Placed.{Placed, Due, depth, open_level, AreWithin, AreDue, StandWithin}

-- where these are due, what stands behind the tokens is deeper
abbrev pub StandsDeeper : ℕ → List Due → List Placed → Type 0
StandsDeeper n [] ts = ⊥
StandsDeeper n (d ∷ ds) [] = n < depth d
StandsDeeper n (d ∷ ds) (t ∷ ts) = StandsDeeper n ds ts

pub stand_append : (n : ℕ) (ds es : List Due) (ts us : List Placed) → length ts ≡ length ds → StandWithin n ds ts → StandWithin n es us → StandWithin n (ds ++ es) (ts ++ us)
stand_append n [] es [] us same front back = back
stand_append n [] es (t ∷ ts) us same front back = absurd (omega arith)
stand_append n (d ∷ ds) es [] us same front back = absurd (omega arith)
stand_append n (d ∷ ds) es (t ∷ ts) us same front back = (front.0, stand_append n ds es ts us (omega arith) front.1 back)

pub stand_front : (n : ℕ) (ds es : List Due) (ts : List Placed) → length ts ≤ length ds → StandWithin n ds ts → StandWithin n (ds ++ es) ts
stand_front n ds es [] few front = tt
stand_front n [] es (t ∷ ts) few front = absurd (omega arith)
stand_front n (d ∷ ds) es (t ∷ ts) few front = (front.0, stand_front n ds es ts (omega arith) front.1)

pub deeper_front : (n : ℕ) (ds es : List Due) (ts : List Placed) → StandsDeeper n ds ts → StandsDeeper n (ds ++ es) ts
deeper_front n [] es ts deep = absurd deep
deeper_front n (d ∷ ds) es [] deep = deep
deeper_front n (d ∷ ds) es (t ∷ ts) deep = deeper_front n ds es ts deep

pub deeper_append : (n : ℕ) (ds es : List Due) (ts us : List Placed) → length ts ≡ length ds → StandsDeeper n es us → StandsDeeper n (ds ++ es) (ts ++ us)
deeper_append n [] es [] us same deep = deep
deeper_append n [] es (t ∷ ts) us same deep = absurd (omega arith)
deeper_append n (d ∷ ds) es [] us same deep = absurd (omega arith)
deeper_append n (d ∷ ds) es (t ∷ ts) us same deep = deeper_append n ds es ts us (omega arith) deep

-- A level.

pub length_opened : (ds : List Due) → length (open_level ds) ≡ length ds
length_opened [] = refl
length_opened (d ∷ ds) = omega (arith, length_opened ds)

pub stand_opened : (n : ℕ) (ds : List Due) (ts : List Placed) → StandWithin n ds ts → StandWithin (suc n) (open_level ds) ts
stand_opened n ds [] front = tt
stand_opened n [] (t ∷ ts) front = tt
stand_opened n (d ∷ ds) (t ∷ ts) front = (omega (arith, front.0), stand_opened n ds ts front.1)

pub deeper_opened : (n : ℕ) (ds : List Due) (ts : List Placed) → StandsDeeper n ds ts → StandsDeeper (suc n) (open_level ds) ts
deeper_opened n [] ts deep = absurd deep
deeper_opened n (d ∷ ds) [] deep = omega (arith, deep)
deeper_opened n (d ∷ ds) (t ∷ ts) deep = deeper_opened n ds ts deep

pub within_opened : (n : ℕ) (ds : List Due) → AreWithin (suc n) (open_level ds) → AreWithin n ds
within_opened n [] within = tt
within_opened n (d ∷ ds) within = (omega (arith, within.0), within_opened n ds within.1)

pub opened_within : (n : ℕ) (ds : List Due) → AreWithin n ds → AreWithin (suc n) (open_level ds)
opened_within n [] within = tt
opened_within n (d ∷ ds) within = (omega (arith, within.0), opened_within n ds within.1)

pub due_opened : (ds : List Due) (ts : List Placed) → AreDue ds ts → AreDue (open_level ds) ts
due_opened [] [] due = tt
due_opened [] (t ∷ ts) due = absurd due
due_opened (d ∷ ds) [] due = absurd due
due_opened (d ∷ ds) (t ∷ ts) due = (due.0, due_opened ds ts due.1)

pub opened_due : (ds : List Due) (ts : List Placed) → AreDue (open_level ds) ts → AreDue ds ts
opened_due [] [] due = tt
opened_due [] (t ∷ ts) due = absurd due
opened_due (d ∷ ds) [] due = absurd due
opened_due (d ∷ ds) (t ∷ ts) due = (due.0, opened_due ds ts due.1)

pub within_append : (n : ℕ) (ds es : List Due) → AreWithin n ds → AreWithin n es → AreWithin n (ds ++ es)
within_append n [] es front back = back
within_append n (d ∷ ds) es front back = (front.0, within_append n ds es front.1 back)

pub within_front : (n : ℕ) (ds es : List Due) → AreWithin n (ds ++ es) → AreWithin n ds
within_front n [] es within = tt
within_front n (d ∷ ds) es within = (within.0, within_front n ds es within.1)

pub within_back : (n : ℕ) (ds es : List Due) → AreWithin n (ds ++ es) → AreWithin n es
within_back n [] es within = within
within_back n (d ∷ ds) es within = within_back n ds es within.1

pub within_more : (n m : ℕ) → n ≤ m → (ds : List Due) → AreWithin n ds → AreWithin m ds
within_more n m le [] within = tt
within_more n m le (d ∷ ds) within = (omega (arith, within.0), within_more n m le ds within.1)

pub stand_all : (n : ℕ) (ds : List Due) (ts : List Placed) → length ts ≡ length ds → StandWithin n ds ts → AreWithin n ds
stand_all n [] ts same front = tt
stand_all n (d ∷ ds) [] same front = absurd (omega arith)
stand_all n (d ∷ ds) (t ∷ ts) same front = (front.0, stand_all n ds ts (omega arith) front.1)

-- what stands deeper doesn't stand within
pub never_both : (n : ℕ) (ds : List Due) (ts us : List Placed) (t : Placed) → StandsDeeper n ds ts → StandWithin n ds (ts ++ t ∷ us) → ⊥
never_both n [] ts us t deep within = deep
never_both n (d ∷ ds) [] us t deep within = omega (arith, deep, within.0)
never_both n (d ∷ ds) (u ∷ ts) us t deep within = never_both n ds ts us t deep within.1
