-- What is read stands no deeper than there are levels, and with more levels a production answers the same, but where a
-- token opened a level too many: there it reads on.
use Rattle.std.proofs.Common.{◌≡◌, ℕ, zero, suc, ◌<◌, ◌≤◌, Bool, true, false, List, [], ◌∷◌, ◌++◌, length, refl, sym, ◌∙◌, ap, subst, arith, append_assoc, length-append}
use Rattle.std.specs.Prelude.{Option, Some, None, option_map, if◌then◌else◌}
use Rattle.circus_syntax.specs.declared.stopping.Stop.{Stop}
use Rattle.circus_syntax.specs.declared.stopping.StopCause.{StopCause}
use Rattle.circus_syntax.specs.declared.stopping.StopCause.TheVariants.{Unexpected, TooDeep}
use Rattle.circus_syntax.specs.Placed.{Placed, first, Due, depth, open_level, StandWithin}
use Rattle.circus_syntax.specs.Reader.{Reader, place_in, stop_at, passes, token, stop_reading, nothing, both, map_read, choose_by, either, either_case, repeat_while, mark_stops, marked_in}
use Rattle.circus_syntax.specs.Reading.{expect_token, comma_list}
use Rattle.circus_syntax.specs.Spelling.{each, with_commas, comma}
use Rattle.circus_syntax.proofs.Opened.{StandsDeeper, stand_append, stand_front, deeper_front, deeper_append, length_opened, stand_opened, deeper_opened}
use Rattle.circus_syntax.proofs.Sound.{Sound, reader}
use Rattle.circus_syntax.proofs.Repeats.{Shrinks, repeated_sees, repeated_none, sound_repeated}
use Rattle.circus_syntax.proofs.Tokens.{spelling_fixed, sound_fixed, sound_behind, shrinks_behind, comma_sign, is_comma}
use Rattle.circus_syntax.proofs.Widens.{Further, Wider, WiderBy, Widens, Calm, calm_of, calm_both, calm_mapped}

-- What x read with n levels, and y of the same tokens with more.

abbrev pub DeeperBy : {A : Type 0} → ℕ → (A → List Due) → List Placed → StopCause → A × Reader → A × Reader → Type 0
DeeperBy n spell taken Unexpected x y = y ≡ x
DeeperBy n spell taken TooDeep x y = Further x y × StandsDeeper n (spell y.0) taken

abbrev pub Deeper : {A : Type 0} → ℕ → (A → List Due) → List Placed → Option Stop → A × Reader → A × Reader → Type 0
Deeper n spell taken None x y = y ≡ x
Deeper n spell taken (Some s) x y = DeeperBy n spell taken s.cause x y

pub record Reaches (n : ℕ) {A : Type 0} (spell : A → List Due) (ts : List Placed) (x y : A × Reader) : Type 0 where
  pub taken : List Placed
  pub whole : ts ≡ taken ++ x.1.rest
  pub fits : length taken ≤ length (spell x.0)
  pub full : x.1.stop ≡ None → length taken ≡ length (spell x.0)
  pub within : StandWithin n (spell x.0) taken
  pub further : Deeper n spell taken x.1.stop x y

pub record Levels (n : ℕ) {A : Type 0} (p q : Reader → A × Reader) (spell : A → List Due) : Type 0 where
  pub narrow : Calm p
  pub wide : Calm q
  pub filled : (s : Stop) (ts : List Placed) (e : ℕ) → q (reader (Some s) ts e) ≡ p (reader (Some s) ts e)
  pub reaches : (ts : List Placed) (e : ℕ) → Reaches n spell ts (p (reader None ts e)) (q (reader None ts e))

-- where the next token passes
pub record LevelsAt (test : Placed → Bool) (n : ℕ) {A : Type 0} (p q : Reader → A × Reader) (spell : A → List Due) : Type 0 where
  pub narrow : Calm p
  pub wide : Calm q
  pub reaches : (ts : List Placed) (e : ℕ) → passes test (first ts) ≡ true → Reaches n spell ts (p (reader None ts e)) (q (reader None ts e))

pub levels_at : {A : Type 0} (test : Placed → Bool) (n : ℕ) {p q : Reader → A × Reader} {spell : A → List Due} → Levels n p q spell → LevelsAt test n p q spell
levels_at test n L = record { narrow = L.narrow; wide = L.wide; reaches = λ ts e hit. L.reaches ts e }

pub reaches_along : {A : Type 0} (n : ℕ) (spell : A → List Due) (ts : List Placed) (x x' y y' : A × Reader) → x ≡ x' → y ≡ y' → Reaches n spell ts x' y' → Reaches n spell ts x y
reaches_along {A} n spell ts x x' y y' e f r =
    subst (λ (z : A × Reader). Reaches n spell ts z y) (sym e) (subst (λ (z : A × Reader). Reaches n spell ts x' z) (sym f) r)

-- a stop that nothing was taken for
pub reaches_stop : {A : Type 0} (n : ℕ) (spell : A → List Due) (ts : List Placed) (a : A) (s : Stop) (e : ℕ) → s.cause ≡ Unexpected → Reaches n spell ts (a, reader (Some s) ts e) (a, reader (Some s) ts e)
reaches_stop {A} n spell ts a s e flat = record {
  taken = [];
  whole = refl;
  fits = omega arith;
  full = λ none. cc;
  within = tt;
  further = subst (λ (c : StopCause). DeeperBy n spell [] c (a, reader (Some s) ts e) (a, reader (Some s) ts e)) (sym flat) refl;
}

-- Tokens.

-- one token, that opens no level
abbrev pub OneToken : {A : Type 0} → (A → List Due) → Type 0
OneToken {A} spell = (a : A) → (d : Due) × (spell a ≡ d ∷ []) × (depth d ≡ 0)

reaches_one : {A : Type 0} (n : ℕ) (spell : A → List Due) → OneToken spell → (t : Placed) (ts : List Placed) (e : ℕ) (a : A) → Reaches n spell (t ∷ ts) (a, reader None ts e) (a, reader None ts e)
reaches_one n spell one t ts e a =
    let (d, is, flat) = one a in
    record {
      taken = t ∷ [];
      whole = refl;
      fits = omega (arith, ap length is);
      full = λ none. omega (arith, ap length is);
      within = subst (λ ds. StandWithin n ds (t ∷ [])) (sym is) (omega (arith, flat), tt);
      further = refl;
    }

pub levels_token : {A : Type 0} (n : ℕ) (test : Placed → Bool) (read : Placed → A) (fill : ℕ → A) {spell : A → List Due} {Good : A → Type 0} → OneToken spell → Sound (token test read fill) spell Good
    → Levels n (token test read fill) (token test read fill) spell
levels_token {A} n test read fill {spell} one S = record { narrow = calm_of S; wide = calm_of S; filled = λ s ts e. refl; reaches = reaches }
  where
    tested : (b : Bool) (t : Placed) (ts : List Placed) (e : ℕ) → let x : A × Reader = if b then (read t, reader None ts e) else (fill t.start, reader (Some (stop_at Unexpected t.start)) (t ∷ ts) e) in Reaches n spell (t ∷ ts) x x
    tested true t ts e = reaches_one n spell one t ts e (read t)
    tested false t ts e = reaches_stop n spell (t ∷ ts) (fill t.start) (stop_at Unexpected t.start) e refl

    reaches : (ts : List Placed) (e : ℕ) → Reaches n spell ts (token test read fill (reader None ts e)) (token test read fill (reader None ts e))
    reaches [] e = reaches_stop n spell [] (fill e) (stop_at Unexpected e) e refl
    reaches (t ∷ ts) e = tested (test t) t ts e

pub levels_nothing : {A : Type 0} (n : ℕ) (a : A) {spell : A → List Due} {Good : A → Type 0} → spell a ≡ [] → Sound (nothing a) spell Good → Levels n (nothing a) (nothing a) spell
levels_nothing n a {spell} none S = record {
  narrow = calm_of S;
  wide = calm_of S;
  filled = λ s ts e. refl;
  reaches = λ ts e. record {
    taken = [];
    whole = refl;
    fits = omega arith;
    full = λ h. omega (arith, ap length none);
    within = tt;
    further = refl;
  };
}

pub levels_stopped : {A : Type 0} (n : ℕ) (fill : ℕ → A) {spell : A → List Due} {Good : A → Type 0} → Sound (stop_reading Unexpected fill) spell Good → Levels n (stop_reading Unexpected fill) (stop_reading Unexpected fill) spell
levels_stopped n fill {spell} S = record {
  narrow = calm_of S;
  wide = calm_of S;
  filled = λ s ts e. refl;
  reaches = λ ts e. reaches_stop n spell ts (fill (place_in ts e)) (stop_at Unexpected (place_in ts e)) e refl;
}

-- One behind the other.

deeper_along : {A : Type 0} (n : ℕ) (spell : A → List Due) (taken : List Placed) (stop : Option Stop) (x y y' : A × Reader) → y ≡ y' → Deeper n spell taken stop x y' → Deeper n spell taken stop x y
deeper_along {A} n spell taken stop x y y' same = subst (λ (z : A × Reader). Deeper n spell taken stop x z) (sym same)

deeper_behind : {A B : Type 0} (n : ℕ) (sa : A → List Due) (sb : B → List Due) (a : A) (front back : List Placed) (stop : Option Stop) (x y : B × Reader) → length front ≡ length (sa a)
    → Deeper n sb back stop x y → Deeper {A = A × B} n (λ z. sa z.0 ++ sb z.1) (front ++ back) stop ((a, x.0), x.1) ((a, y.0), y.1)
deeper_behind n sa sb a front back None x y same is = ap (λ z. ((a, z.0), z.1)) is
deeper_behind {A} {B} n sa sb a front back (Some s) x y same is = by_cause s.cause is
  where
    by_cause : (cause : StopCause) → DeeperBy n sb back cause x y → DeeperBy {A = A × B} n (λ z. sa z.0 ++ sb z.1) (front ++ back) cause ((a, x.0), x.1) ((a, y.0), y.1)
    by_cause Unexpected is = ap (λ z. ((a, z.0), z.1)) is
    by_cause TooDeep deep = (deep.0, deeper_append n (sa a) (sb y.0) front back same deep.1)

pub reaches_both : {A B : Type 0} (n : ℕ) (sa : A → List Due) (sb : B → List Due) {q q' : Reader → B × Reader} (ts : List Placed) (x x' : A × Reader)
    → Calm q → Calm q' → ((s : Stop) (us : List Placed) (e : ℕ) → q' (reader (Some s) us e) ≡ q (reader (Some s) us e))
    → Reaches n sa ts x x' → Reaches n sb x.1.rest (q (reader None x.1.rest x.1.end)) (q' (reader None x.1.rest x.1.end))
    → Reaches n {A = A × B} (λ z. sa z.0 ++ sb z.1) ts ((x.0, (q x.1).0), (q x.1).1) ((x'.0, (q' x'.1).0), (q' x'.1).1)
reaches_both {A} {B} n sa sb {q} {q'} ts x x' calm calm' filled P Q = by_stop x.1.stop P
  where
    by_cause : (s : Stop) (cause : StopCause) (taken : List Placed) (b : B) → s.cause ≡ cause → q (reader (Some s) x.1.rest x.1.end) ≡ (b, reader (Some s) x.1.rest x.1.end)
        → DeeperBy n sa taken cause (x.0, reader (Some s) x.1.rest x.1.end) x'
        → DeeperBy {A = A × B} n (λ z. sa z.0 ++ sb z.1) taken cause ((x.0, b), reader (Some s) x.1.rest x.1.end) ((x'.0, (q' x'.1).0), (q' x'.1).1)
    by_cause s Unexpected taken b cause_is stays same =
        ap (λ (z : A × Reader). ((z.0, (q' z.1).0), (q' z.1).1)) same ∙ ap (λ (z : B × Reader). ((x.0, z.0), z.1)) (filled s x.1.rest x.1.end ∙ stays)
    by_cause s TooDeep taken b cause_is stays deep =
        let (t, c, takes) = deep.0 in
        let (d, left) = calm'.leaves x'.1 in (
          (t, c ++ d, takes ∙ ap (λ l. t ∷ (c ++ l)) left ∙ ap (λ l. t ∷ l) (sym (append_assoc c d (q' x'.1).1.rest))),
          deeper_front n (sa x'.0) (sb (q' x'.1).0) taken deep.1,
        )

    by_stop : (stop : Option Stop) → Reaches n sa ts (x.0, reader stop x.1.rest x.1.end) x'
        → Reaches n {A = A × B} (λ z. sa z.0 ++ sb z.1) ts ((x.0, (q (reader stop x.1.rest x.1.end)).0), (q (reader stop x.1.rest x.1.end)).1) ((x'.0, (q' x'.1).0), (q' x'.1).1)
    by_stop None R =
        let r : Reader = reader None x.1.rest x.1.end in
        let all = R.full refl in
        record {
          taken = R.taken ++ Q.taken;
          whole = R.whole ∙ ap (λ l. R.taken ++ l) Q.whole ∙ sym (append_assoc R.taken Q.taken (q r).1.rest);
          fits = omega (arith, all, Q.fits, length-append R.taken Q.taken, length-append (sa x.0) (sb (q r).0));
          full = λ none. omega (arith, all, Q.full none, length-append R.taken Q.taken, length-append (sa x.0) (sb (q r).0));
          within = stand_append n (sa x.0) (sb (q r).0) R.taken Q.taken all R.within Q.within;
          further =
              deeper_along {A = A × B} n (λ z. sa z.0 ++ sb z.1) (R.taken ++ Q.taken) (q r).1.stop ((x.0, (q r).0), (q r).1) ((x'.0, (q' x'.1).0), (q' x'.1).1) ((x.0, (q' r).0), (q' r).1)
              (ap (λ (z : A × Reader). ((z.0, (q' z.1).0), (q' z.1).1)) R.further)
              (deeper_behind n sa sb x.0 R.taken Q.taken (q r).1.stop (q r) (q' r) all Q.further);
        }
    by_stop (Some s) R =
        let r : Reader = reader (Some s) x.1.rest x.1.end in
        let b : B = calm.fill s x.1.end in
        let stays = calm.stays s x.1.end x.1.rest in
        reaches_along {A = A × B} n (λ z. sa z.0 ++ sb z.1) ts ((x.0, (q r).0), (q r).1) ((x.0, b), r) ((x'.0, (q' x'.1).0), (q' x'.1).1) ((x'.0, (q' x'.1).0), (q' x'.1).1)
        (ap (λ (z : B × Reader). ((x.0, z.0), z.1)) stays) refl
        (record {
          taken = R.taken;
          whole = R.whole;
          fits = omega (arith, R.fits, length-append (sa x.0) (sb b));
          full = λ none. cc;
          within = stand_front n (sa x.0) (sb b) R.taken R.fits R.within;
          further = by_cause s s.cause R.taken b refl stays R.further;
        })

pub levels_both : {A B : Type 0} (n : ℕ) {p p' : Reader → A × Reader} {q q' : Reader → B × Reader} {sa : A → List Due} {sb : B → List Due}
    → Levels n p p' sa → Levels n q q' sb → Levels n (both p q) (both p' q') (λ z. sa z.0 ++ sb z.1)
levels_both n {p} {p'} {q} {q'} {sa} {sb} P Q = record {
  narrow = calm_both P.narrow Q.narrow;
  wide = calm_both P.wide Q.wide;
  filled = λ s ts e.
      ap (λ z. ((z.0, (q' z.1).0), (q' z.1).1)) (P.filled s ts e ∙ P.narrow.stays s e ts)
      ∙ ap (λ z. ((P.narrow.fill s e, z.0), z.1)) (Q.filled s ts e)
      ∙ sym (ap (λ z. ((z.0, (q z.1).0), (q z.1).1)) (P.narrow.stays s e ts));
  reaches = λ ts e.
      let x = p (reader None ts e) in
      reaches_both n sa sb ts x (p' (reader None ts e)) Q.narrow Q.wide Q.filled (P.reaches ts e) (Q.reaches x.1.rest x.1.end);
}

-- where the first one opens a level
pub levels_at_both : {A B : Type 0} (test : Placed → Bool) (n : ℕ) {p p' : Reader → A × Reader} {q q' : Reader → B × Reader} {sa : A → List Due} {sb : B → List Due}
    → LevelsAt test n p p' sa → Levels n q q' sb → LevelsAt test n (both p q) (both p' q') (λ z. sa z.0 ++ sb z.1)
levels_at_both test n {p} {p'} {q} {q'} {sa} {sb} P Q = record {
  narrow = calm_both P.narrow Q.narrow;
  wide = calm_both P.wide Q.wide;
  reaches = λ ts e hit.
      let x = p (reader None ts e) in
      reaches_both n sa sb ts x (p' (reader None ts e)) Q.narrow Q.wide Q.filled (P.reaches ts e hit) (Q.reaches x.1.rest x.1.end);
}

-- Made into something else.

deeper_mapped : {A B : Type 0} (n : ℕ) (f : A → B) (sa : A → List Due) (sb : B → List Due) → ((a : A) → sb (f a) ≡ sa a) → (taken : List Placed) (stop : Option Stop) (x y : A × Reader)
    → Deeper n sa taken stop x y → Deeper n sb taken stop (f x.0, x.1) (f y.0, y.1)
deeper_mapped n f sa sb spelled taken None x y is = ap (λ z. (f z.0, z.1)) is
deeper_mapped {A} {B} n f sa sb spelled taken (Some s) x y is = by_cause s.cause is
  where
    by_cause : (cause : StopCause) → DeeperBy n sa taken cause x y → DeeperBy {A = B} n sb taken cause (f x.0, x.1) (f y.0, y.1)
    by_cause Unexpected is = ap (λ z. (f z.0, z.1)) is
    by_cause TooDeep deep = (deep.0, subst (λ ds. StandsDeeper n ds taken) (sym (spelled y.0)) deep.1)

pub reaches_mapped : {A B : Type 0} (n : ℕ) (f : A → B) (sa : A → List Due) (sb : B → List Due) → ((a : A) → sb (f a) ≡ sa a) → (ts : List Placed) (x y : A × Reader)
    → Reaches n sa ts x y → Reaches n sb ts (f x.0, x.1) (f y.0, y.1)
reaches_mapped n f sa sb spelled ts x y R =
    let long = ap length (spelled x.0) in
    record {
      taken = R.taken;
      whole = R.whole;
      fits = omega (arith, R.fits, long);
      full = λ none. omega (arith, R.full none, long);
      within = subst (λ ds. StandWithin n ds R.taken) (sym (spelled x.0)) R.within;
      further = deeper_mapped n f sa sb spelled R.taken x.1.stop x y R.further;
    }

pub levels_mapped : {A B : Type 0} (n : ℕ) (f : A → B) {p q : Reader → A × Reader} {sa : A → List Due} (sb : B → List Due) → ((a : A) → sb (f a) ≡ sa a) → Levels n p q sa → Levels n (map_read f p) (map_read f q) sb
levels_mapped n f {p} {q} {sa} sb spelled P = record {
  narrow = calm_mapped f P.narrow;
  wide = calm_mapped f P.wide;
  filled = λ s ts e. ap (λ z. (f z.0, z.1)) (P.filled s ts e);
  reaches = λ ts e. reaches_mapped n f sa sb spelled ts (p (reader None ts e)) (q (reader None ts e)) (P.reaches ts e);
}

pub levels_at_mapped : {A B : Type 0} (test : Placed → Bool) (n : ℕ) (f : A → B) {p q : Reader → A × Reader} {sa : A → List Due} (sb : B → List Due) → ((a : A) → sb (f a) ≡ sa a)
    → LevelsAt test n p q sa → LevelsAt test n (map_read f p) (map_read f q) sb
levels_at_mapped test n f {p} {q} {sa} sb spelled P = record {
  narrow = calm_mapped f P.narrow;
  wide = calm_mapped f P.wide;
  reaches = λ ts e hit. reaches_mapped n f sa sb spelled ts (p (reader None ts e)) (q (reader None ts e)) (P.reaches ts e hit);
}

-- A level more.

deeper_level : {A : Type 0} (n : ℕ) (spell : A → List Due) (taken : List Placed) (stop : Option Stop) (x y : A × Reader) → Deeper n spell taken stop x y → Deeper (suc n) (λ a. open_level (spell a)) taken stop x y
deeper_level n spell taken None x y is = is
deeper_level {A} n spell taken (Some s) x y is = by_cause s.cause is
  where
    by_cause : (cause : StopCause) → DeeperBy n spell taken cause x y → DeeperBy (suc n) (λ a. open_level (spell a)) taken cause x y
    by_cause Unexpected is = is
    by_cause TooDeep deep = (deep.0, deeper_opened n (spell y.0) taken deep.1)

pub levels_opened : {A : Type 0} (n : ℕ) {p q : Reader → A × Reader} {spell : A → List Due} → Levels n p q spell → Levels (suc n) p q (λ a. open_level (spell a))
levels_opened n {p} {q} {spell} P = record {
  narrow = P.narrow;
  wide = P.wide;
  filled = P.filled;
  reaches = λ ts e.
      let R = P.reaches ts e in
      let x = p (reader None ts e) in
      let long = length_opened (spell x.0) in
      record {
        taken = R.taken;
        whole = R.whole;
        fits = omega (arith, R.fits, long);
        full = λ none. omega (arith, R.full none, long);
        within = stand_opened n (spell x.0) R.taken R.within;
        further = deeper_level n spell R.taken x.1.stop x (q (reader None ts e)) R.further;
      };
}

-- what takes the token that opened a level too many
pub further_of : {A : Type 0} (test : Placed → Bool) {q : Reader → A × Reader} (fill : ℕ → A) → Shrinks test q → Calm q → (ts : List Placed) (e : ℕ) → passes test (first ts) ≡ true
    → Further (stop_reading TooDeep fill (reader None ts e)) (q (reader None ts e))
further_of test {q} fill shrinks calm ts e hit =
    let (c, leaves) = calm.leaves (reader None ts e) in
    taken c leaves (shrinks (reader None ts e) hit)
  where
    taken : (c : List Placed) → ts ≡ c ++ (q (reader None ts e)).1.rest → length (q (reader None ts e)).1.rest < length ts
        → (t : Placed) × (d : List Placed) × (ts ≡ t ∷ (d ++ (q (reader None ts e)).1.rest))
    taken [] leaves less = let same = ap length leaves in absurd (omega arith)
    taken (t ∷ d) leaves less = (t, d, leaves)

-- what is answered begins with a level
abbrev pub Deep : {A : Type 0} → (Reader → A × Reader) → (A → List Due) → Type 0
Deep q spell = (r : Reader) → StandsDeeper 0 (spell (q r).0) []

-- no level is left
pub levels_too_deep : {A : Type 0} (test : Placed → Bool) (fill : ℕ → A) {q : Reader → A × Reader} {spell : A → List Due} {Good : A → Type 0}
    → Sound (stop_reading TooDeep fill) spell Good → Calm q → Shrinks test q → Deep q spell → LevelsAt test 0 (stop_reading TooDeep fill) q spell
levels_too_deep test fill {q} {spell} S calm shrinks deep = record {
  narrow = calm_of S;
  wide = calm;
  reaches = λ ts e hit. record {
    taken = [];
    whole = refl;
    fits = omega arith;
    full = λ none. cc;
    within = tt;
    further = (further_of test fill shrinks calm ts e hit, deep (reader None ts e));
  };
}

-- The next token decides.

pub levels_cased : {K A : Type 0} (class : Option Placed → K) (n : ℕ) (p q : K → Reader → A × Reader) {spell : A → List Due} → Calm (choose_by class p) → Calm (choose_by class q)
    → ((s : Stop) (ts : List Placed) (e : ℕ) → q (class None) (reader (Some s) ts e) ≡ p (class None) (reader (Some s) ts e))
    → ((k : K) (ts : List Placed) (e : ℕ) → class (first ts) ≡ k → Reaches n spell ts (p k (reader None ts e)) (q k (reader None ts e)))
    → Levels n (choose_by class p) (choose_by class q) spell
levels_cased class n p q narrow wide filled each_reaches = record {
  narrow = narrow;
  wide = wide;
  filled = filled;
  reaches = λ ts e. each_reaches (class (first ts)) ts e refl;
}

pub levels_either : {A : Type 0} (test : Placed → Bool) (n : ℕ) {p p' q q' : Reader → A × Reader} {spell : A → List Due} → LevelsAt test n p p' spell → Levels n q q' spell
    → Calm (either test p q) → Calm (either test p' q') → Levels n (either test p q) (either test p' q') spell
levels_either test n {p} {p'} {q} {q'} {spell} P Q narrow wide = levels_cased (passes test) n (either_case p q) (either_case p' q') narrow wide Q.filled by_case
  where
    by_case : (b : Bool) (ts : List Placed) (e : ℕ) → passes test (first ts) ≡ b → Reaches n spell ts (either_case p q b (reader None ts e)) (either_case p' q' b (reader None ts e))
    by_case true ts e is = P.reaches ts e is
    by_case false ts e is = Q.reaches ts e

-- Marks of a stop.

deeper_marked : {A : Type 0} (n : ℕ) (spell : A → List Due) (mark : ℕ → Stop → Stop) → ((at : ℕ) (s : Stop) → (mark at s).cause ≡ s.cause) → (at : ℕ) (taken : List Placed) (stop : Option Stop) (x y : A × Reader)
    → Deeper n spell taken stop x y → Deeper n spell taken (option_map (mark at) stop) (marked_in mark None at x) (marked_in mark None at y)
deeper_marked n spell mark keeps at taken None x y is = ap (marked_in mark None at) is
deeper_marked {A} n spell mark keeps at taken (Some s) x y deep =
    subst (λ (c : StopCause). DeeperBy n spell taken c (marked_in mark None at x) (marked_in mark None at y)) (sym (keeps at s)) (by_cause s.cause deep)
  where
    by_cause : (cause : StopCause) → DeeperBy n spell taken cause x y → DeeperBy n spell taken cause (marked_in mark None at x) (marked_in mark None at y)
    by_cause Unexpected is = ap (marked_in mark None at) is
    by_cause TooDeep deep = deep

still_none : (mark : ℕ → Stop → Stop) (at : ℕ) (stop : Option Stop) → option_map (mark at) stop ≡ None → stop ≡ None
still_none mark at None none = refl
still_none mark at (Some s) none = cc

pub levels_marked : {A : Type 0} (n : ℕ) (mark : ℕ → Stop → Stop) {p q : Reader → A × Reader} {spell : A → List Due} → ((at : ℕ) (s : Stop) → (mark at s).cause ≡ s.cause)
    → Calm (mark_stops mark p) → Calm (mark_stops mark q) → Levels n p q spell → Levels n (mark_stops mark p) (mark_stops mark q) spell
levels_marked n mark {p} {q} {spell} keeps narrow wide L = record {
  narrow = narrow;
  wide = wide;
  filled = L.filled;
  reaches = λ ts e.
      let R = L.reaches ts e in
      let x = p (reader None ts e) in
      record {
        taken = R.taken;
        whole = R.whole;
        fits = R.fits;
        full = λ none. R.full (still_none mark (place_in ts e) x.1.stop none);
        within = R.within;
        further = deeper_marked n spell mark keeps (place_in ts e) R.taken x.1.stop x (q (reader None ts e)) R.further;
      };
}

-- Items in a row.

reaches_none : {A : Type 0} (n : ℕ) (spell : A → List Due) (ts : List Placed) (e : ℕ) → Reaches n (each spell) ts ([], reader None ts e) ([], reader None ts e)
reaches_none n spell ts e = record { taken = []; whole = refl; fits = omega arith; full = λ none. refl; within = tt; further = refl }

repeated_step : {A : Type 0} (test : Placed → Bool) (n : ℕ) {item item' : Reader → A × Reader} {spell : A → List Due} {Good Better : A → Type 0}
    → Shrinks test item → Shrinks test item' → Sound item spell Good → Sound item' spell Better → LevelsAt test n item item' spell
    → (ts : List Placed) (e : ℕ)
    → ((us : List Placed) (end : ℕ) → length us < length ts → Reaches n (each spell) us (repeat_while test item (reader None us end)) (repeat_while test item' (reader None us end)))
    → (b : Bool) → passes test (first ts) ≡ b → Reaches n (each spell) ts (repeat_while test item (reader None ts e)) (repeat_while test item' (reader None ts e))
repeated_step test n {item} {item'} {spell} shrinks shrinks' S S' L ts e less false missed =
    reaches_along n (each spell) ts (repeat_while test item (reader None ts e)) ([], reader None ts e) (repeat_while test item' (reader None ts e)) ([], reader None ts e)
    (repeated_none test item (reader None ts e) missed) (repeated_none test item' (reader None ts e) missed) (reaches_none n spell ts e)
repeated_step test n {item} {item'} {spell} shrinks shrinks' S S' L ts e less true hit =
    let r : Reader = reader None ts e in
    let x = item r in
    let all = reaches_both n spell (each spell) ts x (item' r) (calm_of (sound_repeated test shrinks S)) (calm_of (sound_repeated test shrinks' S'))
    (λ s us end. repeated_none test item' (reader (Some s) us end) refl ∙ sym (repeated_none test item (reader (Some s) us end) refl))
    (L.reaches ts e hit) (less x.1.rest x.1.end (shrinks r hit)) in
    reaches_along n (each spell) ts (repeat_while test item r) (map_read (λ z. z.0 ∷ z.1) (both item (repeat_while test item)) r) (repeat_while test item' r) (map_read (λ z. z.0 ∷ z.1) (both item' (repeat_while test item')) r)
    (repeated_sees test item shrinks r hit) (repeated_sees test item' shrinks' r hit)
    (reaches_mapped n (λ z. z.0 ∷ z.1) (λ z. spell z.0 ++ each spell z.1) (each spell) (λ z. refl) ts (both item (repeat_while test item) r) (both item' (repeat_while test item') r) all)

reaches_repeated : {A : Type 0} (test : Placed → Bool) (n : ℕ) {item item' : Reader → A × Reader} {spell : A → List Due} {Good Better : A → Type 0}
    → Shrinks test item → Shrinks test item' → Sound item spell Good → Sound item' spell Better → LevelsAt test n item item' spell
    → (m : ℕ) (ts : List Placed) (e : ℕ) → length ts ≤ m → Reaches n (each spell) ts (repeat_while test item (reader None ts e)) (repeat_while test item' (reader None ts e))
reaches_repeated test n shrinks shrinks' S S' L zero ts e h =
    repeated_step test n shrinks shrinks' S S' L ts e (λ us end less. absurd (omega arith)) (passes test (first ts)) refl
reaches_repeated test n shrinks shrinks' S S' L (suc m) ts e h =
    repeated_step test n shrinks shrinks' S S' L ts e (λ us end less. reaches_repeated test n shrinks shrinks' S S' L m us end (omega arith)) (passes test (first ts)) refl

pub levels_repeated : {A : Type 0} (test : Placed → Bool) (n : ℕ) {item item' : Reader → A × Reader} {spell : A → List Due} {Good Better : A → Type 0}
    → Shrinks test item → Shrinks test item' → Sound item spell Good → Sound item' spell Better → LevelsAt test n item item' spell
    → Levels n (repeat_while test item) (repeat_while test item') (each spell)
levels_repeated test n {item} {item'} shrinks shrinks' S S' L = record {
  narrow = calm_of (sound_repeated test shrinks S);
  wide = calm_of (sound_repeated test shrinks' S');
  filled = λ s ts e. repeated_none test item' (reader (Some s) ts e) refl ∙ sym (repeated_none test item (reader (Some s) ts e) refl);
  reaches = λ ts e. reaches_repeated test n shrinks shrinks' S S' L (length ts) ts e (omega arith);
}

-- Items with commas between them.

levels_comma : (n : ℕ) → Levels n (expect_token comma_sign) (expect_token comma_sign) (spelling_fixed comma_sign)
unfolding expect_token
levels_comma n = levels_token n is_comma (λ t. tt) (λ at. tt) (λ a. (_, refl, refl)) (sound_fixed comma_sign)

pub levels_listed : {A : Type 0} (n : ℕ) {item item' : Reader → A × Reader} {spell : A → List Due} {Good Better : A → Type 0} → Sound item spell Good → Sound item' spell Better → Levels n item item' spell
    → Levels n (comma_list item) (comma_list item') (with_commas spell)
levels_listed n {spell = spell} S S' L =
    levels_mapped n (λ x. x.0 ∷ x.1) (with_commas spell) (λ x. refl)
    (levels_both n L
    (levels_repeated is_comma n (shrinks_behind comma_sign S) (shrinks_behind comma_sign S') (sound_behind comma_sign S) (sound_behind comma_sign S')
    (levels_at is_comma n (levels_mapped n (λ x. x.1) (λ x. comma ∷ spell x) (λ x. refl) (levels_both n (levels_comma n) L)))))

-- With more levels the answer is the same, or reading goes on.

wider_of : {A : Type 0} (n : ℕ) (spell : A → List Due) (taken : List Placed) (stop : Option Stop) (x y : A × Reader) → Deeper n spell taken stop x y → Wider stop x y
wider_of n spell taken None x y same = same
wider_of n spell taken (Some s) x y deep = by_cause s.cause deep
  where
    by_cause : (cause : StopCause) → DeeperBy n spell taken cause x y → WiderBy cause x y
    by_cause Unexpected same = same
    by_cause TooDeep deep = deep.0

pub widens_of_levels : {A : Type 0} (n : ℕ) {p q : Reader → A × Reader} {spell : A → List Due} → Levels n p q spell → Widens p q
widens_of_levels n {p} {q} {spell} L = record {
  filled = L.filled;
  wider = λ ts e. let R = L.reaches ts e in wider_of n spell R.taken (p (reader None ts e)).1.stop (p (reader None ts e)) (q (reader None ts e)) R.further;
}
