-- Productions that read soundly and completely, and that keep the levels.
use Rattle.std.proofs.Common.{◌≡◌, ℕ, suc, Bool, true, false, List, [], ◌∷◌, ◌++◌, refl, sym, ◌∙◌, ap, subst, arith, ◌⊎◌, inl, inr}
use Rattle.std.specs.Prelude.{Option, Some, None}
use Rattle.circus_text.specs.Token.{Lexeme, content_of}
use Rattle.circus_syntax.specs.declared.stopping.Stop.{Stop}
use Rattle.circus_syntax.specs.declared.stopping.StopCause.{StopCause}
use Rattle.circus_syntax.specs.declared.stopping.StopCause.TheVariants.{Unexpected, TooDeep}
use Rattle.circus_syntax.specs.Placed.{Placed, first, is_lexeme, is_name, is_number, is_text, Due, due, open_level, AreWithin, AreDue}
use Rattle.circus_syntax.specs.Reader.{Reader, place_in, stop_at, passes, token, stop_reading, nothing, both, map_read, choose_by, either, either_case, optional, repeat_while}
use Rattle.circus_syntax.specs.Reading.{expect_token, fixed_at, name, number, quoted_text, named_of, numeral_of, filled_name, filled_numeral, behind, comma_list}
use Rattle.circus_syntax.specs.Spelling.{each, with_commas, comma, if_written, spelling_name, spelling_number, IsEach, IsListed, IfWritten, IsName, IsNumeral}
use Rattle.circus_syntax.specs.Stopping.{StandAt}
use Rattle.circus_syntax.proofs.Opened.{StandsDeeper, within_opened, opened_due, within_front, within_back}
use Rattle.circus_syntax.proofs.Sound.{Sound, reader, place_first, AreDue-none, sound_nothing, sound_mapped, sound_both, sound_opened, sound_cased}
use Rattle.circus_syntax.proofs.Repeats.{Shrinks, sound_repeated, sound_either}
use Rattle.circus_syntax.proofs.Complete.{Complete, Any, Opens, Links, complete_both, complete_mapped, complete_repeated, complete_weaker, cased_is}
use Rattle.circus_syntax.proofs.Tokens.{Always, spelling_fixed, spelling_fixed_at, spelling_quoted, IsQuotedText, sound_quoted, complete_quoted, sound_fixed, sound_fixed_at, sound_name, sound_number, complete_fixed, complete_fixed_at, complete_name, complete_number, shrinks_behind, is_comma, comma_sign, opens_due}
use Rattle.circus_syntax.proofs.Widens.{calm_of}
use Rattle.circus_syntax.proofs.Levels.{OneToken, Deep, Reaches, Levels, LevelsAt, levels_at, levels_token, levels_nothing, levels_stopped, levels_both, levels_at_both, levels_mapped, levels_at_mapped, levels_opened, levels_too_deep, levels_cased, levels_either, levels_repeated}

-- p reads with at most n levels, q with more
pub record Lawful (n : ℕ) {A : Type 0} (p q : Reader → A × Reader) (spell : A → List Due) (Good : A → Type 0) (Stays : Option Placed → Type 0) : Type 0 where
  pub narrow : Sound p spell Good
  pub wide : Sound q spell Good
  pub complete : Complete p spell (λ a. Good a × AreWithin n (spell a)) Stays
  pub levels : Levels n p q spell

-- they do where the next token passes
pub record LawfulAt (test : Placed → Bool) (n : ℕ) {A : Type 0} (p q : Reader → A × Reader) (spell : A → List Due) (Good : A → Type 0) (Stays : Option Placed → Type 0) : Type 0 where
  pub narrow : Sound p spell Good
  pub wide : Sound q spell Good
  pub complete : Complete p spell (λ a. Good a × AreWithin n (spell a)) Stays
  pub levels : LevelsAt test n p q spell

pub lawful_at : {A : Type 0} (test : Placed → Bool) (n : ℕ) {p q : Reader → A × Reader} {spell : A → List Due} {Good : A → Type 0} {Stays : Option Placed → Type 0}
    → Lawful n p q spell Good Stays → LawfulAt test n p q spell Good Stays
lawful_at test n L = record { narrow = L.narrow; wide = L.wide; complete = L.complete; levels = levels_at test n L.levels }

pub complete_good : {A : Type 0} {p : Reader → A × Reader} {spell : A → List Due} {Good : A → Type 0} {Stays : Option Placed → Type 0} (Better : A → Type 0)
    → ((a : A) → Better a → Good a) → Complete p spell Good Stays → Complete p spell Better Stays
complete_good Better weaker C = record { reads = λ a ts rest e good d stays. C.reads a ts rest e (weaker a good) d stays }

pub lawful_weaker : {A : Type 0} (n : ℕ) {p q : Reader → A × Reader} {spell : A → List Due} {Good : A → Type 0} {Stays : Option Placed → Type 0} (Behind : Option Placed → Type 0)
    → ((o : Option Placed) → Behind o → Stays o) → Lawful n p q spell Good Stays → Lawful n p q spell Good Behind
lawful_weaker n Behind weaker L = record { narrow = L.narrow; wide = L.wide; complete = complete_weaker Behind weaker L.complete; levels = L.levels }

-- Tokens.

pub lawful_token : {A : Type 0} (n : ℕ) (test : Placed → Bool) (read : Placed → A) (fill : ℕ → A) {spell : A → List Due} {Good : A → Type 0} → OneToken spell
    → Sound (token test read fill) spell Good → Complete (token test read fill) spell Good Any → Lawful n (token test read fill) (token test read fill) spell Good Any
lawful_token n test read fill {spell} {Good} one S C = record {
  narrow = S;
  wide = S;
  complete = complete_good (λ a. Good a × AreWithin n (spell a)) (λ a g. g.0) C;
  levels = levels_token n test read fill one S;
}

pub lawful_fixed : (n : ℕ) (l : Lexeme) → Lawful n (expect_token l) (expect_token l) (spelling_fixed l) Always Any
unfolding expect_token
lawful_fixed n l = lawful_token n (is_lexeme l) (λ t. tt) (λ at. tt) (λ a. (_, refl, refl)) (sound_fixed l) (complete_fixed l)

pub lawful_fixed_at : (n : ℕ) (l : Lexeme) → Lawful n (fixed_at l) (fixed_at l) (spelling_fixed_at l) Always Any
unfolding fixed_at
lawful_fixed_at n l = lawful_token n (is_lexeme l) (λ t. t.start) (λ at. at) (λ a. (_, refl, refl)) (sound_fixed_at l) (complete_fixed_at l)

pub lawful_name : (n : ℕ) → Lawful n name name spelling_name IsName Any
unfolding name
lawful_name n = lawful_token n is_name named_of filled_name (λ a. (_, refl, refl)) sound_name complete_name

pub lawful_number : (n : ℕ) → Lawful n number number spelling_number IsNumeral Any
unfolding number
lawful_number n = lawful_token n is_number numeral_of filled_numeral (λ a. (_, refl, refl)) sound_number complete_number

pub lawful_quoted : (n : ℕ) → Lawful n quoted_text quoted_text spelling_quoted IsQuotedText Any
unfolding quoted_text
lawful_quoted n = lawful_token n is_text (λ t. (content_of t.bytes, t.start)) (λ at. ([], at)) (λ a. (_, refl, refl)) sound_quoted complete_quoted

-- One behind the other.

within_both : {A B : Type 0} (n : ℕ) {p : Reader → A × Reader} {q : Reader → B × Reader} {sa : A → List Due} {sb : B → List Due} {ga : A → Type 0} {gb : B → Type 0} {ka kb : Option Placed → Type 0}
    → Complete p sa (λ a. ga a × AreWithin n (sa a)) ka → Complete q sb (λ b. gb b × AreWithin n (sb b)) kb → Links sb gb kb ka
    → Complete (both p q) (λ x. sa x.0 ++ sb x.1) (λ x. (ga x.0 × gb x.1) × AreWithin n (sa x.0 ++ sb x.1)) kb
within_both n {sa = sa} {sb = sb} {ga = ga} {gb = gb} P Q link =
    complete_good (λ x. (ga x.0 × gb x.1) × AreWithin n (sa x.0 ++ sb x.1))
    (λ x g. ((g.0.0, within_front n (sa x.0) (sb x.1) g.1), (g.0.1, within_back n (sa x.0) (sb x.1) g.1)))
    (complete_both P Q (λ b ts rest g d stays. link b ts rest g.0 d stays))

pub lawful_both : {A B : Type 0} (n : ℕ) {p p' : Reader → A × Reader} {q q' : Reader → B × Reader} {sa : A → List Due} {sb : B → List Due} {ga : A → Type 0} {gb : B → Type 0} {ka kb : Option Placed → Type 0}
    → Lawful n p p' sa ga ka → Lawful n q q' sb gb kb → Links sb gb kb ka
    → Lawful n (both p q) (both p' q') (λ x. sa x.0 ++ sb x.1) (λ x. ga x.0 × gb x.1) kb
lawful_both n P Q link = record {
  narrow = sound_both P.narrow Q.narrow;
  wide = sound_both P.wide Q.wide;
  complete = within_both n P.complete Q.complete link;
  levels = levels_both n P.levels Q.levels;
}

-- where anything may stand behind the first
pub lawful_then : {A B : Type 0} (n : ℕ) {p p' : Reader → A × Reader} {q q' : Reader → B × Reader} {sa : A → List Due} {sb : B → List Due} {ga : A → Type 0} {gb : B → Type 0} {kb : Option Placed → Type 0}
    → Lawful n p p' sa ga Any → Lawful n q q' sb gb kb → Lawful n (both p q) (both p' q') (λ x. sa x.0 ++ sb x.1) (λ x. ga x.0 × gb x.1) kb
lawful_then n P Q = lawful_both n P Q (λ b ts rest g d stays. tt)

pub lawful_at_both : {A B : Type 0} (test : Placed → Bool) (n : ℕ) {p p' : Reader → A × Reader} {q q' : Reader → B × Reader} {sa : A → List Due} {sb : B → List Due} {ga : A → Type 0} {gb : B → Type 0} {ka kb : Option Placed → Type 0}
    → LawfulAt test n p p' sa ga ka → Lawful n q q' sb gb kb → Links sb gb kb ka
    → LawfulAt test n (both p q) (both p' q') (λ x. sa x.0 ++ sb x.1) (λ x. ga x.0 × gb x.1) kb
lawful_at_both test n P Q link = record {
  narrow = sound_both P.narrow Q.narrow;
  wide = sound_both P.wide Q.wide;
  complete = within_both n P.complete Q.complete link;
  levels = levels_at_both test n P.levels Q.levels;
}

-- Made into something else.

within_mapped : {A B : Type 0} (n : ℕ) {p : Reader → A × Reader} {sa : A → List Due} {ga : A → Type 0} {Stays : Option Placed → Type 0} (f : A → B) (sb : B → List Due) (gb : B → Type 0)
    → ((x : A) → sb (f x) ≡ sa x) → ((b : B) → gb b → (x : A) × (f x ≡ b) × ga x)
    → Complete p sa (λ a. ga a × AreWithin n (sa a)) Stays → Complete (map_read f p) sb (λ b. gb b × AreWithin n (sb b)) Stays
within_mapped {A} {B} n {sa = sa} f sb gb spelled back P =
    complete_mapped f sb (λ b. gb b × AreWithin n (sb b)) spelled
    (λ b g.
    let (x, is, fine) = back b g.0 in
    (x, is, (fine, subst (AreWithin n) (sym (ap sb is) ∙ spelled x) g.1)))
    P

pub lawful_mapped : {A B : Type 0} (n : ℕ) {p q : Reader → A × Reader} {sa : A → List Due} {ga : A → Type 0} {Stays : Option Placed → Type 0} (f : A → B) (sb : B → List Due) (gb : B → Type 0)
    → ((x : A) → sb (f x) ≡ sa x) → ((x : A) → ga x → gb (f x)) → ((b : B) → gb b → (x : A) × (f x ≡ b) × ga x)
    → Lawful n p q sa ga Stays → Lawful n (map_read f p) (map_read f q) sb gb Stays
lawful_mapped n f sb gb spelled kept back P = record {
  narrow = sound_mapped f sb gb spelled kept P.narrow;
  wide = sound_mapped f sb gb spelled kept P.wide;
  complete = within_mapped n f sb gb spelled back P.complete;
  levels = levels_mapped n f sb spelled P.levels;
}

pub lawful_at_mapped : {A B : Type 0} (test : Placed → Bool) (n : ℕ) {p q : Reader → A × Reader} {sa : A → List Due} {ga : A → Type 0} {Stays : Option Placed → Type 0} (f : A → B) (sb : B → List Due) (gb : B → Type 0)
    → ((x : A) → sb (f x) ≡ sa x) → ((x : A) → ga x → gb (f x)) → ((b : B) → gb b → (x : A) × (f x ≡ b) × ga x)
    → LawfulAt test n p q sa ga Stays → LawfulAt test n (map_read f p) (map_read f q) sb gb Stays
lawful_at_mapped test n f sb gb spelled kept back P = record {
  narrow = sound_mapped f sb gb spelled kept P.narrow;
  wide = sound_mapped f sb gb spelled kept P.wide;
  complete = within_mapped n f sb gb spelled back P.complete;
  levels = levels_at_mapped test n f sb spelled P.levels;
}

-- A level more.

pub lawful_opened : {A : Type 0} (n : ℕ) {p q : Reader → A × Reader} {spell : A → List Due} {Good : A → Type 0} {Stays : Option Placed → Type 0}
    → Lawful n p q spell Good Stays → Lawful (suc n) p q (λ a. open_level (spell a)) Good Stays
lawful_opened n {spell = spell} P = record {
  narrow = sound_opened P.narrow;
  wide = sound_opened P.wide;
  complete = record {
    reads = λ a ts rest e good d stays. P.complete.reads a ts rest e (good.0, within_opened n (spell a) good.1) (opened_due (spell a) ts d) stays;
  };
  levels = levels_opened n P.levels;
}

-- what stops fills in
pub sound_stopped : {A : Type 0} (cause : StopCause) (fill : ℕ → A) (spell : A → List Due) (Good : A → Type 0)
    → ((at : ℕ) → Good (fill at) × (more : List Placed) × StandAt at more × AreDue (spell (fill at)) more) → Sound (stop_reading cause fill) spell Good
sound_stopped cause fill spell Good filled = record {
  fills = λ s e. let (good, more, there, spelled) = filled s.place in record { tree = fill s.place; more = more; stays = λ ts. refl; good = good; due = spelled; there = there };
  runs = λ ts e.
      let (good, more, there, spelled) = filled (place_in ts e) in
      record {
        tree = fill (place_in ts e);
        taken = [];
        left = ts;
        stop = Some (stop_at cause (place_in ts e));
        more = more;
        whole = refl;
        same = λ rest f. let here = place_first rest ts e f in λ i. (fill (here i), reader (Some (stop_at cause (here i))) rest e);
        ended = (refl, there);
        good = λ a. good;
        due = λ a. spelled;
      };
}

pub without_level : (ds : List Due) → StandsDeeper 0 ds [] → AreWithin 0 ds → ⊥
without_level [] deep within = deep
without_level (d ∷ ds) deep within = omega (arith, deep, within.0)

-- no level is left
pub lawful_too_deep : {A : Type 0} (test : Placed → Bool) (fill : ℕ → A) {q : Reader → A × Reader} {spell : A → List Due} {Good : A → Type 0} {Stays : Option Placed → Type 0}
    → Sound (stop_reading TooDeep fill) spell Good → Sound q spell Good → Shrinks test q → Deep q spell → ((a : A) → Good a → StandsDeeper 0 (spell a) []) → LawfulAt test 0 (stop_reading TooDeep fill) q spell Good Stays
lawful_too_deep test fill {spell = spell} S S' shrinks answers deep = record {
  narrow = S;
  wide = S';
  complete = record { reads = λ a ts rest e good d stays. absurd (without_level (spell a) (deep a good.0) good.1) };
  levels = levels_too_deep test fill S (calm_of S') shrinks answers;
}

-- The next token decides.

-- one of the ways, for what is such a one
pub record Branch {K A : Type 0} (class : Option Placed → K) (k : K) (n : ℕ) (p q : Reader → A × Reader) (spell : A → List Due) (Good Is : A → Type 0) (Stays : Option Placed → Type 0) : Type 0 where
  pub narrow : Sound p spell Good
  pub wide : Sound q spell Good
  pub complete : Complete p spell (λ a. Is a × AreWithin n (spell a)) Stays
  pub reaches : (ts : List Placed) (e : ℕ) → class (first ts) ≡ k → Reaches n spell ts (p (reader None ts e)) (q (reader None ts e))

pub sound_good : {A : Type 0} {p : Reader → A × Reader} {spell : A → List Due} {Good : A → Type 0} (Weaker : A → Type 0) → ((a : A) → Good a → Weaker a) → Sound p spell Good → Sound p spell Weaker
sound_good Weaker weaker S = record {
  fills = λ s e. let F = S.fills s e in record { tree = F.tree; more = F.more; stays = F.stays; good = weaker F.tree F.good; due = F.due; there = F.there };
  runs = λ ts e.
      let R = S.runs ts e in
      record { tree = R.tree; taken = R.taken; left = R.left; stop = R.stop; more = R.more; whole = R.whole; same = R.same; ended = R.ended; good = λ a. weaker R.tree (R.good a); due = R.due };
}

pub branch_of : {K A : Type 0} (class : Option Placed → K) (k : K) (n : ℕ) {p q : Reader → A × Reader} {spell : A → List Due} {Is : A → Type 0} {Stays : Option Placed → Type 0} (Good : A → Type 0)
    → ((a : A) → Is a → Good a) → Lawful n p q spell Is Stays → Branch class k n p q spell Good Is Stays
branch_of class k n Good good L = record {
  narrow = sound_good Good good L.narrow;
  wide = sound_good Good good L.wide;
  complete = L.complete;
  reaches = λ ts e is. L.levels.reaches ts e;
}

-- a way that begins with a token that passes
pub branch_at : {K A : Type 0} (class : Option Placed → K) (k : K) (test : Placed → Bool) (n : ℕ) {p q : Reader → A × Reader} {spell : A → List Due} {Is : A → Type 0} {Stays : Option Placed → Type 0} (Good : A → Type 0)
    → ((a : A) → Is a → Good a) → ((ts : List Placed) → class (first ts) ≡ k → passes test (first ts) ≡ true) → LawfulAt test n p q spell Is Stays → Branch class k n p q spell Good Is Stays
branch_at class k test n Good good begins L = record {
  narrow = sound_good Good good L.narrow;
  wide = sound_good Good good L.wide;
  complete = L.complete;
  reaches = λ ts e is. L.levels.reaches ts e (begins ts is);
}

pub lawful_cased : {K A : Type 0} (class : Option Placed → K) (n : ℕ) (p q : K → Reader → A × Reader) {spell : A → List Due} {Good : A → Type 0} (Is : K → A → Type 0) {Stays : Option Placed → Type 0}
    → ((k : K) → Branch class k n (p k) (q k) spell Good (Is k) Stays)
    → ((s : Stop) (ts : List Placed) (e : ℕ) → q (class None) (reader (Some s) ts e) ≡ p (class None) (reader (Some s) ts e))
    → ((a : A) (ts rest : List Placed) → Good a → AreDue (spell a) ts → Stays (first rest) → (k : K) × (class (first (ts ++ rest)) ≡ k) × Is k a)
    → Lawful n (choose_by class p) (choose_by class q) spell Good Stays
lawful_cased class n p q {spell} {Good} Is branches filled begins = record {
  narrow = narrow;
  wide = wide;
  complete = record {
    reads = λ a ts rest e good d stays.
        let (k, is, such) = begins a ts rest good.0 d stays in
        cased_is class p k (ts ++ rest) e (a, reader None rest e) is ((branches k).complete.reads a ts rest e (such, good.1) d stays);
  };
  levels = levels_cased class n p q (calm_of narrow) (calm_of wide) filled (λ k. (branches k).reaches);
}
  where
    narrow : Sound (choose_by class p) spell Good
    narrow = sound_cased class p (λ k. (branches k).narrow)

    wide : Sound (choose_by class q) spell Good
    wide = sound_cased class q (λ k. (branches k).wide)

-- p, or what q fills in where the token that p begins with is missing
pub lawful_required : {A : Type 0} (test : Placed → Bool) (n : ℕ) (fill : ℕ → A) {p q : Reader → A × Reader} {spell : A → List Due} {Good : A → Type 0} {Stays : Option Placed → Type 0}
    → Opens spell Good test → Sound (stop_reading Unexpected fill) spell Good → LawfulAt test n p q spell Good Stays
    → Lawful n (either test p (stop_reading Unexpected fill)) (either test q (stop_reading Unexpected fill)) spell Good Stays
lawful_required test n fill {p} {q} {spell} opens S P = record {
  narrow = sound_either test P.narrow S;
  wide = sound_either test P.wide S;
  complete = record {
    reads = λ a ts rest e good d stays.
        cased_is (passes test) (either_case p (stop_reading Unexpected fill)) true (ts ++ rest) e (a, reader None rest e) (opens a ts rest good.0 d) (P.complete.reads a ts rest e good d stays);
  };
  levels = levels_either test n P.levels (levels_stopped n fill S) (calm_of (sound_either test P.narrow S)) (calm_of (sound_either test P.wide S));
}

-- p, or nothing
pub lawful_rest : {A : Type 0} (test : Placed → Bool) (n : ℕ) (none : A) {p q : Reader → A × Reader} {spell : A → List Due} {Is : A → Type 0} {Stays : Option Placed → Type 0} (Good : A → Type 0)
    → spell none ≡ [] → Good none → ((a : A) → Is a → Good a) → ((a : A) → Good a → (a ≡ none) ⊎ Is a) → Opens spell Is test → LawfulAt test n p q spell Is Stays
    → Lawful n (either test p (nothing none)) (either test q (nothing none)) spell Good (λ o. Stays o × (passes test o ≡ false))
lawful_rest {A} test n none {p} {q} {spell} {Is} {Stays} Good empty good_none good parts opens P = record {
  narrow = sound_either test (sound_good Good good P.narrow) nothing_sound;
  wide = sound_either test (sound_good Good good P.wide) nothing_sound;
  complete = record { reads = λ a ts rest e g d stays. reads a ts rest e g.1 d stays (parts a g.0) };
  levels =
      levels_either test n P.levels (levels_nothing n none empty nothing_sound)
      (calm_of (sound_either test (sound_good Good good P.narrow) nothing_sound)) (calm_of (sound_either test (sound_good Good good P.wide) nothing_sound));
}
  where
    nothing_sound : Sound (nothing none) spell Good
    nothing_sound = sound_nothing none spell Good good_none empty

    reads : (a : A) (ts rest : List Placed) (e : ℕ) → AreWithin n (spell a) → AreDue (spell a) ts → Stays (first rest) × (passes test (first rest) ≡ false) → (a ≡ none) ⊎ Is a
        → either test p (nothing none) (reader None (ts ++ rest) e) ≡ (a, reader None rest e)
    reads a ts rest e within d stays (inl is) =
        let gone : ts ≡ [] = AreDue-none ts (subst (λ ds. AreDue ds ts) (ap spell is ∙ empty) d) in
        subst (λ (us : List Placed). either test p (nothing none) (reader None (us ++ rest) e) ≡ (a, reader None rest e)) (sym gone)
        (cased_is (passes test) (either_case p (nothing none)) false rest e (a, reader None rest e) stays.1 (ap (λ b. (b, reader None rest e)) (sym is)))
    reads a ts rest e within d stays (inr such) =
        cased_is (passes test) (either_case p (nothing none)) true (ts ++ rest) e (a, reader None rest e) (opens a ts rest such d) (P.complete.reads a ts rest e (such, within) d stays.0)

pub lawful_optional : {A : Type 0} (test : Placed → Bool) (n : ℕ) {p q : Reader → A × Reader} {spell : A → List Due} {Good : A → Type 0} {Stays : Option Placed → Type 0}
    → Opens spell Good test → LawfulAt test n p q spell Good Stays
    → Lawful n (optional test p) (optional test q) (if_written spell) (IfWritten Good) (λ o. Stays o × (passes test o ≡ false))
lawful_optional {A} test n {p} {q} {spell} {Good} {Stays} opens P =
    lawful_rest test n None (IfWritten Good) refl tt (λ a is. weaker a is) parts (λ a ts rest is d. begins a ts rest is d)
    (lawful_at_mapped test n (λ x. Some x) (if_written spell) IsWritten (λ x. refl) (λ x g. g) back P)
  where
    IsWritten : Option A → Type 0
    IsWritten None = ⊥
    IsWritten (Some a) = Good a

    weaker : (a : Option A) → IsWritten a → IfWritten Good a
    weaker None is = tt
    weaker (Some a) is = is

    parts : (a : Option A) → IfWritten Good a → (a ≡ None) ⊎ IsWritten a
    parts None good = inl refl
    parts (Some a) good = inr good

    back : (a : Option A) → IsWritten a → (x : A) × (Some x ≡ a) × Good x
    back None is = absurd is
    back (Some a) is = (a, refl, is)

    begins : (a : Option A) (ts rest : List Placed) → IsWritten a → AreDue (if_written spell a) ts → passes test (first (ts ++ rest)) ≡ true
    begins None ts rest is d = absurd is
    begins (Some a) ts rest is d = opens a ts rest is d

-- Items in a row, and with commas between them.

each_within : {A : Type 0} (n : ℕ) (spell : A → List Due) (Good : A → Type 0) (xs : List A) → IsEach Good xs → AreWithin n (each spell xs) → IsEach (λ x. Good x × AreWithin n (spell x)) xs
each_within n spell Good [] good within = tt
each_within n spell Good (x ∷ xs) good within =
    ((good.0, within_front n (spell x) (each spell xs) within), each_within n spell Good xs good.1 (within_back n (spell x) (each spell xs) within))

pub lawful_repeated : {A : Type 0} (test : Placed → Bool) (n : ℕ) {item item' : Reader → A × Reader} {spell : A → List Due} {Good : A → Type 0} {Stays : Option Placed → Type 0}
    → Shrinks test item → Shrinks test item' → Opens spell Good test → ((o : Option Placed) → passes test o ≡ true → Stays o) → LawfulAt test n item item' spell Good Stays
    → Lawful n (repeat_while test item) (repeat_while test item') (each spell) (IsEach Good) (λ o. Stays o × (passes test o ≡ false))
lawful_repeated test n {spell = spell} {Good = Good} shrinks shrinks' opens follows P = record {
  narrow = sound_repeated test shrinks P.narrow;
  wide = sound_repeated test shrinks' P.wide;
  complete =
      complete_good (λ xs. IsEach Good xs × AreWithin n (each spell xs)) (λ xs g. each_within n spell Good xs g.0 g.1)
      (complete_repeated test shrinks P.complete (λ x ts rest g d. opens x ts rest g.0 d) follows);
  levels = levels_repeated test n shrinks shrinks' P.narrow P.wide P.levels;
}

pub lawful_behind : {A : Type 0} (n : ℕ) (l : Lexeme) {p q : Reader → A × Reader} {spell : A → List Due} {Good : A → Type 0} {Stays : Option Placed → Type 0}
    → Lawful n p q spell Good Stays → Lawful n (behind l p) (behind l q) (λ x. due l ∷ spell x) Good Stays
lawful_behind n l {spell = spell} {Good = Good} P =
    lawful_mapped n (λ x. x.1) (λ x. due l ∷ spell x) Good (λ x. refl) (λ x g. g.1) (λ b g. ((tt, b), refl, (tt, g))) (lawful_then n (lawful_fixed n l) P)

pub lawful_listed : {A : Type 0} (n : ℕ) {item item' : Reader → A × Reader} {spell : A → List Due} {Good : A → Type 0} {Stays : Option Placed → Type 0}
    → ((o : Option Placed) → passes is_comma o ≡ true → Stays o) → Lawful n item item' spell Good Stays
    → Lawful n (comma_list item) (comma_list item') (with_commas spell) (IsListed Good) (λ o. Stays o × (passes is_comma o ≡ false))
lawful_listed {A} n {spell = spell} {Good = Good} {Stays = Stays} follows P =
    lawful_mapped n (λ x. x.0 ∷ x.1) (with_commas spell) (IsListed Good) (λ x. refl) (λ x g. g) back
    (lawful_both n P
    (lawful_repeated is_comma n (shrinks_behind comma_sign P.narrow) (shrinks_behind comma_sign P.wide) opens follows (lawful_at is_comma n (lawful_behind n comma_sign P)))
    (λ xs ts rest good d stays. links xs ts rest d stays.0))
  where
    back : (xs : List A) → IsListed Good xs → (x : A × List A) × (x.0 ∷ x.1 ≡ xs) × (Good x.0 × IsEach Good x.1)
    back [] g = absurd g
    back (x ∷ xs) g = ((x, xs), refl, g)

    opens : Opens (λ x. comma ∷ spell x) Good is_comma
    opens a ts rest g d = opens_due comma_sign (spell a) ts rest d

    links : (xs : List A) (ts rest : List Placed) → AreDue (each (λ x. comma ∷ spell x) xs) ts → Stays (first rest) → Stays (first (ts ++ rest))
    links [] ts rest d stays = subst (λ (us : List Placed). Stays (first (us ++ rest))) (sym (AreDue-none ts d)) stays
    links (x ∷ xs) ts rest d stays = follows (first (ts ++ rest)) (opens_due comma_sign (spell x ++ each (λ x. comma ∷ spell x) xs) ts rest d)
