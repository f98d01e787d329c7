-- More laws of productions: what is made of what is read, in one way or another.
use Rattle.std.proofs.Common.{◌≡◌, ℕ, Bool, true, List, [], ◌∷◌, ◌++◌, length, refl, sym, ◌∙◌, ap, subst, arith}
use Rattle.std.specs.Prelude.{Option, Some, None}
use Rattle.circus_text.specs.declared.token.TokenKind.TheVariants.{Number, Quoted}
use Rattle.circus_text.specs.Token.{Lexeme}
use Rattle.circus_syntax.specs.declared.named.Numeral.{Numeral}
use Rattle.circus_syntax.specs.declared.stopping.Stop.{Stop}
use Rattle.circus_syntax.specs.declared.stopping.StopCause.{StopCause}
use Rattle.circus_syntax.specs.declared.stopping.StopCause.TheVariants.{Unexpected, TooDeep}
use Rattle.circus_syntax.specs.Placed.{Placed, first, is_lexeme, Due, due, due_number, due_text, AreWithin, AreDue, StandWithin}
use Rattle.circus_syntax.specs.Reader.{Reader, passes, stop_reading, nothing, map_read}
use Rattle.circus_syntax.proofs.Opened.{StandsDeeper}
use Rattle.circus_syntax.proofs.Sound.{Sound, reader, ran_is, AreDue-none, sound_nothing}
use Rattle.circus_syntax.proofs.Repeats.{Shrinks}
use Rattle.circus_syntax.proofs.Complete.{Any}
use Rattle.circus_syntax.proofs.Tokens.{lexeme_is}
use Rattle.circus_syntax.proofs.Widens.{calm_of, calm_mapped}
use Rattle.circus_syntax.proofs.Levels.{Deep, Levels, Deeper, DeeperBy, levels_nothing, levels_too_deep}
use Rattle.circus_syntax.proofs.Lawful.{Lawful, Branch, lawful_mapped, without_level}

-- What the first token decides, where it is due.

pub due_is : {K : Type 0} (class : Option Placed → K) (k : K) (l : Lexeme) (ds : List Due) (ts rest : List Placed)
    → ((s : ℕ) → class (Some (record { kind = l.kind; bytes = l.bytes; start = s })) ≡ k) → AreDue (due l ∷ ds) ts → class (first (ts ++ rest)) ≡ k
due_is class k l ds [] rest starts d = absurd d
due_is class k l ds (t ∷ ts) rest starts d = (λ i. class (Some (record { kind = d.0.0 i; bytes = d.0.1 i; start = t.start }))) ∙ starts t.start

pub number_is : {K : Type 0} (class : Option Placed → K) (k : K) (n : Numeral) (ds : List Due) (ts rest : List Placed)
    → ((w : List ℕ) (s : ℕ) → class (Some (record { kind = Number; bytes = w; start = s })) ≡ k) → AreDue (due_number n ∷ ds) ts → class (first (ts ++ rest)) ≡ k
number_is class k n ds [] rest starts d = absurd d
number_is class k n ds (t ∷ ts) rest starts d = (λ i. class (Some (record { kind = d.0.0 i; bytes = t.bytes; start = t.start }))) ∙ starts t.bytes t.start

pub text_is : {K : Type 0} (class : Option Placed → K) (k : K) (content : List ℕ) (at : ℕ) (ds : List Due) (ts rest : List Placed)
    → ((w : List ℕ) (s : ℕ) → class (Some (record { kind = Quoted; bytes = w; start = s })) ≡ k) → AreDue (due_text content at ∷ ds) ts → class (first (ts ++ rest)) ≡ k
text_is class k content at ds [] rest starts d = absurd d
text_is class k content at ds (t ∷ ts) rest starts d = (λ i. class (Some (record { kind = d.0.0 i; bytes = t.bytes; start = t.start }))) ∙ starts t.bytes t.start

-- where it is seen
pub seen_is : {K : Type 0} (class : Option Placed → K) (k : K) (l : Lexeme) → ((s : ℕ) → class (Some (record { kind = l.kind; bytes = l.bytes; start = s })) ≡ k)
    → (o : Option Placed) → passes (is_lexeme l) o ≡ true → class o ≡ k
seen_is class k l starts None hit = cc
seen_is class k l starts (Some t) hit =
    let (kind, bytes) = lexeme_is l t hit in
    (λ i. class (Some (record { kind = kind i; bytes = bytes i; start = t.start }))) ∙ starts t.start

-- What a function makes of such a one.

abbrev pub Image : {A B : Type 0} → (A → B) → (A → Type 0) → B → Type 0
Image {A} f Good b = (x : A) × (f x ≡ b) × Good x

pub lawful_image : {A B : Type 0} (n : ℕ) {p q : Reader → A × Reader} {sa : A → List Due} {ga : A → Type 0} {Stays : Option Placed → Type 0} (f : A → B) (sb : B → List Due)
    → ((x : A) → sb (f x) ≡ sa x) → Lawful n p q sa ga Stays → Lawful n (map_read f p) (map_read f q) sb (Image f ga) Stays
lawful_image n {ga = ga} f sb spelled P = lawful_mapped n f sb (Image f ga) spelled (λ x g. (x, refl, g)) (λ b g. g) P

pub lawful_nothing : {A : Type 0} (n : ℕ) (none : A) (spell : A → List Due) (Is : A → Type 0) → spell none ≡ [] → Is none → ((a : A) → Is a → a ≡ none)
    → Lawful n (nothing none) (nothing none) spell Is Any
lawful_nothing n none spell Is empty is only = record {
  narrow = S;
  wide = S;
  complete = record {
    reads = λ a ts rest e good d stays.
        let same = only a good.0 in
        let gone = AreDue-none ts (subst (λ ds. AreDue ds ts) (ap spell same ∙ empty) d) in
        λ i. (sym same i, reader None (gone i ++ rest) e);
  };
  levels = levels_nothing n none empty S;
}
  where
    S : Sound (nothing none) spell Is
    S = sound_nothing none spell Is is empty

-- What is spelled as its parts wherever it is read.

abbrev pub SpelledAs : {A B : Type 0} → (A → B) → (Reader → A × Reader) → (B → List Due) → (A → List Due) → Type 0
SpelledAs f p sb sa = (r : Reader) → sb (f (p r).0) ≡ sa (p r).0

pub sound_read : {A B : Type 0} {p : Reader → A × Reader} {sa : A → List Due} {ga : A → Type 0} (f : A → B) (sb : B → List Due) (gb : B → Type 0)
    → SpelledAs f p sb sa → ((x : A) → ga x → gb (f x)) → Sound p sa ga → Sound (map_read f p) sb gb
sound_read {A} {B} {p} {sa} f sb gb spelled kept P = record {
  fills = λ s e.
      let F = P.fills s e in
      record {
        tree = f F.tree;
        more = F.more;
        stays = λ ts. ap (λ x. (f x.0, x.1)) (F.stays ts);
        good = kept F.tree F.good;
        due = subst (λ ds. AreDue ds F.more) (sym (read F.tree (reader (Some s) [] e) (reader (Some s) [] e) (F.stays []))) F.due;
        there = F.there;
      };
  runs = λ ts e.
      let R = P.runs ts e in
      record {
        tree = f R.tree;
        taken = R.taken;
        left = R.left;
        stop = R.stop;
        more = R.more;
        whole = R.whole;
        same = λ rest h. ap (λ x. (f x.0, x.1)) (R.same rest h);
        ended = R.ended;
        good = λ a. kept R.tree (R.good a);
        due = λ a. subst (λ ds. AreDue ds (R.taken ++ R.more)) (sym (read R.tree (reader None ts e) (reader R.stop R.left e) (ran_is R))) (R.due a);
      };
}
  where
    read : (t : A) (r s : Reader) → p r ≡ (t, s) → sb (f t) ≡ sa t
    read t r s is = subst (λ (x : A × Reader). sb (f x.0) ≡ sa x.0) is (spelled r)

deeper_read : {A B : Type 0} (n : ℕ) (f : A → B) (sa : A → List Due) (sb : B → List Due) (taken : List Placed) (stop : Option Stop) (x y : A × Reader) → sb (f y.0) ≡ sa y.0
    → Deeper n sa taken stop x y → Deeper n sb taken stop (f x.0, x.1) (f y.0, y.1)
deeper_read n f sa sb taken None x y spelled is = ap (λ z. (f z.0, z.1)) is
deeper_read {A} {B} n f sa sb taken (Some s) x y spelled is = by_cause s.cause is
  where
    by_cause : (cause : StopCause) → DeeperBy n sa taken cause x y → DeeperBy {A = B} n sb taken cause (f x.0, x.1) (f y.0, y.1)
    by_cause Unexpected is = ap (λ z. (f z.0, z.1)) is
    by_cause TooDeep deep = (deep.0, subst (λ ds. StandsDeeper n ds taken) (sym spelled) deep.1)

levels_read : {A B : Type 0} (n : ℕ) (f : A → B) {p q : Reader → A × Reader} {sa : A → List Due} (sb : B → List Due) → SpelledAs f p sb sa → SpelledAs f q sb sa
    → Levels n p q sa → Levels n (map_read f p) (map_read f q) sb
levels_read n f {p} {q} {sa} sb spelled spelled' P = record {
  narrow = calm_mapped f P.narrow;
  wide = calm_mapped f P.wide;
  filled = λ s ts e. ap (λ z. (f z.0, z.1)) (P.filled s ts e);
  reaches = λ ts e.
      let r = reader None ts e in
      let R = P.reaches ts e in
      let long = ap length (spelled r) in
      record {
        taken = R.taken;
        whole = R.whole;
        fits = omega (arith, R.fits, long);
        full = λ none. omega (arith, R.full none, long);
        within = subst (λ ds. StandWithin n ds R.taken) (sym (spelled r)) R.within;
        further = deeper_read n f sa sb R.taken (p r).1.stop (p r) (q r) (spelled' r) R.further;
      };
}

pub lawful_read : {A B : Type 0} (n : ℕ) {p q : Reader → A × Reader} {sa : A → List Due} {ga : A → Type 0} {Stays : Option Placed → Type 0} (f : A → B) (sb : B → List Due) (gb : B → Type 0)
    → SpelledAs f p sb sa → SpelledAs f q sb sa → ((x : A) → ga x → gb (f x)) → ((b : B) → gb b → (x : A) × (f x ≡ b) × ga x × (sb (f x) ≡ sa x))
    → Lawful n p q sa ga Stays → Lawful n (map_read f p) (map_read f q) sb gb Stays
lawful_read n {p} {q} {sa} f sb gb spelled spelled' kept back P = record {
  narrow = sound_read f sb gb spelled kept P.narrow;
  wide = sound_read f sb gb spelled' kept P.wide;
  complete = record {
    reads = λ b ts rest e good d stays.
        let (x, is, fine, parts) = back b good.0 in
        let same = sym (ap sb is) ∙ parts in
        ap (λ y. (f y.0, y.1)) (P.complete.reads x ts rest e (fine, subst (AreWithin n) same good.1) (subst (λ ds. AreDue ds ts) same d) stays)
        ∙ ap (λ c. (c, reader None rest e)) is;
  };
  levels = levels_read n f sb spelled spelled' P.levels;
}

-- a way for which no level is left
pub branch_too_deep : {K A : Type 0} (class : Option Placed → K) (k : K) (test : Placed → Bool) (fill : ℕ → A) {q : Reader → A × Reader} {spell : A → List Due} {Good Is : A → Type 0} {Stays : Option Placed → Type 0}
    → Sound (stop_reading TooDeep fill) spell Good → Sound q spell Good → Shrinks test q → Deep q spell → ((a : A) → Is a → StandsDeeper 0 (spell a) [])
    → ((ts : List Placed) → class (first ts) ≡ k → passes test (first ts) ≡ true) → Branch class k 0 (stop_reading TooDeep fill) q spell Good Is Stays
branch_too_deep class k test fill {spell = spell} S W shrinks answers deep begins = record {
  narrow = S;
  wide = W;
  complete = record { reads = λ a ts rest e good d stays. absurd (without_level (spell a) (deep a good.0) good.1) };
  reaches = λ ts e is. (levels_too_deep test fill S (calm_of W) shrinks answers).reaches ts e (begins ts is);
}
