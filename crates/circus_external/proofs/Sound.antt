-- Reading answers what the bytes have: one reading behind another.
use Rattle.std.proofs.Common.{◌≡◌, ℕ, suc, ◌+◌, Bool, true, List, [], ◌∷◌, ◌++◌, length, refl, sym, ap, ◌∙◌, subst, arith, append_assoc, length-append}
use Rattle.circus_external.specs.Spelling.{Piece, number, content, bytes_of_pieces}
use Rattle.circus_external.specs.Answer.{Answer, found, short, not_a_value, bad_pad}
use Rattle.circus_value.specs.Parts.{AreOctets}
use Rattle.circus_external.specs.Refusal.{GoesOn, IsShort, IsNotAValue, IsBadPad, IsFound, From, IsAnswer}
use Rattle.circus_external.specs.Reading.{and_then, answer_map}
use Rattle.circus_external.proofs.Alike.{Alike, alike_split, alike_reach, joined-append}

-- what was found is there; and if this holds, a fault is that of the bytes
abbrev pub Sound : {X : Type 0} → Type 0 → (X → Bool) → (X → List Piece) → ℕ → List ℕ → Answer X → Type 0
Sound h admits pieces_of at bytes (found value next rest) = From (λ offset. IsFound admits pieces_of bytes value offset rest) at next
Sound h admits pieces_of at bytes (short place) = h → From (IsShort admits pieces_of bytes) at place
Sound h admits pieces_of at bytes (not_a_value place) = h → From (IsNotAValue admits pieces_of bytes) at place
Sound h admits pieces_of at bytes (bad_pad place) = h → From (IsBadPad admits pieces_of bytes) at place

pub sound_answer : {X : Type 0} (h : Type 0) (admits : X → Bool) (pieces_of : X → List Piece) (at : ℕ) (bytes : List ℕ) (a : Answer X) → h → Sound h admits pieces_of at bytes a → IsAnswer admits pieces_of at bytes a
sound_answer h admits pieces_of at bytes (found v next rest) holds is = is
sound_answer h admits pieces_of at bytes (short p) holds is = is holds
sound_answer h admits pieces_of at bytes (not_a_value p) holds is = is holds
sound_answer h admits pieces_of at bytes (bad_pad p) holds is = is holds

pub sound_weaker : {X : Type 0} (h h' : Type 0) (admits : X → Bool) (pieces_of : X → List Piece) (at : ℕ) (bytes : List ℕ) (a : Answer X) → (h' → h) → Sound h admits pieces_of at bytes a → Sound h' admits pieces_of at bytes a
sound_weaker h h' admits pieces_of at bytes (found v next rest) f is = is
sound_weaker h h' admits pieces_of at bytes (short p) f is = λ x. is (f x)
sound_weaker h h' admits pieces_of at bytes (not_a_value p) f is = λ x. is (f x)
sound_weaker h h' admits pieces_of at bytes (bad_pad p) f is = λ x. is (f x)

pub octets_behind : (a b : List ℕ) → AreOctets (a ++ b) → AreOctets b
octets_behind [] b are = are
octets_behind (x ∷ a) b are = octets_behind a b (λ k. are (suc k))

-- ---- two parts

-- values of which each is made of two parts, spelled one behind the other
pub record Joint {X Y Z : Type 0} (h : Type 0) (first : X → Bool) (first_pieces : X → List Piece) (second : X → Y → Bool) (second_pieces : Y → List Piece) (admits : Z → Bool) (pieces_of : Z → List Piece) (both : X → Y → Z) : Type 0 where
  pub admitted : (x : X) (y : Y) → first x ≡ true → second x y ≡ true → admits (both x y) ≡ true
  pub spelled : (x : X) (y : Y) → second x y ≡ true → pieces_of (both x y) ≡ first_pieces x ++ second_pieces y
  pub parts : h → (z : Z) → admits z ≡ true → (x : X) × (y : Y) × (z ≡ both x y) × (first x ≡ true) × (second x y ≡ true)
  pub each : h → (x x' : X) → first x ≡ true → first x' ≡ true → Alike (x ≡ x') (first_pieces x) (first_pieces x')
  pub some : h → (x : X) → first x ≡ true → (y : Y) × (second x y ≡ true)

lift_whole : (bytes rest tail : List ℕ) (us vs : List Piece) → bytes ≡ bytes_of_pieces us ++ rest → rest ≡ bytes_of_pieces vs ++ tail → bytes ≡ bytes_of_pieces (us ++ vs) ++ tail
lift_whole bytes rest tail us vs e f =
    e ∙ ap (λ l. bytes_of_pieces us ++ l) f ∙ sym (append_assoc (bytes_of_pieces us) (bytes_of_pieces vs) tail) ∙ ap (λ l. l ++ tail) (sym (joined-append us vs))

lift_length : (us vs : List Piece) → length (bytes_of_pieces (us ++ vs)) ≡ length (bytes_of_pieces us) + length (bytes_of_pieces vs)
lift_length us vs = ap length (joined-append us vs) ∙ length-append (bytes_of_pieces us) (bytes_of_pieces vs)

-- a piece of the second part, behind the first
second_goes : {X Y Z : Type 0} {h : Type 0} {first : X → Bool} {first_pieces : X → List Piece} {second : X → Y → Bool} {second_pieces : Y → List Piece} {admits : Z → Bool} {pieces_of : Z → List Piece} {both : X → Y → Z} → Joint h first first_pieces second second_pieces admits pieces_of both
    → (x : X) → first x ≡ true → (done : List Piece) (u : Piece) → GoesOn (second x) second_pieces done u → GoesOn admits pieces_of (first_pieces x ++ done) u
second_goes {first_pieces = first_pieces} {both = both} j x is done u g = record {
  value = both x g.value;
  admitted = j.admitted x g.value is g.admitted;
  others = g.others;
  pieces = j.spelled x g.value g.admitted ∙ ap (λ ps. first_pieces x ++ ps) g.pieces ∙ sym (append_assoc (first_pieces x) done (u ∷ g.others));
}

second_back : {X Y Z : Type 0} {h : Type 0} {first : X → Bool} {first_pieces : X → List Piece} {second : X → Y → Bool} {second_pieces : Y → List Piece} {admits : Z → Bool} {pieces_of : Z → List Piece} {both : X → Y → Z} → Joint h first first_pieces second second_pieces admits pieces_of both
    → h → (x : X) → first x ≡ true → (done : List Piece) (u : Piece) → GoesOn admits pieces_of (first_pieces x ++ done) u → GoesOn (second x) second_pieces done u
second_back {X} {first_pieces = first_pieces} {second = second} {second_pieces = second_pieces} {pieces_of = pieces_of} {both = both} j holds x is done u g =
    let p = j.parts holds g.value g.admitted in
    let all : first_pieces x ++ (done ++ (u ∷ g.others)) ≡ first_pieces p.0 ++ second_pieces p.1 =
    sym (append_assoc (first_pieces x) done (u ∷ g.others)) ∙ sym g.pieces ∙ ap pieces_of p.2 ∙ j.spelled p.0 p.1 p.4 in
    let cut = alike_split (x ≡ p.0) (first_pieces x) (first_pieces p.0) (done ++ (u ∷ g.others)) (second_pieces p.1) (j.each holds x p.0 is p.3) all in
    record {
      value = p.1;
      admitted = subst (λ (x' : X). second x' p.1 ≡ true) (sym cut.0) p.4;
      others = g.others;
      pieces = sym cut.2;
    }

-- a piece of the first part
first_goes : {X Y Z : Type 0} {h : Type 0} {first : X → Bool} {first_pieces : X → List Piece} {second : X → Y → Bool} {second_pieces : Y → List Piece} {admits : Z → Bool} {pieces_of : Z → List Piece} {both : X → Y → Z} → Joint h first first_pieces second second_pieces admits pieces_of both
    → h → (done : List Piece) (u : Piece) → GoesOn first first_pieces done u → GoesOn admits pieces_of done u
first_goes {second_pieces = second_pieces} {both = both} j holds done u g =
    let y = j.some holds g.value g.admitted in
    record {
      value = both g.value y.0;
      admitted = j.admitted g.value y.0 g.admitted y.1;
      others = g.others ++ second_pieces y.0;
      pieces = j.spelled g.value y.0 y.1 ∙ ap (λ ps. ps ++ second_pieces y.0) g.pieces ∙ append_assoc done (u ∷ g.others) (second_pieces y.0);
    }

first_back : {X Y Z : Type 0} {h : Type 0} {first : X → Bool} {first_pieces : X → List Piece} {second : X → Y → Bool} {second_pieces : Y → List Piece} {admits : Z → Bool} {pieces_of : Z → List Piece} {both : X → Y → Z} → Joint h first first_pieces second second_pieces admits pieces_of both
    → h → (done : List Piece) (u w : Piece) → GoesOn first first_pieces done u → GoesOn admits pieces_of done w → GoesOn first first_pieces done w
first_back {first_pieces = first_pieces} {second_pieces = second_pieces} {pieces_of = pieces_of} j holds done u w g k =
    let p = j.parts holds k.value k.admitted in
    let along = subst (λ ps. Alike (g.value ≡ p.0) ps (first_pieces p.0)) g.pieces (j.each holds g.value p.0 g.admitted p.3) in
    let all : first_pieces p.0 ++ second_pieces p.1 ≡ done ++ (w ∷ k.others) = sym (j.spelled p.0 p.1 p.4) ∙ ap pieces_of (sym p.2) ∙ k.pieces in
    let reached = alike_reach (g.value ≡ p.0) done g.others (first_pieces p.0) (second_pieces p.1) k.others u w along all in
    record { value = p.0; admitted = p.3; others = reached.0; pieces = reached.1 }

further : (at next place o o' m : ℕ) → next ≡ at + o → place ≡ next + o' → m ≡ o + o' → place ≡ at + m
further at next place o o' m e f g = omega arith

-- the second part behind a first that was found
second_sound : {X Y Z : Type 0} {h : Type 0} {first : X → Bool} {first_pieces : X → List Piece} {second : X → Y → Bool} {second_pieces : Y → List Piece} {admits : Z → Bool} {pieces_of : Z → List Piece} {both : X → Y → Z} → Joint h first first_pieces second second_pieces admits pieces_of both
    → (at : ℕ) (bytes : List ℕ) (x : X) (next : ℕ) (rest : List ℕ) → From (λ offset. IsFound first first_pieces bytes x offset rest) at next
    → (a : Answer Y) → Sound h (second x) second_pieces next rest a → Sound h admits pieces_of at bytes (answer_map (both x) a)
second_sound {first_pieces = first_pieces} {second_pieces = second_pieces} {pieces_of = pieces_of} {both = both} j at bytes x next rest begun (found y next' rest') is =
    let f = begun.2 in
    let s = is.2 in
    let size : length (bytes_of_pieces (pieces_of (both x y))) ≡ begun.0 + is.0 =
    ap (λ ps. length (bytes_of_pieces ps)) (j.spelled x y s.admitted) ∙ lift_length (first_pieces x) (second_pieces y) ∙ (λ i. sym f.offset_is i + sym s.offset_is i) in (
      length (bytes_of_pieces (pieces_of (both x y))),
      further at next next' begun.0 is.0 _ begun.1 is.1 size,
      record {
        admitted = j.admitted x y f.admitted s.admitted;
        whole = lift_whole bytes rest rest' (first_pieces x) (second_pieces y) f.whole s.whole ∙ ap (λ ps. bytes_of_pieces ps ++ rest') (sym (j.spelled x y s.admitted));
        offset_is = refl;
      },
    )
second_sound {first_pieces = first_pieces} j at bytes x next rest begun (short place) is = λ holds.
    let f = begun.2 in
    let o = is holds in
    let s = o.2 in
    let size : length (bytes_of_pieces (first_pieces x ++ s.done)) ≡ begun.0 + o.0 = lift_length (first_pieces x) s.done ∙ (λ i. sym f.offset_is i + sym s.offset_is i) in (
      length (bytes_of_pieces (first_pieces x ++ s.done)),
      further at next place begun.0 o.0 _ begun.1 o.1 size,
      record {
        done = first_pieces x ++ s.done;
        next = s.next;
        rest = s.rest;
        goes_on = second_goes j x f.admitted s.done s.next s.goes_on;
        whole = lift_whole bytes rest s.rest (first_pieces x) s.done f.whole s.whole;
        missing = s.missing;
        offset_is = refl;
      },
    )
second_sound {first_pieces = first_pieces} j at bytes x next rest begun (not_a_value place) is = λ holds.
    let f = begun.2 in
    let o = is holds in
    let s = o.2 in
    let size : length (bytes_of_pieces (first_pieces x ++ s.done)) ≡ begun.0 + o.0 = lift_length (first_pieces x) s.done ∙ (λ i. sym f.offset_is i + sym s.offset_is i) in (
      length (bytes_of_pieces (first_pieces x ++ s.done)),
      further at next place begun.0 o.0 _ begun.1 o.1 size,
      record {
        done = first_pieces x ++ s.done;
        next = s.next;
        digits = s.digits;
        rest = s.rest;
        goes_on = second_goes j x f.admitted s.done (number s.next) s.goes_on;
        whole = lift_whole bytes rest (s.digits ++ s.rest) (first_pieces x) s.done f.whole s.whole;
        size = s.size;
        refused = λ g. s.refused (second_back j holds x f.admitted s.done (number s.digits) g);
        offset_is = refl;
      },
    )
second_sound {first_pieces = first_pieces} j at bytes x next rest begun (bad_pad place) is = λ holds.
    let f = begun.2 in
    let o = is holds in
    let s = o.2 in
    let size : length (bytes_of_pieces (first_pieces x ++ s.done)) + length s.string ≡ begun.0 + o.0 =
    omega (arith, lift_length (first_pieces x) s.done, f.offset_is, s.offset_is) in (
      length (bytes_of_pieces (first_pieces x ++ s.done)) + length s.string,
      further at next place begun.0 o.0 _ begun.1 o.1 size,
      record {
        done = first_pieces x ++ s.done;
        next = s.next;
        string = s.string;
        last = s.last;
        rest = s.rest;
        goes_on = second_goes j x f.admitted s.done (content s.next) s.goes_on;
        odd = s.odd;
        whole = lift_whole bytes rest (s.string ++ (s.last ∷ s.rest)) (first_pieces x) s.done f.whole s.whole;
        size = s.size;
        not_zero = s.not_zero;
        offset_is = refl;
      },
    )

-- one part behind the other
pub then_sound : {X Y Z : Type 0} {h : Type 0} {first : X → Bool} {first_pieces : X → List Piece} {second : X → Y → Bool} {second_pieces : Y → List Piece} {admits : Z → Bool} {pieces_of : Z → List Piece} {both : X → Y → Z} → Joint h first first_pieces second second_pieces admits pieces_of both
    → (at : ℕ) (bytes : List ℕ) → AreOctets bytes → (a : Answer X) → Sound h first first_pieces at bytes a
    → (b : X → ℕ → List ℕ → Answer Y) → ((x : X) (next : ℕ) (rest : List ℕ) → first x ≡ true → AreOctets rest → Sound h (second x) second_pieces next rest (b x next rest))
    → Sound h admits pieces_of at bytes (and_then a (λ x next rest. answer_map (both x) (b x next rest)))
then_sound {first_pieces = first_pieces} j at bytes are (found x next rest) is b each =
    second_sound j at bytes x next rest is (b x next rest) (each x next rest is.2.admitted (octets_behind (bytes_of_pieces (first_pieces x)) rest (subst AreOctets is.2.whole are)))
then_sound j at bytes are (short p) is b each = λ holds. let o = is holds in let s = o.2 in
    (o.0, o.1, record { done = s.done; next = s.next; rest = s.rest; goes_on = first_goes j holds s.done s.next s.goes_on; whole = s.whole; missing = s.missing; offset_is = s.offset_is })
then_sound j at bytes are (not_a_value p) is b each = λ holds. let o = is holds in let s = o.2 in (
  o.0,
  o.1,
  record {
    done = s.done;
    next = s.next;
    digits = s.digits;
    rest = s.rest;
    goes_on = first_goes j holds s.done (number s.next) s.goes_on;
    whole = s.whole;
    size = s.size;
    refused = λ g. s.refused (first_back j holds s.done (number s.next) (number s.digits) s.goes_on g);
    offset_is = s.offset_is;
  },
)
then_sound j at bytes are (bad_pad p) is b each = λ holds. let o = is holds in let s = o.2 in (
  o.0,
  o.1,
  record {
    done = s.done;
    next = s.next;
    string = s.string;
    last = s.last;
    rest = s.rest;
    goes_on = first_goes j holds s.done (content s.next) s.goes_on;
    odd = s.odd;
    whole = s.whole;
    size = s.size;
    not_zero = s.not_zero;
    offset_is = s.offset_is;
  },
)

-- ---- values seen as others

-- values that are others, spelled alike
pub record Seen {Y Z : Type 0} (h : Type 0) (inner : Y → Bool) (inner_pieces : Y → List Piece) (admits : Z → Bool) (pieces_of : Z → List Piece) (outer : Y → Z) : Type 0 where
  pub admitted : (y : Y) → inner y ≡ true → admits (outer y) ≡ true
  pub spelled : (y : Y) → inner y ≡ true → pieces_of (outer y) ≡ inner_pieces y
  pub parts : h → (z : Z) → admits z ≡ true → (y : Y) × (z ≡ outer y) × (inner y ≡ true)

-- it is no part and another behind it
seen_joint : {Y Z : Type 0} {h : Type 0} {inner : Y → Bool} {inner_pieces : Y → List Piece} {admits : Z → Bool} {pieces_of : Z → List Piece} {outer : Y → Z} → Seen h inner inner_pieces admits pieces_of outer
    → (some : h → (y : Y) × (inner y ≡ true)) → Joint h (λ (x : Bool). x) (λ (x : Bool). []) (λ (x : Bool) y. inner y) inner_pieces admits pieces_of (λ (x : Bool) y. outer y)
seen_joint s some = record {
  admitted = λ x y is are. s.admitted y are;
  spelled = λ x y are. s.spelled y are;
  parts = λ holds z is. let p = s.parts holds z is in (true, p.0, p.1, refl, p.2);
  each = λ holds x x' is is'. is ∙ sym is';
  some = λ holds x is. some holds;
}

pub seen_sound : {Y Z : Type 0} {h : Type 0} {inner : Y → Bool} {inner_pieces : Y → List Piece} {admits : Z → Bool} {pieces_of : Z → List Piece} {outer : Y → Z} → Seen h inner inner_pieces admits pieces_of outer
    → (h → (y : Y) × (inner y ≡ true)) → (at : ℕ) (bytes : List ℕ) (a : Answer Y) → Sound h inner inner_pieces at bytes a → Sound h admits pieces_of at bytes (answer_map outer a)
seen_sound s some at bytes a is =
    second_sound (seen_joint s some) at bytes true at bytes (0, omega arith, record { admitted = refl; whole = refl; offset_is = refl }) a is
