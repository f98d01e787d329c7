-- The spellings of two values that a shape admits go on alike.
use Rattle.std.proofs.Common.{◌≡◌, ℕ, ◌<◌, Bool, true, false, cond, ◌&&◌, nat_eq, nat_lt, nat_le, List, [], ◌∷◌, length, refl, sym, ap, ◌∙◌, subst, arith}
use Rattle.std.specs.Prelude.{ℤ, pos, negsuc, FitsSigned}
use Rattle.std.specs.Int.{w16, w32, cast_signed, cast_unsigned, from_be_bytes}
use Rattle.std.proofs.lemmas.Bool.{ltb-true, leb-true, eqb-true}
use Rattle.std.proofs.lemmas.Nat.{from_be_bytes-to_be_bytes_2, from_be_bytes-to_be_bytes_4}
use Rattle.std.proofs.lemmas.Int.{to_z-of_z}
use Rattle.std.proofs.Math.Facts.{Fits-of_z}
use Rattle.circus_value.specs.ValueTree.{ValueTree, ValueTrees, none, more, value_trees}
use Rattle.circus_value.specs.ValueTree as V
use Rattle.circus_value.specs.ShapeTree.{ShapeTree, FieldTrees, ArmTrees, no_fields, more_fields, no_arms, more_arms}
use Rattle.circus_value.specs.ShapeTree as S
use Rattle.circus_value.specs.declared.shape.Label.{Label}
use Rattle.circus_value.specs.Fits.{fits, fields_fit, arm_fits, is_truth, is_cardinal, is_long_cardinal, is_integer, is_long_integer, is_signed_below, is_text, is_labelled, is_array, is_sequence, is_record, is_choice, every, count_of}
use Rattle.circus_external.specs.Octets.{word, long}
use Rattle.circus_external.specs.Spelling.{Piece, number, contents, truth_number, pieces, pieces_of_items, pieces_of_all, fields_admit}
use Rattle.circus_external.specs.Refusal.{is_proper, are_proper, arms_are_proper}
use Rattle.circus_external.proofs.Alike.{Alike, alike_weaker, alike_then}

pub and_both : (a b : Bool) → (a && b) ≡ true → (a ≡ true) × (b ≡ true)
and_both true b h = (refl, h)
and_both false b h = cc

-- ---- numbers

pub word_same : (n m : ℕ) → n < 65536 → m < 65536 → word n ≡ word m → n ≡ m
word_same n m few few' same =
    sym (from_be_bytes-to_be_bytes_2 n few) ∙ ap (from_be_bytes w16) same ∙ from_be_bytes-to_be_bytes_2 m few'

long_same : (n m : ℕ) → n < 4294967296 → m < 4294967296 → long n ≡ long m → n ≡ m
long_same n m few few' same =
    sym (from_be_bytes-to_be_bytes_4 n few) ∙ ap (from_be_bytes w32) same ∙ from_be_bytes-to_be_bytes_4 m few'

pub digits_same : (a b : List ℕ) → number a ≡ number b → a ≡ b
digits_same a b same = cc

pub word_first : (end : Type 0) (n m : ℕ) (us vs : List Piece) → n < 65536 → m < 65536 → (n ≡ m → Alike end us vs) → Alike end (number (word n) ∷ us) (number (word m) ∷ vs)
word_first end n m us vs few few' f = (refl, λ same. f (word_same n m few few' (digits_same (word n) (word m) same)))

long_first : (end : Type 0) (n m : ℕ) (us vs : List Piece) → n < 4294967296 → m < 4294967296 → (n ≡ m → Alike end us vs) → Alike end (number (long n) ∷ us) (number (long m) ∷ vs)
long_first end n m us vs few few' f = (refl, λ same. f (long_same n m few few' (digits_same (long n) (long m) same)))

truth_few : (b : Bool) → truth_number b < 65536
truth_few true = omega arith
truth_few false = omega arith

truth_same : (b c : Bool) → truth_number b ≡ truth_number c → b ≡ c
truth_same true true same = refl
truth_same false false same = refl
truth_same true false same = absurd (omega arith)
truth_same false true same = absurd (omega arith)

pub signed_fits_16 : (z : ℤ) → is_signed_below 32768 z ≡ true → FitsSigned w16 z
signed_fits_16 (pos n) fit = record { sfits = ltb-true n 32768 fit }
signed_fits_16 (negsuc n) fit = record { sfits = ltb-true n 32768 fit }

pub signed_fits_32 : (z : ℤ) → is_signed_below 2147483648 z ≡ true → FitsSigned w32 z
signed_fits_32 (pos n) fit = record { sfits = ltb-true n 2147483648 fit }
signed_fits_32 (negsuc n) fit = record { sfits = ltb-true n 2147483648 fit }

signed_same_16 : (z y : ℤ) → FitsSigned w16 z → FitsSigned w16 y → cast_unsigned w16 z ≡ cast_unsigned w16 y → z ≡ y
signed_same_16 z y f g same = sym (to_z-of_z w16 z f) ∙ ap (cast_signed w16) same ∙ to_z-of_z w16 y g

signed_same_32 : (z y : ℤ) → FitsSigned w32 z → FitsSigned w32 y → cast_unsigned w32 z ≡ cast_unsigned w32 y → z ≡ y
signed_same_32 z y f g same = sym (to_z-of_z w32 z f) ∙ ap (cast_signed w32) same ∙ to_z-of_z w32 y g

-- ---- values without parts

truths_alike : (v w : ValueTree) → is_truth v ≡ true → is_truth w ≡ true → Alike (v ≡ w) (pieces v) (pieces w)
truths_alike (V.boolean b) (V.boolean c) f g =
    word_first _ (truth_number b) (truth_number c) [] [] (truth_few b) (truth_few c) (λ same. ap V.boolean (truth_same b c same))
truths_alike (V.boolean b) _ f g = cc
truths_alike _ w f g = cc

cardinals_alike : (v w : ValueTree) → is_cardinal v ≡ true → is_cardinal w ≡ true → Alike (v ≡ w) (pieces v) (pieces w)
cardinals_alike (V.cardinal n) (V.cardinal m) f g =
    word_first _ n m [] [] (ltb-true n 65536 f) (ltb-true m 65536 g) (λ same. ap V.cardinal same)
cardinals_alike (V.cardinal n) _ f g = cc
cardinals_alike _ w f g = cc

long_cardinals_alike : (v w : ValueTree) → is_long_cardinal v ≡ true → is_long_cardinal w ≡ true → Alike (v ≡ w) (pieces v) (pieces w)
long_cardinals_alike (V.long_cardinal n) (V.long_cardinal m) f g =
    long_first _ n m [] [] (ltb-true n 4294967296 f) (ltb-true m 4294967296 g) (λ same. ap V.long_cardinal same)
long_cardinals_alike (V.long_cardinal n) _ f g = cc
long_cardinals_alike _ w f g = cc

integers_alike : (v w : ValueTree) → is_integer v ≡ true → is_integer w ≡ true → Alike (v ≡ w) (pieces v) (pieces w)
integers_alike (V.integer z) (V.integer y) f g =
    let fz = signed_fits_16 z f in
    let fy = signed_fits_16 y g in
    word_first _ (cast_unsigned w16 z) (cast_unsigned w16 y) [] [] (Fits-of_z fz).fits (Fits-of_z fy).fits (λ same. ap V.integer (signed_same_16 z y fz fy same))
integers_alike (V.integer z) _ f g = cc
integers_alike _ w f g = cc

long_integers_alike : (v w : ValueTree) → is_long_integer v ≡ true → is_long_integer w ≡ true → Alike (v ≡ w) (pieces v) (pieces w)
long_integers_alike (V.long_integer z) (V.long_integer y) f g =
    let fz = signed_fits_32 z f in
    let fy = signed_fits_32 y g in
    long_first _ (cast_unsigned w32 z) (cast_unsigned w32 y) [] [] (Fits-of_z fz).fits (Fits-of_z fy).fits (λ same. ap V.long_integer (signed_same_32 z y fz fy same))
long_integers_alike (V.long_integer z) _ f g = cc
long_integers_alike _ w f g = cc

pub contents_alike : (a b : List ℕ) → length a ≡ length b → Alike (a ≡ b) (contents a) (contents b)
contents_alike [] [] size = refl
contents_alike (x ∷ a) (y ∷ b) size = (size, λ same. cc)
contents_alike [] (y ∷ b) size = absurd (omega arith)
contents_alike (x ∷ a) [] size = absurd (omega arith)

texts_alike : (v w : ValueTree) → is_text v ≡ true → is_text w ≡ true → Alike (v ≡ w) (pieces v) (pieces w)
texts_alike (V.text a) (V.text b) f g =
    let few = ltb-true (length a) 65536 (and_both _ _ f).0 in
    let few' = ltb-true (length b) 65536 (and_both _ _ g).0 in
    word_first _ (length a) (length b) (contents a) (contents b) few few'
    (λ same. alike_weaker (a ≡ b) _ (contents a) (contents b) (λ e. ap V.text e) (contents_alike a b same))
texts_alike (V.text a) _ f g = cc
texts_alike _ w f g = cc

labels_alike : (labels : List Label) (v w : ValueTree) → is_labelled labels v ≡ true → is_labelled labels w ≡ true → Alike (v ≡ w) (pieces v) (pieces w)
labels_alike labels (V.enumeration n) (V.enumeration m) f g =
    word_first _ n m [] [] (ltb-true n 65536 (and_both _ _ f).0) (ltb-true m 65536 (and_both _ _ g).0) (λ same. ap V.enumeration same)
labels_alike labels (V.enumeration n) _ f g = cc
labels_alike labels _ w f g = cc

-- ---- items

abbrev pub EachAlike : (ValueTree → Bool) → Type 0
EachAlike p = (t u : ValueTree) → p t ≡ true → p u ≡ true → Alike (t ≡ u) (pieces t) (pieces u)

pub items_alike : (p : ValueTree → Bool) → EachAlike p → (ts us : ValueTrees) → count_of ts ≡ count_of us → every p ts ≡ true → every p us ≡ true → Alike (ts ≡ us) (pieces_of_items ts) (pieces_of_items us)
items_alike p each none none count f g = refl
items_alike p each (more t ts) (more u us) count f g =
    let ft = and_both (p t) (every p ts) f in
    let fu = and_both (p u) (every p us) g in
    alike_then (t ≡ u) (more t ts ≡ more u us) (pieces t) (pieces u) (pieces_of_items ts) (pieces_of_items us) (each t u ft.0 fu.0)
    (λ first. alike_weaker (ts ≡ us) (more t ts ≡ more u us) (pieces_of_items ts) (pieces_of_items us) (λ others. (λ i. more (first i) (others i))) (items_alike p each ts us (omega arith) ft.1 fu.1))
items_alike p each none (more u us) count f g = absurd (omega arith)
items_alike p each (more t ts) none count f g = absurd (omega arith)

arrays_alike : (len : ℕ) (p : ValueTree → Bool) → EachAlike p → (v w : ValueTree) → is_array len p v ≡ true → is_array len p w ≡ true → Alike (v ≡ w) (pieces v) (pieces w)
arrays_alike len p each (V.array ts) (V.array us) f g =
    let a = and_both (nat_eq (count_of ts) len) (every p ts) f in
    let b = and_both (nat_eq (count_of us) len) (every p us) g in
    alike_weaker (ts ≡ us) _ (pieces_of_items ts) (pieces_of_items us) (λ e. ap V.array e)
    (items_alike p each ts us (eqb-true _ _ a.0 ∙ sym (eqb-true _ _ b.0)) a.1 b.1)
arrays_alike len p each (V.array ts) _ f g = cc
arrays_alike len p each _ w f g = cc

sequences_alike : (bound : ℕ) (p : ValueTree → Bool) → bound < 65536 → EachAlike p → (v w : ValueTree) → is_sequence bound p v ≡ true → is_sequence bound p w ≡ true → Alike (v ≡ w) (pieces v) (pieces w)
sequences_alike bound p few each (V.sequence ts) (V.sequence us) f g =
    let a = and_both (nat_le (count_of ts) bound) (every p ts) f in
    let b = and_both (nat_le (count_of us) bound) (every p us) g in
    word_first _ (count_of ts) (count_of us) (pieces_of_items ts) (pieces_of_items us) (omega (arith, leb-true _ _ a.0)) (omega (arith, leb-true _ _ b.0))
    (λ count. alike_weaker (ts ≡ us) _ (pieces_of_items ts) (pieces_of_items us) (λ e. ap V.sequence e) (items_alike p each ts us count a.1 b.1))
sequences_alike bound p few each (V.sequence ts) _ f g = cc
sequences_alike bound p few each _ w f g = cc

records_alike : (p : ValueTrees → Bool) → ((ts us : ValueTrees) → p ts ≡ true → p us ≡ true → Alike (ts ≡ us) (pieces_of_items ts) (pieces_of_items us)) → (v w : ValueTree) → is_record p v ≡ true → is_record p w ≡ true → Alike (v ≡ w) (pieces v) (pieces w)
records_alike p each (V.«record» ts) (V.«record» us) f g =
    alike_weaker (ts ≡ us) _ (pieces_of_items ts) (pieces_of_items us) (λ e. ap V.«record» e) (each ts us f g)
records_alike p each (V.«record» ts) _ f g = cc
records_alike p each _ w f g = cc

choices_alike : (p : ℕ → ValueTree → Bool) → ((n : ℕ) → EachAlike (p n)) → (v w : ValueTree) → is_choice p v ≡ true → is_choice p w ≡ true → Alike (v ≡ w) (pieces v) (pieces w)
choices_alike p each (V.choice n t) (V.choice m u) f g =
    let a = and_both (nat_lt n 65536) (p n t) f in
    let b = and_both (nat_lt m 65536) (p m u) g in
    word_first _ n m (pieces t) (pieces u) (ltb-true n 65536 a.0) (ltb-true m 65536 b.0)
    (λ same. alike_weaker (t ≡ u) _ (pieces t) (pieces u) (λ e. (λ i. V.choice (same i) (e i))) (each n t u a.1 (subst (λ (k : ℕ). p k u ≡ true) (sym same) b.1)))
choices_alike p each (V.choice n t) _ f g = cc
choices_alike p each _ w f g = cc

mutual
  pub alike : (s : ShapeTree) → is_proper s ≡ true → EachAlike (fits s)
  alike S.boolean proper = truths_alike
  alike S.cardinal proper = cardinals_alike
  alike S.long_cardinal proper = long_cardinals_alike
  alike S.integer proper = integers_alike
  alike S.long_integer proper = long_integers_alike
  alike S.text proper = texts_alike
  alike (S.enumeration labels) proper = labels_alike labels
  alike (S.array len s) proper = arrays_alike len (fits s) (alike s proper)
  alike (S.sequence bound s) proper =
      let p = and_both (nat_lt bound 65536) (is_proper s) proper in
      sequences_alike bound (fits s) (ltb-true bound 65536 p.0) (alike s p.1)
  alike (S.«record» fs) proper = records_alike (fields_fit fs) (fields_alike fs proper)
  alike (S.choice arms) proper = choices_alike (arm_fits arms) (arms_alike arms (and_both _ _ proper).1)

  pub fields_alike : (fs : FieldTrees) → are_proper fs ≡ true → (ts us : ValueTrees) → fields_fit fs ts ≡ true → fields_fit fs us ≡ true → Alike (ts ≡ us) (pieces_of_items ts) (pieces_of_items us)
  fields_alike no_fields proper none none f g = refl
  fields_alike no_fields proper none (more u us) f g = cc
  fields_alike no_fields proper (more t ts) us f g = cc
  fields_alike (more_fields n s fs) proper (more t ts) (more u us) f g =
      let p = and_both (is_proper s) (are_proper fs) proper in
      let ft = and_both (fits s t) (fields_fit fs ts) f in
      let fu = and_both (fits s u) (fields_fit fs us) g in
      alike_then (t ≡ u) (more t ts ≡ more u us) (pieces t) (pieces u) (pieces_of_items ts) (pieces_of_items us) (alike s p.0 t u ft.0 fu.0)
      (λ first. alike_weaker (ts ≡ us) (more t ts ≡ more u us) (pieces_of_items ts) (pieces_of_items us) (λ others. (λ i. more (first i) (others i))) (fields_alike fs p.1 ts us ft.1 fu.1))
  fields_alike (more_fields n s fs) proper none us f g = cc
  fields_alike (more_fields n s fs) proper (more t ts) none f g = cc

  pub arms_alike : (arms : ArmTrees) → arms_are_proper arms ≡ true → (n : ℕ) → EachAlike (arm_fits arms n)
  arms_alike no_arms proper n t u f g = cc
  arms_alike (more_arms name m s arms) proper n t u f g =
      let p = and_both (is_proper s) (arms_are_proper arms) proper in
      elim (nat_eq n m) as (λ b. cond b (fits s t) (arm_fits arms n t) ≡ true → cond b (fits s u) (arm_fits arms n u) ≡ true → Alike (t ≡ u) (pieces t) (pieces u)) [
        | true ↦ λ x y. alike s p.0 t u x y
        | false ↦ λ x y. arms_alike arms p.1 n t u x y
      ] f g

-- ---- lists

pub trees_same : (ts us : List ValueTree) → value_trees ts ≡ value_trees us → ts ≡ us
trees_same [] [] same = refl
trees_same (t ∷ ts) (u ∷ us) same =
    let first : t ≡ u = cc in
    let others : value_trees ts ≡ value_trees us = cc in
    λ i. first i ∷ trees_same ts us others i
trees_same [] (u ∷ us) same = cc
trees_same (t ∷ ts) [] same = cc

pub all_alike : (fs : FieldTrees) → are_proper fs ≡ true → (ts us : List ValueTree) → fields_admit fs ts ≡ true → fields_admit fs us ≡ true → Alike (ts ≡ us) (pieces_of_all ts) (pieces_of_all us)
all_alike fs proper ts us f g =
    alike_weaker (value_trees ts ≡ value_trees us) (ts ≡ us) (pieces_of_all ts) (pieces_of_all us) (trees_same ts us) (fields_alike fs proper (value_trees ts) (value_trees us) f g)
