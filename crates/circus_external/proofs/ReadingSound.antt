-- Reading answers what the bytes have, for every shape.
use Rattle.std.proofs.Common.{◌≡◌, ℕ, zero, suc, ◌<◌, ◌≤◌, Bool, true, false, cond, ◌&&◌, nat_eq, nat_lt, nat_le, Option, Some, None, List, [], ◌∷◌, length, replicate, refl, sym, ap, ◌∙◌, subst, arith}
use Rattle.std.specs.Prelude.{ℤ, pos, negsuc, FitsSigned}
use Rattle.std.specs.List.{list_any, list_all}
use Rattle.std.specs.Int.{w16, w32, cast_signed}
use Rattle.std.proofs.lemmas.Bool.{ltb-true, leb-true, eqb-true, eq-eqb, ne_eqb, le-leb, lt-ltb}
use Rattle.std.proofs.lemmas.Int.{of_z-to_z}
use Rattle.std.proofs.Math.Facts.{sfits_to_z}
use Rattle.std.proofs.Math.Dec.{eqb-zero-suc}
use Rattle.circus_value.specs.ValueTree.{ValueTree, ValueTrees, none, more, value_trees}
use Rattle.circus_value.specs.ValueTree as V
use Rattle.circus_value.specs.ShapeTree.{ShapeTree, FieldTrees, ArmTrees, no_fields, more_fields, no_arms, more_arms}
use Rattle.circus_value.specs.ShapeTree as S
use Rattle.circus_value.specs.declared.shape.Label.{Label}
use Rattle.circus_value.specs.Fits.{fits, fields_fit, arm_fits, is_truth, is_cardinal, is_long_cardinal, is_integer, is_long_integer, is_signed_below, is_text, is_labelled, is_array, is_sequence, is_record, is_choice, every, count_of}
use Rattle.circus_external.specs.Octets.{word, long}
use Rattle.circus_external.specs.Spelling.{Piece, number, contents, pieces, pieces_of_all, fields_admit}
use Rattle.circus_external.specs.Answer.{Answer, found, short, not_a_value, bad_pad}
use Rattle.circus_value.specs.Parts.{AreOctets}
use Rattle.circus_external.specs.Refusal.{is_proper, are_proper, arms_are_proper, has_arm}
use Rattle.circus_external.specs.Reading.{and_then, answer_map, word_read, meaning_or_fault, truth_of, label_of, one_word, content_read, items_read, count_within, sequence_read, reading, fields_reading, arm_reading}
use Rattle.circus_external.proofs.Alike.{Alike}
use Rattle.circus_external.proofs.ShapesAlike.{and_both, word_same, word_first, EachAlike, alike}
use Rattle.circus_external.proofs.Sound.{Sound, sound_weaker, Joint, then_sound, Seen, seen_sound}
use Rattle.circus_external.proofs.PieceSound.{Meaning, word_sound, long_sound, is_content, zeros_content, content_sound}
use Rattle.circus_external.proofs.SomeValue.{some_label, names, some_arm, copies, items_admit, copies_admitted, some_value, some_values, some_chosen}

first_digits : (a b : List ℕ) (us vs : List Piece) → number a ∷ us ≡ number b ∷ vs → a ≡ b
first_digits a b us vs same = cc

-- ---- values without parts

truth_none : (n : ℕ) → 2 ≤ n → truth_of n ≡ None
truth_none n many = rw (ne_eqb n 0 (λ e. omega arith), ne_eqb n 1 (λ e. omega arith)) refl

truth_means : (n : ℕ) (x : ValueTree) → n < 65536 → truth_of n ≡ Some x → (is_truth x ≡ true) × (pieces x ≡ number (word n) ∷ [])
truth_means zero x few is =
    let e : V.boolean false ≡ x = cc in
    (ap is_truth (sym e), ap pieces (sym e))
truth_means (suc zero) x few is =
    let e : V.boolean true ≡ x = cc in
    (ap is_truth (sym e), ap pieces (sym e))
truth_means (suc (suc n)) x few is =
    let e : ◌≡◌ {A = Option ValueTree} None (Some x) = sym (truth_none (suc (suc n)) (omega arith)) ∙ is in
    cc

truth_nothing : (n : ℕ) → n < 65536 → truth_of n ≡ None → (x : ValueTree) (others : List Piece) → is_truth x ≡ true → pieces x ≡ number (word n) ∷ others → ⊥
truth_nothing n few is (V.boolean true) others fit same =
    let e : 1 ≡ n = word_same 1 n (omega arith) few (first_digits (word 1) (word n) [] others same) in
    let f = subst (λ (m : ℕ). truth_of m ≡ None) (sym e) is in
    cc
truth_nothing n few is (V.boolean false) others fit same =
    let e : 0 ≡ n = word_same 0 n (omega arith) few (first_digits (word 0) (word n) [] others same) in
    let f = subst (λ (m : ℕ). truth_of m ≡ None) (sym e) is in
    cc
truth_nothing n few is _ others fit same = cc

truth_meaning : (h : Type 0) → Meaning h 65536 word is_truth pieces truth_of
truth_meaning h = record {
  means = truth_means;
  nothing = λ holds. truth_nothing;
  some = λ holds. (V.boolean false, 0, refl, refl);
}

cardinal_meaning : (h : Type 0) → Meaning h 65536 word is_cardinal pieces (λ n. Some (V.cardinal n))
cardinal_meaning h = record {
  means = λ n x few is. let e : V.cardinal n ≡ x = cc in (subst (λ y. is_cardinal y ≡ true) e (lt-ltb n 65536 few), ap pieces (sym e));
  nothing = λ holds n few is x others fit same. cc;
  some = λ holds. (V.cardinal 0, 0, refl, refl);
}

long_cardinal_meaning : (h : Type 0) → Meaning h 4294967296 long is_long_cardinal pieces (λ n. Some (V.long_cardinal n))
long_cardinal_meaning h = record {
  means = λ n x few is. let e : V.long_cardinal n ≡ x = cc in (subst (λ y. is_long_cardinal y ≡ true) e (lt-ltb n 4294967296 few), ap pieces (sym e));
  nothing = λ holds n few is x others fit same. cc;
  some = λ holds. (V.long_cardinal 0, 0, refl, refl);
}

fits_signed_16 : (z : ℤ) → FitsSigned w16 z → is_signed_below 32768 z ≡ true
fits_signed_16 (pos n) fit = lt-ltb n 32768 fit.sfits
fits_signed_16 (negsuc n) fit = lt-ltb n 32768 fit.sfits

fits_signed_32 : (z : ℤ) → FitsSigned w32 z → is_signed_below 2147483648 z ≡ true
fits_signed_32 (pos n) fit = lt-ltb n 2147483648 fit.sfits
fits_signed_32 (negsuc n) fit = lt-ltb n 2147483648 fit.sfits

integer_means : (n : ℕ) → n < 65536 → (is_integer (V.integer (cast_signed w16 n)) ≡ true) × (pieces (V.integer (cast_signed w16 n)) ≡ number (word n) ∷ [])
integer_means n few =
    (fits_signed_16 (cast_signed w16 n) (sfits_to_z (record { fits = few })), ap (λ m. number (word m) ∷ []) (of_z-to_z w16 n few))

long_integer_means : (n : ℕ) → n < 4294967296 → (is_long_integer (V.long_integer (cast_signed w32 n)) ≡ true) × (pieces (V.long_integer (cast_signed w32 n)) ≡ number (long n) ∷ [])
long_integer_means n few =
    (fits_signed_32 (cast_signed w32 n) (sfits_to_z (record { fits = few })), ap (λ m. number (long m) ∷ []) (of_z-to_z w32 n few))

integer_meaning : (h : Type 0) → Meaning h 65536 word is_integer pieces (λ n. Some (V.integer (cast_signed w16 n)))
integer_meaning h = record {
  means = λ n x few is. let e : V.integer (cast_signed w16 n) ≡ x = cc in subst (λ y. (is_integer y ≡ true) × (pieces y ≡ number (word n) ∷ [])) e (integer_means n few);
  nothing = λ holds n few is x others fit same. cc;
  some = λ holds. (V.integer (pos 0), 0, refl, refl);
}

long_integer_meaning : (h : Type 0) → Meaning h 4294967296 long is_long_integer pieces (λ n. Some (V.long_integer (cast_signed w32 n)))
long_integer_meaning h = record {
  means = λ n x few is. let e : V.long_integer (cast_signed w32 n) ≡ x = cc in subst (λ y. (is_long_integer y ≡ true) × (pieces y ≡ number (long n) ∷ [])) e (long_integer_means n few);
  nothing = λ holds n few is x others fit same. cc;
  some = λ holds. (V.long_integer (pos 0), 0, refl, refl);
}

chosen_some : {X : Type 0} (b : Bool) (x y : X) → cond b (Some x) None ≡ Some y → (b ≡ true) × (x ≡ y)
chosen_some true x y is = (refl, cc)
chosen_some false x y is = cc

chosen_none : {X : Type 0} (b : Bool) (x : X) → cond b (Some x) None ≡ None → b ≡ false
chosen_none true x is = cc
chosen_none false x is = refl

label_means : (labels : List Label) (n : ℕ) (x : ValueTree) → n < 65536 → label_of labels n ≡ Some x → (is_labelled labels x ≡ true) × (pieces x ≡ number (word n) ∷ [])
label_means labels n x few is =
    let p = chosen_some (list_any (λ (l : Label). nat_eq l.number n) labels) (V.enumeration n) x is in
    (subst (λ y. is_labelled labels y ≡ true) p.1 (ap (λ b. b && list_any (λ (l : Label). nat_eq l.number n) labels) (lt-ltb n 65536 few) ∙ p.0), ap pieces (sym p.1))

label_nothing : (labels : List Label) (n : ℕ) → n < 65536 → label_of labels n ≡ None → (x : ValueTree) (others : List Piece) → is_labelled labels x ≡ true → pieces x ≡ number (word n) ∷ others → ⊥
label_nothing labels n few is (V.enumeration m) others fit same =
    let p = and_both (nat_lt m 65536) (list_any (λ (l : Label). nat_eq l.number m) labels) fit in
    let e : m ≡ n = word_same m n (ltb-true m 65536 p.0) few (first_digits (word m) (word n) [] others same) in
    let f : list_any (λ (l : Label). nat_eq l.number n) labels ≡ false = chosen_none (list_any (λ (l : Label). nat_eq l.number n) labels) (V.enumeration n) is in
    let g : list_any (λ (l : Label). nat_eq l.number n) labels ≡ true = subst (λ (k : ℕ). list_any (λ (l : Label). nat_eq l.number k) labels ≡ true) e p.1 in
    let no : true ≡ false = sym g ∙ f in
    cc
label_nothing labels n few is _ others fit same = cc

label_meaning : (labels : List Label) → Meaning (is_proper (S.enumeration labels) ≡ true) 65536 word (is_labelled labels) pieces (label_of labels)
label_meaning labels = record {
  means = label_means labels;
  nothing = λ holds. label_nothing labels;
  some = λ holds. let r = some_label labels holds in
      (V.enumeration r.0, r.0, ap (λ b. b && list_any (λ (l : Label). nat_eq l.number r.0) labels) (lt-ltb r.0 65536 r.1) ∙ r.2, refl);
}

-- ---- words of which some may stand

abbrev passing : (ℕ → Bool) → ℕ → Bool
passing p n = nat_lt n 65536 && p n

abbrev one_number : ℕ → List Piece
one_number n = number (word n) ∷ []

passing_meaning : (h : Type 0) (p : ℕ → Bool) → (h → (m : ℕ) × (m < 65536) × (p m ≡ true)) → Meaning h 65536 word (passing p) one_number (λ n. cond (p n) (Some n) None)
passing_meaning h p some = record {
  means = λ n x few is. let q = chosen_some (p n) n x is in
      (subst (λ (k : ℕ). passing p k ≡ true) q.1 (ap (λ b. b && p n) (lt-ltb n 65536 few) ∙ q.0), ap one_number (sym q.1));
  nothing = λ holds n few is x others fit same.
      let q = and_both (nat_lt x 65536) (p x) fit in
      let e : x ≡ n = word_same x n (ltb-true x 65536 q.0) few (first_digits (word x) (word n) [] others same) in
      let no : true ≡ false = sym (subst (λ (k : ℕ). p k ≡ true) e q.1) ∙ chosen_none (p n) n is in
      cc;
  some = λ holds. let s = some holds in (s.0, s.0, ap (λ b. b && p s.0) (lt-ltb s.0 65536 s.1) ∙ s.2, refl);
}

passing_alike : (p : ℕ → Bool) (n m : ℕ) → passing p n ≡ true → passing p m ≡ true → Alike (n ≡ m) (one_number n) (one_number m)
passing_alike p n m f g =
    word_first _ n m [] [] (ltb-true n 65536 (and_both (nat_lt n 65536) (p n) f).0) (ltb-true m 65536 (and_both (nat_lt m 65536) (p m) g).0) (λ same. same)

-- ---- texts

abbrev any_number : ℕ → Bool
any_number n = true

text_parts : (z : ValueTree) → is_text z ≡ true → (n : ℕ) × (bytes : List ℕ) × (z ≡ V.text bytes) × (passing any_number n ≡ true) × (is_content n bytes ≡ true)
text_parts (V.text bytes) fit =
    let p = and_both (nat_lt (length bytes) 65536) (list_all (λ b. nat_lt b 256) bytes) fit in
    (length bytes, bytes, refl, ap (λ b. b && true) p.0, ap (λ b. b && list_all (λ b. nat_lt b 256) bytes) (eq-eqb (length bytes) (length bytes) refl) ∙ p.1)
text_parts _ fit = cc

text_joint : (h : Type 0) → Joint h (passing any_number) one_number is_content contents is_text pieces (λ (n : ℕ) bytes. V.text bytes)
text_joint h = record {
  admitted = λ n bytes f g.
      let p = and_both (nat_lt n 65536) true f in
      let q = and_both (nat_eq (length bytes) n) (list_all (λ b. nat_lt b 256) bytes) g in
      ap (λ (k : ℕ). nat_lt k 65536 && list_all (λ b. nat_lt b 256) bytes) (eqb-true _ _ q.0) ∙ ap (λ b. b && list_all (λ b. nat_lt b 256) bytes) p.0 ∙ q.1;
  spelled = λ n bytes g. ap (λ (k : ℕ). number (word k) ∷ contents bytes) (eqb-true _ _ (and_both (nat_eq (length bytes) n) (list_all (λ b. nat_lt b 256) bytes) g).0);
  parts = λ holds. text_parts;
  each = λ holds. passing_alike any_number;
  some = λ holds n f. (replicate n 0, zeros_content n);
}

text_is : {X Y : Type 0} (f : X → Y) (go_on : ℕ → ℕ → List ℕ → Answer X) (a : Answer ℕ) → and_then (and_then a (λ n next rest. found n next rest)) (λ n next rest. answer_map f (go_on n next rest)) ≡ answer_map f (and_then a go_on)
text_is f go_on (found n next rest) = refl
text_is f go_on (short p) = refl
text_is f go_on (not_a_value p) = refl
text_is f go_on (bad_pad p) = refl

text_sound : (h : Type 0) (at : ℕ) (bytes : List ℕ) → AreOctets bytes → Sound h is_text pieces at bytes (reading S.text at bytes)
text_sound h at bytes are =
    subst (Sound h is_text pieces at bytes) (text_is (λ octets. V.text octets) content_read (word_read at bytes))
    (then_sound (text_joint h) at bytes are (one_word (λ n. Some n) at bytes) (word_sound (passing_meaning h any_number (λ holds. (0, omega arith, refl))) at bytes are)
    content_read (λ n next rest f octets. content_sound h n next rest octets))

-- ---- items

items_parts : (p : ValueTree → Bool) (n : ℕ) (ts : List ValueTree) → items_admit p (suc n) ts ≡ true → (t : ValueTree) × (us : List ValueTree) × (ts ≡ t ∷ us) × (p t ≡ true) × (items_admit p n us ≡ true)
items_parts p n [] fit =
    let no : true ≡ false = sym (and_both (nat_eq 0 (suc n)) true fit).0 ∙ eqb-zero-suc n in
    cc
items_parts p n (t ∷ us) fit =
    let q = and_both (nat_eq (suc (count_of (value_trees us))) (suc n)) (p t && every p (value_trees us)) fit in
    let r = and_both (p t) (every p (value_trees us)) q.1 in
    let count : count_of (value_trees us) ≡ n = omega (arith, eqb-true _ _ q.0) in
    (t, us, refl, r.0, ap (λ b. b && every p (value_trees us)) (eq-eqb _ _ count) ∙ r.1)

items_joint : (h : Type 0) (p : ValueTree → Bool) (n : ℕ) → (h → EachAlike p) → (h → (t : ValueTree) × (p t ≡ true)) → Joint h p pieces (λ t ts. items_admit p n ts) pieces_of_all (items_admit p (suc n)) pieces_of_all (λ t ts. t ∷ ts)
items_joint h p n each some = record {
  admitted = λ t ts f g.
      let q = and_both (nat_eq (count_of (value_trees ts)) n) (every p (value_trees ts)) g in
      ap (λ b. b && (p t && every p (value_trees ts))) (eq-eqb (suc (count_of (value_trees ts))) (suc n) (ap suc (eqb-true _ _ q.0))) ∙ ap (λ b. b && every p (value_trees ts)) f ∙ q.1;
  spelled = λ t ts g. refl;
  parts = λ holds. items_parts p n;
  each = each;
  some = λ holds t f. let s = some holds in (copies n s.0, copies_admitted p n s.0 s.1);
}

items_sound : (h : Type 0) (p : ValueTree → Bool) (item : ℕ → List ℕ → Answer ValueTree) → (h → EachAlike p) → (h → (t : ValueTree) × (p t ≡ true)) → ((at : ℕ) (bytes : List ℕ) → AreOctets bytes → Sound h p pieces at bytes (item at bytes))
    → (n at : ℕ) (bytes : List ℕ) → AreOctets bytes → Sound h (items_admit p n) pieces_of_all at bytes (items_read item n at bytes)
items_sound h p item each some sound zero at bytes are = (0, omega arith, record { admitted = refl; whole = refl; offset_is = refl })
items_sound h p item each some sound (suc n) at bytes are =
    then_sound (items_joint h p n each some) at bytes are (item at bytes) (sound at bytes are) (λ t next rest. items_read item n next rest)
    (λ t next rest f octets. items_sound h p item each some sound n next rest octets)

-- the list of trees
list_of : ValueTrees → List ValueTree
list_of none = []
list_of (more t ts) = t ∷ list_of ts

list_back : (ts : ValueTrees) → value_trees (list_of ts) ≡ ts
unfolding list_of
list_back none = refl
list_back (more t ts) = ap (more t) (list_back ts)

array_parts : (len : ℕ) (p : ValueTree → Bool) (z : ValueTree) → is_array len p z ≡ true → (ts : List ValueTree) × (z ≡ V.array (value_trees ts)) × (items_admit p len ts ≡ true)
array_parts len p (V.array ts) fit =
    (list_of ts, ap V.array (sym (list_back ts)), subst (λ us. (nat_eq (count_of us) len && every p us) ≡ true) (sym (list_back ts)) fit)
array_parts len p _ fit = cc

array_seen : (h : Type 0) (len : ℕ) (p : ValueTree → Bool) → Seen h (items_admit p len) pieces_of_all (is_array len p) pieces (λ ts. V.array (value_trees ts))
array_seen h len p = record { admitted = λ ts f. f; spelled = λ ts f. refl; parts = λ holds. array_parts len p }

sequence_parts : (bound : ℕ) (p : ValueTree → Bool) → bound < 65536 → (z : ValueTree) → is_sequence bound p z ≡ true → (n : ℕ) × (ts : List ValueTree) × (z ≡ V.sequence (value_trees ts)) × (passing (λ k. nat_le k bound) n ≡ true) × (items_admit p n ts ≡ true)
sequence_parts bound p few (V.sequence ts) fit =
    let q = and_both (nat_le (count_of ts) bound) (every p ts) fit in
    let small : count_of ts < 65536 = omega (arith, leb-true _ _ q.0) in (
      count_of ts,
      list_of ts,
      ap V.sequence (sym (list_back ts)),
      ap (λ b. b && nat_le (count_of ts) bound) (lt-ltb _ _ small) ∙ q.0,
      subst (λ us. (nat_eq (count_of us) (count_of ts) && every p us) ≡ true) (sym (list_back ts)) (ap (λ b. b && every p ts) (eq-eqb (count_of ts) (count_of ts) refl) ∙ q.1),
    )
sequence_parts bound p few _ fit = cc

sequence_joint : (h : Type 0) (bound : ℕ) (p : ValueTree → Bool) → (h → bound < 65536) → (h → (t : ValueTree) × (p t ≡ true)) → Joint h (passing (λ k. nat_le k bound)) one_number (λ n ts. items_admit p n ts) pieces_of_all (is_sequence bound p) pieces (λ (n : ℕ) ts. V.sequence (value_trees ts))
sequence_joint h bound p few some = record {
  admitted = λ n ts f g.
      let a = and_both (nat_lt n 65536) (nat_le n bound) f in
      let q = and_both (nat_eq (count_of (value_trees ts)) n) (every p (value_trees ts)) g in
      ap (λ (k : ℕ). nat_le k bound && every p (value_trees ts)) (eqb-true _ _ q.0) ∙ ap (λ b. b && every p (value_trees ts)) a.1 ∙ q.1;
  spelled = λ n ts g. ap (λ (k : ℕ). number (word k) ∷ pieces_of_all ts) (eqb-true _ _ (and_both (nat_eq (count_of (value_trees ts)) n) (every p (value_trees ts)) g).0);
  parts = λ holds. sequence_parts bound p (few holds);
  each = λ holds. passing_alike (λ k. nat_le k bound);
  some = λ holds n f. let s = some holds in (copies n s.0, copies_admitted p n s.0 s.1);
}

map_then : {X Y Z : Type 0} (f : Y → Z) (go_on : X → ℕ → List ℕ → Answer Y) (a : Answer X) → and_then a (λ x next rest. answer_map f (go_on x next rest)) ≡ answer_map f (and_then a go_on)
map_then f go_on (found x next rest) = refl
map_then f go_on (short p) = refl
map_then f go_on (not_a_value p) = refl
map_then f go_on (bad_pad p) = refl

sequence_sound : (h : Type 0) (bound : ℕ) (p : ValueTree → Bool) (item : ℕ → List ℕ → Answer ValueTree) → (h → bound < 65536) → (h → EachAlike p) → (h → (t : ValueTree) × (p t ≡ true)) → ((at : ℕ) (bytes : List ℕ) → AreOctets bytes → Sound h p pieces at bytes (item at bytes))
    → (at : ℕ) (bytes : List ℕ) → AreOctets bytes → Sound h (is_sequence bound p) pieces at bytes (answer_map (λ ts. V.sequence (value_trees ts)) (sequence_read item bound at bytes))
sequence_sound h bound p item few each some sound at bytes are =
    subst (Sound h (is_sequence bound p) pieces at bytes) (map_then (λ ts. V.sequence (value_trees ts)) (items_read item) (one_word (count_within bound) at bytes))
    (then_sound (sequence_joint h bound p few some) at bytes are (one_word (count_within bound) at bytes)
    (word_sound (passing_meaning h (λ k. nat_le k bound) (λ holds. (0, omega arith, le-leb 0 bound (omega arith)))) at bytes are)
    (items_read item) (λ n next rest f octets. items_sound h p item each some sound n next rest octets))

-- ---- records

fields_parts : (s : ShapeTree) (fs : FieldTrees) (ts : List ValueTree) → (name : List ℕ) → fields_admit (more_fields name s fs) ts ≡ true → (t : ValueTree) × (us : List ValueTree) × (ts ≡ t ∷ us) × (fits s t ≡ true) × (fields_admit fs us ≡ true)
fields_parts s fs [] name fit = cc
fields_parts s fs (t ∷ us) name fit =
    let q = and_both (fits s t) (fields_fit fs (value_trees us)) fit in
    (t, us, refl, q.0, q.1)

fields_joint : (h : Type 0) (name : List ℕ) (s : ShapeTree) (fs : FieldTrees) → (h → is_proper s ≡ true) → (h → are_proper fs ≡ true) → Joint h (fits s) pieces (λ t ts. fields_admit fs ts) pieces_of_all (fields_admit (more_fields name s fs)) pieces_of_all (λ t ts. t ∷ ts)
fields_joint h name s fs one others = record {
  admitted = λ t ts f g. ap (λ b. b && fields_fit fs (value_trees ts)) f ∙ g;
  spelled = λ t ts g. refl;
  parts = λ holds ts fit. fields_parts s fs ts name fit;
  each = λ holds. alike s (one holds);
  some = λ holds t f. some_values fs (others holds);
}

record_parts : (fs : FieldTrees) (z : ValueTree) → is_record (fields_fit fs) z ≡ true → (ts : List ValueTree) × (z ≡ V.«record» (value_trees ts)) × (fields_admit fs ts ≡ true)
record_parts fs (V.«record» ts) fit =
    (list_of ts, ap V.«record» (sym (list_back ts)), subst (λ us. fields_fit fs us ≡ true) (sym (list_back ts)) fit)
record_parts fs _ fit = cc

record_seen : (h : Type 0) (fs : FieldTrees) → Seen h (fields_admit fs) pieces_of_all (is_record (fields_fit fs)) pieces (λ ts. V.«record» (value_trees ts))
record_seen h fs = record { admitted = λ ts f. f; spelled = λ ts f. refl; parts = λ holds. record_parts fs }

-- ---- choices

-- a value of the arm with this number
abbrev arm_only : ArmTrees → ℕ → ℕ → List ℕ → Answer ValueTree
arm_only no_arms n at bytes = short at
arm_only (more_arms _ k s arms) n at bytes = cond (nat_eq n k) (reading s at bytes) (arm_only arms n at bytes)

arm_named : (arms : ArmTrees) (at n next : ℕ) (rest : List ℕ) → names arms n ≡ true → answer_map (λ t. V.choice n t) (arm_only arms n next rest) ≡ arm_reading arms at n next rest
arm_named no_arms at n next rest named = cc
arm_named (more_arms name k s arms) at n next rest named =
    elim (nat_eq n k) as (λ b. cond b true (names arms n) ≡ true → answer_map (λ t. V.choice n t) (cond b (reading s next rest) (arm_only arms n next rest)) ≡ cond b (answer_map (λ t. V.choice n t) (reading s next rest)) (arm_reading arms at n next rest)) [
      | true ↦ λ x. refl
      | false ↦ λ x. arm_named arms at n next rest x
    ] named

arm_unnamed : (arms : ArmTrees) (at n next : ℕ) (rest : List ℕ) → names arms n ≡ false → not_a_value at ≡ arm_reading arms at n next rest
arm_unnamed no_arms at n next rest named = refl
arm_unnamed (more_arms name k s arms) at n next rest named =
    elim (nat_eq n k) as (λ b. cond b true (names arms n) ≡ false → not_a_value at ≡ cond b (answer_map (λ t. V.choice n t) (reading s next rest)) (arm_reading arms at n next rest)) [
      | true ↦ λ x. cc
      | false ↦ λ x. arm_unnamed arms at n next rest x
    ] named

arm_tested : (arms : ArmTrees) (at n next : ℕ) (rest : List ℕ) (b : Bool) → names arms n ≡ b → and_then (meaning_or_fault (cond b (Some n) None) at next rest) (λ m later bytes. answer_map (λ t. V.choice m t) (arm_only arms m later bytes)) ≡ arm_reading arms at n next rest
arm_tested arms at n next rest true named = arm_named arms at n next rest named
arm_tested arms at n next rest false named = arm_unnamed arms at n next rest named

choice_is : (arms : ArmTrees) (at : ℕ) (a : Answer ℕ) → and_then (and_then a (λ n next rest. meaning_or_fault (cond (names arms n) (Some n) None) at next rest)) (λ m later bytes. answer_map (λ t. V.choice m t) (arm_only arms m later bytes)) ≡ and_then a (arm_reading arms at)
choice_is arms at (found n next rest) = arm_tested arms at n next rest (names arms n) refl
choice_is arms at (short p) = refl
choice_is arms at (not_a_value p) = refl
choice_is arms at (bad_pad p) = refl

fits_named : (arms : ArmTrees) (n : ℕ) (t : ValueTree) → arm_fits arms n t ≡ true → names arms n ≡ true
fits_named no_arms n t fit = cc
fits_named (more_arms name k s arms) n t fit =
    elim (nat_eq n k) as (λ b. cond b (fits s t) (arm_fits arms n t) ≡ true → cond b true (names arms n) ≡ true) [
      | true ↦ λ x. refl
      | false ↦ λ x. fits_named arms n t x
    ] fit

choice_parts : (arms : ArmTrees) (z : ValueTree) → is_choice (arm_fits arms) z ≡ true → (n : ℕ) × (t : ValueTree) × (z ≡ V.choice n t) × (passing (names arms) n ≡ true) × (arm_fits arms n t ≡ true)
choice_parts arms (V.choice n t) fit =
    let q = and_both (nat_lt n 65536) (arm_fits arms n t) fit in
    (n, t, refl, ap (λ b. b && names arms n) q.0 ∙ fits_named arms n t q.1, q.1)
choice_parts arms _ fit = cc

choice_joint : (h : Type 0) (arms : ArmTrees) → (h → arms_are_proper arms ≡ true) → Joint h (passing (names arms)) one_number (arm_fits arms) pieces (is_choice (arm_fits arms)) pieces (λ (n : ℕ) t. V.choice n t)
choice_joint h arms proper = record {
  admitted = λ n t f g. ap (λ b. b && arm_fits arms n t) (and_both (nat_lt n 65536) (names arms n) f).0 ∙ g;
  spelled = λ n t g. refl;
  parts = λ holds. choice_parts arms;
  each = λ holds. passing_alike (names arms);
  some = λ holds n f. some_chosen arms n (proper holds) (and_both (nat_lt n 65536) (names arms n) f).1;
}

-- ---- all shapes

mutual
  pub reading_sound : (s : ShapeTree) (at : ℕ) (bytes : List ℕ) → AreOctets bytes → Sound (is_proper s ≡ true) (fits s) pieces at bytes (reading s at bytes)
  reading_sound S.boolean at bytes are = word_sound (truth_meaning _) at bytes are
  reading_sound S.cardinal at bytes are = word_sound (cardinal_meaning _) at bytes are
  reading_sound S.long_cardinal at bytes are = long_sound (long_cardinal_meaning _) at bytes are
  reading_sound S.integer at bytes are = word_sound (integer_meaning _) at bytes are
  reading_sound S.long_integer at bytes are = long_sound (long_integer_meaning _) at bytes are
  reading_sound S.text at bytes are = text_sound _ at bytes are
  reading_sound (S.enumeration labels) at bytes are = word_sound (label_meaning labels) at bytes are
  reading_sound (S.array len s) at bytes are =
      seen_sound (array_seen (is_proper s ≡ true) len (fits s)) (λ holds. let v = some_value s holds in (copies len v.0, copies_admitted (fits s) len v.0 v.1)) at bytes (items_read (reading s) len at bytes)
      (items_sound (is_proper s ≡ true) (fits s) (reading s) (alike s) (some_value s) (reading_sound s) len at bytes are)
  reading_sound (S.sequence bound s) at bytes are =
      sequence_sound (is_proper (S.sequence bound s) ≡ true) bound (fits s) (reading s)
      (λ holds. ltb-true bound 65536 (and_both (nat_lt bound 65536) (is_proper s) holds).0)
      (λ holds. alike s (and_both (nat_lt bound 65536) (is_proper s) holds).1)
      (λ holds. some_value s (and_both (nat_lt bound 65536) (is_proper s) holds).1)
      (λ from later octets. sound_weaker (is_proper s ≡ true) _ (fits s) pieces from later (reading s from later) (λ holds. (and_both (nat_lt bound 65536) (is_proper s) holds).1) (reading_sound s from later octets))
      at bytes are
  reading_sound (S.«record» fs) at bytes are =
      seen_sound (record_seen (are_proper fs ≡ true) fs) (some_values fs) at bytes (fields_reading fs at bytes) (fields_sound fs at bytes are)
  reading_sound (S.choice arms) at bytes are =
      let h : Type 0 = is_proper (S.choice arms) ≡ true in
      subst (Sound h (is_choice (arm_fits arms)) pieces at bytes) (choice_is arms at (word_read at bytes))
      (then_sound (choice_joint h arms (λ holds. (and_both (has_arm arms) (arms_are_proper arms) holds).1)) at bytes are (one_word (λ n. cond (names arms n) (Some n) None) at bytes)
      (word_sound (passing_meaning h (names arms) (λ holds. some_arm arms (and_both (has_arm arms) (arms_are_proper arms) holds).0)) at bytes are)
      (arm_only arms)
      (λ n next rest f octets. sound_weaker (arms_are_proper arms ≡ true) h (arm_fits arms n) pieces next rest (arm_only arms n next rest) (λ holds. (and_both (has_arm arms) (arms_are_proper arms) holds).1)
      (arm_sound arms n next rest (and_both (nat_lt n 65536) (names arms n) f).1 octets)))

  pub fields_sound : (fs : FieldTrees) (at : ℕ) (bytes : List ℕ) → AreOctets bytes → Sound (are_proper fs ≡ true) (fields_admit fs) pieces_of_all at bytes (fields_reading fs at bytes)
  fields_sound no_fields at bytes are = (0, omega arith, record { admitted = refl; whole = refl; offset_is = refl })
  fields_sound (more_fields name s fs) at bytes are =
      let h : Type 0 = are_proper (more_fields name s fs) ≡ true in
      let one : h → is_proper s ≡ true = λ holds. (and_both (is_proper s) (are_proper fs) holds).0 in
      let others : h → are_proper fs ≡ true = λ holds. (and_both (is_proper s) (are_proper fs) holds).1 in
      then_sound (fields_joint h name s fs one others) at bytes are (reading s at bytes)
      (sound_weaker (is_proper s ≡ true) h (fits s) pieces at bytes (reading s at bytes) one (reading_sound s at bytes are))
      (λ t next rest. fields_reading fs next rest)
      (λ t next rest f octets. sound_weaker (are_proper fs ≡ true) h (fields_admit fs) pieces_of_all next rest (fields_reading fs next rest) others (fields_sound fs next rest octets))

  arm_sound : (arms : ArmTrees) (n at : ℕ) (bytes : List ℕ) → names arms n ≡ true → AreOctets bytes → Sound (arms_are_proper arms ≡ true) (arm_fits arms n) pieces at bytes (arm_only arms n at bytes)
  arm_sound no_arms n at bytes named are = cc
  arm_sound (more_arms name k s arms) n at bytes named are =
      let h : Type 0 = arms_are_proper (more_arms name k s arms) ≡ true in
      elim (nat_eq n k) as (λ b. cond b true (names arms n) ≡ true → Sound h (λ t. cond b (fits s t) (arm_fits arms n t)) pieces at bytes (cond b (reading s at bytes) (arm_only arms n at bytes))) [
        | true ↦ λ x. sound_weaker (is_proper s ≡ true) h (fits s) pieces at bytes (reading s at bytes) (λ holds. (and_both (is_proper s) (arms_are_proper arms) holds).0) (reading_sound s at bytes are)
        | false ↦ λ x. sound_weaker (arms_are_proper arms ≡ true) h (arm_fits arms n) pieces at bytes (arm_only arms n at bytes) (λ holds. (and_both (is_proper s) (arms_are_proper arms) holds).1) (arm_sound arms n at bytes x are)
      ] named
