-- What is shown of values that fit is read, and what is read is shown so.
use Rattle.std.proofs.Common.{◌≡◌, ◌∙◌, ℕ, zero, suc, ◌<◌, ◌≤◌, Bool, true, false, cond, ◌&&◌, nat_eq, nat_le, nat_lt, List, [], ◌∷◌, ◌++◌, length, codes, Option, Some, None, refl, sym, ap, arith, append_assoc, eq-eqb, lt-ltb, le-leb, leb-true}
use Rattle.std.specs.Prelude.{pos, negsuc}
use Rattle.std.specs.List.{list_all, list_any}
use Rattle.std.specs.Fmt.{decimal}
use Rattle.std.proofs.lemmas.Bool.{eqb-true, and_parts, ltb-true}
use Rattle.circus_value.specs.ValueTree.{ValueTree, ValueTrees, none, more, value_trees}
use Rattle.circus_value.specs.ValueTree as V
use Rattle.circus_value.specs.ShapeTree.{ShapeTree, FieldTrees, ArmTrees, no_fields, more_fields, no_arms, more_arms}
use Rattle.circus_value.specs.ShapeTree as S
use Rattle.circus_value.specs.declared.shape.Label.{Label}
use Rattle.circus_value.specs.Fits.{fits, fields_fit, arm_fits, every, count_of}
use Rattle.circus_value.specs.Shown.{truth_text, shown_bytes, text_of_value, shown_items, shown_others, shown_list}
use Rattle.circus_value_text.specs.Reading.{Read, and_then, seen_as, behind_prefix, behind, between, read_meaning, number_read, signed_read, octets_read, comma, one_more, items_read, none_if, items_within, truth_if, truth_read, label_of, label_read, text_read, reading, fields_reading, arm_reading, choice_read, list_reading}
use Rattle.circus_value_text.specs.Stopping.{Stops}
use Rattle.circus_value_text.proofs.Marks.{pair_is, passed_front, passed_stands, behind_some, and_then_some, seen_as_some, between_complete, between_sound}
use Rattle.circus_value_text.proofs.Numbers.{no_brace, number_complete, number_sound, signed_complete, signed_sound}
use Rattle.circus_value_text.proofs.Octets.{octets_complete, octets_sound}

-- the list of a chain of values
abbrev pub listed : ValueTrees → List ValueTree
listed none = []
listed (more t ts) = t ∷ listed ts

pub trees_listed : (ts : ValueTrees) → value_trees (listed ts) ≡ ts
trees_listed none = refl
trees_listed (more t ts) = ap (more t) (trees_listed ts)

-- the texts of values, the first of them behind this, and the others behind a comma
abbrev pub shown_behind : List ℕ → ValueTrees → List ℕ
shown_behind mark none = []
shown_behind mark (more t ts) = mark ++ (text_of_value t ++ shown_others ts)

pub others_behind : (ts : ValueTrees) → shown_behind comma ts ≡ shown_others ts
others_behind none = refl
others_behind (more t ts) = refl

items_behind : (ts : ValueTrees) → shown_behind [] ts ≡ shown_items ts
items_behind none = refl
items_behind (more t ts) = refl

-- the text of more values
behind_more : (mark : List ℕ) (t : ValueTree) (ts : ValueTrees) (rest : List ℕ) → shown_behind mark (more t ts) ++ rest ≡ mark ++ (text_of_value t ++ (shown_behind comma ts ++ rest))
behind_more mark t ts rest =
    append_assoc mark (text_of_value t ++ shown_others ts) rest
    ∙ ap (λ x. mark ++ x) (append_assoc (text_of_value t) (shown_others ts) rest)
    ∙ ap (λ x. mark ++ (text_of_value t ++ (x ++ rest))) (sym (others_behind ts))

-- no digit begins what stands behind a value
others_stop : (ts : ValueTrees) (rest : List ℕ) → Stops rest → Stops (shown_behind comma ts ++ rest)
others_stop none rest stops = stops
others_stop (more t ts) rest stops = refl

-- ---- what is shown is read

-- a reader of items reads what is shown of a value that passes
abbrev pub Completes : (List ℕ → Read ValueTree) → (ValueTree → Bool) → Type 0
Completes item passes = (t : ValueTree) (rest : List ℕ) → passes t ≡ true → Stops rest → item (text_of_value t ++ rest) ≡ Some (t, rest)

one_complete : (item : List ℕ → Read ValueTree) (mark : List ℕ) (t : ValueTree) (ts : ValueTrees) (rest : List ℕ) (others : List ℕ → Read (List ValueTree)) → item (text_of_value t ++ (shown_behind comma ts ++ rest)) ≡ Some (t, shown_behind comma ts ++ rest) → others (shown_behind comma ts ++ rest) ≡ Some (listed ts, rest) → behind (behind_prefix mark (shown_behind mark (more t ts) ++ rest)) (λ inner. and_then (item inner) (λ u later. one_more u (others later))) ≡ Some (t ∷ listed ts, rest)
one_complete item mark t ts rest others first later =
    ap (λ text. behind (behind_prefix mark text) (λ inner. and_then (item inner) (λ u more. one_more u (others more)))) (behind_more mark t ts rest)
    ∙ ap (λ r. behind r (λ inner. and_then (item inner) (λ u more. one_more u (others more)))) (passed_front mark (text_of_value t ++ (shown_behind comma ts ++ rest)))
    ∙ ap (λ r. and_then r (λ u more. one_more u (others more))) first
    ∙ ap (one_more t) later

items_complete : (item : List ℕ → Read ValueTree) (passes : ValueTree → Bool) → Completes item passes → (count : ℕ) (mark : List ℕ) (ts : ValueTrees) (rest : List ℕ) → count_of ts ≡ count → every passes ts ≡ true → Stops rest → items_read item count mark (shown_behind mark ts ++ rest) ≡ Some (listed ts, rest)
items_complete item passes complete zero mark none rest count all stops = refl
items_complete item passes complete zero mark (more t ts) rest count all stops = cc
items_complete item passes complete (suc n) mark none rest count all stops = cc
items_complete item passes complete (suc n) mark (more t ts) rest count all stops =
    let parts = and_parts (passes t) (every passes ts) all in
    one_complete item mark t ts rest (items_read item n comma) (complete t (shown_behind comma ts ++ rest) parts.0 (others_stop ts rest stops))
    (items_complete item passes complete n comma ts rest (omega (arith, count)) parts.1 stops)

-- a value that passes begins with no closing brace
abbrev pub BeginsWithout : (ValueTree → Bool) → Type 0
BeginsWithout passes = (t : ValueTree) (rest : List ℕ) → passes t ≡ true → behind_prefix (codes "}") (text_of_value t ++ rest) ≡ None

-- a mark that keeps a closing brace away
abbrev pub KeepsOff : (ValueTree → Bool) → List ℕ → Type 0
KeepsOff passes mark = (t : ValueTree) (rest : List ℕ) → passes t ≡ true → behind_prefix (codes "}") (mark ++ (text_of_value t ++ rest)) ≡ None

within_complete : (item : List ℕ → Read ValueTree) (passes : ValueTree → Bool) → Completes item passes → (bound : ℕ) (mark : List ℕ) (ts : ValueTrees) (rest : List ℕ) → KeepsOff passes mark → count_of ts ≤ bound → every passes ts ≡ true → items_within item bound mark (shown_behind mark ts ++ (125 ∷ rest)) ≡ Some (listed ts, 125 ∷ rest)
within_complete item passes complete zero mark none rest off few all = refl
within_complete item passes complete zero mark (more t ts) rest off few all = absurd (omega (arith, few))
within_complete item passes complete (suc n) mark none rest off few all = refl
within_complete item passes complete (suc n) mark (more t ts) rest off few all =
    let parts = and_parts (passes t) (every passes ts) all in
    let text = shown_behind mark (more t ts) ++ (125 ∷ rest) in
    let go_on = behind (behind_prefix mark text) (λ inner. and_then (item inner) (λ u later. one_more u (items_within item n comma later))) in
    let opening : behind_prefix (codes "}") text ≡ None = ap (behind_prefix (codes "}")) (behind_more mark t ts (125 ∷ rest)) ∙ off t (shown_behind comma ts ++ (125 ∷ rest)) parts.0 in
    ap (λ r. none_if text r go_on) opening
    ∙ one_complete item mark t ts (125 ∷ rest) (items_within item n comma) (complete t (shown_behind comma ts ++ (125 ∷ rest)) parts.0 (others_stop ts (125 ∷ rest) refl))
    (within_complete item passes complete n comma ts rest (λ u more is. refl) (omega (arith, few)) parts.1)

truth_complete : (b : Bool) (rest : List ℕ) → truth_read (truth_text b ++ rest) ≡ Some (b, rest)
truth_complete true rest = refl
truth_complete false rest = refl

label_complete : (labels : List Label) (n : ℕ) (rest : List ℕ) → (nat_lt n 65536 && list_any (λ (l : Label). nat_eq l.number n) labels) ≡ true → Stops rest → label_read labels (35 ∷ (decimal n ++ rest)) ≡ Some (V.enumeration n, rest)
label_complete labels n rest fit stops =
    let parts = and_parts (nat_lt n 65536) (list_any (λ (l : Label). nat_eq l.number n) labels) fit in
    let small = ltb-true n 65536 parts.0 in
    ap (λ r. and_then r (λ m later. read_meaning (label_of labels m) later)) (number_complete 65535 n rest (omega (arith, small)) (omega arith) stops)
    ∙ ap (λ is. read_meaning (cond is (Some (V.enumeration n)) None) rest) parts.1

begins_without : (s : ShapeTree) → BeginsWithout (fits s)
begins_without S.boolean (V.boolean true) rest fit = refl
begins_without S.boolean (V.boolean false) rest fit = refl
begins_without S.cardinal (V.cardinal n) rest fit = let small = ltb-true n 65536 fit in no_brace n rest (omega (arith, small))
begins_without S.long_cardinal (V.long_cardinal n) rest fit = let small = ltb-true n 4294967296 fit in no_brace n rest (omega (arith, small))
begins_without S.integer (V.integer (pos n)) rest fit = let small = ltb-true n 32768 fit in no_brace n rest (omega (arith, small))
begins_without S.integer (V.integer (negsuc n)) rest fit = refl
begins_without S.long_integer (V.long_integer (pos n)) rest fit = let small = ltb-true n 2147483648 fit in no_brace n rest (omega (arith, small))
begins_without S.long_integer (V.long_integer (negsuc n)) rest fit = refl
begins_without S.text (V.text bytes) rest fit = refl
begins_without (S.enumeration labels) (V.enumeration n) rest fit = refl
begins_without (S.array len s) (V.array items) rest fit = refl
begins_without (S.sequence bound s) (V.sequence items) rest fit = refl
begins_without (S.«record» _) (V.«record» items) rest fit = refl
begins_without (S.choice arms) (V.choice n t) rest fit =
    let parts = and_parts (nat_lt n 65536) (arm_fits arms n t) fit in
    let small = ltb-true n 65536 parts.0 in
    ap (behind_prefix (codes "}")) (append_assoc (decimal n) (40 ∷ (text_of_value t ++ 41 ∷ [])) rest) ∙ no_brace n ((40 ∷ (text_of_value t ++ 41 ∷ [])) ++ rest) (omega (arith, small))
begins_without _ _ rest fit = cc

-- items between two marks
enclosed_complete : (opening closing : ℕ) (ts : ValueTrees) (rest : List ℕ) (read : List ℕ → Read (List ValueTree)) → read (shown_behind [] ts ++ (closing ∷ rest)) ≡ Some (listed ts, closing ∷ rest) → between (opening ∷ []) (closing ∷ []) read (opening ∷ ((shown_items ts ++ closing ∷ []) ++ rest)) ≡ Some (listed ts, rest)
enclosed_complete opening closing ts rest read is =
    ap (λ text. between (opening ∷ []) (closing ∷ []) read (opening ∷ text)) (append_assoc (shown_items ts) (closing ∷ []) rest ∙ ap (λ text. text ++ (closing ∷ rest)) (sym (items_behind ts)))
    ∙ between_complete (opening ∷ []) (closing ∷ []) (shown_behind [] ts) rest read (listed ts) is

text_complete : (bytes rest : List ℕ) → length bytes ≤ 65535 → list_all (λ b. nat_lt b 256) bytes ≡ true → text_read (34 ∷ ((shown_bytes bytes ++ 34 ∷ []) ++ rest)) ≡ Some (bytes, rest)
text_complete bytes rest few all =
    ap (λ text. text_read (34 ∷ text)) (append_assoc (shown_bytes bytes) (34 ∷ []) rest)
    ∙ between_complete (34 ∷ []) (34 ∷ []) (shown_bytes bytes) rest (octets_read 65535) bytes (octets_complete 65535 bytes rest few all)

mutual
  pub complete : (s : ShapeTree) → Completes (reading s) (fits s)
  complete S.boolean (V.boolean b) rest fit stops = ap (seen_as V.boolean) (truth_complete b rest)
  complete S.cardinal (V.cardinal n) rest fit stops =
      let small = ltb-true n 65536 fit in
      ap (seen_as V.cardinal) (number_complete 65535 n rest (omega (arith, small)) (omega arith) stops)
  complete S.long_cardinal (V.long_cardinal n) rest fit stops =
      let small = ltb-true n 4294967296 fit in
      ap (seen_as V.long_cardinal) (number_complete 4294967295 n rest (omega (arith, small)) (omega arith) stops)
  complete S.integer (V.integer z) rest fit stops = ap (seen_as V.integer) (signed_complete 32768 z rest fit (omega arith) stops)
  complete S.long_integer (V.long_integer z) rest fit stops = ap (seen_as V.long_integer) (signed_complete 2147483648 z rest fit (omega arith) stops)
  complete S.text (V.text bytes) rest fit stops =
      let parts = and_parts (nat_lt (length bytes) 65536) (list_all (λ b. nat_lt b 256) bytes) fit in
      let small = ltb-true (length bytes) 65536 parts.0 in
      ap (seen_as V.text) (text_complete bytes rest (omega (arith, small)) parts.1)
  complete (S.enumeration labels) (V.enumeration n) rest fit stops = label_complete labels n rest fit stops
  complete (S.array len s) (V.array items) rest fit stops =
      let parts = and_parts (nat_eq (count_of items) len) (every (fits s) items) fit in
      ap (seen_as (λ ts. V.array (value_trees ts)))
      (enclosed_complete 123 125 items rest (items_read (reading s) len []) (items_complete (reading s) (fits s) (complete s) len [] items (125 ∷ rest) (eqb-true (count_of items) len parts.0) parts.1 refl))
      ∙ ap (λ ts. Some (V.array ts, rest)) (trees_listed items)
  complete (S.sequence bound s) (V.sequence items) rest fit stops =
      let parts = and_parts (nat_le (count_of items) bound) (every (fits s) items) fit in
      ap (seen_as (λ ts. V.sequence (value_trees ts)))
      (enclosed_complete 123 125 items rest (items_within (reading s) bound []) (within_complete (reading s) (fits s) (complete s) bound [] items rest (begins_without s) (leb-true (count_of items) bound parts.0) parts.1))
      ∙ ap (λ ts. Some (V.sequence ts, rest)) (trees_listed items)
  complete (S.«record» fields) (V.«record» items) rest fit stops =
      ap (seen_as (λ ts. V.«record» (value_trees ts)))
      (enclosed_complete 91 93 items rest (fields_reading fields []) (fields_complete fields [] items (93 ∷ rest) fit refl))
      ∙ ap (λ ts. Some (V.«record» ts, rest)) (trees_listed items)
  complete (S.choice arms) (V.choice n t) rest fit stops =
      let parts = and_parts (nat_lt n 65536) (arm_fits arms n t) fit in
      let small = ltb-true n 65536 parts.0 in
      let inner = 40 ∷ (text_of_value t ++ (41 ∷ rest)) in
      ap (choice_read arms) (append_assoc (decimal n) (40 ∷ (text_of_value t ++ 41 ∷ [])) rest ∙ ap (λ x. decimal n ++ (40 ∷ x)) (append_assoc (text_of_value t) (41 ∷ []) rest))
      ∙ ap (λ r. and_then r (λ m later. between (codes "(") (codes ")") (arm_reading arms m) later)) (number_complete 65535 n inner (omega (arith, small)) (omega arith) refl)
      ∙ between_complete (40 ∷ []) (41 ∷ []) (text_of_value t) rest (arm_reading arms n) (V.choice n t) (arm_complete arms n t (41 ∷ rest) parts.1 refl)
  complete _ _ rest fit stops = cc

  pub fields_complete : (fields : FieldTrees) (mark : List ℕ) (ts : ValueTrees) (rest : List ℕ) → fields_fit fields ts ≡ true → Stops rest → fields_reading fields mark (shown_behind mark ts ++ rest) ≡ Some (listed ts, rest)
  fields_complete no_fields mark none rest fit stops = refl
  fields_complete no_fields mark (more t ts) rest fit stops = cc
  fields_complete (more_fields name s _) mark none rest fit stops = cc
  fields_complete (more_fields name s fields) mark (more t ts) rest fit stops =
      let parts = and_parts (fits s t) (fields_fit fields ts) fit in
      one_complete (reading s) mark t ts rest (fields_reading fields comma) (complete s t (shown_behind comma ts ++ rest) parts.0 (others_stop ts rest stops))
      (fields_complete fields comma ts rest parts.1 stops)

  pub arm_complete : (arms : ArmTrees) (n : ℕ) (t : ValueTree) (rest : List ℕ) → arm_fits arms n t ≡ true → Stops rest → arm_reading arms n (text_of_value t ++ rest) ≡ Some (V.choice n t, rest)
  arm_complete no_arms n t rest fit stops = cc
  arm_complete (more_arms name number s arms) n t rest fit stops = by_number (nat_eq n number) (λ is. complete s t rest is stops) (λ is. arm_complete arms n t rest is stops) fit
    where
      by_number : (is : Bool) → (fits s t ≡ true → reading s (text_of_value t ++ rest) ≡ Some (t, rest)) → (arm_fits arms n t ≡ true → arm_reading arms n (text_of_value t ++ rest) ≡ Some (V.choice n t, rest)) → cond is (fits s t) (arm_fits arms n t) ≡ true → cond is (seen_as (λ u. V.choice n u) (reading s (text_of_value t ++ rest))) (arm_reading arms n (text_of_value t ++ rest)) ≡ Some (V.choice n t, rest)
      by_number true here others fit = ap (seen_as (λ u. V.choice n u)) (here fit)
      by_number false here others fit = others fit

-- ---- what is read is shown

abbrev pub Sounds : (List ℕ → Read ValueTree) → (ValueTree → Bool) → Type 0
Sounds item passes = (text : List ℕ) (t : ValueTree) (rest : List ℕ) → item text ≡ Some (t, rest) → (text ≡ text_of_value t ++ rest) × (passes t ≡ true)

-- a value, and others behind it
record IsOne (passes : ValueTree → Bool) (mark text : List ℕ) (others : List ℕ → Read (List ValueTree)) (ts : List ValueTree) (rest : List ℕ) : Type 0 where
  first : ValueTree
  more : List ValueTree
  later : List ℕ
  are : ts ≡ first ∷ more
  text_is : text ≡ mark ++ (text_of_value first ++ later)
  passing : passes first ≡ true
  others_are : others later ≡ Some (more, rest)

one_sound : (item : List ℕ → Read ValueTree) (passes : ValueTree → Bool) → Sounds item passes → (mark text : List ℕ) (others : List ℕ → Read (List ValueTree)) (ts : List ValueTree) (rest : List ℕ) → behind (behind_prefix mark text) (λ inner. and_then (item inner) (λ t later. one_more t (others later))) ≡ Some (ts, rest) → IsOne passes mark text others ts rest
one_sound item passes sound mark text others ts rest is =
    let opened = behind_some (behind_prefix mark text) (λ inner. and_then (item inner) (λ t later. one_more t (others later))) (ts, rest) is in
    let value = and_then_some (item opened.0) (λ t later. one_more t (others later)) (ts, rest) opened.2 in
    let chain = seen_as_some (λ us. value.0.0 ∷ us) (others value.0.1) ts rest value.2 in
    let shown_first = sound opened.0 value.0.0 value.0.1 value.1 in
    record {
      first = value.0.0;
      more = chain.0;
      later = value.0.1;
      are = chain.2;
      text_is = passed_stands mark text opened.0 opened.1 ∙ ap (λ x. mark ++ x) shown_first.0;
      passing = shown_first.1;
      others_are = chain.1;
    }

-- the text of a value and others
joined : (mark text rest : List ℕ) (t : ValueTree) (us ts : List ValueTree) (later : List ℕ) → ts ≡ t ∷ us → text ≡ mark ++ (text_of_value t ++ later) → later ≡ shown_behind comma (value_trees us) ++ rest → text ≡ shown_behind mark (value_trees ts) ++ rest
joined mark text rest t us ts later are text_is later_is =
    text_is ∙ ap (λ x. mark ++ (text_of_value t ++ x)) later_is ∙ sym (behind_more mark t (value_trees us) rest) ∙ ap (λ xs. shown_behind mark (value_trees xs) ++ rest) (sym are)

passing_more : (passes : ValueTree → Bool) (t : ValueTree) (us ts : List ValueTree) → ts ≡ t ∷ us → passes t ≡ true → every passes (value_trees us) ≡ true → every passes (value_trees ts) ≡ true
passing_more passes t us ts are first later = ap (λ xs. every passes (value_trees xs)) are ∙ ap (λ is. is && every passes (value_trees us)) first ∙ later

items_sound : (item : List ℕ → Read ValueTree) (passes : ValueTree → Bool) → Sounds item passes → (count : ℕ) (mark text : List ℕ) (ts : List ValueTree) (rest : List ℕ) → items_read item count mark text ≡ Some (ts, rest) → (text ≡ shown_behind mark (value_trees ts) ++ rest) × (count_of (value_trees ts) ≡ count) × (every passes (value_trees ts) ≡ true)
items_sound item passes sound zero mark text ts rest is =
    let parts = pair_is [] ts text rest is in
    let no = parts.0 in
    (parts.1 ∙ ap (λ xs. shown_behind mark (value_trees xs) ++ rest) no, sym (ap (λ xs. count_of (value_trees xs)) no), sym (ap (λ xs. every passes (value_trees xs)) no))
items_sound item passes sound (suc n) mark text ts rest is =
    let one = one_sound item passes sound mark text (items_read item n comma) ts rest is in
    let later = items_sound item passes sound n comma one.later one.more rest one.others_are in (
      joined mark text rest one.first one.more ts one.later one.are one.text_is later.0,
      ap (λ xs. count_of (value_trees xs)) one.are ∙ ap suc later.1,
      passing_more passes one.first one.more ts one.are one.passing later.2,
    )

within_sound : (item : List ℕ → Read ValueTree) (passes : ValueTree → Bool) → Sounds item passes → (bound : ℕ) (mark text : List ℕ) (ts : List ValueTree) (rest : List ℕ) → items_within item bound mark text ≡ Some (ts, rest) → (text ≡ shown_behind mark (value_trees ts) ++ rest) × (count_of (value_trees ts) ≤ bound) × (every passes (value_trees ts) ≡ true)
within_sound item passes sound zero mark text ts rest is =
    let parts = pair_is [] ts text rest is in
    let no = parts.0 in
    (parts.1 ∙ ap (λ xs. shown_behind mark (value_trees xs) ++ rest) no, omega (arith, ap (λ xs. count_of (value_trees xs)) no), sym (ap (λ xs. every passes (value_trees xs)) no))
within_sound item passes sound (suc n) mark text ts rest is = by_brace (behind_prefix (codes "}") text) (within_sound item passes sound n) is
  where
    go_on : Read (List ValueTree)
    go_on = behind (behind_prefix mark text) (λ inner. and_then (item inner) (λ u later. one_more u (items_within item n comma later)))

    by_brace : (r : Option (List ℕ)) → ((m later : List ℕ) (us : List ValueTree) (more : List ℕ) → items_within item n m later ≡ Some (us, more) → (later ≡ shown_behind m (value_trees us) ++ more) × (count_of (value_trees us) ≤ n) × (every passes (value_trees us) ≡ true)) → none_if text r go_on ≡ Some (ts, rest) → (text ≡ shown_behind mark (value_trees ts) ++ rest) × (count_of (value_trees ts) ≤ suc n) × (every passes (value_trees ts) ≡ true)
    by_brace (Some closed) go_further is =
        let parts = pair_is [] ts text rest is in
        let no = parts.0 in
        (parts.1 ∙ ap (λ xs. shown_behind mark (value_trees xs) ++ rest) no, omega (arith, ap (λ xs. count_of (value_trees xs)) no), sym (ap (λ xs. every passes (value_trees xs)) no))
    by_brace None go_further is =
        let one = one_sound item passes sound mark text (items_within item n comma) ts rest is in
        let later = go_further comma one.later one.more rest one.others_are in (
          joined mark text rest one.first one.more ts one.later one.are one.text_is later.0,
          omega (arith, later.1, ap (λ xs. count_of (value_trees xs)) one.are),
          passing_more passes one.first one.more ts one.are one.passing later.2,
        )

-- items between two marks
enclosed_sound : (opening closing : ℕ) (text rest : List ℕ) (ts : List ValueTree) (read : List ℕ → Read (List ValueTree)) → between (opening ∷ []) (closing ∷ []) read text ≡ Some (ts, rest) → (inner : List ℕ) × (read inner ≡ Some (ts, closing ∷ rest)) × (inner ≡ shown_behind [] (value_trees ts) ++ (closing ∷ rest) → text ≡ opening ∷ ((shown_items (value_trees ts) ++ closing ∷ []) ++ rest))
enclosed_sound opening closing text rest ts read is =
    let r = between_sound (opening ∷ []) (closing ∷ []) text rest read ts is in
    (r.0, r.2, λ inner. r.1 ∙ ap (λ x. opening ∷ x) (inner ∙ ap (λ x. x ++ (closing ∷ rest)) (items_behind (value_trees ts)) ∙ sym (append_assoc (shown_items (value_trees ts)) (closing ∷ []) rest)))

truth_sound : (text rest : List ℕ) (b : Bool) → truth_read text ≡ Some (b, rest) → text ≡ truth_text b ++ rest
truth_sound text rest b is = by_marks (behind_prefix (codes "TRUE") text) (behind_prefix (codes "FALSE") text) refl refl is
  where
    by_marks : (one other : Option (List ℕ)) → behind_prefix (codes "TRUE") text ≡ one → behind_prefix (codes "FALSE") text ≡ other → truth_if one other ≡ Some (b, rest) → text ≡ truth_text b ++ rest
    by_marks (Some later) other yes_is no_is is =
        let parts = pair_is true b later rest is in
        passed_stands (codes "TRUE") text later yes_is ∙ (λ i. truth_text (parts.0 i) ++ parts.1 i)
    by_marks None (Some later) yes_is no_is is =
        let parts = pair_is false b later rest is in
        passed_stands (codes "FALSE") text later no_is ∙ (λ i. truth_text (parts.0 i) ++ parts.1 i)
    by_marks None None yes_is no_is is = cc

label_sound : (labels : List Label) (text : List ℕ) (t : ValueTree) (rest : List ℕ) → label_read labels text ≡ Some (t, rest) → (text ≡ text_of_value t ++ rest) × (fits (S.enumeration labels) t ≡ true)
label_sound labels text t rest is =
    let marked = behind_some (behind_prefix (codes "#") text) (λ inner. and_then (number_read 65535 inner) (λ n later. read_meaning (label_of labels n) later)) (t, rest) is in
    let number = and_then_some (number_read 65535 marked.0) (λ n later. read_meaning (label_of labels n) later) (t, rest) marked.2 in
    let spelled = number_sound 65535 number.0.0 marked.0 number.0.1 (omega arith) number.1 in
    by_label number.0.0 number.0.1 (list_any (λ (l : Label). nat_eq l.number number.0.0) labels) refl number.2 (passed_stands (codes "#") text marked.0 marked.1 ∙ ap (λ x. 35 ∷ x) spelled.0) (omega (arith, spelled.1))
  where
    by_label : (n : ℕ) (later : List ℕ) (has : Bool) → list_any (λ (l : Label). nat_eq l.number n) labels ≡ has → read_meaning (cond has (Some (V.enumeration n)) None) later ≡ Some (t, rest) → text ≡ 35 ∷ (decimal n ++ later) → n < 65536 → (text ≡ text_of_value t ++ rest) × (fits (S.enumeration labels) t ≡ true)
    by_label n later true has is spelled small =
        let parts = pair_is (V.enumeration n) t later rest is in
        (spelled ∙ (λ i. text_of_value (parts.0 i) ++ parts.1 i), ap (fits (S.enumeration labels)) (sym parts.0) ∙ ap (λ b. b && list_any (λ (l : Label). nat_eq l.number n) labels) (lt-ltb n 65536 small) ∙ has)
    by_label n later false has is spelled small = cc

text_sound : (text bytes rest : List ℕ) → text_read text ≡ Some (bytes, rest) → (text ≡ 34 ∷ ((shown_bytes bytes ++ 34 ∷ []) ++ rest)) × (fits S.text (V.text bytes) ≡ true)
text_sound text bytes rest is =
    let r = between_sound (34 ∷ []) (34 ∷ []) text rest (octets_read 65535) bytes is in
    let inner = octets_sound 65535 r.0 bytes (34 ∷ rest) r.2 in (
      r.1 ∙ ap (λ x. 34 ∷ x) (inner.0 ∙ sym (append_assoc (shown_bytes bytes) (34 ∷ []) rest)),
      ap (λ b. b && list_all (λ c. nat_lt c 256) bytes) (lt-ltb (length bytes) 65536 (omega (arith, inner.1))) ∙ inner.2,
    )

mutual
  pub sound : (s : ShapeTree) → Sounds (reading s) (fits s)
  sound S.boolean text t rest is =
      let r = seen_as_some V.boolean (truth_read text) t rest is in
      (truth_sound text rest r.0 r.1 ∙ ap (λ u. text_of_value u ++ rest) (sym r.2), ap (fits S.boolean) r.2)
  sound S.cardinal text t rest is =
      let r = seen_as_some V.cardinal (number_read 65535 text) t rest is in
      let n = number_sound 65535 r.0 text rest (omega arith) r.1 in
      (n.0 ∙ ap (λ u. text_of_value u ++ rest) (sym r.2), ap (fits S.cardinal) r.2 ∙ lt-ltb r.0 65536 (omega (arith, n.1)))
  sound S.long_cardinal text t rest is =
      let r = seen_as_some V.long_cardinal (number_read 4294967295 text) t rest is in
      let n = number_sound 4294967295 r.0 text rest (omega arith) r.1 in
      (n.0 ∙ ap (λ u. text_of_value u ++ rest) (sym r.2), ap (fits S.long_cardinal) r.2 ∙ lt-ltb r.0 4294967296 (omega (arith, n.1)))
  sound S.integer text t rest is =
      let r = seen_as_some V.integer (signed_read 32768 text) t rest is in
      let z = signed_sound 32768 r.0 text rest (omega arith) (omega arith) r.1 in
      (z.0 ∙ ap (λ u. text_of_value u ++ rest) (sym r.2), ap (fits S.integer) r.2 ∙ z.1)
  sound S.long_integer text t rest is =
      let r = seen_as_some V.long_integer (signed_read 2147483648 text) t rest is in
      let z = signed_sound 2147483648 r.0 text rest (omega arith) (omega arith) r.1 in
      (z.0 ∙ ap (λ u. text_of_value u ++ rest) (sym r.2), ap (fits S.long_integer) r.2 ∙ z.1)
  sound S.text text t rest is =
      let r = seen_as_some V.text (text_read text) t rest is in
      let bytes = text_sound text r.0 rest r.1 in
      (bytes.0 ∙ ap (λ u. text_of_value u ++ rest) (sym r.2), ap (fits S.text) r.2 ∙ bytes.1)
  sound (S.enumeration labels) text t rest is = label_sound labels text t rest is
  sound (S.array len s) text t rest is =
      let r = seen_as_some (λ ts. V.array (value_trees ts)) (between (codes "{") (codes "}") (items_read (reading s) len []) text) t rest is in
      let inner = enclosed_sound 123 125 text rest r.0 (items_read (reading s) len []) r.1 in
      let items = items_sound (reading s) (fits s) (sound s) len [] inner.0 r.0 (125 ∷ rest) inner.1 in (
        inner.2 items.0 ∙ ap (λ u. text_of_value u ++ rest) (sym r.2),
        ap (fits (S.array len s)) r.2 ∙ ap (λ b. b && every (fits s) (value_trees r.0)) (eq-eqb (count_of (value_trees r.0)) len items.1) ∙ items.2,
      )
  sound (S.sequence bound s) text t rest is =
      let r = seen_as_some (λ ts. V.sequence (value_trees ts)) (between (codes "{") (codes "}") (items_within (reading s) bound []) text) t rest is in
      let inner = enclosed_sound 123 125 text rest r.0 (items_within (reading s) bound []) r.1 in
      let items = within_sound (reading s) (fits s) (sound s) bound [] inner.0 r.0 (125 ∷ rest) inner.1 in (
        inner.2 items.0 ∙ ap (λ u. text_of_value u ++ rest) (sym r.2),
        ap (fits (S.sequence bound s)) r.2 ∙ ap (λ b. b && every (fits s) (value_trees r.0)) (le-leb (count_of (value_trees r.0)) bound items.1) ∙ items.2,
      )
  sound (S.«record» fields) text t rest is =
      let r = seen_as_some (λ ts. V.«record» (value_trees ts)) (between (codes "[") (codes "]") (fields_reading fields []) text) t rest is in
      let inner = enclosed_sound 91 93 text rest r.0 (fields_reading fields []) r.1 in
      let items = fields_sound fields [] inner.0 r.0 (93 ∷ rest) inner.1 in
      (inner.2 items.0 ∙ ap (λ u. text_of_value u ++ rest) (sym r.2), ap (fits (S.«record» fields)) r.2 ∙ items.1)
  sound (S.choice arms) text t rest is =
      let number = and_then_some (number_read 65535 text) (λ n later. between (codes "(") (codes ")") (arm_reading arms n) later) (t, rest) is in
      let spelled = number_sound 65535 number.0.0 text number.0.1 (omega arith) number.1 in
      let inner = between_sound (40 ∷ []) (41 ∷ []) number.0.1 rest (arm_reading arms number.0.0) t number.2 in
      let arm = arm_sound arms number.0.0 inner.0 t (41 ∷ rest) inner.2 in (
        spelled.0 ∙ ap (λ x. decimal number.0.0 ++ x) (inner.1 ∙ ap (λ x. 40 ∷ x) (arm.2.0 ∙ sym (append_assoc (text_of_value arm.0) (41 ∷ []) rest))) ∙ sym (append_assoc (decimal number.0.0) (40 ∷ (text_of_value arm.0 ++ 41 ∷ [])) rest) ∙ ap (λ u. text_of_value u ++ rest) (sym arm.1),
        ap (fits (S.choice arms)) arm.1 ∙ ap (λ b. b && arm_fits arms number.0.0 arm.0) (lt-ltb number.0.0 65536 (omega (arith, spelled.1))) ∙ arm.2.1,
      )

  pub fields_sound : (fields : FieldTrees) (mark text : List ℕ) (ts : List ValueTree) (rest : List ℕ) → fields_reading fields mark text ≡ Some (ts, rest) → (text ≡ shown_behind mark (value_trees ts) ++ rest) × (fields_fit fields (value_trees ts) ≡ true)
  fields_sound no_fields mark text ts rest is =
      let parts = pair_is [] ts text rest is in
      let no = parts.0 in
      (parts.1 ∙ ap (λ xs. shown_behind mark (value_trees xs) ++ rest) no, sym (ap (λ xs. fields_fit no_fields (value_trees xs)) no))
  fields_sound (more_fields name s fields) mark text ts rest is =
      let one = one_sound (reading s) (fits s) (sound s) mark text (fields_reading fields comma) ts rest is in
      let later = fields_sound fields comma one.later one.more rest one.others_are in (
        joined mark text rest one.first one.more ts one.later one.are one.text_is later.0,
        ap (λ xs. fields_fit (more_fields name s fields) (value_trees xs)) one.are ∙ ap (λ b. b && fields_fit fields (value_trees one.more)) one.passing ∙ later.1,
      )

  pub arm_sound : (arms : ArmTrees) (n : ℕ) (text : List ℕ) (t : ValueTree) (rest : List ℕ) → arm_reading arms n text ≡ Some (t, rest) → (u : ValueTree) × (t ≡ V.choice n u) × ((text ≡ text_of_value u ++ rest) × (arm_fits arms n u ≡ true))
  arm_sound no_arms n text t rest is = cc
  arm_sound (more_arms name number s arms) n text t rest is = by_number (nat_eq n number) refl (sound s text) (arm_sound arms n text t rest) is
    where
      by_number : (same : Bool) → nat_eq n number ≡ same → ((u : ValueTree) (more : List ℕ) → reading s text ≡ Some (u, more) → (text ≡ text_of_value u ++ more) × (fits s u ≡ true)) → (arm_reading arms n text ≡ Some (t, rest) → (u : ValueTree) × (t ≡ V.choice n u) × ((text ≡ text_of_value u ++ rest) × (arm_fits arms n u ≡ true))) → cond same (seen_as (λ u. V.choice n u) (reading s text)) (arm_reading arms n text) ≡ Some (t, rest) → (u : ValueTree) × (t ≡ V.choice n u) × ((text ≡ text_of_value u ++ rest) × (cond (nat_eq n number) (fits s u) (arm_fits arms n u) ≡ true))
      by_number true same here others is =
          let r = seen_as_some (λ u. V.choice n u) (reading s text) t rest is in
          let value = here r.0 rest r.1 in
          (r.0, r.2, (value.0, ap (λ b. cond b (fits s r.0) (arm_fits arms n r.0)) same ∙ value.1))
      by_number false same here others is =
          let value = others is in
          (value.0, value.1, (value.2.0, ap (λ b. cond b (fits s value.0) (arm_fits arms n value.0)) same ∙ value.2.1))

-- ---- lists

pub list_complete : (fields : FieldTrees) (ts : List ValueTree) (rest : List ℕ) → fields_fit fields (value_trees ts) ≡ true → list_reading fields (shown_list ts ++ rest) ≡ Some (ts, rest)
list_complete fields ts rest fit =
    enclosed_complete 91 93 (value_trees ts) rest (fields_reading fields []) (fields_complete fields [] (value_trees ts) (93 ∷ rest) fit refl)
    ∙ ap (λ us. Some (us, rest)) (listed_trees ts)
  where
    listed_trees : (us : List ValueTree) → listed (value_trees us) ≡ us
    listed_trees [] = refl
    listed_trees (u ∷ us) = ap (λ xs. u ∷ xs) (listed_trees us)

pub list_sound : (fields : FieldTrees) (text : List ℕ) (ts : List ValueTree) (rest : List ℕ) → list_reading fields text ≡ Some (ts, rest) → (text ≡ shown_list ts ++ rest) × (fields_fit fields (value_trees ts) ≡ true)
list_sound fields text ts rest is =
    let inner = enclosed_sound 91 93 text rest ts (fields_reading fields []) is in
    let items = fields_sound fields [] inner.0 ts (93 ∷ rest) inner.1 in
    (inner.2 items.0, items.1)
