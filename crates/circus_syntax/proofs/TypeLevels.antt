-- Types and their levels: what is read of one with more levels, and where it stops with fewer.
use Rattle.std.proofs.Common.{◌≡◌, ℕ, zero, suc, ◌<◌, ◌≤◌, Bool, true, false, List, [], ◌∷◌, ◌++◌, refl, ap, subst, arith}
use Rattle.std.specs.Prelude.{Some, None, codes, if◌then◌else◌}
use Rattle.std.proofs.Math.Nat.{max-le}
use Rattle.circus_text.specs.Token.{Lexeme}
use Rattle.circus_syntax.specs.declared.reading.TypeStart.{TypeStart}
use Rattle.circus_syntax.specs.declared.reading.TypeStart.TheVariants as begins
use Rattle.circus_syntax.specs.TypeTree.{TypeTree, GroupTrees, ArmTrees, boolean, cardinal, long_cardinal, integer, long_integer, text, enumeration, array, sequence, «record», choice, called, no_groups, more_groups, no_arms, more_arms, group_trees, arm_trees}
use Rattle.circus_syntax.specs.Placed.{Placed, first, is_lexeme, is_name, is_number, word, sign, due, due_at, due_name, due_number, open_level, AreWithin}
use Rattle.circus_syntax.specs.Reader.{Reader, passes, both, map_read, optional}
use Rattle.circus_syntax.specs.Reading.{expect_token, fixed_at, number, comma_list, names, label, label_of, labels, type_name, name_of_type, start_of_type, long_of, is_long_integer, long, called_of, simple_type, too_deep, group, groups_with, arm, arm_of_parts, array_with, sequence_with, record_with, choice_with, type_with, flat_type, stop_in_type, type, groups}
use Rattle.circus_syntax.specs.Spelling.{with_commas, if_written, spelling_name, spelling_names, spelling_number, spelling_label, spelling_type_name, spelling_type, spelling_groups, spelling_more_groups, spelling_arms, spelling_more_arms, IsListed, IsName, IsLabel, IsType, levels, group_levels, arm_levels}
use Rattle.circus_syntax.proofs.Opened.{StandsDeeper, within_opened, within_front, within_back}
use Rattle.circus_syntax.proofs.Sound.{Sound, reader, sound_nothing, sound_both, sound_cased}
use Rattle.circus_syntax.proofs.Repeats.{Shrinks, sound_optional, sound_marked}
use Rattle.circus_syntax.proofs.Complete.{Any}
use Rattle.circus_syntax.proofs.Tokens.{Always, sound_fixed, sound_number, sound_listed, shrinks_both, shrinks_at, opens_due, opens_number}
use Rattle.circus_syntax.proofs.Types.{IsTypeWithin, type_name_spelled, spelling_long, spelling_group, groups_spelled, spelling_arm, arms_spelled, sound_is_long_integer, sound_group, sound_arm, sound_array, sound_sequence, sound_record, sound_choice, sound_groups_with, sound_type_with, sound_flat_type, sound_type}
use Rattle.circus_syntax.proofs.TypesRead.{NotDot, NotComma, complete_type}
use Rattle.circus_syntax.proofs.Widens.{calm_of}
use Rattle.circus_syntax.proofs.Levels.{Reaches, Levels, levels_at, levels_nothing, levels_both, levels_mapped, levels_opened, further_of, levels_cased, levels_either, levels_marked, levels_listed}
use Rattle.circus_syntax.proofs.Lawful.{Lawful, lawful_weaker, lawful_fixed, lawful_fixed_at, lawful_name, lawful_number, lawful_then, lawful_mapped, lawful_optional, lawful_behind, lawful_listed, lawful_at, complete_good, sound_good}

-- What stands no deeper has no more levels.

mutual
  pub type_shallow : (n : ℕ) (t : TypeTree) → AreWithin n (spelling_type t) → levels t ≤ n
  type_shallow n (boolean at) within = omega arith
  type_shallow n (cardinal at) within = omega arith
  type_shallow n (long_cardinal at) within = omega arith
  type_shallow n (integer at) within = omega arith
  type_shallow n (long_integer at) within = omega arith
  type_shallow n (text at) within = omega arith
  type_shallow n (enumeration at ls) within = omega arith
  type_shallow zero (array at k t) within = absurd (omega (arith, within.0))
  type_shallow (suc n) (array at k t) within =
      let inside = within_opened n (due_at (word (codes "ARRAY")) at ∷ due_number k ∷ due (word (codes "OF")) ∷ spelling_type t) within in
      omega (arith, type_shallow n t inside.1.1.1)
  type_shallow zero (sequence at b t) within = absurd (omega (arith, within.0))
  type_shallow (suc n) (sequence at b t) within =
      let inside = within_opened n (due_at (word (codes "SEQUENCE")) at ∷ (if_written spelling_number b ++ due (word (codes "OF")) ∷ spelling_type t)) within in
      omega (arith, type_shallow n t (within_back n (if_written spelling_number b) (due (word (codes "OF")) ∷ spelling_type t) inside.1).1)
  type_shallow zero («record» at gs) within = absurd (omega (arith, within.0))
  type_shallow (suc n) («record» at gs) within =
      let inside = within_opened n (due_at (word (codes "RECORD")) at ∷ due (sign (codes "[")) ∷ (spelling_groups gs ++ due (sign (codes "]")) ∷ [])) within in
      omega (arith, groups_shallow n gs (within_front n (spelling_groups gs) (due (sign (codes "]")) ∷ []) inside.1.1))
  type_shallow zero (choice at rest) within = absurd (omega (arith, within.0))
  type_shallow (suc n) (choice at rest) within =
      let inside = within_opened n (due_at (word (codes "CHOICE")) at ∷ due (word (codes "OF")) ∷ due (sign (codes "{")) ∷ (spelling_arms rest ++ due (sign (codes "}")) ∷ [])) within in
      omega (arith, arms_shallow n rest (within_front n (spelling_arms rest) (due (sign (codes "}")) ∷ []) inside.1.1.1))
  type_shallow n (called at m) within = omega arith

  pub groups_shallow : (n : ℕ) (gs : GroupTrees) → AreWithin n (spelling_groups gs) → group_levels gs ≤ n
  groups_shallow n no_groups within = omega arith
  groups_shallow n (more_groups ns t gs) within =
      let own = within_front n (spelling_names ns ++ due (sign (codes ":")) ∷ spelling_type t) (spelling_more_groups gs) within in
      max-le (type_shallow n t (within_back n (spelling_names ns) (due (sign (codes ":")) ∷ spelling_type t) own).1)
      (more_groups_shallow n gs (within_back n (spelling_names ns ++ due (sign (codes ":")) ∷ spelling_type t) (spelling_more_groups gs) within))

  more_groups_shallow : (n : ℕ) (gs : GroupTrees) → AreWithin n (spelling_more_groups gs) → group_levels gs ≤ n
  more_groups_shallow n no_groups within = omega arith
  more_groups_shallow n (more_groups ns t gs) within =
      let own = within_front n (spelling_names ns ++ due (sign (codes ":")) ∷ spelling_type t) (spelling_more_groups gs) within.1 in
      max-le (type_shallow n t (within_back n (spelling_names ns) (due (sign (codes ":")) ∷ spelling_type t) own).1)
      (more_groups_shallow n gs (within_back n (spelling_names ns ++ due (sign (codes ":")) ∷ spelling_type t) (spelling_more_groups gs) within.1))

  arms_shallow : (n : ℕ) (rest : ArmTrees) → AreWithin n (spelling_arms rest) → arm_levels rest ≤ n
  arms_shallow n no_arms within = omega arith
  arms_shallow n (more_arms m k t rest) within =
      let own = within_front n (due_name m ∷ due (sign (codes "(")) ∷ due_number k ∷ due (sign (codes ")")) ∷ due (sign (codes "=>")) ∷ spelling_type t) (spelling_more_arms rest) within in
      max-le (type_shallow n t own.1.1.1.1.1)
      (more_arms_shallow n rest (within_back n (due_name m ∷ due (sign (codes "(")) ∷ due_number k ∷ due (sign (codes ")")) ∷ due (sign (codes "=>")) ∷ spelling_type t) (spelling_more_arms rest) within))

  more_arms_shallow : (n : ℕ) (rest : ArmTrees) → AreWithin n (spelling_more_arms rest) → arm_levels rest ≤ n
  more_arms_shallow n no_arms within = omega arith
  more_arms_shallow n (more_arms m k t rest) within =
      let own = within_front n (due_name m ∷ due (sign (codes "(")) ∷ due_number k ∷ due (sign (codes ")")) ∷ due (sign (codes "=>")) ∷ spelling_type t) (spelling_more_arms rest) within.1 in
      max-le (type_shallow n t own.1.1.1.1.1)
      (more_arms_shallow n rest (within_back n (due_name m ∷ due (sign (codes "(")) ∷ due_number k ∷ due (sign (codes ")")) ∷ due (sign (codes "=>")) ∷ spelling_type t) (spelling_more_arms rest) within.1))

-- Names and labels.

pub lawful_names : (n : ℕ) → Lawful n names names spelling_names (IsListed IsName) NotComma
unfolding names
lawful_names n = lawful_weaker n NotComma (λ o h. (tt, h)) (lawful_listed n (λ o h. tt) (lawful_name n))

pub lawful_label : (n : ℕ) → Lawful n label label spelling_label IsLabel Any
unfolding label
lawful_label n =
    lawful_mapped n label_of spelling_label IsLabel (λ x. refl) (λ x g. (g.0, g.1.1.0)) (λ l g. ((l.name, (tt, (l.number, tt))), refl, (g.0, (tt, (g.1, tt)))))
    (lawful_then n (lawful_name n) (lawful_then n (lawful_fixed n (sign (codes "("))) (lawful_then n (lawful_number n) (lawful_fixed n (sign (codes ")"))))))

pub lawful_labels : (n : ℕ) → Lawful n labels labels (with_commas spelling_label) (IsListed IsLabel) NotComma
unfolding labels
lawful_labels n = lawful_weaker n NotComma (λ o h. (tt, h)) (lawful_listed n (λ o h. tt) (lawful_label n))

levels_name_of_type : (n : ℕ) → Levels n name_of_type name_of_type spelling_type_name
unfolding name_of_type
levels_name_of_type n =
    levels_mapped n (λ x. type_name x.0 x.1) spelling_type_name type_name_spelled
    (levels_both n (lawful_name n).levels
    (lawful_optional (is_lexeme (sign (codes "."))) n (λ m ts rest g d. opens_due (sign (codes ".")) (spelling_name m) ts rest d)
    (lawful_at (is_lexeme (sign (codes "."))) n (lawful_behind n (sign (codes ".")) (lawful_name n)))).levels)

levels_is_long_integer : (n : ℕ) → Levels n is_long_integer is_long_integer spelling_long
unfolding is_long_integer
levels_is_long_integer n =
    levels_either (is_lexeme (word (codes "INTEGER"))) n
    (levels_at (is_lexeme (word (codes "INTEGER"))) n (levels_mapped n (λ x. true) spelling_long (λ x. refl) (lawful_fixed n (word (codes "INTEGER"))).levels))
    (levels_mapped n (λ x. false) spelling_long (λ x. refl) (lawful_fixed n (word (codes "CARDINAL"))).levels)
    (calm_of sound_is_long_integer) (calm_of sound_is_long_integer)

long_spelled : (at : ℕ) (b : Bool) → spelling_type (long_of (at, b)) ≡ due_at (word (codes "LONG")) at ∷ spelling_long b
long_spelled at true = refl
long_spelled at false = refl

levels_word : (n : ℕ) (l : Lexeme) (f : ℕ → TypeTree) → ((at : ℕ) → spelling_type (f at) ≡ due_at l at ∷ []) → Levels n (map_read f (fixed_at l)) (map_read f (fixed_at l)) spelling_type
levels_word n l f spelled = levels_mapped n f spelling_type spelled (lawful_fixed_at n l).levels

levels_simple : (n : ℕ) (k : TypeStart) → Levels n (simple_type k) (simple_type k) spelling_type
unfolding simple_type long
levels_simple n begins.Cardinal = levels_word n (word (codes "CARDINAL")) cardinal (λ at. refl)
levels_simple n begins.Integer = levels_word n (word (codes "INTEGER")) integer (λ at. refl)
levels_simple n begins.Long =
    levels_mapped n long_of spelling_type (λ x. long_spelled x.0 x.1) (levels_both n (lawful_fixed_at n (word (codes "LONG"))).levels (levels_is_long_integer n))
levels_simple n begins.Text = levels_word n (word (codes "STRING")) text (λ at. refl)
levels_simple n begins.Labels =
    levels_mapped n (λ x. enumeration x.0 x.1.0) spelling_type (λ x. refl)
    (levels_both n (lawful_fixed_at n (sign (codes "{"))).levels (levels_both n (lawful_labels n).levels (lawful_fixed n (sign (codes "}"))).levels))
levels_simple n begins.Name = levels_mapped n called_of spelling_type (λ x. refl) (levels_name_of_type n)
levels_simple n _ = levels_word n (word (codes "BOOLEAN")) boolean (λ at. refl)

-- A type whose parts are read with so many levels.

-- inner and wide read the same parts, wide with more levels
record Inner (n m : ℕ) (inner wide : Reader → TypeTree × Reader) : Type 0 where
  levels : Levels n inner wide spelling_type
  narrow_sound : Sound inner spelling_type (IsTypeWithin n)
  wide_sound : Sound wide spelling_type (IsTypeWithin m)

levels_group : (n m : ℕ) {inner wide : Reader → TypeTree × Reader} → Inner n m inner wide → Levels n (group inner) (group wide) spelling_group
levels_group n m I =
    levels_mapped n (λ x. record { names = x.0; shape = x.1.1 }) spelling_group (λ x. refl) (levels_both n (lawful_names n).levels (levels_both n (lawful_fixed n (sign (codes ":"))).levels I.levels))

levels_groups_with : (n m : ℕ) {inner wide : Reader → TypeTree × Reader} → Inner n m inner wide → Levels n (groups_with inner) (groups_with wide) (λ gs. spelling_groups (group_trees gs))
levels_groups_with n m I =
    levels_either (is_lexeme (sign (codes "]"))) n
    (levels_at (is_lexeme (sign (codes "]"))) n (levels_nothing n [] refl (sound_nothing [] (λ gs. spelling_groups (group_trees gs)) Always tt refl)))
    (levels_mapped n (λ gs. gs) (λ gs. spelling_groups (group_trees gs)) groups_spelled (levels_listed n (sound_group n I.narrow_sound) (sound_group m I.wide_sound) (levels_group n m I)))
    (calm_of (sound_groups_with n I.narrow_sound)) (calm_of (sound_groups_with m I.wide_sound))

levels_arm : (n m : ℕ) {inner wide : Reader → TypeTree × Reader} → Inner n m inner wide → Levels n (arm inner) (arm wide) spelling_arm
levels_arm n m I =
    levels_mapped n arm_of_parts spelling_arm (λ x. refl)
    (levels_both n (lawful_name n).levels (levels_both n (lawful_fixed n (sign (codes "("))).levels (levels_both n (lawful_number n).levels
    (levels_both n (lawful_fixed n (sign (codes ")"))).levels (levels_both n (lawful_fixed n (sign (codes "=>"))).levels I.levels)))))

levels_bound : (n : ℕ) → Levels n (optional is_number number) (optional is_number number) (if_written spelling_number)
levels_bound n = (lawful_optional is_number n (λ k ts rest g d. opens_number k [] ts rest d) (lawful_at is_number n (lawful_number n))).levels

levels_array : (n m : ℕ) {inner wide : Reader → TypeTree × Reader} → Inner n m inner wide → Levels (suc n) (array_with inner) (array_with wide) spelling_type
levels_array n m I =
    levels_mapped (suc n) (λ x. array x.0 x.1.0 x.1.1.1) spelling_type (λ x. refl)
    (levels_opened n (levels_both n (lawful_fixed_at n (word (codes "ARRAY"))).levels (levels_both n (lawful_number n).levels (levels_both n (lawful_fixed n (word (codes "OF"))).levels I.levels))))

levels_sequence : (n m : ℕ) {inner wide : Reader → TypeTree × Reader} → Inner n m inner wide → Levels (suc n) (sequence_with inner) (sequence_with wide) spelling_type
levels_sequence n m I =
    levels_mapped (suc n) (λ x. sequence x.0 x.1.0 x.1.1.1) spelling_type (λ x. refl)
    (levels_opened n (levels_both n (lawful_fixed_at n (word (codes "SEQUENCE"))).levels (levels_both n (levels_bound n) (levels_both n (lawful_fixed n (word (codes "OF"))).levels I.levels))))

levels_record : (n m : ℕ) {inner wide : Reader → TypeTree × Reader} → Inner n m inner wide → Levels (suc n) (record_with inner) (record_with wide) spelling_type
levels_record n m I =
    levels_mapped (suc n) (λ x. «record» x.0 (group_trees x.1.1.0)) spelling_type (λ x. refl)
    (levels_opened n (levels_both n (lawful_fixed_at n (word (codes "RECORD"))).levels (levels_both n (lawful_fixed n (sign (codes "["))).levels
    (levels_both n (levels_groups_with n m I) (lawful_fixed n (sign (codes "]"))).levels))))

levels_choice : (n m : ℕ) {inner wide : Reader → TypeTree × Reader} → Inner n m inner wide → Levels (suc n) (choice_with inner) (choice_with wide) spelling_type
levels_choice n m I =
    levels_mapped (suc n) (λ x. choice x.0 (arm_trees x.1.1.1.0)) spelling_type
    (λ x. ap (λ l. open_level (due_at (word (codes "CHOICE")) x.0 ∷ due (word (codes "OF")) ∷ due (sign (codes "{")) ∷ (l ++ due (sign (codes "}")) ∷ []))) (arms_spelled x.1.1.1.0))
    (levels_opened n (levels_both n (lawful_fixed_at n (word (codes "CHOICE"))).levels (levels_both n (lawful_fixed n (word (codes "OF"))).levels (levels_both n (lawful_fixed n (sign (codes "{"))).levels
    (levels_both n (levels_listed n (sound_arm n I.narrow_sound) (sound_arm m I.wide_sound) (levels_arm n m I)) (lawful_fixed n (sign (codes "}"))).levels)))))

levels_type_with : (n m : ℕ) {inner wide : Reader → TypeTree × Reader} → Inner n m inner wide → (k : TypeStart) → Levels (suc n) (type_with inner k) (type_with wide k) spelling_type
levels_type_with n m I begins.Array = levels_array n m I
levels_type_with n m I begins.Sequence = levels_sequence n m I
levels_type_with n m I begins.Record = levels_record n m I
levels_type_with n m I begins.Choice = levels_choice n m I
levels_type_with n m I begins.Cardinal = levels_simple (suc n) begins.Cardinal
levels_type_with n m I begins.Integer = levels_simple (suc n) begins.Integer
levels_type_with n m I begins.Long = levels_simple (suc n) begins.Long
levels_type_with n m I begins.Text = levels_simple (suc n) begins.Text
levels_type_with n m I begins.Labels = levels_simple (suc n) begins.Labels
levels_type_with n m I begins.Name = levels_simple (suc n) begins.Name
levels_type_with n m I begins.Other = levels_simple (suc n) begins.Other

-- Where no level was left.

-- the token that begins a type with others in it
abbrev Holds : TypeStart → Placed → Type 0
Holds begins.Array t = is_lexeme (word (codes "ARRAY")) t ≡ true
Holds begins.Sequence t = is_lexeme (word (codes "SEQUENCE")) t ≡ true
Holds begins.Record t = is_lexeme (word (codes "RECORD")) t ≡ true
Holds begins.Choice t = is_lexeme (word (codes "CHOICE")) t ≡ true
Holds _ t = Unit {0}

chosen : (t : Placed) (test : Bool) (k other : TypeStart) → (test ≡ true → Holds k t) → Holds other t → Holds (if test then k else other) t
chosen t test k other here there = by_test test refl
  where
    by_test : (b : Bool) → test ≡ b → Holds (if b then k else other) t
    by_test true hit = here hit
    by_test false missed = there

start_holds : (t : Placed) → Holds (start_of_type (Some t)) t
unfolding start_of_type
start_holds t =
    chosen t (is_lexeme (word (codes "CARDINAL")) t) begins.Cardinal _ (λ h. tt)
    (chosen t (is_lexeme (word (codes "INTEGER")) t) begins.Integer _ (λ h. tt)
    (chosen t (is_lexeme (word (codes "LONG")) t) begins.Long _ (λ h. tt)
    (chosen t (is_lexeme (word (codes "STRING")) t) begins.Text _ (λ h. tt)
    (chosen t (is_lexeme (sign (codes "{")) t) begins.Labels _ (λ h. tt)
    (chosen t (is_lexeme (word (codes "ARRAY")) t) begins.Array _ (λ h. h)
    (chosen t (is_lexeme (word (codes "SEQUENCE")) t) begins.Sequence _ (λ h. h)
    (chosen t (is_lexeme (word (codes "RECORD")) t) begins.Record _ (λ h. h)
    (chosen t (is_lexeme (word (codes "CHOICE")) t) begins.Choice _ (λ h. h)
    (chosen t (is_name t) begins.Name begins.Other (λ h. tt) tt)))))))))

holds_first : (k : TypeStart) (l : Lexeme) (ts : List Placed) → start_of_type (first ts) ≡ k → (start_of_type None ≡ k → ⊥) → ((t : Placed) → Holds k t → is_lexeme l t ≡ true) → passes (is_lexeme l) (first ts) ≡ true
holds_first k l [] is differs holds = absurd (differs is)
holds_first k l (t ∷ ts) is differs holds = holds t (subst (λ (j : TypeStart). Holds j t) is (start_holds t))

none_starts : start_of_type None ≡ begins.Other
unfolding start_of_type
none_starts = refl

-- what is read where a type with others in it was too deep
reaches_deep : (l : Lexeme) {q : Reader → TypeTree × Reader} {Good : TypeTree → Type 0} → Shrinks (is_lexeme l) q → Sound q spelling_type Good → ((ts : List Placed) (e : ℕ) → StandsDeeper 0 (spelling_type (q (reader None ts e)).0) [])
    → (ts : List Placed) (e : ℕ) → passes (is_lexeme l) (first ts) ≡ true → Reaches 0 spelling_type ts (too_deep (reader None ts e)) (q (reader None ts e))
unfolding too_deep
reaches_deep l {q} shrinks S deep ts e hit = record {
  taken = [];
  whole = refl;
  fits = omega arith;
  full = λ none. cc;
  within = tt;
  further = (further_of (is_lexeme l) boolean shrinks (calm_of S) ts e hit, deep ts e);
}

flat_reaches : (m : ℕ) {inner : Reader → TypeTree × Reader} → Sound inner spelling_type (IsTypeWithin m) → (k : TypeStart) (ts : List Placed) (e : ℕ) → start_of_type (first ts) ≡ k
    → Reaches 0 spelling_type ts (flat_type k (reader None ts e)) (type_with inner k (reader None ts e))
flat_reaches m {inner} S begins.Array ts e is =
    reaches_deep (word (codes "ARRAY"))
    (λ r hit. shrinks_both (is_lexeme (word (codes "ARRAY"))) (fixed_at (word (codes "ARRAY"))) (both number (both (expect_token (word (codes "OF"))) inner)) (shrinks_at (word (codes "ARRAY")))
    (sound_both sound_number (sound_both (sound_fixed (word (codes "OF"))) S)) r hit)
    (sound_array m S) (λ us end. omega arith) ts e (holds_first begins.Array (word (codes "ARRAY")) ts is (λ h. cc none_starts) (λ t h. h))
flat_reaches m {inner} S begins.Sequence ts e is =
    reaches_deep (word (codes "SEQUENCE"))
    (λ r hit. shrinks_both (is_lexeme (word (codes "SEQUENCE"))) (fixed_at (word (codes "SEQUENCE"))) (both (optional is_number number) (both (expect_token (word (codes "OF"))) inner)) (shrinks_at (word (codes "SEQUENCE")))
    (sound_both (sound_optional is_number sound_number) (sound_both (sound_fixed (word (codes "OF"))) S)) r hit)
    (sound_sequence m S) (λ us end. omega arith) ts e (holds_first begins.Sequence (word (codes "SEQUENCE")) ts is (λ h. cc none_starts) (λ t h. h))
flat_reaches m {inner} S begins.Record ts e is =
    reaches_deep (word (codes "RECORD"))
    (λ r hit. shrinks_both (is_lexeme (word (codes "RECORD"))) (fixed_at (word (codes "RECORD"))) (both (expect_token (sign (codes "["))) (both (groups_with inner) (expect_token (sign (codes "]"))))) (shrinks_at (word (codes "RECORD")))
    (sound_both (sound_fixed (sign (codes "["))) (sound_both (sound_groups_with m S) (sound_fixed (sign (codes "]"))))) r hit)
    (sound_record m S) (λ us end. omega arith) ts e (holds_first begins.Record (word (codes "RECORD")) ts is (λ h. cc none_starts) (λ t h. h))
flat_reaches m {inner} S begins.Choice ts e is =
    reaches_deep (word (codes "CHOICE"))
    (λ r hit. shrinks_both (is_lexeme (word (codes "CHOICE"))) (fixed_at (word (codes "CHOICE"))) (both (expect_token (word (codes "OF"))) (both (expect_token (sign (codes "{"))) (both (comma_list (arm inner)) (expect_token (sign (codes "}")))))) (shrinks_at (word (codes "CHOICE")))
    (sound_both (sound_fixed (word (codes "OF"))) (sound_both (sound_fixed (sign (codes "{"))) (sound_both (sound_listed (sound_arm m S)) (sound_fixed (sign (codes "}")))))) r hit)
    (sound_choice m S) (λ us end. omega arith) ts e (holds_first begins.Choice (word (codes "CHOICE")) ts is (λ h. cc none_starts) (λ t h. h))
flat_reaches m S begins.Cardinal ts e is = (levels_simple 0 begins.Cardinal).reaches ts e
flat_reaches m S begins.Integer ts e is = (levels_simple 0 begins.Integer).reaches ts e
flat_reaches m S begins.Long ts e is = (levels_simple 0 begins.Long).reaches ts e
flat_reaches m S begins.Text ts e is = (levels_simple 0 begins.Text).reaches ts e
flat_reaches m S begins.Labels ts e is = (levels_simple 0 begins.Labels).reaches ts e
flat_reaches m S begins.Name ts e is = (levels_simple 0 begins.Name).reaches ts e
flat_reaches m S begins.Other ts e is = (levels_simple 0 begins.Other).reaches ts e

pub levels_type : (n m : ℕ) → n < m → Levels n (type n) (type m) spelling_type
unfolding type start_of_type
levels_type n zero less = absurd (omega arith)
levels_type zero (suc m) less =
    let narrow = sound_cased start_of_type flat_type sound_flat_type in
    let wide = sound_cased start_of_type (type_with (type m)) (sound_type_with m (sound_type m)) in
    levels_marked 0 stop_in_type (λ at s. refl) (calm_of (sound_marked stop_in_type (λ at s. refl) narrow)) (calm_of (sound_marked stop_in_type (λ at s. refl) wide))
    (levels_cased start_of_type 0 flat_type (type_with (type m)) (calm_of narrow) (calm_of wide) (λ s ts e. refl) (flat_reaches m (sound_type m)))
levels_type (suc n) (suc m) less =
    let inner : Inner n m (type n) (type m) = record { levels = levels_type n m (omega arith); narrow_sound = sound_type n; wide_sound = sound_type m } in
    let narrow = sound_cased start_of_type (type_with (type n)) (sound_type_with n (sound_type n)) in
    let wide = sound_cased start_of_type (type_with (type m)) (sound_type_with m (sound_type m)) in
    levels_marked (suc n) stop_in_type (λ at s. refl) (calm_of (sound_marked stop_in_type (λ at s. refl) narrow)) (calm_of (sound_marked stop_in_type (λ at s. refl) wide))
    (levels_cased start_of_type (suc n) (type_with (type n)) (type_with (type m)) (calm_of narrow) (calm_of wide) (λ s ts e. (levels_type_with n m inner begins.Other).filled s ts e)
    (λ k ts e is. (levels_type_with n m inner k).reaches ts e))

pub levels_groups : (n m : ℕ) → n < m → Levels n (groups n) (groups m) (λ gs. spelling_groups (group_trees gs))
unfolding groups
levels_groups n m less = levels_groups_with n m (record { levels = levels_type n m less; narrow_sound = sound_type n; wide_sound = sound_type m })

pub lawful_type : (n m : ℕ) → n < m → Lawful n (type n) (type m) spelling_type IsType NotDot
lawful_type n m less = record {
  narrow = sound_good IsType (λ t g. g.0) (sound_type n);
  wide = sound_good IsType (λ t g. g.0) (sound_type m);
  complete = complete_good (λ t. IsType t × AreWithin n (spelling_type t)) (λ t g. (g.0, type_shallow n t g.1)) (complete_type n);
  levels = levels_type n m less;
}
