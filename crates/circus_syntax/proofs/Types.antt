-- Types: what is read is spelled, and what is spelled is read.
use Rattle.std.proofs.Common.{◌≡◌, ℕ, zero, suc, ◌≤◌, Bool, true, false, List, [], ◌∷◌, ◌++◌, refl, ap, arith}
use Rattle.std.specs.Prelude.{Option, Some, None, codes}
use Rattle.std.proofs.Math.Nat.{le-max_left, le-max_right, max-le}
use Rattle.circus_text.specs.declared.token.TokenKind.TheVariants.{Word}
use Rattle.circus_text.specs.Token.{Lexeme}
use Rattle.circus_syntax.specs.declared.named.Named.{Named}
use Rattle.circus_syntax.specs.declared.named.TypeName.{TypeName}
use Rattle.circus_syntax.specs.declared.stopping.StopCause.TheVariants.{TooDeep}
use Rattle.circus_syntax.specs.declared.reading.TypeStart.{TypeStart}
use Rattle.circus_syntax.specs.declared.reading.TypeStart.TheVariants as begins
use Rattle.circus_syntax.specs.TypeTree.{TypeTree, GroupTree, ArmTree, boolean, cardinal, integer, text, enumeration, array, sequence, «record», choice, group_trees, arm_trees}
use Rattle.circus_syntax.specs.Placed.{Placed, is_lexeme, is_number, word, sign, Due, due, due_at, due_name, due_number, open_level}
use Rattle.circus_syntax.specs.Reader.{Reader, place_in, stop_at, map_read}
use Rattle.circus_syntax.specs.Reading.{fixed_at, names, label, label_of, labels, type_name, name_of_type, start_of_type, long_of, is_long_integer, long, called_of, simple_type, too_deep, group, groups_with, arm, arm_of_parts, array_with, sequence_with, record_with, choice_with, type_with, flat_type, stop_in_type, type, groups}
use Rattle.circus_syntax.specs.Spelling.{each, with_commas, comma, if_written, spelling_name, spelling_names, spelling_label, spelling_type_name, spelling_type, spelling_groups, spelling_more_groups, spelling_arms, spelling_more_arms, IsEach, IsListed, IfWritten, IsName, IsNumeral, IsLabel, IsType, AreGroups, AreArms, levels, group_levels, arm_levels}
use Rattle.circus_syntax.proofs.Sound.{Sound, reader, place_first, sound_nothing, sound_mapped, sound_both, sound_cased, sound_opened}
use Rattle.circus_syntax.proofs.Repeats.{sound_marked, sound_either, sound_optional}
use Rattle.circus_syntax.proofs.Tokens.{Always, sound_fixed, sound_fixed_at, sound_name, sound_number, sound_behind, sound_listed}

pub sound_names : Sound names spelling_names (IsListed IsName)
unfolding names
sound_names = sound_listed sound_name

pub sound_label : Sound label spelling_label IsLabel
unfolding label
sound_label =
    sound_mapped label_of spelling_label IsLabel (λ x. refl) (λ x g. (g.0, g.1.1.0))
    (sound_both sound_name (sound_both (sound_fixed (sign (codes "("))) (sound_both sound_number (sound_fixed (sign (codes ")"))))))

pub sound_labels : Sound labels (with_commas spelling_label) (IsListed IsLabel)
unfolding labels
sound_labels = sound_listed sound_label

-- a type's name with the place of its type
abbrev pub IsTypeName : TypeName → Type 0
IsTypeName t = IsType (called_of t)

pub type_name_spelled : (x : Named × Option Named) → spelling_type_name (type_name x.0 x.1)
    ≡ spelling_name x.0 ++ if_written (λ n. due (sign (codes ".")) ∷ spelling_name n) x.1
type_name_spelled x = by_parts x.0 x.1
  where
    by_parts : (m : Named) (o : Option Named) → spelling_type_name (type_name m o) ≡ spelling_name m ++ if_written (λ n. due (sign (codes ".")) ∷ spelling_name n) o
    by_parts m None = refl
    by_parts m (Some n) = refl

type_name_good : (x : Named × Option Named) → IsName x.0 × IfWritten IsName x.1 → IsTypeName (type_name x.0 x.1)
type_name_good x g = by_parts x.0 x.1 g
  where
    by_parts : (m : Named) (o : Option Named) → IsName m × IfWritten IsName o → IsTypeName (type_name m o)
    by_parts m None g = (g.0, refl)
    by_parts m (Some n) g = (g.0, g.1, refl)

pub sound_name_of_type : Sound name_of_type spelling_type_name IsTypeName
unfolding name_of_type
sound_name_of_type =
    sound_mapped (λ x. type_name x.0 x.1) spelling_type_name IsTypeName type_name_spelled type_name_good
    (sound_both sound_name (sound_optional (is_lexeme (sign (codes "."))) (sound_behind (sign (codes ".")) sound_name)))

-- a type of at most so many levels
abbrev pub IsTypeWithin : ℕ → TypeTree → Type 0
IsTypeWithin n t = IsType t × (levels t ≤ n)

-- CARDINAL or INTEGER behind LONG
abbrev pub spelling_long : Bool → List Due
spelling_long true = due (word (codes "INTEGER")) ∷ []
spelling_long false = due (word (codes "CARDINAL")) ∷ []

pub sound_is_long_integer : Sound is_long_integer spelling_long Always
unfolding is_long_integer
sound_is_long_integer =
    sound_either (is_lexeme (word (codes "INTEGER")))
    (sound_mapped (λ x. true) spelling_long Always (λ x. refl) (λ x g. tt) (sound_fixed (word (codes "INTEGER"))))
    (sound_mapped (λ x. false) spelling_long Always (λ x. refl) (λ x g. tt) (sound_fixed (word (codes "CARDINAL"))))

long_spelled : (at : ℕ) (b : Bool) → spelling_type (long_of (at, b)) ≡ due_at (word (codes "LONG")) at ∷ spelling_long b
long_spelled at true = refl
long_spelled at false = refl

long_good : (n at : ℕ) (b : Bool) → IsTypeWithin n (long_of (at, b))
long_good n at true = (tt, omega arith)
long_good n at false = (tt, omega arith)

pub sound_long : (n : ℕ) → Sound long spelling_type (IsTypeWithin n)
unfolding long
sound_long n =
    sound_mapped long_of spelling_type (IsTypeWithin n) (λ x. long_spelled x.0 x.1) (λ x g. long_good n x.0 x.1)
    (sound_both (sound_fixed_at (word (codes "LONG"))) sound_is_long_integer)

sound_at : (n : ℕ) (w : Lexeme) (f : ℕ → TypeTree) → ((at : ℕ) → spelling_type (f at) ≡ due_at w at ∷ []) → ((at : ℕ) → IsTypeWithin n (f at))
    → Sound (map_read f (fixed_at w)) spelling_type (IsTypeWithin n)
sound_at n w f spelled good = sound_mapped f spelling_type (IsTypeWithin n) spelled (λ at g. good at) (sound_fixed_at w)

pub sound_simple : (n : ℕ) (k : TypeStart) → Sound (simple_type k) spelling_type (IsTypeWithin n)
unfolding simple_type
sound_simple n begins.Cardinal = sound_at n (word (codes "CARDINAL")) cardinal (λ at. refl) (λ at. (tt, omega arith))
sound_simple n begins.Integer = sound_at n (word (codes "INTEGER")) integer (λ at. refl) (λ at. (tt, omega arith))
sound_simple n begins.Long = sound_long n
sound_simple n begins.Text = sound_at n (word (codes "STRING")) text (λ at. refl) (λ at. (tt, omega arith))
sound_simple n begins.Labels =
    sound_mapped (λ x. enumeration x.0 x.1.0) spelling_type (IsTypeWithin n) (λ x. refl) (λ x g. (g.1.0, omega arith))
    (sound_both (sound_fixed_at (sign (codes "{"))) (sound_both sound_labels (sound_fixed (sign (codes "}")))))
sound_simple n begins.Name = sound_mapped called_of spelling_type (IsTypeWithin n) (λ x. refl) (λ x g. (g, omega arith)) sound_name_of_type
sound_simple n _ = sound_at n (word (codes "BOOLEAN")) boolean (λ at. refl) (λ at. (tt, omega arith))

-- Groups.

abbrev pub spelling_group : GroupTree → List Due
spelling_group g = spelling_names g.names ++ due (sign (codes ":")) ∷ spelling_type g.shape

abbrev pub IsGroupWithin : ℕ → GroupTree → Type 0
IsGroupWithin n g = IsListed IsName g.names × IsTypeWithin n g.shape

more_groups_spelled : (gs : List GroupTree) → spelling_more_groups (group_trees gs) ≡ each (λ g. comma ∷ spelling_group g) gs
more_groups_spelled [] = refl
more_groups_spelled (g ∷ gs) = ap (λ l. comma ∷ (spelling_group g ++ l)) (more_groups_spelled gs)

pub groups_spelled : (gs : List GroupTree) → spelling_groups (group_trees gs) ≡ with_commas spelling_group gs
groups_spelled [] = refl
groups_spelled (g ∷ gs) = ap (λ l. spelling_group g ++ l) (more_groups_spelled gs)

abbrev pub AreGroupsWithin : ℕ → List GroupTree → Type 0
AreGroupsWithin n gs = AreGroups (group_trees gs) × (group_levels (group_trees gs) ≤ n)

pub groups_good : (n : ℕ) (gs : List GroupTree) → IsEach (IsGroupWithin n) gs → AreGroupsWithin n gs
groups_good n [] g = (tt, omega arith)
groups_good n (x ∷ xs) g =
    let more = groups_good n xs g.1 in
    ((g.0.0, g.0.1.0, more.0), max-le g.0.1.1 more.1)

pub groups_each : (n : ℕ) (gs : List GroupTree) → AreGroupsWithin n gs → IsEach (IsGroupWithin n) gs
groups_each n [] g = tt
groups_each n (x ∷ xs) g = (
  (g.0.0, (g.0.1, omega (arith, g.1, le-max_left (levels x.shape) (group_levels (group_trees xs))))),
  groups_each n xs (g.0.2, omega (arith, g.1, le-max_right (levels x.shape) (group_levels (group_trees xs)))),
)

IsListed-each : {A : Type 0} (P : A → Type 0) (xs : List A) → IsListed P xs → IsEach P xs
IsListed-each P [] g = absurd g
IsListed-each P (x ∷ xs) g = g

pub sound_group : (n : ℕ) {inner : Reader → TypeTree × Reader} → Sound inner spelling_type (IsTypeWithin n) → Sound (group inner) spelling_group (IsGroupWithin n)
sound_group n T =
    sound_mapped (λ x. record { names = x.0; shape = x.1.1 }) spelling_group (IsGroupWithin n) (λ x. refl) (λ x g. (g.0, g.1.1))
    (sound_both sound_names (sound_both (sound_fixed (sign (codes ":"))) T))

-- the groups between two brackets
pub sound_groups_with : (n : ℕ) {inner : Reader → TypeTree × Reader} → Sound inner spelling_type (IsTypeWithin n)
    → Sound (groups_with inner) (λ gs. spelling_groups (group_trees gs)) (AreGroupsWithin n)
sound_groups_with n {inner = inner} T =
    sound_either (is_lexeme (sign (codes "]")))
    (sound_nothing [] (λ gs. spelling_groups (group_trees gs)) (AreGroupsWithin n) (tt, omega arith) refl)
    (sound_mapped (λ gs. gs) (λ gs. spelling_groups (group_trees gs)) (AreGroupsWithin n) groups_spelled (λ gs g. groups_good n gs (IsListed-each (IsGroupWithin n) gs g))
    (sound_listed (sound_group n T)))

-- Arms.

abbrev pub spelling_arm : ArmTree → List Due
spelling_arm a = due_name a.name ∷ due (sign (codes "(")) ∷ due_number a.number ∷ due (sign (codes ")")) ∷ due (sign (codes "=>")) ∷ spelling_type a.shape

abbrev pub IsArmWithin : ℕ → ArmTree → Type 0
IsArmWithin n a = IsName a.name × IsNumeral a.number × IsTypeWithin n a.shape

more_arms_spelled : (rest : List ArmTree) → spelling_more_arms (arm_trees rest) ≡ each (λ a. comma ∷ spelling_arm a) rest
more_arms_spelled [] = refl
more_arms_spelled (a ∷ rest) = ap (λ l. comma ∷ (spelling_arm a ++ l)) (more_arms_spelled rest)

pub arms_spelled : (rest : List ArmTree) → spelling_arms (arm_trees rest) ≡ with_commas spelling_arm rest
arms_spelled [] = refl
arms_spelled (a ∷ rest) = ap (λ l. spelling_arm a ++ l) (more_arms_spelled rest)

pub arms_good : (n : ℕ) (rest : List ArmTree) → IsEach (IsArmWithin n) rest → AreArms (arm_trees rest) × (arm_levels (arm_trees rest) ≤ n)
arms_good n [] g = (tt, omega arith)
arms_good n (x ∷ xs) g =
    let more = arms_good n xs g.1 in
    ((g.0.0, g.0.1, g.0.2.0, more.0), max-le g.0.2.1 more.1)

pub arms_each : (n : ℕ) (rest : List ArmTree) → AreArms (arm_trees rest) → arm_levels (arm_trees rest) ≤ n → IsEach (IsArmWithin n) rest
arms_each n [] g few = tt
arms_each n (x ∷ xs) g few = (
  (g.0, g.1, (g.2, omega (arith, few, le-max_left (levels x.shape) (arm_levels (arm_trees xs))))),
  arms_each n xs g.3 (omega (arith, few, le-max_right (levels x.shape) (arm_levels (arm_trees xs)))),
)

pub sound_arm : (n : ℕ) {inner : Reader → TypeTree × Reader} → Sound inner spelling_type (IsTypeWithin n) → Sound (arm inner) spelling_arm (IsArmWithin n)
sound_arm n T =
    sound_mapped arm_of_parts spelling_arm (IsArmWithin n) (λ x. refl) (λ x g. (g.0, g.1.1.0, g.1.1.1.1.1))
    (sound_both sound_name (sound_both (sound_fixed (sign (codes "("))) (sound_both sound_number (sound_both (sound_fixed (sign (codes ")"))) (sound_both (sound_fixed (sign (codes "=>"))) T)))))

-- Types of types.

pub sound_array : (n : ℕ) {inner : Reader → TypeTree × Reader} → Sound inner spelling_type (IsTypeWithin n) → Sound (array_with inner) spelling_type (IsTypeWithin (suc n))
sound_array n T =
    sound_mapped (λ x. array x.0 x.1.0 x.1.1.1) spelling_type (IsTypeWithin (suc n)) (λ x. refl)
    (λ x g. ((g.1.0, g.1.1.1.0), omega (arith, g.1.1.1.1)))
    (sound_opened (sound_both (sound_fixed_at (word (codes "ARRAY"))) (sound_both sound_number (sound_both (sound_fixed (word (codes "OF"))) T))))

pub sound_sequence : (n : ℕ) {inner : Reader → TypeTree × Reader} → Sound inner spelling_type (IsTypeWithin n) → Sound (sequence_with inner) spelling_type (IsTypeWithin (suc n))
sound_sequence n T =
    sound_mapped (λ x. sequence x.0 x.1.0 x.1.1.1) spelling_type (IsTypeWithin (suc n)) (λ x. refl)
    (λ x g. ((g.1.0, g.1.1.1.0), omega (arith, g.1.1.1.1)))
    (sound_opened (sound_both (sound_fixed_at (word (codes "SEQUENCE"))) (sound_both (sound_optional is_number sound_number) (sound_both (sound_fixed (word (codes "OF"))) T))))

pub sound_record : (n : ℕ) {inner : Reader → TypeTree × Reader} → Sound inner spelling_type (IsTypeWithin n) → Sound (record_with inner) spelling_type (IsTypeWithin (suc n))
sound_record n T =
    sound_mapped (λ x. «record» x.0 (group_trees x.1.1.0)) spelling_type (IsTypeWithin (suc n)) (λ x. refl)
    (λ x g. (g.1.1.0.0, omega (arith, g.1.1.0.1)))
    (sound_opened (sound_both (sound_fixed_at (word (codes "RECORD"))) (sound_both (sound_fixed (sign (codes "["))) (sound_both (sound_groups_with n T) (sound_fixed (sign (codes "]")))))))

choice_good : (n at : ℕ) (rest : List ArmTree) → IsListed (IsArmWithin n) rest → IsTypeWithin (suc n) (choice at (arm_trees rest))
choice_good n at [] g = absurd g
choice_good n at (a ∷ rest) g = let good = arms_good n (a ∷ rest) g in (good.0, omega (arith, good.1))

pub sound_choice : (n : ℕ) {inner : Reader → TypeTree × Reader} → Sound inner spelling_type (IsTypeWithin n) → Sound (choice_with inner) spelling_type (IsTypeWithin (suc n))
sound_choice n T =
    sound_mapped (λ x. choice x.0 (arm_trees x.1.1.1.0)) spelling_type (IsTypeWithin (suc n))
    (λ x. ap (λ l. open_level (due_at (word (codes "CHOICE")) x.0 ∷ due (word (codes "OF")) ∷ due (sign (codes "{")) ∷ (l ++ due (sign (codes "}")) ∷ []))) (arms_spelled x.1.1.1.0))
    (λ x g. choice_good n x.0 x.1.1.1.0 g.1.1.1.0)
    (sound_opened (sound_both (sound_fixed_at (word (codes "CHOICE"))) (sound_both (sound_fixed (word (codes "OF"))) (sound_both (sound_fixed (sign (codes "{")))
    (sound_both (sound_listed (sound_arm n T)) (sound_fixed (sign (codes "}"))))))))

pub sound_type_with : (n : ℕ) {inner : Reader → TypeTree × Reader} → Sound inner spelling_type (IsTypeWithin n) → (k : TypeStart) → Sound (type_with inner k) spelling_type (IsTypeWithin (suc n))
sound_type_with n T begins.Array = sound_array n T
sound_type_with n T begins.Sequence = sound_sequence n T
sound_type_with n T begins.Record = sound_record n T
sound_type_with n T begins.Choice = sound_choice n T
sound_type_with n T begins.Cardinal = sound_simple (suc n) begins.Cardinal
sound_type_with n T begins.Integer = sound_simple (suc n) begins.Integer
sound_type_with n T begins.Long = sound_simple (suc n) begins.Long
sound_type_with n T begins.Text = sound_simple (suc n) begins.Text
sound_type_with n T begins.Labels = sound_simple (suc n) begins.Labels
sound_type_with n T begins.Name = sound_simple (suc n) begins.Name
sound_type_with n T begins.Other = sound_simple (suc n) begins.Other

abbrev boolean_token : ℕ → Placed
boolean_token at = record { kind = Word; bytes = codes "BOOLEAN"; start = at }

sound_too_deep : (n : ℕ) → Sound too_deep spelling_type (IsTypeWithin n)
unfolding too_deep
sound_too_deep n = record {
  fills = λ s e. record { tree = boolean s.place; more = boolean_token s.place ∷ []; stays = λ ts. refl; good = (tt, omega arith); due = ((refl, refl, refl), tt); there = (refl, tt) };
  runs = λ ts e. record {
    tree = boolean (place_in ts e);
    taken = [];
    left = ts;
    stop = Some (stop_at TooDeep (place_in ts e));
    more = boolean_token (place_in ts e) ∷ [];
    whole = refl;
    same = λ rest f. let here = place_first rest ts e f in λ i. (boolean (here i), reader (Some (stop_at TooDeep (here i))) rest e);
    ended = (refl, (refl, tt));
    good = λ a. (tt, omega arith);
    due = λ a. ((refl, refl, refl), tt);
  };
}

pub sound_flat_type : (k : TypeStart) → Sound (flat_type k) spelling_type (IsTypeWithin 0)
sound_flat_type begins.Array = sound_too_deep 0
sound_flat_type begins.Sequence = sound_too_deep 0
sound_flat_type begins.Record = sound_too_deep 0
sound_flat_type begins.Choice = sound_too_deep 0
sound_flat_type begins.Cardinal = sound_simple 0 begins.Cardinal
sound_flat_type begins.Integer = sound_simple 0 begins.Integer
sound_flat_type begins.Long = sound_simple 0 begins.Long
sound_flat_type begins.Text = sound_simple 0 begins.Text
sound_flat_type begins.Labels = sound_simple 0 begins.Labels
sound_flat_type begins.Name = sound_simple 0 begins.Name
sound_flat_type begins.Other = sound_simple 0 begins.Other

pub sound_type : (n : ℕ) → Sound (type n) spelling_type (IsTypeWithin n)
unfolding type
sound_type zero = sound_marked stop_in_type (λ at s. refl) (sound_cased start_of_type flat_type sound_flat_type)
sound_type (suc n) = sound_marked stop_in_type (λ at s. refl) (sound_cased start_of_type (type_with (type n)) (sound_type_with n (sound_type n)))

pub sound_groups : (n : ℕ) → Sound (groups n) (λ gs. spelling_groups (group_trees gs)) (AreGroupsWithin n)
unfolding groups
sound_groups n = sound_groups_with n (sound_type n)
