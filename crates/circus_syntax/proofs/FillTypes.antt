-- Types: where reading stops in one, what stands behind the tokens that were read is filled in.
use Rattle.std.proofs.Common.{◌≡◌, ℕ, zero, suc, Bool, true, false, not, List, [], ◌∷◌, ◌++◌, refl, ap}
use Rattle.std.specs.Prelude.{Some, codes, if◌then◌else◌}
use Rattle.circus_text.specs.Token.{Lexeme}
use Rattle.circus_syntax.specs.declared.named.TypeName.{TypeName}
use Rattle.circus_syntax.specs.declared.stopping.StopCause.TheVariants.{TooDeep}
use Rattle.circus_syntax.specs.declared.reading.TypeStart.{TypeStart}
use Rattle.circus_syntax.specs.declared.reading.TypeStart.TheVariants as begins
use Rattle.circus_syntax.specs.TypeTree.{TypeTree, GroupTree, boolean, cardinal, integer, text, enumeration, array, sequence, «record», choice, group_trees, arm_trees}
use Rattle.circus_syntax.specs.Placed.{Placed, first, is_lexeme, is_name, is_number, word, sign}
use Rattle.circus_syntax.specs.Reader.{Reader, nothing, both, map_read, choose_by, either_case, repeat_while, passes}
use Rattle.circus_syntax.specs.Reading.{expect_token, fixed_at, behind, comma_list, names, label, label_of, labels, type_name, name_of_type, type_start, start_of_type, long_of, is_long_integer, long, called_of, simple_type, too_deep, group, groups_with, arm, arm_of_parts, type_with, flat_type, stop_in_type, type}
use Rattle.circus_syntax.specs.Spelling.{spelling_type}
use Rattle.circus_syntax.proofs.Sound.{Sound}
use Rattle.circus_syntax.proofs.Tokens.{comma_sign, is_comma, sound_name, shrinks_behind}
use Rattle.circus_syntax.proofs.Types.{IsTypeWithin, sound_label, sound_group, sound_arm, sound_type}
use Rattle.circus_syntax.specs.Filling.{behind_commas, as_listed, as_names, as_label, as_bound, as_type_name, as_type}
use Rattle.circus_syntax.proofs.Twice.{Still, Twice, twice_name, twice_repeated, twice_behind}
use Rattle.circus_syntax.proofs.TwiceTypes.{unlike, second_name, named_so, long_so, as_group, as_arm, as_closed_groups, arms_so, groups_so, twice_label, twice_type, twice_group, twice_arm, twice_type_with, twice_flat, listed}
use Rattle.circus_syntax.proofs.Fills.{Fills, FillsAt, at_then, at_mapped, at_fixed, at_fixed_at, at_name, at_number, at_behind, fills_both, fills_mapped, fills_fixed, fills_fixed_at, fills_name, fills_number, fills_either, fills_stopped, fills_marked, fills_cased, fills_repeated, fills_listed, fills_optional, still_fixed, still_behind}

-- ---- what a type begins with

abbrev Tested : TypeStart → (a b c d e f g h i j : Bool) → Type 0
Tested begins.Cardinal a b c d e f g h i j = a ≡ true
Tested begins.Integer a b c d e f g h i j = b ≡ true
Tested begins.Long a b c d e f g h i j = c ≡ true
Tested begins.Text a b c d e f g h i j = d ≡ true
Tested begins.Labels a b c d e f g h i j = e ≡ true
Tested begins.Array a b c d e f g h i j = f ≡ true
Tested begins.Sequence a b c d e f g h i j = g ≡ true
Tested begins.Record a b c d e f g h i j = h ≡ true
Tested begins.Choice a b c d e f g h i j = i ≡ true
Tested begins.Name a b c d e f g h i j = j ≡ true
Tested begins.Other a b c d e f g h i j = Unit {0}

abbrev start_by : (a b c d e f g h i j : Bool) → TypeStart
start_by a b c d e f g h i j =
    if a then begins.Cardinal else (if b then begins.Integer else (if c then begins.Long else (if d then begins.Text else (if e then begins.Labels
    else (if f then begins.Array else (if g then begins.Sequence else (if h then begins.Record else (if i then begins.Choice else (if j then begins.Name else begins.Other)))))))))

tested : (a b c d e f g h i j : Bool) → Tested (start_by a b c d e f g h i j) a b c d e f g h i j
tested true b c d e f g h i j = refl
tested false true c d e f g h i j = refl
tested false false true d e f g h i j = refl
tested false false false true e f g h i j = refl
tested false false false false true f g h i j = refl
tested false false false false false true g h i j = refl
tested false false false false false false true h i j = refl
tested false false false false false false false true i j = refl
tested false false false false false false false false true j = refl
tested false false false false false false false false false true = refl
tested false false false false false false false false false false = tt

-- the token that such a type begins with
abbrev pub Begun : TypeStart → List Placed → Type 0
Begun begins.Cardinal ts = passes (is_lexeme (word (codes "CARDINAL"))) (first ts) ≡ true
Begun begins.Integer ts = passes (is_lexeme (word (codes "INTEGER"))) (first ts) ≡ true
Begun begins.Long ts = passes (is_lexeme (word (codes "LONG"))) (first ts) ≡ true
Begun begins.Text ts = passes (is_lexeme (word (codes "STRING"))) (first ts) ≡ true
Begun begins.Labels ts = passes (is_lexeme (sign (codes "{"))) (first ts) ≡ true
Begun begins.Array ts = passes (is_lexeme (word (codes "ARRAY"))) (first ts) ≡ true
Begun begins.Sequence ts = passes (is_lexeme (word (codes "SEQUENCE"))) (first ts) ≡ true
Begun begins.Record ts = passes (is_lexeme (word (codes "RECORD"))) (first ts) ≡ true
Begun begins.Choice ts = passes (is_lexeme (word (codes "CHOICE"))) (first ts) ≡ true
Begun begins.Name ts = passes is_name (first ts) ≡ true
Begun begins.Other ts = Unit {0}

as_begun : (k : TypeStart) (t : Placed) (ts : List Placed)
    → Tested k (is_lexeme (word (codes "CARDINAL")) t) (is_lexeme (word (codes "INTEGER")) t) (is_lexeme (word (codes "LONG")) t) (is_lexeme (word (codes "STRING")) t) (is_lexeme (sign (codes "{")) t)
    (is_lexeme (word (codes "ARRAY")) t) (is_lexeme (word (codes "SEQUENCE")) t) (is_lexeme (word (codes "RECORD")) t) (is_lexeme (word (codes "CHOICE")) t) (is_name t)
    → Begun k (t ∷ ts)
as_begun begins.Cardinal t ts is = is
as_begun begins.Integer t ts is = is
as_begun begins.Long t ts is = is
as_begun begins.Text t ts is = is
as_begun begins.Labels t ts is = is
as_begun begins.Array t ts is = is
as_begun begins.Sequence t ts is = is
as_begun begins.Record t ts is = is
as_begun begins.Choice t ts is = is
as_begun begins.Name t ts is = is
as_begun begins.Other t ts is = tt

begun : (ts : List Placed) → Begun (start_of_type (first ts)) ts
unfolding start_of_type
begun [] = tt
begun (t ∷ ts) =
    as_begun (type_start (Some t)) t ts
    (tested (is_lexeme (word (codes "CARDINAL")) t) (is_lexeme (word (codes "INTEGER")) t) (is_lexeme (word (codes "LONG")) t) (is_lexeme (word (codes "STRING")) t) (is_lexeme (sign (codes "{")) t)
    (is_lexeme (word (codes "ARRAY")) t) (is_lexeme (word (codes "SEQUENCE")) t) (is_lexeme (word (codes "RECORD")) t) (is_lexeme (word (codes "CHOICE")) t) (is_name t))

-- ---- simple types

pub fills_names : Fills names as_names
unfolding names
fills_names = fills_listed (shrinks_behind comma_sign sound_name) (twice_repeated 0 is_comma (shrinks_behind comma_sign sound_name) (λ x filled. unlike filled.0) (twice_behind 0 false comma_sign (twice_name 0))).stays fills_name

fills_label : Fills label as_label
unfolding label
fills_label =
    fills_mapped label_of as_label (λ x. refl) (fills_both fills_name (fills_both (fills_fixed (sign (codes "("))) (fills_both fills_number (fills_fixed (sign (codes ")"))))))

fills_labels : Fills labels (as_listed as_label)
unfolding labels
fills_labels = fills_listed (shrinks_behind comma_sign sound_label) (twice_repeated 0 is_comma (shrinks_behind comma_sign sound_label) (λ x filled. unlike filled.0) (twice_behind 0 false comma_sign (twice_label 0))).stays fills_label

at_name_of_type : (ts : List Placed) → passes is_name (first ts) ≡ true → FillsAt name_of_type (λ t. as_type_name t.«module» t.name) ts
unfolding name_of_type
at_name_of_type ts hit =
    at_mapped (λ x. type_name x.0 x.1) (λ (t : TypeName). as_type_name t.«module» t.name) named_so ts
    (at_then fills_name.stays ts (at_name false ts hit)
    (fills_optional (is_lexeme (sign (codes "."))) second_name refl (λ x. refl) (still_behind (sign (codes ".")) fills_name.stays) (λ us dot. at_behind false (sign (codes ".")) us dot fills_name)))

fills_is_long : Fills is_long_integer (λ b. not b ∷ [])
unfolding is_long_integer
fills_is_long =
    fills_either (is_lexeme (word (codes "INTEGER"))) (still_of (fills_fixed (word (codes "INTEGER"))).stays)
    (λ ts hit. at_mapped (λ x. true) (λ b. not b ∷ []) (λ x. refl) ts (at_fixed false (word (codes "INTEGER")) ts hit))
    (fills_mapped (λ x. false) (λ b. not b ∷ []) (λ x. refl) (fills_fixed (word (codes "CARDINAL"))))
  where
    still_of : Still (expect_token (word (codes "INTEGER"))) → Still (map_read (λ x. true) (expect_token (word (codes "INTEGER"))))
    still_of S = record { still = S.still; ends = S.ends }

at_word : (w : Lexeme) (f : ℕ → TypeTree) → ((at : ℕ) → as_type (f at) ≡ false ∷ []) → (ts : List Placed) → passes (is_lexeme w) (first ts) ≡ true → FillsAt (map_read f (fixed_at w)) as_type ts
at_word w f so ts hit = at_mapped f as_type so ts (at_fixed_at false w ts hit)

fills_boolean : Fills (map_read boolean (fixed_at (word (codes "BOOLEAN")))) as_type
fills_boolean = fills_mapped boolean as_type (λ x. refl) (fills_fixed_at (word (codes "BOOLEAN")))

still_at : (l : Lexeme) → Still (fixed_at l)
still_at l = (fills_fixed_at l).stays

at_simple : (k : TypeStart) (ts : List Placed) → Begun k ts → FillsAt (simple_type k) as_type ts
unfolding simple_type long
at_simple begins.Cardinal ts hit = at_word (word (codes "CARDINAL")) cardinal (λ at. refl) ts hit
at_simple begins.Integer ts hit = at_word (word (codes "INTEGER")) integer (λ at. refl) ts hit
at_simple begins.Long ts hit =
    at_mapped long_of as_type (λ x. long_so x.0 x.1) ts (at_then (still_at (word (codes "LONG"))) ts (at_fixed_at false (word (codes "LONG")) ts hit) fills_is_long)
at_simple begins.Text ts hit = at_word (word (codes "STRING")) text (λ at. refl) ts hit
at_simple begins.Labels ts hit =
    at_mapped (λ x. enumeration x.0 x.1.0) as_type (λ x. refl) ts
    (at_then (still_at (sign (codes "{"))) ts (at_fixed_at false (sign (codes "{")) ts hit) (fills_both fills_labels (fills_fixed (sign (codes "}")))))
at_simple begins.Name ts hit = at_mapped called_of as_type (λ x. refl) ts (at_name_of_type ts hit)
at_simple begins.Array ts hit = fills_boolean.runs ts
at_simple begins.Sequence ts hit = fills_boolean.runs ts
at_simple begins.Record ts hit = fills_boolean.runs ts
at_simple begins.Choice ts hit = fills_boolean.runs ts
at_simple begins.Other ts hit = fills_boolean.runs ts

-- ---- types of types

module _ (n : ℕ) {inner : Reader → TypeTree × Reader} (S : Sound inner spelling_type (IsTypeWithin n)) (Z : Twice 0 inner as_type (boolean 0)) (T : Fills inner as_type) where
  fills_group : Fills (group inner) as_group
  fills_group = fills_mapped (λ x. record { names = x.0; shape = x.1.1 }) as_group (λ x. refl) (fills_both fills_names (fills_both (fills_fixed (sign (codes ":"))) T))

  still_more : Still (repeat_while is_comma (behind comma_sign (group inner)))
  still_more = (twice_repeated 0 is_comma (shrinks_behind comma_sign (sound_group n S)) (λ x filled. unlike filled.0) (twice_behind 0 false comma_sign (twice_group 0 n S Z))).stays

  fills_items : Fills (both (group inner) (repeat_while is_comma (behind comma_sign (group inner)))) (λ x. as_group x.0 ++ behind_commas as_group x.1)
  fills_items =
      fills_both fills_group
      (fills_repeated is_comma (shrinks_behind comma_sign (sound_group n S)) (still_behind comma_sign fills_group.stays) still_more (λ ts hit. at_behind false comma_sign ts hit fills_group))

  fills_filled : Fills (both (comma_list (group inner)) (expect_token (sign (codes "]")))) as_closed_groups
  fills_filled = fills_mapped listed as_closed_groups (groups_so 0 n S Z) (fills_both fills_items (fills_fixed (sign (codes "]"))))

  closed_by : Bool → Reader → (List GroupTree × Unit {0}) × Reader
  closed_by k = both (either_case (nothing []) (comma_list (group inner)) k) (expect_token (sign (codes "]")))

  still_closed : (k : Bool) → Still (closed_by k)
  unfolding closed_by
  still_closed true = record { still = (still_fixed (sign (codes "]"))).still; ends = (still_fixed (sign (codes "]"))).ends }
  still_closed false = fills_filled.stays

  closed_at : (ts : List Placed) (k : Bool) → passes (is_lexeme (sign (codes "]"))) (first ts) ≡ k → FillsAt (closed_by k) as_closed_groups ts
  unfolding closed_by
  closed_at ts true hit = at_mapped (λ u. ([], u)) as_closed_groups (λ u. refl) ts (at_fixed false (sign (codes "]")) ts hit)
  closed_at ts false missed = fills_filled.runs ts

  pub fills_closed : Fills (both (groups_with inner) (expect_token (sign (codes "]")))) as_closed_groups
  unfolding closed_by
  fills_closed = fills_cased (passes (is_lexeme (sign (codes "]")))) closed_by still_closed fills_filled.stopped (λ ts. closed_at ts (passes (is_lexeme (sign (codes "]"))) (first ts)) refl)

  fills_arm : Fills (arm inner) as_arm
  fills_arm =
      fills_mapped arm_of_parts as_arm (λ x. refl)
      (fills_both fills_name (fills_both (fills_fixed (sign (codes "("))) (fills_both fills_number (fills_both (fills_fixed (sign (codes ")"))) (fills_both (fills_fixed (sign (codes "=>"))) T)))))

  fills_arms : Fills (comma_list (arm inner)) (as_listed as_arm)
  fills_arms =
      fills_listed (shrinks_behind comma_sign (sound_arm n S))
      (twice_repeated 0 is_comma (shrinks_behind comma_sign (sound_arm n S)) (λ x filled. unlike filled.0) (twice_behind 0 false comma_sign (twice_arm 0 n S Z))).stays fills_arm

  type_at : (k : TypeStart) (ts : List Placed) → Begun k ts → FillsAt (type_with inner k) as_type ts
  type_at begins.Array ts hit =
      at_mapped (λ x. array x.0 x.1.0 x.1.1.1) as_type (λ x. refl) ts
      (at_then (still_at (word (codes "ARRAY"))) ts (at_fixed_at false (word (codes "ARRAY")) ts hit) (fills_both fills_number (fills_both (fills_fixed (word (codes "OF"))) T)))
  type_at begins.Sequence ts hit =
      at_mapped (λ x. sequence x.0 x.1.0 x.1.1.1) as_type (λ x. refl) ts
      (at_then (still_at (word (codes "SEQUENCE"))) ts (at_fixed_at false (word (codes "SEQUENCE")) ts hit)
      (fills_both (fills_optional is_number as_bound refl (λ x. refl) fills_number.stays (λ us there. at_number false us there)) (fills_both (fills_fixed (word (codes "OF"))) T)))
  type_at begins.Record ts hit =
      at_mapped (λ x. «record» x.0 (group_trees x.1.1.0)) as_type (λ x. refl) ts
      (at_then (still_at (word (codes "RECORD"))) ts (at_fixed_at false (word (codes "RECORD")) ts hit) (fills_both (fills_fixed (sign (codes "["))) fills_closed))
  type_at begins.Choice ts hit =
      at_mapped (λ x. choice x.0 (arm_trees x.1.1.1.0)) as_type (λ x. ap (λ l. false ∷ true ∷ true ∷ (l ++ true ∷ [])) (arms_so x.1.1.1.0)) ts
      (at_then (still_at (word (codes "CHOICE"))) ts (at_fixed_at false (word (codes "CHOICE")) ts hit)
      (fills_both (fills_fixed (word (codes "OF"))) (fills_both (fills_fixed (sign (codes "{"))) (fills_both fills_arms (fills_fixed (sign (codes "}")))))))
  type_at begins.Cardinal ts hit = at_simple begins.Cardinal ts hit
  type_at begins.Integer ts hit = at_simple begins.Integer ts hit
  type_at begins.Long ts hit = at_simple begins.Long ts hit
  type_at begins.Text ts hit = at_simple begins.Text ts hit
  type_at begins.Labels ts hit = at_simple begins.Labels ts hit
  type_at begins.Name ts hit = at_simple begins.Name ts hit
  type_at begins.Other ts hit = at_simple begins.Other ts hit

  pub fills_type_with : Fills (choose_by start_of_type (type_with inner)) as_type
  unfolding start_of_type simple_type
  fills_type_with = fills_cased start_of_type (type_with inner) (λ k. (twice_type_with 0 n S Z k).stays) fills_boolean.stopped (λ ts. type_at (start_of_type (first ts)) ts (begun ts))

fills_too_deep : Fills too_deep as_type
unfolding too_deep
fills_too_deep = fills_stopped TooDeep boolean as_type (λ at. (refl, tt))

flat_at : (k : TypeStart) (ts : List Placed) → Begun k ts → FillsAt (flat_type k) as_type ts
flat_at begins.Array ts hit = fills_too_deep.runs ts
flat_at begins.Sequence ts hit = fills_too_deep.runs ts
flat_at begins.Record ts hit = fills_too_deep.runs ts
flat_at begins.Choice ts hit = fills_too_deep.runs ts
flat_at begins.Cardinal ts hit = at_simple begins.Cardinal ts hit
flat_at begins.Integer ts hit = at_simple begins.Integer ts hit
flat_at begins.Long ts hit = at_simple begins.Long ts hit
flat_at begins.Text ts hit = at_simple begins.Text ts hit
flat_at begins.Labels ts hit = at_simple begins.Labels ts hit
flat_at begins.Name ts hit = at_simple begins.Name ts hit
flat_at begins.Other ts hit = at_simple begins.Other ts hit

fills_flat : Fills (choose_by start_of_type flat_type) as_type
unfolding start_of_type simple_type
fills_flat = fills_cased start_of_type flat_type (λ k. (twice_flat 0 k).stays) fills_boolean.stopped (λ ts. flat_at (start_of_type (first ts)) ts (begun ts))

pub fills_type : (n : ℕ) → Fills (type n) as_type
unfolding type
fills_type zero = fills_marked stop_in_type fills_flat
fills_type (suc n) = fills_marked stop_in_type (fills_type_with n (sound_type n) (twice_type 0 n) (fills_type n))
