-- The faults of expressions and places stand in their text.
use Rattle.std.proofs.Common.{◌≡◌, ℕ, ◌+◌, ◌≤◌, Bool, true, false, not, List, [], ◌∷◌, ◌++◌, Option, Some, None, refl, ap, subst, arith, map, codes}
use Rattle.std.specs.Prelude.{nat_lt, ◌==◌, is_none}
use Rattle.circus_value.specs.ShapeTree.{ShapeTree, enumeration, array, sequence, «record», choice}
use Rattle.circus_syntax.specs.declared.named.Named.{Named}
use Rattle.circus_syntax.specs.declared.named.TypeName.{TypeName}
use Rattle.circus_syntax.specs.Placed.{Due, word, sign, due, due_at, due_name, due_text, open_level}
use Rattle.circus_syntax.specs.Spelling.{comma, spelling_type_name}
use Rattle.circus_syntax.specs.Reading.{type_name_place}
use Rattle.circus_expression.specs.declared.operator.Operator.{Operator}
use Rattle.circus_expression.specs.declared.operator.Operator.TheVariants as operator
use Rattle.circus_expression.specs.Operators.{lexeme_of}
use Rattle.circus_expression.specs.ExpressionTree.{ExpressionTree, PlaceTree, expression_trees, suffix_trees}
use Rattle.circus_expression.specs.ExpressionTree as e
use Rattle.circus_expression.specs.Written.{Written, Links, WrittenList, WrittenSuffixes, WrittenPlace, written_list, truth_lexeme, chain, negation, comparison, is_arm, minus, number, text, truth, parentheses, length_of, label, arm, items, place, no_links, link, no_items, more_items, no_suffixes, field, subscript, spelling, spelling_links, spelling_items, spelling_more_items, spelling_suffixes, spelling_argument, spelling_list, spelling_place}
use Rattle.circus_expression.specs.Standing.{place_of_tree, join_with, beginning, type_place, stands_for, lean_left, stand_for, suffixes_stand_for, place_stands_for}
use Rattle.circus_checked.specs.Sorts.{Sort, of}
use Rattle.circus_resolve.specs.declared.cause.CheckCause.TheVariants.{Unknown, Mistyped}
use Rattle.circus_resolve.specs.Scope.{Scope, Standing, a_type, no_module, no_type, unsaid, standing_of}
use Rattle.circus_resolve.specs.Passing.{sort_eq, is_number, is_truth, is_text, has_length, goes_into}
use Rattle.circus_resolve.specs.Named.{ArmFound, label_named, field_named, arm_named, is_bare, element_of}
use Rattle.circus_resolve.specs.Faults.{first_of, place_of_type, standing_faults, type_faults, type_shape, wanted_faults, wanted_for, wanted_alike, operand_faults, arm_faults, empty_arm_faults, label_faults, filled_label_faults, filled_arm_faults, filled_faults, count, field_count, count_faults, Slots, slots_for, slot_at, field_faults, field_shape, element_for, item_faults, place_of, variable_shape, variable_faults, sort, suffix_faults, expression_faults, each_faults, place_faults}
use Rattle.circus_body.proofs.Rising.{Rise, below, split, front, back, behind, unopened, Lies, first, lies_wider}
use Rattle.circus_body.proofs.InText.{AreIn, one, wider}
use Rattle.circus_body.proofs.InText as found
use Rattle.circus_body.proofs.TypesInText.{named, numbered, TypeNamed, type_named}

-- ---- what is wanted of sorts

module _ (low high : ℕ) where
  pub wanted_in : (passes : Sort → Bool) (s : Option Sort) (at : ℕ) → Lies low high at → AreIn low high (wanted_faults passes s at)
  wanted_in passes None at lies = tt
  wanted_in passes (Some s) at lies = one low high (not (passes s)) at Mistyped lies

  pub wanted_for_in : (o : Option ShapeTree) (s : Option Sort) (at : ℕ) → Lies low high at → AreIn low high (wanted_for o s at)
  wanted_for_in None s at lies = tt
  wanted_for_in (Some o) s at lies = wanted_in (goes_into o) s at lies

  pub alike_in : (s t : Option Sort) (at : ℕ) → Lies low high at → AreIn low high (wanted_alike s t at)
  alike_in (Some s) (Some t) at lies = one low high (not (sort_eq s t)) at Mistyped lies
  alike_in (Some s) None at lies = tt
  alike_in None t at lies = tt

  both_in : (passes : Sort → Bool) (s t : Option Sort) (at other : ℕ) → Lies low high at → Lies low high other → AreIn low high (wanted_faults passes s at ++ wanted_faults passes t other)
  both_in passes s t at other left right = found.joined low high (wanted_faults passes s at) (wanted_faults passes t other) (wanted_in passes s at left) (wanted_in passes t other right)

  operands_in : (o : Operator) (s t : Option Sort) (at other : ℕ) → Lies low high at → Lies low high other → AreIn low high (operand_faults o s at t other)
  operands_in operator.Or s t at other left right = both_in is_truth s t at other left right
  operands_in operator.And s t at other left right = both_in is_truth s t at other left right
  operands_in operator.Equal s t at other left right = alike_in s t at left
  operands_in operator.Unequal s t at other left right = alike_in s t at left
  operands_in operator.Join s t at other left right = both_in is_text s t at other left right
  operands_in operator.Less s t at other left right = both_in is_number s t at other left right
  operands_in operator.AtMost s t at other left right = both_in is_number s t at other left right
  operands_in operator.Greater s t at other left right = both_in is_number s t at other left right
  operands_in operator.AtLeast s t at other left right = both_in is_number s t at other left right
  operands_in operator.Plus s t at other left right = both_in is_number s t at other left right
  operands_in operator.Minus s t at other left right = both_in is_number s t at other left right
  operands_in operator.Times s t at other left right = both_in is_number s t at other left right
  operands_in operator.Div s t at other left right = both_in is_number s t at other left right
  operands_in operator.Mod s t at other left right = both_in is_number s t at other left right

  arm_of_in : (s : Option Sort) (at : ℕ) (n : Named) → Lies low high at → Lies low high n.at → AreIn low high (arm_faults s at n)
  arm_of_in None at n lies name = tt
  arm_of_in (Some (of (choice arms))) at n lies name = one low high (is_none (arm_named arms n.name)) n.at Unknown name
  arm_of_in (Some _) at n lies name = (lies, tt)

  empty_arm_in : (a : Option ArmFound) (at : ℕ) (n : Named) → Lies low high at → Lies low high n.at → AreIn low high (empty_arm_faults a at n)
  empty_arm_in None at n lies name = (name, tt)
  empty_arm_in (Some a) at n lies name = one low high (not (is_bare a.shape)) at Mistyped lies

  label_in : (s : Option ShapeTree) (at : ℕ) (n : Named) → Lies low high at → Lies low high n.at → AreIn low high (label_faults s at n)
  label_in None at n lies name = tt
  label_in (Some (enumeration labels)) at n lies name = one low high (is_none (label_named labels n.name)) n.at Unknown name
  label_in (Some (choice arms)) at n lies name = empty_arm_in (arm_named arms n.name) at n lies name
  label_in (Some _) at n lies name = (lies, tt)

  filled_label_in : (l : Option ℕ) (at : ℕ) (n : Named) → Lies low high at → Lies low high n.at → AreIn low high (filled_label_faults l at n)
  filled_label_in None at n lies name = (name, tt)
  filled_label_in (Some l) at n lies name = (lies, tt)

  filled_arm_in : (a : Option ArmFound) (at : ℕ) (n : Named) (s : Option Sort) (value : ℕ) → Lies low high at → Lies low high n.at → Lies low high value → AreIn low high (filled_arm_faults a at n s value)
  filled_arm_in None at n s value lies name there = (name, tt)
  filled_arm_in (Some a) at n s value lies name there = by (is_bare a.shape) refl
    where
      by : (b : Bool) → is_bare a.shape ≡ b → AreIn low high (filled_arm_faults (Some a) at n s value)
      by true bare = rw bare (lies, tt)
      by false bare = rw bare (wanted_in (goes_into a.shape) s value there)

  filled_in : (o : Option ShapeTree) (at : ℕ) (n : Named) (s : Option Sort) (value : ℕ) → Lies low high at → Lies low high n.at → Lies low high value → AreIn low high (filled_faults o at n s value)
  filled_in None at n s value lies name there = tt
  filled_in (Some (enumeration labels)) at n s value lies name there = filled_label_in (label_named labels n.name) at n lies name
  filled_in (Some (choice arms)) at n s value lies name there = filled_arm_in (arm_named arms n.name) at n s value lies name there
  filled_in (Some _) at n s value lies name there = (lies, tt)

  count_in : (s : Option ShapeTree) (at k : ℕ) → Lies low high at → AreIn low high (count_faults s at k)
  count_in None at k lies = tt
  count_in (Some (array len _)) at k lies = one low high (not (k == len)) at Mistyped lies
  count_in (Some (sequence bound _)) at k lies = one low high (nat_lt bound k) at Mistyped lies
  count_in (Some («record» fs)) at k lies = one low high (not (k == field_count fs)) at Mistyped lies
  count_in (Some _) at k lies = (lies, tt)

  field_in : (at : ℕ) (s : Option ShapeTree) (n : Named) → Lies low high at → Lies low high n.at → AreIn low high (field_faults at s n)
  field_in at None n lies name = tt
  field_in at (Some («record» fs)) n lies name = one low high (is_none (field_named fs n.name)) n.at Unknown name
  field_in at (Some (choice arms)) n lies name = one low high (is_none (arm_named arms n.name)) n.at Unknown name
  field_in at (Some _) n lies name = (lies, tt)

  item_in : (at : ℕ) (s : Option ShapeTree) → Lies low high at → AreIn low high (item_faults at s)
  item_in at None lies = tt
  item_in at (Some s) lies = one low high (is_none (element_of s)) at Mistyped lies

  type_of_in : (s : Standing) (t : TypeName) → TypeNamed low high t.«module» t.name → AreIn low high (standing_faults s t)
  type_of_in (a_type _) t places = tt
  type_of_in no_module t places = (places.first, tt)
  type_of_in no_type t places = (places.name, tt)
  type_of_in unsaid t places = tt

same_place : (m : Option Named) (n : Named) → first_of m n ≡ type_name_place m n
same_place None n = refl
same_place (Some m) n = refl

-- ---- expressions

module _ (scope : Scope) where
  -- an expression begins there, and all that is wrong in it stands there
  pub record Stands (low high : ℕ) (a : ExpressionTree) : Type 0 where
    pub begins : Lies low high (place_of a)
    pub faults : AreIn low high (expression_faults scope a)

  stands_wider : (low high less more : ℕ) (a : ExpressionTree) → less ≤ low → high ≤ more → Stands low high a → Stands less more a
  stands_wider low high less more a under over s = record {
    begins = lies_wider low high less more (place_of a) under over s.begins;
    faults = wider low high less more (expression_faults scope a) under over s.faults;
  }

  pair : (low high : ℕ) (o : Operator) (a b : ExpressionTree) → Stands low high a → Stands low high b → Stands low high (join_with o a b)
  pair low high o (e.expression at k) b left right = record {
    begins = left.begins;
    faults =
        let a = e.expression at k in
        found.joined low high (expression_faults scope a ++ expression_faults scope b) (operand_faults o (sort scope a) at (sort scope b) (place_of b))
        (found.joined low high (expression_faults scope a) (expression_faults scope b) left.faults right.faults)
        (operands_in low high o (sort scope a) (sort scope b) at (place_of b) left.begins right.begins);
  }

  arm_tested : (low high : ℕ) (a : ExpressionTree) (n : Named) → Stands low high a → Lies low high n.at → Stands low high (e.expression (place_of_tree a) (e.is_arm a n))
  arm_tested low high (e.expression at k) n s name = record {
    begins = s.begins;
    faults = let a = e.expression at k in found.joined low high (expression_faults scope a) (arm_faults (sort scope a) at n) s.faults (arm_of_in low high (sort scope a) at n s.begins name);
  }

  begun : (low high at : ℕ) (a : ExpressionTree) → Lies low high at → Stands low high a → Stands low high (beginning at a)
  begun low high at (e.expression _ k) lies s = record { begins = lies; faults = s.faults }

  wanting : (low high at : ℕ) (passes : Sort → Bool) (a : ExpressionTree) → Stands low high a → AreIn low high (expression_faults scope a ++ wanted_faults passes (sort scope a) (place_of a))
  wanting low high at passes a s =
      found.joined low high (expression_faults scope a) (wanted_faults passes (sort scope a) (place_of a)) s.faults (wanted_in low high passes (sort scope a) (place_of a) s.begins)

  variable_in : (low high : ℕ) (n : Named) → Lies low high n.at → AreIn low high (variable_faults scope n)
  variable_in low high n lies = one low high (is_none (scope.variable n.name)) n.at Unknown lies

  type_begins : (low high : ℕ) (t : TypeName) → TypeNamed low high t.«module» t.name → Lies low high (type_place t)
  type_begins low high t places = subst (Lies low high) (same_place t.«module» t.name) places.first

  type_in_front : (low high : ℕ) (t : TypeName) (ds : List Due) → Rise low high (spelling_type_name t ++ ds) → TypeNamed low high t.«module» t.name
  type_in_front low high t ds rise = type_named low high t.«module» t.name [] (front low high (spelling_type_name t) ds rise)

  lowest : (low mid : ℕ) (a : ExpressionTree) → Stands low mid a → low ≤ mid
  lowest low mid a s = omega (arith, s.begins.from, s.begins.below)

  -- one item more
  item_with : (low high : ℕ) (slots : Slots) (k : ℕ) (w : Written) (ws : WrittenList) → Stands low high (stands_for w) → AreIn low high (each_faults scope slots (k + 1) (expression_trees (stand_for ws)))
      → AreIn low high (each_faults scope slots k (expression_trees (stand_for (more_items w ws))))
  item_with low high slots k w ws s others =
      let a = stands_for w in
      let own = wanted_for (slot_at slots k) (sort scope a) (place_of a) in
      found.joined low high (expression_faults scope a ++ own) (each_faults scope slots (k + 1) (expression_trees (stand_for ws)))
      (found.joined low high (expression_faults scope a) own s.faults (wanted_for_in low high (slot_at slots k) (sort scope a) (place_of a) s.begins)) others

  mutual
    pub written_in : (low high : ℕ) (w : Written) → Rise low high (spelling w) → Stands low high (stands_for w)
    written_in low high (chain c w ls) rise =
        let s = split low high (spelling w) (spelling_links ls) rise in
        links_in low s.mid high (stands_for w) ls (written_in low s.mid w s.front) s.back
    written_in low high (negation at w) rise =
        let own = unopened low high (due_at (word (codes "NOT")) at ∷ spelling w) rise in
        let a = written_in low high w (behind low high (due_at (word (codes "NOT")) at) (spelling w) own) in
        record { begins = first low high (due_at (word (codes "NOT")) at) (spelling w) at (λ p is. is) own; faults = wanting low high at is_truth (stands_for w) a }
    written_in low high (comparison a o b) rise =
        let ds = due (lexeme_of o) ∷ spelling b in
        pair low high o (stands_for a) (stands_for b) (written_in low high a (front low high (spelling a) ds rise))
        (written_in low high b (behind low high (due (lexeme_of o)) (spelling b) (back low high (spelling a) ds rise)))
    written_in low high (is_arm a n) rise =
        let ds = due (word (codes "IS")) ∷ due_name n ∷ [] in
        arm_tested low high (stands_for a) n (written_in low high a (front low high (spelling a) ds rise))
        (named low high n [] (behind low high (due (word (codes "IS"))) (due_name n ∷ []) (back low high (spelling a) ds rise)))
    written_in low high (minus at w) rise =
        let own = unopened low high (due_at (sign (codes "-")) at ∷ spelling w) rise in
        let a = written_in low high w (behind low high (due_at (sign (codes "-")) at) (spelling w) own) in
        record { begins = first low high (due_at (sign (codes "-")) at) (spelling w) at (λ p is. is) own; faults = wanting low high at is_number (stands_for w) a }
    written_in low high (number n) rise = record { begins = numbered low high n [] rise; faults = tt }
    written_in low high (text content at) rise = record { begins = first low high (due_text content at) [] at (λ p is. is) rise; faults = tt }
    written_in low high (truth b at) rise = record { begins = first low high (due_at (truth_lexeme b) at) [] at (λ p is. is) rise; faults = tt }
    written_in low high (parentheses at w) rise =
        let ds = spelling w ++ due (sign (codes ")")) ∷ [] in
        let own = unopened low high (due_at (sign (codes "(")) at ∷ ds) rise in
        begun low high at (stands_for w) (first low high (due_at (sign (codes "(")) at) ds at (λ p is. is) own)
        (written_in low high w (front low high (spelling w) (due (sign (codes ")")) ∷ []) (behind low high (due_at (sign (codes "(")) at) ds own)))
    written_in low high (length_of at w) rise =
        let inner = due (sign (codes "(")) ∷ (spelling w ++ due (sign (codes ")")) ∷ []) in
        let own = unopened low high (due_at (word (codes "LENGTH")) at ∷ open_level inner) rise in
        let argument = unopened low high inner (behind low high (due_at (word (codes "LENGTH")) at) (open_level inner) own) in
        let a = written_in low high w (front low high (spelling w) (due (sign (codes ")")) ∷ []) (behind low high (due (sign (codes "("))) (spelling w ++ due (sign (codes ")")) ∷ []) argument)) in
        record { begins = first low high (due_at (word (codes "LENGTH")) at) (open_level inner) at (λ p is. is) own; faults = wanting low high at has_length (stands_for w) a }
    written_in low high (label t n) rise =
        let ds = due (sign (codes "#")) ∷ due_name n ∷ [] in
        let places = type_in_front low high t ds rise in
        let name = named low high n [] (behind low high (due (sign (codes "#"))) (due_name n ∷ []) (back low high (spelling_type_name t) ds rise)) in
        record {
          begins = type_begins low high t places;
          faults = found.joined low high (type_faults scope t) (label_faults (type_shape scope t) (place_of_type t) n)
              (type_of_in low high (standing_of scope t) t places) (label_in low high (type_shape scope t) (place_of_type t) n places.first name);
        }
    written_in low high (arm t n w) rise =
        let ds = due (sign (codes "#")) ∷ due_name n ∷ spelling_argument w in
        let places = type_in_front low high t ds rise in
        let name = behind low high (due (sign (codes "#"))) (due_name n ∷ spelling_argument w) (back low high (spelling_type_name t) ds rise) in
        let inner = spelling w ++ due (sign (codes ")")) ∷ [] in
        let argument = unopened low high (due (sign (codes "(")) ∷ inner) (behind low high (due_name n) (spelling_argument w) name) in
        let a = written_in low high w (front low high (spelling w) (due (sign (codes ")")) ∷ []) (behind low high (due (sign (codes "("))) inner argument)) in
        let value = stands_for w in
        record {
          begins = type_begins low high t places;
          faults = found.joined low high (type_faults scope t ++ expression_faults scope value) (filled_faults (type_shape scope t) (place_of_type t) n (sort scope value) (place_of value))
              (found.joined low high (type_faults scope t) (expression_faults scope value) (type_of_in low high (standing_of scope t) t places) a.faults)
              (filled_in low high (type_shape scope t) (place_of_type t) n (sort scope value) (place_of value) places.first (named low high n (spelling_argument w) name) a.begins);
        }
    written_in low high (items t ws) rise =
        let inner = spelling_items ws ++ due (sign (codes "]")) ∷ [] in
        let ds = due (sign (codes "#")) ∷ open_level (due (sign (codes "[")) ∷ inner) in
        let places = type_in_front low high t ds rise in
        let own = unopened low high (due (sign (codes "[")) ∷ inner) (behind low high (due (sign (codes "#"))) (open_level (due (sign (codes "[")) ∷ inner)) (back low high (spelling_type_name t) ds rise)) in
        let es = expression_trees (stand_for ws) in
        let counted = count_faults (type_shape scope t) (place_of_type t) (count es) in
        let slots = slots_for (type_shape scope t) in
        record {
          begins = type_begins low high t places;
          faults = found.joined low high (type_faults scope t ++ counted) (each_faults scope slots 0 es)
              (found.joined low high (type_faults scope t) counted (type_of_in low high (standing_of scope t) t places) (count_in low high (type_shape scope t) (place_of_type t) (count es) places.first))
              (items_in low high slots 0 ws (front low high (spelling_items ws) (due (sign (codes "]")) ∷ []) (behind low high (due (sign (codes "["))) inner own)));
        }
    written_in low high (place n ss) rise =
        let lies = named low high n (spelling_suffixes ss) rise in
        record {
          begins = lies;
          faults = found.joined low high (variable_faults scope n) (suffix_faults scope n.at (variable_shape scope n) (suffix_trees (suffixes_stand_for ss)))
              (variable_in low high n lies) (suffixes_in low high n.at (variable_shape scope n) ss lies (behind low high (due_name n) (spelling_suffixes ss) rise));
        }

    -- what stands in front, joined to one operand after the other
    links_in : (low mid high : ℕ) (a : ExpressionTree) (ls : Links) → Stands low mid a → Rise mid high (spelling_links ls) → Stands low high (lean_left a ls)
    links_in low mid high a no_links s rise = stands_wider low mid low high a (omega arith) rise s
    links_in low mid high a (link o w ls) s rise =
        let own = behind mid high (due (lexeme_of o)) (spelling w ++ open_level (spelling_links ls)) rise in
        let cut = split mid high (spelling w) (open_level (spelling_links ls)) own in
        let over = below mid cut.mid (spelling w) cut.front in
        let left = stands_wider low mid low cut.mid a (omega arith) over s in
        let under = lowest low mid a s in
        let right = stands_wider mid cut.mid low cut.mid (stands_for w) under (omega arith) (written_in mid cut.mid w cut.front) in
        links_in low cut.mid high (join_with o a (stands_for w)) ls (pair low cut.mid o a (stands_for w) left right) (unopened cut.mid high (spelling_links ls) cut.back)

    pub items_in : (low high : ℕ) (slots : Slots) (k : ℕ) (ws : WrittenList) → Rise low high (spelling_items ws) → AreIn low high (each_faults scope slots k (expression_trees (stand_for ws)))
    items_in low high slots k no_items rise = tt
    items_in low high slots k (more_items w ws) rise =
        item_with low high slots k w ws (written_in low high w (front low high (spelling w) (spelling_more_items ws) rise)) (more_items_in low high slots (k + 1) ws (back low high (spelling w) (spelling_more_items ws) rise))

    more_items_in : (low high : ℕ) (slots : Slots) (k : ℕ) (ws : WrittenList) → Rise low high (spelling_more_items ws) → AreIn low high (each_faults scope slots k (expression_trees (stand_for ws)))
    more_items_in low high slots k no_items rise = tt
    more_items_in low high slots k (more_items w ws) rise =
        let own = behind low high comma (spelling w ++ spelling_more_items ws) rise in
        item_with low high slots k w ws (written_in low high w (front low high (spelling w) (spelling_more_items ws) own)) (more_items_in low high slots (k + 1) ws (back low high (spelling w) (spelling_more_items ws) own))

    -- where the first byte of the place is given
    suffixes_in : (low high at : ℕ) (o : Option ShapeTree) (ss : WrittenSuffixes) → Lies low high at → Rise low high (spelling_suffixes ss) → AreIn low high (suffix_faults scope at o (suffix_trees (suffixes_stand_for ss)))
    suffixes_in low high at o no_suffixes lies rise = tt
    suffixes_in low high at o (field n ss) lies rise =
        let name = behind low high (due (sign (codes "."))) (due_name n ∷ open_level (spelling_suffixes ss)) rise in
        let others = unopened low high (spelling_suffixes ss) (behind low high (due_name n) (open_level (spelling_suffixes ss)) name) in
        found.joined low high (field_faults at o n) (suffix_faults scope at (field_shape o n.name) (suffix_trees (suffixes_stand_for ss)))
        (field_in low high at o n lies (named low high n (open_level (spelling_suffixes ss)) name)) (suffixes_in low high at (field_shape o n.name) ss lies others)
    suffixes_in low high at o (subscript w ss) lies rise =
        let inner = spelling w ++ due (sign (codes "]")) ∷ [] in
        let own = unopened low high (due (sign (codes "[")) ∷ inner) (front low high (open_level (due (sign (codes "[")) ∷ inner)) (open_level (spelling_suffixes ss)) rise) in
        let others = unopened low high (spelling_suffixes ss) (back low high (open_level (due (sign (codes "[")) ∷ inner)) (open_level (spelling_suffixes ss)) rise) in
        let a = stands_for w in
        let s = written_in low high w (front low high (spelling w) (due (sign (codes "]")) ∷ []) (behind low high (due (sign (codes "["))) inner own)) in
        let sorted = wanted_faults is_number (sort scope a) (place_of a) in
        found.joined low high ((item_faults at o ++ expression_faults scope a) ++ sorted) (suffix_faults scope at (element_for o) (suffix_trees (suffixes_stand_for ss)))
        (found.joined low high (item_faults at o ++ expression_faults scope a) sorted
        (found.joined low high (item_faults at o) (expression_faults scope a) (item_in low high at o lies) s.faults)
        (wanted_in low high is_number (sort scope a) (place_of a) s.begins))
        (suffixes_in low high at (element_for o) ss lies others)

  -- ---- places, and lists of expressions

  pub place_in : (low high : ℕ) (p : WrittenPlace) → Rise low high (spelling_place p) → AreIn low high (place_faults scope (place_stands_for p))
  place_in low high p rise =
      let lies = named low high p.name (spelling_suffixes p.suffixes) rise in
      found.joined low high (variable_faults scope p.name) (suffix_faults scope p.name.at (variable_shape scope p.name) (suffix_trees (suffixes_stand_for p.suffixes)))
      (variable_in low high p.name lies) (suffixes_in low high p.name.at (variable_shape scope p.name) p.suffixes lies (behind low high (due_name p.name) (spelling_suffixes p.suffixes) rise))

  pub place_begins : (low high : ℕ) (p : WrittenPlace) → Rise low high (spelling_place p) → Lies low high p.name.at
  place_begins low high p rise = named low high p.name (spelling_suffixes p.suffixes) rise

  listed : (ws : List Written) → stand_for (written_list ws) ≡ map stands_for ws
  listed [] = refl
  listed (w ∷ ws) = ap (λ es. stands_for w ∷ es) (listed ws)

  pub list_in : (low high : ℕ) (slots : Slots) (ws : List Written) → Rise low high (spelling_list ws) → AreIn low high (each_faults scope slots 0 (expression_trees (map stands_for ws)))
  list_in low high slots ws rise =
      let inner = spelling_items (written_list ws) ++ due (sign (codes "]")) ∷ [] in
      let own = behind low high (due (sign (codes "["))) inner (unopened low high (due (sign (codes "[")) ∷ inner) rise) in
      subst (λ es. AreIn low high (each_faults scope slots 0 (expression_trees es))) (listed ws)
      (items_in low high slots 0 (written_list ws) (front low high (spelling_items (written_list ws)) (due (sign (codes "]")) ∷ []) own))
