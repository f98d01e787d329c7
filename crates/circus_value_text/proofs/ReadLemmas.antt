-- Reading one value behind another.
use Rattle.std.proofs.Common.{◌≡◌, ◌∙◌, ℕ, suc, ◌+◌, ◌-◌, ◌<◌, ◌≤◌, true, false, cond, nat_eq, is_some, Option, Some, None, List, [], ◌∷◌, ◌++◌, length, get_or, drop, map, Result, Err, refl, sym, ap, subst, arith, append_assoc, append-nil, codes}
use Rattle.std.proofs.lemmas.List.{drop_more}
use Rattle.circus_value.specs.declared.shape.Field.{Field}
use Rattle.circus_value.specs.ValueTree.{ValueTree}
use Rattle.circus_value.specs.ValueTree as V
use Rattle.circus_value.specs.ShapeTree.{ShapeTree, ArmTree, field_trees, arm_trees}
use Rattle.circus_value.specs.ShapeOf.{tree_of, field_of}
use Rattle.circus_value.specs.Seen.ShapeWeight.{weight, arm_weights}
use Rattle.circus_value.specs.ArmShape.{arm_shape}
use Rattle.circus_value_text.specs.declared.unread.Unread.{Unread}
use Rattle.circus_value_text.specs.declared.unread.Unread.TheVariants as unread
use Rattle.circus_value_text.specs.Reading.{Read, and_then, seen_as, behind_prefix, behind, comma, one_more, items_read, none_if, items_within, reading, fields_reading, arm_reading}
use Rattle.circus_value_text.specs.Seen.Given.{Gives, mark_behind, next_read, stands}

-- these values in front of the others
abbrev pub before : List ValueTree → Read (List ValueTree) → Read (List ValueTree)
before done r = seen_as (λ ts. done ++ ts) r

before_more : (done : List ValueTree) (t : ValueTree) (r : Read (List ValueTree)) → before done (one_more t r) ≡ before (done ++ t ∷ []) r
before_more done t (Some r) = ap (λ xs. Some (xs, r.1)) (sym (append_assoc done (t ∷ []) r.0))
before_more done t None = refl

mark_more : (done : List ValueTree) (t : ValueTree) → mark_behind (done ++ t ∷ []) ≡ comma
mark_more [] t = refl
mark_more (u ∷ done) t = refl

-- a value behind a mark, and others
abbrev pub one_read : List ℕ → (List ℕ → Read ValueTree) → (List ℕ → List ℕ → Read (List ValueTree)) → List ℕ → Read (List ValueTree)
one_read mark item others text = behind (behind_prefix mark text) (λ inner. and_then (item inner) (λ t rest. one_more t (others comma rest)))

behind_then : (p : Option (List ℕ)) (item : List ℕ → Read ValueTree) (go_on : ValueTree → List ℕ → Read (List ValueTree)) → behind p (λ inner. and_then (item inner) go_on) ≡ and_then (behind p item) go_on
behind_then (Some inner) item go_on = refl
behind_then None item go_on = refl

-- one more value was read
more : (mark : List ℕ) (item : List ℕ → Read ValueTree) (others : List ℕ → List ℕ → Read (List ValueTree)) (done : List ValueTree) (t : ValueTree) (text rest : List ℕ) → behind (behind_prefix mark text) item ≡ Some (t, rest) → before done (one_read mark item others text) ≡ before (done ++ t ∷ []) (others (mark_behind (done ++ t ∷ [])) rest)
more mark item others done t text rest next =
    ap (before done) (behind_then (behind_prefix mark text) item (λ u later. one_more u (others comma later)))
    ∙ ap (λ r. before done (and_then r (λ u later. one_more u (others comma later)))) next
    ∙ before_more done t (others comma rest)
    ∙ ap (λ m. before (done ++ t ∷ []) (others m rest)) (sym (mark_more done t))

-- or none could be
no_more : {W : Type 0} (tree : W → ValueTree) (octets : List ℕ) (f : Unread) (mark : List ℕ) (item : List ℕ → Read ValueTree) (others : List ℕ → List ℕ → Read (List ValueTree)) (done : List ValueTree) (text : List ℕ) (whole : Read (List ValueTree)) → Gives tree octets (Err f) (behind (behind_prefix mark text) item) → whole ≡ before done (one_read mark item others text) → Gives (λ (ts : List ValueTree). ts) octets (Err f) whole
no_more tree octets unread.Unlike mark item others done text whole fault is =
    is ∙ ap (before done) (behind_then (behind_prefix mark text) item (λ u later. one_more u (others comma later)))
    ∙ ap (λ r. before done (and_then r (λ u later. one_more u (others comma later)))) fault
no_more tree octets unread.NoMemory mark item others done text whole fault is = tt

-- what is read behind a mark
pub behind_gives : {X Y : Type 0} (tree : Y → X) (octets : List ℕ) (r : Result (Y × ℕ) Unread) (mark text inner : List ℕ) (read : List ℕ → Read X) → behind_prefix mark text ≡ Some inner → Gives tree octets r (read inner) → Gives tree octets r (behind (behind_prefix mark text) read)
behind_gives tree octets r mark text inner read is gives = subst (λ p. Gives tree octets r (behind p read)) (sym is) gives

-- ---- items

abbrev pub items_left : (List ℕ → Read ValueTree) → ℕ → ℕ → List ℕ → List ℕ → Read (List ValueTree)
items_left item count i mark text = items_read item (count - i) mark text

items_are : (item : List ℕ → Read ValueTree) (count i : ℕ) (mark text : List ℕ) → i < count → items_left item count i mark text ≡ one_read mark item (items_left item count (i + 1)) text
items_are item count i mark text few =
    let left : count - i ≡ suc (count - (i + 1)) = omega arith in
    ap (λ n. items_read item n mark text) left

pub items_more : (item : List ℕ → Read ValueTree) (count i : ℕ) (done : List ValueTree) (t : ValueTree) (text rest : List ℕ) (whole : Read (List ValueTree)) → i < count → next_read done item text ≡ Some (t, rest) → whole ≡ before done (items_left item count i (mark_behind done) text) → whole ≡ before (done ++ t ∷ []) (items_left item count (i + 1) (mark_behind (done ++ t ∷ [])) rest)
items_more item count i done t text rest whole few next all =
    all ∙ ap (before done) (items_are item count i (mark_behind done) text few) ∙ more (mark_behind done) item (items_left item count (i + 1)) done t text rest next

pub items_fault : {W : Type 0} (tree : W → ValueTree) (octets : List ℕ) (f : Unread) (item : List ℕ → Read ValueTree) (count i : ℕ) (done : List ValueTree) (text : List ℕ) (whole : Read (List ValueTree)) → i < count → Gives tree octets (Err f) (next_read done item text) → whole ≡ before done (items_left item count i (mark_behind done) text) → Gives (λ (ts : List ValueTree). ts) octets (Err f) whole
items_fault tree octets f item count i done text whole few fault all =
    no_more tree octets f (mark_behind done) item (items_left item count (i + 1)) done text whole fault (all ∙ ap (before done) (items_are item count i (mark_behind done) text few))

pub items_all : (item : List ℕ → Read ValueTree) (count i : ℕ) (done : List ValueTree) (mark text : List ℕ) (whole : Read (List ValueTree)) → count ≤ i → whole ≡ before done (items_left item count i mark text) → whole ≡ Some (done, text)
items_all item count i done mark text whole all is =
    let left : count - i ≡ 0 = omega arith in
    is ∙ ap (λ n. before done (items_read item n mark text)) left ∙ ap (λ ts. Some (ts, text)) (append-nil done)

-- ---- items up to a brace

abbrev pub within_left : (List ℕ → Read ValueTree) → ℕ → ℕ → List ℕ → List ℕ → Read (List ValueTree)
within_left item bound i mark text = items_within item (bound - i) mark text

within_are : (item : List ℕ → Read ValueTree) (bound i : ℕ) (mark text : List ℕ) → i < bound → within_left item bound i mark text ≡ none_if text (behind_prefix (codes "}") text) (one_read mark item (within_left item bound (i + 1)) text)
within_are item bound i mark text few =
    let left : bound - i ≡ suc (bound - (i + 1)) = omega arith in
    ap (λ n. items_within item n mark text) left

none_where : (p : Option (List ℕ)) (text : List ℕ) (others : Read (List ValueTree)) → is_some p ≡ true → none_if text p others ≡ Some ([], text)
none_where (Some rest) text others brace = refl
none_where None text others brace = cc

others_where : (p : Option (List ℕ)) (text : List ℕ) (others : Read (List ValueTree)) → is_some p ≡ false → none_if text p others ≡ others
others_where (Some rest) text others brace = cc
others_where None text others brace = refl

unclosed : (item : List ℕ → Read ValueTree) (bound i : ℕ) (mark text : List ℕ) → i < bound → stands (codes "}") text ≡ false → within_left item bound i mark text ≡ one_read mark item (within_left item bound (i + 1)) text
unclosed item bound i mark text few brace =
    within_are item bound i mark text few ∙ others_where (behind_prefix (codes "}") text) text (one_read mark item (within_left item bound (i + 1)) text) brace

pub within_closed : (item : List ℕ → Read ValueTree) (bound i : ℕ) (done : List ValueTree) (mark text : List ℕ) (whole : Read (List ValueTree)) → i < bound → stands (codes "}") text ≡ true → whole ≡ before done (within_left item bound i mark text) → whole ≡ Some (done, text)
within_closed item bound i done mark text whole few brace all =
    all ∙ ap (before done) (within_are item bound i mark text few ∙ none_where (behind_prefix (codes "}") text) text (one_read mark item (within_left item bound (i + 1)) text) brace)
    ∙ ap (λ ts. Some (ts, text)) (append-nil done)

pub within_more : (item : List ℕ → Read ValueTree) (bound i : ℕ) (done : List ValueTree) (t : ValueTree) (text rest : List ℕ) (whole : Read (List ValueTree)) → i < bound → stands (codes "}") text ≡ false → next_read done item text ≡ Some (t, rest) → whole ≡ before done (within_left item bound i (mark_behind done) text) → whole ≡ before (done ++ t ∷ []) (within_left item bound (i + 1) (mark_behind (done ++ t ∷ [])) rest)
within_more item bound i done t text rest whole few brace next all =
    all ∙ ap (before done) (unclosed item bound i (mark_behind done) text few brace) ∙ more (mark_behind done) item (within_left item bound (i + 1)) done t text rest next

pub within_fault : {W : Type 0} (tree : W → ValueTree) (octets : List ℕ) (f : Unread) (item : List ℕ → Read ValueTree) (bound i : ℕ) (done : List ValueTree) (text : List ℕ) (whole : Read (List ValueTree)) → i < bound → stands (codes "}") text ≡ false → Gives tree octets (Err f) (next_read done item text) → whole ≡ before done (within_left item bound i (mark_behind done) text) → Gives (λ (ts : List ValueTree). ts) octets (Err f) whole
within_fault tree octets f item bound i done text whole few brace fault all =
    no_more tree octets f (mark_behind done) item (within_left item bound (i + 1)) done text whole fault (all ∙ ap (before done) (unclosed item bound i (mark_behind done) text few brace))

pub within_all : (item : List ℕ → Read ValueTree) (bound i : ℕ) (done : List ValueTree) (mark text : List ℕ) (whole : Read (List ValueTree)) → bound ≤ i → whole ≡ before done (within_left item bound i mark text) → whole ≡ Some (done, text)
within_all item bound i done mark text whole all is =
    let left : bound - i ≡ 0 = omega arith in
    is ∙ ap (λ n. before done (items_within item n mark text)) left ∙ ap (λ ts. Some (ts, text)) (append-nil done)

-- ---- fields

abbrev pub fields_left : List Field → ℕ → List ℕ → List ℕ → Read (List ValueTree)
fields_left gs i mark text = fields_reading (field_trees (map field_of (drop i gs))) mark text

fields_are : (gs : List Field) (i : ℕ) (mark text : List ℕ) (g : Field) → i < length gs → g ≡ get_or gs i g → fields_left gs i mark text ≡ one_read mark (reading (tree_of g.shape)) (fields_left gs (i + 1)) text
fields_are gs i mark text g few is =
    let front : drop i gs ≡ g ∷ drop (i + 1) gs = drop_more gs i g few ∙ ap (λ x. x ∷ drop (i + 1) gs) (sym is) in
    ap (λ xs. fields_reading (field_trees (map field_of xs)) mark text) front

pub fields_more : (gs : List Field) (i : ℕ) (g : Field) (done : List ValueTree) (t : ValueTree) (text rest : List ℕ) (whole : Read (List ValueTree)) → i < length gs → g ≡ get_or gs i g → next_read done (reading (tree_of g.shape)) text ≡ Some (t, rest) → whole ≡ before done (fields_left gs i (mark_behind done) text) → whole ≡ before (done ++ t ∷ []) (fields_left gs (i + 1) (mark_behind (done ++ t ∷ [])) rest)
fields_more gs i g done t text rest whole few is next all =
    all ∙ ap (before done) (fields_are gs i (mark_behind done) text g few is) ∙ more (mark_behind done) (reading (tree_of g.shape)) (fields_left gs (i + 1)) done t text rest next

pub fields_fault : {W : Type 0} (tree : W → ValueTree) (octets : List ℕ) (f : Unread) (gs : List Field) (i : ℕ) (g : Field) (done : List ValueTree) (text : List ℕ) (whole : Read (List ValueTree)) → i < length gs → g ≡ get_or gs i g → Gives tree octets (Err f) (next_read done (reading (tree_of g.shape)) text) → whole ≡ before done (fields_left gs i (mark_behind done) text) → Gives (λ (ts : List ValueTree). ts) octets (Err f) whole
fields_fault tree octets f gs i g done text whole few is fault all =
    no_more tree octets f (mark_behind done) (reading (tree_of g.shape)) (fields_left gs (i + 1)) done text whole fault (all ∙ ap (before done) (fields_are gs i (mark_behind done) text g few is))

-- ---- arms

pub arm_is : (arms : List ArmTree) (n : ℕ) (text : List ℕ) (s : ShapeTree) → arm_shape arms n ≡ Some s → arm_reading (arm_trees arms) n text ≡ seen_as (λ t. V.choice n t) (reading s text)
arm_is [] n text s is = cc
arm_is (a ∷ arms) n text s is =
    elim (nat_eq n a.number) as (λ b. cond b (Some a.shape) (arm_shape arms n) ≡ Some s → cond b (seen_as (λ t. V.choice n t) (reading a.shape text)) (arm_reading (arm_trees arms) n text) ≡ seen_as (λ t. V.choice n t) (reading s text)) [
      | true ↦ λ same. let shape : a.shape ≡ s = cc in ap (λ x. seen_as (λ t. V.choice n t) (reading x text)) shape
      | false ↦ arm_is arms n text s
    ] is

pub no_arm_is : (arms : List ArmTree) (n : ℕ) (text : List ℕ) → arm_shape arms n ≡ None → arm_reading (arm_trees arms) n text ≡ None
no_arm_is [] n text is = refl
no_arm_is (a ∷ arms) n text is =
    elim (nat_eq n a.number) as (λ b. cond b (Some a.shape) (arm_shape arms n) ≡ None → cond b (seen_as (λ t. V.choice n t) (reading a.shape text)) (arm_reading (arm_trees arms) n text) ≡ None) [
      | true ↦ λ same. cc
      | false ↦ no_arm_is arms n text
    ] is

pub weight_arm : (arms : List ArmTree) (n : ℕ) (s : ShapeTree) → arm_shape arms n ≡ Some s → weight s < arm_weights (arm_trees arms)
weight_arm [] n s is = cc
weight_arm (a ∷ arms) n s is =
    elim (nat_eq n a.number) as (λ b. cond b (Some a.shape) (arm_shape arms n) ≡ Some s → weight s < 2 + weight a.shape + arm_weights (arm_trees arms)) [
      | true ↦ λ same. let shape : a.shape ≡ s = cc in omega (arith, ap weight shape)
      | false ↦ λ later. omega (arith, weight_arm arms n s later)
    ] is

pub seen_fault : {X Y Z W : Type 0} (tree : Y → X) (other : W → Z) (octets : List ℕ) (f : Unread) (r : Read X) (whole : Read Z) (seen : X → Z) → Gives tree octets (Err f) r → whole ≡ seen_as seen r → Gives other octets (Err f) whole
seen_fault tree other octets unread.Unlike r whole seen fault is = is ∙ ap (seen_as seen) fault
seen_fault tree other octets unread.NoMemory r whole seen fault is = tt
