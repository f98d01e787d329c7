-- Texts put together, by what stands among the operations.
use Rattle.std.proofs.Common.{◌≡◌, ℕ, zero, suc, ◌+◌, ◌<◌, List, [], ◌∷◌, ◌++◌, length, get_or, drop, map, sym, ap, ◌∙◌, arith, append_assoc, append-nil}
use Rattle.std.specs.List.{flat_map}
use Rattle.std.specs.Prelude.{codes}
use Rattle.std.proofs.Math.ListN.{length-map}
use Rattle.std.proofs.lemmas.List.{drop_more}
use Rattle.circus_value.specs.ShapeTree.{FieldTrees, ArmTrees, no_fields, no_arms}
use Rattle.circus_stub.specs.declared.operation.Operation.{Operation}
use Rattle.circus_stub.specs.StubsText.{part_words, shape_words, field_words, arm_words}
use Rattle.circus_stub.proofs.StandLemmas.{FieldsFirst, ArmAt}

-- one text behind another
pub both : (t u v a b : List ℕ) → u ≡ t ++ a → v ≡ u ++ b → v ≡ t ++ (a ++ b)
both t u v a b first second = second ∙ ap (λ xs. xs ++ b) first ∙ append_assoc t a b

-- the text of one item and of those that are left
left_shown : (t u whole x others : List ℕ) → u ≡ t ++ x → t ++ (x ++ others) ≡ whole → u ++ others ≡ whole
left_shown t u whole x others is all = ap (λ xs. xs ++ others) is ∙ append_assoc t x others ∙ all

pub flat_map_shown : {X : Type 0} (f : X → List ℕ) (xs : List X) (i : ℕ) (x : X) (t u whole : List ℕ) → i < length xs → x ≡ get_or xs i x → u ≡ t ++ f x → t ++ flat_map f (drop i xs) ≡ whole → u ++ flat_map f (drop (i + 1) xs) ≡ whole
flat_map_shown f xs i x t u whole few is more all =
    let front : drop i xs ≡ x ∷ drop (i + 1) xs = drop_more xs i x few ∙ ap (λ y. y ∷ drop (i + 1) xs) (sym is) in
    left_shown t u whole (f x) (flat_map f (drop (i + 1) xs)) more (ap (λ ys. t ++ flat_map f ys) (sym front) ∙ all)

pub field_shown : {ops : List Operation} {p end : ℕ} {left : FieldTrees} (f : FieldsFirst ops p end left) (t u whole : List ℕ) → u ≡ t ++ shape_words f.shape → t ++ field_words left ≡ whole → u ++ field_words f.others ≡ whole
field_shown f t u whole more all =
    left_shown t u whole (shape_words f.shape) (field_words f.others) more (ap (λ fs. t ++ field_words fs) (sym f.is) ∙ all)

pub fields_shown : (left : FieldTrees) (t whole : List ℕ) → left ≡ no_fields → t ++ field_words left ≡ whole → t ≡ whole
fields_shown left t whole none all = sym (append-nil t) ∙ ap (λ fs. t ++ field_words fs) (sym none) ∙ all

pub arm_shown : {ops : List Operation} {p end n behind : ℕ} {left : ArmTrees} (arm : ArmAt ops p end n behind left) (t u whole : List ℕ) → u ≡ t ++ (codes " arm" ++ part_words n (shape_words arm.shape)) → t ++ arm_words left ≡ whole → u ++ arm_words arm.others ≡ whole
arm_shown {n = n} arm t u whole more all =
    left_shown t u whole (codes " arm" ++ part_words n (shape_words arm.shape)) (arm_words arm.others) more (ap (λ arms. t ++ arm_words arms) (sym arm.is) ∙ all)

pub arms_shown : (left : ArmTrees) (t whole : List ℕ) → left ≡ no_arms → t ++ arm_words left ≡ whole → t ≡ whole
arms_shown left t whole none all = sym (append-nil t) ∙ ap (λ arms. t ++ arm_words arms) (sym none) ∙ all

-- ---- items and what they are mapped to

mapped : {X Y : Type 0} (f : X → Y) (xs : List X) (i : ℕ) (x : X) (y : Y) → i < length xs → x ≡ get_or xs i x → y ≡ get_or (map f xs) i y → y ≡ f x
mapped f [] i x y few is same = absurd (omega arith)
mapped f (z ∷ xs) zero x y few is same = same ∙ ap f (sym is)
mapped f (z ∷ xs) (suc i) x y few is same = mapped f xs i x y (omega arith) is same

pub mapped_at : {X Y : Type 0} (f : X → Y) (xs : List X) (ys : List Y) (i : ℕ) (x : X) (y : Y) → ys ≡ map f xs → i < length xs → x ≡ get_or xs i x → y ≡ get_or ys i y → y ≡ f x
mapped_at f xs ys i x y all few is same = mapped f xs i x y few is (same ∙ ap (λ zs. get_or zs i y) all)

pub mapped_within : {X Y : Type 0} (f : X → Y) (xs : List X) (ys : List Y) (i : ℕ) → ys ≡ map f xs → i < length xs → i < length ys
mapped_within f xs ys i all few = omega (arith, ap length all, length-map xs f)
