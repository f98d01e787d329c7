-- Reading one value behind another, by shapes.
use Rattle.std.proofs.Common.{◌≡◌, ◌∙◌, ℕ, ◌+◌, ◌<◌, ◌≤◌, Some, None, List, [], ◌∷◌, ◌++◌, length, get_or, drop, Err, refl, sym, ap, append-nil}
use Rattle.std.proofs.lemmas.List.{drop_more, drop_all}
use Rattle.circus_value.specs.declared.shape.Shape.{Shape}
use Rattle.circus_value.specs.ValueTree.{ValueTree}
use Rattle.circus_value_text.specs.declared.unread.Unread.{Unread}
use Rattle.circus_value_text.specs.declared.unread.Unread.TheVariants as unread
use Rattle.circus_value_text.specs.Reading.{Read, and_then, comma, one_more}
use Rattle.circus_value_text.specs.Seen.Given.{Gives, mark_behind}
use Rattle.circus_audit.specs.Seen.Values.{value_behind, shapes_read, values_before}
use Rattle.std.proofs.Common.{append_assoc}

before_more : (done : List ValueTree) (t : ValueTree) (r : Read (List ValueTree)) → values_before done (one_more t r) ≡ values_before (done ++ t ∷ []) r
before_more done t (Some r) = ap (λ xs. Some (xs, r.1)) (sym (append_assoc done (t ∷ []) r.0))
before_more done t None = refl

mark_more : (done : List ValueTree) (t : ValueTree) → mark_behind (done ++ t ∷ []) ≡ comma
mark_more [] t = refl
mark_more (u ∷ done) t = refl

abbrev left : List Shape → ℕ → List ValueTree → List ℕ → Read (List ValueTree)
left shapes i done text = shapes_read (drop i shapes) (mark_behind done) text

left_is : (shapes : List Shape) (i : ℕ) (s : Shape) (done : List ValueTree) (text : List ℕ) → i < length shapes → s ≡ get_or shapes i s → left shapes i done text ≡ and_then (value_behind (mark_behind done) s text) (λ t rest. one_more t (shapes_read (drop (i + 1) shapes) comma rest))
left_is shapes i s done text few is =
    let front : drop i shapes ≡ s ∷ drop (i + 1) shapes = drop_more shapes i s few ∙ ap (λ x. x ∷ drop (i + 1) shapes) (sym is) in
    ap (λ xs. shapes_read xs (mark_behind done) text) front

pub shapes_more : (shapes : List Shape) (i : ℕ) (s : Shape) (done : List ValueTree) (t : ValueTree) (text rest : List ℕ) (all : Read (List ValueTree)) → i < length shapes → s ≡ get_or shapes i s → value_behind (mark_behind done) s text ≡ Some (t, rest) → all ≡ values_before done (left shapes i done text) → all ≡ values_before (done ++ t ∷ []) (left shapes (i + 1) (done ++ t ∷ []) rest)
shapes_more shapes i s done t text rest all few is next so =
    so ∙ ap (values_before done) (left_is shapes i s done text few is)
    ∙ ap (λ r. values_before done (and_then r (λ u later. one_more u (shapes_read (drop (i + 1) shapes) comma later)))) next
    ∙ before_more done t (shapes_read (drop (i + 1) shapes) comma rest)
    ∙ ap (λ m. values_before (done ++ t ∷ []) (shapes_read (drop (i + 1) shapes) m rest)) (sym (mark_more done t))

pub shapes_fault : {W : Type 0} (tree : W → ValueTree) (octets : List ℕ) (f : Unread) (shapes : List Shape) (i : ℕ) (s : Shape) (done : List ValueTree) (text : List ℕ) (all : Read (List ValueTree)) → i < length shapes → s ≡ get_or shapes i s → Gives tree octets (Err f) (value_behind (mark_behind done) s text) → all ≡ values_before done (left shapes i done text) → Gives (λ (ts : List ValueTree). ts) octets (Err f) all
shapes_fault tree octets unread.Unlike shapes i s done text all few is fault so =
    so ∙ ap (values_before done) (left_is shapes i s done text few is)
    ∙ ap (λ r. values_before done (and_then r (λ u later. one_more u (shapes_read (drop (i + 1) shapes) comma later)))) fault
shapes_fault tree octets unread.NoMemory shapes i s done text all few is fault so = tt

pub shapes_all : (shapes : List Shape) (i : ℕ) (done : List ValueTree) (text : List ℕ) (all : Read (List ValueTree)) → length shapes ≤ i → all ≡ values_before done (left shapes i done text) → all ≡ Some (done, text)
shapes_all shapes i done text all end so =
    so ∙ ap (λ xs. values_before done (shapes_read xs (mark_behind done) text)) (drop_all i shapes end) ∙ ap (λ ts. Some (ts, text)) (append-nil done)
