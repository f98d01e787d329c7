-- The fields of a state, for each shape one.
use Rattle.std.proofs.Common.{◌≡◌, ℕ, ◌+◌, ◌<◌, ◌≤◌, ◌&&◌, List, [], ◌∷◌, ◌++◌, length, get_or, drop, Err, refl, sym, ap, ◌∙◌, append_assoc, append-nil}
use Rattle.std.proofs.lemmas.List.{drop_more, drop_all}
use Rattle.circus_value.specs.ValueTree.{ValueTree}
use Rattle.circus_value.specs.ShapeOf.{tree_of}
use Rattle.circus_value.specs.Fits.{fits, all_fit}
use Rattle.circus_value.specs.declared.shape.Shape.{Shape}
use Rattle.circus_external.specs.declared.fault.ExternalFault.{ExternalFault}
use Rattle.circus_external.specs.Answer.{Answer, found, short, not_a_value, bad_pad}
use Rattle.circus_external.specs.Spelling.{fields_admit}
use Rattle.circus_external.specs.Seen.Given.{Gives}
use Rattle.circus_external.specs.Reading.{and_then, one_more, reading, fields_reading}
use Rattle.circus_external.proofs.ReadLemmas.{behind, fault_behind}
use Rattle.circus_transfer.specs.Snapshot.{fields_of}

pub admits : (shapes : List Shape) (state : List ValueTree) → fields_admit (fields_of shapes) state ≡ all_fit shapes state
admits [] [] = refl
admits [] (t ∷ ts) = refl
admits (s ∷ shapes) [] = refl
admits (s ∷ shapes) (t ∷ ts) = ap (λ b. fits (tree_of s) t && b) (admits shapes ts)

behind_one : (done : List ValueTree) (t : ValueTree) (a : Answer (List ValueTree)) → behind done (one_more t a) ≡ behind (done ++ t ∷ []) a
behind_one done t (found ts next rest) = ap (λ xs. found xs next rest) (sym (append_assoc done (t ∷ []) ts))
behind_one done t (short place) = refl
behind_one done t (not_a_value place) = refl
behind_one done t (bad_pad place) = refl

-- what the shapes that are left come to
abbrev pub left : List Shape → ℕ → ℕ → List ℕ → Answer (List ValueTree)
left shapes i at bs = fields_reading (fields_of (drop i shapes)) at bs

left_is : (shapes : List Shape) (i at : ℕ) (bs : List ℕ) (s : Shape) → i < length shapes → s ≡ get_or shapes i s → left shapes i at bs ≡ and_then (reading (tree_of s) at bs) (λ t next rest. one_more t (left shapes (i + 1) next rest))
left_is shapes i at bs s few is =
    let front : drop i shapes ≡ s ∷ drop (i + 1) shapes = drop_more shapes i s few ∙ ap (λ x. x ∷ drop (i + 1) shapes) (sym is) in
    ap (λ xs. fields_reading (fields_of xs) at bs) front

pub shapes_more : (shapes : List Shape) (i at next : ℕ) (bs rest : List ℕ) (s : Shape) (done : List ValueTree) (t : ValueTree) (whole : Answer (List ValueTree)) → i < length shapes → s ≡ get_or shapes i s → reading (tree_of s) at bs ≡ found t next rest → whole ≡ behind done (left shapes i at bs) → whole ≡ behind (done ++ t ∷ []) (left shapes (i + 1) next rest)
shapes_more shapes i at next bs rest s done t whole few is read all =
    all ∙ ap (behind done) (left_is shapes i at bs s few is)
    ∙ ap (λ a. behind done (and_then a (λ u m later. one_more u (left shapes (i + 1) m later)))) read
    ∙ behind_one done t (left shapes (i + 1) next rest)

pub shapes_all : (shapes : List Shape) (i at : ℕ) (bs : List ℕ) (done : List ValueTree) (whole : Answer (List ValueTree)) → length shapes ≤ i → whole ≡ behind done (left shapes i at bs) → whole ≡ found done at bs
shapes_all shapes i at bs done whole all is =
    is ∙ ap (λ xs. behind done (fields_reading (fields_of xs) at bs)) (drop_all i shapes all) ∙ ap (λ xs. found xs at bs) (append-nil done)

pub shapes_fault : {W : Type 0} (tree : W → ValueTree) (octets : List ℕ) (f : ExternalFault) (shapes : List Shape) (i at : ℕ) (bs : List ℕ) (s : Shape) (done : List ValueTree) (whole : Answer (List ValueTree)) → i < length shapes → s ≡ get_or shapes i s → Gives tree octets (Err f) (reading (tree_of s) at bs) → whole ≡ behind done (left shapes i at bs) → Gives (λ ts. ts) octets (Err f) whole
shapes_fault tree octets f shapes i at bs s done whole few is gives all =
    fault_behind tree octets f done (reading (tree_of s) at bs) whole (λ u m later. one_more u (left shapes (i + 1) m later)) gives
    (all ∙ ap (behind done) (left_is shapes i at bs s few is))
