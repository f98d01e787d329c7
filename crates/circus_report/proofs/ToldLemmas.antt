-- Laws of what is told, piece by piece.
use Rattle.std.proofs.Common.{◌≡◌, ℕ, ◌+◌, ◌-◌, Option, Some, None, List, [], ◌++◌, length, take, drop, refl, ap, sym, subst, ◌∙◌, append_assoc, append-nil, arith}
use Rattle.std.proofs.lemmas.Grind.{common_steps}
use Rattle.std.proofs.lemmas.List.{take-append-drop}
use Rattle.std.proofs.Math.Seq.{take-add}
use Rattle.circus_outside.specs.Told.{told_more}
use Rattle.circus_report.specs.Writing.{Writes, WritesPart}

-- two pieces are told as one
pub told_more-twice : {A : Type 0} (told : Option (List A)) (first second : List A) → told_more (told_more told first) second ≡ told_more told (first ++ second)
told_more-twice None first second = refl
told_more-twice (Some items) first second = ap Some (append_assoc items first second)

-- nothing more is told by no items
pub told_more-nil : {A : Type 0} (told : Option (List A)) → told ≡ told_more told []
told_more-nil None = refl
told_more-nil (Some items) = ap Some (sym (append-nil items))

-- what is told behind a part is told behind the whole
pub told_more-take : {A : Type 0} (old middle new : Option (List A)) (items : List A) (at count : ℕ) → middle ≡ told_more old (take at items) → new ≡ told_more middle (take count (drop at items)) → new ≡ told_more old (take (at + count) items)
told_more-take old middle new items at count e f =
    f ∙ ap (λ told. told_more told (take count (drop at items))) e ∙ told_more-twice old (take at items) (take count (drop at items))
    ∙ ap (told_more old) (sym (take-add at count items))

-- a text behind another one is written behind both
pub Writes-joined : (old middle new : Option (List ℕ)) (front text : List ℕ) → Writes old middle front → Writes middle new text → Writes old new (front ++ text)
Writes-joined old middle new front text e f = f ∙ ap (λ told. told_more told text) e ∙ told_more-twice old front text

-- nothing is a part of every text
pub WritesPart-none : (old new : Option (List ℕ)) (text : List ℕ) → new ≡ old → WritesPart old new text
WritesPart-none old new text e = record { part = []; rest = text; whole = refl; written = e ∙ told_more-nil old }

-- a text is a part of itself
pub WritesPart-all : (old new : Option (List ℕ)) (text : List ℕ) → Writes old new text → WritesPart old new text
WritesPart-all old new text e = record { part = text; rest = []; whole = sym (append-nil text); written = e }

-- a part of a text is a part of a longer one
pub WritesPart-longer : (old new : Option (List ℕ)) (front more : List ℕ) → WritesPart old new front → WritesPart old new (front ++ more)
WritesPart-longer old new front more w =
    record {
      part = w.part;
      rest = w.rest ++ more;
      whole = ap (λ l. l ++ more) w.whole ∙ append_assoc w.part w.rest more;
      written = w.written;
    }

-- a part of what stands behind a text is a part of both
pub WritesPart-joined : (old middle new : Option (List ℕ)) (front text : List ℕ) → Writes old middle front → WritesPart middle new text → WritesPart old new (front ++ text)
WritesPart-joined old middle new front text e w =
    record {
      part = front ++ w.part;
      rest = w.rest;
      whole = ap (λ l. front ++ l) w.whole ∙ sym (append_assoc front w.part w.rest);
      written = Writes-joined old middle new front w.part e w.written;
    }

-- the front of a text is a part of it
pub WritesPart-take : (old new : Option (List ℕ)) (text : List ℕ) (at : ℕ) → new ≡ told_more old (take at text) → WritesPart old new text
WritesPart-take old new text at e =
    subst (WritesPart old new) (take-append-drop at text)
    (WritesPart-longer old new (take at text) (drop at text) (WritesPart-all old new (take at text) e))

-- a part of what stands behind a place is a part of the whole
pub WritesPart-behind : (old middle new : Option (List ℕ)) (text : List ℕ) (at count : ℕ) → middle ≡ told_more old (take at text) → WritesPart middle new (take count (drop at text)) → WritesPart old new text
WritesPart-behind old middle new text at count e w =
    let behind : WritesPart middle new (drop at text) =
    subst (WritesPart middle new) (take-append-drop count (drop at text))
    (WritesPart-longer middle new (take count (drop at text)) (drop count (drop at text)) w) in
    subst (WritesPart old new) (take-append-drop at text) (WritesPart-joined old middle new (take at text) (drop at text) e behind)

-- all that stands behind a place
pub take-behind : {A : Type 0} (items : List A) (at : ℕ) → take (length items - at) (drop at items) ≡ drop at items
take-behind items at = grind (arith, common_steps)
