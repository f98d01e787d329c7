-- Records that have the first lines of a text.
use Rattle.std.proofs.Common.{◌≡◌, ◌∙◌, ℕ, zero, suc, ◌<◌, ◌≤◌, inl, inr, List, take, take-take, refl, sym, ap, arith}
use Rattle.std.proofs.lemmas.Bool.{cases_lt}
use Rattle.circus_config.specs.declared.plan.Plan.{Plan}
use Rattle.circus_audit.specs.declared.given.Given.{Given}
use Rattle.circus_audit.specs.TextPieces.{Piece, pieces}
use Rattle.circus_audit.specs.RecordText.{IsRecordText}
use Rattle.circus_audit.specs.BadLine.{Begins, IsBadLine}

take_less : (m n : ℕ) (xs ys : List Piece) → m ≤ n → take n xs ≡ take n ys → take m xs ≡ take m ys
take_less m n xs ys less same = sym (take-take m n xs less) ∙ ap (take m) same ∙ take-take m n ys less

-- a record that has more of the lines has fewer
begins_less : (plan : Plan) (text : List ℕ) (m n : ℕ) → m ≤ n → Begins plan text n → Begins plan text m
begins_less plan text m n less begins = record {
  given = begins.given;
  whole = begins.whole;
  is_text = begins.is_text;
  same = take_less m n (pieces begins.whole) (pieces text) less begins.same;
}

not_before : (plan : Plan) (text : List ℕ) (a b : ℕ) → IsBadLine plan text a → IsBadLine plan text b → a < b → ⊥
not_before plan text zero b first second less = first
not_before plan text (suc a) zero first second less = second
not_before plan text (suc a) (suc b) first second less = first.1 (begins_less plan text (suc a) b (omega (arith, less)) second.0)

pub one_line : (plan : Plan) (text : List ℕ) (a b : ℕ) → IsBadLine plan text a → IsBadLine plan text b → a ≡ b
one_line plan text a b first second =
    elim (cases_lt a b) [
      | inl before ↦ absurd (not_before plan text a b first second before)
      | inr behind ↦ elim (cases_lt b a) [
        | inl later ↦ absurd (not_before plan text b a second first later)
        | inr same ↦ omega (arith, behind, same)
      ]
    ]

pub none_of_record : (plan : Plan) (given : Given) (text : List ℕ) (line : ℕ) → IsRecordText plan given text → IsBadLine plan text line → ⊥
none_of_record plan given text zero is bad = bad
none_of_record plan given text (suc line) is bad = bad.1 (record { given = given; whole = text; is_text = is; same = refl })
