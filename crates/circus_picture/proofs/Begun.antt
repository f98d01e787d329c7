-- A text that is put piece by piece.
use Rattle.std.proofs.Common.{◌≡◌, ℕ, Option, List, [], ◌++◌, refl, sym, subst, ◌∙◌, append_assoc, append-nil, Result, Ok, Err}
use Rattle.circus_report.specs.declared.running.RunFault.{RunFault}
use Rattle.circus_report.specs.declared.running.RunFault.TheVariants as fault
use Rattle.circus_report.specs.Writing.{Writes, WritesPart}
use Rattle.circus_report.specs.Run.{IsPut}
use Rattle.circus_report.proofs.ToldLemmas.{told_more-nil, Writes-joined, WritesPart-longer, WritesPart-joined}

-- a beginning of the text is written, behind which this is left
pub record IsBegun (whole left : List ℕ) (old now : Option (List ℕ)) : Type 0 where
  pub text : List ℕ
  pub written : Writes old now text
  pub whole_is : text ++ left ≡ whole

module _ (whole : List ℕ) (old : Option (List ℕ)) where
  -- nothing is written
  pub begun-none : IsBegun whole whole old old
  begun-none = record { text = []; written = told_more-nil old; whole_is = refl }

  -- what is left, in other words
  pub begun-as : (left also : List ℕ) (now : Option (List ℕ)) → left ≡ also → IsBegun whole left old now → IsBegun whole also old now
  begun-as left also now same begun = subst (λ (l : List ℕ). IsBegun whole l old now) same begun

  -- a piece more is written
  pub begun-more : (piece left : List ℕ) (now next : Option (List ℕ)) → IsBegun whole (piece ++ left) old now → Writes now next piece → IsBegun whole left old next
  begun-more piece left now next begun more =
      record {
        text = begun.text ++ piece;
        written = Writes-joined old now next begun.text piece begun.written more;
        whole_is = append_assoc begun.text piece left ∙ begun.whole_is;
      }

  -- a part of the next piece is one of the whole
  part : (piece left : List ℕ) (now next : Option (List ℕ)) → IsBegun whole (piece ++ left) old now → WritesPart now next piece → WritesPart old next whole
  part piece left now next begun some =
      subst (WritesPart old next) begun.whole_is
      (WritesPart-joined old now next begun.text (piece ++ left) begun.written (WritesPart-longer now next piece left some))

  -- not all of the next piece was put
  pub begun-stopped : (A B : Type 0) (piece left : List ℕ) (now next : Option (List ℕ)) (f : RunFault) → IsBegun whole (piece ++ left) old now
      → IsPut {A = A} piece now next (Err f) → IsPut {A = B} whole old next (Err f)
  begun-stopped A B piece left now next fault.SinkFailed begun put = part piece left now next begun put
  begun-stopped A B piece left now next fault.NoMemory begun put = part piece left now next begun put
  begun-stopped A B piece left now next (fault.Illegal cause) begun put = absurd put
  begun-stopped A B piece left now next (fault.Spent node peer) begun put = absurd put

  -- what is left is put
  pub begun-put : {A : Type 0} (left : List ℕ) (now next : Option (List ℕ)) (r : Result A RunFault) → IsBegun whole left old now
      → IsPut left now next r → IsPut whole old next r
  begun-put left now next (Ok done) begun put = subst (Writes old next) begun.whole_is (Writes-joined old now next begun.text left begun.written put)
  begun-put {A} left now next (Err f) begun put =
      begun-stopped A A left [] now next f (begun-as left (left ++ []) now (sym (append-nil left)) begun) put
