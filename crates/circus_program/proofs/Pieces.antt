-- An end that is put piece by piece.
use Rattle.std.proofs.Common.{◌≡◌, ℕ, inl, inr, Option, List, [], ◌++◌, refl, ap, subst, ◌∙◌, append_assoc, Result, Ok, Err, IfOk}
use Rattle.circus_commands.specs.declared.status.Status.{Status}
use Rattle.circus_commands.specs.Ending.{Ending}
use Rattle.circus_commands.specs.declared.ending.Ending as coded
use Rattle.circus_commands.specs.Seen.Ending.{ending_of}
use Rattle.circus_report.specs.Writing.{Writes, WritesPart}
use Rattle.circus_report.proofs.ToldLemmas.{told_more-nil, Writes-joined, WritesPart-none, WritesPart-longer, WritesPart-joined}
use Rattle.circus_config.specs.declared.plan.Plan.{Plan}
use Rattle.circus_serve.specs.Outside.{Tells}
use Rattle.circus_node_command.specs.NodeEnds.{IsEndOfServing}
use Rattle.circus_program.specs.declared.answer.Step.TheVariants.{Serve}
use Rattle.circus_program.specs.Replay.{behind}
use Rattle.circus_program.specs.Seen.Put.{IsPutEnd, IsPutIfEnd}
use Rattle.circus_program.specs.Seen.Step.{IsPutStep}

-- an end for which there may be no memory
pub put-if : {E : Type 0} (r : Result coded.Ending E) (end : Ending) (old new : Option (List ℕ)) (before after : ℕ) (result : Status)
    → IfOk r (λ ending. ending_of ending ≡ end) → IsPutIfEnd r old new before after result → IsPutEnd end old new before after result
put-if (Ok ending) end old new before after result is put = subst (λ (e : Ending). IsPutEnd e old new before after result) is put
put-if (Err refused) end old new before after result is (none, same) = inr (inr (none, WritesPart-none old new end.text same))

-- the end of a node that was served, for which there may be no memory
pub put-served : {E : Type 0} (r : Result coded.Ending E) (plan : Plan) (number turns : ℕ) (told tells : Tells) (old new : Option (List ℕ)) (before after : ℕ) (result : Status)
    → IfOk r (λ ending. IsEndOfServing plan number turns told tells (ending_of ending)) → IsPutIfEnd r old new before after result → IsPutStep told tells (Serve plan number turns) old new before after result
put-served (Ok ending) plan number turns told tells old new before after result served put = inl (ending_of ending, served, put)
put-served (Err refused) plan number turns told tells old new before after result served put = inr put

-- ---- what is left of an end

-- the first pieces of an end are written, behind which this is left
pub record IsBegun (whole left : Ending) (old now : Option (List ℕ)) : Type 0 where
  pub text : List ℕ
  pub written : Writes old now text
  pub whole_is : behind text left ≡ whole

module _ (whole : Ending) (old : Option (List ℕ)) where
  -- nothing is written
  pub begun-none : IsBegun whole whole old old
  begun-none = record { text = []; written = told_more-nil old; whole_is = refl }

  -- what is left, in other words
  pub begun-as : (left also : Ending) (now : Option (List ℕ)) → left ≡ also → IsBegun whole left old now → IsBegun whole also old now
  begun-as left also now same begun = subst (λ (e : Ending). IsBegun whole e old now) same begun

  -- a piece more is written
  pub begun-more : (piece : List ℕ) (left : Ending) (now next : Option (List ℕ)) → IsBegun whole (behind piece left) old now → Writes now next piece → IsBegun whole left old next
  begun-more piece left now next begun more =
      let end : List ℕ → Ending = λ text. record { status = left.status; text = text } in
      record {
        text = begun.text ++ piece;
        written = Writes-joined old now next begun.text piece begun.written more;
        whole_is = ap end (append_assoc begun.text piece left.text) ∙ begun.whole_is;
      }

  -- a part of what is left is one of the end
  pub part-left : (left : Ending) (now new : Option (List ℕ)) → IsBegun whole left old now → WritesPart now new left.text → WritesPart old new whole.text
  part-left left now new begun part =
      subst (λ (e : Ending). WritesPart old new e.text) begun.whole_is (WritesPart-joined old now new begun.text left.text begun.written part)

  -- so is a part of the next piece
  pub part-next : (piece : List ℕ) (left : Ending) (now new : Option (List ℕ)) → IsBegun whole (behind piece left) old now → WritesPart now new piece → WritesPart old new whole.text
  part-next piece left now new begun part = part-left (behind piece left) now new begun (WritesPart-longer now new piece left.text part)

  -- what is left was put
  pub put-left : (left : Ending) (now new : Option (List ℕ)) (before after : ℕ) (result : Status)
      → IsBegun whole left old now → IsPutEnd left now new before after result → IsPutEnd whole old new before after result
  put-left left now new before after result begun (inl (same, written, still)) =
      inl (
        same ∙ ap (λ (e : Ending). e.status) begun.whole_is,
        subst (λ (e : Ending). Writes old new e.text) begun.whole_is (Writes-joined old now new begun.text left.text begun.written written),
        still,
      )
  put-left left now new before after result begun (inr (inl (failed, part, rose))) = inr (inl (failed, part-left left now new begun part, rose))
  put-left left now new before after result begun (inr (inr (none, part))) = inr (inr (none, part-left left now new begun part))
