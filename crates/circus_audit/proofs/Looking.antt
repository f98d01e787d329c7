-- The first bad line of a text, one line behind another.
use Rattle.std.proofs.Common.{◌≡◌, ◌∙◌, ℕ, zero, suc, ◌+◌, ◌<◌, true, false, if◌then◌else◌, nat_eq, Option, Some, None, List, [], ◌∷◌, length, get_or, take, drop, position, Result, Ok, Err, refl, sym, ap, subst, arith}
use Rattle.std.proofs.lemmas.List.Quantifiers.{position-Some}
use Rattle.circus_config.specs.declared.plan.Plan.{Plan}
use Rattle.circus_value_text.specs.declared.unread.Unread.{Unread}
use Rattle.circus_value_text.specs.declared.unread.Unread.TheVariants as unread
use Rattle.circus_value_text.specs.Seen.Given.{GivesAll}
use Rattle.circus_audit.specs.Answer.{or_bad, record_answer, IsAnswer}
use Rattle.circus_audit.specs.declared.fault.RecordFault.{RecordFault}
use Rattle.circus_audit.specs.declared.fault.RecordFault.TheVariants.{BadLine, NoMemory}
use Rattle.circus_audit.specs.declared.given.Given.{Given}
use Rattle.circus_audit.specs.declared.outlook.Outlook.{Outlook}
use Rattle.circus_audit.specs.declared.setting.Hosted.{Hosted}
use Rattle.circus_audit.specs.declared.stage.Stage.{Stage}
use Rattle.circus_audit.specs.TextPieces.{whole, rest, onto_first, pieces}
use Rattle.circus_audit.specs.Seen.Outlook.{nothing_expected, line_lost, looks, bad_by, bad_among, bad_behind, bad_by_own, bad_in, bad_line}
use Rattle.circus_audit.specs.Seen.Reading.{beginning, own_read, hosted_by, stage_after, fault_at, record_read}
use Rattle.circus_audit.specs.Seen.Read.{IsRead, IsLine}
use Rattle.circus_audit.proofs.Breaking.{none_passes}

-- the first piece ends at the first newline
first_piece : (text : List ℕ) (i : ℕ) → i < length text → nat_eq (get_or text i 0) 10 ≡ true → ((k : ℕ) → k < i → nat_eq (get_or text k 0) 10 ≡ false) → pieces text ≡ whole (take i text) ∷ pieces (drop (suc i) text)
first_piece [] i within here before = absurd (omega (arith, within))
first_piece (b ∷ text) zero within here before = ap (λ t. if t then whole [] ∷ pieces text else onto_first b (pieces text)) here
first_piece (b ∷ text) (suc i) within here before =
    let other : nat_eq b 10 ≡ false = before 0 (omega arith) in
    let later = first_piece text i (omega (arith, within)) here (λ k less. before (suc k) (omega (arith, less))) in
    ap (λ t. if t then whole [] ∷ pieces text else onto_first b (pieces text)) other ∙ ap (onto_first b) later

-- a text without newlines is one piece
one_piece : (text : List ℕ) → ((k : ℕ) → k < length text → nat_eq (get_or text k 0) 10 ≡ false) → pieces text ≡ rest text ∷ []
one_piece [] none = refl
one_piece (b ∷ text) none =
    let later = one_piece text (λ k less. none (suc k) (omega (arith, less))) in
    ap (λ t. if t then whole [] ∷ pieces text else onto_first b (pieces text)) (none 0 (omega arith)) ∙ ap (onto_first b) later

piece_first : (text : List ℕ) (i : ℕ) → position (λ b. nat_eq b 10) text ≡ Some i → pieces text ≡ whole (take i text) ∷ pieces (drop (i + 1) text)
piece_first text i is =
    let at = position-Some (λ b. nat_eq b 10) text i 0 is in
    let same : suc i ≡ i + 1 = omega arith in
    first_piece text i at.0 at.1 at.2 ∙ ap (λ n. whole (take i text) ∷ pieces (drop n text)) same

piece_none : (text : List ℕ) → position (λ b. nat_eq b 10) text ≡ None → pieces text ≡ rest text ∷ []
piece_none text is = one_piece text (none_passes (λ b. nat_eq b 10) text is)

module _ (plan : Plan) (own : ℕ) (hosted : Option Hosted) where
  bad_first : (text : List ℕ) (line : ℕ) (o : Outlook) (stage : Stage) (i : ℕ) → position (λ b. nat_eq b 10) text ≡ Some i
      → bad_behind plan own hosted text line o stage ≡ bad_by plan own hosted (bad_among plan own hosted (pieces (drop (i + 1) text))) line o (stage_after plan own hosted stage (take i text))
  bad_first text line o stage i is = ap (λ ps. bad_among plan own hosted ps line o stage) (piece_first text i is)

  -- where a line isn't read
  pub bad_here : (text : List ℕ) (line : ℕ) (o : Outlook) (stage : Stage) (i : ℕ) → position (λ b. nat_eq b 10) text ≡ Some i → stage_after plan own hosted stage (take i text) ≡ None
      → bad_behind plan own hosted text line o stage ≡ line_lost line o.lost
  bad_here text line o stage i is bad = bad_first text line o stage i is ∙ ap (bad_by plan own hosted (bad_among plan own hosted (pieces (drop (i + 1) text))) line o) bad

  -- where it is
  pub bad_later : (text : List ℕ) (line : ℕ) (o : Outlook) (stage next : Stage) (i : ℕ) → position (λ b. nat_eq b 10) text ≡ Some i → stage_after plan own hosted stage (take i text) ≡ Some next
      → bad_behind plan own hosted text line o stage ≡ bad_behind plan own hosted (drop (i + 1) text) (line + 1) (looks plan own hosted next line o) next
  bad_later text line o stage next i is read = bad_first text line o stage i is ∙ ap (bad_by plan own hosted (bad_among plan own hosted (pieces (drop (i + 1) text))) line o) read

  -- and where no line is left
  pub bad_end : (text : List ℕ) (line : ℕ) (o : Outlook) (stage : Stage) → position (λ b. nat_eq b 10) text ≡ None → bad_behind plan own hosted text line o stage ≡ line_lost line o.lost
  bad_end text line o stage is = ap (λ ps. bad_among plan own hosted ps line o stage) (piece_none text is)

  -- the number of a line that isn't read
  pub lost_line : (text : List ℕ) (line : ℕ) (o : Outlook) (stage : Stage) (i : ℕ) (u : Unread) (f : RecordFault) → position (λ b. nat_eq b 10) text ≡ Some i
      → GivesAll (Err u) (stage_after plan own hosted stage (take i text)) → f ≡ fault_at (line_lost line o.lost) u → IsLine (Err f) (bad_behind plan own hosted text line o stage)
  lost_line text line o stage i unread.Unlike f is none at =
      subst (λ (g : RecordFault). IsLine (Err g) (bad_behind plan own hosted text line o stage)) (sym at) (sym (bad_here text line o stage i is none))
  lost_line text line o stage i unread.NoMemory f is none at =
      subst (λ (g : RecordFault). IsLine (Err g) (bad_behind plan own hosted text line o stage)) (sym at) tt

-- the first line of a record, and those behind it
pub bad_record : (plan : Plan) (text : List ℕ) (i own : ℕ) → position (λ b. nat_eq b 10) text ≡ Some i → own_read plan (take i text) ≡ Some own
    → bad_line plan text ≡ bad_behind plan own (hosted_by plan own) (drop (i + 1) text) 2 nothing_expected beginning
bad_record plan text i own is read = ap (bad_in plan) (piece_first text i is) ∙ ap (bad_by_own plan (pieces (drop (i + 1) text))) read

pub bad_own : (plan : Plan) (text : List ℕ) (i : ℕ) → position (λ b. nat_eq b 10) text ≡ Some i → own_read plan (take i text) ≡ None → bad_line plan text ≡ 1
bad_own plan text i is read = ap (bad_in plan) (piece_first text i is) ∙ ap (bad_by_own plan (pieces (drop (i + 1) text))) read

pub own_line : (plan : Plan) (text : List ℕ) (i : ℕ) (u : Unread) (f : RecordFault) → position (λ b. nat_eq b 10) text ≡ Some i → GivesAll (Err u) (own_read plan (take i text)) → f ≡ fault_at 1 u
    → IsLine (Err f) (bad_line plan text)
own_line plan text i unread.Unlike f is none at = subst (λ (g : RecordFault). IsLine (Err g) (bad_line plan text)) (sym at) (sym (bad_own plan text i is none))
own_line plan text i unread.NoMemory f is none at = subst (λ (g : RecordFault). IsLine (Err g) (bad_line plan text)) (sym at) tt

pub bad_none : (plan : Plan) (text : List ℕ) → position (λ b. nat_eq b 10) text ≡ None → bad_line plan text ≡ 1
bad_none plan text is = ap (bad_in plan) (piece_none text is)

-- ---- what reading answers

pub answers : (plan : Plan) (text : List ℕ) (r : Result Given RecordFault) → IsRead r (record_read plan text) → IsLine r (bad_line plan text) → IsAnswer r (record_answer plan text)
answers plan text (Ok given) is bad = ap (or_bad (bad_line plan text)) is
answers plan text (Err (BadLine line)) is bad = ap (or_bad (bad_line plan text)) is ∙ ap (λ n. Err n) (sym bad)
answers plan text (Err NoMemory) is bad = tt
