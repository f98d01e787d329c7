-- The segments of calls that a quiet end sends are of calls that it has sent.
use Rattle.std.proofs.Common.{◌≡◌, ◌⊎◌, ℕ, zero, suc, ◌≤◌, Bool, true, false, cond, not, ◌&&◌, eqb, List, [], ◌∷◌, ◌++◌, Option, None, Some, Result, Ok, Err, refl, sym, ap, subst, ◌∙◌, arith, eq-eqb}
use Rattle.std.specs.Prelude.{slice_index}
use Rattle.circus_segment.specs.declared.fault.SegmentFault.{SegmentFault}
use Rattle.circus_segment.specs.Segment.{Piece, IsSegment, is_acknowledgement, is_second, header, spelling, fields_of, refusal, or_refused, reading}
use Rattle.circus_segment.specs.Cut.{segment_count, segment_of, first_datagrams}
use Rattle.circus_segment.proofs.Spellings.{read_again}
use Rattle.circus_exchange.specs.Exchange.{start}
use Rattle.circus_pair.specs.Acts.{Act, Call, Return, Came, Tick, Stop, Acts, more, end_after, taken_by, acknowledged_by}
use Rattle.circus_pair.specs.Handed.{call_at, return_at}
use Rattle.circus_pair.specs.Lawful.{is_stopped_after}
use Rattle.circus_pair.specs.Sending.{is_sent, takes_after, in_order, whole_call, let_go_by, outputs}
use Rattle.circus_pair.specs.TwoEnds.{datagrams_by}
use Rattle.circus_pair.proofs.Dialogue.{Good, both_true}
use Rattle.circus_pair.proofs.Each.{Each, each_append, each_cond}
use Rattle.circus_pair.proofs.Outputs.{call_sends, return_sends, came_sends}
use Rattle.circus_pair.proofs.Sayings.{MaySay, says_part}
use Rattle.circus_pair.proofs.Speaking.{Fine}
use Rattle.circus_world_theory.specs.Coming.{IsUndisturbed}

-- a segment of a call is of one that was sent
abbrev pub OfSent : ℕ → Acts → Piece → Type 0
OfSent format acts s = is_acknowledgement s ≡ false → s.kind ≡ 0 → is_sent (start 0 format) acts s.call ≡ true

-- and so is what is read of a datagram
abbrev pub Speaks : ℕ → Acts → List ℕ → Type 0
Speaks format acts bytes = (s : Piece) → reading bytes ≡ Ok s → OfSent format acts s

-- ---- what is read

same_read : (a b : Piece) → ◌≡◌ {A = Result Piece SegmentFault} (Ok a) (Ok b) → a ≡ b
same_read a b is = cc

pub read_is : (p s : Piece) → IsSegment p → reading (spelling p) ≡ Ok s → p ≡ s
read_is p s segment read = same_read p s (sym (read_again p segment) ∙ read)

field_read : (o : Option SegmentFault) (p s : Piece) → or_refused o p ≡ Ok s → p ≡ s
field_read None p s h = same_read p s h
field_read (Some fault) p s h = absurd (let clash : ◌≡◌ {A = Result Piece SegmentFault} (Err fault) (Ok s) = h in cc)

control_by : (b : Bool) (x y : Piece) (n : ℕ) → x.control ≡ n → y.control ≡ n → (cond b x y).control ≡ n
control_by true x y n f g = f
control_by false x y n f g = g

fields_control : (bytes : List ℕ) → (fields_of bytes).control ≡ slice_index bytes 1
unfolding fields_of
fields_control bytes = control_by (is_second bytes) _ _ (slice_index bytes 1) refl refl

second_by : (b : Bool) (x y part : List ℕ) (n : ℕ) → slice_index (x ++ part) 1 ≡ n → slice_index (y ++ part) 1 ≡ n → slice_index (cond b x y ++ part) 1 ≡ n
second_by true x y part n f g = f
second_by false x y part n f g = g

spelled_control : (p : Piece) → slice_index (spelling p) 1 ≡ p.control
unfolding spelling header
spelled_control p = second_by (eqb p.format 1) _ _ p.part p.control refl refl

read_control : (p s : Piece) → reading (spelling p) ≡ Ok s → s.control ≡ p.control
read_control p s read =
    ap (λ (x : Piece). x.control) (sym (field_read (refusal (spelling p)) (fields_of (spelling p)) s read))
    ∙ fields_control (spelling p) ∙ spelled_control p

-- ---- a segment

speaks_acknowledgement : (format : ℕ) (acts : Acts) (p : Piece) → p.control ≡ 1 → Speaks format acts (spelling p)
speaks_acknowledgement format acts p one s read plain kind =
    absurd (let one_ : s.control ≡ 1 = read_control p s read ∙ one in let yes_ : eqb s.control 1 ≡ true = eq-eqb s.control 1 one_ in cc)

speaks_segment : (format : ℕ) (acts : Acts) (p : Piece) → IsSegment p → (p.kind ≡ 0 → is_sent (start 0 format) acts p.call ≡ true) → Speaks format acts (spelling p)
speaks_segment format acts p segment sent s read =
    subst (OfSent format acts) (read_is p s segment read) (λ plain kind. sent kind)

-- ---- whole messages

pub may_call : (format : ℕ) (acts : Acts) (ts : List Piece) (q : ℕ) (m : List ℕ) → (format ≡ 1) ⊎ (format ≡ 2) → Fine 0 format acts ts → call_at 0 acts q ≡ Some m → MaySay 0 format acts ts 0 q m
may_call format acts ts q m known fine h = (let old = fine.calls q m h in record { known = known; kind_is = omega arith; numbered = old.1; sendable = old.0; handed = h; answered = λ e. absurd cc })

pub may_return : (format : ℕ) (acts : Acts) (ts : List Piece) (q : ℕ) (m : List ℕ) → (format ≡ 1) ⊎ (format ≡ 2) → Fine 0 format acts ts → return_at acts q ≡ Some m → MaySay 0 format acts ts 1 q m
may_return format acts ts q m known fine h = (let old = fine.returns q m h in record { known = known; kind_is = omega arith; numbered = old.1; sendable = old.0; handed = h; answered = λ e. old.2 })

speaks_first : (format : ℕ) (acts : Acts) (ts : List Piece) (kind call : ℕ) (m : List ℕ) → MaySay 0 format acts ts kind call m → (kind ≡ 0 → is_sent (start 0 format) acts call ≡ true)
    → (n : ℕ) → n ≤ segment_count m → Each (Speaks format acts) (first_datagrams (record { format = format; kind = kind; call = call; total = segment_count m; message = m }) n)
unfolding first_datagrams
speaks_first format acts ts kind call m may sent zero le = tt
speaks_first format acts ts kind call m may sent (suc n) le =
    each_append (Speaks format acts) _ _ (speaks_first format acts ts kind call m may sent n (omega arith)) (
      speaks_segment format acts (segment_of (record { format = format; kind = kind; call = call; total = segment_count m; message = m }) 0 (suc n))
          (says_part 0 format acts ts kind call m 0 (suc n) may refl (omega arith) (omega arith) le).segment sent,
      tt,
    )

speaks_call : (format : ℕ) (acts : Acts) (call : ℕ) (o : Option (List ℕ)) → Good format acts → call_at 0 acts call ≡ o → is_sent (start 0 format) acts call ≡ true
    → Each (Speaks format acts) (whole_call (start 0 format) call o)
speaks_call format acts call None good is sent = tt
speaks_call format acts call (Some m) good is sent =
    speaks_first format acts (taken_by (start 0 format) acts) 0 call m (may_call format acts (taken_by (start 0 format) acts) call m good.known good.fine is) (λ _. sent) (segment_count m) (omega arith)

speaks_let_go : (format : ℕ) (acts : Acts) (act : Act) (call : ℕ) → Good format (more acts act) → Each (Speaks format (more acts act)) (let_go_by (start 0 format) acts act call)
unfolding let_go_by
speaks_let_go format acts act call good =
    each_cond (Speaks format (more acts act)) (is_sent (start 0 format) (more acts act) call && not (is_sent (start 0 format) acts call)) _ []
    (λ h. speaks_call format (more acts act) call (call_at 0 (more acts act) call) good refl (both_true _ _ h).0)
    (λ _. tt)

each_order : (P : List ℕ → Type 0) (f : ℕ → List (List ℕ)) (n : ℕ) → ((k : ℕ) → Each P (f k)) → Each P (in_order f n)
unfolding in_order
each_order P f zero h = tt
each_order P f (suc n) h = each_append P (in_order f n) (f n) (each_order P f n h) (h n)

speaks_acknowledged : (format : ℕ) (acts : Acts) (is_down : Bool) (ts : List Piece) (s : Piece) → Each (Speaks format acts) (acknowledged_by is_down ts s)
speaks_acknowledged format acts is_down ts s =
    each_cond (Speaks format acts) _ (spelling _ ∷ []) [] (λ _. (speaks_acknowledgement format acts _ refl, tt)) (λ _. tt)

return_here : (acts : Acts) (call : ℕ) (message : List ℕ) → return_at (more acts (Return call message)) call ≡ Some message
unfolding return_at
return_here acts call message = ap (λ b. cond b (Some message) (return_at acts call)) (eq-eqb call call refl)

-- ---- each act

pub speaks_act : (format : ℕ) (acts : Acts) (act : Act) → Good format (more acts act) → IsUndisturbed (more acts act) → Each (Speaks format (more acts act)) (datagrams_by (end_after (start 0 format) acts) act)
unfolding outputs
speaks_act format acts (Call message) good quiet =
    subst (Each (Speaks format (more acts (Call message)))) (sym (call_sends 0 format acts message good.lawful))
    (each_order _ _ _ (λ call. speaks_let_go format acts (Call message) call good))
speaks_act format acts (Return call message) good quiet =
    subst (Each (Speaks format (more acts (Return call message)))) (sym (return_sends 0 format acts call message))
    (speaks_first format (more acts (Return call message)) (taken_by (start 0 format) (more acts (Return call message))) 1 call message
    (may_return format (more acts (Return call message)) _ call message good.known good.fine (return_here acts call message)) (λ e. absurd cc) (segment_count message) (omega arith))
speaks_act format acts (Came s) good quiet =
    subst (Each (Speaks format (more acts (Came s)))) (sym (came_sends 0 format acts s good.lawful))
    (each_append _ _ _
    (each_cond _ (takes_after (start 0 format) acts s && not (is_acknowledgement s)) _ []
    (λ _. speaks_acknowledged format (more acts (Came s)) (is_stopped_after acts) (taken_by (start 0 format) acts) s) (λ _. tt))
    (each_order _ _ _ (λ call. speaks_let_go format acts (Came s) call good)))
speaks_act format acts Tick good quiet = absurd quiet
speaks_act format acts Stop good quiet = absurd quiet
