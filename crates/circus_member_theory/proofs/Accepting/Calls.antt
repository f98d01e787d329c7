-- The calls that messages are read as.
use Rattle.std.proofs.Common.{◌≡◌, ℕ, ◌+◌, ◌<◌, false, List, ◌++◌, length, drop, Option, Some, Ok, refl, sym, ap, ◌∙◌, arith, append-nil}
use Rattle.std.proofs.lemmas.List.{drop_all}
use Rattle.std.proofs.lemmas.Nat.{from_be_bytes-to_be_bytes_2}
use Rattle.std.proofs.lemmas.Option.{same_Some}
use Rattle.circus_external.specs.Octets.{first_word}
use Rattle.std.specs.Result.{result_ok}
use Rattle.circus_value.specs.Parts.{AreOctets}
use Rattle.circus_header.specs.Field.{bytes_of}
use Rattle.circus_header.specs.CallFields.{call_fields, has_body}
use Rattle.circus_header.specs.Reading.{calls, IsOne}
use Rattle.circus_header.specs.Seen.Layout.{of_word, of_long, end, field}
use Rattle.circus_header.specs.Seen.Layouts.{request_layout, call_by, call_layout}
use Rattle.circus_header.specs.declared.call.Call.{Call}
use Rattle.circus_header.specs.declared.call.Call.TheVariants.{Ask, Ring, Fetch}
use Rattle.circus_header.specs.declared.call.CallHeader.{CallHeader}
use Rattle.circus_header.specs.declared.call.Request.{Request}
use Rattle.circus_header.proofs.Accepting.{front, mapped, ends_with}
use Rattle.circus_header.proofs.Standing.{drop-prefix}
use Rattle.circus_header.proofs.Calls.{under_calls}
use Rattle.circus_member_rules.specs.Messages.{ask_message, request_message, fetch_message}
use Rattle.circus_node.specs.Headers.{whole, call_in}
use Rattle.circus_member_theory.proofs.Accepting.Heads.{reads, read_back, IsRead, whole_read}

-- ---- any call

call_read : (message : List ℕ) (read : Call × ℕ) → call_in message ≡ Some read → IsRead call_layout has_body message read
call_read message read is = whole_read call_layout has_body message read is

pub call_is_one : (message : List ℕ) (read : Call × ℕ) → call_in message ≡ Some read → IsOne calls read.0
call_is_one message read is =
    let q = read_back call_layout 0 message read.0 read.1 (call_read message read is).by in
    (under_calls.meant read.0 q.fields q.taken).0

-- the bytes that were read as a call without a body are those of the call
pub call_whole : (message : List ℕ) (read : Call × ℕ) → AreOctets message → has_body read.0 ≡ false → call_in message ≡ Some read → message ≡ bytes_of (call_fields read.0)
call_whole message read octets none is =
    let r = call_read message read is in
    let q = read_back call_layout 0 message read.0 read.1 r.by in
    q.here octets ∙ ap (λ w. bytes_of q.fields ++ w) (drop_all read.1 message (omega (arith, r.all none))) ∙ append-nil (bytes_of q.fields)
    ∙ ap bytes_of (sym (under_calls.meant read.0 q.fields q.taken).1)

-- ---- asks

abbrev pub ask_length : CallHeader → ℕ
ask_length h = length (bytes_of (call_fields (Ask h)))

pub ask_read : (h : CallHeader) (body : List ℕ) → IsOne calls (Ask h) → call_in (ask_message h body) ≡ Some (Ask h, ask_length h)
ask_read h body one =
    let place : 0 + ask_length h ≡ ask_length h = omega arith in
    ap (λ r. result_ok (whole has_body (ask_message h body) r))
    (reads call_layout 0 (ask_message h body) (call_fields (Ask h)) (Ask h) body (under_calls.taken (Ask h) (call_fields (Ask h)) one refl) one.1 refl ∙ ap (λ k. Ok (Ask h, k)) place)

pub ask_body : (h : CallHeader) (body : List ℕ) → drop (ask_length h) (ask_message h body) ≡ body
ask_body h body = drop-prefix (bytes_of (call_fields (Ask h))) body (ask_length h) refl

-- ---- requests

pub request_read : (request : Request) (read : Call × ℕ) → call_in (request_message request) ≡ Some read → (other : Request) × (read.0 ≡ Ring other)
request_read request read is =
    let r = call_read (request_message request) read is in
    let q = read_back (call_by 1) 2 (request_message request) read.0 read.1 r.by in
    let m = mapped request_layout Ring q.fields read.0 q.taken in
    (m.x, m.is)

pub fetch_read : (troupe incarnation : ℕ) (read : Call × ℕ) → call_in (fetch_message troupe incarnation) ≡ Some read
    → (other : ℕ) × (another : ℕ) × (read.0 ≡ Fetch other another)
fetch_read troupe incarnation read is =
    let r = call_read (fetch_message troupe incarnation) read is in
    let q = read_back (call_by 2) 2 (fetch_message troupe incarnation) read.0 read.1 r.by in
    let p = front of_word 0 31 (λ t. field of_long 1 4294967295 (λ i. end (Fetch t i))) q.fields read.0 q.taken in
    let i = front of_long 1 4294967295 (λ i. end (Fetch p.n i)) p.others read.0 p.taken in
    (p.n, i.n, (ends_with (Fetch p.n i.n) i.others read.0 i.taken).1)

-- one message is one ask
pub ask_header : (h other : CallHeader) (body another : List ℕ) → IsOne calls (Ask h) → IsOne calls (Ask other) → ask_message h body ≡ ask_message other another → h ≡ other
ask_header h other body another one two same =
    let read : ◌≡◌ {A = Option (Call × ℕ)} (Some (Ask h, ask_length h)) (Some (Ask other, ask_length other)) = sym (ask_read h body one) ∙ ap call_in same ∙ ask_read other another two in
    let pair : ◌≡◌ {A = Call × ℕ} (Ask h, ask_length h) (Ask other, ask_length other) = same_Some (Ask h, ask_length h) (Ask other, ask_length other) read in
    let asks : Ask h ≡ Ask other = ap (λ (r : Call × ℕ). r.0) pair in cc

-- ---- asks and state requests

pub ask_no_fetch : (h : CallHeader) (body : List ℕ) (troupe incarnation : ℕ) → IsOne calls (Ask h) → ask_message h body ≡ fetch_message troupe incarnation → ⊥
ask_no_fetch h body troupe incarnation one same =
    let f = fetch_read troupe incarnation (Ask h, ask_length h) (ap call_in (sym same) ∙ ask_read h body one) in
    let clash : Ask h ≡ Fetch f.0 f.1 = f.2 in cc

-- one message asks for the state of one troupe
pub fetch_troupe : (troupe other incarnation another : ℕ) → troupe < 65536 → other < 65536 → fetch_message troupe incarnation ≡ fetch_message other another → troupe ≡ other
fetch_troupe troupe other incarnation another low low' same =
    let one : first_word (drop 2 (fetch_message troupe incarnation)) ≡ Some troupe = ap Some (from_be_bytes-to_be_bytes_2 troupe low) in
    let two : first_word (drop 2 (fetch_message other another)) ≡ Some other = ap Some (from_be_bytes-to_be_bytes_2 other low') in
    same_Some troupe other (sym one ∙ ap (λ w. first_word (drop 2 w)) same ∙ two)
