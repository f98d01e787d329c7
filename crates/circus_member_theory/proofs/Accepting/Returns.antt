-- The returns that messages are read as.
use Rattle.std.proofs.Common.{◌≡◌, ℕ, ◌+◌, List, ◌++◌, length, drop, Some, Ok, refl, ap, ◌∙◌, arith}
use Rattle.std.specs.Result.{result_ok}
use Rattle.circus_header.specs.Field.{bytes_of}
use Rattle.circus_header.specs.ReturnFields.{return_fields, has_rest}
use Rattle.circus_header.specs.Reading.{returns, IsOne}
use Rattle.circus_header.specs.Seen.Layout.{of_long, end}
use Rattle.circus_header.specs.Seen.Layouts.{return_by, return_layout}
use Rattle.circus_header.specs.declared.answer.ReturnHeader.{ReturnHeader}
use Rattle.circus_header.specs.declared.answer.ReturnHeader.TheVariants.{Reply, Stale, Before, Table}
use Rattle.circus_header.specs.declared.answer.Reply.{Reply as Answer}
use Rattle.circus_header.proofs.Accepting.{front, ends_with}
use Rattle.circus_header.proofs.Standing.{drop-prefix}
use Rattle.circus_header.proofs.Returns.{under_returns}
use Rattle.circus_member_rules.specs.Messages.{outcome_spelling, reply_message, stale_message, before_message}
use Rattle.circus_node.specs.Headers.{whole, return_in}
use Rattle.circus_member_theory.proofs.Accepting.Heads.{reads, read_back, IsRead, whole_read}

return_read : (message : List ℕ) (read : ReturnHeader × ℕ) → return_in message ≡ Some read → IsRead return_layout has_rest message read
return_read message read is = whole_read return_layout has_rest message read is

-- ---- replies

abbrev pub reply_length : List ℕ → ℕ
reply_length clock = length (bytes_of (return_fields (Reply clock)))

pub reply_read : (reply : Answer) → IsOne returns (Reply reply.clock) → return_in (reply_message reply) ≡ Some (Reply reply.clock, reply_length reply.clock)
reply_read reply one =
    let h : ReturnHeader = Reply reply.clock in
    let place : 0 + reply_length reply.clock ≡ reply_length reply.clock = omega arith in
    ap (λ r. result_ok (whole has_rest (reply_message reply) r))
    (reads return_layout 0 (reply_message reply) (return_fields h) h (outcome_spelling reply.outcome) (under_returns.taken h (return_fields h) one refl) one.1 refl
    ∙ ap (λ k. Ok (h, k)) place)

pub reply_outcome : (reply : Answer) → drop (reply_length reply.clock) (reply_message reply) ≡ outcome_spelling reply.outcome
reply_outcome reply = drop-prefix (bytes_of (return_fields (Reply reply.clock))) (outcome_spelling reply.outcome) (reply_length reply.clock) refl

-- ---- other returns

pub stale_read : (incarnation : ℕ) (read : ReturnHeader × ℕ) → return_in (stale_message incarnation) ≡ Some read → (other : ℕ) × (read.0 ≡ Stale other)
stale_read incarnation read is =
    let r = return_read (stale_message incarnation) read is in
    let q = read_back (return_by 1) 2 (stale_message incarnation) read.0 read.1 r.by in
    let p = front of_long 1 4294967295 (λ n. end (Stale n)) q.fields read.0 q.taken in
    (p.n, (ends_with (Stale p.n) p.others read.0 p.taken).1)

pub before_read : (first : ℕ) (read : ReturnHeader × ℕ) → return_in (before_message first) ≡ Some read → (other : ℕ) × (read.0 ≡ Before other)
before_read first read is =
    let r = return_read (before_message first) read is in
    let q = read_back (return_by 2) 2 (before_message first) read.0 read.1 r.by in
    let p = front of_long 0 4294967295 (λ n. end (Before n)) q.fields read.0 q.taken in
    (p.n, (ends_with (Before p.n) p.others read.0 p.taken).1)

pub table_read : (rest : List ℕ) (read : ReturnHeader × ℕ) → return_in (bytes_of (return_fields Table) ++ rest) ≡ Some read → read.0 ≡ Table
table_read rest read is =
    let r = return_read (bytes_of (return_fields Table) ++ rest) read is in
    let q = read_back (return_by 4) 2 (bytes_of (return_fields Table) ++ rest) read.0 read.1 r.by in
    (ends_with Table q.fields read.0 q.taken).1
