-- Where all that two ends have sent has come, all that was handed over has arrived.
use Rattle.std.proofs.Common.{◌≡◌, ◌⊎◌, ℕ, zero, suc, ◌<◌, ◌≤◌, true, false, not, ◌&&◌, List, length, Option, None, Some, refl, sym, ap, subst, ◌∙◌, arith, eq-eqb}
use Rattle.std.specs.Prelude.{is_some, slice_get}
use Rattle.circus_segment.specs.Segment.{Piece, IsSegment, spelling}
use Rattle.circus_segment.specs.Cut.{segment_count, segment_of}
use Rattle.circus_exchange.specs.Exchange.{start, message_out}
use Rattle.circus_pair.specs.Taken.{has_arrived}
use Rattle.circus_pair.specs.Acts.{Acts, taken_by}
use Rattle.circus_pair.specs.Handed.{call_at, return_at, reached_in}
use Rattle.circus_pair.specs.Sending.{is_sent}
use Rattle.circus_pair.specs.Window.{is_all, call_is_whole, is_open}
use Rattle.circus_pair.specs.TwoEnds.{sent_by, Talk, acts_at_first, acts_at_second, IsTalk}
use Rattle.circus_pair.proofs.Counting.{count_none}
use Rattle.circus_pair.proofs.Dialogue.{are_of}
use Rattle.circus_pair.proofs.Keeping.{IsWithin, kept_after}
use Rattle.circus_pair.proofs.OneEnd.{unsent_waits}
use Rattle.circus_pair.proofs.Sayings.{MaySay, says_part, count_bounds}
use Rattle.circus_world_theory.specs.Coming.{IsUndisturbed, AllCame, AllArrived}
use Rattle.circus_world_theory.proofs.Quiescence.Speaking.{read_is, may_call, may_return}
use Rattle.circus_world_theory.proofs.Quiescence.Joint.{Joint, joint_turned, joint_talk, total_of_sent}
use Rattle.circus_world_theory.proofs.Quiescence.Sending.{Among, quiet_up, by_sent, call_among, return_among}
use Rattle.circus_world_theory.proofs.Quiescence.Arriving.{all_arrived}
use Rattle.circus_world_theory.proofs.Quiescence.Acknowledging.{acknowledged, reached_by, says_number}

-- a segment that was sent was taken at the other end
record IsTaken (format : ℕ) (acts : Acts) (p : Piece) : Type 0 where
  pub place : ℕ
  pub there : slice_get (taken_by (start 0 format) acts) place ≡ Some p

some_of : (format : ℕ) (acts : Acts) (kind call : ℕ) (m : List ℕ) (ts : List Piece) → MaySay 0 format acts ts kind call m → 0 < segment_count m
some_of format acts kind call m ts may = (count_bounds (length m) _ (segment_count m) refl may.sendable.0 may.sendable.1).0

module _ (format : ℕ) (here there : Acts) (joint : Joint format here there) (quiet : IsUndisturbed here) (also : IsUndisturbed there) (came : AllCame format here there) (back : AllCame format there here) where
  -- ---- what was sent was taken

  taken_there : (p : Piece) → IsSegment p → Among (spelling p) (sent_by (start 0 format) here) → IsTaken format there p
  taken_there p segment is =
      let come = came is.0 (spelling p) is.1 in
      let same = read_is p come.piece segment come.read in
      record { place = come.place; there = ap (λ ts. slice_get ts come.place) joint.took_there ∙ come.there ∙ ap (λ (x : Piece). Some x) (sym same) }

  taken_here : (p : Piece) → IsSegment p → Among (spelling p) (sent_by (start 0 format) there) → IsTaken format here p
  taken_here p segment is =
      let come = back is.0 (spelling p) is.1 in
      let same = read_is p come.piece segment come.read in
      record { place = come.place; there = ap (λ ts. slice_get ts come.place) joint.took_here ∙ come.there ∙ ap (λ (x : Piece). Some x) (sym same) }

  -- ---- calls and returns arrive

  call_arrived : (call : ℕ) (m : List ℕ) → call_at 0 here call ≡ Some m → is_sent (start 0 format) here call ≡ true → has_arrived (taken_by (start 0 format) there) 0 call ≡ true
  call_arrived call m is sent =
      let may = may_call format here (taken_by (start 0 format) here) call m joint.sound.good_here.known joint.sound.good_here.fine is in
      all_arrived (taken_by (start 0 format) there) 0 call m (some_of format here 0 call m _ may)
      (are_of format here (taken_by (start 0 format) here) (taken_by (start 0 format) there) 0 call m is joint.sound.hears_here.heard)
      (λ k some le.
      let taken = taken_there (segment_of (message_out (start 0 format) 0 call m) 0 k) (says_part 0 format here _ 0 call m 0 k may refl (omega arith) some le).segment
      (call_among format here call m k joint.sound.good_here.lawful quiet sent is some le) in
      record { piece = segment_of (message_out (start 0 format) 0 call m) 0 k; place = taken.place; there = taken.there; of_it = rw (eq-eqb call call refl) refl; full = refl; number_is = refl })

  return_arrived : (call : ℕ) (m : List ℕ) → return_at here call ≡ Some m → has_arrived (taken_by (start 0 format) there) 1 call ≡ true
  return_arrived call m is =
      let may = may_return format here (taken_by (start 0 format) here) call m joint.sound.good_here.known joint.sound.good_here.fine is in
      all_arrived (taken_by (start 0 format) there) 1 call m (some_of format here 1 call m _ may)
      (are_of format here (taken_by (start 0 format) here) (taken_by (start 0 format) there) 1 call m is joint.sound.hears_here.heard)
      (λ k some le.
      let taken = taken_there (segment_of (message_out (start 0 format) 1 call m) 0 k) (says_part 0 format here _ 1 call m 0 k may refl (omega arith) some le).segment
      (return_among format here call m k is some le) in
      record { piece = segment_of (message_out (start 0 format) 1 call m) 0 k; place = taken.place; there = taken.there; of_it = rw (eq-eqb call call refl) refl; full = refl; number_is = refl })

  -- ---- calls are acknowledged whole

  within : (call : ℕ) (m : List ℕ) → call_at 0 here call ≡ Some m → reached_in (taken_by (start 0 format) here) 0 call (segment_count m) ≤ segment_count m
  within call m is = (subst (λ o. IsWithin o (reached_in (taken_by (start 0 format) here) 0 call)) is ((kept_after 0 format here joint.sound.good_here.lawful).calls_within call)).1

  whole_here : (call : ℕ) (m : List ℕ) → call_at 0 here call ≡ Some m → is_sent (start 0 format) here call ≡ true → call_is_whole 0 here (taken_by (start 0 format) here) call ≡ true
  unfolding call_is_whole
  whole_here call m is sent =
      let ts = taken_by (start 0 format) here in
      let a = acknowledged format there call joint.sound.good_there.lawful also (call_arrived call m is sent) in
      let taken = taken_here a.piece a.segment a.sent in
      let total : a.piece.total ≡ segment_count m =
      total_of_sent (taken_by (start 0 format) there) 0 call a.piece.total m
      (are_of format here ts (taken_by (start 0 format) there) 0 call m is joint.sound.hears_here.heard) a.total in
      let least = reached_by ts taken.place a.piece 0 call (segment_count m) taken.there in
      let number = says_number a.piece call (segment_count m) a.control a.kind_is a.call_is in
      let all = a.all in
      let most = within call m is in
      ap (λ o. is_all o (reached_in ts 0 call)) is
      ∙ eq-eqb (reached_in ts 0 call (segment_count m)) (segment_count m) (omega (arith, total, least, number, all, most))

  -- ---- no call waits

  record Done (call : ℕ) : Type 0 where
    pub sent : is_sent (start 0 format) here call ≡ true
    pub whole : call_is_whole 0 here (taken_by (start 0 format) here) call ≡ true

  not_open : (call : ℕ) → ((m : List ℕ) → call_at 0 here call ≡ Some m → Done call) → is_open 0 here (taken_by (start 0 format) here) call ≡ false
  unfolding is_open
  not_open call done = go (call_at 0 here call) refl
    where
      go : (o : Option (List ℕ)) → call_at 0 here call ≡ o → (is_some o && not (call_is_whole 0 here (taken_by (start 0 format) here) call)) ≡ false
      go None is = refl
      go (Some m) is = ap not (done m is).whole

  done_below : (n call : ℕ) (m : List ℕ) → call < n → call_at 0 here call ≡ Some m → Done call
  done_below zero call m less is = absurd (omega arith)
  done_below (suc n) call m less is =
      by_sent (Done call) (is_sent (start 0 format) here call)
      (λ sent. record { sent = sent; whole = whole_here call m is sent })
      (λ unsent.
      let full = unsent_waits 0 format here call (ap is_some is) (quiet_up here quiet) unsent in
      let none = count_none (is_open 0 here (taken_by (start 0 format) here)) call (λ k below. not_open k (λ x at. done_below n k x (omega (arith, below, less)) at)) in
      absurd (omega (arith, full, none)))

  done : (call : ℕ) (m : List ℕ) → call_at 0 here call ≡ Some m → Done call
  done call m is = done_below (suc call) call m (omega arith) is

  pub arrived_of : AllArrived format here there
  arrived_of = record {
    sent = λ call m is. (done call m is).sent;
    whole = λ call m is. (done call m is).whole;
    calls = λ call m is. call_arrived call m is (done call m is).sent;
    returns = return_arrived;
  }

-- both ways
pub all_arrive : (format : ℕ) (talk : Talk) → (format ≡ 1) ⊎ (format ≡ 2) → IsTalk format talk → IsUndisturbed (acts_at_first talk) → IsUndisturbed (acts_at_second talk)
    → AllCame format (acts_at_first talk) (acts_at_second talk) → AllCame format (acts_at_second talk) (acts_at_first talk)
    → AllArrived format (acts_at_first talk) (acts_at_second talk) × AllArrived format (acts_at_second talk) (acts_at_first talk)
all_arrive format talk known is quiet also came back =
    let joint = joint_talk format talk known is quiet also in
    (arrived_of format _ _ joint quiet also came back, arrived_of format _ _ (joint_turned format _ _ joint) also quiet back came)
