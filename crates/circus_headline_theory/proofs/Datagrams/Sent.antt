-- What an act sends is sent for one of the causes there are.
use Rattle.std.proofs.Common.{◌≡◌, ℕ, zero, suc, ◌+◌, ◌^◌, ◌<◌, ◌≤◌, ◌⊎◌, inl, inr, Bool, true, false, cond, not, ◌&&◌, ◌||◌, eqb, List, [], ◌∷◌, Option, None, Some, refl, sym, ap, subst, ◌∙◌, arith}
use Rattle.std.specs.Prelude.{is_some, if◌then◌else◌}
use Rattle.std.proofs.lemmas.Bool.{and_parts, eq-eqb, eqb-false, not-true}
use Rattle.circus_exchange.specs.declared.exchange.Exchange.{Exchange}
use Rattle.circus_segment.specs.Segment.{Piece, IsSegment, is_acknowledgement, spelling, most_segments}
use Rattle.circus_segment.specs.Cut.{segment_count, segment_of, first_datagrams, whole}
use Rattle.circus_segment.proofs.Spellings.{read_again}
use Rattle.circus_exchange.specs.Exchange.{start, takes, message_out}
use Rattle.circus_exchange.specs.Outbox.{probe}
use Rattle.circus_pair.specs.Taken.{total_in, count_in, has_arrived, MayFollow}
use Rattle.circus_pair.specs.Acts.{Act, Call, Return, Came, Tick, Stop, Acts, more, end_after, taken_by, count_by, acknowledged_by}
use Rattle.circus_pair.specs.Handed.{calls_made, call_at, return_at, reached_in}
use Rattle.circus_pair.specs.Lawful.{AreLawful, is_stopped_after}
use Rattle.circus_pair.specs.Window.{is_all, call_is_whole, return_is_whole, may_go}
use Rattle.circus_pair.specs.Sending.{is_sent, takes_after, in_order, whole_call, let_go_by, call_again, return_again, again_after, outputs}
use Rattle.circus_pair.proofs.Arrivals.{total_here}
use Rattle.circus_pair.proofs.Each.{Each, each_append, each_map, each_cond}
use Rattle.circus_pair.proofs.Growing.{IsFirst, grows_act, count_le}
use Rattle.circus_pair.proofs.Keeping.{IsWithin, hands_lawful, stands_lawful, kept_after}
use Rattle.circus_pair.proofs.Outputs.{taken_is}
use Rattle.circus_pair.proofs.Sayings.{MaySay, says_part, says_probe, most_bound, good_number}
use Rattle.circus_pair.proofs.Speaking.{Fine}
use Rattle.circus_pair.proofs.Standing.{may_follow}
use Rattle.circus_pair.proofs.Taking.{takes_format}
use Rattle.circus_pair.proofs.Handing.{format_stays}
use Rattle.circus_pair.proofs.Told.{keeping_lawful}
use Rattle.circus_headline_theory.specs.Datagrams.Sendings.{IsPieceOf, IsSaidFor, IsSentFor}

-- a tick
abbrev pub is_tick : Act → Bool
is_tick Tick = true
is_tick (Call message) = false
is_tick (Return call message) = false
is_tick (Came s) = false
is_tick Stop = false

each_in_order : (P : List ℕ → Type 0) (f : ℕ → List (List ℕ)) (n : ℕ) → ((k : ℕ) → Each P (f k)) → Each P (in_order f n)
unfolding in_order
each_in_order P f zero h = tt
each_in_order P f (suc n) h = each_append P (in_order f n) (f n) (each_in_order P f n h) (h n)

module _ (first format : ℕ) (known : (format ≡ 1) ⊎ (format ≡ 2)) (ticks : Bool) (acts : Acts) (lawful : AreLawful first format acts) where
  abbrev ts : List Piece
  ts = taken_by (start first format) acts

  abbrev IsFine : List ℕ → Type 0
  IsFine bytes = IsSentFor first format ticks acts bytes

  fine : Fine first format acts ts
  fine = (keeping_lawful first format acts known lawful).fine

  says_call : (call : ℕ) (m : List ℕ) → call_at first acts call ≡ Some m → MaySay first format acts ts 0 call m
  says_call call m handed = (let old = fine.calls call m handed in record { known = known; kind_is = omega arith; numbered = old.1; sendable = old.0; handed = handed; answered = λ e. absurd cc })

  says_return : (call : ℕ) (m : List ℕ) → return_at acts call ≡ Some m → MaySay first format acts ts 1 call m
  says_return call m handed = (let old = fine.returns call m handed in record { known = known; kind_is = omega arith; numbered = old.1; sendable = old.0; handed = handed; answered = λ e. old.2 })

  -- a segment of a message
  abbrev piece : ℕ → ℕ → List ℕ → ℕ → ℕ → Piece
  piece kind call m c number = segment_of (record { format = format; kind = kind; call = call; total = segment_count m; message = m }) c number

  plain_control : (b : Bool) → eqb (if b then 2 else 0) 1 ≡ false
  plain_control true = refl
  plain_control false = refl

  low_control : (b : Bool) → (if b then 2 else 0) ≤ 2
  low_control true = omega arith
  low_control false = omega arith

  sent_piece : (kind call : ℕ) (m : List ℕ) (c number : ℕ) → MaySay first format acts ts kind call m → c ≡ (if ticks then 2 else 0) → 0 < number → number ≤ segment_count m
      → (IsPieceOf first format ticks acts kind call m (piece kind call m c number) → IsSaidFor first format ticks acts (piece kind call m c number)) → IsFine (spelling (piece kind call m c number))
  sent_piece kind call m c number may is one within cause =
      let plain : eqb c 1 ≡ false = ap (λ x. eqb x 1) is ∙ plain_control ticks in
      let low : c ≤ 2 = subst (λ x. x ≤ 2) (sym is) (low_control ticks) in
      let said = says_part first format acts ts kind call m c number may plain low one within in
      record {
        segment = piece kind call m c number;
        read = read_again (piece kind call m c number) said.segment;
        is = said.segment;
        format_is = refl;
        cause = cause (record { some = one; within = within; is = ap (λ x. piece kind call m x number) is });
      }

  -- of a call to the other end, which isn't down
  call_piece : (call : ℕ) (m : List ℕ) (c number : ℕ) → call_at first acts call ≡ Some m → is_stopped_after acts ≡ false → c ≡ (if ticks then 2 else 0) → 0 < number → number ≤ segment_count m
      → IsFine (spelling (piece 0 call m c number))
  call_piece call m c number handed up is one within =
      sent_piece 0 call m c number (says_call call m handed) is one within (λ p. inl (record { message = m; handed = handed; piece = p; up = up }))

  return_piece : (call : ℕ) (m : List ℕ) (c number : ℕ) → return_at acts call ≡ Some m → c ≡ (if ticks then 2 else 0) → 0 < number → number ≤ segment_count m
      → IsFine (spelling (piece 1 call m c number))
  return_piece call m c number handed is one within =
      sent_piece 1 call m c number (says_return call m handed) is one within (λ p. inr (inl (record { message = m; handed = handed; piece = p; arrived = (fine.returns call m handed).2 })))

  first_pieces : (kind call : ℕ) (m : List ℕ) → ((number : ℕ) → 0 < number → number ≤ segment_count m → IsFine (spelling (piece kind call m 0 number))) → (n : ℕ) → n ≤ segment_count m
      → Each IsFine (first_datagrams (record { format = format; kind = kind; call = call; total = segment_count m; message = m }) n)
  unfolding first_datagrams
  first_pieces kind call m each zero le = tt
  first_pieces kind call m each (suc n) le = each_append IsFine _ _ (first_pieces kind call m each n (omega arith)) (each (suc n) (omega arith) le, tt)

  -- a call is sent whole
  all_of_call : (call : ℕ) (o : Option (List ℕ)) → call_at first acts call ≡ o → is_stopped_after acts ≡ false → ticks ≡ false → Each IsFine (whole_call (start first format) call o)
  all_of_call call None handed up no_tick = tt
  all_of_call call (Some m) handed up no_tick =
      first_pieces 0 call m (λ number one within. call_piece call m 0 number handed up (sym (ap (λ b. if b then 2 else 0) no_tick)) one within) (segment_count m) (omega arith)

  -- and so is a return
  all_of_return : (call : ℕ) (m : List ℕ) → return_at acts call ≡ Some m → ticks ≡ false → Each IsFine (whole (message_out (start first format) 1 call m))
  all_of_return call m handed no_tick =
      first_pieces 1 call m (λ number one within. return_piece call m 0 number handed (sym (ap (λ b. if b then 2 else 0) no_tick)) one within) (segment_count m) (omega arith)

  -- ---- what a tick sends

  less : (n total : ℕ) → n ≤ total → eqb n total ≡ false → n + 1 ≤ total
  less n total le differs = (let ne = eqb-false n total differs in omega (arith, le, ne))

  probe_sent : ticks ≡ true → is_stopped_after acts ≡ false → (call : ℕ) (m : List ℕ) → call_at first acts call ≡ Some m → call_is_whole first acts ts call ≡ true → has_arrived ts 1 call ≡ false
      → IsFine (spelling (probe format 0 (segment_count m) call))
  probe_sent tick up call m handed is_whole none =
      let said = says_probe first format acts ts call m (says_call call m handed) in
      record {
        segment = probe format 0 (segment_count m) call;
        read = read_again (probe format 0 (segment_count m) call) said.segment;
        is = said.segment;
        format_is = refl;
        cause = inr (inr (inr (record { tick = tick; message = m; handed = handed; is = refl; whole = is_whole; no_return = none; up = up })));
      }

  again_call : ticks ≡ true → is_stopped_after acts ≡ false → (call : ℕ) (o : Option (List ℕ)) → call_at first acts call ≡ o → IsWithin o (reached_in ts 0 call)
      → Each IsFine (call_again (start first format) acts call o)
  unfolding call_is_whole
  again_call tick up call None handed within = tt
  again_call tick up call (Some m) handed within =
      each_cond IsFine (is_sent (start first format) acts call && not (has_arrived ts 1 call)) _ []
      (λ waits. let parts = and_parts (is_sent (start first format) acts call) (not (has_arrived ts 1 call)) waits in
      each_cond IsFine (call_is_whole first acts ts call) _ _
      (λ is_whole. (probe_sent tick up call m handed is_whole (not-true (has_arrived ts 1 call) parts.1), tt))
      (λ open_.
      let differs : eqb (reached_in ts 0 call (segment_count m)) (segment_count m) ≡ false = ap (λ x. is_all x (reached_in ts 0 call)) (sym handed) ∙ open_ in
      (call_piece call m 2 (reached_in ts 0 call (segment_count m) + 1) handed up (sym (ap (λ b. if b then 2 else 0) tick)) (omega arith) (less (reached_in ts 0 call (segment_count m)) (segment_count m) within.1 differs), tt)))
      (λ no_. tt)

  again_return : ticks ≡ true → (call : ℕ) (o : Option (List ℕ)) → return_at acts call ≡ o → IsWithin o (reached_in ts 1 call) → Each IsFine (return_again (start first format) acts call o)
  unfolding return_is_whole
  again_return tick call None handed within = tt
  again_return tick call (Some m) handed within =
      each_cond IsFine (return_is_whole acts ts call) [] _ (λ done. tt)
      (λ open_.
      let differs : eqb (reached_in ts 1 call (segment_count m)) (segment_count m) ≡ false = ap (λ x. is_all x (reached_in ts 1 call)) (sym handed) ∙ open_ in
      (return_piece call m 2 (reached_in ts 1 call (segment_count m) + 1) handed (sym (ap (λ b. if b then 2 else 0) tick)) (omega arith) (less (reached_in ts 1 call (segment_count m)) (segment_count m) within.1 differs), tt))

  all_again : ticks ≡ true → is_stopped_after acts ≡ false → Each IsFine (again_after (start first format) acts)
  unfolding again_after
  all_again tick up =
      let kept = kept_after first format acts lawful in
      each_append IsFine _ _
      (each_in_order IsFine _ (first + calls_made acts) (λ call. again_call tick up call (call_at first acts call) refl (kept.calls_within call)))
      (each_in_order IsFine _ (2 ^ 32) (λ call. again_return tick call (return_at acts call) refl (kept.returns_within call)))

-- ---- later acts

-- an act of its own, by which nothing is taken, and the other end isn't declared down
pub record IsOwn (first format : ℕ) (acts : Acts) (act : Act) : Type 0 where
  pub taken : taken_by (start first format) (more acts act) ≡ taken_by (start first format) acts
  pub stopped : is_stopped_after (more acts act) ≡ is_stopped_after acts
  pub calls : (call : ℕ) (m : List ℕ) → call_at first acts call ≡ Some m → call_at first (more acts act) call ≡ Some m
  pub returns : (call : ℕ) (m : List ℕ) → return_at acts call ≡ Some m → return_at (more acts act) call ≡ Some m

own_acts : (first format : ℕ) (acts : Acts) (act : Act) → AreLawful first format (more acts act) → taken_by (start first format) (more acts act) ≡ taken_by (start first format) acts
    → is_stopped_after (more acts act) ≡ is_stopped_after acts → IsFirst acts act → IsOwn first format acts act
own_acts first format acts act lawful taken stopped once =
    let grows = grows_act first acts (taken_by (start first format) acts) (end_after (start first format) acts) act (hands_lawful first format acts lawful.0) once in
    record { taken = taken; stopped = stopped; calls = λ call m. grows.handed 0 call m; returns = λ call m. grows.handed 1 call m }

own_call : (first format : ℕ) (acts : Acts) (message : List ℕ) → AreLawful first format (more acts (Call message)) → IsOwn first format acts (Call message)
own_call first format acts message lawful = own_acts first format acts (Call message) lawful refl refl tt

own_return : (first format : ℕ) (acts : Acts) (call : ℕ) (message : List ℕ) → AreLawful first format (more acts (Return call message)) → IsOwn first format acts (Return call message)
own_return first format acts call message lawful = own_acts first format acts (Return call message) lawful refl refl lawful.1.2

own_tick : (first format : ℕ) (acts : Acts) → AreLawful first format (more acts Tick) → IsOwn first format acts Tick
own_tick first format acts lawful = own_acts first format acts Tick lawful refl refl tt

-- what was said for one of the causes is so behind such an act
module _ (first format : ℕ) (ticks : Bool) (acts : Acts) (act : Act) (own : IsOwn first format acts act) where
  said_on : (s : Piece) → IsSaidFor first format ticks acts s → IsSaidFor first format ticks (more acts act) s
  unfolding call_is_whole
  said_on s (inl c) =
      inl (record { message = c.message; handed = own.calls s.call c.message c.handed; piece = record { some = c.piece.some; within = c.piece.within; is = c.piece.is }; up = own.stopped ∙ c.up })
  said_on s (inr (inl r)) =
      inr (inl (record {
        message = r.message;
        handed = own.returns s.call r.message r.handed;
        piece = record { some = r.piece.some; within = r.piece.within; is = r.piece.is };
        arrived = ap (λ l. has_arrived l 0 s.call) own.taken ∙ r.arrived;
      }))
  said_on s (inr (inr (inl a))) =
      inr (inr (inl (record {
        acknowledges = a.acknowledges;
        total = ap (λ l. total_in l s.kind s.call) own.taken ∙ a.total;
        number = a.number ∙ ap (λ l. count_in l s.kind s.call s.total) (sym own.taken);
        up = own.stopped ∙ a.up;
      })))
  said_on s (inr (inr (inr p))) =
      inr (inr (inr (record {
        tick = p.tick;
        message = p.message;
        handed = own.calls s.call p.message p.handed;
        is = p.is;
        whole = ap (λ l. is_all (call_at first (more acts act) s.call) (reached_in l 0 s.call)) own.taken
            ∙ ap (λ o. is_all o (reached_in (taken_by (start first format) acts) 0 s.call)) (own.calls s.call p.message p.handed ∙ sym p.handed) ∙ p.whole;
        no_return = ap (λ l. has_arrived l 1 s.call) own.taken ∙ p.no_return;
        up = own.stopped ∙ p.up;
      })))

  sent_on : (bytes : List ℕ) → IsSentFor first format ticks acts bytes → IsSentFor first format ticks (more acts act) bytes
  sent_on bytes x = record { segment = x.segment; read = x.read; is = x.is; format_is = x.format_is; cause = said_on x.segment x.cause }

pub sent_behind_call : (first format : ℕ) (ticks : Bool) (acts : Acts) (message bytes : List ℕ) → AreLawful first format (more acts (Call message)) → IsSentFor first format ticks acts bytes
    → IsSentFor first format ticks (more acts (Call message)) bytes
sent_behind_call first format ticks acts message bytes lawful = sent_on first format ticks acts (Call message) (own_call first format acts message lawful) bytes

pub sent_behind_return : (first format : ℕ) (ticks : Bool) (acts : Acts) (call : ℕ) (message bytes : List ℕ) → AreLawful first format (more acts (Return call message)) → IsSentFor first format ticks acts bytes
    → IsSentFor first format ticks (more acts (Return call message)) bytes
sent_behind_return first format ticks acts call message bytes lawful = sent_on first format ticks acts (Return call message) (own_return first format acts call message lawful) bytes

-- ---- each act

module _ (first format : ℕ) (known : (format ≡ 1) ⊎ (format ≡ 2)) (acts : Acts) (act : Act) (lawful : AreLawful first format (more acts act)) where
  abbrev next : Acts
  next = more acts act

  abbrev e : Exchange
  e = start first format

  let_go : is_tick act ≡ false → (n : ℕ) → Each (IsSentFor first format (is_tick act) next) (in_order (let_go_by e acts act) n)
  unfolding is_sent let_go_by
  let_go no_tick n = each_in_order _ (let_go_by e acts act) n one
    where
      later : (before some up goes : Bool) → (before || (some && (not up && goes))) ≡ true → before ≡ false → up ≡ false
      later true some up goes is not_before = absurd cc
      later false true true goes is not_before = absurd cc
      later false true false goes is not_before = refl
      later false false up goes is not_before = absurd cc

      one : (call : ℕ) → Each (IsSentFor first format (is_tick act) next) (let_go_by e acts act call)
      one call =
          each_cond _ (is_sent e next call && not (is_sent e acts call)) _ []
          (λ goes. let parts = and_parts (is_sent e next call) (not (is_sent e acts call)) goes in
          let up : is_stopped_after next ≡ false =
          later (is_sent e acts call) (is_some (call_at first next call)) (is_stopped_after next) (may_go first next (taken_by e next) call) parts.0 (not-true (is_sent e acts call) parts.1) in
          all_of_call first format known (is_tick act) next lawful call (call_at first next call) refl up no_tick)
          (λ no_. tt)

acknowledged : (first format : ℕ) (acts : Acts) (s : Piece) → AreLawful first format (more acts (Came s)) → takes (end_after (start first format) acts) s ≡ true → is_acknowledgement s ≡ false
    → Each (IsSentFor first format false (more acts (Came s))) (acknowledged_by (is_stopped_after acts) (taken_by (start first format) acts) s)
acknowledged first format acts s lawful taken plain =
    each_cond _ _ (spelling p ∷ []) []
    (λ due. (
      record {
        segment = p;
        read = read_again p good;
        is = good;
        format_is = takes_format (end_after b acts) s taken ∙ format_stays b acts;
        cause = inr (inr (inl (record { acknowledges = refl; total = ap (λ l. total_in l s.kind s.call) now ∙ total_here s ts may plain; number = ap (λ l. count_in l s.kind s.call s.total) (sym now); up = not-true (is_stopped_after acts) (and_parts (not (is_stopped_after acts)) _ due).0 })));
      },
      tt,
    ))
    (λ no_. tt)
  where
    b : Exchange
    b = start first format

    ts : List Piece
    ts = taken_by b acts

    p : Piece
    p = record { format = s.format; kind = s.kind; control = 1; total = s.total; number = count_by ts s; call = s.call; part = [] }

    may : MayFollow ts s
    may = may_follow ts (end_after b acts) s (stands_lawful first format acts lawful.0) lawful.1 taken

    now : taken_by b (more acts (Came s)) ≡ s ∷ ts
    now = ap (λ x. cond x (s ∷ ts) ts) taken

    good : IsSegment p
    good = record {
      format = lawful.1.format;
      kind = lawful.1.kind;
      control = omega arith;
      total = lawful.1.total;
      numbered = good_number s.total (count_by ts s) false may.some (let a : s.total ≤ most_segments s.format = lawful.1.total in let c : most_segments s.format ≤ 1025 = most_bound s.format in omega arith) (count_le (s ∷ ts) s.kind s.call s.total) (λ h. absurd cc);
      call = lawful.1.call;
      at_most = omega arith;
      part = refl;
    }

-- each datagram of an act
pub sent_for : (first format : ℕ) (known : (format ≡ 1) ⊎ (format ≡ 2)) (acts : Acts) (act : Act) → AreLawful first format (more acts act)
    → Each (IsSentFor first format (is_tick act) (more acts act)) (outputs (start first format) acts act)
unfolding outputs return_at
sent_for first format known acts (Call message) lawful = let_go first format known acts (Call message) lawful refl (first + calls_made (more acts (Call message)))
sent_for first format known acts (Return call message) lawful = all_of_return first format known false (more acts (Return call message)) lawful call message here refl
  where
    here : return_at (more acts (Return call message)) call ≡ Some message
    here = ap (λ b. cond b (Some message) (return_at acts call)) (eq-eqb call call refl)
sent_for first format known acts (Came s) lawful =
    each_append _ _ _
    (each_cond _ (takes_after (start first format) acts s && not (is_acknowledgement s)) _ []
    (λ is. let parts = and_parts (takes_after (start first format) acts s) (not (is_acknowledgement s)) is in
    acknowledged first format acts s lawful (taken_is first format acts s lawful.0 lawful.1 ∙ parts.0) (not-true (is_acknowledgement s) parts.1))
    (λ no_. tt))
    (let_go first format known acts (Came s) lawful refl (first + calls_made acts))
sent_for first format known acts Tick lawful =
    each_map _ _ (again_after (start first format) acts) (sent_on first format true acts Tick (own_tick first format acts lawful)) (all_again first format known true acts lawful.0 refl lawful.1)
sent_for first format known acts Stop lawful = tt
