-- The call by which the next run starts is given by the calls that wait: of all that arrived, none that counts for it has a return.
use Rattle.std.proofs.Common.{◌≡◌, ℕ, ◌<◌, ◌≤◌, Bool, true, false, true≢false, ◌&&◌, ◌||◌, not, ◌⊎◌, inl, inr, if◌then◌else◌, List, [], ◌∷◌, ◌++◌, map, filter, Option, Some, None, refl, sym, ap, ◌∙◌, arith}
use Rattle.std.specs.Prelude.{nat_eq, nat_lt, nat_le, is_none, option_map, option_and_then}
use Rattle.std.specs.Option.{option_map_or}
use Rattle.std.proofs.lemmas.Bool.{and_parts, le-ltb, lt-leb}
use Rattle.std.proofs.lemmas.Bool.Decides.{eqb_tells, leb_tells}
use Rattle.std.proofs.lemmas.List.{map-append}
use Rattle.std.proofs.lemmas.List.Elements.{filter-append, filter_agree}
use Rattle.circus_collate.specs.declared.view.View.{View}
use Rattle.circus_transfer.specs.declared.joiner.Joiner.{Joiner}
use Rattle.circus_transfer.specs.declared.joiner.Joiner.TheVariants.{Outside, Asking, Fetching, Active}
use Rattle.circus_record.specs.declared.record.MemberRecord.{MemberRecord}
use Rattle.circus_record.specs.declared.record.RunRecord.{RunRecord}
use Rattle.circus_gather.specs.Gathering.{Gathered, index_of, is_of_index, is_counted, is_known, reply_of, as_said, given_call, call_to_start}
use Rattle.circus_gather.specs.declared.held.HeldCall.{HeldCall}
use Rattle.circus_performing.specs.Performing.{is_fetching}
use Rattle.circus_member_rules.specs.declared.place.Place.{Place}
use Rattle.circus_member_rules.specs.declared.occurrence.Occurrence.{Occurrence}
use Rattle.circus_member_rules.specs.declared.occurrence.Occurrence.TheVariants as comes
use Rattle.circus_member_rules.specs.Messages.{reply_message, stale_message, before_message}
use Rattle.circus_member_rules.specs.Step.{is_join}
use Rattle.circus_member_theory.specs.Past.{Past, booted, followed, now, Rises, views_known, nodes_declared_down, required_incarnation, calls_arrived, phase, is_outside, is_asking, is_done}
use Rattle.circus_member_theory.specs.First.{at_end, or_else}
use Rattle.circus_member_theory.specs.Made.{asks}
use Rattle.circus_member_theory.specs.Returns.{first_of, run_of, was_started, has_ended, return_at, return_owed}
use Rattle.circus_member_theory.specs.Timely.{counted_calls, collated_call}
use Rattle.circus_member_theory.proofs.Timely.Firsts.{first_is}
use Rattle.circus_dues.specs.Calls.{reply_if, calls_of, ask_in, unreturned, return_if, IsKeptAmid}
use Rattle.circus_headline_theory.proofs.Owed.Passing.{passing_both, passing_through}
use Rattle.circus_dues.proofs.CallsAmid.{asks_more}
use Rattle.circus_dues.proofs.CallsRuns.{reply_when, reply_by_is}

-- ---- what rises as a past grows

more_required : (p : Past) (step : ℕ) (o : Occurrence) → required_incarnation p ≤ required_incarnation (followed p step o)
more_required p step (comes.Asked header body sender) = omega arith
more_required p step (comes.Fetched incarnation sender) = omega arith
more_required p step (comes.Replied name from reply) = omega arith
more_required p step (comes.IsStale name server from incarnation) = omega arith
more_required p step (comes.IsBefore name from) = omega arith
more_required p step (comes.Told request table) = omega arith
more_required p step (comes.Restored state count) = omega arith
more_required p step (comes.Declared node) = omega arith
more_required p step comes.Joins = omega arith

later_first : (begins : Joiner) (p : Past) (step : ℕ) (o : Occurrence) → first_of (phase begins p) ≤ first_of (phase begins (followed p step o))
later_first begins p step (comes.Asked header body sender) = omega arith
later_first begins p step (comes.Fetched incarnation sender) = omega arith
later_first begins p step (comes.Replied name from reply) = omega arith
later_first begins p step (comes.IsStale name server from incarnation) = omega arith
later_first begins p step (comes.IsBefore name from) = omega arith
later_first begins p step (comes.Told request table) = by_phase (is_join request) (phase begins p) (is_done table.result)
  where
    by_phase : (join : Bool) (j : Joiner) (done : Bool) → first_of j ≤ first_of (if join && is_asking j then (if done then Fetching table.view.incarnation else Outside) else j)
    by_phase true Outside done = omega arith
    by_phase true Asking done = omega arith
    by_phase true (Fetching incarnation) done = omega arith
    by_phase true (Active first) done = omega arith
    by_phase false j done = omega arith
later_first begins p step (comes.Restored state count) = by_phase (phase begins p)
  where
    by_phase : (j : Joiner) → first_of j ≤ first_of (if is_fetching j then Active count else j)
    by_phase Outside = omega arith
    by_phase Asking = omega arith
    by_phase (Fetching incarnation) = omega arith
    by_phase (Active first) = omega arith
later_first begins p step (comes.Declared node) = omega arith
later_first begins p step comes.Joins = by_phase (phase begins p)
  where
    by_phase : (j : Joiner) → first_of j ≤ first_of (if is_outside j then Asking else j)
    by_phase Outside = omega arith
    by_phase Asking = omega arith
    by_phase (Fetching incarnation) = omega arith
    by_phase (Active first) = omega arith

arrived_are : (p : Past) → calls_arrived p ≡ calls_of (asks p)
arrived_are booted = refl
arrived_are (followed p step (comes.Asked header body sender)) =
    let call : HeldCall = record { header = header; body = body; sender = sender } in
    ap (λ l. l ++ call ∷ []) (arrived_are p) ∙ sym (map-append (λ (e : ℕ × HeldCall). e.1) (asks p) ((step, call) ∷ []))
arrived_are (followed p step (comes.Fetched incarnation sender)) = arrived_are p
arrived_are (followed p step (comes.Replied name from reply)) = arrived_are p
arrived_are (followed p step (comes.IsStale name server from incarnation)) = arrived_are p
arrived_are (followed p step (comes.IsBefore name from)) = arrived_are p
arrived_are (followed p step (comes.Told request table)) = arrived_are p
arrived_are (followed p step (comes.Restored state count)) = arrived_are p
arrived_are (followed p step (comes.Declared node)) = arrived_are p
arrived_are (followed p step comes.Joins) = arrived_are p

-- ---- a call gets no return, where it is not refused and its run has not ended

not_ended : (run : RunRecord) (b other : Bool) → reply_when (b || other) run ≡ None → b ≡ false
not_ended run true other none = cc
not_ended run false other none = refl

module _ (troupe : ℕ) (begins : Joiner) (kept : MemberRecord) (e : ℕ × HeldCall) where
  abbrev own : ℕ
  own = index_of troupe e.1.header

  -- by then its run has not ended, if it had not later
  fresh_before : (p q : Past) (done : ℕ → Bool) → now p ≤ now q → reply_if kept q done own ≡ None → reply_if kept p (λ n. false) own ≡ None
  fresh_before p q done low = by_run (run_of kept own)
    where
      by_end : (run : RunRecord) (o : Option ℕ) → option_map_or (λ s. nat_le s (now q)) o false ≡ false → option_map_or (λ s. nat_le s (now p)) o false ≡ false
      by_end run None is = refl
      by_end run (Some s) is = by_tell (leb_tells s (now q))
        where
          by_tell : ((nat_le s (now q) ≡ true) × (s ≤ now q)) ⊎ ((nat_le s (now q) ≡ false) × (now q < s)) → nat_le s (now p) ≡ false
          by_tell (inl below) = absurd (true≢false (sym below.0 ∙ is))
          by_tell (inr above) = (let high = above.1 in lt-leb s (now p) (omega (arith, high, low)))

      by_run : (r : Option RunRecord) → option_and_then (λ (run : RunRecord). reply_when (has_ended run q || done own) run) r ≡ None
          → option_and_then (λ (run : RunRecord). reply_when (has_ended run p || false) run) r ≡ None
      by_run None none = refl
      by_run (Some run) none = ap (λ b. reply_when (b || false) run) (by_end run run.ended (not_ended run (has_ended run q) (done own) none))

  nothing_at : (p : Past) → required_incarnation p ≤ e.1.header.server_incarnation → first_of (phase begins p) ≤ own → reply_if kept p (λ n. false) own ≡ None → return_at troupe begins kept e.0 e.1 p ≡ None
  nothing_at p required from fresh =
      (λ j. if nat_lt (now p) e.0 then None else if le-ltb e.1.header.server_incarnation (required_incarnation p) required j && (nat_eq e.0 (now p) || not (was_started kept own (now p))) then Some (stale_message (required_incarnation p))
      else if le-ltb own (first_of (phase begins p)) from j then Some (before_message (first_of (phase begins p))) else (reply_by_is troupe begins kept e.1 p ∙ ap (option_map reply_message) fresh) j)
      ∙ by_test (nat_lt (now p) e.0)
    where
      by_test : (b : Bool) → let o : Option (List ℕ) = if b then None else None in o ≡ None
      by_test true = refl
      by_test false = refl

  none_owed : (p : Past) → Rises p → required_incarnation p ≤ e.1.header.server_incarnation → first_of (phase begins p) ≤ own → reply_if kept p (λ n. false) own ≡ None → return_owed troupe begins kept e.0 e.1 p ≡ None
  none_owed booted rises required from fresh =
      first_is (return_at troupe begins kept e.0 e.1) booted ∙ ap (at_end booted) (nothing_at booted required from fresh)
  none_owed (followed p step o) rises required from fresh =
      let q = followed p step o in
      let later = rises.1 in
      let more = more_required p step o in
      let higher = later_first begins p step o in
      first_is (return_at troupe begins kept e.0 e.1) q
      ∙ (λ j. or_else (none_owed p rises.0 (omega (arith, more, required)) (omega (arith, higher, from)) (fresh_before p q (λ n. false) (omega (arith, later)) fresh) j) (at_end q (nothing_at q required from fresh j)))

-- ---- the calls that count for an index

-- what one that counts shows
record Counts (module_of required : ℕ) (index : ℕ) (call : HeldCall) : Type 0 where
  own : index_of module_of call.header ≡ index
  fits : required ≤ call.header.server_incarnation

counts : (module_of required : ℕ) (views : List View) (index : ℕ) (call : HeldCall) → is_counted module_of required views index call ≡ true → Counts module_of required index call
unfolding is_counted
counts module_of required views index call is =
    let outer = and_parts (is_of_index module_of index call && nat_le required call.header.server_incarnation) (is_known views call.header.client call.header.client_incarnation) is in
    let inner = and_parts (is_of_index module_of index call) (nat_le required call.header.server_incarnation) outer.0 in
    record { own = by_index (eqb_tells (index_of module_of call.header) index) inner.0; fits = by_order (leb_tells required call.header.server_incarnation) inner.1 }
  where
    by_index : ((nat_eq (index_of module_of call.header) index ≡ true) × (index_of module_of call.header ≡ index)) ⊎ ((nat_eq (index_of module_of call.header) index ≡ false) × ((index_of module_of call.header ≡ index) → ⊥))
        → nat_eq (index_of module_of call.header) index ≡ true → index_of module_of call.header ≡ index
    by_index (inl same) is = same.1
    by_index (inr other) is = absurd (true≢false (sym is ∙ other.0))

    by_order : ((nat_le required call.header.server_incarnation ≡ true) × (required ≤ call.header.server_incarnation)) ⊎ ((nat_le required call.header.server_incarnation ≡ false) × (call.header.server_incarnation < required))
        → nat_le required call.header.server_incarnation ≡ true → required ≤ call.header.server_incarnation
    by_order (inl low) is = low.1
    by_order (inr high) is = absurd (true≢false (sym is ∙ high.0))

-- it has no reply, as long as its run has not ended
pub fresh_amid : (troupe : ℕ) (begins : Joiner) (kept : MemberRecord) (p : Past) (step : ℕ) (o : Occurrence) (done : ℕ → Bool) (g : Gathered) → IsKeptAmid troupe begins kept p step o done g
    → (index : ℕ) → done index ≡ false → ((run : RunRecord) → run_of kept index ≡ Some run → has_ended run p ≡ false) → reply_of g index ≡ None
fresh_amid troupe begins kept p step o done g h index not_done goes = h.replies index ∙ by_run (run_of kept index) refl
  where
    by_run : (r : Option RunRecord) → run_of kept index ≡ r → option_and_then (λ (run : RunRecord). reply_when (has_ended run p || done index) run) r ≡ None
    by_run None is = refl
    by_run (Some run) is = (λ j. reply_when (goes run is j || not_done j) run)

module _ (place : Place) (boot : List View) (begins : Joiner) (kept : MemberRecord) (p : Past) (step : ℕ) (o : Occurrence) (rises : Rises p) (later : now p < step) (done : ℕ → Bool) (g : Gathered) (h : IsKeptAmid place.troupe begins kept p step o done g)
    (index : ℕ) (fresh : reply_of g index ≡ None) (from : g.from ≤ index) where
  abbrev q : Past
  q = followed p step o

  abbrev counted : HeldCall → Bool
  counted = is_counted place.troupe (required_incarnation q) (views_known boot q) index

  abbrev waits : ℕ × HeldCall → Bool
  waits e = is_none (return_owed place.troupe begins kept e.0 e.1 p)

  abbrev is_kept : ℕ × HeldCall → Bool
  is_kept e = is_none (return_if place.troupe begins kept p step o done e)

  none_yet : (e : ℕ × HeldCall) → Counts place.troupe (required_incarnation q) index e.1 → reply_if kept p done (index_of place.troupe e.1.header) ≡ None
  none_yet e c = ap (reply_if kept p done) c.own ∙ sym (h.replies index) ∙ fresh

  first_low : (e : ℕ × HeldCall) → Counts place.troupe (required_incarnation q) index e.1 → first_of (phase begins q) ≤ index_of place.troupe e.1.header
  first_low e c = (let is = c.own in let low = from in let same = h.from in omega (arith, is, low, same))

  counts_kept : (e : ℕ × HeldCall) → Counts place.troupe (required_incarnation q) index e.1 → is_kept e ≡ true
  counts_kept e c =
      let own_index = index_of place.troupe e.1.header in
      (λ j. is_none (if le-ltb e.1.header.server_incarnation (required_incarnation q) c.fits j && (nat_eq e.0 step || not (was_started kept own_index step)) then Some (stale_message (required_incarnation q))
      else if le-ltb own_index (first_of (phase begins q)) (first_low e c) j then Some (before_message (first_of (phase begins q))) else option_map reply_message (none_yet e c j)))

  counts_waits : (e : ℕ × HeldCall) → Counts place.troupe (required_incarnation q) index e.1 → waits e ≡ true
  counts_waits e c =
      let more = more_required p step o in
      let higher = later_first begins p step o in
      let fits = c.fits in
      let low = first_low e c in
      ap is_none (none_owed place.troupe begins kept e p rises (omega (arith, more, fits)) (omega (arith, higher, low)) (fresh_before place.troupe begins kept e p p done (omega arith) (none_yet e c)))

  by_both : (a b : Bool) → (b ≡ true → a ≡ true) → b ≡ (a && b)
  by_both a true so = sym (ap (λ x. x && true) (so refl))
  by_both true false so = refl
  by_both false false so = refl

  kept_one : (e : ℕ × HeldCall) → counted e.1 ≡ (is_kept e && counted e.1)
  kept_one e = by_both (is_kept e) (counted e.1) (λ is. counts_kept e (counts place.troupe (required_incarnation q) (views_known boot q) index e.1 is))

  waits_one : (e : ℕ × HeldCall) → counted e.1 ≡ (waits e && counted e.1)
  waits_one e = by_both (waits e) (counted e.1) (λ is. counts_waits e (counts place.troupe (required_incarnation q) (views_known boot q) index e.1 is))

  -- of all that arrived they are those that count of the ones that wait
  counted_are : counted_calls place boot begins index q ≡ filter counted g.held
  counted_are =
      let test : ℕ × HeldCall → Bool = λ e. counted e.1 in
      let old = unreturned place.troupe begins kept p in
      let new = ask_in step o in
      ap (filter counted) (arrived_are q)
      ∙ passing_through counted (λ (e : ℕ × HeldCall). e.1) (asks q)
      ∙ ap calls_of (ap (filter test) (asks_more p step o) ∙ filter-append test (asks p) new
      ∙ ap (λ l. l ++ filter test new) (filter_agree test (λ e. waits e && test e) waits_one (asks p) ∙ sym (passing_both test waits (asks p)))
      ∙ sym (filter-append test old new)
      ∙ filter_agree test (λ e. is_kept e && test e) kept_one (old ++ new) ∙ sym (passing_both test is_kept (old ++ new)))
      ∙ sym (passing_through counted (λ (e : ℕ × HeldCall). e.1) (filter is_kept (old ++ new)))
      ∙ ap (filter counted) (sym h.held)

  -- the call that starts the run of an index, by what is kept
  pub starts_by : call_to_start g (views_known boot q) (nodes_declared_down q) place.calls index ≡ collated_call place boot begins index q
  starts_by =
      ap (λ n. given_call (views_known boot q) (nodes_declared_down q) place.calls (map as_said (filter (is_counted n g.required (views_known boot q) index) g.held))) h.own
      ∙ ap (λ n. given_call (views_known boot q) (nodes_declared_down q) place.calls (map as_said (filter (is_counted place.troupe n (views_known boot q) index) g.held))) h.required
      ∙ ap (λ l. given_call (views_known boot q) (nodes_declared_down q) place.calls (map as_said l)) (sym counted_are)
