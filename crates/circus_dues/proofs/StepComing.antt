-- The first part of a step: what comes is taken, and what it makes at once is made.
use Rattle.std.proofs.Common.{◌≡◌, ℕ, ◌+◌, Bool, true, false, true≢false, ◌&&◌, if◌then◌else◌, List, [], ◌++◌, map, Option, Some, None, refl, sym, ap, subst, ◌∙◌}
use Rattle.std.specs.Prelude.{option_map}
use Rattle.std.specs.Bool.{Decides}
use Rattle.std.specs.Option.{option_to_list}
use Rattle.std.proofs.lemmas.List.{map-append}
use Rattle.circus_value.specs.ValueTree.{ValueTree}
use Rattle.circus_value.specs.declared.caller.Caller.{Caller}
use Rattle.circus_header.specs.declared.call.CallHeader.{CallHeader}
use Rattle.circus_collate.specs.declared.view.View.{View}
use Rattle.circus_transfer.specs.declared.joiner.Joiner.{Joiner}
use Rattle.circus_transfer.specs.declared.joiner.Joiner.TheVariants.{Outside, Asking, Fetching, Active}
use Rattle.circus_model.specs.declared.signature.ProcedureShape.{ProcedureShape}
use Rattle.circus_record.specs.declared.record.MemberRecord.{MemberRecord}
use Rattle.circus_gather.specs.Gathering as gathering
use Rattle.circus_gather.specs.Gathering.{Gathered, answer_to}
use Rattle.circus_gather.specs.declared.added.Added.{Added}
use Rattle.circus_gather.specs.declared.added.Added.TheVariants as added
use Rattle.circus_fanout.specs.Knowing as knowing
use Rattle.circus_fanout.specs.Knowing.{Knowing}
use Rattle.circus_performing.specs.Performing.{is_active, is_fetching}
use Rattle.circus_member_rules.specs.declared.place.Place.{Place}
use Rattle.circus_member_rules.specs.declared.occurrence.Occurrence.{Occurrence}
use Rattle.circus_member_rules.specs.declared.occurrence.Occurrence.TheVariants as comes
use Rattle.circus_member_rules.specs.Rules.{wanted_by_call}
use Rattle.circus_member_rules.specs.Step.{is_join}
use Rattle.circus_member_theory.specs.Past.{Past, followed, phase, is_outside, is_asking, is_done, taken_in}
use Rattle.circus_member_theory.specs.Asks.{open_asks}
use Rattle.circus_member_theory.specs.Made.{at_most_one}
use Rattle.circus_member_theory.specs.Differences.{differences_now}
use Rattle.circus_member_theory.specs.Order.{calls_of_what_came, returns_at_once}
use Rattle.circus_member_theory.specs.Returns.{first_of}
use Rattle.circus_dues.specs.Calls.{IsKeptAmid, request_in, gathered_by, returns_by, ungiven, ends_among}
use Rattle.circus_dues.specs.Dues.{IsDuesOf, IsActivatedSo}
use Rattle.circus_dues.specs.Out.{KnowsAmid, known_behind, open_behind, requests_of, calls_of_open, phase_behind, began_behind}
use Rattle.circus_dues.specs.Seen.Owing.{activated, behind, made_at_once, told_by}
use Rattle.circus_dues.specs.declared.owing.Owing.{Owing}
use Rattle.circus_dues.specs.declared.walk.Walk.{Walk}
use Rattle.circus_headline_theory.proofs.Owed.Differing.{told_of, told_now}
use Rattle.circus_dues.proofs.CallsComing as coming
use Rattle.circus_dues.proofs.CallsPassing.{first_amid}
use Rattle.circus_dues.proofs.CallsStates.{requests_waiting}
use Rattle.circus_dues.proofs.OutCalls.{asks_behind_are}
use Rattle.circus_dues.proofs.OutKnown.{knows_amid}
use Rattle.circus_dues.proofs.OutPhase as out
use Rattle.circus_dues.proofs.OutStep.{calls_are}
use Rattle.circus_dues.proofs.Stages.{IsGoingOn, IsAmid}
use Rattle.circus_dues.proofs.StepComingBehind as parts
use Rattle.circus_dues.proofs.StepComingOpen.{ended_so, open_of}

-- a call that is held makes the view of its client wanted
wanted_if : (a : Added) (header : CallHeader) (k : Knowing) → wanted_by_call a header k ≡ (if gathering.is_held a then knowing.want_view k header.client header.client_incarnation else k)
wanted_if (added.Reply reply) header k = refl
wanted_if (added.Stale incarnation) header k = refl
wanted_if (added.Before first) header k = refl
wanted_if added.Held header k = refl

one_or_none : {A : Type 0} (o : Option A) → at_most_one o ≡ option_to_list o
one_or_none None = refl
one_or_none (Some a) = refl

-- ---- the index from which a member is active is that of its record

module _ (place : Place) (boot : List View) (begins : Joiner) (first : List ValueTree) (procedures : List ProcedureShape) (at_boot : ℕ) (kept : MemberRecord) (p : Past) (at : ℕ)
    (before : is_active (phase begins p) ≡ true → kept.from ≡ first_of (phase begins p)) where
  abbrev j : Joiner
  j = phase begins p

  abbrev IsFirst : Joiner → Type 0
  IsFirst then_so = is_active then_so ≡ true → kept.from ≡ first_of then_so

  first_then : (o : Occurrence) → IsActivatedSo place boot begins first kept procedures at_boot p at o → IsFirst (phase begins (followed p at o))
  first_then (comes.Asked header body sender) so = before
  first_then (comes.Fetched incarnation sender) so = before
  first_then (comes.Replied name from reply) so = before
  first_then (comes.IsStale name server from incarnation) so = before
  first_then (comes.IsBefore name from) so = before
  first_then (comes.Told request table) so = by_test (is_join request && is_asking j)
    where
      by_done : (b : Bool) → IsFirst (if b then Fetching table.view.incarnation else Outside)
      by_done true = λ active. absurd (true≢false (sym active))
      by_done false = λ active. absurd (true≢false (sym active))

      by_test : (b : Bool) → IsFirst (if b then taken_in table else j)
      by_test true = by_done (is_done table.result)
      by_test false = before
  first_then (comes.Restored state count) so = by_test (is_fetching j) refl
    where
      by_test : (b : Bool) → is_fetching j ≡ b → IsFirst (if b then Active count else j)
      by_test true is = λ active. (so is).1
      by_test false is = before
  first_then (comes.Declared node) so = before
  first_then comes.Joins so = by_test (is_outside j)
    where
      by_test : (b : Bool) → IsFirst (if b then Asking else j)
      by_test true = λ active. absurd (true≢false (sym active))
      by_test false = before

module _ (place : Place) (boot : List View) (begins : Joiner) (first : List ValueTree) (procedures : List ProcedureShape) (at_boot : ℕ) (kept : MemberRecord) (p : Past) (at : ℕ) (o : Occurrence)
    (going : IsGoingOn place boot begins at_boot kept p at) (d : Owing) (h : IsDuesOf place boot begins first kept p d) where
  abbrev q : Past
  q = followed p at o

  abbrev d1 : Owing
  d1 = behind kept at o d

  pub came_walk : d1.walk ≡ d.walk
  came_walk = parts.walk_then kept at d o

  -- ---- what is known

  known_by : (x : Occurrence) → (behind kept at x d).out.known ≡ known_behind place boot begins kept p x d.out.known
  known_by (comes.Asked header body sender) =
      wanted_if (answer_to d.calls.gathered header) header d.out.known
      ∙ ap (λ b. if b then knowing.want_view d.out.known header.client header.client_incarnation else d.out.known)
      (sym (coming.holds place begins kept p at going.later d.calls.gathered h.calls boot (record { header = header; body = body; sender = sender })))
  known_by (comes.Fetched incarnation sender) = refl
  known_by (comes.Replied name from reply) = refl
  known_by (comes.IsStale name server from incarnation) = refl
  known_by (comes.IsBefore name from) = refl
  known_by (comes.Told request table) = refl
  known_by (comes.Restored state count) = by_test (is_fetching d.phase)
    where
      by_test : (b : Bool) → let e : Owing = if b then activated kept at state count d else d in e.out.known ≡ d.out.known
      by_test true = refl
      by_test false = refl
  known_by (comes.Declared node) = refl
  known_by comes.Joins = refl

  known_so : KnowsAmid place boot begins kept q d1.out.known
  known_so = subst (KnowsAmid place boot begins kept q) (sym (known_by o)) (knows_amid place boot begins kept p at d.out.known h.known o)

  -- ---- calls in

  gathered_so : d1.calls.gathered ≡ gathered_by begins p o d.calls.gathered
  gathered_so = parts.gathered_then kept at d begins p h.phase_is o

  -- none of the runs that had ended before ends in the step
  calls_so : IsKeptAmid place.troupe begins kept p at o (ends_among kept at d1.walk.ended) d1.calls.gathered
  calls_so =
      subst (λ g. IsKeptAmid place.troupe begins kept p at o (ends_among kept at d1.walk.ended) g) (sym gathered_so)
      (subst (λ n. IsKeptAmid place.troupe begins kept p at o (ends_among kept at n) (gathered_by begins p o d.calls.gathered)) (ap (λ (w : Walk). w.ended) (sym came_walk))
      (first_amid place boot begins first kept p at o going.rises going.later going.between d.walk.ended
      (λ m run below is. ended_so p run (h.comes_to.ended m run below is)) (gathered_by begins p o d.calls.gathered)
      (coming.kept_amid place begins kept p at going.later d.calls.gathered h.calls o going.rises going.between)))

  pub came_requests : d1.calls.requests ≡ map (λ (e : ℕ × Caller). e.1) (requests_waiting place boot begins first kept p at o going.rises going.later)
  came_requests =
      parts.requests_then kept at d o
      ∙ ap (λ l. l ++ map (λ (e : ℕ × Caller). e.1) (request_in at o)) h.requests
      ∙ sym (map-append (λ (e : ℕ × Caller). e.1) (ungiven begins first kept p) (request_in at o))

  -- ---- what is kept then

  pub came_amid : IsAmid place boot begins first procedures at_boot kept p at o [] (option_map (λ _. kept.from + d.walk.ended) d.walk.asked) d1
  came_amid =
      record {
        known = known_so;
        asks = parts.asks_then kept at d o
            ∙ ap (open_behind o d.out.known d1.out.known) h.asks
            ∙ sym (asks_behind_are place boot p at d.out.known d1.out.known h.known.seen o known_so.seen (open_asks place boot kept p));
        calls = calls_so;
        opens = ap (λ (g : Gathered). g.open_run) gathered_so ∙ coming.same_open begins p o d.calls.gathered ∙ open_of place boot begins first kept p d h going.order;
        phase_is = parts.phase_then kept at d o ∙ ap (phase_behind o) h.phase_is ∙ sym (out.phase_then begins p at o);
        began_is = parts.began_then kept at d o ∙ (λ j. began_behind o (h.phase_is j) (h.began_is j)) ∙ sym (out.began_then begins p at first o);
      }

  -- ---- what is made at once, and told

  pub came_made : made_at_once place o d ≡ calls_of_what_came place boot begins first kept p q ++ returns_at_once place boot begins first kept q
  came_made =
      parts.made_then kept at d place begins p h.phase_is o
      ∙ (λ j. (calls_of_open o d.out.known d1.out.known (h.asks j) ++ requests_of place o (phase begins p) d1.out.known) ++ returns_by begins p o d.calls.gathered)
      ∙ (λ j. sym (calls_are place boot begins first kept p at o d.out.known d1.out.known h.known.seen known_so.seen) j
      ++ sym (coming.returned_at_once place begins kept p at going.later d.calls.gathered h.calls o going.rises going.between boot first) j)

  told_so : (x : Occurrence) → told_by x d ≡ told_of d.out.asks x
  told_so (comes.Asked header body sender) = refl
  told_so (comes.Fetched incarnation sender) = refl
  told_so (comes.Replied name from reply) = refl
  told_so (comes.IsStale name server from incarnation) = refl
  told_so (comes.IsBefore name from) = refl
  told_so (comes.Told request table) = refl
  told_so (comes.Restored state count) = refl
  told_so (comes.Declared node) = refl
  told_so comes.Joins = refl

  pub came_told : at_most_one (told_by o d) ≡ differences_now place boot kept q
  came_told =
      one_or_none (told_by o d)
      ∙ ap option_to_list (told_so o ∙ ap (λ asks. told_of asks o) h.asks)
      ∙ sym (told_now place boot kept p going.rises at o)

  -- ---- in time

  abbrev Activated : Type 0
  Activated = IsActivatedSo place boot begins first kept procedures at_boot p at o

  pub came_timely : d.is_timely ≡ true → Decides d1.is_timely Activated
  came_timely timely = parts.timely_then kept at d place boot begins first procedures at_boot p h.phase_is timely o

  pub came_first : (is_active (phase begins p) ≡ true → kept.from ≡ first_of (phase begins p)) → Activated → is_active (phase begins q) ≡ true → kept.from ≡ first_of (phase begins q)
  came_first before so = first_then place boot begins first procedures at_boot kept p at before o so
