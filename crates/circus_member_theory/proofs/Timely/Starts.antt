-- The run of a call is entered as the call says.
use Rattle.std.proofs.Common.{◌≡◌, ℕ, ◌+◌, ◌<◌, ◌&&◌, nat_le, Bool, true, false, if◌then◌else◌, List, [], ◌++◌, length, All, Option, None, Some, refl, sym, ap, subst, ◌∙◌, arith, length-set}
use Rattle.std.specs.Prelude.{min, IsSomeAnd, slice_index, slice_set}
use Rattle.std.specs.Option.{option_map_or}
use Rattle.std.proofs.lemmas.Bool.{false≢true}
use Rattle.std.proofs.lemmas.List.{get_or-set_same, get_or-set_other}
use Rattle.std.proofs.lemmas.List.Elements.{All-nil, All-push}
use Rattle.circus_value.specs.Fits.{all_fit}
use Rattle.circus_value.specs.Parts.{AreOctets}
use Rattle.circus_value.specs.ValueTree.{ValueTree}
use Rattle.circus_value.specs.declared.outcome.Outcome.{Outcome}
use Rattle.circus_external.specs.Answer.{Answer, found, short, not_a_value, bad_pad}
use Rattle.circus_external.specs.Reading.{fields_reading}
use Rattle.circus_external.specs.Spelling.{spelling_of_all}
use Rattle.circus_external.proofs.Promises.{fields_read_are_spelled}
use Rattle.circus_collate.specs.declared.view.View.{View}
use Rattle.circus_transfer.specs.Snapshot.{fields_of}
use Rattle.circus_transfer.specs.declared.joiner.Joiner.{Joiner}
use Rattle.circus_model.specs.Behaviour.{IsModule}
use Rattle.circus_model.specs.Lawful.{procedure_numbered}
use Rattle.circus_model.specs.NextTurn.{NextTurn}
use Rattle.circus_model.specs.declared.signature.ProcedureShape.{ProcedureShape}
use Rattle.circus_model.specs.declared.signature.Signature.{Signature}
use Rattle.circus_record.specs.declared.record.MemberRecord.{MemberRecord}
use Rattle.circus_gather.specs.declared.held.HeldCall.{HeldCall}
use Rattle.circus_performing.specs.Performing.{is_active, last_count}
use Rattle.circus_performing.specs.Record.{behaviour, start_of}
use Rattle.circus_member_rules.specs.Messages.{values_found}
use Rattle.circus_member_rules.specs.declared.occurrence.Occurrence.TheVariants as comes
use Rattle.circus_member_rules.specs.declared.place.Beginning.{Beginning}
use Rattle.circus_member_rules.specs.declared.place.Place.{Place}
use Rattle.circus_member_rules.specs.Happening.{IsHome, IsCallTo}
use Rattle.circus_member_rules.specs.Step.{start_by_call}
use Rattle.circus_member_rules.proofs.Starting.{given_is_chosen}
use Rattle.circus_member_theory.specs.First.{at_end, or_else, first_given}
use Rattle.circus_member_theory.specs.Past.{Past, booted, followed, views_known, nodes_declared_down, required_incarnation, calls_arrived, phase}
use Rattle.circus_member_theory.specs.Starts.{IsUnpacked, IsCounted, IsStartOf, AreEnteredByCalls}
use Rattle.circus_member_theory.specs.Timely.{collated_call, is_free_for, may_start}
use Rattle.circus_member_theory.specs.Living.{phase_at_boot, runs_at_boot, after, kept_after, MayLive}
use Rattle.circus_member_theory.proofs.Timely.Firsts.{first_is}
use Rattle.circus_member_theory.proofs.Timely.Known.{known_long}
use Rattle.circus_member_theory.proofs.Timely.Lived.{lived, timely}

-- ---- the clock

counted : (troupe : ℕ) (clock : List ℕ) → troupe < length clock
    → IsCounted troupe clock (slice_set clock troupe (min (slice_index clock troupe + 1) last_count))
counted troupe clock within =
    let more = min (slice_index clock troupe + 1) last_count in
    record {
      long = length-set clock troupe more;
      own = get_or-set_same clock troupe more 0 within;
      others = λ other differs. get_or-set_other clock troupe other more 0 differs;
    }

-- ---- the arguments

module _ (body : List ℕ) where
  -- what was found is spelled at the front, and where nothing was, nothing is
  spelled : (p : ProcedureShape) (a : Answer (List ValueTree)) → fields_reading (fields_of p.arguments) 0 body ≡ a → AreOctets body
      → (rest : List ℕ) × (body ≡ spelling_of_all (values_found a) ++ rest)
  spelled p (found values next rest) is octets = (rest, (fields_read_are_spelled (fields_of p.arguments) 0 body values next rest octets is).1)
  spelled p (short place) is octets = (body, refl)
  spelled p (not_a_value place) is octets = (body, refl)
  spelled p (bad_pad place) is octets = (body, refl)

  unpacked : (o : Option ProcedureShape)
      → let arguments = option_map_or (λ (p : ProcedureShape). values_found (fields_reading (fields_of p.arguments) 0 body)) o [] in
      option_map_or (λ (p : ProcedureShape). all_fit p.arguments arguments) o false ≡ true → IsSomeAnd o (IsUnpacked body arguments)
  unpacked None is = absurd (false≢true is)
  unpacked (Some p) is = record { fit = is; spelled = spelled p (fields_reading (fields_of p.arguments) 0 body) refl }

is_start : (declared : Signature) (troupe modules : ℕ) (call : HeldCall) → IsCallTo declared troupe modules call.header call.body
    → IsStartOf troupe declared.procedures call (start_by_call troupe declared.procedures call)
is_start declared troupe modules call can =
    let short = can.thread.short in
    let counts = can.thread.counts in
    record {
      root = refl;
      path = refl;
      procedure = refl;
      arguments = unpacked call.body (procedure_numbered call.header.procedure declared.procedures) can.fit;
      clock = counted troupe call.header.clock (omega (arith, short, counts));
    }

-- ---- the call that was given for a run

module _ {M : Type 0} (declared : M → Signature) (turn : M → List ValueTree → ℕ → List ValueTree → List Outcome → NextTurn) (first : M → List ValueTree)
    (lawful : (hosted : M) → IsModule (behaviour declared turn first hosted)) (place : Place) (views : List View) (hosted : M)
    (home : IsHome (declared hosted) place views) (beginning : Beginning) where
  abbrev May : Past → Type 0
  May p = MayLive declared turn first place views beginning hosted p

  -- a call that came may be performed
  abbrev IsOne : HeldCall → Type 0
  IsOne call = IsCallTo (declared hosted) place.troupe (length views) call.header call.body

  all_may : (p : Past) → May p → All IsOne (calls_arrived p)
  all_may booted may = All-nil IsOne
  all_may (followed p at (comes.Asked header body sender)) may =
      let call : HeldCall = record { header = header; body = body; sender = sender } in
      let w = (lived declared turn first lawful place views hosted home beginning p may.0).rest.goes.well in
      let long : length (after declared turn first place views beginning hosted p).known.views ≡ length views = ap (λ (vs : List View). length vs) w.views_are ∙ known_long views p in
      All-push IsOne (calls_arrived p) call (all_may p may.0)
      (subst (λ n. IsCallTo (declared hosted) place.troupe n header body) long
      (subst (λ (x : Place). IsCallTo (declared hosted) x.troupe (length (after declared turn first place views beginning hosted p).known.views) header body) w.place_is may.2))
  all_may (followed p at (comes.Fetched incarnation sender)) may = all_may p may.0
  all_may (followed p at (comes.Replied name from reply)) may = all_may p may.0
  all_may (followed p at (comes.IsStale name server from incarnation)) may = all_may p may.0
  all_may (followed p at (comes.IsBefore name from)) may = all_may p may.0
  all_may (followed p at (comes.Told request table)) may = all_may p may.0
  all_may (followed p at (comes.Restored state count)) may = all_may p may.0
  all_may (followed p at (comes.Declared node)) may = all_may p may.0
  all_may (followed p at comes.Joins) may = all_may p may.0

  abbrev begins : Joiner
  begins = phase_at_boot beginning

  -- one that may start a run came
  starts_may : (kept : MemberRecord) (number : ℕ) (p : Past) → May p → (call : HeldCall) → may_start place views begins kept number p ≡ Some call → IsOne call
  starts_may kept number p may call is =
      by_test (is_active (phase begins p) && is_free_for place views begins kept number p && nat_le (kept.from + number) last_count) is
    where
      by_test : (b : Bool) → (if b then collated_call place views begins (kept.from + number) p else None) ≡ Some call → IsOne call
      by_test true e =
          (given_is_chosen IsOne place.troupe (required_incarnation p) (views_known views p) (nodes_declared_down p) place.calls (kept.from + number) (calls_arrived p) call (all_may p may) e).holds
      by_test false e = absurd (let clash : ◌≡◌ {A = Option HeldCall} None (Some call) = e in cc)

  -- so did the one that was given first
  given_may : (gives : Past → Option HeldCall) → ((q : Past) → May q → (call : HeldCall) → gives q ≡ Some call → IsOne call) → (p : Past) → May p → (given : ℕ × HeldCall)
      → first_given gives p ≡ Some given → IsOne given.1
  given_may gives each booted may given is = by_end (gives booted) refl (sym (first_is gives booted) ∙ is)
    where
      by_end : (o : Option HeldCall) → gives booted ≡ o → at_end booted o ≡ Some given → IsOne given.1
      by_end None gave e = absurd (let clash : ◌≡◌ {A = Option (ℕ × HeldCall)} None (Some given) = e in cc)
      by_end (Some call) gave e = let same : (0, call) ≡ given = cc in subst (λ (g : ℕ × HeldCall). IsOne g.1) same (each booted may call gave)
  given_may gives each (followed p at o) may given is =
      by_first (first_given gives p) (gives (followed p at o)) refl (given_may gives each p may.0) (sym (first_is gives (followed p at o)) ∙ is)
    where
      by_first : (before : Option (ℕ × HeldCall)) (last : Option HeldCall) → gives (followed p at o) ≡ last
          → ((g : ℕ × HeldCall) → before ≡ Some g → IsOne g.1) → or_else before (at_end (followed p at o) last) ≡ Some given → IsOne given.1
      by_first (Some g) last gave earlier_so e = earlier_so given e
      by_first None (Some call) gave earlier_so e =
          let same : (at, call) ≡ given = cc in subst (λ (g : ℕ × HeldCall). IsOne g.1) same (each (followed p at o) may call gave)
      by_first None None gave earlier_so e = absurd (let clash : ◌≡◌ {A = Option (ℕ × HeldCall)} None (Some given) = e in cc)

  pub are_entered : (p : Past) → May p
      → AreEnteredByCalls place views begins (declared hosted).procedures (runs_at_boot declared beginning hosted) (kept_after declared turn first place views beginning hosted p) p
  are_entered p may number run enough there =
      let kept = kept_after declared turn first place views beginning hosted p in
      let t = timely declared turn first lawful place views hosted home beginning p may in
      by_given (first_given (may_start place views begins kept number) p) refl (t.starts number run enough there)
    where
      by_given : (o : Option (ℕ × HeldCall)) → first_given (may_start place views begins (kept_after declared turn first place views beginning hosted p) number) p ≡ o
          → IsSomeAnd o (λ given. (run.started ≡ given.0) × (start_of run ≡ start_by_call place.troupe (declared hosted).procedures given.1))
          → IsSomeAnd o (λ given. IsStartOf place.troupe (declared hosted).procedures given.1 (start_of run))
      by_given None none h = absurd h
      by_given (Some given) some h =
          let can = given_may (may_start place views begins (kept_after declared turn first place views beginning hosted p) number)
          (starts_may (kept_after declared turn first place views beginning hosted p) number) p may given some in
          subst (IsStartOf place.troupe (declared hosted).procedures given.1) (sym h.1) (is_start (declared hosted) place.troupe (length views) given.1 can)
