-- Each call gets the one return that it is owed, in the step in which it is owed, and who made no call gets none.
use Rattle.std.proofs.Common.{◌≡◌, ℕ, ◌+◌, ◌<◌, ◌≤◌, Bool, true, false, ◌&&◌, ◌||◌, ◌⊎◌, inl, inr, not, if◌then◌else◌, List, [], ◌∷◌, ◌++◌, map, filter, All, Option, Some, None, refl, sym, ap, subst, ◌∙◌, arith, append-nil}
use Rattle.std.specs.Prelude.{nat_eq, nat_lt, option_map}
use Rattle.std.specs.Option.{option_map_or}
use Rattle.std.proofs.lemmas.Bool.{ltb-true, lt-ltb, le-ltb, eq-eqb, ne_eqb}
use Rattle.std.proofs.lemmas.List.Elements.{All-nil, All-push, All-weaker}
use Rattle.circus_value.specs.ValueTree.{ValueTree}
use Rattle.circus_value.specs.declared.caller.Caller.{Caller}
use Rattle.circus_value.specs.declared.outcome.Outcome.{Outcome}
use Rattle.circus_collate.specs.declared.view.View.{View}
use Rattle.circus_transfer.specs.declared.joiner.Joiner.{Joiner}
use Rattle.circus_model.specs.declared.signature.Signature.{Signature}
use Rattle.circus_model.specs.NextTurn.{NextTurn}
use Rattle.circus_model.specs.Behaviour.{IsModule}
use Rattle.circus_record.specs.declared.record.MemberRecord.{MemberRecord}
use Rattle.circus_record.specs.declared.record.RunRecord.{RunRecord}
use Rattle.circus_gather.specs.Gathering.{Gathered, index_of, reply_of, is_of_run, is_stale, is_before}
use Rattle.circus_gather.specs.declared.held.HeldCall.{HeldCall}
use Rattle.circus_performing.specs.Record.{behaviour}
use Rattle.circus_member_rules.specs.declared.place.Place.{Place}
use Rattle.circus_member_rules.specs.declared.place.Beginning.{Beginning}
use Rattle.circus_member_rules.specs.declared.place.Beginning.TheVariants.{Founder, Spare}
use Rattle.circus_member_rules.specs.declared.occurrence.Effect.{Effect}
use Rattle.circus_member_rules.specs.declared.occurrence.Occurrence.{Occurrence}
use Rattle.circus_member_rules.specs.declared.occurrence.Occurrence.TheVariants as comes
use Rattle.circus_member_rules.specs.Messages.{reply_message, stale_message, before_message}
use Rattle.circus_member_rules.specs.Rules.{lookups}
use Rattle.circus_member_rules.specs.Happening.{IsHome}
use Rattle.circus_member_rules.specs.MemberState.{MemberState, Doing}
use Rattle.circus_member_rules.specs.Step.{step_member}
use Rattle.circus_member_theory.specs.Past.{Past, booted, followed, now, required_incarnation, phase}
use Rattle.circus_member_theory.specs.First.{at_end, or_else}
use Rattle.circus_member_theory.specs.Made.{is_caller, returns_to, at_most_one, asks, AreDistinct}
use Rattle.circus_member_theory.specs.Owed.{IsReturned}
use Rattle.circus_member_theory.specs.Returns.{first_of, was_started, run_of, reply_by, return_at, return_owed}
use Rattle.circus_member_theory.proofs.Resting.{at_boot}
use Rattle.circus_world_theory.proofs.Border.Going.{begun}
use Rattle.circus_headline_theory.specs.Owed.Living.{boots, made_in, made_by}
use Rattle.circus_member_theory.specs.Living.{phase_at_boot, after, MayLive}
use Rattle.circus_headline_theory.proofs.Owed.Booting.{booted_keeps}
use Rattle.circus_headline_theory.proofs.Owed.Callers.{returned, is_from, returned-append, returns-append, returns_in}
use Rattle.circus_headline_theory.proofs.Owed.Distinct.{All-zip, IsNew, is_caller-refl, new_caller, new_before, new_now, other_asks}
use Rattle.circus_member_theory.proofs.Timely.Firsts.{first_is, same_first, none_first}
use Rattle.circus_headline_theory.proofs.Owed.Going.{executed_keeps}
use Rattle.circus_headline_theory.proofs.Owed.Grown.{AreGrown, grown_same}
use Rattle.circus_headline_theory.proofs.Owed.Handling.{is_by, due, due_now, no_lookup, quiet_handled, neither, IsTold, WaitsOn, waits_handled, told_fresh, IsRefused, IsTaken, asked_handled}
use Rattle.circus_headline_theory.proofs.Owed.Lives.{rises, IsKnown, handles, executes, IsStepped, step_is, known}
use Rattle.circus_headline_theory.proofs.Owed.Status.{AreWithin, reply_is, return_same, started_is}
use Rattle.circus_headline_theory.proofs.Owed.Waiting.{IsQuiet, Waits, HasReply, quiet_keeps, replied_keeps}

-- the first of two that is there
abbrev pub or_that : {A : Type 0} → Option A → Option A → Option A
or_that None other = other
or_that (Some a) other = Some a

in_two : (stale before : Bool) (one two : List ℕ) (reply : Option (List ℕ)) → (if stale then Some one else if before then Some two else reply) ≡ or_that (if stale then Some one else if before then Some two else None) reply
in_two true before one two reply = refl
in_two false true one two reply = refl
in_two false false one two reply = refl

and_true : (b : Bool) → (b && true) ≡ b
and_true true = refl
and_true false = refl

and_false : (b : Bool) → (b && false) ≡ false
and_false true = refl
and_false false = refl

-- what is owed, by its tests
abbrev shape : ℕ → ℕ → Bool → ℕ → Bool → Bool → ℕ → Option (List ℕ) → Option (List ℕ)
shape incarnation index late required_incarnation in_step started from reply =
    if late then None
    else if nat_lt incarnation required_incarnation && (in_step || not started) then Some (stale_message required_incarnation)
    else if nat_lt index from then Some (before_message from)
    else reply

module _ {M : Type 0} (declared : M → Signature) (turn : M → List ValueTree → ℕ → List ValueTree → List Outcome → NextTurn) (first : M → List ValueTree) (lawful : (hosted : M) → IsModule (behaviour declared turn first hosted)) (place : Place) (views : List View) (beginning : Beginning) (hosted : M) where
  abbrev makes : Past → List (ℕ × Effect)
  makes p = made_by declared turn first place views beginning hosted p

  abbrev start : Joiner
  start = phase_at_boot beginning

  abbrev life : Past → MemberState M
  life p = after declared turn first place views beginning hosted p

  abbrev kept_after : Past → MemberRecord
  kept_after p = (life p).performing.kept

  -- what a step makes besides to a caller
  pub made_more : (c : Caller) (p : Past) (at : ℕ) (o : Occurrence) (old : List (ℕ × List ℕ)) (new : List (List ℕ)) → returns_to c (makes p) ≡ old
      → returned c (executes declared turn first lawful place views beginning hosted p at o).effects ≡ new → returns_to c (makes (followed p at o)) ≡ old ++ map (λ (m : List ℕ). (at, m)) new
  made_more c p at o old new before in_step =
      let e = executes declared turn first lawful place views beginning hosted p at o in
      let effects = (step_member declared turn at o (life p)).effects in
      let all : returned c effects ≡ new = returned-append c e.effects (lookups e.member.known) ∙ ap (λ l. returned c e.effects ++ l) (no_lookup c e.member.known) ∙ append-nil (returned c e.effects) ∙ in_step in
      returns-append c (makes p) (made_in at effects)
      ∙ ap (λ l. l ++ returns_to c (made_in at effects)) before
      ∙ ap (λ l. old ++ l) (returns_in c at effects ∙ ap (map (λ (m : List ℕ). (at, m))) all)

  -- ---- who made no call

  pub record IsSilent (c : Caller) (p : Past) : Type 0 where
    pub held : filter (is_from c) (life p).gathered.held ≡ []
    pub requests : filter (is_caller c) (life p).requests ≡ []
    pub returns : returns_to c (makes p) ≡ []

  -- ---- a call that came in a step

  -- it waits, and is owed nothing yet
  pub record Awaits (p : Past) (came : ℕ) (call : HeldCall) : Type 0 where
    pub held : filter (is_from call.sender) (life p).gathered.held ≡ call ∷ []
    pub requests : filter (is_caller call.sender) (life p).requests ≡ []
    pub fresh : reply_of (life p).gathered (index_of (life p).gathered.module call.header) ≡ None
    pub not_due : due (life p).gathered call ≡ None
    pub returns : returns_to call.sender (makes p) ≡ []
    pub owed : return_owed place.troupe start (kept_after p) came call p ≡ None

  -- it has its return, which it was owed
  pub record IsAnswered (p : Past) (came : ℕ) (call : HeldCall) : Type 0 where
    pub given : ℕ × List ℕ
    pub held : filter (is_from call.sender) (life p).gathered.held ≡ []
    pub requests : filter (is_caller call.sender) (life p).requests ≡ []
    pub returns : returns_to call.sender (makes p) ≡ given ∷ []
    pub owed : return_owed place.troupe start (kept_after p) came call p ≡ Some given

  abbrev pub Fares : Past → ℕ × HeldCall → Type 0
  Fares p e = (e.0 ≤ now p) × (Awaits p e.0 e.1 ⊎ IsAnswered p e.0 e.1)

  module _ (home : IsHome (declared hosted) place views) where
    module _ (p : Past) (at : ℕ) (o : Occurrence) (may : MayLive declared turn first place views beginning hosted (followed p at o)) where
      -- the member before, as it is handled, and behind the execution
      abbrev m : MemberState M
      m = life p

      abbrev q : Past
      q = followed p at o

      abbrev d : Doing M
      d = handles declared turn first lawful place views beginning hosted p at o

      abbrev e : Doing M
      e = executes declared turn first lawful place views beginning hosted p at o

      h : IsKnown declared turn first lawful place views beginning hosted p m
      h = known declared turn first lawful place views beginning hosted home p may.0

      s : IsStepped declared turn first lawful place views beginning hosted p at o
      s = step_is declared turn first lawful place views beginning hosted home p at o may h

      k : IsKnown declared turn first lawful place views beginning hosted q (life q)
      k = known declared turn first lawful place views beginning hosted home q may

      -- ---- what is owed at the end of the step

      started_kept : (e.member.performing.kept.from ≡ m.performing.kept.from) ⊎ (m.performing.kept.runs ≡ [])
      started_kept = elim s.carried.start [ inl same ↦ inl (s.same.start ∙ same) | inr none ↦ inr none ]

      pub reply_now : (troupe : ℕ) (call : HeldCall) → reply_by troupe start (kept_after q) call q ≡ option_map reply_message (reply_of e.member.gathered (index_of troupe call.header))
      reply_now troupe call =
          reply_is (behaviour declared turn first e.member.performing.hosted) e.member.performing.began e.member.gathered e.member.performing.kept k.sound.kept k.linked q k.within troupe start call

      owed_by : (g : Gathered) (came : ℕ) (call : HeldCall) (in_step started : Bool) → place.troupe ≡ g.module → required_incarnation q ≡ g.required → first_of (phase start q) ≡ g.from → came ≤ at
          → nat_eq came at ≡ in_step → was_started (kept_after q) (index_of g.module call.header) at ≡ started
          → return_at place.troupe start (kept_after q) came call q
          ≡ shape call.header.server_incarnation (index_of g.module call.header) false g.required in_step started g.from (option_map reply_message (reply_of e.member.gathered (index_of g.module call.header)))
      owed_by g came call in_step started own requires from below is starts =
          ap (λ troupe. return_at troupe start (kept_after q) came call q) own
          ∙ (λ j. shape call.header.server_incarnation (index_of g.module call.header) (le-ltb at came below j) (requires j) (is j) (starts j) (from j) (reply_now g.module call j))

      -- of a call that was held before
      pub owed_held : (came : ℕ) (call : HeldCall) → came ≤ now p → reply_of d.member.gathered (index_of d.member.gathered.module call.header) ≡ None
          → return_at place.troupe start (kept_after q) came call q ≡ or_that (due d.member.gathered call) (option_map reply_message (reply_of e.member.gathered (index_of e.member.gathered.module call.header)))
      owed_held came call earlier fresh =
          let g = d.member.gathered in
          let before = may.1 in
          let own : g.module ≡ place.troupe = s.sound.own ∙ ap (λ (x : Place). x.troupe) (s.carried.place ∙ h.stands) in
          let runs = s.carried.runs in
          let grown : AreGrown at d.member.performing.kept.runs e.member.performing.kept.runs = subst (λ rs. AreGrown at rs e.member.performing.kept.runs) (sym runs) s.grown in
          let within : AreWithin (now p) d.member.performing.kept.runs = subst (AreWithin (now p)) (sym runs) h.within in
          owed_by g came call false (is_of_run g.module g.open_run call) (sym own) (sym s.knows.requires) (ap first_of (sym s.knows.phase_is) ∙ sym s.knows.from) (omega (arith, earlier, before))
          (ne_eqb came at (λ eq. absurd (omega (arith, earlier, before, eq))))
          (started_is at (now p) d.member.performing.kept e.member.performing.kept grown s.same.start before within g s.carried.linked call fresh)
          ∙ in_two (is_stale g g.required call) (is_before g g.from call) (stale_message g.required) (before_message g.from) (option_map reply_message (reply_of e.member.gathered (index_of g.module call.header)))
          ∙ ap (λ n. or_that (due g call) (option_map reply_message (reply_of e.member.gathered (index_of n call.header)))) (sym s.same.own)

      -- a call that waits is owed nothing yet
      waits_on : (call : HeldCall) → (nat_lt call.header.server_incarnation e.member.gathered.required ≡ false) ⊎ (was_started (kept_after q) (index_of e.member.gathered.module call.header) at ≡ true)
          → is_before e.member.gathered e.member.gathered.from call ≡ false → reply_of e.member.gathered (index_of e.member.gathered.module call.header) ≡ None → due e.member.gathered call ≡ None
      waits_on call reason not_before fresh =
          ap (λ b. if b then Some (stale_message g.required) else if is_before g g.from call then Some (before_message g.from) else None) (by_reason reason)
          ∙ ap (λ b. if b then Some (before_message g.from) else None) not_before
        where
          g : Gathered
          g = e.member.gathered

          later : (o : Option RunRecord) → option_map_or (λ (run : RunRecord). nat_lt run.started at) o false ≡ true → option_map_or (λ (run : RunRecord). nat_lt run.started (at + 1)) o false ≡ true
          later None is = cc
          later (Some run) is = let low = ltb-true run.started at is in lt-ltb run.started (at + 1) (omega (arith, low))

          by_reason : (nat_lt call.header.server_incarnation e.member.gathered.required ≡ false) ⊎ (was_started (kept_after q) (index_of e.member.gathered.module call.header) at ≡ true) → is_stale e.member.gathered e.member.gathered.required call ≡ false
          by_reason (inl new) = ap (λ b. b && not (is_of_run e.member.gathered.module e.member.gathered.open_run call)) new
          by_reason (inr started) =
              let kept = kept_after q in
              let i = index_of e.member.gathered.module call.header in
              let is_open : is_of_run e.member.gathered.module e.member.gathered.open_run call ≡ true =
              sym (started_is (at + 1) at kept kept (grown_same (at + 1) kept.runs) refl (omega arith) k.within e.member.gathered k.linked call fresh) ∙ later (run_of kept i) started in
              ap (λ b. nat_lt call.header.server_incarnation e.member.gathered.required && not b) is_open ∙ and_false (nat_lt call.header.server_incarnation e.member.gathered.required)

      -- ---- a call that came before

      pub earlier_same : (came : ℕ) (call : HeldCall) → return_owed place.troupe start (kept_after q) came call p ≡ return_owed place.troupe start (kept_after p) came call p
      earlier_same came call =
          let later = may.1 in
          sym (same_first (return_at place.troupe start (kept_after p) came call) (return_at place.troupe start (kept_after q) came call) (now p) p (rises declared turn first lawful place views beginning hosted p may.0) (omega arith)
          (λ r below. return_same at m.performing.kept e.member.performing.kept s.grown started_kept place.troupe start came call r (omega (arith, below, later))))

      -- what is owed once the step is over
      pub owed_then : (came : ℕ) (call : HeldCall) (before : Option (ℕ × List ℕ)) (last : Option (List ℕ)) → return_owed place.troupe start (kept_after q) came call p ≡ before → return_at place.troupe start (kept_after q) came call q ≡ last
          → return_owed place.troupe start (kept_after q) came call q ≡ or_else before (at_end q last)
      owed_then came call before last was is =
          first_is (return_at place.troupe start (kept_after q) came call) q ∙ ap (λ x. or_else x (at_end q (return_at place.troupe start (kept_after q) came call q))) was ∙ ap (λ x. or_else before (at_end q x)) is

      pub quiet_executed : (c : Caller) (old : List (List ℕ)) → IsQuiet c old d → IsQuiet c old e
      quiet_executed c old quiet = executed_keeps declared turn first lawful at (IsQuiet c old) (IsQuiet c old) (quiet_keeps c declared turn first lawful at old) d s.sound quiet

      -- it waits, or has the reply of its run
      either_executed : (came : ℕ) (call : HeldCall) → returns_to call.sender (makes p) ≡ [] → return_owed place.troupe start (kept_after q) came call p ≡ None
          → return_at place.troupe start (kept_after q) came call q ≡ option_map reply_message (reply_of e.member.gathered (index_of e.member.gathered.module call.header))
          → (reply_of e.member.gathered (index_of e.member.gathered.module call.header) ≡ None → due e.member.gathered call ≡ None)
          → Waits call.sender call d ⊎ HasReply call.sender call d → Awaits q came call ⊎ IsAnswered q came call
      either_executed came call none before last not_due fares =
          by_fate (executed_keeps declared turn first lawful at (λ x. Waits call.sender call x ⊎ HasReply call.sender call x) (λ x. Waits call.sender call x ⊎ HasReply call.sender call x) (replied_keeps call.sender declared turn first lawful at call) d s.sound fares)
        where
          by_fate : Waits call.sender call e ⊎ HasReply call.sender call e → Awaits q came call ⊎ IsAnswered q came call
          by_fate (inl w) =
              inl (record {
                held = w.held;
                requests = w.requests;
                fresh = w.fresh;
                not_due = not_due w.fresh;
                returns = made_more call.sender p at o [] [] none w.returns;
                owed = owed_then came call None None before (last ∙ ap (option_map reply_message) w.fresh);
              })
          by_fate (inr r) =
              inr (record {
                given = (at, reply_message r.reply);
                held = r.held;
                requests = r.requests;
                returns = made_more call.sender p at o [] (reply_message r.reply ∷ []) none r.returns;
                owed = owed_then came call None (Some (reply_message r.reply)) before (last ∙ ap (option_map reply_message) r.kept);
              })

      -- one that is owed nothing as it is handled, and has no reply behind the execution
      pub still_due : (call : HeldCall) → due d.member.gathered call ≡ None → reply_of d.member.gathered (index_of d.member.gathered.module call.header) ≡ None
          → reply_of e.member.gathered (index_of e.member.gathered.module call.header) ≡ None → due e.member.gathered call ≡ None
      still_due call not_due was_fresh fresh =
          let g = d.member.gathered in
          let no_case = neither (is_stale g g.required call) (is_before g g.from call) (stale_message g.required) (before_message g.from) not_due in
          waits_on call (by_incarnation (nat_lt call.header.server_incarnation g.required) refl no_case.0)
          ((λ j. nat_lt (index_of (s.same.own j) call.header) (s.same.from j)) ∙ no_case.1) fresh
        where
          before : now p < at
          before = may.1

          grown : AreGrown at d.member.performing.kept.runs e.member.performing.kept.runs
          grown = subst (λ rs. AreGrown at rs e.member.performing.kept.runs) (sym s.carried.runs) s.grown

          within : AreWithin (now p) d.member.performing.kept.runs
          within = subst (AreWithin (now p)) (sym s.carried.runs) h.within

          of_run : (b : Bool) → (true && not b) ≡ false → b ≡ true
          of_run true is = refl
          of_run false is = cc

          by_incarnation : (b : Bool) → nat_lt call.header.server_incarnation d.member.gathered.required ≡ b → is_stale d.member.gathered d.member.gathered.required call ≡ false
              → (nat_lt call.header.server_incarnation e.member.gathered.required ≡ false) ⊎ (was_started (kept_after q) (index_of e.member.gathered.module call.header) at ≡ true)
          by_incarnation false is stale = inl (ap (nat_lt call.header.server_incarnation) s.same.required ∙ is)
          by_incarnation true is stale =
              let g = d.member.gathered in
              let is_open : is_of_run g.module g.open_run call ≡ true = of_run (is_of_run g.module g.open_run call) (sym (ap (λ b. b && not (is_of_run g.module g.open_run call)) is) ∙ stale) in
              inr (ap (λ n. was_started (kept_after q) (index_of n call.header) at) s.same.own
              ∙ started_is at (now p) d.member.performing.kept e.member.performing.kept grown s.same.start before within g s.carried.linked call was_fresh ∙ is_open)

      fares_on : (came : ℕ) (call : HeldCall) → is_by call.sender o ≡ false → Fares p (came, call) → Fares q (came, call)
      fares_on came call other fares = (omega (arith, fares.0, may.1), by_fate fares.1)
        where
          by_told : Awaits p came call → IsTold call.sender m call d ⊎ WaitsOn call.sender m call d → Awaits q came call ⊎ IsAnswered q came call
          by_told a (inl t) =
              let quiet = quiet_executed call.sender (t.message ∷ []) t.quiet in
              let fresh : reply_of d.member.gathered (index_of d.member.gathered.module call.header) ≡ None = told_fresh call.sender m at o call other a.fresh in
              inr (record {
                given = (at, t.message);
                held = quiet.held;
                requests = quiet.requests;
                returns = made_more call.sender p at o [] (t.message ∷ []) a.returns quiet.returns;
                owed = owed_then came call None (Some t.message) (earlier_same came call ∙ a.owed)
                    (owed_held came call fares.0 fresh ∙ ap (λ x. or_that x (option_map reply_message (reply_of e.member.gathered (index_of e.member.gathered.module call.header)))) t.is_due);
              })
          by_told a (inr w) =
              either_executed came call a.returns (earlier_same came call ∙ a.owed)
              (owed_held came call fares.0 w.waits.fresh ∙ ap (λ x. or_that x (option_map reply_message (reply_of e.member.gathered (index_of e.member.gathered.module call.header)))) w.not_due)
              (still_due call w.not_due w.waits.fresh) (inl w.waits)

          by_fate : Awaits p came call ⊎ IsAnswered p came call → Awaits q came call ⊎ IsAnswered q came call
          by_fate (inl a) = by_told a (waits_handled call.sender m at o call other a.held a.requests a.fresh a.not_due)
          by_fate (inr a) =
              let quiet = quiet_executed call.sender [] (quiet_handled call.sender m at o other a.held a.requests) in
              inr (record {
                given = a.given;
                held = quiet.held;
                requests = quiet.requests;
                returns = made_more call.sender p at o (a.given ∷ []) [] a.returns quiet.returns;
                owed = owed_then came call (Some a.given) (return_at place.troupe start (kept_after q) came call q) (earlier_same came call ∙ a.owed) refl;
              })

      -- ---- who made no call

      silent_on : (c : Caller) → is_by c o ≡ false → IsSilent c p → IsSilent c q
      silent_on c other silent =
          let quiet = quiet_executed c [] (quiet_handled c m at o other silent.held silent.requests) in
          record { held = quiet.held; requests = quiet.requests; returns = made_more c p at o [] [] silent.returns quiet.returns }

    -- ---- a call that comes

    module _ (p : Past) (at : ℕ) (call : HeldCall) where
      abbrev comes_now : Occurrence
      comes_now = comes.Asked call.header call.body call.sender

      module _ (may : MayLive declared turn first place views beginning hosted (followed p at comes_now)) where
        pub was_known : IsKnown declared turn first lawful place views beginning hosted p (life p)
        was_known = h p at comes_now may

        pub is_stepped : IsStepped declared turn first lawful place views beginning hosted p at comes_now
        is_stepped = s p at comes_now may

        pub required_same : (e p at comes_now may).member.gathered.required ≡ (life p).gathered.required
        required_same = is_stepped.same.required ∙ is_stepped.knows.requires ∙ sym was_known.knows.requires

        pub from_same : (e p at comes_now may).member.gathered.from ≡ (life p).gathered.from
        from_same = is_stepped.same.from ∙ is_stepped.knows.from ∙ ap first_of (is_stepped.knows.phase_is ∙ sym was_known.knows.phase_is) ∙ sym was_known.knows.from

        pub own : (life p).gathered.module ≡ place.troupe
        own = was_known.sound.own ∙ ap (λ (x : Place). x.troupe) was_known.stands

        pub own_same : (e p at comes_now may).member.gathered.module ≡ (life p).gathered.module
        own_same = is_stepped.same.own ∙ is_stepped.sound.own ∙ ap (λ (x : Place). x.troupe) (is_stepped.carried.place ∙ was_known.stands) ∙ sym own

        pub none_owed : return_owed place.troupe start (kept_after (followed p at comes_now)) at call p ≡ None
        none_owed =
            let later = may.1 in
            none_first (return_at place.troupe start (kept_after (followed p at comes_now)) at call) (now p) p (rises declared turn first lawful place views beginning hosted p may.0) (omega arith)
            (λ r below. ap (λ b. shape call.header.server_incarnation (index_of place.troupe call.header) b (required_incarnation r) (nat_eq at (now r)) (was_started (kept_after (followed p at comes_now)) (index_of place.troupe call.header) (now r)) (first_of (phase start r)) (reply_by place.troupe start (kept_after (followed p at comes_now)) call r)) (lt-ltb (now r) at (omega (arith, below, later))))

        pub owed_new : return_at place.troupe start (kept_after (followed p at comes_now)) at call (followed p at comes_now)
            ≡ or_that (due_now (life p).gathered call) (option_map reply_message (reply_of (e p at comes_now may).member.gathered (index_of (e p at comes_now may).member.gathered.module call.header)))
        owed_new =
            let g = (life p).gathered in
            let last = reply_of (e p at comes_now may).member.gathered (index_of g.module call.header) in
            owed_by p at comes_now may g at call true (was_started (kept_after (followed p at comes_now)) (index_of g.module call.header) at) (sym own) (sym was_known.knows.requires) (ap first_of (sym was_known.knows.phase_is) ∙ sym was_known.knows.from) (omega arith) (eq-eqb at at refl) refl
            ∙ ap (λ b. if b then Some (stale_message g.required) else if is_before g g.from call then Some (before_message g.from) else option_map reply_message last) (and_true (nat_lt call.header.server_incarnation g.required))
            ∙ in_two (nat_lt call.header.server_incarnation g.required) (is_before g g.from call) (stale_message g.required) (before_message g.from) (option_map reply_message last)
            ∙ ap (λ n. or_that (due_now g call) (option_map reply_message (reply_of (e p at comes_now may).member.gathered (index_of n call.header)))) (sym own_same)

        -- it is owed nothing behind the execution, where it was held and has no reply
        pub new_not_due : due_now (life p).gathered call ≡ None → reply_of (e p at comes_now may).member.gathered (index_of (e p at comes_now may).member.gathered.module call.header) ≡ None
            → due (e p at comes_now may).member.gathered call ≡ None
        new_not_due not_due fresh =
            let g = (life p).gathered in
            let no_case = neither (nat_lt call.header.server_incarnation g.required) (is_before g g.from call) (stale_message g.required) (before_message g.from) not_due in
            waits_on p at comes_now may call (inl (ap (nat_lt call.header.server_incarnation) required_same ∙ no_case.0)) ((λ j. nat_lt (index_of (own_same j) call.header) (from_same j)) ∙ no_case.1) fresh

        fares_now : IsSilent call.sender p → Fares (followed p at comes_now) (at, call)
        fares_now silent = (omega arith, by_fate (asked_handled (life p) call (is_caller-refl call.sender) silent.held silent.requests))
          where
            by_fate : IsRefused (life p) call (d p at comes_now may) ⊎ IsTaken (life p) call (d p at comes_now may) → Awaits (followed p at comes_now) at call ⊎ IsAnswered (followed p at comes_now) at call
            by_fate (inl r) =
                let quiet = quiet_executed p at comes_now may call.sender (r.message ∷ []) r.quiet in
                inr (record {
                  given = (at, r.message);
                  held = quiet.held;
                  requests = quiet.requests;
                  returns = made_more call.sender p at comes_now [] (r.message ∷ []) silent.returns quiet.returns;
                  owed = owed_then p at comes_now may at call None (Some r.message) none_owed
                      (owed_new ∙ ap (λ x. or_that x (option_map reply_message (reply_of (e p at comes_now may).member.gathered (index_of (e p at comes_now may).member.gathered.module call.header)))) r.is_due);
                })
            by_fate (inr t) =
                either_executed p at comes_now may at call silent.returns none_owed
                (owed_new ∙ ap (λ x. or_that x (option_map reply_message (reply_of (e p at comes_now may).member.gathered (index_of (e p at comes_now may).member.gathered.module call.header)))) t.not_due)
                (new_not_due t.not_due)
                t.fares

    -- ---- over a past

    quiet_before : (c : Caller) (b : Beginning) → IsQuiet c [] (begun (at_boot declared turn first lawful place views hosted home b))
    quiet_before c Founder = record { returns = refl; held = refl; requests = refl }
    quiet_before c Spare = record { returns = refl; held = refl; requests = refl }

    pub silent : (c : Caller) (p : Past) → MayLive declared turn first place views beginning hosted p → IsNew c p → IsSilent c p
    silent c booted may new =
        let quiet = booted_keeps declared turn first lawful place views hosted home (IsQuiet c []) (IsQuiet c []) (quiet_keeps c declared turn first lawful 0 []) beginning (quiet_before c beginning) in
        record {
          held = quiet.held;
          requests = quiet.requests;
          returns = returns_in c 0 (boots declared turn first place views beginning hosted).effects ∙ ap (map (λ (m : List ℕ). (0, m))) quiet.returns;
        }
    silent c (followed p at o) may new = silent_on p at o may c (new_now c p at o new) (silent c p may.0 (new_before c p at o new))

    -- those that came before fare on
    all_on : (p : Past) (at : ℕ) (o : Occurrence) → MayLive declared turn first place views beginning hosted (followed p at o) → AreDistinct (followed p at o) → All (Fares p) (asks p) → All (Fares (followed p at o)) (asks p)
    all_on p at o may distinct all =
        All-zip (λ (x : ℕ × HeldCall). is_by x.1.sender o ≡ false) (Fares p) (Fares (followed p at o)) (λ x other fares. fares_on p at o may x.0 x.1 other fares) (asks p) (other_asks p at o distinct) all

    fares : (p : Past) → MayLive declared turn first place views beginning hosted p → AreDistinct p → All (Fares p) (asks p)
    fares booted may distinct = All-nil (Fares booted)
    fares (followed p at (comes.Asked header body sender)) may distinct =
        let call : HeldCall = record { header = header; body = body; sender = sender } in
        let o = comes.Asked header body sender in
        All-push (Fares (followed p at o)) (asks p) (at, call) (all_on p at o may distinct (fares p may.0 distinct.0))
        (fares_now p at call may (silent sender p may.0 (new_caller p sender distinct.1)))
    fares (followed p at (comes.Fetched incarnation sender)) may distinct = all_on p at (comes.Fetched incarnation sender) may distinct (fares p may.0 distinct.0)
    fares (followed p at (comes.Replied name from reply)) may distinct = all_on p at (comes.Replied name from reply) may distinct (fares p may.0 distinct)
    fares (followed p at (comes.IsStale name server from incarnation)) may distinct = all_on p at (comes.IsStale name server from incarnation) may distinct (fares p may.0 distinct)
    fares (followed p at (comes.IsBefore name from)) may distinct = all_on p at (comes.IsBefore name from) may distinct (fares p may.0 distinct)
    fares (followed p at (comes.Told request table)) may distinct = all_on p at (comes.Told request table) may distinct (fares p may.0 distinct)
    fares (followed p at (comes.Restored state count)) may distinct = all_on p at (comes.Restored state count) may distinct (fares p may.0 distinct)
    fares (followed p at (comes.Declared node)) may distinct = all_on p at (comes.Declared node) may distinct (fares p may.0 distinct)
    fares (followed p at comes.Joins) may distinct = all_on p at comes.Joins may distinct (fares p may.0 distinct)

    pub returned_all : (p : Past) → MayLive declared turn first place views beginning hosted p → AreDistinct p → All (IsReturned place.troupe start (kept_after p) p (makes p)) (asks p)
    returned_all p may distinct = All-weaker (Fares p) (IsReturned place.troupe start (kept_after p) p (makes p)) (λ x f. by_fate x f.1) (asks p) (fares p may distinct)
      where
        by_fate : (x : ℕ × HeldCall) → Awaits p x.0 x.1 ⊎ IsAnswered p x.0 x.1 → IsReturned place.troupe start (kept_after p) p (makes p) x
        by_fate x (inl a) = a.returns ∙ sym (ap at_most_one a.owed)
        by_fate x (inr a) = a.returns ∙ sym (ap at_most_one a.owed)
