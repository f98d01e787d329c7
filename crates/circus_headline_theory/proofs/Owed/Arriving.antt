-- The calls that wait are those that came and have no return, as they came; which of them get one in a step, and in which part of it.
use Rattle.std.proofs.Common.{◌≡◌, ℕ, ◌-◌, ◌<◌, ◌≤◌, Bool, true, false, ◌&&◌, ◌||◌, not, ◌⊎◌, inl, inr, cond, if◌then◌else◌, List, [], ◌∷◌, ◌++◌, map, filter, All, Option, Some, None, refl, sym, ap, subst, ◌∙◌, arith, append-nil}
use Rattle.std.specs.Prelude.{slice_get, nat_eq, nat_lt, nat_le, IfSome, is_some, is_none, option_map, option_and_then}
use Rattle.std.specs.List.{flat_map}
use Rattle.std.specs.Map.{lookup}
use Rattle.std.specs.Option.{option_map_or}
use Rattle.std.proofs.lemmas.Bool.{le-leb, lt-leb, eq-eqb, ne_eqb}
use Rattle.std.proofs.lemmas.Bool.Decides.{eqb_tells}
use Rattle.std.proofs.lemmas.List.{map-append}
use Rattle.std.proofs.lemmas.List.Concat.{flat_map-append}
use Rattle.std.proofs.lemmas.List.Elements.{All-nil, All-push, All-append, All-weaker, filter-append}
use Rattle.circus_value.specs.ValueTree.{ValueTree}
use Rattle.circus_value.specs.declared.caller.Caller.{Caller}
use Rattle.circus_value.specs.declared.outcome.Outcome.{Outcome}
use Rattle.circus_header.specs.declared.answer.Reply.{Reply}
use Rattle.circus_collate.specs.declared.view.View.{View}
use Rattle.circus_transfer.specs.declared.joiner.Joiner.{Joiner}
use Rattle.circus_model.specs.declared.signature.Signature.{Signature}
use Rattle.circus_model.specs.NextTurn.{NextTurn}
use Rattle.circus_model.specs.Behaviour.{IsModule}
use Rattle.circus_record.specs.declared.record.MemberRecord.{MemberRecord}
use Rattle.circus_record.specs.declared.record.RunRecord.{RunRecord}
use Rattle.circus_gather.specs.Gathering as gathering
use Rattle.circus_gather.specs.Gathering.{Gathered, index_of, reply_of, is_of_run, is_held, callers}
use Rattle.circus_gather.specs.declared.added.Added.TheVariants as added
use Rattle.circus_gather.specs.declared.held.HeldCall.{HeldCall}
use Rattle.circus_performing.specs.Record.{behaviour}
use Rattle.circus_member_rules.specs.declared.place.Place.{Place}
use Rattle.circus_member_rules.specs.declared.place.Beginning.{Beginning}
use Rattle.circus_member_rules.specs.declared.place.Beginning.TheVariants.{Founder, Spare}
use Rattle.circus_member_rules.specs.declared.occurrence.Effect.{Effect}
use Rattle.circus_member_rules.specs.declared.occurrence.Occurrence.{Occurrence}
use Rattle.circus_member_rules.specs.declared.occurrence.Occurrence.TheVariants as comes
use Rattle.circus_member_rules.specs.Messages.{reply_message, stale_message, before_message}
use Rattle.circus_member_rules.specs.Rules.{answer, message_at_once, answer_at_once}
use Rattle.circus_member_rules.specs.Happening.{IsHome}
use Rattle.circus_member_rules.specs.MemberState.{MemberState, Doing}
use Rattle.circus_member_rules.specs.Step.{reply_of_run}
use Rattle.circus_member_theory.proofs.Resting.{at_boot}
use Rattle.circus_world_theory.proofs.Border.Going.{begun}
use Rattle.circus_member_theory.specs.Past.{Past, booted, followed, now, Rises}
use Rattle.circus_member_theory.specs.First.{at_end, or_else, first_given}
use Rattle.circus_member_theory.specs.Living.{phase_at_boot, after, MayLive}
use Rattle.circus_member_theory.proofs.Timely.Firsts.{first_is}
use Rattle.circus_member_theory.specs.Made.{asks}
use Rattle.circus_member_theory.specs.Order.{if_now, ends_now, is_answered_by_end, returns_now, returns_at_once}
use Rattle.circus_member_theory.specs.Returns.{first_of, run_of, was_started, is_stale, is_before, reply_by, return_at, return_owed}
use Rattle.circus_headline_theory.proofs.Owed.AtOnce.{at_once, held_now, answered_now, Sorts, sorts}
use Rattle.circus_headline_theory.proofs.Owed.Booting.{booted_keeps}
use Rattle.circus_headline_theory.proofs.Owed.Going.{executed_keeps}
use Rattle.circus_headline_theory.proofs.Owed.Grown.{EndsAt, Grown, AreGrown}
use Rattle.circus_headline_theory.proofs.Owed.Handling.{due, due_now}
use Rattle.circus_headline_theory.proofs.Owed.Lives.{rises, IsKnown, handles, executes, IsStepped, step_is, known}
use Rattle.circus_headline_theory.proofs.Owed.Moments.{all_pass}
use Rattle.circus_headline_theory.proofs.Owed.Passing.{same_passing, passing_both, passing_through, same_flat, flat_passing, flat_through, answers_to}
use Rattle.circus_headline_theory.proofs.Owed.Performed.{has_none, WaitOn, WaitIn, wait_keeps, IsReplied, reply_keeps}
use Rattle.circus_headline_theory.proofs.Owed.Returned.{or_that, reply_now, owed_held, earlier_same, owed_then, still_due, none_owed, owed_new, new_not_due}
use Rattle.circus_headline_theory.proofs.Owed.Status.{IsWithin, AreWithin, reply_in, reply_is, run_grown, started_is}

-- ---- what was given first came by the end

pub first_low : {A : Type 0} (gives : Past → Option A) (p : Past) → Rises p → (given : ℕ × A) → first_given gives p ≡ Some given → given.0 ≤ now p
first_low {A} gives booted rises given is = by_end (gives booted) (sym (first_is gives booted) ∙ is)
  where
    by_end : (o : Option A) → at_end booted o ≡ Some given → given.0 ≤ 0
    by_end None none = cc
    by_end (Some a) some = let same = ap (λ o. option_map_or (λ (x : ℕ × A). x.0) o 0) some in omega (arith, same)
first_low {A} gives (followed p step o) rises given is =
    by_both (first_low gives p rises.0 given) (first_given gives p) refl (gives (followed p step o)) (sym (first_is gives (followed p step o)) ∙ is)
  where
    by_both : (first_given gives p ≡ Some given → given.0 ≤ now p) → (before : Option (ℕ × A)) → first_given gives p ≡ before → (last : Option A)
        → or_else before (at_end (followed p step o) last) ≡ Some given → given.0 ≤ step
    by_both rest None was None none = cc
    by_both rest None was (Some a) some = let same = ap (λ o. option_map_or (λ (x : ℕ × A). x.0) o 0) some in omega (arith, same)
    by_both rest (Some x) was last some = let low = rest (was ∙ some) in let later = rises.1 in omega (arith, low, later)

-- ---- tests

-- the return with a message, where there is one
abbrev pub back_to : HeldCall → Option (List ℕ) → List Effect
back_to call o = option_map_or (λ (message : List ℕ). answer message call.sender ∷ []) o []

pub now_is : (q : Past) (c : Caller) (o : Option (List ℕ)) → if_now q c (at_end q o) ≡ option_map_or (λ (message : List ℕ). answer message c ∷ []) o []
now_is q c None = refl
now_is q c (Some message) = ap (λ b. if b then answer message c ∷ [] else []) (eq-eqb (now q) (now q) refl)

pub not_now : (q : Past) (c : Caller) (given : ℕ × List ℕ) → given.0 < now q → if_now q c (Some given) ≡ []
not_now q c given low = ap (λ b. if b then answer given.1 c ∷ [] else []) (ne_eqb given.0 (now q) (λ eq. absurd (omega (arith, low, eq))))

pub nothing : {A : Type 0} (b : Bool) → let l : List A = if b then [] else [] in l ≡ []
nothing true = refl
nothing false = refl

and_true : (b : Bool) → (b && true) ≡ b
and_true true = refl
and_true false = refl

and_false : (b : Bool) → (b && false) ≡ false
and_false true = refl
and_false false = refl

-- whether one of two tests applies
both_tests : (stale before ends : Bool) (one two : List ℕ) → (not stale && not before && ends) ≡ (is_none (if stale then Some one else if before then Some two else None) && ends)
both_tests true before ends one two = refl
both_tests false true ends one two = refl
both_tests false false ends one two = refl

-- what is returned at once, and as a run ends
first_form : (call : HeldCall) (owing reply : Option (List ℕ)) → (if not (is_none owing && is_some reply) then back_to call (or_that owing reply) else []) ≡ back_to call owing
first_form call None None = refl
first_form call None (Some r) = refl
first_form call (Some d) reply = refl

second_form : (call : HeldCall) (owing reply : Option (List ℕ)) (t : Bool)
    → (if (is_none owing && is_some reply) && t then back_to call (or_that owing reply) else []) ≡ (if is_none owing then (if t then back_to call reply else []) else [])
second_form call None None t = sym (nothing t)
second_form call None (Some r) t = refl
second_form call (Some d) reply t = refl

third_form : (q : Past) (owing reply : Option (List ℕ)) → is_none (at_end q (or_that owing reply)) ≡ (is_none owing && is_none reply)
third_form q None None = refl
third_form q None (Some r) = refl
third_form q (Some d) reply = refl

neither_there : (q : Past) (owing reply : Option (List ℕ)) → at_end q (or_that owing reply) ≡ None → (owing ≡ None) × (reply ≡ None)
neither_there q None None is = (refl, refl)
neither_there q None (Some r) is = cc
neither_there q (Some d) reply is = cc

by_pass : (call : HeldCall) (message : List ℕ) (b : Bool) → back_to call (if b then Some message else None) ≡ (if b then answer message call.sender ∷ [] else [])
by_pass call message true = refl
by_pass call message false = refl

none_by : (message : List ℕ) (b : Bool) → is_none (if b then Some message else None) ≡ not b
none_by message true = refl
none_by message false = refl

none_shown : (o : Option Reply) → is_none (option_map reply_message o) ≡ is_none o
none_shown None = refl
none_shown (Some r) = refl

no_reply : (o : Option Reply) → option_map reply_message o ≡ None → o ≡ None
no_reply None is = refl
no_reply (Some r) is = cc

or_none : (o : Option (List ℕ)) → or_that o None ≡ o
or_none None = refl
or_none (Some x) = refl

-- ---- what came

abbrev pub came_by : ℕ → Occurrence → List (ℕ × HeldCall)
came_by at (comes.Asked header body sender) =
    let call : HeldCall = record { header = header; body = body; sender = sender } in
    (at, call) ∷ []
came_by at _ = []

asks_more : (p : Past) (at : ℕ) (o : Occurrence) → asks (followed p at o) ≡ asks p ++ came_by at o
asks_more p at (comes.Asked header body sender) = refl
asks_more p at (comes.Fetched incarnation sender) = sym (append-nil (asks p))
asks_more p at (comes.Replied name from reply) = sym (append-nil (asks p))
asks_more p at (comes.IsStale name server from incarnation) = sym (append-nil (asks p))
asks_more p at (comes.IsBefore name from) = sym (append-nil (asks p))
asks_more p at (comes.Told request table) = sym (append-nil (asks p))
asks_more p at (comes.Restored state count) = sym (append-nil (asks p))
asks_more p at (comes.Declared node) = sym (append-nil (asks p))
asks_more p at comes.Joins = sym (append-nil (asks p))

-- ---- the run of an index ends

-- by a run and what a step made of it
module _ (at : ℕ) (p q : Past) (before : now p < at) (last : now q ≡ at) where
  ends_by : (r : RunRecord) → EndsAt at r → option_map_or (nat_eq (now q)) r.ended false ≡ is_some (reply_in q r)
  ends_by r (inl none) =
      (λ j. option_map_or (nat_eq (now q)) (none j) false)
      ∙ sym (ap (λ o. is_some (if option_map_or (λ s. nat_le s (now q)) o false then Some (reply_message (reply_of_run r)) else None)) none)
  ends_by r (inr some) =
      (λ j. option_map_or (nat_eq (now q)) (some j) false) ∙ eq-eqb (now q) at last
      ∙ sym (ap (λ o. is_some (if option_map_or (λ s. nat_le s (now q)) o false then Some (reply_message (reply_of_run r)) else None)) some
      ∙ ap (λ b. is_some (if b then Some (reply_message (reply_of_run r)) else None)) (le-leb at (now q) (omega (arith, last))))

  -- an end by then would be a reply
  not_ended : (r : RunRecord) → IfSome r.ended (λ step. step ≤ now p) → reply_in p r ≡ None → r.ended ≡ None
  not_ended r within none = by_end r.ended within none
    where
      by_end : (o : Option ℕ) → IfSome o (λ step. step ≤ now p) → let m : Option (List ℕ) = if option_map_or (λ s. nat_le s (now p)) o false then Some (reply_message (reply_of_run r)) else None in m ≡ None → o ≡ None
      by_end None low is = refl
      by_end (Some s) low is = absurd (there (sym (ap (λ b. if b then Some (reply_message (reply_of_run r)) else None) (le-leb s (now p) low)) ∙ is))
        where
          there : Some (reply_message (reply_of_run r)) ≡ None → ⊥
          there eq = cc

  -- where it had no reply before
  ends_fresh : (o n : Option RunRecord) → IfSome o (IsWithin (now p)) → Grown at o n → option_and_then (reply_in p) o ≡ None
      → option_map_or (λ (run : RunRecord). option_map_or (nat_eq (now q)) run.ended false) n false ≡ is_some (option_and_then (reply_in q) n)
  ends_fresh o None within grown none = refl
  ends_fresh None (Some r) within grown none = ends_by r grown.ends
  ends_fresh (Some old) (Some r) within (inl same) none = ends_by r (inl (sym (ap (λ (x : RunRecord). x.ended) same) ∙ not_ended old within.1 none))
  ends_fresh (Some old) (Some r) within (inr gone) none = ends_by r gone.ends

  -- where it had one
  ends_earlier : (o n : Option RunRecord) (message : List ℕ) → Grown at o n → option_and_then (reply_in p) o ≡ Some message
      → option_map_or (λ (run : RunRecord). option_map_or (nat_eq (now q)) run.ended false) n false ≡ false
  ends_earlier None n message grown some = cc
  ends_earlier (Some old) None message grown some = refl
  ends_earlier (Some old) (Some r) message (inl same) some = ap (λ (x : RunRecord). option_map_or (nat_eq (now q)) x.ended false) (sym same) ∙ by_end old.ended some
    where
      by_end : (o : Option ℕ) → let m : Option (List ℕ) = if option_map_or (λ s. nat_le s (now p)) o false then Some (reply_message (reply_of_run old)) else None in m ≡ Some message → option_map_or (nat_eq (now q)) o false ≡ false
      by_end None is = refl
      by_end (Some s) is = by_test (eqb_tells (now q) s)
        where
          by_test : ((nat_eq (now q) s ≡ true) × (now q ≡ s)) ⊎ ((nat_eq (now q) s ≡ false) × ((now q ≡ s) → ⊥)) → nat_eq (now q) s ≡ false
          by_test (inr other) = other.0
          by_test (inl eq) =
              let here = eq.1 in
              absurd (there (sym (ap (λ b. if b then Some (reply_message (reply_of_run old)) else None) (lt-leb s (now p) (omega (arith, here, last, before)))) ∙ is))
            where
              there : None ≡ Some message → ⊥
              there none = cc
  ends_earlier (Some old) (Some r) message (inr gone) some =
      absurd (there (sym (ap (λ o. if option_map_or (λ s. nat_le s (now p)) o false then Some (reply_message (reply_of_run old)) else None) gone.was_open) ∙ some))
    where
      there : None ≡ Some message → ⊥
      there none = cc

-- ---- a member

module _ {M : Type 0} (declared : M → Signature) (turn : M → List ValueTree → ℕ → List ValueTree → List Outcome → NextTurn) (first : M → List ValueTree) (lawful : (hosted : M) → IsModule (behaviour declared turn first hosted)) (place : Place) (views : List View) (beginning : Beginning) (hosted : M) where
  abbrev start : Joiner
  start = phase_at_boot beginning

  abbrev life : Past → MemberState M
  life p = after declared turn first place views beginning hosted p

  abbrev kept_after : Past → MemberRecord
  kept_after p = (life p).performing.kept

  abbrev pub owes : MemberRecord → ℕ × HeldCall → Past → Option (ℕ × List ℕ)
  owes kept x p = return_owed place.troupe start kept x.0 x.1 p

  -- a call is owed no return by then
  abbrev pub waits : MemberRecord → Past → ℕ × HeldCall → Bool
  waits kept p x = is_none (owes kept x p)

  -- while it waits it has no reply, and none of the cases applies
  abbrev pub Fares : Past → ℕ × HeldCall → Type 0
  Fares p x =
      (x.0 ≤ now p)
      × (owes (kept_after p) x p ≡ None → (reply_of (life p).gathered (index_of (life p).gathered.module x.1.header) ≡ None) × (due (life p).gathered x.1 ≡ None))

  pub record AreHeld (p : Past) : Type 0 where
    pub held : (life p).gathered.held ≡ map (λ (x : ℕ × HeldCall). x.1) (filter (waits (kept_after p) p) (asks p))
    pub fares : All (Fares p) (asks p)

  module _ (home : IsHome (declared hosted) place views) where
    module _ (p : Past) (at : ℕ) (o : Occurrence) (may : MayLive declared turn first place views beginning hosted (followed p at o)) where
      abbrev m : MemberState M
      m = life p

      abbrev q : Past
      q = followed p at o

      abbrev d : Doing M
      d = handles declared turn first lawful place views beginning hosted p at o

      abbrev e : Doing M
      e = executes declared turn first lawful place views beginning hosted p at o

      h : IsKnown declared turn first lawful place views beginning hosted p m
      h = known declared turn first lawful place views beginning hosted home p may.0

      s : IsStepped declared turn first lawful place views beginning hosted p at o
      s = step_is declared turn first lawful place views beginning hosted home p at o may h

      k : IsKnown declared turn first lawful place views beginning hosted q (life q)
      k = known declared turn first lawful place views beginning hosted home q may

      -- what is returned to a call in this step, whether as its run ends, and the reply of that
      abbrev pub returns_of : ℕ × HeldCall → List Effect
      returns_of x = if_now q x.1.sender (owes (kept_after q) x q)

      abbrev pub by_end : ℕ × HeldCall → Bool
      by_end x = is_answered_by_end place views start (first hosted) (kept_after q) q x

      abbrev pub reply_then : HeldCall → Option (List ℕ)
      reply_then call = reply_by place.troupe start (kept_after q) call q

      pub own : d.member.gathered.module ≡ place.troupe
      own = s.sound.own ∙ ap (λ (x : Place). x.troupe) (s.carried.place ∙ h.stands)

      reply_then_is : (call : HeldCall) → reply_then call ≡ option_map reply_message (reply_of e.member.gathered (index_of e.member.gathered.module call.header))
      reply_then_is call =
          reply_now declared turn first lawful place views beginning hosted home p at o may place.troupe call
          ∙ ap (λ n. option_map reply_message (reply_of e.member.gathered (index_of n call.header))) (sym (s.same.own ∙ own))

      -- ---- its run

      within : AreWithin (now p) d.member.performing.kept.runs
      within = subst (AreWithin (now p)) (sym s.carried.runs) h.within

      grown : AreGrown at d.member.performing.kept.runs e.member.performing.kept.runs
      grown = subst (λ rs. AreGrown at rs e.member.performing.kept.runs) (sym s.carried.runs) s.grown

      reply_before : (call : HeldCall) → option_and_then (reply_in p) (run_of d.member.performing.kept (index_of place.troupe call.header)) ≡ option_map reply_message (reply_of d.member.gathered (index_of d.member.gathered.module call.header))
      reply_before call =
          reply_is (behaviour declared turn first d.member.performing.hosted) d.member.performing.began d.member.gathered d.member.performing.kept s.sound.kept s.carried.linked p within place.troupe start call
          ∙ ap (λ n. option_map reply_message (reply_of d.member.gathered (index_of n call.header))) (sym own)

      run_within : (i : ℕ) → IfSome (run_of d.member.performing.kept i) (IsWithin (now p))
      run_within i = by_test (nat_lt i d.member.performing.kept.from)
        where
          by_test : (t : Bool) → let r : Option RunRecord = if t then None else slice_get d.member.performing.kept.runs (i - d.member.performing.kept.from) in IfSome r (IsWithin (now p))
          by_test true = tt
          by_test false = within (i - d.member.performing.kept.from)

      pub ends_as : (call : HeldCall) → reply_of d.member.gathered (index_of d.member.gathered.module call.header) ≡ None
          → ends_now place views start (first hosted) (kept_after q) q (index_of place.troupe call.header) ≡ is_some (reply_then call)
      ends_as call fresh =
          let i = index_of place.troupe call.header in
          ends_fresh at p q may.1 refl (run_of d.member.performing.kept i) (run_of e.member.performing.kept i) (run_within i)
          (run_grown at d.member.performing.kept e.member.performing.kept grown (inl s.same.start) i) (reply_before call ∙ ap (option_map reply_message) fresh)

      ends_not : (call : HeldCall) (reply : Reply) → reply_of d.member.gathered (index_of d.member.gathered.module call.header) ≡ Some reply
          → ends_now place views start (first hosted) (kept_after q) q (index_of place.troupe call.header) ≡ false
      ends_not call reply is =
          let i = index_of place.troupe call.header in
          ends_earlier at p q may.1 refl (run_of d.member.performing.kept i) (run_of e.member.performing.kept i) (reply_message reply)
          (run_grown at d.member.performing.kept e.member.performing.kept grown (inl s.same.start) i) (reply_before call ∙ ap (option_map reply_message) is)

      -- ---- a call that waited before

      stale_is : (came : ℕ) (call : HeldCall) → came ≤ now p → reply_of d.member.gathered (index_of d.member.gathered.module call.header) ≡ None
          → is_stale place.troupe start (kept_after q) came call q ≡ gathering.is_stale d.member.gathered d.member.gathered.required call
      stale_is came call low fresh =
          let g = d.member.gathered in
          let later = may.1 in
          let other : nat_eq came at ≡ false = ne_eqb came at (λ eq. absurd (omega (arith, low, later, eq))) in
          let starts : was_started (kept_after q) (index_of place.troupe call.header) at ≡ is_of_run g.module g.open_run call =
          ap (λ n. was_started (kept_after q) (index_of n call.header) at) (sym own)
          ∙ started_is at (now p) d.member.performing.kept e.member.performing.kept grown s.same.start may.1 within g s.carried.linked call fresh in
          (λ j. nat_lt call.header.server_incarnation (sym s.knows.requires j) && (other j || not (starts j)))

      before_is : (call : HeldCall) → is_before place.troupe start (kept_after q) call q ≡ gathering.is_before d.member.gathered d.member.gathered.from call
      before_is call = (λ j. nat_lt (index_of (sym own j) call.header) ((ap first_of (sym s.knows.phase_is) ∙ sym s.knows.from) j))

      by_end_is : (came : ℕ) (call : HeldCall) → came ≤ now p → reply_of d.member.gathered (index_of d.member.gathered.module call.header) ≡ None
          → by_end (came, call) ≡ (is_none (due d.member.gathered call) && is_some (reply_then call))
      by_end_is came call low fresh =
          let g = d.member.gathered in
          let stale = stale_is came call low fresh in
          let before = before_is call in
          let ends = ends_as call fresh in
          (λ j. not (stale j) && not (before j) && ends j)
          ∙ both_tests (gathering.is_stale g g.required call) (gathering.is_before g g.from call) (is_some (reply_then call)) (stale_message g.required) (before_message g.from)

      owed_is : (came : ℕ) (call : HeldCall) → came ≤ now p → owes (kept_after p) (came, call) p ≡ None → reply_of d.member.gathered (index_of d.member.gathered.module call.header) ≡ None
          → owes (kept_after q) (came, call) q ≡ at_end q (or_that (due d.member.gathered call) (reply_then call))
      owed_is came call low none fresh =
          owed_then declared turn first lawful place views beginning hosted home p at o may came call None (or_that (due d.member.gathered call) (reply_then call))
          (earlier_same declared turn first lawful place views beginning hosted home p at o may came call ∙ none)
          (owed_held declared turn first lawful place views beginning hosted home p at o may came call low fresh ∙ ap (or_that (due d.member.gathered call)) (sym (reply_then_is call)))

      returns_are : (came : ℕ) (call : HeldCall) → came ≤ now p → owes (kept_after p) (came, call) p ≡ None → reply_of d.member.gathered (index_of d.member.gathered.module call.header) ≡ None
          → returns_of (came, call) ≡ back_to call (or_that (due d.member.gathered call) (reply_then call))
      returns_are came call low none fresh =
          ap (if_now q call.sender) (owed_is came call low none fresh) ∙ now_is q call.sender (or_that (due d.member.gathered call) (reply_then call))

      -- ---- one that had its return before

      owed_still : (x : ℕ × HeldCall) (given : ℕ × List ℕ) → owes (kept_after p) x p ≡ Some given → owes (kept_after q) x q ≡ Some given
      owed_still x given is =
          owed_then declared turn first lawful place views beginning hosted home p at o may x.0 x.1 (Some given) (return_at place.troupe start (kept_after q) x.0 x.1 q)
          (earlier_same declared turn first lawful place views beginning hosted home p at o may x.0 x.1 ∙ is) refl

      returned_before : (x : ℕ × HeldCall) (given : ℕ × List ℕ) → owes (kept_after p) x p ≡ Some given → returns_of x ≡ []
      returned_before x given is =
          let low = first_low (return_at place.troupe start (kept_after p) x.0 x.1) p (rises declared turn first lawful place views beginning hosted p may.0) given is in
          let later = may.1 in
          ap (if_now q x.1.sender) (owed_still x given is) ∙ not_now q x.1.sender given (omega (arith, low, later))

      -- ---- each of those that came before

      abbrev w : Sorts m d (held_now m o) (answered_now m o) (at_once m o)
      w = sorts m at o

      fresh_then : (x : ℕ × HeldCall) → reply_of m.gathered (index_of m.gathered.module x.1.header) ≡ None → reply_of d.member.gathered (index_of d.member.gathered.module x.1.header) ≡ None
      fresh_then x none = (λ j. lookup (nat_eq (index_of (w.own j) x.1.header)) (w.replies j)) ∙ none

      at_once_one : (x : ℕ × HeldCall) → Fares p x
          → (if not (by_end x) then returns_of x else []) ≡ (if waits (kept_after p) p x then (if w.passes x.1 then answer w.message x.1.sender ∷ [] else []) else [])
      at_once_one x fares = by_owed (owes (kept_after p) x p) refl
        where
          R : List Effect
          R = if w.passes x.1 then answer w.message x.1.sender ∷ [] else []

          by_owed : (given : Option (ℕ × List ℕ)) → owes (kept_after p) x p ≡ given → (if not (by_end x) then returns_of x else []) ≡ (if waits (kept_after p) p x then R else [])
          by_owed (Some given) is =
              ap (λ l. if not (by_end x) then l else []) (returned_before x given is) ∙ nothing (not (by_end x)) ∙ sym (ap (λ (y : Option (ℕ × List ℕ)). if is_none y then R else []) is)
          by_owed None is =
              let f = fares.1 is in
              let fresh = fresh_then x f.0 in
              let end = by_end_is x.0 x.1 fares.0 fresh in
              let returns = returns_are x.0 x.1 fares.0 is fresh in
              (λ j. if not (end j) then returns j else []) ∙ first_form x.1 (due d.member.gathered x.1) (reply_then x.1)
              ∙ ap (back_to x.1) (w.owed x.1 f.1) ∙ by_pass x.1 w.message (w.passes x.1) ∙ sym (ap (λ (y : Option (ℕ × List ℕ)). if is_none y then R else []) is)

      end_one : (test : HeldCall → Bool) (x : ℕ × HeldCall) → Fares p x
          → (if by_end x && test x.1 then returns_of x else [])
          ≡ (if waits (kept_after p) p x then (if not (w.passes x.1) then (if test x.1 then back_to x.1 (reply_then x.1) else []) else []) else [])
      end_one test x fares = by_owed (owes (kept_after p) x p) refl
        where
          K : List Effect
          K = if test x.1 then back_to x.1 (reply_then x.1) else []

          by_owed : (given : Option (ℕ × List ℕ)) → owes (kept_after p) x p ≡ given → (if by_end x && test x.1 then returns_of x else []) ≡ (if waits (kept_after p) p x then (if not (w.passes x.1) then K else []) else [])
          by_owed (Some given) is =
              ap (λ l. if by_end x && test x.1 then l else []) (returned_before x given is) ∙ nothing (by_end x && test x.1)
              ∙ sym (ap (λ (y : Option (ℕ × List ℕ)). if is_none y then (if not (w.passes x.1) then K else []) else []) is)
          by_owed None is =
              let f = fares.1 is in
              let fresh = fresh_then x f.0 in
              let end = by_end_is x.0 x.1 fares.0 fresh in
              let returns = returns_are x.0 x.1 fares.0 is fresh in
              (λ j. if end j && test x.1 then returns j else []) ∙ second_form x.1 (due d.member.gathered x.1) (reply_then x.1) (test x.1)
              ∙ ap (λ b. if b then K else []) (ap is_none (w.owed x.1 f.1) ∙ none_by w.message (w.passes x.1))
              ∙ sym (ap (λ (y : Option (ℕ × List ℕ)). if is_none y then (if not (w.passes x.1) then K else []) else []) is)

      waits_one : (x : ℕ × HeldCall) → Fares p x → waits (kept_after q) q x ≡ ((waits (kept_after p) p x && not (w.passes x.1)) && has_none e.member.gathered x.1)
      waits_one x fares = by_owed (owes (kept_after p) x p) refl
        where
          by_owed : (given : Option (ℕ × List ℕ)) → owes (kept_after p) x p ≡ given → waits (kept_after q) q x ≡ ((waits (kept_after p) p x && not (w.passes x.1)) && has_none e.member.gathered x.1)
          by_owed (Some given) is =
              ap is_none (owed_still x given is) ∙ sym (ap (λ (y : Option (ℕ × List ℕ)). (is_none y && not (w.passes x.1)) && has_none e.member.gathered x.1) is)
          by_owed None is =
              let f = fares.1 is in
              let fresh = fresh_then x f.0 in
              let owing : is_none (due d.member.gathered x.1) ≡ not (w.passes x.1) = ap is_none (w.owed x.1 f.1) ∙ none_by w.message (w.passes x.1) in
              let reply : is_none (reply_then x.1) ≡ has_none e.member.gathered x.1 = ap is_none (reply_then_is x.1) ∙ none_shown (reply_of e.member.gathered (index_of e.member.gathered.module x.1.header)) in
              ap is_none (owed_is x.0 x.1 fares.0 is fresh) ∙ third_form q (due d.member.gathered x.1) (reply_then x.1) ∙ (λ j. owing j && reply j)
              ∙ sym (ap (λ (y : Option (ℕ × List ℕ)). (is_none y && not (w.passes x.1)) && has_none e.member.gathered x.1) is)

      fares_one : (x : ℕ × HeldCall) → Fares p x → Fares q x
      fares_one x fares = (let low = fares.0 in let later = may.1 in omega (arith, low, later), λ none. by_owed (owes (kept_after p) x p) refl none)
        where
          G : Gathered
          G = e.member.gathered

          by_owed : (given : Option (ℕ × List ℕ)) → owes (kept_after p) x p ≡ given → owes (kept_after q) x q ≡ None → (reply_of G (index_of G.module x.1.header) ≡ None) × (due G x.1 ≡ None)
          by_owed (Some given) is none = absurd (there (sym (owed_still x given is) ∙ none))
            where
              there : Some given ≡ None → ⊥
              there eq = cc
          by_owed None is none =
              let f = fares.1 is in
              let fresh = fresh_then x f.0 in
              let both = neither_there q (due d.member.gathered x.1) (reply_then x.1) (sym (owed_is x.0 x.1 fares.0 is fresh) ∙ none) in
              let fresh_now = no_reply (reply_of G (index_of G.module x.1.header)) (sym (reply_then_is x.1) ∙ both.1) in
              (fresh_now, still_due declared turn first lawful place views beginning hosted home p at o may x.1 both.0 fresh fresh_now)

      -- ---- the call that comes

      abbrev pub came_now : List (ℕ × HeldCall)
      came_now = came_by at o

      pub record IsNew : Type 0 where
        pub returned : flat_map (λ (x : ℕ × HeldCall). if not (by_end x) then returns_of x else []) came_now ≡ answered_now m o
        pub ended : (test : HeldCall → Bool) → flat_map (λ (x : ℕ × HeldCall). if by_end x && test x.1 then returns_of x else []) came_now
            ≡ flat_map (λ (c : HeldCall). if test c then back_to c (reply_then c) else []) (held_now m o)
        pub held : map (λ (x : ℕ × HeldCall). x.1) (filter (waits (kept_after q) q) came_now) ≡ filter (has_none e.member.gathered) (held_now m o)
        pub fares : All (Fares q) came_now

      -- ---- all of them

      module _ (b : AreHeld p) (n : IsNew) where
        through : (f : HeldCall → List Effect) → flat_map f m.gathered.held ≡ flat_map (λ (x : ℕ × HeldCall). if waits (kept_after p) p x then f x.1 else []) (asks p)
        through f =
            ap (flat_map f) b.held ∙ flat_through f (λ (x : ℕ × HeldCall). x.1) (filter (waits (kept_after p) p) (asks p))
            ∙ flat_passing (waits (kept_after p) p) (λ (x : ℕ × HeldCall). f x.1) (asks p)

        pub at_once_are : returns_at_once place views start (first hosted) (kept_after q) q ≡ at_once m o
        at_once_are =
            let f : ℕ × HeldCall → List Effect = λ x. if not (by_end x) then returns_of x else [] in
            let R : HeldCall → List Effect = λ c. if w.passes c then answer w.message c.sender ∷ [] else [] in
            let g : ℕ × HeldCall → List Effect = λ x. if waits (kept_after p) p x then R x.1 else [] in
            flat_passing (λ x. not (by_end x)) returns_of (asks q) ∙ ap (flat_map f) (asks_more p at o) ∙ flat_map-append f (asks p) came_now
            ∙ (λ j. (same_flat f g (asks p) (All-weaker (Fares p) (λ x. f x ≡ g x) at_once_one (asks p) b.fares)
            ∙ sym (through R) ∙ sym (answers_to w.message w.passes m.gathered.held)) j ++ n.returned j)
            ∙ sym w.returns_are

        pub by_end_are : (test : HeldCall → Bool) → returns_now place views start (first hosted) (kept_after q) q (λ x. by_end x && test x.1)
            ≡ flat_map (λ (c : HeldCall). if test c then back_to c (reply_then c) else []) d.member.gathered.held
        by_end_are test =
            let K : HeldCall → List Effect = λ c. if test c then back_to c (reply_then c) else [] in
            let stays : HeldCall → Bool = λ c. not (w.passes c) in
            let f : ℕ × HeldCall → List Effect = λ x. if by_end x && test x.1 then returns_of x else [] in
            let R : HeldCall → List Effect = λ c. if stays c then K c else [] in
            let g : ℕ × HeldCall → List Effect = λ x. if waits (kept_after p) p x then R x.1 else [] in
            flat_passing (λ x. by_end x && test x.1) returns_of (asks q) ∙ ap (flat_map f) (asks_more p at o) ∙ flat_map-append f (asks p) came_now
            ∙ (λ j. (same_flat f g (asks p) (All-weaker (Fares p) (λ x. f x ≡ g x) (end_one test) (asks p) b.fares)
            ∙ sym (through R) ∙ sym (flat_passing stays K m.gathered.held)) j ++ n.ended test j)
            ∙ sym (flat_map-append K (filter stays m.gathered.held) (held_now m o)) ∙ ap (flat_map K) (sym w.held)

        held_then : AreHeld q
        held_then =
            let S : ℕ × HeldCall → HeldCall = λ x. x.1 in
            let stays : HeldCall → Bool = λ c. not (w.passes c) in
            let last : HeldCall → Bool = has_none e.member.gathered in
            let W : ℕ × HeldCall → Bool = waits (kept_after p) p in
            let both : ℕ × HeldCall → Bool = λ x. (W x && stays x.1) && last x.1 in
            let waited : WaitOn d.member.gathered.held e.member.gathered =
            executed_keeps declared turn first lawful at (WaitIn declared turn first lawful at d.member.gathered.held) (WaitIn declared turn first lawful at d.member.gathered.held) (wait_keeps declared turn first lawful at d.member.gathered.held) d s.sound
            (sym (all_pass (has_none d.member.gathered) d.member.gathered.held (λ i x below. ap is_none (s.sound.held i x below).fresh))) in
            let old : filter last (filter stays m.gathered.held) ≡ map S (filter (waits (kept_after q) q) (asks p)) =
            ap (λ l. filter last (filter stays l)) b.held
            ∙ ap (filter last) (passing_through stays S (filter W (asks p)) ∙ ap (map S) (passing_both (λ x. stays x.1) W (asks p)))
            ∙ passing_through last S (filter (λ x. W x && stays x.1) (asks p)) ∙ ap (map S) (passing_both (λ x. last x.1) (λ x. W x && stays x.1) (asks p))
            ∙ ap (map S) (sym (same_passing (waits (kept_after q) q) both (asks p) (All-weaker (Fares p) (λ x. waits (kept_after q) q x ≡ both x) waits_one (asks p) b.fares))) in
            record {
              held = waited ∙ ap (filter last) w.held ∙ filter-append last (filter stays m.gathered.held) (held_now m o)
                  ∙ (λ j. old j ++ sym n.held j)
                  ∙ sym (map-append S (filter (waits (kept_after q) q) (asks p)) (filter (waits (kept_after q) q) came_now))
                  ∙ ap (map S) (sym (filter-append (waits (kept_after q) q) (asks p) came_now) ∙ ap (filter (waits (kept_after q) q)) (sym (asks_more p at o)));
              fares = subst (All (Fares q)) (sym (asks_more p at o)) (All-append (Fares q) (asks p) came_now (All-weaker (Fares p) (Fares q) fares_one (asks p) b.fares) n.fares);
            }

    -- ---- the call that comes

    module _ (p : Past) (at : ℕ) (call : HeldCall) (may : MayLive declared turn first place views beginning hosted (followed p at (comes.Asked call.header call.body call.sender))) where
      abbrev comes_now : Occurrence
      comes_now = comes.Asked call.header call.body call.sender

      abbrev behind : Past
      behind = followed p at comes_now

      abbrev g : Gathered
      g = (life p).gathered

      abbrev owing : Option (List ℕ)
      owing = due_now g call

      abbrev reply : Option (List ℕ)
      reply = reply_then p at comes_now may call

      abbrev last : Gathered
      last = (executes declared turn first lawful place views beginning hosted p at comes_now).member.gathered

      owes_new : owes (kept_after behind) (at, call) behind ≡ at_end behind (or_that owing reply)
      owes_new =
          owed_then declared turn first lawful place views beginning hosted home p at comes_now may at call None (or_that owing reply)
          (none_owed declared turn first lawful place views beginning hosted home p at call may)
          (owed_new declared turn first lawful place views beginning hosted home p at call may ∙ ap (or_that owing) (sym (reply_then_is p at comes_now may call)))

      returns_new : returns_of p at comes_now may (at, call) ≡ back_to call (or_that owing reply)
      returns_new = ap (if_now behind call.sender) owes_new ∙ now_is behind call.sender (or_that owing reply)

      own_before : g.module ≡ place.troupe
      own_before = let k = known declared turn first lawful place views beginning hosted home p may.0 in k.sound.own ∙ ap (λ (x : Place). x.troupe) k.stands

      end_new : by_end p at comes_now may (at, call) ≡ (is_none owing && ends_now place views start (first hosted) (kept_after behind) behind (index_of place.troupe call.header))
      end_new =
          let k = known declared turn first lawful place views beginning hosted home p may.0 in
          let ends = ends_now place views start (first hosted) (kept_after behind) behind (index_of place.troupe call.header) in
          let stale : is_stale place.troupe start (kept_after behind) at call behind ≡ nat_lt call.header.server_incarnation g.required =
          (λ j. nat_lt call.header.server_incarnation (sym k.knows.requires j) && (eq-eqb at at refl j || not (was_started (kept_after behind) (index_of place.troupe call.header) at)))
          ∙ and_true (nat_lt call.header.server_incarnation g.required) in
          let before : is_before place.troupe start (kept_after behind) call behind ≡ gathering.is_before g g.from call =
          (λ j. nat_lt (index_of (sym own_before j) call.header) ((ap first_of (sym k.knows.phase_is) ∙ sym k.knows.from) j)) in
          (λ j. not (stale j) && not (before j) && ends)
          ∙ both_tests (nat_lt call.header.server_incarnation g.required) (gathering.is_before g g.from call) ends (stale_message g.required) (before_message g.from)

      same_replies : (handles declared turn first lawful place views beginning hosted p at comes_now).member.gathered.replies ≡ g.replies
      same_replies = (sorts (life p) at comes_now).replies

      same_own : (handles declared turn first lawful place views beginning hosted p at comes_now).member.gathered.module ≡ g.module
      same_own = (sorts (life p) at comes_now).own

      -- what it gets at once, by the cases and the reply that is kept
      at_once_by : (stale before : Bool) (kept : Option Reply) (one two : ℕ) → message_at_once (if stale then added.Stale one else if before then added.Before two else option_map_or added.Reply kept added.Held)
          ≡ or_that (if stale then Some (stale_message one) else if before then Some (before_message two) else None) (option_map reply_message kept)
      at_once_by true before kept one two = refl
      at_once_by false true kept one two = refl
      at_once_by false false None one two = refl
      at_once_by false false (Some given) one two = refl

      held_by : (stale before : Bool) (kept : Option Reply) (one two : ℕ) → is_held (if stale then added.Stale one else if before then added.Before two else option_map_or added.Reply kept added.Held)
          ≡ (is_none (if stale then Some (stale_message one) else if before then Some (before_message two) else None) && is_none kept)
      held_by true before kept one two = refl
      held_by false true kept one two = refl
      held_by false false None one two = refl
      held_by false false (Some given) one two = refl

      abbrev kept_reply : Option Reply
      kept_reply = reply_of g (index_of g.module call.header)

      answers_now : answer_at_once (gathering.answer_to g call.header) call.sender ≡ back_to call (or_that owing (option_map reply_message kept_reply))
      answers_now = ap (back_to call) (at_once_by (nat_lt call.header.server_incarnation g.required) (gathering.is_before g g.from call) kept_reply g.required g.from)

      holds_now : held_now (life p) comes_now ≡ (if is_none owing && is_none kept_reply then call ∷ [] else [])
      holds_now = ap (λ b. if b then call ∷ [] else []) (held_by (nat_lt call.header.server_incarnation g.required) (gathering.is_before g g.from call) kept_reply g.required g.from)

      -- its index has a reply
      module _ (r : Reply) (is : kept_reply ≡ Some r) where
        reply_stays : reply ≡ Some (reply_message r)
        reply_stays =
            let s = step_is declared turn first lawful place views beginning hosted home p at comes_now may (known declared turn first lawful place views beginning hosted home p may.0) in
            let d = handles declared turn first lawful place views beginning hosted p at comes_now in
            let i = index_of d.member.gathered.module call.header in
            let there : reply_of d.member.gathered i ≡ Some r = (λ j. lookup (nat_eq (index_of (same_own j) call.header)) (same_replies j)) ∙ is in
            let stays : reply_of last i ≡ Some r = executed_keeps declared turn first lawful at (IsReplied declared turn first lawful at i r) (IsReplied declared turn first lawful at i r) (reply_keeps declared turn first lawful at i r) d s.sound there in
            reply_then_is p at comes_now may call ∙ ap (option_map reply_message) (ap (λ n. reply_of last (index_of n call.header)) s.same.own ∙ stays)

        end_no : by_end p at comes_now may (at, call) ≡ false
        end_no =
            end_new ∙ ap (λ b. is_none owing && b) (ends_not p at comes_now may call r ((λ j. lookup (nat_eq (index_of (same_own j) call.header)) (same_replies j)) ∙ is)) ∙ and_false (is_none owing)

        none_held : held_now (life p) comes_now ≡ []
        none_held = holds_now ∙ ap (λ (x : Option Reply). if is_none owing && is_none x then call ∷ [] else []) is ∙ ap (λ b. if b then call ∷ [] else []) (and_false (is_none owing))

        new_replied : IsNew p at comes_now may
        new_replied =
            record {
              returned = append-nil (if not (by_end p at comes_now may (at, call)) then returns_of p at comes_now may (at, call) else [])
                  ∙ (λ j. if not (end_no j) then returns_new j else []) ∙ ap (λ x. back_to call (or_that owing x)) (reply_stays ∙ ap (option_map reply_message) (sym is)) ∙ sym answers_now;
              ended = λ test. append-nil (if by_end p at comes_now may (at, call) && test call then returns_of p at comes_now may (at, call) else [])
                  ∙ (λ j. if end_no j && test call then returns_of p at comes_now may (at, call) else [])
                  ∙ ap (flat_map (λ (c : HeldCall). if test c then back_to c (reply_then p at comes_now may c) else [])) (sym none_held);
              held = ap (λ b. map (λ (x : ℕ × HeldCall). x.1) (cond b ((at, call) ∷ []) [])) (ap is_none owes_new ∙ third_form behind owing reply ∙ ap (λ (x : Option (List ℕ)). is_none owing && is_none x) reply_stays ∙ and_false (is_none owing))
                  ∙ ap (filter (has_none last)) (sym none_held);
              fares = All-push (Fares behind) [] (at, call) (All-nil (Fares behind)) (omega arith, λ none. absurd (there (sym ((neither_there behind owing reply (sym owes_new ∙ none)).1) ∙ reply_stays)));
            }
          where
            there : None ≡ Some (reply_message r) → ⊥
            there eq = cc

      -- it has none
      module _ (is : kept_reply ≡ None) where
        fresh_handled : let d = handles declared turn first lawful place views beginning hosted p at comes_now in reply_of d.member.gathered (index_of d.member.gathered.module call.header) ≡ None
        fresh_handled = (λ j. lookup (nat_eq (index_of (same_own j) call.header)) (same_replies j)) ∙ is

        end_by : by_end p at comes_now may (at, call) ≡ (is_none owing && is_some reply)
        end_by = end_new ∙ ap (λ b. is_none owing && b) (ends_as p at comes_now may call fresh_handled)

        held_if : held_now (life p) comes_now ≡ (if is_none owing then call ∷ [] else [])
        held_if = holds_now ∙ ap (λ (x : Option Reply). if is_none owing && is_none x then call ∷ [] else []) is ∙ ap (λ b. if b then call ∷ [] else []) (and_true (is_none owing))

        one_held : (b : Bool) (K : HeldCall → List Effect) → flat_map K (if b then call ∷ [] else []) ≡ (if b then K call else [])
        one_held true K = append-nil (K call)
        one_held false K = refl

        one_waits : (b c : Bool) → has_none last call ≡ c → map (λ (x : ℕ × HeldCall). x.1) (cond (b && c) ((at, call) ∷ []) []) ≡ filter (has_none last) (if b then call ∷ [] else [])
        one_waits true c has = by_both c ∙ sym (ap (λ t. cond t (call ∷ []) []) has)
          where
            by_both : (t : Bool) → map (λ (x : ℕ × HeldCall). x.1) (cond t ((at, call) ∷ []) []) ≡ cond t (call ∷ []) []
            by_both true = refl
            by_both false = refl
        one_waits false c has = refl

        new_fresh : IsNew p at comes_now may
        new_fresh =
            record {
              returned = append-nil (if not (by_end p at comes_now may (at, call)) then returns_of p at comes_now may (at, call) else [])
                  ∙ (λ j. if not (end_by j) then returns_new j else []) ∙ first_form call owing reply
                  ∙ ap (back_to call) (sym (or_none owing) ∙ ap (λ (x : Option Reply). or_that owing (option_map reply_message x)) (sym is)) ∙ sym answers_now;
              ended = λ test. append-nil (if by_end p at comes_now may (at, call) && test call then returns_of p at comes_now may (at, call) else [])
                  ∙ (λ j. if end_by j && test call then returns_new j else []) ∙ second_form call owing reply (test call)
                  ∙ sym (one_held (is_none owing) (λ (c : HeldCall). if test c then back_to c (reply_then p at comes_now may c) else []))
                  ∙ ap (flat_map (λ (c : HeldCall). if test c then back_to c (reply_then p at comes_now may c) else [])) (sym held_if);
              held = ap (λ b. map (λ (x : ℕ × HeldCall). x.1) (cond b ((at, call) ∷ []) [])) (ap is_none owes_new ∙ third_form behind owing reply)
                  ∙ one_waits (is_none owing) (is_none reply) (sym (ap is_none (reply_then_is p at comes_now may call) ∙ none_shown (reply_of last (index_of last.module call.header))))
                  ∙ ap (filter (has_none last)) (sym held_if);
              fares = All-push (Fares behind) [] (at, call) (All-nil (Fares behind)) (omega arith, λ none. fresh_new none);
            }
          where
            fresh_new : owes (kept_after behind) (at, call) behind ≡ None → (reply_of last (index_of last.module call.header) ≡ None) × (due last call ≡ None)
            fresh_new none =
                let both = neither_there behind owing reply (sym owes_new ∙ none) in
                let fresh = no_reply (reply_of last (index_of last.module call.header)) (sym (reply_then_is p at comes_now may call) ∙ both.1) in
                (fresh, new_not_due declared turn first lawful place views beginning hosted home p at call may both.0 fresh)

      new_call : IsNew p at comes_now may
      new_call = by_reply kept_reply refl
        where
          by_reply : (x : Option Reply) → kept_reply ≡ x → IsNew p at comes_now may
          by_reply None is = new_fresh is
          by_reply (Some r) is = new_replied r is

    -- nothing comes, where it is no call
    no_call : (p : Past) (at : ℕ) (o : Occurrence) (may : MayLive declared turn first place views beginning hosted (followed p at o)) → came_by at o ≡ [] → held_now (life p) o ≡ [] → answered_now (life p) o ≡ [] → IsNew p at o may
    no_call p at o may came held answered =
        record {
          returned = ap (flat_map (λ (x : ℕ × HeldCall). if not (by_end p at o may x) then returns_of p at o may x else [])) came ∙ sym answered;
          ended = λ test. ap (flat_map (λ (x : ℕ × HeldCall). if by_end p at o may x && test x.1 then returns_of p at o may x else [])) came
              ∙ ap (flat_map (λ (c : HeldCall). if test c then back_to c (reply_then p at o may c) else [])) (sym held);
          held = ap (λ l. map (λ (x : ℕ × HeldCall). x.1) (filter (waits (kept_after (followed p at o)) (followed p at o)) l)) came
              ∙ ap (filter (has_none (executes declared turn first lawful place views beginning hosted p at o).member.gathered)) (sym held);
          fares = subst (All (Fares (followed p at o))) (sym came) (All-nil (Fares (followed p at o)));
        }

    pub is_new : (p : Past) (at : ℕ) (o : Occurrence) (may : MayLive declared turn first place views beginning hosted (followed p at o)) → IsNew p at o may
    is_new p at (comes.Asked header body sender) may = new_call p at (let call : HeldCall = record { header = header; body = body; sender = sender } in call) may
    is_new p at (comes.Fetched incarnation sender) may = no_call p at (comes.Fetched incarnation sender) may refl refl refl
    is_new p at (comes.Replied name from reply) may = no_call p at (comes.Replied name from reply) may refl refl refl
    is_new p at (comes.IsStale name server from incarnation) may = no_call p at (comes.IsStale name server from incarnation) may refl refl refl
    is_new p at (comes.IsBefore name from) may = no_call p at (comes.IsBefore name from) may refl refl refl
    is_new p at (comes.Told request table) may = no_call p at (comes.Told request table) may refl refl refl
    is_new p at (comes.Restored state count) may = no_call p at (comes.Restored state count) may refl refl refl
    is_new p at (comes.Declared node) may = no_call p at (comes.Declared node) may refl refl refl
    is_new p at comes.Joins may = no_call p at comes.Joins may refl refl refl

    -- ---- over a past

    none_before : (b : Beginning) → WaitIn declared turn first lawful 0 [] (begun (at_boot declared turn first lawful place views hosted home b))
    none_before Founder = refl
    none_before Spare = refl

    pub are_held : (p : Past) → MayLive declared turn first place views beginning hosted p → AreHeld p
    are_held booted may =
        record {
          held = booted_keeps declared turn first lawful place views hosted home (WaitIn declared turn first lawful 0 []) (WaitIn declared turn first lawful 0 []) (wait_keeps declared turn first lawful 0 []) beginning (none_before beginning);
          fares = All-nil (Fares booted);
        }
    are_held (followed p at o) may = held_then p at o may (are_held p may.0) (is_new p at o may)
