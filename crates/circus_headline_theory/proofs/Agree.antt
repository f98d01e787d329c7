-- Two records of a member, for pasts that were the same by a step, agree by then.
use Rattle.std.proofs.Common.{◌≡◌, ℕ, zero, suc, ◌+◌, ◌<◌, ◌≤◌, ◌⊎◌, inl, inr, Bool, true, false, ◌&&◌, if◌then◌else◌, List, [], ◌∷◌, ◌++◌, length, take, Option, None, Some, refl, sym, ap, subst, ◌∙◌, arith, append_assoc, append-nil}
use Rattle.std.specs.Prelude.{slice_get, slice_index, nat_le, unwrap_or, IsSomeAnd, option_and_then}
use Rattle.std.specs.Option.{option_map_or}
use Rattle.std.proofs.lemmas.Bool.{cases_lt, leb-true, and_parts, true≢false}
use Rattle.std.proofs.lemmas.List.Sums.{fold-append}
use Rattle.std.proofs.lemmas.Option.{same_Some, slice_get_within}
use Rattle.circus_value.specs.ValueTree.{ValueTree}
use Rattle.circus_header.specs.declared.answer.Reply.{Reply}
use Rattle.circus_header.specs.ReplyEquality.{reply_eq}
use Rattle.circus_collate.specs.Collating.{collate}
use Rattle.circus_collate.specs.Expecting.{expected_nodes}
use Rattle.circus_collate.specs.declared.table.Table.{Table}
use Rattle.circus_collate.specs.declared.view.View.{View}
use Rattle.circus_transfer.specs.declared.joiner.Joiner.{Joiner}
use Rattle.circus_transfer.specs.declared.joiner.Joiner.TheVariants as phases
use Rattle.circus_model.specs.Behaviour.{Behaviour}
use Rattle.circus_model.specs.Execution.{is_spent}
use Rattle.circus_model.specs.NextTurn.{asks}
use Rattle.circus_model.specs.declared.signature.ProcedureShape.{ProcedureShape}
use Rattle.circus_record.specs.declared.record.AskRecord.{AskRecord}
use Rattle.circus_record.specs.declared.record.MemberRecord.{MemberRecord}
use Rattle.circus_record.specs.declared.record.RunRecord.{RunRecord}
use Rattle.circus_gather.specs.declared.held.HeldCall.{HeldCall}
use Rattle.circus_performing.specs.Performing.{clock_after, step_after, state_after, replies_of, refusal, is_active, is_fetching, last_count}
use Rattle.circus_performing.specs.Record.{start_of, turns, IsAnswered, IsWaiting, HasEnded, IsOpen, IsRecord}
use Rattle.circus_performing.proofs.Ends.{latest_more}
use Rattle.circus_member_rules.specs.declared.place.Place.{Place}
use Rattle.circus_member_rules.specs.declared.occurrence.AskName.{AskName}
use Rattle.circus_member_rules.specs.declared.occurrence.Occurrence.{Occurrence}
use Rattle.circus_member_rules.specs.declared.occurrence.Occurrence.TheVariants as comes
use Rattle.circus_member_rules.specs.Step.{start_by_call, is_join}
use Rattle.circus_member_theory.specs.First.{at_end, or_else, first_given}
use Rattle.circus_member_theory.specs.Past.{Past, booted, followed, now, Rises, views_known, nodes_declared_down, replies_to, is_outside, is_asking, is_done, taken_in, phase, snapshot_fetched}
use Rattle.circus_member_theory.specs.Timely.{given_value, ShowsAnswer, IsMain, has_ended, is_free_for, may_start, may_answer, collated_call, collated_reply, name_of, IsTimely}
use Rattle.circus_member_theory.proofs.Timely.Firsts.{none_now}
use Rattle.circus_member_theory.specs.Snapshots.{began}
use Rattle.circus_headline_theory.specs.Datagrams.Due.{WasSo}
use Rattle.circus_headline_theory.proofs.One.{at_front, take_front, get_within, none_is_some, some_of, asked_callee, asked_procedure, asked_arguments, turned_state, AskIs, ask_is, none_behind, ends_as, run_is, IsOne, none_given}

-- ---- a past as it was

pub was_below : (p q : Past) → Rises p → WasSo p q → now q ≤ now p
was_below booted q rises same = (let n = ap now same in omega (arith, n))
was_below (followed p step o) q rises (inl same) = (let n = ap now same in omega (arith, n))
was_below (followed p step o) q rises (inr was) = (let low = was_below p q rises.0 was in let later = rises.1 in omega (arith, low, later))

pub was_booted : (q : Past) → WasSo q booted
was_booted booted = refl
was_booted (followed p step o) = inr (was_booted p)

-- what was given, and when
record WasGiven {A : Type 0} (gives : Past → Option A) (p : Past) (given : ℕ × A) : Type 0 where
  past : Past
  was : WasSo p past
  gave : gives past ≡ Some given.1
  at : now past ≡ given.0

module _ {A : Type 0} (gives : Past → Option A) where
  -- what was given by then stays given
  given_stays : (p q : Past) (given : ℕ × A) → WasSo p q → first_given gives q ≡ Some given → first_given gives p ≡ Some given
  unfolding first_given
  given_stays booted q given same is = ap (first_given gives) (sym same) ∙ is
  given_stays (followed p step o) q given (inl same) is = ap (first_given gives) (sym same) ∙ is
  given_stays (followed p step o) q given (inr was) is =
      ap (λ x. or_else x (at_end (followed p step o) (gives (followed p step o)))) (given_stays p q given was is)

  -- what wasn't is given later
  given_later : (p q : Past) (given : ℕ × A) → Rises p → WasSo p q → first_given gives q ≡ None → first_given gives p ≡ Some given → now q < given.0
  unfolding first_given
  given_later booted q given rises same none is = absurd (none_is_some (first_given gives q) given none (ap (first_given gives) same ∙ is))
  given_later (followed p step o) q given rises (inl same) none is = absurd (none_is_some (first_given gives q) given none (ap (first_given gives) same ∙ is))
  given_later (followed p step o) q given rises (inr was) none is =
      by_both (λ g there. given_later p q g rises.0 was none there) (first_given gives p) refl (gives (followed p step o)) is
    where
      by_both : ((g : ℕ × A) → first_given gives p ≡ Some g → now q < g.0) → (before : Option (ℕ × A)) → first_given gives p ≡ before → (last : Option A)
          → or_else before (at_end (followed p step o) last) ≡ Some given → now q < given.0
      by_both rest None before None end = absurd (none_is_some (at_end (followed p step o) None) given refl end)
      by_both rest None before (Some a) end =
          let low = was_below p q rises.0 was in
          let later = rises.1 in
          let at : step ≡ given.0 = ap (λ (x : ℕ × A). x.0) (same_Some (step, a) given end) in
          omega (arith, low, later, at)
      by_both rest (Some g) before last end = subst (λ (x : ℕ × A). now q < x.0) (same_Some g given end) (rest g before)

  given_when : (p : Past) (given : ℕ × A) → first_given gives p ≡ Some given → WasGiven gives p given
  unfolding first_given
  given_when booted given is = by_last (gives booted) refl is
    where
      by_last : (last : Option A) → gives booted ≡ last → at_end booted last ≡ Some given → WasGiven gives booted given
      by_last None there end = absurd (none_is_some (at_end booted None) given refl end)
      by_last (Some a) there end =
          let same : (0, a) ≡ given = same_Some (0, a) given end in
          record { past = booted; was = refl; gave = there ∙ ap (λ (x : ℕ × A). Some x.1) same; at = ap (λ (x : ℕ × A). x.0) same }
  given_when (followed p step o) given is = by_both (given_when p given) (first_given gives p) refl (gives (followed p step o)) refl is
    where
      by_both : (first_given gives p ≡ Some given → WasGiven gives p given) → (before : Option (ℕ × A)) → first_given gives p ≡ before → (last : Option A) → gives (followed p step o) ≡ last
          → or_else before (at_end (followed p step o) last) ≡ Some given → WasGiven gives (followed p step o) given
      by_both rest None before None there end = absurd (none_is_some (at_end (followed p step o) None) given refl end)
      by_both rest None before (Some a) there end =
          let same : (step, a) ≡ given = same_Some (step, a) given end in
          record { past = followed p step o; was = inl refl; gave = there ∙ ap (λ (x : ℕ × A). Some x.1) same; at = ap (λ (x : ℕ × A). x.0) same }
      by_both rest (Some g) before last there end =
          let w = rest (before ∙ end) in
          record { past = w.past; was = inr w.was; gave = w.gave; at = w.at }

given_of : {A : Type 0} (o : Option A) (P : A → Type 0) → IsSomeAnd o P → (x : A) × (o ≡ Some x) × P x
given_of None P is = absurd is
given_of (Some x) P is = (x, refl, is)

passes : {A : Type 0} (t : Bool) (o : Option A) (x : A) → (if t then o else None) ≡ Some x → t ≡ true
passes true o x is = refl
passes false o x is = absurd (none_is_some None x refl is)

-- ---- an active member takes no other state

module _ (begins : Joiner) where
  record StaysActive (p q : Past) : Type 0 where
    active : is_active (phase begins q) ≡ true
    fetched_is : snapshot_fetched begins q ≡ snapshot_fetched begins p

  active_by_join : (j : Joiner) → is_active j ≡ true → is_active (if is_outside j then phases.Asking else j) ≡ true
  active_by_join phases.Outside is = cc
  active_by_join phases.Asking is = is
  active_by_join (phases.Fetching incarnation) is = is
  active_by_join (phases.Active first) is = is

  active_by_table : (table : Table) (t : Bool) (j : Joiner) → is_active j ≡ true → is_active (if t && is_asking j then taken_in table else j) ≡ true
  active_by_table table true phases.Outside is = is
  active_by_table table true phases.Asking is = cc
  active_by_table table true (phases.Fetching incarnation) is = is
  active_by_table table true (phases.Active first) is = is
  active_by_table table false j is = is

  fetches_no_more : (j : Joiner) → is_active j ≡ true → is_fetching j ≡ false
  fetches_no_more phases.Outside is = refl
  fetches_no_more phases.Asking is = refl
  fetches_no_more (phases.Fetching incarnation) is = cc
  fetches_no_more (phases.Active first) is = refl

  stays_active : (p : Past) (step : ℕ) (o : Occurrence) → is_active (phase begins p) ≡ true → StaysActive p (followed p step o)
  stays_active p step comes.Joins is = record { active = active_by_join (phase begins p) is; fetched_is = refl }
  stays_active p step (comes.Told request table) is = record { active = active_by_table table (is_join request) (phase begins p) is; fetched_is = refl }
  stays_active p step (comes.Restored state count) is =
      let no = fetches_no_more (phase begins p) is in
      record {
        active = ap (λ t. is_active (if t then phases.Active count else phase begins p)) no ∙ is;
        fetched_is = ap (λ t. if t then Some (state, count) else snapshot_fetched begins p) no;
      }
  stays_active p step (comes.Asked header body sender) is = record { active = is; fetched_is = refl }
  stays_active p step (comes.Fetched incarnation sender) is = record { active = is; fetched_is = refl }
  stays_active p step (comes.Replied name from reply) is = record { active = is; fetched_is = refl }
  stays_active p step (comes.IsStale name server from incarnation) is = record { active = is; fetched_is = refl }
  stays_active p step (comes.IsBefore name from) is = record { active = is; fetched_is = refl }
  stays_active p step (comes.Declared node) is = record { active = is; fetched_is = refl }

  active_since : (p q : Past) → WasSo p q → is_active (phase begins q) ≡ true → StaysActive q p
  active_since booted q same is = record { active = ap (λ x. is_active (phase begins x)) (sym same) ∙ is; fetched_is = ap (snapshot_fetched begins) (sym same) }
  active_since (followed p step o) q (inl same) is = record { active = ap (λ x. is_active (phase begins x)) (sym same) ∙ is; fetched_is = ap (snapshot_fetched begins) (sym same) }
  active_since (followed p step o) q (inr was) is =
      let a = active_since p q was is in
      let b = stays_active p step o a.active in
      record { active = b.active; fetched_is = b.fetched_is ∙ a.fetched_is }

  -- one that wasn't active at boot has a state
  active_by_state : is_active begins ≡ false → (q : Past) → is_active (phase begins q) ≡ true → snapshot_fetched begins q ≡ None → ⊥
  active_by_state inactive booted is none = true≢false (sym is ∙ inactive)
  active_by_state inactive (followed p step comes.Joins) is none = by_phase (active_by_state inactive p) (phase begins p) refl is
    where
      by_phase : (is_active (phase begins p) ≡ true → snapshot_fetched begins p ≡ None → ⊥) → (j : Joiner) → phase begins p ≡ j → is_active (if is_outside j then phases.Asking else j) ≡ true → ⊥
      by_phase rest phases.Outside there now_is = cc
      by_phase rest phases.Asking there now_is = cc
      by_phase rest (phases.Fetching incarnation) there now_is = cc
      by_phase rest (phases.Active first) there now_is = rest (ap is_active there) none
  active_by_state inactive (followed p step (comes.Told request table)) is none = by_test (active_by_state inactive p) (is_join request && is_asking (phase begins p)) is
    where
      not_taken : (t : Bool) → is_active (if t then phases.Fetching table.view.incarnation else phases.Outside) ≡ true → ⊥
      not_taken true x = cc
      not_taken false x = cc

      by_test : (is_active (phase begins p) ≡ true → snapshot_fetched begins p ≡ None → ⊥) → (t : Bool) → is_active (if t then taken_in table else phase begins p) ≡ true → ⊥
      by_test rest true now_is = not_taken (is_done table.result) now_is
      by_test rest false now_is = rest now_is none
  active_by_state inactive (followed p step (comes.Restored state count)) is none = by_test (active_by_state inactive p) (is_fetching (phase begins p)) is none
    where
      by_test : (is_active (phase begins p) ≡ true → snapshot_fetched begins p ≡ None → ⊥) → (t : Bool) → is_active (if t then phases.Active count else phase begins p) ≡ true
          → (if t then Some (state, count) else snapshot_fetched begins p) ≡ None → ⊥
      by_test rest true now_is is_none = cc
      by_test rest false now_is is_none = rest now_is is_none
  active_by_state inactive (followed p step (comes.Asked header body sender)) is none = active_by_state inactive p is none
  active_by_state inactive (followed p step (comes.Fetched incarnation sender)) is none = active_by_state inactive p is none
  active_by_state inactive (followed p step (comes.Replied name from reply)) is none = active_by_state inactive p is none
  active_by_state inactive (followed p step (comes.IsStale name server from incarnation)) is none = active_by_state inactive p is none
  active_by_state inactive (followed p step (comes.IsBefore name from)) is none = active_by_state inactive p is none
  active_by_state inactive (followed p step (comes.Declared node)) is none = active_by_state inactive p is none

-- ---- steps

-- nothing, or later than a step
abbrev pub NotBy : ℕ → Option ℕ → Type 0
NotBy s None = Unit {0}
NotBy s (Some n) = s < n

-- each ask is made in the step in which the one before it was answered, and answered in that step or later
abbrev AsksRise : ℕ → List AskRecord → Type 0
AsksRise n [] = Unit {0}
AsksRise n (c ∷ cs) = (c.asked ≡ n) × (n ≤ unwrap_or c.answered n) × AsksRise (unwrap_or c.answered n) cs

-- asks are made later than a step
abbrev pub AsksLate : ℕ → List AskRecord → Type 0
AsksLate s [] = Unit {0}
AsksLate s (c ∷ cs) = (s < c.asked) × AsksLate s cs

late_asks : (s n : ℕ) (cs : List AskRecord) → AsksRise n cs → s < n → AsksLate s cs
late_asks s n [] rise late = tt
late_asks s n (c ∷ cs) rise late =
    let asked = rise.0 in
    let on = rise.1 in
    (omega (arith, asked, late), late_asks s (unwrap_or c.answered n) cs rise.2 (omega (arith, on, late)))

rises_to : (n : ℕ) (cs : List AskRecord) → AsksRise n cs → n ≤ step_after n cs
rises_to n [] rise = omega arith
rises_to n (c ∷ cs) rise = (let on = rise.1 in let rest = rises_to (unwrap_or c.answered n) cs rise.2 in omega (arith, on, rest))

-- a run is started later than a step, and so is all that is done in it
pub record LateRun (s : ℕ) (run : RunRecord) : Type 0 where
  pub started : s < run.started
  pub asks : AsksLate s run.asks
  pub not_ended : NotBy s run.ended

abbrev pub RunsLate : ℕ → List RunRecord → Type 0
RunsLate s [] = Unit {0}
RunsLate s (run ∷ runs) = LateRun s run × RunsLate s runs

-- ---- two records

-- an ask is the same but for its answer, which neither has by a step
pub record AskAgrees (s : ℕ) (c e : AskRecord) : Type 0 where
  pub callee : c.callee ≡ e.callee
  pub procedure : c.procedure ≡ e.procedure
  pub arguments : c.arguments ≡ e.arguments
  pub asked : c.asked ≡ e.asked
  pub one_waits : NotBy s c.answered
  pub other_waits : NotBy s e.answered

-- asks are the same up to one that waits, and behind that they are late
abbrev pub AsksAgree : ℕ → List AskRecord → List AskRecord → Type 0
AsksAgree s [] [] = Unit {0}
AsksAgree s [] (e ∷ es) = ⊥
AsksAgree s (c ∷ cs) [] = ⊥
AsksAgree s (c ∷ cs) (e ∷ es) = ((c ≡ e) × AsksAgree s cs es) ⊎ (AskAgrees s c e × AsksLate s cs × AsksLate s es)

pub record RunAgrees (s : ℕ) (x y : RunRecord) : Type 0 where
  pub start : start_of x ≡ start_of y
  pub started : x.started ≡ y.started
  pub asks : AsksAgree s x.asks y.asks
  pub one_open : NotBy s x.ended
  pub other_open : NotBy s y.ended

-- runs are the same up to one that is open, and behind that they are late
abbrev pub RunsAgree : ℕ → List RunRecord → List RunRecord → Type 0
RunsAgree s [] ys = RunsLate s ys
RunsAgree s (x ∷ xs) [] = RunsLate s (x ∷ xs)
RunsAgree s (x ∷ xs) (y ∷ ys) =
    ((x ≡ y) × RunsAgree s xs ys) ⊎ ((RunAgrees s x y × RunsLate s xs × RunsLate s ys) ⊎ (RunsLate s (x ∷ xs) × RunsLate s (y ∷ ys)))

pub record Agree (s : ℕ) (one other : MemberRecord) : Type 0 where
  pub runs : RunsAgree s one.runs other.runs
  pub from : (one.from ≡ other.from) ⊎ (RunsLate s one.runs × RunsLate s other.runs)

all_late : (s : ℕ) (xs ys : List RunRecord) → RunsLate s xs → RunsLate s ys → RunsAgree s xs ys
all_late s [] ys one other = other
all_late s (x ∷ xs) [] one other = one
all_late s (x ∷ xs) (y ∷ ys) one other = inr (inr (one, other))

-- ---- lists

at_next : {X : Type 0} (xs : List X) (x y : X) (ys : List X) → slice_get (xs ++ x ∷ y ∷ ys) (suc (length xs)) ≡ Some y
at_next [] x y ys = refl
at_next (z ∷ xs) x y ys = at_next xs x y ys

-- of a member that stands here, with these views and in this phase at boot, which declares these procedures, of which so many runs
-- were entered at boot, of one that was active then
module _ (place : Place) (boot : List View) (begins : Joiner) (procedures : List ProcedureShape) (at_boot : ℕ) (b : Behaviour) (few : at_boot ≤ 1) (active_boot : is_active begins ≡ false → at_boot ≡ 0) where
  -- its record for a past, that became active with this state
  pub record IsOneOf (state : List ValueTree) (p : Past) (kept : MemberRecord) : Type 0 where
    pub timely : IsTimely place boot begins procedures at_boot kept p
    pub follows : IsRecord b state kept

  -- ---- one record

  module _ (state : List ValueTree) (p : Past) (kept : MemberRecord) (h : IsOneOf state p kept) where
    module _ (before : List RunRecord) (x : RunRecord) (rest : List RunRecord) (are : kept.runs ≡ before ++ x ∷ rest) where
      here : slice_get kept.runs (length before) ≡ Some x
      here = ap (λ l. slice_get l (length before)) are ∙ at_front before x rest

      abbrev pub then_state : List ValueTree
      then_state = state_after state before

      pub x_is : HasEnded b then_state x ⊎ IsOpen b then_state x
      x_is = run_is b state kept h.follows before rest x are

      abbrev name : ℕ → AskName
      name n = name_of place boot begins procedures at_boot kept p (length before) n

      -- ---- its asks

      module _ (made : List AskRecord) (c : AskRecord) (cs : List AskRecord) (there : x.asks ≡ made ++ c ∷ cs) where
        pub ask : AskIs b then_state x made c cs
        ask = ask_is b then_state x x_is made c cs there

        front : take (length made) x.asks ≡ made
        front = ap (take (length made)) there ∙ take_front made (c ∷ cs)

        at_ask : slice_get x.asks (length made) ≡ Some c
        at_ask = ap (λ l. slice_get l (length made)) there ∙ at_front made c cs

        -- what was given to it, where its thread has calls left
        shows : is_spent (clock_after x.entry made) ≡ false → ShowsAnswer c (first_given (may_answer place boot begins (name (length made)) c) p)
        shows left = h.timely.answers (length before) (length made) x c here at_ask (ap (λ l. is_spent (clock_after x.entry l)) front ∙ left)

        -- at once, where it is spent
        record IsRefused : Type 0 where
          reply_is : c.reply ≡ Some refusal
          after_is : c.after ≡ Some (clock_after x.entry made)
          answered_is : c.answered ≡ Some c.asked

        refused : is_spent (clock_after x.entry made) ≡ true → IsRefused
        refused spent = by_next ask.next
          where
            by_next : (IsAnswered b (start_of x) made c ⊎ (IsWaiting (start_of x) made c × (cs ≡ []))) → IsRefused
            by_next (inl answered) =
                let r = answered.refused spent in
                record { reply_is = answered.reply_is ∙ ap (λ v. Some v) r.0; after_is = answered.after_is ∙ ap (λ v. Some v) r.1; answered_is = answered.answered_is ∙ ap (λ v. Some v) r.2 }
            by_next (inr waits) = absurd (true≢false (sym spent ∙ waits.0.calls_left))

        pub answered_after : (m : ℕ) → c.answered ≡ Some m → c.asked ≤ m
        answered_after m is = by_spent (is_spent (clock_after x.entry made)) refl
          where
            by_given : (o : Option (ℕ × Reply)) → first_given (may_answer place boot begins (name (length made)) c) p ≡ o → ShowsAnswer c o → c.asked ≤ m
            by_given None given v = absurd (none_is_some c.answered m v.0 is)
            by_given (Some g) given v =
                let w = given_when (may_answer place boot begins (name (length made)) c) p g given in
                let by_then = leb-true c.asked (now w.past) (passes (nat_le c.asked (now w.past)) (collated_reply place boot begins (name (length made)) c w.past) g.1 w.gave) in
                let at = w.at in
                let same : g.0 ≡ m = same_Some g.0 m (sym v.0 ∙ is) in
                omega (arith, by_then, at, same)

            by_spent : (t : Bool) → is_spent (clock_after x.entry made) ≡ t → c.asked ≤ m
            by_spent true spent = (let r = refused spent in let same : c.asked ≡ m = same_Some c.asked m (sym r.answered_is ∙ is) in omega (arith, same))
            by_spent false left = by_given (first_given (may_answer place boot begins (name (length made)) c) p) refl (shows left)

        -- one that waits is the last
        pub last_waits : c.answered ≡ None → cs ≡ []
        last_waits none = elim ask.next [
          | inl answered ↦ absurd (none_is_some c.answered answered.answered none answered.answered_is)
          | inr waits ↦ waits.1
        ]

      asks_rise : (made cs : List AskRecord) → x.asks ≡ made ++ cs → AsksRise (step_after x.started made) cs
      asks_rise made [] there = tt
      asks_rise made (c ∷ cs) there =
          let n : ℕ = step_after x.started made in
          let asked : c.asked ≡ step_after x.started made = (ask made c cs there).is_made.asked in
          let rest = asks_rise (made ++ c ∷ []) cs (there ∙ sym (append_assoc made (c ∷ []) cs)) in
          (asked, by_answer (answered_after made c cs there) asked c.answered refl, subst (λ k. AsksRise k cs) (latest_more (λ (a : AskRecord). a.answered) x.started made c) rest)
        where
          by_answer : ((m : ℕ) → c.answered ≡ Some m → c.asked ≤ m) → c.asked ≡ step_after x.started made → (o : Option ℕ) → c.answered ≡ o → step_after x.started made ≤ unwrap_or o (step_after x.started made)
          by_answer each asked None is = omega arith
          by_answer each asked (Some m) is = (let low = each m is in omega (arith, low, asked))

      -- it ends where it was started, or later
      pub ended_after : (m : ℕ) → x.ended ≡ Some m → x.started ≤ m
      ended_after m is = elim x_is [
        | inl e ↦ (let same : step_after x.started x.asks ≡ m = same_Some (step_after x.started x.asks) m (sym e.ended_is ∙ is) in
            let low = rises_to x.started x.asks (asks_rise [] x.asks refl) in omega (arith, same, low))
        | inr o ↦ absurd (none_is_some x.ended m o.not_ended is)
      ]

      ended_late : (s : ℕ) → s < x.started → (o : Option ℕ) → x.ended ≡ o → NotBy s o
      ended_late s late None is = tt
      ended_late s late (Some m) is = (let low = ended_after m is in omega (arith, late, low))

      late_run : (s : ℕ) → s < x.started → LateRun s x
      late_run s late = record { started = late; asks = late_asks s x.started x.asks (asks_rise [] x.asks refl) late; not_ended = ended_late s late x.ended refl }

      -- it isn't ended while an ask of it waits
      open_by : (s : ℕ) (made : List AskRecord) (c : AskRecord) (cs : List AskRecord) → x.asks ≡ made ++ c ∷ cs → NotBy s c.answered → NotBy s x.ended
      open_by s made c cs there waits = elim x_is [
        | inl e ↦ subst (NotBy s) (sym e.ended_is) (by_answer e c.answered refl waits)
        | inr o ↦ subst (NotBy s) (sym o.not_ended) tt
      ]
        where
          by_answer : HasEnded b then_state x → (o : Option ℕ) → c.answered ≡ o → NotBy s o → s < step_after x.started x.asks
          by_answer e None none late =
              let a = (e.made.asks_so (length made) c (at_ask made c cs there)).1 in
              absurd (none_is_some c.answered a.answered none a.answered_is)
          by_answer e (Some m) is late =
              let n : ℕ = step_after x.started made in
              let rest = (asks_rise made (c ∷ cs) there).2 in
              let low = rises_to (unwrap_or c.answered n) cs rest in
              let whole : step_after x.started x.asks ≡ step_after (unwrap_or c.answered n) cs =
              ap (step_after x.started) there ∙ fold-append (λ before (a : AskRecord). unwrap_or a.answered before) x.started made (c ∷ cs) in
              let at : unwrap_or c.answered n ≡ m = ap (λ o. unwrap_or o n) is in
              omega (arith, late, low, whole, at)

      -- those behind it are late
      late_behind : (s : ℕ) (made : List AskRecord) (c : AskRecord) (cs : List AskRecord) → x.asks ≡ made ++ c ∷ cs → NotBy s c.answered → AsksLate s cs
      late_behind s made c cs there waits = by_answer c.answered refl waits
        where
          by_answer : (o : Option ℕ) → c.answered ≡ o → NotBy s o → AsksLate s cs
          by_answer None none late = subst (AsksLate s) (sym (last_waits made c cs there none)) tt
          by_answer (Some m) is late =
              let n : ℕ = step_after x.started made in
              late_asks s (unwrap_or c.answered n) cs (asks_rise made (c ∷ cs) there).2 (let at : unwrap_or c.answered n ≡ m = ap (λ o. unwrap_or o n) is in omega (arith, late, at))

    -- ---- the next run

    pub record NextStarts (x z : RunRecord) : Type 0 where
      pub ended : ℕ
      pub is : x.ended ≡ Some ended
      pub below : ended ≤ z.started

    pub next_starts : (before : List RunRecord) (x z : RunRecord) (rest : List RunRecord) → kept.runs ≡ before ++ x ∷ z ∷ rest → NextStarts x z
    next_starts before x z rest are = by_ended x.ended refl ended
      where
        n : ℕ
        n = length before

        g : (given : ℕ × HeldCall) × (first_given (may_start place boot begins kept (suc (length before))) p ≡ Some given) × ((z.started ≡ given.0) × (start_of z ≡ start_by_call place.troupe procedures given.1))
        g = given_of (first_given (may_start place boot begins kept (suc (length before))) p) (λ given. (z.started ≡ given.0) × (start_of z ≡ start_by_call place.troupe procedures given.1))
            (h.timely.starts (suc (length before)) z (omega (arith, few)) (ap (λ l. slice_get l (suc (length before))) are ∙ at_next before x z rest))

        w : WasGiven (may_start place boot begins kept (suc (length before))) p g.0
        w = given_when (may_start place boot begins kept (suc (length before))) p g.0 g.1

        may : (is_active (phase begins w.past) && is_free_for place boot begins kept (suc (length before)) w.past && nat_le (kept.from + suc (length before)) last_count) ≡ true
        may = passes (is_active (phase begins w.past) && is_free_for place boot begins kept (suc (length before)) w.past && nat_le (kept.from + suc (length before)) last_count)
            (collated_call place boot begins (kept.from + suc (length before)) w.past) g.0.1 w.gave

        free : is_free_for place boot begins kept (suc (length before)) w.past ≡ true
        free = (and_parts (is_active (phase begins w.past)) (is_free_for place boot begins kept (suc (length before)) w.past)
            (and_parts (is_active (phase begins w.past) && is_free_for place boot begins kept (suc (length before)) w.past) (nat_le (kept.from + suc (length before)) last_count) may).0).1

        ended : has_ended place boot begins x w.past ≡ true
        ended = sym (ap (λ o. option_map_or (λ (run : RunRecord). has_ended place boot begins run w.past) o false) (here before x (z ∷ rest) are)) ∙ free

        by_ended : (o : Option ℕ) → x.ended ≡ o → option_map_or (λ step. nat_le step (now w.past)) x.ended false ≡ true → NextStarts x z
        by_ended None none is = absurd (true≢false (sym is ∙ ap (λ o. option_map_or (λ step. nat_le step (now w.past)) o false) none))
        by_ended (Some e) there is =
            let low = leb-true e (now w.past) (sym (ap (λ o. option_map_or (λ step. nat_le step (now w.past)) o false) there) ∙ is) in
            let at = w.at in
            let started = g.2.0 in
            record { ended = e; is = there; below = omega (arith, low, at, started) }

    -- what follows a late run is late
    late_from : (s : ℕ) (before : List RunRecord) (x : RunRecord) (rest : List RunRecord) → kept.runs ≡ before ++ x ∷ rest → s < x.started → RunsLate s (x ∷ rest)
    late_from s before x [] are late = (late_run before x [] are s late, tt)
    late_from s before x (z ∷ rest) are late =
        let next = next_starts before x z rest are in
        let low = ended_after before x (z ∷ rest) are next.ended next.is in
        let below = next.below in
        (late_run before x (z ∷ rest) are s late, late_from s (before ++ x ∷ []) z rest (are ∙ sym (append_assoc before (x ∷ []) (z ∷ rest))) (omega (arith, late, low, below)))

    -- and what follows one that is open
    late_after : (s : ℕ) (before : List RunRecord) (x : RunRecord) (rest : List RunRecord) → kept.runs ≡ before ++ x ∷ rest → NotBy s x.ended → RunsLate s rest
    late_after s before x [] are still = tt
    late_after s before x (z ∷ rest) are still =
        let next = next_starts before x z rest are in
        let above : s < next.ended = subst (NotBy s) next.is still in
        let below = next.below in
        late_from s (before ++ x ∷ []) z rest (are ∙ sym (append_assoc before (x ∷ []) (z ∷ rest))) (omega (arith, above, below))

  -- ---- two records, of pasts that were the same by a step

  record IsFor (state : List ValueTree) (q p : Past) (kept : MemberRecord) : Type 0 where
    is : IsOneOf state p kept
    rises : Rises p
    was : WasSo p q

  module _ (state : List ValueTree) (q : Past) where
    abbrev s : ℕ
    s = now q

    module _ (p r : Past) (one other : MemberRecord) (from : one.from ≡ other.from) (h : IsFor state q p one) (k : IsFor state q r other) where
      -- ---- a run may start by the runs before it

      module _ (before rest more : List RunRecord) (are : one.runs ≡ before ++ rest) (is : other.runs ≡ before ++ more) where
        runs_before : (n : ℕ) → n < length before → slice_get one.runs n ≡ slice_get other.runs n
        runs_before n low = ap (λ l. slice_get l n) are ∙ get_within before rest more n low ∙ ap (λ l. slice_get l n) (sym is)

        free_same : (n : ℕ) (x : Past) → n ≤ length before → is_free_for place boot begins one n x ≡ is_free_for place boot begins other n x
        free_same zero x low = refl
        free_same (suc n) x low = ap (λ o. option_map_or (λ (run : RunRecord). has_ended place boot begins run x) o false) (runs_before n (omega (arith, low)))

        start_may : may_start place boot begins one (length before) ≡ may_start place boot begins other (length before)
        start_may = λ j x.
            if is_active (phase begins x) && free_same (length before) x (omega arith) j && nat_le (from j + length before) last_count
            then collated_call place boot begins (from j + length before) x
            else None

        given_same : (x : Past) → first_given (may_start place boot begins one (length before)) x ≡ first_given (may_start place boot begins other (length before)) x
        given_same x = ap (λ gives. first_given gives x) start_may

      -- ---- a further run is late

      one_more : (before more : List RunRecord) (run : RunRecord) → one.runs ≡ before → other.runs ≡ before ++ run ∷ more → s < run.started
      one_more before more run are is = by_number (cases_lt (length before) at_boot)
        where
          are_so : one.runs ≡ before ++ []
          are_so = are ∙ sym (append-nil before)

          there : slice_get other.runs (length before) ≡ Some run
          there = ap (λ l. slice_get l (length before)) is ∙ at_front before run more

          long : length one.runs ≡ length before
          long = ap length are

          by_slot : (o : Option RunRecord) → slice_get one.runs (length before) ≡ o → IsSomeAnd o (IsMain place.troupe boot) → s < run.started
          by_slot None at holds = absurd holds
          by_slot (Some x) at holds = (let within = slice_get_within one.runs (length before) x at in absurd (omega (arith, within, long)))

          by_now : first_given (may_start place boot begins one (length before)) p ≡ None → (o : Option (ℕ × HeldCall)) → first_given (may_start place boot begins one (length before)) q ≡ o → at_boot ≤ length before → s < run.started
          by_now none (Some g) some high = absurd (none_is_some (first_given (may_start place boot begins one (length before)) p) g none (given_stays (may_start place boot begins one (length before)) p q g h.was some))
          by_now none None nothing high =
              let g = given_of (first_given (may_start place boot begins other (length before)) r) (λ given. (run.started ≡ given.0) × (start_of run ≡ start_by_call place.troupe procedures given.1)) (k.is.timely.starts (length before) run high there) in
              let later = given_later (may_start place boot begins other (length before)) r q g.0 k.rises k.was (sym (given_same before [] (run ∷ more) are_so is q) ∙ nothing) g.1 in
              let started = g.2.0 in
              omega (arith, later, started)

          by_number : (length before < at_boot) ⊎ (at_boot ≤ length before) → s < run.started
          by_number (inl low) = by_slot (slice_get one.runs (length before)) refl (h.is.timely.boots (length before) low)
          by_number (inr high) =
              by_now (subst (λ n. first_given (may_start place boot begins one n) p ≡ None) long (h.is.timely.no_more (omega (arith, high, long))))
              (first_given (may_start place boot begins one (length before)) q) refl high

    module _ (p r : Past) (one other : MemberRecord) (from : one.from ≡ other.from) (h : IsFor state q p one) (k : IsFor state q r other) where
      -- ---- a run

      module _ (before rest more : List RunRecord) (x y : RunRecord) (are : one.runs ≡ before ++ x ∷ rest) (is : other.runs ≡ before ++ y ∷ more) where
        at_one : slice_get one.runs (length before) ≡ Some x
        at_one = ap (λ l. slice_get l (length before)) are ∙ at_front before x rest

        at_other : slice_get other.runs (length before) ≡ Some y
        at_other = ap (λ l. slice_get l (length before)) is ∙ at_front before y more

        record StartsSame : Type 0 where
          started : x.started ≡ y.started
          start : start_of x ≡ start_of y

        starts : StartsSame ⊎ ((s < x.started) × (s < y.started))
        starts = by_number (cases_lt (length before) at_boot)
          where
            by_now : at_boot ≤ length before → (o : Option (ℕ × HeldCall)) → first_given (may_start place boot begins one (length before)) q ≡ o → StartsSame ⊎ ((s < x.started) × (s < y.started))
            by_now high o there = by_given o there
              where
                P : ℕ × HeldCall → Type 0
                P given = (x.started ≡ given.0) × (start_of x ≡ start_by_call place.troupe procedures given.1)

                Q : ℕ × HeldCall → Type 0
                Q given = (y.started ≡ given.0) × (start_of y ≡ start_by_call place.troupe procedures given.1)

                same : first_given (may_start place boot begins one (length before)) q ≡ first_given (may_start place boot begins other (length before)) q
                same = given_same p r one other from h k before (x ∷ rest) (y ∷ more) are is q

                by_given : (o : Option (ℕ × HeldCall)) → first_given (may_start place boot begins one (length before)) q ≡ o → StartsSame ⊎ ((s < x.started) × (s < y.started))
                by_given None none =
                    let g = given_of (first_given (may_start place boot begins one (length before)) p) P (h.is.timely.starts (length before) x high at_one) in
                    let f = given_of (first_given (may_start place boot begins other (length before)) r) Q (k.is.timely.starts (length before) y high at_other) in
                    let one_late = given_later (may_start place boot begins one (length before)) p q g.0 h.rises h.was none g.1 in
                    let other_late = given_later (may_start place boot begins other (length before)) r q f.0 k.rises k.was (sym same ∙ none) f.1 in
                    let one_at = g.2.0 in
                    let other_at = f.2.0 in
                    inr (omega (arith, one_late, one_at), omega (arith, other_late, other_at))
                by_given (Some g) some =
                    let v = subst (λ o. IsSomeAnd o P) (given_stays (may_start place boot begins one (length before)) p q g h.was some) (h.is.timely.starts (length before) x high at_one) in
                    let w = subst (λ o. IsSomeAnd o Q) (given_stays (may_start place boot begins other (length before)) r q g k.was (sym same ∙ some)) (k.is.timely.starts (length before) y high at_other) in
                    inl (record { started = v.0 ∙ sym w.0; start = v.1 ∙ sym w.1 })

            by_number : (length before < at_boot) ⊎ (at_boot ≤ length before) → StartsSame ⊎ ((s < x.started) × (s < y.started))
            by_number (inl low) =
                let m = some_of (slice_get one.runs (length before)) x (IsMain place.troupe boot) at_one (h.is.timely.boots (length before) low) in
                let n = some_of (slice_get other.runs (length before)) y (IsMain place.troupe boot) at_other (k.is.timely.boots (length before) low) in
                inl (record { started = m.0 ∙ sym n.0; start = m.1 ∙ sym n.1 })
            by_number (inr high) = by_now high (first_given (may_start place boot begins one (length before)) q) refl

        abbrev state_then : List ValueTree
        state_then = state_after state before

        x_so : HasEnded b state_then x ⊎ IsOpen b state_then x
        x_so = run_is b state one h.is.follows before rest x are

        y_so : HasEnded b state_then y ⊎ IsOpen b state_then y
        y_so = run_is b state other k.is.follows before more y is

        module _ (starts_same : StartsSame) where
          -- ---- an ask

          module _ (made : List AskRecord) (c e : AskRecord) (cs es : List AskRecord) (c_there : x.asks ≡ made ++ c ∷ cs) (e_there : y.asks ≡ made ++ e ∷ es) where
            ca : AskIs b state_then x made c cs
            ca = ask_is b state_then x x_so made c cs c_there

            ea : AskIs b state_then y made e es
            ea = ask_is b state_then y y_so made e es e_there

            turn : asks c.callee c.procedure c.arguments c.state ≡ asks e.callee e.procedure e.arguments e.state
            turn = sym ca.is_made.turn ∙ (λ j. turns b state_then (starts_same.start j) (replies_of made)) ∙ ea.is_made.turn

            callee : c.callee ≡ e.callee
            callee = ap asked_callee turn

            index : c.index ≡ e.index
            index = ca.is_made.index ∙ (λ j. slice_index (clock_after (starts_same.start j).clock made) (callee j)) ∙ sym ea.is_made.index

            asked : c.asked ≡ e.asked
            asked = ca.is_made.asked ∙ (λ j. step_after (starts_same.started j) made) ∙ sym ea.is_made.asked

            record AnsweredSame : Type 0 where
              reply : c.reply ≡ e.reply
              after : c.after ≡ e.after
              answered : c.answered ≡ e.answered

            answers_may : may_answer place boot begins (name_of place boot begins procedures at_boot one p (length before) (length made)) c ≡ may_answer place boot begins (name_of place boot begins procedures at_boot other r (length before) (length made)) e
            answers_may = λ j u.
                if nat_le (asked j) (now u)
                then option_and_then
                (λ (view : View). given_value (replies_to (asked j) (let n : AskName = record { run = from j + length before; ask = length made } in n) u)
                (collate reply_eq (expected_nodes view (index j)) (nodes_declared_down u) (replies_to (asked j) (let n : AskName = record { run = from j + length before; ask = length made } in n) u) place.replies))
                (slice_get (views_known boot u) (callee j))
                else None

            answers_given : (v : Past) → first_given (may_answer place boot begins (name_of place boot begins procedures at_boot one p (length before) (length made)) c) v ≡ first_given (may_answer place boot begins (name_of place boot begins procedures at_boot other r (length before) (length made)) e) v
            answers_given v = ap (λ gives. first_given gives v) answers_may

            clocks : clock_after x.entry made ≡ clock_after y.entry made
            clocks = λ j. clock_after (starts_same.start j).clock made

            both_wait : NotBy s c.answered → NotBy s e.answered → AskAgrees s c e
            both_wait one_waits other_waits =
                record { callee = callee; procedure = ap asked_procedure turn; arguments = ap asked_arguments turn; asked = asked; one_waits = one_waits; other_waits = other_waits }

            ask_same : AnsweredSame → c ≡ e
            ask_same a = λ j. record {
              callee = callee j;
              index = index j;
              procedure = ap asked_procedure turn j;
              arguments = ap asked_arguments turn j;
              state = ap turned_state turn j;
              reply = a.reply j;
              after = a.after j;
              asked = asked j;
              answered = a.answered j;
            }

            -- a reply that was not given by then was given later, if at all
            waits_on : (u : Past) (a : AskRecord) (gives : Past → Option Reply) → Rises u → WasSo u q → first_given gives q ≡ None → (o : Option (ℕ × Reply)) → first_given gives u ≡ o → ShowsAnswer a o → NotBy s a.answered
            waits_on u a gives rise was none None there v = subst (NotBy s) (sym v.0) tt
            waits_on u a gives rise was none (Some g) there v = subst (NotBy s) (sym v.0) (given_later gives u q g rise was none there)

            same_or_waits : (c ≡ e) ⊎ AskAgrees s c e
            same_or_waits = by_spent (is_spent (clock_after x.entry made)) refl
              where
                by_spent : (t : Bool) → is_spent (clock_after x.entry made) ≡ t → (c ≡ e) ⊎ AskAgrees s c e
                by_spent true spent =
                    let v = refused state p one h.is before x rest are made c cs c_there spent in
                    let w = refused state r other k.is before y more is made e es e_there (sym (ap is_spent clocks) ∙ spent) in
                    inl (ask_same (record {
                      reply = v.reply_is ∙ sym w.reply_is;
                      after = v.after_is ∙ ap (λ l. Some l) clocks ∙ sym w.after_is;
                      answered = v.answered_is ∙ ap (λ n. Some n) asked ∙ sym w.answered_is;
                    }))
                by_spent false left = by_given (first_given one_gives q) refl
                  where
                    one_gives : Past → Option Reply
                    one_gives = may_answer place boot begins (name_of place boot begins procedures at_boot one p (length before) (length made)) c

                    other_gives : Past → Option Reply
                    other_gives = may_answer place boot begins (name_of place boot begins procedures at_boot other r (length before) (length made)) e

                    one_shows : ShowsAnswer c (first_given one_gives p)
                    one_shows = shows state p one h.is before x rest are made c cs c_there left

                    other_shows : ShowsAnswer e (first_given other_gives r)
                    other_shows = shows state r other k.is before y more is made e es e_there (sym (ap is_spent clocks) ∙ left)

                    same : (v : Past) → first_given one_gives v ≡ first_given other_gives v
                    same v = answers_given v

                    by_given : (o : Option (ℕ × Reply)) → first_given one_gives q ≡ o → (c ≡ e) ⊎ AskAgrees s c e
                    by_given None none =
                        inr (both_wait (waits_on p c one_gives h.rises h.was none (first_given one_gives p) refl one_shows)
                        (waits_on r e other_gives k.rises k.was (sym (same q) ∙ none) (first_given other_gives r) refl other_shows))
                    by_given (Some g) some =
                        let v : ShowsAnswer c (Some g) = subst (ShowsAnswer c) (given_stays one_gives p q g h.was some) one_shows in
                        let w : ShowsAnswer e (Some g) = subst (ShowsAnswer e) (given_stays other_gives r q g k.was (sym (same q) ∙ some)) other_shows in
                        inl (ask_same (record { reply = v.1 ∙ sym w.1; after = v.2 ∙ sym w.2; answered = v.0 ∙ sym w.0 }))

          -- ---- its asks

          record AreOpen (cs es : List AskRecord) : Type 0 where
            agree : AsksAgree s cs es
            one_open : NotBy s x.ended
            other_open : NotBy s y.ended

          asks_agree : (made cs es : List AskRecord) → x.asks ≡ made ++ cs → y.asks ≡ made ++ es → (cs ≡ es) ⊎ AreOpen cs es
          asks_agree made [] [] c_there e_there = inl refl
          asks_agree made [] (e ∷ es) c_there e_there = absurd (none_behind b state_then x x_so made (c_there ∙ append-nil made) y y_so e es e_there starts_same.start)
          asks_agree made (c ∷ cs) [] c_there e_there = absurd (none_behind b state_then y y_so made (e_there ∙ append-nil made) x x_so c cs c_there (sym starts_same.start))
          asks_agree made (c ∷ cs) (e ∷ es) c_there e_there =
              by_ask
              (λ same. asks_agree (made ++ c ∷ []) cs es (c_there ∙ sym (append_assoc made (c ∷ []) cs)) (e_there ∙ (λ j. made ++ sym same j ∷ es) ∙ sym (append_assoc made (c ∷ []) es)))
              (same_or_waits made c e cs es c_there e_there)
            where
              with_same : c ≡ e → (cs ≡ es) ⊎ AreOpen cs es → (c ∷ cs ≡ e ∷ es) ⊎ AreOpen (c ∷ cs) (e ∷ es)
              with_same same (inl others) = inl (λ j. same j ∷ others j)
              with_same same (inr a) = inr (record { agree = inl (same, a.agree); one_open = a.one_open; other_open = a.other_open })

              by_ask : (c ≡ e → (cs ≡ es) ⊎ AreOpen cs es) → (c ≡ e) ⊎ AskAgrees s c e → (c ∷ cs ≡ e ∷ es) ⊎ AreOpen (c ∷ cs) (e ∷ es)
              by_ask others (inl same) = with_same same (others same)
              by_ask others (inr a) =
                  inr (record {
                    agree = inr (a, late_behind state p one h.is before x rest are s made c cs c_there a.one_waits, late_behind state r other k.is before y more is s made e es e_there a.other_waits);
                    one_open = open_by state p one h.is before x rest are s made c cs c_there a.one_waits;
                    other_open = open_by state r other k.is before y more is s made e es e_there a.other_waits;
                  })

          run_same : x.asks ≡ y.asks → x ≡ y
          run_same all =
              let e = ends_as b state_then x y x_so y_so starts_same.start starts_same.started all in
              λ j. record {
                path = (starts_same.start j).path;
                root = (starts_same.start j).root;
                procedure = (starts_same.start j).procedure;
                arguments = (starts_same.start j).arguments;
                entry = (starts_same.start j).clock;
                asks = all j;
                outcome = e.outcome j;
                state = e.state_is j;
                end = e.end j;
                started = starts_same.started j;
                ended = e.ended j;
              }

      -- ---- all runs

      runs_agree : (before xs ys : List RunRecord) → one.runs ≡ before ++ xs → other.runs ≡ before ++ ys → RunsAgree s xs ys
      runs_agree before [] [] are is = tt
      runs_agree before [] (y ∷ ys) are is = late_from state r other k.is s before y ys is (one_more p r one other from h k before ys y (are ∙ append-nil before) is)
      runs_agree before (x ∷ xs) [] are is = late_from state p one h.is s before x xs are (one_more r p other one (sym from) k h before xs x (is ∙ append-nil before) are)
      runs_agree before (x ∷ xs) (y ∷ ys) are is =
          by_start
          (λ same. runs_agree (before ++ x ∷ []) xs ys (are ∙ sym (append_assoc before (x ∷ []) xs)) (is ∙ (λ j. before ++ sym same j ∷ ys) ∙ sym (append_assoc before (x ∷ []) ys)))
          (starts before xs ys x y are is)
        where
          by_asks : (x ≡ y → RunsAgree s xs ys) → (u : StartsSame before xs ys x y are is) → (x.asks ≡ y.asks) ⊎ AreOpen before xs ys x y are is u x.asks y.asks → RunsAgree s (x ∷ xs) (y ∷ ys)
          by_asks others u (inl all) = (let same = run_same before xs ys x y are is u all in inl (same, others same))
          by_asks others u (inr a) =
              inr (inl (
                record { start = u.start; started = u.started; asks = a.agree; one_open = a.one_open; other_open = a.other_open },
                late_after state p one h.is s before x xs are a.one_open,
                late_after state r other k.is s before y ys is a.other_open,
              ))

          by_start : (x ≡ y → RunsAgree s xs ys) → StartsSame before xs ys x y are is ⊎ ((s < x.started) × (s < y.started)) → RunsAgree s (x ∷ xs) (y ∷ ys)
          by_start others (inl u) = by_asks others u (asks_agree before xs ys x y are is u [] x.asks y.asks refl refl)
          by_start others (inr late) = inr (inr (late_from state p one h.is s before x xs are late.0, late_from state r other k.is s before y ys is late.1))

  -- ---- a member that is not active by then has started nothing

  none_started : (state : List ValueTree) (q p : Past) (kept : MemberRecord) → IsFor state q p kept → is_active (phase begins q) ≡ false → RunsLate (now q) kept.runs
  none_started state q p kept h inactive = by_runs kept.runs refl
    where
      at_first : is_active begins ≡ false
      at_first = by_test (is_active begins) refl
        where
          by_test : (t : Bool) → is_active begins ≡ t → is_active begins ≡ false
          by_test true is = absurd (true≢false (sym (active_since begins q booted (was_booted q) is).active ∙ inactive))
          by_test false is = is

      by_given : (run : RunRecord) (rest : List RunRecord) → kept.runs ≡ run ∷ rest → (o : Option (ℕ × HeldCall)) → first_given (may_start place boot begins kept 0) q ≡ o → now q < run.started
      by_given run rest are None none =
          let g = given_of (first_given (may_start place boot begins kept 0) p) (λ given. (run.started ≡ given.0) × (start_of run ≡ start_by_call place.troupe procedures given.1))
          (h.is.timely.starts 0 run (let zero_is = active_boot at_first in omega (arith, zero_is)) (ap (λ l. slice_get l 0) are)) in
          let later = given_later (may_start place boot begins kept 0) p q g.0 h.rises h.was none g.1 in
          let started = g.2.0 in
          omega (arith, later, started)
      by_given run rest are (Some g) some =
          let w = given_when (may_start place boot begins kept 0) q g some in
          let may = passes (is_active (phase begins w.past) && is_free_for place boot begins kept 0 w.past && nat_le (kept.from + 0) last_count) (collated_call place boot begins (kept.from + 0) w.past) g.1 w.gave in
          let active = (and_parts (is_active (phase begins w.past)) (is_free_for place boot begins kept 0 w.past) (and_parts (is_active (phase begins w.past) && is_free_for place boot begins kept 0 w.past) (nat_le (kept.from + 0) last_count) may).0).0 in
          absurd (true≢false (sym (active_since begins q w.past w.was active).active ∙ inactive))

      by_runs : (runs : List RunRecord) → kept.runs ≡ runs → RunsLate (now q) kept.runs
      by_runs [] are = subst (RunsLate (now q)) (sym are) tt
      by_runs (run ∷ rest) are = subst (RunsLate (now q)) (sym are) (late_from state p kept h.is (now q) [] run rest are (by_given run rest are (first_given (may_start place boot begins kept 0) q) refl))

-- ---- all of it

module _ (place : Place) (boot : List View) (begins : Joiner) (procedures : List ProcedureShape) (at_boot : ℕ) (b : Behaviour) (few : at_boot ≤ 1) (active_boot : is_active begins ≡ false → at_boot ≡ 0) (first : List ValueTree) where
  -- the record of a past that was this
  pub record IsSince (q p : Past) (kept : MemberRecord) : Type 0 where
    pub is : IsOne place boot begins procedures at_boot b (began begins first p) p kept
    pub rises : Rises p
    pub was : WasSo p q

  -- they agree by then
  pub agree_since : (q p r : Past) (one other : MemberRecord) → IsSince q p one → IsSince q r other → Agree (now q) one other
  agree_since q p r one other h k = by_active (is_active (phase begins q)) refl
    where
      For : List ValueTree → Past → MemberRecord → Type 0
      For state x kept = IsFor place boot begins procedures at_boot b few active_boot state q x kept

      since : (x : Past) (kept : MemberRecord) → IsSince q x kept → For (began begins first x) x kept
      since x kept i = record { is = record { timely = i.is.timely; follows = i.is.follows }; rises = i.rises; was = i.was }

      from_then : (x : Past) (kept : MemberRecord) → IsSince q x kept → is_active (phase begins q) ≡ true → (o : Option (ℕ × (List ValueTree × ℕ))) → first_given (snapshot_fetched begins) q ≡ o
          → kept.from ≡ option_map_or (λ (g : ℕ × (List ValueTree × ℕ)). g.1.1) o 0
      from_then x kept i active o there = by_boot (is_active begins) refl o there
        where
          by_boot : (t : Bool) → is_active begins ≡ t → (o : Option (ℕ × (List ValueTree × ℕ))) → first_given (snapshot_fetched begins) q ≡ o → kept.from ≡ option_map_or (λ (g : ℕ × (List ValueTree × ℕ)). g.1.1) o 0
          by_boot true is None none = (i.is.from_first (none_given begins is x)).0
          by_boot true is (Some g) some = absurd (none_is_some (first_given (snapshot_fetched begins) q) g (none_given begins is q) some)
          by_boot false is None none = absurd (active_by_state begins is q active (none_now (snapshot_fetched begins) q none))
          by_boot false is (Some g) some = (i.is.timely.active is g.0 g.1.0 g.1.1 (given_stays (snapshot_fetched begins) x q g i.was some)).1

      state_then : (x : Past) (kept : MemberRecord) → IsSince q x kept → is_active (phase begins q) ≡ true → began begins first x ≡ began begins first q
      state_then x kept i active = ap (λ o. option_map_or (λ (g : List ValueTree × ℕ). g.0) o first) (active_since begins x q i.was active).fetched_is

      by_active : (t : Bool) → is_active (phase begins q) ≡ t → Agree (now q) one other
      by_active true active =
          let from = from_then p one h active (first_given (snapshot_fetched begins) q) refl ∙ sym (from_then r other k active (first_given (snapshot_fetched begins) q) refl) in
          record {
            runs = runs_agree place boot begins procedures at_boot b few active_boot (began begins first q) q p r one other from
                (subst (λ state. For state p one) (state_then p one h active) (since p one h))
                (subst (λ state. For state r other) (state_then r other k active) (since r other k))
                [] one.runs other.runs refl refl;
            from = inl from;
          }
      by_active false inactive =
          let one_late = none_started place boot begins procedures at_boot b few active_boot (began begins first p) q p one (since p one h) inactive in
          let other_late = none_started place boot begins procedures at_boot b few active_boot (began begins first r) q r other (since r other k) inactive in
          record { runs = all_late (now q) one.runs other.runs one_late other_late; from = inr (one_late, other_late) }
