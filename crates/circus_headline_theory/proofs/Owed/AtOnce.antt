-- What is returned at once of what comes: to which of the calls that wait, and to the call that comes.
use Rattle.std.proofs.Common.{◌≡◌, ℕ, Bool, true, false, not, if◌then◌else◌, List, [], ◌∷◌, ◌++◌, filter, Some, None, refl, sym, ap, ◌∙◌, append-nil}
use Rattle.std.specs.Prelude.{max}
use Rattle.circus_value.specs.ValueTree.{ValueTree}
use Rattle.circus_value.specs.declared.caller.Caller.{Caller}
use Rattle.circus_header.specs.declared.call.CallHeader.{CallHeader}
use Rattle.circus_gather.specs.Gathering.{Gathered, answer_to, is_held, is_stale, is_before, with_first, callers}
use Rattle.circus_gather.specs.declared.added.Added.{Added}
use Rattle.circus_gather.specs.declared.held.HeldCall.{HeldCall}
use Rattle.circus_performing.specs.Performing.{is_fetching, made_active}
use Rattle.circus_member_rules.specs.declared.occurrence.Effect.{Effect}
use Rattle.circus_member_rules.specs.declared.occurrence.Occurrence.{Occurrence}
use Rattle.circus_member_rules.specs.declared.occurrence.Occurrence.TheVariants as comes
use Rattle.circus_member_rules.specs.Messages.{stale_message, before_message}
use Rattle.circus_member_rules.specs.Rules.{answers, answer_at_once, wanted_by_call, stale_answers, active_call, before_answers}
use Rattle.circus_member_rules.specs.MemberState.{MemberState, Doing}
use Rattle.circus_member_rules.specs.Step as step
use Rattle.circus_member_rules.specs.Step.{handle}
use Rattle.circus_headline_theory.proofs.Owed.Handling.{due, neither}

pub all_stay : {X : Type 0} (xs : List X) → filter (λ x. true) xs ≡ xs
all_stay [] = refl
all_stay (x ∷ xs) = ap (λ l. x ∷ l) (all_stay xs)

none_answered : (held : List HeldCall) → answers [] (callers (filter (λ c. false) held)) ≡ []
none_answered [] = refl
none_answered (x ∷ held) = none_answered held

module _ {M : Type 0} (m : MemberState M) where
  -- the returns that are made of what comes
  abbrev pub at_once : Occurrence → List Effect
  at_once (comes.Asked header body sender) = answer_at_once (answer_to m.gathered header) sender
  at_once (comes.Fetched incarnation sender) = stale_answers m.gathered incarnation
  at_once (comes.Restored state count) = if is_fetching m.performing.kept.phase then before_answers m.gathered count else []
  at_once _ = []

  -- the call that comes: where it is held, and what it gets else
  abbrev pub held_now : Occurrence → List HeldCall
  held_now (comes.Asked header body sender) =
      let call : HeldCall = record { header = header; body = body; sender = sender } in
      if is_held (answer_to m.gathered header) then call ∷ [] else []
  held_now _ = []

  abbrev pub answered_now : Occurrence → List Effect
  answered_now (comes.Asked header body sender) = answer_at_once (answer_to m.gathered header) sender
  answered_now _ = []

  -- some of the calls that were held get this return, and the others are held still
  pub record Sorts (d : Doing M) (came : List HeldCall) (new returns : List Effect) : Type 0 where
    pub passes : HeldCall → Bool
    pub message : List ℕ
    pub held : d.member.gathered.held ≡ filter (λ c. not (passes c)) m.gathered.held ++ came
    pub returns_are : returns ≡ answers message (callers (filter passes m.gathered.held)) ++ new
    pub owed : (call : HeldCall) → due m.gathered call ≡ None → due d.member.gathered call ≡ (if passes call then Some message else None)
    pub own : d.member.gathered.module ≡ m.gathered.module
    pub replies : d.member.gathered.replies ≡ m.gathered.replies

  -- where none of them does, and they are the same
  sorts_none : (d : Doing M) → d.member.gathered ≡ m.gathered → Sorts d [] [] []
  sorts_none d same =
      let held = m.gathered.held in
      record {
        passes = λ c. false;
        message = [];
        held = ap (λ (g : Gathered). g.held) same ∙ sym (all_stay held) ∙ sym (append-nil (filter (λ c. true) held));
        returns_are = sym (ap (λ l. l ++ []) (none_answered held));
        owed = λ call is. ap (λ (g : Gathered). due g call) same ∙ is;
        own = ap (λ (g : Gathered). g.module) same;
        replies = ap (λ (g : Gathered). g.replies) same;
      }

  sorts_asked : (header : CallHeader) (body : List ℕ) (sender : Caller) → let o = comes.Asked header body sender in Sorts (step.handle_call m header body sender) (held_now o) (answered_now o) (at_once o)
  sorts_asked header body sender = by_test (is_held added)
    where
      call : HeldCall
      call = record { header = header; body = body; sender = sender }

      added : Added
      added = answer_to m.gathered header

      new : List Effect
      new = answer_at_once added sender

      by_test : (b : Bool) → let d : Doing M = record { member = record m { gathered = if b then record m.gathered { held = m.gathered.held ++ call ∷ [] } else m.gathered; known = wanted_by_call added header m.known }; effects = new } in
          Sorts d (if b then call ∷ [] else []) new new
      by_test true =
          let held = m.gathered.held in
          record {
            passes = λ c. false;
            message = [];
            held = ap (λ l. l ++ call ∷ []) (sym (all_stay held));
            returns_are = ap (λ l. l ++ new) (sym (none_answered held));
            owed = λ c is. is;
            own = refl;
            replies = refl;
          }
      by_test false =
          let held = m.gathered.held in
          record {
            passes = λ c. false;
            message = [];
            held = sym (all_stay held) ∙ sym (append-nil (filter (λ c. true) held));
            returns_are = ap (λ l. l ++ new) (sym (none_answered held));
            owed = λ c is. is;
            own = refl;
            replies = refl;
          }

  sorts_fetched : (incarnation : ℕ) (sender : Caller) → Sorts (step.handle_fetch m incarnation sender) [] [] (stale_answers m.gathered incarnation)
  sorts_fetched incarnation sender =
      let g = m.gathered in
      let required = max g.required incarnation in
      record {
        passes = is_stale g required;
        message = stale_message required;
        held = sym (append-nil (filter (λ c. not (is_stale g required c)) g.held));
        returns_are = sym (append-nil (stale_answers g incarnation));
        owed = λ call is. ap (λ b. if is_stale g required call then Some (stale_message required) else if b then Some (before_message g.from) else None) ((neither (is_stale g g.required call) (is_before g g.from call) _ _ is).1);
        own = refl;
        replies = refl;
      }

  sorts_restored : (at : ℕ) (state : List ValueTree) (count : ℕ) → Sorts (step.handle_state at m state count) [] [] (at_once (comes.Restored state count))
  sorts_restored at state count = by_test (is_fetching m.performing.kept.phase)
    where
      by_test : (b : Bool) → let d : Doing M = if b then record { member = record m { performing = made_active at state count m.performing; gathered = with_first m.gathered count }; effects = active_call m.place m.known count ++ before_answers m.gathered count } else record { member = m; effects = [] } in
          Sorts d [] [] (if b then before_answers m.gathered count else [])
      by_test false = sorts_none (record { member = m; effects = [] }) refl
      by_test true =
          let g = m.gathered in
          record {
            passes = is_before g count;
            message = before_message count;
            held = sym (append-nil (filter (λ c. not (is_before g count c)) g.held));
            returns_are = sym (append-nil (before_answers g count));
            owed = λ call is. ap (λ b. if b then Some (stale_message g.required) else if is_before g count call then Some (before_message count) else None) ((neither (is_stale g g.required call) (is_before g g.from call) _ _ is).0);
            own = refl;
            replies = refl;
          }

  pub sorts : (at : ℕ) (o : Occurrence) → Sorts (handle at o m) (held_now o) (answered_now o) (at_once o)
  sorts at (comes.Asked header body sender) = sorts_asked header body sender
  sorts at (comes.Fetched incarnation sender) = sorts_fetched incarnation sender
  sorts at (comes.Replied name from reply) = sorts_none (step.handle_reply m name from reply) refl
  sorts at (comes.IsStale name server from incarnation) = sorts_none (step.handle_stale m name server from incarnation) refl
  sorts at (comes.IsBefore name from) = sorts_none (step.before m name from) refl
  sorts at (comes.Told request table) = sorts_none (step.handle_table m request table) refl
  sorts at (comes.Restored state count) = sorts_restored at state count
  sorts at (comes.Declared node) = sorts_none (step.declared_down m node) refl
  sorts at comes.Joins = sorts_none (step.joins m) refl
