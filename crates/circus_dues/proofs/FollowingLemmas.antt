-- A walk along a record decides whether it is one of its module.
use native.Mathlib.Numerals.{unary_clauses}
use Rattle.std.proofs.Common.{◌≡◌, ℕ, ◌+◌, ◌-◌, ◌⊎◌, ◌↔◌, inl, inr, Bool, true, false, true≢false, min, List, [], ◌∷◌, ◌++◌, length, Option, None, Some, refl, sym, ap, subst, ◌∙◌, arith, eqb-true}
use Rattle.std.proofs.lemmas.List.{nil_from_length}
use Rattle.std.specs.Prelude.{◌==◌, slice_get, unwrap_or}
use Rattle.std.specs.Bool.{Decides}
use Rattle.circus_value.specs.ValueTree.{ValueTree}
use Rattle.circus_value.specs.declared.outcome.Outcome.{Outcome}
use Rattle.circus_model.specs.Behaviour.{Behaviour, IsModule}
use Rattle.circus_model.specs.Gives.{Gives}
use Rattle.circus_model.specs.Lawful.{IsState, CanStart, ReplyFits, RepliesFit, IsLawful}
use Rattle.circus_model.specs.NextTurn.{NextTurn, asks}
use Rattle.circus_model.specs.declared.signature.Signature.{Signature}
use Rattle.circus_model.specs.declared.turn.Turn.{Turn}
use Rattle.circus_model.specs.declared.turn.Turn.TheVariants as T
use Rattle.circus_model.proofs.Turning.{fits_more}
use Rattle.circus_record.specs.declared.record.AskRecord.{AskRecord}
use Rattle.circus_record.specs.declared.record.MemberRecord.{MemberRecord}
use Rattle.circus_record.specs.declared.record.RunRecord.{RunRecord}
use Rattle.circus_performing.specs.Performing.{replies_of, last_count, is_active}
use Rattle.circus_performing.specs.Record.{count_after, IsRecord}
use Rattle.circus_dues.specs.WalkRecord.{IsTurnOf, HasReply, StillWaits, GoesToEnd, GoesToWait, GoesOn, RunsToEnd, state_asked, GoOn}
use Rattle.circus_dues.specs.Seen.Following.{IsTaken, next_of, WaitsBehind, IsAsk, IsAnswer, IsRunOf}
use Rattle.circus_dues.proofs.WalkRecord.{from_end, from_wait, goes_either, end_goes, wait_goes, record_goes, goes_record}

none_not_some : {X : Type 0} (o : Option X) (x : X) → o ≡ None → o ≡ Some x → ⊥
none_not_some {X} o x none some = (let clash : ◌≡◌ {A = Option X} None (Some x) = sym none ∙ some in cc)

some_same : {X : Type 0} (o : Option X) (x y : X) → o ≡ Some x → o ≡ Some y → x ≡ y
some_same {X} o x y one other = (let both : ◌≡◌ {A = Option X} (Some x) (Some y) = sym one ∙ other in cc)

last_place : {X : Type 0} (x y : X) (rest : List X) → slice_get (x ∷ y ∷ rest) (length (x ∷ y ∷ rest) - 1) ≡ slice_get (y ∷ rest) (length (y ∷ rest) - 1)
last_place x y rest = simp unary_clauses refl

-- the state of the last ask
pub asked_last : (before : List ValueTree) (asks : List AskRecord) (ask : AskRecord) → slice_get asks (length asks - 1) ≡ Some ask → state_asked before asks ≡ ask.state
asked_last before [] ask is = absurd (none_not_some {X = AskRecord} None ask refl is)
asked_last before (x ∷ []) ask is = ap (λ (a : AskRecord). a.state) (some_same (Some x) x ask refl is)
asked_last before (x ∷ y ∷ rest) ask is = asked_last x.state (y ∷ rest) ask (sym (last_place x y rest) ∙ is)

-- ---- what a test decides

pub refutes : {Q : Type 0} (r : Bool) → Decides r Q → r ≡ false → Q → ⊥
refutes r d is q = true≢false (sym (d.1 q) ∙ is)

pub decides_not : {Q : Type 0} → (Q → ⊥) → Decides false Q
decides_not none = (λ is. absurd (true≢false (sym is)), λ q. absurd (none q))

-- where the first of two holds, the second decides
pub second_decides : {Q A B : Type 0} (r s : Bool) → (Q ↔ (A × B)) → A → Decides s B → r ≡ s → Decides r Q
second_decides r s is a d same = (λ t. is.1 (a, d.0 (sym same ∙ t)), λ q. same ∙ d.1 (is.0 q).1)

-- where it doesn't, none does
pub first_decides : {Q A B : Type 0} (r : Bool) → (Q ↔ (A × B)) → (A → ⊥) → r ≡ false → Decides r Q
first_decides r is none test = (λ t. absurd (true≢false (sym t ∙ test)), λ q. absurd (none (is.0 q).0))

pub is_nil : {X : Type 0} (l : List X) (r : Bool) → r ≡ (length l == 0) → r ≡ true → l ≡ []
is_nil l r is t = nil_from_length l (eqb-true (length l) 0 (sym is ∙ t))

pub not_nil : {X : Type 0} (l : List X) (r : Bool) → r ≡ (length l == 0) → r ≡ false → l ≡ [] → ⊥
not_nil {X} l r is f none = true≢false (sym (is ∙ ap (λ (k : List X). length k == 0) none) ∙ f)

-- ---- a run

pub may_start : (signature : Signature) (state : List ValueTree) (procedure : ℕ) (arguments : List ValueTree) → IsState signature state → IsTaken signature procedure arguments → CanStart signature state procedure arguments
may_start signature state procedure arguments is taken = record { from_state = is; fit = taken.fit; within = taken.within }

module _ {P : Type 0} (stands : P → List ValueTree → ℕ → List ValueTree → List Outcome → Type 0) (b : Behaviour) (state : List ValueTree) (run : RunRecord) where
  abbrev Stands : List Outcome → P → Type 0
  Stands replies paused = stands paused state run.procedure run.arguments replies

  abbrev turn_on : List Outcome → NextTurn
  turn_on replies = b.turn state run.procedure run.arguments replies

  -- the turn is that on some replies, and the asks that are left decide
  pub record IsPassing (turn : Turn P) (clock : List ℕ) (step : ℕ) (left : List AskRecord) : Type 0 where
    pub replies : List Outcome
    pub fit : RepliesFit b.declared.imports turn_on [] replies
    pub gives : Gives (Stands replies) (turn_on replies) turn
    pub decides : GoesOn b state run [] run.entry run.started run.asks ↔ GoesOn b state run replies clock step left

  next_is : (next : NextTurn) (S : P → Type 0) (turn : Turn P) → Gives S next turn → next_of turn ≡ next
  next_is next S (T.Asks callee procedure arguments asked paused) gives = sym gives.0
  next_is next S (T.Ends outcome after) gives = sym gives

  stands_behind : (next : NextTurn) (S : P → Type 0) (turn : Turn P) (paused : P) → Gives S next turn → WaitsBehind turn paused → S paused
  stands_behind next S (T.Asks callee procedure arguments asked waits) paused gives is = subst S is gives.1
  stands_behind next S (T.Ends outcome after) paused gives is = absurd is

  module _ (turn : Turn P) (clock : List ℕ) (step : ℕ) where
    is_turn : (replies : List Outcome) (ask : AskRecord) → Gives (Stands replies) (turn_on replies) turn → IsAsk (next_of turn) clock step ask → IsTurnOf b state run replies clock step ask
    is_turn replies ask gives is = record { turn = sym (next_is (turn_on replies) (Stands replies) turn gives) ∙ is.turn; index = is.index; asked = is.asked }

    abbrev has_reply : (ask : AskRecord) (reply : Outcome) (after : List ℕ) (answered : ℕ) → IsAnswer b.declared clock ask reply after answered → HasReply b state run clock ask
    has_reply ask reply after answered a = record { reply = reply; after = after; answered = answered; reply_is = a.shown.reply_is; after_is = a.shown.after_is; answered_is = a.shown.answered_is; fits = a.fits; refused = a.refused }

    is_answer : (ask : AskRecord) (a : HasReply b state run clock ask) → IsAnswer b.declared clock ask a.reply a.after a.answered
    is_answer ask a = record { shown = record { reply_is = a.reply_is; after_is = a.after_is; answered_is = a.answered_is }; fits = a.fits; refused = a.refused }

    -- the ask has no reply that it may have
    pub not_answered : (ask : AskRecord) (left : List AskRecord) → CanStart b.declared state run.procedure run.arguments → IsPassing turn clock step (ask ∷ left) → IsAsk (next_of turn) clock step ask → ((reply : Outcome) (after : List ℕ) (answered : ℕ) → IsAnswer b.declared clock ask reply after answered → ⊥) → IsRunOf b state run ↔ ((left ≡ []) × StillWaits b state run clock ask)
    not_answered ask left can i is none = (λ r. by_next (i.decides.0 r.goes).1, λ w. record { may_start = can; goes = i.decides.1 (is_turn i.replies ask i.gives is, inl (w.1, w.0)) })
      where
        by_next : (StillWaits b state run clock ask × (left ≡ [])) ⊎ ((a : HasReply b state run clock ask) × GoesOn b state run (i.replies ++ a.reply ∷ []) a.after a.answered left) → (left ≡ []) × StillWaits b state run clock ask
        by_next (inl w) = (w.1, w.0)
        by_next (inr more) = absurd (none more.0.reply more.0.after more.0.answered (is_answer ask more.0))

    reply_fits : (next : NextTurn) (ask : AskRecord) (reply : Outcome) (after : List ℕ) (answered : ℕ) → next ≡ asks ask.callee ask.procedure ask.arguments ask.state → IsAnswer b.declared clock ask reply after answered → ReplyFits b.declared.imports next reply
    reply_fits next ask reply after answered is a = subst (λ n. ReplyFits b.declared.imports n reply) (sym is) a.fits

    onward : (replies : List Outcome) (ask : AskRecord) (left : List AskRecord) (reply : Outcome) (after : List ℕ) (answered : ℕ) → IsTurnOf b state run replies clock step ask → IsAnswer b.declared clock ask reply after answered → GoesOn b state run replies clock step (ask ∷ left) ↔ GoesOn b state run (replies ++ reply ∷ []) after answered left
    onward replies ask left reply after answered is a = (λ goes. by_next goes.1, λ goes. (is, inr (has_reply ask reply after answered a, goes)))
      where
        by_next : (StillWaits b state run clock ask × (left ≡ [])) ⊎ ((h : HasReply b state run clock ask) × GoesOn b state run (replies ++ h.reply ∷ []) h.after h.answered left) → GoesOn b state run (replies ++ reply ∷ []) after answered left
        by_next (inl w) = absurd (none_not_some ask.reply reply w.0.no_reply a.shown.reply_is)
        by_next (inr more) =
            subst (λ r. GoesOn b state run (replies ++ r ∷ []) after answered left) (some_same ask.reply more.0.reply reply more.0.reply_is a.shown.reply_is)
            (subst (λ k. GoesOn b state run (replies ++ more.0.reply ∷ []) k answered left) (some_same ask.after more.0.after after more.0.after_is a.shown.after_is)
            (subst (λ s. GoesOn b state run (replies ++ more.0.reply ∷ []) more.0.after s left) (some_same ask.answered more.0.answered answered more.0.answered_is a.shown.answered_is) more.1))

    -- the run goes on with the reply
    pub goes_with : (ask : AskRecord) (left : List AskRecord) (paused : P) (reply : Outcome) (after : List ℕ) (answered : ℕ) (later : Turn P) → IsPassing turn clock step (ask ∷ left) → WaitsBehind turn paused → IsAsk (next_of turn) clock step ask → IsAnswer b.declared clock ask reply after answered
        → ((s : List ValueTree) (p : ℕ) (a : List ValueTree) (replies : List Outcome) → stands paused s p a replies → Gives (λ q. stands q s p a (replies ++ reply ∷ [])) (b.turn s p a (replies ++ reply ∷ [])) later)
        → IsPassing later after answered left
    goes_with ask left paused reply after answered later i waits is a resumed =
        let turn_is = is_turn i.replies ask i.gives is in
        let on = onward i.replies ask left reply after answered turn_is a in
        record {
          replies = i.replies ++ reply ∷ [];
          fit = fits_more b.declared.imports turn_on [] i.replies reply i.fit (reply_fits (turn_on i.replies) ask reply after answered turn_is.turn a);
          gives = resumed state run.procedure run.arguments i.replies (stands_behind (turn_on i.replies) (Stands i.replies) turn paused i.gives waits);
          decides = (λ goes. on.0 (i.decides.0 goes), λ goes. i.decides.1 (on.1 goes));
        }

-- ---- all runs

module _ (b : Behaviour) (kept : MemberRecord) where
  -- a record that goes on in a state goes on in one of the module
  pub goes_from_state : (number : ℕ) (state : List ValueTree) (runs : List RunRecord) → GoOn b kept number state runs → IsState b.declared state
  goes_from_state number state [] on = subst (IsState b.declared) on.1 on.2
  goes_from_state number state (run ∷ runs) (inl h) = h.0.may_start.from_state
  goes_from_state number state (run ∷ runs) (inr h) = h.0.may_start.from_state

  module _ (began : List ValueTree) where
    -- so many runs have passed, and those that are left decide
    pub record IsAlong (state : List ValueTree) (count : ℕ) (left : List RunRecord) : Type 0 where
      pub number : ℕ
      pub counted : count ≡ count_after kept.from number
      pub from_state : IsState b.declared state
      pub decides : GoOn b kept 0 began kept.runs ↔ GoOn b kept number state left

    module _ (state : List ValueTree) (count : ℕ) where
      is_run : (number : ℕ) (run : RunRecord) (left : List RunRecord) → GoOn b kept number state (run ∷ left) → IsRunOf b state run
      is_run number run left (inl h) = record { may_start = h.0.may_start; goes = end_goes b state run [] run.entry run.started run.asks h.0.goes }
      is_run number run left (inr h) = record { may_start = h.0.may_start; goes = wait_goes b state run [] run.entry run.started run.asks h.0.goes }

      pub not_a_run : (run : RunRecord) (left : List RunRecord) → IsAlong state count (run ∷ left) → (IsRunOf b state run → ⊥) → GoOn b kept 0 began kept.runs → ⊥
      not_a_run run left i other on = other (is_run i.number run left (i.decides.0 on))

      has_state : (run : RunRecord) → RunsToEnd b state run → run.state ≡ None → ⊥
      has_state run r none = let e = from_end b state run r in none_not_some run.state e.after none e.state_is

      pub waits_there : (run : RunRecord) (left : List RunRecord) → IsAlong state count (run ∷ left) → IsRunOf b state run → run.state ≡ None → GoOn b kept 0 began kept.runs ↔ ((left ≡ []) × ((kept.count ≡ count) × (kept.state ≡ state_asked state run.asks)))
      waits_there run left i r none = (λ on. by_run (i.decides.0 on), λ w. i.decides.1 (back w (goes_either b state run [] run.entry run.started run.asks r.goes)))
        where
          by_run : GoOn b kept i.number state (run ∷ left) → (left ≡ []) × ((kept.count ≡ count) × (kept.state ≡ state_asked state run.asks))
          by_run (inl h) = absurd (has_state run h.0 none)
          by_run (inr h) = (h.1, (h.2 ∙ sym i.counted, h.3))

          back : (left ≡ []) × ((kept.count ≡ count) × (kept.state ≡ state_asked state run.asks)) → GoesToEnd b state run [] run.entry run.started run.asks ⊎ GoesToWait b state run [] run.entry run.started run.asks → GoOn b kept i.number state (run ∷ left)
          back w (inl ended) = absurd (has_state run (record { may_start = r.may_start; goes = ended }) none)
          back w (inr waits) = inr (record { may_start = r.may_start; goes = waits }, w.0, w.1.0 ∙ i.counted, w.1.1)

      ends_there : (run : RunRecord) (after : List ValueTree) → IsRunOf b state run → run.state ≡ Some after → RunsToEnd b state run
      ends_there run after r some = by_way (goes_either b state run [] run.entry run.started run.asks r.goes)
        where
          by_way : GoesToEnd b state run [] run.entry run.started run.asks ⊎ GoesToWait b state run [] run.entry run.started run.asks → RunsToEnd b state run
          by_way (inl ended) = record { may_start = r.may_start; goes = ended }
          by_way (inr waits) = absurd (none_not_some run.state after (from_wait b state run (record { may_start = r.may_start; goes = waits })).no_state some)

      state_behind : IsModule b → (run : RunRecord) (after : List ValueTree) → RunsToEnd b state run → run.state ≡ Some after → IsState b.declared after
      state_behind lawful run after r some =
          let e = from_end b state run r in
          let law = subst (IsLawful b.declared run.procedure (length (replies_of run.asks))) e.turn (lawful.turns_are_lawful state run.procedure run.arguments (replies_of run.asks) e.made.may_start e.made.replies_fit) in
          subst (IsState b.declared) (some_same run.state e.after after e.state_is some) law.1

      pub goes_behind : IsModule b → (run : RunRecord) (left : List RunRecord) (after : List ValueTree) (next : ℕ) → IsAlong state count (run ∷ left) → IsRunOf b state run → run.state ≡ Some after → next ≡ min (count + 1) last_count → IsAlong after next left
      goes_behind lawful run left after next i r some more =
          let r_end = ends_there run after r some in
          let s : unwrap_or run.state state ≡ after = ap (λ o. unwrap_or o state) some in
          record {
            number = i.number + 1;
            counted = omega (arith, more, i.counted);
            from_state = state_behind lawful run after r_end some;
            decides = (λ on. by_run s (i.decides.0 on), λ on. i.decides.1 (inl (r_end, subst (λ x. GoOn b kept (i.number + 1) x left) (sym s) on)));
          }
        where
          by_run : unwrap_or run.state state ≡ after → GoOn b kept i.number state (run ∷ left) → GoOn b kept (i.number + 1) after left
          by_run s (inl h) = subst (λ x. GoOn b kept (i.number + 1) x left) s h.1
          by_run s (inr h) = absurd (none_not_some run.state after (from_wait b state run h.0).no_state some)

-- ---- a record

module _ (b : Behaviour) (began : List ValueTree) (kept : MemberRecord) where
  -- the runs decide, where they may be there
  pub runs_decide : (r : Bool) → (is_active kept.phase ≡ false → kept.runs ≡ []) → Decides r (GoOn b kept 0 began kept.runs) → Decides r (IsRecord b began kept)
  runs_decide r inactive d = (λ is. goes_record b began kept (d.0 is) inactive, λ is. d.1 (record_goes b began kept is))

  pub began_in : IsRecord b began kept → IsState b.declared began
  began_in is = goes_from_state b kept 0 began kept.runs (record_goes b began kept is)
