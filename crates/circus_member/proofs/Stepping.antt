-- What a step comes to, part by part.
use Rattle.std.proofs.Common.{◌≡◌, ℕ, ◌≤◌, List, [], length, Option, sym, subst, ap, ◌∙◌}
use Rattle.circus_value.specs.ValueTree.{ValueTree}
use Rattle.circus_value.specs.declared.outcome.Outcome.{Outcome}
use Rattle.circus_model.specs.declared.signature.Signature.{Signature}
use Rattle.circus_model.specs.NextTurn.{NextTurn}
use Rattle.circus_model.specs.Behaviour.{IsModule}
use Rattle.circus_performing.specs.Record.{behaviour}
use Rattle.circus_member_rules.specs.declared.closing.Concern.{Concern}
use Rattle.circus_member_rules.specs.declared.occurrence.AskName.{AskName}
use Rattle.circus_member_rules.specs.declared.occurrence.Occurrence.{Occurrence}
use Rattle.circus_member_rules.specs.MemberState.{MemberState, Doing, behind}
use Rattle.circus_member_rules.specs.Step.{handle, execute, look_up, step_member}
use Rattle.circus_member_rules.specs.Seen.Closing.{concern_of, closed_by}
use Rattle.circus_member_rules.specs.GoneOn.{HasGoneOn}
use Rattle.circus_member_rules.specs.Seen.Sound.{IsSound, IsRested}
use Rattle.circus_member_rules.proofs.Starting.{IsSoundNow, sound_executed}
use Rattle.circus_member_rules.proofs.Resting.{rested}
use Rattle.circus_member_rules.proofs.Unsettled.{waited_by, closed_same}
use Rattle.circus_member_rules.proofs.Done.{executed_done, still_done}

-- a member that rests is a step that has made nothing
pub begun_so : {M : Type 0} (d : Doing M) (m : MemberState M) → d.member ≡ m → d.effects ≡ [] → d ≡ (let b : Doing M = record { member = m; effects = [] } in b)
begun_so {M} d m member effects = λ j. let b : Doing M = record { member = member j; effects = effects j } in b

module _ {M : Type 0} (declared : M → Signature) (turn : M → List ValueTree → ℕ → List ValueTree → List Outcome → NextTurn) (first : M → List ValueTree) (at : ℕ) (o : Occurrence) (m : MemberState M) where
  -- what happens is handled, goes on, and is closed
  pub record Goes (begun h d e : Doing M) (c : Concern) (waited : Option AskName) : Type 0 where
    pub begins : begun ≡ (let b : Doing M = record { member = m; effects = [] } in b)
    pub handles : h ≡ behind begun (handle at o begun.member)
    pub sound : IsSound (behaviour declared turn first h.member.performing.hosted) h.member
    pub executes : d ≡ execute declared turn at h
    pub concerns : c ≡ concern_of o
    pub waits : waited ≡ waited_by m
    pub closes : e ≡ closed_by c waited d

  module _ (lawful : (hosted : M) → IsModule (behaviour declared turn first hosted)) (rest : IsRested (behaviour declared turn first m.performing.hosted) m) (begun h d e : Doing M) (c : Concern) (waited : Option AskName) (goes : Goes begun h d e c waited) where
    abbrev done : Doing M
    done = execute declared turn at (handle at o m)

    handled_is : h ≡ handle at o m
    handled_is = goes.handles ∙ ap (λ (x : Doing M). behind x (handle at o x.member)) goes.begins

    sound_done : IsSoundNow declared turn first lawful done.member
    sound_done =
        sound_executed declared turn first lawful at (handle at o m)
        (subst (λ (x : Doing M). IsSoundNow declared turn first lawful x.member) handled_is goes.sound)

    closed_is : e ≡ closed_by (concern_of o) (waited_by m) done
    closed_is =
        goes.closes
        ∙ ap (λ x. closed_by x waited d) goes.concerns
        ∙ ap (λ w. closed_by (concern_of o) w d) goes.waits
        ∙ ap (λ x. closed_by (concern_of o) (waited_by m) x) (goes.executes ∙ ap (execute declared turn at) handled_is)

    -- there are few views
    pub few_views : length e.member.known.views ≤ 32
    few_views = subst (λ (x : Doing M). length x.member.known.views ≤ 32) (sym closed_is) sound_done.home.few

    -- it comes to the step
    pub ends_so : (f : Doing M) → f ≡ look_up e → f ≡ step_member declared turn at o m
    ends_so f looks = looks ∙ ap look_up (closed_is ∙ closed_same m rest.closed declared turn at o sound_done.names)

    -- where the member is at rest
    pub rests : (f : Doing M) → f ≡ look_up e → IsRested (behaviour declared turn first f.member.performing.hosted) f.member
    rests f looks =
        subst (λ (x : Doing M). IsRested (behaviour declared turn first x.member.performing.hosted) x.member) (sym (ends_so f looks))
        (rested (behaviour declared turn first done.member.performing.hosted) done sound_done)

    -- and has gone on as far as it can
    pub has_gone_on : (f : Doing M) → f ≡ look_up e → HasGoneOn f.member
    has_gone_on f looks =
        subst (λ (x : Doing M). HasGoneOn x.member) (sym (ends_so f looks))
        (still_done done (executed_done declared turn first lawful at (handle at o m)
        (subst (λ (x : Doing M). IsSoundNow declared turn first lawful x.member) handled_is goes.sound)))
