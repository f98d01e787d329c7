-- What an execution leaves as it is.
use Rattle.std.proofs.Common.{◌≡◌, ℕ, List, refl, ap, ◌∙◌}
use Rattle.circus_value.specs.ValueTree.{ValueTree}
use Rattle.circus_value.specs.declared.outcome.Outcome.{Outcome}
use Rattle.circus_header.specs.declared.answer.Reply.{Reply}
use Rattle.circus_model.specs.declared.signature.Signature.{Signature}
use Rattle.circus_model.specs.NextTurn.{NextTurn}
use Rattle.circus_model.specs.Behaviour.{IsModule}
use Rattle.circus_record.specs.declared.record.MemberRecord.{MemberRecord}
use Rattle.circus_performing.specs.Record.{behaviour}
use Rattle.circus_performing.proofs.Records.{answered_is}
use Rattle.circus_member_rules.specs.MemberState.{MemberState, Doing}
use Rattle.circus_member_rules.proofs.Entering.{HasValue, with_answered}
use Rattle.circus_member_rules.proofs.Starting.{IsSoundNow}
use Rattle.circus_member_rules.proofs.Writing.{one_is_performing}
use Rattle.circus_headline_theory.proofs.Owed.Going.{behaves, Keeps}

-- what a member knows, requires and has become, but for its runs
pub record IsSame {M : Type 0} (m n : MemberState M) : Type 0 where
  pub place : n.place ≡ m.place
  pub known : n.known ≡ m.known
  pub own : n.gathered.module ≡ m.gathered.module
  pub from : n.gathered.from ≡ m.gathered.from
  pub required : n.gathered.required ≡ m.gathered.required
  pub hosted : n.performing.hosted ≡ m.performing.hosted
  pub began : n.performing.began ≡ m.performing.began
  pub phase : n.performing.kept.phase ≡ m.performing.kept.phase
  pub start : n.performing.kept.from ≡ m.performing.kept.from

pub is_same : {M : Type 0} (m : MemberState M) → IsSame m m
is_same m = record { place = refl; known = refl; own = refl; from = refl; required = refl; hosted = refl; began = refl; phase = refl; start = refl }

module _ {M : Type 0} (declared : M → Signature) (turn : M → List ValueTree → ℕ → List ValueTree → List Outcome → NextTurn) (first : M → List ValueTree) (lawful : (hosted : M) → IsModule (behaviour declared turn first hosted)) (step : ℕ) (m : MemberState M) where
  abbrev pub Stays : Doing M → Type 0
  Stays d = IsSame m d.member

  -- with another record of this phase and beginning
  with_kept : (d : Doing M) (kept : MemberRecord) → kept.phase ≡ d.member.performing.kept.phase → kept.from ≡ d.member.performing.kept.from → Stays d
      → Stays (record d { member = record d.member { performing = record d.member.performing { kept = kept } } })
  with_kept d kept phase from h =
      record {
        place = h.place;
        known = h.known;
        own = h.own;
        from = h.from;
        required = h.required;
        hosted = h.hosted;
        began = h.began;
        phase = phase ∙ h.phase;
        start = from ∙ h.start;
      }

  answers : (d : Doing M) (reply : Reply) → IsSoundNow declared turn first lawful d.member → HasValue (behaves declared turn first lawful d) d.member reply → Stays d
      → Stays (record d { member = with_answered (behaves declared turn first lawful d) (lawful d.member.performing.hosted) d.member step reply })
  answers d reply sound value h =
      let b = behaves declared turn first lawful d in
      let law = lawful d.member.performing.hosted in
      let kept = d.member.performing.kept in
      let began = d.member.performing.began in
      let p = one_is_performing b began kept sound.kept value.ask value.is_open in
      let is = answered_is b law began kept p step reply.outcome reply.clock in
      let later = with_answered b law d.member step reply in
      with_kept d later.performing.kept (ap (λ (x : MemberRecord). x.phase) is) (ap (λ (x : MemberRecord). x.from) is) h

  pub stays_keeps : Keeps declared turn first lawful step Stays Stays
  stays_keeps =
      record {
        gives = λ d sound idle h. record { place = h.place; known = h.known; own = h.own; from = h.from; required = h.required; hosted = h.hosted; began = h.began; phase = h.phase; start = h.start };
        enters = λ d start sound may none h. record { place = h.place; known = h.known; own = h.own; from = h.from; required = h.required; hosted = h.hosted; began = h.began; phase = h.phase; start = h.start };
        answers = answers;
        opens = λ d run ask view turned at is there h. record { place = h.place; known = h.known; own = h.own; from = h.from; required = h.required; hosted = h.hosted; began = h.began; phase = h.phase; start = h.start };
        ends = λ d run turned at none h. record { place = h.place; known = h.known; own = h.own; from = h.from; required = h.required; hosted = h.hosted; began = h.began; phase = h.phase; start = h.start };
      }
