use Rattle.std.proofs.Common.{◌&&◌, ◌++◌, not, refl, sym, ap, subst, append_assoc, ◌∙◌}
use Rattle.std.specs.Prelude.{is_none}
use Rattle.std.proofs.lemmas.List.{append-nil}
use Rattle.circus_dues.specs.Seen.Owing.{left_of, starts_by, entered_all, made_entering, made_entering_all, entered}
use Rattle.circus_dues.specs.Seen.Sound.{IsSoundOwing}
use Rattle.circus_dues.proofs.Entering.{and_false, none_is, some_is, entered_smaller, none_entered, none_made, none_starting, none_made_starting, all_started, all_made, one_entered, one_made}
use Rattle.circus_dues.proofs.SoundStages.{sound_entered, sound_owes, sound_enters, sound_next}
use Rattle.circus_dues.proofs.owing.Owing.start_runs.Goals as goal

pub loop-self-init : goal.loop-self-init
loop-self-init c = (c.requires, refl, refl)

pub returns-after-loop-self-clause-kept : goal.returns-after-loop-self-clause-kept
returns-after-loop-self-clause-kept c =
    let place = c.args.of.now.place.now in
    let kept = c.args.of.now.kept.now in
    let procedures = c.args.of.now.signature.now.procedures in
    let d = c.loop-self.self in
    sym (none_entered place kept c.args.at procedures (left_of kept d) d (ap (λ b. b && is_none d.walk.asked) c.loop-self-test.false))
    ∙ c.loop-self.invariant.1
    ∙ sym (all_started place kept c.args.at procedures c.args.self.now (sym c.if-not-is_active.ensures))

pub returns-else-is_none-clause-kept : goal.returns-else-is_none-clause-kept
returns-else-is_none-clause-kept c =
    let place = c.args.of.now.place.now in
    let kept = c.args.of.now.kept.now in
    let procedures = c.args.of.now.signature.now.procedures in
    let d = c.loop-self.self in
    sym (none_entered place kept c.args.at procedures (left_of kept d) d (ap (λ b. d.is_timely && b) (some_is d.walk.asked c.if-is_none.ensures) ∙ and_false d.is_timely))
    ∙ c.loop-self.invariant.1
    ∙ sym (all_started place kept c.args.at procedures c.args.self.now (sym c.if-not-is_active.ensures))

pub returns-after-loop-self-clause-made : goal.returns-after-loop-self-clause-made
returns-after-loop-self-clause-made c =
    let place = c.args.of.now.place.now in
    let kept = c.args.of.now.kept.now in
    let procedures = c.args.of.now.signature.now.procedures in
    let d = c.loop-self.self in
    sym (append-nil c.loop-self.effects)
    ∙ ap (λ l. c.loop-self.effects ++ l) (sym (none_made place kept c.args.at procedures (left_of kept d) d (ap (λ b. b && is_none d.walk.asked) c.loop-self-test.false)))
    ∙ c.loop-self.invariant.2
    ∙ ap (λ l. c.args.effects.now ++ l) (sym (all_made place kept c.args.at procedures c.args.self.now (sym c.if-not-is_active.ensures)))

pub returns-else-is_none-clause-made : goal.returns-else-is_none-clause-made
returns-else-is_none-clause-made c =
    let place = c.args.of.now.place.now in
    let kept = c.args.of.now.kept.now in
    let procedures = c.args.of.now.signature.now.procedures in
    let d = c.loop-self.self in
    sym (append-nil c.loop-self.effects)
    ∙ ap (λ l. c.loop-self.effects ++ l) (sym (none_made place kept c.args.at procedures (left_of kept d) d (ap (λ b. d.is_timely && b) (some_is d.walk.asked c.if-is_none.ensures) ∙ and_false d.is_timely)))
    ∙ c.loop-self.invariant.2
    ∙ ap (λ l. c.args.effects.now ++ l) (sym (all_made place kept c.args.at procedures c.args.self.now (sym c.if-not-is_active.ensures)))

pub returns-in_default-clause-made : goal.returns-in_default-clause-made
returns-in_default-clause-made c =
    let place = c.args.of.now.place.now in
    let kept = c.args.of.now.kept.now in
    let procedures = c.args.of.now.signature.now.procedures in
    let d = c.loop-self.self in
    let may = ap (λ b. b && is_none d.walk.asked) c.loop-self-test.true ∙ none_is d.walk.asked c.if-is_none.ensures in
    sym (append-nil c.loop-self.effects)
    ∙ ap (λ l. c.loop-self.effects ++ l) (sym (none_made_starting place kept c.args.at procedures d may (sym c.in_ok-start.ensures ∙ c.in_default.is)))
    ∙ c.loop-self.invariant.2
    ∙ ap (λ l. c.args.effects.now ++ l) (sym (all_made place kept c.args.at procedures c.args.self.now (sym c.if-not-is_active.ensures)))

pub returns-in_default-clause-kept : goal.returns-in_default-clause-kept
returns-in_default-clause-kept c =
    let place = c.args.of.now.place.now in
    let kept = c.args.of.now.kept.now in
    let procedures = c.args.of.now.signature.now.procedures in
    let d = c.loop-self.self in
    let may = ap (λ b. b && is_none d.walk.asked) c.loop-self-test.true ∙ none_is d.walk.asked c.if-is_none.ensures in
    ap (λ b. record d { is_timely = b }) (ap not c.starts_by-in_default.ensures ∙ sym (ap (λ b. b && not (starts_by kept d c.args.at)) c.loop-self-test.true))
    ∙ sym (none_starting place kept c.args.at procedures d may (sym c.in_ok-start.ensures ∙ c.in_default.is))
    ∙ c.loop-self.invariant.1
    ∙ sym (all_started place kept c.args.at procedures c.args.self.now (sym c.if-not-is_active.ensures))

pub enter-requires-clause-may : goal.enter-requires-clause-may
enter-requires-clause-may c = sound_owes c.args.of.now.signature.now c.args.of.now.place.now c.args.of.now.kept.now c.loop-self.self c.loop-self.invariant.0

pub enter-requires-clause-run : goal.enter-requires-clause-run
enter-requires-clause-run c =
    sound_enters c.args.of.now.signature.now c.args.of.now.place.now c.args.of.now.kept.now c.loop-self.self c.loop-self.invariant.0 c.in-Some.start
    (sym c.in_ok-start.ensures ∙ c.in-Some.is) c.args.at

pub enter-requires-clause-fresh : goal.enter-requires-clause-fresh
enter-requires-clause-fresh c =
    sound_next c.args.of.now.signature.now c.args.of.now.place.now c.args.of.now.kept.now c.loop-self.self c.loop-self.invariant.0 c.in-Some.start
    (sym c.in_ok-start.ensures ∙ c.in-Some.is)

pub loop-self-smaller : goal.loop-self-smaller
loop-self-smaller c =
    let d = c.loop-self.self in
    let may = ap (λ b. b && is_none d.walk.asked) c.loop-self-test.true ∙ none_is d.walk.asked c.if-is_none.ensures in
    entered_smaller c.args.of.now.place.now c.args.of.now.kept.now c.args.at d c.enter.new.self c.in-Some.start c.in_ok-enter.ensures.kept may

pub loop-self-preserved : goal.loop-self-preserved
loop-self-preserved c =
    let place = c.args.of.now.place.now in
    let kept = c.args.of.now.kept.now in
    let at = c.args.at in
    let procedures = c.args.of.now.signature.now.procedures in
    let d = c.loop-self.self in
    let start = c.in-Some.start in
    let e = entered place kept at d start in
    let may = ap (λ b. b && is_none d.walk.asked) c.loop-self-test.true ∙ none_is d.walk.asked c.if-is_none.ensures in
    let next = sym c.in_ok-start.ensures ∙ c.in-Some.is in
    let is = c.in_ok-enter.ensures.kept in (
      subst (IsSoundOwing c.args.of.now.signature.now place kept) (sym is)
          (sound_entered c.args.of.now.signature.now place kept d c.loop-self.invariant.0 at start next),
      ap (λ x. entered_all place kept at procedures (left_of kept x) x) is ∙ sym (one_entered place kept at procedures d start may next) ∙ c.loop-self.invariant.1,
      ap (λ x. c.enter.new.effects ++ made_entering_all place kept at procedures (left_of kept x) x) is
          ∙ ap (λ l. l ++ made_entering_all place kept at procedures (left_of kept e) e) c.in_ok-enter.ensures.made
          ∙ append_assoc c.loop-self.effects (made_entering place kept at d start) (made_entering_all place kept at procedures (left_of kept e) e)
          ∙ ap (λ l. c.loop-self.effects ++ l) (sym (one_made place kept at procedures d start may next))
          ∙ c.loop-self.invariant.2,
    )
