use Rattle.std.proofs.Common.{◌≡◌, Bool, true, false, ◌&&◌, not, if◌then◌else◌, List, [], ◌++◌, sym, ap, ◌∙◌}
use Rattle.circus_performing.specs.Performing.{is_active}
use Rattle.circus_member_rules.specs.Step.{main_start}
use Rattle.circus_member_rules.specs.declared.occurrence.Effect.{Effect}
use Rattle.circus_dues.specs.declared.owing.Owing.{Owing}
use Rattle.circus_dues.specs.Seen.Beginning.{may_begin, unbegun, none_further, with_main}
use Rattle.circus_dues.specs.Seen.Owing.{starts_by, none_starts, entered, made_entering}
use Rattle.circus_dues.proofs.BeginningEnters.{main_enters}
use Rattle.circus_dues.proofs.Entering.{none_is, some_is}
use Rattle.circus_dues.proofs.dues.begin_owing.Goals.{then-of+then-is_active+in_ok-enter, else-of, else-of-via-then-of+else-is_active, else-of-via-else-of, then-is_none+then-owing, then-is_none+else-owing, else-is_none}
use Rattle.circus_dues.proofs.dues.begin_owing.Goals as goal

pub enter-requires-clause-may : goal.enter-requires-clause-may
enter-requires-clause-may c =
    let kept = c.args.of.now.kept.now in
    let place = c.args.of.now.place.now in
    (main_enters c.args.of.now.signature.now place c.args.views c.requires.home kept c.requires.says c.args.begins c.args.first (may_begin c.args.begins kept) c.requires.fits
    c.in_ok-owing.owing c.in_ok-main.main c.in_ok-owing.ensures (c.in_ok-main.ensures ∙ ap (main_start place.troupe) c.as_slice.ensures)).owes

pub enter-requires-clause-run : goal.enter-requires-clause-run
enter-requires-clause-run c =
    let kept = c.args.of.now.kept.now in
    let place = c.args.of.now.place.now in
    (main_enters c.args.of.now.signature.now place c.args.views c.requires.home kept c.requires.says c.args.begins c.args.first (may_begin c.args.begins kept) c.requires.fits
    c.in_ok-owing.owing c.in_ok-main.main c.in_ok-owing.ensures (c.in_ok-main.ensures ∙ ap (main_start place.troupe) c.as_slice.ensures)).performs

pub enter-requires-clause-fresh : goal.enter-requires-clause-fresh
enter-requires-clause-fresh c =
    let kept = c.args.of.now.kept.now in
    let place = c.args.of.now.place.now in
    (main_enters c.args.of.now.signature.now place c.args.views c.requires.home kept c.requires.says c.args.begins c.args.first (may_begin c.args.begins kept) c.requires.fits
    c.in_ok-owing.owing c.in_ok-main.main c.in_ok-owing.ensures (c.in_ok-main.ensures ∙ ap (main_start place.troupe) c.as_slice.ensures)).fresh

pub returns-clause-kept : goal.returns-clause-kept
returns-clause-kept c =
    let place = c.args.of.now.place.now in
    let root = c.args.of.now.signature.now.root in
    let kept = c.args.of.now.kept.now in
    let begins = c.args.begins in
    let before = unbegun place c.args.views begins c.args.first (may_begin begins kept) in
    let main = main_start place.troupe c.args.views in
    let start : c.in_ok-main.main ≡ main = c.in_ok-main.ensures ∙ ap (main_start place.troupe) c.as_slice.ensures in
    let owing : c.in_ok-owing.owing ≡ before = c.in_ok-owing.ensures in
    let chosen : Bool → Owing = λ b. if b then entered place kept 0 before main else before in
    let d = c.if-of.owing in
    let begun : d ≡ with_main place root c.args.views begins c.args.first kept = elim c.if-of.branch [
      | then-of+then-is_active+in_ok-enter w ↦
          let both : (root && is_active begins) ≡ true = ap (λ b. b && is_active begins) w.if-of.true ∙ sym w.is_active.ensures ∙ w.if-is_active.true in
          w.owing-is ∙ w.in_ok-enter.ensures.kept ∙ (λ j. entered place kept 0 (owing j) (start j)) ∙ sym (ap chosen both)
      | else-of w ↦
          let neither : (root && is_active begins) ≡ false = elim w.else-of.branch [
            | else-of-via-then-of+else-is_active u ↦ ap (λ b. b && is_active begins) u.if-of.true ∙ sym u.is_active.ensures ∙ u.if-is_active.false
            | else-of-via-else-of u ↦ ap (λ b. b && is_active begins) u.if-of.false
          ] in
          w.owing-is ∙ owing ∙ sym (ap chosen neither)
    ] in
    let timely : Bool → Owing = λ b. record d { is_timely = b } in
    let starts : Bool = not (starts_by kept d 0) in
    let further : Bool → Owing = λ b. if b then none_starts kept 0 d else d in
    let ended : c.if-is_none.owing ≡ none_further kept d = elim c.if-is_none.branch [
      | then-is_none+then-owing w ↦
          w.owing-is ∙ ap timely (ap not w.starts_by.ensures ∙ sym (ap (λ b. b && starts) w.if-owing.true))
          ∙ sym (ap further (none_is d.walk.asked (c.is_none.ensures ∙ ap not w.if-is_none.true)))
      | then-is_none+else-owing w ↦
          w.owing-is ∙ ap timely (w.if-owing.false ∙ sym (ap (λ b. b && starts) w.if-owing.false))
          ∙ sym (ap further (none_is d.walk.asked (c.is_none.ensures ∙ ap not w.if-is_none.true)))
      | else-is_none w ↦ w.owing-is ∙ sym (ap further (some_is d.walk.asked (c.is_none.ensures ∙ ap not w.if-is_none.false)))
    ] in
    ended ∙ ap (λ (o : Owing). none_further kept o) begun

pub returns-clause-made : goal.returns-clause-made
returns-clause-made c =
    let place = c.args.of.now.place.now in
    let root = c.args.of.now.signature.now.root in
    let kept = c.args.of.now.kept.now in
    let begins = c.args.begins in
    let before = unbegun place c.args.views begins c.args.first (may_begin begins kept) in
    let main = main_start place.troupe c.args.views in
    let start : c.in_ok-main.main ≡ main = c.in_ok-main.ensures ∙ ap (main_start place.troupe) c.as_slice.ensures in
    let owing : c.in_ok-owing.owing ≡ before = c.in_ok-owing.ensures in
    let chosen : Bool → List Effect = λ b. if b then made_entering place kept 0 before main else [] in
    elim c.if-of.branch [
      | then-of+then-is_active+in_ok-enter w ↦
          let both : (root && is_active begins) ≡ true = ap (λ b. b && is_active begins) w.if-of.true ∙ sym w.is_active.ensures ∙ w.if-is_active.true in
          w.effects-is ∙ w.in_ok-enter.ensures.made ∙ (λ j. c.new-effects.ensures j ++ made_entering place kept 0 (owing j) (start j)) ∙ sym (ap chosen both)
      | else-of w ↦
          let neither : (root && is_active begins) ≡ false = elim w.else-of.branch [
            | else-of-via-then-of+else-is_active u ↦ ap (λ b. b && is_active begins) u.if-of.true ∙ sym u.is_active.ensures ∙ u.if-is_active.false
            | else-of-via-else-of u ↦ ap (λ b. b && is_active begins) u.if-of.false
          ] in
          w.effects-is ∙ c.new-effects.ensures ∙ sym (ap chosen neither)
    ]
