use Rattle.circus_dues.proofs.SoundStages.{sound_owes, sound_performs, sound_fresh, sound_state, sound_there, sound_few}
use Rattle.circus_dues.proofs.StepParts.{came_sound, went_sound, gave_sound, started_sound, kept_by_parts, made_by_parts}
use Rattle.circus_dues.proofs.owing.Owing.step.Goals as goal

pub take-requires-clause-may : goal.take-requires-clause-may
take-requires-clause-may c = sound_owes c.args.of.now.signature.now c.args.of.now.place.now c.args.of.now.kept.now c.args.self.now c.requires.sound

pub go_on-requires-clause-may : goal.go_on-requires-clause-may
go_on-requires-clause-may c =
    let declared = c.args.of.now.signature.now in
    let place = c.args.of.now.place.now in
    let kept = c.args.of.now.kept.now in
    sound_owes declared place kept c.take.new.self
    (came_sound declared place kept c.args.at c.args.occurrence c.args.self.now c.take.new.self c.in_ok-told.ensures.kept c.requires.sound c.requires.comes)

pub go_on-requires-clause-run : goal.go_on-requires-clause-run
go_on-requires-clause-run c =
    let declared = c.args.of.now.signature.now in
    let place = c.args.of.now.place.now in
    let kept = c.args.of.now.kept.now in
    sound_performs declared place kept c.take.new.self
    (came_sound declared place kept c.args.at c.args.occurrence c.args.self.now c.take.new.self c.in_ok-told.ensures.kept c.requires.sound c.requires.comes)

pub go_on-requires-clause-fresh : goal.go_on-requires-clause-fresh
go_on-requires-clause-fresh c =
    let declared = c.args.of.now.signature.now in
    let place = c.args.of.now.place.now in
    let kept = c.args.of.now.kept.now in
    sound_fresh declared place kept c.take.new.self
    (came_sound declared place kept c.args.at c.args.occurrence c.args.self.now c.take.new.self c.in_ok-told.ensures.kept c.requires.sound c.requires.comes)

pub give_states-requires-clause-fits : goal.give_states-requires-clause-fits
give_states-requires-clause-fits c =
    let declared = c.args.of.now.signature.now in
    let place = c.args.of.now.place.now in
    let kept = c.args.of.now.kept.now in
    sound_state declared place kept c.go_on.new.self
    (went_sound declared place kept c.args.at c.args.occurrence c.args.self.now c.take.new.self c.in_ok-told.ensures.kept c.requires.sound c.requires.comes c.go_on.new.self c.in_ok-go_on.ensures.kept)

pub give_states-requires-clause-there : goal.give_states-requires-clause-there
give_states-requires-clause-there c =
    let declared = c.args.of.now.signature.now in
    let place = c.args.of.now.place.now in
    let kept = c.args.of.now.kept.now in
    sound_there declared place kept c.go_on.new.self
    (went_sound declared place kept c.args.at c.args.occurrence c.args.self.now c.take.new.self c.in_ok-told.ensures.kept c.requires.sound c.requires.comes c.go_on.new.self c.in_ok-go_on.ensures.kept)

pub start_runs-requires : goal.start_runs-requires
start_runs-requires c =
    let declared = c.args.of.now.signature.now in
    let place = c.args.of.now.place.now in
    let kept = c.args.of.now.kept.now in
    gave_sound declared place kept c.args.at c.args.occurrence c.args.self.now c.take.new.self c.in_ok-told.ensures.kept c.requires.sound c.requires.comes c.go_on.new.self c.in_ok-go_on.ensures.kept c.give_states.new.self c.in_ok-give_states.ensures.kept

pub conclude-requires-clause-may : goal.conclude-requires-clause-may
conclude-requires-clause-may c =
    let declared = c.args.of.now.signature.now in
    let place = c.args.of.now.place.now in
    let kept = c.args.of.now.kept.now in
    sound_owes declared place kept c.start_runs.new.self
    (started_sound declared place kept c.args.at c.args.occurrence c.args.self.now c.take.new.self c.in_ok-told.ensures.kept c.requires.sound c.requires.comes c.go_on.new.self c.in_ok-go_on.ensures.kept c.give_states.new.self c.in_ok-give_states.ensures.kept c.start_runs.new.self c.in_ok-start_runs.ensures.kept)

pub conclude-requires-clause-waits : goal.conclude-requires-clause-waits
conclude-requires-clause-waits c =
    let declared = c.args.of.now.signature.now in
    let place = c.args.of.now.place.now in
    let kept = c.args.of.now.kept.now in
    sound_few declared place kept c.start_runs.new.self
    (started_sound declared place kept c.args.at c.args.occurrence c.args.self.now c.take.new.self c.in_ok-told.ensures.kept c.requires.sound c.requires.comes c.go_on.new.self c.in_ok-go_on.ensures.kept c.give_states.new.self c.in_ok-give_states.ensures.kept c.start_runs.new.self c.in_ok-start_runs.ensures.kept)

pub returns-clause-kept : goal.returns-clause-kept
returns-clause-kept c =
    let declared = c.args.of.now.signature.now in
    let place = c.args.of.now.place.now in
    let kept = c.args.of.now.kept.now in
    kept_by_parts declared place kept c.args.at c.args.occurrence c.args.self.now c.take.new.self c.in_ok-told.ensures.kept c.go_on.new.self c.give_states.new.self c.start_runs.new.self c.conclude.new.self
    c.in_ok-go_on.ensures.kept c.in_ok-give_states.ensures.kept c.in_ok-start_runs.ensures.kept c.in_ok-conclude.ensures.kept

pub returns-clause-made : goal.returns-clause-made
returns-clause-made c =
    let declared = c.args.of.now.signature.now in
    let place = c.args.of.now.place.now in
    let kept = c.args.of.now.kept.now in
    made_by_parts declared place kept c.args.at c.args.occurrence c.args.self.now c.take.new.self c.in_ok-told.ensures.kept c.go_on.new.self c.give_states.new.self c.start_runs.new.self c.conclude.new.self
    c.in_ok-go_on.ensures.kept c.in_ok-give_states.ensures.kept c.in_ok-start_runs.ensures.kept c.new-effects.result c.take.new.effects c.go_on.new.effects c.give_states.new.effects c.start_runs.new.effects c.conclude.new.effects
    c.new-effects.ensures c.in_ok-told.ensures.made c.in_ok-go_on.ensures.made c.in_ok-give_states.ensures.made c.in_ok-start_runs.ensures.made c.in_ok-conclude.ensures.made
