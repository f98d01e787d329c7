use Rattle.circus_program.proofs.Why.{words_why, program_why, schedule_why, spent_why, record_why, unsettled_why}
use Rattle.circus_program.proofs.Sound.{bad_placing_why, no_placement_why, done_why, sound_why}
use Rattle.circus_program.proofs.laws.ends_tell_why.Goals as goal

pub returns-clause-bad_words : goal.returns-clause-bad_words
returns-clause-bad_words c = words_why

pub returns-clause-bad_program : goal.returns-clause-bad_program
returns-clause-bad_program c = program_why

pub returns-clause-bad_schedule : goal.returns-clause-bad_schedule
returns-clause-bad_schedule c = schedule_why

pub returns-clause-spent : goal.returns-clause-spent
returns-clause-spent c = spent_why

pub returns-clause-unsettled : goal.returns-clause-unsettled
returns-clause-unsettled c = unsettled_why

pub returns-clause-bad_placing : goal.returns-clause-bad_placing
returns-clause-bad_placing c = bad_placing_why

pub returns-clause-no_placement : goal.returns-clause-no_placement
returns-clause-no_placement c = no_placement_why

pub returns-clause-bad_record : goal.returns-clause-bad_record
returns-clause-bad_record c = record_why

pub returns-clause-done : goal.returns-clause-done
returns-clause-done c = done_why

pub returns-clause-sound : goal.returns-clause-sound
returns-clause-sound c = sound_why
