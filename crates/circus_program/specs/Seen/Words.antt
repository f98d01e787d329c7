-- What the code's form says, as plain data.
use Rattle.circus_program.specs.Form.{CommandForm}
use Rattle.circus_program.specs.Form as plain
use Rattle.circus_program.specs.declared.words.CommandForm as coded
use Rattle.circus_program.specs.declared.words.CommandForm.TheVariants.{Stubs, Run, Replay, Picture, Node, Sample, Lines, Settle, Place, Audit}

-- the files and the name by their bytes
abbrev pub form_of : coded.CommandForm → CommandForm
form_of (Stubs program) = plain.stubs program.now
form_of (Run program) = plain.run program.now
form_of (Replay program schedule) = plain.replay program.now schedule.now
form_of (Picture program schedule) = plain.picture program.now schedule.now
form_of (Node program name turns) = plain.node program.now name.now turns
form_of (Sample program seed steps) = plain.sample program.now seed steps
form_of (Lines program seed steps) = plain.draw program.now seed steps
form_of (Settle program deliveries) = plain.settle program.now deliveries
form_of (Place placing) = plain.place placing.now
form_of (Audit program «record») = plain.audit program.now «record».now
