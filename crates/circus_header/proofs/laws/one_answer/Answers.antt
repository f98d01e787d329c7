use Rattle.circus_header.specs.Seen.Layouts.{call_layout, return_layout}
use Rattle.circus_header.specs.Reading.{calls, returns}
use Rattle.circus_header.proofs.Answering.{answered_once}
use Rattle.circus_header.proofs.Calls.{under_calls}
use Rattle.circus_header.proofs.Returns.{under_returns}
use Rattle.circus_header.proofs.laws.one_answer.Goals as goal

pub returns-clause-calls : goal.returns-clause-calls
returns-clause-calls c bytes a b first second made too = answered_once calls bytes call_layout a b under_calls first second made too

pub returns-clause-returns : goal.returns-clause-returns
returns-clause-returns c bytes a b first second made too = answered_once returns bytes return_layout a b under_returns first second made too
