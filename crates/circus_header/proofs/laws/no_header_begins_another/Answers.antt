use Rattle.circus_header.specs.Seen.Layouts.{call_layout, return_layout}
use Rattle.circus_header.specs.Reading.{calls, returns}
use Rattle.circus_header.proofs.Answering.{no_other}
use Rattle.circus_header.proofs.Calls.{under_calls}
use Rattle.circus_header.proofs.Returns.{under_returns}
use Rattle.circus_header.proofs.laws.no_header_begins_another.Goals as goal

pub returns-clause-calls : goal.returns-clause-calls
returns-clause-calls c a b rest first second e = no_other calls call_layout a b rest under_calls first second e

pub returns-clause-returns : goal.returns-clause-returns
returns-clause-returns c a b rest first second e = no_other returns return_layout a b rest under_returns first second e
