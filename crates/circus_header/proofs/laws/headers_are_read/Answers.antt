use Rattle.std.proofs.Common.{Ok}
use Rattle.circus_header.specs.Seen.Layouts.{call_layout, return_layout}
use Rattle.circus_header.specs.Reading.{calls, returns}
use Rattle.circus_header.proofs.Answering.{answered_once}
use Rattle.circus_header.proofs.Calls.{under_calls}
use Rattle.circus_header.proofs.Returns.{under_returns}
use Rattle.circus_header.proofs.laws.headers_are_read.Goals as goal

pub returns-clause-calls : goal.returns-clause-calls
returns-clause-calls c bytes call len a begins answer made = answered_once calls bytes call_layout a (Ok (call, len)) under_calls answer begins made (λ e. cc)

pub returns-clause-returns : goal.returns-clause-returns
returns-clause-returns c bytes header len a begins answer made = answered_once returns bytes return_layout a (Ok (header, len)) under_returns answer begins made (λ e. cc)
