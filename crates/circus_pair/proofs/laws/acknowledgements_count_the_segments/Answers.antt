use Rattle.circus_pair.proofs.Standing.{stands_after, call_acknowledged, return_acknowledged}
use Rattle.circus_pair.proofs.laws.acknowledgements_count_the_segments.Goals as goal

pub returns-clause-calls : goal.returns-clause-calls
returns-clause-calls c number format acts s are segment h plain call = call_acknowledged _ _ s (stands_after number format acts are) segment h plain call

pub returns-clause-returns : goal.returns-clause-returns
returns-clause-returns c number format acts s are segment h plain kind = return_acknowledged _ _ s (stands_after number format acts are) segment h plain kind
