use Rattle.circus_pair.proofs.Standing.{stands_after, arrival_is}
use Rattle.circus_pair.proofs.laws.arrivals_follow_the_segments.Goals as goal

pub returns : goal.returns
returns c number format acts s are segment h = arrival_is _ _ s (stands_after number format acts are) segment h
