use Rattle.circus_wire.proofs.Histories.{return_finds, still_kept, return_takes, return_gone}
use Rattle.circus_wire.proofs.laws.returns_find_their_purposes.Goals as goal

pub returns-clause-found : goal.returns-clause-found
returns-clause-found g c = return_finds

pub returns-clause-still : goal.returns-clause-still
returns-clause-still g c = still_kept

pub returns-clause-kept : goal.returns-clause-kept
returns-clause-kept g c = return_takes

pub returns-clause-gone : goal.returns-clause-gone
returns-clause-gone g c = return_gone
