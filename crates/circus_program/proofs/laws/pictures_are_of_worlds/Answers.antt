use Rattle.circus_program.proofs.Drawn.{picture_status, picture_cut}
use Rattle.circus_program.proofs.Reports.{is_pictured}
use Rattle.circus_program.proofs.laws.pictures_are_of_worlds.Goals as goal

pub returns-clause-status : goal.returns-clause-status
returns-clause-status c = picture_status

pub returns-clause-done : goal.returns-clause-done
returns-clause-done c = is_pictured

pub returns-clause-cut : goal.returns-clause-cut
returns-clause-cut c = picture_cut
