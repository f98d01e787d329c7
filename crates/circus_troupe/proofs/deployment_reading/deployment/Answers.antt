use Rattle.circus_troupe.proofs.Steps.{deployment_is}
use Rattle.circus_troupe.proofs.deployment_reading.deployment.Goals as goal

pub returns : goal.returns
returns c =
    deployment_is c.args.reader.now c.ringmaster.new.reader c.troupes.new.reader c.text_end.new.reader c.in_ok-ringmaster.ringmaster c.in_ok-troupes.troupes c.in_ok-ringmaster.ensures c.in_ok-troupes.ensures c.text_end.ensures
