use Rattle.std.proofs.Common.{◌++◌, map, ◌∙◌, ap}
use Rattle.circus_deployment.specs.Nodes.{spares_of, hosts_of}
use Rattle.circus_deployment.specs.Meaning.{host_meant}
use Rattle.circus_deployment.proofs.NodesMore.{then_hosts}
use Rattle.circus_deployment.proofs.meaning.add_troupe.Goals as goal

pub returns : goal.returns
returns c =
    let o = c.module_of_troupe-hosted.result in
    let old = c.args.nodes.now in
    then_hosts o old c.add_hosts.new.nodes c.add_spares.new.nodes c.args.troupe.now.members (spares_of c.args.troupe.now)
    (c.in_ok-add_hosts.ensures ∙ ap (λ hs. old ++ map (host_meant o) hs) c.as_slice.ensures) c.in_ok-add_spares.ensures
    ∙ ap (λ m. old ++ map (host_meant m) (hosts_of c.args.troupe.now)) c.module_of_troupe-hosted.ensures
