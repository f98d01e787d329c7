use Rattle.std.proofs.Common.{◌≡◌, ◌<◌, ◌^◌, ℕ, drop, length}
use Rattle.std.specs.Prelude.{max, fold}
use Rattle.circus_collate.specs.declared.deployment.Host.{Host}
use Rattle.circus_picture.proofs.row.width.Given as goal

-- the longest name so far, with those that are left, comes to the longest of all
abbrev pub invariant-loop-host : goal.invariant-loop-host
invariant-loop-host l =
    let longer = λ (longest : ℕ) (host : Host). max longest (length host.name) in
    (fold longer l.longest (drop l.host-index l.hosts) ≡ fold longer 0 l.hosts) × (l.longest < 2 ^ 63)
