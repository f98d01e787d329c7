use Rattle.std.proofs.Common.{◌≡◌}
use Rattle.circus_serve.specs.Outside.{tells_of}
use Rattle.circus_serve.proofs.AskedLemmas.{HasGivenFirst}
use Rattle.circus_serve.proofs.giving.give_all.Given as goal

-- the gives so far were given
abbrev pub invariant-loop-give : goal.invariant-loop-give
invariant-loop-give g l =
    let L = g.L.Link in
    let old = l.initial.link in
    record {
      given : HasGivenFirst l.deployment
          (tells_of (L.bound old) (L.taken old) (L.given old))
          (tells_of (L.bound l.link) (L.taken l.link) (L.given l.link))
          l.gives l.give-index;
      counts : L.faults l.link ≡ L.faults old;
    }
