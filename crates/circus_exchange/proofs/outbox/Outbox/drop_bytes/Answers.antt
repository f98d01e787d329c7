use Rattle.std.proofs.Common.{◌≡◌, true, None, sym, subst, rules}
use Rattle.std.specs.Prelude.{is_some}
use Rattle.std.specs.FinMap as map
use Rattle.circus_exchange.specs.Seen.Known.{AreKnown}
use Rattle.circus_exchange.proofs.Knowing.{known_kept}
use Rattle.circus_exchange.proofs.outbox.Outbox.drop_bytes.Goals as goal

pub invariant_of-self : goal.invariant_of-self
invariant_of-self c =
    subst (λ m. AreKnown c.self.inside.progress m) (sym c.set.ensures)
    (known_kept c.self.inside.progress c.self.inside.messages c.args.call c.new.result (λ none.
    let nothing : map.get c.self.inside.messages c.args.call ≡ None = c.self.invariant c.args.call none in
    let some : is_some (map.get c.self.inside.messages c.args.call) ≡ true = search rules in
    absurd cc) c.self.invariant)
