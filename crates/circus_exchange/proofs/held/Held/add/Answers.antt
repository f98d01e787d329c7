use Rattle.std.proofs.Common.{◌≡◌, List, ℕ, Some, refl, sym, ap, ◌∙◌}
use Rattle.std.proofs.lemmas.Result.{on_ok_weaker, on_err_weaker}
use Rattle.std.specs.Prelude.{is_some}
use Rattle.std.specs.Cmp.{nat_cmp_total}
use Rattle.std.specs.Ordering.{nat_cmp}
use Rattle.std.specs.FinMap as map
use Rattle.std.specs.FinMap.{nat_cmp-IsAntisymmetric}
use Rattle.circus_exchange.proofs.Finite.{get_entry, inserted}
use Rattle.circus_exchange.proofs.Holding.{put_same, put_beside}
use Rattle.circus_exchange.proofs.held.Held.add.Goals as goal

-- with the parts of the message written back
written : (c : goal.After-self-in-Some-1) → map.from_entries (c.get_mut.follows.lender c.insert.new.self).entries ≡ map.insert c.args.self.now c.args.call c.insert.new.self
written c =
    inserted nat_cmp nat_cmp_total nat_cmp-IsAntisymmetric _ _ c.args.call c.insert.new.self ((c.get_mut.follows.holds c.insert.new.self).3 (sym (ap is_some c.in-Some.ensures.value))).0
    ∙ ap (λ (m : map.FinMap nat_cmp (map.FinMap nat_cmp (List ℕ))). map.insert m c.args.call c.insert.new.self) c.self.view_is

-- the parts that were there
found : (c : goal.After-self-in-Some-1) → map.get c.args.self.now c.args.call ≡ Some c.in-Some.parts.now
found c = ap (λ (m : map.FinMap nat_cmp (map.FinMap nat_cmp (List ℕ))). map.get m c.args.call) (sym c.self.view_is) ∙ get_entry nat_cmp nat_cmp_total _ c.args.call ∙ sym c.in-Some.ensures.value

pub returns-in-Some-clause-ok : goal.returns-in-Some-clause-ok
returns-in-Some-clause-ok c =
    on_ok_weaker c.insert.result (λ e. written c ∙ ap (map.insert c.args.self.now c.args.call) (e ∙ ap (λ n. map.insert c.in-Some.parts.now n c.args.part) c.from.ensures) ∙ put_beside c.args.self.now c.args.call c.args.number c.args.part c.in-Some.parts.now (found c)) c.insert.ensures.ok

pub returns-in-Some-clause-err : goal.returns-in-Some-clause-err
returns-in-Some-clause-err c =
    on_err_weaker c.insert.result (λ e. written c ∙ ap (map.insert c.args.self.now c.args.call) e ∙ put_same c.args.self.now c.args.call c.in-Some.parts.now (found c)) c.insert.ensures.err

pub begin-requires : goal.begin-requires
begin-requires c =
    ap (λ m. map.get (map.from_entries {R = nat_cmp} m.entries) c.args.call) c.get_mut.follows.holds-at-none
    ∙ get_entry nat_cmp nat_cmp_total _ c.args.call ∙ sym c.in-None.ensures.value
