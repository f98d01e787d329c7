use Rattle.std.proofs.Common.{◌≡◌, None, List, ℕ, ap, sym, subst, ◌∙◌}
use Rattle.std.proofs.lemmas.Result.{on_ok_weaker, on_err_weaker}
use Rattle.std.specs.Prelude.{is_some}
use Rattle.std.specs.Cmp.{nat_cmp_total}
use Rattle.std.specs.Ordering.{nat_cmp}
use Rattle.std.specs.FinMap as map
use Rattle.std.specs.FinMap.{nat_cmp-IsAntisymmetric}
use Rattle.circus_exchange.specs.declared.progress.Progress.{Progress}
use Rattle.circus_exchange.specs.Outbox.{HandedOver, hand_over}
use Rattle.circus_exchange.specs.Seen.Known.{AreKnown}
use Rattle.circus_exchange.proofs.Endings.{well_ended, ill_ended}
use Rattle.circus_exchange.proofs.Finite.{put_back}
use Rattle.circus_exchange.proofs.Knowing.{known_put}
use Rattle.circus_exchange.proofs.outbox.Outbox.hand.Goals as goal

-- where a message was given up again, since it could not be noted
given_up : (c : goal.After-remove) → c.remove.new.self ≡ c.self.inside.messages
given_up c =
    let free = c.self.invariant c.args.call (ap (λ (b : HandedOver). map.get b.progress c.args.call) c.self.view_is ∙ c.requires) in
    c.remove.ensures ∙ ap (λ (m : map.FinMap nat_cmp (List ℕ)). map.remove m c.args.call) c.in_ok-insert.ensures.ok
    ∙ put_back nat_cmp nat_cmp_total nat_cmp-IsAntisymmetric c.self.inside.messages c.args.call c.args.message (ap is_some free)

pub invariant_of-self-then-is_err : goal.invariant_of-self-then-is_err
invariant_of-self-then-is_err c =
    let same = ill_ended c.insert-noted.result _ (sym c.is_err.ensures.value ∙ c.if-is_err.true) c.insert-noted.ensures.err in
    subst (λ m. AreKnown m c.remove.new.self) (sym same) (subst (λ m. AreKnown c.self.inside.progress m) (sym (given_up c)) c.self.invariant)

pub invariant_of-self-else-is_err : goal.invariant_of-self-else-is_err
invariant_of-self-else-is_err c =
    let progress : Progress = record { total = c.args.total; count = 0 } in
    let noted = well_ended c.insert-noted.result _ (sym c.is_err.ensures.value ∙ c.if-is_err.false) c.insert-noted.ensures.ok in
    subst (λ m. AreKnown m c.insert.new.self) (sym noted)
    (subst (λ m. AreKnown (map.insert c.self.inside.progress c.args.call progress) m) (sym c.in_ok-insert.ensures.ok) (known_put c.self.inside.progress c.self.inside.messages c.args.call progress c.args.message c.self.invariant))

pub returns-then-is_err-clause-err : goal.returns-then-is_err-clause-err
returns-then-is_err-clause-err c =
    on_err_weaker c.insert-noted.result (λ e.
    ap (λ (m : map.FinMap nat_cmp Progress). record { progress = m; messages = c.remove.new.self }) e
    ∙ ap (λ (m : map.FinMap nat_cmp (List ℕ)). record { progress = c.self.inside.progress; messages = m }) (given_up c)
    ∙ c.self.view_is) c.insert-noted.ensures.err

pub returns-else-is_err-clause-ok : goal.returns-else-is_err-clause-ok
unfolding hand_over
returns-else-is_err-clause-ok c =
    on_ok_weaker c.insert-noted.result (λ e.
    ap (λ (m : map.FinMap nat_cmp Progress). record { progress = m; messages = c.insert.new.self }) e
    ∙ ap (λ (m : map.FinMap nat_cmp (List ℕ)). record { progress = map.insert c.self.inside.progress c.args.call (record { total = c.args.total; count = 0 }); messages = m }) c.in_ok-insert.ensures.ok
    ∙ ap (λ (b : HandedOver). hand_over b c.args.call c.args.total c.args.message) c.self.view_is) c.insert-noted.ensures.ok
