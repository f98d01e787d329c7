use Rattle.std.proofs.Common.{◌≡◌, ◌+◌, length, ap, ◌∙◌}
use Rattle.std.proofs.lemmas.Result.{on_ok_weaker}
use Rattle.circus_exchange.specs.Seen.Numbered.{map_of_row}
use Rattle.circus_exchange.proofs.Numbering.{seen_put, seen_pushed, unseen, known_is_put}
use Rattle.circus_exchange.proofs.series.put_off_row.Goals as goal

pub returns-then-not-follows-clause-ok : goal.returns-then-not-follows-clause-ok
returns-then-not-follows-clause-ok g c =
    on_ok_weaker c.put_other.result (λ u. seen_put c.args.first c.args.row.now.items _ _ c.args.number c.args.value c.requires u.0) c.put_other.ensures.ok

pub returns-then-not-follows-clause-known : goal.returns-then-not-follows-clause-known
returns-then-not-follows-clause-known g c = known_is_put c.put_other.result c.args.first c.args.row.now.items _ c.args.number c.requires c.put_other.ensures.absent

pub returns-in_err-push-clause-known : goal.returns-in_err-push-clause-known
returns-in_err-push-clause-known g c some = absurd (unseen c.args.first c.args.row.now.items _ c.args.number c.requires (c.follows.ensures.others c.if-not-follows.false) some)

pub returns-clause-ok : goal.returns-clause-ok
returns-clause-ok g c =
    let row = c.args.row.now.items in
    let at : c.args.number ≡ c.args.first + length row = c.follows.ensures.row c.if-not-follows.false ∙ ap (λ xs. c.args.first + length xs) c.deref.ensures.value in
    c.gather.ensures
    ∙ ap (λ xs. map_of_row c.args.first xs c.args.others.now.entries) c.in_ok-push.ensures.items
    ∙ seen_pushed c.args.first row c.args.others.now.entries c.args.number c.args.value at
