use Rattle.std.proofs.Common.{◌≡◌, ◌-◌, suc, get_or, ap, sym, ◌∙◌, arith}
use Rattle.std.proofs.lemmas.Option.{slice_get-get_or}
use Rattle.circus_world.specs.declared.sent.Entry.{Entry}
use Rattle.circus_world.specs.Seen.Entries.{start_at}
use Rattle.circus_world.proofs.SentLemmas.{start_after}
use Rattle.circus_world.proofs.sent.start_of.Goals as goal

pub returns-else-number-eq0 : goal.returns-else-number-eq0
returns-else-number-eq0 c =
    let es = c.args.entries.now in
    let k = c.args.number - 1 in
    let none : Entry = record { step = 0; from = 0; to = 0; end = 0 } in
    let next : suc k ≡ c.args.number = omega (arith, c.if-number-eq0.false) in
    let at = slice_get-get_or es k none (omega (arith, c.requires, next)) in
    sym (start_after 0 es k (get_or es k none) at) ∙ ap (start_at 0 es) next
