use Rattle.std.proofs.Common.{◌≡◌, ◌≤◌, ◌++◌, [], ◌∷◌, length, ap, sym, subst, ◌∙◌, arith, length-append}
use Rattle.circus_world.specs.Sent.{Sent}
use Rattle.circus_world.specs.declared.sent.Entry.{Entry}
use Rattle.circus_world.specs.Seen.Entries.{sent_from, Follow}
use Rattle.circus_world.proofs.SentLemmas.{follow-push, sent_from-push}
use Rattle.circus_world.proofs.sent.SentList.push.Goals as goal

pub invariant_of-self-2 : goal.invariant_of-self-2
invariant_of-self-2 c =
    let a = c.self.inside in
    let b = c.extend_from_slice.new.self in
    let e : Entry = record { step = c.args.step; from = c.args.from; to = c.args.to; end = c.len-end.result } in
    let end : e.end ≡ length b.items = omega (arith, c.len-end.ensures, b.ok.0) in
    let after : length a.bytes.items ≤ e.end = omega (arith, end, ap length c.in_ok-extend_from_slice.ensures.items, length-append a.bytes.items c.args.bytes.now) in
    let entries : c.push_reserved.new.self.items ≡ a.entries.items ++ e ∷ [] = c.push_reserved.ensures.items ∙ ap (λ l. l ++ e ∷ []) c.in_ok-reserve.ensures.items in
    subst (λ l. Follow 0 l (length b.items)) (sym entries)
    (subst (λ k. Follow 0 (a.entries.items ++ e ∷ []) k) end (follow-push 0 a.entries.items (length a.bytes.items) e c.self.invariant after))

pub returns-clause-ok : goal.returns-clause-ok
returns-clause-ok c =
    let a = c.self.inside in
    let b = c.extend_from_slice.new.self in
    let more = c.args.bytes.now in
    let e : Entry = record { step = c.args.step; from = c.args.from; to = c.args.to; end = c.len-end.result } in
    let s : Sent = record { step = c.args.step; from = c.args.from; to = c.args.to; bytes = more } in
    let bytes : b.items ≡ a.bytes.items ++ more = c.in_ok-extend_from_slice.ensures.items in
    let end : e.end ≡ length (a.bytes.items ++ more) = omega (arith, c.len-end.ensures, b.ok.0, ap length bytes) in
    let entries : c.push_reserved.new.self.items ≡ a.entries.items ++ e ∷ [] = c.push_reserved.ensures.items ∙ ap (λ l. l ++ e ∷ []) c.in_ok-reserve.ensures.items in
    (λ i. sent_from (bytes i) 0 (entries i)) ∙ sent_from-push a.bytes.items more 0 a.entries.items e c.self.invariant end ∙ ap (λ l. l ++ s ∷ []) c.self.view_is
