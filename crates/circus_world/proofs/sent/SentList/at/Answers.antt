use Rattle.std.proofs.Common.{◌≡◌, ◌<◌, Some, length, refl, ap, sym, ◌∙◌, arith}
use Rattle.std.specs.Prelude.{slice_get, option_map}
use Rattle.std.proofs.lemmas.Option.{slice_get_read}
use Rattle.circus_world.specs.declared.sent.Entry.{Entry}
use Rattle.circus_world.specs.Seen.Entries.{sent_at, start_at}
use Rattle.circus_world.proofs.SentLemmas.{length-sent_from, sent_from_at, among}
use Rattle.circus_world.proofs.sent.SentList.at.Goals as goal

pub start_of-start-requires : goal.start_of-start-requires
start_of-start-requires c =
    let a = c.self.inside in
    omega (arith, c.requires, ap length c.self.view_is, length-sent_from a.bytes.items 0 a.entries.items, ap length c.deref.ensures.value)

pub index-requires : goal.index-requires
index-requires c =
    let a = c.self.inside in
    omega (arith, c.requires, ap length c.self.view_is, length-sent_from a.bytes.items 0 a.entries.items, a.entries.ok.0)

pub sent_of-requires-clause-from : goal.sent_of-requires-clause-from
sent_of-requires-clause-from c =
    let a = c.self.inside in
    let k = c.args.number in
    let e : Entry = c.index.result.now in
    let below : k < length a.entries.items = omega (arith, c.requires, ap length c.self.view_is, length-sent_from a.bytes.items 0 a.entries.items) in
    let there : slice_get a.entries.items k ≡ Some e = slice_get_read a.entries.items (length a.entries.items) k e refl below c.index.ensures in
    omega (arith, c.start_of-start.ensures, ap (λ l. start_at 0 l k) c.deref.ensures.value, (among 0 a.entries.items (length a.bytes.items) k e c.self.invariant there).0)

pub sent_of-requires-clause-upto : goal.sent_of-requires-clause-upto
sent_of-requires-clause-upto c =
    let a = c.self.inside in
    let k = c.args.number in
    let e : Entry = c.index.result.now in
    let below : k < length a.entries.items = omega (arith, c.requires, ap length c.self.view_is, length-sent_from a.bytes.items 0 a.entries.items) in
    let there : slice_get a.entries.items k ≡ Some e = slice_get_read a.entries.items (length a.entries.items) k e refl below c.index.ensures in
    omega (arith, ap length c.deref-2.ensures.value, (among 0 a.entries.items (length a.bytes.items) k e c.self.invariant there).1)

pub returns : goal.returns
returns c =
    let a = c.self.inside in
    let k = c.args.number in
    let e : Entry = c.index.result.now in
    let below : k < length a.entries.items = omega (arith, c.requires, ap length c.self.view_is, length-sent_from a.bytes.items 0 a.entries.items) in
    let there : slice_get a.entries.items k ≡ Some e = slice_get_read a.entries.items (length a.entries.items) k e refl below c.index.ensures in
    let start : c.start_of-start.result ≡ start_at 0 a.entries.items k = c.start_of-start.ensures ∙ ap (λ l. start_at 0 l k) c.deref.ensures.value in
    sym (ap (λ l. slice_get l k) c.self.view_is) ∙ sent_from_at a.bytes.items 0 a.entries.items k
    ∙ ap (option_map (sent_at a.bytes.items (start_at 0 a.entries.items k))) there
    ∙ sym (ap Some (c.sent_of.ensures ∙ (λ i. sent_at (c.deref-2.ensures.value i) (start i) e)))
