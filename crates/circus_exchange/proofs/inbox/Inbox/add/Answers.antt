use Rattle.std.proofs.Common.{◌≡◌, ◌≢◌, ℕ, Bool, true, false, ◌&&◌, eqb, List, refl, ap, sym, subst, ◌∙◌}
use Rattle.std.proofs.lemmas.Bool.{eqb-true, eqb-false}
use Rattle.std.proofs.lemmas.Result.{on_ok_weaker, on_err_weaker}
use Rattle.std.specs.Ordering.{nat_cmp}
use Rattle.std.specs.FinMap as map
use Rattle.circus_segment.specs.Seen.Pieces.{piece}
use Rattle.circus_exchange.specs.declared.progress.Progress.{Progress}
use Rattle.circus_exchange.specs.Inbox.{Arriving, with_part, is_new, count_with, add_segment}
use Rattle.circus_exchange.specs.Seen.Known.{AreKnown}
use Rattle.circus_exchange.proofs.Endings.{well_ended, ill_ended, none_stood}
use Rattle.circus_exchange.proofs.Knowing.{known_more, known_put, known_less, known_noted}
use Rattle.circus_exchange.proofs.Inboxes.{parts_old, parts_whole, parts_part, added_is, undone}
use Rattle.circus_exchange.proofs.inbox.Inbox.add.Goals as goal

second : (a b : Bool) → (a && b) ≡ true → b ≡ true
second true b h = h
second false b h = absurd cc

open_of : (b : Bool) (count total : ℕ) → b ≡ true → (b && eqb count total) ≡ false → count ≢ total
open_of true count total is h = eqb-false count total h
open_of false count total is h = absurd cc

pub invariant_of-self : goal.invariant_of-self
invariant_of-self c = known_noted c.insert.result c.self.inside.progress c.insert.new.self c.self.inside.parts c.args.segment.now.call _ c.insert.ensures.ok c.insert.ensures.err c.self.invariant

pub returns-then-not-advance-clause-ok : goal.returns-then-not-advance-clause-ok
returns-then-not-advance-clause-ok c =
    let s = piece c.args.segment.now in
    let now = sym c.self.view_is in
    let count = c.requires.count ∙ ap (λ (b : Arriving). count_with b s) now in
    let old = sym (c.requires.is_new ∙ ap (λ (b : Arriving). is_new b s) now) ∙ c.if-not-advance.true in
    on_ok_weaker c.insert.result (λ e. added_is _ s c.args.advance.count _ _ count e (sym (parts_old _ s old)) ∙ ap (λ (b : Arriving). add_segment b s) c.self.view_is) c.insert.ensures.ok

pub invariant_of-self-then-completes : goal.invariant_of-self-then-completes
invariant_of-self-then-completes c =
    let n = c.args.segment.now.call in
    let progress : Progress = record { total = c.args.segment.now.total; count = c.args.advance.count } in
    let known = known_more c.self.inside.progress c.self.inside.parts n progress c.self.invariant in
    subst (λ m. AreKnown m c.forget.new.self) (sym c.in_ok-insert.ensures.ok)
    (subst (λ m. AreKnown (map.insert c.self.inside.progress n progress) m) (sym c.forget.ensures) (known_less _ c.self.inside.parts n known))

pub returns-then-completes-clause-ok : goal.returns-then-completes-clause-ok
returns-then-completes-clause-ok c =
    let s = piece c.args.segment.now in
    let now = sym c.self.view_is in
    let count = c.requires.count ∙ ap (λ (b : Arriving). count_with b s) now in
    let new = sym (c.requires.is_new ∙ ap (λ (b : Arriving). is_new b s) now) ∙ c.if-not-advance.false in
    let whole : c.args.advance.count ≡ s.total = eqb-true _ _ (second c.args.advance.is_new _ (sym c.completes.ensures ∙ c.if-completes.true)) in
    added_is _ s c.args.advance.count _ _ count c.in_ok-insert.ensures.ok (c.forget.ensures ∙ sym (parts_whole _ s new (sym count ∙ whole)))
    ∙ ap (λ (b : Arriving). add_segment b s) c.self.view_is

-- where a part was given up again, since its message could not be noted
given_up : (c : goal.After-forget-then-is_err) → c.forget-then-is_err.new.self ≡ c.self.inside.parts
given_up c =
    let failed = sym c.is_err.ensures.value ∙ c.if-is_err.true in
    let free = c.self.invariant c.args.segment.now.call (none_stood c.insert-noted.result _ failed c.insert-noted.ensures.known) in
    undone c.self.inside.parts _ _ c.args.segment.now.call c.args.segment.now.number _ free c.in_ok-add.ensures.ok c.forget-then-is_err.ensures

unnoted : (c : goal.After-forget-then-is_err) → c.insert-noted.new.self ≡ c.self.inside.progress
unnoted c = ill_ended c.insert-noted.result _ (sym c.is_err.ensures.value ∙ c.if-is_err.true) c.insert-noted.ensures.err

pub invariant_of-self-then-is_err : goal.invariant_of-self-then-is_err
invariant_of-self-then-is_err c =
    subst (λ m. AreKnown m c.forget-then-is_err.new.self) (sym (unnoted c)) (subst (λ m. AreKnown c.self.inside.progress m) (sym (given_up c)) c.self.invariant)

pub returns-then-is_err-clause-err : goal.returns-then-is_err-clause-err
returns-then-is_err-clause-err c =
    on_err_weaker c.insert-noted.result (λ e.
    ap (λ (m : map.FinMap nat_cmp Progress). record { progress = m; parts = c.forget-then-is_err.new.self }) e
    ∙ ap (λ (m : map.FinMap nat_cmp (map.FinMap nat_cmp (List ℕ))). record { progress = c.self.inside.progress; parts = m }) (given_up c)
    ∙ c.self.view_is) c.insert-noted.ensures.err

noted : (c : goal.Else-is_err) → c.insert-noted.new.self ≡ map.insert c.self.inside.progress c.args.segment.now.call (record { total = c.args.segment.now.total; count = c.args.advance.count })
noted c = well_ended c.insert-noted.result _ (sym c.is_err.ensures.value ∙ c.if-is_err.false) c.insert-noted.ensures.ok

pub invariant_of-self-else-is_err : goal.invariant_of-self-else-is_err
invariant_of-self-else-is_err c =
    let progress : Progress = record { total = c.args.segment.now.total; count = c.args.advance.count } in
    subst (λ m. AreKnown m c.add.new.self) (sym (noted c))
    (subst (λ m. AreKnown (map.insert c.self.inside.progress c.args.segment.now.call progress) m) (sym c.in_ok-add.ensures.ok) (known_put c.self.inside.progress c.self.inside.parts c.args.segment.now.call _ _ c.self.invariant))

pub returns-else-is_err-clause-ok : goal.returns-else-is_err-clause-ok
returns-else-is_err-clause-ok c =
    let s = piece c.args.segment.now in
    let now = sym c.self.view_is in
    let count = c.requires.count ∙ ap (λ (b : Arriving). count_with b s) now in
    let is = c.if-not-advance.false in
    let new = sym (c.requires.is_new ∙ ap (λ (b : Arriving). is_new b s) now) ∙ is in
    let open_ : c.args.advance.count ≢ s.total = open_of c.args.advance.is_new _ _ is (sym c.completes.ensures ∙ c.if-completes.false) in
    let part = c.of-part.ensures ∙ c.in_ok-copy_from_slice.ensures in
    on_ok_weaker c.insert-noted.result (λ e.
    added_is _ s c.args.advance.count _ _ count e (c.in_ok-add.ensures.ok ∙ ap (with_part c.self.inside.parts s.call s.number) part ∙ sym (parts_part _ s new (λ same. open_ (count ∙ same))))
    ∙ ap (λ (b : Arriving). add_segment b s) c.self.view_is) c.insert-noted.ensures.ok
