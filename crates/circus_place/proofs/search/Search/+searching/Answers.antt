use Rattle.std.proofs.Common.{◌≡◌, ◌+◌, ◌-◌, ℕ, Bool, cond, [], ◌∷◌, ◌++◌, Option, Some, min, length, vec_len, suc, true, false, refl, sym, ◌∙◌, ap, subst, arith}
use mir.Val.{bool_byte}
use Rattle.circus_place.specs.declared.choice.Placement.{Placement}
use Rattle.circus_value.specs.Among.{is_among}
use Rattle.circus_place.specs.Seen.Search.{flag_count, improves, in_turn, AreApart, best_from}
use Rattle.circus_place.specs.Seen.Test.{value_so_far, is_known_false}
use Rattle.circus_place.proofs.Skipped.{refuted, bounded, taken, turns, one_flagged, apart_push}
use Rattle.circus_place.proofs.search.Search.+searching.Goals as goal
use Rattle.circus_place.proofs.search.Search.+searching.Goals.{extend-then-not-can_improve-via-then-not-can_improve, extend-then-not-can_improve-via-else-not-can_improve+then-fails}

bool_byte_is : (b : Bool) → bool_byte b ≡ cond b 1 0
bool_byte_is true = refl
bool_byte_is false = refl

-- how much more can be kept, by the numbers that are counted
counted_is : (most kept flags size len members : ℕ) (best : Option Placement) (b : Bool) → kept ≡ flags → len ≡ members → b ≡ improves (min most (kept + (size - len))) best → improves (min most (flags + (size - members))) best ≡ b
counted_is most kept flags size len members best b counted len_is is = (λ i. improves (min most (sym counted i + (size - sym len_is i))) best) ∙ sym is

pub extend-returns-then-not-can_improve-clause-best : goal.extend-returns-then-not-can_improve-clause-best
extend-returns-then-not-can_improve-clause-best t c =
    let s = c.args.self.now in
    let ms = c.args.members.now.items in
    elim c.then-not-can_improve.branch [
      | extend-then-not-can_improve-via-then-not-can_improve w ↦
          sym (bounded s.test.now s.present.now (length s.present.now) (s.size - vec_len c.args.members.now) s.most ms c.args.best.now c.requires.distinct c.requires.ready.most
          (counted_is s.most c.args.kept (flag_count s.present.now ms) s.size c.len.result (vec_len c.args.members.now) c.args.best.now c.can_improve.result c.requires.counted c.len.ensures c.can_improve.ensures ∙ w.if-not-can_improve.true))
      | extend-then-not-can_improve-via-else-not-can_improve+then-fails w ↦
          sym (refuted s.test.now s.present.now (length s.present.now) (s.size - vec_len c.args.members.now) s.size ms c.args.best.now c.requires.ready.test (omega (arith, c.args.members.now.ok.0, c.requires.fits)) c.requires.distinct
          (ap (λ l. is_known_false (value_so_far s.test.now l)) (sym w.deref.ensures.value) ∙ sym w.fails.ensures ∙ w.if-fails.true))
    ]

pub extend-returns-then-len-self-clause-best : goal.extend-returns-then-len-self-clause-best
extend-returns-then-len-self-clause-best t c =
    let s = c.args.self.now in
    let ms = c.args.members.now.items in
    let len : length ms ≡ s.size = omega (arith, c.args.members.now.ok.0, c.len-2.ensures, c.if-len-self.true) in
    let chosen : c.in_ok-placement_of.field-0 ≡ record { members = ms; kept = flag_count s.present.now ms } = c.in_ok-placement_of.ensures ∙ (λ i. record { members = c.deref-then-len-self.ensures.value i; kept = c.requires.counted i }) in
    ap (λ (x : Placement). Some x) chosen
    ∙ sym (taken s.test.now s.present.now (length s.present.now) (s.size - vec_len c.args.members.now) s.size s.most ms c.args.best.now c.requires.ready.test len (omega (arith, c.len-2.ensures, c.if-len-self.true))
    (ap (λ l. is_known_false (value_so_far s.test.now l)) (sym c.deref.ensures.value) ∙ sym c.fails.ensures ∙ c.if-fails.false)
    (counted_is s.most c.args.kept (flag_count s.present.now ms) s.size c.len.result (vec_len c.args.members.now) c.args.best.now c.can_improve.result c.requires.counted c.len.ensures c.can_improve.ensures ∙ c.if-not-can_improve.false))

pub extend-returns-clause-best : goal.extend-returns-clause-best
extend-returns-clause-best t c =
    let s = c.args.self.now in
    let ms = c.args.members.now.items in
    let left : s.size - vec_len c.args.members.now ≡ suc (s.size - vec_len c.args.members.now - 1) = omega (arith, c.requires.fits, c.len-2.ensures, c.if-len-self.false) in
    let all : c.loop-machine.machine ≡ length s.present.now = omega (arith, c.loop-machine-test.false, c.len-machine-end.ensures) in
    c.loop-machine.invariant.1
    ∙ ap (λ n. in_turn (λ m b. cond (is_among ms m) b (best_from s.test.now s.present.now (length s.present.now) (s.size - vec_len c.args.members.now - 1) (ms ++ m ∷ []) b)) n c.args.best.now) all
    ∙ sym (turns s.test.now s.present.now (length s.present.now) (s.size - vec_len c.args.members.now) (s.size - vec_len c.args.members.now - 1) ms c.args.best.now left)

pub extend_by-extend-requires : goal.extend_by-extend-requires
extend_by-extend-requires t c = (
  omega (arith, c.in_ok-push.ensures.len),
  (
    c.requires.ready,
    (
      omega arith,
      (
        subst AreApart (sym c.in_ok-push.ensures.items) (apart_push c.args.members.now.items c.args.machine c.requires.distinct (ap (λ l. is_among l c.args.machine) (sym c.deref.ensures.value) ∙ sym c.contains.ensures.value ∙ c.if-contains.false)),
        one_flagged c.args.self.now.present.now c.args.members.now.items c.push.new.self.items c.args.machine c.args.kept c.from.result c.requires.counted (c.from.ensures ∙ bool_byte_is c.flag_at.result ∙ ap (λ (b : Bool). cond b 1 0) c.flag_at.ensures) c.in_ok-push.ensures.items,
      ),
    ),
  ),
)
