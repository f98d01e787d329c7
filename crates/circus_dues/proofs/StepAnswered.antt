-- No ask of a record was answered between two steps, where no run was started or ended between, and the ask that waits wasn't answered.
use Rattle.std.proofs.Common.{◌≡◌, ℕ, suc, ◌+◌, ◌-◌, ◌<◌, ◌≤◌, ◌⊎◌, inl, inr, true, false, List, [], ◌∷◌, take, drop, All, Option, None, Some, refl, sym, ap, subst, ◌∙◌, arith}
use Rattle.std.specs.Prelude.{slice_get, nat_le, unwrap_or, IfSome}
use Rattle.std.proofs.lemmas.Bool.Decides.{leb_tells}
use Rattle.std.proofs.lemmas.List.Elements.{All-nil, All-cons}
use Rattle.std.proofs.lemmas.Option.{same_Some}
use Rattle.circus_record.specs.declared.record.AskRecord.{AskRecord}
use Rattle.circus_record.specs.declared.record.MemberRecord.{MemberRecord}
use Rattle.circus_record.specs.declared.record.RunRecord.{RunRecord}
use Rattle.circus_member_theory.specs.Past.{Past, now}
use Rattle.circus_dues.specs.Calls.{IsOutside, NoneBetween}
use Rattle.circus_dues.specs.Dues.{HasComeTo}
use Rattle.circus_dues.specs.Walk.{IsBy, IsNotBefore, AskOneByOne, IsRunInOrder, RunOneByOne}
use Rattle.circus_dues.specs.declared.walk.Walk.{Walk}
use Rattle.circus_dues.proofs.CallsPassing.{run_at}
use Rattle.circus_dues.proofs.StepLists.{split_at}
use Rattle.circus_dues.proofs.StepReached.{IsAtRest, IsUnderWay, WaitsAt, waits_at}
use Rattle.circus_dues.proofs.WalkMade.{each_in_order}
use Rattle.circus_dues.proofs.WalkStarts.{all_at}
use Rattle.circus_dues.proofs.WalkStep.{IsBehind, front_or_behind}
use Rattle.circus_dues.proofs.WalkWaiting.{AnsweredBy, answered_by}

abbrev pub NotBefore : ℕ → AskRecord → Type 0
NotBefore step ask = IsNotBefore step ask.answered

-- asks that are made from a step on are answered from then on
answered_from : (step from : ℕ) (asks : List AskRecord) → AskOneByOne from asks → step ≤ from → All (NotBefore step) asks
answered_from step from [] so low = All-nil (NotBefore step)
answered_from step from (ask ∷ asks) so low =
    let on = so.1 in
    All-cons (NotBefore step) ask asks (by_answer ask.answered on) (answered_from step (unwrap_or ask.answered from) asks so.3 (omega (arith, on, low)))
  where
    by_answer : (o : Option ℕ) → from ≤ unwrap_or o from → IsNotBefore step o
    by_answer None high = tt
    by_answer (Some n) high = omega (arith, high, low)

-- so are those behind one that was
answered_behind : (step from : ℕ) (ask : AskRecord) (rest : List AskRecord) → AskOneByOne from (ask ∷ rest) → NotBefore step ask → All (NotBefore step) (ask ∷ rest)
answered_behind step from ask rest so late = All-cons (NotBefore step) ask rest late (by_answer ask.answered refl late)
  where
    by_answer : (o : Option ℕ) → ask.answered ≡ o → IsNotBefore step o → All (NotBefore step) rest
    by_answer None is high = subst (All (NotBefore step)) (sym (so.2 is)) (All-nil (NotBefore step))
    by_answer (Some n) is high = answered_from step n rest (subst (λ o. AskOneByOne (unwrap_or o from) rest) is so.3) high

module _ (kept : MemberRecord) (p : Past) (at : ℕ) (order : RunOneByOne 0 kept.runs) (walk : Walk) (comes : HasComeTo kept p walk) (between : NoneBetween kept (now p) at) where
  abbrev Outside : AskRecord → Type 0
  Outside ask = IfSome ask.answered (IsOutside (now p) at)

  by_then : (ask : AskRecord) → AnsweredBy (now p) ask → Outside ask
  by_then ask = by_answer ask.answered
    where
      by_answer : (o : Option ℕ) → IsBy (now p) o → IfSome o (IsOutside (now p) at)
      by_answer None low = absurd low
      by_answer (Some n) low = inl low

  from_then : (ask : AskRecord) → NotBefore at ask → Outside ask
  from_then ask = by_answer ask.answered
    where
      by_answer : (o : Option ℕ) → IsNotBefore at o → IfSome o (IsOutside (now p) at)
      by_answer None high = tt
      by_answer (Some n) high = inr high

  run_so : (number : ℕ) (run : RunRecord) → slice_get kept.runs number ≡ Some run → IsRunInOrder run
  run_so number run there = all_at IsRunInOrder kept.runs number run (each_in_order 0 kept.runs order) there

  -- of a run that has ended
  ended_before : (run : RunRecord) → IsRunInOrder run → IsBy (now p) run.ended → All (AnsweredBy (now p)) run.asks
  ended_before run so = by_end run.ended refl
    where
      by_end : (o : Option ℕ) → run.ended ≡ o → IsBy (now p) o → All (AnsweredBy (now p)) run.asks
      by_end None is low = absurd low
      by_end (Some n) is low = (let same = so.ended_so n is in answered_by (now p) run.started run.asks so.asks_so (omega (arith, same, low)) (so.answered_so n is))

  -- of one that starts later
  starts_behind : (number : ℕ) (run : RunRecord) → slice_get kept.runs number ≡ Some run → now p < run.started → All (NotBefore at) run.asks
  starts_behind number run there late = answered_from at run.started run.asks (run_so number run there).asks_so (by_side ((between (kept.from + number) run (run_at kept number ∙ there)).0))
    where
      by_side : IsOutside (now p) at run.started → at ≤ run.started
      by_side (inl early) = absurd (omega (arith, early, late))
      by_side (inr high) = high

  -- no run is under way, or the ask that waits was not answered before the step
  abbrev pub WaitsStill : Type 0
  WaitsStill = IsAtRest kept p order walk ⊎ ((u : IsUnderWay kept p order walk) × NotBefore at (waits_at kept p order walk comes u).ask)

  pub none_answered : WaitsStill → (number place_of : ℕ) (run : RunRecord) (ask : AskRecord) → slice_get kept.runs number ≡ Some run → slice_get run.asks place_of ≡ Some ask → Outside ask
  none_answered still number place_of run ask there here = by_order (leb_tells walk.ended number)
    where
      -- of the run that is under way: those before its open ask, and from that on
      by_part : (u : IsUnderWay kept p order walk) (w : WaitsAt kept p order walk comes u) → NotBefore at w.ask
          → (slice_get (take (u.count - 1) u.run.asks) place_of ≡ Some ask) ⊎ IsBehind (take (u.count - 1) u.run.asks) (w.ask ∷ drop (suc (u.count - 1)) u.run.asks) place_of ask → Outside ask
      by_part u w late (inl at_front) = by_then ask (all_at (AnsweredBy (now p)) (take (u.count - 1) u.run.asks) place_of ask w.before.answered at_front)
      by_part u w late (inr b) =
          let rest = drop (suc (u.count - 1)) u.run.asks in
          from_then ask
          (all_at (NotBefore at) (w.ask ∷ rest) b.place ask (answered_behind at w.before.from w.ask rest w.before.so late) b.there)

      going_on : (u : IsUnderWay kept p order walk) → NotBefore at (waits_at kept p order walk comes u).ask → walk.ended ≡ number → Outside ask
      going_on u late same =
          let w = waits_at kept p order walk comes u in
          let s = split_at u.run.asks (u.count - 1) w.ask w.here in
          let run_is : run ≡ u.run = same_Some run u.run (sym there ∙ ap (slice_get kept.runs) (sym same) ∙ u.there) in
          by_part u w late
          (front_or_behind (take (u.count - 1) u.run.asks) (w.ask ∷ drop (suc (u.count - 1)) u.run.asks) place_of ask
          (ap (λ l. slice_get l place_of) (sym s.are) ∙ ap (λ (r : RunRecord). slice_get r.asks place_of) (sym run_is) ∙ here))

      later_on : now p < run.started → Outside ask
      later_on late = from_then ask (all_at (NotBefore at) run.asks place_of ask (starts_behind number run there late) here)

      by_next : (u : IsUnderWay kept p order walk) → NotBefore at (waits_at kept p order walk comes u).ask → walk.ended ≤ number → ((nat_le (suc walk.ended) number ≡ true) × (suc walk.ended ≤ number)) ⊎ ((nat_le (suc walk.ended) number ≡ false) × (number < suc walk.ended)) → Outside ask
      by_next u late up (inl above) = later_on (u.later number run above.1 there)
      by_next u late up (inr below) = (let low = below.1 in going_on u late (omega (arith, low, up)))

      by_stand : walk.ended ≤ number → WaitsStill → Outside ask
      by_stand up (inl r) = later_on (r.later number run up there)
      by_stand up (inr u) = by_next u.0 u.1 up (leb_tells (suc walk.ended) number)

      by_order : ((nat_le walk.ended number ≡ true) × (walk.ended ≤ number)) ⊎ ((nat_le walk.ended number ≡ false) × (number < walk.ended)) → Outside ask
      by_order (inl up) = by_stand up.1 still
      by_order (inr below) =
          by_then ask (all_at (AnsweredBy (now p)) run.asks place_of ask (ended_before run (run_so number run there) (comes.ended number run below.1 there)) here)
