-- The runs of a record that come one after the other were performed one by one.
use Rattle.std.proofs.Common.{◌≡◌, ℕ, zero, suc, ◌+◌, ◌≤◌, List, [], ◌∷◌, Option, Some, None, refl, sym, ap, subst, ◌∙◌, arith}
use Rattle.std.specs.Prelude.{slice_get, unwrap_or, IfSome, IsSomeAnd}
use Rattle.std.proofs.lemmas.Option.{same_Some}
use Rattle.circus_record.specs.declared.record.MemberRecord.{MemberRecord}
use Rattle.circus_record.specs.declared.record.RunRecord.{RunRecord}
use Rattle.circus_dues.specs.Calls.{RunOneByOne}
use Rattle.circus_dues.specs.Walk as walk
use Rattle.circus_dues.specs.Walk.{IsRunInOrder}
use Rattle.circus_dues.proofs.WalkRuns.{asks_rise}

-- a run didn't end before its start
lasts_so : (run : RunRecord) → IsRunInOrder run → IfSome run.ended (λ step. run.started ≤ step)
lasts_so run so = by_end run.ended refl
  where
    by_end : (o : Option ℕ) → run.ended ≡ o → IfSome o (λ step. run.started ≤ step)
    by_end None is = tt
    by_end (Some step) is =
        let same = so.ended_so step is in
        let low = asks_rise run.started run.asks so.asks_so in
        omega (arith, same, low)

-- the first of those behind it started no earlier than it ended
next_so : (run other : RunRecord) (runs : List RunRecord) → (run.ended ≡ None → runs ≡ []) → walk.RunOneByOne (unwrap_or run.ended run.started) runs → slice_get runs 0 ≡ Some other
    → IsSomeAnd run.ended (λ step. step ≤ other.started)
next_so run other [] last so there = absurd (let clash : ◌≡◌ {A = Option RunRecord} None (Some other) = there in cc)
next_so run other (x ∷ runs) last so there =
    subst (λ (r : RunRecord). IsSomeAnd run.ended (λ step. step ≤ r.started)) (same_Some x other there) (by_end run.ended refl so.0)
  where
    none_behind : (x ∷ runs) ≡ [] → ⊥
    none_behind eq = cc

    by_end : (o : Option ℕ) → run.ended ≡ o → unwrap_or o run.started ≤ x.started → IsSomeAnd o (λ step. step ≤ x.started)
    by_end None is low = absurd (none_behind (last is))
    by_end (Some step) is low = low

each_lasts : (from : ℕ) (runs : List RunRecord) → walk.RunOneByOne from runs → (number : ℕ) (run : RunRecord) → slice_get runs number ≡ Some run → IfSome run.ended (λ step. run.started ≤ step)
each_lasts from [] so number run is = absurd (let clash : ◌≡◌ {A = Option RunRecord} None (Some run) = is in cc)
each_lasts from (x ∷ runs) so zero run is = subst (λ (r : RunRecord). IfSome r.ended (λ step. r.started ≤ step)) (same_Some x run is) (lasts_so x so.1)
each_lasts from (x ∷ runs) so (suc number) run is = each_lasts (unwrap_or x.ended x.started) runs so.3 number run is

each_next : (from : ℕ) (runs : List RunRecord) → walk.RunOneByOne from runs → (number : ℕ) (run other : RunRecord) → slice_get runs number ≡ Some run → slice_get runs (suc number) ≡ Some other
    → IsSomeAnd run.ended (λ step. step ≤ other.started)
each_next from [] so number run other is there = absurd (let clash : ◌≡◌ {A = Option RunRecord} None (Some run) = is in cc)
each_next from (x ∷ runs) so zero run other is there =
    subst (λ (r : RunRecord). IsSomeAnd r.ended (λ step. step ≤ other.started)) (same_Some x run is) (next_so x other runs so.2 so.3 there)
each_next from (x ∷ runs) so (suc number) run other is there = each_next (unwrap_or x.ended x.started) runs so.3 number run other is there

pub alone_of : (kept : MemberRecord) → walk.RunOneByOne 0 kept.runs → RunOneByOne kept
alone_of kept order =
    record {
      lasts = each_lasts 0 kept.runs order;
      next = λ number run other is there.
          let same : number + 1 ≡ suc number = omega arith in
          each_next 0 kept.runs order number run other is (ap (slice_get kept.runs) (sym same) ∙ there);
    }
