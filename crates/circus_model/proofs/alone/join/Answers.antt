use Rattle.std.proofs.Common.{◌≡◌, ◌+◌, ◌<◌, ◌++◌, ◌∷◌, [], List, Vec, Global, length, map, ap, sym, ◌∙◌, arith, length-append, length-set}
use Rattle.std.proofs.lemmas.List.{nil_from_length}
use Rattle.circus_model.specs.declared.history.Run.{Run}
use Rattle.circus_model.specs.Execution.{join_runs}
use Rattle.circus_model.proofs.Threads.{join-step, joined-nothing}
use Rattle.circus_model.proofs.alone.join.Goals as goal

pub loop-more-preserved : goal.loop-more-preserved
loop-more-preserved c =
    let items : c.loop-more.all.items ≡ c.pop.new.self.items ++ c.in-Some.more ∷ [] = c.in-Some.ensures.items in
    let many : length c.loop-more.all.items ≡ length c.pop.new.self.items + 1 = ap length items ∙ length-append c.pop.new.self.items (c.in-Some.more ∷ []) in
    let place : c.len.result ≡ length c.pop.new.self.items = omega (arith, c.len.ensures, c.pop.new.self.ok.0) in
    let within : c.len.result < length c.loop-more.history = omega (arith, place, many, c.loop-more.invariant.room) in
    let step = join-step c.loop-more.history c.pop.new.self.items c.in-Some.more c.index-history-len.result c.append.new.into c.len.result place within c.index-history-len.is (c.in_ok-append.ensures ∙ ap (λ (v : Vec Run Global). v.items ++ c.in-Some.more.items) (sym c.index-history-len.is)) in
    record {
      same = step ∙ ap (λ (xs : List (Vec Run Global)). join_runs (map (λ runs. runs.items) c.loop-more.history) (map (λ runs. runs.items) xs)) (sym items) ∙ c.loop-more.invariant.same;
      room = omega (arith, many, c.loop-more.invariant.room, length-set c.loop-more.history c.len.result c.append.new.into);
    }

pub returns : goal.returns
returns c =
    let none : c.loop-more.all.items ≡ [] = nil_from_length c.loop-more.all.items (omega (arith, c.in_default.ensures.cases, c.loop-more.all.ok.0)) in
    sym (joined-nothing (map (λ runs. runs.items) c.loop-more.history))
    ∙ ap (λ (xs : List (Vec Run Global)). join_runs (map (λ runs. runs.items) c.loop-more.history) (map (λ runs. runs.items) xs)) (sym none)
    ∙ c.loop-more.invariant.same
