use Rattle.std.proofs.Common.{◌≡◌, ◌+◌, [], length, List, Vec, Global, map, drop, ap, sym, ◌∙◌, arith}
use Rattle.std.specs.Prelude.{fold}
use Rattle.std.proofs.lemmas.List.{length-map, with_items_is}
use Rattle.circus_model.specs.Behaviour.{behaviours}
use Rattle.circus_model.specs.Execution.{Thread, join_runs, thread_of, roots_from}
use Rattle.circus_model.specs.declared.history.Run.{Run}
use Rattle.circus_model.specs.declared.signature.Signature.{Signature}
use Rattle.circus_model.proofs.Histories.{log_of_thread, length-joined}
use Rattle.circus_model.proofs.Threads.{are_modules, module_at, behaviour}
use Rattle.circus_model.proofs.Roots.{and_thread, begun, one_each, root_adds, other_adds_nothing}
use Rattle.circus_model.proofs.alone.run_alone.Goals as goal
use Rattle.circus_model.proofs.alone.run_alone.Goals.{then-signature+in_ok-runs_of_root+in_ok-join, else-signature}

pub loop-place-init : goal.loop-place-init
loop-place-init g c =
    let program = behaviours g.M.Module.declared g.M.Module.turn g.M.Module.first c.args.modules.now in
    let none : map (λ runs. runs.items) c.in_ok-history.field-0.runs.items ≡ map (λ _. []) program = ap (λ (t : Thread). t.runs) c.in_ok-history.ensures in
    record {
      same = begun program (map (λ runs. runs.items) c.in_ok-history.field-0.runs.items) none;
      room = one_each program c.in_ok-history.field-0.runs.items none ∙ length-map c.args.modules.now (behaviour g.M.Module.declared g.M.Module.turn g.M.Module.first);
    }

pub runs_of_root-requires-clause-root : goal.runs_of_root-requires-clause-root
runs_of_root-requires-clause-root g c = record {
  behaviour = behaviour g.M.Module.declared g.M.Module.turn g.M.Module.first c.index-modules-place.result;
  there = module_at g.M.Module.declared g.M.Module.turn g.M.Module.first c.args.modules.now c.loop-place.place c.index-modules-place.result c.loop-place-test.true c.index-modules-place.is;
  root = ap (λ (s : Signature). s.root) (sym c.signature.ensures) ∙ c.if-signature.true;
}

pub join-requires : goal.join-requires
join-requires g c =
    let program = behaviours g.M.Module.declared g.M.Module.turn g.M.Module.first c.args.modules.now in
    let lawful = are_modules g.M.Module.declared g.M.Module.turn g.M.Module.first c.args.modules.now (λ m. record { first_is_state = g.met.M.Module.first_is_state m; turns_are_lawful = g.met.M.Module.turns_are_lawful m }) in
    let there = module_at g.M.Module.declared g.M.Module.turn g.M.Module.first c.args.modules.now c.loop-place.place c.index-modules-place.result c.loop-place-test.true c.index-modules-place.is in
    let log = log_of_thread program c.requires.agree lawful c.loop-place.place (behaviour g.M.Module.declared g.M.Module.turn g.M.Module.first c.index-modules-place.result) there (ap (λ (s : Signature). s.root) (sym c.signature.ensures) ∙ c.if-signature.true) in
    let many : length c.in_ok-runs_of_root.field-0.items ≡ length c.args.modules.now =
    sym (length-map c.in_ok-runs_of_root.field-0.items (λ runs. runs.items)) ∙ ap length c.in_ok-runs_of_root.ensures ∙ log.all
    ∙ length-map c.args.modules.now (behaviour g.M.Module.declared g.M.Module.turn g.M.Module.first) in
    omega (arith, many, ap length c.deref_mut.ensures.value, c.loop-place.invariant.room, c.in_ok-runs_of_root.field-0.ok.0)

pub loop-place-preserved : goal.loop-place-preserved
loop-place-preserved g c =
    let program = behaviours g.M.Module.declared g.M.Module.turn g.M.Module.first c.args.modules.now in
    let b = behaviour g.M.Module.declared g.M.Module.turn g.M.Module.first c.index-modules-place.result in
    let there = module_at g.M.Module.declared g.M.Module.turn g.M.Module.first c.args.modules.now c.loop-place.place c.index-modules-place.result c.loop-place-test.true c.index-modules-place.is in
    let so_far = map (λ runs. runs.items) c.loop-place.history.items in
    let rest = roots_from (c.loop-place.place + 1) (drop (c.loop-place.place + 1) program) in
    elim c.if-signature.branch [
      | then-signature+in_ok-runs_of_root+in_ok-join w ↦
          let is_root = ap (λ (s : Signature). s.root) (sym c.signature.ensures) ∙ w.if-signature.true in
          let lawful = are_modules g.M.Module.declared g.M.Module.turn g.M.Module.first c.args.modules.now (λ m. record { first_is_state = g.met.M.Module.first_is_state m; turns_are_lawful = g.met.M.Module.turns_are_lawful m }) in
          let log = log_of_thread program c.requires.agree lawful c.loop-place.place b there is_root in
          let sizes : length so_far ≡ length (thread_of program c.loop-place.place).runs =
          length-map c.loop-place.history.items (λ runs. runs.items) ∙ c.loop-place.invariant.room ∙ sym (log.all ∙ length-map c.args.modules.now (behaviour g.M.Module.declared g.M.Module.turn g.M.Module.first)) in
          let put : map (λ runs. runs.items) w.join.new.history ≡ join_runs so_far (thread_of program c.loop-place.place).runs =
          w.in_ok-join.ensures
          ∙ ap (λ (xs : List (Vec Run Global)). join_runs (map (λ runs. runs.items) xs) (map (λ runs. runs.items) w.in_ok-runs_of_root.field-0.items)) w.deref_mut.ensures.value
          ∙ ap (join_runs so_far) w.in_ok-runs_of_root.ensures in
          let many : length w.join.new.history ≡ length c.loop-place.history.items =
          sym (length-map w.join.new.history (λ runs. runs.items)) ∙ ap length put ∙ length-joined so_far (thread_of program c.loop-place.place).runs sizes ∙ length-map c.loop-place.history.items (λ runs. runs.items) in
          let written : c.if-signature.history.items ≡ w.join.new.history =
          ap (λ (v : Vec (Vec Run Global) Global). v.items) w.history-is ∙ with_items_is c.loop-place.history w.join.new.history (omega (arith, many, c.loop-place.history.ok.0)) in
          record {
            same = ap (λ (h : List (List Run)). fold (and_thread program) h rest) (ap (map (λ runs. runs.items)) written ∙ put) ∙ root_adds program so_far c.loop-place.place b there is_root ∙ c.loop-place.invariant.same;
            room = ap length written ∙ many ∙ c.loop-place.invariant.room;
          }
      | else-signature w ↦
          let is_other = ap (λ (s : Signature). s.root) (sym c.signature.ensures) ∙ w.if-signature.false in
          record {
            same = ap (λ (v : Vec (Vec Run Global) Global). fold (and_thread program) (map (λ runs. runs.items) v.items) rest) w.history-is ∙ other_adds_nothing program so_far c.loop-place.place b there is_other ∙ c.loop-place.invariant.same;
            room = ap (λ (v : Vec (Vec Run Global) Global). length v.items) w.history-is ∙ c.loop-place.invariant.room;
          }
    ]
