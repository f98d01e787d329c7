use Rattle.std.proofs.Common.{◌≡◌, ℕ, ◌+◌, Bool, false, List, ◌∷◌, [], ◌++◌, Option, None, Some, refl, sym, ◌∙◌, ap, subst, arith, map, take, drop, length, replicate, option_map, min, ◌≤◌}
use Rattle.std.specs.Prelude.{slice_get, bytes_eq, ◌||◌}
use Rattle.std.proofs.lemmas.List.{take-map, map_more, length-map, drop_all}
use Rattle.std.proofs.lemmas.Option.{slice_get-map, slice_get_read}
use Rattle.std.proofs.lemmas.Result.{IfOk-weaker}
use Rattle.circus_fault.specs.declared.fault.Fault.{Fault}
use Rattle.circus_fault.specs.Least.{least_from}
use Rattle.circus_fault.specs.Seen.Tables.{holds_name}
use Rattle.circus_type.proofs.Dropped.{drop_more}
use Rattle.circus_type.specs.Inside.{no_name}
use Rattle.circus_type.specs.Limits.{most_parts}
use Rattle.circus_type.specs.Scale.{written_out}
use Rattle.circus_resolve.specs.declared.cause.CheckCause.{CheckCause}
use Rattle.circus_resolve.specs.Causes.{rank}
use Rattle.circus_resolve.specs.Faults.{Faults}
use Rattle.circus_lang.specs.ModuleTree.{module_of, procedure_of, variable_of}
use Rattle.circus_check.specs.Faults.{forms, has_procedure, also_variables, variables_parts, procedures_faults}
use Rattle.circus_check.specs.Meaning.{body_meant}
use Rattle.circus_check.specs.Scope.{implemented_by}
use Rattle.circus_check.specs.Resolved.{body_as}
use Rattle.circus_check.specs.Seen.Programs.{modules_in, interfaces_in, list_now}
use Rattle.circus_check.proofs.BodiesPlaced.{AreApart, IsThere, bodies_more, bodies_all, none_placed, in_place}
use Rattle.circus_check.proofs.OwnTables.{forms_are}
use Rattle.circus_check.proofs.ProceduresFound.{IsFound, found_more, few_more, clean_is, has_more, there_is, apart_is, of_none, if_none_by, in_place_is, found_end}
use Rattle.circus_check.specs.Seen.Surroundings.{count_for}
use Rattle.circus_check.proofs.VariablesFound.{none_held, on_any}
use Rattle.circus_check.proofs.procedures.check_procedures.Goals as goal

pub loop-written-preserved : goal.loop-written-preserved
loop-written-preserved c =
    let interfaces = interfaces_in c.args.program.now in
    let modules = modules_in c.args.program.now in
    let own = c.args.own.now in
    let m = module_of own.text.now in
    let old = c.loop-written in
    let new = c.procedure.new in
    let ts = c.as_slice-text-items.result.now in
    let n = old.written in
    let t = c.text-item.result in
    let p = procedure_of t in
    let ps = map procedure_of ts in
    let meant = body_meant interfaces modules own.number m in
    let order = list_now own.order in
    let left = drop_more ts n t c.loop-written-test.true c.text-item.is in
    let taken = take-map procedure_of (n + 1) ts ∙ map_more procedure_of ts n t c.loop-written-test.true
    ∙ (λ i. sym (take-map procedure_of n ts) i ++ procedure_of (sym c.text-item.is i) ∷ []) in
    let at : slice_get ps n ≡ Some p = slice_get-map procedure_of ts n ∙ ap (option_map procedure_of) (slice_get_read ts (length ts) n t refl c.loop-written-test.true c.text-item.is) in
    let whole : Faults → ℕ → Option (Fault CheckCause) = λ found before. least_from rank c.args.best.now.fault (procedures_faults interfaces modules own.number m found before no_name m.procedures) in
    let clean = clean_is interfaces modules own.number m old.best.fault new.best.fault old.parts (holds_name old.so_far.procedures) p old.invariant.small c.in_ok-body.ensures.found in
    record {
      found = λ found before first full.
          found_more interfaces modules own.number m old.best.fault new.best.fault (whole found before) old.parts new.parts (holds_name old.so_far.procedures) (holds_name new.so_far.procedures) p (map procedure_of (drop (n + 1) ts))
          (subst (λ rest. IsFound interfaces modules own.number m old.best.fault old.parts (holds_name old.so_far.procedures) (map procedure_of rest) (whole found before)) left (old.invariant.found found before first full))
          c.in_ok-body.ensures.found
          (λ parts is. c.in_ok-body.ensures.counted parts is ∙ ap (λ f. min (variables_parts written_out f parts p.body.variables) (1 + most_parts)) (forms_are c.args.program.now own c.requires.own))
          c.in_ok-body.ensures.added;
      kept = λ none. old.invariant.kept (clean none).nothing;
      few = if_none_by new.best.fault (λ none.
          let is = clean none in
          let are = of_none old.best.fault _ old.invariant.few is.nothing in
          let full : old.parts ≡ min old.parts (1 + most_parts) = omega (arith, old.invariant.small) in
          few_more (forms interfaces modules own.number m) (length own.text.now.variables) old.parts new.parts p.body.variables are (is.few are.1)
          (c.in_ok-body.ensures.counted old.parts full ∙ ap (λ f. min (variables_parts written_out f old.parts p.body.variables) (1 + most_parts)) (forms_are c.args.program.now own c.requires.own)));
      small = (let full : old.parts ≡ min old.parts (1 + most_parts) = omega (arith, old.invariant.small) in omega (arith, c.in_ok-body.ensures.counted old.parts full));
      names = λ name.
          ap (λ (f : List ℕ → Bool). f name) c.in_ok-body.ensures.added
          ∙ ap (λ b. bytes_eq p.name.name name || b) (old.invariant.names name ∙ ap (λ qs. has_procedure qs name) (sym (take-map procedure_of n ts)))
          ∙ sym (has_more (take n ps) p name)
          ∙ ap (λ qs. has_procedure qs name) (sym taken ∙ take-map procedure_of (n + 1) ts);
      state = ap holds_name c.in_ok-body.ensures.same ∙ old.invariant.state;
      bodies = λ none.
          let is = clean none in
          let apart : AreApart order = subst AreApart (sym c.requires.own.order) (apart_is interfaces own.text.now.interface c.requires.program.obey) in
          let new_name : has_procedure (take n ps) p.name.name ≡ false = ap (λ qs. has_procedure qs p.name.name) (take-map procedure_of n ts) ∙ sym (old.invariant.names p.name.name) ∙ is.new in
          let there : IsThere order p.name.name = subst (λ o. IsThere o p.name.name) (sym c.requires.own.order) (there_is (implemented_by interfaces own.text.now.interface) p.name.name is.offers) in
          bodies_more body_as meant order ps n p old.slots.items c.put_body.new.slots.items c.place_in.result c.in_ok-body.body
          apart at taken new_name there c.put_body.ensures c.place_in.ensures (of_none new.best.fault _ c.in_ok-body.ensures.meant none) (old.invariant.bodies is.nothing);
    }

pub loop-written-init : goal.loop-written-init
loop-written-init c =
    let interfaces = interfaces_in c.args.program.now in
    let modules = modules_in c.args.program.now in
    let own = c.args.own.now in
    let m = module_of own.text.now in
    let best = c.args.best.now.fault in
    let ts = c.as_slice-text-items.result.now in
    let order = list_now own.order in
    let none = none_held c.new.result c.new.ensures in
    let as_many : length (map procedure_of ts) ≡ length own.text.now.procedures = length-map ts procedure_of ∙ ap length c.as_slice-text-items.ensures in
    record {
      found = λ found before first full. record {
        found = found;
        before = before;
        best_is = first;
        parts_are = full;
        left = λ i. least_from rank best (procedures_faults interfaces modules own.number m found before (none i) (map procedure_of (c.as_slice-text-items.ensures i)));
      };
      kept = λ is. is;
      small = c.requires.small;
      few = c.requires.few;
      names = λ name. ap (λ (f : List ℕ → Bool). f name) none;
      state = c.in_ok-state_names.ensures ∙ ap (λ vs. also_variables (map variable_of vs) no_name) c.as_slice.ensures;
      bodies = λ is.
          ap (map (option_map body_as)) (c.in_ok-slots.ensures ∙ ap (λ n. replicate n None) (c.body_count.ensures ∙ ap (count_for order) (sym as_many)))
          ∙ none_placed body_as (body_meant interfaces modules own.number m) order (map procedure_of ts);
    }

pub returns-clause-found : goal.returns-clause-found
returns-clause-found c =
    let own = c.args.own.now in
    let ts = c.as_slice-text-items.result.now in
    let end : map procedure_of (drop c.loop-written.written ts) ≡ [] = ap (map procedure_of) (drop_all c.loop-written.written ts c.loop-written-test.false) in
    on_any c.bodies.result (λ found before first full.
    found_end (interfaces_in c.args.program.now) (modules_in c.args.program.now) own.number (module_of own.text.now) c.loop-written.best.fault _ c.loop-written.parts (holds_name c.loop-written.so_far.procedures) (map procedure_of (drop c.loop-written.written ts))
    (c.loop-written.invariant.found found before first full) end)

pub returns-clause-meant : goal.returns-clause-meant
returns-clause-meant c =
    let interfaces = interfaces_in c.args.program.now in
    let modules = modules_in c.args.program.now in
    let own = c.args.own.now in
    let m = module_of own.text.now in
    let ts = c.as_slice-text-items.result.now in
    let ps = map procedure_of ts in
    let order = list_now own.order in
    let interface = implemented_by interfaces own.text.now.interface in
    let meant = body_meant interfaces modules own.number m in
    let past : length ps ≤ c.loop-written.written = omega (arith, length-map ts procedure_of, c.loop-written-test.false) in
    IfOk-weaker c.bodies.result _ _ (λ made is.
    if_none_by c.loop-written.best.fault (λ none.
    bodies_all body_as meant order ps c.loop-written.written c.loop-written.slots.items made past is (c.loop-written.invariant.bodies none)
    ∙ (λ i. map meant (in_place (c.requires.own.order i) (map procedure_of (c.as_slice-text-items.ensures i))))
    ∙ ap (map meant) (in_place_is interface m.procedures)))
    c.bodies.ensures
