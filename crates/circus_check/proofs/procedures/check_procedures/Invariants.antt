use Rattle.std.proofs.Common.{◌≡◌, ℕ, ◌+◌, ◌≤◌, List, None, length, drop, take, map, min, option_map}
use Rattle.std.specs.Prelude.{IfNone}
use Rattle.circus_fault.specs.Least.{least_from}
use Rattle.circus_fault.specs.Seen.Tables.{holds_name}
use Rattle.circus_type.specs.Inside.{no_name}
use Rattle.circus_type.specs.Limits.{most_parts}
use Rattle.circus_resolve.specs.Causes.{rank}
use Rattle.circus_resolve.specs.Faults.{Faults}
use Rattle.circus_lang.specs.ModuleTree.{module_of, procedure_of, variable_of}
use Rattle.circus_check.specs.Faults.{has_procedure, also_variables, procedures_faults}
use Rattle.circus_check.specs.Meaning.{body_meant}
use Rattle.circus_check.specs.Resolved.{body_as}
use Rattle.circus_check.specs.Seen.Surroundings.{AreFew}
use Rattle.circus_check.specs.Seen.Programs.{modules_in, interfaces_in, list_now}
use Rattle.circus_check.proofs.BodiesPlaced.{placed}
use Rattle.circus_check.proofs.ProceduresFound.{IsFound}
use Rattle.circus_check.proofs.procedures.check_procedures.Given as goal

-- the procedures that are left decide with what is kept, and while no fault is found those before them stand at their places
abbrev pub invariant-loop-written : goal.invariant-loop-written
invariant-loop-written l =
    let interfaces = interfaces_in l.program in
    let modules = modules_in l.program in
    let m = module_of l.own.text.now in
    let ps = map procedure_of l.own.text.now.procedures in
    record {
      found : (found : Faults) (before : ℕ) → l.fn.best.fault ≡ least_from rank None found → l.fn.parts ≡ min before (1 + most_parts)
          → IsFound interfaces modules l.own.number m l.best.fault l.parts (holds_name l.so_far.procedures) (map procedure_of (drop l.written l.text-items))
          (least_from rank l.fn.best.fault (procedures_faults interfaces modules l.own.number m found before no_name ps));
      kept : l.best.fault ≡ None → l.fn.best.fault ≡ None;
      small : l.parts ≤ 1 + most_parts;
      few : IfNone l.best.fault (AreFew (length l.own.text.now.variables) l.parts);
      names : (name : List ℕ) → holds_name l.so_far.procedures name ≡ has_procedure (map procedure_of (take l.written l.text-items)) name;
      state : holds_name l.so_far.state ≡ also_variables (map variable_of l.own.text.now.variables) no_name;
      bodies : l.best.fault ≡ None → map (option_map body_as) l.slots.items ≡ map (option_map (body_meant interfaces modules l.own.number m)) (placed (list_now l.own.order) l.written (map procedure_of l.text-items));
    }
