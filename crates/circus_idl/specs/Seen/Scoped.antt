-- What the tables of a scope say.
use Rattle.circus_fault.specs.Seen.Tables.{known_of, holds_name, holds_number}
use Rattle.circus_type.specs.declared.measuring.Measure.{Measure}
use Rattle.circus_idl.specs.declared.scope.Scope.{Scope}
use Rattle.circus_idl.specs.Seen.Known.{is_known, type_measure}
use Rattle.circus_idl.specs.Faults.{Before, Cut}

-- what is declared so far
abbrev pub before_of : Scope → Before Measure
before_of s = record {
  names = holds_name s.names;
  types = is_known s.types;
  sizes = type_measure s.types;
  errors = known_of s.errors;
  error_numbers = holds_number s.error_numbers;
  procedure_numbers = holds_number s.procedure_numbers;
  parts = s.parts;
}

-- where reading stopped
abbrev pub cut_in : Scope → Cut
cut_in s = record { within = s.within; list = s.list }
