use Rattle.std.proofs.Common.{◌≡◌, map, take}
use Rattle.circus_stub.specs.Compiled.{error_stub}
use Rattle.circus_stub.proofs.compiler.error_stubs.Given as goal

-- the stubs so far are those of the front of the errors
abbrev pub invariant-loop-error : goal.invariant-loop-error
invariant-loop-error l = l.stubs ≡ map error_stub (take l.error-index l.errors)
