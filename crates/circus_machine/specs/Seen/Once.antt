-- Two proofs that a module keeps the laws are equal.
use Rattle.std.specs.Prelude.{ℕ}
use Rattle.std.specs.Coded.{le_prop}
use Rattle.std.proofs.Math.Bool.{Bool-set}
use Rattle.circus_model.specs.Behaviour.{Behaviour, IsModule}
use Rattle.circus_model.specs.Lawful.{IsLawful}
use Rattle.circus_model.specs.NextTurn.{NextTurn, asks, ends}
use Rattle.circus_model.specs.declared.signature.Signature.{Signature}

turn_once : (signature : Signature) (procedure replies : ℕ) (next : NextTurn) → IsProp (IsLawful signature procedure replies next)
turn_once signature procedure replies (asks callee asked arguments state) = hlevel (le_prop, Bool-set)
turn_once signature procedure replies (ends outcome state) = hlevel (le_prop, Bool-set)

pub one_way : (b : Behaviour) → IsProp (IsModule b)
one_way b = hlevel (le_prop, Bool-set, turn_once)
