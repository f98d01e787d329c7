-- What is found of a shape by its name.
use Rattle.circus_value.specs.ShapeOf.{tree_of}
use Rattle.circus_resolve.specs.declared.named.FieldFound.{FieldFound as Field}
use Rattle.circus_resolve.specs.declared.named.ArmFound.{ArmFound as Arm}
use Rattle.circus_resolve.specs.Named.{FieldFound, ArmFound}

abbrev pub field_as : Field → FieldFound
field_as f = record { place = f.place; shape = tree_of f.shape.now }

abbrev pub arm_as : Arm → ArmFound
arm_as a = record { number = a.number; shape = tree_of a.shape.now }
