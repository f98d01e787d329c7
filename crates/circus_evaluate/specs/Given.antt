-- What the code's expressions give, as the language means it.
use Rattle.std.specs.Prelude.{◌≡◌, Result, Ok, Err}
use Rattle.circus_value.specs.ValueOf.{tree_of}
use Rattle.circus_evaluate.specs.Got as got
use Rattle.circus_evaluate.specs.Got.{Raising}
use Rattle.circus_evaluate.specs.declared.got.Got.{Got}
use Rattle.circus_evaluate.specs.declared.got.Got.TheVariants.{Number, Lent, Made}
use Rattle.circus_evaluate.specs.declared.got.Given.{Given}
use Rattle.circus_evaluate.specs.declared.got.Given.TheVariants as given
use Rattle.circus_evaluate.specs.declared.got.NoValue.{NoValue}
use Rattle.circus_evaluate.specs.declared.got.NoValue.TheVariants.{Raises, NoMemory}

abbrev pub got_as : Got → got.Got
got_as (Number z) = got.number z
got_as (Lent value) = got.whole (tree_of value.now)
got_as (Made value) = got.whole (tree_of value)

abbrev pub given_as : Given → got.Got
given_as (given.Number z) = got.number z
given_as (given.Whole value) = got.whole (tree_of value)

-- the code answers what the language means, or memory ran out
abbrev pub Gives : {A B : Type 0} → (A → B) → Result A NoValue → Raising B → Type 0
Gives view (Ok a) meant = meant ≡ Ok (view a)
Gives view (Err (Raises error)) meant = meant ≡ Err error
Gives view (Err NoMemory) meant = Unit {0}
