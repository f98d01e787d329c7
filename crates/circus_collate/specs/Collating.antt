-- What a collator answers where the same nodes are expected to say any value.
use Rattle.std.specs.Prelude.{ℕ, Bool, if◌then◌else◌, List, Option, None, Some}
use Rattle.circus_collate.specs.declared.giving.Said.{Said}
use Rattle.circus_collate.specs.declared.collating.Collated.{Collated}
use Rattle.circus_collate.specs.declared.collating.Collated.TheVariants.{Waiting, Answer, Differ}
use Rattle.circus_collate.specs.declared.kind.Kind.{Kind}
use Rattle.circus_collate.specs.declared.kind.Kind.TheVariants.{First, Majority, Unanimous, AtLeast, Watchdog}
use Rattle.circus_collate.specs.Giving.{first_difference, all_have_said, place_of_value}

-- a value is given; or two values differ, and none will be given; or more has to come
abbrev pub answer : Option ℕ → Option ℕ → Collated
answer (Some place) other = Answer place
answer None (Some other) = Differ 0 other
answer None None = Waiting

module _ {V : Type 0} (eq : V → V → Bool) (nodes down : List ℕ) (said : List (Said V)) where
  -- the place of another value than the first, where those that are expected can't come to one
  unfoldable pub dispute : Kind → Option ℕ
  dispute First = None
  dispute Watchdog = None
  dispute Unanimous = first_difference eq said
  dispute Majority = if all_have_said said down nodes then first_difference eq said else None
  dispute (AtLeast number) = if all_have_said said down nodes then first_difference eq said else None

  abbrev pub collate : Kind → Collated
  collate kind = answer (place_of_value eq (λ _. nodes) said kind down) (dispute kind)
