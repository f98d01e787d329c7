-- What is told of a call: its words, and what the shelf, the sink and the link tell before it and after it.
use Rattle.std.specs.Prelude.{ℕ, Option, List}
use Rattle.circus_serve.specs.Outside.{Tells}

-- what was so before a call, and is so after it
pub record Change (A : Type 0) : Type 0 where
  pub before : A
  pub after : A

pub record Told : Type 0 where
  pub words : List (List ℕ)
  -- the files of the shelf, where it tells them
  pub contents : Option (List ℕ → Option (List ℕ))
  -- the names that the shelf was asked for, where it tells them
  pub fetched : Change (Option (List (List ℕ)))
  -- the bytes that the sink was given, and those that it hasn't given on, where it tells them
  pub written : Change (Option (List ℕ))
  pub gathered : Option (List ℕ)
  -- what the link was asked for and given, where it tells
  pub carried : Change Tells
  -- how many of their calls have failed
  pub shelf_faults : Change ℕ
  pub sink_faults : Change ℕ
  pub link_faults : Change ℕ
