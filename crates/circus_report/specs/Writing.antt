-- What was written to a sink that tells it or doesn't.
use Rattle.std.specs.Prelude.{ℕ, ◌≡◌, List, ◌++◌, Option}
use Rattle.circus_outside.specs.Told.{told_more}

-- this was written at the end of what the sink has
abbrev pub Writes : Option (List ℕ) → Option (List ℕ) → List ℕ → Type 0
Writes old new text = new ≡ told_more old text

-- a part of the text from its beginning was written
pub record WritesPart (old new : Option (List ℕ)) (text : List ℕ) : Type 0 where
  pub part : List ℕ
  pub rest : List ℕ
  pub whole : text ≡ part ++ rest
  pub written : Writes old new part
