-- What was given first, as a past grew.
use Rattle.std.specs.Prelude.{ℕ, Option, None, Some}
use Rattle.circus_member_theory.specs.Past.{Past, booted, followed, now}

module _ {A : Type 0} where
  -- what stands at the end of a past, with its last step
  abbrev pub at_end : Past → Option A → Option (ℕ × A)
  at_end p None = None
  at_end p (Some a) = Some (now p, a)

  -- this, or else that
  abbrev pub or_else : Option (ℕ × A) → Option (ℕ × A) → Option (ℕ × A)
  or_else None other = other
  or_else (Some given) other = Some given

  -- what `gives` gives at the end of the shortest past at whose end it gives anything, with the
  -- last step of that
  unfoldable pub first_given : (Past → Option A) → Past → Option (ℕ × A)
  first_given gives booted = at_end booted (gives booted)
  first_given gives (followed p step o) =
      or_else (first_given gives p) (at_end (followed p step o) (gives (followed p step o)))
