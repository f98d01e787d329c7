-- What members did, as the code keeps it step by step.
use Rattle.std.specs.Prelude.{ℕ, ◌≡◌, List, length, map, slice_get, Some}
use Rattle.circus_picture.specs.declared.deeds.Did as kept
use Rattle.circus_picture.specs.declared.deeds.Did.TheVariants.{BecameActive, Began, Ended}
use Rattle.circus_picture.specs.declared.deeds.Deed as keeps
use Rattle.circus_picture.specs.Deeds.{Did, becomes_active, begins, ends, Deed, deeds_in}

abbrev pub did_of : kept.Did → Did
did_of (BecameActive from) = becomes_active from
did_of (Began place run) = begins place run.now.root run.now.path
did_of (Ended place outcome) = ends place outcome.now

-- a deed that is kept for a step
abbrev pub deed_at : ℕ → keeps.Deed → Deed
deed_at step deed = record { step = step; node = deed.node; did = did_of deed.did }

-- for each of so many steps its deeds are kept, in their order
pub record AreKept (count : ℕ) (deeds : List Deed) (lists : List (List keeps.Deed)) : Type 0 where
  pub all : length lists ≡ count
  pub each : (step : ℕ) (own : List keeps.Deed) → slice_get lists step ≡ Some own → map (deed_at step) own ≡ deeds_in step deeds
