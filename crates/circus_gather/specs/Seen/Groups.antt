-- The calls that wait, and which of them are answered together.
use Rattle.std.specs.Prelude.{ℕ, Bool, false, not, ◌&&◌, nat_lt, if◌then◌else◌, List, Option, Some, None}
use Rattle.circus_gather.specs.declared.held.HeldCall.{HeldCall}
use Rattle.circus_gather.specs.declared.group.Group.{Group}
use Rattle.circus_gather.specs.declared.group.Group.TheVariants.{Stale, Before}
use Rattle.circus_gather.specs.Gathering.{index_of, is_of_run}

-- those to a module, in order of arrival
pub record Waits : Type 0 where
  pub «module» : ℕ
  pub calls : List HeldCall

abbrev pub is_in_group : ℕ → Group → HeldCall → Bool
is_in_group «module» (Stale required open_run) call = nat_lt call.header.server_incarnation required && not (is_of_run «module» open_run call)
is_in_group «module» (Before from) call = nat_lt (index_of «module» call.header) from

-- a slot has a call that is in no group
abbrev pub stays : ℕ → Group → Option HeldCall → Bool
stays «module» group None = false
stays «module» group (Some call) = not (is_in_group «module» group call)

-- the call of a slot, where it is in no group
abbrev pub spare_call : ℕ → Group → Option HeldCall → Option HeldCall
spare_call «module» group slot = if stays «module» group slot then slot else None
