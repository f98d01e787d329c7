-- How many segments the messages of a program have, where each is made once.
use Rattle.std.specs.Prelude.{◌≡◌, ℕ, zero, suc, ◌+◌, ◌*◌, if◌then◌else◌, List, [], ◌∷◌, ◌++◌, length, Some, slice_get}
use Rattle.std.specs.Option.{option_map_or}
use Rattle.circus_external.specs.Spelling.{spelling_of_all}
use Rattle.circus_header.specs.declared.call.CallHeader.{CallHeader}
use Rattle.circus_collate.specs.declared.deployment.Deployment.{Deployment}
use Rattle.circus_collate.specs.declared.deployment.Troupe.{Troupe}
use Rattle.circus_model.specs.declared.history.Ask.{Ask}
use Rattle.circus_model.specs.declared.history.Run.{Run}
use Rattle.circus_model.specs.Execution.{is_spent}
use Rattle.circus_model.specs.History.{runs_of, run_at, clock_before}
use Rattle.circus_segment.specs.Cut.{segment_count}
use Rattle.circus_member_rules.specs.Messages.{ask_message, reply_message}
use Rattle.circus_schedule.specs.declared.line.Line.{Line}
use Rattle.circus_schedule.specs.declared.line.Line.TheVariants.{Deliver}

-- the sum over the numbers below one
abbrev pub total : ℕ → (ℕ → ℕ) → ℕ
total zero of = 0
total (suc n) of = total n of + of n

-- the founders of the troupe of a module
abbrev pub founders_of : Deployment → ℕ → List ℕ
founders_of d place = option_map_or (λ (t : Troupe). t.founders) (slice_get d.troupes place) []

-- the header of the call for the ask of a number, of the run with an index of a module: it names
-- the first views
abbrev pub header_of : ℕ → ℕ → Run → ℕ → Ask → CallHeader
header_of place index run number ask =
    record {
      root = run.root;
      path = run.path ++ number ∷ [];
      client = place;
      client_incarnation = 1;
      client_index = index;
      server = ask.callee;
      server_incarnation = 1;
      procedure = ask.procedure;
      clock = clock_before run number;
    }

-- the segments of that call, and of the return to it
unfoldable pub segments_of : ℕ → ℕ → Run → ℕ → Ask → ℕ
segments_of place index run number ask =
    let header = header_of place index run number ask in
    segment_count (ask_message header (spelling_of_all ask.arguments))
    + segment_count (reply_message (record { clock = ask.after; outcome = ask.reply }))

module _ (d : Deployment) (history : List (List Run)) where
  -- of the calls that a founder makes for an ask, one to each founder of the callee, and the
  -- returns to them; an ask of a spent thread makes none
  abbrev pub segments_of_ask : ℕ → ℕ → Run → ℕ → Ask → ℕ
  segments_of_ask place index run number ask =
      if is_spent (clock_before run number)
      then 0
      else length (founders_of d ask.callee) * segments_of place index run number ask

  -- for all asks of a run
  abbrev pub segments_of_run : ℕ → ℕ → Run → ℕ
  segments_of_run place index run =
      total (length run.asks)
      (λ number.
      option_map_or (segments_of_ask place index run number) (slice_get run.asks number) 0)

  -- for all runs of a module, by each of its founders
  abbrev pub segments_of_module : ℕ → ℕ
  segments_of_module place =
      length (founders_of d place)
      * total (length (runs_of history place))
      (λ index. option_map_or (segments_of_run place index) (run_at history place index) 0)

  -- and by those of all modules
  abbrev pub all_segments : ℕ
  all_segments = total (length d.troupes) segments_of_module

-- no datagram is delivered twice
abbrev pub AreOnce : List Line → Type 0
AreOnce lines =
    (place other number : ℕ)
    → slice_get lines place ≡ Some (Deliver number) → slice_get lines other ≡ Some (Deliver number)
    → place ≡ other
