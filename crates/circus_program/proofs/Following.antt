-- A replay is put line by line.
use Rattle.std.proofs.Common.{◌≡◌, ℕ, ◌+◌, ◌<◌, inl, inr, Option, None, List, [], ◌∷◌, length, get_or, drop, refl, sym, subst, add-one, drop-cons, Ok, Err}
use Rattle.std.specs.Prelude.{IsErrOf}
use Rattle.circus_outside.specs.Faults.{Rose}
use Rattle.circus_value.specs.ValueTree.{ValueTree}
use Rattle.circus_value.specs.declared.outcome.Outcome.{Outcome}
use Rattle.circus_collate.specs.declared.deployment.Host.{Host}
use Rattle.circus_model.specs.NextTurn.{NextTurn}
use Rattle.circus_model.specs.declared.signature.Signature.{Signature}
use Rattle.circus_record.specs.Naming.{Names, names_of}
use Rattle.circus_schedule.specs.declared.line.Line.{Line}
use Rattle.circus_node.specs.Alike.{declared_of, turn_of}
use Rattle.circus_world.specs.Alike.{world_as}
use Rattle.circus_world.specs.declared.cause.LineCause.{LineCause}
use Rattle.circus_world.specs.declared.cause.LineCause.TheVariants.{NoDatagram, NotLive, NotCrashed, NotSpare, AlreadyJoined}
use Rattle.circus_world.specs.WorldState.{WorldState}
use Rattle.circus_world.specs.Legal.{refusal}
use Rattle.circus_world.specs.Course.{step_line}
use Rattle.circus_report.specs.Report.{rest_text}
use Rattle.circus_report.specs.declared.running.RunFault.{RunFault}
use Rattle.circus_report.specs.declared.running.RunFault.TheVariants as fault
use Rattle.circus_report.specs.Run.{beginning, sent_from, IsRun, IsCounted}
use Rattle.circus_report.specs.Run as run
use Rattle.circus_report.specs.Writing.{Writes, WritesPart}
use Rattle.circus_commands.specs.declared.status.Status.{Status}
use Rattle.circus_commands.specs.declared.status.Status.TheVariants.{Done, SinkFault, NoMemory}
use Rattle.circus_commands.specs.Ending.{Ending}
use Rattle.circus_commands.specs.Spent.{end_of_spent}
use Rattle.circus_program.specs.Replay.{cause_text, refuse_line, behind, replay_lines, replayed_whole}
use Rattle.circus_program.specs.Seen.Put.{IsPutEnd}
use Rattle.circus_program.specs.Seen.Ended.{IsEndedBy}
use Rattle.circus_report.proofs.ToldLemmas.{WritesPart-none}
use Rattle.circus_program.proofs.ReplaysAlike.{whole_as}
use Rattle.circus_program.proofs.OneLine.{replayed_stepped, replayed_spent, replayed_refused}
use Rattle.circus_program.proofs.Pieces.{IsBegun, begun-none, begun-as, begun-more, part-left, part-next, put-left}

-- a cause names nodes alone
pub cause_same : (hosts : List Host) (modules : List (List ℕ)) (cause : LineCause) → cause_text (names_of hosts []) cause ≡ cause_text (names_of hosts modules) cause
cause_same hosts modules (NoDatagram number sent) = refl
cause_same hosts modules (NotLive node) = refl
cause_same hosts modules (NotCrashed node) = refl
cause_same hosts modules (NotSpare node) = refl
cause_same hosts modules (AlreadyJoined node) = refl

-- the line at a place, and those behind it
pub lines_from : (lines : List Line) (place : ℕ) (other : Line) → place < length lines → drop place lines ≡ get_or lines place other ∷ drop (place + 1) lines
lines_from lines place other within = rw add-one (drop-cons lines place other within)

-- a fault where no line was stepped
pub put-stopped : {A : Type 0} (text : List ℕ) (whole : Ending) (old now new : Option (List ℕ)) (before after : ℕ) (f : RunFault) (status : Status)
    → (f ≡ fault.SinkFailed → status ≡ SinkFault) → (f ≡ fault.NoMemory → status ≡ NoMemory)
    → run.IsPut {A = A} text now new (Err f) → (IsErrOf {T = A} (Err f) fault.SinkFailed → Rose before after)
    → (WritesPart now new text → WritesPart old new whole.text) → IsPutEnd whole old new before after status
put-stopped text whole old now new before after fault.SinkFailed status sink memory part rose inside = inr (inl (sink refl, inside part, rose refl))
put-stopped text whole old now new before after fault.NoMemory status sink memory part rose inside = inr (inr (memory refl, inside part))
put-stopped text whole old now new before after (fault.Illegal cause) status sink memory part rose inside = absurd part
put-stopped text whole old now new before after (fault.Spent node peer) status sink memory part rose inside = absurd part

-- ---- what is written of it

module _ {M : Type 0} (declared : M → Signature) (turn : M → List ValueTree → ℕ → List ValueTree → List Outcome → NextTurn) (whole : Ending) (old : Option (List ℕ)) where
  -- the line was stepped
  pub begun-next : (names : Names) (number : ℕ) (line : Line) (lines : List Line) (w next : WorldState M) (now later : Option (List ℕ))
      → IsBegun whole (replay_lines declared turn names number (line ∷ lines) w) old now → IsRun declared turn line w now later (Ok next)
      → IsBegun whole (replay_lines declared turn names (number + 1) lines next) old later
  begun-next names number line lines w next now later begun (legal, is, written) =
      begun-more whole old (sent_from (length w.sent) next) (replay_lines declared turn names (number + 1) lines next) now later
      (begun-as whole old _ _ now (replayed_stepped declared turn names number line lines w next legal is) begun) written

  part_cut : (names : Names) (number : ℕ) (line : Line) (lines : List Line) (w next : WorldState M) (now later : Option (List ℕ))
      → IsBegun whole (replay_lines declared turn names number (line ∷ lines) w) old now → refusal w line ≡ None → step_line declared turn line w ≡ Ok next
      → WritesPart now later (sent_from (length w.sent) next) → WritesPart old later whole.text
  part_cut names number line lines w next now later begun legal is part =
      part-next whole old (sent_from (length w.sent) next) (replay_lines declared turn names (number + 1) lines next) now later
      (begun-as whole old _ _ now (replayed_stepped declared turn names number line lines w next legal is) begun) part

  -- it wasn't
  pub put-ended : (hosts : List Host) (modules : List (List ℕ)) (number : ℕ) (line : Line) (lines : List Line) (w : WorldState M) (now later new : Option (List ℕ)) (before between after : ℕ) (f : RunFault) (status : Status)
      → IsBegun whole (replay_lines declared turn (names_of hosts modules) number (line ∷ lines) w) old now
      → IsRun declared turn line w now later (Err f)
      → (IsErrOf {T = WorldState M} (Err f) fault.SinkFailed → Rose before between)
      → IsCounted {A = WorldState M} (Err f) before between
      → IsEndedBy (names_of hosts []) number f later new between after status
      → IsPutEnd whole old new before after status
  put-ended hosts modules number line lines w now later new before between after (fault.Illegal cause) status begun (refusal_is, same) rose still ended =
      let names = names_of hosts modules in
      let end : Ending = refuse_line number (cause_text names cause) in
      put-left whole old end now new before after status
      (begun-as whole old _ end now (replayed_refused declared turn names number line lines w cause refusal_is) begun)
      (subst (λ (told : Option (List ℕ)). IsPutEnd end told new before after status) same
      (subst (λ (count : ℕ). IsPutEnd end later new count after status) still
      (subst (λ (text : List ℕ). IsPutEnd (refuse_line number text) later new between after status) (cause_same hosts modules cause) ended)))
  put-ended hosts modules number line lines w now later new before between after (fault.Spent node peer) status begun (legal, is, same) rose still ended =
      let names = names_of hosts modules in
      let end : Ending = end_of_spent names (node, peer) in
      put-left whole old end now new before after status
      (begun-as whole old _ end now (replayed_spent declared turn names number line lines w (node, peer) legal is) begun)
      (subst (λ (told : Option (List ℕ)). IsPutEnd end told new before after status) same
      (subst (λ (count : ℕ). IsPutEnd end later new count after status) still ended))
  put-ended hosts modules number line lines w now later new before between after fault.SinkFailed status begun (legal, (next, is, part)) rose still (stops, same, count) =
      inr (inl (
        stops,
        subst (λ (told : Option (List ℕ)). WritesPart old told whole.text) (sym same) (part_cut (names_of hosts modules) number line lines w next now later begun legal is part),
        subst (λ (k : ℕ). Rose before k) (sym count) (rose refl),
      ))
  put-ended hosts modules number line lines w now later new before between after fault.NoMemory status begun ran rose still (stops, same) =
      inr (inr (stops, subst (λ (told : Option (List ℕ)). WritesPart old told whole.text) (sym same) (by_run ran)))
    where
      by_run : IsRun declared turn line w now later (Err fault.NoMemory) → WritesPart old later whole.text
      by_run (inl nothing) = part-left whole old _ now later begun (WritesPart-none now later _ nothing)
      by_run (inr (legal, (next, is, part))) = part_cut (names_of hosts modules) number line lines w next now later begun legal is part

  -- all lines were
  pub put-done : (names : Names) (number : ℕ) (w : WorldState M) (now new : Option (List ℕ)) (before after : ℕ)
      → IsBegun whole (replay_lines declared turn names number [] w) old now → Writes now new (rest_text names w) → after ≡ before → IsPutEnd whole old new before after Done
  put-done names number w now new before after begun written still =
      put-left whole old (replay_lines declared turn names number [] w) now new before after Done begun (inl (refl, written, still))

-- ---- the beginning

module _ {M : Type 0} (declared : M → Signature) (turn : M → List ValueTree → ℕ → List ValueTree → List Outcome → NextTurn) (first : M → List ValueTree) where
  -- all of a replay, by what its modules do
  abbrev whole_of : Names → List Line → WorldState M → Ending
  whole_of names lines w = replayed_whole declared_of turn_of names lines (world_as declared turn first w)

  begun_whole : (names : Names) (lines : List Line) (w : WorldState M) (old : Option (List ℕ)) → IsBegun (whole_of names lines w) (behind (beginning w) (replay_lines declared turn names 1 lines w)) old old
  begun_whole names lines w old =
      begun-as (whole_of names lines w) old (whole_of names lines w) (behind (beginning w) (replay_lines declared turn names 1 lines w)) old
      (sym (whole_as declared turn first names lines w)) (begun-none (whole_of names lines w) old)

  -- it is written
  pub begun-boot : (names : Names) (lines : List Line) (w : WorldState M) (old now : Option (List ℕ)) → Writes old now (beginning w) → IsBegun (whole_of names lines w) (replay_lines declared turn names 1 lines w) old now
  begun-boot names lines w old now written =
      begun-more (whole_of names lines w) old (beginning w) (replay_lines declared turn names 1 lines w) old now (begun_whole names lines w old) written

  -- a part of it is
  pub part-boot : (names : Names) (lines : List Line) (w : WorldState M) (old now : Option (List ℕ)) → WritesPart old now (beginning w) → WritesPart old now (whole_of names lines w).text
  part-boot names lines w old now part =
      part-next (whole_of names lines w) old (beginning w) (replay_lines declared turn names 1 lines w) old now (begun_whole names lines w old) part
