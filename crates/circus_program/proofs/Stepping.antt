-- A picture is put once its lines are stepped.
use Rattle.std.proofs.Common.{◌≡◌, ℕ, ◌+◌, inl, inr, Option, Some, None, List, [], ◌∷◌, refl, sym, subst, ◌∙◌, Result, Ok, Err}
use Rattle.circus_value.specs.ValueTree.{ValueTree}
use Rattle.circus_value.specs.declared.outcome.Outcome.{Outcome}
use Rattle.circus_collate.specs.declared.deployment.Host.{Host}
use Rattle.circus_model.specs.NextTurn.{NextTurn}
use Rattle.circus_model.specs.declared.signature.Signature.{Signature}
use Rattle.circus_record.specs.Naming.{Names, names_of}
use Rattle.circus_schedule.specs.declared.line.Line.{Line}
use Rattle.circus_world.specs.WorldState.{WorldState}
use Rattle.circus_report.specs.declared.running.RunFault.{RunFault}
use Rattle.circus_report.specs.declared.running.RunFault.TheVariants as fault
use Rattle.circus_report.proofs.ToldLemmas.{WritesPart-none}
use Rattle.circus_commands.specs.declared.status.Status.{Status}
use Rattle.circus_commands.specs.Ending.{Ending}
use Rattle.circus_commands.specs.Spent.{end_of_spent}
use Rattle.circus_program.specs.Replay.{cause_text, refuse_line, follow_lines}
use Rattle.circus_program.specs.Seen.Put.{IsPutEnd}
use Rattle.circus_program.specs.Seen.Ended.{IsEndedBy}
use Rattle.circus_program.specs.Seen.Followed.{IsOneStep, Comes, IsCutBy}
use Rattle.circus_program.proofs.Following.{cause_same}
use Rattle.circus_program.proofs.Drawn.{followed_stepped, followed_spent, followed_refused}

module _ {M : Type 0} (declared : M → Signature) (turn : M → List ValueTree → ℕ → List ValueTree → List Outcome → NextTurn) where
  -- what is left of lines from here on comes of them
  abbrev pub IsLeft : List Line → WorldState M → ℕ → List Line → WorldState M → Type 0
  IsLeft lines w number left now = Comes declared turn lines w (λ names end. follow_lines declared turn names end number left now)

  -- a line more is stepped
  pub left-next : (lines : List Line) (w : WorldState M) (number : ℕ) (line : Line) (left : List Line) (now next : WorldState M) → IsLeft lines w number (line ∷ left) now → IsOneStep declared turn line now (Ok next)
      → IsLeft lines w (number + 1) left next
  left-next lines w number line left now next so (legal, is) = λ names end. so names end ∙ followed_stepped declared turn names end number line left now next legal is

  -- or ends them
  pub left-cut : (lines : List Line) (w : WorldState M) (number : ℕ) (line : Line) (left : List Line) (now : WorldState M) (f : RunFault) → IsLeft lines w number (line ∷ left) now → IsOneStep declared turn line now (Err f)
      → IsCutBy declared turn lines w number f
  left-cut lines w number line left now (fault.Illegal cause) so is = λ names end. so names end ∙ followed_refused declared turn names end number line left now cause is
  left-cut lines w number line left now (fault.Spent node peer) so (legal, is) = λ names end. so names end ∙ followed_spent declared turn names end number line left now (node, peer) legal is
  left-cut lines w number line left now fault.SinkFailed so is = is
  left-cut lines w number line left now fault.NoMemory so is = tt

  -- the end of lines that were cut was put
  pub put-cut : (hosts : List Host) (modules : List (List ℕ)) (end : WorldState M → Ending) (lines : List Line) (w : WorldState M) (number : ℕ) (f : RunFault) (old new : Option (List ℕ)) (before after : ℕ) (status : Status)
      → IsCutBy declared turn lines w number f → IsEndedBy (names_of hosts []) number f old new before after status
      → IsPutEnd (follow_lines declared turn (names_of hosts modules) end 1 lines w) old new before after status
  put-cut hosts modules end lines w number (fault.Illegal cause) old new before after status cut ended =
      let names = names_of hosts modules in
      subst (λ (e : Ending). IsPutEnd e old new before after status) (sym (cut names end))
      (subst (λ (text : List ℕ). IsPutEnd (refuse_line number text) old new before after status) (cause_same hosts modules cause) ended)
  put-cut hosts modules end lines w number (fault.Spent node peer) old new before after status cut ended =
      subst (λ (e : Ending). IsPutEnd e old new before after status) (sym (cut (names_of hosts modules) end)) ended
  put-cut hosts modules end lines w number fault.SinkFailed old new before after status cut ended = absurd cut
  put-cut hosts modules end lines w number fault.NoMemory old new before after status cut (stops, same) =
      inr (inr (stops, WritesPart-none old new (follow_lines declared turn (names_of hosts modules) end 1 lines w).text same))
