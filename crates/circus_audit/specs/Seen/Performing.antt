-- What an active member did, by one more line.
use Rattle.std.specs.Prelude.{ℕ, ◌+◌, ◌==◌, nat_le, cond, List, [], ◌∷◌, ◌++◌, length, codes, option_map, Option, Some, None}
use Rattle.circus_value.specs.ValueTree.{ValueTree}
use Rattle.circus_model.specs.declared.signature.Signature.{Signature}
use Rattle.circus_collate.specs.declared.deployment.Deployment.{Deployment}
use Rattle.circus_transfer.specs.declared.joiner.Joiner.TheVariants as joiner
use Rattle.circus_record.specs.declared.record.AskRecord.{AskRecord}
use Rattle.circus_record.specs.declared.record.RunRecord.{RunRecord}
use Rattle.circus_performing.specs.Record.{count_after}
use Rattle.circus_value_text.specs.Reading.{behind_prefix}
use Rattle.circus_audit.specs.declared.performed.Current.{Current}
use Rattle.circus_audit.specs.declared.performed.Current.TheVariants.{Nothing, Run, Ask}
use Rattle.circus_audit.specs.declared.performed.Performed.{Performed}
use Rattle.circus_audit.specs.declared.performed.After.{After}
use Rattle.circus_audit.specs.declared.performed.After.TheVariants.{On, Last}
use Rattle.circus_audit.specs.Seen.Answers.{from_some, or_else, only_if}
use Rattle.circus_audit.specs.Seen.Lines as lines

-- the place of the run behind so many, where it is a number of four bytes
abbrev pub place_behind : ℕ → ℕ → Option ℕ
place_behind from runs = cond (nat_le (from + runs) 4294967295) (Some (from + runs)) None

abbrev pub on_with : Performed → Current → After
on_with p current = On (record p { current = current })

-- the record, where no line is left
abbrev pub finish_record : ℕ → ℕ → ℕ → List RunRecord → List ValueTree → After
finish_record from since count runs state =
    Last (record { phase = joiner.Active from; from = from; active_at = since; count = count; runs = runs; state = state })

abbrev pub with_ask : RunRecord → AskRecord → RunRecord
with_ask run ask = record run { asks = run.asks ++ ask ∷ [] }

abbrev pub ask_kept : RunRecord → AskRecord → Option RunRecord
ask_kept run ask = Some (with_ask run ask)

abbrev pub with_ended : Performed → RunRecord → After
with_ended p run = On (record p { runs = p.runs ++ run ∷ []; current = Nothing })

-- the member is idle, where its count is that behind its runs
abbrev pub idles : Signature → Performed → List ℕ → Option After
idles s p text = only_if (count_after p.from (length p.runs) == p.count) (option_map (finish_record p.from p.since p.count p.runs) (lines.idle_read s text))

-- it waits, where its count is that of its run
abbrev pub waits : Signature → Performed → RunRecord → AskRecord → List ℕ → Option After
waits s p run ask text =
    from_some (place_behind p.from (length p.runs)) (λ place. only_if (place == p.count)
    (option_map (finish_record p.from p.since p.count (p.runs ++ with_ask run ask ∷ [])) (lines.waiting_read s (length run.asks) text)))

module _ (modules : List (List ℕ)) (s : Signature) (events : ℕ) where
  abbrev pub ask_begins : Performed → RunRecord → List ℕ → Option After
  ask_begins p run text = option_map (λ ask. on_with p (Ask run ask)) (lines.ask_read modules s events (length run.asks) text)

  abbrev pub run_ends : Performed → RunRecord → List ℕ → Option After
  run_ends p run text =
      from_some (place_behind p.from (length p.runs)) (λ place. option_map (with_ended p) (lines.end_read (length modules) s events place run text))

  -- by a line where a run is performed
  abbrev pub run_goes_on : Performed → RunRecord → List ℕ → Option After
  run_goes_on p run line = or_else (behind_prefix (codes "ask ") line) (ask_begins p run) (from_some (behind_prefix (codes "end ") line) (run_ends p run))

  abbrev pub reply_comes : Performed → RunRecord → AskRecord → List ℕ → Option After
  reply_comes p run ask text =
      option_map (λ answered. on_with p (Run (with_ask run answered))) (lines.reply_read (length modules) s events (length run.asks) ask text)

  -- by a line where a reply is awaited
  abbrev pub ask_goes_on : Performed → RunRecord → AskRecord → List ℕ → Option After
  ask_goes_on p run ask line =
      or_else (behind_prefix (codes "reply ") line) (reply_comes p run ask) (from_some (behind_prefix (codes "now waiting ask ") line) (waits s p run ask))

module _ (modules : List (List ℕ)) (d : Deployment) (s : Signature) (events : ℕ) where
  -- on a line of so many bytes
  abbrev pub run_begins : ℕ → Performed → List ℕ → Option After
  run_begins most p text =
      from_some (place_behind p.from (length p.runs))
      (λ place. option_map (λ run. on_with p (Run run)) (lines.run_read modules d s events most place text))

  -- by a line where no run is performed
  abbrev pub next_read : Performed → List ℕ → Option After
  next_read p line = or_else (behind_prefix (codes "run ") line) (run_begins (length line) p) (from_some (behind_prefix (codes "now idle") line) (idles s p))

  abbrev pub performed_by : Performed → Current → List ℕ → Option After
  performed_by p Nothing line = next_read p line
  performed_by p (Run run) line = run_goes_on modules s events p run line
  performed_by p (Ask run ask) line = ask_goes_on modules s events p run ask line

  -- by one more line
  abbrev pub performed_after : Performed → List ℕ → Option After
  performed_after p line = performed_by (record p { current = Nothing }) p.current line
