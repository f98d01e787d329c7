-- The clauses of the top call.
use Rattle.std.proofs.Common.{◌≡◌, ℕ, ◌⊎◌, false, Option, List, sym, subst, ap, ◌∙◌, inl, inr, refl}
use Rattle.std.specs.Prelude.{IsTrue}
use Rattle.circus_commands.specs.declared.status.Status.{Status}
use Rattle.circus_commands.specs.declared.status.Status.TheVariants.{ShelfFault, SinkFault, LinkFault, NoMemory}
use Rattle.circus_commands.specs.Status.{is_end}
use Rattle.circus_outside.specs.Faults.{Rose}
use Rattle.circus_report.specs.Writing.{Writes, WritesPart}
use Rattle.circus_program.specs.declared.answer.Step.{Step}
use Rattle.circus_program.specs.declared.answer.Step.TheVariants.{Finish, Lack, History, Replay, Serve}
use Rattle.circus_commands.specs.Ending.{Ending}
use Rattle.circus_commands.specs.Seen.Ending.{ending_of}
use Rattle.circus_commands.specs.Seen.Upshot.{end_of_performance}
use Rattle.circus_config.specs.declared.plan.Plan.{Plan}
use Rattle.circus_serve.specs.Outside.{Tells}
use Rattle.circus_simulation.specs.Seen.Simulated.{world_of}
use Rattle.circus_node_command.specs.NodeEnds.{IsEndOfServing}
use Rattle.circus_program.specs.Answer.{AsksForNode, finish, Finishes, Lacks, IsText, IsDue, WasLast, shelf_fault}
use Rattle.circus_program.specs.Seen.Put.{IsPut, IsFinished, IsAnswer}
use Rattle.circus_record.specs.Naming.{names_of}
use Rattle.circus_program.specs.Seen.Ready.{end_of_ready}
use Rattle.circus_program.specs.Seen.Step.{due_of, IsWrittenOf, IsPutStep, IsServing, Stands, IsLackNoted}
use Rattle.circus_report.proofs.ToldLemmas.{WritesPart-all}
use Rattle.circus_program.proofs.ReplayEnds.{end_by_is_end}
use Rattle.circus_program.proofs.DueKinds.{never_linked, serves_asked}

-- what is no end
no_end : (s : Status) → is_end s ≡ false → IsTrue (is_end s) → ⊥
no_end s is_none is_one = cc

-- an end of a node that is served
serving_is_end : (plan : Plan) (number turns : ℕ) (told tells : Tells) (ending : Ending) → IsEndOfServing plan number turns told tells ending → IsTrue (is_end ending.status)
serving_is_end plan number turns told tells ending (inl (boot, booted, inl (recorded, served, is))) = ap (λ (e : Ending). is_end e.status) is
serving_is_end plan number turns told tells ending (inl (boot, booted, inr (inl (peer, spent, is)))) = ap (λ (e : Ending). is_end e.status) is
serving_is_end plan number turns told tells ending (inl (boot, booted, inr (inr (failed, is)))) = ap (λ (e : Ending). is_end e.status) is
serving_is_end plan number turns told tells ending (inr (peer, booted, same, is)) = ap (λ (e : Ending). is_end e.status) is

-- words that ask for no node serve none
pub unserved : (shelf : Option (List ℕ → Option (List ℕ))) (words : List (List ℕ)) (step : Step) → IsDue shelf words (due_of step) → (AsksForNode words → ⊥) → IsServing step → ⊥
unserved shelf words (Finish ending) due none serving = serving
unserved shelf words (Lack name) due none serving = serving
unserved shelf words (History performance) due none serving = serving
unserved shelf words (Replay ready) due none serving = serving
unserved shelf words (Serve plan number turns) due none serving = none (serves_asked shelf words plan number turns due)

-- ---- what is put, and given on

-- a text was put and given on, or a part of it, and the sink failed or had no memory
abbrev IsGiven : Status → List ℕ → Option (List ℕ) → Option (List ℕ) → Type 0 → Status → Type 0
IsGiven status text old new SinkRose result =
    ((result ≡ status) × Writes old new text)
    ⊎ (((result ≡ SinkFault) × WritesPart old new text × SinkRose) ⊎ ((result ≡ NoMemory) × WritesPart old new text))

given : (s status result : Status) (text : List ℕ) (old middle new : Option (List ℕ)) (before between after : ℕ) → IsPut s text old middle before between status
    → new ≡ middle → ((status ≡ SinkFault) ⊎ (status ≡ NoMemory) → (result ≡ status) × (after ≡ between)) → IsFinished status (Rose between after) result
    → IsGiven s text old new (Rose before after) result
given s status result text old middle new before between after (inl (same, written, still)) told stopped (inl stands) = inl (stands ∙ same, told ∙ written)
given s status result text old middle new before between after (inl (same, written, still)) told stopped (inr (inl (failed, rose))) =
    inr (inl (failed, WritesPart-all old new text (told ∙ written), subst (λ (k : ℕ). Rose k after) still rose))
given s status result text old middle new before between after (inl (same, written, still)) told stopped (inr (inr none)) =
    inr (inr (none, WritesPart-all old new text (told ∙ written)))
given s status result text old middle new before between after (inr (inl (failed, part, rose))) told stopped finished =
    let stands = stopped (inl failed) in
    inr (inl (stands.0 ∙ failed, subst (λ (n : Option (List ℕ)). WritesPart old n text) (sym told) part, subst (λ (k : ℕ). Rose before k) (sym stands.1) rose))
given s status result text old middle new before between after (inr (inr (none, part))) told stopped finished =
    inr (inr ((stopped (inr none)).0 ∙ none, subst (λ (n : Option (List ℕ)). WritesPart old n text) (sym told) part))

-- the status of a link that failed is that of what was put
linked_as : (status : Status) (SinkRose : Type 0) (result : Status) → IsFinished status SinkRose result → result ≡ LinkFault → status ≡ LinkFault
linked_as status SinkRose result (inl stands) failed = sym stands ∙ failed
linked_as status SinkRose result (inr (inl (stopped, rose))) failed = let clash : SinkFault ≡ LinkFault = sym stopped ∙ failed in absurd (cc)
linked_as status SinkRose result (inr (inr none)) failed = let clash : NoMemory ≡ LinkFault = sym none ∙ failed in absurd (cc)

-- ---- the clauses

module _ (shelf : Option (List ℕ → Option (List ℕ))) (words : List (List ℕ)) (fetched : Option (List (List ℕ))) (ShelfRose : Type 0) (told tells : Tells) (LinkRose : Type 0) (old new : Option (List ℕ)) (SinkRose : Type 0) where
  -- the clauses of an answer
  abbrev pub Answers : Status → Type 0
  Answers result = IsAnswer shelf words fetched ShelfRose told tells LinkRose old new SinkRose result

  -- a part of a text that is due was written, and the sink failed
  answer-stopped : (text : List ℕ) → IsText shelf words told tells fetched ShelfRose text → WritesPart old new text → SinkRose → Answers SinkFault
  answer-stopped text due part rose =
      record {
        ended = λ is_one. absurd (no_end SinkFault refl is_one);
        lacked = λ same. cc;
        shelf_rose = λ same. cc;
        link_rose = λ same. cc;
        stopped = λ same. inl (text, due, part);
        sink_rose = λ same. rose;
        no_memory = λ same. cc;
      }

  -- a part was written, and there was no memory
  answer-unfinished : (text : List ℕ) → IsText shelf words told tells fetched ShelfRose text → WritesPart old new text → Answers NoMemory
  answer-unfinished text due part =
      record {
        ended = λ is_one. absurd (no_end NoMemory refl is_one);
        lacked = λ same. cc;
        shelf_rose = λ same. cc;
        link_rose = λ same. cc;
        stopped = λ same. cc;
        sink_rose = λ same. cc;
        no_memory = λ same. inl (text, due, part);
      }

  -- the end that is due was written
  answer-ended : (status : Status) (text : List ℕ) → IsTrue (is_end status) → (status ≡ LinkFault → LinkRose) → Finishes shelf words told tells status text → Writes old new text → Answers status
  answer-ended status text is_one linked due written =
      let other : (s : Status) → is_end s ≡ false → status ≡ s → ⊥ = λ s is_none same. no_end s is_none (subst (λ (t : Status). IsTrue (is_end t)) same is_one) in
      record {
        ended = λ _. (text, due, written);
        lacked = λ same. absurd (other ShelfFault refl same);
        shelf_rose = λ same. absurd (other ShelfFault refl same);
        link_rose = linked;
        stopped = λ same. absurd (other SinkFault refl same);
        sink_rose = λ same. absurd (other SinkFault refl same);
        no_memory = λ same. absurd (other NoMemory refl same);
      }

  -- the name of a file that was lacking was written
  answer-lacked : (name : List ℕ) → Lacks shelf words name → WasLast fetched name → ShelfRose → Writes old new (shelf_fault name) → Answers ShelfFault
  answer-lacked name due last rose written =
      record {
        ended = λ is_one. absurd (no_end ShelfFault refl is_one);
        lacked = λ same. (name, due, last, written);
        shelf_rose = λ same. rose;
        link_rose = λ same. cc;
        stopped = λ same. cc;
        sink_rose = λ same. cc;
        no_memory = λ same. cc;
      }

  -- an answer is that of the status that was put
  put_as : (s result : Status) → result ≡ s → Answers s → Answers result
  put_as s result is answer = subst (λ (t : Status). Answers t) (sym is) answer

  -- the text of an end was given
  answer-finish : (status result : Status) (text : List ℕ) → IsTrue (is_end status) → (result ≡ LinkFault → status ≡ LinkFault → LinkRose) → Finishes shelf words told tells status text → IsGiven status text old new SinkRose result → Answers result
  answer-finish status result text is_one linked due (inl whole) = put_as status result whole.0 (answer-ended status text is_one (λ failed. linked (whole.0 ∙ failed) failed) due whole.1)
  answer-finish status result text is_one linked due (inr (inl stopped)) =
      put_as SinkFault result stopped.0 (answer-stopped text (inl (status, due)) stopped.1 stopped.2)
  answer-finish status result text is_one linked due (inr (inr unfinished)) =
      put_as NoMemory result unfinished.0 (answer-unfinished text (inl (status, due)) unfinished.1)

  -- there was no memory for it
  answer-nothing : (result : Status) → result ≡ NoMemory → new ≡ old → Answers result
  answer-nothing result is same = put_as NoMemory result is (record {
    ended = λ is_one. absurd (no_end NoMemory refl is_one);
    lacked = λ clash. cc;
    shelf_rose = λ clash. cc;
    link_rose = λ clash. cc;
    stopped = λ clash. cc;
    sink_rose = λ clash. cc;
    no_memory = λ own. inr same;
  })

  -- the line of a file that was lacking was given
  answer-lack : (result : Status) (name : List ℕ) → Lacks shelf words name → WasLast fetched name → ShelfRose → IsGiven ShelfFault (shelf_fault name) old new SinkRose result → Answers result
  answer-lack result name due last rose (inl whole) = put_as ShelfFault result whole.0 (answer-lacked name due last rose whole.1)
  answer-lack result name due last rose (inr (inl stopped)) =
      put_as SinkFault result stopped.0 (answer-stopped (shelf_fault name) (inr (name, due, last, rose, refl)) stopped.1 stopped.2)
  answer-lack result name due last rose (inr (inr unfinished)) =
      put_as NoMemory result unfinished.0 (answer-unfinished (shelf_fault name) (inr (name, due, last, rose, refl)) unfinished.1)

  -- an end that is due before any node is served
  answer-end : (end ending : Ending) (result : Status) → IsTrue (is_end end.status) → IsDue shelf words (finish end) → ending ≡ end → tells ≡ told
      → IsGiven ending.status ending.text old new SinkRose result → Answers result
  answer-end end ending result is_one due is same given =
      answer-finish end.status result end.text is_one (λ failed linked. absurd (never_linked shelf words end due linked)) (inl (due, same))
      (subst (λ (e : Ending). IsGiven e.status e.text old new SinkRose result) is given)

  -- what a step comes to was given
  answer-step : (step : Step) (ending : Ending) (before after : ℕ) (result : Status) → IsDue shelf words (due_of step) → Stands step → IsLackNoted fetched before after step → (Rose before after → ShelfRose)
      → (result ≡ LinkFault → IsServing step → LinkRose) → IsWrittenOf told tells step ending → IsGiven ending.status ending.text old new SinkRose result → Answers result
  answer-step (Finish own) ending before after result due stands noted rose linked written given = answer-end (ending_of own) ending result stands due written.0 written.1 given
  answer-step (History performance) ending before after result due stands noted rose linked written given = answer-end (end_of_performance performance) ending result refl due written.0 written.1 given
  answer-step (Replay ready) ending before after result due stands noted rose linked written given =
      answer-end (end_of_ready ready) ending result
      (end_by_is_end ready.procedures (names_of ready.simulated.hosts ready.simulated.names) ready.lines (world_of ready.simulated.world)) due written.0 written.1 given
  answer-step (Lack name) ending before after result due stands noted rose linked written given =
      answer-lack result name.now due noted.1 (rose noted.0) (subst (λ (e : Ending). IsGiven e.status e.text old new SinkRose result) written.0 given)
  answer-step (Serve plan number turns) ending before after result due stands noted rose linked written given =
      answer-finish ending.status result ending.text (serving_is_end plan number turns told tells ending written) (λ failed same. linked failed tt) (inr (plan, number, turns, due, written)) given

pub answered : (shelf : Option (List ℕ → Option (List ℕ))) (words : List (List ℕ)) (fetched : Option (List (List ℕ))) (step : Step) (asked asks : ℕ) (told tells : Tells) (LinkRose : Type 0) (old middle new : Option (List ℕ)) (before between after : ℕ) (status result : Status)
    → IsDue shelf words (due_of step) → Stands step → IsLackNoted fetched asked asks step
    → IsPutStep told tells step old middle before between status → (status ≡ LinkFault → IsServing step → LinkRose)
    → new ≡ middle → ((status ≡ SinkFault) ⊎ (status ≡ NoMemory) → (result ≡ status) × (after ≡ between)) → IsFinished status (Rose between after) result
    → IsAnswer shelf words fetched (Rose asked asks) told tells LinkRose old new (Rose before after) result
answered shelf words fetched step asked asks told tells LinkRose old middle new before between after status result due stands noted (inr (none, still)) linked same stopped finished =
    answer-nothing shelf words fetched (Rose asked asks) told tells LinkRose old new (Rose before after) result ((stopped (inr none)).0 ∙ none) (same ∙ still)
answered shelf words fetched step asked asks told tells LinkRose old middle new before between after status result due stands noted (inl (ending, written, put)) linked same stopped finished =
    answer-step shelf words fetched (Rose asked asks) told tells LinkRose old new (Rose before after) step ending asked asks result due stands noted (λ rose. rose)
    (λ failed. linked (linked_as status (Rose between after) result finished failed)) written
    (given ending.status status result ending.text old middle new before between after put same stopped finished)
