-- What a program does when nothing is replicated.
use Rattle.std.specs.Prelude.{ℕ, zero, suc, ◌+◌, Bool, cond, nat_le, List, [], ◌∷◌, ◌++◌, length, sum, map, fold, slice_get, slice_index, slice_index_or, slice_set}
use Rattle.std.specs.Option.{option_map_or}
use Rattle.circus_value.specs.ValueTree.{ValueTree}
use Rattle.circus_model.specs.LanguageError.{number_of}
use Rattle.circus_model.specs.declared.language_error.LanguageError.TheVariants.{ThreadSpent}
use Rattle.circus_value.specs.declared.outcome.Outcome.{Outcome}
use Rattle.circus_value.specs.declared.outcome.Outcome.TheVariants.{Returned, Raised}
use Rattle.circus_model.specs.declared.history.Ask.{Ask}
use Rattle.circus_model.specs.declared.history.Run.{Run}
use Rattle.circus_limits.specs.Limits.{most_asks, most_calls}
use Rattle.circus_model.specs.NextTurn.{NextTurn, asks, ends}
use Rattle.circus_model.specs.Behaviour.{Behaviour}

-- one root's thread: the state of each module, the calls made to each so far, and the runs of each that have ended
pub record Thread : Type 0 where
  pub store : List (List ValueTree)
  pub clock : List ℕ
  pub runs : List (List Run)

-- who calls what: the root, the call path, the module, its procedure and the arguments
pub record Order : Type 0 where
  pub root : ℕ
  pub path : List ℕ
  pub callee : ℕ
  pub procedure : ℕ
  pub arguments : List ValueTree

-- what a call leaves: the thread, and what the procedure ended with
pub record Performed : Type 0 where
  pub thread : Thread
  pub outcome : Outcome

-- what a run leaves: the thread, the asks that it made, and what it ended with
pub record Finished : Type 0 where
  pub thread : Thread
  pub made : List Ask
  pub outcome : Outcome

-- the thread with this state of the module
abbrev pub store_state : Thread → ℕ → List ValueTree → Thread
store_state t m state = record t { store = slice_set t.store m state }

-- the thread with one call more to the module
abbrev pub count_call : Thread → ℕ → Thread
count_call t m = record t { clock = slice_set t.clock m (slice_index t.clock m + 1) }

-- the thread with one run more of the module
abbrev pub note_run : Thread → ℕ → Run → Thread
note_run t m run = record t { runs = slice_set t.runs m (slice_index_or t.runs m [] ++ run ∷ []) }

-- a thread with this clock has made all its calls
abbrev pub is_spent : List ℕ → Bool
is_spent clock = nat_le most_calls (sum clock)

-- the reply to a call, and the thread after it, where `call` performs calls; a thread that is spent gets an error
unfoldable pub reply_to_ask : (Thread → Order → Performed) → Thread → Order → Performed
reply_to_ask call t o =
    cond (is_spent t.clock)
    (record { thread = t; outcome = Raised (number_of ThreadSpent) [] })
    (call (count_call t o.callee) o)

-- an order of the run that is under way, for its next ask
abbrev pub next_order : Order → List Ask → ℕ → ℕ → List ValueTree → Order
next_order o made callee procedure arguments =
    record { root = o.root; path = o.path ++ length made ∷ []; callee = callee; procedure = procedure; arguments = arguments }

-- the ask that was made on a thread, with its reply
abbrev pub ask_of : Order → List ValueTree → Thread → Performed → Ask
ask_of asked state t p =
    record {
      callee = asked.callee;
      index = slice_index t.clock asked.callee;
      procedure = asked.procedure;
      arguments = asked.arguments;
      state = state;
      reply = p.outcome;
      after = p.thread.clock;
    }

-- the run after this turn: it ends, or its ask is answered and it goes on
abbrev pub run_after_turn : (Thread → Order → Performed) → Order → (List Ask → Thread → Finished) → List Ask → Thread → NextTurn → Finished
run_after_turn call o go_on made t (ends outcome state) =
    record { thread = store_state t o.callee state; made = made; outcome = outcome }
run_after_turn call o go_on made t (asks callee procedure arguments state) =
    let before = store_state t o.callee state in
    let asked = next_order o made callee procedure arguments in
    let p = reply_to_ask call before asked in
    go_on (made ++ ask_of asked state before p ∷ []) p.thread

-- the replies that these asks had
abbrev pub replies_of : List Ask → List Outcome
replies_of made = map (λ ask. ask.reply) made

-- what stands here where no program whose modules agree comes
abbrev pub never : Outcome
never = Returned []

-- the run with at most so many turns, from the asks that it has made; `turn` is that of its module, state, procedure and arguments
unfoldable pub performed_on : (Thread → Order → Performed) → Order → (List Outcome → NextTurn) → ℕ → List Ask → Thread → Finished
performed_on call o turn zero made t = record { thread = t; made = made; outcome = never }
performed_on call o turn (suc left) made t =
    run_after_turn call o (performed_on call o turn left) made t (turn (replies_of made))

-- the record of an ordered run, which began on a thread and left this
abbrev pub run_of : Order → Thread → Finished → Run
run_of o entered f =
    record {
      path = o.path;
      root = o.root;
      procedure = o.procedure;
      arguments = o.arguments;
      entry = entered.clock;
      asks = f.made;
      outcome = f.outcome;
      state = slice_index_or f.thread.store o.callee [];
      end = f.thread.clock;
    }

-- the thread with that record, and what the caller gets
abbrev pub record_run : Order → Thread → Finished → Performed
record_run o entered f = record { thread = note_run f.thread o.callee (run_of o entered f); outcome = f.outcome }

-- the turns of the ordered call
abbrev pub turns_of : List Behaviour → Thread → Order → List Outcome → NextTurn
turns_of program t o replies =
    option_map_or
    (λ b. b.turn (slice_index_or t.store o.callee []) o.procedure o.arguments replies)
    (slice_get program o.callee)
    (ends never [])

-- an order performed to its end, where modules call earlier ones alone and so nest at most `depth` deep; each ask is a turn, and the end is one
unfoldable pub perform : List Behaviour → ℕ → Thread → Order → Performed
perform program zero t o = record { thread = t; outcome = never }
perform program (suc depth) t o =
    record_run o t (performed_on (perform program depth) o (turns_of program t o) (most_asks + 1) [] t)

-- a thread that has done nothing
abbrev pub new_thread : List Behaviour → Thread
new_thread program =
    record { store = map (λ b. b.first) program; clock = map (λ _. 0) program; runs = map (λ _. []) program }

-- the first call of a root's thread
abbrev pub main_order : ℕ → Order
main_order root = record { root = root; path = []; callee = root; procedure = 0; arguments = [] }

-- what a root's thread does
unfoldable pub thread_of : List Behaviour → ℕ → Thread
thread_of program root = (perform program (length program) (new_thread program) (main_order root)).thread

-- the places of the roots, the first module having this place
abbrev pub roots_from : ℕ → List Behaviour → List ℕ
roots_from place [] = []
roots_from place (b ∷ program) =
    cond b.declared.root (place ∷ roots_from (suc place) program) (roots_from (suc place) program)

-- the runs of each module, those of one root before those of the next
abbrev pub join_runs : List (List Run) → List (List Run) → List (List Run)
join_runs [] others = others
join_runs (runs ∷ before) [] = runs ∷ before
join_runs (runs ∷ before) (more ∷ others) = (runs ++ more) ∷ join_runs before others

-- for each module the runs that it performs, in order
unfoldable pub history_of : List Behaviour → List (List Run)
history_of program =
    fold (λ history root. join_runs history (thread_of program root).runs) (map (λ _. []) program) (roots_from 0 program)
