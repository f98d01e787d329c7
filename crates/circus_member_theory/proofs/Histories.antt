-- What the laws of histories give for one ask of a run.
use Rattle.std.proofs.Common.{◌≡◌, ℕ, zero, suc, ◌+◌, ◌-◌, ◌<◌, ◌≤◌, Bool, true, false, List, [], ◌∷◌, ◌++◌, length, take, map, sum, get_or, All, Some, IsTrue, refl, ap, sym, subst, ◌∙◌, inl, inr, arith, zero-le, length-append, append-nil, append_assoc}
use Rattle.std.specs.Prelude.{IsSomeAnd, slice_get, slice_index, slice_set}
use Rattle.std.specs.Option.{option_map}
use Rattle.std.proofs.lemmas.Bool.{cases_lt, leb-false}
use Rattle.std.proofs.lemmas.List.{take-map, length-map, length-take-le, get_or_past}
use Rattle.std.proofs.lemmas.List.Elements.{All-nil, All-push}
use Rattle.std.proofs.lemmas.List.Sums.{get_or-le-sum_by}
use Rattle.std.proofs.lemmas.Option.{same_Some, slice_get_within, slice_get-map}
use Rattle.circus_value.specs.ExternalSize.{size_of_values}
use Rattle.circus_value.specs.declared.outcome.Outcome.{Outcome}
use Rattle.circus_header.specs.declared.call.CallHeader.{CallHeader}
use Rattle.circus_header.specs.declared.answer.Reply.{Reply}
use Rattle.circus_limits.specs.Limits.{most_asks, most_calls}
use Rattle.circus_model.specs.declared.signature.Import.{Import}
use Rattle.circus_model.specs.declared.history.Ask.{Ask}
use Rattle.circus_model.specs.declared.history.Run.{Run}
use Rattle.circus_model.specs.NextTurn.{NextTurn, asks}
use Rattle.circus_model.specs.Lawful.{IsState, ReplyFits, RepliesFit, IsLawfulAsk, import_takes, import_answers}
use Rattle.circus_model.specs.Behaviour.{Behaviour}
use Rattle.circus_model.specs.Agree.{IsAt, IsRoot, AreModules, Agree}
use Rattle.circus_model.specs.Execution.{is_spent, replies_of, history_of}
use Rattle.circus_model.specs.History.{runs_of, run_at, state_after, current_clock, clock_before, FollowsTurns, IsMadeBy, IsAnswered}
use Rattle.circus_model.proofs.Lookups as lookups
use Rattle.circus_model.proofs.Logging.{some_and, IsLogged}
use Rattle.circus_model.proofs.Histories.{in_history, maker_of, root_runs_once, root_of}
use Rattle.circus_member_theory.specs.Messages.{IsAskAt, IsTrueCall, IsReplyOf, IsTrueReply}

-- ---- lists

-- one count is at most all of them together
count_within : (clock : List ℕ) (k : ℕ) → get_or clock k 0 ≤ sum clock
count_within clock k = elim (cases_lt k (length clock)) [
  | inl here ↦ get_or-le-sum_by (λ n. n) clock k 0 here
  | inr past ↦ rw (get_or_past clock k 0 past) zero-le
]

-- each count of a thread that has calls left
pub counts_are_few : (clock : List ℕ) → is_spent clock ≡ false → (k : ℕ) → slice_index clock k < most_calls
counts_are_few clock unspent k = omega (arith, leb-false most_calls (sum clock) unspent, count_within clock k)

-- what stands in a front stands in the whole
in_front : {X : Type 0} (n : ℕ) (xs : List X) (k : ℕ) (x : X) → slice_get (take n xs) k ≡ Some x → slice_get xs k ≡ Some x
in_front zero xs k x h = cc
in_front (suc n) [] k x h = cc
in_front (suc n) (y ∷ xs) zero x h = h
in_front (suc n) (y ∷ xs) (suc k) x h = in_front n xs k x h

-- a list of zeros
all_zero : {X : Type 0} (xs : List X) (clock : List ℕ) → length clock ≡ length xs → ((k : ℕ) → get_or clock k 0 ≡ 0) → clock ≡ map (λ _. 0) xs
all_zero [] [] same zeros = refl
all_zero [] (n ∷ clock) same zeros = absurd (omega (arith, same))
all_zero (x ∷ xs) [] same zeros = absurd (omega (arith, same))
all_zero (x ∷ xs) (n ∷ clock) same zeros =
    let first : n ≡ 0 = zeros 0 in
    let rest = all_zero xs clock (omega (arith, same)) (λ k. zeros (suc k)) in
    rw (first, ← rest) refl

-- the length of a clock after asks
clock_is_long : (n : ℕ) (entry : List ℕ) (made : List Ask) → length entry ≡ n → ((number : ℕ) (ask : Ask) → slice_get made number ≡ Some ask → length ask.after ≡ n)
    → length (current_clock entry made) ≡ n
clock_is_long n entry [] is each = is
clock_is_long n entry (ask ∷ made) is each = clock_is_long n ask.after made (each 0 ask refl) (λ number a at. each (suc number) a at)

-- ---- replies

-- a reply among those that fit, and the ones before it
fits_to : (imports : List Import) (turn : List Outcome → NextTurn) (before replies : List Outcome) (number : ℕ) (reply : Outcome) → slice_get replies number ≡ Some reply
    → RepliesFit imports turn before replies → RepliesFit imports turn before (take number replies) × ReplyFits imports (turn (before ++ take number replies)) reply
fits_to imports turn before [] number reply is h = cc
fits_to imports turn before (r ∷ replies) zero reply is h =
    (tt, rw (append-nil before) (subst (ReplyFits imports (turn before)) (same_Some r reply is) h.0))
fits_to imports turn before (r ∷ replies) (suc number) reply is h =
    let rest = fits_to imports turn (before ++ r ∷ []) replies number reply is h.1 in
    ((h.0, rest.0), rw (← append_assoc before (r ∷ []) (take number replies)) rest.1)

module _ (program : List Behaviour) (agree : Agree program) (are : AreModules program) where
  -- ---- runs

  -- what is known of a run
  abbrev pub Known : ℕ → ℕ → Run → Type 0
  Known place index run = (root : ℕ) × IsLogged program root (history_of program) place index run

  pub known : (place index : ℕ) (run : Run) → run_at (history_of program) place index ≡ Some run → Known place index run
  known place index run is = let h = in_history program agree are place index run is in (h.root, h.logged)

  pub index_is_few : (place index : ℕ) (run : Run) → run_at (history_of program) place index ≡ Some run → index < most_calls
  index_is_few place index run is = by_behaviour (known place index run is).1.behaviour (known place index run is).1.there
    where
      by_root : (b : Behaviour) → IsAt program place b → (root : Bool) → b.declared.root ≡ root → index < most_calls
      by_root b at true rooted =
          let once = root_runs_once program agree are place b at rooted in
          let only : slice_get (once.0 ∷ []) index ≡ Some run = ap (λ (runs : List Run). slice_get runs index) (sym once.1.0) ∙ is in
          omega (arith, slice_get_within (once.0 ∷ []) index run only)
      by_root b at false unrooted =
          let m = maker_of program agree are place index run b is at unrooted in
          let answered = (known m.caller_place m.caller_index m.caller m.caller_is).1.answered m.number m.ask m.ask_is in
          let few = counts_are_few (clock_before m.caller m.number) m.not_spent m.ask.callee in
          let same : m.ask.index ≡ slice_index (clock_before m.caller m.number) m.ask.callee = answered.index in
          omega (arith, few, same, m.index_is)

      by_behaviour : (b : Behaviour) → IsAt program place b → index < most_calls
      by_behaviour b at = by_root b at b.declared.root refl

  -- counts of runs never come near the greatest number of four bytes
  pub runs_are_few : (place : ℕ) → length (runs_of (history_of program) place) ≤ most_calls + 1
  runs_are_few place =
      let runs = runs_of (history_of program) place in
      elim (cases_lt 0 (length runs)) [
        | inl some ↦
            let last = lookups.within runs (length runs - 1) (omega (arith, some)) in
            omega (arith, some, index_is_few place (length runs - 1) last.0 last.1)
        | inr none ↦ omega (arith, none)
      ]

  module _ (place : ℕ) (b : Behaviour) (at : IsAt program place b) where
    pub run_follows : (index : ℕ) (run : Run) → run_at (history_of program) place index ≡ Some run → FollowsTurns b (state_after (history_of program) place b.first index) run
    run_follows index run is =
        let l = (known place index run is).1 in
        let same : l.behaviour ≡ b = same_Some l.behaviour b (sym l.there ∙ at) in
        rw (← same) l.follows

    -- the state after so many runs is one that the module may have
    pub state_is : (count : ℕ) → count ≤ length (runs_of (history_of program) place) → IsState b.declared (state_after (history_of program) place b.first count)
    state_is zero short = (are place b at).first_is_state
    state_is (suc index) short =
        let run = lookups.within (runs_of (history_of program) place) index short in
        let f = run_follows index run.0 run.1 in
        let law = (are place b at).turns_are_lawful (state_after (history_of program) place b.first index) run.0.procedure run.0.arguments (replies_of run.0.asks) f.start f.replies_fit in
        let so = rw f.ends_so at law in
        rw run.1 so.1

    -- an ask of a run, with calls left or not
    module _ (index number : ℕ) (run : Run) (ask : Ask) (run_is : run_at (history_of program) place index ≡ Some run) (ask_is : slice_get run.asks number ≡ Some ask) where
      pub asking : b.turn (state_after (history_of program) place b.first index) run.procedure run.arguments (replies_of (take number run.asks)) ≡ asks ask.callee ask.procedure ask.arguments ask.state
      asking = (run_follows index run run_is).asks_so number ask ask_is

      -- the replies before it, and its own
      fits : RepliesFit b.declared.imports (b.turn (state_after (history_of program) place b.first index) run.procedure run.arguments) [] (replies_of (take number run.asks))
          × ReplyFits b.declared.imports (b.turn (state_after (history_of program) place b.first index) run.procedure run.arguments (replies_of (take number run.asks))) ask.reply
      fits =
          let f = run_follows index run run_is in
          let reply : slice_get (replies_of run.asks) number ≡ Some ask.reply = slice_get-map (λ (a : Ask). a.reply) run.asks number ∙ ap (option_map (λ (a : Ask). a.reply)) ask_is in
          let to = fits_to b.declared.imports (b.turn (state_after (history_of program) place b.first index) run.procedure run.arguments) []
          (replies_of run.asks) number ask.reply reply f.replies_fit in
          rw (← take-map (λ (a : Ask). a.reply) number run.asks) to

      reply_fits : import_answers b.declared.imports ask.callee ask.procedure ask.reply ≡ true
      reply_fits = rw asking at fits.1

      ask_is_lawful : IsLawfulAsk b.declared number ask.callee ask.procedure ask.arguments × IsState b.declared ask.state
      ask_is_lawful =
          let f = run_follows index run run_is in
          let law = (are place b at).turns_are_lawful (state_after (history_of program) place b.first index) run.procedure run.arguments (replies_of (take number run.asks)) f.start fits.0 in
          let so = rw asking at law in
          let among : number < length run.asks = slice_get_within run.asks number ask ask_is in
          let many : length (replies_of (take number run.asks)) ≡ number = length-map (take number run.asks) (λ (a : Ask). a.reply) ∙ length-take-le number run.asks (omega (arith, among)) in
          rw (← many) so

      pub ask_is_answered : IsAnswered (history_of program) run.root (run.path ++ number ∷ []) (clock_before run number) ask
      ask_is_answered =
          let l = known place index run run_is in
          rw l.1.root (l.1.answered number ask ask_is)

    -- a run's asks are turns of an execution
    pub asks_are_few : (index : ℕ) (run : Run) → run_at (history_of program) place index ≡ Some run → length run.asks ≤ most_asks
    asks_are_few index run is = elim (cases_lt 0 (length run.asks)) [
      | inl some ↦
          let last = lookups.within run.asks (length run.asks - 1) (omega (arith, some)) in
          omega (arith, some, (ask_is_lawful index (length run.asks - 1) run last.0 is last.1).0.few)
      | inr none ↦ omega (arith, none)
    ]

    -- an ask at a place of the history
    module _ (index number : ℕ) (run : Run) (ask : Ask) (there : IsAskAt (history_of program) place index number run ask) where
      pub is_few : number < most_asks
      is_few = (ask_is_lawful index number run ask there.run_is there.ask_is).0.few

      pub callee_below : ask.callee < place
      callee_below = (known place index run there.run_is).1.calls number ask there.ask_is

      pub takes : IsTrue (import_takes b.declared.imports ask.callee ask.procedure ask.arguments)
      takes = (ask_is_lawful index number run ask there.run_is there.ask_is).0.fit

      pub within : size_of_values ask.arguments ≤ b.declared.limit
      within = (ask_is_lawful index number run ask there.run_is there.ask_is).0.within

      pub answers : import_answers b.declared.imports ask.callee ask.procedure ask.reply ≡ true
      answers = reply_fits index number run ask there.run_is there.ask_is

      pub index_is : ask.index ≡ slice_index (clock_before run number) ask.callee
      index_is = (ask_is_answered index number run ask there.run_is there.ask_is).index

      pub makes : IsSomeAnd (run_at (history_of program) ask.callee ask.index) (IsMadeBy run.root (run.path ++ number ∷ []) (clock_before run number) ask)
      makes = (ask_is_answered index number run ask there.run_is there.ask_is).makes there.calls_left

      -- ---- ranges

      pub root_below : run.root < length program
      root_below =
          let of = (root_of program agree are place index run there.run_is).0 in
          slice_get_within program run.root of.behaviour of.there

      pub path_short : length run.path + place < length program
      path_short = (known place index run there.run_is).1.short

      pub clock_length : length (clock_before run number) ≡ length program
      clock_length =
          let grows = (known place index run there.run_is).1.grows in
          clock_is_long (length program) run.entry (take number run.asks) grows.entry_length (λ n a is. grows.after_length n a (in_front number run.asks n a is))

      pub clock_counts : (entry : ℕ) → slice_index (clock_before run number) entry < most_calls
      clock_counts = counts_are_few (clock_before run number) there.calls_left

  -- ---- paths

  path_below : (n place index : ℕ) (run : Run) → run_at (history_of program) place index ≡ Some run → length run.path < n → All (λ k. k < most_asks) run.path
  path_below zero place index run is short = absurd (omega (arith, short))
  path_below (suc n) place index run is short = by_behaviour (path_below n) (known place index run is).1.behaviour (known place index run is).1.there
    where
      Before : Type 0
      Before = (p i : ℕ) (r : Run) → run_at (history_of program) p i ≡ Some r → length r.path < n → All (λ k. k < most_asks) r.path

      by_root : Before → (b : Behaviour) → IsAt program place b → (root : Bool) → b.declared.root ≡ root → All (λ k. k < most_asks) run.path
      by_root before b at true rooted =
          let once = root_runs_once program agree are place b at rooted in
          let only : slice_get (once.0 ∷ []) index ≡ Some run = ap (λ (runs : List Run). slice_get runs index) (sym once.1.0) ∙ is in
          let short : index < 1 = slice_get_within (once.0 ∷ []) index run only in
          let at_zero : index ≡ 0 = omega arith in
          let same : once.0 ≡ run = same_Some once.0 run (ap (slice_get (once.0 ∷ [])) (sym at_zero) ∙ only) in
          rw (← same, once.1.1.path) (All-nil (λ k. k < most_asks))
      by_root before b at false unrooted =
          let m = maker_of program agree are place index run b is at unrooted in
          let l = known m.caller_place m.caller_index m.caller m.caller_is in
          let made = some_and (run_at (history_of program) m.ask.callee m.ask.index) _ ((l.1.answered m.number m.ask m.ask_is).makes m.not_spent) in
          let moved : run_at (history_of program) m.ask.callee m.ask.index ≡ run_at (history_of program) place index = cc (m.callee, m.index_is) in
          let same : made.0 ≡ run = same_Some made.0 run (sym made.1.0 ∙ moved ∙ is) in
          let way : run.path ≡ m.caller.path ++ m.number ∷ [] = ap (λ (r : Run). r.path) (sym same) ∙ made.1.1.path in
          let longer : length run.path ≡ length m.caller.path + 1 = ap length way ∙ simp length-append in
          let few = is_few m.caller_place l.1.behaviour l.1.there m.caller_index m.number m.caller m.ask (record { run_is = m.caller_is; ask_is = m.ask_is; calls_left = m.not_spent }) in
          rw way (All-push (λ k. k < most_asks) m.caller.path m.number (before m.caller_place m.caller_index m.caller m.caller_is (omega (arith, longer, short))) few)

      by_behaviour : Before → (b : Behaviour) → IsAt program place b → All (λ k. k < most_asks) run.path
      by_behaviour before b at = by_root before b at b.declared.root refl

  pub path_is_of_asks : (place index : ℕ) (run : Run) → run_at (history_of program) place index ≡ Some run → All (λ n. n < most_asks) run.path
  path_is_of_asks place index run is = path_below (suc (length run.path)) place index run is (omega arith)

  module _ (place : ℕ) (b : Behaviour) (at : IsAt program place b) (index number : ℕ) (run : Run) (ask : Ask) (there : IsAskAt (history_of program) place index number run ask) where
    pub path_numbers : All (λ n. n < most_asks) run.path
    path_numbers = path_is_of_asks place index run there.run_is

  -- ---- true calls and replies

  -- the run that a true call asks for
  pub record IsAskedRun (header : CallHeader) (body : List ℕ) (call : IsTrueCall (history_of program) header body) (run : Run) : Type 0 where
    pub run_is : run_at (history_of program) header.server (slice_index header.clock header.server) ≡ Some run
    pub root : run.root ≡ header.root
    pub path : run.path ≡ header.path
    pub procedure : run.procedure ≡ header.procedure
    pub arguments : run.arguments ≡ call.ask.arguments
    pub entry : run.entry ≡ slice_set header.clock header.server (slice_index header.clock header.server + 1)
    pub outcome : run.outcome ≡ call.ask.reply
    pub end : run.end ≡ call.ask.after

  pub asked_run : (header : CallHeader) (body : List ℕ) (call : IsTrueCall (history_of program) header body) (b : Behaviour) → IsAt program header.client b
      → (run : Run) × IsAskedRun header body call run
  asked_run header body call b at =
      let made = some_and (run_at (history_of program) call.ask.callee call.ask.index) _ (makes header.client b at header.client_index call.number call.run call.ask call.there) in
      let m = made.1.1 in
      let s = call.so in
      let index : slice_index header.clock header.server ≡ call.ask.index = cc (s.server, s.clock, index_is header.client b at header.client_index call.number call.run call.ask call.there) in
      let moved : run_at (history_of program) header.server (slice_index header.clock header.server) ≡ run_at (history_of program) call.ask.callee call.ask.index = cc (s.server, index) in (
        made.0,
        record {
          run_is = moved ∙ made.1.0;
          root = m.root ∙ sym s.root;
          path = m.path ∙ sym s.path;
          procedure = m.procedure ∙ sym s.procedure;
          arguments = m.arguments;
          entry = rw (index, s.clock, s.server) m.entry;
          outcome = m.outcome;
          end = m.end;
        },
      )

  -- a reply that is true of a true call is the reply of that ask
  pub true_reply_is : (header : CallHeader) (body : List ℕ) (call : IsTrueCall (history_of program) header body) (reply : Reply) (b : Behaviour) → IsAt program header.client b
      → IsTrueReply (history_of program) header reply → reply ≡ (let is : Reply = record { clock = call.ask.after; outcome = call.ask.reply } in is)
  true_reply_is header body call reply b at true_reply =
      let asked = asked_run header body call b at in
      let replied = some_and (run_at (history_of program) header.server (slice_index header.clock header.server)) (λ run. IsReplyOf run reply) true_reply in
      let same : replied.0 ≡ asked.0 = same_Some replied.0 asked.0 (sym replied.1.0 ∙ asked.1.run_is) in
      let clock : reply.clock ≡ call.ask.after = replied.1.1.clock ∙ ap (λ (r : Run). r.end) same ∙ asked.1.end in
      let outcome : reply.outcome ≡ call.ask.reply = replied.1.1.outcome ∙ ap (λ (r : Run). r.outcome) same ∙ asked.1.outcome in
      rw (← clock, ← outcome) refl

  -- ---- roots

  -- the one run of a root is its MAIN
  pub main_run : (root : ℕ) → IsRoot program root → (run : Run) × (runs_of (history_of program) root ≡ run ∷ []) × (run.root ≡ root) × (run.path ≡ []) × (run.procedure ≡ 0)
      × (run.arguments ≡ []) × (run.entry ≡ map (λ (_ : Behaviour). 0) program)
  main_run root is =
      let once = root_runs_once program agree are root is.behaviour is.there is.root in
      let m = once.1.1 in
      (once.0, once.1.0, m.root, m.path, m.procedure, m.arguments, all_zero program once.0.entry m.clock_length m.clock_zero)
