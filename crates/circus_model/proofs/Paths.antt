-- A root and a path name one run.
use Rattle.std.proofs.Common.{◌≡◌, ℕ, zero, suc, ◌+◌, ◌<◌, Bool, true, false, List, [], ◌∷◌, ◌++◌, length, Some, refl, ap, sym, ◌∙◌, arith, length-append}
use Rattle.std.specs.Prelude.{slice_get}
use Rattle.std.proofs.lemmas.List.{same_from_push}
use Rattle.std.proofs.lemmas.Option.{same_Some, slice_get_within}
use Rattle.circus_model.specs.declared.history.Ask.{Ask}
use Rattle.circus_model.specs.declared.history.Run.{Run}
use Rattle.circus_model.specs.Behaviour.{Behaviour}
use Rattle.circus_model.specs.Agree.{IsAt, AreModules, Agree}
use Rattle.circus_model.specs.Execution.{history_of}
use Rattle.circus_model.specs.History.{run_at, HasMaker, IsSamePlace, IsSameMaker}
use Rattle.circus_model.proofs.Logging.{some_and}
use Rattle.circus_model.proofs.Histories.{in_history, maker_of, root_runs_once}

not_empty : {X : Type 0} (path : List ℕ) (number : ℕ) → [] ≡ path ++ number ∷ [] → X
not_empty [] number h = cc
not_empty (x ∷ path) number h = cc

module _ (program : List Behaviour) (agree : Agree program) (lawful : AreModules program) where
  -- the run that an asker made
  record IsMadeRun {place index : ℕ} (m : HasMaker (history_of program) place index) : Type 0 where
    pub run : Run
    pub there : run_at (history_of program) place index ≡ Some run
    pub root : run.root ≡ m.caller.root
    pub path : run.path ≡ m.caller.path ++ m.number ∷ []

  made_run : {place index : ℕ} (m : HasMaker (history_of program) place index) → IsMadeRun m
  made_run {index = index} m =
      let l = (in_history program agree lawful m.caller_place m.caller_index m.caller m.caller_is).logged in
      let answered = l.answered m.number m.ask m.ask_is in
      let made = some_and (run_at (history_of program) m.ask.callee m.ask.index) _ (answered.makes m.not_spent) in
      record {
        run = made.0;
        there = ap (λ k. run_at (history_of program) k index) (sym m.callee) ∙ ap (run_at (history_of program) m.ask.callee) (sym m.index_is) ∙ made.1.0;
        root = made.1.1.root ∙ sym l.root;
        path = made.1.1.path;
      }

  -- how a run came about: as a root's first call, or by an ask
  data CameAbout (place index : ℕ) (run : Run) : Type 0 where
    first_call : index ≡ 0 → run.path ≡ [] → run.root ≡ place → CameAbout place index run
    by_ask : (m : HasMaker (history_of program) place index) → run.root ≡ m.caller.root → run.path ≡ m.caller.path ++ m.number ∷ [] → CameAbout place index run

  came_about : (place index : ℕ) (run : Run) → run_at (history_of program) place index ≡ Some run → CameAbout place index run
  came_about place index run h = by_root (in_history program agree lawful place index run h).logged.behaviour (in_history program agree lawful place index run h).logged.there
    where
      of_root : (b : Behaviour) → IsAt program place b → b.declared.root ≡ true → CameAbout place index run
      of_root b there is_root =
          let once = root_runs_once program agree lawful place b there is_root in
          let only : slice_get (once.0 ∷ []) index ≡ Some run = ap (λ (runs : List Run). slice_get runs index) (sym once.1.0) ∙ h in
          let short : index < 1 = slice_get_within (once.0 ∷ []) index run only in
          let at_zero : index ≡ 0 = omega arith in
          let same : once.0 ≡ run = same_Some once.0 run (ap (slice_get (once.0 ∷ [])) (sym at_zero) ∙ only) in
          first_call at_zero (ap (λ (r : Run). r.path) (sym same) ∙ once.1.1.path) (ap (λ (r : Run). r.root) (sym same) ∙ once.1.1.root)

      of_ask : (b : Behaviour) → IsAt program place b → b.declared.root ≡ false → CameAbout place index run
      of_ask b there no_root =
          let m = maker_of program agree lawful place index run b h there no_root in
          let made = made_run m in
          let same : made.run ≡ run = same_Some made.run run (sym made.there ∙ h) in
          by_ask m (ap (λ (r : Run). r.root) (sym same) ∙ made.root) (ap (λ (r : Run). r.path) (sym same) ∙ made.path)

      by_root : (b : Behaviour) → IsAt program place b → CameAbout place index run
      by_root b there = choose b.declared.root refl
        where
          choose : (is_root : Bool) → b.declared.root ≡ is_root → CameAbout place index run
          choose true is = of_root b there is
          choose false is = of_ask b there is

  -- runs on paths of this length at most
  same_below : (n place index other_place other_index : ℕ) (run other : Run) → length run.path < n → run_at (history_of program) place index ≡ Some run → run_at (history_of program) other_place other_index ≡ Some other → run.root ≡ other.root → run.path ≡ other.path → IsSamePlace place index other_place other_index
  same_below zero place index other_place other_index run other short one two root path = absurd (omega (arith, short))
  same_below (suc n) place index other_place other_index run other short one two root path =
      both (same_below n) (came_about place index run one) (came_about other_place other_index other two)
    where
      Before : Type 0
      Before = (p i q j : ℕ) (a b : Run) → length a.path < n → run_at (history_of program) p i ≡ Some a → run_at (history_of program) q j ≡ Some b → a.root ≡ b.root → a.path ≡ b.path → IsSamePlace p i q j

      both : Before → CameAbout place index run → CameAbout other_place other_index other → IsSamePlace place index other_place other_index
      both before (first_call zero_is empty at) (first_call other_zero other_empty other_at) =
          record { place_is = sym at ∙ root ∙ other_at; index_is = zero_is ∙ sym other_zero }
      both before (first_call zero_is empty at) (by_ask m of way) = not_empty m.caller.path m.number (sym empty ∙ path ∙ way)
      both before (by_ask m of way) (first_call other_zero other_empty other_at) = not_empty m.caller.path m.number (sym other_empty ∙ sym path ∙ way)
      both before (by_ask m of way) (by_ask k other_of other_way) =
          let ways = same_from_push m.caller.path k.caller.path m.number k.number (sym way ∙ path ∙ other_way) in
          let longer : length run.path ≡ length m.caller.path + 1 = ap length way ∙ length-append m.caller.path (m.number ∷ []) in
          let callers = before m.caller_place m.caller_index k.caller_place k.caller_index m.caller k.caller (omega (arith, longer, short)) m.caller_is k.caller_is (sym of ∙ root ∙ other_of) ways.0 in
          let moved : run_at (history_of program) m.caller_place m.caller_index ≡ run_at (history_of program) k.caller_place k.caller_index =
          ap (λ p. run_at (history_of program) p m.caller_index) callers.place_is ∙ ap (run_at (history_of program) k.caller_place) callers.index_is in
          let one_caller : m.caller ≡ k.caller = same_Some m.caller k.caller (sym m.caller_is ∙ moved ∙ k.caller_is) in
          let asked : slice_get m.caller.asks m.number ≡ slice_get k.caller.asks k.number = ap (λ (r : Run). slice_get r.asks m.number) one_caller ∙ ap (slice_get k.caller.asks) ways.1 in
          let one_ask : m.ask ≡ k.ask = same_Some m.ask k.ask (sym m.ask_is ∙ asked ∙ k.ask_is) in
          record {
            place_is = sym m.callee ∙ ap (λ (a : Ask). a.callee) one_ask ∙ k.callee;
            index_is = sym m.index_is ∙ ap (λ (a : Ask). a.index) one_ask ∙ k.index_is;
          }

  pub paths_name_runs : (place index other_place other_index : ℕ) (run other : Run) → run_at (history_of program) place index ≡ Some run → run_at (history_of program) other_place other_index ≡ Some other → run.root ≡ other.root → run.path ≡ other.path → IsSamePlace place index other_place other_index
  paths_name_runs place index other_place other_index run other = same_below (suc (length run.path)) place index other_place other_index run other (omega arith)

  pub one_maker : (place index : ℕ) (m k : HasMaker (history_of program) place index) → IsSameMaker m k
  one_maker place index m k =
      let one = made_run m in
      let other = made_run k in
      let same : one.run ≡ other.run = same_Some one.run other.run (sym one.there ∙ other.there) in
      let ways = same_from_push m.caller.path k.caller.path m.number k.number (sym one.path ∙ ap (λ (r : Run). r.path) same ∙ other.path) in
      record {
        caller = paths_name_runs m.caller_place m.caller_index k.caller_place k.caller_index m.caller k.caller m.caller_is k.caller_is (sym one.root ∙ ap (λ (r : Run). r.root) same ∙ other.root) ways.0;
        number = ways.1;
      }
