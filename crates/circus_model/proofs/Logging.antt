-- What is known of a run once it is noted, and stays known.
use Rattle.std.proofs.Common.{◌≡◌, ℕ, zero, suc, ◌+◌, ◌<◌, ◌≤◌, false, List, [], ◌∷◌, ◌++◌, length, Option, Some, None, refl, ap, sym, subst, ◌∙◌, ◌⊎◌, ◌≢◌, inl, inr, arith}
use Rattle.std.specs.Prelude.{Contains, IsSomeAnd, slice_index, slice_get}
use Rattle.std.specs.Option.{option_map_or}
use Rattle.std.proofs.lemmas.Bool.{cases_eq}
use Rattle.std.proofs.lemmas.Option.{same_Some, slice_get_within}
use Rattle.circus_value.specs.ValueTree.{ValueTree}
use Rattle.circus_model.specs.declared.signature.Import.{Import}
use Rattle.circus_model.specs.declared.history.Ask.{Ask}
use Rattle.circus_model.specs.declared.history.Run.{Run}
use Rattle.circus_model.specs.Behaviour.{Behaviour}
use Rattle.circus_model.specs.Agree.{IsAt, Reaches, itself, by_import}
use Rattle.circus_model.specs.History.{runs_of, run_at, state_after, clock_before, IsEarlier, FollowsTurns, ClockGrows, IsMadeBy, IsAnswered, HasMaker}
use Rattle.circus_model.proofs.Lookups.{old_or_added, within}
use Rattle.circus_model.proofs.Counting.{Extends, with_run, runs-noted_there, runs-noted_elsewhere, noted_extends}

-- ---- what is found goes on being found

pub some_and : {X : Type 0} (o : Option X) (P : X → Type 0) → IsSomeAnd o P → (x : X) × ((o ≡ Some x) × P x)
some_and None P h = absurd h
some_and (Some x) P h = (x, (refl, h))

pub and_some : {X : Type 0} (o : Option X) (P : X → Type 0) (x : X) → o ≡ Some x → P x → IsSomeAnd o P
and_some o P x is h = rw is h

pub answered_still : (before after : List (List Run)) (main : ℕ) (way clock : List ℕ) (ask : Ask) → Extends before after → IsAnswered before main way clock ask → IsAnswered after main way clock ask
answered_still before after main way clock ask more h =
    record {
      index = h.index;
      makes = λ unspent.
          let made = some_and (run_at before ask.callee ask.index) (IsMadeBy main way clock ask) (h.makes unspent) in
          and_some (run_at after ask.callee ask.index) (IsMadeBy main way clock ask) made.0 (more ask.callee ask.index made.0 made.1.0) made.1.1;
      refused = h.refused;
    }

pub maker_still : (before after : List (List Run)) (place index : ℕ) → Extends before after → HasMaker before place index → HasMaker after place index
maker_still before after place index more h =
    record {
      caller_place = h.caller_place;
      caller_index = h.caller_index;
      caller = h.caller;
      number = h.number;
      ask = h.ask;
      caller_is = more h.caller_place h.caller_index h.caller h.caller_is;
      ask_is = h.ask_is;
      callee = h.callee;
      index_is = h.index_is;
      not_spent = h.not_spent;
    }

-- the state after so many runs stays, where they are there
pub state_still : (before after : List (List Run)) (place : ℕ) (first : List ValueTree) (index : ℕ) → Extends before after → index ≤ length (runs_of before place) → state_after after place first index ≡ state_after before place first index
state_still before after place first zero more short = refl
state_still before after place first (suc index) more short =
    let run = within (runs_of before place) index short in
    ap (λ (o : Option Run). option_map_or (λ (r : Run). r.state) o first) (more place index run.0 run.1 ∙ sym run.1)

-- ---- reaching further

pub reaches_further : (program : List Behaviour) {from place : ℕ} → Reaches program from place → (b : Behaviour) (i : Import) → IsAt program place b → Contains b.declared.imports i → Reaches program from i.«module»
reaches_further program (itself place) b i at among = by_import place i.«module» b i at among (itself i.«module»)
reaches_further program (by_import from end d j there imported rest) b i at among =
    by_import from i.«module» d j there imported (reaches_further program rest b i at among)

-- ---- a run that is noted

-- what is known of run `index` of the module at a place, in the thread of a root
pub record IsLogged (program : List Behaviour) (main : ℕ) (runs : List (List Run)) (place index : ℕ) (run : Run) : Type 0 where
  pub behaviour : Behaviour
  pub there : IsAt program place behaviour
  pub follows : FollowsTurns behaviour (state_after runs place behaviour.first index) run
  pub answered : (number : ℕ) (ask : Ask) → slice_get run.asks number ≡ Some ask → IsAnswered runs main (run.path ++ number ∷ []) (clock_before run number) ask
  pub calls : (number : ℕ) (ask : Ask) → slice_get run.asks number ≡ Some ask → ask.callee < place
  pub grows : ClockGrows (length program) run
  pub after_others : (earlier : ℕ) (other : Run) → earlier < index → run_at runs place earlier ≡ Some other → IsEarlier other.end run.entry
  pub root : run.root ≡ main
  pub reached : Reaches program main place
  pub numbered : behaviour.declared.root ≡ false → slice_index run.entry place ≡ index + 1
  pub short : length run.path + place < length program

abbrev pub AreLogged : List Behaviour → ℕ → List (List Run) → Type 0
AreLogged program main runs = (place index : ℕ) (run : Run) → run_at runs place index ≡ Some run → IsLogged program main runs place index run

pub logged_still : (program : List Behaviour) (main : ℕ) (before after : List (List Run)) (place index : ℕ) (run : Run) → Extends before after → run_at before place index ≡ Some run → IsLogged program main before place index run → IsLogged program main after place index run
logged_still program main before after place index run more at h =
    let short : index < length (runs_of before place) = slice_get_within (runs_of before place) index run at in
    let P : List ValueTree → Type 0 = λ state. FollowsTurns h.behaviour state run in
    record {
      behaviour = h.behaviour;
      there = h.there;
      follows = subst P (sym (state_still before after place h.behaviour.first index more (omega (arith, short)))) h.follows;
      answered = λ number ask is. answered_still before after main (run.path ++ number ∷ []) (clock_before run number) ask more (h.answered number ask is);
      calls = h.calls;
      grows = h.grows;
      after_others = λ earlier other less is.
          let old = within (runs_of before place) earlier (omega (arith, short, less)) in
          let same : old.0 ≡ other = same_Some old.0 other (sym (more place earlier old.0 old.1) ∙ is) in
          rw (← same) (h.after_others earlier old.0 less old.1);
      root = h.root;
      reached = h.reached;
      numbered = h.numbered;
      short = h.short;
    }

-- a run more is known, where it is known by itself
pub logged_more : (program : List Behaviour) (main : ℕ) (runs : List (List Run)) (place : ℕ) (run : Run) → place < length runs → AreLogged program main runs → IsLogged program main (with_run runs place run) place (length (runs_of runs place)) run → AreLogged program main (with_run runs place run)
logged_more program main runs place run inside h new k index x noted = by_place (cases_eq k place)
  where
    after : List (List Run)
    after = with_run runs place run

    old : run_at runs k index ≡ Some x → IsLogged program main after k index x
    old is = logged_still program main runs after k index x (noted_extends runs place run inside) is (h k index x is)

    by_place : (k ≡ place) ⊎ (k ≢ place) → IsLogged program main after k index x
    by_place (inr other) = old (rw (runs-noted_elsewhere runs place k run other) at noted)
    by_place (inl same) =
        let here : slice_get (runs_of runs place ++ run ∷ []) index ≡ Some x = rw (same, runs-noted_there runs place run inside) at noted in
        elim (old_or_added (runs_of runs place) run index x here) [
          | inl is ↦ old (rw same is)
          | inr added ↦ rw (same, added.0, ← added.1) new
        ]
