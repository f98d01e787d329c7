-- What is known of a root's thread at each step, and so of its runs at the end.
use Rattle.std.proofs.Common.{◌≡◌, ℕ, zero, suc, ◌+◌, ◌<◌, ◌≤◌, Bool, true, false, List, [], ◌∷◌, ◌++◌, length, take, set, get_or, Option, Some, refl, ap, sym, subst, ◌∙◌, ◌⊎◌, ◌≢◌, inl, inr, arith, add-one, length-append, length-set, get_or-set_same, get_or-set_other}
use Rattle.std.specs.Prelude.{slice_index, slice_index_or, slice_get}
use Rattle.std.specs.Option.{option_map_or}
use Rattle.std.proofs.lemmas.Bool.{cases_eq, cases_lt}
use Rattle.std.proofs.lemmas.List.{take-append-le, take_at}
use Rattle.std.proofs.lemmas.Option.{slice_get_within}
use Rattle.circus_value.specs.ValueTree.{ValueTree}
use Rattle.circus_value.specs.declared.outcome.Outcome.{Outcome}
use Rattle.circus_model.specs.declared.history.Ask.{Ask}
use Rattle.circus_model.specs.declared.history.Run.{Run}
use Rattle.circus_model.specs.NextTurn.{asks, ends}
use Rattle.circus_model.specs.Behaviour.{Behaviour}
use Rattle.circus_model.specs.Agree.{IsAt, Reaches, AreModules, Agree}
use Rattle.circus_model.specs.Execution.{Thread, Order, Performed, store_state, count_call, note_run, is_spent, next_order, ask_of, replies_of, run_of, record_run}
use Rattle.circus_model.specs.History.{runs_of, run_at, state_after, current_clock, clock_before, IsEarlier, FollowsTurns, IsMadeBy, IsAnswered, HasMaker}
use Rattle.circus_model.proofs.Lookups.{grown, at_end, old_or_added}
use Rattle.circus_model.proofs.Turning.{turns, IsUnderWay, IsCalling, IsEnding, IsPerformed}
use Rattle.circus_model.proofs.Going.{refusal, IsKept}
use Rattle.circus_model.proofs.Counting.{Extends, with_run, runs-noted_there, runs-noted_elsewhere, noted_extends, earlier_then, count_rises, CountsIn, Counts, CountsOut, counts_refuse, counts_call, counts_reply, counts_end}
use Rattle.circus_model.proofs.Logging.{IsLogged, AreLogged, and_some, answered_still, maker_still, state_still, reaches_further, logged_more}

-- each module up to a bound has the state after its runs
abbrev pub HasStates : List Behaviour → ℕ → Thread → Type 0
HasStates program bound t = (k : ℕ) (d : Behaviour) → k < bound → IsAt program k d → slice_index_or t.store k [] ≡ state_after t.runs k d.first (length (runs_of t.runs k))

-- no run ends later than the thread is
abbrev pub EndsBefore : Thread → Type 0
EndsBefore t = (k index : ℕ) (run : Run) → run_at t.runs k index ≡ Some run → IsEarlier run.end t.clock

-- as a call begins
pub record LogsIn (program : List Behaviour) (main : ℕ) (o : Order) (b : Behaviour) (t : Thread) : Type 0 where
  pub counts : CountsIn o b t
  pub root : o.root ≡ main
  pub reached : Reaches program main o.callee
  pub short : length o.path + o.callee < length program
  pub clock_length : length t.clock ≡ length program
  pub logged : AreLogged program main t.runs
  pub states : HasStates program (suc o.callee) t
  pub ends : EndsBefore t

-- an ask of a run under way, with this number, after these asks
pub record IsAsked (program : List Behaviour) (main : ℕ) (o : Order) (b : Behaviour) (t u : Thread) (before : List Ask) (number : ℕ) (ask : Ask) : Type 0 where
  pub turn : turns b o t (replies_of before) ≡ asks ask.callee ask.procedure ask.arguments ask.state
  pub answered : IsAnswered u.runs main (o.path ++ number ∷ []) (current_clock t.clock before) ask
  pub callee : ask.callee < o.callee
  pub grows : IsEarlier (current_clock t.clock before) ask.after
  pub after_length : length ask.after ≡ length program

-- where a run comes from that is noted while another is under way
pub data Origin (t u : Thread) (made : List Ask) (k j : ℕ) : Type 0 where
  noted_before : (run : Run) → run_at t.runs k j ≡ Some run → Origin t u made k j
  made_by_run : HasMaker u.runs k j → Origin t u made k j
  made_here : (number : ℕ) (ask : Ask) → slice_get made number ≡ Some ask → ask.callee ≡ k → ask.index ≡ j → is_spent (current_clock t.clock (take number made)) ≡ false → Origin t u made k j

-- while a run is under way
pub record Logs (program : List Behaviour) (main : ℕ) (o : Order) (b : Behaviour) (t : Thread) (made : List Ask) (u : Thread) : Type 0 where
  pub began : LogsIn program main o b t
  pub counts : Counts o b t made u
  pub logged : AreLogged program main u.runs
  pub states : HasStates program o.callee u
  pub store_still : (k : ℕ) → o.callee < k → slice_index_or u.store k [] ≡ slice_index_or t.store k []
  pub ends : EndsBefore u
  pub asked : (number : ℕ) (ask : Ask) → slice_get made number ≡ Some ask → IsAsked program main o b t u (take number made) number ask
  pub origins : (k j : ℕ) (run : Run) → run_at u.runs k j ≡ Some run → Origin t u made k j

-- where a run comes from that is noted as a call ends
pub data OriginOf (o : Order) (t u : Thread) (k j : ℕ) : Type 0 where
  noted_before : (run : Run) → run_at t.runs k j ≡ Some run → OriginOf o t u k j
  made_by_run : HasMaker u.runs k j → OriginOf o t u k j
  own_run : k ≡ o.callee → j ≡ length (runs_of t.runs o.callee) → OriginOf o t u k j

-- as a call ends
pub record LogsOut (program : List Behaviour) (main : ℕ) (o : Order) (b : Behaviour) (t : Thread) (p : Performed) : Type 0 where
  pub counts : CountsOut o b t p
  pub logged : AreLogged program main p.thread.runs
  pub states : HasStates program (suc o.callee) p.thread
  pub store_still : (k : ℕ) → o.callee < k → slice_index_or p.thread.store k [] ≡ slice_index_or t.store k []
  pub ends : EndsBefore p.thread
  pub origins : (k j : ℕ) (run : Run) → run_at p.thread.runs k j ≡ Some run → OriginOf o t p.thread k j

-- ---- one ask more

asked_still : (program : List Behaviour) (main : ℕ) (o : Order) (b : Behaviour) (t u w : Thread) (before : List Ask) (number : ℕ) (ask : Ask) → Extends u.runs w.runs → IsAsked program main o b t u before number ask → IsAsked program main o b t w before number ask
asked_still program main o b t u w before number ask more h =
    record {
      turn = h.turn;
      answered = answered_still u.runs w.runs main (o.path ++ number ∷ []) (current_clock t.clock before) ask more h.answered;
      callee = h.callee;
      grows = h.grows;
      after_length = h.after_length;
    }

asked_more : (program : List Behaviour) (main : ℕ) (o : Order) (b : Behaviour) (t u w : Thread) (made : List Ask) (x : Ask) → Extends u.runs w.runs → ((number : ℕ) (ask : Ask) → slice_get made number ≡ Some ask → IsAsked program main o b t u (take number made) number ask) → IsAsked program main o b t w made (length made) x → (number : ℕ) (ask : Ask) → slice_get (made ++ x ∷ []) number ≡ Some ask → IsAsked program main o b t w (take number (made ++ x ∷ [])) number ask
asked_more program main o b t u w made x more old new number ask is =
    elim (old_or_added made x number ask is) [
      | inl there ↦
          let short : number < length made = slice_get_within made number ask there in
          rw (take-append-le number made (x ∷ []) (omega (arith, short))) (asked_still program main o b t u w (take number made) number ask more (old number ask there))
      | inr added ↦
          rw (added.0, ← added.1, take_at made (x ∷ []) (length made) refl) new
    ]

origin_more : (t u w : Thread) (made : List Ask) (x : Ask) (k j : ℕ) → Extends u.runs w.runs → Origin t u made k j → Origin t w (made ++ x ∷ []) k j
origin_more t u w made x k j more (noted_before run is) = noted_before run is
origin_more t u w made x k j more (made_by_run h) = made_by_run (maker_still u.runs w.runs k j more h)
origin_more t u w made x k j more (made_here number ask is callee index unspent) =
    let short : number < length made = slice_get_within made number ask is in
    made_here number ask (grown made (x ∷ []) number ask is) callee index
    (rw (take-append-le number made (x ∷ []) (omega (arith, short))) unspent)

-- ---- small facts

same_time : (clock : List ℕ) → IsEarlier clock clock
same_time clock k = omega arith

-- the state after so many runs of a module depends on its runs alone
state_by_runs : (one other : List (List Run)) (place : ℕ) (first : List ValueTree) (index : ℕ) → runs_of one place ≡ runs_of other place → state_after one place first index ≡ state_after other place first index
state_by_runs one other place first zero same = refl
state_by_runs one other place first (suc index) same =
    ap (λ (runs : List Run). option_map_or (λ (run : Run). run.state) (slice_get runs index) first) same

-- a state is stored elsewhere
not_stored : (store : List (List ValueTree)) (place k : ℕ) (v : List ValueTree) → k ≢ place → get_or (set store place v) k [] ≡ get_or store k []
not_stored store place k v other = get_or-set_other store place k v [] other

pub true_and_false : {X : Type 0} (b : Bool) → b ≡ true → b ≡ false → X
true_and_false b one other = cc

-- ---- each step

module _ (program : List Behaviour) (agree : Agree program) (lawful : AreModules program) (main : ℕ) where
  logs_begin : (o : Order) (b : Behaviour) (t : Thread) → LogsIn program main o b t → Logs program main o b t [] t
  logs_begin o b t begun =
      record {
        began = begun;
        counts = record {
          below = begun.counts.below;
          still = record { clock = λ k from. refl; runs = λ k from. refl };
          extends = λ k j run is. is;
          grows = same_time t.clock;
          clock = refl;
        };
        logged = begun.logged;
        states = λ k d below at. begun.states k d (omega (arith, below)) at;
        store_still = λ k behind. refl;
        ends = begun.ends;
        asked = λ number ask is. cc;
        origins = λ k j run is. noted_before run is;
      }

  logs_refuse : (o : Order) (b : Behaviour) (t u : Thread) (made : List Ask) (c q : ℕ) (a v : List ValueTree) → IsUnderWay program o b t made u → turns b o t (replies_of made) ≡ asks c q a v → IsCalling program o b made c q a v → is_spent u.clock ≡ true → Logs program main o b t made u → let before = store_state u o.callee v in Logs program main o b t (made ++ ask_of (next_order o made c q a) v before (refusal before) ∷ []) before
  logs_refuse o b t u made c q a v way is call spent h =
      record {
        began = h.began;
        counts = counts_refuse o b t u made v ask refl h.counts;
        logged = h.logged;
        states = λ k d below at. not_stored u.store o.callee k v (omega (arith, below)) ∙ h.states k d below at;
        store_still = λ k behind. not_stored u.store o.callee k v (omega (arith, behind)) ∙ h.store_still k behind;
        ends = h.ends;
        asked = asked_more program main o b t u before made ask (λ k j run there. there) h.asked new;
        origins = λ k j run there. origin_more t u before made ask k j (λ l i r x. x) (h.origins k j run there);
      }
    where
      before : Thread
      before = store_state u o.callee v

      ask : Ask
      ask = ask_of (next_order o made c q a) v before (refusal before)

      new : IsAsked program main o b t before made (length made) ask
      new =
          record {
            turn = is;
            answered = record {
              index = ap (λ clock. slice_index clock c) h.counts.clock;
              makes = λ unspent. true_and_false (is_spent u.clock) spent (ap is_spent h.counts.clock ∙ unspent);
              refused = λ _. record { reply = refl; after = h.counts.clock };
            };
            callee = call.earlier;
            grows = rw (← h.counts.clock) (same_time u.clock);
            after_length = way.thread.clock_length;
          }

  logs_call : (o : Order) (b : Behaviour) (t u : Thread) (made : List Ask) (c q : ℕ) (a v : List ValueTree) (d : Behaviour) → IsUnderWay program o b t made u → turns b o t (replies_of made) ≡ asks c q a v → IsCalling program o b made c q a v → IsAt program c d → is_spent u.clock ≡ false → Logs program main o b t made u → LogsIn program main (next_order o made c q a) d (count_call (store_state u o.callee v) c)
  logs_call o b t u made c q a v d way is call there unspent h =
      record {
        counts = counts_call o b d t u made (next_order o made c q a) v call.earlier inside h.counts;
        root = h.began.root;
        reached = subst (Reaches program main) call.names (reaches_further program h.began.reached b call.import way.there call.imported);
        short = rw (length-append o.path (length made ∷ [])) (omega (arith, h.began.short, call.earlier));
        clock_length = length-set u.clock c _ ∙ way.thread.clock_length;
        logged = h.logged;
        states = λ k e below at.
            let earlier : k < o.callee = omega (arith, below, call.earlier) in
            not_stored u.store o.callee k v (omega (arith, earlier)) ∙ h.states k e earlier at;
        ends = λ k j run note_run. earlier_then run.end u.clock _ (h.ends k j run note_run) (count_rises u.clock c);
      }
    where
      inside : c < length u.clock
      inside = rw way.thread.clock_length (slice_get_within program c d there)

  logs_reply : (o : Order) (b : Behaviour) (t u : Thread) (made : List Ask) (c q : ℕ) (a v : List ValueTree) (d : Behaviour) (p : Performed) → IsUnderWay program o b t made u → turns b o t (replies_of made) ≡ asks c q a v → IsCalling program o b made c q a v → IsAt program c d → is_spent u.clock ≡ false → Logs program main o b t made u → LogsOut program main (next_order o made c q a) d (count_call (store_state u o.callee v) c) p → IsPerformed program d q p → let before = store_state u o.callee v in Logs program main o b t (made ++ ask_of (next_order o made c q a) v before p ∷ []) p.thread
  logs_reply o b t u made c q a v d p way is call there unspent h out left =
      record {
        began = h.began;
        counts = counts_reply o b d t u made asked v p ask call.earlier inside refl h.counts out.counts;
        logged = out.logged;
        states = λ k e below at. state k e below at (cases_lt k (suc c));
        store_still = λ k behind. stays k (omega (arith, behind, call.earlier)) (omega (arith, behind)) ∙ h.store_still k behind;
        ends = out.ends;
        asked = asked_more program main o b t u p.thread made ask out.counts.extends h.asked new;
        origins = λ k j run note_run. from_call k j (out.origins k j run note_run);
      }
    where
      asked : Order
      asked = next_order o made c q a

      w : Thread
      w = count_call (store_state u o.callee v) c

      ask : Ask
      ask = ask_of asked v (store_state u o.callee v) p

      inside : c < length u.clock
      inside = rw way.thread.clock_length (slice_get_within program c d there)

      -- a state that the call left alone
      stays : (k : ℕ) → c < k → k ≢ o.callee → slice_index_or p.thread.store k [] ≡ slice_index_or u.store k []
      stays k behind other = out.store_still k behind ∙ not_stored u.store o.callee k v other

      state : (k : ℕ) (e : Behaviour) → k < o.callee → IsAt program k e → (k < suc c) ⊎ (suc c ≤ k) → slice_index_or p.thread.store k [] ≡ state_after p.thread.runs k e.first (length (runs_of p.thread.runs k))
      state k e below at (inl early) = out.states k e early at
      state k e below at (inr late) =
          let same : runs_of p.thread.runs k ≡ runs_of u.runs k = out.counts.still.runs k late in
          stays k late (omega (arith, below)) ∙ h.states k e below at
          ∙ (sym (state_by_runs p.thread.runs u.runs k e.first (length (runs_of u.runs k)) same) ∙ ap (λ (runs : List Run). state_after p.thread.runs k e.first (length runs)) (sym same))

      -- the call is the run with the ask's index
      made_there : run_at p.thread.runs c (slice_index u.clock c) ≡ Some out.counts.run
      made_there =
          rw (out.counts.own_runs, h.counts.below c call.earlier) (at_end (runs_of u.runs c) out.counts.run)

      is_made : IsMadeBy main (o.path ++ length made ∷ []) (current_clock t.clock made) ask out.counts.run
      is_made =
          let r = out.counts.is_run in
          record {
            root = r.root ∙ h.began.root;
            path = r.path;
            procedure = r.procedure;
            arguments = r.arguments;
            entry = r.entry ∙ ap (λ clock. set clock c (slice_index u.clock c + 1)) h.counts.clock;
            outcome = r.outcome;
            end = r.end;
          }

      new : IsAsked program main o b t p.thread made (length made) ask
      new =
          record {
            turn = is;
            answered = record {
              index = ap (λ clock. slice_index clock c) h.counts.clock;
              makes = λ _. and_some (run_at p.thread.runs c (slice_index u.clock c)) (IsMadeBy main (o.path ++ length made ∷ []) (current_clock t.clock made) ask) out.counts.run made_there is_made;
              refused = λ spent. true_and_false (is_spent u.clock) (ap is_spent h.counts.clock ∙ spent) unspent;
            };
            callee = call.earlier;
            grows = rw (← h.counts.clock) (earlier_then u.clock w.clock p.thread.clock (count_rises u.clock c) out.counts.grows);
            after_length = left.thread.clock_length;
          }

      from_call : (k j : ℕ) → OriginOf asked w p.thread k j → Origin t p.thread (made ++ ask ∷ []) k j
      from_call k j (noted_before run is) = origin_more t u p.thread made ask k j out.counts.extends (h.origins k j run is)
      from_call k j (made_by_run m) = made_by_run m
      from_call k j (own_run place index) =
          made_here (length made) ask (at_end made ask) (sym place)
          (h.counts.below c call.earlier ∙ sym index)
          (rw (take_at made (ask ∷ []) (length made) refl) (ap is_spent (sym h.counts.clock) ∙ unspent))

  logs_end : (o : Order) (b : Behaviour) (t u : Thread) (made : List Ask) (outcome : Outcome) (v : List ValueTree) → IsUnderWay program o b t made u → turns b o t (replies_of made) ≡ ends outcome v → IsEnding b o outcome v → Logs program main o b t made u → LogsOut program main o b t (record_run o t (record { thread = store_state u o.callee v; made = made; outcome = outcome }))
  logs_end o b t u made outcome v way is ending h =
      record {
        counts = counts_end o b t u made outcome v inside h.counts;
        logged = logged_more program main u.runs o.callee run inside h.logged new;
        states = λ k d below at. state k d below at (cases_eq k o.callee);
        store_still = λ k behind. not_stored u.store o.callee k v (omega (arith, behind)) ∙ h.store_still k behind;
        ends = λ k j x note_run. ends_before k j x note_run (cases_eq k o.callee);
        origins = λ k j x note_run. origin k j x note_run (cases_eq k o.callee);
      }
    where
      run : Run
      run = run_of o t (record { thread = store_state u o.callee v; made = made; outcome = outcome })

      after : List (List Run)
      after = with_run u.runs o.callee run

      inside : o.callee < length u.runs
      inside = rw way.thread.runs_length (slice_get_within program o.callee b way.there)

      there : runs_of after o.callee ≡ runs_of u.runs o.callee ++ run ∷ []
      there = runs-noted_there u.runs o.callee run inside

      more : Extends u.runs after
      more = noted_extends u.runs o.callee run inside

      -- the runs of this module are those from before
      same : runs_of u.runs o.callee ≡ runs_of t.runs o.callee
      same = h.counts.still.runs o.callee (omega arith)

      stands : run.state ≡ v
      stands = get_or-set_same u.store o.callee v [] (rw way.thread.store_length (slice_get_within program o.callee b way.there))

      begins_so : slice_index_or t.store o.callee [] ≡ state_after after o.callee b.first (length (runs_of u.runs o.callee))
      begins_so =
          h.began.states o.callee b (omega arith) way.there
          ∙ ap (λ (runs : List Run). state_after t.runs o.callee b.first (length runs)) (sym same)
          ∙ state_by_runs t.runs u.runs o.callee b.first (length (runs_of u.runs o.callee)) (sym same)
          ∙ sym (state_still u.runs after o.callee b.first (length (runs_of u.runs o.callee)) more (omega arith))

      follows : FollowsTurns b (slice_index_or t.store o.callee []) run
      follows =
          record {
            start = way.start;
            replies_fit = way.replies_fit;
            asks_so = λ number ask there. (h.asked number ask there).turn;
            ends_so = is ∙ ap (ends outcome) (sym stands);
          }

      earlier_run : (earlier : ℕ) (other : Run) → earlier < length (runs_of u.runs o.callee) → run_at after o.callee earlier ≡ Some other → run_at t.runs o.callee earlier ≡ Some other
      earlier_run earlier other less note_run =
          elim (old_or_added (runs_of u.runs o.callee) run earlier other (rw there at note_run)) [
            | inl old ↦ rw same at old
            | inr added ↦ absurd (omega (arith, added.0, less))
          ]

      new : IsLogged program main after o.callee (length (runs_of u.runs o.callee)) run
      new =
          let P : List ValueTree → Type 0 = λ state. FollowsTurns b state run in
          record {
            behaviour = b;
            there = way.there;
            follows = subst P begins_so follows;
            answered = λ number ask there. answered_still u.runs after main (o.path ++ number ∷ []) (clock_before run number) ask more (h.asked number ask there).answered;
            calls = λ number ask there. (h.asked number ask there).callee;
            grows = record {
              entry_length = h.began.clock_length;
              after_length = λ number ask there. (h.asked number ask there).after_length;
              with_asks = λ number ask there. (h.asked number ask there).grows;
              end = h.counts.clock;
            };
            after_others = λ earlier other less note_run. h.began.ends o.callee earlier other (earlier_run earlier other less note_run);
            root = h.began.root;
            reached = h.began.reached;
            numbered = λ no_root. h.began.counts.own no_root ∙ ap (λ (runs : List Run). length runs + 1) (sym same);
            short = h.began.short;
          }

      is_last : run_at after o.callee (length (runs_of u.runs o.callee)) ≡ Some run
      is_last = rw there (at_end (runs_of u.runs o.callee) run)

      one_more : length (runs_of after o.callee) ≡ suc (length (runs_of u.runs o.callee))
      one_more = ap length there ∙ length-append (runs_of u.runs o.callee) (run ∷ []) ∙ add-one (length (runs_of u.runs o.callee))

      own_state : (d : Behaviour) → slice_index_or (set u.store o.callee v) o.callee [] ≡ state_after after o.callee d.first (length (runs_of after o.callee))
      own_state d =
          ap (λ (x : Option Run). option_map_or (λ (r : Run). r.state) x d.first) (sym is_last)
          ∙ ap (state_after after o.callee d.first) (sym one_more)

      state : (k : ℕ) (d : Behaviour) → k < suc o.callee → IsAt program k d → (k ≡ o.callee) ⊎ (k ≢ o.callee) → slice_index_or (set u.store o.callee v) k [] ≡ state_after after k d.first (length (runs_of after k))
      state k d below at (inl here) = rw here (own_state d)
      state k d below at (inr other) =
          let elsewhere = runs-noted_elsewhere u.runs o.callee k run other in
          not_stored u.store o.callee k v other ∙ h.states k d (omega (arith, below, other)) at
          ∙ sym (state_by_runs after u.runs k d.first (length (runs_of u.runs k)) elsewhere)
          ∙ ap (λ (runs : List Run). state_after after k d.first (length runs)) (sym elsewhere)

      -- a run of this module was there, or is the one that is noted
      own_or_old : (k j : ℕ) (x : Run) → run_at after k j ≡ Some x → k ≡ o.callee → (run_at u.runs k j ≡ Some x) ⊎ ((j ≡ length (runs_of u.runs o.callee)) × (run ≡ x))
      own_or_old k j x note_run here =
          elim (old_or_added (runs_of u.runs o.callee) run j x (rw (here, there) at note_run)) [
            | inl old ↦ inl (rw here old)
            | inr added ↦ inr added
          ]

      ends_before : (k j : ℕ) (x : Run) → run_at after k j ≡ Some x → (k ≡ o.callee) ⊎ (k ≢ o.callee) → IsEarlier x.end u.clock
      ends_before k j x note_run (inl here) =
          elim (own_or_old k j x note_run here) [
            | inl old ↦ h.ends k j x old
            | inr added ↦ rw (← added.1) (same_time u.clock)
          ]
      ends_before k j x note_run (inr other) = h.ends k j x (rw (runs-noted_elsewhere u.runs o.callee k run other) at note_run)

      left : Thread
      left = note_run (store_state u o.callee v) o.callee run

      -- a run that was there before this one is noted
      from_before : (k j : ℕ) → Origin t u made k j → OriginOf o t left k j
      from_before k j (noted_before x is) = noted_before x is
      from_before k j (made_by_run m) = made_by_run (maker_still u.runs after k j more m)
      from_before k j (made_here number ask is callee index unspent) =
          made_by_run (record {
            caller_place = o.callee;
            caller_index = length (runs_of u.runs o.callee);
            caller = run;
            number = number;
            ask = ask;
            caller_is = is_last;
            ask_is = is;
            callee = callee;
            index_is = index;
            not_spent = unspent;
          })

      origin : (k j : ℕ) (x : Run) → run_at after k j ≡ Some x → (k ≡ o.callee) ⊎ (k ≢ o.callee) → OriginOf o t left k j
      origin k j x note_run (inl here) =
          elim (own_or_old k j x note_run here) [
            | inl old ↦ from_before k j (h.origins k j x old)
            | inr added ↦ own_run here (added.0 ∙ ap length same)
          ]
      origin k j x note_run (inr other) =
          from_before k j (h.origins k j x (rw (runs-noted_elsewhere u.runs o.callee k run other) at note_run))

  pub logs_kept : IsKept program agree lawful (LogsIn program main) (Logs program main) (LogsOut program main)
  logs_kept =
      record {
        begin = λ o b t way begun. logs_begin o b t begun;
        refuse = logs_refuse;
        call = logs_call;
        reply = logs_reply;
        end = logs_end;
      }
