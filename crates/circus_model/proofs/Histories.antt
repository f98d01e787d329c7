-- What is known of each root's thread, and of their runs together.
use Rattle.std.proofs.Common.{◌≡◌, ℕ, zero, suc, ◌+◌, Bool, true, false, cond, List, [], ◌∷◌, ◌++◌, length, map, get_or, Some, refl, ap, sym, subst, ◌∙◌, ◌≢◌, inl, inr, arith, zero-add, zero-le, append-nil, append_assoc}
use Rattle.std.specs.Prelude.{fold, slice_index, slice_get}
use Rattle.std.specs.List.{flat_map}
use Rattle.std.proofs.lemmas.Bool.{cases_lt}
use Rattle.std.proofs.lemmas.List.{length-map, nil_from_length}
use Rattle.std.proofs.lemmas.Option.{same_Some, slice_get_within}
use Rattle.circus_model.specs.declared.history.Run.{Run}
use Rattle.circus_model.specs.Behaviour.{Behaviour}
use Rattle.circus_model.specs.Agree.{IsAt, IsRoot, Reaches, itself, AreModules, Agree}
use Rattle.circus_model.specs.Execution.{Performed, new_thread, main_order, perform, thread_of, roots_from, join_runs, history_of}
use Rattle.circus_model.specs.History.{runs_of, run_at, IsMain, HasMaker}
use Rattle.circus_model.specs.Seen.Ready.{IsThread, IsOrder}
use Rattle.circus_model.proofs.Lookups.{old_or_added, within, in_either}
use Rattle.circus_model.proofs.Going.{perform_leaves}
use Rattle.circus_model.proofs.Counting.{Extends}
use Rattle.circus_model.proofs.Logging.{IsLogged, AreLogged, maker_still, logged_still}
use Rattle.circus_model.proofs.Keeping.{LogsIn, LogsOut, OriginOf, noted_before, made_by_run, own_run, true_and_false, logs_kept}

-- ---- a thread that has done nothing

-- the same at every place
same_everywhere : {X Y : Type 0} (xs : List X) (y : Y) (k : ℕ) → get_or (map (λ _. y) xs) k y ≡ y
same_everywhere [] y k = refl
same_everywhere (x ∷ xs) y zero = refl
same_everywhere (x ∷ xs) y (suc k) = same_everywhere xs y k

first_state_at : (program : List Behaviour) (place : ℕ) (b : Behaviour) → IsAt program place b → get_or (map (λ (d : Behaviour). d.first) program) place [] ≡ b.first
first_state_at [] place b h = cc
first_state_at (d ∷ program) zero b h = ap (λ (e : Behaviour). e.first) (same_Some d b h)
first_state_at (d ∷ program) (suc place) b h = first_state_at program place b h

pub fresh_thread : (program : List Behaviour) → AreModules program → IsThread program (new_thread program)
fresh_thread program lawful =
    record {
      store_length = length-map program (λ (d : Behaviour). d.first);
      clock_length = length-map program (λ (_ : Behaviour). 0);
      runs_length = length-map program (λ (_ : Behaviour). []);
      states = λ place b at. rw (first_state_at program place b at) (lawful place b at).first_is_state;
    }

-- no module has runs yet
none_yet : (program : List Behaviour) (k : ℕ) → runs_of (new_thread program).runs k ≡ []
none_yet program k = same_everywhere program [] k

no_run_yet : {X : Type 0} (program : List Behaviour) (k j : ℕ) (run : Run) → run_at (new_thread program).runs k j ≡ Some run → X
no_run_yet program k j run h = absurd (cc (rw (none_yet program k) at h))

pub main_order_stands : (program : List Behaviour) → Agree program → (root : ℕ) (b : Behaviour) → IsAt program root b → b.declared.root ≡ true → IsOrder program (main_order root)
main_order_stands program agree root b at is_root =
    record {
      ordered = b;
      there = at;
      fit = rw (agree.mains root b at is_root) refl;
      within = zero-le;
    }

main_begins : (program : List Behaviour) (root : ℕ) (b : Behaviour) → IsAt program root b → b.declared.root ≡ true → LogsIn program root (main_order root) b (new_thread program)
main_begins program root b at is_root =
    record {
      counts = record {
        below = λ k below. same_everywhere program 0 k ∙ ap length (sym (none_yet program k));
        own = λ no_root. cc;
      };
      root = refl;
      reached = itself root;
      short = omega (arith, slice_get_within program root b at);
      clock_length = length-map program (λ (_ : Behaviour). 0);
      logged = λ k j run h. no_run_yet program k j run h;
      states = λ k d below there. rw (none_yet program k) (first_state_at program k d there);
      ends = λ k j run h. no_run_yet program k j run h;
    }

-- ---- a root's thread at its end

-- what is known of the runs of a root's thread
pub record IsLog (program : List Behaviour) (root : ℕ) (runs : List (List Run)) : Type 0 where
  pub all : length runs ≡ length program
  pub logged : AreLogged program root runs
  pub main : Run
  pub is_main : IsMain (length program) root main
  pub alone : runs_of runs root ≡ main ∷ []
  pub made : (k j : ℕ) (run : Run) → run_at runs k j ≡ Some run → k ≢ root → HasMaker runs k j

module _ (program : List Behaviour) (agree : Agree program) (lawful : AreModules program) where
  pub log_of_thread : (root : ℕ) (b : Behaviour) → IsAt program root b → b.declared.root ≡ true → IsLog program root (thread_of program root).runs
  unfolding thread_of
  log_of_thread root b at is_root =
      let kept = perform_leaves program agree lawful (LogsIn program root) _ (LogsOut program root) (logs_kept program agree lawful root) in
      let left = kept (length program) (new_thread program) (main_order root) b (slice_get_within program root b at) (fresh_thread program lawful) (main_order_stands program agree root b at is_root) at (main_begins program root b at is_root) in
      let p = perform program (length program) (new_thread program) (main_order root) in
      let r = left.0.counts.is_run in
      record {
        all = left.1.thread.runs_length;
        logged = left.0.logged;
        main = left.0.counts.run;
        is_main = record {
          path = r.path;
          root = r.root;
          procedure = r.procedure;
          arguments = r.arguments;
          clock_length = ap length r.entry ∙ length-map program (λ (_ : Behaviour). 0);
          clock_zero = λ k. ap (λ clock. slice_index clock k) r.entry ∙ same_everywhere program 0 k;
        };
        alone = left.0.counts.own_runs ∙ ap (λ runs. runs ++ left.0.counts.run ∷ []) (none_yet program root);
        made = λ k j run noted other. from_maker p k j other (left.0.origins k j run noted);
      }
    where
      from_maker : (p : Performed) (k j : ℕ) → k ≢ root → OriginOf (main_order root) (new_thread program) p.thread k j → HasMaker p.thread.runs k j
      from_maker p k j other (noted_before run is) = no_run_yet program k j run is
      from_maker p k j other (made_by_run m) = m
      from_maker p k j other (own_run here index) = absurd (other here)

-- ---- threads together

-- the runs of a module in two logs
pub runs-joined : (one other : List (List Run)) (k : ℕ) → runs_of (join_runs one other) k ≡ runs_of one k ++ runs_of other k
runs-joined [] other k = refl
runs-joined (runs ∷ one) [] k = sym (append-nil (get_or (runs ∷ one) k []))
runs-joined (runs ∷ one) (more ∷ other) zero = refl
runs-joined (runs ∷ one) (more ∷ other) (suc k) = runs-joined one other k

pub length-joined : (one other : List (List Run)) → length one ≡ length other → length (join_runs one other) ≡ length one
length-joined [] [] same = refl
length-joined [] (x ∷ other) same = sym same
length-joined (runs ∷ one) [] same = refl
length-joined (runs ∷ one) (more ∷ other) same = ap suc (length-joined one other (omega (arith, same)))

-- the runs of a module in many
runs-all_joined : (logs : ℕ → List (List Run)) (history : List (List Run)) (roots : List ℕ) (k : ℕ) → runs_of (fold (λ h root. join_runs h (logs root)) history roots) k ≡ runs_of history k ++ flat_map (λ root. runs_of (logs root) k) roots
runs-all_joined logs history [] k = sym (append-nil (runs_of history k))
runs-all_joined logs history (root ∷ roots) k =
    runs-all_joined logs (join_runs history (logs root)) roots k
    ∙ ap (λ runs. runs ++ flat_map (λ r. runs_of (logs r) k) roots) (runs-joined history (logs root) k)
    ∙ append_assoc (runs_of history k) (runs_of (logs root) k) (flat_map (λ r. runs_of (logs r) k) roots)

length-all_joined : (logs : ℕ → List (List Run)) (n : ℕ) (history : List (List Run)) (roots : List ℕ) → ((k root : ℕ) → slice_get roots k ≡ Some root → length (logs root) ≡ n) → length history ≡ n → length (fold (λ h root. join_runs h (logs root)) history roots) ≡ n
length-all_joined logs n history [] each is = is
length-all_joined logs n history (root ∷ roots) each is =
    let here : length (logs root) ≡ n = each 0 root refl in
    length-all_joined logs n (join_runs history (logs root)) roots (λ k r among. each (suc k) r among)
    (length-joined history (logs root) (is ∙ sym here) ∙ is)

-- the place of an item behind the first
further : (place i : ℕ) → suc place + i ≡ place + suc i
further place i = omega arith

-- where nothing comes from any root
none_from_roots : {X : Type 0} (f : ℕ → List X) (place : ℕ) (program : List Behaviour) → ((i : ℕ) (b : Behaviour) → IsAt program i b → b.declared.root ≡ true → f (place + i) ≡ []) → flat_map f (roots_from place program) ≡ []
none_from_roots f place [] none = refl
none_from_roots f place (b ∷ program) none =
    by_root (none_from_roots f (suc place) program (λ i d at root. ap f (further place i) ∙ none (suc i) d at root)) b.declared.root refl
  where
    by_root : flat_map f (roots_from (suc place) program) ≡ [] → (is_root : Bool) → b.declared.root ≡ is_root → flat_map f (cond is_root (place ∷ roots_from (suc place) program) (roots_from (suc place) program)) ≡ []
    by_root rest true root =
        let first : f place ≡ [] = ap f (omega arith) ∙ none 0 b refl root in
        rw first rest
    by_root rest false root = rest

-- where all comes from one root
from_one_root : {X : Type 0} (f : ℕ → List X) (place i : ℕ) (program : List Behaviour) (b : Behaviour) → IsAt program i b → b.declared.root ≡ true → ((k : ℕ) (d : Behaviour) → IsAt program k d → d.declared.root ≡ true → k ≢ i → f (place + k) ≡ []) → flat_map f (roots_from place program) ≡ f (place + i)
from_one_root f place i [] b at root others = cc
from_one_root f place zero (d ∷ program) b at root others =
    let same : d ≡ b = same_Some d b at in
    let is_root : d.declared.root ≡ true = ap (λ (x : Behaviour). x.declared.root) same ∙ root in
    let rest = none_from_roots f (suc place) program (λ k e there rooted. ap f (further place k) ∙ others (suc k) e there rooted (λ same. cc)) in
    let here : place + 0 ≡ place = omega arith in
    rw (is_root, rest, here) (append-nil (f place))
from_one_root f place (suc i) (d ∷ program) b at root others =
    by_root (from_one_root f (suc place) i program b at root (λ k e there rooted other. ap f (further place k) ∙ others (suc k) e there rooted (λ same. other (omega (arith, same))))) d.declared.root refl
  where
    by_root : flat_map f (roots_from (suc place) program) ≡ f (suc place + i) → (is_root : Bool) → d.declared.root ≡ is_root → flat_map f (cond is_root (place ∷ roots_from (suc place) program) (roots_from (suc place) program)) ≡ f (place + suc i)
    by_root rest true rooted =
        let first : f place ≡ [] = ap f (omega arith) ∙ others 0 d refl rooted (λ same. cc) in
        rw first (rest ∙ ap f (further place i))
    by_root rest false rooted = rest ∙ ap f (further place i)

-- a root that something comes from
record IsFrom {X : Type 0} (f : ℕ → List X) (place : ℕ) (program : List Behaviour) (x : X) : Type 0 where
  pub at : ℕ
  pub behaviour : Behaviour
  pub there : IsAt program at behaviour
  pub root : behaviour.declared.root ≡ true
  pub index : ℕ
  pub is : slice_get (f (place + at)) index ≡ Some x

from_some_root : {X : Type 0} (f : ℕ → List X) (place : ℕ) (program : List Behaviour) (j : ℕ) (x : X) → slice_get (flat_map f (roots_from place program)) j ≡ Some x → IsFrom f place program x
from_some_root f place [] j x h = cc
from_some_root {X = X} f place (b ∷ program) j x h = by_root (from_some_root f (suc place) program) b.declared.root refl h
  where
    later : IsFrom f (suc place) program x → IsFrom f place (b ∷ program) x
    later h =
        record {
          at = suc h.at;
          behaviour = h.behaviour;
          there = h.there;
          root = h.root;
          index = h.index;
          is = ap (λ n. slice_get (f n) h.index) (sym (further place h.at)) ∙ h.is;
        }

    here : b.declared.root ≡ true → slice_get (f place) j ≡ Some x → IsFrom f place (b ∷ program) x
    here root is =
        record {
          at = 0;
          behaviour = b;
          there = refl;
          root = root;
          index = j;
          is = ap (λ n. slice_get (f n) j) (omega arith) ∙ is;
        }

    by_root : ((k : ℕ) (y : X) → slice_get (flat_map f (roots_from (suc place) program)) k ≡ Some y → IsFrom f (suc place) program y) → (is_root : Bool) → b.declared.root ≡ is_root → slice_get (flat_map f (cond is_root (place ∷ roots_from (suc place) program) (roots_from (suc place) program))) j ≡ Some x → IsFrom f place (b ∷ program) x
    by_root rest true root is =
        elim (in_either (f place) (flat_map f (roots_from (suc place) program)) j x is) [
          | inl first ↦ here root first
          | inr more ↦ later (rest more.0 x more.1)
        ]
    by_root rest false root is = later (rest j x is)

-- the roots themselves
themselves : (roots : List ℕ) → flat_map (λ (root : ℕ). root ∷ []) roots ≡ roots
themselves [] = refl
themselves (root ∷ roots) = ap (λ (rest : List ℕ). root ∷ rest) (themselves roots)

-- ---- a program's history

module _ (program : List Behaviour) (agree : Agree program) (lawful : AreModules program) where
  -- the runs of a module in a root's thread
  runs_in : ℕ → ℕ → List Run
  runs_in k root = runs_of (thread_of program root).runs k

  history_at : (k : ℕ) → runs_of (history_of program) k ≡ flat_map (runs_in k) (roots_from 0 program)
  unfolding history_of runs_in
  history_at k =
      runs-all_joined (λ root. (thread_of program root).runs) (map (λ _. []) program) (roots_from 0 program) k
      ∙ ap (λ runs. runs ++ flat_map (λ root. runs_of (thread_of program root).runs k) (roots_from 0 program)) (none_yet program k)

  -- a module has runs in one root's thread alone
  others_have_none : (k root : ℕ) (b : Behaviour) (j : ℕ) (run : Run) → IsAt program root b → b.declared.root ≡ true → slice_get (runs_in k root) j ≡ Some run → (other : ℕ) (d : Behaviour) → IsAt program other d → d.declared.root ≡ true → other ≢ root → runs_in k other ≡ []
  unfolding runs_in
  others_have_none k root b j run at is_root here other d there rooted differs =
      elim (cases_lt 0 (length (runs_of (thread_of program other).runs k))) [
        | inl some ↦
            let first = within (runs_of (thread_of program other).runs k) 0 some in
            let one = ((log_of_thread program agree lawful root b at is_root).logged k j run here).reached in
            let two = ((log_of_thread program agree lawful other d there rooted).logged k 0 first.0 first.1).reached in
            absurd (differs (agree.one_root other root k (record { behaviour = d; there = there; root = rooted }) (record { behaviour = b; there = at; root = is_root }) two one))
        | inr none ↦ nil_from_length (runs_of (thread_of program other).runs k) (omega (arith, none))
      ]

  -- where a module has runs in a root's thread, these are all
  all_runs : (k root : ℕ) (b : Behaviour) (j : ℕ) (run : Run) → IsAt program root b → b.declared.root ≡ true → run_at (thread_of program root).runs k j ≡ Some run → runs_of (history_of program) k ≡ runs_of (thread_of program root).runs k
  unfolding runs_in
  all_runs k root b j run at is_root here =
      history_at k
      ∙ from_one_root (runs_in k) 0 root program b at is_root (λ other d there rooted differs. ap (runs_in k) (zero-add other) ∙ others_have_none k root b j run at is_root here other d there rooted differs)
      ∙ ap (runs_in k) (zero-add root)

  -- what is in a root's thread is in the history
  pub thread_extends : (root : ℕ) (b : Behaviour) → IsAt program root b → b.declared.root ≡ true → Extends (thread_of program root).runs (history_of program)
  thread_extends root b at is_root k j run here = rw (all_runs k root b j run at is_root here) here

  -- a run of the history, of which this is known
  pub record IsInHistory (k j : ℕ) (run : Run) : Type 0 where
    pub root : ℕ
    pub behaviour : Behaviour
    pub there : IsAt program root behaviour
    pub is_root : behaviour.declared.root ≡ true
    pub in_thread : run_at (thread_of program root).runs k j ≡ Some run
    pub logged : IsLogged program root (history_of program) k j run

  pub in_history : (k j : ℕ) (run : Run) → run_at (history_of program) k j ≡ Some run → IsInHistory k j run
  unfolding runs_in
  in_history k j run h =
      let f = from_some_root (runs_in k) 0 program j run (rw (history_at k) at h) in
      let some : run_at (thread_of program f.at).runs k f.index ≡ Some run = ap (λ root. slice_get (runs_in k root) f.index) (sym (zero-add f.at)) ∙ f.is in
      let here : run_at (thread_of program f.at).runs k j ≡ Some run = rw (← all_runs k f.at f.behaviour f.index run f.there f.root some) h in
      record {
        root = f.at;
        behaviour = f.behaviour;
        there = f.there;
        is_root = f.root;
        in_thread = here;
        logged = logged_still program f.at (thread_of program f.at).runs (history_of program) k j run (thread_extends f.at f.behaviour f.there f.root) here ((log_of_thread program agree lawful f.at f.behaviour f.there f.root).logged k j run here);
      }

  -- the module at the place of a run that is no root's own was asked for it
  pub maker_of : (k j : ℕ) (run : Run) (b : Behaviour) → run_at (history_of program) k j ≡ Some run → IsAt program k b → b.declared.root ≡ false → HasMaker (history_of program) k j
  maker_of k j run b h at no_root =
      let i = in_history k j run h in
      let log = log_of_thread program agree lawful i.root i.behaviour i.there i.is_root in
      maker_still (thread_of program i.root).runs (history_of program) k j (thread_extends i.root i.behaviour i.there i.is_root) (log.made k j run i.in_thread (λ same.
      let one : b ≡ i.behaviour = same_Some b i.behaviour (sym at ∙ (ap (slice_get program) same ∙ i.there)) in
      true_and_false i.behaviour.declared.root i.is_root (ap (λ (x : Behaviour). x.declared.root) (sym one) ∙ no_root)))

  -- a root has its one run
  pub root_runs_once : (root : ℕ) (b : Behaviour) → IsAt program root b → b.declared.root ≡ true → (run : Run) × ((runs_of (history_of program) root ≡ run ∷ []) × IsMain (length program) root run)
  root_runs_once root b at is_root =
      let log = log_of_thread program agree lawful root b at is_root in
      let first : run_at (thread_of program root).runs root 0 ≡ Some log.main = rw log.alone refl in
      (log.main, (all_runs root root b 0 log.main at is_root first ∙ log.alone, log.is_main))

  pub history_length : length (history_of program) ≡ length program
  unfolding history_of
  history_length =
      length-all_joined (λ root. (thread_of program root).runs) (length program) (map (λ _. []) program) (roots_from 0 program)
      (λ k root is. of_root root (from_some_root (λ (r : ℕ). r ∷ []) 0 program k root (rw (themselves (roots_from 0 program)) is)))
      (length-map program (λ (_ : Behaviour). []))
    where
      of_root : (root : ℕ) → IsFrom (λ (r : ℕ). r ∷ []) 0 program root → length (thread_of program root).runs ≡ length program
      of_root root f =
          let one = old_or_added [] (0 + f.at) f.index root f.is in
          let same : 0 + f.at ≡ root = elim one [ inl none ↦ cc | inr added ↦ added.1 ] in
          let at : f.at ≡ root = omega (arith, same) in
          rw (← at) (log_of_thread program agree lawful f.at f.behaviour f.there f.root).all

  -- the root in whose thread a run is
  pub root_of : (k j : ℕ) (run : Run) → run_at (history_of program) k j ≡ Some run → IsRoot program run.root × Reaches program run.root k
  root_of k j run h =
      let i = in_history k j run h in
      let of : IsRoot program i.root = record { behaviour = i.behaviour; there = i.there; root = i.is_root } in
      (subst (IsRoot program) (sym i.logged.root) of, subst (λ root. Reaches program root k) (sym i.logged.root) i.logged.reached)
