-- How a thread that runs comes to what its orders perform.
use Rattle.std.proofs.Common.{◌≡◌, ℕ, zero, suc, ◌+◌, ◌<◌, ◌≤◌, List, [], ◌∷◌, ◌++◌, length, set, get_or, Option, None, Some, true, false, Vec, Global, refl, add-one, ap, sym, subst, ◌∙◌, arith, length-append, append_assoc, append-nil, get_or-set_same}
use Rattle.std.specs.Prelude.{◌-◌, unwrap_or, map}
use Rattle.std.proofs.lemmas.List.{set-set, map-append, map-set, map_push, get_or-map, length-map}
use Rattle.std.proofs.lemmas.Option.{same_Some, slice_get_within}
use Rattle.circus_value.specs.ValueTree.{ValueTree}
use Rattle.circus_value.specs.declared.outcome.Outcome.{Outcome}
use Rattle.circus_value.specs.declared.outcome.Outcome.TheVariants.{Raised}
use Rattle.circus_model.specs.declared.signature.Signature.{Signature}
use Rattle.circus_model.specs.declared.signature.Import.{Import}
use Rattle.circus_model.specs.declared.history.Ask.{Ask}
use Rattle.circus_model.specs.declared.history.Run.{Run}
use Rattle.circus_model.specs.declared.turn.Turn.{Turn}
use Rattle.circus_model.specs.declared.turn.Turn.TheVariants as T
use Rattle.circus_model.specs.declared.alone.Thread.{Thread as Running}
use Rattle.circus_model.specs.declared.alone.Order.{Order as Given}
use Rattle.circus_limits.specs.Limits.{most_asks}
use Rattle.circus_model.specs.Gives.{Gives}
use Rattle.circus_model.specs.NextTurn.{NextTurn, asks, ends}
use Rattle.circus_model.specs.Lawful.{ReplyFits, RepliesFit}
use Rattle.circus_model.specs.Behaviour.{Behaviour, IsModule, behaviours}
use Rattle.circus_model.specs.Agree.{IsAt, AreModules, Agree}
use Rattle.circus_model.specs.Execution.{Thread, Order, Performed, Finished, store_state, count_call, is_spent, reply_to_ask, turns_of, next_order, ask_of, replies_of, new_thread, main_order, thread_of, join_runs, run_after_turn, performed_on, record_run, perform}
use Rattle.circus_model.specs.Seen.Ready.{IsThread, IsOrder}
use Rattle.circus_model.specs.Seen.Threads.{states_of, thread_seen, order_given, HasPerformed, HasAnswered}
use Rattle.circus_model.proofs.Turning.{turns, IsUnderWay, calling, begins, stored_thread}
use Rattle.circus_model.proofs.Going.{IsKept, refusal, asked, perform_leaves, turns_are}

-- ---- the states that are kept

-- a state that is put in the place of another
pub states-set : (program : List Behaviour) (states : List (Option (List ValueTree))) (place : ℕ) (b : Behaviour) (state : Option (List ValueTree)) → IsAt program place b → states_of program (set states place state) ≡ set (states_of program states) place (unwrap_or state b.first)
states-set [] states place b state at = cc
states-set (d ∷ program) [] place b state at = refl
states-set (d ∷ program) (s ∷ states) zero b state at = cc
states-set (d ∷ program) (s ∷ states) (suc place) b state at =
    ap (λ rest. unwrap_or s d.first ∷ rest) (states-set program states place b state at)

-- the state at a place
pub state-at : (program : List Behaviour) (states : List (Option (List ValueTree))) (place : ℕ) (b : Behaviour) → IsAt program place b → place < length states → get_or (states_of program states) place [] ≡ unwrap_or (get_or states place None) b.first
state-at [] states place b at within = cc
state-at (d ∷ program) [] place b at within = absurd (omega (arith, within))
state-at (d ∷ program) (s ∷ states) zero b at within = cc
state-at (d ∷ program) (s ∷ states) (suc place) b at within = state-at program states place b at (omega (arith, within))

-- a state is seen for each that is kept, at most
pub states-length : (program : List Behaviour) (states : List (Option (List ValueTree))) → length (states_of program states) ≤ length states
states-length [] states = omega arith
states-length (d ∷ program) [] = omega arith
states-length (d ∷ program) (s ∷ states) = omega (arith, states-length program states)

-- ---- the modules

module _ {M : Type 0} (declared : M → Signature) (turn : M → List ValueTree → ℕ → List ValueTree → List Outcome → NextTurn) (first : M → List ValueTree) where
  -- what one module does
  abbrev pub behaviour : M → Behaviour
  behaviour m = record { declared = declared m; turn = turn m; first = first m }

  pub module_at : (modules : List M) (place : ℕ) (m : M) → place < length modules → m ≡ get_or modules place m → IsAt (behaviours declared turn first modules) place (behaviour m)
  module_at [] place m within is = absurd (omega (arith, within))
  module_at (d ∷ modules) zero m within is = ap (λ x. Some (behaviour x)) (sym is)
  module_at (d ∷ modules) (suc place) m within is = module_at modules place m (omega (arith, within)) is

  pub are_modules : (modules : List M) → ((m : M) → IsModule (behaviour m)) → AreModules (behaviours declared turn first modules)
  are_modules [] each place b at = cc
  are_modules (m ∷ modules) each zero b at = subst IsModule (same_Some (behaviour m) b at) (each m)
  are_modules (m ∷ modules) each (suc place) b at = are_modules modules each place b at

-- ---- replies

-- the last reply fits the ask that those before it give
last_fits : (imports : List Import) (turn : List Outcome → NextTurn) (before replies : List Outcome) (reply : Outcome) → RepliesFit imports turn before (replies ++ reply ∷ []) → ReplyFits imports (turn (before ++ replies)) reply
last_fits imports turn before [] reply h = rw (append-nil before) h.0
last_fits imports turn before (r ∷ replies) reply h =
    rw (← append_assoc before (r ∷ []) replies) (last_fits imports turn (before ++ r ∷ []) replies reply h.1)

-- a state that is stored at once isn't read before
restored : (call : Thread → Order → Performed) (o : Order) (go_on : List Ask → Thread → Finished) (made : List Ask) (t : Thread) (x : List ValueTree) (next : NextTurn) → run_after_turn call o go_on made (store_state t o.callee x) next ≡ run_after_turn call o go_on made t next
restored call o go_on made t x (ends outcome v) = rw set-set
restored call o go_on made t x (asks c q a v) = rw set-set

-- the first turn of a run is the same after a state was stored
first_same : (call : Thread → Order → Performed) (o : Order) (turn : List Outcome → NextTurn) (t u : Thread) (x : List ValueTree) (n left : ℕ) → left ≡ n + 1 → u ≡ store_state t o.callee x → performed_on call o turn (n + 1) [] t ≡ performed_on call o turn left [] u
unfolding performed_on
first_same call o turn t u x n zero count is = absurd (omega (arith, count))
first_same call o turn t u x n (suc left) count is =
    let all : n ≡ left = omega (arith, count) in
    rw (all, add-one, is) (sym (restored call o (performed_on call o turn left) [] t x (turn [])))

-- a run with a turn left takes it
one_turn : (call : Thread → Order → Performed) (o : Order) (turn : List Outcome → NextTurn) (left : ℕ) (made : List Ask) (t : Thread) → performed_on call o turn (suc left) made t ≡ run_after_turn call o (performed_on call o turn left) made t (turn (replies_of made))
unfolding performed_on
one_turn call o turn left made t = refl

one_deeper : (program : List Behaviour) (depth : ℕ) (t : Thread) (o : Order) → perform program (suc depth) t o ≡ record_run o t (performed_on (perform program depth) o (turns_of program t o) (most_asks + 1) [] t)
unfolding perform
one_deeper program depth t o = refl

-- a call is refused where the thread is spent, and is else counted and performed
pub answered_spent : (call : Thread → Order → Performed) (t : Thread) (o : Order) → is_spent t.clock ≡ true → reply_to_ask call t o ≡ refusal t
unfolding reply_to_ask
answered_spent call t o spent = rw spent

pub answered_unspent : (call : Thread → Order → Performed) (t : Thread) (o : Order) → is_spent t.clock ≡ false → reply_to_ask call t o ≡ call (count_call t o.callee) o
unfolding reply_to_ask
answered_unspent call t o unspent = rw unspent

-- ---- threads that run

pub there : {M : Type 0} (declared : M → Signature) (turn : M → List ValueTree → ℕ → List ValueTree → List Outcome → NextTurn) (first : M → List ValueTree) (modules : List M) (o : Order) (m : M) → IsOrder (behaviours declared turn first modules) o → m ≡ get_or modules o.callee m → IsAt (behaviours declared turn first modules) o.callee (behaviour declared turn first m)
there declared turn first modules o m order is =
    let below : o.callee < length (behaviours declared turn first modules) = slice_get_within (behaviours declared turn first modules) o.callee order.ordered order.there in
    let within : o.callee < length modules = rw (length-map modules _) at below in
    module_at declared turn first modules o.callee m within is

-- each module's state and runs are kept
pub room : (program : List Behaviour) (t : Running) (place : ℕ) (b : Behaviour) → IsThread program (thread_seen program t) → IsAt program place b → (place < length t.states.items) × (place < length t.runs.items)
room program t place b thread at =
    let within = slice_get_within program place b at in (
      omega (arith, within, thread.store_length, states-length program t.states.items),
      omega (arith, within, thread.runs_length, length-map t.runs.items (λ (runs : Vec Run Global). runs.items)),
    )

-- what keeping a state, or taking it, comes to
pub kept_so : (program : List Behaviour) (t u : Running) (place : ℕ) (b : Behaviour) (state : Option (List ValueTree)) → IsAt program place b → u.states.items ≡ set t.states.items place state → u.clock ≡ t.clock → u.runs ≡ t.runs → thread_seen program u ≡ store_state (thread_seen program t) place (unwrap_or state b.first)
kept_so program t u place b state at states clock runs =
    let store = ap (states_of program) states ∙ states-set program t.states.items place b state at in
    cc (store, clock, ap (λ (r : Vec (Vec Run Global) Global). map (λ runs. runs.items) r.items) runs)

-- the run of an order that began on one thread has made these asks and left another, from which it goes on as from its beginning
pub record IsOn (program : List Behaviour) (o : Order) (b : Behaviour) (t : Thread) (made : List Ask) (u : Thread) : Type 0 where
  pub way : IsUnderWay program o b t made u
  pub same : (depth left : ℕ) → o.callee < suc depth → left + length made ≡ most_asks + 1 → performed_on (perform program depth) o (turns b o t) (most_asks + 1) [] t ≡ performed_on (perform program depth) o (turns b o t) left made u

-- what an ask of the run gives
pub record IsReadyToAsk (program : List Behaviour) (o : Order) (u : Thread) (made : List Ask) (c q : ℕ) (a v : List ValueTree) : Type 0 where
  pub few : length made < most_asks
  pub earlier : c < o.callee
  pub thread : IsThread program (store_state u o.callee v)
  pub order : IsOrder program (next_order o made c q a)

module _ (program : List Behaviour) (agree : Agree program) (lawful : AreModules program) where
  -- nothing more is kept of a thread
  nothing_kept : IsKept program agree lawful (λ _ _ _. Unit {0}) (λ _ _ _ _ _. Unit {0}) (λ _ _ _ _. Unit {0})
  nothing_kept =
      record {
        begin = λ o b t way entered. tt;
        refuse = λ o b t u made c q a v way is call spent opened. tt;
        call = λ o b t u made c q a v d way is call at unspent opened. tt;
        reply = λ o b t u made c q a v d p way is call at unspent opened left performed. tt;
        end = λ o b t u made outcome v way is ending opened. tt;
      }

  pub begins_on : (o : Order) (b : Behaviour) (t u : Thread) → IsThread program t → IsOrder program o → IsAt program o.callee b → u ≡ store_state t o.callee b.first → IsOn program o b t [] u
  begins_on o b t u thread order at is =
      let way = begins program agree lawful o b t thread order at in
      let now : IsThread program u = rw is (stored_thread program t o.callee b b.first thread at (lawful o.callee b at).first_is_state) in
      record {
        way = record { there = way.there; start = way.start; thread = now; replies_fit = way.replies_fit; few = way.few };
        same = λ depth left below count. first_same (perform program depth) o (turns b o t) t u b.first most_asks left (omega (arith, count)) is;
      }

  pub ready_to_ask : (o : Order) (b : Behaviour) (t u : Thread) (made : List Ask) (c q : ℕ) (a v : List ValueTree) → IsOn program o b t made u → turns b o t (replies_of made) ≡ asks c q a v → IsReadyToAsk program o u made c q a v
  ready_to_ask o b t u made c q a v h is =
      let call = calling program agree lawful o b t u made c q a v h.way is in
      record {
        few = call.few;
        earlier = call.earlier;
        thread = stored_thread program u o.callee b v h.way.thread h.way.there call.state;
        order = call.order;
      }

  pub asks_on : (o : Order) (b : Behaviour) (t u w : Thread) (made : List Ask) (c q : ℕ) (a v : List ValueTree) (ask : Ask) → IsOn program o b t made u → turns b o t (replies_of made) ≡ asks c q a v → ((depth : ℕ) → c < depth → reply_to_ask (perform program depth) (store_state u o.callee v) (next_order o made c q a) ≡ record { thread = w; outcome = ask.reply }) → ask ≡ ask_of (next_order o made c q a) v (store_state u o.callee v) (record { thread = w; outcome = ask.reply }) → IsOn program o b t (made ++ ask ∷ []) w
  unfolding performed_on
  asks_on o b t u w made c q a v ask h is answers made_so =
      let call = calling program agree lawful o b t u made c q a v h.way is in
      let on = (asked program agree lawful _ _ _ nothing_kept o.callee (λ t o b below thread order at entered. perform_leaves program agree lawful _ _ _ nothing_kept _ t o b below thread order at entered) o b t (omega arith) u made c q a v h.way is call tt).1 in
      let told = answers o.callee call.earlier in
      record {
        way = rw made_so (rw told at on);
        same = λ depth left below count. h.same depth (suc left) below (omega (arith, count, length-append made (ask ∷ []))) ∙ (rw (is, answers depth (omega (arith, call.earlier, below)), ← made_so) refl);
      }

  pub reply_fits : (o : Order) (b : Behaviour) (t u : Thread) (made : List Ask) (ask : Ask) → IsOn program o b t (made ++ ask ∷ []) u → ReplyFits b.declared.imports (turns b o t (replies_of made)) ask.reply
  reply_fits o b t u made ask h =
      last_fits b.declared.imports (turns b o t) [] (replies_of made) ask.reply (rw (map-append (λ (x : Ask). x.reply) made (ask ∷ [])) at h.way.replies_fit)

  pub ends_on : (o : Order) (b : Behaviour) (t u : Thread) (made : List Ask) (outcome : Outcome) (v : List ValueTree) → IsOn program o b t made u → turns b o t (replies_of made) ≡ ends outcome v → (depth : ℕ) → o.callee < depth → perform program depth t o ≡ record_run o t (record { thread = store_state u o.callee v; made = made; outcome = outcome })
  ends_on o b t u made outcome v h is zero below = absurd (omega (arith, below))
  ends_on o b t u made outcome v h is (suc depth) below =
      let left = most_asks - length made in
      let count : suc left + length made ≡ most_asks + 1 = omega (arith, h.way.few) in
      one_deeper program depth t o
      ∙ ap (λ (turn : List Outcome → NextTurn). record_run o t (performed_on (perform program depth) o turn (most_asks + 1) [] t)) (turns_are program o b t h.way.there)
      ∙ ap (record_run o t) (h.same depth (suc left) below count ∙ one_turn (perform program depth) o (turns b o t) left made u ∙ ap (run_after_turn (perform program depth) o (performed_on (perform program depth) o (turns b o t) left) made u) is)

-- ---- asks and answers of threads that run

pub gives_asks : {P : Type 0} (Stands : P → Type 0) (next : NextTurn) (turn : Turn P) (c q : ℕ) (a v : List ValueTree) (p : P) → Gives Stands next turn → turn ≡ T.Asks c q a v p → (next ≡ asks c q a v) × Stands p
gives_asks Stands next turn c q a v p gives is = subst (Gives Stands next) is gives

pub gives_ends : {P : Type 0} (Stands : P → Type 0) (next : NextTurn) (turn : Turn P) (outcome : Outcome) (v : List ValueTree) → Gives Stands next turn → turn ≡ T.Ends outcome v → next ≡ ends outcome v
gives_ends Stands next turn outcome v gives is = subst (Gives Stands next) is gives

pub asked_so : (o asked : Given) (made : List Ask) (n c q : ℕ) (a : List ValueTree) → asked ≡ record { root = o.root; path = o.path ++ n ∷ []; callee = c; procedure = q; arguments = a } → n ≡ length made → order_given asked ≡ next_order (order_given o) made c q a
asked_so o asked made n c q a is count = ap order_given is ∙ ap (λ (k : ℕ). next_order_by o k c q a) count
  where
    next_order_by : Given → ℕ → ℕ → ℕ → List ValueTree → Order
    next_order_by o k c q a = record { root = o.root; path = o.path ++ k ∷ []; callee = c; procedure = q; arguments = a }

pub refused_so : (program : List Behaviour) (t after : Running) (o : Given) (state : List ValueTree) (index : ℕ) (arguments given : List ValueTree) (reply : Outcome) (clock : List ℕ) → is_spent t.clock ≡ true → after ≡ t → index ≡ get_or t.clock o.callee 0 → arguments ≡ o.arguments → given ≡ state → reply ≡ Raised 60007 [] → clock ≡ after.clock → HasAnswered program t o state after (record { callee = o.callee; index = index; procedure = o.procedure; arguments = arguments; state = given; reply = reply; after = clock })
refused_so program t after o state index arguments given reply clock spent same at arguments_so given_so reply_so clock_so =
    record {
      reply = λ depth below. answered_spent (perform program depth) (thread_seen program t) (order_given o) spent ∙ cc (ap (thread_seen program) same, reply_so);
      made = cc (at, arguments_so, given_so, clock_so);
    }

pub performed_so : (program : List Behaviour) (t entered left after : Running) (o : Given) (state : List ValueTree) (index : ℕ) (arguments given : List ValueTree) (outcome reply : Outcome) (clock : List ℕ) → is_spent t.clock ≡ false → thread_seen program entered ≡ count_call (thread_seen program t) o.callee → HasPerformed program entered o left outcome → after ≡ left → reply ≡ outcome → index ≡ get_or t.clock o.callee 0 → arguments ≡ o.arguments → given ≡ state → clock ≡ after.clock → HasAnswered program t o state after (record { callee = o.callee; index = index; procedure = o.procedure; arguments = arguments; state = given; reply = reply; after = clock })
performed_so program t entered left after o state index arguments given outcome reply clock unspent counts performed after_so reply_so at arguments_so given_so clock_so =
    record {
      reply = λ depth below. answered_unspent (perform program depth) (thread_seen program t) (order_given o) unspent ∙ ap (λ (x : Thread). perform program depth x (order_given o)) (sym counts) ∙ performed depth below ∙ cc (ap (thread_seen program) after_so, reply_so);
      made = cc (at, arguments_so, given_so, clock_so);
    }

pub counted_so : (program : List Behaviour) (t : Running) (place k n : ℕ) (clock : List ℕ) → clock ≡ set t.clock k n → k ≡ place → n ≡ get_or t.clock place 0 + 1 → thread_seen program (record { states = t.states; clock = clock; runs = t.runs }) ≡ count_call (thread_seen program t) place
counted_so program t place k n clock is at count = cc (is, at, count)

-- what answers an ask, said of the thread and the order as they are seen
pub answered_on : (program : List Behaviour) (before after : Running) (o : Given) (v : List ValueTree) (ask : Ask) (u : Thread) (seen_so : Order) → HasAnswered program before o v after ask → thread_seen program before ≡ u → order_given o ≡ seen_so → ((depth : ℕ) → seen_so.callee < depth → reply_to_ask (perform program depth) u seen_so ≡ record { thread = thread_seen program after; outcome = ask.reply }) × (ask ≡ ask_of seen_so v u (record { thread = thread_seen program after; outcome = ask.reply }))
answered_on program before after o v ask u seen_so h is so =
    subst (λ (x : Thread). ((depth : ℕ) → seen_so.callee < depth → reply_to_ask (perform program depth) x seen_so ≡ record { thread = thread_seen program after; outcome = ask.reply }) × (ask ≡ ask_of seen_so v x (record { thread = thread_seen program after; outcome = ask.reply }))) is
    (subst (λ (y : Order). ((depth : ℕ) → y.callee < depth → reply_to_ask (perform program depth) (thread_seen program before) y ≡ record { thread = thread_seen program after; outcome = ask.reply }) × (ask ≡ ask_of y v (thread_seen program before) (record { thread = thread_seen program after; outcome = ask.reply }))) so (h.reply, h.made))

pub noted_so : (program : List Behaviour) (t u : Running) (o : Given) (b : Behaviour) (begun : Thread) (made : List Ask) (outcome : Outcome) (v : List ValueTree) (path entry end : List ℕ) (arguments : List ValueTree) (asked : List Ask) (ended reply : Outcome) (after : List ValueTree) → IsAt program o.callee b → IsThread program (thread_seen program t) → u.states.items ≡ set t.states.items o.callee (Some after) → u.clock ≡ t.clock → map (λ runs. runs.items) u.runs.items ≡ set (map (λ runs. runs.items) t.runs.items) o.callee (get_or (map (λ runs. runs.items) t.runs.items) o.callee [] ++ record { path = path; root = o.root; procedure = o.procedure; arguments = arguments; entry = entry; asks = asked; outcome = ended; state = after; end = end } ∷ []) → path ≡ o.path → arguments ≡ o.arguments → asked ≡ made → entry ≡ begun.clock → end ≡ t.clock → ended ≡ outcome → after ≡ v → reply ≡ outcome → record_run (order_given o) begun (record { thread = store_state (thread_seen program t) o.callee v; made = made; outcome = outcome }) ≡ record { thread = thread_seen program u; outcome = reply }
noted_so program t u o b begun made outcome v path entry end arguments asked ended reply after at thread states clock runs path_so arguments_so asked_so entry_so end_so ended_so after_so reply_so =
    let within : o.callee < length (states_of program t.states.items) = omega (arith, thread.store_length, slice_get_within program o.callee b at) in
    let store = ap (states_of program) states ∙ states-set program t.states.items o.callee b (Some after) at in
    let left : get_or (set (states_of program t.states.items) o.callee v) o.callee [] ≡ v = get_or-set_same (states_of program t.states.items) o.callee v [] within in
    cc (store, left, clock, runs, path_so, arguments_so, asked_so, entry_so, end_so, ended_so, after_so, reply_so)

-- ---- a thread that begins

pub fresh_so : {M : Type 0} (declared : M → Signature) (turn : M → List ValueTree → ℕ → List ValueTree → List Outcome → NextTurn) (first : M → List ValueTree) (modules : List M) (t : Running) → t.states.items ≡ map (λ _. None) modules → t.clock ≡ map (λ _. 0) modules → map (λ runs. runs.items) t.runs.items ≡ map (λ _. []) modules → thread_seen (behaviours declared turn first modules) t ≡ new_thread (behaviours declared turn first modules)
fresh_so {M = M} declared turn first modules t states clock runs =
    let store : states_of (behaviours declared turn first modules) t.states.items ≡ map (λ (b : Behaviour). b.first) (behaviours declared turn first modules) = ap (states_of (behaviours declared turn first modules)) states ∙ all modules in
    let clocks : t.clock ≡ map (λ (_ : Behaviour). 0) (behaviours declared turn first modules) = clock ∙ same modules 0 in
    let logs : map (λ runs. runs.items) t.runs.items ≡ map (λ (_ : Behaviour). []) (behaviours declared turn first modules) = runs ∙ same modules [] in
    cc (store, clocks, logs)
  where
    same : {X : Type 0} (ms : List M) (x : X) → map (λ (_ : M). x) ms ≡ map (λ (_ : Behaviour). x) (behaviours declared turn first ms)
    same [] x = refl
    same (m ∷ ms) x = ap (λ rest. x ∷ rest) (same ms x)

    all : (ms : List M) → states_of (behaviours declared turn first ms) (map (λ _. None) ms) ≡ map (λ (b : Behaviour). b.first) (behaviours declared turn first ms)
    all [] = refl
    all (m ∷ ms) = ap (λ rest. first m ∷ rest) (all ms)

-- a root's thread has performed its first call
pub root_runs : (program : List Behaviour) (t u : Running) (path : List ℕ) (root : ℕ) (arguments : List ValueTree) {outcome : Outcome} → HasPerformed program t (record { root = root; path = path; callee = root; procedure = 0; arguments = arguments }) u outcome → thread_seen program t ≡ new_thread program → path ≡ [] → arguments ≡ [] → root < length program → map (λ runs. runs.items) u.runs.items ≡ (thread_of program root).runs
unfolding thread_of
root_runs program t u path root arguments performed is path_so arguments_so below =
    let order : order_given (record { root = root; path = path; callee = root; procedure = 0; arguments = arguments }) ≡ main_order root = cc (path_so, arguments_so) in
    ap (λ (p : Performed). p.thread.runs) (sym (performed (length program) below))
    ∙ ap (λ (x : Thread). (perform program (length program) x (order_given (record { root = root; path = path; callee = root; procedure = 0; arguments = arguments }))).thread.runs) is
    ∙ ap (λ (x : Order). (perform program (length program) (new_thread program) x).thread.runs) order

-- ---- the runs of all roots

pub joined-nothing : (runs : List (List Run)) → join_runs runs [] ≡ runs
joined-nothing [] = refl
joined-nothing (r ∷ runs) = refl

-- the last module's runs may be put behind the others first
pub joined-last : (runs others : List (List Run)) (more : List Run) → length others < length runs → join_runs runs (others ++ more ∷ []) ≡ join_runs (set runs (length others) (get_or runs (length others) [] ++ more)) others
joined-last [] others more h = absurd (omega (arith, h))
joined-last (r ∷ runs) [] more h = ap (λ rest. (r ++ more) ∷ rest) (joined-nothing runs)
joined-last (r ∷ runs) (o ∷ others) more h = ap (λ rest. (r ++ o) ∷ rest) (joined-last runs others more (omega (arith, h)))

pub join-step : (history all : List (Vec Run Global)) (more old after : Vec Run Global) (place : ℕ) → place ≡ length all → place < length history → old ≡ get_or history place old → after.items ≡ old.items ++ more.items → join_runs (map (λ runs. runs.items) (set history place after)) (map (λ runs. runs.items) all) ≡ join_runs (map (λ runs. runs.items) history) (map (λ runs. runs.items) (all ++ more ∷ []))
join-step history all more old after place is within there grown =
    let f : Vec Run Global → List Run = λ runs. runs.items in
    let changed = map-set f history place after in
    let before = get_or-map f history place old [] within in
    let pushed = map_push f all more in
    let so : place ≡ length (map f all) = is ∙ sym (length-map all f) in
    let room : length (map f all) < length (map f history) = omega (arith, within, so, length-map history f) in
    let last = joined-last (map f history) (map f all) more.items room in
    cc (changed, before, pushed, so, last, there, grown)
