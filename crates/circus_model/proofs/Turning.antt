-- What a turn of a run that is under way comes to, where modules agree and keep to their laws.
use Rattle.std.proofs.Common.{◌≡◌, ℕ, ◌<◌, ◌≤◌, Bool, true, false, List, [], ◌∷◌, ◌++◌, length, set, get_or, Option, Some, None, refl, sym, subst, ◌∙◌, ◌⊎◌, ◌≢◌, inl, inr, arith, length-set, length-append, eqb, zero-le, append_assoc, append-nil, get_or-set_same, get_or-set_other}
use Rattle.std.specs.Prelude.{◌||◌, Contains, slice_index_or}
use Rattle.std.specs.Option.{option_map_or}
use Rattle.std.proofs.lemmas.Bool.{cases_eq, eqb-true}
use Rattle.std.proofs.lemmas.List.{length-map, map-append}
use Rattle.std.proofs.lemmas.Option.{same_Some, slice_get_within}
use Rattle.circus_value.specs.ValueTree.{ValueTree}
use Rattle.circus_value.specs.Fits.{all_fit}
use Rattle.circus_model.specs.LanguageError.{number_of}
use Rattle.circus_model.specs.declared.language_error.LanguageError.TheVariants.{ThreadSpent}
use Rattle.circus_value.specs.declared.outcome.Outcome.{Outcome}
use Rattle.circus_value.specs.declared.outcome.Outcome.TheVariants.{Raised}
use Rattle.circus_model.specs.declared.signature.Import.{Import}
use Rattle.circus_model.specs.declared.signature.ProcedureShape.{ProcedureShape}
use Rattle.circus_model.specs.declared.history.Ask.{Ask}
use Rattle.circus_model.specs.declared.history.Run.{Run}
use Rattle.circus_limits.specs.Limits.{most_asks}
use Rattle.circus_model.specs.NextTurn.{NextTurn, asks, ends}
use Rattle.circus_model.specs.Lawful.{IsState, CanStart, ReplyFits, RepliesFit, IsLawful, procedure_numbered, import_of, arguments_fit, import_answers, outcome_fits, is_reported}
use Rattle.circus_model.specs.Behaviour.{Behaviour}
use Rattle.circus_model.specs.Agree.{IsAt, AreModules, Agree}
use Rattle.circus_model.specs.Execution.{Thread, Order, Performed, store_state, count_call, note_run, next_order, replies_of, record_run}
use Rattle.circus_model.specs.Seen.Ready.{IsThread, IsOrder}
use Rattle.circus_model.proofs.Lookups.{found}

-- the turns of an ordered call
abbrev pub turns : Behaviour → Order → Thread → List Outcome → NextTurn
turns b o t = b.turn (slice_index_or t.store o.callee []) o.procedure o.arguments

-- a procedure may end so
abbrev pub Fits : Behaviour → ℕ → Outcome → Type 0
Fits b procedure outcome = option_map_or (λ p. outcome_fits p outcome) (procedure_numbered procedure b.declared.procedures) false ≡ true

-- the run of an order that began on one thread has made these asks and left another
pub record IsUnderWay (program : List Behaviour) (o : Order) (b : Behaviour) (t : Thread) (made : List Ask) (u : Thread) : Type 0 where
  pub there : IsAt program o.callee b
  pub start : CanStart b.declared (slice_index_or t.store o.callee []) o.procedure o.arguments
  pub thread : IsThread program u
  pub replies_fit : RepliesFit b.declared.imports (turns b o t) [] (replies_of made)
  pub few : length made ≤ most_asks

-- the run asks a module, its callee
pub record IsCalling (program : List Behaviour) (o : Order) (b : Behaviour) (made : List Ask) (c q : ℕ) (a v : List ValueTree) : Type 0 where
  pub few : length made < most_asks
  pub state : IsState b.declared v
  pub import : Import
  pub imported : Contains b.declared.imports import
  pub names : import.«module» ≡ c
  pub callee : Behaviour
  pub there : IsAt program c callee
  pub earlier : c < o.callee
  pub no_root : callee.declared.root ≡ false
  pub order : IsOrder program (next_order o made c q a)
  pub answers : (outcome : Outcome) → Fits callee q outcome → import_answers b.declared.imports c q outcome ≡ true
  pub declared : (p : ProcedureShape) × (procedure_numbered q callee.declared.procedures ≡ Some p)

-- the run ends
pub record IsEnding (b : Behaviour) (o : Order) (outcome : Outcome) (v : List ValueTree) : Type 0 where
  pub state : IsState b.declared v
  pub fits : Fits b o.procedure outcome

-- what an ordered call leaves
pub record IsPerformed (program : List Behaviour) (b : Behaviour) (procedure : ℕ) (p : Performed) : Type 0 where
  pub thread : IsThread program p.thread
  pub fits : Fits b procedure p.outcome

-- ---- threads that change

-- the module at a place is one
same_module : (program : List Behaviour) (place : ℕ) (b d : Behaviour) → IsAt program place b → IsAt program place d → b ≡ d
same_module program place b d one other = same_Some b d (sym one ∙ other)

-- a state in the store, after another one was stored at a place
stored_state : (program : List Behaviour) (store : List (List ValueTree)) (place : ℕ) (b : Behaviour) (v : List ValueTree) → place < length store → IsAt program place b → IsState b.declared v → ((k : ℕ) (d : Behaviour) → IsAt program k d → IsState d.declared (get_or store k [])) → (k : ℕ) (d : Behaviour) → IsAt program k d → (k ≡ place) ⊎ (k ≢ place) → IsState d.declared (get_or (set store place v) k [])
stored_state program store place b v within there state others k d at (inl same) =
    let is : b ≡ d = same_module program k b d (rw same there) at in
    let stands : get_or (set store place v) k [] ≡ v = rw (same, get_or-set_same store place v [] within) in
    rw (stands, ← is) state
stored_state program store place b v within there state others k d at (inr other) =
    rw (get_or-set_other store place k v [] other) (others k d at)

pub stored_thread : (program : List Behaviour) (t : Thread) (place : ℕ) (b : Behaviour) (v : List ValueTree) → IsThread program t → IsAt program place b → IsState b.declared v → IsThread program (store_state t place v)
stored_thread program t place b v h there state =
    let within : place < length t.store = rw h.store_length (slice_get_within program place b there) in
    record {
      store_length = length-set t.store place v ∙ h.store_length;
      clock_length = h.clock_length;
      runs_length = h.runs_length;
      states = λ k d at. stored_state program t.store place b v within there state h.states k d at (cases_eq k place);
    }

pub counted_thread : (program : List Behaviour) (t : Thread) (place : ℕ) → IsThread program t → IsThread program (count_call t place)
counted_thread program t place h =
    record {
      store_length = h.store_length;
      clock_length = length-set t.clock place _ ∙ h.clock_length;
      runs_length = h.runs_length;
      states = h.states;
    }

pub noted_thread : (program : List Behaviour) (t : Thread) (place : ℕ) (run : Run) → IsThread program t → IsThread program (note_run t place run)
noted_thread program t place run h =
    record {
      store_length = h.store_length;
      clock_length = h.clock_length;
      runs_length = length-set t.runs place _ ∙ h.runs_length;
      states = h.states;
    }

-- ---- turns

-- what is true of something that may be there is true of what is there
pub record IsSomeTrue {X : Type 0} (test : X → Bool) (o : Option X) : Type 0 where
  pub value : X
  pub there : o ≡ Some value
  pub passes : test value ≡ true

pub some_true : {X : Type 0} (test : X → Bool) (o : Option X) → option_map_or test o false ≡ true → IsSomeTrue test o
some_true test None h = cc
some_true test (Some x) h = record { value = x; there = refl; passes = h }

-- one reply more fits where it fits the ask that those before give
pub fits_more : (imports : List Import) (turn : List Outcome → NextTurn) (before replies : List Outcome) (reply : Outcome) → RepliesFit imports turn before replies → ReplyFits imports (turn (before ++ replies)) reply → RepliesFit imports turn before (replies ++ reply ∷ [])
fits_more imports turn before [] reply h fits = (rw (← append-nil before) fits, tt)
fits_more imports turn before (r ∷ replies) reply h fits =
    (h.0, fits_more imports turn (before ++ r ∷ []) replies reply h.1 (rw (append_assoc before (r ∷ []) replies) fits))

module _ (program : List Behaviour) (agree : Agree program) (lawful : AreModules program) where
  -- a turn after so many replies is lawful
  turn_is_lawful : (o : Order) (b : Behaviour) (t u : Thread) (made : List Ask) (next : NextTurn) → IsUnderWay program o b t made u → turns b o t (replies_of made) ≡ next → IsLawful b.declared o.procedure (length made) next
  turn_is_lawful o b t u made next h is =
      let law = (lawful o.callee b h.there).turns_are_lawful (get_or t.store o.callee []) o.procedure o.arguments (replies_of made) h.start h.replies_fit in
      let so = rw is at law in
      rw (← length-map made (λ (ask : Ask). ask.reply)) so

  pub calling : (o : Order) (b : Behaviour) (t u : Thread) (made : List Ask) (c q : ℕ) (a v : List ValueTree) → IsUnderWay program o b t made u → turns b o t (replies_of made) ≡ asks c q a v → IsCalling program o b made c q a v
  calling o b t u made c q a v h is =
      let law = turn_is_lawful o b t u made (asks c q a v) h is in
      let taken = some_true (λ (i : Import). arguments_fit i.procedures q a) (import_of c b.declared.imports) law.0.fit in
      let of = found (λ (i : Import). eqb i.«module» c) b.declared.imports taken.value taken.there in
      let earlier = agree.imports o.callee b taken.value h.there of.among in
      let names : taken.value.«module» ≡ c = eqb-true taken.value.«module» c of.passes in
      let fit : arguments_fit earlier.imported.declared.procedures q a ≡ true = rw (← earlier.procedures) taken.passes in
      let there : IsAt program c earlier.imported = subst (λ x. IsAt program x earlier.imported) names earlier.there in
      let declared = some_true (λ (p : ProcedureShape). all_fit p.arguments a) (procedure_numbered q earlier.imported.declared.procedures) fit in
      record {
        few = law.0.few;
        state = law.1;
        import = taken.value;
        imported = of.among;
        names = names;
        callee = earlier.imported;
        there = there;
        earlier = rw (← names) earlier.earlier;
        no_root = earlier.no_root;
        order = record {
          ordered = earlier.imported;
          there = there;
          fit = fit;
          within = omega (arith, law.0.within, agree.limits o.callee b h.there);
        };
        answers = λ outcome fits. rw taken.there (rw earlier.procedures fits);
        declared = (declared.value, declared.there);
      }

  pub ending : (o : Order) (b : Behaviour) (t u : Thread) (made : List Ask) (outcome : Outcome) (v : List ValueTree) → IsUnderWay program o b t made u → turns b o t (replies_of made) ≡ ends outcome v → IsEnding b o outcome v
  ending o b t u made outcome v h is =
      let law = turn_is_lawful o b t u made (ends outcome v) h is in
      record { state = law.1; fits = law.0.fits }

  -- ---- the run goes on

  -- a thread that performs an order begins a run
  pub begins : (o : Order) (b : Behaviour) (t : Thread) → IsThread program t → IsOrder program o → IsAt program o.callee b → IsUnderWay program o b t [] t
  begins o b t thread order there =
      let same : order.ordered ≡ b = same_Some order.ordered b (sym order.there ∙ there) in
      record {
        there = there;
        start = record {
          from_state = thread.states o.callee b there;
          fit = rw (← same) order.fit;
          within = order.within;
        };
        thread = thread;
        replies_fit = tt;
        few = zero-le;
      }

  -- with an ask more, whose reply fits
  pub goes_on : (o : Order) (b : Behaviour) (t u w : Thread) (made : List Ask) (c q : ℕ) (a v : List ValueTree) (ask : Ask) → IsUnderWay program o b t made u → turns b o t (replies_of made) ≡ asks c q a v → length made < most_asks → IsThread program w → import_answers b.declared.imports c q ask.reply ≡ true → IsUnderWay program o b t (made ++ ask ∷ []) w
  goes_on o b t u w made c q a v ask h is few thread answers =
      let fits : ReplyFits b.declared.imports (turns b o t (replies_of made)) ask.reply = rw is answers in
      record {
        there = h.there;
        start = h.start;
        thread = thread;
        replies_fit = rw (map-append (λ (x : Ask). x.reply) made (ask ∷ [])) (fits_more b.declared.imports (turns b o t) [] (replies_of made) ask.reply h.replies_fit fits);
        few = rw (length-append made (ask ∷ [])) (omega (arith, few));
      }

  -- and ends
  pub ends_so : (o : Order) (b : Behaviour) (t u : Thread) (made : List Ask) (outcome : Outcome) (v : List ValueTree) → IsUnderWay program o b t made u → IsEnding b o outcome v → IsPerformed program b o.procedure (record_run o t (record { thread = store_state u o.callee v; made = made; outcome = outcome }))
  ends_so o b t u made outcome v h ending =
      record {
        thread = noted_thread program (store_state u o.callee v) o.callee _ (stored_thread program u o.callee b v h.thread h.there ending.state);
        fits = ending.fits;
      }

-- a thread that is spent answers as any procedure may
pub refusal_fits : (b : Behaviour) (q : ℕ) (p : ProcedureShape) → procedure_numbered q b.declared.procedures ≡ Some p → Fits b q (Raised (number_of ThreadSpent) [])
refusal_fits b q p is = rw is (or_true (is_reported p.errors (number_of ThreadSpent) []))
  where
    or_true : (x : Bool) → (x || true) ≡ true
    or_true true = refl
    or_true false = refl
