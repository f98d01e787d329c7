-- A record that is read could go on behind each of its lines.
use Rattle.std.specs.List.{AllByRecursion, list_all, list_any}
use Rattle.std.specs.Option.{option_map_or}
use Rattle.std.specs.Prelude.{is_some, option_and_then}
use Rattle.std.proofs.Common.{◌≡◌, ◌∙◌, ℕ, zero, suc, ◌+◌, ◌-◌, ◌<◌, ◌≤◌, ◌⊎◌, Bool, true, false, cond, not, ◌&&◌, ◌||◌, nat_eq, nat_lt, nat_le, inl, inr, List, [], ◌∷◌, ◌++◌, length, slice_get, Option, Some, None, refl, sym, ap, subst, arith, length-append, eq-eqb, le-leb, ltb-false, find}
use Rattle.std.proofs.lemmas.Bool.{eqb-true, leb-true, leb-false, ltb-true, eqb-false}
use Rattle.circus_model.specs.Lawful.{procedure_numbered, import_of}
use Rattle.circus_model.specs.declared.signature.Import.{Import}
use Rattle.circus_model.specs.declared.signature.ProcedureShape.{ProcedureShape}
use Rattle.circus_model.specs.declared.signature.Signature.{Signature}
use Rattle.circus_record.specs.declared.record.AskRecord.{AskRecord}
use Rattle.circus_record.specs.declared.record.RunRecord.{RunRecord}
use Rattle.circus_record.specs.declared.record.MemberRecord.{MemberRecord}
use Rattle.circus_member_rules.specs.declared.occurrence.Difference.{Difference}
use Rattle.circus_performing.specs.Performing.{last_count}
use Rattle.circus_performing.specs.Record.{count_after}
use Rattle.circus_config.specs.declared.plan.Plan.{Plan}
use Rattle.circus_audit.specs.declared.noted.Differing.{Differing}
use Rattle.circus_audit.specs.declared.performed.Current.{Current}
use Rattle.circus_audit.specs.declared.performed.Current.TheVariants.{Nothing, Run, Ask}
use Rattle.circus_audit.specs.declared.performed.Performed.{Performed}
use Rattle.circus_audit.specs.Seen.Answers.{from_some}
use Rattle.circus_audit.specs.Seen.Differing.{ask_named, by_procedure, by_ask, difference_read, replies_read}
use Rattle.circus_audit.specs.Seen.Reading.{has_root, node_names}
use Rattle.circus_audit.specs.Seen.Values.{procedure_of_import}
use Rattle.circus_audit.specs.Seen.Outlook.{can_run, any_asks, may_end, may_run, names, is_within, all_within, is_asked, all_asked, is_named, all_named, may_answer, answers_if, all_answer, some_procedure, some_import, suits, may_have_ended, ended_well, rests_well, performs_well, performs, can_come}
use Rattle.circus_audit.proofs.Opening.{from_is, only_is}

-- ---- lists

pub each_passes : {X : Type 0} (test : X → Bool) (P : X → Type 0) (xs : List X) → ((x : X) → P x → test x ≡ true) → AllByRecursion P xs → list_all test xs ≡ true
each_passes test P [] passes all = refl
each_passes test P (x ∷ xs) passes all = ap (λ t. t && list_all test xs) (passes x all.0) ∙ each_passes test P xs passes all.1

pub either_left : (a b : Bool) → a ≡ true → (a || b) ≡ true
either_left true b is = refl
either_left false b is = cc

pub either_right : (a b : Bool) → b ≡ true → (a || b) ≡ true
either_right true b is = refl
either_right false b is = is

-- what is found passes, so one passes
pub one_passes : {X : Type 0} (test passes : X → Bool) (xs : List X) (x : X) → find test xs ≡ Some x → passes x ≡ true → list_any passes xs ≡ true
one_passes test passes [] x is good = cc
one_passes test passes (y ∷ ys) x is good = by_test (test y) (λ read. one_passes test passes ys x read good) is
  where
    by_test : (b : Bool) → (find test ys ≡ Some x → list_any passes ys ≡ true) → cond b (Some y) (find test ys) ≡ Some x → (passes y || list_any passes ys) ≡ true
    by_test true later read =
        let same : y ≡ x = cc in
        either_left (passes y) (list_any passes ys) (ap passes same ∙ good)
    by_test false later read = either_right (passes y) (list_any passes ys) (later read)

found_passes : {X : Type 0} (test : X → Bool) (xs : List X) (x : X) → find test xs ≡ Some x → test x ≡ true
found_passes test [] x is = cc
found_passes test (y ∷ ys) x is = by_test (test y) refl (λ read. found_passes test ys x read) is
  where
    by_test : (b : Bool) → test y ≡ b → (find test ys ≡ Some x → test x ≡ true) → cond b (Some y) (find test ys) ≡ Some x → test x ≡ true
    by_test true passes later read = let same : y ≡ x = cc in ap test (sym same) ∙ passes
    by_test false fails later read = later read

pub get_all : {X : Type 0} (P : X → Type 0) (xs : List X) (i : ℕ) (x : X) → AllByRecursion P xs → slice_get xs i ≡ Some x → P x
get_all P [] i x all is = cc
get_all P (y ∷ ys) zero x all is = let same : y ≡ x = cc in subst P same all.0
get_all P (y ∷ ys) (suc i) x all is = get_all P ys i x all.1 is

get_within : {X : Type 0} (xs : List X) (i : ℕ) (x : X) → slice_get xs i ≡ Some x → i < length xs
get_within [] i x is = cc
get_within (y ∷ ys) zero x is = omega arith
get_within (y ∷ ys) (suc i) x is = let less = get_within ys i x is in omega (arith, less)

get_front : {X : Type 0} (xs ys : List X) (i : ℕ) (x : X) → slice_get xs i ≡ Some x → slice_get (xs ++ ys) i ≡ Some x
get_front [] ys i x is = cc
get_front (y ∷ xs) ys zero x is = is
get_front (y ∷ xs) ys (suc i) x is = get_front xs ys i x is

get_behind : {X : Type 0} (xs ys : List X) (x : X) → slice_get (xs ++ x ∷ ys) (length xs) ≡ Some x
get_behind [] ys x = refl
get_behind (y ∷ xs) ys x = get_behind xs ys x

-- ---- replies that differ, of a record

module _ (plan : Plan) (own : ℕ) (s : Signature) (kept : MemberRecord) where
  abbrev pub IsTold : Differing → Type 0
  IsTold d = (x : Difference) × (difference_read (node_names plan) (length plan.names) own s.imports kept d ≡ Some x)

  -- to which ask, and by which procedure
  pub record HasAsk (d : Differing) : Type 0 where
    pub later : kept.from ≤ d.run
    pub run : RunRecord
    pub is_run : slice_get kept.runs (d.run - kept.from) ≡ Some run
    pub ask : AskRecord
    pub is_ask : slice_get run.asks d.ask ≡ Some ask
    pub named : ask_named kept d.run d.ask ≡ Some ask
    pub shape : ProcedureShape
    pub is_shape : procedure_of_import s.imports ask.callee ask.procedure ≡ Some shape
    pub answers : is_some (by_procedure (node_names plan) (length plan.names) own d (procedure_of_import s.imports ask.callee ask.procedure)) ≡ true

  pub has_ask : (d : Differing) → IsTold d → HasAsk d
  has_ask d told = by_named (ask_named kept d.run d.ask) refl told.1
    where
      made : (ask : AskRecord) (p : ProcedureShape) → ask_named kept d.run d.ask ≡ Some ask → procedure_of_import s.imports ask.callee ask.procedure ≡ Some p → replies_read (node_names plan) (length plan.names) own d p ≡ Some told.0 → HasAsk d
      made ask p at shape read =
          let test = only_is (nat_le kept.from d.run) (from_some (slice_get kept.runs (d.run - kept.from)) (λ (r : RunRecord). slice_get r.asks d.ask)) ask at in
          let run = from_is (slice_get kept.runs (d.run - kept.from)) (λ (r : RunRecord). slice_get r.asks d.ask) ask test.1 in
          record {
            later = leb-true kept.from d.run test.0;
            run = run.0;
            is_run = run.1;
            ask = ask;
            is_ask = run.2;
            named = at;
            shape = p;
            is_shape = shape;
            answers = ap (λ o. is_some (by_procedure (node_names plan) (length plan.names) own d o)) shape ∙ ap is_some read;
          }

      by_shape : (ask : AskRecord) (o : Option ProcedureShape) → ask_named kept d.run d.ask ≡ Some ask → procedure_of_import s.imports ask.callee ask.procedure ≡ o → by_procedure (node_names plan) (length plan.names) own d o ≡ Some told.0 → HasAsk d
      by_shape ask (Some p) at shape read = made ask p at shape read
      by_shape ask None at shape read = cc

      by_named : (o : Option AskRecord) → ask_named kept d.run d.ask ≡ o → by_ask (node_names plan) (length plan.names) own s.imports d o ≡ Some told.0 → HasAsk d
      by_named (Some ask) at read = by_shape ask (procedure_of_import s.imports ask.callee ask.procedure) at refl read
      by_named None at read = cc

  -- ---- what is known of the record

  pub record IsKnown : Type 0 where
    pub from_in : kept.from ≤ last_count
    pub few : kept.from + length kept.runs ≤ last_count + 1
    pub runs : (i : ℕ) (run : RunRecord) → slice_get kept.runs i ≡ Some run → can_run s ≡ true
    pub roots : (i : ℕ) (run : RunRecord) → slice_get kept.runs i ≡ Some run → has_root plan.deployment.troupes ≡ true
    pub asks : (i j : ℕ) (run : RunRecord) (ask : AskRecord) → slice_get kept.runs i ≡ Some run → slice_get run.asks j ≡ Some ask → any_asks s.imports ≡ true

  -- ---- how what was read so far goes on to the record, of which so many runs have ended

  abbrev pub GoesOnTo : ℕ → List RunRecord → Current → Type 0
  GoesOnTo n runs Nothing = (more : List RunRecord) × (kept.runs ≡ runs ++ more) × (length runs ≤ n)
  GoesOnTo n runs (Run run) =
      (r : RunRecord) × (more : List RunRecord) × (asks : List AskRecord) × (kept.runs ≡ runs ++ r ∷ more) × (r.asks ≡ run.asks ++ asks) × (length runs ≡ n → 1 ≤ length r.asks)
  GoesOnTo n runs (Ask run ask) =
      (r : RunRecord) × (more : List RunRecord) × (a : AskRecord) × (later : List AskRecord) × (kept.runs ≡ runs ++ r ∷ more) × (r.asks ≡ run.asks ++ a ∷ later) × (a.callee ≡ ask.callee) × (a.procedure ≡ ask.procedure)

  pub record IsBefore (p : Performed) : Type 0 where
    pub from_is : kept.from ≡ p.from
    pub count_is : kept.count ≡ p.count
    pub ended : ℕ
    pub counted : kept.count ≡ count_after kept.from ended
    pub many : (length kept.runs ≡ ended) ⊎ ((length kept.runs ≡ ended + 1) × (kept.from + ended ≤ last_count))
    pub on : GoesOnTo ended p.runs p.current

  -- ---- it goes on

  module _ (known : IsKnown) (expected : List Differing) (told : AllByRecursion IsTold expected) where
    run_within : (p : Performed) (b : IsBefore p) (d : Differing) → HasAsk d → (p.from ≤ d.run) × (d.run ≤ p.count)
    run_within p b d h =
        let index = get_within kept.runs (d.run - kept.from) h.run h.is_run in
        (omega (arith, h.later, b.from_is), by_many b.many index)
      where
        by_many : (length kept.runs ≡ b.ended) ⊎ ((length kept.runs ≡ b.ended + 1) × (kept.from + b.ended ≤ last_count)) → d.run - kept.from < length kept.runs → d.run ≤ p.count
        by_many (inl all) index = let few = known.few in omega (arith, all, index, few, h.later, b.counted, b.count_is)
        by_many (inr one) index =
            let is = one.0 in
            let small = one.1 in
            omega (arith, is, small, index, h.later, b.counted, b.count_is)

    within_passes : (p : Performed) (b : IsBefore p) (d : Differing) → IsTold d → is_within p.from p.count d ≡ true
    within_passes p b d is =
        let both = run_within p b d (has_ask d is) in
        by_tests (nat_lt d.run p.from) (nat_lt p.count d.run) refl refl both.0 both.1
      where
        by_tests : (x y : Bool) → nat_lt d.run p.from ≡ x → nat_lt p.count d.run ≡ y → p.from ≤ d.run → d.run ≤ p.count → not (x || y) ≡ true
        by_tests true y one two low high = let less = ltb-true d.run p.from one in absurd (omega (arith, less, low))
        by_tests false true one two low high = let less = ltb-true p.count d.run two in absurd (omega (arith, less, high))
        by_tests false false one two low high = refl

    may_end_so : (p : Performed) (b : IsBefore p) (i : ℕ) → i < b.ended → may_end p (p.from + i) ≡ true
    may_end_so p b i less = by_test (nat_lt (p.from + i) p.count) refl
      where
        by_test : (t : Bool) → nat_lt (p.from + i) p.count ≡ t → (t || nat_eq p.count 4294967295) ≡ true
        by_test true is = refl
        by_test false is =
            let large = ltb-false (p.from + i) p.count is in
            eq-eqb p.count 4294967295 (omega (arith, large, less, b.from_is, b.count_is, b.counted))

    asked_passes : (i : ℕ) (run : RunRecord) (place : ℕ) (d : Differing) → slice_get kept.runs i ≡ Some run → place ≡ kept.from + i → IsTold d → is_asked place (length run.asks) d ≡ true
    asked_passes i run place d at is told_one = by_tests (nat_eq d.run place) (nat_le (length run.asks) d.ask) refl refl
      where
        by_tests : (x y : Bool) → nat_eq d.run place ≡ x → nat_le (length run.asks) d.ask ≡ y → not (x && y) ≡ true
        by_tests false y one two = refl
        by_tests true false one two = refl
        by_tests true true one two =
            let h = has_ask d told_one in
            let same = eqb-true d.run place one in
            let index : d.run - kept.from ≡ i = omega (arith, same, is) in
            let same_run : h.run ≡ run = cc (h.is_run, at, index) in
            let inside = get_within h.run.asks d.ask h.ask h.is_ask in
            let many = leb-true (length run.asks) d.ask two in
            absurd (omega (arith, inside, many, ap (λ (r : RunRecord). length r.asks) same_run))

    low_count : (p : Performed) → IsBefore p → p.from ≤ p.count
    low_count p b = let inside = known.from_in in omega (arith, inside, b.from_is, b.count_is, b.counted)

    some_run : {A : Type 0} (runs : List RunRecord) → 0 < length runs → ((j : ℕ) (run : RunRecord) → slice_get runs j ≡ Some run → A) → A
    some_run [] some all = absurd (omega (arith, some))
    some_run (run ∷ runs) some all = all 0 run refl

    -- where the count isn't that of the beginning there are runs
    has_runs : (p : Performed) (b : IsBefore p) → (p.from ≡ p.count → ⊥) → (n : ℕ) → b.ended ≡ n → (length kept.runs ≡ b.ended) ⊎ ((length kept.runs ≡ b.ended + 1) × (kept.from + b.ended ≤ last_count)) → 0 < length kept.runs
    has_runs p b differ zero none many = let inside = known.from_in in absurd (differ (omega (arith, none, inside, b.from_is, b.count_is, b.counted)))
    has_runs p b differ (suc n) some (inl all) = omega (arith, some, all)
    has_runs p b differ (suc n) some (inr one) = let is = one.0 in omega (arith, is)

    suits_so : (p : Performed) → IsBefore p → suits s expected p ≡ true
    suits_so p b =
        ap (λ t. t && ((nat_eq p.from p.count || can_run s) && all_within p.from p.count expected)) (le-leb p.from p.count (low_count p b))
        ∙ ap (λ t. t && all_within p.from p.count expected) (by_same (nat_eq p.from p.count) refl)
        ∙ each_passes (is_within p.from p.count) IsTold expected (within_passes p b) told
      where
        by_same : (t : Bool) → nat_eq p.from p.count ≡ t → (t || can_run s) ≡ true
        by_same true is = refl
        by_same false is = some_run kept.runs (has_runs p b (eqb-false p.from p.count is) b.ended refl b.many) known.runs

    -- where runs have to be entered there is a root
    pub enters_so : (p : Performed) → IsBefore p → (has_root plan.deployment.troupes || nat_eq p.from p.count) ≡ true
    enters_so p b = by_same (nat_eq p.from p.count) refl
      where
        by_same : (t : Bool) → nat_eq p.from p.count ≡ t → (has_root plan.deployment.troupes || t) ≡ true
        by_same true is = either_right (has_root plan.deployment.troupes) true refl
        by_same false is = either_left (has_root plan.deployment.troupes) false (some_run kept.runs (has_runs p b (eqb-false p.from p.count is) b.ended refl b.many) known.roots)

    -- ---- by what is performed

    rests_so : (p : Performed) → (b : IsBefore p) → (more : List RunRecord) → kept.runs ≡ p.runs ++ more → length p.runs ≤ b.ended → rests_well s expected p ≡ true
    rests_so p b more are few = by_last (slice_get p.runs (length p.runs - 1)) refl
      where
        by_place : (run : RunRecord) → slice_get p.runs (length p.runs - 1) ≡ Some run → (t : Bool) → nat_le (p.from + (length p.runs - 1)) 4294967295 ≡ t → option_map_or (may_have_ended expected p run) (cond t (Some (p.from + (length p.runs - 1))) None) true ≡ true
        by_place run at false is = refl
        by_place run at true is =
            let index = get_within p.runs (length p.runs - 1) run at in
            let place = p.from + (length p.runs - 1) in
            let there = ap (λ rs. slice_get rs (length p.runs - 1)) are ∙ get_front p.runs more (length p.runs - 1) run at in
            let here : place ≡ kept.from + (length p.runs - 1) = omega (arith, b.from_is) in
            ap (λ t. t && all_asked place (length run.asks) expected) (may_end_so p b (length p.runs - 1) (omega (arith, index, few)))
            ∙ each_passes (is_asked place (length run.asks)) IsTold expected (λ d is_told. asked_passes (length p.runs - 1) run place d there here is_told) told

        by_last : (o : Option RunRecord) → slice_get p.runs (length p.runs - 1) ≡ o → option_map_or (ended_well expected p) o (suits s expected p) ≡ true
        by_last None at = suits_so p b
        by_last (Some run) at = by_place run at (nat_le (p.from + (length p.runs - 1)) 4294967295) refl

    runs_so : (p : Performed) (b : IsBefore p) (r : RunRecord) (more : List RunRecord) → kept.runs ≡ p.runs ++ r ∷ more → (length p.runs ≡ b.ended → 1 ≤ length r.asks) → may_run p (p.from + length p.runs) s ≡ true
    runs_so p b r more are asks =
        ap (λ t. t && (may_end p (p.from + length p.runs) || (nat_eq (p.from + length p.runs) p.count && any_asks s.imports))) (known.runs (length p.runs) r at)
        ∙ by_ended (nat_lt (length p.runs) b.ended) refl
      where
        at : slice_get kept.runs (length p.runs) ≡ Some r
        at = ap (λ rs. slice_get rs (length p.runs)) are ∙ get_behind p.runs more r

        both : (x y : Bool) → x ≡ true → y ≡ true → (x && y) ≡ true
        both true y one two = two
        both false y one two = one

        first_ask : (list : List AskRecord) → 1 ≤ length list → ((j : ℕ) (a : AskRecord) → slice_get list j ≡ Some a → any_asks s.imports ≡ true) → any_asks s.imports ≡ true
        first_ask [] some all = absurd (omega (arith, some))
        first_ask (a ∷ list) some all = all 0 a refl

        waits_so : (length kept.runs ≡ b.ended) ⊎ ((length kept.runs ≡ b.ended + 1) × (kept.from + b.ended ≤ last_count)) → b.ended ≤ length p.runs → (nat_eq (p.from + length p.runs) p.count && any_asks s.imports) ≡ true
        waits_so (inl all) large = absurd (omega (arith, all, large, ap length are, length-append p.runs (r ∷ more)))
        waits_so (inr one) large =
            let is = one.0 in
            let small = one.1 in
            let last : length p.runs ≡ b.ended = omega (arith, is, large, ap length are, length-append p.runs (r ∷ more)) in
            both (nat_eq (p.from + length p.runs) p.count) (any_asks s.imports) (eq-eqb (p.from + length p.runs) p.count (omega (arith, last, small, b.from_is, b.count_is, b.counted))) (first_ask r.asks (asks last) (λ j a got. known.asks (length p.runs) j r a at got))

        by_ended : (t : Bool) → nat_lt (length p.runs) b.ended ≡ t → (may_end p (p.from + length p.runs) || (nat_eq (p.from + length p.runs) p.count && any_asks s.imports)) ≡ true
        by_ended true is = either_left (may_end p (p.from + length p.runs)) (nat_eq (p.from + length p.runs) p.count && any_asks s.imports) (may_end_so p b (length p.runs) (ltb-true (length p.runs) b.ended is))
        by_ended false is = either_right (may_end p (p.from + length p.runs)) (nat_eq (p.from + length p.runs) p.count && any_asks s.imports) (waits_so b.many (ltb-false (length p.runs) b.ended is))

    -- an ask of the record answers as each line says that names it
    answers_passes : (i : ℕ) (run : RunRecord) (place number callee procedure : ℕ) (ask : AskRecord) (d : Differing) → slice_get kept.runs i ≡ Some run → place ≡ kept.from + i → slice_get run.asks number ≡ Some ask → ask.callee ≡ callee → ask.procedure ≡ procedure → IsTold d → answers_if (node_names plan) (length plan.names) own s.imports place number callee procedure d ≡ true
    answers_passes i run place number callee procedure ask d at is got same_callee same_procedure told_one = by_tests (nat_eq d.run place) (nat_eq d.ask number) refl refl
      where
        by_tests : (x y : Bool) → nat_eq d.run place ≡ x → nat_eq d.ask number ≡ y → cond (x && y) (may_answer (node_names plan) (length plan.names) own s.imports callee procedure d) true ≡ true
        by_tests false y one two = refl
        by_tests true false one two = refl
        by_tests true true one two =
            let h = has_ask d told_one in
            let same = eqb-true d.run place one in
            let index : d.run - kept.from ≡ i = omega (arith, same, is) in
            let same_run : h.run ≡ run = cc (h.is_run, at, index) in
            let same_number = eqb-true d.ask number two in
            let same_ask : h.ask ≡ ask = cc (h.is_ask, got, same_run, same_number) in
            let callees : callee ≡ h.ask.callee = sym (ap (λ (a : AskRecord). a.callee) same_ask ∙ same_callee) in
            let procedures : procedure ≡ h.ask.procedure = sym (ap (λ (a : AskRecord). a.procedure) same_ask ∙ same_procedure) in
            (λ j. may_answer (node_names plan) (length plan.names) own s.imports (callees j) (procedures j) d) ∙ h.answers

    all_answer_so : (i : ℕ) (run : RunRecord) (place number callee procedure : ℕ) (ask : AskRecord) → slice_get kept.runs i ≡ Some run → place ≡ kept.from + i → slice_get run.asks number ≡ Some ask → ask.callee ≡ callee → ask.procedure ≡ procedure → all_answer (node_names plan) (length plan.names) own s.imports expected place number callee procedure ≡ true
    all_answer_so i run place number callee procedure ask at is got same_callee same_procedure =
        each_passes (answers_if (node_names plan) (length plan.names) own s.imports place number callee procedure) IsTold expected (λ d is_told. answers_passes i run place number callee procedure ask d at is got same_callee same_procedure is_told) told

    -- a member goes on behind its lines
    pub performs_so : (p : Performed) → IsBefore p → performs (node_names plan) (length plan.names) own s expected p ≡ true
    performs_so p b = by_place (nat_le (p.from + length p.runs) 4294967295) refl
      where
        too_many : (r : RunRecord) (more : List RunRecord) → kept.runs ≡ p.runs ++ r ∷ more → nat_le (p.from + length p.runs) 4294967295 ≡ false → ⊥
        too_many r more are is =
            let few = known.few in
            let large = leb-false (p.from + length p.runs) 4294967295 is in
            omega (arith, few, large, b.from_is, ap length are, length-append p.runs (r ∷ more))

        by_current : (c : Current) → GoesOnTo b.ended p.runs c → performs_well (node_names plan) (length plan.names) own s expected p c (p.from + length p.runs) ≡ true
        by_current Nothing on = rests_so p b on.0 on.1 on.2
        by_current (Run run) on = runs_so p b on.0 on.1 on.3 on.5
        by_current (Ask run ask) on =
            let at = ap (λ rs. slice_get rs (length p.runs)) on.4 ∙ get_behind p.runs on.1 on.0 in
            let got = ap (λ xs. slice_get xs (length run.asks)) on.5 ∙ get_behind run.asks on.3 on.2 in
            all_answer_so (length p.runs) on.0 (p.from + length p.runs) (length run.asks) ask.callee ask.procedure on.2 at (ap (λ n. n + length p.runs) (sym b.from_is)) got on.6 on.7

        -- where no run can follow none is performed
        by_last : (c : Current) → GoesOnTo b.ended p.runs c → nat_le (p.from + length p.runs) 4294967295 ≡ false → rests_well s expected p ≡ true
        by_last Nothing on is = rests_so p b on.0 on.1 on.2
        by_last (Run run) on is = absurd (too_many on.0 on.1 on.3 is)
        by_last (Ask run ask) on is = absurd (too_many on.0 on.1 on.4 is)

        by_place : (t : Bool) → nat_le (p.from + length p.runs) 4294967295 ≡ t → option_map_or (performs_well (node_names plan) (length plan.names) own s expected p p.current) (cond t (Some (p.from + length p.runs)) None) (rests_well s expected p) ≡ true
        by_place true is = by_current p.current b.on
        by_place false is = by_last p.current b.on is

    -- an ask that a line names can come
    pub can_come_so : (d : Differing) → IsTold d → can_come (node_names plan) (length plan.names) own s expected d ≡ true
    can_come_so d is_told =
        let h = has_ask d is_told in
        ap (λ t. t && some_import (node_names plan) (length plan.names) own s.imports expected d.run d.ask) (known.runs (d.run - kept.from) h.run h.is_run)
        ∙ by_import h (import_of h.ask.callee s.imports) refl h.is_shape
      where
        by_import : (h : HasAsk d) (o : Option Import) → import_of h.ask.callee s.imports ≡ o → option_and_then (λ (i : Import). procedure_numbered h.ask.procedure i.procedures) o ≡ Some h.shape → some_import (node_names plan) (length plan.names) own s.imports expected d.run d.ask ≡ true
        by_import h None at read = cc
        by_import h (Some i) at read =
            let same_import = eqb-true i.module h.ask.callee (found_passes (λ (x : Import). nat_eq x.module h.ask.callee) s.imports i at) in
            let same_procedure = eqb-true h.shape.number h.ask.procedure (found_passes (λ (p : ProcedureShape). nat_eq p.number h.ask.procedure) i.procedures h.shape read) in
            let here : d.run ≡ kept.from + (d.run - kept.from) = omega (arith, h.later) in
            let good = all_answer_so (d.run - kept.from) h.run d.run d.ask i.module h.shape.number h.ask h.is_run here h.is_ask (sym same_import) (sym same_procedure) in
            let some = one_passes (λ (p : ProcedureShape). nat_eq p.number h.ask.procedure) (λ (p : ProcedureShape). all_answer (node_names plan) (length plan.names) own s.imports expected d.run d.ask i.module p.number) i.procedures h.shape read good in
            one_passes (λ (x : Import). nat_eq x.module h.ask.callee) (some_procedure (node_names plan) (length plan.names) own s.imports expected d.run d.ask) s.imports i at some

    -- each line names an ask
    pub named_so : all_named kept expected ≡ true
    named_so = each_passes (is_named kept) IsTold expected (λ d is_told. ap is_some (has_ask d is_told).named) told
