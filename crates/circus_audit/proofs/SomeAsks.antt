-- Asks that lines of replies name can be made, and answered as the lines say.
use Rattle.std.specs.List.{AllByRecursion, list_any}
use Rattle.std.specs.Option.{option_map_or}
use Rattle.std.proofs.Common.{◌≡◌, ◌∙◌, ℕ, zero, suc, ◌+◌, ◌<◌, ◌≤◌, ◌^◌, Bool, true, false, not, ◌&&◌, ◌||◌, nat_eq, nat_le, List, [], ◌∷◌, ◌++◌, length, map, slice_get, Some, None, refl, sym, ap, subst, arith}
use Rattle.std.proofs.lemmas.Bool.{leb-true, leb-false}
use Rattle.std.proofs.lemmas.List.{length-map}
use Rattle.circus_value.specs.ValueTree.{ValueTree}
use Rattle.circus_value.specs.Fits.{all_fit}
use Rattle.circus_value.specs.declared.outcome.Outcome.{Outcome}
use Rattle.circus_value.specs.declared.outcome.Outcome.TheVariants.{Raised}
use Rattle.circus_model.specs.Lawful.{arguments_fit, outcome_fits, procedure_numbered, import_of, import_takes, import_answers, is_reported, is_raised_by_language}
use Rattle.circus_model.specs.declared.signature.Import.{Import}
use Rattle.circus_model.specs.declared.signature.ProcedureShape.{ProcedureShape}
use Rattle.circus_model.specs.declared.signature.Signature.{Signature}
use Rattle.circus_record.specs.declared.record.AskRecord.{AskRecord}
use Rattle.circus_config.specs.declared.plan.Plan.{Plan}
use Rattle.circus_audit.specs.Possible.{AreLongs, IsClock, IsAsk, IsAnswered}
use Rattle.circus_audit.specs.declared.noted.Differing.{Differing}
use Rattle.circus_audit.specs.Seen.Outlook.{is_asked, all_asked, all_answer, some_procedure, some_import}
use Rattle.circus_audit.specs.Seen.Reading.{node_names}
use Rattle.circus_audit.proofs.GoingOn.{either_right}
use Rattle.circus_audit.proofs.SomeValues.{IsFound, IsOffered, CanPerform}

-- ---- outcomes, clocks

-- every procedure may end so
abbrev pub given_up : Outcome
given_up = Raised 60001 []

pub gives_up : (p : ProcedureShape) → outcome_fits p given_up ≡ true
gives_up p = either_right (is_reported p.errors 60001 []) (is_raised_by_language 60001 []) refl

abbrev pub no_calls : List (List ℕ) → List ℕ
no_calls names = map (λ (name : List ℕ). 0) names

no_longs : (names : List (List ℕ)) → AreLongs (no_calls names)
no_longs [] = tt
no_longs (name ∷ names) = (omega arith, no_longs names)

pub no_calls_clock : (plan : Plan) → IsClock plan (no_calls plan.names)
no_calls_clock plan = (length-map plan.names (λ (name : List ℕ). 0), no_longs plan.names)

-- ---- what passes

any_first : {X : Type 0} (test : X → Bool) (P : X → Type 0) (x : X) (xs : List X) (b : Bool) → test x ≡ b → P x → (b || list_any test xs) ≡ true → (list_any test xs ≡ true → (y : X) × P y × (test y ≡ true)) → (y : X) × P y × (test y ≡ true)
any_first test P x xs true passes known is others = (x, known, passes)
any_first test P x xs false fails known is others = others is

-- one item of those that pass a test, and what is known of it
pub any_is : {X : Type 0} (test : X → Bool) (P : X → Type 0) (xs : List X) → AllByRecursion P xs → list_any test xs ≡ true → (x : X) × P x × (test x ≡ true)
any_is test P [] all is = cc
any_is test P (x ∷ xs) all is = any_first test P x xs (test x) refl all.0 is (λ some. any_is test P xs all.1 some)

-- ---- lines of replies

-- the asks of a run have to be so many
pub record IsMany (place : ℕ) (ds : List Differing) : Type 0 where
  pub many : ℕ
  pub few : many ≤ 2 ^ 32
  pub enough : (asks : ℕ) → many ≤ asks → all_asked place asks ds ≡ true

asked_if : (place asks : ℕ) (d : Differing) → (nat_eq d.run place ≡ true → d.ask < asks) → is_asked place asks d ≡ true
asked_if place asks d small = by_tests (nat_eq d.run place) (nat_le asks d.ask) refl refl
  where
    by_tests : (x y : Bool) → nat_eq d.run place ≡ x → nat_le asks d.ask ≡ y → not (x && y) ≡ true
    by_tests false y one two = refl
    by_tests true false one two = refl
    by_tests true true one two =
        let large = leb-true asks d.ask two in
        let less = small one in
        absurd (omega (arith, large, less))

pub how_many : (place : ℕ) (ds : List Differing) → AllByRecursion (λ (d : Differing). (d.run < 2 ^ 32) × (d.ask < 2 ^ 32)) ds → IsMany place ds
how_many place [] few = record { many = 0; few = omega arith; enough = λ asks large. refl }
how_many place (d ∷ ds) few = by_run (nat_eq d.run place) refl (how_many place ds few.1)
  where
    more : (asks : ℕ) → is_asked place asks d ≡ true → all_asked place asks ds ≡ true → all_asked place asks (d ∷ ds) ≡ true
    more asks one others = ap (λ t. t && all_asked place asks ds) one ∙ others

    by_size : nat_eq d.run place ≡ true → (m : IsMany place ds) → (b : Bool) → nat_le m.many d.ask ≡ b → IsMany place (d ∷ ds)
    by_size here m true large =
        let least = leb-true m.many d.ask large in
        let small = few.0.1 in
        record {
          many = d.ask + 1;
          few = omega (arith, small);
          enough = λ asks many. more asks (asked_if place asks d (λ e. omega (arith, many))) (m.enough asks (omega (arith, many, least)));
        }
    by_size here m false large =
        let less = leb-false m.many d.ask large in
        record {
          many = m.many;
          few = m.few;
          enough = λ asks many. more asks (asked_if place asks d (λ e. omega (arith, many, less))) (m.enough asks many);
        }

    by_run : (b : Bool) → nat_eq d.run place ≡ b → IsMany place ds → IsMany place (d ∷ ds)
    by_run true here m = by_size here m (nat_le m.many d.ask) refl
    by_run false other m = record {
      many = m.many;
      few = m.few;
      enough = λ asks many. more asks (asked_if place asks d (λ e. absurd (cc (e, other)))) (m.enough asks many);
    }

-- ---- asks

module _ (plan : Plan) (own : ℕ) (s : Signature) (expected : List Differing) where
  -- an ask is answered as lines say that name it
  abbrev pub Answers : ℕ → ℕ → AskRecord → Type 0
  Answers place number ask = all_answer (node_names plan) (length plan.names) own s.imports expected place number ask.callee ask.procedure ≡ true

  -- the asks of a run from this number on are
  abbrev pub AllAnswer : ℕ → ℕ → List AskRecord → Type 0
  AllAnswer place number [] = Unit {0}
  AllAnswer place number (ask ∷ asks) = Answers place number ask × AllAnswer place (number + 1) asks

  more_answer : (place number : ℕ) (xs ys : List AskRecord) → AllAnswer place number xs → AllAnswer place (number + length xs) ys → AllAnswer place number (xs ++ ys)
  more_answer place number [] ys first second = let here : number + 0 ≡ number = omega arith in subst (λ n. AllAnswer place n ys) here second
  more_answer place number (x ∷ xs) ys first second =
      let here : number + suc (length xs) ≡ number + 1 + length xs = omega arith in
      (first.0, more_answer place (number + 1) xs ys first.1 (subst (λ n. AllAnswer place n ys) here second))

  -- behind the asks of a run
  pub then_answer : (place : ℕ) (xs ys : List AskRecord) → AllAnswer place 0 xs → AllAnswer place (length xs) ys → AllAnswer place 0 (xs ++ ys)
  then_answer place xs ys first second = let here : length xs ≡ 0 + length xs = omega arith in more_answer place 0 xs ys first (subst (λ n. AllAnswer place n ys) here second)

  -- an ask in place of another one
  pub answered_last : (place number : ℕ) (asks : List AskRecord) (a b : AskRecord) → a.callee ≡ b.callee → a.procedure ≡ b.procedure → AllAnswer place number (asks ++ a ∷ []) → AllAnswer place number (asks ++ b ∷ [])
  answered_last place number [] a b callee procedure all = ((λ i. all_answer (node_names plan) (length plan.names) own s.imports expected place number (sym callee i) (sym procedure i)) ∙ all.0, tt)
  answered_last place number (x ∷ asks) a b callee procedure all = (all.0, answered_last place (number + 1) asks a b callee procedure all.1)

  pub answer_at : (place number : ℕ) (asks : List AskRecord) (i : ℕ) (ask : AskRecord) → AllAnswer place number asks → slice_get asks i ≡ Some ask → Answers place (number + i) ask
  answer_at place number [] i ask all is = cc
  answer_at place number (x ∷ asks) zero ask all is =
      let same : x ≡ ask = cc in
      let here : number ≡ number + 0 = omega arith in
      subst (λ n. Answers place n ask) here (subst (Answers place number) same all.0)
  answer_at place number (x ∷ asks) (suc i) ask all is =
      let here : number + 1 + i ≡ number + suc i = omega arith in
      subst (λ n. Answers place n ask) here (answer_at place (number + 1) asks i ask all.1 is)

  -- an ask can be made at each place
  abbrev pub Answerable : Type 0
  Answerable = (place number : ℕ) → some_import (node_names plan) (length plan.names) own s.imports expected place number ≡ true

  -- whom it asks, and what for
  pub record IsChosen (place number : ℕ) : Type 0 where
    pub callee : ℕ
    pub procedure : ℕ
    pub arguments : List ValueTree
    pub takes : import_takes s.imports callee procedure arguments ≡ true
    pub ends : import_answers s.imports callee procedure given_up ≡ true
    pub answers : all_answer (node_names plan) (length plan.names) own s.imports expected place number callee procedure ≡ true

  pub choose : CanPerform s → Answerable → (place number : ℕ) → IsChosen place number
  choose can answerable place number =
      let i = any_is (some_procedure (node_names plan) (length plan.names) own s.imports expected place number) (IsOffered s.imports) s.imports can.imports (answerable place number) in
      let p = any_is (λ (p : ProcedureShape). all_answer (node_names plan) (length plan.names) own s.imports expected place number i.0.module p.number) (IsFound i.0.procedures) i.0.procedures i.1.procedures i.2 in
      made i.0 i.1.found p.0 p.1 p.2
    where
      made : (i : Import) → import_of i.module s.imports ≡ Some i → (p : ProcedureShape) → IsFound i.procedures p → all_answer (node_names plan) (length plan.names) own s.imports expected place number i.module p.number ≡ true → IsChosen place number
      made i found p is answers = record {
        callee = i.module;
        procedure = p.number;
        arguments = is.2.0;
        takes =
            ap (λ o. option_map_or (λ (x : Import). arguments_fit x.procedures p.number is.2.0) o false) found
            ∙ ap (λ o. option_map_or (λ (x : ProcedureShape). all_fit x.arguments is.2.0) o false) is.1 ∙ is.2.1;
        ends =
            ap (λ o. option_map_or (λ (x : Import). option_map_or (λ (y : ProcedureShape). outcome_fits y given_up) (procedure_numbered p.number x.procedures) false) o false) found
            ∙ ap (λ o. option_map_or (λ (x : ProcedureShape). outcome_fits x given_up) o false) is.1 ∙ gives_up is.0;
        answers = answers;
      }

  -- ---- their records

  module _ (can : CanPerform s) (events : ℕ) (some : 0 < events) where
    abbrev pub open_ask : (place number : ℕ) → IsChosen place number → AskRecord
    open_ask place number c = record {
      callee = c.callee;
      index = 0;
      procedure = c.procedure;
      arguments = c.arguments;
      state = can.state.0;
      reply = None;
      after = None;
      asked = 0;
      answered = None;
    }

    pub is_open_ask : (place number : ℕ) (c : IsChosen place number) → IsAsk plan s events (open_ask place number c)
    is_open_ask place number c = record { takes = c.takes; index = omega arith; state = can.state.1; asked = some }

    abbrev pub answered_ask : (place number : ℕ) → IsChosen place number → AskRecord
    answered_ask place number c = record (open_ask place number c) { reply = Some given_up; after = Some (no_calls plan.names); answered = Some 0 }

    pub is_answered_ask : (place number : ℕ) (c : IsChosen place number) → IsAnswered plan s events (answered_ask place number c)
    is_answered_ask place number c = record {
      made = record { takes = c.takes; index = omega arith; state = can.state.1; asked = some };
      reply = given_up;
      after = no_calls plan.names;
      step = 0;
      is_reply = refl;
      is_after = refl;
      is_step = refl;
      answers = c.ends;
      clock = no_calls_clock plan;
      answered = some;
    }

    -- so many asks of a run, from this number on
    pub record HasAsks (place number many : ℕ) : Type 0 where
      pub asks : List AskRecord
      pub count : length asks ≡ many
      pub answered : AllByRecursion (IsAnswered plan s events) asks
      pub answer : AllAnswer place number asks

    pub asks_of : Answerable → (place number many : ℕ) → HasAsks place number many
    asks_of answerable place number zero = record { asks = []; count = refl; answered = tt; answer = tt }
    asks_of answerable place number (suc many) =
        let c = choose can answerable place number in
        let others = asks_of answerable place (number + 1) many in
        record {
          asks = answered_ask place number c ∷ others.asks;
          count = ap suc others.count;
          answered = (is_answered_ask place number c, others.answered);
          answer = (c.answers, others.answer);
        }
