-- Where a record has the asks that lines of replies name, and these answer as the lines say, its events are what the lines say.
use Rattle.std.specs.List.{AllByRecursion, list_all}
use Rattle.std.specs.Prelude.{is_some}
use Rattle.std.proofs.Common.{◌≡◌, ◌∙◌, ℕ, zero, suc, ◌+◌, ◌-◌, ◌<◌, ◌≤◌, Bool, true, false, cond, not, ◌&&◌, nat_eq, nat_le, List, [], ◌∷◌, ◌++◌, length, map, slice_get, Option, Some, None, option_map, refl, sym, ap, subst, arith, eq-eqb, le-leb}
use Rattle.std.proofs.lemmas.Bool.{and_parts, leb-true, leb-false}
use Rattle.circus_model.specs.declared.signature.Signature.{Signature}
use Rattle.circus_record.specs.declared.record.AskRecord.{AskRecord}
use Rattle.circus_record.specs.declared.record.RunRecord.{RunRecord}
use Rattle.circus_record.specs.declared.record.MemberRecord.{MemberRecord}
use Rattle.circus_config.specs.declared.plan.Plan.{Plan}
use Rattle.circus_audit.specs.declared.given.GivenEvent.{GivenEvent}
use Rattle.circus_audit.specs.declared.noted.Differing.{Differing}
use Rattle.circus_audit.specs.declared.noted.Noted.{Noted}
use Rattle.circus_audit.specs.Seen.Answers.{from_some, only_if}
use Rattle.circus_audit.specs.Seen.Differing.{each_read, ask_named, event_with, by_procedure, by_ask, difference_read, event_of, events_of, nothing_differs, event_apart, events_apart}
use Rattle.circus_audit.specs.Seen.Outlook.{names, is_asked, all_asked, is_named, all_named, may_answer, answers_if}
use Rattle.circus_audit.specs.Seen.Reading.{node_names}
use Rattle.circus_audit.specs.Seen.Values.{procedure_of_import}
use Rattle.circus_audit.proofs.Opening.{from_is, only_is}
use Rattle.circus_audit.proofs.CompletingRows.{all_both}
use Rattle.circus_audit.proofs.SoundingHappening.{Heard, noted_of, IsFewDiffering, IsHeard}
use Rattle.circus_audit.proofs.GoingOn.{each_passes, get_all, IsTold}
use Rattle.circus_audit.proofs.SomeAsks.{AllAnswer, Answers, answer_at}
use Rattle.circus_audit.proofs.SomeRuns.{RunsAnswer, AreAsked, IsAnswering}

-- the lines of replies of events
abbrev pub said : List Noted → List Differing
said [] = []
said (n ∷ notes) = n.differing ++ said notes

pub said_few : (plan : Plan) (own : ℕ) (heard : List Heard) → AllByRecursion (IsHeard plan own) heard → AllByRecursion (IsFewDiffering plan own) (said (map noted_of heard))
said_few plan own [] each = tt
said_few plan own (h ∷ heard) each = all_both (IsFewDiffering plan own) h.noted.differing (said (map noted_of heard)) each.0.differing (said_few plan own heard each.1)

-- ---- lists

at_each : {X : Type 0} (P : X → Type 0) (xs : List X) → ((i : ℕ) (x : X) → slice_get xs i ≡ Some x → P x) → AllByRecursion P xs
at_each P [] all = tt
at_each P (x ∷ xs) all = (all 0 x refl, at_each P xs (λ i y is. all (suc i) y is))

test_at : {X : Type 0} (test : X → Bool) (xs : List X) (i : ℕ) (x : X) → list_all test xs ≡ true → slice_get xs i ≡ Some x → test x ≡ true
test_at test [] i x all is = cc
test_at test (y ∷ xs) zero x all is =
    let same : y ≡ x = cc in
    ap test (sym same) ∙ (and_parts (test y) (list_all test xs) all).0
test_at test (y ∷ xs) (suc i) x all is = test_at test xs i x (and_parts (test y) (list_all test xs) all).1 is

pub some_at : {X : Type 0} (xs : List X) (i : ℕ) → i < length xs → (x : X) × (slice_get xs i ≡ Some x)
some_at [] i less = absurd (omega (arith, less))
some_at (x ∷ xs) zero less = (x, refl)
some_at (x ∷ xs) (suc i) less = some_at xs i (omega (arith, less))

there_is : {X : Type 0} (o : Option X) → is_some o ≡ true → (x : X) × (o ≡ Some x)
there_is (Some x) is = (x, refl)
there_is None is = cc

both_true : (a b : Bool) → a ≡ true → b ≡ true → (a && b) ≡ true
both_true a b first second = ap (λ t. t && b) first ∙ second

-- ---- a record with all asks that are named

module _ (plan : Plan) (own : ℕ) (s : Signature) (expected : List Differing) (kept : MemberRecord) where
  runs_answer_at : (place : ℕ) (runs : List RunRecord) (i : ℕ) (run : RunRecord) → RunsAnswer plan own s expected place runs → slice_get runs i ≡ Some run → AllAnswer plan own s expected (place + i) 0 run.asks
  runs_answer_at place [] i run all is = cc
  runs_answer_at place (r ∷ runs) zero run all is =
      let same : r ≡ run = cc in
      let here : place ≡ place + 0 = omega arith in
      subst (λ n. AllAnswer plan own s expected n 0 run.asks) here (subst (λ (x : RunRecord). AllAnswer plan own s expected place 0 x.asks) same all.0)
  runs_answer_at place (r ∷ runs) (suc i) run all is =
      let here : place + 1 + i ≡ place + suc i = omega arith in
      subst (λ n. AllAnswer plan own s expected n 0 run.asks) here (runs_answer_at (place + 1) runs i run all.1 is)

  asked_at : (place : ℕ) (runs : List RunRecord) (i : ℕ) (run : RunRecord) → AreAsked plan own s expected place runs → slice_get runs i ≡ Some run → all_asked (place + i) (length run.asks) expected ≡ true
  asked_at place [] i run all is = cc
  asked_at place (r ∷ runs) zero run all is =
      let same : r ≡ run = cc in
      let here : place ≡ place + 0 = omega arith in
      subst (λ n. all_asked n (length run.asks) expected ≡ true) here (subst (λ (x : RunRecord). all_asked place (length x.asks) expected ≡ true) same all.0)
  asked_at place (r ∷ runs) (suc i) run all is =
      let here : place + 1 + i ≡ place + suc i = omega arith in
      subst (λ n. all_asked n (length run.asks) expected ≡ true) here (asked_at (place + 1) runs i run all.1 is)

  fewer_asks : (place asks : ℕ) (d : Differing) → d.run ≡ place → is_asked place asks d ≡ true → d.ask < asks
  fewer_asks place asks d here is = by_test (nat_le asks d.ask) refl (ap (λ t. not (t && nat_le asks d.ask)) (sym (eq-eqb d.run place here)) ∙ is)
    where
      by_test : (b : Bool) → nat_le asks d.ask ≡ b → not (true && b) ≡ true → d.ask < asks
      by_test true large differ = cc
      by_test false less differ = leb-false asks d.ask less

  pub named_all : IsAnswering plan own s expected kept → all_named kept expected ≡ true
  named_all answering = each_passes (is_named kept) (λ d. is_named kept d ≡ true) expected (λ d is. is) (at_each (λ d. is_named kept d ≡ true) expected one)
    where
      one : (i : ℕ) (d : Differing) → slice_get expected i ≡ Some d → is_named kept d ≡ true
      one i d at =
          let w = get_all (λ (x : Differing). (kept.from ≤ x.run) × (x.run < kept.from + length kept.runs)) expected i d answering.within at in
          let low = w.0 in
          let high = w.1 in
          let r = some_at kept.runs (d.run - kept.from) (omega (arith, low, high)) in
          let here : d.run ≡ kept.from + (d.run - kept.from) = omega (arith, low) in
          let asked = asked_at kept.from kept.runs (d.run - kept.from) r.0 answering.asked r.1 in
          let less = fewer_asks (kept.from + (d.run - kept.from)) (length r.0.asks) d here (test_at (is_asked (kept.from + (d.run - kept.from)) (length r.0.asks)) expected i d asked at) in
          let a = some_at r.0.asks d.ask less in
          ap (λ t. is_some (only_if t (from_some (slice_get kept.runs (d.run - kept.from)) (λ (x : RunRecord). slice_get x.asks d.ask)))) (le-leb kept.from d.run low)
          ∙ ap (λ o. is_some (from_some o (λ (x : RunRecord). slice_get x.asks d.ask))) r.1
          ∙ ap is_some a.1

  -- each line tells of an ask
  pub told_all : RunsAnswer plan own s expected kept.from kept.runs → all_named kept expected ≡ true → AllByRecursion (IsTold plan own s kept) expected
  told_all answer named = at_each (IsTold plan own s kept) expected one
    where
      one : (i : ℕ) (d : Differing) → slice_get expected i ≡ Some d → IsTold plan own s kept d
      one i d at = by_named (ask_named kept d.run d.ask) refl (test_at (is_named kept) expected i d named at)
        where
          by_named : (o : Option AskRecord) → ask_named kept d.run d.ask ≡ o → is_some o ≡ true → IsTold plan own s kept d
          by_named None is some = cc
          by_named (Some ask) is some =
              let test = only_is (nat_le kept.from d.run) (from_some (slice_get kept.runs (d.run - kept.from)) (λ (r : RunRecord). slice_get r.asks d.ask)) ask is in
              let low = leb-true kept.from d.run test.0 in
              let run = from_is (slice_get kept.runs (d.run - kept.from)) (λ (r : RunRecord). slice_get r.asks d.ask) ask test.1 in
              let place = kept.from + (d.run - kept.from) in
              let number = 0 + d.ask in
              let here : d.run ≡ place = omega (arith, low) in
              let same : d.ask ≡ number = omega arith in
              let answers : Answers plan own s expected place number ask = answer_at plan own s expected place 0 run.0.asks d.ask ask (runs_answer_at kept.from kept.runs (d.run - kept.from) run.0 answer run.1) run.2 in
              let one_answers = test_at (answers_if (node_names plan) (length plan.names) own s.imports place number ask.callee ask.procedure) expected i d answers at in
              let named_so : names place number d ≡ true = both_true (nat_eq d.run place) (nat_eq d.ask number) (eq-eqb d.run place here) (eq-eqb d.ask number same) in
              let may = sym (ap (λ t. cond t (may_answer (node_names plan) (length plan.names) own s.imports ask.callee ask.procedure d) true) named_so) ∙ one_answers in
              let x = there_is (by_procedure (node_names plan) (length plan.names) own d (procedure_of_import s.imports ask.callee ask.procedure)) may in
              (x.0, ap (by_ask (node_names plan) (length plan.names) own s.imports d) is ∙ x.1)

-- ---- events

front_of : {X : Type 0} (P : X → Type 0) (xs ys : List X) → AllByRecursion P (xs ++ ys) → AllByRecursion P xs × AllByRecursion P ys
front_of P [] ys all = (tt, all)
front_of P (x ∷ xs) ys all = let others = front_of P xs ys all.1 in ((all.0, others.0), others.1)

each_some : {A B : Type 0} (f : A → Option B) (xs : List A) → AllByRecursion (λ x. (y : B) × (f x ≡ Some y)) xs → (ys : List B) × (each_read f xs ≡ Some ys)
each_some f [] all = ([], refl)
each_some f (x ∷ xs) all =
    let others = each_some f xs all.1 in
    let first = all.0 in
    (first.0 ∷ others.0, ap (λ o. from_some o (λ b. option_map (λ bs. b ∷ bs) (each_read f xs))) first.1 ∙ ap (option_map (λ bs. first.0 ∷ bs)) others.1)

pub events_told : (plan : Plan) (own : ℕ) (s : Signature) (kept : MemberRecord) (notes : List Noted) → AllByRecursion (IsTold plan own s kept) (said notes) → (events : List GivenEvent) × (events_of (node_names plan) (length plan.names) own s.imports kept notes ≡ Some events)
events_told plan own s kept notes all = each_some (event_of (node_names plan) (length plan.names) own s.imports kept) notes (each_event notes all)
  where
    each_event : (ns : List Noted) → AllByRecursion (IsTold plan own s kept) (said ns) → AllByRecursion (λ (n : Noted). (e : GivenEvent) × (event_of (node_names plan) (length plan.names) own s.imports kept n ≡ Some e)) ns
    each_event [] told = tt
    each_event (n ∷ ns) told =
        let parts = front_of (IsTold plan own s kept) n.differing (said ns) told in
        let ds = each_some (difference_read (node_names plan) (length plan.names) own s.imports kept) n.differing parts.0 in
        ((event_with n ds.0, ap (option_map (event_with n)) ds.1), each_event ns parts.1)

pub apart_told : (notes : List Noted) → said notes ≡ [] → (events : List GivenEvent) × (events_apart notes ≡ Some events)
apart_told notes none = each_some event_apart notes (each_event notes none)
  where
    one : (n : Noted) (ds : List Differing) (others : List Differing) → n.differing ≡ ds → ds ++ others ≡ [] → (event_apart n ≡ Some (event_with n [])) × (others ≡ [])
    one n [] others is nothing = (ap (λ xs. cond (nothing_differs xs) (Some (event_with n [])) None) is, nothing)
    one n (d ∷ ds) others is nothing = cc

    each_event : (ns : List Noted) → said ns ≡ [] → AllByRecursion (λ (n : Noted). (e : GivenEvent) × (event_apart n ≡ Some e)) ns
    each_event [] nothing = tt
    each_event (n ∷ ns) nothing =
        let x = one n n.differing (said ns) refl nothing in
        ((event_with n [], x.0), each_event ns x.1)
