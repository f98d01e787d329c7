-- One run starts in a step: it is entered by the call that is given, and waits then, or ends and others start behind it.
use Rattle.std.proofs.Common.{◌≡◌, ℕ, suc, ◌+◌, ◌<◌, ◌≤◌, ◌⊎◌, inl, inr, List, [], ◌∷◌, ◌++◌, length, Option, None, Some, refl, sym, ap, subst, ◌∙◌, arith, append_assoc, append-nil}
use Rattle.std.specs.Prelude.{slice_get, IsSomeAnd}
use Rattle.std.proofs.lemmas.Bool.{cases_lt}
use Rattle.std.proofs.lemmas.List.Elements.{All-nil, All-cons}
use Rattle.std.proofs.lemmas.Option.{same_Some, slice_get_within}
use Rattle.circus_value.specs.ValueTree.{ValueTree}
use Rattle.circus_collate.specs.declared.view.View.{View}
use Rattle.circus_transfer.specs.declared.joiner.Joiner.{Joiner}
use Rattle.circus_model.specs.declared.signature.ProcedureShape.{ProcedureShape}
use Rattle.circus_record.specs.declared.record.MemberRecord.{MemberRecord}
use Rattle.circus_record.specs.declared.record.RunRecord.{RunRecord}
use Rattle.circus_gather.specs.declared.held.HeldCall.{HeldCall}
use Rattle.circus_fanout.specs.Asking.{Asking}
use Rattle.circus_performing.specs.Record.{start_of, count_after}
use Rattle.circus_member_rules.specs.declared.place.Place.{Place}
use Rattle.circus_member_rules.specs.declared.occurrence.AskName.{AskName}
use Rattle.circus_member_rules.specs.declared.occurrence.Effect.{Effect}
use Rattle.circus_member_rules.specs.declared.occurrence.Occurrence.{Occurrence}
use Rattle.circus_member_rules.specs.Step.{start_by_call}
use Rattle.circus_member_theory.specs.Past.{Past, followed}
use Rattle.circus_member_theory.specs.Asks.{is_new, asks_of}
use Rattle.circus_member_theory.specs.Timely.{may_start}
use Rattle.circus_dues.specs.Calls.{ends_among}
use Rattle.circus_dues.specs.Walk.{IsBy, StartsInStep, made_by_each}
use Rattle.circus_dues.specs.declared.owing.Owing.{Owing}
use Rattle.circus_dues.specs.Seen.Owing.{begun}
use Rattle.circus_dues.proofs.CallsEnding.{started_amid}
use Rattle.circus_dues.proofs.StepStartingNext.{between, StandsBefore}
use Rattle.circus_dues.proofs.StepStartingOrder.{drop_there, not_both, rest_of, all_later, next_behind}
use Rattle.circus_dues.proofs.Stages.{IsGoingOn, IsAmid, HasGone, EndsNow, WaitsNow, HaveStarted, AllEnd, LastWaits, new_of}

module _ (place : Place) (boot : List View) (begins : Joiner) (first : List ValueTree) (procedures : List ProcedureShape) (at_boot : ℕ) (kept : MemberRecord) (p : Past) (at : ℕ) (o : Occurrence)
    (going : IsGoingOn place boot begins at_boot kept p at) where
  abbrev q : Past
  q = followed p at o

  abbrev Amid : List (AskName × Asking) → Option ℕ → Owing → Type 0
  Amid = IsAmid place boot begins first procedures at_boot kept p at o

  abbrev Ends : ℕ → RunRecord → List (AskName × Asking) → Owing → Type 0
  Ends = EndsNow place boot begins first procedures at_boot kept p at o

  abbrev Waits : ℕ → RunRecord → List (AskName × Asking) → Owing → Type 0
  Waits = WaitsNow place boot begins first procedures at_boot kept p at o

  abbrev Started : ℕ → List (AskName × Asking) → Owing → List Effect → Owing → Type 0
  Started = HaveStarted place boot begins first procedures at_boot kept p at o

  abbrev new : ℕ → RunRecord → List (AskName × Asking)
  new = new_of place boot begins first procedures at_boot kept p at o

  -- it has an index
  index_is : (number : ℕ) (run : RunRecord) (d : Owing) → slice_get kept.runs number ≡ Some run → d.walk.ended ≡ number → count_after kept.from d.walk.ended ≡ kept.from + number
  index_is number run d there same =
      let few = going.lawful.few in
      let below = slice_get_within kept.runs number run there in
      omega (arith, few, below, same)

  -- nothing else changes as it is entered
  pub amid_begun : (number : ℕ) (run : RunRecord) (before : List (AskName × Asking)) (d : Owing) → slice_get kept.runs number ≡ Some run → d.walk.ended ≡ number → Amid before None d → Amid before (Some (kept.from + number)) (begun kept d)
  amid_begun number run before d there same a =
      record {
        known = a.known;
        asks = a.asks;
        calls = started_amid place boot begins first kept p at o going.rises going.later (ends_among kept at d.walk.ended) d.calls.gathered a.calls (count_after kept.from d.walk.ended);
        opens = ap Some (index_is number run d there same);
        phase_is = a.phase_is;
        began_is = a.began_is;
      }

  module _ (number : ℕ) (run : RunRecord) (there : slice_get kept.runs number ≡ Some run) (call : HeldCall) (gives : may_start place boot begins kept number q ≡ Some call) (started : run.started ≡ at) (so : start_of run ≡ start_by_call place.troupe procedures call)
      (before : List (AskName × Asking)) (d : Owing) (effects : List Effect) (e : Owing) (h : HasGone place boot begins first procedures at_boot kept p at o number run before (begun kept d) effects e) where
    in_step : StartsInStep place boot begins procedures at_boot kept q number run
    in_step =
        record {
          starts_now = λ _. subst (λ c. IsSomeAnd c (λ (call : HeldCall). start_of run ≡ start_by_call place.troupe procedures call)) (sym gives) so;
          not_yet = λ late. absurd (omega (arith, late, started));
        }

    -- it waits
    pub last_waits : Waits number run (before ++ new number run) e → Started number before d (effects ++ []) e
    last_waits w =
        record {
          starting = run ∷ [];
          later = rest_of kept going.order number run there;
          are = drop_there kept.runs number run there;
          timely = h.timely;
          start_now = All-cons (λ (run : RunRecord). run.started ≡ at) run [] started (All-nil (λ (run : RunRecord). run.started ≡ at));
          start_later = all_later kept going.order number run there at w.stands.1;
          starts = (in_step, λ early. absurd (not_both at run.ended w.stands.1 early));
          answered = (h.answered, tt);
          made = ap (λ l. l ++ []) h.made;
          requests = h.requests;
          stands = inr (record {
            front = [];
            last = run;
            are = refl;
            end = All-nil (λ (run : RunRecord). run.ended ≡ Some at);
            waits = subst (λ n. Waits n run (before ++ (new number run ++ [])) e) still
                (subst (λ l. Waits number run (before ++ l) e) (sym (append-nil (new number run))) w);
          });
        }
      where
        still : number ≡ number + 0
        still = omega arith

    -- it ends, and others start behind it
    pub others_start : (f : Owing) (others : List Effect) → run.ended ≡ Some at → Started (suc number) (before ++ new number run) e others f → Started number before d (effects ++ others) f
    others_start f others ends k =
        record {
          starting = run ∷ k.starting;
          later = k.later;
          are = drop_there kept.runs number run there ∙ ap (λ l. run ∷ l) k.are;
          timely = k.timely;
          start_now = All-cons (λ (run : RunRecord). run.started ≡ at) run k.starting started k.start_now;
          start_later = k.start_later;
          starts = (in_step, λ _. k.starts);
          answered = (h.answered, k.answered);
          made = λ j. h.made j ++ (k.made ∙ ap (λ i. made_by_each place boot begins first kept q i k.starting) next_index) j;
          requests = k.requests ∙ h.requests;
          stands = by_end k.stands;
        }
      where
        next_index : kept.from + suc number ≡ kept.from + number + 1
        next_index = omega arith

        further : (n : ℕ) → suc number + n ≡ number + suc n
        further n = omega arith

        all_new : List (AskName × Asking)
        all_new = before ++ (new number run ++ asks_of place (is_new q) (kept.from + number + 1) k.starting)

        new_is : (before ++ new number run) ++ asks_of place (is_new q) (kept.from + suc number) k.starting ≡ all_new
        new_is =
            append_assoc before (new number run) (asks_of place (is_new q) (kept.from + suc number) k.starting)
            ∙ ap (λ i. before ++ (new number run ++ asks_of place (is_new q) i k.starting)) next_index

        by_end : AllEnd place boot begins first procedures at_boot kept p at o (suc number) k.starting ((before ++ new number run) ++ asks_of place (is_new q) (kept.from + suc number) k.starting) f
            ⊎ LastWaits place boot begins first procedures at_boot kept p at o (suc number) k.starting ((before ++ new number run) ++ asks_of place (is_new q) (kept.from + suc number) k.starting) f
            → AllEnd place boot begins first procedures at_boot kept p at o number (run ∷ k.starting) all_new f ⊎ LastWaits place boot begins first procedures at_boot kept p at o number (run ∷ k.starting) all_new f
        by_end (inl a) =
            inl (record {
              end = All-cons (λ (run : RunRecord). run.ended ≡ Some at) run k.starting ends a.end;
              walk = a.walk ∙ ap between (further (length k.starting));
              amid = subst (λ l. Amid l None f) new_is a.amid;
            })
        by_end (inr w) =
            inr (record {
              front = run ∷ w.front;
              last = w.last;
              are = ap (λ l. run ∷ l) w.are;
              end = All-cons (λ (run : RunRecord). run.ended ≡ Some at) run w.front ends w.end;
              waits = subst (λ n. Waits n w.last all_new f) (further (length w.front))
                  (subst (λ l. Waits (suc number + length w.front) w.last l f) new_is w.waits);
            })

    -- the next one stands before its start
    pub stands_next : StandsBefore place boot begins first procedures at_boot kept p at o number before d → Ends number run (before ++ new number run) e → StandsBefore place boot begins first procedures at_boot kept p at o (suc number) (before ++ new number run) e
    stands_next s n =
        record {
          timely = h.timely;
          walk = n.walk ∙ ap between next;
          few = (let below = slice_get_within kept.runs number run there in omega (arith, below));
          enough = (let low = s.enough in omega (arith, low));
          ended = λ m r below is. by_place m r is below (cases_lt m number);
          next = next_behind kept going.order number run there at n.ends;
          amid = n.amid;
        }
      where
        next : number + 1 ≡ suc number
        next = omega arith

        by_place : (m : ℕ) (r : RunRecord) → slice_get kept.runs m ≡ Some r → m < suc number → (m < number) ⊎ (number ≤ m) → IsBy at r.ended
        by_place m r is below (inl low) = s.ended m r low is
        by_place m r is below (inr high) =
            let same : number ≡ m = omega (arith, below, high) in
            let now_so : at ≤ at = omega arith in
            subst (λ (x : RunRecord). IsBy at x.ended) (same_Some run r (sym there ∙ ap (slice_get kept.runs) same ∙ is)) (subst (IsBy at) (sym n.ends) now_so)
