-- The runs of a record that is lawful and in time come one after the other, and so do the asks of each.
use Rattle.std.proofs.Common.{◌≡◌, ℕ, ◌≤◌, ◌⊎◌, inl, inr, false, List, [], ◌∷◌, ◌++◌, All, Option, None, Some, refl, sym, ap, subst, ◌∙◌, arith, append_assoc}
use Rattle.std.specs.Prelude.{slice_index_or, is_none, unwrap_or}
use Rattle.std.proofs.lemmas.Option.{same_Some, slice_get-get_or}
use Rattle.circus_value.specs.ValueTree.{ValueTree}
use Rattle.circus_collate.specs.declared.view.View.{View}
use Rattle.circus_transfer.specs.declared.joiner.Joiner.{Joiner}
use Rattle.circus_model.specs.Behaviour.{Behaviour}
use Rattle.circus_model.specs.declared.signature.ProcedureShape.{ProcedureShape}
use Rattle.circus_record.specs.declared.record.AskRecord.{AskRecord}
use Rattle.circus_record.specs.declared.record.MemberRecord.{MemberRecord}
use Rattle.circus_record.specs.declared.record.RunRecord.{RunRecord}
use Rattle.circus_performing.specs.Performing.{step_after, state_after, is_active}
use Rattle.circus_performing.specs.Record.{HasEnded, IsOpen}
use Rattle.circus_performing.proofs.Ends.{latest_more}
use Rattle.circus_member_rules.specs.declared.place.Place.{Place}
use Rattle.circus_member_theory.specs.Past.{Past}
use Rattle.circus_dues.specs.Walk.{AskOneByOne, IsRunInOrder, RunOneByOne}
use Rattle.circus_headline_theory.proofs.Agree.{IsOneOf, ask, answered_after, last_waits, x_is, next_starts}
use Rattle.circus_headline_theory.proofs.One.{none_is_some}

module _ (place : Place) (boot : List View) (begins : Joiner) (procedures : List ProcedureShape) (at_boot : ℕ) (b : Behaviour) (few : at_boot ≤ 1) (active_boot : is_active begins ≡ false → at_boot ≡ 0)
    (state : List ValueTree) (p : Past) (kept : MemberRecord) (h : IsOneOf place boot begins procedures at_boot b few active_boot state p kept) where
  module _ (before : List RunRecord) (x : RunRecord) (rest : List RunRecord) (are : kept.runs ≡ before ++ x ∷ rest) where
    asks_one_by_one : (made asks : List AskRecord) → x.asks ≡ made ++ asks → AskOneByOne (step_after x.started made) asks
    asks_one_by_one made [] there = tt
    asks_one_by_one made (c ∷ cs) there =
        let is = ask place boot begins procedures at_boot b few active_boot state p kept h before x rest are made c cs there in (
          is.is_made.asked,
          by_answer is.is_made.asked (answered_after place boot begins procedures at_boot b few active_boot state p kept h before x rest are made c cs there) c.answered refl,
          last_waits place boot begins procedures at_boot b few active_boot state p kept h before x rest are made c cs there,
          subst (λ n. AskOneByOne n cs) (latest_more (λ (a : AskRecord). a.answered) x.started made c) (asks_one_by_one (made ++ c ∷ []) cs (there ∙ sym (append_assoc made (c ∷ []) cs))),
        )
      where
        by_answer : c.asked ≡ step_after x.started made → ((m : ℕ) → c.answered ≡ Some m → c.asked ≤ m) → (o : Option ℕ) → c.answered ≡ o → step_after x.started made ≤ unwrap_or o (step_after x.started made)
        by_answer asked each None is = omega arith
        by_answer asked each (Some m) is = (let low = each m is in omega (arith, low, asked))

    run_in_order : IsRunInOrder x
    run_in_order =
        record {
          asks_so = asks_one_by_one [] x.asks refl;
          ended_so = λ step is. ended (x_is place boot begins procedures at_boot b few active_boot state p kept h before x rest are) step is;
          answered_so = λ step is. answered (x_is place boot begins procedures at_boot b few active_boot state p kept h before x rest are) step is;
        }
      where
        ended : HasEnded b (state_after state before) x ⊎ IsOpen b (state_after state before) x → (step : ℕ) → x.ended ≡ Some step → step ≡ step_after x.started x.asks
        ended (inl e) step is = same_Some step (step_after x.started x.asks) (sym is ∙ e.ended_is)
        ended (inr o) step is = absurd (none_is_some x.ended step o.not_ended is)

        answered : HasEnded b (state_after state before) x ⊎ IsOpen b (state_after state before) x → (step : ℕ) → x.ended ≡ Some step → All (λ (a : AskRecord). is_none a.answered ≡ false) x.asks
        answered (inl e) step is k d below =
            let a : AskRecord = slice_index_or x.asks k d in
            ap is_none ((e.made.asks_so k a (slice_get-get_or x.asks k d below)).1.answered_is)
        answered (inr o) step is k d below = absurd (none_is_some x.ended step o.not_ended is)

  one_by_one_from : (from : ℕ) (before rest : List RunRecord) → kept.runs ≡ before ++ rest → ((x : RunRecord) (xs : List RunRecord) → rest ≡ x ∷ xs → from ≤ x.started) → RunOneByOne from rest
  one_by_one_from from before [] are low = tt
  one_by_one_from from before (x ∷ rest) are low = (
    low x rest refl,
    run_in_order before x rest are,
    last rest are,
    one_by_one_from (unwrap_or x.ended x.started) (before ++ x ∷ []) rest (are ∙ sym (append_assoc before (x ∷ []) rest)) (λ z zs is. next z zs (are ∙ ap (λ l. before ++ x ∷ l) is)),
  )
    where
      next : (z : RunRecord) (zs : List RunRecord) → kept.runs ≡ before ++ x ∷ z ∷ zs → unwrap_or x.ended x.started ≤ z.started
      next z zs is =
          let n = next_starts place boot begins procedures at_boot b few active_boot state p kept h before x z zs is in
          let at : unwrap_or x.ended x.started ≡ n.ended = ap (λ o. unwrap_or o x.started) n.is in
          let below = n.below in
          omega (arith, at, below)

      last : (rest : List RunRecord) → kept.runs ≡ before ++ x ∷ rest → x.ended ≡ None → rest ≡ []
      last [] is none = refl
      last (z ∷ zs) is none =
          let n = next_starts place boot begins procedures at_boot b few active_boot state p kept h before x z zs is in
          absurd (none_is_some x.ended n.ended none n.is)

  pub runs_one_by_one : RunOneByOne 0 kept.runs
  runs_one_by_one = one_by_one_from 0 [] kept.runs refl (λ x xs is. omega arith)
