-- A record that has grown says of what was the same as the record of then.
use Rattle.std.proofs.Common.{◌≡◌, ℕ, ◌<◌, ◌≤◌, inl, inr, List, ◌++◌, Some, refl, ◌∙◌, arith}
use Rattle.circus_value.specs.ValueTree.{ValueTree}
use Rattle.circus_value.specs.declared.outcome.Outcome.{Outcome}
use Rattle.circus_collate.specs.declared.view.View.{View}
use Rattle.circus_transfer.specs.declared.joiner.Joiner.{Joiner}
use Rattle.circus_model.specs.Behaviour.{IsModule}
use Rattle.circus_model.specs.NextTurn.{NextTurn}
use Rattle.circus_model.specs.declared.signature.Signature.{Signature}
use Rattle.circus_record.specs.declared.record.MemberRecord.{MemberRecord}
use Rattle.circus_performing.specs.Record.{behaviour}
use Rattle.circus_gather.specs.Gathering.{index_of}
use Rattle.circus_gather.specs.declared.held.HeldCall.{HeldCall}
use Rattle.circus_member_rules.specs.declared.place.Beginning.{Beginning}
use Rattle.circus_member_rules.specs.declared.place.Place.{Place}
use Rattle.circus_member_rules.specs.declared.occurrence.AskName.{AskName}
use Rattle.circus_member_rules.specs.declared.occurrence.Occurrence.{Occurrence}
use Rattle.circus_member_rules.specs.Happening.{IsHome}
use Rattle.circus_member_theory.specs.Past.{Past, followed, now, Rises}
use Rattle.circus_member_theory.specs.Living.{MayLive, kept_after, phase_at_boot}
use Rattle.circus_member_theory.specs.Asks.{calls_behind, open_asks}
use Rattle.circus_member_theory.specs.Order.{returns_at_once, executed_then, IsInOrder}
use Rattle.circus_member_theory.specs.Requests.{for_what_came, lookups}
use Rattle.circus_member_theory.specs.Returns.{reply_by}
use Rattle.circus_headline_theory.specs.Owed.Living.{makes_in}
use Rattle.circus_headline_theory.proofs.Owed.Calling.{AreCalled, called_all, made_same, waiting_same}
use Rattle.circus_headline_theory.proofs.Owed.CallsOwing.{open_same}
use Rattle.circus_headline_theory.proofs.Owed.Lives.{rises, IsStepped, step_is, known}
use Rattle.circus_headline_theory.proofs.Owed.Ordering.{in_order}
use Rattle.circus_headline_theory.proofs.Owed.OrderOwing.{order_same}
use Rattle.circus_headline_theory.proofs.Owed.Owing.{lookups_same}
use Rattle.circus_headline_theory.proofs.Owed.Status.{replies_same}
use Rattle.circus_headline_theory.proofs.Asks.{Callee, recorded, recorded_stays}

module _ (place : Place) (views : List View) (begins : Joiner) (state : List ValueTree) where
  -- by the end of a past the two say the same
  pub record SaysAs (p : Past) (old new : MemberRecord) : Type 0 where
    pub recorded_so : (name : AskName) (c : Callee) → recorded old name ≡ Some c → recorded new name ≡ Some c
    pub opens : (r : Past) → Rises r → now r ≤ now p → open_asks place views old r ≡ open_asks place views new r
    pub looks : (r : Past) → Rises r → now r ≤ now p → lookups place views begins old r ≡ lookups place views begins new r
    pub at_once : (r : Past) → Rises r → now r ≤ now p → returns_at_once place views begins state old r ≡ returns_at_once place views begins state new r
    pub executes : (r : Past) → Rises r → now r ≤ now p → executed_then place views begins state old r ≡ executed_then place views begins state new r

  pub says_same : (p : Past) (kept : MemberRecord) → SaysAs p kept kept
  says_same p kept = record { recorded_so = λ name c is. is; opens = λ r rise low. refl; looks = λ r rise low. refl; at_once = λ r rise low. refl; executes = λ r rise low. refl }

  -- so it is behind a longer past
  pub says_on : (p q : Past) (old new last : MemberRecord) → now p ≤ now q → SaysAs p old new → SaysAs q new last → SaysAs p old last
  says_on p q old new last below h k =
      record {
        recorded_so = λ name c is. k.recorded_so name c (h.recorded_so name c is);
        opens = λ r rise low. h.opens r rise low ∙ k.opens r rise (omega (arith, low, below));
        looks = λ r rise low. h.looks r rise low ∙ k.looks r rise (omega (arith, low, below));
        at_once = λ r rise low. h.at_once r rise low ∙ k.at_once r rise (omega (arith, low, below));
        executes = λ r rise low. h.executes r rise low ∙ k.executes r rise (omega (arith, low, below));
      }

module _ {M : Type 0} (declared : M → Signature) (turn : M → List ValueTree → ℕ → List ValueTree → List Outcome → NextTurn) (first : M → List ValueTree) (lawful : (hosted : M) → IsModule (behaviour declared turn first hosted))
    (place : Place) (views : List View) (beginning : Beginning) (hosted : M) (home : IsHome (declared hosted) place views) where
  abbrev kept_at : Past → MemberRecord
  kept_at p = kept_after declared turn first place views beginning hosted p

  abbrev begins : Joiner
  begins = phase_at_boot beginning

  -- ---- a step

  module _ (p : Past) (at : ℕ) (o : Occurrence) (may : MayLive declared turn first place views beginning hosted (followed p at o)) where
    c : AreCalled declared turn first lawful place views beginning hosted p
    c = called_all declared turn first lawful place views beginning hosted home p may.0

    s : IsStepped declared turn first lawful place views beginning hosted p at o
    s = step_is declared turn first lawful place views beginning hosted home p at o may (known declared turn first lawful place views beginning hosted home p may.0)

    replies_then : (call : HeldCall) (x : Past) → now x < at → reply_by place.troupe begins (kept_at p) call x ≡ reply_by place.troupe begins (kept_at (followed p at o)) call x
    replies_then call x below =
        replies_same at (kept_at p) (kept_at (followed p at o)) s.grown (elim s.carried.start [ inl same ↦ inl (s.same.start ∙ same) | inr none ↦ inr none ]) (index_of place.troupe call.header) x below

    pub says_then : SaysAs place views begins (first hosted) p (kept_at p) (kept_at (followed p at o))
    says_then =
        let later = may.1 in
        record {
          recorded_so = recorded_stays declared turn first lawful place views beginning hosted home p at o may;
          opens = λ r rise low. open_same place views (kept_at p) (kept_at (followed p at o)) at (made_same declared turn first lawful place views beginning hosted home p at o may c)
              (waiting_same declared turn first lawful place views beginning hosted home p at o may c) r rise (omega (arith, low, later));
          looks = λ r rise low. lookups_same place views begins (kept_at p) (kept_at (followed p at o)) at replies_then r rise (omega (arith, low, later));
          at_once = λ r rise low. (order_same declared turn first lawful place views beginning hosted home p at o may r rise (omega (arith, low, later))).at_once;
          executes = λ r rise low. (order_same declared turn first lawful place views beginning hosted home p at o may r rise (omega (arith, low, later))).executed;
        }

    -- what is made in it stands in its order, by a record that has grown since
    pub in_order_as : (kept : MemberRecord) → SaysAs place views begins (first hosted) (followed p at o) (kept_at (followed p at o)) kept
        → IsInOrder place views begins (first hosted) kept p at o (makes_in declared turn first place views beginning hosted p at o)
    in_order_as kept says =
        let q = followed p at o in
        let later = may.1 in
        let rise = rises declared turn first lawful place views beginning hosted q may in
        let i = in_order declared turn first lawful place views beginning hosted home p at o may in
        let opens = says.opens p rise.0 (omega (arith, later)) in
        let looks = says.looks q rise (omega arith) in
        let at_once = says.at_once q rise (omega arith) in
        let executes = says.executes q rise (omega arith) in
        i ∙ (λ j. (((calls_behind place views q (opens j) ++ for_what_came place views begins q) ++ at_once j) ++ executes j) ++ looks j)
