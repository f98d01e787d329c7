-- What a member tells in each step are the differences of its past.
use Rattle.std.proofs.Common.{◌≡◌, ℕ, ◌<◌, List, ◌++◌, refl, sym, ap, ◌∙◌, arith}
use Rattle.std.specs.Option.{option_to_list}
use Rattle.circus_value.specs.ValueTree.{ValueTree}
use Rattle.circus_value.specs.declared.outcome.Outcome.{Outcome}
use Rattle.circus_collate.specs.declared.view.View.{View}
use Rattle.circus_model.specs.declared.signature.Signature.{Signature}
use Rattle.circus_model.specs.NextTurn.{NextTurn}
use Rattle.circus_model.specs.Behaviour.{IsModule}
use Rattle.circus_record.specs.declared.record.MemberRecord.{MemberRecord}
use Rattle.circus_performing.specs.Record.{behaviour}
use Rattle.circus_member_rules.specs.declared.place.Place.{Place}
use Rattle.circus_member_rules.specs.declared.place.Beginning.{Beginning}
use Rattle.circus_member_rules.specs.declared.occurrence.Occurrence.{Occurrence}
use Rattle.circus_member_rules.specs.declared.occurrence.Occurrence.TheVariants as comes
use Rattle.circus_member_rules.specs.Happening.{IsHome}
use Rattle.circus_member_rules.specs.MemberState.{MemberState}
use Rattle.circus_member_rules.specs.Step as step
use Rattle.circus_member_theory.specs.Past.{Past, booted, followed, now, Rises}
use Rattle.circus_member_theory.specs.Living.{after, kept_after, MayLive}
use Rattle.circus_member_theory.specs.Asks.{is_waiting, asks_of, new_asks}
use Rattle.circus_member_theory.specs.Differences.{differences}
use Rattle.circus_headline_theory.specs.Owed.Living.{told_in, told_by}
use Rattle.circus_headline_theory.proofs.Owed.Calling.{called_all, made_same, waiting_same, asks_then}
use Rattle.circus_headline_theory.proofs.Owed.CallsOwing.{open_same}
use Rattle.circus_headline_theory.proofs.Owed.Differing.{told_of, told_now}
use Rattle.circus_headline_theory.proofs.Owed.Lives.{rises}

-- the same is told by a record that has grown
module _ (place : Place) (boot : List View) (old new : MemberRecord) (step : ℕ)
    (made : (r : Past) → now r < step → new_asks place boot old r ≡ new_asks place boot new r)
    (waiting : (r : Past) → now r < step → asks_of place (is_waiting r) old.from old.runs ≡ asks_of place (is_waiting r) new.from new.runs) where
  differences_same : (r : Past) → Rises r → now r < step → differences place boot old r ≡ differences place boot new r
  differences_same booted rise below = refl
  differences_same (followed p at o) rise below =
      let before : now p < step = omega (arith, rise.1, below) in
      let rest = differences_same p rise.0 before in
      let asks = open_same place boot old new step made waiting p rise.0 before in
      let last = told_now place boot old p rise.0 at o ∙ ap (λ l. option_to_list (told_of l o)) asks ∙ sym (told_now place boot new p rise.0 at o) in
      λ j. rest j ++ told_in at (last j)

by_asks : {M : Type 0} (o : Occurrence) (m : MemberState M) → step.difference o m ≡ told_of m.asks o
by_asks (comes.Replied name from reply) m = refl
by_asks (comes.Asked header body sender) m = refl
by_asks (comes.Fetched incarnation sender) m = refl
by_asks (comes.IsStale name server from incarnation) m = refl
by_asks (comes.IsBefore name from) m = refl
by_asks (comes.Told request table) m = refl
by_asks (comes.Restored state count) m = refl
by_asks (comes.Declared node) m = refl
by_asks comes.Joins m = refl

module _ {M : Type 0} (declared : M → Signature) (turn : M → List ValueTree → ℕ → List ValueTree → List Outcome → NextTurn) (first : M → List ValueTree)
    (lawful : (hosted : M) → IsModule (behaviour declared turn first hosted)) (place : Place) (views : List View) (beginning : Beginning) (hosted : M)
    (home : IsHome (declared hosted) place views) where
  pub told_all : (p : Past) → MayLive declared turn first place views beginning hosted p
      → told_by declared turn first place views beginning hosted p ≡ differences place views (kept_after declared turn first place views beginning hosted p) p
  told_all booted may = refl
  told_all (followed p at o) may =
      let old = kept_after declared turn first place views beginning hosted p in
      let new = kept_after declared turn first place views beginning hosted (followed p at o) in
      let called = called_all declared turn first lawful place views beginning hosted home p may.0 in
      let made = made_same declared turn first lawful place views beginning hosted home p at o may called in
      let waiting = waiting_same declared turn first lawful place views beginning hosted home p at o may called in
      let asks = asks_then declared turn first lawful place views beginning hosted home p at o may called in
      let rise = rises declared turn first lawful place views beginning hosted p may.0 in
      let before = told_all p may.0 ∙ differences_same place views old new at made waiting p rise may.1 in
      let last = ap (λ x. option_to_list x) (by_asks o (after declared turn first place views beginning hosted p)) ∙ ap (λ l. option_to_list (told_of l o)) asks
      ∙ sym (told_now place views new p rise at o) in
      λ j. before j ++ told_in at (last j)
