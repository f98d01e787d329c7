-- What a node by itself makes is what its member owes.
use Rattle.std.proofs.Common.{◌≡◌, ℕ, ◌<◌, ◌≤◌, List, [], ◌∷◌, ◌++◌, Option, None, Some, refl, sym, ap, subst, ◌∙◌, arith, append_assoc, append-nil}
use Rattle.std.specs.Prelude.{slice_get, option_map, option_and_then}
use Rattle.circus_value.specs.ValueTree.{ValueTree}
use Rattle.circus_value.specs.declared.outcome.Outcome.{Outcome}
use Rattle.circus_collate.specs.declared.deployment.Deployment.{Deployment}
use Rattle.circus_collate.specs.declared.deployment.Troupe.{Troupe}
use Rattle.circus_ring.specs.RingTable.{boot_views}
use Rattle.circus_model.specs.Behaviour.{IsModule}
use Rattle.circus_model.specs.NextTurn.{NextTurn}
use Rattle.circus_model.specs.declared.signature.Signature.{Signature}
use Rattle.circus_record.specs.declared.record.MemberRecord.{MemberRecord}
use Rattle.circus_performing.specs.Record.{behaviour}
use Rattle.circus_member_rules.specs.declared.occurrence.Difference.{Difference}
use Rattle.circus_member_rules.specs.declared.occurrence.Effect.{Effect}
use Rattle.circus_member_rules.specs.declared.occurrence.Occurrence.{Occurrence}
use Rattle.circus_member_rules.specs.Happening.{IsHome}
use Rattle.circus_member_rules.specs.MemberState.{MemberState}
use Rattle.circus_node.specs.Accepting.{troupe_at}
use Rattle.circus_node.specs.Booting.{beginning_in, home_in, made_at_boot}
use Rattle.circus_node.specs.NodeState.{Acting, member, ringmaster, NodeState, member_record}
use Rattle.circus_node.specs.Trace.{effects_in, effects_at_boot}
use Rattle.circus_member_theory.specs.Past.{Past, booted, now}
use Rattle.circus_member_theory.specs.Living.{kept_after}
use Rattle.circus_member_theory.specs.Made.{AreDistinct}
use Rattle.circus_headline_theory.specs.Owed.Living.{made_in, told_in}
use Rattle.circus_headline_theory.proofs.Owed.Calling.{called_all}
use Rattle.circus_headline_theory.proofs.Owed.Requesting.{asked_all}
use Rattle.circus_headline_theory.proofs.Owed.States.{are_returned}
use Rattle.circus_headline_theory.proofs.Owed.Telling.{told_all}
use Rattle.circus_world_theory.specs.Happened.{happens_by, with_one}
use Rattle.circus_world_theory.specs.NodeLives.{Events, Rising, Comes, with_rest, with_events, past_behind, IsLife}
use Rattle.circus_world_theory.proofs.Timely.Lives.{NodeLives}
use Rattle.circus_world_theory.proofs.Timely.Nodes.{at_home, Goes, goes_on, life_numbers, life_goes, goes_begun}
use Rattle.circus_headline_theory.specs.Owed.Makes.{then_on, given_by, makes, tells}
use Rattle.circus_headline_theory.specs.Owed.Owes.{MakesWhatIsOwed, NodeMakesWhatIsOwed}
use Rattle.circus_headline_theory.proofs.Owed.Making.{made, told, step_tells, grows}

module _ {M : Type 0} (declared : M → Signature) (turn : M → List ValueTree → ℕ → List ValueTree → List Outcome → NextTurn) (first : M → List ValueTree)
    (lawful : (hosted : M) → IsModule (behaviour declared turn first hosted)) (d : Deployment) (node number : ℕ) (troupe : Troupe) (own : M) where
  abbrev all_made : Past → List (ℕ × Effect)
  all_made p = made declared turn first lawful d node number troupe own p

  abbrev all_told : Past → List (ℕ × Difference)
  all_told p = told declared turn first lawful d node number troupe own p

  abbrev Going : Past → NodeState M → Type 0
  Going p n = Goes declared turn first lawful d node number troupe own p n

  -- what is owed by a member that lives a past, in which no two calls were of one caller
  pub owed_all : IsHome (declared own) (home_in d node number troupe).place (boot_views d.troupes) → (p : Past) → AreDistinct p → (a : Acting M) (kept : MemberRecord)
      → NodeLives declared turn first lawful d node number troupe own p a → member_record a ≡ Some kept
      → MakesWhatIsOwed d node number troupe (first own) kept p (all_made p) (all_told p)
  owed_all home p distinct (member m) kept l is =
      let place = (home_in d node number troupe).place in
      let views = boot_views d.troupes in
      let beginning = beginning_in troupe node in
      let same : kept_after declared turn first place views beginning own p ≡ kept =
      ap (λ (x : MemberState M). x.performing.kept) (sym l.is) ∙ (let e : m.performing.kept ≡ kept = cc in e) in
      subst (λ (k : MemberRecord). MakesWhatIsOwed d node number troupe (first own) k p (all_made p) (all_told p)) same
      (record {
        returned = are_returned declared turn first lawful place views beginning own home p l.may distinct;
        requested = record { requests = (asked_all declared turn first lawful place views beginning own home p l.may).made };
        asked = record { calls = (called_all declared turn first lawful place views beginning own home p l.may).calls };
        differed = told_all declared turn first lawful place views beginning own home p l.may;
      })
  owed_all home p distinct (ringmaster kept_ring) kept l is = absurd l

  -- ---- along events

  record IsMade (p : Past) (events : Events) (n : NodeState M) : Type 0 where
    pub makes_so : all_made p ++ makes declared turn events n ≡ all_made (with_events declared turn p events n)
    pub tells_so : all_told p ++ tells declared turn events n ≡ all_told (with_events declared turn p events n)

  no_later : (p : Past) (step : ℕ) (o : Option Occurrence) → now p < step → now (with_one p step o) ≤ step
  no_later p step None later = omega (arith, later)
  no_later p step (Some o) later = omega arith

  is_made : (p : Past) (at : ℕ) (events : Events) (n last : NodeState M) → now p ≤ at → Rising at events → Going p n → Comes declared turn events n last → IsMade p events n
  is_made p at [] n last before rising h come = record { makes_so = append-nil (all_made p); tells_so = append-nil (all_told p) }
  is_made p at (next ∷ events) n last before rising h come =
      let later : now p < next.0 = omega (arith, before, rising.0) in
      let o = happens_by declared next.1 n in
      let q = with_one p next.0 o in
      let ended = come.0 in
      let g = grows declared turn first lawful d node number troupe own p next.0 next.1 n h.lives in
      let rest = is_made q next.0 events ended.0 last (no_later p next.0 o later) rising.1 (goes_on declared turn first lawful d node number troupe own p next.0 next.1 n ended later come.1 h come.2) come.3 in
      let e = come.2 in
      let now_made = made_in next.0 (effects_in declared turn next.0 next.1 n) in
      record {
        makes_so = (λ j. all_made p ++ then_on now_made (makes declared turn events) (e j))
            ∙ sym (append_assoc (all_made p) now_made (makes declared turn events ended.0))
            ∙ ap (λ l. l ++ makes declared turn events ended.0) g.makes
            ∙ rest.makes_so
            ∙ (λ j. all_made (with_rest declared turn (with_events declared turn q events) p (sym e j)));
        tells_so = (λ j. all_told p ++ then_on (told_in next.0 (given_by (e j))) (tells declared turn events) (e j))
            ∙ sym (append_assoc (all_told p) (told_in next.0 ended.1.differences) (tells declared turn events ended.0))
            ∙ (λ j. (all_told p ++ told_in next.0 (step_tells declared turn next.0 next.1 n ended e j)) ++ tells declared turn events ended.0)
            ∙ ap (λ l. l ++ tells declared turn events ended.0) g.tells
            ∙ rest.tells_so
            ∙ (λ j. all_told (with_rest declared turn (with_events declared turn q events) p (sym e j)));
      }

  -- at boot
  pub boot_made : troupe_at d node ≡ Some number → slice_get d.troupes number ≡ Some troupe → made_in 0 (effects_at_boot declared turn first d (Some own) node) ≡ all_made booted
  boot_made hosts there =
      let home_is = ap (option_and_then (λ n. option_map (home_in d node n) (slice_get d.troupes n))) hosts ∙ ap (option_map (home_in d node number)) there in
      ap (λ h. made_in 0 (made_at_boot declared turn first d h (Some own)).came.effects) home_is

module _ {M : Type 0} (declared : M → Signature) (turn : M → List ValueTree → ℕ → List ValueTree → List Outcome → NextTurn) (first : M → List ValueTree)
    (lawful : (hosted : M) → IsModule (behaviour declared turn first hosted)) where
  pub node_makes_what_is_owed : (d : Deployment) (own : M) (node : ℕ) (events : Events) (begun last : NodeState M) → IsLife declared turn first d own node events begun last
      → NodeMakesWhatIsOwed declared turn first d own node events begun last
  node_makes_what_is_owed d own node events begun last life number troupe kept hosts there is =
      let home = at_home declared turn first lawful d node number troupe own hosts there life.can.deployment (life.can.fits number (declared own) hosts refl) in
      let goes = life_goes declared turn first lawful d node number troupe own events begun last life hosts there home in
      let begins = goes_begun declared turn first lawful d node number troupe own events begun last life hosts there home in
      let p = past_behind declared turn events begun in
      let m = is_made declared turn first lawful d node number troupe own booted 0 events begun last (omega arith) life.rising begins life.comes in
      let made_so = ap (λ l. l ++ makes declared turn events begun) (boot_made declared turn first lawful d node number troupe own hosts there) ∙ m.makes_so in
      let distinct = (life_numbers declared turn first d own node events begun last life).distinct in
      let o = owed_all declared turn first lawful d node number troupe own home p distinct last.acting kept goes.lives is in
      subst (λ l. MakesWhatIsOwed d node number troupe (first own) kept p l (tells declared turn events begun)) (sym made_so)
      (subst (λ l. MakesWhatIsOwed d node number troupe (first own) kept p (made declared turn first lawful d node number troupe own p) l) (sym m.tells_so) o)
