-- There is one trace with given events that goes as a record says.
use Rattle.std.proofs.Common.{◌≡◌, ℕ, inl, inr, List, Option, None, Some, sym, subst, ◌∙◌}
use Rattle.circus_collate.specs.declared.deployment.Deployment.{Deployment}
use Rattle.circus_collate.specs.declared.deployment.Troupe.{Troupe}
use Rattle.circus_model.specs.Behaviour.{Behaviour}
use Rattle.circus_record.specs.declared.record.MemberRecord.{MemberRecord}
use Rattle.circus_wire.specs.Wire.{Beginning}
use Rattle.circus_member_rules.specs.declared.occurrence.Effect.{Effect}
use Rattle.circus_member_rules.specs.declared.occurrence.Occurrence.{Occurrence}
use Rattle.circus_node.specs.Trace.{Trace, booted, stepped}
use Rattle.circus_node.specs.declared.event.Event.{Event}
use Rattle.circus_node.specs.declared.event.Outputs.{Outputs}
use Rattle.circus_member_theory.specs.Past.{Past}
use Rattle.circus_world_theory.specs.Histories.{beginning_of}
use Rattle.circus_headline_theory.specs.NodeRun.{IsOrderedFor}
use Rattle.circus_headline_theory.specs.Trace.{acts_of, suspects_in, SendsWhatIsOwed}
use Rattle.circus_dues.specs.NodeRuns.{lived, happens, GoesSo, SaySame, BeginsWith}

-- ---- a trace as it began

-- what sends as it owes has done so from the beginning
pub sends_before : (pairs : Beginning) (t u : Trace) → BeginsWith t u → SendsWhatIsOwed pairs t → SendsWhatIsOwed pairs u
sends_before pairs (booted made outputs) u same sends = subst (SendsWhatIsOwed pairs) (sym same) sends
sends_before pairs (stepped t at event made outputs) u (inl same) sends = subst (SendsWhatIsOwed pairs) (sym same) sends
sends_before pairs (stepped t at event made outputs) u (inr began) sends = sends_before pairs t u began sends.0

module _ (d : Deployment) (b : Behaviour) (node number : ℕ) (troupe : Troupe) (kept : MemberRecord) where
  abbrev pairs : Beginning
  pairs = beginning_of d node

  abbrev GoesBy : Trace → Type 0
  GoesBy t = GoesSo d b node number troupe kept t

  abbrev lives : Trace → Past
  lives t = lived d b node number troupe kept t

  -- and what goes as the record says
  pub goes_before : (t u : Trace) → BeginsWith t u → GoesBy t → GoesBy u
  goes_before (booted made outputs) u same goes = subst GoesBy (sym same) goes
  goes_before (stepped t at event made outputs) u (inl same) goes = subst GoesBy (sym same) goes
  goes_before (stepped t at event made outputs) u (inr began) goes = goes_before t u began goes.0

  -- ---- one trace

  -- what was made of the same is the same
  same_order : (p : Past) (at : ℕ) (made others : List Effect) (o : Option Occurrence) → IsOrderedFor d b node number troupe kept p at made o → IsOrderedFor d b node number troupe kept p at others o → made ≡ others
  same_order p at made others None one other = one ∙ sym other
  same_order p at made others (Some o) one other = one ∙ sym other

  same_outputs : (outputs sent : Outputs) → outputs.gives ≡ sent.gives → outputs.suspects ≡ sent.suspects → outputs.differences ≡ sent.differences → outputs ≡ sent
  same_outputs outputs sent gives suspects told = λ j. record { gives = gives j; suspects = suspects j; differences = told j }

  same_step : (t u : Trace) (at step : ℕ) (event other : Event) (made others : List Effect) (outputs sent : Outputs) → t ≡ u → at ≡ step → event ≡ other → outputs.gives ≡ sent.gives → outputs.differences ≡ sent.differences
      → IsOrderedFor d b node number troupe kept (lives t) at made (happens d b node number troupe kept t event) → IsOrderedFor d b node number troupe kept (lives u) step others (happens d b node number troupe kept u other)
      → outputs.suspects ≡ suspects_in pairs (acts_of pairs t) event → sent.suspects ≡ suspects_in pairs (acts_of pairs u) other
      → stepped t at event made outputs ≡ stepped u step other others sent
  same_step t u at step event other made others outputs sent before same_at same_event gives told one both suspects suspected =
      let there : IsOrderedFor d b node number troupe kept (lives t) at others (happens d b node number troupe kept t event)
      = subst (λ (x : Trace). IsOrderedFor d b node number troupe kept (lives x) at others (happens d b node number troupe kept x event)) (sym before)
      (subst (λ (n : ℕ). IsOrderedFor d b node number troupe kept (lives u) n others (happens d b node number troupe kept u event)) (sym same_at)
      (subst (λ (e : Event). IsOrderedFor d b node number troupe kept (lives u) step others (happens d b node number troupe kept u e)) (sym same_event) both)) in
      let same_made = same_order (lives t) at made others (happens d b node number troupe kept t event) one there in
      let same_suspects : outputs.suspects ≡ sent.suspects = suspects ∙ (λ j. suspects_in pairs (acts_of pairs (before j)) (same_event j)) ∙ sym suspected in
      let same_sent = same_outputs outputs sent gives same_suspects told in
      (λ j. stepped (before j) (same_at j) (same_event j) (same_made j) (same_sent j))

  -- two that go as the record says, send as they owe, and say the same are the same
  pub one_trace : (t u : Trace) → SaySame t u → GoesBy t → GoesBy u → SendsWhatIsOwed pairs t → SendsWhatIsOwed pairs u → t ≡ u
  one_trace (booted made outputs) (booted others sent) same goes other sends both =
      let same_made : made ≡ others = goes.made_so ∙ sym other.made_so in
      let same_sent = same_outputs outputs sent same.0 (sends.1 ∙ sym both.1) same.1 in
      (λ j. booted (same_made j) (same_sent j))
  one_trace (booted made outputs) (stepped u step event others sent) same goes other sends both = absurd same
  one_trace (stepped t at event made outputs) (booted others sent) same goes other sends both = absurd same
  one_trace (stepped t at event made outputs) (stepped u step another others sent) same goes other sends both =
      same_step t u at step event another made others outputs sent (one_trace t u same.0 goes.0 other.0 sends.0 both.0) same.1 same.2 same.3 same.4 goes.1.made_so other.1.made_so sends.2 both.2
