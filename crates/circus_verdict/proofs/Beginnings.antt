-- A trace whose events go on behind those of another begins with that, where there is one trace for those events.
use Rattle.std.proofs.Common.{◌≡◌, ℕ, ◌+◌, inl, inr, List, [], ◌∷◌, ◌++◌, Option, None, Some, refl, sym, ap, subst, ◌∙◌, append_assoc}
use Rattle.std.proofs.lemmas.List.{same_from_push}
use Rattle.std.proofs.lemmas.Option.{same_Some}
use Rattle.circus_collate.specs.declared.deployment.Deployment.{Deployment}
use Rattle.circus_collate.specs.declared.deployment.Troupe.{Troupe}
use Rattle.circus_model.specs.Behaviour.{Behaviour}
use Rattle.circus_record.specs.declared.record.MemberRecord.{MemberRecord}
use Rattle.circus_member_rules.specs.declared.occurrence.Effect.{Effect}
use Rattle.circus_node.specs.Trace.{Trace, booted, stepped}
use Rattle.circus_node.specs.declared.event.Event.{Event}
use Rattle.circus_node.specs.declared.event.Outputs.{Outputs}
use Rattle.circus_world_theory.specs.Histories.{beginning_of}
use Rattle.circus_headline_theory.specs.ServedRun.{IsNumbered}
use Rattle.circus_headline_theory.specs.Trace.{now, SendsWhatIsOwed}
use Rattle.circus_audit.specs.declared.given.GivenEvent.{GivenEvent}
use Rattle.circus_dues.specs.NodeRuns.{GoesSo, SaySame, BeginsWith}
use Rattle.circus_dues.proofs.NodeRunsOnce.{goes_before, sends_before, one_trace}
use Rattle.circus_verdict.specs.Audited.{events_in}
use Rattle.circus_verdict.proofs.Shaping.{some_events}

-- ---- lists

record Last {X : Type 0} (xs : List X) : Type 0 where
  pub front : List X
  pub last : X
  pub is : xs ≡ front ++ last ∷ []

last_of : {X : Type 0} (x : X) (xs : List X) → Last (x ∷ xs)
last_of {X} x [] = record { front = []; last = x; is = refl }
last_of {X} x (y ∷ xs) = (let l = last_of y xs in record { front = x ∷ l.front; last = l.last; is = ap (λ zs. x ∷ zs) l.is })

rest_of : List GivenEvent → List GivenEvent
rest_of [] = []
rest_of (x ∷ xs) = xs

none_behind : (xs rest : List GivenEvent) (next : GivenEvent) → [] ≡ xs ++ next ∷ rest → ⊥
none_behind [] rest next is = absurd (let clash : ◌≡◌ {A = List GivenEvent} [] (next ∷ rest) = is in cc)
none_behind (x ∷ xs) rest next is = absurd (let clash : ◌≡◌ {A = List GivenEvent} [] (x ∷ xs ++ next ∷ rest) = is in cc)

-- ---- the events of a trace

abbrev said : Option Event → Outputs → GivenEvent
said event outputs = record { event = event; gives = outputs.gives; differences = outputs.differences }

numbered_before : (t u : Trace) → BeginsWith t u → IsNumbered t → IsNumbered u
numbered_before (booted made outputs) u same numbered = subst IsNumbered (sym same) numbered
numbered_before (stepped t at event made outputs) u (inl same) numbered = subst IsNumbered (sym same) numbered
numbered_before (stepped t at event made outputs) u (inr began) numbered = numbered_before t u began numbered.0

-- two with the same events say the same
same_events : (t u : Trace) → IsNumbered t → IsNumbered u → events_in t ≡ events_in u → (now t ≡ now u) × SaySame t u
same_events (booted made outputs) (booted others sent) numbered also same =
    let one = (same_from_push [] [] (said None outputs) (said None sent) same).1 in
    (refl, (ap (λ (e : GivenEvent). e.gives) one, ap (λ (e : GivenEvent). e.differences) one))
same_events (booted made outputs) (stepped u step other others sent) numbered also same = absurd (some_events u (same_from_push [] (events_in u) (said None outputs) (said (Some other) sent) same).0)
same_events (stepped t at event made outputs) (booted others sent) numbered also same = absurd (some_events t (sym (same_from_push (events_in t) [] (said (Some event) outputs) (said None sent) same).0))
same_events (stepped t at event made outputs) (stepped u step other others sent) numbered also same =
    let parts = same_from_push (events_in t) (events_in u) (said (Some event) outputs) (said (Some other) sent) same in
    let before = same_events t u numbered.0 also.0 parts.0 in
    let steps : at ≡ step = numbered.1 ∙ ap (λ n. n + 1) before.0 ∙ sym also.1 in
    (steps, (before.1, steps, same_Some event other (ap (λ (e : GivenEvent). e.event) parts.1), ap (λ (e : GivenEvent). e.gives) parts.1, ap (λ (e : GivenEvent). e.differences) parts.1))

-- a trace begins with one that has these events, and this next
record HasNext (t : Trace) (events : List GivenEvent) (next : GivenEvent) : Type 0 where
  pub before : Trace
  pub at : ℕ
  pub event : Event
  pub made : List Effect
  pub outputs : Outputs
  pub began : BeginsWith t (stepped before at event made outputs)
  pub events_are : events_in before ≡ events
  pub next_is : next ≡ said (Some event) outputs

begins_so : (t : Trace) (events : List GivenEvent) → ([] ≡ events → ⊥) → (next : GivenEvent) (rest : List GivenEvent) → events_in t ≡ events ++ next ∷ rest → HasNext t events next
unfolding rest_of
begins_so (booted made outputs) [] some next rest same = absurd (some refl)
begins_so (booted made outputs) (x ∷ events) some next rest same = absurd (none_behind events rest next (ap rest_of same))
begins_so (stepped t at event made outputs) events some next [] same =
    let parts = same_from_push (events_in t) events (said (Some event) outputs) next same in
    record { before = t; at = at; event = event; made = made; outputs = outputs; began = inl refl; events_are = parts.0; next_is = sym parts.1 }
begins_so (stepped t at event made outputs) events some next (x ∷ rest) same =
    let l = last_of x rest in
    let longer : events ++ next ∷ x ∷ rest ≡ (events ++ next ∷ l.front) ++ l.last ∷ [] = ap (λ zs. events ++ next ∷ zs) l.is ∙ sym (append_assoc events (next ∷ l.front) (l.last ∷ [])) in
    let parts = same_from_push (events_in t) (events ++ next ∷ l.front) (said (Some event) outputs) l.last (same ∙ longer) in
    let h = begins_so t events some next l.front parts.0 in
    record { before = h.before; at = h.at; event = h.event; made = h.made; outputs = h.outputs; began = inr h.began; events_are = h.events_are; next_is = h.next_is }

-- and with one that has the first of them alone
pub record HasFirst (t : Trace) : Type 0 where
  pub made : List Effect
  pub outputs : Outputs
  pub later : List GivenEvent
  pub began : BeginsWith t (booted made outputs)
  pub events_are : events_in t ≡ said None outputs ∷ later

pub begins_first : (t : Trace) → HasFirst t
begins_first (booted made outputs) = record { made = made; outputs = outputs; later = []; began = refl; events_are = refl }
begins_first (stepped t at event made outputs) =
    let h = begins_first t in
    let next = said (Some event) outputs in
    record { made = h.made; outputs = h.outputs; later = h.later ++ next ∷ []; began = inr h.began; events_are = ap (λ l. l ++ next ∷ []) h.events_are }

-- a trace has these events and others, and begins with one that has the first alone
pub record HasBooted (t : Trace) (boot : GivenEvent) : Type 0 where
  pub made : List Effect
  pub outputs : Outputs
  pub boot_is : boot ≡ said None outputs
  pub began : BeginsWith t (booted made outputs)

pub has_booted : (t : Trace) (boot : GivenEvent) (rest : List GivenEvent) → events_in t ≡ boot ∷ rest → HasBooted t boot
has_booted t boot rest same =
    let h = begins_first t in
    let both : boot ∷ rest ≡ said None h.outputs ∷ h.later = sym same ∙ h.events_are in
    record { made = h.made; outputs = h.outputs; boot_is = cc; began = h.began }

-- ---- one trace by its events

-- a trace begins with another, and one event more, which has the number behind it
pub record HasGoneOn (t u : Trace) (next : GivenEvent) : Type 0 where
  pub event : Event
  pub made : List Effect
  pub outputs : Outputs
  pub next_is : next ≡ said (Some event) outputs
  pub began : BeginsWith t (stepped u (now u + 1) event made outputs)

-- so it does where there is one trace for the events before
pub goes_on_by : (t u : Trace) → IsNumbered t → IsNumbered u → (next : GivenEvent) (rest : List GivenEvent) → events_in t ≡ events_in u ++ next ∷ rest
    → ((v : Trace) (at : ℕ) (event : Event) (made : List Effect) (outputs : Outputs) → BeginsWith t (stepped v at event made outputs) → IsNumbered v → events_in v ≡ events_in u → v ≡ u)
    → HasGoneOn t u next
goes_on_by t u numbered also next rest same one =
    let h = begins_so t (events_in u) (some_events u) next rest same in
    let steps = numbered_before t (stepped h.before h.at h.event h.made h.outputs) h.began numbered in
    let at : h.at ≡ now u + 1 = steps.1 ∙ ap (λ n. n + 1) (same_events h.before u steps.0 also h.events_are).0 in
    let before : h.before ≡ u = one h.before h.at h.event h.made h.outputs h.began steps.0 h.events_are in
    record {
      event = h.event;
      made = h.made;
      outputs = h.outputs;
      next_is = h.next_is;
      began = subst (λ n. BeginsWith t (stepped u n h.event h.made h.outputs)) at (subst (λ (x : Trace). BeginsWith t (stepped x h.at h.event h.made h.outputs)) before h.began);
    }

-- by a record
module _ (d : Deployment) (b : Behaviour) (node number : ℕ) (troupe : Troupe) (kept : MemberRecord) where
  abbrev GoesBy : Trace → Type 0
  GoesBy t = GoesSo d b node number troupe kept t

  abbrev Sends : Trace → Type 0
  Sends t = SendsWhatIsOwed (beginning_of d node) t

  pub one_by_events : (t u : Trace) → IsNumbered t → IsNumbered u → GoesBy t → Sends t → GoesBy u → Sends u → events_in t ≡ events_in u → t ≡ u
  one_by_events t u numbered also goes sends other sent same = one_trace d b node number troupe kept t u (same_events t u numbered also same).1 goes other sends sent

  pub next_by_events : (t u : Trace) → IsNumbered t → IsNumbered u → GoesBy t → Sends t → GoesBy u → Sends u → (next : GivenEvent) (rest : List GivenEvent) → events_in t ≡ events_in u ++ next ∷ rest → HasGoneOn t u next
  next_by_events t u numbered also goes sends other sent next rest same =
      goes_on_by t u numbered also next rest same
      (λ v at event made outputs began so events. one_by_events v u so also (goes_before d b node number troupe kept t (stepped v at event made outputs) began goes).0
      (sends_before (beginning_of d node) t (stepped v at event made outputs) began sends).0 other sent events)
