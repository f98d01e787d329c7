-- One turn of the loop that starts calls.
use Rattle.std.proofs.Common.{◌≡◌, ℕ, suc, ◌+◌, ◌-◌, ◌<◌, Bool, true, false, cond, List, length, Option, Some, None, refl, sym, subst, ap, ◌∙◌, arith}
use Rattle.std.specs.Prelude.{option_map}
use Rattle.std.proofs.lemmas.Option.{same_Some}
use Rattle.circus_value.specs.ValueTree.{ValueTree}
use Rattle.circus_value.specs.declared.outcome.Outcome.{Outcome}
use Rattle.circus_model.specs.declared.signature.Signature.{Signature}
use Rattle.circus_model.specs.NextTurn.{NextTurn}
use Rattle.circus_model.specs.Behaviour.{IsModule}
use Rattle.circus_gather.specs.declared.held.HeldCall.{HeldCall}
use Rattle.circus_performing.specs.declared.start.RunStart.{RunStart}
use Rattle.circus_performing.specs.Performing.{Performing}
use Rattle.circus_performing.specs.Record.{behaviour}
use Rattle.circus_gather.specs.Gathering.{Gathered}
use Rattle.circus_member_rules.specs.MemberState.{Doing}
use Rattle.circus_member_rules.specs.Step.{is_idle, start_by_call, next_start, given_states, enter_run_of, start_runs}
use Rattle.circus_member_rules.specs.Seen.Sound.{MayStart}
use Rattle.circus_member_rules.proofs.Starting.{next_is_ready, may_start, IsSoundNow, sound_given, sound_entered}
use Rattle.circus_member_rules.proofs.Enough.{any_held, held_by, start_by, given_gathered, given_performing, next_is_idle, fewer_started, none_started, once_started, same_starting, less_enough}

-- how many starts may follow
abbrev pub starts_left : {M : Type 0} → Doing M → ℕ
starts_left d = cond (is_idle d.member.performing.kept) (held_by d + 1) 0

module _ {M : Type 0} (declared : M → Signature) (turn : M → List ValueTree → ℕ → List ValueTree → List Outcome → NextTurn) (first : M → List ValueTree) (lawful : (hosted : M) → IsModule (behaviour declared turn first hosted)) (step : ℕ) (d : Doing M) (sound : IsSoundNow declared turn first lawful d.member) where
  -- where the call that starts next gives a start, it is that of a call
  pub record IsOfCall (start : RunStart) : Type 0 where
    pub call : HeldCall
    pub next : next_start (given_states d).member ≡ Some call
    pub is : start_by declared turn first lawful step (given_states d).member call ≡ start

  pub of_call : (start : RunStart) → Some start ≡ option_map (start_by_call (given_states d).member.place.troupe (declared (given_states d).member.performing.hosted).procedures) (next_start (given_states d).member) → IsOfCall start
  of_call start some = by_next (next_start (given_states d).member) refl some
    where
      by_next : (o : Option HeldCall) → next_start (given_states d).member ≡ o → Some start ≡ option_map (start_by_call (given_states d).member.place.troupe (declared (given_states d).member.performing.hosted).procedures) o → IsOfCall start
      by_next None next is = cc
      by_next (Some call) next is = record { call = call; next = next; is = sym (same_Some start _ is) }

  -- so it may start
  pub may_go : (start : RunStart) → IsOfCall start → MayStart (declared (given_states d).member.performing.hosted) (given_states d).member start
  may_go start of =
      let e = given_states d in
      let b = behaviour declared turn first e.member.performing.hosted in
      let given = sound_given declared turn first lawful d sound in
      subst (MayStart (declared e.member.performing.hosted) e.member) of.is (may_start b e.member of.call (next_is_ready b e.member of.call given of.next))

  pub sound_gone : (start : RunStart) → IsOfCall start → IsSoundNow declared turn first lawful (enter_run_of turn step (given_states d) start).member
  sound_gone start of = sound_entered declared turn first lawful step (given_states d) start (sound_given declared turn first lawful d sound) (may_go start of)

  -- the member was idle
  was_idle : (call : HeldCall) → next_start (given_states d).member ≡ Some call → is_idle d.member.performing.kept ≡ true
  was_idle call next = subst (λ (p : Performing M). is_idle p.kept ≡ true) (given_performing d) (next_is_idle (given_states d).member call next)

  -- what is left comes to the same
  pub same_gone : (start : RunStart) → IsOfCall start → let e = enter_run_of turn step (given_states d) start in start_runs declared turn step (held_by e) e ≡ start_runs declared turn step (held_by d) d
  same_gone start of =
      let e = given_states d in
      let f = enter_run_of turn step e start in
      let g = enter_run_of turn step e (start_by declared turn first lawful step e.member of.call) in
      let same : g ≡ f = ap (enter_run_of turn step e) of.is in
      let gone : IsSoundNow declared turn first lawful g.member = subst (λ (x : Doing M). IsSoundNow declared turn first lawful x.member) (sym same) (sound_gone start of) in
      let some = held_before of in
      let left = some.0 in
      let enough = less_enough declared turn first lawful step left d of.call sound of.next (λ idle. omega (arith, some.1)) in
      ap (λ (x : Doing M). start_runs declared turn step (held_by x) x) (sym same)
      ∙ same_starting declared turn first lawful step (held_by g) left g gone (λ idle. omega arith) enough
      ∙ sym (once_started declared turn first lawful step left d of.call of.next)
      ∙ ap (λ n. start_runs declared turn step n d) (sym some.1)
    where
      -- at least one call was held
      held_before : IsOfCall start → (left : ℕ) × (held_by d ≡ suc left)
      held_before o =
          let idle = was_idle o.call o.next in
          let e = given_states d in
          let same : held_by e ≡ held_by d = ap (λ (g : Gathered). length g.held) (given_gathered d) in
          let some : 0 < held_by e = any_held e.member o.call o.next in
          (held_by d - 1, omega (arith, some, same))

  -- and fewer starts may follow
  pub fewer_gone : (start : RunStart) → IsOfCall start → starts_left (enter_run_of turn step (given_states d) start) < starts_left d
  fewer_gone start of =
      let e = given_states d in
      let f = enter_run_of turn step e start in
      let idle = was_idle of.call of.next in
      let same : held_by e ≡ held_by d = ap (λ (g : Gathered). length g.held) (given_gathered d) in
      let fewer = subst (λ s. is_idle (enter_run_of turn step e s).member.performing.kept ≡ true → held_by (enter_run_of turn step e s) < held_by e) of.is (fewer_started declared turn first lawful step e of.call (sound_given declared turn first lawful d sound) of.next) in
      subst (λ t. starts_left f < cond t (held_by d + 1) 0) (sym idle) (by_test (is_idle f.member.performing.kept) refl fewer same)
    where
      by_test : (t : Bool) → is_idle (enter_run_of turn step (given_states d) start).member.performing.kept ≡ t → (is_idle (enter_run_of turn step (given_states d) start).member.performing.kept ≡ true → held_by (enter_run_of turn step (given_states d) start) < held_by (given_states d)) → held_by (given_states d) ≡ held_by d → cond t (held_by (enter_run_of turn step (given_states d) start) + 1) 0 < held_by d + 1
      by_test true is fewer same = let less = fewer is in omega (arith, less, same)
      by_test false is fewer same = omega arith

  -- where none starts, states are given and nothing else
  pub none_goes : None ≡ option_map (start_by_call (given_states d).member.place.troupe (declared (given_states d).member.performing.hosted).procedures) (next_start (given_states d).member) → start_runs declared turn step (held_by d) d ≡ given_states d
  none_goes none = by_next (next_start (given_states d).member) refl none
    where
      by_next : (o : Option HeldCall) → next_start (given_states d).member ≡ o → None ≡ option_map (start_by_call (given_states d).member.place.troupe (declared (given_states d).member.performing.hosted).procedures) o → start_runs declared turn step (held_by d) d ≡ given_states d
      by_next None next is = none_started declared turn first lawful step (held_by d) d next
      by_next (Some call) next is = cc

  -- ---- as the loop reads it

  -- it has given states, and this starts
  pub record Goes (e : Doing M) (start : RunStart) : Type 0 where
    pub given : e ≡ given_states d
    pub starts : Some start ≡ option_map (start_by_call e.member.place.troupe (declared e.member.performing.hosted).procedures) (next_start e.member)

  goes_of : (e : Doing M) (start : RunStart) → Goes e start → IsOfCall start
  goes_of e start goes =
      of_call start (subst (λ (x : Doing M). Some start ≡ option_map (start_by_call x.member.place.troupe (declared x.member.performing.hosted).procedures) (next_start x.member)) goes.given goes.starts)

  pub goes_sound : (e : Doing M) (start : RunStart) → Goes e start → IsSoundNow declared turn first lawful e.member
  goes_sound e start goes = subst (λ (x : Doing M). IsSoundNow declared turn first lawful x.member) (sym goes.given) (sound_given declared turn first lawful d sound)

  pub goes_may : (e : Doing M) (start : RunStart) → Goes e start → MayStart (declared e.member.performing.hosted) e.member start
  goes_may e start goes =
      subst (λ (x : Doing M). MayStart (declared x.member.performing.hosted) x.member start) (sym goes.given) (may_go start (goes_of e start goes))

  went_is : (e f : Doing M) (start : RunStart) → Goes e start → f ≡ enter_run_of turn step e start → f ≡ enter_run_of turn step (given_states d) start
  went_is e f start goes is = is ∙ ap (λ (x : Doing M). enter_run_of turn step x start) goes.given

  pub went_sound : (e f : Doing M) (start : RunStart) → Goes e start → f ≡ enter_run_of turn step e start → IsSoundNow declared turn first lawful f.member
  went_sound e f start goes is =
      subst (λ (x : Doing M). IsSoundNow declared turn first lawful x.member) (sym (went_is e f start goes is)) (sound_gone start (goes_of e start goes))

  pub went_same : (e f : Doing M) (start : RunStart) → Goes e start → f ≡ enter_run_of turn step e start → start_runs declared turn step (held_by f) f ≡ start_runs declared turn step (held_by d) d
  went_same e f start goes is =
      ap (λ (x : Doing M). start_runs declared turn step (held_by x) x) (went_is e f start goes is) ∙ same_gone start (goes_of e start goes)

  pub went_fewer : (e f : Doing M) (start : RunStart) → Goes e start → f ≡ enter_run_of turn step e start → starts_left f < starts_left d
  went_fewer e f start goes is =
      subst (λ (x : Doing M). starts_left x < starts_left d) (sym (went_is e f start goes is)) (fewer_gone start (goes_of e start goes))

  pub went_so_far : (e : Doing M) → e ≡ given_states d → None ≡ option_map (start_by_call e.member.place.troupe (declared e.member.performing.hosted).procedures) (next_start e.member) → e ≡ start_runs declared turn step (held_by d) d
  went_so_far e given none =
      given ∙ sym (none_goes (subst (λ (x : Doing M). None ≡ option_map (start_by_call x.member.place.troupe (declared x.member.performing.hosted).procedures) (next_start x.member)) given none))
