-- What lines lead to a world that has settled.
use Rattle.std.proofs.Common.{◌≡◌, ℕ, zero, suc, ◌+◌, ◌-◌, ◌<◌, ◌≤◌, Bool, true, false, List, length, Result, Ok, Err, IfOk, refl, sym, ap, subst, ◌∙◌, arith, ltb-true, zero-add}
use Rattle.std.specs.Prelude.{nat_lt, if◌then◌else◌}
use Rattle.std.proofs.lemmas.Bool.{ltb-false}
use Rattle.circus_value.specs.ValueTree.{ValueTree}
use Rattle.circus_value.specs.declared.outcome.Outcome.{Outcome}
use Rattle.circus_model.specs.NextTurn.{NextTurn}
use Rattle.circus_model.specs.declared.signature.Signature.{Signature}
use Rattle.circus_schedule.specs.declared.line.Line.TheVariants.{Deliver}
use Rattle.circus_world.specs.WorldState.{WorldState}
use Rattle.circus_world.specs.Course.{Stepped, step_line}
use Rattle.circus_world.specs.Lines.{Lead}
use Rattle.circus_settle.specs.declared.settling.Settled.{Settled}
use Rattle.circus_settle.specs.declared.settling.SettleFault.{SettleFault}
use Rattle.circus_settle.specs.Answers.{IsSettled}
use Rattle.circus_settle.specs.Settled.{Delivered, Settling, deliveries_from, first_deliveries, then_settled, settle_world}
use Rattle.circus_settle.proofs.Delivering.{may_be, was_sent, kept, behind_next}

module _ {M : Type 0} (declared : M → Signature) (turn : M → List ValueTree → ℕ → List ValueTree → List Outcome → NextTurn) where
  -- ---- to the end

  -- so many deliveries lead to it, and they are all that could be made
  record IsLedTo (most number : ℕ) (w : WorldState M) (done : Delivered M) : Type 0 where
    count : ℕ
    few : count ≤ most
    given_is : done.given ≡ number + count
    lead : Lead declared turn (deliveries_from number count) w done.world
    sent : number ≤ length w.sent → done.given ≤ length done.world.sent
    all : done.given < length done.world.sent → count ≡ most

  -- none is made
  none_made : (most number : ℕ) (w : WorldState M) (done : Delivered M) → (number < length w.sent → 0 ≡ most)
      → ◌≡◌ {A = Settling M} (Ok (record { world = w; given = number })) (Ok done) → IsLedTo most number w done
  none_made most number w done none is =
      let here : Delivered M = record { world = w; given = number } in
      let same : here ≡ done = cc in
      subst (λ (d : Delivered M). IsLedTo most number w d) same
      (record { count = 0; few = omega arith; given_is = omega arith; lead = refl; sent = λ within. within; all = none })

  abbrev LedTo : ℕ → Type 0
  LedTo most = (number : ℕ) (w : WorldState M) (done : Delivered M) → settle_world declared turn most number w ≡ Ok done → IsLedTo most number w done

  -- one is
  one_made : (most number : ℕ) (w : WorldState M) (done : Delivered M) (e : Stepped M) → LedTo most → number < length w.sent → step_line declared turn (Deliver number) w ≡ e
      → then_settled (settle_world declared turn most (number + 1)) e ≡ Ok done → IsLedTo (suc most) number w done
  one_made most number w done (Ok next) others below stepped_is is =
      let rest = others (number + 1) next done is in
      let keeps = kept declared turn number w next stepped_is in
      record {
        count = suc rest.count;
        few = omega (arith, rest.few);
        given_is = omega (arith, rest.given_is);
        lead = (next, record { named = tt; legal = may_be w number below; stepped_is = stepped_is }, rest.lead);
        sent = λ within. rest.sent (omega (arith, below, keeps.sent));
        all = λ some. omega (arith, rest.all some);
      }
  one_made most number w done (Err nodes) others below stepped_is is = absurd (let clash : ◌≡◌ {A = Settling M} (Err nodes) (Ok done) = is in cc)

  led_to : (most : ℕ) → LedTo most
  led_to zero = λ number w done is. none_made 0 number w done (λ below. refl) is
  led_to (suc most) = next_led most (led_to most)
    where
      next_led : (most : ℕ) → LedTo most → LedTo (suc most)
      next_led most others number w done is = by_test (nat_lt number (length w.sent)) refl is
        where
          by_test : (some : Bool) → nat_lt number (length w.sent) ≡ some
              → (if some then then_settled (settle_world declared turn most (number + 1)) (step_line declared turn (Deliver number) w) else Ok (record { world = w; given = number })) ≡ Ok done
              → IsLedTo (suc most) number w done
          by_test true some is = one_made most number w done (step_line declared turn (Deliver number) w) others (ltb-true number (length w.sent) some) refl is
          by_test false none is = none_made (suc most) number w done (λ below. absurd (omega (arith, below, ltb-false number (length w.sent) none))) is

  -- what was delivered from the first on, and what is left
  pub record IsLed (most : ℕ) (w : WorldState M) (done : Delivered M) : Type 0 where
    pub few : done.given ≤ most
    pub lead : Lead declared turn (first_deliveries done.given) w done.world
    pub sent : done.given ≤ length done.world.sent
    pub all : done.given < length done.world.sent → done.given ≡ most

  pub led : (most : ℕ) (w : WorldState M) (done : Delivered M) → settle_world declared turn most 0 w ≡ Ok done → IsLed most w done
  led most w done is =
      let to = led_to most 0 w done is in
      let given : to.count ≡ done.given = omega (arith, to.given_is) in
      record {
        few = omega (arith, to.few, given);
        lead = subst (λ k. Lead declared turn (first_deliveries k) w done.world) given to.lead;
        sent = to.sent (omega arith);
        all = λ some. omega (arith, to.all some, given);
      }

  pub led_if : {P : Type 0} (most : ℕ) (w : WorldState M) (r : Result (Settled M P) SettleFault) → IsSettled declared turn most w r
      → IfOk r (λ s. IsLed most w (record { world = s.world; given = s.given }) × (s.left ≡ length s.world.sent - s.given))
  led_if most w (Ok s) is = (led most w (record { world = s.world; given = s.given }) is.0, is.1)
  led_if most w (Err f) is = tt

  -- ---- as many as can be made

  lead_settles : (most number : ℕ) (w last : WorldState M) → Lead declared turn (deliveries_from number most) w last
      → settle_world declared turn most number w ≡ Ok (record { world = last; given = number + most })
  lead_settles zero number w last lead = let at : number ≡ number + 0 = omega arith in λ i. Ok (record { world = sym lead i; given = at i })
  lead_settles (suc most) number w last (next, leads, rest) =
      let at : number + 1 + most ≡ number + suc most = omega arith in
      let to : ℕ → Settling M = λ given. Ok (record { world = last; given = given }) in
      behind_next declared turn most number w (Ok next) (was_sent w number leads.legal) leads.stepped_is ∙ lead_settles most (number + 1) next last rest ∙ ap to at

  pub led_settles : (most : ℕ) (w last : WorldState M) → Lead declared turn (first_deliveries most) w last → settle_world declared turn most 0 w ≡ Ok (record { world = last; given = most })
  led_settles most w last lead =
      let to : ℕ → Settling M = λ given. Ok (record { world = last; given = given }) in
      lead_settles most 0 w last lead ∙ ap to (zero-add most)

  -- ---- to a node that has no number left

  -- so many deliveries led to a world in which the next one can't be made
  pub record IsSpentBehind (most number : ℕ) (w : WorldState M) (nodes : ℕ × ℕ) : Type 0 where
    pub count : ℕ
    pub last : WorldState M
    pub few : count < most
    pub lead : Lead declared turn (deliveries_from number count) w last
    pub sent : number + count < length last.sent
    pub spent : step_line declared turn (Deliver (number + count)) last ≡ Err nodes

  abbrev SpentBehind : ℕ → Type 0
  SpentBehind most = (number : ℕ) (w : WorldState M) (nodes : ℕ × ℕ) → settle_world declared turn most number w ≡ Err nodes → IsSpentBehind most number w nodes

  one_spent : (most number : ℕ) (w : WorldState M) (nodes : ℕ × ℕ) (e : Stepped M) → SpentBehind most → number < length w.sent → step_line declared turn (Deliver number) w ≡ e
      → then_settled (settle_world declared turn most (number + 1)) e ≡ Err nodes → IsSpentBehind (suc most) number w nodes
  one_spent most number w nodes (Ok next) others below stepped_is is =
      let rest = others (number + 1) next nodes is in
      let at : number + 1 + rest.count ≡ number + suc rest.count = omega arith in
      record {
        count = suc rest.count;
        last = rest.last;
        few = omega (arith, rest.few);
        lead = (next, record { named = tt; legal = may_be w number below; stepped_is = stepped_is }, rest.lead);
        sent = omega (arith, rest.sent);
        spent = subst (λ k. step_line declared turn (Deliver k) rest.last ≡ Err nodes) at rest.spent;
      }
  one_spent most number w nodes (Err spent) others below stepped_is is =
      let same : spent ≡ nodes = (let equal : ◌≡◌ {A = Settling M} (Err spent) (Err nodes) = is in cc) in
      let here : number ≡ number + 0 = omega arith in
      record {
        count = 0;
        last = w;
        few = omega arith;
        lead = refl;
        sent = omega (arith, below);
        spent = subst (λ k. step_line declared turn (Deliver k) w ≡ Err nodes) here (subst (λ (n : ℕ × ℕ). step_line declared turn (Deliver number) w ≡ Err n) same stepped_is);
      }

  spent_behind : (most : ℕ) → SpentBehind most
  spent_behind zero = λ number w nodes is. absurd (let clash : ◌≡◌ {A = Settling M} (Ok (record { world = w; given = number })) (Err nodes) = is in cc)
  spent_behind (suc most) = next_spent most (spent_behind most)
    where
      next_spent : (most : ℕ) → SpentBehind most → SpentBehind (suc most)
      next_spent most others number w nodes is = by_test (nat_lt number (length w.sent)) refl is
        where
          by_test : (some : Bool) → nat_lt number (length w.sent) ≡ some
              → (if some then then_settled (settle_world declared turn most (number + 1)) (step_line declared turn (Deliver number) w) else Ok (record { world = w; given = number })) ≡ Err nodes
              → IsSpentBehind (suc most) number w nodes
          by_test true some is = one_spent most number w nodes (step_line declared turn (Deliver number) w) others (ltb-true number (length w.sent) some) refl is
          by_test false none is = absurd (let clash : ◌≡◌ {A = Settling M} (Ok (record { world = w; given = number })) (Err nodes) = is in cc)

  -- that of the first datagrams
  pub spent_at : (most : ℕ) (w : WorldState M) (nodes : ℕ × ℕ) → settle_world declared turn most 0 w ≡ Err nodes
      → (given : ℕ) × (last : WorldState M) × (given < most) × Lead declared turn (first_deliveries given) w last × (given < length last.sent)
      × (step_line declared turn (Deliver given) last ≡ Err nodes)
  spent_at most w nodes is =
      let behind = spent_behind most 0 w nodes is in
      let at : 0 + behind.count ≡ behind.count = omega arith in
      (behind.count, behind.last, behind.few, behind.lead, omega (arith, behind.sent), subst (λ k. step_line declared turn (Deliver k) behind.last ≡ Err nodes) at behind.spent)
