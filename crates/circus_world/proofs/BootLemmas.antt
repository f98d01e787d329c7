-- The nodes of a world boot one by one.
use Rattle.std.proofs.Common.{◌≡◌, ℕ, zero, suc, ◌+◌, ◌-◌, ◌<◌, ◌⊎◌, inl, inr, false, List, [], ◌∷◌, ◌++◌, length, map, Option, None, Some, Ok, Err, refl, sym, ap, subst, ◌∙◌, arith, append_assoc, add-zero}
use Rattle.std.specs.Prelude.{IsSome, slice_get, option_map, option_and_then}
use Rattle.std.proofs.lemmas.List.{append-nil, length-append}
use Rattle.std.proofs.lemmas.List.Elements.{All-nil}
use Rattle.circus_value.specs.ValueTree.{ValueTree}
use Rattle.circus_value.specs.declared.outcome.Outcome.{Outcome}
use Rattle.circus_collate.specs.declared.deployment.Deployment.{Deployment}
use Rattle.circus_model.specs.NextTurn.{NextTurn}
use Rattle.circus_model.specs.declared.signature.Signature.{Signature}
use Rattle.circus_performing.specs.Record.{behaviour}
use Rattle.circus_node.specs.Accepting.{troupe_at}
use Rattle.circus_node.specs.Booting.{boot_node, IsHosted}
use Rattle.circus_world.specs.Sent.{Sent}
use Rattle.circus_world.specs.declared.slot.Slot.{Slot}
use Rattle.circus_world.specs.declared.world.BootFault.{BootFault}
use Rattle.circus_world.specs.declared.world.BootFault.TheVariants as boot_fault
use Rattle.circus_world.specs.WorldState.{WorldState, Standing}
use Rattle.circus_world.specs.Course.{sent_by, Stepped}
use Rattle.circus_world.specs.Boot.{before_any, joined_by, then_others, all_booted}
use Rattle.circus_world.specs.Answers.{IsBooted}
use Rattle.circus_world.specs.Seen.Slots.{standing, standings, AreFull, world_of}
use Rattle.circus_world.specs.Seen.MadeAt.{IsBootedAt, HasBootedAt, AreBooted, HaveBooted, IsSpentAtBoot, IsSpent}
use Rattle.circus_world.proofs.SlotLemmas.{get_push, get_append, length_full, push_full, more_full}

module _ {M : Type 0} (declared : M → Signature) (turn : M → List ValueTree → ℕ → List ValueTree → List Outcome → NextTurn) (first : M → List ValueTree) where
  -- ---- the modules of nodes

  -- those of so many nodes, from one on
  hosted_from : Deployment → List M → ℕ → ℕ → List (Option M)
  hosted_from d modules node zero = []
  hosted_from d modules node (suc more) = option_and_then (slice_get modules) (troupe_at d node) ∷ hosted_from d modules (suc node) more

  length_from : (d : Deployment) (modules : List M) (node more : ℕ) → length (hosted_from d modules node more) ≡ more
  unfolding hosted_from
  length_from d modules node zero = refl
  length_from d modules node (suc more) = ap suc (length_from d modules (suc node) more)

  hosts_from : (d : Deployment) (modules : List M) (node more place : ℕ) (own : Option M)
      → slice_get (hosted_from d modules node more) place ≡ Some own → IsHosted declared turn first d modules (node + place) own
  unfolding hosted_from
  hosts_from d modules node zero place own at = absurd (let clash : ◌≡◌ {A = Option (Option M)} None (Some own) = at in cc)
  hosts_from d modules node (suc more) zero own at =
      let same : option_and_then (slice_get modules) (troupe_at d node) ≡ own = cc in
      subst (λ k. IsHosted declared turn first d modules k own) (sym (add-zero node)) (ap (λ (o : Option M). option_map (behaviour declared turn first) o) (sym same))
  hosts_from d modules node (suc more) (suc place) own at =
      let same : suc node + place ≡ node + suc place = omega arith in
      subst (λ k. IsHosted declared turn first d modules k own) same (hosts_from d modules (suc node) more place own at)

module _ {M P : Type 0} (declared : M → Signature) (turn : M → List ValueTree → ℕ → List ValueTree → List Outcome → NextTurn) (first : M → List ValueTree) where
  -- ---- the nodes before a place have booted

  pub record HaveSome (d : Deployment) (modules : List M) (count : ℕ) (slots : List (Slot M P)) (sent : List Sent) : Type 0 where
    pub hosted : List (Option M)
    pub hosted_count : length hosted ≡ count
    pub hosts : (node : ℕ) (own : Option M) → slice_get hosted node ≡ Some own → IsHosted declared turn first d modules node own
    pub on : (others : List (Option M)) → all_booted declared turn first (hosted ++ others) (before_any d modules)
        ≡ all_booted declared turn first others (world_of d modules slots sent 0)
    pub slots_count : length slots ≡ count
    pub full : AreFull slots

  pub have_none : (d : Deployment) (modules : List M) (slots : List (Slot M P)) (sent : List Sent) → slots ≡ [] → sent ≡ [] → HaveSome d modules 0 slots sent
  have_none d modules slots sent no_slots none_sent =
      subst (λ (l : List (Slot M P)). HaveSome d modules 0 l sent) (sym no_slots)
      (subst (λ (l : List Sent). HaveSome d modules 0 [] l) (sym none_sent)
      (record {
        hosted = [];
        hosted_count = refl;
        hosts = λ node own at. absurd (let clash : ◌≡◌ {A = Option (Option M)} None (Some own) = at in cc);
        on = λ others. refl;
        slots_count = refl;
        full = All-nil (λ (slot : Slot M P). IsSome slot.core);
      }))

  -- the next node boots
  next_world : (d : Deployment) (modules : List M) (count : ℕ) (slots new : List (Slot M P)) (sent after : List Sent)
      → HaveSome d modules count slots sent → (h : HasBootedAt declared turn first d modules count slots sent new after)
      → joined_by (world_of d modules slots sent 0) (boot_node declared turn first d h.own (length (standings slots))) ≡ Ok (world_of d modules new after 0)
  next_world d modules count slots new sent after some h =
      let w : WorldState M = world_of d modules slots sent 0 in
      let place : length (standings slots) ≡ count = length_full slots some.full ∙ some.slots_count in
      let slot : Slot M P = record { core = Some h.core; crashed = None; joins = false } in
      let whole : List (Standing M) → List Sent → Stepped M = λ l m. Ok (record { deployment = d; modules = modules; nodes = l; sent = m; steps = 0 }) in
      let nodes : standings new ≡ standings slots ++ standing h.core slot ∷ [] = ap standings h.new_is ∙ push_full slots slot h.core some.full refl in
      ap (λ k. joined_by w (boot_node declared turn first d h.own k)) place
      ∙ ap (λ e. joined_by w e) h.booted_is
      ∙ ap (λ k. whole (standings slots ++ standing h.core slot ∷ []) (sent ++ map (sent_by 0 k) h.outputs.gives)) place
      ∙ sym (ap (λ l. whole l after) nodes ∙ ap (λ m. whole (standings slots ++ standing h.core slot ∷ []) m) h.after_is)

  pub have_next : (d : Deployment) (modules : List M) (count : ℕ) (slots new : List (Slot M P)) (sent after : List Sent)
      → HaveSome d modules count slots sent → HasBootedAt declared turn first d modules count slots sent new after → HaveSome d modules (count + 1) new after
  have_next d modules count slots new sent after some h =
      let slot : Slot M P = record { core = Some h.core; crashed = None; joins = false } in
      record {
        hosted = some.hosted ++ h.own ∷ [];
        hosted_count = length-append some.hosted (h.own ∷ []) ∙ ap (λ k. k + 1) some.hosted_count;
        hosts = λ node own found. by_module node own (get_push some.hosted node h.own own found);
        on = λ others.
            ap (λ l. all_booted declared turn first l (before_any d modules)) (append_assoc some.hosted (h.own ∷ []) others)
            ∙ some.on (h.own ∷ others)
            ∙ ap (λ s. then_others (all_booted declared turn first others) s) (next_world d modules count slots new sent after some h);
        slots_count = ap length h.new_is ∙ length-append slots (slot ∷ []) ∙ ap (λ k. k + 1) some.slots_count;
        full = subst (λ (l : List (Slot M P)). AreFull l) (sym h.new_is) (more_full slots slot h.core some.full refl);
      }
    where
      by_module : (node : ℕ) (own : Option M) → ((node ≡ length some.hosted) × (own ≡ h.own)) ⊎ (slice_get some.hosted node ≡ Some own)
          → IsHosted declared turn first d modules node own
      by_module node own (inl here) =
          subst (λ k. IsHosted declared turn first d modules k own) (sym (here.0 ∙ some.hosted_count))
          (subst (λ (o : Option M). IsHosted declared turn first d modules count o) (sym here.1) h.hosts)
      by_module node own (inr there) = some.hosts node own there

  -- ---- all have booted

  pub have_all : (d : Deployment) (modules : List M) (count : ℕ) (slots : List (Slot M P)) (sent : List Sent) → count ≡ length d.nodes
      → HaveSome d modules count slots sent → HaveBooted declared turn first d modules slots sent
  have_all d modules count slots sent all some =
      record {
        hosted = some.hosted;
        hosts = record { one_each = some.hosted_count ∙ all; each = some.hosts };
        booted_is = ap (λ l. all_booted declared turn first l (before_any d modules)) (sym (append-nil some.hosted)) ∙ some.on [];
        full = some.full;
      }

  -- no number is left for the next node
  pub have_spent : (d : Deployment) (modules : List M) (count : ℕ) (slots : List (Slot M P)) (sent : List Sent) (peer : ℕ) → count < length d.nodes
      → HaveSome d modules count slots sent → IsSpentAtBoot declared turn first d modules count peer → IsSpent declared turn first d modules count peer
  have_spent d modules count slots sent peer within some h =
      let place : length (standings slots) ≡ count = length_full slots some.full ∙ some.slots_count in
      let w : WorldState M = world_of d modules slots sent 0 in
      let rest : List (Option M) = h.own ∷ hosted_from declared turn first d modules (suc count) (length d.nodes - suc count) in
      let failure : ℕ → Stepped M = λ k. Err (k, peer) in
      record {
        hosted = some.hosted ++ rest;
        hosts = record {
          one_each = omega (arith, length-append some.hosted rest, length_from declared turn first d modules (suc count) (length d.nodes - suc count), some.hosted_count, within);
          each = λ node own found. by_place node own (get_append some.hosted rest node own found);
        };
        booted_is =
            some.on rest
            ∙ ap (λ k. then_others (all_booted declared turn first (hosted_from declared turn first d modules (suc count) (length d.nodes - suc count))) (joined_by w (boot_node declared turn first d h.own k))) place
            ∙ ap (λ e. then_others (all_booted declared turn first (hosted_from declared turn first d modules (suc count) (length d.nodes - suc count))) (joined_by w e)) h.booted_is
            ∙ ap failure place;
      }
    where
      behind : (node place : ℕ) (own : Option M) → node ≡ count + place
          → slice_get (h.own ∷ hosted_from declared turn first d modules (suc count) (length d.nodes - suc count)) place ≡ Some own → IsHosted declared turn first d modules node own
      behind node zero own is at =
          let same : h.own ≡ own = cc in
          subst (λ k. IsHosted declared turn first d modules k own) (sym (is ∙ add-zero count)) (subst (λ (o : Option M). IsHosted declared turn first d modules count o) same h.hosts)
      behind node (suc place) own is at =
          let same : suc count + place ≡ node = omega (arith, is) in
          subst (λ k. IsHosted declared turn first d modules k own) same (hosts_from declared turn first d modules (suc count) (length d.nodes - suc count) place own at)

      by_place : (node : ℕ) (own : Option M)
          → (slice_get some.hosted node ≡ Some own) ⊎ ((place : ℕ) × (node ≡ length some.hosted + place) × (slice_get (h.own ∷ hosted_from declared turn first d modules (suc count) (length d.nodes - suc count)) place ≡ Some own))
          → IsHosted declared turn first d modules node own
      by_place node own (inl before) = some.hosts node own before
      by_place node own (inr found) = behind node found.0 own (found.1 ∙ ap (λ k. k + found.0) some.hosted_count) found.2

  pub fault_booted : (d : Deployment) (modules : List M) (count : ℕ) (slots new : List (Slot M P)) (sent after : List Sent) (fault : BootFault) → count < length d.nodes
      → HaveSome d modules count slots sent → IsBootedAt declared turn first d modules count slots sent new after (Err fault) → AreBooted declared turn first d modules new after (Err fault)
  fault_booted d modules count slots new sent after (boot_fault.Spent node peer) within some is =
      subst (λ k. IsSpent declared turn first d modules k peer) (sym is.0) (have_spent d modules count slots sent peer within some is.1)
  fault_booted d modules count slots new sent after boot_fault.NoMemory within some is = tt

  pub fault_of_world : (d : Deployment) (modules : List M) (slots : List (Slot M P)) (sent : List Sent) (fault : BootFault)
      → AreBooted declared turn first d modules slots sent (Err fault) → IsBooted declared turn first d modules (Err fault)
  fault_of_world d modules slots sent (boot_fault.Spent node peer) is = (is.hosted, is.hosts, is.booted_is)
  fault_of_world d modules slots sent boot_fault.NoMemory is = tt
