-- Where nothing is lost, all that was handed over has been told to the members.
use Rattle.std.proofs.Common.{◌≡◌, ◌≢◌, inl, inr, ℕ, zero, suc, ◌+◌, ◌<◌, ◌≤◌, Bool, true, false, ◌||◌, eqb, List, [], ◌∷◌, length, map, Option, None, Some, refl, sym, ap, subst, arith}
use Rattle.std.specs.Prelude.{slice_get, is_some}
use Rattle.std.specs.List.{list_any}
use Rattle.std.proofs.lemmas.Option.{none-some, same_Some, slice_get_within}
use Rattle.circus_value.specs.ValueTree.{ValueTree}
use Rattle.circus_value.specs.Among.{is_among}
use Rattle.circus_value.specs.declared.caller.Caller.{Caller}
use Rattle.circus_value.specs.declared.outcome.Outcome.{Outcome}
use Rattle.circus_collate.specs.declared.deployment.Deployment.{Deployment}
use Rattle.circus_collate.specs.declared.deployment.Troupe.{Troupe}
use Rattle.circus_collate.specs.declared.view.Entry.{Entry}
use Rattle.circus_ring.specs.RingTable.{boot_entry, boot_view, boot_views_from}
use Rattle.circus_model.specs.NextTurn.{NextTurn}
use Rattle.circus_model.specs.Behaviour.{IsModule}
use Rattle.circus_model.specs.declared.signature.Signature.{Signature}
use Rattle.circus_gather.specs.Gathering.{callers}
use Rattle.circus_gather.specs.declared.held.HeldCall.{HeldCall}
use Rattle.circus_performing.specs.Record.{behaviour}
use Rattle.circus_member_rules.specs.MemberState.{MemberState}
use Rattle.circus_node.specs.NodeState.{member}
use Rattle.circus_schedule.specs.declared.line.Line.{Line}
use Rattle.circus_world.specs.WorldState.{WorldState, Standing}
use Rattle.circus_world_theory.proofs.Worlds.{at_pair}
use Rattle.circus_world_theory.specs.Worlds.{IsWorldOf}
use Rattle.circus_world_theory.proofs.Proper.{fits, are_proper}
use Rattle.circus_world_theory.proofs.Border.Handing.{is_same}
use Rattle.circus_world_theory.proofs.Border.Waiting.{is_caller, one_if, times_in, waiting_at}
use Rattle.circus_world_theory.specs.Quiet.{IsQuiet}
use Rattle.circus_world_theory.specs.Told.{IsWaiting, IsTold, AllTold}
use Rattle.circus_model.proofs.Threads.{are_modules}
use Rattle.circus_wire.specs.WireActs.{WireActs}
use Rattle.circus_member_rules.specs.declared.occurrence.Purpose.{Purpose}
use Rattle.circus_world_theory.proofs.Boots.{world_stands}
use Rattle.circus_world_theory.specs.Coming.{AllArrived}
use Rattle.circus_world_theory.proofs.Quiescence.CalmSteps.{CalmAt}
use Rattle.circus_world_theory.proofs.Quiescence.CalmWorlds.{program, many, acts, holds_at_last}
use Rattle.circus_world_theory.proofs.Quiescence.Lossless.{all_between}
use Rattle.circus_world_theory.proofs.Quiescence.QuietWorlds.{all_still}

-- ---- the views at boot

pub boot_there : (t k : ℕ) (troupes : List Troupe) (one : Troupe) → slice_get troupes k ≡ Some one → (n : ℕ) × (slice_get (boot_views_from t troupes) k ≡ Some (boot_view n one))
boot_there t k [] one at = absurd (none-some one at)
boot_there t zero (troupe ∷ troupes) one at = (t, ap (λ x. Some (boot_view t x)) (same_Some troupe one at))
boot_there t (suc k) (troupe ∷ troupes) one at = boot_there (t + 1) k troupes one at

founder_entry : (n node : ℕ) (founders : List ℕ) → is_among founders node ≡ true → list_any (λ (e : Entry). eqb e.node node) (map boot_entry founders) ≡ true
founder_entry n node [] among = among
founder_entry n node (x ∷ founders) among = by_first (founder_entry n node founders) (eqb x node) among
  where
    by_first : (list_any (λ y. eqb y node) founders ≡ true → list_any (λ (e : Entry). eqb e.node node) (map boot_entry founders) ≡ true) → (b : Bool) → (b || list_any (λ y. eqb y node) founders) ≡ true
        → (b || list_any (λ (e : Entry). eqb e.node node) (map boot_entry founders)) ≡ true
    by_first rest true is = refl
    by_first rest false is = rest is

-- ---- who waits

held_there : (c : Caller) (held : List HeldCall) → 1 ≤ times_in c (callers held) → (place : ℕ) × (call : HeldCall) × (slice_get held place ≡ Some call) × (call.sender ≡ c)
held_there c [] some = absurd (omega (arith, some))
held_there c (h ∷ held) some = by_test (held_there c held) (is_caller c h.sender) refl some
  where
    by_test : (1 ≤ times_in c (callers held) → (place : ℕ) × (call : HeldCall) × (slice_get held place ≡ Some call) × (call.sender ≡ c)) → (b : Bool) → is_caller c h.sender ≡ b → 1 ≤ one_if b + times_in c (callers held)
        → (place : ℕ) × (call : HeldCall) × (slice_get (h ∷ held) place ≡ Some call) × (call.sender ≡ c)
    by_test rest true is more = (0, h, refl, sym (is_same c h.sender is))
    by_test rest false is more = (let r = rest (omega (arith, more)) in (suc r.0, r.1, r.2, r.3))

back_there : (o : Option (List ℕ)) → is_some o ≡ true → (back : List ℕ) × (o ≡ Some back)
back_there None is = absurd (let clash : false ≡ true = is in cc)
back_there (Some l) is = (l, refl)

module _ {M : Type 0} (declared : M → Signature) (turn : M → List ValueTree → ℕ → List ValueTree → List Outcome → NextTurn) (first : M → List ValueTree)
    (lawful : (hosted : M) → IsModule (behaviour declared turn first hosted))
    (d : Deployment) (modules : List M) (hosted : List (Option M)) (lines : List Line) (booted last : WorldState M)
    (world : IsWorldOf declared turn first d modules hosted lines booted last) (lossless : IsQuiet last lines) where
  module _ (node : ℕ) (s : Standing M) (m : MemberState M) (at : slice_get last.nodes node ≡ Some s) (acting : s.node.acting ≡ member m) where
    abbrev happened : ℕ → WireActs Purpose
    happened = acts declared turn first lawful d modules hosted lines booted last world lossless.alone

    calm : CalmAt declared turn first lawful (program declared turn first lawful d modules hosted lines booted last world) world.agree (are_modules declared turn first modules lawful) (are_proper declared turn first d modules world.troupes) d world.deployment
        (many declared turn first lawful d modules hosted lines booted last world) (fits declared turn first d modules world.troupes) node (happened node) m
    calm = (holds_at_last declared turn first lawful d modules hosted lines booted last world lossless.alone).2.calm node s m at acting

    node_below : node < length d.nodes
    node_below = subst (λ k. node < k) (world_stands declared turn first d hosted modules lines booted last world.deployment world.troupes world.hosts world.boots world.leads).all (slice_get_within last.nodes node s at)

    -- all that another node handed over to this one has arrived
    between : (other : ℕ) → other < length d.nodes → other ≢ node → AllArrived d.format (at_pair d happened other node) (at_pair d happened node other)
    between other below differs = all_between declared turn d first hosted modules lines booted last world.deployment world.troupes world.hosts world.boots world.leads lossless other node below node_below differs

    waits : (caller : Caller) → 1 ≤ waiting_at caller m → IsWaiting m caller
    waits caller waiting =
        let none : times_in caller m.requests ≡ 0 = ap (times_in caller) (all_still declared turn first lawful d modules hosted lines booted last world lossless.alone node s m at acting).requests in
        let h = held_there caller m.gathered.held (omega (arith, waiting, none)) in
        record { place = h.0; call = h.1; there = h.2; is_of = h.3 }

    pub told : IsTold d happened node m
    told = record {
      called = λ index number callee other t r there founder.
          let v = boot_there 0 callee d.troupes t there in
          calm.made index number callee r (boot_view v.0 t) other v.1 (founder_entry v.0 other t.founders founder);
      heard = λ caller message below differs called. elim (calm.waits caller (below, differs) ((between caller.node below differs).calls caller.number message called)) [
        | inl returned ↦ inl (back_there _ returned)
        | inr waiting ↦ inr (waits caller waiting)
      ];
      said = λ other k index number callee asked message below differs returned for_ open_ asking there.
          calm.said other k index number callee asked (below, differs) ((between other below differs).returns k message returned) for_ open_ asking there;
      gone = calm.gone;
    }

  pub all_told : AllTold d (acts declared turn first lawful d modules hosted lines booted last world lossless.alone) last
  all_told = told
