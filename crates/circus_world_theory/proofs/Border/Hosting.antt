-- The nodes of a troupe of a program host its members: which of them a member may call.
use Rattle.std.proofs.Common.{◌≡◌, ◌≢◌, ℕ, zero, suc, ◌+◌, ◌<◌, Bool, true, false, if◌then◌else◌, nat_eq, List, [], ◌∷◌, ◌++◌, length, All, Option, Some, None, refl, sym, ap, subst, ◌∙◌, arith, get_or, eq-eqb}
use Rattle.std.specs.Prelude.{slice_get, option_and_then, ◌||◌, ◌==◌}
use Rattle.std.specs.List.{list_any}
use Rattle.std.specs.Option.{option_map_or}
use Rattle.std.proofs.lemmas.Bool.{eqb-true}
use Rattle.std.proofs.lemmas.List.Elements.{All-map}
use Rattle.std.proofs.lemmas.List.Folds.{list_any-append, list_any_at}
use Rattle.std.proofs.lemmas.Option.{same_Some, slice_get_within}
use Rattle.circus_value.specs.Among.{is_among}
use Rattle.circus_collate.specs.Deployment.{hosting_from, IsDeployment}
use Rattle.circus_collate.specs.declared.deployment.Troupe.{Troupe}
use Rattle.circus_collate.specs.declared.deployment.Host.{Host}
use Rattle.circus_collate.specs.declared.deployment.Deployment.{Deployment}
use Rattle.circus_collate.specs.declared.view.Entry.{Entry}
use Rattle.circus_collate.specs.declared.view.View.{View}
use Rattle.circus_ring.specs.RingTable.{boot_entry, boot_view, boot_views_from, boot_views}
use Rattle.circus_member_rules.specs.declared.place.Place.{Place}
use Rattle.circus_node.specs.Accepting.{troupe_at, may_belong}
use Rattle.circus_world_theory.proofs.Border.Reaching.{AreOf, MayBeCalled}

-- a node hosts a member of a troupe
abbrev pub Hosts : Deployment → ℕ → ℕ → Type 0
Hosts d troupe node = troupe_at d node ≡ Some troupe

-- a node of the program that is another one than this
abbrev pub IsOtherOf : Deployment → ℕ → ℕ → Type 0
IsOtherOf d own node = (node < length d.nodes) × (node ≢ own)

-- ---- the nodes that host a troupe

record IsHosted («module» node number : ℕ) (nodes : List Host) : Type 0 where
  place : ℕ
  host : Host
  node_is : node ≡ number + place
  there : slice_get nodes place ≡ Some host
  of : host.module ≡ Some «module»

hosted_in : (number «module» node : ℕ) (nodes : List Host) → is_among (hosting_from number «module» nodes) node ≡ true → IsHosted «module» node number nodes
hosted_in number «module» node [] is = cc
hosted_in number «module» node (h ∷ hs) is = by_host (λ among. later (hosted_in (suc number) «module» node hs among)) h.module refl is
  where
    later : IsHosted «module» node (suc number) hs → IsHosted «module» node number (h ∷ hs)
    later rest =
        let node_is = rest.node_is in
        record { place = suc rest.place; host = rest.host; node_is = omega (arith, node_is); there = rest.there; of = rest.of }

    by_node : (is_among (hosting_from (suc number) «module» hs) node ≡ true → IsHosted «module» node number (h ∷ hs)) → h.module ≡ Some «module» → (same : Bool)
        → nat_eq number node ≡ same → (same || is_among (hosting_from (suc number) «module» hs) node) ≡ true → IsHosted «module» node number (h ∷ hs)
    by_node rest of true same among = let here : number ≡ node = eqb-true number node same in record { place = 0; host = h; node_is = omega (arith, here); there = refl; of = of }
    by_node rest of false same among = rest among

    by_number : (is_among (hosting_from (suc number) «module» hs) node ≡ true → IsHosted «module» node number (h ∷ hs)) → (n : ℕ) → h.module ≡ Some n → (b : Bool)
        → (n == «module») ≡ b → is_among (if b then number ∷ hosting_from (suc number) «module» hs else hosting_from (suc number) «module» hs) node ≡ true
        → IsHosted «module» node number (h ∷ hs)
    by_number rest n some true same among = by_node rest (some ∙ ap Some (eqb-true n «module» same)) (nat_eq number node) refl among
    by_number rest n some false differs among = rest among

    by_host : (is_among (hosting_from (suc number) «module» hs) node ≡ true → IsHosted «module» node number (h ∷ hs)) → (o : Option ℕ) → h.module ≡ o
        → is_among (if option_map_or (λ n. n == «module») o false then number ∷ hosting_from (suc number) «module» hs else hosting_from (suc number) «module» hs) node ≡ true
        → IsHosted «module» node number (h ∷ hs)
    by_host rest None none among = rest among
    by_host rest (Some n) some among = by_number rest n some (n == «module») refl among

record IsBootView (k t : ℕ) (troupes : List Troupe) (view : View) : Type 0 where
  troupe : Troupe
  there : slice_get troupes k ≡ Some troupe
  is : boot_view (t + k) troupe ≡ view

boot_view_at : (t k : ℕ) (troupes : List Troupe) (view : View) → slice_get (boot_views_from t troupes) k ≡ Some view → IsBootView k t troupes view
boot_view_at t k [] view at = cc
boot_view_at t zero (troupe ∷ troupes) view at =
    let same : boot_view t troupe ≡ view = same_Some _ _ at in
    record { troupe = troupe; there = refl; is = (let none : t + 0 ≡ t = omega arith in ap (λ n. boot_view n troupe) none ∙ same) }
boot_view_at t (suc k) (troupe ∷ troupes) view at =
    let rest = boot_view_at (t + 1) k troupes view at in
    let more : t + suc k ≡ t + 1 + k = omega arith in
    record { troupe = rest.troupe; there = rest.there; is = ap (λ n. boot_view n rest.troupe) more ∙ rest.is }

module _ (d : Deployment) (is : IsDeployment d) where
  member_hosts : (troupe node : ℕ) (t : Troupe) → slice_get d.troupes troupe ≡ Some t → is_among (t.founders ++ t.spares) node ≡ true → Hosts d troupe node
  member_hosts troupe node t at among =
      let hosted = hosted_in 0 troupe node d.nodes (subst (λ ns. is_among ns node ≡ true) (is.troupes troupe t at).members among) in
      let node_is = hosted.node_is in
      let same : hosted.place ≡ node = omega (arith, node_is) in
      subst (λ p. option_and_then (λ (h : Host). h.module) (slice_get d.nodes p) ≡ Some troupe) same (ap (λ o. option_and_then (λ (h : Host). h.module) o) hosted.there ∙ hosted.of)

  -- a founder or a spare hosts a member
  pub belongs_hosts : (troupe node : ℕ) → may_belong d troupe node ≡ true → Hosts d troupe node
  belongs_hosts troupe node may = by_troupe (slice_get d.troupes troupe) refl may
    where
      by_troupe : (o : Option Troupe) → slice_get d.troupes troupe ≡ o → option_map_or (λ (t : Troupe). is_among t.founders node || is_among t.spares node) o false ≡ true
          → Hosts d troupe node
      by_troupe None none may = cc
      by_troupe (Some t) some may = member_hosts troupe node t some (list_any-append (λ n. n == node) t.founders t.spares ∙ may)

  -- the views at boot are of the nodes of their troupes
  pub boot_views_are : AreOf (Hosts d) (boot_views d.troupes)
  boot_views_are troupe view at =
      let boot = boot_view_at 0 troupe d.troupes view at in
      let t = boot.troupe in
      subst (λ (v : View). All (λ (e : Entry). Hosts d troupe e.node) v.entries) boot.is
      (All-map (λ (e : Entry). Hosts d troupe e.node) boot_entry t.founders (λ i x within. founder_hosts t boot.there i x within))
    where
      founder_hosts : (t : Troupe) → slice_get d.troupes troupe ≡ Some t → (i x : ℕ) → i < length t.founders → Hosts d troupe (get_or t.founders i x)
      founder_hosts t there i x within =
          let node = get_or t.founders i x in
          member_hosts troupe node t there
          (list_any-append (λ n. n == node) t.founders t.spares ∙ ap (λ b. b || list_any (λ n. n == node) t.spares) (list_any_at (λ n. n == node) t.founders i x within (eq-eqb node node refl)))

  host_within : (node troupe : ℕ) → Hosts d troupe node → node < length d.nodes
  host_within node troupe hosts_ = by_host (slice_get d.nodes node) refl hosts_
    where
      by_host : (o : Option Host) → slice_get d.nodes node ≡ o → option_and_then (λ (h : Host). h.module) o ≡ Some troupe → node < length d.nodes
      by_host None none is = cc
      by_host (Some h) some is = slice_get_within d.nodes node h some

  -- a member may call the Ringmaster, and other members
  pub may_be_called : (own : ℕ) (place : Place) → place.node ≡ own → Hosts d place.troupe own → MayBeCalled (Hosts d) (IsOtherOf d own) place
  may_be_called own place at own_hosts =
      record {
        earlier = λ troupe node below hosts_. (
          host_within node troupe hosts_,
          λ same.
              let again : Hosts d troupe own = subst (Hosts d troupe) same hosts_ in
              let one : troupe ≡ place.troupe = same_Some troupe place.troupe (sym again ∙ own_hosts) in
              absurd (omega (arith, one, below)),
        );
        ring = (is.some_nodes, λ same. no_ring (subst (Hosts d place.troupe) (sym same) own_hosts));
        others = λ troupe node differs hosts_. (host_within node troupe hosts_, λ same. differs (same ∙ sym at));
      }
    where
      no_ring : Hosts d place.troupe 0 → ⊥
      no_ring hosts_ = by_host (slice_get d.nodes 0) refl hosts_
        where
          by_host : (o : Option Host) → slice_get d.nodes 0 ≡ o → option_and_then (λ (h : Host). h.module) o ≡ Some place.troupe → ⊥
          by_host None none is_ = cc
          by_host (Some h) some is_ = let none : h.module ≡ None = (is.nodes 0 h some).ringmaster.1 refl in cc
