-- A member boots where the deployment has it.
use Rattle.std.proofs.Common.{◌≡◌, ℕ, ◌+◌, ◌<◌, ◌≤◌, List, [], ◌∷◌, length, All, map, Option, None, Some, refl, sym, ap, subst, ◌∙◌, arith}
use Rattle.std.specs.Prelude.{slice_get, option_map, option_and_then}
use Rattle.std.proofs.lemmas.List.Elements.{All-nil, All-cons}
use Rattle.std.proofs.lemmas.Option.{slice_get-map, slice_get_within}
use Rattle.circus_header.specs.CallFields.{IsRequest, IsIncarnation}
use Rattle.circus_header.specs.declared.call.Request.TheVariants.{Gone}
use Rattle.circus_collate.specs.Deployment.{IsDeployment}
use Rattle.circus_collate.specs.declared.view.View.{View}
use Rattle.circus_collate.specs.declared.deployment.Host.{Host}
use Rattle.circus_collate.specs.declared.deployment.Troupe.{Troupe}
use Rattle.circus_collate.specs.declared.deployment.Deployment.{Deployment}
use Rattle.circus_ring.specs.RingTable.{boot_views, boot_views_from}
use Rattle.circus_ring.proofs.Booting.{length_boot}
use Rattle.circus_model.specs.Lawful.{arguments_fit}
use Rattle.circus_model.specs.declared.signature.Signature.{Signature}
use Rattle.circus_member_rules.specs.declared.place.Place.{Place}
use Rattle.circus_member_rules.specs.Callable.{AreHosts}
use Rattle.circus_member_rules.specs.Happening.{IsHome}
use Rattle.circus_node.specs.declared.home.Home.{Home}
use Rattle.circus_node.specs.Accepting.{troupe_at}
use Rattle.circus_node.specs.Booting.{home_in, home_of, IsOfTroupe, CanBoot}
use Rattle.circus_node.specs.Seen.Kept.{MayStand}

-- ---- where a member stands

-- the home of a node is by its troupe
pub record Stands (d : Deployment) (node : ℕ) (h : Home) : Type 0 where
  pub number : ℕ
  pub troupe : Troupe
  pub hosted : troupe_at d node ≡ Some number
  pub there : slice_get d.troupes number ≡ Some troupe
  pub home : h ≡ home_in d node number troupe

pub stands : (d : Deployment) (node : ℕ) (h : Home) → home_of d node ≡ Some h → Stands d node h
stands d node h e = by_number (troupe_at d node) refl e
  where
    by_troupe : (number : ℕ) (o : Option Troupe) → troupe_at d node ≡ Some number → slice_get d.troupes number ≡ o
        → option_map (home_in d node number) o ≡ Some h → Stands d node h
    by_troupe number None hosted there is = absurd (let clash : ◌≡◌ {A = Option Home} None (Some h) = is in cc)
    by_troupe number (Some troupe) hosted there is =
        let same : home_in d node number troupe ≡ h = cc in
        record { number = number; troupe = troupe; hosted = hosted; there = there; home = sym same }

    by_number : (o : Option ℕ) → troupe_at d node ≡ o → option_and_then (λ number. option_map (home_in d node number) (slice_get d.troupes number)) o ≡ Some h → Stands d node h
    by_number None hosted is = absurd (let clash : ◌≡◌ {A = Option Home} None (Some h) = is in cc)
    by_number (Some number) hosted is = by_troupe number (slice_get d.troupes number) hosted refl is

-- a node that hosts a member is one of the nodes
hosted_within : (d : Deployment) (node number : ℕ) → troupe_at d node ≡ Some number → node < length d.nodes
hosted_within d node number e = by_host (slice_get d.nodes node) refl e
  where
    by_host : (o : Option Host) → slice_get d.nodes node ≡ o → option_and_then (λ (h : Host). h.module) o ≡ Some number → node < length d.nodes
    by_host None at is = absurd (let clash : ◌≡◌ {A = Option ℕ} None (Some number) = is in cc)
    by_host (Some h) at is = slice_get_within d.nodes node h at

-- ---- its surroundings

hosts_are : (d : Deployment) (place : Place) → IsDeployment d → place.troupes ≡ map (λ (h : Host). h.module) d.nodes → AreHosts place
hosts_are d place is e node troupe at =
    by_host (slice_get d.nodes node) refl
    (sym (slice_get-map (λ (h : Host). h.module) d.nodes node) ∙ ap (λ xs. slice_get xs node) (sym e) ∙ at)
  where
    by_host : (o : Option Host) → slice_get d.nodes node ≡ o → option_map (λ (h : Host). h.module) o ≡ Some (Some troupe) → IsRequest (Gone troupe node)
    by_host None there found = absurd (let clash : ◌≡◌ {A = Option (Option ℕ)} None (Some (Some troupe)) = found in cc)
    by_host (Some h) there found =
        let hosted : h.module ≡ Some troupe = cc in
        let few : troupe < length d.troupes = (is.nodes node h there).hosted troupe hosted in
        let within : node < length d.nodes = slice_get_within d.nodes node h there in
        let modules : length d.troupes ≤ 32 = is.few_troupes in
        let nodes : length d.nodes ≤ 64 = is.few_nodes in
        (omega (arith, few, modules), omega (arith, within, nodes))

first_incarnations : (t : ℕ) (troupes : List Troupe) → All (λ (v : View). IsIncarnation v.incarnation) (boot_views_from t troupes)
first_incarnations t [] = All-nil (λ (v : View). IsIncarnation v.incarnation)
first_incarnations t (troupe ∷ troupes) =
    All-cons (λ (v : View). IsIncarnation v.incarnation) _ (boot_views_from (t + 1) troupes) (omega arith) (first_incarnations (t + 1) troupes)

pub is_home : (d : Deployment) (node : ℕ) (h : Home) (declared : Signature) → IsDeployment d → home_of d node ≡ Some h → IsOfTroupe d h.place.troupe declared
    → IsHome declared h.place (boot_views d.troupes)
is_home d node h declared is e fits =
    let s = stands d node h e in
    let own : h.place.troupe ≡ s.number = ap (λ (x : Home). x.place.troupe) s.home in
    let at : h.place.node ≡ node = ap (λ (x : Home). x.place.node) s.home in
    let few : s.number < length d.troupes = slice_get_within d.troupes s.number s.troupe s.there in
    let within : node < length d.nodes = hosted_within d node s.number s.hosted in
    let modules : length d.troupes ≤ 32 = is.few_troupes in
    let nodes : length d.nodes ≤ 64 = is.few_nodes in
    let many = length_boot d.troupes in
    record {
      few = omega (arith, many, modules);
      own = omega (arith, many, own, few);
      node = omega (arith, at, within, nodes);
      hosts = hosts_are d h.place is (ap (λ (x : Home). x.place.troupes) s.home);
      incarnations = first_incarnations 0 d.troupes;
      imports = λ callee i found. (fits.imports callee i found).0;
      main = λ root. ap (λ ps. arguments_fit ps 0 []) (fits.main root);
    }

-- a member may boot where its node may
pub may_stand : {M : Type 0} (declared : M → Signature) (d : Deployment) (node : ℕ) (home : Option Home) (hosted : Option M)
    → CanBoot d node (option_map declared hosted) → home ≡ home_of d node → MayStand declared d home hosted
may_stand declared d node home hosted can is =
    record {
      deployment = can.deployment;
      node = node;
      home_is = is;
      fits = λ h m at there.
          let s = stands d node h (sym is ∙ at) in
          subst (λ t. IsOfTroupe d t (declared m)) (sym (ap (λ (x : Home). x.place.troupe) s.home))
          (can.fits s.number (declared m) s.hosted (ap (option_map declared) there));
    }
