-- The member that a node of a program hosts.
use Rattle.std.specs.Prelude.{slice_get, option_and_then, option_map}
use Rattle.std.proofs.Common.{◌≡◌, ℕ, ◌<◌, List, length, map, get_or, Option, None, Some, refl, sym, ap, subst, ◌∙◌, arith}
use Rattle.std.proofs.Math.ListN.{length-map}
use Rattle.std.proofs.lemmas.Option.{slice_get-map, slice_get_read, slice_get_within}
use Rattle.circus_value.specs.ValueTree.{ValueTree}
use Rattle.circus_value.specs.declared.outcome.Outcome.{Outcome}
use Rattle.circus_collate.specs.Deployment.{IsDeployment}
use Rattle.circus_collate.specs.declared.deployment.Deployment.{Deployment}
use Rattle.circus_collate.specs.declared.deployment.Host.{Host}
use Rattle.circus_ring.specs.RingTable.{boot_views}
use Rattle.circus_model.specs.Behaviour.{Behaviour, behaviours, IsModule}
use Rattle.circus_model.specs.NextTurn.{NextTurn}
use Rattle.circus_model.specs.declared.signature.Signature.{Signature}
use Rattle.circus_model.proofs.Lookups as lookups
use Rattle.circus_performing.specs.Record.{behaviour}
use Rattle.circus_performing.proofs.Records.{none_is_some}
use Rattle.circus_member_rules.specs.Happening.{IsHome}
use Rattle.circus_node.specs.Accepting.{troupe_at}
use Rattle.circus_node.specs.Booting.{home_in, home_of, AreOfTroupes, IsOfTroupe}
use Rattle.circus_node.specs.declared.home.Home.{Home}
use Rattle.circus_node.proofs.BootLemmas.{Stands, stands, is_home}
use Rattle.circus_verdict.specs.Seen.Living.{IsMemberAt, IsOf}

-- a node without a home hosts no member
pub no_home : (d : Deployment) (node : ℕ) → IsDeployment d → home_of d node ≡ None → troupe_at d node ≡ None
no_home d node good none = by_number (troupe_at d node) refl
  where
    by_host : (number : ℕ) (o : Option Host) → slice_get d.nodes node ≡ o → option_and_then (λ (h : Host). h.module) o ≡ Some number → number < length d.troupes
    by_host number None at is = absurd (let clash : ◌≡◌ {A = Option ℕ} None (Some number) = is in cc)
    by_host number (Some host) at is = (good.nodes node host at).hosted number is

    by_number : (o : Option ℕ) → troupe_at d node ≡ o → troupe_at d node ≡ None
    by_number None is = is
    by_number (Some number) is =
        let there = lookups.within d.troupes number (by_host number (slice_get d.nodes node) refl is) in
        absurd
        (none_is_some
        (sym none
        ∙ ap (option_and_then (λ (n : ℕ). option_map (home_in d node n) (slice_get d.troupes n))) is
        ∙ ap (option_map (home_in d node number)) there.1))

module _ {M : Type 0} (declared : M → Signature) (turn : M → List ValueTree → ℕ → List ValueTree → List Outcome → NextTurn) (first : M → List ValueTree) (lawful : (m : M) → IsModule (behaviour declared turn first m))
    (d : Deployment) (modules : List M) (node : ℕ) (home : Home) (good : IsDeployment d) (fit : AreOfTroupes d (map declared modules)) (within : node < length d.nodes) (is : home_of d node ≡ Some home) where
  pub s : Stands d node home
  s = stands d node home is

  number_is : home.place.troupe ≡ s.number
  number_is = ap (λ (x : Home). x.place.troupe) s.home

  -- its module is there
  pub troupe_within : home.place.troupe < length modules
  troupe_within =
      let few = slice_get_within d.troupes s.number s.troupe s.there in
      let same = number_is in
      let each = fit.one_each in
      let many = length-map modules declared in
      omega (arith, few, same, each, many)

  pub there_is : (place : ℕ) (m : M) → place ≡ home.place.troupe → m ≡ get_or modules place m → slice_get modules home.place.troupe ≡ Some m
  there_is place m same is = (let few = troupe_within in ap (slice_get modules) (sym same) ∙ slice_get_read modules (length modules) place m refl (omega (arith, few, same)) is)

  module _ (m : M) (there : slice_get modules home.place.troupe ≡ Some m) where
    abbrev does : Behaviour
    does = behaviour declared turn first m

    of_troupe : IsOfTroupe d home.place.troupe (declared m)
    of_troupe = fit.each home.place.troupe (declared m) (slice_get-map declared modules home.place.troupe ∙ ap (option_map declared) there)

    pub hosted_home : IsHome (declared m) home.place (boot_views d.troupes)
    hosted_home = is_home d node home (declared m) good is of_troupe

    pub hosted_is : slice_get (behaviours declared turn first modules) s.number ≡ Some does
    hosted_is = slice_get-map does_of modules s.number ∙ ap (λ n. option_map does_of (slice_get modules n)) (sym number_is) ∙ ap (option_map does_of) there
      where
        does_of : M → Behaviour
        does_of = behaviour declared turn first

    pub hosted_at : IsMemberAt d does node s.number s.troupe
    hosted_at =
        record {
          good = good;
          within = within;
          hosts = s.hosted;
          is_troupe = s.there;
          lawful = lawful m;
          fits = subst (λ n. IsOfTroupe d n (declared m)) number_is of_troupe;
        }

    pub hosted_of : IsOf d home (declared m) does node s.number s.troupe
    hosted_of = record { at = hosted_at; home_is = s.home; declares = refl }
