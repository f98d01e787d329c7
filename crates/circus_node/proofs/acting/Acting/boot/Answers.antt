use Rattle.std.proofs.Common.{◌≡◌, ℕ, [], List, Option, None, Some, sym, ap, subst, ◌∙◌}
use Rattle.circus_value.specs.ValueTree.{ValueTree}
use Rattle.circus_value.specs.declared.outcome.Outcome.{Outcome}
use Rattle.circus_collate.specs.declared.deployment.Deployment.{Deployment}
use Rattle.circus_collate.specs.declared.view.View.{View}
use Rattle.circus_ring.specs.RingTable.{Kept, boot_views}
use Rattle.circus_model.specs.NextTurn.{NextTurn}
use Rattle.circus_model.specs.declared.signature.Signature.{Signature}
use Rattle.circus_member_rules.specs.Happening.{IsHome}
use Rattle.circus_member_rules.specs.declared.occurrence.Effect.{Effect}
use Rattle.circus_member_rules.specs.MemberState.{MemberState}
use Rattle.circus_member_rules.specs.Step as member_step
use Rattle.circus_node.specs.declared.home.Home.{Home}
use Rattle.circus_node.specs.declared.acting.Consequences.{Consequences}
use Rattle.circus_node.specs.NodeState.{Acting, member, ringmaster}
use Rattle.circus_node.specs.Making.{Made, consequences}
use Rattle.circus_node.specs.Booting.{made_at_boot, ring_at_boot}
use Rattle.circus_node.specs.Seen.Kept.{IsActing, IsRingOf}
use Rattle.circus_node.proofs.BootLemmas.{is_home}
use Rattle.circus_node.proofs.ViewLemmas.{booted_of}
use Rattle.circus_node.proofs.acting.Acting.boot.Goals.{in_default-via-in-Some+in_default, in_default-via-in_default}
use Rattle.circus_node.proofs.acting.Acting.boot.Goals as goal

module _ {M : Type 0} (declared : M → Signature) (turn : M → List ValueTree → ℕ → List ValueTree → List Outcome → NextTurn) (first : M → List ValueTree) where
  -- a member boots with these views
  abbrev made_with : List View → Home → M → Made M
  made_with views home hosted =
      let booted = member_step.boot_member declared turn first home.place views home.beginning hosted in
      record { acting = member booted.member; came = consequences booted.effects [] }

  made_here : (d : Deployment) (home : Option Home) (hosted : Option M) (h : Home) (m : M) (views : List View)
      → home ≡ Some h → hosted ≡ Some m → views ≡ boot_views d.troupes → made_with views h m ≡ made_at_boot declared turn first d home hosted
  made_here d home hosted h m views home_is hosted_is same =
      ap (λ (vs : List View). made_with vs h m) same
      ∙ sym (ap (λ (o : Option Home). made_at_boot declared turn first d o hosted) home_is ∙ ap (λ (o : Option M). made_at_boot declared turn first d (Some h) o) hosted_is)

  acting_here : (d : Deployment) (home : Option Home) (hosted : Option M) (h : Home) (m : M) (views : List View) (n : MemberState M) (a : Acting M)
      → home ≡ Some h → hosted ≡ Some m → views ≡ boot_views d.troupes → a ≡ member n → n ≡ (member_step.boot_member declared turn first h.place views h.beginning m).member
      → a ≡ (made_at_boot declared turn first d home hosted).acting
  acting_here d home hosted h m views n a home_is hosted_is same is booted =
      is ∙ ap (λ (x : MemberState M). member x) booted ∙ ap (λ (made : Made M). made.acting) (made_here d home hosted h m views home_is hosted_is same)

  came_here : (d : Deployment) (home : Option Home) (hosted : Option M) (h : Home) (m : M) (views : List View) (es : List Effect) (came : Consequences)
      → home ≡ Some h → hosted ≡ Some m → views ≡ boot_views d.troupes → came ≡ consequences es []
      → es ≡ (member_step.boot_member declared turn first h.place views h.beginning m).effects → came ≡ (made_at_boot declared turn first d home hosted).came
  came_here d home hosted h m views es came home_is hosted_is same is booted =
      is ∙ ap (λ (x : List Effect). consequences x []) booted ∙ ap (λ (made : Made M). made.came) (made_here d home hosted h m views home_is hosted_is same)

  no_home : (d : Deployment) (home : Option Home) (hosted : Option M) → home ≡ None → made_at_boot declared turn first d home hosted ≡ ring_at_boot declared turn first d
  no_home d home hosted home_is = ap (λ (o : Option Home). made_at_boot declared turn first d o hosted) home_is

  no_module : (d : Deployment) (home : Option Home) (hosted : Option M) (h : Home) → home ≡ Some h → hosted ≡ None
      → made_at_boot declared turn first d home hosted ≡ ring_at_boot declared turn first d
  no_module d home hosted h home_is hosted_is =
      ap (λ (o : Option Home). made_at_boot declared turn first d o hosted) home_is ∙ ap (λ (o : Option M). made_at_boot declared turn first d (Some h) o) hosted_is

pub new-requires : goal.new-requires
new-requires g c = c.requires.deployment.few_troupes

pub boot-requires : goal.boot-requires
boot-requires g c =
    let a = c.in-Some-Some in
    let views = c.in_ok-views-in-Some-Some.ensures ∙ c.views.ensures ∙ ap (λ (k : Kept). k.views) c.in_ok-ring.ensures in
    subst (λ (vs : List View). IsHome (g.M.Module.declared a.hosted) a.home.place vs) (sym views)
    (is_home c.args.deployment.now c.requires.node a.home (g.M.Module.declared a.hosted) c.requires.deployment (sym c.requires.home_is ∙ a.is-0)
    (c.requires.fits a.home a.hosted a.is-0 a.is-1))

pub returns-in_ok-member-in-Some-Some-clause-acting : goal.returns-in_ok-member-in-Some-Some-clause-acting
returns-in_ok-member-in-Some-Some-clause-acting g c =
    let M = g.M.Module in
    let a = c.in-Some-Some in
    let views = c.in_ok-views-in-Some-Some.ensures ∙ c.views.ensures ∙ ap (λ (k : Kept). k.views) c.in_ok-ring.ensures in
    acting_here M.declared M.turn M.first c.args.deployment.now c.args.home c.args.hosted a.home a.hosted c.in_ok-views-in-Some-Some.views c.in_ok-member-in-Some-Some.member
    c.member.result a.is-0 a.is-1 views c.member.ensures c.in_ok-member-in-Some-Some.ensures.member

pub returns-in_ok-member-in-Some-Some-clause-came : goal.returns-in_ok-member-in-Some-Some-clause-came
returns-in_ok-member-in-Some-Some-clause-came g c =
    let M = g.M.Module in
    let a = c.in-Some-Some in
    let views = c.in_ok-views-in-Some-Some.ensures ∙ c.views.ensures ∙ ap (λ (k : Kept). k.views) c.in_ok-ring.ensures in
    came_here M.declared M.turn M.first c.args.deployment.now c.args.home c.args.hosted a.home a.hosted c.in_ok-views-in-Some-Some.views c.in_ok-member-in-Some-Some.effects
    c.of-came.result a.is-0 a.is-1 views (c.of-came.ensures ∙ ap (λ ds. consequences c.in_ok-member-in-Some-Some.effects ds) c.new-in-Some-Some.ensures) c.in_ok-member-in-Some-Some.ensures.effects

pub returns-in_ok-member-in-Some-Some-clause-kept : goal.returns-in_ok-member-in-Some-Some-clause-kept
returns-in_ok-member-in-Some-Some-clause-kept g c =
    let M = g.M.Module in
    let a = c.in-Some-Some in
    let views = c.in_ok-views-in-Some-Some.ensures ∙ c.views.ensures ∙ ap (λ (k : Kept). k.views) c.in_ok-ring.ensures in
    subst (λ (x : Acting g.row.M.Denot). IsActing c.args.deployment.now x) (sym c.member.ensures) (
      booted_of M.declared M.turn M.first a.home.place c.in_ok-views-in-Some-Some.views a.home.beginning a.hosted c.in_ok-member-in-Some-Some.member c.args.deployment.now
          views c.in_ok-member-in-Some-Some.ensures.member,
      c.in_ok-member-in-Some-Some.ensures.rest,
    )

pub returns-in_ok-ring-in_default-clause-acting : goal.returns-in_ok-ring-in_default-clause-acting
returns-in_ok-ring-in_default-clause-acting g c =
    let M = g.M.Module in
    let d = c.args.deployment.now in
    c.ringmaster.ensures
    ∙ ap (λ (k : Kept). ringmaster k) (c.in_ok-ring-in_default.ensures.ok ∙ c.in_ok-ring.ensures)
    ∙ sym (ap (λ (made : Made g.row.M.Denot). made.acting)
    (elim c.in_default.branch [
      | in_default-via-in-Some+in_default w ↦ no_module M.declared M.turn M.first d c.args.home c.args.hosted w.in_default.field-0-0 w.in_default.is-0 w.in_default.is-1
      | in_default-via-in_default w ↦ no_home M.declared M.turn M.first d c.args.home c.args.hosted w.in_default.is-0
    ]))

pub returns-in_ok-ring-in_default-clause-came : goal.returns-in_ok-ring-in_default-clause-came
returns-in_ok-ring-in_default-clause-came g c =
    let M = g.M.Module in
    let d = c.args.deployment.now in
    c.nothing.ensures
    ∙ sym (ap (λ (made : Made g.row.M.Denot). made.came)
    (elim c.in_default.branch [
      | in_default-via-in-Some+in_default w ↦ no_module M.declared M.turn M.first d c.args.home c.args.hosted w.in_default.field-0-0 w.in_default.is-0 w.in_default.is-1
      | in_default-via-in_default w ↦ no_home M.declared M.turn M.first d c.args.home c.args.hosted w.in_default.is-0
    ]))

pub returns-in_ok-ring-in_default-clause-kept : goal.returns-in_ok-ring-in_default-clause-kept
returns-in_ok-ring-in_default-clause-kept g c =
    let ring : IsRingOf c.args.deployment.now c.in_ok-ring-in_default.ring.value =
    record { deployment = c.requires.deployment; requests = []; kept_is = c.in_ok-ring-in_default.ensures.ok ∙ c.in_ok-ring.ensures } in
    subst (λ (a : Acting g.row.M.Denot). IsActing c.args.deployment.now a) (sym c.ringmaster.ensures) ring
