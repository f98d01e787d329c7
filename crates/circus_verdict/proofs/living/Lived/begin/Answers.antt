use Rattle.std.proofs.Common.{◌∙◌, ℕ, List, [], ◌∷◌, length, sym, ap, subst}
use Rattle.circus_collate.specs.declared.view.View.{View}
use Rattle.circus_ring.specs.RingTable.{Kept}
use Rattle.circus_ring.proofs.Booting.{length_boot}
use Rattle.circus_member_rules.specs.Happening.{IsHome}
use Rattle.circus_wire.specs.WireActs.{begun}
use Rattle.circus_dues.specs.Seen.Sound.{IsSayable}
use Rattle.circus_verdict.specs.Seen.Living.{dues_of, HasLived}
use Rattle.circus_verdict.specs.Seen.Station.{StandFor, TellsOf}
use Rattle.circus_verdict.proofs.Booting.{begins_to_peers, lives_at_boot, boot_untimely, boot_untold}
use Rattle.circus_verdict.proofs.LivedSteps.{boot_of, node_is}
use Rattle.circus_verdict.proofs.Stationing.{still_of}
use Rattle.circus_verdict.proofs.living.Lived.begin.Goals as goal

pub begin-requires-clause-home : goal.begin-requires-clause-home
begin-requires-clause-home c =
    let of = c.args.of.now in
    let views = c.in_ok-views.ensures ∙ c.views.ensures ∙ ap (λ (k : Kept). k.views) c.in_ok-ring.ensures in
    subst (IsHome of.signature.now of.home.now.place) (sym views) c.requires.home

pub begin-requires-clause-says : goal.begin-requires-clause-says
begin-requires-clause-says c =
    let of = c.args.of.now in
    let views = c.in_ok-views.ensures ∙ c.views.ensures ∙ ap (λ (k : Kept). k.views) c.in_ok-ring.ensures in
    let many = ap (λ (v : List View). length v) views ∙ length_boot of.deployment.now.troupes in
    subst (λ n. IsSayable of.signature.now n of.kept.now) (sym many) c.requires.sayable

pub returns-then-not-is_in_time-clause-lived : goal.returns-then-not-is_in_time-clause-lived
returns-then-not-is_in_time-clause-lived c = λ b node number troupe of_ first_is.
    let of = c.args.of.now in
    let views = c.in_ok-views.ensures ∙ c.views.ensures ∙ ap (λ (k : Kept). k.views) c.in_ok-ring.ensures in
    let dues = c.in_ok-dues.dues in
    let made = c.in_ok-dues.made in
    let s = boot_of of.deployment.now of.home.now of.signature.now of.kept.now b node number troupe of_ c.args.boot.now dues made c.in_ok-views.views c.phase_at_boot-begins.result c.args.first c.requires.boot c.requires.few
    c.requires.sayable views c.phase_at_boot-begins.ensures first_is c.in_ok-dues.ensures.tells c.in_ok-dues.ensures.stands in
    boot_untimely of.deployment.now b node number troupe of.kept.now of_.at c.args.boot.now dues made s (sym c.is_in_time.ensures ∙ c.if-not-is_in_time.true)

pub returns-then-not-tells-clause-lived : goal.returns-then-not-tells-clause-lived
returns-then-not-tells-clause-lived c = λ b node number troupe of_ first_is.
    let of = c.args.of.now in
    let d = of.deployment.now in
    let boot = c.args.boot.now in
    let views = c.in_ok-views.ensures ∙ c.views.ensures ∙ ap (λ (k : Kept). k.views) c.in_ok-ring.ensures in
    let dues = c.in_ok-dues.dues in
    let made = c.in_ok-dues.made in
    let last = c.is_told.new.pairs in
    let stand = subst (λ n. StandFor d n begun c.in_ok-pairs.pairs) (node_is d of.home.now of.signature.now of.kept.now b node number troupe of_) c.in_ok-pairs.ensures.stand in
    let s = boot_of d of.home.now of.signature.now of.kept.now b node number troupe of_ boot dues made c.in_ok-views.views c.phase_at_boot-begins.result c.args.first c.requires.boot c.requires.few
    c.requires.sayable views c.phase_at_boot-begins.ensures first_is c.in_ok-dues.ensures.tells c.in_ok-dues.ensures.stands in
    boot_untold d b node number troupe of.kept.now of_.at boot dues made s (sym c.is_in_time.ensures ∙ c.if-not-is_in_time.false)
    (λ peers. subst (TellsOf d node begun [] made [] boot last) c.if-not-tells.true (c.in_ok-tells.ensures.tells d node begun [] stand c.new-3.ensures peers))

pub returns-clause-ready : goal.returns-clause-ready
returns-clause-ready c =
    let of = c.args.of.now in
    let d = of.deployment.now in
    let views = c.in_ok-views.ensures ∙ c.views.ensures ∙ ap (λ (k : Kept). k.views) c.in_ok-ring.ensures in
    let dues = c.in_ok-dues.dues in
    let stands = c.in_ok-dues.ensures.stands in
    record {
      format = c.is_told.ensures.format;
      pairs = still_of d of.home.now.place.node c.in_ok-pairs.pairs c.is_told.new.pairs c.is_told.ensures.remains c.in_ok-pairs.ensures.own;
      dues_are = λ j. dues_of (stands.0 j) (stands.1 j) (stands.2 j) dues.owing;
      sound = c.in_ok-dues.ensures.sound;
      many = c.in_ok-dues.ensures.views ∙ ap (λ (v : List View). length v) views ∙ length_boot d.troupes;
      few = c.requires.few;
    }

pub returns-clause-lived : goal.returns-clause-lived
returns-clause-lived c = λ b node number troupe of_ first_is lawful.
    let of = c.args.of.now in
    let d = of.deployment.now in
    let boot = c.args.boot.now in
    let views = c.in_ok-views.ensures ∙ c.views.ensures ∙ ap (λ (k : Kept). k.views) c.in_ok-ring.ensures in
    let dues = c.in_ok-dues.dues in
    let made = c.in_ok-dues.made in
    let last = c.is_told.new.pairs in
    let stand = subst (λ n. StandFor d n begun c.in_ok-pairs.pairs) (node_is d of.home.now of.signature.now of.kept.now b node number troupe of_) c.in_ok-pairs.ensures.stand in
    let s = boot_of d of.home.now of.signature.now of.kept.now b node number troupe of_ boot dues made c.in_ok-views.views c.phase_at_boot-begins.result c.args.first c.requires.boot c.requires.few
    c.requires.sayable views c.phase_at_boot-begins.ensures first_is c.in_ok-dues.ensures.tells c.in_ok-dues.ensures.stands in
    let timely = sym c.is_in_time.ensures ∙ c.if-not-is_in_time.false in
    let peers = begins_to_peers d b node number troupe of.kept.now of_.at boot dues made s lawful timely in
    subst (λ (awaited : List ℕ). HasLived d b node number troupe of.kept.now (boot ∷ []) last dues awaited) (sym c.new-4.ensures)
    (lives_at_boot d b node number troupe of.kept.now of_.at boot dues made s lawful timely last
    (subst (TellsOf d node begun [] made [] boot last) c.if-not-tells.false (c.in_ok-tells.ensures.tells d node begun [] stand c.new-3.ensures peers)))
