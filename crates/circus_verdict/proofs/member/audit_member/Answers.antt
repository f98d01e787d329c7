use Rattle.std.proofs.Common.{◌≡◌, ◌∙◌, ◌+◌, ◌≤◌, true, false, ◌∷◌, length, All, None, Some, refl, sym, ap, subst, arith}
use Rattle.std.proofs.Math.ListN.{length-map}
use Rattle.circus_model.specs.Behaviour.{behaviours}
use Rattle.circus_record.specs.declared.record.MemberRecord.{MemberRecord}
use Rattle.circus_performing.specs.Performing.{before_any, is_active}
use Rattle.circus_node.specs.declared.home.Home.{Home}
use Rattle.circus_dues.specs.Seen.Sound.{IsSayable}
use Rattle.circus_verdict.specs.Seen.Judging.{FewRuns, HasRunSo, IsCounted, whole_record}
use Rattle.circus_verdict.specs.Seen.Living.{HasCome, RunsThrough}
use Rattle.circus_verdict.proofs.MemberSaid.{whole_few, whole_sayable, whole_apart, place_within, does, number, troupe, home_there, of_it, sayable_there, not_said, not_counted, says_more, no_run, run_apart, run_active}
use Rattle.circus_verdict.proofs.member.audit_member.Goals as goal

pub bounds-modules-from : goal.bounds-modules-from
bounds-modules-from g c =
    let M = g.M.Module in
    let d = c.args.deployment.now in
    place_within M.declared M.turn M.first (λ m. record { first_is_state = g.met.M.Module.first_is_state m; turns_are_lawful = g.met.M.Module.turns_are_lawful m }) d c.args.modules.now c.args.given.now c.args.home.now c.requires.deployment c.requires.modules c.requires.within c.requires.home c.from.result c.from.ensures

pub returns-in_default : goal.returns-in_default
returns-in_default g c =
    let M = g.M.Module in
    let d = c.args.deployment.now in
    let m = c.index-modules-from.result in
    not_said M.declared M.turn M.first (λ m. record { first_is_state = g.met.M.Module.first_is_state m; turns_are_lawful = g.met.M.Module.turns_are_lawful m }) d c.args.modules.now c.args.given.now c.args.home.now c.requires.deployment c.requires.modules c.requires.within c.requires.home c.from.result m c.from.ensures c.index-modules-from.is (c.args.boot.now ∷ c.args.later.now) c.requires.events c.in_default.is

pub returns-then-not-are_counted : goal.returns-then-not-are_counted
returns-then-not-are_counted g c =
    let M = g.M.Module in
    let d = c.args.deployment.now in
    let m = c.index-modules-from.result in
    not_counted M.declared M.turn M.first (λ m. record { first_is_state = g.met.M.Module.first_is_state m; turns_are_lawful = g.met.M.Module.turns_are_lawful m }) d c.args.modules.now c.args.given.now c.args.home.now c.requires.deployment c.requires.modules c.requires.within c.requires.home c.from.result m c.from.ensures c.index-modules-from.is (c.args.boot.now ∷ c.args.later.now) c.requires.events c.in-Some.said c.in-Some.is
    (λ all.
    let counted : All (IsCounted c.len.result) c.as_slice.result.now =
    subst (λ n. All (IsCounted n) c.as_slice.result.now) (sym c.len.ensures) (subst (All (IsCounted (length d.troupes))) (sym c.as_slice.ensures) all) in
    let clash : false ≡ true = sym c.if-not-are_counted.true ∙ c.are_counted.ensures.1 counted in cc)

pub returns-then-not-says_no_more : goal.returns-then-not-says_no_more
returns-then-not-says_no_more g c =
    let M = g.M.Module in
    let d = c.args.deployment.now in
    let m = c.index-modules-from.result in
    says_more M.declared M.turn M.first (λ m. record { first_is_state = g.met.M.Module.first_is_state m; turns_are_lawful = g.met.M.Module.turns_are_lawful m }) d c.args.modules.now c.args.given.now c.args.home.now c.requires.deployment c.requires.modules c.requires.within c.requires.home c.from.result m c.from.ensures c.index-modules-from.is (c.args.boot.now ∷ c.args.later.now) c.requires.events c.in-Some.said c.in-Some.is c.is_active-active.result c.is_active-active.ensures
    (λ alone. let clash : false ≡ true = sym c.if-not-says_no_more.true ∙ c.says_no_more.ensures.1 alone in cc)

pub live_through-requires-clause-node : goal.live_through-requires-clause-node
live_through-requires-clause-node g c =
    let M = g.M.Module in
    let d = c.args.deployment.now in
    let m = c.index-modules-from.result in
    let same = ap (λ (h : Home). h.place.node) (of_it M.declared M.turn M.first (λ m. record { first_is_state = g.met.M.Module.first_is_state m; turns_are_lawful = g.met.M.Module.turns_are_lawful m }) d c.args.modules.now c.args.given.now c.args.home.now c.requires.deployment c.requires.modules c.requires.within c.requires.home c.from.result m c.from.ensures c.index-modules-from.is (M.declared m) refl).home_is in
    let within = c.requires.within in
    omega (arith, same, within)

pub live_through-requires-clause-home : goal.live_through-requires-clause-home
live_through-requires-clause-home g c =
    let M = g.M.Module in
    let d = c.args.deployment.now in
    let m = c.index-modules-from.result in
    home_there M.declared M.turn M.first (λ m. record { first_is_state = g.met.M.Module.first_is_state m; turns_are_lawful = g.met.M.Module.turns_are_lawful m }) d c.args.modules.now c.args.given.now c.args.home.now c.requires.deployment c.requires.modules c.requires.within c.requires.home c.from.result m c.from.ensures c.index-modules-from.is c.signature.result.now c.signature.ensures

pub live_through-requires-clause-sayable : goal.live_through-requires-clause-sayable
live_through-requires-clause-sayable g c =
    let M = g.M.Module in
    let d = c.args.deployment.now in
    let m = c.index-modules-from.result in
    let counted : All (IsCounted (length d.troupes)) c.in-Some.said.runs =
    subst (λ n. All (IsCounted n) c.in-Some.said.runs) c.len.ensures (subst (All (IsCounted c.len.result)) c.as_slice.ensures (c.are_counted.ensures.0 c.if-not-are_counted.false)) in
    subst (IsSayable c.signature.result.now (length d.troupes)) (sym c.whole.ensures)
    (whole_sayable c.in-Some.said c.has_done_nothing-nothing.result c.in_ok-first_state.field-0 c.has_done_nothing-nothing.ensures c.is_active-active.result c.signature.result.now (length d.troupes)
    (sayable_there M.declared M.turn M.first (λ m. record { first_is_state = g.met.M.Module.first_is_state m; turns_are_lawful = g.met.M.Module.turns_are_lawful m }) d c.args.modules.now c.args.given.now c.args.home.now c.requires.deployment c.requires.modules c.requires.within c.requires.home c.from.result m c.from.ensures c.index-modules-from.is c.requires.says c.in-Some.said c.in-Some.is counted c.signature.result.now c.signature.ensures))

pub live_through-requires-clause-apart : goal.live_through-requires-clause-apart
live_through-requires-clause-apart g c =
    let M = g.M.Module in
    let d = c.args.deployment.now in
    let m = c.index-modules-from.result in
    subst (λ (k : MemberRecord). is_active k.phase ≡ false → (k.from ≡ 0) × (k.active_at ≡ 0)) (sym c.whole.ensures)
    (whole_apart c.in-Some.said c.has_done_nothing-nothing.result c.in_ok-first_state.field-0 c.has_done_nothing-nothing.ensures c.is_active-active.result c.is_active-active.ensures)

pub live_through-requires-clause-few : goal.live_through-requires-clause-few
live_through-requires-clause-few g c =
    let M = g.M.Module in
    let d = c.args.deployment.now in
    let m = c.index-modules-from.result in
    subst (λ (k : MemberRecord). k.from + length k.runs ≤ 4294967296) (sym c.whole.ensures)
    (whole_few c.in-Some.said c.has_done_nothing-nothing.result c.in_ok-first_state.field-0 c.has_done_nothing-nothing.ensures c.is_active-active.result (subst FewRuns c.in-Some.is c.requires.few))

pub live_through-requires-clause-come : goal.live_through-requires-clause-come
live_through-requires-clause-come g c =
    let M = g.M.Module in
    let d = c.args.deployment.now in
    let m = c.index-modules-from.result in
    let same = ap (λ (h : Home). h.place.node) (of_it M.declared M.turn M.first (λ m. record { first_is_state = g.met.M.Module.first_is_state m; turns_are_lawful = g.met.M.Module.turns_are_lawful m }) d c.args.modules.now c.args.given.now c.args.home.now c.requires.deployment c.requires.modules c.requires.within c.requires.home c.from.result m c.from.ensures c.index-modules-from.is (M.declared m) refl).home_is in
    subst (λ n. All (HasCome d n) c.args.later.now) (sym same) c.requires.come

pub returns-in_default-2 : goal.returns-in_default-2
returns-in_default-2 g c =
    let M = g.M.Module in
    let d = c.args.deployment.now in
    let m = c.index-modules-from.result in
    let nothing : c.has_done_nothing-nothing.result ≡ before_any c.in-Some.said.phase (M.first m) =
    c.has_done_nothing-nothing.ensures ∙ ap (before_any c.in-Some.said.phase) c.in_ok-first_state.ensures in
    let own = number M.declared M.turn M.first (λ m. record { first_is_state = g.met.M.Module.first_is_state m; turns_are_lawful = g.met.M.Module.turns_are_lawful m }) d c.args.modules.now c.args.given.now c.args.home.now c.requires.deployment c.requires.modules c.requires.within c.requires.home c.from.result m c.from.ensures c.index-modules-from.is in
    let there = troupe M.declared M.turn M.first (λ m. record { first_is_state = g.met.M.Module.first_is_state m; turns_are_lawful = g.met.M.Module.turns_are_lawful m }) d c.args.modules.now c.args.given.now c.args.home.now c.requires.deployment c.requires.modules c.requires.within c.requires.home c.from.result m c.from.ensures c.index-modules-from.is in
    let events = c.args.boot.now ∷ c.args.later.now in
    let node = c.args.given.now.node in
    let b = does M.declared M.turn M.first (λ m. record { first_is_state = g.met.M.Module.first_is_state m; turns_are_lawful = g.met.M.Module.turns_are_lawful m }) d c.args.modules.now c.args.given.now c.args.home.now c.requires.deployment c.requires.modules c.requires.within c.requires.home c.from.result m c.from.ensures c.index-modules-from.is in
    let whole = whole_record c.is_active-active.result c.in-Some.said c.has_done_nothing-nothing.result in
    let through : RunsThrough d b node own there whole events None =
    subst (λ (k : MemberRecord). RunsThrough d b node own there k events None) c.whole.ensures
    (subst (RunsThrough d b node own there c.whole.result.now events) c.in_default-2.is (c.in_ok-lived.ensures node own there (of_it M.declared M.turn M.first (λ m. record { first_is_state = g.met.M.Module.first_is_state m; turns_are_lawful = g.met.M.Module.turns_are_lawful m }) d c.args.modules.now c.args.given.now c.args.home.now c.requires.deployment c.requires.modules c.requires.within c.requires.home c.from.result m c.from.ensures c.index-modules-from.is c.signature.result.now c.signature.ensures))) in
    no_run M.declared M.turn M.first (λ m. record { first_is_state = g.met.M.Module.first_is_state m; turns_are_lawful = g.met.M.Module.turns_are_lawful m }) d c.args.modules.now c.args.given.now c.args.home.now c.requires.deployment c.requires.modules c.requires.within c.requires.home c.from.result m c.from.ensures c.index-modules-from.is (c.args.boot.now ∷ c.args.later.now) c.requires.events c.in-Some.said c.in-Some.is c.is_active-active.result c.is_active-active.ensures c.has_done_nothing-nothing.result nothing through

pub returns-then-not-active : goal.returns-then-not-active
returns-then-not-active g c =
    let M = g.M.Module in
    let d = c.args.deployment.now in
    let m = c.index-modules-from.result in
    let nothing : c.has_done_nothing-nothing.result ≡ before_any c.in-Some.said.phase (M.first m) =
    c.has_done_nothing-nothing.ensures ∙ ap (before_any c.in-Some.said.phase) c.in_ok-first_state.ensures in
    let own = number M.declared M.turn M.first (λ m. record { first_is_state = g.met.M.Module.first_is_state m; turns_are_lawful = g.met.M.Module.turns_are_lawful m }) d c.args.modules.now c.args.given.now c.args.home.now c.requires.deployment c.requires.modules c.requires.within c.requires.home c.from.result m c.from.ensures c.index-modules-from.is in
    let there = troupe M.declared M.turn M.first (λ m. record { first_is_state = g.met.M.Module.first_is_state m; turns_are_lawful = g.met.M.Module.turns_are_lawful m }) d c.args.modules.now c.args.given.now c.args.home.now c.requires.deployment c.requires.modules c.requires.within c.requires.home c.from.result m c.from.ensures c.index-modules-from.is in
    let events = c.args.boot.now ∷ c.args.later.now in
    let node = c.args.given.now.node in
    let b = does M.declared M.turn M.first (λ m. record { first_is_state = g.met.M.Module.first_is_state m; turns_are_lawful = g.met.M.Module.turns_are_lawful m }) d c.args.modules.now c.args.given.now c.args.home.now c.requires.deployment c.requires.modules c.requires.within c.requires.home c.from.result m c.from.ensures c.index-modules-from.is in
    let whole = whole_record c.is_active-active.result c.in-Some.said c.has_done_nothing-nothing.result in
    let through : RunsThrough d b node own there whole events (Some c.in-Some-2.lived) =
    subst (λ (k : MemberRecord). RunsThrough d b node own there k events (Some c.in-Some-2.lived)) c.whole.ensures
    (subst (RunsThrough d b node own there c.whole.result.now events) c.in-Some-2.is (c.in_ok-lived.ensures node own there (of_it M.declared M.turn M.first (λ m. record { first_is_state = g.met.M.Module.first_is_state m; turns_are_lawful = g.met.M.Module.turns_are_lawful m }) d c.args.modules.now c.args.given.now c.args.home.now c.requires.deployment c.requires.modules c.requires.within c.requires.home c.from.result m c.from.ensures c.index-modules-from.is c.signature.result.now c.signature.ensures))) in
    run_apart M.declared M.turn M.first (λ m. record { first_is_state = g.met.M.Module.first_is_state m; turns_are_lawful = g.met.M.Module.turns_are_lawful m }) d c.args.modules.now c.args.given.now c.args.home.now c.requires.deployment c.requires.modules c.requires.within c.requires.home c.from.result m c.from.ensures c.index-modules-from.is (c.args.boot.now ∷ c.args.later.now) c.requires.events c.in-Some.said c.in-Some.is c.is_active-active.result c.is_active-active.ensures c.has_done_nothing-nothing.result nothing c.if-not-active.true
    (c.says_no_more.ensures.0 c.if-not-says_no_more.false) c.requires.joins c.in-Some-2.lived.dues.owing.began through

pub judge_active-requires-clause-few_modules : goal.judge_active-requires-clause-few_modules
judge_active-requires-clause-few_modules g c =
    let few = c.requires.deployment.few_troupes in
    let many = c.requires.modules.one_each in
    let same = length-map c.args.modules.now g.M.Module.declared in
    omega (arith, few, many, same)

pub judge_active-requires-clause-ran : goal.judge_active-requires-clause-ran
judge_active-requires-clause-ran g c =
    let M = g.M.Module in
    let d = c.args.deployment.now in
    let m = c.index-modules-from.result in
    let nothing : c.has_done_nothing-nothing.result ≡ before_any c.in-Some.said.phase (M.first m) =
    c.has_done_nothing-nothing.ensures ∙ ap (before_any c.in-Some.said.phase) c.in_ok-first_state.ensures in
    let own = number M.declared M.turn M.first (λ m. record { first_is_state = g.met.M.Module.first_is_state m; turns_are_lawful = g.met.M.Module.turns_are_lawful m }) d c.args.modules.now c.args.given.now c.args.home.now c.requires.deployment c.requires.modules c.requires.within c.requires.home c.from.result m c.from.ensures c.index-modules-from.is in
    let there = troupe M.declared M.turn M.first (λ m. record { first_is_state = g.met.M.Module.first_is_state m; turns_are_lawful = g.met.M.Module.turns_are_lawful m }) d c.args.modules.now c.args.given.now c.args.home.now c.requires.deployment c.requires.modules c.requires.within c.requires.home c.from.result m c.from.ensures c.index-modules-from.is in
    let events = c.args.boot.now ∷ c.args.later.now in
    let node = c.args.given.now.node in
    let b = does M.declared M.turn M.first (λ m. record { first_is_state = g.met.M.Module.first_is_state m; turns_are_lawful = g.met.M.Module.turns_are_lawful m }) d c.args.modules.now c.args.given.now c.args.home.now c.requires.deployment c.requires.modules c.requires.within c.requires.home c.from.result m c.from.ensures c.index-modules-from.is in
    let whole = whole_record c.is_active-active.result c.in-Some.said c.has_done_nothing-nothing.result in
    let through : RunsThrough d b node own there whole events (Some c.in-Some-2.lived) =
    subst (λ (k : MemberRecord). RunsThrough d b node own there k events (Some c.in-Some-2.lived)) c.whole.ensures
    (subst (RunsThrough d b node own there c.whole.result.now events) c.in-Some-2.is (c.in_ok-lived.ensures node own there (of_it M.declared M.turn M.first (λ m. record { first_is_state = g.met.M.Module.first_is_state m; turns_are_lawful = g.met.M.Module.turns_are_lawful m }) d c.args.modules.now c.args.given.now c.args.home.now c.requires.deployment c.requires.modules c.requires.within c.requires.home c.from.result m c.from.ensures c.index-modules-from.is c.signature.result.now c.signature.ensures))) in
    subst (HasRunSo d (behaviours M.declared M.turn M.first c.args.modules.now) c.args.given.now c.in-Some.said) (sym c.began.ensures)
    (run_active M.declared M.turn M.first (λ m. record { first_is_state = g.met.M.Module.first_is_state m; turns_are_lawful = g.met.M.Module.turns_are_lawful m }) d c.args.modules.now c.args.given.now c.args.home.now c.requires.deployment c.requires.modules c.requires.within c.requires.home c.from.result m c.from.ensures c.index-modules-from.is (c.args.boot.now ∷ c.args.later.now) c.requires.events c.in-Some.said c.in-Some.is c.is_active-active.result c.is_active-active.ensures c.has_done_nothing-nothing.result nothing c.if-not-active.false c.requires.joins
    c.in-Some-2.lived.dues.owing.began through)

pub judge_active-requires-clause-said : goal.judge_active-requires-clause-said
judge_active-requires-clause-said g c = c.in-Some.is

pub judge_active-requires-clause-active : goal.judge_active-requires-clause-active
judge_active-requires-clause-active g c = sym c.is_active-active.ensures ∙ c.if-not-active.false

pub judge_active-requires-clause-few : goal.judge_active-requires-clause-few
judge_active-requires-clause-few g c = subst FewRuns c.in-Some.is c.requires.few
