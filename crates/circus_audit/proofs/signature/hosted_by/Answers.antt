use Rattle.std.proofs.Common.{◌≡◌, ◌∙◌, Some, map, slice_get, sym, ap}
use Rattle.circus_check.specs.declared.checked.ResolvedModule.{ResolvedModule}
use Rattle.circus_check.specs.Resolved.{module_as}
use Rattle.circus_modules.specs.Signatures.{signature_of}
use Rattle.circus_audit.specs.declared.setting.Hosted.{Hosted}
use Rattle.circus_audit.specs.Seen.Reading.{hosted_as}
use Rattle.circus_audit.proofs.Hosting.{signature_in, hosted_some}
use Rattle.circus_audit.proofs.signature.hosted_by.Goals as goal

pub returns : goal.returns
returns c =
    let plan = c.args.plan.now in
    let m = c.in-Some-get.«module».now in
    let found : slice_get plan.checked.modules c.in-Some.number ≡ Some m = ap (slice_get plan.checked.modules) (sym c.from.ensures) ∙ sym c.in-Some-get.ensures in
    let numbers = c.as_slice-3.ensures.value ∙ c.in_ok-implemented.ensures ∙ ap (map (λ (x : ResolvedModule). x.interface)) c.as_slice.ensures in
    let made : c.in_ok-signature.signature ≡ signature_in plan m = c.in_ok-signature.ensures ∙ (λ i. signature_of (c.limit.ensures i) (c.as_slice-2.ensures i) (numbers i) (module_as m)) in
    let whole : ◌≡◌ {A = Hosted} (record { «module» = c.in-Some.number; signature = c.in_ok-signature.signature; rooted = c.has_root.result }) (hosted_as plan c.in-Some.number (signature_in plan m)) = λ i. record { «module» = c.in-Some.number; signature = made i; rooted = c.has_root.ensures i } in
    ap (λ (h : Hosted). Some h) whole ∙ sym (hosted_some plan c.args.own c.in-Some.number m (sym c.in-Some.ensures) found)
