use Rattle.std.proofs.Common.{◌≡◌, ◌∷◌, [], ◌∙◌, refl, ap, subst, arith, length, length-append, Some}
use Rattle.std.specs.Prelude.{slice_get}
use Rattle.std.proofs.lemmas.Option.{slice_get_read}
use Rattle.circus_idl.specs.Obeys.{Obeys}
use Rattle.circus_check.proofs.KnownTables.{told_more}
use Rattle.circus_check.proofs.Named.{at_place}
use Rattle.circus_check.proofs.checking.known_all.Goals as goal

pub loop-interface-preserved : goal.loop-interface-preserved
loop-interface-preserved c =
    let known = c.loop-interface.known.items in
    let interfaces = c.args.interfaces.now in
    let before = c.loop-interface.invariant in
    let k = c.in_ok-of.field-0 in
    let i = c.interface-item.result in
    let more = c.in_ok-push.ensures.items in
    let there : slice_get interfaces (length known) ≡ Some i = ap (slice_get interfaces) before.as_many ∙ slice_get_read interfaces (length interfaces) c.loop-interface.interface-index i refl c.loop-interface-test.true c.interface-item.is in
    record {
      as_many = omega (arith, ap length more, length-append known (k ∷ []), before.as_many);
      each = λ n t j here at. told_more known k interfaces i there c.in_ok-of.ensures before.each n t j (subst (λ xs. slice_get xs n ≡ Some t) more here) at;
    }

pub of-requires : goal.of-requires
of-requires c =
    let interfaces = c.args.interfaces.now in
    at_place Obeys interfaces c.loop-interface.interface-index c.interface-item.result c.requires
    (slice_get_read interfaces (length interfaces) c.loop-interface.interface-index c.interface-item.result refl c.loop-interface-test.true c.interface-item.is)
