use Rattle.std.proofs.Common.{drop}
use Rattle.circus_external.specs.Reading.{fields_reading}
use Rattle.circus_stub.specs.Unpacked.{values_alone}
use Rattle.circus_stub.proofs.UnpackLemmas.{is_limited, is_unlimited}
use Rattle.circus_stub.proofs.unpack.values_from.Goals as goal

pub returns-in-Some : goal.returns-in-Some
returns-in-Some g c = λ fields flat.
    let bytes = g.S.ByteSource.octets c.args.source.now in
    is_limited c.args.limit c.args.at c.in-Some.length bytes (values_alone (fields_reading fields c.args.at (drop c.args.at bytes))) c.in-Some.ensures

pub returns-in-None : goal.returns-in-None
returns-in-None g c = λ fields flat.
    let bytes = g.S.ByteSource.octets c.args.source.now in
    rw (is_unlimited c.args.limit c.args.at bytes (values_alone (fields_reading fields c.args.at (drop c.args.at bytes))) c.in-None.ensures) (c.values_alone.ensures fields flat)
