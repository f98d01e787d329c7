use Rattle.std.proofs.Common.{rules}
use Rattle.circus_value.specs.ValueOf as values
use Rattle.circus_value.specs.ShapeOf as shapes
use Rattle.circus_value.specs.Parts.{AreOctets}
use Rattle.circus_external.proofs.Promises.{given_value, given_short, given_not_a_value, given_bad_pad, given_only}
use Rattle.circus_external.proofs.calls.read.Goals as goal

pub returns-clause-value : goal.returns-clause-value
returns-clause-value c =
    let are : AreOctets c.args.bytes.now = search rules in
    given_value values.tree_of (shapes.tree_of c.args.shape.now) c.args.bytes.now c.args.at c.read_from.result are c.read_from.ensures

pub returns-clause-short : goal.returns-clause-short
returns-clause-short c =
    let are : AreOctets c.args.bytes.now = search rules in
    given_short values.tree_of (shapes.tree_of c.args.shape.now) c.args.bytes.now c.args.at c.read_from.result are c.read_from.ensures

pub returns-clause-not_a_value : goal.returns-clause-not_a_value
returns-clause-not_a_value c =
    let are : AreOctets c.args.bytes.now = search rules in
    given_not_a_value values.tree_of (shapes.tree_of c.args.shape.now) c.args.bytes.now c.args.at c.read_from.result are c.read_from.ensures

pub returns-clause-bad_pad : goal.returns-clause-bad_pad
returns-clause-bad_pad c =
    let are : AreOctets c.args.bytes.now = search rules in
    given_bad_pad values.tree_of (shapes.tree_of c.args.shape.now) c.args.bytes.now c.args.at c.read_from.result are c.read_from.ensures

pub returns-clause-only : goal.returns-clause-only
returns-clause-only c =
    let are : AreOctets c.args.bytes.now = search rules in
    given_only values.tree_of (shapes.tree_of c.args.shape.now) c.args.bytes.now c.args.at c.read_from.result are c.read_from.ensures
