use Rattle.std.proofs.Common.{true, false}
use Rattle.circus_pair.proofs.TwoSteps.{stands_more, heard_more, format_more}
use Rattle.circus_pair.proofs.Agreeing.{lawful_more, agree_more}
use Rattle.circus_pair.proofs.two_ends.TwoEnds.step.Goals as goal

pub returns-clause-stands : goal.returns-clause-stands
returns-clause-stands c format history stands = stands_more c.happen.result c.args.self.now _ c.args.act format history c.happen.ensures.state stands

pub returns-clause-lawful : goal.returns-clause-lawful
returns-clause-lawful c = lawful_more c.happen.result c.args.self.now c.args.act c.requires c.happen.ensures.such c.happen.ensures.spent

pub returns-clause-agree : goal.returns-clause-agree
returns-clause-agree c format history known lawful stands = agree_more c.happen.result format history c.args.act known (lawful_more c.happen.result c.args.self.now c.args.act c.requires c.happen.ensures.such c.happen.ensures.spent format history known lawful stands)

pub returns-clause-low_format : goal.returns-clause-low_format
returns-clause-low_format c = format_more c.happen.result c.args.self.now _ c.args.act c.happen.ensures.state c.happen.ensures.err false

pub returns-clause-high_format : goal.returns-clause-high_format
returns-clause-high_format c = format_more c.happen.result c.args.self.now _ c.args.act c.happen.ensures.state c.happen.ensures.err true

pub returns-clause-heard : goal.returns-clause-heard
returns-clause-heard c format history stands = heard_more c.happen.result c.args.self.now c.args.act format history c.happen.ensures.arrived stands
