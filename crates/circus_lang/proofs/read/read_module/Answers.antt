use Rattle.std.proofs.Common.{sym, ◌∙◌}
use Rattle.circus_lang.proofs.ReadIs.{is_read, is_expected, is_too_deep, accepted, stopped_short}
use Rattle.circus_lang.proofs.read.read_module.Goals as goal

pub returns-in-None-clause-ok : goal.returns-in-None-clause-ok
returns-in-None-clause-ok c = is_read _ _ _ c.in_ok-read.read c.requires.of_text c.requires.inside c.in_ok-read.ensures c.in-None.is

pub returns-in-None-clause-accepts : goal.returns-in-None-clause-accepts
returns-in-None-clause-accepts c = λ own rest w whole are within.
    let (tree, next, none) = accepted _ _ _ c.in_ok-read.read own rest w c.requires.inside c.in_ok-read.ensures whole are within in
    ((tree, next), tt)

pub returns-in-Some-clause-expected : goal.returns-in-Some-clause-expected
returns-in-Some-clause-expected c = λ place is.
    is_expected _ _ _ c.in_ok-read.read c.in-Some.stop place c.requires.of_text c.in_ok-read.ensures c.in-Some.is (sym c.fault.ensures ∙ cc)

pub returns-in-Some-clause-deep : goal.returns-in-Some-clause-deep
returns-in-Some-clause-deep c = λ place is.
    is_too_deep _ _ _ c.in_ok-read.read c.in-Some.stop place c.requires.of_text c.in_ok-read.ensures c.in-Some.is (sym c.fault.ensures ∙ cc)

pub returns-in-Some-clause-accepts : goal.returns-in-Some-clause-accepts
returns-in-Some-clause-accepts c = λ own rest w whole are within.
    absurd (stopped_short _ _ _ c.in_ok-read.read c.in-Some.stop own rest w c.requires.inside c.in_ok-read.ensures whole are within c.in-Some.is)
