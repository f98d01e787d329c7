use Rattle.std.proofs.Common.{◌≡◌, ap, sym, ◌∙◌}
use Rattle.std.proofs.lemmas.Option.{same_Some}
use Rattle.circus_model.specs.Behaviour.{Behaviour}
use Rattle.circus_model.proofs.Histories.{in_history, maker_of}
use Rattle.circus_model.proofs.Paths.{one_maker}
use Rattle.circus_model.proofs.laws.runs_are_asked_for.Goals as goal

pub returns-clause-maker : goal.returns-clause-maker
returns-clause-maker c = λ program place index b run agree lawful at no_root is.
    maker_of program agree lawful place index run b is at no_root

pub returns-clause-one : goal.returns-clause-one
returns-clause-one c = λ program place index agree lawful maker other.
    one_maker program agree lawful place index maker other

pub returns-clause-number : goal.returns-clause-number
returns-clause-number c = λ program place index b run agree lawful at no_root is.
    let l = (in_history program agree lawful place index run is).logged in
    let same : l.behaviour ≡ b = same_Some l.behaviour b (sym l.there ∙ at) in
    l.numbered (ap (λ (x : Behaviour). x.declared.root) same ∙ no_root)
