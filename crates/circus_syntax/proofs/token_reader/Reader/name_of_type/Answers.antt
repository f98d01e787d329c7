use Rattle.circus_syntax.proofs.ByWord.{name_of_type_one, name_of_type_two, name_place}
use Rattle.circus_syntax.proofs.token_reader.Reader.name_of_type.Goals as goal

pub returns-in_ok-name-clause-read : goal.returns-in_ok-name-clause-read
returns-in_ok-name-clause-read c = name_of_type_two _ _ _ _ _ _ _ c.in_ok-first.ensures c.sees_sign.ensures c.if-sees_sign.true c.sign.ensures c.in_ok-name.ensures

pub returns-in_ok-name-clause-at : goal.returns-in_ok-name-clause-at
returns-in_ok-name-clause-at c = name_place _ _ _ c.in_ok-first.ensures

pub returns-else-sees_sign-clause-read : goal.returns-else-sees_sign-clause-read
returns-else-sees_sign-clause-read c = name_of_type_one _ _ _ _ c.in_ok-first.ensures c.sees_sign.ensures c.if-sees_sign.false

pub returns-else-sees_sign-clause-at : goal.returns-else-sees_sign-clause-at
returns-else-sees_sign-clause-at c = name_place _ _ _ c.in_ok-first.ensures
