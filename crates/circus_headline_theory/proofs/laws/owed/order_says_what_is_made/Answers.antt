use Rattle.circus_headline_theory.proofs.Owed.OrderedMakes.{requests_by_order, calls_by_order, returns_by_order}
use Rattle.circus_headline_theory.proofs.Owed.OrderedStarts.{starts_in_order}
use Rattle.circus_headline_theory.proofs.laws.owed.order_says_what_is_made.Goals as goal

pub returns-clause-requested : goal.returns-clause-requested
returns-clause-requested c = λ d b node number troupe t kept ordered right. requests_by_order d b node number troupe kept t ordered right

pub returns-clause-asked : goal.returns-clause-asked
returns-clause-asked c = λ d b node number troupe t kept ordered right order. calls_by_order d b node number troupe kept t ordered right order

pub returns-clause-returned : goal.returns-clause-returned
returns-clause-returned c = λ d b node number troupe t kept ordered right rises distinct. returns_by_order d b node number troupe kept t ordered right rises distinct

pub returns-clause-starts : goal.returns-clause-starts
returns-clause-starts c = λ d b node number troupe p state kept timely follows. starts_in_order d b node number troupe p state kept timely follows
