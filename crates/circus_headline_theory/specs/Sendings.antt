-- What a node sent of all that was sent, and what it gave along a trace, each with its step.
use Rattle.std.specs.Prelude.{◌≡◌, ℕ, ◌==◌, Bool, List, ◌++◌, filter, map}
use Rattle.circus_node.specs.declared.event.Give.{Give}
use Rattle.circus_world.specs.Sent.{Sent}
use Rattle.circus_node.specs.Trace.{Trace, booted, stepped}

abbrev pub is_from : ℕ → Sent → Bool
is_from node sent = sent.from == node

abbrev pub sent_from : ℕ → List Sent → List Sent
sent_from node sent = filter (is_from node) sent

abbrev pub given_in : ℕ → List Give → List (ℕ × Give)
given_in at gives = map (λ (give : Give). (at, give)) gives

abbrev pub given_of : Trace → List (ℕ × Give)
given_of (booted made outputs) = given_in 0 outputs.gives
given_of (stepped t at event made outputs) = given_of t ++ given_in at outputs.gives

-- what a node gives in a step, as it is sent
abbrev pub as_sent : ℕ → ℕ × Give → Sent
as_sent node given = record { step = given.0; from = node; to = given.1.to; bytes = given.1.bytes }

-- all that is from the node is what it gave, in order
abbrev pub SentWhatWasGiven : ℕ → List Sent → Trace → Type 0
SentWhatWasGiven node sent t = sent_from node sent ≡ map (as_sent node) (given_of t)
