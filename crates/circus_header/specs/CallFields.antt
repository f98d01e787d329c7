-- The fields of a call message's header, and which calls there are.
use Rattle.std.specs.Prelude.{ℕ, ◌<◌, ◌≤◌, Bool, true, false, List, [], ◌∷◌, ◌++◌, length, map, All}
use Rattle.circus_limits.specs.Limits.{most_modules, most_nodes, most_asks, longest_path}
use Rattle.circus_header.specs.Field.{Field, word, long}
use Rattle.circus_header.specs.declared.call.CallHeader.{CallHeader}
use Rattle.circus_header.specs.declared.call.Request.{Request}
use Rattle.circus_header.specs.declared.call.Request.TheVariants.{Lookup, Join, Active, Gone}
use Rattle.circus_header.specs.declared.call.Call.{Call}
use Rattle.circus_header.specs.declared.call.Call.TheVariants.{Ask, Ring, Fetch}

-- who calls, by which path, which procedure of whom, and what the thread has done so far
abbrev pub ask_fields : CallHeader → List Field
ask_fields h =
    word h.root ∷ word (length h.path) ∷ map word h.path
    ++ word h.client ∷ long h.client_incarnation ∷ long h.client_index
    ∷ word h.server ∷ long h.server_incarnation ∷ word h.procedure
    ∷ word (length h.clock) ∷ map long h.clock

-- the header with these incarnations of the views of the client and of the server
abbrev pub naming : CallHeader → ℕ → ℕ → CallHeader
naming h client server = record h { client_incarnation = client; server_incarnation = server }

-- which request, of which troupe, with a node and a count where it has them
abbrev pub request_fields : Request → List Field
request_fields (Lookup troupe) = word 0 ∷ word troupe ∷ word 0 ∷ long 0 ∷ []
request_fields (Join troupe node) = word 1 ∷ word troupe ∷ word node ∷ long 0 ∷ []
request_fields (Active troupe node count) = word 2 ∷ word troupe ∷ word node ∷ long count ∷ []
request_fields (Gone troupe node) = word 3 ∷ word troupe ∷ word node ∷ long 0 ∷ []

-- the kind of call, and its fields
abbrev pub call_fields : Call → List Field
call_fields (Ask h) = word 0 ∷ ask_fields h
call_fields (Ring request) = word 1 ∷ request_fields request
call_fields (Fetch troupe incarnation) = word 2 ∷ word troupe ∷ long incarnation ∷ []

-- the number of a module or a troupe
abbrev pub IsModule : ℕ → Type 0
IsModule n = n < most_modules

-- the number of a node
abbrev pub IsNode : ℕ → Type 0
IsNode n = n < most_nodes

-- a view's incarnation
abbrev pub IsIncarnation : ℕ → Type 0
IsIncarnation n = 1 ≤ n

-- a header whose fields are in their ranges
pub record IsAsk (h : CallHeader) : Type 0 where
  pub root : IsModule h.root
  pub path_some : 1 ≤ length h.path
  pub path_most : length h.path ≤ longest_path
  pub path : All (λ n. n < most_asks) h.path
  pub client : IsModule h.client
  pub client_incarnation : IsIncarnation h.client_incarnation
  pub server : IsModule h.server
  pub server_incarnation : IsIncarnation h.server_incarnation
  pub clock_most : length h.clock ≤ most_modules
  pub has_server : h.server < length h.clock
  pub has_client : h.client < length h.clock

abbrev pub IsRequest : Request → Type 0
IsRequest (Lookup troupe) = IsModule troupe
IsRequest (Join troupe node) = IsModule troupe × IsNode node
IsRequest (Active troupe node count) = IsModule troupe × IsNode node
IsRequest (Gone troupe node) = IsModule troupe × IsNode node

-- a call whose fields are in their ranges
abbrev pub IsCall : Call → Type 0
IsCall (Ask h) = IsAsk h
IsCall (Ring request) = IsRequest request
IsCall (Fetch troupe incarnation) = IsModule troupe × IsIncarnation incarnation

-- arguments stand behind the header of an ask, nothing behind another one
abbrev pub has_body : Call → Bool
has_body (Ask h) = true
has_body (Ring request) = false
has_body (Fetch troupe incarnation) = false
