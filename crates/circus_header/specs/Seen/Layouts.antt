-- The layouts of the headers of calls and of returns.
use Rattle.std.specs.Prelude.{ℕ, zero, suc, ◌+◌, max, List, []}
use Rattle.circus_header.specs.Seen.Layout.{of_word, of_long, Layout, end, field, then_layout, numbers}
use Rattle.circus_header.specs.declared.party.Client.{Client}
use Rattle.circus_header.specs.declared.party.Server.{Server}
use Rattle.circus_header.specs.declared.call.CallHeader.{CallHeader}
use Rattle.circus_header.specs.declared.call.Request.{Request}
use Rattle.circus_header.specs.declared.call.Request.TheVariants.{Lookup, Join, Active, Gone}
use Rattle.circus_header.specs.declared.call.Call.{Call}
use Rattle.circus_header.specs.declared.call.Call.TheVariants.{Ask, Ring, Fetch}
use Rattle.circus_header.specs.declared.answer.ReturnHeader.{ReturnHeader}
use Rattle.circus_header.specs.declared.answer.ReturnHeader.TheVariants.{Reply, Stale, Before, Snapshot, Table}

-- the number of asks, and each of them
abbrev pub path_layout : Layout (List ℕ)
path_layout = field of_word 1 31 (λ count. numbers of_word 0 65534 count [])

-- how many counts there are, of which there is a least number, and each of them
abbrev pub clock_layout : ℕ → Layout (List ℕ)
clock_layout least = field of_word least 32 (λ count. numbers of_long 0 4294967295 count [])

abbrev pub client_layout : Layout Client
client_layout =
    field of_word 0 31 (λ number. field of_long 1 4294967295 (λ incarnation. field of_long 0 4294967295 (λ index.
    end (record { number = number; incarnation = incarnation; index = index }))))

abbrev pub server_layout : Layout Server
server_layout =
    field of_word 0 31 (λ number. field of_long 1 4294967295 (λ incarnation. field of_word 0 65535 (λ procedure.
    end (record { number = number; incarnation = incarnation; procedure = procedure }))))

abbrev pub ask_of : ℕ → List ℕ → Client → Server → List ℕ → CallHeader
ask_of root path client server clock = record {
  root = root;
  path = path;
  client = client.number;
  client_incarnation = client.incarnation;
  client_index = client.index;
  server = server.number;
  server_incarnation = server.incarnation;
  procedure = server.procedure;
  clock = clock;
}

-- what stands behind the server, the client and the path
abbrev pub behind_server : ℕ → List ℕ → Client → Server → Layout CallHeader
behind_server root path client server =
    then_layout (clock_layout (max client.number server.number + 1)) (λ clock. end (ask_of root path client server clock))

abbrev pub behind_client : ℕ → List ℕ → Client → Layout CallHeader
behind_client root path client = then_layout server_layout (behind_server root path client)

abbrev pub behind_path : ℕ → List ℕ → Layout CallHeader
behind_path root path = then_layout client_layout (behind_client root path)

abbrev pub ask_layout : Layout CallHeader
ask_layout = field of_word 0 31 (λ root. then_layout path_layout (behind_path root))

-- a lookup has no node
abbrev pub most_node : ℕ → ℕ
most_node zero = 0
most_node (suc _) = 63

-- an active node alone has a count
abbrev pub most_count : ℕ → ℕ
most_count zero = 0
most_count (suc zero) = 0
most_count (suc (suc zero)) = 4294967295
most_count (suc (suc (suc _))) = 0

abbrev pub request_of : ℕ → ℕ → ℕ → ℕ → Request
request_of zero troupe node count = Lookup troupe
request_of (suc zero) troupe node count = Join troupe node
request_of (suc (suc zero)) troupe node count = Active troupe node count
request_of (suc (suc (suc _))) troupe node count = Gone troupe node

abbrev pub request_layout : Layout Request
request_layout =
    field of_word 0 3 (λ request. field of_word 0 31 (λ troupe. field of_word 0 (most_node request) (λ node.
    field of_long 0 (most_count request) (λ count. end (request_of request troupe node count)))))

abbrev pub fetch_layout : Layout Call
fetch_layout = field of_word 0 31 (λ troupe. field of_long 1 4294967295 (λ incarnation. end (Fetch troupe incarnation)))

abbrev pub call_by : ℕ → Layout Call
call_by zero = then_layout ask_layout (λ h. end (Ask h))
call_by (suc zero) = then_layout request_layout (λ request. end (Ring request))
call_by (suc (suc _)) = fetch_layout

abbrev pub call_layout : Layout Call
call_layout = field of_word 0 2 (λ kind. call_by kind)

abbrev pub return_by : ℕ → Layout ReturnHeader
return_by zero = then_layout (clock_layout 1) (λ clock. end (Reply clock))
return_by (suc zero) = field of_long 1 4294967295 (λ incarnation. end (Stale incarnation))
return_by (suc (suc zero)) = field of_long 0 4294967295 (λ first. end (Before first))
return_by (suc (suc (suc zero))) = field of_long 0 4294967295 (λ count. end (Snapshot count))
return_by (suc (suc (suc (suc _)))) = end Table

abbrev pub return_layout : Layout ReturnHeader
return_layout = field of_word 0 4 (λ kind. return_by kind)
