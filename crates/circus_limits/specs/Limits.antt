-- How much a program, a thread, an execution and a module may have.
use Rattle.std.specs.Prelude.{ℕ, ◌==◌, if◌then◌else◌}

-- how many modules a program has at most; a clock has a count for each
abbrev pub most_modules : ℕ
most_modules = 32

-- how many interfaces it has at most
abbrev pub most_interfaces : ℕ
most_interfaces = 32

-- how many nodes it has at most, the Ringmaster's among them
abbrev pub most_nodes : ℕ
most_nodes = 64

-- how many members a troupe has at most, at boot and later
abbrev pub most_members : ℕ
most_members = 16

-- the greatest number behind LEAST
abbrev pub most_needed : ℕ
most_needed = 16

-- how many characters the name of a node has at most
abbrev pub longest_name : ℕ
longest_name = 32

abbrev pub greatest_port : ℕ
greatest_port = 65535

-- how many asks an execution makes at most
abbrev pub most_asks : ℕ
most_asks = 65535

-- how many asks there are from a root down at most, since each goes to an earlier module
abbrev pub longest_path : ℕ
longest_path = 31

-- how many calls a thread makes at most
abbrev pub most_calls : ℕ
most_calls = 16777216

-- how many bytes values have at most, and so states, arguments, results and the values of an error, in programs of the first
-- format and in others
abbrev pub first_limit : ℕ
first_limit = 65536

abbrev pub most_bytes : ℕ
most_bytes = 1048576

abbrev pub limit_of : ℕ → ℕ
limit_of format = if format == 1 then first_limit else most_bytes
