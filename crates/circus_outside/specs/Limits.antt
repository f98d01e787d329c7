-- How large what comes from outside may be.
use Rattle.std.specs.Prelude.{ℕ}

-- how many bytes contents have at most
abbrev pub longest_contents : ℕ
longest_contents = 16777216

-- how many bytes of a datagram arrive
abbrev pub longest_datagram : ℕ
longest_datagram = 2048
