-- What was sent, by the entries and the bytes that code has of it.
use Rattle.std.specs.Prelude.{◌≡◌, ℕ, zero, suc, ◌≤◌, List, [], ◌∷◌, slice_range}
use Rattle.circus_world.specs.declared.sent.Entry.{Entry}
use Rattle.circus_world.specs.declared.sent.Sent.{Sent as Found}
use Rattle.circus_world.specs.Sent.{Sent}

-- a datagram whose bytes stand in a buffer
abbrev pub sent_as : Found → Sent
sent_as s = record { step = s.step; from = s.from; to = s.to; bytes = s.bytes.now }

-- that of an entry, whose bytes begin at a place
abbrev pub sent_at : List ℕ → ℕ → Entry → Sent
sent_at bytes start e = record { step = e.step; from = e.from; to = e.to; bytes = slice_range bytes start e.end }

-- those of entries, the bytes of each of which begin where those before end
abbrev pub sent_from : List ℕ → ℕ → List Entry → List Sent
sent_from bytes start [] = []
sent_from bytes start (e ∷ es) = sent_at bytes start e ∷ sent_from bytes e.end es

-- where the bytes of the entry at a place begin
abbrev pub start_at : ℕ → List Entry → ℕ → ℕ
start_at start es zero = start
start_at start [] (suc k) = start
start_at start (e ∷ es) (suc k) = start_at e.end es k

-- the bytes of the last entry end here, and no entry's end before they begin
abbrev pub Follow : ℕ → List Entry → ℕ → Type 0
Follow start [] end = start ≡ end
Follow start (e ∷ es) end = (start ≤ e.end) × Follow e.end es end
