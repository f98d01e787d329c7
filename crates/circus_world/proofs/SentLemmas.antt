-- What was sent, and the entries and the bytes by which code has it.
use Rattle.std.proofs.Common.{◌≡◌, ℕ, zero, suc, ◌-◌, ◌≤◌, Some, List, [], ◌∷◌, ◌++◌, length, take, drop, slice_get, slice_range, refl, ap, ◌∙◌, arith, length-append, length-drop}
use Rattle.std.specs.Prelude.{option_map}
use Rattle.std.proofs.lemmas.List.{take-append-le, drop-append-le, drop_at, take_all}
use Rattle.circus_world.specs.declared.sent.Entry.{Entry}
use Rattle.circus_world.specs.Sent.{Sent}
use Rattle.circus_world.specs.Seen.Entries.{sent_at, sent_from, start_at, Follow}

pub length-sent_from : (bytes : List ℕ) (start : ℕ) (es : List Entry) → length (sent_from bytes start es) ≡ length es
length-sent_from bytes start [] = refl
length-sent_from bytes start (e ∷ es) = ap suc (length-sent_from bytes e.end es)

pub none_sent : (bytes : List ℕ) (start : ℕ) (es : List Entry) → length es ≡ 0 → sent_from bytes start es ≡ []
none_sent bytes start [] none = refl
none_sent bytes start (e ∷ es) none = absurd (omega (arith, none))

-- a datagram by the entry of its number
pub sent_from_at : (bytes : List ℕ) (start : ℕ) (es : List Entry) (k : ℕ) → slice_get (sent_from bytes start es) k ≡ option_map (sent_at bytes (start_at start es k)) (slice_get es k)
sent_from_at bytes start [] k = refl
sent_from_at bytes start (e ∷ es) zero = refl
sent_from_at bytes start (e ∷ es) (suc k) = sent_from_at bytes e.end es k

-- the bytes of an entry begin where those of the one before end
pub start_after : (start : ℕ) (es : List Entry) (k : ℕ) (e : Entry) → slice_get es k ≡ Some e → start_at start es (suc k) ≡ e.end
start_after start [] k e at = cc
start_after start (d ∷ es) zero e at = let same : d ≡ e = cc in ap (λ x. x.end) same
start_after start (d ∷ es) (suc k) e at = start_after d.end es k e at

pub start_le : (start : ℕ) (es : List Entry) (end : ℕ) → Follow start es end → start ≤ end
start_le start [] end follow = omega (arith, follow)
start_le start (e ∷ es) end follow = omega (arith, follow.0, start_le e.end es end follow.1)

-- the bytes of an entry stand among those of all
pub among : (start : ℕ) (es : List Entry) (end k : ℕ) (e : Entry) → Follow start es end → slice_get es k ≡ Some e → (start_at start es k ≤ e.end) × (e.end ≤ end)
among start [] end k e follow at = cc
among start (d ∷ es) end zero e follow at =
    let same : d ≡ e = cc in
    (omega (arith, follow.0, ap (λ (x : Entry). x.end) same), omega (arith, start_le d.end es end follow.1, ap (λ (x : Entry). x.end) same))
among start (d ∷ es) end (suc k) e follow at = among d.end es end k e follow.1 at

-- ---- a datagram more

range_before : (bytes more : List ℕ) (start end : ℕ) → start ≤ end → end ≤ length bytes → slice_range (bytes ++ more) start end ≡ slice_range bytes start end
range_before bytes more start end from upto =
    ap (λ l. take (end - start) l) (drop-append-le start bytes more (omega arith))
    ∙ take-append-le (end - start) (drop start bytes) more (omega (arith, length-drop start bytes))

range_behind : (bytes more : List ℕ) → slice_range (bytes ++ more) (length bytes) (length (bytes ++ more)) ≡ more
range_behind bytes more =
    ap (λ l. take (length (bytes ++ more) - length bytes) l) (drop_at bytes more (length bytes) refl)
    ∙ take_all (length (bytes ++ more) - length bytes) more (omega (arith, length-append bytes more))

pub follow-push : (start : ℕ) (es : List Entry) (end : ℕ) (e : Entry) → Follow start es end → end ≤ e.end → Follow start (es ++ e ∷ []) e.end
follow-push start [] end e follow after = (omega (arith, follow), refl)
follow-push start (d ∷ es) end e follow after = (follow.0, follow-push d.end es end e follow.1 after)

abbrev datagram_of : Entry → List ℕ → Sent
datagram_of e bytes = record { step = e.step; from = e.from; to = e.to; bytes = bytes }

sent_as_before : (bytes more : List ℕ) (start : ℕ) (e : Entry) → start ≤ e.end → e.end ≤ length bytes → sent_at (bytes ++ more) start e ≡ sent_at bytes start e
sent_as_before bytes more start e from upto =
    ap (λ (l : List ℕ). datagram_of e l) (range_before bytes more start e.end from upto)

pub sent_from-push : (bytes more : List ℕ) (start : ℕ) (es : List Entry) (e : Entry) → Follow start es (length bytes) → e.end ≡ length (bytes ++ more)
    → sent_from (bytes ++ more) start (es ++ e ∷ []) ≡ sent_from bytes start es ++ record { step = e.step; from = e.from; to = e.to; bytes = more } ∷ []
sent_from-push bytes more start [] e follow end =
    ap (λ l. datagram_of e l ∷ []) ((λ i. slice_range (bytes ++ more) (follow i) (end i)) ∙ range_behind bytes more)
sent_from-push bytes more start (d ∷ es) e follow end =
    λ i. sent_as_before bytes more start d follow.0 (start_le d.end es (length bytes) follow.1) i ∷ sent_from-push bytes more d.end es e follow.1 end i
