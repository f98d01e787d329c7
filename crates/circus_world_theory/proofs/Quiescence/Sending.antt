-- A quiet end has sent each segment of a call that the window let go, and of a return.
use Rattle.std.proofs.Common.{◌≡◌, ℕ, zero, suc, ◌<◌, ◌≤◌, inl, inr, Bool, true, false, cond, not, ◌&&◌, ◌||◌, ltb, List, [], ◌∷◌, ◌++◌, Option, None, Some, refl, sym, ap, subst, ◌∙◌, arith}
use Rattle.std.specs.Prelude.{is_some, slice_get}
use Rattle.std.proofs.lemmas.Bool.{ltb-true}
use Rattle.std.proofs.lemmas.Bool.Decides.{eqb_tells}
use Rattle.circus_segment.specs.Segment.{is_acknowledgement, spelling}
use Rattle.circus_segment.specs.Cut.{Outgoing, segment_count, segment_of, first_datagrams, whole}
use Rattle.circus_exchange.specs.Exchange.{start, message_out}
use Rattle.circus_pair.specs.Acts.{Act, Call, Return, Came, Tick, Stop, Acts, none_yet, more, end_after, taken_by, acknowledged_by}
use Rattle.circus_pair.specs.Handed.{calls_made, call_at, return_at}
use Rattle.circus_pair.specs.Lawful.{is_stopped_after, AreLawful}
use Rattle.circus_pair.specs.Window.{is_open, call_is_whole}
use Rattle.circus_pair.specs.Sending.{is_sent, takes_after, in_order, whole_call, let_go_by, outputs}
use Rattle.circus_pair.specs.TwoEnds.{sent_by}
use Rattle.circus_pair.proofs.Dialogue.{both_true}
use Rattle.circus_pair.proofs.Flowing.{made_call, sent_after}
use Rattle.circus_pair.proofs.OneEnd.{call_stays, unsent_waits}
use Rattle.circus_pair.proofs.Outputs.{call_sends, return_sends, came_sends}
use Rattle.circus_world_theory.specs.Coming.{IsUndisturbed}

-- ---- a datagram in a list

abbrev pub Among : List ℕ → List (List ℕ) → Type 0
Among bytes sent = (place : ℕ) × (slice_get sent place ≡ Some bytes)

pub among_front : (bytes : List ℕ) (xs ys : List (List ℕ)) → Among bytes xs → Among bytes (xs ++ ys)
among_front bytes xs ys is = (is.0, go xs is.0 is.1)
  where
    go : (l : List (List ℕ)) (i : ℕ) → slice_get l i ≡ Some bytes → slice_get (l ++ ys) i ≡ Some bytes
    go [] i h = absurd (let clash : ◌≡◌ {A = Option (List ℕ)} None (Some bytes) = h in cc)
    go (x ∷ l) zero h = h
    go (x ∷ l) (suc i) h = go l i h

pub among_back : (bytes : List ℕ) (xs ys : List (List ℕ)) → Among bytes ys → Among bytes (xs ++ ys)
among_back bytes [] ys is = is
among_back bytes (x ∷ xs) ys is = (let r = among_back bytes xs ys is in (suc r.0, r.1))

among_one : (bytes : List ℕ) → Among bytes (bytes ∷ [])
among_one bytes = (zero, refl)

pub among_order : (bytes : List ℕ) (f : ℕ → List (List ℕ)) (n k : ℕ) → k < n → Among bytes (f k) → Among bytes (in_order f n)
unfolding in_order
among_order bytes f zero k less is = absurd (omega arith)
among_order bytes f (suc n) k less is = elim (eqb_tells n k) [
  | inl same ↦ among_back bytes (in_order f n) (f n) (subst (λ j. Among bytes (f j)) (sym same.1) is)
  | inr differ ↦ (let ne = differ.1 in among_front bytes (in_order f n) (f n) (among_order bytes f n k (omega (arith, ne)) is))
]

among_first : (o : Outgoing) (n k : ℕ) → 0 < k → k ≤ n → Among (spelling (segment_of o 0 k)) (first_datagrams o n)
unfolding first_datagrams
among_first o zero k some le = absurd (omega arith)
among_first o (suc n) k some le = elim (eqb_tells (suc n) k) [
  | inl same ↦ among_back _ (first_datagrams o n) _ (subst (λ j. Among (spelling (segment_of o 0 j)) (spelling (segment_of o 0 (suc n)) ∷ [])) same.1 (among_one _))
  | inr differ ↦ (let ne = differ.1 in among_front _ (first_datagrams o n) _ (among_first o n k some (omega (arith, ne))))
]

-- ---- a call

pub quiet_up : (acts : Acts) → IsUndisturbed acts → is_stopped_after acts ≡ false
quiet_up none_yet quiet = refl
quiet_up (more acts (Call message)) quiet = quiet_up acts quiet
quiet_up (more acts (Return call message)) quiet = quiet_up acts quiet
quiet_up (more acts (Came s)) quiet = quiet_up acts quiet
quiet_up (more acts Tick) quiet = absurd quiet
quiet_up (more acts Stop) quiet = absurd quiet

-- a call that was sent was handed over
pub sent_some : (format : ℕ) (acts : Acts) (call : ℕ) → AreLawful 0 format acts → is_sent (start 0 format) acts call ≡ true → is_some (call_at 0 acts call) ≡ true
sent_some format acts call lawful h = (both_true (ltb call (end_after (start 0 format) acts).sent) _ (sent_after 0 format acts call lawful ∙ h)).1

pub some_is : (o : Option (List ℕ)) → is_some o ≡ true → (m : List ℕ) × (o ≡ Some m)
some_is None h = absurd cc
some_is (Some m) h = (m, refl)

same_some : (a b : List ℕ) → ◌≡◌ {A = Option (List ℕ)} (Some a) (Some b) → a ≡ b
same_some a b h = cc

let_go_is : (b : Bool) (sent : Bool) (x : List (List ℕ)) → b ≡ true → sent ≡ false → cond (b && not sent) x [] ≡ x
let_go_is b sent x h k = ap (λ y. cond (y && not sent) x []) h ∙ ap (λ y. cond (not y) x []) k

-- an act that lets a call go sends it
let_go_here : (format : ℕ) (acts : Acts) (act : Act) (call : ℕ) (m : List ℕ) (k : ℕ) → is_sent (start 0 format) (more acts act) call ≡ true → is_sent (start 0 format) acts call ≡ false → call_at 0 (more acts act) call ≡ Some m
    → 0 < k → k ≤ segment_count m → Among (spelling (segment_of (message_out (start 0 format) 0 call m) 0 k)) (let_go_by (start 0 format) acts act call)
unfolding let_go_by
let_go_here format acts act call m k now before is some le =
    subst (Among (spelling (segment_of (message_out (start 0 format) 0 call m) 0 k)))
    (ap (whole_call (start 0 format) call) (sym is) ∙ sym (let_go_is (is_sent (start 0 format) (more acts act) call) (is_sent (start 0 format) acts call) (whole_call (start 0 format) call (call_at 0 (more acts act) call)) now before))
    (among_first (message_out (start 0 format) 0 call m) (segment_count m) k some le)

-- a return lets no call go
waits_on : (sent some down goes : Bool) → (sent || (some && (not down && goes))) ≡ true → sent ≡ false → (some ≡ true) × (goes ≡ true)
waits_on true some down goes h k = absurd cc
waits_on false true true goes h k = absurd cc
waits_on false true false goes h k = (refl, h)
waits_on false false down goes h k = absurd cc

no_call_by_return : (format : ℕ) (acts : Acts) (returned : ℕ) (message : List ℕ) (call : ℕ) → IsUndisturbed acts → is_sent (start 0 format) (more acts (Return returned message)) call ≡ true → is_sent (start 0 format) acts call ≡ false → ⊥
unfolding is_sent call_at is_open call_is_whole
no_call_by_return format acts returned message call quiet now before =
    let parts = waits_on (is_sent (start 0 format) acts call) _ (is_stopped_after acts) _ now before in
    let full = unsent_waits 0 format acts call parts.0 (quiet_up acts quiet) before in
    let less = ltb-true _ _ parts.1 in
    omega (arith, full, less)

pub by_sent : (P : Type 0) (b : Bool) → (b ≡ true → P) → (b ≡ false → P) → P
by_sent P true f g = f refl
by_sent P false f g = g refl

-- a call that was sent before was the same
sent_as : (format : ℕ) (acts : Acts) (act : Act) (call : ℕ) (m : List ℕ) → AreLawful 0 format (more acts act) → is_sent (start 0 format) acts call ≡ true → call_at 0 (more acts act) call ≡ Some m → call_at 0 acts call ≡ Some m
sent_as format acts act call m lawful before is =
    let had = some_is (call_at 0 acts call) (sent_some format acts call lawful.0 before) in
    let same = same_some had.0 m (sym (call_stays 0 format acts act call had.0 lawful had.1) ∙ is) in
    had.1 ∙ ap (λ (x : List ℕ). Some x) same

-- each segment of a call that was sent is among what was sent
pub call_among : (format : ℕ) (acts : Acts) (call : ℕ) (m : List ℕ) (k : ℕ) → AreLawful 0 format acts → IsUndisturbed acts → is_sent (start 0 format) acts call ≡ true → call_at 0 acts call ≡ Some m
    → 0 < k → k ≤ segment_count m → Among (spelling (segment_of (message_out (start 0 format) 0 call m) 0 k)) (sent_by (start 0 format) acts)
unfolding is_sent outputs calls_made
call_among format none_yet call m k lawful quiet sent is some le = absurd cc
call_among format (more acts (Call message)) call m k lawful quiet sent is some le =
    by_sent _ (is_sent (start 0 format) acts call)
    (λ before. among_front _ (sent_by (start 0 format) acts) _ (call_among format acts call m k lawful.0 quiet before (sent_as format acts (Call message) call m lawful before is) some le))
    (λ new. among_back _ (sent_by (start 0 format) acts) _
    (subst (Among _) (sym (call_sends 0 format acts message lawful))
    (among_order _ _ _ call (made_call 0 (more acts (Call message)) call (ap is_some is)).1 (let_go_here format acts (Call message) call m k sent new is some le))))
call_among format (more acts (Return returned message)) call m k lawful quiet sent is some le =
    by_sent _ (is_sent (start 0 format) acts call)
    (λ before. among_front _ (sent_by (start 0 format) acts) _ (call_among format acts call m k lawful.0 quiet before (sent_as format acts (Return returned message) call m lawful before is) some le))
    (λ new. absurd (no_call_by_return format acts returned message call quiet sent new))
call_among format (more acts (Came s)) call m k lawful quiet sent is some le =
    by_sent _ (is_sent (start 0 format) acts call)
    (λ before. among_front _ (sent_by (start 0 format) acts) _ (call_among format acts call m k lawful.0 quiet before (sent_as format acts (Came s) call m lawful before is) some le))
    (λ new. among_back _ (sent_by (start 0 format) acts) _
    (subst (Among _) (sym (came_sends 0 format acts s lawful))
    (among_back _ (cond (takes_after (start 0 format) acts s && not (is_acknowledgement s)) (acknowledged_by (is_stopped_after acts) (taken_by (start 0 format) acts) s) []) _
    (among_order _ _ _ call (made_call 0 (more acts (Came s)) call (ap is_some is)).1 (let_go_here format acts (Came s) call m k sent new is some le)))))
call_among format (more acts Tick) call m k lawful quiet sent is some le = absurd quiet
call_among format (more acts Stop) call m k lawful quiet sent is some le = absurd quiet

-- ---- a return

-- each segment of a return is among what was sent
pub return_among : (format : ℕ) (acts : Acts) (call : ℕ) (m : List ℕ) (k : ℕ) → return_at acts call ≡ Some m → 0 < k → k ≤ segment_count m
    → Among (spelling (segment_of (message_out (start 0 format) 1 call m) 0 k)) (sent_by (start 0 format) acts)
unfolding return_at outputs
return_among format none_yet call m k is some le = absurd cc
return_among format (more acts (Return returned message)) call m k is some le = elim (eqb_tells call returned) [
  | inl same ↦ (
      let this : message ≡ m = same_some message m (sym (ap (λ b. cond b (Some message) (return_at acts call)) same.0) ∙ is) in
      among_back _ (sent_by (start 0 format) acts) _
      (subst (Among _) (sym (return_sends 0 format acts returned message))
      (subst (λ c. Among (spelling (segment_of (message_out (start 0 format) 1 c m) 0 k)) (whole (message_out (start 0 format) 1 returned message))) (sym same.1)
      (subst (λ x. Among (spelling (segment_of (message_out (start 0 format) 1 returned m) 0 k)) (whole (message_out (start 0 format) 1 returned x))) (sym this)
      (among_first (message_out (start 0 format) 1 returned m) (segment_count m) k some le)))))
  | inr differ ↦ among_front _ (sent_by (start 0 format) acts) _ (return_among format acts call m k (sym (ap (λ b. cond b (Some message) (return_at acts call)) differ.0) ∙ is) some le)
]
return_among format (more acts (Call message)) call m k is some le = among_front _ (sent_by (start 0 format) acts) _ (return_among format acts call m k is some le)
return_among format (more acts (Came s)) call m k is some le = among_front _ (sent_by (start 0 format) acts) _ (return_among format acts call m k is some le)
return_among format (more acts Tick) call m k is some le = among_front _ (sent_by (start 0 format) acts) _ (return_among format acts call m k is some le)
return_among format (more acts Stop) call m k is some le = among_front _ (sent_by (start 0 format) acts) _ (return_among format acts call m k is some le)
