-- After every lawful list of acts an end has counted the ticks of silence.
use Rattle.std.proofs.Common.{◌≡◌, ℕ, ◌+◌, ◌<◌, ◌≤◌, Bool, true, false, cond, not, ◌&&◌, eqb, ltb, List, [], Option, None, Some, refl, sym, ap, ◌∙◌, inl, inr, arith}
use Rattle.std.specs.Prelude.{is_some}
use Rattle.std.specs.Cmp.{nat_cmp_total}
use Rattle.std.specs.Ordering.{nat_cmp}
use Rattle.std.specs.FinMap.{FinMap, nat_cmp-IsAntisymmetric, get, len, empty, empty_of_len, len-empty, get-empty, same_map}
use Rattle.std.proofs.lemmas.Bool.{eqb-true, eq-eqb, ne_eqb, lt-ltb, le-ltb, cases_lt}
use Rattle.circus_exchange.specs.declared.exchange.Exchange.{Exchange}
use Rattle.circus_segment.specs.Segment.{Piece}
use Rattle.circus_exchange.specs.Exchange.{start, send_call, send_return, takes, after_taken, is_waiting, count_tick, is_suspect}
use Rattle.circus_pair.specs.Taken.{has_arrived}
use Rattle.circus_pair.specs.Acts.{Call, Came, Tick, Acts, none_yet, more, end_after, taken_by}
use Rattle.circus_pair.specs.Handed.{calls_made, call_at, reached_in}
use Rattle.circus_pair.specs.Lawful.{AreLawful}
use Rattle.circus_pair.specs.Window.{count_below}
use Rattle.circus_pair.specs.Ticking.{is_unfinished, waits_after, ticks_after, suspects_after}
use Rattle.circus_pair.proofs.Counting.{count_none, none_counted}
use Rattle.circus_pair.proofs.Keeping.{kept_after, kept_call, hands_lawful}
use Rattle.circus_pair.proofs.Outputs.{taken_is}
use Rattle.circus_exchange.proofs.Ties.{alike}

-- an end keeps something of a call exactly while it is unfinished
kept_some : (o : Option (List ℕ)) (c : ℕ → ℕ) (finished : Bool) → is_some (kept_call o c finished) ≡ (is_some o && not finished)
kept_some None c finished = refl
kept_some (Some m) c true = refl
kept_some (Some m) c false = some (eqb (c _) _) m
  where
    some : (b : Bool) (m : List ℕ) → is_some (cond b (Some []) (Some m)) ≡ true
    some true m = refl
    some false m = refl

nothing : (o : Option (List ℕ)) → is_some o ≡ false → o ≡ None
nothing None h = refl
nothing (Some m) h = absurd cc

-- a map is empty where no number below one has anything, and none from there on
empty_is : (messages : FinMap nat_cmp (List ℕ)) (passes : ℕ → Bool) (limit : ℕ) → ((k : ℕ) → is_some (get messages k) ≡ passes k) → ((k : ℕ) → limit ≤ k → get messages k ≡ None) → eqb (len messages) 0 ≡ eqb (count_below passes limit) 0
empty_is messages passes limit knows beyond = alike _ _
    (λ none. let bare : messages ≡ empty = empty_of_len messages (eqb-true _ 0 none) in
    eq-eqb (count_below passes limit) 0 (count_none passes limit (λ k le. sym (knows k) ∙ ap (λ (m : FinMap nat_cmp (List ℕ)). is_some (get m k)) bare ∙ ap is_some (get-empty nat_cmp k))))
    (λ none. let bare : messages ≡ empty = same_map nat_cmp_total nat_cmp-IsAntisymmetric messages empty (λ k. elim (cases_lt k limit) [
      | inl below ↦ nothing (get messages k) (knows k ∙ none_counted passes limit k (eqb-true _ 0 none) below) ∙ sym (get-empty nat_cmp k)
      | inr past ↦ beyond k past ∙ sym (get-empty nat_cmp k)
    ]) in eq-eqb (len messages) 0 (ap (λ (m : FinMap nat_cmp (List ℕ)). len m) bare ∙ len-empty nat_cmp (List ℕ)))

waits_is : (first format : ℕ) (acts : Acts) → AreLawful first format acts → is_waiting (end_after (start first format) acts) ≡ waits_after (start first format) acts
unfolding is_unfinished
waits_is first format acts lawful =
    let e = end_after (start first format) acts in
    let ts = taken_by (start first format) acts in
    let hands = hands_lawful first format acts lawful in
    let kept = kept_after first format acts lawful in
    let next : e.next ≡ first + calls_made acts = hands.next in
    ap not (empty_is e.calls.messages (is_unfinished first acts ts) (first + calls_made acts)
    (λ k. ap is_some (kept.calls k) ∙ kept_some (call_at first acts k) (reached_in ts 0 k) (has_arrived ts 1 k))
    (λ k le. kept.calls k ∙ ap (λ o. kept_call o (reached_in ts 0 k) (has_arrived ts 1 k)) (hands.later k (omega arith))))

turned : (b : Bool) (x y : ℕ) → cond b x y ≡ cond (not b) y x
turned true x y = refl
turned false x y = refl

ticks_came : (e : Exchange) (s : Piece) (taken : Bool) (ticks : ℕ) → takes e s ≡ taken → e.ticks ≡ ticks → (cond (takes e s) (after_taken e s) e).ticks ≡ cond taken 0 ticks
unfolding after_taken
ticks_came e s true ticks is same = ap (λ b. (cond b (after_taken e s) e).ticks) is
ticks_came e s false ticks is same = ap (λ b. (cond b (after_taken e s) e).ticks) is ∙ same

pub ticks_are : (first format : ℕ) (acts : Acts) → AreLawful first format acts → (end_after (start first format) acts).ticks ≡ ticks_after (start first format) acts
unfolding ticks_after send_call send_return count_tick
ticks_are first format none_yet lawful = refl
ticks_are first format (more acts (Call message)) lawful =
    let b = start first format in
    let e = end_after b acts in
    turned (eqb (len e.calls.messages) 0) 0 e.ticks
    ∙ ap (λ w. cond w e.ticks 0) (waits_is first format acts lawful.0)
    ∙ ap (λ (n : ℕ). cond (waits_after b acts) n 0) (ticks_are first format acts lawful.0)
ticks_are first format (more acts (Came s)) lawful =
    ticks_came (end_after (start first format) acts) s _ _ (taken_is first format acts s lawful.0 lawful.1) (ticks_are first format acts lawful.0)
ticks_are first format (more acts Tick) lawful =
    let b = start first format in
    let e = end_after b acts in
    ap (λ w. cond (w && ltb e.ticks 8) (e.ticks + 1) e.ticks) (waits_is first format acts lawful.0)
    ∙ ap (λ n. cond (waits_after b acts && ltb n 8) (n + 1) n) (ticks_are first format acts lawful.0)
ticks_are first format (more acts act) lawful = ticks_are first format acts lawful.0

becomes_eight : (waits : Bool) (n : ℕ) → (waits && eqb (n + 1) 8) ≡ (ltb n 8 && eqb (cond (waits && ltb n 8) (n + 1) n) 8)
becomes_eight waits n = elim (cases_lt n 8) [
  | inl low ↦ sym (ap (λ b. b && eqb (cond (waits && b) (n + 1) n) 8) (lt-ltb n 8 low) ∙ eight waits n low)
  | inr high ↦ never waits n high ∙ sym (ap (λ b. b && eqb (cond (waits && b) (n + 1) n) 8) (le-ltb n 8 high))
]
  where
    eight : (waits : Bool) (n : ℕ) → n < 8 → eqb (cond (waits && true) (n + 1) n) 8 ≡ (waits && eqb (n + 1) 8)
    eight true n low = refl
    eight false n low = ne_eqb n 8 (λ e. absurd (omega arith))

    never : (waits : Bool) (n : ℕ) → 8 ≤ n → (waits && eqb (n + 1) 8) ≡ false
    never true n high = ne_eqb (n + 1) 8 (λ e. absurd (omega arith))
    never false n high = refl

pub suspicion_is : (first format : ℕ) (acts : Acts) → AreLawful first format acts → is_suspect (end_after (start first format) acts) ≡ suspects_after (start first format) acts
unfolding is_suspect ticks_after
suspicion_is first format acts lawful =
    let b = start first format in
    let e = end_after b acts in
    ap (λ w. w && eqb (e.ticks + 1) 8) (waits_is first format acts lawful)
    ∙ ap (λ n. waits_after b acts && eqb (n + 1) 8) (ticks_are first format acts lawful)
    ∙ becomes_eight (waits_after b acts) (ticks_after b acts)
