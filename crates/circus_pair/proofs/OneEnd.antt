-- What holds of one end after every lawful list of acts, whatever comes.
use Rattle.std.proofs.Common.{◌≡◌, ℕ, ◌≤◌, Bool, true, false, cond, not, ◌&&◌, ◌||◌, eqb, ltb, List, [], ◌∷◌, ◌++◌, Option, None, Some, refl, sym, ap, subst, ◌∙◌, inl, inr}
use Rattle.std.specs.Prelude.{is_some, count_by}
use Rattle.std.proofs.lemmas.Bool.{eqb-true, lt-ltb, cases_lt}
use Rattle.std.proofs.lemmas.Bool.Decides.{eqb_tells}
use Rattle.std.proofs.lemmas.List.{append-nil}
use Rattle.circus_exchange.specs.declared.exchange.Exchange.{Exchange}
use Rattle.circus_exchange.specs.declared.taken.Arrived.TheVariants.{Nothing, ArrivedCall, ArrivedReturn}
use Rattle.circus_segment.specs.Segment.{Piece, IsSegment, is_acknowledgement}
use Rattle.circus_exchange.specs.Limits.{window}
use Rattle.circus_exchange.specs.Exchange.{start, takes, arrived_after, awaits_return}
use Rattle.circus_pair.specs.Taken.{total_in, has_arrived, message_in, AreTaken}
use Rattle.circus_pair.specs.Acts.{Act, Return, Came, Acts, none_yet, more, end_after, taken_by, arrives_by, arrival_by}
use Rattle.circus_pair.specs.Handed.{call_at, return_at}
use Rattle.circus_pair.specs.Lawful.{is_stopped_after, MayFollow, AreLawful}
use Rattle.circus_pair.specs.Window.{is_open, count_below, may_go}
use Rattle.circus_pair.specs.Sending.{is_sent, let_go_by, whole_call}
use Rattle.circus_pair.specs.TwoEnds.{Arrival, arrived_in, arrivals_of}
use Rattle.circus_pair.proofs.Dialogue.{is_this, one_if, both_true, not_true, no_arrival, counted_more, noted_is, dropped}
use Rattle.circus_pair.proofs.Growing.{Grows, IsFirst, grows_act, arrived_grows}
use Rattle.circus_pair.proofs.Handing.{awaits_is}
use Rattle.circus_pair.proofs.Keeping.{stands_lawful, hands_lawful}
use Rattle.circus_pair.proofs.Standing.{Stands, arrival_is}

-- ---- what is there stays

lawful_first : (first format : ℕ) (acts : Acts) (act : Act) → MayFollow first format acts act → IsFirst acts act
lawful_first first format acts (Return call message) may = may.2
lawful_first first format acts act may = tt

pub grows_lawful : (first format : ℕ) (acts : Acts) (act : Act) → AreLawful first format (more acts act) → Grows first acts (more acts act) (taken_by (start first format) acts) (taken_by (start first format) (more acts act))
grows_lawful first format acts act lawful =
    grows_act first acts (taken_by (start first format) acts) (end_after (start first format) acts) act (hands_lawful first format acts lawful.0) (lawful_first first format acts act lawful.1)

pub arrived_stays : (first format : ℕ) (acts : Acts) (act : Act) (kind call : ℕ) → AreLawful first format (more acts act) → has_arrived (taken_by (start first format) acts) kind call ≡ true → has_arrived (taken_by (start first format) (more acts act)) kind call ≡ true
arrived_stays first format acts act kind call lawful = arrived_grows first acts (more acts act) _ _ (grows_lawful first format acts act lawful) kind call

pub total_stays : (first format : ℕ) (acts : Acts) (act : Act) (kind call total : ℕ) → AreLawful first format (more acts act) → total_in (taken_by (start first format) acts) kind call ≡ Some total → total_in (taken_by (start first format) (more acts act)) kind call ≡ Some total
total_stays first format acts act kind call total lawful = (grows_lawful first format acts act lawful).totals kind call total

pub call_stays : (first format : ℕ) (acts : Acts) (act : Act) (call : ℕ) (message : List ℕ) → AreLawful first format (more acts act) → call_at first acts call ≡ Some message → call_at first (more acts act) call ≡ Some message
call_stays first format acts act call message lawful = (grows_lawful first format acts act lawful).handed 0 call message

pub return_stays : (first format : ℕ) (acts : Acts) (act : Act) (call : ℕ) (message : List ℕ) → AreLawful first format (more acts act) → return_at acts call ≡ Some message → return_at (more acts act) call ≡ Some message
return_stays first format acts act call message lawful = (grows_lawful first format acts act lawful).handed 1 call message

pub sent_stays : (first format : ℕ) (acts : Acts) (act : Act) (call : ℕ) → is_sent (start first format) acts call ≡ true → is_sent (start first format) (more acts act) call ≡ true
unfolding is_sent
sent_stays first format acts act call h = ap (λ b. b || (is_some (call_at first (more acts act) call) && (not (is_stopped_after (more acts act)) && may_go first (more acts act) (taken_by (start first format) (more acts act)) call))) h

-- ---- which act sends a call

pub sent_once : (first format : ℕ) (acts : Acts) (act : Act) (call : ℕ) → is_sent (start first format) acts call ≡ true → let_go_by (start first format) acts act call ≡ []
unfolding let_go_by
sent_once first format acts act call h =
    ap (λ b. cond (is_sent (start first format) (more acts act) call && not b) (whole_call (start first format) call (call_at first (more acts act) call)) []) h
    ∙ ap (λ b. cond b (whole_call (start first format) call (call_at first (more acts act) call)) []) (neither (is_sent (start first format) (more acts act) call))
  where
    neither : (b : Bool) → (b && false) ≡ false
    neither true = refl
    neither false = refl

stays_back : (sent some down goes : Bool) → (sent || (some && (not down && goes))) ≡ false → some ≡ true → down ≡ false → goes ≡ false
stays_back true some down goes h s d = absurd cc
stays_back false true true goes h s d = absurd cc
stays_back false true false goes h s d = h
stays_back false false down goes h s d = absurd cc

full : (n : ℕ) → ltb n window ≡ false → window ≤ n
full n h = elim (cases_lt n window) [
  | inl less ↦ absurd (let no_ : true ≡ false = sym (lt-ltb n window less) ∙ h in cc)
  | inr most ↦ most
]

-- a call that isn't sent has a full window of open ones before it
pub unsent_waits : (first format : ℕ) (acts : Acts) (call : ℕ) → is_some (call_at first acts call) ≡ true → is_stopped_after acts ≡ false → is_sent (start first format) acts call ≡ false → window ≤ count_below (is_open first acts (taken_by (start first format) acts)) call
unfolding is_sent call_at
unsent_waits first format none_yet call made_ up unsent = absurd cc
unsent_waits first format (more acts act) call made_ up unsent = full _ (stays_back (is_sent (start first format) acts call) _ (is_stopped_after (more acts act)) _ unsent made_ up)

-- ---- what arrives

abbrev Once : List Piece → List Arrival → Type 0
Once ts arrived = (kind call : ℕ) → count_by (is_this kind call) arrived ≡ one_if (has_arrived ts kind call)

once_still : (ts : List Piece) (arrived : List Arrival) → Once ts arrived → Once ts (arrived ++ [])
once_still ts arrived once = subst (λ xs. Once ts xs) (sym (append-nil arrived)) once

once_taken : (ts : List Piece) (arrived : List Arrival) (s : Piece) → IsSegment s → (has_arrived ts s.kind s.call ≡ true → has_arrived (s ∷ ts) s.kind s.call ≡ true) → Once ts arrived → Once (s ∷ ts) (arrived ++ arrivals_of (arrival_by ts s))
once_taken ts arrived s segment up once =
    let message = message_in (s ∷ ts) s.kind s.call s.total in
    elim (arrives_by ts s) as (λ b. arrives_by ts s ≡ b → Once (s ∷ ts) (arrived ++ arrivals_of (cond b (cond (eqb s.kind 0) (ArrivedCall s.call message) (ArrivedReturn s.call message)) Nothing))) [
      | true ↦ λ whole. (
          let a = both_true (not (is_acknowledgement s)) _ whole in
          let b = both_true (has_arrived (s ∷ ts) s.kind s.call) _ a.1 in
          subst (λ xs. Once (s ∷ ts) (arrived ++ xs)) (sym (noted_is s message segment)) (counted_more s ts arrived message b.0 (not_true _ b.1) once))
      | false ↦ λ none. once_still (s ∷ ts) arrived (λ kind call. once kind call ∙ ap one_if (no_arrival s ts up none kind call))
    ] refl

once_came : (ts : List Piece) (arrived : List Arrival) (e : Exchange) (s : Piece) → Stands ts e → IsSegment s → (has_arrived ts s.kind s.call ≡ true → has_arrived (cond (takes e s) (s ∷ ts) ts) s.kind s.call ≡ true) → Once ts arrived → Once (cond (takes e s) (s ∷ ts) ts) (arrived ++ arrivals_of (arrived_after e s))
once_came ts arrived e s stands segment up once =
    elim (takes e s) as (λ b. takes e s ≡ b → (has_arrived ts s.kind s.call ≡ true → has_arrived (cond b (s ∷ ts) ts) s.kind s.call ≡ true) → Once (cond b (s ∷ ts) ts) (arrived ++ arrivals_of (arrived_after e s))) [
      | true ↦ λ h rises. subst (λ x. Once (s ∷ ts) (arrived ++ arrivals_of x)) (sym (arrival_is ts e s stands segment h)) (once_taken ts arrived s segment rises once)
      | false ↦ λ h rises. subst (λ x. Once ts (arrived ++ arrivals_of x)) (sym (dropped e s h)) (once_still ts arrived once)
    ] refl up

-- each message arrives at most once
pub arrived_once : (first format : ℕ) (acts : Acts) → AreLawful first format acts → Once (taken_by (start first format) acts) (arrived_in (start first format) acts)
unfolding has_arrived total_in
arrived_once first format none_yet lawful = λ kind call. refl
arrived_once first format (more acts (Came s)) lawful =
    once_came (taken_by (start first format) acts) (arrived_in (start first format) acts) (end_after (start first format) acts) s (stands_lawful first format acts lawful.0) lawful.1 (arrived_stays first format acts (Came s) s.kind s.call lawful) (arrived_once first format acts lawful.0)
arrived_once first format (more acts act) lawful = once_still (taken_by (start first format) acts) (arrived_in (start first format) acts) (arrived_once first format acts lawful.0)

pub are_taken : (first format : ℕ) (acts : Acts) → AreLawful first format acts → AreTaken (taken_by (start first format) acts)
are_taken first format acts lawful = (stands_lawful first format acts lawful).taken

-- ---- a call that has arrived and has had no return awaits one

pub returned_arrived : (first format : ℕ) (acts : Acts) (call : ℕ) (message : List ℕ) → AreLawful first format acts → return_at acts call ≡ Some message → has_arrived (taken_by (start first format) acts) 0 call ≡ true
unfolding return_at
returned_arrived first format none_yet call message lawful h = absurd cc
returned_arrived first format (more acts (Return returned m)) call message lawful h = elim (eqb_tells call returned) [
  | inl same ↦ subst (λ n. has_arrived (taken_by (start first format) acts) 0 n ≡ true) (sym same.1) lawful.1.1
  | inr differ ↦ returned_arrived first format acts call message lawful.0 (sym (ap (λ b. cond b (Some m) (return_at acts call)) differ.0) ∙ h)
]
returned_arrived first format (more acts (Came s)) call message lawful h = arrived_stays first format acts (Came s) 0 call lawful (returned_arrived first format acts call message lawful.0 h)
returned_arrived first format (more acts act) call message lawful h = returned_arrived first format acts call message lawful.0 h

came_call : (a k : Bool) (n call : ℕ) (m message : List ℕ) → cond a (cond k (ArrivedCall n m) (ArrivedReturn n m)) Nothing ≡ ArrivedCall call message → (a ≡ true) × (k ≡ true) × (n ≡ call)
came_call true true n call m message h = (refl, refl, cc)
came_call true false n call m message h = absurd cc
came_call false k n call m message h = absurd cc

unreturned : (first format : ℕ) (acts : Acts) (call : ℕ) → AreLawful first format acts → has_arrived (taken_by (start first format) acts) 0 call ≡ false → return_at acts call ≡ None
unreturned first format acts call lawful h = go (return_at acts call) refl
  where
    go : (o : Option (List ℕ)) → return_at acts call ≡ o → o ≡ None
    go None is = refl
    go (Some m) is = absurd (let yes_ : has_arrived (taken_by (start first format) acts) 0 call ≡ true = returned_arrived first format acts call m lawful is in cc)

pub awaited : (first format : ℕ) (acts : Acts) (s : Piece) (call : ℕ) (message : List ℕ) → AreLawful first format (more acts (Came s)) → arrived_after (end_after (start first format) acts) s ≡ ArrivedCall call message → awaits_return (end_after (start first format) (more acts (Came s))) call ≡ true
unfolding return_at
awaited first format acts s call message lawful arrived =
    let e = end_after (start first format) acts in
    let ts = taken_by (start first format) acts in
    let stands = stands_lawful first format acts lawful.0 in
    elim (takes e s) as (λ b. takes e s ≡ b → awaits_return (end_after (start first format) (more acts (Came s))) call ≡ true) [
      | false ↦ λ h. absurd (let no_ : Nothing ≡ ArrivedCall call message = sym (dropped e s h) ∙ arrived in cc)
      | true ↦ λ h. (
          let parts = came_call (arrives_by ts s) (eqb s.kind 0) s.call call _ message (sym (arrival_is ts e s stands lawful.1 h) ∙ arrived) in
          let a = both_true (not (is_acknowledgement s)) _ parts.0 in
          let b = both_true (has_arrived (s ∷ ts) s.kind s.call) _ a.1 in
          let kind : s.kind ≡ 0 = eqb-true s.kind 0 parts.1 in
          let now : has_arrived (s ∷ ts) 0 call ≡ true = subst (λ n. has_arrived (s ∷ ts) 0 n ≡ true) parts.2 (subst (λ k. has_arrived (s ∷ ts) k s.call ≡ true) kind b.0) in
          let before : has_arrived ts 0 call ≡ false = subst (λ n. has_arrived ts 0 n ≡ false) parts.2 (subst (λ k. has_arrived ts k s.call ≡ false) kind (not_true _ b.1)) in
          awaits_is first (more acts (Came s)) _ _ call (stands_lawful first format (more acts (Came s)) lawful) (hands_lawful first format (more acts (Came s)) lawful)
          ∙ ap (λ x. has_arrived (cond x (s ∷ ts) ts) 0 call && not (is_some (return_at acts call))) h
          ∙ ap (λ x. x && not (is_some (return_at acts call))) now
          ∙ ap (λ (o : Option (List ℕ)). not (is_some o)) (unreturned first format acts call lawful.0 before))
    ] refl
