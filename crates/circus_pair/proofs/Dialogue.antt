-- What two ends hear of one another.
use Rattle.std.proofs.Common.{◌≡◌, ℕ, ◌+◌, ◌<◌, ◌≤◌, ◌⊎◌, inl, inr, Bool, true, false, cond, not, ◌&&◌, eqb, List, [], ◌∷◌, ◌++◌, Option, None, Some, refl, sym, ap, subst, ◌∙◌, arith}
use Rattle.std.specs.Prelude.{is_some, count_by}
use Rattle.std.proofs.lemmas.Bool.{eqb-true, eqb-false}
use Rattle.std.proofs.lemmas.List.{append-nil}
use Rattle.std.proofs.lemmas.List.Sums.{sum_by_push}
use Rattle.circus_exchange.specs.declared.exchange.Exchange.{Exchange}
use Rattle.circus_exchange.specs.declared.taken.Arrived.TheVariants.{Nothing, ArrivedCall, ArrivedReturn}
use Rattle.circus_segment.specs.Segment.{Piece, IsSegment, is_acknowledgement}
use Rattle.circus_exchange.specs.Exchange.{start, takes, arrived_of_taken, arrived_after}
use Rattle.circus_pair.specs.Taken.{is_of, first_of, total_in, count_in, is_reached, has_arrived, message_in, IsOf, AreOf}
use Rattle.circus_pair.specs.Acts.{Act, Call, Return, Came, Acts, none_yet, more, end_after, with_taken, taken_by, arrives_by, arrival_by}
use Rattle.circus_pair.specs.Handed.{calls_made, call_at, return_at}
use Rattle.circus_pair.specs.Lawful.{MayFollow, AreLawful}
use Rattle.circus_pair.specs.TwoEnds.{sent_by, arrival_of, Arrival, arrivals_of, arrived_in, handed_over}
use Rattle.circus_pair.proofs.Arrivals.{arrived_other}
use Rattle.circus_pair.proofs.Standing.{Stands, may_follow, arrival_is}
use Rattle.circus_pair.proofs.Handing.{format_stays}
use Rattle.circus_pair.proofs.Joins.{arrives_as_sent}
use Rattle.circus_pair.proofs.Growing.{Grows, grows_act, arrived_grows}
use Rattle.circus_pair.proofs.Keeping.{stands_lawful, hands_lawful, kept_after}
use Rattle.circus_pair.proofs.Flowing.{flows_after}
use Rattle.circus_pair.proofs.Each.{Each, each_append, each_map}
use Rattle.circus_pair.specs.Saying.{IsSaid, IsOfSome}
use Rattle.circus_pair.proofs.Sayings.{Tells, said_later, tells_later}
use Rattle.circus_pair.proofs.Speaking.{Fine, Keeping, MayDo, is_first, fine_act, says_act}

-- ---- one end

pub record Good (format : ℕ) (acts : Acts) : Type 0 where
  pub known : (format ≡ 1) ⊎ (format ≡ 2)
  pub lawful : AreLawful 0 format acts
  pub few : calls_made acts ≤ 4294967295
  pub fine : Fine 0 format acts (taken_by (start 0 format) acts)
  pub tells : Each (Tells 0 format acts (taken_by (start 0 format) acts)) (sent_by (start 0 format) acts)

pub keeping : (format : ℕ) (acts : Acts) → Good format acts → Keeping 0 format acts (taken_by (start 0 format) acts) (end_after (start 0 format) acts)
keeping format acts good = record {
  known = good.known;
  format_is = format_stays (start 0 format) acts;
  hands = hands_lawful 0 format acts good.lawful;
  stands = stands_lawful 0 format acts good.lawful;
  kept = kept_after 0 format acts good.lawful;
  unsaid = (flows_after 0 format acts good.lawful).unsaid;
  fine = good.fine;
}

lawful_act : (format : ℕ) (acts : Acts) (act : Act) → MayDo 0 format acts (taken_by (start 0 format) acts) act → MayFollow 0 format acts act
lawful_act format acts (Return call message) may = (may.0, may.2, may.3)
lawful_act format acts act may = may

few_act : (format : ℕ) (acts : Acts) (ts : List Piece) (act : Act) → MayDo 0 format acts ts act → calls_made acts ≤ 4294967295 → calls_made (more acts act) ≤ 4294967295
unfolding calls_made
few_act format acts ts (Call message) may few = (let low : 0 + calls_made acts < 4294967295 = may.1 in omega arith)
few_act format acts ts act may few = few

grown : (format : ℕ) (acts : Acts) (act : Act) → Good format acts → MayDo 0 format acts (taken_by (start 0 format) acts) act → Grows 0 acts (more acts act) (taken_by (start 0 format) acts) (taken_by (start 0 format) (more acts act))
grown format acts act good may =
    grows_act 0 acts (taken_by (start 0 format) acts) (end_after (start 0 format) acts) act (keeping format acts good).hands (is_first 0 format acts (taken_by (start 0 format) acts) act may)

good_act : (format : ℕ) (acts : Acts) (act : Act) → Good format acts → MayDo 0 format acts (taken_by (start 0 format) acts) act → Good format (more acts act)
good_act format acts act good may =
    let ts = taken_by (start 0 format) acts in
    let e = end_after (start 0 format) acts in
    let k = keeping format acts good in
    record {
      known = good.known;
      lawful = (good.lawful, lawful_act format acts act may);
      few = few_act format acts ts act may good.few;
      fine = fine_act 0 format acts ts e act k.hands good.fine may;
      tells = each_append _ _ _
          (each_map _ _ (sent_by (start 0 format) acts) (λ bytes. tells_later 0 format acts (more acts act) ts (with_taken e act ts) bytes (grown format acts act good may)) good.tells)
          (says_act 0 format acts ts e act k may);
    }

none_handed : {X : Type 0} (m : X) → ◌≡◌ {A = Option X} None (Some m) → ⊥
none_handed m h = cc

good_start : (format : ℕ) → (format ≡ 1) ⊎ (format ≡ 2) → Good format none_yet
unfolding calls_made call_at return_at
good_start format known = record {
  known = known;
  lawful = tt;
  few = omega arith;
  fine = record { calls = λ q m h. absurd (none_handed m h); returns = λ q m h. absurd (none_handed m h) };
  tells = tt;
}

-- ---- segments of one message

pub both_true : (a b : Bool) → (a && b) ≡ true → (a ≡ true) × (b ≡ true)
both_true true b h = (refl, h)
both_true false b h = absurd cc

pub not_true : (b : Bool) → not b ≡ true → b ≡ false
not_true true h = absurd cc
not_true false h = refl

-- what a segment of a message says of itself
pub record IsPart (kind call : ℕ) (s : Piece) : Type 0 where
  pub kind_is : s.kind ≡ kind
  pub call_is : s.call ≡ call
  pub plain : is_acknowledgement s ≡ false

pub is_part : (kind call : ℕ) (s : Piece) → is_of kind call s ≡ true → IsPart kind call s
is_part kind call s h =
    let a = both_true (eqb s.kind kind) _ h in let b = both_true (eqb s.call call) _ a.1 in
    record { kind_is = eqb-true s.kind kind a.0; call_is = eqb-true s.call call b.0; plain = not_true _ b.1 }

handed_of : (acts : Acts) (kind call : ℕ) (m : List ℕ) (s : Piece) → s.kind ≡ kind → s.call ≡ call → handed_over 0 acts kind call ≡ Some m → IsOfSome (handed_over 0 acts s.kind s.call) s → IsOf m s
handed_of acts kind call m s same here handed is =
    subst (λ o. IsOfSome o s) (ap (λ k. handed_over 0 acts k s.call) same ∙ ap (λ n. handed_over 0 acts kind n) here ∙ handed) is

-- the segments that were taken for a message are of the one that was handed over
pub are_of : (format : ℕ) (acts : Acts) (ots ts : List Piece) (kind call : ℕ) (m : List ℕ) → handed_over 0 acts kind call ≡ Some m → Each (IsSaid 0 format acts ots) ts → AreOf kind call m ts
are_of format acts ots [] kind call m handed each = tt
are_of format acts ots (s ∷ ts) kind call m handed each =
    (λ of_it. (let p = is_part kind call s of_it in handed_of acts kind call m s p.kind_is p.call_is handed (each.0.speaks p.plain)), are_of format acts ots ts kind call m handed each.1)

-- ---- a segment of a message that has arrived

first_some : (o : Option ℕ) (b : Bool) (x : ℕ) → is_some (first_of o b x) ≡ true → (is_some o ≡ true) ⊎ (b ≡ true)
first_some None true x h = inr refl
first_some None false x h = absurd cc
first_some (Some t) b x h = inl refl

reached_some : (o : Option ℕ) (c : ℕ → ℕ) → is_reached o c ≡ true → is_some o ≡ true
reached_some None c h = absurd cc
reached_some (Some t) c h = refl

pub record Found (P : Piece → Type 0) (kind call : ℕ) : Type 0 where
  pub piece : Piece
  pub part : IsPart kind call piece
  pub is : P piece

found_total : (P : Piece → Type 0) (ts : List Piece) (kind call : ℕ) → Each P ts → is_some (total_in ts kind call) ≡ true → Found P kind call
unfolding total_in
found_total P [] kind call each h = absurd cc
found_total P (s ∷ ts) kind call each h = elim (first_some (total_in ts kind call) (is_of kind call s) s.total h) [
  | inl before ↦ found_total P ts kind call each.1 before
  | inr here ↦ record { piece = s; part = is_part kind call s here; is = each.0 }
]

pub found : (P : Piece → Type 0) (ts : List Piece) (kind call : ℕ) → Each P ts → has_arrived ts kind call ≡ true → Found P kind call
unfolding has_arrived
found P ts kind call each h = found_total P ts kind call each (reached_some (total_in ts kind call) (count_in ts kind call) h)

-- ---- what arrives

abbrev pub is_this : ℕ → ℕ → Arrival → Bool
is_this kind call a = eqb a.kind kind && eqb a.call call

abbrev pub one_if : Bool → ℕ
one_if b = cond b 1 0

-- what one end has taken and what has arrived there, where the other one has said so
pub record Hears (format : ℕ) (ts : List Piece) (arrived : List Arrival) (acts : Acts) (other_ts : List Piece) : Type 0 where
  pub heard : Each (IsSaid 0 format acts other_ts) ts
  pub messages : Each (λ a. handed_over 0 acts a.kind a.call ≡ Some a.message) arrived
  pub once : (kind call : ℕ) → count_by (is_this kind call) arrived ≡ one_if (has_arrived ts kind call)

-- the other end goes on
hears_later : (format : ℕ) (ts : List Piece) (arrived : List Arrival) (acts more_acts : Acts) (other_ts more_ts : List Piece) → Grows 0 acts more_acts other_ts more_ts → Hears format ts arrived acts other_ts → Hears format ts arrived more_acts more_ts
hears_later format ts arrived acts more_acts other_ts more_ts grows hears = record {
  heard = each_map _ _ ts (λ s. said_later 0 format acts more_acts other_ts more_ts s grows) hears.heard;
  messages = each_map _ _ arrived (λ a. grows.handed a.kind a.call a.message) hears.messages;
  once = hears.once;
}

-- nothing comes
hears_still : (format : ℕ) (ts : List Piece) (arrived : List Arrival) (acts : Acts) (other_ts : List Piece) → Hears format ts arrived acts other_ts → Hears format ts (arrived ++ []) acts other_ts
hears_still format ts arrived acts other_ts hears = subst (λ xs. Hears format ts xs acts other_ts) (sym (append-nil arrived)) hears

other_part : (kind call : ℕ) (s : Piece) → (eqb s.kind kind && eqb s.call call) ≡ false → is_of kind call s ≡ false
other_part kind call s h = go (eqb s.kind kind) (eqb s.call call) (not (is_acknowledgement s)) h
  where
    go : (a b c : Bool) → (a && b) ≡ false → (a && (b && c)) ≡ false
    go true b c k = ap (λ x. x && c) k
    go false b c k = refl

same_key : (kind call : ℕ) (s : Piece) → (eqb s.kind kind && eqb s.call call) ≡ true → (s.kind ≡ kind) × (s.call ≡ call)
same_key kind call s h = (let a = both_true (eqb s.kind kind) _ h in (eqb-true s.kind kind a.0, eqb-true s.call call a.1))

level : (a b : Bool) → (b ≡ true → a ≡ true) → (a && not b) ≡ false → b ≡ a
level true true up h = refl
level true false up h = absurd cc
level false true up h = sym (up refl)
level false false up h = refl

-- a segment by which nothing arrives
pub no_arrival : (s : Piece) (ts : List Piece) → (has_arrived ts s.kind s.call ≡ true → has_arrived (s ∷ ts) s.kind s.call ≡ true) → arrives_by ts s ≡ false → (kind call : ℕ) → has_arrived ts kind call ≡ has_arrived (s ∷ ts) kind call
no_arrival s ts up none kind call =
    elim (is_of kind call s) as (λ b. is_of kind call s ≡ b → has_arrived ts kind call ≡ has_arrived (s ∷ ts) kind call) [
      | false ↦ λ other. sym (arrived_other s ts kind call other)
      | true ↦ λ of_it. (
          let p = is_part kind call s of_it in
          let here : has_arrived ts s.kind s.call ≡ has_arrived (s ∷ ts) s.kind s.call = level _ _ up (ap (λ b. not b && (has_arrived (s ∷ ts) s.kind s.call && not (has_arrived ts s.kind s.call))) (sym p.plain) ∙ none) in
          subst (λ k. has_arrived ts k call ≡ has_arrived (s ∷ ts) k call) p.kind_is (subst (λ n. has_arrived ts s.kind n ≡ has_arrived (s ∷ ts) s.kind n) p.call_is here))
    ] refl

-- a segment by which its message arrives
pub counted_more : (s : Piece) (ts : List Piece) (arrived : List Arrival) (message : List ℕ) → has_arrived (s ∷ ts) s.kind s.call ≡ true → has_arrived ts s.kind s.call ≡ false → ((kind call : ℕ) → count_by (is_this kind call) arrived ≡ one_if (has_arrived ts kind call)) → (kind call : ℕ) → count_by (is_this kind call) (arrived ++ (record { kind = s.kind; call = s.call; message = message }) ∷ []) ≡ one_if (has_arrived (s ∷ ts) kind call)
counted_more s ts arrived message now before once kind call =
    sum_by_push (λ a. cond (is_this kind call a) 1 0) arrived (record { kind = s.kind; call = s.call; message = message })
    ∙ ap (λ n. n + cond (eqb s.kind kind && eqb s.call call) 1 0) (once kind call)
    ∙ elim (eqb s.kind kind && eqb s.call call) as (λ b. (eqb s.kind kind && eqb s.call call) ≡ b → one_if (has_arrived ts kind call) + cond b 1 0 ≡ one_if (has_arrived (s ∷ ts) kind call)) [
      | true ↦ λ same. (
          let key = same_key kind call s same in
          let old : has_arrived ts kind call ≡ false = subst (λ k. has_arrived ts k call ≡ false) key.0 (subst (λ n. has_arrived ts s.kind n ≡ false) key.1 before) in
          let new : has_arrived (s ∷ ts) kind call ≡ true = subst (λ k. has_arrived (s ∷ ts) k call ≡ true) key.0 (subst (λ n. has_arrived (s ∷ ts) s.kind n ≡ true) key.1 now) in
          ap (λ b. one_if b + 1) old ∙ ap one_if (sym new))
      | false ↦ λ differ. (
          let same : has_arrived (s ∷ ts) kind call ≡ has_arrived ts kind call = arrived_other s ts kind call (other_part kind call s differ) in
          plus_none (one_if (has_arrived ts kind call)) ∙ ap one_if (sym same))
    ] refl
  where
    plus_none : (n : ℕ) → n + 0 ≡ n
    plus_none n = omega arith

pub noted_is : (s : Piece) (message : List ℕ) → IsSegment s → arrivals_of (cond (eqb s.kind 0) (ArrivedCall s.call message) (ArrivedReturn s.call message)) ≡ (record { kind = s.kind; call = s.call; message = message }) ∷ []
noted_is s message segment = elim (eqb s.kind 0) as (λ b. eqb s.kind 0 ≡ b → arrivals_of (cond b (ArrivedCall s.call message) (ArrivedReturn s.call message)) ≡ (record { kind = s.kind; call = s.call; message = message }) ∷ []) [
  | true ↦ λ call. ap (λ (k : ℕ). let a : List Arrival = record { kind = k; call = s.call; message = message } ∷ [] in a) (sym (eqb-true s.kind 0 call))
  | false ↦ λ return_. (let le : s.kind ≤ 1 = segment.kind in let ne : s.kind ≡ 0 → ⊥ = eqb-false s.kind 0 return_ in let one : 1 ≡ s.kind = omega arith in ap (λ (k : ℕ). let a : List Arrival = record { kind = k; call = s.call; message = message } ∷ [] in a) one)
] refl

-- the message that arrives by a segment is the one that was handed over
arrives_as_handed : (format : ℕ) (acts : Acts) (ots ts : List Piece) (e : Exchange) (s : Piece) → Stands ts e → takes e s ≡ true → is_acknowledgement s ≡ false → has_arrived (s ∷ ts) s.kind s.call ≡ true → IsSaid 0 format acts ots s → Each (IsSaid 0 format acts ots) ts → handed_over 0 acts s.kind s.call ≡ Some (message_in (s ∷ ts) s.kind s.call s.total)
arrives_as_handed format acts ots ts e s stands h plain whole said heard = go (handed_over 0 acts s.kind s.call) refl (said.speaks plain)
  where
    go : (o : Option (List ℕ)) → handed_over 0 acts s.kind s.call ≡ o → IsOfSome o s → o ≡ Some (message_in (s ∷ ts) s.kind s.call s.total)
    go None handed is = absurd is
    go (Some m) handed is =
        let sent = arrives_as_sent (s ∷ ts) s.kind s.call m (may_follow ts e s stands said.segment h, stands.taken) (are_of format acts ots (s ∷ ts) s.kind s.call m handed (said, heard)) whole in
        ap (λ (x : List ℕ). Some x) (sym (ap (message_in (s ∷ ts) s.kind s.call) is.total ∙ sent.1))

-- a segment that is taken
hears_taken : (format : ℕ) (ts : List Piece) (arrived : List Arrival) (acts : Acts) (ots : List Piece) (e : Exchange) (s : Piece) → Stands ts e → takes e s ≡ true → (has_arrived ts s.kind s.call ≡ true → has_arrived (s ∷ ts) s.kind s.call ≡ true) → IsSaid 0 format acts ots s → Hears format ts arrived acts ots → Hears format (s ∷ ts) (arrived ++ arrivals_of (arrival_by ts s)) acts ots
hears_taken format ts arrived acts ots e s stands h up said hears =
    elim (arrives_by ts s) as (λ b. arrives_by ts s ≡ b → Hears format (s ∷ ts) (arrived ++ arrivals_of (cond b (cond (eqb s.kind 0) (ArrivedCall s.call (message_in (s ∷ ts) s.kind s.call s.total)) (ArrivedReturn s.call (message_in (s ∷ ts) s.kind s.call s.total))) Nothing)) acts ots) [
      | true ↦ λ whole. (
          let a = both_true (not (is_acknowledgement s)) _ whole in
          let b = both_true (has_arrived (s ∷ ts) s.kind s.call) _ a.1 in
          let message = message_in (s ∷ ts) s.kind s.call s.total in
          subst (λ xs. Hears format (s ∷ ts) (arrived ++ xs) acts ots) (sym (noted_is s message said.segment)) (record {
            heard = (said, hears.heard);
            messages = each_append _ arrived _ hears.messages (arrives_as_handed format acts ots ts e s stands h (not_true _ a.0) b.0 said hears.heard, tt);
            once = counted_more s ts arrived message b.0 (not_true _ b.1) hears.once;
          }))
      | false ↦ λ none. hears_still format (s ∷ ts) arrived acts ots (record {
        heard = (said, hears.heard);
        messages = hears.messages;
        once = λ kind call. hears.once kind call ∙ ap one_if (no_arrival s ts up none kind call);
      })
    ] refl

pub dropped : (e : Exchange) (s : Piece) → takes e s ≡ false → arrived_after e s ≡ Nothing
dropped e s h = ap (λ b. cond (b && not (is_acknowledgement s)) (arrived_of_taken e s) Nothing) h

hears_came : (format : ℕ) (ts : List Piece) (arrived : List Arrival) (acts : Acts) (ots : List Piece) (e : Exchange) (s : Piece) → Stands ts e → (has_arrived ts s.kind s.call ≡ true → has_arrived (cond (takes e s) (s ∷ ts) ts) s.kind s.call ≡ true) → IsSaid 0 format acts ots s → Hears format ts arrived acts ots → Hears format (cond (takes e s) (s ∷ ts) ts) (arrived ++ arrivals_of (arrived_after e s)) acts ots
hears_came format ts arrived acts ots e s stands up said hears =
    elim (takes e s) as (λ b. takes e s ≡ b → (has_arrived ts s.kind s.call ≡ true → has_arrived (cond b (s ∷ ts) ts) s.kind s.call ≡ true) → Hears format (cond b (s ∷ ts) ts) (arrived ++ arrivals_of (arrived_after e s)) acts ots) [
      | true ↦ λ h rises. subst (λ x. Hears format (s ∷ ts) (arrived ++ arrivals_of x) acts ots) (sym (arrival_is ts e s stands said.segment h)) (hears_taken format ts arrived acts ots e s stands h rises said hears)
      | false ↦ λ h rises. subst (λ x. Hears format ts (arrived ++ arrivals_of x) acts ots) (sym (dropped e s h)) (hears_still format ts arrived acts ots hears)
    ] refl up

-- what comes is what the other end says
abbrev pub IsHeard : ℕ → Acts → List Piece → Act → Type 0
IsHeard format acts ots (Came s) = IsSaid 0 format acts ots s
IsHeard format acts ots act = Unit {0}

hears_act : (format : ℕ) (own_acts : Acts) (ts : List Piece) (arrived : List Arrival) (acts : Acts) (ots : List Piece) (e : Exchange) (act : Act) → Stands ts e → Grows 0 own_acts (more own_acts act) ts (with_taken e act ts) → IsHeard format acts ots act → Hears format ts arrived acts ots → Hears format (with_taken e act ts) (arrived ++ arrivals_of (arrival_of e act)) acts ots
hears_act format own_acts ts arrived acts ots e (Came s) stands grows is hears = hears_came format ts arrived acts ots e s stands (arrived_grows 0 own_acts (more own_acts (Came s)) ts _ grows s.kind s.call) is hears
hears_act format own_acts ts arrived acts ots e act stands grows is hears = hears_still format ts arrived acts ots hears

-- ---- both ends

pub record Sound (format : ℕ) (here there : Acts) : Type 0 where
  pub good_here : Good format here
  pub good_there : Good format there
  pub hears_there : Hears format (taken_by (start 0 format) here) (arrived_in (start 0 format) here) there (taken_by (start 0 format) there)
  pub hears_here : Hears format (taken_by (start 0 format) there) (arrived_in (start 0 format) there) here (taken_by (start 0 format) here)

pub turned : (format : ℕ) (here there : Acts) → Sound format here there → Sound format there here
turned format here there sound = record { good_here = sound.good_there; good_there = sound.good_here; hears_there = sound.hears_here; hears_here = sound.hears_there }

pub sound_act : (format : ℕ) (here there : Acts) (act : Act) → Sound format here there → MayDo 0 format here (taken_by (start 0 format) here) act → IsHeard format there (taken_by (start 0 format) there) act → Sound format (more here act) there
sound_act format here there act sound may is =
    let ts = taken_by (start 0 format) here in
    let e = end_after (start 0 format) here in
    let grows = grown format here act sound.good_here may in
    record {
      good_here = good_act format here act sound.good_here may;
      good_there = sound.good_there;
      hears_there = hears_act format here ts (arrived_in (start 0 format) here) there (taken_by (start 0 format) there) e act (keeping format here sound.good_here).stands grows is sound.hears_there;
      hears_here = hears_later format _ _ here (more here act) ts (with_taken e act ts) grows sound.hears_here;
    }

hears_nothing : (format : ℕ) → Hears format [] [] none_yet []
unfolding has_arrived total_in
hears_nothing format = record { heard = tt; messages = tt; once = λ kind call. refl }

pub sound_start : (format : ℕ) → (format ≡ 1) ⊎ (format ≡ 2) → Sound format none_yet none_yet
sound_start format known = record {
  good_here = good_start format known;
  good_there = good_start format known;
  hears_there = hears_nothing format;
  hears_here = hears_nothing format;
}
