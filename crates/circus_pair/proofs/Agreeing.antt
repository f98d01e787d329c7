-- After every lawful list of acts two ends agree on what was sent, arrived and acknowledged.
use Rattle.std.proofs.Common.{◌≡◌, ℕ, ◌+◌, ◌^◌, ◌<◌, ◌≤◌, ◌⊎◌, inl, inr, Bool, true, false, cond, not, ◌&&◌, eqb, List, [], ◌∷◌, length, Option, None, Some, Result, Ok, Err, refl, sym, ap, subst, ◌∙◌, arith, eq-eqb}
use Rattle.std.specs.Prelude.{All, count_by, is_some, max, slice_get, OnOk}
use Rattle.std.specs.FinMap.{get}
use Rattle.std.proofs.lemmas.Bool.{eqb-true, eqb-false, ltb-true, cases_lt}
use Rattle.std.proofs.lemmas.List.Elements.{All-cons, All-nil}
use Rattle.circus_exchange.specs.declared.progress.Progress.{Progress}
use Rattle.circus_segment.specs.declared.fault.SegmentFault.{SegmentFault}
use Rattle.circus_exchange.specs.declared.taken.Arrived.{Arrived}
use Rattle.circus_pair.specs.declared.two_ends.TwoFault.{TwoFault}
use Rattle.circus_pair.specs.declared.two_ends.TwoFault.TheVariants.{NoSuch, Spent}
use Rattle.circus_pair.specs.declared.two_ends.Act.{Act}
use Rattle.circus_pair.specs.declared.two_ends.Act.TheVariants.{Call, Return, Deliver, Tick}
use Rattle.circus_segment.specs.Segment.{Piece, IsSegment, is_acknowledgement, reading, spelling}
use Rattle.circus_segment.specs.Cut.{segment_count}
use Rattle.circus_exchange.specs.Exchange.{start, IsSendable, awaits_return}
use Rattle.circus_pair.specs.Taken.{is_of, first_of, total_in, count_in, is_reached, has_arrived, AreOf}
use Rattle.circus_pair.specs.Acts.{Act as OneAct, Call as Calls, Return as Returns, Came, Tick as Ticks, Acts, more, taken_by, end_after}
use Rattle.circus_pair.specs.Handed.{calls_made, call_at, return_at, says, reached_in}
use Rattle.circus_pair.specs.TwoEnds.{History, begun, then_came, Arrival, Both, end_at, both_after, act_of_datagram, act_of_delivery, is_same, with_act, acts_of, sent_by, taken_at, arrived_at, arrived_in, handed_over, Agrees, Agree, Talk, silent, at_first, at_second, acts_at_first, acts_at_second, WasSent, IsTalk, MayHappen, IsLawfulHistory, CanBeSent, names_none, has_no_number}
use Rattle.circus_pair.specs.Lawful.{is_stopped_after, MayFollow, AreLawful}
use Rattle.circus_pair.proofs.Handing.{told_out, awaits_is}
use Rattle.circus_segment.proofs.Spellings.{read_again}
use Rattle.circus_pair.proofs.Growing.{count_le}
use Rattle.circus_pair.proofs.Each.{Each, each_at}
use Rattle.circus_pair.proofs.Sayings.{Tells, count_bounds}
use Rattle.circus_pair.specs.Saying.{IsSaid}
use Rattle.circus_pair.proofs.Speaking.{Fine}
use Rattle.circus_pair.proofs.Dialogue.{keeping, are_of, found, Sound, turned, sound_act, sound_start}

-- ---- every list of acts

-- the number of a call that has arrived
number_fits : (format : ℕ) (acts : Acts) (ots ts : List Piece) (call : ℕ) → Each (IsSaid 0 format acts ots) ts → has_arrived ts 0 call ≡ true → call < 2 ^ 32
number_fits format acts ots ts call each h = (let f = found (IsSaid 0 format acts ots) ts 0 call each h in subst (λ n. n < 2 ^ 32) f.part.call_is f.is.segment.call)

sound_return : (format : ℕ) (here there : Acts) (call : ℕ) (message : List ℕ) → Sound format here there → IsSendable format message × (has_arrived (taken_by (start 0 format) here) 0 call ≡ true) × (return_at here call ≡ None) → Sound format (more here (Returns call message)) there
sound_return format here there call message sound may =
    sound_act format here there (Returns call message) sound (may.0, number_fits format there _ (taken_by (start 0 format) here) call sound.hears_there.heard may.1, may.1, may.2) tt

sound_datagram : (format : ℕ) (here there : Acts) (bytes : List ℕ) → Sound format here there → Tells 0 format there (taken_by (start 0 format) there) bytes → Sound format (with_act here (act_of_datagram (reading bytes))) there
sound_datagram format here there bytes sound tells =
    let read : reading bytes ≡ Ok tells.said = ap reading tells.bytes_are ∙ read_again tells.said tells.is.segment in
    subst (λ (r : Result Piece SegmentFault). Sound format (with_act here (act_of_datagram r)) there) (sym read)
    (sound_act format here there (Came tells.said) sound tells.is.segment tells.is)

sound_delivered : (format : ℕ) (here there : Acts) (o : Option (List ℕ)) → Sound format here there → ((bytes : List ℕ) → o ≡ Some bytes → Tells 0 format there (taken_by (start 0 format) there) bytes) → Sound format (with_act here (act_of_delivery o)) there
sound_delivered format here there None sound tells = sound
sound_delivered format here there (Some bytes) sound tells = sound_datagram format here there bytes sound (tells bytes refl)

sound_deliver : (format : ℕ) (here there : Acts) (number : ℕ) → Sound format here there → Sound format (with_act here (act_of_delivery (slice_get (sent_by (start 0 format) there) number))) there
sound_deliver format here there number sound =
    sound_delivered format here there (slice_get (sent_by (start 0 format) there) number) sound
    (λ bytes is. each_at _ (sent_by (start 0 format) there) number bytes sound.good_there.tells is)

-- the ends that are put together are never stopped
up_delivered : (acts : Acts) (r : Result Piece SegmentFault) → is_stopped_after acts ≡ false → is_stopped_after (with_act acts (act_of_datagram r)) ≡ false
up_delivered acts (Ok s) up = up
up_delivered acts (Err fault) up = up

up_found : (acts : Acts) (o : Option (List ℕ)) → is_stopped_after acts ≡ false → is_stopped_after (with_act acts (act_of_delivery o)) ≡ false
up_found acts None up = up
up_found acts (Some bytes) up = up_delivered acts (reading bytes) up

up_chosen : (acts : Acts) (b : Bool) (o : Option OneAct) → is_stopped_after acts ≡ false → is_stopped_after (with_act acts o) ≡ false → is_stopped_after (with_act acts (cond b o None)) ≡ false
up_chosen acts true o up then_ = then_
up_chosen acts false o up then_ = up

up_after : (end : Bool) (format : ℕ) (history : History) → is_stopped_after (acts_of end format history) ≡ false
up_after end format begun = refl
up_after end format (then_came history (Call at message)) = up_chosen (acts_of end format history) (is_same end at) (Some (Calls message)) (up_after end format history) (up_after end format history)
up_after end format (then_came history (Return at call message)) = up_chosen (acts_of end format history) (is_same end at) (Some (Returns call message)) (up_after end format history) (up_after end format history)
up_after end format (then_came history (Deliver at number)) =
    up_chosen (acts_of end format history) (is_same end at) (act_of_delivery (slice_get (sent_by (start 0 format) (acts_of (not end) format history)) number)) (up_after end format history)
    (up_found (acts_of end format history) (slice_get (sent_by (start 0 format) (acts_of (not end) format history)) number) (up_after end format history))
up_after end format (then_came history (Tick at)) = up_chosen (acts_of end format history) (is_same end at) (Some Ticks) (up_after end format history) (up_after end format history)

sound_own : (format : ℕ) (here there : Acts) (act : OneAct) → Sound format here there → MayFollow 0 format here act → WasSent (sent_by (start 0 format) there) act → Sound format (more here act) there
sound_own format here there (Returns call message) sound may was = sound_return format here there call message sound may
sound_own format here there (Came s) sound may was =
    let tells = each_at _ (sent_by (start 0 format) there) was.0 (spelling s) sound.good_there.tells was.1 in
    let read : ◌≡◌ {A = Result Piece SegmentFault} (Ok tells.said) (Ok s) = sym (read_again tells.said tells.is.segment) ∙ ap reading (sym tells.bytes_are) ∙ read_again s may in
    let same : tells.said ≡ s = cc in
    sound_act format here there (Came s) sound may (subst (IsSaid 0 format there (taken_by (start 0 format) there)) same tells.is)
sound_own format here there act sound may was = sound_act format here there act sound may tt

sound_talk : (format : ℕ) (talk : Talk) → (format ≡ 1) ⊎ (format ≡ 2) → IsTalk format talk → Sound format (acts_at_first talk) (acts_at_second talk)
sound_talk format silent known is = sound_start format known
sound_talk format (at_first talk act) known is = sound_own format _ _ act (sound_talk format talk known is.0) is.1 is.2
sound_talk format (at_second talk act) known is = turned format _ _ (sound_own format _ _ act (turned format _ _ (sound_talk format talk known is.0)) is.1 is.2)

sound_call : (format : ℕ) (here there : Acts) (message : List ℕ) → is_stopped_after here ≡ false → Sound format here there → IsSendable format message × (calls_made here < 4294967295) → Sound format (more here (Calls message)) there
sound_call format here there message up sound may = (let low : calls_made here < 4294967295 = may.1 in sound_act format here there (Calls message) sound (may.0, omega arith, up) tt)

sound_tick : (format : ℕ) (here there : Acts) → is_stopped_after here ≡ false → Sound format here there → Sound format (more here Ticks) there
sound_tick format here there up sound = sound_act format here there Ticks sound up tt

sound_after : (format : ℕ) (history : History) → (format ≡ 1) ⊎ (format ≡ 2) → IsLawfulHistory format history → Sound format (acts_of false format history) (acts_of true format history)
sound_after format begun known lawful = sound_start format known
sound_after format (then_came history (Call false message)) known lawful = sound_call format _ _ message (up_after false format history) (sound_after format history known lawful.0) lawful.1
sound_after format (then_came history (Call true message)) known lawful = turned format _ _ (sound_call format _ _ message (up_after true format history) (turned format _ _ (sound_after format history known lawful.0)) lawful.1)
sound_after format (then_came history (Return false call message)) known lawful = sound_return format _ _ call message (sound_after format history known lawful.0) lawful.1
sound_after format (then_came history (Return true call message)) known lawful = turned format _ _ (sound_return format _ _ call message (turned format _ _ (sound_after format history known lawful.0)) lawful.1)
sound_after format (then_came history (Deliver false number)) known lawful = sound_deliver format _ _ number (sound_after format history known lawful.0)
sound_after format (then_came history (Deliver true number)) known lawful = turned format _ _ (sound_deliver format _ _ number (turned format _ _ (sound_after format history known lawful.0)))
sound_after format (then_came history (Tick false)) known lawful = sound_tick format _ _ (up_after false format history) (sound_after format history known lawful.0)
sound_after format (then_came history (Tick true)) known lawful = turned format _ _ (sound_tick format _ _ (up_after true format history) (turned format _ _ (sound_after format history known lawful.0)))

-- what holds of two ends seen from either holds of each of them
turned_after : (format : ℕ) (history : History) → (format ≡ 1) ⊎ (format ≡ 2) → IsLawfulHistory format history → Sound format (acts_of true format history) (acts_of false format history)
turned_after format history known lawful = turned format _ _ (sound_after format history known lawful)

-- ---- what happens at each of them

pub low_lawful : (format : ℕ) (history : History) → (format ≡ 1) ⊎ (format ≡ 2) → IsLawfulHistory format history → AreLawful 0 format (acts_of false format history)
low_lawful format history known lawful = (sound_after format history known lawful).good_here.lawful

pub high_lawful : (format : ℕ) (history : History) → (format ≡ 1) ⊎ (format ≡ 2) → IsLawfulHistory format history → AreLawful 0 format (acts_of true format history)
high_lawful format history known lawful = (sound_after format history known lawful).good_there.lawful

-- ---- what is sent

read_of : (format : ℕ) (here there : Acts) → Sound format here there → (number : ℕ) (datagram : List ℕ) → slice_get (sent_by (start 0 format) here) number ≡ Some datagram → (s : Piece) × (reading datagram ≡ Ok s) × IsSegment s × (s.format ≡ format)
read_of format here there sound number datagram is =
    let tells = each_at (Tells 0 format here (taken_by (start 0 format) here)) (sent_by (start 0 format) here) number datagram sound.good_here.tells is in
    (tells.said, ap reading tells.bytes_are ∙ read_again tells.said tells.is.segment, tells.is.segment, tells.is.format_is)

pub datagrams_read : (format : ℕ) (history : History) (end : Bool) (number : ℕ) (datagram : List ℕ) → (format ≡ 1) ⊎ (format ≡ 2) → IsLawfulHistory format history → slice_get (sent_by (start 0 format) (acts_of end format history)) number ≡ Some datagram → (s : Piece) × (reading datagram ≡ Ok s) × IsSegment s × (s.format ≡ format)
datagrams_read format history false number datagram known lawful = read_of format _ _ (sound_after format history known lawful) number datagram
datagrams_read format history true number datagram known lawful = read_of format _ _ (turned_after format history known lawful) number datagram

-- ---- what arrives

pub arrived_once : (format : ℕ) (history : History) (end : Bool) (kind call : ℕ) → (format ≡ 1) ⊎ (format ≡ 2) → IsLawfulHistory format history → count_by (λ (a : Arrival). eqb a.kind kind && eqb a.call call) (arrived_at end format history) ≡ cond (has_arrived (taken_at end format history) kind call) 1 0
arrived_once format history false kind call known lawful = (sound_after format history known lawful).hears_there.once kind call
arrived_once format history true kind call known lawful = (turned_after format history known lawful).hears_there.once kind call

each_all : {X : Type 0} (P : X → Type 0) (xs : List X) → Each P xs → All P xs
each_all P [] each = All-nil P
each_all P (x ∷ xs) each = All-cons P x xs each.0 (each_all P xs each.1)

-- ---- what is acknowledged

-- a segment that says so
record Says (P : Piece → Type 0) (kind call total n : ℕ) : Type 0 where
  pub piece : Piece
  pub is : P piece
  pub most : n ≤ says piece kind call total

said_by : (P : Piece → Type 0) (ts : List Piece) (kind call total n : ℕ) → Each P ts → 0 < n → n ≤ reached_in ts kind call total → Says P kind call total n
unfolding reached_in
said_by P [] kind call total n each some le = absurd (omega arith)
said_by P (s ∷ ts) kind call total n each some le = elim (larger (says s kind call total) (reached_in ts kind call total) n le) [
  | inl here ↦ record { piece = s; is = each.0; most = here }
  | inr before ↦ said_by P ts kind call total n each.1 some before
]
  where
    larger : (a b k : ℕ) → k ≤ max a b → (k ≤ a) ⊎ (k ≤ b)
    larger a b k h = elim (cases_lt a b) [ inl less ↦ inr (omega arith) | inr more_ ↦ inl (omega arith) ]

chosen_some : (b : Bool) (x n : ℕ) → 0 < n → n ≤ cond b x 0 → (b ≡ true) × (n ≤ x)
chosen_some true x n some le = (refl, le)
chosen_some false x n some le = absurd (omega arith)

both_true : (a b : Bool) → (a && b) ≡ true → (a ≡ true) × (b ≡ true)
both_true true b h = (refl, h)
both_true false b h = absurd cc

total_cases : (o : Option ℕ) (b : Bool) (x n total : ℕ) → (o ≡ Some total → total ≡ n) → (b ≡ true → x ≡ n) → first_of o b x ≡ Some total → total ≡ n
total_cases None true x n total h k e = (let same : x ≡ total = cc in sym same ∙ k refl)
total_cases None false x n total h k e = absurd cc
total_cases (Some t) b x n total h k e = h e

total_of_sent : (ts : List Piece) (kind call total : ℕ) (message : List ℕ) → AreOf kind call message ts → total_in ts kind call ≡ Some total → total ≡ segment_count message
unfolding total_in
total_of_sent [] kind call total message of_it e = absurd cc
total_of_sent (s ∷ ts) kind call total message of_it e =
    total_cases (total_in ts kind call) (is_of kind call s) s.total (segment_count message) total
    (total_of_sent ts kind call total message of_it.1) (λ h. (of_it.0 h).total) e

whole_there : (ts : List Piece) (kind call total : ℕ) → total_in ts kind call ≡ Some total → total ≤ count_in ts kind call total → has_arrived ts kind call ≡ true
unfolding has_arrived
whole_there ts kind call total is le =
    (let most : count_in ts kind call total ≤ total = count_le ts kind call total in
    ap (λ o. is_reached o (count_in ts kind call)) is ∙ eq-eqb (count_in ts kind call total) total (omega arith))

-- an acknowledgement of the last segment
acknowledged_whole : (format : ℕ) (here there : Acts) (tsh tst : List Piece) (kind call : ℕ) (m : List ℕ) (s : Piece) → 0 < segment_count m → handed_over 0 here kind call ≡ Some m → Each (IsSaid 0 format here tsh) tst → IsSaid 0 format there tst s → is_acknowledgement s ≡ true → segment_count m ≤ cond (eqb s.kind kind && eqb s.call call) s.number 0 → has_arrived tst kind call ≡ true
acknowledged_whole format here there tsh tst kind call m s some handed heard said ack le =
    let key = chosen_some (eqb s.kind kind && eqb s.call call) s.number (segment_count m) some le in
    let keys = both_true (eqb s.kind kind) _ key.0 in
    let same_kind : s.kind ≡ kind = eqb-true s.kind kind keys.0 in
    let same_call : s.call ≡ call = eqb-true s.call call keys.1 in
    let told_so = said.acknowledges ack in
    let total : total_in tst kind call ≡ Some s.total = subst (λ k. total_in tst k call ≡ Some s.total) same_kind (subst (λ n. total_in tst s.kind n ≡ Some s.total) same_call told_so.0) in
    let counted : s.number ≤ count_in tst kind call s.total = subst (λ k. s.number ≤ count_in tst k call s.total) same_kind (subst (λ n. s.number ≤ count_in tst s.kind n s.total) same_call told_so.1) in
    let count : s.total ≡ segment_count m = total_of_sent tst kind call s.total m (are_of format here tsh tst kind call m handed heard) total in
    let all : segment_count m ≤ s.number = key.1 in
    whole_there tst kind call s.total total (omega arith)

-- a segment of the return
answered_whole : (format : ℕ) (there : Acts) (tst : List Piece) (kind call total : ℕ) (s : Piece) → 0 < total → IsSaid 0 format there tst s → is_acknowledgement s ≡ false → total ≤ cond (eqb kind 0 && (eqb s.kind 1 && eqb s.call call)) total 0 → has_arrived tst kind call ≡ true
answered_whole format there tst kind call total s some said plain le =
    let key = chosen_some (eqb kind 0 && (eqb s.kind 1 && eqb s.call call)) total total some le in
    let keys = both_true (eqb kind 0) _ key.0 in
    let more_keys = both_true (eqb s.kind 1) _ keys.1 in
    subst (λ k. has_arrived tst k call ≡ true) (sym (eqb-true kind 0 keys.0))
    (subst (λ n. has_arrived tst 0 n ≡ true) (eqb-true s.call call more_keys.1) (said.answers plain (eqb-true s.kind 1 more_keys.0)))

some_segments : (format : ℕ) (acts : Acts) (ts : List Piece) (kind call : ℕ) (m : List ℕ) → Fine 0 format acts ts → handed_over 0 acts kind call ≡ Some m → 0 < segment_count m
some_segments format acts ts kind call m fine handed =
    (let sendable : IsSendable format m = (elim (eqb kind 0) as (λ b. cond b (call_at 0 acts call) (return_at acts call) ≡ Some m → IsSendable format m) [ true ↦ λ h. (fine.calls call m h).0 | false ↦ λ h. (fine.returns call m h).0 ]) handed in
    (count_bounds (length m) _ (segment_count m) refl sendable.0 sendable.1).0)

acknowledged_of : (format : ℕ) (here there : Acts) → Sound format here there → (kind call : ℕ) (m : List ℕ) → handed_over 0 here kind call ≡ Some m → reached_in (taken_by (start 0 format) here) kind call (segment_count m) ≡ segment_count m → has_arrived (taken_by (start 0 format) there) kind call ≡ true
acknowledged_of format here there sound kind call m handed reached =
    let tsh = taken_by (start 0 format) here in
    let tst = taken_by (start 0 format) there in
    let some = some_segments format here tsh kind call m sound.good_here.fine handed in
    let s = said_by (IsSaid 0 format there tst) tsh kind call (segment_count m) (segment_count m) sound.hears_there.heard some (let e : reached_in tsh kind call (segment_count m) ≡ segment_count m = reached in omega arith) in
    elim (is_acknowledgement s.piece) as (λ b. is_acknowledgement s.piece ≡ b → segment_count m ≤ cond b (cond (eqb s.piece.kind kind && eqb s.piece.call call) s.piece.number 0) (cond (eqb kind 0 && (eqb s.piece.kind 1 && eqb s.piece.call call)) (segment_count m) 0) → has_arrived tst kind call ≡ true) [
      | true ↦ λ ack le. acknowledged_whole format here there tsh tst kind call m s.piece some handed sound.hears_here.heard s.is ack le
      | false ↦ λ plain le. answered_whole format there tst kind call (segment_count m) s.piece some s.is plain le
    ] refl s.most

-- ---- both together

agrees_of : (format : ℕ) (here there : Acts) → Sound format here there → Agrees format here there
agrees_of format here there sound = record {
  once = λ kind call. subst (λ n. n ≤ 1) (sym (sound.hears_there.once kind call)) (one_most (has_arrived (taken_by (start 0 format) here) kind call));
  sent = each_all _ (arrived_in (start 0 format) here) sound.hears_there.messages;
  acknowledged = acknowledged_of format here there sound;
}
  where
    one_most : (b : Bool) → cond b 1 0 ≤ 1
    one_most true = omega arith
    one_most false = omega arith

agree_of : (format : ℕ) (here there : Acts) → Sound format here there → Agree format here there
agree_of format here there sound = (agrees_of format here there sound, agrees_of format there here (turned format here there sound))

pub talk_agrees : (format : ℕ) (talk : Talk) → (format ≡ 1) ⊎ (format ≡ 2) → IsTalk format talk → Agree format (acts_at_first talk) (acts_at_second talk)
talk_agrees format talk known is = agree_of format _ _ (sound_talk format talk known is)

pub agree_more : (r : Result Arrived TwoFault) (format : ℕ) (history : History) (act : Act) → (format ≡ 1) ⊎ (format ≡ 2) → OnOk r (IsLawfulHistory format (then_came history act)) → OnOk r (Agree format (acts_of false format (then_came history act)) (acts_of true format (then_came history act)))
agree_more (Ok x) format history act known lawful = agree_of format _ _ (sound_after format (then_came history act) known lawful)
agree_more (Err fault) format history act known lawful = tt

-- ---- what an end keeps of it

-- progress that is whole says so
progress_whole : (o : Option (List ℕ)) (c : ℕ → ℕ) (p : Progress) → told_out o c ≡ Some p → p.count ≡ p.total → (m : List ℕ) × (o ≡ Some m) × (c (segment_count m) ≡ segment_count m)
progress_whole None c p is whole = absurd cc
progress_whole (Some m) c p is whole =
    (let same : record { total = segment_count m; count = c (segment_count m) } ≡ p = cc in
    (m, refl, ap (λ (x : Progress). x.count) same ∙ whole ∙ sym (ap (λ (x : Progress). x.total) same)))

kept_of : (format : ℕ) (here there : Acts) → Sound format here there → (kind call : ℕ) (p : Progress) → told_out (handed_over 0 here kind call) (reached_in (taken_by (start 0 format) here) kind call) ≡ Some p → p.count ≡ p.total → has_arrived (taken_by (start 0 format) there) kind call ≡ true
kept_of format here there sound kind call p is whole =
    (let so = progress_whole (handed_over 0 here kind call) (reached_in (taken_by (start 0 format) here) kind call) p is whole in
    acknowledged_of format here there sound kind call so.0 so.1 so.2)

call_kept_of : (format : ℕ) (here there : Acts) → Sound format here there → (call : ℕ) (p : Progress) → get (end_after (start 0 format) here).calls.progress call ≡ Some p → p.count ≡ p.total → has_arrived (taken_by (start 0 format) there) 0 call ≡ true
call_kept_of format here there sound call p is = kept_of format here there sound 0 call p (sym ((keeping format here sound.good_here).hands.calls call) ∙ is)

return_kept_of : (format : ℕ) (here there : Acts) → Sound format here there → (call : ℕ) (p : Progress) → get (end_after (start 0 format) here).returns.progress call ≡ Some p → p.count ≡ p.total → has_arrived (taken_by (start 0 format) there) 1 call ≡ true
return_kept_of format here there sound call p is = kept_of format here there sound 1 call p (sym ((keeping format here sound.good_here).hands.returns call) ∙ is)

pub call_kept : (format : ℕ) (history : History) (end : Bool) (call : ℕ) (p : Progress) → (format ≡ 1) ⊎ (format ≡ 2) → IsLawfulHistory format history → get (end_at (both_after format history) end).exchange.calls.progress call ≡ Some p → p.count ≡ p.total → has_arrived (taken_at (not end) format history) 0 call ≡ true
call_kept format history false call p known lawful = call_kept_of format _ _ (sound_after format history known lawful) call p
call_kept format history true call p known lawful = call_kept_of format _ _ (turned_after format history known lawful) call p

pub return_kept : (format : ℕ) (history : History) (end : Bool) (call : ℕ) (p : Progress) → (format ≡ 1) ⊎ (format ≡ 2) → IsLawfulHistory format history → get (end_at (both_after format history) end).exchange.returns.progress call ≡ Some p → p.count ≡ p.total → has_arrived (taken_at (not end) format history) 1 call ≡ true
return_kept format history false call p known lawful = return_kept_of format _ _ (sound_after format history known lawful) call p
return_kept format history true call p known lawful = return_kept_of format _ _ (turned_after format history known lawful) call p

-- ---- which returns may follow

awaits_of : (format : ℕ) (here there : Acts) → Sound format here there → (call : ℕ) → awaits_return (end_after (start 0 format) here) call ≡ (has_arrived (taken_by (start 0 format) here) 0 call && not (is_some (return_at here call)))
awaits_of format here there sound call = (let k = keeping format here sound.good_here in awaits_is 0 here _ _ call k.stands k.hands)

-- ---- an act that happens might come

not_false : (b : Bool) → not b ≡ false → b ≡ true
not_false true h = refl
not_false false h = absurd cc

nothing_there : (o : Option (List ℕ)) → not (is_some o) ≡ true → o ≡ None
nothing_there None h = refl
nothing_there (Some m) h = absurd cc

may_call : (format : ℕ) (here there : Acts) (message : List ℕ) → Sound format here there → IsSendable (end_after (start 0 format) here).format message → eqb (end_after (start 0 format) here).next 4294967295 ≡ false → IsSendable format message × (calls_made here < 4294967295)
may_call format here there message sound sendable left =
    let k = keeping format here sound.good_here in
    let next : (end_after (start 0 format) here).next ≡ 0 + calls_made here = k.hands.next in
    let few : calls_made here ≤ 4294967295 = sound.good_here.few in
    let ne : (end_after (start 0 format) here).next ≡ 4294967295 → ⊥ = eqb-false (end_after (start 0 format) here).next 4294967295 left in
    (subst (λ f. IsSendable f message) k.format_is sendable, below (end_after (start 0 format) here).next (calls_made here) next few ne)
  where
    below : (n m : ℕ) → n ≡ 0 + m → m ≤ 4294967295 → (n ≡ 4294967295 → ⊥) → m < 4294967295
    below n m is le ne = omega arith

may_return : (format : ℕ) (here there : Acts) (call : ℕ) (message : List ℕ) → Sound format here there → IsSendable (end_after (start 0 format) here).format message → not (awaits_return (end_after (start 0 format) here) call) ≡ false → IsSendable format message × (has_arrived (taken_by (start 0 format) here) 0 call ≡ true) × (return_at here call ≡ None)
may_return format here there call message sound sendable awaits =
    let k = keeping format here sound.good_here in
    let both = both_true (has_arrived (taken_by (start 0 format) here) 0 call) _ (sym (awaits_of format here there sound call) ∙ not_false _ awaits) in
    (subst (λ f. IsSendable f message) k.format_is sendable, both.0, nothing_there _ both.1)

may_follow : (format : ℕ) (history : History) (act : Act) → (format ≡ 1) ⊎ (format ≡ 2) → IsLawfulHistory format history → CanBeSent (both_after format history) act → names_none (both_after format history) act ≡ false → has_no_number (both_after format history) act ≡ false → MayHappen format history act
may_follow format history (Call false message) known lawful sendable such left = may_call format _ _ message (sound_after format history known lawful) sendable left
may_follow format history (Call true message) known lawful sendable such left = may_call format _ _ message (turned_after format history known lawful) sendable left
may_follow format history (Return false call message) known lawful sendable such left = may_return format _ _ call message (sound_after format history known lawful) sendable such
may_follow format history (Return true call message) known lawful sendable such left = may_return format _ _ call message (turned_after format history known lawful) sendable such
may_follow format history (Deliver false number) known lawful sendable such left = ltb-true number _ (not_false _ such)
may_follow format history (Deliver true number) known lawful sendable such left = ltb-true number _ (not_false _ such)
may_follow format history (Tick at) known lawful sendable such left = tt

no_fault : (b : Bool) (x : Arrived) (fault : TwoFault) → (b ≡ true → ◌≡◌ {A = Result Arrived TwoFault} (Ok x) (Err fault)) → b ≡ false
no_fault true x fault h = (let e : ◌≡◌ {A = Result Arrived TwoFault} (Ok x) (Err fault) = h refl in absurd cc)
no_fault false x fault h = refl

pub lawful_more : (r : Result Arrived TwoFault) (old : Both) (act : Act) → CanBeSent old act → (names_none old act ≡ true → r ≡ Err NoSuch) → (has_no_number old act ≡ true → r ≡ Err Spent) → (format : ℕ) (history : History) → (format ≡ 1) ⊎ (format ≡ 2) → IsLawfulHistory format history → old ≡ both_after format history → OnOk r (IsLawfulHistory format (then_came history act))
lawful_more (Err fault) old act sendable such left format history known lawful stands = tt
lawful_more (Ok x) old act sendable such left format history known lawful stands = (
  lawful,
  may_follow format history act known lawful
      (subst (λ both. CanBeSent both act) stands sendable)
      (ap (λ both. names_none both act) (sym stands) ∙ no_fault (names_none old act) x NoSuch such)
      (ap (λ both. has_no_number both act) (sym stands) ∙ no_fault (has_no_number old act) x Spent left),
)
