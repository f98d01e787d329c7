-- Along a talk of two quiet ends all that comes is taken.
use Rattle.std.proofs.Common.{◌≡◌, ◌⊎◌, ℕ, ◌^◌, ◌<◌, inl, inr, Bool, true, false, cond, ◌&&◌, eqb, List, [], ◌∷◌, Option, None, Some, Result, Ok, refl, sym, ap, subst, ◌∙◌, arith, eq-eqb}
use Rattle.circus_segment.specs.declared.fault.SegmentFault.{SegmentFault}
use Rattle.circus_segment.specs.Segment.{Piece, IsSegment, is_acknowledgement, reading, spelling}
use Rattle.circus_segment.specs.Cut.{segment_count}
use Rattle.circus_segment.proofs.Spellings.{read_again}
use Rattle.circus_exchange.specs.Exchange.{start, takes}
use Rattle.circus_pair.specs.Taken.{is_of, first_of, total_in, has_arrived, AreOf}
use Rattle.circus_pair.specs.Acts.{Act, Call, Return, Came, Tick, Stop, Acts, none_yet, more, end_after, taken_by}
use Rattle.circus_pair.specs.Handed.{call_at, return_at, agrees_with, fits_with}
use Rattle.circus_pair.specs.Lawful.{MayFollow}
use Rattle.circus_pair.specs.Saying.{IsSaid, IsOfSome}
use Rattle.circus_pair.specs.Sending.{is_sent}
use Rattle.circus_pair.specs.TwoEnds.{sent_by, handed_over, Talk, silent, at_first, at_second, acts_at_first, acts_at_second, WasSent, IsTalk}
use Rattle.circus_pair.proofs.Dialogue.{Sound, turned, sound_act, sound_start, are_of, found, is_part, Found}
use Rattle.circus_pair.proofs.Each.{Each, each_append, each_map, each_at}
use Rattle.circus_pair.proofs.OneEnd.{sent_stays}
use Rattle.circus_pair.proofs.Outputs.{taken_is}
use Rattle.circus_pair.proofs.Taking.{return_is}
use Rattle.circus_world_theory.specs.Coming.{came_in, IsUndisturbed}
use Rattle.circus_world_theory.proofs.Quiescence.Speaking.{OfSent, Speaks, speaks_act}

-- ---- an act keeps two ends sound

number_fits : (format : ℕ) (acts : Acts) (ots ts : List Piece) (call : ℕ) → Each (IsSaid 0 format acts ots) ts → has_arrived ts 0 call ≡ true → call < 2 ^ 32
number_fits format acts ots ts call each h = (let f = found (IsSaid 0 format acts ots) ts 0 call each h in subst (λ n. n < 2 ^ 32) f.part.call_is f.is.segment.call)

-- a datagram that comes says what the other end may say
said_of : (format : ℕ) (here there : Acts) (s : Piece) → Sound format here there → IsSegment s → WasSent (sent_by (start 0 format) there) (Came s) → IsSaid 0 format there (taken_by (start 0 format) there) s
said_of format here there s sound segment was =
    let tells = each_at _ (sent_by (start 0 format) there) was.0 (spelling s) sound.good_there.tells was.1 in
    let read : ◌≡◌ {A = Result Piece SegmentFault} (Ok tells.said) (Ok s) = sym (read_again tells.said tells.is.segment) ∙ ap reading (sym tells.bytes_are) ∙ read_again s segment in
    let same : tells.said ≡ s = cc in
    subst (IsSaid 0 format there (taken_by (start 0 format) there)) same tells.is

sound_own : (format : ℕ) (here there : Acts) (act : Act) → Sound format here there → MayFollow 0 format here act → WasSent (sent_by (start 0 format) there) act → Sound format (more here act) there
sound_own format here there (Return call message) sound may was =
    sound_act format here there (Return call message) sound (may.0, number_fits format there _ (taken_by (start 0 format) here) call sound.hears_there.heard may.1, may.1, may.2) tt
sound_own format here there (Came s) sound may was = sound_act format here there (Came s) sound may (said_of format here there s sound may was)
sound_own format here there act sound may was = sound_act format here there act sound may tt

-- ---- totals

total_cases : (o : Option ℕ) (b : Bool) (x n total : ℕ) → (o ≡ Some total → total ≡ n) → (b ≡ true → x ≡ n) → first_of o b x ≡ Some total → total ≡ n
total_cases None true x n total h k e = (let same : x ≡ total = cc in sym same ∙ k refl)
total_cases None false x n total h k e = absurd cc
total_cases (Some t) b x n total h k e = h e

-- the total of a message that was handed over
pub total_of_sent : (ts : List Piece) (kind call total : ℕ) (message : List ℕ) → AreOf kind call message ts → total_in ts kind call ≡ Some total → total ≡ segment_count message
unfolding total_in
total_of_sent [] kind call total message of_it e = absurd cc
total_of_sent (s ∷ ts) kind call total message of_it e =
    total_cases (total_in ts kind call) (is_of kind call s) s.total (segment_count message) total
    (total_of_sent ts kind call total message of_it.1) (λ h. (of_it.0 h).total) e

first_some : (o : Option ℕ) (b : Bool) (x total : ℕ) → first_of o b x ≡ Some total → (o ≡ Some total) ⊎ (b ≡ true)
first_some None true x total h = inr refl
first_some None false x total h = absurd cc
first_some (Some t) b x total h = inl h

-- a segment of a message that has a total
found_total : (P : Piece → Type 0) (ts : List Piece) (kind call total : ℕ) → Each P ts → total_in ts kind call ≡ Some total → Found P kind call
unfolding total_in
found_total P [] kind call total each h = absurd cc
found_total P (s ∷ ts) kind call total each h = elim (first_some (total_in ts kind call) (is_of kind call s) s.total total h) [
  | inl before ↦ found_total P ts kind call total each.1 before
  | inr here ↦ record { piece = s; part = is_part kind call s here; is = each.0 }
]

-- a message of which segments were taken was handed over, with its total
told_total : (format : ℕ) (acts : Acts) (ots ts : List Piece) (kind call total : ℕ) → Each (IsSaid 0 format acts ots) ts → total_in ts kind call ≡ Some total → agrees_with (handed_over 0 acts kind call) total ≡ true
told_total format acts ots ts kind call total each is = go (handed_over 0 acts kind call) refl some
  where
    one : Found (IsSaid 0 format acts ots) kind call
    one = found_total _ ts kind call total each is

    some : IsOfSome (handed_over 0 acts kind call) one.piece
    some = subst (λ k. IsOfSome (handed_over 0 acts k call) one.piece) one.part.kind_is (subst (λ c. IsOfSome (handed_over 0 acts one.piece.kind c) one.piece) one.part.call_is (one.is.speaks one.part.plain))

    go : (o : Option (List ℕ)) → handed_over 0 acts kind call ≡ o → IsOfSome o one.piece → agrees_with o total ≡ true
    go None handed of_it = absurd of_it
    go (Some m) handed of_it = eq-eqb (segment_count m) total (sym (total_of_sent ts kind call total m (are_of format acts ots ts kind call m handed each) is))

-- a segment has the total of those that were taken of its message
fits_total : (format : ℕ) (acts : Acts) (ots ts : List Piece) (s : Piece) → Each (IsSaid 0 format acts ots) ts → IsSaid 0 format acts ots s → is_acknowledgement s ≡ false → fits_with (total_in ts s.kind s.call) s.total ≡ true
fits_total format acts ots ts s each said plain = by_message (handed_over 0 acts s.kind s.call) refl (said.speaks plain)
  where
    by_total : (m : List ℕ) → handed_over 0 acts s.kind s.call ≡ Some m → s.total ≡ segment_count m → (o : Option ℕ) → total_in ts s.kind s.call ≡ o → fits_with o s.total ≡ true
    by_total m handed total None is = refl
    by_total m handed total (Some t) is = eq-eqb t s.total (total_of_sent ts s.kind s.call t m (are_of format acts ots ts s.kind s.call m handed each) is ∙ sym total)

    by_message : (o : Option (List ℕ)) → handed_over 0 acts s.kind s.call ≡ o → IsOfSome o s → fits_with (total_in ts s.kind s.call) s.total ≡ true
    by_message None handed of_it = absurd of_it
    by_message (Some m) handed of_it = by_total m handed of_it.total (total_in ts s.kind s.call) refl

-- ---- what comes is taken

both_are : (a b : Bool) → a ≡ true → b ≡ true → (a && b) ≡ true
both_are a b f g = ap (λ x. x && b) f ∙ g

-- a call of which a segment was taken there was sent
was_sent : (format : ℕ) (here : Acts) (ts : List Piece) (call : ℕ) → Found (OfSent format here) 0 call → is_sent (start 0 format) here call ≡ true
was_sent format here ts call f = subst (λ c. is_sent (start 0 format) here c ≡ true) f.part.call_is (f.is f.part.plain f.part.kind_is)

module _ (format : ℕ) (here there : Acts) (sound : Sound format here there) (of_here : Each (OfSent format here) (taken_by (start 0 format) there)) (s : Piece) (said : IsSaid 0 format there (taken_by (start 0 format) there) s) where
  kind_one : eqb s.kind 0 ≡ false → s.kind ≡ 1
  kind_one other = return_is s said.segment other

  by_acknowledgement : is_acknowledgement s ≡ true → agrees_with (handed_over 0 here s.kind s.call) s.total ≡ true
  by_acknowledgement ack = told_total format here _ (taken_by (start 0 format) there) s.kind s.call s.total sound.hears_here.heard (said.acknowledges ack).0

  sent_acknowledged : is_acknowledgement s ≡ true → s.kind ≡ 0 → is_sent (start 0 format) here s.call ≡ true
  sent_acknowledged ack kind =
      was_sent format here (taken_by (start 0 format) there) s.call
      (found_total (OfSent format here) (taken_by (start 0 format) there) 0 s.call s.total of_here (subst (λ k. total_in (taken_by (start 0 format) there) k s.call ≡ Some s.total) kind (said.acknowledges ack).0))

  sent_returned : is_acknowledgement s ≡ false → s.kind ≡ 1 → is_sent (start 0 format) here s.call ≡ true
  sent_returned plain kind =
      was_sent format here (taken_by (start 0 format) there) s.call
      (found (OfSent format here) (taken_by (start 0 format) there) 0 s.call of_here (said.answers plain kind))

  fits_here : is_acknowledgement s ≡ false → fits_with (total_in (taken_by (start 0 format) here) s.kind s.call) s.total ≡ true
  fits_here plain = fits_total format there _ (taken_by (start 0 format) here) s sound.hears_there.heard said plain

  by_control : (a : Bool) → is_acknowledgement s ≡ a → (k : Bool) → eqb s.kind 0 ≡ k
      → cond a (cond k (is_sent (start 0 format) here s.call && agrees_with (call_at 0 here s.call) s.total) (agrees_with (return_at here s.call) s.total))
      (cond k (fits_with (total_in (taken_by (start 0 format) here) s.kind s.call) s.total) (is_sent (start 0 format) here s.call && fits_with (total_in (taken_by (start 0 format) here) s.kind s.call) s.total)) ≡ true
  by_control true ack true call =
      both_are (is_sent (start 0 format) here s.call) _ (sent_acknowledged ack (eqb_is s.kind call))
      (ap (λ b. agrees_with (cond b (call_at 0 here s.call) (return_at here s.call)) s.total) (sym call) ∙ by_acknowledgement ack)
    where
      eqb_is : (n : ℕ) → eqb n 0 ≡ true → n ≡ 0
      eqb_is n h = grind arith
  by_control true ack false other = ap (λ b. agrees_with (cond b (call_at 0 here s.call) (return_at here s.call)) s.total) (sym other) ∙ by_acknowledgement ack
  by_control false plain true call = fits_here plain
  by_control false plain false other = both_are (is_sent (start 0 format) here s.call) _ (sent_returned plain (kind_one other)) (fits_here plain)

  pub comes_taken : takes (end_after (start 0 format) here) s ≡ true
  comes_taken =
      taken_is 0 format here s sound.good_here.lawful said.segment
      ∙ both_are (eqb s.format format) _ (eq-eqb s.format format said.format_is) (by_control (is_acknowledgement s) refl (eqb s.kind 0) refl)

-- ---- both ends

-- all that came was taken, and calls were sent before they were heard
pub record Joint (format : ℕ) (here there : Acts) : Type 0 where
  pub sound : Sound format here there
  pub speaks_here : Each (Speaks format here) (sent_by (start 0 format) here)
  pub speaks_there : Each (Speaks format there) (sent_by (start 0 format) there)
  pub took_here : taken_by (start 0 format) here ≡ came_in here
  pub took_there : taken_by (start 0 format) there ≡ came_in there
  pub of_here : Each (OfSent format here) (taken_by (start 0 format) there)
  pub of_there : Each (OfSent format there) (taken_by (start 0 format) here)

pub joint_turned : (format : ℕ) (here there : Acts) → Joint format here there → Joint format there here
joint_turned format here there joint = record {
  sound = turned format here there joint.sound;
  speaks_here = joint.speaks_there;
  speaks_there = joint.speaks_here;
  took_here = joint.took_there;
  took_there = joint.took_here;
  of_here = joint.of_there;
  of_there = joint.of_here;
}

of_later : (format : ℕ) (acts : Acts) (act : Act) (s : Piece) → OfSent format acts s → OfSent format (more acts act) s
of_later format acts act s of_it plain kind = sent_stays 0 format acts act s.call (of_it plain kind)

quiet_before : (acts : Acts) (act : Act) → IsUndisturbed (more acts act) → IsUndisturbed acts
quiet_before acts (Call message) quiet = quiet
quiet_before acts (Return call message) quiet = quiet
quiet_before acts (Came s) quiet = quiet
quiet_before acts Tick quiet = absurd quiet
quiet_before acts Stop quiet = absurd quiet

-- what was taken, and what it speaks of, behind an act
record Took (format : ℕ) (here there : Acts) : Type 0 where
  pub took : taken_by (start 0 format) here ≡ came_in here
  pub of : Each (OfSent format there) (taken_by (start 0 format) here)

took_act : (format : ℕ) (here there : Acts) (act : Act) → Joint format here there → MayFollow 0 format here act → WasSent (sent_by (start 0 format) there) act → Took format (more here act) there
took_act format here there (Came s) joint may was =
    let said = said_of format here there s joint.sound may was in
    let h : takes (end_after (start 0 format) here) s ≡ true = comes_taken format here there joint.sound joint.of_here s said in
    let list : cond (takes (end_after (start 0 format) here) s) (s ∷ taken_by (start 0 format) here) (taken_by (start 0 format) here) ≡ s ∷ taken_by (start 0 format) here = ap (λ b. cond b (s ∷ taken_by (start 0 format) here) (taken_by (start 0 format) here)) h in
    record {
      took = list ∙ ap (λ ts. s ∷ ts) joint.took_here;
      of = subst (Each (OfSent format there)) (sym list)
          (each_at (Speaks format there) (sent_by (start 0 format) there) was.0 (spelling s) joint.speaks_there was.1 s (read_again s may), joint.of_there);
    }
took_act format here there (Call message) joint may was = record { took = joint.took_here; of = joint.of_there }
took_act format here there (Return call message) joint may was = record { took = joint.took_here; of = joint.of_there }
took_act format here there Tick joint may was = record { took = joint.took_here; of = joint.of_there }
took_act format here there Stop joint may was = record { took = joint.took_here; of = joint.of_there }

joint_own : (format : ℕ) (here there : Acts) (act : Act) → Joint format here there → MayFollow 0 format here act → WasSent (sent_by (start 0 format) there) act → IsUndisturbed (more here act) → Joint format (more here act) there
joint_own format here there act joint may was quiet =
    let sound = sound_own format here there act joint.sound may was in
    let took = took_act format here there act joint may was in
    record {
      sound = sound;
      speaks_here = each_append _ _ _
          (each_map _ _ (sent_by (start 0 format) here) (λ bytes speaks s read. of_later format here act s (speaks s read)) joint.speaks_here)
          (speaks_act format here act sound.good_here quiet);
      speaks_there = joint.speaks_there;
      took_here = took.took;
      took_there = joint.took_there;
      of_here = each_map _ _ (taken_by (start 0 format) there) (λ s. of_later format here act s) joint.of_here;
      of_there = took.of;
    }

joint_start : (format : ℕ) → (format ≡ 1) ⊎ (format ≡ 2) → Joint format none_yet none_yet
joint_start format known = record { sound = sound_start format known; speaks_here = tt; speaks_there = tt; took_here = refl; took_there = refl; of_here = tt; of_there = tt }

pub joint_talk : (format : ℕ) (talk : Talk) → (format ≡ 1) ⊎ (format ≡ 2) → IsTalk format talk → IsUndisturbed (acts_at_first talk) → IsUndisturbed (acts_at_second talk) → Joint format (acts_at_first talk) (acts_at_second talk)
joint_talk format silent known is quiet also = joint_start format known
joint_talk format (at_first talk act) known is quiet also =
    joint_own format _ _ act (joint_talk format talk known is.0 (quiet_before (acts_at_first talk) act quiet) also) is.1 is.2 quiet
joint_talk format (at_second talk act) known is quiet also =
    joint_turned format _ _ (joint_own format _ _ act (joint_turned format _ _ (joint_talk format talk known is.0 quiet (quiet_before (acts_at_second talk) act also))) is.1 is.2 also)
