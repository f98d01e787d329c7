-- In a step runs may start one after the other, and no others.
use Rattle.std.proofs.Common.{◌≡◌, ℕ, zero, suc, ◌+◌, ◌<◌, ◌≤◌, ◌⊎◌, inl, inr, Bool, true, false, ◌&&◌, if◌then◌else◌, List, [], ◌∷◌, ◌++◌, length, All, Option, None, Some, refl, sym, ap, subst, ◌∙◌, arith, append_assoc, append-nil, length-append}
use Rattle.std.specs.Prelude.{slice_get, nat_le, unwrap_or}
use Rattle.std.specs.Option.{option_map_or}
use Rattle.std.proofs.lemmas.Bool.{cases_lt, lt-leb}
use Rattle.std.proofs.lemmas.List.Elements.{All-nil, All-cons, All-head, All-tail}
use Rattle.std.proofs.lemmas.Option.{same_Some}
use Rattle.circus_collate.specs.declared.view.View.{View}
use Rattle.circus_transfer.specs.declared.joiner.Joiner.{Joiner}
use Rattle.circus_model.specs.declared.signature.ProcedureShape.{ProcedureShape}
use Rattle.circus_record.specs.declared.record.MemberRecord.{MemberRecord}
use Rattle.circus_record.specs.declared.record.RunRecord.{RunRecord}
use Rattle.circus_performing.specs.Performing.{is_active, last_count}
use Rattle.circus_member_rules.specs.declared.place.Place.{Place}
use Rattle.circus_member_theory.specs.Past.{Past, now, phase}
use Rattle.circus_member_theory.specs.Timely.{collated_call, has_ended, is_free_for, may_start}
use Rattle.circus_dues.specs.Walk.{IsLater, IsBy, RunOneByOne, StartsInStep, StartOnward}
use Rattle.circus_dues.proofs.WalkRuns.{run_rises}

-- ---- lists

pub get_behind : {X : Type 0} (xs ys : List X) (n : ℕ) → slice_get (xs ++ ys) (length xs + n) ≡ slice_get ys n
get_behind [] ys n = (let same : 0 + n ≡ n = omega arith in ap (slice_get ys) same)
get_behind (x ∷ xs) ys n = (let same : length (x ∷ xs) + n ≡ suc (length xs + n) = omega arith in ap (slice_get (x ∷ xs ++ ys)) same ∙ get_behind xs ys n)

pub all_at : {X : Type 0} (P : X → Type 0) (xs : List X) (n : ℕ) (x : X) → All P xs → slice_get xs n ≡ Some x → P x
all_at {X} P [] n x all is = absurd (let clash : ◌≡◌ {A = Option X} None (Some x) = is in cc)
all_at P (y ∷ xs) zero x all is = subst P (same_Some y x is) (All-head P y xs all)
all_at P (y ∷ xs) (suc n) x all is = all_at P xs n x (All-tail P y xs all) is

-- ---- by a step or later

pub by_or_later : (step : ℕ) (o : Option ℕ) → IsBy step o ⊎ IsLater step o
by_or_later step None = inr tt
by_or_later step (Some n) = elim (cases_lt step n) [ inl late ↦ inr late | inr early ↦ inl early ]

-- ---- runs behind others

pub one_by_one_behind : (from : ℕ) (front rest : List RunRecord) → RunOneByOne from (front ++ rest) → (k : ℕ) × RunOneByOne k rest
one_by_one_behind from [] rest so = (from, so)
one_by_one_behind from (run ∷ front) rest so = one_by_one_behind (unwrap_or run.ended run.started) front rest so.3

-- they are started later than a step, and end later, or never
pub record IsLate (step : ℕ) (run : RunRecord) : Type 0 where
  pub started_later : step < run.started
  pub ended_later : IsLater step run.ended

late_all : (step from : ℕ) (runs : List RunRecord) → RunOneByOne from runs → step < from → All (IsLate step) runs
late_all step from [] so late = All-nil (IsLate step)
late_all step from (run ∷ runs) so late =
    let low = so.0 in
    let on = run_rises run so.1 in
    All-cons (IsLate step) run runs (record { started_later = omega (arith, low, late); ended_later = by_end run.ended on (omega (arith, low, late)) })
    (late_all step (unwrap_or run.ended run.started) runs so.3 (omega (arith, low, late, on)))
  where
    by_end : (o : Option ℕ) → run.started ≤ unwrap_or o run.started → step < run.started → IsLater step o
    by_end None high low = tt
    by_end (Some n) high low = omega (arith, high, low)

pub late_behind : (step from : ℕ) (run : RunRecord) (rest : List RunRecord) → RunOneByOne from (run ∷ rest) → IsLater step run.ended → All (IsLate step) rest
late_behind step from run rest so late = by_end run.ended refl late
  where
    by_end : (o : Option ℕ) → run.ended ≡ o → IsLater step o → All (IsLate step) rest
    by_end None is later = subst (All (IsLate step)) (sym (so.2 is)) (All-nil (IsLate step))
    by_end (Some n) is later = late_all step n rest (subst (λ o. RunOneByOne (unwrap_or o run.started) rest) is so.3) later

module _ (place : Place) (boot : List View) (begins : Joiner) (procedures : List ProcedureShape) (at_boot : ℕ) (kept : MemberRecord) (p : Past) where
  none_where : {X : Type 0} (a c : Bool) (x : Option X) → (if a && false && c then x else None) ≡ None
  none_where true c x = refl
  none_where false c x = refl

  not_free : (number : ℕ) → is_free_for place boot begins kept number p ≡ false → may_start place boot begins kept number p ≡ None
  not_free number free =
      ap (λ t. if is_active (phase begins p) && t && nat_le (kept.from + number) last_count then collated_call place boot begins (kept.from + number) p else None) free
      ∙ none_where (is_active (phase begins p)) (nat_le (kept.from + number) last_count) (collated_call place boot begins (kept.from + number) p)

  not_by : (o : Option ℕ) → IsLater (now p) o → option_map_or (λ step. nat_le step (now p)) o false ≡ false
  not_by None later = refl
  not_by (Some n) later = lt-leb n (now p) later

  -- behind a run that ends later none may start
  pub blocked : (front : List RunRecord) (run : RunRecord) (rest : List RunRecord) → kept.runs ≡ front ++ run ∷ rest → All (IsLate (now p)) rest → IsLater (now p) run.ended
      → (n : ℕ) → may_start place boot begins kept (suc (length front + n)) p ≡ None
  blocked front run rest are late still n = not_free (suc (length front + n)) (by_slot (slice_get kept.runs (length front + n)) refl)
    where
      there : slice_get kept.runs (length front + n) ≡ slice_get (run ∷ rest) n
      there = ap (λ l. slice_get l (length front + n)) are ∙ get_behind front (run ∷ rest) n

      late_end : (n : ℕ) (r : RunRecord) → slice_get (run ∷ rest) n ≡ Some r → IsLater (now p) r.ended
      late_end zero r is = subst (λ (x : RunRecord). IsLater (now p) x.ended) (same_Some run r is) still
      late_end (suc n) r is = (all_at (IsLate (now p)) rest n r late is).ended_later

      by_slot : (o : Option RunRecord) → slice_get kept.runs (length front + n) ≡ o → option_map_or (λ r. has_ended place boot begins r p) (slice_get kept.runs (length front + n)) false ≡ false
      by_slot None is = ap (λ o. option_map_or (λ r. has_ended place boot begins r p) o false) is
      by_slot (Some r) is = ap (λ o. option_map_or (λ r. has_ended place boot begins r p) o false) is ∙ not_by r.ended (late_end n r (sym there ∙ is))

  -- nor behind the run that would be the last
  pub none_further : (n : ℕ) → may_start place boot begins kept (suc (length kept.runs + n)) p ≡ None
  none_further n =
      not_free (suc (length kept.runs + n))
      (ap (λ o. option_map_or (λ r. has_ended place boot begins r p) o false)
      (ap (λ l. slice_get l (length kept.runs + n)) (sym (append-nil kept.runs)) ∙ get_behind kept.runs [] n))

  -- ---- the walk

  -- what IsTimelyStep says of starts, of the runs behind others
  pub record StartBehind (front rest : List RunRecord) : Type 0 where
    pub starts : (n : ℕ) (run : RunRecord) → slice_get rest n ≡ Some run → StartsInStep place boot begins procedures at_boot kept p (length front + n) run
    pub no_more : may_start place boot begins kept (length kept.runs) p ≡ None

  longer : (front : List RunRecord) (run : RunRecord) → length (front ++ run ∷ []) ≡ suc (length front)
  longer front run = let long = length-append front (run ∷ []) in omega (arith, long)

  further : (front : List RunRecord) (run : RunRecord) (n : ℕ) → length (front ++ run ∷ []) + n ≡ length front + suc n
  further front run n = let long = length-append front (run ∷ []) in omega (arith, long)

  pub walk_starts : (front rest : List RunRecord) → kept.runs ≡ front ++ rest → StartBehind front rest → StartOnward place boot begins procedures at_boot kept p (length front) rest
  walk_starts front [] are so = ap (λ l. may_start place boot begins kept (length l) p) (sym (are ∙ append-nil front)) ∙ so.no_more
  walk_starts front (run ∷ rest) are so =
      let none : length front + 0 ≡ length front = omega arith in (
        subst (λ n. StartsInStep place boot begins procedures at_boot kept p n run) none (so.starts 0 run refl),
        λ ended. subst (λ n. StartOnward place boot begins procedures at_boot kept p n rest) (longer front run)
            (walk_starts (front ++ run ∷ []) rest (are ∙ sym (append_assoc front (run ∷ []) rest))
            (record {
              starts = λ n r there. subst (λ k. StartsInStep place boot begins procedures at_boot kept p k r) (sym (further front run n)) (so.starts (suc n) r there);
              no_more = so.no_more;
            })),
      )

  pub starts_walked : (front rest : List RunRecord) (from : ℕ) → kept.runs ≡ front ++ rest → RunOneByOne from rest → StartOnward place boot begins procedures at_boot kept p (length front) rest → StartBehind front rest
  starts_walked front [] from are so walk =
      record {
        starts = λ n run there. absurd (let clash : ◌≡◌ {A = Option RunRecord} None (Some run) = there in cc);
        no_more = ap (λ l. may_start place boot begins kept (length l) p) (are ∙ append-nil front) ∙ walk;
      }
  starts_walked front (run ∷ rest) from are so walk =
      by_end
      (λ ended. starts_walked (front ++ run ∷ []) rest (unwrap_or run.ended run.started) (are ∙ sym (append_assoc front (run ∷ []) rest)) so.3
      (subst (λ n. StartOnward place boot begins procedures at_boot kept p n rest) (sym (longer front run)) (walk.1 ended)))
      (by_or_later (now p) run.ended)
    where
      here : (n : ℕ) (r : RunRecord) → ((m : ℕ) → slice_get rest m ≡ Some r → StartsInStep place boot begins procedures at_boot kept p (length front + suc m) r)
          → slice_get (run ∷ rest) n ≡ Some r → StartsInStep place boot begins procedures at_boot kept p (length front + n) r
      here zero r later there =
          let none : length front ≡ length front + 0 = omega arith in
          subst (λ k. StartsInStep place boot begins procedures at_boot kept p k r) none (subst (StartsInStep place boot begins procedures at_boot kept p (length front)) (same_Some run r there) walk.0)
      here (suc n) r later there = later n there

      by_end : (IsBy (now p) run.ended → StartBehind (front ++ run ∷ []) rest) → IsBy (now p) run.ended ⊎ IsLater (now p) run.ended → StartBehind front (run ∷ rest)
      by_end onward (inl ended) =
          let s = onward ended in
          record {
            starts = λ n r there. here n r (λ m at. subst (λ k. StartsInStep place boot begins procedures at_boot kept p k r) (further front run m) (s.starts m r at)) there;
            no_more = s.no_more;
          }
      by_end onward (inr still) =
          let late = late_behind (now p) from run rest so still in
          record {
            starts = λ n r there.
                here n r
                (λ m at.
                let l = all_at (IsLate (now p)) rest m r late at in
                let low = l.started_later in
                let next : suc (length front + m) ≡ length front + suc m = omega arith in
                record {
                  starts_now = λ same. absurd (omega (arith, low, same));
                  not_yet = λ _. ap (λ k. may_start place boot begins kept k p) (sym next) ∙ blocked front run rest are late still m;
                })
                there;
            no_more = ap (λ k. may_start place boot begins kept k p) last ∙ blocked front run rest are late still (length rest);
          }
        where
          last : length kept.runs ≡ suc (length front + length rest)
          last = ap length are ∙ length-append front (run ∷ rest) ∙ by_length
            where
              by_length : length front + length (run ∷ rest) ≡ suc (length front + length rest)
              by_length = omega arith
