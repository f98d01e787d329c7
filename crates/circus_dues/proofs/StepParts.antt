-- The parts of a step, one after the other: what each leaves is sound, and together they keep and make what a step does.
use Rattle.std.proofs.Common.{◌≡◌, ℕ, List, [], ◌++◌, length, sym, ap, subst, ◌∙◌}
use Rattle.circus_model.specs.declared.signature.Signature.{Signature}
use Rattle.circus_record.specs.declared.record.MemberRecord.{MemberRecord}
use Rattle.circus_member_rules.specs.declared.place.Place.{Place}
use Rattle.circus_member_rules.specs.declared.occurrence.Effect.{Effect}
use Rattle.circus_member_rules.specs.declared.occurrence.Occurrence.{Occurrence}
use Rattle.circus_member_rules.specs.Rules as rules
use Rattle.circus_dues.specs.declared.owing.Owing.{Owing}
use Rattle.circus_dues.specs.Seen.Owing.{CanCome, behind, made_at_once, gone_on, made_going_on, given_states, states_given, started_runs, made_starting_runs, concluded, stepped, made_by_step}
use Rattle.circus_dues.specs.Seen.Sound.{IsSoundOwing}
use Rattle.circus_dues.proofs.SoundStages.{sound_behind, sound_gone, sound_given, sound_started}

module _ (declared : Signature) (place : Place) (kept : MemberRecord) (at : ℕ) (o : Occurrence) (d d1 : Owing) (came : d1 ≡ behind kept at o d) where
  abbrev Sound : Owing → Type 0
  Sound e = IsSoundOwing declared place kept e

  -- ---- what each part leaves is sound

  module _ (s : Sound d) (can : CanCome declared place.troupe (length d.out.known.views) o) where
    pub came_sound : Sound d1
    came_sound = subst Sound (sym came) (sound_behind declared place kept d s at o can)

    module _ (d2 : Owing) (went : d2 ≡ gone_on place kept at d1) where
      pub went_sound : Sound d2
      went_sound = subst Sound (sym went) (sound_gone declared place kept d1 came_sound at)

      module _ (d3 : Owing) (gave : d3 ≡ given_states d2) where
        pub gave_sound : Sound d3
        gave_sound = subst Sound (sym gave) (sound_given declared place kept d2 went_sound)

        pub started_sound : (d4 : Owing) → d4 ≡ started_runs place kept at declared.procedures d3 → Sound d4
        started_sound d4 started = subst Sound (sym started) (sound_started declared place kept d3 gave_sound at)

  -- ---- what all of them keep and make

  module _ (d2 d3 d4 d5 : Owing) (went : d2 ≡ gone_on place kept at d1) (gave : d3 ≡ given_states d2) (started : d4 ≡ started_runs place kept at declared.procedures d3) where
    pub kept_by_parts : d5 ≡ concluded kept d4 → d5 ≡ stepped place kept at declared.procedures o d
    kept_by_parts done =
        done
        ∙ ap (λ x. concluded kept x) started
        ∙ ap (λ x. concluded kept (started_runs place kept at declared.procedures x)) gave
        ∙ ap (λ x. concluded kept (started_runs place kept at declared.procedures (given_states x))) went
        ∙ ap (λ x. concluded kept (started_runs place kept at declared.procedures (given_states (gone_on place kept at x)))) came

    -- what is made by them, from where each begins
    abbrev made : Owing → Owing → Owing → Owing → List Effect
    made x1 x2 x3 x4 =
        (((made_at_once place o d ++ made_going_on place kept at x1) ++ states_given kept x2) ++ made_starting_runs place kept at declared.procedures x3)
        ++ rules.lookups x4.out.known

    pub made_by_parts : (e0 e1 e2 e3 e4 e5 : List Effect) → e0 ≡ [] → e1 ≡ e0 ++ made_at_once place o d → e2 ≡ e1 ++ made_going_on place kept at d1
        → e3 ≡ e2 ++ states_given kept d2 → e4 ≡ e3 ++ made_starting_runs place kept at declared.procedures d3 → e5 ≡ e4 ++ rules.lookups d4.out.known
        → e5 ≡ made_by_step place kept at declared.procedures o d
    made_by_parts e0 e1 e2 e3 e4 e5 none is1 is2 is3 is4 is5 =
        let going = made_going_on place kept at d1 in
        let given = states_given kept d2 in
        let starting = made_starting_runs place kept at declared.procedures d3 in
        let lookups = rules.lookups d4.out.known in
        is5
        ∙ ap (λ l. l ++ lookups) is4
        ∙ ap (λ l. (l ++ starting) ++ lookups) is3
        ∙ ap (λ l. ((l ++ given) ++ starting) ++ lookups) is2
        ∙ ap (λ l. (((l ++ going) ++ given) ++ starting) ++ lookups) (is1 ∙ ap (λ l. l ++ made_at_once place o d) none)
        ∙ ap (λ x. made d1 d2 d3 x) started
        ∙ ap (λ x. made d1 d2 x (started_runs place kept at declared.procedures x)) gave
        ∙ ap (λ x. made d1 x (given_states x) (started_runs place kept at declared.procedures (given_states x))) went
        ∙ ap
        (λ x. made x (gone_on place kept at x) (given_states (gone_on place kept at x)) (started_runs place kept at declared.procedures (given_states (gone_on place kept at x))))
        came
