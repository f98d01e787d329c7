-- What is said of the record of a member whose node came through its events.
use Rattle.std.proofs.Common.{ℕ, zero, suc, ◌≡◌, ◌∙◌, ◌≤◌, ◌⊎◌, inl, inr, true, false, List, [], length, Some, refl, sym, ap, subst, arith}
use Rattle.std.specs.Prelude.{slice_get}
use Rattle.std.proofs.lemmas.Option.{same_Some}
use Rattle.circus_value.specs.ValueTree.{ValueTree}
use Rattle.circus_collate.specs.declared.deployment.Deployment.{Deployment}
use Rattle.circus_transfer.specs.declared.joiner.Joiner.{Joiner}
use Rattle.circus_transfer.specs.declared.joiner.Joiner.TheVariants.{Outside, Asking, Fetching, Active}
use Rattle.circus_model.specs.Agree.{Agree, AreModules}
use Rattle.circus_model.specs.Behaviour.{Behaviour}
use Rattle.circus_model.specs.Execution.{history_of}
use Rattle.circus_model.specs.History.{runs_of, state_after}
use Rattle.circus_model.specs.declared.history.Run.{Run}
use Rattle.circus_record.specs.declared.record.MemberRecord.{MemberRecord}
use Rattle.circus_performing.specs.Performing.{is_active, last_count}
use Rattle.circus_member_theory.proofs.Histories.{runs_are_few}
use Rattle.circus_node.specs.Accepting.{troupe_at}
use Rattle.circus_member_theory.specs.Stands.{Stands}
use Rattle.circus_headline_theory.specs.NodeRun.{state_at_activation}
use Rattle.circus_audit.specs.declared.given.Given.{Given}
use Rattle.circus_verdict.specs.declared.verdict.Verdict.{Verdict}
use Rattle.circus_verdict.specs.declared.verdict.Verdict.TheVariants as says
use Rattle.circus_verdict.specs.Audited.{said_in, said_of, HasRunAt, IsAuditedBy, IsAudited}
use Rattle.circus_verdict.specs.Beside.{IsFirstWrong}
use Rattle.circus_verdict.specs.Verdict.{StandsWhereActive, IsVerdict}
use Rattle.circus_verdict.specs.Seen.Judged.{state_in, IsBeyond, IsInAnother, IsWrongLater, IsJudged}
use Rattle.circus_verdict.specs.Seen.Judging.{HasRunSo}
use Rattle.circus_verdict.proofs.Standing.{IsAllRight, right_stands, stands_right, state_began}

-- ---- what is said of a member

said_active : (kept : MemberRecord) (p : Joiner) → is_active (said_in p kept).phase ≡ true → said_in p kept ≡ kept
said_active kept Outside active = cc
said_active kept Asking active = cc
said_active kept (Fetching incarnation) active = cc
said_active kept (Active first) active = refl

-- an active one is said whole
pub said_whole : (said kept : MemberRecord) → said ≡ said_of kept → is_active said.phase ≡ true → said ≡ kept
said_whole said kept is active = is ∙ said_active kept kept.phase (ap (λ (k : MemberRecord). is_active k.phase) (sym is) ∙ active)

module _ (d : Deployment) (program : List Behaviour) (given : Given) where
  -- ---- by the record that its member has

  module _ (kept : MemberRecord) (begun : List ValueTree) (ran : HasRunSo d program given kept begun) where
    said_by : given.member ≡ Some (said_of kept) → IsAuditedBy d program given ran.lived
    said_by is = record {
      events = ran.are.events;
      numbered = ran.are.numbered;
      joins = ran.are.joins;
      declares = ran.are.declares;
      numbers = ran.are.numbers;
      run = subst (λ o. HasRunAt d program given.node o ran.lived given.member given.views) (sym ran.hosts) (record { kept = kept; run = ran.run; says = is });
    }

    -- one that isn't active
    pub said_apart : (said : MemberRecord) → given.member ≡ Some said → said ≡ said_of kept → is_active said.phase ≡ false → IsAudited d program given × StandsWhereActive d program given
    said_apart said member_is is apart = (
      record { lived = ran.lived; is = said_by (member_is ∙ ap Some is) },
      λ number hosted other at there other_is active.
          let same : said ≡ other = same_Some said other (sym member_is ∙ other_is) in
          let clash : false ≡ true = sym apart ∙ ap (λ (k : MemberRecord). is_active k.phase) same ∙ active in cc,
    )

    -- ---- an active one, which is said whole

    module _ (agree : Agree program) (are : AreModules program) (member_is : given.member ≡ Some kept) (active : is_active kept.phase ≡ true) where
      abbrev runs : List Run
      runs = runs_of (history_of program) ran.number

      abbrev first : List ValueTree
      first = ran.run.hosted.first

      -- the state with which it became active
      abbrev begins : List ValueTree
      begins = state_at_activation d ran.run.hosted given.node ran.number ran.run.troupe kept ran.lived

      few : length runs ≤ last_count
      few = (let most = runs_are_few program agree are ran.number in omega (arith, most))

      state_same : (n : ℕ) → state_in runs first n ≡ state_after (history_of program) ran.number first n
      state_same zero = refl
      state_same (suc n) = refl

      whole : said_of kept ≡ kept
      whole = said_active kept kept.phase (subst (λ k. is_active k ≡ true) (sym (phase_said kept.phase active)) active)
        where
          phase_said : (p : Joiner) → is_active p ≡ true → (said_in p kept).phase ≡ kept.phase
          phase_said Outside is = cc
          phase_said Asking is = cc
          phase_said (Fetching incarnation) is = cc
          phase_said (Active from) is = refl

      audited : IsAuditedBy d program given ran.lived
      audited = said_by (member_is ∙ ap Some (sym whole))

      abbrev IsWrong : ℕ → Type 0
      IsWrong wrong = IsBeyond runs first begun kept wrong ⊎ (IsInAnother runs first begun kept wrong ⊎ IsWrongLater runs first begun kept wrong)

      all_right : Stands (history_of program) ran.number first kept → IsAllRight (history_of program) ran.number ran.run.hosted begins kept few
      all_right stands = stands_right (history_of program) ran.number ran.run.hosted begins kept few stands

      -- where it performed nothing, its state is that with which it became active
      begun_is : kept.runs ≡ [] → kept.state ≡ begun
      begun_is none = state_began (history_of program) ran.number ran.run.hosted begins kept few ran.run.is.follows none ∙ sym ran.activation

      falls : (wrong : ℕ) → IsWrong wrong → Stands (history_of program) ran.number first kept → ⊥
      falls wrong (inl beyond) stands = (let right = (all_right stands).within in let less = beyond.few in omega (arith, right, less))
      falls wrong (inr (inl another)) stands = elim another.shown [
        | inl none ↦ another.other (sym (begun_is none) ∙ (all_right stands).state none ∙ sym (state_same kept.from))
        | inr run ↦ run.1.wrong ((all_right stands).right run.0)
      ]
      falls wrong (inr (inr later)) stands = later.run.first_wrong.wrong ((all_right stands).right later.run.number)

      first_wrong : (wrong : ℕ) → IsWrong wrong → IsFirstWrong (history_of program) ran.number first begins kept wrong
      first_wrong wrong (inl beyond) = inl (inl beyond.few, beyond.is)
      first_wrong wrong (inr (inl another)) = inl (inr (λ same. another.other (ran.activation ∙ same ∙ sym (state_same kept.from))), another.is)
      first_wrong wrong (inr (inr later)) =
          inr (
            λ wrongly. elim wrongly [
              | inl few ↦ (let within = later.within in omega (arith, few, within))
              | inr other ↦ other (sym ran.activation ∙ later.state ∙ state_same kept.from)
            ],
            later.run,
          )

      pub judged : (v : Verdict) → IsJudged runs first begun kept v → IsVerdict d program given v
      judged says.Yes right = (
        record { lived = ran.lived; is = audited },
        λ number hosted other at there other_is is_on.
            let number_is : ran.number ≡ number = same_Some ran.number number (sym ran.hosts ∙ at) in
            let there_is : slice_get program ran.number ≡ Some hosted = ap (slice_get program) number_is ∙ there in
            let hosted_is : ran.run.hosted ≡ hosted = same_Some ran.run.hosted hosted (sym ran.run.is_hosted ∙ there_is) in
            let kept_is : kept ≡ other = same_Some kept other (sym member_is ∙ other_is) in
            let stands = right_stands (history_of program) ran.number ran.run.hosted begins kept few ran.run.is.follows right.within right.right
            (λ none. begun_is none ∙ right.state none ∙ state_same kept.from) in
            subst (λ k. Stands (history_of program) number hosted.first k) kept_is
            (subst (λ (x : Behaviour). Stands (history_of program) number x.first kept) hosted_is (subst (λ n. Stands (history_of program) n first kept) number_is stands)),
      )
      judged says.NotARun never = absurd never
      judged (says.Run wrong) found = record {
        lived = ran.lived;
        audited = audited;
        number = ran.number;
        kept = kept;
        is_number = ran.hosts;
        is_kept = member_is;
        active = active;
        run = ran.run;
        falls = falls wrong found;
        first_wrong = first_wrong wrong found;
      }

      -- so it is with the module of the node's troupe, and with its runs and its first state as they are found
      pub judged_here : (number : ℕ) (b : Behaviour) (found : List Run) (starts : List ValueTree) → troupe_at d given.node ≡ Some number → slice_get program number ≡ Some b
          → found ≡ runs_of (history_of program) number → starts ≡ b.first → (v : Verdict) → IsJudged found starts begun kept v → IsVerdict d program given v
      judged_here number b found starts at there found_is starts_is v is =
          let number_is : number ≡ ran.number = same_Some number ran.number (sym at ∙ ran.hosts) in
          let hosted_is : b ≡ ran.run.hosted = same_Some b ran.run.hosted (sym there ∙ ap (slice_get program) number_is ∙ ran.run.is_hosted) in
          judged v
          (subst (λ (x : List ValueTree). IsJudged runs x begun kept v) (starts_is ∙ ap (λ (x : Behaviour). x.first) hosted_is)
          (subst (λ (x : List Run). IsJudged x starts begun kept v) (found_is ∙ ap (runs_of (history_of program)) number_is) is))
