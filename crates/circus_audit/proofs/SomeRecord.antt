-- Some record of a plan has the lines of a text before the one that reading answers.
use Rattle.std.specs.List.{AllByRecursion}
use Rattle.std.specs.Prelude.{option_and_then, Result, Ok, Err}
use Rattle.std.proofs.Common.{◌≡◌, ◌∙◌, ℕ, zero, suc, ◌+◌, ◌<◌, ◌^◌, inl, inr, Bool, true, false, List, [], ◌∷◌, ◌++◌, length, map, slice_get, take, codes, Option, Some, None, option_map, refl, sym, ap, subst, arith, length-append}
use Rattle.std.proofs.lemmas.List.{length-map}
use Rattle.circus_text.specs.Form.{IsWord}
use Rattle.circus_limits.specs.Limits.{limit_of}
use Rattle.circus_collate.specs.declared.deployment.Host.{Host}
use Rattle.circus_collate.specs.declared.deployment.Troupe.{Troupe}
use Rattle.circus_record.specs.Line.{line}
use Rattle.circus_record.specs.Naming.{host_name}
use Rattle.circus_check.specs.Meaning.{ModuleMeant}
use Rattle.circus_check.specs.Resolved.{module_as}
use Rattle.circus_modules.specs.Signatures.{interface_numbers, signature_of}
use Rattle.circus_node.specs.Accepting.{troupe_at}
use Rattle.circus_config.specs.declared.plan.Plan.{Plan}
use Rattle.circus_config.specs.Program.{IsPlan}
use Rattle.circus_audit.specs.Answer.{or_bad, record_answer, IsAnswer}
use Rattle.circus_audit.specs.BadLine.{Begins, IsBadLine, IsBadIn}
use Rattle.circus_audit.specs.Possible.{declared_by}
use Rattle.circus_audit.specs.TextPieces.{whole, pieces}
use Rattle.circus_audit.specs.declared.fault.RecordFault.{RecordFault}
use Rattle.circus_audit.specs.declared.fault.RecordFault.TheVariants.{BadLine, NoMemory}
use Rattle.circus_audit.specs.declared.given.Given.{Given}
use Rattle.circus_audit.specs.declared.noted.Differing.{Differing}
use Rattle.circus_audit.specs.Seen.Names.{name_at}
use Rattle.circus_audit.specs.declared.outlook.Outlook.{Outlook}
use Rattle.circus_audit.specs.declared.setting.Hosted.{Hosted}
use Rattle.circus_audit.specs.declared.stage.Stage.{Stage}
use Rattle.circus_audit.specs.Seen.Answers.{from_some}
use Rattle.circus_audit.specs.Seen.Outlook.{goes_on, expected_then, lost_at, followed_by, line_lost, looks, bad_by, bad_among, bad_by_own, bad_in, bad_line, nothing_expected}
use Rattle.circus_audit.specs.Seen.Reading.{has_root, hosted_as, hosted_by, node_names, own_read, beginning, stage_after, given_by, stage_behind, rest_read, record_read}
use Rattle.circus_audit.proofs.Opening.{map_is}
use Rattle.circus_audit.proofs.OneLine.{clean_both}
use Rattle.circus_audit.proofs.SoundingStages.{stage_sound, IsStage}
use Rattle.circus_audit.proofs.SoundingRecord.{joined, chosen, hosting, begins, own_sound, read_is_record}
use Rattle.circus_audit.proofs.CompletingNames.{name_clean}
use Rattle.circus_audit.proofs.CompletingPlans.{IsSpelled, plan_spelled}
use Rattle.circus_audit.proofs.CompletingRecord.{own_complete}
use Rattle.circus_audit.proofs.CompletingRows.{lines_of_joined}
use Rattle.circus_audit.proofs.NoBadLine.{IsRow, clean_is_row, pieces_row, HasFirst, first_of, rest_behind, lost_kept}
use Rattle.circus_audit.proofs.NoRecord.{first_read, one_at_least}
use Rattle.circus_audit.proofs.BadAnswer.{none_begins}
use Rattle.circus_audit.proofs.SomeValues.{can_perform}
use Rattle.circus_audit.proofs.SomeTold.{some_at}
use Rattle.circus_audit.proofs.SomeStages.{ComesBy, RestsWell, stage_finish}
use Rattle.circus_audit.proofs.SomeSteps.{rests_step}

-- ---- whom nodes host

pub hosts_none : (plan : Plan) (own : ℕ) → troupe_at plan.deployment own ≡ None → hosted_by plan own ≡ None
hosts_none plan own none = ap (option_and_then (λ m. option_map (hosted_as plan m) (declared_by plan m))) none

pub rooted_so : (plan : Plan) (own : ℕ) (host : Hosted) → hosted_by plan own ≡ Some host → host.rooted ≡ has_root plan.deployment.troupes
rooted_so plan own host is =
    let x = chosen (λ m. option_map (hosted_as plan m) (declared_by plan m)) (troupe_at plan.deployment own) host is in
    let y = map_is (hosted_as plan x.0) (declared_by plan x.0) host x.2 in
    ap (λ (h : Hosted). h.rooted) (sym y.2)

-- what a node hosts is a module that is declared
pub hosts_some : (plan : Plan) (own : ℕ) → IsPlan plan → hosted_by plan own ≡ None → troupe_at plan.deployment own ≡ None
hosts_some plan own is none = by_troupe (troupe_at plan.deployment own) refl
  where
    within : (m : ℕ) → troupe_at plan.deployment own ≡ Some m → m < length (map module_as plan.checked.modules)
    within m at =
        let host = chosen (λ (h : Host). h.module) (slice_get plan.deployment.nodes own) m at in
        let less = (is.deployed.nodes own host.0 host.1).hosted m host.2 in
        let troupes : length plan.deployment.troupes ≡ length (map module_as plan.checked.modules) = sym (length-map plan.deployment.troupes (λ (x : Troupe). x.root)) ∙ ap length is.roots ∙ length-map (map module_as plan.checked.modules) (λ (m : ModuleMeant). m.root) in
        omega (arith, less, troupes)

    by_troupe : (o : Option ℕ) → troupe_at plan.deployment own ≡ o → troupe_at plan.deployment own ≡ None
    by_troupe None at = at
    by_troupe (Some m) at =
        let there = some_at (map module_as plan.checked.modules) m (within m at) in
        let s = signature_of (limit_of plan.deployment.format) plan.checked.interfaces (interface_numbers (map module_as plan.checked.modules)) there.0 in
        let declared : declared_by plan m ≡ Some s = ap (option_map (signature_of (limit_of plan.deployment.format) plan.checked.interfaces (interface_numbers (map module_as plan.checked.modules)))) there.1 in
        let hosted : hosted_by plan own ≡ Some (hosted_as plan m s) = ap (option_and_then (λ n. option_map (hosted_as plan n) (declared_by plan n))) at ∙ ap (option_map (hosted_as plan m)) declared in
        cc (hosted, none)

-- ---- behind the first line

module _ (plan : Plan) (own : ℕ) (is_plan : IsPlan plan) (is_spelled : IsSpelled plan) (here : own < length (node_names plan)) where
  abbrev hosted : Option Hosted
  hosted = hosted_by plan own

  -- from a stage some lines lead to the end of a record, the first of them those of a text
  pub record HasLinesOf (stage : Stage) (text : List ℕ) (lines : ℕ) : Type 0 where
    pub behind : List ℕ
    pub given : Given
    pub read : rest_read plan own hosted stage behind ≡ Some given
    pub same : take lines (pieces behind) ≡ take lines (pieces text)

  none_of : (stage : Stage) (front text : List ℕ) (expected : List Differing) → IsStage plan own hosted stage front → length front < 2 ^ 32 → RestsWell plan own hosted expected stage → HasLinesOf stage text 0
  none_of stage front text expected stands few well =
      let f = stage_finish plan own hosted is_spelled (λ number s declared. can_perform plan number s is_plan declared) here (hosting plan own hosted refl) (hosts_some plan own is_plan) stage front expected stands few well in
      record {
        behind = joined f.goes.rows;
        given = f.given;
        read =
            ap (λ r. from_some r (λ lines. from_some (stage_behind plan own hosted stage lines) (given_by plan own hosted))) (lines_of_joined f.goes.rows f.goes.clean)
            ∙ ap (λ r. from_some r (given_by plan own hosted)) f.goes.reach ∙ f.ends;
        same = refl;
      }

  -- the first line that is answered, and a record with those before it
  abbrev IsBefore : Stage → List ℕ → ℕ → Outlook → Type 0
  IsBefore stage text number o = (k : ℕ) × (bad_among plan own hosted (pieces text) number o stage ≡ number + k) × HasLinesOf stage text k

  at_once : (stage : Stage) (front text : List ℕ) (number : ℕ) (o : Outlook) → IsStage plan own hosted stage front → length front < 2 ^ 32 → RestsWell plan own hosted o.expected stage → bad_among plan own hosted (pieces text) number o stage ≡ number → IsBefore stage text number o
  at_once stage front text number o stands few well is =
      let more : number ≡ number + 0 = omega arith in
      (0, is ∙ more, none_of stage front text o.expected stands few well)

  looks_so : (o : Outlook) (next : Stage) (number : ℕ) → o.lost ≡ None → looks plan own hosted next number o ≡ record { expected = expected_then (node_names plan) (length plan.names) own o next; lost = lost_at (node_names plan) (length plan.names) own number (goes_on (node_names plan) (length plan.names) own hosted (expected_then (node_names plan) (length plan.names) own o next) next) }
  looks_so o next number none = ap (followed_by (node_names plan) (length plan.names) own hosted next number o) none

  -- behind a shorter text
  abbrev IsShorter : ℕ → Type 0
  IsShorter n = (text front : List ℕ) (number : ℕ) (o : Outlook) (stage : Stage) → length text < n → length front + length text < 2 ^ 32 → IsStage plan own hosted stage front → RestsWell plan own hosted o.expected stage → o.lost ≡ None → IsBefore stage text number o

  before_among : (n : ℕ) (text front : List ℕ) (number : ℕ) (o : Outlook) (stage : Stage) → length text < n → length front + length text < 2 ^ 32 → IsStage plan own hosted stage front → RestsWell plan own hosted o.expected stage → o.lost ≡ None → IsBefore stage text number o
  before_among zero text front number o stage less few stands well none = absurd (omega (arith, less))
  before_among (suc n) text front number o stage less few stands well none = by_first (first_of text) (before_among n)
    where
      few_front : length front < 2 ^ 32
      few_front = omega (arith, few)

      by_first : HasFirst text → IsShorter n → IsBefore stage text number o
      by_first (inr only) go_on = at_once stage front text number o stands few_front well (ap (λ ps. bad_among plan own hosted ps number o stage) only ∙ ap (line_lost number) none)
      by_first (inl found) go_on = by_next (stage_after plan own hosted stage found.0) refl
        where
          here_is : bad_among plan own hosted (pieces text) number o stage ≡ bad_by plan own hosted (bad_among plan own hosted (pieces found.1)) number o (stage_after plan own hosted stage found.0)
          here_is = ap (λ ps. bad_among plan own hosted ps number o stage) found.3

          size : length text ≡ length found.0 + 1 + length found.1
          size = ap length found.2 ∙ length-append (line found.0) found.1 ∙ ap (λ m. m + length found.1) (length-append found.0 (10 ∷ []))

          by_good : (next : Stage) → stage_after plan own hosted stage found.0 ≡ Some next → (good : Bool) → goes_on (node_names plan) (length plan.names) own hosted (expected_then (node_names plan) (length plan.names) own o next) next ≡ good → IsBefore stage text number o
          by_good next at false bad =
              let lost : (looks plan own hosted next number o).lost ≡ Some number = ap (λ (x : Outlook). x.lost) (looks_so o next number none) ∙ ap (lost_at (node_names plan) (length plan.names) own number) bad in
              let kept = lost_kept plan own hosted (pieces found.1) (number + 1) (looks plan own hosted next number o) next number lost in
              at_once stage front text number o stands few_front well (here_is ∙ ap (bad_by plan own hosted (bad_among plan own hosted (pieces found.1)) number o) at ∙ kept)
          by_good next at true good =
              let o2 = looks plan own hosted next number o in
              let on = looks_so o next number none in
              let not_lost : o2.lost ≡ None = ap (λ (x : Outlook). x.lost) on ∙ ap (lost_at (node_names plan) (length plan.names) own number) good in
              let stands_next = stage_sound plan own hosted stage found.0 front next (hosting plan own hosted refl) at stands in
              let well_next = rests_step plan own hosted o.expected (rooted_so plan own) (hosts_none plan own) stage found.0 front next stands well at good in
              let well_so : RestsWell plan own hosted o2.expected next = subst (λ (x : Outlook). RestsWell plan own hosted x.expected next) (sym on) well_next in
              let shorter : length found.1 < n = omega (arith, less, size) in
              let longer : length (front ++ line found.0) ≡ length front + (length found.0 + 1) = length-append front (line found.0) ∙ ap (λ m. length front + m) (length-append found.0 (10 ∷ [])) in
              let later = go_on found.1 (front ++ line found.0) (number + 1) o2 next shorter (omega (arith, few, size, longer)) stands_next well_so not_lost in
              let g = later.2 in
              let sum : number + 1 + later.0 ≡ number + suc later.0 = omega arith in (
                suc later.0,
                here_is ∙ ap (bad_by plan own hosted (bad_among plan own hosted (pieces found.1)) number o) at ∙ later.1 ∙ sum,
                record {
                  behind = line found.0 ++ g.behind;
                  given = g.given;
                  read = rest_behind plan own hosted stage next found.0 g.behind found.4 at ∙ g.read;
                  same = ap (take (suc later.0)) (pieces_row found.0 g.behind found.4) ∙ ap (λ ps. whole found.0 ∷ ps) g.same ∙ sym (ap (take (suc later.0)) found.3);
                },
              )

          by_next : (r : Option Stage) → stage_after plan own hosted stage found.0 ≡ r → IsBefore stage text number o
          by_next None at = at_once stage front text number o stands few_front well (here_is ∙ ap (bad_by plan own hosted (bad_among plan own hosted (pieces found.1)) number o) at ∙ ap (line_lost number) none)
          by_next (Some next) at = by_good next at (goes_on (node_names plan) (length plan.names) own hosted (expected_then (node_names plan) (length plan.names) own o next) next) refl

  begins_well : RestsWell plan own hosted [] beginning
  begins_well = (refl, by_hosted hosted)
    where
      by_hosted : (o : Option Hosted) → ComesBy plan own o []
      by_hosted None = refl
      by_hosted (Some host) = inl refl

  pub before_begun : (text : List ℕ) → length text < 2 ^ 32 → IsBefore beginning text 2 nothing_expected
  before_begun text few = before_among (suc (length text)) text [] 2 nothing_expected beginning (omega arith) (omega (arith, few)) (begins plan own) begins_well refl

-- ---- the whole

module _ (plan : Plan) (is_plan : IsPlan plan) (is_spelled : IsSpelled plan) where
  -- some record has the first lines
  begun_so : (own : ℕ) (first text behind : List ℕ) (given : Given) (lines : ℕ) → IsRow first → own_read plan first ≡ Some own → rest_read plan own (hosted_by plan own) beginning behind ≡ Some given → take lines (pieces (line first ++ behind)) ≡ take lines (pieces text) → Begins plan text lines
  begun_so own first text behind given lines row own_is read same = record {
    given = given;
    whole = line first ++ behind;
    is_text = read_is_record plan (line first ++ behind) given (first_read plan first behind own row own_is ∙ read);
    same = same;
  }

  -- there is a record, that of the Ringmaster's node
  some_record : (text : List ℕ) → Begins plan text 0
  some_record text =
      let nodes = is_plan.deployed.some_nodes in
      let here : 0 < length (node_names plan) = omega (arith, nodes, length-map plan.deployment.nodes host_name) in
      let name = name_at (node_names plan) 0 in
      let row = clean_is_row (codes "circus node 1 " ++ name) (clean_both (codes "circus node 1 ") name refl (name_clean (node_names plan) is_spelled.nodes 0 here)) in
      let b = (before_begun plan 0 is_plan is_spelled here [] (omega arith)).2 in
      begun_so 0 (codes "circus node 1 " ++ name) text b.behind b.given 0 row (own_complete plan 0 is_spelled.nodes here) b.read refl

  pub before_bad : (text : List ℕ) (before : ℕ) → length text < 2 ^ 32 → bad_line plan text ≡ suc before → Begins plan text before
  before_bad text before few is = by_first (first_of text)
    where
      at_first : bad_in plan (pieces text) ≡ 1 → Begins plan text before
      at_first one = let none : 0 ≡ before = omega (arith, one, is) in subst (Begins plan text) none (some_record text)

      by_first : HasFirst text → Begins plan text before
      by_first (inr only) = at_first (ap (bad_in plan) only)
      by_first (inl found) = by_own (own_read plan found.0) refl
        where
          by_own : (r : Option ℕ) → own_read plan found.0 ≡ r → Begins plan text before
          by_own None at = at_first (ap (bad_in plan) found.3 ∙ ap (bad_by_own plan (pieces found.1)) at)
          by_own (Some own) at =
              let here = (own_sound plan found.0 own at).1 in
              let size = ap length found.2 ∙ length-append (line found.0) found.1 in
              let b = before_begun plan own is_plan is_spelled here found.1 (omega (arith, few, size)) in
              let counted = ap (bad_in plan) found.3 ∙ ap (bad_by_own plan (pieces found.1)) at ∙ b.1 in
              let lines : suc b.0 ≡ before = omega (arith, counted, is) in
              let g = b.2 in
              subst (Begins plan text) lines (begun_so own found.0 text g.behind g.given (suc b.0) found.4 at g.read (ap (take (suc b.0)) (pieces_row found.0 g.behind found.4) ∙ ap (λ ps. whole found.0 ∷ ps) g.same ∙ sym (ap (take (suc b.0)) found.3)))

pub some_begins : (plan : Plan) (text : List ℕ) (before : ℕ) → IsPlan plan → plan.names ≡ map (λ (m : ModuleMeant). m.name) (map module_as plan.checked.modules) → AllByRecursion IsWord plan.names → length text < 4294967295 → record_answer plan text ≡ Err (suc before) → Begins plan text before
some_begins plan text before is named words few bad = by_read (record_read plan text) bad
  where
    by_read : (r : Option Given) → or_bad (bad_line plan text) r ≡ Err (suc before) → Begins plan text before
    by_read (Some g) answer = cc (answer)
    by_read None answer =
        let number : bad_line plan text ≡ suc before = cc (answer) in
        before_bad plan is (plan_spelled plan is named words) text before (omega (arith, few)) number

pub answer_is_bad : (plan : Plan) (text : List ℕ) (line : ℕ) → IsPlan plan → plan.names ≡ map (λ (m : ModuleMeant). m.name) (map module_as plan.checked.modules) → AllByRecursion IsWord plan.names → length text < 4294967295 → record_answer plan text ≡ Err line → IsBadLine plan text line
answer_is_bad plan text zero is named words few bad = by_read (record_read plan text) bad
  where
    by_read : (r : Option Given) → or_bad (bad_line plan text) r ≡ Err 0 → ⊥
    by_read (Some g) answer = cc (answer)
    by_read None answer =
        let number : bad_line plan text ≡ 0 = cc (answer) in
        let one = one_at_least plan (pieces text) in
        omega (arith, number, one)
answer_is_bad plan text (suc before) is named words few bad = (some_begins plan text before is named words few bad, none_begins plan text (suc before) is named words few bad)

-- what reading refuses is bad
pub bad_in_text : (plan : Plan) (text : List ℕ) (r : Result Given RecordFault) → IsPlan plan → plan.names ≡ map (λ (m : ModuleMeant). m.name) (map module_as plan.checked.modules) → AllByRecursion IsWord plan.names → length text < 4294967295 → IsAnswer r (record_answer plan text) → IsBadIn plan text r
bad_in_text plan text (Ok given) is named words few answer = tt
bad_in_text plan text (Err (BadLine line)) is named words few answer = answer_is_bad plan text line is named words few answer
bad_in_text plan text (Err NoMemory) is named words few answer = tt
