-- The lines of a member are read.
use Rattle.std.specs.List.{AllByRecursion}
use Rattle.std.specs.Fmt.{decimal}
use Rattle.std.proofs.Common.{◌≡◌, ◌∙◌, ℕ, ◌+◌, ◌<◌, ◌≤◌, ◌^◌, true, List, [], ◌∷◌, ◌++◌, length, codes, Some, None, option_map, refl, sym, ap, subst, arith}
use Rattle.circus_transfer.specs.declared.joiner.Joiner.{Joiner}
use Rattle.circus_transfer.specs.declared.joiner.Joiner.TheVariants as joiner
use Rattle.circus_record.specs.declared.record.MemberRecord.{MemberRecord}
use Rattle.circus_record.specs.Line.{line}
use Rattle.circus_record.specs.MemberText.{runs_lines, now_line, phase_lines, member_lines}
use Rattle.circus_performing.specs.Performing.{last_count}
use Rattle.circus_config.specs.declared.plan.Plan.{Plan}
use Rattle.circus_value_text.specs.Reading.{behind_prefix}
use Rattle.circus_value_text.proofs.Marks.{passed_front}
use Rattle.circus_audit.specs.Possible.{IsMember, IsActive}
use Rattle.circus_audit.specs.declared.noted.Happened.{Happened}
use Rattle.circus_audit.specs.declared.member_line.Phase.{Phase}
use Rattle.circus_audit.specs.declared.member_line.Phase.TheVariants.{Apart, Active}
use Rattle.circus_audit.specs.declared.performed.Current.TheVariants.{Nothing}
use Rattle.circus_audit.specs.declared.setting.Hosted.{Hosted}
use Rattle.circus_audit.specs.declared.stage.Stage.TheVariants.{Events, Runs, Done}
use Rattle.circus_audit.specs.Seen.Answers.{from_some}
use Rattle.circus_audit.specs.Seen.Names.{name_at}
use Rattle.circus_audit.specs.Seen.Lines.{phase_read, active_line}
use Rattle.circus_audit.specs.Seen.Reading.{node_names, record_apart, by_phase, noted_by, stage_after}
use Rattle.circus_audit.proofs.SoundingEvents.{spelled}
use Rattle.circus_audit.proofs.SoundingMember.{active_text}
use Rattle.circus_audit.proofs.SoundingStages.{who_text, who_line, active_head, active_whole}
use Rattle.circus_audit.proofs.OneLine.{is_clean, clean_both, decimal_clean}
use Rattle.circus_audit.proofs.CompletingLines.{active_complete}
use Rattle.circus_audit.proofs.CompletingNames.{name_clean}
use Rattle.circus_audit.proofs.CompletingPlans.{IsSmall, IsSpelled}
use Rattle.circus_audit.proofs.CompletingRows.{Reads, one_read, both_read, text_read, to_read}
use Rattle.circus_audit.proofs.CompletingRuns.{HasFewAsks, active_read}

-- behind the member's name
who_inner : (node name rest : List ℕ) → from_some (behind_prefix node (node ++ (codes " " ++ (name ++ (codes " live " ++ rest))))) (λ a. from_some (behind_prefix (codes " ") a) (λ b. from_some (behind_prefix name b) (behind_prefix (codes " live ")))) ≡ Some rest
who_inner node name rest =
    ap (λ r. from_some r (λ a. from_some (behind_prefix (codes " ") a) (λ b. from_some (behind_prefix name b) (behind_prefix (codes " live "))))) (passed_front node (codes " " ++ (name ++ (codes " live " ++ rest))))
    ∙ ap (λ r. from_some r (behind_prefix (codes " live "))) (passed_front name (codes " live " ++ rest))

-- the first line of an active member
abbrev pub active_line_of : Plan → ℕ → Hosted → MemberRecord → ℕ → List ℕ
active_line_of plan own host kept from = active_head (spelled plan) own host.«module» from kept.active_at kept.count

-- and those behind it
pub whole_text : (plan : Plan) (own : ℕ) (host : Hosted) (kept : MemberRecord) (from : ℕ) → kept.phase ≡ joiner.Active from → from ≡ kept.from → member_lines (spelled plan) own host.«module» None kept ≡ active_line_of plan own host kept from ++ (runs_lines (spelled plan) kept.from kept.runs ++ now_line kept)
whole_text plan own host kept from phase first = sym (active_whole (spelled plan) own host.«module» kept from kept.active_at kept.count (runs_lines (spelled plan) kept.from kept.runs ++ now_line kept) phase (sym first) refl refl refl)

module _ (plan : Plan) (own : ℕ) (host : Hosted) (is_spelled : IsSpelled plan) (small : IsSmall (length plan.names) host.signature) (here : own < length (node_names plan)) (there : host.«module» < length plan.names) where
  who_clean : (rest : List ℕ) → is_clean rest ≡ true → is_clean (who_line (spelled plan) own host.«module» rest) ≡ true
  who_clean rest clean =
      let node = name_at (node_names plan) own in
      let name = name_at plan.names host.«module» in
      clean_both (codes "member ") (node ++ (codes " " ++ (name ++ (codes " live " ++ rest)))) refl (clean_both node (codes " " ++ (name ++ (codes " live " ++ rest))) (name_clean (node_names plan) is_spelled.nodes own here) (clean_both (codes " ") (name ++ (codes " live " ++ rest)) refl (clean_both name (codes " live " ++ rest) (name_clean plan.names is_spelled.modules host.«module» there) (clean_both (codes " live ") rest refl clean))))

  -- the first line, by its phase
  phase_reads : (h : Happened) (rest : List ℕ) (phase : Phase) → is_clean rest ≡ true → phase_read (length (noted_by h)) rest ≡ Some phase → Reads plan own (Some host) (Events h) (line (who_line (spelled plan) own host.«module» rest)) (by_phase (noted_by h) phase)
  phase_reads h rest phase clean read =
      let node = name_at (node_names plan) own in
      let name = name_at plan.names host.«module» in
      let inner = node ++ (codes " " ++ (name ++ (codes " live " ++ rest))) in
      let read_so : stage_after plan own (Some host) (Events h) (codes "member " ++ inner) ≡ Some (by_phase (noted_by h) phase) =
      ap (λ r. from_some r (λ t. option_map (by_phase (noted_by h)) (phase_read (length (noted_by h)) t))) (who_inner node name rest)
      ∙ ap (option_map (by_phase (noted_by h))) read in
      one_read plan own (Some host) (Events h) (codes "member " ++ inner) (by_phase (noted_by h) phase) (who_clean rest clean) read_so

  -- ---- a member that isn't active

  pub apart_reads : (h : Happened) (phase : Joiner) (word : List ℕ) → is_clean word ≡ true → phase_read (length (noted_by h)) word ≡ Some (Apart phase) → line (codes " " ++ word) ≡ phase_lines (spelled plan) phase (record_apart phase) → Reads plan own (Some host) (Events h) (member_lines (spelled plan) own host.«module» None (record_apart phase)) (Done (noted_by h) (Some (record_apart phase)) None)
  apart_reads h phase word clean read said =
      let node = name_at (node_names plan) own in
      let name = name_at plan.names host.«module» in
      let text : line (who_line (spelled plan) own host.«module» word) ≡ member_lines (spelled plan) own host.«module» None (record_apart phase) =
      who_text (codes "member ") node (codes " ") name (codes " ") (codes "live") (codes " ") word (10 ∷ []) ∙ ap (λ x. codes "member " ++ node ++ codes " " ++ name ++ codes " " ++ codes "live" ++ x) said in
      text_read plan own (Some host) (Events h) (Done (noted_by h) (Some (record_apart phase)) None) (line (who_line (spelled plan) own host.«module» word)) (member_lines (spelled plan) own host.«module» None (record_apart phase)) text (phase_reads h word (Apart phase) clean read)

  -- ---- an active member

  active_words : (events from since count : ℕ) → phase_read events (active_text (Active from since count)) ≡ active_line events (active_text (Active from since count))
  active_words events from since count = refl

  active_clean : (from since count : ℕ) → is_clean (active_text (Active from since count)) ≡ true
  active_clean from since count =
      clean_both (codes "from " ++ decimal from) ((codes " at " ++ decimal since) ++ (codes " count " ++ decimal count)) (clean_both (codes "from ") (decimal from) refl (decimal_clean from)) (clean_both (codes " at " ++ decimal since) (codes " count " ++ decimal count) (clean_both (codes " at ") (decimal since) refl (decimal_clean since)) (clean_both (codes " count ") (decimal count) refl (decimal_clean count)))

  -- the first line of an active member, whatever it counts
  pub counted_begins : (h : Happened) (from since count : ℕ) → length (noted_by h) < 2 ^ 64 → from < 2 ^ 32 → since < length (noted_by h) → count ≤ last_count → Reads plan own (Some host) (Events h) (active_head (spelled plan) own host.«module» from since count) (Runs (noted_by h) (record { from = from; since = since; count = count; runs = []; current = Nothing }))
  counted_begins h from since count short few there_is counted =
      let notes = noted_by h in
      let words = active_text (Active from since count) in
      let read = active_words (length notes) from since count ∙ active_complete (length notes) from since count short (few, there_is, omega (arith, counted)) in
      phase_reads h words (Active from since count) (active_clean from since count) read

  -- that of a member with a record
  pub active_begins : (h : Happened) (kept : MemberRecord) (from : ℕ) → length (noted_by h) < 2 ^ 64 → IsActive plan host.signature (length (noted_by h)) from kept → Reads plan own (Some host) (Events h) (active_line_of plan own host kept from) (Runs (noted_by h) (record { from = kept.from; since = kept.active_at; count = kept.count; runs = []; current = Nothing }))
  active_begins h kept from short is =
      let notes = noted_by h in
      let from_few : from < 2 ^ 32 = omega (arith, is.first, is.from) in
      let counted = is.runs.counted in
      let read = counted_begins h from kept.active_at kept.count short from_few is.active_at (omega (arith, counted)) in
      to_read plan own (Some host) (Events h) (by_phase notes (Active from kept.active_at kept.count)) (Runs notes (record { from = kept.from; since = kept.active_at; count = kept.count; runs = []; current = Nothing })) (active_line_of plan own host kept from) (ap (λ f. by_phase notes (Active f kept.active_at kept.count)) is.first) read

  active_member : (h : Happened) (kept : MemberRecord) (from : ℕ) → length (noted_by h) < 2 ^ 64 → kept.phase ≡ joiner.Active from → IsActive plan host.signature (length (noted_by h)) from kept → kept.count ≤ last_count → AllByRecursion HasFewAsks kept.runs → Reads plan own (Some host) (Events h) (member_lines (spelled plan) own host.«module» None kept) (Done (noted_by h) (Some kept) None)
  active_member h kept from short phase is count_few few =
      let notes = noted_by h in
      let words = active_text (Active from kept.active_at kept.count) in
      let from_few : from < 2 ^ 32 = omega (arith, is.first, is.from) in
      let read = active_words (length notes) from kept.active_at kept.count ∙ active_complete (length notes) from kept.active_at kept.count short (from_few, is.active_at, omega (arith, count_few)) in
      let behind = runs_lines (spelled plan) kept.from kept.runs ++ now_line kept in
      let mid = by_phase notes (Active from kept.active_at kept.count) in
      let first = phase_reads h words (Active from kept.active_at kept.count) (active_clean from kept.active_at kept.count) read in
      let later = active_read plan own host is_spelled small notes short from kept.active_at kept.count kept is phase refl refl few in
      let both = both_read plan own (Some host) (Events h) mid (Done notes (Some kept) None) (active_head (spelled plan) own host.«module» from kept.active_at kept.count) behind first later in
      text_read plan own (Some host) (Events h) (Done notes (Some kept) None) (active_head (spelled plan) own host.«module» from kept.active_at kept.count ++ behind) (member_lines (spelled plan) own host.«module» None kept) (active_whole (spelled plan) own host.«module» kept from kept.active_at kept.count behind phase (sym is.first) refl refl refl) both

  abbrev IsMemberRead : Happened → MemberRecord → Type 0
  IsMemberRead h kept = Reads plan own (Some host) (Events h) (member_lines (spelled plan) own host.«module» None kept) (Done (noted_by h) (Some kept) None)

  count_within : (events from : ℕ) (kept : MemberRecord) → IsActive plan host.signature events from kept → kept.count ≤ last_count
  count_within events from kept active = let counted = active.runs.counted in omega (arith, counted)

  by_phase_of : (h : Happened) (kept : MemberRecord) (phase : Joiner) → length (noted_by h) < 2 ^ 64 → kept.phase ≡ phase → IsMember plan host.signature (length (noted_by h)) kept phase → AllByRecursion HasFewAsks kept.runs → IsMemberRead h kept
  by_phase_of h kept joiner.Outside short at same few = subst (IsMemberRead h) (sym same) (apart_reads h joiner.Outside (codes "outside") refl refl refl)
  by_phase_of h kept joiner.Asking short at same few = subst (IsMemberRead h) (sym same) (apart_reads h joiner.Asking (codes "asking") refl refl refl)
  by_phase_of h kept (joiner.Fetching incarnation) short at same few = subst (IsMemberRead h) (sym same) (apart_reads h (joiner.Fetching 0) (codes "fetching") refl refl refl)
  by_phase_of h kept (joiner.Active from) short at active few = active_member h kept from short at active (count_within (length (noted_by h)) from kept active) few

  pub member_read : (h : Happened) (kept : MemberRecord) → length (noted_by h) < 2 ^ 64 → IsMember plan host.signature (length (noted_by h)) kept kept.phase → AllByRecursion HasFewAsks kept.runs → Reads plan own (Some host) (Events h) (member_lines (spelled plan) own host.«module» None kept) (Done (noted_by h) (Some kept) None)
  member_read h kept short is few = by_phase_of h kept kept.phase short refl is few
