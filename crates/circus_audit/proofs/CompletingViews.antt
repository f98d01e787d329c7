-- The lines of views are read.
use Rattle.std.specs.List.{AllByRecursion}
use Rattle.std.specs.Fmt.{decimal}
use Rattle.std.specs.Str.{bytes_eq}
use Rattle.std.specs.Str.Parse.{AllDigits}
use Rattle.std.proofs.Common.{◌≡◌, ◌∙◌, ℕ, zero, suc, ◌+◌, ◌<◌, ◌≤◌, true, cond, nat_le, List, [], ◌∷◌, ◌++◌, length, slice_get, codes, Option, Some, None, option_map, refl, sym, ap, subst, arith, append_assoc, append-nil, length-append, eq-eqb, le-leb}
use Rattle.std.proofs.lemmas.Bool.{ne_eqb}
use Rattle.std.proofs.lemmas.Fmt.{digits_decimal}
use Rattle.std.proofs.lemmas.Str.Parse.{digit_from_value}
use Rattle.std.proofs.lemmas.List.{length-map}
use Rattle.circus_collate.specs.declared.view.Since.{Since}
use Rattle.circus_collate.specs.declared.view.Since.TheVariants.{Joining, From}
use Rattle.circus_collate.specs.declared.view.Entry.{Entry}
use Rattle.circus_collate.specs.declared.view.View.{View}
use Rattle.circus_schedule.proofs.Numerals.{own, decimal_begins}
use Rattle.circus_record.specs.Line.{line}
use Rattle.circus_record.specs.Naming.{host_name}
use Rattle.circus_report.specs.ViewLines.{ringmaster_line, since_text, entry_text, entries_text, view_line, views_lines}
use Rattle.circus_node.specs.Accepting.{troupe_at}
use Rattle.circus_config.specs.declared.plan.Plan.{Plan}
use Rattle.circus_value_text.specs.Reading.{seen_as, behind_prefix}
use Rattle.circus_value_text.proofs.Marks.{passed_front}
use Rattle.circus_value_text.proofs.Numbers.{number_complete}
use Rattle.circus_audit.specs.Possible.{IsSince, IsEntry, AreViews}
use Rattle.circus_audit.specs.declared.noted.Noted.{Noted}
use Rattle.circus_audit.specs.declared.noted.Happened.{Happened}
use Rattle.circus_audit.specs.declared.setting.Hosted.{Hosted}
use Rattle.circus_audit.specs.declared.stage.Stage.TheVariants.{Events, Watching, Done}
use Rattle.circus_audit.specs.Seen.Answers.{then_read, from_some, only_if}
use Rattle.circus_audit.specs.Seen.Names.{name_at}
use Rattle.circus_audit.specs.Seen.Lines.{name_behind}
use Rattle.circus_audit.specs.Seen.Views.{since_if, since_read, since_behind, entry_read, entries_read, said_read, view_read}
use Rattle.circus_audit.specs.Seen.Reading.{node_names, noted_by, with_views, ring_if, stage_after}
use Rattle.circus_audit.proofs.SoundingEvents.{spelled, four_texts}
use Rattle.circus_audit.proofs.SoundingViews.{IsViewOf, AreViewsFrom}
use Rattle.circus_audit.proofs.OneLine.{is_clean, clean_both, decimal_clean}
use Rattle.circus_audit.proofs.Completing.{AreNames, parts, stops, Completes, behind_complete, two_complete, long_complete, name_behind_complete}
use Rattle.circus_audit.proofs.CompletingNames.{name_clean}
use Rattle.circus_audit.proofs.CompletingPlans.{IsSpelled}
use Rattle.circus_audit.proofs.CompletingRows.{Reads, none_read, one_read, both_read, text_read, to_read}

-- ---- entries

not_joining : (digits rest : List ℕ) → AllDigits 10 digits → 0 < length digits → behind_prefix (codes "joining") (digits ++ rest) ≡ None
not_joining [] rest all some = absurd (omega (arith, some))
not_joining (b ∷ digits) rest all some =
    let range = digit_from_value b all.0 in
    ap (λ same. cond same (behind_prefix (codes "oining") (digits ++ rest)) None) (ne_eqb b 106 (λ e. omega (arith, range, e)))

abbrev entry_of : ℕ → Since → Entry
entry_of node since = record { node = node; since = since }

abbrev view_of : ℕ → ℕ → List Entry → View
view_of troupe incarnation entries = record { troupe = troupe; incarnation = incarnation; entries = entries }

module _ (plan : Plan) (names : AreNames (node_names plan)) where
  since_complete : Completes since_read since_text (IsSince plan)
  since_complete Joining rest is ends = refl
  since_complete (From first) rest is ends =
      ap (since_if (decimal first ++ rest)) (not_joining (decimal first) rest (digits_decimal own first (omega (arith, is))) (decimal_begins first (omega (arith, is))).0)
      ∙ ap (seen_as (λ n. From n)) (number_complete 4294967295 first rest (omega (arith, is)) (omega arith) (stops rest ends))

  entry_complete : (entry : Entry) (rest : List ℕ) → IsEntry plan entry → parts rest ≡ true → entry_read (node_names plan) (entry_text (spelled plan) entry ++ rest) ≡ Some (entry, rest)
  entry_complete entry rest is ends =
      let nodes = node_names plan in
      let name = codes " " ++ name_at nodes entry.node in
      let few : entry.node < length nodes = subst (λ k. entry.node < k) (sym (length-map plan.deployment.nodes host_name)) is.0 in
      ap (λ t. entry_read nodes (t ++ rest)) (append_assoc name (codes "=") (since_text entry.since))
      ∙ two_complete (name_behind (codes " ") nodes) (λ n. codes " " ++ name_at nodes n) (λ n. n < length nodes) since_behind (λ since. codes "=" ++ since_text since) (IsSince plan) entry_of (name_behind_complete (codes " ") nodes names) (behind_complete (codes "=") since_read since_text (IsSince plan) since_complete) entry.node entry.since rest few is.1 refl ends

  entries_parts : (entries : List Entry) → parts (entries_text (spelled plan) entries) ≡ true
  entries_parts [] = refl
  entries_parts (e ∷ entries) = refl

  entries_complete : (most : ℕ) (entries : List Entry) → length entries ≤ most → AllByRecursion (IsEntry plan) entries → entries_read (node_names plan) most (entries_text (spelled plan) entries) ≡ Some entries
  entries_complete zero [] few all = refl
  entries_complete zero (e ∷ entries) few all = absurd (omega (arith, few))
  entries_complete (suc most) [] few all = refl
  entries_complete (suc most) (e ∷ entries) few all =
      ap (λ r. then_read r (λ x rest. option_map (λ (es : List Entry). x ∷ es) (entries_read (node_names plan) most rest))) (entry_complete e (entries_text (spelled plan) entries) all.0 (entries_parts entries))
      ∙ ap (option_map (λ (es : List Entry). e ∷ es)) (entries_complete most entries (omega (arith, few)) all.1)

  entry_clean : (entry : Entry) → IsEntry plan entry → is_clean (entry_text (spelled plan) entry) ≡ true
  entry_clean entry is =
      let name = name_at (node_names plan) entry.node in
      let few : entry.node < length (node_names plan) = subst (λ k. entry.node < k) (sym (length-map plan.deployment.nodes host_name)) is.0 in
      clean_both ((codes " " ++ name) ++ codes "=") (since_text entry.since) (clean_both (codes " " ++ name) (codes "=") (clean_both (codes " ") name refl (name_clean (node_names plan) names entry.node few)) refl) (since_clean entry.since)
    where
      since_clean : (since : Since) → is_clean (since_text since) ≡ true
      since_clean Joining = refl
      since_clean (From first) = decimal_clean first

  entries_clean : (entries : List Entry) → AllByRecursion (IsEntry plan) entries → is_clean (entries_text (spelled plan) entries) ≡ true
  entries_clean [] all = refl
  entries_clean (e ∷ entries) all = clean_both (entry_text (spelled plan) e) (entries_text (spelled plan) entries) (entry_clean e all.0) (entries_clean entries all.1)

  longer : (a b : List ℕ) → length b ≤ length (a ++ b)
  longer a b = omega (arith, length-append a b)

  entries_many : (entries : List Entry) → length entries ≤ length (entries_text (spelled plan) entries)
  entries_many [] = omega arith
  entries_many (e ∷ entries) =
      let others = entries_many entries in
      let one : 1 ≤ length (entry_text (spelled plan) e) = omega arith in
      omega (arith, others, one, length-append (entry_text (spelled plan) e) (entries_text (spelled plan) entries))

  -- ---- views

  abbrev view_row : View → List ℕ
  view_row view = codes "view " ++ (name_at plan.names view.troupe ++ ((codes " " ++ decimal view.incarnation) ++ entries_text (spelled plan) view.entries))

  view_text : (v n s d e : List ℕ) → v ++ (n ++ ((s ++ d) ++ e)) ≡ (((v ++ n) ++ s) ++ d) ++ e
  view_text v n s d e = simp append_assoc

  view_complete : (troupe : ℕ) (view : View) → IsViewOf plan troupe view → view_read (node_names plan) troupe (name_at plan.names troupe) (view_row view) ≡ Some view
  view_complete troupe view is =
      let nodes = node_names plan in
      let name = name_at plan.names troupe in
      let entries = entries_text (spelled plan) view.entries in
      let number = codes " " ++ decimal view.incarnation in
      let row = view_row view in
      let few : length view.entries ≤ length row = omega (arith, entries_many view.entries, longer number entries, longer (name_at plan.names view.troupe) (number ++ entries), longer (codes "view ") (name_at plan.names view.troupe ++ (number ++ entries))) in
      let named : behind_prefix name (name_at plan.names view.troupe ++ (number ++ entries)) ≡ Some (number ++ entries) = ap (λ k. behind_prefix name (name_at plan.names k ++ (number ++ entries))) is.0 ∙ passed_front name (number ++ entries) in
      ap (λ r. from_some r (said_read nodes (length row) troupe)) named
      ∙ ap (λ r. then_read r (λ n rest. option_map (view_of troupe n) (entries_read nodes (length row) rest))) (long_complete (codes " ") view.incarnation entries is.1 (entries_parts view.entries))
      ∙ ap (option_map (view_of troupe view.incarnation)) (entries_complete (length row) view.entries few is.2)
      ∙ ap (λ k. Some (view_of k view.incarnation view.entries)) (sym is.0)

module _ (plan : Plan) (own : ℕ) (hosted : Option Hosted) (is_spelled : IsSpelled plan) where
  -- ---- lines

  pub ring_reads : (h : Happened) → 0 < length (node_names plan) → troupe_at plan.deployment own ≡ None → Reads plan own hosted (Events h) (ringmaster_line (spelled plan) None) (with_views plan (noted_by h) [])
  ring_reads h some none =
      let name = name_at (node_names plan) 0 in
      let inner = name ++ codes " live" in
      let clean = clean_both (codes "ringmaster ") inner refl (clean_both name (codes " live") (name_clean (node_names plan) is_spelled.nodes 0 some) refl) in
      let read : stage_after plan own hosted (Events h) (codes "ringmaster " ++ inner) ≡ Some (with_views plan (noted_by h) []) =
      ap (λ o. ring_if plan o (noted_by h) inner) none ∙ ap (λ r. from_some r (λ rest. only_if (bytes_eq rest (codes " live")) (Some (with_views plan (noted_by h) [])))) (passed_front name (codes " live")) in
      text_read plan own hosted (Events h) (with_views plan (noted_by h) []) (line (codes "ringmaster " ++ inner)) (ringmaster_line (spelled plan) None) (ap line (four_texts (codes "ringmaster ") name (codes " ") (codes "live"))) (one_read plan own hosted (Events h) (codes "ringmaster " ++ inner) (with_views plan (noted_by h) []) clean read)

  view_clean : (troupe : ℕ) (view : View) → troupe < length plan.names → IsViewOf plan troupe view → is_clean (view_row plan is_spelled.nodes view) ≡ true
  view_clean troupe view few is =
      let name = name_at plan.names view.troupe in
      let entries = entries_text (spelled plan) view.entries in
      let here : view.troupe < length plan.names = subst (λ k. k < length plan.names) (sym is.0) few in
      clean_both (codes "view ") (name ++ ((codes " " ++ decimal view.incarnation) ++ entries)) refl (clean_both name ((codes " " ++ decimal view.incarnation) ++ entries) (name_clean plan.names is_spelled.modules view.troupe here) (clean_both (codes " " ++ decimal view.incarnation) entries (clean_both (codes " ") (decimal view.incarnation) refl (decimal_clean view.incarnation)) (entries_clean plan is_spelled.nodes view.entries is.2)))

  pub watched : (notes : List Noted) (views : List View) → length views < length plan.names → with_views plan notes views ≡ Watching notes views
  watched notes views few = ap (λ t. cond t (Done notes None (Some views)) (Watching notes views)) (ne_eqb (length views) (length plan.names) (λ e. omega (arith, few, e)))

  view_reads : (notes : List Noted) (done : List View) (view : View) → length done < length plan.names → IsViewOf plan (length done) view → Reads plan own hosted (with_views plan notes done) (view_line (spelled plan) view) (with_views plan notes (done ++ view ∷ []))
  view_reads notes done view few is =
      let row = view_row plan is_spelled.nodes view in
      let count = is_spelled.few in
      let within : nat_le (length done) 65535 ≡ true = le-leb (length done) 65535 (omega (arith, few, count)) in
      let read : stage_after plan own hosted (Watching notes done) row ≡ Some (with_views plan notes (done ++ view ∷ [])) =
      ap (λ t. only_if t (option_map (λ (v : View). with_views plan notes (done ++ v ∷ [])) (view_read (node_names plan) (length done) (name_at plan.names (length done)) row))) within
      ∙ ap (option_map (λ (v : View). with_views plan notes (done ++ v ∷ []))) (view_complete plan is_spelled.nodes (length done) view is) in
      let one = one_read plan own hosted (Watching notes done) row (with_views plan notes (done ++ view ∷ [])) (view_clean (length done) view few is) read in
      subst (λ s. Reads plan own hosted s (view_line (spelled plan) view) (with_views plan notes (done ++ view ∷ []))) (sym (watched notes done few)) (text_read plan own hosted (Watching notes done) (with_views plan notes (done ++ view ∷ [])) (line row) (view_line (spelled plan) view) (ap line (view_text plan is_spelled.nodes (codes "view ") (name_at plan.names view.troupe) (codes " ") (decimal view.incarnation) (entries_text (spelled plan) view.entries))) one)

  -- the rest of the views
  pub views_read : (notes : List Noted) (done views : List View) → AreViewsFrom plan (length done) views → length (done ++ views) ≡ length plan.names → Reads plan own hosted (with_views plan notes done) (views_lines (spelled plan) views) (Done notes None (Some (done ++ views)))
  views_read notes done [] all count =
      let whole = append-nil done in
      to_read plan own hosted (with_views plan notes done) (with_views plan notes done) (Done notes None (Some (done ++ []))) [] (ap (λ t. cond t (Done notes None (Some done)) (Watching notes done)) (eq-eqb (length done) (length plan.names) (ap length (sym whole) ∙ count)) ∙ ap (λ vs. Done notes None (Some vs)) (sym whole)) (none_read plan own hosted (with_views plan notes done))
  views_read notes done (view ∷ views) all count =
      let few : length done < length plan.names = omega (arith, count, length-append done (view ∷ views)) in
      let group = append_assoc done (view ∷ []) views in
      let next : length done + 1 ≡ length (done ++ view ∷ []) = omega (arith, length-append done (view ∷ [])) in
      let later = views_read notes (done ++ view ∷ []) views (subst (λ k. AreViewsFrom plan k views) next all.1) (ap length group ∙ count) in
      let mid = with_views plan notes (done ++ view ∷ []) in
      both_read plan own hosted (with_views plan notes done) mid (Done notes None (Some (done ++ view ∷ views))) (view_line (spelled plan) view) (views_lines (spelled plan) views) (view_reads notes done view few all.0) (to_read plan own hosted mid (Done notes None (Some ((done ++ view ∷ []) ++ views))) (Done notes None (Some (done ++ view ∷ views))) (views_lines (spelled plan) views) (ap (λ vs. Done notes None (Some vs)) group) later)

  views_from : (number : ℕ) (views : List View) → ((m : ℕ) (view : View) → slice_get views m ≡ Some view → IsViewOf plan (number + m) view) → AreViewsFrom plan number views
  views_from number [] each = tt
  views_from number (view ∷ views) each =
      let here : number + 0 ≡ number = omega arith in
      (subst (λ n. IsViewOf plan n view) here (each 0 view refl), views_from (number + 1) views (λ m v at. let there : number + suc m ≡ number + 1 + m = omega arith in subst (λ n. IsViewOf plan n v) there (each (suc m) v at)))

  -- the Ringmaster's lines
  pub ring_read : (h : Happened) (views : List View) → 0 < length (node_names plan) → troupe_at plan.deployment own ≡ None → AreViews plan views → Reads plan own hosted (Events h) (ringmaster_line (spelled plan) None ++ views_lines (spelled plan) views) (Done (noted_by h) None (Some views))
  ring_read h views some none are =
      let all = views_from 0 views (λ m view at. let here : m ≡ 0 + m = omega arith in subst (λ n. IsViewOf plan n view) here (are.each m view at)) in
      both_read plan own hosted (Events h) (with_views plan (noted_by h) []) (Done (noted_by h) None (Some views)) (ringmaster_line (spelled plan) None) (views_lines (spelled plan) views) (ring_reads h some none) (views_read (noted_by h) [] views all are.all)
