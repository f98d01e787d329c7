-- The lines of views that are read are those of what was read.
use Rattle.std.specs.List.{AllByRecursion}
use Rattle.std.specs.Fmt.{decimal}
use Rattle.std.proofs.Common.{◌≡◌, ◌∙◌, ℕ, zero, suc, ◌+◌, ◌<◌, ◌^◌, Bool, true, false, cond, List, [], ◌∷◌, ◌++◌, length, slice_get, codes, Option, Some, None, option_map, refl, sym, ap, subst, arith, append_assoc, append-nil}
use Rattle.std.proofs.lemmas.List.{length-map}
use Rattle.circus_collate.specs.declared.view.Since.{Since}
use Rattle.circus_collate.specs.declared.view.Since.TheVariants.{Joining, From}
use Rattle.circus_collate.specs.declared.view.Entry.{Entry}
use Rattle.circus_collate.specs.declared.view.View.{View}
use Rattle.circus_record.specs.Line.{line}
use Rattle.circus_record.specs.Naming.{host_name}
use Rattle.circus_report.specs.ViewLines.{since_text, entry_text, entries_text, view_line, views_lines}
use Rattle.circus_config.specs.declared.plan.Plan.{Plan}
use Rattle.circus_value_text.specs.Reading.{behind_prefix, number_read, is_empty}
use Rattle.circus_value_text.proofs.Marks.{pair_is, passed_stands, seen_as_some}
use Rattle.circus_value_text.proofs.Numbers.{number_sound}
use Rattle.circus_audit.specs.Possible.{IsSince, IsEntry}
use Rattle.circus_audit.specs.Seen.Answers.{then_read, from_some}
use Rattle.circus_audit.specs.Seen.Names.{name_at}
use Rattle.circus_audit.specs.Seen.Lines.{name_behind, long_behind}
use Rattle.circus_audit.specs.Seen.Views.{since_if, since_read, since_behind, entry_read, entries_read, said_read, view_read}
use Rattle.circus_audit.specs.Seen.Reading.{node_names}
use Rattle.circus_audit.proofs.Opening.{found_is, from_is, map_is}
use Rattle.circus_audit.proofs.Sounding.{Sounds, behind_sound, long_sound}
use Rattle.circus_audit.proofs.SoundingMember.{two_sound}
use Rattle.circus_audit.proofs.SoundingRuns.{name_behind_sound}
use Rattle.circus_audit.proofs.SoundingEvents.{spelled}

abbrev entry_of : ℕ → Since → Entry
entry_of node since = record { node = node; since = since }

abbrev view_of : ℕ → ℕ → List Entry → View
view_of troupe incarnation entries = record { troupe = troupe; incarnation = incarnation; entries = entries }

module _ (plan : Plan) where
  since_sound : Sounds since_read since_text (IsSince plan)
  since_sound text since rest is = by_mark (behind_prefix (codes "joining") text) refl is
    where
      by_mark : (r : Option (List ℕ)) → behind_prefix (codes "joining") text ≡ r → since_if text r ≡ Some (since, rest) → (text ≡ since_text since ++ rest) × IsSince plan since
      by_mark (Some later) mark read =
          let parts = pair_is Joining since later rest read in
          (passed_stands (codes "joining") text later mark ∙ (λ i. since_text (parts.0 i) ++ parts.1 i), subst (IsSince plan) parts.0 tt)
      by_mark None mark read =
          let x = seen_as_some (λ first. From first) (number_read 4294967295 text) since rest read in
          let n = number_sound 4294967295 x.0 text rest (omega arith) x.1 in
          let few : x.0 < 2 ^ 32 = omega (arith, n.1) in
          (n.0 ∙ ap (λ y. since_text y ++ rest) (sym x.2), subst (IsSince plan) (sym x.2) few)

  entry_sound : Sounds (entry_read (node_names plan)) (entry_text (spelled plan)) (IsEntry plan)
  entry_sound text entry rest is =
      let nodes = node_names plan in
      let x = two_sound (name_behind (codes " ") nodes) (λ n. codes " " ++ name_at nodes n) (λ n. n < length nodes) since_behind (λ since. codes "=" ++ since_text since) (IsSince plan) entry_of (name_behind_sound (codes " ") nodes) (behind_sound (codes "=") since_read since_text (IsSince plan) since_sound) text entry rest is in
      let few : x.0 < length plan.deployment.nodes = subst (λ k. x.0 < k) (length-map plan.deployment.nodes host_name) x.4 in (
        x.3 ∙ ap (λ y. y ++ rest) (sym (append_assoc (codes " " ++ name_at nodes x.0) (codes "=") (since_text x.1))) ∙ ap (λ y. entry_text (spelled plan) y ++ rest) (sym x.2),
        subst (IsEntry plan) (sym x.2) (few, x.5),
      )

  no_entries : (text : List ℕ) (entries : List Entry) → is_empty text ≡ true → ◌≡◌ {A = Option (List Entry)} (Some []) (Some entries) → (text ≡ entries_text (spelled plan) entries) × AllByRecursion (IsEntry plan) entries
  no_entries [] entries empty is =
      let none : [] ≡ entries = cc in
      (ap (entries_text (spelled plan)) none, subst (AllByRecursion (IsEntry plan)) none tt)
  no_entries (b ∷ text) entries empty is = cc

  entries_sound : (most : ℕ) (text : List ℕ) (entries : List Entry) → entries_read (node_names plan) most text ≡ Some entries → (text ≡ entries_text (spelled plan) entries) × AllByRecursion (IsEntry plan) entries
  entries_sound zero text entries is = by_end (is_empty text) refl is
    where
      by_end : (b : Bool) → is_empty text ≡ b → cond b (Some []) None ≡ Some entries → (text ≡ entries_text (spelled plan) entries) × AllByRecursion (IsEntry plan) entries
      by_end true empty read = no_entries text entries empty read
      by_end false empty read = cc
  entries_sound (suc most) text entries is = by_end (is_empty text) refl (entries_sound most) is
    where
      by_end : (b : Bool) → is_empty text ≡ b → ((later : List ℕ) (es : List Entry) → entries_read (node_names plan) most later ≡ Some es → (later ≡ entries_text (spelled plan) es) × AllByRecursion (IsEntry plan) es) → cond b (Some []) (then_read (entry_read (node_names plan) text) (λ e rest. option_map (λ es. e ∷ es) (entries_read (node_names plan) most rest))) ≡ Some entries → (text ≡ entries_text (spelled plan) entries) × AllByRecursion (IsEntry plan) entries
      by_end true empty go_on read = no_entries text entries empty read
      by_end false empty go_on read =
          let x = found_is (entry_read (node_names plan) text) (λ e rest. option_map (λ es. e ∷ es) (entries_read (node_names plan) most rest)) entries read in
          let y = map_is (λ es. x.0.0 ∷ es) (entries_read (node_names plan) most x.0.1) entries x.2 in
          let one = entry_sound text x.0.0 x.0.1 x.1 in
          let others = go_on x.0.1 y.0 y.1 in
          (one.0 ∙ ap (λ z. entry_text (spelled plan) x.0.0 ++ z) others.0 ∙ ap (entries_text (spelled plan)) y.2, subst (AllByRecursion (IsEntry plan)) y.2 (one.1, others.1))

  -- a view of the troupe with this number
  abbrev pub IsViewOf : ℕ → View → Type 0
  IsViewOf troupe view = (view.troupe ≡ troupe) × (view.incarnation < 2 ^ 32) × AllByRecursion (IsEntry plan) view.entries

  view_text : (v n s d e l : List ℕ) → (v ++ (n ++ ((s ++ d) ++ e))) ++ l ≡ ((((v ++ n) ++ s) ++ d) ++ e) ++ l
  view_text v n s d e l = simp append_assoc

  pub view_sound : (troupe : ℕ) (row : List ℕ) (view : View) → view_read (node_names plan) troupe (name_at plan.names troupe) row ≡ Some view → (line row ≡ view_line (spelled plan) view) × IsViewOf troupe view
  view_sound troupe row view is =
      let nodes = node_names plan in
      let name = name_at plan.names troupe in
      let a = from_is (behind_prefix (codes "view ") row) (λ x. from_some (behind_prefix name x) (said_read nodes (length row) troupe)) view is in
      let b = from_is (behind_prefix name a.0) (said_read nodes (length row) troupe) view a.2 in
      let c = found_is (long_behind (codes " ") b.0) (λ incarnation rest. option_map (view_of troupe incarnation) (entries_read nodes (length row) rest)) view b.2 in
      let d = map_is (view_of troupe c.0.0) (entries_read nodes (length row) c.0.1) view c.2 in
      let number = long_sound (codes " ") b.0 c.0.0 c.0.1 c.1 in
      let entries = entries_sound (length row) c.0.1 d.0 d.1 in
      let stands : row ≡ codes "view " ++ (name ++ ((codes " " ++ decimal c.0.0) ++ entries_text (spelled plan) d.0)) =
      passed_stands (codes "view ") row a.0 a.1 ∙ ap (λ x. codes "view " ++ x) (passed_stands name a.0 b.0 b.1 ∙ ap (λ x. name ++ x) (number.0 ∙ ap (λ x. (codes " " ++ decimal c.0.0) ++ x) entries.0)) in (
        ap line stands ∙ view_text (codes "view ") name (codes " ") (decimal c.0.0) (entries_text (spelled plan) d.0) (10 ∷ []) ∙ ap (view_line (spelled plan)) d.2,
        subst (IsViewOf troupe) d.2 (refl, number.1, entries.1),
      )

  -- views, the first one of the troupe with this number
  abbrev pub AreViewsFrom : ℕ → List View → Type 0
  AreViewsFrom number [] = Unit {0}
  AreViewsFrom number (view ∷ views) = IsViewOf number view × AreViewsFrom (number + 1) views

  pub views_more : (number : ℕ) (views : List View) (view : View) → AreViewsFrom number views → IsViewOf (number + length views) view → AreViewsFrom number (views ++ view ∷ [])
  views_more number [] view all one =
      let here : number + 0 ≡ number = omega arith in
      (subst (λ n. IsViewOf n view) here one, tt)
  views_more number (first ∷ views) view all one =
      let here : number + length (first ∷ views) ≡ number + 1 + length views = omega arith in
      (all.0, views_more (number + 1) views view all.1 (subst (λ n. IsViewOf n view) here one))

  pub views_text_more : (views : List View) (view : View) → views_lines (spelled plan) (views ++ view ∷ []) ≡ views_lines (spelled plan) views ++ view_line (spelled plan) view
  views_text_more [] view = append-nil (view_line (spelled plan) view)
  views_text_more (first ∷ views) view =
      ap (λ x. view_line (spelled plan) first ++ x) (views_text_more views view)
      ∙ sym (append_assoc (view_line (spelled plan) first) (views_lines (spelled plan) views) (view_line (spelled plan) view))

  pub view_at : (number : ℕ) (views : List View) (m : ℕ) (view : View) → AreViewsFrom number views → slice_get views m ≡ Some view → IsViewOf (number + m) view
  view_at number [] m view all is = cc
  view_at number (first ∷ views) zero view all is =
      let same : first ≡ view = cc in
      let here : number ≡ number + 0 = omega arith in
      subst (λ n. IsViewOf n view) here (subst (IsViewOf number) same all.0)
  view_at number (first ∷ views) (suc m) view all is =
      let here : number + 1 + m ≡ number + suc m = omega arith in
      subst (λ n. IsViewOf n view) here (view_at (number + 1) views m view all.1 is)
