-- The lines of events that are read are those of what was read.
use Rattle.std.specs.Str.{bytes_eq}
use Rattle.std.specs.Fmt.{decimal}
use Rattle.std.proofs.Common.{◌≡◌, ◌≢◌, ◌∙◌, ℕ, ◌<◌, ◌^◌, Bool, true, false, cond, nat_eq, inl, inr, List, ◌++◌, length, codes, Option, Some, None, option_map, refl, sym, ap, subst, arith, append_assoc, append-nil}
use Rattle.std.proofs.lemmas.Bool.{eqb-true, eqb-false}
use Rattle.std.proofs.lemmas.List.{length-map}
use Rattle.std.proofs.lemmas.Slice.Eq.{bytes_eq-Decides}
use Rattle.hex.specs.Hex.{encode_lower}
use Rattle.circus_record.specs.Naming.{Names, host_name}
use Rattle.circus_config.specs.declared.plan.Plan.{Plan}
use Rattle.circus_node.specs.declared.event.Event.{Event}
use Rattle.circus_node.specs.declared.event.Event.TheVariants.{Datagram, Tick, Down, Join}
use Rattle.circus_node.specs.declared.event.Give.{Give}
use Rattle.circus_value_text.specs.Reading.{Read, behind_prefix, number_read}
use Rattle.circus_value_text.specs.WordReading.{bytes_of}
use Rattle.circus_value_text.proofs.Marks.{pair_is, passed_stands, and_then_some}
use Rattle.circus_value_text.proofs.Numbers.{number_sound}
use Rattle.circus_value_text.proofs.WordsInverse.{bytes_sound}
use Rattle.circus_audit.specs.Possible.{AreBytes, IsOther, CanCome, CanBeGiven}
use Rattle.circus_audit.specs.RecordText.{what_came, IsStray}
use Rattle.circus_audit.specs.declared.noted.Differing.{Differing}
use Rattle.circus_audit.specs.Seen.Answers.{then_read, from_some, or_else, whole, only_if}
use Rattle.circus_audit.specs.Seen.Names.{number_of_name, other, name_at}
use Rattle.circus_audit.specs.Seen.Events.{addressed_by, foreign_read, bare_event, node_and_bytes, datagram_read, down_read, what_read, event_read, give_read, differing_read}
use Rattle.circus_audit.specs.Seen.Reading.{node_names}
use Rattle.circus_audit.proofs.Opening.{found_is, from_is, map_is, only_is, or_is}
use Rattle.circus_audit.proofs.Sounding.{Sounds, whole_some}
use Rattle.circus_audit.proofs.SoundingMember.{named_sound}

-- names by their lists
abbrev pub spelled : Plan → Names
spelled plan = record { node = name_at (node_names plan); troupe = name_at plan.names }

-- four texts, as they are written
pub four_texts : (a b c d : List ℕ) → a ++ (b ++ (c ++ d)) ≡ ((a ++ b) ++ c) ++ d
four_texts a b c d = simp append_assoc

-- ---- pieces of lines

pub other_sound : (nodes : List (List ℕ)) (own : ℕ) → Sounds (λ text. other own (number_of_name nodes text)) (name_at nodes) (λ n. (n < length nodes) × (n ≢ own))
other_sound nodes own text n rest is =
    let x = and_then_some (number_of_name nodes text) (λ m later. cond {A = Read ℕ} (nat_eq m own) None (Some (m, later))) (n, rest) is in
    let one = named_sound nodes text x.0.0 x.0.1 x.1 in
    by_test x.0.0 x.0.1 one.0 one.1 (nat_eq x.0.0 own) refl x.2
  where
    by_test : (m : ℕ) (later : List ℕ) → text ≡ name_at nodes m ++ later → m < length nodes → (same : Bool) → nat_eq m own ≡ same → cond {A = Read ℕ} same None (Some (m, later)) ≡ Some (n, rest) → (text ≡ name_at nodes n ++ rest) × ((n < length nodes) × (n ≢ own))
    by_test m later stands few true same is = cc
    by_test m later stands few false same is =
        let parts = pair_is m n later rest is in
        (stands ∙ (λ i. name_at nodes (parts.0 i) ++ parts.1 i), (subst (λ k. k < length nodes) parts.0 few, subst (λ k. k ≢ own) parts.0 (eqb-false m own same)))

addressed_by_sound : (node : ℕ) (text : List ℕ) (r : ℕ × List ℕ) → addressed_by node text ≡ Some r → (text ≡ codes " " ++ encode_lower r.1) × (r.0 ≡ node) × AreBytes r.1
addressed_by_sound node text r is =
    let opened = from_is (behind_prefix (codes " ") text) (λ inner. option_map (λ bytes. (node, bytes)) (bytes_of inner)) r is in
    let made = map_is (λ bytes. (node, bytes)) (bytes_of opened.0) r opened.2 in
    let bytes = bytes_sound opened.0 made.0 made.1 in (
      passed_stands (codes " ") text opened.0 opened.1 ∙ ap (λ x. codes " " ++ x) bytes.0 ∙ ap (λ (p : ℕ × List ℕ). codes " " ++ encode_lower p.1) made.2,
      sym (ap (λ (p : ℕ × List ℕ). p.0) made.2),
      subst (λ (p : ℕ × List ℕ). AreBytes p.1) made.2 bytes.1,
    )

pub addressed_sound : (nodes : List (List ℕ)) (own : ℕ) (text : List ℕ) (r : ℕ × List ℕ) → node_and_bytes nodes own text ≡ Some r → (text ≡ name_at nodes r.0 ++ (codes " " ++ encode_lower r.1)) × ((r.0 < length nodes) × (r.0 ≢ own)) × AreBytes r.1
addressed_sound nodes own text r is =
    let x = found_is (other own (number_of_name nodes text)) addressed_by r is in
    let one = other_sound nodes own text x.0.0 x.0.1 x.1 in
    let two = addressed_by_sound x.0.0 x.0.1 r x.2 in
    (one.0 ∙ (λ i. name_at nodes (sym two.1 i) ++ two.0 i), subst (λ k. (k < length nodes) × (k ≢ own)) (sym two.1) one.1, two.2)

pub foreign_sound : (text : List ℕ) (r : ℕ × List ℕ) → foreign_read text ≡ Some r → (text ≡ decimal r.0 ++ (codes " " ++ encode_lower r.1)) × IsStray (record { port = r.0; bytes = r.1 })
foreign_sound text r is =
    let x = found_is (number_read 65535 text) addressed_by r is in
    let one = number_sound 65535 x.0.0 text x.0.1 (omega arith) x.1 in
    let two = addressed_by_sound x.0.0 x.0.1 r x.2 in
    let few : r.0 < 2 ^ 16 = omega (arith, one.1, two.1) in
    (one.0 ∙ (λ i. decimal (sym two.1 i) ++ two.0 i), (few, two.2))

abbrev pub differing_of : ℕ → ℕ → List ℕ → Differing
differing_of run ask replies = record { run = run; ask = ask; replies = replies }

pub differing_sound : (text : List ℕ) (d : Differing) → differing_read text ≡ Some d → (text ≡ decimal d.run ++ (codes " ask " ++ (decimal d.ask ++ d.replies))) × (d.run < 2 ^ 32) × (d.ask < 2 ^ 32)
differing_sound text d is =
    let x = found_is (number_read 4294967295 text) (λ run rest. from_some (behind_prefix (codes " ask ") rest) (λ inner. then_read (number_read 4294967295 inner) (λ ask replies. Some (differing_of run ask replies)))) d is in
    let opened = from_is (behind_prefix (codes " ask ") x.0.1) (λ inner. then_read (number_read 4294967295 inner) (λ ask replies. Some (differing_of x.0.0 ask replies))) d x.2 in
    let y = found_is (number_read 4294967295 opened.0) (λ ask replies. Some (differing_of x.0.0 ask replies)) d opened.2 in
    let made : differing_of x.0.0 y.0.0 y.0.1 ≡ d = cc (y.2) in
    let run = number_sound 4294967295 x.0.0 text x.0.1 (omega arith) x.1 in
    let ask = number_sound 4294967295 y.0.0 opened.0 y.0.1 (omega arith) y.1 in
    let stands = run.0 ∙ ap (λ w. decimal x.0.0 ++ w) (passed_stands (codes " ask ") x.0.1 opened.0 opened.1 ∙ ap (λ w. codes " ask " ++ w) ask.0) in (
      stands ∙ ap (λ (e : Differing). decimal e.run ++ (codes " ask " ++ (decimal e.ask ++ e.replies))) made,
      subst (λ (e : Differing). e.run < 2 ^ 32) made (omega (arith, run.1)),
      subst (λ (e : Differing). e.ask < 2 ^ 32) made (omega (arith, ask.1)),
    )

pub bytes_same : (text word : List ℕ) → bytes_eq text word ≡ true → text ≡ word
bytes_same text word is = (bytes_eq-Decides text word).0 is

abbrev pub give_of : ℕ × List ℕ → Give
give_of r = record { to = r.0; bytes = r.1 }

module _ (plan : Plan) (own : ℕ) where
  pub other_is : (n : ℕ) → (n < length (node_names plan)) × (n ≢ own) → IsOther plan own n
  other_is n is = (subst (λ k. n < k) (length-map plan.deployment.nodes host_name) is.0, is.1)

  -- ---- events

  pub what_sound : (text : List ℕ) (event : Option Event) → what_read (node_names plan) own text ≡ Some event → (text ≡ what_came (spelled plan) event) × CanCome plan own event
  what_sound text event is =
      elim (or_is (behind_prefix (codes "datagram ") text) (λ inner. option_map (λ e. Some e) (datagram_read (node_names plan) own inner)) (or_else (behind_prefix (codes "down ") text) (λ inner. option_map (λ e. Some e) (down_read (node_names plan) own inner)) (bare_event text)) event is) [
        | inl d ↦ datagram d.0 d.1 d.2
        | inr o ↦
            elim (or_is (behind_prefix (codes "down ") text) (λ inner. option_map (λ e. Some e) (down_read (node_names plan) own inner)) (bare_event text) event o.1) [
              | inl d ↦ down d.0 d.1 d.2
              | inr b ↦ bare (bytes_eq text (codes "tick")) (bytes_eq text (codes "join")) (bytes_eq text (codes "boot")) refl refl refl b.1
            ]
      ]
    where
      datagram : (inner : List ℕ) → behind_prefix (codes "datagram ") text ≡ Some inner → option_map (λ (e : Event). Some e) (datagram_read (node_names plan) own inner) ≡ Some event → (text ≡ what_came (spelled plan) event) × CanCome plan own event
      datagram inner mark is =
          let made = map_is (λ (e : Event). Some e) (datagram_read (node_names plan) own inner) event is in
          let built = map_is (λ (r : ℕ × List ℕ). Datagram r.0 r.1) (node_and_bytes (node_names plan) own inner) made.0 made.1 in
          let a = addressed_sound (node_names plan) own inner built.0 built.1 in
          let same : Some (Datagram built.0.0 built.0.1) ≡ event = ap (λ (e : Event). Some e) built.2 ∙ made.2 in (
            passed_stands (codes "datagram ") text inner mark ∙ ap (λ x. codes "datagram " ++ x) a.0 ∙ four_texts (codes "datagram ") (name_at (node_names plan) built.0.0) (codes " ") (encode_lower built.0.1) ∙ ap (what_came (spelled plan)) same,
            subst (CanCome plan own) same (other_is built.0.0 a.1, a.2),
          )

      down : (inner : List ℕ) → behind_prefix (codes "down ") text ≡ Some inner → option_map (λ (e : Event). Some e) (down_read (node_names plan) own inner) ≡ Some event → (text ≡ what_came (spelled plan) event) × CanCome plan own event
      down inner mark is =
          let made = map_is (λ (e : Event). Some e) (down_read (node_names plan) own inner) event is in
          let built = map_is (λ (n : ℕ). Down n) (whole (other own (number_of_name (node_names plan) inner))) made.0 made.1 in
          let w = whole_some (other own (number_of_name (node_names plan) inner)) built.0 built.1 in
          let a = other_sound (node_names plan) own inner built.0 w.0 w.1 in
          let name : inner ≡ name_at (node_names plan) built.0 = a.0 ∙ ap (λ x. name_at (node_names plan) built.0 ++ x) w.2 ∙ append-nil (name_at (node_names plan) built.0) in
          let same : Some (Down built.0) ≡ event = ap (λ (e : Event). Some e) built.2 ∙ made.2 in (
            passed_stands (codes "down ") text inner mark ∙ ap (λ x. codes "down " ++ x) name ∙ ap (what_came (spelled plan)) same,
            subst (CanCome plan own) same (other_is built.0 a.1),
          )

      bare : (tick join boot : Bool) → bytes_eq text (codes "tick") ≡ tick → bytes_eq text (codes "join") ≡ join → bytes_eq text (codes "boot") ≡ boot → cond tick (Some (Some Tick)) (cond join (Some (Some Join)) (cond boot (Some None) None)) ≡ Some event → (text ≡ what_came (spelled plan) event) × CanCome plan own event
      bare true join boot t j b is =
          let same : Some Tick ≡ event = cc in
          (bytes_same text (codes "tick") t ∙ ap (what_came (spelled plan)) same, subst (CanCome plan own) same tt)
      bare false true boot t j b is =
          let same : Some Join ≡ event = cc in
          (bytes_same text (codes "join") j ∙ ap (what_came (spelled plan)) same, subst (CanCome plan own) same tt)
      bare false false true t j b is =
          let same : ◌≡◌ {A = Option Event} None event = cc in
          (bytes_same text (codes "boot") b ∙ ap (what_came (spelled plan)) same, subst (CanCome plan own) same tt)
      bare false false false t j b is = cc

  pub event_sound : (number : ℕ) (text : List ℕ) (event : Option Event) → event_read (node_names plan) own number text ≡ Some event → (text ≡ decimal number ++ (codes " " ++ what_came (spelled plan) event)) × CanCome plan own event × (number < 2 ^ 32)
  event_sound number text event is =
      let x = found_is (number_read 4294967295 text) (λ n rest. only_if (nat_eq n number) (from_some (behind_prefix (codes " ") rest) (what_read (node_names plan) own))) event is in
      let test = only_is (nat_eq x.0.0 number) (from_some (behind_prefix (codes " ") x.0.1) (what_read (node_names plan) own)) event x.2 in
      let opened = from_is (behind_prefix (codes " ") x.0.1) (what_read (node_names plan) own) event test.1 in
      let what = what_sound opened.0 event opened.2 in
      let digits = number_sound 4294967295 x.0.0 text x.0.1 (omega arith) x.1 in
      let same = eqb-true x.0.0 number test.0 in
      let later = passed_stands (codes " ") x.0.1 opened.0 opened.1 ∙ ap (λ y. codes " " ++ y) what.0 in
      (digits.0 ∙ (λ i. decimal (same i) ++ later i), what.1, omega (arith, digits.1, same))

  pub give_sound : (text : List ℕ) (give : Give) → give_read (node_names plan) own text ≡ Some give → (text ≡ name_at (node_names plan) give.to ++ (codes " " ++ encode_lower give.bytes)) × CanBeGiven plan own give
  give_sound text give is =
      let made = map_is give_of (node_and_bytes (node_names plan) own text) give is in
      let a = addressed_sound (node_names plan) own text made.0 made.1 in
      (a.0 ∙ ap (λ (g : Give). name_at (node_names plan) g.to ++ (codes " " ++ encode_lower g.bytes)) made.2, subst (CanBeGiven plan own) made.2 (other_is made.0.0 a.1, a.2))
