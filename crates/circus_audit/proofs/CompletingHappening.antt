-- The lines of what happened are read.
use Rattle.std.specs.List.{AllByRecursion, flat_map}
use Rattle.std.specs.Fmt.{decimal}
use Rattle.std.proofs.Common.{◌≡◌, ◌∙◌, ℕ, ◌+◌, ◌<◌, ◌≤◌, ◌^◌, true, List, [], ◌∷◌, ◌++◌, length, map, codes, Option, Some, None, option_map, refl, sym, ap, subst, arith, append_assoc, append-nil, length-append}
use Rattle.std.proofs.lemmas.List.{length-map}
use Rattle.hex.specs.Hex.{encode_lower}
use Rattle.circus_record.specs.Line.{line}
use Rattle.circus_record.specs.Naming.{host_name}
use Rattle.circus_node.specs.declared.event.Event.{Event}
use Rattle.circus_node.specs.declared.event.Event.TheVariants.{Datagram, Tick, Down, Join}
use Rattle.circus_node.specs.declared.event.Give.{Give}
use Rattle.circus_member_rules.specs.declared.occurrence.Difference.{Difference}
use Rattle.circus_serve.specs.NodeText.{event_line, give_line, reply_text, differ_line}
use Rattle.circus_config.specs.declared.plan.Plan.{Plan}
use Rattle.circus_audit.specs.Possible.{IsOther, CanCome, CanBeGiven}
use Rattle.circus_audit.specs.RecordText.{Stray, what_came, stray_line, IsStray, noted_lines, all_noted_lines}
use Rattle.circus_audit.specs.RecordText as texts
use Rattle.circus_audit.specs.declared.given.GivenEvent.{GivenEvent}
use Rattle.circus_audit.specs.declared.noted.Differing.{Differing}
use Rattle.circus_audit.specs.declared.noted.Noted.{Noted}
use Rattle.circus_audit.specs.declared.noted.Kind.{Kind}
use Rattle.circus_audit.specs.declared.noted.Kind.TheVariants.{Gives, Differences, Foreign}
use Rattle.circus_audit.specs.declared.noted.Happened.{Happened}
use Rattle.circus_audit.specs.declared.setting.Hosted.{Hosted}
use Rattle.circus_audit.specs.declared.stage.Stage.{Stage}
use Rattle.circus_audit.specs.declared.stage.Stage.TheVariants.{Events}
use Rattle.circus_audit.specs.Seen.Names.{name_at}
use Rattle.circus_audit.specs.Seen.Events.{differing_read}
use Rattle.circus_audit.specs.Seen.Happening.{may_follow, with_last, begin_event}
use Rattle.circus_audit.specs.Seen.Reading.{node_names, noted_by, stage_after}
use Rattle.circus_audit.proofs.SoundingEvents.{spelled, four_texts}
use Rattle.circus_audit.proofs.SoundingHappening.{differing_line}
use Rattle.circus_audit.proofs.OneLine.{is_clean, clean_both, decimal_clean, bytes_clean}
use Rattle.circus_audit.proofs.Completing.{AreNames, parts}
use Rattle.circus_audit.proofs.CompletingNames.{name_clean}
use Rattle.circus_audit.proofs.CompletingEvents.{foreign_complete, differing_complete, event_complete, give_complete}
use Rattle.circus_audit.proofs.CompletingRows.{Reads, none_read, one_read, both_read, text_read, to_read}

-- the text of two replies, which is kept until their ask is known
abbrev pub differing_from : Plan → Difference → Differing
differing_from plan d = record {
  run = d.run;
  ask = d.ask;
  replies = reply_text (spelled plan) d.first d.first_reply ++ reply_text (spelled plan) d.second d.second_reply;
}

abbrev pub noted_so : Option Event → List Give → List Differing → Noted
noted_so event gives differing = record { event = event; gives = gives; differing = differing }

abbrev pub noted_from : Plan → GivenEvent → Noted
noted_from plan e = noted_so e.event e.gives (map (differing_from plan) e.differences)

six_texts : (d r a n x y : List ℕ) → d ++ (r ++ (a ++ (n ++ (x ++ y)))) ≡ ((((d ++ r) ++ a) ++ n) ++ x) ++ y
six_texts d r a n x y = simp append_assoc

pub differ_text : (plan : Plan) (d : Difference) → differing_line (differing_from plan d) ≡ differ_line (spelled plan) d
differ_text plan d = ap line (six_texts (codes "differ run ") (decimal d.run) (codes " ask ") (decimal d.ask) (reply_text (spelled plan) d.first d.first_reply) (reply_text (spelled plan) d.second d.second_reply))

differs_text : (plan : Plan) (ds : List Difference) → flat_map differing_line (map (differing_from plan) ds) ≡ flat_map (differ_line (spelled plan)) ds
differs_text plan [] = refl
differs_text plan (d ∷ ds) = λ i. differ_text plan d i ++ differs_text plan ds i

-- replies on one line, behind a number
abbrev pub IsPlain : Differing → Type 0
IsPlain d = (d.run < 2 ^ 32) × (d.ask < 2 ^ 32) × (parts d.replies ≡ true) × (is_clean d.replies ≡ true)

module _ (plan : Plan) (own : ℕ) (hosted : Option Hosted) (names : AreNames (node_names plan)) where
  -- what may stand in a record so, but the replies
  pub record CanStand (n : texts.Noted) : Type 0 where
    pub event : CanCome plan own n.given.event
    pub gives : AllByRecursion (CanBeGiven plan own) n.given.gives
    pub differing : AllByRecursion IsPlain (map (differing_from plan) n.given.differences)
    pub strays : AllByRecursion IsStray n.strays

  -- ---- clean lines

  pub other_clean : (n : ℕ) → IsOther plan own n → is_clean (name_at (node_names plan) n) ≡ true
  other_clean n is = name_clean (node_names plan) names n (subst (λ k. n < k) (sym (length-map plan.deployment.nodes host_name)) is.0)

  addressed_clean : (node : ℕ) (bytes : List ℕ) → IsOther plan own node → AllByRecursion (λ b. b < 2 ^ 8) bytes → is_clean (name_at (node_names plan) node ++ (codes " " ++ encode_lower bytes)) ≡ true
  addressed_clean node bytes is small =
      clean_both (name_at (node_names plan) node) (codes " " ++ encode_lower bytes) (other_clean node is) (clean_both (codes " ") (encode_lower bytes) refl (bytes_clean bytes small))

  came_clean : (event : Option Event) → CanCome plan own event → is_clean (what_came (spelled plan) event) ≡ true
  came_clean None can = refl
  came_clean (Some (Datagram from bytes)) can =
      ap is_clean (sym (four_texts (codes "datagram ") (name_at (node_names plan) from) (codes " ") (encode_lower bytes)))
      ∙ clean_both (codes "datagram ") (name_at (node_names plan) from ++ (codes " " ++ encode_lower bytes)) refl (addressed_clean from bytes can.0 can.1)
  came_clean (Some Tick) can = refl
  came_clean (Some (Down node)) can = clean_both (codes "down ") (name_at (node_names plan) node) refl (other_clean node can)
  came_clean (Some Join) can = refl

  -- ---- the lines of an event

  event_reads : (h : Happened) (event : Option Event) → CanCome plan own event → length (noted_by h) < 2 ^ 32 → Reads plan own hosted (Events h) (event_line (length (noted_by h)) (what_came (spelled plan) event)) (Events (begin_event (noted_by h) event))
  event_reads h event can few =
      let number = length (noted_by h) in
      let what = what_came (spelled plan) event in
      let inner = decimal number ++ (codes " " ++ what) in
      let clean = clean_both (codes "event ") inner refl (clean_both (decimal number) (codes " " ++ what) (decimal_clean number) (clean_both (codes " ") what refl (came_clean event can))) in
      let read : stage_after plan own hosted (Events h) (codes "event " ++ inner) ≡ Some (Events (begin_event (noted_by h) event)) =
      ap (λ r. option_map (λ (n : Happened). Events n) (option_map (begin_event (noted_by h)) r)) (event_complete plan own names number event few can) in
      text_read plan own hosted (Events h) (Events (begin_event (noted_by h) event)) (line (codes "event " ++ inner)) (event_line number what) (ap line (four_texts (codes "event ") (decimal number) (codes " ") what)) (one_read plan own hosted (Events h) (codes "event " ++ inner) (Events (begin_event (noted_by h) event)) clean read)

  abbrev giving_so : List Noted → Option Event → List Give → Stage
  giving_so earlier event gives = Events (with_last earlier Gives (noted_so event gives []))

  give_reads : (earlier : List Noted) (event : Option Event) (done : List Give) (give : Give) → CanBeGiven plan own give → Reads plan own hosted (giving_so earlier event done) (give_line (spelled plan) give) (giving_so earlier event (done ++ give ∷ []))
  give_reads earlier event done give can =
      let inner = name_at (node_names plan) give.to ++ (codes " " ++ encode_lower give.bytes) in
      let clean = clean_both (codes "give ") inner refl (addressed_clean give.to give.bytes can.0 can.1) in
      let read : stage_after plan own hosted (giving_so earlier event done) (codes "give " ++ inner) ≡ Some (giving_so earlier event (done ++ give ∷ [])) =
      ap (λ r. option_map (λ (n : Happened). Events n) (option_map (λ (g : Give). with_last earlier Gives (noted_so event (done ++ g ∷ []) [])) r)) (give_complete plan own names give can) in
      text_read plan own hosted (giving_so earlier event done) (giving_so earlier event (done ++ give ∷ [])) (line (codes "give " ++ inner)) (give_line (spelled plan) give) (ap line (four_texts (codes "give ") (name_at (node_names plan) give.to) (codes " ") (encode_lower give.bytes))) (one_read plan own hosted (giving_so earlier event done) (codes "give " ++ inner) (giving_so earlier event (done ++ give ∷ [])) clean read)

  gives_read : (earlier : List Noted) (event : Option Event) (done gives : List Give) → AllByRecursion (CanBeGiven plan own) gives → Reads plan own hosted (giving_so earlier event done) (flat_map (give_line (spelled plan)) gives) (giving_so earlier event (done ++ gives))
  gives_read earlier event done [] can = to_read plan own hosted (giving_so earlier event done) (giving_so earlier event done) (giving_so earlier event (done ++ [])) [] (ap (giving_so earlier event) (sym (append-nil done))) (none_read plan own hosted (giving_so earlier event done))
  gives_read earlier event done (give ∷ gives) can =
      let later = gives_read earlier event (done ++ give ∷ []) gives can.1 in
      both_read plan own hosted (giving_so earlier event done) (giving_so earlier event (done ++ give ∷ [])) (giving_so earlier event (done ++ give ∷ gives)) (give_line (spelled plan) give) (flat_map (give_line (spelled plan)) gives) (give_reads earlier event done give can.0) (to_read plan own hosted (giving_so earlier event (done ++ give ∷ [])) (giving_so earlier event ((done ++ give ∷ []) ++ gives)) (giving_so earlier event (done ++ give ∷ gives)) (flat_map (give_line (spelled plan)) gives) (ap (giving_so earlier event) (append_assoc done (give ∷ []) gives)) later)

  abbrev differing_so : List Noted → Kind → Option Event → List Give → List Differing → Stage
  differing_so earlier kind event gives ds = Events (with_last earlier kind (noted_so event gives ds))

  differ_go : (earlier : List Noted) (kind : Kind) (event : Option Event) (gives : List Give) (done : List Differing) (inner : List ℕ) → may_follow Differences kind ≡ true → stage_after plan own hosted (differing_so earlier kind event gives done) (codes "differ run " ++ inner) ≡ option_map (λ (n : Happened). Events n) (option_map (λ (d : Differing). with_last earlier Differences (noted_so event gives (done ++ d ∷ []))) (differing_read inner))
  differ_go earlier Gives event gives done inner may = refl
  differ_go earlier Differences event gives done inner may = refl
  differ_go earlier Foreign event gives done inner may = cc

  differ_reads : (earlier : List Noted) (kind : Kind) (event : Option Event) (gives : List Give) (done : List Differing) (d : Differing) → may_follow Differences kind ≡ true → IsPlain d → Reads plan own hosted (differing_so earlier kind event gives done) (differing_line d) (differing_so earlier Differences event gives (done ++ d ∷ []))
  differ_reads earlier kind event gives done d may is =
      let numbers = decimal d.ask ++ d.replies in
      let inner = decimal d.run ++ (codes " ask " ++ numbers) in
      let clean = clean_both (codes "differ run ") inner refl (clean_both (decimal d.run) (codes " ask " ++ numbers) (decimal_clean d.run) (clean_both (codes " ask ") numbers refl (clean_both (decimal d.ask) d.replies (decimal_clean d.ask) is.3))) in
      let read = differ_go earlier kind event gives done inner may ∙ ap (λ r. option_map (λ (n : Happened). Events n) (option_map (λ (x : Differing). with_last earlier Differences (noted_so event gives (done ++ x ∷ []))) r)) (differing_complete d is.0 is.1 is.2) in
      one_read plan own hosted (differing_so earlier kind event gives done) (codes "differ run " ++ inner) (differing_so earlier Differences event gives (done ++ d ∷ [])) clean read

  differs_read : (earlier : List Noted) (kind : Kind) (event : Option Event) (gives : List Give) (done ds : List Differing) → may_follow Differences kind ≡ true → AllByRecursion IsPlain ds → (next : Kind) × Reads plan own hosted (differing_so earlier kind event gives done) (flat_map differing_line ds) (differing_so earlier next event gives (done ++ ds))
  differs_read earlier kind event gives done [] may all = (kind, to_read plan own hosted (differing_so earlier kind event gives done) (differing_so earlier kind event gives done) (differing_so earlier kind event gives (done ++ [])) [] (ap (differing_so earlier kind event gives) (sym (append-nil done))) (none_read plan own hosted (differing_so earlier kind event gives done)))
  differs_read earlier kind event gives done (d ∷ ds) may all =
      let later = differs_read earlier Differences event gives (done ++ d ∷ []) ds refl all.1 in
      let mid = differing_so earlier Differences event gives (done ++ d ∷ []) in
      let end = differing_so earlier later.0 event gives (done ++ d ∷ ds) in
      (later.0, both_read plan own hosted (differing_so earlier kind event gives done) mid end (differing_line d) (flat_map differing_line ds) (differ_reads earlier kind event gives done d may all.0) (to_read plan own hosted mid (differing_so earlier later.0 event gives ((done ++ d ∷ []) ++ ds)) end (flat_map differing_line ds) (ap (differing_so earlier later.0 event gives) (append_assoc done (d ∷ []) ds)) later.1))

  stray_reads : (earlier : List Noted) (kind : Kind) (n : Noted) (stray : Stray) → IsStray stray → Reads plan own hosted (Events (with_last earlier kind n)) (stray_line stray) (Events (with_last earlier Foreign n))
  stray_reads earlier kind n stray is =
      let inner = decimal stray.port ++ (codes " " ++ encode_lower stray.bytes) in
      let clean = clean_both (codes "foreign ") inner refl (clean_both (decimal stray.port) (codes " " ++ encode_lower stray.bytes) (decimal_clean stray.port) (clean_both (codes " ") (encode_lower stray.bytes) refl (bytes_clean stray.bytes is.1))) in
      let read : stage_after plan own hosted (Events (with_last earlier kind n)) (codes "foreign " ++ inner) ≡ Some (Events (with_last earlier Foreign n)) =
      ap (λ r. option_map (λ (x : Happened). Events x) (option_map (λ (q : ℕ × List ℕ). with_last earlier Foreign n) r)) (foreign_complete stray is) in
      text_read plan own hosted (Events (with_last earlier kind n)) (Events (with_last earlier Foreign n)) (line (codes "foreign " ++ inner)) (stray_line stray) (ap line (four_texts (codes "foreign ") (decimal stray.port) (codes " ") (encode_lower stray.bytes))) (one_read plan own hosted (Events (with_last earlier kind n)) (codes "foreign " ++ inner) (Events (with_last earlier Foreign n)) clean read)

  strays_read : (earlier : List Noted) (kind : Kind) (n : Noted) (strays : List Stray) → AllByRecursion IsStray strays → (next : Kind) × Reads plan own hosted (Events (with_last earlier kind n)) (flat_map stray_line strays) (Events (with_last earlier next n))
  strays_read earlier kind n [] all = (kind, none_read plan own hosted (Events (with_last earlier kind n)))
  strays_read earlier kind n (stray ∷ strays) all =
      let later = strays_read earlier Foreign n strays all.1 in
      (later.0, both_read plan own hosted (Events (with_last earlier kind n)) (Events (with_last earlier Foreign n)) (Events (with_last earlier later.0 n)) (stray_line stray) (flat_map stray_line strays) (stray_reads earlier kind n stray all.0) later.1)

  -- ---- whole events

  noted_reads : (h : Happened) (n : texts.Noted) → CanStand n → length (noted_by h) < 2 ^ 32 → (kind : Kind) × Reads plan own hosted (Events h) (noted_lines (spelled plan) (length (noted_by h)) n) (Events (with_last (noted_by h) kind (noted_from plan n.given)))
  noted_reads h n can few =
      let e = n.given in
      let earlier = noted_by h in
      let ds = map (differing_from plan) e.differences in
      let first = event_line (length earlier) (what_came (spelled plan) e.event) in
      let gives = flat_map (give_line (spelled plan)) e.gives in
      let differs = flat_map (differ_line (spelled plan)) e.differences in
      let strays = flat_map stray_line n.strays in
      let given = giving_so earlier e.event e.gives in
      let one = both_read plan own hosted (Events h) (giving_so earlier e.event []) given first gives (event_reads h e.event can.event few) (gives_read earlier e.event [] e.gives can.gives) in
      let differing = differs_read earlier Gives e.event e.gives [] ds refl can.differing in
      let two = text_read plan own hosted given (differing_so earlier differing.0 e.event e.gives ds) (flat_map differing_line ds) differs (differs_text plan e.differences) differing.1 in
      let last = strays_read earlier differing.0 (noted_from plan e) n.strays can.strays in
      let three = both_read plan own hosted (Events h) given (differing_so earlier differing.0 e.event e.gives ds) (first ++ gives) differs one two in
      (last.0, both_read plan own hosted (Events h) (differing_so earlier differing.0 e.event e.gives ds) (Events (with_last earlier last.0 (noted_from plan e))) ((first ++ gives) ++ differs) strays three last.1)

  -- what happened, by its lines
  pub record Happen (h : Happened) (number : ℕ) (notes : List texts.Noted) : Type 0 where
    pub next : Happened
    pub are : noted_by next ≡ noted_by h ++ map (λ (n : texts.Noted). noted_from plan n.given) notes
    pub read : Reads plan own hosted (Events h) (all_noted_lines (spelled plan) number notes) (Events next)

  pub all_noted_read : (h : Happened) (number : ℕ) (notes : List texts.Noted) → number ≡ length (noted_by h) → AllByRecursion CanStand notes → number + length notes ≤ 2 ^ 32 → Happen h number notes
  all_noted_read h number [] is can few = record { next = h; are = sym (append-nil (noted_by h)); read = none_read plan own hosted (Events h) }
  all_noted_read h number (n ∷ notes) is can few =
      let one = noted_reads h n can.0 (omega (arith, is, few)) in
      let earlier = noted_by h in
      let mid = with_last earlier one.0 (noted_from plan n.given) in
      let longer : number + 1 ≡ length (earlier ++ noted_from plan n.given ∷ []) = omega (arith, is, length-append earlier (noted_from plan n.given ∷ [])) in
      let later = all_noted_read mid (number + 1) notes longer can.1 (omega (arith, few)) in
      let first = text_read plan own hosted (Events h) (Events mid) (noted_lines (spelled plan) (length earlier) n) (noted_lines (spelled plan) number n) (ap (λ k. noted_lines (spelled plan) k n) (sym is)) one.1 in
      record {
        next = later.next;
        are = later.are ∙ append_assoc earlier (noted_from plan n.given ∷ []) (map (λ (x : texts.Noted). noted_from plan x.given) notes);
        read = both_read plan own hosted (Events h) (Events mid) (Events later.next) (noted_lines (spelled plan) number n) (all_noted_lines (spelled plan) (number + 1) notes) first later.read;
      }
