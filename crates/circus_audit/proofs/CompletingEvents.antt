-- The lines of events are read.
use Rattle.std.specs.Fmt.{decimal}
use Rattle.std.proofs.Common.{◌≡◌, ◌≢◌, ◌∙◌, ℕ, ◌<◌, ◌^◌, true, nat_eq, List, [], ◌++◌, length, codes, Option, Some, None, option_map, refl, sym, ap, subst, arith, append-nil, eq-eqb}
use Rattle.std.proofs.lemmas.List.{length-map}
use Rattle.hex.specs.Hex.{encode_lower}
use Rattle.circus_record.specs.Naming.{host_name}
use Rattle.circus_config.specs.declared.plan.Plan.{Plan}
use Rattle.circus_node.specs.declared.event.Event.{Event}
use Rattle.circus_node.specs.declared.event.Event.TheVariants.{Datagram, Tick, Down, Join}
use Rattle.circus_node.specs.declared.event.Give.{Give}
use Rattle.circus_value_text.specs.Reading.{behind_prefix, number_read}
use Rattle.circus_value_text.specs.WordReading.{bytes_of}
use Rattle.circus_value_text.proofs.Marks.{passed_front}
use Rattle.circus_value_text.proofs.Numbers.{number_complete}
use Rattle.circus_value_text.proofs.WordsInverse.{bytes_complete}
use Rattle.circus_audit.specs.Possible.{AreBytes, IsOther, CanCome, CanBeGiven}
use Rattle.circus_audit.specs.RecordText.{what_came, Stray, IsStray}
use Rattle.circus_audit.specs.declared.noted.Differing.{Differing}
use Rattle.circus_audit.specs.Seen.Answers.{then_read, from_some, or_else, whole, only_if}
use Rattle.circus_audit.specs.Seen.Names.{number_of_name, other, name_at}
use Rattle.circus_audit.specs.Seen.Events.{addressed_by, foreign_read, bare_event, node_and_bytes, datagram_read, down_read, what_read, event_read, give_read, differing_read}
use Rattle.circus_audit.specs.Seen.Reading.{node_names}
use Rattle.circus_audit.proofs.SoundingEvents.{spelled, four_texts, give_of, differing_of}
use Rattle.circus_audit.proofs.Completing.{AreNames, parts, stops, other_complete}

addressed_by_complete : (node : ℕ) (bytes : List ℕ) → AreBytes bytes → addressed_by node (codes " " ++ encode_lower bytes) ≡ Some (node, bytes)
addressed_by_complete node bytes small =
    ap (λ r. from_some r (λ inner. option_map (λ bs. (node, bs)) (bytes_of inner))) (passed_front (codes " ") (encode_lower bytes))
    ∙ ap (option_map (λ bs. (node, bs))) (bytes_complete bytes small)

pub addressed_complete : (nodes : List (List ℕ)) (own node : ℕ) (bytes : List ℕ) → AreNames nodes → (node < length nodes) × (node ≢ own) → AreBytes bytes → node_and_bytes nodes own (name_at nodes node ++ (codes " " ++ encode_lower bytes)) ≡ Some (node, bytes)
addressed_complete nodes own node bytes names is small =
    ap (λ r. then_read r addressed_by) (other_complete nodes own names node (codes " " ++ encode_lower bytes) is refl)
    ∙ addressed_by_complete node bytes small

pub foreign_complete : (stray : Stray) → IsStray stray → foreign_read (decimal stray.port ++ (codes " " ++ encode_lower stray.bytes)) ≡ Some (stray.port, stray.bytes)
foreign_complete stray is =
    let small : stray.port < 2 ^ 16 = is.0 in
    ap (λ r. then_read r addressed_by) (number_complete 65535 stray.port (codes " " ++ encode_lower stray.bytes) (omega (arith, small)) (omega arith) refl)
    ∙ addressed_by_complete stray.port stray.bytes is.1

pub differing_complete : (d : Differing) → d.run < 2 ^ 32 → d.ask < 2 ^ 32 → parts d.replies ≡ true → differing_read (decimal d.run ++ (codes " ask " ++ (decimal d.ask ++ d.replies))) ≡ Some d
differing_complete d run ask ends =
    let inner = decimal d.ask ++ d.replies in
    let last = λ (n : ℕ) (replies : List ℕ). Some (differing_of d.run n replies) in
    ap (λ r. then_read r (λ n rest. from_some (behind_prefix (codes " ask ") rest) (λ text. then_read (number_read 4294967295 text) (λ m replies. Some (differing_of n m replies))))) (number_complete 4294967295 d.run (codes " ask " ++ inner) (omega (arith, run)) (omega arith) refl)
    ∙ ap (λ r. from_some r (λ text. then_read (number_read 4294967295 text) last)) (passed_front (codes " ask ") inner)
    ∙ ap (λ r. then_read r last) (number_complete 4294967295 d.ask d.replies (omega (arith, ask)) (omega arith) (stops d.replies ends))

module _ (plan : Plan) (own : ℕ) (names : AreNames (node_names plan)) where
  -- another node, by its name
  other_of : (n : ℕ) → IsOther plan own n → (n < length (node_names plan)) × (n ≢ own)
  other_of n is = (subst (λ k. n < k) (sym (length-map plan.deployment.nodes host_name)) is.0, is.1)

  pub what_complete : (event : Option Event) → CanCome plan own event → what_read (node_names plan) own (what_came (spelled plan) event) ≡ Some event
  what_complete (Some (Datagram from bytes)) can =
      let name = name_at (node_names plan) from in
      let inner = name ++ (codes " " ++ encode_lower bytes) in
      let others = λ (text : List ℕ). or_else (behind_prefix (codes "down ") text) (λ x. option_map (λ e. Some e) (down_read (node_names plan) own x)) (bare_event text) in
      ap (what_read (node_names plan) own) (sym (four_texts (codes "datagram ") name (codes " ") (encode_lower bytes)))
      ∙ ap (λ r. or_else r (λ x. option_map (λ e. Some e) (datagram_read (node_names plan) own x)) (others (codes "datagram " ++ inner))) (passed_front (codes "datagram ") inner)
      ∙ ap (λ r. option_map (λ (e : Event). Some e) (option_map (λ (q : ℕ × List ℕ). Datagram q.0 q.1) r)) (addressed_complete (node_names plan) own from bytes names (other_of from can.0) can.1)
  what_complete (Some Tick) can = refl
  what_complete (Some (Down node)) can =
      let name = name_at (node_names plan) node in
      let at : other own (number_of_name (node_names plan) name) ≡ Some (node, []) = ap (λ t. other own (number_of_name (node_names plan) t)) (sym (append-nil name)) ∙ other_complete (node_names plan) own names node [] (other_of node can) refl in
      ap (λ r. or_else r (λ x. option_map (λ e. Some e) (down_read (node_names plan) own x)) (bare_event (codes "down " ++ name))) (passed_front (codes "down ") name)
      ∙ ap (λ r. option_map (λ (e : Event). Some e) (option_map (λ (n : ℕ). Down n) (whole r))) at
  what_complete (Some Join) can = refl
  what_complete None can = refl

  pub event_complete : (number : ℕ) (event : Option Event) → number < 2 ^ 32 → CanCome plan own event → event_read (node_names plan) own number (decimal number ++ (codes " " ++ what_came (spelled plan) event)) ≡ Some event
  event_complete number event few can =
      let what = what_came (spelled plan) event in
      ap (λ r. then_read r (λ n rest. only_if (nat_eq n number) (from_some (behind_prefix (codes " ") rest) (what_read (node_names plan) own)))) (number_complete 4294967295 number (codes " " ++ what) (omega (arith, few)) (omega arith) refl)
      ∙ ap (λ b. only_if b (from_some (behind_prefix (codes " ") (codes " " ++ what)) (what_read (node_names plan) own))) (eq-eqb number number refl)
      ∙ ap (λ r. from_some r (what_read (node_names plan) own)) (passed_front (codes " ") what)
      ∙ what_complete event can

  pub give_complete : (give : Give) → CanBeGiven plan own give → give_read (node_names plan) own (name_at (node_names plan) give.to ++ (codes " " ++ encode_lower give.bytes)) ≡ Some give
  give_complete give can = ap (option_map give_of) (addressed_complete (node_names plan) own give.to give.bytes names (other_of give.to can.0) can.1)
