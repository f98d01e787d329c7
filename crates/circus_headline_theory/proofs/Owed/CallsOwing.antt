-- The calls of asks that a member owes are the same by a record that has grown.
use Rattle.std.proofs.Common.{◌≡◌, ℕ, ◌<◌, List, [], ◌++◌, map, filter, ap, arith}
use Rattle.std.specs.Prelude.{fold}
use Rattle.std.specs.List.{flat_map, list_any}
use Rattle.circus_collate.specs.declared.view.View.{View}
use Rattle.circus_record.specs.declared.record.MemberRecord.{MemberRecord}
use Rattle.circus_fanout.specs.Asking.{Asking}
use Rattle.circus_member_rules.specs.declared.place.Place.{Place}
use Rattle.circus_member_rules.specs.declared.occurrence.AskName.{AskName}
use Rattle.circus_member_rules.specs.declared.occurrence.Effect.{Effect}
use Rattle.circus_member_rules.specs.OpenAsks.{is_name}
use Rattle.circus_member_rules.specs.Rules.{stays_open}
use Rattle.circus_member_theory.specs.Past.{Past, booted, followed, now, Rises}
use Rattle.circus_member_theory.specs.Asks.{is_waiting, asks_of, knows, opened_one, first_calls, asks_behind, calls_behind, new_asks, waits_then, open_asks, calls_owed}

module _ (place : Place) (boot : List View) (old new : MemberRecord) (step : ℕ)
    (made : (r : Past) → now r < step → new_asks place boot old r ≡ new_asks place boot new r)
    (waiting : (r : Past) → now r < step → asks_of place (is_waiting r) old.from old.runs ≡ asks_of place (is_waiting r) new.from new.runs) where
  waits_same : (r : Past) → now r < step → (name : AskName) → waits_then place boot old r name ≡ waits_then place boot new r name
  waits_same r below name = ap (list_any (λ (e : AskName × Asking). is_name e.0 name)) (waiting r below)

  pub open_same : (r : Past) → Rises r → now r < step → open_asks place boot old r ≡ open_asks place boot new r
  open_same booted rises below = ap (fold (opened_one place boot (knows place boot booted)) []) (made booted below)
  open_same (followed p at o) rises below =
      let q = followed p at o in
      let rest = open_same p rises.0 (omega (arith, rises.1, below)) in
      λ j. filter (stays_open (knows place boot q) (λ name. waits_same q below name j)) (fold (opened_one place boot (knows place boot q)) (asks_behind place boot q (rest j)) (made q below j))

  pub calls_same : (r : Past) → Rises r → now r < step → calls_owed place boot old r ≡ calls_owed place boot new r
  calls_same booted rises below = ap (λ asks. map (λ (e : Effect). (0, e)) (flat_map (first_calls place boot (knows place boot booted)) asks)) (made booted below)
  calls_same (followed p at o) rises below =
      let q = followed p at o in
      let before : now p < step = omega (arith, rises.1, below) in
      let rest = calls_same p rises.0 before in
      let asks = open_same p rises.0 before in
      λ j. rest j ++ map (λ (e : Effect). (at, e)) (calls_behind place boot q (asks j) ++ flat_map (first_calls place boot (knows place boot q)) (made q below j))
