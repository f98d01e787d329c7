-- How many datagrams with data there are in a world that deliveries lead to, and how many in all.
use Rattle.std.proofs.Common.{◌≡◌, ◌⊎◌, inl, inr, ℕ, zero, suc, ◌+◌, ◌*◌, ◌<◌, ◌≤◌, List, [], ◌∷◌, length, All, Option, None, Some, refl, sym, ap, ◌∙◌, arith}
use Rattle.std.specs.Prelude.{slice_get}
use Rattle.std.specs.Option.{option_map_or}
use Rattle.std.proofs.lemmas.Bool.Decides.{eqb_tells}
use Rattle.std.proofs.lemmas.List.Elements.{All-head, All-tail}
use Rattle.std.proofs.lemmas.Option.{slice_get_within}
use Rattle.circus_value.specs.ValueTree.{ValueTree}
use Rattle.circus_value.specs.declared.outcome.Outcome.{Outcome}
use Rattle.circus_collate.specs.declared.deployment.Deployment.{Deployment}
use Rattle.circus_model.specs.NextTurn.{NextTurn}
use Rattle.circus_model.specs.declared.signature.Signature.{Signature}
use Rattle.circus_wire.specs.WireActs.{WireActs}
use Rattle.circus_member_rules.specs.declared.occurrence.Purpose.{Purpose}
use Rattle.circus_schedule.specs.declared.line.Line.{Line}
use Rattle.circus_schedule.specs.declared.line.Line.TheVariants.{Deliver, Tick, Crash, Down, Join}
use Rattle.circus_world.specs.Sent.{Sent}
use Rattle.circus_world.specs.WorldState.{WorldState}
use Rattle.circus_world.specs.Lines.{Lead}
use Rattle.circus_world_theory.specs.Histories.{beginning_of, with_line}
use Rattle.circus_world_theory.proofs.Worlds.{Stands, is_other}
use Rattle.circus_world_theory.specs.Enough.{total, AreOnce}
use Rattle.circus_world_theory.specs.Quiet.{IsDelivery}
use Rattle.circus_world_theory.proofs.Quiescence.Amounts.{is_data}
use Rattle.circus_world_theory.proofs.Quiescence.Answering.{data_in, came_but}
use Rattle.circus_world_theory.proofs.Quiescence.Course.{AllLive, IsKept, line_delivers, line_stands, still_live, lead_keeps, sent_data, sent_more, get_front}
use Rattle.circus_world_theory.proofs.Quiescence.Giving.{data_sent, came_gives}
use Rattle.circus_world_theory.proofs.Quiescence.Lossless.{came_read, sent_is_more}
use Rattle.circus_world_theory.proofs.Quiescence.Sums.{one, weigh, weigh_total, total_into, total_raise}

-- ---- what comes by a line

-- whether a datagram with data does
abbrev data_by : List Sent → Line → ℕ
data_by sent (Deliver number) = option_map_or (λ (s : Sent). one (is_data s.bytes)) (slice_get sent number) 0
data_by sent (Tick node) = 0
data_by sent (Crash node) = 0
data_by sent (Down node told) = 0
data_by sent (Join node) = 0

abbrev number_of : Line → ℕ
number_of (Deliver number) = number
number_of (Tick node) = 0
number_of (Crash node) = 0
number_of (Down node told) = 0
number_of (Join node) = 0

line_at : (lines : List Line) (k : ℕ) → All IsDelivery lines → k < length lines → (number : ℕ) × (slice_get lines k ≡ Some (Deliver number))
line_at [] k all below = absurd (omega (arith, below))
line_at (Deliver number ∷ lines) zero all below = (number, refl)
line_at (Deliver number ∷ lines) (suc k) all below = line_at lines k (All-tail IsDelivery (Deliver number) lines all) (omega (arith, below))
line_at (Tick node ∷ lines) k all below = absurd (All-head IsDelivery (Tick node) lines all)
line_at (Crash node ∷ lines) k all below = absurd (All-head IsDelivery (Crash node) lines all)
line_at (Down node told ∷ lines) k all below = absurd (All-head IsDelivery (Down node told) lines all)
line_at (Join node ∷ lines) k all below = absurd (All-head IsDelivery (Join node) lines all)

-- where no datagram comes twice, no more come with data than were sent
pub few_come : (sent : List Sent) (lines : List Line) → All IsDelivery lines → AreOnce lines → weigh (data_by sent) lines ≤ sent_data sent
few_come sent lines all once =
    let here = weigh_total (data_by sent) lines in
    let there = weigh_total (λ (s : Sent). one (is_data s.bytes)) sent in
    let into = total_into (length lines) (length sent) (λ k. option_map_or (data_by sent) (slice_get lines k) 0) (λ k. option_map_or (λ (s : Sent). one (is_data s.bytes)) (slice_get sent k) 0)
    (λ k. option_map_or number_of (slice_get lines k) 0) each apart in
    omega (arith, here, there, into)
  where
    each : (k : ℕ) → k < length lines
        → (option_map_or (data_by sent) (slice_get lines k) 0 ≡ 0)
        ⊎ ((option_map_or number_of (slice_get lines k) 0 < length sent)
        × (option_map_or (data_by sent) (slice_get lines k) 0 ≤ option_map_or (λ (s : Sent). one (is_data s.bytes)) (slice_get sent (option_map_or number_of (slice_get lines k) 0)) 0))
    each k below =
        let line = line_at lines k all below in
        let of : option_map_or (data_by sent) (slice_get lines k) 0 ≡ option_map_or (λ (s : Sent). one (is_data s.bytes)) (slice_get sent line.0) 0 = ap (λ o. option_map_or (data_by sent) o 0) line.1 in
        let at : option_map_or number_of (slice_get lines k) 0 ≡ line.0 = ap (λ o. option_map_or number_of o 0) line.1 in
        by_sent line.0 of at (slice_get sent line.0) refl
      where
        by_sent : (number : ℕ) → option_map_or (data_by sent) (slice_get lines k) 0 ≡ option_map_or (λ (s : Sent). one (is_data s.bytes)) (slice_get sent number) 0
            → option_map_or number_of (slice_get lines k) 0 ≡ number → (o : Option Sent) → slice_get sent number ≡ o
            → (option_map_or (data_by sent) (slice_get lines k) 0 ≡ 0)
            ⊎ ((option_map_or number_of (slice_get lines k) 0 < length sent)
            × (option_map_or (data_by sent) (slice_get lines k) 0 ≤ option_map_or (λ (s : Sent). one (is_data s.bytes)) (slice_get sent (option_map_or number_of (slice_get lines k) 0)) 0))
        by_sent number of at None is = inl (of ∙ ap (λ o. option_map_or (λ (s : Sent). one (is_data s.bytes)) o 0) is)
        by_sent number of at (Some s) is =
            let within = slice_get_within sent number s is in
            let same = ap (λ n. option_map_or (λ (x : Sent). one (is_data x.bytes)) (slice_get sent n) 0) at in
            inr (omega (arith, within, at), omega (arith, of, same))

    apart : (k j : ℕ) → k < length lines → j < length lines → option_map_or number_of (slice_get lines k) 0 ≡ option_map_or number_of (slice_get lines j) 0 → k ≡ j
    apart k j k_below j_below same =
        let one_ = line_at lines k all k_below in
        let other = line_at lines j all j_below in
        let numbers : one_.0 ≡ other.0 = sym (ap (λ o. option_map_or number_of o 0) one_.1) ∙ same ∙ ap (λ o. option_map_or number_of o 0) other.1 in
        once k j one_.0 one_.1 (other.1 ∙ ap (λ n. Some (Deliver n)) (sym numbers))

-- ---- in a world

module _ {M : Type 0} (declared : M → Signature) (turn : M → List ValueTree → ℕ → List ValueTree → List Outcome → NextTurn) (d : Deployment) where
  -- datagrams with data were sent by what has happened at the pairs
  abbrev pub DataCounted : (ℕ → WireActs Purpose) → WorldState M → Type 0
  DataCounted acts w = sent_data w.sent ≤ total (length d.nodes) (λ node. data_sent (beginning_of d node) (acts node))

  pub counted_still : IsKept declared turn d (λ a w. DataCounted a w)
  counted_still number acts new w next stands after delivers counted =
      let more = (sent_more w.sent (w.steps + 1) to delivers.ended.1.gives).0 in
      let sent = ap sent_data (sent_is_more declared turn d number acts new w next stands delivers) in
      let raise = total_raise (length d.nodes) to (data_in delivers.ended.1.gives) (λ node. data_sent (beginning_of d node) (acts node)) (λ node. data_sent (beginning_of d node) (new node))
      delivers.to_below (λ node below. each node) here in
      omega (arith, counted, more, sent, raise)
    where
      to : ℕ
      to = delivers.sent.to

      here : data_sent (beginning_of d delivers.sent.to) (acts delivers.sent.to) + data_in delivers.ended.1.gives ≤ data_sent (beginning_of d delivers.sent.to) (new delivers.sent.to)
      here =
          let wire = stands.stands delivers.sent.to delivers.node delivers.at in
          let gives = came_gives declared turn (beginning_of d delivers.sent.to) (omega arith) (acts delivers.sent.to) (w.steps + 1) delivers.sent.from delivers.sent.bytes delivers.node.node delivers.ended wire
          (is_other d delivers.sent.to delivers.sent.from delivers.node.node.wire (acts delivers.sent.to) wire delivers.from_below delivers.others)
          (came_read declared turn d number acts new w next stands delivers) delivers.ends in
          let counts = gives.counted in
          let same = ap (λ a. data_sent (beginning_of d delivers.sent.to) a) delivers.here in
          omega (arith, counts, same)

      each : (node : ℕ) → data_sent (beginning_of d node) (acts node) ≤ data_sent (beginning_of d node) (new node)
      each node = elim (eqb_tells node delivers.sent.to) [
        | inl same ↦
            let old = ap (λ k. data_sent (beginning_of d k) (acts k)) same.1 in
            let now = ap (λ k. data_sent (beginning_of d k) (new k)) same.1 in
            let le = here in
            omega (arith, old, now, le)
        | inr apart ↦ (let same = ap (λ a. data_sent (beginning_of d node) a) (delivers.elsewhere node apart.1) in omega (arith, same))
      ]

  -- what was sent stays
  sent_later : (k : ℕ) (s : Sent) → IsKept declared turn d (λ a w. slice_get w.sent k ≡ Some s)
  sent_later k s number acts new w next stands after delivers is =
      ap (λ (l : List Sent). slice_get l k) (sent_is_more declared turn d number acts new w next stands delivers) ∙ get_front w.sent _ k s is

  -- each datagram but those with data is sent by one with data that comes
  pub few_answers : (lines : List Line) (acts : ℕ → WireActs Purpose) (w last : WorldState M) → All IsDelivery lines → Stands d acts w → AllLive w → Lead declared turn lines w last
      → length last.sent + sent_data w.sent ≤ length w.sent + sent_data last.sent + weigh (data_by last.sent) lines
  few_answers [] acts w last all so_far live lead =
      let long : length last.sent ≡ length w.sent = ap (λ (v : WorldState M). length v.sent) lead in
      let data_ : sent_data last.sent ≡ sent_data w.sent = ap (λ (v : WorldState M). sent_data v.sent) lead in
      omega (arith, long, data_)
  few_answers (Deliver number ∷ lines) acts w last all so_far live lead =
      let next : WorldState M = lead.0 in
      let new : ℕ → WireActs Purpose = λ node. with_line declared turn node (acts node) (Deliver number) w in
      let delivers = line_delivers declared turn d acts w next so_far live number lead.1 in
      let stands = line_stands declared turn d number acts w next so_far lead.1 in
      let still = still_live declared turn d number acts new w next delivers live in
      let rest_all = All-tail IsDelivery (Deliver number) lines all in
      let rest = few_answers lines new next last rest_all stands still lead.2 in
      let more = sent_more w.sent (w.steps + 1) delivers.sent.to delivers.ended.1.gives in
      let sent = sent_is_more declared turn d number acts new w next so_far delivers in
      let data_next = ap sent_data sent in
      let long_next = ap (λ (l : List Sent). length l) sent in
      let data_more = more.0 in
      let long_more = more.1 in
      let few = came_but declared turn (w.steps + 1) delivers.sent.from delivers.sent.bytes delivers.node.node delivers.ended delivers.ends in
      let at_next = sent_later number delivers.sent number acts new w next so_far stands delivers delivers.there in
      let at_last = lead_keeps declared turn d (λ a v. slice_get v.sent number ≡ Some delivers.sent) (sent_later number delivers.sent) lines new next last rest_all stands still at_next lead.2 in
      let here : data_by last.sent (Deliver number) ≡ one (is_data delivers.sent.bytes) = ap (λ o. option_map_or (λ (s : Sent). one (is_data s.bytes)) o 0) at_last in
      omega (arith, rest, data_next, long_next, data_more, long_more, few, here)
  few_answers (Tick node ∷ lines) acts w last all so_far live lead = absurd (All-head IsDelivery (Tick node) lines all)
  few_answers (Crash node ∷ lines) acts w last all so_far live lead = absurd (All-head IsDelivery (Crash node) lines all)
  few_answers (Down node told ∷ lines) acts w last all so_far live lead = absurd (All-head IsDelivery (Down node told) lines all)
  few_answers (Join node ∷ lines) acts w last all so_far live lead = absurd (All-head IsDelivery (Join node) lines all)

  -- so there are twice as many datagrams as there are with data at most
  pub few_in_all : (lines : List Line) (acts : ℕ → WireActs Purpose) (booted last : WorldState M) → All IsDelivery lines → AreOnce lines → Stands d acts booted → AllLive booted → length booted.sent ≤ sent_data booted.sent
      → Lead declared turn lines booted last → length last.sent ≤ 2 * sent_data last.sent
  few_in_all lines acts booted last all once so_far live few lead =
      let answers = few_answers lines acts booted last all so_far live lead in
      let come = few_come last.sent lines all once in
      omega (arith, answers, come, few)
