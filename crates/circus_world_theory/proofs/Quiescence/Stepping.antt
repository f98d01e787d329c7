-- A step of a member by which it is asked something or has a reply, where no view changes and no node is down.
use Rattle.std.proofs.Common.{◌≡◌, ◌⊎◌, inl, inr, ℕ, ◌+◌, ◌<◌, ◌≤◌, Bool, true, false, cond, not, ◌&&◌, ◌||◌, List, [], ◌∷◌, ◌++◌, length, map, filter, set, All, Option, None, Some, IsSome, refl, sym, ap, subst, ◌∙◌, arith, if◌then◌else◌, le-ltb}
use Rattle.std.specs.Prelude.{slice_get, slice_index, max, nat_eq, nat_lt, IfSome}
use Rattle.std.specs.Map.{lookup, set_value}
use Rattle.std.specs.Option.{option_map_or}
use Rattle.std.proofs.lemmas.List.{append-nil}
use Rattle.std.proofs.lemmas.List.Elements.{All-nil, All-cons, All-head, All-tail, All-set, All-push, All-get_or}
use Rattle.std.proofs.lemmas.Map.Entries.{All-lookup}
use Rattle.std.proofs.lemmas.Option.{same_Some, slice_get_within, get_or_from_slice_get}
use Rattle.circus_value.specs.Among.{is_among}
use Rattle.circus_value.specs.ValueTree.{ValueTree}
use Rattle.circus_value.specs.declared.caller.Caller.{Caller}
use Rattle.circus_value.specs.declared.outcome.Outcome.{Outcome}
use Rattle.circus_header.specs.declared.call.CallHeader.{CallHeader}
use Rattle.circus_header.specs.declared.answer.Reply.{Reply}
use Rattle.circus_collate.specs.declared.view.View.{View}
use Rattle.circus_collate.specs.declared.giving.Said.{Said}
use Rattle.circus_transfer.specs.declared.joiner.Joiner.{Joiner}
use Rattle.circus_model.specs.declared.signature.Signature.{Signature}
use Rattle.circus_record.specs.declared.record.MemberRecord.{MemberRecord}
use Rattle.circus_model.specs.NextTurn.{NextTurn}
use Rattle.circus_model.specs.Behaviour.{IsModule}
use Rattle.circus_fanout.specs.declared.known.Want.{Want}
use Rattle.circus_fanout.specs.Knowing as knowing
use Rattle.circus_fanout.specs.Knowing.{Knowing}
use Rattle.circus_gather.specs.Gathering.{index_of, reply_of, answer_to, is_held}
use Rattle.circus_gather.specs.declared.added.Added.{Added}
use Rattle.circus_gather.specs.declared.added.Added.TheVariants as A
use Rattle.circus_gather.specs.declared.held.HeldCall.{HeldCall}
use Rattle.circus_fanout.specs.Asking.{Asking, with_reply}
use Rattle.circus_performing.specs.Performing.{Performing, last_count}
use Rattle.circus_performing.specs.Record.{behaviour}
use Rattle.circus_member_rules.specs.declared.occurrence.AskName.{AskName}
use Rattle.circus_member_rules.specs.declared.place.Place.{Place}
use Rattle.circus_member_rules.specs.declared.occurrence.Occurrence.{Occurrence}
use Rattle.circus_member_rules.specs.declared.occurrence.Occurrence.TheVariants as comes
use Rattle.circus_member_rules.specs.Callable.{IsReply}
use Rattle.circus_member_rules.specs.OpenAsks.{is_name, asking_of, with_asking}
use Rattle.circus_member_rules.specs.Messages.{reply_message}
use Rattle.circus_member_rules.specs.Rules as rules
use Rattle.circus_member_rules.specs.Rules.{ringmaster, answer_at_once, wanted_by_call, lookups, lookup_call, stays_open}
use Rattle.circus_member_rules.specs.Happening.{CanHappen}
use Rattle.circus_member_rules.specs.MemberState.{MemberState, Doing}
use Rattle.circus_member_rules.specs.Step.{waits, execute, handle, step_member}
use Rattle.circus_member_rules.proofs.Handled.{sound_asked, sound_replied}
use Rattle.circus_member_rules.proofs.Named.{lookup-kept}
use Rattle.circus_member_rules.proofs.Resting.{waiting_stays}
use Rattle.circus_member_rules.proofs.Starting.{IsSoundNow}
use Rattle.circus_node.proofs.ViewLemmas.{executed_knows}
use Rattle.circus_world_theory.specs.Told.{Recorded, IsOpenAt}
use Rattle.circus_world_theory.proofs.Quiescence.Evolving.{Named}
use Rattle.circus_world_theory.proofs.Quiescence.Once.{AreApart, AreOthers, targets, executed_once}
use Rattle.circus_world_theory.proofs.Quiescence.Staying.{IsAnswered, EffectSo, NewCall, IsCallIn, Beginning, is_entry, IsMade, IsOpened, Body, name_is, body_executed}

-- ---- asks by name

set_there : (asks : List (AskName × Asking)) (name other : AskName) (v before a : Asking) → lookup (is_name name) asks ≡ Some before → lookup (is_name other) asks ≡ Some a
    → (b : Asking) × (lookup (is_name other) (set_value (is_name name) asks v) ≡ Some b) × ((b ≡ a) ⊎ ((b ≡ v) × (before ≡ a)))
set_there [] name other v before a one two = absurd (let clash : ◌≡◌ {A = Option Asking} None (Some before) = one in cc)
set_there (e ∷ asks) name other v before a one two = by_tests (set_there asks name other v before a) (is_name name e.0) (is_name other e.0) refl refl one two
  where
    by_tests : (lookup (is_name name) asks ≡ Some before → lookup (is_name other) asks ≡ Some a → (b : Asking) × (lookup (is_name other) (set_value (is_name name) asks v) ≡ Some b) × ((b ≡ a) ⊎ ((b ≡ v) × (before ≡ a))))
        → (p q : Bool) → is_name name e.0 ≡ p → is_name other e.0 ≡ q → cond p (Some e.1) (lookup (is_name name) asks) ≡ Some before → cond q (Some e.1) (lookup (is_name other) asks) ≡ Some a
        → (b : Asking) × (lookup (is_name other) (cond p ((e.0, v) ∷ asks) (e ∷ set_value (is_name name) asks v)) ≡ Some b) × ((b ≡ a) ⊎ ((b ≡ v) × (before ≡ a)))
    by_tests rest true true is here one_ two_ = (v, ap (λ x. cond x (Some v) (lookup (is_name other) asks)) here, inr (refl, same_Some before a (sym one_ ∙ two_)))
    by_tests rest true false is here one_ two_ = (a, ap (λ x. cond x (Some v) (lookup (is_name other) asks)) here ∙ two_, inl refl)
    by_tests rest false true is here one_ two_ = (a, ap (λ x. cond x (Some e.1) (lookup (is_name other) (set_value (is_name name) asks v))) here ∙ two_, inl refl)
    by_tests rest false false is here one_ two_ = (let r = rest one_ two_ in (r.0, ap (λ x. cond x (Some e.1) (lookup (is_name other) (set_value (is_name name) asks v))) here ∙ r.1, r.2))

-- an ask that is open still is where one is changed
pub changed_there : (asks : List (AskName × Asking)) (name other : AskName) (change : Asking → Asking) (a : Asking) → asking_of asks other ≡ Some a
    → (b : Asking) × (asking_of (with_asking name change asks) other ≡ Some b) × ((b ≡ a) ⊎ (b ≡ change a))
changed_there asks name other change a there = by_found (asking_of asks name) refl
  where
    by_found : (o : Option Asking) → asking_of asks name ≡ o → (b : Asking) × (asking_of (option_map_or (λ (x : Asking). set_value (is_name name) asks (change x)) o asks) other ≡ Some b) × ((b ≡ a) ⊎ (b ≡ change a))
    by_found None is = (a, there, inl refl)
    by_found (Some before) is = (let r = set_there asks name other (change before) before a is there in (r.0, r.1, elim r.2 [ inl same ↦ inl same | inr new ↦ inr (new.0 ∙ ap change new.1) ]))

set_here : (asks : List (AskName × Asking)) (name : AskName) (v a : Asking) → lookup (is_name name) asks ≡ Some a → lookup (is_name name) (set_value (is_name name) asks v) ≡ Some v
set_here [] name v a is = absurd (let clash : ◌≡◌ {A = Option Asking} None (Some a) = is in cc)
set_here (e ∷ asks) name v a is = by_test (set_here asks name v a) (is_name name e.0) refl is
  where
    by_test : (lookup (is_name name) asks ≡ Some a → lookup (is_name name) (set_value (is_name name) asks v) ≡ Some v) → (p : Bool) → is_name name e.0 ≡ p → cond p (Some e.1) (lookup (is_name name) asks) ≡ Some a
        → lookup (is_name name) (cond p ((e.0, v) ∷ asks) (e ∷ set_value (is_name name) asks v)) ≡ Some v
    by_test rest true here found = ap (λ x. cond x (Some v) (lookup (is_name name) asks)) here
    by_test rest false here found = ap (λ x. cond x (Some e.1) (lookup (is_name name) (set_value (is_name name) asks v))) here ∙ rest found

pub changed_here : (asks : List (AskName × Asking)) (name : AskName) (change : Asking → Asking) (a : Asking) → asking_of asks name ≡ Some a → asking_of (with_asking name change asks) name ≡ Some (change a)
changed_here asks name change a is =
    ap (λ o. asking_of (option_map_or (λ (x : Asking). set_value (is_name name) asks (change x)) o asks) name) is ∙ set_here asks name (change a) a is

-- ---- what is wanted

abbrev pub AreLow : List Want → Type 0
AreLow wants = All (λ (w : Want). w.incarnation ≤ 1) wants

low_wanted : (k : Knowing) (troupe incarnation : ℕ) → incarnation ≤ 1 → AreLow k.wants → AreLow (knowing.want_view k troupe incarnation).wants
low_wanted k troupe incarnation low are = by_want (slice_get k.wants troupe) refl
  where
    by_want : (o : Option Want) → slice_get k.wants troupe ≡ o → AreLow (option_map_or (λ (w : Want). set k.wants troupe (record { incarnation = max w.incarnation incarnation; asked = w.asked })) o k.wants)
    by_want None at = are
    by_want (Some w) at =
        let there = All-get_or (λ (x : Want). x.incarnation ≤ 1) k.wants troupe w (slice_get_within k.wants troupe w at) are in
        let here : w.incarnation ≤ 1 = subst (λ (x : Want). x.incarnation ≤ 1) (get_or_from_slice_get k.wants troupe w w at) there in
        All-set (λ (x : Want). x.incarnation ≤ 1) k.wants troupe (record { incarnation = max w.incarnation incarnation; asked = w.asked }) (omega (arith, here, low)) are

-- the views of the first incarnation are never looked up then
abbrev pub AreFirst : List View → Type 0
AreFirst views = All (λ (v : View). v.incarnation ≡ 1) views

pub ones_of : (bv : List View) → AreFirst bv → (t : ℕ) (v : View) → slice_get bv t ≡ Some v → v.incarnation ≤ 1
ones_of bv firsts t v is =
    let there = All-get_or (λ (x : View). x.incarnation ≡ 1) bv t v (slice_get_within bv t v is) firsts in
    let here : v.incarnation ≡ 1 = subst (λ (x : View). x.incarnation ≡ 1) (get_or_from_slice_get bv t v v is) there in
    omega (arith, here)

none_due : (troupe : ℕ) (views : List View) (wants : List Want) → AreFirst views → AreLow wants → knowing.due_from troupe views wants ≡ []
none_due troupe [] wants first low = refl
none_due troupe (v ∷ views) [] first low = refl
none_due troupe (v ∷ views) (w ∷ wants) first low =
    let one = All-head (λ (x : View). x.incarnation ≡ 1) v views first in
    let most = All-head (λ (x : Want). x.incarnation ≤ 1) w wants low in
    let test : nat_lt v.incarnation w.incarnation ≡ false = le-ltb v.incarnation w.incarnation (omega (arith, one, most)) in
    ap (λ b. (if b && not w.asked then troupe ∷ [] else []) ++ knowing.due_from (troupe + 1) views wants) test
    ∙ none_due (troupe + 1) views wants (All-tail (λ (x : View). x.incarnation ≡ 1) v views first) (All-tail (λ (x : Want). x.incarnation ≤ 1) w wants low)

no_lookups : (k : Knowing) → AreFirst k.views → k.down ≡ [] → AreLow k.wants → knowing.lookups k ringmaster ≡ []
no_lookups k first down low = ap (λ (l : List ℕ). if is_among l ringmaster then [] else knowing.due_from 0 k.views k.wants) down ∙ none_due 0 k.views k.wants first low

-- ---- a member that stays with the boot views

module _ (bv : List View) (own : ℕ) (phase : Joiner) (P : Caller → CallHeader → List ℕ → Type 0) where
  -- the ask that waits is open
  pub record HasAsking {M : Type 0} (m : MemberState M) (index number callee : ℕ) : Type 0 where
    pub asking : Asking
    pub there : asking_of m.asks (record { run = index; ask = number }) ≡ Some asking
    pub server : asking.header.server ≡ callee
    pub kind : asking.kind ≡ m.place.replies

  pub record IsQuiet {M : Type 0} (m : MemberState M) : Type 0 where
    pub views : m.known.views ≡ bv
    pub down : m.known.down ≡ []
    pub wants : AreLow m.known.wants
    pub requests : m.requests ≡ []
    pub required : m.gathered.required ≡ 0
    pub first : m.gathered.from ≡ 0
    pub own_is : m.gathered.module ≡ own
    pub from : m.performing.kept.from ≡ 0
    pub phase_is : m.performing.kept.phase ≡ phase
    pub held : All (λ (c : HeldCall). P c.sender c.header c.body) m.gathered.held
    pub replies : (index : ℕ) (reply : Reply) → reply_of m.gathered index ≡ Some reply → index < m.performing.kept.count
    pub replied : (index : ℕ) → index < m.performing.kept.count → IsSome (reply_of m.gathered index)
    pub opened : (index number callee : ℕ) → IsOpenAt m.performing.kept index number callee → HasAsking m index number callee

  -- it is asked, by a call of the first views, or has a reply
  abbrev pub IsQuietOccurrence : Occurrence → Type 0
  IsQuietOccurrence (comes.Asked header body sender) = P sender header body × (header.client_incarnation ≤ 1)
  IsQuietOccurrence (comes.Replied name from reply) = Unit {0}
  IsQuietOccurrence (comes.Fetched incarnation sender) = ⊥
  IsQuietOccurrence (comes.IsStale name server from incarnation) = ⊥
  IsQuietOccurrence (comes.IsBefore name from) = ⊥
  IsQuietOccurrence (comes.Told request table) = ⊥
  IsQuietOccurrence (comes.Restored state count) = ⊥
  IsQuietOccurrence (comes.Declared node) = ⊥
  IsQuietOccurrence comes.Joins = ⊥

  module _ {M : Type 0} (declared : M → Signature) (turn : M → List ValueTree → ℕ → List ValueTree → List Outcome → NextTurn) (first : M → List ValueTree) (lawful : (hosted : M) → IsModule (behaviour declared turn first hosted))
      (firsts : AreFirst bv) (Old : ℕ → ℕ → ℕ → ℕ → Type 0) (at : ℕ) (o : Occurrence) (m : MemberState M) where
    abbrev pub z : Beginning
    z = record { views = bv; own = own; phase = phase; kept = m.performing.kept }

    -- what was said of an ask once this has happened
    abbrev pub OldSaid : ℕ → ℕ → List (Said Reply) → Type 0
    OldSaid index number said = (asking : Asking) × (asking_of (handle at o m).member.asks (record { run = index; ask = number }) ≡ Some asking) × (said ≡ asking.said)

    pub ones : (t : ℕ) (v : View) → slice_get bv t ≡ Some v → v.incarnation ≤ 1
    ones = ones_of bv firsts

    pub record StepsQuiet (d : Doing M) : Type 0 where
      pub quiet : IsQuiet d.member
      pub effects : All (EffectSo bv own P d.member.performing.kept) d.effects
      -- the calls are for asks that are made in this step
      pub news : All (NewCall m.performing.kept) d.effects
      -- and each node is called once at most
      pub once : ((t : ℕ) (view : View) → slice_get bv t ≡ Some view → AreOthers view) → AreApart (targets d.effects)
      pub recorded : (index number callee : ℕ) → Recorded d.member.performing.kept index number callee → IsMade z ones P Old OldSaid d.effects index number callee
      pub opened : (index number callee : ℕ) → IsOpenAt d.member.performing.kept index number callee → IsOpened z ones P Old OldSaid d.member index number callee
      pub named : (index number : ℕ) → Named m.performing.kept index number → Named d.member.performing.kept index number
      pub longer : length m.performing.kept.runs ≤ length d.member.performing.kept.runs
      pub counts : m.performing.kept.count ≤ d.member.performing.kept.count

    module _ (sound : IsSoundNow declared turn first lawful m) (can : CanHappen (declared m.performing.hosted) m o) (quiet_o : IsQuietOccurrence o) (q : IsQuiet m)
        (old : (index number callee : ℕ) → Recorded m.performing.kept index number callee → (view : View) (node : ℕ) → slice_get bv callee ≡ Some view → is_entry view node ≡ true → Old index number callee node) where
      -- with these calls and these asks
      start_body : (d : Doing M) → d.member.known.views ≡ bv → d.member.known.down ≡ [] → d.member.requests ≡ [] → d.member.gathered.required ≡ 0 → d.member.gathered.from ≡ 0 → d.member.gathered.module ≡ own
          → d.member.performing ≡ m.performing → d.member.gathered.replies ≡ m.gathered.replies → All (λ (c : HeldCall). P c.sender c.header c.body) d.member.gathered.held
          → All (EffectSo bv own P m.performing.kept) d.effects → All (NewCall m.performing.kept) d.effects → ((index number callee : ℕ) → IsOpenAt m.performing.kept index number callee → IsOpened z ones P Old OldSaid d.member index number callee) → Body z ones P Old OldSaid d
      start_body d views down requests required first_is own_is same replies held effects news opened = record {
        stays = record {
          views = views;
          down = down;
          requests = requests;
          required = required;
          first = first_is;
          own = own_is;
          from = kept_same (λ k. k.from ≡ 0) q.from;
          phase = kept_same (λ k. k.phase ≡ phase) q.phase_is;
          held = held;
          effects = kept_same (λ k. All (EffectSo bv own P k) d.effects) effects;
          news = news;
          named = kept_same (λ k. (index number : ℕ) → Named m.performing.kept index number → Named k index number) (λ index number n. n);
          longer = kept_same (λ k. length m.performing.kept.runs ≤ length k.runs) (omega arith);
          counts = kept_same (λ k. m.performing.kept.count ≤ k.count) (omega arith);
          replies = λ index reply is. kept_same (λ k. index < k.count) (q.replies index reply (ap (λ l. lookup (nat_eq index) l) (sym replies) ∙ is));
        };
        recorded = λ index number callee r view node there entry. inl (old index number callee (subst (λ (p : Performing M). Recorded p.kept index number callee) same r) view node there entry);
        opened = λ index number callee o_. opened index number callee (subst (λ (p : Performing M). IsOpenAt p.kept index number callee) same o_);
        replied = λ index less. subst (λ l. IsSome (lookup (nat_eq index) l)) (sym replies) (q.replied index (subst (λ (p : Performing M). index < p.kept.count) same less));
      }
        where
          kept_same : (Q : MemberRecord → Type 0) → Q m.performing.kept → Q d.member.performing.kept
          kept_same Q h = subst (λ (p : Performing M). Q p.kept) (sym same) h

      still_open : (index number callee : ℕ) → IsOpenAt m.performing.kept index number callee → (d : Doing M) → d.member.place ≡ m.place → d.member.asks ≡ m.asks → (handle at o m).member.asks ≡ m.asks → IsOpened z ones P Old OldSaid d.member index number callee
      still_open index number callee o_ d placed asks handled_asks =
          let h = q.opened index number callee o_ in
          let name : AskName = record { run = index; ask = number } in
          record {
            asking = h.asking;
            there = ap (λ l. asking_of l name) asks ∙ h.there;
            server = h.server;
            kind = h.kind ∙ ap (λ (x : Place). x.replies) (sym placed);
            said = inl (h.asking, ap (λ l. asking_of l name) handled_asks ∙ h.there, refl);
          }

module _ (bv : List View) (own : ℕ) (phase : Joiner) (P : Caller → CallHeader → List ℕ → Type 0) {M : Type 0} (declared : M → Signature) (turn : M → List ValueTree → ℕ → List ValueTree → List Outcome → NextTurn) (first : M → List ValueTree)
    (lawful : (hosted : M) → IsModule (behaviour declared turn first hosted)) (firsts : AreFirst bv) (Old : ℕ → ℕ → ℕ → ℕ → Type 0) (at : ℕ) (m : MemberState M) (sound : IsSoundNow declared turn first lawful m) (q : IsQuiet bv own phase P m)
    (old : (index number callee : ℕ) → Recorded m.performing.kept index number callee → (view : View) (node : ℕ) → slice_get bv callee ≡ Some view → is_entry view node ≡ true → Old index number callee node) where
  abbrev OnesOf : Occurrence → (t : ℕ) (v : View) → slice_get bv t ≡ Some v → v.incarnation ≤ 1
  OnesOf o = ones bv own phase P declared turn first lawful firsts Old at o m

  abbrev BodyOf : Occurrence → Doing M → Type 0
  BodyOf o d = Body (record { views = bv; own = own; phase = phase; kept = m.performing.kept }) (OnesOf o) P Old (OldSaid bv own phase P declared turn first lawful firsts Old at o m) d × AreLow d.member.known.wants

  -- ---- a call comes

  no_stale : (n : ℕ) (k : ℕ) → k ≡ 0 → nat_lt n k ≡ false
  no_stale n k is = ap (nat_lt n) is ∙ le-ltb n 0 (omega arith)

  answer_is : (header : CallHeader) → answer_to m.gathered header ≡ option_map_or A.Reply (reply_of m.gathered (index_of m.gathered.module header)) A.Held
  answer_is header =
      let index = index_of m.gathered.module header in
      ap (λ b. if b then A.Stale m.gathered.required else if nat_lt index m.gathered.from then A.Before m.gathered.from else option_map_or A.Reply (reply_of m.gathered index) A.Held) (no_stale header.server_incarnation m.gathered.required q.required)
      ∙ ap (λ b. if b then A.Before m.gathered.from else option_map_or A.Reply (reply_of m.gathered index) A.Held) (no_stale index m.gathered.from q.first)

  module _ (header : CallHeader) (body : List ℕ) (sender : Caller) (can : CanHappen (declared m.performing.hosted) m (comes.Asked header body sender)) (p : P sender header body) (low : header.client_incarnation ≤ 1) where
    abbrev o : Occurrence
    o = comes.Asked header body sender

    abbrev call : HeldCall
    call = record { header = header; body = body; sender = sender }

    abbrev asked_by : Added → Doing M
    asked_by a = record {
      member = record m { gathered = if is_held a then record m.gathered { held = m.gathered.held ++ call ∷ [] } else m.gathered; known = wanted_by_call a header m.known };
      effects = answer_at_once a sender;
    }

    reply_found : (x : Option Reply) (reply : Reply) → option_map_or A.Reply x A.Held ≡ A.Reply reply → x ≡ Some reply
    reply_found None reply is = absurd cc
    reply_found (Some r) reply is = ap (λ (y : Reply). Some y) (same_reply r reply is)
      where
        same_reply : (a b : Reply) → ◌≡◌ {A = Added} (A.Reply a) (A.Reply b) → a ≡ b
        same_reply a b h = cc

    no_other : (x : Option Reply) (a : Added) → option_map_or A.Reply x A.Held ≡ a → ((n : ℕ) → a ≡ A.Stale n → ⊥) × ((n : ℕ) → a ≡ A.Before n → ⊥)
    no_other None a is = (λ n e. clash_stale n (is ∙ e), λ n e. clash_before n (is ∙ e))
      where
        clash_stale : (n : ℕ) → ◌≡◌ {A = Added} A.Held (A.Stale n) → ⊥
        clash_stale n h = cc

        clash_before : (n : ℕ) → ◌≡◌ {A = Added} A.Held (A.Before n) → ⊥
        clash_before n h = cc
    no_other (Some r) a is = (λ n e. clash_stale n (is ∙ e), λ n e. clash_before n (is ∙ e))
      where
        clash_stale : (n : ℕ) → ◌≡◌ {A = Added} (A.Reply r) (A.Stale n) → ⊥
        clash_stale n h = cc

        clash_before : (n : ℕ) → ◌≡◌ {A = Added} (A.Reply r) (A.Before n) → ⊥
        clash_before n h = cc

    by_added : (a : Added) → answer_to m.gathered header ≡ a → BodyOf o (asked_by a)
    by_added (A.Reply reply) is = (
      start_body bv own phase P declared turn first lawful firsts Old at o m sound can (p, low) q old (asked_by (A.Reply reply)) q.views q.down q.requests q.required q.first q.own_is refl refl q.held
          (All-cons (EffectSo bv own P m.performing.kept) _ [] answered (All-nil (EffectSo bv own P m.performing.kept)))
          (All-cons (NewCall m.performing.kept) _ [] tt (All-nil (NewCall m.performing.kept)))
          (λ index number callee o_. still_open bv own phase P declared turn first lawful firsts Old at o m sound can (p, low) q old index number callee o_ (asked_by (A.Reply reply)) refl refl refl),
      q.wants,
    )
      where
        found : reply_of m.gathered (index_of m.gathered.module header) ≡ Some reply
        found = reply_found (reply_of m.gathered (index_of m.gathered.module header)) reply (sym (answer_is header) ∙ is)

        may : IsReply reply
        may = subst (λ (x : Option Reply). IfSome x IsReply) found (All-lookup IsReply (nat_eq (index_of m.gathered.module header)) m.gathered.replies sound.replies)

        answered : IsAnswered bv own P m.performing.kept.count sender (reply_message reply)
        answered = record {
          header = header;
          body = body;
          is = p;
          index = subst (λ n. slice_index header.clock n < m.performing.kept.count) q.own_is (q.replies (index_of m.gathered.module header) reply found);
          reply = reply;
          message_is = refl;
          may = may;
        }
    by_added (A.Stale n) is = absurd ((no_other (reply_of m.gathered (index_of m.gathered.module header)) (A.Stale n) (sym (answer_is header) ∙ is)).0 n refl)
    by_added (A.Before n) is = absurd ((no_other (reply_of m.gathered (index_of m.gathered.module header)) (A.Before n) (sym (answer_is header) ∙ is)).1 n refl)
    by_added A.Held is = (
      start_body bv own phase P declared turn first lawful firsts Old at o m sound can (p, low) q old (asked_by A.Held) q.views q.down q.requests q.required q.first q.own_is refl refl
          (All-push (λ (c : HeldCall). P c.sender c.header c.body) m.gathered.held call q.held p)
          (All-nil (EffectSo bv own P m.performing.kept)) (All-nil (NewCall m.performing.kept))
          (λ index number callee o_. still_open bv own phase P declared turn first lawful firsts Old at o m sound can (p, low) q old index number callee o_ (asked_by A.Held) refl refl refl),
      low_wanted m.known header.client header.client_incarnation low q.wants,
    )

    asked_body : BodyOf o (handle at o m)
    asked_body = by_added (answer_to m.gathered header) refl

  -- ---- a reply comes

  module _ (name : AskName) (from : ℕ) (reply : Reply) (can : CanHappen (declared m.performing.hosted) m (comes.Replied name from reply)) where
    replied_body : BodyOf (comes.Replied name from reply) (handle at (comes.Replied name from reply) m)
    replied_body = (
      start_body bv own phase P declared turn first lawful firsts Old at (comes.Replied name from reply) m sound can tt q old (handle at (comes.Replied name from reply) m) q.views q.down q.requests q.required q.first q.own_is refl refl q.held
          (All-nil (EffectSo bv own P m.performing.kept)) (All-nil (NewCall m.performing.kept))
          (λ index number callee o_. (
          let h = q.opened index number callee o_ in
          let other : AskName = record { run = index; ask = number } in
          let r = changed_there m.asks name other (with_reply from reply) h.asking h.there in
          record {
            asking = r.0;
            there = r.1;
            server = elim r.2 [ inl same ↦ ap (λ (a : Asking). a.header.server) same ∙ h.server | inr new ↦ ap (λ (a : Asking). a.header.server) new ∙ h.server ];
            kind = elim r.2 [ inl same ↦ ap (λ (a : Asking). a.kind) same ∙ h.kind | inr new ↦ ap (λ (a : Asking). a.kind) new ∙ h.kind ];
            said = inl (r.0, r.1, refl);
          })),
      q.wants,
    )

  -- ---- the step

  module _ (o : Occurrence) (can : CanHappen (declared m.performing.hosted) m o) (quiet_o : IsQuietOccurrence bv own phase P o) where
    handled_body : (x : Occurrence) → CanHappen (declared m.performing.hosted) m x → IsQuietOccurrence bv own phase P x → BodyOf x (handle at x m)
    handled_body (comes.Asked header body sender) can_ quiet_ = asked_body header body sender can_ quiet_.0 quiet_.1
    handled_body (comes.Replied name from reply) can_ quiet_ = replied_body name from reply can_
    handled_body (comes.Fetched incarnation sender) can_ quiet_ = absurd quiet_
    handled_body (comes.IsStale name server from incarnation) can_ quiet_ = absurd quiet_
    handled_body (comes.IsBefore name from) can_ quiet_ = absurd quiet_
    handled_body (comes.Told request table) can_ quiet_ = absurd quiet_
    handled_body (comes.Restored state count) can_ quiet_ = absurd quiet_
    handled_body (comes.Declared node) can_ quiet_ = absurd quiet_
    handled_body comes.Joins can_ quiet_ = absurd quiet_

    handled_sound : (x : Occurrence) → CanHappen (declared m.performing.hosted) m x → IsQuietOccurrence bv own phase P x → IsSoundNow declared turn first lawful (handle at x m).member
    handled_sound (comes.Asked header body sender) can_ quiet_ = sound_asked (behaviour declared turn first m.performing.hosted) m header body sender can_ sound
    handled_sound (comes.Replied name from reply) can_ quiet_ = sound_replied (behaviour declared turn first m.performing.hosted) m name from reply can_ sound
    handled_sound (comes.Fetched incarnation sender) can_ quiet_ = absurd quiet_
    handled_sound (comes.IsStale name server from incarnation) can_ quiet_ = absurd quiet_
    handled_sound (comes.IsBefore name from) can_ quiet_ = absurd quiet_
    handled_sound (comes.Told request table) can_ quiet_ = absurd quiet_
    handled_sound (comes.Restored state count) can_ quiet_ = absurd quiet_
    handled_sound (comes.Declared node) can_ quiet_ = absurd quiet_
    handled_sound comes.Joins can_ quiet_ = absurd quiet_

    -- nobody is called by what comes itself
    asked_silent : (header : CallHeader) (sender : Caller) (a : Added) → ((wanted_by_call a header m.known).views ≡ bv) × (targets (answer_at_once a sender) ≡ [])
    asked_silent header sender (A.Reply reply) = (q.views, refl)
    asked_silent header sender (A.Stale n) = (q.views, refl)
    asked_silent header sender (A.Before n) = (q.views, refl)
    asked_silent header sender A.Held = (q.views, refl)

    handled_silent : (x : Occurrence) → IsQuietOccurrence bv own phase P x → ((handle at x m).member.known.views ≡ bv) × (targets (handle at x m).effects ≡ [])
    handled_silent (comes.Asked header body sender) quiet_ = asked_silent header sender (answer_to m.gathered header)
    handled_silent (comes.Replied name from reply) quiet_ = (q.views, refl)
    handled_silent (comes.Fetched incarnation sender) quiet_ = absurd quiet_
    handled_silent (comes.IsStale name server from incarnation) quiet_ = absurd quiet_
    handled_silent (comes.IsBefore name from) quiet_ = absurd quiet_
    handled_silent (comes.Told request table) quiet_ = absurd quiet_
    handled_silent (comes.Restored state count) quiet_ = absurd quiet_
    handled_silent (comes.Declared node) quiet_ = absurd quiet_
    handled_silent comes.Joins quiet_ = absurd quiet_

    pub step_quiet : length (step_member declared turn at o m).member.performing.kept.runs ≤ last_count → StepsQuiet bv own phase P declared turn first lawful firsts Old at o m (step_member declared turn at o m)
    step_quiet few =
        let begun_ = handled_body o can quiet_o in
        let d = execute declared turn at (handle at o m) in
        let body = body_executed (record { views = bv; own = own; phase = phase; kept = m.performing.kept }) (OnesOf o) P Old (OldSaid bv own phase P declared turn first lawful firsts Old at o m) declared turn first lawful at
        (handle at o m) (handled_sound o can quiet_o) (λ few_. begun_.0) few in
        let s = body.stays in
        let knows = executed_knows declared turn at (handle at o m) in
        let low : AreLow d.member.known.wants = subst (λ (k : Knowing). AreLow k.wants) (sym knows) begun_.1 in
        let none : knowing.lookups d.member.known ringmaster ≡ [] = no_lookups d.member.known (subst (λ l. AreFirst l) (sym s.views) firsts) s.down low in
        let effects : d.effects ++ lookups d.member.known ≡ d.effects = ap (λ l. d.effects ++ map lookup_call l) none ∙ append-nil d.effects in
        let kept = d.member.performing.kept in
        let stays = stays_open d.member.known (waits kept) in
        let opened : (index number callee : ℕ) → IsOpenAt kept index number callee → (a : Asking) → asking_of d.member.asks (record { run = index; ask = number }) ≡ Some a → asking_of (filter stays d.member.asks) (record { run = index; ask = number }) ≡ Some a =
        λ index number callee o_ a there.
        let name : AskName = record { run = index; ask = number } in
        let is = name_is (record { views = bv; own = own; phase = phase; kept = m.performing.kept }) (OnesOf o) P Old (OldSaid bv own phase P declared turn first lawful firsts Old at o m) declared turn first lawful kept index number callee s.from few o_ in
        lookup-kept (is_name name) stays d.member.asks (λ e here. ap (λ b. b || not (rules.is_settled d.member.known e.1)) (waiting_stays kept o_.ask e.0 o_.is_open (subst (λ n. is_name n e.0 ≡ true) (sym is) here))) ∙ there in
        record {
          quiet = record {
            views = s.views;
            down = s.down;
            wants = subst (λ l. AreLow (knowing.asked_all d.member.known.wants l)) (sym none) low;
            requests = s.requests;
            required = s.required;
            first = s.first;
            own_is = s.own;
            from = s.from;
            phase_is = s.phase;
            held = s.held;
            replies = s.replies;
            replied = body.replied;
            opened = λ index number callee o_. (let x = body.opened index number callee o_ in record { asking = x.asking; there = opened index number callee o_ x.asking x.there; server = x.server; kind = x.kind });
          };
          effects = subst (All (EffectSo bv own P kept)) (sym effects) s.effects;
          news = subst (All (NewCall m.performing.kept)) (sym effects) s.news;
          once = λ others. subst (λ l. AreApart (targets l)) (sym effects) (executed_once bv others turn declared at (handle at o m) (handled_silent o quiet_o).0 (handled_silent o quiet_o).1).once;
          recorded = λ index number callee r view node there entry. elim (body.recorded index number callee r view node there entry) [
            | inl before ↦ inl before
            | inr new ↦ inr (subst (λ l. IsCallIn l index number callee node) (sym effects) new)
          ];
          opened = λ index number callee o_. (let x = body.opened index number callee o_ in record { asking = x.asking; there = opened index number callee o_ x.asking x.there; server = x.server; kind = x.kind; said = x.said });
          named = s.named;
          longer = s.longer;
          counts = s.counts;
        }
