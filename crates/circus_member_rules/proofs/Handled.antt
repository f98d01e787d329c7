-- What happens to a sound member leaves it sound.
use Rattle.std.proofs.Common.{◌≡◌, ℕ, ◌≤◌, Bool, true, false, cond, if◌then◌else◌, nat_eq, List, [], ◌∷◌, ◌++◌, map, length, All, Option, Some, None, refl, sym, subst, ap, ◌∙◌}
use Rattle.std.specs.Prelude.{IfSome, slice_get, option_map}
use Rattle.std.specs.Option.{option_map_or}
use Rattle.std.specs.List.{IsDistinct}
use Rattle.std.proofs.lemmas.List.Elements.{All-map, All-weaker, All-push}
use Rattle.std.proofs.lemmas.Map.Made.{keys_of-map_values, lookup-map_values}
use Rattle.circus_value.specs.ValueTree.{ValueTree}
use Rattle.circus_value.specs.declared.caller.Caller.{Caller}
use Rattle.circus_header.specs.CallFields.{IsIncarnation}
use Rattle.circus_header.specs.declared.call.CallHeader.{CallHeader}
use Rattle.circus_header.specs.declared.call.Request.{Request}
use Rattle.circus_header.specs.declared.answer.Reply.{Reply}
use Rattle.circus_collate.specs.declared.view.View.{View}
use Rattle.circus_collate.specs.declared.table.Table.{Table}
use Rattle.circus_collate.specs.declared.giving.Said.{Said}
use Rattle.circus_transfer.specs.Joining.{after_join, after_table}
use Rattle.circus_model.specs.declared.signature.Signature.{Signature}
use Rattle.circus_model.specs.Lawful.{IsState, import_answers}
use Rattle.circus_model.specs.Behaviour.{Behaviour, IsModule}
use Rattle.circus_record.specs.declared.record.AskRecord.{AskRecord}
use Rattle.circus_record.specs.declared.record.RunRecord.{RunRecord}
use Rattle.circus_fanout.specs.Knowing.{Knowing, is_newer, note_view, note_down, want_view}
use Rattle.circus_gather.specs.declared.held.HeldCall.{HeldCall}
use Rattle.circus_gather.specs.Gathering.{answer_to, with_call, with_required, with_first}
use Rattle.circus_fanout.specs.Asking.{Asking, with_reply, with_before, with_stale, with_view}
use Rattle.circus_performing.specs.Performing.{Performing, open_ask, last_of, is_fetching, active_record, made_active, activate, last_count, taken_in}
use Rattle.circus_performing.specs.Record.{IsRecord}
use Rattle.circus_performing.specs.Acts.{Joins, Tabled, Activates}
use Rattle.circus_performing.proofs.Records.{act_keeps, fetching_is_inactive}
use Rattle.circus_member_rules.specs.declared.occurrence.AskName.{AskName}
use Rattle.circus_member_rules.specs.OpenAsks.{is_name, asking_of, with_asking}
use Rattle.circus_member_rules.specs.MemberState.{MemberState, Doing}
use Rattle.circus_member_rules.specs.Rules.{wanted_by_call, after_stale, seen_by_ask, with_new_view, active_call, before_answers}
use Rattle.circus_member_rules.specs.Step as step
use Rattle.circus_member_rules.specs.Step.{name_of_last, is_join, answered_by_ring, known_by_table, kept_by_table}
use Rattle.circus_member_rules.specs.Callable.{IsAsked}
use Rattle.circus_member_rules.specs.Happening.{IsCallTo, IsReplyTo}
use Rattle.circus_member_rules.specs.Seen.Sound.{IsOpenAsk, IsRunOf, IsSameAsk, IsRunning, IsSound}
use Rattle.circus_member_rules.proofs.Named.{All-changed, named-changed, kept-changed}
use Rattle.circus_member_rules.proofs.Homes.{home_with, told_as_many, told_incarnations, ring_views, called_views, declared_views}
use Rattle.circus_member_rules.proofs.Held.{held-with_call, held-with_required, held-with_first, called_same}
use Rattle.circus_member_rules.proofs.Sound.{sound_requests, sound_known, sound_same_views, sound_gathered, sound_asks, sound_phase}

-- ---- asks in which the header stays

-- an ask changed so asks the same
abbrev pub KeepsHeader : (Asking → Asking) → Type 0
KeepsHeader change = (a : Asking) → (change a).header ≡ a.header

same_ask : (ask : AskRecord) (a later : Asking) → later.header ≡ a.header → IsSameAsk ask a → IsSameAsk ask later
same_ask ask a later same h =
    record { server = ap (λ (x : CallHeader). x.server) same ∙ h.server; procedure = ap (λ (x : CallHeader). x.procedure) same ∙ h.procedure }

-- replies are to the header alone
still_reply : (d : Signature) (modules : ℕ) (a later : Asking) → later.header ≡ a.header → (reply : Reply) → IsReplyTo d modules reply a → IsReplyTo d modules reply later
still_reply d modules a later same reply h =
    record { counts = h.counts; fits = subst (λ (x : CallHeader). import_answers d.imports x.server x.procedure reply.outcome ≡ true) (sym same) h.fits }

-- an open ask with the same header, and with these replies
open_with : (d : Signature) (troupe modules : ℕ) (a later : Asking) → later.header ≡ a.header → All (λ (s : Said Reply). IsReplyTo d modules s.value later) later.said → IsOpenAsk d troupe modules a → IsOpenAsk d troupe modules later
open_with d troupe modules a later same said h =
    record { asked = subst IsAsked (sym same) h.asked; client = ap (λ (x : CallHeader). x.client) same ∙ h.client; said = said }

open_same : (d : Signature) (troupe modules : ℕ) (a later : Asking) → later.header ≡ a.header → later.said ≡ a.said → IsOpenAsk d troupe modules a → IsOpenAsk d troupe modules later
open_same d troupe modules a later same said h =
    open_with d troupe modules a later same
    (subst (All (λ (s : Said Reply). IsReplyTo d modules s.value later)) (sym said)
    (All-weaker (λ (s : Said Reply). IsReplyTo d modules s.value a) (λ (s : Said Reply). IsReplyTo d modules s.value later) (λ s. still_reply d modules a later same s.value) a.said h.said))
    h

-- ---- an ask sees a view

-- an ask, as an entry sees a view
abbrev seen : Knowing → View → Asking → Asking
seen k view a = if nat_eq a.header.server view.troupe then with_view view k.down a else a

seen_entry : (k : Knowing) (view : View) (e : AskName × Asking) → seen_by_ask k view e ≡ (e.0, seen k view e.1)
seen_entry k view e =
    elim (nat_eq e.1.header.server view.troupe) as (λ t. ◌≡◌ {A = AskName × Asking} (if t then (e.0, with_view view k.down e.1) else e) (e.0, if t then with_view view k.down e.1 else e.1)) [
      | true ↦ refl
      | false ↦ refl
    ]

seen_all : (k : Knowing) (view : View) (asks : List (AskName × Asking)) → with_new_view k view asks ≡ map (λ (e : AskName × Asking). (e.0, seen k view e.1)) asks
seen_all k view [] = refl
seen_all k view (e ∷ es) = λ j. seen_entry k view e j ∷ seen_all k view es j

seen_header : (k : Knowing) (view : View) → KeepsHeader (seen k view)
seen_header k view a =
    elim (nat_eq a.header.server view.troupe) as (λ t. let x = if t then with_view view k.down a else a in x.header ≡ a.header) [ true ↦ refl | false ↦ refl ]

seen_said : (k : Knowing) (view : View) (a : Asking) → (seen k view a).said ≡ a.said
seen_said k view a =
    elim (nat_eq a.header.server view.troupe) as (λ t. let x = if t then with_view view k.down a else a in x.said ≡ a.said) [ true ↦ refl | false ↦ refl ]

module _ {M : Type 0} (b : Behaviour) (m : MemberState M) where
  -- ---- calls that come in

  pub sound_asked : (header : CallHeader) (body : List ℕ) (sender : Caller) → IsCallTo b.declared m.place.troupe (length m.known.views) header body → IsSound b m → IsSound b (step.handle_call m header body sender).member
  sound_asked header body sender can h =
      let call : HeldCall = record { header = header; body = body; sender = sender } in
      let g = with_call m.gathered call in
      let same = called_same m.gathered call in
      let k = wanted_by_call (answer_to m.gathered header) header m.known in
      let n : MemberState M = record m { gathered = g } in
      sound_same_views b n k (called_views (answer_to m.gathered header) header m.known)
      (sound_gathered b m g same.0 same.1 (held-with_call b.declared m.place.troupe (length m.known.views) m.gathered call can h.held) h)

  pub sound_fetched : (incarnation : ℕ) (sender : Caller) → IsSound b m → IsSound b (step.handle_fetch m incarnation sender).member
  sound_fetched incarnation sender h =
      let g = with_required m.gathered incarnation in
      let n : MemberState M = record m { gathered = g } in
      sound_requests b n (m.requests ++ sender ∷ [])
      (sound_gathered b m g refl refl (held-with_required b.declared m.place.troupe (length m.known.views) m.gathered incarnation h.held) h)

  -- ---- answers to asks

  -- an ask is changed, but for its header
  sound_changed : (name : AskName) (change : Asking → Asking) → KeepsHeader change → ((a : Asking) → asking_of m.asks name ≡ Some a → IsOpenAsk b.declared m.place.troupe (length m.known.views) a → IsOpenAsk b.declared m.place.troupe (length m.known.views) (change a)) → IsSound b m → IsSound b (record m { asks = with_asking name change m.asks })
  sound_changed name change keeps opens h =
      sound_asks b m (with_asking name change m.asks)
      (All-changed (IsOpenAsk b.declared m.place.troupe (length m.known.views)) name change m.asks opens h.asks)
      (named-changed name change m.asks h.names)
      (λ ask is. kept-changed (IsSameAsk ask) name (name_of_last m.performing.kept) change m.asks (λ a. same_ask ask a (change a) (keeps a)))
      h

  pub sound_replied : (name : AskName) (from : ℕ) (reply : Reply) → IfSome (asking_of m.asks name) (IsReplyTo b.declared (length m.known.views) reply) → IsSound b m → IsSound b (step.handle_reply m name from reply).member
  sound_replied name from reply can h = sound_changed name (with_reply from reply) (λ a. refl) opens h
    where
      opens : (a : Asking) → asking_of m.asks name ≡ Some a → IsOpenAsk b.declared m.place.troupe (length m.known.views) a → IsOpenAsk b.declared m.place.troupe (length m.known.views) (with_reply from reply a)
      opens a is ready =
          let later = with_reply from reply a in
          let modules = length m.known.views in
          let new = still_reply b.declared modules a later refl reply (subst (λ o. IfSome o (IsReplyTo b.declared modules reply)) is can) in
          let old = All-weaker (λ (s : Said Reply). IsReplyTo b.declared modules s.value a) (λ (s : Said Reply). IsReplyTo b.declared modules s.value later) (λ s. still_reply b.declared modules a later refl s.value) a.said ready.said in
          open_with b.declared m.place.troupe modules a later refl (All-push (λ (s : Said Reply). IsReplyTo b.declared modules s.value later) a.said (record { node = from; value = reply }) old new) ready

  pub sound_before : (name : AskName) (from : ℕ) → IsSound b m → IsSound b (step.before m name from).member
  sound_before name from h =
      sound_changed name (with_before from) (λ a. refl) (λ a is ready. open_same b.declared m.place.troupe (length m.known.views) a (with_before from a) refl refl ready) h

  pub sound_stale : (name : AskName) (server from incarnation : ℕ) → IsSound b m → IsSound b (step.handle_stale m name server from incarnation).member
  sound_stale name server from incarnation h =
      let n : MemberState M = record m { asks = with_asking name (after_stale m.known from incarnation) m.asks } in
      sound_same_views b n (want_view m.known server incarnation) refl
      (sound_changed name (after_stale m.known from incarnation) header (λ a is ready. open_same b.declared m.place.troupe (length m.known.views) a (after_stale m.known from incarnation a) (header a) (said a) ready) h)
    where
      header : KeepsHeader (after_stale m.known from incarnation)
      header a = by_view (slice_get m.known.views a.header.server)
        where
          by_view : (o : Option View) → let x = option_map_or (λ (view : View). with_stale view m.known.down from incarnation a) o a in x.header ≡ a.header
          by_view None = refl
          by_view (Some view) = refl

      said : (a : Asking) → (after_stale m.known from incarnation a).said ≡ a.said
      said a = by_view (slice_get m.known.views a.header.server)
        where
          by_view : (o : Option View) → let x = option_map_or (λ (view : View). with_stale view m.known.down from incarnation a) o a in x.said ≡ a.said
          by_view None = refl
          by_view (Some view) = refl

  -- ---- the Ringmaster answers

  -- all asks see a view
  sound_seen : (k : Knowing) (view : View) → IsSound b m → IsSound b (record m { asks = with_new_view k view m.asks })
  sound_seen k view h =
      let change = seen k view in
      let troupe = m.place.troupe in
      let modules = length m.known.views in
      subst (λ (asks : List (AskName × Asking)). IsSound b (record m { asks = asks })) (sym (seen_all k view m.asks))
      (sound_asks b m (map (λ (e : AskName × Asking). (e.0, change e.1)) m.asks)
      (All-map (λ (e : AskName × Asking). IsOpenAsk b.declared troupe modules e.1) (λ (e : AskName × Asking). (e.0, change e.1)) m.asks
      (All-weaker (λ (e : AskName × Asking). IsOpenAsk b.declared troupe modules e.1) (λ (e : AskName × Asking). IsOpenAsk b.declared troupe modules (change e.1)) (λ e. open_same b.declared troupe modules e.1 (change e.1) (seen_header k view e.1) (seen_said k view e.1)) m.asks h.asks))
      (subst (IsDistinct is_name) (sym (keys_of-map_values change m.asks)) h.names)
      (λ ask is same. subst (λ o. IfSome o (IsSameAsk ask)) (sym (lookup-map_values change (is_name (name_of_last m.performing.kept)) m.asks)) (mapped ask (asking_of m.asks (name_of_last m.performing.kept)) same))
      h)
    where
      mapped : (ask : AskRecord) (o : Option Asking) → IfSome o (IsSameAsk ask) → IfSome (option_map (seen k view) o) (IsSameAsk ask)
      mapped ask None same = tt
      mapped ask (Some a) same = same_ask ask a (seen k view a) (seen_header k view a) same

  sound_taken_in : IsModule b → (request : Request) (table : Table) → IsSound b m → IsSound b (record m { performing = record m.performing { kept = kept_by_table m.performing.kept request table } })
  sound_taken_in lawful request table h = by_test (is_join request)
    where
      by_test : (t : Bool) → IsSound b (record m { performing = record m.performing { kept = if t then taken_in table m.performing.kept else m.performing.kept } })
      by_test false = h
      by_test true =
          let p : Performing Behaviour = record { hosted = b; began = m.performing.began; kept = m.performing.kept } in
          sound_phase b m (after_table table m.performing.kept.phase) (act_keeps b lawful (Tabled table) p tt h.kept) h

  sound_view : (request : Request) (view : View) → IsIncarnation view.incarnation → IsSound b m → IsSound b (record m { known = known_by_table m.known request view })
  sound_view request view is h =
      let k = answered_by_ring m.known request view.troupe in
      let same = ring_views m.known request view.troupe in
      let many : length (note_view k view).views ≡ length m.known.views = told_as_many k view ∙ ap length same in
      let are = told_incarnations k view is (subst (λ vs. All (λ (v : View). IsIncarnation v.incarnation) vs) (sym same) h.home.incarnations) in
      sound_known b m (note_view k view) many (home_with b.declared m.place m.known.views (note_view k view).views many are h.home) h

-- with the view, the phase, and what the asks see
pub sound_told : {M : Type 0} (b : Behaviour) → IsModule b → (m : MemberState M) (request : Request) (table : Table) → IsIncarnation table.view.incarnation → IsSound b m → IsSound b (step.handle_table m request table).member
sound_told {M} b lawful m request table is h =
    let k = known_by_table m.known request table.view in
    let kept = kept_by_table m.performing.kept request table in
    let one : MemberState M = record m { known = k } in
    let two : MemberState M = record one { performing = record m.performing { kept = kept } } in
    let sound = sound_taken_in b one lawful request table (sound_view b m request table.view is h) in
    by_test two sound (is_newer m.known table.view)
  where
    by_test : (n : MemberState M) → IsSound b n → (t : Bool) → IsSound b (record n { asks = if t then with_new_view (known_by_table m.known request table.view) table.view n.asks else n.asks })
    by_test n sound true = sound_seen b n (known_by_table m.known request table.view) table.view sound
    by_test n sound false = sound

module _ {M : Type 0} (b : Behaviour) (lawful : IsModule b) (m : MemberState M) where
  -- ---- other things that happen

  pub sound_declared : (node : ℕ) → IsSound b m → IsSound b (step.declared_down m node).member
  sound_declared node h = sound_same_views b m (note_down m.known node) (declared_views m.known node) h

  pub sound_joins : IsSound b m → IsSound b (step.joins m).member
  sound_joins h =
      let p : Performing Behaviour = record { hosted = b; began = m.performing.began; kept = m.performing.kept } in
      sound_phase b m (after_join m.performing.kept.phase) (act_keeps b lawful Joins p tt h.kept) h

  -- a member with a state has performed nothing yet
  pub sound_active : (at : ℕ) (state : List ValueTree) (count : ℕ) → IsState b.declared state → count ≤ last_count → is_fetching m.performing.kept.phase ≡ true → IsSound b m → IsSound b (record m { performing = made_active at state count m.performing; gathered = with_first m.gathered count })
  sound_active at state count is within fetching h =
      let kept = m.performing.kept in
      let p : Performing Behaviour = record { hosted = b; began = m.performing.began; kept = kept } in
      let none : kept.runs ≡ [] = h.kept.inactive (fetching_is_inactive kept.phase fetching) in
      let g = with_first m.gathered count in
      let now = active_record at state count kept in
      let record_is : IsRecord b (activate at state count p).began (activate at state count p).kept = act_keeps b lawful (Activates at state count) p (is, within) h.kept in
      record {
        home = h.home;
        own = h.own;
        held = held-with_first b.declared m.place.troupe (length m.known.views) m.gathered count h.held;
        replies = h.replies;
        asks = h.asks;
        names = h.names;
        run = subst (λ rs. IfSome (last_of rs) (IsRunOf m.place.troupe (length m.known.views))) (sym none) tt;
        running = subst (λ o. IfSome o (IsRunning g m.asks now)) (sym (ap (λ (rs : List RunRecord). open_ask (record now { runs = rs })) none)) tt;
        kept = subst (λ (x : Performing Behaviour). IsRecord b x.began x.kept) (ap (λ t. cond t (made_active at state count p) p) fetching) record_is;
      }

  pub sound_restored : (at : ℕ) (state : List ValueTree) (count : ℕ) → IsState b.declared state → count ≤ last_count → IsSound b m → IsSound b (step.handle_state at m state count).member
  sound_restored at state count is within h = by_test (is_fetching m.performing.kept.phase) refl
    where
      by_test : (t : Bool) → is_fetching m.performing.kept.phase ≡ t → let d : Doing M = if t then record { member = record m { performing = made_active at state count m.performing; gathered = with_first m.gathered count }; effects = active_call m.place m.known count ++ before_answers m.gathered count } else record { member = m; effects = [] } in IsSound b d.member
      by_test false outside = h
      by_test true fetching = sound_active at state count is within fetching h
