-- What a member knows, holds and is behind what happens is what its past says.
use Rattle.std.proofs.Common.{◌≡◌, ℕ, ◌≤◌, Bool, true, false, ◌&&◌, if◌then◌else◌, true≢false, List, [], ◌∷◌, ◌++◌, length, length-set, Option, None, Some, refl, ap, sym, subst, ◌∙◌}
use Rattle.std.specs.Prelude.{slice_set, max}
use Rattle.circus_value.specs.Among.{is_among}
use Rattle.circus_value.specs.ValueTree.{ValueTree}
use Rattle.circus_header.specs.declared.call.CallHeader.{CallHeader}
use Rattle.circus_collate.specs.declared.view.View.{View}
use Rattle.circus_transfer.specs.declared.joiner.Joiner.{Joiner}
use Rattle.circus_transfer.specs.declared.joiner.Joiner.TheVariants.{Outside, Asking, Fetching, Active}
use Rattle.circus_transfer.specs.Joining.{after_join, after_table, after_state}
use Rattle.circus_record.specs.declared.record.MemberRecord.{MemberRecord}
use Rattle.circus_fanout.specs.Knowing.{Knowing}
use Rattle.circus_fanout.specs.Knowing as knowing
use Rattle.circus_gather.specs.declared.added.Added.{Added}
use Rattle.circus_gather.specs.declared.added.Added.TheVariants as added
use Rattle.circus_gather.specs.declared.held.HeldCall.{HeldCall}
use Rattle.circus_gather.specs.Gathering.{Gathered, answer_to, is_held, with_call, with_first}
use Rattle.circus_performing.specs.Performing.{is_active, is_fetching, made_active, taken_in, last_count}
use Rattle.circus_performing.proofs.Records.{still_inactive_joining, still_inactive_taken, fetching_is_inactive}
use Rattle.circus_member_rules.specs.declared.occurrence.Occurrence.{Occurrence}
use Rattle.circus_member_rules.specs.declared.occurrence.Occurrence.TheVariants as comes
use Rattle.circus_member_rules.specs.Rules.{wanted_by_call, active_call, before_answers}
use Rattle.circus_member_rules.specs.MemberState.{MemberState, Doing}
use Rattle.circus_member_rules.specs.Step.{is_join, answered_by_ring, handle}
use Rattle.circus_member_rules.proofs.Homes.{ring_views, ring_down, called_views, declared_views, told_down}
use Rattle.circus_member_theory.specs.Ranges.{InRange}
use Rattle.circus_member_theory.specs.Past.{Past, booted, followed, is_newer, with_view, views_known, nodes_declared_down, required_incarnation, calls_arrived, is_asking, taken_in as way_in, phase, snapshot_fetched}
use Rattle.circus_member_theory.specs.First.{first_given}
use Rattle.circus_member_theory.proofs.Timely.Firsts.{first_now, none_yet, none_now, given_before}
use Rattle.circus_member_theory.proofs.Timely.Phases.{once_told, once_tabled, once_restored, inactive_told, inactive_tabled, inactive_restored}
use Rattle.circus_member_theory.proofs.Timely.Calls.{IsLeft, left_call, left_required, left_first}

-- ---- views, and nodes that are down

pub told_views : (k : Knowing) (view : View) → (knowing.note_view k view).views ≡ with_view k.views view
told_views k view = by_test (knowing.is_newer k view)
  where
    by_test : (b : Bool) → let t : Knowing = if b then record k { views = slice_set k.views view.troupe view } else k in t.views ≡
        (if b then slice_set k.views view.troupe view else k.views)
    by_test true = refl
    by_test false = refl

pub called_down : (a : Added) (header : CallHeader) (k : Knowing) → (wanted_by_call a header k).down ≡ k.down
called_down (added.Reply reply) header k = refl
called_down (added.Stale required_incarnation) header k = refl
called_down (added.Before first) header k = refl
called_down added.Held header k = refl

pub declared_down : (k : Knowing) (node : ℕ) → (knowing.note_down k node).down ≡ (if is_among k.down node then k.down else k.down ++ node ∷ [])
declared_down k node = by_test (is_among k.down node)
  where
    by_test : (b : Bool) → let t : Knowing = if b then k else record k { down = k.down ++ node ∷ [] } in t.down ≡ (if b then k.down else k.down ++ node ∷ [])
    by_test true = refl
    by_test false = refl

with_view_long : (views : List View) (view : View) → length (with_view views view) ≡ length views
with_view_long views view = by_test (is_newer views view)
  where
    by_test : (b : Bool) → length (if b then slice_set views view.troupe view else views) ≡ length views
    by_test true = length-set views view.troupe view
    by_test false = refl

pub known_long : (boot : List View) (p : Past) → length (views_known boot p) ≡ length boot
known_long boot booted = refl
known_long boot (followed p at (comes.Told request table)) = with_view_long (views_known boot p) table.view ∙ known_long boot p
known_long boot (followed p at (comes.Asked header body sender)) = known_long boot p
known_long boot (followed p at (comes.Fetched incarnation sender)) = known_long boot p
known_long boot (followed p at (comes.Replied name from reply)) = known_long boot p
known_long boot (followed p at (comes.IsStale name server from incarnation)) = known_long boot p
known_long boot (followed p at (comes.IsBefore name from)) = known_long boot p
known_long boot (followed p at (comes.Restored state count)) = known_long boot p
known_long boot (followed p at (comes.Declared node)) = known_long boot p
known_long boot (followed p at comes.Joins) = known_long boot p

pub record Knows (boot : List View) (q : Past) (k : Knowing) : Type 0 where
  pub views : k.views ≡ views_known boot q
  pub gone : k.down ≡ nodes_declared_down q

-- ---- calls

pub record HoldsSo (q : Past) (g : Gathered) : Type 0 where
  pub least : g.required ≡ required_incarnation q
  pub left : IsLeft g (calls_arrived q)

called_rest : (g : Gathered) (call : HeldCall) → (with_call g call).required ≡ g.required
called_rest g call = by_test (is_held (answer_to g call.header))
  where
    by_test : (b : Bool) → let h : Gathered = if b then record g { held = g.held ++ call ∷ [] } else g in h.required ≡ g.required
    by_test true = refl
    by_test false = refl

-- ---- the way into the troupe

-- it is active with the first state, from its count on
abbrev pub ActiveSo : MemberRecord → Option (ℕ × (List ValueTree × ℕ)) → Type 0
ActiveSo kept None = Unit {0}
ActiveSo kept (Some given) = (is_active kept.phase ≡ true) × (kept.active_at ≡ given.0) × (kept.from ≡ given.1.1)

pub record IsOnItsWay (begins : Joiner) (q : Past) (kept : MemberRecord) : Type 0 where
  pub phase_is : kept.phase ≡ phase begins q
  pub outside : is_active kept.phase ≡ false → kept.from ≡ 0
  pub active : ActiveSo kept (first_given (snapshot_fetched begins) q)
  pub few : kept.from ≤ last_count

joined_is : (ph : Joiner) (count : ℕ) → is_fetching ph ≡ true → Active count ≡ after_state count ph
joined_is Outside count is = cc
joined_is Asking count is = cc
joined_is (Fetching incarnation) count is = refl
joined_is (Active first) count is = cc

same_phase : (ph : Joiner) (count : ℕ) → is_fetching ph ≡ false → ph ≡ after_state count ph
same_phase Outside count is = refl
same_phase Asking count is = refl
same_phase (Fetching incarnation) count is = cc
same_phase (Active first) count is = refl

-- who isn't active wasn't before
still_outside : (begins : Joiner) (p : Past) (step : ℕ) (o : Occurrence) → is_active (phase begins (followed p step o)) ≡ false → is_active (phase begins p) ≡ false
still_outside begins p step (comes.Asked header body sender) is = is
still_outside begins p step (comes.Fetched incarnation sender) is = is
still_outside begins p step (comes.Replied name from reply) is = is
still_outside begins p step (comes.IsStale name server from incarnation) is = is
still_outside begins p step (comes.IsBefore name from) is = is
still_outside begins p step (comes.Told request table) is = inactive_tabled (is_join request) table (phase begins p) is
still_outside begins p step (comes.Restored state count) is = inactive_restored count (phase begins p) is
still_outside begins p step (comes.Declared node) is = is
still_outside begins p step comes.Joins is = inactive_told (phase begins p) is

-- so what is given to active members alone wasn't given before
pub inactive_none : {A : Type 0} (begins : Joiner) (gives : Past → Option A) → ((q : Past) → is_active (phase begins q) ≡ false → gives q ≡ None) → (p : Past)
    → is_active (phase begins p) ≡ false
    → first_given gives p ≡ None
inactive_none begins gives none booted is = none_yet gives booted refl (none booted is)
inactive_none begins gives none (followed p step o) is =
    none_yet gives (followed p step o) (inactive_none begins gives none p (still_outside begins p step o is)) (none (followed p step o) is)

-- ---- behind what happens

module _ (boot : List View) (begins : Joiner) (p : Past) (step : ℕ) where
  pub knows_handled : {M : Type 0} (o : Occurrence) (m : MemberState M) → Knows boot p m.known → Knows boot (followed p step o) (handle step o m).member.known
  knows_handled (comes.Asked header body sender) m h =
      record { views = called_views (answer_to m.gathered header) header m.known ∙ h.views; gone = called_down (answer_to m.gathered header) header m.known ∙ h.gone }
  knows_handled (comes.Fetched incarnation sender) m h = record { views = h.views; gone = h.gone }
  knows_handled (comes.Replied name from reply) m h = record { views = h.views; gone = h.gone }
  knows_handled (comes.IsStale name server from incarnation) m h = record { views = h.views; gone = h.gone }
  knows_handled (comes.IsBefore name from) m h = record { views = h.views; gone = h.gone }
  knows_handled (comes.Told request table) m h =
      let k = answered_by_ring m.known request table.view.troupe in
      record {
        views = told_views k table.view ∙ ap (λ vs. with_view vs table.view) (ring_views m.known request table.view.troupe ∙ h.views);
        gone = told_down k table.view ∙ ring_down m.known request table.view.troupe ∙ h.gone;
      }
  knows_handled {M} (comes.Restored state count) m h = by_test (is_fetching m.performing.kept.phase)
    where
      by_test : (t : Bool) → let d : Doing M = if t then record {
        member = record m { performing = made_active step state count m.performing; gathered = with_first m.gathered count };
        effects = active_call m.place m.known count ++ before_answers m.gathered count;
      } else record { member = m; effects = [] } in Knows boot (followed p step (comes.Restored state count)) d.member.known
      by_test true = record { views = h.views; gone = h.gone }
      by_test false = record { views = h.views; gone = h.gone }
  knows_handled (comes.Declared node) m h =
      record {
        views = declared_views m.known node ∙ h.views;
        gone = declared_down m.known node ∙ ap (λ nodes. if is_among nodes node then nodes else nodes ++ node ∷ []) h.gone;
      }
  knows_handled comes.Joins m h = record { views = h.views; gone = h.gone }

  pub holds_handled : {M : Type 0} (o : Occurrence) (m : MemberState M) → m.gathered.from ≡ m.performing.kept.from
      → (is_active m.performing.kept.phase ≡ false → m.performing.kept.from ≡ 0)
      → HoldsSo p m.gathered → HoldsSo (followed p step o) (handle step o m).member.gathered
  holds_handled (comes.Asked header body sender) m from outside h =
      let call : HeldCall = record { header = header; body = body; sender = sender } in
      record { least = called_rest m.gathered call ∙ h.least; left = left_call m.gathered call (calls_arrived p) h.left }
  holds_handled (comes.Fetched incarnation sender) m from outside h =
      record { least = ap (λ n. max n incarnation) h.least; left = left_required m.gathered incarnation (calls_arrived p) h.left }
  holds_handled (comes.Replied name from_node reply) m from outside h = record { least = h.least; left = h.left }
  holds_handled (comes.IsStale name server from_node incarnation) m from outside h = record { least = h.least; left = h.left }
  holds_handled (comes.IsBefore name from_node) m from outside h = record { least = h.least; left = h.left }
  holds_handled (comes.Told request table) m from outside h = record { least = h.least; left = h.left }
  holds_handled {M} (comes.Restored state count) m from outside h = by_test (is_fetching m.performing.kept.phase) refl
    where
      by_test : (t : Bool) → is_fetching m.performing.kept.phase ≡ t → let d : Doing M = if t then record {
        member = record m { performing = made_active step state count m.performing; gathered = with_first m.gathered count };
        effects = active_call m.place m.known count ++ before_answers m.gathered count;
      } else record { member = m; effects = [] } in HoldsSo (followed p step (comes.Restored state count)) d.member.gathered
      by_test true is =
          record { least = h.least; left = left_first m.gathered count (calls_arrived p) (from ∙ outside (fetching_is_inactive m.performing.kept.phase is)) h.left }
      by_test false is = record { least = h.least; left = h.left }
  holds_handled (comes.Declared node) m from outside h = record { least = h.least; left = h.left }
  holds_handled comes.Joins m from outside h = record { least = h.least; left = h.left }

  -- no state comes
  active_still : (o : Occurrence) (kept later : MemberRecord) → snapshot_fetched begins (followed p step o) ≡ snapshot_fetched begins p → later.active_at ≡ kept.active_at → later.from ≡ kept.from
      → (is_active later.phase ≡ false → is_active kept.phase ≡ false) → ActiveSo kept (first_given (snapshot_fetched begins) p)
      → ActiveSo later (first_given (snapshot_fetched begins) (followed p step o))
  active_still o kept later same at from still h = by_given (first_given (snapshot_fetched begins) p) refl h
    where
      by_phase : (b : Bool) → is_active later.phase ≡ b → is_active kept.phase ≡ true → b ≡ true
      by_phase true is was = refl
      by_phase false is was = absurd (true≢false (sym was ∙ still is))

      by_given : (given : Option (ℕ × (List ValueTree × ℕ))) → first_given (snapshot_fetched begins) p ≡ given → ActiveSo kept given
          → ActiveSo later (first_given (snapshot_fetched begins) (followed p step o))
      by_given None none a =
          let nothing = none_yet (snapshot_fetched begins) (followed p step o) none (same ∙ none_now (snapshot_fetched begins) p none) in
          subst (ActiveSo later) (sym nothing) tt
      by_given (Some given) some a =
          subst (ActiveSo later) (sym (given_before (snapshot_fetched begins) (followed p step o) given some)) (by_phase (is_active later.phase) refl a.0, at ∙ a.1, from ∙ a.2)

  way_same : (o : Occurrence) (kept later : MemberRecord) → snapshot_fetched begins (followed p step o) ≡ snapshot_fetched begins p → later.active_at ≡ kept.active_at → later.from ≡ kept.from
      → (is_active later.phase ≡ false → is_active kept.phase ≡ false) → later.phase ≡ phase begins (followed p step o) → IsOnItsWay begins p kept
      → IsOnItsWay begins (followed p step o) later
  way_same o kept later same at from still phase_is h =
      record {
        phase_is = phase_is;
        outside = λ is. from ∙ h.outside (still is);
        active = active_still o kept later same at from still h.active;
        few = subst (λ n. n ≤ last_count) (sym from) h.few;
      }

  pub way_handled : {M : Type 0} (o : Occurrence) (m : MemberState M) → InRange o → IsOnItsWay begins p m.performing.kept
      → IsOnItsWay begins (followed p step o) (handle step o m).member.performing.kept
  way_handled (comes.Asked header body sender) m within h = way_same (comes.Asked header body sender) m.performing.kept m.performing.kept refl refl refl (λ is. is) h.phase_is h
  way_handled (comes.Fetched incarnation sender) m within h = way_same (comes.Fetched incarnation sender) m.performing.kept m.performing.kept refl refl refl (λ is. is) h.phase_is h
  way_handled (comes.Replied name from reply) m within h = way_same (comes.Replied name from reply) m.performing.kept m.performing.kept refl refl refl (λ is. is) h.phase_is h
  way_handled (comes.IsStale name server from incarnation) m within h =
      way_same (comes.IsStale name server from incarnation) m.performing.kept m.performing.kept refl refl refl (λ is. is) h.phase_is h
  way_handled (comes.IsBefore name from) m within h = way_same (comes.IsBefore name from) m.performing.kept m.performing.kept refl refl refl (λ is. is) h.phase_is h
  way_handled (comes.Told request table) m within h = by_test (is_join request) refl
    where
      by_test : (t : Bool) → is_join request ≡ t → IsOnItsWay begins (followed p step (comes.Told request table)) (if t then taken_in table m.performing.kept else m.performing.kept)
      by_test true is =
          way_same (comes.Told request table) m.performing.kept (taken_in table m.performing.kept) refl refl refl (still_inactive_taken table m.performing.kept.phase)
          (ap (after_table table) h.phase_is ∙ once_tabled table (phase begins p)
          ∙ (λ j. if sym is j && is_asking (phase begins p) then way_in table else phase begins p)) h
      by_test false is = way_same (comes.Told request table) m.performing.kept m.performing.kept refl refl refl (λ x. x)
          (h.phase_is ∙ (λ j. if sym is j && is_asking (phase begins p) then way_in table else phase begins p)) h
  way_handled {M} (comes.Restored state count) m within h = by_test (is_fetching m.performing.kept.phase) refl
    where
      o : Occurrence
      o = comes.Restored state count

      by_given : is_fetching m.performing.kept.phase ≡ true → (given : Option (ℕ × (List ValueTree × ℕ))) → first_given (snapshot_fetched begins) p ≡ given → ActiveSo m.performing.kept given
          → first_given (snapshot_fetched begins) (followed p step o) ≡ Some (step, (state, count))
      by_given is None none a =
          let now_is : is_fetching (phase begins p) ≡ true = ap is_fetching (sym h.phase_is) ∙ is in
          first_now (snapshot_fetched begins) (followed p step o) (state, count) none (rw now_is refl)
      by_given is (Some given) some a = absurd (true≢false (sym a.0 ∙ fetching_is_inactive m.performing.kept.phase is))

      by_test : (t : Bool) → is_fetching m.performing.kept.phase ≡ t → let d : Doing M = if t then record {
        member = record m { performing = made_active step state count m.performing; gathered = with_first m.gathered count };
        effects = active_call m.place m.known count ++ before_answers m.gathered count;
      } else record { member = m; effects = [] } in IsOnItsWay begins (followed p step o) d.member.performing.kept
      by_test true is =
          let later = (made_active step state count m.performing).kept in
          record {
            phase_is = joined_is m.performing.kept.phase count is ∙ ap (after_state count) h.phase_is ∙ once_restored count (phase begins p);
            outside = λ no_longer. absurd (true≢false no_longer);
            active = subst (ActiveSo later) (sym (by_given is (first_given (snapshot_fetched begins) p) refl h.active)) (refl, refl, refl);
            few = within;
          }
      by_test false is =
          let now_is : is_fetching (phase begins p) ≡ false = ap is_fetching (sym h.phase_is) ∙ is in
          way_same o m.performing.kept m.performing.kept (rw now_is refl) refl refl (λ x. x)
          (same_phase m.performing.kept.phase count is ∙ ap (after_state count) h.phase_is ∙ once_restored count (phase begins p)) h
  way_handled (comes.Declared node) m within h = way_same (comes.Declared node) m.performing.kept m.performing.kept refl refl refl (λ is. is) h.phase_is h
  way_handled comes.Joins m within h =
      let kept = m.performing.kept in
      way_same comes.Joins kept (record kept { phase = after_join kept.phase }) refl refl refl (still_inactive_joining kept.phase)
      (ap after_join h.phase_is ∙ once_told (phase begins p)) h
