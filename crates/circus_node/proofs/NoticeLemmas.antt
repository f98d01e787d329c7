-- What a member knows is what it noticed.
use Rattle.std.proofs.Common.{◌≡◌, ℕ, ◌++◌, Bool, true, false, if◌then◌else◌, List, [], ◌∷◌, refl, sym, ap, ◌∙◌}
use Rattle.circus_collate.specs.declared.view.View.{View}
use Rattle.circus_header.specs.declared.call.CallHeader.{CallHeader}
use Rattle.circus_header.specs.declared.call.Request.{Request}
use Rattle.circus_gather.specs.Gathering.{answer_to}
use Rattle.circus_gather.specs.declared.added.Added.{Added}
use Rattle.circus_gather.specs.declared.added.Added.TheVariants as added
use Rattle.circus_fanout.specs.Knowing.{Knowing, at_boot, after, known_by, note_lookup}
use Rattle.circus_fanout.specs.Knowing as knowing
use Rattle.circus_fanout.specs.Notices.{Notice, Told, Answered, Notices, none_yet, more}
use Rattle.circus_value.specs.ValueTree.{ValueTree}
use Rattle.circus_model.specs.Behaviour.{Behaviour}
use Rattle.circus_performing.specs.Performing.{is_fetching}
use Rattle.circus_member_rules.specs.declared.occurrence.Occurrence.{Occurrence}
use Rattle.circus_member_rules.specs.declared.occurrence.Occurrence.TheVariants as comes
use Rattle.circus_member_rules.specs.declared.place.Place.{Place}
use Rattle.circus_member_rules.specs.declared.place.Beginning.{Beginning}
use Rattle.circus_member_rules.specs.MemberState.{MemberState, Doing}
use Rattle.circus_member_rules.specs.Rules.{ringmaster, wanted_by_call}
use Rattle.circus_member_rules.specs.Step.{is_lookup, known_by_table, handle}
use Rattle.circus_node.specs.Noticing.{noticed_by_call, noticed_by_table, notices_of, with_all, notices_after, Happenings, after_step, after_all, noticed_by_all, member_at_boot}
use Rattle.circus_node.proofs.ViewLemmas.{with_state, executed_knows, booted_knows}

-- what is known after more notices
abbrev knows_by : Knowing → List Notice → Knowing
knows_by k [] = k
knows_by k (n ∷ ns) = knows_by (after k n) ns

all_known : (boot : List View) (notices : Notices) (ns : List Notice) → known_by boot (with_all notices ns) ≡ knows_by (known_by boot notices) ns
all_known boot notices [] = refl
all_known boot notices (n ∷ ns) = all_known boot (more notices n) ns

-- ---- by what happens

by_call : (a : Added) (header : CallHeader) (k : Knowing) → wanted_by_call a header k ≡ knows_by k (noticed_by_call a header)
by_call (added.Reply reply) header k = refl
by_call (added.Stale required) header k = refl
by_call (added.Before first) header k = refl
by_call added.Held header k = refl

by_table : (request : Request) (view : View) (k : Knowing) → known_by_table k request view ≡ knows_by k (noticed_by_table request view)
by_table request view k = by_kind (is_lookup request)
  where
    by_kind : (lookup : Bool) → knowing.note_view (if lookup then knowing.note_answer k view.troupe else k) view ≡ knows_by k ((if lookup then Answered view.troupe ∷ [] else []) ++ Told view ∷ [])
    by_kind true = refl
    by_kind false = refl

module _ {M : Type 0} where
  restored_knows : (step : ℕ) (m : MemberState M) (state : List ValueTree) (count : ℕ) → (handle step (comes.Restored state count) m).member.known ≡ m.known
  restored_knows step m state count =
      elim (is_fetching m.performing.kept.phase) as
      (λ b. let d : Doing M = if b then with_state step m state count else record { member = m; effects = [] } in d.member.known ≡ m.known)
      [ true ↦ refl | false ↦ refl ]

  handled_knows : (step : ℕ) (o : Occurrence) (m : MemberState M) → (handle step o m).member.known ≡ knows_by m.known (notices_of m o)
  handled_knows step (comes.Asked header body sender) m = by_call (answer_to m.gathered header) header m.known
  handled_knows step (comes.Fetched incarnation sender) m = refl
  handled_knows step (comes.Replied name from reply) m = refl
  handled_knows step (comes.IsStale name server from incarnation) m = refl
  handled_knows step (comes.IsBefore name from) m = refl
  handled_knows step (comes.Told request table) m = by_table request table.view m.known
  handled_knows step (comes.Restored state count) m = restored_knows step m state count
  handled_knows step (comes.Declared node) m = refl
  handled_knows step comes.Joins m = refl

-- ---- over every list

stepped_knows : (boot : List View) (notices : Notices) (m : MemberState Behaviour) (step : ℕ) (o : Occurrence) → m.known ≡ known_by boot notices
    → (after_step m (step, o)).known ≡ known_by boot (notices_after notices m o)
stepped_knows boot notices m step o is =
    ap (λ k. note_lookup k ringmaster)
    (executed_knows (λ (b : Behaviour). b.declared) (λ (b : Behaviour). b.turn) step (handle step o m)
    ∙ handled_knows step o m
    ∙ ap (λ k. knows_by k (notices_of m o)) is
    ∙ sym (all_known boot notices (notices_of m o)))

knows_on : (boot : List View) (notices : Notices) (m : MemberState Behaviour) (happenings : Happenings) → m.known ≡ known_by boot notices
    → (after_all m happenings).known ≡ known_by boot (noticed_by_all notices m happenings)
knows_on boot notices m [] is = is
knows_on boot notices m (happening ∷ happenings) is =
    knows_on boot (notices_after notices m happening.1) (after_step m happening) happenings (stepped_knows boot notices m happening.0 happening.1 is)

pub knows_all : (b : Behaviour) (place : Place) (views : List View) (beginning : Beginning) (happenings : Happenings)
    → (after_all (member_at_boot b place views beginning) happenings).known ≡ known_by views (noticed_by_all none_yet (member_at_boot b place views beginning) happenings)
knows_all b place views beginning happenings =
    knows_on views none_yet (member_at_boot b place views beginning) happenings
    (booted_knows (λ (b : Behaviour). b.declared) (λ (b : Behaviour). b.turn) (λ (b : Behaviour). b.first) place views beginning b)
