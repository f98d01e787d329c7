-- What a member notices by what happens to it, over every list of that.
use Rattle.std.specs.Prelude.{ℕ, ◌++◌, if◌then◌else◌, List, [], ◌∷◌}
use Rattle.circus_collate.specs.declared.view.View.{View}
use Rattle.circus_header.specs.declared.call.CallHeader.{CallHeader}
use Rattle.circus_header.specs.declared.call.Request.{Request}
use Rattle.circus_gather.specs.Gathering.{answer_to}
use Rattle.circus_gather.specs.declared.added.Added.{Added}
use Rattle.circus_gather.specs.declared.added.Added.TheVariants as added
use Rattle.circus_fanout.specs.Notices.{Notice, Told, Declared, Wanted, LookedUp, Answered, Notices, more}
use Rattle.circus_model.specs.Behaviour.{Behaviour}
use Rattle.circus_member_rules.specs.declared.occurrence.Occurrence.{Occurrence}
use Rattle.circus_member_rules.specs.declared.occurrence.Occurrence.TheVariants as comes
use Rattle.circus_member_rules.specs.declared.place.Place.{Place}
use Rattle.circus_member_rules.specs.declared.place.Beginning.{Beginning}
use Rattle.circus_member_rules.specs.MemberState.{MemberState}
use Rattle.circus_member_rules.specs.Rules.{ringmaster}
use Rattle.circus_member_rules.specs.Step.{is_lookup, step_member, boot_member}

-- a call that is held wants its client's view
abbrev pub noticed_by_call : Added → CallHeader → List Notice
noticed_by_call (added.Reply reply) header = []
noticed_by_call (added.Stale required) header = []
noticed_by_call (added.Before first) header = []
noticed_by_call added.Held header = Wanted header.client header.client_incarnation ∷ []

-- a table tells a view, and answers a Lookup
abbrev pub noticed_by_table : Request → View → List Notice
noticed_by_table request view = (if is_lookup request then Answered view.troupe ∷ [] else []) ++ Told view ∷ []

-- oldest first
abbrev pub notices_of : {M : Type 0} → MemberState M → Occurrence → List Notice
notices_of m (comes.Asked header body sender) = noticed_by_call (answer_to m.gathered header) header
notices_of m (comes.Fetched incarnation sender) = []
notices_of m (comes.Replied name from reply) = []
notices_of m (comes.IsStale name server from incarnation) = Wanted server incarnation ∷ []
notices_of m (comes.IsBefore name from) = []
notices_of m (comes.Told request table) = noticed_by_table request table.view
notices_of m (comes.Restored state count) = []
notices_of m (comes.Declared node) = Declared node ∷ []
notices_of m comes.Joins = []

abbrev pub with_all : Notices → List Notice → Notices
with_all notices [] = notices
with_all notices (n ∷ ns) = with_all (more notices n) ns

-- in a step, last that the views are looked up that are wanted then
abbrev pub notices_after : {M : Type 0} → Notices → MemberState M → Occurrence → Notices
notices_after notices m o = more (with_all notices (notices_of m o)) (LookedUp ringmaster)

-- what happens, each with its step
abbrev pub Happenings : Type 0
Happenings = List (ℕ × Occurrence)

-- a member after a step
abbrev pub after_step : MemberState Behaviour → ℕ × Occurrence → MemberState Behaviour
after_step m happening = (step_member (λ (b : Behaviour). b.declared) (λ (b : Behaviour). b.turn) happening.0 happening.1 m).member

-- and after each of a list
abbrev pub after_all : MemberState Behaviour → Happenings → MemberState Behaviour
after_all m [] = m
after_all m (happening ∷ happenings) = after_all (after_step m happening) happenings

abbrev pub noticed_by_all : Notices → MemberState Behaviour → Happenings → Notices
noticed_by_all notices m [] = notices
noticed_by_all notices m (happening ∷ happenings) =
    noticed_by_all (notices_after notices m happening.1) (after_step m happening) happenings

-- at boot
abbrev pub member_at_boot : Behaviour → Place → List View → Beginning → MemberState Behaviour
member_at_boot b place views beginning =
    (boot_member (λ (b : Behaviour). b.declared) (λ (b : Behaviour). b.turn) (λ (b : Behaviour). b.first) place views beginning b).member
