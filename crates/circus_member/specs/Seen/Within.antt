-- Parts of a step that code takes one by one.
use Rattle.std.specs.Prelude.{[], if◌then◌else◌}
use Rattle.std.specs.Option.{option_map_or}
use Rattle.circus_collate.specs.declared.view.View.{View}
use Rattle.circus_header.specs.declared.call.Request.{Request}
use Rattle.circus_record.specs.declared.record.RunRecord.{RunRecord}
use Rattle.circus_fanout.specs.Knowing as knowing
use Rattle.circus_performing.specs.Performing.{last_of, open_ask}
use Rattle.circus_member_rules.specs.MemberState.{Doing, add_effects}
use Rattle.circus_member_rules.specs.Rules as rules
use Rattle.circus_member_rules.specs.Step.{opened_ask, ended_run, known_by_table}

-- one of the two alone, where there is such an ask, and such a run
abbrev pub opened_last : {M : Type 0} → Doing M → Doing M
opened_last d =
    option_map_or
    (λ (run : RunRecord). option_map_or (opened_ask d run) (open_ask d.member.performing.kept) d)
    (last_of d.member.performing.kept.runs)
    d

abbrev pub ended_last : {M : Type 0} → Doing M → Doing M
ended_last d = option_map_or (ended_run d) (last_of d.member.performing.kept.runs) d

-- the view alone, where the member knows and has seen it, and makes calls for it
abbrev pub seen_by : {M : Type 0} → Doing M → Request → View → Doing M
seen_by d request view =
    let m = d.member in
    let known = known_by_table m.known request view in
    let newer = knowing.is_newer m.known view in
    add_effects (record d { member = record m { known = known; asks = if newer then rules.with_new_view known view m.asks else m.asks } })
    (if newer then rules.calls_for_a_new_view known view m.asks else [])
