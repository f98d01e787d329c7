use Rattle.std.proofs.Common.{refl, sym, subst, ap, ◌∙◌}
use Rattle.circus_model.specs.Behaviour.{IsModule}
use Rattle.circus_performing.specs.Record.{behaviour}
use Rattle.circus_member_rules.specs.MemberState.{Doing}
use Rattle.circus_member_rules.specs.Step.{difference}
use Rattle.circus_member_rules.specs.Happening.{CanHappen}
use Rattle.circus_member_rules.specs.Seen.Sound.{IsSound}
use Rattle.circus_member_rules.proofs.Homes.{are_views, all_may_call}
use Rattle.circus_member_rules.proofs.Handled.{sound_asked, sound_fetched, sound_replied, sound_stale, sound_before, sound_told, sound_declared, sound_joins}
use Rattle.circus_member.proofs.Parts.{handled_so}
use Rattle.circus_member.proofs.doing.Doing.handle.Goals as goal

pub handle_call-requires : goal.handle_call-requires
handle_call-requires g c =
    let i = c.deref_mut-inside.result.now in
    let sound : IsSound (behaviour g.M.Module.declared g.M.Module.turn g.M.Module.first c.deref_mut-inside.result.now.member.performing.hosted) c.deref_mut-inside.result.now.member = subst (λ (d : Doing g.row.M.Denot). IsSound (behaviour g.M.Module.declared g.M.Module.turn g.M.Module.first d.member.performing.hosted) d.member) (sym c.deref_mut-inside.ensures.value) c.requires.sound in
    sound.replies

pub returns-in_ok-handle_call-in-Asked-clause-kept : goal.returns-in_ok-handle_call-in-Asked-clause-kept
returns-in_ok-handle_call-in-Asked-clause-kept g c =
    let i = c.deref_mut-inside.result.now in
    c.in_ok-handle_call-in-Asked.ensures ∙ handled_so c.args.at c.args.occurrence _ i c.args.doing.value c.in-Asked.is c.deref_mut-inside.ensures.value

pub returns-in_ok-handle_call-in-Asked-clause-told : goal.returns-in_ok-handle_call-in-Asked-clause-told
returns-in_ok-handle_call-in-Asked-clause-told g c =
    rw c.in-Asked.is refl

pub returns-in_ok-handle_call-in-Asked-clause-sound : goal.returns-in_ok-handle_call-in-Asked-clause-sound
returns-in_ok-handle_call-in-Asked-clause-sound g c =
    let i = c.deref_mut-inside.result.now in
    let m = i.member in
    let b = behaviour g.M.Module.declared g.M.Module.turn g.M.Module.first m.performing.hosted in
    let sound : IsSound (behaviour g.M.Module.declared g.M.Module.turn g.M.Module.first c.deref_mut-inside.result.now.member.performing.hosted) c.deref_mut-inside.result.now.member = subst (λ (d : Doing g.row.M.Denot). IsSound (behaviour g.M.Module.declared g.M.Module.turn g.M.Module.first d.member.performing.hosted) d.member) (sym c.deref_mut-inside.ensures.value) c.requires.sound in
    let can : CanHappen (g.M.Module.declared c.deref_mut-inside.result.now.member.performing.hosted) c.deref_mut-inside.result.now.member c.args.occurrence = subst (λ (d : Doing g.row.M.Denot). CanHappen (g.M.Module.declared d.member.performing.hosted) d.member c.args.occurrence) (sym c.deref_mut-inside.ensures.value) c.requires.can in
    subst (λ (d : Doing g.row.M.Denot). IsSound (behaviour g.M.Module.declared g.M.Module.turn g.M.Module.first d.member.performing.hosted) d.member) (sym c.in_ok-handle_call-in-Asked.ensures)
    (sound_asked b m c.in-Asked.header c.in-Asked.body c.in-Asked.sender (rw c.in-Asked.is at can) sound)

pub handle_fetch-requires : goal.handle_fetch-requires
handle_fetch-requires g c =
    let can : CanHappen (g.M.Module.declared c.deref_mut-inside.result.now.member.performing.hosted) c.deref_mut-inside.result.now.member c.args.occurrence = subst (λ (d : Doing g.row.M.Denot). CanHappen (g.M.Module.declared d.member.performing.hosted) d.member c.args.occurrence) (sym c.deref_mut-inside.ensures.value) c.requires.can in
    rw c.in-Fetched.is at can

pub returns-in_ok-handle_fetch-in-Fetched-clause-kept : goal.returns-in_ok-handle_fetch-in-Fetched-clause-kept
returns-in_ok-handle_fetch-in-Fetched-clause-kept g c =
    let i = c.deref_mut-inside.result.now in
    c.in_ok-handle_fetch-in-Fetched.ensures ∙ handled_so c.args.at c.args.occurrence _ i c.args.doing.value c.in-Fetched.is c.deref_mut-inside.ensures.value

pub returns-in_ok-handle_fetch-in-Fetched-clause-told : goal.returns-in_ok-handle_fetch-in-Fetched-clause-told
returns-in_ok-handle_fetch-in-Fetched-clause-told g c =
    rw c.in-Fetched.is refl

pub returns-in_ok-handle_fetch-in-Fetched-clause-sound : goal.returns-in_ok-handle_fetch-in-Fetched-clause-sound
returns-in_ok-handle_fetch-in-Fetched-clause-sound g c =
    let i = c.deref_mut-inside.result.now in
    let m = i.member in
    let b = behaviour g.M.Module.declared g.M.Module.turn g.M.Module.first m.performing.hosted in
    let sound : IsSound (behaviour g.M.Module.declared g.M.Module.turn g.M.Module.first c.deref_mut-inside.result.now.member.performing.hosted) c.deref_mut-inside.result.now.member = subst (λ (d : Doing g.row.M.Denot). IsSound (behaviour g.M.Module.declared g.M.Module.turn g.M.Module.first d.member.performing.hosted) d.member) (sym c.deref_mut-inside.ensures.value) c.requires.sound in
    subst (λ (d : Doing g.row.M.Denot). IsSound (behaviour g.M.Module.declared g.M.Module.turn g.M.Module.first d.member.performing.hosted) d.member) (sym c.in_ok-handle_fetch-in-Fetched.ensures)
    (sound_fetched b m c.in-Fetched.incarnation c.in-Fetched.sender sound)

pub returns-in_ok-difference-in-Replied-clause-kept : goal.returns-in_ok-difference-in-Replied-clause-kept
returns-in_ok-difference-in-Replied-clause-kept g c =
    let i = c.deref_mut-inside.result.now in
    c.in_ok-difference-in-Replied.ensures.kept ∙ handled_so c.args.at c.args.occurrence _ i c.args.doing.value c.in-Replied.is c.deref_mut-inside.ensures.value

pub returns-in_ok-difference-in-Replied-clause-told : goal.returns-in_ok-difference-in-Replied-clause-told
returns-in_ok-difference-in-Replied-clause-told g c =
    let i = c.deref_mut-inside.result.now in
    c.in_ok-difference-in-Replied.ensures.told ∙ ap (λ o. difference o i.member) (sym c.in-Replied.is) ∙ ap (λ (d : Doing g.row.M.Denot). difference c.args.occurrence d.member) c.deref_mut-inside.ensures.value

pub returns-in_ok-difference-in-Replied-clause-sound : goal.returns-in_ok-difference-in-Replied-clause-sound
returns-in_ok-difference-in-Replied-clause-sound g c =
    let i = c.deref_mut-inside.result.now in
    let m = i.member in
    let b = behaviour g.M.Module.declared g.M.Module.turn g.M.Module.first m.performing.hosted in
    let sound : IsSound (behaviour g.M.Module.declared g.M.Module.turn g.M.Module.first c.deref_mut-inside.result.now.member.performing.hosted) c.deref_mut-inside.result.now.member = subst (λ (d : Doing g.row.M.Denot). IsSound (behaviour g.M.Module.declared g.M.Module.turn g.M.Module.first d.member.performing.hosted) d.member) (sym c.deref_mut-inside.ensures.value) c.requires.sound in
    let can : CanHappen (g.M.Module.declared c.deref_mut-inside.result.now.member.performing.hosted) c.deref_mut-inside.result.now.member c.args.occurrence = subst (λ (d : Doing g.row.M.Denot). CanHappen (g.M.Module.declared d.member.performing.hosted) d.member c.args.occurrence) (sym c.deref_mut-inside.ensures.value) c.requires.can in
    subst (λ (d : Doing g.row.M.Denot). IsSound (behaviour g.M.Module.declared g.M.Module.turn g.M.Module.first d.member.performing.hosted) d.member) (sym (c.in_ok-difference-in-Replied.ensures.kept))
    (sound_replied b m c.in-Replied.name c.in-Replied.from c.in-Replied.reply (rw c.in-Replied.is at can) sound)

pub handle_stale-requires-clause-asks : goal.handle_stale-requires-clause-asks
handle_stale-requires-clause-asks g c =
    let i = c.deref_mut-inside.result.now in
    let sound : IsSound (behaviour g.M.Module.declared g.M.Module.turn g.M.Module.first c.deref_mut-inside.result.now.member.performing.hosted) c.deref_mut-inside.result.now.member = subst (λ (d : Doing g.row.M.Denot). IsSound (behaviour g.M.Module.declared g.M.Module.turn g.M.Module.first d.member.performing.hosted) d.member) (sym c.deref_mut-inside.ensures.value) c.requires.sound in
    let m = i.member in
    all_may_call (g.M.Module.declared m.performing.hosted) m.place m.known m.asks sound.home sound.asks

pub handle_stale-requires-clause-views : goal.handle_stale-requires-clause-views
handle_stale-requires-clause-views g c =
    let i = c.deref_mut-inside.result.now in
    let sound : IsSound (behaviour g.M.Module.declared g.M.Module.turn g.M.Module.first c.deref_mut-inside.result.now.member.performing.hosted) c.deref_mut-inside.result.now.member = subst (λ (d : Doing g.row.M.Denot). IsSound (behaviour g.M.Module.declared g.M.Module.turn g.M.Module.first d.member.performing.hosted) d.member) (sym c.deref_mut-inside.ensures.value) c.requires.sound in
    are_views i.member.known sound.home.incarnations

pub returns-in_ok-handle_stale-in-IsStale-clause-kept : goal.returns-in_ok-handle_stale-in-IsStale-clause-kept
returns-in_ok-handle_stale-in-IsStale-clause-kept g c =
    let i = c.deref_mut-inside.result.now in
    c.in_ok-handle_stale-in-IsStale.ensures ∙ handled_so c.args.at c.args.occurrence _ i c.args.doing.value c.in-IsStale.is c.deref_mut-inside.ensures.value

pub returns-in_ok-handle_stale-in-IsStale-clause-told : goal.returns-in_ok-handle_stale-in-IsStale-clause-told
returns-in_ok-handle_stale-in-IsStale-clause-told g c =
    rw c.in-IsStale.is refl

pub returns-in_ok-handle_stale-in-IsStale-clause-sound : goal.returns-in_ok-handle_stale-in-IsStale-clause-sound
returns-in_ok-handle_stale-in-IsStale-clause-sound g c =
    let i = c.deref_mut-inside.result.now in
    let m = i.member in
    let b = behaviour g.M.Module.declared g.M.Module.turn g.M.Module.first m.performing.hosted in
    let sound : IsSound (behaviour g.M.Module.declared g.M.Module.turn g.M.Module.first c.deref_mut-inside.result.now.member.performing.hosted) c.deref_mut-inside.result.now.member = subst (λ (d : Doing g.row.M.Denot). IsSound (behaviour g.M.Module.declared g.M.Module.turn g.M.Module.first d.member.performing.hosted) d.member) (sym c.deref_mut-inside.ensures.value) c.requires.sound in
    subst (λ (d : Doing g.row.M.Denot). IsSound (behaviour g.M.Module.declared g.M.Module.turn g.M.Module.first d.member.performing.hosted) d.member) (sym c.in_ok-handle_stale-in-IsStale.ensures)
    (sound_stale b m c.in-IsStale.name c.in-IsStale.server c.in-IsStale.from c.in-IsStale.incarnation sound)

pub returns-in-IsBefore-clause-kept : goal.returns-in-IsBefore-clause-kept
returns-in-IsBefore-clause-kept g c =
    let i = c.deref_mut-inside.result.now in
    c.handle_before.ensures ∙ handled_so c.args.at c.args.occurrence _ i c.args.doing.value c.in-IsBefore.is c.deref_mut-inside.ensures.value

pub returns-in-IsBefore-clause-told : goal.returns-in-IsBefore-clause-told
returns-in-IsBefore-clause-told g c =
    rw c.in-IsBefore.is refl

pub returns-in-IsBefore-clause-sound : goal.returns-in-IsBefore-clause-sound
returns-in-IsBefore-clause-sound g c =
    let i = c.deref_mut-inside.result.now in
    let m = i.member in
    let b = behaviour g.M.Module.declared g.M.Module.turn g.M.Module.first m.performing.hosted in
    let sound : IsSound (behaviour g.M.Module.declared g.M.Module.turn g.M.Module.first c.deref_mut-inside.result.now.member.performing.hosted) c.deref_mut-inside.result.now.member = subst (λ (d : Doing g.row.M.Denot). IsSound (behaviour g.M.Module.declared g.M.Module.turn g.M.Module.first d.member.performing.hosted) d.member) (sym c.deref_mut-inside.ensures.value) c.requires.sound in
    subst (λ (d : Doing g.row.M.Denot). IsSound (behaviour g.M.Module.declared g.M.Module.turn g.M.Module.first d.member.performing.hosted) d.member) (sym (c.handle_before.ensures))
    (sound_before b m c.in-IsBefore.name c.in-IsBefore.from sound)

pub handle_table-requires-clause-home : goal.handle_table-requires-clause-home
handle_table-requires-clause-home g c =
    let sound : IsSound (behaviour g.M.Module.declared g.M.Module.turn g.M.Module.first c.deref_mut-inside.result.now.member.performing.hosted) c.deref_mut-inside.result.now.member = subst (λ (d : Doing g.row.M.Denot). IsSound (behaviour g.M.Module.declared g.M.Module.turn g.M.Module.first d.member.performing.hosted) d.member) (sym c.deref_mut-inside.ensures.value) c.requires.sound in
    sound.home

pub handle_table-requires-clause-asks : goal.handle_table-requires-clause-asks
handle_table-requires-clause-asks g c =
    let sound : IsSound (behaviour g.M.Module.declared g.M.Module.turn g.M.Module.first c.deref_mut-inside.result.now.member.performing.hosted) c.deref_mut-inside.result.now.member = subst (λ (d : Doing g.row.M.Denot). IsSound (behaviour g.M.Module.declared g.M.Module.turn g.M.Module.first d.member.performing.hosted) d.member) (sym c.deref_mut-inside.ensures.value) c.requires.sound in
    sound.asks

pub handle_table-requires-clause-table : goal.handle_table-requires-clause-table
handle_table-requires-clause-table g c =
    let can : CanHappen (g.M.Module.declared c.deref_mut-inside.result.now.member.performing.hosted) c.deref_mut-inside.result.now.member c.args.occurrence = subst (λ (d : Doing g.row.M.Denot). CanHappen (g.M.Module.declared d.member.performing.hosted) d.member c.args.occurrence) (sym c.deref_mut-inside.ensures.value) c.requires.can in
    rw c.in-Told.is at can

pub returns-in_ok-handle_table-in-Told-clause-kept : goal.returns-in_ok-handle_table-in-Told-clause-kept
returns-in_ok-handle_table-in-Told-clause-kept g c =
    let i = c.deref_mut-inside.result.now in
    c.in_ok-handle_table-in-Told.ensures ∙ handled_so c.args.at c.args.occurrence _ i c.args.doing.value c.in-Told.is c.deref_mut-inside.ensures.value

pub returns-in_ok-handle_table-in-Told-clause-told : goal.returns-in_ok-handle_table-in-Told-clause-told
returns-in_ok-handle_table-in-Told-clause-told g c =
    rw c.in-Told.is refl

pub returns-in_ok-handle_table-in-Told-clause-sound : goal.returns-in_ok-handle_table-in-Told-clause-sound
returns-in_ok-handle_table-in-Told-clause-sound g c =
    let i = c.deref_mut-inside.result.now in
    let m = i.member in
    let b = behaviour g.M.Module.declared g.M.Module.turn g.M.Module.first m.performing.hosted in
    let lawful : IsModule b = record { first_is_state = g.met.M.Module.first_is_state m.performing.hosted; turns_are_lawful = g.met.M.Module.turns_are_lawful m.performing.hosted } in
    let sound : IsSound (behaviour g.M.Module.declared g.M.Module.turn g.M.Module.first c.deref_mut-inside.result.now.member.performing.hosted) c.deref_mut-inside.result.now.member = subst (λ (d : Doing g.row.M.Denot). IsSound (behaviour g.M.Module.declared g.M.Module.turn g.M.Module.first d.member.performing.hosted) d.member) (sym c.deref_mut-inside.ensures.value) c.requires.sound in
    let can : CanHappen (g.M.Module.declared c.deref_mut-inside.result.now.member.performing.hosted) c.deref_mut-inside.result.now.member c.args.occurrence = subst (λ (d : Doing g.row.M.Denot). CanHappen (g.M.Module.declared d.member.performing.hosted) d.member c.args.occurrence) (sym c.deref_mut-inside.ensures.value) c.requires.can in
    subst (λ (d : Doing g.row.M.Denot). IsSound (behaviour g.M.Module.declared g.M.Module.turn g.M.Module.first d.member.performing.hosted) d.member) (sym c.in_ok-handle_table-in-Told.ensures)
    (sound_told b lawful m c.in-Told.request c.in-Told.table (rw c.in-Told.is at can) sound)

pub handle_down-requires : goal.handle_down-requires
handle_down-requires g c =
    let sound : IsSound (behaviour g.M.Module.declared g.M.Module.turn g.M.Module.first c.deref_mut-inside.result.now.member.performing.hosted) c.deref_mut-inside.result.now.member = subst (λ (d : Doing g.row.M.Denot). IsSound (behaviour g.M.Module.declared g.M.Module.turn g.M.Module.first d.member.performing.hosted) d.member) (sym c.deref_mut-inside.ensures.value) c.requires.sound in
    sound.home.hosts

pub returns-in_ok-handle_down-in-Declared-clause-kept : goal.returns-in_ok-handle_down-in-Declared-clause-kept
returns-in_ok-handle_down-in-Declared-clause-kept g c =
    let i = c.deref_mut-inside.result.now in
    c.in_ok-handle_down-in-Declared.ensures ∙ handled_so c.args.at c.args.occurrence _ i c.args.doing.value c.in-Declared.is c.deref_mut-inside.ensures.value

pub returns-in_ok-handle_down-in-Declared-clause-told : goal.returns-in_ok-handle_down-in-Declared-clause-told
returns-in_ok-handle_down-in-Declared-clause-told g c =
    rw c.in-Declared.is refl

pub returns-in_ok-handle_down-in-Declared-clause-sound : goal.returns-in_ok-handle_down-in-Declared-clause-sound
returns-in_ok-handle_down-in-Declared-clause-sound g c =
    let i = c.deref_mut-inside.result.now in
    let m = i.member in
    let b = behaviour g.M.Module.declared g.M.Module.turn g.M.Module.first m.performing.hosted in
    let lawful : IsModule b = record { first_is_state = g.met.M.Module.first_is_state m.performing.hosted; turns_are_lawful = g.met.M.Module.turns_are_lawful m.performing.hosted } in
    let sound : IsSound (behaviour g.M.Module.declared g.M.Module.turn g.M.Module.first c.deref_mut-inside.result.now.member.performing.hosted) c.deref_mut-inside.result.now.member = subst (λ (d : Doing g.row.M.Denot). IsSound (behaviour g.M.Module.declared g.M.Module.turn g.M.Module.first d.member.performing.hosted) d.member) (sym c.deref_mut-inside.ensures.value) c.requires.sound in
    subst (λ (d : Doing g.row.M.Denot). IsSound (behaviour g.M.Module.declared g.M.Module.turn g.M.Module.first d.member.performing.hosted) d.member) (sym c.in_ok-handle_down-in-Declared.ensures)
    (sound_declared b lawful m c.in-Declared.node sound)

pub joins-requires : goal.joins-requires
joins-requires g c =
    let sound : IsSound (behaviour g.M.Module.declared g.M.Module.turn g.M.Module.first c.deref_mut-inside.result.now.member.performing.hosted) c.deref_mut-inside.result.now.member = subst (λ (d : Doing g.row.M.Denot). IsSound (behaviour g.M.Module.declared g.M.Module.turn g.M.Module.first d.member.performing.hosted) d.member) (sym c.deref_mut-inside.ensures.value) c.requires.sound in
    sound.home

pub returns-in_ok-joins-in-Joins-clause-kept : goal.returns-in_ok-joins-in-Joins-clause-kept
returns-in_ok-joins-in-Joins-clause-kept g c =
    let i = c.deref_mut-inside.result.now in
    c.in_ok-joins-in-Joins.ensures ∙ handled_so c.args.at c.args.occurrence _ i c.args.doing.value c.in-Joins.is c.deref_mut-inside.ensures.value

pub returns-in_ok-joins-in-Joins-clause-told : goal.returns-in_ok-joins-in-Joins-clause-told
returns-in_ok-joins-in-Joins-clause-told g c =
    rw c.in-Joins.is refl

pub returns-in_ok-joins-in-Joins-clause-sound : goal.returns-in_ok-joins-in-Joins-clause-sound
returns-in_ok-joins-in-Joins-clause-sound g c =
    let i = c.deref_mut-inside.result.now in
    let m = i.member in
    let b = behaviour g.M.Module.declared g.M.Module.turn g.M.Module.first m.performing.hosted in
    let lawful : IsModule b = record { first_is_state = g.met.M.Module.first_is_state m.performing.hosted; turns_are_lawful = g.met.M.Module.turns_are_lawful m.performing.hosted } in
    let sound : IsSound (behaviour g.M.Module.declared g.M.Module.turn g.M.Module.first c.deref_mut-inside.result.now.member.performing.hosted) c.deref_mut-inside.result.now.member = subst (λ (d : Doing g.row.M.Denot). IsSound (behaviour g.M.Module.declared g.M.Module.turn g.M.Module.first d.member.performing.hosted) d.member) (sym c.deref_mut-inside.ensures.value) c.requires.sound in
    subst (λ (d : Doing g.row.M.Denot). IsSound (behaviour g.M.Module.declared g.M.Module.turn g.M.Module.first d.member.performing.hosted) d.member) (sym c.in_ok-joins-in-Joins.ensures)
    (sound_joins b lawful m sound)

pub restore-requires-clause-sound : goal.restore-requires-clause-sound
restore-requires-clause-sound g c =
    subst (λ (d : Doing g.row.M.Denot). IsSound (behaviour g.M.Module.declared g.M.Module.turn g.M.Module.first d.member.performing.hosted) d.member) (sym c.deref_mut-inside.ensures.value) c.requires.sound

pub restore-requires-clause-state : goal.restore-requires-clause-state
restore-requires-clause-state g c =
    let can : CanHappen (g.M.Module.declared c.deref_mut-inside.result.now.member.performing.hosted) c.deref_mut-inside.result.now.member c.args.occurrence = subst (λ (d : Doing g.row.M.Denot). CanHappen (g.M.Module.declared d.member.performing.hosted) d.member c.args.occurrence) (sym c.deref_mut-inside.ensures.value) c.requires.can in
    rw c.in-Restored.is at can

pub returns-in_ok-restore-in-Restored-clause-kept : goal.returns-in_ok-restore-in-Restored-clause-kept
returns-in_ok-restore-in-Restored-clause-kept g c =
    c.in_ok-restore-in-Restored.ensures.kept ∙ handled_so c.args.at c.args.occurrence _ c.deref_mut-inside.result.now c.args.doing.value c.in-Restored.is c.deref_mut-inside.ensures.value

pub returns-in_ok-restore-in-Restored-clause-told : goal.returns-in_ok-restore-in-Restored-clause-told
returns-in_ok-restore-in-Restored-clause-told g c =
    rw c.in-Restored.is refl
