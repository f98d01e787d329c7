use Rattle.std.proofs.Common.{◌+◌, [], ◌∷◌, get_or, sym, subst, refl, ap, ◌∙◌, arith}
use Rattle.std.proofs.lemmas.List.{map-append}
use Rattle.circus_model.specs.declared.history.Ask.{Ask}
use Rattle.circus_model.specs.Behaviour.{behaviours}
use Rattle.circus_model.specs.Lawful.{CanStart}
use Rattle.circus_model.specs.Gives.{Gives}
use Rattle.circus_model.specs.Seen.Ready.{IsThread, IsOrder}
use Rattle.circus_model.specs.Execution.{replies_of}
use Rattle.circus_model.specs.Seen.Threads.{thread_seen, order_given}
use Rattle.circus_model.proofs.Turning.{begins}
use Rattle.circus_model.proofs.Threads.{IsOn, answered_on, behaviour, are_modules, there, room, state-at, kept_so, begins_on, ready_to_ask, asks_on, reply_fits, ends_on, gives_asks, gives_ends, asked_so, refused_so, performed_so, counted_so, noted_so}
use Rattle.circus_model.proofs.alone.+execution.Goals.{answer-then-is_spent, answer-else-is_spent+in_ok-reply}
use Rattle.circus_model.proofs.alone.+execution.Goals as goal

pub perform-take_state-requires : goal.perform-take_state-requires
perform-take_state-requires g t c =
    let program = behaviours g.M.Module.declared g.M.Module.turn g.M.Module.first c.args.modules.now in
    let at = there g.M.Module.declared g.M.Module.turn g.M.Module.first c.args.modules.now (order_given c.args.order) c.index-modules-from.result c.requires.order (c.index-modules-from.is ∙ ap (λ k. get_or c.args.modules.now k c.index-modules-from.result) c.from.ensures) in
    let kept = room program c.args.thread.now c.args.order.callee _ c.requires.thread at in
    omega (arith, kept.0, c.args.thread.now.states.ok.0)

pub perform-start-requires : goal.perform-start-requires
perform-start-requires g t c =
    let program = behaviours g.M.Module.declared g.M.Module.turn g.M.Module.first c.args.modules.now in
    let b = behaviour g.M.Module.declared g.M.Module.turn g.M.Module.first c.index-modules-from.result in
    let lawful = are_modules g.M.Module.declared g.M.Module.turn g.M.Module.first c.args.modules.now (λ m. record { first_is_state = g.met.M.Module.first_is_state m; turns_are_lawful = g.met.M.Module.turns_are_lawful m }) in
    let at = there g.M.Module.declared g.M.Module.turn g.M.Module.first c.args.modules.now (order_given c.args.order) c.index-modules-from.result c.requires.order (c.index-modules-from.is ∙ ap (λ k. get_or c.args.modules.now k c.index-modules-from.result) c.from.ensures) in
    let kept = room program c.args.thread.now c.args.order.callee b c.requires.thread at in
    let way = begins program c.requires.agree lawful (order_given c.args.order) b (thread_seen program c.args.thread.now) c.requires.thread c.requires.order at in
    let is = c.in_ok-state.ensures.state ∙ sym (state-at program c.args.thread.now.states.items c.args.order.callee b at kept.0) in
    subst (λ s. CanStart b.declared s c.args.order.procedure c.args.order.arguments) (sym is) way.start

pub perform-note-requires-clause-state : goal.perform-note-requires-clause-state
perform-note-requires-clause-state g t c =
    let program = behaviours g.M.Module.declared g.M.Module.turn g.M.Module.first c.args.modules.now in
    let way = c.loop-turn.invariant.on.way in
    let kept = room program c.loop-turn.thread c.args.order.callee _ way.thread way.there in
    omega (arith, kept.0, c.loop-turn.thread.states.ok.0)

pub perform-note-requires-clause-runs : goal.perform-note-requires-clause-runs
perform-note-requires-clause-runs g t c =
    let program = behaviours g.M.Module.declared g.M.Module.turn g.M.Module.first c.args.modules.now in
    let way = c.loop-turn.invariant.on.way in
    let kept = room program c.loop-turn.thread c.args.order.callee _ way.thread way.there in
    omega (arith, kept.1, c.loop-turn.thread.runs.ok.0)

pub perform-keep-requires : goal.perform-keep-requires
perform-keep-requires g t c =
    let program = behaviours g.M.Module.declared g.M.Module.turn g.M.Module.first c.args.modules.now in
    let way = c.loop-turn.invariant.on.way in
    let kept = room program c.loop-turn.thread c.args.order.callee _ way.thread way.there in
    omega (arith, kept.0, c.loop-turn.thread.states.ok.0)

pub answer-returns : goal.answer-returns
answer-returns g t c =
    let program = behaviours g.M.Module.declared g.M.Module.turn g.M.Module.first c.args.modules.now in
    elim c.if-is_spent.branch [
      | answer-then-is_spent w ↦ refused_so program c.args.thread.now _ c.args.order c.args.state _ _ _ _ _ (sym c.is_spent.ensures ∙ w.if-is_spent.true) w.thread-is (ap (λ xs. get_or xs c.from.result 0) c.as_slice.ensures ∙ ap (λ k. get_or c.args.thread.now.clock k 0) c.from.ensures) c.in_ok-arguments.ensures refl (w.reply-is ∙ w.raised_outcome-reply.ensures) c.in_ok-copy.ensures
      | answer-else-is_spent+in_ok-reply w ↦
          let counts = counted_so program c.args.thread.now c.args.order.callee w.from-else-is_spent.result _ w.set.new.self w.set.ensures w.from-else-is_spent.ensures (ap (λ n. n + 1) (ap (λ xs. get_or xs c.from.result 0) c.as_slice.ensures ∙ ap (λ k. get_or c.args.thread.now.clock k 0) c.from.ensures)) in
          performed_so program c.args.thread.now (record { states = c.args.thread.now.states; clock = w.set.new.self; runs = c.args.thread.now.runs }) _ _ c.args.order c.args.state _ _ _ _ _ _ (sym c.is_spent.ensures ∙ w.if-is_spent.false) counts w.in_ok-reply.ensures w.thread-is w.reply-is (ap (λ xs. get_or xs c.from.result 0) c.as_slice.ensures ∙ ap (λ k. get_or c.args.thread.now.clock k 0) c.from.ensures) c.in_ok-arguments.ensures refl c.in_ok-copy.ensures
    ]

pub perform-loop-turn-init : goal.perform-loop-turn-init
perform-loop-turn-init g t c =
    let program = behaviours g.M.Module.declared g.M.Module.turn g.M.Module.first c.args.modules.now in
    let b = behaviour g.M.Module.declared g.M.Module.turn g.M.Module.first c.index-modules-from.result in
    let lawful = are_modules g.M.Module.declared g.M.Module.turn g.M.Module.first c.args.modules.now (λ m. record { first_is_state = g.met.M.Module.first_is_state m; turns_are_lawful = g.met.M.Module.turns_are_lawful m }) in
    let at = there g.M.Module.declared g.M.Module.turn g.M.Module.first c.args.modules.now (order_given c.args.order) c.index-modules-from.result c.requires.order (c.index-modules-from.is ∙ ap (λ k. get_or c.args.modules.now k c.index-modules-from.result) c.from.ensures) in
    let kept = room program c.args.thread.now c.args.order.callee b c.requires.thread at in
    let is = c.in_ok-state.ensures.state ∙ sym (state-at program c.args.thread.now.states.items c.args.order.callee b at kept.0) in
    let first = get_or (thread_seen program c.args.thread.now).store c.args.order.callee [] in
    let taken = kept_so program c.args.thread.now c.take_state.new.self c.args.order.callee b _ at c.in_ok-state.ensures.states c.in_ok-state.ensures.clock c.in_ok-state.ensures.runs in
    record {
      on = subst (λ made. IsOn program (order_given c.args.order) b (thread_seen program c.args.thread.now) made (thread_seen program c.take_state.new.self)) (sym c.new-asks.ensures) (begins_on program c.requires.agree lawful (order_given c.args.order) b (thread_seen program c.args.thread.now) (thread_seen program c.take_state.new.self) c.requires.thread c.requires.order at taken);
      gives = subst (λ made. Gives (λ paused. g.M.Module.stands c.index-modules-from.result paused first c.args.order.procedure c.args.order.arguments (replies_of made)) (g.M.Module.turn c.index-modules-from.result first c.args.order.procedure c.args.order.arguments (replies_of made)) c.in_ok-turn.turn) (sym c.new-asks.ensures)
          (subst (λ s. Gives (λ paused. g.M.Module.stands c.index-modules-from.result paused s c.args.order.procedure c.args.order.arguments []) (g.M.Module.turn c.index-modules-from.result s c.args.order.procedure c.args.order.arguments []) c.in_ok-turn.turn) is c.in_ok-turn.ensures);
      entry = c.in_ok-entry.ensures;
    }

pub perform-returns-in-Ends : goal.perform-returns-in-Ends
perform-returns-in-Ends g t c = λ depth below.
    let program = behaviours g.M.Module.declared g.M.Module.turn g.M.Module.first c.args.modules.now in
    let b = behaviour g.M.Module.declared g.M.Module.turn g.M.Module.first c.index-modules-from.result in
    let lawful = are_modules g.M.Module.declared g.M.Module.turn g.M.Module.first c.args.modules.now (λ m. record { first_is_state = g.met.M.Module.first_is_state m; turns_are_lawful = g.met.M.Module.turns_are_lawful m }) in
    let t0 = thread_seen program c.args.thread.now in
    let u = thread_seen program c.loop-turn.thread in
    let on = c.loop-turn.invariant.on in
    let gives = gives_ends _ _ _ _ _ c.loop-turn.invariant.gives c.in-Ends.is in
    ends_on program c.requires.agree lawful (order_given c.args.order) b t0 u c.loop-turn.asks c.in-Ends.outcome c.in-Ends.state on gives depth below
    ∙ noted_so program c.loop-turn.thread c.note.new.self c.args.order b t0 c.loop-turn.asks c.in-Ends.outcome c.in-Ends.state _ _ _ _ _ _ c.in_ok-reply-in-Ends.reply _ on.way.there on.way.thread c.in_ok-note-in-Ends.ensures.states c.in_ok-note-in-Ends.ensures.clock c.in_ok-note-in-Ends.ensures.runs refl refl refl c.in_ok-entry.ensures c.in_ok-copy-in-Ends.ensures refl refl c.in_ok-reply-in-Ends.ensures

pub perform-answer-requires : goal.perform-answer-requires
perform-answer-requires g t c κs within =
    let program = behaviours g.M.Module.declared g.M.Module.turn g.M.Module.first c.args.modules.now in
    let b = behaviour g.M.Module.declared g.M.Module.turn g.M.Module.first c.index-modules-from.result in
    let lawful = are_modules g.M.Module.declared g.M.Module.turn g.M.Module.first c.args.modules.now (λ m. record { first_is_state = g.met.M.Module.first_is_state m; turns_are_lawful = g.met.M.Module.turns_are_lawful m }) in
    let t0 = thread_seen program c.args.thread.now in
    let u = thread_seen program c.loop-turn.thread in
    let on = c.loop-turn.invariant.on in
    let gives = gives_asks _ _ _ _ _ _ _ _ c.loop-turn.invariant.gives c.in-Asks.is in
    let ready = ready_to_ask program c.requires.agree lawful (order_given c.args.order) b t0 u c.loop-turn.asks c.in-Asks.callee c.in-Asks.procedure c.in-Asks.arguments c.in-Asks.state on gives.0 in
    let kept = kept_so program c.loop-turn.thread c.keep.new.self c.args.order.callee b _ on.way.there c.in_ok-keep-in-Asks.ensures.states c.in_ok-keep-in-Asks.ensures.clock c.in_ok-keep-in-Asks.ensures.runs in
    let asked = asked_so c.args.order c.in_ok-asked-in-Asks.asked c.loop-turn.asks _ c.in-Asks.callee c.in-Asks.procedure c.in-Asks.arguments c.in_ok-asked-in-Asks.ensures c.len.ensures in
    let callee = ap (λ x. x.callee) asked in
    (omega (arith, ready.earlier, callee, c.decreases), (within.0, (within.1, (c.requires.agree, (c.requires.few, (subst (IsThread program) (sym kept) ready.thread, subst (IsOrder program) (sym asked) ready.order))))))

pub perform-resume-requires : goal.perform-resume-requires
perform-resume-requires g t c =
    let program = behaviours g.M.Module.declared g.M.Module.turn g.M.Module.first c.args.modules.now in
    let b = behaviour g.M.Module.declared g.M.Module.turn g.M.Module.first c.index-modules-from.result in
    let lawful = are_modules g.M.Module.declared g.M.Module.turn g.M.Module.first c.args.modules.now (λ m. record { first_is_state = g.met.M.Module.first_is_state m; turns_are_lawful = g.met.M.Module.turns_are_lawful m }) in
    let t0 = thread_seen program c.args.thread.now in
    let u = thread_seen program c.loop-turn.thread in
    let on = c.loop-turn.invariant.on in
    let gives = gives_asks _ _ _ _ _ _ _ _ c.loop-turn.invariant.gives c.in-Asks.is in
    let ready = ready_to_ask program c.requires.agree lawful (order_given c.args.order) b t0 u c.loop-turn.asks c.in-Asks.callee c.in-Asks.procedure c.in-Asks.arguments c.in-Asks.state on gives.0 in
    let kept = kept_so program c.loop-turn.thread c.keep.new.self c.args.order.callee b _ on.way.there c.in_ok-keep-in-Asks.ensures.states c.in_ok-keep-in-Asks.ensures.clock c.in_ok-keep-in-Asks.ensures.runs in
    let asked = asked_so c.args.order c.in_ok-asked-in-Asks.asked c.loop-turn.asks _ c.in-Asks.callee c.in-Asks.procedure c.in-Asks.arguments c.in_ok-asked-in-Asks.ensures c.len.ensures in
    let so = answered_on program c.keep.new.self c.answer.new.thread c.in_ok-asked-in-Asks.asked c.in-Asks.state c.in_ok-ask-in-Asks.ask _ _ c.in_ok-ask-in-Asks.ensures kept asked in
    let w = thread_seen program c.answer.new.thread in
    let next = asks_on program c.requires.agree lawful (order_given c.args.order) b t0 u w c.loop-turn.asks c.in-Asks.callee c.in-Asks.procedure c.in-Asks.arguments c.in-Asks.state c.in_ok-ask-in-Asks.ask on gives.0 so.0 so.1 in
    record {
      state = get_or t0.store c.args.order.callee [];
      procedure = c.args.order.procedure;
      arguments = c.args.order.arguments;
      replies = replies_of c.loop-turn.asks;
      stands = gives.1;
      start = on.way.start;
      replies_fit = on.way.replies_fit;
      reply_fits = reply_fits program c.requires.agree lawful (order_given c.args.order) b t0 w c.loop-turn.asks c.in_ok-ask-in-Asks.ask next;
    }

pub perform-loop-turn-preserved : goal.perform-loop-turn-preserved
perform-loop-turn-preserved g t c =
    let program = behaviours g.M.Module.declared g.M.Module.turn g.M.Module.first c.args.modules.now in
    let b = behaviour g.M.Module.declared g.M.Module.turn g.M.Module.first c.index-modules-from.result in
    let lawful = are_modules g.M.Module.declared g.M.Module.turn g.M.Module.first c.args.modules.now (λ m. record { first_is_state = g.met.M.Module.first_is_state m; turns_are_lawful = g.met.M.Module.turns_are_lawful m }) in
    let t0 = thread_seen program c.args.thread.now in
    let u = thread_seen program c.loop-turn.thread in
    let on = c.loop-turn.invariant.on in
    let gives = gives_asks _ _ _ _ _ _ _ _ c.loop-turn.invariant.gives c.in-Asks.is in
    let ready = ready_to_ask program c.requires.agree lawful (order_given c.args.order) b t0 u c.loop-turn.asks c.in-Asks.callee c.in-Asks.procedure c.in-Asks.arguments c.in-Asks.state on gives.0 in
    let kept = kept_so program c.loop-turn.thread c.keep.new.self c.args.order.callee b _ on.way.there c.in_ok-keep-in-Asks.ensures.states c.in_ok-keep-in-Asks.ensures.clock c.in_ok-keep-in-Asks.ensures.runs in
    let asked = asked_so c.args.order c.in_ok-asked-in-Asks.asked c.loop-turn.asks _ c.in-Asks.callee c.in-Asks.procedure c.in-Asks.arguments c.in_ok-asked-in-Asks.ensures c.len.ensures in
    let so = answered_on program c.keep.new.self c.answer.new.thread c.in_ok-asked-in-Asks.asked c.in-Asks.state c.in_ok-ask-in-Asks.ask _ _ c.in_ok-ask-in-Asks.ensures kept asked in
    let w = thread_seen program c.answer.new.thread in
    let next = asks_on program c.requires.agree lawful (order_given c.args.order) b t0 u w c.loop-turn.asks c.in-Asks.callee c.in-Asks.procedure c.in-Asks.arguments c.in-Asks.state c.in_ok-ask-in-Asks.ask on gives.0 so.0 so.1 in
    let state = get_or t0.store c.args.order.callee [] in
    let replies = ap replies_of c.in_ok-push-in-Asks.ensures.ok ∙ map-append (λ (x : Ask). x.reply) c.loop-turn.asks (c.in_ok-ask-in-Asks.ask ∷ []) in
    let resumed = c.in_ok-turn-in-Asks.ensures state c.args.order.procedure c.args.order.arguments (replies_of c.loop-turn.asks) gives.1 in
    record {
      on = subst (λ made. IsOn program (order_given c.args.order) b t0 made w) (sym c.in_ok-push-in-Asks.ensures.ok) next;
      gives = subst (λ rs. Gives (λ paused. g.M.Module.stands c.index-modules-from.result paused state c.args.order.procedure c.args.order.arguments rs) (g.M.Module.turn c.index-modules-from.result state c.args.order.procedure c.args.order.arguments rs) c.in_ok-turn-in-Asks.turn) (sym replies) resumed;
      entry = c.loop-turn.invariant.entry;
    }
