use Rattle.std.proofs.Common.{[], ◌∷◌, map, refl, sym, ap, ◌∙◌}
use Rattle.circus_machine.specs.Meaning.{then_does}
use Rattle.circus_machine.specs.Seen.Code.{act, reply_place}
use Rattle.circus_machine.specs.Seen.Instructions.{act_of, catch_of}
use Rattle.circus_machine.specs.Seen.Running.{going_of}
use Rattle.circus_machine.proofs.execution.Execution.step.Goals as goal

pub returns-in_ok-arguments-in-Ask-clause-moves : goal.returns-in_ok-arguments-in-Ask-clause-moves
returns-in_ok-arguments-in-Ask-clause-moves c =
    let (kept, before, more, takes) = c.in_ok-arguments-in-Ask.ensures.asks in
    let asking = c.in-Ask.asking in
    let limit = c.args.limit in
    let states = c.args.self.now.variables.states in
    let new = c.ask.new.self in
    let table = map catch_of asking.catches in
    let is = ap act_of c.in-Ask.is in (
      kept,
      record {
        expressions = asking.arguments;
        into = asking.into;
        table = table;
        skip = asking.skip;
        is = is;
        before = record { variables = new.variables.values; steps = new.steps; replies = []; asks = before };
        asks = ap (λ a. act limit states a c.args.at (going_of c.args.self.now [])) is ∙ ap (λ f. then_does f (λ x. reply_place limit states c.args.at asking.into table asking.skip x.0 x.1)) (takes asking.callee asking.procedure []);
        shows = refl;
        goes = λ reply replies.
            ap (λ a. act limit states a c.args.at (going_of c.args.self.now (reply ∷ replies))) is
            ∙ ap (λ f. then_does f (λ x. reply_place limit states c.args.at asking.into table asking.skip x.0 x.1)) (takes asking.callee asking.procedure (reply ∷ replies))
            ∙ ap (λ n. reply_place limit states c.args.at asking.into table asking.skip reply (record { variables = new.variables.values; steps = new.steps; replies = replies; asks = n })) (sym more);
      },
    )
