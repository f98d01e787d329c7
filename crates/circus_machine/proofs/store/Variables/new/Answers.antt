use Rattle.std.proofs.Common.{◌≡◌, ◌<◌, List, [], ◌++◌, All, length, take, sym, ap, subst, ◌∙◌, arith, append_assoc}
use Rattle.std.proofs.Math.Nat.{min-eq_left}
use Rattle.std.proofs.Math.Seq.{take-append_seam}
use Rattle.std.proofs.lemmas.List.Elements.{All-map}
use Rattle.circus_value.specs.ValueTree.{ValueTree}
use Rattle.circus_value.specs.ExternalSize.{external_size, size_of_values}
use Rattle.circus_machine.proofs.Beginning.{all_within}
use Rattle.circus_machine.proofs.store.Variables.new.Goals as goal

-- one list of them all
all_are : (state arguments locals none first second third values : List ValueTree) → none ≡ [] → first ≡ none ++ state → second ≡ first ++ arguments → third ≡ second ++ locals → values ≡ third → values ≡ state ++ (arguments ++ locals)
all_are state arguments locals none first second third values are begun more most is =
    is ∙ most ∙ ap (λ vs. vs ++ locals) (more ∙ ap (λ vs. vs ++ arguments) (begun ∙ ap (λ vs. vs ++ state) are)) ∙ append_assoc state arguments locals

pub sizes_of-requires : goal.sizes_of-requires
sizes_of-requires c =
    let values = all_are c.args.state c.args.arguments.now c.args.locals.now c.in_ok-all.all c.append_copies.new.values c.append_copies-2.new.values c.append_copies-3.new.values c.in_ok-values.values c.in_ok-all.ensures c.in_ok-append_copies.ensures c.in_ok-append_copies-2.ensures c.in_ok-append_copies-3.ensures c.in_ok-values.ensures.value in
    subst (All (λ t. external_size t < 4294967296)) (sym values) (all_within c.args.state c.args.arguments.now c.args.locals.now 4294967296 c.requires.state c.requires.arguments c.requires.locals)

pub returns-clause-sized : goal.returns-clause-sized
returns-clause-sized c =
    let values = all_are c.args.state c.args.arguments.now c.args.locals.now c.in_ok-all.all c.append_copies.new.values c.append_copies-2.new.values c.append_copies-3.new.values c.in_ok-values.values c.in_ok-all.ensures c.in_ok-append_copies.ensures c.in_ok-append_copies-2.ensures c.in_ok-append_copies-3.ensures c.in_ok-values.ensures.value in
    let small = subst (All (λ t. external_size t < 4294967296)) (sym values) (all_within c.args.state c.args.arguments.now c.args.locals.now 4294967296 c.requires.state c.requires.arguments c.requires.locals) in
    let exact = c.values_size-state_size.ensures ∙ min-eq_left (omega (arith, c.requires.state)) in
    record {
      each = c.in_ok-sizes.ensures;
      state = exact ∙ ap size_of_values (sym (ap (λ n. take n c.in_ok-values.values) c.len-states.ensures ∙ ap (take (length c.args.state)) values ∙ take-append_seam c.args.state (c.args.arguments.now ++ c.args.locals.now)));
      small = subst (All (λ n. n < 4294967296)) (sym c.in_ok-sizes.ensures) (All-map (λ n. n < 4294967296) external_size c.in_ok-values.values small);
      small_state = omega (arith, exact, c.requires.state);
    }
