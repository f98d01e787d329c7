use Rattle.std.proofs.Common.{◌≡◌, ◌+◌, [], ◌∷◌, ◌++◌, drop, take, map, Option, None, Some, sym, ◌∙◌, ap, subst}
use Rattle.std.specs.Prelude.{IfNone}
use Rattle.std.proofs.lemmas.List.{drop_more, take_more, map-append}
use Rattle.circus_syntax.specs.InterfaceTree.{interface_of}
use Rattle.circus_fault.specs.Least.{least_from}
use Rattle.circus_fault.specs.Stopping.{stop_faults}
use Rattle.circus_fault.specs.Known.{add_name, nobody}
use Rattle.circus_fault.specs.Seen.Tables.{known_of}
use Rattle.circus_fault.proofs.LeastMore.{least_step, least_then, least_more}
use Rattle.circus_idl.specs.Faults.{cut_of, interface_faults}
use Rattle.circus_config.specs.declared.program_fault.ProgramCause.TheVariants.{Syntax, Deep}
use Rattle.circus_config.specs.Rank.{rank_of}
use Rattle.circus_config.specs.Told.{interface_told}
use Rattle.circus_config.specs.Reading.{name_faults, interfaces_faults}
use Rattle.circus_config.specs.Program.{EachMeans}
use Rattle.circus_config.specs.Seen.{least_fault}
use Rattle.circus_config.proofs.Stopped.{stop_stays, stop_found}
use Rattle.circus_config.proofs.Rules.{rules_found, made_more}
use Rattle.circus_config.proofs.interfaces.interfaces.Goals as goal

-- what holds anyway holds where there is none
if_none : {X : Type 0} (o : Option X) (P : Type 0) → P → IfNone o P
if_none None P holds = holds
if_none (Some x) P holds = tt

pub loop-number-init : goal.loop-number-init
loop-number-init c =
    let stop = c.args.stop.now in
    let trees = map interface_of c.args.texts.now in
    let first = c.of_stop-least.result in
    record {
      found =
          ap (λ k. least_from rank_of (least_fault first) (interfaces_faults (cut_of stop) k 0 trees)) c.new-names.ensures
          ∙ ap (λ b. least_from rank_of b (interfaces_faults (cut_of stop) nobody 0 trees)) c.of_stop-least.ensures
          ∙ sym (least_more rank_of None (stop_faults Syntax Deep stop) (interfaces_faults (cut_of stop) nobody 0 trees));
      stopped = ap (λ b. least_from rank_of b (stop_faults Syntax Deep stop)) c.of_stop-least.ensures ∙ stop_found rank_of Syntax Deep stop ∙ sym c.of_stop-least.ensures;
      means = if_none first.found (EachMeans [] c.new-made.result) (subst (EachMeans []) (sym c.new-made.ensures) tt);
    }

pub loop-number-preserved : goal.loop-number-preserved
loop-number-preserved c =
    let n = c.loop-number.number in
    let t = c.index-texts-number.result in
    let tree = interface_of t in
    let stop = c.args.stop.now in
    let known = known_of c.loop-number.names in
    let old = least_fault c.loop-number.least in
    let mid = least_fault c.name.new.least in
    let new = least_fault c.rules.new.least in
    let names = name_faults known n tree in
    let rules = map interface_told (interface_faults (cut_of stop) tree) in
    let texts = c.args.texts.now in
    let later = map interface_of (drop (n + 1) texts) in
    let left : drop n texts ≡ t ∷ drop (n + 1) texts = drop_more texts n t c.loop-number-test.true ∙ ap (λ x. x ∷ drop (n + 1) texts) (sym c.index-texts-number.is) in
    let mid_stopped : least_from rank_of mid (stop_faults Syntax Deep stop) ≡ mid =
    ap (λ b. least_from rank_of b (stop_faults Syntax Deep stop)) c.in_ok-name.ensures.found ∙ stop_stays rank_of Syntax Deep stop old names c.loop-number.invariant.stopped ∙ sym c.in_ok-name.ensures.found in
    let new_is : new ≡ least_from rank_of mid rules = c.in_ok-rules.ensures.found ∙ rules_found stop mid tree mid_stopped in
    record {
      found =
          ap (λ k. least_from rank_of new (interfaces_faults (cut_of stop) k (n + 1) later)) c.in_ok-name.ensures.added
          ∙ least_step rank_of new old _ (names ++ rules) (interfaces_faults (cut_of stop) (add_name t.name.name n known) (n + 1) later) (least_then rank_of old mid new names rules c.in_ok-name.ensures.found new_is)
          (ap (λ ts. least_from rank_of old (interfaces_faults (cut_of stop) known n (map interface_of ts))) (sym left) ∙ c.loop-number.invariant.found);
      stopped = ap (λ b. least_from rank_of b (stop_faults Syntax Deep stop)) new_is ∙ stop_stays rank_of Syntax Deep stop mid rules mid_stopped ∙ sym new_is;
      means =
          let taken : map interface_of (take (n + 1) texts) ≡ map interface_of (take n texts) ++ tree ∷ [] =
          ap (map interface_of) (take_more texts n t c.loop-number-test.true ∙ ap (λ x. take n texts ++ x ∷ []) (sym c.index-texts-number.is)) ∙ map-append interface_of (take n texts) (t ∷ []) in
          subst (λ ts. IfNone c.rules.new.least.found (EachMeans ts c.rules.new.made)) (sym taken)
          (made_more c.loop-number.least.found c.rules.new.least.found mid names rules (map interface_of (take n texts)) tree c.loop-number.made c.rules.new.made
          c.in_ok-name.ensures.found new_is c.loop-number.invariant.means c.in_ok-rules.ensures.meant);
    }
