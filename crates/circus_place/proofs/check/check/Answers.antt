use Rattle.std.proofs.Common.{◌≡◌, List, ◌++◌, Option, None, ◌∙◌, ap}
use Rattle.circus_place.specs.Obeys.{most_members}
use Rattle.circus_fault.specs.declared.fault.Fault.{Fault}
use Rattle.circus_fault.specs.Least.{least_from, out_of}
use Rattle.circus_fault.specs.Known.{nobody}
use Rattle.circus_fault.specs.Stopping.{stop_faults}
use Rattle.circus_fault.proofs.LeastMore.{least_then}
use Rattle.circus_place.specs.Written.{written_of}
use Rattle.circus_place.specs.Rank.{rank_of}
use Rattle.circus_place.specs.declared.place_fault.PlaceCause.{PlaceCause}
use Rattle.circus_place.specs.declared.place_fault.PlaceCause.TheVariants.{Syntax, Deep, OutOfRange}
use Rattle.circus_place.specs.Faults.{machines_faults, numbers_of, condition_faults, present_faults}
use Rattle.circus_place.proofs.check.check.Goals as goal

-- four lists of faults behind first ones
least_four : (a b c d e : Option (Fault PlaceCause)) (first second third last front : List (Fault PlaceCause)) → a ≡ least_from rank_of None front → b ≡ least_from rank_of a first → c ≡ least_from rank_of b second → d ≡ least_from rank_of c third → e ≡ least_from rank_of d last
    → e ≡ least_from rank_of None (front ++ (first ++ second ++ third ++ last))
least_four a b c d e first second third last front start one two three four =
    least_then rank_of None a e front (first ++ second ++ third ++ last) start
    (least_then rank_of a d e (first ++ second ++ third) last (least_then rank_of a c d (first ++ second) third (least_then rank_of a b c first second one two) three) four)

pub returns-clause-found : goal.returns-clause-found
returns-clause-found c =
    let p = c.args.text.now in
    let start = c.of_stop-best.result.fault in
    let slice = c.as_slice.ensures in
    least_four start c.machines.new.best.fault c.note_out_of.new.self.fault c.condition.new.best.fault c.check_present.new.best.fault
    (machines_faults nobody 0 p.machines) (out_of OutOfRange most_members p.members) (condition_faults p.members.value (written_of p.condition)) (present_faults (numbers_of p.machines) p.present) (stop_faults Syntax Deep c.args.stop.now)
    c.of_stop-best.ensures (c.in_ok-names.ensures.found ∙ ap (λ ms. least_from rank_of start (machines_faults nobody 0 ms)) slice) c.note_out_of.ensures c.condition.ensures
    (c.in_ok-check_present.ensures ∙ ap (λ k. least_from rank_of c.condition.new.best.fault (present_faults k p.present)) (c.in_ok-names.ensures.numbered ∙ ap numbers_of slice))
