-- The least fault of all that is read of a text.
use Rattle.std.proofs.Common.{◌≡◌, List, ◌++◌, map, Option, None, ◌∙◌, ap}
use Rattle.circus_syntax.specs.declared.interface_text.DeclaredText.{DeclaredText}
use Rattle.circus_syntax.specs.declared.interface_text.InterfaceText.{InterfaceText}
use Rattle.circus_syntax.specs.declared.stopping.Stop.{Stop}
use Rattle.circus_syntax.specs.InterfaceTree.{declared_of, interface_of}
use Rattle.circus_fault.specs.declared.fault.Fault.{Fault}
use Rattle.circus_fault.specs.Least.{least_from}
use Rattle.circus_fault.specs.Stopping.{stop_faults}
use Rattle.circus_fault.proofs.LeastMore.{least_then}
use Rattle.circus_idl.specs.declared.fault.Cause.{Cause}
use Rattle.circus_idl.specs.declared.fault.Cause.TheVariants.{Expected, Deep}
use Rattle.circus_idl.specs.Rank.{rank_of}
use Rattle.circus_idl.specs.declared.scope.Scope.{Scope}
use Rattle.circus_type.specs.Limits.{greatest_word}
use Rattle.circus_idl.specs.Limits.{greatest_program}
use Rattle.circus_idl.specs.Inside.{above}
use Rattle.circus_idl.specs.Faults.{nothing, cut_of, declarations_faults, read_faults}
use Rattle.circus_type.specs.Seen.Measured.{cut_off}
use Rattle.circus_idl.specs.Seen.Scoped.{before_of, cut_in}
use Rattle.circus_idl.proofs.CutOff.{found_cut}

-- from the stop, the numbers and the declarations
pub found_whole : (stop : Option Stop) (tree : InterfaceText) (slice : List DeclaredText) (s : Scope) (n1 n2 last : Option (Fault Cause))
    → s.best.fault ≡ least_from rank_of None (stop_faults Expected Deep stop) → cut_in s ≡ cut_of stop → before_of s ≡ nothing cut_off
    → n1 ≡ least_from rank_of s.best.fault (above greatest_program tree.number) → n2 ≡ least_from rank_of n1 (above greatest_word tree.version)
    → last ≡ least_from rank_of n2 (declarations_faults cut_off (cut_in s) (before_of s) (map declared_of slice)) → slice ≡ tree.declared
    → last ≡ least_from rank_of None (read_faults stop (interface_of tree))
found_whole stop tree slice s n1 n2 last stopped cut before program version declared all =
    let stops = stop_faults Expected Deep stop in
    let numbers = above greatest_program tree.number ++ above greatest_word tree.version in
    let rest = declarations_faults cut_off (cut_of stop) (nothing cut_off) (map declared_of tree.declared) in
    let found : last ≡ least_from rank_of n2 rest =
    declared
    ∙ ap (λ k. least_from rank_of n2 (declarations_faults cut_off k (before_of s) (map declared_of slice))) cut
    ∙ ap (λ b. least_from rank_of n2 (declarations_faults cut_off (cut_of stop) b (map declared_of slice))) before
    ∙ ap (λ ds. least_from rank_of n2 (declarations_faults cut_off (cut_of stop) (nothing cut_off) (map declared_of ds))) all in
    least_then rank_of None s.best.fault last stops (numbers ++ rest) stopped
    (least_then rank_of s.best.fault n2 last numbers rest (least_then rank_of s.best.fault n1 n2 (above greatest_program tree.number) (above greatest_word tree.version) program version) found)
    ∙ ap (λ fs. least_from rank_of None (stops ++ (numbers ++ fs))) (found_cut (cut_of stop) (map declared_of tree.declared))
