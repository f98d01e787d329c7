-- What the lines that are left come to.
use Rattle.std.proofs.Common.{◌≡◌, ℕ, suc, List, [], ◌∷◌, ◌++◌, Ok, Err, sym, ap, subst, ◌∙◌, append_assoc}
use Rattle.circus_value.specs.ValueTree.{ValueTree}
use Rattle.circus_value.specs.declared.outcome.Outcome.{Outcome}
use Rattle.circus_model.specs.NextTurn.{NextTurn}
use Rattle.circus_model.specs.declared.signature.Signature.{Signature}
use Rattle.circus_schedule.specs.declared.line.Line.{Line}
use Rattle.circus_schedule.specs.declared.sample.Facts.{Facts}
use Rattle.circus_schedule.specs.Sampling.{word_behind, line_drawn, IsPossible}
use Rattle.circus_world.specs.WorldState.{WorldState}
use Rattle.circus_world.specs.Course.{Stepped, step_line}
use Rattle.circus_world.specs.Boot.{then_others}
use Rattle.circus_simulation.specs.declared.sampling.SampleFault.{SampleFault}
use Rattle.circus_simulation.specs.declared.sampling.SampleFault.TheVariants as fault
use Rattle.circus_simulation.specs.Sampled.{spares_from, facts_of, lines_behind, sample_lines, lines_drawn}
use Rattle.circus_simulation.specs.Answers.{IsSampled}
use Rattle.circus_simulation.specs.Seen.Stepping.{NoneCrashed, left_by, ComesTo}
use Rattle.circus_simulation.proofs.Stepping.{Keeps, KeepsIfOk, line_keeps}

module _ {M : Type 0} where
  -- the line that is drawn first of those that are left
  pub record IsNext (word : ℕ) (w : WorldState M) (line : Line) : Type 0 where
    pub drawn : line ≡ line_drawn (word_behind word) (facts_of w)
    pub possible : IsPossible (facts_of w) line

  pub next_is : (word next : ℕ) (facts : Facts) (w : WorldState M) (line : Line) → next ≡ word_behind word → facts ≡ facts_of w → line ≡ line_drawn next facts
      → IsPossible facts line → IsNext word w line
  next_is word next facts w line behind known drawn possible =
      record {
        drawn = drawn ∙ ap (λ n. line_drawn n facts) behind ∙ ap (line_drawn (word_behind word)) known;
        possible = subst (λ f. IsPossible f line) known possible;
      }

  -- the code's spares are those that are left
  pub left_behind : (line : Line) (old now : List ℕ) (w next : WorldState M) → old ≡ spares_from w.deployment 0 w.nodes → now ≡ left_by line old
      → Keeps (left_by line (spares_from w.deployment 0 w.nodes)) w next → now ≡ spares_from next.deployment 0 next.nodes
  left_behind line old now w next same is keeps = is ∙ ap (left_by line) same ∙ sym keeps.spares_are

module _ {M : Type 0} (declared : M → Signature) (turn : M → List ValueTree → ℕ → List ValueTree → List Outcome → NextTurn) where
  pub kept : (word : ℕ) (w next : WorldState M) (line : Line) → IsNext word w line → NoneCrashed w → step_line declared turn line w ≡ Ok next
      → Keeps (left_by line (spares_from w.deployment 0 w.nodes)) w next
  kept word w next line is none stepped_is =
      subst (λ (e : Stepped M). KeepsIfOk (left_by line (spares_from w.deployment 0 w.nodes)) w e) stepped_is (line_keeps declared turn line w none is.possible)

  -- what the next line comes to, and then the others
  behind_next : (left word : ℕ) (w : WorldState M) (line : Line) (e : Stepped M) → IsNext word w line → step_line declared turn line w ≡ e
      → sample_lines declared turn (suc left) word w ≡ then_others (sample_lines declared turn left (word_behind word)) e
  behind_next left word w line e is stepped_is =
      ap (then_others (sample_lines declared turn left (word_behind word))) (ap (λ l. step_line declared turn l w) (sym is.drawn) ∙ stepped_is)

  pub goes_on : (left word after : ℕ) (w next : WorldState M) (line : Line) (whole : Stepped M) → IsNext word w line → after ≡ word_behind word
      → step_line declared turn line w ≡ Ok next → sample_lines declared turn (suc left) word w ≡ whole → sample_lines declared turn left after next ≡ whole
  goes_on left word after w next line whole is behind stepped_is same =
      ap (λ n. sample_lines declared turn left n next) behind ∙ sym (behind_next left word w line (Ok next) is stepped_is) ∙ same

  -- the lines that were drawn, and those that are left
  pub lines_go_on : (left word after : ℕ) (w next : WorldState M) (line : Line) (drawn whole : List Line) → IsNext word w line → after ≡ word_behind word
      → step_line declared turn line w ≡ Ok next → drawn ++ lines_drawn declared turn (suc left) word w ≡ whole
      → (drawn ++ line ∷ []) ++ lines_drawn declared turn left after next ≡ whole
  lines_go_on left word after w next line drawn whole is behind stepped_is same =
      let others = lines_drawn declared turn left (word_behind word) in
      append_assoc drawn (line ∷ []) (lines_drawn declared turn left after next)
      ∙ ap (λ n. drawn ++ line ∷ lines_drawn declared turn left n next) behind
      ∙ ap (λ e. drawn ++ line ∷ lines_behind others e) (sym stepped_is)
      ∙ ap (λ l. drawn ++ l ∷ lines_behind others (step_line declared turn l w)) is.drawn
      ∙ same

  pub ends : (left word : ℕ) (w : WorldState M) (line : Line) (steps seed : ℕ) (begun : WorldState M) (fault : SampleFault) → IsNext word w line
      → ComesTo (Err fault) (step_line declared turn line w)
      → sample_lines declared turn (suc left) word w ≡ sample_lines declared turn steps seed begun → IsSampled declared turn steps seed begun (Err fault)
  ends left word w line steps seed begun (fault.Spent node peer) is comes same = sym same ∙ behind_next left word w line (Err (node, peer)) is comes
  ends left word w line steps seed begun fault.NoMemory is comes same = tt
