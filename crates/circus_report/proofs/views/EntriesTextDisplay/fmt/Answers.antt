use Rattle.std.proofs.Common.{refl, sym, rules}
use Rattle.std.proofs.Output.{has_written_append, has_written_of_eq}
use Rattle.circus_collate.specs.declared.view.Since.TheVariants.{Joining}
use Rattle.circus_record.proofs.LinesMore.{all_more}
use Rattle.circus_report.specs.ViewLines.{entries_text, entry_text}
use Rattle.circus_report.proofs.views.EntriesTextDisplay.fmt.Goals as goal

pub loop-entry-preserved : goal.loop-entry-preserved
loop-entry-preserved g c = λ plain.
    let names = g.N.Naming.names c.args.self.now.names.now in
    has_written_of_eq _ _ _ _ _ (sym (all_more (λ n. entries_text names) (λ n. entry_text names) (λ n. refl) (λ n x xs. refl) 0 _ c.loop-entry.entry-index (record { node = 0; since = Joining }) c.loop-entry-test.true))
    (has_written_append _ _ _ _ _ _ (c.loop-entry.invariant plain) (search rules))
