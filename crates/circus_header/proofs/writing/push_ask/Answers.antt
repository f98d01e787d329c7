use Rattle.std.proofs.lemmas.Result.{on_ok_weaker}
use Rattle.circus_header.proofs.Writings.{written_more}
use Rattle.circus_header.proofs.writing.push_ask.Goals as goal

pub returns : goal.returns
returns c =
    on_ok_weaker c.push_clock.result (λ last.
    written_more c.in_ok-push_word.ensures (
    written_more c.in_ok-push_path.ensures (
    written_more c.in_ok-push_word-2.ensures (
    written_more c.in_ok-push_long.ensures (
    written_more c.in_ok-push_long-2.ensures (
    written_more c.in_ok-push_word-3.ensures (
    written_more c.in_ok-push_long-3.ensures (
    written_more c.in_ok-push_word-4.ensures last)))))))) c.push_clock.ensures
