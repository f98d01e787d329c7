-- Fields written one after another.
use Rattle.std.proofs.Common.{ℕ, List, ◌++◌, sym, ap, ◌∙◌, append_assoc}
use Rattle.circus_header.specs.Field.{Field, bytes_of}
use Rattle.circus_header.specs.Seen.Written.{Written}
use Rattle.circus_header.proofs.Standing.{bytes_of-append}

pub written_more : {old mid new : List ℕ} {fs gs : List Field} → Written old fs mid → Written mid gs new → Written old (fs ++ gs) new
written_more {old = old} {fs = fs} {gs = gs} a b = record {
  whole = b.whole ∙ ap (λ w. w ++ bytes_of gs) a.whole ∙ append_assoc old (bytes_of fs) (bytes_of gs) ∙ ap (λ w. old ++ w) (sym (bytes_of-append fs gs));
}
