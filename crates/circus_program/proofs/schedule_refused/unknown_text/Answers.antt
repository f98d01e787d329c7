use Rattle.std.proofs.Common.{◌≡◌, ◌∙◌, ℕ, List, ap, append_assoc, [], ◌∷◌, ◌++◌, codes}
use Rattle.std.specs.Fmt.{decimal}
use Rattle.circus_record.specs.Line.{line}
use Rattle.circus_program.proofs.schedule_refused.unknown_text.Goals as goal

joined : (a b c d e f : List ℕ) → ((a ++ (b ++ (c ++ d))) ++ e) ++ f ≡ (((a ++ b) ++ c) ++ (d ++ e)) ++ f
joined a b c d e f = simp append_assoc

pieces : (number : ℕ) (name : List ℕ)
    → ((codes "schedule line " ++ (decimal number ++ codes ": unknown node ")) ++ name) ++ 10 ∷ [] ≡ line (codes "schedule line " ++ decimal number ++ codes ": " ++ (codes "unknown node " ++ name))
pieces number name = joined (codes "schedule line ") (decimal number) (codes ": ") (codes "unknown node ") name (10 ∷ [])

pub returns : goal.returns
returns c =
    let begun : c.of-text.result ≡ codes "schedule line " ++ (decimal c.args.number ++ codes ": unknown node ") =
    c.of-text.ensures ∙ ap (λ v. v.items) c.into_bytes.ensures.value ∙ c.in_ok-text.ensures.ok in
    c.in_ok-append-2.ensures.ok
    ∙ ap (λ l. l ++ 10 ∷ []) (c.in_ok-append.ensures.ok ∙ ap (λ l. c.of-text.result ++ l) c.as_slice.ensures ∙ ap (λ l. l ++ c.args.name.now) begun)
    ∙ pieces c.args.number c.args.name.now
