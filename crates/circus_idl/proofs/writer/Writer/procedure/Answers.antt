use Rattle.std.proofs.Common.{◌≡◌, ◌∷◌, ◌++◌, ◌∙◌, ap, append_assoc}
use Rattle.std.specs.Prelude.{codes}
use Rattle.circus_idl.proofs.ShownSome.{led_more, led_onward}
use Rattle.circus_idl.specs.Lexemes.{lexemes_behind_spaces}
use Rattle.circus_idl.specs.Shown.{head_lexemes, signature_lexemes, number_lexemes}
use Rattle.circus_idl.proofs.writer.Writer.procedure.Goals as goal

pub returns : goal.returns
returns c =
    let old = c.args.self.now in
    let p = c.args.procedure.now in
    let head = head_lexemes p.name (codes "PROCEDURE") in
    let signature = signature_lexemes c.args.errors.now.errors.now p in
    let first : c.words.new.self ≡ old ++ lexemes_behind_spaces head =
    c.in_ok-words.ensures ∙ ap (λ w. w ++ codes " : PROCEDURE") c.in_ok-name.ensures ∙ append_assoc old (32 ∷ p.name) (codes " : PROCEDURE") in
    let second : c.signature.new.self ≡ old ++ lexemes_behind_spaces (head ++ signature) =
    c.in_ok-signature.ensures ∙ ap (λ w. w ++ lexemes_behind_spaces signature) first ∙ led_more old head signature in
    led_onward c.declared_number.result _ _ old (head ++ signature) (number_lexemes p.number) second c.declared_number.ensures
