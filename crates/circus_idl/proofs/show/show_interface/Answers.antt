use Rattle.std.proofs.Common.{◌≡◌, ◌++◌, ◌∙◌, ap, sym, subst}
use Rattle.std.specs.Prelude.{codes}
use Rattle.circus_text.specs.Token.{text_with_spaces}
use Rattle.circus_idl.specs.Lexemes.{lexemes_behind_spaces}
use Rattle.circus_idl.specs.ReadAgain.{IsReadAs}
use Rattle.circus_idl.specs.Shown.{heading, declared_lexemes, lexemes}
use Rattle.circus_idl.proofs.ShownAgain.{shown_read}
use Rattle.circus_idl.proofs.ShownSome.{spaced_led, whole}
use Rattle.circus_idl.proofs.show.show_interface.Goals as goal
use Rattle.circus_idl.proofs.show.show_interface.Goals.{After-text}

is_spaced : (c : After-text) → c.text.result ≡ text_with_spaces (lexemes c.args.interface.now)
is_spaced c =
    let i = c.args.interface.now in
    rw spaced_led
    (c.text.ensures ∙ c.in_ok-words.ensures ∙ ap (λ w. w ++ codes " END .") (c.in_ok-declarations.ensures ∙ ap (λ w. w ++ lexemes_behind_spaces (declared_lexemes i)) (c.in_ok-heading.ensures ∙ ap (λ w. w ++ lexemes_behind_spaces (heading i)) c.in_ok-writer.ensures)) ∙ whole i.name (heading i) (declared_lexemes i) _)

pub returns-clause-text : goal.returns-clause-text
returns-clause-text = is_spaced

pub returns-clause-again : goal.returns-clause-again
returns-clause-again c = λ obeys. subst (λ t. IsReadAs t c.args.interface.now) (sym (is_spaced c)) (shown_read c.args.interface.now obeys)
