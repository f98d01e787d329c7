use Rattle.circus_text.specs.declared.byte_class.ByteClass.TheVariants.{Letter, Digit, Quote, Space, Mark, Other}
use Rattle.circus_text.proofs.Fronts.{begins_nothing, first_class, longest_word, longest_number, longest_spacing}
use Rattle.circus_text.proofs.front.longest_form.Goals as goal

pub returns-in-Letter : goal.returns-in-Letter
returns-in-Letter c = rw c.word_len.ensures (longest_word c.args.text.now (first_class c.args.text.now Letter c.requires (c.in-Letter.ensures)))

pub returns-in-Digit : goal.returns-in-Digit
returns-in-Digit c = rw c.digits_len.ensures (longest_number c.args.text.now (first_class c.args.text.now Digit c.requires (c.in-Digit.ensures)))

pub returns-in-Space : goal.returns-in-Space
returns-in-Space c = rw c.spacing_len.ensures (longest_spacing c.args.text.now (first_class c.args.text.now Space c.requires (c.in-Space.ensures)))

pub longest_quoted-requires : goal.longest_quoted-requires
longest_quoted-requires c = first_class c.args.text.now Quote c.requires (c.in-Quote.ensures)

pub longest_mark-requires : goal.longest_mark-requires
longest_mark-requires c = first_class c.args.text.now Mark c.requires (c.in-Mark.ensures)

pub returns-in-Other : goal.returns-in-Other
returns-in-Other c = begins_nothing c.args.text.now (first_class c.args.text.now Other c.requires (c.in-Other.ensures))
