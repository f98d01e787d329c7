use Rattle.std.proofs.Common.{refl}
use Rattle.circus_syntax.specs.Reader.{next}
use Rattle.circus_syntax.proofs.ByWord.{start_by_sight}
use Rattle.circus_syntax.proofs.token_reader.Reader.type_start.Goals as goal

pub returns-then-sees_word : goal.returns-then-sees_word
returns-then-sees_word c = rw (start_by_sight (next c.args.self.now), ← c.sees_word.ensures, c.if-sees_word.true) refl

pub returns-then-sees_word-2 : goal.returns-then-sees_word-2
returns-then-sees_word-2 c = rw (start_by_sight (next c.args.self.now), ← c.sees_word.ensures, c.if-sees_word.false, ← c.sees_word-else-sees_word.ensures, c.if-sees_word-2.true) refl

pub returns-then-sees_word-3 : goal.returns-then-sees_word-3
returns-then-sees_word-3 c = rw (start_by_sight (next c.args.self.now), ← c.sees_word.ensures, c.if-sees_word.false, ← c.sees_word-else-sees_word.ensures, c.if-sees_word-2.false, ← c.sees_word-else-sees_word-2.ensures, c.if-sees_word-3.true) refl

pub returns-then-sees_word-4 : goal.returns-then-sees_word-4
returns-then-sees_word-4 c = rw (start_by_sight (next c.args.self.now), ← c.sees_word.ensures, c.if-sees_word.false, ← c.sees_word-else-sees_word.ensures, c.if-sees_word-2.false, ← c.sees_word-else-sees_word-2.ensures, c.if-sees_word-3.false, ← c.sees_word-else-sees_word-3.ensures, c.if-sees_word-4.true) refl

pub returns-then-sees_sign : goal.returns-then-sees_sign
returns-then-sees_sign c = rw (start_by_sight (next c.args.self.now), ← c.sees_word.ensures, c.if-sees_word.false, ← c.sees_word-else-sees_word.ensures, c.if-sees_word-2.false, ← c.sees_word-else-sees_word-2.ensures, c.if-sees_word-3.false, ← c.sees_word-else-sees_word-3.ensures, c.if-sees_word-4.false, ← c.sees_sign.ensures, c.if-sees_sign.true) refl

pub returns-then-sees_word-5 : goal.returns-then-sees_word-5
returns-then-sees_word-5 c = rw (start_by_sight (next c.args.self.now), ← c.sees_word.ensures, c.if-sees_word.false, ← c.sees_word-else-sees_word.ensures, c.if-sees_word-2.false, ← c.sees_word-else-sees_word-2.ensures, c.if-sees_word-3.false, ← c.sees_word-else-sees_word-3.ensures, c.if-sees_word-4.false, ← c.sees_sign.ensures, c.if-sees_sign.false, ← c.sees_word-else-sees_sign.ensures, c.if-sees_word-5.true) refl

pub returns-then-sees_word-6 : goal.returns-then-sees_word-6
returns-then-sees_word-6 c = rw (start_by_sight (next c.args.self.now), ← c.sees_word.ensures, c.if-sees_word.false, ← c.sees_word-else-sees_word.ensures, c.if-sees_word-2.false, ← c.sees_word-else-sees_word-2.ensures, c.if-sees_word-3.false, ← c.sees_word-else-sees_word-3.ensures, c.if-sees_word-4.false, ← c.sees_sign.ensures, c.if-sees_sign.false, ← c.sees_word-else-sees_sign.ensures, c.if-sees_word-5.false, ← c.sees_word-else-sees_word-5.ensures, c.if-sees_word-6.true) refl

pub returns-then-sees_word-7 : goal.returns-then-sees_word-7
returns-then-sees_word-7 c = rw (start_by_sight (next c.args.self.now), ← c.sees_word.ensures, c.if-sees_word.false, ← c.sees_word-else-sees_word.ensures, c.if-sees_word-2.false, ← c.sees_word-else-sees_word-2.ensures, c.if-sees_word-3.false, ← c.sees_word-else-sees_word-3.ensures, c.if-sees_word-4.false, ← c.sees_sign.ensures, c.if-sees_sign.false, ← c.sees_word-else-sees_sign.ensures, c.if-sees_word-5.false, ← c.sees_word-else-sees_word-5.ensures, c.if-sees_word-6.false, ← c.sees_word-else-sees_word-6.ensures, c.if-sees_word-7.true) refl

pub returns-then-sees_word-8 : goal.returns-then-sees_word-8
returns-then-sees_word-8 c = rw (start_by_sight (next c.args.self.now), ← c.sees_word.ensures, c.if-sees_word.false, ← c.sees_word-else-sees_word.ensures, c.if-sees_word-2.false, ← c.sees_word-else-sees_word-2.ensures, c.if-sees_word-3.false, ← c.sees_word-else-sees_word-3.ensures, c.if-sees_word-4.false, ← c.sees_sign.ensures, c.if-sees_sign.false, ← c.sees_word-else-sees_sign.ensures, c.if-sees_word-5.false, ← c.sees_word-else-sees_word-5.ensures, c.if-sees_word-6.false, ← c.sees_word-else-sees_word-6.ensures, c.if-sees_word-7.false, ← c.sees_word-else-sees_word-7.ensures, c.if-sees_word-8.true) refl

pub returns-then-sees_name : goal.returns-then-sees_name
returns-then-sees_name c = rw (start_by_sight (next c.args.self.now), ← c.sees_word.ensures, c.if-sees_word.false, ← c.sees_word-else-sees_word.ensures, c.if-sees_word-2.false, ← c.sees_word-else-sees_word-2.ensures, c.if-sees_word-3.false, ← c.sees_word-else-sees_word-3.ensures, c.if-sees_word-4.false, ← c.sees_sign.ensures, c.if-sees_sign.false, ← c.sees_word-else-sees_sign.ensures, c.if-sees_word-5.false, ← c.sees_word-else-sees_word-5.ensures, c.if-sees_word-6.false, ← c.sees_word-else-sees_word-6.ensures, c.if-sees_word-7.false, ← c.sees_word-else-sees_word-7.ensures, c.if-sees_word-8.false, ← c.sees_name.ensures, c.if-sees_name.true) refl

pub returns-else-sees_name : goal.returns-else-sees_name
returns-else-sees_name c = rw (start_by_sight (next c.args.self.now), ← c.sees_word.ensures, c.if-sees_word.false, ← c.sees_word-else-sees_word.ensures, c.if-sees_word-2.false, ← c.sees_word-else-sees_word-2.ensures, c.if-sees_word-3.false, ← c.sees_word-else-sees_word-3.ensures, c.if-sees_word-4.false, ← c.sees_sign.ensures, c.if-sees_sign.false, ← c.sees_word-else-sees_sign.ensures, c.if-sees_word-5.false, ← c.sees_word-else-sees_word-5.ensures, c.if-sees_word-6.false, ← c.sees_word-else-sees_word-6.ensures, c.if-sees_word-7.false, ← c.sees_word-else-sees_word-7.ensures, c.if-sees_word-8.false, ← c.sees_name.ensures, c.if-sees_name.false) refl
