use Rattle.std.specs.Prelude.{All, AllPairs}
use Rattle.std.proofs.lemmas.Result.{IfOk-weaker}
use Rattle.circus_text.specs.declared.lex_fault.LexFault.TheVariants.{BadCharacter, OpenString, LongNumber}
use Rattle.circus_text.specs.Token.{IsTokenIn, IsBefore}
use Rattle.circus_text.specs.Division.{AreTokensOf}
use Rattle.circus_text.proofs.Answered.{given_ok, given_fault, given_only}
use Rattle.circus_text.proofs.TokensLie.{tokens_in, tokens_in_order}
use Rattle.circus_text.proofs.scan.tokens.Goals as goal

pub returns-clause-found : goal.returns-clause-found
returns-clause-found c = given_ok c.args.text.now c.scan.result c.scan.ensures

pub returns-clause-bad_character : goal.returns-clause-bad_character
returns-clause-bad_character c = λ place e. given_fault c.args.text.now c.scan.result (BadCharacter place) c.scan.ensures e (λ same. cc)

pub returns-clause-open_string : goal.returns-clause-open_string
returns-clause-open_string c = λ place e. given_fault c.args.text.now c.scan.result (OpenString place) c.scan.ensures e (λ same. cc)

pub returns-clause-long_number : goal.returns-clause-long_number
returns-clause-long_number c = λ place e. given_fault c.args.text.now c.scan.result (LongNumber place) c.scan.ensures e (λ same. cc)

pub returns-clause-only : goal.returns-clause-only
returns-clause-only c = λ answer is. given_only c.args.text.now c.scan.result answer c.scan.ensures is

pub returns-clause-each : goal.returns-clause-each
returns-clause-each c = IfOk-weaker c.scan.result (AreTokensOf c.args.text.now) (All (IsTokenIn c.args.text.now)) (tokens_in c.args.text.now) (given_ok c.args.text.now c.scan.result c.scan.ensures)

pub returns-clause-in_order : goal.returns-clause-in_order
returns-clause-in_order c = IfOk-weaker c.scan.result (AreTokensOf c.args.text.now) (AllPairs IsBefore) (tokens_in_order c.args.text.now) (given_ok c.args.text.now c.scan.result c.scan.ensures)
