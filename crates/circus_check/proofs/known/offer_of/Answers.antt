use Rattle.std.proofs.Common.{◌≡◌, ◌∙◌, ℕ, List, Option, None, sym, ap, take, get_or, nat_cmp, option_map}
use Rattle.std.specs.Prelude.{find}
use Rattle.std.specs.Cmp.Lexicographic.{slice_cmp}
use Rattle.std.specs.BTreeMap.{BTreeMap, IsEmpty, is_at}
use Rattle.std.specs.Map.{lookup}
use Rattle.std.proofs.lemmas.List.{take_more, take_all}
use denote.Ref.{Bor}
use Rattle.circus_body.specs.declared.context.Reported.{Reported as Error}
use Rattle.circus_body.specs.Context.{Reported}
use Rattle.circus_body.specs.Seen.Named.{reported_as}
use Rattle.circus_idl.specs.Shown.{has_number}
use Rattle.circus_check.specs.Scope.{errors_behind}
use Rattle.circus_check.specs.Seen.Known.{reported_in, also_error, offered_over}
use Rattle.circus_check.proofs.ReportsFound.{one_more, none_found}
use Rattle.circus_check.proofs.known.offer_of.Goals as goal

-- a table without entries
read_empty : (table : BTreeMap (Bor (List ℕ)) Error) → IsEmpty table → reported_in table ≡ (λ _. None)
read_empty table empty = λ i name. option_map reported_as (lookup (is_at (λ k. slice_cmp nat_cmp name k.now)) (empty i))

pub loop-number-init : goal.loop-number-init
loop-number-init c = read_empty c.new-reported.result c.new-reported.ensures.empty ∙ sym (none_found c.args.errors.now.errors.now (λ _. None))

pub loop-number-preserved : goal.loop-number-preserved
loop-number-preserved c =
    let ns = c.as_slice-number-items.result.now in
    let i = c.loop-number.number-index in
    let n = get_or ns i 0 in
    let es = c.args.errors.now.errors.now in
    c.in_ok-put_error.ensures
    ∙ ap (also_error (find (has_number n) es)) c.loop-number.invariant
    ∙ sym (one_more (take i ns) n es (λ _. None) c.requires.names c.requires.numbers)
    ∙ ap (λ (xs : List ℕ). errors_behind xs es (λ _. None)) (sym (take_more ns i 0 c.loop-number-test.true))

pub returns : goal.returns
returns c =
    let ns = c.as_slice-number-items.result.now in
    let es = c.args.errors.now.errors.now in
    ap (λ (r : List ℕ → Option Reported). record (offered_over es c.args.procedure.now) { reported = r })
    (c.loop-number.invariant
    ∙ ap (λ (xs : List ℕ). errors_behind xs es (λ _. None)) (take_all c.loop-number.number-index ns c.loop-number-test.false ∙ c.as_slice-number-items.ensures))
