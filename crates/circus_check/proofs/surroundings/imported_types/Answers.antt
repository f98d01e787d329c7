use Rattle.std.proofs.Common.{◌≡◌, ℕ, ◌+◌, List, Option, Some, ◌∙◌, ap, subst, option_map, take, take_all}
use Rattle.std.specs.Prelude.{option_copied}
use denote.Ref.{Bor}
use Rattle.circus_resolve.specs.declared.scope.Types.{Types}
use Rattle.circus_check.specs.Naming.{Import, import_of}
use Rattle.circus_check.specs.Scope.{import_named}
use Rattle.circus_check.specs.Seen.Programs.{modules_in, interfaces_in, types_now}
use Rattle.circus_check.specs.Seen.Scoped.{interface_in, known_in}
use Rattle.circus_check.proofs.Tables.{Puts}
use Rattle.circus_check.proofs.Importing.{take_next, imports_put}
use Rattle.circus_check.proofs.Calling.{had_is}
use Rattle.circus_check.proofs.surroundings.imported_types.Goals as goal

pub loop-name-preserved : goal.loop-name-preserved
loop-name-preserved c =
    let modules = modules_in c.args.program.now in
    let own = c.args.own.now in
    let ns = c.as_slice-name-items.result.now in
    let i = c.loop-name.name-index in
    let n = c.name-item.result in
    let m = c.loop-name.imported in
    let m' = c.insert.new.self in
    let had : List ℕ → Option Types = λ name. types_now (known_in (interface_in own.types (Some name))) in
    let P : List ℕ → Option Import → Option (Option (Bor Types)) → Type 0 = λ name e v. option_map option_copied v ≡ option_map (λ (j : Import). had name) e in
    let this : P n.name (Some (import_of modules own.number n)) (Some c.types_of.result) = ap Some (c.types_of.ensures ∙ ap types_now c.of_module.ensures ∙ ap had c.as_slice-bytes.ensures) in
    let puts : Puts n.name m m' c.types_of.result = subst (λ b. Puts b m m' c.types_of.result) c.as_slice-bytes.ensures c.in_ok-insert.ensures.updates in
    imports_put P modules own.number (take i ns) (take (i + 1) ns) n m m' c.types_of.result (take_next ns i n c.loop-name-test.true c.name-item.is) puts this c.loop-name.invariant

pub returns : goal.returns
returns c = λ name.
    let interfaces = interfaces_in c.args.program.now in
    let modules = modules_in c.args.program.now in
    let own = c.args.own.now in
    let ns = c.as_slice-name-items.result.now in
    let i = c.loop-name.name-index in
    let had : Option Types = types_now (known_in (interface_in own.types (Some name))) in
    let all : take i ns ≡ own.text.now.imports = take_all i ns c.loop-name-test.false ∙ c.as_slice-name-items.ensures in
    c.loop-name.invariant name ∙ ap (λ ms. option_map (λ (j : Import). had) (import_named modules own.number ms name)) all
    ∙ had_is interfaces modules (import_named modules own.number own.text.now.imports name) (interface_in own.types (Some name)) (c.requires.imported name)
