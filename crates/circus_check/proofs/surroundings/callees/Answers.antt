use Rattle.std.proofs.Common.{◌≡◌, ℕ, ◌+◌, List, Option, Some, ◌++◌, ◌∷◌, ◌∙◌, ap, sym, subst, take, drop}
use Rattle.circus_body.specs.declared.context.Callee.{Callee}
use Rattle.circus_body.specs.Seen.Named.{called_or}
use Rattle.circus_type.proofs.Dropped.{drop_more}
use Rattle.std.proofs.lemmas.List.{take-append-drop}
use Rattle.circus_check.specs.Naming.{Import, import_of}
use Rattle.circus_check.specs.Scope.{import_named, called_by}
use Rattle.circus_check.specs.Seen.Programs.{modules_in, interfaces_in, IsImported}
use Rattle.circus_check.specs.Seen.Scoped.{interface_in}
use Rattle.circus_check.proofs.Tables.{Puts}
use Rattle.circus_check.proofs.Importing.{take_next, imports_put}
use Rattle.circus_check.proofs.Calling.{named_there}
use Rattle.circus_check.proofs.surroundings.callees.Goals as goal

pub callee-requires-clause-imported : goal.callee-requires-clause-imported
callee-requires-clause-imported c =
    let modules = modules_in c.args.program.now in
    let own = c.args.own.now in
    let ns = c.as_slice-name-items.result.now in
    let i = c.loop-name.name-index in
    let n = c.name-item.result in
    let split : take i ns ++ n ∷ drop (i + 1) ns ≡ ns = ap (λ rest. take i ns ++ rest) (sym (drop_more ns i n c.loop-name-test.true c.name-item.is)) ∙ take-append-drop i ns in
    let there : import_named modules own.number own.text.now.imports n.name ≡ Some (import_of modules own.number n) =
    ap (λ names. import_named modules own.number names n.name) (sym c.as_slice-name-items.ensures ∙ sym split) ∙ named_there modules own.number (take i ns) n (drop (i + 1) ns) in
    subst (λ e. IsImported (interfaces_in c.args.program.now) modules e (interface_in own.types (Some n.name))) there (c.requires.imported n.name)

pub loop-name-preserved : goal.loop-name-preserved
loop-name-preserved c =
    let modules = modules_in c.args.program.now in
    let interfaces = interfaces_in c.args.program.now in
    let own = c.args.own.now in
    let ns = c.as_slice-name-items.result.now in
    let i = c.loop-name.name-index in
    let n = c.name-item.result in
    let m = c.loop-name.callees in
    let m' = c.insert.new.self in
    let P : List ℕ → Option Import → Option Callee → Type 0 = λ name e v. called_or v ≡ called_by interfaces modules e in
    let puts : Puts n.name m m' c.callee.result = subst (λ b. Puts b m m' c.callee.result) c.as_slice.ensures c.in_ok-insert.ensures.updates in
    imports_put P modules own.number (take i ns) (take (i + 1) ns) n m m' c.callee.result (take_next ns i n c.loop-name-test.true c.name-item.is) puts c.callee.ensures c.loop-name.invariant
