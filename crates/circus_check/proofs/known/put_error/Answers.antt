use Rattle.std.proofs.Common.{◌∙◌, ℕ, List, Option, Some, ap, option_map}
use Rattle.circus_body.specs.Seen.Named.{reported_as}
use Rattle.circus_idl.specs.Meaning.{standing_for}
use Rattle.circus_idl.specs.declared.interface.DeclaredError.{DeclaredError}
use Rattle.circus_check.specs.Scope.{error_of}
use Rattle.circus_check.specs.Seen.Known.{also_error, reported_in}
use Rattle.circus_check.proofs.Tables.{put_by}
use Rattle.circus_check.proofs.known.put_error.Goals as goal

pub returns-in_ok-insert : goal.returns-in_ok-insert
returns-in_ok-insert c =
    let old = c.args.reported.now in
    let e = c.in-Some.error.now in
    put_by (option_map reported_as) c.as_slice.result.now old c.insert.new.self _ c.in_ok-insert.ensures.updates
    ∙ ap (λ (name : List ℕ). standing_for name (Some (error_of e)) (reported_in old)) c.as_slice.ensures
    ∙ ap (λ (found : Option DeclaredError). also_error found (reported_in old)) c.in-Some.ensures
