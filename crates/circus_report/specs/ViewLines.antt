-- The lines of the Ringmaster and of the views that it keeps.
use Rattle.std.specs.Prelude.{ℕ, List, [], ◌∷◌, ◌++◌, Option, codes}
use Rattle.std.specs.Fmt.{decimal}
use Rattle.circus_collate.specs.declared.view.Since.{Since}
use Rattle.circus_collate.specs.declared.view.Since.TheVariants.{Joining, From}
use Rattle.circus_collate.specs.declared.view.Entry.{Entry}
use Rattle.circus_collate.specs.declared.view.View.{View}
use Rattle.circus_record.specs.Line.{line}
use Rattle.circus_record.specs.Naming.{Names}
use Rattle.circus_record.specs.MemberText.{status_text}

-- the Ringmaster's node, and the step in which it crashed
abbrev pub ringmaster_line : Names → Option ℕ → List ℕ
ringmaster_line names crashed = line (codes "ringmaster " ++ names.node 0 ++ codes " " ++ status_text crashed)

-- the first call that it performs itself
abbrev pub since_text : Since → List ℕ
since_text Joining = codes "joining"
since_text (From first) = decimal first

abbrev pub entry_text : Names → Entry → List ℕ
entry_text names entry = codes " " ++ names.node entry.node ++ codes "=" ++ since_text entry.since

abbrev pub entries_text : Names → List Entry → List ℕ
entries_text names [] = []
entries_text names (entry ∷ others) = entry_text names entry ++ entries_text names others

-- a troupe, its incarnation, and who is in it
abbrev pub view_line : Names → View → List ℕ
view_line names view =
    line (codes "view " ++ names.troupe view.troupe ++ codes " " ++ decimal view.incarnation ++ entries_text names view.entries)

abbrev pub views_lines : Names → List View → List ℕ
views_lines names [] = []
views_lines names (view ∷ others) = view_line names view ++ views_lines names others
