-- The types of interfaces stand in front of what is behind them, so that a mark from there on is no mark of theirs.
use Rattle.std.proofs.Common.{◌≡◌, ℕ, ◌<◌, List, [], ◌∷◌, ◌++◌, sym, ◌∙◌, subst}
use Rattle.std.specs.Prelude.{Option, Some, None, codes}
use Rattle.circus_syntax.specs.declared.named.Named.{Named}
use Rattle.circus_syntax.specs.declared.interface_text.FieldsText.{FieldsText}
use Rattle.circus_syntax.specs.TypeTree.{TypeTree, GroupTrees, boolean, cardinal, long_cardinal, integer, long_integer, text, enumeration, array, sequence, «record», choice, called, no_groups, more_groups, group_trees, type_place}
use Rattle.circus_syntax.specs.InterfaceTree.{DeclaredTree, a_type, an_error, a_procedure, InterfaceTree}
use Rattle.circus_syntax.specs.Placed.{Placed, word, sign, Due, due, due_name, IsDue, AreDue}
use Rattle.circus_syntax.specs.Spelling.{each, if_written, comma, spelling_names, spelling_module, spelling_type, spelling_groups, spelling_more_groups, spelling_fields, spelling_results, spelling_reports, spelling_numbered, spelling_declared, spelling, IsEach, IfWritten, IsTypeNameAt, IsType, AreGroups, AreFields, IsDeclared, IsGrammatical}
use Rattle.circus_syntax.proofs.Sound.{AreDue-split}
use Rattle.circus_config.proofs.Rising.{Below}

-- ---- what is due stands before a place

unfoldable pub Stand : ℕ → List Due → Type 0
Stand low ds = (ts : List Placed) × AreDue ds ts × Below low ts

below_both : (low : ℕ) (ts us : List Placed) → Below low (ts ++ us) → Below low ts × Below low us
below_both low [] us below = (tt, below)
below_both low (t ∷ ts) us below = let (front, back) = below_both low ts us below.1 in ((below.0, front), back)

front : (low : ℕ) (ds es : List Due) → Stand low (ds ++ es) → Stand low ds
unfolding Stand
front low ds es (ts, are, below) =
    let (us, vs, same, one, other) = AreDue-split ds es ts are in
    (us, one, (below_both low us vs (subst (Below low) same below)).0)

pub back : (low : ℕ) (ds es : List Due) → Stand low (ds ++ es) → Stand low es
unfolding Stand
back low ds es (ts, are, below) =
    let (us, vs, same, one, other) = AreDue-split ds es ts are in
    (vs, other, (below_both low us vs (subst (Below low) same below)).1)

behind : (low : ℕ) (d : Due) (ds : List Due) → Stand low (d ∷ ds) → Stand low ds
unfolding Stand
behind low d ds ([], are, below) = absurd are
behind low d ds (t ∷ ts, are, below) = (ts, are.1, below.1)

begins : (low at : ℕ) (d : Due) (ds : List Due) → ((t : Placed) → IsDue d t → t.start ≡ at) → Stand low (d ∷ ds) → at < low
unfolding Stand
begins low at d ds there ([], are, below) = absurd are
begins low at d ds there (t ∷ ts, are, below) = subst (λ k. k < low) (there t are.0) below.0

-- ---- types

named_below : (low at : ℕ) (o : Option Named) (n : Named) → IsTypeNameAt at o n → Stand low (spelling_module o ++ due_name n ∷ []) → at < low
named_below low at None n is s = begins low at (due_name n) [] (λ t due. due.2 ∙ sym is.1) s
named_below low at (Some m) n is s = begins low at (due_name m) _ (λ t due. due.2 ∙ sym is.2) s

type_below : (low : ℕ) (t : TypeTree) → IsType t → Stand low (spelling_type t) → type_place t < low
type_below low (boolean at) good s = begins low at _ _ (λ t due. due.2) s
type_below low (cardinal at) good s = begins low at _ _ (λ t due. due.2) s
type_below low (long_cardinal at) good s = begins low at _ _ (λ t due. due.2) s
type_below low (integer at) good s = begins low at _ _ (λ t due. due.2) s
type_below low (long_integer at) good s = begins low at _ _ (λ t due. due.2) s
type_below low (text at) good s = begins low at _ _ (λ t due. due.2) s
type_below low (enumeration at ls) good s = begins low at _ _ (λ t due. due.2) s
type_below low (array at n t) good s = begins low at _ _ (λ u due. due.2) s
type_below low (sequence at bound t) good s = begins low at _ _ (λ u due. due.2) s
type_below low («record» at gs) good s = begins low at _ _ (λ u due. due.2) s
type_below low (choice at arms) good s = begins low at _ _ (λ u due. due.2) s
type_below low (called at name) good s = named_below low at name.«module» name.name good s

-- ---- lists of fields

abbrev pub GroupsBelow : ℕ → GroupTrees → Type 0
GroupsBelow low no_groups = Unit {0}
GroupsBelow low (more_groups ns t gs) = (type_place t < low) × GroupsBelow low gs

abbrev shared : List Named → TypeTree → List Due
shared ns t = spelling_names ns ++ due (sign (codes ":")) ∷ spelling_type t

group_below : (low : ℕ) (ns : List Named) (t : TypeTree) → IsType t → Stand low (shared ns t) → type_place t < low
group_below low ns t good s =
    let colon = due (sign (codes ":")) in
    type_below low t good (behind low colon (spelling_type t) (back low (spelling_names ns) (colon ∷ spelling_type t) s))

more_below : (low : ℕ) (gs : GroupTrees) → AreGroups gs → Stand low (spelling_more_groups gs) → GroupsBelow low gs
more_below low no_groups good s = tt
more_below low (more_groups ns t gs) good s =
    let on = behind low comma (shared ns t ++ spelling_more_groups gs) s in
    (group_below low ns t good.1 (front low (shared ns t) (spelling_more_groups gs) on), more_below low gs good.2 (back low (shared ns t) (spelling_more_groups gs) on))

groups_below : (low : ℕ) (gs : GroupTrees) → AreGroups gs → Stand low (spelling_groups gs) → GroupsBelow low gs
groups_below low no_groups good s = tt
groups_below low (more_groups ns t gs) good s =
    (group_below low ns t good.1 (front low (shared ns t) (spelling_more_groups gs) s), more_below low gs good.2 (back low (shared ns t) (spelling_more_groups gs) s))

abbrev pub FieldsBelow : ℕ → Option FieldsText → Type 0
FieldsBelow low None = Unit {0}
FieldsBelow low (Some f) = (f.at < low) × GroupsBelow low (group_trees f.groups)

fields_below : (low : ℕ) (f : FieldsText) → AreFields f → Stand low (spelling_fields f) → FieldsBelow low (Some f)
fields_below low f good s =
    let inner = spelling_groups (group_trees f.groups) in
    let closed = due (sign (codes "]")) ∷ [] in (
      begins low f.at _ (inner ++ closed) (λ t due. due.2) s,
      groups_below low (group_trees f.groups) good (front low inner closed (behind low _ (inner ++ closed) s)),
    )

arguments_below : (low : ℕ) (o : Option FieldsText) → IfWritten AreFields o → Stand low (if_written spelling_fields o) → FieldsBelow low o
arguments_below low None good s = tt
arguments_below low (Some f) good s = fields_below low f good s

results_below : (low : ℕ) (o : Option FieldsText) → IfWritten AreFields o → Stand low (if_written spelling_results o) → FieldsBelow low o
results_below low None good s = tt
results_below low (Some f) good s = fields_below low f good (behind low (due (word (codes "RETURNS"))) (spelling_fields f) s)

-- ---- interfaces

abbrev pub DeclaredBelow : ℕ → DeclaredTree → Type 0
DeclaredBelow low (a_type n t) = type_place t < low
DeclaredBelow low (an_error e) = FieldsBelow low e.arguments
DeclaredBelow low (a_procedure p) = FieldsBelow low p.arguments × FieldsBelow low p.results

third : (low : ℕ) (a b c : Due) (ds : List Due) → Stand low (a ∷ b ∷ c ∷ ds) → Stand low ds
third low a b c ds s = behind low c ds (behind low b (c ∷ ds) (behind low a (b ∷ c ∷ ds) s))

declared_below : (low : ℕ) (d : DeclaredTree) → IsDeclared d → Stand low (spelling_declared d) → DeclaredBelow low d
declared_below low (a_type n t) good s =
    let ds = spelling_type t ++ due (sign (codes ";")) ∷ [] in
    type_below low t good.1 (front low (spelling_type t) (due (sign (codes ";")) ∷ []) (behind low (due (sign (codes "="))) ds (third low _ _ _ (due (sign (codes "=")) ∷ ds) s)))
declared_below low (an_error e) good s =
    let arguments = if_written spelling_fields e.arguments in
    let numbered = spelling_numbered e.number in
    arguments_below low e.arguments good.1 (front low arguments numbered (third low _ _ _ (arguments ++ numbered) s))
declared_below low (a_procedure p) good s =
    let arguments = if_written spelling_fields p.arguments in
    let results = if_written spelling_results p.results in
    let more = if_written spelling_reports p.reports ++ spelling_numbered p.number in
    let on = third low _ _ _ (arguments ++ (results ++ more)) s in
    (arguments_below low p.arguments good.1 (front low arguments (results ++ more) on), results_below low p.results good.2 (front low results more (back low arguments (results ++ more) on)))

declarations_below : (low : ℕ) (ds : List DeclaredTree) → IsEach IsDeclared ds → Stand low (each spelling_declared ds) → IsEach (DeclaredBelow low) ds
declarations_below low [] good s = tt
declarations_below low (d ∷ ds) good s =
    (declared_below low d good.0 (front low (spelling_declared d) (each spelling_declared ds) s), declarations_below low ds good.1 (back low (spelling_declared d) (each spelling_declared ds) s))

abbrev pub InterfaceBelow : ℕ → InterfaceTree → Type 0
InterfaceBelow low i = IsEach (DeclaredBelow low) i.declared

interface_below : (low : ℕ) (i : InterfaceTree) → IsGrammatical i → Stand low (spelling i) → InterfaceBelow low i
interface_below low i good s =
    let ds = each spelling_declared i.declared in
    let closed = due (word (codes "END")) ∷ due (sign (codes ".")) ∷ [] in
    declarations_below low i.declared good.3 (front low ds closed (behind low _ (ds ++ closed) (behind low _ _ (third low _ _ _ _ (third low _ _ _ _ s)))))

pub interfaces_below : (low : ℕ) (is : List InterfaceTree) → IsEach IsGrammatical is → Stand low (each spelling is) → IsEach (InterfaceBelow low) is
interfaces_below low [] good s = tt
interfaces_below low (i ∷ is) good s = (interface_below low i good.0 (front low (spelling i) (each spelling is) s), interfaces_below low is good.1 (back low (spelling i) (each spelling is) s))
