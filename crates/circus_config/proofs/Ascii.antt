-- What a file and its refusal name is ASCII.
use Rattle.std.proofs.Common.{◌≡◌, ℕ, zero, suc, ◌+◌, ◌<◌, ◌⊎◌, inl, inr, Bool, true, false, cond, List, [], ◌∷◌, ◌++◌, map, take, sym, subst, Option, Some, None, Result, Ok, Err, IfErr}
use Rattle.std.specs.Prelude.{◌==◌, is_some, is_none, IfSome, All, IsAscii, unwrap_or, slice_get}
use Rattle.std.specs.List.{AllByRecursion}
use Rattle.std.proofs.lemmas.List.Elements.{All-from_recursion}
use Rattle.std.proofs.lemmas.Str.Ascii.{IsAscii-from_all}
use Rattle.circus_text.specs.declared.lex_fault.LexFault.TheVariants as lexical
use Rattle.circus_syntax.specs.declared.named.Named.{Named}
use Rattle.circus_syntax.specs.declared.stopping.Stop.{Stop}
use Rattle.circus_syntax.specs.declared.stopping.StopCause.{StopCause}
use Rattle.circus_syntax.specs.declared.stopping.StopCause.TheVariants.{Unexpected, TooDeep}
use Rattle.circus_syntax.specs.InterfaceTree.{InterfaceTree}
use Rattle.circus_syntax.specs.Spelling.{IsEach}
use Rattle.circus_fault.specs.declared.fault.Fault.{Fault}
use Rattle.circus_fault.specs.Least.{is_before, faults_if, lesser, least_from}
use Rattle.circus_fault.specs.Known.{Known, nobody, add_name}
use Rattle.circus_fault.specs.Stopping.{cause_of, stop_faults}
use Rattle.circus_idl.specs.declared.fault.Cause as idl
use Rattle.circus_idl.specs.declared.fault.Cause.TheVariants as interface
use Rattle.circus_idl.specs.Faults.{Cut, cut_of, interface_faults}
use Rattle.circus_idl.specs.Obeys.{Obeys}
use Rattle.circus_idl.specs.declared.interface.Procedure.{Procedure}
use Rattle.circus_idl.specs.declared.interface.Interface.{Interface}
use Rattle.circus_type.specs.Obeys.{IsName}
use Rattle.circus_resolve.specs.declared.cause.CheckCause.{CheckCause}
use Rattle.circus_resolve.specs.declared.cause.CheckCause.TheVariants as check
use Rattle.circus_lang.specs.ModuleTree.{ModuleTree}
use Rattle.circus_lang.specs.ModuleStanding.{module_stands_for}
use Rattle.circus_lang.specs.WrittenModule.{WrittenModule, serving, root, IsModule}
use Rattle.circus_file.specs.ProgramTree.{ProgramTree}
use Rattle.circus_limits.specs.Limits.{most_modules, most_interfaces}
use Rattle.circus_check.specs.Naming.{at_number, interface_named, interface_called}
use Rattle.circus_check.specs.Scope.{implemented_by}
use Rattle.circus_check.specs.Faults.{has_procedure, lacking_of, first_missing}
use Rattle.circus_check.specs.Plain.{all}
use Rattle.circus_check.specs.Answer.{SharedBy, or_else, lacks}
use Rattle.circus_deployment.specs.declared.cause.Cause as deployed
use Rattle.circus_deployment.specs.declared.cause.Cause.TheVariants as deployment
use Rattle.circus_deployment.specs.Nodes.{troupe_numbers}
use Rattle.circus_deployment.specs.Faults.{deployment_faults}
use Rattle.circus_deployment.specs.Faults as of_deployment
use Rattle.circus_config.specs.declared.plan.Plan.{Plan}
use Rattle.circus_config.specs.declared.program_fault.ProgramCause.{ProgramCause}
use Rattle.circus_config.specs.declared.program_fault.ProgramCause.TheVariants.{Syntax, Deep, Repeated, TooMany}
use Rattle.circus_config.specs.declared.program_fault.ProgramFault.{ProgramFault}
use Rattle.circus_config.specs.declared.program_fault.ProgramFault.TheVariants.{NoMemory}
use Rattle.circus_config.specs.Rank.{rank_of}
use Rattle.circus_config.specs.Told.{interface_cause, interface_told, module_names, name_at, shared_cause, lacking_cause, module_cause, module_told, deployment_cause, deployment_told, names_in, names_told}
use Rattle.circus_config.specs.Reading.{name_faults, interfaces_faults, read_faults}
use Rattle.circus_config.specs.Checking.{checked_faults}
use Rattle.circus_config.specs.Program.{IsFile, IsProgramOf, IsAnswerTo, IsRefused}
use Rattle.circus_text.proofs.Words.{word_ascii}
use Rattle.circus_config.proofs.ReadIs.{file_good}

-- ---- names of modules

module_ascii : (w : WrittenModule) → IsModule w → IsAscii (module_stands_for w).name.name
module_ascii (serving n i ns vs ps) good = word_ascii n.name good.0.0.formed
module_ascii (root n ns vs at b) good = word_ascii n.name good.0.0.formed

modules_ascii : (ws : List WrittenModule) → IsEach IsModule ws → AllByRecursion IsAscii (module_names (map module_stands_for ws))
modules_ascii [] good = tt
modules_ascii (w ∷ ws) good = (module_ascii w good.0, modules_ascii ws good.1)

names_ascii : (text : List ℕ) (tree : ProgramTree) (interfaces : List Interface) → IsFile text tree interfaces → AllByRecursion IsAscii (module_names tree.modules)
names_ascii text tree interfaces file =
    subst (λ (t : ProgramTree). AllByRecursion IsAscii (module_names t.modules)) (sym file.stands) (modules_ascii file.written.modules file.spelled.good.1)

nothing_ascii : IsAscii []
nothing_ascii = IsAscii-from_all [] (All-from_recursion (λ b. b < 128) [] tt)

got_ascii : (names : List (List ℕ)) (k : ℕ) → AllByRecursion IsAscii names → IsAscii (name_at names k)
got_ascii [] k each = nothing_ascii
got_ascii (name ∷ names) zero each = each.0
got_ascii (name ∷ names) (suc k) each = got_ascii names k each.1

-- ---- names of procedures

abbrev HasName : Procedure → Type 0
HasName p = IsAscii p.name

abbrev HasNames : Interface → Type 0
HasNames i = AllByRecursion HasName i.procedures

-- ---- what is told of faults

abbrev Tells : ProgramCause → Type 0
Tells c = AllByRecursion IsAscii (names_in c)

abbrev TellsAt : Fault ProgramCause → Type 0
TellsAt f = Tells f.cause

shared_tells : (names : List (List ℕ)) (o : Option SharedBy) → AllByRecursion IsAscii names → Tells (shared_cause names o)
shared_tells names None each = (got_ascii names 0 each, (got_ascii names 0 each, (got_ascii names 0 each, tt)))
shared_tells names (Some s) each = (got_ascii names s.shared.«module» each, (got_ascii names s.shared.first each, (got_ascii names s.second each, tt)))

lacking_tells : (o : Option Procedure) → IfSome o HasName → Tells (lacking_cause o)
lacking_tells None named = (nothing_ascii, tt)
lacking_tells (Some p) named = (named, tt)

-- the procedures that modules lack are of their interfaces
lacking_of_named : (ps : List Procedure) (m : ModuleTree) → AllByRecursion HasName ps → IfSome (lacking_of ps m.procedures) HasName
lacking_of_named [] m each = tt
lacking_of_named (p ∷ ps) m each = either (has_procedure m.procedures p.name) (lacking_of_named ps m each.1)
  where
    either : (t : Bool) → IfSome (lacking_of ps m.procedures) HasName → IfSome (cond t (lacking_of ps m.procedures) (Some p)) HasName
    either true rest = rest
    either false rest = each.0

interface_got : (interfaces : List Interface) (k : ℕ) → AllByRecursion HasNames interfaces → IfSome (slice_get interfaces k) HasNames
interface_got [] k each = tt
interface_got (i ∷ is) zero each = each.0
interface_got (i ∷ is) (suc k) each = interface_got is k each.1

called_named : (interfaces : List Interface) (n : Named) → AllByRecursion HasNames interfaces → IfSome (interface_called interfaces n) HasNames
called_named interfaces n each = by_number (interface_named interfaces n.name)
  where
    by_number : (o : Option ℕ) → IfSome (at_number interfaces o) HasNames
    by_number None = tt
    by_number (Some k) = interface_got interfaces k each

lacking_named : (interfaces : List Interface) (o : Option Named) (m : ModuleTree) → AllByRecursion HasNames interfaces → IfSome (first_missing (implemented_by interfaces o) m.procedures) HasName
lacking_named interfaces None m each = tt
lacking_named interfaces (Some n) m each = by_interface (interface_called interfaces n) (called_named interfaces n each)
  where
    by_interface : (o : Option Interface) → IfSome o HasNames → IfSome (first_missing o m.procedures) HasName
    by_interface None named = tt
    by_interface (Some i) named = lacking_of_named i.procedures m named

lacks_named : (interfaces : List Interface) (place : ℕ) (ms : List ModuleTree) → AllByRecursion HasNames interfaces → IfSome (lacks interfaces place ms) HasName
lacks_named interfaces place [] each = tt
lacks_named interfaces place (m ∷ ms) each =
    either (m.name.at == place) (first_missing (implemented_by interfaces m.interface) m.procedures) (lacking_named interfaces m.interface m each) (lacks_named interfaces place ms each)
  where
    either : (t : Bool) (o : Option Procedure) → IfSome o HasName → IfSome (lacks interfaces place ms) HasName → IfSome (or_else (cond t o None) (lacks interfaces place ms)) HasName
    either true None named rest = rest
    either true (Some p) named rest = named
    either false o named rest = rest

module _ (interfaces : List Interface) (modules : List ModuleTree) (named : AllByRecursion HasNames interfaces) (each : AllByRecursion IsAscii (module_names modules)) where
  module_tells : (place : ℕ) (c : CheckCause) → Tells (module_cause interfaces modules place c)
  module_tells place check.Unknown = tt
  module_tells place check.Repeated = tt
  module_tells place check.OutOfRange = tt
  module_tells place check.TooLarge = tt
  module_tells place check.Mistyped = tt
  module_tells place check.Unfinished = tt
  module_tells place check.Forward = tt
  module_tells place check.Shared = shared_tells (module_names modules) _ each
  module_tells place check.Missing = lacking_tells _ (lacks_named interfaces place (take (suc most_modules) modules) named)
  module_tells place check.TooMany = tt

  modules_tell : (fs : List (Fault CheckCause)) → AllByRecursion TellsAt (map (module_told interfaces modules) fs)
  modules_tell [] = tt
  modules_tell (f ∷ fs) = (module_tells f.place f.cause, modules_tell fs)

-- the module that has no troupe is one of them
without_named : (troupes : Known) (modules : List ModuleTree) → AllByRecursion IsAscii (module_names modules) → IfSome (of_deployment.first_without_troupe troupes modules) IsAscii
without_named troupes [] each = tt
without_named troupes (m ∷ ms) each = either (is_none (troupes m.name.name)) (without_named troupes ms each.1)
  where
    either : (t : Bool) → IfSome (of_deployment.first_without_troupe troupes ms) IsAscii → IfSome (cond t (Some m.name.name) (of_deployment.first_without_troupe troupes ms)) IsAscii
    either true rest = each.0
    either false rest = rest

unwrapped_ascii : (o : Option (List ℕ)) → IfSome o IsAscii → IsAscii (unwrap_or o [])
unwrapped_ascii None named = nothing_ascii
unwrapped_ascii (Some name) named = named

module _ (lacks : Option (List ℕ)) (named : IfSome lacks IsAscii) where
  deployment_tells : (c : deployed.Cause) → Tells (deployment_cause lacks c)
  deployment_tells deployment.Unknown = tt
  deployment_tells deployment.Repeated = tt
  deployment_tells deployment.OutOfRange = tt
  deployment_tells deployment.Missing = (unwrapped_ascii lacks named, tt)
  deployment_tells deployment.TooMany = tt

  deployments_tell : (fs : List (Fault deployed.Cause)) → AllByRecursion TellsAt (map (deployment_told lacks) fs)
  deployments_tell [] = tt
  deployments_tell (f ∷ fs) = (deployment_tells f.cause, deployments_tell fs)

-- ---- lists of faults

appended : (fs gs : List (Fault ProgramCause)) → AllByRecursion TellsAt fs → AllByRecursion TellsAt gs → AllByRecursion TellsAt (fs ++ gs)
appended [] gs first second = second
appended (f ∷ fs) gs first second = (first.0, appended fs gs first.1 second)

if_tells : (t : Bool) (place : ℕ) (c : ProgramCause) → Tells c → AllByRecursion TellsAt (faults_if t place c)
if_tells true place c tells = (tells, tt)
if_tells false place c tells = tt

least_tells : (best : Option (Fault ProgramCause)) (fs : List (Fault ProgramCause)) → IfSome best TellsAt → AllByRecursion TellsAt fs → IfSome (least_from rank_of best fs) TellsAt
least_tells best [] so_far each = so_far
least_tells best (f ∷ fs) so_far each = least_tells (lesser rank_of best f) fs (lesser_tells best so_far) each.1
  where
    either : (g : Fault ProgramCause) (t : Bool) → TellsAt g → IfSome (cond t (Some f) (Some g)) TellsAt
    either g true tells = each.0
    either g false tells = tells

    lesser_tells : (o : Option (Fault ProgramCause)) → IfSome o TellsAt → IfSome (lesser rank_of o f) TellsAt
    lesser_tells None tells = each.0
    lesser_tells (Some g) tells = either g (is_before rank_of f g) tells

-- ---- the pass that reads

stop_tells : (stop : Option Stop) → AllByRecursion TellsAt (stop_faults Syntax Deep stop)
stop_tells None = tt
stop_tells (Some s) = by_cause s.cause
  where
    by_cause : (c : StopCause) → AllByRecursion TellsAt (faults_if true s.place (cause_of Syntax Deep c))
    by_cause Unexpected = (tt, tt)
    by_cause TooDeep = (tt, tt)

interface_tells : (c : idl.Cause) → Tells (interface_cause c)
interface_tells interface.Expected = tt
interface_tells interface.Deep = tt
interface_tells interface.Unknown = tt
interface_tells interface.Repeated = tt
interface_tells interface.OutOfRange = tt
interface_tells interface.TooLarge = tt

interfaces_tell : (fs : List (Fault idl.Cause)) → AllByRecursion TellsAt (map interface_told fs)
interfaces_tell [] = tt
interfaces_tell (f ∷ fs) = (interface_tells f.cause, interfaces_tell fs)

name_tells : (earlier : Known) (number : ℕ) (i : InterfaceTree) → AllByRecursion TellsAt (name_faults earlier number i)
name_tells earlier number i =
    appended (faults_if (is_some (earlier i.name.name)) i.name.at Repeated) (faults_if (number == most_interfaces) i.name.at TooMany)
    (if_tells (is_some (earlier i.name.name)) i.name.at Repeated tt) (if_tells (number == most_interfaces) i.name.at TooMany tt)

rules_tell : (cut : Cut) (earlier : Known) (number : ℕ) (is : List InterfaceTree) → AllByRecursion TellsAt (interfaces_faults cut earlier number is)
rules_tell cut earlier number [] = tt
rules_tell cut earlier number (i ∷ is) =
    let own = map interface_told (interface_faults cut i) in
    let rest = interfaces_faults cut (add_name i.name.name number earlier) (number + 1) is in
    appended (name_faults earlier number i ++ own) rest (appended (name_faults earlier number i) own (name_tells earlier number i) (interfaces_tell (interface_faults cut i)))
    (rules_tell cut (add_name i.name.name number earlier) (number + 1) is)

read_tells : (stop : Option Stop) (is : List InterfaceTree) → AllByRecursion TellsAt (read_faults stop is)
read_tells stop is = appended (stop_faults Syntax Deep stop) (interfaces_faults (cut_of stop) nobody 0 is) (stop_tells stop) (rules_tell (cut_of stop) nobody 0 is)

-- ---- the pass that checks

declared_ascii : (xs ys zs : List (List ℕ)) → AllByRecursion IsName (xs ++ ys ++ zs) → AllByRecursion IsName zs
declared_ascii [] [] zs named = named
declared_ascii [] (y ∷ ys) zs named = declared_ascii [] ys zs named.1
declared_ascii (x ∷ xs) ys zs named = declared_ascii xs ys zs named.1

procedures_named : (ps : List Procedure) → AllByRecursion IsName (map (λ (p : Procedure). p.name) ps) → AllByRecursion HasName ps
procedures_named [] named = tt
procedures_named (p ∷ ps) named = (word_ascii p.name named.0.0.formed, procedures_named ps named.1)

interfaces_named : (is : List Interface) → AllByRecursion Obeys is → AllByRecursion HasNames is
interfaces_named [] obey = tt
interfaces_named (i ∷ is) obey =
    (procedures_named i.procedures (declared_ascii (map (λ t. t.name) i.types) (map (λ e. e.name) i.errors) (map (λ p. p.name) i.procedures) obey.0.declared_named), interfaces_named is obey.1)

checked_tells : (text : List ℕ) (tree : ProgramTree) (interfaces : List Interface) (end : ℕ) → IsFile text tree interfaces → AllByRecursion TellsAt (checked_faults interfaces tree.modules end tree.deployment)
checked_tells text tree interfaces end file =
    let names = names_ascii text tree interfaces file in
    let lacks = of_deployment.first_without_troupe (troupe_numbers tree.deployment.troupes) tree.modules in
    appended (map (module_told interfaces tree.modules) (all interfaces tree.modules)) (map (deployment_told lacks) (deployment_faults tree.modules end tree.deployment))
    (modules_tell interfaces tree.modules (interfaces_named interfaces (file_good text tree interfaces file).obey) names (all interfaces tree.modules))
    (deployments_tell lacks (without_named (troupe_numbers tree.deployment.troupes) tree.modules names) (deployment_faults tree.modules end tree.deployment))

-- ---- answers

abbrev IsTold : ProgramFault → Type 0
IsTold answer = AllByRecursion IsAscii (names_told answer)

answer_told : (text : List ℕ) (faults : List (Fault ProgramCause)) (answer : ProgramFault) → AllByRecursion TellsAt faults → IsAnswerTo text faults answer → IsTold answer
answer_told text faults answer each (f, least, is) =
    subst IsTold (sym is) (subst (λ (o : Option (Fault ProgramCause)). IfSome o TellsAt) least (least_tells None faults tt each))

refusal_told : (text : List ℕ) (answer : ProgramFault) → IsRefused text answer → IsTold answer
refusal_told text answer (inl (long, is)) = subst IsTold (sym is) tt
refusal_told text answer (inr (inl (short, (lexical.BadCharacter place, answers, is)))) = subst IsTold (sym is) tt
refusal_told text answer (inr (inl (short, (lexical.OpenString place, answers, is)))) = subst IsTold (sym is) tt
refusal_told text answer (inr (inl (short, (lexical.LongNumber place, answers, is)))) = subst IsTold (sym is) tt
refusal_told text answer (inr (inl (short, (lexical.NoMemory, answers, is)))) = subst IsTold (sym is) tt
refusal_told text answer (inr (inr (inl (short, (found, tokens, misread))))) =
    answer_told text (read_faults misread.stop misread.written.interfaces) answer (read_tells misread.stop misread.written.interfaces) misread.given
refusal_told text answer (inr (inr (inr u))) =
    answer_told text _ answer (checked_tells text u.tree u.interfaces _ u.file) u.given

pub err_told : (text : List ℕ) (r : Result Plan ProgramFault) → IfErr r (λ e. (e ≡ NoMemory) ⊎ IsRefused text e) → IfErr r (λ e. All IsAscii (names_told e))
err_told text (Ok p) err = tt
err_told text (Err e) (inl none) = subst (λ (x : ProgramFault). All IsAscii (names_told x)) (sym none) (All-from_recursion IsAscii [] tt)
err_told text (Err e) (inr refused) = All-from_recursion IsAscii (names_told e) (refusal_told text e refused)

-- the names of the modules of a plan
pub plan_named : (text : List ℕ) (plan : Plan) → IsProgramOf text plan → All IsAscii plan.names
plan_named text plan is = subst (All IsAscii) (sym is.names) (All-from_recursion IsAscii (module_names is.tree.modules) (names_ascii text is.tree plan.checked.interfaces is.file))
