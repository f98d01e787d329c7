-- What is read of a file, accepted or refused.
use Rattle.std.proofs.Common.{◌≡◌, ℕ, ◌≤◌, ◌⊎◌, inl, inr, List, [], ◌∷◌, length, map, refl, sym, ◌∙◌, ap, subst, arith, Option, Some, None, Result, Ok, Err, IfOk, IfErr}
use Rattle.std.specs.Prelude.{All, option_map, IfNone}
use Rattle.std.specs.List.{AllByRecursion}
use Rattle.circus_text.specs.declared.token.Token.{Token}
use Rattle.circus_text.specs.Form.{longest_text}
use Rattle.circus_text.specs.Token.{IsTokenIn}
use Rattle.circus_text.specs.Division.{AreTokensOf}
use Rattle.circus_text.proofs.TokensLie.{tokens_in_order}
use Rattle.circus_text.specs.Lines.{line_of}
use Rattle.circus_syntax.specs.declared.stopping.Stop.{Stop}
use Rattle.circus_syntax.specs.InterfaceTree.{InterfaceTree}
use Rattle.circus_syntax.specs.Placed.{Placed, AreTokens, AreWithin}
use Rattle.circus_syntax.specs.Reader.{Reader, open_at}
use Rattle.circus_syntax.specs.Spelling.{most_levels, IsEach, IsGrammatical}
use Rattle.circus_syntax.proofs.Sound.{reader, ran_is}
use Rattle.circus_syntax.proofs.Viewed.{text_tokens}
use Rattle.circus_expression.specs.Ending.{Are}
use Rattle.circus_expression.specs.Standing.{show_as}
use Rattle.circus_lang.specs.ModuleStanding.{module_stands_for}
use Rattle.circus_lang.specs.WrittenModule.{WrittenModule, IsModule}
use Rattle.circus_troupe.specs.DeploymentSpelling.{IsDeploymentText}
use Rattle.circus_fault.specs.declared.fault.Fault.{Fault}
use Rattle.circus_fault.specs.Least.{least_from}
use Rattle.circus_fault.specs.Stopping.{stop_faults}
use Rattle.circus_fault.specs.Known.{nobody}
use Rattle.circus_fault.proofs.Items.{none_in}
use Rattle.circus_fault.proofs.LeastIs.{no_least}
use Rattle.circus_fault.proofs.Stopping.{no_stop}
use Rattle.circus_idl.specs.declared.interface.Interface.{Interface}
use Rattle.circus_idl.specs.Faults.{cut_of}
use Rattle.circus_idl.specs.Obeys.{Obeys}
use Rattle.circus_file.specs.WrittenProgram.{WrittenProgram, spelling_program, IsProgram}
use Rattle.circus_file.specs.ProgramTree.{ProgramTree, program_stands_for}
use Rattle.circus_file.specs.ProgramReading.{program}
use Rattle.circus_file.proofs.Programs.{programs_lawful}
use Rattle.circus_file.proofs.Whole.{program_whole}
use Rattle.circus_check.specs.Read.{IsRead}
use Rattle.circus_check.specs.TextOrder.{AreModulesOf}
use Rattle.circus_check.specs.Meaning.{modules_meant}
use Rattle.circus_check.specs.Resolved.{module_as}
use Rattle.circus_deployment.specs.Meaning.{deployment_meant}
use Rattle.circus_config.specs.declared.program_fault.ProgramCause.TheVariants.{Syntax, Deep}
use Rattle.circus_config.specs.declared.plan.Plan.{Plan}
use Rattle.circus_config.specs.declared.program_fault.ProgramCause.{ProgramCause}
use Rattle.circus_config.specs.declared.program_fault.ProgramFault.{ProgramFault}
use Rattle.circus_config.specs.declared.program_fault.ProgramFault.TheVariants.{Refused, NoMemory}
use Rattle.circus_config.specs.declared.least.Found.{Found}
use Rattle.circus_config.specs.declared.least.Least.{Least}
use Rattle.circus_config.specs.Seen.{fault_of, least_fault, looked_faults}
use Rattle.circus_config.specs.Rank.{rank_of}
use Rattle.circus_config.specs.Told.{module_names}
use Rattle.circus_config.specs.Checking.{checked_faults}
use Rattle.circus_config.specs.Reading.{interfaces_faults, read_faults}
use Rattle.circus_config.specs.Program.{EachMeans, placed_tokens, IsFile, IsAnswerTo, IsProgramOf, IsRefused, format_number}
use Rattle.circus_config.proofs.Rising.{tokens_rise}
use Rattle.circus_config.proofs.ReadOf.{read_of}
use Rattle.circus_config.proofs.Looked.{modules_in_text, same_least, none_looked}
use Rattle.circus_config.proofs.Rules.{clean_of, all_obey, as_many}

-- the reader stays one of the same text
of_text : (ts : List Placed) (w : WrittenProgram) (s : Reader) (e : ℕ) → program most_levels (open_at ts e) ≡ (w, s) → program most_levels (open_at ts e) ≡ (w, reader s.stop s.rest e)
of_text ts w s e is =
    let R = (programs_lawful most_levels 66 (omega arith)).narrow.runs ts e in
    let same : s.end ≡ e = ap (λ (x : WrittenProgram × Reader). x.1.end) (sym is ∙ ran_is R) in
    is ∙ ap (λ k. (w, reader s.stop s.rest k)) same

all_read : (ws : List WrittenModule) → IsEach IsModule ws → AllByRecursion IsRead (map module_stands_for ws)
all_read [] good = tt
all_read (w ∷ ws) good = (record { written = w; good = good.0; stands = refl }, all_read ws good.1)

-- what is read without a fault
pub record IsClean (stop : Option Stop) (tree : ProgramTree) (interfaces : List Interface) : Type 0 where
  pub going : stop ≡ None
  pub faultless : read_faults None tree.interfaces ≡ []
  pub means : EachMeans tree.interfaces interfaces

pub clean : (stop : Option Stop) (tree : ProgramTree) (interfaces : List Interface) → read_faults stop tree.interfaces ≡ [] → EachMeans tree.interfaces interfaces → IsClean stop tree interfaces
clean stop tree interfaces none means =
    let (stops, rules) = none_in (stop_faults Syntax Deep stop) (interfaces_faults (cut_of stop) nobody 0 tree.interfaces) none in
    let going = no_stop Syntax Deep stop stops in
    record { going = going; faultless = ap (λ o. read_faults o tree.interfaces) (sym going) ∙ none; means = means }

-- nothing is kept of what is read
pub clean_read : (stop given : Option Stop) (tree : ProgramTree) (trees : List InterfaceTree) (interfaces : List Interface) (l : Least) → given ≡ stop → trees ≡ tree.interfaces → l.found ≡ None
    → least_fault l ≡ least_from rank_of None (read_faults given trees) → IfNone l.found (EachMeans trees interfaces) → IsClean stop tree interfaces
clean_read stop given tree trees interfaces l same_stop same none found means =
    let empty = no_least rank_of (read_faults given trees) (sym found ∙ ap (option_map fault_of) none) in
    clean stop tree interfaces ((λ i. read_faults (sym same_stop i) (sym same i)) ∙ empty)
    (subst (λ ts. EachMeans ts interfaces) same (subst (λ o. IfNone o (EachMeans trees interfaces)) none means))

-- a fault is
pub least_read : (stop given : Option Stop) (tree : ProgramTree) (trees : List InterfaceTree) (l : Least) (fault : Found) → given ≡ stop → trees ≡ tree.interfaces → l.found ≡ Some fault
    → least_fault l ≡ least_from rank_of None (read_faults given trees) → least_from rank_of None (read_faults stop tree.interfaces) ≡ Some (fault_of fault)
least_read stop given tree trees l fault same_stop same is found =
    (λ i. least_from rank_of None (read_faults (sym same_stop i) (sym same i))) ∙ sym found ∙ ap (option_map fault_of) is

-- what the pass that checks may rely on
pub record IsGood (text : List ℕ) (tree : ProgramTree) (interfaces : List Interface) : Type 0 where
  pub obey : AllByRecursion Obeys interfaces
  pub few : length interfaces ≤ 32
  pub read : AllByRecursion IsRead tree.modules
  pub written : IsDeploymentText tree.deployment
  pub in_text : AreModulesOf text tree.modules

-- it may of each file
pub file_good : (text : List ℕ) (tree : ProgramTree) (interfaces : List Interface) → IsFile text tree interfaces → IsGood text tree interfaces
file_good text tree interfaces file =
    let rules = clean_of nobody 0 tree.interfaces file.faultless in
    record {
      obey = all_obey tree.interfaces interfaces (subst (λ (t : ProgramTree). IsEach IsGrammatical t.interfaces) (sym file.stands) file.spelled.good.0) rules.each file.means;
      few = omega (arith, as_many tree.interfaces interfaces file.means, rules.few (omega arith));
      read = subst (λ (t : ProgramTree). AllByRecursion IsRead t.modules) (sym file.stands) (all_read file.written.modules file.spelled.good.1);
      written = subst (λ (t : ProgramTree). IsDeploymentText t.deployment) (sym file.stands) file.spelled.good.2;
      in_text = subst (λ (t : ProgramTree). AreModulesOf text t.modules) (sym file.stands) (modules_in_text text file.found file.written file.tokens file.spelled);
    }

module _ (text : List ℕ) (found : List Token) (tree : ProgramTree) (s : Reader) (each : All (IsTokenIn text) found)
    (is : show_as program_stands_for (program most_levels (open_at (placed_tokens text found) (length text))) ≡ (tree, s)) where
  written : WrittenProgram
  written = (program most_levels (open_at (placed_tokens text found) (length text))).0

  written_is : program most_levels (open_at (placed_tokens text found) (length text)) ≡ (written, reader s.stop s.rest (length text))
  unfolding written
  written_is = of_text (placed_tokens text found) written s (length text) (λ i. (written, (is i).1))

  stands : tree ≡ program_stands_for written
  unfolding written
  stands = λ i. (sym is i).0

  tokens_are : AreTokens (placed_tokens text found)
  tokens_are = text_tokens text found 0 each

  pub misread : (answer : ProgramFault) → length text ≤ longest_text → AreTokensOf text found → IsAnswerTo text (read_faults s.stop tree.interfaces) answer → IsRefused text answer
  misread answer short tokens given =
      let rises = tokens_rise text found each (tokens_in_order text found tokens) in
      let (stop, read, same) = read_of (placed_tokens text found) s.rest written s.stop (length text) tokens_are rises written_is in
      let faults = ap (λ (t : ProgramTree). read_faults s.stop t.interfaces) stands ∙ same in
      inr (inr (inl (
        short,
        (found, tokens, record { written = written; stop = stop; read_of = read; given = subst (λ fs. IsAnswerTo text fs answer) faults given }),
      )))

  module _ (interfaces : List Interface) (C : IsClean s.stop tree interfaces) where
    whole : program most_levels (open_at (placed_tokens text found) (length text)) ≡ (written, reader None s.rest (length text))
    whole = written_is ∙ ap (λ o. (written, reader o s.rest (length text))) C.going

    are : Are spelling_program IsProgram (placed_tokens text found) written
    are = (program_whole (placed_tokens text found) s.rest written (length text) tokens_are whole).1

    within : AreWithin most_levels (spelling_program written)
    within = (program_whole (placed_tokens text found) s.rest written (length text) tokens_are whole).2

    pub file : length text ≤ longest_text → AreTokensOf text found → IsFile text tree interfaces
    file short tokens = record {
      short = short;
      found = found;
      tokens = tokens;
      written = written;
      spelled = are;
      within = within;
      stands = stands;
      faultless = C.faultless;
      means = C.means;
    }

    pub good : length text ≤ longest_text → AreTokensOf text found → IsGood text tree interfaces
    good short tokens = file_good text tree interfaces (file short tokens)

    pub ok_program : (r : Result Plan ProgramFault) → length text ≤ longest_text → AreTokensOf text found → IfOk r (λ p. looked_faults interfaces tree.modules (length text) tree.deployment ≡ [])
        → IfOk r (λ (p : Plan). p.checked.interfaces ≡ interfaces) → IfOk r (λ (p : Plan). map module_as p.checked.modules ≡ modules_meant interfaces tree.modules 0 tree.modules)
        → IfOk r (λ (p : Plan). p.names ≡ module_names tree.modules) → IfOk r (λ (p : Plan). p.deployment ≡ deployment_meant tree.modules (format_number tree.format) tree.deployment) → IfOk r (IsProgramOf text)
    ok_program (Err e) short tokens faultless same modules names deployment = tt
    ok_program (Ok p) short tokens faultless same modules names deployment = record {
      tree = tree;
      file = subst (IsFile text tree) (sym same) (file short tokens);
      faultless =
          ap (λ is. checked_faults is tree.modules (length text) tree.deployment) same
          ∙ none_looked text interfaces tree.modules (length text) tree.deployment (good short tokens).in_text faultless;
      modules = modules ∙ ap (λ is. modules_meant is tree.modules 0 tree.modules) (sym same);
      names = names;
      deployment = deployment;
    }

    pub err_program : (r : Result Plan ProgramFault) → length text ≤ longest_text → AreTokensOf text found
        → IfErr r (λ e. (e ≡ NoMemory) ⊎ IsAnswerTo text (looked_faults interfaces tree.modules (length text) tree.deployment) e) → IfErr r (λ e. (e ≡ NoMemory) ⊎ IsRefused text e)
    err_program (Ok p) short tokens err = tt
    err_program (Err e) short tokens (inl none) = inl none
    err_program (Err e) short tokens (inr (fault, least, given)) =
        inr (inr (inr (inr (record {
          tree = tree;
          interfaces = interfaces;
          file = file short tokens;
          given = (fault, sym (same_least text interfaces tree.modules (length text) tree.deployment (good short tokens).in_text) ∙ least, given);
        }))))

-- the least fault of the pass that reads, as what is kept
pub answered : (text : List ℕ) (faults : List (Fault ProgramCause)) (x : Fault ProgramCause) (answer : ProgramFault) → least_from rank_of None faults ≡ Some x → answer ≡ Refused (line_of text x.place) x.cause → IsAnswerTo text faults answer
answered text faults x answer least given = (x, least, given)
