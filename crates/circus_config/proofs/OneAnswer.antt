-- A file is one program, or is refused in one way, and not both.
use Rattle.std.proofs.Common.{◌≡◌, ℕ, inl, inr, List, [], ◌∷◌, length, refl, sym, ap, subst, ◌∙◌, arith, Option, Some, None, Result, Ok, Err}
use Rattle.circus_text.specs.declared.token.Token.{Token}
use Rattle.circus_text.specs.declared.lex_fault.LexFault.{LexFault}
use Rattle.circus_text.specs.Division.{AreTokensOf, IsAnswer}
use Rattle.circus_text.proofs.Divisions.{answer_one}
use Rattle.circus_text.specs.Lines.{line_of}
use Rattle.circus_syntax.specs.InterfaceTree.{InterfaceTree}
use Rattle.circus_expression.specs.Ending.{Are}
use Rattle.circus_fault.specs.declared.fault.Fault.{Fault}
use Rattle.circus_fault.specs.Least.{least_from}
use Rattle.circus_idl.specs.declared.interface.Interface.{Interface}
use Rattle.circus_idl.proofs.PlainMeaning.{one_meant}
use Rattle.circus_file.specs.WrittenProgram.{spelling_program, IsProgram}
use Rattle.circus_file.specs.ProgramTree.{ProgramTree, program_stands_for}
use Rattle.circus_file.proofs.Whole.{program_one}
use Rattle.circus_check.specs.Meaning.{modules_meant}
use Rattle.circus_deployment.specs.Meaning.{deployment_meant}
use Rattle.circus_config.specs.declared.plan.Plan.{Plan}
use Rattle.circus_config.specs.declared.program_fault.ProgramCause.{ProgramCause}
use Rattle.circus_config.specs.declared.program_fault.ProgramFault.{ProgramFault}
use Rattle.circus_config.specs.declared.program_fault.ProgramFault.TheVariants.{Refused}
use Rattle.circus_config.specs.Rank.{rank_of}
use Rattle.circus_config.specs.Told.{module_names}
use Rattle.circus_config.specs.Reading.{read_faults}
use Rattle.circus_config.specs.Checking.{checked_faults}
use Rattle.circus_config.specs.Program.{EachMeans, placed_tokens, IsFile, IsProgramOf, SaysSame, IsAnswerTo, IsMisread, IsUnchecked, lexical_answer, IsRefused, format_number}
use Rattle.circus_config.proofs.OneReading.{same_stop, one_interfaces}

-- ---- one tree

same_tokens : (text : List ℕ) (found other : List Token) → AreTokensOf text found → AreTokensOf text other → found ≡ other
same_tokens text found other first second =
    let same : ◌≡◌ {A = Result (List Token) LexFault} (Ok found) (Ok other) = answer_one text (Ok found) (Ok other) first second in
    cc

same_interfaces : (trees : List InterfaceTree) (one other : List Interface) → EachMeans trees one → EachMeans trees other → one ≡ other
same_interfaces [] [] [] first second = refl
same_interfaces [] [] (j ∷ js) first second = absurd second
same_interfaces [] (i ∷ is) js first second = absurd first
same_interfaces (t ∷ ts) [] js first second = absurd first
same_interfaces (t ∷ ts) (i ∷ is) [] first second = absurd second
same_interfaces (t ∷ ts) (i ∷ is) (j ∷ js) first second =
    λ k. one_meant t j i second.0 first.0 k ∷ same_interfaces ts is js first.1 second.1 k

record IsSameFile (tree other : ProgramTree) (interfaces others : List Interface) : Type 0 where
  trees : tree ≡ other
  interfaces_same : interfaces ≡ others

file_one : (text : List ℕ) (tree other : ProgramTree) (interfaces others : List Interface) → IsFile text tree interfaces → IsFile text other others → IsSameFile tree other interfaces others
file_one text tree other interfaces others first second =
    let found = same_tokens text first.found second.found first.tokens second.tokens in
    let written = program_one (placed_tokens text second.found) first.written second.written (subst (λ (ts : List Token). Are spelling_program IsProgram (placed_tokens text ts) first.written) found first.spelled) second.spelled in
    let trees : tree ≡ other = first.stands ∙ ap program_stands_for written ∙ sym second.stands in
    record {
      trees = trees;
      interfaces_same = same_interfaces other.interfaces interfaces others (subst (λ (t : ProgramTree). EachMeans t.interfaces interfaces) trees first.means) second.means;
    }

pub plan_one : (text : List ℕ) (plan other : Plan) → IsProgramOf text plan → IsProgramOf text other → SaysSame plan other
plan_one text plan other first second =
    let same = file_one text first.tree second.tree plan.checked.interfaces other.checked.interfaces first.file second.file in
    let trees = same.trees in
    let interfaces = same.interfaces_same in
    record {
      deployment = first.deployment ∙ (λ i. deployment_meant (trees i).modules (format_number (trees i).format) (trees i).deployment) ∙ sym second.deployment;
      names = first.names ∙ (λ i. module_names (trees i).modules) ∙ sym second.names;
      interfaces = interfaces;
      modules = first.modules ∙ (λ i. modules_meant (interfaces i) (trees i).modules 0 (trees i).modules) ∙ sym second.modules;
    }

-- ---- one refusal

answer_to_one : (text : List ℕ) (faults others : List (Fault ProgramCause)) (one other : ProgramFault) → faults ≡ others → IsAnswerTo text faults one → IsAnswerTo text others other → one ≡ other
answer_to_one text faults others one other same (f, first, is) (g, second, so) =
    let least : ◌≡◌ {A = Option (Fault ProgramCause)} (Some f) (Some g) = sym first ∙ ap (least_from rank_of None) same ∙ second in
    let fault : f ≡ g = cc in
    is ∙ (λ i. Refused (line_of text (fault i).place) (fault i).cause) ∙ sym so

misread_one : (text : List ℕ) (found : List Token) (one other : ProgramFault) → IsMisread text found one → IsMisread text found other → one ≡ other
misread_one text found one other first second =
    let ts = placed_tokens text found in
    let stop = same_stop ts (length text) first.stop second.stop first.written second.written first.read_of second.read_of in
    let interfaces = one_interfaces ts (length text) first.stop second.stop first.written second.written first.read_of second.read_of in
    answer_to_one text (read_faults first.stop first.written.interfaces) (read_faults second.stop second.written.interfaces) one other
    (λ i. read_faults (stop i) (interfaces i)) first.given second.given

unchecked_one : (text : List ℕ) (one other : ProgramFault) → IsUnchecked text one → IsUnchecked text other → one ≡ other
unchecked_one text one other first second =
    let same = file_one text first.tree second.tree first.interfaces second.interfaces first.file second.file in
    let trees = same.trees in
    let interfaces = same.interfaces_same in
    answer_to_one text (checked_faults first.interfaces first.tree.modules (length text) first.tree.deployment) (checked_faults second.interfaces second.tree.modules (length text) second.tree.deployment) one other
    (λ i. checked_faults (interfaces i) (trees i).modules (length text) (trees i).deployment) first.given second.given

-- none of no faults
nothing_given : (text : List ℕ) (faults : List (Fault ProgramCause)) (answer : ProgramFault) → faults ≡ [] → IsAnswerTo text faults answer → ⊥
nothing_given text faults answer none (f, least, is) =
    let both : ◌≡◌ {A = Option (Fault ProgramCause)} None (Some f) = ap (least_from rank_of None) (sym none) ∙ least in
    cc

-- what is read without a fault isn't read with one
well_read : (text : List ℕ) (found : List Token) (tree : ProgramTree) (interfaces : List Interface) (answer : ProgramFault) → AreTokensOf text found → IsFile text tree interfaces → IsMisread text found answer → ⊥
well_read text found tree interfaces answer tokens file misread =
    let same = same_tokens text file.found found file.tokens tokens in
    let ts = placed_tokens text found in
    let spelled = subst (λ (us : List Token). Are spelling_program IsProgram (placed_tokens text us) file.written) same file.spelled in
    let stop = same_stop ts (length text) None misread.stop file.written misread.written (spelled, file.within) misread.read_of in
    let read = one_interfaces ts (length text) None misread.stop file.written misread.written (spelled, file.within) misread.read_of in
    let interfaces_read : tree.interfaces ≡ misread.written.interfaces = ap (λ (t : ProgramTree). t.interfaces) file.stands ∙ read in
    nothing_given text (read_faults misread.stop misread.written.interfaces) answer
    ((λ i. read_faults (sym stop i) (sym interfaces_read i)) ∙ file.faultless) misread.given

has_tokens : {P : Type 0} (text : List ℕ) (fault : LexFault) (found : List Token) → AreTokensOf text found → IsAnswer text (Err fault) → P
has_tokens text fault found tokens answers =
    let same : ◌≡◌ {A = Result (List Token) LexFault} (Err fault) (Ok found) = answer_one text (Err fault) (Ok found) answers tokens in
    absurd (cc)

pub refusal_one : (text : List ℕ) (one other : ProgramFault) → IsRefused text one → IsRefused text other → one ≡ other
refusal_one text one other (inl (long, is)) (inl (also, so)) = is ∙ sym so
refusal_one text one other (inl (long, is)) (inr (inl (short, _))) = absurd (omega (arith, long, short))
refusal_one text one other (inl (long, is)) (inr (inr (inl (short, _)))) = absurd (omega (arith, long, short))
refusal_one text one other (inl (long, is)) (inr (inr (inr unchecked))) = absurd (omega (arith, long, unchecked.file.short))
refusal_one text one other (inr (inl (short, _))) (inl (long, so)) = absurd (omega (arith, long, short))
refusal_one text one other (inr (inl (short, (fault, answers, is)))) (inr (inl (_, (another, also, so)))) =
    let same : ◌≡◌ {A = Result (List Token) LexFault} (Err fault) (Err another) = answer_one text (Err fault) (Err another) answers also in
    let faults : fault ≡ another = cc in
    is ∙ ap (lexical_answer text) faults ∙ sym so
refusal_one text one other (inr (inl (short, (fault, answers, is)))) (inr (inr (inl (_, (found, tokens, misread))))) = has_tokens text fault found tokens answers
refusal_one text one other (inr (inl (short, (fault, answers, is)))) (inr (inr (inr unchecked))) = has_tokens text fault unchecked.file.found unchecked.file.tokens answers
refusal_one text one other (inr (inr (inl (short, _)))) (inl (long, so)) = absurd (omega (arith, long, short))
refusal_one text one other (inr (inr (inl (short, (found, tokens, misread))))) (inr (inl (_, (fault, answers, so)))) = has_tokens text fault found tokens answers
refusal_one text one other (inr (inr (inl (short, (found, tokens, misread))))) (inr (inr (inl (_, (again, others, also))))) =
    misread_one text again one other (subst (λ (ts : List Token). IsMisread text ts one) (same_tokens text found again tokens others) misread) also
refusal_one text one other (inr (inr (inl (short, (found, tokens, misread))))) (inr (inr (inr unchecked))) =
    absurd (well_read text found unchecked.tree unchecked.interfaces one tokens unchecked.file misread)
refusal_one text one other (inr (inr (inr unchecked))) (inl (long, so)) = absurd (omega (arith, long, unchecked.file.short))
refusal_one text one other (inr (inr (inr unchecked))) (inr (inl (_, (fault, answers, so)))) = has_tokens text fault unchecked.file.found unchecked.file.tokens answers
refusal_one text one other (inr (inr (inr unchecked))) (inr (inr (inl (_, (found, tokens, misread))))) =
    absurd (well_read text found unchecked.tree unchecked.interfaces other tokens unchecked.file misread)
refusal_one text one other (inr (inr (inr unchecked))) (inr (inr (inr also))) = unchecked_one text one other unchecked also

-- ---- not both

pub not_both : (text : List ℕ) (plan : Plan) (answer : ProgramFault) → IsProgramOf text plan → IsRefused text answer → ⊥
not_both text plan answer is (inl (long, so)) = omega (arith, long, is.file.short)
not_both text plan answer is (inr (inl (_, (fault, answers, so)))) = has_tokens text fault is.file.found is.file.tokens answers
not_both text plan answer is (inr (inr (inl (_, (found, tokens, misread))))) = well_read text found is.tree plan.checked.interfaces answer tokens is.file misread
not_both text plan answer is (inr (inr (inr unchecked))) =
    let same = file_one text is.tree unchecked.tree plan.checked.interfaces unchecked.interfaces is.file unchecked.file in
    let trees = same.trees in
    let interfaces = same.interfaces_same in
    nothing_given text (checked_faults unchecked.interfaces unchecked.tree.modules (length text) unchecked.tree.deployment) answer
    ((λ i. checked_faults (sym interfaces i) (sym trees i).modules (length text) (sym trees i).deployment) ∙ is.faultless) unchecked.given
