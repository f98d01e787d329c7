-- The productions of program files are lawful with every number of levels.
use Rattle.std.proofs.Common.{◌≡◌, ℕ, suc, ◌<◌, Bool, true, false, List, [], ◌∷◌, ◌++◌, refl, sym, ap, arith}
use Rattle.std.specs.Prelude.{Option, codes}
use Rattle.circus_text.specs.declared.token.TokenKind.TheVariants.{Word}
use Rattle.circus_syntax.specs.Reserved.{is_reserved, reserved_words}
use Rattle.circus_syntax.specs.Placed.{Placed, first, word, sign, digits, is_lexeme, is_name, Due, due, due_name, due_number, AreDue}
use Rattle.circus_syntax.specs.Reader.{Reader, passes, map_read, either_case}
use Rattle.circus_syntax.specs.Reading.{expect_token}
use Rattle.circus_syntax.specs.Spelling.{each, spelling, IsEach, IsGrammatical}
use Rattle.circus_syntax.proofs.Complete.{Any, Links}
use Rattle.circus_syntax.proofs.Tokens.{Always, opens_due}
use Rattle.circus_syntax.proofs.Lawful.{Lawful, Branch, lawful_at, lawful_fixed, lawful_then, lawful_both, lawful_mapped, branch_of, lawful_cased, lawful_repeated}
use Rattle.circus_syntax.proofs.InterfaceLevels.{lawful_interface, shrinks_interface, interface_opens}
use Rattle.circus_expression.proofs.Ends.{AllLawful}
use Rattle.circus_statement.specs.WrittenStatement.{semicolon}
use Rattle.circus_statement.proofs.Lawfulness.{stays_lexeme, link_first, link_due}
use Rattle.circus_lang.specs.WrittenModule.{WrittenModule, serving, root, spelling_variable, spelling_procedure, spelling_main, spelling_module, IsModule}
use Rattle.circus_lang.specs.WrittenModule as written
use Rattle.circus_lang.specs.ModuleReading.{begins_module}
use Rattle.circus_lang.proofs.Modules.{modules_lawful, shrinks_module, module_opens}
use Rattle.circus_troupe.specs.declared.deployment_text.DeploymentText.{DeploymentText}
use Rattle.circus_troupe.specs.DeploymentSpelling.{spelling_troupe, spelling_deployment, IsDeploymentText}
use Rattle.circus_troupe.proofs.Deployments.{AtEnd, deployments_lawful}
use Rattle.circus_file.specs.declared.program_text.Format.{Format}
use Rattle.circus_file.specs.declared.program_text.Format.TheVariants.{One, Two}
use Rattle.circus_file.specs.WrittenProgram.{format_digits, spelling_heading, spelling_program, IsProgram}
use Rattle.circus_file.specs.ProgramReading.{format_number, heading, interfaces, modules, program_of_parts, program}

-- The heading.

abbrev spelling_format : Format → List Due
spelling_format f = due (digits (format_digits f)) ∷ []

abbrev is_two : Option Placed → Bool
is_two = passes (is_lexeme (digits (codes "2")))

abbrev format_by : Bool → Reader → Format × Reader
format_by = either_case (map_read (λ x. Two) (expect_token (digits (codes "2")))) (map_read (λ x. One) (expect_token (digits (codes "1"))))

abbrev format_when : Bool → Format
format_when true = Two
format_when false = One

lawful_this : (n : ℕ) (f : Format) → Lawful n (map_read (λ x. f) (expect_token (digits (format_digits f)))) (map_read (λ x. f) (expect_token (digits (format_digits f)))) spelling_format (λ g. g ≡ f) Any
lawful_this n f =
    lawful_mapped n (λ x. f) spelling_format (λ g. g ≡ f) (λ x. refl) (λ x g. refl) (λ g same. (tt, sym same, tt)) (lawful_fixed n (digits (format_digits f)))

lawful_format : (n : ℕ) → Lawful n format_number format_number spelling_format Always Any
unfolding format_number
lawful_format n = lawful_cased is_two n format_by format_by (λ b f. f ≡ format_when b) branches (λ s ts e. refl) begins
  where
    branches : (b : Bool) → Branch is_two b n (format_by b) (format_by b) spelling_format Always (λ f. f ≡ format_when b) Any
    branches true = branch_of is_two true n Always (λ f g. tt) (lawful_this n Two)
    branches false = branch_of is_two false n Always (λ f g. tt) (lawful_this n One)

    not_two : (ts rest : List Placed) → AreDue (spelling_format One) ts → is_two (first (ts ++ rest)) ≡ false
    not_two [] rest d = absurd d
    not_two (t ∷ ts) rest d = stays_lexeme (λ o. is_two o ≡ false) (digits (codes "1")) (λ s. refl) t d.0.0 d.0.1

    begins : (f : Format) (ts rest : List Placed) → Always f → AreDue (spelling_format f) ts → Any (first rest) → (b : Bool) × (is_two (first (ts ++ rest)) ≡ b) × (f ≡ format_when b)
    begins One ts rest good d stays = (false, not_two ts rest d, refl)
    begins Two ts rest good d stays = (true, opens_due (digits (codes "2")) [] ts rest d, refl)

lawful_heading : (n : ℕ) → Lawful n heading heading spelling_heading Always Any
unfolding heading
lawful_heading n =
    lawful_mapped n (λ x. x.1.0) spelling_heading Always (λ x. refl) (λ x g. tt) (λ f g. ((tt, (f, tt)), refl, (tt, (tt, tt))))
    (lawful_then n (lawful_fixed n (word (codes "CIRCUS"))) (lawful_then n (lawful_format n) (lawful_fixed n (sign (codes ";")))))

-- Interfaces and modules.

abbrev NoInterface : Option Placed → Type 0
NoInterface o = Any o × (passes is_name o ≡ false)

lawful_interfaces : (n m : ℕ) → suc n < m → Lawful n (interfaces n) (interfaces m) (each spelling) (IsEach IsGrammatical) NoInterface
unfolding interfaces
lawful_interfaces n m above = lawful_repeated is_name n (shrinks_interface n) (shrinks_interface m) interface_opens (λ o hit. tt) (lawful_at is_name n (lawful_interface n m (omega arith)))

abbrev NoModule : Option Placed → Type 0
NoModule o = Any o × (passes begins_module o ≡ false)

lawful_modules : (n m : ℕ) → suc n < m → Lawful n (modules n) (modules m) (each spelling_module) (IsEach IsModule) NoModule
unfolding modules
lawful_modules n m above = lawful_repeated begins_module n (shrinks_module n) (shrinks_module m) module_opens (λ o hit. tt) (lawful_at begins_module n (modules_lawful n m above))

-- Program files.

-- behind RINGMASTER
behind_word : DeploymentText → List Due
behind_word d = due_name d.ringmaster.name ∷ due (word (codes "PORT")) ∷ due_number d.ringmaster.port ∷ semicolon ∷ each spelling_troupe d.troupes

deployment_parts : (d : DeploymentText) → spelling_deployment d ≡ due (word (codes "RINGMASTER")) ∷ behind_word d
unfolding behind_word
deployment_parts d = refl

link_modules : Links spelling_deployment IsDeploymentText AtEnd NoModule
link_modules = link_due IsDeploymentText AtEnd NoModule (word (codes "RINGMASTER")) behind_word deployment_parts (λ s. (tt, refl))

-- the word that a module begins with, and what stands behind it
module_word : WrittenModule → List ℕ
module_word (serving k i ns vs ps) = codes "MODULE"
module_word (root k ns vs at b) = codes "ROOT"

behind_module : WrittenModule → List Due
behind_module (serving k i ns vs ps) =
    due_name k ∷ due (word (codes "IMPLEMENTS")) ∷ due_name i ∷ (written.spelling_heading ns ++ (each spelling_variable vs ++ (each spelling_procedure ps ++ written.module_closing)))
behind_module (root k ns vs at b) = due_name k ∷ (written.spelling_heading ns ++ (each spelling_variable vs ++ (spelling_main at b ++ written.module_closing)))

module_parts : (w : WrittenModule) → spelling_module w ≡ due (word (module_word w)) ∷ behind_module w
unfolding module_word behind_module
module_parts (serving k i ns vs ps) = refl
module_parts (root k ns vs at b) = refl

-- the same of modules and a deployment
first_word : List WrittenModule → List ℕ
first_word [] = codes "RINGMASTER"
first_word (w ∷ ws) = module_word w

behind_first : List WrittenModule → DeploymentText → List Due
behind_first [] d = behind_word d
behind_first (w ∷ ws) d = (behind_module w ++ each spelling_module ws) ++ spelling_deployment d

all_parts : (ws : List WrittenModule) (d : DeploymentText) → each spelling_module ws ++ spelling_deployment d ≡ due (word (first_word ws)) ∷ behind_first ws d
unfolding first_word behind_first
all_parts [] d = deployment_parts d
all_parts (w ∷ ws) d = ap (λ l. (l ++ each spelling_module ws) ++ spelling_deployment d) (module_parts w)

-- none of these words is a name
first_is_no_name : (ws : List WrittenModule) (s : ℕ) → is_name (record { kind = Word; bytes = first_word ws; start = s }) ≡ false
unfolding first_word module_word is_reserved reserved_words
first_is_no_name [] s = refl
first_is_no_name (serving k i ns vs ps ∷ ws) s = refl
first_is_no_name (root k ns vs at b ∷ ws) s = refl

link_interfaces : Links {B = List WrittenModule × DeploymentText} (λ x. each spelling_module x.0 ++ spelling_deployment x.1) (λ x. IsEach IsModule x.0 × IsDeploymentText x.1) AtEnd NoInterface
link_interfaces =
    link_first {B = List WrittenModule × DeploymentText} (λ x. IsEach IsModule x.0 × IsDeploymentText x.1) AtEnd NoInterface (λ x. due (word (first_word x.0))) (λ x. behind_first x.0 x.1) (λ x. all_parts x.0 x.1)
    (λ x t good d. stays_lexeme NoInterface (word (first_word x.0)) (λ s. (tt, first_is_no_name x.0 s)) t d.0 d.1)

pub programs_lawful : AllLawful program spelling_program IsProgram AtEnd
unfolding program
programs_lawful n m above =
    lawful_mapped n program_of_parts spelling_program IsProgram (λ x. refl) (λ x g. (g.1.0, g.1.1.0, g.1.1.1)) (λ p g. ((p.format, (p.interfaces, (p.modules, p.deployment))), refl, (tt, (g.0, (g.1, g.2)))))
    (lawful_then n (lawful_heading n) (lawful_both n (lawful_interfaces n m above) (lawful_both n (lawful_modules n m above) (deployments_lawful n m above) link_modules) link_interfaces))
