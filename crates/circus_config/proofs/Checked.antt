-- What is found of modules and of the deployment over them.
use Rattle.std.proofs.Common.{◌≡◌, ℕ, ◌⊎◌, inl, inr, List, [], map, refl, sym, ◌∙◌, ap, subst, Option, Some, None}
use Rattle.std.specs.Prelude.{option_map}
use Rattle.circus_text.specs.Lines.{line_of}
use Rattle.circus_fault.specs.declared.fault.Fault.{Fault}
use Rattle.circus_fault.specs.Least.{lesser, least_from}
use Rattle.circus_fault.proofs.LeastIs.{joined, least_joined}
use Rattle.circus_fault.proofs.LeastMore.{least_more}
use Rattle.circus_resolve.specs.declared.cause.CheckCause.{CheckCause}
use Rattle.circus_resolve.specs.Causes.{rank}
use Rattle.circus_idl.specs.declared.interface.Interface.{Interface}
use Rattle.circus_lang.specs.ModuleTree.{ModuleTree}
use Rattle.circus_troupe.specs.declared.deployment_text.DeploymentText.{DeploymentText}
use Rattle.circus_check.specs.Faults.{faults}
use Rattle.circus_check.specs.declared.check_fault.CheckFault.{CheckFault}
use Rattle.circus_check.specs.declared.check_fault.CheckFault.TheVariants as check_answer
use Rattle.circus_check.specs.Answer as of_check
use Rattle.circus_deployment.specs.declared.cause.Cause as deployed
use Rattle.circus_deployment.specs.declared.deployment_fault.DeploymentFault.{DeploymentFault}
use Rattle.circus_deployment.specs.declared.deployment_fault.DeploymentFault.TheVariants as deployed_answer
use Rattle.circus_deployment.specs.Answer as of_deployed
use Rattle.circus_deployment.specs.Rank as of_deployment
use Rattle.circus_deployment.specs.Nodes.{troupe_numbers}
use Rattle.circus_deployment.specs.Faults.{first_without_troupe, deployment_faults}
use Rattle.circus_config.specs.declared.program_fault.ProgramCause.{ProgramCause}
use Rattle.circus_config.specs.Rank.{rank_of}
use Rattle.circus_config.specs.Told.{module_names, module_told, deployment_told}
use Rattle.circus_config.specs.Seen.{looked_faults, modules_answer, deployment_answer}
use Rattle.circus_config.specs.declared.program_fault.ProgramFault.{ProgramFault}
use Rattle.circus_config.specs.declared.program_fault.ProgramFault.TheVariants.{Refused}
use Rattle.circus_config.specs.Program.{IsAnswerTo}
use Rattle.circus_config.proofs.LeastTold.{least_told}
use Rattle.circus_config.proofs.ToldInOrder.{modules_in_order, deployments_in_order}
use Rattle.circus_config.proofs.Answered.{told_is, told_something, modules_answered, deployment_answered}

module _ (interfaces : List Interface) (modules : List ModuleTree) (end : ℕ) (d : DeploymentText) where
  -- the least of both is the lesser of the two
  both : (one other : Option (Fault ProgramCause)) → least_from rank_of None (map (module_told interfaces modules) (faults interfaces modules)) ≡ one
      → least_from rank_of None (map (deployment_told (first_without_troupe (troupe_numbers d.troupes) modules)) (deployment_faults modules end d)) ≡ other
      → least_from rank_of None (looked_faults interfaces modules end d) ≡ joined rank_of one other
  both one other first second =
      let ms = map (module_told interfaces modules) (faults interfaces modules) in
      let ds = map (deployment_told (first_without_troupe (troupe_numbers d.troupes) modules)) (deployment_faults modules end d) in
      least_more rank_of None ms ds ∙ ap (λ b. least_from rank_of b ds) first ∙ sym (least_joined rank_of one ds) ∙ ap (joined rank_of one) second

  told_of_modules : (f : Fault CheckCause) → least_from rank None (faults interfaces modules) ≡ Some f
      → least_from rank_of None (map (module_told interfaces modules) (faults interfaces modules)) ≡ Some (module_told interfaces modules f)
  told_of_modules f is = least_told (modules_in_order interfaces modules) None (faults interfaces modules) ∙ ap (option_map (module_told interfaces modules)) is

  told_of_deployment : (f : Fault deployed.Cause) → least_from of_deployment.rank_of None (deployment_faults modules end d) ≡ Some f
      → least_from rank_of None (map (deployment_told (first_without_troupe (troupe_numbers d.troupes) modules)) (deployment_faults modules end d)) ≡ Some (deployment_told (first_without_troupe (troupe_numbers d.troupes) modules) f)
  told_of_deployment f is =
      let o = first_without_troupe (troupe_numbers d.troupes) modules in
      least_told (deployments_in_order o) None (deployment_faults modules end d) ∙ ap (option_map (deployment_told o)) is

  -- a fault of modules alone
  pub first_alone : (f : Fault CheckCause) → least_from rank None (faults interfaces modules) ≡ Some f → deployment_faults modules end d ≡ []
      → least_from rank_of None (looked_faults interfaces modules end d) ≡ Some (module_told interfaces modules f)
  first_alone f is none =
      both (Some (module_told interfaces modules f)) None (told_of_modules f is) (ap (λ fs. least_from rank_of None (map (deployment_told (first_without_troupe (troupe_numbers d.troupes) modules)) fs)) none)

  -- a fault of the deployment alone
  pub second_alone : (f : Fault deployed.Cause) → faults interfaces modules ≡ [] → least_from of_deployment.rank_of None (deployment_faults modules end d) ≡ Some f
      → least_from rank_of None (looked_faults interfaces modules end d) ≡ Some (deployment_told (first_without_troupe (troupe_numbers d.troupes) modules) f)
  second_alone f none is =
      both None (Some (deployment_told (first_without_troupe (troupe_numbers d.troupes) modules) f)) (ap (λ fs. least_from rank_of None (map (module_told interfaces modules) fs)) none) (told_of_deployment f is)

  -- one of each
  pub of_both : (f : Fault CheckCause) (g : Fault deployed.Cause) (h : Fault ProgramCause) → least_from rank None (faults interfaces modules) ≡ Some f
      → least_from of_deployment.rank_of None (deployment_faults modules end d) ≡ Some g
      → Some h ≡ lesser rank_of (Some (module_told interfaces modules f)) (deployment_told (first_without_troupe (troupe_numbers d.troupes) modules) g)
      → least_from rank_of None (looked_faults interfaces modules end d) ≡ Some h
  of_both f g h first second is =
      both (Some (module_told interfaces modules f)) (Some (deployment_told (first_without_troupe (troupe_numbers d.troupes) modules) g)) (told_of_modules f first) (told_of_deployment g second) ∙ sym is

-- ---- the answers

module _ (interfaces : List Interface) (modules : List ModuleTree) (end : ℕ) (d : DeploymentText) (text : List ℕ) where
  abbrev pub ModulesAnswer : CheckFault → Type 0
  ModulesAnswer fault =
      (fault ≡ check_answer.NoMemory) ⊎ ((f : Fault CheckCause) × (least_from rank None (faults interfaces modules) ≡ Some f) × (fault ≡ of_check.answer_of interfaces modules f))

  abbrev pub DeploymentAnswers : DeploymentFault → Type 0
  DeploymentAnswers fault =
      (fault ≡ deployed_answer.NoMemory)
      ⊎ ((f : Fault deployed.Cause) × (least_from of_deployment.rank_of None (deployment_faults modules end d) ≡ Some f) × (fault ≡ of_deployed.answer_of (first_without_troupe (troupe_numbers d.troupes) modules) f))

  abbrev pub IsGiven : ProgramFault → Type 0
  IsGiven answer = IsAnswerTo text (looked_faults interfaces modules end d) answer

  -- a fault of modules is told
  module_is : (fault : CheckFault) (x : Fault ProgramCause) (f : Fault CheckCause) → modules_answer (module_names modules) fault ≡ Some x → fault ≡ of_check.answer_of interfaces modules f → x ≡ module_told interfaces modules f
  module_is fault x f told is =
      told_is (modules_answer (module_names modules)) fault (of_check.answer_of interfaces modules f) x (module_told interfaces modules f) told is (modules_answered interfaces modules f)

  module_given : (fault : CheckFault) (x : Fault ProgramCause) → modules_answer (module_names modules) fault ≡ Some x → fault ≡ check_answer.NoMemory → ⊥
  module_given fault x told = told_something (modules_answer (module_names modules)) fault check_answer.NoMemory x told refl

  -- and one of the deployment
  deployment_is : (fault : DeploymentFault) (x : Fault ProgramCause) (f : Fault deployed.Cause) → deployment_answer fault ≡ Some x → fault ≡ of_deployed.answer_of (first_without_troupe (troupe_numbers d.troupes) modules) f
      → x ≡ deployment_told (first_without_troupe (troupe_numbers d.troupes) modules) f
  deployment_is fault x f told is =
      let lacks = first_without_troupe (troupe_numbers d.troupes) modules in
      told_is deployment_answer fault (of_deployed.answer_of lacks f) x (deployment_told lacks f) told is (deployment_answered lacks f)

  deployment_given : (fault : DeploymentFault) (x : Fault ProgramCause) → deployment_answer fault ≡ Some x → fault ≡ deployed_answer.NoMemory → ⊥
  deployment_given fault x told = told_something deployment_answer fault deployed_answer.NoMemory x told refl

  pub first_given : (fault : CheckFault) (x : Fault ProgramCause) (answer : ProgramFault) → modules_answer (module_names modules) fault ≡ Some x → ModulesAnswer fault → deployment_faults modules end d ≡ []
      → answer ≡ Refused (line_of text x.place) x.cause → IsGiven answer
  first_given fault x answer told (inl none) clean given = absurd (module_given fault x told none)
  first_given fault x answer told (inr (f, least, is)) clean given =
      (x, subst (λ g. least_from rank_of None (looked_faults interfaces modules end d) ≡ Some g) (sym (module_is fault x f told is)) (first_alone interfaces modules end d f least clean), given)

  pub second_given : (fault : DeploymentFault) (x : Fault ProgramCause) (answer : ProgramFault) → deployment_answer fault ≡ Some x → faults interfaces modules ≡ [] → DeploymentAnswers fault
      → answer ≡ Refused (line_of text x.place) x.cause → IsGiven answer
  second_given fault x answer told clean (inl none) given = absurd (deployment_given fault x told none)
  second_given fault x answer told clean (inr (f, least, is)) given =
      (x, subst (λ g. least_from rank_of None (looked_faults interfaces modules end d) ≡ Some g) (sym (deployment_is fault x f told is)) (second_alone interfaces modules end d f clean least), given)

  pub both_given : (fault : CheckFault) (other : DeploymentFault) (x y h : Fault ProgramCause) (answer : ProgramFault) → modules_answer (module_names modules) fault ≡ Some x → ModulesAnswer fault
      → deployment_answer other ≡ Some y → DeploymentAnswers other → Some h ≡ lesser rank_of (Some x) y → answer ≡ Refused (line_of text h.place) h.cause → IsGiven answer
  both_given fault other x y h answer told (inl none) also_told also is given = absurd (module_given fault x told none)
  both_given fault other x y h answer told (inr one) also_told (inl none) is given = absurd (deployment_given other y also_told none)
  both_given fault other x y h answer told (inr (f, least, f_is)) also_told (inr (g, also_least, g_is)) is given =
      (h, of_both interfaces modules end d f g h least also_least (is ∙ (λ i. lesser rank_of (Some (module_is fault x f told f_is i)) (deployment_is other y g also_told g_is i))), given)
