-- The interfaces of a file and their rules.
use Rattle.std.proofs.Common.{◌≡◌, ℕ, suc, ◌+◌, ◌≤◌, ◌≢◌, ◌⊎◌, inl, inr, true, List, [], ◌∷◌, ◌++◌, length, map, refl, sym, ◌∙◌, ap, subst, arith, Option, Some, None}
use Rattle.std.specs.Prelude.{◌==◌, is_some, option_map, IfNone}
use Rattle.std.specs.List.{AllByRecursion}
use Rattle.std.proofs.lemmas.Bool.{eq-eqb}
use Rattle.std.proofs.lemmas.List.{map-append}
use Rattle.circus_syntax.specs.declared.stopping.Stop.{Stop}
use Rattle.circus_syntax.specs.declared.stopping.StopCause.{StopCause}
use Rattle.circus_syntax.specs.declared.stopping.StopCause.TheVariants.{Unexpected, TooDeep}
use Rattle.circus_syntax.specs.InterfaceTree.{InterfaceTree}
use Rattle.circus_syntax.specs.Spelling.{IsEach, IsGrammatical}
use Rattle.circus_fault.specs.declared.fault.Fault.{Fault}
use Rattle.circus_fault.specs.Least.{faults_if, lesser, least_from}
use Rattle.circus_fault.specs.Stopping.{cause_of, stop_faults}
use Rattle.circus_fault.specs.Known.{Known, add_name}
use Rattle.circus_fault.proofs.Items.{none_in}
use Rattle.circus_fault.proofs.LeastIs.{never_lost, joined, least_joined}
use Rattle.circus_fault.proofs.LeastMore.{least_more}
use Rattle.circus_fault.proofs.NoFaults.{no_fault}
use Rattle.circus_idl.specs.declared.fault.Cause as cause
use Rattle.circus_idl.specs.declared.fault.Cause.TheVariants as interface
use Rattle.circus_idl.specs.declared.idl_fault.IdlFault.{IdlFault}
use Rattle.circus_idl.specs.declared.idl_fault.IdlFault.TheVariants.{NoMemory}
use Rattle.circus_idl.specs.Answer as answer
use Rattle.circus_idl.specs.Rank as of_interface
use Rattle.circus_idl.specs.declared.interface.Interface.{Interface}
use Rattle.circus_idl.specs.Faults as idl
use Rattle.circus_idl.specs.Faults.{cut_of, interface_faults}
use Rattle.circus_idl.specs.Means.{Means}
use Rattle.circus_idl.specs.Obeys.{Obeys}
use Rattle.circus_idl.proofs.Obeying.{meant_obeys}
use Rattle.circus_config.specs.declared.program_fault.ProgramCause.{ProgramCause}
use Rattle.circus_config.specs.declared.program_fault.ProgramCause.TheVariants.{Syntax, Deep, TooMany}
use Rattle.circus_limits.specs.Limits.{most_interfaces}
use Rattle.circus_config.specs.Rank.{rank_of}
use Rattle.circus_config.specs.Told.{interface_cause, interface_told}
use Rattle.circus_config.specs.Reading.{name_faults, interfaces_faults}
use Rattle.circus_config.specs.Program.{EachMeans}
use Rattle.circus_config.specs.Seen.{fault_of, interface_answer}
use Rattle.circus_config.specs.declared.least.Found.{Found}
use Rattle.circus_config.proofs.LeastTold.{least_told}
use Rattle.circus_config.proofs.ToldInOrder.{interfaces_in_order}
use Rattle.circus_config.proofs.Answered.{told_is, told_something, interface_answered}

-- ---- a stop is told by each interface, and counts once

stop_cause : (c : StopCause) → interface_cause (cause_of interface.Expected interface.Deep c) ≡ cause_of Syntax Deep c
stop_cause Unexpected = refl
stop_cause TooDeep = refl

stop_told : (stop : Option Stop) → map interface_told (stop_faults interface.Expected interface.Deep stop) ≡ stop_faults Syntax Deep stop
stop_told None = refl
stop_told (Some s) = ap (λ c. faults_if true s.place c) (stop_cause s.cause)

pub rules_found : (stop : Option Stop) (best : Option (Fault ProgramCause)) (i : InterfaceTree) → least_from rank_of best (stop_faults Syntax Deep stop) ≡ best
    → least_from rank_of best (map interface_told (idl.read_faults stop i)) ≡ least_from rank_of best (map interface_told (interface_faults (cut_of stop) i))
rules_found stop best i same =
    let own = map interface_told (interface_faults (cut_of stop) i) in
    ap (least_from rank_of best) (map-append interface_told (stop_faults interface.Expected interface.Deep stop) (interface_faults (cut_of stop) i) ∙ ap (λ fs. fs ++ own) (stop_told stop))
    ∙ least_more rank_of best (stop_faults Syntax Deep stop) own ∙ ap (λ b. least_from rank_of b own) same

-- the fault of an interface is the least of all of its faults, told
pub fault_told : (best new : Option (Fault ProgramCause)) (x : Fault ProgramCause) (fault : IdlFault) (fs : List (Fault cause.Cause)) → interface_answer fault ≡ Some x
    → (fault ≡ NoMemory) ⊎ ((f : Fault cause.Cause) × (least_from of_interface.rank_of None fs ≡ Some f) × (fault ≡ answer.answer_of f))
    → new ≡ lesser rank_of best x → new ≡ least_from rank_of best (map interface_told fs)
fault_told best new x fault fs told (inl none) is = absurd (told_something interface_answer fault NoMemory x told refl none)
fault_told best new x fault fs told (inr (f, least, given)) is =
    is ∙ ap (lesser rank_of best) (told_is interface_answer fault (answer.answer_of f) x (interface_told f) told given (interface_answered f))
    ∙ ap (joined rank_of best) (sym (least_told interfaces_in_order None fs ∙ ap (option_map interface_told) least))
    ∙ least_joined rank_of best (map interface_told fs)

-- ---- interfaces without a fault

pub none_told : {X Y : Type 0} (f : X → Y) (xs : List X) → map f xs ≡ [] → xs ≡ []
none_told f [] none = refl
none_told f (x ∷ xs) none = absurd (cc)

-- what holds where none of these has a fault
pub record AreClean (number : ℕ) (trees : List InterfaceTree) : Type 0 where
  pub each : AllByRecursion (λ i. interface_faults (cut_of None) i ≡ []) trees
  pub few : number ≤ most_interfaces → number + length trees ≤ most_interfaces

pub clean_of : (earlier : Known) (number : ℕ) (trees : List InterfaceTree) → interfaces_faults (cut_of None) earlier number trees ≡ [] → AreClean number trees
clean_of earlier number [] none = record { each = tt; few = λ low. omega (arith, low) }
clean_of earlier number (i ∷ is) none =
    let own = map interface_told (interface_faults (cut_of None) i) in
    let (first, rest) = none_in (name_faults earlier number i ++ own) (interfaces_faults (cut_of None) (add_name i.name.name number earlier) (number + 1) is) none in
    let (name, rules) = none_in (name_faults earlier number i) own first in
    let (again, many) = none_in (faults_if (is_some (earlier i.name.name)) i.name.at _) (faults_if (number == most_interfaces) i.name.at TooMany) name in
    let others = clean_of (add_name i.name.name number earlier) (number + 1) is rest in
    record {
      each = (none_told interface_told (interface_faults (cut_of None) i) rules, others.each);
      few = λ low.
          let another : number ≢ most_interfaces = λ same. let is = eq-eqb number most_interfaces same in let never = no_fault _ _ _ many in absurd (cc) in
          omega (arith, others.few (omega (arith, low, another)));
    }

pub all_obey : (trees : List InterfaceTree) (interfaces : List Interface) → IsEach IsGrammatical trees → AllByRecursion (λ i. interface_faults (cut_of None) i ≡ []) trees → EachMeans trees interfaces → AllByRecursion Obeys interfaces
all_obey [] [] good clean means = tt
all_obey [] (i ∷ is) good clean means = absurd means
all_obey (t ∷ ts) [] good clean means = tt
all_obey (t ∷ ts) (i ∷ is) good clean means = (meant_obeys t i good.0 clean.0 means.0, all_obey ts is good.1 clean.1 means.1)

pub as_many : (trees : List InterfaceTree) (interfaces : List Interface) → EachMeans trees interfaces → length interfaces ≡ length trees
as_many [] [] means = refl
as_many [] (i ∷ is) means = absurd means
as_many (t ∷ ts) [] means = absurd means
as_many (t ∷ ts) (i ∷ is) means = ap suc (as_many ts is means.1)

-- one interface more
pub means_more : (trees : List InterfaceTree) (interfaces : List Interface) (t : InterfaceTree) (i : Interface) → EachMeans trees interfaces → Means t i → EachMeans (trees ++ t ∷ []) (interfaces ++ i ∷ [])
means_more [] [] t i before own = (own, tt)
means_more [] (j ∷ js) t i before own = absurd before
means_more (u ∷ us) [] t i before own = absurd before
means_more (u ∷ us) (j ∷ js) t i before own = (before.0, means_more us js t i before.1 own)

-- where nothing is kept, nothing was kept before
none_before : (best : Option (Fault ProgramCause)) (fs : List (Fault ProgramCause)) → least_from rank_of best fs ≡ None → best ≡ None
none_before None fs is = refl
none_before (Some b) fs is = absurd (never_lost rank_of b fs is)

-- what is made so far, behind one interface more
pub made_more : (old new : Option Found) (mid : Option (Fault ProgramCause)) (names rules : List (Fault ProgramCause)) (trees : List InterfaceTree) (t : InterfaceTree) (made more : List Interface)
    → mid ≡ least_from rank_of (option_map fault_of old) names → option_map fault_of new ≡ least_from rank_of mid rules
    → IfNone old (EachMeans trees made) → IfNone new ((i : Interface) × (more ≡ made ++ i ∷ []) × Means t i) → IfNone new (EachMeans (trees ++ t ∷ []) more)
made_more old (Some n) mid names rules trees t made more first then before own = tt
made_more (Some o) None mid names rules trees t made more first then before own =
    absurd (never_lost rank_of (fault_of o) names (sym first ∙ none_before mid rules (sym then)))
made_more None None mid names rules trees t made more first then before (i, is, means) = subst (EachMeans (trees ++ t ∷ [])) (sym is) (means_more trees made t i before means)
