-- What may be due: the fetch of a file, an end that is no failure of the link, or, where the words ask for one, a node to be served.
use Rattle.std.proofs.Common.{◌≡◌, ℕ, inl, inr, Option, List, [], ◌∷◌, sym, ap, ◌∙◌}
use Rattle.circus_config.specs.declared.plan.Plan.{Plan}
use Rattle.circus_commands.specs.declared.status.Status.TheVariants.{BadCommandLine, BadProgram, LinkFault}
use Rattle.circus_commands.specs.declared.one_file.OneFile.{OneFile}
use Rattle.circus_commands.specs.declared.one_file.OneFile.TheVariants.{Stubs, Run, Place}
use Rattle.circus_commands.specs.Ending.{Ending}
use Rattle.circus_program.specs.Form.{CommandForm, stubs, run, replay, picture, node, sample, draw, settle, place, audit, IsOfForm}
use Rattle.circus_program.specs.declared.shown.Shown.TheVariants.{Report, Picture}
use Rattle.circus_program.specs.declared.second.Second.{Second}
use Rattle.circus_program.specs.declared.second.Second.TheVariants.{Schedule, NodeRecord}
use Rattle.circus_program.specs.Answer.{Due, fetch, finish, serve, IsDueOfRefused, IsDueOfSecond, IsDueOfTwo, IsDueOfFile, IsDueOfEnd, IsDueOfProgram, IsDueOfSample, IsDueOfLines, IsDueOfSettle, IsDueOfNode, IsDueOfForm, IsDue, AsksForNode}
use Rattle.circus_program.proofs.Audits.{never_audits}
use Rattle.circus_program.proofs.Why.{never_ends, never_replays, never_drawn, never_listed, never_settles, ends_as}

abbrev IsNode : CommandForm → Type 0
IsNode (node _ _ _) = Unit {0}
IsNode (stubs _) = ⊥
IsNode (run _) = ⊥
IsNode (replay _ _) = ⊥
IsNode (picture _ _) = ⊥
IsNode (sample _ _ _) = ⊥
IsNode (draw _ _ _) = ⊥
IsNode (settle _ _) = ⊥
IsNode (place _) = ⊥
IsNode (audit _ _) = ⊥

data Kind (form : CommandForm) (due : Due) : Type 0 where
  fetches : (name : List ℕ) → due ≡ fetch name → Kind form due
  finishes : (ending : Ending) → due ≡ finish ending → (ending.status ≡ LinkFault → ⊥) → Kind form due
  serves : (plan : Plan) (number turns : ℕ) → due ≡ serve plan number turns → IsNode form → Kind form due

module _ (form : CommandForm) where
  of_refused : (bytes : List ℕ) (due : Due) → IsDueOfRefused bytes due → Kind form due
  of_refused bytes due (ending, (number, cause, refusal, means), is) =
      finishes ending is (λ same. let clash : BadProgram ≡ LinkFault = sym (ap (λ (e : Ending). e.status) means) ∙ same in cc)

  of_second : (second : Second) (plan : Plan) (bytes : List ℕ) (due : Due) → IsDueOfSecond second plan bytes due → Kind form due
  of_second (Schedule shown) plan bytes due (ending, end, is) = finishes ending is (never_replays LinkFault shown plan bytes ending end (λ same. cc) (λ same. cc) (λ same. cc))
  of_second NodeRecord plan bytes due (ending, end, is) = finishes ending is (never_audits LinkFault plan bytes ending end (λ same. cc) (λ same. cc))

  of_two : (second : Second) (program file : List ℕ) (files : List (List ℕ)) (due : Due) → IsDueOfTwo second program file files due → Kind form due
  of_two second program file [] due is = fetches program is
  of_two second program file (bytes ∷ []) due (inl (good, is)) = fetches file is
  of_two second program file (bytes ∷ []) due (inr refused) = of_refused bytes due refused
  of_two second program file (bytes ∷ more ∷ []) due (plan, means, is) = of_second second plan more due is
  of_two second program file (_ ∷ _ ∷ _ ∷ _) due is = absurd is

  of_file : (file : List ℕ) (IsNext : List ℕ → Due → Type 0) (files : List (List ℕ)) (due : Due) → ((bytes : List ℕ) → IsNext bytes due → Kind form due) → IsDueOfFile file IsNext files due → Kind form due
  of_file file IsNext [] due next is = fetches file is
  of_file file IsNext (bytes ∷ []) due next is = next bytes is
  of_file file IsNext (_ ∷ _ ∷ _) due next is = absurd is

  of_end : (command : OneFile) (bytes : List ℕ) (due : Due) → IsDueOfEnd command bytes due → Kind form due
  of_end command bytes due (ending, end, is) = finishes ending is (never_ends LinkFault command bytes ending end (λ same. cc) (λ same. cc) (λ same. cc) (λ same. cc))

  of_command : (command : OneFile) (file : List ℕ) (files : List (List ℕ)) (due : Due) → IsDueOfFile file (IsDueOfEnd command) files due → Kind form due
  of_command command file files due is = of_file file (IsDueOfEnd command) files due (λ bytes next. of_end command bytes due next) is

  of_bytes : (IsNext : Plan → Due → Type 0) (bytes : List ℕ) (due : Due) → ((plan : Plan) → IsNext plan due → Kind form due) → IsDueOfProgram IsNext bytes due → Kind form due
  of_bytes IsNext bytes due next (inl (plan, means, is)) = next plan is
  of_bytes IsNext bytes due next (inr refused) = of_refused bytes due refused

  of_program : (program : List ℕ) (IsNext : Plan → Due → Type 0) (files : List (List ℕ)) (due : Due) → ((plan : Plan) → IsNext plan due → Kind form due) → IsDueOfFile program (IsDueOfProgram IsNext) files due → Kind form due
  of_program program IsNext files due next is = of_file program (IsDueOfProgram IsNext) files due (λ bytes of. of_bytes IsNext bytes due next of) is

  of_sample : (seed steps : ℕ) (plan : Plan) (due : Due) → IsDueOfSample seed steps plan due → Kind form due
  of_sample seed steps plan due is = finishes _ is (never_drawn LinkFault plan seed steps (λ same. cc) (λ same. cc))

  of_lines : (seed steps : ℕ) (plan : Plan) (due : Due) → IsDueOfLines seed steps plan due → Kind form due
  of_lines seed steps plan due is = finishes _ is (never_listed LinkFault plan seed steps (λ same. cc) (λ same. cc))

  of_settle : (deliveries : ℕ) (plan : Plan) (due : Due) → IsDueOfSettle deliveries plan due → Kind form due
  of_settle deliveries plan due is = finishes _ is (never_settles LinkFault plan deliveries (λ same. cc) (λ same. cc) (λ same. cc))

  of_node : (name : List ℕ) (turns : ℕ) (plan : Plan) (due : Due) → IsNode form → IsDueOfNode name turns plan due → Kind form due
  of_node name turns plan due own (inl (number, named, is)) = serves plan number turns is own
  of_node name turns plan due own (inr (none, is)) = finishes _ is (λ same. let clash : BadProgram ≡ LinkFault = same in cc)

kind_of : (form : CommandForm) (files : List (List ℕ)) (due : Due) → IsDueOfForm form files due → Kind form due
kind_of (replay program schedule) files due is = of_two (replay program schedule) (Schedule Report) program schedule files due is
kind_of (picture program schedule) files due is = of_two (picture program schedule) (Schedule Picture) program schedule files due is
kind_of (stubs program) files due is = of_command (stubs program) Stubs program files due is
kind_of (run program) files due is = of_command (run program) Run program files due is
kind_of (place placing) files due is = of_command (place placing) Place placing files due is
kind_of (node program name turns) files due is =
    of_program (node program name turns) program (IsDueOfNode name turns) files due (λ plan next. of_node (node program name turns) name turns plan due tt next) is
kind_of (sample program seed steps) files due is =
    of_program (sample program seed steps) program (IsDueOfSample seed steps) files due (λ plan next. of_sample (sample program seed steps) seed steps plan due next) is
kind_of (draw program seed steps) files due is =
    of_program (draw program seed steps) program (IsDueOfLines seed steps) files due (λ plan next. of_lines (draw program seed steps) seed steps plan due next) is
kind_of (settle program deliveries) files due is =
    of_program (settle program deliveries) program (IsDueOfSettle deliveries) files due (λ plan next. of_settle (settle program deliveries) deliveries plan due next) is
kind_of (audit program «record») files due is = of_two (audit program «record») NodeRecord program «record» files due is

-- an end is none of a node that is served
pub never_linked : (shelf : Option (List ℕ → Option (List ℕ))) (words : List (List ℕ)) (ending : Ending) → IsDue shelf words (finish ending) → ending.status ≡ LinkFault → ⊥
never_linked shelf words ending (inr (none, is)) same = let clash : BadCommandLine ≡ LinkFault = ends_as LinkFault (finish ending) _ is same in cc
never_linked shelf words ending (inl some) same = by_kind (kind_of some.form some.files (finish ending) some.is_due)
  where
    by_kind : Kind some.form (finish ending) → ⊥
    by_kind (fetches name is) = cc
    by_kind (finishes other is not_linked) = not_linked (ends_as LinkFault (finish ending) other is same)
    by_kind (serves plan number turns is own) = cc

asks : (words : List (List ℕ)) (form : CommandForm) → IsOfForm words form → IsNode form → AsksForNode words
asks words (node program name turns) of own = (program, name, turns, of)
asks words (stubs _) of own = absurd own
asks words (run _) of own = absurd own
asks words (replay _ _) of own = absurd own
asks words (picture _ _) of own = absurd own
asks words (sample _ _ _) of own = absurd own
asks words (draw _ _ _) of own = absurd own
asks words (settle _ _) of own = absurd own
asks words (place _) of own = absurd own
asks words (audit _ _) of own = absurd own

-- a node is served where the words ask for one
pub serves_asked : (shelf : Option (List ℕ → Option (List ℕ))) (words : List (List ℕ)) (plan : Plan) (number turns : ℕ) → IsDue shelf words (serve plan number turns) → AsksForNode words
serves_asked shelf words plan number turns (inr (none, is)) = absurd (cc)
serves_asked shelf words plan number turns (inl some) = by_kind (kind_of some.form some.files (serve plan number turns) some.is_due)
  where
    by_kind : Kind some.form (serve plan number turns) → AsksForNode words
    by_kind (fetches name is) = absurd (cc)
    by_kind (finishes other is not_linked) = absurd (cc)
    by_kind (serves other host takes is own) = asks words some.form some.of_form own
