-- What each node of a world makes is what its member owes.
use Rattle.std.proofs.Common.{◌≡◌, ℕ, ◌+◌, ◌==◌, Bool, true, false, List, [], ◌∷◌, ◌++◌, length, Option, None, Some, refl, sym, ap, subst, ◌∙◌, append_assoc, append-nil}
use Rattle.std.specs.Prelude.{slice_get, option_and_then, if◌then◌else◌}
use Rattle.std.specs.Option.{option_map_or}
use Rattle.circus_value.specs.ValueTree.{ValueTree}
use Rattle.circus_value.specs.declared.outcome.Outcome.{Outcome}
use Rattle.circus_collate.specs.Deployment.{IsDeployment}
use Rattle.circus_collate.specs.declared.deployment.Deployment.{Deployment}
use Rattle.circus_collate.specs.declared.deployment.Troupe.{Troupe}
use Rattle.circus_model.specs.Agree.{AreModules, Agree}
use Rattle.circus_model.specs.Behaviour.{Behaviour, IsModule, behaviours}
use Rattle.circus_model.specs.NextTurn.{NextTurn}
use Rattle.circus_model.specs.declared.signature.Signature.{Signature}
use Rattle.circus_model.proofs.Threads.{are_modules}
use Rattle.circus_performing.specs.Record.{behaviour}
use Rattle.circus_wire.specs.WireActs.{WireActs}
use Rattle.circus_member_rules.specs.declared.occurrence.Difference.{Difference}
use Rattle.circus_member_rules.specs.declared.occurrence.Effect.{Effect}
use Rattle.circus_member_rules.specs.declared.occurrence.Purpose.{Purpose}
use Rattle.circus_node.specs.declared.event.Event.{Event}
use Rattle.circus_schedule.specs.declared.line.Line.{Line}
use Rattle.circus_world.specs.WorldState.{WorldState, Standing}
use Rattle.circus_world.specs.Lines.{Lead}
use Rattle.circus_world_theory.specs.Histories.{comes_by, acts_of}
use Rattle.circus_world_theory.specs.Histories as talks
use Rattle.circus_world_theory.proofs.Boots.{world_stands}
use Rattle.circus_world_theory.proofs.Lines.{lead_stands}
use Rattle.circus_world_theory.proofs.Worlds.{Stands}
use Rattle.circus_member_theory.specs.Past.{Past, booted}
use Rattle.circus_member_rules.specs.Proper.{AreProper}
use Rattle.circus_headline_theory.specs.Owed.Living.{made_in}
use Rattle.circus_world_theory.specs.Worlds.{IsWorldOf}
use Rattle.circus_world_theory.proofs.Proper.{are_proper}
use Rattle.circus_world_theory.proofs.Along.{lead_true}
use Rattle.circus_world_theory.proofs.Beginning.{boot_true}
use Rattle.circus_world_theory.proofs.Stepping.{NodesTrue}
use Rattle.circus_world_theory.specs.Happened.{happens_by, with_one, with_step, with_line, with_lines, with_others, past_of}
use Rattle.circus_world_theory.proofs.Timely.Lines.{LivesIn, line_lives}
use Rattle.circus_world_theory.proofs.Timely.Nodes.{at_home}
use Rattle.circus_world_theory.proofs.Timely.Worlds.{of_troupe, one_each, begins, lives_so}
use Rattle.circus_node.specs.Trace.{effects_at_boot}
use Rattle.circus_headline_theory.specs.Owed.Makes.{by_line, makes_then, tells_then, then_along, makes_along, tells_along}
use Rattle.circus_headline_theory.specs.Owed.Owes.{MakesWhatIsOwed, NodesMakeWhatIsOwed}
use Rattle.circus_headline_theory.proofs.Owed.Making.{made, told, grows}
use Rattle.circus_headline_theory.proofs.Owed.Nodes.{owed_all, boot_made}

module _ {M : Type 0} (declared : M → Signature) (turn : M → List ValueTree → ℕ → List ValueTree → List Outcome → NextTurn) (first : M → List ValueTree)
    (lawful : (hosted : M) → IsModule (behaviour declared turn first hosted)) (d : Deployment) (node number : ℕ) (troupe : Troupe) (own : M) where
  abbrev all_made : Past → List (ℕ × Effect)
  all_made p = made declared turn first lawful d node number troupe own p

  abbrev all_told : Past → List (ℕ × Difference)
  all_told p = told declared turn first lawful d node number troupe own p

  abbrev Lives : Past → WorldState M → Type 0
  Lives p w = LivesIn declared turn first lawful d node number troupe own p w

  -- ---- a line

  record IsMadeBy (p q : Past) (makes : List (ℕ × Effect)) (tells : List (ℕ × Difference)) : Type 0 where
    pub makes_so : all_made p ++ makes ≡ all_made q
    pub tells_so : all_told p ++ tells ≡ all_told q

  by_came : (p : Past) (line : Line) (w : WorldState M) → Lives p w → (came : Option (ℕ × Event)) → comes_by line w ≡ came
      → IsMadeBy p (option_map_or (with_step declared node p w) came p)
      (option_map_or (λ (x : ℕ × Event). if x.0 == node then option_map_or (λ (s : Standing M). makes_then declared turn node (w.steps + 1) x.1 s.node) (slice_get w.nodes node) [] else []) came [])
      (option_map_or (λ (x : ℕ × Event). if x.0 == node then option_map_or (λ (s : Standing M). tells_then declared turn node (w.steps + 1) x.1 s.node) (slice_get w.nodes node) [] else []) came [])
  by_came p line w h None is = record { makes_so = append-nil (all_made p); tells_so = append-nil (all_told p) }
  by_came p line w h (Some came) is = by_node (came.0 == node)
    where
      by_standing : (o : Option (Standing M)) → slice_get w.nodes node ≡ o
          → IsMadeBy p (option_map_or (λ (s : Standing M). with_one p (w.steps + 1) (happens_by declared came.1 s.node)) o p)
          (option_map_or (λ (s : Standing M). makes_then declared turn node (w.steps + 1) came.1 s.node) o [])
          (option_map_or (λ (s : Standing M). tells_then declared turn node (w.steps + 1) came.1 s.node) o [])
      by_standing None at = record { makes_so = append-nil (all_made p); tells_so = append-nil (all_told p) }
      by_standing (Some s) at =
          let g = grows declared turn first lawful d node number troupe own p (w.steps + 1) came.1 s.node (h.lives s at) in
          record { makes_so = g.makes; tells_so = g.tells }

      by_node : (b : Bool) → IsMadeBy p (if b then option_map_or (λ (s : Standing M). with_one p (w.steps + 1) (happens_by declared came.1 s.node)) (slice_get w.nodes node) p else p)
          (if b then option_map_or (λ (s : Standing M). makes_then declared turn node (w.steps + 1) came.1 s.node) (slice_get w.nodes node) [] else [])
          (if b then option_map_or (λ (s : Standing M). tells_then declared turn node (w.steps + 1) came.1 s.node) (slice_get w.nodes node) [] else [])
      by_node true = by_standing (slice_get w.nodes node) refl
      by_node false = record { makes_so = append-nil (all_made p); tells_so = append-nil (all_told p) }

  line_made : (p : Past) (line : Line) (w : WorldState M) → Lives p w
      → IsMadeBy p (with_line declared node p line w) (by_line declared turn node (makes_then declared turn node) line w) (by_line declared turn node (tells_then declared turn node) line w)
  line_made p line w h = by_came p line w h (comes_by line w) refl

  -- ---- lines

  module _ (program : List Behaviour) (agree : Agree program) (are : AreModules program) (proper : AreProper program) (good : IsDeployment d) (all : length program ≡ length d.troupes) where
    lead_made : (acts : ℕ → WireActs Purpose) (p : Past) (lines : List Line) (w last : WorldState M) → Stands d acts w → NodesTrue declared turn first program d acts w → Lives p w
        → Lead declared turn lines w last → IsMadeBy p (with_lines declared turn node p lines w) (makes_along declared turn node lines w) (tells_along declared turn node lines w)
    lead_made acts p [] w last stands so_far h lead = record { makes_so = append-nil (all_made p); tells_so = append-nil (all_told p) }
    lead_made acts p (line ∷ lines) w last stands so_far h lead =
        let next : WorldState M = lead.0 in
        let q = with_line declared node p line w in
        let one : Lead declared turn (line ∷ []) w next = (next, lead.1, refl) in
        let behind_it : ℕ → WireActs Purpose = λ x. talks.with_lines declared turn x (acts x) (line ∷ []) w in
        let lives = line_lives declared turn first lawful program agree are proper d good all node number troupe own acts p w next stands so_far h line lead.1 in
        let rest = lead_made behind_it q lines next last (lead_stands declared turn d acts (line ∷ []) w next stands one)
        (lead_true declared turn first lawful program agree are proper d good all acts (line ∷ []) w next stands so_far one) lives lead.2 in
        let l = line_made p line w h in
        let e = lead.1.stepped_is in
        let makes_now = by_line declared turn node (makes_then declared turn node) line w in
        let tells_now = by_line declared turn node (tells_then declared turn node) line w in
        record {
          makes_so = (λ j. all_made p ++ then_along makes_now (makes_along declared turn node lines) (e j))
              ∙ sym (append_assoc (all_made p) makes_now (makes_along declared turn node lines next))
              ∙ ap (λ xs. xs ++ makes_along declared turn node lines next) l.makes_so
              ∙ rest.makes_so
              ∙ (λ j. all_made (with_others (with_lines declared turn node q lines) p (sym e j)));
          tells_so = (λ j. all_told p ++ then_along tells_now (tells_along declared turn node lines) (e j))
              ∙ sym (append_assoc (all_told p) tells_now (tells_along declared turn node lines next))
              ∙ ap (λ xs. xs ++ tells_along declared turn node lines next) l.tells_so
              ∙ rest.tells_so
              ∙ (λ j. all_told (with_others (with_lines declared turn node q lines) p (sym e j)));
        }

-- ---- a world

module _ {M : Type 0} (declared : M → Signature) (turn : M → List ValueTree → ℕ → List ValueTree → List Outcome → NextTurn) (first : M → List ValueTree)
    (lawful : (hosted : M) → IsModule (behaviour declared turn first hosted)) where
  pub worlds_make_what_is_owed : (d : Deployment) (modules : List M) (hosted : List (Option M)) (lines : List Line) (begun last : WorldState M)
      → IsWorldOf declared turn first d modules hosted lines begun last → NodesMakeWhatIsOwed declared turn first d hosted lines begun last
  worlds_make_what_is_owed d modules hosted lines begun last world node number troupe s own kept at hosts_it is_at there is =
      let program = behaviours declared turn first modules in
      let modules_are = are_modules declared turn first modules lawful in
      let home = at_home declared turn first lawful d node number troupe own is_at there world.deployment
      (of_troupe declared turn first d modules node number own world.troupes (world.hosts.each node (Some own) hosts_it) is_at) in
      let lives = lives_so declared turn first lawful d modules hosted lines begun last world node number troupe own hosts_it is_at there in
      let p = past_of declared turn lines begun node in
      let m = lead_made declared turn first lawful d node number troupe own program world.agree modules_are (are_proper declared turn first d modules world.troupes) world.deployment
      (one_each declared turn first lawful d modules hosted lines begun last world) (acts_of declared turn first d hosted [] begun) booted lines begun last
      (world_stands declared turn first d hosted modules [] begun begun world.deployment world.troupes world.hosts world.boots refl)
      (boot_true declared turn first lawful modules world.agree modules_are (are_proper declared turn first d modules world.troupes) d world.deployment world.troupes hosted world.hosts begun world.boots)
      (begins declared turn first lawful d modules hosted lines begun last world node number troupe own hosts_it is_at there) world.leads in
      let own_is : option_and_then (λ (o : Option M). o) (slice_get hosted node) ≡ Some own = ap (option_and_then (λ (o : Option M). o)) hosts_it in
      let boots : made_in 0 (effects_at_boot declared turn first d (option_and_then (λ (o : Option M). o) (slice_get hosted node)) node)
      ≡ made declared turn first lawful d node number troupe own booted =
      ap (λ o. made_in 0 (effects_at_boot declared turn first d o node)) own_is ∙ boot_made declared turn first lawful d node number troupe own is_at there in
      let made_so = ap (λ l. l ++ makes_along declared turn node lines begun) boots ∙ m.makes_so in
      let o = owed_all declared turn first lawful d node number troupe own home p (lives.numbers s at).distinct s.node.acting kept (lives.lives s at) is in
      subst (λ l. MakesWhatIsOwed d node number troupe (first own) kept p l (tells_along declared turn node lines begun)) (sym made_so)
      (subst (λ l. MakesWhatIsOwed d node number troupe (first own) kept p (made declared turn first lawful d node number troupe own p) l) (sym m.tells_so) o)
