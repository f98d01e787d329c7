-- What is said of the record of a member by its evaluation: where a run has its events it is a record of that, else of none.
use Rattle.std.specs.Prelude.{min, slice_get}
use Rattle.std.specs.Option.{option_map_or}
use Rattle.std.proofs.Common.{◌≡◌, ℕ, ◌+◌, inl, inr, true, false, List, [], ◌∷◌, ◌++◌, length, All, Option, None, Some, refl, sym, ap, subst, ◌∙◌}
use Rattle.std.proofs.lemmas.List.Elements.{All-nil}
use Rattle.std.proofs.lemmas.Option.{same_Some}
use Rattle.circus_value.specs.ValueTree.{ValueTree}
use Rattle.circus_collate.specs.declared.deployment.Deployment.{Deployment}
use Rattle.circus_collate.specs.declared.deployment.Troupe.{Troupe}
use Rattle.circus_transfer.specs.declared.joiner.Joiner.{Joiner}
use Rattle.circus_transfer.specs.declared.joiner.Joiner.TheVariants.{Outside, Asking, Fetching, Active}
use Rattle.circus_model.specs.Behaviour.{Behaviour}
use Rattle.circus_record.specs.declared.record.MemberRecord.{MemberRecord}
use Rattle.circus_record.specs.declared.record.RunRecord.{RunRecord}
use Rattle.circus_performing.specs.Performing.{before_any, is_active, last_count, state_after}
use Rattle.circus_performing.specs.Record.{count_after, IsRecord}
use Rattle.circus_member_theory.specs.Past.{phase}
use Rattle.circus_performing.proofs.Records.{none_is_some}
use Rattle.circus_node.specs.Trace.{Trace}
use Rattle.circus_world.specs.Legal.{is_spare}
use Rattle.circus_headline_theory.specs.NodeRun.{IsNodeRun, state_at_activation}
use Rattle.circus_headline_theory.specs.Trace.{ComesFromOthers}
use Rattle.circus_audit.specs.declared.given.Given.{Given}
use Rattle.circus_audit.specs.declared.given.GivenEvent.{GivenEvent}
use Rattle.circus_dues.specs.NodeRuns.{begins, IsEvaluated}
use Rattle.circus_dues.proofs.NodeRuns.{evaluated_runs, runs_evaluate}
use Rattle.circus_verdict.specs.Audited.{events_in, said_in, said_of, JoinsSo, HasRun, HasRunAt, IsAudited}
use Rattle.circus_verdict.specs.Verdict.{StandsWhereActive}
use Rattle.circus_verdict.specs.Seen.Judging.{HasRunSo, IsCounted}
use Rattle.circus_verdict.specs.Seen.Living.{phase_told, IsMemberAt, through, IsEvaluatedIn, IsRunSo, HasRunThrough, HaveNoRun}
use Rattle.circus_verdict.proofs.Auditing.{rises}
use Rattle.circus_verdict.proofs.Judging.{said_whole, said_apart}
use Rattle.circus_verdict.proofs.Phases.{in_phase, past_in_phase}
use Rattle.circus_verdict.proofs.Possible.Activation.{none_fetched, not_yet}
use Rattle.circus_verdict.proofs.Possible.Counted.{runs_counted}

none_pushed : {X : Type 0} (xs : List X) (x : X) → [] ≡ xs ++ x ∷ [] → ⊥
none_pushed {X} [] x is = (let clash : ◌≡◌ {A = List X} [] (x ∷ []) = is in cc)
none_pushed {X} (y ∷ xs) x is = (let clash : ◌≡◌ {A = List X} [] (y ∷ (xs ++ x ∷ [])) = is in cc)

-- ---- phases

active_told : (p : Joiner) → is_active (phase_told p) ≡ true → phase_told p ≡ p
active_told Outside active = refl
active_told Asking active = refl
active_told (Fetching incarnation) active = absurd (let clash : false ≡ true = active in cc)
active_told (Active first) active = refl

phase_said : (p : Joiner) (kept : MemberRecord) → kept.phase ≡ p → (said_in p kept).phase ≡ phase_told p
phase_said Outside kept is = refl
phase_said Asking kept is = refl
phase_said (Fetching incarnation) kept is = refl
phase_said (Active first) kept is = is

-- of one that isn't active the phase is said alone
said_alone : (p : Joiner) (kept : MemberRecord) → is_active (phase_told p) ≡ false → said_in p kept ≡ before_any (phase_told p) []
said_alone Outside kept apart = refl
said_alone Asking kept apart = refl
said_alone (Fetching incarnation) kept apart = refl
said_alone (Active first) kept apart = absurd (let clash : true ≡ false = apart in cc)

-- what is said of runs that are counted is
said_counted : (modules : ℕ) (kept : MemberRecord) (p : Joiner) → All (IsCounted modules) kept.runs → All (IsCounted modules) (said_in p kept).runs
said_counted modules kept Outside counted = All-nil (IsCounted modules)
said_counted modules kept Asking counted = All-nil (IsCounted modules)
said_counted modules kept (Fetching incarnation) counted = All-nil (IsCounted modules)
said_counted modules kept (Active first) counted = counted

told_apart : (p : Joiner) → is_active (phase_told p) ≡ false → is_active p ≡ false
told_apart Outside apart = refl
told_apart Asking apart = refl
told_apart (Fetching incarnation) apart = refl
told_apart (Active first) apart = apart

module _ (d : Deployment) (b : Behaviour) (node number : ℕ) (troupe : Troupe) where
  -- a node run is evaluated, in any phase that it says
  evaluated_as : (kept : MemberRecord) (t : Trace) → IsEvaluated d b node number troupe kept t → IsEvaluatedIn d b node number troupe kept t
  evaluated_as kept t e =
      record { goes = e.goes; boots = e.ends.boots; within = e.ends.within; active = e.ends.active; from_first = e.ends.from_first; follows = e.follows; sends = e.sends }

  evaluated_there : (kept : MemberRecord) (t : Trace) → IsEvaluatedIn d b node number troupe kept t → kept.phase ≡ phase (begins d b node number troupe kept) (through d b node number troupe kept t)
      → IsEvaluated d b node number troupe kept t
  evaluated_there kept t e is =
      record { goes = e.goes; ends = record { boots = e.boots; within = e.within; phase_is = is; active = e.active; from_first = e.from_first }; follows = e.follows; sends = e.sends }

  -- one that isn't active has done nothing
  nothing_done : (kept : MemberRecord) (t : Trace) → IsEvaluated d b node number troupe kept t → is_active kept.phase ≡ false → kept ≡ before_any kept.phase b.first
  nothing_done kept t e apart =
      let p = through d b node number troupe kept t in
      let inactive = sym (ap is_active e.ends.phase_is) ∙ apart in
      let none = e.follows.inactive apart in
      let first = e.ends.from_first (not_yet (begins d b node number troupe kept) p inactive) in
      let began : state_at_activation d b node number troupe kept t ≡ b.first
      = ap (λ (o : Option (List ValueTree × ℕ)). option_map_or (λ (s : List ValueTree × ℕ). s.0) o b.first) (none_fetched (begins d b node number troupe kept) p inactive) in
      let rest = at_rest kept (state_at_activation d b node number troupe kept t) e.follows none in
      let count : kept.count ≡ 0 = rest.0 ∙ (λ j. min (first.0 j + 0) last_count) in
      (λ j. record { phase = kept.phase; from = first.0 j; active_at = first.1 j; count = count j; runs = none j; state = (rest.1 ∙ began) j })
    where
      at_rest : (kept : MemberRecord) (s : List ValueTree) → IsRecord b s kept → kept.runs ≡ [] → (kept.count ≡ count_after kept.from 0) × (kept.state ≡ s)
      at_rest kept s r none =
          elim r.now [
            | inl idle ↦ (idle.count ∙ ap (λ (l : List RunRecord). count_after kept.from (length l)) none, idle.state ∙ ap (state_after s) none)
            | inr p ↦ absurd (none_pushed p.before p.run (sym none ∙ p.runs_are))
          ]

-- ---- a record

module _ (d : Deployment) (program : List Behaviour) (given : Given) (b : Behaviour) (number : ℕ) (troupe : Troupe) (member : IsMemberAt d b given.node number troupe) (is_hosted : slice_get program number ≡ Some b)
    (events : List GivenEvent) (are : given.events ≡ events) where
  -- ---- a run has its events

  ran_so : (kept : MemberRecord) (t : Trace) → IsRunSo d b given.node number troupe kept t → ComesFromOthers d given.node t → events_in t ≡ events
      → kept.phase ≡ phase (begins d b given.node number troupe kept) (through d b given.node number troupe kept t) → JoinsSo (is_spare d given.node) given.events
      → (begun : List ValueTree) → begun ≡ state_at_activation d b given.node number troupe kept t → HasRunSo d program given kept begun
  ran_so kept t run others same is joins begun activation =
      record {
        lived = t;
        number = number;
        are = record { events = are ∙ sym same; numbered = run.numbered; joins = joins; declares = run.declares; numbers = run.numbers };
        hosts = member.hosts;
        run = record {
          troupe = troupe;
          hosted = b;
          is_troupe = member.is_troupe;
          is_hosted = is_hosted;
          is = evaluated_runs d b given.node number troupe kept t (rises t run.numbered) others (evaluated_there d b given.node number troupe kept t run.evaluated is);
        };
        activation = activation;
      }

  -- of an active member
  pub ran_active : (said : MemberRecord) → is_active said.phase ≡ true → JoinsSo (is_spare d given.node) given.events → (begun : List ValueTree)
      → HasRunThrough d b given.node number troupe said events begun → HasRunSo d program given said begun
  ran_active said active joins begun r =
      let q = phase (begins d b given.node number troupe said) (through d b given.node number troupe said r.lived) in
      ran_so said r.lived r.run r.others r.events_are (r.phase_is ∙ active_told q (sym (ap is_active r.phase_is) ∙ active)) joins begun r.begun_is

  -- of another one
  pub ran_apart : (said : MemberRecord) → given.member ≡ Some said → is_active said.phase ≡ false → said ≡ before_any said.phase [] → JoinsSo (is_spare d given.node) given.events
      → (begun : List ValueTree) → HasRunThrough d b given.node number troupe (before_any said.phase b.first) events begun → IsAudited d program given × StandsWhereActive d program given
  ran_apart said member_is apart alone joins begun r =
      said_apart d program given whole (state_at_activation d b given.node number troupe whole r.lived)
      (ran_so whole r.lived run r.others r.events_are (sym (ap (phase (begins d b given.node number troupe whole)) past)) joins (state_at_activation d b given.node number troupe whole r.lived) refl) said member_is
      (alone ∙ (λ j. before_any (r.phase_is j) []) ∙ sym (said_alone q whole (sym (ap is_active r.phase_is) ∙ apart))) apart
    where
      none : MemberRecord
      none = before_any said.phase b.first

      q : Joiner
      q = phase (begins d b given.node number troupe none) (through d b given.node number troupe none r.lived)

      whole : MemberRecord
      whole = record none { phase = q }

      past : through d b given.node number troupe whole r.lived ≡ through d b given.node number troupe none r.lived
      past = past_in_phase d b given.node number troupe none q r.lived

      run : IsRunSo d b given.node number troupe whole r.lived
      run =
          record {
            numbered = r.run.numbered;
            declares = r.run.declares;
            numbers = r.run.numbers;
            evaluated = in_phase d b given.node number troupe none q r.lived (rises r.lived r.run.numbered) refl r.run.evaluated;
          }

  -- ---- no run has

  record IsTrue (a : IsAudited d program given) : Type 0 where
    pub kept : MemberRecord
    pub run : IsNodeRun d b given.node number troupe a.lived kept
    pub is : IsEvaluated d b given.node number troupe kept a.lived
    pub says : given.member ≡ Some (said_of kept)

  true_of : (a : IsAudited d program given) → IsTrue a
  true_of a = by_run (subst (λ o. HasRunAt d program given.node o a.lived given.member given.views) member.hosts a.is.run)
    where
      by_run : HasRun d program given.node number a.lived given.member → IsTrue a
      by_run h =
          let troupe_is : h.run.troupe ≡ troupe = same_Some h.run.troupe troupe (sym h.run.is_troupe ∙ member.is_troupe) in
          let hosted_is : h.run.hosted ≡ b = same_Some h.run.hosted b (sym h.run.is_hosted ∙ is_hosted) in
          let run : IsNodeRun d b given.node number troupe a.lived h.kept =
          subst (λ x. IsNodeRun d x given.node number troupe a.lived h.kept) hosted_is
          (subst (λ x. IsNodeRun d h.run.hosted given.node number x a.lived h.kept) troupe_is h.run.is) in
          record { kept = h.kept; run = run; is = runs_evaluate d b given.node number troupe h.kept a.lived (rises a.lived a.is.numbered) run; says = h.says }

  run_of : (a : IsAudited d program given) (kept : MemberRecord) → IsEvaluatedIn d b given.node number troupe kept a.lived → IsRunSo d b given.node number troupe kept a.lived
  run_of a kept e = record { numbered = a.is.numbered; declares = a.is.declares; numbers = a.is.numbers; evaluated = e }

  same_events : (a : IsAudited d program given) → events_in a.lived ≡ events
  same_events a = sym a.is.events ∙ are

  pub none_said : given.member ≡ None → IsAudited d program given → ⊥
  none_said none a = none_is_some (sym none ∙ (true_of a).says)

  module _ (said : MemberRecord) (member_is : given.member ≡ Some said) where
    said_is : (a : IsAudited d program given) → said ≡ said_of (true_of a).kept
    said_is a = same_Some said (said_of (true_of a).kept) (sym member_is ∙ (true_of a).says)

    told_is : (a : IsAudited d program given) → said.phase ≡ phase_told (true_of a).kept.phase
    told_is a = ap (λ (k : MemberRecord). k.phase) (said_is a) ∙ phase_said (true_of a).kept.phase (true_of a).kept refl

    -- it counts as its program does
    pub not_counted : (All (IsCounted (length d.troupes)) said.runs → ⊥) → IsAudited d program given → ⊥
    not_counted never a =
        let k = true_of a in
        never
        (subst (λ (x : MemberRecord). All (IsCounted (length d.troupes)) x.runs) (sym (said_is a))
        (said_counted (length d.troupes) k.kept k.kept.phase (runs_counted d b member.lawful given.node number troupe k.kept a.lived k.run)))

    -- of an active member
    pub none_active : is_active said.phase ≡ true → HaveNoRun d b given.node number troupe said events → IsAudited d program given → ⊥
    none_active active none a =
        let k = true_of a in
        let same : said ≡ k.kept = said_whole said k.kept (said_is a) active in
        none a.lived (run_of a said (subst (λ (x : MemberRecord). IsEvaluatedIn d b given.node number troupe x a.lived) (sym same) (evaluated_as d b given.node number troupe k.kept a.lived k.is))) (same_events a)
        (told_is a
        ∙ ap phase_told (k.is.ends.phase_is ∙ ap (λ (x : MemberRecord). phase (begins d b given.node number troupe x) (through d b given.node number troupe x a.lived)) (sym same)))

    -- of another one
    apart_kept : is_active said.phase ≡ false → (a : IsAudited d program given) → is_active (true_of a).kept.phase ≡ false
    apart_kept apart a = told_apart (true_of a).kept.phase (sym (ap is_active (told_is a)) ∙ apart)

    pub says_more : is_active said.phase ≡ false → (said ≡ before_any said.phase [] → ⊥) → IsAudited d program given → ⊥
    says_more apart more a =
        let k = true_of a in
        more (said_is a ∙ said_alone k.kept.phase k.kept (sym (ap is_active (told_is a)) ∙ apart) ∙ (λ j. before_any (sym (told_is a) j) []))

    pub none_apart : is_active said.phase ≡ false → HaveNoRun d b given.node number troupe (before_any said.phase b.first) events → IsAudited d program given → ⊥
    none_apart apart none a =
        let k = true_of a in
        let same : k.kept ≡ before_any k.kept.phase b.first = nothing_done d b given.node number troupe k.kept a.lived k.is (apart_kept apart a) in
        let e : IsEvaluatedIn d b given.node number troupe (before_any k.kept.phase b.first) a.lived =
        subst (λ (x : MemberRecord). IsEvaluatedIn d b given.node number troupe x a.lived) same (evaluated_as d b given.node number troupe k.kept a.lived k.is) in
        none a.lived (run_of a (before_any said.phase b.first) (in_phase d b given.node number troupe (before_any k.kept.phase b.first) said.phase a.lived (rises a.lived a.is.numbered) refl e)) (same_events a)
        (told_is a
        ∙ ap phase_told
        (k.is.ends.phase_is
        ∙ ap (λ (x : MemberRecord). phase (begins d b given.node number troupe x) (through d b given.node number troupe x a.lived)) same
        ∙ ap (phase (begins d b given.node number troupe (before_any k.kept.phase b.first))) (sym (past_in_phase d b given.node number troupe (before_any k.kept.phase b.first) said.phase a.lived))))
