-- The replies that are kept are those of the runs in the record, and the run that is open is its last one.
use Rattle.std.proofs.Common.{◌≡◌, ℕ, zero, suc, ◌+◌, ◌-◌, ◌<◌, ◌≤◌, ◌⊎◌, inl, inr, cond, List, [], ◌∷◌, ◌++◌, length, Some, None, refl, sym, ap, subst, ◌∙◌, arith, length-append}
use Rattle.std.specs.Prelude.{slice_get, nat_eq, min, option_map}
use Rattle.std.specs.Map.{lookup}
use Rattle.std.proofs.lemmas.Bool.{cases_lt, eq-eqb, ne_eqb}
use Rattle.std.proofs.lemmas.Option.{same_Some}
use Rattle.circus_value.specs.ValueTree.{ValueTree}
use Rattle.circus_value.specs.declared.outcome.Outcome.{Outcome}
use Rattle.circus_header.specs.declared.answer.Reply.{Reply}
use Rattle.circus_model.specs.declared.signature.Signature.{Signature}
use Rattle.circus_model.specs.NextTurn.{NextTurn}
use Rattle.circus_model.specs.Behaviour.{IsModule}
use Rattle.circus_model.proofs.Lookups.{within}
use Rattle.circus_record.specs.declared.record.AskRecord.{AskRecord}
use Rattle.circus_record.specs.declared.record.RunRecord.{RunRecord}
use Rattle.circus_record.specs.declared.record.MemberRecord.{MemberRecord}
use Rattle.circus_gather.specs.Gathering.{Gathered, reply_of}
use Rattle.circus_performing.specs.declared.start.RunStart.{RunStart}
use Rattle.circus_performing.specs.Performing.{open_ask, last_of, front_of, gone_on, begin_run, state_after, most_turns, last_count}
use Rattle.circus_performing.specs.Record.{behaviour, start_of, turns}
use Rattle.circus_performing.proofs.Ends.{front_more}
use Rattle.circus_performing.proofs.Records.{none_is_some, with_answer, answered_is}
use Rattle.circus_member_rules.specs.Rules.{index_of_last}
use Rattle.circus_member_rules.specs.MemberState.{Doing}
use Rattle.circus_member_rules.specs.Step.{reply_of_run, ended_run}
use Rattle.circus_member_rules.specs.Seen.Sound.{MayStart}
use Rattle.circus_member_rules.proofs.Entering.{HasValue, with_entered, with_answered}
use Rattle.circus_member_rules.proofs.Starting.{IsSoundNow}
use Rattle.circus_member_rules.proofs.Writing.{one_is_performing, none_is_idle}
use Rattle.circus_performing.proofs.Ends.{last_more}
use Rattle.circus_headline_theory.proofs.Owed.Going.{behaves, Keeps}

-- ---- replies by index

-- the replies of runs, the first of this index
abbrev pub numbered : ℕ → List RunRecord → List (ℕ × Reply)
numbered from [] = []
numbered from (run ∷ runs) = (from, reply_of_run run) ∷ numbered (suc from) runs

numbered-append : (from : ℕ) (runs : List RunRecord) (run : RunRecord) → numbered from (runs ++ run ∷ []) ≡ numbered from runs ++ (from + length runs, reply_of_run run) ∷ []
numbered-append from [] run = let same : from ≡ from + 0 = omega arith in ap (λ n. (n, reply_of_run run) ∷ []) same
numbered-append from (r ∷ runs) run =
    let same : suc from + length runs ≡ from + length (r ∷ runs) = omega arith in
    ap (λ l. (from, reply_of_run r) ∷ l) (numbered-append (suc from) runs run ∙ ap (λ n. numbered (suc from) runs ++ (n, reply_of_run run) ∷ []) same)

pub lookup_numbered : (from i k : ℕ) (runs : List RunRecord) → i ≡ from + k → lookup (nat_eq i) (numbered from runs) ≡ option_map reply_of_run (slice_get runs k)
lookup_numbered from i k [] is = refl
lookup_numbered from i zero (run ∷ runs) is =
    ap (λ b. cond b (Some (reply_of_run run)) (lookup (nat_eq i) (numbered (suc from) runs))) (eq-eqb i from (omega (arith, is)))
lookup_numbered from i (suc k) (run ∷ runs) is =
    ap (λ b. cond b (Some (reply_of_run run)) (lookup (nat_eq i) (numbered (suc from) runs))) (ne_eqb i from (omega (arith, is)))
    ∙ lookup_numbered (suc from) i k runs (omega (arith, is))

pub lookup_below : (from i : ℕ) (runs : List RunRecord) → i < from → lookup (nat_eq i) (numbered from runs) ≡ None
lookup_below from i [] below = refl
lookup_below from i (run ∷ runs) below =
    ap (λ b. cond b (Some (reply_of_run run)) (lookup (nat_eq i) (numbered (suc from) runs))) (ne_eqb i from (omega (arith, below)))
    ∙ lookup_below (suc from) i runs (omega (arith, below))

-- ---- what is kept

-- no run is open, and each has its reply
pub record Rests (g : Gathered) (kept : MemberRecord) : Type 0 where
  pub start : kept.from ≤ last_count
  pub few : kept.from + length kept.runs ≤ last_count + 1
  pub none_open : g.open_run ≡ None
  pub replies : g.replies ≡ numbered kept.from kept.runs

-- the last run is open, and each before it has its reply
pub record Runs (g : Gathered) (kept : MemberRecord) : Type 0 where
  pub before : List RunRecord
  pub run : RunRecord
  pub runs_are : kept.runs ≡ before ++ run ∷ []
  pub few : kept.from + length before ≤ last_count
  pub is_open : g.open_run ≡ Some (kept.from + length before)
  pub replies : g.replies ≡ numbered kept.from before

pub record IsAtRest (g : Gathered) (kept : MemberRecord) : Type 0 where
  pub no_ask : open_ask kept ≡ None
  pub rests : Rests g kept

pub record IsAtWork (g : Gathered) (kept : MemberRecord) : Type 0 where
  pub ask : AskRecord
  pub asks : open_ask kept ≡ Some ask
  pub runs : Runs g kept

-- one of the two
abbrev pub IsLinked : Gathered → MemberRecord → Type 0
IsLinked g kept = IsAtRest g kept ⊎ IsAtWork g kept

-- the next run has an index, since the last index has no reply yet
next_index : (g : Gathered) (kept : MemberRecord) → Rests g kept → kept.count ≡ min (kept.from + length kept.runs) last_count → reply_of g kept.count ≡ None → kept.from + length kept.runs ≤ last_count
next_index g kept h count fresh =
    elim (cases_lt last_count (kept.from + length kept.runs)) [ inl past ↦ absurd (performed past) | inr below ↦ below ]
  where
    performed : last_count < kept.from + length kept.runs → ⊥
    performed past =
        let start = h.start in
        let few = h.few in
        let k = last_count - kept.from in
        let there = within kept.runs k (omega arith) in
        let last : kept.count ≡ last_count = omega (arith, count, past) in
        let is : kept.count ≡ kept.from + k = omega (arith, last, start) in
        let found = ap (lookup (nat_eq kept.count)) h.replies ∙ lookup_numbered kept.from kept.count k kept.runs is ∙ ap (option_map reply_of_run) there.1 in
        none_is_some (sym fresh ∙ found)

-- the index of the last run
pub last_index : (g : Gathered) (kept : MemberRecord) (h : Runs g kept) → index_of_last kept ≡ kept.from + length h.before
last_index g kept h =
    let long = ap length h.runs_are ∙ length-append h.before (h.run ∷ []) in
    let few = h.few in
    let less : length kept.runs - 1 ≡ length h.before = omega (arith, long) in
    ap (λ n. min (kept.from + n) last_count) less ∙ omega (arith, few)

module _ {M : Type 0} (declared : M → Signature) (turn : M → List ValueTree → ℕ → List ValueTree → List Outcome → NextTurn) (first : M → List ValueTree) (lawful : (hosted : M) → IsModule (behaviour declared turn first hosted)) (step : ℕ) where
  abbrev pub IsLinkedIn : Doing M → Type 0
  IsLinkedIn d = IsLinked d.member.gathered d.member.performing.kept

  abbrev pub RunsIn : Doing M → Type 0
  RunsIn d = Runs d.member.gathered d.member.performing.kept

  enters : (d : Doing M) (start : RunStart) → IsSoundNow declared turn first lawful d.member → MayStart (declared d.member.performing.hosted) d.member start → IsLinkedIn d
      → RunsIn (record d { member = with_entered (behaves declared turn first lawful d) (lawful d.member.performing.hosted) d.member step start })
  enters d start sound may (inr w) = absurd (none_is_some (sym may.can.idle ∙ w.asks))
  enters d start sound may (inl r) =
      let b = behaves declared turn first lawful d in
      let m = d.member in
      let kept = m.performing.kept in
      let gone = gone_on step (b.turn kept.state start.procedure start.arguments) most_turns (begin_run step start) in
      let count = (none_is_idle b m.performing.began kept sound.kept may.can.idle).count in
      let few = next_index m.gathered kept r.rests count may.fresh in
      let same : kept.count ≡ kept.from + length kept.runs = omega (arith, count, few) in
      record { before = kept.runs; run = gone; runs_are = refl; few = few; is_open = ap Some same; replies = r.rests.replies }

  answers : (d : Doing M) (reply : Reply) → IsSoundNow declared turn first lawful d.member → HasValue (behaves declared turn first lawful d) d.member reply → IsLinkedIn d
      → RunsIn (record d { member = with_answered (behaves declared turn first lawful d) (lawful d.member.performing.hosted) d.member step reply })
  answers d reply sound value (inl r) = absurd (none_is_some (sym r.no_ask ∙ value.is_open))
  answers d reply sound value (inr w) =
      let b = behaves declared turn first lawful d in
      let law = lawful d.member.performing.hosted in
      let m = d.member in
      let kept = m.performing.kept in
      let began = m.performing.began in
      let p = one_is_performing b began kept sound.kept value.ask value.is_open in
      let gone = gone_on step (turns b (state_after began p.before) (start_of p.run)) most_turns (with_answer b law began kept p step reply.outcome reply.clock) in
      let r = w.runs in
      let same : r.before ≡ p.before = sym (front_more r.before r.run) ∙ ap front_of (sym r.runs_are ∙ p.runs_are) ∙ front_more p.before p.run in
      let few = r.few in
      let long : length r.before ≡ length p.before = ap length same in
      subst (Runs m.gathered) (sym (answered_is b law began kept p step reply.outcome reply.clock))
      (record {
        before = p.before;
        run = gone;
        runs_are = refl;
        few = omega (arith, few, long);
        is_open = r.is_open ∙ ap (λ n. Some (kept.from + n)) long;
        replies = r.replies ∙ ap (numbered kept.from) same;
      })

  ends : (d : Doing M) (run : RunRecord) → last_of d.member.performing.kept.runs ≡ Some run → open_ask d.member.performing.kept ≡ None → RunsIn d → IsLinkedIn (ended_run d run)
  ends d run at none r =
      let kept = d.member.performing.kept in
      let g = d.member.gathered in
      let last : Some r.run ≡ Some run = sym (ap last_of r.runs_are ∙ last_more r.before r.run) ∙ at in
      let few = r.few in
      let long = ap length r.runs_are ∙ length-append r.before (r.run ∷ []) in
      let index = last_index g kept r in
      inl (record {
        no_ask = none;
        rests = record {
          start = omega (arith, few);
          few = omega (arith, few, long);
          none_open = refl;
          replies = ap (λ i. g.replies ++ (i, reply_of_run run) ∷ []) index
              ∙ ap (λ l. l ++ (kept.from + length r.before, reply_of_run run) ∷ []) r.replies
              ∙ sym (numbered-append kept.from r.before run)
              ∙ ap (λ x. numbered kept.from (r.before ++ x ∷ [])) (sym (same_Some r.run run last))
              ∙ ap (numbered kept.from) (sym r.runs_are);
        };
      })

  pub linked_keeps : Keeps declared turn first lawful step IsLinkedIn RunsIn
  linked_keeps =
      record {
        gives = λ d sound idle h. h;
        enters = λ d start sound may none h. enters d start sound may h;
        answers = answers;
        opens = λ d run ask view turned at is there h. inr (record { ask = ask; asks = is; runs = h });
        ends = λ d run turned at none h. ends d run at none h;
      }
