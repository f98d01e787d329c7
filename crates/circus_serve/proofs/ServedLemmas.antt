-- How serving ends, behind the takes that were made.
use Rattle.std.proofs.Common.{◌≡◌, ℕ, ◌+◌, ◌<◌, ◌≤◌, List, [], ◌∷◌, ◌++◌, length, map, Result, Ok, Err, refl, sym, ap, subst, ◌∙◌, append_assoc, append-nil, length-append, arith, inl, inr}
use Rattle.std.proofs.lemmas.List.{map-append, same_from_push}
use Rattle.circus_value.specs.ValueTree.{ValueTree}
use Rattle.circus_value.specs.declared.outcome.Outcome.{Outcome}
use Rattle.circus_collate.specs.declared.deployment.Deployment.{Deployment}
use Rattle.circus_model.specs.NextTurn.{NextTurn}
use Rattle.circus_model.specs.declared.signature.Signature.{Signature}
use Rattle.circus_outside.specs.Told.{told_more}
use Rattle.circus_outside.specs.Faults.{Rose}
use Rattle.circus_outside.specs.Link.{Taken, failed, taken_of, LinkCounts, ports_after, takes_after}
use Rattle.circus_outside.specs.declared.link.LinkFault.{LinkFault}
use Rattle.circus_outside.specs.declared.link.LinkFault.TheVariants as link
use Rattle.circus_outside.specs.declared.link.TakenFrom.{TakenFrom}
use Rattle.circus_node.specs.declared.event.Give.{Give}
use Rattle.circus_node.specs.NodeState.{NodeState}
use Rattle.circus_serve.specs.declared.happening.Happening.{Happening}
use Rattle.circus_serve.specs.declared.fault.ServeFault.{ServeFault}
use Rattle.circus_serve.specs.declared.fault.ServeFault.TheVariants as fault
use Rattle.circus_serve.specs.Happened.{port_of, given_in}
use Rattle.circus_serve.specs.Serving.{Served, Progress, on, spent, happened_by, and_then, begin_serving, take_comes, all_took, serve_takes}
use Rattle.circus_serve.specs.Outside.{Tells, IsAsked}
use Rattle.circus_serve.specs.Giving.{gives_alone, IsPart}
use Rattle.circus_serve.specs.Seen.Counting.{ServeCounts}
use Rattle.circus_serve.specs.Seen.Faults.{of_link}
use Rattle.circus_serve.proofs.AskedLemmas.{told_none, told_then, asked_then}
use Rattle.circus_serve.specs.declared.serving.Serving.{Serving}
use Rattle.circus_serve.specs.Answers.{asked_of_link, WasServed, IsServed, IsPartGiven, IsAnswer}
use Rattle.circus_serve.specs.Seen.Going.{served_of, HasGone}
use Rattle.circus_serve.proofs.HappenedLemmas.{given_in-append, then_extends, took_extends, all_took-push}

-- ---- one behind another

then_none : {M : Type 0} (p : Progress M) → and_then (λ s. on s) p ≡ p
then_none (on s) = refl
then_none (spent node happened) = refl

on_before : {M : Type 0} (f : Served M → Progress M) (p : Progress M) (t : Served M) → and_then f p ≡ on t → (s : Served M) × (p ≡ on s)
on_before f (on s) t is = (s, refl)
on_before f (spent node happened) t is = cc

no_push : {A : Type 0} (xs : List A) (x : A) → [] ≡ xs ++ x ∷ [] → ⊥
no_push [] x is = cc
no_push (y ∷ ys) x is = cc

-- what was given behind what was asked for
given_behind : (old mid new : Tells) (d : Deployment) (own : ℕ) (taken : List Taken) (first given : List (ℕ × List ℕ))
    → IsAsked old mid (asked_of_link d own taken first) → IsAsked mid new (gives_alone given) → IsAsked old new (asked_of_link d own taken (first ++ given))
given_behind old mid new d own taken first given before then =
    subst (λ (t : List Taken). IsAsked old new (asked_of_link d own t (first ++ given))) (append-nil taken)
    (asked_then old mid new (asked_of_link d own taken first) (gives_alone given) before then)

-- a take behind what was asked for
take_behind : (old mid new : Tells) (d : Deployment) (own : ℕ) (taken : List Taken) (given : List (ℕ × List ℕ)) (next : Taken)
    → IsAsked old mid (asked_of_link d own taken given) → new.bound ≡ mid.bound → new.taken ≡ told_more mid.taken (next ∷ []) → new.given ≡ mid.given
    → IsAsked old new (asked_of_link d own (taken ++ next ∷ []) given)
take_behind old mid new d own taken given next before bound takes gives = (
  bound ∙ before.0,
  takes ∙ ap (λ t. told_more t (next ∷ [])) before.1 ∙ told_then old.taken taken (next ∷ []),
  gives ∙ before.2,
)

-- the port is bound
bound_first : (old new : Tells) (d : Deployment) (own : ℕ) → new.bound ≡ told_more old.bound (port_of d own ∷ []) → new.taken ≡ old.taken → new.given ≡ old.given
    → IsAsked old new (asked_of_link d own [] [])
bound_first old new d own bound taken given = (bound, taken ∙ sym (told_none old.taken), given ∙ sym (told_none old.given))

-- an answer is no fault
pub not_failed : {A : Type 0} (answer : A) → ◌≡◌ {A = Result A ServeFault} (Ok answer) (Err fault.LinkFailed) → ⊥
not_failed answer is = cc

-- where the link failed the count rose
pub rose_by : {A : Type 0} (B : Type 0) (r : Result A ServeFault) (f : LinkFault) (old new : ℕ) → r ≡ Err (of_link f) → LinkCounts {A = B} (Err f) old new → r ≡ Err fault.LinkFailed → Rose old new
rose_by B r link.Failed old new is counts why = counts
rose_by B r link.NoMemory old new is counts why = absurd cc

pub rose_then : {A : Type 0} (B : Type 0) (r : Result A ServeFault) (f : ServeFault) (old mid new : ℕ) → r ≡ Err f → mid ≡ old → ServeCounts {A = B} (Err f) mid new → r ≡ Err fault.LinkFailed → Rose old new
rose_then B r (fault.Spent node) old mid new is same counts why = absurd cc
rose_then B r fault.LinkFailed old mid new is same counts why = subst (λ count. Rose count new) same counts
rose_then B r fault.NoMemory old mid new is same counts why = absurd cc

module _ {M : Type 0} (declared : M → Signature) (turn : M → List ValueTree → ℕ → List ValueTree → List Outcome → NextTurn) where
  module _ (d : Deployment) (own : ℕ) (booted : NodeState M) (gives : List Give) where
    abbrev after : List TakenFrom → Progress M
    after takes = serve_takes declared turn d own booted gives takes

    after_none : after [] ≡ begin_serving declared turn booted gives
    after_none = then_none (begin_serving declared turn booted gives)

    after_push : (takes : List TakenFrom) (taken : TakenFrom) → after (takes ++ taken ∷ []) ≡ and_then (take_comes declared turn d own taken) (after takes)
    after_push takes taken = at (begin_serving declared turn booted gives)
      where
        at : (p : Progress M) → and_then (all_took declared turn d own (takes ++ taken ∷ [])) p ≡ and_then (take_comes declared turn d own taken) (and_then (all_took declared turn d own takes) p)
        at (on s) = all_took-push declared turn d own takes taken s
        at (spent node happened) = refl

    -- what was given by these takes stands behind what was given by those before the last
    abbrev Earlier : List TakenFrom → List (ℕ × List ℕ) → Type 0
    Earlier takes given = (first : List TakenFrom) (last : TakenFrom) → takes ≡ first ++ last ∷ []
        → (more : List (ℕ × List ℕ)) × (given ≡ given_in d (happened_by (after first)) ++ more)

    earlier_more : (takes : List TakenFrom) (given more : List (ℕ × List ℕ)) → Earlier takes given → Earlier takes (given ++ more)
    earlier_more takes given more earlier first last is =
        let before = earlier first last is in
        (before.0 ++ more, ap (λ z. z ++ more) before.1 ∙ append_assoc (given_in d (happened_by (after first))) before.0 more)

    was_served_none : WasServed declared turn d own booted gives []
    was_served_none before last is = absurd (no_push before last is)

    earlier_none : (given : List (ℕ × List ℕ)) → Earlier [] given
    earlier_none given first last is = absurd (no_push first last is)

    -- where the node is served on behind takes, it was served on before
    was_served : (takes : List TakenFrom) (s : Served M) → after takes ≡ on s → WasServed declared turn d own booted gives takes
    was_served takes s is before last whole =
        on_before (take_comes declared turn d own last) (after before) s (sym (after_push before last) ∙ sym (ap after whole) ∙ is)

    earlier_of : (takes : List TakenFrom) (s : Served M) → after takes ≡ on s → Earlier takes (given_in d s.happened)
    earlier_of takes s is first last whole =
        let so_far = then_extends (take_comes declared turn d own last) (took_extends declared turn d own last) (happened_by (after first)) (after first)
        (record { later = []; is = sym (append-nil (happened_by (after first))) }) in
        let same : s.happened ≡ happened_by (after first) ++ so_far.later = ap happened_by (sym is ∙ ap after whole ∙ after_push first last) ∙ so_far.is in
        (given_in d so_far.later, ap (given_in d) same ∙ given_in-append d (happened_by (after first)) so_far.later)

    -- and with one take more
    was_served_push : (takes : List TakenFrom) (taken : TakenFrom) (s : Served M) → after takes ≡ on s → WasServed declared turn d own booted gives (takes ++ taken ∷ [])
    was_served_push takes taken s is before last whole = (s, ap after (sym (same_from_push takes before taken last whole).0) ∙ is)

    earlier_push : (takes : List TakenFrom) (taken : TakenFrom) (s : Served M) → after takes ≡ on s → Earlier (takes ++ taken ∷ []) (given_in d s.happened)
    earlier_push takes taken s is first last whole =
        ([], ap (λ p. given_in d (happened_by p)) (sym is ∙ ap after (same_from_push takes first taken last whole).0) ∙ sym (append-nil (given_in d (happened_by (after first)))))

    -- ---- faults

    -- what was given of what these takes give
    abbrev part_given : (takes : List TakenFrom) (before later : List Happening) (given rest : List (ℕ × List ℕ)) → happened_by (after takes) ≡ before ++ later → given_in d later ≡ given ++ rest
        → WasServed declared turn d own booted gives takes → Earlier takes (given_in d before)
        → IsPartGiven declared turn d own booted gives takes (given_in d before ++ given)
    part_given takes before later given rest happened is was earlier =
        record {
          before = was;
          rest = rest;
          whole = ap (given_in d) happened ∙ given_in-append d before later ∙ ap (λ z. given_in d before ++ z) is ∙ sym (append_assoc (given_in d before) given rest);
          earlier = earlier_more takes (given_in d before) given earlier;
        }

    -- a fault behind takes, of which the last one was not followed to its end
    fault_answers : {P : Type 0} (turns : ℕ) (old mid new : Tells) (takes : List TakenFrom) (before : List Happening) (f : ServeFault) → length takes ≤ turns
        → IsAsked old mid (asked_of_link d own (map taken_of takes) (given_in d before))
        → HasGone {A = Serving M P} served_of d mid new before (after takes) (Err f)
        → WasServed declared turn d own booted gives takes → Earlier takes (given_in d before)
        → IsAnswer declared turn d own booted gives turns old new (Err f)
    fault_answers turns old mid new takes before (fault.Spent node) few link gone was earlier =
        record {
          takes = takes;
          few = few;
          before = was;
          happened = happened_by (after takes);
          is = gone.goes;
          link = subst (λ given. IsAsked old new (asked_of_link d own (map taken_of takes) given)) (sym (ap (given_in d) gone.happened ∙ given_in-append d before gone.later))
              (given_behind old mid new d own (map taken_of takes) (given_in d before) (given_in d gone.later) link gone.given);
        }
    fault_answers turns old mid new takes before fault.LinkFailed few link gone was earlier =
        let part = gone.given.0 in
        inr (inr (record {
          takes = takes;
          few = few;
          given = given_in d before ++ part.given;
          part = part_given takes before gone.later part.given part.rest gone.happened part.is was earlier;
          missing = gone.given.1;
          link = given_behind old mid new d own (map taken_of takes) (given_in d before) part.given link part.link;
        }))
    fault_answers turns old mid new takes before fault.NoMemory few link gone was earlier =
        let part : IsPart mid new (given_in d gone.later) = gone.given in
        inr (record {
          takes = takes;
          few = few;
          given = given_in d before ++ part.given;
          part = part_given takes before gone.later part.given part.rest gone.happened part.is was earlier;
          link = given_behind old mid new d own (map taken_of takes) (given_in d before) part.given link part.link;
        })

    -- ---- the port is bound

    pub bind_faulted : (turns : ℕ) (old new : Tells) (f : LinkFault) (port : ℕ) → port ≡ port_of d own → new.bound ≡ ports_after {A = Unit {0}} (Err f) old.bound port → new.taken ≡ old.taken → new.given ≡ old.given
        → IsAnswer declared turn d own booted gives turns old new (Err (of_link f))
    bind_faulted turns old new link.Failed port is bound taken given =
        inl (bound_first old new d own (bound ∙ ap (λ p. told_more old.bound (p ∷ [])) is) taken given)
    bind_faulted turns old new link.NoMemory port is bound taken given = inl (λ i. record { bound = bound i; taken = taken i; given = given i })

    -- ---- the node boots

    module _ {P : Type 0} where
      -- so many takes were made, and the node is served on
      pub record HasServed (old new : Tells) (count : ℕ) (s : Serving M P) : Type 0 where
        pub takes : List TakenFrom
        pub all : length takes ≡ count
        pub is : after takes ≡ on (served_of s)
        pub link : IsAsked old new (asked_of_link d own (map taken_of takes) (given_in d s.log.happened))

      pub boot_faulted : (turns : ℕ) (old mid new : Tells) (f : ServeFault) → mid.bound ≡ told_more old.bound (port_of d own ∷ []) → mid.taken ≡ old.taken → mid.given ≡ old.given
          → HasGone {A = Serving M P} served_of d mid new [] (begin_serving declared turn booted gives) (Err f)
          → IsAnswer declared turn d own booted gives turns old new (Err f)
      boot_faulted turns old mid new f bound taken given gone =
          fault_answers turns old mid new [] [] f (omega arith) (bound_first old mid d own bound taken given)
          (subst (λ p. HasGone {A = Serving M P} served_of d mid new [] p (Err f)) (sym after_none) gone) was_served_none (earlier_none [])

      pub boot_served : (old mid new : Tells) (s : Serving M P) → mid.bound ≡ told_more old.bound (port_of d own ∷ []) → mid.taken ≡ old.taken → mid.given ≡ old.given
          → HasGone served_of d mid new [] (begin_serving declared turn booted gives) (Ok s) → HasServed old new 0 s
      boot_served old mid new s bound taken given gone =
          let same : s.log.happened ≡ gone.later = ap happened_by (sym gone.goes) ∙ gone.happened in
          record {
            takes = [];
            all = refl;
            is = after_none ∙ gone.goes;
            link = subst (λ happened. IsAsked old new (asked_of_link d own [] (given_in d happened))) (sym same)
                (given_behind old mid new d own [] [] (given_in d gone.later) (bound_first old mid d own bound taken given) gone.given);
          }

      -- ---- a take

      take_failed : (turns : ℕ) (old mid new : Tells) (count : ℕ) (s : Serving M P) → HasServed old mid count s → count < turns
          → new.bound ≡ mid.bound → new.taken ≡ told_more mid.taken (failed ∷ []) → new.given ≡ mid.given
          → IsAnswer declared turn d own booted gives turns old new (Err fault.LinkFailed)
      take_failed turns old mid new count s so_far few bound taken given =
          inr (inl (record {
            takes = so_far.takes;
            few = omega (arith, so_far.all);
            last = served_of s;
            is = so_far.is;
            link = take_behind old mid new d own (map taken_of so_far.takes) (given_in d s.log.happened) failed so_far.link bound taken given;
          }))

      take_stopped : (turns : ℕ) (old mid new : Tells) (count : ℕ) (s : Serving M P) → HasServed old mid count s → count < turns
          → new.bound ≡ mid.bound → new.taken ≡ mid.taken → new.given ≡ mid.given
          → IsAnswer declared turn d own booted gives turns old new (Err fault.NoMemory)
      take_stopped turns old mid new count s so_far few bound taken given =
          inr (record {
            takes = so_far.takes;
            few = omega (arith, so_far.all);
            given = given_in d s.log.happened;
            part = record {
              before = was_served so_far.takes (served_of s) so_far.is;
              rest = [];
              whole = ap (λ p. given_in d (happened_by p)) so_far.is ∙ sym (append-nil (given_in d s.log.happened));
              earlier = earlier_of so_far.takes (served_of s) so_far.is;
            };
            link = (bound ∙ so_far.link.0, taken ∙ so_far.link.1, given ∙ so_far.link.2);
          })

      pub take_faulted : (turns : ℕ) (old mid new : Tells) (count : ℕ) (s : Serving M P) (f : LinkFault) → HasServed old mid count s → count < turns
          → new.bound ≡ mid.bound → new.taken ≡ takes_after (Err f) mid.taken → new.given ≡ mid.given
          → IsAnswer declared turn d own booted gives turns old new (Err (of_link f))
      take_faulted turns old mid new count s link.Failed so_far few bound taken given = take_failed turns old mid new count s so_far few bound taken given
      take_faulted turns old mid new count s link.NoMemory so_far few bound taken given = take_stopped turns old mid new count s so_far few bound taken given

      -- the takes with one more
      taken_behind : (old mid new : Tells) (count : ℕ) (s : Serving M P) (taken : TakenFrom) (so_far : HasServed old mid count s)
          → new.bound ≡ mid.bound → new.taken ≡ told_more mid.taken (taken_of taken ∷ []) → new.given ≡ mid.given
          → IsAsked old new (asked_of_link d own (map taken_of (so_far.takes ++ taken ∷ [])) (given_in d s.log.happened))
      taken_behind old mid new count s taken so_far bound takes given =
          subst (λ t. IsAsked old new (asked_of_link d own t (given_in d s.log.happened))) (sym (map-append taken_of so_far.takes (taken ∷ [])))
          (take_behind old mid new d own (map taken_of so_far.takes) (given_in d s.log.happened) (taken_of taken) so_far.link bound takes given)

      goes_by : (old mid : Tells) (count : ℕ) (s : Serving M P) (taken : TakenFrom) (so_far : HasServed old mid count s)
          → after (so_far.takes ++ taken ∷ []) ≡ take_comes declared turn d own taken (served_of s)
      goes_by old mid count s taken so_far = after_push so_far.takes taken ∙ ap (and_then (take_comes declared turn d own taken)) so_far.is

      pub turn_faulted : (turns : ℕ) (old mid between new : Tells) (count : ℕ) (s : Serving M P) (taken : TakenFrom) (f : ServeFault) → HasServed old mid count s → count < turns
          → between.bound ≡ mid.bound → between.taken ≡ told_more mid.taken (taken_of taken ∷ []) → between.given ≡ mid.given
          → HasGone {A = Serving M P} served_of d between new s.log.happened (take_comes declared turn d own taken (served_of s)) (Err f)
          → IsAnswer declared turn d own booted gives turns old new (Err f)
      turn_faulted turns old mid between new count s taken f so_far few bound takes given gone =
          fault_answers turns old between new (so_far.takes ++ taken ∷ []) s.log.happened f (omega (arith, so_far.all, length-append so_far.takes (taken ∷ [])))
          (taken_behind old mid between count s taken so_far bound takes given)
          (subst (λ p. HasGone {A = Serving M P} served_of d between new s.log.happened p (Err f)) (sym (goes_by old mid count s taken so_far)) gone)
          (was_served_push so_far.takes taken (served_of s) so_far.is) (earlier_push so_far.takes taken (served_of s) so_far.is)

      pub turn_served : (old mid between new : Tells) (count : ℕ) (s t : Serving M P) (taken : TakenFrom) → HasServed old mid count s
          → between.bound ≡ mid.bound → between.taken ≡ told_more mid.taken (taken_of taken ∷ []) → between.given ≡ mid.given
          → HasGone served_of d between new s.log.happened (take_comes declared turn d own taken (served_of s)) (Ok t)
          → HasServed old new (count + 1) t
      turn_served old mid between new count s t taken so_far bound takes given gone =
          let same : t.log.happened ≡ s.log.happened ++ gone.later = ap happened_by (sym gone.goes) ∙ gone.happened in
          record {
            takes = so_far.takes ++ taken ∷ [];
            all = omega (arith, so_far.all, length-append so_far.takes (taken ∷ []));
            is = goes_by old mid count s taken so_far ∙ gone.goes;
            link = subst (λ g. IsAsked old new (asked_of_link d own (map taken_of (so_far.takes ++ taken ∷ [])) g)) (sym (ap (given_in d) same ∙ given_in-append d s.log.happened gone.later))
                (given_behind old between new d own (map taken_of (so_far.takes ++ taken ∷ [])) (given_in d s.log.happened) (given_in d gone.later)
                (taken_behind old mid between count s taken so_far bound takes given) gone.given);
          }

      -- ---- all takes were made

      pub all_served : (turns : ℕ) (old new : Tells) (s : Serving M P) → HasServed old new turns s
          → IsServed declared turn d own booted gives turns old new (record { happened = s.log.happened; node = s.core })
      all_served turns old new s so_far =
          record { takes = so_far.takes; all = so_far.all; last = served_of s; is = so_far.is; happened = refl; node = refl; link = so_far.link }
