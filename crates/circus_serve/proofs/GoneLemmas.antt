-- How a node goes on by two parts of the code, one behind the other.
use Rattle.std.proofs.Common.{◌≡◌, ℕ, ◌+◌, ◌<◌, ◌≤◌, List, [], ◌∷◌, ◌++◌, length, get_or, drop, Result, Ok, Err, refl, sym, ap, subst, ◌∙◌, append_assoc, append-nil}
use Rattle.std.proofs.lemmas.List.{drop_all}
use Rattle.circus_value.specs.ValueTree.{ValueTree}
use Rattle.circus_value.specs.declared.outcome.Outcome.{Outcome}
use Rattle.circus_collate.specs.declared.deployment.Deployment.{Deployment}
use Rattle.circus_collate.proofs.Going.{front}
use Rattle.circus_model.specs.NextTurn.{NextTurn}
use Rattle.circus_model.specs.declared.signature.Signature.{Signature}
use Rattle.circus_node.specs.declared.event.Event.TheVariants.{Down}
use Rattle.circus_serve.specs.declared.happening.Happening.{Happening}
use Rattle.circus_serve.specs.declared.fault.ServeFault.{ServeFault}
use Rattle.circus_serve.specs.declared.fault.ServeFault.TheVariants as fault
use Rattle.circus_serve.specs.Happened.{given_in}
use Rattle.circus_serve.specs.Serving.{Served, Progress, on, spent, happened_by, and_then, event_comes, all_declared}
use Rattle.circus_serve.specs.Outside.{Tells}
use Rattle.circus_serve.specs.Giving.{IsPart}
use Rattle.circus_serve.specs.Seen.Asking.{HasGiven}
use Rattle.circus_serve.specs.declared.serving.Serving.{Serving}
use Rattle.circus_serve.specs.Seen.Going.{served_of, GoesTo, HasGone}
use Rattle.circus_serve.proofs.GivenLemmas.{given_then, part_of_more, failed_with_more, asked_none}
use Rattle.circus_serve.proofs.HappenedLemmas.{given_in-append, Extends, then_extends, declared_extends}

then_more : {M : Type 0} (next : Served M → Progress M) → ((s : Served M) → Extends s.happened (next s)) → (before : List Happening) (progress : Progress M) (later : List Happening)
    → happened_by progress ≡ before ++ later → Extends (before ++ later) (and_then next progress)
then_more next each before progress later is =
    then_extends next each (before ++ later) progress (record { later = []; is = is ∙ sym (append-nil (before ++ later)) })

module _ {M A B : Type 0} (state : A → Served M) (after : B → Served M) (d : Deployment) where
  -- it goes on from where it went
  pub gone_then : (old mid new : Tells) (before : List Happening) (progress : Progress M) (a : A) (next : Served M → Progress M) (r : Result B ServeFault)
      → HasGone state d old mid before progress (Ok a) → HasGone after d mid new (state a).happened (next (state a)) r
      → HasGone after d old new before (and_then next progress) r
  gone_then old mid new before progress a next r first second =
      let s : Served M = state a in
      let same : and_then next progress ≡ next s = ap (and_then next) first.goes in
      let from : s.happened ≡ before ++ first.later = sym (ap happened_by first.goes) ∙ first.happened in
      record {
        later = first.later ++ second.later;
        happened = ap happened_by same ∙ second.happened ∙ ap (λ z. z ++ second.later) from ∙ append_assoc before first.later second.later;
        goes = subst (λ (p : Progress M). GoesTo after p r) (sym same) second.goes;
        given = subst (λ whole. HasGiven old new whole r) (sym (given_in-append d first.later second.later))
            (given_then old mid new (given_in d first.later) (given_in d second.later) r first.given second.given);
      }

  -- it goes on no more, where it might have gone on
  pub gone_fault : (old new : Tells) (before : List Happening) (progress : Progress M) (next : Served M → Progress M) (f : ServeFault)
      → ((s : Served M) → Extends s.happened (next s)) → HasGone state d old new before progress (Err f)
      → HasGone after d old new before (and_then next progress) (Err f)
  gone_fault old new before progress next (fault.Spent node) each gone =
      let same : and_then next progress ≡ spent node (happened_by progress) = ap (and_then next) gone.goes in
      record {
        later = gone.later;
        happened = ap happened_by same ∙ gone.happened;
        goes = same ∙ ap (λ p. spent node (happened_by p)) gone.goes ∙ ap (λ p. spent node (happened_by p)) (sym same);
        given = gone.given;
      }
  gone_fault old new before progress next fault.LinkFailed each gone =
      let more = then_more next each before progress gone.later gone.happened in
      record {
        later = gone.later ++ more.later;
        happened = more.is ∙ append_assoc before gone.later more.later;
        goes = tt;
        given = subst (λ whole. HasGiven {A = B} old new whole (Err fault.LinkFailed)) (sym (given_in-append d gone.later more.later))
            (failed_with_more A B old new (given_in d gone.later) (given_in d more.later) gone.given);
      }
  gone_fault old new before progress next fault.NoMemory each gone =
      let more = then_more next each before progress gone.later gone.happened in
      record {
        later = gone.later ++ more.later;
        happened = more.is ∙ append_assoc before gone.later more.later;
        goes = tt;
        given = subst (λ whole. IsPart old new whole) (sym (given_in-append d gone.later more.later))
            (part_of_more old new (given_in d gone.later) (given_in d more.later) gone.given);
      }

module _ {M A B : Type 0} (state : A → Served M) (after : B → Served M) (d : Deployment) where
  -- where it went, it is on its way
  pub gone_on : (old new : Tells) (before : List Happening) (progress : Progress M) (a : A) (b : B) → HasGone state d old new before progress (Ok a) → after b ≡ state a
      → HasGone after d old new before (on (after b)) (Ok b)
  gone_on old new before progress a b gone same =
      record {
        later = gone.later;
        happened = ap (λ (t : Served M). t.happened) same ∙ ap happened_by (sym gone.goes) ∙ gone.happened;
        goes = refl;
        given = gone.given;
      }

-- nothing came to it
pub gone_none : {M A : Type 0} (state : A → Served M) (d : Deployment) (t : Tells) (a : A) → HasGone state d t t (state a).happened (on (state a)) (Ok a)
gone_none state d t a = record { later = []; happened = sym (append-nil (state a).happened); goes = refl; given = asked_none t t refl refl refl }

-- ---- declarations

module _ {M P : Type 0} (declared : M → Signature) (turn : M → List ValueTree → ℕ → List ValueTree → List Outcome → NextTurn) (d : Deployment) (nodes : List ℕ) (start : Served M) where
  abbrev stepped_of : Serving M P × List ℕ → Served M
  stepped_of stepped = served_of stepped.0

  -- the first of them were declared
  pub record HasDeclared (old now : Tells) (count : ℕ) (s : Serving M P) : Type 0 where
    pub left : all_declared declared turn nodes start ≡ all_declared declared turn (drop count nodes) (served_of s)
    pub gone : HasGone served_of d old now start.happened (on (served_of s)) (Ok s)

  -- of those that are left the next one is this
  next_is : (old now : Tells) (count node : ℕ) (s : Serving M P) → HasDeclared old now count s → count < length nodes → node ≡ get_or nodes count node
      → all_declared declared turn nodes start ≡ all_declared declared turn (node ∷ drop (count + 1) nodes) (served_of s)
  next_is old now count node s so_far few is = so_far.left ∙ ap (λ xs. all_declared declared turn xs (served_of s)) (front nodes count node few is)

  pub declared_fault : (old mid new : Tells) (count node : ℕ) (s : Serving M P) (f : ServeFault) → HasDeclared old mid count s → count < length nodes → node ≡ get_or nodes count node
      → HasGone stepped_of d mid new s.log.happened (event_comes declared turn (Down node) (served_of s)) (Err f)
      → HasGone {A = Serving M P} served_of d old new start.happened (all_declared declared turn nodes start) (Err f)
  declared_fault old mid new count node s f so_far few is gone =
      let rest : List ℕ = drop (count + 1) nodes in
      subst (λ p. HasGone {A = Serving M P} served_of d old new start.happened p (Err f)) (sym (next_is old mid count node s so_far few is))
      (gone_then served_of served_of d old mid new start.happened (on (served_of s)) s (all_declared declared turn (node ∷ rest)) (Err f) so_far.gone
      (gone_fault stepped_of served_of d mid new s.log.happened (event_comes declared turn (Down node) (served_of s)) (all_declared declared turn rest) f (declared_extends declared turn rest) gone))

  pub declared_more : (old mid new : Tells) (count node : ℕ) (s t : Serving M P) (suspects : List ℕ) → HasDeclared old mid count s → count < length nodes → node ≡ get_or nodes count node
      → HasGone stepped_of d mid new s.log.happened (event_comes declared turn (Down node) (served_of s)) (Ok (t, suspects))
      → HasDeclared old new (count + 1) t
  declared_more old mid new count node s t suspects so_far few is gone =
      let rest : List ℕ = drop (count + 1) nodes in
      record {
        left = next_is old mid count node s so_far few is ∙ ap (and_then (all_declared declared turn rest)) gone.goes;
        gone = gone_on stepped_of served_of d old new start.happened (event_comes declared turn (Down node) (served_of s)) (t, suspects) t
            (gone_then served_of stepped_of d old mid new start.happened (on (served_of s)) s (event_comes declared turn (Down node)) (Ok (t, suspects)) so_far.gone gone) refl;
      }

  pub declared_all : (old new : Tells) (count : ℕ) (s : Serving M P) → HasDeclared old new count s → length nodes ≤ count
      → HasGone served_of d old new start.happened (all_declared declared turn nodes start) (Ok s)
  declared_all old new count s so_far all =
      subst (λ p. HasGone served_of d old new start.happened p (Ok s)) (sym (so_far.left ∙ ap (λ xs. all_declared declared turn xs (served_of s)) (drop_all count nodes all))) so_far.gone
