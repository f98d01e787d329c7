-- What is left of a text that is put piece by piece.
use Rattle.std.proofs.Common.{◌≡◌, ℕ, ◌+◌, ◌<◌, Option, Some, List, [], ◌++◌, length, drop, get_or, Result, Err, inl, inr, refl, sym, ap, subst, ◌∙◌, append_assoc, append-nil, arith}
use Rattle.std.specs.Prelude.{slice_get}
use Rattle.std.specs.Result.{IsErrAnd}
use Rattle.std.proofs.lemmas.Option.{slice_get_cases}
use Rattle.circus_collate.specs.declared.deployment.Host.{Host}
use Rattle.circus_record.specs.Naming.{Names, names_of}
use Rattle.circus_world.specs.WorldState.{WorldState, Standing}
use Rattle.circus_report.specs.declared.running.RunFault.{RunFault}
use Rattle.circus_report.specs.declared.running.RunFault.TheVariants as fault
use Rattle.circus_report.specs.Report.{member_at, members_lines, ring_text, rest_text}
use Rattle.circus_report.specs.Run.{IsPut}
use Rattle.circus_report.specs.Writing.{Writes, WritesPart}
use Rattle.circus_report.proofs.LinesAdded.{member_first}
use Rattle.circus_report.proofs.PutLemmas.{at_fault}
use Rattle.circus_report.proofs.ToldLemmas.{told_more-nil, Writes-joined, WritesPart-longer, WritesPart-joined}

-- a front of the text was put, and this is left of it
pub record Leaves (old new : Option (List ℕ)) (whole left : List ℕ) : Type 0 where
  pub front : List ℕ
  pub written : Writes old new front
  pub split : front ++ left ≡ whole

-- nothing was put
pub leaves_all : (old : Option (List ℕ)) (whole : List ℕ) → Leaves old old whole whole
leaves_all old whole = record { front = []; written = told_more-nil old; split = refl }

-- all was put
pub leaves_none : (old new : Option (List ℕ)) (whole : List ℕ) → Leaves old new whole [] → Writes old new whole
leaves_none old new whole so_far = subst (Writes old new) (sym (append-nil so_far.front) ∙ so_far.split) so_far.written

module _ (old middle new : Option (List ℕ)) (whole piece left : List ℕ) (so_far : Leaves old middle whole (piece ++ left)) where
  -- a piece more was put
  pub leaves_more : Writes middle new piece → Leaves old new whole left
  leaves_more put = record {
    front = so_far.front ++ piece;
    written = Writes-joined old middle new so_far.front piece so_far.written put;
    split = append_assoc so_far.front piece left ∙ so_far.split;
  }

  -- a part of it was put
  leaves_part : WritesPart middle new piece → WritesPart old new whole
  leaves_part put = subst (WritesPart old new) so_far.split (WritesPart-joined old middle new so_far.front (piece ++ left) so_far.written (WritesPart-longer middle new piece left put))

  pub leaves_cut : {A B : Type 0} (r : Result B RunFault) (s : Result A RunFault) (f : RunFault) → IsErrAnd r (λ y. y ≡ f) → s ≡ Err f → IsPut piece middle new s → IsPut whole old new r
  leaves_cut {A} {B} r s f is at put = at_fault (IsPut whole old new) r f is (by_fault f (subst (IsPut piece middle new) at put))
    where
      by_fault : (y : RunFault) → IsPut {A = A} piece middle new (Err y) → IsPut {A = B} whole old new (Err y)
      by_fault fault.SinkFailed cut = leaves_part cut
      by_fault fault.NoMemory cut = leaves_part cut
      by_fault (fault.Illegal cause) cut = absurd cut
      by_fault (fault.Spent node peer) cut = absurd cut

module _ {M : Type 0} (names : Names) (old middle new : Option (List ℕ)) (whole : List ℕ) (n : ℕ) (hosts : List Host) (nodes : List (Standing M)) (host : Host) (below : n < length hosts) (is : host ≡ get_or hosts n host) (within : n < length nodes)
    (so_far : Leaves old middle whole (members_lines names n (drop n hosts) (drop n nodes))) where
  -- the member at the next node
  next : (s : Standing M) → slice_get nodes n ≡ Some s → Leaves old middle whole (member_at names n host s ++ members_lines names (n + 1) (drop (n + 1) hosts) (drop (n + 1) nodes))
  next s there = subst (Leaves old middle whole) (member_first names n hosts nodes host below is s there) so_far

  pub member_put : ((s : Standing M) → slice_get nodes n ≡ Some s → Writes middle new (member_at names n host s)) → Leaves old new whole (members_lines names (n + 1) (drop (n + 1) hosts) (drop (n + 1) nodes))
  member_put put =
      elim (slice_get_cases nodes n).1 [
        | inl there ↦
            leaves_more old middle new whole (member_at names n host there.0) (members_lines names (n + 1) (drop (n + 1) hosts) (drop (n + 1) nodes)) (next there.0 there.2) (put there.0 there.2)
        | inr past ↦ absurd (omega (arith, past.0, within))
      ]

  pub member_cut : {A B : Type 0} (r : Result B RunFault) (s : Result A RunFault) (f : RunFault) → IsErrAnd r (λ y. y ≡ f) → s ≡ Err f → ((t : Standing M) → slice_get nodes n ≡ Some t → IsPut (member_at names n host t) middle new s) → IsPut whole old new r
  member_cut r s f err at put =
      elim (slice_get_cases nodes n).1 [
        | inl there ↦
            leaves_cut old middle new whole (member_at names n host there.0) (members_lines names (n + 1) (drop (n + 1) hosts) (drop (n + 1) nodes)) (next there.0 there.2) r s f err at (put there.0 there.2)
        | inr past ↦ absurd (omega (arith, past.0, within))
      ]

-- ---- the texts that are put

-- a text that was added to none
pub added_alone : (bytes before after text : List ℕ) → bytes ≡ after → after ≡ before ++ text → before ≡ [] → bytes ≡ text
added_alone bytes before after text seen added none = seen ∙ added ∙ ap (λ l. l ++ text) none

-- the names of a program
pub names_same : (p : List Host × List (List ℕ)) (nodes hosts : List Host) (modules names : List (List ℕ)) → p ≡ (nodes, modules) → nodes ≡ hosts → modules ≡ names → names_of p.0 p.1 ≡ names_of hosts names
names_same p nodes hosts modules names is nodes_are names_are =
    ap (λ (q : List Host × List (List ℕ)). names_of q.0 q.1) is ∙ ap (λ ns. names_of ns modules) nodes_are ∙ ap (names_of hosts) names_are

-- the lines of the Ringmaster and of the members are all that stands behind the datagrams
pub rest_same : {M : Type 0} (own : Names) (names : List (List ℕ)) (v w : WorldState M) → own ≡ names_of v.deployment.nodes names → v ≡ w
    → ring_text own v ++ members_lines own 0 v.deployment.nodes v.nodes ≡ rest_text (names_of w.deployment.nodes names) w
rest_same own names v w own_is same = ap (λ n. rest_text n v) own_is ∙ ap (λ u. rest_text (names_of u.deployment.nodes names) u) same
