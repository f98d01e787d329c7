-- What reading a deployment answers, and where it stops.
use Rattle.std.proofs.Common.{◌≡◌, ℕ, ◌≤◌, false, List, [], ◌∷◌, ◌++◌, length, drop, refl, sym, ◌∙◌, ap, subst, arith, length-append, length-drop, append-nil}
use Rattle.std.specs.Prelude.{Option, Some, None, codes}
use Rattle.std.proofs.lemmas.List.{length-map}
use Rattle.circus_text.specs.declared.token.Token.{Token}
use Rattle.circus_syntax.specs.declared.stopping.Stop.{Stop}
use Rattle.circus_syntax.specs.declared.stopping.StopCause.{StopCause}
use Rattle.circus_syntax.specs.declared.stopping.StopCause.TheVariants.{Unexpected, TooDeep}
use Rattle.circus_syntax.specs.Placed.{Placed, placed_of, AreTokens}
use Rattle.circus_syntax.specs.Read.{placed_from}
use Rattle.circus_syntax.specs.Reader.{Reader, place_in, stop_at}
use Rattle.circus_syntax.proofs.Sound.{Sound, reader, ran_is}
use Rattle.circus_syntax.proofs.Repeats.{never_longer}
use Rattle.circus_expression.specs.Ending.{Are, IsUnexpected}
use Rattle.circus_expression.proofs.Ends.{enough, reads, read_whole, deeper_of, unexpected}
use Rattle.circus_statement.specs.StatementReading.{is_word}
use Rattle.circus_troupe.specs.declared.deployment_text.RingmasterText.{RingmasterText}
use Rattle.circus_troupe.specs.declared.deployment_text.TroupeText.{TroupeText}
use Rattle.circus_troupe.specs.declared.deployment_text.DeploymentText.{DeploymentText}
use Rattle.circus_troupe.specs.DeploymentSpelling.{spelling_deployment, IsDeploymentText}
use Rattle.circus_troupe.specs.DeploymentReading.{ringmaster, troupes, text_end, deployment}
use Rattle.circus_troupe.proofs.Deployments.{lawful_listing, deployments_lawful}

pub deployment_read : (all : List Placed) (tree : DeploymentText) (e : ℕ) → Are spelling_deployment IsDeploymentText all tree → deployment (reader None all e) ≡ (tree, reader None [] e)
deployment_read all tree e are =
    let (n, within) = enough (spelling_deployment tree) in
    ap (λ l. deployment (reader None l e)) (sym (append-nil all)) ∙ reads deployments_lawful n all [] tree e are within refl

-- and so it is in front of a token that begins no troupe, at which reading stops
pub deployment_in_front : (own left : List Placed) (t : Placed) (tree : DeploymentText) (e : ℕ) → Are spelling_deployment IsDeploymentText own tree → is_word (codes "TROUPE") t ≡ false
    → deployment (reader None (own ++ t ∷ left) e) ≡ (tree, reader (Some (stop_at Unexpected t.start)) (t ∷ left) e)
unfolding deployment text_end
deployment_in_front own left t tree e are missed =
    let (n, within) = enough (spelling_deployment tree) in
    ap (λ (x : (RingmasterText × List TroupeText) × Reader). (deployment_of x.0.0 x.0.1, (text_end x.1).1))
    ((lawful_listing n).complete.reads (tree.ringmaster, tree.troupes) own (t ∷ left) e (are.good, within) are.spelled (tt, missed))
  where
    deployment_of : RingmasterText → List TroupeText → DeploymentText
    deployment_of m ts = record { ringmaster = m; troupes = ts }

-- nothing is left where the end isn't a stop
none_left : (stop : Option Stop) (ts left : List Placed) (e end : ℕ) → (text_end (reader stop ts e)).1 ≡ reader None left end → left ≡ []
unfolding text_end
none_left (Some s) ts left e end is = let stops : Some s ≡ None = ap (λ (r : Reader). r.stop) is in cc
none_left None [] left e end is = ap (λ (r : Reader). r.rest) (sym is)
none_left None (t ∷ ts) left e end is = let stops = ap (λ (r : Reader). r.stop) is in cc

pub ended_left : (r : Reader) (left : List Placed) (e : ℕ) (tree : DeploymentText) → deployment r ≡ (tree, reader None left e) → left ≡ []
unfolding deployment
ended_left r left e tree is =
    let s = (troupes (ringmaster r).1).1 in
    none_left s.stop s.rest left s.end e (ap (λ (x : DeploymentText × Reader). x.1) is)

pub deployment_whole : (all left : List Placed) (tree : DeploymentText) (e : ℕ) → AreTokens all → deployment (reader None all e) ≡ (tree, reader None left e)
    → (left ≡ []) × Are spelling_deployment IsDeploymentText all tree
deployment_whole all left tree e tokens is =
    let (own, whole, are, within) = read_whole deployments_lawful 0 all left tree e tokens is in
    let none = ended_left (reader None all e) left e tree is in
    (none, subst (λ (ts : List Placed). Are spelling_deployment IsDeploymentText ts tree) (sym (whole ∙ ap (λ l. own ++ l) none ∙ append-nil own)) are)

-- none of its productions opens a level
never_too_deep : (ts left : List Placed) (tree : DeploymentText) (s : Stop) (e : ℕ) → deployment (reader None ts e) ≡ (tree, reader (Some s) left e) → s.cause ≡ Unexpected
never_too_deep ts left tree s e is = by_cause s.cause refl
  where
    by_cause : (cause : StopCause) → s.cause ≡ cause → cause ≡ Unexpected
    by_cause Unexpected cause_is = refl
    by_cause TooDeep cause_is =
        let (t, c, further) = (deeper_of deployments_lawful 0 2 (omega arith) ts left tree s e TooDeep cause_is is).0 in
        let longer : left ≡ t ∷ (c ++ left) = further ∙ ap (λ (x : DeploymentText × Reader). t ∷ (c ++ x.1.rest)) is in
        absurd (omega (arith, ap length longer, length-append c left))

pub deployment_stops : (ts left : List Placed) (tree : DeploymentText) (s : Stop) (e : ℕ) → AreTokens ts → deployment (reader None ts e) ≡ (tree, reader (Some s) left e)
    → IsUnexpected spelling_deployment IsDeploymentText ts left × (s.place ≡ place_in left e) × (s.cause ≡ Unexpected)
deployment_stops ts left tree s e tokens is =
    let flat = never_too_deep ts left tree s e is in
    let (stops, there) = unexpected deployments_lawful refl 0 ts left tree s e tokens is flat in
    (stops, there, flat)

-- What is read of a text.

pub sound_deployment : Sound deployment spelling_deployment IsDeploymentText
sound_deployment = (deployments_lawful 0 2 (omega arith)).narrow
