-- What is accepted of a return to an ask can happen.
use Rattle.std.proofs.Common.{◌≡◌, ℕ, true, Option, None, Some, refl, sym, subst, ◌∙◌}
use Rattle.std.specs.Prelude.{length, IfSome}
use Rattle.std.specs.Option.{option_map_or}
use Rattle.std.proofs.lemmas.Option.{IfSome_then}
use Rattle.circus_collate.specs.declared.deployment.Deployment.{Deployment}
use Rattle.circus_fanout.specs.Asking.{Asking}
use Rattle.circus_header.specs.declared.answer.Reply.{Reply}
use Rattle.circus_model.specs.Lawful.{import_answers}
use Rattle.circus_model.specs.declared.signature.Signature.{Signature}
use Rattle.circus_member_rules.specs.Happening.{CanHappen, IsReplyTo}
use Rattle.circus_member_rules.specs.MemberState.{MemberState}
use Rattle.circus_member_rules.specs.OpenAsks.{asking_of}
use Rattle.circus_member_rules.specs.declared.occurrence.AskName.{AskName}
use Rattle.circus_member_rules.specs.declared.occurrence.Occurrence.{Occurrence}
use Rattle.circus_member_rules.specs.declared.occurrence.Occurrence.TheVariants as comes
use Rattle.circus_node.specs.Accepting.{IsMemberOf, recorded_ask, called_by}
use Rattle.circus_node.specs.Seen.Can.{IsReplyOf, IsSaidRightly, IsReturnedRightly}
use Rattle.circus_node.specs.declared.program.Callee.{Callee}

-- to a member that looks it up among its open asks
module _ {M : Type 0} (d : Deployment) (declared : Signature) (m : MemberState M) (is : IsMemberOf d m) (name : AskName) where
  reply_can : (reply : Reply) → IsReplyOf declared (length d.troupes) (called_by m name) reply → IfSome (asking_of m.asks name) (IsReplyTo declared (length m.known.views) reply)
  reply_can reply r = by_ask (asking_of m.asks name) refl
    where
      by_ask : (a : Option Asking) → asking_of m.asks name ≡ a → IfSome a (IsReplyTo declared (length m.known.views) reply)
      by_ask None found = tt
      by_ask (Some a) found =
          record {
            counts = r.counts ∙ sym is.views;
            fits =
                subst (λ (o : Option Asking).
                IfSome (option_map_or (λ (x : Asking). let c : Option Callee = Some (record { troupe = x.header.server; procedure = x.header.procedure }) in c) o (recorded_ask m.performing.kept name))
                (λ (c : Callee). import_answers declared.imports c.troupe c.procedure reply.outcome ≡ true)) found r.fits;
          }

  said_can : (o : Occurrence) → IsSaidRightly declared (length d.troupes) (called_by m name) name o → CanHappen declared m o
  said_can (comes.Asked header body sender) so = absurd so
  said_can (comes.Fetched incarnation sender) so = absurd so
  said_can (comes.Replied other from reply) so =
      subst (λ n. IfSome (asking_of m.asks n) (IsReplyTo declared (length m.known.views) reply)) (sym so.0) (reply_can reply so.1)
  said_can (comes.IsStale other server from incarnation) so = tt
  said_can (comes.IsBefore other from) so = tt
  said_can (comes.Told request table) so = absurd so
  said_can (comes.Restored state count) so = absurd so
  said_can (comes.Declared node) so = absurd so
  said_can comes.Joins so = absurd so

  pub answer_can : (o : Option Occurrence) → IfSome o (IsSaidRightly declared (length d.troupes) (called_by m name) name) → IfSome o (CanHappen declared m)
  answer_can o so = IfSome_then o so said_can

-- and by a record
module _ (declared : Signature) (modules : ℕ) (called : AskName → Option Callee) (name : AskName) where
  said_returned : (o : Occurrence) → IsSaidRightly declared modules (called name) name o → IsReturnedRightly declared modules called o
  said_returned (comes.Asked header body sender) so = absurd so
  said_returned (comes.Fetched incarnation sender) so = absurd so
  said_returned (comes.Replied other from reply) so = subst (λ n. IsReplyOf declared modules (called n) reply) (sym so.0) so.1
  said_returned (comes.IsStale other server from incarnation) so = tt
  said_returned (comes.IsBefore other from) so = tt
  said_returned (comes.Told request table) so = absurd so
  said_returned (comes.Restored state count) so = absurd so
  said_returned (comes.Declared node) so = absurd so
  said_returned comes.Joins so = absurd so

  pub answer_returned : (o : Option Occurrence) → IfSome o (IsSaidRightly declared modules (called name) name) → IfSome o (IsReturnedRightly declared modules called)
  answer_returned o so = IfSome_then o so said_returned
