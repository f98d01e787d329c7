-- What is accepted of a return by a record is what is accepted by its grammar.
use Rattle.std.proofs.Common.{◌≡◌, ℕ, List, Option, None, Some, refl, sym, ◌∙◌}
use Rattle.std.specs.Prelude.{option_and_then}
use Rattle.circus_value.specs.Parts.{AreOctets}
use Rattle.circus_header.specs.declared.answer.ReturnHeader.{ReturnHeader}
use Rattle.circus_header.specs.declared.answer.ReturnHeader.TheVariants as says
use Rattle.circus_collate.specs.declared.deployment.Deployment.{Deployment}
use Rattle.circus_model.specs.declared.signature.ProcedureShape.{ProcedureShape}
use Rattle.circus_model.specs.declared.signature.Signature.{Signature}
use Rattle.circus_record.specs.declared.record.MemberRecord.{MemberRecord}
use Rattle.circus_member_rules.specs.declared.occurrence.AskName.{AskName}
use Rattle.circus_member_rules.specs.declared.occurrence.Occurrence.{Occurrence}
use Rattle.circus_member_rules.specs.declared.occurrence.Purpose.{Purpose}
use Rattle.circus_member_rules.specs.declared.occurrence.Purpose.TheVariants as for
use Rattle.circus_member_rules.specs.Proper.{IsProperProcedure, IsProperModule}
use Rattle.circus_node.specs.Accepting.{recorded_ask, said_by}
use Rattle.circus_node.specs.Acceptance.{procedure_recorded, AcceptsReturn}
use Rattle.circus_node.specs.Headers.{return_in}
use Rattle.circus_member_theory.proofs.Accepting.Rules.{answer_by, answer_follows, answer_accepted, table_follows, table_accepted, state_follows, state_accepted}
use Rattle.circus_headline_theory.specs.NodeRun.{accepted_return}

module _ (d : Deployment) (declared : Signature) (kept : MemberRecord) (from : ℕ) (message : List ℕ) where
  -- a record takes what the procedure gives that it has for the ask
  answer_is : (name : AskName) (server : ℕ)
      → accepted_return d declared kept from (for.Ask name server) message
      ≡ option_and_then (answer_by d (procedure_recorded declared kept name) name server from message) (return_in message)
  answer_is name server = by_read (return_in message)
    where
      by_read : (r : Option (ReturnHeader × ℕ))
          → option_and_then (λ (read : ReturnHeader × ℕ). said_by d declared (recorded_ask kept name) name server from read.0 read.1 message) r
          ≡ option_and_then (answer_by d (procedure_recorded declared kept name) name server from message) r
      by_read None = refl
      by_read (Some (says.Reply clock, at)) = refl
      by_read (Some (says.Stale incarnation, at)) = refl
      by_read (Some (says.Before first, at)) = refl
      by_read (Some (says.Snapshot count, at)) = refl
      by_read (Some (says.Table, at)) = refl

  pub return_follows : (purpose : Purpose) (o : Occurrence) → AreOctets message → accepted_return d declared kept from purpose message ≡ Some o
      → AcceptsReturn d declared (procedure_recorded declared kept) from purpose message o
  return_follows (for.Ask name server) o octets is =
      answer_follows d (procedure_recorded declared kept name) name server from message o octets (sym (answer_is name server) ∙ is)
  return_follows (for.Ring request) o octets is = table_follows d request message o octets is
  return_follows for.Fetch o octets is = state_follows declared message o octets is

  pub return_accepted : (purpose : Purpose) (o : Occurrence) → IsProperModule declared
      → ((name : AskName) (p : ProcedureShape) → procedure_recorded declared kept name ≡ Some p → IsProperProcedure p)
      → AcceptsReturn d declared (procedure_recorded declared kept) from purpose message o → accepted_return d declared kept from purpose message ≡ Some o
  return_accepted (for.Ask name server) o proper called_proper a =
      answer_is name server ∙ answer_accepted d (procedure_recorded declared kept name) name server from message o (called_proper name) a
  return_accepted (for.Ring request) o proper called_proper a = table_accepted d request message o a
  return_accepted for.Fetch o proper called_proper a = state_accepted declared message o proper a
