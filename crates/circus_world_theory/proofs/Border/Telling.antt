-- What a member accepts tells of nodes that host members, and a call is of who made it.
use Rattle.std.proofs.Common.{◌≡◌, ℕ, Bool, true, false, ◌&&◌, if◌then◌else◌, List, [], ◌∷◌, drop, All, Option, Some, None, refl, subst}
use Rattle.std.specs.Prelude.{option_map, option_and_then, ◌==◌}
use Rattle.std.specs.List.{list_all}
use Rattle.std.proofs.lemmas.Bool.{and_parts}
use Rattle.std.proofs.lemmas.List.Elements.{All-nil, All-cons}
use Rattle.circus_value.specs.ValueTree.{ValueTree}
use Rattle.circus_value.specs.declared.caller.Caller.{Caller}
use Rattle.circus_header.specs.declared.call.Request.{Request}
use Rattle.circus_header.specs.declared.call.Call.{Call}
use Rattle.circus_header.specs.declared.call.Call.TheVariants.{Ask, Ring, Fetch}
use Rattle.circus_header.specs.declared.answer.ReturnHeader.{ReturnHeader}
use Rattle.circus_header.specs.declared.answer.ReturnHeader.TheVariants as says
use Rattle.circus_collate.specs.Deployment.{IsDeployment}
use Rattle.circus_collate.specs.declared.deployment.Deployment.{Deployment}
use Rattle.circus_collate.specs.declared.table.Table.{Table}
use Rattle.circus_collate.specs.declared.view.Entry.{Entry}
use Rattle.circus_fanout.specs.Knowing.{Knowing, note_down as declared_of}
use Rattle.circus_model.specs.declared.signature.Signature.{Signature}
use Rattle.circus_wire.specs.declared.delivery.Heard.{Heard}
use Rattle.circus_wire.specs.declared.delivery.Heard.TheVariants.{Dropped, Taken, Called, Returned}
use Rattle.circus_member_rules.specs.declared.occurrence.AskName.{AskName}
use Rattle.circus_member_rules.specs.declared.occurrence.Purpose.{Purpose}
use Rattle.circus_member_rules.specs.declared.occurrence.Purpose.TheVariants as for
use Rattle.circus_member_rules.specs.declared.occurrence.Occurrence.{Occurrence}
use Rattle.circus_member_rules.specs.declared.occurrence.Occurrence.TheVariants as comes
use Rattle.circus_member_rules.specs.MemberState.{MemberState}
use Rattle.circus_node.specs.Headers.{call_in, return_in, table_at}
use Rattle.circus_node.specs.Bodies.{restored_in}
use Rattle.circus_node.specs.Accepting.{may_belong, may_ask, may_tell, are_distinct, taken_call, taken_reply, taken_answer, taken_table, occurrence_of_heard}
use Rattle.circus_ring.specs.RingTable.{troupe_of}
use Rattle.circus_world_theory.proofs.Border.Hosting.{Hosts, belongs_hosts}
use Rattle.circus_world_theory.proofs.Border.Reaching.{TellsOf}
use Rattle.circus_world_theory.proofs.Border.Waiting.{is_caller, one_if, calls_in}

-- how many calls of a caller are heard
abbrev pub calls_heard : Caller → Heard Purpose → ℕ
calls_heard c Dropped = 0
calls_heard c Taken = 0
calls_heard c (Called sender message) = one_if (is_caller c sender)
calls_heard c (Returned number purpose message) = 0

-- which nodes are down once something has happened
abbrev pub down_by : Occurrence → Knowing → List ℕ
down_by (comes.Asked header body sender) k = k.down
down_by (comes.Fetched incarnation sender) k = k.down
down_by (comes.Replied name from reply) k = k.down
down_by (comes.IsStale name server from incarnation) k = k.down
down_by (comes.IsBefore name from) k = k.down
down_by (comes.Told request table) k = k.down
down_by (comes.Restored state count) k = k.down
down_by (comes.Declared node) k = (declared_of k node).down
down_by comes.Joins k = k.down

-- what is accepted of what is heard
pub record IsTakenOf (d : Deployment) (heard : Heard Purpose) (o : Occurrence) : Type 0 where
  pub tells : TellsOf (Hosts d) o
  pub calls : (c : Caller) → calls_in c o ≡ calls_heard c heard
  pub knows : (k : Knowing) → down_by o k ≡ k.down

-- what an option gives, if anything, has this
abbrev Gives : {A : Type 0} → (A → Type 0) → Option A → Type 0
Gives {A} P o = (x : A) → o ≡ Some x → P x

gives_none : {A : Type 0} (P : A → Type 0) → Gives P None
gives_none P x is = cc

gives_some : {A : Type 0} (P : A → Type 0) (y : A) → P y → Gives P (Some y)
gives_some {A} P y holds x is = subst P (let same : y ≡ x = cc in same) holds

gives_then : {A B : Type 0} (P : B → Type 0) (f : A → Option B) (o : Option A) → ((x : A) → o ≡ Some x → Gives P (f x)) → Gives P (option_and_then f o)
gives_then P f None each = gives_none P
gives_then P f (Some x) each = each x refl

gives_map : {A B : Type 0} (P : B → Type 0) (f : A → B) (o : Option A) → ((x : A) → P (f x)) → Gives P (option_map f o)
gives_map P f None each = gives_none P
gives_map P f (Some x) each = gives_some P (f x) (each x)

gives_if : {A : Type 0} (P : A → Type 0) (b : Bool) (y : A) → (b ≡ true → P y) → Gives P (if b then Some y else None)
gives_if P true y holds = gives_some P y (holds refl)
gives_if P false y holds = gives_none P

all_pass : {X : Type 0} (P : X → Type 0) (p : X → Bool) (xs : List X) → ((x : X) → p x ≡ true → P x) → list_all p xs ≡ true → All P xs
all_pass P p [] each all = All-nil P
all_pass P p (x ∷ xs) each all = let parts = and_parts (p x) (list_all p xs) all in All-cons P x xs (each x parts.0) (all_pass P p xs each parts.1)

module _ (d : Deployment) (is : IsDeployment d) where
  -- a table tells of nodes of its troupe
  table_tells : (request : Request) (table : Table) → may_tell d request table ≡ true → All (λ (e : Entry). Hosts d table.view.troupe e.node) table.view.entries
  table_tells request table may =
      all_pass (λ (e : Entry). Hosts d table.view.troupe e.node) (λ (e : Entry). may_belong d table.view.troupe e.node) table.view.entries
      (λ e belongs. belongs_hosts d is table.view.troupe e.node belongs)
      (and_parts ((table.view.troupe == troupe_of request) && are_distinct table.view.entries) _ may).1

  module _ {M : Type 0} (declared : Signature) (m : MemberState M) (from : ℕ) where
    call_taken : (sender : Caller) (message : List ℕ) (call : Call) (body : List ℕ)
        → Gives (IsTakenOf d (Called sender message)) (taken_call d declared m.place.troupe sender call body)
    call_taken sender message (Ask h) body =
        gives_if (IsTakenOf d (Called sender message)) (may_ask d declared m.place.troupe sender.node h body) (comes.Asked h body sender)
        (λ may. record { tells = tt; calls = λ c. refl; knows = λ k. refl })
    call_taken sender message (Ring request) body = gives_none (IsTakenOf d (Called sender message))
    call_taken sender message (Fetch troupe incarnation) body =
        gives_if (IsTakenOf d (Called sender message)) (troupe == m.place.troupe) (comes.Fetched incarnation sender) (λ own. record { tells = tt; calls = λ c. refl; knows = λ k. refl })

    answer_taken : (number : ℕ) (purpose : Purpose) (message : List ℕ) (name : AskName) (server : ℕ) (header : ReturnHeader) (at : ℕ)
        → Gives (IsTakenOf d (Returned number purpose message)) (taken_answer d declared m name server from header at message)
    answer_taken number purpose message name server (says.Reply clock) at =
        gives_map (IsTakenOf d (Returned number purpose message)) (λ reply. comes.Replied name from reply) (taken_reply d declared m name clock at message)
        (λ reply. record { tells = tt; calls = λ c. refl; knows = λ k. refl })
    answer_taken number purpose message name server (says.Stale incarnation) at =
        gives_some (IsTakenOf d (Returned number purpose message)) (comes.IsStale name server from incarnation) (record { tells = tt; calls = λ c. refl; knows = λ k. refl })
    answer_taken number purpose message name server (says.Before start) at =
        gives_some (IsTakenOf d (Returned number purpose message)) (comes.IsBefore name from) (record { tells = tt; calls = λ c. refl; knows = λ k. refl })
    answer_taken number purpose message name server (says.Snapshot count) at = gives_none (IsTakenOf d (Returned number purpose message))
    answer_taken number purpose message name server says.Table at = gives_none (IsTakenOf d (Returned number purpose message))

    table_taken : (number : ℕ) (purpose : Purpose) (message : List ℕ) (request : Request) (header : ReturnHeader) (at : ℕ)
        → Gives (IsTakenOf d (Returned number purpose message)) (taken_table d request header at message)
    table_taken number purpose message request says.Table at =
        gives_then (IsTakenOf d (Returned number purpose message)) (λ table. if may_tell d request table then Some (comes.Told request table) else None) (table_at at message)
        (λ table there. gives_if (IsTakenOf d (Returned number purpose message)) (may_tell d request table) (comes.Told request table)
        (λ may. record { tells = table_tells request table may; calls = λ c. refl; knows = λ k. refl }))
    table_taken number purpose message request (says.Reply clock) at = gives_none (IsTakenOf d (Returned number purpose message))
    table_taken number purpose message request (says.Stale incarnation) at = gives_none (IsTakenOf d (Returned number purpose message))
    table_taken number purpose message request (says.Before start) at = gives_none (IsTakenOf d (Returned number purpose message))
    table_taken number purpose message request (says.Snapshot count) at = gives_none (IsTakenOf d (Returned number purpose message))

    pub accepted_is : (heard : Heard Purpose) (o : Occurrence) → occurrence_of_heard d declared m from heard ≡ Some o → IsTakenOf d heard o
    accepted_is Dropped = gives_none (IsTakenOf d Dropped)
    accepted_is Taken = gives_none (IsTakenOf d Taken)
    accepted_is (Called sender message) =
        gives_then (IsTakenOf d (Called sender message)) (λ (read : Call × ℕ). taken_call d declared m.place.troupe sender read.0 (drop read.1 message)) (call_in message)
        (λ read there. call_taken sender message read.0 (drop read.1 message))
    accepted_is (Returned number (for.Ask name server) message) =
        gives_then (IsTakenOf d (Returned number (for.Ask name server) message))
        (λ (read : ReturnHeader × ℕ). taken_answer d declared m name server from read.0 read.1 message) (return_in message)
        (λ read there. answer_taken number (for.Ask name server) message name server read.0 read.1)
    accepted_is (Returned number (for.Ring request) message) =
        gives_then (IsTakenOf d (Returned number (for.Ring request) message)) (λ (read : ReturnHeader × ℕ). taken_table d request read.0 read.1 message) (return_in message)
        (λ read there. table_taken number (for.Ring request) message request read.0 read.1)
    accepted_is (Returned number for.Fetch message) =
        gives_map (IsTakenOf d (Returned number for.Fetch message)) (λ (restored : List ValueTree × ℕ). comes.Restored restored.0 restored.1)
        (restored_in declared.variables declared.limit message) (λ restored. record { tells = tt; calls = λ c. refl; knows = λ k. refl })
