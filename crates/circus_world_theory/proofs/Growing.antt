-- What is true of a member, of what it makes and of what happens to it stays true where more calls have been made.
use Rattle.std.proofs.Common.{ℕ, inl, inr, List}
use Rattle.std.proofs.lemmas.List.Elements.{All-weaker}
use Rattle.circus_value.specs.ValueTree.{ValueTree}
use Rattle.circus_value.specs.declared.caller.Caller.{Caller}
use Rattle.circus_header.specs.declared.call.CallHeader.{CallHeader}
use Rattle.circus_header.specs.declared.answer.Reply.{Reply}
use Rattle.circus_collate.specs.declared.giving.Said.{Said}
use Rattle.circus_model.specs.declared.history.Run.{Run}
use Rattle.circus_gather.specs.declared.held.HeldCall.{HeldCall}
use Rattle.circus_fanout.specs.Asking.{Asking}
use Rattle.circus_member_rules.specs.declared.occurrence.AskName.{AskName}
use Rattle.circus_member_rules.specs.declared.occurrence.Purpose.{Purpose}
use Rattle.circus_member_rules.specs.declared.occurrence.Purpose.TheVariants as for
use Rattle.circus_member_rules.specs.MemberState.{MemberState}
use Rattle.circus_member_theory.specs.Truth.{IsNamed, Answers, IsTrueAsking, IsCalled, IsFetch, IsTrueMember, IsTrueCallFor, IsTrueReturn}

module _ (history : List (List Run)) (troupe : ℕ) (first : List ValueTree) (Called Other : Caller → List ℕ → Type 0) where
  named_grows : (name : AskName) (header : CallHeader) (body : List ℕ) → IsNamed history troupe first Called name header body → IsNamed history troupe first Other name header body
  named_grows name header body is = record { run = is.run; ask = is.ask; there = is.there; so = is.so; client = is.client; client_index = is.client_index }

  answers_grow : (name : AskName) (reply : Reply) → Answers history troupe first Called name reply → Answers history troupe first Other name reply
  answers_grow name reply is = record { run = is.run; ask = is.ask; there = is.there; is = is.is }

  asking_grows : (name : AskName) (a : Asking) → IsTrueAsking history troupe first Called name a → IsTrueAsking history troupe first Other name a
  asking_grows name a is = record {
    named = named_grows name a.header a.body is.named;
    said = All-weaker (λ (s : Said Reply). Answers history troupe first Called name s.value) (λ (s : Said Reply). Answers history troupe first Other name s.value)
        (λ s. answers_grow name s.value) a.said is.said;
  }

  -- ---- calls out

  pub call_grows : (purpose : Purpose) (message : List ℕ) → IsTrueCallFor history troupe first Called purpose message → IsTrueCallFor history troupe first Other purpose message
  call_grows (for.Ask name server) message is = record {
    header = is.header;
    body = is.body;
    message_is = is.message_is;
    header_is = is.header_is;
    named = named_grows name is.header is.body is.named;
    server_is = is.server_is;
  }
  call_grows (for.Ring request) message is = is
  call_grows for.Fetch message is = is

  -- ---- calls in

  module _ (sender : Caller) (grows : (message : List ℕ) → Called sender message → Other sender message) where
    called_grows : (header : CallHeader) (body : List ℕ) → IsCalled history troupe first Called sender header body → IsCalled history troupe first Other sender header body
    called_grows header body is = record { true_call = is.true_call; header_is = is.header_is; server = is.server; called = grows _ is.called }

    fetch_grows : IsFetch history troupe first Called sender → IsFetch history troupe first Other sender
    fetch_grows is = (is.0, grows _ is.1)

    pub return_grows : (message : List ℕ) → IsTrueReturn history troupe first Called sender message → IsTrueReturn history troupe first Other sender message
    return_grows message (inl is) = inl (record {
      header = is.header;
      body = is.body;
      called = called_grows is.header is.body is.called;
      reply = is.reply;
      true_reply = is.true_reply;
      header_is = is.header_is;
      message_is = is.message_is;
    })
    return_grows message (inr (inl is)) = inr (inl (record {
      asked = fetch_grows is.asked;
      count = is.count;
      state = is.state;
      true_state = is.true_state;
      message_is = is.message_is;
    }))
    return_grows message (inr (inr is)) = inr (inr is)

  -- ---- the member

  pub member_grows : {M : Type 0} (m : MemberState M) → ((caller : Caller) (message : List ℕ) → Called caller message → Other caller message)
      → IsTrueMember history troupe first Called m → IsTrueMember history troupe first Other m
  member_grows m grows is = record {
    own = is.own;
    stands = is.stands;
    began = is.began;
    asks = All-weaker (λ (e : AskName × Asking). IsTrueAsking history troupe first Called e.0 e.1) (λ (e : AskName × Asking). IsTrueAsking history troupe first Other e.0 e.1)
        (λ e. asking_grows e.0 e.1) m.asks is.asks;
    held = All-weaker (λ (c : HeldCall). IsCalled history troupe first Called c.sender c.header c.body) (λ (c : HeldCall). IsCalled history troupe first Other c.sender c.header c.body)
        (λ c. called_grows c.sender (grows c.sender) c.header c.body) m.gathered.held is.held;
    replies = is.replies;
    requests = All-weaker (IsFetch history troupe first Called) (IsFetch history troupe first Other) (λ c. fetch_grows c (grows c)) m.requests is.requests;
    views = is.views;
  }
