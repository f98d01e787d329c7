-- What the calls that come in keep of those that are held, and of the replies.
use Rattle.std.proofs.Common.{◌≡◌, ℕ, Bool, true, false, not, cond, true≢false, if◌then◌else◌, nat_eq, List, [], ◌∷◌, ◌++◌, filter, All, Option, Some, None, refl, sym, subst, ◌∙◌}
use Rattle.std.specs.Prelude.{max}
use Rattle.std.specs.Option.{option_map_or}
use Rattle.std.specs.Map.{lookup}
use Rattle.std.proofs.lemmas.List.Elements.{All-nil, All-cons, All-head, All-tail, All-push, All-weaker}
use Rattle.circus_header.specs.declared.call.CallHeader.{CallHeader}
use Rattle.circus_header.specs.declared.answer.Reply.{Reply}
use Rattle.circus_model.specs.declared.signature.Signature.{Signature}
use Rattle.circus_gather.specs.declared.added.Added.TheVariants as added
use Rattle.circus_gather.specs.declared.held.HeldCall.{HeldCall}
use Rattle.circus_gather.specs.Gathering.{Gathered, index_of, reply_of, answer_to, is_held, with_call, is_of_index, with_start, with_end, is_stale, with_required, is_before, with_first}
use Rattle.circus_member_rules.specs.Callable.{IsReply, AreReplies}
use Rattle.circus_member_rules.specs.Happening.{IsCallTo}
use Rattle.circus_member_rules.specs.Seen.Sound.{IsHeld, AreHeld}
use Rattle.circus_member_rules.proofs.Named.{lookup-push}

-- ---- lists

-- what holds of those that pass
pub All-passed : {X : Type 0} (P Q : X → Type 0) (p : X → Bool) (xs : List X) → ((x : X) → p x ≡ true → P x → Q x) → All P xs → All Q (filter p xs)
All-passed P Q p [] keeps all = All-nil Q
All-passed P Q p (x ∷ xs) keeps all = by_test (All-passed P Q p xs keeps (All-tail P x xs all)) (p x) refl
  where
    by_test : All Q (filter p xs) → (b : Bool) → p x ≡ b → All Q (cond b (x ∷ filter p xs) (filter p xs))
    by_test rest true is = All-cons Q x (filter p xs) (keeps x is (All-head P x xs all)) rest
    by_test rest false is = rest

-- ---- a call comes in

held_by_tests : (stale before : Bool) (reply : Option Reply) (required first : ℕ) → is_held (if stale then added.Stale required else if before then added.Before first else option_map_or added.Reply reply added.Held) ≡ true → reply ≡ None
held_by_tests true before reply required first is = cc
held_by_tests false true reply required first is = cc
held_by_tests false false None required first is = refl
held_by_tests false false (Some reply) required first is = cc

held_is_fresh : (g : Gathered) (header : CallHeader) → is_held (answer_to g header) ≡ true → reply_of g (index_of g.module header) ≡ None
held_is_fresh g header is = held_by_tests _ _ (reply_of g (index_of g.module header)) g.required g.from is

module _ (d : Signature) (troupe modules : ℕ) where
  -- where the replies and the module are the same
  held_in : (g h : Gathered) → h.module ≡ g.module → h.replies ≡ g.replies → (call : HeldCall) → IsHeld d troupe modules g call → IsHeld d troupe modules h call
  held_in g h own replies call held =
      record {
        may_run = held.may_run;
        fresh = subst (λ m. lookup (nat_eq (index_of m call.header)) h.replies ≡ None) (sym own) (subst (λ rs. lookup (nat_eq (index_of g.module call.header)) rs ≡ None) (sym replies) held.fresh);
      }

  pub held-with_call : (g : Gathered) (call : HeldCall) → IsCallTo d troupe modules call.header call.body → AreHeld d troupe modules g → AreHeld d troupe modules (with_call g call)
  held-with_call g call can held = by_test (is_held (answer_to g call.header)) refl
    where
      by_test : (b : Bool) → is_held (answer_to g call.header) ≡ b → AreHeld d troupe modules (if b then record g { held = g.held ++ call ∷ [] } else g)
      by_test true is =
          let h : Gathered = record g { held = g.held ++ call ∷ [] } in
          let new : IsHeld d troupe modules h call = record { may_run = can; fresh = held_is_fresh g call.header is } in
          All-push (IsHeld d troupe modules h) g.held call (All-weaker (IsHeld d troupe modules g) (IsHeld d troupe modules h) (held_in g h refl refl) g.held held) new
      by_test false is = held

  -- ---- those that pass a test are left

  pub held-with_required : (g : Gathered) (incarnation : ℕ) → AreHeld d troupe modules g → AreHeld d troupe modules (with_required g incarnation)
  held-with_required g incarnation held =
      All-passed (IsHeld d troupe modules g) (IsHeld d troupe modules (with_required g incarnation)) (λ c. not (is_stale g (max g.required incarnation) c)) g.held (λ c _. held_in g (with_required g incarnation) refl refl c) held

  pub held-with_first : (g : Gathered) (first : ℕ) → AreHeld d troupe modules g → AreHeld d troupe modules (with_first g first)
  held-with_first g first held =
      All-passed (IsHeld d troupe modules g) (IsHeld d troupe modules (with_first g first)) (λ c. not (is_before g first c)) g.held (λ c _. held_in g (with_first g first) refl refl c) held

  pub held-with_start : (g : Gathered) (index : ℕ) → AreHeld d troupe modules g → AreHeld d troupe modules (with_start g index)
  held-with_start g index held = All-weaker (IsHeld d troupe modules g) (IsHeld d troupe modules (with_start g index)) (held_in g (with_start g index) refl refl) g.held held

  -- ---- a run ends

  other_index : (own index : ℕ) (call : HeldCall) → not (is_of_index own index call) ≡ true → nat_eq (index_of own call.header) index ≡ false
  other_index own index call is = by_test (nat_eq (index_of own call.header) index) refl
    where
      by_test : (b : Bool) → nat_eq (index_of own call.header) index ≡ b → nat_eq (index_of own call.header) index ≡ false
      by_test true same = absurd (true≢false (sym (rw same at is)))
      by_test false same = same

  pub held-with_end : (g : Gathered) (index : ℕ) (reply : Reply) → AreHeld d troupe modules g → AreHeld d troupe modules (with_end g index reply)
  held-with_end g index reply held =
      All-passed (IsHeld d troupe modules g) (IsHeld d troupe modules (with_end g index reply)) (λ c. not (is_of_index g.module index c)) g.held left held
    where
      left : (c : HeldCall) → not (is_of_index g.module index c) ≡ true → IsHeld d troupe modules g c → IsHeld d troupe modules (with_end g index reply) c
      left c other h =
          record {
            may_run = h.may_run;
            fresh = lookup-push (nat_eq (index_of g.module c.header)) g.replies (index, reply) ∙ rw (h.fresh, other_index g.module index c other) refl;
          }

-- ---- replies

pub replies-with_end : (g : Gathered) (index : ℕ) (reply : Reply) → IsReply reply → AreReplies g.replies → AreReplies (with_end g index reply).replies
replies-with_end g index reply is all = All-push (λ (kept : ℕ × Reply). IsReply kept.1) g.replies (index, reply) all is

called_tests : (g : Gathered) (call : HeldCall) (b : Bool) → let h : Gathered = if b then record g { held = g.held ++ call ∷ [] } else g in (h.module ≡ g.module) × (h.replies ≡ g.replies)
called_tests g call true = (refl, refl)
called_tests g call false = (refl, refl)

-- a call changes neither the module nor the replies
pub called_same : (g : Gathered) (call : HeldCall) → ((with_call g call).module ≡ g.module) × ((with_call g call).replies ≡ g.replies)
called_same g call = called_tests g call (is_held (answer_to g call.header))
