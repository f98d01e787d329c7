-- What is heard by a segment by which a message arrives.
use Rattle.std.proofs.Common.{◌≡◌, ℕ, Bool, true, false, cond, eqb, List, ◌∷◌, refl, sym, subst, ◌∙◌, if◌then◌else◌}
use Rattle.circus_segment.specs.Segment.{Piece}
use Rattle.circus_exchange.specs.Exchange.{start, takes}
use Rattle.circus_exchange.specs.declared.taken.Arrived.TheVariants.{Nothing, ArrivedCall, ArrivedReturn}
use Rattle.circus_pair.specs.Taken.{has_arrived, is_of, message_in}
use Rattle.circus_pair.specs.Acts.{Came, Acts, more, end_after, taken_by, arrives_by, arrival_by}
use Rattle.circus_pair.specs.Lawful.{AreLawful}
use Rattle.circus_pair.specs.Sending.{takes_after}
use Rattle.circus_pair.proofs.Arrivals.{arrived_other}
use Rattle.circus_pair.proofs.Dialogue.{no_arrival, is_part}
use Rattle.circus_pair.proofs.OneEnd.{arrived_stays}
use Rattle.circus_pair.proofs.Outputs.{taken_is}

-- a segment is taken by which a message arrives, and it is of that
pub record Brings (format : ℕ) (acts : Acts) (s : Piece) (kind call : ℕ) : Type 0 where
  pub taken : takes_after (start 0 format) acts s ≡ true
  pub arrival : arrival_by (taken_by (start 0 format) acts) s ≡ cond (eqb kind 0) (ArrivedCall call (message_in (s ∷ taken_by (start 0 format) acts) s.kind s.call s.total)) (ArrivedReturn call (message_in (s ∷ taken_by (start 0 format) acts) s.kind s.call s.total))

pub brings : (format : ℕ) (acts : Acts) (s : Piece) (kind call : ℕ) → AreLawful 0 format (more acts (Came s)) → has_arrived (taken_by (start 0 format) (more acts (Came s))) kind call ≡ true → has_arrived (taken_by (start 0 format) acts) kind call ≡ false
    → Brings format acts s kind call
brings format acts s kind call lawful now before = by_taken (takes (end_after (start 0 format) acts) s) refl now
  where
    ts : List Piece
    ts = taken_by (start 0 format) acts

    clash : {X : Type 0} → true ≡ false → X
    clash h = cc

    by_of : takes (end_after (start 0 format) acts) s ≡ true → has_arrived (s ∷ taken_by (start 0 format) acts) kind call ≡ true → (b : Bool) → is_of kind call s ≡ b → Brings format acts s kind call
    by_of h there false other = clash (sym there ∙ arrived_other s (taken_by (start 0 format) acts) kind call other ∙ before)
    by_of h there true of_it = by_arrives (arrives_by (taken_by (start 0 format) acts) s) refl
      where
        part : (s.kind ≡ kind) × (s.call ≡ call)
        part = (let p = is_part kind call s of_it in (p.kind_is, p.call_is))

        up : has_arrived (taken_by (start 0 format) acts) s.kind s.call ≡ true → has_arrived (s ∷ taken_by (start 0 format) acts) s.kind s.call ≡ true
        up x = subst (λ b. has_arrived (cond b (s ∷ taken_by (start 0 format) acts) (taken_by (start 0 format) acts)) s.kind s.call ≡ true) h (arrived_stays 0 format acts (Came s) s.kind s.call lawful x)

        by_arrives : (b : Bool) → arrives_by (taken_by (start 0 format) acts) s ≡ b → Brings format acts s kind call
        by_arrives false none = clash (sym there ∙ sym (no_arrival s (taken_by (start 0 format) acts) up none kind call) ∙ before)
        by_arrives true yes_ = record {
          taken = sym (taken_is 0 format acts s lawful.0 lawful.1) ∙ h;
          arrival =
              (λ i. if yes_ i then (if eqb s.kind 0 then ArrivedCall s.call (message_in (s ∷ taken_by (start 0 format) acts) s.kind s.call s.total) else ArrivedReturn s.call (message_in (s ∷ taken_by (start 0 format) acts) s.kind s.call s.total)) else Nothing)
              ∙ (λ i. cond (eqb (part.0 i) 0) (ArrivedCall (part.1 i) (message_in (s ∷ taken_by (start 0 format) acts) s.kind s.call s.total)) (ArrivedReturn (part.1 i) (message_in (s ∷ taken_by (start 0 format) acts) s.kind s.call s.total)));
        }

    by_taken : (b : Bool) → takes (end_after (start 0 format) acts) s ≡ b → has_arrived (cond (takes (end_after (start 0 format) acts) s) (s ∷ taken_by (start 0 format) acts) (taken_by (start 0 format) acts)) kind call ≡ true → Brings format acts s kind call
    by_taken false h there = clash (sym (subst (λ b. has_arrived (cond b (s ∷ taken_by (start 0 format) acts) (taken_by (start 0 format) acts)) kind call ≡ true) h there) ∙ before)
    by_taken true h there = by_of h (subst (λ b. has_arrived (cond b (s ∷ taken_by (start 0 format) acts) (taken_by (start 0 format) acts)) kind call ≡ true) h there) (is_of kind call s) refl
