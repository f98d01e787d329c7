-- What is made of each of a list, of which the last stands behind the others; and calls that name the same view.
use Rattle.std.proofs.Common.{◌≡◌, ℕ, true, List, [], ◌∷◌, ◌++◌, length, map, nat_eq, Some, All, sym, ap, ◌∙◌, append_assoc, append-nil}
use Rattle.std.proofs.lemmas.List.{map-append}
use Rattle.std.proofs.lemmas.List.Elements.{All-pop}
use Rattle.std.proofs.lemmas.Bool.{eqb-true}
use Rattle.circus_fanout.specs.Knowing.{Knowing}
use Rattle.circus_fanout.specs.Asking.{Asking}
use Rattle.circus_fanout.specs.declared.send.Send.{Send}
use Rattle.circus_member_rules.specs.Messages.{ask_message}
use Rattle.circus_member_rules.specs.Rules.{incarnation_of, header_now}

module _ {A B : Type 0} (f : A → B) where
  pub made_of_none : (xs : List A) (old : List B) → length xs ≡ 0 → old ≡ old ++ map f xs
  made_of_none [] old is = sym (append-nil old)
  made_of_none (x ∷ xs) old is = cc

  pub made_of_last : (xs before : List A) (last : A) (old made new : List B) (y : B) → xs ≡ before ++ last ∷ [] → y ≡ f last
      → made ≡ old ++ map f before → new ≡ made ++ y ∷ [] → new ≡ old ++ map f xs
  made_of_last xs before last old made new y is this those added =
      added ∙ ap (λ m. m ++ y ∷ []) those ∙ ap (λ z. (old ++ map f before) ++ z ∷ []) this
      ∙ append_assoc old (map f before) (f last ∷ [])
      ∙ ap (λ ys. old ++ ys) (sym (map-append f before (last ∷ [])) ∙ ap (map f) (sym is))

module _ {A : Type 0} (P : A → Type 0) where
  pub holds_before : (xs before : List A) (last : A) → xs ≡ before ++ last ∷ [] → All P xs → All P before
  holds_before xs before last is all = (All-pop P xs before (Some last) is all).0

  pub holds_last : (xs before : List A) (last : A) → xs ≡ before ++ last ∷ [] → All P xs → P last
  holds_last xs before last is all = (All-pop P xs before (Some last) is all).1

-- calls of an ask that name the same view have the same bytes
pub same_bytes : (k : Knowing) (a : Asking) (other send : Send) (bytes : List ℕ) → nat_eq send.incarnation other.incarnation ≡ true
    → bytes ≡ ask_message (header_now k a other) a.body → bytes ≡ ask_message (header_now k a send) a.body
same_bytes k a other send bytes same is =
    is ∙ ap (λ n. ask_message (record a.header { client_incarnation = incarnation_of k a.header.client; server_incarnation = n }) a.body)
    (sym (eqb-true send.incarnation other.incarnation same))
