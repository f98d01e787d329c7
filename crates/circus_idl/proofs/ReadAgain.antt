-- Reading the text of an interface answers that interface.
use Rattle.std.proofs.Common.{◌≡◌, ℕ, ◌⊎◌, List, [], sym, ap, subst, arith, length, drop, append-nil, length-append}
use Rattle.std.proofs.lemmas.List.{length-map, length-drop}
use Rattle.circus_text.specs.declared.token.Token.{Token}
use Rattle.circus_text.specs.Token.{text_with_spaces}
use Rattle.circus_text.specs.Division.{AreTokensOf}
use Rattle.circus_syntax.specs.Placed.{placed_of}
use Rattle.circus_syntax.specs.Read.{placed_from}
use Rattle.circus_idl.specs.declared.idl_fault.IdlFault.{IdlFault}
use Rattle.circus_idl.specs.declared.idl_fault.IdlFault.TheVariants.{NoMemory}
use Rattle.circus_idl.specs.declared.interface.Interface.{Interface}
use Rattle.circus_idl.specs.Obeys.{Obeys}
use Rattle.circus_idl.specs.ReadAt.{IsReadAt, IsRefused}
use Rattle.circus_idl.specs.Shown.{lexemes}
use Rattle.circus_idl.proofs.ReadIs.{none_refused}
use Rattle.circus_idl.proofs.ShownAgain.{shown_again, shown_whole}

read_shown : (i j : Interface) (ts : List Token) (next : ℕ) → Obeys i → AreTokensOf (text_with_spaces (lexemes i)) ts → IsReadAt (text_with_spaces (lexemes i)) ts 0 j next → (j ≡ i) × (next ≡ length ts)
read_shown i j ts next obeys are is =
    let (same, none) = shown_whole i j ts is.own is.rest is.tree obeys are is.whole is.spelled is.means in
    (same, omega (arith, is.next_is, ap length is.whole, length-append is.own is.rest, ap length none, length-map (drop 0 ts) (placed_of (text_with_spaces (lexemes i))), length-drop 0 ts))

pub read_again : (text : List ℕ) (ts : List Token) (at : ℕ) (i j : Interface) (next : ℕ) → Obeys i → text ≡ text_with_spaces (lexemes i) → AreTokensOf text ts → at ≡ 0 → IsReadAt text ts at j next → (j ≡ i) × (next ≡ length ts)
read_again text ts at i j next obeys shown are first is =
    read_shown i j ts next obeys (subst (λ t. AreTokensOf t ts) shown are)
    (subst (λ t. IsReadAt t ts 0 j next) shown (subst (λ n. IsReadAt text ts n j next) first is))

shown_accepted : (i : Interface) (ts : List Token) (answer : IdlFault) → Obeys i → AreTokensOf (text_with_spaces (lexemes i)) ts → (answer ≡ NoMemory) ⊎ IsRefused (text_with_spaces (lexemes i)) ts 0 answer → answer ≡ NoMemory
shown_accepted i ts answer obeys are refused =
    let (tree, spelled, within, clean, means, one) = shown_again i ts obeys are in
    none_refused (text_with_spaces (lexemes i)) ts 0 answer (placed_from (text_with_spaces (lexemes i)) ts 0) [] tree (sym (append-nil (placed_from (text_with_spaces (lexemes i)) ts 0))) spelled within clean refused

pub accepted_again : (text : List ℕ) (ts : List Token) (at : ℕ) (i : Interface) (answer : IdlFault) → Obeys i → text ≡ text_with_spaces (lexemes i) → AreTokensOf text ts → at ≡ 0 → (answer ≡ NoMemory) ⊎ IsRefused text ts at answer → answer ≡ NoMemory
accepted_again text ts at i answer obeys shown are first refused =
    shown_accepted i ts answer obeys (subst (λ t. AreTokensOf t ts) shown are)
    (subst (λ t. (answer ≡ NoMemory) ⊎ IsRefused t ts 0 answer) shown (subst (λ n. (answer ≡ NoMemory) ⊎ IsRefused text ts n answer) first refused))
