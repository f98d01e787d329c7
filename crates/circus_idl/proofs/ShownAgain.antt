-- The tokens of an interface's text are that interface again.
use Rattle.std.proofs.Common.{◌≡◌, ℕ, List, [], ◌∷◌, ◌++◌, Result, Ok, refl, sym, ◌∙◌, ap, subst, map}
use Rattle.std.specs.Prelude.{None}
use Rattle.circus_text.specs.declared.token.Token.{Token}
use Rattle.circus_text.specs.declared.lex_fault.LexFault.{LexFault}
use Rattle.circus_text.specs.Token.{Lexeme, lexeme_of, lexemes_of, text_with_spaces, AreSpelled}
use Rattle.circus_text.specs.Division.{AreTokensOf}
use Rattle.circus_text.proofs.Divisions.{answer_one}
use Rattle.circus_text.proofs.Spaced.{spaced_read}
use Rattle.circus_syntax.specs.InterfaceTree.{InterfaceTree}
use Rattle.circus_syntax.specs.Placed.{Placed, placed_of, AreDue}
use Rattle.circus_syntax.specs.Read.{placed_from}
use Rattle.circus_syntax.proofs.Whole.{interface_one}
use Rattle.circus_syntax.specs.Spelling.{IsInterface, IsWithin, most_levels, spelling}
use Rattle.circus_idl.specs.declared.interface.Interface.{Interface}
use Rattle.circus_idl.specs.Faults.{cut_of, interface_faults}
use Rattle.circus_idl.specs.Means.{Means}
use Rattle.circus_idl.specs.Obeys.{Obeys}
use Rattle.circus_idl.specs.Shown.{lexemes}
use Rattle.circus_idl.specs.ReadAgain.{IsReadAs}
use Rattle.circus_idl.proofs.Places.{placed, lexeme_in, placed_is, are_due, are_spelled}
use Rattle.circus_idl.proofs.ObeysParts.{parts_obey}
use Rattle.circus_idl.proofs.PlainDeclared.{interface_at}
use Rattle.circus_idl.proofs.PlainGrammar.{interface_grammatical, interface_within}
use Rattle.circus_idl.proofs.PlainFaults.{interface_clean}
use Rattle.circus_idl.proofs.PlainMeaning.{interface_means, one_meant}
use Rattle.circus_idl.proofs.PlainShown.{interface_shown}

-- the tokens of what is written with spaces have its lexemes
found_lexemes : (ls : List Lexeme) (found : List Token) → AreSpelled ls → AreTokensOf (text_with_spaces ls) found → lexemes_of (text_with_spaces ls) found ≡ ls
found_lexemes ls found spelled are =
    let (others, also, read) = spaced_read ls spelled in
    ap (lexemes_of (text_with_spaces ls)) (same_tokens (answer_one (text_with_spaces ls) (Ok found) (Ok others) are also)) ∙ read
  where
    same_tokens : {ts us : List Token} → ◌≡◌ {A = Result (List Token) LexFault} (Ok ts) (Ok us) → ts ≡ us
    same_tokens same = cc

placed_lexemes : (text : List ℕ) (ts : List Token) → map lexeme_in (map (placed_of text) ts) ≡ lexemes_of text ts
placed_lexemes text [] = refl
placed_lexemes text (t ∷ ts) = ap (λ ls. lexeme_of text t ∷ ls) (placed_lexemes text ts)

-- tokens of these lexemes are these at their places
placed_at : (ts : List Placed) (ls : List Lexeme) → map lexeme_in ts ≡ ls → ts ≡ placed ls (map (λ (t : Placed). t.start) ts)
placed_at ts ls same = placed_is ts ∙ ap (λ ms. placed ms (map (λ (t : Placed). t.start) ts)) same

-- the lexemes may stand in a text
shown_spelled : (i : Interface) → Obeys i → AreSpelled (lexemes i)
shown_spelled i obeys = are_spelled (interface_shown i [] obeys (parts_obey i obeys))

pub shown_again : (i : Interface) (found : List Token) → Obeys i → AreTokensOf (text_with_spaces (lexemes i)) found
    → (tree : InterfaceTree) × IsInterface (placed_from (text_with_spaces (lexemes i)) found 0) tree × IsWithin most_levels tree
    × (interface_faults (cut_of None) tree ≡ [])
    × Means tree i × ((j : Interface) → Means tree j → j ≡ i)
shown_again i found obeys are =
    let obey = parts_obey i obeys in
    let ts = placed_from (text_with_spaces (lexemes i)) found 0 in
    let ps = map (λ (t : Placed). t.start) ts in
    let tree = interface_at i ps in
    let shown = interface_shown i ps obeys obey in
    let same = placed_at ts (lexemes i) (placed_lexemes (text_with_spaces (lexemes i)) found ∙ found_lexemes (lexemes i) found (are_spelled shown) are) in
    let means = interface_means i ps obeys obey in (
      tree,
      record { grammatical = interface_grammatical i ps obeys obey; spelled = subst (AreDue (spelling tree)) (sym same) (are_due shown) },
      interface_within i ps obey,
      interface_clean i ps obeys obey,
      means,
      λ j other. one_meant tree i j means other,
    )

-- the text has tokens, and they are the interface again
pub shown_read : (i : Interface) → Obeys i → IsReadAs (text_with_spaces (lexemes i)) i
shown_read i obeys =
    let (found, are, shown) = spaced_read (lexemes i) (shown_spelled i obeys) in
    let (tree, spelled, within, clean, means, only) = shown_again i found obeys are in
    record { found = found; tokens = are; shown = shown; tree = tree; spelled = spelled; within = within; faultless = clean; means = means; only = only }

-- what is read from these tokens is the interface, and nothing is left
pub shown_whole : (i j : Interface) (found : List Token) (own rest : List Placed) (tree : InterfaceTree) → Obeys i → AreTokensOf (text_with_spaces (lexemes i)) found
    → placed_from (text_with_spaces (lexemes i)) found 0 ≡ own ++ rest → IsInterface own tree → Means tree j → (j ≡ i) × (rest ≡ [])
shown_whole i j found own rest tree obeys are whole is means =
    let (other, also, within, clean, meant, one) = shown_again i found obeys are in
    let (none, same) = interface_one own rest tree other is (subst (λ ts. IsInterface ts other) whole also) in
    (one j (subst (λ t. Means t j) same means), none)
