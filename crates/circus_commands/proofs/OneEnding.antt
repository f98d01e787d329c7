-- The file of a command comes to one end.
use Rattle.std.proofs.Common.{◌≡◌, ℕ, ◌<◌, inl, inr, false, List, [], ◌∷◌, ◌++◌, length, codes, refl, sym, ap, subst, ◌∙◌, arith, Result, Ok, Err}
use Rattle.std.specs.Prelude.{nat_lt, ◌==◌, ◌&&◌, All, IsTrue, count_by}
use Rattle.std.specs.Fmt.{decimal}
use Rattle.std.specs.List.{list_any}
use Rattle.std.proofs.lemmas.Bool.{or_parts, ltb-false, eq-eqb}
use Rattle.circus_text.specs.declared.token.Token.{Token}
use Rattle.circus_text.specs.declared.lex_fault.LexFault.{LexFault}
use Rattle.circus_text.proofs.Divisions.{answer_one}
use Rattle.circus_place.specs.declared.placing.Machine.{Machine}
use Rattle.circus_place.specs.declared.placing.Placing.{Placing}
use Rattle.circus_place.specs.ConditionTree.{ConditionTree, tree_of}
use Rattle.circus_place.specs.declared.place_fault.PlaceCause.{PlaceCause}
use Rattle.circus_place.specs.declared.place_fault.PlaceFault.{PlaceFault}
use Rattle.circus_place.specs.declared.place_fault.PlaceFault.TheVariants.{Refused, NoMemory}
use Rattle.circus_place.specs.Grammar.{IsPlacing}
use Rattle.circus_place.specs.Written.{PlacingTree}
use Rattle.circus_place.specs.Means.{Means}
use Rattle.circus_place.specs.ReadAs.{placed_tokens, IsReadAs, IsRefused}
use Rattle.circus_place.proofs.Whole.{placing_one}
use Rattle.circus_place.proofs.ReadIs.{accepted}
use Rattle.circus_place.proofs.OneAnswer.{one_answer}
use Rattle.circus_place.specs.Choice.{IsChoice, Satisfies, kept_by, is_before, IsBest}
use Rattle.circus_place.specs.Value.{does_hold}
use Rattle.circus_commands.specs.declared.status.Status.TheVariants.{Done, BadPlacing}
use Rattle.circus_commands.specs.declared.one_file.OneFile.{OneFile}
use Rattle.circus_commands.specs.declared.one_file.OneFile.TheVariants.{Stubs, Run, Place}
use Rattle.circus_commands.specs.Ending.{Ending}
use Rattle.circus_record.specs.Line.{line}
use Rattle.circus_commands.specs.Program.{history_lines, stubs_lines}
use Rattle.circus_commands.specs.OneFile.{IsEndOf}
use Rattle.circus_commands.proofs.OneProgram.{program_end_one, stubs_same, history_same}
use Rattle.circus_commands.specs.Placed.{refused_text, member_lines, choice_text, HasChoice, IsEndOfChoice, IsEndOfPlacing}

-- of two lists that are not before each other there is one
neither_before : (xs ys : List ℕ) → is_before xs ys ≡ false → is_before ys xs ≡ false → xs ≡ ys
neither_before [] [] first second = refl
neither_before [] (y ∷ ys) first second = cc
neither_before (x ∷ xs) [] first second = cc
neither_before (x ∷ xs) (y ∷ ys) first second =
    let (not_below, behind) = or_parts (nat_lt x y) ((x == y) && is_before xs ys) first in
    let (not_above, behind') = or_parts (nat_lt y x) ((y == x) && is_before ys xs) second in
    let same : x ≡ y = omega (arith, ltb-false x y not_below, ltb-false y x not_above) in
    let rest = neither_before xs ys (sym (ap (λ b. b && is_before xs ys) (eq-eqb x y same)) ∙ behind) (sym (ap (λ b. b && is_before ys xs) (eq-eqb y x (sym same))) ∙ behind') in
    cc

-- two placings that say the same
record SaysSame (p q : Placing) : Type 0 where
  machines : p.machines ≡ q.machines
  members : p.members ≡ q.members
  condition : tree_of p.condition ≡ tree_of q.condition
  present : p.present ≡ q.present

turned : (p q : Placing) → SaysSame p q → SaysSame q p
turned p q same = record { machines = sym same.machines; members = sym same.members; condition = sym same.condition; present = sym same.present }

module _ (p q : Placing) (same : SaysSame p q) where
  choice_same : (choice : List ℕ) → IsChoice p choice → IsChoice q choice
  choice_same choice is = record {
    whole = is.whole ∙ same.members;
    machines = subst (λ (ms : List Machine). All (λ m. m < length ms) choice) same.machines is.machines;
    distinct = is.distinct;
  }

  satisfies_same : (choice : List ℕ) → Satisfies p choice → Satisfies q choice
  satisfies_same choice holds =
      subst IsTrue (ap (λ (ms : List Machine). does_hold ms choice (tree_of p.condition)) same.machines ∙ ap (λ (t : ConditionTree). does_hold q.machines choice t) same.condition) holds

  kept_same : (choice : List ℕ) → kept_by p choice ≡ kept_by q choice
  kept_same choice = ap (λ (present : List ℕ). count_by (λ m. list_any (λ n. m == n) present) choice) same.present

  text_same : (choice : List ℕ) → choice_text p choice ≡ choice_text q choice
  text_same choice =
      ap (λ (ms : List Machine). line (codes "circus place 1") ++ member_lines ms 1 choice ++ line (codes "kept " ++ decimal (kept_by p choice))) same.machines
      ∙ ap (λ (kept : ℕ). line (codes "circus place 1") ++ member_lines q.machines 1 choice ++ line (codes "kept " ++ decimal kept)) (kept_same choice)

-- there is one best choice
best_one : (p q : Placing) → SaysSame p q → (one other : List ℕ) → IsBest p one → IsBest q other → one ≡ other
best_one p q same one other first second =
    let back = turned p q same in
    let there = choice_same p q same one first.is_choice in
    let holds = satisfies_same p q same one first.satisfies in
    let here = choice_same q p back other second.is_choice in
    let holds' = satisfies_same q p back other second.satisfies in
    let low = second.most one there holds in
    let high = first.most other here holds' in
    let equal : kept_by p one ≡ kept_by q other = omega (arith, low, high, kept_same p q same one, kept_same p q same other) in
    neither_before one other (second.first one there holds (sym (kept_same p q same one) ∙ equal))
    (first.first other here holds' (kept_same p q same other ∙ sym equal))

choice_one : (p q : Placing) → SaysSame p q → (one other : Ending) → IsEndOfChoice p one → IsEndOfChoice q other → one ≡ other
choice_one p q same one other (inl (choice, best, is)) (inl (others, also, so)) =
    let texts = text_same p q same choice ∙ ap (λ (c : List ℕ). choice_text q c) (best_one p q same choice others best also) in
    let done : List ℕ → Ending = λ t. record { status = Done; text = t } in
    is ∙ ap done texts ∙ sym so
choice_one p q same one other (inl (choice, best, is)) (inr (none, so)) =
    absurd (none choice (choice_same p q same choice best.is_choice) (satisfies_same p q same choice best.satisfies))
choice_one p q same one other (inr (none, is)) (inl (choice, best, so)) =
    let back = turned p q same in
    absurd (none choice (choice_same q p back choice best.is_choice) (satisfies_same q p back choice best.satisfies))
choice_one p q same one other (inr (none, is)) (inr (neither, so)) = is ∙ sym so

-- what a tree means says the same
meant_same : (tree : PlacingTree) (p q : Placing) → Means tree p → Means tree q → SaysSame p q
meant_same tree p q first second = record {
  machines = first.machines ∙ sym second.machines;
  members = first.members ∙ sym second.members;
  condition = first.condition ∙ sym second.condition;
  present = first.present ∙ sym second.present;
}

-- and so does what a text is read as
read_same : (text : List ℕ) (p q : Placing) → IsReadAs text p → IsReadAs text q → SaysSame p q
read_same text p q first second =
    let both : ◌≡◌ {A = Result (List Token) LexFault} (Ok first.found) (Ok second.found) = answer_one text (Ok first.found) (Ok second.found) first.tokens second.tokens in
    let found : first.found ≡ second.found = cc in
    let tree = placing_one (placed_tokens text second.found) first.tree second.tree (subst (λ (f : List Token). IsPlacing (placed_tokens text f) first.tree) found first.spelled) second.spelled in
    meant_same second.tree p q (subst (λ (t : PlacingTree). Means t p) tree first.means) second.means

-- what is read is not refused
not_both : (text : List ℕ) (p : Placing) (number : ℕ) (cause : PlaceCause) → IsReadAs text p → IsRefused text (Refused number cause) → ⊥
not_both text p number cause read refused =
    let r : Result Placing PlaceFault = Err (Refused number cause) in
    let same : Refused number cause ≡ NoMemory = accepted text r (inr refused) read.found read.tree read.short read.tokens read.spelled read.within read.faultless in
    cc

placing_one_end : (text : List ℕ) (one other : Ending) → IsEndOfPlacing text one → IsEndOfPlacing text other → one ≡ other
placing_one_end text one other (inl (p, read, is)) (inl (q, also, so)) = choice_one p q (read_same text p q read also) one other is so
placing_one_end text one other (inl (p, read, is)) (inr (number, cause, refused, so)) = absurd (not_both text p number cause read refused)
placing_one_end text one other (inr (number, cause, refused, is)) (inl (p, read, so)) = absurd (not_both text p number cause read refused)
placing_one_end text one other (inr (number, cause, refused, is)) (inr (also, another, again, so)) =
    let same = one_answer text (Refused number cause) (Refused also another) refused again in
    let numbers : number ≡ also = cc in
    let causes : cause ≡ another = cc in
    is ∙ (λ i. record { status = BadPlacing; text = refused_text (numbers i) (causes i) }) ∙ sym so

-- a text that some choice satisfies ends well
pub choice_is_done : (text : List ℕ) (ending : Ending) → IsEndOf Place text ending → HasChoice text → ending.status ≡ Done
choice_is_done text ending (inl (p, read, inl (choice, best, is))) has = ap (λ (e : Ending). e.status) is
choice_is_done text ending (inl (p, read, inr (none, is))) (q, also, (choice, there, holds)) =
    let same = read_same text q p also read in
    absurd (none choice (choice_same q p same choice there) (satisfies_same q p same choice holds))
choice_is_done text ending (inr (number, cause, refused, is)) (q, also, has) = absurd (not_both text q number cause also refused)

pub end_one : (command : OneFile) (bytes : List ℕ) (one other : Ending) → IsEndOf command bytes one → IsEndOf command bytes other → one ≡ other
end_one Stubs bytes one other is so = program_end_one stubs_lines stubs_same bytes one other is so
end_one Run bytes one other is so = program_end_one history_lines history_same bytes one other is so
end_one Place bytes one other is so = placing_one_end bytes one other is so
