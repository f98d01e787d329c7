-- Whether words are of a form can be told.
use Rattle.std.proofs.Common.{◌≡◌, ◌≢◌, ℕ, ◌^◌, ◌⊎◌, ◌∙◌, inl, inr, List, [], ◌∷◌, subst, ap, refl, arith, codes}
use Rattle.std.specs.Fmt.{decimal}
use Rattle.circus_program.specs.Form.{CommandForm, stubs, run, replay, picture, node, sample, draw, settle, place, audit, IsOfForm, IsOfNoForm}
use Rattle.circus_program.proofs.Decided.{IsDecided, decided_as, decided_both, same_bytes, Some_below, decided_number}

-- ---- so many words behind a command

abbrev Two : (List ℕ → Type 0) → List ℕ → List (List ℕ) → Type 0
Two P command words = (a : List ℕ) × (words ≡ command ∷ a ∷ []) × P a

abbrev Three : (List ℕ → List ℕ → Type 0) → List ℕ → List (List ℕ) → Type 0
Three P command words = (a : List ℕ) × (b : List ℕ) × (words ≡ command ∷ a ∷ b ∷ []) × P a b

abbrev Four : (List ℕ → List ℕ → List ℕ → Type 0) → List ℕ → List (List ℕ) → Type 0
Four P command words = (a : List ℕ) × (b : List ℕ) × (c : List ℕ) × (words ≡ command ∷ a ∷ b ∷ c ∷ []) × P a b c

decided_two : (P : List ℕ → Type 0) → ((a : List ℕ) → IsDecided (P a)) → (command : List ℕ) (words : List (List ℕ)) → IsDecided (Two P command words)
decided_two P each command (first ∷ a ∷ []) =
    decided_as _ _
    (λ (same, holds). (a, ap (λ w. w ∷ a ∷ []) same, holds))
    (λ (a', same, holds). (let word : first ≡ command = cc in let one : a' ≡ a = cc in (word, subst P one holds)))
    (decided_both _ _ (same_bytes first command) (each a))
decided_two P each command [] = inr (λ (a, same, holds). cc)
decided_two P each command (_ ∷ []) = inr (λ (a, same, holds). cc)
decided_two P each command (_ ∷ _ ∷ _ ∷ _) = inr (λ (a, same, holds). cc)

decided_three : (P : List ℕ → List ℕ → Type 0) → ((a b : List ℕ) → IsDecided (P a b)) → (command : List ℕ) (words : List (List ℕ)) → IsDecided (Three P command words)
decided_three P each command (first ∷ a ∷ b ∷ []) =
    decided_as _ _
    (λ (same, holds). (a, b, ap (λ w. w ∷ a ∷ b ∷ []) same, holds))
    (λ (a', b', same, holds). (let word : first ≡ command = cc in let one : a' ≡ a = cc in let two : b' ≡ b = cc in (word, subst (P a) two (subst (λ x. P x b') one holds))))
    (decided_both _ _ (same_bytes first command) (each a b))
decided_three P each command [] = inr (λ (a, b, same, holds). cc)
decided_three P each command (_ ∷ []) = inr (λ (a, b, same, holds). cc)
decided_three P each command (_ ∷ _ ∷ []) = inr (λ (a, b, same, holds). cc)
decided_three P each command (_ ∷ _ ∷ _ ∷ _ ∷ _) = inr (λ (a, b, same, holds). cc)

decided_four : (P : List ℕ → List ℕ → List ℕ → Type 0) → ((a b c : List ℕ) → IsDecided (P a b c)) → (command : List ℕ) (words : List (List ℕ)) → IsDecided (Four P command words)
decided_four P each command (first ∷ a ∷ b ∷ c ∷ []) =
    decided_as _ _
    (λ (same, holds). (a, b, c, ap (λ w. w ∷ a ∷ b ∷ c ∷ []) same, holds))
    (λ (a', b', c', same, holds). (let word : first ≡ command = cc in let one : a' ≡ a = cc in let two : b' ≡ b = cc in let three : c' ≡ c = cc in
    (word, subst (P a b) three (subst (λ x. P a x c') two (subst (λ x. P x b' c') one holds)))))
    (decided_both _ _ (same_bytes first command) (each a b c))
decided_four P each command [] = inr (λ (a, b, c, same, holds). cc)
decided_four P each command (_ ∷ []) = inr (λ (a, b, c, same, holds). cc)
decided_four P each command (_ ∷ _ ∷ []) = inr (λ (a, b, c, same, holds). cc)
decided_four P each command (_ ∷ _ ∷ _ ∷ []) = inr (λ (a, b, c, same, holds). cc)
decided_four P each command (_ ∷ _ ∷ _ ∷ _ ∷ _ ∷ _) = inr (λ (a, b, c, same, holds). cc)

-- ---- what the words of each form are

abbrev IsFile : List ℕ → Type 0
IsFile name = name ≢ []

file : (name : List ℕ) → IsDecided (IsFile name)
file [] = inr (λ some. some refl)
file (_ ∷ _) = inl (λ same. cc)

abbrev AreFiles : List ℕ → List ℕ → Type 0
AreFiles a b = IsFile a × IsFile b

abbrev IsSettled : List ℕ → List ℕ → Type 0
IsSettled program count = IsFile program × Some_below (λ n. count ≡ decimal n) 1000001

abbrev IsNode : List ℕ → List ℕ → List ℕ → Type 0
IsNode program name turns = IsFile program × Some_below (λ n. turns ≡ decimal n) 100001

abbrev IsSampled : List ℕ → List ℕ → List ℕ → Type 0
IsSampled program seed steps = IsFile program × (Some_below (λ n. seed ≡ decimal n) (2 ^ 64) × Some_below (λ n. steps ≡ decimal n) 200001)

module _ (words : List (List ℕ)) where
  settled : Three IsSettled (codes "settle") words → (form : CommandForm) × IsOfForm words form
  settled (program, count, spelled, (some, (n, low, is))) =
      (settle program n, record { spelled = spelled ∙ ap (λ w. codes "settle" ∷ program ∷ w ∷ []) is; in_range = (some, omega (arith, low)) })

  noded : Four IsNode (codes "node") words → (form : CommandForm) × IsOfForm words form
  noded (program, name, turns, spelled, (some, (n, low, is))) =
      (node program name n, record { spelled = spelled ∙ ap (λ w. codes "node" ∷ program ∷ name ∷ w ∷ []) is; in_range = (some, omega (arith, low)) })

  sampled : Four IsSampled (codes "sample") words → (form : CommandForm) × IsOfForm words form
  sampled (program, seed, steps, spelled, (some, ((n, low, is), (m, few, are)))) =
      (sample program n m, record { spelled = spelled ∙ ap (λ w. codes "sample" ∷ program ∷ w ∷ steps ∷ []) is ∙ ap (λ w. codes "sample" ∷ program ∷ decimal n ∷ w ∷ []) are; in_range = (some, low, omega (arith, few)) })

  drawn : Four IsSampled (codes "lines") words → (form : CommandForm) × IsOfForm words form
  drawn (program, seed, steps, spelled, (some, ((n, low, is), (m, few, are)))) =
      (draw program n m, record { spelled = spelled ∙ ap (λ w. codes "lines" ∷ program ∷ w ∷ steps ∷ []) is ∙ ap (λ w. codes "lines" ∷ program ∷ decimal n ∷ w ∷ []) are; in_range = (some, low, omega (arith, few)) })

  -- words that are of none of the forms
  of_none : (Two IsFile (codes "stubs") words → ⊥) → (Two IsFile (codes "run") words → ⊥) → (Three AreFiles (codes "replay") words → ⊥) → (Three AreFiles (codes "picture") words → ⊥) → (Four IsNode (codes "node") words → ⊥) → (Four IsSampled (codes "sample") words → ⊥) → (Four IsSampled (codes "lines") words → ⊥) → (Three IsSettled (codes "settle") words → ⊥) → (Two IsFile (codes "place") words → ⊥) → (Three AreFiles (codes "audit") words → ⊥) → IsOfNoForm words
  of_none no_stubs no_run no_replay no_picture no_node no_sample no_lines no_settle no_place no_audit = each
    where
      each : (form : CommandForm) → IsOfForm words form → ⊥
      each (stubs program) is = no_stubs (program, is.spelled, is.in_range)
      each (run program) is = no_run (program, is.spelled, is.in_range)
      each (replay program schedule) is = no_replay (program, schedule, is.spelled, is.in_range)
      each (picture program schedule) is = no_picture (program, schedule, is.spelled, is.in_range)
      each (node program name turns) is = no_node (program, name, decimal turns, is.spelled, (is.in_range.0, (turns, omega (arith, is.in_range.1), refl)))
      each (sample program seed steps) is = no_sample (program, decimal seed, decimal steps, is.spelled, (is.in_range.0, ((seed, is.in_range.1, refl), (steps, omega (arith, is.in_range.2), refl))))
      each (draw program seed steps) is = no_lines (program, decimal seed, decimal steps, is.spelled, (is.in_range.0, ((seed, is.in_range.1, refl), (steps, omega (arith, is.in_range.2), refl))))
      each (settle program deliveries) is = no_settle (program, decimal deliveries, is.spelled, (is.in_range.0, (deliveries, omega (arith, is.in_range.1), refl)))
      each (place placing) is = no_place (placing, is.spelled, is.in_range)
      each (audit program «record») is = no_audit (program, «record», is.spelled, is.in_range)

  pub decided_form : ((form : CommandForm) × IsOfForm words form) ⊎ IsOfNoForm words
  decided_form = elim (decided_two IsFile file (codes "stubs") words) [
    | inl (program, spelled, some) ↦ inl (stubs program, record { spelled = spelled; in_range = some })
    | inr no_stubs ↦ elim (decided_two IsFile file (codes "run") words) [
      | inl (program, spelled, some) ↦ inl (run program, record { spelled = spelled; in_range = some })
      | inr no_run ↦ elim (decided_three AreFiles (λ a b. decided_both _ _ (file a) (file b)) (codes "replay") words) [
        | inl (program, schedule, spelled, some) ↦ inl (replay program schedule, record { spelled = spelled; in_range = some })
        | inr no_replay ↦ elim (decided_three AreFiles (λ a b. decided_both _ _ (file a) (file b)) (codes "picture") words) [
          | inl (program, schedule, spelled, some) ↦ inl (picture program schedule, record { spelled = spelled; in_range = some })
          | inr no_picture ↦ elim (decided_four IsNode (λ a b c. decided_both _ _ (file a) (decided_number c 100001)) (codes "node") words) [
            | inl is ↦ inl (noded is)
            | inr no_node ↦ elim (decided_four IsSampled (λ a b c. decided_both _ _ (file a) (decided_both _ _ (decided_number b (2 ^ 64)) (decided_number c 200001))) (codes "sample") words) [
              | inl is ↦ inl (sampled is)
              | inr no_sample ↦ elim (decided_four IsSampled (λ a b c. decided_both _ _ (file a) (decided_both _ _ (decided_number b (2 ^ 64)) (decided_number c 200001))) (codes "lines") words) [
                | inl is ↦ inl (drawn is)
                | inr no_lines ↦ elim (decided_three IsSettled (λ a b. decided_both _ _ (file a) (decided_number b 1000001)) (codes "settle") words) [
                  | inl is ↦ inl (settled is)
                  | inr no_settle ↦ elim (decided_two IsFile file (codes "place") words) [
                    | inl (placing, spelled, some) ↦ inl (place placing, record { spelled = spelled; in_range = some })
                    | inr no_place ↦ elim (decided_three AreFiles (λ a b. decided_both _ _ (file a) (file b)) (codes "audit") words) [
                      | inl (program, «record», spelled, some) ↦ inl (audit program «record», record { spelled = spelled; in_range = some })
                      | inr no_audit ↦ inr (of_none no_stubs no_run no_replay no_picture no_node no_sample no_lines no_settle no_place no_audit)
                    ]
                  ]
                ]
              ]
            ]
          ]
        ]
      ]
    ]
  ]
