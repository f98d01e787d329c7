-- Reading one entry of a view behind another.
use Rattle.std.proofs.Common.{◌≡◌, ◌∙◌, ℕ, zero, suc, ◌+◌, ◌-◌, ◌<◌, true, false, cond, Option, Some, None, option_map, List, [], ◌∷◌, ◌++◌, refl, sym, ap, arith, append_assoc, append-nil}
use Rattle.circus_collate.specs.declared.view.Entry.{Entry}
use Rattle.circus_value_text.specs.Reading.{is_empty}
use Rattle.circus_audit.specs.Seen.Answers.{then_read}
use Rattle.circus_audit.specs.Seen.Views.{entry_read, entries_read, entries_before}

before_more : (done : List Entry) (e : Entry) (r : Option (List Entry)) → entries_before done (option_map (λ es. e ∷ es) r) ≡ entries_before (done ++ e ∷ []) r
before_more done e (Some es) = ap (λ xs. Some xs) (sym (append_assoc done (e ∷ []) es))
before_more done e None = refl

left_is : (nodes : List (List ℕ)) (count i : ℕ) (text : List ℕ) → i < count → is_empty text ≡ false → entries_read nodes (count - i) text ≡ then_read (entry_read nodes text) (λ e rest. option_map (λ es. e ∷ es) (entries_read nodes (count - (i + 1)) rest))
left_is nodes count i text few some =
    let left : count - i ≡ suc (count - (i + 1)) = omega arith in
    ap (λ n. entries_read nodes n text) left ∙ ap (λ b. cond b (Some []) (then_read (entry_read nodes text) (λ e rest. option_map (λ es. e ∷ es) (entries_read nodes (count - (i + 1)) rest)))) some

pub entries_more : (nodes : List (List ℕ)) (count i : ℕ) (e : Entry) (done : List Entry) (text rest : List ℕ) (all : Option (List Entry)) → i < count → is_empty text ≡ false → entry_read nodes text ≡ Some (e, rest) → all ≡ entries_before done (entries_read nodes (count - i) text) → all ≡ entries_before (done ++ e ∷ []) (entries_read nodes (count - (i + 1)) rest)
entries_more nodes count i e done text rest all few some next so =
    so ∙ ap (entries_before done) (left_is nodes count i text few some)
    ∙ ap (λ r. entries_before done (then_read r (λ x later. option_map (λ es. x ∷ es) (entries_read nodes (count - (i + 1)) later)))) next
    ∙ before_more done e (entries_read nodes (count - (i + 1)) rest)

-- nothing is left
pub entries_end : (nodes : List (List ℕ)) (most : ℕ) (done : List Entry) (text : List ℕ) (all : Option (List Entry)) → is_empty text ≡ true → all ≡ entries_before done (entries_read nodes most text) → all ≡ Some done
entries_end nodes zero done text all none so = so ∙ ap (λ b. entries_before done (cond b (Some []) None)) none ∙ ap (λ xs. Some xs) (append-nil done)
entries_end nodes (suc most) done text all none so =
    so ∙ ap (λ b. entries_before done (cond b (Some []) (then_read (entry_read nodes text) (λ e rest. option_map (λ es. e ∷ es) (entries_read nodes most rest))))) none
    ∙ ap (λ xs. Some xs) (append-nil done)
