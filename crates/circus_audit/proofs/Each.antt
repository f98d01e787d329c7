-- Reading one item behind another.
use Rattle.std.proofs.Common.{◌≡◌, ◌∙◌, ◌+◌, Option, Some, None, option_map, List, [], ◌∷◌, ◌++◌, refl, sym, ap, append_assoc}
use Rattle.circus_audit.specs.Seen.Answers.{from_some}
use Rattle.circus_audit.specs.Seen.Differing.{each_read, each_before}

before_more : {B : Type 0} (done : List B) (b : B) (r : Option (List B)) → each_before done (option_map (λ bs. b ∷ bs) r) ≡ each_before (done ++ b ∷ []) r
before_more done b (Some bs) = ap (λ xs. Some xs) (sym (append_assoc done (b ∷ []) bs))
before_more done b None = refl

pub each_more : {A B : Type 0} (f : A → Option B) (left rest : List A) (a : A) (b : B) (done : List B) (all : Option (List B)) → left ≡ a ∷ rest → f a ≡ Some b → all ≡ each_before done (each_read f left) → all ≡ each_before (done ++ b ∷ []) (each_read f rest)
each_more f left rest a b done all front next so =
    so ∙ ap (λ xs. each_before done (each_read f xs)) front
    ∙ ap (λ r. each_before done (from_some r (λ x. option_map (λ bs. x ∷ bs) (each_read f rest)))) next
    ∙ before_more done b (each_read f rest)
