-- The boot views of the troupes that are left.
use Rattle.std.proofs.Common.{◌≡◌, ℕ, suc, ◌+◌, ◌<◌, ◌≤◌, List, [], ◌∷◌, ◌++◌, length, get_or, drop, refl, sym, ap, ◌∙◌, append_assoc, append-nil}
use Rattle.std.proofs.lemmas.List.{drop_more, drop_all}
use Rattle.circus_collate.specs.declared.view.View.{View}
use Rattle.circus_collate.specs.declared.deployment.Troupe.{Troupe}
use Rattle.circus_ring.specs.RingTable.{boot_view, boot_views, boot_views_from}

abbrev pub left : List Troupe → ℕ → List View
left troupes i = boot_views_from i (drop i troupes)

pub views_more : (troupes : List Troupe) (i number : ℕ) (troupe : Troupe) (done whole : List View) (view : View) → i < length troupes → troupe ≡ get_or troupes i troupe → number ≡ i → view ≡ boot_view number troupe → whole ≡ done ++ left troupes i → whole ≡ (done ++ view ∷ []) ++ left troupes (i + 1)
views_more troupes i number troupe done whole view few is same made all =
    let front : drop i troupes ≡ troupe ∷ drop (i + 1) troupes = drop_more troupes i troupe few ∙ ap (λ x. x ∷ drop (i + 1) troupes) (sym is) in
    let first : boot_view i troupe ≡ view = ap (λ n. boot_view n troupe) (sym same) ∙ sym made in
    all ∙ ap (λ ts. done ++ boot_views_from i ts) front ∙ ap (λ v. done ++ (v ∷ left troupes (i + 1))) first ∙ sym (append_assoc done (view ∷ []) (left troupes (i + 1)))

pub views_all : (troupes : List Troupe) (i : ℕ) (done whole : List View) → length troupes ≤ i → whole ≡ done ++ left troupes i → done ≡ whole
views_all troupes i done whole all is =
    sym (is ∙ ap (λ ts. done ++ boot_views_from i ts) (drop_all i troupes all) ∙ append-nil done)

length_from : (t : ℕ) (troupes : List Troupe) → length (boot_views_from t troupes) ≡ length troupes
length_from t [] = refl
length_from t (troupe ∷ troupes) = ap suc (length_from (t + 1) troupes)

pub length_boot : (troupes : List Troupe) → length (boot_views troupes) ≡ length troupes
length_boot troupes = length_from 0 troupes
