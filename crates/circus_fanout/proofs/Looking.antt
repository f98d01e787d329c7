-- The troupes that are left of those whose views are to be looked up.
use Rattle.std.proofs.Common.{◌≡◌, ℕ, ◌+◌, ◌<◌, ◌≤◌, true, List, ◌++◌, length, get_or, drop, sym, ap, ◌∙◌, append_assoc, append-nil}
use Rattle.std.proofs.lemmas.List.{drop_more, drop_all}
use Rattle.circus_collate.proofs.Going.{front}
use Rattle.circus_collate.specs.declared.view.View.{View}
use Rattle.circus_fanout.specs.declared.known.Want.{Want}
use Rattle.circus_fanout.specs.Knowing.{due_of, due_from, asked_of, asked_all}

pub due_more : (views : List View) (wants : List Want) (place : ℕ) (view : View) (d : Want) (done new whole : List ℕ) → place < length views → place < length wants
    → view ≡ get_or views place view → new ≡ done ++ due_of place view (get_or wants place d)
    → done ++ due_from place (drop place views) (drop place wants) ≡ whole → new ++ due_from (place + 1) (drop (place + 1) views) (drop (place + 1) wants) ≡ whole
due_more views wants place view d done new whole few enough view_is added all =
    let want = get_or wants place d in
    let rest = due_from (place + 1) (drop (place + 1) views) (drop (place + 1) wants) in
    ap (λ l. l ++ rest) added ∙ append_assoc done (due_of place view want) rest
    ∙ sym (λ i. done ++ due_from place (front views place view few view_is i) (drop_more wants place d enough i)) ∙ all

pub due_all : (views : List View) (wants : List Want) (place : ℕ) (done whole : List ℕ) → length views ≤ place → done ++ due_from place (drop place views) (drop place wants) ≡ whole → done ≡ whole
due_all views wants place done whole past all =
    sym (append-nil done) ∙ sym (ap (λ vs. done ++ due_from place vs (drop place wants)) (drop_all place views past)) ∙ all

pub asked_more : (wants new whole : List Want) (troupes : List ℕ) (i d : ℕ) → i < length troupes → new ≡ asked_of true wants (get_or troupes i d) → asked_all wants (drop i troupes) ≡ whole → asked_all new (drop (i + 1) troupes) ≡ whole
asked_more wants new whole troupes i d few is all = ap (λ ws. asked_all ws (drop (i + 1) troupes)) is ∙ sym (ap (asked_all wants) (drop_more troupes i d few)) ∙ all
