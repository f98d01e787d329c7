-- Lists that grow and change at their end.
use Rattle.std.proofs.Common.{◌≡◌, ℕ, ◌-◌, ◌<◌, List, [], ◌∷◌, ◌++◌, length, take, Option, Some, ◌⊎◌, inl, inr, refl, ap, ◌∙◌, arith, length-append}
use Rattle.std.specs.Prelude.{slice_get, unwrap_or}
use Rattle.std.proofs.lemmas.List.{take-append-le}
use Rattle.std.proofs.lemmas.List.Sums.{fold-append}
use Rattle.std.proofs.lemmas.List.Elements.{filter_map-append}
use Rattle.std.proofs.lemmas.Option.{slice_get_within}
use Rattle.std.proofs.Math.Seq.{take-append_seam}
use Rattle.circus_value.specs.declared.outcome.Outcome.{Outcome}
use Rattle.circus_model.proofs.Lookups.{at_end, old_or_added}
use Rattle.circus_record.specs.declared.record.AskRecord.{AskRecord}
use Rattle.circus_record.specs.declared.record.RunRecord.{RunRecord}
use Rattle.circus_performing.specs.Performing.{latest_shown, replies_of, last_of, front_of, answered_ask, with_reply}

module _ {A : Type 0} where
  less_one : (xs : List A) (x : A) → length (xs ++ x ∷ []) - 1 ≡ length xs
  less_one xs x = omega (arith, length-append xs (x ∷ []))

  pub last_more : (xs : List A) (x : A) → last_of (xs ++ x ∷ []) ≡ Some x
  last_more xs x = ap (slice_get (xs ++ x ∷ [])) (less_one xs x) ∙ at_end xs x

  pub front_more : (xs : List A) (x : A) → front_of (xs ++ x ∷ []) ≡ xs
  front_more xs x = ap (λ n. take n (xs ++ x ∷ [])) (less_one xs x) ∙ take-append_seam xs (x ∷ [])

  pub latest_more : {B : Type 0} (shown : A → Option B) (first : B) (xs : List A) (x : A) → latest_shown shown first (xs ++ x ∷ []) ≡ unwrap_or (shown x) (latest_shown shown first xs)
  latest_more shown first xs x = fold-append (λ before y. unwrap_or (shown y) before) first xs (x ∷ [])

  -- what is at a place of a list that grew, with what stands before it
  pub record IsEarlier (xs : List A) (y : A) (number : ℕ) (x : A) : Type 0 where
    pub there : slice_get xs number ≡ Some x
    pub before : take number (xs ++ y ∷ []) ≡ take number xs

  pub record IsAdded (xs : List A) (y : A) (number : ℕ) (x : A) : Type 0 where
    pub same : y ≡ x
    pub before : take number (xs ++ y ∷ []) ≡ xs

  pub earlier_or_added : (xs : List A) (y : A) (number : ℕ) (x : A) → slice_get (xs ++ y ∷ []) number ≡ Some x → IsEarlier xs y number x ⊎ IsAdded xs y number x
  earlier_or_added xs y number x is =
      elim (old_or_added xs y number x is) [
        | inl there ↦
            let within : number < length xs = slice_get_within xs number x there in
            inl (record { there = there; before = take-append-le number xs (y ∷ []) (omega (arith, within)) })
        | inr added ↦
            inr (record { same = added.1; before = ap (λ n. take n (xs ++ y ∷ [])) added.0 ∙ take-append_seam xs (y ∷ []) })
      ]

-- one reply more
pub replies_more : (made : List AskRecord) (ask : AskRecord) (reply : Outcome) → ask.reply ≡ Some reply → replies_of (made ++ ask ∷ []) ≡ replies_of made ++ reply ∷ []
replies_more made ask reply is =
    filter_map-append (λ (a : AskRecord). a.reply) made (ask ∷ []) ∙ rw is

-- the last ask has a reply
pub replied_same : (run : RunRecord) (front : List AskRecord) (ask : AskRecord) (step : ℕ) (reply : Outcome) (clock : List ℕ) → run.asks ≡ front ++ ask ∷ [] → with_reply step reply clock run ≡ (let replied : RunRecord = record run { asks = front ++ answered_ask step reply clock ask ∷ [] } in replied)
replied_same run front ask step reply clock asks_are =
    let before : front_of run.asks ≡ front = ap front_of asks_are ∙ front_more front ask in
    let last : last_of run.asks ≡ Some ask = ap last_of asks_are ∙ last_more front ask in
    rw last (rw before refl)
