-- The entries of a table, read one after another.
use Rattle.std.proofs.Common.{◌≡◌, ℕ, suc, ◌+◌, ◌-◌, ◌<◌, ◌≤◌, List, [], ◌∷◌, ◌++◌, Result, Ok, Err, subst, arith}
use Rattle.std.specs.Result.{IsErr, IsErrAnd}
use Rattle.circus_header.specs.Seen.Layout.{Reading, ended}
use Rattle.circus_header.specs.declared.header_fault.HeaderFault.{HeaderFault}
use Rattle.circus_header.proofs.Steps.{then_read, then_failed}
use Rattle.circus_collate.specs.declared.view.Entry.{Entry}
use Rattle.circus_ring.specs.Seen.TableLayout.{entry_layout, entries_layout}

module _ (octets : List ℕ) (count i : ℕ) (done : List Entry) (at : ℕ) where
  pub entry_more : {e : Entry} {to : ℕ} {q : Result (List Entry × ℕ) HeaderFault} → i < count → Reading octets entry_layout at (Ok (e, to))
      → Reading octets (entries_layout (count - (i + 1)) (done ++ e ∷ [])) to q → Reading octets (entries_layout (count - i) done) at q
  entry_more {q = q} less a b =
      let left : suc (count - (i + 1)) ≡ count - i = omega arith in
      subst (λ k. Reading octets (entries_layout k done) at q) left (then_read entry_layout (λ e. entries_layout (count - (i + 1)) (done ++ e ∷ [])) a b)

  pub entry_failed : {e : HeaderFault} {q : Result (List Entry × ℕ) HeaderFault} → i < count → Reading octets entry_layout at (Err e)
      → IsErr q × IsErrAnd q (λ f. f ≡ e) → Reading octets (entries_layout (count - i) done) at q
  entry_failed {q = q} less a p =
      let left : suc (count - (i + 1)) ≡ count - i = omega arith in
      subst (λ k. Reading octets (entries_layout k done) at q) left (then_failed entry_layout (λ e. entries_layout (count - (i + 1)) (done ++ e ∷ [])) a p)

  pub entries_end : count ≤ i → Reading octets (entries_layout (count - i) done) at (Ok (done, at))
  entries_end all =
      let left : 0 ≡ count - i = omega arith in
      subst (λ k. Reading octets (entries_layout k done) at (Ok (done, at))) left ended
