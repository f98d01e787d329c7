-- Callers that differ.
use Rattle.std.proofs.Common.{◌≡◌, ℕ, true, false, ◌&&◌, List, [], ◌∷◌, ◌++◌, All, refl, sym, ap, ◌∙◌, inl, inr}
use Rattle.std.specs.Prelude.{nat_eq}
use Rattle.std.proofs.lemmas.Bool.{eq-eqb, ne_eqb}
use Rattle.std.proofs.lemmas.Bool.Decides.{eqb_tells}
use Rattle.std.proofs.lemmas.List.Elements.{All-nil, All-cons, All-head, All-tail, All-push, All-weaker}
use Rattle.circus_value.specs.declared.caller.Caller.{Caller}
use Rattle.circus_gather.specs.declared.held.HeldCall.{HeldCall}
use Rattle.circus_member_rules.specs.declared.occurrence.Occurrence.{Occurrence}
use Rattle.circus_member_rules.specs.declared.occurrence.Occurrence.TheVariants as comes
use Rattle.circus_member_rules.proofs.Concerned.{all_of}
use Rattle.circus_member_theory.specs.Past.{Past, booted, followed}
use Rattle.circus_member_theory.specs.Made.{is_caller, asks, requests, callers, AreDistinct}
use Rattle.circus_headline_theory.proofs.Owed.Handling.{is_by}

-- ---- lists

module _ {X : Type 0} where
  -- what holds of each of two kinds holds of both
  pub All-zip : (P Q R : X → Type 0) → ((x : X) → P x → Q x → R x) → (xs : List X) → All P xs → All Q xs → All R xs
  All-zip P Q R both [] ps qs = All-nil R
  All-zip P Q R both (x ∷ xs) ps qs = All-cons R x xs (both x (All-head P x xs ps) (All-head Q x xs qs)) (All-zip P Q R both xs (All-tail P x xs ps) (All-tail Q x xs qs))

  pub All-without_last : (P : X → Type 0) (xs : List X) (x : X) → All P (xs ++ x ∷ []) → All P xs
  All-without_last P [] x all = All-nil P
  All-without_last P (y ∷ xs) x all = All-cons P y xs (All-head P y (xs ++ x ∷ []) all) (All-without_last P xs x (All-tail P y (xs ++ x ∷ []) all))

  pub All-last : (P : X → Type 0) (xs : List X) (x : X) → All P (xs ++ x ∷ []) → P x
  All-last P [] x all = All-head P x [] all
  All-last P (y ∷ xs) x all = All-last P xs x (All-tail P y (xs ++ x ∷ []) all)

-- ---- callers

nat_eq-sym : (a b : ℕ) → nat_eq a b ≡ nat_eq b a
nat_eq-sym a b = elim (eqb_tells a b) [ inl same ↦ same.0 ∙ sym (eq-eqb b a (sym same.1)) | inr other ↦ other.0 ∙ sym (ne_eqb b a (λ is. other.1 (sym is))) ]

pub is_caller-sym : (a b : Caller) → is_caller a b ≡ is_caller b a
is_caller-sym a b = λ j. nat_eq-sym a.node b.node j && nat_eq-sym a.number b.number j

pub is_caller-refl : (a : Caller) → is_caller a a ≡ true
is_caller-refl a = ap (λ x. x && nat_eq a.number a.number) (eq-eqb a.node a.node refl) ∙ eq-eqb a.number a.number refl

-- a caller made none of the calls of a past
abbrev pub IsNew : Caller → Past → Type 0
IsNew c p = All (λ (other : Caller). is_caller c other ≡ false) (callers p)

pub new_caller : (p : Past) (sender : Caller) → All (λ (other : Caller). is_caller other sender ≡ false) (callers p) → IsNew sender p
new_caller p sender all = All-weaker (λ (other : Caller). is_caller other sender ≡ false) (λ (other : Caller). is_caller sender other ≡ false) (λ other is. is_caller-sym sender other ∙ is) (callers p) all

-- it made none of those before the last either
pub new_before : (c : Caller) (p : Past) (step : ℕ) (o : Occurrence) → IsNew c (followed p step o) → IsNew c p
new_before c p step (comes.Asked header body sender) all = All-without_last (λ (other : Caller). is_caller c other ≡ false) (callers p) sender all
new_before c p step (comes.Fetched incarnation sender) all = All-without_last (λ (other : Caller). is_caller c other ≡ false) (callers p) sender all
new_before c p step (comes.Replied name from reply) all = all
new_before c p step (comes.IsStale name server from incarnation) all = all
new_before c p step (comes.IsBefore name from) all = all
new_before c p step (comes.Told request table) all = all
new_before c p step (comes.Restored state count) all = all
new_before c p step (comes.Declared node) all = all
new_before c p step comes.Joins all = all

pub new_now : (c : Caller) (p : Past) (step : ℕ) (o : Occurrence) → IsNew c (followed p step o) → is_by c o ≡ false
new_now c p step (comes.Asked header body sender) all = All-last (λ (other : Caller). is_caller c other ≡ false) (callers p) sender all
new_now c p step (comes.Fetched incarnation sender) all = All-last (λ (other : Caller). is_caller c other ≡ false) (callers p) sender all
new_now c p step (comes.Replied name from reply) all = refl
new_now c p step (comes.IsStale name server from incarnation) all = refl
new_now c p step (comes.IsBefore name from) all = refl
new_now c p step (comes.Told request table) all = refl
new_now c p step (comes.Restored state count) all = refl
new_now c p step (comes.Declared node) all = refl
new_now c p step comes.Joins all = refl

-- those who asked are callers
pub asks_called : (P : Caller → Type 0) (p : Past) → All P (callers p) → All (λ (e : ℕ × HeldCall). P e.1.sender) (asks p)
asks_called P booted all = All-nil (λ (e : ℕ × HeldCall). P e.1.sender)
asks_called P (followed p step (comes.Asked header body sender)) all =
    All-push (λ (e : ℕ × HeldCall). P e.1.sender) (asks p) (step, (let call : HeldCall = record { header = header; body = body; sender = sender } in call)) (asks_called P p (All-without_last P (callers p) sender all)) (All-last P (callers p) sender all)
asks_called P (followed p step (comes.Fetched incarnation sender)) all = asks_called P p (All-without_last P (callers p) sender all)
asks_called P (followed p step (comes.Replied name from reply)) all = asks_called P p all
asks_called P (followed p step (comes.IsStale name server from incarnation)) all = asks_called P p all
asks_called P (followed p step (comes.IsBefore name from)) all = asks_called P p all
asks_called P (followed p step (comes.Told request table)) all = asks_called P p all
asks_called P (followed p step (comes.Restored state count)) all = asks_called P p all
asks_called P (followed p step (comes.Declared node)) all = asks_called P p all
asks_called P (followed p step comes.Joins) all = asks_called P p all

pub requests_called : (P : Caller → Type 0) (p : Past) → All P (callers p) → All (λ (e : ℕ × Caller). P e.1) (requests p)
requests_called P booted all = All-nil (λ (e : ℕ × Caller). P e.1)
requests_called P (followed p step (comes.Asked header body sender)) all = requests_called P p (All-without_last P (callers p) sender all)
requests_called P (followed p step (comes.Fetched incarnation sender)) all =
    All-push (λ (e : ℕ × Caller). P e.1) (requests p) (step, sender) (requests_called P p (All-without_last P (callers p) sender all)) (All-last P (callers p) sender all)
requests_called P (followed p step (comes.Replied name from reply)) all = requests_called P p all
requests_called P (followed p step (comes.IsStale name server from incarnation)) all = requests_called P p all
requests_called P (followed p step (comes.IsBefore name from)) all = requests_called P p all
requests_called P (followed p step (comes.Told request table)) all = requests_called P p all
requests_called P (followed p step (comes.Restored state count)) all = requests_called P p all
requests_called P (followed p step (comes.Declared node)) all = requests_called P p all
requests_called P (followed p step comes.Joins) all = requests_called P p all

-- what comes is by none of those before
others : (p : Past) (step : ℕ) (o : Occurrence) → AreDistinct (followed p step o) → All (λ (c : Caller). is_by c o ≡ false) (callers p)
others p step (comes.Asked header body sender) distinct = distinct.1
others p step (comes.Fetched incarnation sender) distinct = distinct.1
others p step (comes.Replied name from reply) distinct = all_of (λ (c : Caller). false ≡ false) (callers p) (λ c. refl)
others p step (comes.IsStale name server from incarnation) distinct = all_of (λ (c : Caller). false ≡ false) (callers p) (λ c. refl)
others p step (comes.IsBefore name from) distinct = all_of (λ (c : Caller). false ≡ false) (callers p) (λ c. refl)
others p step (comes.Told request table) distinct = all_of (λ (c : Caller). false ≡ false) (callers p) (λ c. refl)
others p step (comes.Restored state count) distinct = all_of (λ (c : Caller). false ≡ false) (callers p) (λ c. refl)
others p step (comes.Declared node) distinct = all_of (λ (c : Caller). false ≡ false) (callers p) (λ c. refl)
others p step comes.Joins distinct = all_of (λ (c : Caller). false ≡ false) (callers p) (λ c. refl)

pub other_asks : (p : Past) (step : ℕ) (o : Occurrence) → AreDistinct (followed p step o) → All (λ (e : ℕ × HeldCall). is_by e.1.sender o ≡ false) (asks p)
other_asks p step o distinct = asks_called (λ (c : Caller). is_by c o ≡ false) p (others p step o distinct)

pub other_requests : (p : Past) (step : ℕ) (o : Occurrence) → AreDistinct (followed p step o) → All (λ (e : ℕ × Caller). is_by e.1 o ≡ false) (requests p)
other_requests p step o distinct = requests_called (λ (c : Caller). is_by c o ≡ false) p (others p step o distinct)
