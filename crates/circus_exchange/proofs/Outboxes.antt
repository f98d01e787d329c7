-- Handing over, and what a tick sends.
use Rattle.std.proofs.Common.{◌≡◌, ℕ, ◌<◌, ◌≤◌, T, cond, refl, subst, arith, List, [], ◌∷◌, ◌++◌, map, Bor, append_assoc, None, sym, ap, ◌∙◌}
use Rattle.std.specs.Prelude.{is_some, flat_map}
use Rattle.std.specs.Map.Iter.{deref_pair}
use Rattle.std.proofs.lemmas.Bool.{lt-ltb, le-ltb}
use Rattle.std.proofs.lemmas.Grind.{flat_map-append}
use Rattle.std.proofs.lemmas.List.{append-nil}
use Rattle.std.specs.Cmp.{nat_cmp_total}
use Rattle.std.specs.Ordering.{nat_cmp}
use Rattle.std.specs.FinMap.{FinMap, nat_cmp-IsAntisymmetric, get, insert, remove, entries, entries_sorted, is_sorted}
use Rattle.std.specs.FinMap.Entries.{below_all}
use Rattle.circus_exchange.specs.declared.progress.Progress.{Progress}
use Rattle.circus_exchange.specs.Outbox.{HandedOver, reminder_of, reminder, reminders}
use Rattle.circus_exchange.proofs.Rising.{left, right, rising}

-- the datagrams of no messages
pub reminded_none : (sent : List (List ℕ)) → sent ≡ sent ++ []
reminded_none sent = sym (append-nil sent)

joined_more : {K X : Type 0} (f : K × X → List (List ℕ)) (es : List (Bor K × Bor X)) (x : Bor K × Bor X) → flat_map f (map deref_pair (es ++ x ∷ [])) ≡ flat_map f (map deref_pair es) ++ f (deref_pair x)
joined_more f [] x = append-nil (f (deref_pair x))
joined_more f (e ∷ es) x = ap (λ r. f (deref_pair e) ++ r) (joined_more f es x) ∙ sym (append_assoc (f (deref_pair e)) (flat_map f (map deref_pair es)) (f (deref_pair x)))

-- and of one message more
pub reminded_more : {K X : Type 0} (f : K × X → List (List ℕ)) (sent old new : List (List ℕ)) (es : List (Bor K × Bor X)) (x : Bor K × Bor X) → old ≡ sent ++ flat_map f (map deref_pair es) → new ≡ old ++ f (deref_pair x) → new ≡ sent ++ flat_map f (map deref_pair (es ++ x ∷ []))
reminded_more f sent old new es x before after =
    after ∙ ap (λ d. d ++ f (deref_pair x)) before
    ∙ append_assoc sent (flat_map f (map deref_pair es)) (f (deref_pair x))
    ∙ ap (λ d. sent ++ d) (sym (joined_more f es x))

-- ---- a walk that ends at the first number past a limit

pub reminded_below : (box : HandedOver) (format kind limit number : ℕ) (message : List ℕ) → number < limit → reminder_of format kind number message (get box.progress number) ≡ reminder box format kind limit (number, message)
unfolding reminder
reminded_below box format kind limit number message less = sym (ap (λ b. cond b (reminder_of format kind number message (get box.progress number)) []) (lt-ltb number limit less))

-- from a number on that is past the limit nothing is sent
none_past : (box : HandedOver) (format kind limit number : ℕ) (es : List (ℕ × List ℕ)) → limit ≤ number → T (below_all nat_cmp number es) → flat_map (reminder box format kind limit) es ≡ []
unfolding reminder
none_past box format kind limit number [] past rises = refl
none_past box format kind limit number (e ∷ es) past rises =
    let above : number < e.0 = rising number e.0 (left _ _ rises) in
    ap (λ b. cond b (reminder_of format kind e.0 e.1 (get box.progress e.0)) [] ++ flat_map (reminder box format kind limit) es) (le-ltb e.0 limit (omega arith))
    ∙ none_past box format kind limit number es past (right _ _ rises)

later_sorted : (seen rest : List (ℕ × List ℕ)) → T (is_sorted nat_cmp (seen ++ rest)) → T (is_sorted nat_cmp rest)
later_sorted [] rest sorted = sorted
later_sorted (e ∷ seen) rest sorted = later_sorted seen rest (right _ _ sorted)

pub reminded_all : (box : HandedOver) (format kind limit : ℕ) (sent now : List (List ℕ)) (seen : List (ℕ × List ℕ)) (number : ℕ) (message : List ℕ) (rest : List (ℕ × List ℕ)) → entries box.messages ≡ seen ++ (number, message) ∷ rest → limit ≤ number → now ≡ sent ++ flat_map (reminder box format kind limit) seen → now ≡ sent ++ reminders box format kind limit
unfolding reminders reminder
reminded_all box format kind limit sent now seen number message rest is past so_far =
    let sorted : T (is_sorted nat_cmp ((number, message) ∷ rest)) = later_sorted seen ((number, message) ∷ rest) (subst (λ es. T (is_sorted nat_cmp es)) is (entries_sorted box.messages)) in
    let none : flat_map (reminder box format kind limit) ((number, message) ∷ rest) ≡ [] = ap (λ b. cond b (reminder_of format kind number message (get box.progress number)) [] ++ flat_map (reminder box format kind limit) rest) (le-ltb number limit past) ∙ none_past box format kind limit number rest past (left _ _ sorted) in
    so_far ∙ ap (λ d. sent ++ d) (sym (append-nil (flat_map (reminder box format kind limit) seen))
    ∙ ap (λ d. flat_map (reminder box format kind limit) seen ++ d) (sym none)
    ∙ sym (flat_map-append (reminder box format kind limit) seen ((number, message) ∷ rest))
    ∙ ap (flat_map (reminder box format kind limit)) (sym is))
