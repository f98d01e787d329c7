-- The code of a body does what the body means.
use Rattle.std.proofs.Common.{◌≡◌, ℕ, zero, suc, ◌+◌, ◌-◌, ◌<◌, ◌≤◌, Bool, true, false, List, [], ◌∷◌, ◌++◌, length, Some, None, slice_get, if◌then◌else◌, refl, sym, subst, ◌∙◌, arith}
use Rattle.std.proofs.Math.ListN.{length-append}
use Rattle.std.proofs.lemmas.List.{append_assoc}
use Rattle.std.proofs.lemmas.Option.{slice_get_past}
use Rattle.circus_value.specs.ValueTree.{ValueTree}
use Rattle.circus_value.specs.declared.outcome.Outcome.{Outcome}
use Rattle.circus_value.specs.declared.outcome.Outcome.TheVariants.{Returned, Raised}
use Rattle.circus_model.specs.LanguageError.{is_language_error}
use Rattle.circus_checked.specs.declared.expression.CheckedPlace.{CheckedPlace}
use Rattle.circus_checked.specs.ExpressionTree.{ExpressionTree}
use Rattle.circus_checked.specs.StatementTree.{StatementTree, StatementTrees, HandlerTrees, no_statements, more_statements, no_handlers, more_handlers}
use Rattle.circus_checked.specs.StatementTree as statement
use Rattle.circus_machine.specs.Meaning.{Going, Flow, goes_on, ends, asks, then_does, fill_places, test_condition, make_call, turns, after_reply, catches, does, does_all, handled}
use Rattle.circus_machine.specs.Seen.Code.{Act, assign, append, unless, jump, again, ask, give, raise, code_of, codes_of, handlers_code, table_of, catch_place, reply_place, act, Comes, Follows, behind_all, further, ended, asked}
use Rattle.circus_machine.proofs.Flows.{assoc, Leaves, left, leaves_is, does_leaves, filled_leaves, tested_less, called_leaves}

-- these instructions stand at a place
abbrev pub Stands : List Act → ℕ → List Act → Type 0
Stands code p [] = Unit {0}
Stands code p (a ∷ more) = (slice_get code p ≡ Some a) × Stands code (suc p) more

pub stands_apart : (code : List Act) (p : ℕ) (xs ys : List Act) → Stands code p (xs ++ ys) → Stands code p xs × Stands code (p + length xs) ys
stands_apart code p [] ys stands = (tt, subst (λ q. Stands code q ys) (omega arith) stands)
stands_apart code p (x ∷ xs) ys stands =
    let (first, second) = stands_apart code (suc p) xs ys stands.1 in
    ((stands.0, first), subst (λ q. Stands code q ys) (omega arith) second)

module _ (limit states : ℕ) (code : List Act) where
  by_result : (flow : Flow Going) (a : Act) (p : ℕ) (c : Going) (r : Flow (ℕ × Going)) → slice_get code p ≡ Some a → act limit states a p c ≡ r → Follows limit states code flow r → Comes limit states code flow p c
  by_result flow a p c (goes_on x) is same comes = further p c a x.0 x.1 is same comes
  by_result flow a p c (ends outcome variables) is same comes = ended p c a outcome variables is same comes
  by_result flow a p c (asks callee procedure arguments d) is same comes = asked p c a callee procedure arguments d is same comes

  pub by_act : (flow : Flow Going) (a : Act) (p : ℕ) (c : Going) → slice_get code p ≡ Some a → Follows limit states code flow (act limit states a p c) → Comes limit states code flow p c
  by_act flow a p c is comes = by_result flow a p c (act limit states a p c) is refl comes

  pub follows_then : {X : Type 0} (f : Flow X) (g : X → Flow Going) (h : X → Flow (ℕ × Going)) → ((x : X) → f ≡ goes_on x → Follows limit states code (g x) (h x)) → Follows limit states code (then_does f g) (then_does f h)
  follows_then (goes_on x) g h each = each x refl
  follows_then (ends outcome variables) g h each = refl
  follows_then (asks callee procedure arguments c) g h each = refl

  -- it comes to k where it goes on at a place with so many steps or fewer
  abbrev Goes : ℕ → ℕ → (Going → Flow Going) → Type 0
  Goes n p k = (d : Going) → d.steps ≤ n → Comes limit states code (k d) p d

  at_place : (n : ℕ) (k : Going → Flow Going) (p q : ℕ) → p ≡ q → Goes n p k → Goes n q k
  at_place n k p q same goes = subst (λ r. Goes n r k) same goes

  -- where f goes on, the steps that it leaves
  fewer : {X : Type 0} (s : X → ℕ) (n : ℕ) (f : Flow X) → Leaves s n f → (x : X) → f ≡ goes_on x → s x ≤ n
  fewer s n f some x is = leaves_is s n f x is some

  -- a statement of one instruction
  alone : (s : StatementTree) (a : Act) (p : ℕ) (c : Going) (k : Going → Flow Going) → act limit states a p c ≡ then_does (does limit states s c) (λ d. goes_on (suc p, d)) → slice_get code p ≡ Some a → Goes c.steps (suc p) k
      → Comes limit states code (then_does (does limit states s c) k) p c
  alone s a p c k same is goes =
      by_act _ a p c is
      (subst (Follows limit states code (then_does (does limit states s c) k)) (sym same)
      (follows_then (does limit states s c) k (λ d. goes_on (suc p, d)) (λ d on. goes d (fewer left c.steps (does limit states s c) (does_leaves limit states s c) d on))))

  jumps : (p k n : ℕ) (next : Going → Flow Going) → slice_get code p ≡ Some (jump k) → Goes n (suc p + k) next → Goes n p next
  jumps p k n next is goes d few = by_act (next d) (jump k) p d is (goes d few)

  by_case : (b : Bool) (f g : Flow Going) (k : Going → Flow Going) (x y : Flow (ℕ × Going)) → Follows limit states code (then_does f k) x → Follows limit states code (then_does g k) y → Follows limit states code (then_does (if b then f else g) k) (if b then x else y)
  by_case true f g k x y first second = first
  by_case false f g k x y first second = second

  -- these statements are done from a place on
  abbrev Does : StatementTrees → ℕ → Type 0
  Does ss p = (c : Going) (k : Going → Flow Going) → Goes c.steps (p + length (codes_of ss)) k → Comes limit states code (then_does (does_all limit states ss c) k) p c

  branches : (ss others : StatementTrees) (p : ℕ) (holds : Bool) (d : Going) (k : Going → Flow Going) → Does ss (suc p) → Does others (suc p + (length (codes_of ss) + 1))
      → Goes d.steps (suc p + length (codes_of ss)) k → Goes d.steps (suc p + (length (codes_of ss) + 1) + length (codes_of others)) k
      → Comes limit states code (then_does (if holds then does_all limit states ss d else does_all limit states others d) k) (if holds then suc p else suc p + (length (codes_of ss) + 1)) d
  branches ss others p true d k first second goes behind = first d k goes
  branches ss others p false d k first second goes behind = second d k behind

  module _ (e : ExpressionTree) (body : StatementTrees) (p : ℕ) (k : Going → Flow Going) (each : Does body (suc p)) (is : slice_get code (suc p + length (codes_of body)) ≡ Some (again e (length (codes_of body)))) where
    -- the loop is done with so many tests or fewer
    abbrev Loops : ℕ → Type 0
    Loops n = (c : Going) → c.steps < n → Goes c.steps (suc (suc p + length (codes_of body))) k
        → Comes limit states code (then_does (turns limit states n e (does_all limit states body) c) k) (suc p + length (codes_of body)) c

    round : (n : ℕ) → Loops n → (holds : Bool) (d : Going) → d.steps < n → Goes d.steps (suc (suc p + length (codes_of body))) k
        → Comes limit states code (then_does (if holds then then_does (does_all limit states body d) (turns limit states n e (does_all limit states body)) else goes_on d) k)
        (if holds then (suc p + length (codes_of body)) - length (codes_of body) else suc (suc p + length (codes_of body))) d
    round n again_so true d few goes =
        let q = suc p + length (codes_of body) in
        let front : suc p ≡ q - length (codes_of body) = omega arith in
        subst (λ f. Comes limit states code f (q - length (codes_of body)) d) (sym (assoc (does_all limit states body d) (turns limit states n e (does_all limit states body)) k))
        (subst (λ r. Comes limit states code (then_does (does_all limit states body d) (λ u. then_does (turns limit states n e (does_all limit states body) u) k)) r d) front
        (each d (λ u. then_does (turns limit states n e (does_all limit states body) u) k)
        (λ u less. again_so u (omega (arith, less, few)) (λ v fewer_still. goes v (omega (arith, fewer_still, less))))))
    round n again_so false d few goes = goes d (omega arith)

    loops : (n : ℕ) → Loops n
    loops zero c few goes = absurd (omega (arith, few))
    loops (suc n) c few goes =
        let q = suc p + length (codes_of body) in
        subst (λ f. Comes limit states code f q c) (sym (assoc (test_condition limit states e c) _ k))
        (by_act _ (again e (length (codes_of body))) q c is
        (follows_then (test_condition limit states e c) _ _
        (λ x on. round n (loops n) x.0 x.1 (omega (arith, few, fewer (λ y. suc y.1.steps) c.steps (test_condition limit states e c) (tested_less limit states e c) x on))
        (λ d less. goes d (omega (arith, less, fewer (λ y. suc y.1.steps) c.steps (test_condition limit states e c) (tested_less limit states e c) x on))))))

  replied_code : (places : List CheckedPlace) (hs : HandlerTrees) (p : ℕ) (d : Going) (k : Going → Flow Going) → ((error : ℕ) (values : List ValueTree) → Follows limit states code (then_does (handled limit states hs error values d) k) (catch_place limit states p (table_of 0 hs) error values d))
      → Goes d.steps (suc p + length (handlers_code hs)) k → (reply : Outcome)
      → Follows limit states code (then_does (after_reply limit states places (handled limit states hs) reply d) k) (reply_place limit states p places (table_of 0 hs) (length (handlers_code hs)) reply d)
  replied_code places hs p d k each goes (Returned results) =
      follows_then (fill_places limit states places results d) k _
      (λ u on. goes u (fewer left d.steps (fill_places limit states places results d) (filled_leaves limit states places results d) u on))
  replied_code places hs p d k each goes (Raised error values) = each error values

  mutual
    pub does_code : (s : StatementTree) (p : ℕ) → Stands code p (code_of s) → (c : Going) (k : Going → Flow Going) → Goes c.steps (p + length (code_of s)) k
        → Comes limit states code (then_does (does limit states s c) k) p c
    does_code (statement.assign q e) p stands c k goes = alone (statement.assign q e) (assign q e) p c k refl stands.0 (at_place c.steps k _ _ (omega arith) goes)
    does_code (statement.append e q bound kind) p stands c k goes =
        alone (statement.append e q bound kind) (append e q bound kind) p c k refl stands.0 (at_place c.steps k _ _ (omega arith) goes)
    does_code (statement.give es) p stands c k goes = alone (statement.give es) (give es) p c k refl stands.0 (at_place c.steps k _ _ (omega arith) goes)
    does_code (statement.raise error es) p stands c k goes = alone (statement.raise error es) (raise error es) p c k refl stands.0 (at_place c.steps k _ _ (omega arith) goes)
    does_code (statement.branch e ss others) p stands c k goes =
        let a = codes_of ss in
        let b = codes_of others in
        let (first, second) = stands_apart code (suc p) a (jump (length b) ∷ b) stands.1 in
        let both = length-append a (jump (length b) ∷ b) in
        let behind : Goes c.steps (suc (suc p + length a) + length b) k = at_place c.steps k _ _ (omega (arith, both)) goes in
        subst (λ f. Comes limit states code f p c) (sym (assoc (test_condition limit states e c) _ k))
        (by_act _ (unless e (length a + 1)) p c stands.0
        (follows_then (test_condition limit states e c) _ _
        (λ x on. branches ss others p x.0 x.1 k (does_all_code ss (suc p) first) (does_all_code others (suc p + (length a + 1)) (subst (λ q. Stands code q b) (omega arith) second.1))
        (λ d few. jumps (suc p + length a) (length b) c.steps k second.0 behind d (omega (arith, few, fewer (λ y. suc y.1.steps) c.steps (test_condition limit states e c) (tested_less limit states e c) x on)))
        (λ d few. at_place c.steps k _ _ (omega arith) behind d (omega (arith, few, fewer (λ y. suc y.1.steps) c.steps (test_condition limit states e c) (tested_less limit states e c) x on))))))
    does_code (statement.repeat e body) p stands c k goes =
        let b = codes_of body in
        let (first, second) = stands_apart code (suc p) b (again e (length b) ∷ []) stands.1 in
        let both = length-append b (again e (length b) ∷ []) in
        by_act _ (jump (length b)) p c stands.0
        (loops e body p k (does_all_code body (suc p) first) second.0 (suc c.steps) c (omega arith) (at_place c.steps k _ _ (omega (arith, both)) goes))
    does_code (statement.call callee procedure es places hs) p stands c k goes =
        subst (λ f. Comes limit states code f p c) (sym (assoc (make_call limit states callee procedure es c) _ k))
        (by_act _ (ask callee procedure es places (table_of 0 hs) (length (handlers_code hs))) p c stands.0
        (follows_then (make_call limit states callee procedure es c) _ _
        (λ x on.
        let goes_there : Goes x.1.steps (suc p + length (handlers_code hs)) k =
        λ d few. at_place c.steps k _ _ (omega arith) goes d (omega (arith, few, fewer (λ y. y.1.steps) c.steps (make_call limit states callee procedure es c) (called_leaves limit states callee procedure es c) x on)) in
        replied_code places hs p x.1 k
        (λ error values. caught_code hs 0 p (subst (λ q. Stands code q (handlers_code hs)) (omega arith) stands.1) error values x.1 k (at_place x.1.steps k _ _ (omega arith) goes_there))
        goes_there x.0)))

    caught_code : (hs : HandlerTrees) (at p : ℕ) → Stands code (suc p + at) (handlers_code hs) → (error : ℕ) (values : List ValueTree) (d : Going) (k : Going → Flow Going) → Goes d.steps (suc p + at + length (handlers_code hs)) k
        → Follows limit states code (then_does (handled limit states hs error values d) k) (catch_place limit states p (table_of at hs) error values d)
    caught_code no_handlers at p stands error values d k goes = by_case (is_language_error error) _ _ k _ _ refl refl
    caught_code (more_handlers e places ss hs) at p stands error values d k goes =
        let s = codes_of ss in
        let h = handlers_code hs in
        let (first, second) = stands_apart code (suc p + at) s (jump (length h) ∷ h) stands in
        let both = length-append s (jump (length h) ∷ h) in
        let behind : Goes d.steps (suc (suc p + at + length s) + length h) k = at_place d.steps k _ _ (omega (arith, both)) goes in
        by_case (catches e error) _ _ k _ _
        (subst (λ f. Follows limit states code f (then_does (fill_places limit states places values d) (λ u. goes_on (suc p + at, u)))) (sym (assoc (fill_places limit states places values d) (does_all limit states ss) k))
        (follows_then (fill_places limit states places values d) (λ u. then_does (does_all limit states ss u) k) _
        (λ u on. does_all_code ss (suc p + at) first u k
        (λ v few. jumps (suc p + at + length s) (length h) d.steps k second.0 behind v (omega (arith, few, fewer left d.steps (fill_places limit states places values d) (filled_leaves limit states places values d) u on))))))
        (caught_code hs (at + (length s + 1)) p (subst (λ q. Stands code q h) (omega arith) second.1) error values d k (at_place d.steps k _ _ (omega arith) behind))

    pub does_all_code : (ss : StatementTrees) (p : ℕ) → Stands code p (codes_of ss) → Does ss p
    does_all_code no_statements p stands c k goes = at_place c.steps k _ _ (omega arith) goes c (omega arith)
    does_all_code (more_statements s ss) p stands c k goes =
        let (first, second) = stands_apart code p (code_of s) (codes_of ss) stands in
        let both = length-append (code_of s) (codes_of ss) in
        subst (λ f. Comes limit states code f p c) (sym (assoc (does limit states s c) (does_all limit states ss) k))
        (does_code s p first c (λ d. then_does (does_all limit states ss d) k)
        (λ d few. does_all_code ss (p + length (code_of s)) second d k (λ u less. at_place c.steps k _ _ (omega (arith, both)) goes u (omega (arith, few, less)))))

ends_there : (f : Flow Going) → then_does f goes_on ≡ f
ends_there (goes_on c) = refl
ends_there (ends outcome variables) = refl
ends_there (asks callee procedure arguments c) = refl

-- nothing stands behind a list
past : (xs : List Act) → slice_get xs (0 + length xs) ≡ None
past xs = slice_get_past xs (0 + length xs) (omega arith)

get_at : (front : List Act) (x : Act) (xs : List Act) → slice_get (front ++ x ∷ xs) (length front) ≡ Some x
get_at [] x xs = refl
get_at (y ∷ front) x xs = get_at front x xs

-- the whole of it stands at its beginning
behind_front : (front xs : List Act) → Stands (front ++ xs) (length front) xs
behind_front front [] = tt
behind_front front (x ∷ xs) = (
  get_at front x xs,
  subst (λ ys. Stands ys (suc (length front)) xs) (append_assoc front (x ∷ []) xs)
      (subst (λ n. Stands ((front ++ x ∷ []) ++ xs) n xs) (length-append front (x ∷ []) ∙ omega arith) (behind_front (front ++ x ∷ []) xs)),
)

all_stand : (xs : List Act) → Stands xs 0 xs
all_stand xs = behind_front [] xs

-- from its beginning the machine comes to what a body means
pub body_comes : (limit states : ℕ) (body : StatementTrees) (c : Going) → Comes limit states (codes_of body) (does_all limit states body c) 0 c
body_comes limit states body c =
    subst (λ f. Comes limit states (codes_of body) f 0 c) (ends_there (does_all limit states body c))
    (does_all_code limit states (codes_of body) body 0 (all_stand (codes_of body)) c goes_on (λ d few. behind_all _ d (past (codes_of body)) refl))
