-- Where boot and joins stand, by the tests.
use Rattle.std.proofs.Common.{ℕ, zero, suc, ◌≡◌, ◌∙◌, Bool, true, false, not, ◌&&◌, ◌||◌, if◌then◌else◌, List, [], ◌∷◌, ◌++◌, All, Option, None, Some, refl, sym, ap, subst, arith}
use Rattle.std.specs.Prelude.{◌==◌, IsSomeAnd, is_none, is_some}
use Rattle.std.specs.List.{list_all, list_any}
use Rattle.std.proofs.lemmas.Bool.{ne_eqb}
use Rattle.std.proofs.lemmas.List.Folds.{list_all-append}
use Rattle.std.proofs.lemmas.List.Elements.{All-nil, All-cons, All-head, All-tail}
use Rattle.circus_collate.specs.declared.deployment.Deployment.{Deployment}
use Rattle.circus_node.specs.Trace.{Trace, booted, stepped}
use Rattle.circus_node.specs.declared.event.Event.{Event}
use Rattle.circus_audit.specs.declared.given.GivenEvent.{GivenEvent}
use Rattle.circus_verdict.specs.Audited.{is_join, joins_at, JoinsSo, events_in}
use Rattle.circus_verdict.specs.Seen.Living.{ComesSo, MayCome, HasCome}
use Rattle.circus_verdict.specs.Seen.Shape.{comes, is_begun, joins, is_second, joins_so}

-- ---- boot

and_true : (a b : Bool) → (a && b) ≡ true → (a ≡ true) × (b ≡ true)
and_true true b is = (refl, is)
and_true false b is = cc

none_is : {X : Type 0} (o : Option X) → is_none o ≡ true → o ≡ None
none_is None is = refl
none_is (Some x) is = cc

pub boot_is : (boot : GivenEvent) (later : List GivenEvent) → is_begun boot later ≡ true → boot.event ≡ None
boot_is boot later is = none_is boot.event (and_true (is_none boot.event) (list_all comes later) is).0

one_comes : (d : Deployment) (node : ℕ) (e : GivenEvent) (o : Option Event) → e.event ≡ o → is_some o ≡ true → MayCome d node e → HasCome d node e
one_comes d node e None is some may = cc
one_comes d node e (Some event) is some may = subst (λ (o : Option Event). IsSomeAnd o (ComesSo d node)) (sym is) (may event is)

all_come : (d : Deployment) (node : ℕ) (later : List GivenEvent) → list_all comes later ≡ true → All (MayCome d node) later → All (HasCome d node) later
all_come d node [] is may = All-nil (HasCome d node)
all_come d node (e ∷ later) is may =
    let parts = and_true (is_some e.event) (list_all comes later) is in
    All-cons (HasCome d node) e later (one_comes d node e e.event refl parts.0 (All-head (MayCome d node) e later may)) (all_come d node later parts.1 (All-tail (MayCome d node) e later may))

pub they_come : (d : Deployment) (node : ℕ) (boot : GivenEvent) (later : List GivenEvent) → is_begun boot later ≡ true → All (MayCome d node) (boot ∷ later) → All (HasCome d node) later
they_come d node boot later is may =
    all_come d node later (and_true (is_none boot.event) (list_all comes later) is).1 (All-tail (MayCome d node) boot later may)

-- a trace begins with boot, and nothing else does
all_some : (t : Trace) → (boot : GivenEvent) × (later : List GivenEvent) × (events_in t ≡ boot ∷ later) × (is_begun boot later ≡ true)
all_some (booted made outputs) = (record { event = None; gives = outputs.gives; differences = outputs.differences }, [], refl, refl)
all_some (stepped t at event made outputs) =
    let before = all_some t in
    let last : GivenEvent = record { event = Some event; gives = outputs.gives; differences = outputs.differences } in
    (before.0, before.1 ++ last ∷ [], ap (λ l. l ++ last ∷ []) before.2, one_more before.0 before.1 last refl before.3)
  where
    one_more : (boot : GivenEvent) (later : List GivenEvent) (last : GivenEvent) → is_some last.event ≡ true → is_begun boot later ≡ true → is_begun boot (later ++ last ∷ []) ≡ true
    one_more boot later last some is =
        let parts = and_true (is_none boot.event) (list_all comes later) is in
        let all = list_all-append comes later (last ∷ []) ∙ (λ j. parts.1 j && (some j && true)) in
        λ j. parts.0 j && all j

pub begun_so : (t : Trace) (boot : GivenEvent) (later : List GivenEvent) → boot ∷ later ≡ events_in t → is_begun boot later ≡ true
begun_so t boot later are = (let found = all_some t in let same : boot ∷ later ≡ found.0 ∷ found.1 = are ∙ found.2 in let heads : boot ≡ found.0 = cc in let tails : later ≡ found.1 = cc in
    (λ j. is_begun (heads j) (tails j)) ∙ found.3)

pub some_events : (t : Trace) → [] ≡ events_in t → ⊥
some_events t none = (let found = all_some t in let clash : [] ≡ found.0 ∷ found.1 = none ∙ found.2 in cc)

-- ---- joins

and_false : (b : Bool) → (b && false) ≡ false
and_false true = refl
and_false false = refl

and_with_true : (b : Bool) → (b && true) ≡ b
and_with_true true = refl
and_with_true false = refl

second_is : (spare a : Bool) → (if spare then a else not a) ≡ true → a ≡ spare
second_is true a is = is
second_is false true is = cc
second_is false false is = refl

is_second_so : (spare a : Bool) → a ≡ spare → (if spare then a else not a) ≡ true
is_second_so true a is = is
is_second_so false a is = ap not is

none_joins : (others : List GivenEvent) → list_any joins others ≡ false → (k : ℕ) → joins_at others k ≡ false
none_joins [] none k = refl
none_joins (e ∷ others) none zero = by_first (joins e) none
  where
    by_first : (b : Bool) → (b || list_any joins others) ≡ false → b ≡ false
    by_first true is = is
    by_first false is = refl
none_joins (e ∷ others) none (suc k) = none_joins others (by_first (joins e) none) k
  where
    by_first : (b : Bool) → (b || list_any joins others) ≡ false → list_any joins others ≡ false
    by_first true is = cc
    by_first false is = is

joins_none : (others : List GivenEvent) → ((k : ℕ) → joins_at others k ≡ false) → list_any joins others ≡ false
joins_none [] none = refl
joins_none (e ∷ others) none = ap (λ b. b || list_any joins others) (none zero) ∙ joins_none others (λ k. none (suc k))

not_false : (b : Bool) → not b ≡ true → b ≡ false
not_false true is = cc
not_false false is = refl

-- behind the second event none is to be one
past_second : (spare : Bool) (k : ℕ) → (spare && (suc (suc k) == 1)) ≡ false
past_second spare k = ap (λ b. spare && b) (ne_eqb (suc (suc k)) 1 (λ same. omega (arith, same))) ∙ and_false spare

behind_boot : (spare : Bool) (later : List GivenEvent) → joins_so spare later ≡ true → (n : ℕ) → joins_at later n ≡ (spare && (suc n == 1))
behind_boot spare [] is zero = sym (not_false spare is) ∙ sym (and_with_true spare)
behind_boot spare [] is (suc k) = sym (past_second spare k)
behind_boot spare (second ∷ others) is zero = second_is spare (joins second) (and_true (is_second spare second) (not (list_any joins others)) is).0 ∙ sym (and_with_true spare)
behind_boot spare (second ∷ others) is (suc k) =
    none_joins others (not_false (list_any joins others) (and_true (is_second spare second) (not (list_any joins others)) is).1) k ∙ sym (past_second spare k)

pub joins_hold : (spare : Bool) (boot : GivenEvent) (later : List GivenEvent) → boot.event ≡ None → joins_so spare later ≡ true → JoinsSo spare (boot ∷ later)
joins_hold spare boot later none is zero = ap is_join none ∙ sym (and_false spare)
joins_hold spare boot later none is (suc n) = behind_boot spare later is n

pub joins_only : (spare : Bool) (boot : GivenEvent) (later : List GivenEvent) → JoinsSo spare (boot ∷ later) → joins_so spare later ≡ true
joins_only spare boot [] so = by_spare spare (so (suc zero))
  where
    by_spare : (b : Bool) → false ≡ (b && true) → not b ≡ true
    by_spare true is = is
    by_spare false is = refl
joins_only spare boot (second ∷ others) so =
    ap (λ b. b && not (list_any joins others)) (is_second_so spare (joins second) (so (suc zero) ∙ and_with_true spare))
    ∙ ap not (joins_none others (λ k. so (suc (suc k)) ∙ past_second spare k))
