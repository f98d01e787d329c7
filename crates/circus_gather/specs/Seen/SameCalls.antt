-- Calls that are the same value are so in any order, and through a third.
use Rattle.std.specs.Prelude.{◌≡◌, Bool, true, false, ◌&&◌, nat_eq, refl}
use Rattle.std.specs.Cmp.{IsEquivalence, IsPartialEquivalence, partial_equiv_from_equiv, nat_eq_equiv, on_per, equiv}
use Rattle.std.specs.Cmp.Lexicographic.{pointwise, nat_list_eq_equiv}
use Rattle.circus_gather.specs.declared.held.HeldCall.{HeldCall}
use Rattle.circus_header.specs.declared.call.CallHeader.{CallHeader}
use Rattle.circus_gather.specs.Gathering.{is_same_call, is_of_one_thread, is_of_one_client}

left : (a b : Bool) → (a && b) ≡ true → a ≡ true
left true b is = refl
left false b is = is

right : (a b : Bool) → (a && b) ≡ true → b ≡ true
right true b is = is
right false b is = cc

both : (a b : Bool) → a ≡ true → b ≡ true → (a && b) ≡ true
both a b p q = λ j. p j && q j

module _ {K : Type 0} {E F : K → K → Bool} where
  and_per : IsPartialEquivalence E → IsPartialEquivalence F → IsPartialEquivalence (λ x y. E x y && F x y)
  and_per e f = record {
    symm = λ x y. λ j. e.symm x y j && f.symm x y j;
    trans = λ x y z p q.
        both (E x z) (F x z) (e.trans x y z (left (E x y) (F x y) p) (left (E y z) (F y z) q))
        (f.trans x y z (right (E x y) (F x y) p) (right (E y z) (F y z) q));
  }

number : IsPartialEquivalence nat_eq
number = partial_equiv_from_equiv nat_eq_equiv

numbers : IsPartialEquivalence (pointwise nat_eq)
numbers = partial_equiv_from_equiv nat_list_eq_equiv

one_thread : IsPartialEquivalence is_of_one_thread
one_thread =
    and_per (and_per (on_per (λ (h : CallHeader). h.root) number) (on_per (λ (h : CallHeader). h.path) numbers)) (on_per (λ (h : CallHeader). h.clock) numbers)

one_client : IsPartialEquivalence is_of_one_client
one_client = and_per (on_per (λ (h : CallHeader). h.client) number) (on_per (λ (h : CallHeader). h.client_index) number)

pub same_call_per : IsPartialEquivalence is_same_call
unfolding is_same_call
same_call_per =
    and_per
    (and_per
    (and_per (on_per (λ (c : HeldCall). c.header) one_thread) (on_per (λ (c : HeldCall). c.header) one_client))
    (on_per (λ (c : HeldCall). c.header.procedure) number))
    (on_per (λ (c : HeldCall). c.body) numbers)

same : (c : HeldCall) → is_same_call c c ≡ true
unfolding is_same_call
same c =
    let h = c.header in
    both _ _
    (both _ _
    (both _ _ (both _ _ (both _ _ (nat_eq_equiv.refl h.root) (nat_list_eq_equiv.refl h.path)) (nat_list_eq_equiv.refl h.clock))
    (both _ _ (nat_eq_equiv.refl h.client) (nat_eq_equiv.refl h.client_index)))
    (nat_eq_equiv.refl h.procedure))
    (nat_list_eq_equiv.refl c.body)

pub same_call_equiv : IsEquivalence is_same_call
same_call_equiv = equiv same_call_per same
