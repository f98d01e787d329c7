-- Calls are taken for the same exactly where they say the same.
use Rattle.std.proofs.Common.{◌≡◌, ◌↔◌, ℕ, Bool, true, false, ◌&&◌, List, [], ◌∷◌, refl, sym, ap, ◌∙◌}
use Rattle.std.specs.Prelude.{nat_eq}
use Rattle.std.specs.Cmp.Lexicographic.{pointwise}
use Rattle.std.proofs.lemmas.Bool.{eqb-true, eq-eqb}
use Rattle.circus_gather.specs.declared.held.HeldCall.{HeldCall}
use Rattle.circus_gather.specs.Gathering.{is_same_call}
use Rattle.circus_headline_theory.specs.Owed.SameCall.{SaySame}

both : (a b : Bool) → (a && b) ≡ true → (a ≡ true) × (b ≡ true)
both true b is = (refl, is)
both false b is = absurd (let clash : false ≡ true = is in cc)

same_list : (xs ys : List ℕ) → pointwise nat_eq xs ys ≡ true → xs ≡ ys
same_list [] [] is = refl
same_list [] (y ∷ ys) is = absurd (let clash : false ≡ true = is in cc)
same_list (x ∷ xs) [] is = absurd (let clash : false ≡ true = is in cc)
same_list (x ∷ xs) (y ∷ ys) is =
    let parts = both (nat_eq x y) (pointwise nat_eq xs ys) is in
    λ j. eqb-true x y parts.0 j ∷ same_list xs ys parts.1 j

list_same : (xs : List ℕ) → pointwise nat_eq xs xs ≡ true
list_same [] = refl
list_same (x ∷ xs) = ap (λ b. b && pointwise nat_eq xs xs) (eq-eqb x x refl) ∙ list_same xs

say_same : (a b : HeldCall) → is_same_call a b ≡ true → SaySame a b
unfolding is_same_call
say_same a b is =
    let whole = both _ _ is in
    let called = both _ _ whole.0 in
    let who = both _ _ called.0 in
    let thread = both _ _ who.0 in
    let place = both _ _ thread.0 in
    let client = both _ _ who.1 in
    record {
      root = eqb-true a.header.root b.header.root place.0;
      path = same_list a.header.path b.header.path place.1;
      clock = same_list a.header.clock b.header.clock thread.1;
      client = eqb-true a.header.client b.header.client client.0;
      client_index = eqb-true a.header.client_index b.header.client_index client.1;
      procedure = eqb-true a.header.procedure b.header.procedure called.1;
      body = same_list a.body b.body whole.1;
    }

same_as_itself : (a : HeldCall) → is_same_call a a ≡ true
unfolding is_same_call
same_as_itself a =
    (λ j.
    (eq-eqb a.header.root a.header.root refl j && list_same a.header.path j && list_same a.header.clock j)
    && (eq-eqb a.header.client a.header.client refl j && eq-eqb a.header.client_index a.header.client_index refl j) && eq-eqb a.header.procedure a.header.procedure refl j && list_same a.body j)

-- a call that says what another one says, whoever sent it
abbrev saying : HeldCall → HeldCall → HeldCall
saying x y = record {
  header = record y.header {
    root = x.header.root;
    path = x.header.path;
    clock = x.header.clock;
    client = x.header.client;
    client_index = x.header.client_index;
    procedure = x.header.procedure;
  };
  body = x.body;
  sender = y.sender;
}

like_itself : (x y : HeldCall) → is_same_call x (saying x y) ≡ true
unfolding is_same_call
like_itself x y = same_as_itself x

same_said : (a b : HeldCall) → SaySame a b → is_same_call a b ≡ true
same_said a b s =
    (λ i. is_same_call a (record {
      header = record b.header {
        root = sym s.root i;
        path = sym s.path i;
        clock = sym s.clock i;
        client = sym s.client i;
        client_index = sym s.client_index i;
        procedure = sym s.procedure i;
      };
      body = sym s.body i;
      sender = b.sender;
    }))
    ∙ like_itself a b

pub calls_are_the_same : (a b : HeldCall) → (is_same_call a b ≡ true) ↔ SaySame a b
calls_are_the_same a b = (say_same a b, same_said a b)
