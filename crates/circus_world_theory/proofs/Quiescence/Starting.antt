-- Where all calls of a run are held, its run may start; where all replies to an ask were said, it has a value.
use Rattle.std.proofs.Common.{◌≡◌, ℕ, zero, suc, ◌<◌, Bool, true, false, cond, ◌||◌, eqb, List, [], ◌∷◌, length, map, filter, All, Option, None, Some, IsSome, refl, sym, ap, subst, ◌∙◌, arith, eq-eqb, le-leb}
use Rattle.std.specs.Prelude.{slice_get, option_map, option_and_then}
use Rattle.std.specs.Option.{option_map_or}
use Rattle.std.specs.List.{list_any}
use Rattle.std.proofs.lemmas.List.Elements.{All-nil, All-cons, All-head, All-tail}
use Rattle.std.proofs.lemmas.Option.{none-some, same_Some}
use Rattle.circus_value.specs.Among.{is_among}
use Rattle.circus_header.specs.declared.answer.Reply.{Reply}
use Rattle.circus_header.specs.ReplyEquality.{reply_eq, reply_eq_equiv}
use Rattle.circus_collate.specs.Expecting.{expected_nodes, performs}
use Rattle.circus_collate.specs.Giving.{is_from, place_of_value}
use Rattle.circus_collate.specs.Collating.{answer, collate}
use Rattle.circus_fanout.specs.Asking.{Asking, index_of}
use Rattle.circus_fanout.specs.Knowing.{Knowing}
use Rattle.circus_member_rules.specs.Rules.{answer_in, value_of_ask}
use Rattle.circus_collate.specs.declared.kind.Kind.{Kind}
use Rattle.circus_collate.specs.declared.view.Entry.{Entry}
use Rattle.circus_collate.specs.declared.view.View.{View}
use Rattle.circus_collate.specs.declared.giving.Said.{Said}
use Rattle.circus_collate.specs.declared.deployment.Troupe.{Troupe}
use Rattle.circus_collate.proofs.Values.{given_said}
use Rattle.circus_ring.specs.RingTable.{boot_entry, boot_view}
use Rattle.circus_model.proofs.Lookups as lookups
use Rattle.circus_gather.specs.Gathering.{Gathered, is_counted, is_same_call, expected_callers, as_said, given_call, call_to_start}
use Rattle.circus_gather.specs.Seen.SameCalls.{same_call_equiv}
use Rattle.circus_gather.specs.declared.held.HeldCall.{HeldCall}
use Rattle.circus_world.proofs.SlotLemmas.{all_at}
use Rattle.circus_world_theory.proofs.Quiescence.Collating.{IsWithin, AllSay, all_given, given_alike}

-- the founders are expected
pub expected_founders : (n index : ℕ) (t : Troupe) → expected_nodes (boot_view n t) index ≡ t.founders
unfolding expected_nodes
expected_founders n index t = each t.founders
  where
    each : (founders : List ℕ) → map (λ (e : Entry). e.node) (filter (λ (e : Entry). performs e.since index) (map boot_entry founders)) ≡ founders
    each [] = refl
    each (x ∷ founders) =
        ap (λ b. map (λ (e : Entry). e.node) (cond b (boot_entry x ∷ filter (λ (e : Entry). performs e.since index) (map boot_entry founders)) (filter (λ (e : Entry). performs e.since index) (map boot_entry founders)))) (le-leb 0 index (omega arith))
        ∙ ap (λ l. x ∷ l) (each founders)

or_later : (a : Bool) {b : Bool} → b ≡ true → (a || b) ≡ true
or_later true is = refl
or_later false is = is

-- what makes calls the same
pub record IsLike (root client client_index procedure : ℕ) (path clock body : List ℕ) (c : HeldCall) : Type 0 where
  pub root_is : c.header.root ≡ root
  pub path_is : c.header.path ≡ path
  pub clock_is : c.header.clock ≡ clock
  pub client_is : c.header.client ≡ client
  pub client_index_is : c.header.client_index ≡ client_index
  pub procedure_is : c.header.procedure ≡ procedure
  pub body_is : c.body ≡ body

module _ (root client client_index procedure : ℕ) (path clock body : List ℕ) where
  abbrev Like : HeldCall → Type 0
  Like c = IsLike root client client_index procedure path clock body c

  like_same : (a b : HeldCall) → Like a → Like b → is_same_call a b ≡ true
  unfolding is_same_call
  like_same a b x y =
      let swap : is_same_call a a ≡ is_same_call a b =
      λ i. is_same_call a (record {
        header = record b.header {
          root = (x.root_is ∙ sym y.root_is) i;
          path = (x.path_is ∙ sym y.path_is) i;
          clock = (x.clock_is ∙ sym y.clock_is) i;
          client = (x.client_is ∙ sym y.client_is) i;
          client_index = (x.client_index_is ∙ sym y.client_index_is) i;
          procedure = (x.procedure_is ∙ sym y.procedure_is) i;
        };
        body = (x.body_is ∙ sym y.body_is) i;
        sender = b.sender;
      }) in
      sym swap ∙ same_call_equiv.refl a

  -- ---- calls

  any_said : (held : List HeldCall) (test : HeldCall → Bool) (node place : ℕ) (c : HeldCall) → slice_get held place ≡ Some c → c.sender.node ≡ node → test c ≡ true → list_any (is_from node) (map as_said (filter test held)) ≡ true
  any_said [] test node place c at of passes = absurd (none-some c at)
  any_said (h ∷ held) test node zero c at of passes =
      let same : h ≡ c = same_Some h c at in
      ap (λ b. list_any (is_from node) (map as_said (cond b (h ∷ filter test held) (filter test held)))) (ap test same ∙ passes)
      ∙ ap (λ b. b || list_any (is_from node) (map as_said (filter test held))) (eq-eqb h.sender.node node (ap (λ (x : HeldCall). x.sender.node) same ∙ of))
  any_said (h ∷ held) test node (suc place) c at of passes = by_test (any_said held test node place c at of passes) (test h)
    where
      by_test : list_any (is_from node) (map as_said (filter test held)) ≡ true → (b : Bool) → list_any (is_from node) (map as_said (cond b (h ∷ filter test held) (filter test held))) ≡ true
      by_test rest true = or_later (eqb h.sender.node node) rest
      by_test rest false = rest

  alike_said : (held : List HeldCall) → All Like held → All (λ (s : Said HeldCall). Like s.value) (map as_said held)
  alike_said [] all = All-nil (λ (s : Said HeldCall). Like s.value)
  alike_said (h ∷ held) all = All-cons (λ (s : Said HeldCall). Like s.value) (as_said h) (map as_said held) (All-head Like h held all) (alike_said held (All-tail Like h held all))

  value_there : {V : Type 0} (said : List (Said V)) (o : Option ℕ) → IsSome o → ((place : ℕ) → o ≡ Some place → place < length said) → IsSome (option_and_then (λ place. option_map (λ (s : Said V). s.value) (slice_get said place)) o)
  value_there said None some below = absurd cc
  value_there {V} said (Some place) some below =
      let s = lookups.within said place (below place refl) in
      subst (λ (x : Option (Said V)). IsSome (option_map (λ (y : Said V). y.value) x)) (sym s.1) refl

  pub starts_so : (g : Gathered) (views : List View) (down : List ℕ) (kind : Kind) (index : ℕ) (founders : List ℕ) → 0 < length founders → IsWithin kind (length founders)
      → All Like (filter (is_counted g.module g.required views index) g.held) → ((c : HeldCall) → Like c → expected_callers views c ≡ founders)
      → ((node : ℕ) → is_among founders node ≡ true → (place : ℕ) × (c : HeldCall) × (slice_get g.held place ≡ Some c) × (c.sender.node ≡ node) × (is_counted g.module g.required views index c ≡ true))
      → IsSome (call_to_start g views down kind index)
  unfolding given_call
  starts_so g views down kind index founders some within like expected each =
      let test = is_counted g.module g.required views index in
      let said = map as_said (filter test g.held) in
      let likes = alike_said (filter test g.held) like in
      let all : AllSay is_same_call same_call_equiv founders said = record {
        some = some;
        each = λ node among. (let h = each node among in any_said g.held test node h.0 h.1 h.2 h.3 h.4);
        same = λ one other s t at at_t. like_same s.value t.value (all_at (λ (x : Said HeldCall). Like x.value) said one s likes at) (all_at (λ (x : Said HeldCall). Like x.value) said other t likes at_t);
      } in
      let alike = given_alike is_same_call (expected_callers views) founders said (λ place s at. expected s.value (all_at (λ (x : Said HeldCall). Like x.value) said place s likes at)) kind down in
      value_there said (place_of_value is_same_call (expected_callers views) said kind down) (subst (λ (o : Option ℕ). IsSome o) (sym alike) (all_given is_same_call same_call_equiv founders said all kind down within))
      (λ place is. given_said is_same_call (expected_callers views) said kind down place is)

-- ---- replies

pub value_so : (k : Knowing) (a : Asking) (n : ℕ) (t : Troupe) → slice_get k.views a.header.server ≡ Some (boot_view n t) → 0 < length t.founders → IsWithin a.kind (length t.founders)
    → ((node : ℕ) → is_among t.founders node ≡ true → list_any (is_from node) a.said ≡ true) → (reply : Reply) → All (λ (s : Said Reply). s.value ≡ reply) a.said → IsSome (value_of_ask k a)
value_so k a n t view some within each reply same =
    let all : AllSay reply_eq reply_eq_equiv t.founders a.said = record {
      some = some;
      each = each;
      same = λ one other s u at at_u.
          let x : s.value ≡ reply = all_at (λ (y : Said Reply). y.value ≡ reply) a.said one s same at in
          let z : u.value ≡ reply = all_at (λ (y : Said Reply). y.value ≡ reply) a.said other u same at_u in
          ap (λ r. reply_eq s.value r) (z ∙ sym x) ∙ reply_eq_equiv.refl s.value;
    } in
    let index = index_of a.header in
    let given_ = all_given reply_eq reply_eq_equiv t.founders a.said all a.kind k.down within in
    subst (λ (o : Option View). IsSome (option_map_or (λ v. answer_in a (collate reply_eq (expected_nodes v index) k.down a.said a.kind)) o None)) (sym view)
    (subst (λ nodes. IsSome (answer_in a (collate reply_eq nodes k.down a.said a.kind))) (sym (expected_founders n index t))
    (by_given t.founders (place_of_value reply_eq (λ _. t.founders) a.said a.kind k.down) given_ (λ place is. given_said reply_eq (λ _. t.founders) a.said a.kind k.down place is) _))
  where
    by_given : (founders : List ℕ) (o : Option ℕ) → IsSome o → ((place : ℕ) → o ≡ Some place → place < length a.said) → (other : Option ℕ) → IsSome (answer_in a (answer o other))
    by_given founders None is below other = absurd cc
    by_given founders (Some place) is below other =
        let s = lookups.within a.said place (below place refl) in
        subst (λ (x : Option (Said Reply)). IsSome (option_map (λ (y : Said Reply). y.value) x)) (sym s.1) refl
