-- The calls that a member makes for its asks are true.
use Rattle.std.proofs.Common.{◌≡◌, ℕ, Bool, true, false, not, ◌&&◌, nat_lt, if◌then◌else◌, List, [], ◌∷◌, filter, All, Option, Some, None, refl, sym, subst, arith}
use Rattle.std.specs.Prelude.{slice_get}
use Rattle.std.specs.List.{flat_map}
use Rattle.std.specs.Option.{option_map_or}
use Rattle.std.proofs.lemmas.List.Elements.{All-nil, All-cons, All-append, All-map, All-weaker, All-head, All-tail, All-get_or, All-filter}
use Rattle.std.proofs.lemmas.Option.{slice_get_within, get_or_from_slice_get}
use Rattle.circus_value.specs.ValueTree.{ValueTree}
use Rattle.circus_value.specs.Among.{is_among}
use Rattle.circus_value.specs.declared.caller.Caller.{Caller}
use Rattle.circus_header.specs.CallFields.{IsIncarnation}
use Rattle.circus_header.specs.declared.call.CallHeader.{CallHeader}
use Rattle.circus_collate.specs.declared.view.View.{View}
use Rattle.circus_collate.specs.declared.view.Entry.{Entry}
use Rattle.circus_collate.specs.Expecting.{has_node}
use Rattle.circus_model.specs.Behaviour.{Behaviour}
use Rattle.circus_model.specs.Agree.{IsAt, AreModules, Agree}
use Rattle.circus_model.specs.Execution.{history_of}
use Rattle.circus_model.specs.History.{clock_before}
use Rattle.circus_fanout.specs.Knowing.{Knowing}
use Rattle.circus_fanout.specs.Asking.{Asking, calls_for_a_view, is_due, send_to, next}
use Rattle.circus_fanout.specs.declared.asked.Asked.{Asked}
use Rattle.circus_fanout.specs.declared.send.Send.{Send}
use Rattle.circus_fanout.specs.declared.send.Next.{Next}
use Rattle.circus_fanout.specs.declared.send.Next.TheVariants as N
use Rattle.circus_member_rules.specs.declared.occurrence.AskName.{AskName}
use Rattle.circus_member_rules.specs.Callable.{MayCall}
use Rattle.circus_member_rules.specs.Rules.{incarnation_of, header_now, call_of_ask, calls_of_ask, call_for, is_to, calls_for_view, calls_for_a_new_view}
use Rattle.circus_member_rules.proofs.Calls.{may_ask}
use Rattle.circus_member_theory.proofs.Histories.{index_is_few, takes, clock_counts}
use Rattle.circus_member_rules.specs.Proper.{AreProper}
use Rattle.circus_member_theory.specs.Truth.{IsLong, IsNamed, IsTrueEffect}
use Rattle.circus_member_theory.proofs.Headers.{HasRanges, is_one_call}
use Rattle.circus_member_theory.proofs.Ranges.{few_are_long, taken_is}

-- ---- incarnations of views

-- an incarnation that a header may name
pub record MayName (incarnation : ℕ) : Type 0 where
  pub some : IsIncarnation incarnation
  pub long : IsLong incarnation

-- the calls that a view makes due name it
pub named_by_view : (view : View) (down : List ℕ) (asked : List Asked) → MayName view.incarnation → All (λ (s : Send). MayName s.incarnation) (calls_for_a_view view down asked)
unfolding calls_for_a_view
named_by_view view down asked is =
    All-map (λ (s : Send). MayName s.incarnation) (λ (e : Entry). send_to view e.node) (filter (is_due view down asked) view.entries) (λ _ _ _. is)

-- and so does one that follows a Stale
abbrev pub NamesOne : Next → Type 0
NamesOne (N.Send send) = MayName send.incarnation
NamesOne (N.Lookup incarnation) = Unit {0}
NamesOne N.Leave = Unit {0}

pub next_by_view : (view : View) (down : List ℕ) (node incarnation : ℕ) → MayName view.incarnation → NamesOne (next view down node incarnation)
unfolding next
next_by_view view down node incarnation is =
    by_tests (nat_lt view.incarnation incarnation) (has_node view node && not (is_among down node))
  where
    by_tests : (later sends : Bool) → NamesOne (if later then N.Lookup incarnation else if sends then N.Send (send_to view node) else N.Leave)
    by_tests true sends = tt
    by_tests false true = is
    by_tests false false = tt

-- the known views
abbrev pub AreViewsLong : List View → Type 0
AreViewsLong views = All (λ (v : View). IsLong v.incarnation) views

pub known_is_long : (views : List View) (troupe : ℕ) (view : View) → slice_get views troupe ≡ Some view → AreViewsLong views → IsLong view.incarnation
known_is_long views troupe view at are =
    subst (λ (v : View). IsLong v.incarnation) (get_or_from_slice_get views troupe view view at)
    (All-get_or (λ (v : View). IsLong v.incarnation) views troupe view (slice_get_within views troupe view at) are)

pub incarnation_is_long : (k : Knowing) (troupe : ℕ) → AreViewsLong k.views → IsLong (incarnation_of k troupe)
incarnation_is_long k troupe are = by_view (slice_get k.views troupe) refl
  where
    by_view : (o : Option View) → slice_get k.views troupe ≡ o → IsLong (option_map_or (λ (v : View). v.incarnation) o 0)
    by_view None at = omega arith
    by_view (Some view) at = known_is_long k.views troupe view at are

-- ---- what holds of each part of a list

pub All-flat_map : {X Y : Type 0} (P : Y → Type 0) (f : X → List Y) (xs : List X) → All (λ (x : X). All P (f x)) xs → All P (flat_map f xs)
All-flat_map P f [] all = All-nil P
All-flat_map {X} P f (x ∷ xs) all =
    let each : X → Type 0 = λ y. All P (f y) in
    All-append P (f x) (flat_map f xs) (All-head each x xs all) (All-flat_map P f xs (All-tail each x xs all))

-- ---- calls

module _ (program : List Behaviour) (agree : Agree program) (are : AreModules program) (proper : AreProper program) (troupe : ℕ) (b : Behaviour)
    (at : IsAt program troupe b) (first : List ValueTree) (Called : Caller → List ℕ → Type 0) where
  -- the header of an ask of the history has its ranges
  pub named_ranges : (name : AskName) (header : CallHeader) (body : List ℕ) → IsNamed (history_of program) troupe first Called name header body → HasRanges header
  named_ranges name header body named =
      let so = named.so in
      let there = named.there in
      let taken = taken_is program agree are troupe b named.ask.callee named.ask.procedure named.ask.arguments at
      (takes program agree are troupe b at name.run name.ask named.run named.ask there) in
      let small = ((proper named.ask.callee taken.imported taken.there).procedures taken.shape taken.among).number in
      let few = index_is_few program agree are troupe name.run named.run there.run_is in
      let procedure = so.procedure in
      let number = taken.number in
      let index = named.client_index in
      record {
        procedure = omega (arith, small, procedure, number);
        client_index = omega (arith, few, index);
        clock = subst (λ c. All IsLong c) (sym so.clock) (few_are_long (clock_before named.run name.ask)
            (λ entry. let less = clock_counts program agree are troupe b at name.run name.ask named.run named.ask there entry in omega (arith, less)));
      }

  -- an ask whose calls may be made now
  pub record IsReady (k : Knowing) (name : AskName) (a : Asking) : Type 0 where
    pub may : MayCall k a
    pub client : IsLong (incarnation_of k a.header.client)
    pub named : IsNamed (history_of program) troupe first Called name a.header a.body

  pub one_call_is_true : (k : Knowing) (name : AskName) (a : Asking) (send : Send) → IsReady k name a → MayName send.incarnation
      → IsTrueEffect (history_of program) troupe first Called (call_of_ask k name a send)
  one_call_is_true k name a send ready one =
      let named = ready.named in
      let so = named.so in
      let h = header_now k a send in
      let now : IsNamed (history_of program) troupe first Called name h a.body =
      record {
        run = named.run;
        ask = named.ask;
        there = named.there;
        so = record { root = so.root; path = so.path; server = so.server; procedure = so.procedure; clock = so.clock; body_is = so.body_is };
        client = named.client;
        client_index = named.client_index;
      } in
      record {
        header = h;
        body = a.body;
        message_is = refl;
        header_is = is_one_call h (may_ask k a send a.header (incarnation_of k a.header.client) refl refl ready.may one.some) (named_ranges name h a.body now) ready.client one.long;
        named = now;
        server_is = refl;
      }

  pub calls_are_true : (k : Knowing) (name : AskName) (a : Asking) (sends : List Send) → IsReady k name a → All (λ (s : Send). MayName s.incarnation) sends
      → All (IsTrueEffect (history_of program) troupe first Called) (calls_of_ask k name a sends)
  calls_are_true k name a sends ready all =
      All-map (IsTrueEffect (history_of program) troupe first Called) (call_of_ask k name a) sends
      (All-weaker (λ (s : Send). MayName s.incarnation) (λ (s : Send). IsTrueEffect (history_of program) troupe first Called (call_of_ask k name a s))
      (λ s. one_call_is_true k name a s ready) sends all)

  pub call_for_is_true : (k : Knowing) (name : AskName) (a : Asking) (n : Next) → IsReady k name a → NamesOne n
      → All (IsTrueEffect (history_of program) troupe first Called) (call_for k name a n)
  call_for_is_true k name a (N.Send send) ready one =
      All-cons (IsTrueEffect (history_of program) troupe first Called) (call_of_ask k name a send) [] (one_call_is_true k name a send ready one)
      (All-nil (IsTrueEffect (history_of program) troupe first Called))
  call_for_is_true k name a (N.Lookup incarnation) ready one = All-nil (IsTrueEffect (history_of program) troupe first Called)
  call_for_is_true k name a N.Leave ready one = All-nil (IsTrueEffect (history_of program) troupe first Called)

  -- a new view makes calls due
  pub new_view_calls_are_true : (k : Knowing) (view : View) (asks : List (AskName × Asking)) → MayName view.incarnation → All (λ (e : AskName × Asking). IsReady k e.0 e.1) asks
      → All (IsTrueEffect (history_of program) troupe first Called) (calls_for_a_new_view k view asks)
  new_view_calls_are_true k view asks one ready =
      let P = IsTrueEffect (history_of program) troupe first Called in
      All-flat_map P (calls_for_view k view) (filter (is_to view.troupe) asks)
      (All-filter (is_to view.troupe) (λ (e : AskName × Asking). All P (calls_for_view k view e)) asks
      (All-weaker (λ (e : AskName × Asking). IsReady k e.0 e.1) (λ (e : AskName × Asking). All P (calls_for_view k view e))
      (λ e here. calls_are_true k e.0 e.1 (calls_for_a_view view k.down e.1.asked) here (named_by_view view k.down e.1.asked one)) asks ready))
