-- What was said to an ask that waits is what came since it was asked, so its value is that of all replies that came.
use Rattle.std.proofs.Common.{◌≡◌, ℕ, ◌<◌, ◌≤◌, nat_eq, nat_lt, Bool, true, false, cond, if◌then◌else◌, true≢false, List, [], ◌∷◌, ◌++◌, map, filter, Option, None, Some, refl, ap, sym, subst, ◌∙◌, arith}
use Rattle.std.specs.Prelude.{slice_get, option_map, option_and_then}
use Rattle.std.specs.Option.{option_map_or}
use Rattle.std.specs.Map.{set_value}
use Rattle.std.proofs.lemmas.Bool.{lt-ltb, le-ltb, le-leb, lt-leb}
use Rattle.std.proofs.lemmas.List.{append-nil}
use Rattle.std.proofs.lemmas.Map.{lookup-set_value}
use Rattle.std.proofs.lemmas.Map.Made.{lookup-map_values}
use Rattle.std.proofs.lemmas.Option.{same_Some}
use Rattle.circus_header.specs.declared.call.CallHeader.{CallHeader}
use Rattle.circus_header.specs.declared.answer.Reply.{Reply}
use Rattle.circus_header.specs.ReplyEquality.{reply_eq}
use Rattle.circus_collate.specs.declared.view.View.{View}
use Rattle.circus_collate.specs.declared.giving.Said.{Said}
use Rattle.circus_collate.specs.declared.kind.Kind.{Kind}
use Rattle.circus_collate.specs.declared.collating.Collated.{Collated}
use Rattle.circus_collate.specs.declared.collating.Collated.TheVariants.{Waiting, Answer, Differ}
use Rattle.circus_collate.specs.Expecting.{expected_nodes}
use Rattle.circus_collate.specs.Collating.{collate}
use Rattle.circus_transfer.specs.declared.joiner.Joiner.{Joiner}
use Rattle.circus_record.specs.declared.record.AskRecord.{AskRecord}
use Rattle.circus_fanout.specs.Knowing.{Knowing}
use Rattle.circus_fanout.specs.Asking.{Asking, index_of, with_view, with_reply, with_before, with_stale}
use Rattle.circus_member_rules.specs.declared.place.Place.{Place}
use Rattle.circus_member_rules.specs.declared.occurrence.AskName.{AskName}
use Rattle.circus_member_rules.specs.declared.occurrence.Occurrence.TheVariants as comes
use Rattle.circus_member_rules.specs.OpenAsks.{is_name, asking_of, with_ask, with_asking}
use Rattle.circus_member_rules.specs.Rules.{answer_in, value_of_ask, after_stale, seen_by_ask, with_new_view}
use Rattle.circus_member_rules.proofs.Named.{names_decide, names_are, lookup-kept, opened_there}
use Rattle.circus_member_theory.specs.Past.{Past, booted, followed, now, Rises, views_known, nodes_declared_down, reply_said, replies_to}
use Rattle.circus_member_theory.specs.Timely.{given_value, collated_reply, may_answer}
use Rattle.circus_member_theory.proofs.Timely.Firsts.{none_earlier}
use Rattle.circus_member_theory.proofs.Timely.Runs.{IsNew, IsStillWaiting}

-- ---- what was said so far

-- nothing is said to an ask in the step in which it is made, nor before
pub said_none : (asked : ℕ) (name : AskName) (p : Past) → Rises p → now p ≤ asked → replies_to asked name p ≡ []
said_none asked name booted rises below = refl
said_none asked name (followed p step (comes.Asked header body sender)) rises below = said_none asked name p rises.0 (omega (arith, rises.1))
said_none asked name (followed p step (comes.Fetched incarnation sender)) rises below = said_none asked name p rises.0 (omega (arith, rises.1))
said_none asked name (followed p step (comes.Replied other from reply)) rises below =
    let before = said_none asked name p rises.0 (omega (arith, rises.1)) in
    let late : nat_lt asked step ≡ false = le-ltb asked step below in
    ap (λ xs. xs ++ reply_said asked name step other from reply) before ∙ rw late refl
said_none asked name (followed p step (comes.IsStale other server from incarnation)) rises below = said_none asked name p rises.0 (omega (arith, rises.1))
said_none asked name (followed p step (comes.IsBefore other from)) rises below = said_none asked name p rises.0 (omega (arith, rises.1))
said_none asked name (followed p step (comes.Told request table)) rises below = said_none asked name p rises.0 (omega (arith, rises.1))
said_none asked name (followed p step (comes.Restored state count)) rises below = said_none asked name p rises.0 (omega (arith, rises.1))
said_none asked name (followed p step (comes.Declared node)) rises below = said_none asked name p rises.0 (omega (arith, rises.1))
said_none asked name (followed p step comes.Joins) rises below = said_none asked name p rises.0 (omega (arith, rises.1))

-- ---- names

pub names_turned : (one other : AskName) → is_name one other ≡ is_name other one
names_turned one other = by_test (is_name one other) refl
  where
    by_other : (b : Bool) → is_name other one ≡ b → is_name one other ≡ false → false ≡ b
    by_other false here not_here = refl
    by_other true here not_here =
        let same : other ≡ one = (names_decide other one).0 here in
        absurd (true≢false (sym (subst (λ n. is_name one n ≡ true) (sym same) (names_are.refl one)) ∙ not_here))

    by_test : (b : Bool) → is_name one other ≡ b → is_name one other ≡ is_name other one
    by_test true here =
        let same : one ≡ other = (names_decide one other).0 here in
        here ∙ sym (subst (λ n. is_name n one ≡ true) same (names_are.refl one))
    by_test false here = here ∙ by_other (is_name other one) refl here

-- the ask of a name, once that of another or of this is changed
found_changed : (other name : AskName) (change : Asking → Asking) (asks : List (AskName × Asking)) (a : Asking) → asking_of asks name ≡ Some a
    → asking_of (with_asking other change asks) name ≡ Some (if is_name other name then change a else a)
found_changed other name change asks a there = by_found (asking_of asks other) refl
  where
    by_none : (b : Bool) → is_name other name ≡ b → asking_of asks other ≡ None → Some a ≡ Some (if b then change a else a)
    by_none false here none = refl
    by_none true here none =
        let same : other ≡ name = (names_decide other name).0 here in
        let some : asking_of asks other ≡ Some a = ap (asking_of asks) same ∙ there in
        cc

    by_some : (b : Bool) (x : Asking) → is_name other name ≡ b → asking_of asks other ≡ Some x → cond b (Some (change x)) (asking_of asks name) ≡ Some (if b then change a else a)
    by_some false x here some = there
    by_some true x here some =
        let same : other ≡ name = (names_decide other name).0 here in
        let one : x ≡ a = same_Some x a (sym some ∙ ap (asking_of asks) same ∙ there) in
        ap (λ y. Some (change y)) one

    by_found : (o : Option Asking) → asking_of asks other ≡ o
        → asking_of (option_map_or (λ (x : Asking). set_value (is_name other) asks (change x)) o asks) name ≡ Some (if is_name other name then change a else a)
    by_found None none = there ∙ by_none (is_name other name) refl none
    by_found (Some x) some =
        lookup-set_value names_are (is_name other) (λ y z here. names_are.congr other y z here) name (change x) asks (rw some refl)
        ∙ by_some (is_name other name) x refl some

module _ (place : Place) (boot : List View) (begins : Joiner) where
  -- ---- an ask that waits

  -- this is asked, and this was said to it
  pub record IsAskingOf (p : Past) (name : AskName) (ask : AskRecord) (a : Asking) : Type 0 where
    pub said_so : a.said ≡ replies_to ask.asked name p
    pub kind : a.kind ≡ place.replies
    pub server : a.header.server ≡ ask.callee
    pub index : index_of a.header ≡ ask.index

  -- it waits by its name
  pub record IsWaitingBy (p : Past) (asks : List (AskName × Asking)) (name : AskName) (ask : AskRecord) : Type 0 where
    pub asking : Asking
    pub there : asking_of asks name ≡ Some asking
    pub so : IsAskingOf p name ask asking

  -- ---- its value

  value_said : (a : Asking) (c : Collated) → answer_in a c ≡ given_value a.said c
  value_said a Waiting = refl
  value_said a (Answer n) = refl
  value_said a (Differ one other) = refl

  by_known : (o : Option View) (f : View → Option Reply) → option_map_or f o None ≡ option_and_then f o
  by_known None f = refl
  by_known (Some view) f = refl

  pub value_is : (k : Knowing) (p : Past) (name : AskName) (ask : AskRecord) (a : Asking) → k.views ≡ views_known boot p → k.down ≡ nodes_declared_down p → IsAskingOf p name ask a → ask.asked ≤ now p
      → value_of_ask k a ≡ may_answer place boot begins name ask p
  value_is k p name ask a views gone h below =
      let so : View → List (Said Reply) → Kind → ℕ → List ℕ → Collated = λ view xs kind index nodes. collate reply_eq (expected_nodes view index) nodes xs kind in
      by_known (slice_get k.views a.header.server) (λ (view : View). answer_in a (so view a.said a.kind (index_of a.header) k.down))
      ∙ ap (λ (f : View → Option Reply). option_and_then f (slice_get k.views a.header.server)) (λ j view. value_said a (so view a.said a.kind (index_of a.header) k.down) j)
      ∙ (λ j. option_and_then (λ (view : View). given_value (h.said_so j) (so view (h.said_so j) (h.kind j) (h.index j) (gone j))) (slice_get (views j) (h.server j)))
      ∙ ap (λ b. if b then collated_reply place boot begins name ask p else None) (sym (le-leb ask.asked (now p) below))

  -- none before it was asked
  pub not_asked : (name : AskName) (ask : AskRecord) (q : Past) → now q < ask.asked → may_answer place boot begins name ask q ≡ None
  not_asked name ask q before = ap (λ b. if b then collated_reply place boot begins name ask q else None) (lt-leb ask.asked (now q) before)

  -- so a new ask might not be answered before
  pub new_waits : (p : Past) (name : AskName) (ask : AskRecord) → Rises p → IsNew (now p) ask → IsStillWaiting place boot begins p name ask
  new_waits p name ask rises new =
      record {
        not_answered = new.not_answered;
        no_reply = new.no_reply;
        no_clock = new.no_clock;
        nothing = none_earlier (may_answer place boot begins name ask) p rises (λ q before. not_asked name ask q (subst (λ n. now q < n) (sym new.asked) before));
      }

  -- ---- what happens to it

  -- nothing is said to it
  pub asking_same : (p later : Past) (name : AskName) (ask : AskRecord) (a x : Asking) → replies_to ask.asked name later ≡ replies_to ask.asked name p → x.said ≡ a.said → x.kind ≡ a.kind
      → x.header ≡ a.header
      → IsAskingOf p name ask a → IsAskingOf later name ask x
  asking_same p later name ask a x silent words kind header h =
      record {
        said_so = words ∙ h.said_so ∙ sym silent;
        kind = kind ∙ h.kind;
        server = ap (λ (c : CallHeader). c.server) header ∙ h.server;
        index = ap (λ (c : CallHeader). index_of c) header ∙ h.index;
      }

  pub waits_same : (p later : Past) (asks : List (AskName × Asking)) (name : AskName) (ask : AskRecord) → replies_to ask.asked name later ≡ replies_to ask.asked name p
      → IsWaitingBy p asks name ask
      → IsWaitingBy later asks name ask
  waits_same p later asks name ask silent w =
      record { asking = w.asking; there = w.there; so = asking_same p later name ask w.asking w.asking silent refl refl refl w.so }

  -- a change of an ask, but for what it asks and what was said
  changed_silent : (p later : Past) (asks : List (AskName × Asking)) (name other : AskName) (ask : AskRecord) (change : Asking → Asking)
      → replies_to ask.asked name later ≡ replies_to ask.asked name p
      → ((a : Asking) → (change a).said ≡ a.said) → ((a : Asking) → (change a).kind ≡ a.kind) → ((a : Asking) → (change a).header ≡ a.header)
      → IsWaitingBy p asks name ask → IsWaitingBy later (with_asking other change asks) name ask
  changed_silent p later asks name other ask change silent words kind header w =
      record { asking = if is_name other name then change w.asking else w.asking; there = found_changed other name change asks w.asking w.there; so = by_test (is_name other name) }
    where
      by_test : (b : Bool) → IsAskingOf later name ask (if b then change w.asking else w.asking)
      by_test true = asking_same p later name ask w.asking (change w.asking) silent (words w.asking) (kind w.asking) (header w.asking) w.so
      by_test false = asking_same p later name ask w.asking w.asking silent refl refl refl w.so

  pub waits_replied : (p : Past) (step : ℕ) (asks : List (AskName × Asking)) (name other : AskName) (ask : AskRecord) (from : ℕ) (reply : Reply) → ask.asked < step
      → IsWaitingBy p asks name ask
      → IsWaitingBy (followed p step (comes.Replied other from reply)) (with_asking other (with_reply from reply) asks) name ask
  waits_replied p step asks name other ask from reply later w =
      record {
        asking = if is_name other name then with_reply from reply w.asking else w.asking;
        there = found_changed other name (with_reply from reply) asks w.asking w.there;
        so = by_test (is_name other name) (names_turned name other);
      }
    where
      by_test : (b : Bool) → is_name name other ≡ b → IsAskingOf (followed p step (comes.Replied other from reply)) name ask (if b then with_reply from reply w.asking else w.asking)
      by_test true here =
          let came : nat_lt ask.asked step ≡ true = lt-ltb ask.asked step later in
          let so = w.so in
          record {
            said_so = rw (came, here) (ap (λ xs. xs ++ record { node = from; value = reply } ∷ []) so.said_so);
            kind = so.kind;
            server = so.server;
            index = so.index;
          }
      by_test false here =
          let came : nat_lt ask.asked step ≡ true = lt-ltb ask.asked step later in
          let so = w.so in
          record {
            said_so = rw (came, here) (so.said_so ∙ sym (append-nil (replies_to ask.asked name p)));
            kind = so.kind;
            server = so.server;
            index = so.index;
          }

  pub waits_stale : (p : Past) (step : ℕ) (k : Knowing) (asks : List (AskName × Asking)) (name other : AskName) (ask : AskRecord) (server from incarnation : ℕ)
      → IsWaitingBy p asks name ask
      → IsWaitingBy (followed p step (comes.IsStale other server from incarnation)) (with_asking other (after_stale k from incarnation) asks) name ask
  waits_stale p step k asks name other ask server from incarnation w =
      changed_silent p (followed p step (comes.IsStale other server from incarnation)) asks name other ask (after_stale k from incarnation) refl
      (λ a. by_said a (slice_get k.views a.header.server)) (λ a. by_kind a (slice_get k.views a.header.server)) (λ a. by_header a (slice_get k.views a.header.server)) w
    where
      by_said : (a : Asking) (o : Option View) → let x = option_map_or (λ (view : View). with_stale view k.down from incarnation a) o a in x.said ≡ a.said
      by_said a None = refl
      by_said a (Some view) = refl

      by_kind : (a : Asking) (o : Option View) → let x = option_map_or (λ (view : View). with_stale view k.down from incarnation a) o a in x.kind ≡ a.kind
      by_kind a None = refl
      by_kind a (Some view) = refl

      by_header : (a : Asking) (o : Option View) → let x = option_map_or (λ (view : View). with_stale view k.down from incarnation a) o a in x.header ≡ a.header
      by_header a None = refl
      by_header a (Some view) = refl

  pub waits_before : (p : Past) (step : ℕ) (asks : List (AskName × Asking)) (name other : AskName) (ask : AskRecord) (from : ℕ) → IsWaitingBy p asks name ask
      → IsWaitingBy (followed p step (comes.IsBefore other from)) (with_asking other (with_before from) asks) name ask
  waits_before p step asks name other ask from w =
      changed_silent p (followed p step (comes.IsBefore other from)) asks name other ask (with_before from) refl (λ a. refl) (λ a. refl) (λ a. refl) w

  -- where each ask to a troupe sees a view
  abbrev seen : Knowing → View → Asking → Asking
  seen k view a = if nat_eq a.header.server view.troupe then with_view view k.down a else a

  seen_entry : (k : Knowing) (view : View) (e : AskName × Asking) → seen_by_ask k view e ≡ (e.0, seen k view e.1)
  seen_entry k view e =
      elim (nat_eq e.1.header.server view.troupe) as (λ t. ◌≡◌ {A = AskName × Asking} (if t then (e.0, with_view view k.down e.1) else e)
      (e.0, if t then with_view view k.down e.1 else e.1)) [
        | true ↦ refl
        | false ↦ refl
      ]

  seen_all : (k : Knowing) (view : View) (asks : List (AskName × Asking)) → with_new_view k view asks ≡ map (λ (e : AskName × Asking). (e.0, seen k view e.1)) asks
  seen_all k view [] = refl
  seen_all k view (e ∷ es) = λ j. seen_entry k view e j ∷ seen_all k view es j

  pub waits_seen : (p later : Past) (k : Knowing) (view : View) (asks : List (AskName × Asking)) (name : AskName) (ask : AskRecord)
      → replies_to ask.asked name later ≡ replies_to ask.asked name p
      → IsWaitingBy p asks name ask → IsWaitingBy later (with_new_view k view asks) name ask
  waits_seen p later k view asks name ask silent w =
      record {
        asking = seen k view w.asking;
        there = ap (λ es. asking_of es name) (seen_all k view asks) ∙ lookup-map_values (seen k view) (is_name name) asks ∙ ap (option_map (seen k view)) w.there;
        so = by_test (nat_eq w.asking.header.server view.troupe);
      }
    where
      by_test : (b : Bool) → IsAskingOf later name ask (if b then with_view view k.down w.asking else w.asking)
      by_test true = asking_same p later name ask w.asking (with_view view k.down w.asking) silent refl refl refl w.so
      by_test false = asking_same p later name ask w.asking w.asking silent refl refl refl w.so

  -- others are closed
  pub waits_left : (p : Past) (keep : AskName × Asking → Bool) (asks : List (AskName × Asking)) (name : AskName) (ask : AskRecord)
      → ((e : AskName × Asking) → is_name name e.0 ≡ true → keep e ≡ true) → IsWaitingBy p asks name ask → IsWaitingBy p (filter keep asks) name ask
  waits_left p keep asks name ask keeps w = record { asking = w.asking; there = lookup-kept (is_name name) keep asks keeps ∙ w.there; so = w.so }

  -- it is opened
  pub waits_opened : (p : Past) (asks : List (AskName × Asking)) (name : AskName) (ask : AskRecord) (a : Asking) → IsAskingOf p name ask a
      → IsWaitingBy p (with_ask asks name a) name ask
  waits_opened p asks name ask a so = record { asking = a; there = opened_there asks name a; so = so }
