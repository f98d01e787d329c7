-- Each call that a member makes for an ask has its cause.
use Rattle.std.proofs.Common.{◌≡◌, ℕ, suc, ◌+◌, ◌<◌, ◌≤◌, inl, inr, Bool, true, false, cond, not, if◌then◌else◌, ◌&&◌, ◌||◌, List, [], ◌∷◌, ◌++◌, map, filter, take, All, Option, None, Some, refl, sym, ap, subst, ◌∙◌, arith, zero-add}
use Rattle.std.specs.Prelude.{Contains, nat_eq, nat_lt, slice_get, slice_set, fold, unwrap_or}
use Rattle.std.specs.List.{flat_map, list_any}
use Rattle.std.specs.Map.{lookup}
use Rattle.std.specs.Option.{option_map_or}
use Rattle.std.proofs.lemmas.Bool.{and_parts, eqb-true, eq-eqb, not-true}
use Rattle.std.proofs.lemmas.List.Elements.{All-nil, All-cons, All-head, All-tail, All-weaker, All-filter}
use Rattle.circus_value.specs.Among.{is_among}
use Rattle.circus_value.specs.ValueTree.{ValueTree}
use Rattle.circus_external.specs.Spelling.{spelling_of_all}
use Rattle.circus_header.specs.declared.call.CallHeader.{CallHeader}
use Rattle.circus_header.specs.declared.call.Request.{Request}
use Rattle.circus_collate.specs.Expecting.{has_node}
use Rattle.circus_collate.specs.declared.table.Table.{Table}
use Rattle.circus_collate.specs.declared.view.Entry.{Entry}
use Rattle.circus_collate.specs.declared.view.View.{View}
use Rattle.circus_transfer.specs.declared.joiner.Joiner.{Joiner}
use Rattle.circus_model.specs.Execution.{is_spent}
use Rattle.circus_record.specs.declared.record.AskRecord.{AskRecord}
use Rattle.circus_record.specs.declared.record.MemberRecord.{MemberRecord}
use Rattle.circus_record.specs.declared.record.RunRecord.{RunRecord}
use Rattle.circus_fanout.specs.Knowing.{Knowing}
use Rattle.circus_fanout.specs.Asking.{Asking, is_due, send_to, calls_for_a_view, with_view, with_reply, with_before, with_stale, next}
use Rattle.circus_fanout.specs.declared.asked.Asked.{Asked}
use Rattle.circus_fanout.specs.declared.send.Next.TheVariants as N
use Rattle.circus_performing.specs.Performing.{clock_after}
use Rattle.circus_member_rules.specs.declared.place.Place.{Place}
use Rattle.circus_member_rules.specs.declared.occurrence.AskName.{AskName}
use Rattle.circus_member_rules.specs.declared.occurrence.Effect.{Effect}
use Rattle.circus_member_rules.specs.declared.occurrence.Occurrence.{Occurrence}
use Rattle.circus_member_rules.specs.declared.occurrence.Occurrence.TheVariants as comes
use Rattle.circus_member_rules.specs.Messages.{ask_message}
use Rattle.circus_member_rules.specs.OpenAsks.{is_name, asking_of, with_ask, with_asking}
use Rattle.circus_member_rules.specs.Rules.{call_of_ask, call_for, call_again, after_stale, is_to, seen_by_ask, with_new_view, calls_for_view, calls_for_a_new_view, stays_open, incarnation_of, calls_of_ask}
use Rattle.circus_member_rules.proofs.Named.{All-opened_at, All-changed_at}
use Rattle.circus_world_theory.proofs.Worlds.{get_same}
use Rattle.circus_member_theory.specs.Past.{Past, booted, followed, now, views_known, nodes_declared_down, is_newer, Rises}
use Rattle.circus_member_theory.specs.Asks.{is_new, as_made, asks_from, asks_of, knows, opened_one, first_calls, asks_behind, calls_behind, new_asks, waits_then, open_asks, calls_owed}
use Rattle.circus_world_theory.proofs.Border.Makers.{IsIn, in_both, in_flat_map, contains}
use Rattle.circus_headline_theory.specs.Datagrams.Due.{WasSo, IsOpenThen}
use Rattle.circus_headline_theory.proofs.Datagrams.Membership.{in_filter, in_map, all_in}
use Rattle.circus_headline_theory.proofs.Datagrams.Requested.{EffectIsDue, WasDue}

name_is : (name other : AskName) → is_name name other ≡ true → name ≡ other
name_is name other is =
    let parts = and_parts (nat_eq name.run other.run) (nat_eq name.ask other.ask) is in
    λ i. record { run = eqb-true name.run other.run parts.0 i; ask = eqb-true name.ask other.ask parts.1 i }

pub record IsThere (asks : List (AskName × Asking)) (name : AskName) (a : Asking) : Type 0 where
  pub own : AskName
  pub there : IsIn asks (own, a)
  pub is : name ≡ own

pub found_there : (asks : List (AskName × Asking)) (name : AskName) (a : Asking) → asking_of asks name ≡ Some a → IsThere asks name a
found_there [] name a at = absurd (let clash : ◌≡◌ {A = Option Asking} None (Some a) = at in cc)
found_there (e ∷ asks) name a at = by_test (found_there asks name a) (is_name name e.0) refl at
  where
    by_test : (asking_of asks name ≡ Some a → IsThere asks name a) → (b : Bool) → is_name name e.0 ≡ b → cond b (Some e.1) (lookup (is_name name) asks) ≡ Some a → IsThere (e ∷ asks) name a
    by_test later true test same =
        let says : e.1 ≡ a = (let x : ◌≡◌ {A = Option Asking} (Some e.1) (Some a) = same in cc) in
        record { own = e.0; there = inl (λ i. (e.0, says i)); is = name_is name e.0 test }
    by_test later false test rest = (let l = later rest in record { own = l.own; there = inr l.there; is = l.is })

has_entry : (es : List Entry) (e : Entry) → IsIn es e → list_any (λ (x : Entry). nat_eq x.node e.node) es ≡ true
has_entry [] e at = absurd at
has_entry (x ∷ es) e (inl same) = ap (λ (y : Entry). nat_eq y.node e.node || list_any (λ (z : Entry). nat_eq z.node e.node) es) same ∙ ap (λ b. b || list_any (λ (z : Entry). nat_eq z.node e.node) es) (eq-eqb e.node e.node refl)
has_entry (x ∷ es) e (inr at) = by_test (nat_eq x.node e.node) (has_entry es e at)
  where
    by_test : (b : Bool) → list_any (λ (z : Entry). nat_eq z.node e.node) es ≡ true → (b || list_any (λ (z : Entry). nat_eq z.node e.node) es) ≡ true
    by_test true later = refl
    by_test false later = later

module _ (place : Place) (boot : List View) (begins : Joiner) (first : List ValueTree) (kept : MemberRecord) where
  -- ---- the asks that are open are those of the record

  abbrev pub first_header : AskName → RunRecord → AskRecord → CallHeader
  first_header name run ask =
      record {
        root = run.root;
        path = run.path ++ name.ask ∷ [];
        client = place.troupe;
        client_incarnation = 0;
        client_index = name.run;
        server = ask.callee;
        server_incarnation = 0;
        procedure = ask.procedure;
        clock = clock_after run.entry (take name.ask run.asks);
      }

  -- an ask of a name is one of the record, asked by a step
  pub record IsOf (step : ℕ) (name : AskName) (header : CallHeader) (body : List ℕ) : Type 0 where
    pub number : ℕ
    pub run : RunRecord
    pub ask : AskRecord
    pub index : name.run ≡ kept.from + number
    pub run_is : slice_get kept.runs number ≡ Some run
    pub ask_is : slice_get run.asks name.ask ≡ Some ask
    pub by_then : ask.asked ≤ step
    pub header_is : header ≡ first_header name run ask
    pub body_is : body ≡ spelling_of_all ask.arguments

  abbrev pub IsEntry : ℕ → AskName × Asking → Type 0
  IsEntry step e = IsOf step e.0 e.1.header e.1.body

  -- asked in the step itself
  record IsNew (step : ℕ) (e : AskName × Asking) : Type 0 where
    of : IsEntry step e
    asked_now : of.ask.asked ≡ step

  pub later_entry : (step at : ℕ) → step ≤ at → (e : AskName × Asking) → IsEntry step e → IsEntry at e
  later_entry step at le e o = record { number = o.number; run = o.run; ask = o.ask; index = o.index; run_is = o.run_is; ask_is = o.ask_is; by_then = (let low = o.by_then in omega (arith, low, le)); header_is = o.header_is; body_is = o.body_is }

  -- ---- those that are new

  record FromRun (test : AskRecord → Bool) (index root : ℕ) (path : List ℕ) (number : ℕ) (clock : List ℕ) (asks : List AskRecord) (e : AskName × Asking) : Type 0 where
    at : ℕ
    ask : AskRecord
    there : slice_get asks at ≡ Some ask
    passes : test ask ≡ true
    is : as_made place index root path (number + at) (clock_after clock (take at asks)) ask ≡ e

  in_asks_from : (test : AskRecord → Bool) (index root : ℕ) (path : List ℕ) (number : ℕ) (clock : List ℕ) (asks : List AskRecord) (e : AskName × Asking)
      → IsIn (asks_from place test index root path number clock asks) e → FromRun test index root path number clock asks e
  in_asks_from test index root path number clock [] e at = absurd at
  in_asks_from test index root path number clock (ask ∷ asks) e at =
      by_test (in_asks_from test index root path (number + 1) (unwrap_or ask.after clock) asks e) (test ask) refl (is_spent clock) at
    where
      Later : Type 0
      Later = FromRun test index root path (number + 1) (unwrap_or ask.after clock) asks e

      behind : Later → FromRun test index root path number clock (ask ∷ asks) e
      behind f = record {
        at = suc f.at;
        ask = f.ask;
        there = f.there;
        passes = f.passes;
        is = ap (λ n. as_made place index root path n (clock_after (unwrap_or ask.after clock) (take f.at asks)) f.ask) (let n : ℕ = f.at in let s : number + suc n ≡ (number + 1) + n = omega arith in s) ∙ f.is;
      }

      by_test : (IsIn (asks_from place test index root path (number + 1) (unwrap_or ask.after clock) asks) e → Later) → (b : Bool) → test ask ≡ b → (spent : Bool)
          → IsIn ((if b && not spent then as_made place index root path number clock ask ∷ [] else []) ++ asks_from place test index root path (number + 1) (unwrap_or ask.after clock) asks) e
          → FromRun test index root path number clock (ask ∷ asks) e
      by_test later true is false (inl same) =
          record { at = 0; ask = ask; there = refl; passes = is; is = ap (λ n. as_made place index root path n clock ask) (let s : number + 0 ≡ number = omega arith in s) ∙ same }
      by_test later true is false (inr rest) = behind (later rest)
      by_test later true is true rest = behind (later rest)
      by_test later false is spent rest = behind (later rest)

  record FromRuns (test : AskRecord → Bool) (index : ℕ) (runs : List RunRecord) (e : AskName × Asking) : Type 0 where
    number : ℕ
    run : RunRecord
    there : slice_get runs number ≡ Some run
    from : FromRun test (index + number) run.root run.path 0 run.entry run.asks e

  in_asks_of : (test : AskRecord → Bool) (index : ℕ) (runs : List RunRecord) (e : AskName × Asking) → IsIn (asks_of place test index runs) e → FromRuns test index runs e
  in_asks_of test index [] e at = absurd at
  in_asks_of test index (run ∷ runs) e at = elim (in_both (asks_from place test index run.root run.path 0 run.entry run.asks) (asks_of place test (index + 1) runs) e at) [
    | inl here ↦
        record {
          number = 0;
          run = run;
          there = refl;
          from = subst (λ n. FromRun test n run.root run.path 0 run.entry run.asks e) (let s : index ≡ index + 0 = omega arith in s) (in_asks_from test index run.root run.path 0 run.entry run.asks e here);
        }
    | inr later ↦
        (let f = in_asks_of test (index + 1) runs e later in
        record {
          number = suc f.number;
          run = f.run;
          there = f.there;
          from = subst (λ n. FromRun test n f.run.root f.run.path 0 f.run.entry f.run.asks e) (let n : ℕ = f.number in let s : (index + 1) + n ≡ index + suc n = omega arith in s) f.from;
        })
  ]

  new_entry : (q : Past) (e : AskName × Asking) → IsIn (new_asks place boot kept q) e → IsNew (now q) e
  new_entry q e at =
      let f = in_asks_of (is_new q) kept.from kept.runs e at in
      let g = f.from in
      let asked : g.ask.asked ≡ now q = eqb-true g.ask.asked (now q) g.passes in
      let base : IsNew (now q) (as_made place (kept.from + f.number) f.run.root f.run.path g.at (clock_after f.run.entry (take g.at f.run.asks)) g.ask) =
      record {
        of = record { number = f.number; run = f.run; ask = g.ask; index = refl; run_is = f.there; ask_is = g.there; by_then = omega (arith, asked); header_is = refl; body_is = refl };
        asked_now = asked;
      } in
      subst (IsNew (now q)) (ap (λ n. as_made place (kept.from + f.number) f.run.root f.run.path n (clock_after f.run.entry (take g.at f.run.asks)) g.ask) (sym (zero-add g.at)) ∙ g.is) base

  -- ---- those that are open

  pub opened_all : (k : Knowing) (step : ℕ) (new asks : List (AskName × Asking)) → All (IsEntry step) new → All (IsEntry step) asks → All (IsEntry step) (fold (opened_one place boot k) asks new)
  opened_all k step [] asks new_all all = all
  opened_all k step (e ∷ new) asks new_all all =
      opened_all k step new (opened_one place boot k asks e) (All-tail (IsEntry step) e new new_all) (by_known (slice_get k.views e.1.header.server))
    where
      by_known : (o : Option View) → All (IsEntry step) (option_map_or (λ view. with_ask asks e.0 (with_view view k.down e.1)) o asks)
      by_known None = all
      by_known (Some view) =
          All-opened_at (IsEntry step) asks e.0 (with_view view k.down e.1)
          (λ n is. subst (λ (x : AskName). IsOf step x e.1.header e.1.body) (name_is e.0 n is) (All-head (IsEntry step) e new new_all)) all

  module _ (step : ℕ) where
    changed_all : (name : AskName) (change : Asking → Asking) → ((a : Asking) → (change a).header ≡ a.header) → ((a : Asking) → (change a).body ≡ a.body) → (asks : List (AskName × Asking))
        → All (IsEntry step) asks → All (IsEntry step) (with_asking name change asks)
    changed_all name change header body asks all =
        All-changed_entry asks all
      where
        keeps : (a : Asking) → (n : AskName) → IsOf step n a.header a.body → IsOf step n (change a).header (change a).body
        keeps a n o = subst (λ h. IsOf step n h (change a).body) (sym (header a)) (subst (λ b. IsOf step n a.header b) (sym (body a)) o)

        All-changed_entry : (xs : List (AskName × Asking)) → All (IsEntry step) xs → All (IsEntry step) (with_asking name change xs)
        All-changed_entry xs xs_all =
            All-changed_at (IsEntry step) name change xs
            (λ a is n here.
            let t = found_there xs name a is in
            keeps a n (subst (λ (x : AskName). IsOf step x a.header a.body) (sym t.is ∙ name_is name n here) (all_in (IsEntry step) xs (t.own, a) xs_all t.there))) xs_all

    seen_all : (k : Knowing) (view : View) (asks : List (AskName × Asking)) → All (IsEntry step) asks → All (IsEntry step) (with_new_view k view asks)
    seen_all k view [] all = All-nil (IsEntry step)
    seen_all k view (e ∷ asks) all =
        All-cons (IsEntry step) (seen_by_ask k view e) (with_new_view k view asks) (by_test (is_to view.troupe e)) (seen_all k view asks (All-tail (IsEntry step) e asks all))
      where
        by_test : (b : Bool) → IsEntry step (if b then (e.0, with_view view k.down e.1) else e)
        by_test true = All-head (IsEntry step) e asks all
        by_test false = All-head (IsEntry step) e asks all

    stale_same : (k : Knowing) (from incarnation : ℕ) (a : Asking) → ((after_stale k from incarnation a).header ≡ a.header) × ((after_stale k from incarnation a).body ≡ a.body)
    stale_same k from incarnation a = by_known (slice_get k.views a.header.server)
      where
        by_known : (o : Option View) → let b = option_map_or (λ view. with_stale view k.down from incarnation a) o a in (b.header ≡ a.header) × (b.body ≡ a.body)
        by_known None = (refl, refl)
        by_known (Some view) = (refl, refl)

    pub behind_all : (p : Past) (at : ℕ) (o : Occurrence) (asks : List (AskName × Asking)) → All (IsEntry step) asks → All (IsEntry step) (asks_behind place boot (followed p at o) asks)
    behind_all p at (comes.Replied name from reply) asks all = changed_all name (with_reply from reply) (λ a. refl) (λ a. refl) asks all
    behind_all p at (comes.IsBefore name from) asks all = changed_all name (with_before from) (λ a. refl) (λ a. refl) asks all
    behind_all p at (comes.IsStale name server from incarnation) asks all =
        let k = knows place boot (followed p at (comes.IsStale name server from incarnation)) in
        changed_all name (after_stale k from incarnation) (λ a. (stale_same k from incarnation a).0) (λ a. (stale_same k from incarnation a).1) asks all
    behind_all p at (comes.Told request table) asks all = by_test (is_newer (views_known boot p) table.view)
      where
        by_test : (b : Bool) → All (IsEntry step) (if b then with_new_view (knows place boot (followed p at (comes.Told request table))) table.view asks else asks)
        by_test true = seen_all (knows place boot (followed p at (comes.Told request table))) table.view asks all
        by_test false = all
    behind_all p at (comes.Asked header body sender) asks all = all
    behind_all p at (comes.Fetched incarnation sender) asks all = all
    behind_all p at (comes.Restored state count) asks all = all
    behind_all p at (comes.Declared node) asks all = all
    behind_all p at comes.Joins asks all = all

  pub new_all : (q : Past) → All (IsEntry (now q)) (new_asks place boot kept q)
  new_all q = all_of_in (new_asks place boot kept q) (λ e at. (new_entry q e at).of)
    where
      all_of_in : (xs : List (AskName × Asking)) → ((e : AskName × Asking) → IsIn xs e → IsEntry (now q) e) → All (IsEntry (now q)) xs
      all_of_in [] each = All-nil (IsEntry (now q))
      all_of_in (x ∷ xs) each = All-cons (IsEntry (now q)) x xs (each x (inl refl)) (all_of_in xs (λ e at. each e (inr at)))

  pub open_all : (p : Past) → Rises p → All (IsEntry (now p)) (open_asks place boot kept p)
  open_all booted rises = opened_all (knows place boot booted) 0 (new_asks place boot kept booted) [] (new_all booted) (All-nil (IsEntry 0))
  open_all (followed p step o) rises =
      let q = followed p step o in
      let old = All-weaker (IsEntry (now p)) (IsEntry step) (later_entry (now p) step (let less = rises.1 in omega (arith, less))) (open_asks place boot kept p) (open_all p rises.0) in
      All-filter (stays_open (knows place boot q) (waits_then place boot kept q)) (IsEntry step) _
      (opened_all (knows place boot q) step (new_asks place boot kept q) (asks_behind place boot q (open_asks place boot kept p)) (new_all q) (behind_all step p step o (open_asks place boot kept p) old))

  -- ---- calls

  abbrev EffectNow : Past → Effect → Type 0
  EffectNow q e = EffectIsDue place boot begins first kept q e

  -- a call of an ask that is open, to an entry of the known view of its server
  one_due : (q : Past) (name : AskName) (a : Asking) (view : View) (to : ℕ) (o : IsOf (now q) name a.header a.body) → IsOpenThen place boot begins first kept q name o.ask
      → slice_get (views_known boot q) a.header.server ≡ Some view → has_node view to ≡ true → is_among (nodes_declared_down q) to ≡ false → EffectNow q (call_of_ask (knows place boot q) name a (send_to view to))
  one_due q name a view to o open_now there entry up =
      record {
        number = o.number;
        run = o.run;
        ask = o.ask;
        view = view;
        index = o.index;
        run_is = o.run_is;
        ask_is = o.ask_is;
        made_by_then = o.by_then;
        is_open = open_now;
        server_is = ap (λ (h : CallHeader). h.server) o.header_is;
        known_is = there;
        entry = entry;
        up = up;
        message_is = says;
      }
    where
      names : CallHeader → List ℕ → List ℕ
      names h body = ask_message (record h { client_incarnation = incarnation_of (knows place boot q) h.client; server_incarnation = view.incarnation }) body

      says : names a.header a.body ≡ names (first_header name o.run o.ask) (spelling_of_all o.ask.arguments)
      says = λ i. names (o.header_is i) (o.body_is i)

  -- the calls that a view makes due
  in_calls : (k : Knowing) (name : AskName) (a : Asking) (view : View) (asked : List Asked) (e : Effect) → IsIn (calls_of_ask k name a (calls_for_a_view view k.down asked)) e
      → (x : Entry) × IsIn view.entries x × (is_among k.down x.node ≡ false) × (call_of_ask k name a (send_to view x.node) ≡ e)
  unfolding calls_for_a_view
  in_calls k name a view asked e at =
      let send = in_map (call_of_ask k name a) (calls_for_a_view view k.down asked) e at in
      let entry = in_map (λ (x : Entry). send_to view x.node) (filter (is_due view k.down asked) view.entries) send.0 send.1 in
      let passed = in_filter (is_due view k.down asked) view.entries entry.0 entry.1 in
      (entry.0, passed.0, not-true (is_among k.down entry.0.node) (and_parts (not (is_among k.down entry.0.node)) _ passed.1).0, ap (call_of_ask k name a) entry.2 ∙ send.2)

  calls_due : (q : Past) (name : AskName) (a : Asking) (view : View) (asked : List Asked) (o : IsOf (now q) name a.header a.body) → IsOpenThen place boot begins first kept q name o.ask
      → slice_get (views_known boot q) a.header.server ≡ Some view → (e : Effect) → IsIn (calls_of_ask (knows place boot q) name a (calls_for_a_view view (nodes_declared_down q) asked)) e → EffectNow q e
  calls_due q name a view asked o open_now there e at =
      let c = in_calls (knows place boot q) name a view asked e at in
      subst (EffectNow q) c.3 (one_due q name a view c.0.node o open_now there (has_entry view.entries c.0 c.1) c.2)

  -- those of an ask that is new
  first_due : (q : Past) (e : AskName × Asking) → IsIn (new_asks place boot kept q) e → (x : Effect) → IsIn (first_calls place boot (knows place boot q) e) x → EffectNow q x
  first_due q e new x at = by_known (slice_get (views_known boot q) e.1.header.server) refl at
    where
      n : IsNew (now q) e
      n = new_entry q e new

      is_open : (p : Past) → (asked : ℕ) → asked ≡ now p → (ask : AskRecord) → ask.asked ≡ asked → IsOpenThen place boot begins first kept p e.0 ask
      is_open booted asked is ask same = same ∙ is
      is_open (followed p step o) asked is ask same = inl (same ∙ is)

      by_known : (o : Option View) → slice_get (views_known boot q) e.1.header.server ≡ o
          → IsIn (option_map_or (λ view. calls_of_ask (knows place boot q) e.0 e.1 (calls_for_a_view view (nodes_declared_down q) [])) o []) x → EffectNow q x
      by_known None there at = absurd at
      by_known (Some view) there at = calls_due q e.0 e.1 view [] n.of (is_open q n.of.ask.asked n.asked_now n.of.ask refl) there x at

  module _ (p : Past) (rises : Rises p) (step : ℕ) (later : now p < step) (o : Occurrence) where
    old_entry : (e : AskName × Asking) → IsIn (open_asks place boot kept p) e → IsEntry step e
    old_entry e at = later_entry (now p) step (omega (arith, later)) e (all_in (IsEntry (now p)) (open_asks place boot kept p) e (open_all p rises) at)

  again_due : (p : Past) → Rises p → (step : ℕ) → now p < step → (name : AskName) (server from incarnation : ℕ) (x : Effect)
      → IsIn (calls_behind place boot (followed p step (comes.IsStale name server from incarnation)) (open_asks place boot kept p)) x → EffectNow (followed p step (comes.IsStale name server from incarnation)) x
  unfolding next
  again_due p rises step later name server from incarnation x at = by_ask (asking_of (open_asks place boot kept p) name) refl at
    where
      q : Past
      q = followed p step (comes.IsStale name server from incarnation)

      by_view_known : (a : Asking) → IsOf step name a.header a.body → ((b : Asking) × Contains (open_asks place boot kept p) (name, b)) → (o : Option View) → slice_get (views_known boot q) a.header.server ≡ o
          → IsIn (option_map_or (λ view. call_for (knows place boot q) name a (next view (nodes_declared_down q) from incarnation)) o []) x → EffectNow q x
      by_view_known a is is_open None there at = absurd at
      by_view_known a is is_open (Some view) there at = by_tests (nat_lt view.incarnation incarnation) (has_node view from) (is_among (nodes_declared_down q) from) refl refl at
        where
          by_tests : (above has gone : Bool) → has_node view from ≡ has → is_among (nodes_declared_down q) from ≡ gone
              → IsIn (call_for (knows place boot q) name a (if above then N.Lookup incarnation else if has && not gone then N.Send (send_to view from) else N.Leave)) x → EffectNow q x
          by_tests true has gone has_is gone_is at = absurd at
          by_tests false true false has_is gone_is (inl same) = subst (EffectNow q) same (one_due q name a view from is (inr is_open) there has_is gone_is)
          by_tests false true false has_is gone_is (inr none) = absurd none
          by_tests false true true has_is gone_is at = absurd at
          by_tests false false gone has_is gone_is at = absurd at

      by_ask : (a : Option Asking) → asking_of (open_asks place boot kept p) name ≡ a → IsIn (option_map_or (call_again (knows place boot q) name from incarnation) a []) x → EffectNow q x
      by_ask None found at = absurd at
      by_ask (Some a) found at =
          let t = found_there (open_asks place boot kept p) name a found in
          let own = old_entry p rises step later (comes.IsStale name server from incarnation) (t.own, a) t.there in
          by_view_known a (subst (λ (n : AskName). IsOf step n a.header a.body) (sym t.is) own)
          (a, subst (λ (n : AskName). Contains (open_asks place boot kept p) (n, a)) (sym t.is) (contains (open_asks place boot kept p) (t.own, a) t.there))
          (slice_get (views_known boot q) a.header.server) refl at

  view_there : (views : List View) (view : View) → is_newer views view ≡ true → slice_get (slice_set views view.troupe view) view.troupe ≡ Some view
  view_there views view newer = by_known (slice_get views view.troupe) refl newer
    where
      by_known : (o : Option View) → slice_get views view.troupe ≡ o → option_map_or (λ (other : View). nat_lt other.incarnation view.incarnation) o false ≡ true
          → slice_get (slice_set views view.troupe view) view.troupe ≡ Some view
      by_known None there is = absurd cc
      by_known (Some other) there is = get_same views view.troupe view other there

  told_due : (p : Past) → Rises p → (step : ℕ) → now p < step → (request : Request) (table : Table) (x : Effect)
      → IsIn (calls_behind place boot (followed p step (comes.Told request table)) (open_asks place boot kept p)) x → EffectNow (followed p step (comes.Told request table)) x
  told_due p rises step later request table x at = by_newer (is_newer (views_known boot p) table.view) refl at
    where
      q : Past
      q = followed p step (comes.Told request table)

      by_newer : (b : Bool) → is_newer (views_known boot p) table.view ≡ b
          → IsIn (if b then calls_for_a_new_view (knows place boot q) table.view (open_asks place boot kept p) else []) x → EffectNow q x
      by_newer true newer at =
          let found = in_flat_map (calls_for_view (knows place boot q) table.view) (filter (is_to table.view.troupe) (open_asks place boot kept p)) x at in
          let passed = in_filter (is_to table.view.troupe) (open_asks place boot kept p) found.0 found.1 in
          let server : found.0.1.header.server ≡ table.view.troupe = eqb-true found.0.1.header.server table.view.troupe passed.1 in
          let there : slice_get (views_known boot q) found.0.1.header.server ≡ Some table.view =
          ap (slice_get (views_known boot q)) server ∙ ap (λ b. slice_get (if b then slice_set (views_known boot p) table.view.troupe table.view else views_known boot p) table.view.troupe) newer ∙ view_there (views_known boot p) table.view newer in
          calls_due q found.0.0 found.0.1 table.view found.0.1.asked (old_entry p rises step later (comes.Told request table) found.0 passed.0)
          (inr (found.0.1, contains (open_asks place boot kept p) found.0 passed.0)) there x found.2
      by_newer false newer at = absurd at

  behind_due : (p : Past) → Rises p → (step : ℕ) → now p < step → (o : Occurrence) (x : Effect) → IsIn (calls_behind place boot (followed p step o) (open_asks place boot kept p)) x → EffectNow (followed p step o) x
  behind_due p rises step later (comes.IsStale name server from incarnation) x at = again_due p rises step later name server from incarnation x at
  behind_due p rises step later (comes.Told request table) x at = told_due p rises step later request table x at
  behind_due p rises step later (comes.Asked header body sender) x at = absurd at
  behind_due p rises step later (comes.Fetched incarnation sender) x at = absurd at
  behind_due p rises step later (comes.Replied name from reply) x at = absurd at
  behind_due p rises step later (comes.IsBefore name from) x at = absurd at
  behind_due p rises step later (comes.Restored state count) x at = absurd at
  behind_due p rises step later (comes.Declared node) x at = absurd at
  behind_due p rises step later comes.Joins x at = absurd at

  -- ---- all of them

  firsts_due : (q : Past) (x : Effect) → IsIn (flat_map (first_calls place boot (knows place boot q)) (new_asks place boot kept q)) x → EffectNow q x
  firsts_due q x at = (let f = in_flat_map (first_calls place boot (knows place boot q)) (new_asks place boot kept q) x at in first_due q f.0 f.1 x f.2)

  was_now : (q : Past) (step : ℕ) (effects : List Effect) (e : Effect) → ((x : Effect) → IsIn effects x → EffectNow q x) → now q ≡ step → IsIn {X = ℕ × Effect} (map (λ (x : Effect). (now q, x)) effects) (step, e) → WasSo q q
      → WasDue place boot begins first kept q step e
  was_now q step effects e each is at so =
      let found = in_map (λ (x : Effect). (now q, x)) effects (step, e) at in
      record { q = q; was = so; now_is = is; due_then = subst (EffectNow q) (ap (λ (x : ℕ × Effect). x.1) found.2) (each found.0 found.1) }

  pub call_was_due : (p : Past) → Rises p → (step : ℕ) (e : Effect) → IsIn (calls_owed place boot kept p) (step, e) → WasDue place boot begins first kept p step e
  call_was_due booted rises step e at =
      let found = in_map (λ (x : Effect). (0, x)) (flat_map (first_calls place boot (knows place boot booted)) (new_asks place boot kept booted)) (step, e) at in
      was_now booted step _ e (firsts_due booted) (ap (λ (x : ℕ × Effect). x.0) found.2) at refl
  call_was_due (followed p s o) rises step e at = elim (in_both (calls_owed place boot kept p) _ (step, e) at) [
    | inl before ↦ (let w = call_was_due p rises.0 step e before in record { q = w.q; was = inr w.was; now_is = w.now_is; due_then = w.due_then })
    | inr here ↦
        (let effects = calls_behind place boot (followed p s o) (open_asks place boot kept p) ++ flat_map (first_calls place boot (knows place boot (followed p s o))) (new_asks place boot kept (followed p s o)) in
        let found = in_map (λ (x : Effect). (s, x)) effects (step, e) here in
        was_now (followed p s o) step effects e
        (λ x there. elim (in_both (calls_behind place boot (followed p s o) (open_asks place boot kept p)) _ x there) [
          | inl came ↦ behind_due p rises.0 s rises.1 o x came
          | inr new ↦ firsts_due (followed p s o) x new
        ])
        (ap (λ (x : ℕ × Effect). x.0) found.2) here (inl refl))
  ]
