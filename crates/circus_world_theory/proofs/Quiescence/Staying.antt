-- What stays true of a member in a step by which it is asked something or has a reply, where no view changes and no node is down.
use Rattle.std.proofs.Common.{◌≡◌, ◌⊎◌, inl, inr, ℕ, zero, suc, ◌+◌, ◌-◌, ◌<◌, ◌≤◌, Bool, true, false, cond, not, ◌||◌, eqb, List, [], ◌∷◌, ◌++◌, length, map, filter, All, Option, None, Some, IsSome, refl, sym, ap, subst, ◌∙◌, arith, length-append, eq-eqb}
use Rattle.std.specs.Prelude.{slice_get, slice_index, nat_eq, option_map, option_and_then, IfSome}
use Rattle.std.specs.List.{list_any}
use Rattle.std.specs.Map.{lookup}
use Rattle.std.specs.Option.{option_map_or}
use Rattle.std.proofs.lemmas.Bool.{cases_lt, eqb-true}
use Rattle.std.proofs.lemmas.List.{append-nil}
use Rattle.std.proofs.lemmas.List.Elements.{All-nil, All-cons, All-append, All-map, All-weaker, All-filter}
use Rattle.std.proofs.lemmas.Option.{same_Some, slice_get-map}
use Rattle.circus_value.specs.ValueTree.{ValueTree}
use Rattle.circus_value.specs.declared.caller.Caller.{Caller}
use Rattle.circus_value.specs.declared.outcome.Outcome.{Outcome}
use Rattle.circus_header.specs.declared.call.CallHeader.{CallHeader}
use Rattle.circus_header.specs.declared.answer.Reply.{Reply}
use Rattle.circus_collate.specs.declared.view.View.{View}
use Rattle.circus_collate.specs.declared.view.Entry.{Entry}
use Rattle.circus_collate.specs.declared.giving.Said.{Said}
use Rattle.circus_transfer.specs.declared.joiner.Joiner.{Joiner}
use Rattle.circus_model.specs.declared.signature.Signature.{Signature}
use Rattle.circus_model.specs.NextTurn.{NextTurn}
use Rattle.circus_model.specs.Behaviour.{Behaviour, IsModule}
use Rattle.circus_record.specs.declared.record.AskRecord.{AskRecord}
use Rattle.circus_record.specs.declared.record.RunRecord.{RunRecord}
use Rattle.circus_record.specs.declared.record.MemberRecord.{MemberRecord}
use Rattle.circus_fanout.specs.Knowing.{Knowing}
use Rattle.circus_gather.specs.Gathering.{Gathered, is_of_index, reply_of, answered_by_end}
use Rattle.circus_gather.specs.declared.held.HeldCall.{HeldCall}
use Rattle.circus_fanout.specs.Asking.{Asking, with_view, calls_for_a_view, send_to, is_due}
use Rattle.circus_fanout.specs.declared.send.Send.{Send}
use Rattle.circus_performing.specs.declared.start.RunStart.{RunStart}
use Rattle.circus_performing.specs.Performing.{open_ask, unless_replied, last_of, last_count, begin_run, gone_on, most_turns}
use Rattle.circus_performing.specs.Record.{behaviour, IsRecord}
use Rattle.circus_performing.proofs.Records.{answered_is}
use Rattle.circus_member_rules.specs.declared.occurrence.AskName.{AskName}
use Rattle.circus_member_rules.specs.declared.occurrence.Purpose.TheVariants as for
use Rattle.circus_member_rules.specs.declared.occurrence.Effect.{Effect}
use Rattle.circus_member_rules.specs.declared.occurrence.Effect.TheVariants as made
use Rattle.circus_member_rules.specs.Callable.{IsReply}
use Rattle.circus_member_rules.specs.OpenAsks.{asking_of, with_ask}
use Rattle.circus_member_rules.specs.Messages.{ask_message, reply_message}
use Rattle.circus_member_rules.specs.Rules.{answers_of_run, calls_of_ask, call_of_ask, header_now, index_of_last, snapshots_owed}
use Rattle.circus_member_rules.specs.MemberState.{MemberState, Doing}
use Rattle.circus_member_rules.specs.Step.{name_of_last, asking_begun, is_idle, reply_of_run, opened_by_view, ended_run, execute}
use Rattle.circus_member_rules.specs.Seen.Sound.{IsRunOf, MayStart}
use Rattle.circus_member_rules.proofs.Entering.{HasValue, with_entered, with_answered, turned_by_start, turned_by_reply}
use Rattle.circus_member_rules.proofs.Held.{All-passed}
use Rattle.circus_member_rules.proofs.Homes.{slice_get_none}
use Rattle.circus_member_rules.proofs.Named.{lookup-push, opened_there}
use Rattle.circus_member_rules.proofs.Starting.{IsSoundNow}
use Rattle.circus_member_rules.proofs.Turned.{IsTurned}
use Rattle.circus_member_rules.proofs.Writing.{one_is_performing, none_is_idle, last_has_ended, reply_is}
use Rattle.circus_world_theory.proofs.Quiescence.Phases.{with_given, behaves, Keeps, executed_keeps}
use Rattle.circus_world_theory.specs.Told.{Recorded, IsOpenAt}
use Rattle.circus_world_theory.proofs.Quiescence.Evolving.{Named, Grows, entered_grows, answered_grows}

-- ---- what is made

-- a call of an ask, which names views of the first incarnation
pub record IsQuietCall (message : List ℕ) : Type 0 where
  pub header : CallHeader
  pub body : List ℕ
  pub message_is : message ≡ ask_message header body
  pub client : header.client_incarnation ≤ 1
  pub short : length header.path < 65536

-- a node is an entry of the view of a troupe
pub record IsEntryOf (views : List View) (troupe node : ℕ) : Type 0 where
  pub view : View
  pub there : slice_get views troupe ≡ Some view
  pub among : list_any (λ (e : Entry). eqb e.node node) view.entries ≡ true

-- an ask that is called for now has no part in a record
abbrev pub NewCall : MemberRecord → Effect → Type 0
NewCall kept (made.Call to message (for.Ask name server)) = Named kept name.run name.ask → ⊥
NewCall kept (made.Call to message (for.Ring request)) = Unit {0}
NewCall kept (made.Call to message for.Fetch) = Unit {0}
NewCall kept (made.Answer caller message) = Unit {0}

module _ (views : List View) (own : ℕ) (P : Caller → CallHeader → List ℕ → Type 0) where
  -- a return of a reply to a call of an index that was performed
  pub record IsAnswered (count : ℕ) (caller : Caller) (message : List ℕ) : Type 0 where
    pub header : CallHeader
    pub body : List ℕ
    pub is : P caller header body
    pub index : slice_index header.clock own < count
    pub reply : Reply
    pub message_is : message ≡ reply_message reply
    pub may : IsReply reply

  abbrev pub EffectSo : MemberRecord → Effect → Type 0
  EffectSo kept (made.Call to message (for.Ask name server)) = IsQuietCall message × (Named kept name.run name.ask × IsEntryOf views server to)
  EffectSo kept (made.Call to message (for.Ring request)) = ⊥
  EffectSo kept (made.Call to message for.Fetch) = ⊥
  EffectSo kept (made.Answer caller message) = IsAnswered kept.count caller message

  effect_later : (old new : MemberRecord) → old.count ≤ new.count → ((index number : ℕ) → Named old index number → Named new index number) → (e : Effect) → EffectSo old e → EffectSo new e
  effect_later old new le named (made.Call to message (for.Ask name server)) so = (so.0, (named name.run name.ask so.1.0, so.1.1))
  effect_later old new le named (made.Call to message (for.Ring request)) so = absurd so
  effect_later old new le named (made.Call to message for.Fetch) so = absurd so
  effect_later old new le named (made.Answer caller message) so = record {
    header = so.header;
    body = so.body;
    is = so.is;
    index = (let less = so.index in omega (arith, less, le));
    reply = so.reply;
    message_is = so.message_is;
    may = so.may;
  }

-- a call to a node for an ask is among these
pub record IsCallIn (effects : List Effect) (index number callee node : ℕ) : Type 0 where
  pub place : ℕ
  pub message : List ℕ
  pub there : slice_get effects place ≡ Some (made.Call node message (for.Ask (record { run = index; ask = number }) callee))

get_front : {X : Type 0} (xs ys : List X) (i : ℕ) (x : X) → slice_get xs i ≡ Some x → slice_get (xs ++ ys) i ≡ Some x
get_front {X} [] ys i x at = absurd (let clash : ◌≡◌ {A = Option X} None (Some x) = at in cc)
get_front (y ∷ xs) ys zero x at = at
get_front (y ∷ xs) ys (suc i) x at = get_front xs ys i x at

get_back : {X : Type 0} (xs ys : List X) (i : ℕ) (x : X) → slice_get ys i ≡ Some x → (j : ℕ) × (slice_get (xs ++ ys) j ≡ Some x)
get_back [] ys i x at = (i, at)
get_back (y ∷ xs) ys i x at = (let rest = get_back xs ys i x at in (suc rest.0, rest.1))

pub call_in_front : (effects more : List Effect) (index number callee node : ℕ) → IsCallIn effects index number callee node → IsCallIn (effects ++ more) index number callee node
call_in_front effects more index number callee node is = record { place = is.place; message = is.message; there = get_front effects more is.place _ is.there }

call_in_back : (effects more : List Effect) (index number callee node : ℕ) → IsCallIn more index number callee node → IsCallIn (effects ++ more) index number callee node
call_in_back effects more index number callee node is = (let r = get_back effects more is.place _ is.there in record { place = r.0; message = is.message; there = r.1 })

-- ---- calls to the entries of a view

abbrev pub is_entry : View → ℕ → Bool
is_entry view node = list_any (λ (e : Entry). eqb e.node node) view.entries

filter_all : {X : Type 0} (p : X → Bool) (xs : List X) → ((x : X) → p x ≡ true) → filter p xs ≡ xs
filter_all p [] all = refl
filter_all p (x ∷ xs) all = ap (λ b. cond b (x ∷ filter p xs) (filter p xs)) (all x) ∙ ap (λ l. x ∷ l) (filter_all p xs all)

pub entry_there : (node : ℕ) (entries : List Entry) → list_any (λ (e : Entry). eqb e.node node) entries ≡ true → (place : ℕ) × (e : Entry) × (slice_get entries place ≡ Some e) × (e.node ≡ node)
entry_there node [] any = absurd cc
entry_there node (e ∷ entries) any = by_test (entry_there node entries) (eqb e.node node) refl any
  where
    by_test : (list_any (λ (x : Entry). eqb x.node node) entries ≡ true → (place : ℕ) × (x : Entry) × (slice_get entries place ≡ Some x) × (x.node ≡ node)) → (b : Bool) → eqb e.node node ≡ b → (b || list_any (λ (x : Entry). eqb x.node node) entries) ≡ true → (place : ℕ) × (x : Entry) × (slice_get (e ∷ entries) place ≡ Some x) × (x.node ≡ node)
    by_test rest true here any_ = (0, e, refl, eqb-true e.node node here)
    by_test rest false here any_ = (let r = rest any_ in (suc r.0, r.1, r.2, r.3))

-- where nobody is down, each entry of the view is called
sends_are : (view : View) → calls_for_a_view view [] [] ≡ map (λ (e : Entry). send_to view e.node) view.entries
unfolding calls_for_a_view
sends_are view = ap (map (λ (e : Entry). send_to view e.node)) (filter_all (is_due view [] []) view.entries (λ e. refl))

called : (k : Knowing) (index number : ℕ) (a : Asking) (view : View) (node : ℕ) → is_entry view node ≡ true → IsCallIn (calls_of_ask k (record { run = index; ask = number }) a (calls_for_a_view view [] [])) index number a.header.server node
called k index number a view node is =
    let name : AskName = record { run = index; ask = number } in
    let e = entry_there node view.entries is in
    record {
      place = e.0;
      message = ask_message (header_now k a (send_to view node)) a.body;
      there =
          ap (λ (l : List Send). slice_get (map (call_of_ask k name a) l) e.0) (sends_are view)
          ∙ slice_get-map (call_of_ask k name a) (map (λ (x : Entry). send_to view x.node) view.entries) e.0
          ∙ ap (option_map (call_of_ask k name a)) (slice_get-map (λ (x : Entry). send_to view x.node) view.entries e.0 ∙ ap (option_map (λ (x : Entry). send_to view x.node)) e.2)
          ∙ ap (λ n. Some (call_of_ask k name a (send_to view n))) e.3;
    }

-- ---- counts

-- how many runs there are, and the count of those that have ended
module _ (b : Behaviour) (began : List ValueTree) (kept : MemberRecord) (is : IsRecord b began kept) (from : kept.from ≡ 0) (few : length kept.runs ≤ last_count) where
  pub idle_count : open_ask kept ≡ None → kept.count ≡ length kept.runs
  idle_count none = (let i = none_is_idle b began kept is none in let c = i.count in omega (arith, c, from, few))

  pub busy_count : (ask : AskRecord) → open_ask kept ≡ Some ask → suc kept.count ≡ length kept.runs
  busy_count ask some =
      let p = one_is_performing b began kept is ask some in
      let c = p.count in
      let long : length kept.runs ≡ length p.before + 1 = ap length p.runs_are ∙ length-append p.before (p.run ∷ []) in
      omega (arith, c, from, few, long)

  pub last_index : index_of_last kept ≡ length kept.runs - 1
  last_index = omega (arith, from, few)

-- ---- a step on its way

-- what it begins with: the views and the troupe, the record before it, what is known of the calls that came and of what was called and said
-- before
pub record Beginning : Type 0 where
  pub views : List View
  pub own : ℕ
  pub phase : Joiner
  pub kept : MemberRecord

module _ (z : Beginning) (ones : (t : ℕ) (v : View) → slice_get z.views t ≡ Some v → v.incarnation ≤ 1) (P : Caller → CallHeader → List ℕ → Type 0) (Old : ℕ → ℕ → ℕ → ℕ → Type 0) (OldSaid : ℕ → ℕ → List (Said Reply) → Type 0) where
  -- each entry of the view of a callee was called, before or now
  abbrev pub IsMade : List Effect → ℕ → ℕ → ℕ → Type 0
  IsMade effects index number callee =
      (view : View) (node : ℕ) → slice_get z.views callee ≡ Some view → is_entry view node ≡ true → Old index number callee node ⊎ IsCallIn effects index number callee node

  more_made : (effects more : List Effect) (index number callee : ℕ) → IsMade effects index number callee → IsMade (effects ++ more) index number callee
  more_made effects more index number callee is view node at entry = elim (is view node at entry) [ inl old ↦ inl old | inr new ↦ inr (call_in_front effects more index number callee node new) ]

  module _ {M : Type 0} where
    -- an ask is open, with what was said before, or nothing where it is new
    pub record IsOpened (m : MemberState M) (index number callee : ℕ) : Type 0 where
      pub asking : Asking
      pub there : asking_of m.asks (record { run = index; ask = number }) ≡ Some asking
      pub server : asking.header.server ≡ callee
      pub kind : asking.kind ≡ m.place.replies
      pub said : OldSaid index number asking.said ⊎ ((Named z.kept index number → ⊥) × (asking.said ≡ []))

    -- what holds before the turns of a run and behind them
    pub record Stays (d : Doing M) : Type 0 where
      pub views : d.member.known.views ≡ z.views
      pub down : d.member.known.down ≡ []
      pub requests : d.member.requests ≡ []
      pub required : d.member.gathered.required ≡ 0
      pub first : d.member.gathered.from ≡ 0
      pub own : d.member.gathered.module ≡ z.own
      pub from : d.member.performing.kept.from ≡ 0
      pub phase : d.member.performing.kept.phase ≡ z.phase
      pub held : All (λ (c : HeldCall). P c.sender c.header c.body) d.member.gathered.held
      pub effects : All (EffectSo z.views z.own P d.member.performing.kept) d.effects
      pub news : All (NewCall z.kept) d.effects
      pub named : (index number : ℕ) → Named z.kept index number → Named d.member.performing.kept index number
      pub longer : length z.kept.runs ≤ length d.member.performing.kept.runs
      pub counts : z.kept.count ≤ d.member.performing.kept.count
      pub replies : (index : ℕ) (reply : Reply) → reply_of d.member.gathered index ≡ Some reply → index < d.member.performing.kept.count

    -- behind turns
    pub record Body (d : Doing M) : Type 0 where
      pub stays : Stays d
      pub recorded : (index number callee : ℕ) → Recorded d.member.performing.kept index number callee → IsMade d.effects index number callee
      pub opened : (index number callee : ℕ) → IsOpenAt d.member.performing.kept index number callee → IsOpened d.member index number callee
      pub replied : (index : ℕ) → index < d.member.performing.kept.count → IsSome (reply_of d.member.gathered index)

    -- before turns: an ask that is open is new, and a run that has ended has no reply yet
    pub record Turn (d : Doing M) : Type 0 where
      pub stays : Stays d
      pub recorded : (index number callee : ℕ) → Recorded d.member.performing.kept index number callee → IsMade d.effects index number callee ⊎ IsOpenAt d.member.performing.kept index number callee
      pub fresh : (index number callee : ℕ) → IsOpenAt d.member.performing.kept index number callee → Named z.kept index number → ⊥
      pub replied : (index : ℕ) → index < d.member.performing.kept.count → IsSome (reply_of d.member.gathered index) ⊎ ((open_ask d.member.performing.kept ≡ None) × (suc index ≡ length d.member.performing.kept.runs))
      pub some : 0 < length d.member.performing.kept.runs

    -- as long as indexes have four bytes
    abbrev pub IsFew : Doing M → Type 0
    IsFew d = length d.member.performing.kept.runs ≤ last_count

    abbrev pub I : Doing M → Type 0
    I d = IsFew d → Body d

    abbrev pub J : Doing M → Type 0
    J d = IsFew d → Turn d

  module _ {M : Type 0} (declared : M → Signature) (turn : M → List ValueTree → ℕ → List ValueTree → List Outcome → NextTurn) (first : M → List ValueTree) (lawful : (hosted : M) → IsModule (behaviour declared turn first hosted)) where
    abbrev now : Doing M → Behaviour
    now d = behaves declared turn first lawful d

    -- ---- the record goes on

    -- from a record to one that has grown, where what else is known stays
    goes_further : (d e : Doing M) → Body d → IsRecord (now d) d.member.performing.began d.member.performing.kept → IsRecord (now d) d.member.performing.began e.member.performing.kept
        → Grows d.member.performing.kept e.member.performing.kept → e.effects ≡ d.effects → e.member.known ≡ d.member.known → e.member.requests ≡ d.member.requests
        → e.member.gathered.required ≡ d.member.gathered.required → e.member.gathered.from ≡ d.member.gathered.from → e.member.gathered.module ≡ d.member.gathered.module → e.member.gathered.held ≡ d.member.gathered.held
        → e.member.gathered.replies ≡ d.member.gathered.replies → e.member.performing.kept.from ≡ d.member.performing.kept.from → e.member.performing.kept.phase ≡ d.member.performing.kept.phase
        → IsFew e → d.member.performing.kept.count ≤ e.member.performing.kept.count
        → ((index : ℕ) → index < e.member.performing.kept.count → (index < d.member.performing.kept.count) ⊎ ((open_ask e.member.performing.kept ≡ None) × (suc index ≡ length e.member.performing.kept.runs)))
        → 0 < length e.member.performing.kept.runs → Turn e
    goes_further d e body was is grows effects known requests required first_is module_is held replies from phase few counts index_so some =
        let s = body.stays in
        record {
          stays = record {
            views = ap (λ (k : Knowing). k.views) known ∙ s.views;
            down = ap (λ (k : Knowing). k.down) known ∙ s.down;
            requests = requests ∙ s.requests;
            required = required ∙ s.required;
            first = first_is ∙ s.first;
            own = module_is ∙ s.own;
            from = from ∙ s.from;
            phase = phase ∙ s.phase;
            held = subst (All (λ (c : HeldCall). P c.sender c.header c.body)) (sym held) s.held;
            effects = subst (All (EffectSo z.views z.own P e.member.performing.kept)) (sym effects)
                (All-weaker (EffectSo z.views z.own P d.member.performing.kept) (EffectSo z.views z.own P e.member.performing.kept)
                (λ x. effect_later z.views z.own P d.member.performing.kept e.member.performing.kept counts grows.named x) d.effects s.effects);
            news = subst (All (NewCall z.kept)) (sym effects) s.news;
            named = λ index number n. grows.named index number (s.named index number n);
            longer = (let a = s.longer in let c = grows.longer in omega (arith, a, c));
            counts = (let a = s.counts in omega (arith, a, counts));
            replies = λ index reply at. (let less = s.replies index reply (ap (λ l. lookup (nat_eq index) l) (sym replies) ∙ at) in omega (arith, less, counts));
          };
          recorded = λ index number callee r. elim (grows.recorded index number callee r) [
            | inl old ↦ inl (subst (λ l. IsMade l index number callee) (sym effects) (body.recorded index number callee old))
            | inr new ↦ inr new
          ];
          fresh = λ index number callee o n. grows.fresh index number callee o (s.named index number n);
          replied = λ index less. elim (index_so index less) [
            | inl old ↦ inl (subst (λ l. IsSome (lookup (nat_eq index) l)) (sym replies) (body.replied index old))
            | inr new ↦ inr new
          ];
          some = some;
        }

    -- by how many a record's count may grow
    counts_so : (b : Behaviour) (began : List ValueTree) (old new : MemberRecord) → IsRecord b began new → new.from ≡ 0 → length new.runs ≤ last_count → suc old.count ≡ length new.runs
        → (old.count ≤ new.count) × ((index : ℕ) → index < new.count → (index < old.count) ⊎ ((open_ask new ≡ None) × (suc index ≡ length new.runs)))
    counts_so b began old new is from few one = by_ask (open_ask new) refl
      where
        by_ask : (o : Option AskRecord) → open_ask new ≡ o → (old.count ≤ new.count) × ((index : ℕ) → index < new.count → (index < old.count) ⊎ ((open_ask new ≡ None) × (suc index ≡ length new.runs)))
        by_ask None none = (
            let c = idle_count b began new is from few none in (
              omega (arith, c, one),
              λ index less. elim (cases_lt index old.count) [
                | inl below ↦ inl below
                | inr above ↦ inr (none, omega (arith, c, one, less, above))
              ],
            ))
        by_ask (Some ask) some = (
            let c = busy_count b began new is from few ask some in
            (omega (arith, c, one), λ index less. inl (omega (arith, c, one, less))))

    enters : (step : ℕ) (d : Doing M) (start : RunStart) → IsSoundNow declared turn first lawful d.member → MayStart (declared d.member.performing.hosted) d.member start → I d
        → J (record d { member = with_entered (now d) (lawful d.member.performing.hosted) d.member step start })
    enters step d start sound may body few =
        let b = now d in
        let law = lawful d.member.performing.hosted in
        let kept = d.member.performing.kept in
        let e : Doing M = record d { member = with_entered b law d.member step start } in
        let turned = turned_by_start b law d.member step start sound may in
        let grows = entered_grows kept step (b.turn kept.state start.procedure start.arguments) start in
        let gone = gone_on step (b.turn kept.state start.procedure start.arguments) most_turns (begin_run step start) in
        let long : length e.member.performing.kept.runs ≡ length kept.runs + 1 = length-append kept.runs (gone ∷ []) in
        let few_before : IsFew d = omega (arith, few, long) in
        let was = body few_before in
        let c = idle_count b d.member.performing.began kept sound.kept was.stays.from few_before may.can.idle in
        let one : suc kept.count ≡ length e.member.performing.kept.runs = omega (arith, c, long) in
        let counts = counts_so b d.member.performing.began kept e.member.performing.kept turned.kept was.stays.from few one in
        goes_further d e was sound.kept turned.kept grows refl refl refl refl refl refl refl refl refl refl few counts.0 counts.1 (omega (arith, long))

    answers_it : (step : ℕ) (d : Doing M) (reply : Reply) → IsSoundNow declared turn first lawful d.member → HasValue (now d) d.member reply → I d
        → J (record d { member = with_answered (now d) (lawful d.member.performing.hosted) d.member step reply })
    answers_it step d reply sound value body few =
        let b = now d in
        let law = lawful d.member.performing.hosted in
        let kept = d.member.performing.kept in
        let began = d.member.performing.began in
        let e : Doing M = record d { member = with_answered b law d.member step reply } in
        let turned = turned_by_reply b law d.member step reply sound value in
        let p = one_is_performing b began kept sound.kept value.ask value.is_open in
        let grows = answered_grows b law began kept p step reply.outcome reply.clock in
        let is = answered_is b law began kept p step reply.outcome reply.clock in
        let long_new : length e.member.performing.kept.runs ≡ length p.before + 1 = ap (λ (x : MemberRecord). length x.runs) is ∙ length-append p.before _ in
        let long_old : length kept.runs ≡ length p.before + 1 = ap length p.runs_are ∙ length-append p.before (p.run ∷ []) in
        let few_before : IsFew d = omega (arith, few, long_new, long_old) in
        let was = body few_before in
        let from : e.member.performing.kept.from ≡ kept.from = ap (λ (x : MemberRecord). x.from) is in
        let phase : e.member.performing.kept.phase ≡ kept.phase = ap (λ (x : MemberRecord). x.phase) is in
        let c = busy_count b began kept sound.kept was.stays.from few_before value.ask value.is_open in
        let one : suc kept.count ≡ length e.member.performing.kept.runs = omega (arith, c, long_new, long_old) in
        let counts = counts_so b began kept e.member.performing.kept turned.kept (from ∙ was.stays.from) few one in
        goes_further d e was sound.kept turned.kept grows refl refl refl refl refl refl refl refl from phase few counts.0 counts.1 (omega (arith, long_new))

    -- ---- an ask is opened

    -- the name of the open ask
    pub name_is : (kept : MemberRecord) (index number callee : ℕ) → kept.from ≡ 0 → length kept.runs ≤ last_count → IsOpenAt kept index number callee → ◌≡◌ {A = AskName} (name_of_last kept) (record { run = index; ask = number })
    name_is kept index number callee from few o =
        let i : index_of_last kept ≡ index = (let at = o.index_is in omega (arith, at, from, few)) in
        let n : option_map_or (λ (r : RunRecord). length r.asks - 1) (last_of kept.runs) 0 ≡ number = ap (λ x. option_map_or (λ (r : RunRecord). length r.asks - 1) x 0) o.last ∙ (let at = o.number_is in omega (arith, at)) in
        λ j. record { run = i j; ask = n j }

    -- the open ask is one of the record
    named_last : (kept : MemberRecord) (run : RunRecord) (ask : AskRecord) → kept.from ≡ 0 → length kept.runs ≤ last_count → last_of kept.runs ≡ Some run → open_ask kept ≡ Some ask
        → Named kept (index_of_last kept) (length run.asks - 1)
    named_last kept run ask from few last is = record {
      run = run;
      run_is = ap (slice_get kept.runs) at ∙ last;
      within = asked run.asks (sym (ap (option_and_then (λ (r : RunRecord). option_and_then unless_replied (last_of r.asks))) last) ∙ is);
    }
      where
        at : index_of_last kept ≡ length kept.runs - 1
        at = omega (arith, from, few)

        asked : (asks : List AskRecord) → option_and_then unless_replied (last_of asks) ≡ Some ask → length asks - 1 < length asks
        asked [] some = absurd (let clash : ◌≡◌ {A = Option AskRecord} None (Some ask) = some in cc)
        asked (a ∷ asks) some = omega arith

    quiet_calls : (kept : MemberRecord) (k : Knowing) (name : AskName) (a : Asking) (sends : List Send) → All (λ (s : Send). IsEntryOf z.views a.header.server s.node) sends → k.views ≡ z.views → length a.header.path < 65536 → Named kept name.run name.ask
        → All (EffectSo z.views z.own P kept) (calls_of_ask k name a sends)
    quiet_calls kept k name a sends entries same short named =
        All-map (EffectSo z.views z.own P kept) (call_of_ask k name a) sends
        (All-weaker (λ (send : Send). IsEntryOf z.views a.header.server send.node) (λ (send : Send). EffectSo z.views z.own P kept (call_of_ask k name a send))
        (λ send entry. (
          record { header = header_now k a send; body = a.body; message_is = refl; client = low (slice_get k.views a.header.client) refl; short = short },
          (named, entry),
        )) sends entries)
      where
        low : (o : Option View) → slice_get k.views a.header.client ≡ o → option_map_or (λ (v : View). v.incarnation) o 0 ≤ 1
        low None is = omega arith
        low (Some v) is = ones a.header.client v (ap (λ l. slice_get l a.header.client) (sym same) ∙ is)

    -- those that are called are entries of the view
    each_entry : (es : List Entry) → All (λ (e : Entry). list_any (λ (x : Entry). eqb x.node e.node) es ≡ true) es
    each_entry [] = All-nil (λ (e : Entry). list_any (λ (x : Entry). eqb x.node e.node) [] ≡ true)
    each_entry (x ∷ es) =
        All-cons (λ (e : Entry). list_any (λ (y : Entry). eqb y.node e.node) (x ∷ es) ≡ true) x es (ap (λ b. b || list_any (λ (y : Entry). eqb y.node x.node) es) (eq-eqb x.node x.node refl))
        (All-weaker (λ (e : Entry). list_any (λ (y : Entry). eqb y.node e.node) es ≡ true) (λ (e : Entry). list_any (λ (y : Entry). eqb y.node e.node) (x ∷ es) ≡ true) (λ e there. either (eqb x.node e.node) there) es (each_entry es))
      where
        either : (b : Bool) {c : Bool} → c ≡ true → (b || c) ≡ true
        either true is = refl
        either false is = is

    sends_entries : (view : View) (troupe : ℕ) (down : List ℕ) → slice_get z.views troupe ≡ Some view → All (λ (s : Send). IsEntryOf z.views troupe s.node) (calls_for_a_view view down [])
    unfolding calls_for_a_view
    sends_entries view troupe down there =
        All-map (λ (s : Send). IsEntryOf z.views troupe s.node) (λ (e : Entry). send_to view e.node) (filter (is_due view down []) view.entries)
        (All-weaker (λ (e : Entry). list_any (λ (x : Entry). eqb x.node e.node) view.entries ≡ true) (λ (e : Entry). IsEntryOf z.views troupe e.node) (λ e among. record { view = view; there = there; among = among })
        (filter (is_due view down []) view.entries)
        (All-filter (is_due view down []) (λ (e : Entry). list_any (λ (x : Entry). eqb x.node e.node) view.entries ≡ true) view.entries (each_entry view.entries)))

    opens : (step : ℕ) (d : Doing M) (run : RunRecord) (ask : AskRecord) (view : View) → IsTurned (now d) d.member → last_of d.member.performing.kept.runs ≡ Some run → open_ask d.member.performing.kept ≡ Some ask
        → slice_get d.member.known.views ask.callee ≡ Some view → J d → I (opened_by_view d (name_of_last d.member.performing.kept) (asking_begun d.member.place d.member.performing.kept run ask) view)
    opens step d run ask view turned last open_ there turns_ few =
        let t = turns_ few in
        let s = t.stays in
        let m = d.member in
        let kept = m.performing.kept in
        let name = name_of_last kept in
        let a = asking_begun m.place kept run ask in
        let more = calls_of_ask m.known name a (calls_for_a_view view m.known.down []) in
        let counts = kept.count in
        let of : IsRunOf m.place.troupe (length m.known.views) run = subst (λ o. IfSome o (IsRunOf m.place.troupe (length m.known.views))) last turned.run in
        let below = of.thread.short in
        let most = turned.home.few in
        let long : length (run.path ++ (length run.asks - 1) ∷ []) ≡ length run.path + 1 = length-append run.path ((length run.asks - 1) ∷ []) in
        let short : length a.header.path < 65536 = omega (arith, below, most, long) in
        let named : Named kept name.run name.ask =
        subst (Named kept (index_of_last kept)) (sym (ap (λ o. option_map_or (λ (r : RunRecord). length r.asks - 1) o 0) last)) (named_last kept run ask s.from few last open_) in
        let some = t.some in
        let asks = has_asks run.asks (sym (ap (option_and_then (λ (r : RunRecord). option_and_then unless_replied (last_of r.asks))) last) ∙ open_) in
        let at_last : IsOpenAt kept (length kept.runs - 1) (length run.asks - 1) ask.callee =
        record { run = run; ask = ask; last = last; is_open = open_; callee_is = refl; index_is = omega (arith, some); number_is = omega (arith, asks) } in
        let is_new : Named z.kept name.run name.ask → ⊥ =
        subst (λ (n : AskName). Named z.kept n.run n.ask → ⊥) (sym (name_is kept (length kept.runs - 1) (length run.asks - 1) ask.callee s.from few at_last)) (t.fresh (length kept.runs - 1) (length run.asks - 1) ask.callee at_last) in
        let same_callee : (index number callee : ℕ) → IsOpenAt kept index number callee → ask.callee ≡ callee = λ index number callee o. ap (λ (x : AskRecord). x.callee) (same_Some ask o.ask (sym open_ ∙ o.is_open)) ∙ o.callee_is in
        record {
          stays = record {
            views = s.views;
            down = s.down;
            requests = s.requests;
            required = s.required;
            first = s.first;
            own = s.own;
            from = s.from;
            phase = s.phase;
            held = s.held;
            effects = All-append (EffectSo z.views z.own P kept) d.effects more s.effects (quiet_calls kept m.known name a (calls_for_a_view view m.known.down [])
                (sends_entries view ask.callee m.known.down (ap (λ l. slice_get l ask.callee) (sym s.views) ∙ there)) s.views short named);
            news = All-append (NewCall z.kept) d.effects more s.news (All-map (NewCall z.kept) (call_of_ask m.known name a) (calls_for_a_view view m.known.down []) (λ place send below_. is_new));
            named = s.named;
            longer = s.longer;
            counts = s.counts;
            replies = s.replies;
          };
          recorded = λ index number callee r. elim (t.recorded index number callee r) [
            | inl made ↦ more_made d.effects more index number callee made
            | inr o ↦ λ seen node at entry. inr (call_in_back d.effects more index number callee node
                (subst (λ c. IsCallIn more index number c node) (same_callee index number callee o)
                (subst (λ l. IsCallIn (calls_of_ask m.known name a (calls_for_a_view view l [])) index number ask.callee node) (sym s.down)
                (subst (λ n. IsCallIn (calls_of_ask m.known n a (calls_for_a_view view [] [])) index number ask.callee node) (sym (name_is kept index number callee s.from few o))
                (called m.known index number a view node
                (subst (λ v. is_entry v node ≡ true)
                (same_Some seen view (sym at ∙ ap (slice_get z.views) (sym (same_callee index number callee o)) ∙ ap (λ l. slice_get l ask.callee) (sym s.views) ∙ there)) entry))))))
          ];
          opened = λ index number callee o. record {
            asking = with_view view m.known.down a;
            there = subst (λ n. asking_of (with_ask m.asks name (with_view view m.known.down a)) n ≡ Some (with_view view m.known.down a)) (name_is kept index number callee s.from few o) (opened_there m.asks name (with_view view m.known.down a));
            server = same_callee index number callee o;
            kind = refl;
            said = inr (t.fresh index number callee o, refl);
          };
          replied = λ index less. elim (t.replied index less) [
            | inl old ↦ old
            | inr ended ↦ absurd (none_some ask (sym ended.0 ∙ open_))
          ];
        }
      where
        none_some : (x : AskRecord) → ◌≡◌ {A = Option AskRecord} None (Some x) → ⊥
        none_some x is = cc

        has_asks : (asks : List AskRecord) → option_and_then unless_replied (last_of asks) ≡ Some ask → 0 < length asks
        has_asks [] is = absurd (none_some ask is)
        has_asks (x ∷ asks) is = omega arith

    -- ---- a run has ended

    found_some : (o : Option Reply) (test : Bool) (x : Reply) → IsSome o → IsSome (option_map_or Some o (cond test (Some x) None))
    found_some None test x is = cc
    found_some (Some r) test x is = refl

    found_new : (o : Option Reply) (test : Bool) (x : Reply) → test ≡ true → IsSome (option_map_or Some o (cond test (Some x) None))
    found_new None true x is = refl
    found_new None false x is = absurd cc
    found_new (Some r) test x is = refl

    found_which : (o : Option Reply) (test : Bool) (x r : Reply) → option_map_or Some o (cond test (Some x) None) ≡ Some r → (o ≡ Some r) ⊎ (test ≡ true)
    found_which None true x r is = inr refl
    found_which None false x r is = absurd (let clash : ◌≡◌ {A = Option Reply} None (Some r) = is in cc)
    found_which (Some y) test x r is = inl is

    answers_so : (kept : MemberRecord) (g : Gathered) (index : ℕ) (reply : Reply) → g.module ≡ z.own → index < kept.count → IsReply reply → All (λ (c : HeldCall). P c.sender c.header c.body) g.held
        → All (EffectSo z.views z.own P kept) (answers_of_run (answered_by_end g index) reply)
    answers_so kept g index reply own less may held =
        All-map (EffectSo z.views z.own P kept) (λ caller. made.Answer caller (reply_message reply)) (answered_by_end g index)
        (All-map (λ caller. EffectSo z.views z.own P kept (made.Answer caller (reply_message reply))) (λ (c : HeldCall). c.sender) (filter (is_of_index g.module index) g.held)
        (All-passed (λ (c : HeldCall). P c.sender c.header c.body) (λ (c : HeldCall). IsAnswered z.views z.own P kept.count c.sender (reply_message reply)) (is_of_index g.module index) g.held
        (λ c of_it p. record {
          header = c.header;
          body = c.body;
          is = p;
          index = (let at : slice_index c.header.clock z.own ≡ index = ap (slice_index c.header.clock) (sym own) ∙ eqb-true (slice_index c.header.clock g.module) index of_it in omega (arith, at, less));
          reply = reply;
          message_is = refl;
          may = may;
        }) held))

    ends : (d : Doing M) (run : RunRecord) → IsTurned (now d) d.member → last_of d.member.performing.kept.runs ≡ Some run → open_ask d.member.performing.kept ≡ None → J d → I (ended_run d run)
    ends d run turned last none turns_ few =
        let t = turns_ few in
        let s = t.stays in
        let m = d.member in
        let b = now d in
        let law = lawful m.performing.hosted in
        let kept = m.performing.kept in
        let index = index_of_last kept in
        let reply = reply_of_run run in
        let counts = kept.count in
        let of : IsRunOf m.place.troupe (length m.known.views) run = subst (λ o. IfSome o (IsRunOf m.place.troupe (length m.known.views))) last turned.run in
        let own = turned.home.own in
        let ended = last_has_ended b m.performing.began kept turned.kept none run last in
        let may = reply_is b m.performing.began kept law m.place.troupe (length m.known.views) _ run of (omega (arith, own)) turned.home.few ended in
        let c = idle_count b m.performing.began kept turned.kept s.from few none in
        let at = last_index b m.performing.began kept turned.kept s.from few in
        let some = t.some in
        let less : index < counts = omega (arith, c, at, some) in
        let more = answers_of_run (answered_by_end m.gathered index) reply in
        let push : (i : ℕ) → lookup (nat_eq i) (m.gathered.replies ++ (index, reply) ∷ []) ≡ option_map_or Some (lookup (nat_eq i) m.gathered.replies) (cond (nat_eq i index) (Some reply) None) = λ i. lookup-push (nat_eq i) m.gathered.replies (index, reply) in
        record {
          stays = record {
            views = s.views;
            down = s.down;
            requests = s.requests;
            required = s.required;
            first = s.first;
            own = s.own;
            from = s.from;
            phase = s.phase;
            held = All-filter (λ x. not (is_of_index m.gathered.module index x)) (λ (x : HeldCall). P x.sender x.header x.body) m.gathered.held s.held;
            effects = All-append (EffectSo z.views z.own P kept) d.effects more s.effects (answers_so kept m.gathered index reply s.own less may s.held);
            news = All-append (NewCall z.kept) d.effects more s.news (All-map (NewCall z.kept) (λ caller. made.Answer caller (reply_message reply)) (answered_by_end m.gathered index) (λ place caller below_. tt));
            named = s.named;
            longer = s.longer;
            counts = s.counts;
            replies = λ i r found. elim (found_which (lookup (nat_eq i) m.gathered.replies) (nat_eq i index) reply r (sym (push i) ∙ found)) [
              | inl old ↦ s.replies i r old
              | inr new ↦ (let same : i ≡ index = eqb-true i index new in omega (arith, same, less))
            ];
          };
          recorded = λ i n callee r. elim (t.recorded i n callee r) [
            | inl made ↦ more_made d.effects more i n callee made
            | inr o ↦ absurd (none_some o.ask (sym none ∙ o.is_open))
          ];
          opened = λ i n callee o. absurd (none_some o.ask (sym none ∙ o.is_open));
          replied = λ i fewer. elim (t.replied i fewer) [
            | inl old ↦ subst (λ (o : Option Reply). IsSome o) (sym (push i)) (found_some (lookup (nat_eq i) m.gathered.replies) (nat_eq i index) reply old)
            | inr new ↦ (let last_ = new.1 in subst (λ (o : Option Reply). IsSome o) (sym (push i)) (found_new (lookup (nat_eq i) m.gathered.replies) (nat_eq i index) reply (eq-eqb i index (omega (arith, at, last_)))))
          ];
        }
      where
        none_some : (x : AskRecord) → ◌≡◌ {A = Option AskRecord} None (Some x) → ⊥
        none_some x is = cc

    -- ---- states are given: to nobody

    gives : (d : Doing M) → IsSoundNow declared turn first lawful d.member → is_idle d.member.performing.kept ≡ true → I d → I (with_given d)
    gives d sound idle body few =
        let t = body few in
        let s = t.stays in
        let kept = d.member.performing.kept in
        let none : d.effects ++ snapshots_owed kept d.member.requests ≡ d.effects = ap (λ l. d.effects ++ snapshots_owed kept l) s.requests ∙ append-nil d.effects in
        record {
          stays = record {
            views = s.views;
            down = s.down;
            requests = refl;
            required = s.required;
            first = s.first;
            own = s.own;
            from = s.from;
            phase = s.phase;
            held = s.held;
            effects = subst (All (EffectSo z.views z.own P kept)) (sym none) s.effects;
            news = subst (All (NewCall z.kept)) (sym none) s.news;
            named = s.named;
            longer = s.longer;
            counts = s.counts;
            replies = s.replies;
          };
          recorded = λ index number callee r. more_made d.effects (snapshots_owed kept d.member.requests) index number callee (t.recorded index number callee r);
          opened = λ index number callee o. (let old = t.opened index number callee o in record { asking = old.asking; there = old.there; server = old.server; kind = old.kind; said = old.said });
          replied = t.replied;
        }

    none_last : (d : Doing M) → last_of d.member.performing.kept.runs ≡ None → J d → ⊥
    none_last d none turns_ = go d.member.performing.kept.runs refl
      where
        go : (runs : List RunRecord) → d.member.performing.kept.runs ≡ runs → ⊥
        go [] is =
            let empty : length d.member.performing.kept.runs ≡ 0 = ap length is in
            let some = (turns_ (omega (arith, empty))).some in
            omega (arith, empty, some)
        go (r ∷ runs) is = there (r ∷ runs) (omega arith) (ap last_of (sym is) ∙ none)
          where
            there : (l : List RunRecord) → 0 < length l → last_of l ≡ None → ⊥
            there l some gone = (let past = slice_get_none l (length l - 1) gone in omega (arith, some, past))

    pub keeps : (step : ℕ) → Keeps declared turn first lawful step (λ d. I d) (λ d. J d)
    keeps step = record {
      gives = gives;
      enters = enters step;
      answers = answers_it step;
      opens = opens step;
      ends = ends;
      none = none_last;
    }

    -- the execution keeps it
    pub body_executed : (step : ℕ) (d : Doing M) → IsSoundNow declared turn first lawful d.member → I d → I (execute declared turn step d)
    body_executed step d sound body = executed_keeps declared turn first lawful step (λ e. I e) (λ e. J e) (keeps step) d sound body
