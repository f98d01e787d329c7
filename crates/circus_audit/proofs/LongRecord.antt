-- A record of very many events or asks is read up to more lines than a text has that can be read.
use Rattle.std.specs.List.{AllByRecursion}
use Rattle.std.specs.Option.{option_map_or}
use Rattle.std.specs.Prelude.{option_and_then}
use Rattle.std.proofs.Common.{◌≡◌, ◌∙◌, ℕ, zero, suc, ◌+◌, ◌-◌, ◌<◌, ◌≤◌, ◌^◌, ◌⊎◌, true, inl, inr, List, [], ◌∷◌, ◌++◌, length, map, codes, Option, Some, None, option_map, refl, sym, ap, subst, arith, append_assoc, append-nil, length-append}
use Rattle.std.proofs.lemmas.Bool.{cases_lt}
use Rattle.std.proofs.lemmas.List.{length-map, map-append}
use Rattle.circus_collate.specs.declared.view.View.{View}
use Rattle.circus_model.specs.declared.signature.Signature.{Signature}
use Rattle.circus_transfer.specs.declared.joiner.Joiner.TheVariants as joiner
use Rattle.circus_record.specs.declared.record.AskRecord.{AskRecord}
use Rattle.circus_record.specs.declared.record.RunRecord.{RunRecord}
use Rattle.circus_record.specs.declared.record.MemberRecord.{MemberRecord}
use Rattle.circus_record.specs.Line.{line}
use Rattle.circus_record.specs.Naming.{Names, host_name}
use Rattle.circus_record.specs.MemberText.{ask_lines, asks_lines, ended_line, run_lines, runs_lines, now_line, member_lines}
use Rattle.circus_performing.specs.Performing.{last_count}
use Rattle.circus_member_rules.specs.declared.occurrence.Difference.{Difference}
use Rattle.circus_node.specs.Accepting.{troupe_at}
use Rattle.circus_config.specs.declared.plan.Plan.{Plan}
use Rattle.circus_audit.specs.Possible.{declared_by, CanDiffer, CanHappen, IsAnswered, IsStarted, IsEnded, IsWaiting, IsActive, IsKept}
use Rattle.circus_audit.specs.RecordText.{Noted, IsStray, all_noted_lines, record_text, IsRecordText, noted_lines}
use Rattle.circus_audit.specs.declared.given.GivenEvent.{GivenEvent}
use Rattle.circus_audit.specs.declared.given.Given.{Given}
use Rattle.circus_audit.specs.declared.noted.Differing.{Differing}
use Rattle.circus_audit.specs.declared.noted.Happened.{Happened}
use Rattle.circus_audit.specs.declared.performed.Current.{Current}
use Rattle.circus_audit.specs.declared.performed.Current.TheVariants.{Nothing, Run}
use Rattle.circus_audit.specs.declared.setting.Hosted.{Hosted}
use Rattle.circus_audit.specs.declared.stage.Stage.{Stage}
use Rattle.circus_audit.specs.declared.stage.Stage.TheVariants.{Events, Runs}
use Rattle.circus_audit.specs.Seen.Names.{name_at}
use Rattle.circus_audit.specs.Seen.Reading.{node_names, own_read, nothing_happened, beginning, noted_by, stage_behind, hosted_as, hosted_by}
use Rattle.circus_audit.proofs.SoundingEvents.{spelled}
use Rattle.circus_audit.proofs.SoundingRecord.{joined, names_are}
use Rattle.circus_audit.proofs.SoundingStages.{kept_text}
use Rattle.circus_audit.proofs.SoundingTexts.{entry_line}
use Rattle.circus_audit.proofs.OneLine.{is_clean, clean_both}
use Rattle.circus_audit.proofs.CompletingNames.{name_clean}
use Rattle.circus_audit.proofs.CompletingPlans.{IsSmall, IsSpelled}
use Rattle.circus_audit.proofs.CompletingRows.{Reads, both_read}
use Rattle.circus_audit.proofs.CompletingHappening.{differing_from, noted_from, all_noted_read}
use Rattle.circus_audit.proofs.CompletingDiffering.{difference_complete}
use Rattle.circus_audit.proofs.CompletingPerforming.{begun_of, with_asks, run_reads, asks_read}
use Rattle.circus_audit.proofs.CompletingRuns.{HasFewAsks, runs_read}
use Rattle.circus_audit.proofs.CompletingMembers.{active_line_of, whole_text, active_begins}
use Rattle.circus_audit.proofs.CompletingBounds.{noted_many, asks_many}
use Rattle.circus_audit.proofs.CompletingRecord.{can_stand, can_differ, noted_all, own_complete}
use Rattle.circus_audit.proofs.GoingOn.{IsTold, IsBefore}
use Rattle.circus_audit.proofs.GoingBack.{AllTell}
use Rattle.circus_audit.proofs.GoingStages.{Tells, IsToldOf, Leads}

-- more lines than any text that can be read has
abbrev pub enough : ℕ
enough = 4294967295

-- ---- parts of lists and of texts

-- the first ones of a list, and the others
pub record Splits {X : Type 0} (xs : List X) (n : ℕ) : Type 0 where
  pub front : List X
  pub others : List X
  pub are : xs ≡ front ++ others
  pub many : length front ≡ n

split_at : {X : Type 0} (xs : List X) (n : ℕ) → n ≤ length xs → Splits xs n
split_at xs zero few = record { front = []; others = xs; are = refl; many = refl }
split_at [] (suc n) few = absurd (omega (arith, few))
split_at (x ∷ xs) (suc n) few =
    let later = split_at xs n (omega (arith, few)) in
    record { front = x ∷ later.front; others = later.others; are = ap (λ ys. x ∷ ys) later.are; many = ap suc later.many }

front_all : {X : Type 0} (P : X → Type 0) (xs ys : List X) → AllByRecursion P (xs ++ ys) → AllByRecursion P xs
front_all P [] ys all = tt
front_all P (x ∷ xs) ys all = (all.0, front_all P xs ys all.1)

noted_split : (names : Names) (number : ℕ) (xs ys : List Noted) → all_noted_lines names number (xs ++ ys) ≡ all_noted_lines names number xs ++ all_noted_lines names (number + length xs) ys
noted_split names number [] ys =
    let here : number ≡ number + 0 = omega arith in
    ap (λ n. all_noted_lines names n ys) here
noted_split names number (x ∷ xs) ys =
    let here : number + 1 + length xs ≡ number + length (x ∷ xs) = omega arith in
    ap (λ t. noted_lines names number x ++ t) (noted_split names (number + 1) xs ys)
    ∙ sym (append_assoc (noted_lines names number x) (all_noted_lines names (number + 1) xs) (all_noted_lines names (number + 1 + length xs) ys))
    ∙ ap (λ n. (noted_lines names number x ++ all_noted_lines names (number + 1) xs) ++ all_noted_lines names n ys) here

asks_split : (names : Names) (number : ℕ) (xs ys : List AskRecord) → (more : List ℕ) × (asks_lines names number (xs ++ ys) ≡ asks_lines names number xs ++ more)
asks_split names number [] ys = (asks_lines names number ys, refl)
asks_split names number (x ∷ xs) ys =
    let later = asks_split names (number + 1) xs ys in
    let one = ask_lines names number x in
    (later.0, ap (λ t. one ++ t) later.1 ∙ sym (append_assoc one (asks_lines names (number + 1) xs) later.0))

runs_split : (names : Names) (place : ℕ) (xs ys : List RunRecord) → runs_lines names place (xs ++ ys) ≡ runs_lines names place xs ++ runs_lines names (place + length xs) ys
runs_split names place [] ys =
    let here : place ≡ place + 0 = omega arith in
    ap (λ n. runs_lines names n ys) here
runs_split names place (x ∷ xs) ys =
    let here : place + 1 + length xs ≡ place + length (x ∷ xs) = omega arith in
    ap (λ t. run_lines names place x ++ t) (runs_split names (place + 1) xs ys)
    ∙ sym (append_assoc (run_lines names place x) (runs_lines names (place + 1) xs) (runs_lines names (place + 1 + length xs) ys))
    ∙ ap (λ n. (run_lines names place x ++ runs_lines names (place + 1) xs) ++ runs_lines names n ys) here

-- ---- the lines of a record that are read, up to so many

pub record HasRowsSoFar (plan : Plan) (given : Given) (text : List ℕ) : Type 0 where
  pub first : List ℕ
  pub rows : List (List ℕ)
  pub more : List ℕ
  pub text_is : text ≡ joined (first ∷ rows) ++ more
  pub clean : AllByRecursion (λ row. is_clean row ≡ true) (first ∷ rows)
  pub own_is : own_read plan first ≡ Some given.node
  pub last : Stage
  pub reach : stage_behind plan given.node (hosted_by plan given.node) beginning rows ≡ Some last
  pub leads : Leads plan given.node (hosted_by plan given.node) given.member last
  pub large : enough ≤ length (joined rows)

-- ---- what events tell

module _ (plan : Plan) (own : ℕ) (is_spelled : IsSpelled plan) where
  abbrev CanDifferAll : Option ℕ → Option MemberRecord → List GivenEvent → Type 0
  CanDifferAll troupe member es = AllByRecursion (λ (e : GivenEvent). AllByRecursion (CanDiffer plan own troupe member) e.differences) es

  module _ (troupe : Option ℕ) (kept : MemberRecord) (s : Signature) (declared : option_map_or (declared_by plan) troupe None ≡ Some s) (small : IsSmall (length plan.names) s) where
    told_all : (ds : List Difference) → AllByRecursion (CanDiffer plan own troupe (Some kept)) ds → AllByRecursion (IsTold plan own s kept) (map (differing_from plan) ds)
    told_all [] can = tt
    told_all (d ∷ ds) can = ((d, difference_complete plan own is_spelled.nodes troupe kept s declared small d can.0), told_all ds can.1)

    events_told : (es : List GivenEvent) → CanDifferAll troupe (Some kept) es → AllTell (IsTold plan own s kept) (map (noted_from plan) es)
    events_told [] can = tt
    events_told (e ∷ es) can = (told_all e.differences can.0, events_told es can.1)

  none_told : (member : Option MemberRecord) (ds : List Difference) → AllByRecursion (CanDiffer plan own None member) ds → AllByRecursion (λ (d : Differing). ⊥) (map (differing_from plan) ds)
  none_told member [] can = tt
  none_told member (d ∷ ds) can = let none = can.0.declared in cc

  apart_told : (member : Option MemberRecord) (es : List GivenEvent) → CanDifferAll None member es → AllTell (λ d. ⊥) (map (noted_from plan) es)
  apart_told member [] can = tt
  apart_told member (e ∷ es) can = (none_told member e.differences can.0, apart_told member es can.1)

  pub tell_all : (events : ℕ) (troupe : Option ℕ) (member : Option MemberRecord) (views : Option (List View)) (es : List GivenEvent) → troupe_at plan.deployment own ≡ troupe → IsKept plan events troupe member views → CanDifferAll troupe member es → AllTell (IsToldOf plan own (hosted_by plan own) member (hosted_by plan own) member) (map (noted_from plan) es)
  tell_all events (Some «module») (Some kept) None es at is can =
      let host = hosted_as plan «module» is.0 in
      let hosted_is : hosted_by plan own ≡ Some host = ap (option_and_then (λ m. option_map (hosted_as plan m) (declared_by plan m))) at ∙ ap (option_map (hosted_as plan «module»)) is.1 in
      subst (λ o. AllTell (IsToldOf plan own o (Some kept) o (Some kept)) (map (noted_from plan) es)) (sym hosted_is) (events_told (Some «module») kept is.0 is.1 (is_spelled.declared «module» is.0 is.1) es can)
  tell_all events None None (Some views) es at is can =
      let hosted_is : hosted_by plan own ≡ None = ap (option_and_then (λ m. option_map (hosted_as plan m) (declared_by plan m))) at in
      subst (λ o. AllTell (IsToldOf plan own o None o None) (map (noted_from plan) es)) (sym hosted_is) (apart_told None es can)
  tell_all events (Some «module») (Some kept) (Some views) es at is can = absurd is
  tell_all events (Some «module») None views es at is can = absurd is
  tell_all events None (Some kept) views es at is can = absurd is
  tell_all events None None None es at is can = absurd is

-- ---- very many events

events_text : (first front others kept : List ℕ) → (first ++ (front ++ others)) ++ kept ≡ (first ++ front) ++ (others ++ kept)
events_text first front others kept = simp append_assoc

pub long_events : (plan : Plan) (given : Given) (text : List ℕ) → IsSpelled plan → (is : IsRecordText plan given text) → enough ≤ length is.noted → HasRowsSoFar plan given text
long_events plan given text is_spelled is many =
    let own = given.node in
    let hosted = hosted_by plan own in
    let possible = is.possible in
    let here : own < length (node_names plan) = subst (λ k. own < k) (sym (length-map plan.deployment.nodes host_name)) possible.node in
    let name = codes "circus node 1 " ++ name_at (node_names plan) own in
    let split = split_at is.noted enough many in
    let given_in = λ (n : Noted). n.given in
    let front_events = map given_in split.front in
    let events_are : given.events ≡ front_events ++ map given_in split.others = sym is.events ∙ ap (map given_in) split.are ∙ map-append given_in split.front split.others in
    let can = front_all (CanHappen plan given) front_events (map given_in split.others) (subst (AllByRecursion (CanHappen plan given)) events_are possible.events) in
    let strays = front_all (λ (n : Noted). AllByRecursion IsStray n.strays) split.front split.others (subst (AllByRecursion (λ (n : Noted). AllByRecursion IsStray n.strays)) split.are is.strays) in
    let size = split.many in
    let happened = all_noted_read plan own hosted is_spelled.nodes nothing_happened 0 split.front refl (can_stand plan given is_spelled split.front front_events refl can strays) (omega (arith, size)) in
    let notes_are = happened.are ∙ noted_all plan given is_spelled split.front in
    let tell = tell_all plan own is_spelled (length given.events) (troupe_at plan.deployment own) given.member given.views front_events refl possible.kept (can_differ plan given is_spelled front_events can) in
    let front = all_noted_lines (spelled plan) 0 split.front in
    let others = all_noted_lines (spelled plan) (0 + length split.front) split.others in
    let kept = kept_text (spelled plan) own (troupe_at plan.deployment own) given.member given.views in
    let text_is : text ≡ (line name ++ front) ++ (others ++ kept) =
    is.is_text ∙ ap (λ names. record_text names plan.deployment is.noted given) (names_are plan) ∙ ap (λ ns. (line name ++ all_noted_lines (spelled plan) 0 ns) ++ kept) split.are ∙ ap (λ t. (line name ++ t) ++ kept) (noted_split (spelled plan) 0 split.front split.others) ∙ events_text (line name) front others kept in
    record {
      first = name;
      rows = happened.read.rows;
      more = others ++ kept;
      text_is = text_is ∙ ap (λ t. (line name ++ t) ++ (others ++ kept)) happened.read.text_is;
      clean = (clean_both (codes "circus node 1 ") (name_at (node_names plan) own) refl (name_clean (node_names plan) is_spelled.nodes own here), happened.read.clean);
      own_is = own_complete plan own is_spelled.nodes here;
      last = Events happened.next;
      reach = happened.read.reach;
      leads = subst (λ ns. AllTell (Tells plan own hosted given.member) ns) (sym notes_are) tell;
      large = let lines = noted_many (spelled plan) 0 split.front in omega (arith, lines, size, ap length happened.read.text_is);
    }

-- ---- very many asks

module _ (plan : Plan) (s : Signature) (events : ℕ) (kept : MemberRecord) where
  -- a run of very many asks, and what stands before it
  pub record HasManyAsks : Type 0 where
    pub before : List RunRecord
    pub run : RunRecord
    pub after : List RunRecord
    pub are : kept.runs ≡ before ++ run ∷ after
    pub ended : AllByRecursion (IsEnded plan s events) before
    pub few : AllByRecursion HasFewAsks before
    pub began : IsStarted plan s events run
    pub front : List AskRecord
    pub later : List AskRecord
    pub asks_are : run.asks ≡ front ++ later
    pub many : length front ≡ enough
    pub answered : AllByRecursion (IsAnswered plan s events) front

  -- the first run of very many asks among those that have ended
  pub record HasManyEnded (runs : List RunRecord) : Type 0 where
    pub before : List RunRecord
    pub run : RunRecord
    pub after : List RunRecord
    pub are : runs ≡ before ++ run ∷ after
    pub ended : AllByRecursion (IsEnded plan s events) before
    pub few : AllByRecursion HasFewAsks before
    pub is : IsEnded plan s events run
    pub many : 2 ^ 32 ≤ length run.asks

  few_or_many : (runs : List RunRecord) → AllByRecursion (IsEnded plan s events) runs → AllByRecursion HasFewAsks runs ⊎ HasManyEnded runs
  few_or_many [] all = inl tt
  few_or_many (run ∷ runs) all = by_size (cases_lt (length run.asks) (2 ^ 32)) (few_or_many runs all.1)
    where
      by_size : (length run.asks < 2 ^ 32) ⊎ (2 ^ 32 ≤ length run.asks) → AllByRecursion HasFewAsks runs ⊎ HasManyEnded runs → AllByRecursion HasFewAsks (run ∷ runs) ⊎ HasManyEnded (run ∷ runs)
      by_size (inl few) (inl others) = inl (few, others)
      by_size (inl few) (inr m) = inr (record {
        before = run ∷ m.before;
        run = m.run;
        after = m.after;
        are = ap (λ rs. run ∷ rs) m.are;
        ended = (all.0, m.ended);
        few = (few, m.few);
        is = m.is;
        many = m.many;
      })
      by_size (inr many) others = inr (record { before = []; run = run; after = runs; are = refl; ended = tt; few = tt; is = all.0; many = many })

  by_ended : (last : List RunRecord) (ended : List RunRecord) → kept.runs ≡ ended ++ last → HasManyEnded ended → HasManyAsks
  by_ended last ended are m =
      let size = m.many in
      let split = split_at m.run.asks enough (omega (arith, size)) in
      record {
        before = m.before;
        run = m.run;
        after = m.after ++ last;
        are = are ∙ ap (λ rs. rs ++ last) m.are ∙ append_assoc m.before (m.run ∷ m.after) last;
        ended = m.ended;
        few = m.few;
        began = m.is.began;
        front = split.front;
        later = split.others;
        asks_are = split.are;
        many = split.many;
        answered = front_all (IsAnswered plan s events) split.front split.others (subst (AllByRecursion (IsAnswered plan s events)) split.are m.is.asks);
      }

  by_waiting : (ended : List RunRecord) (run : RunRecord) → kept.runs ≡ ended ++ run ∷ [] → AllByRecursion (IsEnded plan s events) ended → AllByRecursion HasFewAsks ended → IsWaiting plan s events run → 2 ^ 32 ≤ length run.asks → HasManyAsks
  by_waiting ended run are all few is many =
      let count : length run.asks ≡ length is.before + 1 = ap length is.asks ∙ length-append is.before (is.last ∷ []) in
      let split = split_at is.before enough (omega (arith, many, count)) in
      record {
        before = ended;
        run = run;
        after = [];
        are = are;
        ended = all;
        few = few;
        began = is.began;
        front = split.front;
        later = split.others ++ is.last ∷ [];
        asks_are = is.asks ∙ ap (λ xs. xs ++ is.last ∷ []) split.are ∙ append_assoc split.front split.others (is.last ∷ []);
        many = split.many;
        answered = front_all (IsAnswered plan s events) split.front split.others (subst (AllByRecursion (IsAnswered plan s events)) split.are is.answered);
      }

  joined_few : (xs ys : List RunRecord) → AllByRecursion HasFewAsks xs → AllByRecursion HasFewAsks ys → AllByRecursion HasFewAsks (xs ++ ys)
  joined_few [] ys first second = second
  joined_few (x ∷ xs) ys first second = (first.0, joined_few xs ys first.1 second)

  -- few asks in each run, or a run of very many
  pub asks_or_many : (from : ℕ) → IsActive plan s events from kept → AllByRecursion HasFewAsks kept.runs ⊎ HasManyAsks
  asks_or_many from is = by_runs (few_or_many is.runs.ended is.runs.each) is.runs.one
    where
      by_size : AllByRecursion HasFewAsks is.runs.ended → (run : RunRecord) → is.runs.last ≡ run ∷ [] → IsWaiting plan s events run → (length run.asks < 2 ^ 32) ⊎ (2 ^ 32 ≤ length run.asks) → AllByRecursion HasFewAsks kept.runs ⊎ HasManyAsks
      by_size few run last waits (inl less) = inl (subst (AllByRecursion HasFewAsks) (sym (is.runs.are ∙ ap (λ l. is.runs.ended ++ l) last)) (joined_few is.runs.ended (run ∷ []) few (less, tt)))
      by_size few run last waits (inr many) = inr (by_waiting is.runs.ended run (is.runs.are ∙ ap (λ l. is.runs.ended ++ l) last) is.runs.each few waits many)

      by_runs : AllByRecursion HasFewAsks is.runs.ended ⊎ HasManyEnded is.runs.ended → (is.runs.last ≡ []) ⊎ ((run : RunRecord) × (is.runs.last ≡ run ∷ []) × IsWaiting plan s events run) → AllByRecursion HasFewAsks kept.runs ⊎ HasManyAsks
      by_runs (inr m) one = inr (by_ended is.runs.last is.runs.ended is.runs.are m)
      by_runs (inl few) (inl none) = inl (subst (AllByRecursion HasFewAsks) (sym (is.runs.are ∙ ap (λ l. is.runs.ended ++ l) none)) (joined_few is.runs.ended [] few tt))
      by_runs (inl few) (inr one) = by_size few one.0 one.1 one.2 (cases_lt (length one.0.asks) (2 ^ 32))

lines_text : (head before entry asks more ended after now : List ℕ) → head ++ ((before ++ (((entry ++ (asks ++ more)) ++ ended) ++ after)) ++ now) ≡ (((head ++ before) ++ entry) ++ asks) ++ (((more ++ ended) ++ after) ++ now)
lines_text head before entry asks more ended after now = simp append_assoc

module _ (plan : Plan) (own : ℕ) (host : Hosted) (is_spelled : IsSpelled plan) (small : IsSmall (length plan.names) host.signature) (here : own < length (node_names plan)) (there : host.«module» < length plan.names) (h : Happened) (short : length (noted_by h) < 2 ^ 64) (kept : MemberRecord) (from : ℕ) (phase : kept.phase ≡ joiner.Active from) (is : IsActive plan host.signature (length (noted_by h)) from kept) (m : HasManyAsks plan host.signature (length (noted_by h)) kept) where
  abbrev so_far : List RunRecord → Current → Stage
  so_far runs current = Runs (noted_by h) (record { from = kept.from; since = kept.active_at; count = kept.count; runs = runs; current = current })

  -- the member's lines as far as they are read
  pub record IsMemberSoFar : Type 0 where
    pub text : List ℕ
    pub more : List ℕ
    pub are : member_lines (spelled plan) own host.«module» None kept ≡ text ++ more
    pub read : Reads plan own (Some host) (Events h) text (so_far m.before (Run (with_asks (begun_of m.run) m.front)))
    pub large : enough ≤ length text

  pub before_is : IsBefore plan own host.signature kept (record { from = kept.from; since = kept.active_at; count = kept.count; runs = m.before; current = Run (with_asks (begun_of m.run) m.front) })
  before_is =
      let size = m.many in
      record {
        from_is = refl;
        count_is = refl;
        ended = length is.runs.ended;
        counted = is.runs.counted;
        many = by_last is.runs.last is.runs.are is.runs.one;
        on = (m.run, m.after, m.later, m.are, m.asks_are, λ at. omega (arith, size, ap length m.asks_are, length-append m.front m.later));
      }
    where
      by_last : (last : List RunRecord) → kept.runs ≡ is.runs.ended ++ last → (last ≡ []) ⊎ ((run : RunRecord) × (last ≡ run ∷ []) × IsWaiting plan host.signature (length (noted_by h)) run) → (length kept.runs ≡ length is.runs.ended) ⊎ ((length kept.runs ≡ length is.runs.ended + 1) × (kept.from + length is.runs.ended ≤ last_count))
      by_last last are (inl none) = inl (ap length are ∙ ap (λ l. length (is.runs.ended ++ l)) none ∙ ap length (append-nil is.runs.ended))
      by_last last are (inr one) =
          let count : length kept.runs ≡ length is.runs.ended + 1 = ap length are ∙ ap (λ l. length (is.runs.ended ++ l)) one.1 ∙ length-append is.runs.ended (one.0 ∷ []) in
          let few = is.runs.few in
          inr (count, omega (arith, few, count))

  pub member_so_far : IsMemberSoFar
  member_so_far =
      let names = spelled plan in
      let notes = noted_by h in
      let place = kept.from + length m.before in
      let head = active_line_of plan own host kept from in
      let before = runs_lines names kept.from m.before in
      let entry = entry_line names place m.run in
      let asks = asks_lines names 0 m.front in
      let split = asks_split names 0 m.front m.later in
      let ended = ended_line place m.run.outcome m.run.state m.run.end m.run.ended in
      let after = runs_lines names (place + 1) m.after in
      let now = now_line kept in
      let fewer : place ≤ last_count = let few = is.runs.few in omega (arith, few, ap length m.are, length-append m.before (m.run ∷ m.after)) in
      let start : kept.from ≡ kept.from + 0 = omega arith in
      let one = active_begins plan own host is_spelled small here there h kept from short is in
      let two = runs_read plan own host is_spelled small notes short kept.from kept.active_at kept.count [] kept.from m.before start m.ended m.few (omega (arith, fewer)) in
      let three = run_reads plan own host is_spelled small notes short kept.from kept.active_at kept.count m.before m.run m.began fewer in
      let size = m.many in
      let four = asks_read plan own host is_spelled small notes short kept.from kept.active_at kept.count m.before (begun_of m.run) 0 m.front refl m.answered (omega (arith, size)) in
      let ab = both_read plan own (Some host) (Events h) (so_far [] Nothing) (so_far m.before Nothing) head before one two in
      let abc = both_read plan own (Some host) (Events h) (so_far m.before Nothing) (so_far m.before (Run (begun_of m.run))) (head ++ before) entry ab three in
      let abcd = both_read plan own (Some host) (Events h) (so_far m.before (Run (begun_of m.run))) (so_far m.before (Run (with_asks (begun_of m.run) m.front))) ((head ++ before) ++ entry) asks abc four in
      let lines = asks_many names 0 m.front in
      record {
        text = ((head ++ before) ++ entry) ++ asks;
        more = ((split.0 ++ ended) ++ after) ++ now;
        are = whole_text plan own host kept from phase is.first
            ∙ ap (λ rs. head ++ (runs_lines names kept.from rs ++ now)) m.are
            ∙ ap (λ t. head ++ (t ++ now)) (runs_split names kept.from m.before (m.run ∷ m.after))
            ∙ ap (λ xs. head ++ ((before ++ (((entry ++ asks_lines names 0 xs) ++ ended) ++ after)) ++ now)) m.asks_are
            ∙ ap (λ t. head ++ ((before ++ (((entry ++ t) ++ ended) ++ after)) ++ now)) split.1
            ∙ lines_text head before entry asks split.0 ended after now;
        read = abcd;
        large = omega (arith, lines, size, length-append ((head ++ before) ++ entry) asks);
      }
