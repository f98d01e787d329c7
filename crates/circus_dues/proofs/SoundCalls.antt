-- What is kept of a past stays such that a member may go on with it.
use Rattle.std.specs.Prelude.{nat_le, slice_get}
use Rattle.std.specs.Option.{option_map_or}
use Rattle.std.proofs.Common.{◌<◌, ◌≤◌, ◌&&◌, Bool, true, false, ◌≡◌, ℕ, List, [], length, All, Option, Some, None, refl, sym, ap, subst, ◌∙◌}
use Rattle.std.proofs.lemmas.Bool.{eqb-true}
use Rattle.std.proofs.lemmas.List.Elements.{All-nil}
use Rattle.circus_limits.specs.Limits.{most_modules}
use Rattle.circus_header.specs.CallFields.{IsIncarnation}
use Rattle.circus_header.specs.declared.answer.Reply.{Reply}
use Rattle.circus_header.specs.declared.call.CallHeader.{CallHeader}
use Rattle.circus_header.specs.declared.call.Request.{Request}
use Rattle.circus_value.specs.declared.caller.Caller.{Caller}
use Rattle.circus_collate.specs.declared.kind.Kind.{Kind}
use Rattle.circus_collate.specs.declared.view.View.{View}
use Rattle.circus_model.specs.declared.signature.Signature.{Signature}
use Rattle.circus_record.specs.declared.record.MemberRecord.{MemberRecord}
use Rattle.circus_gather.specs.Gathering.{Gathered, index_of, is_of_index, is_counted, reply_of, before_any, with_call, with_required, with_first, with_start, with_end, call_to_start}
use Rattle.circus_gather.specs.declared.held.HeldCall.{HeldCall}
use Rattle.circus_gather.specs.declared.added.Added.{Added}
use Rattle.circus_fanout.specs.Knowing.{Knowing, at_boot}
use Rattle.circus_fanout.specs.Asking.{Asking, with_view}
use Rattle.circus_performing.specs.Record.{count_after}
use Rattle.circus_member_rules.specs.declared.place.Place.{Place}
use Rattle.circus_member_rules.specs.declared.occurrence.AskName.{AskName}
use Rattle.circus_member_rules.specs.OpenAsks.{with_ask}
use Rattle.circus_member_rules.specs.Rules.{wanted_by_call}
use Rattle.circus_member_rules.specs.Step.{answered_by_ring}
use Rattle.circus_member_rules.specs.Callable.{IsReply, AreReplies}
use Rattle.circus_member_rules.specs.Happening.{IsHome, IsCallTo}
use Rattle.circus_member_rules.specs.Seen.Sound.{IsHeld, AreHeld}
use Rattle.circus_member_rules.proofs.Held.{held-with_call, held-with_required, held-with_first, held-with_start, held-with_end, replies-with_end, called_same}
use Rattle.circus_member_rules.proofs.Homes.{told_as_many, ring_views, called_views}
use Rattle.circus_member_rules.proofs.Starting.{given_is_chosen}
use Rattle.circus_dues.specs.Seen.Parts.{CallsIn, CallsOut, MayCallFor, with_table, with_opened}
use Rattle.circus_dues.specs.Seen.Sound.{MayGoOn, IsPassed}

-- a call that counts for the run of an index is of that index
counted_index : (own required : ℕ) (views : List View) (index : ℕ) (call : HeldCall) → is_counted own required views index call ≡ true → index_of own call.header ≡ index
unfolding is_counted
counted_index own required views index call is =
    eqb-true (index_of own call.header) index (and_first (is_of_index own index call) _ (and_first (is_of_index own index call && nat_le required call.header.server_incarnation) _ is))
  where
    and_first : (a b : Bool) → (a && b) ≡ true → a ≡ true
    and_first true b is = refl
    and_first false b is = is

module _ (declared : Signature) (place : Place) (modules : ℕ) where
  -- ---- at boot

  pub may_at_boot : (views : List View) (from : ℕ) → length views ≡ modules → IsHome declared place views
      → MayGoOn declared place modules (record { known = at_boot views; asks = [] }) (record { gathered = before_any place.troupe from; requests = [] })
  may_at_boot views from many home =
      record {
        out = record { few = home.few; own = home.own; node = home.node; hosts = home.hosts; incarnations = home.incarnations; asks = All-nil _ };
        many = many;
        own = refl;
        held = All-nil _;
        replies = All-nil _;
      }

  module _ (o : CallsOut) (c : CallsIn) (h : MayGoOn declared place modules o c) where
    -- ---- calls in

    -- with the same calls out
    with_calls : (g : Gathered) (requests : List Caller) → g.module ≡ c.gathered.module → g.replies ≡ c.gathered.replies → AreHeld declared place.troupe modules g
        → MayGoOn declared place modules o (record { gathered = g; requests = requests })
    with_calls g requests own replies held =
        record { out = h.out; many = h.many; own = own ∙ h.own; held = held; replies = subst AreReplies (sym replies) h.replies }

    -- with other requests for its state
    pub may_with_requests : (requests : List Caller) → MayGoOn declared place modules o (record c { requests = requests })
    may_with_requests requests = with_calls c.gathered requests refl refl h.held

    -- a call has come
    pub may_with_call : (call : HeldCall) → IsCallTo declared place.troupe modules call.header call.body
        → MayGoOn declared place modules o (record c { gathered = with_call c.gathered call })
    may_with_call call can =
        let same = called_same c.gathered call in
        with_calls (with_call c.gathered call) c.requests same.0 same.1 (held-with_call declared place.troupe modules c.gathered call can h.held)

    -- a request for its state
    pub may_with_required : (incarnation : ℕ) (requests : List Caller)
        → MayGoOn declared place modules o (record { gathered = with_required c.gathered incarnation; requests = requests })
    may_with_required incarnation requests =
        with_calls (with_required c.gathered incarnation) requests refl refl (held-with_required declared place.troupe modules c.gathered incarnation h.held)

    -- it is active from this call on
    pub may_with_first : (first : ℕ) → MayGoOn declared place modules o (record c { gathered = with_first c.gathered first })
    may_with_first first =
        with_calls (with_first c.gathered first) c.requests refl refl (held-with_first declared place.troupe modules c.gathered first h.held)

    -- a run has started
    pub may_with_start : (index : ℕ) → MayGoOn declared place modules o (record c { gathered = with_start c.gathered index })
    may_with_start index =
        with_calls (with_start c.gathered index) c.requests refl refl (held-with_start declared place.troupe modules c.gathered index h.held)

    -- and ended
    pub may_with_end : (index : ℕ) (reply : Reply) → IsReply reply → MayGoOn declared place modules o (record c { gathered = with_end c.gathered index reply })
    may_with_end index reply is =
        record {
          out = h.out;
          many = h.many;
          own = h.own;
          held = held-with_end declared place.troupe modules c.gathered index reply h.held;
          replies = replies-with_end c.gathered index reply is h.replies;
        }

    -- ---- calls out

    -- with as many views
    pub may_with_out : (p : CallsOut) → length p.known.views ≡ length o.known.views → MayCallFor place p → MayGoOn declared place modules p c
    may_with_out p same out = record { out = out; many = same ∙ h.many; own = h.own; held = h.held; replies = h.replies }

    -- a view is wanted
    pub may_with_wanted : (k : Knowing) → k.views ≡ o.known.views → MayGoOn declared place modules (record o { known = k }) c
    may_with_wanted k same =
        may_with_out (record o { known = k }) (ap length same)
        (record {
          few = subst (λ (vs : List View). length vs ≤ most_modules) (sym same) h.out.few;
          own = subst (λ (vs : List View). place.troupe < length vs) (sym same) h.out.own;
          node = h.out.node;
          hosts = h.out.hosts;
          incarnations = subst (All (λ (v : View). IsIncarnation v.incarnation)) (sym same) h.out.incarnations;
          asks = h.out.asks;
        })

    -- that of the client of a call that has come
    pub may_with_client : (added : Added) (header : CallHeader) → MayGoOn declared place modules (record o { known = wanted_by_call added header o.known }) c
    may_with_client added header = may_with_wanted (wanted_by_call added header o.known) (called_views added header o.known)

    -- ---- a run is entered

    -- the call by which a run is started may be performed, and the index had no reply
    pub record MayStartBy (index : ℕ) (call : HeldCall) : Type 0 where
      pub can : IsCallTo declared place.troupe modules call.header call.body
      pub fresh : reply_of c.gathered index ≡ None

    pub may_start_by : (views : List View) (down : List ℕ) (kind : Kind) (index : ℕ) (call : HeldCall) → call_to_start c.gathered views down kind index ≡ Some call → MayStartBy index call
    may_start_by views down kind index call is =
        let g = c.gathered in
        let chosen = given_is_chosen (IsHeld declared place.troupe modules g) g.module g.required views down kind index g.held call h.held is in
        let same = counted_index g.module g.required views index call chosen.counts in
        record { can = chosen.holds.may_run; fresh = subst (λ i. reply_of g i ≡ None) same chosen.holds.fresh }

-- ---- as many views are known

pub table_as_many : (o : CallsOut) (request : Request) (view : View) → length (with_table o request view).known.views ≡ length o.known.views
table_as_many o request view = told_as_many (answered_by_ring o.known request view.troupe) view ∙ ap length (ring_views o.known request view.troupe)

pub opened_known : (o : CallsOut) (name : AskName) (a : Asking) → (with_opened o name a).known ≡ o.known
opened_known o name a = by_view (slice_get o.known.views a.header.server)
  where
    by_view : (v : Option View) → let x = option_map_or (λ (view : View). record o { asks = with_ask o.asks name (with_view view o.known.down a) }) v o in x.known ≡ o.known
    by_view None = refl
    by_view (Some view) = refl

-- ---- a run that is under way stays so

pub still_passed : (place : Place) (modules : ℕ) (kept : MemberRecord) (g later : Gathered) (ended : ℕ) → later.replies ≡ g.replies → IsPassed place modules kept g ended → IsPassed place modules kept later ended
still_passed place modules kept g later ended same h =
    record { thread = h.thread; fresh = subst (λ (rs : List (ℕ × Reply)). reply_of (record g { replies = rs }) (count_after kept.from ended) ≡ None) (sym same) h.fresh }
