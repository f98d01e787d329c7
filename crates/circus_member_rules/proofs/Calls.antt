-- Headers of calls that may be made.
use Rattle.std.proofs.Common.{◌≡◌, ℕ, ◌+◌, ◌<◌, ◌≤◌, Bool, true, false, not, ◌&&◌, nat_lt, if◌then◌else◌, sym, subst, ap, ◌∙◌, All, filter, length, List, [], ◌∷◌, arith}
use Rattle.std.proofs.lemmas.List.Elements.{All-map, All-nil, All-cons, All-append}
use Rattle.circus_value.specs.Among.{is_among}
use Rattle.circus_header.specs.CallFields.{naming, IsAsk, IsModule, IsIncarnation}
use Rattle.circus_header.specs.declared.call.CallHeader.{CallHeader}
use Rattle.circus_collate.specs.declared.view.View.{View}
use Rattle.circus_collate.specs.declared.view.Entry.{Entry}
use Rattle.circus_collate.specs.Expecting.{has_node}
use Rattle.circus_fanout.specs.Knowing.{Knowing, is_due as is_wanted, due_of, due_from, lookups}
use Rattle.circus_fanout.specs.declared.known.Want.{Want}
use Rattle.circus_fanout.specs.Asking.{Asking, calls_for_a_view, is_due, send_to, next}
use Rattle.circus_fanout.specs.declared.asked.Asked.{Asked}
use Rattle.circus_fanout.specs.declared.send.Send.{Send}
use Rattle.circus_fanout.specs.declared.send.Next.{Next}
use Rattle.circus_fanout.specs.declared.send.Next.TheVariants as N
use Rattle.circus_member_rules.specs.Rules.{incarnation_of, header_now, ringmaster}
use Rattle.circus_member_rules.specs.Callable.{IsAsked, MayCall, CallsAView}

is_ask : (h : CallHeader) (c s : ℕ) → IsAsked h → IsIncarnation c → IsIncarnation s → IsAsk (naming h c s)
is_ask h c s a client server = record {
  root = a.asks.root;
  path_some = a.asks.path_some;
  path_most = a.asks.path_most;
  path = a.asks.path;
  client = a.asks.client;
  client_incarnation = client;
  server = a.asks.server;
  server_incarnation = server;
  clock_most = a.asks.clock_most;
  has_server = a.asks.has_server;
  has_client = a.asks.has_client;
}

-- a header that names the views known now is that of a call that is made now
pub named_now : (k : Knowing) (a : Asking) (send : Send) (h : CallHeader) (own : ℕ) → h ≡ a.header → own ≡ incarnation_of k h.client → naming h own send.incarnation ≡ header_now k a send
named_now k a send h own is known =
    ap (λ n. naming h n send.incarnation) known ∙ ap (λ (x : CallHeader). naming x (incarnation_of k x.client) send.incarnation) is

pub may_ask : (k : Knowing) (a : Asking) (send : Send) (h : CallHeader) (own : ℕ) → h ≡ a.header → own ≡ incarnation_of k h.client → MayCall k a → IsIncarnation send.incarnation
    → IsAsk (naming h own send.incarnation)
may_ask k a send h own is known may view = subst IsAsk (sym (named_now k a send h own is known)) (is_ask a.header _ _ may.asked may.client view)

-- the calls that a view makes due name it
pub by_the_view : (view : View) (down : List ℕ) (asked : List Asked) → IsIncarnation view.incarnation → All (λ (s : Send). IsIncarnation s.incarnation) (calls_for_a_view view down asked)
unfolding calls_for_a_view
by_the_view view down asked is =
    All-map (λ (s : Send). IsIncarnation s.incarnation) (λ (e : Entry). send_to view e.node) (filter (is_due view down asked) view.entries) (λ _ _ _. is)

-- a call that follows a Stale names it too
pub stale_by_the_view : (view : View) (down : List ℕ) (node incarnation : ℕ) (n : Next) → n ≡ next view down node incarnation → IsIncarnation view.incarnation → CallsAView n
unfolding next
stale_by_the_view view down node incarnation n is known =
    subst CallsAView (sym is) (by_tests (nat_lt view.incarnation incarnation) (has_node view node && not (is_among down node)))
  where
    by_tests : (later sends : Bool) → CallsAView (if later then N.Lookup incarnation else if sends then N.Send (send_to view node) else N.Leave)
    by_tests true sends = tt
    by_tests false true = known
    by_tests false false = tt

due_below : (troupe bound : ℕ) (views : List View) (wants : List Want) → troupe + length views ≤ bound → All (λ t. t < bound) (due_from troupe views wants)
due_below troupe bound [] wants few = All-nil (λ t. t < bound)
due_below troupe bound (view ∷ views) [] few = All-nil (λ t. t < bound)
due_below troupe bound (view ∷ views) (want ∷ wants) few =
    All-append (λ t. t < bound) (due_of troupe view want) (due_from (troupe + 1) views wants) (one (is_wanted view want)) (due_below (troupe + 1) bound views wants (omega arith))
  where
    one : (due : Bool) → All (λ t. t < bound) (if due then troupe ∷ [] else [])
    one true = All-cons (λ t. t < bound) troupe [] (omega arith) (All-nil (λ t. t < bound))
    one false = All-nil (λ t. t < bound)

-- what is looked up are troupes of the program
pub lookups_are_modules : (k : Knowing) → length k.views ≤ 32 → All IsModule (lookups k ringmaster)
lookups_are_modules k few = by_test (is_among k.down ringmaster)
  where
    by_test : (down : Bool) → All IsModule (if down then [] else due_from 0 k.views k.wants)
    by_test true = All-nil IsModule
    by_test false = due_below 0 32 k.views k.wants (omega arith)
