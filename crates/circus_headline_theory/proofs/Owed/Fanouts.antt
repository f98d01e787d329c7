-- Whom a call is owed is called, and nobody else.
use Rattle.std.proofs.Common.{◌≡◌, ℕ, ◌<◌, ◌≤◌, Bool, true, false, not, cond, ◌&&◌, ◌||◌, ◌==◌, if◌then◌else◌, zero, suc, List, [], ◌∷◌, ◌++◌, map, filter, Option, None, Some, refl, sym, ap, subst, ◌∙◌}
use Rattle.std.specs.Prelude.{nat_lt, slice_get, find, option_map}
use Rattle.std.specs.List.{list_any, list_all}
use Rattle.std.specs.Option.{option_map_or}
use Rattle.std.proofs.lemmas.Bool.{eqb-true, eq-eqb, ltb-false, ltb-true, leb-true, leb-false}
use Rattle.std.proofs.lemmas.Option.{same_Some}
use Rattle.circus_value.specs.Among.{is_among}
use Rattle.circus_header.specs.declared.call.CallHeader.{CallHeader}
use Rattle.circus_header.specs.declared.answer.Reply.{Reply}
use Rattle.circus_collate.specs.declared.giving.Said.{Said}
use Rattle.circus_collate.specs.declared.kind.Kind.{Kind}
use Rattle.circus_collate.specs.declared.view.Entry.{Entry}
use Rattle.circus_collate.specs.declared.view.View.{View}
use Rattle.circus_collate.specs.Expecting.{has_node}
use Rattle.circus_fanout.specs.declared.asked.Sending.{Sending}
use Rattle.circus_fanout.specs.declared.asked.Sending.TheVariants.{Unanswered, Settled, Stale}
use Rattle.circus_fanout.specs.declared.asked.Asked.{Asked}
use Rattle.circus_fanout.specs.declared.send.Send.{Send}
use Rattle.circus_fanout.specs.declared.send.Next.{Next}
use Rattle.circus_fanout.specs.declared.send.Next.TheVariants as N
use Rattle.circus_fanout.specs.Asking.{Asking, is_of, sending_to, mark_asked, with_sent, with_calls, is_satisfied, is_due, send_to, calls_for_a_view, next, after_stale, all_settled}
use Rattle.circus_fanout.specs.Asking as asking
use Rattle.circus_headline_theory.specs.Owed.Fanout.{Act, tells, falls, replies, is_before, is_stale, Fate, uncalled, waits, done, stale, IsCalled, is_done, receivers, receivers_next, known_view, down_nodes, replies_by, after, nodes_called, fate, AreAnswers, IsServed, MayBeCalled, IsOwedBy, CallsWhoIsOwed}

-- ---- what became of a sending, in the list of those that were asked

-- it is the same number, or isn't
other_eq : (a b c : ℕ) → (a == b) ≡ false → a ≡ c → (b == c) ≡ false
other_eq a b c differ is = by_eq (b == c) refl
  where
    by_eq : (t : Bool) → (b == c) ≡ t → t ≡ false
    by_eq false so = refl
    by_eq true so = absurd (let clash : true ≡ false = sym (eq-eqb a b (is ∙ sym (eqb-true b c so))) ∙ differ in cc)

-- the sending to a node, where the first of the list is to it or not
abbrev found : ℕ → Asked → Bool → List Asked → Option Sending
found node x b rest = option_map (λ (y : Asked). y.sending) (if b then Some x else find (is_of node) rest)

-- the first of a list that is marked
abbrev head : ℕ → Sending → Asked → Bool → Asked
head n s a b = if b then record { node = n; sending = s } else a

sending_marked : (asked : List Asked) (n : ℕ) (s : Sending) (node : ℕ) → sending_to (mark_asked asked n s) node ≡ option_map (λ old. if n == node then s else old) (sending_to asked node)
sending_marked [] n s node = refl
sending_marked (a ∷ asked) n s node = by_node (sending_marked asked n s node) (a.node == n) refl (a.node == node) refl
  where
    by_node : sending_to (mark_asked asked n s) node ≡ option_map (λ old. if n == node then s else old) (sending_to asked node) → (b : Bool) → (a.node == n) ≡ b → (c : Bool) → (a.node == node) ≡ c
        → sending_to (mark_asked (a ∷ asked) n s) node ≡ option_map (λ old. if n == node then s else old) (sending_to (a ∷ asked) node)
    by_node rest true is true also =
        let same : (n == node) ≡ true = eq-eqb n node (sym (eqb-true a.node n is) ∙ eqb-true a.node node also) in
        (λ j. found node (head n s a (is j)) ((head n s a (is j)).node == node) (mark_asked asked n s)) ∙ (λ j. found node (head n s a true) (same j) (mark_asked asked n s))
        ∙ (λ j. Some (if sym same j then s else a.sending)) ∙ (λ j. option_map (λ old. if n == node then s else old) (found node a (sym also j) asked))
    by_node rest true is false also =
        let other : (n == node) ≡ false = by_other (n == node) refl in
        (λ j. found node (head n s a (is j)) ((head n s a (is j)).node == node) (mark_asked asked n s)) ∙ (λ j. found node (head n s a true) (other j) (mark_asked asked n s)) ∙ rest
        ∙ (λ j. option_map (λ old. if n == node then s else old) (found node a (sym also j) asked))
      where
        by_other : (t : Bool) → (n == node) ≡ t → t ≡ false
        by_other false so = refl
        by_other true so = absurd (let clash : true ≡ false = sym (eq-eqb a.node node (eqb-true a.node n is ∙ eqb-true n node so)) ∙ also in cc)
    by_node rest false is true also =
        let other : (n == node) ≡ false = other_eq a.node n node is (eqb-true a.node node also) in
        (λ j. found node (head n s a (is j)) ((head n s a (is j)).node == node) (mark_asked asked n s)) ∙ (λ j. found node a (also j) (mark_asked asked n s))
        ∙ (λ j. Some (if sym other j then s else a.sending)) ∙ (λ j. option_map (λ old. if n == node then s else old) (found node a (sym also j) asked))
    by_node rest false is false also =
        (λ j. found node (head n s a (is j)) ((head n s a (is j)).node == node) (mark_asked asked n s)) ∙ (λ j. found node a (also j) (mark_asked asked n s)) ∙ rest
        ∙ (λ j. option_map (λ old. if n == node then s else old) (found node a (sym also j) asked))

-- behind one that is added
sending_added : (asked : List Asked) (n node : ℕ) → list_any (is_of n) asked ≡ false
    → sending_to (asked ++ record { node = n; sending = Unanswered } ∷ []) node ≡ (if n == node then Some Unanswered else sending_to asked node)
sending_added [] n node none = by_eq (n == node)
  where
    by_eq : (b : Bool) → option_map (λ (y : Asked). y.sending) (if b then Some (record { node = n; sending = Unanswered }) else None) ≡ (if b then Some Unanswered else None)
    by_eq true = refl
    by_eq false = refl
sending_added (a ∷ asked) n node none = by_parts (sending_added asked n node) (a.node == n) refl none
  where
    by_parts : (list_any (is_of n) asked ≡ false → sending_to (asked ++ record { node = n; sending = Unanswered } ∷ []) node ≡ (if n == node then Some Unanswered else sending_to asked node))
        → (t : Bool) → (a.node == n) ≡ t → (t || list_any (is_of n) asked) ≡ false
        → sending_to (a ∷ asked ++ record { node = n; sending = Unanswered } ∷ []) node ≡ (if n == node then Some Unanswered else sending_to (a ∷ asked) node)
    by_parts rest true is lacking = absurd (let clash : true ≡ false = lacking in cc)
    by_parts rest false is lacking = by_node (a.node == node) refl
      where
        by_node : (c : Bool) → (a.node == node) ≡ c → sending_to (a ∷ asked ++ record { node = n; sending = Unanswered } ∷ []) node ≡ (if n == node then Some Unanswered else sending_to (a ∷ asked) node)
        by_node true also =
            let other : (n == node) ≡ false = other_eq a.node n node is (eqb-true a.node node also) in
            (λ j. found node a (also j) (asked ++ record { node = n; sending = Unanswered } ∷ [])) ∙ (λ j. found node a (sym also j) asked) ∙ (λ j. if sym other j then Some Unanswered else sending_to (a ∷ asked) node)
        by_node false also =
            (λ j. found node a (also j) (asked ++ record { node = n; sending = Unanswered } ∷ [])) ∙ rest lacking ∙ (λ j. if n == node then Some Unanswered else found node a (sym also j) asked)

-- one that is among them was sent something
any_is_sent : (asked : List Asked) (n : ℕ) → list_any (is_of n) asked ≡ true → (s : Sending) × (sending_to asked n ≡ Some s)
any_is_sent [] n any = absurd (let clash : false ≡ true = any in cc)
any_is_sent (a ∷ asked) n any = by_node (any_is_sent asked n) (a.node == n) refl any
  where
    by_node : (list_any (is_of n) asked ≡ true → (s : Sending) × (sending_to asked n ≡ Some s)) → (t : Bool) → (a.node == n) ≡ t → (t || list_any (is_of n) asked) ≡ true → (s : Sending) × (sending_to (a ∷ asked) n ≡ Some s)
    by_node rest true is some = (a.sending, (λ j. found n a (is j) asked))
    by_node rest false is some = let at = rest some in (at.0, (λ j. found n a (is j) asked) ∙ at.1)

abbrev sent_if : List Asked → ℕ → Bool → List Asked
sent_if asked n b = if b then mark_asked asked n Unanswered else asked ++ record { node = n; sending = Unanswered } ∷ []

sending_sent : (asked : List Asked) (n node : ℕ) → sending_to (with_sent asked n) node ≡ (if n == node then Some Unanswered else sending_to asked node)
sending_sent asked n node = by_any (list_any (is_of n) asked) refl
  where
    by_any : (b : Bool) → list_any (is_of n) asked ≡ b → sending_to (with_sent asked n) node ≡ (if n == node then Some Unanswered else sending_to asked node)
    by_any false none = (λ j. sending_to (sent_if asked n (none j)) node) ∙ sending_added asked n node none
    by_any true some = (λ j. sending_to (sent_if asked n (some j)) node) ∙ sending_marked asked n Unanswered node ∙ by_eq (n == node) refl
      where
        by_eq : (b : Bool) → (n == node) ≡ b → option_map (λ old. if b then Unanswered else old) (sending_to asked node) ≡ (if b then Some Unanswered else sending_to asked node)
        by_eq true is =
            let at = any_is_sent asked n some in
            let there : sending_to asked node ≡ Some at.0 = ap (sending_to asked) (sym (eqb-true n node is)) ∙ at.1 in
            ap (option_map (λ (old : Sending). Unanswered)) there
        by_eq false is = same (sending_to asked node)
          where
            same : (o : Option Sending) → option_map (λ (old : Sending). old) o ≡ o
            same None = refl
            same (Some s) = refl

or_true : (b : Bool) → (b || true) ≡ true
or_true true = refl
or_true false = refl

or_false : (b : Bool) → (b || false) ≡ b
or_false true = refl
or_false false = refl

sending_calls : (sends : List Send) (asked : List Asked) (node : ℕ) → sending_to (with_calls asked sends) node ≡ (if is_among (receivers sends) node then Some Unanswered else sending_to asked node)
unfolding with_calls
sending_calls [] asked node = refl
sending_calls (send ∷ sends) asked node = sending_calls sends (with_sent asked send.node) node ∙ by_rest (is_among (receivers sends) node) (send.node == node) refl
  where
    by_rest : (among is : Bool) → (send.node == node) ≡ is
        → (if among then Some Unanswered else sending_to (with_sent asked send.node) node) ≡ (if is || among then Some Unanswered else sending_to asked node)
    by_rest true is so = λ j. if sym (or_true is) j then Some Unanswered else sending_to asked node
    by_rest false is so = sending_sent asked send.node node ∙ (λ j. if so j then Some Unanswered else sending_to asked node) ∙ (λ j. if sym (or_false is) j then Some Unanswered else sending_to asked node)

-- ---- the calls of a view

-- an entry that is owed a call is among those that are called
among_owed : (view : View) (down_nodes : List ℕ) (asked : List Asked) (entries : List Entry) (place : ℕ) (e : Entry) → slice_get entries place ≡ Some e → is_due view down_nodes asked e ≡ true
    → is_among (receivers (map (λ (x : Entry). send_to view x.node) (filter (is_due view down_nodes asked) entries))) e.node ≡ true
among_owed view down_nodes asked [] place e there owed = absurd cc
among_owed view down_nodes asked (x ∷ entries) zero e there owed =
    let same : x ≡ e = same_Some x e there in
    (λ j. is_among (receivers (map (λ (y : Entry). send_to view y.node) (cond ((ap (is_due view down_nodes asked) same ∙ owed) j) (x ∷ filter (is_due view down_nodes asked) entries) (filter (is_due view down_nodes asked) entries)))) e.node)
    ∙ ap (λ b. b || is_among (receivers (map (λ (y : Entry). send_to view y.node) (filter (is_due view down_nodes asked) entries))) e.node) (eq-eqb x.node e.node (ap (λ (y : Entry). y.node) same))
among_owed view down_nodes asked (x ∷ entries) (suc place) e there owed = by_first (is_due view down_nodes asked x) (among_owed view down_nodes asked entries place e there owed)
  where
    by_first : (b : Bool) → is_among (receivers (map (λ (y : Entry). send_to view y.node) (filter (is_due view down_nodes asked) entries))) e.node ≡ true
        → is_among (receivers (map (λ (y : Entry). send_to view y.node) (cond b (x ∷ filter (is_due view down_nodes asked) entries) (filter (is_due view down_nodes asked) entries)))) e.node ≡ true
    by_first false rest = rest
    by_first true rest = ap (λ b. (x.node == e.node) || b) rest ∙ or_true (x.node == e.node)

-- whom the calls go to is an entry that is owed one
record OwedTo (view : View) (down_nodes : List ℕ) (asked : List Asked) (entries : List Entry) (node : ℕ) : Type 0 where
  entry : Entry
  to : entry.node ≡ node
  owed : is_due view down_nodes asked entry ≡ true
  there : list_any (λ (e : Entry). e.node == node) entries ≡ true

only_owed : (view : View) (down_nodes : List ℕ) (asked : List Asked) (entries : List Entry) (node : ℕ)
    → is_among (receivers (map (λ (x : Entry). send_to view x.node) (filter (is_due view down_nodes asked) entries))) node ≡ true → OwedTo view down_nodes asked entries node
only_owed view down_nodes asked [] node among = absurd (let clash : false ≡ true = among in cc)
only_owed view down_nodes asked (x ∷ entries) node among = by_first (only_owed view down_nodes asked entries node) (is_due view down_nodes asked x) refl among
  where
    later : OwedTo view down_nodes asked entries node → OwedTo view down_nodes asked (x ∷ entries) node
    later o = record { entry = o.entry; to = o.to; owed = o.owed; there = ap (λ b. (x.node == node) || b) o.there ∙ or_true (x.node == node) }

    by_node : (is_among (receivers (map (λ (y : Entry). send_to view y.node) (filter (is_due view down_nodes asked) entries))) node ≡ true → OwedTo view down_nodes asked entries node)
        → is_due view down_nodes asked x ≡ true → (b : Bool) → (x.node == node) ≡ b
        → (b || is_among (receivers (map (λ (y : Entry). send_to view y.node) (filter (is_due view down_nodes asked) entries))) node) ≡ true → OwedTo view down_nodes asked (x ∷ entries) node
    by_node rest owed true is some = record { entry = x; to = eqb-true x.node node is; owed = owed; there = ap (λ b. b || list_any (λ (e : Entry). e.node == node) entries) is }
    by_node rest owed false is some = later (rest some)

    by_first : (is_among (receivers (map (λ (y : Entry). send_to view y.node) (filter (is_due view down_nodes asked) entries))) node ≡ true → OwedTo view down_nodes asked entries node)
        → (b : Bool) → is_due view down_nodes asked x ≡ b
        → is_among (receivers (map (λ (y : Entry). send_to view y.node) (cond b (x ∷ filter (is_due view down_nodes asked) entries) (filter (is_due view down_nodes asked) entries)))) node ≡ true
        → OwedTo view down_nodes asked (x ∷ entries) node
    by_first rest true owed some = by_node rest owed (x.node == node) refl some
    by_first rest false owed some = later (rest some)

calls_reach : (view : View) (down_nodes : List ℕ) (asked : List Asked) (place : ℕ) (e : Entry) → slice_get view.entries place ≡ Some e → is_due view down_nodes asked e ≡ true
    → is_among (receivers (calls_for_a_view view down_nodes asked)) e.node ≡ true
unfolding calls_for_a_view
calls_reach view down_nodes asked place e there owed = among_owed view down_nodes asked view.entries place e there owed

calls_are_owed : (view : View) (down_nodes : List ℕ) (asked : List Asked) (node : ℕ) → is_among (receivers (calls_for_a_view view down_nodes asked)) node ≡ true → OwedTo view down_nodes asked view.entries node
unfolding calls_for_a_view
calls_are_owed view down_nodes asked node among = only_owed view down_nodes asked view.entries node among

-- ---- what follows a Stale

next_is : (view : View) (down_nodes : List ℕ) (node incarnation : ℕ)
    → next view down_nodes node incarnation
    ≡ (if nat_lt view.incarnation incarnation then N.Lookup incarnation else if has_node view node && not (is_among down_nodes node) then N.Send (send_to view node) else N.Leave)
unfolding next
next_is view down_nodes node incarnation = refl

-- it is a new call, or a view is awaited, or the node is none that is called
data Follows (view : View) (down_nodes : List ℕ) (node incarnation : ℕ) : Type 0 where
  awaits : next view down_nodes node incarnation ≡ N.Lookup incarnation → view.incarnation < incarnation → Follows view down_nodes node incarnation
  calls : next view down_nodes node incarnation ≡ N.Send (send_to view node) → incarnation ≤ view.incarnation → has_node view node ≡ true → is_among down_nodes node ≡ false → Follows view down_nodes node incarnation
  leaves : next view down_nodes node incarnation ≡ N.Leave → (has_node view node ≡ true → is_among down_nodes node ≡ false → ⊥) → Follows view down_nodes node incarnation

follows : (view : View) (down_nodes : List ℕ) (node incarnation : ℕ) → Follows view down_nodes node incarnation
follows view down_nodes node incarnation = by_view (nat_lt view.incarnation incarnation) refl
  where
    by_node : nat_lt view.incarnation incarnation ≡ false → (b c : Bool) → has_node view node ≡ b → is_among down_nodes node ≡ c → Follows view down_nodes node incarnation
    by_node met true false is up =
        calls (next_is view down_nodes node incarnation ∙ (λ j. if met j then N.Lookup incarnation else if is j && not (up j) then N.Send (send_to view node) else N.Leave))
        (ltb-false view.incarnation incarnation met) is up
    by_node met true true is gone =
        leaves (next_is view down_nodes node incarnation ∙ (λ j. if met j then N.Lookup incarnation else if is j && not (gone j) then N.Send (send_to view node) else N.Leave))
        (λ has up. let clash : true ≡ false = sym gone ∙ up in cc)
    by_node met false c lacks gone =
        leaves (next_is view down_nodes node incarnation ∙ (λ j. if met j then N.Lookup incarnation else if lacks j && not (gone j) then N.Send (send_to view node) else N.Leave))
        (λ has up. let clash : false ≡ true = sym lacks ∙ has in cc)

    by_view : (b : Bool) → nat_lt view.incarnation incarnation ≡ b → Follows view down_nodes node incarnation
    by_view true below =
        awaits (next_is view down_nodes node incarnation ∙ (λ j. if below j then N.Lookup incarnation else if has_node view node && not (is_among down_nodes node) then N.Send (send_to view node) else N.Leave))
        (ltb-true view.incarnation incarnation below)
    by_view false met = by_node met (has_node view node) (is_among down_nodes node) refl refl

-- an entry of a view is one by its node
has_entry : (entries : List Entry) (place : ℕ) (e : Entry) → slice_get entries place ≡ Some e → list_any (λ (x : Entry). x.node == e.node) entries ≡ true
has_entry [] place e there = absurd cc
has_entry (x ∷ entries) zero e there = ap (λ b. b || list_any (λ (y : Entry). y.node == e.node) entries) (eq-eqb x.node e.node (ap (λ (y : Entry). y.node) (same_Some x e there)))
has_entry (x ∷ entries) (suc place) e there = ap (λ b. (x.node == e.node) || b) (has_entry entries place e there) ∙ or_true (x.node == e.node)

-- ---- what is kept is what became of the last call

abbrev as_sending : Fate → Option Sending
as_sending uncalled = None
as_sending waits = Some Unanswered
as_sending done = Some Settled
as_sending (stale incarnation) = Some (Stale incarnation)

-- where a node was called, an answer of it stands in place of the one before
answer_is : (n node : ℕ) (s : Sending) (answer f g : Fate) → as_sending answer ≡ Some s → IsCalled g → (n ≡ node → g ≡ f)
    → option_map (λ old. if n == node then s else old) (as_sending f) ≡ as_sending (if n == node then answer else f)
answer_is n node s answer f g is nodes_called same = by_node (n == node) refl
  where
    kept : (o : Option Sending) → option_map (λ (old : Sending). old) o ≡ o
    kept None = refl
    kept (Some x) = refl

    put : (h : Fate) → IsCalled h → option_map (λ (old : Sending). s) (as_sending h) ≡ Some s
    put uncalled c = absurd c
    put waits c = refl
    put done c = refl
    put (stale incarnation) c = refl

    by_node : (b : Bool) → (n == node) ≡ b → option_map (λ old. if b then s else old) (as_sending f) ≡ as_sending (if b then answer else f)
    by_node true so = put f (subst IsCalled (same (eqb-true n node so)) nodes_called) ∙ sym is
    by_node false so = kept (as_sending f)

module _ (header : CallHeader) (body : List ℕ) (kind : Kind) (first : View) (gone : List ℕ) where
  abbrev then_ : List Act → Asking
  then_ acts = after header body kind first gone acts

  abbrev fate_ : List Act → ℕ → Fate
  fate_ acts node = fate header body kind first gone acts node

  abbrev Answers_ : List Act → Type 0
  Answers_ acts = AreAnswers header body kind first gone acts

  sending_is : (acts : List Act) → Answers_ acts → (node : ℕ) → sending_to (then_ acts).asked node ≡ as_sending (fate_ acts node)
  sending_is [] real node = sending_calls (calls_for_a_view first gone []) [] node ∙ by_among (is_among (receivers (calls_for_a_view first gone [])) node)
    where
      by_among : (b : Bool) → (if b then Some Unanswered else sending_to [] node) ≡ as_sending (if b then waits else uncalled)
      by_among true = refl
      by_among false = refl
  sending_is (tells view ∷ before) real node =
      let sends = calls_for_a_view view (down_nodes header body kind first gone before) (then_ before).asked in
      sending_calls sends (then_ before).asked node ∙ by_among (sending_is before real node) (is_among (receivers sends) node)
    where
      by_among : sending_to (then_ before).asked node ≡ as_sending (fate_ before node) → (b : Bool)
          → (if b then Some Unanswered else sending_to (then_ before).asked node) ≡ as_sending (if b then waits else fate_ before node)
      by_among rest true = refl
      by_among rest false = rest
  sending_is (falls other ∷ before) real node = sending_is before real node
  sending_is (replies other reply ∷ before) real node =
      sending_marked (then_ before).asked other Settled node ∙ (λ j. option_map (λ old. if other == node then Settled else old) (sending_is before real.0 node j))
      ∙ answer_is other node Settled done (fate_ before node) (fate_ before other) refl real.1 (ap (fate_ before))
  sending_is (is_before other ∷ before) real node =
      sending_marked (then_ before).asked other Settled node ∙ (λ j. option_map (λ old. if other == node then Settled else old) (sending_is before real.0 node j))
      ∙ answer_is other node Settled done (fate_ before node) (fate_ before other) refl real.1 (ap (fate_ before))
  sending_is (is_stale other incarnation ∷ before) real node = by_next (follows view gone_then other incarnation) (sending_is before real.0 node)
    where
      view : View
      view = known_view header body kind first gone before

      gone_then : List ℕ
      gone_then = down_nodes header body kind first gone before

      Goal : Next → Type 0
      Goal x = sending_to (mark_asked (then_ before).asked other (after_stale x incarnation)) node
          ≡ as_sending (if is_among (receivers_next x) node then waits else (if other == node then stale incarnation else fate_ before node))

      to_goal : (x : Next) → next view gone_then other incarnation ≡ x → Goal x → Goal (next view gone_then other incarnation)
      to_goal x is goal = subst Goal (sym is) goal

      stays : sending_to (then_ before).asked node ≡ as_sending (fate_ before node)
          → sending_to (mark_asked (then_ before).asked other (Stale incarnation)) node ≡ as_sending (if other == node then stale incarnation else fate_ before node)
      stays rest =
          sending_marked (then_ before).asked other (Stale incarnation) node ∙ (λ j. option_map (λ old. if other == node then Stale incarnation else old) (rest j))
          ∙ answer_is other node (Stale incarnation) (stale incarnation) (fate_ before node) (fate_ before other) refl real.1 (ap (fate_ before))

      again : (b : Bool) → as_sending (if b then waits else fate_ before node)
          ≡ as_sending (if b || false then waits else (if b then stale incarnation else fate_ before node))
      again true = refl
      again false = refl

      by_next : Follows view gone_then other incarnation → sending_to (then_ before).asked node ≡ as_sending (fate_ before node) → Goal (next view gone_then other incarnation)
      by_next (awaits is below) rest = to_goal (N.Lookup incarnation) is (stays rest)
      by_next (leaves is none) rest = to_goal N.Leave is (stays rest)
      by_next (calls is satisfied has up) rest =
          to_goal (N.Send (send_to view other)) is
          (sending_marked (then_ before).asked other Unanswered node ∙ (λ j. option_map (λ old. if other == node then Unanswered else old) (rest j))
          ∙ answer_is other node Unanswered waits (fate_ before node) (fate_ before other) refl real.1 (ap (fate_ before)) ∙ again (other == node))

  -- ---- nobody waits for a call

  abbrev Served_ : List Act → Type 0
  Served_ acts =
      (place : ℕ) (e : Entry) → slice_get (known_view header body kind first gone acts).entries place ≡ Some e → is_among (down_nodes header body kind first gone acts) e.node ≡ false
      → IsServed (known_view header body kind first gone acts) (fate_ acts e.node)

  -- an entry that is owed no call is served
  not_owed : (view : View) (gone_nodes : List ℕ) (asked : List Asked) (e : Entry) (f : Fate) → is_among gone_nodes e.node ≡ false → sending_to asked e.node ≡ as_sending f
      → is_due view gone_nodes asked e ≡ false → IsServed view f
  not_owed view gone_nodes asked e f up is none = by_fate f ((λ j. not (sym up j) && option_map_or (is_satisfied view) (sym is j) true) ∙ none)
    where
      by_fate : (g : Fate) → option_map_or (is_satisfied view) (as_sending g) true ≡ false → IsServed view g
      by_fate uncalled clash = absurd (let c : true ≡ false = clash in cc)
      by_fate waits clash = tt
      by_fate done clash = tt
      by_fate (stale incarnation) clash = leb-false incarnation view.incarnation clash

  -- of those that a view makes due each is called, and so waits
  served_by_calls : (view : View) (gone_nodes : List ℕ) (asked : List Asked) (f : Fate) (place : ℕ) (e : Entry) → slice_get view.entries place ≡ Some e → is_among gone_nodes e.node ≡ false
      → sending_to asked e.node ≡ as_sending f → IsServed view (if is_among (receivers (calls_for_a_view view gone_nodes asked)) e.node then waits else f)
  served_by_calls view gone_nodes asked f place e there up is = by_owed (is_due view gone_nodes asked e) refl
    where
      by_among : (b : Bool) → IsServed view f → IsServed view (if b then waits else f)
      by_among true s = tt
      by_among false s = s

      by_owed : (b : Bool) → is_due view gone_nodes asked e ≡ b → IsServed view (if is_among (receivers (calls_for_a_view view gone_nodes asked)) e.node then waits else f)
      by_owed true owed = subst (λ (b : Bool). IsServed view (if b then waits else f)) (sym (calls_reach view gone_nodes asked place e there owed)) tt
      by_owed false none = by_among (is_among (receivers (calls_for_a_view view gone_nodes asked)) e.node) (not_owed view gone_nodes asked e f up is none)

  served_by_answer : (view : View) (n node : ℕ) (answer f : Fate) → IsServed view answer → IsServed view f → IsServed view (if n == node then answer else f)
  served_by_answer view n node answer f a s = by_node (n == node)
    where
      by_node : (b : Bool) → IsServed view (if b then answer else f)
      by_node true = a
      by_node false = s

  all_served : (acts : List Act) → Answers_ acts → Served_ acts
  all_served [] real place e there up = served_by_calls first gone [] uncalled place e there up refl
  all_served (tells view ∷ before) real place e there up =
      served_by_calls view (down_nodes header body kind first gone before) (then_ before).asked (fate_ before e.node) place e there up (sending_is before real e.node)
  all_served (falls other ∷ before) real place e there up = all_served before real place e there (or_none (other == e.node) (is_among (down_nodes header body kind first gone before) e.node) up)
    where
      or_none : (b c : Bool) → (b || c) ≡ false → c ≡ false
      or_none false c none = none
      or_none true c none = absurd (let clash : true ≡ false = none in cc)
  all_served (replies other reply ∷ before) real place e there up =
      served_by_answer (known_view header body kind first gone before) other e.node done (fate_ before e.node) tt (all_served before real.0 place e there up)
  all_served (is_before other ∷ before) real place e there up =
      served_by_answer (known_view header body kind first gone before) other e.node done (fate_ before e.node) tt (all_served before real.0 place e there up)
  all_served (is_stale other incarnation ∷ before) real place e there up = by_next (follows view gone_then other incarnation) (all_served before real.0 place e there up)
    where
      view : View
      view = known_view header body kind first gone before

      gone_then : List ℕ
      gone_then = down_nodes header body kind first gone before

      Goal : Next → Type 0
      Goal x = IsServed view (if is_among (receivers_next x) e.node then waits else (if other == e.node then stale incarnation else fate_ before e.node))

      to_goal : (x : Next) → next view gone_then other incarnation ≡ x → Goal x → Goal (next view gone_then other incarnation)
      to_goal x is goal = subst Goal (sym is) goal

      by_node : IsServed view (fate_ before e.node) → (b : Bool) → (other == e.node) ≡ b → (other ≡ e.node → ⊥) → IsServed view (if b then stale incarnation else fate_ before e.node)
      by_node rest true is apart = absurd (apart (eqb-true other e.node is))
      by_node rest false is apart = rest

      again : IsServed view (fate_ before e.node) → (b : Bool) → IsServed view (if b || false then waits else (if b then stale incarnation else fate_ before e.node))
      again rest true = tt
      again rest false = rest

      by_next : Follows view gone_then other incarnation → IsServed view (fate_ before e.node) → Goal (next view gone_then other incarnation)
      by_next (awaits is below) rest = to_goal (N.Lookup incarnation) is (served_by_answer view other e.node (stale incarnation) (fate_ before e.node) below rest)
      by_next (calls is satisfied has up_) rest = to_goal (N.Send (send_to view other)) is (again rest (other == e.node))
      by_next (leaves is none) rest =
          to_goal N.Leave is
          (by_node rest (other == e.node) refl
          (λ same. none (ap (has_node view) same ∙ has_entry view.entries place e there) (ap (is_among gone_then) same ∙ up)))

  -- ---- and nobody else is called

  abbrev Owed_ : Act → List Act → ℕ → Type 0
  Owed_ act before node =
      (has_node (known_view header body kind first gone (act ∷ before)) node ≡ true) × (is_among (down_nodes header body kind first gone before) node ≡ false)
      × IsOwedBy act (known_view header body kind first gone (act ∷ before)) node (fate_ before node)

  may_be_called : (view : View) (gone_nodes : List ℕ) (asked : List Asked) (e : Entry) (f : Fate) → sending_to asked e.node ≡ as_sending f → is_due view gone_nodes asked e ≡ true
      → (is_among gone_nodes e.node ≡ false) × MayBeCalled view f
  may_be_called view gone_nodes asked e f is owed = by_down (is_among gone_nodes e.node) refl ((λ j. not (is_among gone_nodes e.node) && option_map_or (is_satisfied view) (sym is j) true) ∙ owed)
    where
      by_fate : (g : Fate) → option_map_or (is_satisfied view) (as_sending g) true ≡ true → MayBeCalled view g
      by_fate uncalled so = tt
      by_fate waits so = absurd (let c : false ≡ true = so in cc)
      by_fate done so = absurd (let c : false ≡ true = so in cc)
      by_fate (stale incarnation) so = leb-true incarnation view.incarnation so

      by_down : (b : Bool) → is_among gone_nodes e.node ≡ b → (not b && option_map_or (is_satisfied view) (as_sending f) true) ≡ true → (is_among gone_nodes e.node ≡ false) × MayBeCalled view f
      by_down true so both = absurd (let c : false ≡ true = both in cc)
      by_down false so both = (so, by_fate f both)

  only_called : (act : Act) (before : List Act) → Answers_ before → (node : ℕ) → is_among (nodes_called header body kind first gone (act ∷ before)) node ≡ true → Owed_ act before node
  only_called (tells view) before real node among =
      let o = calls_are_owed view (down_nodes header body kind first gone before) (then_ before).asked node among in
      let m = may_be_called view (down_nodes header body kind first gone before) (then_ before).asked o.entry (fate_ before o.entry.node) (sending_is before real o.entry.node) o.owed in
      (o.there, subst (λ (n : ℕ). is_among (down_nodes header body kind first gone before) n ≡ false) o.to m.0, subst (λ (n : ℕ). MayBeCalled view (fate_ before n)) o.to m.1)
  only_called (falls other) before real node among = absurd (let c : false ≡ true = among in cc)
  only_called (replies other reply) before real node among = absurd (let c : false ≡ true = among in cc)
  only_called (is_before other) before real node among = absurd (let c : false ≡ true = among in cc)
  only_called (is_stale other incarnation) before real node among = by_next (follows view gone_then other incarnation)
    where
      view : View
      view = known_view header body kind first gone before

      gone_then : List ℕ
      gone_then = down_nodes header body kind first gone before

      to_one : (b : Bool) → (other == node) ≡ b → (b || false) ≡ true → other ≡ node
      to_one true is so = eqb-true other node is
      to_one false is so = absurd (let c : false ≡ true = so in cc)

      by_next : Follows view gone_then other incarnation → Owed_ (is_stale other incarnation) before node
      by_next (awaits is below) = absurd (let c : false ≡ true = ap (λ (x : Next). is_among (receivers_next x) node) (sym is) ∙ among in cc)
      by_next (leaves is none) = absurd (let c : false ≡ true = ap (λ (x : Next). is_among (receivers_next x) node) (sym is) ∙ among in cc)
      by_next (calls is satisfied has up) =
          let same = to_one (other == node) refl (ap (λ (x : Next). is_among (receivers_next x) node) (sym is) ∙ among) in
          (subst (λ (n : ℕ). has_node view n ≡ true) same has, subst (λ (n : ℕ). is_among gone_then n ≡ false) same up, (same, satisfied))

  -- ---- when it is closed, and what was said

  same_all : {X : Type 0} (p q : X → Bool) → ((x : X) → p x ≡ q x) → (xs : List X) → list_all p xs ≡ list_all q xs
  same_all p q each [] = refl
  same_all p q each (x ∷ xs) = λ j. each x j && same_all p q each xs j

  closes_is : (acts : List Act) → Answers_ acts → all_settled (known_view header body kind first gone acts) (down_nodes header body kind first gone acts) (then_ acts)
      ≡ list_all (λ (e : Entry). is_among (down_nodes header body kind first gone acts) e.node || is_done (fate_ acts e.node)) (known_view header body kind first gone acts).entries
  closes_is acts real =
      same_all (asking.is_done (down_nodes header body kind first gone acts) (then_ acts).asked) (λ (e : Entry). is_among (down_nodes header body kind first gone acts) e.node || is_done (fate_ acts e.node))
      (λ e. ap (λ b. is_among (down_nodes header body kind first gone acts) e.node || b)
      ((λ j. option_map_or asking.is_settled (sending_is acts real e.node j) false) ∙ by_fate (fate_ acts e.node)))
      (known_view header body kind first gone acts).entries
    where
      by_fate : (f : Fate) → option_map_or asking.is_settled (as_sending f) false ≡ is_done f
      by_fate uncalled = refl
      by_fate waits = refl
      by_fate done = refl
      by_fate (stale incarnation) = refl

  said_is : (acts : List Act) → (then_ acts).said ≡ replies_by header body kind first gone acts
  said_is [] = refl
  said_is (tells view ∷ before) = said_is before
  said_is (falls other ∷ before) = said_is before
  said_is (replies other reply ∷ before) = ap (λ (l : List (Said Reply)). l ++ record { node = other; value = reply } ∷ []) (said_is before)
  said_is (is_before other ∷ before) = said_is before
  said_is (is_stale other incarnation ∷ before) = said_is before

  -- what answers before an act are answers
  answers_before : (act : Act) (before : List Act) → Answers_ (act ∷ before) → Answers_ before
  answers_before (tells view) before real = real
  answers_before (falls other) before real = real
  answers_before (replies other reply) before real = real.0
  answers_before (is_before other) before real = real.0
  answers_before (is_stale other incarnation) before real = real.0

  pub calls_who_is_owed : (acts : List Act) → Answers_ acts → CallsWhoIsOwed header body kind first gone acts
  calls_who_is_owed acts real =
      record {
        served = all_served acts real;
        only = λ act before node are among.
            subst (λ (l : List Act).
            (has_node (known_view header body kind first gone l) node ≡ true) × (is_among (down_nodes header body kind first gone before) node ≡ false)
            × IsOwedBy act (known_view header body kind first gone l) node (fate_ before node))
            (sym are)
            (only_called act before (answers_before act before (subst Answers_ are real)) node (subst (λ (l : List Act). is_among (nodes_called header body kind first gone l) node ≡ true) are among));
        closes = closes_is acts real;
        said = said_is acts;
      }
