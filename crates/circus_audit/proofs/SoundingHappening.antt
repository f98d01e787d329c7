-- The lines of events that are read are those of what happened so far.
use Rattle.std.specs.List.{AllByRecursion, flat_map}
use Rattle.std.specs.Fmt.{decimal}
use Rattle.std.proofs.Common.{◌≡◌, ◌∙◌, ℕ, ◌+◌, ◌<◌, ◌≤◌, ◌^◌, true, inl, inr, List, [], ◌∷◌, ◌++◌, length, map, codes, Option, Some, None, option_map, refl, sym, ap, subst, arith, append_assoc, append-nil, length-append}
use Rattle.std.proofs.lemmas.Grind.{flat_map-append}
use Rattle.std.proofs.lemmas.List.{length-map, map-append}
use Rattle.hex.specs.Hex.{encode_lower}
use Rattle.circus_record.specs.Line.{line}
use Rattle.circus_record.specs.Naming.{Names}
use Rattle.circus_node.specs.declared.event.Give.{Give}
use Rattle.circus_serve.specs.NodeText.{event_line, give_line}
use Rattle.circus_config.specs.declared.plan.Plan.{Plan}
use Rattle.circus_value_text.specs.Reading.{behind_prefix}
use Rattle.circus_value_text.proofs.Marks.{passed_stands}
use Rattle.circus_audit.specs.Possible.{CanCome, CanBeGiven}
use Rattle.circus_audit.specs.RecordText.{Stray, what_came, stray_line, IsStray}
use Rattle.circus_audit.specs.declared.noted.Differing.{Differing}
use Rattle.circus_audit.specs.declared.noted.Noted.{Noted}
use Rattle.circus_audit.specs.declared.noted.Kind.{Kind}
use Rattle.circus_audit.specs.declared.noted.Kind.TheVariants.{Gives, Differences, Foreign}
use Rattle.circus_audit.specs.declared.noted.Happened.{Happened}
use Rattle.circus_audit.specs.Seen.Answers.{from_some, or_else, only_if}
use Rattle.circus_audit.specs.Seen.Events.{event_read, give_read, differing_read, foreign_read}
use Rattle.circus_audit.specs.Seen.Happening.{all_noted, may_follow, open_for, with_last, begin_event, differing_added, foreign_passed, event_added, give_added, happened_after}
use Rattle.circus_audit.specs.Seen.Names.{name_at}
use Rattle.circus_audit.specs.Seen.Reading.{node_names}
use Rattle.circus_audit.proofs.Opening.{from_is, map_is, only_is, or_is}
use Rattle.circus_audit.proofs.SoundingEvents.{spelled, four_texts, event_sound, give_sound, differing_sound, foreign_sound}
use Rattle.circus_audit.proofs.SoundingPerforming.{all_more}

-- an event with the strays behind it
pub record Heard : Type 0 where
  pub noted : Noted
  pub strays : List Stray

-- replies that differ, of which the texts are kept
abbrev pub differing_line : Differing → List ℕ
differing_line d = line (codes "differ run " ++ (decimal d.run ++ (codes " ask " ++ (decimal d.ask ++ d.replies))))

abbrev pub heard_lines : Names → ℕ → Heard → List ℕ
heard_lines names number h =
    event_line number (what_came names h.noted.event)
    ++ flat_map (give_line names) h.noted.gives
    ++ flat_map differing_line h.noted.differing
    ++ flat_map stray_line h.strays

-- events, the first having this number
abbrev pub all_heard : Names → ℕ → List Heard → List ℕ
all_heard names number [] = []
all_heard names number (h ∷ others) = heard_lines names number h ++ all_heard names (number + 1) others

abbrev pub noted_of : Heard → Noted
noted_of h = h.noted

heard_more : (names : Names) (number : ℕ) (hs : List Heard) (h : Heard) → all_heard names number (hs ++ h ∷ []) ≡ all_heard names number hs ++ heard_lines names (number + length hs) h
heard_more names number [] h =
    let here : number ≡ number + 0 = omega arith in
    append-nil (heard_lines names number h) ∙ ap (λ n. heard_lines names n h) here
heard_more names number (first ∷ hs) h =
    let here : number + 1 + length hs ≡ number + length (first ∷ hs) = omega arith in
    ap (λ x. heard_lines names number first ++ x) (heard_more names (number + 1) hs h)
    ∙ sym (append_assoc (heard_lines names number first) (all_heard names (number + 1) hs) (heard_lines names (number + 1 + length hs) h))
    ∙ ap (λ n. (heard_lines names number first ++ all_heard names (number + 1) hs) ++ heard_lines names n h) here

one_more : {X : Type 0} (f : X → List ℕ) (xs : List X) (x : X) → flat_map f (xs ++ x ∷ []) ≡ flat_map f xs ++ f x
one_more f xs x = flat_map-append f xs (x ∷ []) ∙ ap (λ y. flat_map f xs ++ y) (append-nil (f x))

-- with a datagram that was given, and with replies that differ
abbrev giving : Noted → Give → Noted
giving n give = record { event = n.event; gives = n.gives ++ give ∷ []; differing = n.differing }

abbrev differing_so : Noted → Differing → Noted
differing_so n d = record { event = n.event; gives = n.gives; differing = n.differing ++ d ∷ [] }

-- ---- texts with one more line

with_give : (e g m : List ℕ) → ((e ++ (g ++ m)) ++ []) ++ [] ≡ (((e ++ g) ++ []) ++ []) ++ m
with_give e g m = simp (append_assoc, append-nil)

with_differing : (e g d m : List ℕ) → ((e ++ g) ++ (d ++ m)) ++ [] ≡ (((e ++ g) ++ d) ++ []) ++ m
with_differing e g d m = simp (append_assoc, append-nil)

with_stray : (e g d f m : List ℕ) → ((e ++ g) ++ d) ++ (f ++ m) ≡ (((e ++ g) ++ d) ++ f) ++ m
with_stray e g d f m = simp append_assoc

module _ (plan : Plan) (own : ℕ) where
  abbrev pub IsFewDiffering : Differing → Type 0
  IsFewDiffering d = (d.run < 2 ^ 32) × (d.ask < 2 ^ 32)

  -- what may stand behind an event so
  pub record IsHeard (h : Heard) : Type 0 where
    pub event : CanCome plan own h.noted.event
    pub gives : AllByRecursion (CanBeGiven plan own) h.noted.gives
    pub differing : AllByRecursion IsFewDiffering h.noted.differing
    pub strays : AllByRecursion IsStray h.strays

  -- these events have these lines
  pub record HasLines (notes : List Noted) (text : List ℕ) : Type 0 where
    pub heard : List Heard
    pub are : map noted_of heard ≡ notes
    pub each : AllByRecursion IsHeard heard
    pub few : length notes ≤ 2 ^ 32
    pub text_is : text ≡ all_heard (spelled plan) 0 heard

  -- what stands behind the last line of a kind
  abbrev pub Fits : Kind → Noted → List Stray → Type 0
  Fits Gives n strays = (n.differing ≡ []) × (strays ≡ [])
  Fits Differences n strays = strays ≡ []
  Fits Foreign n strays = Unit {0}

  pub record IsLast (number : ℕ) (kind : Kind) (n : Noted) (text : List ℕ) : Type 0 where
    pub strays : List Stray
    pub is_heard : IsHeard (record { noted = n; strays = strays })
    pub fits : Fits kind n strays
    pub few : number < 2 ^ 32
    pub text_is : text ≡ heard_lines (spelled plan) number (record { noted = n; strays = strays })

  abbrev pub IsTail : ℕ → Kind → Option Noted → List ℕ → Type 0
  IsTail number kind None text = text ≡ []
  IsTail number kind (Some n) text = IsLast number kind n text

  -- these are the lines of what happened so far
  pub record Happens (h : Happened) (text : List ℕ) : Type 0 where
    pub front : List ℕ
    pub earlier : HasLines h.earlier front
    pub last : List ℕ
    pub is_last : IsTail (length h.earlier) h.kind h.last last
    pub text_is : text ≡ front ++ last

  -- all events
  pub all_lines_of : (earlier : List Noted) (kind : Kind) (last : Option Noted) (front behind text : List ℕ) → HasLines earlier front → IsTail (length earlier) kind last behind → text ≡ front ++ behind → HasLines (all_noted earlier last) text
  all_lines_of earlier kind None front behind text has is_last is = record {
    heard = has.heard;
    are = has.are;
    each = has.each;
    few = has.few;
    text_is = is ∙ ap (λ x. front ++ x) is_last ∙ append-nil front ∙ has.text_is;
  }
  all_lines_of earlier kind (Some n) front behind text has is_last is =
      let h : Heard = record { noted = n; strays = is_last.strays } in
      let count : length has.heard ≡ length earlier = sym (length-map has.heard noted_of) ∙ ap length has.are in
      let number : length earlier ≡ 0 + length has.heard = omega (arith, count) in
      record {
        heard = has.heard ++ h ∷ [];
        are = map-append noted_of has.heard (h ∷ []) ∙ ap (λ ns. ns ++ n ∷ []) has.are;
        each = all_more IsHeard has.heard h has.each is_last.is_heard;
        few = omega (arith, is_last.few, length-append earlier (n ∷ []));
        text_is = is ∙ (λ i. has.text_is i ++ is_last.text_is i) ∙ ap (λ k. all_heard (spelled plan) 0 has.heard ++ heard_lines (spelled plan) k h) number ∙ sym (heard_more (spelled plan) 0 has.heard h);
      }

  pub all_of : (h : Happened) (text : List ℕ) → Happens h text → HasLines (all_noted h.earlier h.last) text
  all_of h text is = all_lines_of h.earlier h.kind h.last is.front is.last text is.earlier is.is_last is.text_is

  -- ---- what may follow

  gives_follow : (kind : Kind) (n : Noted) (strays : List Stray) → may_follow Gives kind ≡ true → Fits kind n strays → (n.differing ≡ []) × (strays ≡ [])
  gives_follow Gives n strays may fits = fits
  gives_follow Differences n strays may fits = cc
  gives_follow Foreign n strays may fits = cc

  differences_follow : (kind : Kind) (n : Noted) (strays : List Stray) → may_follow Differences kind ≡ true → Fits kind n strays → strays ≡ []
  differences_follow Gives n strays may fits = fits.1
  differences_follow Differences n strays may fits = fits
  differences_follow Foreign n strays may fits = cc

  -- where a line of a kind may stand, there is a last event
  pub record IsOpenFor (kind : Kind) (h : Happened) (r : List Noted × Noted) : Type 0 where
    pub earlier_is : h.earlier ≡ r.0
    pub last_is : h.last ≡ Some r.1
    pub may : may_follow kind h.kind ≡ true

  open_is : (kind : Kind) (h : Happened) (r : List Noted × Noted) → open_for kind h ≡ Some r → IsOpenFor kind h r
  open_is kind h r is =
      let x = from_is h.last (λ noted. only_if (may_follow kind h.kind) (Some (h.earlier, noted))) r is in
      let test = only_is (may_follow kind h.kind) (Some (h.earlier, x.0)) r x.2 in
      let same : ◌≡◌ {A = List Noted × Noted} (h.earlier, x.0) r = cc (test.1) in
      record {
        earlier_is = ap (λ (q : List Noted × Noted). q.0) same;
        last_is = x.1 ∙ ap (λ (q : List Noted × Noted). Some q.1) same;
        may = test.0;
      }

  -- the last event, with one more line
  last_of : (kind : Kind) (h : Happened) (r : List Noted × Noted) (behind : List ℕ) → IsOpenFor kind h r → IsTail (length h.earlier) h.kind h.last behind → IsLast (length h.earlier) h.kind r.1 behind
  last_of kind h r behind is tail = subst (λ o. IsTail (length h.earlier) h.kind o behind) is.last_is tail

  with_more : (kind next_kind : Kind) (h : Happened) (r : List Noted × Noted) (n : Noted) (row text : List ℕ) → IsOpenFor kind h r → (happens : Happens h text) → IsLast (length h.earlier) next_kind n (happens.last ++ row) → Happens (with_last r.0 next_kind n) (text ++ row)
  with_more kind next_kind h r n row text is happens last = record {
    front = happens.front;
    earlier = subst (λ ns. HasLines ns happens.front) is.earlier_is happens.earlier;
    last = happens.last ++ row;
    is_last = subst (λ (ns : List Noted). IsLast (length ns) next_kind n (happens.last ++ row)) is.earlier_is last;
    text_is = ap (λ x. x ++ row) happens.text_is ∙ append_assoc happens.front happens.last row;
  }

  -- ---- the lines

  event_step : (h : Happened) (inner text : List ℕ) (next : Happened) → event_added (node_names plan) own h inner ≡ Some next → Happens h text → Happens next (text ++ line (codes "event " ++ inner))
  event_step h inner text next is happens =
      let earlier = all_noted h.earlier h.last in
      let made = map_is (begin_event earlier) (event_read (node_names plan) own (length earlier) inner) next is in
      let e = event_sound plan own (length earlier) inner made.0 made.1 in
      let n : Noted = record { event = made.0; gives = []; differing = [] } in
      let here = event_line (length earlier) (what_came (spelled plan) made.0) in
      let said = ap (λ x. line (codes "event " ++ x)) e.0 ∙ ap line (four_texts (codes "event ") (decimal (length earlier)) (codes " ") (what_came (spelled plan) made.0)) ∙ sym (append-nil here) ∙ sym (append-nil (here ++ [])) ∙ sym (append-nil ((here ++ []) ++ [])) in
      subst (λ x. Happens x (text ++ line (codes "event " ++ inner))) made.2 (record {
        front = text;
        earlier = all_of h text happens;
        last = line (codes "event " ++ inner);
        is_last = record {
          strays = [];
          is_heard = record { event = e.1; gives = tt; differing = tt; strays = tt };
          fits = (refl, refl);
          few = e.2;
          text_is = said;
        };
        text_is = refl;
      })

  give_step : (h : Happened) (inner text : List ℕ) (next : Happened) → give_added (node_names plan) own h inner ≡ Some next → Happens h text → Happens next (text ++ line (codes "give " ++ inner))
  give_step h inner text next is happens =
      let opened = from_is (open_for Gives h) (λ r. option_map (λ give. with_last r.0 Gives (giving r.1 give)) (give_read (node_names plan) own inner)) next is in
      let r = opened.0 in
      let at = open_is Gives h r opened.1 in
      let made = map_is (λ give. with_last r.0 Gives (giving r.1 give)) (give_read (node_names plan) own inner) next opened.2 in
      let g = give_sound plan own inner made.0 made.1 in
      let last = last_of Gives h r happens.last at happens.is_last in
      let none = gives_follow h.kind r.1 last.strays at.may last.fits in
      let said : line (codes "give " ++ inner) ≡ give_line (spelled plan) made.0 = ap (λ x. line (codes "give " ++ x)) g.0 ∙ ap line (four_texts (codes "give ") (name_at (node_names plan) made.0.to) (codes " ") (encode_lower made.0.bytes)) in
      let e = event_line (length h.earlier) (what_came (spelled plan) r.1.event) in
      let all = flat_map (give_line (spelled plan)) r.1.gives in
      let before : happens.last ≡ ((e ++ all) ++ []) ++ [] = last.text_is ∙ (λ i. ((e ++ all) ++ flat_map differing_line (none.0 i)) ++ flat_map stray_line (none.1 i)) in
      let added = (λ i. before i ++ said i) ∙ sym (with_give e all (give_line (spelled plan) made.0)) ∙ ap (λ x. ((e ++ x) ++ []) ++ []) (sym (one_more (give_line (spelled plan)) r.1.gives made.0)) ∙ ap (λ ds. ((e ++ flat_map (give_line (spelled plan)) (r.1.gives ++ made.0 ∷ [])) ++ flat_map differing_line ds) ++ []) (sym none.0) in
      subst (λ x. Happens x (text ++ line (codes "give " ++ inner))) made.2 (with_more Gives Gives h r (giving r.1 made.0) (line (codes "give " ++ inner)) text at happens (record {
        strays = [];
        is_heard = record {
          event = last.is_heard.event;
          gives = all_more (CanBeGiven plan own) r.1.gives made.0 last.is_heard.gives g.1;
          differing = last.is_heard.differing;
          strays = tt;
        };
        fits = (none.0, refl);
        few = last.few;
        text_is = added;
      }))

  differing_step : (h : Happened) (inner text : List ℕ) (next : Happened) → differing_added h inner ≡ Some next → Happens h text → Happens next (text ++ line (codes "differ run " ++ inner))
  differing_step h inner text next is happens =
      let opened = from_is (open_for Differences h) (λ r. option_map (λ d. with_last r.0 Differences (differing_so r.1 d)) (differing_read inner)) next is in
      let r = opened.0 in
      let at = open_is Differences h r opened.1 in
      let made = map_is (λ d. with_last r.0 Differences (differing_so r.1 d)) (differing_read inner) next opened.2 in
      let d = differing_sound inner made.0 made.1 in
      let last = last_of Differences h r happens.last at happens.is_last in
      let none = differences_follow h.kind r.1 last.strays at.may last.fits in
      let said : line (codes "differ run " ++ inner) ≡ differing_line made.0 = ap (λ x. line (codes "differ run " ++ x)) d.0 in
      let e = event_line (length h.earlier) (what_came (spelled plan) r.1.event) in
      let gives = flat_map (give_line (spelled plan)) r.1.gives in
      let all = flat_map differing_line r.1.differing in
      let before : happens.last ≡ ((e ++ gives) ++ all) ++ [] = last.text_is ∙ ap (λ xs. ((e ++ gives) ++ all) ++ flat_map stray_line xs) none in
      let added = (λ i. before i ++ said i) ∙ sym (with_differing e gives all (differing_line made.0)) ∙ ap (λ x. ((e ++ gives) ++ x) ++ []) (sym (one_more differing_line r.1.differing made.0)) in
      subst (λ x. Happens x (text ++ line (codes "differ run " ++ inner))) made.2 (with_more Differences Differences h r (differing_so r.1 made.0) (line (codes "differ run " ++ inner)) text at happens (record {
        strays = [];
        is_heard = record {
          event = last.is_heard.event;
          gives = last.is_heard.gives;
          differing = all_more IsFewDiffering r.1.differing made.0 last.is_heard.differing (d.1, d.2);
          strays = tt;
        };
        fits = refl;
        few = last.few;
        text_is = added;
      }))

  foreign_step : (h : Happened) (inner text : List ℕ) (next : Happened) → foreign_passed h inner ≡ Some next → Happens h text → Happens next (text ++ line (codes "foreign " ++ inner))
  foreign_step h inner text next is happens =
      let opened = from_is (open_for Foreign h) (λ r. option_map (λ stray. with_last r.0 Foreign r.1) (foreign_read inner)) next is in
      let r = opened.0 in
      let at = open_is Foreign h r opened.1 in
      let made = map_is (λ stray. with_last r.0 Foreign r.1) (foreign_read inner) next opened.2 in
      let stray : Stray = record { port = made.0.0; bytes = made.0.1 } in
      let f = foreign_sound inner made.0 made.1 in
      let last = last_of Foreign h r happens.last at happens.is_last in
      let said : line (codes "foreign " ++ inner) ≡ stray_line stray = ap (λ x. line (codes "foreign " ++ x)) f.0 ∙ ap line (four_texts (codes "foreign ") (decimal stray.port) (codes " ") (encode_lower stray.bytes)) in
      let e = event_line (length h.earlier) (what_came (spelled plan) r.1.event) in
      let gives = flat_map (give_line (spelled plan)) r.1.gives in
      let all = flat_map differing_line r.1.differing in
      let added = (λ i. last.text_is i ++ said i) ∙ sym (with_stray e gives all (flat_map stray_line last.strays) (stray_line stray)) ∙ ap (λ x. ((e ++ gives) ++ all) ++ x) (sym (one_more stray_line last.strays stray)) in
      subst (λ x. Happens x (text ++ line (codes "foreign " ++ inner))) made.2 (with_more Foreign Foreign h r r.1 (line (codes "foreign " ++ inner)) text at happens (record {
        strays = last.strays ++ stray ∷ [];
        is_heard = record {
          event = last.is_heard.event;
          gives = last.is_heard.gives;
          differing = last.is_heard.differing;
          strays = all_more IsStray last.strays stray last.is_heard.strays f.1;
        };
        fits = tt;
        few = last.few;
        text_is = added;
      }))

  -- ---- by any line

  row_of : {B : Type 0} (P : B → List ℕ → Type 0) (mark row inner text : List ℕ) (next : B) → behind_prefix mark row ≡ Some inner → P next (text ++ line (mark ++ inner)) → P next (text ++ line row)
  row_of P mark row inner text next is = subst (λ x. P next (text ++ line x)) (sym (passed_stands mark row inner is))

  -- a line that is read is the next one of what happened
  pub happened_sound : (h : Happened) (row text : List ℕ) (next : Happened) → happened_after (node_names plan) own h row ≡ Some next → Happens h text → Happens next (text ++ line row)
  happened_sound h row text next is happens =
      elim (or_is (behind_prefix (codes "event ") row) (event_added (node_names plan) own h) (or_else (behind_prefix (codes "give ") row) (give_added (node_names plan) own h) (or_else (behind_prefix (codes "differ run ") row) (differing_added h) (from_some (behind_prefix (codes "foreign ") row) (foreign_passed h)))) next is) [
        | inl e ↦ row_of Happens (codes "event ") row e.0 text next e.1 (event_step h e.0 text next e.2 happens)
        | inr o ↦
            elim (or_is (behind_prefix (codes "give ") row) (give_added (node_names plan) own h) (or_else (behind_prefix (codes "differ run ") row) (differing_added h) (from_some (behind_prefix (codes "foreign ") row) (foreign_passed h))) next o.1) [
              | inl g ↦ row_of Happens (codes "give ") row g.0 text next g.1 (give_step h g.0 text next g.2 happens)
              | inr p ↦
                  elim (or_is (behind_prefix (codes "differ run ") row) (differing_added h) (from_some (behind_prefix (codes "foreign ") row) (foreign_passed h)) next p.1) [
                    | inl d ↦ row_of Happens (codes "differ run ") row d.0 text next d.1 (differing_step h d.0 text next d.2 happens)
                    | inr q ↦ foreign q.1
                  ]
            ]
      ]
    where
      foreign : from_some (behind_prefix (codes "foreign ") row) (foreign_passed h) ≡ Some next → Happens next (text ++ line row)
      foreign read =
          let opened = from_is (behind_prefix (codes "foreign ") row) (foreign_passed h) next read in
          row_of Happens (codes "foreign ") row opened.0 text next opened.1 (foreign_step h opened.0 text next opened.2 happens)
