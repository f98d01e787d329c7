-- What is read of a message is what it is by its grammar.
use Rattle.std.proofs.Common.{◌≡◌, ℕ, zero, suc, ◌+◌, ◌-◌, ◌<◌, ◌≤◌, ◌^◌, Bool, true, false, ◌&&◌, ◌||◌, List, [], ◌∷◌, ◌++◌, length, drop, Option, None, Some, Result, Ok, Err, refl, sym, ap, ◌∙◌, subst, arith, append-nil, length-append, length-drop}
use Rattle.std.specs.List.{list_any}
use Rattle.std.specs.Prelude.{nat_eq, nat_le, nat_lt, ◌==◌, option_map, option_and_then, if◌then◌else◌}
use Rattle.std.specs.Result.{result_ok}
use Rattle.std.proofs.lemmas.Bool.{le-leb, leb-true, ltb-true, eq-eqb, eqb-true}
use Rattle.std.proofs.lemmas.List.{drop-drop, drop_all}
use Rattle.std.proofs.lemmas.List.Elements.{All-nil, All-cons}
use Rattle.std.proofs.lemmas.Nat.{from_be_bytes-to_be_bytes_2}
use Rattle.std.proofs.lemmas.Option.{same_Some}
use Rattle.circus_value.specs.ValueTree.{ValueTree, enumeration, long_cardinal, value_trees}
use Rattle.circus_value.specs.ExternalSize.{size_of_values}
use Rattle.circus_value.specs.Fits.{fits}
use Rattle.circus_value.specs.Parts.{AreOctets}
use Rattle.circus_value.specs.ShapeTree as S
use Rattle.circus_value.specs.declared.shape.Label.{Label}
use Rattle.circus_value.specs.declared.shape.Shape.{Shape}
use Rattle.circus_value.specs.declared.outcome.Outcome.{Outcome}
use Rattle.circus_value.specs.declared.outcome.Outcome.TheVariants.{Returned, Raised}
use Rattle.circus_external.proofs.Promises.{octets_rest, fields_read_are_spelled}
use Rattle.circus_external.proofs.ShapesAlike.{and_both}
use Rattle.circus_external.proofs.Sizes.{size_of_spellings}
use Rattle.circus_external.specs.Octets.{word, first_word}
use Rattle.circus_external.specs.Reading.{fields_reading}
use Rattle.circus_external.specs.Refusal.{are_proper}
use Rattle.circus_external.specs.Spelling.{fields_admit, spelling_of_all}
use Rattle.circus_header.specs.Field as field
use Rattle.circus_header.specs.Field.{HasRoom, bytes_of}
use Rattle.circus_header.specs.Reading.{Headers, IsOne, calls, returns}
use Rattle.circus_header.specs.Seen.Layout.{Layout, of_word}
use Rattle.circus_header.specs.Seen.Layouts.{call_layout, return_layout}
use Rattle.circus_header.specs.declared.answer.ReturnHeader.{ReturnHeader}
use Rattle.circus_header.specs.declared.answer.ReturnHeader.TheVariants as says
use Rattle.circus_header.specs.declared.call.Call.{Call}
use Rattle.circus_header.specs.declared.header_fault.HeaderFault.{HeaderFault}
use Rattle.circus_header.specs.declared.header_fault.HeaderFault.TheVariants.{BadField}
use Rattle.circus_header.proofs.Calls.{under_calls}
use Rattle.circus_header.proofs.Meanings.{Under}
use Rattle.circus_header.proofs.Returns.{under_returns}
use Rattle.circus_header.proofs.Standing.{drop-prefix}
use Rattle.circus_collate.specs.declared.table.Table.{Table}
use Rattle.circus_ring.specs.TableFields.{tables}
use Rattle.circus_ring.specs.Seen.TableLayout.{table_layout}
use Rattle.circus_ring.proofs.Tabling.{under_tables}
use Rattle.circus_transfer.specs.Snapshot.{fields_of, snapshot_label, snapshot_fields, snapshot_values, snapshot_bytes}
use Rattle.circus_transfer.proofs.Fields.{admits}
use Rattle.circus_model.specs.Lawful.{outcome_fits}
use Rattle.circus_model.specs.declared.signature.ProcedureShape.{ProcedureShape}
use Rattle.circus_member_rules.specs.Proper.{IsProperProcedure}
use Rattle.circus_node.specs.Headers.{read_by, whole, call_in, return_in, table_at}
use Rattle.circus_node.specs.Bodies.{found_whole, values_at, raised_shapes, raised_values, outcome_by, outcome_at, counted_state, restored_in}
use Rattle.circus_node.specs.Grammar.{Heads, Spell, SpellOutcome, HandsOver}
use Rattle.circus_member_theory.proofs.Accepting.Arguments.{values_read}
use Rattle.circus_member_theory.proofs.Accepting.Fitting.{is_whole, are_at, found_fit, found_within, outcome_found_fits}
use Rattle.circus_member_theory.proofs.Accepting.Heads.{reads, number_front, read_back, whole_read}
use Rattle.circus_member_theory.proofs.Accepting.Options.{before_some, seen_some}
use Rattle.circus_member_theory.proofs.Accepting.Outcomes.{raised}
use Rattle.circus_member_theory.proofs.Accepting.States.{snapshot_found}

-- ---- headers

-- the length of a header
abbrev pub header_length : {H : Type 0} → Headers H → H → ℕ
header_length hs h = length (bytes_of (hs.fields h))

whole_is : {H : Type 0} (goes_on : H → Bool) (bytes : List ℕ) (h : H) (to : ℕ) → (goes_on h ≡ false → to ≡ length bytes)
    → whole goes_on bytes (Ok (h, to)) ≡ Ok (h, to)
whole_is {H = H} goes_on bytes h to all = by_test (goes_on h) refl
  where
    by_test : (on : Bool) → goes_on h ≡ on
        → ◌≡◌ {A = Result (H × ℕ) HeaderFault} (if on then Ok (h, to) else if nat_eq to (length bytes) then Ok (h, to) else Err (BadField to)) (Ok (h, to))
    by_test true is = refl
    by_test false is =
        ap (λ (b : Bool). let r : Result (H × ℕ) HeaderFault = if b then Ok (h, to) else Err (BadField to) in r) (eq-eqb to (length bytes) (all is))

-- what a message is headed by is read
heads_read : {H : Type 0} (hs : Headers H) (t : Layout H) (bytes body : List ℕ) (h : H) → Under hs t [] → Heads hs bytes h body
    → result_ok (whole hs.goes_on bytes (read_by t 0 bytes)) ≡ Some (h, header_length hs h)
heads_read hs t bytes body h under heads =
    let fs = hs.fields h in
    let place : 0 + header_length hs h ≡ header_length hs h = omega arith in
    let len = length-append (bytes_of fs) body in
    ap (λ r. result_ok (whole hs.goes_on bytes r))
    (reads t 0 bytes fs h body (under.taken h fs heads.header refl) heads.header.1 heads.whole ∙ ap (λ k. Ok (h, k)) place)
    ∙ ap result_ok (whole_is hs.goes_on bytes h (header_length hs h) (λ none. omega (arith, len, ap length heads.whole, ap length (heads.closed none))))

-- what is read heads the message
read_heads : {H : Type 0} (hs : Headers H) (t : Layout H) (bytes : List ℕ) (h : H) (at : ℕ) → Under hs t [] → AreOctets bytes
    → result_ok (whole hs.goes_on bytes (read_by t 0 bytes)) ≡ Some (h, at) → Heads hs bytes h (drop at bytes) × (at ≡ header_length hs h)
read_heads {H = H} hs t bytes h at under octets is =
    let r = whole_read t hs.goes_on bytes (h, at) is in
    let q = read_back t 0 bytes h at r.by in
    let m = under.meant h q.fields q.taken in
    let heads : Heads hs bytes h (drop at bytes) = record {
      header = m.0;
      whole = q.here octets ∙ ap (λ fs. bytes_of fs ++ drop at bytes) (sym m.1);
      closed = λ none. drop_all at bytes (omega (arith, r.all none));
    } in
    let pair : ◌≡◌ {A = H × ℕ} (h, at) (h, header_length hs h) =
    same_Some (h, at) (h, header_length hs h) (sym is ∙ heads_read hs t bytes (drop at bytes) h under heads) in
    (heads, ap (λ (p : H × ℕ). p.1) pair)

-- one header heads a message, before one body
heads_once : {H : Type 0} (hs : Headers H) (t : Layout H) (bytes one other : List ℕ) (a b : H) → Under hs t [] → Heads hs bytes a one → Heads hs bytes b other
    → (a ≡ b) × (one ≡ other)
heads_once {H = H} hs t bytes one other a b under first second =
    let pair : ◌≡◌ {A = H × ℕ} (a, header_length hs a) (b, header_length hs b) =
    same_Some (a, header_length hs a) (b, header_length hs b) (sym (heads_read hs t bytes one a under first) ∙ heads_read hs t bytes other b under second) in
    let same : a ≡ b = ap (λ (p : H × ℕ). p.0) pair in
    let len : header_length hs a ≡ header_length hs b = ap (header_length hs) same in (
      same,
      sym (drop-prefix (bytes_of (hs.fields a)) one (header_length hs a) refl) ∙ ap (drop (header_length hs a)) (sym first.whole ∙ second.whole)
          ∙ drop-prefix (bytes_of (hs.fields b)) other (header_length hs a) len,
    )

-- what stands behind the header
pub body_is : {H : Type 0} (hs : Headers H) (bytes body : List ℕ) (h : H) → Heads hs bytes h body → drop (header_length hs h) bytes ≡ body
body_is hs bytes body h heads = ap (drop (header_length hs h)) heads.whole ∙ drop-prefix (bytes_of (hs.fields h)) body (header_length hs h) refl

pub call_heads : (message : List ℕ) (call : Call) (at : ℕ) → AreOctets message → call_in message ≡ Some (call, at)
    → Heads calls message call (drop at message) × (at ≡ header_length calls call)
call_heads message call at octets is = read_heads calls call_layout message call at under_calls octets is

pub call_read : (message body : List ℕ) (call : Call) → Heads calls message call body → call_in message ≡ Some (call, header_length calls call)
call_read message body call heads = heads_read calls call_layout message body call under_calls heads

pub call_once : (message one other : List ℕ) (a b : Call) → Heads calls message a one → Heads calls message b other → (a ≡ b) × (one ≡ other)
call_once message one other a b first second = heads_once calls call_layout message one other a b under_calls first second

pub return_heads : (message : List ℕ) (header : ReturnHeader) (at : ℕ) → AreOctets message → return_in message ≡ Some (header, at)
    → Heads returns message header (drop at message) × (at ≡ header_length returns header)
return_heads message header at octets is = read_heads returns return_layout message header at under_returns octets is

pub return_read : (message body : List ℕ) (header : ReturnHeader) → Heads returns message header body → return_in message ≡ Some (header, header_length returns header)
return_read message body header heads = heads_read returns return_layout message body header under_returns heads

pub return_once : (message one other : List ℕ) (a b : ReturnHeader) → Heads returns message a one → Heads returns message b other → (a ≡ b) × (one ≡ other)
return_once message one other a b first second = heads_once returns return_layout message one other a b under_returns first second

pub table_heads : (at : ℕ) (message : List ℕ) (table : Table) → AreOctets message → table_at at message ≡ Some table → Heads tables (drop at message) table []
table_heads at message table octets is =
    let bytes : List ℕ = drop at message in
    let s = seen_some (λ (read : Table × ℕ). read.0) (result_ok (whole (λ _. false) bytes (read_by table_layout 0 bytes))) table is in
    let h = (read_heads tables table_layout bytes s.value.0 s.value.1 under_tables (octets_rest message at octets) s.is).0 in
    subst (λ t. Heads tables bytes t []) (sym s.seen) (subst (Heads tables bytes s.value.0) (h.closed refl) h)

pub table_read : (at : ℕ) (message : List ℕ) (table : Table) → Heads tables (drop at message) table [] → table_at at message ≡ Some table
table_read at message table heads =
    ap (option_map (λ (read : Table × ℕ). read.0)) (heads_read tables table_layout (drop at message) [] table under_tables heads)

-- ---- values

pub values_spelled : (shapes : List Shape) (most at : ℕ) (message : List ℕ) (values : List ValueTree) → AreOctets message
    → values_at shapes most at message ≡ Some values → Spell shapes most (drop at message) values
values_spelled shapes most at message values octets is =
    let a = are_at shapes most at message values is in
    let spelled = fields_read_are_spelled (fields_of shapes) at (drop at message) values a.whole.place [] (octets_rest message at octets) a.whole.is in
    record {
      fit = found_fit shapes most at message values octets a;
      spelled = spelled.1 ∙ append-nil (spelling_of_all values);
      within = found_within shapes most at message values octets a;
    }

spelling_size : (values : List ValueTree) → length (spelling_of_all values) ≡ size_of_values values
spelling_size values = size_of_spellings (value_trees values)

pub spelled_values : (shapes : List Shape) (most at : ℕ) (message : List ℕ) (values : List ValueTree) → are_proper (fields_of shapes) ≡ true
    → Spell shapes most (drop at message) values → values_at shapes most at message ≡ Some values
spelled_values shapes most at message values proper s =
    let few : length message - at ≤ most = omega (arith, length-drop at message, ap length s.spelled, spelling_size values, s.within) in
    ap (λ b. if b then found_whole (fields_reading (fields_of shapes) at (drop at message)) else None) (le-leb (length message - at) most few)
    ∙ ap found_whole (ap (fields_reading (fields_of shapes) at) s.spelled ∙ values_read shapes values at proper s.fit)

-- ---- outcomes

-- behind two words
two_words : (at : ℕ) (message : List ℕ) (a b : ℕ) → drop at message ≡ word a ++ drop (at + 2) message → drop (at + 2) message ≡ word b ++ drop ((at + 2) + 2) message
    → drop at message ≡ word a ++ word b ++ drop ((at + 2) + 2) message
two_words at message a b first second = first ∙ ap (λ w. word a ++ w) second

pub outcome_spelled : (p : ProcedureShape) (most at : ℕ) (message : List ℕ) (o : Outcome) → AreOctets message
    → outcome_at p most at message ≡ Some o → SpellOutcome p most (drop at message) o
outcome_spelled p most at message o octets is =
    let kind = before_some (outcome_by p most (at + 2) message) (first_word (drop at message)) o is in
    by_kind kind.value (number_front of_word at message kind.value octets kind.is) kind.then
  where
    fit : outcome_fits p o ≡ true
    fit = outcome_found_fits p most at message o octets is

    by_kind : (kind : ℕ) → drop at message ≡ word kind ++ drop (at + 2) message → outcome_by p most (at + 2) message kind ≡ Some o → SpellOutcome p most (drop at message) o
    by_kind zero front e =
        let s = seen_some Returned (values_at p.results most (at + 2) message) o e in
        let v = values_spelled p.results most (at + 2) message s.value octets s.is in
        subst (SpellOutcome p most (drop at message)) (sym s.seen) (record {
          fits = ap (outcome_fits p) (sym s.seen) ∙ fit;
          spelled = front ∙ ap (λ w. word 0 ++ w) v.spelled;
          within = v.within;
        })
    by_kind (suc zero) front e =
        let n = before_some (λ (k : ℕ). option_map (Raised k) (raised_values p k most ((at + 2) + 2) message)) (first_word (drop (at + 2) message)) o e in
        let s = seen_some (Raised n.value) (raised_values p n.value most ((at + 2) + 2) message) o n.then in
        let shapes = before_some (λ (ss : List Shape). values_at ss most ((at + 2) + 2) message) (raised_shapes p n.value) s.value s.is in
        let v = values_spelled shapes.value most ((at + 2) + 2) message s.value octets shapes.then in
        let behind = number_front of_word (at + 2) message n.value octets n.is in
        subst (SpellOutcome p most (drop at message)) (sym s.seen) (record {
          fits = ap (outcome_fits p) (sym s.seen) ∙ fit;
          spelled = two_words at message 1 n.value front behind ∙ ap (λ w. word 1 ++ word n.value ++ w) v.spelled;
          within = v.within;
        })
    by_kind (suc (suc n)) front e = cc

pub spelled_outcome : (p : ProcedureShape) (most at : ℕ) (message : List ℕ) (o : Outcome) → IsProperProcedure p
    → SpellOutcome p most (drop at message) o → outcome_at p most at message ≡ Some o
spelled_outcome p most at message (Returned results) proper s =
    let kind : first_word (drop at message) ≡ Some 0 = ap first_word s.spelled in
    let behind : drop (at + 2) message ≡ spelling_of_all results = sym (drop-drop 2 at message) ∙ ap (drop 2) s.spelled in
    ap (option_and_then (outcome_by p most (at + 2) message)) kind
    ∙ ap (option_map Returned) (spelled_values p.results most (at + 2) message results proper.results (record { fit = s.fits; spelled = behind; within = s.within }))
spelled_outcome p most at message (Raised error values) proper s =
    let r = raised p error values proper s.fits in
    let kind : first_word (drop at message) ≡ Some 1 = ap first_word s.spelled in
    let behind : drop (at + 2) message ≡ word error ++ spelling_of_all values = sym (drop-drop 2 at message) ∙ ap (drop 2) s.spelled in
    let number : first_word (drop (at + 2) message) ≡ Some error = ap first_word behind ∙ ap Some (from_be_bytes-to_be_bytes_2 error r.room) in
    let rest : drop ((at + 2) + 2) message ≡ spelling_of_all values = sym (drop-drop 2 (at + 2) message) ∙ ap (drop 2) behind in
    ap (option_and_then (outcome_by p most (at + 2) message)) kind
    ∙ ap (option_and_then (λ n. option_map (Raised n) (raised_values p n most ((at + 2) + 2) message))) number
    ∙ ap (λ ss. option_map (Raised error) (option_and_then (λ shapes. values_at shapes most ((at + 2) + 2) message) ss)) r.are
    ∙ ap (option_map (Raised error))
    (spelled_values r.shapes most ((at + 2) + 2) message values r.proper (record { fit = r.fit; spelled = rest; within = s.within }))

-- ---- states

-- the fields of a snapshot's header have room
snapshot_one : (count : ℕ) → count < 2 ^ 32 → IsOne returns (says.Snapshot count)
snapshot_one count few =
    (tt, All-cons HasRoom (field.word 3) (field.long count ∷ []) (omega arith) (All-cons HasRoom (field.long count) [] few (All-nil HasRoom)))

snapshot_room : (count : ℕ) → IsOne returns (says.Snapshot count) → count < 2 ^ 32
snapshot_room count one = one.1 1 (field.word 0) (omega arith)

-- the number of a snapshot, a count and a state
record IsCounted (values : List ValueTree) (state : List ValueTree) (count : ℕ) : Type 0 where
  are : values ≡ snapshot_values count state
  few : count < 2 ^ 32

only_label : (kind : ValueTree) → fits (S.enumeration (snapshot_label ∷ [])) kind ≡ true → kind ≡ enumeration 3
only_label (enumeration n) fit =
    by_test (3 == n) refl (and_both (nat_lt n 65536) (list_any (λ (l : Label). l.number == n) (snapshot_label ∷ [])) fit).1
  where
    by_test : (same : Bool) → (3 == n) ≡ same → (same || false) ≡ true → enumeration n ≡ enumeration 3
    by_test true is e = ap enumeration (sym (eqb-true 3 n is))
    by_test false is e = cc
only_label kind fit = cc

counted : (variables : List Shape) (values state : List ValueTree) (count : ℕ) → fields_admit (snapshot_fields variables) values ≡ true
    → counted_state values ≡ Some (state, count) → IsCounted values state count
counted variables (kind ∷ long_cardinal n ∷ rest) state count fit is =
    let pair : ◌≡◌ {A = List ValueTree × ℕ} (rest, n) (state, count) = same_Some (rest, n) (state, count) is in
    let one = and_both (fits (S.enumeration (snapshot_label ∷ [])) kind) (nat_lt n 4294967296 && fields_admit (fields_of variables) rest) fit in
    let two = and_both (nat_lt n 4294967296) (fields_admit (fields_of variables) rest) one.1 in
    let few : n < 4294967296 = ltb-true n 4294967296 two.0 in
    let number : n ≡ count = ap (λ (p : List ValueTree × ℕ). p.1) pair in
    record {
      are = ap (λ k. k ∷ long_cardinal n ∷ rest) (only_label kind one.0) ∙ ap (λ (p : List ValueTree × ℕ). snapshot_values p.1 p.0) pair;
      few = omega (arith, few, number);
    }
counted variables values state count fit is = cc

pub state_handed : (variables : List Shape) (most : ℕ) (message : List ℕ) (state : List ValueTree) (count : ℕ) → AreOctets message
    → restored_in variables most message ≡ Some (state, count) → HandsOver variables most message state count
state_handed variables most message state count octets is =
    let r = before_some (λ (x : List ValueTree × ℕ). if nat_le (size_of_values x.0) most then Some x else None)
    (option_and_then counted_state (found_whole (fields_reading (snapshot_fields variables) 0 message))) (state, count) is in
    by_test r.value r.is (nat_le (size_of_values r.value.0) most) refl r.then
  where
    of_state : option_and_then counted_state (found_whole (fields_reading (snapshot_fields variables) 0 message)) ≡ Some (state, count) → size_of_values state ≤ most
        → HandsOver variables most message state count
    of_state e within =
        let v = before_some counted_state (found_whole (fields_reading (snapshot_fields variables) 0 message)) (state, count) e in
        let w = is_whole (fields_reading (snapshot_fields variables) 0 message) v.value v.is in
        let spelled = fields_read_are_spelled (snapshot_fields variables) 0 message v.value w.place [] octets w.is in
        let c = counted variables v.value state count spelled.0 v.then in
        let admitted : fields_admit (snapshot_fields variables) (snapshot_values count state) ≡ true = ap (fields_admit (snapshot_fields variables)) (sym c.are) ∙ spelled.0 in
        let behind = and_both (nat_lt count 4294967296) (fields_admit (fields_of variables) state) admitted in
        record {
          body = spelling_of_all state;
          header = record {
            header = snapshot_one count c.few;
            whole = spelled.1 ∙ append-nil (spelling_of_all v.value) ∙ ap spelling_of_all c.are;
            closed = λ none. cc;
          };
          spelled = record { fit = sym (admits variables state) ∙ behind.1; spelled = refl; within = within };
        }

    by_test : (x : List ValueTree × ℕ) → option_and_then counted_state (found_whole (fields_reading (snapshot_fields variables) 0 message)) ≡ Some x
        → (small : Bool) → nat_le (size_of_values x.0) most ≡ small → (if small then Some x else None) ≡ Some (state, count) → HandsOver variables most message state count
    by_test x found true small e =
        let same : x ≡ (state, count) = same_Some x (state, count) e in
        of_state (found ∙ ap Some same)
        (leb-true (size_of_values state) most (ap (λ (y : List ValueTree × ℕ). nat_le (size_of_values y.0) most) (sym same) ∙ small))
    by_test x found false small e = cc

pub handed_state : (variables : List Shape) (most : ℕ) (message : List ℕ) (state : List ValueTree) (count : ℕ) → are_proper (fields_of variables) ≡ true
    → HandsOver variables most message state count → restored_in variables most message ≡ Some (state, count)
handed_state variables most message state count proper h =
    let few = snapshot_room count h.header.header in
    let spelled : message ≡ snapshot_bytes count state = h.header.whole ∙ ap (λ w. bytes_of (returns.fields (says.Snapshot count)) ++ w) h.spelled.spelled in
    ap (restored_in variables most) spelled ∙ ap limited (snapshot_found variables count state proper h.spelled.fit few)
    ∙ ap (λ b. if b then Some (state, count) else None) (le-leb (size_of_values state) most h.spelled.within)
  where
    limited : Option (List ValueTree) → Option (List ValueTree × ℕ)
    limited values =
        option_and_then (λ (r : List ValueTree × ℕ). if nat_le (size_of_values r.0) most then Some r else None) (option_and_then counted_state values)
