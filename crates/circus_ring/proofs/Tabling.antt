-- The layout of tables is that of their fields.
use Rattle.std.proofs.Common.{◌≡◌, ℕ, zero, suc, ◌<◌, ◌≤◌, ◌^◌, List, [], ◌∷◌, ◌++◌, length, All, Result, Ok, Err, refl, sym, ap, ◌∙◌, subst, arith, append_assoc, append-nil}
use Rattle.std.specs.List.{flat_map}
use Rattle.std.proofs.lemmas.List.Elements.{All-nil, All-cons, All-head, All-tail}
use Rattle.circus_header.specs.Field.{Field, word, long, HasRoom, bytes_of}
use Rattle.circus_header.specs.CallFields.{IsNode}
use Rattle.circus_header.specs.Seen.Layout.{of_word, of_long, end, field, then_layout}
use Rattle.circus_header.specs.Reading.{IsOne, IsAnswer}
use Rattle.circus_header.specs.declared.header_fault.HeaderFault.{HeaderFault}
use Rattle.circus_header.specs.declared.header_fault.HeaderFault.TheVariants.{Short, BadField, NoMemory}
use Rattle.circus_header.proofs.Accepting.{Accepts, Live, front, live_followed, room_of, accepts_followed, accepts_mapped, mapped, parted, ends_with}
use Rattle.circus_header.proofs.Clocks.{room_behind}
use Rattle.circus_header.proofs.Meanings.{Under}
use Rattle.circus_collate.specs.declared.view.Since.{Since}
use Rattle.circus_collate.specs.declared.view.Since.TheVariants.{Joining, From}
use Rattle.circus_collate.specs.declared.view.Entry.{Entry}
use Rattle.circus_collate.specs.declared.table.Table.{Table}
use Rattle.circus_collate.specs.declared.table.RingResult.{RingResult}
use Rattle.circus_collate.specs.declared.table.RingResult.TheVariants.{Done, RootTroupe, NotSpare, Full}
use Rattle.circus_ring.specs.TableFields.{result_number, since_fields, entry_fields, table_fields, IsTable, tables, IsTableRead}
use Rattle.circus_ring.specs.Seen.TableLayout.{result_of, most_first, entry_of, entry_layout, entries_layout, table_of, table_layout}

abbrev InNodes : Entry → Type 0
InNodes e = IsNode e.node

-- ---- each place leads to an end

first_room : (kind : ℕ) → most_first kind < 2 ^ 32
first_room zero = omega arith
first_room (suc kind) = omega arith

live_entry : Live entry_layout
live_entry = (omega arith, omega arith, λ node _ _. (omega arith, omega arith, λ kind _ _. (omega arith, first_room kind, λ first _ _. tt)))

live_entries : (count : ℕ) (done : List Entry) → Live (entries_layout count done)
live_entries zero done = tt
live_entries (suc count) done =
    live_followed entry_layout (λ e. entries_layout count (done ++ e ∷ [])) live_entry (λ fs e a. live_entries count (done ++ e ∷ []))

live_tables : Live table_layout
live_tables = (
  omega arith,
  omega arith,
  λ result _ _. (
    omega arith,
    omega arith,
    λ troupe _ _. (
      omega arith,
      omega arith,
      λ incarnation _ _. (
        omega arith,
        omega arith,
        λ count _ _.
            live_followed (entries_layout count []) (λ entries. end (table_of result troupe incarnation entries)) (live_entries count []) (λ fs x a. tt),
      ),
    ),
  ),
)

-- ---- the fields of a table are taken

accepts_since : (node : ℕ) (since : Since) (rest : List Field) → node < 64 → All HasRoom ((word node ∷ since_fields since) ++ rest)
    → Accepts entry_layout (word node ∷ since_fields since) (record { node = node; since = since })
accepts_since node Joining rest is room = (refl, omega arith, omega (arith, is), (refl, omega arith, omega arith, (refl, omega arith, omega arith, refl)))
accepts_since node (From first) rest is room =
    let fits : first < 2 ^ 32 = room 2 (word 0) (omega arith) in
    (refl, omega arith, omega (arith, is), (refl, omega arith, omega arith, (refl, omega arith, omega arith, refl)))

accepts_entries : (es done : List Entry) → All InNodes es → All HasRoom (flat_map entry_fields es)
    → Accepts (entries_layout (length es) done) (flat_map entry_fields es) (done ++ es)
accepts_entries [] done nodes room = append-nil done
accepts_entries (e ∷ es) done nodes room =
    let rest : List Field = flat_map entry_fields es in
    let others = accepts_entries es (done ++ e ∷ []) (All-tail InNodes e es nodes) (room_behind (entry_fields e) rest room) in
    accepts_followed entry_layout (λ x. entries_layout (length es) (done ++ x ∷ [])) (entry_fields e) rest e (done ++ e ∷ es)
    (accepts_since e.node e.since rest (All-head InNodes e es nodes) room)
    (subst (λ w. Accepts (entries_layout (length es) (done ++ e ∷ [])) rest w) (append_assoc done (e ∷ []) es) others)

result_low : (r : RingResult) → result_number r ≤ 3
result_low Done = omega arith
result_low RootTroupe = omega arith
result_low NotSpare = omega arith
result_low Full = omega arith

result_same : (r : RingResult) → result_of (result_number r) ≡ r
result_same Done = refl
result_same RootTroupe = refl
result_same NotSpare = refl
result_same Full = refl

taken_table : (t : Table) → IsTable t → All HasRoom (table_fields t) → Accepts table_layout (table_fields t) t
taken_table t is room =
    let v = t.view in
    let n : ℕ = result_number t.result in
    let rest : List Field = flat_map entry_fields v.entries in
    let fits : v.incarnation < 2 ^ 32 = room 2 (word 0) (omega arith) in
    let entries = accepts_entries v.entries [] is.nodes (room_behind (word n ∷ word v.troupe ∷ long v.incarnation ∷ word (length v.entries) ∷ []) rest room) in
    let whole = accepts_mapped (entries_layout (length v.entries) []) (table_of n v.troupe v.incarnation) rest v.entries entries in
    let same : table_of n v.troupe v.incarnation v.entries ≡ t = ap (λ r. record t { result = r }) (result_same t.result) in (
      refl,
      omega arith,
      result_low t.result,
      (
        refl,
        omega arith,
        omega (arith, is.troupe),
        (
          refl,
          is.incarnation,
          omega arith,
          (
            refl,
            omega arith,
            is.few,
            subst (λ w. Accepts (then_layout (entries_layout (length v.entries) []) (λ entries. end (table_of n v.troupe v.incarnation entries))) rest w) same whole,
          ),
        ),
      ),
    )

-- ---- what is taken are the fields of a table

entry_is : (node kind first : ℕ) → kind ≤ 1 → first ≤ most_first kind → entry_fields (entry_of node kind first) ≡ word node ∷ word kind ∷ long first ∷ []
entry_is node zero first low most = let none : 0 ≡ first = omega arith in ap (λ n. word node ∷ word 0 ∷ long n ∷ []) none
entry_is node (suc zero) first low most = refl
entry_is node (suc (suc kind)) first low most = absurd (omega arith)

entry_node : (node kind first : ℕ) → (entry_of node kind first).node ≡ node
entry_node node zero first = refl
entry_node node (suc kind) first = refl

entry_meant : (e : Entry) (fs : List Field) → Accepts entry_layout fs e → IsNode e.node × (entry_fields e ≡ fs)
entry_meant e fs a =
    let p = front of_word 0 63 (λ node. field of_word 0 1 (λ kind. field of_long 0 (most_first kind) (λ first. end (entry_of node kind first)))) fs e a in
    let q = front of_word 0 1 (λ kind. field of_long 0 (most_first kind) (λ first. end (entry_of p.n kind first))) p.others e p.taken in
    let r = front of_long 0 (most_first q.n) (λ first. end (entry_of p.n q.n first)) q.others e q.taken in
    let last = ends_with (entry_of p.n q.n r.n) r.others e r.taken in
    let are : fs ≡ word p.n ∷ word q.n ∷ long r.n ∷ [] =
    p.are ∙ ap (λ w. word p.n ∷ w) (q.are ∙ ap (λ w. word q.n ∷ w) (r.are ∙ ap (λ w. long r.n ∷ w) last.0)) in
    let node : e.node ≡ p.n = ap (λ (x : Entry). x.node) last.1 ∙ entry_node p.n q.n r.n in
    (omega (arith, node, p.high), ap entry_fields last.1 ∙ entry_is p.n q.n r.n q.high r.high ∙ sym are)

-- the entries that so many fields say, behind others
record Listed (count : ℕ) (done : List Entry) (fs : List Field) (es : List Entry) : Type 0 where
  xs : List Entry
  whole : es ≡ done ++ xs
  many : length xs ≡ count
  are : fs ≡ flat_map entry_fields xs
  each : All InNodes xs

listed : (count : ℕ) (done : List Entry) (fs : List Field) (es : List Entry) → Accepts (entries_layout count done) fs es → Listed count done fs es
listed zero done [] es a = record { xs = []; whole = a ∙ sym (append-nil done); many = refl; are = refl; each = All-nil InNodes }
listed zero done (f ∷ fs) es a = absurd a
listed (suc count) done fs es a =
    let p = parted entry_layout (λ e. entries_layout count (done ++ e ∷ [])) fs es a in
    let q = listed count (done ++ p.x ∷ []) p.gs es p.second in
    let m = entry_meant p.x p.fs p.first in
    record {
      xs = p.x ∷ q.xs;
      whole = q.whole ∙ append_assoc done (p.x ∷ []) q.xs;
      many = ap suc q.many;
      are = p.are ∙ ap (λ w. w ++ p.gs) (sym m.1) ∙ ap (λ w. entry_fields p.x ++ w) q.are;
      each = All-cons InNodes p.x q.xs m.0 q.each;
    }

number_same : (n : ℕ) → n ≤ 3 → result_number (result_of n) ≡ n
number_same zero low = refl
number_same (suc zero) low = refl
number_same (suc (suc zero)) low = refl
number_same (suc (suc (suc zero))) low = refl
number_same (suc (suc (suc (suc n)))) low = absurd (omega arith)

tables_meant : (t : Table) (fs : List Field) → Accepts table_layout fs t → IsOne tables t × (table_fields t ≡ fs)
tables_meant t fs a =
    let p = front of_word 0 3 (λ result. field of_word 0 31 (λ troupe. field of_long 1 4294967295 (λ incarnation. field of_word 0 16 (λ count.
    then_layout (entries_layout count []) (λ entries. end (table_of result troupe incarnation entries)))))) fs t a in
    let q = front of_word 0 31 (λ troupe. field of_long 1 4294967295 (λ incarnation. field of_word 0 16 (λ count.
    then_layout (entries_layout count []) (λ entries. end (table_of p.n troupe incarnation entries))))) p.others t p.taken in
    let r = front of_long 1 4294967295 (λ incarnation. field of_word 0 16 (λ count.
    then_layout (entries_layout count []) (λ entries. end (table_of p.n q.n incarnation entries)))) q.others t q.taken in
    let s = front of_word 0 16 (λ count. then_layout (entries_layout count []) (λ entries. end (table_of p.n q.n r.n entries))) r.others t r.taken in
    let m = mapped (entries_layout s.n []) (table_of p.n q.n r.n) s.others t s.taken in
    let l = listed s.n [] s.others m.x m.taken in
    let len : length m.x ≡ s.n = ap length l.whole ∙ l.many in
    let is : IsTable (table_of p.n q.n r.n m.x) = record {
      troupe = omega (arith, q.high);
      incarnation = r.low;
      few = omega (arith, len, s.high);
      nodes = subst (λ w. All InNodes w) (sym l.whole) l.each;
    } in
    let behind : s.others ≡ flat_map entry_fields m.x = l.are ∙ ap (flat_map entry_fields) (sym l.whole) in
    let count : r.others ≡ word (length m.x) ∷ flat_map entry_fields m.x = s.are ∙ ap (λ n. word n ∷ s.others) (sym len) ∙ ap (λ w. word (length m.x) ∷ w) behind in
    let front_same : fs ≡ word p.n ∷ word q.n ∷ long r.n ∷ word (length m.x) ∷ flat_map entry_fields m.x =
    p.are ∙ ap (λ w. word p.n ∷ w) (q.are ∙ ap (λ w. word q.n ∷ w) (r.are ∙ ap (λ w. long r.n ∷ w) count)) in
    let are : table_fields t ≡ fs =
    ap table_fields m.is ∙ ap (λ n. word n ∷ word q.n ∷ long r.n ∷ word (length m.x) ∷ flat_map entry_fields m.x) (number_same p.n p.high) ∙ sym front_same in
    ((subst IsTable (sym m.is) is, subst (λ w. All HasRoom w) (sym are) (room_of table_layout fs t live_tables a)), are)

pub under_tables : Under tables table_layout []
under_tables = record {
  live = live_tables;
  taken = λ t fs one e. subst (λ w. Accepts table_layout w t) e (taken_table t one.0 one.1);
  meant = tables_meant;
}

-- ---- reading with the length

-- with the place behind the table
abbrev pub whole : List ℕ → Result Table HeaderFault → Result (Table × ℕ) HeaderFault
whole bytes (Ok t) = Ok (t, length bytes)
whole bytes (Err e) = Err e

pub as_answer : (bytes : List ℕ) (r : Result Table HeaderFault) → IsTableRead bytes r → IsAnswer tables bytes (whole bytes r)
as_answer bytes (Ok t) is =
    record { header = is.0; rest = ([], is.1 ∙ sym (append-nil (bytes_of (table_fields t))), λ _. refl); upto = ap length is.1 }
as_answer bytes (Err (Short place)) is = is
as_answer bytes (Err (BadField place)) is = is
as_answer bytes (Err NoMemory) is = is

pub from_fault : (bytes : List ℕ) (e : HeaderFault) → IsAnswer tables bytes (Err e) → IsTableRead bytes (Err e)
from_fault bytes (Short place) is = is
from_fault bytes (BadField place) is = is
from_fault bytes NoMemory is = is

pub from_table : (bytes : List ℕ) (t : Table) (at : ℕ) → IsAnswer tables bytes (Ok (t, at)) → IsTableRead bytes (Ok t)
from_table bytes t at is =
    let (rest, e, none) = is.rest in
    (is.header, e ∙ ap (λ w. bytes_of (table_fields t) ++ w) (none refl) ∙ append-nil (bytes_of (table_fields t)))

some_table : (t u : Table) (n m : ℕ) → ◌≡◌ {A = Result (Table × ℕ) HeaderFault} (Ok (t, n)) (Ok (u, m)) → t ≡ u
some_table t u n m e = let pair : ◌≡◌ {A = Table × ℕ} (t, n) (u, m) = cc in ap (λ (p : Table × ℕ). p.0) pair

some_fault : (f g : HeaderFault) → ◌≡◌ {A = Result (Table × ℕ) HeaderFault} (Err f) (Err g) → f ≡ g
some_fault f g e = cc

pub whole_same : (bytes : List ℕ) (a b : Result Table HeaderFault) → whole bytes a ≡ whole bytes b → a ≡ b
whole_same bytes (Ok t) (Ok u) e = ap (λ w. Ok w) (some_table t u (length bytes) (length bytes) e)
whole_same bytes (Ok t) (Err f) e = cc
whole_same bytes (Err f) (Ok t) e = cc
whole_same bytes (Err f) (Err g) e = ap (λ w. Err w) (some_fault f g e)

pub not_refused : (bytes : List ℕ) (r : Result Table HeaderFault) → (r ≡ Err NoMemory → ⊥) → whole bytes r ≡ Err NoMemory → ⊥
not_refused bytes (Ok t) never e = cc
not_refused bytes (Err f) never e = never (ap (λ w. Err w) (some_fault f NoMemory e))
