-- The code of statements and handlers, one after the other.
use Rattle.std.proofs.Common.{◌≡◌, ℕ, zero, suc, ◌+◌, ◌-◌, ◌<◌, ◌≤◌, List, [], ◌∷◌, ◌++◌, length, map, get_or, drop, slice_set, sym, ap, ◌∙◌, arith, append_assoc, append-nil}
use Rattle.std.proofs.lemmas.List.{drop_more, drop_all, length-map, length-set, map-append, map-set}
use Rattle.circus_checked.specs.StatementTree.{HandlerTree, statement_trees, handler_trees}
use Rattle.circus_checked.specs.StatementOf.{tree_of, handler_of}
use Rattle.circus_checked.specs.Seen.StatementWeight.{weight, list_weight, handler_weights}
use Rattle.circus_checked.specs.declared.statement.CheckedStatement.{CheckedStatement}
use Rattle.circus_checked.specs.declared.statement.CheckedHandler.{CheckedHandler}
use Rattle.circus_machine.specs.Seen.Code as acts
use Rattle.circus_machine.specs.Seen.Code.{Act, jump, code_of, codes_of, handlers_code, table_of}
use Rattle.circus_machine.specs.Seen.Instructions.{act_of, acts_of, catch_of, open_code, exits_from, leading_to}
use Rattle.circus_machine.specs.declared.code.Instruction.{Instruction}
use Rattle.circus_machine.specs.declared.code.Instruction.TheVariants as I
use Rattle.circus_machine.specs.declared.code.Catch.{Catch}
use Rattle.circus_machine.proofs.Emitting.{set_at, emitted_length, leads, acts_pushed}

-- the first of those that are left
front : {X Y : Type 0} (f : X → Y) (xs : List X) (i : ℕ) (x : X) → i < length xs → x ≡ get_or xs i x → map f (drop i xs) ≡ f x ∷ map f (drop (i + 1) xs)
front f xs i x few is = ap (map f) (drop_more xs i x few ∙ ap (λ y. y ∷ drop (i + 1) xs) (sym is))

none_left : {X Y : Type 0} (f : X → Y) (xs : List X) (i : ℕ) → length xs ≤ i → map f (drop i xs) ≡ []
none_left f xs i all = ap (map f) (drop_all i xs all)

-- ---- statements

pub weight_statement : (ss : List CheckedStatement) (i : ℕ) (s : CheckedStatement) → i < length ss → s ≡ get_or ss i s → weight (tree_of s) < list_weight (statement_trees (map tree_of ss))
weight_statement [] i s few is = absurd (omega (arith, few))
weight_statement (t ∷ ss) zero s few is = omega (arith, ap (λ x. weight (tree_of x)) is)
weight_statement (t ∷ ss) (suc i) s few is = omega (arith, weight_statement ss i s (omega (arith, few)) is)

module _ (ss : List CheckedStatement) (i : ℕ) where
  pub statements_more : (s : CheckedStatement) (code after : List Instruction) (meant : List Act) → i < length ss → s ≡ get_or ss i s → acts_of after ≡ acts_of code ++ code_of (tree_of s)
      → acts_of code ++ codes_of (statement_trees (map tree_of (drop i ss))) ≡ meant → acts_of after ++ codes_of (statement_trees (map tree_of (drop (i + 1) ss))) ≡ meant
  statements_more s code after meant few is more all =
      ap (λ xs. xs ++ codes_of (statement_trees (map tree_of (drop (i + 1) ss)))) more
      ∙ append_assoc (acts_of code) (code_of (tree_of s)) (codes_of (statement_trees (map tree_of (drop (i + 1) ss))))
      ∙ sym (ap (λ ts. acts_of code ++ codes_of (statement_trees ts)) (front tree_of ss i s few is)) ∙ all

  pub statements_done : (code : List Instruction) (meant : List Act) → length ss ≤ i → acts_of code ++ codes_of (statement_trees (map tree_of (drop i ss))) ≡ meant → acts_of code ≡ meant
  statements_done code meant many all =
      sym (append-nil (acts_of code)) ∙ sym (ap (λ ts. acts_of code ++ codes_of (statement_trees ts)) (none_left tree_of ss i many)) ∙ all

-- ---- handlers

pub weight_handler : (hs : List CheckedHandler) (i : ℕ) (h : CheckedHandler) → i < length hs → h ≡ get_or hs i h → 9 + list_weight (statement_trees h.statements) ≤ handler_weights (handler_trees (map handler_of hs))
weight_handler [] i h few is = absurd (omega (arith, few))
weight_handler (g ∷ hs) zero h few is = omega (arith, ap (λ (x : CheckedHandler). list_weight (statement_trees x.statements)) is)
weight_handler (g ∷ hs) (suc i) h few is = omega (arith, weight_handler hs i h (omega (arith, few)) is)

module _ (hs : List CheckedHandler) (i : ℕ) where
  pub handlers_more : (h : CheckedHandler) (code c2 after : List Instruction) (meant : List Act) → i < length hs → h ≡ get_or hs i h
      → acts_of c2 ≡ acts_of code ++ codes_of (statement_trees h.statements) → after ≡ c2 ++ I.Jump 0 ∷ []
      → acts_of code ++ open_code (map handler_of (drop i hs)) ≡ meant → acts_of after ++ open_code (map handler_of (drop (i + 1) hs)) ≡ meant
  handlers_more h code c2 after meant few is more out all =
      let s = codes_of (statement_trees h.statements) in
      let rest = open_code (map handler_of (drop (i + 1) hs)) in
      ap (λ xs. xs ++ rest) (acts_pushed after c2 (I.Jump 0) out ∙ ap (λ xs. xs ++ jump 0 ∷ []) more ∙ append_assoc (acts_of code) s (jump 0 ∷ []))
      ∙ append_assoc (acts_of code) (s ++ jump 0 ∷ []) rest ∙ ap (λ xs. acts_of code ++ xs) (append_assoc s (jump 0 ∷ []) rest)
      ∙ sym (ap (λ ts. acts_of code ++ open_code ts) (front handler_of hs i h few is)) ∙ all

  pub handlers_done : (code : List Instruction) (meant : List Act) → length hs ≤ i → acts_of code ++ open_code (map handler_of (drop i hs)) ≡ meant → acts_of code ≡ meant
  handlers_done code meant many all = sym (append-nil (acts_of code)) ∙ sym (ap (λ ts. acts_of code ++ open_code ts) (none_left handler_of hs i many)) ∙ all

  pub table_more : (h : CheckedHandler) (code c2 after : List Instruction) (catches grown : List Catch) (at offset : ℕ) (meant : List acts.Catch) → i < length hs → h ≡ get_or hs i h
      → acts_of c2 ≡ acts_of code ++ codes_of (statement_trees h.statements) → after ≡ c2 ++ I.Jump 0 ∷ [] → at < length code → offset ≡ length code - at - 1
      → grown ≡ catches ++ record { error = h.error; places = h.places; offset = offset } ∷ []
      → map catch_of catches ++ table_of (length code - at - 1) (handler_trees (map handler_of (drop i hs))) ≡ meant
      → map catch_of grown ++ table_of (length after - at - 1) (handler_trees (map handler_of (drop (i + 1) hs))) ≡ meant
  table_more h code c2 after catches grown at offset meant few is more out behind here more_catches all =
      let s = codes_of (statement_trees h.statements) in
      let rest = handler_trees (map handler_of (drop (i + 1) hs)) in
      let one : acts.Catch = record { error = h.error; places = h.places; offset = length code - at - 1 } in
      let long : length after - at - 1 ≡ (length code - at - 1) + (length s + 1) =
      omega (arith, behind, emitted_length c2 code s more, emitted_length after c2 (jump 0 ∷ []) (acts_pushed after c2 (I.Jump 0) out)) in
      ap (λ ts. ts ++ table_of (length after - at - 1) rest) (ap (map catch_of) more_catches ∙ map-append catch_of catches (record { error = h.error; places = h.places; offset = offset } ∷ []))
      ∙ append_assoc (map catch_of catches) (record { error = h.error; places = h.places; offset = offset } ∷ []) (table_of (length after - at - 1) rest)
      ∙ ap (λ n. map catch_of catches ++ record { error = h.error; places = h.places; offset = n } ∷ table_of (length after - at - 1) rest) here
      ∙ ap (λ n. map catch_of catches ++ one ∷ table_of n rest) long
      ∙ sym (ap (λ ts. map catch_of catches ++ table_of (length code - at - 1) (handler_trees ts)) (front handler_of hs i h few is)) ∙ all

  pub table_done : (catches : List Catch) (n : ℕ) (meant : List acts.Catch) → length hs ≤ i → map catch_of catches ++ table_of n (handler_trees (map handler_of (drop i hs))) ≡ meant → map catch_of catches ≡ meant
  table_done catches n meant many all =
      sym (append-nil (map catch_of catches)) ∙ sym (ap (λ ts. map catch_of catches ++ table_of n (handler_trees ts)) (none_left handler_of hs i many)) ∙ all

  pub exits_more : (h : CheckedHandler) (code c2 after : List Instruction) (exits grown : List ℕ) (meant : List ℕ) → i < length hs → h ≡ get_or hs i h
      → acts_of c2 ≡ acts_of code ++ codes_of (statement_trees h.statements) → after ≡ c2 ++ I.Jump 0 ∷ [] → grown ≡ exits ++ length c2 ∷ []
      → exits ++ exits_from (length code) (map handler_of (drop i hs)) ≡ meant → grown ++ exits_from (length after) (map handler_of (drop (i + 1) hs)) ≡ meant
  exits_more h code c2 after exits grown meant few is more out more_exits all =
      let s = codes_of (statement_trees h.statements) in
      let rest = map handler_of (drop (i + 1) hs) in
      let exit : length c2 ≡ length code + length s = emitted_length c2 code s more in
      let long : length after ≡ length code + length s + 1 = omega (arith, exit, emitted_length after c2 (jump 0 ∷ []) (acts_pushed after c2 (I.Jump 0) out)) in
      ap (λ xs. xs ++ exits_from (length after) rest) more_exits ∙ append_assoc exits (length c2 ∷ []) (exits_from (length after) rest)
      ∙ ap (λ n. exits ++ n ∷ exits_from (length after) rest) exit ∙ ap (λ n. exits ++ (length code + length s) ∷ exits_from n rest) long
      ∙ sym (ap (λ ts. exits ++ exits_from (length code) ts) (front handler_of hs i h few is)) ∙ all

  pub exits_done : (exits : List ℕ) (n : ℕ) (meant : List ℕ) → length hs ≤ i → exits ++ exits_from n (map handler_of (drop i hs)) ≡ meant → exits ≡ meant
  exits_done exits n meant many all = sym (append-nil exits) ∙ sym (ap (λ ts. exits ++ exits_from n ts) (none_left handler_of hs i many)) ∙ all

-- ---- jumps that are set

pub set_long : (code after : List Instruction) (n long : ℕ) (i : Instruction) → after ≡ slice_set code n i → length code ≡ long → length after ≡ long
set_long code after n long i set is = ap length set ∙ length-set code n i ∙ is

pub leads_more : (end : ℕ) (exits : List ℕ) (i d exit offset long : ℕ) (code after : List Instruction) (meant : List Act) → i < length exits → exit ≡ get_or exits i d → offset ≡ long - exit - 1 → long ≡ end
    → after ≡ slice_set code exit (I.Jump offset) → leading_to end (drop i exits) (acts_of code) ≡ meant → leading_to end (drop (i + 1) exits) (acts_of after) ≡ meant
leads_more end exits i d exit offset long code after meant few is far same set all =
    ap (leading_to end (drop (i + 1) exits)) (ap acts_of set ∙ map-set act_of code exit (I.Jump offset) ∙ ap (λ n. slice_set (acts_of code) exit (jump n)) (far ∙ ap (λ n. n - exit - 1) same))
    ∙ sym (ap (λ xs. leading_to end xs (acts_of code)) (drop_more exits i d few ∙ ap (λ y. y ∷ drop (i + 1) exits) (sym is))) ∙ all

pub leads_done : (end : ℕ) (exits : List ℕ) (i : ℕ) (code : List Instruction) (meant : List Act) → length exits ≤ i → leading_to end (drop i exits) (acts_of code) ≡ meant → acts_of code ≡ meant
leads_done end exits i code meant many all = sym (ap (λ xs. leading_to end xs (acts_of code)) (drop_all i exits many)) ∙ all

-- the code of handlers, once their jumps are set
pub handlers_emitted : (before code led : List Instruction) (hs : List HandlerTree) (exits : List ℕ) (at : ℕ)
    → acts_of code ≡ acts_of before ++ open_code hs → exits ≡ exits_from (at + 1) hs → length before ≡ at + 1
    → acts_of led ≡ leading_to (length code) exits (acts_of code) → acts_of led ≡ acts_of before ++ handlers_code (handler_trees hs)
handlers_emitted before code led hs exits at all exits_are here lead =
    lead ∙ ap (λ xs. leading_to (length code) xs (acts_of code)) exits_are ∙ ap (leading_to (length code) (exits_from (at + 1) hs)) all
    ∙ leads hs (acts_of before) (length code) (at + 1) (sym here ∙ sym (length-map before act_of)) (emitted_length code before (open_code hs) all ∙ ap (λ n. n + length (open_code hs)) (sym (length-map before act_of)))

-- the code of a call, once its own instruction is set
pub call_emitted : (before c1 c2 c3 : List Instruction) (handlers : List Act) (asking : Instruction) (at : ℕ) → c1 ≡ before ++ I.Jump 0 ∷ [] → acts_of c2 ≡ acts_of c1 ++ handlers → c3 ≡ slice_set c2 at asking → at ≡ length before
    → acts_of c3 ≡ acts_of before ++ act_of asking ∷ handlers
call_emitted before c1 c2 c3 handlers asking at is1 is2 is3 here =
    ap acts_of is3 ∙ map-set act_of c2 at asking
    ∙ ap (λ xs. slice_set xs at (act_of asking)) (is2 ∙ ap (λ xs. xs ++ handlers) (acts_pushed c1 before (I.Jump 0) is1) ∙ append_assoc (acts_of before) (jump 0 ∷ []) handlers)
    ∙ set_at at (acts_of before) handlers (jump 0) (act_of asking) (here ∙ sym (length-map before act_of))
