-- What instructions that are set make of code.
use Rattle.std.proofs.Common.{◌≡◌, ℕ, suc, ◌+◌, ◌-◌, ◌<◌, ◌≤◌, All, List, [], ◌∷◌, ◌++◌, length, slice_set, refl, sym, ap, ◌∙◌, arith}
use Rattle.std.proofs.Math.ListN.{length-append}
use Rattle.std.proofs.lemmas.List.{append_assoc, length-map, map-append, map-set}
use Rattle.std.proofs.lemmas.List.Elements.{All-nil, All-cons}
use Rattle.circus_checked.specs.StatementTree.{HandlerTree, statement_trees, handler_trees}
use Rattle.circus_machine.specs.Seen.Code.{Act, jump, codes_of, handlers_code}
use Rattle.circus_machine.specs.Seen.Instructions.{act_of, acts_of, open_code, exits_from, leading_to}
use Rattle.circus_machine.specs.declared.code.Instruction.{Instruction}
use Rattle.circus_machine.specs.declared.code.Instruction.TheVariants as I

-- an instruction is set behind others
pub set_there : (xs ys : List Act) (x y : Act) → slice_set (xs ++ x ∷ ys) (length xs) y ≡ xs ++ y ∷ ys
set_there [] ys x y = refl
set_there (z ∷ xs) ys x y = ap (λ zs. z ∷ zs) (set_there xs ys x y)

pub set_at : (n : ℕ) (xs ys : List Act) (x y : Act) → n ≡ length xs → slice_set (xs ++ x ∷ ys) n y ≡ xs ++ y ∷ ys
set_at n xs ys x y is = ap (λ k. slice_set (xs ++ x ∷ ys) k y) is ∙ set_there xs ys x y

pub open_length : (hs : List HandlerTree) → length (open_code hs) ≡ length (handlers_code (handler_trees hs))
open_length [] = refl
open_length (h ∷ hs) =
    let s = codes_of (statement_trees h.statements) in
    length-append s (jump 0 ∷ open_code hs) ∙ ap (λ n. length s + suc n) (open_length hs) ∙ sym (length-append s (jump (length (handlers_code (handler_trees hs))) ∷ handlers_code (handler_trees hs)))

-- the code of handlers, once their jumps are set
pub leads : (hs : List HandlerTree) (before : List Act) (end at : ℕ) → at ≡ length before → end ≡ length before + length (open_code hs)
    → leading_to end (exits_from at hs) (before ++ open_code hs) ≡ before ++ handlers_code (handler_trees hs)
leads [] before end at here is = refl
leads (h ∷ hs) before end at here is =
    let s = codes_of (statement_trees h.statements) in
    let o = open_code hs in
    let exit = at + length s in
    let out : Act = jump (end - exit - 1) in
    let front : List Act = (before ++ s) ++ out ∷ [] in
    let total = length-append s (jump 0 ∷ o) in
    let so_far = length-append before s in
    let more = length-append (before ++ s) (out ∷ []) in
    let left : end - exit - 1 ≡ length (handlers_code (handler_trees hs)) = omega (arith, here, is, total, open_length hs) in
    ap (λ code. leading_to end (exits_from (exit + 1) hs) (slice_set code exit out)) (sym (append_assoc before s (jump 0 ∷ o)))
    ∙ ap (leading_to end (exits_from (exit + 1) hs)) (set_at exit (before ++ s) o (jump 0) out (omega (arith, here, so_far)) ∙ sym (append_assoc (before ++ s) (out ∷ []) o))
    ∙ leads hs front end (exit + 1) (omega (arith, here, so_far, more)) (omega (arith, is, total, so_far, more))
    ∙ append_assoc (before ++ s) (out ∷ []) (handlers_code (handler_trees hs))
    ∙ append_assoc before s (out ∷ handlers_code (handler_trees hs))
    ∙ ap (λ n. before ++ (s ++ jump n ∷ handlers_code (handler_trees hs))) left

-- the jumps stand within the code
pub exits_within : (hs : List HandlerTree) (at end : ℕ) → at + length (open_code hs) ≤ end → All (λ exit. exit < end) (exits_from at hs)
exits_within [] at end fits = All-nil (λ exit. exit < end)
exits_within (h ∷ hs) at end fits =
    let s = codes_of (statement_trees h.statements) in
    let total = length-append s (jump 0 ∷ open_code hs) in
    All-cons (λ exit. exit < end) (at + length s) (exits_from (at + length s + 1) hs) (omega (arith, fits, total)) (exits_within hs (at + length s + 1) end (omega (arith, fits, total)))

-- how long code is, with more behind it
pub emitted_length : (code before : List Instruction) (more : List Act) → acts_of code ≡ acts_of before ++ more → length code ≡ length before + length more
emitted_length code before more is =
    sym (length-map code act_of) ∙ ap length is ∙ length-append (acts_of before) more ∙ ap (λ n. n + length more) (length-map before act_of)

pub acts_pushed : (code before : List Instruction) (i : Instruction) → code ≡ before ++ i ∷ [] → acts_of code ≡ acts_of before ++ act_of i ∷ []
acts_pushed code before i is = ap acts_of is ∙ map-append act_of before (i ∷ [])

-- the code of a branch, once both jumps are set
pub branch_emitted : (before c1 c2 c3 c4 c5 c6 : List Instruction) (ss others : List Act) (unless out : Instruction) (at behind : ℕ)
    → c1 ≡ before ++ I.Jump 0 ∷ [] → acts_of c2 ≡ acts_of c1 ++ ss → c3 ≡ c2 ++ I.Jump 0 ∷ [] → acts_of c4 ≡ acts_of c3 ++ others
    → c5 ≡ slice_set c4 at unless → c6 ≡ slice_set c5 behind out → at ≡ length before → behind ≡ length c2
    → acts_of c6 ≡ acts_of before ++ act_of unless ∷ (ss ++ act_of out ∷ others)
branch_emitted before c1 c2 c3 c4 c5 c6 ss others unless out at behind is1 is2 is3 is4 is5 is6 here there =
    let b = acts_of before in
    let a = act_of unless in
    let o = act_of out in
    let first = acts_pushed c1 before (I.Jump 0) is1 in
    let second = is2 ∙ ap (λ xs. xs ++ ss) first ∙ append_assoc b (jump 0 ∷ []) ss in
    let all : acts_of c4 ≡ b ++ jump 0 ∷ (ss ++ jump 0 ∷ others) =
    is4 ∙ ap (λ xs. xs ++ others) (acts_pushed c3 c2 (I.Jump 0) is3 ∙ ap (λ xs. xs ++ jump 0 ∷ []) second) ∙ append_assoc (b ++ jump 0 ∷ ss) (jump 0 ∷ []) others ∙ append_assoc b (jump 0 ∷ ss) (jump 0 ∷ others) in
    let front : length (b ++ a ∷ ss) ≡ behind =
    omega (arith, length-append b (a ∷ ss), length-map before act_of, there, emitted_length c2 c1 ss is2, ap length is1, length-append before (I.Jump 0 ∷ [])) in
    ap acts_of is6 ∙ map-set act_of c5 behind out
    ∙ ap (λ xs. slice_set xs behind o) (ap acts_of is5 ∙ map-set act_of c4 at unless ∙ ap (λ xs. slice_set xs at a) all ∙ set_at at b (ss ++ jump 0 ∷ others) (jump 0) a (here ∙ sym (length-map before act_of)))
    ∙ ap (λ xs. slice_set xs behind o) (sym (append_assoc b (a ∷ ss) (jump 0 ∷ others)))
    ∙ set_at behind (b ++ a ∷ ss) others (jump 0) o (sym front)
    ∙ append_assoc b (a ∷ ss) (o ∷ others)

-- the code of a loop, once its first jump is set
pub loop_emitted : (before c1 c2 c3 c4 : List Instruction) (body : List Act) (in' again : Instruction) (at : ℕ)
    → c1 ≡ before ++ I.Jump 0 ∷ [] → acts_of c2 ≡ acts_of c1 ++ body → c3 ≡ slice_set c2 at in' → c4 ≡ c3 ++ again ∷ [] → at ≡ length before
    → acts_of c4 ≡ acts_of before ++ act_of in' ∷ (body ++ act_of again ∷ [])
loop_emitted before c1 c2 c3 c4 body in' again at is1 is2 is3 is4 here =
    let b = acts_of before in
    let i = act_of in' in
    let all : acts_of c2 ≡ b ++ jump 0 ∷ body = is2 ∙ ap (λ xs. xs ++ body) (acts_pushed c1 before (I.Jump 0) is1) ∙ append_assoc b (jump 0 ∷ []) body in
    acts_pushed c4 c3 again is4
    ∙ ap (λ xs. xs ++ act_of again ∷ []) (ap acts_of is3 ∙ map-set act_of c2 at in' ∙ ap (λ xs. slice_set xs at i) all ∙ set_at at b body (jump 0) i (here ∙ sym (length-map before act_of)))
    ∙ append_assoc b (i ∷ body) (act_of again ∷ [])
