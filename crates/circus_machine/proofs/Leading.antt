-- The instructions of a body lead within its code.
use Rattle.std.proofs.Common.{◌≡◌, ℕ, zero, suc, ◌+◌, ◌<◌, ◌≤◌, List, [], ◌∷◌, ◌++◌, length, get_or, map, Option, Some, None, slice_get, option_copied, sym, ap, ◌∙◌, arith}
use Rattle.std.specs.Borrow.{Bor}
use Rattle.std.specs.List.{HoldsAt}
use Rattle.std.specs.Option.{MatchOption}
use Rattle.std.proofs.Math.ListN.{length-append}
use Rattle.std.proofs.lemmas.Option.{slice_get_past, slice_get-get_or}
use Rattle.circus_checked.specs.StatementTree.{StatementTree, StatementTrees, HandlerTrees, no_statements, more_statements, no_handlers, more_handlers}
use Rattle.circus_checked.specs.StatementTree as statement
use Rattle.circus_machine.specs.Seen.Code.{Act, jump, again, code_of, codes_of, handlers_code, table_of, reach, farthest, LeadsWithin}
use Rattle.circus_machine.specs.Seen.Instructions.{catch_of}
use Rattle.circus_machine.specs.declared.code.Catch.{Catch}
use Rattle.circus_evaluate.proofs.Alike.{some_same}

-- one code behind another
both : (xs ys : List Act) → LeadsWithin xs → LeadsWithin ys → LeadsWithin (xs ++ ys)
both [] ys first second = second
both (x ∷ xs) ys first second = (omega (arith, first.0, length-append xs ys), both xs ys first.1 second)

-- the handlers' code begins before its end
table_reach : (hs : HandlerTrees) (at : ℕ) → reach (table_of at hs) ≤ at + length (handlers_code hs)
table_reach no_handlers at = omega arith
table_reach (more_handlers e places ss hs) at =
    let h = handlers_code hs in
    omega (arith, table_reach hs (at + (length (codes_of ss) + 1)), length-append (codes_of ss) (jump (length h) ∷ h))

mutual
  code_leads : (s : StatementTree) → LeadsWithin (code_of s)
  code_leads (statement.assign p e) = (omega arith, tt)
  code_leads (statement.append e p bound kind) = (omega arith, tt)
  code_leads (statement.branch e ss others) =
      let b = codes_of others in
      (omega (arith, length-append (codes_of ss) (jump (length b) ∷ b)), both (codes_of ss) (jump (length b) ∷ b) (codes_lead ss) (omega arith, codes_lead others))
  code_leads (statement.repeat e body) = (omega (arith, length-append (codes_of body) (again e (length (codes_of body)) ∷ [])), both (codes_of body) (again e (length (codes_of body)) ∷ []) (codes_lead body) (omega arith, tt))
  code_leads (statement.call callee procedure es places hs) = (omega (arith, table_reach hs 0), handlers_lead hs)
  code_leads (statement.give es) = (omega arith, tt)
  code_leads (statement.raise error es) = (omega arith, tt)

  -- the code of a body
  pub codes_lead : (ss : StatementTrees) → LeadsWithin (codes_of ss)
  codes_lead no_statements = tt
  codes_lead (more_statements s ss) = both (code_of s) (codes_of ss) (code_leads s) (codes_lead ss)

  handlers_lead : (hs : HandlerTrees) → LeadsWithin (handlers_code hs)
  handlers_lead no_handlers = tt
  handlers_lead (more_handlers e places ss hs) =
      let h = handlers_code hs in
      both (codes_of ss) (jump (length h) ∷ h) (codes_lead ss) (omega arith, handlers_lead hs)

-- what a slice has at a place
pub read_there : {X : Type 0} (xs : List X) (n : ℕ) (found : Option (Bor X)) → MatchOption found (length xs ≤ n) (λ (x : Bor X). (n < length xs) × HoldsAt (λ y. x.now ≡ y) xs n) → option_copied found ≡ slice_get xs n
read_there xs n None past = sym (slice_get_past xs n past)
read_there xs n (Some x) (below, holds) = ap Some (holds x.now) ∙ sym (slice_get-get_or xs n x.now below)

-- the instruction at a place
pub leads_there : (code : List Act) (at : ℕ) (a : Act) → LeadsWithin code → slice_get code at ≡ Some a → at + 1 + farthest a ≤ length code
leads_there [] at a leads is = cc
leads_there (b ∷ code) zero a leads is = omega (arith, leads.0, ap farthest (some_same b a is))
leads_there (b ∷ code) (suc at) a leads is = omega (arith, leads_there code at a leads.1 is)

-- a handler of an ask
pub reach_there : (catches : List Catch) (i : ℕ) (h : Catch) → i < length catches → h ≡ get_or catches i h → h.offset ≤ reach (map catch_of catches)
reach_there [] i h few is = absurd (omega (arith, few))
reach_there (g ∷ catches) zero h few is = omega (arith, ap (λ (x : Catch). x.offset) is)
reach_there (g ∷ catches) (suc i) h few is = omega (arith, reach_there catches i h (omega (arith, few)) is)
