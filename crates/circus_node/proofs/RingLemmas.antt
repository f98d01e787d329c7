-- The Ringmaster's tables, and its views once it has answered.
use Rattle.std.proofs.Common.{◌≡◌, ℕ, suc, ◌+◌, ◌<◌, ◌≤◌, Bool, true, false, ◌||◌, List, [], ◌∷◌, ◌++◌, length, All, fold, Option, Some, refl, sym, ap, ◌∙◌, subst, arith, if◌then◌else◌}
use Rattle.std.specs.Prelude.{slice_get, nat_eq}
use Rattle.std.proofs.lemmas.Bool.{eqb-true}
use Rattle.std.proofs.lemmas.List.Sums.{fold-append}
use Rattle.std.proofs.lemmas.List.Elements.{All-nil, All-cons, All-head, All-tail}
use Rattle.std.proofs.lemmas.Option.{slice_get_within}
use Rattle.std.specs.Option.{option_map_or}
use Rattle.circus_value.specs.Among.{is_among}
use Rattle.circus_value.specs.declared.caller.Caller.{Caller}
use Rattle.circus_header.specs.CallFields.{IsNode}
use Rattle.circus_header.specs.declared.call.Request.{Request}
use Rattle.circus_collate.specs.Deployment.{IsDeployment, hosts, hosting_from}
use Rattle.circus_collate.specs.declared.view.Entry.{Entry}
use Rattle.circus_collate.specs.declared.table.Table.{Table}
use Rattle.circus_collate.specs.declared.deployment.Host.{Host}
use Rattle.circus_collate.specs.declared.deployment.Troupe.{Troupe}
use Rattle.circus_collate.specs.declared.deployment.Deployment.{Deployment}
use Rattle.circus_ring.specs.RingTable.{Kept, troupe_of, boot_views, kept_by, table_by, kept_after, answer_after}
use Rattle.circus_ring.specs.TableFields.{IsTable}
use Rattle.circus_ring.specs.ViewOf.{IsViewOf}
use Rattle.circus_ring.proofs.Performing.{has_both, view_shown}
use Rattle.circus_ring.proofs.Staying.{views_are}
use Rattle.circus_ring.proofs.Deploying.{deployed_are}
use Rattle.circus_member_rules.specs.Rules.{answer}
use Rattle.circus_node.specs.Making.{table_message, table_answers}
use Rattle.circus_node.specs.Seen.Kept.{IsRingOf}

-- ---- what a request does

pub answer_now : (d : Deployment) (kept : Kept) (r : IsRingOf d kept) (request : Request) (table : Table)
    → answer_after d.troupes r.requests request ≡ Some table → table_by kept request ≡ Some table
answer_now d kept r request table e = ap (λ k. table_by k request) r.kept_is ∙ e

pub kept_now : (d : Deployment) (kept new : Kept) (r : IsRingOf d kept) (request : Request)
    → new ≡ kept_after d.troupes (r.requests ++ request ∷ []) → new ≡ kept_by kept request
kept_now d kept new r request e =
    e ∙ fold-append kept_by (record { troupes = d.troupes; views = boot_views d.troupes }) r.requests (request ∷ [])
    ∙ ap (λ k. kept_by k request) (sym r.kept_is)

pub still_ring : (d : Deployment) (kept new : Kept) (r : IsRingOf d kept) (request : Request)
    → new ≡ kept_after d.troupes (r.requests ++ request ∷ []) → IsRingOf d new
still_ring d kept new r request e = record { deployment = r.deployment; requests = r.requests ++ request ∷ []; kept_is = e }

-- what is sent for it
pub answers_now : (d : Deployment) (kept : Kept) (r : IsRingOf d kept) (request : Request) (table : Table) (sender : Caller) (message : List ℕ)
    → answer_after d.troupes r.requests request ≡ Some table → message ≡ table_message table → answer message sender ∷ [] ≡ table_answers kept sender request
answers_now d kept r request table sender message e is =
    ap (λ m. answer m sender ∷ []) is
    ∙ ap (λ (o : Option Table). option_map_or (λ t. answer (table_message t) sender ∷ []) o []) (sym (answer_now d kept r request table e))

-- ---- a table has its ranges

same_one : (k : Kept) (request : Request) → (kept_by k request).troupes ≡ k.troupes
unfolding kept_by
same_one k request = refl

same_troupes : (kept : Kept) (requests : List Request) → (fold kept_by kept requests).troupes ≡ kept.troupes
same_troupes kept [] = refl
same_troupes kept (r ∷ rs) = same_troupes (kept_by kept r) rs ∙ same_one kept r

-- a node that hosts a member is one of the nodes
hosts_within : (number «module» n : ℕ) (nodes : List Host) → is_among (hosting_from number «module» nodes) n ≡ true → n < number + length nodes
hosts_within number «module» n [] e = cc
hosts_within number «module» n (h ∷ hs) e =
    by_host (λ is. let few : n < suc number + length hs = hosts_within (suc number) «module» n hs is in omega (arith, few)) (hosts «module» h) e
  where
    by_node : (is_among (hosting_from (suc number) «module» hs) n ≡ true → n < number + suc (length hs)) → (b : Bool) → nat_eq number n ≡ b
        → (b || is_among (hosting_from (suc number) «module» hs) n) ≡ true → n < number + suc (length hs)
    by_node later true same is = let here : number ≡ n = eqb-true number n same in omega (arith, here)
    by_node later false same is = later is

    by_host : (is_among (hosting_from (suc number) «module» hs) n ≡ true → n < number + suc (length hs)) → (b : Bool)
        → is_among (if b then number ∷ hosting_from (suc number) «module» hs else hosting_from (suc number) «module» hs) n ≡ true → n < number + suc (length hs)
    by_host later true is = by_node later (nat_eq number n) refl is
    by_host later false is = later is

-- so is a member of a view
members_are_nodes : (d : Deployment) (number : ℕ) (troupe : Troupe) (entries : List Entry) → IsDeployment d → slice_get d.troupes number ≡ Some troupe
    → All (λ (e : Entry). is_among (troupe.founders ++ troupe.spares) e.node ≡ true) entries → All (λ (e : Entry). IsNode e.node) entries
members_are_nodes d number troupe [] is at all = All-nil (λ (e : Entry). IsNode e.node)
members_are_nodes d number troupe (e ∷ es) is at all =
    let Belongs : Entry → Type 0 = λ (e : Entry). is_among (troupe.founders ++ troupe.spares) e.node ≡ true in
    let one = All-head Belongs e es all in
    let hosted : is_among (hosting_from 0 number d.nodes) e.node ≡ true = subst (λ ns. is_among ns e.node ≡ true) (is.troupes number troupe at).members one in
    let few : e.node < 0 + length d.nodes = hosts_within 0 number e.node d.nodes hosted in
    let most : length d.nodes ≤ 64 = is.few_nodes in
    All-cons (λ (e : Entry). IsNode e.node) e es (omega (arith, few, most)) (members_are_nodes d number troupe es is at (All-tail Belongs e es all))

pub is_table : (d : Deployment) (kept : Kept) (r : IsRingOf d kept) (request : Request) (table : Table)
    → answer_after d.troupes r.requests request ≡ Some table → IsTable table
is_table d kept r request table e =
    let (troupe, view, at, shown, is) = has_both kept request table (answer_now d kept r request table e) in
    let troupes : kept.troupes ≡ d.troupes = ap (λ (k : Kept). k.troupes) r.kept_is ∙ same_troupes (record { troupes = d.troupes; views = boot_views d.troupes }) r.requests in
    let there : slice_get d.troupes (troupe_of request) ≡ Some troupe = subst (λ ts. slice_get ts (troupe_of request) ≡ Some troupe) troupes at in
    let of : IsViewOf (troupe_of request) troupe table.view =
    views_are d.troupes (r.requests ++ request ∷ []) (troupe_of request) troupe table.view there (deployed_are d (troupe_of request) troupe r.deployment there)
    (view_shown d.troupes r.requests request table e) in
    let few : troupe_of request < length d.troupes = slice_get_within d.troupes (troupe_of request) troupe there in
    let most : length d.troupes ≤ 32 = r.deployment.few_troupes in
    record {
      troupe = omega (arith, of.number, few, most);
      incarnation = of.first;
      few = of.few;
      nodes = members_are_nodes d (troupe_of request) troupe table.view.entries r.deployment there of.members;
    }
