-- An act more at two ends, and what stands then.
use Rattle.std.proofs.Common.{◌≡◌, ℕ, Bool, true, false, List, [], ◌++◌, Option, None, Some, Result, Ok, Err, refl, sym, ap, ◌∙◌}
use Rattle.std.specs.Prelude.{OnOk, OnErr, IfOk}
use Rattle.std.proofs.lemmas.List.{append-nil}
use Rattle.circus_exchange.specs.declared.exchange.Exchange.{Exchange}
use Rattle.circus_exchange.specs.declared.taken.Arrived.{Arrived}
use Rattle.circus_pair.specs.declared.two_ends.TwoFault.{TwoFault}
use Rattle.circus_pair.specs.declared.two_ends.Act.{Act}
use Rattle.circus_pair.specs.declared.two_ends.Act.TheVariants.{Call, Return, Deliver, Tick}
use Rattle.circus_pair.specs.Acts.{Act as OneAct, Acts}
use Rattle.circus_pair.proofs.Handing.{format_act}
use Rattle.circus_exchange.specs.Exchange.{start}
use Rattle.circus_pair.specs.TwoEnds.{History, then_came, act_at, with_act, acts_of, sent_by, arrivals_of, arrived_by, arrived_in, arrived_at, End, Both, end_at, end_of, both_after, move_end, step_both, arrives, acting_end}

-- ---- both ends after an act more

moved_is : (e : Exchange) (acts : Acts) (act : Option OneAct) → move_end (end_of e acts) act ≡ end_of e (with_act acts act)
moved_is e acts None = refl
moved_is e acts (Some act) = refl

same_both : (a b c d : End) → a ≡ b → c ≡ d → ◌≡◌ {A = Both} (record { low = a; high = c }) (record { low = b; high = d })
same_both a b c d e f = ap (λ (x : End). let both : Both = record { low = x; high = c } in both) e ∙ ap (λ (x : End). let both : Both = record { low = b; high = x } in both) f

pub stepped_is : (format : ℕ) (history : History) (act : Act) → step_both (both_after format history) act ≡ both_after format (then_came history act)
unfolding step_both
stepped_is format history act =
    same_both _ _ _ _
    (moved_is (start 0 format) (acts_of false format history) (act_at false (sent_by (start 0 format) (acts_of true format history)) act))
    (moved_is (start 0 format) (acts_of true format history) (act_at true (sent_by (start 0 format) (acts_of false format history)) act))

-- whichever way a step ends
pub stands_more : (r : Result Arrived TwoFault) (old new : Both) (act : Act) (format : ℕ) (history : History) → OnOk r (new ≡ step_both old act) → old ≡ both_after format history → OnOk r (new ≡ both_after format (then_came history act))
stands_more (Ok x) old new act format history step stands = step ∙ ap (λ (both : Both). step_both both act) stands ∙ stepped_is format history act
stands_more (Err x) old new act format history step stands = tt

-- ---- the format

format_moved : (end : End) (act : Option OneAct) → (move_end end act).exchange.format ≡ end.exchange.format
format_moved end None = refl
format_moved end (Some act) = format_act end.exchange act

format_stepped : (both : Both) (act : Act) (end : Bool) → (end_at (step_both both act) end).exchange.format ≡ (end_at both end).exchange.format
unfolding step_both
format_stepped both act true = format_moved both.high _
format_stepped both act false = format_moved both.low _

pub format_more : (r : Result Arrived TwoFault) (old new : Both) (act : Act) → OnOk r (new ≡ step_both old act) → OnErr r (new ≡ old) → (end : Bool) → (end_at new end).exchange.format ≡ (end_at old end).exchange.format
format_more (Ok x) old new act ok err end = ap (λ (both : Both). (end_at both end).exchange.format) ok ∙ format_stepped old act end
format_more (Err x) old new act ok err end = ap (λ (both : Both). (end_at both end).exchange.format) err

-- ---- what arrives by it

arrived_more : (e : Exchange) (acts : Acts) (act : Option OneAct) → arrived_in e (with_act acts act) ≡ arrived_in e acts ++ arrivals_of (arrived_by (end_of e acts).exchange act)
arrived_more e acts None = sym (append-nil (arrived_in e acts))
arrived_more e acts (Some act) = refl

heard_call : (at : Bool) (format : ℕ) (history : History) (message : List ℕ) → arrived_at at format (then_came history (Call at message)) ≡ arrived_at at format history ++ []
heard_call true format history message = refl
heard_call false format history message = refl

heard_return : (at : Bool) (format : ℕ) (history : History) (call : ℕ) (message : List ℕ) → arrived_at at format (then_came history (Return at call message)) ≡ arrived_at at format history ++ []
heard_return true format history call message = refl
heard_return false format history call message = refl

heard_tick : (at : Bool) (format : ℕ) (history : History) → arrived_at at format (then_came history (Tick at)) ≡ arrived_at at format history ++ []
heard_tick true format history = refl
heard_tick false format history = refl

heard_is : (format : ℕ) (history : History) (act : Act) → arrived_at (acting_end act) format (then_came history act) ≡ arrived_at (acting_end act) format history ++ arrivals_of (arrives (both_after format history) act)
heard_is format history (Call at message) = heard_call at format history message
heard_is format history (Return at call message) = heard_return at format history call message
heard_is format history (Deliver true number) = arrived_more (start 0 format) (acts_of true format history) _
heard_is format history (Deliver false number) = arrived_more (start 0 format) (acts_of false format history) _
heard_is format history (Tick at) = heard_tick at format history

pub heard_more : (r : Result Arrived TwoFault) (old : Both) (act : Act) (format : ℕ) (history : History) → IfOk r (λ arrived. arrived ≡ arrives old act) → old ≡ both_after format history → IfOk r (λ arrived. arrived_at (acting_end act) format (then_came history act) ≡ arrived_at (acting_end act) format history ++ arrivals_of arrived)
heard_more (Ok x) old act format history is stands = heard_is format history act ∙ ap (λ (a : Arrived). arrived_at (acting_end act) format history ++ arrivals_of a) (sym (is ∙ ap (λ (both : Both). arrives both act) stands))
heard_more (Err x) old act format history is stands = tt
