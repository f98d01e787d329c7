-- A talk of two ends goes on with what happens at either of them.
use Rattle.std.proofs.Common.{◌≡◌, ◌⊎◌, ℕ, Bool, true, false, cond, ◌&&◌, eqb, List, [], ◌∷◌, ◌++◌, Option, None, Some, refl, sym, ap, subst, ◌∙◌}
use Rattle.std.specs.Prelude.{flat_map}
use Rattle.std.proofs.lemmas.Bool.{eqb-true}
use Rattle.circus_exchange.specs.declared.exchange.Exchange.{Exchange}
use Rattle.circus_exchange.specs.Exchange.{start}
use Rattle.circus_pair.specs.Acts.{Act, Call, Return, Came, Tick, Stop, Acts, none_yet, more}
use Rattle.circus_pair.specs.Lawful.{AreLawful, MayFollow, is_stopped_after}
use Rattle.circus_pair.specs.TwoEnds.{Talk, silent, at_first, at_second, acts_at_first, acts_at_second, WasSent, IsTalk, Agree, sent_by, with_act}
use Rattle.circus_pair.proofs.Agreeing.{talk_agrees}
use Rattle.circus_wire.specs.Wire.{WireState, is_up}
use Rattle.circus_wire.specs.WireActs.{WireAct, WireActs, followed_by, CallTo, AnswerTo, CameFrom, TickAll, StopOf, act_at, acts_at, awaits_after}
use Rattle.circus_member_rules.specs.declared.occurrence.Purpose.{Purpose}
use Rattle.circus_member_rules.specs.declared.occurrence.Effect.{Effect}
use Rattle.circus_member_rules.specs.declared.occurrence.Effect.TheVariants as made
use Rattle.circus_node.specs.Sending.{is_sendable}
use Rattle.circus_world_theory.specs.NodeActs.{with_all, handed_by}

-- ---- two ends

-- what has happened at two ends is a talk
pub record Talks (format : ℕ) (here there : Acts) : Type 0 where
  pub talk : Talk
  pub is : IsTalk format talk
  pub at_here : acts_at_first talk ≡ here
  pub at_there : acts_at_second talk ≡ there

pub none_said : (format : ℕ) → Talks format none_yet none_yet
none_said format = record { talk = silent; is = tt; at_here = refl; at_there = refl }

-- the two ends of a talk are alike
turned : Talk → Talk
turned silent = silent
turned (at_first talk act) = at_second (turned talk) act
turned (at_second talk act) = at_first (turned talk) act

first_turned : (talk : Talk) → acts_at_first (turned talk) ≡ acts_at_second talk
unfolding turned
first_turned silent = refl
first_turned (at_first talk act) = first_turned talk
first_turned (at_second talk act) = ap (λ acts. more acts act) (first_turned talk)

second_turned : (talk : Talk) → acts_at_second (turned talk) ≡ acts_at_first talk
unfolding turned
second_turned silent = refl
second_turned (at_first talk act) = ap (λ acts. more acts act) (second_turned talk)
second_turned (at_second talk act) = second_turned talk

turned_is : (format : ℕ) (talk : Talk) → IsTalk format talk → IsTalk format (turned talk)
unfolding turned
turned_is format silent is = tt
turned_is format (at_first talk act) is = (
  turned_is format talk is.0,
  subst (λ acts. MayFollow 0 format acts act) (sym (second_turned talk)) is.1,
  subst (λ acts. WasSent (sent_by (start 0 format) acts) act) (sym (first_turned talk)) is.2,
)
turned_is format (at_second talk act) is = (
  turned_is format talk is.0,
  subst (λ acts. MayFollow 0 format acts act) (sym (first_turned talk)) is.1,
  subst (λ acts. WasSent (sent_by (start 0 format) acts) act) (sym (second_turned talk)) is.2,
)

pub talks_back : (format : ℕ) (here there : Acts) → Talks format here there → Talks format there here
talks_back format here there talks = record {
  talk = turned talks.talk;
  is = turned_is format talks.talk talks.is;
  at_here = first_turned talks.talk ∙ talks.at_there;
  at_there = second_turned talks.talk ∙ talks.at_here;
}

-- and they agree
pub agree : (format : ℕ) (here there : Acts) → (format ≡ 1) ⊎ (format ≡ 2) → Talks format here there → Agree format here there
agree format here there known talks =
    subst (λ acts. Agree format acts there) talks.at_here
    (subst (λ acts. Agree format (acts_at_first talks.talk) acts) talks.at_there (talk_agrees format talks.talk known talks.is))

-- ---- an act more at one of them

pub talks_on : (format : ℕ) (here there : Acts) (act : Act) → Talks format here there → MayFollow 0 format here act → WasSent (sent_by (start 0 format) there) act
    → Talks format (more here act) there
talks_on format here there act talks may was = record {
  talk = at_first talks.talk act;
  is = (talks.is, subst (λ acts. MayFollow 0 format acts act) (sym talks.at_here) may, subst (λ acts. WasSent (sent_by (start 0 format) acts) act) (sym talks.at_there) was);
  at_here = ap (λ acts. more acts act) talks.at_here;
  at_there = talks.at_there;
}

one_on : (format : ℕ) (here there : Acts) (o : Option Act) → Talks format here there → AreLawful 0 format (with_act here o)
    → ((act : Act) → o ≡ Some act → WasSent (sent_by (start 0 format) there) act) → Talks format (with_act here o) there
one_on format here there None talks lawful was = talks
one_on format here there (Some act) talks lawful was = talks_on format here there act talks lawful.1 (was act refl)

-- ---- acts of a node

-- a segment of another node that comes was sent by it
abbrev pub CameSent : List (List ℕ) → ℕ → WireAct Purpose → Type 0
CameSent sent other (CameFrom from s) = from ≡ other → WasSent sent (Came s)
CameSent sent other (CallTo to message purpose) = Unit {0}
CameSent sent other (AnswerTo caller message) = Unit {0}
CameSent sent other TickAll = Unit {0}
CameSent sent other (StopOf node) = Unit {0}

abbrev pub AllSent : List (List ℕ) → ℕ → List (WireAct Purpose) → Type 0
AllSent sent other [] = Unit {0}
AllSent sent other (act ∷ acts) = CameSent sent other act × AllSent sent other acts

chosen : (sent : List (List ℕ)) (b : Bool) (x act : Act) → (b ≡ true → WasSent sent x) → cond b (Some x) None ≡ Some act → WasSent sent act
chosen sent true x act was is = (let same : x ≡ act = cc in subst (λ a. WasSent sent a) same (was refl))
chosen sent false x act was is = absurd (let clash : ◌≡◌ {A = Option Act} None (Some act) = is in cc)

ticks : (sent : List (List ℕ)) (b : Bool) (act : Act) → cond b None (Some Tick) ≡ Some act → WasSent sent act
ticks sent true act is = absurd (let clash : ◌≡◌ {A = Option Act} None (Some act) = is in cc)
ticks sent false act is = (let same : Tick ≡ act = cc in subst (λ a. WasSent sent a) same tt)

act_sent : (sent : List (List ℕ)) (e : Exchange) (other : ℕ) (here : Acts) (act : WireAct Purpose) → CameSent sent other act
    → (a : Act) → act_at e other here act ≡ Some a → WasSent sent a
act_sent sent e other here (CallTo to message purpose) came a is = chosen sent (eqb to other) (Call message) a (λ same. tt) is
act_sent sent e other here (AnswerTo caller message) came a is = chosen sent (eqb caller.node other && awaits_after e here caller.number) (Return caller.number message) a (λ same. tt) is
act_sent sent e other here (CameFrom from s) came a is = chosen sent (eqb from other) (Came s) a (λ same. came (eqb-true from other same)) is
act_sent sent e other here TickAll came a is = ticks sent (is_stopped_after here) a is
act_sent sent e other here (StopOf node) came a is = chosen sent (eqb node other) Stop a (λ same. tt) is

before : (format : ℕ) (acts : Acts) (o : Option Act) → AreLawful 0 format (with_act acts o) → AreLawful 0 format acts
before format acts None lawful = lawful
before format acts (Some act) lawful = lawful.0

-- what was lawful before
lawful_before : (format other : ℕ) (acts : WireActs Purpose) (later : List (WireAct Purpose)) → AreLawful 0 format (acts_at (start 0 format) other (with_all acts later))
    → AreLawful 0 format (acts_at (start 0 format) other acts)
lawful_before format other acts [] lawful = lawful
lawful_before format other acts (act ∷ later) lawful =
    let here = acts_at (start 0 format) other acts in
    before format here (act_at (start 0 format) other here act) (lawful_before format other (followed_by acts act) later lawful)

-- a node's acts that are lawful go on a talk
pub acts_on : (format other : ℕ) (acts : WireActs Purpose) (later : List (WireAct Purpose)) (there : Acts) → AreLawful 0 format (acts_at (start 0 format) other (with_all acts later))
    → AllSent (sent_by (start 0 format) there) other later → Talks format (acts_at (start 0 format) other acts) there → Talks format (acts_at (start 0 format) other (with_all acts later)) there
acts_on format other acts [] there lawful sent talks = talks
acts_on format other acts (act ∷ later) there lawful sent talks =
    let e = start 0 format in
    let here = acts_at e other acts in
    acts_on format other (followed_by acts act) later there lawful sent.1
    (one_on format here there (act_at e other here act) talks (lawful_before format other (followed_by acts act) later lawful)
    (act_sent (sent_by e there) e other here act sent.0))

-- ---- what is handed over comes from no one

pub both_sent : (sent : List (List ℕ)) (other : ℕ) (some later : List (WireAct Purpose)) → AllSent sent other some → AllSent sent other later → AllSent sent other (some ++ later)
both_sent sent other [] later first rest = rest
both_sent sent other (act ∷ some) later first rest = (first.0, both_sent sent other some later first.1 rest)

one_handed : (sent : List (List ℕ)) (other : ℕ) (w : WireState Purpose) (e : Effect) → AllSent sent other (handed_by w e)
one_handed sent other w (made.Call to message purpose) = by_test (is_up w to && is_sendable w.format message)
  where
    by_test : (b : Bool) → AllSent sent other (cond b (CallTo to message purpose ∷ []) [])
    by_test true = (tt, tt)
    by_test false = tt
one_handed sent other w (made.Answer caller message) = by_test (is_sendable w.format message)
  where
    by_test : (b : Bool) → AllSent sent other (cond b (AnswerTo caller message ∷ []) [])
    by_test true = (tt, tt)
    by_test false = tt

pub all_handed_sent : (sent : List (List ℕ)) (other : ℕ) (w : WireState Purpose) (effects : List Effect) → AllSent sent other (flat_map (handed_by w) effects)
all_handed_sent sent other w [] = tt
all_handed_sent sent other w (e ∷ effects) =
    both_sent sent other (handed_by w e) (flat_map (handed_by w) effects) (one_handed sent other w e) (all_handed_sent sent other w effects)
