-- What holds of each call and each return that a node hands over holds of those that are found by their numbers.
use Rattle.std.proofs.Common.{◌≡◌, ℕ, ◌+◌, ◌<◌, ◌⊎◌, Bool, true, false, cond, ◌&&◌, eqb, List, Option, None, Some, refl, sym, ap, subst, ◌∙◌, inl, inr, arith}
use Rattle.std.specs.Prelude.{is_some, IfSome}
use Rattle.std.proofs.lemmas.Bool.{eqb-true, ne_eqb}
use Rattle.circus_value.specs.declared.caller.Caller.{Caller}
use Rattle.circus_pair.specs.Acts.{Act, Call, Return, Came, Tick, Stop, Acts, more}
use Rattle.circus_pair.specs.Handed.{calls_made, call_at, return_at}
use Rattle.circus_pair.specs.Lawful.{is_stopped_after}
use Rattle.circus_pair.specs.TwoEnds.{with_act}
use Rattle.circus_pair.proofs.Flowing.{made_call}
use Rattle.circus_wire.specs.Wire.{Beginning}
use Rattle.circus_wire.specs.WireActs.{WireAct, WireActs, begun, followed_by, CallTo, AnswerTo, CameFrom, TickAll, StopOf, acts_at, awaits_after, purpose_of}
use Rattle.circus_wire.specs.WireStanding.{pair_of}

-- ---- a call keeps its number

call_other : (first : ℕ) (acts : Acts) (message found : List ℕ) (n : ℕ) → call_at first acts n ≡ Some found → call_at first (more acts (Call message)) n ≡ Some found
unfolding call_at
call_other first acts message found n is =
    let below = made_call first acts n (ap is_some is) in
    let high : n < first + calls_made acts = below.1 in
    ap (λ b. cond b (Some message) (call_at first acts n)) (ne_eqb n (first + calls_made acts) (λ same. absurd (omega arith))) ∙ is

call_chosen : (first : ℕ) (acts : Acts) (b : Bool) (a : Act) (found : List ℕ) (n : ℕ)
    → (call_at first acts n ≡ Some found → call_at first (more acts a) n ≡ Some found)
    → call_at first acts n ≡ Some found → call_at first (with_act acts (cond b (Some a) None)) n ≡ Some found
call_chosen first acts true a found n stays is = stays is
call_chosen first acts false a found n stays is = is

call_ticked : (first : ℕ) (acts : Acts) (b : Bool) (found : List ℕ) (n : ℕ) → call_at first acts n ≡ Some found
    → call_at first (with_act acts (cond b None (Some Tick))) n ≡ Some found
unfolding call_at
call_ticked first acts true found n is = is
call_ticked first acts false found n is = is

module _ {P : Type 0} where
  pub call_stays : (b : Beginning) (acts : WireActs P) (act : WireAct P) (node n : ℕ) (found : List ℕ) → call_at b.first (acts_at (pair_of b) node acts) n ≡ Some found
      → call_at b.first (acts_at (pair_of b) node (followed_by acts act)) n ≡ Some found
  unfolding call_at
  call_stays b acts (CallTo to message purpose) node n found is =
      call_chosen b.first (acts_at (pair_of b) node acts) (eqb to node) (Call message) found n (call_other b.first (acts_at (pair_of b) node acts) message found n) is
  call_stays b acts (AnswerTo caller message) node n found is =
      let here = acts_at (pair_of b) node acts in
      call_chosen b.first here (eqb caller.node node && awaits_after (pair_of b) here caller.number) (Return caller.number message) found n (λ same. same) is
  call_stays b acts (CameFrom from s) node n found is = call_chosen b.first (acts_at (pair_of b) node acts) (eqb from node) (Came s) found n (λ same. same) is
  call_stays b acts TickAll node n found is = call_ticked b.first (acts_at (pair_of b) node acts) (is_stopped_after (acts_at (pair_of b) node acts)) found n is
  call_stays b acts (StopOf down) node n found is = call_chosen b.first (acts_at (pair_of b) node acts) (eqb down node) Stop found n (λ same. same) is

-- ---- what holds of each

module _ {P : Type 0} (OfCall : P → List ℕ → Type 0) (OfReturn : Caller → List ℕ → Type 0) where
  -- this holds of each call by its purpose, and that of each return by its call
  abbrev pub IsSaid : WireAct P → Type 0
  IsSaid (CallTo to message purpose) = OfCall purpose message
  IsSaid (AnswerTo caller message) = OfReturn caller message
  IsSaid (CameFrom from s) = Unit {0}
  IsSaid TickAll = Unit {0}
  IsSaid (StopOf node) = Unit {0}

  abbrev pub AllSaid : WireActs P → Type 0
  AllSaid begun = Unit {0}
  AllSaid (followed_by acts act) = AllSaid acts × IsSaid act

  -- ---- calls

  -- there is a purpose where there is a call
  abbrev IsPaired : Option (List ℕ) → Option P → Type 0
  IsPaired None None = Unit {0}
  IsPaired None (Some purpose) = ⊥
  IsPaired (Some message) None = ⊥
  IsPaired (Some message) (Some purpose) = OfCall purpose message

  put : (first : ℕ) (here : Acts) (message : List ℕ) (purpose : P) (a : Bool) (n : ℕ) (o : Option P) → OfCall purpose message → IsPaired (call_at first here n) o
      → IsPaired (call_at first (with_act here (cond a (Some (Call message)) None)) n) (cond (a && eqb n (first + calls_made here)) (Some purpose) o)
  unfolding call_at
  put first here message purpose true n o so paired =
      elim (eqb n (first + calls_made here)) as (λ b. IsPaired (cond b (Some message) (call_at first here n)) (cond b (Some purpose) o)) [ true ↦ so | false ↦ paired ]
  put first here message purpose false n o so paired = paired

  chosen : (first : ℕ) (here : Acts) (b : Bool) (a : Act) (n : ℕ) (o : Option P) → (IsPaired (call_at first here n) o → IsPaired (call_at first (more here a) n) o)
      → IsPaired (call_at first here n) o → IsPaired (call_at first (with_act here (cond b (Some a) None)) n) o
  chosen first here true a n o stays paired = stays paired
  chosen first here false a n o stays paired = paired

  ticked : (first : ℕ) (here : Acts) (b : Bool) (n : ℕ) (o : Option P) → IsPaired (call_at first here n) o → IsPaired (call_at first (with_act here (cond b None (Some Tick))) n) o
  unfolding call_at
  ticked first here true n o paired = paired
  ticked first here false n o paired = paired

  all_paired : (b : Beginning) (acts : WireActs P) (node n : ℕ) → AllSaid acts → IsPaired (call_at b.first (acts_at (pair_of b) node acts) n) (purpose_of (pair_of b) node acts n)
  unfolding call_at
  all_paired b begun node n said = tt
  all_paired b (followed_by acts (CallTo to message purpose)) node n said =
      put b.first (acts_at (pair_of b) node acts) message purpose (eqb to node) n (purpose_of (pair_of b) node acts n) said.1 (all_paired b acts node n said.0)
  all_paired b (followed_by acts (AnswerTo caller message)) node n said =
      let here = acts_at (pair_of b) node acts in
      chosen b.first here (eqb caller.node node && awaits_after (pair_of b) here caller.number) (Return caller.number message) n (purpose_of (pair_of b) node acts n) (λ paired. paired)
      (all_paired b acts node n said.0)
  all_paired b (followed_by acts (CameFrom from s)) node n said =
      chosen b.first (acts_at (pair_of b) node acts) (eqb from node) (Came s) n (purpose_of (pair_of b) node acts n) (λ paired. paired) (all_paired b acts node n said.0)
  all_paired b (followed_by acts TickAll) node n said =
      ticked b.first (acts_at (pair_of b) node acts) (is_stopped_after (acts_at (pair_of b) node acts)) n (purpose_of (pair_of b) node acts n) (all_paired b acts node n said.0)
  all_paired b (followed_by acts (StopOf down)) node n said =
      chosen b.first (acts_at (pair_of b) node acts) (eqb down node) Stop n (purpose_of (pair_of b) node acts n) (λ paired. paired) (all_paired b acts node n said.0)

  -- the call of a number, and what it was made for
  pub record IsSaidCall (b : Beginning) (acts : WireActs P) (node n : ℕ) : Type 0 where
    pub message : List ℕ
    pub purpose : P
    pub message_is : call_at b.first (acts_at (pair_of b) node acts) n ≡ Some message
    pub purpose_is : purpose_of (pair_of b) node acts n ≡ Some purpose
    pub so : OfCall purpose message

  either : (b : Beginning) (acts : WireActs P) (node n : ℕ) (c : Option (List ℕ)) (o : Option P) → call_at b.first (acts_at (pair_of b) node acts) n ≡ c
      → purpose_of (pair_of b) node acts n ≡ o
      → IsPaired c o → (is_some c ≡ true) ⊎ (is_some o ≡ true) → IsSaidCall b acts node n
  either b acts node n None None at for paired some = elim some [ inl some ↦ absurd (let clash : false ≡ true = some in cc) | inr some ↦ absurd (let clash : false ≡ true = some in cc) ]
  either b acts node n None (Some purpose) at for paired some = absurd paired
  either b acts node n (Some message) None at for paired some = absurd paired
  either b acts node n (Some message) (Some purpose) at for paired some = record { message = message; purpose = purpose; message_is = at; purpose_is = for; so = paired }

  pub call_said : (b : Beginning) (acts : WireActs P) (node n : ℕ) (message : List ℕ) → AllSaid acts → call_at b.first (acts_at (pair_of b) node acts) n ≡ Some message
      → IsSaidCall b acts node n
  call_said b acts node n message said is =
      either b acts node n (call_at b.first (acts_at (pair_of b) node acts) n) (purpose_of (pair_of b) node acts n) refl refl (all_paired b acts node n said) (inl (ap is_some is))

  pub purpose_said : (b : Beginning) (acts : WireActs P) (node n : ℕ) (purpose : P) → AllSaid acts → purpose_of (pair_of b) node acts n ≡ Some purpose → IsSaidCall b acts node n
  purpose_said b acts node n purpose said is =
      either b acts node n (call_at b.first (acts_at (pair_of b) node acts) n) (purpose_of (pair_of b) node acts n) refl refl (all_paired b acts node n said) (inr (ap is_some is))

  -- ---- returns

  abbrev ReturnsSo : ℕ → ℕ → Option (List ℕ) → Type 0
  ReturnsSo node n o = IfSome o (λ message. OfReturn (record { node = node; number = n }) message)

  give : (here : Acts) (caller : Caller) (message : List ℕ) (node n : ℕ) (a : Bool) (awaited : Bool) → eqb caller.node node ≡ a → OfReturn caller message
      → ReturnsSo node n (return_at here n)
      → ReturnsSo node n (return_at (with_act here (cond (a && awaited) (Some (Return caller.number message)) None)) n)
  unfolding return_at
  give here caller message node n true true same so rest = by_number (eqb n caller.number) refl
    where
      by_number : (b : Bool) → eqb n caller.number ≡ b → ReturnsSo node n (cond b (Some message) (return_at here n))
      by_number true number =
          let at : caller.node ≡ node = eqb-true caller.node node same in
          let called : n ≡ caller.number = eqb-true n caller.number number in
          let is : Caller = record { node = node; number = n } in
          let one : caller ≡ is = λ i. record { node = at i; number = sym called i } in
          subst (λ c. OfReturn c message) one so
      by_number false number = rest
  give here caller message node n true false same so rest = rest
  give here caller message node n false awaited same so rest = rest

  rest_chosen : (here : Acts) (b : Bool) (a : Act) (node n : ℕ) → (ReturnsSo node n (return_at here n) → ReturnsSo node n (return_at (more here a) n))
      → ReturnsSo node n (return_at here n)
      → ReturnsSo node n (return_at (with_act here (cond b (Some a) None)) n)
  rest_chosen here true a node n stays rest = stays rest
  rest_chosen here false a node n stays rest = rest

  rest_ticked : (here : Acts) (b : Bool) (node n : ℕ) → ReturnsSo node n (return_at here n) → ReturnsSo node n (return_at (with_act here (cond b None (Some Tick))) n)
  unfolding return_at
  rest_ticked here true node n rest = rest
  rest_ticked here false node n rest = rest

  all_return : (b : Beginning) (acts : WireActs P) (node n : ℕ) → AllSaid acts → ReturnsSo node n (return_at (acts_at (pair_of b) node acts) n)
  unfolding return_at
  all_return b begun node n said = tt
  all_return b (followed_by acts (CallTo to message purpose)) node n said =
      rest_chosen (acts_at (pair_of b) node acts) (eqb to node) (Call message) node n (λ rest. rest) (all_return b acts node n said.0)
  all_return b (followed_by acts (AnswerTo caller message)) node n said =
      let here = acts_at (pair_of b) node acts in
      give here caller message node n (eqb caller.node node) (awaits_after (pair_of b) here caller.number) refl said.1 (all_return b acts node n said.0)
  all_return b (followed_by acts (CameFrom from s)) node n said =
      rest_chosen (acts_at (pair_of b) node acts) (eqb from node) (Came s) node n (λ rest. rest) (all_return b acts node n said.0)
  all_return b (followed_by acts TickAll) node n said =
      rest_ticked (acts_at (pair_of b) node acts) (is_stopped_after (acts_at (pair_of b) node acts)) node n (all_return b acts node n said.0)
  all_return b (followed_by acts (StopOf down)) node n said =
      rest_chosen (acts_at (pair_of b) node acts) (eqb down node) Stop node n (λ rest. rest) (all_return b acts node n said.0)

  -- the return to a call of a number
  pub return_said : (b : Beginning) (acts : WireActs P) (node n : ℕ) (message : List ℕ) → AllSaid acts → return_at (acts_at (pair_of b) node acts) n ≡ Some message
      → OfReturn (record { node = node; number = n }) message
  return_said b acts node n message said is = subst (ReturnsSo node n) is (all_return b acts node n said)

-- ---- what holds of more

module _ {P : Type 0} (OfCall MoreCall : P → List ℕ → Type 0) (OfReturn MoreReturn : Caller → List ℕ → Type 0)
    (call : (purpose : P) (message : List ℕ) → OfCall purpose message → MoreCall purpose message)
    (give_back : (caller : Caller) (message : List ℕ) → OfReturn caller message → MoreReturn caller message) where
  said_weaker : (act : WireAct P) → IsSaid OfCall OfReturn act → IsSaid MoreCall MoreReturn act
  said_weaker (CallTo to message purpose) so = call purpose message so
  said_weaker (AnswerTo caller message) so = give_back caller message so
  said_weaker (CameFrom from s) so = tt
  said_weaker TickAll so = tt
  said_weaker (StopOf node) so = tt

  pub all_said_weaker : (acts : WireActs P) → AllSaid OfCall OfReturn acts → AllSaid MoreCall MoreReturn acts
  all_said_weaker begun said = tt
  all_said_weaker (followed_by acts act) said = (all_said_weaker acts said.0, said_weaker act said.1)
