-- What is read at a token, accepted or refused.
use Rattle.std.proofs.Common.{◌≡◌, ℕ, ◌<◌, ◌≤◌, ◌⊎◌, inl, inr, List, [], ◌∷◌, ◌++◌, length, drop, refl, sym, ◌∙◌, ap, subst, arith, length-append, Option, Some, None}
use Rattle.std.specs.List.{AllByRecursion}
use Rattle.std.specs.Prelude.{Contains, All}
use Rattle.std.proofs.lemmas.List.{length-map, length-drop}
use Rattle.std.proofs.lemmas.List.Elements.{Contains-append_cases}
use Rattle.circus_text.specs.declared.token.Token.{Token}
use Rattle.circus_text.specs.Token.{IsTokenIn}
use Rattle.circus_syntax.specs.declared.interface_reading.Read.{Read}
use Rattle.circus_syntax.specs.declared.stopping.Stop.{Stop}
use Rattle.circus_syntax.specs.declared.stopping.StopCause.{StopCause}
use Rattle.circus_syntax.specs.declared.stopping.StopCause.TheVariants.{Unexpected, TooDeep}
use Rattle.circus_syntax.specs.InterfaceTree.{InterfaceTree, interface_of}
use Rattle.circus_syntax.specs.Placed.{Placed, placed_of, AreTokens}
use Rattle.circus_syntax.specs.Read.{placed_from, Answers}
use Rattle.circus_syntax.specs.Reader.{open_at, place_in}
use Rattle.circus_syntax.specs.Reading.{interface}
use Rattle.circus_syntax.specs.Spelling.{IsInterface, IsWithin, most_levels}
use Rattle.circus_syntax.specs.Stopping.{IsUnexpected, IsTooDeep}
use Rattle.circus_syntax.proofs.Interfaces.{sound_interface}
use Rattle.circus_syntax.proofs.Sound.{ran_is}
use Rattle.circus_syntax.proofs.Viewed.{text_tokens}
use Rattle.circus_syntax.proofs.Whole.{interface_whole, interface_filled_in, interface_unexpected, interface_too_deep}
use Rattle.circus_fault.specs.declared.fault.Fault.{Fault}
use Rattle.circus_fault.specs.Least.{least_from}
use Rattle.circus_fault.proofs.Items.{none_in, of_each}
use Rattle.circus_fault.proofs.LeastIs.{least_is}
use Rattle.circus_fault.proofs.Stopping.{no_stop}
use Rattle.circus_fault.specs.Stopping.{cause_of, stop_faults}
use Rattle.circus_idl.specs.declared.fault.Cause.{Cause}
use Rattle.circus_idl.specs.declared.fault.Cause.TheVariants as cause
use Rattle.circus_idl.specs.declared.idl_fault.IdlFault.{IdlFault}
use Rattle.circus_idl.specs.declared.idl_fault.IdlFault.TheVariants.{Expected, Deep, NoMemory}
use Rattle.circus_idl.specs.declared.interface.Interface.{Interface}
use Rattle.circus_idl.specs.Rank.{rank_of}
use Rattle.circus_idl.specs.Answer.{answer_at, answer_of}
use Rattle.circus_idl.specs.Faults.{cut_of, interface_faults, read_faults}
use Rattle.circus_idl.specs.Means.{Means}
use Rattle.circus_idl.specs.ReadAt.{IsReadAt, IsStopOf, IsStoppedIn, IsTreeOf, IsRefused}
use Rattle.circus_idl.proofs.OneAnswer.{not_refused}
use Rattle.circus_idl.proofs.RuleFaults.{IsOfRule, interface_rule}

-- What is accepted.

pub is_read : (text : List ℕ) (ts : List Token) (at : ℕ) (read : Read) (i : Interface) → All (IsTokenIn text) ts → at ≤ length ts → Answers text ts at read
    → read_faults read.stop (interface_of read.interface) ≡ [] → Means (interface_of read.interface) i → IsReadAt text ts at i read.next
is_read text ts at read i tokens inside answers none means =
    let tree = interface_of read.interface in
    let (going, rules) = none_in (stop_faults cause.Expected cause.Deep read.stop) (interface_faults (cut_of read.stop) tree) none in
    let went_on = no_stop cause.Expected cause.Deep read.stop going in
    let all = placed_from text ts at in
    let whole : interface most_levels (open_at all (length text)) ≡ (tree, open_at answers.left (length text)) =
    answers.is ∙ ap (λ s. (tree, record { rest = answers.left; end = length text; stop = s })) went_on in
    let (own, parts, spelled, within) = interface_whole all answers.left tree (length text) (text_tokens text ts at tokens) whole in
    record {
      own = own;
      rest = answers.left;
      tree = tree;
      whole = parts;
      spelled = spelled;
      within = within;
      faultless = subst (λ s. interface_faults (cut_of s) tree ≡ []) went_on rules;
      means = means;
      next_is = omega (arith, answers.next, ap length parts, length-append own answers.left, length-map (drop at ts) (placed_of text), length-drop at ts);
    }

-- an interface without a fault is not refused
pub none_refused : (text : List ℕ) (ts : List Token) (at : ℕ) (answer : IdlFault) (own rest : List Placed) (tree : InterfaceTree) → placed_from text ts at ≡ own ++ rest → IsInterface own tree → IsWithin most_levels tree
    → interface_faults (cut_of None) tree ≡ [] → (answer ≡ NoMemory) ⊎ IsRefused text ts at answer → answer ≡ NoMemory
none_refused text ts at answer own rest tree whole spelled within none (inl no_memory) = no_memory
none_refused text ts at answer own rest tree whole spelled within none (inr refused) = absurd (not_refused text ts at answer tree (own, rest, whole, spelled, within) none refused)

-- What is refused.

is_stopped : (ts left : List Placed) (tree : InterfaceTree) (s : Stop) (end : ℕ) → AreTokens ts → interface most_levels (open_at ts end) ≡ (tree, record { rest = left; end = end; stop = Some s })
    → (c : StopCause) → s.cause ≡ c → IsStopOf c ts left × (s.place ≡ place_in left end)
is_stopped ts left tree s end tokens is Unexpected flat = interface_unexpected ts left tree s end tokens is flat
is_stopped ts left tree s end tokens is TooDeep deep = interface_too_deep ts left tree s end tokens is deep

is_tree_of : (ts left : List Placed) (tree : InterfaceTree) (stop : Option Stop) (end : ℕ) → AreTokens ts → interface most_levels (open_at ts end) ≡ (tree, record { rest = left; end = end; stop = stop })
    → IsTreeOf ts end stop tree
is_tree_of ts left tree None end tokens is = let (own, parts, spelled, within) = interface_whole ts left tree end tokens is in (own, left, parts, spelled, within)
is_tree_of ts left tree (Some s) end tokens is =
    let (cause, place) = is_stopped ts left tree s end tokens is s.cause refl in
    record { left = left; cause = cause; place = place; filled = interface_filled_in ts left tree s end tokens is }

-- tokens come to some tree
pub some_reading : (ts : List Placed) (end : ℕ) → AreTokens ts → (stop : Option Stop) × (tree : InterfaceTree) × IsTreeOf ts end stop tree
some_reading ts end tokens = let R = (sound_interface most_levels).runs ts end in (R.stop, R.tree, is_tree_of ts R.left R.tree R.stop end tokens (ran_is R))

pub is_refused : (text : List ℕ) (ts : List Token) (at : ℕ) (read : Read) (answer : IdlFault) → All (IsTokenIn text) ts → Answers text ts at read
    → (answer ≡ NoMemory) ⊎ ((f : Fault Cause) × (least_from rank_of None (read_faults read.stop (interface_of read.interface)) ≡ Some f) × (answer ≡ answer_of f))
    → (answer ≡ NoMemory) ⊎ IsRefused text ts at answer
is_refused text ts at read answer tokens answers (inl no_memory) = inl no_memory
is_refused text ts at read answer tokens answers (inr (f, least, given)) =
    inr (record {
      stop = read.stop;
      tree = interface_of read.interface;
      tree_of = is_tree_of (placed_from text ts at) answers.left (interface_of read.interface) read.stop (length text) (text_tokens text ts at tokens) answers.is;
      fault = f;
      least = least_is rank_of (read_faults read.stop (interface_of read.interface)) f least;
      given = given;
    })

at_expected : (p : ℕ) (c : Cause) (place : ℕ) → answer_at p c ≡ Expected place → (c ≡ cause.Expected) × (p ≡ place)
at_expected p cause.Expected place is = (refl, cc)
at_expected p cause.Deep place is = absurd (cc)
at_expected p cause.Unknown place is = absurd (cc)
at_expected p cause.Repeated place is = absurd (cc)
at_expected p cause.OutOfRange place is = absurd (cc)
at_expected p cause.TooLarge place is = absurd (cc)

at_deep : (p : ℕ) (c : Cause) (place : ℕ) → answer_at p c ≡ Deep place → (c ≡ cause.Deep) × (p ≡ place)
at_deep p cause.Deep place is = (refl, cc)
at_deep p cause.Expected place is = absurd (cc)
at_deep p cause.Unknown place is = absurd (cc)
at_deep p cause.Repeated place is = absurd (cc)
at_deep p cause.OutOfRange place is = absurd (cc)
at_deep p cause.TooLarge place is = absurd (cc)

-- a fault of where reading stopped
record IsStop (stop : Option Stop) (f : Fault Cause) : Type 0 where
  at : Stop
  stop_is : stop ≡ Some at
  place_is : f.place ≡ at.place
  cause_is : f.cause ≡ cause_of cause.Expected cause.Deep at.cause

stop_of : (stop : Option Stop) (f : Fault Cause) → Contains (stop_faults cause.Expected cause.Deep stop) f → IsStop stop f
stop_of None f there = absurd (of_each (λ _. ⊥) [] f tt there)
stop_of (Some s) f there =
    let only : Fault Cause = record { place = s.place; cause = cause_of cause.Expected cause.Deep s.cause } in
    let same : AllByRecursion (λ g. only ≡ g) (only ∷ []) = (refl, tt) in
    let is : f ≡ only =
    sym (of_each (λ g. only ≡ g) (only ∷ []) f same there) in
    record { at = s; stop_is = refl; place_is = ap (λ (g : Fault Cause). g.place) is; cause_is = ap (λ (g : Fault Cause). g.cause) is }

-- no rule's fault is one of reading
of_stop : (stop : Option Stop) (tree : InterfaceTree) (f : Fault Cause) → rank_of f.cause ≤ 1 → Contains (read_faults stop tree) f → IsStop stop f
of_stop stop tree f reading there =
    elim (Contains-append_cases (stop_faults cause.Expected cause.Deep stop) (interface_faults (cut_of stop) tree) f there) [
      | inl stopped ↦ stop_of stop f stopped
      | inr rules ↦ absurd (let of_rule : 1 < rank_of f.cause = of_each IsOfRule _ f (interface_rule (cut_of stop) tree) rules in omega arith)
    ]

-- reading stopped for this cause, in front of what is left
stopped_for : (ts : List Placed) (end : ℕ) (stop : Option Stop) (tree : InterfaceTree) (f : Fault Cause) (c : StopCause) → IsTreeOf ts end stop tree → (is : IsStop stop f)
    → (cause_of cause.Expected cause.Deep is.at.cause ≡ cause_of cause.Expected cause.Deep c → is.at.cause ≡ c) → f.cause ≡ cause_of cause.Expected cause.Deep c
    → (left : List Placed) × IsStopOf c ts left × (f.place ≡ place_in left end)
stopped_for ts end stop tree f c tree_of is one because =
    let stopped : IsStoppedIn ts end is.at tree = subst (λ o. IsTreeOf ts end o tree) is.stop_is tree_of in
    (stopped.left, subst (λ d. IsStopOf d ts stopped.left) (one (sym is.cause_is ∙ because)) stopped.cause, is.place_is ∙ stopped.place)

flat : (c : StopCause) → cause_of cause.Expected cause.Deep c ≡ cause.Expected → c ≡ Unexpected
flat Unexpected is = refl
flat TooDeep is = absurd (cc)

deep : (c : StopCause) → cause_of cause.Expected cause.Deep c ≡ cause.Deep → c ≡ TooDeep
deep TooDeep is = refl
deep Unexpected is = absurd (cc)

pub is_unexpected : (text : List ℕ) (ts : List Token) (at : ℕ) (answer : IdlFault) (place : ℕ) → (answer ≡ NoMemory) ⊎ IsRefused text ts at answer → answer ≡ Expected place
    → (left : List Placed) × IsUnexpected (placed_from text ts at) left × (place ≡ place_in left (length text))
is_unexpected text ts at answer place (inl no_memory) is = absurd (cc)
is_unexpected text ts at answer place (inr refused) is =
    let f = refused.fault in
    let (because, where_is) = at_expected f.place f.cause place (sym refused.given ∙ is) in
    let s = of_stop refused.stop refused.tree f (omega (arith, ap rank_of because)) refused.least.found in
    let (left, unexpected, stands) = stopped_for (placed_from text ts at) (length text) refused.stop refused.tree f Unexpected refused.tree_of s (flat s.at.cause) because in
    (left, unexpected, sym where_is ∙ stands)

pub is_too_deep : (text : List ℕ) (ts : List Token) (at : ℕ) (answer : IdlFault) (place : ℕ) → (answer ≡ NoMemory) ⊎ IsRefused text ts at answer → answer ≡ Deep place
    → (left : List Placed) × IsTooDeep (placed_from text ts at) left × (place ≡ place_in left (length text))
is_too_deep text ts at answer place (inl no_memory) is = absurd (cc)
is_too_deep text ts at answer place (inr refused) is =
    let f = refused.fault in
    let (because, where_is) = at_deep f.place f.cause place (sym refused.given ∙ is) in
    let s = of_stop refused.stop refused.tree f (omega (arith, ap rank_of because)) refused.least.found in
    let (left, too_deep, stands) = stopped_for (placed_from text ts at) (length text) refused.stop refused.tree f TooDeep refused.tree_of s (deep s.at.cause) because in
    (left, too_deep, sym where_is ∙ stands)
