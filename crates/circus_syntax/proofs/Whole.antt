-- What reading an interface says of the tokens.
use Rattle.std.proofs.Common.{◌≡◌, ℕ, ◌+◌, ◌<◌, ◌≤◌, List, [], ◌∷◌, ◌++◌, length, refl, sym, ◌∙◌, ap, subst, arith, append_assoc, append-nil, length-append}
use Rattle.std.specs.Prelude.{Option, Some, None}
use Rattle.std.proofs.lemmas.List.{append_cancel_right}
use Rattle.circus_syntax.specs.declared.stopping.Stop.{Stop}
use Rattle.circus_syntax.specs.declared.stopping.StopCause.TheVariants.{Unexpected, TooDeep}
use Rattle.circus_syntax.specs.InterfaceTree.{DeclaredTree, InterfaceTree}
use Rattle.circus_syntax.specs.Placed.{Placed, first, AreTokens, AreDue}
use Rattle.circus_syntax.specs.Reader.{Reader, place_in}
use Rattle.circus_syntax.specs.Reading.{interface}
use Rattle.circus_syntax.specs.Spelling.{spelling, IsEach, declared_levels, IsWithin, most_levels, IsInterface, Begins, BeginsWithin}
use Rattle.circus_syntax.specs.Stopping.{NoneIsWhole, IsUnexpected, IsTooDeep, IsFilledIn}
use Rattle.circus_syntax.proofs.Sound.{Ran, reader, ran_is, EndsAt}
use Rattle.circus_syntax.proofs.Interfaces.{IsInterfaceWithin, sound_interface, complete_interface}
use Rattle.circus_syntax.proofs.CutInterfaces.{cut_interface}
use Rattle.circus_syntax.proofs.FillInterfaces.{interface_filled}
use Rattle.circus_syntax.proofs.Widens.{Wider, WiderBy}
use Rattle.circus_syntax.proofs.InterfaceLevels.{widens_interface}

more_levels : (n m : ℕ) → n ≤ m → (ds : List DeclaredTree) → IsEach (λ d. declared_levels d ≤ n) ds → IsEach (λ d. declared_levels d ≤ m) ds
more_levels n m le [] g = tt
more_levels n m le (d ∷ ds) g = (omega (arith, g.0), more_levels n m le ds g.1)

some_levels : (ds : List DeclaredTree) → (n : ℕ) × IsEach (λ d. declared_levels d ≤ n) ds
some_levels [] = (0, tt)
some_levels (d ∷ ds) =
    let (n, g) = some_levels ds in
    (n + declared_levels d, (omega arith, more_levels n (n + declared_levels d) (omega arith) ds g))

-- a number of levels above the most that is enough for the tree
enough_for : (tree : InterfaceTree) → (n : ℕ) × (most_levels < n) × IsWithin n tree
enough_for tree =
    let (n, g) = some_levels tree.declared in
    (n + most_levels + 1, omega arith, more_levels n (n + most_levels + 1) (omega arith) tree.declared g)

reads_own : (n : ℕ) (own rest : List Placed) (tree : InterfaceTree) (e : ℕ) → IsInterface own tree → IsWithin n tree → interface n (reader None (own ++ rest) e) ≡ (tree, reader None rest e)
reads_own n own rest tree e is within = (complete_interface n).reads tree own rest e (is.grammatical, within) is.spelled tt

pub interface_read : (own rest : List Placed) (tree : InterfaceTree) (e : ℕ) → IsInterface own tree → IsWithin most_levels tree
    → interface most_levels (reader None (own ++ rest) e) ≡ (tree, reader None rest e)
interface_read own rest tree e is within = reads_own most_levels own rest tree e is within

-- what was read, by its parts
ran_parts : (ts left : List Placed) (tree : InterfaceTree) (stop : Option Stop) (e : ℕ) (R : Ran (interface most_levels) spelling (IsInterfaceWithin most_levels) ts e)
    → interface most_levels (reader None ts e) ≡ (tree, reader stop left e) → (R.tree ≡ tree) × (R.left ≡ left) × (R.stop ≡ stop)
ran_parts ts left tree stop e R is =
    let same : (R.tree, reader R.stop R.left e) ≡ (tree, reader stop left e) = sym (ran_is R) ∙ is in
    (ap (λ (x : InterfaceTree × Reader). x.0) same, ap (λ (x : InterfaceTree × Reader). x.1.rest) same, ap (λ (x : InterfaceTree × Reader). x.1.stop) same)

pub interface_whole : (ts rest : List Placed) (tree : InterfaceTree) (e : ℕ) → AreTokens ts → interface most_levels (reader None ts e) ≡ (tree, reader None rest e)
    → (own : List Placed) × (ts ≡ own ++ rest) × IsInterface own tree × IsWithin most_levels tree
interface_whole ts rest tree e tokens is =
    let R = (sound_interface most_levels).runs ts e in
    let (tree_is, left_is, stop_is) = ran_parts ts rest tree None e R is in
    let nothing_due : R.more ≡ [] = subst (λ (s : Option Stop). EndsAt s R.left e R.more) stop_is R.ended in
    let good : IsInterfaceWithin most_levels tree = subst (IsInterfaceWithin most_levels) tree_is (R.good tokens) in
    let due : AreDue (spelling R.tree) R.taken = subst (AreDue (spelling R.tree)) (ap (λ m. R.taken ++ m) nothing_due ∙ append-nil R.taken) (R.due tokens) in (
      R.taken,
      R.whole ∙ ap (λ l. R.taken ++ l) left_is,
      record { grammatical = good.0; spelled = subst (λ (t : InterfaceTree). AreDue (spelling t) R.taken) tree_is due },
      good.1,
    )

pub interface_one : (own more : List Placed) (tree other : InterfaceTree) → IsInterface own tree → IsInterface (own ++ more) other → (more ≡ []) × (tree ≡ other)
interface_one own more tree other first_is second_is =
    let (n, above, within) = enough_for tree in
    let (m, higher, inside) = enough_for other in
    let front = reads_own (n + m) own more tree 0 first_is (more_levels n (n + m) (omega arith) tree.declared within) in
    let both_read = reads_own (n + m) (own ++ more) [] other 0 second_is (more_levels m (n + m) (omega arith) other.declared inside) in
    let same : (tree, reader None more 0) ≡ (other, reader None [] 0) =
    sym front ∙ ap (λ l. interface (n + m) (reader None l 0)) (sym (append-nil (own ++ more))) ∙ both_read in
    (ap (λ (x : InterfaceTree × Reader). x.1.rest) same, ap (λ (x : InterfaceTree × Reader). x.0) same)

-- what was read begins an interface of no more levels
begun_of : (ts : List Placed) (e : ℕ) (n : ℕ) (R : Ran (interface n) spelling (IsInterfaceWithin n) ts e) → AreTokens ts → IsInterface (R.taken ++ R.more) R.tree × IsWithin n R.tree
begun_of ts e n R tokens = let good = R.good tokens in (record { grammatical = good.0; spelled = R.due tokens }, good.1)

-- where reading stopped, and where what was filled in stands
ended_at : (ts : List Placed) (e : ℕ) (R : Ran (interface most_levels) spelling (IsInterfaceWithin most_levels) ts e) (s : Stop) → R.stop ≡ Some s → EndsAt (Some s) R.left e R.more
ended_at ts e R s stop_is = subst (λ (o : Option Stop). EndsAt o R.left e R.more) stop_is R.ended

pub interface_filled_in : (ts left : List Placed) (tree : InterfaceTree) (s : Stop) (e : ℕ) → AreTokens ts
    → interface most_levels (reader None ts e) ≡ (tree, reader (Some s) left e) → IsFilledIn ts left s tree
interface_filled_in ts left tree s e tokens is =
    let R = (sound_interface most_levels).runs ts e in
    let (tree_is, left_is, stop_is) = ran_parts ts left tree (Some s) e R is in
    let (begun, within) = begun_of ts e most_levels R tokens in
    record {
      read = R.taken;
      more = R.more;
      whole = R.whole ∙ ap (λ l. R.taken ++ l) left_is;
      interface = subst (IsInterface (R.taken ++ R.more)) tree_is begun;
      within = subst (IsWithin most_levels) tree_is within;
      there = (ended_at ts e R s stop_is).1;
      filled = interface_filled most_levels ts R.taken left tree s e is (R.whole ∙ ap (λ l. R.taken ++ l) left_is);
      cut = cut_interface most_levels ts R.taken left tree s e is (R.whole ∙ ap (λ l. R.taken ++ l) left_is);
    }

no_stop : (x y : InterfaceTree × Reader) (s : Stop) → x.1.stop ≡ None → y.1.stop ≡ Some s → x ≡ y → ⊥
no_stop x y s going stopped same = let stops : None ≡ Some s = sym going ∙ ap (λ (z : InterfaceTree × Reader). z.1.stop) same ∙ stopped in cc

-- an unexpected token is unexpected however many levels there may be
stays_unexpected : (us left : List Placed) (tree : InterfaceTree) (s : Stop) (e n : ℕ) → most_levels < n → s.cause ≡ Unexpected
    → interface most_levels (reader None us e) ≡ (tree, reader (Some s) left e) → interface n (reader None us e) ≡ (tree, reader (Some s) left e)
stays_unexpected us left tree s e n above flat is =
    let w : Wider (Some s) (tree, reader (Some s) left e) (interface n (reader None us e)) =
    subst (λ (x : InterfaceTree × Reader). Wider x.1.stop x (interface n (reader None us e))) is ((widens_interface most_levels n above).wider us e) in
    subst (λ b. WiderBy b (tree, reader (Some s) left e) (interface n (reader None us e))) flat w

pub interface_unexpected : (ts left : List Placed) (tree : InterfaceTree) (s : Stop) (e : ℕ) → AreTokens ts
    → interface most_levels (reader None ts e) ≡ (tree, reader (Some s) left e) → s.cause ≡ Unexpected → IsUnexpected ts left × (s.place ≡ place_in left e)
interface_unexpected ts left tree s e tokens is flat = (
  record {
    read = R.taken;
    whole = R.whole ∙ ap (λ l. R.taken ++ l) left_is;
    begun = let (begun, within) = begun_of ts e most_levels R tokens in (R.tree, R.more, begun, within);
    none_whole = none_whole;
    none_on = none_on;
  },
  subst (λ (l : List Placed). s.place ≡ place_in l e) left_is (ended_at ts e R s stop_is).0,
)
  where
    R : Ran (interface most_levels) spelling (IsInterfaceWithin most_levels) ts e
    R = (sound_interface most_levels).runs ts e

    left_is : R.left ≡ left
    left_is = (ran_parts ts left tree (Some s) e R is).1

    stop_is : R.stop ≡ Some s
    stop_is = (ran_parts ts left tree (Some s) e R is).2

    -- the same stop before the same token
    stopped : (rest : List Placed) → first rest ≡ first left → interface most_levels (reader None (R.taken ++ rest) e) ≡ (R.tree, reader (Some s) rest e)
    stopped rest same = R.same rest (same ∙ ap first (sym left_is)) ∙ ap (λ (o : Option Stop). (R.tree, reader o rest e)) stop_is

    none_whole : NoneIsWhole R.taken
    none_whole own more other parts other_is =
        let (n, above, within) = enough_for other in
        let here = stays_unexpected (R.taken ++ left) left R.tree s e n above flat (stopped left refl) in
        let there = reads_own n own (more ++ left) other e other_is within in
        no_stop (other, reader None (more ++ left) e) (R.tree, reader (Some s) left e) s refl refl
        (sym there ∙ ap (λ l. interface n (reader None l e)) (sym (append_assoc own more left) ∙ ap (λ l. l ++ left) (sym parts)) ∙ here)

    none_on : (t : Placed) (rest : List Placed) → left ≡ t ∷ rest → Begins (R.taken ++ t ∷ []) → ⊥
    none_on t rest next (other, more, other_is) =
        let (n, above, within) = enough_for other in
        let here = stays_unexpected (R.taken ++ t ∷ more) (t ∷ more) R.tree s e n above flat (stopped (t ∷ more) (ap first (sym next))) in
        let there = reads_own n ((R.taken ++ t ∷ []) ++ more) [] other e other_is within in
        no_stop (other, reader None [] e) (R.tree, reader (Some s) (t ∷ more) e) s refl refl
        (sym there ∙ ap (λ l. interface n (reader None l e)) (append-nil ((R.taken ++ t ∷ []) ++ more) ∙ append_assoc R.taken (t ∷ []) more) ∙ here)

-- with more levels the token that was too deep is read
reads_further : (us left : List Placed) (tree : InterfaceTree) (s : Stop) (e n : ℕ) → most_levels < n → s.cause ≡ TooDeep
    → interface most_levels (reader None us e) ≡ (tree, reader (Some s) left e)
    → (t : Placed) × (c : List Placed) × (left ≡ t ∷ (c ++ (interface n (reader None us e)).1.rest))
reads_further us left tree s e n above deep is =
    let w : Wider (Some s) (tree, reader (Some s) left e) (interface n (reader None us e)) =
    subst (λ (x : InterfaceTree × Reader). Wider x.1.stop x (interface n (reader None us e))) is ((widens_interface most_levels n above).wider us e) in
    subst (λ b. WiderBy b (tree, reader (Some s) left e) (interface n (reader None us e))) deep w

pub interface_too_deep : (ts left : List Placed) (tree : InterfaceTree) (s : Stop) (e : ℕ) → AreTokens ts
    → interface most_levels (reader None ts e) ≡ (tree, reader (Some s) left e) → s.cause ≡ TooDeep → IsTooDeep ts left × (s.place ≡ place_in left e)
interface_too_deep ts left tree s e tokens is deep = (
  record {
    read = R.taken;
    next = further.0;
    rest = further.1 ++ (interface 65 (reader None ts e)).1.rest;
    whole = R.whole ∙ ap (λ l. R.taken ++ l) left_is;
    next_is = further.2;
    begun = let (begun, within) = begun_of ts e most_levels R tokens in (R.tree, R.more, begun, within);
    none_whole = none_whole;
    goes_on = goes_on;
    none_within = none_within;
  },
  subst (λ (l : List Placed). s.place ≡ place_in l e) left_is (ended_at ts e R s stop_is).0,
)
  where
    R : Ran (interface most_levels) spelling (IsInterfaceWithin most_levels) ts e
    R = (sound_interface most_levels).runs ts e

    left_is : R.left ≡ left
    left_is = (ran_parts ts left tree (Some s) e R is).1

    stop_is : R.stop ≡ Some s
    stop_is = (ran_parts ts left tree (Some s) e R is).2

    further : (t : Placed) × (c : List Placed) × (left ≡ t ∷ (c ++ (interface 65 (reader None ts e)).1.rest))
    further = reads_further ts left tree s e 65 (omega arith) deep is

    stopped : (rest : List Placed) → first rest ≡ first left → interface most_levels (reader None (R.taken ++ rest) e) ≡ (R.tree, reader (Some s) rest e)
    stopped rest same = R.same rest (same ∙ ap first (sym left_is)) ∙ ap (λ (o : Option Stop). (R.tree, reader o rest e)) stop_is

    none_whole : NoneIsWhole R.taken
    none_whole own more other parts other_is =
        let (n, above, within) = enough_for other in
        let (t, c, longer) = reads_further (R.taken ++ left) left R.tree s e n above deep (stopped left refl) in
        let whole_is : own ++ (more ++ left) ≡ R.taken ++ left = sym (append_assoc own more left) ∙ ap (λ l. l ++ left) (sym parts) in
        let there = ap (λ l. interface n (reader None l e)) (sym whole_is) ∙ reads_own n own (more ++ left) other e other_is within in
        let rest_is : (interface n (reader None (R.taken ++ left) e)).1.rest ≡ more ++ left = ap (λ (x : InterfaceTree × Reader). x.1.rest) there in
        let lengths = ap length (longer ∙ ap (λ l. t ∷ (c ++ l)) rest_is) in
        omega (arith, lengths, length-append c (more ++ left), length-append more left)

    goes_on : Begins (R.taken ++ further.0 ∷ [])
    goes_on =
        let Q = (sound_interface 65).runs ts e in
        let (t, c, longer) = further in
        let rest_is : (interface 65 (reader None ts e)).1.rest ≡ Q.left = ap (λ (x : InterfaceTree × Reader). x.1.rest) (ran_is Q) in
        let front : Q.taken ≡ R.taken ++ t ∷ c =
        append_cancel_right Q.taken (R.taken ++ t ∷ c) Q.left
        (sym Q.whole ∙ R.whole ∙ ap (λ l. R.taken ++ l) (left_is ∙ longer ∙ ap (λ l. t ∷ (c ++ l)) rest_is) ∙ sym (append_assoc R.taken (t ∷ c) Q.left)) in
        let (begun, within) = begun_of ts e 65 Q tokens in (
          Q.tree,
          c ++ Q.more,
          subst (λ (l : List Placed). IsInterface l Q.tree)
              (ap (λ l. l ++ Q.more) front ∙ append_assoc R.taken (t ∷ c) Q.more ∙ sym (append_assoc R.taken (t ∷ []) (c ++ Q.more)))
              begun,
        )

    none_within : BeginsWithin (R.taken ++ further.0 ∷ []) → ⊥
    none_within (other, more, other_is, within) =
        let t = further.0 in
        let here = stopped (t ∷ more) (ap first (sym further.2)) in
        let there = reads_own most_levels ((R.taken ++ t ∷ []) ++ more) [] other e other_is within in
        no_stop (other, reader None [] e) (R.tree, reader (Some s) (t ∷ more) e) s refl refl
        (sym there ∙ ap (λ l. interface most_levels (reader None l e)) (append-nil ((R.taken ++ t ∷ []) ++ more) ∙ append_assoc R.taken (t ∷ []) more) ∙ here)
