-- The choices that are offered, in the order of their lists.
use Rattle.std.specs.Prelude.{◌≡◌, ℕ, ◌≤◌, Bool, true, false, ◌&&◌, if◌then◌else◌, nat_lt, List, [], ◌∷◌, ◌++◌, Option, Some, None, length, count_by}
use Rattle.std.proofs.Common.{zero, suc}
use Rattle.circus_value.specs.Among.{is_among}
use Rattle.circus_place.specs.Obeys.{most_machines}
use Rattle.circus_place.specs.declared.choice.Placement.{Placement}
use Rattle.circus_place.specs.declared.test.Test.{Test}
use Rattle.circus_place.specs.declared.search.Search.{Search}
use Rattle.circus_place.specs.Seen.Table.{flag_at}
use Rattle.circus_place.specs.Seen.Test.{passes, IsTestOf}

-- how many of the machines have a flag
abbrev pub flag_count : List Bool → List ℕ → ℕ
flag_count present choice = count_by (flag_at present) choice

-- more are kept than by the best so far
abbrev pub improves : ℕ → Option Placement → Bool
improves kept None = true
improves kept (Some best) = nat_lt best.kept kept

-- the better of the best so far and a further choice
abbrev pub better_of : Test → List Bool → List ℕ → Option Placement → Option Placement
better_of test present choice best =
    if passes test choice && improves (flag_count present choice) best
    then Some (record { members = choice; kept = flag_count present choice })
    else best

-- what becomes of the best when each of the numbers below this one has its turn, the least first
abbrev pub in_turn : (ℕ → Option Placement → Option Placement) → ℕ → Option Placement → Option Placement
in_turn turn zero best = best
in_turn turn (suc n) best = turn n (in_turn turn n best)

-- none of them is there twice
abbrev pub AreApart : List ℕ → Type 0
AreApart [] = Unit {0}
AreApart (m ∷ ms) = (is_among ms m ≡ false) × AreApart ms

-- the best after all choices that begin with these machines, with so many members more
unfoldable pub best_from : Test → List Bool → ℕ → ℕ → List ℕ → Option Placement → Option Placement
best_from test present machines zero ms best = better_of test present ms best
best_from test present machines (suc left) ms best =
    in_turn (λ m b. if is_among ms m then b else best_from test present machines left (ms ++ m ∷ []) b) machines best

-- the search asks a test of its members, and no choice keeps more than its most
pub record IsReady (s : Search) : Type 0 where
  pub test : IsTestOf s.size s.test.now
  pub few_members : s.size ≤ 5
  pub few_machines : length s.present.now ≤ most_machines
  pub most : (choice : List ℕ) → AreApart choice → flag_count s.present.now choice ≤ s.most
