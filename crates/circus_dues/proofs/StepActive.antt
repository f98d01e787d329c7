-- A member that is active stays so.
use Rattle.std.proofs.Common.{◌≡◌, ℕ, Bool, true, false, true≢false, ◌&&◌, if◌then◌else◌, refl, sym}
use Rattle.circus_transfer.specs.declared.joiner.Joiner.{Joiner}
use Rattle.circus_transfer.specs.declared.joiner.Joiner.TheVariants.{Outside, Asking, Fetching, Active}
use Rattle.circus_performing.specs.Performing.{is_active, is_fetching}
use Rattle.circus_member_rules.specs.declared.occurrence.Occurrence.{Occurrence}
use Rattle.circus_member_rules.specs.declared.occurrence.Occurrence.TheVariants as comes
use Rattle.circus_member_rules.specs.Step.{is_join}
use Rattle.circus_member_theory.specs.Past.{Past, followed, phase, is_outside, is_asking, taken_in}

-- it doesn't ask to join, nor is it taken in
told_join : (j : Joiner) → is_active j ≡ true → is_active (if is_outside j then Asking else j) ≡ true
told_join Outside is = absurd (true≢false (sym is))
told_join Asking is = absurd (true≢false (sym is))
told_join (Fetching incarnation) is = absurd (true≢false (sym is))
told_join (Active count) is = refl

tabled : (j other : Joiner) (b : Bool) → is_active j ≡ true → is_active (if b && is_asking j then other else j) ≡ true
tabled Outside other b is = absurd (true≢false (sym is))
tabled Asking other b is = absurd (true≢false (sym is))
tabled (Fetching incarnation) other b is = absurd (true≢false (sym is))
tabled (Active count) other true is = refl
tabled (Active count) other false is = refl

pub still_active : (begins : Joiner) (p : Past) (at : ℕ) (o : Occurrence) → is_active (phase begins p) ≡ true → is_active (phase begins (followed p at o)) ≡ true
still_active begins p at (comes.Asked header body sender) is = is
still_active begins p at (comes.Fetched incarnation sender) is = is
still_active begins p at (comes.Replied name from reply) is = is
still_active begins p at (comes.IsStale name server from incarnation) is = is
still_active begins p at (comes.IsBefore name from) is = is
still_active begins p at (comes.Told request table) is = tabled (phase begins p) (taken_in table) (is_join request) is
still_active begins p at (comes.Restored state count) is = by_test (is_fetching (phase begins p))
  where
    by_test : (b : Bool) → is_active (if b then Active count else phase begins p) ≡ true
    by_test true = refl
    by_test false = is
still_active begins p at (comes.Declared node) is = is
still_active begins p at comes.Joins is = told_join (phase begins p) is
