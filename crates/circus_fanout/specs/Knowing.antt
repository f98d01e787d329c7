-- What is kept of the notices, and what each does to it.
use Rattle.std.specs.Prelude.{ℕ, ◌+◌, Bool, true, false, not, ◌&&◌, nat_lt, max, if◌then◌else◌, List, [], ◌∷◌, ◌++◌, map, slice_get, slice_set}
use Rattle.std.specs.Option.{option_map_or}
use Rattle.circus_value.specs.Among.{is_among}
use Rattle.circus_collate.specs.declared.view.View.{View}
use Rattle.circus_fanout.specs.declared.known.Want.{Want}
use Rattle.circus_fanout.specs.Notices.{Notice, Told, Declared, Wanted, LookedUp, Answered, Notices, none_yet, more}

-- a view of each troupe, the nodes that are down as they were declared first, and what is wanted of each troupe
pub record Knowing : Type 0 where
  pub views : List View
  pub down : List ℕ
  pub wants : List Want

abbrev pub no_want : View → Want
no_want view = record { incarnation = 0; asked = false }

-- with the boot views alone
abbrev pub at_boot : List View → Knowing
at_boot boot = record { views = boot; down = []; wants = map no_want boot }

-- a view is newer than the one that is known
abbrev pub is_newer : Knowing → View → Bool
is_newer k view = option_map_or (λ (known : View). nat_lt known.incarnation view.incarnation) (slice_get k.views view.troupe) false

abbrev pub note_view : Knowing → View → Knowing
note_view k view = if is_newer k view then record k { views = slice_set k.views view.troupe view } else k

abbrev pub note_down : Knowing → ℕ → Knowing
note_down k node = if is_among k.down node then k else record k { down = k.down ++ node ∷ [] }

-- what is wanted of one troupe, in another way
abbrev pub with_want : (Want → Want) → List Want → ℕ → List Want
with_want change wants troupe = option_map_or (λ want. slice_set wants troupe (change want)) (slice_get wants troupe) wants

abbrev pub want_view : Knowing → ℕ → ℕ → Knowing
want_view k troupe incarnation = record k { wants = with_want (λ w. record { incarnation = max w.incarnation incarnation; asked = w.asked }) k.wants troupe }

-- the Ringmaster was asked for a troupe's view, or has answered
abbrev pub asked_of : Bool → List Want → ℕ → List Want
asked_of asked wants troupe = with_want (λ w. record { incarnation = w.incarnation; asked = asked }) wants troupe

abbrev pub note_answer : Knowing → ℕ → Knowing
note_answer k troupe = record k { wants = asked_of false k.wants troupe }

-- a later view is wanted than is known, and no Lookup waits for its answer
abbrev pub is_due : View → Want → Bool
is_due view want = nat_lt view.incarnation want.incarnation && not want.asked

-- a troupe where its view is to be looked up
abbrev pub due_of : ℕ → View → Want → List ℕ
due_of troupe view want = if is_due view want then troupe ∷ [] else []

-- the troupes whose views are, the first having this number
abbrev pub due_from : ℕ → List View → List Want → List ℕ
due_from troupe [] wants = []
due_from troupe (view ∷ views) [] = []
due_from troupe (view ∷ views) (want ∷ wants) = due_of troupe view want ++ due_from (troupe + 1) views wants

-- unless the Ringmaster is down
abbrev pub lookups : Knowing → ℕ → List ℕ
lookups k ringmaster = if is_among k.down ringmaster then [] else due_from 0 k.views k.wants

-- once the Ringmaster was asked for these
abbrev pub asked_all : List Want → List ℕ → List Want
asked_all wants [] = wants
asked_all wants (troupe ∷ troupes) = asked_all (asked_of true wants troupe) troupes

abbrev pub note_lookup : Knowing → ℕ → Knowing
note_lookup k ringmaster = record k { wants = asked_all k.wants (lookups k ringmaster) }

-- ---- over a list of notices

abbrev pub after : Knowing → Notice → Knowing
after k (Told view) = note_view k view
after k (Declared node) = note_down k node
after k (Wanted troupe incarnation) = want_view k troupe incarnation
after k (LookedUp ringmaster) = note_lookup k ringmaster
after k (Answered troupe) = note_answer k troupe

abbrev pub known_by : List View → Notices → Knowing
known_by boot none_yet = at_boot boot
known_by boot (more notices notice) = after (known_by boot notices) notice
