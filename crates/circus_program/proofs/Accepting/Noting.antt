-- The text of a served node is that of a record, in which datagrams of no other node stand behind the event before them.
use Rattle.std.specs.List.{AllByRecursion, flat_map}
use Rattle.std.specs.Prelude.{codes}
use Rattle.std.proofs.Common.{◌≡◌, ℕ, ◌+◌, List, [], ◌∷◌, ◌++◌, map, None, Some, refl, sym, ap, ◌∙◌, append_assoc, append-nil}
use Rattle.std.proofs.lemmas.List.Concat.{flat_map-append}
use Rattle.circus_record.specs.Naming.{Names}
use Rattle.circus_member_rules.specs.declared.occurrence.Difference.{Difference}
use Rattle.circus_node.specs.declared.event.Event.{Event}
use Rattle.circus_node.specs.declared.event.Give.{Give}
use Rattle.circus_serve.specs.NodeText.{event_text, event_line, give_line, differ_line, foreign_line, happened_lines}
use Rattle.circus_serve.specs.declared.happening.Happening.{Happening}
use Rattle.circus_serve.specs.declared.happening.Happening.TheVariants.{Booted, Stepped, Foreign}
use Rattle.circus_headline_theory.specs.ServedRun.{own_happenings}
use Rattle.circus_audit.specs.RecordText.{Stray, Noted, what_came, stray_line, noted_lines, all_noted_lines, IsStray}
use Rattle.circus_audit.specs.declared.given.GivenEvent.{GivenEvent}

-- ---- happenings as noted events

abbrev pub at_boot : List Give → GivenEvent
at_boot gives = record { event = None; gives = gives; differences = [] }

abbrev pub in_step : Event → List Give → List Difference → GivenEvent
in_step event gives differences = record { event = Some event; gives = gives; differences = differences }

abbrev pub alone : GivenEvent → Noted
alone given = record { given = given; strays = [] }

abbrev with_stray : ℕ → List ℕ → Noted → Noted
with_stray port bytes noted = record { given = noted.given; strays = noted.strays ++ record { port = port; bytes = bytes } ∷ [] }

-- an event, and what happened behind it
abbrev pub noted_from : Noted → List Happening → List Noted
noted_from noted [] = noted ∷ []
noted_from noted (Booted gives ∷ others) = noted ∷ noted_from (alone (at_boot gives)) others
noted_from noted (Stepped event gives differences ∷ others) = noted ∷ noted_from (alone (in_step event gives differences)) others
noted_from noted (Foreign port bytes ∷ others) = noted_from (with_stray port bytes noted) others

-- ---- the text

module _ (names : Names) where
  stray_lines : (number : ℕ) (noted : Noted) (port : ℕ) (bytes : List ℕ) → noted_lines names number (with_stray port bytes noted) ≡ noted_lines names number noted ++ foreign_line port bytes
  stray_lines number noted port bytes =
      let stray : Stray = record { port = port; bytes = bytes } in
      let front = event_line number (what_came names noted.given.event) ++ flat_map (give_line names) noted.given.gives ++ flat_map (differ_line names) noted.given.differences in
      ap (λ l. front ++ l) (flat_map-append stray_line noted.strays (stray ∷ []) ∙ ap (λ l. flat_map stray_line noted.strays ++ l) (append-nil (stray_line stray)))
      ∙ sym (append_assoc front (flat_map stray_line noted.strays) (stray_line stray))

  boot_lines_by : (number : ℕ) (gives : List Give) (others : List Happening)
      → noted_lines names number (alone (at_boot gives)) ++ happened_lines names (number + 1) others ≡ all_noted_lines names number (noted_from (alone (at_boot gives)) others)
      → happened_lines names number (Booted gives ∷ others) ≡ all_noted_lines names number (noted_from (alone (at_boot gives)) others)
  boot_lines_by number gives others behind =
      let front = event_line number (codes "boot") ++ flat_map (give_line names) gives in
      ap (λ l. l ++ happened_lines names (number + 1) others) (sym (append-nil front) ∙ sym (append-nil (front ++ []))) ∙ behind

  pub lines_are : (number : ℕ) (noted : Noted) (happened : List Happening)
      → noted_lines names number noted ++ happened_lines names (number + 1) happened ≡ all_noted_lines names number (noted_from noted happened)
  lines_are number noted [] = refl
  lines_are number noted (Booted gives ∷ others) = ap (λ l. noted_lines names number noted ++ l) (boot_lines_by (number + 1) gives others (lines_are (number + 1) (alone (at_boot gives)) others))
  lines_are number noted (Stepped event gives differences ∷ others) =
      let front = event_line (number + 1) (event_text names event) ++ flat_map (give_line names) gives ++ flat_map (differ_line names) differences in
      ap (λ l. noted_lines names number noted ++ l)
      (ap (λ l. l ++ happened_lines names (number + 1 + 1) others) (sym (append-nil front)) ∙ lines_are (number + 1) (alone (in_step event gives differences)) others)
  lines_are number noted (Foreign port bytes ∷ others) =
      sym (append_assoc (noted_lines names number noted) (foreign_line port bytes) (happened_lines names (number + 1) others))
      ∙ ap (λ l. l ++ happened_lines names (number + 1) others) (sym (stray_lines number noted port bytes))
      ∙ lines_are number (with_stray port bytes noted) others

  pub boot_lines : (number : ℕ) (gives : List Give) (others : List Happening)
      → happened_lines names number (Booted gives ∷ others) ≡ all_noted_lines names number (noted_from (alone (at_boot gives)) others)
  boot_lines number gives others = boot_lines_by number gives others (lines_are number (alone (at_boot gives)) others)

-- ---- its events

-- what a happening gives, if it is an event
abbrev pub given_of : Happening → List GivenEvent
given_of (Booted gives) = at_boot gives ∷ []
given_of (Stepped event gives differences) = in_step event gives differences ∷ []
given_of (Foreign port bytes) = []

pub events_are : (noted : Noted) (happened : List Happening) → map (λ (n : Noted). n.given) (noted_from noted happened) ≡ noted.given ∷ flat_map given_of (own_happenings happened)
events_are noted [] = refl
events_are noted (Booted gives ∷ others) = ap (λ l. noted.given ∷ l) (events_are (alone (at_boot gives)) others)
events_are noted (Stepped event gives differences ∷ others) = ap (λ l. noted.given ∷ l) (events_are (alone (in_step event gives differences)) others)
events_are noted (Foreign port bytes ∷ others) = events_are (with_stray port bytes noted) others

-- ---- its strays

abbrev pub IsOfPort : Happening → Type 0
IsOfPort (Booted gives) = Unit {0}
IsOfPort (Stepped event gives differences) = Unit {0}
IsOfPort (Foreign port bytes) = IsStray (record { port = port; bytes = bytes })

abbrev StraysWell : Noted → Type 0
StraysWell noted = AllByRecursion IsStray noted.strays

more_strays : (strays : List Stray) (stray : Stray) → AllByRecursion IsStray strays → IsStray stray → AllByRecursion IsStray (strays ++ stray ∷ [])
more_strays [] stray all is = (is, tt)
more_strays (x ∷ strays) stray all is = (all.0, more_strays strays stray all.1 is)

pub strays_are : (noted : Noted) (happened : List Happening) → StraysWell noted → AllByRecursion IsOfPort happened → AllByRecursion StraysWell (noted_from noted happened)
strays_are noted [] well all = (well, tt)
strays_are noted (Booted gives ∷ others) well all = (well, strays_are (alone (at_boot gives)) others tt all.1)
strays_are noted (Stepped event gives differences ∷ others) well all = (well, strays_are (alone (in_step event gives differences)) others tt all.1)
strays_are noted (Foreign port bytes ∷ others) well all =
    strays_are (with_stray port bytes noted) others (more_strays noted.strays (record { port = port; bytes = bytes }) well all.0) all.1
