-- Each act of an end sends what an end may say.
use Rattle.std.proofs.Common.{◌≡◌, ℕ, ◌^◌, ◌<◌, ◌⊎◌, true, List, ◌∷◌, Option, None, Some, Ok, ap, subst, ◌∙◌}
use Rattle.std.specs.Prelude.{slice_get}
use Rattle.circus_segment.specs.Segment.{Piece, IsSegment, reading}
use Rattle.circus_segment.proofs.Spellings.{read_again}
use Rattle.circus_exchange.specs.Exchange.{start, takes}
use Rattle.circus_pair.specs.Taken.{has_arrived}
use Rattle.circus_pair.specs.Acts.{Act, Return, Came, Acts, none_yet, more, end_after, taken_by}
use Rattle.circus_pair.specs.Handed.{call_at, return_at}
use Rattle.circus_pair.specs.Lawful.{AreLawful}
use Rattle.circus_pair.specs.TwoEnds.{datagrams_by}
use Rattle.circus_pair.specs.Saying.{IsSaid}
use Rattle.circus_pair.proofs.Handing.{format_stays}
use Rattle.circus_pair.proofs.Keeping.{stands_lawful, hands_lawful, kept_after}
use Rattle.circus_pair.proofs.Flowing.{flows_after}
use Rattle.circus_pair.proofs.Each.{Each, each_at, each_cond}
use Rattle.circus_pair.proofs.Sayings.{Tells}
use Rattle.circus_pair.proofs.Speaking.{Fine, Keeping, MayDo, fine_act, says_act}
use Rattle.circus_pair.proofs.Dialogue.{found}

segments_taken : (first format : ℕ) (acts : Acts) → AreLawful first format acts → Each IsSegment (taken_by (start first format) acts)
segments_taken first format none_yet lawful = tt
segments_taken first format (more acts (Came s)) lawful =
    let before = segments_taken first format acts lawful.0 in
    each_cond IsSegment (takes (end_after (start first format) acts) s) (s ∷ taken_by (start first format) acts) (taken_by (start first format) acts) (λ yes_. (lawful.1, before)) (λ no_. before)
segments_taken first format (more acts act) lawful = segments_taken first format acts lawful.0

number_fits : (ts : List Piece) (call : ℕ) → Each IsSegment ts → has_arrived ts 0 call ≡ true → call < 2 ^ 32
number_fits ts call each h = (let f = found IsSegment ts 0 call each h in subst (λ n. n < 2 ^ 32) f.part.call_is f.is.call)

pub may_do : (first format : ℕ) (acts : Acts) (act : Act) → AreLawful first format (more acts act) → MayDo first format acts (taken_by (start first format) acts) act
may_do first format acts (Return call message) lawful = (lawful.1.0, number_fits (taken_by (start first format) acts) call (segments_taken first format acts lawful.0) lawful.1.1, lawful.1.1, lawful.1.2)
may_do first format acts act lawful = lawful.1

none_handed : {X : Type 0} (m : X) → ◌≡◌ {A = Option X} None (Some m) → ⊥
none_handed m h = cc

fine_lawful : (first format : ℕ) (acts : Acts) → AreLawful first format acts → Fine first format acts (taken_by (start first format) acts)
unfolding call_at return_at
fine_lawful first format none_yet lawful = record { calls = λ q m h. absurd (none_handed m h); returns = λ q m h. absurd (none_handed m h) }
fine_lawful first format (more acts act) lawful =
    fine_act first format acts (taken_by (start first format) acts) (end_after (start first format) acts) act (hands_lawful first format acts lawful.0) (fine_lawful first format acts lawful.0) (may_do first format acts act lawful)

pub keeping_lawful : (first format : ℕ) (acts : Acts) → (format ≡ 1) ⊎ (format ≡ 2) → AreLawful first format acts → Keeping first format acts (taken_by (start first format) acts) (end_after (start first format) acts)
keeping_lawful first format acts known lawful = record {
  known = known;
  format_is = format_stays (start first format) acts;
  hands = hands_lawful first format acts lawful;
  stands = stands_lawful first format acts lawful;
  kept = kept_after first format acts lawful;
  unsaid = (flows_after first format acts lawful).unsaid;
  fine = fine_lawful first format acts lawful;
}

-- each datagram of an act is read as what an end may say after it
pub told : (first format : ℕ) (acts : Acts) (act : Act) (number : ℕ) (datagram : List ℕ) → (format ≡ 1) ⊎ (format ≡ 2) → AreLawful first format (more acts act) → slice_get (datagrams_by (end_after (start first format) acts) act) number ≡ Some datagram → (s : Piece) × (reading datagram ≡ Ok s) × IsSaid first format (more acts act) (taken_by (start first format) (more acts act)) s
told first format acts act number datagram known lawful is =
    let says = says_act first format acts (taken_by (start first format) acts) (end_after (start first format) acts) act (keeping_lawful first format acts known lawful.0) (may_do first format acts act lawful) in
    let tells = each_at (Tells first format (more acts act) (taken_by (start first format) (more acts act))) (datagrams_by (end_after (start first format) acts) act) number datagram says is in
    (tells.said, ap reading tells.bytes_are ∙ read_again tells.said tells.is.segment, tells.is)
