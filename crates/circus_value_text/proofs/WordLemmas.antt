-- Reading one number, or one byte, behind another.
use Rattle.std.proofs.Common.{◌≡◌, ◌∙◌, ℕ, suc, ◌+◌, ◌-◌, ◌<◌, ◌≤◌, List, [], ◌∷◌, ◌++◌, length, get_or, take, drop, codes, Option, Some, None, option_map, refl, sym, ap, arith, append_assoc, append-nil}
use Rattle.std.proofs.Math.Seq.{take-length}
use Rattle.circus_value_text.specs.Reading.{Read, and_then, behind_prefix, behind, number_read}
use Rattle.circus_value_text.specs.WordReading.{number_more, counts_read, asks_if, asks_read, byte_of, byte_more, bytes_of}
use Rattle.circus_value_text.specs.Seen.Given.{count_mark}
use Rattle.circus_value_text.proofs.PieceLemmas.{octets_before}

before_more : (done : List ℕ) (n : ℕ) (r : Read (List ℕ)) → octets_before done (number_more n r) ≡ octets_before (done ++ n ∷ []) r
before_more done n (Some r) = ap (λ ns. Some (ns, r.1)) (sym (append_assoc done (n ∷ []) r.0))
before_more done n None = refl

mark_more : (done : List ℕ) (n : ℕ) → count_mark (done ++ n ∷ []) ≡ codes ","
mark_more [] n = refl
mark_more (m ∷ done) n = refl

-- ---- counts

pub counts_more : (count i n : ℕ) (done text inner rest : List ℕ) (whole : Read (List ℕ)) → i < count → behind_prefix (count_mark done) text ≡ Some inner → number_read 4294967295 inner ≡ Some (n, rest) → whole ≡ octets_before done (counts_read (count - i) (count_mark done) text) → whole ≡ octets_before (done ++ n ∷ []) (counts_read (count - (i + 1)) (count_mark (done ++ n ∷ [])) rest)
counts_more count i n done text inner rest whole few mark number all =
    let left : count - i ≡ suc (count - (i + 1)) = omega arith in
    let go_on = λ (m : ℕ) (later : List ℕ). number_more m (counts_read (count - (i + 1)) (codes ",") later) in
    all ∙ ap (λ k. octets_before done (counts_read k (count_mark done) text)) left
    ∙ ap (λ r. octets_before done (behind r (λ x. and_then (number_read 4294967295 x) go_on))) mark
    ∙ ap (λ r. octets_before done (and_then r go_on)) number
    ∙ before_more done n (counts_read (count - (i + 1)) (codes ",") rest)
    ∙ ap (λ m. octets_before (done ++ n ∷ []) (counts_read (count - (i + 1)) m rest)) (sym (mark_more done n))

-- ---- asks

pub asks_more : (most i n : ℕ) (done text inner rest : List ℕ) (whole : Read (List ℕ)) → i < most → behind_prefix (codes ".") text ≡ Some inner → number_read 65535 inner ≡ Some (n, rest) → whole ≡ octets_before done (asks_read (most - i) text) → whole ≡ octets_before (done ++ n ∷ []) (asks_read (most - (i + 1)) rest)
asks_more most i n done text inner rest whole few mark number all =
    let left : most - i ≡ suc (most - (i + 1)) = omega arith in
    let go_on = λ (m : ℕ) (later : List ℕ). number_more m (asks_read (most - (i + 1)) later) in
    all ∙ ap (λ k. octets_before done (asks_read k text)) left
    ∙ ap (λ r. octets_before done (asks_if text r (λ x. and_then (number_read 65535 x) go_on))) mark
    ∙ ap (λ r. octets_before done (and_then r go_on)) number
    ∙ before_more done n (asks_read (most - (i + 1)) rest)

pub asks_end : (most i : ℕ) (done text : List ℕ) (whole : Read (List ℕ)) → i < most → behind_prefix (codes ".") text ≡ None → whole ≡ octets_before done (asks_read (most - i) text) → whole ≡ Some (done, text)
asks_end most i done text whole few mark all =
    let left : most - i ≡ suc (most - (i + 1)) = omega arith in
    all ∙ ap (λ k. octets_before done (asks_read k text)) left
    ∙ ap (λ r. octets_before done (asks_if text r (λ x. and_then (number_read 65535 x) (λ m later. number_more m (asks_read (most - (i + 1)) later))))) mark
    ∙ ap (λ ns. Some (ns, text)) (append-nil done)

-- ---- bytes

-- these bytes in front of the others
abbrev pub bytes_before : List ℕ → Option (List ℕ) → Option (List ℕ)
bytes_before done r = option_map (λ bs. done ++ bs) r

pub bytes_none : (r : Option (List ℕ)) → bytes_before [] r ≡ r
bytes_none (Some bs) = refl
bytes_none None = refl

bytes_one : (done : List ℕ) (b : ℕ) (r : Option (List ℕ)) → bytes_before done (byte_more (Some b) r) ≡ bytes_before (done ++ b ∷ []) r
bytes_one done b (Some bs) = ap (λ xs. Some xs) (sym (append_assoc done (b ∷ []) bs))
bytes_one done b None = refl

bytes_more : (high low b : ℕ) (done text : List ℕ) (whole : Option (List ℕ)) → byte_of high low ≡ Some b → whole ≡ bytes_before done (bytes_of (high ∷ low ∷ text)) → whole ≡ bytes_before (done ++ b ∷ []) (bytes_of text)
bytes_more high low b done text whole byte all =
    all ∙ ap (λ r. bytes_before done (byte_more r (bytes_of text))) byte ∙ bytes_one done b (bytes_of text)

-- the byte of the two digits in front
pub bytes_front : (b : ℕ) (done text : List ℕ) (whole : Option (List ℕ)) → 2 ≤ length text → byte_of (get_or text 0 0) (get_or text 1 0) ≡ Some b → whole ≡ bytes_before done (bytes_of text) → whole ≡ bytes_before (done ++ b ∷ []) (bytes_of (take (length text - 2) (drop 2 text)))
bytes_front b done [] whole two byte all = absurd (omega (arith, two))
bytes_front b done (high ∷ []) whole two byte all = absurd (omega (arith, two))
bytes_front b done (high ∷ low ∷ text) whole two byte all =
    let left : length (high ∷ low ∷ text) - 2 ≡ length text = omega arith in
    bytes_more high low b done text whole byte all ∙ ap (λ ts. bytes_before (done ++ b ∷ []) (bytes_of ts)) (sym (ap (λ k. take k text) left ∙ take-length text))
