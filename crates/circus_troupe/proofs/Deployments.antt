-- The productions of deployments are lawful with every number of levels, of which they open none.
use Rattle.std.proofs.Common.{◌≡◌, ℕ, Bool, true, false, List, [], ◌∷◌, ◌++◌, refl, sym, ap, subst, append-nil}
use Rattle.std.specs.Prelude.{Option, Some, None, codes, bytes_eq}
use Rattle.circus_syntax.specs.declared.named.Numeral.{Numeral}
use Rattle.circus_syntax.specs.declared.stopping.StopCause.TheVariants.{Unexpected}
use Rattle.circus_syntax.specs.Placed.{Placed, first, word, sign, Due, due, due_at, due_name, due_number, IsDue, AreDue}
use Rattle.circus_syntax.specs.Reader.{Reader, both, passes, stop_reading, nothing, either, either_case}
use Rattle.circus_syntax.specs.Reading.{expect_token}
use Rattle.circus_syntax.specs.Spelling.{each, if_written, IsNumeral, IsEach, IsListed, IfWritten}
use Rattle.circus_syntax.proofs.Sound.{Sound, reader, AreDue-none, sound_nothing, sound_both}
use Rattle.circus_syntax.proofs.Repeats.{Shrinks}
use Rattle.circus_syntax.proofs.Complete.{Any, Opens, Links}
use Rattle.circus_syntax.proofs.Tokens.{Always, is_comma, opens_due, sound_fixed, sound_name, shrinks_both, shrinks_fixed}
use Rattle.circus_syntax.proofs.Levels.{levels_nothing, levels_stopped}
use Rattle.circus_syntax.proofs.Lawful.{Lawful, Branch, lawful_at, lawful_fixed, lawful_fixed_at, lawful_name, lawful_number, lawful_both, lawful_then, lawful_mapped, branch_of, lawful_cased, lawful_optional, lawful_repeated, lawful_behind, lawful_listed, sound_stopped}
use Rattle.circus_expression.proofs.Ends.{AllLawful}
use Rattle.circus_statement.specs.WrittenStatement.{semicolon}
use Rattle.circus_statement.specs.StatementReading.{is_word}
use Rattle.circus_statement.proofs.Lawfulness.{stays_lexeme, link_first, link_due}
use Rattle.circus_troupe.specs.declared.deployment_text.WrittenKind.{WrittenKind}
use Rattle.circus_troupe.specs.declared.deployment_text.WrittenKind.TheVariants.{First, Majority, Unanimous, AtLeast, Watchdog}
use Rattle.circus_troupe.specs.declared.deployment_text.KindText.{KindText}
use Rattle.circus_troupe.specs.declared.deployment_text.HostText.{HostText}
use Rattle.circus_troupe.specs.DeploymentSpelling.{spelling_ringmaster, spelling_kind_at, spelling_kind, spelling_host, spelling_hosts, spelling_spares, spelling_troupe, spelling_deployment, IsRingmasterText, IsReplyKind, IsCallKind, IsHostText, IsTroupeText, IsDeploymentText}
use Rattle.circus_troupe.specs.DeploymentReading.{ringmaster, kind_by, at_least, call_kind, reply_kind, host, hosts, spares, troupe_of_parts, troupe, troupes, any_token, text_end, deployment}

lawful_ringmaster : (n : ℕ) → Lawful n ringmaster ringmaster spelling_ringmaster IsRingmasterText Any
unfolding ringmaster
lawful_ringmaster n =
    lawful_mapped n (λ x. record { name = x.1.0; port = x.1.1.1.0 }) spelling_ringmaster IsRingmasterText (λ x. refl) (λ x g. (g.1.0, g.1.1.1.0))
    (λ r g. ((tt, (r.name, (tt, (r.port, tt)))), refl, (tt, (g.0, (tt, (g.1, tt))))))
    (lawful_then n (lawful_fixed n (word (codes "RINGMASTER"))) (lawful_then n (lawful_name n) (lawful_then n (lawful_fixed n (word (codes "PORT")))
    (lawful_then n (lawful_number n) (lawful_fixed n (sign (codes ";")))))))

-- Kinds.

-- its first word
word_of : WrittenKind → List ℕ
word_of First = codes "FIRST"
word_of Majority = codes "MAJORITY"
word_of Unanimous = codes "UNANIMOUS"
word_of (AtLeast m) = codes "AT"
word_of Watchdog = codes "WATCHDOG"

more_of : WrittenKind → List Due
more_of (AtLeast m) = due (word (codes "LEAST")) ∷ due_number m ∷ []
more_of _ = []

kind_parts : (p : ℕ) (k : WrittenKind) → spelling_kind_at p k ≡ due_at (word (word_of k)) p ∷ more_of k
unfolding word_of more_of
kind_parts p First = refl
kind_parts p Majority = refl
kind_parts p Unanimous = refl
kind_parts p (AtLeast m) = refl
kind_parts p Watchdog = refl

first_is : (l w : List ℕ) (p : ℕ) (ds : List Due) (ts rest : List Placed) → AreDue (due_at (word l) p ∷ ds) ts → passes (is_word w) (first (ts ++ rest)) ≡ bytes_eq l w
first_is l w p ds [] rest d = absurd d
first_is l w p ds (t ∷ ts) rest d = stays_lexeme (λ o. passes (is_word w) o ≡ bytes_eq l w) (word l) (λ s. refl) t d.0.0 d.0.1

kind_first : (k : KindText) (w : List ℕ) (ts rest : List Placed) → AreDue (spelling_kind k) ts → passes (is_word w) (first (ts ++ rest)) ≡ bytes_eq (word_of k.kind) w
kind_first k w ts rest d = first_is (word_of k.kind) w k.at (more_of k.kind) ts rest (subst (λ ds. AreDue ds ts) (kind_parts k.at k.kind) d)

-- one or the other, as the word tells
abbrev Parted : (WrittenKind → Type 0) → (WrittenKind → Type 0) → Bool → WrittenKind → Type 0
Parted Yes No true k = Yes k
Parted Yes No false k = No k

lawful_choice : (n : ℕ) (w : List ℕ) {p q : Reader → KindText × Reader} (Yes No Good : WrittenKind → Type 0)
    → Lawful n p p spelling_kind (λ k. Yes k.kind) Any → Lawful n q q spelling_kind (λ k. No k.kind) Any → ((b : Bool) (k : WrittenKind) → Parted Yes No b k → Good k)
    → ((k : WrittenKind) → Good k → Parted Yes No (bytes_eq (word_of k) w) k)
    → Lawful n (either (is_word w) p q) (either (is_word w) p q) spelling_kind (λ k. Good k.kind) Any
lawful_choice n w {p} {q} Yes No Good P Q good parts =
    lawful_cased (passes (is_word w)) n (either_case p q) (either_case p q) (λ b k. Parted Yes No b k.kind) branches (λ s ts e. refl)
    (λ k ts rest g d stays. (bytes_eq (word_of k.kind) w, kind_first k w ts rest d, parts k.kind g))
  where
    branches : (b : Bool) → Branch (passes (is_word w)) b n (either_case p q b) (either_case p q b) spelling_kind (λ k. Good k.kind) (λ k. Parted Yes No b k.kind) Any
    branches true = branch_of (passes (is_word w)) true n (λ k. Good k.kind) (λ k g. good true k.kind g) P
    branches false = branch_of (passes (is_word w)) false n (λ k. Good k.kind) (λ k g. good false k.kind g) Q

abbrev pub kind_at : ℕ → WrittenKind → KindText
kind_at p k = record { at = p; kind = k }

lawful_kind_by : (n : ℕ) (w : List ℕ) (k : WrittenKind) → ((p : ℕ) → spelling_kind_at p k ≡ due_at (word w) p ∷ []) → Lawful n (kind_by w k) (kind_by w k) spelling_kind (λ x. x.kind ≡ k) Any
lawful_kind_by n w k spelled =
    lawful_mapped n (λ p. kind_at p k) spelling_kind (λ x. x.kind ≡ k) spelled (λ p g. refl) (λ x g. (x.at, (λ i. record { at = x.at; kind = sym g i }), tt))
    (lawful_fixed_at n (word w))

abbrev IsAtLeast : WrittenKind → Type 0
IsAtLeast (AtLeast m) = IsNumeral m
IsAtLeast _ = ⊥

at_least_back : (p : ℕ) (k : WrittenKind) → IsAtLeast k → (x : ℕ × (Unit {0} × Numeral)) × (kind_at x.0 (AtLeast x.1.1) ≡ kind_at p k) × (Unit {0} × (Unit {0} × IsNumeral x.1.1))
at_least_back p (AtLeast m) g = ((p, (tt, m)), refl, (tt, (tt, g)))
at_least_back p _ g = absurd g

lawful_at_least : (n : ℕ) → Lawful n at_least at_least spelling_kind (λ k. IsAtLeast k.kind) Any
unfolding at_least
lawful_at_least n =
    lawful_mapped n (λ x. kind_at x.0 (AtLeast x.1.1)) spelling_kind (λ k. IsAtLeast k.kind) (λ x. refl) (λ x g. g.1.1) (λ k g. at_least_back k.at k.kind g)
    (lawful_then n (lawful_fixed_at n (word (codes "AT"))) (lawful_then n (lawful_fixed n (word (codes "LEAST"))) (lawful_number n)))

abbrev IsPlain : WrittenKind → Type 0
IsPlain First = Unit {0}
IsPlain Unanimous = Unit {0}
IsPlain _ = ⊥

abbrev IsCounted : WrittenKind → Type 0
IsCounted Majority = Unit {0}
IsCounted k = IsPlain k

plain_good : (b : Bool) (k : WrittenKind) → Parted (λ j. j ≡ Unanimous) (λ j. j ≡ First) b k → IsPlain k
plain_good true k g = subst IsPlain (sym g) tt
plain_good false k g = subst IsPlain (sym g) tt

plain_parts : (k : WrittenKind) → IsPlain k → Parted (λ j. j ≡ Unanimous) (λ j. j ≡ First) (bytes_eq (word_of k) (codes "UNANIMOUS")) k
unfolding word_of
plain_parts First g = refl
plain_parts Unanimous g = refl
plain_parts _ g = absurd g

counted_good : (b : Bool) (k : WrittenKind) → Parted (λ j. j ≡ Majority) IsPlain b k → IsCounted k
counted_good true k g = subst IsCounted (sym g) tt
counted_good false First g = tt
counted_good false Unanimous g = tt
counted_good false _ g = absurd g

counted_parts : (k : WrittenKind) → IsCounted k → Parted (λ j. j ≡ Majority) IsPlain (bytes_eq (word_of k) (codes "MAJORITY")) k
unfolding word_of
counted_parts First g = tt
counted_parts Majority g = refl
counted_parts Unanimous g = tt
counted_parts _ g = absurd g

call_good : (b : Bool) (k : WrittenKind) → Parted IsAtLeast IsCounted b k → IsCallKind k
call_good true (AtLeast m) g = g
call_good false First g = tt
call_good false Majority g = tt
call_good false Unanimous g = tt
call_good _ _ g = absurd g

call_parts : (k : WrittenKind) → IsCallKind k → Parted IsAtLeast IsCounted (bytes_eq (word_of k) (codes "AT")) k
unfolding word_of
call_parts First g = tt
call_parts Majority g = tt
call_parts Unanimous g = tt
call_parts (AtLeast m) g = g
call_parts Watchdog g = absurd g

reply_good : (b : Bool) (k : WrittenKind) → Parted (λ j. j ≡ Watchdog) IsCallKind b k → IsReplyKind k
reply_good true k g = subst IsReplyKind (sym g) tt
reply_good false First g = tt
reply_good false Majority g = tt
reply_good false Unanimous g = tt
reply_good false (AtLeast m) g = g
reply_good false Watchdog g = absurd g

reply_parts : (k : WrittenKind) → IsReplyKind k → Parted (λ j. j ≡ Watchdog) IsCallKind (bytes_eq (word_of k) (codes "WATCHDOG")) k
unfolding word_of
reply_parts First g = tt
reply_parts Majority g = tt
reply_parts Unanimous g = tt
reply_parts (AtLeast m) g = g
reply_parts Watchdog g = refl

lawful_call_kind : (n : ℕ) → Lawful n call_kind call_kind spelling_kind (λ k. IsCallKind k.kind) Any
unfolding call_kind
lawful_call_kind n =
    lawful_choice n (codes "AT") IsAtLeast IsCounted IsCallKind (lawful_at_least n)
    (lawful_choice n (codes "MAJORITY") (λ j. j ≡ Majority) IsPlain IsCounted (lawful_kind_by n (codes "MAJORITY") Majority (λ p. refl))
    (lawful_choice n (codes "UNANIMOUS") (λ j. j ≡ Unanimous) (λ j. j ≡ First) IsPlain (lawful_kind_by n (codes "UNANIMOUS") Unanimous (λ p. refl))
    (lawful_kind_by n (codes "FIRST") First (λ p. refl)) plain_good plain_parts)
    counted_good counted_parts)
    call_good call_parts

lawful_reply_kind : (n : ℕ) → Lawful n reply_kind reply_kind spelling_kind (λ k. IsReplyKind k.kind) Any
unfolding reply_kind
lawful_reply_kind n =
    lawful_choice n (codes "WATCHDOG") (λ j. j ≡ Watchdog) IsCallKind IsReplyKind (lawful_kind_by n (codes "WATCHDOG") Watchdog (λ p. refl)) (lawful_call_kind n) reply_good reply_parts

-- Hosts.

lawful_host : (n : ℕ) → Lawful n host host spelling_host IsHostText Any
unfolding host
lawful_host n =
    lawful_mapped n (λ x. record { name = x.0; port = x.1.1 }) spelling_host IsHostText (λ x. refl) (λ x g. (g.0, g.1.1)) (λ h g. ((h.name, (tt, h.port)), refl, (g.0, (tt, g.1))))
    (lawful_then n (lawful_name n) (lawful_then n (lawful_fixed n (word (codes "PORT"))) (lawful_number n)))

pub sound_host : Sound host spelling_host IsHostText
sound_host = (lawful_host 0).narrow

abbrev NoComma : Option Placed → Type 0
NoComma o = Any o × (passes is_comma o ≡ false)

lawful_hosts : (n : ℕ) → Lawful n hosts hosts spelling_hosts (IsListed IsHostText) NoComma
unfolding hosts
lawful_hosts n = lawful_listed n (λ o hit. tt) (lawful_host n)

abbrev NoSpares : Option Placed → Type 0
NoSpares o = NoComma o × (passes (is_word (codes "SPARES")) o ≡ false)

lawful_spares : (n : ℕ) → Lawful n spares spares (if_written spelling_spares) (IfWritten (IsListed IsHostText)) NoSpares
unfolding spares
lawful_spares n =
    lawful_optional (is_word (codes "SPARES")) n (λ hs ts rest g d. opens_due (word (codes "SPARES")) (spelling_hosts hs) ts rest d)
    (lawful_at (is_word (codes "SPARES")) n (lawful_behind n (word (codes "SPARES")) (lawful_hosts n)))

-- Troupes.

-- what stands behind the members
spares_first : Option (List HostText) → Due
spares_first None = semicolon
spares_first (Some hs) = due (word (codes "SPARES"))

spares_rest : Option (List HostText) → List Due
spares_rest None = []
spares_rest (Some hs) = spelling_hosts hs ++ semicolon ∷ []

spares_parts : (o : Option (List HostText)) → if_written spelling_spares o ++ semicolon ∷ [] ≡ spares_first o ∷ spares_rest o
unfolding spares_first spares_rest
spares_parts None = refl
spares_parts (Some hs) = refl

spares_stay : (o : Option (List HostText)) (t : Placed) → IsDue (spares_first o) t → NoComma (Some t)
unfolding spares_first
spares_stay None t d = stays_lexeme NoComma (sign (codes ";")) (λ s. (tt, refl)) t d.0 d.1
spares_stay (Some hs) t d = stays_lexeme NoComma (word (codes "SPARES")) (λ s. (tt, refl)) t d.0 d.1

lawful_troupe : (n : ℕ) → Lawful n troupe troupe spelling_troupe IsTroupeText Any
unfolding troupe
lawful_troupe n =
    lawful_mapped n troupe_of_parts spelling_troupe IsTroupeText (λ x. refl) (λ x g. (g.1.0, g.1.1.1.0, g.1.1.1.1.1.0, g.1.1.1.1.1.1.1.0, g.1.1.1.1.1.1.1.1.0))
    (λ t g. ((tt, (t.name, (tt, (t.calls, (tt, (t.replies, (tt, (t.members, (t.spares, tt))))))))), refl, (tt, (g.0, (tt, (g.1, (tt, (g.2, (tt, (g.3, (g.4, tt)))))))))))
    (lawful_then n (lawful_fixed n (word (codes "TROUPE"))) (lawful_then n (lawful_name n) (lawful_then n (lawful_fixed n (word (codes "CALLS"))) (lawful_then n (lawful_call_kind n)
    (lawful_then n (lawful_fixed n (word (codes "REPLIES"))) (lawful_then n (lawful_reply_kind n) (lawful_then n (lawful_fixed n (word (codes "MEMBERS")))
    (lawful_both n (lawful_hosts n)
    (lawful_both n (lawful_spares n) (lawful_fixed n (sign (codes ";"))) (link_due _ Any NoSpares (sign (codes ";")) (λ u. []) (λ u. refl) (λ s. ((tt, refl), refl))))
    (link_first _ Any NoComma (λ y. spares_first y.0) (λ y. spares_rest y.0) (λ y. spares_parts y.0) (λ y t g d. spares_stay y.0 t d))))))))))

pub shrinks_troupe : Shrinks (is_word (codes "TROUPE")) troupe
unfolding troupe
shrinks_troupe r hit =
    shrinks_both (is_word (codes "TROUPE")) (expect_token (word (codes "TROUPE"))) _ (shrinks_fixed (word (codes "TROUPE")))
    (sound_both sound_name (sound_both (sound_fixed (word (codes "CALLS"))) (sound_both (lawful_call_kind 0).narrow (sound_both (sound_fixed (word (codes "REPLIES"))) (sound_both (lawful_reply_kind 0).narrow
    (sound_both (sound_fixed (word (codes "MEMBERS"))) (sound_both (lawful_hosts 0).narrow (sound_both (lawful_spares 0).narrow (sound_fixed (sign (codes ";"))))))))))) r hit

abbrev NoTroupe : Option Placed → Type 0
NoTroupe o = Any o × (passes (is_word (codes "TROUPE")) o ≡ false)

open_troupe : Opens spelling_troupe IsTroupeText (is_word (codes "TROUPE"))
open_troupe t ts rest g d =
    opens_due (word (codes "TROUPE"))
    (due_name t.name ∷ due (word (codes "CALLS")) ∷ (spelling_kind t.calls ++ due (word (codes "REPLIES")) ∷ (spelling_kind t.replies ++ due (word (codes "MEMBERS"))
    ∷ (spelling_hosts t.members ++ (if_written spelling_spares t.spares ++ semicolon ∷ []))))) ts rest d

lawful_troupes : (n : ℕ) → Lawful n troupes troupes (each spelling_troupe) (IsEach IsTroupeText) NoTroupe
unfolding troupes
lawful_troupes n = lawful_repeated (is_word (codes "TROUPE")) n shrinks_troupe shrinks_troupe open_troupe (λ o hit. tt) (lawful_at (is_word (codes "TROUPE")) n (lawful_troupe n))

-- the Ringmaster and the troupes, whatever stands behind them that begins no troupe
pub lawful_listing : (n : ℕ) → Lawful n (both ringmaster troupes) (both ringmaster troupes) (λ x. spelling_ringmaster x.0 ++ each spelling_troupe x.1) (λ x. IsRingmasterText x.0 × IsEach IsTroupeText x.1) NoTroupe
lawful_listing n = lawful_then n (lawful_ringmaster n) (lawful_troupes n)

-- The end.

abbrev pub AtEnd : Option Placed → Type 0
AtEnd o = o ≡ None

abbrev spelling_none : Unit {0} → List Due
spelling_none u = []

abbrev stop_or_not : Bool → Reader → Unit {0} × Reader
stop_or_not = either_case (stop_reading Unexpected (λ p. tt)) (nothing tt)

lawful_ended : (n : ℕ) → Lawful n text_end text_end spelling_none Always AtEnd
unfolding text_end
lawful_ended n = lawful_cased (passes any_token) n stop_or_not stop_or_not Goes branches (λ s ts e. refl) at_end
  where
    Goes : Bool → Unit {0} → Type 0
    Goes true u = ⊥
    Goes false u = Unit {0}

    stop_sound : Sound (stop_reading Unexpected (λ p. tt)) spelling_none Always
    stop_sound = sound_stopped Unexpected (λ p. tt) spelling_none Always (λ p. (tt, [], tt, tt))

    none_sound : Sound (nothing tt) spelling_none Always
    none_sound = sound_nothing tt spelling_none Always tt refl

    branches : (b : Bool) → Branch (passes any_token) b n (stop_or_not b) (stop_or_not b) spelling_none Always (Goes b) AtEnd
    branches true = record { narrow = stop_sound; wide = stop_sound; complete = record { reads = λ a ts rest e good d stays. absurd good.0 }; reaches = λ ts e is. (levels_stopped n (λ p. tt) stop_sound).reaches ts e }
    branches false = record {
      narrow = none_sound;
      wide = none_sound;
      complete = record {
        reads = λ a ts rest e good d stays. subst (λ (us : List Placed). nothing tt (reader None (us ++ rest) e) ≡ (a, reader None rest e)) (sym (AreDue-none ts d)) refl;
      };
      reaches = λ ts e is. (levels_nothing n tt refl none_sound).reaches ts e;
    }

    at_end : (a : Unit {0}) (ts rest : List Placed) → Always a → AreDue (spelling_none a) ts → AtEnd (first rest) → (b : Bool) × (passes any_token (first (ts ++ rest)) ≡ b) × Goes b a
    at_end a ts rest good d stays = (false, subst (λ (us : List Placed). passes any_token (first (us ++ rest)) ≡ false) (sym (AreDue-none ts d)) (ap (passes any_token) stays), tt)

link_end : Links spelling_none Always AtEnd NoTroupe
link_end u ts rest g d stays = subst (λ (us : List Placed). NoTroupe (first (us ++ rest))) (sym (AreDue-none ts d)) (tt, ap (passes (is_word (codes "TROUPE"))) stays)

pub deployments_lawful : AllLawful (λ n. deployment) spelling_deployment IsDeploymentText AtEnd
unfolding deployment
deployments_lawful n m above =
    lawful_mapped n (λ x. record { ringmaster = x.0; troupes = x.1.0 }) spelling_deployment IsDeploymentText (λ x. ap (λ l. spelling_ringmaster x.0 ++ l) (sym (append-nil (each spelling_troupe x.1.0))))
    (λ x g. (g.0, g.1.0)) (λ d g. ((d.ringmaster, (d.troupes, tt)), refl, (g.0, (g.1, tt))))
    (lawful_then n (lawful_ringmaster n) (lawful_both n (lawful_troupes n) (lawful_ended n) link_end))
