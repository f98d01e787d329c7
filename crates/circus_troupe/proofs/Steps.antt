-- What is read of deployments, step by step.
use Rattle.std.proofs.Common.{◌≡◌, ℕ, ◌<◌, Bool, true, false, List, [], ◌∷◌, ◌++◌, length, refl, sym, ◌∙◌, ap, arith}
use Rattle.std.specs.Prelude.{Option, Some, None, codes}
use Rattle.circus_syntax.specs.declared.named.Named.{Named}
use Rattle.circus_syntax.specs.declared.named.Numeral.{Numeral}
use Rattle.circus_syntax.specs.declared.stopping.Stop.{Stop}
use Rattle.circus_syntax.specs.declared.stopping.StopCause.TheVariants.{Unexpected}
use Rattle.circus_syntax.specs.Placed.{Placed, word, sign}
use Rattle.circus_syntax.specs.Reader.{Reader, place, sees, stopped_by, map_read, either, nothing}
use Rattle.circus_syntax.specs.Reading.{expect_token, name, number, behind}
use Rattle.circus_syntax.proofs.ByWord.{fixed_at_is, at_is}
use Rattle.circus_syntax.proofs.Tokens.{comma_sign, is_comma}
use Rattle.circus_syntax.proofs.Loops.{goes_on, goes_end, goes_step, shorter, listed_is}
use Rattle.circus_syntax.proofs.Sound.{reader}
use Rattle.circus_expression.proofs.Stands.{either_hit, either_missed}
use Rattle.circus_statement.specs.StatementReading.{is_word}
use Rattle.circus_troupe.specs.declared.deployment_text.RingmasterText.{RingmasterText}
use Rattle.circus_troupe.specs.declared.deployment_text.WrittenKind.{WrittenKind}
use Rattle.circus_troupe.specs.declared.deployment_text.WrittenKind.TheVariants.{First, Majority, Unanimous, AtLeast, Watchdog}
use Rattle.circus_troupe.specs.declared.deployment_text.KindText.{KindText}
use Rattle.circus_troupe.specs.declared.deployment_text.HostText.{HostText}
use Rattle.circus_troupe.specs.declared.deployment_text.TroupeText.{TroupeText}
use Rattle.circus_troupe.specs.DeploymentReading.{ringmaster, kind_by, at_least, call_kind, reply_kind, host, hosts, spares, troupe, troupes, text_end, deployment}
use Rattle.circus_troupe.proofs.Deployments.{kind_at, shrinks_troupe}

pub ringmaster_is : (r s t u v w : Reader) (k : Named) (m : Numeral) → expect_token (word (codes "RINGMASTER")) r ≡ (tt, s) → name s ≡ (k, t) → expect_token (word (codes "PORT")) t ≡ (tt, u) → number u ≡ (m, v) → expect_token (sign (codes ";")) v ≡ (tt, w)
    → ringmaster r ≡ (record { name = k; port = m }, w)
unfolding ringmaster
ringmaster_is r s t u v w k m a b c d f = rw (a, b, c, d, f) refl

-- Kinds.

kind_by_is : (w : List ℕ) (k : WrittenKind) (r s : Reader) (p : ℕ) → p ≡ place r → expect_token (word w) r ≡ (tt, s) → kind_by w k r ≡ (kind_at p k, s)
kind_by_is w k r s p there is = at_is (word w) (λ q. kind_at q k) r s is ∙ ap (λ q. (kind_at q k, s)) (sym there)

pub at_least_is : (r s t u : Reader) (p : ℕ) (m : Numeral) → p ≡ place r → expect_token (word (codes "AT")) r ≡ (tt, s) → expect_token (word (codes "LEAST")) s ≡ (tt, t) → number t ≡ (m, u)
    → at_least r ≡ (record { at = p; kind = AtLeast m }, u)
unfolding at_least
at_least_is r s t u p m there a b c = front ∙ ap (λ q. (kind_at q (AtLeast m), u)) (sym there)
  where
    front : at_least r ≡ (kind_at (place r) (AtLeast m), u)
    front = rw (fixed_at_is (word (codes "AT")) r s a, b, c) refl

first : Reader → KindText × Reader
first = kind_by (codes "FIRST") First

plain : Reader → KindText × Reader
plain = either (is_word (codes "UNANIMOUS")) (kind_by (codes "UNANIMOUS") Unanimous) first

counted : Reader → KindText × Reader
counted = either (is_word (codes "MAJORITY")) (kind_by (codes "MAJORITY") Majority) plain

pub call_at_least : (r s : Reader) (x : KindText) (b : Bool) → b ≡ sees (is_word (codes "AT")) r → b ≡ true → at_least r ≡ (x, s) → call_kind r ≡ (x, s)
unfolding call_kind first plain counted
call_at_least r s x b seen hit is = either_hit (is_word (codes "AT")) at_least counted r b seen hit ∙ is

call_counted : (r : Reader) (b : Bool) → b ≡ sees (is_word (codes "AT")) r → b ≡ false → call_kind r ≡ counted r
unfolding call_kind first plain counted
call_counted r b seen missed = either_missed (is_word (codes "AT")) at_least counted r b seen missed

call_plain : (r : Reader) (b c : Bool) → b ≡ sees (is_word (codes "AT")) r → b ≡ false → c ≡ sees (is_word (codes "MAJORITY")) r → c ≡ false → call_kind r ≡ plain r
unfolding counted
call_plain r b c seen missed seen_too missed_too = call_counted r b seen missed ∙ either_missed (is_word (codes "MAJORITY")) (kind_by (codes "MAJORITY") Majority) plain r c seen_too missed_too

pub call_majority : (r s : Reader) (p : ℕ) (b c : Bool) → p ≡ place r → b ≡ sees (is_word (codes "AT")) r → b ≡ false → c ≡ sees (is_word (codes "MAJORITY")) r → c ≡ true → expect_token (word (codes "MAJORITY")) r ≡ (tt, s)
    → call_kind r ≡ (record { at = p; kind = Majority }, s)
unfolding counted
call_majority r s p b c there seen missed seen_too hit is =
    call_counted r b seen missed ∙ either_hit (is_word (codes "MAJORITY")) (kind_by (codes "MAJORITY") Majority) plain r c seen_too hit ∙ kind_by_is (codes "MAJORITY") Majority r s p there is

pub call_unanimous : (r s : Reader) (p : ℕ) (b c d : Bool) → p ≡ place r → b ≡ sees (is_word (codes "AT")) r → b ≡ false → c ≡ sees (is_word (codes "MAJORITY")) r → c ≡ false
    → d ≡ sees (is_word (codes "UNANIMOUS")) r → d ≡ true → expect_token (word (codes "UNANIMOUS")) r ≡ (tt, s) → call_kind r ≡ (record { at = p; kind = Unanimous }, s)
unfolding plain
call_unanimous r s p b c d there seen missed seen_too missed_too seen_last hit is =
    call_plain r b c seen missed seen_too missed_too ∙ either_hit (is_word (codes "UNANIMOUS")) (kind_by (codes "UNANIMOUS") Unanimous) first r d seen_last hit ∙ kind_by_is (codes "UNANIMOUS") Unanimous r s p there is

pub call_first : (r s : Reader) (p : ℕ) (b c d : Bool) → p ≡ place r → b ≡ sees (is_word (codes "AT")) r → b ≡ false → c ≡ sees (is_word (codes "MAJORITY")) r → c ≡ false
    → d ≡ sees (is_word (codes "UNANIMOUS")) r → d ≡ false → expect_token (word (codes "FIRST")) r ≡ (tt, s) → call_kind r ≡ (record { at = p; kind = First }, s)
unfolding plain first
call_first r s p b c d there seen missed seen_too missed_too seen_last missed_last is =
    call_plain r b c seen missed seen_too missed_too ∙ either_missed (is_word (codes "UNANIMOUS")) (kind_by (codes "UNANIMOUS") Unanimous) first r d seen_last missed_last ∙ kind_by_is (codes "FIRST") First r s p there is

pub reply_watchdog : (r s : Reader) (p : ℕ) (b : Bool) → p ≡ place r → b ≡ sees (is_word (codes "WATCHDOG")) r → b ≡ true → expect_token (word (codes "WATCHDOG")) r ≡ (tt, s) → reply_kind r ≡ (record { at = p; kind = Watchdog }, s)
unfolding reply_kind
reply_watchdog r s p b there seen hit is =
    either_hit (is_word (codes "WATCHDOG")) (kind_by (codes "WATCHDOG") Watchdog) call_kind r b seen hit ∙ kind_by_is (codes "WATCHDOG") Watchdog r s p there is

pub reply_call : (r s : Reader) (x : KindText) (b : Bool) → b ≡ sees (is_word (codes "WATCHDOG")) r → b ≡ false → call_kind r ≡ (x, s) → reply_kind r ≡ (x, s)
unfolding reply_kind
reply_call r s x b seen missed is = either_missed (is_word (codes "WATCHDOG")) (kind_by (codes "WATCHDOG") Watchdog) call_kind r b seen missed ∙ is

-- Hosts.

pub host_is : (r s t u : Reader) (k : Named) (m : Numeral) → name r ≡ (k, s) → expect_token (word (codes "PORT")) s ≡ (tt, t) → number t ≡ (m, u) → host r ≡ (record { name = k; port = m }, u)
unfolding host
host_is r s t u k m a b c = rw (a, b, c) refl

pub hosts_begin : (r s : Reader) (x : HostText) (one : List HostText) → host r ≡ (x, s) → one ≡ x ∷ [] → hosts r ≡ goes_on is_comma (behind comma_sign host) one s
unfolding hosts
hosts_begin r s x one is one_is = listed_is host r s x is ∙ ap (λ l. goes_on is_comma (behind comma_sign host) l s) (sym one_is)

pub spares_some : (r s t : Reader) (hs : List HostText) (b : Bool) → b ≡ sees (is_word (codes "SPARES")) r → b ≡ true → expect_token (word (codes "SPARES")) r ≡ (tt, s) → hosts s ≡ (hs, t) → spares r ≡ (Some hs, t)
unfolding spares
spares_some r s t hs b seen hit first_is is =
    either_hit (is_word (codes "SPARES")) (map_read (λ x. Some x) (behind (word (codes "SPARES")) hosts)) (nothing None) r b seen hit
    ∙ ap (λ (z : Unit {0} × Reader). (Some (hosts z.1).0, (hosts z.1).1)) first_is ∙ ap (λ (z : List HostText × Reader). (Some z.0, z.1)) is

pub spares_none : (r : Reader) (b : Bool) → b ≡ sees (is_word (codes "SPARES")) r → b ≡ false → spares r ≡ (None, r)
unfolding spares
spares_none r b seen missed = either_missed (is_word (codes "SPARES")) (map_read (λ x. Some x) (behind (word (codes "SPARES")) hosts)) (nothing None) r b seen missed

-- Troupes.

pub troupe_is : (r s t u v w x y z a b : Reader) (k : Named) (c d : KindText) (ms : List HostText) (o : Option (List HostText))
    → expect_token (word (codes "TROUPE")) r ≡ (tt, s) → name s ≡ (k, t) → expect_token (word (codes "CALLS")) t ≡ (tt, u) → call_kind u ≡ (c, v) → expect_token (word (codes "REPLIES")) v ≡ (tt, w) → reply_kind w ≡ (d, x)
    → expect_token (word (codes "MEMBERS")) x ≡ (tt, y) → hosts y ≡ (ms, z) → spares z ≡ (o, a) → expect_token (sign (codes ";")) a ≡ (tt, b)
    → troupe r ≡ (record { name = k; calls = c; replies = d; members = ms; spares = o }, b)
unfolding troupe
troupe_is r s t u v w x y z a b k c d ms o e1 e2 e3 e4 e5 e6 e7 e8 e9 e10 = rw (e1, e2, e3, e4, e5, e6, e7, e8, e9, e10) refl

pub troupes_begin : (r : Reader) (none : List TroupeText) → none ≡ [] → troupes r ≡ goes_on (is_word (codes "TROUPE")) troupe none r
unfolding troupes
troupes_begin r none empty = ap (λ l. goes_on (is_word (codes "TROUPE")) troupe l r) (sym empty)

pub troupes_step : (all : List TroupeText × Reader) (done more : List TroupeText) (r s : Reader) (x : TroupeText) (b : Bool) → all ≡ goes_on (is_word (codes "TROUPE")) troupe done r → b ≡ sees (is_word (codes "TROUPE")) r → b ≡ true
    → troupe r ≡ (x, s) → more ≡ done ++ x ∷ [] → all ≡ goes_on (is_word (codes "TROUPE")) troupe more s
troupes_step all done more r s x b so_far seen hit is more_is =
    so_far ∙ goes_step (is_word (codes "TROUPE")) troupe shrinks_troupe done r s x (sym seen ∙ hit) is ∙ ap (λ l. goes_on (is_word (codes "TROUPE")) troupe l s) (sym more_is)

pub troupes_shorter : (r s : Reader) (x : TroupeText) (b : Bool) → b ≡ sees (is_word (codes "TROUPE")) r → b ≡ true → troupe r ≡ (x, s) → length s.rest < length r.rest
troupes_shorter r s x b seen hit is = shorter (is_word (codes "TROUPE")) troupe shrinks_troupe r s x (sym seen ∙ hit) is

pub troupes_end : (all : List TroupeText × Reader) (done : List TroupeText) (r : Reader) (b : Bool) → all ≡ goes_on (is_word (codes "TROUPE")) troupe done r → b ≡ sees (is_word (codes "TROUPE")) r → b ≡ false → all ≡ (done, r)
troupes_end all done r b so_far seen missed = so_far ∙ goes_end (is_word (codes "TROUPE")) troupe done r (sym seen ∙ missed)

-- The end.

pub ended_stops : (r s : Reader) → 0 < length r.rest → s ≡ stopped_by Unexpected r.stop r.rest r.end → text_end r ≡ (tt, s)
unfolding text_end
ended_stops r s some s_is = by_parts r.stop r.rest some ∙ ap (λ q. (tt, q)) (sym s_is)
  where
    by_parts : (stop : Option Stop) (ts : List Placed) → 0 < length ts → text_end (reader stop ts r.end) ≡ (tt, stopped_by Unexpected stop ts r.end)
    by_parts (Some k) ts some = refl
    by_parts None [] some = absurd (omega arith)
    by_parts None (t ∷ ts) some = refl

pub ended_goes : (r : Reader) → length r.rest ≡ 0 → text_end r ≡ (tt, r)
unfolding text_end
ended_goes r none = by_parts r.stop r.rest none
  where
    by_parts : (stop : Option Stop) (ts : List Placed) → length ts ≡ 0 → text_end (reader stop ts r.end) ≡ (tt, reader stop ts r.end)
    by_parts (Some k) ts none = refl
    by_parts None [] none = refl
    by_parts None (t ∷ ts) none = absurd (omega arith)

pub deployment_is : (r s t u : Reader) (m : RingmasterText) (ts : List TroupeText) → ringmaster r ≡ (m, s) → troupes s ≡ (ts, t) → text_end t ≡ (tt, u) → deployment r ≡ (record { ringmaster = m; troupes = ts }, u)
unfolding deployment
deployment_is r s t u m ts a b c = rw (a, b, c) refl
