-- A stop in the heading or in the interfaces of a file is marked with where the first token stands that was not read.
use Rattle.std.proofs.Common.{◌≡◌, ℕ, zero, suc, Bool, true, false, List, [], ◌∷◌, ◌++◌, length, refl, sym, ◌∙◌, ap, subst, arith, append_assoc, length-append}
use Rattle.std.specs.Prelude.{Option, Some, None, codes, slice_get}
use Rattle.std.specs.List.{flat_map}
use Rattle.std.proofs.lemmas.List.{length-map}
use Rattle.circus_text.specs.Token.{Lexeme}
use Rattle.circus_syntax.specs.declared.named.Named.{Named}
use Rattle.circus_syntax.specs.declared.interface_text.FieldsText.{FieldsText}
use Rattle.circus_syntax.specs.declared.stopping.Stop.{Stop}
use Rattle.circus_syntax.specs.declared.stopping.StopCause.TheVariants.{Unexpected}
use Rattle.circus_syntax.specs.TypeTree.{TypeTree, GroupTrees, no_groups, more_groups, group_trees, type_place}
use Rattle.circus_syntax.specs.InterfaceTree.{DeclaredTree, a_type, an_error, a_procedure, InterfaceTree}
use Rattle.circus_syntax.specs.Placed.{Placed, first, AreTokens, word, sign, digits, is_lexeme, is_name, Due, due, AreDue}
use Rattle.circus_syntax.specs.Reader.{Reader, passes, stop_at, nothing, both, map_read, either, either_case, repeat, repeat_while}
use Rattle.circus_syntax.specs.Reading.{expect_token, interface}
use Rattle.circus_syntax.specs.Spelling.{each, if_written, most_levels, spelling_names, spelling_type, spelling_groups, spelling_more_groups, spelling_fields, spelling_results, spelling_reports, spelling_numbered, spelling_declared, spelling}
use Rattle.circus_syntax.specs.Standing.{Standing, outside, in_type, in_list, apart, standing_type, standing_group, standing_more_groups, standing_groups, standing_fields, standing_arguments, standing_results, standing_declared, standings_of_interface}
use Rattle.circus_syntax.proofs.Sound.{reader, tokens_behind}
use Rattle.circus_syntax.proofs.Twice.{Still, still_both, still_mapped}
use Rattle.circus_syntax.proofs.TwiceInterfaces.{twice_interface}
use Rattle.circus_syntax.proofs.Fills.{still_fixed}
use Rattle.circus_syntax.proofs.Whole.{interface_whole, interface_filled_in}
use Rattle.circus_file.specs.declared.program_text.Format.{Format}
use Rattle.circus_file.specs.declared.program_text.Format.TheVariants.{One, Two}
use Rattle.circus_file.specs.WrittenProgram.{spelling_heading}
use Rattle.circus_file.specs.ProgramReading.{format_number, heading, interfaces}

-- ---- as many stand as there are tokens

pub due_many : (ds : List Due) (ts : List Placed) → AreDue ds ts → length ds ≡ length ts
due_many [] [] are = refl
due_many [] (t ∷ ts) are = absurd are
due_many (d ∷ ds) [] are = absurd are
due_many (d ∷ ds) (t ∷ ts) are = omega (arith, due_many ds ts are.1)

joined : {A B : Type 0} (ms ns : List A) (ds es : List B) → length ms ≡ length ds → length ns ≡ length es → length (ms ++ ns) ≡ length (ds ++ es)
joined ms ns ds es front back = omega (arith, front, back, length-append ms ns, length-append ds es)

apart_many : (ds : List Due) → length (apart ds) ≡ length ds
apart_many ds = length-map ds (λ _. outside)

type_many : (t : TypeTree) → length (standing_type t) ≡ length (spelling_type t)
type_many t = length-map (apart (spelling_type t)) (in_type (type_place t)) ∙ apart_many (spelling_type t)

-- names and the type that they share
abbrev shared : List Named → TypeTree → List Due
shared ns t = spelling_names ns ++ due (sign (codes ":")) ∷ spelling_type t

group_many : (ns : List Named) (t : TypeTree) → length (standing_group ns t) ≡ length (shared ns t)
group_many ns t = joined (apart (spelling_names ns)) (outside ∷ standing_type t) (spelling_names ns) (due (sign (codes ":")) ∷ spelling_type t) (apart_many (spelling_names ns)) (omega (arith, type_many t))

more_many : (gs : GroupTrees) → length (standing_more_groups gs) ≡ length (spelling_more_groups gs)
more_many no_groups = refl
more_many (more_groups ns t gs) = omega (arith, joined (standing_group ns t) (standing_more_groups gs) (shared ns t) (spelling_more_groups gs) (group_many ns t) (more_many gs))

groups_many : (gs : GroupTrees) → length (standing_groups gs) ≡ length (spelling_groups gs)
groups_many no_groups = refl
groups_many (more_groups ns t gs) = joined (standing_group ns t) (standing_more_groups gs) (shared ns t) (spelling_more_groups gs) (group_many ns t) (more_many gs)

fields_many : (f : FieldsText) → length (standing_fields f) ≡ length (spelling_fields f)
fields_many f =
    let inner = standing_groups (group_trees f.groups) ++ outside ∷ [] in
    length-map (outside ∷ inner) (in_list f.at)
    ∙ omega (arith, joined (standing_groups (group_trees f.groups)) (outside ∷ []) (spelling_groups (group_trees f.groups)) (due (sign (codes "]")) ∷ []) (groups_many (group_trees f.groups)) refl)

arguments_many : (o : Option FieldsText) → length (standing_arguments o) ≡ length (if_written spelling_fields o)
arguments_many None = refl
arguments_many (Some f) = fields_many f

results_many : (o : Option FieldsText) → length (standing_results o) ≡ length (if_written spelling_results o)
results_many None = refl
results_many (Some f) = omega (arith, fields_many f)

declared_many : (d : DeclaredTree) → length (standing_declared d) ≡ length (spelling_declared d)
declared_many (a_type n t) = omega (arith, joined (standing_type t) (outside ∷ []) (spelling_type t) (due (sign (codes ";")) ∷ []) (type_many t) refl)
declared_many (an_error e) =
    let numbered = spelling_numbered e.number in
    omega (arith, joined (standing_arguments e.arguments) (apart numbered) (if_written spelling_fields e.arguments) numbered (arguments_many e.arguments) refl)
declared_many (a_procedure p) =
    let numbered = spelling_numbered p.number in
    let reports = if_written spelling_reports p.reports in
    omega (
      arith,
      joined (standing_arguments p.arguments) (standing_results p.results ++ (apart reports ++ apart numbered)) (if_written spelling_fields p.arguments) (if_written spelling_results p.results ++ (reports ++ numbered)) (arguments_many p.arguments)
          (joined (standing_results p.results) (apart reports ++ apart numbered) (if_written spelling_results p.results) (reports ++ numbered) (results_many p.results) (joined (apart reports) (apart numbered) reports numbered (apart_many reports) refl)),
    )

each_many : {A : Type 0} (stand : A → List Standing) (spell : A → List Due) → ((x : A) → length (stand x) ≡ length (spell x)) → (xs : List A) → length (flat_map stand xs) ≡ length (each spell xs)
each_many stand spell many [] = refl
each_many stand spell many (x ∷ xs) = joined (stand x) (flat_map stand xs) (spell x) (each spell xs) (many x) (each_many stand spell many xs)

interface_many : (i : InterfaceTree) → length (standings_of_interface i) ≡ length (spelling i)
interface_many i =
    omega (
      arith,
      joined (flat_map standing_declared i.declared) (outside ∷ outside ∷ []) (each spelling_declared i.declared) (due (word (codes "END")) ∷ due (sign (codes ".")) ∷ [])
          (each_many standing_declared spelling_declared declared_many i.declared) refl,
    )

pub front_many : (f : Format) (is : List InterfaceTree) → length (apart (spelling_heading f) ++ flat_map standings_of_interface is) ≡ length (spelling_heading f ++ each spelling is)
front_many f is = joined (apart (spelling_heading f)) (flat_map standings_of_interface is) (spelling_heading f) (each spelling is) refl (each_many standings_of_interface spelling interface_many is)

-- ---- how stops are marked

-- all tokens stand so, or the first that was not read is the one that a stop is marked with
abbrev pub CutBy : List Standing → Option Stop → List Placed → Type 0
CutBy ms None taken = length ms ≡ length taken
CutBy ms (Some s) taken = slice_get ms (length taken) ≡ Some (record { within = s.within; list = s.list })

abbrev pub Of : {A : Type 0} → (A → List Standing) → List Placed → A × Reader → Type 0
Of stand ts x = (taken : List Placed) × (ts ≡ taken ++ x.1.rest) × CutBy (stand x.0) x.1.stop taken

pub record Cuts {A : Type 0} (p : Reader → A × Reader) (stand : A → List Standing) : Type 0 where
  pub stays : Still p
  pub run : (ts : List Placed) → AreTokens ts → (e : ℕ) → Of stand ts (p (reader None ts e))

cuts_fixed : (l : Lexeme) → Cuts (expect_token l) (λ x. outside ∷ [])
unfolding expect_token
cuts_fixed l = record { stays = still_fixed l; run = λ ts tokens e. by_tokens ts e }
  where
    tested : (t : Placed) (ts : List Placed) (e : ℕ) (b : Bool) → is_lexeme l t ≡ b → Of (λ x. outside ∷ []) (t ∷ ts) (expect_token l (reader None (t ∷ ts) e))
    tested t ts e true hit =
        let seen : expect_token l (reader None (t ∷ ts) e) ≡ (tt, reader None ts e) = rw hit refl in
        subst (Of (λ x. outside ∷ []) (t ∷ ts)) (sym seen) (t ∷ [], refl, refl)
    tested t ts e false missed =
        let unseen : expect_token l (reader None (t ∷ ts) e) ≡ (tt, reader (Some (stop_at Unexpected t.start)) (t ∷ ts) e) = rw missed refl in
        subst (Of (λ x. outside ∷ []) (t ∷ ts)) (sym unseen) ([], refl, refl)

    by_tokens : (ts : List Placed) (e : ℕ) → Of (λ x. outside ∷ []) ts (expect_token l (reader None ts e))
    by_tokens [] e = ([], refl, refl)
    by_tokens (t ∷ ts) e = tested t ts e (is_lexeme l t) refl

cuts_nothing : {A : Type 0} (a : A) (stand : A → List Standing) → stand a ≡ [] → Cuts (nothing a) stand
cuts_nothing a stand none = record { stays = record { still = λ s ts e. refl; ends = λ ts e. refl }; run = λ ts tokens e. ([], refl, ap length none) }

cuts_mapped : {A B : Type 0} (f : A → B) {p : Reader → A × Reader} {sa : A → List Standing} (sb : B → List Standing) → ((x : A) → sb (f x) ≡ sa x) → Cuts p sa → Cuts (map_read f p) sb
cuts_mapped f {p} sb same P = record {
  stays = still_mapped f P.stays;
  run = λ ts tokens e.
      let x = p (reader None ts e) in
      let (taken, whole, cut) = P.run ts tokens e in
      (taken, whole, subst (λ ms. CutBy ms x.1.stop taken) (sym (same x.0)) cut);
}

in_front : (ms ns : List Standing) (k : ℕ) (m : Standing) → slice_get ms k ≡ Some m → slice_get (ms ++ ns) k ≡ Some m
in_front [] ns k m is = absurd (cc)
in_front (n ∷ ms) ns zero m is = is
in_front (n ∷ ms) ns (suc k) m is = in_front ms ns k m is

further : (ms ns : List Standing) (taken us : List Placed) (o : Option Stop) → length ms ≡ length taken → CutBy ns o us → CutBy (ms ++ ns) o (taken ++ us)
further ms ns taken us None front back = omega (arith, front, back, length-append ms ns, length-append taken us)
further [] ns [] us (Some s) front back = back
further [] ns (t ∷ taken) us (Some s) front back = absurd (omega (arith, front))
further (m ∷ ms) ns [] us (Some s) front back = absurd (omega (arith, front))
further (m ∷ ms) ns (t ∷ taken) us (Some s) front back = further ms ns taken us (Some s) (omega (arith, front)) back

cuts_both : {A B : Type 0} {p : Reader → A × Reader} {q : Reader → B × Reader} {sa : A → List Standing} {sb : B → List Standing} → Cuts p sa → Cuts q sb → Cuts (both p q) (λ x. sa x.0 ++ sb x.1)
cuts_both {A} {B} {p} {q} {sa} {sb} P Q = record { stays = still_both P.stays Q.stays; run = λ ts tokens e. by_stop ts tokens e (p (reader None ts e)).1.stop refl (P.run ts tokens e) }
  where
    by_stop : (ts : List Placed) → AreTokens ts → (e : ℕ) (o : Option Stop) → (p (reader None ts e)).1.stop ≡ o → Of sa ts (p (reader None ts e)) → Of {A = A × B} (λ z. sa z.0 ++ sb z.1) ts (both p q (reader None ts e))
    by_stop ts tokens e None going (taken, whole, cut) =
        let x = p (reader None ts e) in
        let is_reader : x.1 ≡ reader None x.1.rest e = λ i. reader (going i) x.1.rest (P.stays.ends ts e i) in
        let y = q (reader None x.1.rest e) in
        let (more, rest_is, on) = Q.run x.1.rest (tokens_behind taken x.1.rest (subst AreTokens whole tokens)) e in
        subst (λ r. Of {A = A × B} (λ z. sa z.0 ++ sb z.1) ts ((x.0, (q r).0), (q r).1)) (sym is_reader) (
          taken ++ more,
          whole ∙ ap (λ l. taken ++ l) rest_is ∙ sym (append_assoc taken more y.1.rest),
          further (sa x.0) (sb y.0) taken more y.1.stop (subst (λ o. CutBy (sa x.0) o taken) going cut) on,
        )
    by_stop ts tokens e (Some s) halted (taken, whole, cut) =
        let x = p (reader None ts e) in
        let is_reader : x.1 ≡ reader (Some s) x.1.rest e = λ i. reader (halted i) x.1.rest (P.stays.ends ts e i) in
        let y = q (reader (Some s) x.1.rest e) in
        subst (λ r. Of {A = A × B} (λ z. sa z.0 ++ sb z.1) ts ((x.0, (q r).0), (q r).1)) (sym is_reader)
        (subst (λ r. Of {A = A × B} (λ z. sa z.0 ++ sb z.1) ts ((x.0, y.0), r)) (sym (Q.stays.still s x.1.rest e))
        (taken, whole, in_front (sa x.0) (sb y.0) (length taken) (record { within = s.within; list = s.list }) (subst (λ o. CutBy (sa x.0) o taken) halted cut)))

cuts_either : {A : Type 0} (test : Placed → Bool) {p q : Reader → A × Reader} {stand : A → List Standing} → Cuts p stand → Cuts q stand → Cuts (either test p q) stand
cuts_either test {p} {q} {stand} P Q = record {
  stays = record { still = λ s ts e. Q.stays.still s ts e; ends = λ ts e. (each (passes test (first ts))).stays.ends ts e };
  run = λ ts tokens e. (each (passes test (first ts))).run ts tokens e;
}
  where
    each : (b : Bool) → Cuts (either_case p q b) stand
    each true = P
    each false = Q

cuts_repeated : {A : Type 0} (test : Placed → Bool) {item : Reader → A × Reader} {stand : A → List Standing} → Cuts item stand → Cuts (repeat_while test item) (flat_map stand)
cuts_repeated test {item} {stand} P = record {
  stays = record { still = λ s ts e. (times (length ts)).stays.still s ts e; ends = λ ts e. (times (length ts)).stays.ends ts e };
  run = λ ts tokens e. (times (length ts)).run ts tokens e;
}
  where
    times : (n : ℕ) → Cuts (repeat test item n) (flat_map stand)
    times zero = cuts_nothing [] (flat_map stand) refl
    times (suc n) = cuts_either test (cuts_mapped (λ x. x.0 ∷ x.1) (flat_map stand) (λ x. refl) (cuts_both P (times n))) (cuts_nothing [] (flat_map stand) refl)

cuts_interface : Cuts (interface most_levels) standings_of_interface
cuts_interface = record { stays = stays; run = λ ts tokens e. by_stop ts tokens e (interface most_levels (reader None ts e)).1.stop refl }
  where
    stays : Still (interface most_levels)
    stays = (twice_interface 0 most_levels).stays

    by_stop : (ts : List Placed) → AreTokens ts → (e : ℕ) (o : Option Stop) → (interface most_levels (reader None ts e)).1.stop ≡ o → Of standings_of_interface ts (interface most_levels (reader None ts e))
    by_stop ts tokens e None going =
        let x = interface most_levels (reader None ts e) in
        let (own, whole, is, within) = interface_whole ts x.1.rest x.0 e tokens (λ i. (x.0, reader (going i) x.1.rest (stays.ends ts e i))) in
        (own, whole, subst (λ o. CutBy (standings_of_interface x.0) o own) (sym going) (interface_many x.0 ∙ due_many (spelling x.0) own is.spelled))
    by_stop ts tokens e (Some s) halted =
        let x = interface most_levels (reader None ts e) in
        let filled = interface_filled_in ts x.1.rest x.0 s e tokens (λ i. (x.0, reader (halted i) x.1.rest (stays.ends ts e i))) in
        (filled.read, filled.whole, subst (λ o. CutBy (standings_of_interface x.0) o filled.read) (sym halted) filled.cut)

cuts_heading : Cuts heading (λ f. apart (spelling_heading f))
unfolding heading format_number
cuts_heading =
    cuts_mapped (λ x. x.1.0) (λ f. apart (spelling_heading f)) (λ x. refl)
    (cuts_both (cuts_fixed (word (codes "CIRCUS")))
    (cuts_both
    (cuts_either (is_lexeme (digits (codes "2"))) (cuts_mapped (λ x. Two) (λ f. outside ∷ []) (λ x. refl) (cuts_fixed (digits (codes "2")))) (cuts_mapped (λ x. One) (λ f. outside ∷ []) (λ x. refl) (cuts_fixed (digits (codes "1")))))
    (cuts_fixed (sign (codes ";")))))

cuts_interfaces : Cuts (interfaces most_levels) (flat_map standings_of_interface)
unfolding interfaces
cuts_interfaces = cuts_repeated is_name cuts_interface

pub cuts_front : Cuts (both heading (interfaces most_levels)) (λ x. apart (spelling_heading x.0) ++ flat_map standings_of_interface x.1)
cuts_front = cuts_both cuts_heading cuts_interfaces
