-- The lines of runs that are read are those of what was read.
use Rattle.std.proofs.Common.{◌≡◌, ◌∙◌, ℕ, ◌<◌, ◌^◌, Bool, true, false, cond, List, ◌++◌, length, codes, Option, Some, None, refl, sym, ap, subst, append_assoc}
use Rattle.std.specs.List.{AllByRecursion}
use Rattle.std.specs.Option.{option_map_or}
use Rattle.std.specs.Fmt.{decimal}
use Rattle.circus_value.specs.Fits.{all_fit}
use Rattle.circus_value.specs.Shown.{shown_list}
use Rattle.circus_value.specs.ThreadText.{clock_text, numbers_behind}
use Rattle.circus_model.specs.Lawful.{procedure_numbered, arguments_fit}
use Rattle.circus_model.specs.declared.signature.ProcedureShape.{ProcedureShape}
use Rattle.circus_model.specs.declared.signature.Signature.{Signature}
use Rattle.circus_collate.specs.declared.deployment.Deployment.{Deployment}
use Rattle.circus_node.specs.Accepting.{is_root}
use Rattle.circus_value_text.specs.Reading.{Read, and_then}
use Rattle.circus_value_text.specs.WordReading.{asks_read}
use Rattle.circus_value_text.proofs.Marks.{pair_is, and_then_some}
use Rattle.circus_value_text.proofs.WordsInverse.{asks_sound}
use Rattle.circus_audit.specs.declared.member_line.Entered.{Entered}
use Rattle.circus_audit.specs.declared.member_line.Performs.{Performs}
use Rattle.circus_audit.specs.Seen.Names.{number_of_name, name_at}
use Rattle.circus_audit.specs.Seen.Values.{values_behind, by_shape}
use Rattle.circus_audit.specs.Seen.Lines.{numbered_step, name_behind, word_behind, clock_behind, root_read, entered_read, arguments_read, performs_read}
use Rattle.circus_audit.proofs.Sounding.{Sounds, behind_sound, numbered_sound, word_sound, clock_behind_sound}
use Rattle.circus_audit.proofs.SoundingValues.{values_behind_sound}
use Rattle.circus_audit.proofs.SoundingMember.{three_sound, named_sound}

pub by_shape_some : {A : Type 0} (o : Option ProcedureShape) (f : ProcedureShape → Read A) (a : A × List ℕ) → by_shape o f ≡ Some a → (p : ProcedureShape) × (o ≡ Some p) × (f p ≡ Some a)
by_shape_some (Some p) f a is = (p, refl, is)
by_shape_some None f a is = cc

-- a module behind a mark
pub name_behind_sound : (mark : List ℕ) (names : List (List ℕ)) → Sounds (name_behind mark names) (λ n. mark ++ name_at names n) (λ n. n < length names)
name_behind_sound mark names = behind_sound mark (number_of_name names) (name_at names) (λ n. n < length names) (named_sound names)

root_sound : (modules : List (List ℕ)) (d : Deployment) → Sounds (root_read modules d) (λ n. codes " path " ++ name_at modules n) (λ n. (n < length modules) × (is_root d n ≡ true))
root_sound modules d text n rest is =
    let x = and_then_some (name_behind (codes " path ") modules text) (λ root r. cond {A = Read ℕ} (is_root d root) (Some (root, r)) None) (n, rest) is in
    let one = name_behind_sound (codes " path ") modules text x.0.0 x.0.1 x.1 in
    by_root x.0.0 x.0.1 one.0 one.1 (is_root d x.0.0) refl x.2
  where
    by_root : (root : ℕ) (later : List ℕ) → text ≡ (codes " path " ++ name_at modules root) ++ later → root < length modules → (b : Bool) → is_root d root ≡ b → cond {A = Read ℕ} b (Some (root, later)) None ≡ Some (n, rest) → (text ≡ (codes " path " ++ name_at modules n) ++ rest) × ((n < length modules) × (is_root d n ≡ true))
    by_root root later stands few true is_one same =
        let parts = pair_is root n later rest same in
        (stands ∙ (λ i. (codes " path " ++ name_at modules (parts.0 i)) ++ parts.1 i), (subst (λ k. k < length modules) parts.0 few, ap (is_root d) (sym parts.0) ∙ is_one))
    by_root root later stands few false is_one same = cc

abbrev pub entered_text : List (List ℕ) → ℕ → Entered → List ℕ
entered_text modules place e = (decimal place ++ (codes " step " ++ decimal e.started)) ++ ((codes " path " ++ name_at modules e.root) ++ numbers_behind 46 e.path)

abbrev pub IsEntered : List (List ℕ) → Deployment → ℕ → Entered → Type 0
IsEntered modules d events e = (e.started < events) × ((e.root < length modules) × (is_root d e.root ≡ true)) × AllByRecursion (λ n. n < 2 ^ 16) e.path

pub entered_sound : (modules : List (List ℕ)) (d : Deployment) (events most place : ℕ) → events < 2 ^ 64 → Sounds (entered_read modules d events most place) (entered_text modules place) (IsEntered modules d events)
entered_sound modules d events most place short text e rest is =
    let s = three_sound (numbered_step place events) (λ n. decimal place ++ (codes " step " ++ decimal n)) (λ n. n < events) (root_read modules d) (λ n. codes " path " ++ name_at modules n) (λ n. (n < length modules) × (is_root d n ≡ true)) (asks_read most) (numbers_behind 46) (λ path. AllByRecursion (λ n. n < 2 ^ 16) path) (λ started root path. record { started = started; root = root; path = path }) (numbered_sound place events short) (root_sound modules d) (λ t path r read. asks_sound most t path r read) text e rest is in
    (s.4 ∙ ap (λ x. entered_text modules place x ++ rest) (sym s.3), subst (IsEntered modules d events) (sym s.3) (s.5, s.6, s.7))

abbrev pub performs_text : Performs → List ℕ
performs_text p = (codes " procedure " ++ decimal p.procedure) ++ ((codes " clock " ++ clock_text p.entry) ++ (codes " arguments " ++ shown_list p.arguments))

abbrev pub CanPerform : ℕ → Signature → Performs → Type 0
CanPerform modules s p =
    (p.procedure < 2 ^ 16) × ((length p.entry ≡ modules) × AllByRecursion (λ n. n < 2 ^ 32) p.entry) × (arguments_fit s.procedures p.procedure p.arguments ≡ true)

arguments_sound : (s : Signature) (procedure : ℕ) (entry text : List ℕ) (p : Performs) (rest : List ℕ) → arguments_read s procedure entry text ≡ Some (p, rest) → (text ≡ (codes " arguments " ++ shown_list p.arguments) ++ rest) × (p.procedure ≡ procedure) × (p.entry ≡ entry) × (arguments_fit s.procedures p.procedure p.arguments ≡ true)
arguments_sound s procedure entry text p rest is =
    let shape = by_shape_some (procedure_numbered procedure s.procedures) (λ x. and_then (values_behind (codes " arguments ") x.arguments text) (λ arguments r. Some (record { procedure = procedure; entry = entry; arguments = arguments }, r))) (p, rest) is in
    let x = and_then_some (values_behind (codes " arguments ") shape.0.arguments text) (λ arguments r. Some (record { procedure = procedure; entry = entry; arguments = arguments }, r)) (p, rest) shape.2 in
    let one = values_behind_sound (codes " arguments ") shape.0.arguments text x.0.0 x.0.1 x.1 in
    let parts = pair_is (record { procedure = procedure; entry = entry; arguments = x.0.0 }) p x.0.1 rest x.2 in
    let fit : arguments_fit s.procedures procedure x.0.0 ≡ true = ap (λ o. option_map_or (λ (y : ProcedureShape). all_fit y.arguments x.0.0) o false) shape.1 ∙ one.1 in (
      one.0 ∙ (λ i. (codes " arguments " ++ shown_list (parts.0 i).arguments) ++ parts.1 i),
      sym (ap (λ (q : Performs). q.procedure) parts.0),
      sym (ap (λ (q : Performs). q.entry) parts.0),
      subst (λ (q : Performs). arguments_fit s.procedures q.procedure q.arguments ≡ true) parts.0 fit,
    )

pub performs_sound : (modules : List (List ℕ)) (s : Signature) → Sounds (performs_read modules s) performs_text (CanPerform (length modules) s)
performs_sound modules s text p rest is =
    let x = and_then_some (word_behind (codes " procedure ") text) (λ procedure a. and_then (clock_behind (length modules) a) (λ entry r. arguments_read s procedure entry r)) (p, rest) is in
    let y = and_then_some (clock_behind (length modules) x.0.1) (λ entry r. arguments_read s x.0.0 entry r) (p, rest) x.2 in
    let one = word_sound (codes " procedure ") text x.0.0 x.0.1 x.1 in
    let two = clock_behind_sound (length modules) x.0.1 y.0.0 y.0.1 y.1 in
    let three = arguments_sound s x.0.0 y.0.0 y.0.1 p rest y.2 in
    let stands = one.0 ∙ ap (λ w. (codes " procedure " ++ decimal x.0.0) ++ w) (two.0 ∙ ap (λ w. (codes " clock " ++ clock_text y.0.0) ++ w) three.0) in
    let same : text ≡ (codes " procedure " ++ decimal p.procedure) ++ ((codes " clock " ++ clock_text p.entry) ++ ((codes " arguments " ++ shown_list p.arguments) ++ rest)) =
    stands ∙ (λ i. (codes " procedure " ++ decimal (sym three.1 i)) ++ ((codes " clock " ++ clock_text (sym three.2 i)) ++ ((codes " arguments " ++ shown_list p.arguments) ++ rest))) in
    (same ∙ group (codes " procedure " ++ decimal p.procedure) (codes " clock " ++ clock_text p.entry) (codes " arguments " ++ shown_list p.arguments) rest, (subst (λ n. n < 2 ^ 16) (sym three.1) one.1, subst (λ c. (length c ≡ length modules) × AllByRecursion (λ n. n < 2 ^ 32) c) (sym three.2) two.1, three.3))
  where
    group : (a b c d : List ℕ) → a ++ (b ++ (c ++ d)) ≡ (a ++ (b ++ c)) ++ d
    group a b c d = simp append_assoc
