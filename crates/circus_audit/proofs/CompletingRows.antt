-- Clean lines, read one behind another.
use Rattle.std.specs.List.{AllByRecursion}
use Rattle.std.proofs.Common.{◌≡◌, ◌∙◌, ℕ, true, false, cond, nat_eq, nat_le, List, [], ◌∷◌, ◌++◌, option_map, Option, Some, refl, sym, ap, subst, arith, append_assoc, append-nil}
use Rattle.std.proofs.lemmas.Bool.{and_parts, leb-true, ne_eqb}
use Rattle.circus_record.specs.Line.{line}
use Rattle.circus_config.specs.declared.plan.Plan.{Plan}
use Rattle.circus_audit.specs.declared.setting.Hosted.{Hosted}
use Rattle.circus_audit.specs.declared.stage.Stage.{Stage}
use Rattle.circus_audit.specs.Seen.Answers.{from_some}
use Rattle.circus_audit.specs.Seen.Breaking.{onto_line, all_lines}
use Rattle.circus_audit.specs.Seen.Reading.{stage_after, stage_behind}
use Rattle.circus_audit.proofs.Opening.{from_is}
use Rattle.circus_audit.proofs.OneLine.{is_clean}
use Rattle.circus_audit.proofs.SoundingRecord.{joined}

clean_row : (row text : List ℕ) (rows : List (List ℕ)) → is_clean row ≡ true → all_lines text ≡ Some rows → all_lines (line row ++ text) ≡ Some (row ∷ rows)
clean_row [] text rows clean is = ap (option_map (λ (ls : List (List ℕ)). [] ∷ ls)) is
clean_row (b ∷ row) text rows clean is =
    let parts = and_parts (nat_le 32 b) (is_clean row) clean in
    let large = leb-true 32 b parts.0 in
    let other : nat_eq b 10 ≡ false = ne_eqb b 10 (λ e. omega (arith, large, e)) in
    ap (λ t. cond t (option_map (λ (ls : List (List ℕ)). [] ∷ ls) (all_lines (line row ++ text))) (from_some (all_lines (line row ++ text)) (onto_line b))) other
    ∙ ap (λ r. from_some r (onto_line b)) (clean_row row text rows parts.1 is)

-- lines without newlines are the lines of their text
pub lines_of_joined : (rows : List (List ℕ)) → AllByRecursion (λ row. is_clean row ≡ true) rows → all_lines (joined rows) ≡ Some rows
lines_of_joined [] clean = refl
lines_of_joined (row ∷ rows) clean = clean_row row (joined rows) rows clean.0 (lines_of_joined rows clean.1)

joined_both : (xs ys : List (List ℕ)) → joined (xs ++ ys) ≡ joined xs ++ joined ys
joined_both [] ys = refl
joined_both (x ∷ xs) ys = ap (λ t. line x ++ t) (joined_both xs ys) ∙ sym (append_assoc (line x) (joined xs) (joined ys))

pub all_both : {X : Type 0} (P : X → Type 0) (xs ys : List X) → AllByRecursion P xs → AllByRecursion P ys → AllByRecursion P (xs ++ ys)
all_both P [] ys first second = second
all_both P (x ∷ xs) ys first second = (first.0, all_both P xs ys first.1 second)

module _ (plan : Plan) (own : ℕ) (hosted : Option Hosted) where
  -- the lines of a text lead from one stage to another
  pub record Reads (stage : Stage) (text : List ℕ) (next : Stage) : Type 0 where
    pub rows : List (List ℕ)
    pub text_is : text ≡ joined rows
    pub clean : AllByRecursion (λ row. is_clean row ≡ true) rows
    pub reach : stage_behind plan own hosted stage rows ≡ Some next

  pub none_read : (stage : Stage) → Reads stage [] stage
  none_read stage = record { rows = []; text_is = refl; clean = tt; reach = refl }

  pub one_read : (stage : Stage) (row : List ℕ) (next : Stage) → is_clean row ≡ true → stage_after plan own hosted stage row ≡ Some next → Reads stage (line row) next
  one_read stage row next clean is = record {
    rows = row ∷ [];
    text_is = sym (append-nil (line row));
    clean = (clean, tt);
    reach = ap (λ r. from_some r (λ n. stage_behind plan own hosted n [])) is;
  }

  behind_both : (stage mid last : Stage) (xs ys : List (List ℕ)) → stage_behind plan own hosted stage xs ≡ Some mid → stage_behind plan own hosted mid ys ≡ Some last → stage_behind plan own hosted stage (xs ++ ys) ≡ Some last
  behind_both stage mid last [] ys first second =
      let same : stage ≡ mid = cc in
      ap (λ s. stage_behind plan own hosted s ys) same ∙ second
  behind_both stage mid last (x ∷ xs) ys first second =
      let at = from_is (stage_after plan own hosted stage x) (λ next. stage_behind plan own hosted next xs) mid first in
      ap (λ r. from_some r (λ next. stage_behind plan own hosted next (xs ++ ys))) at.1 ∙ behind_both at.0 mid last xs ys at.2 second

  pub both_read : (stage mid last : Stage) (text more : List ℕ) → Reads stage text mid → Reads mid more last → Reads stage (text ++ more) last
  both_read stage mid last text more first second = record {
    rows = first.rows ++ second.rows;
    text_is = (λ i. first.text_is i ++ second.text_is i) ∙ sym (joined_both first.rows second.rows);
    clean = all_both (λ row. is_clean row ≡ true) first.rows second.rows first.clean second.clean;
    reach = behind_both stage mid last first.rows second.rows first.reach second.reach;
  }

  -- lines lead from one stage to another
  pub record Goes (stage next : Stage) : Type 0 where
    pub rows : List (List ℕ)
    pub clean : AllByRecursion (λ row. is_clean row ≡ true) rows
    pub reach : stage_behind plan own hosted stage rows ≡ Some next

  pub goes_by : {text : List ℕ} (stage next : Stage) → Reads stage text next → Goes stage next
  goes_by stage next r = record { rows = r.rows; clean = r.clean; reach = r.reach }

  pub stays : (stage : Stage) → Goes stage stage
  stays stage = record { rows = []; clean = tt; reach = refl }

  pub both_go : (stage mid last : Stage) → Goes stage mid → Goes mid last → Goes stage last
  both_go stage mid last first second = record {
    rows = first.rows ++ second.rows;
    clean = all_both (λ row. is_clean row ≡ true) first.rows second.rows first.clean second.clean;
    reach = behind_both stage mid last first.rows second.rows first.reach second.reach;
  }

  -- the same text, or the same stage behind it
  pub text_read : (stage next : Stage) (text other : List ℕ) → text ≡ other → Reads stage text next → Reads stage other next
  text_read stage next text other same = subst (λ t. Reads stage t next) same

  pub to_read : (stage next other : Stage) (text : List ℕ) → next ≡ other → Reads stage text next → Reads stage text other
  to_read stage next other text same = subst (λ s. Reads stage text s) same
