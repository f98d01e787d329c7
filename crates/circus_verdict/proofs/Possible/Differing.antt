-- The differences that a node run tells may stand in a record of the node.
use Rattle.std.specs.List.{AllByRecursion}
use Rattle.std.specs.Option.{option_map_or}
use Rattle.std.specs.Prelude.{slice_get, nat_lt, option_and_then, if◌then◌else◌}
use Rattle.std.proofs.Common.{◌≡◌, ℕ, zero, suc, ◌+◌, ◌-◌, ◌<◌, ◌≤◌, ◌^◌, ◌&&◌, Bool, true, false, List, [], ◌∷◌, ◌++◌, map, length, Option, None, Some, refl, sym, subst, ◌∙◌, arith}
use Rattle.std.proofs.lemmas.Bool.{ltb-false}
use Rattle.std.proofs.lemmas.List.Elements.{recursion_from_All}
use Rattle.std.proofs.lemmas.Option.{slice_get_within}
use Rattle.circus_header.specs.declared.answer.Reply.{Reply}
use Rattle.circus_header.specs.ReplyEquality.{reply_eq}
use Rattle.circus_collate.specs.declared.giving.Said.{Said}
use Rattle.circus_collate.specs.declared.view.View.{View}
use Rattle.circus_model.specs.declared.signature.Signature.{Signature}
use Rattle.circus_config.specs.declared.plan.Plan.{Plan}
use Rattle.circus_record.specs.declared.record.AskRecord.{AskRecord}
use Rattle.circus_record.specs.declared.record.MemberRecord.{MemberRecord}
use Rattle.circus_record.specs.declared.record.RunRecord.{RunRecord}
use Rattle.circus_performing.specs.Performing.{last_count}
use Rattle.circus_performing.proofs.Records.{none_is_some}
use Rattle.circus_member_rules.specs.declared.occurrence.AskName.{AskName}
use Rattle.circus_member_rules.specs.declared.occurrence.Difference.{Difference}
use Rattle.circus_member_rules.specs.declared.occurrence.Occurrence.{Occurrence}
use Rattle.circus_member_rules.specs.declared.occurrence.Occurrence.TheVariants as comes
use Rattle.circus_member_rules.specs.declared.place.Place.{Place}
use Rattle.circus_node.specs.Accepting.{imported_procedure, recorded_ask}
use Rattle.circus_member_theory.specs.Differences.{watches, ask_named, difference_from, is_open, first_reply, differences_now, differences}
use Rattle.circus_member_theory.specs.Past.{Past, booted, followed, replies_to}
use Rattle.circus_member_theory.specs.Returns.{run_of}
use Rattle.circus_member_theory.proofs.Accepting.Options.{Before, before_some}
use Rattle.circus_member_theory.proofs.Accepting.Taken.{imported_as, imported_answers}
use Rattle.circus_headline_theory.proofs.Asks.{callee_of, recorded_at, imported_recorded}
use Rattle.circus_audit.specs.Possible.{IsOther, IsNamed, IsReplyTo}
use Rattle.circus_verdict.proofs.Possible.Occurring.{IsWellReplied, IsWell}
use Rattle.circus_verdict.proofs.Possible.Pasts.{Each, replies_hold}

-- ---- lists

pub all_both : {X : Type 0} (P : X → Type 0) (xs ys : List X) → AllByRecursion P xs → AllByRecursion P ys → AllByRecursion P (xs ++ ys)
all_both P [] ys one other = other
all_both P (x ∷ xs) ys one other = (one.0, all_both P xs ys one.1 other)

pub all_parts : {X : Type 0} (P : X → Type 0) (xs ys : List X) → AllByRecursion P (xs ++ ys) → AllByRecursion P xs × AllByRecursion P ys
all_parts P [] ys all = (tt, all)
all_parts P (x ∷ xs) ys all = (let rest = all_parts P xs ys all.1 in ((all.0, rest.0), rest.1))

pub all_mapped : {X Y : Type 0} (P : Y → Type 0) (f : X → Y) (xs : List X) → AllByRecursion (λ x. P (f x)) xs → AllByRecursion P (map f xs)
all_mapped P f [] all = tt
all_mapped P f (x ∷ xs) all = (all.0, all_mapped P f xs all.1)

pub all_unmapped : {X Y : Type 0} (P : Y → Type 0) (f : X → Y) (xs : List X) → AllByRecursion P (map f xs) → AllByRecursion (λ x. P (f x)) xs
all_unmapped P f [] all = tt
all_unmapped P f (x ∷ xs) all = (all.0, all_unmapped P f xs all.1)

all_at : {X : Type 0} (P : X → Type 0) (xs : List X) (k : ℕ) (x : X) → AllByRecursion P xs → slice_get xs k ≡ Some x → P x
all_at P [] k x all at = absurd (none_is_some at)
all_at P (y ∷ xs) zero x all at = (let same : y ≡ x = cc in subst P same all.0)
all_at P (y ∷ xs) (suc k) x all at = all_at P xs k x all.1 at

module _ (plan : Plan) (named : length plan.names ≡ length plan.deployment.troupes) (s : Signature) (node own : ℕ) (kept : MemberRecord) where
  abbrev Well : Occurrence → Type 0
  Well o = IsWell plan named s node own kept o

  abbrev WellReplied : AskName → ℕ → Reply → Type 0
  WellReplied name from reply = IsWellReplied plan named s node own kept name from reply

  -- two nodes replied to an ask of the record
  pub record DiffersWell (d : Difference) : Type 0 where
    pub ask : AskRecord
    pub there : ask_named kept (record { run = d.run; ask = d.ask }) ≡ Some ask
    pub first : WellReplied (record { run = d.run; ask = d.ask }) d.first d.first_reply
    pub second : WellReplied (record { run = d.run; ask = d.ask }) d.second d.second_reply

  abbrev WellSaid : AskName → Said Reply → Type 0
  WellSaid name said = WellReplied name said.node said.value

  module _ (place : Place) (boot : List View) where
    differs_from : (name : AskName) (from : ℕ) (reply : Reply) (p : Past) → Each Well p → WellReplied name from reply
        → AllByRecursion DiffersWell (option_map_or (difference_from name from reply) (first_reply place boot kept p name) [])
    differs_from name from reply p each second = by_ask (ask_named kept name) refl
      where
        by_said : (ask : AskRecord) → ask_named kept name ≡ Some ask → (o : Option (Said Reply)) → slice_get (replies_to ask.asked name p) 0 ≡ o
            → AllByRecursion DiffersWell (option_map_or (difference_from name from reply) o [])
        by_said ask there None at = tt
        by_said ask there (Some first) at =
            let said = all_at (WellSaid name) (replies_to ask.asked name p) 0 first (recursion_from_All (WellSaid name) (replies_to ask.asked name p) (replies_hold Well ask.asked name p each)) at in
            by_test (reply_eq first.value reply) said
          where
            by_test : (b : Bool) → WellReplied name first.node first.value
                → AllByRecursion DiffersWell
                (let d : Difference = record { run = name.run; ask = name.ask; first = first.node; first_reply = first.value; second = from; second_reply = reply } in
                if b then [] else d ∷ [])
            by_test true said = tt
            by_test false said = (record { ask = ask; there = there; first = said; second = second }, tt)

        by_ask : (o : Option AskRecord) → ask_named kept name ≡ o
            → AllByRecursion DiffersWell (option_map_or (difference_from name from reply) (option_and_then (λ (ask : AskRecord). slice_get (replies_to ask.asked name p) 0) o) [])
        by_ask None there = tt
        by_ask (Some ask) there = by_said ask there (slice_get (replies_to ask.asked name p) 0) refl

    differs_now : (p : Past) (step : ℕ) (o : Occurrence) → Each Well (followed p step o) → AllByRecursion DiffersWell (differences_now place boot kept (followed p step o))
    differs_now p step (comes.Replied name from reply) each = by_test (watches place.replies && is_open place boot kept p name)
      where
        by_test : (b : Bool) → AllByRecursion DiffersWell (if b then option_map_or (difference_from name from reply) (first_reply place boot kept p name) [] else [])
        by_test true = differs_from name from reply p each.0 each.1
        by_test false = tt
    differs_now p step (comes.Asked header body sender) each = tt
    differs_now p step (comes.Fetched incarnation sender) each = tt
    differs_now p step (comes.IsStale name server from incarnation) each = tt
    differs_now p step (comes.IsBefore name from) each = tt
    differs_now p step (comes.Told request table) each = tt
    differs_now p step (comes.Restored state count) each = tt
    differs_now p step (comes.Declared other) each = tt
    differs_now p step comes.Joins each = tt

    abbrev OfStep : ℕ × Difference → Type 0
    OfStep e = DiffersWell e.1

    pub all_differ_well : (p : Past) → Each Well p → AllByRecursion OfStep (differences place boot kept p)
    all_differ_well booted each = tt
    all_differ_well (followed p step o) each =
        all_both OfStep (differences place boot kept p) (map (λ (d : Difference). (step, d)) (differences_now place boot kept (followed p step o))) (all_differ_well p each.0)
        (all_mapped OfStep (λ (d : Difference). (step, d)) (differences_now place boot kept (followed p step o)) (differs_now p step o each))

  -- ---- it is named by the record

  pub record IsOfRecord (d : Difference) (ask : AskRecord) : Type 0 where
    pub named_so : IsNamed plan kept d ask
    pub called : option_and_then (imported_procedure s) (recorded_ask kept (record { run = d.run; ask = d.ask })) ≡ imported_as s ask.callee ask.procedure

  pub of_record : (d : Difference) (ask : AskRecord) → ask_named kept (record { run = d.run; ask = d.ask }) ≡ Some ask → IsOfRecord d ask
  of_record d ask is = by_test (nat_lt d.run kept.from) refl r.is
    where
      r : Before (λ (run : RunRecord). slice_get run.asks d.ask) (run_of kept d.run) ask
      r = before_some (λ (run : RunRecord). slice_get run.asks d.ask) (run_of kept d.run) ask is

      by_test : (b : Bool) → nat_lt d.run kept.from ≡ b → (if b then None else slice_get kept.runs (d.run - kept.from)) ≡ Some r.value → IsOfRecord d ask
      by_test true low e = absurd (none_is_some e)
      by_test false low e =
          record {
            named_so = record { run = r.value; later = ltb-false d.run kept.from low; is_run = e; is_ask = r.then };
            called =
                imported_recorded s kept (record { run = d.run; ask = d.ask }) (callee_of ask)
                (recorded_at kept (record { run = d.run; ask = d.ask }) r.value ask (d.run - kept.from) refl e r.then);
          }

  pub replies_to_it : (d : Difference) (ask : AskRecord) (from : ℕ) (reply : Reply) → IsOfRecord d ask → WellReplied (record { run = d.run; ask = d.ask }) from reply
      → IsOther plan node from × IsReplyTo plan s ask reply
  replies_to_it d ask from reply of well = (well.other, (well.clock, imported_answers s ask.callee ask.procedure well.shape reply.outcome (sym of.called ∙ well.asked) ∙ well.fits))

  pub run_number : (d : Difference) (ask : AskRecord) → IsNamed plan kept d ask → kept.from + length kept.runs ≤ last_count + 1 → d.run < 2 ^ 32
  run_number d ask is few =
      let low = slice_get_within kept.runs (d.run - kept.from) is.run is.is_run in
      let later = is.later in
      omega (arith, low, later, few)
