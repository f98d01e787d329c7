-- What comes next: the value of the open ask, and the call that starts.
use Rattle.std.proofs.Common.{◌≡◌, ℕ, true, if◌then◌else◌, List, Option, Some, None, refl, ap, ◌∙◌}
use Rattle.std.specs.Prelude.{option_map, option_and_then}
use Rattle.circus_header.specs.declared.answer.Reply.{Reply}
use Rattle.circus_collate.specs.declared.view.View.{View}
use Rattle.circus_record.specs.declared.record.AskRecord.{AskRecord}
use Rattle.circus_record.specs.declared.record.MemberRecord.{MemberRecord}
use Rattle.circus_gather.specs.declared.held.HeldCall.{HeldCall}
use Rattle.circus_gather.specs.Gathering.{call_to_start}
use Rattle.circus_performing.specs.Performing.{open_ask}
use Rattle.circus_member_rules.specs.declared.occurrence.AskName.{AskName}
use Rattle.circus_member_rules.specs.OpenAsks.{asking_of}
use Rattle.circus_member_rules.specs.MemberState.{MemberState}
use Rattle.circus_member_rules.specs.Rules.{value_of_ask}
use Rattle.circus_member_rules.specs.Step.{name_of_last, is_idle, value_of_open, next_start}

module _ {M : Type 0} (m : MemberState M) where
  -- the value of an ask by its name
  abbrev pub value_by : AskName → Option Reply
  value_by name = option_and_then (value_of_ask m.known) (asking_of m.asks name)

  -- the name is that of the open ask
  pub value_named : (named : Option AskName) → named ≡ option_map (λ _. name_of_last m.performing.kept) (open_ask m.performing.kept) → option_and_then value_by named ≡ value_of_open m
  value_named named is = ap (option_and_then value_by) is ∙ by_ask (open_ask m.performing.kept)
    where
      by_ask : (o : Option AskRecord) → option_and_then value_by (option_map (λ _. name_of_last m.performing.kept) o) ≡ option_and_then (λ _. value_by (name_of_last m.performing.kept)) o
      by_ask None = refl
      by_ask (Some ask) = refl

  -- the member is idle, and the call is the one that its gathering gives
  pub next_given : (views : List View) (down : List ℕ) (kept : MemberRecord) (ready : Option HeldCall) → true ≡ is_idle m.performing.kept → views ≡ m.known.views → down ≡ m.known.down → kept ≡ m.performing.kept → ready ≡ call_to_start m.gathered views down m.place.calls kept.count → ready ≡ next_start m
  next_given views down kept ready idle same_views same_down same_kept is =
      is
      ∙ ap (λ vs. call_to_start m.gathered vs down m.place.calls kept.count) same_views
      ∙ ap (λ ns. call_to_start m.gathered m.known.views ns m.place.calls kept.count) same_down
      ∙ ap (λ (k : MemberRecord). call_to_start m.gathered m.known.views m.known.down m.place.calls k.count) same_kept
      ∙ ap (λ t. if t then call_to_start m.gathered m.known.views m.known.down m.place.calls m.performing.kept.count else None) idle
