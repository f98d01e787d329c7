-- What a member owes besides returns is the same by a record that has grown.
use Rattle.std.proofs.Common.{◌≡◌, ℕ, ◌+◌, ◌<◌, Bool, ◌&&◌, ◌||◌, not, if◌then◌else◌, List, [], ◌∷◌, ◌++◌, map, refl, ap, arith}
use Rattle.std.specs.Prelude.{nat_eq, nat_lt, max, is_none}
use Rattle.circus_value.specs.Among.{is_among}
use Rattle.circus_collate.specs.declared.view.View.{View}
use Rattle.circus_transfer.specs.declared.joiner.Joiner.{Joiner}
use Rattle.circus_record.specs.declared.record.MemberRecord.{MemberRecord}
use Rattle.circus_gather.specs.declared.held.HeldCall.{HeldCall}
use Rattle.circus_member_rules.specs.declared.place.Place.{Place}
use Rattle.circus_member_rules.specs.declared.occurrence.Effect.{Effect}
use Rattle.circus_member_rules.specs.declared.occurrence.Occurrence.TheVariants as comes
use Rattle.circus_member_rules.specs.Rules.{ringmaster, lookup_call}
use Rattle.circus_member_theory.specs.Past.{Past, booted, followed, now, Rises, nodes_declared_down, views_known, required_incarnation}
use Rattle.circus_member_theory.specs.Requests.{answers_lookup, for_what_came, is_held, wanted_incarnation, due_from, due, is_unanswered, lookups, requests_owed}
use Rattle.circus_member_theory.specs.Returns.{is_before, reply_by}

module _ (place : Place) (boot : List View) (begins : Joiner) (old new : MemberRecord) (step : ℕ) (replies : (call : HeldCall) (r : Past) → now r < step → reply_by place.troupe begins old call r ≡ reply_by place.troupe begins new call r) where
  pub held_same : (call : HeldCall) (r : Past) → now r < step → is_held place boot begins old r call ≡ is_held place boot begins new r call
  held_same call r below =
      ap (λ o. not (nat_lt call.header.server_incarnation (required_incarnation r)) && not (is_before place.troupe begins old call r) && is_none o) (replies call r below)

  pub wanted_same : (troupe : ℕ) (r : Past) → Rises r → now r < step → wanted_incarnation place boot begins old troupe r ≡ wanted_incarnation place boot begins new troupe r
  wanted_same troupe booted rises below = refl
  wanted_same troupe (followed p at (comes.Asked header body sender)) rises below =
      let before : now p < step = omega (arith, rises.1, below) in
      let call : HeldCall = record { header = header; body = body; sender = sender } in
      let rest = wanted_same troupe p rises.0 before in
      λ j. if held_same call p before j && nat_eq troupe header.client then max (rest j) header.client_incarnation else rest j
  wanted_same troupe (followed p at (comes.IsStale name server from incarnation)) rises below =
      let rest = wanted_same troupe p rises.0 (omega (arith, rises.1, below)) in
      λ j. if nat_eq troupe server then max (rest j) incarnation else rest j
  wanted_same troupe (followed p at (comes.Fetched incarnation sender)) rises below = wanted_same troupe p rises.0 (omega (arith, rises.1, below))
  wanted_same troupe (followed p at (comes.Replied name from reply)) rises below = wanted_same troupe p rises.0 (omega (arith, rises.1, below))
  wanted_same troupe (followed p at (comes.IsBefore name from)) rises below = wanted_same troupe p rises.0 (omega (arith, rises.1, below))
  wanted_same troupe (followed p at (comes.Told request table)) rises below = wanted_same troupe p rises.0 (omega (arith, rises.1, below))
  wanted_same troupe (followed p at (comes.Restored state count)) rises below = wanted_same troupe p rises.0 (omega (arith, rises.1, below))
  wanted_same troupe (followed p at (comes.Declared node)) rises below = wanted_same troupe p rises.0 (omega (arith, rises.1, below))
  wanted_same troupe (followed p at comes.Joins) rises below = wanted_same troupe p rises.0 (omega (arith, rises.1, below))

  due_from_same : (f g : ℕ → Bool) → ((t : ℕ) → f t ≡ g t) → (r : Past) → ((t : ℕ) → wanted_incarnation place boot begins old t r ≡ wanted_incarnation place boot begins new t r) → (n : ℕ) (views : List View)
      → due_from place boot begins old f r n views ≡ due_from place boot begins new g r n views
  due_from_same f g same r wants n [] = refl
  due_from_same f g same r wants n (view ∷ views) =
      λ j. (if nat_lt view.incarnation (wants n j) && not (same n j) then n ∷ [] else []) ++ due_from_same f g same r wants (n + 1) views j

  due_same : (f g : ℕ → Bool) → ((t : ℕ) → f t ≡ g t) → (r : Past) → ((t : ℕ) → wanted_incarnation place boot begins old t r ≡ wanted_incarnation place boot begins new t r) → due place boot begins old f r ≡ due place boot begins new g r
  due_same f g same r wants = ap (λ troupes. if is_among (nodes_declared_down r) ringmaster then [] else troupes) (due_from_same f g same r wants 0 (views_known boot r))

  pub unanswered_same : (troupe : ℕ) (r : Past) → Rises r → now r < step → is_unanswered place boot begins old r troupe ≡ is_unanswered place boot begins new r troupe
  unanswered_same troupe booted rises below = refl
  unanswered_same troupe (followed p at o) rises below =
      by_rest (λ t. unanswered_same t p rises.0 (omega (arith, rises.1, below)))
    where
      by_rest : ((t : ℕ) → is_unanswered place boot begins old p t ≡ is_unanswered place boot begins new p t) → is_unanswered place boot begins old (followed p at o) troupe ≡ is_unanswered place boot begins new (followed p at o) troupe
      by_rest rest =
          let all = due_same (λ t. is_unanswered place boot begins old p t && not (answers_lookup o t)) (λ t. is_unanswered place boot begins new p t && not (answers_lookup o t)) (λ t. ap (λ b. b && not (answers_lookup o t)) (rest t)) (followed p at o)
          (λ t. wanted_same t (followed p at o) rises below) in
          λ j. is_among (all j) troupe || (rest troupe j && not (answers_lookup o troupe))

  pub lookups_same : (r : Past) → Rises r → now r < step → lookups place boot begins old r ≡ lookups place boot begins new r
  lookups_same booted rises below = refl
  lookups_same (followed p at o) rises below =
      ap (map lookup_call)
      (due_same (λ t. is_unanswered place boot begins old p t && not (answers_lookup o t)) (λ t. is_unanswered place boot begins new p t && not (answers_lookup o t))
      (λ t. ap (λ b. b && not (answers_lookup o t)) (unanswered_same t p rises.0 (omega (arith, rises.1, below)))) (followed p at o)
      (λ t. wanted_same t (followed p at o) rises below))

  pub requests_same : (r : Past) → Rises r → now r < step → requests_owed place boot begins old r ≡ requests_owed place boot begins new r
  requests_same booted rises below = refl
  requests_same (followed p at o) rises below =
      let rest = requests_same p rises.0 (omega (arith, rises.1, below)) in
      let last = lookups_same (followed p at o) rises below in
      λ j. rest j ++ map (λ (e : Effect). (at, e)) (for_what_came place boot begins (followed p at o) ++ last j)
