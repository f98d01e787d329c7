-- What reading a module at a token of a text answers.
use Rattle.std.proofs.Common.{◌≡◌, ℕ, ◌+◌, ◌-◌, ◌≤◌, List, ◌++◌, length, drop, refl, sym, ◌∙◌, ap, arith, length-append, length-drop}
use Rattle.std.specs.Prelude.{Option, Some, None, All}
use Rattle.std.proofs.lemmas.List.{length-map}
use Rattle.circus_text.specs.declared.token.Token.{Token}
use Rattle.circus_text.specs.Token.{IsTokenIn}
use Rattle.circus_syntax.specs.declared.stopping.Stop.{Stop}
use Rattle.circus_syntax.specs.declared.stopping.StopCause.{StopCause}
use Rattle.circus_syntax.specs.declared.stopping.StopCause.TheVariants.{Unexpected, TooDeep}
use Rattle.circus_syntax.specs.Placed.{Placed, placed_of, AreTokens, AreWithin}
use Rattle.circus_syntax.specs.Read.{placed_from}
use Rattle.circus_syntax.specs.Reader.{Reader, place_in}
use Rattle.circus_syntax.specs.Spelling.{most_levels}
use Rattle.circus_syntax.proofs.Sound.{Sound, reader}
use Rattle.circus_syntax.proofs.Viewed.{text_tokens}
use Rattle.circus_expression.specs.Ending.{Are, IsUnexpected, IsTooDeep}
use Rattle.circus_expression.specs.Standing.{show_as}
use Rattle.circus_expression.proofs.Ends.{reads, read_whole, unexpected, too_deep, filled_in}
use Rattle.circus_lang.specs.declared.lang_fault.LangFault.TheVariants.{Expected, Deep}
use Rattle.circus_lang.specs.declared.read.ReadModule.{ReadModule}
use Rattle.circus_lang.specs.Ending.{NoneEnds, BeginsWithin, fault_at, fault_of}
use Rattle.circus_lang.specs.ModuleReading.{module_text}
use Rattle.circus_lang.specs.ModuleStanding.{module_stands_for}
use Rattle.circus_lang.specs.ModuleTree.{ModuleTree, module_of}
use Rattle.circus_lang.specs.ReadAt.{Answers, IsReadAt}
use Rattle.circus_lang.specs.WrittenModule.{WrittenModule, spelling_module, IsModule}
use Rattle.circus_lang.proofs.Modules.{modules_lawful}
use Rattle.circus_lang.proofs.Whole.{none_ends}

pub unexpected_module : (ts left : List Placed) (w : WrittenModule) (s : Stop) (e : ℕ) → AreTokens ts → module_text most_levels (reader None ts e) ≡ (w, reader (Some s) left e) → s.cause ≡ Unexpected
    → IsUnexpected spelling_module IsModule ts left × NoneEnds ts left × (s.place ≡ place_in left e)
unexpected_module ts left w s e tokens is flat =
    let (stops, there) = unexpected modules_lawful tt most_levels ts left w s e tokens is flat in
    (stops, none_ends modules_lawful most_levels ts left w s e is, there)

pub too_deep_module : (ts left : List Placed) (w : WrittenModule) (s : Stop) (e : ℕ) → AreTokens ts → module_text most_levels (reader None ts e) ≡ (w, reader (Some s) left e) → s.cause ≡ TooDeep
    → IsTooDeep spelling_module IsModule most_levels ts left × NoneEnds ts left × (s.place ≡ place_in left e)
too_deep_module ts left w s e tokens is deep =
    let (stops, there) = too_deep modules_lawful tt most_levels ts left w s e tokens is deep in
    (stops, none_ends modules_lawful most_levels ts left w s e is, there)

pub sound_module : Sound (module_text most_levels) spelling_module IsModule
sound_module = (modules_lawful most_levels 66 (omega arith)).narrow

-- what was read, before it stands for its tree
written_of : List ℕ → List Token → ℕ → WrittenModule
written_of text ts at = (module_text most_levels (reader None (placed_from text ts at) (length text))).0

written_is : (text : List ℕ) (ts : List Token) (at : ℕ) (read : ReadModule) (stop : Option Stop) (A : Answers text ts at read) → read.stop ≡ stop
    → module_text most_levels (reader None (placed_from text ts at) (length text)) ≡ (written_of text ts at, reader stop A.left (length text))
unfolding written_of
written_is text ts at read stop A stop_is =
    let behind = ap (λ (x : ModuleTree × Reader). x.1) A.is ∙ ap (λ o. reader o A.left (length text)) stop_is in
    λ i. ((module_text most_levels (reader None (placed_from text ts at) (length text))).0, behind i)

next_at : (text : List ℕ) (ts : List Token) (at next : ℕ) (own left : List Placed) → at ≤ length ts → placed_from text ts at ≡ own ++ left → next ≡ length ts - length left → next ≡ at + length own
next_at text ts at next own left inside whole is =
    let count = ap length whole in
    omega (arith, inside, is, count, length-append own left, length-map (drop at ts) (placed_of text), length-drop at ts)

pub is_read : (text : List ℕ) (ts : List Token) (at : ℕ) (read : ReadModule) → All (IsTokenIn text) ts → at ≤ length ts → Answers text ts at read → read.stop ≡ None → IsReadAt text ts at (module_of read.«module») read.next
unfolding written_of
is_read text ts at read all inside A none =
    let (own, whole, spelled, within) = read_whole modules_lawful most_levels (placed_from text ts at) A.left (written_of text ts at) (length text) (text_tokens text ts at all) (written_is text ts at read None A none) in
    record {
      own = own;
      rest = A.left;
      written = written_of text ts at;
      whole = whole;
      spelled = spelled;
      within = within;
      stands = ap (λ (x : ModuleTree × Reader). x.0) (sym A.is);
      next_is = next_at text ts at read.next own A.left inside whole A.next;
    }

-- what was read up to a stop stands within the levels
begun_within : (text : List ℕ) (ts : List Token) (at : ℕ) (read : ReadModule) (s : Stop) → All (IsTokenIn text) ts → (A : Answers text ts at read) → read.stop ≡ Some s → BeginsWithin (placed_from text ts at) A.left
begun_within text ts at read s all A stop_is = (
  written_of text ts at,
  s.place,
  filled_in modules_lawful most_levels (placed_from text ts at) A.left (written_of text ts at) s (length text) (text_tokens text ts at all) (written_is text ts at read (Some s) A stop_is),
)

-- which stop the fault is

expected_is : (p : ℕ) (c : StopCause) (place : ℕ) → fault_at p c ≡ Expected place → (c ≡ Unexpected) × (p ≡ place)
expected_is p Unexpected place is = (refl, cc)
expected_is p TooDeep place is = cc

deep_is : (p : ℕ) (c : StopCause) (place : ℕ) → fault_at p c ≡ Deep place → (c ≡ TooDeep) × (p ≡ place)
deep_is p TooDeep place is = (refl, cc)
deep_is p Unexpected place is = cc

pub is_expected : (text : List ℕ) (ts : List Token) (at : ℕ) (read : ReadModule) (s : Stop) (place : ℕ) → All (IsTokenIn text) ts → Answers text ts at read → read.stop ≡ Some s → fault_of s ≡ Expected place
    → (left : List Placed) × IsUnexpected spelling_module IsModule (placed_from text ts at) left × NoneEnds (placed_from text ts at) left × BeginsWithin (placed_from text ts at) left × (place ≡ place_in left (length text))
is_expected text ts at read s place all A stop_is fault_is =
    let (flat, there) = expected_is s.place s.cause place fault_is in
    let (stops, none, here) = unexpected_module (placed_from text ts at) A.left (written_of text ts at) s (length text) (text_tokens text ts at all) (written_is text ts at read (Some s) A stop_is) flat in
    (A.left, stops, none, begun_within text ts at read s all A stop_is, sym there ∙ here)

pub is_too_deep : (text : List ℕ) (ts : List Token) (at : ℕ) (read : ReadModule) (s : Stop) (place : ℕ) → All (IsTokenIn text) ts → Answers text ts at read → read.stop ≡ Some s → fault_of s ≡ Deep place
    → (left : List Placed) × IsTooDeep spelling_module IsModule most_levels (placed_from text ts at) left × NoneEnds (placed_from text ts at) left × BeginsWithin (placed_from text ts at) left × (place ≡ place_in left (length text))
is_too_deep text ts at read s place all A stop_is fault_is =
    let (deep, there) = deep_is s.place s.cause place fault_is in
    let (stops, none, here) = too_deep_module (placed_from text ts at) A.left (written_of text ts at) s (length text) (text_tokens text ts at all) (written_is text ts at read (Some s) A stop_is) deep in
    (A.left, stops, none, begun_within text ts at read s all A stop_is, sym there ∙ here)

-- a module of no more levels than there may be is read to its end
pub accepted : (text : List ℕ) (ts : List Token) (at : ℕ) (read : ReadModule) (own rest : List Placed) (w : WrittenModule) → at ≤ length ts → Answers text ts at read → placed_from text ts at ≡ own ++ rest
    → Are spelling_module IsModule own w → AreWithin most_levels (spelling_module w)
    → (module_of read.«module» ≡ module_stands_for w) × (read.next ≡ at + length own) × (read.stop ≡ None)
accepted text ts at read own rest w inside A whole is within =
    let same : (module_of read.«module», reader read.stop A.left (length text)) ≡ (module_stands_for w, reader None rest (length text)) =
    sym A.is ∙ ap (λ l. show_as module_stands_for (module_text most_levels (reader None l (length text)))) whole ∙ ap (show_as module_stands_for) (reads modules_lawful most_levels own rest w (length text) is within tt) in
    let left_is : A.left ≡ rest = ap (λ (x : ModuleTree × Reader). x.1.rest) same in (
      ap (λ (x : ModuleTree × Reader). x.0) same,
      next_at text ts at read.next own A.left inside (whole ∙ ap (λ l. own ++ l) (sym left_is)) A.next,
      ap (λ (x : ModuleTree × Reader). x.1.stop) same,
    )

-- so reading it doesn't stop
pub stopped_short : (text : List ℕ) (ts : List Token) (at : ℕ) (read : ReadModule) (s : Stop) (own rest : List Placed) (w : WrittenModule) → at ≤ length ts → Answers text ts at read → placed_from text ts at ≡ own ++ rest
    → Are spelling_module IsModule own w → AreWithin most_levels (spelling_module w) → read.stop ≡ Some s → ⊥
stopped_short text ts at read s own rest w inside A whole is within stop_is =
    let (tree, next, none) = accepted text ts at read own rest w inside A whole is within in
    let both : None ≡ Some s = sym none ∙ stop_is in
    cc
