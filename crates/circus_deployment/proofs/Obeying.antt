-- A deployment without a fault obeys the rules of deployments.
use Rattle.std.proofs.Common.{◌≡◌, ◌≢◌, ℕ, zero, suc, ◌+◌, ◌<◌, ◌≤◌, ◌⊎◌, Bool, true, false, List, [], ◌∷◌, ◌++◌, length, map, refl, sym, ◌∙◌, ap, subst, arith, append_assoc, Option, Some, None}
use Rattle.std.specs.Prelude.{min, ◌&&◌, if◌then◌else◌, is_none, is_some, nat_lt, ◌==◌, slice_get, AllPairs, IsTrue, option_map, option_to_list, unwrap_or}
use Rattle.std.specs.List.{AllByRecursion, flat_map, list_all}
use Rattle.std.specs.Char.{is_ascii_alphabetic, is_ascii_alphanumeric, is_ascii_digit}
use Rattle.std.proofs.lemmas.Bool.{and_parts, ltb-false}
use Rattle.std.proofs.lemmas.Bool.Decides.{nat_tests}
use Rattle.std.proofs.lemmas.List.{map-append, length-append, length-map}
use Rattle.std.proofs.lemmas.List.Elements.{All-from_recursion}
use Rattle.std.proofs.lemmas.Option.{same_Some}
use Rattle.std.proofs.lemmas.List.Kept.{AllPairs-cons}
use Rattle.circus_text.specs.declared.byte_class.ByteClass.TheVariants.{Letter, Digit, Quote, Space, Mark, Other}
use Rattle.circus_text.specs.ByteClass.{quote, is_space, is_mark, class_of, is_word_class}
use Rattle.circus_text.specs.Form.{IsWord, longest_word}
use Rattle.circus_syntax.specs.Spelling.{IsEach, IsListed, IfWritten}
use Rattle.circus_fault.specs.Least.{faults_if}
use Rattle.circus_fault.specs.Known.{Known, nobody}
use Rattle.circus_fault.proofs.Items.{none_in}
use Rattle.circus_fault.proofs.KnownNames.{all_numbered}
use Rattle.circus_fault.proofs.NoFaults.{no_fault}
use Rattle.circus_type.specs.Distinct.{AreDistinct}
use Rattle.circus_type.specs.Limits.{greatest_word}
use Rattle.circus_type.proofs.Items.{all_appended}
use Rattle.circus_lang.specs.ModuleTree.{ModuleTree}
use Rattle.circus_troupe.specs.declared.deployment_text.WrittenKind.{WrittenKind}
use Rattle.circus_troupe.specs.declared.deployment_text.WrittenKind.TheVariants as written
use Rattle.circus_troupe.specs.declared.deployment_text.HostText.{HostText}
use Rattle.circus_troupe.specs.declared.deployment_text.TroupeText.{TroupeText}
use Rattle.circus_troupe.specs.declared.deployment_text.DeploymentText.{DeploymentText}
use Rattle.circus_troupe.specs.DeploymentSpelling.{IsCallKind, IsHostText, IsTroupeText, IsDeploymentText}
use Rattle.circus_collate.specs.declared.kind.Kind.TheVariants.{Watchdog}
use Rattle.circus_collate.specs.declared.deployment.Troupe.{Troupe}
use Rattle.circus_collate.specs.declared.deployment.Host.{Host}
use Rattle.circus_collate.specs.declared.deployment.Deployment.{Deployment}
use Rattle.circus_collate.specs.Deployment.{is_word, IsKind, IsTroupe, IsHost, IsDeployment}
use Rattle.circus_limits.specs.Limits.{most_nodes, greatest_port}
use Rattle.circus_deployment.specs.Nodes.{spares_of, hosts_of, ringmaster_host, nodes_of, numbered_from, number_troupes, module_numbers, troupe_numbers}
use Rattle.circus_deployment.specs.Nodes as nodes
use Rattle.circus_deployment.specs.InRange.{IsKindInRange, AreHostsInRange, IsTroupeInRange, IsInRange}
use Rattle.circus_deployment.specs.Seen.{as_words, deployment_made}
use Rattle.circus_deployment.specs.Faults.{no_nodes, nodes_faults, troupes_faults, first_without_troupe, deployment_faults}
use Rattle.circus_deployment.specs.Meaning.{kind_of, host_meant, module_of_troupe, hosts_meant, nodes_meant, numbers_from, troupe_meant, troupe_at, troupes_meant, deployment_meant}
use Rattle.circus_deployment.proofs.Clean.{host_name, host_port, troupe_name, module_name, AreNodes, nodes_clean, IsNeeded, IsTroupeClean, AreTroupes, troupes_clean, none_lacks, item_of, some_number}
use Rattle.circus_deployment.proofs.Hosting.{numbers_more, numbered_at, numbered_in, in_place, mapped_at, Single, members_are}

-- ---- words

word_byte : (b : ℕ) → is_word_class (class_of b) ≡ true → is_ascii_alphanumeric b ≡ true
word_byte b is = by_class (is_ascii_alphabetic b) (is_ascii_digit b) (b == quote) (is_space b) (is_mark b) (λ l. letter l) (λ d. digit d) is
  where
    letter : is_ascii_alphabetic b ≡ true → is_ascii_alphanumeric b ≡ true
    letter l = grind (arith, nat_tests)

    digit : is_ascii_digit b ≡ true → is_ascii_alphanumeric b ≡ true
    digit d = grind (arith, nat_tests)

    by_class : (l d q s m : Bool) → (l ≡ true → is_ascii_alphanumeric b ≡ true) → (d ≡ true → is_ascii_alphanumeric b ≡ true)
        → is_word_class (if l then Letter else (if d then Digit else (if q then Quote else (if s then Space else (if m then Mark else Other))))) ≡ true → is_ascii_alphanumeric b ≡ true
    by_class true d q s m letter digit is = letter (λ i. true)
    by_class false true q s m letter digit is = digit (λ i. true)
    by_class false false true s m letter digit is = absurd (cc)
    by_class false false false true m letter digit is = absurd (cc)
    by_class false false false false true letter digit is = absurd (cc)
    by_class false false false false false letter digit is = absurd (cc)

first_byte : (b : ℕ) → class_of b ≡ Letter → is_ascii_alphabetic b ≡ true
first_byte b is = by_class (is_ascii_alphabetic b) (is_ascii_digit b) (b == quote) (is_space b) (is_mark b) is
  where
    by_class : (l d q s m : Bool) → (if l then Letter else (if d then Digit else (if q then Quote else (if s then Space else (if m then Mark else Other))))) ≡ Letter → l ≡ true
    by_class true d q s m is = refl
    by_class false true q s m is = absurd (cc)
    by_class false false true s m is = absurd (cc)
    by_class false false false true m is = absurd (cc)
    by_class false false false false true is = absurd (cc)
    by_class false false false false false is = absurd (cc)

both_true : (a b : Bool) → a ≡ true → b ≡ true → (a && b) ≡ true
both_true true true one two = refl
both_true true false one two = two
both_true false b one two = one

rest_bytes : (bs : List ℕ) → list_all (λ c. is_word_class (class_of c)) bs ≡ true → list_all is_ascii_alphanumeric bs ≡ true
rest_bytes [] all = refl
rest_bytes (b ∷ bs) all =
    let (own, rest) = and_parts (is_word_class (class_of b)) (list_all (λ c. is_word_class (class_of c)) bs) all in
    both_true (is_ascii_alphanumeric b) (list_all is_ascii_alphanumeric bs) (word_byte b own) (rest_bytes bs rest)

word_is : (w : List ℕ) → IsWord w → is_word w ≡ true
word_is [] is = absurd is
word_is (b ∷ bs) is = both_true (is_ascii_alphabetic b) (list_all is_ascii_alphanumeric bs) (first_byte b is.0) (rest_bytes bs is.1)

short : (b : Bool) (n : ℕ) → nat_lt 32 n ≡ b → (if b then Some longest_word else None) ≡ None → n ≤ 32
short true n is none = absurd (cc)
short false n is none = ltb-false 32 n is

-- a name of a node
abbrev IsNodeName : List ℕ → Type 0
IsNodeName n = IsTrue (is_word n) × (length n ≤ 32)

-- ---- lists

unmapped : {X B : Type 0} (f : X → B) (P : B → Type 0) (xs : List X) → AllByRecursion P (map f xs) → AllByRecursion (λ x. P (f x)) xs
unmapped f P [] all = tt
unmapped f P (x ∷ xs) all = (all.0, unmapped f P xs all.1)

distinct_pairs : {X B : Type 0} (f : X → B) (xs : List X) → AreDistinct (map f xs) → AllPairs (λ a b. f a ≢ f b) xs
distinct_pairs f [] distinct = λ i j d less low. absurd (omega (arith, low))
distinct_pairs f (x ∷ xs) distinct =
    AllPairs-cons (λ a b. f a ≢ f b) x xs (All-from_recursion (λ y. f x ≢ f y) xs (unmapped f (λ b. f x ≢ b) xs distinct.0)) (distinct_pairs f xs distinct.1)

-- an item stands at one place
one_place : {X : Type 0} (xs : List X) → AreDistinct xs → (a b : ℕ) (x : X) → slice_get xs a ≡ Some x → slice_get xs b ≡ Some x → a ≡ b
one_place [] distinct a b x first second = absurd (cc)
one_place (y ∷ ys) distinct zero zero x first second = refl
one_place (y ∷ ys) distinct zero (suc b) x first second = let same : y ≡ x = cc in absurd (in_place (λ z. y ≢ z) ys distinct.0 b x second same)
one_place (y ∷ ys) distinct (suc a) zero x first second = let same : y ≡ x = cc in absurd (in_place (λ z. y ≢ z) ys distinct.0 a x first same)
one_place (y ∷ ys) distinct (suc a) (suc b) x first second = ap (λ k. suc k) (one_place ys distinct.1 a b x first second)

of_each : {X : Type 0} (P : X → Type 0) (xs : List X) → IsEach P xs → AllByRecursion P xs
of_each P [] each = tt
of_each P (x ∷ xs) each = (each.0, of_each P xs each.1)

of_listed : {X : Type 0} (P : X → Type 0) (xs : List X) → IsListed P xs → AllByRecursion P xs
of_listed P [] listed = absurd listed
of_listed P (x ∷ xs) listed = (listed.0, of_each P xs listed.1)

-- ---- names of nodes

name_good : (h : HostText) → IsHostText h → IsNodeName h.name.name
name_good h good = (word_is h.name.name good.0.0.formed, short (nat_lt 32 (length h.name.name)) (length h.name.name) refl good.0.0.no_bad_byte)

names_good : (hs : List HostText) → AllByRecursion IsHostText hs → AllByRecursion IsNodeName (map host_name hs)
names_good [] all = tt
names_good (h ∷ hs) all = (name_good h all.0, names_good hs all.1)

spares_good : (o : Option (List HostText)) → IfWritten (IsListed IsHostText) o → AllByRecursion IsHostText (unwrap_or o [])
spares_good None good = tt
spares_good (Some hs) good = of_listed IsHostText hs good

hosts_good : (ts : List TroupeText) → IsEach IsTroupeText ts → AllByRecursion IsHostText (flat_map hosts_of ts)
hosts_good [] each = tt
hosts_good (t ∷ ts) each =
    all_appended IsHostText (hosts_of t) (flat_map hosts_of ts)
    (all_appended IsHostText t.members (spares_of t) (of_listed IsHostText t.members each.0.3) (spares_good t.spares each.0.4)) (hosts_good ts each.1)

nodes_good : (d : DeploymentText) → IsDeploymentText d → AllByRecursion IsNodeName (map host_name (nodes_of d))
nodes_good d good = names_good (nodes_of d) (good.0, hosts_good d.troupes good.1)

-- ---- nodes as they are written and as they are meant

alike : {B : Type 0} (f : Host → B) (g : HostText → B) → ((o : Option ℕ) (h : HostText) → f (host_meant o h) ≡ g h) → (o : Option ℕ) (hs : List HostText) → map f (map (host_meant o) hs) ≡ map g hs
alike f g same o [] = refl
alike f g same o (h ∷ hs) = λ i. same o h i ∷ alike f g same o hs i

all_alike : {B : Type 0} (f : Host → B) (g : HostText → B) → ((o : Option ℕ) (h : HostText) → f (host_meant o h) ≡ g h) → (modules : Known) (ts : List TroupeText) → map f (flat_map (hosts_meant modules) ts) ≡ map g (flat_map hosts_of ts)
all_alike f g same modules [] = refl
all_alike f g same modules (t ∷ ts) =
    map-append f (hosts_meant modules t) (flat_map (hosts_meant modules) ts)
    ∙ (λ i. alike f g same (module_of_troupe modules t) (hosts_of t) i ++ all_alike f g same modules ts i)
    ∙ sym (map-append g (hosts_of t) (flat_map hosts_of ts))

nodes_alike : {B : Type 0} (f : Host → B) (g : HostText → B) → ((o : Option ℕ) (h : HostText) → f (host_meant o h) ≡ g h) → (modules : Known) (d : DeploymentText) → map f (nodes_meant modules d) ≡ map g (nodes_of d)
nodes_alike f g same modules d = λ i. same None (ringmaster_host d.ringmaster) i ∷ all_alike f g same modules d.troupes i

names_are : (modules : Known) (d : DeploymentText) → map (λ (h : Host). h.name) (nodes_meant modules d) ≡ map host_name (nodes_of d)
names_are modules d = nodes_alike (λ h. h.name) host_name (λ o h. refl) modules d

ports_are : (modules : Known) (d : DeploymentText) → map (λ (h : Host). h.port) (nodes_meant modules d) ≡ map host_port (nodes_of d)
ports_are modules d = nodes_alike (λ h. h.port) host_port (λ o h. refl) modules d

-- ---- which module a node hosts

abbrev IsHosted : ℕ → Option ℕ → Type 0
IsHosted count o = (n : ℕ) × (o ≡ Some n) × (n < count)

own_hosted : (count : ℕ) (o : Option ℕ) (hs : List HostText) → IsHosted count o → AllByRecursion (λ (h : Host). IsHosted count h.module) (map (host_meant o) hs)
own_hosted count o [] hosted = tt
own_hosted count o (h ∷ hs) hosted = (hosted, own_hosted count o hs hosted)

all_hosted : (modules : Known) (count : ℕ) (ts : List TroupeText) → AllByRecursion (λ (t : TroupeText). IsHosted count (module_of_troupe modules t)) ts → AllByRecursion (λ (h : Host). IsHosted count h.module) (flat_map (hosts_meant modules) ts)
all_hosted modules count [] all = tt
all_hosted modules count (t ∷ ts) all =
    all_appended (λ (h : Host). IsHosted count h.module) (hosts_meant modules t) (flat_map (hosts_meant modules) ts) (own_hosted count (module_of_troupe modules t) (hosts_of t) all.0) (all_hosted modules count ts all.1)

-- ---- the numbers of modules

record HasNumber (modules : List ModuleTree) (t : TroupeText) : Type 0 where
  number : ℕ
  is : module_numbers modules t.name.name ≡ Some number
  below : number < length modules

has_number : (modules : List ModuleTree) (t : TroupeText) → is_none (module_numbers modules t.name.name) ≡ false → HasNumber modules t
has_number modules t none =
    let (number, is) = some_number (module_numbers modules t.name.name) none in
    record { number = number; is = is; below = (all_numbered module_name modules).below t.name.name number is }

all_numbers : (modules : List ModuleTree) (ts : List TroupeText) → AllByRecursion (IsTroupeClean (module_numbers modules)) ts → AllByRecursion (HasNumber modules) ts
all_numbers modules [] clean = tt
all_numbers modules (t ∷ ts) clean = (has_number modules t clean.0.known, all_numbers modules ts clean.1)

numbers_hosted : (modules : List ModuleTree) (ts : List TroupeText) → AllByRecursion (HasNumber modules) ts → AllByRecursion (λ (t : TroupeText). IsHosted (length modules) (module_of_troupe (module_numbers modules) t)) ts
numbers_hosted modules [] all = tt
numbers_hosted modules (t ∷ ts) all = ((all.0.number, all.0.is, all.0.below), numbers_hosted modules ts all.1)

-- a troupe that hosts the module has the name of the one that has its number
single_name : (modules : List ModuleTree) (m : ℕ) (name : List ℕ) (t : TroupeText) → module_numbers modules name ≡ Some m → HasNumber modules t → Single (module_numbers modules) m name t
single_name modules m name t is H hosts_it =
    let same : H.number ≡ m = same_Some H.number m (sym H.is ∙ hosts_it) in
    (all_numbered module_name modules).single t.name.name name m (H.is ∙ ap (λ n. Some n) same) is

all_single : (modules : List ModuleTree) (m : ℕ) (name : List ℕ) (ts : List TroupeText) → module_numbers modules name ≡ Some m → AllByRecursion (HasNumber modules) ts → AllByRecursion (Single (module_numbers modules) m name) ts
all_single modules m name [] is all = tt
all_single modules m name (t ∷ ts) is all = (single_name modules m name t is all.0, all_single modules m name ts is all.1)

-- the module at a place has this number
number_there : (modules : List ModuleTree) (m : ℕ) (own : ModuleTree) (t : TroupeText) → AreDistinct (map module_name modules) → slice_get modules m ≡ Some own → t.name.name ≡ own.name.name → (H : HasNumber modules t) → H.number ≡ m
number_there modules m own t distinct there named H =
    let (other, here, name_is) = item_of module_name modules t.name.name H.number H.is in
    one_place (map module_name modules) distinct H.number m own.name.name
    (mapped_at module_name modules H.number other here ∙ ap (λ n. Some n) (name_is ∙ named)) (mapped_at module_name modules m own there)

-- ---- the troupes of modules

record TroupeOf (ts : List TroupeText) (m : ModuleTree) (x : nodes.Numbered) : Type 0 where
  place : ℕ
  found_at : troupe_at (number_troupes ts) (troupe_numbers ts m.name.name) ≡ Some x
  there : slice_get (number_troupes ts) place ≡ Some x
  named : x.troupe.name.name ≡ m.name.name

numbered_there : (n : ℕ) (ts : List TroupeText) (k : ℕ) (t : TroupeText) → slice_get ts k ≡ Some t → (x : nodes.Numbered) × (slice_get (numbered_from n ts) k ≡ Some x) × (x.troupe ≡ t)
numbered_there n [] k t is = absurd (cc)
numbered_there n (u ∷ us) zero t is = let same : u ≡ t = cc in (numbered_at u n, refl, same)
numbered_there n (u ∷ us) (suc k) t is = numbered_there (n + length (hosts_of u)) us k t is

troupe_of : (ts : List TroupeText) (m : ModuleTree) → is_none (troupe_numbers ts m.name.name) ≡ false → (x : nodes.Numbered) × TroupeOf ts m x
troupe_of ts m none =
    let (k, is) = some_number (troupe_numbers ts m.name.name) none in
    let (t, there, named) = item_of troupe_name ts m.name.name k is in
    let (x, here, own) = numbered_there 1 ts k t there in
    (x, record { place = k; found_at = ap (troupe_at (number_troupes ts)) is ∙ here; there = here; named = ap troupe_name own ∙ named })

all_troupes : (ts : List TroupeText) (ms : List ModuleTree) → AllByRecursion (λ (m : ModuleTree). is_none (troupe_numbers ts m.name.name) ≡ false) ms → AllByRecursion (λ (m : ModuleTree). (x : nodes.Numbered) × TroupeOf ts m x) ms
all_troupes ts [] all = tt
all_troupes ts (m ∷ ms) all = (troupe_of ts m all.0, all_troupes ts ms all.1)

record Made (ts : List TroupeText) (ms : List ModuleTree) (k : ℕ) (troupe : Troupe) : Type 0 where
  own : ModuleTree
  here : slice_get ms k ≡ Some own
  text : nodes.Numbered
  found : TroupeOf ts own text
  is : troupe ≡ troupe_meant own text

made_more : (ts : List TroupeText) (m : ModuleTree) (ms : List ModuleTree) (x : nodes.Numbered) (rest : List Troupe) → TroupeOf ts m x → ((k : ℕ) (troupe : Troupe) → slice_get rest k ≡ Some troupe → Made ts ms k troupe)
    → (k : ℕ) (troupe : Troupe) → slice_get (troupe_meant m x ∷ rest) k ≡ Some troupe → Made ts (m ∷ ms) k troupe
made_more ts m ms x rest T others zero troupe is = let same : troupe_meant m x ≡ troupe = cc in record { own = m; here = refl; text = x; found = T; is = sym same }
made_more ts m ms x rest T others (suc k) troupe is = let M = others k troupe is in record { own = M.own; here = M.here; text = M.text; found = M.found; is = M.is }

record AreMade (ts : List TroupeText) (ms : List ModuleTree) (troupes : List Troupe) : Type 0 where
  many : length troupes ≡ length ms
  each : (k : ℕ) (troupe : Troupe) → slice_get troupes k ≡ Some troupe → Made ts ms k troupe

made : (ts : List TroupeText) (ms : List ModuleTree) → AllByRecursion (λ (m : ModuleTree). (x : nodes.Numbered) × TroupeOf ts m x) ms → AreMade ts ms (troupes_meant (number_troupes ts) (troupe_numbers ts) ms)
made ts [] all = record { many = refl; each = λ k troupe is. absurd (cc) }
made ts (m ∷ ms) all =
    let others = made ts ms all.1 in
    let rest = troupes_meant (number_troupes ts) (troupe_numbers ts) ms in
    subst (AreMade ts (m ∷ ms)) (sym (ap (λ o. option_to_list (option_map (troupe_meant m) o) ++ rest) all.0.1.found_at))
    (record { many = omega (arith, others.many); each = made_more ts m ms all.0.0 rest all.0.1 others.each })

-- ---- collators

kind_good : (k : WrittenKind) → IsNeeded k → IsKind (kind_of k)
kind_good written.First needed = tt
kind_good written.Majority needed = tt
kind_good written.Unanimous needed = tt
kind_good (written.AtLeast n) needed = (omega (arith, needed.0, needed.1), omega (arith, needed.1))
kind_good written.Watchdog needed = tt

no_watchdog : (k : WrittenKind) → IsCallKind k → kind_of k ≢ Watchdog
no_watchdog written.First good = λ is. cc
no_watchdog written.Majority good = λ is. cc
no_watchdog written.Unanimous good = λ is. cc
no_watchdog (written.AtLeast n) good = λ is. cc
no_watchdog written.Watchdog good = absurd good

count_from : (n k : ℕ) → length (numbers_from n k) ≡ k
count_from n zero = refl
count_from n (suc k) = omega (arith, count_from (n + 1) k)

some_listed : {X : Type 0} (P : X → Type 0) (xs : List X) → IsListed P xs → 1 ≤ length xs
some_listed P [] listed = absurd listed
some_listed P (x ∷ xs) listed = omega arith

-- ---- the whole

-- a deployment without a fault over modules
record Faultless (modules : List ModuleTree) (d : DeploymentText) : Type 0 where
  distinct : AreDistinct (map module_name modules)
  written_so : IsDeploymentText d
  nodes_are : AreNodes no_nodes (nodes_of d)
  troupes_are : AreTroupes (module_numbers modules) nobody d.troupes
  none_lacks_one : AllByRecursion (λ (m : ModuleTree). is_none (troupe_numbers d.troupes m.name.name) ≡ false) modules

none_is : {X : Type 0} (o : Option X) → is_some o ≡ false → o ≡ None
none_is None is = refl
none_is (Some x) is = absurd (cc)

-- each part has no fault
none_in_each : (modules : List ModuleTree) (end : ℕ) (d : DeploymentText) → deployment_faults modules end d ≡ []
    → (nodes_faults no_nodes (nodes_of d) ≡ []) × (troupes_faults (module_numbers modules) nobody 0 d.troupes ≡ []) × (first_without_troupe (troupe_numbers d.troupes) modules ≡ None)
none_in_each modules end d none =
    let lacks = first_without_troupe (troupe_numbers d.troupes) modules in
    let (two, missing) = none_in (nodes_faults no_nodes (nodes_of d) ++ troupes_faults (module_numbers modules) nobody 0 d.troupes) (faults_if (is_some lacks) end _) none in
    let (nodes_none, troupes_none) = none_in (nodes_faults no_nodes (nodes_of d)) (troupes_faults (module_numbers modules) nobody 0 d.troupes) two in
    (nodes_none, troupes_none, none_is lacks (no_fault _ _ _ missing))

faultless : (modules : List ModuleTree) (end : ℕ) (d : DeploymentText) → AreDistinct (map module_name modules) → IsDeploymentText d → deployment_faults modules end d ≡ [] → Faultless modules d
faultless modules end d distinct good none =
    let (nodes_none, troupes_none, lacks_none) = none_in_each modules end d none in
    record {
      distinct = distinct;
      written_so = good;
      nodes_are = nodes_clean no_nodes (nodes_of d) nodes_none;
      troupes_are = troupes_clean (module_numbers modules) nobody 0 d.troupes troupes_none;
      none_lacks_one = none_lacks (troupe_numbers d.troupes) modules lacks_none;
    }

-- a troupe that is made
troupe_good : (modules : List ModuleTree) (d : DeploymentText) (m : ℕ) (troupe : Troupe) → Faultless modules d → Made d.troupes modules m troupe → IsTroupe (nodes_meant (module_numbers modules) d) m troupe
troupe_good modules d m troupe F M = subst (IsTroupe (nodes_meant (module_numbers modules) d) m) (sym M.is) (record {
  some_founders = omega (arith, count_from x.first (length t.members), some_listed IsHostText t.members good.3);
  few_founders = omega (arith, count_from x.first (length t.members), clean.few);
  members =
      sym (numbers_more x.first (length t.members) (length (spares_of t)))
      ∙ ap (numbers_from x.first) (sym (length-append t.members (spares_of t)))
      ∙ sym (members_are (module_numbers modules) m d.troupes 1 M.found.place x F.troupes_are.names (all_single modules m t.name.name d.troupes is numbers) is M.found.there);
  calls = kind_good t.calls.kind clean.calls;
  no_watchdog = no_watchdog t.calls.kind good.1;
  replies = kind_good t.replies.kind clean.replies;
})
  where
    x : nodes.Numbered
    x = M.text

    t : TroupeText
    t = x.troupe

    here : slice_get d.troupes M.found.place ≡ Some t
    here = numbered_in 1 d.troupes M.found.place x M.found.there

    numbers : AllByRecursion (HasNumber modules) d.troupes
    numbers = all_numbers modules d.troupes F.troupes_are.clean

    clean : IsTroupeClean (module_numbers modules) t
    clean = in_place (IsTroupeClean (module_numbers modules)) d.troupes F.troupes_are.clean M.found.place t here

    good : IsTroupeText t
    good = in_place IsTroupeText d.troupes (of_each IsTroupeText d.troupes F.written_so.1) M.found.place t here

    H : HasNumber modules t
    H = in_place (HasNumber modules) d.troupes numbers M.found.place t here

    number_is : H.number ≡ m
    number_is = number_there modules m M.own t F.distinct M.here M.found.named H

    is : module_numbers modules t.name.name ≡ Some m
    is = H.is ∙ ap (λ n. Some n) number_is

-- a node
node_good : (modules : List ModuleTree) (d : DeploymentText) (troupes : List Troupe) → length troupes ≡ length modules → Faultless modules d → (k : ℕ) (host : Host) → slice_get (nodes_meant (module_numbers modules) d) k ≡ Some host → IsHost troupes k host
node_good modules d troupes many F k host is = by_place k is
  where
    name : (j : ℕ) → slice_get (nodes_meant (module_numbers modules) d) j ≡ Some host → IsNodeName host.name
    name j there =
        in_place IsNodeName (map (λ (h : Host). h.name) (nodes_meant (module_numbers modules) d)) (subst (AllByRecursion IsNodeName) (sym (names_are (module_numbers modules) d)) (nodes_good d F.written_so)) j host.name
        (mapped_at (λ (h : Host). h.name) (nodes_meant (module_numbers modules) d) j host there)

    port : (j : ℕ) → slice_get (nodes_meant (module_numbers modules) d) j ≡ Some host → (0 < host.port) × (host.port ≤ greatest_port)
    port j there =
        in_place (λ n. (0 < n) × (n ≤ greatest_port)) (map (λ (h : Host). h.port) (nodes_meant (module_numbers modules) d))
        (subst (AllByRecursion (λ n. (0 < n) × (n ≤ greatest_port))) (sym (ports_are (module_numbers modules) d)) F.nodes_are.ranged) j host.port
        (mapped_at (λ (h : Host). h.port) (nodes_meant (module_numbers modules) d) j host there)

    by_place : (j : ℕ) → slice_get (nodes_meant (module_numbers modules) d) j ≡ Some host → IsHost troupes j host
    by_place zero there =
        let alone : None ≡ host.module = ap (λ (h : Host). h.module) first in
        record {
          name = (name zero there).0;
          short_name = (name zero there).1;
          port = omega (arith, (port zero there).0);
          ringmaster = (λ own. refl, λ number. sym alone);
          hosted = λ m own. absurd (cc);
        }
      where
        first : host_meant None (ringmaster_host d.ringmaster) ≡ host
        first = cc
    by_place (suc j) there =
        let (n, own, below) = in_place (λ (h : Host). IsHosted (length modules) h.module) (flat_map (hosts_meant (module_numbers modules)) d.troupes)
        (all_hosted (module_numbers modules) (length modules) d.troupes (numbers_hosted modules d.troupes (all_numbers modules d.troupes F.troupes_are.clean))) j host there in
        record {
          name = (name (suc j) there).0;
          short_name = (name (suc j) there).1;
          port = omega (arith, (port (suc j) there).0);
          ringmaster = (λ alone. absurd (cc), λ number. absurd (omega (arith, number)));
          hosted = λ m other. let same : n ≡ m = cc in omega (arith, same, below, many);
        }

pub obeys : (modules : List ModuleTree) (end format : ℕ) (d : DeploymentText) → (format ≡ 1) ⊎ (format ≡ 2) → length modules ≤ 32 → AreDistinct (map module_name modules) → IsDeploymentText d
    → deployment_faults modules end d ≡ [] → IsDeployment (deployment_meant modules format d)
obeys modules end format d in_format few distinct good none =
    let F = faultless modules end d distinct good none in
    let A = made d.troupes modules (all_troupes d.troupes modules F.none_lacks_one) in
    let all = nodes_meant (module_numbers modules) d in
    let names = names_are (module_numbers modules) d in
    let ports = ports_are (module_numbers modules) d in
    let count : length all ≡ length (nodes_of d) = sym (length-map all (λ (h : Host). h.name)) ∙ ap length names ∙ length-map (nodes_of d) host_name in
    record {
      few_troupes = omega (arith, A.many, few);
      some_nodes = omega arith;
      few_nodes = omega (arith, count, F.nodes_are.few (omega arith));
      format = in_format;
      troupes = λ m troupe is. troupe_good modules d m troupe F (A.each m troupe is);
      nodes = λ k host is. node_good modules d (troupes_meant (number_troupes d.troupes) (troupe_numbers d.troupes) modules) A.many F k host is;
      names_differ = distinct_pairs (λ (h : Host). h.name) all (subst AreDistinct (sym names) F.nodes_are.names);
      ports_differ = distinct_pairs (λ (h : Host). h.port) all (subst AreDistinct (sym ports) F.nodes_are.ports);
    }

-- a deployment without a fault has few nodes
pub few_nodes : (modules : List ModuleTree) (end : ℕ) (d : DeploymentText) → deployment_faults modules end d ≡ [] → length (nodes_of d) ≤ most_nodes
few_nodes modules end d none = omega (arith, (nodes_clean no_nodes (nodes_of d) (none_in_each modules end d none).0).few (omega arith))

-- ---- words

ports_in_range : (hs rest : List HostText) → AllByRecursion (λ n. (0 < n) × (n ≤ greatest_port)) (map host_port (hs ++ rest)) → AreHostsInRange hs × AllByRecursion (λ n. (0 < n) × (n ≤ greatest_port)) (map host_port rest)
ports_in_range [] rest all = (tt, all)
ports_in_range (h ∷ hs) rest all =
    let (own, others) = ports_in_range hs rest all.1 in
    ((omega (arith, all.0.1), own), others)

kind_in_range : (k : WrittenKind) → IsNeeded k → IsKindInRange k
kind_in_range written.First needed = tt
kind_in_range written.Majority needed = tt
kind_in_range written.Unanimous needed = tt
kind_in_range (written.AtLeast n) needed = omega (arith, needed.1)
kind_in_range written.Watchdog needed = tt

troupes_in_range : (modules : Known) (ts : List TroupeText) → AllByRecursion (λ n. (0 < n) × (n ≤ greatest_port)) (map host_port (flat_map hosts_of ts)) → AllByRecursion (IsTroupeClean modules) ts → AllByRecursion IsTroupeInRange ts
troupes_in_range modules [] ports clean = tt
troupes_in_range modules (t ∷ ts) ports clean =
    let all = flat_map hosts_of ts in
    let (members, others) = ports_in_range t.members (spares_of t ++ all) (subst (λ hs. AllByRecursion (λ n. (0 < n) × (n ≤ greatest_port)) (map host_port hs)) (append_assoc t.members (spares_of t) all) ports) in
    let (spares, rest) = ports_in_range (spares_of t) all others in (
      record { calls = kind_in_range t.calls.kind clean.0.calls; replies = kind_in_range t.replies.kind clean.0.replies; members = members; spares = spares },
      troupes_in_range modules ts rest clean.1,
    )

-- in a deployment without a fault every number is one of one word
pub is_in_range : (modules : List ModuleTree) (end : ℕ) (d : DeploymentText) → deployment_faults modules end d ≡ [] → IsInRange d
is_in_range modules end d none =
    let (nodes_none, troupes_none, lacks_none) = none_in_each modules end d none in
    let ranged = (nodes_clean no_nodes (nodes_of d) nodes_none).ranged in
    record { ringmaster = omega (arith, ranged.0.1); troupes = troupes_in_range (module_numbers modules) d.troupes ranged.1 (troupes_clean (module_numbers modules) nobody 0 d.troupes troupes_none).clean }

-- the numbers of few modules are words
words_are : (modules : List ModuleTree) → length modules ≤ greatest_word → as_words (module_numbers modules) ≡ module_numbers modules
words_are modules few = λ i name. by_number (module_numbers modules name) ((all_numbered module_name modules).below name) i
  where
    by_number : (o : Option ℕ) → ((k : ℕ) → o ≡ Some k → k < length modules) → option_map (λ n. min n greatest_word) o ≡ o
    by_number None below = refl
    by_number (Some k) below = let small : min k greatest_word ≡ k = omega (arith, below k refl, few) in ap (λ n. Some n) small

-- so what is made is what is meant
pub made_as_meant : (modules : List ModuleTree) (format : ℕ) (d : DeploymentText) → length modules ≤ greatest_word → deployment_made modules format d ≡ deployment_meant modules format d
made_as_meant modules format d few = ap (λ (numbers : Known). with_nodes (nodes_meant numbers d)) (words_are modules few)
  where
    with_nodes : List Host → Deployment
    with_nodes nodes = record { troupes = troupes_meant (number_troupes d.troupes) (troupe_numbers d.troupes) modules; nodes = nodes; format = format }

-- ---- roots

roots_of : (ts : List TroupeText) (ms : List ModuleTree) → AllByRecursion (λ (m : ModuleTree). is_none (troupe_numbers ts m.name.name) ≡ false) ms
    → map (λ (t : Troupe). t.root) (troupes_meant (number_troupes ts) (troupe_numbers ts) ms) ≡ map (λ (m : ModuleTree). m.root) ms
roots_of ts [] all = refl
roots_of ts (m ∷ ms) all =
    let (x, found) = troupe_of ts m all.0 in
    let rest = troupes_meant (number_troupes ts) (troupe_numbers ts) ms in
    ap (λ o. map (λ (t : Troupe). t.root) (option_to_list (option_map (troupe_meant m) o) ++ rest)) found.found_at
    ∙ ap (λ roots. m.root ∷ roots) (roots_of ts ms all.1)

-- in a deployment without a fault a troupe is a root where its module is one
pub roots_kept : (modules : List ModuleTree) (end format : ℕ) (d : DeploymentText) → deployment_faults modules end d ≡ []
    → map (λ (t : Troupe). t.root) (deployment_meant modules format d).troupes ≡ map (λ (m : ModuleTree). m.root) modules
roots_kept modules end format d none =
    let (nodes_none, troupes_none, lacks_none) = none_in_each modules end d none in
    roots_of d.troupes modules (none_lacks (troupe_numbers d.troupes) modules lacks_none)
