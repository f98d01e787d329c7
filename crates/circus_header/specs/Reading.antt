-- Which bytes begin with a header, and why others don't.
use Rattle.std.specs.Prelude.{◌≡◌, ℕ, ◌<◌, ◌⊎◌, Bool, false, List, [], ◌∷◌, ◌++◌, length, All, Result, Ok, Err}
use Rattle.circus_header.specs.Field.{Field, HasRoom, field_len, bytes_of}
use Rattle.circus_header.specs.CallFields.{call_fields, IsCall, has_body}
use Rattle.circus_header.specs.ReturnFields.{return_fields, IsReturn, has_rest}
use Rattle.circus_header.specs.declared.call.Call.{Call}
use Rattle.circus_header.specs.declared.answer.ReturnHeader.{ReturnHeader}
use Rattle.circus_header.specs.declared.header_fault.HeaderFault.{HeaderFault}
use Rattle.circus_header.specs.declared.header_fault.HeaderFault.TheVariants.{Short, BadField, NoMemory}

-- headers of one kind: the fields of each, which are in their ranges, and behind which of them more bytes stand
pub record Headers (H : Type 0) : Type 1 where
  pub fields : H → List Field
  pub IsHeader : H → Type 0
  pub goes_on : H → Bool

abbrev pub calls : Headers Call
calls = record { fields = call_fields; IsHeader = IsCall; goes_on = has_body }

abbrev pub returns : Headers ReturnHeader
returns = record { fields = return_fields; IsHeader = IsReturn; goes_on = has_rest }

-- a header of the kind, each field of which is in its range and has room
abbrev pub IsOne : {H : Type 0} → Headers H → H → Type 0
IsOne hs h = hs.IsHeader h × All HasRoom (hs.fields h)

-- some header has these fields, and then this one
abbrev pub MayGoOn : {H : Type 0} → Headers H → List Field → Field → Type 0
MayGoOn {H} hs done field = (h : H) × (others : List Field) × IsOne hs h × (hs.fields h ≡ done ++ field ∷ others)

-- the bytes are those of a header, and then of what stands behind it
pub record BeginsWith {H : Type 0} (hs : Headers H) (bytes : List ℕ) (h : H) (len : ℕ) : Type 0 where
  pub header : IsOne hs h
  pub rest : (rest : List ℕ) × (bytes ≡ bytes_of (hs.fields h) ++ rest) × (hs.goes_on h ≡ false → rest ≡ [])
  pub upto : len ≡ length (bytes_of (hs.fields h))

-- the bytes end within the field at this place
abbrev pub IsShort : {H : Type 0} → Headers H → List ℕ → ℕ → Type 0
IsShort hs bytes place =
    (done : List Field) × (field : Field) × (rest : List ℕ)
    × MayGoOn hs done field × (bytes ≡ bytes_of done ++ rest) × (length rest < field_len field) × (place ≡ length (bytes_of done))

-- the field at this place is in the range of no header that has the fields before it
abbrev pub IsOutOfRange : {H : Type 0} → Headers H → List ℕ → ℕ → Type 0
IsOutOfRange hs bytes place =
    (done : List Field) × (field : Field) × (found : Field) × (rest : List ℕ)
    × MayGoOn hs done field × (field_len found ≡ field_len field) × HasRoom found × (MayGoOn hs done found → ⊥)
    × (bytes ≡ bytes_of done ++ bytes_of (found ∷ []) ++ rest) × (place ≡ length (bytes_of done))

-- bytes stand behind a header that has nothing behind it
abbrev pub IsExcess : {H : Type 0} → Headers H → List ℕ → ℕ → Type 0
IsExcess {H} hs bytes place =
    (h : H) × (rest : List ℕ) × IsOne hs h × (hs.goes_on h ≡ false)
    × (bytes ≡ bytes_of (hs.fields h) ++ rest) × (0 < length rest) × (place ≡ length (bytes_of (hs.fields h)))

-- what the bytes are
abbrev pub IsAnswer : {H : Type 0} → Headers H → List ℕ → Result (H × ℕ) HeaderFault → Type 0
IsAnswer hs bytes (Ok x) = BeginsWith hs bytes x.0 x.1
IsAnswer hs bytes (Err (Short place)) = IsShort hs bytes place
IsAnswer hs bytes (Err (BadField place)) = IsOutOfRange hs bytes place ⊎ IsExcess hs bytes place
IsAnswer hs bytes (Err NoMemory) = Unit {0}
