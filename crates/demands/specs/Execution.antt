-- What holds of every outcome of execute, in document 01's words and in numbers of bits. Statements only: proofs/Execution.antt proves each.
use Rattle.std.specs.Prelude.{ℕ, ◌+◌, ◌-◌, ◌*◌, ◌/◌, ◌%◌, ◌≤◌, ◌<◌, ◌≡◌, ◌⊎◌, ◌↔◌, ◌≢◌, true, false, List, length, get_or, take, drop}
use Rattle.settings.specs.Valid.{valid_settings, vector_bytes, array_bytes}
use Rattle.settings.specs.declared.Settings.{Settings}
use Rattle.words.specs.Decode.{decode_paper}
use Rattle.words.specs.declared.Family.{Family}
use Rattle.words.specs.declared.Family.TheVariants.{ByElement, Vector, Saturating, LongLong, Long}
use Rattle.words.specs.declared.Fields.{Fields}
use Rattle.elements.specs.Elements.{Bytes, element_of}
use Rattle.elements.specs.Files.{vector_at}
use Rattle.lanes.specs.Lane.{lane_step, sat_step}
use Rattle.lanes.specs.Element.{new_bytes}
use Rattle.recipes.specs.Recipe.{recipe_of}
use Rattle.std.specs.Int.Bits.{differ}
use Rattle.bits.specs.Bits.{over_bytes, rises, falls, ones_of}
use Rattle.machine.specs.Modes.{permits}
use Rattle.machine.specs.Step.{register, stride, selected, first_vector, writes_vector}
use Rattle.machine.specs.Execute.{Outcome, refused_with, stepped, execute_paper}

-- VL
abbrev pub vl_of : Settings → ℕ
vl_of s = s.vl

-- a Z register has VL bits; a vector of ZA is as long
abbrev pub LengthIsVl : Type 0
LengthIsVl = (s : Settings) → valid_settings s ≡ true → (8 * vector_bytes s ≡ vl_of s) × (8 * array_bytes s ≡ vl_of s)

-- vector v of ZA
abbrev pub za_vector : Settings → List ℕ → ℕ → List ℕ
za_vector s za v = vector_at (array_bytes s) v za

-- ---- which words are accepted, and how the others are refused

-- no refusal is due: the settings are valid, "Z and ZA lengths are exact", the word decodes to f, and the mode permits the family
pub record Accepted (s : Settings) (w : ℕ) (f : Fields) (z za : List ℕ) : Type 0 where
  pub valid : valid_settings s ≡ true
  pub z_exact : length z ≡ 32 * vector_bytes s
  pub za_exact : length za ≡ array_bytes s * array_bytes s
  pub decodes : decode_paper s w ≡ (0, f)
  pub permitted : permits s.features.0 s.modes.0 f.family ≡ true

-- an accepted word is done
abbrev pub AcceptedSteps : Type 0
AcceptedSteps = (s : Settings) (w : ℕ) (f : Fields) (z za : List ℕ) → Accepted s w f z za → execute_paper s w z za ≡ stepped s f z za

-- the number is 0 exactly where the word is accepted
abbrev pub AcceptedExactly : Type 0
AcceptedExactly = (s : Settings) (w : ℕ) (z za : List ℕ) → ((execute_paper s w z za).number ≡ 0) ↔ ((f : Fields) × Accepted s w f z za)

-- "execute 1, 2, 3, 4": each refusal is given where no earlier one is due
pub record RefusedInOrder (s : Settings) (w : ℕ) (z za : List ℕ) : Type 0 where
  pub by_settings : valid_settings s ≡ false → execute_paper s w z za ≡ refused_with 1 z za
  pub by_lengths : valid_settings s ≡ true → (length z ≢ 32 * vector_bytes s) ⊎ (length za ≢ array_bytes s * array_bytes s)
      → execute_paper s w z za ≡ refused_with 2 z za
  pub by_word : valid_settings s ≡ true → length z ≡ 32 * vector_bytes s → length za ≡ array_bytes s * array_bytes s
      → (n : ℕ) → (decode_paper s w).0 ≡ n → n ≢ 0 → (execute_paper s w z za ≡ refused_with n z za) × (n ≡ 3)
  pub by_mode : valid_settings s ≡ true → length z ≡ 32 * vector_bytes s → length za ≡ array_bytes s * array_bytes s
      → (f : Fields) → decode_paper s w ≡ (0, f) → permits s.features.0 s.modes.0 f.family ≡ false
      → execute_paper s w z za ≡ refused_with 4 z za

abbrev pub AlwaysInOrder : Type 0
AlwaysInOrder = (s : Settings) (w : ℕ) (z za : List ℕ) → RefusedInOrder s w z za

-- ---- what holds of every outcome

-- P of Z and ZA before the call, and of the outcome
abbrev pub Always : (List ℕ → List ℕ → Outcome → Type 0) → Type 0
Always P = (s : Settings) (w : ℕ) (z za : List ℕ) → P z za (execute_paper s w z za)

-- "A refusal returns its number and zeros, and every lent buffer keeps its contents"
abbrev pub KeepsIfRefused : List ℕ → List ℕ → Outcome → Type 0
KeepsIfRefused z za o = o.number ≢ 0 → (o.z ≡ z) × (o.za ≡ za) × (o.rises ≡ 0) × (o.falls ≡ 0) × (o.written ≡ 0)

abbrev pub SameLengths : List ℕ → List ℕ → Outcome → Type 0
SameLengths z za o = (length o.z ≡ length z) × (length o.za ≡ length za)

-- bytes stay bytes
abbrev pub StillBytes : List ℕ → List ℕ → Outcome → Type 0
StillBytes z za o = Bytes z → Bytes za → Bytes o.z × Bytes o.za

-- "toggled is their sum" (document 02)
abbrev pub toggled_of : Outcome → ℕ
toggled_of o = o.rises + o.falls

-- "Toggled is the number of bits that differ in Z and ZA before and after"
abbrev pub CountsToggled : List ℕ → List ℕ → Outcome → Type 0
CountsToggled z za o = toggled_of o ≡ over_bytes differ z o.z + over_bytes differ za o.za

-- "A rising bit and a falling bit": one that was 0 and is 1, and one that was 1 and is 0
abbrev pub CountsEach : List ℕ → List ℕ → Outcome → Type 0
CountsEach z za o = (o.rises ≡ rises z o.z + rises za o.za) × (o.falls ≡ falls z o.z + falls za o.za)

-- a bit that changed was written
abbrev pub AtMostWritten : List ℕ → List ℕ → Outcome → Type 0
AtMostWritten z za o = toggled_of o ≤ o.written

-- VL·group·4 with the greatest VL and the greatest group
abbrev pub FewWritten : List ℕ → List ℕ → Outcome → Type 0
FewWritten z za o = o.written ≤ 8192

-- ---- what holds where a word of a family is accepted

-- P of the settings, the fields, Z and ZA before the call, and the outcome
abbrev pub Whenever : Family → (Settings → Fields → List ℕ → List ℕ → Outcome → Type 0) → Type 0
Whenever family P =
    (s : Settings) (w : ℕ) (f : Fields) (z za : List ℕ) → Accepted s w f z za → f.family ≡ family → P s f z za (execute_paper s w z za)

-- A, B: "the 64-bit half Q of the first source gives 64/lane elements. .. Products are added to or subtracted from the double-width element, modulo
-- 2 to its width". Element e of the half goes with element `other e` of the second source
abbrev pub ElementsOfHalf : (ℕ → ℕ) → Settings → Fields → List ℕ → List ℕ → Outcome → Type 0
ElementsOfHalf other s f z za o =
    (e : ℕ) → e < 64 / f.lane
    → element_of (2 * f.lane) (register s o.z f.destination) e
    ≡ lane_step f.lane (2 * f.lane) f.unsigned f.subtract
    (element_of (2 * f.lane) (register s z f.destination) e)
    (element_of f.lane (register s z f.first) (f.part * (64 / f.lane) + e))
    (element_of f.lane (register s z f.second) (other e))

-- "A uses the one element at the index, counted over the whole second register"
abbrev pub ElementsA : Settings → Fields → List ℕ → List ℕ → Outcome → Type 0
ElementsA s f = ElementsOfHalf (λ e. f.index) s f

-- "B pairs each with the same element of half Q of the second source"
abbrev pub ElementsB : Settings → Fields → List ℕ → List ℕ → Outcome → Type 0
ElementsB s f = ElementsOfHalf (λ e. f.part * (64 / f.lane) + e) s f

-- C: "for double-width element e, the first factor is element 2e+T. With s = e − (e mod (64/lane)), the second is element 2s+index"
abbrev pub ElementsC : Settings → Fields → List ℕ → List ℕ → Outcome → Type 0
ElementsC s f z za o =
    (e : ℕ) → e < vl_of s / (2 * f.lane)
    → element_of (2 * f.lane) (register s o.z f.destination) e
    ≡ sat_step f.lane (2 * f.lane) f.subtract
    (element_of (2 * f.lane) (register s z f.destination) e)
    (element_of f.lane (register s z f.first) (2 * e + f.part))
    (element_of f.lane (register s z f.second) (2 * (e - e % (64 / f.lane)) + f.index))

-- D and E: "For r below group and i below k, vector first + r·stride + i of ZA takes, at each element e of k·lane bits, the product of elements
-- k·e+i of Z registers n+r and m+r, modulo 2 to the width"
abbrev pub ElementsZa : ℕ → Settings → Fields → List ℕ → List ℕ → Outcome → Type 0
ElementsZa k s f z za o =
    (r i e : ℕ) → r < f.group → i < k → e < vl_of s / (k * f.lane)
    → element_of (k * f.lane) (za_vector s o.za (first_vector s f + r * stride s f + i)) e
    ≡ lane_step f.lane (k * f.lane) f.unsigned f.subtract
    (element_of (k * f.lane) (za_vector s za (first_vector s f + r * stride s f + i)) e)
    (element_of f.lane (register s z (f.first + r)) (k * e + i))
    (element_of f.lane (register s z (f.second + r)) (k * e + i))

-- A, B: "Their written count becomes VL" (document 02). "VL in C, VL·group·4 in D, VL·group·2 in E"
pub record WrittenIs : Type 0 where
  pub in_a : Whenever ByElement (λ s f z za o. o.written ≡ vl_of s)
  pub in_b : Whenever Vector (λ s f z za o. o.written ≡ vl_of s)
  pub in_c : Whenever Saturating (λ s f z za o. o.written ≡ vl_of s)
  pub in_d : Whenever LongLong (λ s f z za o. o.written ≡ vl_of s * f.group * 4)
  pub in_e : Whenever Long (λ s f z za o. o.written ≡ vl_of s * f.group * 2)

-- ---- the upper part of a V write

-- "V register d is the low 16 bytes of Z register d": the bytes of register d from 16 on are zeros
abbrev pub ClearAbove : Settings → ℕ → List ℕ → Type 0
ClearAbove s d z = (i : ℕ) → 16 ≤ i → i < vector_bytes s → get_or z (d * vector_bytes s + i) 0 ≡ 0

-- P in A and in B
abbrev pub WheneverV : (Settings → Fields → List ℕ → List ℕ → Outcome → Type 0) → Type 0
WheneverV P = Whenever ByElement P × Whenever Vector P

-- "writing a V register sets the rest of the Z register to zero. Families A and B now do this" (document 02)
abbrev pub ClearsAbove : Settings → Fields → List ℕ → List ℕ → Outcome → Type 0
ClearsAbove s f z za o = ClearAbove s f.destination o.z

-- the V register of register d, and what is above it
abbrev pub low_part : Settings → ℕ → List ℕ → List ℕ
low_part s d z = take 16 (register s z d)

abbrev pub upper_part : Settings → ℕ → List ℕ → List ℕ
upper_part s d z = drop 16 (register s z d)

-- "cleared bits count as falls": beside those of the V register each 1 above it falls, and nothing rises there
abbrev pub CountsCleared : Settings → Fields → List ℕ → List ℕ → Outcome → Type 0
CountsCleared s f z za o =
    (o.rises ≡ rises (low_part s f.destination z) (low_part s f.destination o.z))
    × (o.falls ≡ falls (low_part s f.destination z) (low_part s f.destination o.z) + ones_of (upper_part s f.destination z))

-- "At VL 128 nothing changes": a register has 16 bytes, the new one is those that the elements give, and written is 128
abbrev pub SameAt128 : Settings → Fields → List ℕ → List ℕ → Outcome → Type 0
SameAt128 s f z za o =
    vl_of s ≡ 128
    → (register s o.z f.destination
    ≡ new_bytes (recipe_of f.family f 0) 16 (register s z f.destination) (register s z f.first) (register s z f.second))
    × (o.written ≡ 128)

-- ---- everything else stays

-- A, B and C leave ZA, and each byte of Z but those of the destination
abbrev pub ElsewhereZ : Settings → Fields → List ℕ → List ℕ → Outcome → Type 0
ElsewhereZ s f z za o =
    (o.za ≡ za)
    × ((i : ℕ) → (i < f.destination * vector_bytes s) ⊎ (f.destination * vector_bytes s + vector_bytes s ≤ i) → get_or o.z i 0 ≡ get_or z i 0)

pub record ZElsewhere : Type 0 where
  pub in_a : Whenever ByElement ElsewhereZ
  pub in_b : Whenever Vector ElsewhereZ
  pub in_c : Whenever Saturating ElsewhereZ

-- v is first + r·stride + i, with r below group and i below k
pub record Among (k : ℕ) (s : Settings) (f : Fields) (v : ℕ) : Type 0 where
  pub r : ℕ
  pub i : ℕ
  pub r_below : r < f.group
  pub i_below : i < k
  pub is : v ≡ first_vector s f + r * stride s f + i

-- D and E leave Z, and each vector of ZA but those
abbrev pub ElsewhereZa : ℕ → Settings → Fields → List ℕ → List ℕ → Outcome → Type 0
ElsewhereZa k s f z za o =
    (o.z ≡ z) × ((v : ℕ) → v < array_bytes s → (Among k s f v → ⊥) → za_vector s o.za v ≡ za_vector s za v)

-- ---- the vectors of ZA that a word writes

-- "let k be 4 in D, 2 in E"
abbrev pub WheneverZa : (ℕ → Settings → Fields → List ℕ → List ℕ → Outcome → Type 0) → Type 0
WheneverZa P = Whenever LongLong (P 4) × Whenever Long (P 2)

-- "Stride is (VL/8)/group. The first vector is (W+offset) mod stride, rounded down to a multiple of k" (`selected` is that before it
-- is rounded); the k vectors from it on are below stride
pub record First (k : ℕ) (s : Settings) (f : Fields) : Type 0 where
  pub stride_is : stride s f ≡ vl_of s / 8 / f.group
  pub multiple : first_vector s f % k ≡ 0
  pub rounded_down : first_vector s f ≤ selected s f
  pub by_less : selected s f < first_vector s f + k
  pub fits : first_vector s f + k ≤ stride s f

-- no two of the vectors are one
abbrev pub Distinct : ℕ → Settings → Fields → Type 0
Distinct k s f =
    (r i r' i' : ℕ) → i < k → i' < k
    → first_vector s f + r * stride s f + i ≡ first_vector s f + r' * stride s f + i' → (r ≡ r') × (i ≡ i')

-- each of them is there, and the test of the definition passes for them and for no other
pub record Exact (k : ℕ) (s : Settings) (f : Fields) : Type 0 where
  pub there : (r i : ℕ) → r < f.group → i < k → first_vector s f + r * stride s f + i < array_bytes s
  pub exactly : (v : ℕ) → v < array_bytes s → (writes_vector s f v ≡ true) ↔ Among k s f v
