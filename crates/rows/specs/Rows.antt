-- Document 01, "Lines to try on the bench": the rows marked P and row 14, as one table, and one statement: each answer is what the definitions give.
use Rattle.std.specs.Prelude.{ℕ, zero, suc, ◌+◌, ◌/◌, ◌≡◌, refl, true, false, cond, List, [], ◌∷◌, ◌++◌, map, eqb, ℤ, pos, negsuc, replicate}
use Prim.Native.String.{String}
use Rattle.settings.specs.Valid.{valid_settings, vector_bytes, array_bytes}
use Rattle.settings.specs.declared.Settings.{Settings}
use Rattle.words.specs.Says.{describe}
use Rattle.words.specs.Decode.{enables, decode_enabled, decode_paper}
use Rattle.words.specs.declared.Family.TheVariants.{ByElement, Saturating, LongLong}
use Rattle.words.specs.declared.Fields.{Fields}
use Rattle.elements.specs.Elements.{element_at, element, low_bytes, vector}
use Rattle.elements.specs.Files.{vector_at, laid, renewed}
use Rattle.lanes.specs.Lane.{s_int, int_of, low, product, accumulate, lane_step, clamp, signed_sat, sat_step, step}
use Rattle.bits.specs.Bits.{over_bits, over_bytes, toggled}
use Rattle.rate.specs.Rate.{percent_of}
use Rattle.lanes.specs.Recipe.{Recipe}
use Rattle.recipes.specs.Recipe.{recipe_of}
use Rattle.lanes.specs.Element.{new_element, new_bytes}
use Rattle.machine.specs.Step.{new_register, z_after, stride, selected, first_vector, some_below, writes_vector, new_vector, za_after}
use Rattle.machine.specs.Execute.{Outcome, stepped, execute_paper}

-- what a row gives
pub data BenchGiven : Type 0 where
  -- a word, and the features
  word : ℕ → ℕ → BenchGiven
  -- the same, run with all Z bytes the same
  onto : ℕ → ℕ → ℕ → BenchGiven
  -- one lane of a word: the features, each source element, and the element that they go onto
  lane : ℕ → ℕ → ℕ → ℕ → ℕ → BenchGiven
  -- a word of ZA, the features and W8, run with modes 3
  array : ℕ → ℕ → ℕ → BenchGiven
  -- so many bits toggled, of so many written
  share : ℕ → ℕ → BenchGiven

-- what a row answers
pub data BenchAnswer : Type 0 where
  refused : ℕ → BenchAnswer
  fields : Fields → BenchAnswer
  -- the destination's lanes, toggled, written and percent
  lanes : List ℕ → ℕ → ℕ → ℕ → BenchAnswer
  -- one lane, as its bits and as a signed number
  onelane : ℕ → ℤ → BenchAnswer
  -- the vectors of ZA that the word changed
  vectors : List ℕ → BenchAnswer
  percent : ℕ → BenchAnswer

-- VL is 128, and modes and select registers are 0, unless said
abbrev pub bench_with : ℕ → ℕ → ℕ → Settings
bench_with features modes w8 =
    record { vl = 128; features = record { 0 = features }; modes = record { 0 = modes }; select = w8 ∷ 0 ∷ 0 ∷ 0 ∷ [] }

abbrev pub bench : ℕ → Settings
bench features = bench_with features 0 0

abbrev pub decode_answer : ℕ → Fields → BenchAnswer
decode_answer zero f = fields f
decode_answer (suc n) f = refused (suc n)

-- the fields of a word that is accepted
abbrev pub row_fields : ℕ → ℕ → Fields
row_fields w features = (decode_paper (bench features) w).1

-- register 0 has eight lanes of 16 bits
abbrev pub lanes_answer : Outcome → BenchAnswer
lanes_answer o =
    lanes (map (element 2 o.z) (0 ∷ 1 ∷ 2 ∷ 3 ∷ 4 ∷ 5 ∷ 6 ∷ 7 ∷ [])) (o.rises + o.falls) o.written (percent_of (o.rises + o.falls) o.written)

-- element 0 of the new vector, where every element of a source register is the given one
abbrev pub lane_answer : Recipe → ℕ → ℕ → ℕ → BenchAnswer
lane_answer r a x y =
    let n : ℕ =
    new_element r (low_bytes (r.wide / 8) a) (vector (λ e. x) (r.lane / 8) 8) (vector (λ e. y) (r.lane / 8) 8) 0 in
    onelane n (s_int r.wide n)

-- those of n vectors of 16 bytes that are not zero
abbrev pub changed : ℕ → List ℕ → List ℕ
changed zero za = []
changed (suc v) za = changed v za ++ cond (eqb (toggled (replicate 16 0) (vector_at 16 v za)) 0) [] (v ∷ [])

-- what the definitions answer
unfoldable pub row_answer : BenchGiven → BenchAnswer
row_answer (word w features) = decode_answer (decode_paper (bench features) w).0 (decode_paper (bench features) w).1
row_answer (onto w features x) = lanes_answer (execute_paper (bench features) w (replicate 512 x) (replicate 256 0))
row_answer (lane w features x y a) = lane_answer (recipe_of (row_fields w features).family (row_fields w features) 0) a x y
row_answer (array w features w8) = vectors (changed 16 (execute_paper (bench_with features 3 w8) w (replicate 512 1) (replicate 256 0)).za)
row_answer (share toggled written) = percent (percent_of toggled written)

pub record BenchLine : Type 0 where
  pub name : String
  pub given : BenchGiven
  pub answer : BenchAnswer

abbrev pub bench_rows : List BenchLine
bench_rows =
    record { name = "P1"; given = onto 0x0E228020 1 0x01; answer = lanes (replicate 8 0x0102) 16 128 12 }
    ∷ record { name = "P2"; given = onto 0x0E22A020 1 0x01; answer = lanes (replicate 8 0x0100) 8 128 6 }
    ∷ record { name = "P3"; given = lane 0x0E228020 1 0xFF 0xFF 0; answer = onelane 0x0001 (pos 1) }
    ∷ record { name = "P4"; given = lane 0x2E228020 1 0xFF 0xFF 0; answer = onelane 0xFE01 (negsuc 510) }
    ∷ record {
      name = "P5";
      given = word 0x2F726820 1;
      answer = fields (record { family = ByElement; unsigned = true; subtract = true; lane = 16; part = 0; index = 7; destination = 0; first = 1; second = 2; group = 1; select = 0; offset = 0 });
    }
    ∷ record { name = "P6"; given = word 0x2F026020 1; answer = refused 3 }
    ∷ record { name = "P6"; given = word 0x2FC26020 1; answer = refused 3 }
    ∷ record { name = "P7"; given = word 0x0EE28020 1; answer = refused 3 }
    ∷ record {
      name = "P8";
      given = word 0x44BA3820 2;
      answer = fields (record { family = Saturating; unsigned = false; subtract = true; lane = 16; part = 0; index = 7; destination = 0; first = 1; second = 2; group = 1; select = 0; offset = 0 });
    }
    ∷ record { name = "P9"; given = lane 0x44BA3820 2 0x8000 0x8000 0; answer = onelane 0x80000001 (negsuc 2147483646) }
    ∷ record { name = "P10"; given = lane 0x44BA2820 2 0x8000 0x8000 0xFFFFFFFF; answer = onelane 0x7FFFFFFE (pos 2147483646) }
    ∷ record { name = "P11"; given = word 0xC1E20008 12; answer = refused 3 }
    ∷ record {
      name = "P11, then";
      given = word 0xC1E20008 28;
      answer = fields (record { family = LongLong; unsigned = false; subtract = true; lane = 16; part = 0; index = 0; destination = 0; first = 0; second = 2; group = 2; select = 8; offset = 0 });
    }
    ∷ record { name = "P12"; given = array 0xC1A20008 12 7; answer = vectors (4 ∷ 5 ∷ 6 ∷ 7 ∷ 12 ∷ 13 ∷ 14 ∷ 15 ∷ []) }
    ∷ record { name = "P13"; given = array 0xC1E20800 12 1; answer = vectors (0 ∷ 1 ∷ 8 ∷ 9 ∷ []) }
    ∷ record { name = "14"; given = share 1023 1024; answer = percent 99 }
    ∷ []

-- the one statement: the definitions answer each row as the table does
pub rows_hold : map (λ (l : BenchLine). row_answer l.given) bench_rows ≡ map (λ (l : BenchLine). l.answer) bench_rows
unfolding row_answer decode_paper decode_enabled describe enables valid_settings vector_bytes array_bytes
    element_at low_bytes vector vector_at laid renewed s_int int_of low product accumulate lane_step clamp signed_sat sat_step step over_bits over_bytes
    new_element new_bytes new_register z_after stride selected first_vector some_below writes_vector new_vector za_after stepped execute_paper
rows_hold = refl
