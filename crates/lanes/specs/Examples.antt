-- Samples of one lane, computed: document 01's numbers of P3, P4, P9 and P10, −2^31 squared and doubled, and more from a model in Python
-- that shares nothing with this code.
use Rattle.std.specs.Prelude.{◌≡◌, ℕ, Bool, true, false, List, [], ◌∷◌, map, refl}
use Rattle.lanes.specs.Lane.{s_int, int_of, low, product, accumulate, lane_step, clamp, signed_sat, sat_step, step}

-- saturating, lane, wide, unsigned, subtract, the accumulator, the factors, the answer
pub data Sample : Type 0 where
  sample : Bool → ℕ → ℕ → Bool → Bool → ℕ → ℕ → ℕ → ℕ → Sample

abbrev pub step_of : Sample → ℕ
step_of (sample saturating lane wide unsigned subtract a x y answer) = step saturating lane wide unsigned subtract a x y

abbrev pub due_of : Sample → ℕ
due_of (sample saturating lane wide unsigned subtract a x y answer) = answer

abbrev pub samples : List Sample
samples =
    sample false 8 16 false false 0 0xFF 0xFF 0x0001
    ∷ sample false 8 16 true false 0 0xFF 0xFF 0xFE01
    ∷ sample true 16 32 false true 0 0x8000 0x8000 0x80000001
    ∷ sample true 16 32 false false 0xFFFFFFFF 0x8000 0x8000 0x7FFFFFFE
    ∷ sample true 32 64 false false 0 0x80000000 0x80000000 0x7FFFFFFFFFFFFFFF
    ∷ sample false 8 16 true true 0x7FFF 0x0F 0x01 0x7FF0
    ∷ sample false 8 16 true false 0x0A09 0x7F 0xCA 0x6E3F
    ∷ sample false 8 16 false false 0x0005 0x80 0x7F 0xC085
    ∷ sample false 8 16 false true 0x0000 0x80 0x80 0xC000
    ∷ sample false 8 16 true true 0x0000 0xFF 0xFF 0x01FF
    ∷ sample false 8 32 false false 0x80000000 0xFC 0x01 0x7FFFFFFC
    ∷ sample false 8 32 false true 0x00000001 0x7F 0xF3 0x00000674
    ∷ sample false 8 32 false true 0x7FFFFFFF 0x12 0x80 0x800008FF
    ∷ sample false 8 32 true true 0x00000000 0x80 0x80 0xFFFFC000
    ∷ sample false 8 32 true true 0xBFEAA155 0x7A 0x7F 0xBFEA64CF
    ∷ sample false 16 32 false true 0x7FFFFFFF 0x06EC 0x8732 0x834431E7
    ∷ sample false 16 32 false false 0xFC241D0B 0x31F5 0x8000 0xE3299D0B
    ∷ sample false 16 32 true true 0x7FFFFFFF 0x8000 0xFFFF 0x00007FFF
    ∷ sample false 16 32 true false 0x80000000 0x0001 0x7FFF 0x80007FFF
    ∷ sample false 16 64 true true 0x0000000000000001 0x4D82 0xE5A3 0xFFFFFFFFBA795C3B
    ∷ sample false 16 64 false false 0x0000000000000001 0x8000 0x7FFF 0xFFFFFFFFC0008001
    ∷ sample false 32 64 false false 0x0000000000000001 0x32D90DCD 0xE1C60AA3 0xF9FF0D51B44BCB88
    ∷ sample false 32 64 true false 0x00000000FFFFFFFF 0xFFFFFFFF 0xFFFFFFFF 0xFFFFFFFF00000000
    ∷ sample false 32 64 false true 0x0000000000000000 0x80000000 0x80000000 0xC000000000000000
    ∷ sample true 16 32 false true 0x618177FF 0x8000 0x8000 0xE1817800
    ∷ sample true 16 32 false false 0x00000001 0x8000 0x8000 0x7FFFFFFF
    ∷ sample true 16 32 false true 0x80000000 0x8000 0x8000 0x80000000
    ∷ sample true 16 32 false true 0x00000001 0x7FFF 0x0001 0xFFFF0003
    ∷ sample true 16 32 false false 0x7FFFFFFF 0xFFFF 0x8000 0x7FFFFFFF
    ∷ sample true 16 32 false true 0xB96245D3 0x0B35 0x7FFF 0xAE2D5C3D
    ∷ sample true 16 32 false false 0xB3783A7C 0x7FFF 0x7FFF 0x33763A7E
    ∷ sample true 16 32 false false 0x041DCD94 0x9585 0xE490 0x1AF0EB34
    ∷ sample true 16 32 false false 0x10E8AD01 0x408F 0xFFFF 0x10E82BE3
    ∷ sample true 32 64 false true 0x348922D7C1A624DC 0x80000000 0x80000000 0xB48922D7C1A624DD
    ∷ sample true 32 64 false true 0x7FFFFFFFFFFFFFFF 0x80000000 0x80000000 0x0000000000000000
    ∷ sample true 32 64 false true 0x8000000000000000 0x80000000 0x00000001 0x8000000100000000
    ∷ sample true 32 64 false true 0xFFFFFFFFFFFFFFFF 0x00000001 0x9A762D54 0x00000000CB13A557
    ∷ sample true 32 64 false false 0xFFFFFFFFFFFFFFFF 0x80000000 0x7FFFFFFF 0x80000000FFFFFFFF
    ∷ sample true 32 64 false true 0xFFFFFFFFFFFFFFFF 0xFFFFFFFF 0xFFFFFFFF 0xFFFFFFFFFFFFFFFD
    ∷ sample true 32 64 false false 0xCFDCC257076D490A 0x7FFFFFFF 0x8C9A3751 0x8000000000000000
    ∷ []

pub samples_hold : map step_of samples ≡ map due_of samples
unfolding s_int int_of low product accumulate lane_step clamp signed_sat sat_step step
samples_hold = refl
