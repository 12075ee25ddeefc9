-- Every element that a word's recipe takes lies in its register. Assumes nothing.
use Prim.Native.Nat.{ℕ, ◌*◌, ◌/◌, ◌%◌, ◌≤◌, ◌<◌}
use native.Mathlib.Omega.{arith}
use mathlib.Core.Path.{◌≡◌, refl}
use mathlib.Core.Logic.{◌⊎◌, inl, inr}
use mathlib.Core.List.{List}
use lib.ListN.{length}
use Rattle.settings.specs.Lengths.{VectorLength}
use Rattle.words.specs.Ranges.{Ranges, OfFamily}
use Rattle.words.specs.declared.Family.{Family}
use Rattle.words.specs.declared.Family.TheVariants.{ByElement, Vector, Saturating, LongLong, Long}
use Rattle.words.specs.declared.Fields.{Fields}
use Rattle.elements.specs.Lanes.{IsLane, each, each_segment, Reaches}
use Rattle.elements.proofs.Lanes.{by_lane}
use Rattle.lanes.specs.Widths.{Widths}
use Rattle.lanes.proofs.Widths.{doubled, quadrupled}
use Rattle.recipes.specs.Recipe.{recipe_of, new_length, per_source}
use Rattle.lanes.specs.Element.{new_bytes, Inside}
use Rattle.lanes.proofs.Built.{length_new}

-- the new bytes are whole elements, and no more than the register's
pub new_length_lem : (family : Family) (w : ℕ) → VectorLength w → (new_length family w % 8 ≡ 0) × (new_length family w ≤ w)
new_length_lem ByElement w v = (refl, v.least)
new_length_lem Vector w v = (refl, v.least)
new_length_lem Saturating w v = (omega (arith, v.whole), omega arith)
new_length_lem LongLong w v = (omega (arith, v.whole), omega arith)
new_length_lem Long w v = (omega (arith, v.whole), omega arith)

-- ---- the choices of the families, for every lane: the last element lies in a register of w bytes

-- 64/lane elements of double width are 128 bits
pub in_half : {lane : ℕ} → IsLane lane → 64 / lane ≡ 8 * 16 / (2 * lane)
in_half {lane} = by_lane (λ n. 64 / n ≡ 8 * 16 / (2 * n)) refl refl refl lane

module _ (lane : ℕ) (l : IsLane lane) (w : ℕ) (least : 16 ≤ w) where
  pub half_in : (part : ℕ) → part < 2 → Reaches lane (each 1 (part * (64 / lane))) (8 * 16 / (2 * lane)) w
  half_in part p = by_lane (λ n. Reaches n (each 1 (part * (64 / n))) (8 * 16 / (2 * n)) w) (omega arith) (omega arith) (omega arith) lane l

  pub index_in : (index n : ℕ) → index * lane < 128 → Reaches lane (each 0 index) n w
  index_in index n = by_lane (λ b. index * b < 128 → Reaches b (each 0 index) n w) (λ q. omega arith) (λ q. omega arith) (λ q. omega arith) lane l

  twice_in : (part : ℕ) → part < 2 → Reaches lane (each 2 part) (8 * w / (2 * lane)) w
  twice_in part p = by_lane (λ n. Reaches n (each 2 part) (8 * w / (2 * n)) w) (omega arith) (omega arith) (omega arith) lane l

  segment_in : (index : ℕ) → w % 16 ≡ 0 → index * lane < 128 → Reaches lane (each_segment 2 index) (8 * w / (2 * lane)) w
  segment_in index h =
      by_lane (λ n. index * n < 128 → Reaches n (each_segment 2 index) (8 * w / (2 * n)) w) (λ q. omega arith) (λ q. omega arith) (λ q. omega arith) lane l

fourth_in : {lane : ℕ} → (lane ≡ 8) ⊎ (lane ≡ 16) → (i w : ℕ) → i < 4 → 16 ≤ w → Reaches lane (each 4 i) (8 * w / (4 * lane)) w
fourth_in (inl l) i w h least = rw l (omega arith)
fourth_in (inr l) i w h least = rw l (omega arith)

-- ---- of every word that is described

module _ (f : Fields) (g : Ranges f) where
  widths_of : (family : Family) → OfFamily family f → (i : ℕ) → Widths (recipe_of family f i).lane (recipe_of family f i).wide
  widths_of ByElement o i = doubled f.lane g.lane
  widths_of Vector o i = doubled f.lane g.lane
  widths_of Saturating o i = doubled f.lane g.lane
  widths_of LongLong o i = quadrupled o.1
  widths_of Long o i = doubled f.lane g.lane

  pub widths : (i : ℕ) → Widths (recipe_of f.family f i).lane (recipe_of f.family f i).wide
  widths = widths_of f.family g.of_family

  pub length-new_bytes : (i bytes : ℕ) (old first second : List ℕ) → bytes % 8 ≡ 0 → length (new_bytes (recipe_of f.family f i) bytes old first second) ≡ bytes
  length-new_bytes i bytes old first second = length_new (recipe_of f.family f i) bytes old first second (widths i).1.0

  module _ (w : ℕ) (v : VectorLength w) where
    -- what the choices of a family have to give
    given : (family : Family) (i : ℕ) → OfFamily family f
        → Reaches (recipe_of family f i).lane (recipe_of family f i).first (8 * new_length family w / (recipe_of family f i).wide) w
        → Reaches (recipe_of family f i).lane (recipe_of family f i).second (8 * new_length family w / (recipe_of family f i).wide) w
        → Inside (recipe_of family f i) (new_length family w) w
    given family i o first second =
        record {
          widths = widths_of family o i;
          whole = (new_length_lem family w v).0;
          room = (new_length_lem family w v).1;
          first = first;
          second = second;
        }

    by_family : (family : Family) → OfFamily family f → (i : ℕ) → i < per_source family → Inside (recipe_of family f i) (new_length family w) w
    by_family ByElement o i h =
        given ByElement i o (half_in f.lane g.lane w v.least f.part g.part) (index_in f.lane g.lane w v.least f.index _ g.index)
    by_family Vector o i h =
        let half = half_in f.lane g.lane w v.least f.part g.part in
        given Vector i o half half
    by_family Saturating o i h =
        given Saturating i o (twice_in f.lane g.lane w v.least f.part g.part) (segment_in f.lane g.lane w v.least f.index v.whole g.index)
    by_family LongLong o i h =
        let fourth = fourth_in o.1 i w h v.least in
        given LongLong i o fourth fourth
    by_family Long o i h =
        let twice = twice_in f.lane g.lane w v.least i h in
        given Long i o twice twice

    -- no element too far
    pub inside : (i : ℕ) → i < per_source f.family → Inside (recipe_of f.family f i) (new_length f.family w) w
    inside = by_family f.family g.of_family
