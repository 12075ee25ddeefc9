-- One turn that renews eight bytes in place, and a vector that is renewed so. Assumes nothing.
use mathlib.Core.Path.{◌≡◌, refl, sym, ◌∙◌}
use mathlib.Core.Bool.{Bool, false}
use mathlib.Core.Logic.{inl, inr}
use mathlib.Core.List.{List}
use Prim.Native.Nat.{ℕ, ◌+◌, ◌*◌, ◌/◌, ◌%◌, ◌<◌, ◌≤◌}
use native.Mathlib.Omega.{arith}
use lib.ListN.{length, drop}
use Rattle.elements.specs.Elements.{element_at, put_at}
use Rattle.elements.specs.Lanes.{each, chosen_at}
use Rattle.elements.proofs.Elements.{Bytes, element_at_same}
use Rattle.elements.proofs.Vectors.{put_each, put_each_turn, put_each_end}
use Rattle.lanes.specs.Lane.{step}
use Rattle.lanes.specs.Widths.{IsWidth}
use Rattle.bits.specs.Bits.{toggles, word_toggles}
use Rattle.bits.specs.Replace.{Replaced}
use Rattle.bits.specs.declared.Toggles.{Toggles}
use Rattle.bits.proofs.Put.{Upto, untouched, word_turn, word_end}
use Rattle.lanes.specs.Element.{new_element, new_bytes}
use Rattle.lanes.proofs.Built.{new_element-at, length_new, Bytes-new_bytes}
use Rattle.chunks.specs.Chunk.{evenly, even_bytes, chunk, OfArray, OfV}
use Rattle.chunks.proofs.Parts.{by_array}
use Rattle.chunks.proofs.Strides.{chunk-at}

module _ (lane wide : ℕ) (iw : IsWidth wide) (u s : Bool) (old : List ℕ) (at : ℕ) (z : List ℕ) (x sx dx y sy dy bytes : ℕ) (edx : dx ≡ sx * (lane / 8))
    (edy : dy ≡ sy * (lane / 8)) (by : Bytes old) (fit : at + bytes ≤ length old) (eights : bytes % 8 ≡ 0) where
  abbrev New : List ℕ
  New = even_bytes lane wide u s old at z x sx y sy bytes

  long : length New ≡ bytes
  long = length_new (evenly lane wide u s sx sy) bytes (drop at old) (drop x z) (drop y z) iw eights

  -- one turn, from what its calls ensure
  pub turned : (c : ℕ) (t v t' : Toggles) (before after px py : ℕ) (file file' : List ℕ) → 8 * c < bytes → Upto old New at (8 * c) file → t ≡ toggles old file
      → px ≡ x + chosen_at lane (each sx 0) (c * (64 / wide)) → py ≡ y + chosen_at lane (each sy 0) (c * (64 / wide))
      → before ≡ element_at 8 (at + 8 * c) file → after ≡ chunk lane wide u s before z px dx py dy
      → v ≡ word_toggles (element_at 8 (at + 8 * c) file) after → (t'.rises ≡ t.rises + v.rises) × (t'.falls ≡ t.falls + v.falls)
      → file' ≡ put_at 8 (at + 8 * c) after file
      → Upto old New at (8 * (c + 1)) file' × (t' ≡ toggles old file') × (length file' ≡ length old)
  turned c t v t' before after px py file file' h up et ex ey eb ea ev es ef =
      let own : before ≡ element_at 8 (at + 8 * c) old =
      eb ∙ element_at_same 8 (at + 8 * c) (at + 8 * c) file old (λ j _. untouched old New at (8 * c) file up j) in
      word_turn old New at (rw long fit) (rw long eights) c t v t' after file file' by (rw long h) up et
      (ea ∙ chunk-at lane wide iw u s old at z x sx dx y sy dy edx edy by c bytes before px py (omega arith) own ex ey) ev es ef

  -- the end
  pub whole : (c : ℕ) (t : Toggles) (file : List ℕ) → 8 * c ≡ bytes → Upto old New at (8 * c) file → t ≡ toggles old file → Replaced at t New old file
  whole c t file h up et =
      word_end old New at (rw long fit) (rw long eights) c t file (Bytes-new_bytes (evenly lane wide u s sx sy) bytes _ _ _) (h ∙ sym long) up et

-- ---- elements of 16 bits

module _ (u s : Bool) (z : List ℕ) (at x y sy : ℕ) where
  abbrev Own : ℕ → ℕ
  Own = new_element (evenly 8 16 u s 1 sy) (drop at z) (drop x z) (drop y z)

  -- a turn, from what its calls ensure
  pub own_put : (e p px py o r : ℕ) (new out out' : List ℕ) → p ≡ element_at 2 (at + e * 2) z → px ≡ x + chosen_at 8 (each 1 0) e → py ≡ y + chosen_at 8 (each sy 0) e
      → o ≡ 0 + e * 2 → r ≡ step false 8 16 u s p (element_at 1 px z) (element_at 1 py z)
      → out ≡ put_each Own 2 0 e new → out' ≡ put_at 2 o r out → out' ≡ put_each Own 2 0 (e + 1) new
  own_put e p px py o r new out out' ea ex ey eo er ew ep =
      put_each_turn Own 2 0 e o r new out out' eo (rw (new_element-at (evenly 8 16 u s 1 sy) z at z x y e, ← ea, ← ex, ← ey) er) ew ep

  -- eight are the 16 bytes
  pub all_put : (e : ℕ) (new out : List ℕ) → e ≤ 8 → 8 ≤ e → length new ≡ 16 → out ≡ put_each Own 2 0 e new → out ≡ even_bytes 8 16 u s z at z x 1 y sy 16
  unfolding new_bytes
  all_put e new out l m long ew = put_each_end Own 2 e 8 new out l m long ew

-- ---- the lanes of words that write ZA

-- a source has for each element as many bytes as the element has
pub array_step : (lane wide : ℕ) → OfArray lane wide → wide / 8 ≡ wide / lane * (lane / 8)
array_step = by_array (λ lane wide. wide / 8 ≡ wide / lane * (lane / 8)) refl refl refl

-- chunk c begins at the same distance in a source
pub array_place : (lane wide : ℕ) → OfArray lane wide → (x c : ℕ) → x + 8 * c ≡ x + chosen_at lane (each (wide / lane) 0) (c * (64 / wide))
array_place =
    by_array (λ lane wide. (x c : ℕ) → x + 8 * c ≡ x + chosen_at lane (each (wide / lane) 0) (c * (64 / wide)))
    (λ x c. omega arith)
    (λ x c. omega arith)
    (λ x c. omega arith)

-- ---- the lanes of words that write a V register

-- the second chunk's begin 4·sx bytes on
pub v_place : (lane wide : ℕ) → OfV lane wide → (x sx : ℕ) → x + 4 * sx ≡ x + chosen_at lane (each sx 0) (1 * (64 / wide))
v_place lane wide (inl (l, w)) x sx = rw (l, w) (omega arith)
v_place lane wide (inr (l, w)) x sx = rw (l, w) (omega arith)
