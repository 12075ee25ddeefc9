-- The bits that change in a register file when one vector after the other is replaced. Assumes nothing.
use mathlib.Core.Path.{◌≡◌}
use mathlib.Core.List.{List}
use Prim.Native.Nat.{ℕ, zero, suc, ◌+◌, ◌*◌, ◌≤◌, ◌<◌}
use native.Mathlib.Nat.{suc-mul, le_refl}
use native.Mathlib.Omega.{arith}
use lib.ListN.{length}
use Rattle.elements.specs.Files.{vector_at, replaced}
use Rattle.elements.proofs.Files.{Placed, Distinct, fewer, fit_in, length-replaced, replaced_out}
use Rattle.bits.specs.Bits.{over_bytes}
use Rattle.bits.proofs.Bits.{Unmoved, Once, bytes_same, bytes_splice_add, bytes_splice_le}

module _ (f : ℕ → ℕ → ℕ) (same : Unmoved f) (place : ℕ → ℕ) (new : ℕ → List ℕ) (w n : ℕ) (s : List ℕ) where
  abbrev R : ℕ → List ℕ
  R count = replaced place new w count s

  -- one vector more: its own count is added
  pub bytes-replaced : (count : ℕ) → Placed place new w n (suc count) s → Distinct place (suc count)
      → over_bytes f s (replaced place new w (suc count) s)
      ≡ over_bytes f s (replaced place new w count s) + over_bytes f (replaced place new w count s) (replaced place new w (suc count) s)
  unfolding replaced vector_at
  bytes-replaced count P apart =
      let P' = fewer place new w n s count P in
      let last : count < suc count = le_refl (suc count) in
      bytes_splice_add f same (place count * w) (new count) s (R count) (length-replaced place new w n s count P')
      (fit_in place new w n s count P)
      (rw (P.wide count last)
      (replaced_out place new w n s count (place count) P'
      (λ q h (e : place q ≡ place count). let one = apart q count (omega arith) last e in omega arith)))

  pub bytes_replaced_le : Once f → (count : ℕ) → Placed place new w n count s → Distinct place count
      → over_bytes f s (replaced place new w count s) ≤ count * (8 * w)
  unfolding replaced
  bytes_replaced_le once zero P apart = rw (bytes_same f same s) (omega arith)
  bytes_replaced_le once (suc count) P apart =
      let P' = fewer place new w n s count P in
      let wide = P.wide count (le_refl (suc count)) in
      let fit : place count * w + length (new count) ≤ length (R count) = rw (length-replaced place new w n s count P') (fit_in place new w n s count P) in
      let sum = bytes-replaced count P apart in
      let one = bytes_splice_le f once same (place count * w) (new count) (R count) fit in
      let rest = bytes_replaced_le once count P' (λ p q hp hq e. apart p q (omega arith) (omega arith) e) in
      omega (arith, suc-mul count (8 * w))
