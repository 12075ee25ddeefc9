-- The lengths that the program lends. Assumes nothing.
use Prim.Native.Nat.{ℕ, ◌+◌, ◌-◌, ◌*◌, ◌/◌, ◌≤◌}
use native.Mathlib.Nat.{mul-le-mul}
use native.Mathlib.Omega.{arith}
use mathlib.Core.Path.{◌≡◌, sym, ap, ap₂, ◌∙◌}
use mathlib.Core.Bool.{true, false}
use mathlib.Core.List.{List}
use lib.Dec.{lit≤}
use lib.ListN.{take, replicate, length-replicate, replicate-append-replicate}
use lib.Seq.{take_at}
use Rattle.settings.proofs.Lengths.{length_at_most}
use Rattle.settings.specs.Valid.{valid_length}
use Rattle.std.specs.Prelude.{Ok, Err}
use Rattle.numbers.specs.Numbers.{Read}
use Rattle.numbers.specs.declared.Fault.{Fault}
use Rattle.numbers.specs.declared.Number.{Number}
use Rattle.lamp.specs.Lamp.{lines_of, register_of, register_bytes, printed}

module _ (first : Read) where
  pub register_valid : (n : Number) → first ≡ Ok n → valid_length n.value ≡ true → (n.value / 8 ≡ register_of first) × (n.value / 8 ≤ 64)
  register_valid n e v = (sym (ap register_of e ∙ rw v), length_at_most n.value v)

  pub register_not : (n : Number) → first ≡ Ok n → valid_length n.value ≡ false → (0 ≡ register_of first) × (0 ≤ 64)
  register_not n e v = (sym (ap register_of e ∙ rw v), lit≤ tt)

  pub register_none : (f : Fault) → first ≡ Err f → (0 ≡ register_of first) × (0 ≤ 64)
  register_none f e = (sym (ap register_of e), lit≤ tt)

-- ---- the zeros that are lent

pub square : (n : ℕ) → n ≤ 64 → n * n ≤ 4096
square n h = mul-le-mul h h

abbrev noughts : ℕ → List ℕ
noughts n = replicate n 0

zeros : (k n : ℕ) → k ≤ n → take k (noughts n) ≡ noughts k
zeros k n h =
    let split : k + (n - k) ≡ n = omega arith in
    ap (take k) (ap noughts (sym split) ∙ sym (replicate-append-replicate k (n - k) 0))
    ∙ take_at (noughts k) (noughts (n - k)) k (length-replicate k 0)

pub as-printed : (list : List ℕ) (w : ℕ) → w ≡ register_bytes list → w ≤ 64
    → lines_of list (take (32 * w) (replicate 2048 0)) (take (w * w) (replicate 4096 0)) (replicate 4096 0) ≡ printed list
unfolding printed
as-printed list w e h =
    ap₂ (λ (z za : List ℕ). lines_of list z za (replicate 4096 0)) (zeros (32 * w) 2048 (omega arith)) (zeros (w * w) 4096 (square w h))
    ∙ ap (λ (n : ℕ). lines_of list (replicate (32 * n) 0) (replicate (n * n) 0) (replicate 4096 0)) e
