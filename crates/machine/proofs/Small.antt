-- The counts of every outcome are small, so that those of many words can be summed. Assumes nothing.
use Prim.Native.Nat.{ℕ, ◌+◌, ◌*◌, ◌≤◌}
use native.Mathlib.Omega.{arith}
use mathlib.Core.Path.{◌≡◌, refl}
use mathlib.Core.Logic.{◌⊎◌, inl, inr}
use mathlib.Core.List.{List}
use Rattle.settings.specs.Valid.{vector_bytes}
use Rattle.settings.specs.declared.Settings.{Settings}
use Rattle.settings.proofs.Lengths.{vector_at_most, vector_bits, array_at_most}
use Rattle.words.specs.Ranges.{Ranges, OfFamily}
use Rattle.words.specs.declared.Family.{Family}
use Rattle.words.specs.declared.Family.TheVariants.{ByElement, Vector, Saturating, LongLong, Long}
use Rattle.words.specs.declared.Fields.{Fields}
use Rattle.bits.specs.Bits.{over_bytes, rose, fell}
use Rattle.bits.proofs.Bits.{Once, rose_once, fell_once, bytes_le}
use Rattle.machine.specs.Execute.{Outcome, written, stepped, execute_paper}
use Rattle.machine.specs.Loop.{Ready}
use Rattle.machine.proofs.Executing.{word_ranges, each_outcome}

-- at most each bit of Z and ZA rose, and at most each fell; VL·group·4 written, with the greatest VL and the greatest group
abbrev pub Small : Outcome → Type 0
Small o = (o.rises ≤ 49152) × (o.falls ≤ 49152) × (o.written ≤ 8192)

module _ (s : Settings) (f : Fields) (z za : List ℕ) (p : Ready s z za) where
  register : vector_bytes s ≤ 64
  register = vector_at_most s p.valid

  -- whatever the bytes become
  count_small : (t : ℕ → ℕ → ℕ) → Once t → (z' za' : List ℕ) → over_bytes t z z' + over_bytes t za za' ≤ 49152
  count_small t once z' za' =
      omega (
        arith,
        register,
        array_at_most s p.valid _ refl,
        p.z_long,
        p.za_long,
        bytes_le t once z z',
        bytes_le t once za za',
      )

  most : s.vl ≤ 512
  most = omega (arith, register, vector_bits s p.valid)

  -- a source of D or E has 2,048 bits at most
  in_groups : (f.group ≡ 2) ⊎ (f.group ≡ 4) → s.vl * f.group ≤ 2048
  in_groups (inl e) = rw e (omega (arith, most))
  in_groups (inr e) = rw e (omega (arith, most))

  written_small : (family : Family) → f.family ≡ family → OfFamily family f → written s f ≤ 8192
  written_small ByElement e o = rw e (omega (arith, most))
  written_small Vector e o = rw e (omega (arith, most))
  written_small Saturating e o = rw e (omega (arith, most))
  written_small LongLong e o = rw e (omega (arith, in_groups o.0))
  written_small Long e o = rw e (omega (arith, in_groups o.0))

  pub step_small : Ranges f → Small (stepped s f z za)
  unfolding stepped
  step_small g = (count_small rose rose_once _ _, count_small fell fell_once _ _, written_small f.family refl g.of_family)

pub counts_small : (s : Settings) (w : ℕ) (z za : List ℕ) → Small (execute_paper s w z za)
counts_small s w z za = each_outcome s z za w Small (λ n h. (omega arith, omega arith, omega arith)) (λ f p d m. step_small s f z za p (word_ranges s w f d))
