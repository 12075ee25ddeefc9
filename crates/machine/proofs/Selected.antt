-- Where a word of ZA writes, by the numbers that the code has. Assumes nothing.
use Prim.Native.Nat.{ℕ, ◌+◌, ◌-◌, ◌*◌, ◌/◌, ◌%◌}
use mathlib.Core.Path.{◌≡◌, ◌∙◌}
use mathlib.Core.List.{List}
use lib.ListN.{get_or}
use Rattle.settings.specs.Valid.{array_bytes}
use Rattle.settings.specs.declared.Settings.{Settings}
use Rattle.words.specs.declared.Fields.{Fields}
use Rattle.elements.specs.Files.{replaced}
use Rattle.recipes.specs.Recipe.{per_source}
use Rattle.machine.specs.Step.{stride, selected, first_vector, za_after}
use Rattle.machine.specs.Loop.{Grid, place, becomes, Places}
use Rattle.machine.proofs.Array.{grid, array_is}

module _ (s : Settings) {f : Fields} {z za : List ℕ} (p : Places f (array_bytes s) z za) where
  the_grid : Grid (array_bytes s) f.group (stride s f) (per_source f.family) (first_vector s f)
  the_grid = grid s p.sources.width f p.sources.ranges p.into

  -- w, the vectors of a row, number, k, and by how much the first vector is rounded down, are what the code was told
  module _ (w row : ℕ) (ew : w ≡ array_bytes s) (er : row ≡ w / f.group) where
    module _ (number k less : ℕ) (en : number ≡ get_or s.select (f.select - 8) 0) (ek : k ≡ per_source f.family) (el : less ≡ (number + f.offset) % row % k) where
      -- the first vector, as the code computes it
      abbrev first : ℕ
      first = (number + f.offset) % row - less

      pub after : (za' : List ℕ)
          → za' ≡ replaced (place first row k) (becomes f w first row k z za) w (f.group * k) za
          → za' ≡ za_after s f z za
      unfolding first_vector selected stride
      after za' e = e ∙ rw (el, er, ew, en, ek) (array_is s p.sources.width f p.sources.ranges p.into z za p.za_long)
