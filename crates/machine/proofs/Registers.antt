-- The Z register of a word: writing its new bytes comes to Z after the step. Assumes nothing.
use Prim.Native.Nat.{ℕ, ◌*◌}
use native.Mathlib.Omega.{arith}
use mathlib.Core.Path.{◌≡◌, refl, sym}
use mathlib.Core.List.{List}
use lib.Dec.{eqb}
use lib.ListN.{length, length-append}
use borrow.Author.Tests.{eqb-true, eq-eqb}
use Rattle.settings.specs.Lengths.{VectorLength}
use Rattle.settings.specs.Valid.{vector_bytes}
use Rattle.settings.specs.declared.Settings.{Settings}
use Rattle.words.specs.Ranges.{Ranges}
use Rattle.words.specs.declared.Fields.{Fields}
use Rattle.elements.specs.Elements.{splice}
use Rattle.elements.specs.Files.{replaced}
use Rattle.elements.proofs.Elements.{length-zeros}
use Rattle.elements.proofs.Files.{replaced-renewed}
use Rattle.recipes.specs.Recipe.{recipe_of, new_length}
use Rattle.lanes.specs.Element.{new_bytes}
use Rattle.recipes.proofs.Inside.{new_length_lem, length-new_bytes}
use Rattle.machine.specs.Step.{register, new_register, z_after}

module _ (s : Settings) (v : VectorLength (vector_bytes s)) (f : Fields) (g : Ranges f) (z : List ℕ) (long : length z ≡ 32 * vector_bytes s) where
  abbrev w : ℕ
  w = vector_bytes s

  abbrev n : ℕ
  n = new_length f.family w

  abbrev x : List ℕ
  x = new_bytes (recipe_of f.family f 0) n (register s z f.destination) (register s z f.first) (register s z f.second)

  -- the new bytes are as many as are due
  pub long-x : length x ≡ n
  long-x = length-new_bytes f g 0 n _ _ _ (new_length_lem f.family w v).0

  pub long_register : length (new_register s f z) ≡ w
  unfolding new_register
  long_register =
      rw (length-append, long-x, length-zeros) (omega (arith, (new_length_lem f.family w v).1))

  pub register_is : splice (f.destination * vector_bytes s) (new_register s f z) z ≡ z_after s f z
  unfolding z_after replaced
  register_is =
      replaced-renewed (λ q. f.destination) (λ u. 0) (λ q. new_register s f z) (λ r. eqb r f.destination) w 32 1 z
      (record { long = long; inside = λ q h. g.destination; wide = λ q h. long_register })
      (λ p q hp hq e. omega arith)
      (record { named = λ u h e. (omega arith, sym (eqb-true u f.destination e)); all = λ q h. eq-eqb f.destination f.destination refl })
