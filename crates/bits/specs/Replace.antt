-- What it is to put bytes into a file and to count the bits that change.
use Rattle.std.specs.Prelude.{◌≡◌, List, ℕ, ◌+◌, ◌*◌, ◌≤◌, length}
use Rattle.elements.specs.Elements.{zeros, splice}
use Rattle.bits.specs.Bits.{toggles}
use Rattle.bits.specs.declared.Toggles.{Toggles}

-- the file with the new bytes at their place; r are the numbers of its bits that rose and fell
pub record Replaced (at : ℕ) (r : Toggles) (new file file' : List ℕ) : Type 0 where
  pub after : file' ≡ splice at new file
  pub bits : r ≡ toggles file file'
  pub few : r.rises + r.falls ≤ 8 * length new

-- so many bytes of the file became zeros; t are the numbers of its bits that rose and fell, and none rose
abbrev pub Cleared : ℕ → ℕ → Toggles → List ℕ → List ℕ → Type 0
Cleared at bytes t file file' = (t.rises ≡ 0) × Replaced at t (zeros bytes) file file'
