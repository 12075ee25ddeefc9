-- Only contracts and proofs use this: what is known of a word's fields, and of a text when a row has been tried.
use Rattle.std.specs.Prelude.{ℕ, ◌+◌, ◌<◌, ◌≤◌, ◌≡◌, List}
use Rattle.words.specs.declared.Fields.{Fields}
use Rattle.spelling.specs.Spell.{row_for, last_offset}
use Rattle.spelling.specs.Language.{Spells}

-- the numbers of a word's fields, as its text needs them
pub record Figures (f : Fields) : Type 0 where
  pub destination : f.destination < 32
  pub index : f.index < 8
  pub some : 0 < f.group
  pub group : f.group < 5
  pub first : f.first + f.group ≤ 32
  pub second : f.second + f.group ≤ 32
  pub select : f.select < 12
  pub offset : f.offset < 8
  pub last : last_offset f.family f.offset < 8

-- the text is that of the word by the row
pub record SpellsBy (k : ℕ) (t : List ℕ) (w : ℕ) : Type 0 where
  pub spells : Spells t w
  pub row : row_for spells.short spells.fields ≡ k
