-- What request One says of texts, in its words. Statements only: proofs/Theorems.antt and proofs/Longest.antt prove each.
use Rattle.std.specs.Prelude.{ℕ, ◌<◌, ◌≤◌, ◌^◌, ◌≡◌, Bool, false, List, length}
use Rattle.settings.specs.declared.Settings.{Settings}
use Rattle.words.specs.Decode.{decode_paper}
use Rattle.words.specs.declared.Fields.{Fields}
use Rattle.spelling.specs.Spell.{spell, longest_text}
use Rattle.spelling.specs.Print.{put_into, print_paper}
use Rattle.spelling.specs.Language.{Spells, Reads}

-- "each accepted text has one reading"
abbrev pub OneReading : Type 0
OneReading = (t : List ℕ) (w v : ℕ) → Spells t w → Spells t v → w ≡ v

-- the word w has a preferred text, and this is put into the room
pub record PrintsPreferred (s : Settings) (t : List ℕ) (w : ℕ) (room : List ℕ) : Type 0 where
  pub spells : Spells t w
  pub prints : print_paper s w room ≡ put_into (spell false spells.fields) room

-- "printing that reading gives the preferred text"
abbrev pub PrintAfterRead : Type 0
PrintAfterRead = (s : Settings) (t : List ℕ) (w : ℕ) (room : List ℕ) → Reads s t (0, w) → PrintsPreferred s t w room

-- what is printed of an accepted word, `short` or not, reads back to it
abbrev pub ReadAfterPrint : Bool → Type 0
ReadAfterPrint short = (s : Settings) (w : ℕ) (f : Fields) (answer : ℕ × ℕ) → w < 2 ^ 32 → decode_paper s w ≡ (0, f) → Reads s (spell short f) answer → answer ≡ (0, w)

-- no text is longer than the constant, and one is as long
abbrev pub NoLonger : Type 0
NoLonger = (t : List ℕ) (w : ℕ) → Spells t w → length t ≤ longest_text

pub record OneAsLong : Type 0 where
  pub text : List ℕ
  pub word : ℕ
  pub spells : Spells text word
  pub long : length text ≡ longest_text
