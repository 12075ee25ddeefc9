-- Request One: the language of the reader, and what `read` answers. "The reader takes the printed text, and also the text without vgx2 or vgx4 ..; nothing
-- else." "reading tests 1, then 11 for text not of the language, then 3 for a missing feature"
use Rattle.std.specs.Prelude.{ℕ, ◌<◌, ◌^◌, ◌≡◌, Bool, true, false, List, Result}
use Rattle.settings.specs.Valid.{valid_settings}
use Rattle.settings.specs.Refused.{word_says}
use Rattle.settings.specs.declared.Refusal.{Refusal}
use Rattle.settings.specs.declared.Settings.{Settings}
use Rattle.words.specs.Says.{As, describe}
use Rattle.words.specs.Decode.{enables}
use Rattle.words.specs.declared.Fields.{Fields}
use Rattle.spelling.specs.Spell.{spell}

-- the text t is that of the word w, the preferred one or the one without vgx. "A number that no word of the family can carry is not of the language":
-- the fields are those of a word
pub record Spells (t : List ℕ) (w : ℕ) : Type 0 where
  pub fits : w < 2 ^ 32
  pub fields : Fields
  pub says : describe w ≡ As fields
  pub short : Bool
  pub spelled : t ≡ spell short fields

-- read tests 1, 11, 3
pub data Reads (s : Settings) (t : List ℕ) : ℕ × ℕ → Type 0 where
  bad_settings : valid_settings s ≡ false → Reads s t (1, 0)
  not_text : valid_settings s ≡ true → ((w : ℕ) → Spells t w → ⊥) → Reads s t (11, 0)
  not_enabled : valid_settings s ≡ true → (w : ℕ) → (p : Spells t w) → enables s.features.0 p.fields ≡ false → Reads s t (3, 0)
  a_word : valid_settings s ≡ true → (w : ℕ) → (p : Spells t w) → enables s.features.0 p.fields ≡ true → Reads s t (0, w)

-- what `read` promises of its answer
abbrev pub ReadPromise : Settings → List ℕ → Result ℕ Refusal → Type 0
ReadPromise s t r = Reads s t (word_says r)
