-- Document 01: the partner of a word is the word with S flipped.
use Rattle.std.specs.Prelude.{ℕ, Bool, true, false, not, cond, List, [], ◌∷◌, ◌≡◌, eqb, Result}
use Rattle.layouts.specs.Layout.{matches, flip}
use Rattle.settings.specs.Refused.{word_says}
use Rattle.settings.specs.declared.Refusal.{Refusal}
use Rattle.settings.specs.declared.Settings.{Settings}
use Rattle.words.specs.Says.{Row, table}
use Rattle.words.specs.Decode.{decode_paper}
use Rattle.words.specs.declared.Family.{Family}
use Rattle.words.specs.declared.Family.TheVariants.{ByElement, Vector, Saturating, LongLong, Long}
use Rattle.words.specs.declared.Fields.{Fields}

-- the word with the S of the first row that matches flipped
abbrev pub flip_first : List Row → ℕ → ℕ
flip_first [] w = w
flip_first (r ∷ rs) w = cond (matches r.layout w) (flip r.layout "S" w) (flip_first rs w)

unfoldable pub partner_word : ℕ → ℕ
partner_word w = flip_first table w

-- the same fields with `subtract` flipped
unfoldable pub turned : Fields → Fields
turned f =
    record {
      family = f.family;
      unsigned = f.unsigned;
      subtract = not f.subtract;
      lane = f.lane;
      part = f.part;
      index = f.index;
      destination = f.destination;
      first = f.first;
      second = f.second;
      group = f.group;
      select = f.select;
      offset = f.offset;
    }

-- whether the family is C
abbrev pub is_c : Family → Bool
is_c ByElement = false
is_c Vector = false
is_c Saturating = true
is_c LongLong = false
is_c Long = false

-- after decode: its refusal, or 6 for family C, or the partner
abbrev pub partner_after : ℕ × Fields → ℕ → ℕ × ℕ
partner_after d w = cond (eqb d.0 0) (cond (is_c d.1.family) (6, 0) (0, partner_word w)) (d.0, 0)

-- partner tests 1, 3, 6
unfoldable pub partner_paper : Settings → ℕ → ℕ × ℕ
partner_paper s w = partner_after (decode_paper s w) w

-- what `partner` promises of its answer
abbrev pub PartnerPromise : Settings → ℕ → Result ℕ Refusal → Type 0
PartnerPromise s w r = word_says r ≡ partner_paper s w
