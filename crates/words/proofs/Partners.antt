-- The partner of a described word: it is described, with `subtract` flipped and nothing else, and its own partner is the word.
-- Assumes nothing.
use Prim.Native.Nat.{ℕ, ◌<◌, ◌^◌}
use Prim.Native.Char.{code}
use mathlib.Core.Path.{◌≡◌, sym, ap, ◌∙◌}
use lib.Bits.{bit_xor, xor_lt}
use lib.Dec.{lit<}
use Rattle.laws.proofs.Lists.{each_of}
use Rattle.laws.proofs.Bits.{xor_twice}
use Rattle.layouts.specs.Layout.{value, flip, mask_of}
use Rattle.layouts.proofs.Flipped.{matches_flipped}
use Rattle.words.specs.Says.{As, table, describe, SaidBy}
use Rattle.words.specs.Partner.{partner_word, turned}
use Rattle.words.specs.Sign.{sign_of}
use Rattle.words.specs.declared.Family.{Family}
use Rattle.words.specs.declared.Family.TheVariants.{ByElement, Vector, Saturating, LongLong, Long}
use Rattle.words.specs.declared.Fields.{Fields}
use Rattle.words.proofs.Table.{described_exactly, flipped_in}
use Rattle.words.proofs.Turned.{Turns, flipped_reserved, flipped-fields, table_turns}

sign_fits : (family : Family) → sign_of family < 2 ^ 32
sign_fits ByElement = lit< tt
sign_fits Vector = lit< tt
sign_fits Saturating = lit< tt
sign_fits LongLong = lit< tt
sign_fits Long = lit< tt

module _ (w : ℕ) (f : Fields) (e : describe w ≡ As f) where
  said : SaidBy table w f
  said = (described_exactly w f).0 e

  -- S in the row that says f, and the word with S flipped
  abbrev mask : ℕ
  mask = mask_of said.row.layout (code "S")

  abbrev flipped : ℕ
  flipped = flip said.row.layout "S" w

  turns : Turns said.row
  turns = each_of Turns table said.row said.listed table_turns

  -- of that the same row says f turned
  flipped_said : SaidBy table flipped (turned f)
  flipped_said =
      record {
        row = said.row;
        listed = said.listed;
        matching = matches_flipped said.row.layout "S" w ∙ said.matching;
        open_size = flipped_reserved said.row turns w ∙ said.open_size;
        fields = flipped-fields said.row turns w ∙ ap turned said.fields;
      }

  -- the partner is described, with `subtract` flipped and nothing else
  pub partner-turned : describe (partner_word w) ≡ As (turned f)
  partner-turned = ap describe (flipped_in w f said) ∙ (described_exactly flipped (turned f)).1 flipped_said

  -- partner is its own inverse
  pub partner_back : partner_word (partner_word w) ≡ w
  unfolding flipped_said
  partner_back = ap partner_word (flipped_in w f said) ∙ flipped_in flipped (turned f) flipped_said ∙ xor_twice w mask

  -- where the code finds S
  pub partner_sign : partner_word w ≡ bit_xor w (sign_of f.family)
  partner_sign =
      flipped_in w f said
      ∙ ap (bit_xor w) (turns.mask ∙ ap sign_of (sym (turns.of_family (value said.row.layout w)) ∙ ap (λ (g : Fields). g.family) said.fields))

  -- the partner of a word of 32 bits has 32 bits
  pub partner_fits : w < 2 ^ 32 → partner_word w < 2 ^ 32
  partner_fits h = rw partner_sign (xor_lt 32 w (sign_of f.family) h (sign_fits f.family))
