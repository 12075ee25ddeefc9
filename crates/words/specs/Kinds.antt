-- Only contracts and proofs use this: of what kind a word is, and what the kind says of the word.
use Rattle.std.specs.Prelude.{ℕ, ◌≡◌, cond, eqb, Option, Some, None, Result, MatchResult}
use Rattle.layouts.specs.Layout.{Letters, value}
use Rattle.settings.specs.declared.Refusal.{Refusal}
use Rattle.settings.specs.declared.Refusal.TheVariants.{UnknownWord}
use Rattle.words.specs.Rows.{row_a, row_b, row_c16, row_c32, row_d2, row_d4, row_e2, row_e4}
use Rattle.words.specs.Says.{Described, As, Nothing, fields_a16, fields_a32, fields_b, fields_c, fields_d, fields_e}
use Rattle.words.specs.Decode.{no_fields, decode_enabled}
use Rattle.words.specs.declared.Family.{Family}
use Rattle.words.specs.declared.Family.TheVariants.{ByElement, Vector, Saturating, LongLong, Long}
use Rattle.words.specs.declared.Fields.{Fields}
use Rattle.words.specs.declared.Kind.{Kind}
use Rattle.words.specs.declared.Kind.TheVariants as kind

-- the fields of a word of A, by the lane
abbrev pub fields_by : ℕ → Letters → Fields
fields_by lane v = cond (eqb lane 16) (fields_a16 v) (fields_a32 v)

-- the fields of a word of the kind
unfoldable pub fields_as : Kind → ℕ → Fields
fields_as kind.ByElement16 w = fields_a16 (value row_a w)
fields_as kind.ByElement32 w = fields_a32 (value row_a w)
fields_as kind.Vector w = fields_b (value row_b w)
fields_as kind.Saturating16 w = fields_c 16 (value row_c16 w)
fields_as kind.Saturating32 w = fields_c 32 (value row_c32 w)
fields_as kind.LongLong2 w = fields_d 2 (value row_d2 w)
fields_as kind.LongLong4 w = fields_d 4 (value row_d4 w)
fields_as kind.Long2 w = fields_e 2 (value row_e2 w)
fields_as kind.Long4 w = fields_e 4 (value row_e4 w)

-- what a word of the kind says, or of no kind
abbrev pub says_as : Option Kind → ℕ → Described
says_as (Some k) w = As (fields_as k w)
says_as None w = Nothing

-- the fields that are said, or the zeros of a refusal
abbrev pub fields_said : Described → Fields
fields_said (As f) = f
fields_said Nothing = no_fields

-- the family of a kind's fields
abbrev pub family_as : Kind → Family
family_as kind.ByElement16 = ByElement
family_as kind.ByElement32 = ByElement
family_as kind.Vector = Vector
family_as kind.Saturating16 = Saturating
family_as kind.Saturating32 = Saturating
family_as kind.LongLong2 = LongLong
family_as kind.LongLong4 = LongLong
family_as kind.Long2 = Long
family_as kind.Long4 = Long

-- the kind is that of the fields that decode gives under these features, and the refusal is decode's 3
abbrev pub EnabledKind : ℕ → ℕ → Result Kind Refusal → Type 0
EnabledKind features w r =
    MatchResult r (λ k. decode_enabled features w ≡ (0, fields_as k w)) (λ r. (r ≡ UnknownWord) × (decode_enabled features w ≡ (3, no_fields)))
