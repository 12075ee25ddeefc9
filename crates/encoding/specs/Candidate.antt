-- What only the code of encode needs, and no promise of a public call names: the one word that can have given fields.
use Rattle.std.specs.Prelude.{ℕ, ◌/◌, ◌%◌, List, [], ◌∷◌, Bool, ◌||◌, cond, eqb, Option, Some, None}
use Rattle.layouts.specs.Layout.{Layout, row, build}
use Rattle.words.specs.Rows.{row_a, row_b, row_c, row_d, row_e}
use Rattle.words.specs.Numbers.{bit_of}
use Rattle.words.specs.declared.Family.{Family}
use Rattle.words.specs.declared.Family.TheVariants.{ByElement, Vector, Saturating, LongLong, Long}
use Rattle.words.specs.declared.Fields.{Fields}
use Rattle.words.specs.declared.Kind.{Kind}
use Rattle.words.specs.declared.Kind.TheVariants as kind

-- ---- the values of a row's fields, in the row's order

-- A, of the values of ss, L, M, mmmm and H
abbrev pub values_of_a : Fields → ℕ → ℕ → ℕ → ℕ → ℕ → List ℕ
values_of_a f s l m low h =
    f.part % 2 ∷ bit_of f.unsigned ∷ s ∷ l ∷ m ∷ low ∷ bit_of f.subtract ∷ h ∷ f.first % 32 ∷ f.destination % 32 ∷ []

abbrev pub values_a16 : Fields → List ℕ
values_a16 f = values_of_a f 0b01 (f.index / 2 % 2) (f.index % 2) (f.second % 16) (f.index / 4 % 2)

abbrev pub values_a32 : Fields → List ℕ
values_a32 f = values_of_a f 0b10 (f.index % 2) (f.second / 16 % 2) (f.second % 16) (f.index / 2 % 2)

abbrev pub values_a : ℕ → Fields → List ℕ
values_a lane f = cond (eqb lane 16) (values_a16 f) (values_a32 f)

-- lanes 8, 16, 32 are ss 00, 01, 10
abbrev pub values_b : Fields → List ℕ
values_b f =
    f.part % 2 ∷ bit_of f.unsigned ∷ f.lane / 16 % 4 ∷ f.second % 32 ∷ bit_of f.subtract ∷ f.first % 32 ∷ f.destination % 32 ∷ []

-- C, of the values of the index's high bits and of the second source
abbrev pub values_of_c : Fields → ℕ → ℕ → List ℕ
values_of_c f high second =
    high ∷ second ∷ bit_of f.subtract ∷ f.index % 2 ∷ f.part % 2 ∷ f.first % 32 ∷ f.destination % 32 ∷ []

abbrev pub values_c16 : Fields → List ℕ
values_c16 f = values_of_c f (f.index / 2 % 4) (f.second % 8)

abbrev pub values_c32 : Fields → List ℕ
values_c32 f = values_of_c f (f.index / 2 % 2) (f.second % 16)

abbrev pub values_c : ℕ → Fields → List ℕ
values_c lane f = cond (eqb lane 16) (values_c16 f) (values_c32 f)

-- D and E, of the group and the offset's value
abbrev pub values_za : ℕ → Fields → ℕ → List ℕ
values_za group f offset =
    f.second / group % (32 / group) ∷ f.select % 4 ∷ f.first / group % (32 / group) ∷ bit_of f.unsigned ∷ bit_of f.subtract ∷ offset ∷ []

-- the low 21 bits of D's rows; E's differ in 010 for 000, and in the offset's place
abbrev pub low_za2 : Layout
low_za2 = row "mmmm 0 0 vv 000 nnnn 0 U S 0 0 o"

abbrev pub low_za4 : Layout
low_za4 = row "mmm 0 1 0 vv 000 nnn 0 0 U S 0 0 o"

abbrev pub low_za : ℕ → Layout
low_za group = cond (eqb group 2) low_za2 low_za4

-- lanes 8, 16 are z=0, z=1
abbrev pub values_d : ℕ → Fields → List ℕ
values_d group f = f.lane / 16 % 2 ∷ values_za group f (f.offset / 4 % 2)

abbrev pub values_e : ℕ → Fields → List ℕ
values_e group f = values_za group f (f.offset / 2 % 4)

-- ---- the word

-- the lanes of B
abbrev pub lane_b : ℕ → Bool
lane_b lane = eqb lane 8 || eqb lane 16 || eqb lane 32

-- the kind of the words that can have fields of the family
abbrev pub kind_by : Family → Fields → Option Kind
kind_by ByElement f = cond (eqb f.lane 16) (Some kind.ByElement16) (Some kind.ByElement32)
kind_by Vector f = cond (lane_b f.lane) (Some kind.Vector) None
kind_by Saturating f = cond (eqb f.lane 16) (Some kind.Saturating16) (Some kind.Saturating32)
kind_by LongLong f = cond (eqb f.group 2) (Some kind.LongLong2) (Some kind.LongLong4)
kind_by Long f = cond (eqb f.group 2) (Some kind.Long2) (Some kind.Long4)

abbrev pub kind_with : Fields → Option Kind
kind_with f = kind_by f.family f

-- the only word of the kind that can have the fields
abbrev pub built_as : Kind → Fields → ℕ
built_as kind.ByElement16 f = build row_a (values_a 16 f)
built_as kind.ByElement32 f = build row_a (values_a 32 f)
built_as kind.Vector f = build row_b (values_b f)
built_as kind.Saturating16 f = build (row_c 16) (values_c 16 f)
built_as kind.Saturating32 f = build (row_c 32) (values_c 32 f)
built_as kind.LongLong2 f = build (row_d 2) (values_d 2 f)
built_as kind.LongLong4 f = build (row_d 4) (values_d 4 f)
built_as kind.Long2 f = build (row_e 2) (values_e 2 f)
built_as kind.Long4 f = build (row_e 4) (values_e 4 f)

-- of a family
abbrev pub candidate_by : Family → Fields → ℕ
candidate_by ByElement f = cond (eqb f.lane 16) (built_as kind.ByElement16 f) (built_as kind.ByElement32 f)
candidate_by Vector f = built_as kind.Vector f
candidate_by Saturating f = cond (eqb f.lane 16) (built_as kind.Saturating16 f) (built_as kind.Saturating32 f)
candidate_by LongLong f = cond (eqb f.group 2) (built_as kind.LongLong2 f) (built_as kind.LongLong4 f)
candidate_by Long f = cond (eqb f.group 2) (built_as kind.Long2 f) (built_as kind.Long4 f)

-- the only word that can have the fields
abbrev pub candidate_of : Fields → ℕ
candidate_of f = candidate_by f.family f
