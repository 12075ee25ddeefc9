-- Document 01, "Layouts, bit 31 first".
use Rattle.std.specs.Prelude.{ℕ, ◌≡◌, ◌⊎◌, cond, eqb}
use Rattle.layouts.specs.Layout.{Layout, row}

abbrev pub row_a : Layout
row_a = row "0 Q U 01111 ss L M mmmm 0 S 1 0 H 0 nnnnn ddddd"

abbrev pub row_b : Layout
row_b = row "0 Q U 01110 ss 1 mmmmm 1 0 S 0 0 0 nnnnn ddddd"

abbrev pub row_c16 : Layout
row_c16 = row "01000100 10 1 ii mmm 001 S i T nnnnn ddddd"

abbrev pub row_c32 : Layout
row_c32 = row "01000100 11 1 i mmmm 001 S i T nnnnn ddddd"

abbrev pub row_d2 : Layout
row_d2 = row "110000011 z 1 mmmm 0 0 vv 000 nnnn 0 U S 0 0 o"

abbrev pub row_d4 : Layout
row_d4 = row "110000011 z 1 mmm 0 1 0 vv 000 nnn 0 0 U S 0 0 o"

abbrev pub row_e2 : Layout
row_e2 = row "110000011 1 1 mmmm 0 0 vv 010 nnnn 0 U S 0 oo"

abbrev pub row_e4 : Layout
row_e4 = row "110000011 1 1 mmm 0 1 0 vv 010 nnn 0 0 U S 0 oo"

-- ---- only contracts use these

-- the lanes of A and C
abbrev pub IsWide : ℕ → Type 0
IsWide lane = (lane ≡ 16) ⊎ (lane ≡ 32)

-- the row of C, by the lane
abbrev pub row_c : ℕ → Layout
row_c lane = cond (eqb lane 16) row_c16 row_c32

-- the registers of a group of D and E
abbrev pub IsGroup : ℕ → Type 0
IsGroup group = (group ≡ 2) ⊎ (group ≡ 4)

-- the row of D, and that of E, by the group
abbrev pub row_d : ℕ → Layout
row_d group = cond (eqb group 2) row_d2 row_d4

abbrev pub row_e : ℕ → Layout
row_e group = cond (eqb group 2) row_e2 row_e4
