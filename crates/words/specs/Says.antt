-- Document 01, below the layouts: what a word of each row says, and which sizes are reserved.
use Rattle.std.specs.Prelude.{ℕ, ◌+◌, ◌*◌, ◌^◌, ◌≡◌, Bool, true, false, not, ◌||◌, cond, eqb}
use mathlib.Core.List.{List, [], ◌∷◌, ◌++◌, Memᴰ}
use Rattle.layouts.specs.Layout.{Layout, matches, Letters, value}
use Rattle.words.specs.Rows.{row_a, row_b, row_c16, row_c32, row_d2, row_d4, row_e2, row_e4}
use Rattle.words.specs.declared.Family.{Family}
use Rattle.words.specs.declared.Family.TheVariants.{ByElement, Vector, Saturating, LongLong, Long}
use Rattle.words.specs.declared.Fields.{Fields}

-- what a word says, whatever the features: fields, or nothing where no row matches or the size is reserved
pub data Described : Type 0 where
  As : Fields → Described
  Nothing : Described

-- S=1 subtracts, U=1 is unsigned
abbrev pub is_one : ℕ → Bool
is_one x = eqb x 1

-- What a word of a row says follows from the values v of the row's letters.

-- A, of a lane, an index and a second source
abbrev pub by_element : Letters → ℕ → ℕ → ℕ → Fields
by_element v lane index second =
    record {
      family = ByElement;
      unsigned = is_one (v "U");
      subtract = is_one (v "S");
      lane = lane;
      part = v "Q";
      index = index;
      destination = v "d";
      first = v "n";
      second = second;
      group = 1;
      select = 0;
      offset = 0;
    }

-- ss 01 has lane 16, index H:L:M, second source 0:mmmm
abbrev pub fields_a16 : Letters → Fields
fields_a16 v = by_element v 16 (v "H" * 4 + v "L" * 2 + v "M") (v "m")

-- ss 10 has lane 32, index H:L, second source M:mmmm
abbrev pub fields_a32 : Letters → Fields
fields_a32 v = by_element v 32 (v "H" * 2 + v "L") (v "M" * 16 + v "m")

abbrev pub fields_a : Letters → Fields
fields_a v = cond (eqb (v "s") 0b01) (fields_a16 v) (fields_a32 v)

-- others are refused
abbrev pub reserved_a : Letters → Bool
reserved_a v = not (eqb (v "s") 0b01 || eqb (v "s") 0b10)

-- B, of a lane
abbrev pub by_vector : Letters → ℕ → Fields
by_vector v lane =
    record {
      family = Vector;
      unsigned = is_one (v "U");
      subtract = is_one (v "S");
      lane = lane;
      part = v "Q";
      index = 0;
      destination = v "d";
      first = v "n";
      second = v "m";
      group = 1;
      select = 0;
      offset = 0;
    }

-- lane 8<<ss
abbrev pub fields_b : Letters → Fields
fields_b v = by_vector v (8 * 2 ^ v "s")

-- ss 11 refused
abbrev pub reserved_b : Letters → Bool
reserved_b v = eqb (v "s") 0b11

-- C, of a lane, an index and a second source
abbrev pub saturating : Letters → ℕ → ℕ → ℕ → Fields
saturating v lane index second =
    record {
      family = Saturating;
      unsigned = false;
      subtract = is_one (v "S");
      lane = lane;
      part = v "T";
      index = index;
      destination = v "d";
      first = v "n";
      second = second;
      group = 1;
      select = 0;
      offset = 0;
    }

-- the index joins its high and low i bits
abbrev pub fields_c : ℕ → Letters → Fields
fields_c lane v = saturating v lane (v "i") (v "m")

-- D and E, of a lane, the two sources, the group and the offset: the select register is W(8+vv)
abbrev pub into_za : Family → Letters → ℕ → ℕ → ℕ → ℕ → ℕ → Fields
into_za family v lane first second group offset =
    record {
      family = family;
      unsigned = is_one (v "U");
      subtract = is_one (v "S");
      lane = lane;
      part = 0;
      index = 0;
      destination = 0;
      first = first;
      second = second;
      group = group;
      select = 8 + v "v";
      offset = offset;
    }

-- D: lane 8 (z=0) or 16 (z=1), offset 4·o; the first source is nnn(n) times the group, likewise the second
abbrev pub fields_d : ℕ → Letters → Fields
fields_d group v = into_za LongLong v (8 + 8 * v "z") (v "n" * group) (v "m" * group) group (4 * v "o")

-- E: lane 16, offset 2·oo; the sources as in D
abbrev pub fields_e : ℕ → Letters → Fields
fields_e group v = into_za Long v 16 (v "n" * group) (v "m" * group) group (2 * v "o")

-- a row of the table: the layout, whether a word's size is reserved, and what a word says
pub record Row : Type 0 where
  pub layout : Layout
  pub reserved : Letters → Bool
  pub fields : Letters → Fields

abbrev pub entry_a : Row
entry_a = record { layout = row_a; reserved = reserved_a; fields = fields_a }

abbrev pub entry_b : Row
entry_b = record { layout = row_b; reserved = reserved_b; fields = fields_b }

-- a row without reserved sizes
abbrev pub entry : Layout → (Letters → Fields) → Row
entry layout fields = record { layout = layout; reserved = λ v. false; fields = fields }

-- the rows of C
abbrev pub table_c : List Row
table_c = entry row_c16 (fields_c 16) ∷ entry row_c32 (fields_c 32) ∷ []

-- the rows that write ZA
abbrev pub table_za : List Row
table_za = entry row_d2 (fields_d 2) ∷ entry row_d4 (fields_d 4) ∷ entry row_e2 (fields_e 2) ∷ entry row_e4 (fields_e 4) ∷ []

abbrev pub table : List Row
table = entry_a ∷ entry_b ∷ table_c ++ table_za

-- what a word of the row says
abbrev pub says_of : Row → ℕ → Described
says_of r w = cond (r.reserved (value r.layout w)) Nothing (As (r.fields (value r.layout w)))

-- what the first row that matches says
abbrev pub says_first : List Row → ℕ → Described
says_first [] w = Nothing
says_first (r ∷ rs) w = cond (matches r.layout w) (says_of r w) (says_first rs w)

-- the fields of a word, whatever the features
unfoldable pub describe : ℕ → Described
describe w = says_first table w

-- the same with no order of the rows: a listed row matches, its size is not reserved, and it says f (`described_exactly` in proofs/Table.antt)
pub record SaidBy (rs : List Row) (w : ℕ) (f : Fields) : Type 0 where
  pub row : Row
  pub listed : Memᴰ row rs
  pub matching : matches row.layout w ≡ true
  pub open_size : row.reserved (value row.layout w) ≡ false
  pub fields : row.fields (value row.layout w) ≡ f
