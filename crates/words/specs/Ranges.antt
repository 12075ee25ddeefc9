-- What the fields of a word can be.
use Rattle.std.specs.Prelude.{◌+◌, ◌*◌, ◌<◌, ◌≤◌, ◌≡◌, ◌⊎◌}
use Rattle.words.specs.declared.Family.{Family}
use Rattle.words.specs.declared.Family.TheVariants.{ByElement, Vector, Saturating, LongLong, Long}
use Rattle.words.specs.declared.Fields.{Fields}

-- a family that writes Z has single registers, and C's lanes have 16 or 32 bits; one that writes ZA has groups of 2 or 4, a select register, and a
-- lane that its elements hold k times
abbrev pub OfFamily : Family → Fields → Type 0
OfFamily ByElement f = f.group ≡ 1
OfFamily Vector f = f.group ≡ 1
OfFamily Saturating f = (f.group ≡ 1) × ((f.lane ≡ 16) ⊎ (f.lane ≡ 32))
OfFamily LongLong f = ((f.group ≡ 2) ⊎ (f.group ≡ 4)) × ((f.lane ≡ 8) ⊎ (f.lane ≡ 16)) × (8 ≤ f.select) × (f.select < 12) × (f.offset < 8)
OfFamily Long f = ((f.group ≡ 2) ⊎ (f.group ≡ 4)) × (f.lane ≡ 16) × (8 ≤ f.select) × (f.select < 12) × (f.offset < 8)

pub record Ranges (f : Fields) : Type 0 where
  pub lane : (f.lane ≡ 8) ⊎ ((f.lane ≡ 16) ⊎ (f.lane ≡ 32))
  pub part : f.part < 2
  -- an element of a register's 128 bits
  pub index : f.index * f.lane < 128
  pub destination : f.destination < 32
  -- no source register passes 31
  pub first : f.first + f.group ≤ 32
  pub second : f.second + f.group ≤ 32
  pub of_family : OfFamily f.family f
