-- The lanes of a source: which of them goes into which element of a written vector, and where its bytes lie.
use Rattle.std.specs.Prelude.{ℕ, ◌+◌, ◌-◌, ◌*◌, ◌/◌, ◌%◌, ◌≤◌, ◌≡◌, ◌⊎◌, Bool, true, false, cond}

-- a lane has 8, 16 or 32 bits
abbrev pub IsLane : ℕ → Type 0
IsLane bits = (bits ≡ 8) ⊎ ((bits ≡ 16) ⊎ (bits ≡ 32))

-- an element has the bits of a lane, or 64
abbrev pub IsWidth : ℕ → Type 0
IsWidth bits = IsLane bits ⊎ (bits ≡ 64)

-- which lane goes into element e: by·e + from; or by·s + from, where s is the first element of e's segment
pub record Choice : Type 0 where
  pub by : ℕ
  pub segmented : Bool
  pub from : ℕ

-- a lane for each e, in steps of `by`
abbrev pub each : ℕ → ℕ → Choice
each by from = record { by = by; segmented = false; from = from }

-- a lane for each 128-bit segment
abbrev pub each_segment : ℕ → ℕ → Choice
each_segment by from = record { by = by; segmented = true; from = from }

-- the first of the double-width elements of e's 128-bit segment: s = e − (e mod (64/lane))
abbrev pub segment_start : ℕ → ℕ → ℕ
segment_start lane e = e - e % (64 / lane)

-- the lane that goes into element e
abbrev pub chosen : ℕ → Choice → ℕ → ℕ
chosen lane c e = c.by * cond c.segmented (segment_start lane e) e + c.from

-- the byte of the source at which it begins
abbrev pub chosen_at : ℕ → Choice → ℕ → ℕ
chosen_at lane c e = chosen lane c e * (lane / 8)

-- the lanes of the first n elements lie in w bytes: that of the last does, and `chosen_inside` (proofs/Lanes.antt) says the same of each
abbrev pub Reaches : ℕ → Choice → ℕ → ℕ → Type 0
Reaches lane c n w = chosen_at lane c (n - 1) + lane / 8 ≤ w
