-- Document 01, "The run list": a running tally is brought up to date by each word.
use Rattle.std.specs.Prelude.{ℕ, ◌+◌, ◌<◌, ◌^◌}
use Rattle.tally.specs.declared.Counts.{Counts}

-- the tally after one more word, of which so many bits rose, so many fell and so many were written
abbrev pub plus : Counts → ℕ → ℕ → ℕ → Counts
plus tally rises falls written = record { rises = tally.rises + rises; falls = tally.falls + falls; written = tally.written + written }

-- the sums have 32 bits
abbrev pub Fits : Counts → Counts → Type 0
Fits tally more = (tally.rises + more.rises < 2 ^ 32) × (tally.falls + more.falls < 2 ^ 32) × (tally.written + more.written < 2 ^ 32)
