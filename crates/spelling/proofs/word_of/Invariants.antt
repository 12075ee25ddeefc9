-- `spelling::word_of` meets its contract. Assumes nothing.
use Prim.Native.Nat.{ℕ, ◌<◌}
use Rattle.spelling.specs.Tried.{SpellsBy}
use Rattle.spelling.proofs.word_of.Given as goal

abbrev pub invariant-loop-k : goal.invariant-loop-k
invariant-loop-k l = (j : ℕ) → j < l.k → (w : ℕ) → SpellsBy j l.text w → ⊥
