-- A register file is vectors of w bytes, one after the other.
use Rattle.std.specs.Prelude.{Bool, cond, List, [], ◌++◌, ℕ, zero, suc, ◌*◌, take, drop}
use Rattle.elements.specs.Elements.{splice}

-- vector v of the file s
unfoldable pub vector_at : ℕ → ℕ → List ℕ → List ℕ
vector_at w v s = take w (drop (v * w) s)

-- the lists f 0 .. f (n - 1), one after the other
unfoldable pub laid : (ℕ → List ℕ) → ℕ → List ℕ
laid f zero = []
laid f (suc n) = laid f n ++ f n

-- a file of n vectors of w bytes in which the vectors that `writes` names are new and the others as they were
unfoldable pub renewed : (ℕ → Bool) → (ℕ → List ℕ) → ℕ → ℕ → List ℕ → List ℕ
unfolding laid vector_at
renewed writes new w n s = laid (λ v. cond (writes v) (new v) (vector_at w v s)) n

-- one vector after the other, as the code goes: the q-th is vector `place q`
unfoldable pub replaced : (ℕ → ℕ) → (ℕ → List ℕ) → ℕ → ℕ → List ℕ → List ℕ
replaced place new w zero s = s
replaced place new w (suc q) s = splice (place q * w) (new q) (replaced place new w q s)
