-- Document 01, "What a step does": the registers after a word, vector by vector.
use Rattle.std.specs.Prelude.{ℕ, zero, suc, ◌+◌, ◌-◌, ◌*◌, ◌/◌, ◌%◌, Bool, false, ◌||◌, List, ◌++◌, eqb, get_or}
use Rattle.settings.specs.Valid.{vector_bytes, array_bytes}
use Rattle.settings.specs.declared.Settings.{Settings}
use Rattle.words.specs.declared.Fields.{Fields}
use Rattle.elements.specs.Elements.{zeros}
use Rattle.elements.specs.Files.{vector_at, renewed}
use Rattle.recipes.specs.Recipe.{recipe_of, new_length, per_source}
use Rattle.lanes.specs.Element.{new_bytes}

-- Z register r
abbrev pub register : Settings → List ℕ → ℕ → List ℕ
register s z r = vector_at (vector_bytes s) r z

-- ---- A, B, C: into Z

-- the destination after the step: its new bytes, and zeros above them, since "writing a V register sets the rest of the Z register to zero"
-- (document 02). C's bytes are all new
unfoldable pub new_register : Settings → Fields → List ℕ → List ℕ
new_register s f z =
    new_bytes (recipe_of f.family f 0) (new_length f.family (vector_bytes s)) (register s z f.destination) (register s z f.first) (register s z f.second)
    ++ zeros (vector_bytes s - new_length f.family (vector_bytes s))

-- Z after the step: the destination is new, and every other register as it was
unfoldable pub z_after : Settings → Fields → List ℕ → List ℕ
unfolding new_register
z_after s f z = renewed (λ r. eqb r f.destination) (λ r. new_register s f z) (vector_bytes s) 32 z

-- ---- D, E: into ZA

-- stride is (VL/8)/group
unfoldable pub stride : Settings → Fields → ℕ
stride s f = array_bytes s / f.group

-- (W+offset) mod stride
unfoldable pub selected : Settings → Fields → ℕ
unfolding stride
selected s f = (get_or s.select (f.select - 8) 0 + f.offset) % stride s f

-- the first vector: that, rounded down to a multiple of k
unfoldable pub first_vector : Settings → Fields → ℕ
unfolding selected
first_vector s f = selected s f - selected s f % per_source f.family

-- whether some number below n passes
unfoldable pub some_below : ℕ → (ℕ → Bool) → Bool
some_below zero test = false
some_below (suc n) test = test n || some_below n test

-- whether the word writes vector v of ZA: for some r below group and i below k, v is first + r·stride + i
unfoldable pub writes_vector : Settings → Fields → ℕ → Bool
unfolding stride first_vector some_below
writes_vector s f v = some_below f.group (λ r. some_below (per_source f.family) (λ i. eqb v (first_vector s f + r * stride s f + i)))

-- vector first + r·stride + i after the step, of Z registers n+r and m+r, where `old` is what it had
unfoldable pub new_vector : Settings → Fields → List ℕ → ℕ → ℕ → List ℕ → List ℕ
new_vector s f z r i old = new_bytes (recipe_of f.family f i) (array_bytes s) old (register s z (f.first + r)) (register s z (f.second + r))

-- ZA after the step: each vector v that the word writes is new, with v / stride for r and v mod stride − first for i, and every other as it was
unfoldable pub za_after : Settings → Fields → List ℕ → List ℕ → List ℕ
unfolding stride first_vector writes_vector new_vector
za_after s f z za =
    renewed (writes_vector s f) (λ v. new_vector s f z (v / stride s f) (v % stride s f - first_vector s f) (vector_at (array_bytes s) v za)) (array_bytes s) (array_bytes s) za
