-- What statements about lists are made of.
use Rattle.std.specs.Prelude.{List, [], ◌∷◌}

-- each element of the list has P
abbrev pub Each : {A : Type 0} → (A → Type 0) → List A → Type 0
Each P [] = Unit {0}
Each P (x ∷ xs) = P x × Each P xs
