-- How many elements the code counts in C's register. Assumes nothing.
use Prim.Native.Nat.{ℕ, ◌*◌, ◌/◌, ◌%◌}
use native.Mathlib.Omega.{arith}
use mathlib.Core.Path.{◌≡◌, refl}
use mathlib.Core.Logic.{inl, inr}
use mathlib.Core.Bool.{Bool, true, false}
use mathlib.Core.List.{List}
use Rattle.elements.specs.Elements.{vector}
use Rattle.lanes.specs.Element.{new_element, new_bytes}
use Rattle.recipes.specs.Recipe.{by_segment, Doubled}

count_is : (lane wide : ℕ) → Doubled lane wide → (bytes : ℕ) → 8 * bytes / (2 * lane) ≡ bytes / (wide / 8)
count_is lane wide (inl l, w) bytes = rw (w, l) (omega arith)
count_is lane wide (inr l, w) bytes = rw (w, l) (omega arith)

-- they fill it
pub count_fills : (lane wide : ℕ) → Doubled lane wide → (bytes : ℕ) → bytes % 8 ≡ 0 → bytes ≡ bytes / (wide / 8) * (wide / 8)
count_fills lane wide (inl l, w) bytes h = rw (w, l) (omega arith)
count_fills lane wide (inr l, w) bytes h = rw (w, l) (omega arith)

-- so many elements are the new register
pub c_bytes : (lane wide : ℕ) → Doubled lane wide → (subtract : Bool) (part index bytes : ℕ) (old first second : List ℕ)
    → vector (new_element (by_segment true false subtract lane part index) old first second) (wide / 8) (bytes / (wide / 8))
    ≡ new_bytes (by_segment true false subtract lane part index) bytes old first second
unfolding new_bytes
c_bytes lane wide d subtract part index bytes old first second = rw (count_is lane wide d bytes, d.1) refl
