-- Sums modulo M, over any M. Assumes nothing.
use mathlib.Core.Path.{◌≡◌, sym, ap, ◌∙◌}
use Prim.Native.Nat.{ℕ, zero, ◌+◌, ◌-◌, ◌*◌, ◌/◌, ◌%◌, ◌<◌}
use native.Mathlib.Nat.{mod-lt, mod-eq_of_lt, mod-add-mod, add-mul-mod_self_right, add_assoc, div-add-mod', add-mul, one-mul}
use native.Mathlib.Omega.{arith}

-- what brings c to a multiple of M
pub comp_is : (M c : ℕ) → zero < M → c + (M - c % M) ≡ (c / M + 1) * M
comp_is M c h = omega (arith, div-add-mod' c M, mod-lt c h, add-mul (c / M) 1 M, one-mul M)

-- c added and its complement added again
back : (M x c : ℕ) → zero < M → ((x + c) % M + (M - c % M)) % M ≡ x % M
back M x c h =
    mod-add-mod (x + c) M (M - c % M)
    ∙ ap (λ (n : ℕ). n % M) (add_assoc x c (M - c % M) ∙ ap (λ (n : ℕ). x + n) (comp_is M c h))
    ∙ add-mul-mod_self_right x (c / M + 1) M

cancel_mod : (M x y c : ℕ) → zero < M → (x + c) % M ≡ (y + c) % M → x % M ≡ y % M
cancel_mod M x y c h e = sym (back M x c h) ∙ ap (λ (n : ℕ). (n + (M - c % M)) % M) e ∙ back M y c h

-- numbers below M that c takes to the same number are the same
pub cancel : (M x y c : ℕ) → x < M → y < M → (x + c) % M ≡ (y + c) % M → x ≡ y
cancel M x y c hx hy e = sym (mod-eq_of_lt hx) ∙ cancel_mod M x y c (omega arith) e ∙ mod-eq_of_lt hy
