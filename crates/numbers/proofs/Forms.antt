-- Numbers one after another: what is put is read back, and what is read was put so. Assumes nothing.
use Prim.Native.Nat.{ℕ, zero, suc, ◌+◌}
use native.Mathlib.Nat.{add-zero}
use native.Mathlib.Omega.{arith}
use mathlib.Core.Path.{◌≡◌, sym, ap, ap₂, ◌∙◌}
use mathlib.Core.List.{List, [], ◌∷◌, ◌++◌, append_assoc}
use lib.ListN.{length, drop, length-append, take-append-drop}
use lib.Seq.{drop-drop}
use Rattle.numbers.specs.Numbers.{number, number_at, put, puts, all, followed_by, more, numbers_at}
use Rattle.numbers.specs.Theorems.{RowReadBack, RowForm}
use Rattle.numbers.proofs.Shortest.{read_shortest}
use Rattle.numbers.proofs.Places.{number_put, number-got}
use Rattle.numbers.proofs.Rows.{last_of, puts_last}

-- a number stands in its shortest form in front of what follows it
pub number_form : (list : List ℕ) (at v p : ℕ) → number_at list at ≡ number v p → drop at list ≡ put v ++ drop p list
number_form list at v p h =
    let (m, q, y) = number-got list at v p h in
    sym (take-append-drop m (drop at list))
    ∙ ap₂ (λ (a b : List ℕ). a ++ b) (read_shortest (drop at list) v m q) (drop-drop m at list ∙ ap (λ (k : ℕ). drop k list) y)

pub row_form : RowForm
unfolding numbers_at puts
row_form list at zero ws p e =
    let none : [] ≡ ws = cc in
    let here : at ≡ p = cc in
    ap₂ (λ (x : List ℕ) (k : ℕ). puts x ++ drop k list) none here
row_form list at (suc n) ws p e =
    let l = last_of list (numbers_at list at n) ws p e in
    row_form list at n l.before l.place l.row
    ∙ ap (λ (t : List ℕ). puts l.before ++ t) (number_form list l.place l.value p l.number)
    ∙ sym (append_assoc (puts l.before) (put l.value) (drop p list))
    ∙ ap (λ (t : List ℕ). t ++ drop p list) (sym (puts_last l.before l.value) ∙ ap puts (sym l.numbers))

-- a number in front of a row
row_cons : (list : List ℕ) (at v q n : ℕ) (ws : List ℕ) (p : ℕ) → number_at list at ≡ number v q → numbers_at list q n ≡ all ws p → numbers_at list at (suc n) ≡ all (v ∷ ws) p
unfolding numbers_at
row_cons list at v q zero ws p e f =
    let none : [] ≡ ws = cc in
    let here : q ≡ p = cc in
    ap (followed_by []) e ∙ ap₂ (λ (x : List ℕ) (k : ℕ). all (v ∷ x) k) none here
row_cons list at v q (suc n) ws p e f =
    let l = last_of list (numbers_at list q n) ws p f in
    ap (more list) (row_cons list at v q n l.before l.place e l.row)
    ∙ ap (followed_by (v ∷ l.before)) l.number
    ∙ ap (λ (x : List ℕ). all (v ∷ x) p) (sym l.numbers)

pub row_put : RowReadBack
unfolding puts numbers_at
row_put before [] t e = ap (all []) (sym (add-zero (length before)))
row_put before (w ∷ ws) t e = go (row_put (before ++ put w) ws t e.1)
  where
    go : numbers_at ((before ++ put w) ++ (puts ws ++ t)) (length (before ++ put w)) (length ws) ≡ all ws (length (before ++ put w) + length (puts ws))
        → numbers_at (before ++ ((put w ++ puts ws) ++ t)) (length before) (suc (length ws)) ≡ all (w ∷ ws) (length before + length (put w ++ puts ws))
    go ih =
        let join : (before ++ put w) ++ (puts ws ++ t) ≡ before ++ ((put w ++ puts ws) ++ t) =
        append_assoc before (put w) (puts ws ++ t) ∙ ap (λ (x : List ℕ). before ++ x) (sym (append_assoc (put w) (puts ws) t)) in
        let here : number_at (before ++ ((put w ++ puts ws) ++ t)) (length before) ≡ number w (length (before ++ put w)) =
        ap (λ (x : List ℕ). number_at (before ++ x) (length before)) (append_assoc (put w) (puts ws) t)
        ∙ number_put before w (puts ws ++ t) e.0 ∙ ap (number w) (sym (length-append before (put w))) in
        let rest = ap (λ (l : List ℕ). numbers_at l (length (before ++ put w)) (length ws)) (sym join) ∙ ih in
        row_cons (before ++ ((put w ++ puts ws) ++ t)) (length before) w (length (before ++ put w)) (length ws) ws _ here rest
        ∙ ap (all (w ∷ ws)) (omega (arith, length-append before (put w), length-append (put w) (puts ws)))
