-- Pieces of text in room that is lent: a piece after a piece. Assumes nothing.
use Prim.Native.Nat.{ℕ, ◌+◌, ◌≤◌}
use native.Mathlib.Omega.{arith}
use mathlib.Core.Path.{◌≡◌, sym, ap, ◌∙◌}
use mathlib.Core.List.{List, [], ◌++◌, append_assoc, append-nil}
use lib.ListN.{length, take, drop, length-append, length-drop, take-append-drop}
use lib.Seq.{length-take-le, take_at, drop_at}
use Rattle.laws.proofs.Lists.{drop_more}
use Rattle.pieces.specs.Pieces.{Wrote, Stands}

-- ---- a piece after a piece

-- the place of a piece is in the room
starts : {t : List ℕ} {at r : ℕ} {out out' : List ℕ} → Wrote t at out out' r → length (take at out) ≡ at
starts {at = at} {out = out} w = length-take-le at out (omega arith)

front : {t : List ℕ} {at r : ℕ} {out out' : List ℕ} → Wrote t at out out' r → length (take at out ++ t) ≡ r
front w = simp length-append (omega (arith, starts w))

same_room : {t : List ℕ} {at r : ℕ} {out out' : List ℕ} → Wrote t at out out' r → length out' ≡ length out
same_room w = ap length w.bytes ∙ simp (length-append, length-drop) (omega (arith, starts w))

-- what stands before a piece's end; at place 0 it is the piece
before_end : {t : List ℕ} {at r : ℕ} {out out' : List ℕ} → Wrote t at out out' r → take r out' ≡ take at out ++ t
before_end {t} {at} {r} {out} w = ap (take r) w.bytes ∙ take_at (take at out ++ t) (drop (at + length t) out) r (front w)

after_end : {t : List ℕ} {at r : ℕ} {out out' : List ℕ} → Wrote t at out out' r → drop r out' ≡ drop r out
after_end {t} {at} {r} {out} w =
    ap (drop r) w.bytes ∙ drop_at (take at out ++ t) (drop (at + length t) out) r (front w) ∙ ap (λ (k : ℕ). drop k out) (sym w.ends)

pub and_then : {t u : List ℕ} {at r q : ℕ} {out₀ out₁ out₂ : List ℕ} → Wrote t at out₀ out₁ r → Wrote u r out₁ out₂ q
    → Wrote (t ++ u) at out₀ out₂ q
and_then {t} {u} {at} {r} {q} {out₀} {out₁} {out₂} x y =
    let e : r + length u ≡ at + length (t ++ u) = simp length-append (omega arith) in
    let rest : drop (r + length u) out₁ ≡ drop (at + length (t ++ u)) out₀ =
    drop_more (length u) r out₁ out₀ (after_end x) ∙ ap (λ (k : ℕ). drop k out₀) e in
    record {
      ends = omega arith;
      fits = omega (arith, same_room x);
      bytes = y.bytes ∙ rw (before_end x, rest, append_assoc (take at out₀) t u);
    }

-- the same text, said otherwise
pub said : {t u : List ℕ} {at r : ℕ} {out out' : List ℕ} → t ≡ u → Wrote t at out out' r → Wrote u at out out' r
said e w = rw (← e) w

pub nothing : (at : ℕ) (out : List ℕ) → at ≤ length out → Wrote [] at out out at
nothing at out h =
    let none : at + length {A = ℕ} [] ≡ at = omega arith in
    record { ends = sym none; fits = h; bytes = rw (none, append-nil) (sym (take-append-drop at out)) }

-- any two answers that `Wrote` allows are equal, and so is the room at the end
pub wrote_unique : {t : List ℕ} {at r q : ℕ} {out out₁ out₂ : List ℕ} → Wrote t at out out₁ r → Wrote t at out out₂ q → (r ≡ q) × (out₁ ≡ out₂)
wrote_unique x y = (x.ends ∙ sym y.ends, x.bytes ∙ sym y.bytes)

-- what a caller's `&out[..r]` asks for
pub ends_inside : {t : List ℕ} {at r : ℕ} {out out' : List ℕ} → Wrote t at out out' r → (r ≤ length out') × (r ≡ length (take r out'))
ends_inside {r = r} {out' = out'} w =
    let inside : r ≤ length out' = omega (arith, same_room w) in
    (inside, sym (length-take-le r out' inside))

-- a piece at place 0 stands at the start
pub stands : {t room room' : List ℕ} {r : ℕ} → Wrote t 0 room room' r → Stands t room room' r
stands w = let e = ends_inside w in record { inside = e.0; counted = e.1; is = before_end w; same_room = same_room w }
