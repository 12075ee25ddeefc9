-- The table of layouts: no word matches two rows, and a word is described exactly when a row matches and its size is not reserved.
-- Assumes nothing.
use Prim.Native.Nat.{ℕ}
use native.Mathlib.Omega.{arith}
use mathlib.Core.Path.{◌≡◌, refl, sym, ap, ◌∙◌, subst}
use mathlib.Core.List.Memᴰ
use mathlib.Core.List.{List, [], ◌∷◌, map, Memᴰ}
use mathlib.Core.Logic.{⊎_elim, ◌↔◌}
use mathlib.Core.Bool.{true, false}
use Rattle.laws.specs.Lists.{Each}
use Rattle.laws.proofs.Lists.{each_of}
use Rattle.laws.proofs.Tests.{both, failed, by_cond}
use Rattle.layouts.specs.Layout.{Layout, size, matches, value, flip}
use Rattle.layouts.proofs.Apart.{apart, apart_from, all_apart, no_word_in_both}
use Rattle.words.specs.Says.{As, Nothing, Row, table, says_of, says_first, describe, SaidBy}
use Rattle.words.specs.Partner.{flip_first, partner_word}
use Rattle.words.specs.declared.Fields.{Fields}

-- what holds of each row, row by row
infixr 4 ◌then◌
abbrev pub ◌then◌ : {P Q : Type 0} → P → Q → P × Q
p then q = (p, q)

abbrev pub layouts : List Row → List Layout
layouts [] = []
layouts (r ∷ rs) = r.layout ∷ layouts rs

-- the whole of it: each two layouts of the table fix some bit differently
table_apart : all_apart (layouts table) ≡ true
table_apart = refl

-- each row of the table is 32 bits wide
pub table_32 : map size (layouts table) ≡ 32 ∷ 32 ∷ 32 ∷ 32 ∷ 32 ∷ 32 ∷ 32 ∷ 32 ∷ []
table_32 = refl

-- a row apart from others shares no word with any of them
apart_from_lem : (r q : Row) (rs : List Row) (w : ℕ) → apart_from r.layout (layouts rs) ≡ true → Memᴰ q rs → matches r.layout w ≡ true → matches q.layout w ≡ true → ⊥
apart_from_lem r q [] w a m p h = Memᴰ.not-nil m
apart_from_lem r q (x ∷ rs) w a m p h =
    let b = both (apart r.layout x.layout 32) (apart_from r.layout (layouts rs)) a in
    ⊎_elim
    (λ e. no_word_in_both r.layout x.layout 32 w b.0 p (subst (λ (y : Row). matches y.layout w ≡ true) e h))
    (λ n. apart_from_lem r q rs w b.1 n p h)
    (Memᴰ.cases_cons m)

one_of : (rs : List Row) → all_apart (layouts rs) ≡ true → (r q : Row) (w : ℕ) → Memᴰ r rs → Memᴰ q rs → matches r.layout w ≡ true → matches q.layout w ≡ true → r ≡ q
one_of [] a r q w m n p h = absurd (Memᴰ.not-nil m)
one_of (x ∷ rs) a r q w m n p h =
    let b = both (apart_from x.layout (layouts rs)) (all_apart (layouts rs)) a in
    ⊎_elim
    (λ (e : r ≡ x). ⊎_elim
    (λ (g : q ≡ x). e ∙ sym g)
    (λ (g : Memᴰ q rs). absurd (apart_from_lem x q rs w b.0 g (subst (λ (y : Row). matches y.layout w ≡ true) e p) h))
    (Memᴰ.cases_cons n))
    (λ (e : Memᴰ r rs). ⊎_elim
    (λ (g : q ≡ x). absurd (apart_from_lem x r rs w b.0 e (subst (λ (y : Row). matches y.layout w ≡ true) g h) p))
    (λ (g : Memᴰ q rs). one_of rs b.1 r q w e g p h)
    (Memᴰ.cases_cons n))
    (Memᴰ.cases_cons m)

-- no word matches two rows
pub one_row : (r q : Row) (w : ℕ) → Memᴰ r table → Memᴰ q table → matches r.layout w ≡ true → matches q.layout w ≡ true → r ≡ q
one_row = one_of table table_apart

-- what a description says is one thing, and is not nothing
found : (g f : Fields) → As g ≡ As f → g ≡ f
found g f e = cc

never : (f : Fields) → Nothing ≡ As f → ⊥
never f e = let z : ◌≡◌ {A = ℕ} 0 1 = cc in omega arith

first_said : (rs : List Row) (w : ℕ) (f : Fields) → says_first rs w ≡ As f → SaidBy rs w f
first_said [] w f = λ e. absurd (never f e)
first_said (r ∷ rs) w f =
    by_cond (matches r.layout w) (says_of r w) (says_first rs w) (As f)
    (λ m. by_cond (r.reserved (value r.layout w)) Nothing (As (r.fields (value r.layout w))) (As f)
    (λ _ e. absurd (never f e))
    (λ o e. record { row = r; listed = Memᴰ.head refl; matching = m; open_size = o; fields = found _ f e }))
    (λ _ e.
    let s = first_said rs w f e in
    record { row = s.row; listed = Memᴰ.tail s.listed; matching = s.matching; open_size = s.open_size; fields = s.fields })

-- the row that matches is the first that does, as no other matches: it says what is said, and its S is the one that is flipped
first_row : (rs : List Row) → all_apart (layouts rs) ≡ true → (r : Row) (w : ℕ) → Memᴰ r rs → matches r.layout w ≡ true
    → (says_first rs w ≡ says_of r w) × (flip_first rs w ≡ flip r.layout "S" w)
first_row [] a r w i m = absurd (Memᴰ.not-nil i)
first_row (x ∷ rs) a r w i m =
    let b = both (apart_from x.layout (layouts rs)) (all_apart (layouts rs)) a in
    ⊎_elim
    (λ (e : r ≡ x).
    let h : matches x.layout w ≡ true = subst (λ (y : Row). matches y.layout w ≡ true) e m in
    subst (λ (y : Row). (says_first (x ∷ rs) w ≡ says_of y w) × (flip_first (x ∷ rs) w ≡ flip y.layout "S" w)) (sym e) (rw h, rw h))
    (λ (n : Memᴰ r rs).
    let h : matches x.layout w ≡ false = failed (matches x.layout w) (λ p. apart_from_lem x r rs w b.0 n p m) in
    let l = first_row rs b.1 r w n m in
    (rw h l.0, rw h l.1))
    (Memᴰ.cases_cons i)

module _ (w : ℕ) (f : Fields) (s : SaidBy table w f) where
  said_first : says_first table w ≡ As f
  said_first = (first_row table table_apart s.row w s.listed s.matching).0 ∙ rw s.open_size (ap As s.fields)

  -- its partner has the S of that row flipped
  pub flipped_in : partner_word w ≡ flip s.row.layout "S" w
  unfolding partner_word
  flipped_in = (first_row table table_apart s.row w s.listed s.matching).1

-- a word is described exactly when a row matches and its size is not reserved
pub described_exactly : (w : ℕ) (f : Fields) → (describe w ≡ As f) ↔ SaidBy table w f
unfolding describe
described_exactly w f = (first_said table w f, said_first w f)

-- P holds of what the row says of w, where it says anything
abbrev pub WhereSaid : (Fields → Type 0) → ℕ → Row → Type 0
WhereSaid P w r = matches r.layout w ≡ true → r.reserved (value r.layout w) ≡ false → P (r.fields (value r.layout w))

-- what holds of each row's fields holds of the word's
pub said_each : (P : Fields → Type 0) (w : ℕ) (f : Fields) → Each (WhereSaid P w) table → describe w ≡ As f → P f
said_each P w f k e =
    let s = (described_exactly w f).0 e in
    subst P s.fields (each_of (WhereSaid P w) table s.row s.listed k s.matching s.open_size)
