-- The derived test of fields passes for the same fields alone; and by it a word that is not of given fields is told. Assumes nothing.
use Prim.Native.Nat.{ℕ}
use mathlib.Core.Path.{◌≡◌, refl, sym, ap, ◌∙◌}
use mathlib.Core.Bool.{Bool, true, false, ◌&&◌, beq}
use lib.Dec.{eqb}
use borrow.Author.Tests.{eqb-true, eq-eqb}
use denote.Enum.Bare.{sameb, same_true, true_same}
use Rattle.laws.proofs.Tests.{both, never_both}
use Rattle.words.specs.contracts.Family.{the_type}
use Rattle.words.specs.Says.{Described, As, Nothing, describe}
use Rattle.words.specs.declared.Family.{Family}
use Rattle.words.specs.declared.Fields.{Fields}
use Rattle.encoding.specs.Encode.{Has}
use Rattle.encoding.specs.Candidate.{candidate_of}
use Rattle.encoding.proofs.Only.{only}

-- what `==` ensures of fields
abbrev pub same_of : Fields → Fields → Bool
same_of g f =
    sameb the_type g.family f.family
    && (beq g.unsigned f.unsigned && (beq g.subtract f.subtract && (eqb g.lane f.lane && (eqb g.part f.part && (eqb g.index f.index
    && (eqb g.destination f.destination && (eqb g.first f.first && (eqb g.second f.second && (eqb g.group f.group
    && (eqb g.select f.select && eqb g.offset f.offset))))))))))

bool_eq : (a b : Bool) → beq a b ≡ true → a ≡ b
bool_eq true true e = refl
bool_eq true false e = sym e
bool_eq false true e = e
bool_eq false false e = refl

bool_refl : (a : Bool) → beq a a ≡ true
bool_refl true = refl
bool_refl false = refl

number_refl : (a : ℕ) → eqb a a ≡ true
number_refl a = eq-eqb a a refl

family_refl : (a : Family) → sameb the_type a a ≡ true
family_refl a = true_same the_type a a refl

pub equal_fields : (g f : Fields) (t : Bool) → t ≡ same_of g f → (t ≡ true → g ≡ f) × (g ≡ f → t ≡ true)
equal_fields g f t e = (
  λ h.
      let a = both _ _ (sym e ∙ h) in
      let b = both _ _ a.1 in
      let c = both _ _ b.1 in
      let d = both _ _ c.1 in
      let j = both _ _ d.1 in
      let k = both _ _ j.1 in
      let l = both _ _ k.1 in
      let m = both _ _ l.1 in
      let n = both _ _ m.1 in
      let o = both _ _ n.1 in
      let q = both _ _ o.1 in
      let family : g.family ≡ f.family = same_true the_type tt _ _ a.0 in
      let unsigned : g.unsigned ≡ f.unsigned = bool_eq _ _ b.0 in
      let subtract : g.subtract ≡ f.subtract = bool_eq _ _ c.0 in
      let lane : g.lane ≡ f.lane = eqb-true _ _ d.0 in
      let part : g.part ≡ f.part = eqb-true _ _ j.0 in
      let index : g.index ≡ f.index = eqb-true _ _ k.0 in
      let destination : g.destination ≡ f.destination = eqb-true _ _ l.0 in
      let first : g.first ≡ f.first = eqb-true _ _ m.0 in
      let second : g.second ≡ f.second = eqb-true _ _ n.0 in
      let group : g.group ≡ f.group = eqb-true _ _ o.0 in
      let select : g.select ≡ f.select = eqb-true _ _ q.0 in
      let offset : g.offset ≡ f.offset = eqb-true _ _ q.1 in
      λ i. record { family = family i; unsigned = unsigned i; subtract = subtract i; lane = lane i; part = part i; index = index i; destination = destination i; first = first i; second = second i; group = group i; select = select i; offset = offset i },
  λ p. e ∙ rw p (simp (family_refl, bool_refl, number_refl)),
)

-- whether a description is that of the fields
abbrev pub says_only : Fields → Described → Bool
says_only f (As g) = same_of g f
says_only f Nothing = false

-- where the candidate's is not, no word has the fields
pub fails_none : (f : Fields) → says_only f (describe (candidate_of f)) ≡ false → (w : ℕ) → Has f w → ⊥
fails_none f e w h =
    let d : describe (candidate_of f) ≡ As f = ap describe (only f w h.fits h.says) ∙ h.says in
    never_both _ ((equal_fields f f (same_of f f) refl).1 refl) (ap (says_only f) (sym d) ∙ e)
