-- From the vectors that are written to the files after the step. Assumes nothing.
use Prim.Native.Nat.{ℕ, ◌+◌, ◌*◌, ◌≤◌}
use native.Mathlib.Nat.{add-zero, zero-add}
use native.Mathlib.Omega.{arith}
use mathlib.Core.Path.{◌≡◌, refl, sym, ap, ◌∙◌, subst}
use mathlib.Core.Logic.{◌⊎◌, inl, inr}
use mathlib.Core.List.{List}
use Rattle.settings.specs.Valid.{vector_bytes, array_bytes}
use Rattle.settings.specs.declared.Settings.{Settings}
use Rattle.settings.proofs.Lengths.{vector_length, vector_at_most, vector_bits, same_length}
use Rattle.words.specs.Ranges.{Ranges}
use Rattle.words.specs.declared.Family.{Family}
use Rattle.words.specs.declared.Family.TheVariants.{ByElement, Vector, Saturating, LongLong, Long}
use Rattle.words.specs.declared.Fields.{Fields}
use Rattle.bits.specs.Bits.{over_bytes, rose, fell, rises, falls, toggles}
use Rattle.bits.specs.declared.Toggles.{Toggles}
use Rattle.bits.proofs.Bits.{Unmoved, rose_unmoved, fell_unmoved, bytes_same}
use Rattle.recipes.specs.Recipe.{per_source}
use Rattle.machine.specs.Step.{new_register, z_after, za_after}
use Rattle.machine.specs.Execute.{Outcome, written, stepped, Stepped}
use Rattle.machine.specs.Loop.{RegisterWritten, IntoV, IntoZa, Sources, Places, Ready}
use Rattle.machine.proofs.Registers.{register_is}

-- A, B and C
abbrev pub IntoZ : Fields → Type 0
IntoZ f = (f.family ≡ ByElement) ⊎ ((f.family ≡ Vector) ⊎ (f.family ≡ Saturating))

pub v_into_z : (f : Fields) → IntoV f → IntoZ f
v_into_z f (inl e) = inl e
v_into_z f (inr e) = inr (inl e)

-- every family is of one kind or the other
pub which_file : (f : Fields) → IntoZ f ⊎ IntoZa f
which_file f = by f.family refl
  where
    by : (family : Family) → f.family ≡ family → IntoZ f ⊎ IntoZa f
    by ByElement e = inl (inl e)
    by Vector e = inl (inr (inl e))
    by Saturating e = inl (inr (inr e))
    by LongLong e = inr (inl e)
    by Long e = inr (inr e)

-- what the step is of either kind
module _ (s : Settings) (f : Fields) (z za : List ℕ) where
  -- a step that leaves z' and za'
  abbrev pub stepped_to : List ℕ → List ℕ → Outcome
  stepped_to z' za' =
      record {
        number = 0;
        rises = rises z z' + rises za za';
        falls = falls z z' + falls za za';
        written = written s f;
        z = z';
        za = za';
      }

  abbrev pub stepped_z : Outcome
  stepped_z = stepped_to (z_after s f z) za

  abbrev pub stepped_za : Outcome
  stepped_za = stepped_to z (za_after s f z za)

  pub stepped_z_lem : IntoZ f → stepped s f z za ≡ stepped_z
  unfolding stepped
  stepped_z_lem (inl e) = rw e
  stepped_z_lem (inr (inl e)) = rw e
  stepped_z_lem (inr (inr e)) = rw e

  pub stepped-za : IntoZa f → stepped s f z za ≡ stepped_za
  unfolding stepped
  stepped-za (inl e) = rw e
  stepped-za (inr e) = rw e

-- written is the bits of the vectors that the word writes
pub written_z : (s : Settings) (f : Fields) → IntoZ f → written s f ≡ s.vl
written_z s f (inl e) = rw e
written_z s f (inr (inl e)) = rw e
written_z s f (inr (inr e)) = rw e

pub written_za : (s : Settings) (f : Fields) → IntoZa f → written s f ≡ s.vl * f.group * per_source f.family
written_za s f (inl e) = rw e
written_za s f (inr e) = rw e

module _ {s : Settings} {f : Fields} {z za : List ℕ} (p : Ready s z za) (g : Ranges f) {w : ℕ} (ew : w ≡ vector_bytes s) where
  pub sources_of : Sources f w z
  sources_of =
      record {
        ranges = g;
        width = rw ew (vector_length s p.valid);
        z_long = rw ew p.z_long;
      }

  -- 64 bytes have room for a register
  pub short : w ≤ 64
  short = rw ew (vector_at_most s p.valid)

  -- a vector of ZA is as long as a register
  pub places_of : IntoZa f → Places f (array_bytes s) z za
  places_of i =
      record {
        sources = subst (λ (x : ℕ). Sources f x z) (ew ∙ sym (same_length s)) sources_of;
        into = i;
        za_long = p.za_long;
      }

  -- the counts of a step that changes Z alone, or ZA alone
  in_z : (t : ℕ → ℕ → ℕ) → Unmoved t → (z' : List ℕ) → over_bytes t z z' + over_bytes t za za ≡ over_bytes t z z'
  in_z t same z' = ap (λ (n : ℕ). over_bytes t z z' + n) (bytes_same t same za) ∙ add-zero (over_bytes t z z')

  in-za : (t : ℕ → ℕ → ℕ) → Unmoved t → (za' : List ℕ) → over_bytes t z z + over_bytes t za za' ≡ over_bytes t za za'
  in-za t same za' = ap (λ (n : ℕ). n + over_bytes t za za') (bytes_same t same z) ∙ zero-add (over_bytes t za za')

  pub z_done : IntoZ f → (t : Toggles) (z' : List ℕ)
      → RegisterWritten f w t z z'
      → Stepped s f t z za z' za
  unfolding new_register
  z_done i t z' r =
      let r' = subst (λ (x : ℕ). RegisterWritten f x t z z') ew r in
      let q = stepped_z_lem s f z za i in
      let e : z' ≡ z_after s f z = r'.after ∙ register_is s (vector_length s p.valid) f g z p.z_long in
      record {
        z_stepped = e ∙ sym (ap (λ (o : Outcome). o.z) q);
        za_stepped = sym (ap (λ (o : Outcome). o.za) q);
        rose = ap (λ (b : Toggles). b.rises) r'.bits ∙ ap (rises z) e ∙ sym (ap (λ (o : Outcome). o.rises) q ∙ in_z rose rose_unmoved (z_after s f z));
        fell = ap (λ (b : Toggles). b.falls) r'.bits ∙ ap (falls z) e ∙ sym (ap (λ (o : Outcome). o.falls) q ∙ in_z fell fell_unmoved (z_after s f z));
      }

  pub za_done : IntoZa f → (t : Toggles) (za' : List ℕ) → za' ≡ za_after s f z za → t ≡ toggles za za' → Stepped s f t z za z za'
  za_done i t za' e b =
      let q = stepped-za s f z za i in
      record {
        z_stepped = sym (ap (λ (o : Outcome). o.z) q);
        za_stepped = e ∙ sym (ap (λ (o : Outcome). o.za) q);
        rose = ap (λ (b : Toggles). b.rises) b ∙ ap (rises za) e ∙ sym (ap (λ (o : Outcome). o.rises) q ∙ in-za rose rose_unmoved (za_after s f z za));
        fell = ap (λ (b : Toggles). b.falls) b ∙ ap (falls za) e ∙ sym (ap (λ (o : Outcome). o.falls) q ∙ in-za fell fell_unmoved (za_after s f z za));
      }

-- ---- the outcome, from the files and the counts

pub outcome_is : (s : Settings) (f : Fields) (t : Toggles) (n : ℕ) (z za z' za' : List ℕ) → Stepped s f t z za z' za' → n ≡ written s f
    → ◌≡◌ {A = Outcome} (record { number = 0; rises = t.rises; falls = t.falls; written = n; z = z'; za = za' }) (stepped s f z za)
unfolding stepped
outcome_is s f t n z za z' za' p en = same_outcome refl p.rose p.fell en p.z_stepped p.za_stepped
  where
    same_outcome : {o : Outcome} {k r d n : ℕ} {z za : List ℕ} → k ≡ o.number → r ≡ o.rises → d ≡ o.falls → n ≡ o.written → z ≡ o.z → za ≡ o.za
        → ◌≡◌ {A = Outcome} (record { number = k; rises = r; falls = d; written = n; z = z; za = za }) o
    same_outcome {o} ek er ed en ez ea = rw (ek, er, ed, en, ez, ea)

-- a register has 2,048 bits at most
pub bits_small : (s : Settings) (z za : List ℕ) → Ready s z za → s.vl ≤ 2048
bits_small s z za p = omega (arith, vector_bits s p.valid, (vector_length s p.valid).most)
