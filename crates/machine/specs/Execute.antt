-- What execute answers, and what it leaves in Z and ZA.
use Rattle.std.specs.Prelude.{ℕ, ◌+◌, ◌*◌, Bool, true, false, not, ◌&&◌, cond, List, ◌≡◌, eqb, length, Result, Ok, Err}
use Rattle.settings.specs.Valid.{valid_settings, vector_bytes, array_bytes}
use Rattle.settings.specs.Refused.{refusal_number}
use Rattle.settings.specs.declared.Refusal.{Refusal}
use Rattle.settings.specs.declared.Settings.{Settings}
use Rattle.words.specs.Decode.{decode_paper}
use Rattle.words.specs.declared.Family.{Family}
use Rattle.words.specs.declared.Family.TheVariants.{ByElement, Vector, Saturating, LongLong, Long}
use Rattle.words.specs.declared.Fields.{Fields}
use Rattle.bits.specs.Bits.{rises, falls}
use Rattle.bits.specs.declared.Toggles.{Toggles}
use Rattle.machine.specs.Modes.{permits}
use Rattle.machine.specs.Step.{z_after, za_after}
use Rattle.tally.specs.declared.Counts.{Counts}

-- the answer's number, its three counts, and the registers at the end
pub record Outcome : Type 0 where
  pub number : ℕ
  pub rises : ℕ
  pub falls : ℕ
  pub written : ℕ
  pub z : List ℕ
  pub za : List ℕ

-- a refusal gives its number and zeros, and every lent buffer keeps its contents
abbrev pub refused_with : ℕ → List ℕ → List ℕ → Outcome
refused_with n z za = record { number = n; rises = 0; falls = 0; written = 0; z = z; za = za }

-- what an answer says, with Z and ZA as the call left them
abbrev pub executed_says : Result Counts Refusal → List ℕ → List ℕ → Outcome
executed_says (Ok c) z za = record { number = 0; rises = c.rises; falls = c.falls; written = c.written; z = z; za = za }
executed_says (Err r) z za = refused_with (refusal_number r) z za

-- written is VL in A and B (document 02) and in C, VL·group·4 in D, VL·group·2 in E
abbrev pub written : Settings → Fields → ℕ
written s f = elim f.family [ ByElement ↦ s.vl | Vector ↦ s.vl | Saturating ↦ s.vl | LongLong ↦ s.vl * f.group * 4 | Long ↦ s.vl * f.group * 2 ]

-- A, B and C write Z; D and E write ZA
abbrev pub writes_za : Family → Bool
writes_za ByElement = false
writes_za Vector = false
writes_za Saturating = false
writes_za LongLong = true
writes_za Long = true

-- the step of a word: rises is the number of bits of Z and ZA that were 0 and are 1, and falls of those that were 1 and are 0
unfoldable pub stepped : Settings → Fields → List ℕ → List ℕ → Outcome
stepped s f z za =
    let z' : List ℕ = cond (writes_za f.family) z (z_after s f z) in
    let za' : List ℕ = cond (writes_za f.family) (za_after s f z za) za in
    record {
      number = 0;
      rises = rises z z' + rises za za';
      falls = falls z z' + falls za za';
      written = written s f;
      z = z';
      za = za';
    }

-- Z and ZA lengths are exact
abbrev pub right_lengths : Settings → ℕ → ℕ → Bool
right_lengths s z za = eqb z (32 * vector_bytes s) && eqb za (array_bytes s * array_bytes s)

-- execute tests 1, 2, 3, 4
unfoldable pub execute_paper : Settings → ℕ → List ℕ → List ℕ → Outcome
execute_paper s w z za =
    let decoded : ℕ × Fields = decode_paper s w in
    cond (not (valid_settings s)) (refused_with 1 z za)
    (cond (not (right_lengths s (length z) (length za))) (refused_with 2 z za)
    (cond (not (eqb decoded.0 0)) (refused_with 3 z za)
    (cond (not (permits s.features.0 s.modes.0 decoded.1.family)) (refused_with 4 z za)
    (stepped s decoded.1 z za))))

-- what `execute` promises of its answer, and of Z and ZA at the call's end
abbrev pub ExecutePromise : Settings → ℕ → List ℕ → List ℕ → Result Counts Refusal → List ℕ → List ℕ → Type 0
ExecutePromise s w z za r z' za' = executed_says r z' za' ≡ execute_paper s w z za

-- ---- only contracts use this

-- what the step has done to the files, and the bits that rose and fell
pub record Stepped (s : Settings) (f : Fields) (t : Toggles) (z za z' za' : List ℕ) : Type 0 where
  pub z_stepped : z' ≡ (stepped s f z za).z
  pub za_stepped : za' ≡ (stepped s f z za).za
  pub rose : t.rises ≡ (stepped s f z za).rises
  pub fell : t.falls ≡ (stepped s f z za).falls
