-- What `print` says, by its outcomes: how long its text is, and what a refusal leaves. Assumes nothing.
use Prim.Native.Nat.{ℕ, ◌≤◌, ◌<◌, ◌^◌}
use native.Mathlib.Omega.{arith}
use mathlib.Core.Path.{◌≡◌, refl, ap}
use mathlib.Core.Logic.{◌≢◌}
use mathlib.Core.Bool.{false}
use mathlib.Core.List.{List, ◌++◌}
use lib.Dec.{eqb, leb}
use lib.ListN.{length, drop}
use borrow.Author.Tests.{eqb-true}
use Rattle.laws.proofs.Tests.{cond-holds}
use Rattle.settings.specs.declared.Settings.{Settings}
use Rattle.words.specs.Decode.{decode_paper}
use Rattle.words.specs.declared.Fields.{Fields}
use Rattle.words.proofs.Answers.{decodes_exactly}
use Rattle.spelling.specs.Spell.{spell, longest_text}
use Rattle.spelling.specs.Print.{put_into, print_paper}
use Rattle.spelling.proofs.Longest.{no_longer}

module _ (s : Settings) (word : ℕ) (room : List ℕ) where
  -- what is said of an accepted word that has room for its text
  abbrev with_text : Fields → (ℕ × ℕ) × List ℕ
  with_text f = ((0, length (spell false f)), spell false f ++ drop (length (spell false f)) room)

  -- what holds of each text and of each refusal holds of what `print` says
  print_holds : (P : (ℕ × ℕ) × List ℕ → Type 0) → ((f : Fields) → decode_paper s word ≡ (0, f) → P (with_text f)) → ((n : ℕ) → P ((n, 0), room))
      → P (print_paper s word room)
  unfolding print_paper
  print_holds P text refusal =
      let n = (decode_paper s word).0 in
      let f = (decode_paper s word).1 in
      cond-holds P (eqb n 0) (put_into (spell false f) room) ((n, 0), room)
      (λ z.
      cond-holds P (leb (length (spell false f)) (length room)) (with_text f) ((12, 0), room)
      (λ _. text f (ap (λ (m : ℕ). (m, f)) (eqb-true n 0 z)))
      (λ _. refusal 12))
      (λ _. refusal n)

  -- no text is longer than the constant
  pub print_short : word < 2 ^ 32 → (print_paper s word room).0.1 ≤ longest_text
  print_short fits =
      print_holds (λ (x : (ℕ × ℕ) × List ℕ). x.0.1 ≤ longest_text)
      (λ f e. no_longer (spell false f) word (record { fits = fits; fields = f; says = ((decodes_exactly s word f).0 e).says; short = false; spelled = refl }))
      (λ _. omega arith)

  -- a refused print leaves the room
  pub print_leaves : (print_paper s word room).0.0 ≢ 0 → (print_paper s word room).1 ≡ room
  print_leaves = print_holds (λ (x : (ℕ × ℕ) × List ℕ). x.0.0 ≢ 0 → x.1 ≡ room) (λ _ _ h. absurd (h refl)) (λ _ _. refl)
