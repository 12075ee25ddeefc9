-- The answer with the line's end. Assumes nothing.
use Prim.Native.Nat.{ℕ, ◌<◌, ◌≤◌, ◌^◌}
use mathlib.Core.Path.{◌≡◌, sym, ap, ◌∙◌, subst}
use mathlib.Core.Bool.{false}
use mathlib.Core.List.{List, ◌++◌}
use lib.ListN.{length}
use Rattle.std.specs.Prelude.{Some, Ok, Err}
use Rattle.pieces.specs.Pieces.{text, decimal, decimal_up_to, hex8, Stands}
use Rattle.pieces.proofs.Pieces.{stands}
use Rattle.settings.specs.declared.Refusal.{Refusal}
use Rattle.words.specs.Decode.{decode_paper}
use Rattle.spelling.specs.Spell.{longest_text}
use Rattle.spelling.specs.Print.{PrintPromise}
use Rattle.spelling.specs.Language.{Spells, not_text}
use Rattle.spell.specs.Spelled.{all_on, is_word, word_in, unless_refused, word_text, Answers, to_word, to_text}
use Rattle.spell.proofs.Answers.{not-refused, valid, reads_word, print_wrote, print_refused, print_short}
use Rattle.spell.proofs.Digits.{says_word}

-- ---- a line that is a word

pub word_answered : (line : List ℕ) (w : ℕ) (answer : List ℕ) → word_in line ≡ Some w → answer ≡ word_text (decode_paper all_on w) ++ text "\n"
    → Answers line answer
word_answered line w answer e x =
    let is = says_word line w e in
    subst (Answers line) (sym (x ∙ ap (λ (v : ℕ). word_text (decode_paper all_on v) ++ text "\n") is.1)) (to_word is.0)

-- what print has written is short, and stands at the start of the room
pub word_short : (w n : ℕ) (room room' : List ℕ) → w < 2 ^ 32 → PrintPromise all_on w room (Ok n) room' → n ≤ longest_text
word_short w n room room' lt p = print_short w lt n room room' p

pub word_stands : (w n : ℕ) (room room' : List ℕ) → PrintPromise all_on w room (Ok n) room' → Stands (word_text (decode_paper all_on w)) room room' n
word_stands w n room room' p = stands (print_wrote w n room room' p)

pub word-refused : (w : ℕ) → w < 2 ^ 32 → (refusal : Refusal) (room room' : List ℕ) → longest_text ≤ length room
    → PrintPromise all_on w room (Err refusal) room' → text "refused 3" ≡ word_text (decode_paper all_on w)
unfolding decimal decimal_up_to
word-refused w lt refusal room room' long p = (print_refused w lt refusal room room' long p).1

-- ---- a line that is not

pub text_said : (line : List ℕ) (w : ℕ) (answer : List ℕ) → Spells line w → answer ≡ hex8 w ++ text "\n" → is_word line ≡ false → Answers line answer
text_said line w answer p x e =
    subst (Answers line) (sym (x ∙ ap (λ (t : List ℕ). t ++ text "\n") (not-refused (hex8 w)))) (to_text e 0 w (reads_word line w p))

pub text-refused : (line answer : List ℕ) → ((w : ℕ) → Spells line w → ⊥) → answer ≡ text "refused 11" ++ text "\n" → is_word line ≡ false → Answers line answer
unfolding unless_refused decimal decimal_up_to
text-refused line answer n x e = subst (Answers line) (sym x) (to_text e 11 0 (not_text valid n))
