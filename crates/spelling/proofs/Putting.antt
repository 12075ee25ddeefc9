-- What print puts into the room. Assumes nothing.
use Prim.Native.Nat.{ℕ, ◌<◌, ◌≤◌}
use native.Mathlib.Omega.{arith}
use mathlib.Core.Path.{◌≡◌, ap, ◌∙◌}
use mathlib.Core.Bool.{false}
use mathlib.Core.List.{List, ◌++◌}
use lib.ListN.{length, take, drop}
use lib.Seq.{take-take}
use borrow.Author.Tests.{le-leb, lt-leb, ne_eqb}
use Rattle.std.specs.List.{refill}
use Rattle.std.proofs.lemmas.List.{take-append-le}
use Rattle.pieces.specs.Pieces.{Wrote}
use Rattle.pieces.proofs.Pieces.{stands}
use Rattle.syntax.specs.Syntax.{fill}
use Rattle.settings.specs.declared.Settings.{Settings}
use Rattle.words.specs.Decode.{decode_paper}
use Rattle.words.specs.declared.Fields.{Fields}
use Rattle.spelling.specs.Rows.{syntax_at}
use Rattle.spelling.specs.Spell.{letter_values, row_for, spell}
use Rattle.spelling.specs.Print.{put_into, print_paper}

-- ---- the text into the room

-- what was written at the start of a full text is what stays of it
pub kept_text : (t all : List ℕ) {room room' : List ℕ} {r : ℕ} → Wrote t 0 room room' r → length room ≤ length all → take r (refill (length all) all room') ≡ t
kept_text t all {room} {room'} {r} w h =
    let s = stands w in
    take-take r (length all) _ (omega arith) ∙ take-append-le r room' _ s.inside ∙ s.is

pub spelled : (f : Fields) (k : ℕ) (t : List ℕ) → k ≡ row_for false f → t ≡ fill (letter_values f) (syntax_at k) → t ≡ spell false f
unfolding spell
spelled f k t a b = b ∙ ap (λ (j : ℕ). fill (letter_values f) (syntax_at j)) a

pub no_room : (t room : List ℕ) → length room < length t → ◌≡◌ {A = (ℕ × ℕ) × List ℕ} ((12, 0), room) (put_into t room)
no_room t room h = rw (lt-leb _ _ h)

pub has_room : (t u room : List ℕ) (n : ℕ) → u ≡ t → n ≡ length t → n ≤ length room → ◌≡◌ {A = (ℕ × ℕ) × List ℕ} ((0, n), u ++ drop n room) (put_into t room)
has_room t u room n a b h = rw (a, b) (rw (le-leb (length t) (length room) (omega arith)))

-- print by what decode answers
pub print_word : (s : Settings) (w : ℕ) (f : Fields) (room : List ℕ) → decode_paper s w ≡ (0, f) → print_paper s w room ≡ put_into (spell false f) room
unfolding print_paper
print_word s w f room e = rw e

pub print_refused : (s : Settings) (w n : ℕ) (f : Fields) (room : List ℕ) → (n ≡ 0 → ⊥) → decode_paper s w ≡ (n, f) → print_paper s w room ≡ ((n, 0), room)
unfolding print_paper
print_refused s w n f room h e = rw (e, ne_eqb n 0 h)
