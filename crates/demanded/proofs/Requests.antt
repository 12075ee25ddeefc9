-- The records of specs/Requests.antt, proved. Assumes nothing.
use Prim.Native.Nat.{ℕ, ◌≤◌}
use mathlib.Core.Path.{◌≡◌, refl, ap, subst}
use mathlib.Core.Bool.{true, false}
use mathlib.Core.List.{List, [], ◌++◌}
use lib.ListN.{length, drop}
use borrow.Author.Tests.{le-leb}
use Rattle.settings.specs.declared.Settings.{Settings}
use Rattle.words.specs.Says.{describe}
use Rattle.words.specs.Kinds.{fields_said}
use Rattle.words.specs.Decode.{decode_paper}
use Rattle.words.specs.declared.Fields.{Fields}
use Rattle.words.proofs.Table.{described_exactly}
use Rattle.words.proofs.Answers.{decodes_exactly}
use Rattle.pieces.specs.Pieces.{text, decimal, decimal_up_to}
use Rattle.syntax.specs.Syntax.{fill}
use Rattle.spelling.specs.Spell.{spell, row_for, letter_values}
use Rattle.spelling.specs.Rows.{syntax_at}
use Rattle.spelling.specs.Print.{print_paper}
use Rattle.spelling.proofs.Theorems as texts
use Rattle.spelling.proofs.Longest as longest
use Rattle.demands.proofs.Execution as execution
use Rattle.demands.proofs.Sweep as sweep
use Rattle.demands.proofs.Balance as balance
use Rattle.demanded.specs.Requests.{RequestOne, RequestTwo, RequestThree}

of_c1a20008 : (s : Settings) (f : Fields) → decode_paper s 0xC1A20008 ≡ (0, f)
    → spell false f ≡ text "smlsll za.s[w8, 0:3, vgx2], { z0.b-z1.b }, { z2.b-z3.b }"
unfolding describe spell letter_values row_for syntax_at fill decimal decimal_up_to
of_c1a20008 s f e =
    let same : fields_said (describe 0xC1A20008) ≡ f = ap fields_said ((decodes_exactly s 0xC1A20008 f).0 e).says in
    subst (λ (g : Fields). spell false g ≡ text "smlsll za.s[w8, 0:3, vgx2], { z0.b-z1.b }, { z2.b-z3.b }") same refl

printed : (s : Settings) (w : ℕ) (f : Fields) (room : List ℕ) → decode_paper s w ≡ (0, f) → length (spell false f) ≤ length room
    → print_paper s w room ≡ ((0, length (spell false f)), spell false f ++ drop (length (spell false f)) room)
unfolding print_paper
printed s w f room e h = rw (e, le-leb (length (spell false f)) (length room) h)

pub request_one : RequestOne
request_one =
    record {
      of_c1a20008 = of_c1a20008;
      printed = printed;
      takes_printed = texts.read_after_print false;
      takes_short = texts.read_after_print true;
      nothing_else = λ s t w r. (texts.print_after_read s t w [] r).spells;
      one_reading = texts.one_reading;
      print_after_read = texts.print_after_read;
      numbers_of_words = λ t w p. (described_exactly w p.fields).0 p.says;
      no_longer = longest.no_longer;
      one_as_long = longest.one_as_long;
    }

pub request_two : RequestTwo
request_two =
    record {
      each_counted = execution.each_counted;
      word_balances = balance.word_balances;
      run_balances = balance.run_balances;
      list_balances = balance.list_balances;
      rises_from_zeros = balance.rises_from_zeros;
      falls_from_ones = balance.falls_from_ones;
      bits_are = balance.bits_are;
    }

pub request_three : RequestThree
request_three = record { cleared_fall = execution.cleared_counted; same_at_128 = execution.at_128; asked_at_128 = sweep.clear_at_128 }
