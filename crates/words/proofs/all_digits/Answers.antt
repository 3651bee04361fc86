-- Each byte is a digit, or one is none.
use Rattle.std.proofs.Common.{◌≡◌, true, false, rules}
use Rattle.std.proofs.lemmas.Iterator.{cases_from_all, YieldsList-from_slice}
use Rattle.words_spec.specs.Numbers.{is_digit}
use Rattle.words.proofs.Digits.{digits_tested}
use Rattle.words.proofs.all_digits.Goals as goal

pub returns : goal.returns
unfolding is_digit
returns c =
    digits_tested c.args.bytes.now c.all.result
    (cases_from_all _ _ _ (λ b. is_digit b ≡ true) (λ b. is_digit b ≡ false) c.all.ensures.ran (YieldsList-from_slice c.args.bytes.now cc) (λ x q k. search rules) (λ x q k. search rules))
