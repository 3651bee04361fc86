-- The number and the values of each answer: its refusal (0 for none), its kind and the event or set that comes with it.
-- Of a refusal every other part is 0.
use Rattle.std.specs.Prelude.{ℕ}
use Rattle.tests_spec.specs.declared.Answer.{Answer}
use Rattle.tests_spec.specs.declared.Answer.TheVariants.{Going, Stray, Refused, Passed, Inconclusive, Denied}

-- what an answer says in numbers
pub record Said : Type 0 where
  -- the number of the refusal, 0 for none
  pub refusal : ℕ
  -- 0 for a refusal, else the number of the case
  pub kind : ℕ
  -- the event or the set of the case, 0 where it has none
  pub value : ℕ

-- the numbers of an answer: going on is 1 with the next offer, stray 2 with the event, refused 3 with the set offered,
-- passed 4, inconclusive 5
unfoldable pub said : Answer → Said
said (Denied m) = record { refusal = m; kind = 0; value = 0 }
said (Going x) = record { refusal = 0; kind = 1; value = x }
said (Stray i) = record { refusal = 0; kind = 2; value = i }
said (Refused x) = record { refusal = 0; kind = 3; value = x }
said Passed = record { refusal = 0; kind = 4; value = 0 }
said Inconclusive = record { refusal = 0; kind = 5; value = 0 }
