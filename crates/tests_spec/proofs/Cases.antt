-- Nothing to believe: cases. The record of a refused opening, and the bytes of a flag. (The worked cases of runs
-- compute through the probe lists, so they stand in `cases_worked`; those of verdicts are in `verdicts_spec`.)
use Rattle.std.specs.Prelude.{◌≡◌, refl, true, false}
use Rattle.tests_spec.specs.Flags.{flag}
use Rattle.tests_spec.specs.Runs.{zero_run}

-- a record of zeros: it has 0 in every place
pub zero_record : (zero_run.k ≡ 0) × (zero_run.h ≡ 0) × (zero_run.trace_only ≡ 0) × (zero_run.ended ≡ 0) × (zero_run.node ≡ 0) × (zero_run.depth ≡ 0)
zero_record = (refl, refl, refl, refl, refl, refl)

-- a flag: 0 is false; 1, 2 and 255 are true
pub flag_bytes : (flag 0 ≡ false) × (flag 1 ≡ true) × (flag 2 ≡ true) × (flag 255 ≡ true)
unfolding flag
flag_bytes = (refl, refl, refl, refl)
