-- Nothing to believe: words for laws alone. What a word and two sheets get from `script_counts`.
use Rattle.std.specs.Prelude.{List, ◌++◌, ℕ, ◌+◌, ◌^◌, ◌≤◌}
use Rattle.base.specs.Counted.{Counted}
use Rattle.sheet_spec.specs.declared.Sheet.{Sheet}
use Rattle.scripts_spec.specs.Scripts.{Walked, DeviceStops, ReferenceStops, count_of}
use Rattle.scripts_spec.specs.Fates.{Script, Goes}
use Rattle.text_spec.specs.Lines.{ascii, decimal, value_from, number_line}
use Rattle.words_spec.specs.Numbers.{Digits}

-- a word is the length of a script: one to five digits whose value is at most 16
abbrev pub IsLength : List ℕ → Type 0
IsLength word = Digits 5 word × (value_from 0 word ≤ 16)

-- the line of a refusal of the call
abbrev pub refused_line : ℕ → List ℕ
refused_line m = number_line (ascii "scripts refused ") m

-- the five lines, spelled out: L, how many scripts of L events there are, how many both walk, how many the device
-- stops, how many the reference stops, and how many end early
abbrev pub spelled : ℕ → ℕ → ℕ → ℕ → ℕ → ℕ → List ℕ
spelled L n w d r m =
    ascii "scripts of " ++ (decimal L ++ (ascii " events " ++ (decimal n
    ++ (ascii "\nwalked " ++ (decimal w
    ++ (ascii "\ndevice stops " ++ (decimal d
    ++ (ascii "\nreference stops " ++ (decimal r
    ++ (ascii "\nends early " ++ (decimal m ++ ascii "\n")))))))))))

-- what the five numbers mean: the last is that of the scripts which not both walk
pub record Means (P Q : Sheet) (L n w d r m : ℕ) : Type 0 where
  pub all : Counted (Script P.e L) n
  pub walked : Counted (λ t. Script P.e L t × Goes P Q t Walked) w
  pub device_stops : Counted (λ t. Script P.e L t × Goes P Q t DeviceStops) d
  pub reference_stops : Counted (λ t. Script P.e L t × Goes P Q t ReferenceStops) r
  pub ends_early : Counted (λ t. Script P.e L t × (¬ Goes P Q t Walked)) m

-- the five lines of the counts of scripts of L events
abbrev pub five_lines : Sheet → Sheet → ℕ → List ℕ
five_lines P Q L =
    spelled L (P.e ^ L) (count_of P Q L Walked) (count_of P Q L DeviceStops) (count_of P Q L ReferenceStops)
    (count_of P Q L DeviceStops + count_of P Q L ReferenceStops)
