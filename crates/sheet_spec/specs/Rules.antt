-- The rules of a sheet (01, "Who can cause a refusal"; 02, K1), and what two must share, each as a test that a program
-- can run. What each test means, with no test in it, is said in Faults; that the two agree, in RuleLaws. Refusals puts
-- the tests in order.
use Rattle.std.specs.Prelude.{Bool, not, ◌&&◌, ◌||◌, cond, List, ℕ, ◌+◌, ◌-◌, eqb, ltb, leb}
use Rattle.base.specs.Range.{all}
use Rattle.events.specs.Sets.{inside}
use Rattle.walks.specs.Reach.{nearer}
use Rattle.sheet_spec.specs.declared.Row.{Row}
use Rattle.sheet_spec.specs.declared.Sheet.{Sheet}
use Rattle.sheet_spec.specs.Kept.{code_at, row, successor, acceptance, initials, graph}

-- a number from low to high
abbrev pub between : ℕ → ℕ → ℕ → Bool
between low high x = leb low x && leb x high

-- 2: the version is 1 or 2
abbrev pub version_ok : ℕ → Bool
version_ok version = eqb version 1 || eqb version 2

-- 3: E is 1 to 12, N is 1 to 32
unfoldable pub ranges_ok : ℕ → ℕ → Bool
ranges_ok e n = between 1 12 e && between 1 32 n

-- 18: event j has a code that no event before it has
unfoldable pub code_new : List ℕ → ℕ → Bool
code_new codes j = all (λ i. not (eqb (code_at codes i) (code_at codes j))) j

-- 18: no two of the first e events have one code
unfoldable pub codes_ok : ℕ → List ℕ → Bool
codes_ok e codes = all (code_new codes) e

-- 5: a C is 1 to 16
unfoldable pub count_ok : ℕ → Bool
count_ok c = between 1 16 c

-- 5: the C of every node is 1 to 16
unfoldable pub counts_ok : Sheet → Bool
counts_ok s = all (λ v. count_ok (row s v).c) s.n

-- 6: a successor is 255 or below N
unfoldable pub successor_ok : ℕ → ℕ → Bool
successor_ok n x = eqb x 255 || ltb x n

-- 6: the successors of a row, on its first e events, are 255 or below N
unfoldable pub row_successors_ok : ℕ → ℕ → Row → Bool
row_successors_ok e n r = all (λ i. successor_ok n (successor r i)) e

-- 6: the successors of every node are 255 or below N
unfoldable pub successors_ok : Sheet → Bool
successors_ok s = all (λ v. row_successors_ok s.e s.n (row s v)) s.n

-- 7: the set at place j is greater than the one before it
unfoldable pub ascends : Row → ℕ → Bool
ascends r j = eqb j 0 || ltb (acceptance r (j - 1)) (acceptance r j)

-- 7: no set before place j is included in the one there (a later one is a greater number, so it cannot be)
unfoldable pub none_inside : Row → ℕ → Bool
none_inside r j = all (λ k. not (inside (acceptance r k) (acceptance r j))) j

-- 7: the set at place j ascends, lies inside the initials, and includes none before it
unfoldable pub set_ok : ℕ → Row → ℕ → Bool
set_ok initial r j = ascends r j && (inside (acceptance r j) initial && none_inside r j)

-- 7: every set of a row ascends, lies inside the initials, and includes none before it
unfoldable pub row_sets_ok : ℕ → Row → Bool
row_sets_ok e r = all (set_ok (initials e r) r) r.c

-- 7: every set of every node ascends, lies inside the initials, and includes none before it
unfoldable pub sets_ok : Sheet → Bool
sets_ok s = all (λ v. row_sets_ok s.e (row s v)) s.n

-- 7, of a kept sheet: from event e on a row holds 255, from place c on it holds 0
unfoldable pub blank : ℕ → ℕ → Row → Bool
blank e c r = all (λ i. ltb i e || eqb (successor r i) 255) 12 && all (λ j. ltb j c || eqb (acceptance r j) 0) 16

-- 7, of a kept sheet: the unused places of node v, which is all of the row of an unused node, hold 255 and 0
unfoldable pub unused_ok : ℕ → ℕ → ℕ → Row → Bool
unused_ok e n v r = cond (ltb v n) (blank e r.c r) (eqb r.c 0 && blank 0 0 r)

-- 7, of a kept sheet: the unused places of every row hold 255 and 0
unfoldable pub blanks_ok : Sheet → Bool
blanks_ok s = all (λ v. unused_ok s.e s.n v (row s v)) 32

-- 7, of a kept sheet: from event e on the codes hold 0
unfoldable pub codes_blank : ℕ → List ℕ → Bool
codes_blank e codes = all (λ i. ltb i e || eqb (code_at codes i) 0) 12

-- 8: every node is reached from node 0 (by fewer events than there are nodes; laws say that no more are needed)
unfoldable pub reached_ok : Sheet → Bool
reached_ok s = all (nearer (graph s) s.n) s.n

-- 19: each of the first e events has one code in both lists
unfoldable pub codes_agree : ℕ → List ℕ → List ℕ → Bool
codes_agree e codes others = all (λ i. eqb (code_at codes i) (code_at others i)) e

-- each of the first e events has its code of version 1: i + 1 for event i
unfoldable pub first_codes_ok : ℕ → List ℕ → Bool
first_codes_ok e codes = all (λ i. eqb (code_at codes i) (i + 1)) e
