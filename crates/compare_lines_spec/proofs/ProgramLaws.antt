-- Nothing to believe: laws. How a text is kept.
use Rattle.std.specs.Prelude.{◌≡◌, List, ℕ, ◌-◌, ◌≤◌, length, take, replicate}
use Rattle.std.proofs.Common.{arith, length-append}
use Rattle.std.proofs.lemmas.List.{length-replicate}
use Rattle.std.proofs.Math.Seq.{take-append_seam}
use Rattle.compare_lines_spec.specs.Program.{kept_text}

-- a kept text lies within its bytes
pub kept_inside : (t : List ℕ) → (kept_text t).len ≤ length (kept_text t).bytes
unfolding kept_text
kept_inside t = omega (arith, length-append t (replicate {A = ℕ} (4096 - length t) 0))

-- the first bytes of a kept text, as many as it says, are the text
pub kept_text_lem : (t : List ℕ) → take (kept_text t).len (kept_text t).bytes ≡ t
unfolding kept_text
kept_text_lem t = take-append_seam t (replicate (4096 - length t) 0)

-- a kept text has 4,096 bytes
pub kept_bytes : (t : List ℕ) → length t ≤ 4096 → length (kept_text t).bytes ≡ 4096
unfolding kept_text
kept_bytes t h = omega (arith, length-append t (replicate {A = ℕ} (4096 - length t) 0), length-replicate {A = ℕ} (4096 - length t) 0)
