-- As many zeros as were asked for.
use mathlib.Core.Path.{sym}
use Prim.Native.Nat.{ℕ}
use lib.ListN.{length-replicate}
use Rattle.compare_files.proofs.file_space.Goals as goal

pub returns : goal.returns
returns c = sym (length-replicate {A = ℕ} 1048593 0)
