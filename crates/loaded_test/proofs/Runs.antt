-- The run that a log tells, one entry more. Assumes nothing.
use Prim.Native.Nat.{ℕ, suc, ◌-◌}
use native.Mathlib.Omega.{arith}
use mathlib.Core.Path.{◌≡◌}
use mathlib.Core.List.{List, [], ◌∷◌}
use lib.ListN.{length, drop_of_length-le}
use Rattle.reading.specs.declared.Second.{Second}
use Rattle.loaded_test.specs.Log.{Input, a_second, a_stop}
use Rattle.loaded_test.specs.Sheet.{with_input, oldest}

-- None of them.
pub oldest_none : (l : List Second) → oldest 0 l ≡ []
unfolding oldest
oldest_none l = drop_of_length-le l {i = length l - 0} (omega arith)

-- All of them.
pub oldest_all : (n : ℕ) (l : List Second) → n ≡ length l → oldest n l ≡ l
unfolding oldest
oldest_all n l e = let z : length l - n ≡ 0 = omega arith in rw z

-- An input that t does not count leaves the run.
pub oldest_before : (i : Input) (n : ℕ) (l : List Second) → n ≡ length l → oldest n (with_input i l) ≡ l
unfolding oldest with_input
oldest_before (a_second s) n l e = let z : suc (length l) - n ≡ 1 = omega arith in rw z
oldest_before (a_stop k) n l e = let z : length l - n ≡ 0 = omega arith in rw z

-- A second that t counts is added.
pub oldest_more : (s : Second) (n : ℕ) (l : List Second) → n ≡ suc (length l) → oldest n (with_input (a_second s) l) ≡ s ∷ l
unfolding with_input
oldest_more s n l e = oldest_all n (s ∷ l) e
