-- The claims that the contract of `begin` carries. Assumes nothing.
use Prim.Native.Nat.{ℕ, ◌≤◌}
use mathlib.Core.Bool.{Bool, true, false}
use mathlib.Core.Path.{◌≡◌, refl}
use lib.Dec.{leb}
use borrow.Author.Tests.{le-leb, leb-true}
use Rattle.refusal.specs.declared.Refusal.TheVariants.{NoTest}
use Rattle.std.proofs.lemmas.Bool.{and_parts}
use Rattle.loaded_test.specs.declared.Test.{Test}
use Rattle.loaded_test.specs.State.{refused}
use Rattle.loaded_test.specs.Going.{is_running}
use Rattle.loaded_test.specs.Steps.{cause_fit}
use Rattle.loaded_test.specs.Log.{Input, a_second, a_stop, step}
use Rattle.loaded_test.specs.Claims.{TestClaims}
use Rattle.loaded_test.proofs.Passing.{passes, voids_followed, incomplete_only, fails_only, accounted_all, bounded, last_ten_lem}
use Rattle.loaded_test.proofs.Shown.{sheet_told, present_shown}
use Rattle.loaded_test.proofs.Going.{second_goes, stop_goes, stop_refused_lem, second_idle, stop_idle}
use Rattle.loaded_test.proofs.Examples.{passes_36, open_35}

fit : (n : ℕ) → 1 ≤ n → n ≤ 4 → cause_fit n ≡ true
fit n least most = simp (le-leb _ _ least, le-leb _ _ most)

not_fit : (n : ℕ) → (1 ≤ n → n ≤ 4 → ⊥) → cause_fit n ≡ false
not_fit n h = go (cause_fit n) refl
  where
    go : (b : Bool) → cause_fit n ≡ b → cause_fit n ≡ false
    go true e = absurd (h (leb-true _ _ (and_parts (leb 1 n) (leb n 4) e).0) (leb-true _ _ (and_parts (leb 1 n) (leb n 4) e).1))
    go false e = e

idle : (x : Test) (i : Input) → is_running x.progress.stage ≡ false → step x i ≡ refused NoTest x
idle x (a_second s) e = second_idle x s e
idle x (a_stop n) e = stop_idle x n e

pub test_claims : TestClaims
test_claims = record {
  pass = passes;
  void = voids_followed;
  incomplete = incomplete_only;
  fail = fails_only;
  accounted = accounted_all;
  bounded = bounded;
  last_ten = last_ten_lem;
  sheet = sheet_told;
  present = present_shown;
  seconds = second_goes;
  stops = λ x n e least most. stop_goes x n (fit n least most) e;
  unfit = λ x n e h. stop_refused_lem x n (not_fit n h) e;
  idle = idle;
  passes = passes_36;
  not_before = open_35;
}
