-- A run passes exactly if it is within 7 percent, said in fractions and in whole numbers, and the annex's formula reduces. Assumes nothing.
use Prim.Native.Nat.{ℕ, ◌+◌, ◌-◌, ◌*◌, ◌≤◌, ◌<◌}
use native.Mathlib.Nat.{zero-mul, mul-zero, zero-add, add-zero, one-mul, mul-one, mul-le-mul_right, le_of_mul-le-mul_right}
use native.Mathlib.Omega.{arith}
use mathlib.Core.Bool.{Bool, true, ◌&&◌}
use mathlib.Core.Path.{◌≡◌, ap, sym, ◌∙◌}
use mathlib.Core.Logic.{◌↔◌}
use lib.Dec.{leb}
use Rattle.refusal.proofs.Exactly.{leb_exactly, and_exactly}
use Rattle.coast_down.specs.declared.SpeedRange.{SpeedRange}
use Rattle.coast_down.specs.declared.SpeedRange.TheVariants.{Faster, Slower}
use Rattle.coast_down.specs.declared.Run.{Run}
use Rattle.coast_down.specs.Passing.{nominal_time, nominal, run_passed, whole_nominal}
use Rattle.coast_down.specs.Annex.{NominalReduced}
use Rattle.coast_down.specs.Claims.{InertiaExactly, PowerExactly, apart, WithinSeven, WithinWhole, RunClaims}

pub inertia_exactly : InertiaExactly
inertia_exactly w = and_exactly _ _ (leb_exactly _ _) (leb_exactly _ _)

pub power_exactly : PowerExactly
power_exactly q = and_exactly _ _ (leb_exactly _ _) (leb_exactly _ _)

ruleset zeros = (zero-mul, mul-zero, zero-add, add-zero, one-mul, mul-one)

nominal_reduced : NominalReduced
nominal_reduced Faster w q h = record { left = simp zeros (omega arith); right = omega arith; equal = simp zeros (omega arith) }
nominal_reduced Slower w q h = record { left = simp zeros (omega arith); right = omega arith; equal = simp zeros (omega arith) }

-- N is 1,000 times what the nominal seconds have over 81q.
whole_over : (speeds : SpeedRange) (w q : ℕ) → 1000 * (nominal_time speeds w q).over ≡ whole_nominal speeds w
whole_over Faster w q = omega arith
whole_over Slower w q = omega arith

under : (speeds : SpeedRange) (w q : ℕ) → (nominal_time speeds w q).under ≡ 81 * q
under Faster w q = omega arith
under Slower w q = omega arith

leb_same : (a b c d : ℕ) → a ≡ c → b ≡ d → leb a b ≡ leb c d
leb_same a b c d p q = rw (p, q)

-- Both tests in whole numbers.
abbrev pub whole_passed : ℕ → ℕ → Bool
whole_passed n time = leb (93 * n) time && leb time (107 * n)

tests_whole :
    (a u q ms n : ℕ) →
    u ≡ 81 * q →
    1000 * a ≡ n →
    leb ((100 - 7) * a * 1000) (ms * (100 * u)) && leb (ms * (100 * u)) ((100 + 7) * a * 1000)
    ≡ whole_passed n (8100 * q * ms)
tests_whole a u q ms n hu hn =
    ap (λ b. b && leb (ms * (100 * u)) ((100 + 7) * a * 1000)) (leb_same _ _ _ _ low time) ∙
    ap (λ b. leb (93 * n) (8100 * q * ms) && b) (leb_same _ _ _ _ time high)
  where
    low : (100 - 7) * a * 1000 ≡ 93 * n
    low = omega arith

    high : (100 + 7) * a * 1000 ≡ 107 * n
    high = omega arith

    time : ms * (100 * u) ≡ 8100 * q * ms
    time = ap (λ x. ms * (100 * x)) hu ∙ omega arith

-- The form that the code computes.
pub passed_whole :
    (r : Run) → run_passed r ≡ whole_passed (whole_nominal r.speeds r.inertia) (8100 * r.power * r.milliseconds)
unfolding run_passed
passed_whole r =
    tests_whole (nominal r).over (nominal r).under r.power r.milliseconds _
    (under r.speeds r.inertia r.power) (whole_over r.speeds r.inertia r.power)

passes_whole : (r : Run) → (run_passed r ≡ true) ↔ WithinWhole r
passes_whole r = ((λ h. exactly.0 (sym (passed_whole r) ∙ h)), (λ h. passed_whole r ∙ exactly.1 h))
  where
    exactly : (whole_passed (whole_nominal r.speeds r.inertia) (8100 * r.power * r.milliseconds) ≡ true) ↔ WithinWhole r
    exactly = and_exactly _ _ (leb_exactly _ _) (leb_exactly _ _)

-- The difference at most 7 percent, with q divided out.
within_whole :
    (a u q ms n : ℕ) →
    u ≡ 81 * q →
    1000 * a ≡ n →
    0 < q →
    (apart (ms * u) (a * 1000) * (100 * u) ≤ 7 * a * (1000 * u)) ↔
    ((93 * n ≤ 8100 * q * ms) × (8100 * q * ms ≤ 107 * n))
within_whole a u q ms n hu hn pos = (there, back)
  where
    d : ℕ
    d = apart (ms * u) (a * 1000)

    time : ms * u ≡ 81 * (q * ms)
    time = ap (λ x. ms * x) hu ∙ omega arith

    left : d * (100 * u) ≡ 8100 * d * q
    left = ap (λ x. d * (100 * x)) hu ∙ omega arith

    right : 7 * a * (1000 * u) ≡ 567000 * a * q
    right = ap (λ x. 7 * a * (1000 * x)) hu ∙ omega arith

    there : d * (100 * u) ≤ 7 * a * (1000 * u) → (93 * n ≤ 8100 * q * ms) × (8100 * q * ms ≤ 107 * n)
    there h =
        let k : 8100 * d ≤ 567000 * a = le_of_mul-le-mul_right (omega (arith, h, left, right)) pos in
        (omega (arith, k, time, hn), omega (arith, k, time, hn))

    back : (93 * n ≤ 8100 * q * ms) × (8100 * q * ms ≤ 107 * n) → d * (100 * u) ≤ 7 * a * (1000 * u)
    back h =
        let k : 8100 * d ≤ 567000 * a = omega (arith, h.0, h.1, time, hn) in
        omega (arith, mul-le-mul_right q k, left, right)

pub run_claims : RunClaims
run_claims = record { passes = λ r. record { within = within r; whole = passes_whole r }; reduced = nominal_reduced }
  where
    within : (r : Run) → 0 < r.power → (run_passed r ≡ true) ↔ WithinSeven r
    within r pos =
        let w = within_whole (nominal r).over (nominal r).under r.power r.milliseconds _
        (under r.speeds r.inertia r.power) (whole_over r.speeds r.inertia r.power) pos in
        ((λ h. w.1 ((passes_whole r).0 h)), (λ h. (passes_whole r).1 (w.0 h)))
