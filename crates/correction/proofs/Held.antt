-- DCF's rounding, and the two values that it is held within. Assumes nothing.
use mathlib.Core.Bool.{true, false}
use mathlib.Core.Path.{◌≡◌, refl}
use Prim.Native.Nat.{ℕ, ◌^◌, ◌≤◌, ◌<◌}
use native.Mathlib.Omega.{arith}
use lib.Dec.{eqb}
use borrow.Author.Tests.{eqb-true, eqb-false}
use Rattle.refusal.specs.Choice.{pick}
use Rattle.refusal.proofs.Picked.{on_pick}
use Rattle.reading.specs.declared.Hundredths.{Hundredths}
use Rattle.correction.specs.Rounding.{half_up}
use Rattle.correction.specs.Dilution.{dilution_divisor, held, dcf_of}
use Rattle.correction.specs.Claims.{Held, RoundedAndHeld}
use Rattle.correction.proofs.Halves.{at_most, at_least, half_up_exact}

-- DCF is from 1,000,000 to 3,000,000 for every pair of counts.
pub dcf_held : (co2 co : Hundredths) → Held (dcf_of co2 co)
unfolding dcf_of
dcf_held co2 co = on_pick Held _ _ _ (λ _. omega arith) (λ _. omega arith)

-- A divisor 0 gives 3,000,000.
rounded_none : (d : ℕ) → eqb d 0 ≡ true → RoundedAndHeld d 3000000
rounded_none d e =
    let z : d ≡ 0 = eqb-true d 0 e in
    record { within = λ l m. absurd (omega arith); above = λ l. refl; below = λ l. absurd (omega arith) }

-- Any other gives the quotient, held.
rounded_some : (d : ℕ) → eqb d 0 ≡ false → RoundedAndHeld d (held (half_up (10 ^ 13) d))
rounded_some d e =
    let pos : 0 < d = omega (arith, eqb-false d 0 e) in
    let exact = half_up_exact (10 ^ 13) d pos in
    record {
      within = λ l m.
          let most : half_up (10 ^ 13) d ≤ 3000000 = at_most (10 ^ 13) d 3000000 pos (omega arith) in
          let least : 1000000 ≤ half_up (10 ^ 13) d = at_least (10 ^ 13) d 1000000 pos (omega arith) in
          let same : held (half_up (10 ^ 13) d) ≡ half_up (10 ^ 13) d = omega arith in
          rw same exact;
      above = λ l.
          let least : 3000000 ≤ half_up (10 ^ 13) d = at_least (10 ^ 13) d 3000000 pos (omega arith) in
          omega arith;
      below = λ l.
          let most : half_up (10 ^ 13) d ≤ 1000000 = at_most (10 ^ 13) d 1000000 pos (omega arith) in
          omega arith;
    }

-- So it is of the divisor that DCF is worked out from.
rounded_at : (d e : ℕ) → d ≡ e → RoundedAndHeld d (pick (eqb e 0) 3000000 (held (half_up (10 ^ 13) e)))
rounded_at d e s = rw s (on_pick (RoundedAndHeld e) (eqb e 0) _ _ (rounded_none e) (rounded_some e))

-- DCF is the quotient, rounded and held.
pub dcf_rounded : (co2 co : Hundredths) → RoundedAndHeld (dilution_divisor co2 co) (dcf_of co2 co)
unfolding dcf_of
dcf_rounded co2 co = rounded_at (dilution_divisor co2 co) _ (omega arith)
