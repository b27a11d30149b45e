-- Steps 2 and 3: the seconds before the first counted one, over range and dilution.
use Rattle.std.specs.Prelude.{ℕ, ◌+◌, ◌<◌, Bool, ◌&&◌, leb, ltb, eqb}
use Rattle.refusal.specs.Choice.{pick}
use Rattle.reading.specs.declared.Second.{Second}
use Rattle.correction.specs.Dilution.{dilution_sum}
use Rattle.attempt.specs.declared.Screen.{Screen}
use Rattle.attempt.specs.declared.Screen.TheVariants.{Waits, Flawed, Clear}

-- "While c = 0, a second with speed ≤ 10 changes nothing in the test."
abbrev pub waits : ℕ → Second → Bool
waits c s = eqb c 0 && leb s.speed 10

-- "10·CO2 + CO < 600 (diluted)", of which document 02, A.9, makes CO2 + CO < 600.
abbrev pub diluted : Second → Bool
diluted s = ltb (dilution_sum s.co2 s.co) 600

-- The same of the numbers, both in hundredths of a %.
abbrev pub Diluted : Second → Type 0
Diluted s = s.co2.0 + s.co.0 < 600

-- "Over range in codes 4 to 7: void 6. Else .. (diluted): void 5."
abbrev pub flaw_of : Bool → Bool → Screen
flaw_of over thin = pick over (Flawed 6) (pick thin (Flawed 5) Clear)

-- Step 2, then step 3.
unfoldable pub screened : ℕ → Second → Screen
screened c s = pick (waits c s) Waits (flaw_of s.over (diluted s))
