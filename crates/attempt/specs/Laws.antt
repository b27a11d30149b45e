-- What is claimed of the rules of an attempt, in numbers. Each claim is carried by the contract of the function that it is about.
use Rattle.std.specs.Prelude.{ℕ, suc, ◌+◌, ◌-◌, ◌≤◌, ◌<◌, min, Bool, true, false, ◌≡◌, List, ◌∷◌, ◌⊎◌, ◌↔◌, length}
use Rattle.reading.specs.declared.Second.{Second}
use Rattle.correction.specs.Dilution.{dilution_sum}
use Rattle.vehicle.specs.declared.Vehicle.{Vehicle}
use Rattle.vehicle.specs.declared.Mode.{Mode}
use Rattle.attempt.specs.declared.SettlingCounts.{SettlingCounts}
use Rattle.attempt.specs.declared.MeasuringCounts.{MeasuringCounts}
use Rattle.attempt.specs.declared.WindowCounts.{WindowCounts}
use Rattle.attempt.specs.declared.WindowOutcome.{WindowOutcome}
use Rattle.attempt.specs.declared.Screen.{Screen}
use Rattle.attempt.specs.declared.Screen.TheVariants.{Waits, Flawed, Clear}
use Rattle.attempt.specs.declared.Ending.{Ending}
use Rattle.attempt.specs.declared.Ending.TheVariants.{NotYet, Passes, ModeEnds, Inconclusive}
use Rattle.attempt.specs.Screening.{diluted, Diluted, screened}
use Rattle.attempt.specs.Ready.{ready}
use Rattle.attempt.specs.Settling.{second_one, second_two}
use Rattle.attempt.specs.Ending.{ending_rule}
use Rattle.attempt.specs.Speeds.{speed_at, speed_held, SpeedHeld}
use Rattle.attempt.specs.Counting.{row_of, all_of}
use Rattle.attempt.specs.Measuring.{still_held, window_counted}
use Rattle.attempt.specs.Runs.{Driven, outs, speeds, run_of, counts_after}

-- What each outcome of steps 2 and 3 says of c and the second, at every stage: a second that is not void and does not wait is neither
-- over range in codes 4 to 7 nor diluted, and at c = 0 its speed is above 10.
abbrev pub Screens : ℕ → Second → Screen → Type 0
Screens c s Waits = (c ≡ 0) × (s.speed ≤ 10)
Screens c s (Flawed n) =
    (c ≡ 0 → 10 < s.speed) × (((n ≡ 6) × (s.over ≡ true)) ⊎ ((n ≡ 5) × (s.over ≡ false) × Diluted s))
Screens c s Clear = (c ≡ 0 → 10 < s.speed) × (s.over ≡ false) × (Diluted s → ⊥)

-- Steps 2 and 3 in numbers.
abbrev pub ScreenedExactly : Type 0
ScreenedExactly = (c : ℕ) (s : Second) → Screens c s (screened c s)

-- "Sum 600: neither ready nor void; 599: void."
pub record SixHundred : Type 0 where
  pub clear : (s : Second) → dilution_sum s.co2 s.co ≡ 600 → diluted s ≡ false
  pub unready : (v : Vehicle) (mode : Mode) (s : Second) → dilution_sum s.co2 s.co ≡ 600 → ready v mode s ≡ false
  pub below : (s : Second) → dilution_sum s.co2 s.co ≡ 599 → diluted s ≡ true

-- The greatest counts after a second of settling.
pub record Settled (most : ℕ) (k : SettlingCounts) : Type 0 where
  pub seconds : k.seconds ≤ most
  pub ready : k.ready ≤ 11
  pub row : k.row ≤ 1
  pub all : k.all ≤ 4

-- n is at most 25 after a second of settling in mode 1.
abbrev pub FirstMost : Type 0
FirstMost =
    (v : Vehicle) (s : Second) (k : SettlingCounts) →
    k.seconds ≤ 24 → k.ready ≤ 10 → k.row ≤ 1 → k.all ≤ 4 → Settled 25 (second_one v s k)

-- n is at most 15 after a second of settling in mode 2.
abbrev pub NextMost : Type 0
NextMost =
    (v : Vehicle) (s : Second) (k : SettlingCounts) →
    k.seconds ≤ 14 → k.ready ≤ 10 → k.row ≤ 1 → k.all ≤ 4 → Settled 15 (second_two v s k)

-- "each of those ten speeds .. at most 0.8 km/h below second 1's"
abbrev pub HeldExactly : Type 0
HeldExactly = (l : List ℕ) → (speed_held l ≡ true) ↔ SpeedHeld l

-- One second more: what is kept of the speed drop before it and its own speed give what is so of all the speeds. The pass claim rests on this,
-- and `CountsTold` does. Its number t is held at the greatest of its byte.
abbrev pub HeldMore : Type 0
HeldMore =
    (t speed : ℕ) (l : List ℕ) →
    t ≡ min (suc (length l)) 255 →
    still_held t (speed_at 1 (speed ∷ l)) speed (speed_held l) ≡ speed_held (speed ∷ l)

-- "from t = 9 on, passing, failing and invalid together shall be exactly t − 9" (document 02, A.8), and before t = 10 each is 0.
pub record Accounted (t passing failing invalid : ℕ) : Type 0 where
  pub none : t < 10 → (passing ≡ 0) × (failing ≡ 0) × (invalid ≡ 0)
  pub exact : 9 ≤ t → passing + failing + invalid ≡ t - 9

-- The same of the counts of measuring.
abbrev pub AllAccounted : MeasuringCounts → Type 0
AllAccounted k = Accounted k.seconds k.windows.passing k.windows.failing k.windows.invalid

-- One measured second more, short of t's cap, where every window before it is accounted for: with the one that ends there they are so again. A.8's law for every
-- test and every bench rests on this, and `CountsTold` does.
abbrev pub OneWindowMore : Type 0
OneWindowMore =
    (x : WindowOutcome) (n : ℕ) (k : MeasuringCounts) →
    n ≤ 254 →
    k.seconds ≡ suc n →
    Accounted n k.windows.passing k.windows.failing k.windows.invalid →
    AllAccounted (window_counted x k)

-- The counts are those of the seconds of this t themselves, and what is kept of the speed drop is so of their speeds: a restart forgets a dip
-- and every window before it.
pub record RunTold (l : List Driven) : Type 0 where
  -- t is held at the greatest number of its byte, which no test reaches
  pub t : (counts_after l).seconds ≡ min (length (run_of l)) 255
  pub u : (counts_after l).row ≡ row_of (outs (run_of l))
  pub w : (counts_after l).all ≡ all_of (outs (run_of l))
  pub first : (counts_after l).first ≡ speed_at 1 (speeds (run_of l))
  pub held : ((counts_after l).held ≡ true) ↔ SpeedHeld (speeds (run_of l))
  -- short of that cap
  pub windows : length (run_of l) ≤ 255 → AllAccounted (counts_after l)

-- For every list of seconds.
abbrev pub CountsTold : Type 0
CountsTold = (l : List Driven) → RunTold l

-- What each outcome of the ending rule says of t, the windows and whether the speed held.
abbrev pub RuleSays : ℕ → WindowCounts → Bool → Ending → Type 0
RuleSays t k held NotYet = (t ≡ 90 → ⊥) × (25 ≤ t → 15 ≤ k.passing → held ≡ true → ⊥)
RuleSays t k held Passes = (15 ≤ k.passing) × ((t ≡ 90) ⊎ ((25 ≤ t) × (held ≡ true)))
RuleSays t k held ModeEnds = (t ≡ 90) × (k.passing < 15) × (25 ≤ k.failing)
RuleSays t k held Inconclusive = (t ≡ 90) × (k.passing < 15) × (k.failing < 25)

-- The ending rule in numbers.
abbrev pub RuledExactly : Type 0
RuledExactly = (t : ℕ) (k : WindowCounts) (held : Bool) → RuleSays t k held (ending_rule t k held)
