-- What holds of a test after every list of inputs, besides the pass claim.
use Rattle.std.specs.Prelude.{ℕ, suc, ◌+◌, ◌-◌, ◌≤◌, ◌<◌, ◌≡◌, List, [], ◌∷◌, ◌⊎◌, eqb, length, take, Err}
use Rattle.refusal.specs.Choice.{pick}
use Rattle.refusal.specs.declared.Refusal.{Refusal}
use Rattle.vehicle.specs.declared.Vehicle.{Vehicle}
use Rattle.vehicle.specs.declared.Mode.{Mode}
use Rattle.vehicle.specs.declared.Mode.TheVariants.{One, Two}
use Rattle.window.specs.declared.Measured.{Measured}
use Rattle.loaded_test.specs.declared.Word.{Word}
use Rattle.loaded_test.specs.declared.Word.TheVariants.{Fail, Incomplete}
use Rattle.loaded_test.specs.declared.Verdict.{Verdict}
use Rattle.loaded_test.specs.declared.Did.{Did}
use Rattle.loaded_test.specs.declared.Did.TheVariants as did
use Rattle.loaded_test.specs.declared.Next.{Next}
use Rattle.loaded_test.specs.declared.Next.TheVariants.{GoesOn, Rests, RestEnded, ModeTwo, Ends}
use Rattle.loaded_test.specs.declared.Progress.{Progress}
use Rattle.loaded_test.specs.declared.Test.{Test}
use Rattle.loaded_test.specs.declared.Stepped.{Stepped}
use Rattle.attempt.specs.Laws.{Accounted, AllAccounted}
use Rattle.loaded_test.specs.Windows.{window_of}
use Rattle.loaded_test.specs.Log.{Entry}
use Rattle.loaded_test.specs.Claim.{mode_in, Measures}
use Rattle.loaded_test.specs.Sheet.{run_in}

-- "Left as it was: all": where the answer is a refusal, the test is the one that was given, whatever its state.
abbrev pub BackIfRefused : Test → Stepped → Type 0
BackIfRefused x y = (r : Refusal) → y.answer ≡ Err r → y.test ≡ x

-- The greatest counts: no counter is at its cap, 255.
pub record Bounded (p : Progress) : Type 0 where
  -- c ≤ 145
  pub counted : p.counted ≤ 145
  pub resting : p.resting ≤ 10
  -- n, g, u, w
  pub seconds : p.settling.seconds ≤ 25
  pub ready : p.settling.ready ≤ 11
  pub row : p.settling.row ≤ 2
  pub all : p.settling.all ≤ 5
  -- t ≤ 90
  pub measured : p.measuring.seconds ≤ 90
  pub out_row : p.measuring.row ≤ 3
  pub out_all : p.measuring.all ≤ 6
  -- "Passing plus failing is 0 before t = 10 and from there at most t − 9."
  pub none : p.measuring.seconds < 10 → p.measuring.windows.passing + p.measuring.windows.failing ≡ 0
  pub windows : p.measuring.windows.passing + p.measuring.windows.failing ≤ p.measuring.seconds - 9
  -- "from t = 9 on, passing, failing and invalid together shall be exactly t − 9"; before it all three are 0
  pub accounted : AllAccounted p.measuring
  -- r ≤ 3, q ≤ 2
  pub voids : p.voids.voids ≤ 3
  pub inconclusive : p.voids.inconclusive ≤ 2

-- The numbers of the voids since the test's or mode 2's beginning, newest first.
unfoldable pub void_added : Did → List ℕ → List ℕ
void_added did.Nothing l = l
void_added did.MeasuringBegan l = l
void_added (did.Measured t) l = l
void_added did.Restarted l = l
void_added (did.Voided n) l = n ∷ l

-- Mode 2's beginning sets r and q to 0.
unfoldable pub voids_kept : Next → List ℕ → List ℕ
voids_kept GoesOn l = l
voids_kept Rests l = l
voids_kept RestEnded l = l
voids_kept ModeTwo l = []
voids_kept (Ends x) l = l

-- The voids that a log tells.
unfoldable pub voids_in : List Entry → List ℕ
voids_in [] = []
voids_in (e ∷ log) = voids_kept e.next (void_added e.did (voids_in log))

-- How many of the newest voids are inconclusive (9) in a row.
unfoldable pub nines_in : List ℕ → ℕ
nines_in [] = 0
nines_in (n ∷ l) = pick (eqb n 9) (suc (nines_in l)) 0

-- A verdict with this word comes next.
abbrev pub EndsWith : Word → Next → Type 0
EndsWith word next = (x : Verdict) × (next ≡ Ends x) × (x.word ≡ word)

-- "mode 2 begins, or fail in mode 2"
abbrev pub ModeOver : Mode → Next → Type 0
ModeOver One next = next ≡ ModeTwo
ModeOver Two next = EndsWith Fail next

-- What follows a void, by the voids of the log with this one: "q = 2: mode 2 begins, or fail in mode 2. Else r = 3: incomplete. Else rest".
pub record VoidFollows (ns : List ℕ) (mode : Mode) (next : Next) : Type 0 where
  pub two : nines_in ns ≡ 2 → ModeOver mode next
  pub three : (nines_in ns ≡ 2 → ⊥) → length ns ≡ 3 → EndsWith Incomplete next
  pub fewer : (nines_in ns ≡ 2 → ⊥) → (length ns ≡ 3 → ⊥) → next ≡ Rests

-- Wherever the newest entry tells a void.
abbrev pub VoidClaim : List Entry → Type 0
VoidClaim [] = Unit {0}
VoidClaim (e ∷ log) = (n : ℕ) → e.did ≡ did.Voided n → VoidFollows (n ∷ voids_in log) (mode_in log) e.next

-- Wherever the newest entry tells "incomplete": at r = 3 with q not 2.
abbrev pub IncompleteClaim : List Entry → Type 0
IncompleteClaim [] = Unit {0}
IncompleteClaim (e ∷ log) =
    EndsWith Incomplete e.next →
    (length (void_added e.did (voids_in log)) ≡ 3) × (nines_in (void_added e.did (voids_in log)) ≡ 2 → ⊥)

-- Wherever the newest entry tells a fail: in mode 2, at q = 2 or at t = 90 with passing below 15 and failing at least 25.
abbrev pub FailClaim : List Entry → Type 0
FailClaim [] = Unit {0}
FailClaim (e ∷ log) =
    (x : Verdict) →
    e.next ≡ Ends x →
    x.word ≡ Fail →
    (mode_in log ≡ Two) ×
    ((nines_in (void_added e.did (voids_in log)) ≡ 2) ⊎ ((x.t ≡ 90) × (x.passing < 15) × (25 ≤ x.failing)))

-- "or with a verdict given in measuring"; in one that is given before measuring t is 0.
abbrev pub VerdictAccounted : Verdict → Type 0
VerdictAccounted x = Accounted x.t x.passing x.failing x.invalid

-- Wherever the newest entry tells a verdict.
abbrev pub AccountedClaim : List Entry → Type 0
AccountedClaim [] = Unit {0}
AccountedClaim (e ∷ log) = (x : Verdict) → e.next ≡ Ends x → VerdictAccounted x

-- In measuring, the last ten seconds are the last ten measured ones, or all where there are fewer.
pub record LastTen (v : Vehicle) (log : List Entry) (last : List Measured) : Type 0 where
  pub measures : Measures (run_in log) log
  pub same : take (length (window_of v (mode_in log) (run_in log))) last ≡ window_of v (mode_in log) (run_in log)
