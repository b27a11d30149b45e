-- The claims about every list of events given to a bench that was opened; the contract of `open` carries them.
use Rattle.std.specs.Prelude.{ℕ, ◌≤◌, true, false, ◌≡◌, List, Ok}
use Rattle.loaded_test.specs.Laws.{Bounded as TestBounded}
use Rattle.locks.specs.declared.Event.{Event}
use Rattle.bench.specs.declared.Bench.{Bench}
use Rattle.locks.specs.Locks.{parameters_fit}
use Rattle.bench.specs.Stepping.{fresh_bench, opened_of}
use Rattle.bench.specs.Demand.{bench_after, Demand3}
use Rattle.bench.specs.Laws.{Laws}

-- The greatest counts: no counter of the test is at its cap, wrong tries are held at the four that lock, unsent verdicts are at most U.
pub record Bounded (limit : ℕ) (b : Bench) : Type 0 where
  pub wrong : b.desk.locks.security.wrong ≤ 4
  pub unsent : b.desk.locks.unsent ≤ limit
  -- with its windows: document 02, A.8, while measuring and after a verdict
  pub test : TestBounded b.test.progress

-- What holds of every list of events given to a bench that was opened with this V and U.
pub record Opens (validity limit : ℕ) : Type 0 where
  pub demand : parameters_fit validity limit ≡ true → Demand3 validity limit
  pub laws : parameters_fit validity limit ≡ true → Laws validity limit
  -- a refused opening gives no bench, so none on which a start is ever admitted
  pub shut : parameters_fit validity limit ≡ false → (b : Bench) → opened_of validity limit ≡ Ok b → ⊥
  pub bounded :
      parameters_fit validity limit ≡ true →
      (es : List Event) →
      Bounded limit (bench_after (fresh_bench validity limit) es)
