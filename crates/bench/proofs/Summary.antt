-- The bench's state as a function of the plain history. Assumes nothing.
use Prim.Native.Nat.{ℕ}
use Rattle.std.specs.Prelude.{Some, None, Option}
use Rattle.loaded_test.specs.declared.Test.{Test}
use Rattle.loaded_test.specs.State.{none_running}
use Rattle.locks.proofs.Kept.{locks_of}
use Rattle.bench.specs.declared.Bench.{Bench}
use Rattle.bench.specs.declared.Handled.{Handled}
use Rattle.bench.specs.History.{History}
use Rattle.bench.specs.Telling.{Told}

unfoldable pub test_or : Option Test → Test
test_or None = none_running
test_or (Some t) = t

abbrev pub summary : ℕ → ℕ → History → Bench
summary validity limit h = record {
  desk = record { validity = validity; limit = limit; clock = h.last; locks = locks_of h.events };
  test = test_or h.test;
}

abbrev pub summarised : ℕ → ℕ → Told → Handled
summarised validity limit x = record { answer = x.answer; bench = summary validity limit x.history }
