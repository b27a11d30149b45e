-- The plain history: "holds the accepted ones with their verdicts, the last clock and a test or none (at first 0 and none)".
use Rattle.std.specs.Prelude.{ℕ, List, [], Result, None, Option}
use Rattle.refusal.specs.declared.Refusal.{Refusal}
use Rattle.loaded_test.specs.declared.Verdict.{Verdict}
use Rattle.loaded_test.specs.declared.Test.{Test}
use Rattle.locks.specs.Accepted.{Accepted}

-- An event's answer: "An accepted one answers so, with its verdict if it brings one", "A refused one answers its number and place".
abbrev pub Answer : Type 0
Answer = Result (Option Verdict) Refusal

-- The accepted events newest first: "Latest is last added."
pub record History : Type 0 where
  pub events : List Accepted
  pub last : ℕ
  pub test : Option Test

-- "at first 0 and none"
abbrev pub fresh_history : History
fresh_history = record { events = []; last = 0; test = None }
