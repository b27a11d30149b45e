-- What is claimed of the lines, for every list of bytes. Their proofs are in proofs/.
use Rattle.std.specs.Prelude.{ℕ, ◌<◌, ◌≡◌, List, take}
use Rattle.bench.specs.Demand.{bench_answers}
use Rattle.bench.specs.History.{fresh_history}
use Rattle.bench.specs.Stepping.{fresh_bench}
use Rattle.bench.specs.Telling.{history_answers}
use Rattle.journaling.specs.Content.{Content}
use Rattle.journaling.specs.Claims.{IsRead}
use Rattle.replaying.specs.Starts.{events_of, lines, text_of}

-- "What it prints must agree with a live bench fed the same events, for every fit journal."
pub record ReplayClaims : Type 0 where
  -- the lines are those of a fresh bench of its V and U that is given its events in turn
  pub live :
      (s : List ℕ) (x : Content) →
      IsRead s x →
      text_of s ≡ lines (events_of x.entries) (bench_answers (fresh_bench x.validity x.limit) (events_of x.entries))
  -- and so those of the plain history
  pub plain :
      (s : List ℕ) (x : Content) →
      IsRead s x →
      text_of s ≡ lines (events_of x.entries) (history_answers x.validity x.limit fresh_history (events_of x.entries))
  -- and for every n above 62,911 the first n bytes decide them
  pub first_bytes : (s : List ℕ) (n : ℕ) → 62911 < n → text_of (take n s) ≡ text_of s
