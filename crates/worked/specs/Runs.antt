-- Runs that show that demand 3 is not vacuous: events given to a fresh bench in turn, and what is answered to each. The plain history
-- answers the same.
use Rattle.std.specs.Prelude.{ℕ, ◌≡◌, List}
use Rattle.bench.specs.History.{fresh_history}
use Rattle.bench.specs.Telling.{history_answers}
use Rattle.bench.specs.Stepping.{fresh_bench}
use Rattle.bench.specs.Demand.{bench_answers}
use Rattle.worked.specs.Answers.{Exchange, events_of, answers_of}
use Rattle.worked.specs.Tests as tests
use Rattle.worked.specs.Locking as locking
use Rattle.worked.specs.Coasting as coasting
use Rattle.worked.specs.Preparing as preparing
use Rattle.worked.specs.Refusing as refusing
use Rattle.worked.specs.Voiding.{SevenFirst}
use Rattle.worked.specs.Dipping as dipping
use Rattle.worked.specs.Windows as windows

-- V: a day.
abbrev pub validity : ℕ
validity = 86400

-- U: two verdicts.
abbrev pub limit : ℕ
limit = 2

-- The bench's run and the plain history give a run's answers to its events.
pub record Answered (run : List Exchange) : Type 0 where
  pub bench : bench_answers (fresh_bench validity limit) (events_of run) ≡ answers_of run
  pub history : history_answers validity limit fresh_history (events_of run) ≡ answers_of run

-- The runs, one field each.
pub record Played : Type 0 where
  -- one test to its verdict
  pub passing : Answered tests.passing
  pub after_void : Answered tests.after_void
  pub restarted : Answered tests.restarted
  pub passing_in_two : Answered tests.passing_in_two
  pub failing_in_two : Answered tests.failing_in_two
  pub twice_inconclusive : Answered tests.twice_inconclusive
  pub powered_on : Answered tests.powered_on
  -- the locks
  pub stop_renews_nothing : Answered locking.stop_renews_nothing
  pub session_voided : Answered locking.session_voided
  pub failed_last : Answered locking.failed_last
  pub four_wrong : Answered locking.four_wrong
  pub unlocked_between : Answered locking.unlocked_between
  pub expired_between : Answered locking.expired_between
  pub locked_by_authority : Answered locking.locked_by_authority
  pub unsent : Answered locking.unsent
  -- coast-down runs
  pub coasted_first : Answered coasting.coasted_first
  pub coast_down_voided : Answered coasting.coast_down_voided
  pub failed_run_last : Answered coasting.failed_run_last
  pub run_renews_nothing : Answered coasting.run_renews_nothing
  pub runs_refused : Answered coasting.runs_refused
  -- prepares
  pub used_up : Answered preparing.used_up
  pub used_up_by_power_on : Answered preparing.used_up_by_power_on
  pub refused_start : Answered preparing.refused_start
  pub prepare_voided : Answered preparing.prepare_voided
  pub two_minutes : Answered preparing.two_minutes
  pub failed_prepare_last : Answered preparing.failed_prepare_last
  pub prepares_refused : Answered preparing.prepares_refused
  pub prepare_renews_nothing : Answered preparing.prepare_renews_nothing
  -- the refusal table and the clock
  pub one_of_each : Answered refusing.one_of_each
  pub first_of_several : Answered refusing.first_of_several
  pub clock_kept : Answered refusing.clock_kept
  pub greatest_clocks : Answered refusing.greatest_clocks
  -- which void comes first
  pub voids : SevenFirst
  -- the speed drop
  pub dip_of_nine : Answered dipping.dip_of_nine
  pub dip_of_eight : Answered dipping.dip_of_eight
  pub dip_at_eleven : Answered dipping.dip_at_eleven
  pub dip_at_ten : Answered dipping.dip_at_ten
  pub dip_forgotten : Answered dipping.dip_forgotten
  pub slow_fall : Answered dipping.slow_fall
  pub rise_free : Answered dipping.rise_free
  pub kept_running : dipping.KeptRunning
  -- windows that are not valid
  pub out_once : Answered windows.out_once
  pub nine_seconds : Answered windows.nine_seconds
  pub ten_seconds : Answered windows.ten_seconds
