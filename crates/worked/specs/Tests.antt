-- Runs of one test to its verdict.
use Rattle.refusal.specs.declared.Refusal.TheVariants.{NoTest, StartLocked}
use Rattle.std.specs.Prelude.{List, [], ◌∷◌}
use Rattle.reading.specs.declared.Reading.TheVariants.{Over}
use Rattle.loaded_test.specs.declared.Word.TheVariants.{Pass, Fail}
use Rattle.locks.specs.declared.Event.TheVariants.{PowerOn}
use Rattle.worked.specs.Events.{times, ready, start, manual_start, clean, foul, at_one, at_two, turning_one, turning_two, over_in_two, at_rest}
use Rattle.worked.specs.Answers.{Exchange, accepts, refuses, judges, accepted}

-- A start that is admitted, in front of a run.
abbrev pub started : List Exchange → List Exchange
started run = accepted (ready 0) (accepts (start 0) ∷ run)

-- Ten seconds at rest, in front of a run.
abbrev pub resting : List Exchange → List Exchange
resting run = times 10 (accepts at_rest) run

-- An admitted start to a pass: 11 seconds of settling, 25 measured.
abbrev pub passing : List Exchange
passing = started (times 35 (accepts (at_one clean)) (judges (at_one clean) Pass 25 16 0 0 ∷ []))

-- A void, a rest, a pass.
abbrev pub after_void : List Exchange
after_void =
    started
    (times 5 (accepts (at_one clean))
    (accepts (at_one Over)
    ∷ resting (times 35 (accepts (at_one clean)) (judges (at_one clean) Pass 25 16 0 0 ∷ []))))

-- Three seconds out in a row begin t anew; the windows of before them are forgotten, of which two were invalid.
abbrev pub restarted : List Exchange
restarted =
    started
    (times 31 (accepts (at_one clean))
    (times 3 (accepts (at_two clean))
    (times 24 (accepts (at_one clean)) (judges (at_one clean) Pass 25 16 0 0 ∷ []))))

-- Mode 1 fails at t = 90, mode 2 passes.
abbrev pub passing_in_two : List Exchange
passing_in_two =
    started
    (times 101 (accepts (at_one foul)) (times 29 (accepts (at_two clean)) (judges (at_two clean) Pass 25 16 0 0 ∷ [])))

-- Mode 1 fails at t = 90, and so does mode 2: a fail by windows.
abbrev pub failing_in_two : List Exchange
failing_in_two =
    started
    (times 101 (accepts (at_one foul)) (times 94 (accepts (at_two foul)) (judges (at_two foul) Fail 90 0 81 0 ∷ [])))

-- Mode 1 with engine speed good while settling and not while measuring, up to t = 89: no window is valid.
abbrev pub turned_one : List Exchange → List Exchange
turned_one run = times 11 (accepts (turning_one 4000)) (times 89 (accepts (turning_one 2000)) run)

-- The same in mode 2.
abbrev pub turned_two : List Exchange → List Exchange
turned_two run = times 5 (accepts (turning_two 4000)) (times 89 (accepts (turning_two 2000)) run)

-- Void 9 at t = 90, twice in mode 1: mode 2 begins. There void 6, and void 9 twice: q = 2 with r = 3 is a fail, not incomplete.
abbrev pub twice_inconclusive : List Exchange
twice_inconclusive =
    accepted (ready 0)
    (accepts (manual_start 0)
    ∷ turned_one
    (accepts (turning_one 2000)
    ∷ resting
    (turned_one
    (accepts (turning_one 2000)
    ∷ accepts over_in_two
    ∷ resting
    (turned_two
    (accepts (turning_two 2000) ∷ resting (turned_two (judges (turning_two 2000) Fail 90 0 0 81 ∷ []))))))))

-- Power-on ends a test with no verdict.
abbrev pub powered_on : List Exchange
powered_on =
    started
    (accepts (at_one clean) ∷ accepts (PowerOn 2) ∷ refuses at_rest NoTest ∷ refuses (start 2) (StartLocked 1) ∷ [])
