-- Runs about the windows that are not valid (document 02, A.8), in mode 1 at 25.0 km/h. Measuring begins after 11 seconds.
use Rattle.std.specs.Prelude.{List, [], ◌∷◌}
use Rattle.reading.specs.declared.Reading.TheVariants.{Over}
use Rattle.loaded_test.specs.declared.Word.TheVariants.{Pass, Incomplete}
use Rattle.locks.specs.declared.Event.TheVariants.{Stop}
use Rattle.worked.specs.Events.{clean, at_one, at_two}
use Rattle.worked.specs.Answers.{Exchange, accepts, judges}
use Rattle.worked.specs.Tests.{started, resting}
use Rattle.worked.specs.Dipping.{steady}

-- One second out, at t = 13: of the windows 3 pass, the 10 with that second are invalid, and 12 pass. The 15th passes at t = 34.
abbrev pub out_once : List Exchange
out_once = started (steady 23 (accepts (at_two clean) ∷ steady 20 (judges (at_one clean) Pass 34 15 0 10 ∷ [])))

-- Two voids with their rests, and the third attempt up to t = 9, in front of a run.
abbrev pub third_attempt : List Exchange → List Exchange
third_attempt run = started (accepts (at_one Over) ∷ resting (accepts (at_one Over) ∷ resting (steady 20 run)))

-- A verdict at t = 9: no window was taken.
abbrev pub nine_seconds : List Exchange
nine_seconds = third_attempt (judges (Stop 2 1) Incomplete 9 0 0 0 ∷ [])

-- A verdict at t = 10, with one window, an invalid one: its last second is out.
abbrev pub ten_seconds : List Exchange
ten_seconds = third_attempt (accepts (at_two clean) ∷ judges (Stop 2 1) Incomplete 10 0 0 1 ∷ [])
