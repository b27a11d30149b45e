-- What is printed of a record (document 02, A.11, for laboratories): the averages of its last valid window, "- - -" without one, or the refusal of
-- rejudging. What is claimed of it for every list of bytes; proofs are in proofs/.
use Rattle.std.specs.Prelude.{ℕ, ℤ, suc, ◌*◌, ◌/◌, ◌%◌, ◌^◌, ◌≤◌, ◌<◌, ◌≡◌, false, List, ◌++◌, [], map, length, take, Ok, Err, Result, Some, Float, codes}
use Rattle.std.specs.Float.{fin}
use Rattle.std.specs.Float.Ieee.{up, down}
use Rattle.refusal.specs.declared.Refusal.{Refusal}
use Rattle.refusal.specs.Table.{refusal_text}
use Rattle.nearness.specs.Ratio.{Ratio, Approximates}
use Rattle.record.specs.Reading.{read_record}
use Rattle.record.specs.declared.Shape.{Shape}
use Rattle.vehicle.specs.Checked.{checked_of}
use Rattle.vehicle.specs.declared.Vehicle.{Vehicle}
use Rattle.loaded_test.specs.Log.{log_of}
use Rattle.loaded_test.specs.Sheet.{last_valid_in}
use Rattle.loaded_test.specs.declared.Test.{Test}
use Rattle.rejudging.specs.Inputs.{record_inputs}
use Rattle.rejudging.specs.Laws.{AllDigits, read_after}
use Rattle.rejudging.specs.Rejudging.{settings_of, saturation_of, tested_of}
use Rattle.averaging.specs.Exact.{ExactAverages, exact_averages}
use Rattle.averaging.specs.Premise.{counts_of_second, conditions_in}
use Rattle.averaging.specs.Answers.{Answered, exact_of_test}
use Rattle.averaging.specs.Decimals.{billionths, decimal_text, number_text}
use Rattle.averaging.specs.declared.FloatAverages.{FloatAverages}

-- Three numbers, with single spaces between.
abbrev pub three_texts : List ℕ → List ℕ → List ℕ → List ℕ
three_texts a b c = a ++ (codes " " ++ (b ++ (codes " " ++ (c ++ codes "\n"))))

-- HC, CO and NO.
abbrev pub averages_line : FloatAverages → List ℕ
averages_line x = three_texts (number_text (billionths x.hc)) (number_text (billionths x.co)) (number_text (billionths x.no))

-- The line of a record's test: of floats that `averages_of_test` may answer. Else its refusal, number and place.
abbrev pub Printed : Result Test Refusal → List ℕ → Type 0
Printed (Ok x) text = (a : FloatAverages) × Answered (exact_of_test x) a × (text ≡ averages_line a)
Printed (Err r) text = text ≡ refusal_text r ++ codes "\n"

-- So many billionths in decimal: digits that read as the whole units, the point, and exactly nine digits that read as the rest.
pub record InDecimal (n : ℕ) (text : List ℕ) : Type 0 where
  pub front : List ℕ
  pub back : List ℕ
  pub same : text ≡ front ++ (codes "." ++ back)
  pub front_digits : AllDigits front
  pub back_digits : AllDigits back
  pub nine : length back ≡ 9
  pub units : read_after 0 front ≡ n / 10 ^ 9
  pub rest : read_after 0 back ≡ n % 10 ^ 9

-- n is the number of whole billionths in a float that lies near v.
abbrev pub CutNear : ℕ → Ratio → Type 0
CutNear n v = (x : Float) × Approximates x v × (billionths x ≡ Some n)

-- Three numbers in decimal, each cut from a float near its exact average.
pub record Numbers (e : ExactAverages) (text : List ℕ) : Type 0 where
  pub hc : ℕ
  pub co : ℕ
  pub nitric : ℕ
  pub hc_cut : CutNear hc e.hc
  pub co_cut : CutNear co e.co
  pub nitric_cut : CutNear nitric e.no
  pub same : text ≡ three_texts (decimal_text hc) (decimal_text co) (decimal_text nitric)

-- What is printed of a record that is not refused, by the log of its rows and stops: the averages of the ten seconds of the last valid window
-- near their exact ones, or "- - -" without one.
pub record OfRecord (s : List ℕ) (shape : Shape) (text : List ℕ) : Type 0 where
  pub vehicle : Vehicle
  pub checked : checked_of (settings_of s shape) (saturation_of s shape) ≡ Ok vehicle
  pub window :
      (last_valid_in vehicle (log_of vehicle (record_inputs s shape)) ≡ [] → ⊥) →
      Numbers
      (exact_averages (conditions_in (settings_of s shape) (saturation_of s shape))
      (map counts_of_second (last_valid_in vehicle (log_of vehicle (record_inputs s shape)))))
      text
  pub none : last_valid_in vehicle (log_of vehicle (record_inputs s shape)) ≡ [] → text ≡ codes "- - -\n"

-- What the contract of `print_record` carries beside its text.
pub record PrintClaims : Type 0 where
  -- "three numbers of the last valid window", or "- - -"
  pub record_shown :
      (s : List ℕ) (shape : Shape) (x : Test) (text : List ℕ) →
      read_record s ≡ Ok shape →
      tested_of s ≡ Ok x →
      Printed (Ok x) text →
      OfRecord s shape text
  -- "cut and not rounded": n billionths are at most the float's value, and n + 1 are more
  pub cut :
      (m n : ℕ) (e : ℤ) →
      billionths (fin false m e) ≡ Some n →
      (n * down e ≤ m * up e * 10 ^ 9) × (m * up e * 10 ^ 9 < suc n * down e)
  -- "exactly 9 digits behind the point"
  pub decimals : (n : ℕ) → n < 2 ^ 64 → InDecimal n (decimal_text n)
  -- for every k above 60,965 the first k bytes decide what is printed
  pub first_bytes : (s : List ℕ) (k : ℕ) (text : List ℕ) → 60965 < k → Printed (tested_of (take k s)) text → Printed (tested_of s) text
