-- The printed decimals (document 02, A.11): the digits of a float's exact value, "exactly 9 digits behind the point", cut and not rounded.
use Rattle.std.specs.Prelude.{ℕ, zero, suc, ◌*◌, ◌/◌, ◌%◌, ◌^◌, true, false, List, [], ◌++◌, ltb, Float, Some, None, Option, codes}
use Rattle.std.specs.Float.{nan, inf, fin}
use Rattle.std.specs.Float.Ieee.{up, down}
use Rattle.std.specs.Fmt.{decimal}
use Rattle.refusal.specs.Choice.{pick}

-- The whole billionths of a number from 0 up to below 2^34. A finite float is m·up/down, negative where its sign is true. Any other has none:
-- -1 where there are no averages, and what no average is.
unfoldable pub billionths : Float → Option ℕ
billionths nan = None
billionths (inf s) = None
billionths (fin true m e) = None
billionths (fin false m e) = pick (ltb (m * up e) (2 ^ 34 * down e)) (Some (m * up e * 10 ^ 9 / down e)) None

-- The last k digits of a number, zeros in front included.
unfoldable pub places : ℕ → ℕ → List ℕ
places zero n = []
places (suc k) n = places k (n / 10) ++ decimal (n % 10)

-- So many billionths in decimal: whole units, the point, and the rest in nine digits.
unfoldable pub decimal_text : ℕ → List ℕ
decimal_text n = decimal (n / 10 ^ 9) ++ (codes "." ++ places 9 (n % 10 ^ 9))

-- A number, or "-" where it has no billionths.
abbrev pub number_text : Option ℕ → List ℕ
number_text (Some n) = decimal_text n
number_text None = codes "-"
