-- The seven settings of a start or a record and their ranges (document 01, "Test record").
use Rattle.std.specs.Prelude.{ℕ, Bool, ◌&&◌, List, [], ◌∷◌, leb, eqb, get_or}
use Rattle.refusal.specs.Choice.{pick, first_unfit}
use Rattle.refusal.specs.Checking.{Check, need}
use Rattle.refusal.specs.declared.Refusal.TheVariants.{SettingUnfit}
use Rattle.vehicle.specs.declared.Settings.{Settings}

-- A setting's least and greatest value.
pub record Range : Type 0 where
  pub low : ℕ
  pub high : ℕ

abbrev pub range : ℕ → ℕ → Range
range low high = record { low = low; high = high }

-- In a range, both ends included.
abbrev pub within : Range → ℕ → Bool
within g x = leb g.low x && leb x g.high

-- Places 1 to 7: "kind (1 motorcycle, 2 moped), registration year 1900 to 2100, displacement 1 to 2000 (..), gearbox (1 manual,
-- 2 automatic), humidity 0 to 100, temperature 2 to 43 °C, pressure 800 to 1100". At place 0 there is none: nothing is within 1 to 0.
unfoldable pub ranges : List Range
ranges =
    range 1 0
    ∷ range 1 2
    ∷ range 1900 2100
    ∷ range 1 2000
    ∷ range 1 2
    ∷ range 0 100
    ∷ range 2 43
    ∷ range 800 1100
    ∷ []

-- The range at a place, for a vehicle of this kind: displacement "(moped to 50)".
unfoldable pub range_at : ℕ → ℕ → Range
range_at place kind = pick (eqb place 3 && eqb kind 2) (range 1 50) (get_or ranges place (range 1 0))

-- Whether a value is fit for the setting at a place, 1 to 7; at any other place none is.
unfoldable pub setting_fit : ℕ → ℕ → ℕ → Bool
setting_fit place kind value = within (range_at place kind) value

-- The seven in their order.
abbrev pub settings_fit : Settings → List Bool
settings_fit s =
    setting_fit 1 s.kind s.kind
    ∷ setting_fit 2 s.kind s.year
    ∷ setting_fit 3 s.kind s.displacement
    ∷ setting_fit 4 s.kind s.gearbox
    ∷ setting_fit 5 s.kind s.humidity
    ∷ setting_fit 6 s.kind s.temperature
    ∷ setting_fit 7 s.kind s.pressure
    ∷ []

-- The place, 1 to 7, of the first unfit setting; 0 where all are fit.
unfoldable pub unfit_place : Settings → ℕ
unfit_place s = first_unfit 1 (settings_fit s)

-- "setting out of range | 4 | .. 1 to 7 in a start": the first unfit one.
abbrev pub settings_checked : Settings → Check
settings_checked s = need (eqb (unfit_place s) 0) (SettingUnfit (unfit_place s))

-- "gearbox (1 manual, 2 automatic)"
abbrev pub automatic : Settings → Bool
automatic s = eqb s.gearbox 2
