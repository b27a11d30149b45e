-- Emission limits by kind and registration year (document 01, "Limits and loads"; 004, tables 1 and 2).
use Rattle.std.specs.Prelude.{ℕ, Bool, ltb, eqb}
use Rattle.refusal.specs.Choice.{pick}
use Rattle.vehicle.specs.declared.Gases.{Gases}

-- Limits, as the source's alias of this name.
abbrev pub Limits : Type 0
Limits = Gases ℕ

-- "Limits CO, HC, NO in units"
abbrev pub limits : ℕ → ℕ → ℕ → Limits
limits c h n = record { co = c; hc = h; no = n }

-- kind "2 moped"
abbrev pub moped : ℕ → Bool
moped kind = eqb kind 2

-- "Motorcycle registered before 2001: 1100, 750, 340; from 2001: 950, 600, 1300. Moped: 1400, 3000, 450; 750, 570, 1000."
unfoldable pub limits_for : ℕ → ℕ → Limits
limits_for kind year =
    pick (moped kind)
    (pick (ltb year 2001) (limits 1400 3000 450) (limits 750 570 1000))
    (pick (ltb year 2001) (limits 1100 750 340) (limits 950 600 1300))
