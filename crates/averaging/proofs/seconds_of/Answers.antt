-- `averaging::seconds_of` meets its contract. Assumes nothing.
use Rattle.std.proofs.Common.{rules}
use Rattle.reading.specs.Kind.{Readings}
use Rattle.reading.specs.Units.{keep, levels_of, second_of}
use Rattle.reading.specs.declared.Reading.TheVariants.{Missing}
use Rattle.vehicle.specs.Settings.{automatic}
use Rattle.averaging.proofs.Mapped.{map_is}
use Rattle.averaging.proofs.seconds_of.Goals as goal

-- Readings that are all missing.
none : Readings
none = record { speed = Missing; load = Missing; engine = Missing; hc = Missing; co = Missing; no = Missing; co2 = Missing; o2 = Missing }

pub returns : goal.returns
unfolding second_of keep levels_of
returns c =
    map_is (λ r. second_of r (automatic c.args.settings)) _ _ c.args.w c.map.result none (λ q x y k. (search rules, search rules)) 10 (search rules) c.map.ensures.items
