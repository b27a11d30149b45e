-- Document 01's example of a line, "Motorcycle, 2005, ..: `pass 1 25 16 0 ..`", as a test's vehicle and seconds.
use Rattle.std.specs.Prelude.{false, List, [], ◌∷◌, None}
use Rattle.reading.specs.declared.Second.{Second}
use Rattle.reading.specs.declared.Level.TheVariants.{Missing}
use Rattle.vehicle.specs.declared.Settings.{Settings}
use Rattle.vehicle.specs.declared.Vehicle.{Vehicle}
use Rattle.vehicle.specs.Checked.{vehicle_of}
use Rattle.loaded_test.specs.declared.Next.{Next}
use Rattle.loaded_test.specs.declared.Next.TheVariants.{GoesOn}
use Rattle.loaded_test.specs.Log.{Entry}

-- "Motorcycle, 2005, 125 ml, automatic, 50 %, 20 °C, 1013"
abbrev pub settings : Settings
settings = record {
  kind = 1;
  year = 2005;
  displacement = 125;
  gearbox = 2;
  humidity = 50;
  temperature = 20;
  pressure = 1013;
}

-- "saturation 2339 + 60(T − 20)", at 20 °C
abbrev pub motorcycle : Vehicle
motorcycle = vehicle_of settings 2339

-- "channels 1 2 4 5 6 7, .. rows of 25.0, 0.85, 100, 1.00, 200, 12.0"
abbrev pub row : Second
row = record {
  speed = 250;
  load = 85;
  engine = None;
  hc = 100;
  co = record { 0 = 100 };
  no = 200;
  co2 = record { 0 = 1200 };
  over = false;
  oxygen = Missing;
}

-- What comes next by the newest entry of a log.
abbrev pub newest : List Entry → Next
newest [] = GoesOn
newest (e ∷ log) = e.next
