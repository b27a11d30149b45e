-- What the programs that run vectors take from the bytes of their input; a byte past the input's end is 0.
use Rattle.std.specs.Prelude.{ℕ, zero, suc, ◌+◌, ◌*◌, ◌≤◌, List, [], ◌∷◌, get_or, take, drop, Option, Some, IfSome, Result, IfOk, ◌≡◌}
use Rattle.vehicle.specs.declared.Settings.{Settings}
use Rattle.reading.specs.declared.Reading.{Reading}
use Rattle.reading.specs.Kind.{reading_of, Readings}

-- The first byte: 0 where there is none.
abbrev pub byte_of : List ℕ → ℕ
byte_of xs = get_or xs 0 0

-- The first n bytes.
unfoldable pub bytes_of : ℕ → List ℕ → List ℕ
bytes_of zero xs = []
bytes_of (suc n) xs = byte_of xs ∷ bytes_of n (drop 1 xs)

-- A number of two bytes, the low one first.
unfoldable pub short_of : List ℕ → ℕ
short_of xs = byte_of xs + 256 * byte_of (drop 1 xs)

-- A number of four bytes: two numbers of two bytes, the low one first.
unfoldable pub long_of : List ℕ → ℕ
long_of xs = short_of xs + 65536 * short_of (drop 2 xs)

-- The seven settings in document 01's order, two bytes each.
unfoldable pub settings_of : List ℕ → Settings
settings_of xs =
    record {
      kind = short_of xs;
      year = short_of (drop 2 xs);
      displacement = short_of (drop 4 xs);
      gearbox = short_of (drop 6 xs);
      humidity = short_of (drop 8 xs);
      temperature = short_of (drop 10 xs);
      pressure = short_of (drop 12 xs);
    }

-- The reading of a number of four bytes.
unfoldable pub reading_in : List ℕ → Reading
reading_in xs = reading_of (long_of xs)

-- The readings of codes 1 to 8 in the order of their codes, four bytes each.
unfoldable pub readings_of : List ℕ → Readings
readings_of xs =
    record {
      speed = reading_in xs;
      load = reading_in (drop 4 xs);
      engine = reading_in (drop 8 xs);
      hc = reading_in (drop 12 xs);
      co = reading_in (drop 16 xs);
      no = reading_in (drop 20 xs);
      co2 = reading_in (drop 24 xs);
      o2 = reading_in (drop 28 xs);
    }

-- Where the input's bytes are known, an answer is `of` them, and the input has lost its first n bytes, or all where there are fewer.
abbrev pub Takes : {A E : Type 0} → ℕ → (List ℕ → A) → Option (List ℕ) → Result A E → Option (List ℕ) → Type 0
Takes n of old result new = IfOk result (λ v. IfSome old (λ xs. (v ≡ of xs) × (new ≡ Some (drop n xs))))

-- A buffer of n bytes is filled: where the input's bytes are known, it holds the next n, and the input has lost them.
abbrev pub TakesInto : {A E : Type 0} → ℕ → Option (List ℕ) → Result A E → List ℕ → Option (List ℕ) → Type 0
TakesInto n old result into new = IfOk result (λ _. IfSome old (λ xs. (into ≡ bytes_of n xs) × (new ≡ Some (drop n xs))))

-- A buffer of so much room is filled from its front: where the input's bytes are known, with all of them, or with as many as there is room for,
-- and the others are left.
abbrev pub Fills : {E : Type 0} → ℕ → Option (List ℕ) → Result ℕ E → List ℕ → Option (List ℕ) → Type 0
Fills room old result into new =
    IfOk result (λ n. (n ≤ room) × IfSome old (λ xs. (take n into ≡ take room xs) × (new ≡ Some (drop room xs))))
