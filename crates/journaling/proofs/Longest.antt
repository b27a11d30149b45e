-- The longest journal: none is longer, and there is one. Assumes nothing.
use Rattle.std.proofs.Common.{◌≡◌, ℕ, zero, suc, ◌*◌, ◌<◌, List, [], ◌∷◌, ◌++◌, length, replicate, refl, sym, ap, subst, arith}
use Rattle.std.specs.List.{flat_map, AllByRecursion}
use Rattle.std.proofs.lemmas.List.{length-append, length-replicate}
use Rattle.std.proofs.lemmas.List.Concat.{flat_map-cons}
use Rattle.reading.specs.declared.ByChannel.{ByChannel}
use Rattle.journal_entry.specs.declared.Entry.{Entry}
use Rattle.journal_entry.specs.declared.Fields.TheVariants.{Second}
use Rattle.journal_entry.specs.Claims.{IsBytes}
use Rattle.journal_entry.specs.Spelling.{short, long, entry_bytes}
use Rattle.journal_entry.specs.Spelling as entry
use Rattle.journaling.specs.Content.{Content, heading_bytes, journal_bytes}
use Rattle.journaling.specs.Claims.{LongestJournal}
use Rattle.journaling.proofs.EventLaws.{journal_again}
use Rattle.journaling.proofs.Written.{length_journal}
use Rattle.journaling.proofs.Prefix.{most}

-- A second of readings that are 0.
abbrev zeros : ByChannel ℕ
zeros = record { speed = 0; load = 0; engine = 0; hc = 0; co = 0; no = 0; co2 = 0; o2 = 0 }

abbrev zero_second : Entry
zero_second = record { clock = 0; fields = Second zeros }

-- 1,700 of them.
longest : Content
longest = record { validity = 1; limit = 1; entries = replicate 1700 zero_second }

-- Bytes, one by one.
abbrev AreBytes : List ℕ → Type 0
AreBytes = AllByRecursion (λ b. b < 256)

are_bytes : (l : List ℕ) → AreBytes l → IsBytes l
are_bytes [] h i = omega arith
are_bytes (b ∷ l) h zero = h.0
are_bytes (b ∷ l) h (suc i) = are_bytes l h.1 i

append_bytes : (a b : List ℕ) → AreBytes a → AreBytes b → AreBytes (a ++ b)
append_bytes [] b h k = k
append_bytes (x ∷ a) b h k = (h.0, append_bytes a b h.1 k)

long_bytes : (n : ℕ) → AreBytes (long n)
long_bytes n = (omega arith, (omega arith, (omega arith, (omega arith, tt))))

-- n numbers of four bytes that are 0.
abbrev zero_longs : ℕ → List ℕ
zero_longs zero = []
zero_longs (suc n) = long 0 ++ zero_longs n

zero_longs_bytes : (n : ℕ) → AreBytes (zero_longs n)
zero_longs_bytes zero = tt
zero_longs_bytes (suc n) = append_bytes (long 0) (zero_longs n) (long_bytes 0) (zero_longs_bytes n)

-- Its kind, its clock and eight readings.
zeros_bytes : AreBytes (entry_bytes zero_second)
zeros_bytes = (omega arith, zero_longs_bytes 9)

all_zeros : (n : ℕ) → AreBytes (flat_map entry_bytes (replicate n zero_second))
all_zeros zero = tt
all_zeros (suc n) =
    subst AreBytes (sym (flat_map-cons entry_bytes zero_second (replicate n zero_second)))
    (append_bytes (entry_bytes zero_second) (flat_map entry_bytes (replicate n zero_second)) zeros_bytes (all_zeros n))

zero_held : entry.Held zero_second
zero_held =
    record {
      clock = omega arith;
      fields =
          record {
            speed = omega arith;
            load = omega arith;
            engine = omega arith;
            hc = omega arith;
            co = omega arith;
            no = omega arith;
            co2 = omega arith;
            o2 = omega arith;
          };
    }

all_held : (n : ℕ) → AllByRecursion entry.Held (replicate n zero_second)
all_held zero = tt
all_held (suc n) = (zero_held, all_held n)

length_zeros : (n : ℕ) → length (flat_map entry_bytes (replicate n zero_second)) ≡ 37 * n
length_zeros zero = refl
length_zeros (suc n) =
    omega (arith, ap length (flat_map-cons entry_bytes zero_second (replicate n zero_second)), length-append (entry_bytes zero_second) (flat_map entry_bytes (replicate n zero_second)), length_zeros n)

short_bytes : (n : ℕ) → AreBytes (short n)
short_bytes n = (omega arith, (omega arith, tt))

heading_are_bytes : (v u n : ℕ) → AreBytes (2 ∷ (long v ++ (short u ++ long n)))
heading_are_bytes v u n =
    (omega arith, append_bytes (long v) (short u ++ long n) (long_bytes v) (append_bytes (short u) (long n) (short_bytes u) (long_bytes n)))

longest_bytes : AreBytes (journal_bytes longest)
unfolding journal_bytes longest
longest_bytes =
    append_bytes (heading_bytes longest) (flat_map entry_bytes (replicate 1700 zero_second))
    (heading_are_bytes 1 1 (length (replicate 1700 zero_second)))
    (all_zeros 1700)

pub longest_journal : LongestJournal
unfolding longest
longest_journal =
    record {
      most = most;
      reached = (
        journal_bytes longest,
        longest,
        are_bytes (journal_bytes longest) longest_bytes,
        journal_again longest (record { validity = omega arith; limit = omega arith; entries = all_held 1700 }) refl (omega (arith, length-replicate 1700 zero_second)),
        omega (arith, length_journal longest, length_zeros 1700),
      );
    }
