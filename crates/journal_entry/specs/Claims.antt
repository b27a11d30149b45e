-- What is claimed of entries, for every list of bytes and every entry. Their proofs are in proofs/.
use Rattle.std.specs.Prelude.{ℕ, ◌≤◌, ◌<◌, ◌≡◌, List, ◌++◌, length, get_or, Ok}
use Rattle.journal_entry.specs.declared.Entry.{Entry}
use Rattle.journal_entry.specs.Spelling.{entry_bytes, Held}
use Rattle.journal_entry.specs.Reading.{entry_of}

-- A list of bytes, numbers below 256.
abbrev pub IsBytes : List ℕ → Type 0
IsBytes bytes = (i : ℕ) → get_or bytes i 0 < 256

-- What is read of an entry, for every list of bytes and every entry.
pub record EntryClaims : Type 0 where
  -- what is read is spelt so
  pub spelt_so :
      (bytes rest : List ℕ) (e : Entry) → IsBytes bytes → entry_of bytes ≡ Ok (e, rest) → bytes ≡ entry_bytes e ++ rest
  -- its numbers are those that an entry's fields can hold
  pub held : (bytes rest : List ℕ) (e : Entry) → IsBytes bytes → entry_of bytes ≡ Ok (e, rest) → Held e
  -- what is spelt is read again, whatever follows it
  pub read_again : (e : Entry) (rest : List ℕ) → Held e → entry_of (entry_bytes e ++ rest) ≡ Ok (e, rest)
  -- the longest is a second's
  pub longest : (e : Entry) → length (entry_bytes e) ≤ 37
