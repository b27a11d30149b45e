-- What a journal holds, and its bytes: one content, one set of bytes.
use Rattle.std.specs.Prelude.{ℕ, ◌<◌, ◌^◌, List, ◌∷◌, ◌++◌, length}
use Rattle.std.specs.List.{flat_map, AllByRecursion}
use Rattle.journal_entry.specs.declared.Entry.{Entry}
use Rattle.journal_entry.specs.Spelling.{short, long, entry_bytes}
use Rattle.journal_entry.specs.Spelling as entry
use Rattle.journaling.specs.declared.Content.{Content as Slices}
use Rattle.journaling.specs.declared.Shape.{Shape}

-- V, U and the events.
pub record Content : Type 0 where
  pub validity : ℕ
  pub limit : ℕ
  pub entries : List Entry

-- The content that a caller's slice holds.
abbrev pub content_in : Slices → Content
content_in x = record { validity = x.validity; limit = x.limit; entries = x.entries.now }

-- V, U and how many events there are.
abbrev pub shape_of : Content → Shape
shape_of x = record { validity = x.validity; limit = x.limit; count = length x.entries }

-- "V and U after a 1-byte count of 2, then the events after a 4-byte count".
abbrev pub heading_bytes : Content → List ℕ
heading_bytes x = 2 ∷ (long x.validity ++ (short x.limit ++ long (length x.entries)))

-- The bytes of a content.
unfoldable pub journal_bytes : Content → List ℕ
journal_bytes x = heading_bytes x ++ flat_map entry_bytes x.entries

-- Numbers that a caller's content can hold.
pub record Held (x : Content) : Type 0 where
  pub validity : x.validity < 2 ^ 32
  pub limit : x.limit < 2 ^ 16
  pub entries : AllByRecursion entry.Held x.entries
