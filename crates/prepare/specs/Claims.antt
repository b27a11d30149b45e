-- What holds of every prepare, in plain propositions over its numbers; the contracts of this crate's functions carry it.
use Rattle.std.specs.Prelude.{◌≤◌, ◌<◌, true, ◌≡◌, ◌↔◌, ℤ, pos, ◌+ℤ◌, ◌≤ℤ◌, Some, None}
use Rattle.reading.specs.declared.Channel.TheVariants.{Hc, Co, No}
use Rattle.reading.specs.Channel.{greatest_value}
use Rattle.prepare.specs.declared.Residue.{Residue}
use Rattle.prepare.specs.declared.ZeroCheck.{ZeroCheck}
use Rattle.prepare.specs.Standing.{signed_of, prepare_stands, above_greatest}

-- The signed number of 16 bits: the bits' own number below 32,768; from there on the number to which 65,536 is added to give it.
pub record TwosComplement (r : Residue) : Type 0 where
  pub low : r.0 < 32768 → signed_of r ≡ pos r.0
  pub high : 32768 ≤ r.0 → r.0 < 65536 → signed_of r +ℤ pos 65536 ≡ pos r.0

-- From the one number to the other, ends included.
abbrev pub BetweenSigned : ℤ → ℤ → ℤ → Type 0
BetweenSigned least greatest z = (least ≤ℤ z) × (z ≤ℤ greatest)

-- The residue is 0 to 7.
abbrev pub ZeroToSeven : Residue → Type 0
ZeroToSeven r = BetweenSigned (pos 0) (pos 7) (signed_of r)

-- It is so exactly where its 16 bits, read as an unsigned number, are at most 7.
abbrev pub BitsToo : Type 0
BitsToo = (r : Residue) → r.0 < 65536 → ZeroToSeven r ↔ (r.0 ≤ 7)

-- "It stands if HC < 15, CO < 2, NO < 25 and the residue is 0 to 7."
pub record Stands (p : ZeroCheck) : Type 0 where
  pub hc : p.hc < 15
  pub co : p.co < 2
  pub no : p.no < 25
  pub residue : ZeroToSeven p.residue

-- Of every prepare and every residue.
pub record PrepareClaims : Type 0 where
  pub stands : (p : ZeroCheck) → (prepare_stands p ≡ true) ↔ Stands p
  pub signed : (r : Residue) → TwosComplement r
  pub bits : BitsToo

-- Background HC is above the greatest of code 4.
abbrev pub HcAbove : ZeroCheck → Type 0
HcAbove p = greatest_value 4 < p.hc

-- HC is not, and CO is above that of code 5.
abbrev pub CoAbove : ZeroCheck → Type 0
CoAbove p = (p.hc ≤ greatest_value 4) × (greatest_value 5 < p.co)

-- HC and CO are not, and NO is above that of code 6.
abbrev pub NoAbove : ZeroCheck → Type 0
NoAbove p = (p.hc ≤ greatest_value 4) × (p.co ≤ greatest_value 5) × (greatest_value 6 < p.no)

-- None is above.
abbrev pub NoneAbove : ZeroCheck → Type 0
NoneAbove p = (p.hc ≤ greatest_value 4) × (p.co ≤ greatest_value 5) × (p.no ≤ greatest_value 6)

-- "place the lowest such code": HC, CO or NO where that background is above its channel's greatest and none before it is; none where none is.
pub record LowestAbove (p : ZeroCheck) : Type 0 where
  pub hc : (above_greatest p ≡ Some Hc) ↔ HcAbove p
  pub co : (above_greatest p ≡ Some Co) ↔ CoAbove p
  pub no : (above_greatest p ≡ Some No) ↔ NoAbove p
  pub none : (above_greatest p ≡ None) ↔ NoneAbove p

-- Of every prepare.
abbrev pub BackgroundClaims : Type 0
BackgroundClaims = (p : ZeroCheck) → LowestAbove p
