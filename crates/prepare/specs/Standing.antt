-- A prepare (document 02, A.5): the signed number of its residue, when it stands, and which background value is above its channel's greatest.
use Rattle.std.specs.Prelude.{ℕ, Bool, ◌&&◌, ltb, if◌then◌else◌, ℤ, pos, Some, None, Option}
use Rattle.std.proofs.Math.IntN.{sub_ℕ}
use Rattle.std.specs.Int.Signed.{le_z}
use Rattle.refusal.specs.Choice.{pick}
use Rattle.reading.specs.declared.Channel.{Channel}
use Rattle.reading.specs.declared.Channel.TheVariants.{Hc, Co, No}
use Rattle.reading.specs.Channel.{code_of, greatest_value}
use Rattle.prepare.specs.declared.Residue.{Residue}
use Rattle.prepare.specs.declared.ZeroCheck.{ZeroCheck}

-- "the HC residue, a signed number (2 bytes ..)": two's complement, the bits themselves below 32,768, else 65,536 less.
unfoldable pub signed_of : Residue → ℤ
signed_of r = pick (ltb r.0 32768) (pos r.0) (sub_ℕ r.0 65536)

-- "the residue is 0 to 7"
abbrev pub residue_fit : Residue → Bool
residue_fit r = le_z (pos 0) (signed_of r) && le_z (signed_of r) (pos 7)

-- "It stands if HC < 15, CO < 2, NO < 25 and the residue is 0 to 7."
unfoldable pub prepare_stands : ZeroCheck → Bool
prepare_stands p = (ltb p.hc 15 && ltb p.co 2) && (ltb p.no 25 && residue_fit p.residue)

-- "a background value above its channel's greatest"
abbrev pub above : Channel → ℕ → Bool
above channel value = ltb (greatest_value (code_of channel)) value

-- "the lowest such code": HC is 4, CO 5, NO 6.
abbrev pub above_greatest : ZeroCheck → Option Channel
above_greatest p =
    if above Hc p.hc
    then Some Hc
    else (if above Co p.co then Some Co else (if above No p.no then Some No else None))
