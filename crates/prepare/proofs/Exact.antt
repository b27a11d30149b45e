-- The signed number of a residue, and what a prepare's tests say in plain numbers. Assumes nothing.
use Prim.Native.Nat.{ℕ, ◌-◌, suc, ◌≤◌, ◌<◌}
use native.Mathlib.Omega.{arith}
use Rattle.std.proofs.Common.{rules}
use mathlib.Core.Bool.{Bool, true, false, ◌&&◌, false≢true}
use mathlib.Core.Path.{◌≡◌, refl, ap, sym, ◌∙◌}
use mathlib.Core.Logic.{◌↔◌}
use lib.Dec.{T, leb, ltb}
use lib.IntN.{ℤ, pos, negsuc, sub_ℕ, ◌+ℤ◌}
use lib.Signed.{le_z, ◌≤ℤ◌}
use borrow.Author.Tests.{ltb-true, ltb-false, lt-ltb, le-ltb, leb-true, le-leb, lt-leb}
use Rattle.refusal.specs.Choice.{pick}
use Rattle.refusal.proofs.Exactly.{ltb_exactly, and_exactly}
use Rattle.prepare.specs.declared.Residue.{Residue}
use Rattle.prepare.specs.declared.ZeroCheck.{ZeroCheck}
use Rattle.prepare.specs.Standing.{signed_of, residue_fit, prepare_stands}
use Rattle.prepare.specs.Claims.{TwosComplement, ZeroToSeven, BitsToo, Stands, PrepareClaims, BackgroundClaims}

-- A test of order is true exactly where the order holds.
le_exactly : (a b : ℤ) → (le_z a b ≡ true) ↔ (a ≤ℤ b)
le_exactly a b = ((λ h. record { le = passed (le_z a b) h }), (λ h. told (le_z a b) h.le))
  where
    passed : (x : Bool) → x ≡ true → T x
    passed true h = tt
    passed false h = absurd (false≢true h)

    told : (x : Bool) → T x → x ≡ true
    told true t = refl
    told false t = absurd t

-- The bits below 32,768.
signed_low : (r : Residue) → r.0 < 32768 → signed_of r ≡ pos r.0
unfolding signed_of pick
signed_low r h = rw (lt-ltb r.0 32768 h)

-- The others of 16 bits.
signed_high : (r : Residue) → 32768 ≤ r.0 → r.0 < 65536 → signed_of r ≡ negsuc (65536 - suc r.0)
unfolding signed_of pick
signed_high r h k = rw (le-ltb r.0 32768 h, lt-ltb r.0 65536 k)

signed : (r : Residue) → TwosComplement r
signed r = record { low = signed_low r; high = λ h k. ap (λ z. z +ℤ pos 65536) (signed_high r h k) ∙ sum r.0 h k }
  where
    sum : (n : ℕ) → 32768 ≤ n → n < 65536 → sub_ℕ 65536 (suc (65536 - suc n)) ≡ pos n
    sum n h k = rw (le-ltb 65536 (suc (65536 - suc n)) (omega arith)) (ap pos (omega arith))

-- A residue's test, told by its bits.
pub residue_bits : (r : Residue) → r.0 < 65536 → residue_fit r ≡ leb r.0 7
residue_bits r k = go (ltb r.0 32768) refl
  where
    go : (b : Bool) → ltb r.0 32768 ≡ b → residue_fit r ≡ leb r.0 7
    go true e = rw (signed_low r (ltb-true _ _ e), le-leb 0 r.0 (omega arith))
    go false e =
        let h : 32768 ≤ r.0 = ltb-false _ _ e in
        rw (signed_high r h k) (sym (lt-leb r.0 7 (omega arith)))

residue_exactly : (r : Residue) → (residue_fit r ≡ true) ↔ ZeroToSeven r
residue_exactly r = and_exactly _ _ (le_exactly (pos 0) (signed_of r)) (le_exactly (signed_of r) (pos 7))

bits_too : BitsToo
bits_too r k = (
  (λ z. leb-true _ _ (sym (residue_bits r k) ∙ (residue_exactly r).1 z)),
  (λ h. (residue_exactly r).0 (residue_bits r k ∙ le-leb _ _ h)),
)

stands_exactly : (p : ZeroCheck) → (prepare_stands p ≡ true) ↔ Stands p
unfolding prepare_stands
stands_exactly p = (
  (λ h. let x = exactly.0 h in record { hc = x.0.0; co = x.0.1; no = x.1.0; residue = x.1.1 }),
  (λ s. exactly.1 ((s.hc, s.co), (s.no, s.residue))),
)
  where
    exactly :
        ((ltb p.hc 15 && ltb p.co 2) && (ltb p.no 25 && residue_fit p.residue) ≡ true) ↔
        (((p.hc < 15) × (p.co < 2)) × ((p.no < 25) × ZeroToSeven p.residue))
    exactly =
        and_exactly _ _
        (and_exactly _ _ (ltb_exactly _ _) (ltb_exactly _ _))
        (and_exactly _ _ (ltb_exactly _ _) (residue_exactly p.residue))

pub prepare_claims : PrepareClaims
prepare_claims = record { stands = stands_exactly; signed = signed; bits = bits_too }

pub background_claims : BackgroundClaims
background_claims p = record { hc = search rules; co = search rules; no = search rules; none = search rules }
