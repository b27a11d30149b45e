-- `setting_fit` by cases on the place. Assumes nothing.
use mathlib.Core.Path.{◌≡◌, refl, sym}
use mathlib.Core.Bool.{true, false, ◌&&◌}
use mathlib.Core.List.{List, [], ◌∷◌}
use Prim.Native.Nat.{ℕ, zero, suc, ◌≤◌, ◌<◌}
use native.Mathlib.Nat.{not-suc-le-zero, le_of_suc-le-suc}
use native.Mathlib.Omega.{arith}
use lib.Dec.{leb, eqb}
use lib.ListN.{length, get_or, get_or-eq_default}
use borrow.Author.Tests.{ne_eqb, le-leb, lt-leb}
use Rattle.refusal.specs.Choice.{pick}
use Rattle.vehicle.specs.Settings.{range, ranges, range_at, within, setting_fit}

-- No value is within 1 to 0.
nothing_within : (x : ℕ) → within (range 1 0) x ≡ false
nothing_within zero = refl
nothing_within (suc x) = rw (le-leb 1 (suc x) (omega arith), lt-leb (suc x) 0 (omega arith))

-- Below a table's length the value past its end does not matter.
pub any_default : {A : Type 0} (l : List A) (i : ℕ) (d e : A) → i < length l → get_or l i d ≡ get_or l i e
any_default [] i d e h = absurd (not-suc-le-zero h)
any_default (x ∷ l) zero d e h = refl
any_default (x ∷ l) (suc i) d e h = any_default l i d e (le_of_suc-le-suc h)

module _ (place kind value : ℕ) where
  -- Past the seven there is no setting.
  pub none_fit : 8 ≤ place → false ≡ setting_fit place kind value
  unfolding setting_fit range_at ranges pick
  none_fit h =
      rw (ne_eqb place 3 (λ e. omega arith), get_or-eq_default ranges (range 1 0) h)
      (sym (nothing_within value))

  -- A moped's displacement.
  pub moped_fit : eqb place 3 && eqb kind 2 ≡ true → leb 1 value && leb value 50 ≡ setting_fit place kind value
  unfolding setting_fit range_at pick
  moped_fit h = rw h

  -- Any other setting.
  pub table_fit :
      place < 8 →
      eqb place 3 && eqb kind 2 ≡ false →
      within (get_or ranges place (range 0 0)) value ≡ setting_fit place kind value
  unfolding setting_fit range_at pick ranges
  table_fit l h = rw (h, any_default ranges place (range 0 0) (range 1 0) l)
