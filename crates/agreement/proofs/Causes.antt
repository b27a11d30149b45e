-- The stops of a record that was read have fit causes. Assumes nothing.
use Prim.Native.Nat.{ℕ, zero, suc, ◌+◌, ◌<◌}
use mathlib.Core.Bool.{true}
use mathlib.Core.List.{List, [], ◌∷◌}
use mathlib.Core.Path.{◌≡◌, subst}
use native.Mathlib.Omega.{arith}
use borrow.Author.Tests.{le-leb}
use lib.Dec.{leb}
use Rattle.std.specs.Prelude.{Ok}
use Rattle.refusal.proofs.Picked.{on_pick}
use Rattle.record.specs.Content.{shape_of}
use Rattle.record.specs.Format.{Below}
use Rattle.record.specs.Reading.{read_record, stop_cause_in}
use Rattle.record.specs.RoundTrips.{IsRead}
use Rattle.record.specs.declared.Shape.{Shape}
use Rattle.record.proofs.ReadFit.{read_is_fit_lem}
use Rattle.record.proofs.WasRead.{shape_read, is_read}
use Rattle.loaded_test.specs.Steps.{cause_fit}
use Rattle.rejudging.specs.Items.{items_from, items_of}
use Rattle.rejudging.specs.declared.items.Item.{Item}
use Rattle.rejudging.specs.declared.items.Item.TheVariants as item

-- The causes of the stops among items are fit.
abbrev pub CausesFit : List ℕ → Shape → List Item → Type 0
CausesFit s shape [] = Unit {0}
CausesFit s shape (item.Row row ∷ l) = CausesFit s shape l
CausesFit s shape (item.Stop i ∷ l) = (cause_fit (stop_cause_in s shape i) ≡ true) × CausesFit s shape l

module _ (s : List ℕ) (shape : Shape) (past : ℕ → ℕ) where
  among_items :
      (row rows stop stops : ℕ) →
      ((i : ℕ) → i < stop + stops → cause_fit (stop_cause_in s shape i) ≡ true) →
      CausesFit s shape (items_from past row rows stop stops)
  unfolding items_from
  among_items row zero stop zero h = tt
  among_items row zero stop (suc stops) h =
      (h stop (omega arith), among_items row zero (suc stop) stops (λ i k. h i (omega arith)))
  among_items row (suc rows) stop zero h = among_items (suc row) rows stop zero h
  among_items row (suc rows) stop (suc stops) h =
      on_pick (CausesFit s shape) (leb (past stop) row) _ _
      (λ _. (h stop (omega arith), among_items row (suc rows) (suc stop) stops (λ i k. h i (omega arith))))
      (λ _. among_items (suc row) rows stop (suc stops) h)

read_causes : (s : List ℕ) → Below 256 s → IsRead s → (i : ℕ) → i < 0 + (shape_of s).stops → cause_fit (stop_cause_in s (shape_of s) i) ≡ true
read_causes s b e i h =
    let c = (read_is_fit_lem s b e).cause i (omega arith) in
    rw (le-leb 1 _ c.0, le-leb _ 4 c.1)

pub causes_fit :
    (s : List ℕ) (shape : Shape) → Below 256 s → read_record s ≡ Ok shape → CausesFit s shape (items_of s shape)
causes_fit s shape b e =
    subst (λ (x : Shape). CausesFit s x (items_of s x)) (shape_read s shape e)
    (among_items s (shape_of s) _ 0 (shape_of s).rows 0 (shape_of s).stops (read_causes s b (is_read s shape e)))
