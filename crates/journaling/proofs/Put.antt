-- Bytes put one behind the other. Assumes nothing.
use Rattle.std.proofs.Common.{◌≡◌, ℕ, ◌+◌, ◌<◌, ◌≤◌, List, [], ◌++◌, length, get_or, take, drop, sym, ap, ◌∙◌, append_assoc, add-zero, arith}
use Rattle.std.proofs.lemmas.List.{length-append, length-take, length-drop, take_at, drop_at, take-append-drop, drop-drop}
use Rattle.std.proofs.lemmas.List.{take_more, flat_map_more}
use Rattle.std.proofs.lemmas.List.Concat.{flat_map-append}
use Rattle.std.specs.List.{flat_map}
use Rattle.journal_entry.specs.declared.Entry.{Entry}
use Rattle.journal_entry.specs.Spelling.{entry_bytes}
use Rattle.journaling.specs.Writing.{put_at}

pub length_put : (at : ℕ) (piece out : List ℕ) → at + length piece ≤ length out → length (put_at at piece out) ≡ length out
length_put at piece out h =
    omega (arith, length-append (take at out) (piece ++ drop (at + length piece) out), length-append piece (drop (at + length piece) out), length-take at out, length-drop (at + length piece) out)

-- One piece behind another is both.
pub put_then :
    (out a b : List ℕ) (at : ℕ) →
    at + length a + length b ≤ length out →
    put_at (at + length a) b (put_at at a out) ≡ put_at at (a ++ b) out
put_then out a b at h =
    let front : List ℕ = take at out ++ a in
    let rest : List ℕ = drop (at + length a) out in
    let size : length front ≡ at + length a = omega (arith, length-append (take at out) a, length-take at out) in
    let whole : put_at at a out ≡ front ++ rest = sym (append_assoc (take at out) a rest) in
    let before : take (at + length a) (put_at at a out) ≡ front = ap (take (at + length a)) whole ∙ take_at front rest (at + length a) size in
    let behind : drop (at + length a) (put_at at a out) ≡ rest = ap (drop (at + length a)) whole ∙ drop_at front rest (at + length a) size in
    let after : drop (at + length a + length b) (put_at at a out) ≡ drop (at + length (a ++ b)) out =
    sym (drop-drop (length b) (at + length a) (put_at at a out))
    ∙ ap (drop (length b)) behind
    ∙ drop-drop (length b) (at + length a) out
    ∙ ap (λ (n : ℕ). drop n out) (omega (arith, length-append a b))
    in
    rw (before, after) (simp append_assoc)

-- Nothing changes nothing.
pub put_none : (out : List ℕ) (at : ℕ) → put_at at [] out ≡ out
put_none out at = rw add-zero (take-append-drop at out)

module _ (entries : List Entry) (i : ℕ) where
  parts : flat_map entry_bytes entries ≡ flat_map entry_bytes (take i entries) ++ flat_map entry_bytes (drop i entries)
  parts = ap (flat_map entry_bytes) (sym (take-append-drop i entries)) ∙ flat_map-append entry_bytes (take i entries) (drop i entries)

  part_at_most : length (flat_map entry_bytes (take i entries)) ≤ length (flat_map entry_bytes entries)
  part_at_most = omega (arith, ap length parts, length-append (flat_map entry_bytes (take i entries)) (flat_map entry_bytes (drop i entries)))

-- One entry's bytes behind those before it.
module _ (entries : List Entry) (i : ℕ) (d : Entry) (piece : List ℕ) (lt : i < length entries) (is : piece ≡ entry_bytes (get_or entries i d)) where
  bytes_more : flat_map entry_bytes (take (i + 1) entries) ≡ flat_map entry_bytes (take i entries) ++ piece
  bytes_more =
      ap (flat_map entry_bytes) (take_more entries i d lt)
      ∙ sym (flat_map_more entry_bytes [] (take i entries) (get_or entries i d))
      ∙ ap (λ (l : List ℕ). flat_map entry_bytes (take i entries) ++ l) (sym is)

  length_more : length (flat_map entry_bytes (take (i + 1) entries)) ≡ length (flat_map entry_bytes (take i entries)) + length piece
  length_more = ap length bytes_more ∙ length-append (flat_map entry_bytes (take i entries)) piece

  module _ (at next : ℕ) (n : next ≡ at + length (flat_map entry_bytes (take i entries))) where
    pub entry_fits : (space : ℕ) → at + length (flat_map entry_bytes entries) ≤ space → next + length piece ≤ space
    entry_fits space h = omega (arith, n, h, length_more, part_at_most entries (i + 1))

    pub entry_put :
        (o p q : List ℕ) (after : ℕ) →
        at + length (flat_map entry_bytes entries) ≤ length o →
        p ≡ put_at at (flat_map entry_bytes (take i entries)) o →
        q ≡ put_at next piece p →
        after ≡ next + length piece →
        (after ≡ at + length (flat_map entry_bytes (take (i + 1) entries)))
        × (q ≡ put_at at (flat_map entry_bytes (take (i + 1) entries)) o)
    entry_put o p q after h e f g =
        let front : List ℕ = flat_map entry_bytes (take i entries) in
        let both : put_at (at + length front) piece (put_at at front o) ≡ put_at at (front ++ piece) o =
        put_then o front piece at (omega (arith, h, length_more, part_at_most entries (i + 1)))
        in (
          omega (arith, g, n, length_more),
          f
              ∙ ap (λ (l : List ℕ). put_at next piece l) e
              ∙ ap (λ (k : ℕ). put_at k piece (put_at at front o)) n
              ∙ both
              ∙ ap (λ (l : List ℕ). put_at at l o) (sym bytes_more),
        )
