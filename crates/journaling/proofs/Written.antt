-- What writing answers and leaves. Assumes nothing.
use Rattle.std.proofs.Common.{◌≡◌, ℕ, ◌+◌, ◌<◌, ◌≤◌, List, length, Ok, Err, refl, sym, ap, ◌∙◌, zero-add, arith}
use Rattle.std.proofs.lemmas.List.{length-append}
use Rattle.std.specs.List.{flat_map}
use Rattle.refusal.specs.declared.Refusal.{Refusal}
use Rattle.refusal.specs.declared.Refusal.TheVariants.{OutputShort}
use Rattle.refusal.specs.Checking.{fine, ◌⨾◌, need}
use Rattle.refusal.proofs.Checks.{fine_second, need_true}
use borrow.Author.Tests.{leb-true, le-leb, lt-leb}
use Rattle.journal_entry.specs.Spelling.{entry_bytes}
use Rattle.journaling.specs.Content.{Content, heading_bytes, journal_bytes}
use Rattle.journaling.specs.Writing.{judge_content, space_check, put_at, write_journal, written_output}
use Rattle.journaling.proofs.Put.{put_then}

pub length_journal : (x : Content) → length (journal_bytes x) ≡ 11 + length (flat_map entry_bytes x.entries)
unfolding journal_bytes
length_journal x = length-append (heading_bytes x) (flat_map entry_bytes x.entries)

module _ (x : Content) where
  -- A content that is refused before the space is looked at.
  module _ (r : Refusal) (j : judge_content x ≡ Err r) where
    pub refused_as : (space : ℕ) → write_journal space x ≡ Err r
    unfolding write_journal ◌⨾◌
    refused_as space = rw j refl

    pub refused_keeps : (out : List ℕ) → written_output x out ≡ out
    unfolding written_output
    refused_keeps out = rw (refused_as (length out)) refl

  module _ (j : judge_content x ≡ fine) where
    pub few : length x.entries ≤ 1700
    unfolding judge_content
    few = leb-true _ _ (need_true _ _ (fine_second _ _ j))

    module _ (out : List ℕ) (h : length out < length (journal_bytes x)) where
      short_as : write_journal (length out) x ≡ Err (OutputShort (length (journal_bytes x)))
      unfolding write_journal space_check ◌⨾◌ need
      short_as = rw (j, lt-leb _ _ h) refl

      short_keeps : written_output x out ≡ out
      unfolding written_output
      short_keeps = rw short_as refl

    module _ (out : List ℕ) (h : length (journal_bytes x) ≤ length out) where
      pub whole_as : write_journal (length out) x ≡ Ok (length (journal_bytes x))
      unfolding write_journal space_check ◌⨾◌ need
      whole_as = rw (j, le-leb _ _ h) refl

      pub whole_leaves : written_output x out ≡ put_at 0 (journal_bytes x) out
      unfolding written_output
      whole_leaves = rw (whole_as, zero-add) refl

      -- The heading put at the start, and the events behind it.
      both_put : put_at 11 (flat_map entry_bytes x.entries) (put_at 0 (heading_bytes x) out) ≡ written_output x out
      unfolding journal_bytes
      both_put =
          let all : put_at 11 (flat_map entry_bytes x.entries) (put_at 0 (heading_bytes x) out) ≡ put_at 0 (journal_bytes x) out =
          put_then out (heading_bytes x) (flat_map entry_bytes x.entries) 0 (omega (arith, h, length_journal x))
          in
          all ∙ sym whole_leaves

    -- What the function answers and leaves, from the length of the events.
    module _ (n : ℕ) (size : n ≡ length (flat_map entry_bytes x.entries)) (out : List ℕ) where
      pub short_written : length out < 11 + n → (Err (OutputShort (11 + n)) ≡ write_journal (length out) x) × (out ≡ written_output x out)
      short_written h =
          let k : 11 + n ≡ length (journal_bytes x) = omega (arith, size, length_journal x) in
          let l : length out < length (journal_bytes x) = omega (arith, h, k) in
          (rw k (sym (short_as out l)), sym (short_keeps out l))

      pub room : 11 + n ≤ length out → 11 + length (flat_map entry_bytes x.entries) ≤ length out
      room h = omega (arith, h, size)

      pub whole_written :
          (p q : List ℕ) →
          11 + n ≤ length out →
          p ≡ put_at 0 (heading_bytes x) out →
          q ≡ put_at 11 (flat_map entry_bytes x.entries) p →
          (Ok (11 + n) ≡ write_journal (length out) x) × (q ≡ written_output x out)
      whole_written p q h e f =
          let k : 11 + n ≡ length (journal_bytes x) = omega (arith, size, length_journal x) in
          let l : length (journal_bytes x) ≤ length out = omega (arith, h, k) in
          (rw k (sym (whole_as out l)), f ∙ ap (λ (o : List ℕ). put_at 11 (flat_map entry_bytes x.entries) o) e ∙ both_put out l)
