-- The hash, one byte a turn. Assumes nothing.
use Rattle.std.proofs.Common.{◌≡◌, ℕ, ◌+◌, ◌*◌, ◌%◌, ◌^◌, ◌<◌, ◌≤◌, List, length, get_or, drop, sym, ◌∙◌}
use Rattle.std.specs.Prelude.{bit_xor}
use Rattle.std.proofs.lemmas.List.{at_drop_more, at_drop_all}
use Rattle.outputs.specs.Texts.{hash_from}

module _ (s : List ℕ) (whole hash i : ℕ) (so_far : hash_from hash (drop i s) ≡ whole) where
  pub one_byte : i < length s → hash_from (bit_xor hash (get_or s i 0) * 16777619 % 2 ^ 32) (drop (i + 1) s) ≡ whole
  unfolding hash_from
  one_byte lt = sym (at_drop_more (hash_from hash) s i 0 lt) ∙ so_far

  pub no_byte : length s ≤ i → hash ≡ whole
  unfolding hash_from
  no_byte le = sym (at_drop_all (hash_from hash) s i le) ∙ so_far
