-- What is printed of an output.
use Rattle.std.specs.Prelude.{ℕ, ◌*◌, ◌%◌, ◌^◌, Bool, true, false, List, [], ◌∷◌, ◌++◌, Ok, Err, Result, codes, bit_xor}
use Rattle.std.specs.Fmt.{decimal}
use Rattle.refusal.specs.declared.Refusal.{Refusal}
use Rattle.refusal.specs.Table.{refusal_text}

-- The 32-bit FNV-1a hash: of bytes behind those that came to a hash before.
unfoldable pub hash_from : ℕ → List ℕ → ℕ
hash_from hash [] = hash
hash_from hash (b ∷ s) = hash_from (bit_xor hash b * 16777619 % 2 ^ 32) s

abbrev pub hash_of : List ℕ → ℕ
hash_of s = hash_from 2166136261 s

-- "written LENGTH HASH" or "refused NUMBER PLACE HASH".
abbrev pub written_text : Result ℕ Refusal → List ℕ → List ℕ
written_text (Ok n) out = codes "written " ++ (decimal n ++ (codes " " ++ decimal (hash_of out)))
written_text (Err r) out = refusal_text r ++ (codes " " ++ decimal (hash_of out))

-- Whether what was compared is the same.
abbrev pub same_text : Bool → List ℕ
same_text true = codes "same"
same_text false = codes "other"
