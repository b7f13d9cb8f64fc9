-- One bit of a row of bytes is replaced through its byte.
use Rattle.std.proofs.Common.{◌≡◌, ℕ, ◌*◌, ◌/◌, ◌%◌, ◌<◌, List, map, length, get_or, set, sym, ap, ◌∙◌, ⊎_elim, arith, length-set, get_or-set_other, get_or-set_same}
use Rattle.std.specs.List.{range_with_len}
use Rattle.std.proofs.lemmas.Nat.{mod_below, div_below, div-add-mod'}
use Rattle.std.proofs.lemmas.List.FromFn.{length-map-range_with_len, get_or-map-range_with_len}
use Rattle.std.proofs.lemmas.Bool.{cases_eq}
use Rattle.memory.specs.Buffers.{Rebit, bit, bit_at, bits, byte_bits}
use Rattle.memory.proofs.Rows.{row_set}

-- the row of bits
module _ (bytes : List ℕ) where
  pub bits_length : length (bits bytes) ≡ length bytes * byte_bits
  unfolding bits
  bits_length = length-map-range_with_len (bit_at bytes) 0 (length bytes * byte_bits)

  module _ (j : ℕ) (inside : j < length (bits bytes)) where
    in_bytes : j < length bytes * byte_bits
    in_bytes = omega (arith, bits_length)

    pub in_byte : j / byte_bits < length bytes
    in_byte = div_below j byte_bits (length bytes) (omega arith) in_bytes

    pub bits_at : get_or (bits bytes) j 0 ≡ bit_at bytes j
    unfolding bits
    bits_at = get_or-map-range_with_len (bit_at bytes) 0 (length bytes * byte_bits) j j 0 in_bytes (omega arith)

    module _ (byte v : ℕ) (re : Rebit (get_or bytes (j / byte_bits) 0) (j % byte_bits) v byte) where
      same_byte : (k : ℕ) → k / byte_bits ≡ j / byte_bits → (k ≡ j → ⊥) → bit (k % byte_bits) byte ≡ bit_at bytes k
      same_byte k e apart =
          re.elsewhere (k % byte_bits) (mod_below k byte_bits (omega arith)) (λ r. apart (omega (arith, e, r, div-add-mod' k byte_bits, div-add-mod' j byte_bits)))
          ∙ ap (λ n. bit (k % byte_bits) (get_or bytes n 0)) (sym e)

      other : (k : ℕ) → (k ≡ j → ⊥) → bit_at (set bytes (j / byte_bits) byte) k ≡ bit_at bytes k
      other k apart =
          ⊎_elim
          (λ (e : k / byte_bits ≡ j / byte_bits).
          ap (λ n. bit (k % byte_bits) (get_or (set bytes (j / byte_bits) byte) n 0)) e ∙ ap (bit (k % byte_bits)) (get_or-set_same bytes (j / byte_bits) byte 0 in_byte) ∙ same_byte k e apart)
          (λ (ne : k / byte_bits ≡ j / byte_bits → ⊥). ap (bit (k % byte_bits)) (get_or-set_other bytes (j / byte_bits) (k / byte_bits) byte 0 ne))
          (cases_eq (k / byte_bits) (j / byte_bits))

      -- a byte with one bit replaced is the row with one cell replaced
      pub bits_set : bits (set bytes (j / byte_bits) byte) ≡ set (bits bytes) j v
      unfolding bits
      bits_set =
          ap (λ m. map (bit_at (set bytes (j / byte_bits) byte)) (range_with_len 0 (m * byte_bits))) (length-set bytes (j / byte_bits) byte)
          ∙ row_set (bit_at bytes) (bit_at (set bytes (j / byte_bits) byte)) (length bytes * byte_bits) j v in_bytes
          (ap (bit (j % byte_bits)) (get_or-set_same bytes (j / byte_bits) byte 0 in_byte) ∙ re.there) (λ k h. other k)
